-- Names and their places.
use Rattle.std.proofs.Common.{◌≡◌, ℕ, suc, ◌+◌, Bool, true, false, ◌&&◌, cond, List, [], ◌∷◌, ◌++◌, length, map, Option, Some, None, is_some, refl, sym, ap, ◌∙◌, inl, inr, arith, ltb, leb, length-append, Vec}
use Rattle.std.specs.Str.{bytes_eq}
use Rattle.std.specs.List.{list_any, list_all}
use Rattle.std.specs.declared.cmp.Ordering.{Ordering}
use Rattle.std.specs.declared.cmp.Ordering.TheVariants.{Less, Equal, Greater}
use Rattle.std.specs.Ordering.{is_eq, nat_cmp}
use Rattle.std.specs.Cmp.{eq_by_cmp_equiv}
use Rattle.std.specs.Cmp.Lexicographic.{slice_cmp, nat_list_eq_equiv, nat_list_cmp_total}
use Rattle.std.specs.BTreeMap as tree
use Rattle.std.specs.BTreeMap.{BTreeMap, insert_entry}
use Rattle.std.specs.Map.{lookup, IsKeyTest, AreApart, KeepsOthers}
use Rattle.std.proofs.lemmas.Map.Text.{is_eq-slice_cmp}
use Rattle.std.proofs.lemmas.List.{map_push, length-map}
use Rattle.std.proofs.lemmas.List.Folds.{list_all-append}
use Rattle.std.proofs.lemmas.Slice.Eq.{bytes_eq-Decides}
use Rattle.std.proofs.lemmas.Bool.{cases_Bool}
use Rattle.std.proofs.lemmas.Bool.Decides.{nat_tests}
use Rattle.script_text.specs.Name.{is_among, add_name}
use Rattle.script_text.specs.Place.{place_from, place_of, put_by_place, by_place, are_below, names_of, noted_at, IsIndex}

abbrev or_else : Option ℕ → Option ℕ → Option ℕ
or_else None o = o
or_else (Some i) o = Some i

or_none : (o : Option ℕ) → or_else o None ≡ o
or_none None = refl
or_none (Some i) = refl

-- one name more at the end
place_push : (n : ℕ) (names : List (List ℕ)) (name word : List ℕ)
    → place_from n (names ++ name ∷ []) word ≡ or_else (place_from n names word) (cond (bytes_eq word name) (Some (n + length names)) None)
place_push n [] name word = let e : n + 0 ≡ n = omega arith in rw e refl
place_push n (x ∷ names) name word =
    elim (cases_Bool (bytes_eq word x)) [
      | inl same ↦ rw same refl
      | inr other ↦ let e : n + 1 + length names ≡ n + suc (length names) = omega arith in
          rw other (place_push (n + 1) names name word ∙ ap (λ (k : ℕ). or_else (place_from (n + 1) names word) (cond (bytes_eq word name) (Some k) None)) e)
    ]

-- a word has a place just where it is among the names
has_place : (n : ℕ) (names : List (List ℕ)) (word : List ℕ) → is_some (place_from n names word) ≡ list_any (bytes_eq word) names
has_place n [] word = refl
has_place n (x ∷ names) word =
    elim (cases_Bool (bytes_eq word x)) [
      | inl same ↦ rw same refl
      | inr other ↦ rw other (has_place (n + 1) names word)
    ]

pub is_among_by_place : (names : List (List ℕ)) (word : List ℕ) → is_some (place_of names word) ≡ is_among names word
is_among_by_place names word = has_place 0 names word

none_of : (o : Option ℕ) → is_some o ≡ false → o ≡ None
none_of None h = refl
none_of (Some i) h = absurd cc

symmetric : (a b : List ℕ) → bytes_eq a b ≡ bytes_eq b a
symmetric a b = nat_list_eq_equiv.symm a b

both : (a b : Bool) → (a && b) ≡ true → (a ≡ true) × (b ≡ true)
both a b h = grind arith

swapped : (a b c : Bool) → (a && (b && c)) ≡ (b && (a && c))
swapped a b c = grind arith

-- entries in the order of their places
module _ {K : Type 0} where
  -- the last one
  put_last : (e : K × ℕ) (fs : List (K × ℕ)) → are_below e.1 fs ≡ true → put_by_place e fs ≡ fs ++ e ∷ []
  put_last e [] h = refl
  put_last e (f ∷ fs) h =
      let p = both (ltb f.1 e.1) (are_below e.1 fs) h in
      let after : leb e.1 f.1 ≡ false = grind (arith, nat_tests) in
      rw after (ap (λ (rest : List (K × ℕ)). f ∷ rest) (put_last e fs p.1))

  -- one in front of the last one
  put_before : (e last : K × ℕ) (fs : List (K × ℕ)) → ltb e.1 last.1 ≡ true → put_by_place e (fs ++ last ∷ []) ≡ put_by_place e fs ++ last ∷ []
  put_before e last [] h = let before : leb e.1 last.1 ≡ true = grind (arith, nat_tests) in rw before refl
  put_before e last (f ∷ fs) h =
      elim (cases_Bool (leb e.1 f.1)) [
        | inl before ↦ rw before refl
        | inr after ↦ rw after (ap (λ (rest : List (K × ℕ)). f ∷ rest) (put_before e last fs h))
      ]

  -- what holds of all, and how many they are, is the same in any order
  all_put : (p : K × ℕ → Bool) (e : K × ℕ) (fs : List (K × ℕ)) → list_all p (put_by_place e fs) ≡ (p e && list_all p fs)
  all_put p e [] = refl
  all_put p e (f ∷ fs) =
      elim (cases_Bool (leb e.1 f.1)) [
        | inl before ↦ rw before refl
        | inr after ↦ rw after (ap (λ (b : Bool). p f && b) (all_put p e fs) ∙ swapped (p f) (p e) (list_all p fs))
      ]

  all_by_place : (p : K × ℕ → Bool) (es : List (K × ℕ)) → list_all p (by_place es) ≡ list_all p es
  all_by_place p [] = refl
  all_by_place p (e ∷ es) = all_put p e (by_place es) ∙ ap (λ (b : Bool). p e && b) (all_by_place p es)

  length_put : (e : K × ℕ) (fs : List (K × ℕ)) → length (put_by_place e fs) ≡ suc (length fs)
  length_put e [] = refl
  length_put e (f ∷ fs) =
      elim (cases_Bool (leb e.1 f.1)) [
        | inl before ↦ rw before refl
        | inr after ↦ rw after (ap suc (length_put e fs))
      ]

  length_by_place : (es : List (K × ℕ)) → length (by_place es) ≡ length es
  length_by_place [] = refl
  length_by_place (e ∷ es) = length_put e (by_place es) ∙ ap suc (length_by_place es)

  -- an entry more with a new key and the last place, by how its key compares to the first one
  with_first : (cmp : K → K → Ordering) (k : K) (v : ℕ) (e : K × ℕ) (es : List (K × ℕ)) (o : Ordering) → cmp k e.0 ≡ o
      → lookup (λ x. is_eq (cmp k x)) (e ∷ es) ≡ None → ltb e.1 v ≡ true → are_below v (by_place (e ∷ es)) ≡ true
      → (lookup (λ x. is_eq (cmp k x)) es ≡ None → by_place (insert_entry cmp es k v) ≡ by_place es ++ (k, v) ∷ [])
      → by_place (insert_entry cmp (e ∷ es) k v) ≡ by_place (e ∷ es) ++ (k, v) ∷ []
  with_first cmp k v e es Less is absent first below rest = rw is (put_last (k, v) (by_place (e ∷ es)) below)
  with_first cmp k v e es Equal is absent first below rest = absurd (let found = rw is at absent in cc)
  with_first cmp k v e es Greater is absent first below rest =
      let later : lookup (λ x. is_eq (cmp k x)) es ≡ None = rw is at absent in
      rw is (ap (put_by_place e) (rest later) ∙ put_before e (k, v) (by_place es) first)

  -- an entry more with a new key and the last place
  by_place_insert : (cmp : K → K → Ordering) (k : K) (v : ℕ) (es : List (K × ℕ)) → lookup (λ x. is_eq (cmp k x)) es ≡ None → are_below v es ≡ true
      → by_place (insert_entry cmp es k v) ≡ by_place es ++ (k, v) ∷ []
  by_place_insert cmp k v [] absent below = refl
  by_place_insert cmp k v (e ∷ es) absent below =
      let p = both (ltb e.1 v) (are_below v es) below in
      with_first cmp k v e es (cmp k e.0) refl absent p.0 (all_by_place (λ f. ltb f.1 v) (e ∷ es) ∙ below) (λ rest. by_place_insert cmp k v es rest p.1)

  below_next : (n : ℕ) (es : List (K × ℕ)) → are_below n es ≡ true → are_below (suc n) es ≡ true
  below_next n [] h = refl
  below_next n (e ∷ es) h =
      let p = both (ltb e.1 n) (are_below n es) h in
      let less : ltb e.1 (suc n) ≡ true = grind (arith, nat_tests) in
      rw less (below_next n es p.1)

-- no names have no places
pub index_none : {A : Type 0} (places : BTreeMap (Vec ℕ A) ℕ) → tree.IsEmpty places → IsIndex places
index_none places none = record { at = λ word. rw none refl; below = rw none refl }

pub names_same : {A : Type 0} (old new : BTreeMap (Vec ℕ A) ℕ) → tree.IsUnchanged old new → names_of new ≡ names_of old
names_same {A = A} old new e = ap (λ (es : List (Vec ℕ A × ℕ)). map (λ e. e.0.items) (by_place es)) e

pub index_same : {A : Type 0} (old new : BTreeMap (Vec ℕ A) ℕ) → IsIndex old → tree.IsUnchanged old new → IsIndex new
index_same old new index e = record { at = λ word. rw e (index.at word); below = rw e index.below }

others : {K X : Type 0} (eq : K → K → Bool) (test : K → Bool) (old new : List (K × X)) → KeepsOthers eq test old new
    → (other : K → Bool) → IsKeyTest eq other → AreApart test other → lookup other new ≡ lookup other old
unfolding KeepsOthers
others eq test old new h = h

apart : (name word key : List ℕ) → bytes_eq name word ≡ false → is_eq (slice_cmp nat_cmp name key) ≡ true → is_eq (slice_cmp nat_cmp word key) ≡ false
apart name word key other same =
    let equal : bytes_eq name key ≡ true = sym (is_eq-slice_cmp name key) ∙ same in
    is_eq-slice_cmp word key ∙ (nat_list_eq_equiv.symm word key ∙ (sym (nat_list_eq_equiv.congr name key word equal) ∙ other))

-- what a map has at each word, after a place was put at a name
noted : {A : Type 0} (old new : BTreeMap (Vec ℕ A) ℕ) (key : Vec ℕ A) (place : ℕ)
    → tree.Updates (λ x y. slice_cmp nat_cmp x.items y.items) old new key (Some place)
    → (word : List ℕ) → noted_at new word ≡ cond (bytes_eq key.items word) (Some place) (noted_at old word)
noted old new key place h word =
    elim (cases_Bool (bytes_eq key.items word)) [
      | inl same ↦ let is : key.items ≡ word = (bytes_eq-Decides key.items word).0 same in rw (same, ← is) h.1
      | inr other ↦
          rw other (others _ _ _ _ h.3 (λ k. is_eq (slice_cmp nat_cmp word k.items)) (λ x y. (eq_by_cmp_equiv nat_list_cmp_total).congr word x.items y.items) (λ k. apart key.items word k.items other))
    ]

-- where a name is not among those of a map, the map has no place of it
no_place : {A : Type 0} (places : BTreeMap (Vec ℕ A) ℕ) (name : List ℕ) → IsIndex places → is_among (names_of places) name ≡ false → noted_at places name ≡ None
no_place places name index absent = index.at name ∙ none_of (place_of (names_of places) name) (is_among_by_place (names_of places) name ∙ absent)

-- a name more, where it was not among them
more : {A : Type 0} (old new : BTreeMap (Vec ℕ A) ℕ) (key : Vec ℕ A) → IsIndex old → is_among (names_of old) key.items ≡ false
    → new.entries ≡ insert_entry (λ x y. slice_cmp nat_cmp x.items y.items) old.entries key (length old.entries)
    → by_place new.entries ≡ by_place old.entries ++ (key, length old.entries) ∷ []
more old new key index absent e =
    ap by_place e ∙ by_place_insert (λ x y. slice_cmp nat_cmp x.items y.items) key (length old.entries) old.entries (no_place old key.items index absent) index.below

names_with : {A : Type 0} (old new : BTreeMap (Vec ℕ A) ℕ) (key : Vec ℕ A) → IsIndex old → is_among (names_of old) key.items ≡ false
    → new.entries ≡ insert_entry (λ x y. slice_cmp nat_cmp x.items y.items) old.entries key (length old.entries)
    → names_of new ≡ names_of old ++ key.items ∷ []
names_with {A = A} old new key index absent e =
    ap (λ (es : List (Vec ℕ A × ℕ)). map (λ e. e.0.items) es) (more old new key index absent e) ∙ map_push (λ e. e.0.items) (by_place old.entries) (key, length old.entries)

-- the place of each word among one name more
at_each : {A : Type 0} (old : BTreeMap (Vec ℕ A) ℕ) (key : Vec ℕ A) → IsIndex old → is_among (names_of old) key.items ≡ false → length (names_of old) ≡ length old.entries
    → (word : List ℕ) → place_of (names_of old ++ key.items ∷ []) word ≡ cond (bytes_eq key.items word) (Some (length old.entries)) (noted_at old word)
at_each old key index absent long word =
    elim (cases_Bool (bytes_eq key.items word)) [
      | inl same ↦
          let e : key.items ≡ word = (bytes_eq-Decides key.items word).0 same in
          let none : place_of (names_of old) word ≡ None = none_of (place_of (names_of old) word) (is_among_by_place (names_of old) word ∙ (ap (is_among (names_of old)) (sym e) ∙ absent)) in
          let known : bytes_eq word key.items ≡ true = symmetric word key.items ∙ same in
          let end : 0 + length (names_of old) ≡ length old.entries = omega (arith, long) in
          rw same (place_push 0 (names_of old) key.items word ∙ rw (none, known, end) refl)
      | inr other ↦
          let unlike : bytes_eq word key.items ≡ false = symmetric word key.items ∙ other in
          rw other (place_push 0 (names_of old) key.items word ∙ (rw (unlike, or_none (place_of (names_of old) word)) (sym (index.at word))))
    ]

pub names_more : {A : Type 0} (old new : BTreeMap (Vec ℕ A) ℕ) (key : Vec ℕ A) (name : List ℕ) (place : ℕ) → IsIndex old → is_among (names_of old) name ≡ false
    → key.items ≡ name → place ≡ length old.entries → new.entries ≡ insert_entry (λ x y. slice_cmp nat_cmp x.items y.items) old.entries key place
    → names_of new ≡ add_name (names_of old) name
names_more old new key name place index absent is at_end e =
    let missing : is_among (names_of old) key.items ≡ false = ap (is_among (names_of old)) is ∙ absent in
    rw absent (names_with old new key index missing (rw at_end at e) ∙ ap (λ (n : List ℕ). names_of old ++ n ∷ []) is)

pub index_more : {A : Type 0} (old new : BTreeMap (Vec ℕ A) ℕ) (key : Vec ℕ A) (name : List ℕ) (place : ℕ) → IsIndex old → is_among (names_of old) name ≡ false
    → key.items ≡ name → place ≡ length old.entries → new.entries ≡ insert_entry (λ x y. slice_cmp nat_cmp x.items y.items) old.entries key place
    → tree.Updates (λ x y. slice_cmp nat_cmp x.items y.items) old new key (Some place) → IsIndex new
index_more old new key name place index absent is at_end e updates =
    let missing : is_among (names_of old) key.items ≡ false = ap (is_among (names_of old)) is ∙ absent in
    let inserted = rw at_end at e in
    let names = names_with old new key index missing inserted in
    let ordered = more old new key index missing inserted in
    let long : length new.entries ≡ suc (length old.entries) =
    sym (length_by_place new.entries) ∙ (ap length ordered ∙ omega (arith, length-append (by_place old.entries) ((key, length old.entries) ∷ []), length_by_place old.entries)) in
    let known : length (names_of old) ≡ length old.entries = length-map (by_place old.entries) (λ e. e.0.items) ∙ length_by_place old.entries in
    let old_below : are_below (suc (length old.entries)) (by_place old.entries) ≡ true = all_by_place _ old.entries ∙ below_next (length old.entries) old.entries index.below in
    let last_below : ltb (length old.entries) (suc (length old.entries)) ≡ true = grind (arith, nat_tests) in
    let all_below : are_below (suc (length old.entries)) (by_place old.entries ++ (key, length old.entries) ∷ []) ≡ true =
    list_all-append (λ f. ltb f.1 (suc (length old.entries))) (by_place old.entries) ((key, length old.entries) ∷ []) ∙ rw (old_below, last_below) refl in
    record {
      at = λ word. noted old new key (length old.entries) (rw at_end at updates) word ∙ sym (ap (λ (ns : List (List ℕ)). place_of ns word) names ∙ at_each old key index missing known word);
      below = rw long (sym (all_by_place _ new.entries) ∙ (ap (are_below (suc (length old.entries))) ordered ∙ all_below));
    }
