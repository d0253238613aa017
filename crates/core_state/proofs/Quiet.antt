-- What came to be known quietly goes on, and leaves words as they were.
use Rattle.std.proofs.Common.{◌≡◌, ℕ, suc, ◌<◌, List, [], ◌∷◌, ◌++◌, Option, length, get_or, take, drop, append_assoc, refl, ap, sym, ◌∙◌, subst, arith}
use Rattle.std.proofs.lemmas.List.{append-nil, length-append, set-get_or, set_split}
use Rattle.word_map.specs.declared.config.Config.{Config}
use Rattle.word_map.specs.declared.name.Name.{Name}
use Rattle.core_state.specs.declared.item.Item.{Item}
use Rattle.core_state.specs.declared.view.Joined.{Joined}
use Rattle.core_state.specs.declared.view.View.{View}
use Rattle.core_state.specs.View.{known_word}
use Rattle.core_state.specs.Log.{word}
use Rattle.core_state.specs.Guards.{Owns, by_lock, by_creation, by_batch, by_mark, by_node, by_update, IsQuiet}
use Rattle.core_state.specs.Quietly.{KnowsQuietly, IsSteady, of_pass, of_live}
use Rattle.core_state.proofs.Reading.{word-none}
use Rattle.core_state.proofs.Guarding.{live-since}

-- ---- lists

-- a cut of two lists in a row is in the first or in the second
pub data CutOf {X : Type 0} (xs ys early later : List X) (x : X) : Type 0 where
  in_first : (rest : List X) → xs ≡ early ++ x ∷ rest → CutOf xs ys early later x
  in_second : (front : List X) → early ≡ xs ++ front → ys ≡ front ++ x ∷ later → CutOf xs ys early later x

pub append_cut : {X : Type 0} (xs ys early later : List X) (x : X) → xs ++ ys ≡ early ++ x ∷ later → CutOf xs ys early later x
append_cut [] ys early later x e = in_second early refl e
append_cut (z ∷ xs) ys [] later x e =
    let head : z ≡ x = ap (λ l. get_or l 0 x) e in
    in_first xs (λ i. head i ∷ xs)
append_cut (z ∷ xs) ys (f ∷ early) later x e =
    let head : z ≡ f = ap (λ l. get_or l 0 x) e in
    let tail = ap (drop 1) e in
    elim (append_cut xs ys early later x tail) [
      | in_first rest p ↦ in_first rest (λ i. head i ∷ p i)
      | in_second front p q ↦ in_second front (λ i. sym head i ∷ p i) q
    ]

-- a list of one item is cut at this one
pub one_cut : {X : Type 0} (one x : X) (early later : List X) → one ∷ [] ≡ early ++ x ∷ later → x ≡ one
one_cut one x [] later e = sym (ap (λ l. get_or l 0 x) e)
one_cut one x (f ∷ early) later e = let lengths = ap length e in absurd (omega (arith, length-append early (x ∷ later)))

pub no_cut : {X : Type 0} (x : X) (early later : List X) → [] ≡ early ++ x ∷ later → ⊥
no_cut x early later e = let lengths = ap length e in omega (arith, length-append early (x ∷ later))

-- a list is cut at each of its elements
pub cut_at : {X : Type 0} (xs : List X) (k : ℕ) (d : X) → k < length xs → xs ≡ take k xs ++ get_or xs k d ∷ drop (suc k) xs
cut_at xs k d below = sym (set-get_or xs k d) ∙ set_split xs k (get_or xs k d) below

-- ---- what is known is no matter for what a pass has for itself

unknown-owned : (c : Config) (view : View) (known : List Item) (joined : Option Joined) (name : Name) → Owns c view name → Owns c (record view { known = known; joined = joined }) name
unknown-owned c view known joined name (by_lock lock mode holds e) = by_lock lock mode holds e
unknown-owned c view known joined name (by_creation i e h) = by_creation i e h
unknown-owned c view known joined name (by_batch batch among e) = by_batch batch among e
unknown-owned c view known joined name (by_mark batch m among marked h) = by_mark batch m among marked h
unknown-owned c view known joined name (by_node n among e) = by_node n among e
unknown-owned c view known joined name (by_update h) = by_update h

pub unknown-quiet : (c : Config) (view : View) (known : List Item) (joined : Option Joined) (first : List Item) (item : Item) → IsQuiet c (record view { known = known; joined = joined }) first item
    → IsQuiet c view first item
unknown-quiet c view known joined first item quiet = record { others = λ owns. quiet.others (unknown-owned c view known joined item.name owns); body = quiet.body; location = quiet.location }

-- ---- what came quietly

pub KnowsQuietly-refl : (view : View) → KnowsQuietly view view
KnowsQuietly-refl view = record { since = []; known = sym (append-nil view.known); quiet = λ early later item parts. absurd (no_cut item early later parts) }

pub KnowsQuietly-trans : (view mid next : View) → mid ≡ record view { known = mid.known; joined = mid.joined } → KnowsQuietly view mid → KnowsQuietly mid next → KnowsQuietly view next
KnowsQuietly-trans view mid next rest one two = record {
  since = one.since ++ two.since;
  known = two.known ∙ (ap (λ (l : List Item). l ++ two.since) one.known ∙ append_assoc view.known one.since two.since);
  quiet = λ early later item parts.
      elim (append_cut one.since two.since early later item parts) [
        | in_first later_one p ↦ one.quiet early later_one item p
        | in_second front p q ↦
            let same : mid.known ++ front ≡ view.known ++ early =
            ap (λ (l : List Item). l ++ front) one.known ∙ (append_assoc view.known one.since front ∙ ap (λ (l : List Item). view.known ++ l) (sym p))
            in
            let there = subst (λ (v : View). IsQuiet v.config v (mid.known ++ front) item) rest (two.quiet front later item q) in
            unknown-quiet view.config view mid.known mid.joined (view.known ++ early) item
            (subst (λ (l : List Item). IsQuiet view.config (record view { known = mid.known; joined = mid.joined }) l item) same there)
      ];
}

-- what came so leaves steady words as they were
pub steady-since : (view : View) (since : List Item) (name : Name) → ((early later : List Item) (item : Item) → since ≡ early ++ item ∷ later → IsQuiet view.config view (view.known ++ early) item)
    → IsSteady view name → word view.config (view.known ++ since) name ≡ known_word view name
steady-since view since name quiet (of_pass owns) =
    word-none view.config view.known since name
    (λ k d below names. (quiet (take k since) (drop (suc k) since) (get_or since k d) (cut_at since k d below)).others (subst (Owns view.config view) (sym names) owns))
steady-since view since name quiet (of_live index mode holds live of_body) = live-since view.config view index mode holds view.known since quiet live name of_body

pub quiet-word : (view next : View) (name : Name) → KnowsQuietly view next → next.config ≡ view.config → IsSteady view name → known_word next name ≡ known_word view name
quiet-word view next name came sizes steady = (λ i. word (sizes i) (came.known i) name) ∙ steady-since view came.since name came.quiet steady
