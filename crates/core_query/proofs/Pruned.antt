-- A walk whose shape is clear of the layers that it asks: of each tree it reads the root alone.
use Rattle.std.proofs.Common.{◌≡◌, ℕ, zero, suc, ◌+◌, ◌-◌, ◌*◌, ◌<◌, ◌≤◌, List, [], ◌∷◌, ◌++◌, Option, Some, None, false, length, refl, ap, sym, ◌∙◌, subst, inl, inr, arith, append_assoc}
use Rattle.std.specs.Prelude.{Contains, fold, map, ◌==◌, IfSome, nat_le}
use Rattle.std.specs.List.{range_with_len}
use Rattle.std.proofs.lemmas.Bool.{cases_Bool, cond_both}
use Rattle.std.proofs.lemmas.Option.{none-some}
use Rattle.std.proofs.lemmas.List.{length-append}
use Rattle.std.proofs.lemmas.List.Sums.{fold-append}
use Rattle.word_map.specs.declared.name.Name.{Name}
use Rattle.word_map.specs.declared.name.Name.TheVariants.{Child, Bound, Main, Slot}
use Rattle.core_state.specs.declared.item.Load.{Load}
use Rattle.core_state.specs.declared.view.Waiting.{Waiting}
use Rattle.core_state.specs.Encoding.{Sides, sides_of, layer_of}
use Rattle.core_state.specs.Scope.{Sight}
use Rattle.core_state.specs.Space.{IsInLayer, IsInSpace, IsSideIn}
use Rattle.core_state.specs.Walking.{Query, waiting}
use Rattle.core_state.specs.ReadersCounted.{layer_after}
use Rattle.core_query.specs.WholeRecord.{ReadChild, six_words, side_load, child_loads, node_loads, node_to_walk, nodes_to_walk, nodes_named, IsWholeRecord, nothing_left, of_word, of_node}
use Rattle.core_query.specs.Clear.{IsClearOf}

-- four lists that are empty, joined
none-joined : {X : Type 0} (a b c d : List X) → a ≡ [] → b ≡ [] → c ≡ [] → d ≡ [] → a ++ (b ++ (c ++ (d ++ []))) ≡ []
none-joined a b c d p q r s = rw (p, q, r, s) refl

-- ---- how many loads

child-few : (n k : ℕ) (child : ReadChild) → length (child_loads n k child) ≤ 7
child-few n k child =
    elim (cases_Bool (child.word == 0)) [
      | inl none ↦ rw none (omega arith)
      | inr some ↦ rw some (omega arith)
    ]

four-few : (a b c d : List Load) → length a ≤ 7 → length b ≤ 7 → length c ≤ 7 → length d ≤ 7 → length (a ++ (b ++ (c ++ (d ++ [])))) ≤ 28
four-few a b c d p q r s = omega (arith, length-append {A = Load})

pub node-few : (n : ℕ) (children : ℕ → ReadChild) → length (node_loads n children) ≤ 28
node-few n children =
    four-few (child_loads n 0 (children 0)) (child_loads n 1 (children 1)) (child_loads n 2 (children 2)) (child_loads n 3 (children 3))
    (child-few n 0 (children 0)) (child-few n 1 (children 1)) (child-few n 2 (children 2)) (child-few n 3 (children 3))

pub named-few : (name : Name) (value : ℕ) → length (nodes_named name value) ≤ 1
named-few (Main l) zero = omega arith
named-few (Main l) (suc root) = omega arith
named-few (Slot l t) value =
    cond_both (nat_le 1024 value) (waiting (value - 1024) 1 ∷ []) [] (λ (roots : List Waiting). length (map (λ w. w.node) roots) ≤ 1) (λ e. omega arith) (λ e. omega arith)
named-few _ value = omega arith

-- ---- the layer at hand

-- a main word or slot that is read is of the layer then at hand
pub word-layer : (o : Option ℕ) (name : Name) (value l : ℕ) → layer_of name ≡ Some l → layer_after o (record { name = name; value = value }) ≡ Some l
word-layer o (Main m) value l e = e
word-layer o (Slot m t) value l e = e
word-layer o _ value l e = absurd (none-some l e)

-- a load that is of no layer leaves the layer at hand
pub same-layer : (o : Option ℕ) (name : Name) (value : ℕ) → layer_of name ≡ None → layer_after o (record { name = name; value = value }) ≡ o
same-layer o (Main l) value e = absurd (none-some l (sym e))
same-layer o (Slot l t) value e = absurd (none-some l (sym e))
same-layer o _ value e = refl

-- the loads of a child leave it
child-layer : (o : Option ℕ) (n k : ℕ) (child : ReadChild) → fold layer_after o (child_loads n k child) ≡ o
child-layer o n k child =
    elim (cases_Bool (child.word == 0)) [
      | inl none ↦ rw none refl
      | inr some ↦ rw some refl
    ]

-- ---- sides that lie in the space of the layer at hand

module _ (s : Sight) where
  -- each side that was read, where before the first of these loads this layer was at hand
  pub record LiesFrom (o : Option ℕ) (loads : List Load) : Type 0 where
    pub sides : (before later : List Load) (n k q value : ℕ) → loads ≡ before ++ record { name = Bound n k q; value = value } ∷ later
        → IfSome (fold layer_after o before) (λ l. IsSideIn (IsInLayer s l) q value)

  pub lies-later : (o : Option ℕ) (front loads : List Load) → LiesFrom o (front ++ loads) → LiesFrom (fold layer_after o front) loads
  lies-later o front loads h = record {
    sides = λ before later n k q value e.
        subst (λ (p : Option ℕ). IfSome p (λ l. IsSideIn (IsInLayer s l) q value)) (fold-append layer_after o front before)
        (h.sides (front ++ before) later n k q value (ap (λ (x : List Load). front ++ x) e ∙ sym (append_assoc front before (record { name = Bound n k q; value = value } ∷ later))));
  }

  -- two sides, across from one another
  across : (l q : ℕ) (b : Sides) → q < 3 → IsSideIn (IsInLayer s l) q (b q) → IsSideIn (IsInLayer s l) (3 + q) (b (3 + q))
      → ((side : ℕ) × IsInLayer s l q side × (side ≤ b q)) × ((side : ℕ) × IsInLayer s l (3 + q) side × (b (3 + q) ≤ side))
  across l q b low first second = ((first.0, first.1, first.2 low), (second.0, second.1, second.3 (omega arith)))

  -- six sides that were read one after the other are a bound in the space
  module _ (l n k x : ℕ) (bound : Sides) (later : List Load) (h : LiesFrom (Some l) (record { name = Child n k; value = x } ∷ (map (side_load n k bound) (range_with_len 0 6) ++ later))) where
    abbrev word : Load
    word = record { name = Child n k; value = x }

    abbrev at : ℕ → Load
    at q = side_load n k bound q

    bound-lies : IsInSpace s l (sides_of (six_words bound))
    bound-lies zero low =
        across l 0 (sides_of (six_words bound)) low (h.sides (word ∷ []) (at 1 ∷ at 2 ∷ at 3 ∷ at 4 ∷ at 5 ∷ later) n k 0 (bound 0) refl)
        (h.sides (word ∷ at 0 ∷ at 1 ∷ at 2 ∷ []) (at 4 ∷ at 5 ∷ later) n k 3 (bound 3) refl)
    bound-lies (suc zero) low =
        across l 1 (sides_of (six_words bound)) low (h.sides (word ∷ at 0 ∷ []) (at 2 ∷ at 3 ∷ at 4 ∷ at 5 ∷ later) n k 1 (bound 1) refl)
        (h.sides (word ∷ at 0 ∷ at 1 ∷ at 2 ∷ at 3 ∷ []) (at 5 ∷ later) n k 4 (bound 4) refl)
    bound-lies (suc (suc zero)) low =
        across l 2 (sides_of (six_words bound)) low (h.sides (word ∷ at 0 ∷ at 1 ∷ []) (at 3 ∷ at 4 ∷ at 5 ∷ later) n k 2 (bound 2) refl)
        (h.sides (word ∷ at 0 ∷ at 1 ∷ at 2 ∷ at 3 ∷ at 4 ∷ []) later n k 5 (bound 5) refl)
    bound-lies (suc (suc (suc q))) low = absurd (omega arith)

  module _ (query : Query) (l : ℕ) (clear : IsClearOf s query.shape l) where
    -- words in the space are no box that touches
    untouched : (words : List ℕ) → IsInSpace s l (sides_of words) → query.test words ≡ false
    untouched words inside =
        elim (cases_Bool (query.test words)) [
          | inr untested ↦ untested
          | inl tested ↦ let t = (query.tests words).0 tested in absurd (clear t.0 (subst (λ (ws : List ℕ). IsInSpace s l (sides_of ws)) (sym t.1) inside) t.2)
        ]

    -- of a child that was read, and then of a node: nothing is to be walked
    pub child-untouched : (n k : ℕ) (child : ReadChild) (later : List Load) → (child.word == 0) ≡ false → LiesFrom (Some l) (child_loads n k child ++ later) → query.test (six_words child.bound) ≡ false
    child-untouched n k child later some h = untouched (six_words child.bound) (bound-lies l n k child.word child.bound later (rw some at h))

    child-ends : (n k : ℕ) (child : ReadChild) (later : List Load) → LiesFrom (Some l) (child_loads n k child ++ later) → node_to_walk query child ≡ []
    child-ends n k child later h =
        elim (cases_Bool (child.word == 0)) [
          | inl none ↦ rw none refl
          | inr some ↦ rw (some, child-untouched n k child later some h) refl
        ]

    child-later : (n k : ℕ) (child : ReadChild) (later : List Load) → LiesFrom (Some l) (child_loads n k child ++ later) → LiesFrom (Some l) later
    child-later n k child later h = subst (λ (o : Option ℕ). LiesFrom o later) (child-layer (Some l) n k child) (lies-later (Some l) (child_loads n k child) later h)

    -- of a node that was read nothing is to be walked, and no child's bound touches
    pub record EndsAt (children : ℕ → ReadChild) (later : List Load) : Type 0 where
      pub nodes : nodes_to_walk query children ≡ []
      pub lies : LiesFrom (Some l) later
      pub untouched : (k : ℕ) → k < 4 → ((children k).word == 0) ≡ false → query.test (six_words (children k).bound) ≡ false

    pub node-ends : (n : ℕ) (children : ℕ → ReadChild) (later : List Load) → LiesFrom (Some l) (node_loads n children ++ later) → EndsAt children later
    node-ends n children later h =
        let a = child_loads n 0 (children 0) in
        let b = child_loads n 1 (children 1) in
        let c = child_loads n 2 (children 2) in
        let d = child_loads n 3 (children 3) in
        let p : LiesFrom (Some l) (a ++ (b ++ (c ++ (d ++ later)))) = subst (LiesFrom (Some l)) (four-split a b c d later) h in
        let q = child-later n 0 (children 0) (b ++ (c ++ (d ++ later))) p in
        let r = child-later n 1 (children 1) (c ++ (d ++ later)) q in
        let t = child-later n 2 (children 2) (d ++ later) r in
        record {
          nodes =
              none-joined (node_to_walk query (children 3)) (node_to_walk query (children 2)) (node_to_walk query (children 1)) (node_to_walk query (children 0))
              (child-ends n 3 (children 3) later t) (child-ends n 2 (children 2) (d ++ later) r) (child-ends n 1 (children 1) (c ++ (d ++ later)) q) (child-ends n 0 (children 0) (b ++ (c ++ (d ++ later))) p);
          lies = child-later n 3 (children 3) later t;
          untouched = λ k low some.
              each k low some (λ e. child-untouched n 0 (children 0) (b ++ (c ++ (d ++ later))) e p) (λ e. child-untouched n 1 (children 1) (c ++ (d ++ later)) e q)
              (λ e. child-untouched n 2 (children 2) (d ++ later) e r) (λ e. child-untouched n 3 (children 3) later e t);
        }
      where
        four-split : (a b c d later : List Load) → (a ++ (b ++ (c ++ (d ++ [])))) ++ later ≡ a ++ (b ++ (c ++ (d ++ later)))
        four-split a b c d later = simp append_assoc

        Untouched : ℕ → Type 0
        Untouched k = ((children k).word == 0) ≡ false → query.test (six_words (children k).bound) ≡ false

        each : (k : ℕ) → k < 4 → ((children k).word == 0) ≡ false → Untouched 0 → Untouched 1 → Untouched 2 → Untouched 3 → query.test (six_words (children k).bound) ≡ false
        each zero low some p q r t = p some
        each (suc zero) low some p q r t = q some
        each (suc (suc zero)) low some p q r t = r some
        each (suc (suc (suc zero))) low some p q r t = t some
        each (suc (suc (suc (suc k)))) low some p q r t = absurd (omega arith)

  -- ---- all that is left

  module _ (query : Query) where
    -- some layer is at hand of which the shape is clear
    abbrev pub IsClearAt : Option ℕ → Type 0
    IsClearAt o = (l : ℕ) × (o ≡ Some l) × IsClearOf s query.shape l

    pub few-loads : (o : Option ℕ) (nodes : List ℕ) (names : List Name) (loads : List Load) → IsWholeRecord query nodes names loads → LiesFrom o loads → (0 < length nodes → IsClearAt o)
        → ((name : Name) → Contains names name → IsClearAt (layer_of name)) → length loads ≤ 28 * length nodes + 29 * length names
    few-loads o nodes names loads nothing_left lies hand clear = omega arith
    few-loads o nodes names loads (of_word name value more later whole) lies hand clear =
        let c = clear name (0, omega arith, refl) in
        let first : Load = record { name = name; value = value } in
        let h = few-loads (layer_after o first) (nodes_named name value) more later whole (lies-later o (first ∷ []) later lies) (λ some. (c.0, word-layer o name value c.0 c.1, c.2))
        (λ n among. clear n (suc among.0, omega (arith, among.1), among.2)) in
        let one = named-few name value in
        omega arith
    few-loads o nodes names loads (of_node n children more words later whole) lies hand clear =
        let c = hand (omega arith) in
        let ends = node-ends query c.0 c.2 n children later (subst (λ (p : Option ℕ). LiesFrom p (node_loads n children ++ later)) c.1 lies) in
        let h = few-loads (Some c.0) (nodes_to_walk query children ++ more) words later whole ends.lies (λ some. (c.0, refl, c.2)) clear in
        let none = ap (λ (x : List ℕ). length (x ++ more)) ends.nodes in
        let all = length-append (node_loads n children) later in
        let few = node-few n children in
        omega arith
