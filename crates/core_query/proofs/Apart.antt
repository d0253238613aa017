-- No word is read twice in a whole record in which no node was walked twice.
use Rattle.std.proofs.Common.{◌≡◌, ◌≢◌, ℕ, zero, suc, ◌<◌, List, [], ◌∷◌, ◌++◌, refl, ap, sym, ◌∙◌, subst, inl, inr, arith}
use Rattle.std.specs.Prelude.{Contains, AllPairs, map, flat_map, ◌==◌}
use Rattle.std.specs.Int.{bit_at}
use Rattle.std.specs.List.{range_with_len}
use Rattle.std.proofs.lemmas.Bool.{cases_Bool}
use Rattle.std.proofs.lemmas.Option.{same_Some}
use Rattle.std.proofs.lemmas.List.Elements.{Contains-get_or, Contains-append_cases}
use Rattle.std.proofs.lemmas.List.Kept.{AllPairs-filter}
use Rattle.std.proofs.lemmas.List.FromFn.{length-range_with_len, get_or-range_with_len}
use Rattle.word_map.specs.declared.config.Config.{Config}
use Rattle.word_map.specs.declared.name.Name.{Name}
use Rattle.word_map.specs.declared.name.Name.TheVariants.{Child, Bound, Main, Slot}
use Rattle.core_state.specs.declared.item.Load.{Load}
use Rattle.core_state.specs.Encoding.{Sides, layer_of}
use Rattle.core_state.specs.Nodes.{node_in}
use Rattle.core_state.specs.WalkRecord.{WalksOnce}
use Rattle.core_state.specs.Walking.{Query, words_of_layer, asked_words}
use Rattle.core_state.proofs.Beginning.{cases_cons}
use Rattle.core_state.proofs.Opening.{none_in, only}
use Rattle.core_query.specs.WholeRecord.{ReadChild, side_load, child_loads, node_loads, nodes_to_walk, nodes_named, IsWholeRecord, nothing_left, of_word, of_node}
use Rattle.core_query.specs.Clear.{asked_layers}
use Rattle.core_query.proofs.Asked.{behind, map-back, flat-back, range-below, filter-back, layer-word}
use Rattle.core_query.proofs.Finding.{child_load, loads-none, loads-some, node-back, of-same, AreOfLayers, fewer, first-read, each-load, tail-once, node_rest, not-again}

-- ---- each two elements of a list

module _ {X : Type 0} (R : X → X → Type 0) where
  pairs-none : AllPairs R []
  pairs-none i j d less below = absurd (omega arith)

  pairs-cons : (x : X) (xs : List X) → ((y : X) → Contains xs y → R x y) → AllPairs R xs → AllPairs R (x ∷ xs)
  pairs-cons x xs first later zero zero d less below = absurd (omega arith)
  pairs-cons x xs first later (suc i) zero d less below = absurd (omega arith)
  pairs-cons x xs first later zero (suc j) d less below = first _ (Contains-get_or xs j d (omega arith))
  pairs-cons x xs first later (suc i) (suc j) d less below = later i j d (omega arith) (omega arith)

  pub pairs-first : (x : X) (xs : List X) → AllPairs R (x ∷ xs) → (y : X) → Contains xs y → R x y
  pairs-first x xs h y among = subst (R x) among.2 (h 0 (suc among.0) y (omega arith) (omega (arith, among.1)))

  pub pairs-rest : (x : X) (xs : List X) → AllPairs R (x ∷ xs) → AllPairs R xs
  pairs-rest x xs h i j d less below = h (suc i) (suc j) d (omega arith) (omega arith)

  pairs-append : (xs ys : List X) → AllPairs R xs → AllPairs R ys → ((x y : X) → Contains xs x → Contains ys y → R x y) → AllPairs R (xs ++ ys)
  pairs-append [] ys left right across = right
  pairs-append (x ∷ xs) ys left right across =
      pairs-cons x (xs ++ ys)
      (λ y among. elim (Contains-append_cases xs ys y among) [ inl here ↦ pairs-first x xs left y here | inr there ↦ across x y (0, omega arith, refl) there ])
      (pairs-append xs ys (pairs-rest x xs left) right (λ z y one other. across z y (behind x xs z one) other))

-- of lists that are made of others: each is apart in itself, and those of different origin are apart
abbrev pub AreOther : List ℕ → Type 0
AreOther ks = AllPairs (λ a b. a ≢ b) ks

pairs-flat : {X : Type 0} (R : X → X → Type 0) (f : ℕ → List X) (ks : List ℕ) → ((k : ℕ) → Contains ks k → AllPairs R (f k))
    → ((a b : ℕ) (x y : X) → Contains ks a → Contains ks b → a ≢ b → Contains (f a) x → Contains (f b) y → R x y) → AreOther ks → AllPairs R (flat_map f ks)
pairs-flat R f [] each across other = pairs-none R
pairs-flat R f (k ∷ ks) each across other =
    pairs-append R (f k) (flat_map f ks) (each k (0, omega arith, refl))
    (pairs-flat R f ks (λ a among. each a (behind k ks a among)) (λ a b x y one two. across a b x y (behind k ks a one) (behind k ks b two)) (pairs-rest (λ a b. a ≢ b) k ks other))
    (λ x y one two.
    let t = flat-back f ks y two in
    across k t.0 x y (0, omega arith, refl) (behind k ks t.0 t.1) (pairs-first (λ a b. a ≢ b) k ks other t.0 t.1) one t.2)

pairs-map : {X : Type 0} (R : X → X → Type 0) (f : ℕ → X) (ks : List ℕ) → ((a b : ℕ) → a ≢ b → R (f a) (f b)) → AreOther ks → AllPairs R (map f ks)
pairs-map R f [] apart other = pairs-none R
pairs-map {X = X} R f (k ∷ ks) apart other =
    pairs-cons R (f k) (map f ks)
    (λ y among. let t = map-back f ks y among in subst (λ (z : X). R (f k) z) t.2 (apart k t.0 (pairs-first (λ a b. a ≢ b) k ks other t.0 t.1)))
    (pairs-map R f ks apart (pairs-rest (λ a b. a ≢ b) k ks other))

pub range-other : (n : ℕ) → AreOther (range_with_len 0 n)
range-other n i j d less below same =
    let len = length-range_with_len 0 n in
    let second : j < n = rw (← len) below in
    let first : i < n = omega arith in
    let a = get_or-range_with_len 0 n i d first in
    let b = get_or-range_with_len 0 n j d second in
    omega (arith, a, b, same)

-- ---- the words that a query asks for

abbrev AreOtherNames : List Name → Type 0
AreOtherNames names = AllPairs (λ a b. a ≢ b) names

abbrev number_in : Name → ℕ
number_in (Slot l t) = t
number_in (Child n k) = k
number_in (Bound n k q) = k
number_in _ = 0

layer-apart : (c : Config) (l : ℕ) → AreOtherNames (words_of_layer c l)
layer-apart c l =
    pairs-append (λ (a b : Name). a ≢ b) (map (Slot l) (range_with_len 0 c.slots)) (Main l ∷ [])
    (pairs-map (λ (a b : Name). a ≢ b) (Slot l) (range_with_len 0 c.slots) (λ a b apart same. apart (slot-same l a b same)) (range-other c.slots))
    (pairs-cons (λ (a b : Name). a ≢ b) (Main l) [] (λ y among. absurd (none_in y among)) (pairs-none (λ (a b : Name). a ≢ b)))
    (λ x y one two same.
    let t = map-back (Slot l) (range_with_len 0 c.slots) x one in
    slot-main l t.0 l (t.2 ∙ (same ∙ sym (only (Main l) y two))))
  where
    slot-same : (l a b : ℕ) → Slot l a ≡ Slot l b → a ≡ b
    slot-same l a b e = cc

    slot-main : (l t m : ℕ) → Slot l t ≢ Main m
    slot-main l t m e = absurd cc

pub asked-apart : (c : Config) (mask : ℕ) → AreOtherNames (asked_words c mask)
asked-apart c mask =
    pairs-flat (λ (a b : Name). a ≢ b) (words_of_layer c) (asked_layers c mask) (λ l among. layer-apart c l)
    (λ a b x y one two apart first second same.
    apart (same_Some a b (sym (layer-word c a x (below a one) first).0 ∙ (ap layer_of same ∙ (layer-word c b y (below b two) second).0))))
    (AllPairs-filter (λ (a b : ℕ). a ≢ b) (λ layer. bit_at mask layer == 1) (range_with_len 0 c.layers) (range-other c.layers))
  where
    below : (l : ℕ) → Contains (asked_layers c mask) l → l < c.layers
    below l among = range-below c.layers l (filter-back (λ layer. bit_at mask layer == 1) (range_with_len 0 c.layers) l among).0

-- ---- the loads

abbrev Differ : Load → Load → Type 0
Differ a b = a.name ≢ b.name

sides-apart : (n k : ℕ) (bound : Sides) → AllPairs Differ (map (side_load n k bound) (range_with_len 0 6))
sides-apart n k bound = pairs-map Differ (side_load n k bound) (range_with_len 0 6) (λ a b apart same. apart cc) (range-other 6)

-- a load of a child has its number
of-number : (n k : ℕ) (child : ReadChild) (l : Load) → Contains (child_loads n k child) l → number_in l.name ≡ k
of-number n k child l h =
    let sides = map (side_load n k child.bound) (range_with_len 0 6) in
    elim (cases_Bool (child.word == 0)) [
      | inl none ↦ let first = only (child_load n k child.word) l (subst (λ (ls : List Load). Contains ls l) (loads-none n k child none) h) in ap (λ (x : Load). number_in x.name) (sym first)
      | inr some ↦ elim (cases_cons (child_load n k child.word) sides l (subst (λ (ls : List Load). Contains ls l) (loads-some n k child some) h)) [
        | inl first ↦ ap (λ (x : Load). number_in x.name) (sym first)
        | inr later ↦ let t = map-back (side_load n k child.bound) (range_with_len 0 6) l later in ap (λ (x : Load). number_in x.name) (sym t.2)
      ]
    ]

child-apart : (n k : ℕ) (child : ReadChild) → AllPairs Differ (child_loads n k child)
child-apart n k child =
    let sides = map (side_load n k child.bound) (range_with_len 0 6) in
    let word = child_load n k child.word in
    elim (cases_Bool (child.word == 0)) [
      | inl none ↦ subst (AllPairs Differ) (sym (loads-none n k child none)) (pairs-cons Differ word [] (λ y among. absurd (none_in y among)) (pairs-none Differ))
      | inr some ↦
          subst (AllPairs Differ) (sym (loads-some n k child some))
          (pairs-cons Differ word sides (λ y among same. let t = map-back (side_load n k child.bound) (range_with_len 0 6) y among in word-side n k t.0 (same ∙ ap (λ (l : Load). l.name) (sym t.2))) (sides-apart n k child.bound))
    ]
  where
    word-side : (n k q : ℕ) → Child n k ≢ Bound n k q
    word-side n k q e = absurd cc

node-apart : (n : ℕ) (children : ℕ → ReadChild) → AllPairs Differ (node_loads n children)
node-apart n children =
    pairs-flat Differ (λ k. child_loads n k (children k)) (range_with_len 0 4) (λ k among. child-apart n k (children k))
    (λ a b x y one two apart first second same. apart (sym (of-number n a (children a) x first) ∙ (ap number_in same ∙ of-number n b (children b) y second))) (range-other 4)

pub loads-apart : (query : Query) (nodes : List ℕ) (names : List Name) (loads : List Load) → IsWholeRecord query nodes names loads → AreOfLayers names → AreOtherNames names → WalksOnce loads
    → AllPairs Differ loads
loads-apart query nodes names loads nothing_left layers other once = pairs-none Differ
loads-apart query nodes names loads (of_word name value more later whole) layers other once =
    let first : Load = record { name = name; value = value } in
    pairs-cons Differ first later
    (λ y among same. elim (each-load query (nodes_named name value) more later whole y among) [
      | inl none ↦ layers name (0, omega arith, refl) (ap layer_of same ∙ none)
      | inr there ↦ pairs-first (λ (a b : Name). a ≢ b) name more other y.name there same
    ])
    (loads-apart query (nodes_named name value) more later whole (fewer name more layers) (pairs-rest (λ (a b : Name). a ≢ b) name more other) (tail-once (first ∷ []) later once))
loads-apart query nodes names loads (of_node n children more words later whole) layers other once =
    pairs-append Differ (node_loads n children) later (node-apart n children)
    (loads-apart query (nodes_to_walk query children ++ more) words later whole layers other (tail-once (node_loads n children) later once))
    (λ x y one two same.
    let here = of-same n children x (node-back n children x one) in
    let t = first-read query (nodes_to_walk query children ++ more) words later whole layers n y (ap node_in (sym same) ∙ here) two in
    not-again (child_load n 0 (children 0).word) (node_rest n children) later n t.0 once refl t.1)
