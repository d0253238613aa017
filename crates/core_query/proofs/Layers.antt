-- Layer by layer: of one of which the shape is clear a walk reads few words, whatever it reads of others.
use Rattle.std.proofs.Common.{◌≡◌, ◌≢◌, ℕ, ◌+◌, ◌-◌, ◌*◌, ◌<◌, ◌≤◌, List, [], ◌∷◌, ◌++◌, Option, Some, None, Bool, true, false, length, refl, ap, sym, ◌∙◌, subst, inl, inr, arith}
use Rattle.std.specs.Prelude.{Contains, fold, map, flat_map, ◌==◌, if◌then◌else◌}
use Rattle.std.specs.Int.{bit_at}
use Rattle.std.specs.List.{range_with_len}
use Rattle.std.proofs.lemmas.Bool.{cases_Bool, cases_eq, false≢true, eqb-true, ne_eqb}
use Rattle.std.proofs.lemmas.List.{length-append}
use Rattle.std.proofs.lemmas.List.Kept.{AllPairs-filter}
use Rattle.std.proofs.lemmas.List.FromFn.{length-map-range_with_len}
use Rattle.word_map.specs.declared.config.Config.{Config}
use Rattle.word_map.specs.declared.name.Name.{Name}
use Rattle.word_map.specs.declared.name.Name.TheVariants.{Main, Slot}
use Rattle.core_state.specs.declared.item.Load.{Load}
use Rattle.core_state.specs.Encoding.{layer_of}
use Rattle.core_state.specs.Scope.{Sight}
use Rattle.core_state.specs.Walking.{Query, words_of_layer, asked_words}
use Rattle.core_state.specs.ReadersCounted.{layer_after, layer_at_hand}
use Rattle.core_query.specs.WholeRecord.{ReadChild, six_words, node_loads, nodes_to_walk, nodes_named, IsWholeRecord, nothing_left, of_word, of_node}
use Rattle.core_query.specs.Clear.{IsClearOf, asked_layers, is_at, loads_in}
use Rattle.core_query.proofs.Asked.{behind, flat-back, filter-back, range-below, layer-word}
use Rattle.core_query.proofs.Apart.{AreOther, pairs-first, pairs-rest, range-other}
use Rattle.core_query.proofs.Finding.{AreOfLayers, fewer, node-back, of-none}
use Rattle.core_query.proofs.Pruned.{same-layer, node-few, named-few, LiesFrom, lies-later, node-ends}

-- one where it is so
abbrev one_if : Bool → ℕ
one_if b = if b then 1 else 0

one-most : (b : Bool) → one_if b ≤ 1
one-most true = omega arith
one-most false = omega arith

is-at : (layer : ℕ) (o : Option ℕ) → is_at layer o ≡ true → o ≡ Some layer
is-at layer None e = absurd (false≢true e)
is-at layer (Some l) e = ap Some (eqb-true l layer e)

-- ---- how many loads are of a layer

module _ (layer : ℕ) where
  loads-append : (o : Option ℕ) (xs ys : List Load) → loads_in layer o (xs ++ ys) ≡ loads_in layer o xs + loads_in layer (fold layer_after o xs) ys
  loads-append o [] ys = omega arith
  loads-append o (x ∷ xs) ys = let h = loads-append (layer_after o x) xs ys in omega arith

  loads-most : (o : Option ℕ) (loads : List Load) → loads_in layer o loads ≤ length loads
  loads-most o [] = omega arith
  loads-most o (l ∷ loads) = let h = loads-most (layer_after o l) loads in let one = one-most (is_at layer (layer_after o l)) in omega arith

  -- loads of nodes leave the layer at hand, and are of no other
  abbrev AreOfNodes : List Load → Type 0
  AreOfNodes loads = (l : Load) → Contains loads l → layer_of l.name ≡ None

  nodes-layer : (o : Option ℕ) (loads : List Load) → AreOfNodes loads → fold layer_after o loads ≡ o
  nodes-layer o [] none = refl
  nodes-layer o (l ∷ loads) none =
      let same = same-layer o l.name l.value (none l (0, omega arith, refl)) in
      subst (λ (p : Option ℕ). fold layer_after p loads ≡ o) (sym same) (nodes-layer o loads (λ x among. none x (behind l loads x among)))

  nodes-none : (o : Option ℕ) (loads : List Load) → AreOfNodes loads → is_at layer o ≡ false → loads_in layer o loads ≡ 0
  nodes-none o [] none apart = refl
  nodes-none o (l ∷ loads) none apart =
      let same = same-layer o l.name l.value (none l (0, omega arith, refl)) in
      let one : one_if (is_at layer o) ≡ 0 = ap one_if apart in
      let h = nodes-none o loads (λ x among. none x (behind l loads x among)) apart in
      subst (λ (p : Option ℕ). one_if (is_at layer p) + loads_in layer p loads ≡ 0) (sym same) (omega arith)

  -- how many words are of the layer
  abbrev names_in : List Name → ℕ
  names_in [] = 0
  names_in (name ∷ names) = one_if (is_at layer (layer_of name)) + names_in names

  names-append : (xs ys : List Name) → names_in (xs ++ ys) ≡ names_in xs + names_in ys
  names-append [] ys = omega arith
  names-append (x ∷ xs) ys = let h = names-append xs ys in omega arith

  names-most : (names : List Name) → names_in names ≤ length names
  names-most [] = omega arith
  names-most (name ∷ names) = let h = names-most names in let one = one-most (is_at layer (layer_of name)) in omega arith

  names-none : (names : List Name) → ((name : Name) → Contains names name → is_at layer (layer_of name) ≡ false) → names_in names ≡ 0
  names-none [] none = refl
  names-none (name ∷ names) none =
      let one : one_if (is_at layer (layer_of name)) ≡ 0 = ap one_if (none name (0, omega arith, refl)) in
      let h = names-none names (λ n among. none n (behind name names n among)) in
      omega arith

  -- of the words of distinct layers no more than those of one
  module _ (c : Config) where
    others-none : (layers : List ℕ) → ((l : ℕ) → Contains layers l → (l < c.layers) × (l ≢ layer)) → names_in (flat_map (words_of_layer c) layers) ≡ 0
    others-none layers apart =
        names-none (flat_map (words_of_layer c) layers)
        (λ name among.
        let t = flat-back (words_of_layer c) layers name among in
        let l = apart t.0 t.1 in
        ap (is_at layer) (layer-word c t.0 name l.0 t.2).0 ∙ ne_eqb t.0 layer l.1)

    words-length : (l : ℕ) → length (words_of_layer c l) ≡ c.slots + 1
    words-length l =
        let all = length-append (map (Slot l) (range_with_len 0 c.slots)) (Main l ∷ []) in
        let slots = length-map-range_with_len (Slot l) 0 c.slots in
        omega arith

    one-layer : (layers : List ℕ) → ((l : ℕ) → Contains layers l → l < c.layers) → AreOther layers → names_in (flat_map (words_of_layer c) layers) ≤ c.slots + 1
    one-layer [] below other = omega arith
    one-layer (l ∷ layers) below other =
        let all = names-append (words_of_layer c l) (flat_map (words_of_layer c) layers) in
        elim (cases_eq l layer) [
          | inl same ↦
              let words = names-most (words_of_layer c l) in
              let long = words-length l in
              let rest =
              others-none layers (λ a among. (below a (behind l layers a among), λ is. pairs-first (λ x y. x ≢ y) l layers other a among (same ∙ sym is)))
              in
              omega arith
          | inr apart ↦
              let words =
              names-none (words_of_layer c l)
              (λ name among. ap (is_at layer) (layer-word c l name (below l (0, omega arith, refl)) among).0 ∙ ne_eqb l layer apart)
              in
              let rest = one-layer layers (λ a among. below a (behind l layers a among)) (pairs-rest (λ x y. x ≢ y) l layers other) in
              omega arith
        ]

    asked-in : (mask : ℕ) → names_in (asked_words c mask) ≤ c.slots + 1
    asked-in mask =
        one-layer (asked_layers c mask)
        (λ l among. range-below c.layers l (filter-back (λ layer. bit_at mask layer == 1) (range_with_len 0 c.layers) l among).0)
        (AllPairs-filter (λ (a b : ℕ). a ≢ b) (λ layer. bit_at mask layer == 1) (range_with_len 0 c.layers) (range-other c.layers))

-- ---- what is read of a layer of which the shape is clear

word-at : (o : Option ℕ) (name : Name) (value : ℕ) → layer_of name ≢ None → layer_after o (record { name = name; value = value }) ≡ layer_of name
word-at o (Main l) value some = refl
word-at o (Slot l t) value some = refl
word-at o _ value some = absurd (some refl)

module _ (s : Sight) (query : Query) (layer : ℕ) (clear : IsClearOf s query.shape layer) where
  -- no more than so many nodes wait while it is at hand
  few-in : (most : ℕ) (o : Option ℕ) (nodes : List ℕ) (names : List Name) (loads : List Load) → IsWholeRecord query nodes names loads → LiesFrom s o loads → AreOfLayers names
      → (is_at layer o ≡ true → length nodes ≤ most) → loads_in layer o loads ≤ 28 * most + 29 * names_in layer names
  few-in most o nodes names loads nothing_left lies layers hand = omega arith
  few-in most o nodes names loads (of_word name value more later whole) lies layers hand =
      subst (λ (p : Option ℕ). one_if (is_at layer p) + loads_in layer p later ≤ 28 * most + 29 * names_in layer (name ∷ more)) (sym at)
      (elim (cases_Bool (is_at layer (layer_of name))) [
        | inl here ↦
            let one : one_if (is_at layer (layer_of name)) ≡ 1 = ap one_if here in
            let h = few-in 1 (layer_of name) (nodes_named name value) more later whole rest (fewer name more layers) (λ e. named-few name value) in
            omega arith
        | inr apart ↦
            let none : one_if (is_at layer (layer_of name)) ≡ 0 = ap one_if apart in
            let h = few-in 0 (layer_of name) (nodes_named name value) more later whole rest (fewer name more layers) (λ e. absurd (false≢true (sym apart ∙ e))) in
            omega arith
      ])
    where
      at : layer_after o (record { name = name; value = value }) ≡ layer_of name
      at = word-at o name value (layers name (0, omega arith, refl))

      rest : LiesFrom s (layer_of name) later
      rest = subst (λ (p : Option ℕ). LiesFrom s p later) at (lies-later s o (record { name = name; value = value } ∷ []) later lies)
  few-in most o nodes names loads (of_node n children more words later whole) lies layers hand =
      elim (cases_Bool (is_at layer o)) [
        | inl here ↦
            let room = hand here in
            let ends = node-ends s query layer clear n children later (subst (λ (p : Option ℕ). LiesFrom s p (node_loads n children ++ later)) (is-at layer o here) lies) in
            let none = ap (λ (x : List ℕ). length (x ++ more)) ends.nodes in
            let h = few-in (most - 1) o (nodes_to_walk query children ++ more) words later whole rest layers (λ e. omega arith) in
            let few = loads-most layer o (node_loads n children) in
            let loads = node-few n children in
            omega (arith, split)
        | inr apart ↦
            let h = few-in most o (nodes_to_walk query children ++ more) words later whole rest layers (λ e. absurd (false≢true (sym apart ∙ e))) in
            let few = nodes-none layer o (node_loads n children) of_nodes apart in
            omega (arith, split)
      ]
    where
      of_nodes : AreOfNodes layer (node_loads n children)
      of_nodes l among = of-none n children l (node-back n children l among)

      same : fold layer_after o (node_loads n children) ≡ o
      same = nodes-layer layer o (node_loads n children) of_nodes

      rest : LiesFrom s o later
      rest = subst (λ (p : Option ℕ). LiesFrom s p later) same (lies-later s o (node_loads n children) later lies)

      split : loads_in layer o (node_loads n children ++ later) ≡ loads_in layer o (node_loads n children) + loads_in layer o later
      split = loads-append layer o (node_loads n children) later ∙ ap (λ (p : Option ℕ). loads_in layer o (node_loads n children) + loads_in layer p later) same

  pub few-of_layer : (c : Config) (loads : List Load) → IsWholeRecord query [] (asked_words c query.mask) loads → LiesFrom s None loads → AreOfLayers (asked_words c query.mask)
      → loads_in layer None loads ≤ 29 * (c.slots + 1)
  few-of_layer c loads whole lies layers =
      let h = few-in 0 None [] (asked_words c query.mask) loads whole lies layers (λ e. absurd (false≢true e)) in
      let words = asked-in layer c query.mask in
      omega arith

  -- no bound that was read while it was at hand touches
  pub none-touched : (loads before later : List Load) (n : ℕ) (children : ℕ → ReadChild) → LiesFrom s None loads → loads ≡ before ++ (node_loads n children ++ later) → layer_at_hand before ≡ Some layer
      → (k : ℕ) → k < 4 → (children k).word ≢ 0 → query.test (six_words (children k).bound) ≡ false
  none-touched loads before later n children lies e at k low some =
      let rest = node_loads n children ++ later in
      let h = subst (λ (o : Option ℕ). LiesFrom s o rest) at (lies-later s None before rest (subst (LiesFrom s None) e lies)) in
      (node-ends s query layer clear n children later h).untouched k low (ne_eqb (children k).word 0 some)
