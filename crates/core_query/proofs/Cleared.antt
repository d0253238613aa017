-- A walk whose shape is clear of the layers that it asks finds no body, and reads few words.
use Rattle.std.proofs.Common.{◌≡◌, ◌≢◌, ◌<◌, false, ◌⊎◌, ℕ, ◌+◌, ◌*◌, ◌≤◌, List, [], ◌∷◌, ◌++◌, Option, Some, None, length, refl, ap, sym, ◌∙◌, subst, inl, inr, arith}
use Rattle.std.specs.Prelude.{Contains, fold}
use Rattle.std.proofs.lemmas.Bool.{false≢true, ne_eqb}
use Rattle.std.proofs.lemmas.Option.{none-some}
use Rattle.std.proofs.lemmas.List.Elements.{Contains-append_left}
use Rattle.word_map.specs.declared.name.Name.{Name}
use Rattle.word_map.specs.declared.name.Name.TheVariants.{Child}
use Rattle.core_state.specs.declared.item.Load.{Load}
use Rattle.core_state.specs.declared.view.View.{View}
use Rattle.core_state.specs.Core.{Core}
use Rattle.core_state.specs.Encoding.{layer_of}
use Rattle.core_state.specs.Scope.{Sight, sight}
use Rattle.core_state.specs.WalkRecord.{IsCandidate}
use Rattle.core_state.specs.Walking.{Query, asked_words}
use Rattle.core_state.specs.ReadersCounted.{reader_scope, layer_after, layer_at_hand}
use Rattle.core_state.specs.Invariants.{Invariants}
use Rattle.core_query.specs.Ends.{IsWalking, walked_to, IsAtEnd}
use Rattle.core_query.specs.WholeRecord.{ReadChild, six_words, node_loads, nodes_named, IsWholeRecord, nothing_left, of_word, of_node}
use Rattle.core_query.specs.Found.{IsFound}
use Rattle.core_query.specs.Clear.{IsClear, IsClearOf, asked_layers, loads_in}
use Rattle.core_query.proofs.Asked.{behind, asked-word, asked-count}
use Rattle.core_query.proofs.Recording.{whole-record}
use Rattle.core_query.proofs.Pruned.{word-layer, same-layer, LiesFrom, lies-later, node-ends, IsClearAt, few-loads}
use Rattle.core_query.proofs.Finding.{each-load, asked-layers}
use Rattle.core_query.proofs.Walked.{candidate-found}
use Rattle.core_query.proofs.Layers.{few-of_layer, none-touched}
use Rattle.core_query.proofs.Ended.{leads, reads}

-- two lists that are the same have the same first element, and the same behind it
first-same : {X : Type 0} (x y : X) (xs ys : List X) → x ∷ xs ≡ y ∷ ys → x ≡ y
first-same x y xs ys e = cc

rest-same : {X : Type 0} (x y : X) (xs ys : List X) → x ∷ xs ≡ y ∷ ys → xs ≡ ys
rest-same x y xs ys e = cc

module _ (s : Sight) (query : Query) where
  -- a clear layer stays at hand while the loads are of nodes or of clear layers
  still-clear : (o : Option ℕ) (loads : List Load) → IsClearAt s query o → ((l : Load) → Contains loads l → (layer_of l.name ≡ None) ⊎ IsClearAt s query (layer_of l.name))
      → IsClearAt s query (fold layer_after o loads)
  still-clear o [] clear each = clear
  still-clear o (l ∷ loads) clear each = still-clear (layer_after o l) loads (go (each l (0, omega arith, refl))) (λ x among. each x (behind l loads x among))
    where
      go : (layer_of l.name ≡ None) ⊎ IsClearAt s query (layer_of l.name) → IsClearAt s query (layer_after o l)
      go (inl none) = subst (IsClearAt s query) (sym (same-layer o l.name l.value none)) clear
      go (inr named) = (named.0, word-layer o l.name l.value named.0 named.1, named.2)

  abbrev AreClear : List Name → Type 0
  AreClear names = (name : Name) → Contains names name → IsClearAt s query (layer_of name)

  -- where a node was read, a clear layer was at hand
  clear-before : (nodes : List ℕ) (names : List Name) (loads : List Load) → IsWholeRecord query nodes names loads → AreClear names → nodes ≡ []
      → (before later : List Load) (n : ℕ) (children : ℕ → ReadChild) → loads ≡ before ++ (node_loads n children ++ later) → IsClearAt s query (fold layer_after None before)
  clear-before nodes names loads nothing_left clear start [] later n children e = absurd cc
  clear-before nodes names loads nothing_left clear start (l ∷ before) later n children e = absurd cc
  clear-before nodes names loads (of_node m others more words rest whole) clear start before later n children e = absurd cc
  clear-before nodes names loads (of_word name value more rest whole) clear start [] later n children e =
      let c = clear name (0, omega arith, refl) in
      let same : name ≡ Child n 0 = ap (λ (l : Load). l.name) (first-same _ _ rest _ e) in
      absurd (none-some c.0 (sym (ap layer_of same) ∙ c.1))
  clear-before nodes names loads (of_word name value more rest whole) clear start (l ∷ before) later n children e =
      let c = clear name (0, omega arith, refl) in
      let first : Load = record { name = name; value = value } in
      let same : first ≡ l = first-same first l rest (before ++ (node_loads n children ++ later)) e in
      let behind_it : rest ≡ before ++ (node_loads n children ++ later) = rest-same first l rest (before ++ (node_loads n children ++ later)) e in
      still-clear (layer_after None l) before
      (c.0, subst (λ (x : Load). layer_after None x ≡ Some c.0) same (word-layer None name value c.0 c.1), c.2)
      (λ x among. go x (each-load query (nodes_named name value) more rest whole x
      (subst (λ (xs : List Load). Contains xs x) (sym behind_it) (Contains-append_left before (node_loads n children ++ later) x among))))
    where
      go : (x : Load) → (layer_of x.name ≡ None) ⊎ Contains more x.name → (layer_of x.name ≡ None) ⊎ IsClearAt s query (layer_of x.name)
      go x (inl none) = inl none
      go x (inr among) = inr (clear x.name (behind name more x.name among))

  -- so no body was found
  none-found : (names : List Name) (loads : List Load) → IsWholeRecord query [] names loads → AreClear names → LiesFrom s None loads → (index : ℕ) → ¬ IsFound query loads index
  none-found names loads whole clear lies index found =
      let before = found.read.0 in
      let later = found.read.1 in
      let rest = node_loads found.node found.children ++ later in
      let c = clear-before [] names loads whole clear refl before later found.node found.children found.read.2 in
      let at = subst (λ (o : Option ℕ). LiesFrom s o rest) c.1 (lies-later s None before rest (subst (LiesFrom s None) found.read.2 lies)) in
      let ends = node-ends s query c.0 c.2 found.node found.children later at in
      let body = found.body in
      false≢true (sym (ends.untouched found.k found.low (ne_eqb (found.children found.k).word 0 (λ none. omega arith))) ∙ found.touches)

module _ (core : Core) (h : Invariants core) (query : Query) (seat number : ℕ) (view : View) (w : IsWalking core query seat number view) (end : IsAtEnd (walked_to core query view)) (clear : IsClear core query) where
  abbrev names : List Name
  names = asked_words core.config query.mask

  whole : IsWholeRecord query [] names view.walk.loads
  whole = whole-record core.config query view.walk.loads w.follows end

  lies : LiesFrom (sight reader_scope core) None view.walk.loads
  lies = record { sides = (reads core h query seat number view w).sides }

  clear-names : (name : Name) → Contains names name → IsClearAt (sight reader_scope core) query (layer_of name)
  clear-names name among = let t = asked-word core.config query.mask name among in (t.layer, t.of_layer, clear t.layer t.below t.asked)

  pub clear-few : length view.walk.loads ≤ 29 * ((core.config.slots + 1) * length (asked_layers core.config query.mask))
  clear-few =
      let few = few-loads (sight reader_scope core) query None [] names view.walk.loads whole lies (λ some. absurd (omega arith)) clear-names in
      let count = asked-count core.config query.mask in
      omega arith

  pub clear-not_found : (index : ℕ) → ¬ IsFound query view.walk.loads index
  clear-not_found = none-found (sight reader_scope core) query names view.walk.loads whole clear-names lies

  pub clear-no_candidate : (index : ℕ) → ¬ IsCandidate query.shape view.walk.loads index
  clear-no_candidate index candidate =
      clear-not_found index (candidate-found query names view.walk.loads whole
      (asked-layers core.config query.mask) (leads core h query seat number view w).once index candidate)

module _ (core : Core) (h : Invariants core) (query : Query) (seat number : ℕ) (view : View) (w : IsWalking core query seat number view) (end : IsAtEnd (walked_to core query view))
    (layer : ℕ) (clear : IsClearOf (sight reader_scope core) query.shape layer) where
  abbrev sides-lie : LiesFrom (sight reader_scope core) None view.walk.loads
  sides-lie = record { sides = (reads core h query seat number view w).sides }

  -- one layer by itself
  pub layer-few : loads_in layer None view.walk.loads ≤ 29 * (core.config.slots + 1)
  layer-few =
      few-of_layer (sight reader_scope core) query layer clear core.config view.walk.loads (whole-record core.config query view.walk.loads w.follows end) sides-lie
      (asked-layers core.config query.mask)

  pub layer-untouched : (before later : List Load) (n : ℕ) (children : ℕ → ReadChild) → view.walk.loads ≡ before ++ (node_loads n children ++ later) → layer_at_hand before ≡ Some layer
      → (k : ℕ) → k < 4 → (children k).word ≢ 0 → query.test (six_words (children k).bound) ≡ false
  layer-untouched before later n children = none-touched (sight reader_scope core) query layer clear view.walk.loads before later n children sides-lie
