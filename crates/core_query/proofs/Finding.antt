-- What a whole record says of a single load: it is that of a word that was to be read, or one of those of a node that was
-- read as one. Where no node was walked twice, these are all loads of the node.
use Rattle.std.proofs.Common.{◌≡◌, ◌≢◌, ◌⊎◌, inl, inr, ℕ, suc, ◌<◌, List, [], ◌∷◌, ◌++◌, Some, None, true, false, refl, ap, sym, ◌∙◌, subst, arith}
use Rattle.std.specs.Prelude.{Contains, map, flat_map, ◌==◌, if◌then◌else◌}
use Rattle.std.specs.List.{range_with_len}
use Rattle.std.proofs.lemmas.Bool.{cases_Bool}
use Rattle.std.proofs.lemmas.Option.{none-some, same_Some}
use Rattle.std.proofs.lemmas.List.Elements.{Contains-append_right, Contains-append_cases}
use Rattle.word_map.specs.declared.config.Config.{Config}
use Rattle.word_map.specs.declared.name.Name.{Name}
use Rattle.word_map.specs.declared.name.Name.TheVariants.{Child, Bound, Parent}
use Rattle.core_state.specs.declared.item.Load.{Load}
use Rattle.core_state.specs.Encoding.{layer_of}
use Rattle.core_state.specs.Nodes.{node_in}
use Rattle.core_state.specs.WalkRecord.{WalksOnce}
use Rattle.core_state.specs.Walking.{Query, asked_words}
use Rattle.core_state.proofs.Beginning.{cases_cons}
use Rattle.core_state.proofs.Opening.{none_in}
use Rattle.core_query.specs.WholeRecord.{ReadChild, side_load, child_loads, node_loads, nodes_to_walk, nodes_named, IsWholeRecord, nothing_left, of_word, of_node}
use Rattle.core_query.proofs.Asked.{behind, map-back, flat-back, range-below, asked-word}

abbrev pub child_load : ℕ → ℕ → ℕ → Load
child_load n k x = record { name = Child n k; value = x }

-- ---- the loads of a node

-- one of them is that of a child word, or of a side of the bound of a child that is not 0
pub data IsOfNode (n : ℕ) (children : ℕ → ReadChild) (l : Load) : Type 0 where
  is_child : (k : ℕ) → k < 4 → child_load n k (children k).word ≡ l → IsOfNode n children l
  is_side : (k q : ℕ) → k < 4 → q < 6 → ((children k).word == 0) ≡ false → side_load n k (children k).bound q ≡ l → IsOfNode n children l

pub loads-none : (n k : ℕ) (child : ReadChild) → (child.word == 0) ≡ true → child_loads n k child ≡ child_load n k child.word ∷ []
loads-none n k child none = rw none refl

pub loads-some : (n k : ℕ) (child : ReadChild) → (child.word == 0) ≡ false → child_loads n k child ≡ child_load n k child.word ∷ map (side_load n k child.bound) (range_with_len 0 6)
loads-some n k child some = rw some refl

of-child : (n k : ℕ) (children : ℕ → ReadChild) (l : Load) → k < 4 → Contains (child_loads n k (children k)) l → IsOfNode n children l
of-child n k children l low h =
    let child = children k in
    let sides = map (side_load n k child.bound) (range_with_len 0 6) in
    elim (cases_Bool (child.word == 0)) [
      | inl none ↦ elim (cases_cons (child_load n k child.word) [] l (subst (λ (ls : List Load). Contains ls l) (loads-none n k child none) h)) [
        | inl first ↦ is_child k low first
        | inr later ↦ absurd (none_in l later)
      ]
      | inr some ↦ elim (cases_cons (child_load n k child.word) sides l (subst (λ (ls : List Load). Contains ls l) (loads-some n k child some) h)) [
        | inl first ↦ is_child k low first
        | inr later ↦ let t = map-back (side_load n k child.bound) (range_with_len 0 6) l later in is_side k t.0 low (range-below 6 t.0 t.1) some t.2
      ]
    ]

pub node-back : (n : ℕ) (children : ℕ → ReadChild) (l : Load) → Contains (node_loads n children) l → IsOfNode n children l
node-back n children l h =
    let t = flat-back (λ k. child_loads n k (children k)) (range_with_len 0 4) l h in
    of-child n t.0 children l (range-below 4 t.0 t.1) t.2

-- they are of this node and of no layer
pub of-same : (n : ℕ) (children : ℕ → ReadChild) (l : Load) → IsOfNode n children l → node_in l.name ≡ Some n
of-same n children l (is_child k low e) = ap (λ (x : Load). node_in x.name) (sym e)
of-same n children l (is_side k q low less some e) = ap (λ (x : Load). node_in x.name) (sym e)

pub of-none : (n : ℕ) (children : ℕ → ReadChild) (l : Load) → IsOfNode n children l → layer_of l.name ≡ None
of-none n children l (is_child k low e) = ap (λ (x : Load). layer_of x.name) (sym e)
of-none n children l (is_side k q low less some e) = ap (λ (x : Load). layer_of x.name) (sym e)

-- so a load of another node is none of them
pub other-node : (n m : ℕ) (children : ℕ → ReadChild) (l : Load) → n ≢ m → node_in l.name ≡ Some m → ¬ Contains (node_loads n children) l
other-node n m children l apart e h = apart (same_Some n m (sym (of-same n children l (node-back n children l h)) ∙ e))

-- ---- loads of words

-- words that name a tree
abbrev pub AreOfLayers : List Name → Type 0
AreOfLayers names = (name : Name) → Contains names name → layer_of name ≢ None

pub asked-layers : (c : Config) (mask : ℕ) → AreOfLayers (asked_words c mask)
asked-layers c mask name among none = let t = asked-word c mask name among in none-some t.layer (sym none ∙ t.of_layer)

-- a word of a tree is of a node or of a layer, not of both
no-both : (name : Name) (m : ℕ) → node_in name ≡ Some m → layer_of name ≡ None
no-both (Child n k) m e = refl
no-both (Bound n k q) m e = refl
no-both (Parent n) m e = refl
no-both _ m e = absurd (none-some m e)

-- a load of a node is not that of a word that is read before it
pub past-word : (name : Name) (value m : ℕ) (names : List Name) (loads : List Load) (l : Load) → AreOfLayers (name ∷ names) → node_in l.name ≡ Some m
    → Contains (record { name = name; value = value } ∷ loads) l → Contains loads l
past-word name value m names loads l layers e h =
    elim (cases_cons (record { name = name; value = value }) loads l h) [
      | inl first ↦ absurd (layers name (0, omega arith, refl) (no-both name m (ap (λ (x : Load). node_in x.name) first ∙ e)))
      | inr later ↦ later
    ]

pub fewer : (name : Name) (names : List Name) → AreOfLayers (name ∷ names) → AreOfLayers names
fewer name names layers n among = layers n (behind name names n among)

module _ (query : Query) where
  -- where a word of a node was read, so was the first child of that node
  pub first-read : (nodes : List ℕ) (names : List Name) (loads : List Load) → IsWholeRecord query nodes names loads → AreOfLayers names
      → (m : ℕ) (l : Load) → node_in l.name ≡ Some m → Contains loads l → (value : ℕ) × Contains loads (child_load m 0 value)
  first-read nodes names loads nothing_left layers m l e h = absurd (none_in l h)
  first-read nodes names loads (of_word name value more later whole) layers m l e h =
      let t = first-read (nodes_named name value) more later whole (fewer name more layers) m l e (past-word name value m more later l layers e h) in
      (t.0, behind (record { name = name; value = value }) later (child_load m 0 t.0) t.1)
  first-read nodes names loads (of_node n children more words later whole) layers m l e h =
      elim (Contains-append_cases (node_loads n children) later l h) [
        | inl here ↦
            let same = same_Some n m (sym (of-same n children l (node-back n children l here)) ∙ e) in
            ((children 0).word, (0, omega arith, ap (λ (x : ℕ). child_load x 0 (children 0).word) same))
        | inr rest ↦
            let t = first-read (nodes_to_walk query children ++ more) words later whole layers m l e rest in
            (t.0, Contains-append_right (node_loads n children) later (child_load m 0 t.0) t.1)
      ]

-- each load of a whole record is of a node, or of a word that was to be read
pub each-load : (query : Query) (nodes : List ℕ) (names : List Name) (loads : List Load) → IsWholeRecord query nodes names loads → (l : Load) → Contains loads l
    → (layer_of l.name ≡ None) ⊎ Contains names l.name
each-load query nodes names loads nothing_left l h = absurd (none_in l h)
each-load query nodes names loads (of_word name value more later whole) l h =
    elim (cases_cons (record { name = name; value = value }) later l h) [
      | inl first ↦ inr (0, omega arith, ap (λ (x : Load). x.name) first)
      | inr rest ↦ elim (each-load query (nodes_named name value) more later whole l rest) [ inl none ↦ inl none | inr among ↦ inr (behind name more l.name among) ]
    ]
each-load query nodes names loads (of_node n children more words later whole) l h =
    elim (Contains-append_cases (node_loads n children) later l h) [
      | inl here ↦ inl (of-none n children l (node-back n children l here))
      | inr rest ↦ each-load query (nodes_to_walk query children ++ more) words later whole l rest
    ]

-- ---- no node twice

pub tail-once : (front loads : List Load) → WalksOnce (front ++ loads) → WalksOnce loads
tail-once [] loads once = once
tail-once (l ∷ front) loads once = tail-once front loads (λ i j d less below. once (suc i) (suc j) d (omega arith) (omega arith))

-- what the loads of a node are behind the first
abbrev pub node_rest : ℕ → (ℕ → ReadChild) → List Load
node_rest n children = (if (children 0).word == 0 then [] else map (side_load n 0 (children 0).bound) (range_with_len 0 6)) ++ flat_map (λ k. child_loads n k (children k)) (range_with_len 1 3)

-- a node that was read is not read again
pub not-again : (first : Load) (front later : List Load) (n value : ℕ) → WalksOnce (first ∷ (front ++ later)) → first.name ≡ Child n 0 → ¬ Contains later (child_load n 0 value)
not-again first front later n value once e h =
    let t = Contains-append_right front later (child_load n 0 value) h in
    once 0 (suc t.0) (child_load n 0 value) (omega arith) (omega (arith, t.1)) n e (ap (λ (x : Load). x.name) t.2)
