-- A walk that begins has every body ahead of it that it has to find.
use Rattle.std.proofs.Common.{◌≡◌, ◌⊎◌, ℕ, zero, suc, ◌+◌, ◌<◌, ◌≤◌, List, [], ◌∷◌, Bool, true, Option, Some, None, length, refl, ap, sym, ◌∙◌, subst, inl, inr, arith, eq-eqb}
use Rattle.std.specs.Prelude.{Contains, flat_map, filter, IsSomeAnd, IfSome, map, ◌==◌}
use Rattle.std.specs.Int.{bit_at}
use Rattle.std.specs.List.{range_with_len}
use Rattle.std.proofs.lemmas.Bool.{cases_lt, cases_Bool}
use Rattle.std.proofs.lemmas.Option.{same_Some}
use Rattle.std.proofs.lemmas.List.{take_all}
use Rattle.std.proofs.lemmas.List.Elements.{Contains-append_left, Contains-append_right, Contains-append_cases, Contains-push}
use Rattle.std.proofs.lemmas.List.FromFn.{get_or-map-range_with_len, length-map-range_with_len}
use Rattle.fixed_box.specs.FixBox.{words_of}
use Rattle.fixed_box.specs.Touch.{Touch}
use Rattle.scene_model.specs.declared.body_view.Phase.TheVariants.{In}
use Rattle.scene_model.specs.Scene.{Scene, Record, place_at, record_at}
use Rattle.scene_model.specs.Consistent.{IsLatest}
use Rattle.scene_model.proofs.Histories.{IsConsistent-scene_after}
use Rattle.scene_model.specs.History.{IsDue, Fits, point, scene_after}
use Rattle.word_map.specs.declared.config.Config.{Config}
use Rattle.word_map.specs.declared.name.Name.{Name}
use Rattle.word_map.specs.declared.name.Name.TheVariants.{Main, Slot, Child, Parent}
use Rattle.word_map.specs.Names.{IsName}
use Rattle.core_state.specs.declared.view.Walk.{Walk}
use Rattle.core_state.specs.Log.{history, NoneStores}
use Rattle.core_state.specs.Core.{Core, word_of, scene_of}
use Rattle.core_state.specs.Formed.{IsFormed}
use Rattle.core_state.specs.Encoding.{Sides, sides_of, bound_in, place, node_child, NamesRoot, layer_of}
use Rattle.core_state.specs.Nodes.{Nodes, Home, under, made, owned, superseded, returning, free, spare, Stands, IsPublished, IsOfLayer, Above, here, higher}
use Rattle.core_state.specs.Scope.{sight, word_in}
use Rattle.core_state.specs.TreesSound.{TreesSound, IsChild, nothing, a_body, a_node, IsPlaced, as_root, at_place, IsRootOf, tree_scope}
use Rattle.core_state.specs.LocationsHold.{location_scope}
use Rattle.core_state.specs.Space.{HadSince}
use Rattle.core_state.specs.Walking.{Query, words_of_layer, asked_words, start}
use Rattle.core_state.specs.WalksLead.{Way, to_entry, to_node, HoldsOne, IsAhead, by_slot, by_main, since_begun, walk_scope}
use Rattle.core_state.specs.Invariants.{Invariants}
use Rattle.core_state.proofs.Reading.{word-none}
use Rattle.core_state.proofs.Opening.{range_contains, none_in, only}

-- ---- up from an entry to the root

-- one place further up
pub above-more : (w : Name → ℕ) (n k a b m j : ℕ) → Above w n k a b → w (Parent a) ≡ place m j → j < 4 → Above w n k m j
above-more w n k a b m j (here x y) e below = higher x y m j m j e below (here m j)
above-more w n k a b m j (higher p q x y c d f lower rest) e below = higher p q x y m j f lower (above-more w x y c d m j rest e below)

-- a child of a node that is a node is one level lower
lower-depth : (nodes : Nodes) (core : Core) (m j n : ℕ) → IsChild nodes (sight tree_scope core) m j → word_of core (Child m j) ≡ node_child n → nodes.depth n ≡ suc (nodes.depth m)
lower-depth nodes core m j n (nothing e) child = absurd (omega arith)
lower-depth nodes core m j n (a_body i below e) child = absurd (omega arith)
lower-depth nodes core m j n (a_node x e home parent depth) child =
    let same : x ≡ n = omega arith in
    subst (λ (k : ℕ). nodes.depth k ≡ suc (nodes.depth m)) same depth

module _ (core : Core) (nodes : Nodes) (trees : TreesSound nodes core) (Had : Sides → Type 0) (i n0 k0 : ℕ)
    (wide : (a b : ℕ) → Above (word_in location_scope core) n0 k0 a b → HoldsOne Had (bound_in (word_of core) a b)) where
  abbrev Found : Name → Type 0
  Found name = (root : ℕ) × NamesRoot name (word_in tree_scope core name) root × Way (word_in walk_scope core) Had i root

  -- at a node with a way down: it is the root, or its parent has a way down too
  climb-at : (n kn : ℕ) (name : Name) → nodes.home n ≡ under name → Above (word_in location_scope core) n0 k0 n kn → Way (word_in walk_scope core) Had i n
      → ((m j : ℕ) → nodes.depth n ≡ suc (nodes.depth m) → nodes.home m ≡ under name → Above (word_in location_scope core) n0 k0 m j → Way (word_in walk_scope core) Had i m → Found name)
      → IsPlaced nodes (sight tree_scope core) n → Found name
  climb-at n kn name home up way again (as_root e root) = (n, subst (λ (h : Home). IsRootOf (sight tree_scope core) h n) home root, way)
  climb-at n kn name home up way again (at_place m j below e child same) =
      let above = above-more (word_in location_scope core) n0 k0 n kn m j up e below in
      let parent : nodes.home m ≡ under name = same ∙ home in
      let sound = trees.sound m (subst Stands (sym parent) tt) in
      again m j (lower-depth nodes core m j n (sound.children j below) child) parent above (to_node m j n below child (wide m j above) way)

  -- from a node with a way down, up to the root that its tree's word names
  climb : (d n kn : ℕ) (name : Name) → nodes.depth n ≡ d → nodes.home n ≡ under name → Above (word_in location_scope core) n0 k0 n kn → Way (word_in walk_scope core) Had i n → Found name
  climb zero n kn name depth home up way =
      climb-at n kn name home up way (λ m j lower parent above more. absurd (omega arith)) (trees.sound n (subst Stands (sym home) tt)).placed
  climb (suc d) n kn name depth home up way =
      climb-at n kn name home up way (λ m j lower parent above more. climb d m j name (omega arith) parent above more) (trees.sound n (subst Stands (sym home) tt)).placed

-- ---- the words that a query reads

pub contains_first : {X : Type 0} (x : X) (xs : List X) → Contains (x ∷ xs) x
contains_first x xs = (0, omega arith, refl)

pub cases_cons : {X : Type 0} (y : X) (xs : List X) (x : X) → Contains (y ∷ xs) x → (y ≡ x) ⊎ Contains xs x
cases_cons y xs x h = elim (Contains-append_cases (y ∷ []) xs x h) [ inl first ↦ inl (only y x first) | inr rest ↦ inr rest ]

pub contains_filter : {X : Type 0} (p : X → Bool) (xs : List X) (x : X) → Contains xs x → p x ≡ true → Contains (filter p xs) x
contains_filter p [] x h passes = h
contains_filter p (y ∷ xs) x h passes =
    elim (cases_cons y xs x h) [
      | inl e ↦ let test : p y ≡ true = ap p e ∙ passes in rw test (0, omega arith, e)
      | inr rest ↦
          let later = contains_filter p xs x rest passes in
          elim (cases_Bool (p y)) [
            | inl test ↦ rw test (Contains-append_right (y ∷ []) (filter p xs) x later)
            | inr test ↦ rw test later
          ]
    ]

pub contains_flat : {X Y : Type 0} (f : X → List Y) (xs : List X) (x : X) (name : Y) → Contains xs x → Contains (f x) name → Contains (flat_map f xs) name
contains_flat f [] x name h among = absurd (none_in x h)
contains_flat {X = X} f (y ∷ xs) x name h among =
    elim (cases_cons y xs x h) [
      | inl e ↦ Contains-append_left (f y) (flat_map f xs) name (subst (λ (z : X). Contains (f z) name) (sym e) among)
      | inr rest ↦ Contains-append_right (f y) (flat_map f xs) name (contains_flat f xs x name rest among)
    ]

-- of a layer that is asked, its slots and its main word
reads_layer : (c : Config) (mask layer : ℕ) (name : Name) → layer < c.layers → bit_at mask layer ≡ 1 → Contains (words_of_layer c layer) name → Contains (asked_words c mask) name
reads_layer c mask layer name below asks among =
    contains_flat (words_of_layer c) (filter (λ l. bit_at mask l == 1) (range_with_len 0 c.layers)) layer name
    (contains_filter (λ l. bit_at mask l == 1) (range_with_len 0 c.layers) layer (range_contains c.layers layer below) (eq-eqb (bit_at mask layer) 1 asks)) among

reads_main : (c : Config) (layer : ℕ) → Contains (words_of_layer c layer) (Main layer)
reads_main c layer = Contains-push (map (Slot layer) (range_with_len 0 c.slots)) (Main layer)

reads_slot : (c : Config) (layer t : ℕ) → t < c.slots → Contains (words_of_layer c layer) (Slot layer t)
reads_slot c layer t below =
    Contains-append_left (map (Slot layer) (range_with_len 0 c.slots)) (Main layer ∷ []) (Slot layer t) (
      t,
      subst (λ (n : ℕ). t < n) (sym (length-map-range_with_len (Slot layer) 0 c.slots)) below,
      get_or-map-range_with_len (Slot layer) 0 c.slots t t (Slot layer t) below (omega arith),
    )

-- a slot that names a root is one of the world
slot_named : (core : Core) (l t root : ℕ) → IsFormed core → word_of core (Slot l t) ≡ 1024 + root → t < core.config.slots
slot_named core l t root formed names =
    elim (cases_lt t core.config.slots) [
      | inl below ↦ below
      | inr above ↦
          let none : NoneStores core.log (Slot l t) = λ k d below same.
          let named = subst (λ (n : Name). IsName core.config n) same (formed.items k d below).named in
          let less = named.1 in
          omega arith
          in
          let word = word-none core.config [] core.log (Slot l t) none in
          absurd (omega arith)
    ]

-- ---- the bodies that a query has to find

-- a body of which something holds has a record
pub body_record : (o : Option Record) (P : Record → Type 0) → IsSomeAnd o P → (r : Record) × (o ≡ Some r) × P r
body_record None P h = absurd h
body_record (Some r) P h = (r, refl, h)

-- the other way round
pub record_body : (o : Option Record) (P : Record → Type 0) (r : Record) → o ≡ Some r → P r → IsSomeAnd o P
record_body o P r e h = subst (λ (x : Option Record). IsSomeAnd x P) (sym e) h

-- a published node is in the tree of some word
published_name : (home : Home) → IsPublished home → (name : Name) × (home ≡ under name)
published_name (under name) h = (name, refl)
published_name free h = absurd h
published_name spare h = absurd h
published_name (owned p) h = absurd h
published_name (made p l) h = absurd h
published_name (superseded p name) h = absurd h
published_name (returning p) h = absurd h

-- the last point of a history is the scene after it
pub last_point : (core : Core) → point core.config.bodies (history core.log) (length (history core.log)) ≡ scene_of core
last_point core = ap (scene_after core.config.bodies) (take_all (length (history core.log)) (history core.log) (omega arith))

module _ (core : Core) (formed : IsFormed core) (h : Invariants core) (query : Query) (walk : Walk) (from : walk.from ≤ length (history core.log)) where
  abbrev Had : ℕ → Sides → Type 0
  Had i = HadSince (sight walk_scope core) walk.from i

  -- the root of the tree in which a body is found is named by a word that the query reads
  by_root : (i layer root : ℕ) (name : Name) → layer < core.config.layers → bit_at query.mask layer ≡ 1 → layer_of name ≡ Some layer → NamesRoot name (word_in tree_scope core name) root
      → Way (word_in walk_scope core) (Had i) i root → IsAhead (word_in walk_scope core) (Had i) i query walk (start core.config query)
  by_root i layer root (Main l) below asks of names way =
      let same = same_Some l layer of in
      by_main (l, (reads_layer core.config query.mask l (Main l) (omega arith) (ap (bit_at query.mask) same ∙ asks) (reads_main core.config l), (root, names, way)))
  by_root i layer root (Slot l t) below asks of names way =
      let same = same_Some l layer of in
      let slot = slot_named core l t root formed names in
      by_slot (l, t, (reads_layer core.config query.mask l (Slot l t) (omega arith) (ap (bit_at query.mask) same ∙ asks) (reads_slot core.config l t slot), (root, names, way)))
  by_root i layer root _ below asks of names way = absurd names

  -- a body that is in the broad phase, in a layer that is asked
  body_ahead : (i : ℕ) (r : Record) → record_at (scene_of core) i ≡ Some r → r.phase ≡ In → bit_at query.mask r.layer ≡ 1
      → IsAhead (word_in walk_scope core) (Had i) i query walk (start core.config query)
  body_ahead i r live inside asks =
      let cover = h.cover.covered i r live inside in
      let n = cover.0 in
      let k = cover.1 in
      let at = h.locations.at i r n k live inside cover.2 in
      let box : Sides = sides_of (words_of r.bounds) in
      let now : record_at (point core.config.bodies (history core.log) (length (history core.log))) i ≡ Some r = ap (λ (s : Scene). record_at s i) (last_point core) ∙ live in
      let had : Had i box = (length (history core.log), from, omega arith, record_body _ (λ x. box ≡ sides_of (words_of x.bounds)) r now refl) in
      let wide : (a b : ℕ) → Above (word_in location_scope core) n k a b → HoldsOne (Had i) (bound_in (word_of core) a b) = λ a b up. (box, had, at.bounds a b up) in
      let way : Way (word_in walk_scope core) (Had i) i n = to_entry n k cover.2.0 at.entry (wide n k (here n k)) in
      let tree = published_name (h.nodes.home n) cover.3 in
      let found = climb core h.nodes h.trees (Had i) i n k wide (h.nodes.depth n) n k tree.0 refl tree.1 (here n k) way in
      let latest = (IsConsistent-scene_after core.config.layers core.config.bodies (history core.log) h.bodies.lawful).latest i in
      let layer = subst (λ (o : Option Record). IfSome o (IsLatest core.config.layers (place_at (scene_of core) i).creations)) live latest in
      let of = subst (IsOfLayer r.layer) tree.1 cover.4 in
      by_root i r.layer found.0 tree.0 layer.in_layers asks of found.1 found.2

  -- so each body that is due now is ahead of a walk that begins
  pub due_ahead : (i generation : ℕ) → IsDue (Touch query.shape) query.mask core.config.bodies (since_begun (sight walk_scope core) walk) i generation
      → IsAhead (word_in walk_scope core) (Had i) i query walk (start core.config query)
  due_ahead i generation due =
      let last = length (history core.log) in
      let fits : Fits (Touch query.shape) query.mask (scene_of core) i generation =
      subst (λ (s : Scene). Fits (Touch query.shape) query.mask s i generation) (last_point core) (due last from (omega arith))
      in
      let body = body_record (record_at (scene_of core) i) _ fits in
      body_ahead i body.0 body.1 body.2.1.0 body.2.1.1
