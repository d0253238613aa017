-- The nodes that a walk read are those that it had to walk, and the bodies that it found are its candidates.
use Rattle.std.proofs.Common.{◌≡◌, ◌⊎◌, ℕ, zero, suc, ◌-◌, ◌/◌, ◌%◌, ◌<◌, List, [], ◌∷◌, ◌++◌, Some, true, false, refl, ap, sym, ◌∙◌, subst, inl, inr, arith}
use Rattle.std.specs.Prelude.{Contains, map, ◌==◌, slice_index}
use Rattle.std.specs.List.{range_with_len}
use Rattle.std.proofs.lemmas.Bool.{cases_Bool, eqb-true, eqb-false, ne_eqb, eq-eqb}
use Rattle.std.proofs.lemmas.Option.{same_Some}
use Rattle.std.proofs.lemmas.List.Elements.{Contains-append_left, Contains-append_right, Contains-append_cases}
use Rattle.std.proofs.lemmas.List.FromFn.{get_or-map-range_with_len}
use Rattle.fixed_box.specs.FixBox.{words_of}
use Rattle.word_map.specs.declared.name.Name.{Name}
use Rattle.word_map.specs.declared.name.Name.TheVariants.{Child}
use Rattle.core_state.specs.declared.item.Load.{Load}
use Rattle.core_state.specs.Encoding.{Sides, body_child, node_child}
use Rattle.core_state.specs.Nodes.{node_in}
use Rattle.core_state.specs.WalkRecord.{WalksOnce, IsLoaded, HasTouchingBound, IsWalked, as_root, as_child, IsCandidate}
use Rattle.core_state.specs.Walking.{Query}
use Rattle.core_state.proofs.Beginning.{contains_first, contains_flat}
use Rattle.core_state.proofs.Opening.{none_in, only, range_contains}
use Rattle.core_query.specs.WholeRecord.{ReadChild, six_words, side_load, child_loads, node_loads, node_to_walk, nodes_to_walk, nodes_named, IsWholeRecord, nothing_left, of_word, of_node}
use Rattle.core_query.specs.Found.{IsFound}
use Rattle.core_query.proofs.Asked.{behind, flat-back}
use Rattle.core_query.proofs.Finding.{child_load, loads-some, node-back, of-same, AreOfLayers, past-word, fewer}
use Rattle.core_query.proofs.Reading.{IsReadNode, AreRead, all-read, root-read, named-root, root-named}

-- ---- children that are to be walked

walk-of : (query : Query) (child : ReadChild) (n : ℕ) → child.word ≡ node_child n → query.test (six_words child.bound) ≡ true → Contains (node_to_walk query child) n
walk-of query child n e tested =
    rw (ne_eqb child.word 0 (λ none. omega arith), tested, eq-eqb (child.word % 2) 0 (omega arith)) (0, omega arith, omega arith)

walk-back : (query : Query) (child : ReadChild) (n : ℕ) → Contains (node_to_walk query child) n → ((child.word == 0) ≡ false) × (child.word ≡ node_child n) × (query.test (six_words child.bound) ≡ true)
walk-back query child n h =
    elim (cases_Bool (child.word == 0)) [
      | inl none ↦ absurd (none_in n (rw none at h))
      | inr some ↦ elim (cases_Bool (query.test (six_words child.bound))) [
        | inr untested ↦ absurd (none_in n (rw (some, untested) at h))
        | inl tested ↦ elim (cases_Bool (child.word % 2 == 0)) [
          | inr odd ↦ absurd (none_in n (rw (some, tested, odd) at h))
          | inl even ↦
              let same = only ((child.word - 2) / 2) n (rw (some, tested, even) at h) in
              let half = eqb-true (child.word % 2) 0 even in
              let more = eqb-false child.word 0 some in
              (some, omega arith, tested)
        ]
      ]
    ]

four-back : (k : ℕ) → Contains (3 ∷ 2 ∷ 1 ∷ 0 ∷ []) k → k < 4
four-back k (zero, below, e) = omega arith
four-back k (suc zero, below, e) = omega arith
four-back k (suc (suc zero), below, e) = omega arith
four-back k (suc (suc (suc zero)), below, e) = omega arith
four-back k (suc (suc (suc (suc i))), below, e) = absurd (omega arith)

four-in : (k : ℕ) → k < 4 → Contains (3 ∷ 2 ∷ 1 ∷ 0 ∷ []) k
four-in zero low = (3, omega arith, refl)
four-in (suc zero) low = (2, omega arith, refl)
four-in (suc (suc zero)) low = (1, omega arith, refl)
four-in (suc (suc (suc zero))) low = (0, omega arith, refl)
four-in (suc (suc (suc (suc k)))) low = absurd (omega arith)

-- ---- the loads of a child that was read

child-in : (n : ℕ) (children : ℕ → ReadChild) (k : ℕ) → k < 4 → Contains (node_loads n children) (child_load n k (children k).word)
child-in n children k low =
    contains_flat (λ j. child_loads n j (children j)) (range_with_len 0 4) k (child_load n k (children k).word) (range_contains 4 k low) (contains_first (child_load n k (children k).word) _)

side-in : (n : ℕ) (children : ℕ → ReadChild) (k q : ℕ) → k < 4 → q < 6 → ((children k).word == 0) ≡ false → Contains (node_loads n children) (side_load n k (children k).bound q)
side-in n children k q low less some =
    let side = side_load n k (children k).bound q in
    let sides = map (side_load n k (children k).bound) (range_with_len 0 6) in
    let among : Contains sides side = (q, less, get_or-map-range_with_len (side_load n k (children k).bound) 0 6 q q side less (omega arith)) in
    contains_flat (λ j. child_loads n j (children j)) (range_with_len 0 4) k side (range_contains 4 k low)
    (subst (λ (ls : List Load). Contains ls side) (sym (loads-some n k (children k) some)) (behind (child_load n k (children k).word) sides side among))

-- a bound that was read and touches
bound-touches : (query : Query) (all : List Load) (n : ℕ) (children : ℕ → ReadChild) (k : ℕ) → k < 4 → ((children k).word == 0) ≡ false
    → query.test (six_words (children k).bound) ≡ true → ((l : Load) → Contains (node_loads n children) l → Contains all l) → HasTouchingBound query.shape all n k
bound-touches query all n children k low some tested within =
    let bound = (children k).bound in
    let t = (query.tests (six_words bound)).0 tested in (
      t.0,
      t.2,
      λ q less.
          subst (λ (v : ℕ). Contains all (record { name = (side_load n k bound q).name; value = v }))
          (sym (get_or-map-range_with_len bound 0 6 q q 0 less (omega arith)) ∙ ap (λ (words : List ℕ). slice_index words q) (sym t.1))
          (within (side_load n k bound q) (side-in n children k q low less some)),
    )

-- ---- no other node is read

module _ (query : Query) (all : List Load) where
  abbrev AreWalked : List ℕ → Type 0
  AreWalked nodes = (n : ℕ) → Contains nodes n → IsWalked query.shape all n

  -- the nodes that a node leads to are walked
  leads-walked : (n : ℕ) (children : ℕ → ReadChild) → ((l : Load) → Contains (node_loads n children) l → Contains all l) → AreWalked (nodes_to_walk query children)
  leads-walked n children within m among =
      let t = flat-back (λ k. node_to_walk query (children k)) (3 ∷ 2 ∷ 1 ∷ 0 ∷ []) m among in
      let k = t.0 in
      let low = four-back k t.1 in
      let child = walk-back query (children k) m t.2 in
      as_child n k (subst (λ (x : ℕ). Contains all (child_load n k x)) child.1 (within (child_load n k (children k).word) (child-in n children k low)))
      (bound-touches query all n children k low child.0 child.2 within)

  only-walked : (nodes : List ℕ) (names : List Name) (loads : List Load) → IsWholeRecord query nodes names loads → AreOfLayers names → ((l : Load) → Contains loads l → Contains all l) → AreWalked nodes
      → (n : ℕ) (l : Load) → node_in l.name ≡ Some n → Contains loads l → IsWalked query.shape all n
  only-walked nodes names loads nothing_left layers within walked n l e h = absurd (none_in l h)
  only-walked nodes names loads (of_word name value more later whole) layers within walked n l e h =
      let first : Load = record { name = name; value = value } in
      only-walked (nodes_named name value) more later whole (fewer name more layers) (λ x among. within x (behind first later x among))
      (λ m among. as_root name value (within first (contains_first first later)) (root-named name value m among))
      n l e (past-word name value n more later l layers e h)
  only-walked nodes names loads (of_node m children more words later whole) layers within walked n l e h =
      let here = λ (x : Load) (among : Contains (node_loads m children) x). within x (Contains-append_left (node_loads m children) later x among) in
      elim (Contains-append_cases (node_loads m children) later l h) [
        | inl now ↦ subst (IsWalked query.shape all) (same_Some m n (sym (of-same m children l (node-back m children l now)) ∙ e)) (walked m (contains_first m more))
        | inr rest ↦
            only-walked (nodes_to_walk query children ++ more) words later whole layers (λ x among. within x (Contains-append_right (node_loads m children) later x among))
            (λ a among. both a (Contains-append_cases (nodes_to_walk query children) more a among) here) n l e rest
      ]
    where
      both : (a : ℕ) → Contains (nodes_to_walk query children) a ⊎ Contains more a → ((x : Load) → Contains (node_loads m children) x → Contains all x) → IsWalked query.shape all a
      both a (inl new) here = leads-walked m children here a new
      both a (inr old) here = walked a (behind m more a old)

-- ---- what a whole record says of walked nodes and of candidates

six-same : (a b : Sides) → ((q : ℕ) → q < 6 → a q ≡ b q) → six_words a ≡ six_words b
six-same a b h =
    λ i. h 0 (omega arith) i ∷ h 1 (omega arith) i ∷ h 2 (omega arith) i ∷ h 3 (omega arith) i ∷ h 4 (omega arith) i ∷ h 5 (omega arith) i ∷ []

module _ (query : Query) (names : List Name) (loads : List Load) (whole : IsWholeRecord query [] names loads) (layers : AreOfLayers names) where
  pub read-walked : (n k value : ℕ) → IsLoaded loads (Child n k) value → IsWalked query.shape loads n
  read-walked n k value h = only-walked query loads [] names loads whole layers (λ l among. among) (λ m none. absurd (none_in m none)) n (child_load n k value) refl h

  module _ (once : WalksOnce loads) where
    -- a child word and a touching bound that were loaded were read as one
    record ReadsTouching (m k x : ℕ) : Type 0 where
      sides : Sides
      read : AreRead query loads m k x sides
      touches : query.test (six_words (read.children k).bound) ≡ true

    touching-read : (m k x : ℕ) → IsLoaded loads (Child m k) x → HasTouchingBound query.shape loads m k → ReadsTouching m k x
    touching-read m k x word touching =
        let b = touching.0 in
        let sides = slice_index (words_of b) in
        let t = all-read query m k x sides [] names loads whole layers once (record { word = word; bound = touching.2 }) in
        let bound = (t.children k).bound in
        record { sides = sides; read = t; touches = (query.tests (six_words bound)).1 (b, sym (six-same bound sides t.bound), touching.1) }

    -- each walked node is read
    pub walked-read : (n : ℕ) → IsWalked query.shape loads n → IsReadNode loads n
    walked-read n (as_root name value h names_root) = let t = named-root name value n names_root in root-read query [] names loads whole name value t.0 h n t.1
    walked-read n (as_child m k word touching) =
        let t = touching-read m k (node_child n) word touching in
        t.read.goes_on n
        (contains_flat (λ j. node_to_walk query (t.read.children j)) (3 ∷ 2 ∷ 1 ∷ 0 ∷ []) k n (four-in k t.read.low) (walk-of query (t.read.children k) n t.read.word t.touches))

    -- each candidate is found
    pub candidate-found : (index : ℕ) → IsCandidate query.shape loads index → IsFound query loads index
    candidate-found index candidate =
        let m = candidate.0 in
        let k = candidate.1 in
        let t = touching-read m k (body_child index) candidate.2 candidate.3 in
        record { node = m; children = t.read.children; read = t.read.read; k = k; low = t.read.low; body = t.read.word; touches = t.touches }

-- each body that was found is a candidate
pub found-candidate : (query : Query) (loads : List Load) (index : ℕ) → IsFound query loads index → IsCandidate query.shape loads index
found-candidate query loads index found =
    let n = found.node in
    let k = found.k in
    let before = found.read.0 in
    let later = found.read.1 in
    let body = found.body in
    let within : (l : Load) → Contains (node_loads n found.children) l → Contains loads l =
    λ l among.
    subst (λ (all : List Load). Contains all l) (sym found.read.2)
    (Contains-append_right before (node_loads n found.children ++ later) l (Contains-append_left (node_loads n found.children) later l among))
    in (
      n,
      k,
      subst (λ (x : ℕ). Contains loads (child_load n k x)) body (within (child_load n k (found.children k).word) (child-in n found.children k found.low)),
      bound-touches query loads n found.children k found.low (ne_eqb (found.children k).word 0 (λ none. omega arith)) found.touches within,
    )
