-- The loads of a walk are few: no node is walked twice, and of each node no more than 28 words are read.
use Rattle.std.proofs.Common.{◌≡◌, ℕ, zero, ◌+◌, ◌-◌, ◌*◌, ◌<◌, ◌≤◌, List, [], ◌∷◌, ◌++◌, length, eqb, true, false, refl, ap, sym, ◌∙◌, subst, inl, inr, arith}
use Rattle.std.specs.Prelude.{Contains, nat_lt, if◌then◌else◌}
use Rattle.std.specs.List.{AllByRecursion, IsDistinct, list_any}
use Rattle.std.proofs.lemmas.Map.Steps.{length-le_from_distinct_below}
use Rattle.std.proofs.lemmas.Bool.{cases_lt, cases_eq, cond_both, ne_eqb, false≢true}
use Rattle.std.proofs.lemmas.List.{length-append, length_push}
use Rattle.std.proofs.lemmas.List.Elements.{filter_map-append}
use Rattle.word_map.specs.declared.config.Config.{Config}
use Rattle.word_map.specs.declared.name.Name.{Name}
use Rattle.word_map.specs.declared.name.Name.TheVariants.{Child}
use Rattle.word_map.specs.Names.{node_count}
use Rattle.core_state.specs.declared.item.Load.{Load}
use Rattle.core_state.specs.declared.view.Waiting.{Waiting}
use Rattle.core_state.specs.declared.view.View.{View}
use Rattle.core_state.specs.Core.{Core}
use Rattle.core_state.specs.WalkRecord.{WalksOnce}
use Rattle.core_state.specs.Walking.{Query, Spot, resting, at_child, at_bound, Position, asked_words, next_node, next_child, roots_in, pushed, advance, Follows}
use Rattle.core_state.specs.ReadersCounted.{IsWalkedAt}
use Rattle.core_state.specs.Invariants.{Invariants}
use Rattle.core_state.proofs.Opening.{none_in}
use Rattle.core_state.proofs.Beginning.{cases_cons, contains_first}
use Rattle.core_query.specs.Ends.{IsWalking}
use Rattle.core_query.specs.Counted.{walked_nodes, walked_by}
use Rattle.core_query.proofs.Asked.{behind}
use Rattle.core_query.proofs.InOrder.{asked-in-order}
use Rattle.core_query.proofs.Replay.{IsReplayed, Moves, to_root, past_none, to_bound, by_side, past_bound, moves, replayed-more, position-keeps}
use Rattle.core_query.proofs.Finding.{child_load, tail-once, not-again}
use Rattle.core_query.proofs.Ended.{leads, stays}
use Rattle.core_query.proofs.Stacks.{live-below}

-- ---- of each node 28 words

-- how many words are left to be read of the node at hand, where it has been begun
abbrev spare : Spot → ℕ
spare resting = 0
spare (at_child n level k) = 7 * (4 - k) - 28 * (1 - k)
spare (at_bound n level k x read) = 7 * (4 - k) - 1 - length read

-- what was read, and what is left of the node at hand and of the words that are asked for
abbrev IsWithin : ℕ → List Load → Position → Type 0
IsWithin words loads at = length loads + spare at.spot + length at.rest ≤ words + 28 * length (walked_nodes loads)

-- the next node is not begun
next-spare : (rest : List Name) (stack : List Waiting) → (spare (next_node rest stack).spot ≡ 0) × ((next_node rest stack).rest ≡ rest)
next-spare rest [] = (refl, refl)
next-spare rest (w ∷ stack) = (refl, refl)

-- of the next child less is left
child-spare : (rest : List Name) (stack : List Waiting) (n level k : ℕ) → k < 4 → (spare (next_child rest stack n level k).spot ≤ 7 * (3 - k)) × ((next_child rest stack n level k).rest ≡ rest)
child-spare rest stack n level k low =
    cond_both (nat_lt k 3) (record { rest = rest; stack = stack; spot = at_child n level (k + 1) }) (next_node rest stack)
    (λ (at : Position). (spare at.spot ≤ 7 * (3 - k)) × (at.rest ≡ rest)) (λ more. (omega arith, refl))
    (λ last. let none = next-spare rest stack in (omega (arith, none.0), none.1))

module _ (query : Query) (loads : List Load) (new : Load) where
  abbrev Longer : List Load
  Longer = loads ++ new ∷ []

  one-more : length Longer ≡ length loads + 1
  one-more = length_push loads new

  walked-parts : walked_nodes Longer ≡ walked_nodes loads ++ walked_nodes (new ∷ [])
  walked-parts = filter_map-append (λ (l : Load). walked_by l.name) loads (new ∷ [])

  walked-count : length (walked_nodes Longer) ≡ length (walked_nodes loads) + length (walked_nodes (new ∷ []))
  walked-count = ap length walked-parts ∙ length-append (walked_nodes loads) (walked_nodes (new ∷ []))

  -- with its first child a node is walked
  walked-first : (n k : ℕ) → Child n k ≡ new.name → k ≡ 0 → length (walked_nodes Longer) ≡ length (walked_nodes loads) + 1
  walked-first n k name none = walked-count ∙ ap (λ (m : ℕ). length (walked_nodes loads) + m) (ap (λ (x : Name). length (walked_nodes (record { name = x; value = new.value } ∷ []))) (sym name ∙ ap (Child n) none))

  -- so of each child, read or not, enough is counted
  child-counted : (n k : ℕ) → Child n k ≡ new.name → 28 * length (walked_nodes loads) + 28 * (1 - k) ≤ 28 * length (walked_nodes Longer)
  child-counted n k name = elim (cases_lt 0 k) [
    | inl later ↦ let count = walked-count in omega arith
    | inr none ↦ let first : k ≡ 0 = omega arith in let count = walked-first n k name first in omega arith
  ]

  -- wherever the walk is
  within-more : (words : ℕ) (at later : Position) → Moves query loads new at later → IsWithin words loads at → IsWithin words Longer later
  within-more words at later (to_root rest next order) h =
      let spot = next-spare rest (roots_in new.name new.value) in
      let left = ap (length {A = Name}) spot.1 in
      omega (arith, one-more, walked-count, spot.0, left)
  within-more words at later (past_none rest stack n level k low next none) h =
      let spot = child-spare rest stack n level k low in
      let left = ap (length {A = Name}) spot.1 in
      let counted = child-counted n k next in
      omega (arith, one-more, spot.0, left)
  within-more words at later (to_bound rest stack n level k low next some) h = let counted = child-counted n k next in omega (arith, one-more)
  within-more words at later (by_side rest stack n level k x read half next less) h = let low = half.low in omega (arith, one-more, walked-count, length_push read new.value)
  within-more words at later (past_bound rest stack n level k x read half next all) h =
      let spot = child-spare rest (if query.test (read ++ new.value ∷ []) then pushed level x stack else stack) n level k half.low in
      let left = ap (length {A = Name}) spot.1 in
      let low = half.low in
      omega (arith, one-more, walked-count, length_push read new.value, spot.0, left)

abbrev IsCounted : ℕ → List Load → Position → Type 0
IsCounted words loads at = IsReplayed loads at × IsWithin words loads at

pub loads-counted : (c : Config) (query : Query) (loads : List Load) → Follows c query loads → length loads ≤ length (asked_words c query.mask) + 28 * length (walked_nodes loads)
loads-counted c query loads follows =
    let words = length (asked_words c query.mask) in
    let all = position-keeps query (IsCounted words)
    (λ loads at new h next.
    let move = moves query loads new at h.0 next in
    (replayed-more query loads new at (advance query at new) move h.0.order, within-more query loads new words at (advance query at new) move h.1))
    c loads (record { order = asked-in-order c query.mask; spot = refl }, omega arith) follows
    in
    let within = all.1 in
    omega arith

-- ---- no node twice

-- the first child of a walked node was loaded
walked-by_name : (name : Name) (value n : ℕ) (loads : List Load) → (Contains (walked_nodes loads) n → IsWalkedAt loads n) → Contains (walked_nodes (record { name = name; value = value } ∷ loads)) n
    → IsWalkedAt (record { name = name; value = value } ∷ loads) n
walked-by_name (Child m zero) value n loads more among =
    elim (cases_cons m (walked_nodes loads) n among) [
      | inl same ↦ (value, (0, omega arith, ap (λ (k : ℕ). child_load k 0 value) same))
      | inr later ↦ let t = more later in (t.0, behind (child_load m 0 value) loads (child_load n 0 t.0) t.1)
    ]
walked-by_name name value n loads more among = let t = more among in (t.0, behind (record { name = name; value = value }) loads (child_load n 0 t.0) t.1)

walked-loaded : (loads : List Load) (n : ℕ) → Contains (walked_nodes loads) n → IsWalkedAt loads n
walked-loaded [] n among = absurd (none_in n among)
walked-loaded (l ∷ loads) n among = walked-by_name l.name l.value n loads (walked-loaded loads n) among

by-recursion : (P : ℕ → Type 0) (xs : List ℕ) → ((x : ℕ) → Contains xs x → P x) → AllByRecursion P xs
by-recursion P [] each = tt
by-recursion P (x ∷ xs) each = (each x (contains_first x xs), by-recursion P xs (λ y among. each y (behind x xs y among)))

-- so no node is walked a second time
distinct-by_name : (name : Name) (value : ℕ) (loads : List Load) → WalksOnce (record { name = name; value = value } ∷ loads) → IsDistinct eqb (walked_nodes loads)
    → IsDistinct eqb (walked_nodes (record { name = name; value = value } ∷ loads))
unfolding IsDistinct
distinct-by_name (Child n zero) value loads once other = (
  by-recursion (λ m. eqb n m ≡ false) (walked_nodes loads)
      (λ m among.
      ne_eqb n m (λ same. let t = walked-loaded loads m among in not-again (child_load n 0 value) [] loads n t.0 once refl (subst (λ (k : ℕ). Contains loads (child_load k 0 t.0)) (sym same) t.1))),
  other,
)
distinct-by_name name value loads once other = other

walked-distinct : (loads : List Load) → WalksOnce loads → IsDistinct eqb (walked_nodes loads)
unfolding IsDistinct
walked-distinct [] once = tt
walked-distinct (l ∷ loads) once = distinct-by_name l.name l.value loads once (walked-distinct loads (tail-once (l ∷ []) loads once))

any-found : (q : ℕ) (xs : List ℕ) → list_any (eqb q) xs ≡ true → Contains xs q
any-found q [] any = absurd (false≢true any)
any-found q (x ∷ xs) any = elim (cases_eq q x) [
  | inl same ↦ (0, omega arith, sym same)
  | inr apart ↦ behind x xs q (any-found q xs (rw (ne_eqb q x apart) at any))
]

module _ (core : Core) (h : Invariants core) (query : Query) (seat number : ℕ) (view : View) (w : IsWalking core query seat number view) where
  walked-few : length (walked_nodes view.walk.loads) ≤ node_count core.config
  walked-few =
      length-le_from_distinct_below (walked_nodes view.walk.loads) (node_count core.config) (walked-distinct view.walk.loads (leads core h query seat number view w).once)
      (λ n any.
      live-below core h query seat number view w n ((stays core h query seat number view w).visited n (walked-loaded view.walk.loads n (any-found n (walked_nodes view.walk.loads) any))).0)

  pub loads-few : length view.walk.loads ≤ length (asked_words core.config query.mask) + 28 * node_count core.config
  loads-few = let nodes = walked-few in let loads = loads-counted core.config query view.walk.loads w.follows in omega arith
