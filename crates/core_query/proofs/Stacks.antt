-- A walk stands at sound nodes of the world, so its stack is short and the word that it reads next is one of the world.
use Rattle.std.proofs.Common.{◌≡◌, ℕ, ◌<◌, ◌≤◌, List, [], ◌∷◌, length, refl, ap, sym, subst, inl, inr, arith}
use Rattle.std.specs.Prelude.{Contains, Some}
use Rattle.std.proofs.lemmas.Bool.{cases_lt}
use Rattle.std.proofs.lemmas.Option.{none-some, same_Some}
use Rattle.word_map.specs.declared.name.Name.{Name}
use Rattle.word_map.specs.declared.name.Name.TheVariants.{Child, Bound}
use Rattle.word_map.specs.Names.{IsName, node_count}
use Rattle.core_state.specs.declared.view.Waiting.{Waiting}
use Rattle.core_state.specs.declared.view.View.{View}
use Rattle.core_state.specs.Core.{Core, word_of}
use Rattle.core_state.specs.Encoding.{body_child}
use Rattle.core_state.specs.Nodes.{IsLive, itself}
use Rattle.core_state.specs.Scope.{sight, word_in}
use Rattle.core_state.specs.TreesSound.{tree_scope, IsSoundNode, IsChild, nothing, a_body, a_node}
use Rattle.core_state.specs.Walking.{Query, Spot, resting, at_child, at_bound, Position, waiting, next_word}
use Rattle.core_state.specs.ReadersCounted.{reader_scope, ReachesBySpot, the_node, the_node_of_bound, Reaches, by_stack, by_spot, waiting_at, WalkStays}
use Rattle.core_state.specs.Invariants.{Invariants}
use Rattle.core_state.proofs.Beginning.{cases_cons, contains_first}
use Rattle.core_guard.proofs.Leaving.{live-stands}
use Rattle.core_query.specs.Ends.{IsWalking, walked_to}
use Rattle.core_query.proofs.Asked.{IsAskedWord}
use Rattle.core_query.proofs.Positions.{IsShortAt, position-orderly}
use Rattle.core_query.proofs.Ended.{stays}

module _ (core : Core) (h : Invariants core) (query : Query) (seat number : ℕ) (view : View) (w : IsWalking core query seat number view) where
  abbrev at : Position
  at = walked_to core query view

  abbrev held : WalkStays h.nodes (word_in reader_scope core) view.walk.loads at
  held = stays core h query seat number view w

  -- a node that it reaches is live, so it is sound and a node of the world
  reached-live : (a : ℕ) → Reaches (word_in reader_scope core) at a → IsLive (h.nodes.home a)
  reached-live a reaches = (held.live a reaches).0

  live-sound : (a : ℕ) → IsLive (h.nodes.home a) → IsSoundNode h.nodes (sight tree_scope core) a
  live-sound a live = h.trees.sound a (live-stands (h.nodes.home a) live)

  pub live-below : (a : ℕ) → IsLive (h.nodes.home a) → a < node_count core.config
  live-below a live =
      elim (cases_lt a (node_count core.config)) [
        | inl below ↦ below
        | inr above ↦ absurd (subst IsLive (h.places.in_use a above) live)
      ]

  -- the node at hand is one of those that it reaches
  at_hand-live : (spot : Spot) → at.spot ≡ spot → (n : ℕ) → ReachesBySpot (word_in reader_scope core) n spot → IsLive (h.nodes.home n)
  at_hand-live spot e n reaches = reached-live n (by_spot (subst (ReachesBySpot (word_in reader_scope core) n) (sym e) reaches))

  standing-live : (spot : Spot) → at.spot ≡ spot → (v : Waiting) → Contains (waiting_at spot at.stack) v → IsLive (h.nodes.home v.node)
  standing-live resting e v among = reached-live v.node (by_stack v among (itself v.node))
  standing-live (at_child n level k) e v among =
      elim (cases_cons (waiting n level) at.stack v among) [
        | inl first ↦ subst (λ (x : Waiting). IsLive (h.nodes.home x.node)) first (at_hand-live (at_child n level k) e n (the_node level k))
        | inr later ↦ reached-live v.node (by_stack v later (itself v.node))
      ]
  standing-live (at_bound n level k x read) e v among =
      elim (cases_cons (waiting n level) at.stack v among) [
        | inl first ↦ subst (λ (y : Waiting). IsLive (h.nodes.home y.node)) first (at_hand-live (at_bound n level k x read) e n (the_node_of_bound level k x read))
        | inr later ↦ reached-live v.node (by_stack v later (itself v.node))
      ]

  -- there are ten levels
  pub level-low : (v : Waiting) → Contains (waiting_at at.spot at.stack) v → v.level ≤ 10
  level-low v among =
      let level = held.levels v among in
      let height = (live-sound v.node (standing-live at.spot refl v among)).height in
      omega arith

  room-at : (spot : Spot) → at.spot ≡ spot → IsShortAt spot at.stack → ((v : Waiting) → Contains (waiting_at spot at.stack) v → v.level ≤ 10) → length at.stack ≤ 30
  room-at resting e short low = let none = ap (length {A = Waiting}) short in omega arith
  room-at (at_child n level k) e short low =
      let room = short.1 in
      let three = short.0 in
      let ten = low (waiting n level) (contains_first (waiting n level) at.stack) in
      omega arith
  room-at (at_bound n level k x read) e short low =
      let room = short.2 in
      let three = short.0 in
      let ten = low (waiting n level) (contains_first (waiting n level) at.stack) in
      omega arith

  pub stack-room : length at.stack ≤ 30
  stack-room = room-at at.spot refl (position-orderly core.config query view.walk.loads).spot level-low

  with_node : (spot : Spot) → length (waiting_at spot at.stack) ≤ 31
  with_node resting = let room = stack-room in omega arith
  with_node (at_child n level k) = let room = stack-room in omega arith
  with_node (at_bound n level k x read) = let room = stack-room in omega arith

  pub standing-few : length (waiting_at at.spot at.stack) ≤ 31
  standing-few = with_node at.spot

  -- ---- what it reads next

  next-named : (rest : List Name) (spot : Spot) → ((name : Name) → Contains rest name → IsAskedWord core.config query.mask name) → IsShortAt spot at.stack
      → ((n : ℕ) → ReachesBySpot (word_in reader_scope core) n spot → n < node_count core.config)
      → (name : Name) → next_word rest spot ≡ Some name → IsName core.config name
  next-named [] resting words short below name e = absurd (none-some name e)
  next-named (first ∷ rest) resting words short below name e = (words name (0, omega arith, same_Some first name e)).named
  next-named rest (at_child n level k) words short below name e = subst (IsName core.config) (same_Some (Child n k) name e) (below n (the_node level k), short.0)
  next-named rest (at_bound n level k x read) words short below name e =
      subst (IsName core.config) (same_Some (Bound n k (length read)) name e) (below n (the_node_of_bound level k x read), short.0, short.1)

  pub next-of_world : (name : Name) → next_word at.rest at.spot ≡ Some name → IsName core.config name
  next-of_world =
      let orderly = position-orderly core.config query view.walk.loads in
      next-named at.rest at.spot orderly.words orderly.spot (λ n reaches. live-below n (at_hand-live at.spot refl n reaches))

  body-below : (n k i : ℕ) → IsChild h.nodes (sight tree_scope core) n k → word_of core (Child n k) ≡ body_child i → i < core.config.bodies
  body-below n k i (nothing e) is = absurd (omega arith)
  body-below n k i (a_body j below e) is = omega arith
  body-below n k i (a_node m e home parent depth) is = absurd (omega arith)

  -- a body that it reads as a child is one of the world
  pub child-of_world : (n level k i : ℕ) → at.spot ≡ at_child n level k → word_of core (Child n k) ≡ body_child i → i < core.config.bodies
  child-of_world n level k i e is =
      let low = subst (λ (spot : Spot). IsShortAt spot at.stack) e (position-orderly core.config query view.walk.loads).spot in
      body-below n k i ((live-sound n (at_hand-live (at_child n level k) e n (the_node level k))).children k low.0) is
