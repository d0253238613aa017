-- Steps of walks, and what they ask as tests.
use Rattle.std.proofs.Common.{ℕ, Some, None, refl, ap, ◌∙◌}
use Rattle.word_map.specs.declared.name.Name.TheVariants.{Child, Bound, Main, Slot, Reader}
use Rattle.core_run.proofs.Tests.{◌>>=◌, same?, true?, false?, pass?}
use Rattle.core_run.proofs.Steps.{Test, Move, act}
use Rattle.core_state.specs.Walks.{MayBegin, begin_walk, MayEnd, end_walk, MayWalkSlot, walk_slot, MayWalkMain, walk_main, MayWalkChild, walk_child, MayWalkBound, walk_bound}
use Rattle.core_state.specs.Event.{of_walks, begins_walk, ends_walk, walks_slot, walks_main, walks_child, walks_bound}

abbrev pub may_begin? : Test MayBegin
may_begin? view (Reader number) summand second = do
  pass ← pass? view
  own ← same? pass.0 number
  one ← same? summand 1
  rests ← false? view.walk.is_on
  Some (record { number = number; names = refl; pass = pass.1 ∙ ap Some own; one = one; rests = rests })
may_begin? view _ summand second = None

abbrev pub begins_walking : (seat : ℕ) → Move
begins_walking seat = act begin_walk may_begin? (λ before after s. of_walks (begins_walk s)) seat (Reader seat) 1 0

abbrev pub may_end? : Test MayEnd
may_end? view (Reader number) summand second = do
  pass ← pass? view
  own ← same? pass.0 number
  one ← same? summand 1
  walks ← true? view.walk.is_on
  Some (record { number = number; names = refl; pass = pass.1 ∙ ap Some own; one = one; walks = walks })
may_end? view _ summand second = None

abbrev pub ends_walking : (seat : ℕ) → Move
ends_walking seat = act end_walk may_end? (λ before after s. of_walks (ends_walk s)) seat (Reader seat) 1 0

abbrev pub may_walk_slot? : Test MayWalkSlot
may_walk_slot? view (Slot layer slot) first second = do
  walks ← true? view.walk.is_on
  Some (record { layer = layer; slot = slot; names = refl; walks = walks })
may_walk_slot? view _ first second = None

abbrev pub walks_to_slot : (seat layer slot : ℕ) → Move
walks_to_slot seat layer slot = act walk_slot may_walk_slot? (λ before after s. of_walks (walks_slot s)) seat (Slot layer slot) 0 0

abbrev pub may_walk_main? : Test MayWalkMain
may_walk_main? view (Main layer) first second = do
  walks ← true? view.walk.is_on
  Some (record { layer = layer; names = refl; walks = walks })
may_walk_main? view _ first second = None

abbrev pub walks_to_main : (seat layer : ℕ) → Move
walks_to_main seat layer = act walk_main may_walk_main? (λ before after s. of_walks (walks_main s)) seat (Main layer) 0 0

abbrev pub may_walk_child? : Test MayWalkChild
may_walk_child? view (Child node child) first second = do
  walks ← true? view.walk.is_on
  Some (record { node = node; child = child; names = refl; walks = walks })
may_walk_child? view _ first second = None

abbrev pub walks_to_child : (seat node child : ℕ) → Move
walks_to_child seat node child = act walk_child may_walk_child? (λ before after s. of_walks (walks_child s)) seat (Child node child) 0 0

abbrev pub may_walk_bound? : Test MayWalkBound
may_walk_bound? view (Bound node child side) first second = do
  walks ← true? view.walk.is_on
  Some (record { node = node; child = child; side = side; names = refl; walks = walks })
may_walk_bound? view _ first second = None

abbrev pub walks_to_side : (seat node child side : ℕ) → Move
walks_to_side seat node child side = act walk_bound may_walk_bound? (λ before after s. of_walks (walks_bound s)) seat (Bound node child side) 0 0
