-- The last steps of an update, and what they ask as tests.
use Rattle.std.proofs.Common.{◌≡◌, ℕ, suc, ◌-◌, List, [], ◌∷◌, length, Contains, Option, Some, None, refl, ◌∙◌}
use Rattle.word_map.specs.declared.config.Config.{Config}
use Rattle.word_map.specs.declared.name.Name.TheVariants.{LocA, LocB, Child, PoolHead, PoolNext, Reader, Update, Arena}
use Rattle.word_map.specs.Names.{pool_lock, stripe_of}
use Rattle.core_state.specs.declared.view.Mode.TheVariants.{Write}
use Rattle.core_state.specs.declared.view.Waiting.{Waiting}
use Rattle.core_state.specs.declared.view.Rebuild.{Rebuild}
use Rattle.core_state.specs.declared.view.View.{View}
use Rattle.core_state.specs.View.{known_word}
use Rattle.core_state.specs.Core.{word_of}
use Rattle.core_state.specs.Event.{of_updates}
use Rattle.core_run.proofs.Tests.{◌>>=◌, same?, other?, true?, false?, some?, empty?, each?, member?, absent?, holds?, idle?}
use Rattle.core_run.proofs.Steps.{Test, Move, act}
use Rattle.core_state.specs.Retiring.{IsPublishing, IsToPromote, MayPromote, promote, MayClearSecond, clear_second, MayFindSecond, find_second, MayLoadReader, load_reader, IsNextToReturn, MayLoadReturned, load_returned, MayLinkReturned, link_returned, MayGiveReturned, give_returned, IsAtEnd, MaySwitchArena, switch_arena, MayEndUpdate, end_update}
use Rattle.core_state.specs.UpdateEvent.{promotes, clears_second, finds_second, loads_reader, loads_returned, links_returned, gives_returned, switches_arena, ends_update}
use Rattle.core_state.specs.Walking.{waiting}
use Rattle.core_run.proofs.Moves.{settled?}
use Rattle.core_run.proofs.Preparing.{has_pool?}

-- ---- promotion

abbrev pub publishing? : (c : Config) (r : Rebuild) → Option (IsPublishing c r)
publishing? c r = do
  swapped ← same? (length r.swapped) c.layers
  cleared ← same? r.cleared (length r.merged)
  Some (record { all_swapped = swapped; all_cleared = cleared })

abbrev pub to_promote? : (view : View) (index : ℕ) → Option (IsToPromote view index)
to_promote? view index = do
  r ← some? view.rebuild
  published ← publishing? view.config r.0
  placed ← member? r.0.placed index
  unpromoted ← absent? r.0.promoted index
  idle ← idle? view.call.task
  stripe ← holds? view (stripe_of view.config index) Write
  Some (record { r = r.0; update = r.1; published = published; placed = placed; unpromoted = unpromoted; idle = idle; stripe = stripe })

abbrev pub may_promote? : Test MayPromote
may_promote? view (LocA index) value second = do
  to_promote ← to_promote? view index
  settled ← settled? view index
  has ← other? (known_word view (LocB index)) 0
  as_second ← same? value (known_word view (LocB index))
  Some (record { index = index; names = refl; to_promote = to_promote; settled = settled; has_second = has; as_second = as_second })
may_promote? view _ value second = None

abbrev pub promotes_body : (seat index : ℕ) → Move
promotes_body seat index core = act promote may_promote? (λ before after s. of_updates (promotes s)) seat (LocA index) (word_of core (LocB index)) 0 core

abbrev pub may_clear_second? : Test MayClearSecond
may_clear_second? view (LocB index) value second = do
  to_promote ← to_promote? view index
  settled ← settled? view index
  has ← other? (known_word view (LocB index)) 0
  same ← same? (known_word view (LocA index)) (known_word view (LocB index))
  none ← same? value 0
  Some (record { index = index; names = refl; to_promote = to_promote; settled = settled; has_second = has; same = same; none = none })
may_clear_second? view _ value second = None

abbrev pub clears_second_location : (seat index : ℕ) → Move
clears_second_location seat index = act clear_second may_clear_second? (λ before after s. of_updates (clears_second s)) seat (LocB index) 0 0

abbrev pub may_find_second? : Test MayFindSecond
may_find_second? view (LocB index) first second = do
  to_promote ← to_promote? view index
  Some (record { index = index; names = refl; to_promote = to_promote })
may_find_second? view _ first second = None

abbrev pub finds_second_location : (seat index : ℕ) → Move
finds_second_location seat index = act find_second may_find_second? (λ before after s. of_updates (finds_second s)) seat (LocB index) 0 0

-- ---- readers

abbrev pub may_load_reader? : Test MayLoadReader
may_load_reader? view (Reader number) first second = do
  r ← some? view.rebuild
  published ← publishing? view.config r.0
  unreclaimed ← false? r.0.is_reclaimed
  idle ← idle? view.call.task
  Some (record { number = number; r = r.0; names = refl; update = r.1; published = published; unreclaimed = unreclaimed; idle = idle })
may_load_reader? view _ first second = None

abbrev pub loads_reader_of : (seat number : ℕ) → Move
loads_reader_of seat number = act load_reader may_load_reader? (λ before after s. of_updates (loads_reader s)) seat (Reader number) 0 0

-- ---- nodes are given back

abbrev pub first_of? : (tops : List Waiting) → Option ((w : Waiting) × (rest : List Waiting) × (tops ≡ w ∷ rest))
first_of? [] = None
first_of? (w ∷ rest) = Some (w, rest, refl)

pub of_node : (w : Waiting) (rest tops : List Waiting) (node : ℕ) → tops ≡ w ∷ rest → w.node ≡ node → tops ≡ waiting node w.level ∷ rest
of_node w rest tops node e f = e ∙ (λ i. record { node = f i; level = w.level } ∷ rest)

abbrev pub to_return? : (view : View) (node : ℕ) → Option (IsNextToReturn view node)
to_return? view node = do
  r ← some? view.rebuild
  top ← first_of? r.0.returning
  same ← same? top.0.node node
  Some (record { r = r.0; level = top.0.level; rest = top.1; update = r.1; first = of_node top.0 top.1 r.0.returning node top.2 same })

abbrev pub may_load_returned? : Test MayLoadReturned
may_load_returned? view (Child node child) first second = do
  lock ← holds? view (pool_lock view.config) Write
  next ← to_return? view node
  Some (record { node = node; child = child; names = refl; lock = lock; next = next })
may_load_returned? view _ first second = None

abbrev pub loads_child_returned : (seat node child : ℕ) → Move
loads_child_returned seat node child = act load_returned may_load_returned? (λ before after s. of_updates (loads_returned s)) seat (Child node child) 0 0

abbrev pub may_link_returned? : Test MayLinkReturned
may_link_returned? view (PoolNext node) value second = do
  pool ← has_pool? view
  next ← to_return? view node
  link ← same? value (known_word view PoolHead)
  Some (record { node = node; names = refl; pool = pool; next = next; link = link })
may_link_returned? view _ value second = None

abbrev pub links_node_returned : (seat node : ℕ) → Move
links_node_returned seat node core = act link_returned may_link_returned? (λ before after s. of_updates (links_returned s)) seat (PoolNext node) (word_of core PoolHead) 0 core

abbrev pub may_give_returned? : Test MayGiveReturned
may_give_returned? view PoolHead (suc node) second = do
  pool ← has_pool? view
  next ← to_return? view node
  link ← same? (known_word view (PoolNext node)) (known_word view PoolHead)
  Some (record { node = node; names = refl; pool = pool; next = next; link = link; head = refl })
may_give_returned? view _ value second = None

abbrev pub gives_node_returned : (seat node : ℕ) → Move
gives_node_returned seat node = act give_returned may_give_returned? (λ before after s. of_updates (gives_returned s)) seat PoolHead (suc node) 0

-- ---- the end

abbrev pub at_end? : (view : View) → Option ((r : Rebuild) × (old : ℕ) × IsAtEnd view r old)
at_end? view = do
  r ← some? view.rebuild
  arena ← some? r.0.arena
  published ← publishing? view.config r.0
  promoted ← each? {P = λ index. Contains r.0.promoted index} (λ index. member? r.0.promoted index) r.0.placed
  reclaimed ← true? r.0.is_reclaimed
  none ← empty? r.0.returning
  Some (r.0, arena.0, record { update = r.1; arena = arena.1; published = published; promoted = promoted; reclaimed = reclaimed; none_left = none })

abbrev pub may_switch_arena? : Test MaySwitchArena
may_switch_arena? view Arena value second = do
  ends ← at_end? view
  unswitched ← false? ends.0.is_switched
  other ← same? value (1 - ends.1)
  Some (record { r = ends.0; old = ends.1; names = refl; ends = ends.2; unswitched = unswitched; other = other })
may_switch_arena? view _ value second = None

abbrev pub switches_to_arena : (seat arena : ℕ) → Move
switches_to_arena seat arena = act switch_arena may_switch_arena? (λ before after s. of_updates (switches_arena s)) seat Arena arena 0

abbrev pub may_end_update? : Test MayEndUpdate
may_end_update? view Update value second = do
  ends ← at_end? view
  idle ← idle? view.call.task
  switched ← true? ends.0.is_switched
  none ← same? value 0
  Some (record { r = ends.0; old = ends.1; names = refl; ends = ends.2; idle = idle; switched = switched; none = none })
may_end_update? view _ value second = None

abbrev pub ends_updating : (seat : ℕ) → Move
ends_updating seat = act end_update may_end_update? (λ before after s. of_updates (ends_update s)) seat Update 0 0
