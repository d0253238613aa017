-- Steps on seats, locks and lists, loads that ask nothing, and what they ask as tests.
use Rattle.std.proofs.Common.{◌≡◌, ℕ, suc, ◌+◌, ◌-◌, ◌^◌, Option, Some, None, refl}
use Rattle.word_map.specs.declared.name.Name.{Name}
use Rattle.word_map.specs.declared.name.Name.TheVariants.{Lock, SlotHead, SlotNext, State, Phase}
use Rattle.word_map.specs.Names.{index_lock, stripe_of}
use Rattle.core_state.specs.declared.view.Mode.{Mode}
use Rattle.core_state.specs.declared.view.Mode.TheVariants.{Read, Write}
use Rattle.core_state.specs.declared.view.View.{View}
use Rattle.core_state.specs.View.{known_word}
use Rattle.core_state.specs.Encoding.{phase_out}
use Rattle.core_state.specs.Core.{Core, word_of}
use Rattle.core_run.proofs.Tests.{◌>>=◌, same?, other?, below?, at_most?, above_zero?, some?, holds?, held?, free?, pass?, idle?}
use Rattle.core_run.proofs.Steps.{Test, Move, act}
use Rattle.core_state.specs.declared.view.Role.TheVariants.{Pass, Visitor}
use Rattle.core_state.specs.declared.view.Role.{Role}
use Rattle.core_state.specs.View.{blank_view}
use Rattle.core_state.specs.Seats.{after_split, visitor_of, joined_view, spent_view}
use Rattle.std.specs.Prelude.{slice_set}
use Rattle.core_state.specs.Looking.{MayLook, look}
use Rattle.core_state.specs.Locking.{MayLoadLock, load_lock, MayRead, take_read, MayWrite, take_write, MayRelease, release, bit_of}
use Rattle.core_state.specs.Lists.{list_lock, MayLoadList, load_list, MayStoreLink, store_link, MayStoreHead, store_head, HasList, IsLiveAndOut, takes_first, puts_first}
use Rattle.core_state.specs.Event.{opens_pass, splits_visitor, joins_visitor, looks, of_locks, of_lists, loads_lock, takes_read, takes_write, releases, loads_list, stores_link, stores_head}
use Rattle.core_run.proofs.Steps.{Ahead, view_at?}
use mathlib.Core.Option as maybe
use lib.ListN.{get_elem?}

-- ---- seats

-- a pass that has done nothing has no part but its number, and those that it has to give
abbrev pub opens : (seat number further : ℕ) → (core : Core) → get_elem? core.views seat ≡ maybe.some (blank_view core.config (Pass number (suc further))) → Ahead core
opens seat number further core at = (
  after_split core seat (blank_view core.config (Pass number 0)) (blank_view core.config (Pass (suc number) further)),
  opens_pass (record { seat = seat; number = number; further = further; at = at; result = refl }),
)

abbrev pub visitor? : (role : Role) → Option (role ≡ Visitor)
visitor? Visitor = Some refl
visitor? _ = None

abbrev pub sends_visitor : (seat : ℕ) → Move
sends_visitor seat core = do
  at ← view_at? core.views seat
  pass ← pass? at.0
  Some (after_split core seat at.0 (visitor_of at.0), splits_visitor (record { seat = seat; number = pass.0; view = at.0; at = at.1; pass = pass.1; result = refl }))

abbrev pub receives_visitor : (seat other : ℕ) → Move
receives_visitor seat other core = do
  at ← view_at? core.views seat
  pass ← pass? at.0
  apart ← other? other seat
  come ← view_at? core.views other
  visits ← visitor? come.0.role
  Some (
    record core { views = slice_set (slice_set core.views seat (joined_view at.0 come.0)) other spent_view },
    joins_visitor (record { seat = seat; other = other; number = pass.0; view = at.0; visitor = come.0; at = at.1; pass = pass.1; apart = apart; other_at = come.1; visits = visits; result = refl }),
  )

-- ---- looks and locks

abbrev pub may_look? : Test MayLook
may_look? view name first second = Some tt

abbrev pub looks_at : (seat : ℕ) → Name → Move
looks_at seat name = act look may_look? (λ before after s. looks s) seat name 0 0

abbrev pub may_load_lock? : Test MayLoadLock
may_load_lock? view (Lock lock) first second = Some (lock, refl)
may_load_lock? view _ first second = None

abbrev pub loads_lock_of : (seat lock : ℕ) → Move
loads_lock_of seat lock = act load_lock may_load_lock? (λ before after s. of_locks (loads_lock s)) seat (Lock lock) 0 0

abbrev pub may_read? : Test MayRead
may_read? view (Lock lock) expected new = do
  pass ← pass? view
  free ← free? view lock
  no_writer ← below? expected (2 ^ 32)
  adds ← same? new (expected + bit_of pass.0 Read)
  Some (record { lock = lock; number = pass.0; names = refl; pass = pass.1; free = free; no_writer = no_writer; adds = adds })
may_read? view _ expected new = None

abbrev pub locks_to_read : (seat lock : ℕ) → Move
locks_to_read seat lock core =
    act take_read may_read? (λ before after s. of_locks (takes_read s)) seat (Lock lock) (word_of core (Lock lock)) (word_of core (Lock lock) + bit_of seat Read) core

abbrev pub may_write? : Test MayWrite
may_write? view (Lock lock) expected new = do
  pass ← pass? view
  free ← free? view lock
  unheld ← same? expected 0
  adds ← same? new (bit_of pass.0 Write)
  Some (record { lock = lock; number = pass.0; names = refl; pass = pass.1; free = free; unheld = unheld; adds = adds })
may_write? view _ expected new = None

abbrev pub locks_to_write : (seat lock : ℕ) → Move
locks_to_write seat lock = act take_write may_write? (λ before after s. of_locks (takes_write s)) seat (Lock lock) 0 (bit_of seat Write)

abbrev pub may_release? : Test MayRelease
may_release? view (Lock lock) summand second = do
  pass ← pass? view
  holds ← held? view lock
  done ← idle? view.call.task
  takes ← same? summand (2 ^ 64 - bit_of pass.0 holds.0)
  Some (record { lock = lock; number = pass.0; mode = holds.0; names = refl; pass = pass.1; holds = holds.1; done = done; takes_away = takes })
may_release? view _ summand second = None

abbrev pub unlocks : (seat lock : ℕ) → Mode → Move
unlocks seat lock mode = act release may_release? (λ before after s. of_locks (releases s)) seat (Lock lock) (2 ^ 64 - bit_of seat mode) 0

-- ---- lists of free places

abbrev pub may_load_list? : Test MayLoadList
may_load_list? view name first second = do
  lock ← some? (list_lock view.config name)
  holds ← holds? view lock.0 Write
  Some (record { lock = lock.0; of_list = lock.1; holds = holds })

abbrev pub loads_list_word : (seat : ℕ) → Name → Move
loads_list_word seat name = act load_list may_load_list? (λ before after s. of_lists (loads_list s)) seat name 0 0

abbrev pub has_list? : (view : View) → Option (HasList view)
has_list? view = do
  lock ← holds? view (index_lock view.config) Write
  idle ← idle? view.call.task
  Some (record { lock = lock; idle = idle })

abbrev pub live_and_out? : (view : View) (index : ℕ) → Option (IsLiveAndOut view index)
live_and_out? view index = do
  below ← below? index view.config.bodies
  stripe ← holds? view (stripe_of view.config index) Write
  live ← at_most? 256 (known_word view (State index))
  out ← same? (known_word view (Phase index)) phase_out
  Some (record { below = below; stripe = stripe; live = live; out = out })

abbrev pub may_store_link? : Test MayStoreLink
may_store_link? view (SlotNext index) value second = do
  list ← has_list? view
  body ← live_and_out? view index
  link ← same? value (known_word view SlotHead)
  Some (record { index = index; names = refl; list = list; body = body; link = link })
may_store_link? view _ value second = None

abbrev pub links_index : (seat index : ℕ) → Move
links_index seat index core = act store_link may_store_link? (λ before after s. of_lists (stores_link s)) seat (SlotNext index) (word_of core SlotHead) 0 core

abbrev pub may_take_first? : Test MayStoreHead
may_take_first? view SlotHead value second = do
  list ← has_list? view
  index ← above_zero? (known_word view SlotHead)
  next ← same? value (known_word view (SlotNext index.0))
  Some (record { names = refl; list = list; change = takes_first (record { index = index.0; head = index.1; next = next }) })
may_take_first? view _ value second = None

abbrev pub takes_index : (seat index : ℕ) → Move
takes_index seat index core = act store_head may_take_first? (λ before after s. of_lists (stores_head s)) seat SlotHead (word_of core (SlotNext index)) 0 core

abbrev pub may_put_first? : Test MayStoreHead
may_put_first? view SlotHead (suc index) second = do
  list ← has_list? view
  body ← live_and_out? view index
  link ← same? (known_word view (SlotNext index)) (known_word view SlotHead)
  Some (record { names = refl; list = list; change = puts_first (record { index = index; body = body; link = link; head = refl }) })
may_put_first? view _ value second = None

abbrev pub puts_index : (seat index : ℕ) → Move
puts_index seat index = act store_head may_put_first? (λ before after s. of_lists (stores_head s)) seat SlotHead (suc index) 0
