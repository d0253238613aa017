-- Every event keeps all invariants, and what passes have for themselves: a line for each group.
use Rattle.std.proofs.Common.{refl}
use Rattle.word_map.specs.declared.config.Config.{Config}
use Rattle.word_map.specs.Limits.{IsConfig}
use Rattle.core_state.specs.Core.{Core, opening}
use Rattle.core_state.specs.Event.{Event, opens_pass, splits_visitor, joins_visitor, looks, of_locks, of_lists, of_bodies, of_batches, of_pool, of_walks, of_moves, of_removals, of_updates, Run, begins, goes_on}
use Rattle.core_state.specs.Formed.{IsFormed}
use Rattle.core_state.specs.Guards.{GuardsHold}
use Rattle.core_state.specs.Invariants.{Invariants}
use Rattle.core_state.specs.Keeping.{KeepsAll}
use Rattle.core_state.proofs.Forming.{IsFormed-event, IsFormed-opening}
use Rattle.core_state.proofs.Guarding.{GuardsHold-load, GuardsHold-opens, GuardsHold-visits, GuardsHold-joins, GuardsHold-opening}
use Rattle.core_state.proofs.Keeping.{Invariants-unseen, visits-unseen, joins-unseen, load-unseen, look-plain}
use Rattle.core_state.proofs.Opening.{Invariants-opening}
use Rattle.core_guard.proofs.Keeping.{locks-keep, lists-keep, bodies-keep}
use Rattle.core_guard.proofs.Opened.{Invariants-opens}
use Rattle.core_batch.proofs.Keeping.{batches-keep, pool-keep}
use Rattle.core_query.proofs.Keeping.{walks-keep}
use Rattle.core_move.proofs.Keeping.{moves-keep}
use Rattle.core_move.proofs.Removals.{removals-keep}
use Rattle.core_update.proofs.UpdatesKeep.{updates-keep}

pub events-keep : KeepsAll Event
events-keep before after (opens_pass e) formed guards h = (Invariants-opens before after e h, GuardsHold-opens before after e guards)
events-keep before after (splits_visitor e) formed guards h = (Invariants-unseen before after (visits-unseen before after e) h, GuardsHold-visits before after e guards)
events-keep before after (joins_visitor e) formed guards h = (Invariants-unseen before after (joins-unseen before after e) h, GuardsHold-joins before after e formed guards)
events-keep before after (looks e) formed guards h = (Invariants-unseen before after (load-unseen _ _ before after look-plain e) h, GuardsHold-load _ _ before after (λ found first. refl) e guards)
events-keep before after (of_locks e) formed guards h = locks-keep before after e formed guards h
events-keep before after (of_lists e) formed guards h = lists-keep before after e formed guards h
events-keep before after (of_bodies e) formed guards h = bodies-keep before after e formed guards h
events-keep before after (of_batches e) formed guards h = batches-keep before after e formed guards h
events-keep before after (of_pool e) formed guards h = pool-keep before after e formed guards h
events-keep before after (of_walks e) formed guards h = walks-keep before after e formed guards h
events-keep before after (of_moves e) formed guards h = moves-keep before after e formed guards h
events-keep before after (of_removals e) formed guards h = removals-keep before after e formed guards h
events-keep before after (of_updates e) formed guards h = updates-keep before after e formed guards h

pub Invariants-event : (before after : Core) → Event before after → IsFormed before → GuardsHold before → Invariants before → Invariants after
Invariants-event before after event formed guards h = (events-keep before after event formed guards h).0

pub GuardsHold-event : (before after : Core) → Event before after → IsFormed before → Invariants before → GuardsHold before → GuardsHold after
GuardsHold-event before after event formed h guards = (events-keep before after event formed guards h).1

-- all that holds in every run
pub record HoldsAll (core : Core) : Type 0 where
  pub formed : IsFormed core
  pub laws : Invariants core
  pub guards : GuardsHold core

pub all-run : (c : Config) (last : Core) → IsConfig c → Run (opening c) last → HoldsAll last
all-run c last sizes begins = record { formed = IsFormed-opening c sizes; laws = Invariants-opening c sizes; guards = GuardsHold-opening c }
all-run c last sizes (goes_on {last = middle} run event) =
    let h = all-run c middle sizes run in
    let kept = events-keep middle last event h.formed h.guards h.laws in
    record { formed = IsFormed-event middle last event h.formed; laws = kept.0; guards = kept.1 }
