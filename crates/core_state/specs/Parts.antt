-- Parts of a view that laws read: of a call those tasks of which a law speaks, of an update those fields. Any other task
-- counts as none, and any other field is as in an update that has done nothing.
use Rattle.std.specs.Prelude.{[], false, None}
use Rattle.core_state.specs.declared.view.Task.{Task}
use Rattle.core_state.specs.declared.view.Task.TheVariants.{Nothing, Pooling, Moving, Removing, Placing}
use Rattle.core_state.specs.declared.view.Call.{Call}
use Rattle.core_state.specs.declared.view.Rebuild.{Rebuild}
use Rattle.core_state.specs.View.{no_call}

-- ---- what a pass is in the middle of

-- a call that is at this task, and of which no loads and stores are read
abbrev pub call_at : Task → Call
call_at task = record no_call { task = task }

-- what it is at, and what it stored
abbrev pub call_without_loads : Call → Call
call_without_loads call = record call { loads = [] }

-- tasks on the pool
abbrev pub task_on_pool : Task → Task
task_on_pool (Pooling taken given) = Pooling taken given
task_on_pool _ = Nothing

-- calls that move, remove or place a body, whole
abbrev pub call_by_task : Task → Call → Call
call_by_task (Moving index target) call = call
call_by_task (Removing index) call = call
call_by_task (Placing index) call = call
call_by_task _ call = no_call

abbrev pub call_on_places : Call → Call
call_on_places call = call_by_task call.task call

-- tasks that end with another location of a body
abbrev pub task_on_cover : Task → Task
task_on_cover (Removing index) = Removing index
task_on_cover (Placing index) = Placing index
task_on_cover _ = Nothing

-- tasks of those who stand at a location of a body
abbrev pub task_at_place : Task → Task
task_at_place (Moving index target) = Moving index target
task_at_place (Removing index) = Removing index
task_at_place _ = Nothing

-- ---- what an update has done

-- an update that has done nothing
abbrev pub no_rebuild : Rebuild
no_rebuild = record {
  from = 0;
  arena = None;
  slots_read = 0;
  merged = [];
  passed = 0;
  noted = [];
  nodes = [];
  made = [];
  is_planned = false;
  roots = [];
  placed = [];
  given_up = [];
  swapped = [];
  cleared = 0;
  promoted = [];
  readers = [];
  is_reclaimed = false;
  returning = [];
  is_switched = false;
}

-- where its nodes are
abbrev pub update_on_nodes : Rebuild → Rebuild
update_on_nodes r = record no_rebuild {
  arena = r.arena;
  nodes = r.nodes;
  made = r.made;
  is_planned = r.is_planned;
  swapped = r.swapped;
  is_reclaimed = r.is_reclaimed;
  is_switched = r.is_switched;
}

-- its trees: those that it makes, those that it took out of sight, those that it gives back
abbrev pub update_on_trees : Rebuild → Rebuild
update_on_trees r = record no_rebuild {
  merged = r.merged;
  is_planned = r.is_planned;
  roots = r.roots;
  swapped = r.swapped;
  cleared = r.cleared;
  is_reclaimed = r.is_reclaimed;
  returning = r.returning;
}

-- where it places bodies
abbrev pub update_on_places : Rebuild → Rebuild
update_on_places r = record no_rebuild {
  merged = r.merged;
  noted = r.noted;
  is_planned = r.is_planned;
  placed = r.placed;
  given_up = r.given_up;
  swapped = r.swapped;
  cleared = r.cleared;
  promoted = r.promoted;
}

-- what it noted of bodies and of slots
abbrev pub update_on_cover : Rebuild → Rebuild
update_on_cover r = record no_rebuild {
  from = r.from;
  slots_read = r.slots_read;
  merged = r.merged;
  passed = r.passed;
  noted = r.noted;
  placed = r.placed;
  given_up = r.given_up;
  swapped = r.swapped;
  cleared = r.cleared;
}

-- the boxes that it noted, and the readers that it loaded
abbrev pub update_on_readers : Rebuild → Rebuild
update_on_readers r = record no_rebuild {
  from = r.from;
  noted = r.noted;
  is_planned = r.is_planned;
  readers = r.readers;
}
