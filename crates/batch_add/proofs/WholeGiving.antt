-- Steps of giving a batch up one after the other.
use Rattle.std.proofs.Common.{ℕ, ◌<◌, List, refl}
use Rattle.core_state.specs.declared.view.Batch.{Batch}
use Rattle.core_state.specs.declared.view.View.{View}
use Rattle.core_state.specs.View.{IsPass}
use Rattle.batch_add.specs.declared.kept_batch.KeptBatch.{KeptBatch}
use Rattle.batch_add.specs.declared.giving_up.GiveStage.TheVariants.{Next, Given}
use Rattle.batch_add.specs.stages.Keeping.{IsBegunFor}
use Rattle.batch_add.specs.stages.GiveSteps.{Progress, AtStage, HasUnmarked, HasPut, IsSoFar, Leads}
use Rattle.batch_add.proofs.GiveBodies.{none-unmarked}
use Rattle.batch_add.proofs.GiveNodes.{node-next, nodes-done}

-- a batch is begun to be given up
pub begun-so-far : (kept : KeptBatch) (view : View) (number : ℕ) → IsPass view number → ((before : List Batch) × (batch : Batch) × (after : List Batch) × IsBegunFor kept view before batch after) → IsSoFar kept (HasUnmarked 0) view
begun-so-far kept view number pass some = record {
  start = view;
  before = some.0;
  batch = some.1;
  after = some.2;
  begun = some.3;
  at = none-unmarked kept view number pass some.0 some.1 some.2 some.3;
}

-- what is so far is further after what leads on
pub so-far-on : (kept : KeptBatch) (from to : Progress) (view next : View) → IsSoFar kept from view → Leads kept from view to next → IsSoFar kept to next
so-far-on kept from to view next so leads = record {
  start = so.start;
  before = so.before;
  batch = so.batch;
  after = so.after;
  begun = so.begun;
  at = leads so.start so.before so.batch so.after so.begun so.at;
}

-- one after the other
pub leads-then : (kept : KeptBatch) (from mid to : Progress) (view between next : View) → Leads kept from view mid between → Leads kept mid between to next → Leads kept from view to next
leads-then kept from mid to view between next one two = λ start before batch after begun at. two start before batch after begun (one start before batch after begun at)

-- where a node is left it is next
pub puts-next : (kept : KeptBatch) (free given : ℕ) (view : View) → given < kept.node_count → Leads kept (HasPut free given) view (AtStage (Next free given)) view
puts-next kept free given view less = λ start before batch after begun put. node-next start before batch after kept begun view free given put less

-- and where all nodes are put they are given back
pub puts-done : (kept : KeptBatch) (free : ℕ) (view : View) → 0 < kept.node_count → Leads kept (HasPut free kept.node_count) view (AtStage (Given free)) view
puts-done kept free view some = λ start before batch after begun put. nodes-done start before batch after kept begun view free kept.node_count put refl some
