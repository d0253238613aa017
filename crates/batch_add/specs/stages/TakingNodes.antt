-- How nodes of the pool are taken for the newest batch, turn by turn.
use Rattle.std.specs.Prelude.{◌≡◌, ◌≢◌, ℕ, zero, suc, ◌+◌, ◌-◌, ◌*◌, ◌<◌, ◌≤◌, ◌==◌, if◌then◌else◌, Bool, List, [], ◌∷◌, ◌++◌, length, take, slice_set, Option, Some, None, Result, Ok, Err}
use Rattle.std.proofs.Common.{append_assoc, cond, refl, ap, sym, ◌∙◌, subst}
use Rattle.std.proofs.lemmas.Bool.{eq-eqb}
use Rattle.word_map.specs.declared.config.Config.{Config}
use Rattle.word_map.specs.declared.name.Name.{Name}
use Rattle.word_map.specs.declared.name.Name.TheVariants.{PoolHead, PoolNext, PoolFree}
use Rattle.word_map.specs.Names.{pool_lock}
use Rattle.core_state.specs.declared.item.Item.{Item}
use Rattle.core_state.specs.declared.view.Mode.{Mode}
use Rattle.core_state.specs.declared.view.Mode.TheVariants.{Write}
use Rattle.core_state.specs.declared.view.LockStep.{LockStep}
use Rattle.core_state.specs.declared.view.LockStep.TheVariants.{Taken as TakenStep}
use Rattle.core_state.specs.declared.view.Task.{Task}
use Rattle.core_state.specs.declared.view.Task.TheVariants.{Nothing, Pooling}
use Rattle.core_state.specs.declared.view.Batch.{Batch}
use Rattle.core_state.specs.declared.view.View.{View}
use Rattle.core_state.specs.Log.{word, IsPrefix}
use Rattle.core_state.specs.View.{Holds, known_word, mode_of}
use Rattle.core_state.specs.Guards.{guard_of, by_lock}
use Rattle.core_state.specs.Quietly.{IsSteady, of_pass}
use Rattle.core_state.specs.Batches.{change_newest}
use Rattle.pass_table.specs.declared.take_op.TakeOp.{TakeOp}
use Rattle.pass_table.specs.declared.turn.Turn.{Turn}
use Rattle.pass_table.specs.Knowing.{KnowsMore}
use Rattle.pass_table.specs.TakeTurns.{taking_of, IsTaking, turns_left, taking-later}
use Rattle.pass_table.specs.Holding.{IsAtRest}
use Rattle.pass_table.specs.Calls.{AtPoint, IsTurn}
use Rattle.pass_table.proofs.TakingTurns.{taking-anew}
use Rattle.pass_table.proofs.Calling.{point-later, steady-more}
use Rattle.batch_add.specs.declared.node_taking.NodeStage.{NodeStage}
use Rattle.batch_add.specs.declared.node_taking.NodeStage.TheVariants.{Locking, Locked, Next, First, Linked, Taken, Leaving}
use Rattle.batch_add.specs.declared.node_taking.NodeTaking.{NodeTaking}
use Rattle.pass_table.specs.Work.{Work, begun, with_lock, HasWorked}
use Rattle.pass_table.proofs.WorkLater.{worked-sizes, worked-mode, worked-more}
use Rattle.batch_add.specs.Parts.{stored_as, StoresFrom, IsNewest, with_nodes, HasNodes, FoundFewNodes}

-- ---- how far it is

-- the newest batch has these nodes more
abbrev pub with_more : List ℕ → List Batch → List Batch
with_more nodes batches = change_newest (λ b. with_nodes b nodes) batches

-- what the pass is in the middle of when it has taken so many
abbrev pub pooling : ℕ → Task
pooling zero = Nothing
pooling (suc taken) = Pooling (suc taken) 0

-- the lock of the pool, taken
abbrev pub pool_step : Config → LockStep
pool_step c = TakenStep (pool_lock c) Write

-- the lock is held, and no node is taken
abbrev pub locked_work : View → Work
locked_work start = with_lock (begun start) (pool_step start.config)

-- so many nodes are taken, and these are they
abbrev pub taking_work : View → List ℕ → ℕ → Work
taking_work start nodes taken = record (locked_work start) { task = pooling taken; batches = with_more nodes start.batches }

-- the count of those that are left is stored
abbrev pub counted_work : View → List ℕ → ℕ → Work
counted_work start nodes left = record (locked_work start) { stores = stored_as PoolFree left ∷ []; batches = with_more nodes start.batches }

-- ---- stages

-- enough nodes were free, and the first of them are taken
pub record HasTakenSome (start : View) (operation : NodeTaking) (view : View) : Type 0 where
  pub worked : HasWorked start view (taking_work start (take operation.taken operation.nodes.items) operation.taken)
  pub free : known_word view PoolFree ≡ operation.free
  pub enough : operation.count ≤ operation.free

-- the head names this node
pub record IsFirstNode (start : View) (operation : NodeTaking) (view : View) (node : ℕ) : Type 0 where
  pub some : HasTakenSome start operation view
  pub short : operation.taken < operation.count
  pub below : node < start.config.nodes
  pub head : known_word view PoolHead ≡ suc node

-- what is there when the lock is to be let go
abbrev pub AtEnd : View → NodeTaking → View → Result (Unit {0}) ℕ → Type 0
AtEnd start operation view (Ok done) =
    (left : ℕ) × HasWorked start view (counted_work start operation.nodes.items left) × StoresFrom start view PoolFree (left + operation.count) left
AtEnd start operation view (Err free) =
    HasWorked start view (locked_work start) × (free < operation.count) × AtPoint start view (λ log. word start.config log PoolFree ≡ free)

-- what holds at a stage
abbrev pub AtNodes : View → NodeTaking → View → NodeStage → Type 0
AtNodes start operation view (Locking taking) =
    HasWorked start view (begun start) × IsTaking (taking_of (pool_lock start.config) Write) view taking view × (operation.taken ≡ 0)
AtNodes start operation view Locked = HasWorked start view (locked_work start) × (operation.taken ≡ 0)
AtNodes start operation view Next = HasTakenSome start operation view × (operation.taken < operation.count)
AtNodes start operation view (First node) = IsFirstNode start operation view node
AtNodes start operation view (Linked node link) = IsFirstNode start operation view node × (known_word view (PoolNext node) ≡ link)
AtNodes start operation view Taken = HasTakenSome start operation view × (operation.taken ≡ operation.count)
AtNodes start operation view (Leaving answer) = AtEnd start operation view answer

-- it was begun so, by a pass at rest that prepares a batch; some nodes are wanted, and there is room for them
pub record IsTakingNodes (first : NodeTaking) (start : View) (operation : NodeTaking) (view : View) : Type 0 where
  pub count : operation.count ≡ first.count
  pub long : length operation.nodes.items ≡ operation.count
  pub some : 0 < operation.count
  pub preparing : start.batches ≢ []
  pub rest : IsAtRest start
  pub stage : AtNodes start operation view operation.stage

-- so many are taken, for the newest batch; or fewer were free
abbrev pub IsNodesAnswer : ℕ → View → View → List ℕ → Result (Unit {0}) ℕ → Type 0
IsNodesAnswer count start next nodes (Ok done) = (before : List Batch) (batch : Batch) → IsNewest start before batch → HasNodes count before batch start next nodes
IsNodesAnswer count start next nodes (Err free) = FoundFewNodes count start next free

-- at its end
pub record HasTakenNodes (first : NodeTaking) (start : View) (last : NodeTaking) (next : View) (answer : Result (Unit {0}) ℕ) : Type 0 where
  pub count : last.count ≡ first.count
  pub is : IsNodesAnswer first.count start next last.nodes.items answer

-- ---- turns

-- three turns for each node that is not taken yet
abbrev pub stage_left : ℕ → ℕ → NodeStage → ℕ
stage_left count taken (Locking taking) = 3 * count + 3 + turns_left taking
stage_left count taken Locked = 3 * count + 3
stage_left count taken Next = 3 * (count - taken) + 2
stage_left count taken (First node) = 3 * (count - taken) + 1
stage_left count taken (Linked node link) = 3 * (count - taken)
stage_left count taken Taken = 2
stage_left count taken (Leaving answer) = 1

abbrev pub nodes_left : NodeTaking → ℕ
nodes_left operation = stage_left operation.count operation.taken operation.stage

-- the lock that it takes
abbrev pub takes_at : NodeStage → Option TakeOp
takes_at (Locking taking) = Some taking
takes_at _ = None

abbrev pub nodes_takes : NodeTaking → Option TakeOp
nodes_takes operation = takes_at operation.stage

abbrev pub IsNodesTurn : Turn (Result (Unit {0}) ℕ) → NodeTaking → NodeTaking → View → View → Type 0
IsNodesTurn turn before after view next = IsTurn IsTakingNodes (λ first start last answer. HasTakenNodes first start after last answer) nodes_left (λ operation. None) nodes_takes turn before after view next

-- a node more is taken, and it is the last one or not
pub record HasNotedNode (before : NodeTaking) (node : ℕ) (after : NodeTaking) : Type 0 where
  pub count : after.count ≡ before.count
  pub taken : after.taken ≡ suc before.taken
  pub free : after.free ≡ before.free
  pub nodes : after.nodes.items ≡ slice_set before.nodes.items before.taken node
  pub stage : after.stage ≡ (if suc before.taken == before.count then Taken else Next)

-- ---- the lock

module _ (start view : View) (w : Work) (rest : IsAtRest start) (worked : HasWorked start view w) (steps : w.steps ≡ pool_step start.config ∷ []) where
  pub pool-locked : Holds view (pool_lock view.config) Write
  pool-locked =
      let lock = pool_lock start.config in
      subst (λ (c : Config). Holds view (pool_lock c) Write) (sym (worked-sizes start view w worked))
      (worked-mode start view w worked rest lock ∙ (ap (λ (l : List LockStep). mode_of l lock) steps ∙ ap (λ (t : Bool). cond {A = Option Mode} t (Some Write) None) (eq-eqb lock lock refl)))

  -- words under it
  pub pool-steady : (name : Name) → guard_of view.config name ≡ Some (pool_lock view.config) → IsSteady view name
  pool-steady name guarded = of_pass (by_lock (pool_lock view.config) Write pool-locked guarded)

-- ---- a look or a meeting between two turns does no harm

-- what was stored, and in the place of what, stays so
pub from-later : (start view next : View) (name : Name) (old new : ℕ) → IsPrefix view.known next.known → StoresFrom start view name old new → StoresFrom start next name old new
from-later start view next name old new more from = record {
  since = from.since;
  item = from.item;
  later = from.later ++ more.0;
  parts = more.1 ∙ (ap (λ (l : List Item). l ++ more.0) from.parts ∙ append_assoc (start.known ++ from.since) (from.item ∷ from.later) more.0);
  pass = from.pass;
  named = from.named;
  is = from.is;
  was = from.was;
}

module _ (start : View) (operation : NodeTaking) (view next : View) (rest : IsAtRest start) (more : KnowsMore view next) where
  pub some-later : HasTakenSome start operation view → HasTakenSome start operation next
  some-later some = record {
    worked = worked-more start view next _ some.worked more;
    free = steady-more view next PoolFree more (pool-steady start view _ rest some.worked refl PoolFree refl) ∙ some.free;
    enough = some.enough;
  }

  pub first-later : (node : ℕ) → IsFirstNode start operation view node → IsFirstNode start operation next node
  first-later node first = record {
    some = some-later first.some;
    short = first.short;
    below = first.below;
    head = steady-more view next PoolHead more (pool-steady start view _ rest first.some.worked refl PoolHead refl) ∙ first.head;
  }

  end-later : (answer : Result (Unit {0}) ℕ) → AtEnd start operation view answer → AtEnd start operation next answer
  end-later (Ok done) h = (h.0, worked-more start view next _ h.1 more, from-later start view next PoolFree _ _ (more.since, more.known) h.2)
  end-later (Err free) h = (worked-more start view next _ h.0 more, h.1, point-later start view next _ (more.since, more.known) h.2)

  nodes-later : (stage : NodeStage) → AtNodes start operation view stage → AtNodes start operation next stage
  nodes-later (Locking taking) h = (worked-more start view next _ h.0 more, taking-anew _ view taking next (taking-later _ view taking view next more h.1), h.2)
  nodes-later Locked h = (worked-more start view next _ h.0 more, h.1)
  nodes-later Next h = (some-later h.0, h.1)
  nodes-later (First node) h = first-later node h
  nodes-later (Linked node link) h = (first-later node h.0, steady-more view next (PoolNext node) more (pool-steady start view _ rest h.0.some.worked refl (PoolNext node) refl) ∙ h.1)
  nodes-later Taken h = (some-later h.0, h.1)
  nodes-later (Leaving answer) h = end-later answer h

pub taking_nodes-later : (first : NodeTaking) (start : View) (operation : NodeTaking) (view next : View) → KnowsMore view next → IsTakingNodes first start operation view → IsTakingNodes first start operation next
taking_nodes-later first start operation view next more taking = record {
  count = taking.count;
  long = taking.long;
  some = taking.some;
  preparing = taking.preparing;
  rest = taking.rest;
  stage = nodes-later start operation view next taking.rest more operation.stage taking.stage;
}
