-- The steps on slots, own nodes and the pool keep all invariants.
use Rattle.std.proofs.Common.{◌≡◌, ℕ, Some, false, refl, ap, sym, subst, inl, inr}
use Rattle.std.proofs.lemmas.Bool.{false≢true}
use Rattle.std.proofs.lemmas.Option.{none-some}
use Rattle.word_map.specs.declared.name.Name.{Name}
use Rattle.word_map.specs.declared.name.Name.TheVariants.{Child, Bound, Parent}
use Rattle.core_state.specs.Core.{Core}
use Rattle.core_state.specs.Kind.{Kind, Step, learned, found_by, after_step}
use Rattle.core_state.specs.Batches.{MayReserve, reserve, MayStoreNode, store_node, MayLetSlotGo, let_slot_go}
use Rattle.core_state.specs.Pool.{MayStorePoolLink, store_pool_link, MayStorePoolHead, store_pool_head, MayStorePoolCount, store_pool_count}
use Rattle.core_state.specs.Frame.{IsOutside}
use Rattle.core_state.specs.Nodes.{node_in}
use Rattle.core_state.specs.LocksAgree.{LocksAgree, lock_scope}
use Rattle.core_state.specs.BodiesAgree.{BodiesAgreeIn, body_scope}
use Rattle.core_state.specs.NodesInOnePlace.{NodesInOnePlaceIn, node_scope}
use Rattle.core_state.proofs.Frames.{frame, step-same}
use Rattle.core_guard.proofs.Leaving.{Acts, lawful}
use Rattle.core_guard.proofs.ListSteps.{IsAsideWord, Invariants-aside}
use Rattle.core_guard.proofs.LockSteps.{LocksAgree-other, LeavesLocks}
use Rattle.core_guard.proofs.Touched.{Invariants-touches, IsKept, kept}
use Rattle.core_batch.proofs.LocksStay.{reserve-still, let_slot_go-still, pool_head-still}
use Rattle.core_batch.proofs.FreeBodies.{BodiesAgree-let_slot_go}
use Rattle.core_batch.proofs.Giving.{NodesInOnePlace-store_pool_head}
use Rattle.core_batch.proofs.PoolHeads.{pool_later}
use Rattle.core_batch.proofs.PoolBodies.{BodiesAgree-store_pool_link, BodiesAgree-store_pool_head, BodiesAgree-store_pool_count}
use Rattle.core_batch.proofs.PoolSteps.{counting-pool, NodesInOnePlace-store_pool_link, NodesInOnePlace-store_pool_count}
use Rattle.core_batch.proofs.PoolTouches.{touches-reserve, touches-let_slot_go, touches-store_node, touches-store_pool_head, pool_idle}
use Rattle.core_batch.proofs.ReserveBodies.{BodiesAgree-reserve}
use Rattle.core_batch.proofs.SlotSteps.{NodesInOnePlace-reserve, NodesInOnePlace-let_slot_go}

-- a kind that leaves the locks as they were
locks-still : (kind : Kind) → LeavesLocks kind → (core : Core) (step : Step) → Acts core step → lock_scope.names step.name ≡ false → LocksAgree (after_step kind core step)
locks-still kind still core step a hidden =
    LocksAgree-other core step (lawful a) kind hidden (still (learned core step) step.name (found_by core step) step.first step.second).0

-- ---- slots

pub Invariants-reserve : IsKept MayReserve reserve
Invariants-reserve = kept MayReserve reserve
    (λ core step a asked. Invariants-touches reserve core step a a.laws.nodes (touches-reserve core step a asked)
    (locks-still reserve reserve-still core step a (ap lock_scope.names asked.names)) (BodiesAgree-reserve core step a asked) (NodesInOnePlace-reserve core step a asked))

pub Invariants-let_slot_go : IsKept MayLetSlotGo let_slot_go
Invariants-let_slot_go = kept MayLetSlotGo let_slot_go
    (λ core step a asked. Invariants-touches let_slot_go core step a a.laws.nodes (touches-let_slot_go core step a asked)
    (locks-still let_slot_go let_slot_go-still core step a (ap lock_scope.names asked.names)) (BodiesAgree-let_slot_go core step a asked) (NodesInOnePlace-let_slot_go core step a asked))

-- ---- own nodes

-- a word of a node is none of a lock, of a body or of the pool
record IsOfNodes (name : Name) : Type 0 where
  locks : lock_scope.names name ≡ false
  bodies : body_scope.names name ≡ false
  pool : node_scope.names name ≡ false

node-name : (name : Name) (n : ℕ) → node_in name ≡ Some n → IsOfNodes name
node-name (Child m k) n e = record { locks = refl; bodies = refl; pool = refl }
node-name (Bound m k q) n e = record { locks = refl; bodies = refl; pool = refl }
node-name (Parent m) n e = record { locks = refl; bodies = refl; pool = refl }
node-name _ n e = absurd (none-some n e)

pub Invariants-store_node : IsKept MayStoreNode store_node
Invariants-store_node = kept MayStoreNode store_node
    (λ core step a asked.
    let name = node-name step.name asked.node asked.of_node in
    let bodies : IsOutside body_scope store_node core step = record { name = λ stored. name.bodies; entry = λ reads value. refl; part = refl } in
    let nodes : IsOutside node_scope store_node core step = record { name = λ stored. name.pool; entry = λ reads. absurd (false≢true reads); part = refl } in
    Invariants-touches store_node core step a a.laws.nodes (touches-store_node core step a asked) (LocksAgree-other core step (lawful a) store_node name.locks refl)
    (frame body_scope BodiesAgreeIn core (after_step store_node core step) (step-same body_scope store_node core step a.at a.pass bodies) a.laws.bodies)
    (frame node_scope (NodesInOnePlaceIn a.laws.nodes) core (after_step store_node core step) (step-same node_scope store_node core step a.at a.pass nodes) a.laws.places))

-- ---- the pool

-- no law of trees sees a step on a link or on the count
pub Invariants-store_pool_link : IsKept MayStorePoolLink store_pool_link
Invariants-store_pool_link = kept MayStorePoolLink store_pool_link
    (λ core step a asked.
    Invariants-aside store_pool_link core step (lawful a)
    (record { aside = subst IsAsideWord (sym asked.names) tt; entry = λ value. refl; batches = refl; written = refl; walk = refl; rebuild = refl; call = inl refl })
    (LocksAgree-other core step (lawful a) store_pool_link (ap lock_scope.names asked.names) refl)
    (BodiesAgree-store_pool_link core step a asked) (NodesInOnePlace-store_pool_link core step a asked))

pub Invariants-store_pool_count : IsKept MayStorePoolCount store_pool_count
Invariants-store_pool_count = kept MayStorePoolCount store_pool_count
    (λ core step a asked.
    Invariants-aside store_pool_count core step (lawful a)
    (record {
      aside = subst IsAsideWord (sym asked.names) tt;
      entry = λ value. refl;
      batches = refl;
      written = refl;
      walk = refl;
      rebuild = refl;
      call = inr (pool_idle step.view.call.task (counting-pool step.view step.first asked.count), tt);
    }) (LocksAgree-other core step (lawful a) store_pool_count (ap lock_scope.names asked.names) refl) (BodiesAgree-store_pool_count core step a asked) (NodesInOnePlace-store_pool_count core step a asked))

pub Invariants-store_pool_head : IsKept MayStorePoolHead store_pool_head
Invariants-store_pool_head = kept MayStorePoolHead store_pool_head
    (λ core step a asked. Invariants-touches store_pool_head core step a (pool_later core step a asked) (touches-store_pool_head core step a asked)
    (locks-still store_pool_head pool_head-still core step a (ap lock_scope.names asked.names)) (BodiesAgree-store_pool_head core step a asked) (NodesInOnePlace-store_pool_head core step a asked))
