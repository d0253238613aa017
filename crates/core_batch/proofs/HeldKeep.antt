-- The steps on the bodies of a batch keep all invariants: a body is marked, placed, taken back and unmarked.
use Rattle.std.proofs.Common.{◌≡◌, false, ap}
use Rattle.core_state.specs.Core.{Core}
use Rattle.core_state.specs.Kind.{Kind, Step, view_after, after_step}
use Rattle.core_state.specs.Batches.{MayMark, mark, MayPlace, place_body, MayTakeBack, take_back, MayUnmark, unmark}
use Rattle.core_state.specs.LocksAgree.{LocksAgree}
use Rattle.core_state.specs.BodiesAgree.{BodiesAgree}
use Rattle.core_state.specs.NodesInOnePlace.{node_scope}
use Rattle.core_state.specs.Invariants.{Invariants}
use Rattle.core_guard.proofs.Leaving.{Acts, lawful, Touches}
use Rattle.core_guard.proofs.NodesLeft.{NodesInOnePlace-rebatched}
use Rattle.core_guard.proofs.Touched.{Invariants-touches, IsKept, kept}
use Rattle.core_batch.proofs.HeldFacts.{Rebatches}
use Rattle.core_batch.proofs.MarkSteps.{touches-mark, rebatches-mark, LocksAgree-mark, BodiesAgree-mark}
use Rattle.core_batch.proofs.UnmarkSteps.{touches-unmark, rebatches-unmark, LocksAgree-unmark, BodiesAgree-unmark}
use Rattle.core_batch.proofs.PlaceSteps.{touches-place_body, rebatches-place_body, LocksAgree-place_body, BodiesAgree-place_body, touches-take_back, rebatches-take_back, LocksAgree-take_back, BodiesAgree-take_back}

-- where batches alone are changed, and keep their nodes, nodes stay where they are
rebatched : (kind : Kind) (core : Core) (step : Step) (a : Acts core step) → node_scope.names step.name ≡ false → Rebatches step.view (view_after kind core step) → Touches kind core step a.laws.nodes a.laws.nodes
    → LocksAgree (after_step kind core step) → BodiesAgree (after_step kind core step) → Invariants (after_step kind core step)
rebatched kind core step a hidden r touches locks bodies =
    Invariants-touches kind core step a a.laws.nodes touches locks bodies
    (NodesInOnePlace-rebatched kind core step (lawful a) hidden r.locks r.call r.nodes r.loose r.rebuild)

pub Invariants-mark : IsKept MayMark mark
Invariants-mark = kept MayMark mark
    (λ core step a asked. rebatched mark core step a (ap node_scope.names asked.names) (rebatches-mark core step a asked) (touches-mark core step a asked)
    (LocksAgree-mark core step a asked) (BodiesAgree-mark core step a asked))

pub Invariants-unmark : IsKept MayUnmark unmark
Invariants-unmark = kept MayUnmark unmark
    (λ core step a asked. rebatched unmark core step a (ap node_scope.names asked.names) (rebatches-unmark core step a asked) (touches-unmark core step a asked)
    (LocksAgree-unmark core step a asked) (BodiesAgree-unmark core step a asked))

pub Invariants-place_body : IsKept MayPlace place_body
Invariants-place_body = kept MayPlace place_body
    (λ core step a asked. rebatched place_body core step a (ap node_scope.names asked.names) (rebatches-place_body core step a asked) (touches-place_body core step a asked)
    (LocksAgree-place_body core step a asked) (BodiesAgree-place_body core step a asked))

pub Invariants-take_back : IsKept MayTakeBack take_back
Invariants-take_back = kept MayTakeBack take_back
    (λ core step a asked. rebatched take_back core step a (ap node_scope.names asked.names) (rebatches-take_back core step a asked) (touches-take_back core step a asked)
    (LocksAgree-take_back core step a asked) (BodiesAgree-take_back core step a asked))
