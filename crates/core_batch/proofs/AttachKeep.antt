-- The attachment of a batch keeps all invariants: its nodes are the new ones, and its bodies come into the broad phase.
use Rattle.std.proofs.Common.{◌≡◌, ◌∙◌, refl, sym, ap, subst}
use Rattle.word_map.specs.Names.{IsName}
use Rattle.core_state.specs.Core.{Core, IsViewAt}
use Rattle.core_state.specs.View.{IsPass}
use Rattle.core_state.specs.Kind.{Step, after_step}
use Rattle.core_state.specs.Batches.{MayAttach, attach}
use Rattle.core_state.specs.Invariants.{Invariants}
use Rattle.core_guard.proofs.Leaving.{Acts, lawful}
use Rattle.core_guard.proofs.LockSteps.{LocksAgree-other}
use Rattle.core_guard.proofs.Touched.{IsKept}
use Rattle.core_batch.proofs.Attaching.{Attaching, step_of}
use Rattle.core_batch.proofs.Attached.{nodes_after, core_after}
use Rattle.core_batch.proofs.AttachLeaves.{attach-acts, attach-leaves}
use Rattle.core_batch.proofs.AttachBodies.{BodiesAgree-attach}
use Rattle.core_batch.proofs.AttachNodes.{NodesInOnePlace-attach}
use Rattle.core_batch.proofs.AttachTrees.{TreesSound-attach, WalksLead-attach}
use Rattle.core_batch.proofs.AttachPlaces.{LocationsHold-attach}
use Rattle.core_batch.proofs.AttachCover.{BodiesCovered-attach}
use Rattle.core_batch.proofs.AttachReaders.{ReadersCounted-attach}

attached : (core : Core) (a : Attaching core) → Acts core (step_of core a) → Invariants (core_after core a)
attached core a acts =
    let h = acts.laws in
    let leaves = attach-leaves core a acts.formed h in
    record {
      nodes = nodes_after h.nodes core a;
      locks = LocksAgree-other core (step_of core a) (lawful acts) attach refl refl;
      bodies = BodiesAgree-attach core a acts.formed h acts.guards;
      places = NodesInOnePlace-attach core a acts;
      trees = TreesSound-attach core a acts;
      locations = LocationsHold-attach core a acts leaves;
      cover = BodiesCovered-attach core a acts leaves;
      walks = WalksLead-attach core a acts;
      readers = ReadersCounted-attach core a acts leaves;
    }

abbrev attaching : (core : Core) (step : Step) → IsViewAt core step.seat step.view → IsPass step.view step.number → MayAttach step.view step.name step.first step.second → Attaching core
attaching core step at pass asked = record {
  seat = step.seat;
  number = step.number;
  layer = asked.layer;
  slot = asked.slot;
  root = asked.root;
  second = step.second;
  view = step.view;
  batch = asked.batch;
  at = at;
  pass = pass;
  among = asked.has.among;
  for_slot = asked.has.for_slot;
  whole = asked.whole;
}

pub Invariants-attach : IsKept MayAttach attach
Invariants-attach before after steps formed guards h =
    let allowed = steps.allowed in
    let step = steps.step in
    let a = attaching before step allowed.at allowed.pass allowed.asked in
    let one : step_of before a ≡ step = λ i. record step { name = sym allowed.asked.names i; first = sym allowed.asked.attached i } in
    subst Invariants (ap (after_step attach before) one ∙ sym steps.result)
    (attached before a (attach-acts before a (subst (IsName before.config) allowed.asked.names allowed.named) formed guards h))
