-- Taking the tree of a word out of sight keeps all invariants, where the nodes are in one place afterwards.
use Rattle.std.proofs.Common.{◌≡◌, false, true, refl}
use Rattle.word_map.specs.declared.name.Name.{Name}
use Rattle.word_map.specs.declared.name.Name.TheVariants.{Main, Slot}
use Rattle.core_state.specs.declared.view.Rebuild.{Rebuild}
use Rattle.core_state.specs.Core.{Core}
use Rattle.core_state.specs.Kind.{Kind, Step, after_step}
use Rattle.core_state.specs.Invariants.{Invariants}
use Rattle.core_state.specs.LocksAgree.{lock_scope}
use Rattle.core_state.specs.NodesInOnePlace.{NodesInOnePlace}
use Rattle.core_guard.proofs.Leaving.{Acts, lawful}
use Rattle.core_guard.proofs.LockSteps.{LocksAgree-other}
use Rattle.core_update.proofs.Publishing.{Published, Publishes, homes_after, is_tree_name}
use Rattle.core_update.proofs.PublishBodies.{BodiesAgree-published}
use Rattle.core_update.proofs.PublishCover.{BodiesCovered-published}
use Rattle.core_update.proofs.PublishPlaces.{LocationsHold-published}
use Rattle.core_update.proofs.PublishReaders.{ReadersCounted-published}
use Rattle.core_update.proofs.PublishTrees.{TreesSound-published}
use Rattle.core_update.proofs.PublishWalks.{WalksLead-published}

lockless : (name : Name) → is_tree_name name ≡ true → lock_scope.names name ≡ false
lockless (Main l) e = refl
lockless (Slot l t) e = refl
lockless _ e = absurd cc

pub Invariants-published : (kind : Kind) (core : Core) (step : Step) (a : Acts core step) (r : Rebuild) (q : Published) → Publishes kind core step a r q → NodesInOnePlace (homes_after kind core step a r q) (after_step kind core step)
    → Invariants (after_step kind core step)
Invariants-published kind core step a r q p places = record {
  nodes = homes_after kind core step a r q;
  locks = LocksAgree-other core step (lawful a) kind (lockless step.name p.tree_word) p.locks;
  bodies = BodiesAgree-published kind core step a r q p;
  places = places;
  trees = TreesSound-published kind core step a r q p;
  locations = LocationsHold-published kind core step a r q p;
  cover = BodiesCovered-published kind core step a r q p;
  walks = WalksLead-published kind core step a r q p;
  readers = ReadersCounted-published kind core step a r q p;
}
