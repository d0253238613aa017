-- Events that no invariant sees keep all of them.
use Rattle.std.proofs.Common.{None, refl, ap, sym, ◌∙◌, subst}
use Rattle.std.proofs.lemmas.Bool.{false≢true}
use Rattle.core_state.specs.declared.view.View.{View}
use Rattle.core_state.specs.Core.{Core}
use Rattle.core_state.specs.Kind.{Kind, Asking, Steps, found_by, learned, log_after}
use Rattle.core_state.specs.Seats.{Visits, Joins}
use Rattle.core_state.specs.Looking.{look}
use Rattle.core_state.specs.Locking.{load_lock}
use Rattle.core_state.specs.Lists.{load_list}
use Rattle.core_state.specs.Lives.{load_body}
use Rattle.core_state.specs.Batches.{load_slot}
use Rattle.core_state.specs.Scope.{Scope, IsSameTo, bare_view}
use Rattle.core_state.specs.Frame.{IsOutside, ReadsNoLog}
use Rattle.core_state.specs.LocksAgree.{LocksAgreeIn, lock_scope}
use Rattle.core_state.specs.BodiesAgree.{BodiesAgreeIn, body_scope}
use Rattle.core_state.specs.NodesInOnePlace.{NodesInOnePlaceIn, node_scope}
use Rattle.core_state.specs.TreesSound.{TreesSoundIn, tree_scope}
use Rattle.core_state.specs.LocationsHold.{LocationsHoldIn, location_scope}
use Rattle.core_state.specs.BodiesCovered.{BodiesCoveredIn, cover_scope}
use Rattle.core_state.specs.WalksLead.{WalksLeadIn, walk_scope}
use Rattle.core_state.specs.ReadersCounted.{ReadersCountedIn, reader_scope}
use Rattle.core_state.specs.Invariants.{Invariants}
use Rattle.core_state.specs.Unseen.{IsUnseen, IsPlainLoad}
use Rattle.core_state.proofs.Frames.{frame, step-same, visits-same, joins-same}

pub Invariants-unseen : (before after : Core) → IsUnseen before after → Invariants before → Invariants after
Invariants-unseen before after same h = record {
  nodes = h.nodes;
  locks = frame lock_scope LocksAgreeIn before after same.locks h.locks;
  bodies = frame body_scope BodiesAgreeIn before after same.bodies h.bodies;
  places = frame node_scope (NodesInOnePlaceIn h.nodes) before after same.places h.places;
  trees = frame tree_scope (TreesSoundIn h.nodes) before after same.trees h.trees;
  locations = frame location_scope (LocationsHoldIn h.nodes) before after same.locations h.locations;
  cover = frame cover_scope (BodiesCoveredIn h.nodes) before after same.cover h.cover;
  walks = frame walk_scope WalksLeadIn before after same.walks h.walks;
  readers = frame reader_scope (ReadersCountedIn h.nodes) before after same.readers h.readers;
}

pub visits-unseen : (before after : Core) → Visits before after → IsUnseen before after
visits-unseen before after visits = record {
  locks = visits-same lock_scope before after visits;
  bodies = visits-same body_scope before after visits;
  places = visits-same node_scope before after visits;
  trees = visits-same tree_scope before after visits;
  locations = visits-same location_scope before after visits;
  cover = visits-same cover_scope before after visits;
  walks = visits-same walk_scope before after visits;
  readers = visits-same reader_scope before after visits;
}

pub joins-unseen : (before after : Core) → Joins before after → IsUnseen before after
joins-unseen before after joins = record {
  locks = joins-same lock_scope before after (λ bare view known joined. refl) joins;
  bodies = joins-same body_scope before after (λ bare view known joined. refl) joins;
  places = joins-same node_scope before after (λ bare view known joined. refl) joins;
  trees = joins-same tree_scope before after (λ bare view known joined. refl) joins;
  locations = joins-same location_scope before after (λ bare view known joined. refl) joins;
  cover = joins-same cover_scope before after (λ bare view known joined. refl) joins;
  walks = joins-same walk_scope before after (λ bare view known joined. refl) joins;
  readers = joins-same reader_scope before after (λ bare view known joined. refl) joins;
}

-- a load that leaves the view as it was
load-same : (scope : Scope) (asks : Asking) (kind : Kind) (before after : Core) → ReadsNoLog scope → IsPlainLoad kind → Steps asks kind before after → IsSameTo scope before after
load-same scope asks kind before after reads plain steps =
    let step = steps.step in
    let outside : IsOutside scope kind before step = record {
      name = λ stored. absurd (false≢true (sym (plain.loads (found_by before step) step.first) ∙ stored));
      entry = λ history value. plain.entry step.view step.name value;
      part =
          ap (λ (v : View). scope.part (bare_view step.number) (record v { config = step.view.config; role = step.view.role; known = log_after kind before step; joined = None }))
          (plain.leaves (learned before step) step.name (found_by before step) step.first step.second) ∙
          reads (bare_view step.number) step.view (log_after kind before step) None;
    } in
    subst (IsSameTo scope before) (sym steps.result) (step-same scope kind before step steps.allowed.at steps.allowed.pass outside)

pub load-unseen : (asks : Asking) (kind : Kind) (before after : Core) → IsPlainLoad kind → Steps asks kind before after → IsUnseen before after
load-unseen asks kind before after plain steps = record {
  locks = load-same lock_scope asks kind before after (λ bare view known joined. refl) plain steps;
  bodies = load-same body_scope asks kind before after (λ bare view known joined. refl) plain steps;
  places = load-same node_scope asks kind before after (λ bare view known joined. refl) plain steps;
  trees = load-same tree_scope asks kind before after (λ bare view known joined. refl) plain steps;
  locations = load-same location_scope asks kind before after (λ bare view known joined. refl) plain steps;
  cover = load-same cover_scope asks kind before after (λ bare view known joined. refl) plain steps;
  walks = load-same walk_scope asks kind before after (λ bare view known joined. refl) plain steps;
  readers = load-same reader_scope asks kind before after (λ bare view known joined. refl) plain steps;
}

pub look-plain : IsPlainLoad look
look-plain = record { loads = λ found first. refl; entry = λ view name value. refl; leaves = λ view name found first second. refl }

pub load_lock-plain : IsPlainLoad load_lock
load_lock-plain = record { loads = λ found first. refl; entry = λ view name value. refl; leaves = λ view name found first second. refl }

pub load_list-plain : IsPlainLoad load_list
load_list-plain = record { loads = λ found first. refl; entry = λ view name value. refl; leaves = λ view name found first second. refl }

pub load_body-plain : IsPlainLoad load_body
load_body-plain = record { loads = λ found first. refl; entry = λ view name value. refl; leaves = λ view name found first second. refl }

pub load_slot-plain : IsPlainLoad load_slot
load_slot-plain = record { loads = λ found first. refl; entry = λ view name value. refl; leaves = λ view name found first second. refl }
