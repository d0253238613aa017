-- The first steps of an update keep all laws: it has done nothing yet but to note, so the trees, places and readers are as they
-- were, and what is left to show is where nodes are and what was noted.
use Rattle.std.proofs.Common.{List, None, Option, Some, ap, refl, subst, sym, ℕ, ◌∙◌, ◌≡◌}
use Rattle.std.proofs.lemmas.Bool.{true≢false}
use Rattle.std.specs.Prelude.{Contains, IfSome, IsSomeAnd, option_map}
use Rattle.word_map.specs.declared.config.Config.{Config}
use Rattle.word_map.specs.declared.name.Name.{Name}
use Rattle.core_state.specs.BodiesAgree.{BodiesAgreeIn, body_scope}
use Rattle.core_state.specs.BodiesCovered.{BodiesCovered, BodiesCoveredIn, cover_scope}
use Rattle.core_state.specs.Core.{Core, IsViewAt}
use Rattle.core_state.specs.Invariants.{Invariants}
use Rattle.core_state.specs.Kind.{Kind, Step, after_step}
use Rattle.core_state.specs.LocationsHold.{LocationsHold, LocationsHoldIn, location_scope}
use Rattle.core_state.specs.LocksAgree.{LocksAgreeIn, lock_scope}
use Rattle.core_state.specs.Nodes.{Nodes}
use Rattle.core_state.specs.NodesInOnePlace.{NodesInOnePlace}
use Rattle.core_state.specs.Noting.{IsEarly}
use Rattle.core_state.specs.Parts.{call_on_places, update_on_cover, update_on_places, update_on_readers, update_on_trees}
use Rattle.core_state.specs.ReadersCounted.{ReadersCounted, ReadersCountedIn, reader_scope}
use Rattle.core_state.specs.Scope.{sight}
use Rattle.core_state.specs.TreesSound.{IsSupersededRoot, TreesSound, TreesSoundIn, tree_scope}
use Rattle.core_state.specs.Updates.{IsPlacing}
use Rattle.core_state.specs.View.{IsPass}
use Rattle.core_state.specs.WalksLead.{WalksLeadIn, walk_scope}
use Rattle.core_state.specs.declared.view.Call.{Call}
use Rattle.core_state.specs.declared.view.Rebuild.{Rebuild}
use Rattle.core_state.specs.declared.view.Task.{Task}
use Rattle.core_state.specs.declared.view.View.{View}
use Rattle.core_state.proofs.Opening.{none_in}
use Rattle.core_guard.proofs.Leaving.{Acts, IsIdle, idle-unhandled, if_some_map}
use Rattle.core_guard.proofs.PlacesStay.{places-handles, seen-task}
use Rattle.core_guard.proofs.Seats.{seen_of}
use Rattle.core_update.proofs.AtRest.{IsQuietUpdate, no-second, none-made, none-returning, quiet-alone}
use Rattle.core_update.proofs.OtherUpdate.{BodiesCovered-next, CoverGoesOn, KeepsPlan, LocationsHold-next, ReadersCounted-next, TreesSound-next, no-root, HasPlan}
use Rattle.core_update.proofs.Rebuilt.{Rebuilds, moved, changes, unseen, IsAlone}

-- an early update is quiet
pub early-quiet : (c : Config) (r : Rebuild) → IsEarly r → IsQuietUpdate c r
early-quiet c r e = record {
  promoted = λ i among. absurd (none_in i (subst (λ (l : List ℕ). Contains l i) e.placed among));
  published = λ planned. absurd (true≢false (sym planned ∙ e.unplanned));
  returned = e.returning;
}

-- what is to be shown of notes, as the law of bodies reads them
abbrev pub NotesGoOn : Nodes → Kind → Core → Step → Option Rebuild → Type 0
NotesGoOn nodes kind core step next =
    IfSome (option_map update_on_cover next)
    (CoverGoesOn nodes (record (sight cover_scope core) { passes = (sight cover_scope (after_step kind core step)).passes })
    (record (seen_of cover_scope step.number step.view) { rebuild = option_map update_on_cover next }))

module _ (kind : Kind) (core : Core) (step : Step) (a : Acts core step) (next : Option Rebuild) (b : Rebuilds kind core step next) (alone : IsAlone core step) (before : IfSome step.view.rebuild IsEarly) (after : IfSome next IsEarly) where
  abbrev nodes : Nodes
  nodes = a.laws.nodes

  abbrev After : Core
  After = after_step kind core step

  pub quiet : (seat number : ℕ) (view : View) → IsViewAt core seat view → IsPass view number → IfSome view.rebuild (IsQuietUpdate core.config)
  quiet = quiet-alone core step a.at alone (if_some_map step.view.rebuild IsEarly (IsQuietUpdate core.config) (early-quiet core.config) before)

  -- the update as a law sees it
  seen-next : (f : Rebuild → Rebuild) (o : Option Rebuild) (P Q : Rebuild → Type 0) → ((r : Rebuild) → P r → Q (f r)) → IfSome o P → IfSome (option_map f o) Q
  seen-next f None P Q more h = h
  seen-next f (Some r) P Q more h = more r h

  no-view : (f : Rebuild → Rebuild) (o : Option Rebuild) → o ≡ None → option_map f o ≡ None
  no-view f o e = ap (option_map f) e

  trees : TreesSound nodes After
  trees =
      let s = sight tree_scope core in
      let w = (sight tree_scope After).passes in
      subst (TreesSoundIn nodes) (sym (moved kind core step a next b tree_scope (refl, refl)))
      (TreesSound-next nodes s w step.number (seen_of tree_scope step.number step.view) (option_map update_on_trees next)
      (changes kind core step a next b alone tree_scope (λ k v. refl) update_on_trees refl (λ number view e. no-view update_on_trees view.rebuild e))
      (record {
        unmade = none-made core a.laws quiet;
        unreturned = none-returning core a.laws quiet;
        unseen = λ name root at some. unrooted name root step.view.rebuild before some;
        early = seen-next update_on_trees next IsEarly _ (λ r e. (e.unplanned, e.swapped, e.cleared, e.returning)) after;
      })
      a.laws.trees)
    where
      unrooted : (name : Name) (root : ℕ) (o : Option Rebuild) → IfSome o IsEarly → ¬ IsSomeAnd (option_map update_on_trees o) (λ r. IsSupersededRoot r name root)
      unrooted name root None e h = h
      unrooted name root (Some r) e h = no-root (update_on_trees r) name root e.swapped e.cleared h

  plan-seen : (call : Call) (o p : Option Rebuild) → KeepsPlan call o p → KeepsPlan (call_on_places call) (option_map update_on_places o) (option_map update_on_places p)
  plan-seen call o p keeps index n k placing at = there p (keeps index n k (seen-task (λ t. IsPlacing t index) busy call placing) (here o at))
    where
      busy : (task : Task) → IsIdle task → ¬ IsPlacing task index
      busy task calm placing = idle-unhandled task index calm (places-handles task index placing)

      here : (o : Option Rebuild) → HasPlan (option_map update_on_places o) index n k → HasPlan o index n k
      here None h = h
      here (Some r) h = h

      there : (o : Option Rebuild) → HasPlan o index n k → HasPlan (option_map update_on_places o) index n k
      there None h = h
      there (Some r) h = h

  places : KeepsPlan step.view.call step.view.rebuild next → KeepsPlan step.view.call next step.view.rebuild → LocationsHold nodes After
  places forth back =
      let s = sight location_scope core in
      let w = (sight location_scope After).passes in
      subst (LocationsHoldIn nodes) (sym (moved kind core step a next b location_scope (refl, refl)))
      (LocationsHold-next nodes s w step.number (seen_of location_scope step.number step.view) (option_map update_on_places next)
      (changes kind core step a next b alone location_scope (λ k v. refl) update_on_places refl (λ number view e. no-view update_on_places view.rebuild e))
      (record {
        unmade = none-made core a.laws quiet;
        unplaced = no-second core a.laws quiet;
        early = seen-next update_on_places next IsEarly _ (λ r e. e.unplanned) after;
        forth = plan-seen step.view.call step.view.rebuild next forth;
        back = plan-seen step.view.call next step.view.rebuild back;
      })
      a.laws.locations)

  cover : NotesGoOn nodes kind core step next → BodiesCovered nodes After
  cover own =
      let s = sight cover_scope core in
      let w = (sight cover_scope After).passes in
      subst (BodiesCoveredIn nodes) (sym (moved kind core step a next b cover_scope (refl, refl)))
      (BodiesCovered-next nodes s w step.number (seen_of cover_scope step.number step.view) (option_map update_on_cover next)
      (changes kind core step a next b alone cover_scope (λ k v. refl) update_on_cover refl (λ number view e. no-view update_on_cover view.rebuild e)) own a.laws.cover)

  readers : ReadersCounted nodes After
  readers =
      let s = sight reader_scope core in
      let w = (sight reader_scope After).passes in
      subst (ReadersCountedIn nodes) (sym (moved kind core step a next b reader_scope (refl, refl)))
      (ReadersCounted-next nodes s w step.number (seen_of reader_scope step.number step.view) (option_map update_on_readers next)
      (changes kind core step a next b alone reader_scope (λ k v. refl) update_on_readers refl (λ number view e. no-view update_on_readers view.rebuild e))
      (seen-next update_on_readers next IsEarly _ (λ r e. (e.unplanned, e.readers)) after) a.laws.readers)

  -- ---- all laws

  pub Invariants-early : KeepsPlan step.view.call step.view.rebuild next → KeepsPlan step.view.call next step.view.rebuild → NotesGoOn nodes kind core step next → NodesInOnePlace nodes After → Invariants After
  Invariants-early forth back notes homes = record {
    nodes = nodes;
    locks = unseen kind core step a next b lock_scope LocksAgreeIn (refl, refl) refl a.laws.locks;
    bodies = unseen kind core step a next b body_scope BodiesAgreeIn (refl, refl) refl a.laws.bodies;
    places = homes;
    trees = trees;
    locations = places forth back;
    cover = cover notes;
    walks = unseen kind core step a next b walk_scope WalksLeadIn (refl, refl) refl a.laws.walks;
    readers = readers;
  }
