-- The load of a second location to promote a body: where it is 0 the update notes that it has done with the body, else
-- nothing changes.
use Rattle.std.proofs.Common.{◌≡◌, ◌==◌, Bool, true, false, cond, Option, option_map, Some, None, refl, ap, sym, ◌∙◌, inl, inr}
use Rattle.std.proofs.lemmas.Bool.{cases_Bool, eqb-true, false≢true}
use Rattle.word_map.specs.declared.name.Name.{Name}
use Rattle.word_map.specs.declared.name.Name.TheVariants.{LocB}
use Rattle.core_state.specs.declared.view.Rebuild.{Rebuild}
use Rattle.core_state.specs.declared.view.View.{View}
use Rattle.core_state.specs.Core.{Core, word_of}
use Rattle.core_state.specs.Kind.{Step, found_by, learned, log_after, after_step}
use Rattle.core_state.specs.Frame.{ReadsNoLog}
use Rattle.core_state.specs.Retiring.{MayFindSecond, find_second, promoted_by, with_promoted}
use Rattle.core_state.specs.Scope.{Scope, Sight, sight, bare_view}
use Rattle.core_state.specs.LocksAgree.{LocksAgreeIn, lock_scope}
use Rattle.core_state.specs.BodiesAgree.{BodiesAgreeIn, body_scope}
use Rattle.core_state.specs.NodesInOnePlace.{NodesInOnePlaceIn, node_scope}
use Rattle.core_state.specs.TreesSound.{TreesSoundIn, tree_scope}
use Rattle.core_state.specs.LocationsHold.{LocationsHoldIn, location_scope}
use Rattle.core_state.specs.BodiesCovered.{BodiesCoveredIn, cover_scope}
use Rattle.core_state.specs.WalksLead.{WalksLeadIn, walk_scope}
use Rattle.core_state.specs.ReadersCounted.{ReadersCountedIn, reader_scope}
use Rattle.core_state.specs.Invariants.{Invariants}
use Rattle.core_state.proofs.Frames.{frame, step-same}
use Rattle.core_state.proofs.Guarding.{GuardsHold-load}
use Rattle.core_state.proofs.Steps.{word-step-unstored}
use Rattle.core_guard.proofs.Holders.{IsGuarded}
use Rattle.core_guard.proofs.Leaving.{Acts, Last}
use Rattle.core_guard.proofs.Touched.{IsKept, kept}
use Rattle.core_update.proofs.Beside.{Forgets, law-beside}
use Rattle.core_update.proofs.Promotions.{Promotes, LocationsHold-promoted}

module _ (core : Core) (step : Step) (a : Acts core step) (asked : MayFindSecond step.view step.name step.first step.second) where
  abbrev finish : View → View
  finish v = record v { config = step.view.config; role = step.view.role; known = log_after find_second core step; joined = None }

  abbrev found : Bool
  found = found_by core step == 0

  -- ---- it has none

  module _ (zero : found ≡ true) where
    abbrev change : Rebuild → Rebuild
    change = with_promoted asked.index

    last : Last find_second core step ≡ record step.view { rebuild = Some (change asked.to_promote.r); known = log_after find_second core step; joined = None }
    last =
        ap (λ (t : Bool). finish (cond t (promoted_by (learned core step) step.name) (learned core step))) zero ∙
        (ap (λ (n : Name). finish (promoted_by (learned core step) n)) asked.names ∙
        ap (λ (o : Option Rebuild). record step.view { rebuild = option_map change o; known = log_after find_second core step; joined = None }) asked.to_promote.update)

    none : word_of core (LocB asked.index) ≡ 0
    none = ap (word_of core) (sym asked.names) ∙ eqb-true (found_by core step) 0 zero

    promotes : Promotes find_second core step a asked.index asked.to_promote
    promotes = record { names = asked.names; plain = λ value. refl; last = last; none = word-step-unstored find_second core step refl (LocB asked.index) ∙ none; was = inl none }

    beside : (scope : Scope) (Law : Sight → Type 0) → Forgets scope change → Law (sight scope core) → Law (sight scope (after_step find_second core step))
    beside scope Law forgets = law-beside find_second core step a asked.to_promote.r change asked.to_promote.update last scope Law forgets (λ stored. absurd (false≢true stored)) (λ value. refl)

    Invariants-none : Invariants (after_step find_second core step)
    Invariants-none =
        let h = a.laws in
        record {
          nodes = h.nodes;
          locks = beside lock_scope LocksAgreeIn (λ bare view x known joined. refl) h.locks;
          bodies = beside body_scope BodiesAgreeIn (λ bare view x known joined. refl) h.bodies;
          places = beside node_scope (NodesInOnePlaceIn h.nodes) (λ bare view x known joined. refl) h.places;
          trees = beside tree_scope (TreesSoundIn h.nodes) (λ bare view x known joined. refl) h.trees;
          locations = LocationsHold-promoted find_second core step a asked.index asked.to_promote promotes;
          cover = beside cover_scope (BodiesCoveredIn h.nodes) (λ bare view x known joined. refl) h.cover;
          walks = beside walk_scope WalksLeadIn (λ bare view x known joined. refl) h.walks;
          readers = beside reader_scope (ReadersCountedIn h.nodes) (λ bare view x known joined. refl) h.readers;
        }

  -- ---- it has one

  module _ (some : found ≡ false) where
    unseen : (scope : Scope) (Law : Sight → Type 0) → ReadsNoLog scope → Law (sight scope core) → Law (sight scope (after_step find_second core step))
    unseen scope Law reads =
        frame scope Law core (after_step find_second core step)
        (step-same scope find_second core step a.at a.pass
        (record {
          name = λ stored. absurd (false≢true stored);
          entry = λ history value. refl;
          part = ap (λ (t : Bool). scope.part (bare_view step.number) (finish (cond t (promoted_by (learned core step) step.name) (learned core step)))) some ∙
              reads (bare_view step.number) step.view (log_after find_second core step) None;
        }))

    Invariants-some : Invariants (after_step find_second core step)
    Invariants-some =
        let h = a.laws in
        record {
          nodes = h.nodes;
          locks = unseen lock_scope LocksAgreeIn (λ bare view known joined. refl) h.locks;
          bodies = unseen body_scope BodiesAgreeIn (λ bare view known joined. refl) h.bodies;
          places = unseen node_scope (NodesInOnePlaceIn h.nodes) (λ bare view known joined. refl) h.places;
          trees = unseen tree_scope (TreesSoundIn h.nodes) (λ bare view known joined. refl) h.trees;
          locations = unseen location_scope (LocationsHoldIn h.nodes) (λ bare view known joined. refl) h.locations;
          cover = unseen cover_scope (BodiesCoveredIn h.nodes) (λ bare view known joined. refl) h.cover;
          walks = unseen walk_scope WalksLeadIn (λ bare view known joined. refl) h.walks;
          readers = unseen reader_scope (ReadersCountedIn h.nodes) (λ bare view known joined. refl) h.readers;
        }

-- ---- kind 15, to promote

pub Invariants-find_second : IsKept MayFindSecond find_second
Invariants-find_second =
    kept MayFindSecond find_second
    (λ core step a asked. elim (cases_Bool (found_by core step == 0)) [
      | inl zero ↦ Invariants-none core step a asked zero
      | inr some ↦ Invariants-some core step a asked some
    ])

pub GuardsHold-find_second : IsGuarded MayFindSecond find_second
GuardsHold-find_second before after steps formed laws guards = GuardsHold-load MayFindSecond find_second before after (λ found first. refl) steps guards
