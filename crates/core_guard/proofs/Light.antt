-- Steps that most laws do not see: loads in a climb, and the steps of a walk.
use Rattle.std.proofs.Common.{◌≡◌, ℕ, true, false, None, ap, ◌∙◌, refl}
use Rattle.word_map.specs.declared.name.Name.TheVariants.{Reader}
use Rattle.core_state.specs.Core.{Core}
use Rattle.core_state.specs.Operation.{stores}
use Rattle.core_state.specs.Kind.{Kind, Step, found_by, view_after, after_step}
use Rattle.core_state.specs.Scope.{Scope, Sight, sight, bare_view}
use Rattle.core_state.specs.LocksAgree.{LocksAgreeIn, lock_scope}
use Rattle.core_state.specs.BodiesAgree.{BodiesAgreeIn, body_scope}
use Rattle.core_state.specs.NodesInOnePlace.{NodesInOnePlaceIn, node_scope}
use Rattle.core_state.specs.TreesSound.{TreesSoundIn, tree_scope}
use Rattle.core_state.specs.LocationsHold.{LocationsHold}
use Rattle.core_state.specs.BodiesCovered.{BodiesCoveredIn, cover_scope}
use Rattle.core_state.specs.WalksLead.{WalksLead}
use Rattle.core_state.specs.ReadersCounted.{ReadersCounted}
use Rattle.core_state.specs.Invariants.{Invariants}
use Rattle.core_state.proofs.Frames.{frame, step-same}
use Rattle.core_guard.proofs.Leaving.{Acts}

module _ (kind : Kind) (core : Core) (step : Step) where
  -- what a law reads of the view stays
  abbrev pub KeepsPart : Scope → Type 0
  KeepsPart scope = scope.part (bare_view step.number) (view_after kind core step) ≡ scope.part (bare_view step.number) step.view

  abbrev pub Stores : Type 0
  Stores = stores kind.operation (found_by core step) step.first ≡ true

  -- it stores no word but a reader's and makes no entry, and five laws see no change of the view
  pub record IsLight : Type 0 where
    pub reader : Stores → (p : ℕ) × (step.name ≡ Reader p)
    pub entry : (value : ℕ) → kind.entry step.view step.name value ≡ None
    pub locks : KeepsPart lock_scope
    pub bodies : KeepsPart body_scope
    pub nodes : KeepsPart node_scope
    pub trees : KeepsPart tree_scope
    pub cover : KeepsPart cover_scope

  module _ (a : Acts core step) (l : IsLight) where
    pub law-kept : (scope : Scope) (Law : Sight → Type 0) → (Stores → scope.names step.name ≡ false) → KeepsPart scope → Law (sight scope core) → Law (sight scope (after_step kind core step))
    law-kept scope Law other part =
        frame scope Law core (after_step kind core step) (step-same scope kind core step a.at a.pass (record { name = other; entry = λ reads. l.entry; part = part }))

    -- of a scope that has no reader word
    pub unread : (scope : Scope) → ((p : ℕ) → scope.names (Reader p) ≡ false) → Stores → scope.names step.name ≡ false
    unread scope none stored = let t = l.reader stored in ap scope.names t.1 ∙ none t.0

    pub Invariants-light : LocationsHold a.laws.nodes (after_step kind core step) → WalksLead (after_step kind core step) → ReadersCounted a.laws.nodes (after_step kind core step) → Invariants (after_step kind core step)
    Invariants-light locations walks readers =
        let h = a.laws in
        record {
          nodes = h.nodes;
          locks = law-kept lock_scope LocksAgreeIn (unread lock_scope (λ p. refl)) l.locks h.locks;
          bodies = law-kept body_scope BodiesAgreeIn (unread body_scope (λ p. refl)) l.bodies h.bodies;
          places = law-kept node_scope (NodesInOnePlaceIn h.nodes) (unread node_scope (λ p. refl)) l.nodes h.places;
          trees = law-kept tree_scope (TreesSoundIn h.nodes) (unread tree_scope (λ p. refl)) l.trees h.trees;
          locations = locations;
          cover = law-kept cover_scope (BodiesCoveredIn h.nodes) (unread cover_scope (λ p. refl)) l.cover h.cover;
          walks = walks;
          readers = readers;
        }
