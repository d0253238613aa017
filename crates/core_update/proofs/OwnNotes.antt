-- What the laws say of the update of the pass that steps, and of a body that it is to place.
use Rattle.std.proofs.Common.{◌≡◌, ◌≢◌, ℕ, ◌<◌, ◌≤◌, List, true, length, map, Contains, Option, Some, refl, ap, sym, ◌∙◌, subst, inl, inr, arith}
use Rattle.std.specs.Prelude.{IfSome, IsSome, IsSomeAnd, option_map, get_or}
use Rattle.std.proofs.lemmas.Bool.{cases_lt, cases_eq}
use Rattle.std.proofs.lemmas.List.{get_or-map, get_or_default, length-map}
use Rattle.std.proofs.lemmas.Option.{same_Some}
use Rattle.word_map.specs.declared.name.Name.TheVariants.{State}
use Rattle.scene_model.specs.declared.body_view.Phase.TheVariants.{Held, In}
use Rattle.scene_model.specs.Scene.{Record, record_at}
use Rattle.scene_model.specs.Step.{HasBody}
use Rattle.core_state.specs.declared.view.Noted.{Noted}
use Rattle.core_state.specs.declared.view.Rebuild.{Rebuild}
use Rattle.core_state.specs.declared.view.View.{View}
use Rattle.core_state.specs.View.{IsPass, number_of}
use Rattle.core_state.specs.Core.{Core, scene_of, IsViewAt}
use Rattle.core_state.specs.Kind.{Step}
use Rattle.core_state.specs.Parts.{update_on_cover, update_on_places}
use Rattle.core_state.specs.Placing.{IsToPlace}
use Rattle.core_state.specs.Scope.{sight, IsOnce}
use Rattle.core_state.specs.Updates.{IsDone}
use Rattle.core_state.specs.LocationsHold.{location_scope, IsPlannedAt}
use Rattle.core_state.specs.BodiesCovered.{cover_scope, NotesHold, ExchangesDone, LooksAsNoted, IsInOldTree, IsAsNoted}
use Rattle.core_state.proofs.Beginning.{body_record, record_body}
use Rattle.core_guard.proofs.Leaving.{Acts, in_held, other-number}
use Rattle.core_guard.proofs.OneUpdate.{one-update}
use Rattle.core_guard.proofs.Seats.{seen_of, each-seat}
use Rattle.core_guard.proofs.Settled.{StandsStill, settled-still}

module _ (core : Core) (step : Step) (a : Acts core step) (r : Rebuild) (has : step.view.rebuild ≡ Some r) where
  -- the pass, as the laws of cover and of locations see it
  abbrev pub Covering : View
  Covering = seen_of cover_scope step.number step.view

  abbrev pub Locating : View
  Locating = seen_of location_scope step.number step.view

  pub own-notes : NotesHold a.laws.nodes (sight cover_scope core) Covering (update_on_cover r)
  own-notes =
      subst (λ (o : Option Rebuild). IfSome (option_map update_on_cover o) (λ u. NotesHold a.laws.nodes (sight cover_scope core) Covering u)) has
      (each-seat cover_scope (λ k v. refl) core (λ number v. IfSome v.rebuild (λ u. NotesHold a.laws.nodes (sight cover_scope core) v u)) a.laws.cover.notes step.seat step.number step.view a.at a.pass)

  pub own-exchanged : ExchangesDone Covering (update_on_cover r)
  own-exchanged =
      subst (λ (o : Option Rebuild). IfSome (option_map update_on_cover o) (λ u. ExchangesDone Covering u)) has
      (each-seat cover_scope (λ k v. refl) core (λ number v. IfSome v.rebuild (λ u. ExchangesDone v u)) a.laws.cover.exchanged step.seat step.number step.view a.at a.pass)

  pub own-planned : (noted : Noted) → Contains r.noted noted → r.is_planned ≡ true → length r.swapped ≤ noted.layer → IsPlannedAt a.laws.nodes (sight location_scope core) step.number Locating (update_on_places r) noted
  own-planned =
      subst
      (λ (o : Option Rebuild). IfSome (option_map update_on_places o) (λ u. (noted : Noted) → Contains u.noted noted → u.is_planned ≡ true → length u.swapped ≤ noted.layer → IsPlannedAt a.laws.nodes (sight location_scope core) step.number Locating u noted))
      has (each-seat location_scope (λ k v. refl) core _ a.laws.locations.planned step.seat step.number step.view a.at a.pass)

  -- while a body that was noted is not done, nothing is exchanged
  pub unexchanged : (noted : Noted) → Contains r.noted noted → ¬ IsDone Covering (update_on_cover r) noted.index → (l : ℕ) → length r.swapped ≤ l
  unexchanged noted among undone l =
      elim (cases_lt 0 (length r.swapped)) [
        | inl begun ↦ absurd (undone (own-exchanged begun noted among))
        | inr none ↦ omega arith
      ]

-- two notes of one body are one
pub note-once : (xs : List Noted) (m n : Noted) → IsOnce (map (λ x. x.index) xs) → Contains xs m → Contains xs n → m.index ≡ n.index → m ≡ n
note-once xs m n once one two same =
    elim (cases_eq one.0 two.0) [
      | inl e ↦ sym one.2 ∙ (get_or_default xs one.0 m n one.1 ∙ (ap (λ (i : ℕ). get_or xs i n) e ∙ two.2))
      | inr apart ↦
          let at : (i : ℕ) (x : Noted) → i < length xs → get_or xs i x ≡ x → get_or (map (λ y. y.index) xs) i 0 ≡ x.index =
          λ i x below is. get_or-map (λ (y : Noted). y.index) xs i x 0 below ∙ ap (λ (y : Noted). y.index) is
          in
          let first = at one.0 m one.1 one.2 in
          let second = at two.0 n two.1 two.2 in
          let long : length (map (λ y. y.index) xs) ≡ length xs = length-map xs (λ (y : Noted). y.index) in
          elim (cases_lt one.0 two.0) [
            | inl less ↦ absurd (once one.0 two.0 0 less (omega (arith, two.1, long)) (first ∙ (same ∙ sym second)))
            | inr more ↦ absurd (once two.0 one.0 0 (omega (arith, more, apart)) (omega (arith, one.1, long)) (second ∙ (sym same ∙ sym first)))
          ]
    ]

module _ (core : Core) (step : Step) (a : Acts core step) (index : ℕ) (p : IsToPlace step.view index) where
  -- the body is as the pass knows it
  pub known : StandsStill core step.view p.noted.index
  known = settled-still core step a p.noted.index p.as_noted.settled

  pub body : (b : Record) × (record_at (scene_of core) p.noted.index ≡ Some b) × (b.phase ≡ In)
  body =
      body_record (record_at (scene_of core) p.noted.index) (λ b. b.phase ≡ In)
      (subst (λ (o : Option Record). IsSomeAnd o (λ b. b.phase ≡ In)) (sym known.body) p.as_noted.inside)

  pub unheld : HasBody (scene_of core) p.noted.index (λ b. b.phase ≢ Held)
  unheld = record_body (record_at (scene_of core) p.noted.index) (λ b. b.phase ≢ Held) body.0 body.1 (λ held. in_held (sym body.2 ∙ held))

  -- and looks as it was noted
  looks : LooksAsNoted (sight cover_scope core) p.noted
  looks = record { state = known.words (State p.noted.index) refl ∙ p.as_noted.state; location = known.loc_a ∙ p.as_noted.location }

  -- the update has not done with it
  pub undone : (view : View) (r : Rebuild) → r.placed ≡ p.r.placed → r.given_up ≡ p.r.given_up → ¬ IsDone view r p.noted.index
  undone view r placed given done =
      elim done [
        | inl t ↦ p.unplaced (subst (λ (l : List ℕ). Contains l index) placed (subst (λ (i : ℕ). Contains r.placed i) p.of_body t.0))
        | inr t ↦ p.kept (subst (λ (l : List ℕ). Contains l index) given (subst (λ (i : ℕ). Contains r.given_up i) p.of_body t))
      ]

  -- so it is there, as it was noted
  pub there : IsInOldTree a.laws.nodes (sight cover_scope core) (update_on_cover p.r) p.noted.index × IsAsNoted (sight cover_scope core) p.noted
  there =
      let notes = own-notes core step a p.r p.update in
      notes.still_there p.noted p.among (notes.passed p.noted p.among, undone (Covering core step a p.r p.update) (update_on_cover p.r) refl refl) looks

  -- with its place in a new tree
  pub unexchanged-all : (l : ℕ) → length p.r.swapped ≤ l
  unexchanged-all = unexchanged core step a p.r p.update p.noted p.among (undone (Covering core step a p.r p.update) (update_on_cover p.r) refl refl)

  pub planned-at : (noted : Noted) → Contains p.r.noted noted → IsPlannedAt a.laws.nodes (sight location_scope core) step.number (Locating core step a p.r p.update) (update_on_places p.r) noted
  planned-at noted among = own-planned core step a p.r p.update noted among p.planned (unexchanged-all noted.layer)

  pub one-note : (noted : Noted) → Contains p.r.noted noted → noted.index ≡ index → noted ≡ p.noted
  one-note noted among same = note-once p.r.noted noted p.noted (own-notes core step a p.r p.update).once among p.among (same ∙ sym p.of_body)

-- no other pass has an update
pub sole-update : (core : Core) (step : Step) → Acts core step → IsSome step.view.rebuild → (seat number : ℕ) (view : View) → seat ≢ step.seat → IsViewAt core seat view → IsPass view number → ¬ IsSome view.rebuild
sole-update core step a own seat number view apart found is other =
    let one : view ≡ step.view = one-update core a.formed a.laws.nodes a.laws.places seat step.seat number step.number view step.view found a.at is a.pass other own in
    other-number core step a seat number view apart found is (same_Some number step.number (sym is ∙ (ap (λ (v : View). number_of v) one ∙ a.pass)))
