-- What holds for a pass that takes a body out: it has the stripe, the body is out, its locations are those that the pass
-- knows, and its entries are cleared in part.
use Rattle.std.proofs.Common.{◌≡◌, ◌≢◌, ◌⊎◌, ℕ, List, [], ◌∷◌, ◌++◌, refl, ap, sym, ◌∙◌, subst, inl, inr, Option, IsSomeAnd, Some, None}
use Rattle.std.specs.Prelude.{Contains}
use Rattle.std.proofs.lemmas.List.Elements.{Contains-append_cases}
use Rattle.scene_model.specs.declared.body_view.Phase.TheVariants.{Out, Held, In}
use Rattle.scene_model.specs.Step.{HasBody}
use Rattle.word_map.specs.declared.name.Name.TheVariants.{LocA, LocB, Bound}
use Rattle.word_map.specs.Names.{stripe_of}
use Rattle.core_state.specs.declared.item.Store.{Store}
use Rattle.core_state.specs.declared.view.Mode.TheVariants.{Write}
use Rattle.core_state.specs.declared.view.Task.{Task}
use Rattle.core_state.specs.declared.view.Task.TheVariants.{Removing}
use Rattle.core_state.specs.declared.view.Call.{Call}
use Rattle.core_state.specs.View.{Holds, known_word}
use Rattle.core_state.specs.Core.{Core, word_of, scene_of}
use Rattle.core_state.specs.Kind.{Kind, Step}
use Rattle.core_state.specs.Guards.{by_lock}
use Rattle.core_state.specs.Moving.{IsKnownLocation}
use Rattle.core_state.specs.Parts.{call_by_task, call_on_places}
use Rattle.core_state.specs.Scope.{Sight, sight}
use Rattle.core_state.specs.BodiesAgree.{body_scope, IsUnderStripe}
use Rattle.core_state.specs.LocationsHold.{location_scope, IsLocation, GivesBox, ClimbsFrom, IsUnheld, Removes, IsTakenOut}
use Rattle.core_state.proofs.Opening.{only}
use Rattle.core_guard.proofs.BodiesStep.{known-now}
use Rattle.core_guard.proofs.Leaving.{Acts, some_and_map, out_held, out_in}
use Rattle.core_guard.proofs.OutStill.{out-still}
use Rattle.core_guard.proofs.PlacesLeft.{SeenUpdate}
use Rattle.core_guard.proofs.PlacesStay.{PassIsPlaced, acting, pass-placed}
use Rattle.core_guard.proofs.Seats.{seen_of, each-seat}
use Rattle.core_guard.proofs.OnBody.{OnBody, IsOn}
use Rattle.core_guard.proofs.Recalled.{Recalls}
use Rattle.core_guard.proofs.Settled.{sound}
use Rattle.word_map.specs.declared.config.Config.{Config}
use Rattle.scene_model.specs.Scene.{record_at, Record}

-- one element more in a list
pub last-or : {X : Type 0} (xs : List X) (x y : X) → Contains (xs ++ x ∷ []) y → Contains xs y ⊎ (x ≡ y)
last-or xs x y h = elim (Contains-append_cases xs (x ∷ []) y h) [ inl old ↦ inl old | inr new ↦ inr (only x y new) ]

-- the call with what the step stores
abbrev pub stored_more : Step → Call
stored_more step = record step.view.call { stores = step.view.call.stores ++ record { name = step.name; value = step.first } ∷ [] }

module _ (kind : Kind) (core : Core) (step : Step) (a : Acts core step) (i : ℕ) (task : step.view.call.task ≡ Removing i) where
  pub stripe : Holds step.view (stripe_of core.config i) Write
  stripe =
      subst (IsUnderStripe (sight body_scope core) (seen_of body_scope step.number step.view)) task
      (each-seat body_scope (λ k v. refl) core (λ k v. IsUnderStripe (sight body_scope core) v v.call.task) a.laws.bodies.stripes step.seat step.number step.view a.at a.pass)

  pub known-stripe : Holds step.view (stripe_of step.view.config i) Write
  known-stripe = subst (λ (c : Config). Holds step.view (stripe_of c i) Write) (sym (sound core step a).config) stripe

  -- it goes on, or has done
  pub removes-on : (call : Call) → IsOn i call.task → Recalls kind core step call → OnBody kind core step i call
  removes-on call after recalls = record { stripe = known-stripe; before = subst (IsOn i) (sym task) refl; after = after; recalls = recalls }

  abbrev pub Was : Sight
  Was = sight location_scope core

  pub own-places : PassIsPlaced a.laws.nodes Was step.view.call (SeenUpdate kind core step)
  own-places =
      subst (λ (c : Call). PassIsPlaced a.laws.nodes Was c (SeenUpdate kind core step)) (ap (λ (t : Task). call_by_task t step.view.call) task)
      (each-seat location_scope (λ k v. refl) core (λ k v. PassIsPlaced a.laws.nodes Was v.call v.rebuild) (pass-placed a.laws.nodes Was a.laws.locations) step.seat step.number step.view a.at a.pass)

  pub taken : IsTakenOut a.laws.nodes Was (acting step.view.call (SeenUpdate kind core step)) i
  taken = own-places.removed i (subst (λ (t : Task). Removes t i) (sym task) refl)

  pub body_out : HasBody (scene_of core) i (λ r. r.phase ≡ Out)
  body_out = taken.out

  pub not-held : HasBody (scene_of core) i (λ r. r.phase ≢ Held)
  not-held = some_and_map (record_at (scene_of core) i) _ _ (λ r out held. absurd (out_held (sym out ∙ held))) body_out

  pub not_in : ¬ HasBody (scene_of core) i (λ r. r.phase ≡ In)
  not_in inside = go (record_at (scene_of core) i) body_out inside
    where
      go : (o : Option Record) → IsSomeAnd o (λ x. x.phase ≡ Out) → ¬ IsSomeAnd o (λ x. x.phase ≡ In)
      go None h k = h
      go (Some x) h k = out_in (sym h ∙ k)

  -- its locations are those that the pass knows
  pub first-known : word_of core (LocA i) ≡ known_word step.view (LocA i)
  first-known = out-still core step a i stripe body_out

  pub second-known : word_of core (LocB i) ≡ known_word step.view (LocB i)
  second-known = known-now kind core step a.at a.pass (LocB i) a.formed a.guards (by_lock (stripe_of core.config i) Write stripe refl)

  pub location-known : (n k : ℕ) → IsLocation Was i n k → IsKnownLocation step.view i n k
  location-known n k h = (h.0, elim (h.1) [ inl e ↦ inl (sym first-known ∙ e) | inr e ↦ inr (sym second-known ∙ e) ])

  pub known-location : (n k : ℕ) → IsKnownLocation step.view i n k → IsLocation Was i n k
  known-location n k h = (h.0, elim (h.1) [ inl e ↦ inl (first-known ∙ e) | inr e ↦ inr (second-known ∙ e) ])

  -- ---- a store more in the own call

  -- who takes a body out widens no bound and climbs nowhere: so what is said of the pass is what is said of the body
  pub more-placed : (s : Sight) → ((n k q : ℕ) → Bound n k q ≢ step.name) → IsTakenOut a.laws.nodes s (acting (stored_more step) (SeenUpdate kind core step)) i → PassIsPlaced a.laws.nodes s (call_on_places (stored_more step)) (SeenUpdate kind core step)
  more-placed s unwidened still =
      let none : (n k : ℕ) → ¬ ClimbsFrom Was (acting step.view.call (SeenUpdate kind core step)) step.view.call.task n k = λ n k climbs. subst (λ (t : Task). ClimbsFrom Was (acting step.view.call (SeenUpdate kind core step)) t n k) task climbs in
      subst (λ (c : Call). PassIsPlaced a.laws.nodes s c (SeenUpdate kind core step)) (sym (ap (λ (t : Task). call_by_task t (stored_more step)) task))
      (record {
        removed = λ j removes. subst (IsTakenOut a.laws.nodes s (acting (stored_more step) (SeenUpdate kind core step))) (subst (λ (t : Task). Removes t j) task removes) still;
        unheld = subst (IsUnheld s) (sym task) tt;
        widened = λ j n k box gives stored at. absurd (subst (λ (t : Task). GivesBox t j box) task gives);
        still_wide = λ n k q value among. let t = own-places.widened_on_way n k q value (old n k q value among) in absurd (none t.0 t.1 t.2);
        climbs_from = λ n k climbs. absurd (subst (λ (t : Task). ClimbsFrom s (acting (stored_more step) (SeenUpdate kind core step)) t n k) task climbs);
        on_its_way = λ m value among. let t = own-places.on_its_way m value among in absurd (none t.1.0 t.1.1 t.1.3);
        widened_on_way = λ x y q value among. let t = own-places.widened_on_way x y q value (old x y q value among) in absurd (none t.0 t.1 t.2);
      })
    where
      old : (n k q value : ℕ) → Contains (stored_more step).stores (record { name = Bound n k q; value = value }) → Contains step.view.call.stores (record { name = Bound n k q; value = value })
      old n k q value among =
          elim (last-or step.view.call.stores _ (record { name = Bound n k q; value = value }) among) [
            | inl before ↦ before
            | inr last ↦ absurd (unwidened n k q (sym (ap (λ (s : Store). s.name) last)))
          ]
