-- Storing a box word in a move keeps all laws: of a body in the broad phase every bound from its locations up contains the new
-- box, and contained the old one; one that is out stands in no tree.
use Rattle.std.proofs.Common.{◌≡◌, ◌⊎◌, ℕ, ◌||◌, List, [], ◌∷◌, ◌++◌, Bool, true, false, refl, ap, sym, ◌∙◌, subst, inl, inr}
use Rattle.std.specs.Prelude.{slice_index}
use Rattle.std.proofs.lemmas.List.Folds.{list_any-append}
use Rattle.scene_model.specs.declared.body_view.Phase.TheVariants.{Out}
use Rattle.word_map.specs.declared.name.Name.TheVariants.{BoxWord, Bound}
use Rattle.core_state.specs.declared.item.Store.{Store}
use Rattle.core_state.specs.declared.view.Call.{Call}
use Rattle.core_state.specs.Log.{history}
use Rattle.core_state.specs.Core.{Core}
use Rattle.core_state.specs.Kind.{Step, learned, log_after, after_step}
use Rattle.core_state.specs.Bodies.{is_box_word, has_box_word, MovesBody, IsBetweenBoxes}
use Rattle.core_state.specs.Moving.{of_target, of_body_out, MayStoreSide, side_stored_by, store_side}
use Rattle.core_state.specs.Scope.{Sight, sight, HasPass}
use Rattle.core_state.specs.LocationsHold.{location_scope}
use Rattle.core_state.specs.BodiesAgree.{body_scope}
use Rattle.core_state.specs.Invariants.{Invariants}
use Rattle.core_state.proofs.Frames.{step-history}
use Rattle.core_state.proofs.Steps.{view-step}
use Rattle.core_guard.proofs.Leaving.{Acts, After, Last}
use Rattle.core_guard.proofs.PlacesLeft.{SeenUpdate}
use Rattle.core_guard.proofs.PlacesStay.{PassIsPlaced}
use Rattle.core_guard.proofs.Seats.{seat-has}
use Rattle.core_guard.proofs.Touched.{IsKept, kept}
use Rattle.core_guard.proofs.Holders.{IsGuarded, guarded}
use Rattle.core_move.proofs.BoxMoves.{IsReady, ready-in, ready-out, BoxStep, ready-placed, ready-wide, box-leaves, box-in_place, Invariants-box, GuardsHold-box}
use Rattle.core_move.proofs.MoveSteps.{Under, has_begun, begins_now, target_of, stores_of, call_more, under-so, under-target, stores-placed}
use Rattle.core_guard.proofs.Changed.{Changes, changes-none}
use Rattle.core_guard.proofs.OnBody.{IsOn}
use Rattle.core_guard.proofs.Recalled.{Recalls, call-is}

-- ---- box words that are stored

box-last : (stored : List Store) (new : Store) → is_box_word new.name ≡ true → has_box_word (stored ++ new ∷ []) ≡ true
box-last stored new is = list_any-append (λ (s : Store). is_box_word s.name) stored (new ∷ []) ∙ rw is (or-true (has_box_word stored))
  where
    or-true : (t : Bool) → (t || true) ≡ true
    or-true true = refl
    or-true false = refl

-- ---- the step goes on with a move, or begins one

module _ (core : Core) (step : Step) (a : Acts core step) (asked : MayStoreSide step.view step.name step.first step.second) where
  abbrev index : ℕ
  index = asked.index

  abbrev new : Store
  new = record { name = BoxWord index asked.side; value = step.first }

  recalls : (u : Under index step.view.call) → Recalls store_side core step (call_more index step.view.call u (target_of index step.view.call u) new)
  recalls (has_begun t e) =
      (λ i. side_stored_by (e i) (learned core step) (asked.names i) step.first)
      ∙ (λ i. record (learned core step) { call = record { task = e i; loads = step.view.call.loads; stores = step.view.call.stores ++ new ∷ [] } })
  recalls (begins_now e) = λ i. side_stored_by (e i) (learned core step) (asked.names i) step.first

  -- of a body in the broad phase the word is a side of the target
  ready : (y : IsReady core step index) × ((step.first ≡ slice_index (target_of index step.view.call y.u) asked.side) ⊎ (y.r.phase ≡ Out))
  ready =
      elim (asked.stores) [
        | of_target target w value ↦ let t = ready-in core step a index asked.settled target w in (t.0, inl (value ∙ ap (λ (l : List ℕ). slice_index l asked.side) (sym t.1)))
        | of_body_out w ↦ let t = ready-out core step a index asked.settled w in (t.0, inr t.1)
      ]

  abbrev u : Under index step.view.call
  u = ready.0.u

  abbrev target : List ℕ
  target = target_of index step.view.call u

  abbrev Two : Call
  Two = call_more index step.view.call u target new

  abbrev b : BoxStep store_side core step index
  b = record {
    settled = asked.settled;
    side = asked.side;
    names = asked.names;
    left = refl;
    call = Two;
    on = record { stripe = asked.settled.stripe; before = under-so (IsOn index) index step.view.call tt (λ t. refl) u; after = refl; recalls = recalls u };
    quiet = (λ no. no, λ no. no);
    y = ready.0;
    value = ready.1;
  }

  abbrev Is : Sight
  Is = sight location_scope (After store_side core step)

  past : history (log_after store_side core step) ≡ history core.log
  past = step-history store_side core step (λ value. refl)

  changes : Changes core index (history core.log) b.y.r
  changes = changes-none core index a.laws.bodies b.y.r b.y.was

  -- the target is enclosed at each location still
  own : PassIsPlaced a.laws.nodes Is Two (SeenUpdate store_side core step)
  own =
      stores-placed store_side core step a index (box-leaves store_side core step a index b) (box-in_place store_side core step a index b b.y.r.bounds (history core.log) changes past) (SeenUpdate store_side core step) step.view.call u target new
      (ready-placed store_side core step a index b)
      (record {
        enclosed = λ has n k at. ready-wide store_side core step a index b n k at;
        wide = λ n k q value e. let name : BoxWord index asked.side ≡ Bound n k q = ap (λ (x : Store). x.name) e in absurd cc;
        way = λ x j q value e. let name : BoxWord index asked.side ≡ Bound x j q = ap (λ (z : Store). z.name) e in absurd cc;
      })

  between : HasPass (sight body_scope (After store_side core step)) step.number (λ v. IsBetweenBoxes v index)
  between = seat-has body_scope (λ k v. refl) (After store_side core step) step.number (λ v. IsBetweenBoxes v index) (record {
    seat = step.seat;
    view = Last store_side core step;
    at = view-step store_side core step a.at;
    pass = a.pass;
    holds = subst (λ (c : Call). MovesBody c.task index × (has_box_word c.stores ≡ true)) (sym (call-is store_side core step Two b.on.recalls)) (refl, box-last (stores_of index step.view.call u) new refl);
  })

  Invariants-stores : Invariants (after_step store_side core step)
  Invariants-stores =
      Invariants-box store_side core step a index b b.y.r.bounds (history core.log) changes past (λ n k inside location. (a.laws.locations.at index b.y.r n k b.y.was inside location).bounds)
      (λ i q value h. inl (under-target index step.view.call u i q value h)) own (λ whole. absurd (whole step.number between))

-- ---- kind 37

pub Invariants-store_side : IsKept MayStoreSide store_side
Invariants-store_side = kept MayStoreSide store_side Invariants-stores

pub GuardsHold-store_side : IsGuarded MayStoreSide store_side
GuardsHold-store_side = guarded MayStoreSide store_side (λ core step a asked. GuardsHold-box store_side core step a asked.index asked.side asked.names asked.settled)
