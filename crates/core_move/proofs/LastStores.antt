-- Storing the last box word ends a move: the body has the box that its words say, and all bounds from its locations up contain
-- it. The side that the move was about to give counts for the layer from then on as one that the body had.
use Rattle.std.proofs.Common.{◌≡◌, ◌⊎◌, ℕ, ◌<◌, List, [], ◌∷◌, ◌++◌, length, option_map, refl, ap, sym, ◌∙◌, subst, inl, inr, arith, eq-eqb}
use Rattle.std.specs.Prelude.{slice_index}
use Rattle.std.proofs.lemmas.Bool.{cases_eq, ne_eqb}
use Rattle.fixed_box.specs.FixBox.{words_of}
use Rattle.fixed_box.specs.declared.fix_box.FixBox.{FixBox}
use Rattle.scene_model.specs.declared.body_view.Phase.TheVariants.{Out, In}
use Rattle.scene_model.specs.declared.entry.Entry.TheVariants.{Move}
use Rattle.scene_model.specs.declared.entry.Made.{Made}
use Rattle.scene_model.specs.Scene.{record_at}
use Rattle.scene_model.specs.Step.{HasBody}
use Rattle.word_map.specs.declared.name.Name.{Name}
use Rattle.word_map.specs.declared.name.Name.TheVariants.{BoxWord}
use Rattle.core_state.specs.declared.view.Task.TheVariants.{Nothing}
use Rattle.core_state.specs.View.{known_word, no_call}
use Rattle.core_state.specs.Log.{history}
use Rattle.core_state.specs.Core.{Core, word_of, scene_of}
use Rattle.core_state.specs.Kind.{Step, log_after, after_step}
use Rattle.core_state.specs.Encoding.{sides_of}
use Rattle.core_state.specs.Moving.{as_target, as_body_out, box_with_last, move_of, MayStoreLastSide, store_last_side}
use Rattle.core_state.specs.Scope.{sight}
use Rattle.core_state.specs.Space.{IsTarget}
use Rattle.core_state.specs.LocationsHold.{location_scope, IsLocation, Encloses}
use Rattle.core_state.specs.Invariants.{Invariants}
use Rattle.core_state.proofs.Beginning.{record_body}
use Rattle.core_state.proofs.Boxes.{box_of-words}
use Rattle.core_state.proofs.Steps.{word-step, word-step-other}
use Rattle.core_guard.proofs.Holders.{IsGuarded, guarded}
use Rattle.core_guard.proofs.Leaving.{Acts, After}
use Rattle.core_guard.proofs.OneBody.{history-made}
use Rattle.core_guard.proofs.PlacesLeft.{SeenUpdate}
use Rattle.core_guard.proofs.PlacesStay.{encloses-forth, begun-placed}
use Rattle.core_guard.proofs.Touched.{IsKept, kept}
use Rattle.core_move.proofs.BoxMoves.{known, IsReady, ready-in, ready-out, BoxStep, box_side, ready-stands, ready-wide, box-leaves, back, Invariants-box, GuardsHold-box}
use Rattle.core_move.proofs.MoveSteps.{target_of, under-target, under-so}
use Rattle.core_guard.proofs.BodyAnew.{No_new}
use Rattle.core_guard.proofs.Changed.{Changes, changes-made, record-after}
use Rattle.core_guard.proofs.OnBody.{IsOn}

module _ (core : Core) (step : Step) (a : Acts core step) (asked : MayStoreLastSide step.view step.name step.first step.second) where
  abbrev index : ℕ
  index = asked.index

  abbrev bounds : FixBox
  bounds = asked.bounds

  -- the move that ends, if it had begun: its target is the box, unless the body is out
  ready : (y : IsReady core step index) × ((target_of index step.view.call y.u ≡ words_of bounds) ⊎ ((y.r.phase ≡ Out) × (target_of index step.view.call y.u ≡ [])))
  ready =
      elim (asked.stores) [
        | as_target w ↦ let t = ready-in core step a index asked.settled (words_of bounds) w in (t.0, inl t.1)
        | as_body_out w ↦ let t = ready-out core step a index asked.settled w in (t.0, inr (t.1, t.2))
      ]

  abbrev y : IsReady core step index
  y = ready.0

  abbrev b : BoxStep store_last_side core step index
  b = record {
    settled = asked.settled;
    side = 5;
    names = asked.names;
    left = refl;
    call = no_call;
    on = record { stripe = asked.settled.stripe; before = under-so (IsOn index) index step.view.call tt (λ t. refl) y.u; after = tt; recalls = refl };
    quiet = (λ no. no, λ no. no);
    y = y;
    value = elim (ready.1) [ inl same ↦ inl (asked.box 5 (omega arith) ∙ ap (λ (l : List ℕ). slice_index l 5) (sym same)) | inr out ↦ inr out.0 ];
  }

  -- ---- the scene

  abbrev past : List Made
  past = history core.log ++ record { pass = step.number; entry = Move index bounds } ∷ []

  made : history (log_after store_last_side core step) ≡ past
  made =
      history-made store_last_side core step (Move index bounds) refl
      (ap (λ (n : Name). move_of step.view n step.first) asked.names ∙ ap (option_map (λ (b : FixBox). Move index b)) (box_of-words bounds (box_with_last step.view index step.first) asked.box))

  changes : Changes core index past (record y.r { bounds = bounds })
  changes =
      changes-made core index a.laws.bodies y.r y.was step.number (Move index bounds) (λ q. record q { bounds = bounds }) (λ scene. refl)
      (record_body (record_at (scene_of core) index) (λ q. (q.phase ≡ Out) ⊎ (q.phase ≡ In)) y.r y.was (elim (y.phase) [ inl t ↦ inr t.0 | inr out ↦ inl out ]), tt)

  -- the words of the body are those of the new box
  box-now : (k : ℕ) → k < 6 → word_of (After store_last_side core step) (BoxWord index k) ≡ slice_index (words_of bounds) k
  box-now k below =
      elim (cases_eq k 5) [
        | inl last ↦
            let side : box_with_last step.view index step.first k ≡ step.first = rw (eq-eqb k 5 last) refl in
            ap (word_of (After store_last_side core step)) (ap (BoxWord index) last ∙ sym asked.names) ∙ (word-step store_last_side core step ∙ (sym side ∙ asked.box k below))
        | inr apart ↦
            let side : box_with_last step.view index step.first k ≡ known_word step.view (BoxWord index k) = rw (ne_eqb k 5 apart) refl in
            word-step-other store_last_side core step (BoxWord index k) (λ e. apart (ap box_side (e ∙ asked.names))) ∙ ((known core step a index asked.settled).words (BoxWord index k) refl ∙ (sym side ∙ asked.box k below))
      ]

  wide : (n k : ℕ) → IsLocation (sight location_scope core) index n k → Encloses (sight location_scope core) n k (sides_of (words_of bounds))
  wide n k location =
      let t = ready-wide store_last_side core step a index b n k location in
      elim (ready.1) [
        | inl same ↦ subst (λ (target : List ℕ). Encloses (sight location_scope core) n k (sides_of target)) same t.1
        | inr out ↦ let six = t.0 in let none = ap length out.1 in absurd (omega arith)
      ]

  pub wide-now : (n k : ℕ) → IsLocation (sight location_scope (After store_last_side core step)) index n k → Encloses (sight location_scope (After store_last_side core step)) n k (sides_of (words_of bounds))
  wide-now n k location =
      let old = back store_last_side core step a index b bounds past changes made n k location in
      encloses-forth store_last_side core step a a.laws.nodes (No_new store_last_side core step) (box-leaves store_last_side core step a index b) n k (sides_of (words_of bounds))
      (ready-stands store_last_side core step a index b n k old) (wide n k old)

  -- a side that the move was about to give is one of the new box
  targets : (i q side : ℕ) → IsTarget step.view.call.task i q side → HasBody (scene_of (After store_last_side core step)) i (λ r. sides_of (words_of r.bounds) q ≡ side)
  targets i q side target =
      let t = under-target index step.view.call y.u i q side target in
      elim (ready.1) [
        | inl same ↦
            subst (λ (j : ℕ). HasBody (scene_of (After store_last_side core step)) j (λ r. sides_of (words_of r.bounds) q ≡ side)) t.0
            (record_body (record_at (scene_of (After store_last_side core step)) index) (λ r. sides_of (words_of r.bounds) q ≡ side) (record y.r { bounds = bounds })
            (record-after store_last_side core step index past (record y.r { bounds = bounds }) changes made) (ap (λ (l : List ℕ). slice_index l q) (sym same) ∙ t.2))
        | inr out ↦ let few = t.1 in let many = ap length out.1 in absurd (omega arith)
      ]

  Invariants-ends : Invariants (after_step store_last_side core step)
  Invariants-ends =
      Invariants-box store_last_side core step a index b bounds past changes made (λ n k inside location. wide n k location) (λ i q side target. inr (targets i q side target))
      (begun-placed a.laws.nodes (sight location_scope (After store_last_side core step)) (SeenUpdate store_last_side core step) Nothing (λ i removes. absurd removes) tt (λ n k climbs. absurd climbs))
      (λ whole k below. box-now k below)

-- ---- kind 38

pub Invariants-store_last_side : IsKept MayStoreLastSide store_last_side
Invariants-store_last_side = kept MayStoreLastSide store_last_side Invariants-ends

pub GuardsHold-store_last_side : IsGuarded MayStoreLastSide store_last_side
GuardsHold-store_last_side = guarded MayStoreLastSide store_last_side (λ core step a asked. GuardsHold-box store_last_side core step a asked.index 5 asked.names asked.settled)
