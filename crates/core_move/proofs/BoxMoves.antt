-- A move that stores box words, as far as it is: of a body in the broad phase every bound from its locations up contains the
-- target, which is whole; one that is out stands in no tree.
use Rattle.std.proofs.Common.{◌≡◌, ◌≢◌, ◌⊎◌, ℕ, List, [], length, Option, Some, refl, sym, ◌∙◌, subst, inl, inr, ◌<◌, ◌+◌, ◌-◌, ◌≤◌, ◌↔◌, ap, false}
use Rattle.std.specs.Prelude.{IsSomeAnd, slice_index}
use Rattle.scene_model.specs.declared.body_view.Phase.TheVariants.{Out, Held, In}
use Rattle.scene_model.specs.Scene.{Record, record_at}
use Rattle.core_state.specs.declared.view.Task.{Task}
use Rattle.core_state.specs.declared.view.Task.TheVariants.{Nothing, Moving}
use Rattle.core_state.specs.declared.view.Call.{Call}
use Rattle.core_state.specs.Core.{Core, scene_of, word_of}
use Rattle.core_state.specs.Kind.{Kind, Step, left_by, log_after, after_step}
use Rattle.core_state.specs.Encoding.{sides_of, Sides}
use Rattle.core_state.specs.LocationsHold.{location_scope, IsLocation, Encloses, Removes, IsRemoved, box_in}
use Rattle.core_state.specs.Moving.{IsSettled, HasClimbed, IsWidenedFor, IsOutToMove}
use Rattle.core_state.specs.Nodes.{Stands, Nodes}
use Rattle.core_state.specs.Scope.{Sight, sight, scene_in}
use Rattle.core_state.proofs.Beginning.{body_record, record_body}
use Rattle.core_guard.proofs.Leaving.{Acts, After, Last, Leaves, body_of, in_held, out_held, out_in}
use Rattle.core_guard.proofs.PlacesLeft.{SeenUpdate, body_in_place}
use Rattle.core_guard.proofs.PlacesStay.{PassIsPlaced, location-back, encloses-forth, seen-task, removes-handles, removes-busy}
use Rattle.core_guard.proofs.Settled.{StandsStill, settled-still, location-known}
use Rattle.core_move.proofs.Climbing.{climbed-encloses}
use Rattle.core_move.proofs.MoveSteps.{Under, has_begun, begins_now, target_of, call_under, under-so, under-placed}
use Rattle.std.proofs.lemmas.Bool.{cases_eq, true≢false}
use Rattle.std.proofs.lemmas.Option.{same_Some}
use Rattle.fixed_box.specs.FixBox.{words_of}
use Rattle.fixed_box.specs.declared.fix_box.FixBox.{FixBox}
use Rattle.scene_model.specs.declared.entry.Made.{Made}
use Rattle.scene_model.specs.Step.{HasBody}
use Rattle.word_map.specs.declared.name.Name.{Name}
use Rattle.word_map.specs.declared.name.Name.TheVariants.{BoxWord, LocA, LocB, State, Layer, Phase, Slot, Bound}
use Rattle.core_state.specs.declared.view.View.{View}
use Rattle.core_state.specs.Log.{history}
use Rattle.core_state.specs.Bodies.{is_box_word, phase_by, HasWholeBox}
use Rattle.core_state.specs.Parts.{call_on_places}
use Rattle.core_state.specs.Space.{IsTarget}
use Rattle.core_state.specs.Updates.{IsPlacing}
use Rattle.core_state.proofs.Steps.{word-step, word-step-other}
use Rattle.core_guard.proofs.AgreeOn.{is_turned, BodiesAgree-turned}
use Rattle.core_guard.proofs.BodiesStep.{new_sight}
use Rattle.core_guard.proofs.LivesGuarded.{IsStripeWord, stripe-guarded}
use Rattle.core_state.specs.Guards.{KeepsGuards}
use Rattle.core_state.specs.Invariants.{Invariants}
use Rattle.core_guard.proofs.BodyAnew.{No_new, turn-leaves, Invariants-turned}
use Rattle.core_guard.proofs.BodyTouch.{no_place}
use Rattle.core_guard.proofs.Changed.{Changes, record-after, others-after}
use Rattle.core_guard.proofs.CoverLeft.{in_place}
use Rattle.core_guard.proofs.InPlace.{alike-of, InPlace, creation-forth}
use Rattle.core_guard.proofs.OnBody.{OnBody, nobody-does}
use Rattle.core_guard.proofs.Recalled.{recalled, task-is}
use Rattle.core_guard.proofs.Seats.{has-seat}

-- ---- what a move has climbed, it has climbed as the one that is under way

abbrev IsNothing : Task → Type 0
IsNothing Nothing = Unit {0}
IsNothing _ = ⊥

under-climbed : (index : ℕ) (c : Call) (u : Under index c) (n k : ℕ) → c.task ≡ Moving index (target_of index c u) → HasClimbed c (sides_of (target_of index c u)) n k → HasClimbed (call_under index c u) (sides_of (target_of index c u)) n k
under-climbed index c (has_begun t e) n k task h = subst (λ (d : Call). HasClimbed d (sides_of t) n k) (λ i. record { task = e i; loads = c.loads; stores = c.stores }) h
under-climbed index c (begins_now e) n k task h = absurd (subst IsNothing (sym e ∙ task) tt)

-- ---- the body is in the broad phase and its way is widened, or it is out

pub record IsReady (core : Core) (step : Step) (index : ℕ) : Type 0 where
  pub u : Under index step.view.call
  pub r : Record
  pub was : record_at (scene_of core) index ≡ Some r
  pub phase : ((r.phase ≡ In) × IsWidenedFor step.view index (target_of index step.view.call u)) ⊎ (r.phase ≡ Out)

module _ (core : Core) (step : Step) (a : Acts core step) (index : ℕ) (settled : IsSettled step.view index) where
  pub known : StandsStill core step.view index
  known = settled-still core step a index settled

  settled-unheld : HasBody (scene_of core) index (λ q. q.phase ≢ Held)
  settled-unheld = subst (λ (x : Option Record). IsSomeAnd x (λ q. q.phase ≢ Held)) (sym known.body) settled.unheld

  pub ready-in : (target : List ℕ) → IsWidenedFor step.view index target → (y : IsReady core step index) × (target_of index step.view.call y.u ≡ target)
  ready-in target w =
      let t = body_record (record_at (scene_of core) index) (λ r. r.phase ≡ In) (subst (λ (x : Option Record). IsSomeAnd x (λ r. r.phase ≡ In)) (sym known.body) w.inside) in
      (record { u = has_begun target w.task; r = t.0; was = t.1; phase = inl (t.2, w) }, refl)

  pub ready-out : IsOutToMove step.view index → (y : IsReady core step index) × (y.r.phase ≡ Out) × (target_of index step.view.call y.u ≡ [])
  ready-out w =
      let t = body_record (record_at (scene_of core) index) (λ r. r.phase ≡ Out) (subst (λ (x : Option Record). IsSomeAnd x (λ r. r.phase ≡ Out)) (sym known.body) w.outside) in
      elim (w.task) [
        | inl idle ↦ (record { u = begins_now idle; r = t.0; was = t.1; phase = inr t.2 }, t.2, refl)
        | inr moves ↦ (record { u = has_begun [] moves; r = t.0; was = t.1; phase = inr t.2 }, t.2, refl)
      ]

-- ---- a box word of it is stored

abbrev pub box_side : Name → ℕ
box_side (BoxWord i k) = k
box_side _ = 0

pub record BoxStep (kind : Kind) (core : Core) (step : Step) (index : ℕ) : Type 0 where
  pub settled : IsSettled step.view index
  pub side : ℕ
  pub names : step.name ≡ BoxWord index side
  pub left : left_by kind core step ≡ step.first
  pub call : Call
  pub on : OnBody kind core step index call
  pub quiet : ¬ Removes call.task index × ¬ IsPlacing call.task index
  pub y : IsReady core step index
  -- the word is a side of the target, unless the body is out
  pub value : (step.first ≡ slice_index (target_of index step.view.call y.u) side) ⊎ (y.r.phase ≡ Out)

module _ (kind : Kind) (core : Core) (step : Step) (a : Acts core step) (index : ℕ) (b : BoxStep kind core step index) where
  abbrev y : IsReady core step index
  y = b.y

  abbrev nodes : Nodes
  nodes = a.laws.nodes

  abbrev Was : Sight
  Was = sight location_scope core

  abbrev Is : Sight
  Is = sight location_scope (After kind core step)

  abbrev target : List ℕ
  target = target_of index step.view.call y.u

  -- nobody takes it out
  not-removed : ¬ IsRemoved Was index
  not-removed removed =
      let from = has-seat location_scope (λ k v. refl) core removed.0 (λ v. Removes v.call.task index) removed.1 in
      nobody-does kind core step index b.call a b.on (λ t. Removes t index) (λ t. removes-handles t index) (under-so (λ t. ¬ Removes t index) index step.view.call (λ no. no) (λ t no. no) y.u) from.seat removed.0 from.view from.at from.pass
      (seen-task (λ t. Removes t index) (removes-busy index) from.view.call from.holds)

  out-nowhere : y.r.phase ≡ Out → (n k : ℕ) → ¬ IsLocation Was index n k
  out-nowhere out n k location =
      let none = a.laws.locations.out index (record_body (record_at (scene_of core) index) (λ q. q.phase ≡ Out) y.r y.was out) not-removed in
      elim (location.1) [ inl e ↦ no_place kind core step _ n k none.0 e | inr e ↦ no_place kind core step _ n k none.1 e ]

  pub ready-stands : (n k : ℕ) → IsLocation Was index n k → Stands (nodes.home n)
  ready-stands n k location = elim (y.phase) [ inl t ↦ (a.laws.locations.at index y.r n k y.was t.0 location).stands | inr out ↦ absurd (out-nowhere out n k location) ]

  ready-unheld : y.r.phase ≢ Held
  ready-unheld held = elim (y.phase) [ inl t ↦ in_held (sym t.0 ∙ held) | inr out ↦ out_held (sym out ∙ held) ]

  unheld : HasBody (scene_of core) index (λ q. q.phase ≢ Held)
  unheld = record_body (record_at (scene_of core) index) (λ q. q.phase ≢ Held) y.r y.was ready-unheld

  -- what is said of the call before the step
  pub ready-placed : PassIsPlaced nodes Was (call_under index step.view.call y.u) (SeenUpdate kind core step)
  ready-placed = under-placed kind core step a index y.u unheld ready-stands

  -- what the pass knows of the way up closes: every bound from a location to the root contains the target
  pub ready-wide : (n k : ℕ) → IsLocation Was index n k → (length target ≡ 6) × Encloses Was n k (sides_of target)
  ready-wide n k location =
      elim (y.phase) [
        | inl t ↦
            let still = known core step a index b.settled in
            let here = location-known core step.view index still.loc_a still.loc_b n k location in
            (t.1.six, climbed-encloses nodes Was (SeenUpdate kind core step) (call_under index step.view.call y.u) ready-placed (sides_of target) n k (under-climbed index step.view.call y.u n k t.1.task (t.1.climbed n k here)))
        | inr out ↦ absurd (out-nowhere out n k location)
      ]

  pub box-leaves : Leaves kind core step nodes nodes (No_new kind core step)
  box-leaves = turn-leaves kind core step nodes index (ap body_of b.names) (ap (λ (v : View). v.rebuild) (recalled kind core step b.call b.on.recalls))

  -- ---- it stands where it stood, with the box that it then has

  module _ (bounds : FixBox) (past : List Made) (changes : Changes core index past (record y.r { bounds = bounds })) (made : history (log_after kind core step) ≡ past) where
    now : record_at (scene_of (After kind core step)) index ≡ Some (record y.r { bounds = bounds })
    now = record-after kind core step index past (record y.r { bounds = bounds }) changes made

    unlike : (name : Name) → is_box_word name ≡ false → word_of (After kind core step) name ≡ word_of core name
    unlike name other = word-step-other kind core step name (λ e. true≢false (sym (ap is_box_word b.names) ∙ (ap is_box_word (sym e) ∙ other)))

    never : (P : Task → Type 0) → ¬ P Nothing → ((t : List ℕ) → ¬ P (Moving index t)) → ¬ P b.call.task → P step.view.call.task ↔ P (Last kind core step).call.task
    never P idle moves after = (λ h. absurd (under-so (λ t. ¬ P t) index step.view.call idle moves y.u h), λ h. absurd (after (subst P (task-is kind core step b.call b.on.recalls) h)))

    pub box-in_place : InPlace kind core step index
    box-in_place = record {
      body = alike-of (record_at (scene_of core) index) (record_at (scene_of (After kind core step)) index) y.r (record y.r { bounds = bounds }) y.was now refl refl;
      loc_a = unlike (LocA index) refl;
      loc_b = unlike (LocB index) refl;
      state = unlike (State index) refl;
      layer = unlike (Layer index) refl;
      places = never (λ t. IsPlacing t index) (λ no. no) (λ t no. no) b.quiet.1;
      phase = inl (record {
        body = λ r q was is. ap (λ (x : Record). x.phase) (same_Some q (record y.r { bounds = bounds }) (sym is ∙ now)) ∙ ap (λ (x : Record). x.phase) (same_Some y.r r (sym y.was ∙ was));
        word = unlike (Phase index) refl;
        removes = never (λ t. Removes t index) (λ no. no) (λ t no. no) b.quiet.0;
      });
    }

    pub back : (n k : ℕ) → IsLocation Is index n k → IsLocation Was index n k
    back = location-back kind core step a nodes (No_new kind core step) box-leaves index box-in_place

    -- a box word is as it was, or the new one, which is a side of the target; and the box lies in all bounds above
    module _ (inside : (n k : ℕ) → y.r.phase ≡ In → IsLocation Was index n k → Encloses Was n k (sides_of (words_of bounds))) where
      word-now : (q : ℕ) → (Is.word (BoxWord index q) ≡ Was.word (BoxWord index q)) ⊎ ((q ≡ b.side) × (Is.word (BoxWord index q) ≡ step.first))
      word-now q =
          elim (cases_eq q b.side) [
            | inl one ↦ inr (one, ap (word_of (After kind core step)) (ap (BoxWord index) one ∙ sym b.names) ∙ (word-step kind core step ∙ b.left))
            | inr apart ↦ inl (word-step-other kind core step (BoxWord index q) (λ e. apart (ap box_side (e ∙ b.names))))
          ]

      enclosed : (q : Record) (n k : ℕ) → record_at (scene_in Is) index ≡ Some q → q.phase ≡ In → IsLocation Is index n k → Encloses Is n k (sides_of (words_of q.bounds)) × Encloses Is n k (box_in Is index)
      enclosed q n k e is_in location =
          let same = same_Some (record y.r { bounds = bounds }) q (sym now ∙ e) in
          let was_in : y.r.phase ≡ In = ap (λ (x : Record). x.phase) same ∙ is_in in
          let old = back n k location in
          let was = a.laws.locations.at index y.r n k y.was was_in old in
          let forth : (box : Sides) → Encloses Was n k box → Encloses Is n k box = λ box h. encloses-forth kind core step a nodes (No_new kind core step) box-leaves n k box was.stands h in
          let before = forth (box_in Was index) was.box_words in
          let after = forth (sides_of target) (ready-wide n k old).1 in
          let first : step.first ≡ slice_index target b.side = elim (b.value) [ inl e ↦ e | inr out ↦ absurd (out_in (sym out ∙ was_in)) ] in (
            subst (λ (x : Record). Encloses Is n k (sides_of (words_of x.bounds))) same (forth (sides_of (words_of bounds)) (inside n k was_in old)),
            λ x j up p low.
                let one = before x j up p low in
                let two = after x j up p low in (
                  elim (word-now p) [ inl e ↦ subst (λ (v : ℕ). Is.word (Bound x j p) ≤ v) (sym e) one.0 | inr t ↦ subst (λ (v : ℕ). Is.word (Bound x j p) ≤ v) (sym (t.1 ∙ (first ∙ ap (sides_of target) (sym t.0)))) two.0 ],
                  elim (word-now (3 + p)) [ inl e ↦ subst (λ (v : ℕ). v ≤ Is.word (Bound x j (3 + p))) (sym e) one.1 | inr t ↦ subst (λ (v : ℕ). v ≤ Is.word (Bound x j (3 + p))) (sym (t.1 ∙ (first ∙ ap (sides_of target) (sym t.0)))) two.1 ],
                ),
          )

      -- so of all laws what they say of the own pass is left, and of its box words
      pub Invariants-box : ((i q v : ℕ) → IsTarget step.view.call.task i q v → IsTarget b.call.task i q v ⊎ HasBody (scene_of (After kind core step)) i (λ r. sides_of (words_of r.bounds) q ≡ v))
          → PassIsPlaced nodes Is (call_on_places b.call) (SeenUpdate kind core step)
          → (HasWholeBox (new_sight kind core step a.at a.pass past) index → (k : ℕ) → k < 6 → word_of (After kind core step) (BoxWord index k) ≡ slice_index (words_of bounds) k) → Invariants (after_step kind core step)
      Invariants-box targets own box =
          let words = a.laws.bodies.live index y.r y.was in
          let phase = unlike (Phase index) refl in
          Invariants-turned kind core step a index b.call
          (record {
            on = b.on;
            of_body = ap body_of b.names;
            others = others-after kind core step index past (record y.r { bounds = bounds }) changes made;
            layer = λ g l. creation-forth kind core step index box-in_place (λ x y. (x ≡ g) × (y ≡ l));
            targets = targets;
            unheld = unheld;
            placed = body_in_place box-in_place enclosed;
            stand = λ n k location. ready-stands n k (back n k location);
            covered = in_place box-in_place;
            own = own;
          })
          (BodiesAgree-turned kind core step a index b.call b.on past y.r (record y.r { bounds = bounds }) (record {
            of_body = ap body_of b.names;
            turned = ap is_turned b.names;
            was = y.was;
            changes = changes;
            made = made;
            unheld = ready-unheld;
            unheld_now = ready-unheld;
            layer = refl;
            user = refl;
            bounds = box;
            phase = ap (λ (n : ℕ). phase_by n (word_of core (Slot y.r.layer (n - 2)))) phase ∙ words.phase;
            fits = subst (λ (n : ℕ). n < 2 + core.config.slots) (sym phase) words.slot;
          }))

-- no other pass has the word for itself
pub GuardsHold-box : (kind : Kind) (core : Core) (step : Step) (a : Acts core step) (index side : ℕ) → step.name ≡ BoxWord index side → IsSettled step.view index → KeepsGuards kind core step
GuardsHold-box kind core step a index side names settled = stripe-guarded kind core step a index settled.stripe (settled-unheld core step a index settled) (subst (IsStripeWord index) (sym names) refl)
