-- What a call on one body answers, told of the scene before it.
use Rattle.std.proofs.Common.{◌≡◌, ◌≢◌, ◌⊎◌, ℕ, List, [], ◌∷◌, ◌++◌, Option, Some, None, inl, inr, refl, ap, sym, ◌∙◌, subst}
use Rattle.body_ident.specs.Id.{Id}
use Rattle.fixed_box.specs.declared.fix_box.FixBox.{FixBox}
use Rattle.scene_model.specs.declared.body_view.BodyView.{BodyView}
use Rattle.scene_model.specs.declared.body_view.Phase.{Phase}
use Rattle.scene_model.specs.declared.body_view.Phase.TheVariants.{Out, Held, In}
use Rattle.scene_model.specs.Scene.{Scene, Record}
use Rattle.scene_model.specs.Query.{view_of as body_view}
use Rattle.scene_model.specs.Cause.{HasIdBody, IsCauseAt, gone}
use Rattle.core_state.specs.declared.item.Item.{Item}
use Rattle.core_state.specs.declared.view.View.{View}
use Rattle.core_state.specs.Guards.{scene_at}
use Rattle.pass_table.specs.declared.pass.Pass.{Pass}
use Rattle.pass_table.specs.Passes.{view_of}
use Rattle.pass_table.specs.Calls.{AtPoint, MakesAt}
use Rattle.pass_table.specs.Bodies.{IsGoneAt}
use Rattle.reply_text.specs.declared.refusal.Refusal.{Refusal}
use Rattle.reply_text.specs.declared.refusal.Refusal.TheVariants as refusals
use Rattle.script_player.specs.declared.bodies.Change.{Change}
use Rattle.script_player.specs.declared.bodies.Change.TheVariants as changes
use Rattle.script_player.specs.Attempt.{Attempt}
use Rattle.script_player.specs.Body.{body_of, forbids, entry_of, make_change, change_body}
use Rattle.world_host.specs.Alone.{scene_of, Leaves}
use Rattle.world_host.specs.Answers.{Tries, ChangesAlone}
use Rattle.world_host.proofs.Points.{point-scene, made-before}
use Rattle.world_host.proofs.Records.{has-body, gone-body}
use Rattle.world_host.proofs.Parts.{Part, part-sees, part-leaves}

-- ---- by what stands under the id

module _ (change : Change) (id : Id) (start next : View) where
  -- where the body is gone
  gone-tries : body_of (scene_of start) id ≡ None → Leaves start next [] → ChangesAlone change id start next (Some refusals.Gone)
  gone-tries is leaves table same =
      let whole = ap (λ (s : Scene). change_body table change id.index (body_of s id)) same ∙ ap (change_body table change id.index) is in
      subst (λ (a : Attempt). Tries a start next (Some refusals.Gone)) (sym whole) (record { refusal_is = refl; leaves = leaves })

  -- where it forbids the change
  refused-tries : (v : BodyView) (refusal : Refusal) → body_of (scene_of start) id ≡ Some v → forbids change v.phase ≡ Some refusal → Leaves start next [] → ChangesAlone change id start next (Some refusal)
  refused-tries v refusal is why leaves table same =
      let whole =
      ap (λ (s : Scene). change_body table change id.index (body_of s id)) same
      ∙ (ap (change_body table change id.index) is ∙ ap (make_change table (entry_of change id.index)) why)
      in
      subst (λ (a : Attempt). Tries a start next (Some refusal)) (sym whole) (record { refusal_is = refl; leaves = leaves })

  -- and where it does not
  pub done-tries : (v : BodyView) → body_of (scene_of start) id ≡ Some v → forbids change v.phase ≡ None → Leaves start next (entry_of change id.index ∷ []) → ChangesAlone change id start next None
  done-tries v is why leaves table same =
      let whole =
      ap (λ (s : Scene). change_body table change id.index (body_of s id)) same
      ∙ (ap (change_body table change id.index) is ∙ ap (make_change table (entry_of change id.index)) why)
      in
      subst (λ (a : Attempt). Tries a start next None) (sym whole) (record { refusal_is = refl; leaves = leaves })

-- ---- by what the call tells

module _ (pass : Pass) (start : View) (one : start.config.passes ≡ 1) (id : Id) where
  abbrev next : View
  next = view_of pass

  -- at a point of it the body was gone
  pub gone-at : (state : ℕ) → Part start next [] → AtPoint start next (IsGoneAt start.config id state) → body_of (scene_of start) id ≡ None
  gone-at state part at =
      gone-body (scene_of start) id (subst (IsCauseAt (gone id)) (point-scene start next (IsGoneAt start.config id state) at (part-sees pass start [] one part)) at.holds.cause)

  pub gone-changes : (change : Change) (state : ℕ) → Part start next [] → AtPoint start next (IsGoneAt start.config id state) → ChangesAlone change id start next (Some refusals.Gone)
  gone-changes change state part at = gone-tries change id start next (gone-at state part at) (part-leaves pass start [] one part)

  -- at a point of it something forbade the change
  pub refused-changes : (change : Change) (refusal : Refusal) (fact : List Item → Type 0) (P : Record → Type 0) → Part start next [] → AtPoint start next fact
      → ((log : List Item) → fact log → HasIdBody (scene_at start.config log) id P) → ((r : Record) → P r → forbids change r.phase ≡ Some refusal) → ChangesAlone change id start next (Some refusal)
  refused-changes change refusal fact P part at says why =
      let has = subst (λ (s : Scene). HasIdBody s id P) (point-scene start next fact at (part-sees pass start [] one part)) (says (start.known ++ at.since) at.holds) in
      let body = has-body (scene_of start) id P has in
      refused-tries change id start next (body_view id.index body.0) refusal body.1 (why body.0 body.2) (part-leaves pass start [] one part)

  -- just before it was made nothing forbade it
  pub made-changes : (change : Change) (P : Record → Type 0) → Part start next (entry_of change id.index ∷ []) → MakesAt start next (entry_of change id.index) (λ log. HasIdBody (scene_at start.config log) id P)
      → ((r : Record) → P r → forbids change r.phase ≡ None) → ChangesAlone change id start next None
  made-changes change P part at why =
      let entry = entry_of change id.index in
      let has = made-before start next entry (λ s. HasIdBody s id P) (part-sees pass start (entry ∷ []) one part) at in
      let body = has-body (scene_of start) id P has in
      done-tries change id start next (body_view id.index body.0) body.1 (why body.0 body.2) (part-leaves pass start (entry ∷ []) one part)

-- ---- what each phase forbids

pub phase-forbids : (change : Change) (phase own : Phase) (o : Option Refusal) → forbids change own ≡ o → phase ≡ own → forbids change phase ≡ o
phase-forbids change phase own o is same = ap (forbids change) same ∙ is

pub in-use-forbids : (phase : Phase) → (phase ≡ Held) ⊎ (phase ≡ In) → forbids changes.Destroy phase ≡ Some refusals.InUse
in-use-forbids phase (inl held) = ap (forbids changes.Destroy) held
in-use-forbids phase (inr inside) = ap (forbids changes.Destroy) inside

pub free-moves : (to : FixBox) (phase : Phase) → phase ≢ Held → forbids (changes.Move to) phase ≡ None
free-moves to Out free = refl
free-moves to Held free = absurd (free refl)
free-moves to In free = refl
