-- What the turns of marking a body tell that look at it, and that load the layer of a body that is out.
use Rattle.std.proofs.Common.{◌≡◌, ◌≢◌, ℕ, List, take, sym, ◌∙◌, subst, arith, refl}
use Rattle.body_ident.specs.Id.{Id}
use Rattle.scene_model.specs.declared.body_view.Phase.TheVariants.{Out, Held as HeldPhase, In}
use Rattle.word_map.specs.declared.config.Config.{Config}
use Rattle.word_map.specs.declared.name.Name.{Name}
use Rattle.word_map.specs.declared.name.Name.TheVariants.{Layer, Slot}
use Rattle.core_state.specs.declared.view.Mode.TheVariants.{Write}
use Rattle.core_state.specs.declared.view.Batch.{Batch}
use Rattle.core_state.specs.declared.view.View.{View}
use Rattle.core_state.specs.View.{known_word}
use Rattle.core_state.specs.Encoding.{phase_join}
use Rattle.pass_table.specs.Calls.{AtPoint}
use Rattle.pass_table.specs.Bodies.{KnowsLive, IsGuarded, IsTold, Loaded}
use Rattle.pass_table.proofs.Calling.{point-now}
use Rattle.pass_table.proofs.LockedBodies.{guarded-more, guarded-tells, told-body, told-out}
use Rattle.pass_table.proofs.WorkLater.{worked-sizes}
use Rattle.body_look.specs.declared.body_found.BodyFound.{BodyFound}
use Rattle.body_look.specs.declared.body_found.BodyFound.TheVariants.{Gone as FoundGone, Live as FoundLive, Out as FoundOut, In as FoundIn, Held as FoundHeld, Joined as FoundJoined}
use Rattle.body_look.specs.declared.look_op.LookDepth.TheVariants.{Phase as ItsPhase}
use Rattle.body_look.specs.stages.Looking.{HasLooked, HasStripe as HasItsStripe}
use Rattle.body_look.specs.stages.LookLater.{is-guarded}
use Rattle.body_look.proofs.Answering.{worked-looked}
use Rattle.batch_add.specs.declared.mark_op.MarkRefused.{MarkRefused}
use Rattle.batch_add.specs.declared.mark_op.MarkRefused.TheVariants.{Gone, Held, AlreadyIn, WrongLayer}
use Rattle.batch_add.specs.declared.mark_op.MarkStage.TheVariants.{Outside, Refusing}
use Rattle.batch_add.specs.Parts.{IsFreeAt, IsMarkRefusedAt}
use Rattle.batch_add.specs.stages.Marking.{Marks, current, IsBegunFor, IsBetween, IsAtBody, KnowsOut, after_look, PastLook}
use Rattle.batch_add.specs.stages.MarkLater.{body-guarded, out-later, body-later, were-later}

-- ---- the next body

module _ (layer slot : ℕ) (start : View) (before : List Batch) (batch : Batch) (marks : Marks) (begun : IsBegunFor layer slot start before batch marks) (view : View)
    (at : IsAtBody start before batch marks view) where
  -- it is refused
  pub refusing : (refused : MarkRefused) → IsMarkRefusedAt view.config batch.layer (current marks) refused view.known → PastLook start before batch marks view (Refusing refused)
  refusing refused right = (
    at,
    point-now start view _ (IsMarkRefusedAt start.config batch.layer (current marks) refused) at.held.worked.adds
        (subst (λ (c : Config). IsMarkRefusedAt c batch.layer (current marks) refused view.known) (worked-sizes start view _ at.held.worked) right),
  )

-- ---- a load of its words, or of the slot

module _ (layer slot : ℕ) (start : View) (before : List Batch) (batch : Batch) (marks : Marks) (begun : IsBegunFor layer slot start before batch marks) (view next : View) (name : Name) (found : ℕ)
    (loaded : Loaded view next name found) (at : IsAtBody start before batch marks view) where
  pub body-then : IsAtBody start before batch marks next
  body-then = body-later layer slot start before batch marks begun view next loaded.more at

  -- a body that is known as live is guarded, and its words tell what it is
  module _ (live : KnowsLive (current marks) view) where
    pub guarded-before : IsGuarded (current marks) view
    guarded-before = body-guarded layer slot start before batch marks begun view at live

    pub guarded-then : IsGuarded (current marks) next
    guarded-then = guarded-more (current marks) view next guarded-before loaded.more

    pub told-then : IsTold (current marks) next
    told-then = guarded-tells (current marks) next guarded-then loaded.now

-- ---- the look

module _ (layer slot : ℕ) (start : View) (before : List Batch) (batch : Batch) (marks : Marks) (begun : IsBegunFor layer slot start before batch marks) (mid next : View)
    (between : IsBetween start before batch marks mid) where
  abbrev id : Id
  id = current marks

  -- it has taken the stripe of the body
  looked_body : HasItsStripe id Write mid next → IsAtBody start before batch marks next
  looked_body stripe = record {
    next = between.next;
    held = record {
      steps = between.steps;
      free = between.free;
      worked = worked-looked start mid next _ id Write between.worked refl stripe;
      each = were-later batch.layer start mid next (take marks.marked marks.ids) (stripe.worked.adds.since, stripe.worked.adds.known) between.each;
    };
  }

  -- and what it has found gives the next stage
  pub looked-at : (found : BodyFound) → HasLooked id Write ItsPhase mid next found → PastLook start before batch marks next (after_look found)
  looked-at (FoundGone state) looked =
      refusing layer slot start before batch marks begun next (looked_body looked.stripe) (Gone state) (record { cause = looked.is.cause; says = (looked.is.word, looked.is.other) })
  looked-at FoundLive looked = absurd looked.asked
  looked-at FoundOut looked = (looked_body looked.stripe, ((is-guarded id Write mid next looked.stripe looked.guards).2.state, looked.is.says))
  looked-at FoundIn looked =
      refusing layer slot start before batch marks begun next (looked_body looked.stripe) (AlreadyIn 1)
      (record { cause = told-body id next looked.is.told (λ r. r.phase ≡ In) looked.is.is; says = (looked.is.says, λ none. absurd (omega arith)) })
  looked-at (FoundHeld lies t word) looked =
      refusing layer slot start before batch marks begun next (looked_body looked.stripe) (Held word) (record {
        cause = told-body id next looked.is.0.told (λ r. r.phase ≡ HeldPhase) looked.is.0.is;
        says = (t, looked.is.0.says, (λ i. known_word next (Slot (looked.is.1.lies i) t)) ∙ looked.is.1.has, looked.is.2, looked.is.3);
      })
  looked-at (FoundJoined lies t word) looked =
      refusing layer slot start before batch marks begun next (looked_body looked.stripe) (AlreadyIn (phase_join t))
      (record { cause = told-body id next looked.is.0.told (λ r. r.phase ≡ In) looked.is.0.is; says = (looked.is.0.says, λ none. absurd (omega arith)) })

-- ---- the layer of a body that is out

module _ (layer slot : ℕ) (start : View) (before : List Batch) (batch : Batch) (marks : Marks) (begun : IsBegunFor layer slot start before batch marks) (view next : View) (found : ℕ)
    (out_loaded : Loaded view next (Layer (current marks).index) found) (at : PastLook start before batch marks view Outside) where
  abbrev out_id : Id
  out_id = current marks

  pub out-body : IsAtBody start before batch marks next
  out-body = body-then layer slot start before batch marks begun view next (Layer out_id.index) found out_loaded at.0

  pub out-known : KnowsOut out_id next
  out-known = out-later out_id view next (guarded-before layer slot start before batch marks begun view next (Layer out_id.index) found out_loaded at.0 at.1.0) out_loaded.more at.1

  out_told : IsTold out_id next
  out_told = told-then layer slot start before batch marks begun view next (Layer out_id.index) found out_loaded at.0 at.1.0

  -- where it is the batch's, the body is free
  pub layer-free : found ≡ batch.layer → AtPoint start next (IsFreeAt start.config batch.layer out_id)
  layer-free same =
      point-now start next _ (IsFreeAt start.config batch.layer out_id) out-body.held.worked.adds
      (subst (λ (c : Config). IsFreeAt c batch.layer out_id next.known) (worked-sizes start next _ out-body.held.worked)
      (told-body out_id next out_told (λ r. (r.phase ≡ Out) × (r.layer ≡ batch.layer)) (told-out out_id next out_told out-known.1, sym out_told.layer ∙ (out_loaded.word ∙ same))))

  pub layer-wrong : found ≢ batch.layer → PastLook start before batch marks next (Refusing (WrongLayer found))
  layer-wrong other =
      refusing layer slot start before batch marks begun next out-body (WrongLayer found) (record {
        cause =
            told-body out_id next out_told (λ r. (r.phase ≡ Out) × (r.layer ≢ batch.layer))
            (told-out out_id next out_told out-known.1, λ same. other (sym out_loaded.word ∙ (out_told.layer ∙ same)));
        says = out_loaded.word;
      })
