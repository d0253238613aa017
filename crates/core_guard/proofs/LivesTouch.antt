-- What creation, destruction and user numbers leave of trees, bodies and passes.
use Rattle.std.proofs.Common.{◌≡◌, ℕ, ◌<◌, Bool, Option, Some, None, true, false, is_some, IsSome, IsNone, IsSomeAnd, refl, ap, sym, ◌∙◌, subst, inl, inr, arith}
use Rattle.std.proofs.lemmas.Bool.{false≢true}
use Rattle.scene_model.specs.declared.body_view.Phase.TheVariants.{Out, In}
use Rattle.scene_model.specs.declared.entry.Entry.TheVariants.{Destroy, SetUser}
use Rattle.scene_model.specs.Scene.{Record, record_at}
use Rattle.scene_model.specs.Step.{HasBody}
use Rattle.word_map.specs.declared.config.Config.{Config}
use Rattle.word_map.specs.declared.name.Name.{Name}
use Rattle.word_map.specs.declared.name.Name.TheVariants.{State, Phase, Layer, User, BoxWord, LocA, LocB}
use Rattle.word_map.specs.Names.{IsName, stripe_of}
use Rattle.core_state.specs.declared.view.Mode.TheVariants.{Write}
use Rattle.core_state.specs.declared.view.Task.{Task}
use Rattle.core_state.specs.declared.view.View.{View}
use Rattle.core_state.specs.View.{IsPass, Holds}
use Rattle.core_state.specs.Core.{Core, word_of, scene_of, IsViewAt}
use Rattle.core_state.specs.Kind.{Step}
use Rattle.core_state.specs.Encoding.{phase_out}
use Rattle.core_state.specs.Lives.{IsFieldOf, MayStoreField, store_field, MayCreate, create, MayDestroy, destroy, MaySetUser, set_user}
use Rattle.core_state.specs.LocationsHold.{location_scope, is_location_store, Removes}
use Rattle.core_state.proofs.Steps.{word-step-other}
use Rattle.core_guard.proofs.Scenes.{live_or_dead, none_here, with_user}
use Rattle.core_guard.proofs.Seats.{has-seat}
use Rattle.core_guard.proofs.BodiesStep.{sound}
use Rattle.core_guard.proofs.LivesAgree as lives
use Rattle.core_guard.proofs.Leaving.{Acts, IsHandled, IsIdle, Stays, IsAsBefore, is_live, After, Touches, scene-plain, body_of, out_in}
use Rattle.core_guard.proofs.BodyTouch.{touches-body, held-kept, record-made, record-other, removes-handled, stripe-alone, bare-apart}

-- a pass moves, removes or places live bodies only
abbrev pub HandlesLive : Core → Type 0
HandlesLive core = (seat number : ℕ) (view : View) (i : ℕ) → IsViewAt core seat view → IsPass view number → IsHandled view.call.task i → IsSome (record_at (scene_of core) i)

-- a body that is out is not in the broad phase
pub out_unseen : (o : Option Record) → IsSomeAnd o (λ r. r.phase ≡ Out) → ¬ IsSomeAnd o (λ r. r.phase ≡ In)
out_unseen None out inside = inside
out_unseen (Some r) out inside = out_in (sym out ∙ inside)

abbrev is_user : Name → Bool
is_user (User i) = true
is_user _ = false

-- ---- what a body is to be

field-of : (c : Config) (i : ℕ) (name : Name) (value : ℕ) → IsFieldOf c i name value → (body_of name ≡ Some i) × (is_location_store name ≡ false)
field-of c i (Layer j) value field = (ap Some field.0, refl)
field-of c i (User j) value field = (ap Some field.0, refl)
field-of c i (BoxWord j k) value field = (ap Some field.0, refl)
field-of c i _ value field = absurd field

module _ (core : Core) (step : Step) (a : Acts core step) (live : HandlesLive core) where
  -- nobody handles an index with no body
  dead-alone : (i : ℕ) → IsNone (record_at (scene_of core) i) → (seat number : ℕ) (view : View) → IsViewAt core seat view → IsPass view number → ¬ IsHandled view.call.task i
  dead-alone i none seat number view found is handled = false≢true (sym none ∙ live seat number view i found is handled)

  pub touches-store_field : MayStoreField step.view step.name step.first step.second → Touches store_field core step a.laws.nodes a.laws.nodes
  touches-store_field asked =
      let i = asked.index in
      let field = field-of step.view.config i step.name step.first asked.field in
      let none = (lives.creating-dead store_field core step a.at a.pass a.formed a.laws.locks a.laws.bodies i asked.creating).1 in
      let after : record_at (scene_of (After store_field core step)) i ≡ record_at (scene_of core) i = scene-plain store_field core step (λ value. refl) i in
      let none_after : IsNone (record_at (scene_of (After store_field core step)) i) = subst IsNone (sym after) none in
      let apart = bare-apart store_field core step a.laws.nodes i field.1 (record {
        unseen = none_here (record_at (scene_of core) i) (λ r. r.phase ≡ In) none;
        unseen_after = none_here (record_at (scene_of (After store_field core step)) i) (λ r. r.phase ≡ In) none_after;
        alone = dead-alone i none;
        alone_after = λ handled. subst (λ (t : Task). IsHandled t i) asked.creating.task handled;
        places = a.laws.locations.dead i none;
        unjoined = λ l t root body joins. absurd (none_here (record_at (scene_of (After store_field core step)) i) (λ r. r.layer ≡ l) none_after body);
      }) in
      touches-body store_field core step a i (record {
        of_body = field.0;
        others = λ j other. scene-plain store_field core step (λ value. refl) j;
        itself = inr apart;
        call = inl refl;
        walk = refl;
        rebuild = refl;
        written = refl;
        held = held-kept store_field core step a refl field.1;
      })

  -- ---- creation

  pub touches-create : MayCreate step.view step.name step.first step.second → Touches create core step a.laws.nodes a.laws.nodes
  touches-create asked =
      let i = asked.index in
      let none = (lives.creating-dead create core step a.at a.pass a.formed a.laws.locks a.laws.bodies i asked.creating).1 in
      let entry = lives.created_entry core step a.at a.pass a.formed a.guards a.laws.locks a.laws.bodies asked in
      let makes = lives.created_made core step a.at a.pass a.formed a.guards a.laws.locks a.laws.bodies asked in
      let new = lives.new_record core step a.at a.pass a.formed a.guards a.laws.locks a.laws.bodies asked in
      let places = lives.create_places core step a.at a.pass a.formed a.guards a.laws.locks a.laws.bodies asked in
      let after : record_at (scene_of (After create core step)) i ≡ Some new =
      record-made create core step entry refl makes i ∙ lives.create_record core step a.at a.pass a.formed a.guards a.laws.locks a.laws.bodies asked
      in
      let unstored : is_location_store step.name ≡ false = ap is_location_store asked.names in
      let phase : word_of (After create core step) (Phase i) ≡ phase_out =
      lives.create_phase core step a.at a.pass a.formed a.guards a.laws.locks a.laws.bodies asked
      in
      let apart = bare-apart create core step a.laws.nodes i unstored (record {
        unseen = none_here (record_at (scene_of core) i) (λ r. r.phase ≡ In) none;
        unseen_after = λ body. out_in (subst (λ (o : Option Record). IsSomeAnd o (λ r. r.phase ≡ In)) after body);
        alone = dead-alone i none;
        alone_after = λ handled. handled;
        places = a.laws.locations.dead i none;
        unjoined = λ l t root body joins. absurd (omega (arith, phase, joins));
      }) in
      touches-body create core step a i (record {
        of_body = ap body_of asked.names;
        others = λ j other. record-other create core step entry refl makes j (places j other);
        itself = inr apart;
        call = inr (subst IsIdle (sym asked.creating.task) tt, tt);
        walk = refl;
        rebuild = refl;
        written = refl;
        held = held-kept create core step a refl unstored;
      })

module _ (core : Core) (step : Step) (a : Acts core step) where
  -- ---- destruction

  -- a body that is out and that nobody handles has no location
  pub out-places : (i : ℕ) → HasBody (scene_of core) i (λ r. r.phase ≡ Out) → ((seat number : ℕ) (view : View) → IsViewAt core seat view → IsPass view number → ¬ IsHandled view.call.task i)
      → (word_of core (LocA i) ≡ 0) × (word_of core (LocB i) ≡ 0)
  out-places i out alone =
      a.laws.locations.out i out
      (λ removed.
      let from = has-seat location_scope (λ n v. refl) core removed.0 (λ v. Removes v.call.task i) removed.1 in
      alone from.seat removed.0 from.view from.at from.pass (removes-handled from.view.call i from.holds))

  pub touches-destroy : MayDestroy step.view step.name step.first step.second → Touches destroy core step a.laws.nodes a.laws.nodes
  touches-destroy asked =
      let i = asked.index in
      let makes = lives.destroy_made core step a.at a.pass a.formed a.guards a.laws.locks a.laws.bodies asked in
      let places = lives.destroy_places core step a.at a.pass a.formed a.guards a.laws.locks a.laws.bodies asked in
      let out = lives.destroy_body core step a.at a.pass a.formed a.guards a.laws.locks a.laws.bodies asked in
      let after : record_at (scene_of (After destroy core step)) i ≡ None =
      record-made destroy core step (Destroy i) refl makes i ∙ lives.destroy_none core step a.at a.pass a.formed a.guards a.laws.locks a.laws.bodies asked
      in
      let none_after : IsNone (record_at (scene_of (After destroy core step)) i) = ap is_some after in
      let unstored : is_location_store step.name ≡ false = ap is_location_store asked.names in
      let stripe : Holds step.view (stripe_of core.config i) Write =
      subst (λ (c : Config). Holds step.view (stripe_of c i) Write) (sound destroy core step a.at a.pass a.formed).config asked.body.stripe
      in
      let alone = stripe-alone destroy core step a i stripe (λ handled. subst (λ (t : Task). IsHandled t i) asked.task handled) in
      let apart = bare-apart destroy core step a.laws.nodes i unstored (record {
        unseen = λ body. out_unseen (record_at (scene_of core) i) out body;
        unseen_after = none_here (record_at (scene_of (After destroy core step)) i) (λ r. r.phase ≡ In) none_after;
        alone = alone;
        alone_after = λ handled. handled;
        places = out-places i out alone;
        unjoined = λ l t root body joins. absurd (none_here (record_at (scene_of (After destroy core step)) i) (λ r. r.layer ≡ l) none_after body);
      }) in
      touches-body destroy core step a i (record {
        of_body = ap body_of asked.names;
        others = λ j other. record-other destroy core step (Destroy i) refl makes j (places j other);
        itself = inr apart;
        call = inr (subst IsIdle (sym asked.task) tt, tt);
        walk = refl;
        rebuild = refl;
        written = refl;
        held = held-kept destroy core step a refl unstored;
      })

  -- ---- user numbers

  -- the word of a user number is no other one
  user-apart : (name : Name) (i : ℕ) → step.name ≡ User i → is_user name ≡ false → word_of (After set_user core step) name ≡ word_of core name
  user-apart name i names other = word-step-other set_user core step name (λ e. false≢true (sym other ∙ ap is_user (e ∙ names)))

  pub touches-set_user : MaySetUser step.view step.name step.first step.second → Touches set_user core step a.laws.nodes a.laws.nodes
  touches-set_user asked =
      let i = asked.index in
      let below : i < core.config.bodies = subst (IsName core.config) asked.names a.named in
      let makes = lives.user_made core step a.at a.pass a.formed a.guards a.laws.bodies asked below in
      let places = lives.user_places core step a.at a.pass a.formed a.guards a.laws.bodies asked below in
      let unstored : is_location_store step.name ≡ false = ap is_location_store asked.names in
      let body : IsAsBefore (record_at (scene_of core) i) (record_at (scene_of (After set_user core step)) i) =
      elim (live_or_dead (record_at (scene_of core) i)) [
        | inl t ↦
            let after : record_at (scene_of (After set_user core step)) i ≡ Some (with_user step.first t.0) =
            record-made set_user core step (SetUser i step.first) refl makes i ∙ lives.user_record core step a.at a.pass a.formed a.guards a.laws.bodies asked below t.0 t.1
            in
            subst (IsAsBefore (record_at (scene_of core) i)) (sym after) (subst (λ (o : Option Record). IsAsBefore o (Some (with_user step.first t.0))) (sym t.1) (is_live t.0 step.first))
        | inr none ↦ absurd (false≢true (sym none ∙ lives.user_live core step a.at a.pass a.formed a.guards a.laws.bodies asked below))
      ]
      in
      let stays : Stays set_user core step i = record {
        body = body;
        loc_a = user-apart (LocA i) i asked.names refl;
        loc_b = user-apart (LocB i) i asked.names refl;
        phase = user-apart (Phase i) i asked.names refl;
        box = λ q. user-apart (BoxWord i q) i asked.names refl;
        state = user-apart (State i) i asked.names refl;
        layer = user-apart (Layer i) i asked.names refl;
        removes = (λ h. h, λ h. h);
        places = (λ h. h, λ h. h);
      } in
      touches-body set_user core step a i (record {
        of_body = ap body_of asked.names;
        others = λ j other. record-other set_user core step (SetUser i step.first) refl makes j (places j other);
        itself = inl stays;
        call = inl refl;
        walk = refl;
        rebuild = refl;
        written = refl;
        held = held-kept set_user core step a refl unstored;
      })
