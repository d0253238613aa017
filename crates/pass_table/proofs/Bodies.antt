-- What a load of a body's word tells, and what its state word says of it.
use Rattle.std.specs.Prelude.{IfSome}
use Rattle.std.proofs.Common.{◌≡◌, ◌≢◌, ◌⊎◌, inl, inr, ℕ, ◌%◌, ◌<◌, ◌≤◌, false, Option, Some, None, IsSome, refl, ap, sym, ◌∙◌, subst, arith}
use Rattle.std.proofs.lemmas.Bool.{false≢true, cases_lt}
use Rattle.body_ident.specs.Id.{Id}
use Rattle.scene_model.specs.Scene.{Scene, Record, place_at, record_at}
use Rattle.scene_model.specs.Consistent.{IsLatest}
use Rattle.scene_model.specs.Cause.{HasIdBody, IsCauseAt, gone}
use Rattle.word_map.specs.declared.config.Config.{Config}
use Rattle.word_map.specs.declared.name.Name.{Name}
use Rattle.word_map.specs.declared.name.Name.TheVariants.{State}
use Rattle.core_state.specs.declared.view.View.{View}
use Rattle.core_state.specs.Log.{word}
use Rattle.core_state.specs.View.{known_word}
use Rattle.core_state.specs.Core.{Core, IsViewAt, word_of}
use Rattle.core_state.specs.Operation.{stores}
use Rattle.core_state.specs.Kind.{Kind, Asking, Step, after_step}
use Rattle.core_state.specs.Event.{loads_body, loads_slot, of_bodies, of_batches}
use Rattle.core_state.specs.Guards.{scene_at}
use Rattle.core_state.specs.Scope.{sight, scene_in}
use Rattle.core_state.specs.BodiesAgree.{BodiesAgree, body_scope, HasWordsOf}
use Rattle.core_state.specs.Lives.{MayLoadBody, load_body}
use Rattle.core_state.specs.Batches.{MayLoadSlot, load_slot}
use Rattle.core_state.proofs.Beginning.{body_record, record_body}
use Rattle.core_state.proofs.Steps.{view-step}
use Rattle.core_guard.proofs.ListsAgree.{scene_consistent}
use Rattle.core_guard.proofs.Scenes.{live_or_dead, record_live, state-live, state-tells_live}
use Rattle.pass_table.specs.Stepping.{step_by, Stepped}
use Rattle.pass_table.specs.Turning.{AtMostOneStep, MadeBy}
use Rattle.pass_table.specs.Bodies.{IsCurrent, Loaded, live_state, IsGoneAt}
use Rattle.pass_table.proofs.Knowing.{IsPlain, knows-more}
use Rattle.pass_table.proofs.Turning.{one-step, made-by-step}
use Rattle.pass_table.proofs.Calling.{stepped-sizes, stepped-known, loaded-word}

-- ---- loads

module _ (asks : Asking) (kind : Kind) (view next : View) (name : Name) (first second found : ℕ) (stepped : Stepped asks kind view name first second found next) where
  abbrev made : Step
  made = step_by stepped.seat view stepped.number name first second

  -- after a step the pass knows the whole log of a core that stands
  pub stepped-current : IsCurrent next
  stepped-current = record {
    core = after_step kind stepped.before made;
    seat = stepped.seat;
    stands = stepped.still_stands;
    at = subst (IsViewAt (after_step kind stepped.before made) stepped.seat) (sym stepped.leaves) (view-step kind stepped.before made stepped.allowed.at);
    sizes = sym (stepped-sizes asks kind view next name first second found stepped) ∙ sym (ap (λ (v : View). v.config) stepped.leaves);
    whole = stepped-known asks kind view next name first second found stepped;
    alone = ap (λ (v : View). v.joined) stepped.leaves;
  }

  -- a load that changes nothing tells its word
  stepped-loaded : IsPlain kind → ((word operand : ℕ) → stores kind.operation word operand ≡ false) → Loaded view next name found
  stepped-loaded plain loads = record {
    more = knows-more asks kind view next name first second found stepped plain loads;
    now = stepped-current;
    word = loaded-word asks kind view next name first second found stepped loads;
  }

module _ (view next : View) (name : Name) (found : ℕ) where
  -- what a load of a body's word tells
  pub loaded-body : Stepped MayLoadBody load_body view name 0 0 found next → Loaded view next name found
  loaded-body stepped = stepped-loaded MayLoadBody load_body view next name 0 0 found stepped (λ v n f a b. refl) (λ word operand. refl)

  pub body-load-step : Stepped MayLoadBody load_body view name 0 0 found next → AtMostOneStep view next
  body-load-step stepped = one-step MayLoadBody load_body view next name 0 0 found stepped (λ before after steps. of_bodies (loads_body steps))

  pub body-load-made : Stepped MayLoadBody load_body view name 0 0 found next → MadeBy view next None
  body-load-made stepped = made-by-step MayLoadBody load_body view next name 0 0 found stepped

  -- and a load of a slot
  pub loaded-slot : Stepped MayLoadSlot load_slot view name 0 0 found next → Loaded view next name found
  loaded-slot stepped = stepped-loaded MayLoadSlot load_slot view next name 0 0 found stepped (λ v n f a b. refl) (λ word operand. refl)

  pub slot-load-step : Stepped MayLoadSlot load_slot view name 0 0 found next → AtMostOneStep view next
  slot-load-step stepped = one-step MayLoadSlot load_slot view next name 0 0 found stepped (λ before after steps. of_batches (loads_slot steps))

  pub slot-load-made : Stepped MayLoadSlot load_slot view name 0 0 found next → MadeBy view next None
  slot-load-made stepped = made-by-step MayLoadSlot load_slot view next name 0 0 found stepped

-- ---- a body at a core

-- the body that the id names is live at a core, and the words there are its words
pub record LiveAt (core : Core) (id : Id) : Type 0 where
  pub body : Record
  pub at : record_at (scene_in (sight body_scope core)) id.index ≡ Some body
  pub words : HasWordsOf (sight body_scope core) id.index body
  pub latest : body.generation ≡ (place_at (scene_in (sight body_scope core)) id.index).creations
  pub sequence : body.generation % 256 ≡ id.seq
  pub in_layers : body.layer < core.config.layers

module _ (core : Core) (id : Id) (agree : BodiesAgree core) (below : id.index < core.config.bodies) where
  -- a live body is the last that was created at its index
  latest : (r : Record) → record_at (scene_in (sight body_scope core)) id.index ≡ Some r → IsLatest core.config.layers (place_at (scene_in (sight body_scope core)) id.index).creations r
  latest r e =
      subst (λ (o : Option Record). IfSome o (IsLatest core.config.layers (place_at (scene_in (sight body_scope core)) id.index).creations)) e ((scene_consistent core agree).latest id.index)

  -- so the state word of a live body has its sequence number
  state_of : (r : Record) → record_at (scene_in (sight body_scope core)) id.index ≡ Some r → word_of core (State id.index) ≡ live_state (r.generation % 256)
  state_of r e =
      let at = place_at (scene_in (sight body_scope core)) id.index in
      let live : IsSome at.body = record_live (record_at (scene_in (sight body_scope core)) id.index) r e in
      agree.state id.index below ∙ (state-live at live ∙ ap (λ (n : ℕ). live_state (n % 256)) (sym (latest r e).latest))

  live_high : 256 ≤ word_of core (State id.index) → IsSome (record_at (scene_in (sight body_scope core)) id.index)
  live_high high = state-tells_live (place_at (scene_in (sight body_scope core)) id.index) (let state = agree.state id.index below in omega arith)

  -- the word says that the id's body is live
  pub live-at : word_of core (State id.index) ≡ live_state id.seq → LiveAt core id
  live-at says =
      elim (live_or_dead (record_at (scene_in (sight body_scope core)) id.index)) [
        | inl t ↦
            let state = state_of t.0 t.1 in
            let last = latest t.0 t.1 in
            record { body = t.0; at = t.1; words = agree.live id.index t.0 t.1; latest = last.latest; sequence = omega arith; in_layers = last.in_layers }
        | inr none ↦ absurd (false≢true (sym none ∙ live_high (omega arith)))
      ]

  -- or it says that it is not
  gone-at : word_of core (State id.index) ≢ live_state id.seq → IsCauseAt (gone id) (scene_in (sight body_scope core))
  gone-at other has =
      let t = body_record (record_at (scene_in (sight body_scope core)) id.index) (λ r. r.generation % 256 ≡ id.seq) has in
      let state = state_of t.0 t.1 in
      let same = t.2 in
      other (omega arith)

  tells-gone : word_of core (State id.index) ≢ live_state id.seq → (word_of core (State id.index) < 256) ⊎ (word_of core (State id.index) % 256 ≢ id.seq)
  tells-gone other =
      elim (cases_lt (word_of core (State id.index)) 256) [
        | inl low ↦ inl low
        | inr high ↦ elim (live_or_dead (record_at (scene_in (sight body_scope core)) id.index)) [
          | inl t ↦ let state = state_of t.0 t.1 in inr (λ same. other (omega arith))
          | inr none ↦ absurd (false≢true (sym none ∙ live_high high))
        ]
      ]

-- a fact of the record of a live body is one of the id's body
pub has-body : (scene : Scene) (id : Id) (r : Record) → record_at scene id.index ≡ Some r → r.generation % 256 ≡ id.seq → (P : Record → Type 0) → P r → HasIdBody scene id P
has-body scene id r at sequence P holds = record_body (record_at scene id.index) (λ b. (b.generation % 256 ≡ id.seq) × P b) r at (sequence, holds)

-- ---- what a pass knows that knows the whole log

module _ (view : View) (now : IsCurrent view) where
  -- a word that it knows is that of the core
  pub known-now : (name : Name) → known_word view name ≡ word_of now.core name
  known-now name = λ i. word (sym now.sizes i) (now.whole i) name

  pub scene-known : scene_at view.config view.known ≡ scene_in (sight body_scope now.core)
  scene-known = λ i. scene_at (sym now.sizes i) (now.whole i)

  -- the state word does not say that the id's body is live: it is gone
  pub gone-now : (id : Id) → id.index < view.config.bodies → (state : ℕ) → known_word view (State id.index) ≡ state → state ≢ live_state id.seq → IsGoneAt view.config id state view.known
  gone-now id below state is other =
      let agree : BodiesAgree now.core = now.stands.laws.bodies in
      let within : id.index < now.core.config.bodies = subst (λ (c : Config). id.index < c.bodies) (sym now.sizes) below in
      let same : word_of now.core (State id.index) ≡ state = sym (known-now (State id.index)) ∙ is in
      let apart : word_of now.core (State id.index) ≢ live_state id.seq = λ live. other (sym same ∙ live) in
      record {
        word = is;
        cause = subst (IsCauseAt (gone id)) (sym scene-known) (gone-at now.core id agree within apart);
        other = subst (λ (n : ℕ). (n < 256) ⊎ (n % 256 ≢ id.seq)) same (tells-gone now.core id agree within apart);
      }
