-- What the words of a guarded body tell that a look has loaded.
use Rattle.std.proofs.Common.{◌≡◌, ◌≢◌, ℕ, suc, ◌+◌, ◌-◌, ◌^◌, ◌<◌, ◌≤◌, ap, sym, ◌∙◌, arith}
use Rattle.std.proofs.lemmas.Option.{none-some}
use Rattle.body_ident.specs.Id.{Id}
use Rattle.word_map.specs.declared.name.Name.TheVariants.{Phase, Layer, Slot}
use Rattle.core_state.specs.declared.view.View.{View}
use Rattle.core_state.specs.View.{known_word}
use Rattle.core_state.specs.Bodies.{phase_by}
use Rattle.core_state.specs.Encoding.{phase_out, phase_in, phase_join}
use Rattle.pass_table.specs.Bodies.{IsCurrent, IsGuarded, IsTold, Loaded}
use Rattle.pass_table.proofs.LockedBodies.{guarded-tells, told-out, told-in, told-held, told-joined, slot-below, phase-fits, layer-below, phase-stays, layer-stays, guarded-more}
use Rattle.body_look.specs.declared.body_found.BodyFound.TheVariants.{Out, In, Held, Joined}
use Rattle.body_look.specs.Found.{IsFound, HasSlot}

-- ---- the phase word

module _ (id : Id) (view : View) (guarded : IsGuarded id view) (now : IsCurrent view) where
  told : IsTold id view
  told = guarded-tells id view guarded now

  pub finds-out : known_word view (Phase id.index) ≡ phase_out → IsFound id view Out
  finds-out says = record { told = told; is = told-out id view told says; says = says }

  pub finds-in : known_word view (Phase id.index) ≡ phase_in → IsFound id view In
  finds-in says = record { told = told; is = told-in id view told says; says = says }

  -- the slot that it names is one of the world's
  pub names-slot : (slot : ℕ) → known_word view (Phase id.index) ≡ phase_join slot → slot < view.config.slots
  names-slot slot says = let below = slot-below id view guarded now (phase_join slot) says in omega arith

-- it says one of three things
pub phase-low : (id : Id) (view : View) (guarded : IsGuarded id view) (now : IsCurrent view) (word : ℕ) → known_word view (Phase id.index) ≡ word → word < 2 + 2 ^ 32
phase-low id view guarded now word says =
    let low = phase-fits id view guarded now word says in
    omega arith

-- ---- the slot

module _ (id : Id) (view next : View) (layer slot word : ℕ) (guarded : IsGuarded id view) (joins : known_word view (Phase id.index) ≡ phase_join slot) (lies : known_word view (Layer id.index) ≡ layer)
    (loaded : Loaded view next (Slot layer slot) word) where
  guarded_then : IsGuarded id next
  guarded_then = guarded-more id view next guarded loaded.more

  told_then : IsTold id next
  told_then = guarded-tells id next guarded_then loaded.now

  joins_then : known_word next (Phase id.index) ≡ phase_join slot
  joins_then = phase-stays id view next guarded loaded.more ∙ joins

  lies_then : known_word next (Layer id.index) ≡ layer
  lies_then = layer-stays id view next guarded loaded.more ∙ lies

  has_slot : HasSlot id next layer slot word
  has_slot = record {
    lies = lies_then;
    in_layers = layer-below id next guarded_then loaded.now layer lies_then;
    in_slots = names-slot id next guarded_then loaded.now slot joins_then;
    has = loaded.word;
  }

  -- an empty slot holds nobody
  slot_some : word ≢ 0
  slot_some none =
      let two : known_word next (Phase id.index) ≡ suc (suc slot) = (let is = joins_then in omega arith) in
      let less : known_word next (Phase id.index) - 2 ≡ slot = omega arith in
      let same : told_then.body.layer ≡ layer = sym told_then.layer ∙ lies_then in
      none-some told_then.body.phase
      (sym ((λ i. phase_by (two i) (known_word next (Slot (same i) (less i)))) ∙ ap (phase_by (suc (suc slot))) (loaded.word ∙ none)) ∙ told_then.phase)

  pub finds-held : word < 1024 → IsFound id next (Held layer slot word)
  finds-held low = (
    record { told = told_then; is = told-held id next told_then slot layer word joins_then lies_then loaded.word low; says = joins_then },
    has_slot,
    slot_some,
    low,
  )

  pub finds-joined : 1024 ≤ word → IsFound id next (Joined layer slot word)
  finds-joined high = (
    record { told = told_then; is = told-joined id next told_then slot layer word joins_then lies_then loaded.word high; says = joins_then },
    has_slot,
    high,
  )
