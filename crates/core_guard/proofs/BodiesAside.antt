-- What a step on locks, slots or the pool owes for the bodies to agree: what its batches hold, and what phase words say.
use Rattle.std.proofs.Common.{◌≡◌, ℕ, ◌+◌, ◌-◌, ◌<◌, List, Some, None, refl, ap, sym, ◌∙◌, subst}
use Rattle.std.specs.Prelude.{⊤}
use Rattle.scene_model.specs.Scene.{Record, record_at}
use Rattle.word_map.specs.declared.name.Name.{Name}
use Rattle.word_map.specs.declared.name.Name.TheVariants.{Lock, SlotHead, SlotNext, State, Phase, Layer, User, BoxWord, PoolHead, PoolNext, PoolFree, Slot}
use Rattle.word_map.specs.Names.{index_lock}
use Rattle.core_state.specs.declared.view.Mode.TheVariants.{Write}
use Rattle.core_state.specs.declared.view.Task.{Task}
use Rattle.core_state.specs.declared.view.Task.TheVariants.{Nothing, Pooling}
use Rattle.core_state.specs.declared.view.Call.{Call}
use Rattle.core_state.specs.declared.view.View.{View}
use Rattle.core_state.specs.Log.{history}
use Rattle.core_state.specs.View.{Holds}
use Rattle.core_state.specs.Core.{Core}
use Rattle.core_state.specs.Kind.{Kind, Step, view_after, after_step}
use Rattle.core_state.specs.Bodies.{phase_by, IsBetweenBoxes, MovesBody}
use Rattle.core_state.specs.BodiesAgree.{BodiesAgree, body_scope, ListsFree, ChangesList, IsUnderStripe}
use Rattle.core_state.specs.Pool.{IsPoolTask}
use Rattle.core_state.specs.Scope.{Sight, sight, scene_in}
use Rattle.core_state.proofs.Frames.{step-history}
use Rattle.core_guard.proofs.Leaving.{Lawful}
use Rattle.core_guard.proofs.BodiesStep.{WordsPart, BatchPart, together, unstored, new_sight, bodies-agree, whole-back, list-moved, list-left, stripe-moved, stripe-part}

-- a word of a lock, of a slot, or of the pool
abbrev pub IsAsideWord : Name → Type 0
IsAsideWord (Lock lock) = ⊤
IsAsideWord (Slot l t) = ⊤
IsAsideWord PoolHead = ⊤
IsAsideWord (PoolNext n) = ⊤
IsAsideWord PoolFree = ⊤
IsAsideWord _ = ⊥

-- a call that is as before, and the locks with it, or one that changes nothing but the pool, before and after
pub data IsPoolCall (v w : View) : Type 0 where
  same_calls : w.call ≡ v.call → ((lock : ℕ) → Holds v lock Write → Holds w lock Write) → IsPoolCall v w
  pool_calls : IsPoolTask v.call.task → IsPoolTask w.call.task → IsPoolCall v w

pool_moves : (t : Task) (i : ℕ) → IsPoolTask t → ¬ MovesBody t i
pool_moves Nothing i h moves = moves
pool_moves (Pooling taken given) i h moves = moves
pool_moves _ i h moves = absurd h

pool_lists : (t : Task) → IsPoolTask t → ¬ ChangesList t
pool_lists Nothing h changes = changes
pool_lists (Pooling taken given) h changes = changes
pool_lists _ h changes = absurd h

pool_free : (s : Sight) (view : View) (t : Task) (chain : List ℕ) → IsPoolTask t → ListsFree s view t chain
pool_free s view Nothing chain h = tt
pool_free s view (Pooling taken given) chain h = tt
pool_free s view _ chain h = absurd h

pool_stripe : (s : Sight) (view : View) (t : Task) → IsPoolTask t → IsUnderStripe s view t
pool_stripe s view Nothing h = tt
pool_stripe s view (Pooling taken given) h = tt
pool_stripe s view _ h = absurd h

-- what such a step is: it stores such a word and makes no entry
pub record IsAside (kind : Kind) (core : Core) (step : Step) : Type 0 where
  pub word : IsAsideWord step.name
  pub entry : (value : ℕ) → kind.entry step.view step.name value ≡ None
  pub call : IsPoolCall step.view (view_after kind core step)

module _ (kind : Kind) (core : Core) (step : Step) (a : Lawful core step) (leaves : IsAside kind core step) where
  abbrev Last : View
  Last = view_after kind core step

  abbrev Old : Sight
  Old = sight body_scope core

  abbrev pub New : Sight
  New = new_sight kind core step a.at a.pass (history core.log)

  same_word : (name : Name) → ¬ IsAsideWord name → New.word name ≡ Old.word name
  same_word name other = unstored kind core step a.at a.pass name (λ same. other (subst IsAsideWord (sym same) leaves.word))

  between : (i : ℕ) → IsBetweenBoxes step.view i → IsBetweenBoxes Last i
  between i b =
      elim leaves.call [
        | same_calls e locks ↦ subst (λ (c : Call). IsBetweenBoxes (record Last { call = c }) i) (sym e) b
        | pool_calls before after ↦ absurd (pool_moves step.view.call.task i before b.0)
      ]

  -- a live body has the phase that its phase word says
  abbrev pub PhasesKept : Type 0
  PhasesKept = (i : ℕ) (r : Record) → record_at (scene_in Old) i ≡ Some r → phase_by (Old.word (Phase i)) (Old.word (Slot r.layer (Old.word (Phase i) - 2))) ≡ Some r.phase
      → phase_by (Old.word (Phase i)) (New.word (Slot r.layer (Old.word (Phase i) - 2))) ≡ Some r.phase

  words-part : PhasesKept → WordsPart New
  words-part phases = record {
    lawful = a.laws.bodies.lawful;
    state = λ i below. same_word (State i) (λ none. none) ∙ a.laws.bodies.state i below;
    live = λ i r e.
        let old = a.laws.bodies.live i r e in
        let phase : New.word (Phase i) ≡ Old.word (Phase i) = same_word (Phase i) (λ none. none) in
        record {
          layer = same_word (Layer i) (λ none. none) ∙ old.layer;
          user = same_word (User i) (λ none. none) ∙ old.user;
          user_fits = old.user_fits;
          bounds = λ whole k below.
              same_word (BoxWord i k) (λ none. none) ∙ old.bounds (whole-back kind core step a.at a.pass (history core.log) i (between i) whole) k below;
          phase = ap (λ (n : ℕ). phase_by n (New.word (Slot r.layer (n - 2)))) phase ∙ phases i r e old.phase;
          slot = subst (λ (n : ℕ). n < 2 + core.config.slots) (sym phase) old.slot;
        };
    dead = λ i none. same_word (Phase i) (λ none. none) ∙ a.laws.bodies.dead i none;
  }

  -- ---- the list of free indexes, and stripes

  own-list : ListsFree Old step.view step.view.call.task a.laws.bodies.chain → ListsFree New Last Last.call.task a.laws.bodies.chain
  own-list old =
      elim leaves.call [
        | same_calls e locks ↦
            list-moved kind core step a.at a.pass (history core.log) step.view Last Last.call.task a.laws.bodies.chain (locks (index_lock core.config)) refl
            (subst (λ (c : Call). ListsFree Old step.view c.task a.laws.bodies.chain) (sym e) old)
        | pool_calls before after ↦ pool_free New Last Last.call.task a.laws.bodies.chain after
      ]

  own-quiet : ¬ ChangesList Last.call.task → ¬ ChangesList step.view.call.task
  own-quiet none =
      elim leaves.call [
        | same_calls e locks ↦ subst (λ (c : Call). ¬ ChangesList c.task) e none
        | pool_calls before after ↦ pool_lists step.view.call.task before
      ]

  own-stripe : IsUnderStripe Old step.view step.view.call.task → IsUnderStripe New Last Last.call.task
  own-stripe old =
      elim leaves.call [
        | same_calls e locks ↦ stripe-moved kind core step a.at a.pass (history core.log) step.view Last Last.call.task locks (subst (λ (c : Call). IsUnderStripe Old step.view c.task) (sym e) old)
        | pool_calls before after ↦ pool_stripe New Last Last.call.task after
      ]

  pub BodiesAgree-aside : PhasesKept → BatchPart New → BodiesAgree (after_step kind core step)
  BodiesAgree-aside phases batches =
      bodies-agree kind core step a.at a.pass (history core.log) (step-history kind core step leaves.entry)
      (together New (words-part phases)
      (list-left kind core step a.at a.pass (history core.log) a.laws.bodies own-list own-quiet (same_word SlotHead (λ none. none)) (λ i. same_word (SlotNext i) (λ none. none)) refl)
      (stripe-part kind core step a.at a.pass (history core.log) a.laws.bodies own-stripe) batches)
