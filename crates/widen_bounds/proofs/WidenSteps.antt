-- What the steps of a move leave of the body and of the call.
use Rattle.std.specs.Prelude.{slice_index, take}
use Rattle.std.proofs.Common.{◌≡◌, ◌≢◌, ℕ, suc, ◌<◌, ◌≤◌, List, [], ◌∷◌, ◌++◌, Bool, false, cond, length, None, refl, ap, sym, ◌∙◌, subst, arith}
use Rattle.std.proofs.lemmas.Bool.{eq-eqb, ne_eqb}
use Rattle.std.proofs.lemmas.List.{append-nil}
use Rattle.std.proofs.lemmas.List.Folds.{list_any-append}
use Rattle.fixed_box.specs.FixBox.{words_of}
use Rattle.fixed_box.specs.declared.fix_box.FixBox.{FixBox}
use Rattle.body_ident.specs.Id.{Id}
use Rattle.scene_model.specs.declared.body_view.Phase.TheVariants.{Held, In}
use Rattle.scene_model.specs.Scene.{Scene}
use Rattle.scene_model.specs.Cause.{HasIdBody}
use Rattle.word_map.specs.declared.name.Name.{Name}
use Rattle.word_map.specs.declared.name.Name.TheVariants.{State, LocA, LocB, Bound, Parent}
use Rattle.word_map.specs.Names.{stripe_of}
use Rattle.core_state.specs.declared.item.Item.{Item}
use Rattle.core_state.specs.declared.item.Store.{Store}
use Rattle.core_state.specs.declared.view.Mode.TheVariants.{Write}
use Rattle.core_state.specs.declared.view.LockStep.{LockStep}
use Rattle.core_state.specs.declared.view.Task.{Task}
use Rattle.core_state.specs.declared.view.Task.TheVariants.{Nothing, Moving}
use Rattle.core_state.specs.declared.view.Call.{Call}
use Rattle.core_state.specs.declared.view.View.{View}
use Rattle.core_state.specs.Log.{word}
use Rattle.core_state.specs.View.{Holds, known_word}
use Rattle.core_state.specs.Bodies.{is_box_word, has_box_word}
use Rattle.core_state.specs.Guards.{scene_at}
use Rattle.core_state.specs.Kind.{Kind, Asking, Step, learned, found_by}
use Rattle.core_state.specs.Moving.{widened_by, target_with}
use Rattle.core_state.specs.Quietly.{IsSteady}
use Rattle.core_state.proofs.Quiet.{steady-since}
use Rattle.pass_table.specs.Stepping.{step_by, Stepped}
use Rattle.pass_table.specs.Knowing.{StoresAlone}
use Rattle.pass_table.specs.Turning.{MadeBy}
use Rattle.pass_table.specs.Calls.{Advances}
use Rattle.pass_table.specs.Settled.{KnowsPhase, KnowsFirst, KnowsSecond}
use Rattle.pass_table.specs.Work.{is_shown}
use Rattle.pass_table.proofs.Calling.{stored-steady, stepped-left}
use Rattle.pass_table.proofs.LockedBodies.{live-steady}
use Rattle.pass_table.proofs.Settled.{mid-phase, mid-place, sound-before, phase-beside, first-beside, second-steady}
use Rattle.pass_table.proofs.Working.{worked-made}
use Rattle.widen_bounds.specs.stages.Widening.{moving_with, IsMidMove}
use Rattle.widen_bounds.proofs.WidenAsks.{take-length, take-next, mid-stripe}

in-apart : In ≢ Held
in-apart e = absurd cc

-- a word of a body is no word of a tree
pub data IsBeside (id : Id) (name : Name) : Type 0 where
  is_beside : name ≢ State id.index → name ≢ LocA id.index → name ≢ LocB id.index → is_shown false name ≡ false → IsBeside id name

pub bound-beside : (id : Id) (n k q : ℕ) → IsBeside id (Bound n k q)
bound-beside id n k q = is_beside (λ same. absurd cc) (λ same. absurd cc) (λ same. absurd cc) refl

pub parent-beside : (id : Id) (n : ℕ) → IsBeside id (Parent n)
parent-beside id n = is_beside (λ same. absurd cc) (λ same. absurd cc) (λ same. absurd cc) refl

-- ---- the body stands still

-- what is known of it
pub record KnowsBody (id : Id) (first second : ℕ) (view : View) : Type 0 where
  pub phase : KnowsPhase id In view
  pub at_first : KnowsFirst id first view
  pub at_second : KnowsSecond id second view

module _ (id : Id) (target : FixBox) (steps : List LockStep) (start view next : View) (known first second : ℕ) (move : IsMidMove id target steps start view known first second) (sizes : next.config ≡ view.config) where
  stripe : Holds view (stripe_of view.config id.index) Write
  stripe = mid-stripe id target steps start view known first second move

  -- the pass stored nothing
  module _ (by : Advances view next []) where
    known-is : next.known ≡ view.known ++ by.since
    known-is = by.known ∙ append-nil (view.known ++ by.since)

    steady-is : (name : Name) → IsSteady view name → known_word next name ≡ known_word view name
    steady-is name steady = (λ i. word (sizes i) (known-is i) name) ∙ steady-since view by.since name (λ early later item parts. (by.others early later item parts).quiet) steady

    pub body-loaded : KnowsBody id first second next
    body-loaded = record {
      phase = record {
        live = steady-is (State id.index) (live-steady id Write view (State id.index) stripe move.phase.live refl) ∙ move.phase.live;
        body = λ sound.
            let scene : scene_at view.config (view.known ++ by.since) ≡ scene_at next.config next.known = λ i. scene_at (sym sizes i) (sym known-is i) in
            subst (λ (s : Scene). HasIdBody s id (λ r. r.phase ≡ In)) scene (mid-phase id Write In in-apart view next stripe move.phase [] by sizes sound);
      };
      at_first = λ sound.
          (λ i. word (sizes i) (known-is i) (LocA id.index))
          ∙ (mid-place id Write In in-apart view next stripe move.phase [] by sizes sound ∙ move.at_first (sound-before id Write In in-apart view next stripe move.phase [] by sizes sound));
      at_second = steady-is (LocB id.index) (second-steady id.index Write view stripe) ∙ move.at_second;
    }

  -- or one word, which is none of the body's, with no entry
  pub body-beside : (item : Item) → Advances view next (item ∷ []) → item.entry ≡ None → IsBeside id item.name → KnowsBody id first second next
  body-beside item by none (is_beside state one two silent) = record {
    phase =
        phase-beside id Write In in-apart view next stripe move.phase item by sizes none
        (stored-steady view next item by sizes (State id.index) state (live-steady id Write view (State id.index) stripe move.phase.live refl) ∙ move.phase.live);
    at_first = first-beside id Write In in-apart view next stripe move.phase item by sizes first one move.at_first;
    at_second = stored-steady view next item by sizes (LocB id.index) two (second-steady id.index Write view stripe) ∙ move.at_second;
  }

  -- so the move goes on
  pub move-on : (name : Name) (later : ℕ) → IsBeside id name → StoresAlone view next name → MadeBy view next None → next ≡ record view { known = next.known; joined = next.joined; call = next.call }
      → next.call.task ≡ moving_with id.index (words_of target) later → KnowsBody id first second next → later ≤ 6 → (0 < later → has_box_word next.call.stores ≡ false)
      → IsMidMove id target steps start next later first second
  move-on name later (is_beside state one two silent) alone by left doing body few none = record {
    stripe = move.stripe;
    calling = worked-made start view next _ move.calling name None (moving_with id.index (words_of target) later) silent alone by left doing;
    phase = body.phase;
    at_first = body.at_first;
    at_second = body.at_second;
    few = few;
    no_box_word = none;
  }

-- ---- a side is widened

-- the call after it, which begins a move, or goes on with one that has come to these sides
abbrev pub begun_call : ℕ → Name → ℕ → Call
begun_call index name value = record { task = Moving index (value ∷ []); loads = []; stores = record { name = name; value = value } ∷ [] }

abbrev pub widened_call : ℕ → List ℕ → Call → Name → ℕ → ℕ → Call
widened_call index target call name q value = record {
  task = Moving index (target_with target q value);
  loads = call.loads;
  stores = call.stores ++ record { name = name; value = value } ∷ [];
}

-- the sides that it has then come to
pub next-known : (target : FixBox) (q : ℕ) → q < 6 → target_with (take q (words_of target)) q (slice_index (words_of target) q) ≡ take (suc q) (words_of target)
next-known target q low =
    let new = take q (words_of target) ++ slice_index (words_of target) q ∷ [] in
    ap (λ (t : Bool). cond {A = List ℕ} t new (take q (words_of target))) (eq-eqb q (length (take q (words_of target))) (sym (take-length target q (omega arith))))
    ∙ sym (take-next target q low)

pub old-known : (target : FixBox) (q value : ℕ) → q < 6 → target_with (words_of target) q value ≡ words_of target
old-known target q value low = ap (λ (t : Bool). cond {A = List ℕ} t (words_of target ++ value ∷ []) (words_of target)) (ne_eqb q 6 (λ same. omega arith))

module _ (asks : Asking) (kind : Kind) (index : ℕ) (view next : View) (n k q value found : ℕ) (stepped : Stepped asks kind view (Bound n k q) value 0 found next)
    (leaves : (v : View) (name : Name) (f a b : ℕ) → kind.leaves v name f a b ≡ widened_by v.call.task index v name a) where
  abbrev made : Step
  made = step_by stepped.seat view stepped.number (Bound n k q) value 0

  widened-left : view.call.task ≡ Nothing → next ≡ record view { known = next.known; joined = next.joined; call = begun_call index (Bound n k q) value }
  widened-left task =
      stepped-left asks kind view next (Bound n k q) value 0 found stepped view.locks (begun_call index (Bound n k q) value)
      (leaves (learned stepped.before made) (Bound n k q) (found_by stepped.before made) value 0
      ∙ ap (λ (t : Task). widened_by t index (learned stepped.before made) (Bound n k q) value) task)

  moved-left : (target : List ℕ) → view.call.task ≡ Moving index target
      → next ≡ record view { known = next.known; joined = next.joined; call = widened_call index target view.call (Bound n k q) q value }
  moved-left target task =
      stepped-left asks kind view next (Bound n k q) value 0 found stepped view.locks (widened_call index target view.call (Bound n k q) q value)
      (leaves (learned stepped.before made) (Bound n k q) (found_by stepped.before made) value 0
      ∙ ap (λ (t : Task). widened_by t index (learned stepped.before made) (Bound n k q) value) task)

  pub call-begun : view.call.task ≡ Nothing → next.call ≡ begun_call index (Bound n k q) value
  call-begun task = ap (λ (v : View). v.call) (widened-left task)

  pub call-moved : (target : List ℕ) → view.call.task ≡ Moving index target → next.call ≡ widened_call index target view.call (Bound n k q) q value
  call-moved target task = ap (λ (v : View). v.call) (moved-left target task)

  with_call : (call : Call) → next ≡ record view { known = next.known; joined = next.joined; call = call } → next ≡ record view { known = next.known; joined = next.joined; call = next.call }
  with_call call left = left ∙ (λ i. record view { known = next.known; joined = next.joined; call = sym (ap (λ (v : View). v.call) left) i })

  pub left-begun : view.call.task ≡ Nothing → next ≡ record view { known = next.known; joined = next.joined; call = next.call }
  left-begun task = with_call (begun_call index (Bound n k q) value) (widened-left task)

  pub left-moved : (target : List ℕ) → view.call.task ≡ Moving index target → next ≡ record view { known = next.known; joined = next.joined; call = next.call }
  left-moved target task = with_call (widened_call index target view.call (Bound n k q) q value) (moved-left target task)

-- no box word is stored by it
pub still-none : (stores : List Store) (n k q value : ℕ) → has_box_word stores ≡ false → has_box_word (stores ++ record { name = Bound n k q; value = value } ∷ []) ≡ false
still-none stores n k q value none =
    list_any-append (λ (s : Store). is_box_word s.name) stores (record { name = Bound n k q; value = value } ∷ []) ∙ rw none refl
