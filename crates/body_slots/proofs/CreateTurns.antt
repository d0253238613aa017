-- What each turn of a creation leaves.
use Rattle.std.specs.Prelude.{slice_index}
use Rattle.std.proofs.Common.{◌≡◌, ◌≢◌, ℕ, zero, suc, ◌+◌, ◌^◌, ◌<◌, ◌≤◌, [], false, None, Err, Result, inl, inr, refl, ap, sym, ◌∙◌, subst, arith}
use Rattle.std.proofs.lemmas.Bool.{cases_lt}
use Rattle.fixed_box.specs.declared.fix_box.FixBox.{FixBox}
use Rattle.fixed_box.specs.FixBox.{words_of}
use Rattle.fixed_box.proofs.Words.{on_axis_in_range, word_of-range}
use Rattle.body_ident.specs.Id.{Id}
use Rattle.word_map.specs.declared.config.Config.{Config}
use Rattle.word_map.specs.declared.name.Name.{Name}
use Rattle.word_map.specs.declared.name.Name.TheVariants.{SlotHead, SlotNext, State, Layer, User, BoxWord}
use Rattle.core_state.specs.declared.view.Task.{Task}
use Rattle.core_state.specs.declared.view.Task.TheVariants.{Nothing, Creating}
use Rattle.core_state.specs.declared.view.View.{View}
use Rattle.core_state.specs.View.{IsPass, known_word}
use Rattle.core_state.specs.Event.{loads_list, stores_head, stores_field, of_lists, of_bodies}
use Rattle.core_state.specs.Lists.{HasList, MayLoadList, load_list, MayStoreHead, store_head}
use Rattle.core_state.specs.Lives.{MayLoadBody, load_body, IsCreating, IsFieldOf, MayStoreField, store_field}
use Rattle.pass_table.specs.Stepping.{Stepped, Stored}
use Rattle.pass_table.specs.Turning.{AtMostOneStep, MadeBy}
use Rattle.pass_table.specs.Holding.{IsAtRest}
use Rattle.pass_table.specs.Calls.{StoresWord}
use Rattle.pass_table.proofs.Turning.{one-step, made-by-step}
use Rattle.pass_table.proofs.Calling.{point-now, stores-word, stored-made, word-now, word-beside, steady-more}
use Rattle.pass_table.proofs.Bodies.{loaded-body}
use Rattle.pass_table.proofs.WorkLater.{worked-sizes, worked-pass, worked-more}
use Rattle.pass_table.proofs.Working.{worked-made}
use Rattle.pass_table.specs.Work.{IsCalling, is_shown}
use Rattle.pass_table.proofs.Knowing.{step-alone}
use Rattle.free_list.specs.Heads.{LoadedHead, LoadedLink, IsDoing, TookOff}
use Rattle.body_slots.specs.declared.answers.Full.{Full}
use Rattle.body_slots.specs.declared.create_op.CreateStage.{CreateStage}
use Rattle.body_slots.specs.declared.create_op.CreateStage.TheVariants.{Locked, First, Linked, Taken, Fields, Filled, Leaving}
use Rattle.body_slots.specs.declared.create_op.CreateOp.{CreateOp}
use Rattle.body_slots.specs.Answers.{IsFullAt}
use Rattle.body_slots.specs.stages.Creating.{field_name, field_values, field_value, HasFieldsOf, list_taken, IsTakenOff, AtCreate, IsBegun, CreatesBody, CreateAnswers, stage_left, takes_at}
use Rattle.pass_table.proofs.Stages.{Staged}
use Rattle.body_slots.specs.stages.Later.{list-held, listed-steady, created-steady, field_of}

-- ---- what the steps on the list ask

-- once its lock is taken, the list may be changed
pub has-list : (start view : View) → IsAtRest start → IsCalling start view (list_taken start.config) Nothing [] → HasList view
has-list start view rest calling = record { lock = list-held start view Nothing [] rest calling; idle = calling.doing }

-- ---- stages

-- a creation goes from stage to stage
abbrev pub create_stages : Staged (Result Id Full) CreateOp CreateStage
create_stages = record {
  under_way = CreatesBody;
  answers = CreateAnswers;
  made = λ operation. operation.made;
  stage = λ operation. operation.stage;
  left = stage_left;
  takes = takes_at;
  at = AtCreate;
  to = λ operation after. record operation { stage = after; made = None };
  reached = λ operation after. refl;
  unmade = λ operation after. refl;
  holds = λ first start operation view making. making.1;
  goes = λ first start operation after view next making at. (making.0, at);
}

-- ---- tasks

-- what a begun task leaves
pub doing-left : (view next : View) (task : Task) → IsDoing view next task → next ≡ record view { known = next.known; joined = next.joined; call = next.call }
doing-left view next task doing =
    doing.rest ∙ (λ i. record view { known = next.known; joined = sym (ap (λ (v : View). v.joined) doing.rest) i; call = sym (ap (λ (v : View). v.call) doing.rest) i })

-- ---- the head

pub head-step : (view next : View) (head : ℕ) → LoadedHead view next head → AtMostOneStep view next
head-step view next head loaded = one-step MayLoadList load_list view next SlotHead 0 0 head loaded.step (λ before after steps. of_lists (loads_list steps))

pub head-made : (view next : View) (head : ℕ) → LoadedHead view next head → MadeBy view next None
head-made view next head loaded = made-by-step MayLoadList load_list view next SlotHead 0 0 head loaded.step

module _ (first : CreateOp) (start view next : View) (head : ℕ) (loaded : LoadedHead view next head) (at : AtCreate first start view Locked) where
  head_calling : IsCalling start next (list_taken start.config) Nothing []
  head_calling = worked-more start view next _ at loaded.more

  head_sizes : next.config ≡ start.config
  head_sizes = worked-sizes start next _ head_calling

  pub head-first : (index : ℕ) → head ≡ suc index → AtCreate first start next (First index)
  head-first index names = (head_calling, subst (λ (c : Config). index < c.bodies) head_sizes (loaded.some index names).below, loaded.is ∙ names)

  pub head-none : head ≡ 0 → AtCreate first start next (Leaving (Err (record { head = head })))
  head-none none = (
    [],
    head_calling,
    record {
      adds = head_calling.adds;
      at =
          point-now start next [] (IsFullAt start.config head) head_calling.adds
          (subst (λ (c : Config). IsFullAt c head next.known) head_sizes (record { zero = none; is = sym loaded.is; every = loaded.none none }));
    },
  )

-- ---- the link, and the head's store

pub link-step : (view next : View) (index link : ℕ) → LoadedLink view next index link → AtMostOneStep view next
link-step view next index link loaded = one-step MayLoadList load_list view next (SlotNext index) 0 0 link loaded.step (λ before after steps. of_lists (loads_list steps))

pub link-made : (view next : View) (index link : ℕ) → LoadedLink view next index link → MadeBy view next None
link-made view next index link loaded = made-by-step MayLoadList load_list view next (SlotNext index) 0 0 link loaded.step

pub link-loaded : (first : CreateOp) (start view next : View) (index link : ℕ) → IsAtRest start → LoadedLink view next index link → AtCreate first start view (First index) → AtCreate first start next (Linked index link)
link-loaded first start view next index link rest loaded at = (
  worked-more start view next _ at.0 loaded.more,
  at.1,
  steady-more view next SlotHead loaded.more (listed-steady view SlotHead (list-held start view _ _ rest at.0) refl) ∙ at.2,
  loaded.is,
)

pub took-step : (view next : View) (index link : ℕ) → TookOff view next index link → AtMostOneStep view next
took-step view next index link took = one-step MayStoreHead store_head view next SlotHead link 0 took.step.0 took.step.1 (λ before after steps. of_lists (stores_head steps))

pub took-made : (view next : View) (number index link : ℕ) → IsPass view number → TookOff view next index link → MadeBy view next None
took-made view next number index link pass took = stored-made MayStoreHead store_head view next SlotHead link refl took.step number pass

pub took-index : (first : CreateOp) (start view next : View) (index link : ℕ) → TookOff view next index link → AtCreate first start view (Linked index link) → AtCreate first start next (Taken index)
took-index first start view next index link took at = record {
  calling =
      worked-made start view next _ at.0 SlotHead _ (Creating index) refl (step-alone MayStoreHead store_head view next SlotHead link 0 took.step.0 took.step.1)
      (took-made view next at.0.adds.number index link (worked-pass start view _ at.0) took)
      (doing-left view next (Creating index) took.doing) (ap (λ (v : View). v.call.task) took.doing.rest);
  below = at.1;
}

-- ---- the state

pub state-loaded : (first : CreateOp) (start view next : View) (index state : ℕ) → Stepped MayLoadBody load_body view (State index) 0 0 state next → AtCreate first start view (Taken index) → AtCreate first start next (Fields index state 0)
state-loaded first start view next index state stepped at =
    let loaded = loaded-body view next (State index) state stepped in (
      record { calling = worked-more start view next _ at.calling loaded.more; below = at.below },
      loaded.word,
      omega arith,
      λ number below. absurd (omega arith),
    )

-- ---- the words of the body

-- sides of boxes are words of coordinates
side-range : (bounds : FixBox) (side : ℕ) → side < 6 → (1 ≤ slice_index (words_of bounds) side) × (slice_index (words_of bounds) side ≤ 16777216)
side-range bounds zero below = word_of-range _ (on_axis_in_range bounds.lo 0)
side-range bounds (suc zero) below = word_of-range _ (on_axis_in_range bounds.lo 1)
side-range bounds (suc (suc zero)) below = word_of-range _ (on_axis_in_range bounds.lo 2)
side-range bounds (suc (suc (suc zero))) below = word_of-range _ (on_axis_in_range bounds.hi 0)
side-range bounds (suc (suc (suc (suc zero)))) below = word_of-range _ (on_axis_in_range bounds.hi 1)
side-range bounds (suc (suc (suc (suc (suc zero))))) below = word_of-range _ (on_axis_in_range bounds.hi 2)
side-range bounds (suc (suc (suc (suc (suc (suc side)))))) below = absurd (omega arith)

-- each value is one for its word
is-field : (c : Config) (layer : ℕ) (bounds : FixBox) (user index number : ℕ) → layer < c.layers → user < 2 ^ 32 → number < 8
    → IsFieldOf c index (field_name index number) (slice_index (field_values layer bounds user) number)
is-field c layer bounds user index zero in_layers fits below = (refl, in_layers)
is-field c layer bounds user index (suc zero) in_layers fits below = (refl, fits)
is-field c layer bounds user index (suc (suc side)) in_layers fits below = let range = side-range bounds side (omega arith) in (refl, range.0, range.1)

-- the pass has the index
pub is-creating : (start view : View) (index : ℕ) → IsAtRest start → IsTakenOff start view index → IsCreating view index
is-creating start view index rest taken = record { lock = list-held start view _ _ rest taken.calling; task = taken.calling.doing }

pub may-field : (first operation : CreateOp) (start view : View) (index number : ℕ) → IsBegun first start operation.layer operation.bounds operation.user → IsTakenOff start view index → number < 8
    → MayStoreField view (field_name index number) (field_value operation number) 0
may-field first operation start view index number begun taken below = record {
  index = index;
  creating = is-creating start view index begun.rest taken;
  field =
      is-field view.config operation.layer operation.bounds operation.user index number
      (subst (λ (c : Config). operation.layer < c.layers) (sym (worked-sizes start view _ taken.calling)) (subst (λ (l : ℕ). l < start.config.layers) (sym begun.layer_as) begun.in_layers))
      (subst (λ (u : ℕ). u < 2 ^ 32) (sym begun.user_as) begun.fits) below;
}

-- the number of a field
abbrev field_number : Name → ℕ
field_number (Layer i) = 0
field_number (User i) = 1
field_number (BoxWord i k) = suc (suc k)
field_number _ = 0

number-back : (index number : ℕ) → field_number (field_name index number) ≡ number
number-back index zero = refl
number-back index (suc zero) = refl
number-back index (suc (suc side)) = refl

no-state : (index number : ℕ) → field_name index number ≢ State index
no-state index zero same = absurd cc
no-state index (suc zero) same = absurd cc
no-state index (suc (suc side)) same = absurd cc

field-untold : (index number : ℕ) → is_shown false (field_name index number) ≡ false
field-untold index zero = refl
field-untold index (suc zero) = refl
field-untold index (suc (suc side)) = refl

module _ (view next : View) (index number value : ℕ) (stored : Stored MayStoreField store_field view (field_name index number) value next) where
  pub field-step : AtMostOneStep view next
  field-step = one-step MayStoreField store_field view next (field_name index number) value 0 stored.0 stored.1 (λ before after steps. of_bodies (stores_field steps))

  pub field-made : (own : ℕ) → IsPass view own → MadeBy view next None
  field-made own pass = stored-made MayStoreField store_field view next (field_name index number) value refl stored own pass

  field_left : next ≡ record view { known = next.known; joined = None }
  field_left = stored.1.leaves ∙ (λ i. record view { known = sym (ap (λ (v : View). v.known) stored.1.leaves) i; joined = None })

  field_word : StoresWord view next (field_name index number) value
  field_word = stores-word MayStoreField store_field view next (field_name index number) value refl stored

  module _ (first : CreateOp) (start : View) (state : ℕ) (at : AtCreate first start view (Fields index state number)) (is : value ≡ field_value first number) where
    field_task : view.call.task ≡ Creating index
    field_task = at.0.calling.doing

    field_sizes : next.config ≡ view.config
    field_sizes = ap (λ (v : View). v.config) field_left

    pub field-taken : IsTakenOff start next index
    field-taken = record {
      calling =
          worked-made start view next _ at.0.calling (field_name index number) _ (Creating index) (field-untold index number) (step-alone MayStoreField store_field view next (field_name index number) value 0 stored.0 stored.1)
          (field-made at.0.calling.adds.number (worked-pass start view _ at.0.calling))
          (field_left ∙ (λ i. record view { known = next.known; joined = sym (ap (λ (v : View). v.joined) field_left) i; call = sym (ap (λ (v : View). v.call) field_left) i }))
          (ap (λ (v : View). v.call.task) field_left ∙ field_task);
      below = at.0.below;
    }

    pub field-state : known_word next (State index) ≡ state
    field-state = word-beside view next (field_name index number) value field_word field_sizes (State index) (no-state index number) (created-steady view index (State index) field_task refl) ∙ at.1

    pub fields-stored : HasFieldsOf first next index (suc number)
    fields-stored other below =
        elim (cases_lt other number) [
          | inl before ↦
              word-beside view next (field_name index number) value field_word field_sizes (field_name index other)
              (λ same. let same_number = sym (number-back index number) ∙ (ap field_number same ∙ number-back index other) in absurd (omega arith))
              (created-steady view index (field_name index other) field_task (field_of index other))
              ∙ at.3 other before
          | inr past ↦
              let last : other ≡ number = omega arith in
              subst (λ (n : ℕ). known_word next (field_name index n) ≡ field_value first n) (sym last) (word-now view next (field_name index number) value field_word field_sizes ∙ is)
        ]

    -- one more is stored
    pub field-next : number + 1 < 8 → AtCreate first start next (Fields index state (number + 1))
    field-next below = (field-taken, field-state, below, λ other inside. fields-stored other (omega arith))

    -- or all of them
    pub field-last : number + 1 ≡ 8 → AtCreate first start next (Filled index state)
    field-last all = (field-taken, field-state, λ other inside. fields-stored other (omega arith))

-- the values are those with which the creation was begun
pub value-begun : (first operation : CreateOp) (start : View) (number : ℕ) → IsBegun first start operation.layer operation.bounds operation.user → field_value operation number ≡ field_value first number
value-begun first operation start number begun = λ i. slice_index (field_values (begun.layer_as i) (begun.bounds_as i) (begun.user_as i)) number
