-- What a creation in one call leaves, part by part.
use Rattle.std.proofs.Common.{◌≡◌, ℕ, suc, ◌+◌, ◌%◌, ◌^◌, ◌<◌, [], ◌∷◌, None, Ok, Err, Result, refl, sym, subst, arith}
use Rattle.fixed_box.specs.declared.fix_box.FixBox.{FixBox}
use Rattle.body_ident.specs.Id.{Id}
use Rattle.scene_model.specs.declared.entry.Entry.TheVariants.{Create}
use Rattle.word_map.specs.declared.name.Name.TheVariants.{State}
use Rattle.word_map.specs.Names.{index_lock}
use Rattle.core_state.specs.declared.view.Mode.TheVariants.{Write}
use Rattle.core_state.specs.declared.view.View.{View}
use Rattle.core_state.specs.View.{IsPass, known_word}
use Rattle.core_state.specs.Lists.{HasList}
use Rattle.core_state.specs.Lives.{created_state, MayCreate, create, MayStoreField, store_field, MayLoadBody, load_body}
use Rattle.pass_table.specs.Stepping.{Stepped, Stored}
use Rattle.pass_table.specs.TakeTurns.{taking_of, HasTaken}
use Rattle.pass_table.specs.Turning.{MadeBy, IsUnderWay}
use Rattle.pass_table.specs.Holding.{MayLetGo, LetGo, IsAtRest}
use Rattle.pass_table.proofs.Working.{worked-begun, worked-taken}
use Rattle.free_list.specs.Heads.{LoadedHead, LoadedLink, TookOff}
use Rattle.body_slots.specs.declared.answers.Full.{Full}
use Rattle.body_slots.specs.declared.create_op.CreateStage.{CreateStage}
use Rattle.body_slots.specs.declared.create_op.CreateStage.TheVariants.{Locked, Taken, Fields, Filled, Leaving}
use Rattle.body_slots.specs.declared.create_op.CreateOp.{CreateOp}
use Rattle.body_slots.specs.stages.Creating.{field_name, field_value, HasFieldsOf, IsTakenOff, AtCreate, IsBegun, CreatesBody, CreateAnswers, at_stage, CreatesOn}
use Rattle.body_slots.proofs.CreateTurns.{has-list, head-first, head-none, link-loaded, took-index, state-loaded, field-taken, field-state, fields-stored, value-begun}
use Rattle.body_slots.proofs.CreateEnds.{own_begun, creation-calling, has-created, may-leave, has-left}

-- ---- stages

-- what holds at a stage
pub now-at : (first : CreateOp) (start : View) (operation : CreateOp) (stage : CreateStage) (view : View) → operation.stage ≡ stage → CreatesBody first start operation view → AtCreate first start view stage
now-at first start operation stage view is making = subst (AtCreate first start view) is making.1

-- the list may be changed under its lock
pub has-list-at : (operation : CreateOp) (view : View) → IsUnderWay CreatesBody operation view → operation.stage ≡ Locked → HasList view
has-list-at operation view way is = has-list way.start view way.goes.0.rest (now-at way.first way.start operation Locked view is way.goes)

-- ---- the first index

pub none-first : (operation : CreateOp) (view next : View) (head : ℕ) → operation.stage ≡ Locked → LoadedHead view next head → head ≡ 0 → CreatesOn operation view (at_stage operation (Leaving (Err (record { head = head })))) next
none-first operation view next head is loaded none = λ first start making. (making.0, head-none first start view next head loaded (now-at first start operation Locked view is making) none)

pub took-first : (operation : CreateOp) (view one two next : View) (index head link : ℕ) → operation.stage ≡ Locked → head ≡ suc index → LoadedHead view one head → LoadedLink one two index link → TookOff two next index link
    → CreatesOn operation view (at_stage operation (Taken index)) next
took-first operation view one two next index head link is names loaded linked took = λ first start making. (
  making.0,
  took-index first start two next index link took
      (link-loaded first start one two index link making.0.rest linked (head-first first start view one head loaded (now-at first start operation Locked view is making) index names)),
)

-- ---- the words of the body

-- the first of them, so many, are stored at an index that was taken off
pub record HasFilled (first : CreateOp) (start : View) (operation : CreateOp) (index word number : ℕ) (view : View) : Type 0 where
  pub begun : IsBegun first start operation.layer operation.bounds operation.user
  pub taken : IsTakenOff start view index
  pub state : known_word view (State index) ≡ word
  pub fields : HasFieldsOf first view index number

-- they are by now, if none was at an earlier view
abbrev pub FillsOn : CreateOp → ℕ → View → ℕ → View → Type 0
FillsOn operation index begun number view =
    (state : ℕ) (first : CreateOp) (start : View) → CreatesBody first start (at_stage operation (Fields index state 0)) begun → HasFilled first start operation index state number view

module _ (operation : CreateOp) (index : ℕ) (begun : View) where
  pub fills-none : FillsOn operation index begun 0 begun
  fills-none = λ state first start making.
      let at = now-at first start (at_stage operation (Fields index state 0)) (Fields index state 0) begun refl making in
      record { begun = making.0; taken = at.0; state = at.1; fields = at.3 }

  pub fills-next : (number : ℕ) (view next : View) → number < 8 → FillsOn operation index begun number view → Stored MayStoreField store_field view (field_name index number) (field_value operation number) next
      → FillsOn operation index begun (number + 1) next
  fills-next number view next below on stored = λ state first start making.
      let now = on state first start making in
      let value = field_value operation number in
      let is = value-begun first operation start number now.begun in
      let at : AtCreate first start view (Fields index state number) = (now.taken, now.state, below, now.fields) in
      record {
        begun = now.begun;
        taken = field-taken view next index number value stored first start state at is;
        state = field-state view next index number value stored first start state at is;
        fields = λ other inside. fields-stored view next index number value stored first start state at is other (omega arith);
      }

  pub fills-all : (view : View) → FillsOn operation index begun 8 view → (state : ℕ) → CreatesOn (at_stage operation (Fields index state 0)) begun (at_stage operation (Filled index state)) view
  fills-all view on state = λ first start making. let now = on state first start making in (now.begun, (now.taken, now.state, now.fields))

-- ---- the body

-- the state word was loaded
pub state-on : (operation : CreateOp) (index state : ℕ) (view next : View) → Stepped MayLoadBody load_body view (State index) 0 0 state next
    → CreatesOn (at_stage operation (Taken index)) view (at_stage operation (Fields index state 0)) next
state-on operation index state view next stepped = λ first start making.
    (making.0, state-loaded first start view next index state stepped (now-at first start (at_stage operation (Taken index)) (Taken index) view refl making))

-- the body was created
pub created-on : (operation : CreateOp) (index state value : ℕ) (id : Id) (view next : View) → value ≡ created_state state → Stored MayCreate create view (State index) value next → id.index ≡ index
    → id.seq ≡ (state % 256 + 1) % 256 → CreatesOn (at_stage operation (Filled index state)) view (at_stage operation (Leaving (Ok id))) next
created-on operation index state value id view next is stored named sequence = λ first start making.
    let there = now-at first start (at_stage operation (Filled index state)) (Filled index state) view refl making in
    let again = own_begun first start operation.layer operation.bounds operation.user making.0 in (
      making.0,
      (
        Create index first.layer first.bounds first.user ∷ [],
        creation-calling first start view index state value again there is next stored,
        has-created first start view index state value again there is next stored id named sequence,
      ),
    )

-- ---- the lock

module _ (layer : ℕ) (bounds : FixBox) (user : ℕ) where
  -- the creation of such a body, at a stage
  abbrev pub creation_at : CreateStage → CreateOp
  creation_at stage = record { layer = layer; bounds = bounds; user = user; stage = stage; made = None }

  pub locked-first : (view next : View) (lock number : ℕ) → lock ≡ index_lock view.config → IsPass view number → layer < view.config.layers → user < 2 ^ 32 → IsAtRest view → HasTaken (taking_of lock Write) view next
      → MadeBy view next None → CreatesBody (creation_at Locked) view (creation_at Locked) next
  locked-first view next lock number same pass below fits rest taken made = (
    record { layer_as = refl; bounds_as = refl; user_as = refl; in_layers = below; fits = fits; rest = rest },
    worked-taken view view next _ (worked-begun view number pass rest) (index_lock view.config) Write (subst (λ (l : ℕ). HasTaken (taking_of l Write) view next) same taken) made,
  )

  module _ (start view : View) (answer : Result Id Full) (lock : ℕ) (same : lock ≡ index_lock start.config) (making : CreatesBody (creation_at Locked) start (creation_at (Leaving answer)) view) where
    left_at : AtCreate (creation_at Locked) start view (Leaving answer)
    left_at = now-at (creation_at Locked) start (creation_at (Leaving answer)) (Leaving answer) view refl making

    pub may-leave-list : MayLetGo view lock
    may-leave-list = subst (MayLetGo view) (sym same) (may-leave (creation_at Locked) start view answer making.0.rest left_at)

    pub left-list : (next : View) (found : ℕ) → LetGo view lock found next → CreateAnswers (creation_at Locked) start next answer
    left-list next found go = has-left (creation_at Locked) start view answer making.0.rest left_at next found (subst (λ (l : ℕ). LetGo view l found next) same go)
