-- How the check of a candidate goes, turn by turn.
use Rattle.std.specs.Prelude.{◌≡◌, ⊤, ℕ, ◌+◌, ◌-◌, ◌<◌, List, [], ◌∷◌, ◌++◌, length, slice_index, Option, Some, None}
use Rattle.std.specs.Int.{bit_at}
use Rattle.fixed_box.specs.declared.shape.Shape.{Shape}
use Rattle.body_ident.specs.Id.{Id}
use Rattle.word_map.specs.declared.name.Name.TheVariants.{Phase, Layer, BoxWord}
use Rattle.word_map.specs.Names.{stripe_of}
use Rattle.core_state.specs.declared.view.Mode.TheVariants.{Read}
use Rattle.core_state.specs.declared.view.LockStep.TheVariants.{Taken}
use Rattle.core_state.specs.declared.view.View.{View}
use Rattle.core_state.specs.View.{known_word}
use Rattle.core_state.specs.Encoding.{phase_in, phase_join}
use Rattle.pass_table.specs.declared.take_op.TakeOp.{TakeOp}
use Rattle.pass_table.specs.declared.turn.Turn.{Turn}
use Rattle.pass_table.specs.Knowing.{KnowsMore}
use Rattle.pass_table.specs.Holding.{IsAtRest}
use Rattle.pass_table.specs.TakeTurns.{taking_of, IsTaking, turns_left}
use Rattle.pass_table.specs.Turning.{IsUnderWay}
use Rattle.pass_table.specs.Calls.{IsTurn}
use Rattle.pass_table.specs.Work.{begun, HasWorked, HasDone, idle}
use Rattle.pass_table.specs.Bodies.{IsGuarded}
use Rattle.tree_query.specs.declared.check_op.CheckStage.{CheckStage}
use Rattle.tree_query.specs.declared.check_op.CheckStage.TheVariants.{Taking, Striped, Live, Joining, Placed, Inside, Sides, Leaving}
use Rattle.tree_query.specs.declared.check_op.Check.{Check}
use Rattle.tree_query.specs.Checking.{IsCheckedSo, IsLayerIn, check_steps}

abbrev pub id_at : ℕ → ℕ → Id
id_at index seq = record { index = index; seq = seq }

-- ---- the stripe

-- the stripe of the body at the index is being taken to read, and nothing else was done
pub record TakesStripe (index : ℕ) (start : View) (taking : TakeOp) (view : View) : Type 0 where
  pub worked : HasWorked start view (begun start)
  pub goes : IsTaking (taking_of (stripe_of start.config index) Read) view taking view

-- a call has taken it to read, and done nothing else
abbrev pub HasTakenStripe : ℕ → View → View → Type 0
HasTakenStripe index start view = HasWorked start view (record (begun start) { steps = Taken (stripe_of start.config index) Read ∷ [] })

-- it was taken; since then the pass has only come to know more, and this is known
pub record HasStripe (index : ℕ) (start view : View) (P : View → Type 0) : Type 0 where
  pub mid : View
  pub taken : HasTakenStripe index start mid
  pub more : KnowsMore mid view
  pub knows : P mid

-- ---- stages

-- so many sides of its box are these
abbrev pub KnowsSides : ℕ → View → List ℕ → ℕ → Type 0
KnowsSides index view words loaded = (k : ℕ) → k < loaded → known_word view (BoxWord index k) ≡ slice_index words k

-- since that moment the body was seen to be in this layer, which is asked
pub record IsInAsked (mask : ℕ) (id : Id) (mid view : View) : Type 0 where
  pub layer : ℕ
  pub asked : bit_at mask layer ≡ 1
  pub seen : IsLayerIn id mid view (Some layer)

-- its phase word names this slot of the world
pub record IsJoiningAt (index seq slot : ℕ) (start view : View) : Type 0 where
  pub guarded : IsGuarded (id_at index seq) view
  pub joins : known_word view (Phase index) ≡ phase_join slot
  pub in_slots : slot < start.config.slots

-- what is known at a stage, where the stripe was taken at that moment
abbrev pub KnowsAt : Shape → ℕ → ℕ → View → List ℕ → CheckStage → View → View → Type 0
KnowsAt shape mask index start words (Taking taking) mid view = ⊤
KnowsAt shape mask index start words Striped mid view = ⊤
KnowsAt shape mask index start words (Live seq) mid view = IsGuarded (id_at index seq) view
KnowsAt shape mask index start words (Joining seq slot) mid view = IsJoiningAt index seq slot start view
KnowsAt shape mask index start words (Placed seq slot layer) mid view = IsJoiningAt index seq slot start view × (known_word view (Layer index) ≡ layer) × (layer < start.config.layers)
KnowsAt shape mask index start words (Inside seq) mid view = IsGuarded (id_at index seq) view × (known_word view (Phase index) ≡ phase_in)
KnowsAt shape mask index start words (Sides seq loaded) mid view =
    IsGuarded (id_at index seq) view × IsInAsked mask (id_at index seq) mid view × (loaded < 6) × KnowsSides index view words loaded
KnowsAt shape mask index start words (Leaving answer) mid view = IsCheckedSo shape mask index mid view answer

-- what holds at a stage
abbrev pub AtCheck : Shape → ℕ → ℕ → View → List ℕ → CheckStage → View → Type 0
AtCheck shape mask index start words (Taking taking) view = TakesStripe index start taking view
AtCheck shape mask index start words stage view = HasStripe index start view (λ mid. KnowsAt shape mask index start words stage mid view)

-- the check was begun for a body of the world, by a pass at rest
pub record IsBegunFor (index : ℕ) (start : View) : Type 0 where
  pub below : index < start.config.bodies
  pub rest : IsAtRest start

-- it checks the body for which it was begun
abbrev pub IsInCheck : Shape → ℕ → Check → View → Check → View → Type 0
IsInCheck shape mask first start operation view =
    (operation.index ≡ first.index) × IsBegunFor first.index start × (length operation.words ≡ 6) × AtCheck shape mask first.index start operation.words operation.stage view

-- so for some shape and mask
abbrev pub IsBegunSo : Check → View → Type 0
IsBegunSo operation view = (shape : Shape) × (mask : ℕ) × IsUnderWay (IsInCheck shape mask) operation view

-- at its end
pub record HasChecked (shape : Shape) (mask : ℕ) (first : Check) (start next : View) (answer : Option ℕ) : Type 0 where
  pub done : HasDone start next (idle start)
  pub locks : next.locks ≡ start.locks ++ check_steps start.config first.index
  pub checked : IsCheckedSo shape mask first.index start next answer

-- ---- turns

-- once the stripe is held: the loads of the state, the phase, the layer, the slot and six sides, and the release
abbrev pub stage_left : CheckStage → ℕ
stage_left (Taking taking) = 11 + turns_left taking
stage_left Striped = 11
stage_left (Live seq) = 10
stage_left (Joining seq slot) = 9
stage_left (Placed seq slot layer) = 8
stage_left (Inside seq) = 8
stage_left (Sides seq loaded) = 7 - loaded
stage_left (Leaving answer) = 1

abbrev pub check_left : Check → ℕ
check_left operation = stage_left operation.stage

-- the lock that it takes
abbrev pub takes_at : CheckStage → Option TakeOp
takes_at (Taking taking) = Some taking
takes_at _ = None

abbrev pub check_takes : Check → Option TakeOp
check_takes operation = takes_at operation.stage

-- what a turn owes
abbrev pub IsCheckTurn : Shape → ℕ → Turn (Option ℕ) → Check → Check → View → View → Type 0
IsCheckTurn shape mask turn before after view next = IsTurn (IsInCheck shape mask) (HasChecked shape mask) check_left (λ operation. None) check_takes turn before after view next
