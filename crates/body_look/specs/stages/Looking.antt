-- Looking at a body by turns.
use Rattle.std.specs.Prelude.{◌≡◌, ⊤, ℕ, ◌+◌, ◌<◌, List, [], ◌∷◌, Option, Some, None}
use Rattle.body_ident.specs.Id.{Id}
use Rattle.word_map.specs.declared.config.Config.{Config}
use Rattle.word_map.specs.declared.name.Name.TheVariants.{Lock, Phase, Layer}
use Rattle.word_map.specs.Names.{stripe_of}
use Rattle.core_state.specs.declared.view.Mode.{Mode}
use Rattle.core_state.specs.declared.view.LockStep.{LockStep}
use Rattle.core_state.specs.declared.view.LockStep.TheVariants.{Taken}
use Rattle.core_state.specs.declared.view.View.{View}
use Rattle.core_state.specs.View.{IsPass, known_word}
use Rattle.core_state.specs.Encoding.{phase_join}
use Rattle.core_state.specs.Quietly.{KnowsQuietly}
use Rattle.pass_table.specs.declared.turn.Turn.{Turn}
use Rattle.pass_table.specs.declared.take_op.TakeOp.{TakeOp}
use Rattle.pass_table.specs.Knowing.{StoresAlone}
use Rattle.pass_table.specs.Holding.{IsAtRest}
use Rattle.pass_table.specs.TakeTurns.{taking_of, IsTaking, turns_left}
use Rattle.pass_table.specs.Calls.{IsTurn}
use Rattle.pass_table.specs.Work.{begun, HasWorked}
use Rattle.pass_table.specs.Bodies.{IsCurrent, IsGuarding}
use Rattle.body_look.specs.declared.body_found.BodyFound.{BodyFound}
use Rattle.body_look.specs.declared.body_found.BodyFound.TheVariants.{Gone}
use Rattle.body_look.specs.declared.look_op.LookDepth.{LookDepth}
use Rattle.body_look.specs.declared.look_op.LookDepth.TheVariants.{Life, Phase as ItsPhase}
use Rattle.body_look.specs.declared.look_op.LookStage.{LookStage}
use Rattle.body_look.specs.declared.look_op.LookStage.TheVariants.{Taking, Striped, Live, Joining, Placed}
use Rattle.body_look.specs.declared.look_op.LookOp.{LookOp}
use Rattle.body_look.specs.Found.{IsAsked, IsFound}

-- the operation before its first turn, in a world of these sizes
abbrev pub looking_of : Config → Id → Mode → LookDepth → LookOp
looking_of c id mode depth = record { id = id; mode = mode; depth = depth; taking = taking_of (stripe_of c id.index) mode; stage = Taking }

-- ---- turns left

-- once the stripe is held: the loads of the state, of the phase, of the layer and of the slot
abbrev pub loads_of : LookDepth → ℕ
loads_of Life = 1
loads_of ItsPhase = 4

abbrev pub left_at : LookDepth → TakeOp → LookStage → ℕ
left_at depth taking Taking = loads_of depth + turns_left taking
left_at depth taking Striped = loads_of depth
left_at depth taking Live = 3
left_at depth taking (Joining slot) = 2
left_at depth taking (Placed slot layer) = 1

abbrev pub look_left : LookOp → ℕ
look_left operation = left_at operation.depth operation.taking operation.stage

-- ---- stages

-- Since the look was begun the pass has made these steps on locks, no entry, and no store but of the word of the body's
-- stripe. Nothing that it has for itself was stored by others
pub record HasOnly (id : Id) (start : View) (steps : List LockStep) (view : View) : Type 0 where
  pub worked : HasWorked start view (record (begun start) { steps = steps })
  pub alone : StoresAlone start view (Lock (stripe_of start.config id.index))
  pub quiet : KnowsQuietly start view

-- it holds the stripe so, and no other lock
abbrev pub HasStripe : Id → Mode → View → View → Type 0
HasStripe id mode start view = HasOnly id start (Taken (stripe_of start.config id.index) mode ∷ []) view

-- the stripe is being taken
pub record TakesStripe (id : Id) (mode : Mode) (start : View) (taking : TakeOp) (view : View) : Type 0 where
  pub only : HasOnly id start [] view
  pub goes : IsTaking (taking_of (stripe_of start.config id.index) mode) view taking view

-- the pass guards the body so
abbrev pub Guards : Id → Mode → View → Type 0
Guards id mode view = (number : ℕ) → IsPass view number → IsGuarding number id mode view

-- the stripe is held, the body is live, and its phase is asked for
pub record AtLive (id : Id) (mode : Mode) (depth : LookDepth) (start view : View) : Type 0 where
  pub stripe : HasStripe id mode start view
  pub deep : depth ≡ ItsPhase
  pub guards : Guards id mode view

-- its phase word names this slot
pub record AtJoin (id : Id) (mode : Mode) (depth : LookDepth) (start : View) (slot : ℕ) (view : View) : Type 0 where
  pub live : AtLive id mode depth start view
  pub joins : known_word view (Phase id.index) ≡ phase_join slot
  pub in_slots : slot < start.config.slots

-- what holds at a stage, where the stripe is taken so
abbrev pub AtLook : Id → Mode → LookDepth → View → TakeOp → LookStage → View → Type 0
AtLook id mode depth start taking Taking view = TakesStripe id mode start taking view
AtLook id mode depth start taking Striped view = HasStripe id mode start view
AtLook id mode depth start taking Live view = AtLive id mode depth start view
AtLook id mode depth start taking (Joining slot) view = AtJoin id mode depth start slot view
AtLook id mode depth start taking (Placed slot layer) view = AtJoin id mode depth start slot view × (known_word view (Layer id.index) ≡ layer) × (layer < start.config.layers)

-- it looks at the body with which it was begun, in that mode and as far, for a pass that was at rest
pub record IsLooking (first : LookOp) (start : View) (operation : LookOp) (view : View) : Type 0 where
  pub id : operation.id ≡ first.id
  pub mode : operation.mode ≡ first.mode
  pub depth : operation.depth ≡ first.depth
  pub below : operation.id.index < start.config.bodies
  pub rest : IsAtRest start
  pub stage : AtLook operation.id operation.mode operation.depth start operation.taking operation.stage view

-- ---- the answer

-- where the body is live, the pass guards it so
abbrev pub GuardsFound : Id → Mode → View → BodyFound → Type 0
GuardsFound id mode view (Gone state) = ⊤
GuardsFound id mode view _ = Guards id mode view

-- at the end the pass holds the stripe so, whatever was found; what was found is so then
pub record HasLooked (id : Id) (mode : Mode) (depth : LookDepth) (start next : View) (found : BodyFound) : Type 0 where
  pub stripe : HasStripe id mode start next
  pub guards : GuardsFound id mode next found
  pub now : IsCurrent next
  pub asked : IsAsked depth found
  pub is : IsFound id next found

-- the lock that it takes
abbrev pub takes_at : TakeOp → LookStage → Option TakeOp
takes_at taking Taking = Some taking
takes_at taking _ = None

abbrev pub look_takes : LookOp → Option TakeOp
look_takes operation = takes_at operation.taking operation.stage

-- what a turn of it owes
abbrev pub IsLookTurn : Turn BodyFound → LookOp → LookOp → View → View → Type 0
IsLookTurn turn before after view next =
    IsTurn IsLooking (λ first start end answer. HasLooked first.id first.mode first.depth start end answer) look_left (λ operation. None) look_takes turn before after view next
