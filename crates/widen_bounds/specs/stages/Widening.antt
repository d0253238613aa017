-- How bounds are widened for the box that a body is to have, turn by turn, from its locations up to the roots.
use Rattle.std.specs.Prelude.{◌≡◌, ◌≢◌, ◌⊎◌, ℕ, zero, suc, ◌+◌, ◌-◌, ◌*◌, ◌<◌, ◌≤◌, ◌==◌, if◌then◌else◌, List, [], ◌++◌, take, Option, Some, None, false}
use Rattle.fixed_box.specs.FixBox.{words_of}
use Rattle.fixed_box.specs.declared.fix_box.FixBox.{FixBox}
use Rattle.body_ident.specs.Id.{Id}
use Rattle.scene_model.specs.declared.body_view.Phase.TheVariants.{In}
use Rattle.word_map.specs.declared.name.Name.TheVariants.{Bound, Parent, LocA}
use Rattle.word_map.specs.Names.{stripe_of}
use Rattle.core_state.specs.declared.view.Mode.TheVariants.{Write}
use Rattle.core_state.specs.declared.view.LockStep.{LockStep}
use Rattle.core_state.specs.declared.view.Task.{Task}
use Rattle.core_state.specs.declared.view.Task.TheVariants.{Nothing, Moving}
use Rattle.core_state.specs.declared.view.Call.{Call}
use Rattle.core_state.specs.declared.view.View.{View}
use Rattle.core_state.specs.View.{mode_of, known_word}
use Rattle.core_state.specs.Encoding.{Sides, sides_of, place, Covers, bound_in}
use Rattle.core_state.specs.Bodies.{has_box_word}
use Rattle.core_state.specs.Nodes.{Above}
use Rattle.core_state.specs.Moving.{IsKnownLocation, HasLoaded, HasStored, HasWidened, HasClimbed}
use Rattle.pass_table.specs.Bodies.{IsCurrent}
use Rattle.pass_table.specs.Labels.{SaysNew}
use Rattle.pass_table.specs.Settled.{KnowsPhase, KnowsFirst, KnowsSecond}
use Rattle.pass_table.specs.Turning.{AtMostOneStep, MadeBy, HasReached}
use Rattle.pass_table.specs.Work.{IsCalling}
use Rattle.widen_bounds.specs.declared.climbing.Climb.{Climb}
use Rattle.widen_bounds.specs.declared.widening.Widening.{Widening}
use Rattle.widen_bounds.specs.declared.widening.Widening.TheVariants.{First, Second, Ended}

-- ---- the body

-- a call that was begun at this view holds the stripe of the body to write after these steps on locks
abbrev pub HoldsStripe : Id → List LockStep → View → Type 0
HoldsStripe id steps start = mode_of (start.locks ++ steps) (stripe_of start.config id.index) ≡ Some Write

-- what it is in the middle of that has come to so many sides of the box: a move, once it has come to one
abbrev pub moving_with : ℕ → List ℕ → ℕ → Task
moving_with index target zero = Nothing
moving_with index target (suc more) = Moving index (take (suc more) target)

-- A call is under way that made these steps on locks, and no entry. It stored no location, no word that is told and no box
-- word. Under its stripe it knows the body in the broad phase and at these locations, and has come to so many sides of the
-- box that the body is to have
pub record IsMidMove (id : Id) (target : FixBox) (steps : List LockStep) (start view : View) (known first second : ℕ) : Type 0 where
  pub stripe : HoldsStripe id steps start
  pub calling : IsCalling start view steps (moving_with id.index (words_of target) known) []
  pub phase : KnowsPhase id In view
  pub at_first : KnowsFirst id first view
  pub at_second : KnowsSecond id second view
  pub few : known ≤ 6
  pub no_box_word : 0 < known → has_box_word view.call.stores ≡ false

-- ---- ways up

-- from a place the way up has come to another, so many nodes above it: at each place before that one all six sides are
-- widened, and the parent is loaded
pub data HasClimbedTo (call : Call) (box : Sides) (n k : ℕ) : ℕ → ℕ → ℕ → Type 0 where
  at_begin : HasClimbedTo call box n k 0 n k
  one_up : (level a b m j : ℕ) → HasClimbedTo call box n k level a b → HasWidened call box a b → j < 4 → HasLoaded call (Parent a) (place m j) → HasClimbedTo call box n k (suc level) m j

-- the way up from the place that a location word names is so far
pub record IsClimbing (call : Call) (box : Sides) (known at : ℕ) (climb : Climb) : Type 0 where
  pub node : ℕ
  pub child : ℕ
  pub begins : at ≡ place node child
  pub below : child < 4
  pub way : HasClimbedTo call box node child climb.level climb.node climb.child
  pub low : climb.level < 10
  pub inside : climb.child < 4
  pub sides : climb.side ≤ 6
  pub widened : (q : ℕ) → q < climb.side → HasStored call (Bound climb.node climb.child q) (box q)
  -- at the place where it begins the call comes to the sides of the box, one by one
  pub so_far : ((known ≡ climb.side) × (climb.level ≡ 0)) ⊎ (known ≡ 6)

-- the way up from the place that a location word names is closed; there is none where it is 0
abbrev pub HasClosed : Call → Sides → ℕ → Type 0
HasClosed call box at = (n k : ℕ) → k < 4 → at ≡ place n k → HasClimbed call box n k

-- ---- stages

abbrev pub AtWidening : Call → Sides → ℕ → ℕ → ℕ → Widening → Type 0
AtWidening call box known first second (First climb later) = (later ≡ second) × IsClimbing call box known first climb
AtWidening call box known first second (Second climb) = HasClosed call box first × ((first ≡ 0) ⊎ (known ≡ 6)) × IsClimbing call box known second climb
AtWidening call box known first second Ended = HasClosed call box first × HasClosed call box second × (known ≡ 6)

-- a call that was begun at this view and made these steps on locks widens bounds for the box that the body is to have
pub record IsWidening (id : Id) (target : FixBox) (steps : List LockStep) (start view : View) (widening : Widening) : Type 0 where
  pub known : ℕ
  pub first : ℕ
  pub second : ℕ
  pub move : IsMidMove id target steps start view known first second
  pub at : AtWidening view.call (sides_of (words_of target)) known first second widening

-- some call does so for a body at this index
pub record WidensFor (index : ℕ) (target : FixBox) (widening : Widening) (view : View) : Type 0 where
  pub id : Id
  pub same : id.index ≡ index
  pub steps : List LockStep
  pub start : View
  pub goes : IsWidening id target steps start view widening

-- ---- where it begins

-- at the place that the word names
pub record IsBottom (at : ℕ) (climb : Climb) : Type 0 where
  pub names : at ≡ place climb.node climb.child
  pub below : climb.child < 4
  pub lowest : climb.level ≡ 0
  pub untouched : climb.side ≡ 0

-- with the first location, if there is one
abbrev pub IsBegun : ℕ → ℕ → Widening → Type 0
IsBegun first second (First climb later) = IsBottom first climb × (later ≡ second)
IsBegun first second (Second climb) = (first ≡ 0) × IsBottom second climb
IsBegun first second Ended = (first ≡ 0) × (second ≡ 0)

-- ---- what is left

abbrev pub climb_left : Climb → ℕ
climb_left climb = 7 * (10 - climb.level) - climb.side

abbrev pub widening_left : Widening → ℕ
widening_left (First climb later) = 71 + climb_left climb
widening_left (Second climb) = climb_left climb
widening_left Ended = 0

-- ---- labels

-- at the first place and at the one above it all sides are widened
abbrev pub climb_label : ℕ → ℕ → Option ℕ
climb_label zero side = None
climb_label (suc zero) side = if side == 6 then Some 0 else None
climb_label (suc (suc level)) side = Some 0

-- label 0 is reached once that is so of the first location, label 1 at the end
abbrev pub widening_label : Widening → Option ℕ
widening_label (First climb later) = climb_label climb.level climb.side
widening_label (Second climb) = Some 0
widening_label Ended = Some 1

-- the bound at a place contains the box, as the pass knows it
abbrev pub KnowsWide : View → Sides → ℕ → ℕ → Type 0
KnowsWide view box n k = Covers (bound_in (known_word view) n k) box

-- so do the bound at the first location and that of its node in the node above, where there is one
abbrev pub KnowsLeafWide : ℕ → Sides → View → Type 0
KnowsLeafWide index box view = (n k : ℕ) → k < 4 → known_word view (LocA index) ≡ place n k
    → KnowsWide view box n k × ((m j : ℕ) → j < 4 → known_word view (Parent n) ≡ place m j → KnowsWide view box m j)

-- so does every bound from each location up to the root
abbrev pub KnowsAllWide : ℕ → Sides → View → Type 0
KnowsAllWide index box view = (n k a b : ℕ) → IsKnownLocation view index n k → Above (known_word view) n k a b → KnowsWide view box a b

abbrev pub widening_says : Id → FixBox → View → ℕ → Type 0
widening_says id target view zero = KnowsLeafWide id.index (sides_of (words_of target)) view
widening_says id target view (suc more) = KnowsAllWide id.index (sides_of (words_of target)) view

-- ---- turns

-- what a turn owes of the widening for this box of a body at this index
pub record IsWideningTurn (index : ℕ) (target : FixBox) (before after : Widening) (view next : View) : Type 0 where
  pub step : AtMostOneStep view next
  pub made : MadeBy view next None
  pub current : IsCurrent next
  pub fewer : widening_left after < widening_left before
  pub keeps : (id : Id) (steps : List LockStep) (start : View) → id.index ≡ index → IsWidening id target steps start view before → IsWidening id target steps start next after
  pub labelled : (label : ℕ) → HasReached (widening_label before) label → HasReached (widening_label after) label
  pub says : (id : Id) (steps : List LockStep) (start : View) → id.index ≡ index → IsWidening id target steps start view before
      → SaysNew (widening_label before) (widening_label after) (widening_says id target next)

-- from where the widening was it has come to this by turns; where it was at its end, none was made
pub record HasWidenedOn (index : ℕ) (target : FixBox) (before after : Widening) (view next : View) : Type 0 where
  pub keeps : (id : Id) (steps : List LockStep) (start : View) → id.index ≡ index → IsWidening id target steps start view before → IsWidening id target steps start next after
  pub goes : after ≢ Ended → WidensFor index target after next
  pub idle : before ≡ Ended → (after ≡ Ended) × (next ≡ view)
