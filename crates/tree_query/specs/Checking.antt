-- What the check of a query's candidates tells, each under the stripe of its body.
use Rattle.std.specs.Prelude.{◌≡◌, ◌≢◌, ℕ, ◌<◌, ◌≤◌, ◌++◌, true, false, List, [], ◌∷◌, flat_map, length, Option, Some, None}
use Rattle.fixed_box.specs.declared.shape.Shape.{Shape}
use Rattle.fixed_box.specs.Touch.{Touch}
use Rattle.body_ident.specs.Id.{Id}
use Rattle.scene_model.specs.declared.body_view.Phase.TheVariants.{In}
use Rattle.scene_model.specs.Scene.{Record}
use Rattle.scene_model.specs.Step.{HasBody}
use Rattle.scene_model.specs.History.{IsHit, Interval, IsDue}
use Rattle.scene_model.specs.Cause.{HasIdBody}
use Rattle.word_map.specs.declared.config.Config.{Config}
use Rattle.word_map.specs.Names.{stripe_of}
use Rattle.core_state.specs.declared.item.Item.{Item}
use Rattle.core_state.specs.declared.view.Mode.{Mode}
use Rattle.core_state.specs.declared.view.Mode.TheVariants.{Read}
use Rattle.core_state.specs.declared.view.LockStep.{LockStep}
use Rattle.core_state.specs.declared.view.LockStep.TheVariants.{Taken, Released}
use Rattle.core_state.specs.declared.view.Task.TheVariants.{Nothing}
use Rattle.core_state.specs.declared.view.View.{View}
use Rattle.core_state.specs.Log.{history}
use Rattle.core_state.specs.View.{Holds}
use Rattle.core_state.specs.Guards.{scene_at}
use Rattle.pass_table.specs.Knowing.{KnowsMore}
use Rattle.pass_table.specs.Calls.{AtPoint}
use Rattle.pass_table.specs.Work.{HasDone, idle}
use Rattle.pass_table.specs.Bodies.{IsGuarded, IsTold}
use Rattle.tree_query.specs.declared.finder.Finder.{Finder}
use Rattle.tree_query.specs.Finding.{has_index, id_in, room_of, ids_from, ids_of}

-- ---- one candidate

-- the body that the id names is live after this log, in the broad phase and an asked layer, and its box touches the shape
abbrev pub IsHitAfter : Shape → ℕ → Config → Id → List Item → Type 0
IsHitAfter shape mask c id log = HasIdBody (scene_at c log) id (IsHit (Touch shape) mask)

-- no body at the index is so
abbrev pub HasNoHit : Shape → ℕ → Config → ℕ → List Item → Type 0
HasNoHit shape mask c index log = ¬ HasBody (scene_at c log) index (IsHit (Touch shape) mask)

-- the answer is right at a point of the call: the sequence number of the body that is so, or that none is
abbrev pub IsCheckedSo : Shape → ℕ → ℕ → View → View → Option ℕ → Type 0
IsCheckedSo shape mask index start next None = AtPoint start next (HasNoHit shape mask start.config index)
IsCheckedSo shape mask index start next (Some seq) = AtPoint start next (IsHitAfter shape mask start.config (record { index = index; seq = seq }))

-- at a moment of a call the pass guards the body that the id names, and this holds of it
pub record IsSeen (id : Id) (start next : View) (P : Record → Type 0) : Type 0 where
  pub view : View
  pub more : KnowsMore start view
  pub later : KnowsMore view next
  pub guarded : IsGuarded id view
  pub told : IsTold id view
  pub holds : P told.body

-- it is in the broad phase and lies in this layer, or it is not in
abbrev pub IsLayerIn : Id → View → View → Option ℕ → Type 0
IsLayerIn id start next None = IsSeen id start next (λ r. r.phase ≢ In)
IsLayerIn id start next (Some layer) = IsSeen id start next (λ r. (r.phase ≡ In) × (r.layer ≡ layer))

-- the pass holds the stripe of the body at the index, and is in the middle of nothing
pub record IsUnderStripeOf (view : View) (index : ℕ) : Type 0 where
  pub mode : Mode
  pub stripe : Holds view (stripe_of view.config index) mode
  pub done : view.call.task ≡ Nothing

-- the steps on locks of one check: the stripe is taken to read, and let go
abbrev pub check_steps : Config → ℕ → List LockStep
check_steps c index = Taken (stripe_of c index) Read ∷ Released (stripe_of c index) ∷ []

-- ---- all candidates

-- of those of several bodies, in this order
abbrev pub steps_of : Config → List Id → List LockStep
steps_of c ids = flat_map (λ id. check_steps c id.index) ids

-- The candidates below an index were checked. What is left of them are hits, each at a point of the call and with the
-- sequence number that it had then; each that is no more was none at a point of it. No other index was put in
pub record AreChecked (shape : Shape) (mask : ℕ) (start next : View) (before after : Finder) (to : ℕ) : Type 0 where
  pub room : room_of after ≡ room_of before
  pub loads : after.loads ≡ before.loads
  pub fewer : (index : ℕ) → has_index before index ≡ false → has_index after index ≡ false
  pub hits : (index : ℕ) → index < to → has_index after index ≡ true → AtPoint start next (IsHitAfter shape mask start.config (id_in after index))
  pub others : (index : ℕ) → index < to → has_index before index ≡ true → has_index after index ≡ false → AtPoint start next (HasNoHit shape mask start.config index)

-- all of them were
abbrev pub AreAllChecked : Shape → ℕ → View → View → Finder → Finder → Type 0
AreAllChecked shape mask start next before after = AreChecked shape mask start next before after (room_of before)

-- so far the candidates below an index were checked, and those from it on are all there
pub record IsChecking (shape : Shape) (mask : ℕ) (start view : View) (before finder : Finder) (to : ℕ) : Type 0 where
  pub done : HasDone start view (idle start)
  pub checked : AreChecked shape mask start view before finder to
  pub ahead : (index : ℕ) → to ≤ index → has_index finder index ≡ has_index before index
  pub locks : view.locks ++ steps_of start.config (ids_from before to) ≡ start.locks ++ steps_of start.config (ids_of before)

-- ---- a query

-- the points of the history from what was known at one moment to what is at another
abbrev pub points_between : View → View → Interval
points_between start next = record { history = history next.known; from = length (history start.known); to = length (history next.known) }

-- each body that a query has to find up to then is among the candidates
abbrev pub HoldsDue : Shape → ℕ → View → View → Finder → Type 0
HoldsDue shape mask start next finder =
    (index generation : ℕ) → IsDue (Touch shape) mask start.config.bodies (points_between start next) index generation → has_index finder index ≡ true
