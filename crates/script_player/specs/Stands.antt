-- How answers stand below one another: each line has its own, of an order that it gives or goes on with, and each order
-- has one last answer.
use Rattle.std.specs.Prelude.{◌≡◌, ℕ, ◌+◌, ⊤, Bool, true, false, ◌||◌, List, [], ◌∷◌, ◌++◌, Option, Some, None}
use Rattle.reply_text.specs.declared.reply.Reply.TheVariants as replies
use Rattle.script_player.specs.Line.{Line, Own, Start, Go, Block, Order, Velocity, Step, Plan, Label, worker_of}
use Rattle.script_player.specs.Answer.{Answer, Replied, Stepped, Ready, Blocked, Unfinished, Idle, Actors, is_last}
use Rattle.script_player.specs.Event.{Event}
use Rattle.script_player.specs.Open.{open_of, is_any_open, carrier_of, is_hindered, is_actor_hindered}
use Rattle.script_player.specs.Went.{GoesOn}

-- ---- which answers a line may have

abbrev pub is_blocked : Answer → Bool
is_blocked (Blocked lock) = true
is_blocked answer = false

-- main's own order: where it cannot begin it is answered so, and else it is carried out or waits for a lock
abbrev pub answers_own : Bool → Answer → Bool
answers_own true Unfinished = true
answers_own true answer = false
answers_own false answer = is_last answer || is_blocked answer

-- a step is made where all orders are finished
abbrev pub answers_step : Bool → Answer → Bool
answers_step true Actors = true
answers_step true answer = false
answers_step false (Stepped moved kept) = true
answers_step false answer = false

abbrev pub answers_velocity : Answer → Bool
answers_velocity (Replied replies.Done) = true
answers_velocity answer = false

abbrev pub answers_order : Plan → List Event → Order → Answer → Bool
answers_order plan earlier (Velocity name v) answer = answers_velocity answer
answers_order plan earlier (Step workers) answer = answers_step (is_any_open plan earlier) answer
answers_order plan earlier order answer = answers_own (is_hindered earlier order) answer

-- an actor has its command, but where it cannot begin
abbrev pub answers_start : Bool → Answer → Bool
answers_start true Unfinished = true
answers_start false Ready = true
answers_start hindered answer = false

-- ---- one line

-- an order that is given at a place
pub record IsGiven (place caller pass : ℕ) (order : Option Order) (e : Event) : Type 0 where
  pub caller_is : e.caller ≡ caller
  pub pass_is : e.pass ≡ pass
  pub given_is : e.given ≡ place
  pub answered_is : e.answered ≡ place
  pub order_is : e.order ≡ order

pub record IsOwnLine (plan : Plan) (place : ℕ) (earlier : List Event) (order : Order) (e : Event) : Type 0 where
  pub given : IsGiven place 0 (carrier_of earlier 0 order) (Some order) e
  pub answer : answers_order plan earlier order e.answer ≡ true

pub record IsStartLine (place : ℕ) (earlier : List Event) (actor : ℕ) (order : Order) (e : Event) : Type 0 where
  pub given : IsGiven place actor actor (Some order) e
  pub answer : answers_start (is_actor_hindered earlier actor) e.answer ≡ true

-- an order that is not finished is gone on with
pub record IsGoneOn (layers place : ℕ) (label : Option Label) (earlier : List Event) (task e : Event) : Type 0 where
  pub caller : e.caller ≡ task.caller
  pub pass : e.pass ≡ task.pass
  pub given : e.given ≡ task.given
  pub answered : e.answered ≡ place
  pub order : e.order ≡ task.order
  pub answer : GoesOn layers label earlier e

-- where there is none, the line is answered so
pub record IsIdle (place caller : ℕ) (e : Event) : Type 0 where
  pub given : IsGiven place caller caller None e
  pub answer : e.answer ≡ Idle

abbrev pub IsGoLine : ℕ → ℕ → ℕ → Option Label → List Event → Option Event → Event → Type 0
IsGoLine layers place caller label earlier None e = IsIdle place caller e
IsGoLine layers place caller label earlier (Some task) e = IsGoneOn layers place label earlier task e

-- ---- a block

-- in a section each order is carried out by the worker, and has its last answer there
pub record IsInSection (place worker : ℕ) (order : Order) (e : Event) : Type 0 where
  pub given : IsGiven place worker worker (Some order) e
  pub answer : is_last e.answer ≡ true

abbrev pub AreSection : ℕ → ℕ → List Order → List Event → Type 0
AreSection place worker [] [] = ⊤
AreSection place worker (order ∷ orders) (e ∷ row) = IsInSection place worker order e × AreSection place worker orders row
AreSection place worker orders row = ⊥

-- the answers of the sections, one section below another; the workers have numbers from this one on
abbrev pub AreSections : ℕ → ℕ → List (List Order) → List Event → Type 0
AreSections place worker [] [] = ⊤
AreSections place worker [] (e ∷ rest) = ⊥
AreSections place worker (orders ∷ sections) rows =
    (row : List Event) × (rest : List Event) × (rows ≡ row ++ rest) × AreSection place worker orders row × AreSections place (worker + 1) sections rest

-- where somebody has not finished an order, no section begins
pub record IsBlockRefused (place : ℕ) (rows : List Event) : Type 0 where
  pub event : Event
  pub one : rows ≡ event ∷ []
  pub given : IsGiven place 0 0 None event
  pub answer : event.answer ≡ Actors

abbrev pub IsBlockLine : Plan → ℕ → Bool → List (List Order) → List Event → Type 0
IsBlockLine plan place true sections rows = IsBlockRefused place rows
IsBlockLine plan place false sections rows = AreSections place (worker_of plan 0) sections rows

-- ---- all lines

-- below the last line all that is not finished goes on, until nothing is
pub record IsLate (layers place : ℕ) (earlier : List Event) (e : Event) : Type 0 where
  pub task : Event
  pub unfinished : open_of e.caller earlier ≡ Some task
  pub goes_on : IsGoneOn layers place None earlier task e
  pub last : is_last e.answer ≡ true

abbrev pub AreLate : Plan → ℕ → List Event → List Event → Type 0
AreLate plan place earlier [] = is_any_open plan earlier ≡ false
AreLate plan place earlier (e ∷ later) = IsLate plan.world.layers place earlier e × AreLate plan place (earlier ++ e ∷ []) later

-- the lines from a place on have these answers, where those above have the earlier ones
abbrev pub StandBelow : Plan → ℕ → List Event → List Line → List Event → Type 0
StandBelow plan place earlier [] told = AreLate plan place earlier told
StandBelow plan place earlier (Own order ∷ lines) (e ∷ told) =
    IsOwnLine plan place earlier order e × StandBelow plan (place + 1) (earlier ++ e ∷ []) lines told
StandBelow plan place earlier (Start actor order ∷ lines) (e ∷ told) =
    IsStartLine place earlier actor order e × StandBelow plan (place + 1) (earlier ++ e ∷ []) lines told
StandBelow plan place earlier (Go caller label ∷ lines) (e ∷ told) =
    IsGoLine plan.world.layers place caller label earlier (open_of caller earlier) e × StandBelow plan (place + 1) (earlier ++ e ∷ []) lines told
StandBelow plan place earlier (Block sections ∷ lines) told =
    (rows : List Event) × (rest : List Event) × (told ≡ rows ++ rest)
    × IsBlockLine plan place (is_any_open plan earlier) sections rows × StandBelow plan (place + 1) (earlier ++ rows) lines rest
StandBelow plan place earlier (line ∷ lines) [] = ⊥

-- the answers stand below one another as the lines ask for
abbrev pub Stand : Plan → List Event → Type 0
Stand plan told = StandBelow plan 0 [] plan.lines told
