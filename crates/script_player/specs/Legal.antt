-- When a report is a legal one, with a history and with the spans of its commands.
--
-- A story is a list of answers. What is said of an answer speaks of those above it, of those beside it in the same block,
-- and of parts of the history that are no longer than the end of its own span. So it stays true when the history goes on.
use Rattle.std.specs.Prelude.{◌≡◌, ℕ, ⊤, List, [], ◌∷◌, ◌++◌, All, Option}
use Rattle.world_io.specs.Bytes.{Appended}
use Rattle.scene_model.specs.declared.entry.Made.{Made}
use Rattle.scene_model.specs.History.{IsLawfulHistory, scene_after}
use Rattle.script_player.specs.Span.{Span, entries_by}
use Rattle.script_player.specs.Report.{end_text}
use Rattle.script_player.specs.Line.{Plan, worker_of}
use Rattle.script_player.specs.Event.{Event, spans_told, made_by_events}
use Rattle.script_player.specs.Open.{batches_left}
use Rattle.script_player.specs.Stands.{Stand}
use Rattle.script_player.specs.Spoken.{story_text}
use Rattle.script_player.specs.Ordered.{IsAfter, IsSpan, HasEntriesOf}
use Rattle.script_player.specs.Refusals.{AreOwnRefusals}
use Rattle.script_player.specs.Replied.{IsRightAnswer}
use Rattle.script_player.specs.Waits.{WaitsRight}
use Rattle.script_player.specs.Closing.{in_name_order, AreGivenUp}

-- all that is said of an answer, with those above it and those below it
pub record IsRightEvent (plan : Plan) (history : List Made) (earlier : List Event) (item : Event) (later : List Event) : Type 0 where
  -- spans follow one another as callers do, and none begins before what its caller had seen
  pub follows : All (IsAfter item) earlier
  pub span : IsSpan history item.span
  -- its pass made its entries in its span, behind those of the orders above
  pub entries : HasEntriesOf history (worker_of plan 0) earlier item
  -- the answer is right for the span, and the entries are those that it asks for
  pub answer : IsRightAnswer plan history earlier item later
  -- a name without an id, a batch that is there or is not: such a refusal comes exactly where it is to
  pub own : AreOwnRefusals plan earlier item
  -- it waits, or is refused, for what others have under way; and what ends a wait has not come too early
  pub waits : WaitsRight plan earlier item later

abbrev pub AreRightEvents : Plan → List Made → List Event → List Event → Type 0
AreRightEvents plan history earlier [] = ⊤
AreRightEvents plan history earlier (item ∷ later) =
    IsRightEvent plan history earlier item later × AreRightEvents plan history (earlier ++ item ∷ []) later

-- a script was played up to its last line with these answers, and these orders followed: each answer stands where it is to and
-- is right; the history is lawful, and the entries of each pass in it are those of its orders, in order; the report is the answers, and the
-- counts of the scene that the history leads to
pub record IsPlayed (plan : Plan) (report : List ℕ) (spans : List Span) (history : List Made) (told closing : List Event) : Type 0 where
  pub stand : Stand plan told
  pub right : AreRightEvents plan history [] told
  pub lawful : IsLawfulHistory plan.world.layers plan.world.bodies history
  pub entries : (pass : ℕ) → entries_by pass history ≡ made_by_events (worker_of plan 0) pass (told ++ closing)
  pub spans_are : spans_told (told ++ closing) ≡ spans
  pub lines : report ≡ story_text plan told ++ end_text (scene_after plan.world.bodies history)

-- and these orders gave up the batches that were left
pub record Legal (plan : Plan) (report : List ℕ) (spans : List Span) (history : List Made) : Type 0 where
  pub told : List Event
  pub closing : List Event
  pub played : IsPlayed plan report spans history told closing
  pub closed : AreGivenUp plan history told told (in_name_order (batches_left told)) closing

-- such a report was written
pub record WritesPlayed (plan : Plan) (before after : Option (List ℕ)) (spans : List Span) (history : List Made) (told closing : List Event) : Type 0 where
  pub report : List ℕ
  pub written : Appended before after report
  pub played : IsPlayed plan report spans history told closing
