-- Queries are answered right.
use Rattle.std.proofs.Common.{◌≡◌, ℕ, List, length, IsTrue, ap, sym, ◌∙◌}
use Rattle.std.proofs.lemmas.List.Elements.{All-weaker}
use Rattle.fixed_box.specs.declared.fix_box.FixBox.{FixBox}
use Rattle.fixed_box.specs.declared.shape.Shape.{Shape}
use Rattle.fixed_box.specs.declared.shape.Shape.TheVariants as shapes
use Rattle.fixed_box.specs.Touch.{Touch}
use Rattle.shape_test.specs.Touched.{is_touched}
use Rattle.shape_test.proofs.Arrivals.{is_touched_decides}
use Rattle.body_ident.specs.Id.{Id, id_of}
use Rattle.scene_model.specs.declared.entry.Made.{Made}
use Rattle.scene_model.specs.Scene.{Scene, record_at}
use Rattle.scene_model.specs.Query.{hits}
use Rattle.scene_model.specs.History.{Interval, point, IsHit, Fits, IsMet, IsRightAnswer}
use Rattle.scene_model.proofs.Hits.{hits_right}
use Rattle.script_text.specs.declared.command.Command.{Command}
use Rattle.script_text.specs.declared.command.Command.TheVariants as commands
use Rattle.script_text.specs.declared.script.Script.{Script}
use Rattle.reply_text.specs.declared.reply.Reply.TheVariants as replies
use Rattle.script_player.specs.Turn.{turn}
use Rattle.script_player.specs.Standing.{scene_at, history_of, Standing, history_at, table_at, turn_at}
use Rattle.script_player.specs.Queried.{IsRightReply, AnswersQuery}
use Rattle.script_player.proofs.Marking.{weaker}
use Rattle.script_player.proofs.Standing.{is_table_at, point_at}

-- ---- a right answer, told by another word for the same touches

fits_by : (f g : FixBox → Type 0) → ((b : FixBox) → f b → g b) → (mask : ℕ) (scene : Scene) (index generation : ℕ) → Fits f mask scene index generation
    → Fits g mask scene index generation
fits_by f g to mask scene index generation h =
    weaker (record_at scene index) (λ r. (r.generation ≡ generation) × IsHit f mask r) (λ r. (r.generation ≡ generation) × IsHit g mask r)
    (λ r own. (own.0, (own.1.0, own.1.1, to r.bounds own.1.2))) h

pub right_by : (f g : FixBox → Type 0) → ((b : FixBox) → f b → g b) → ((b : FixBox) → g b → f b) → (mask bodies : ℕ) (interval : Interval) (ids : List Id)
    → IsRightAnswer f mask bodies interval ids → IsRightAnswer g mask bodies interval ids
right_by f g to from mask bodies interval ids h =
    let P : (FixBox → Type 0) → Id → Type 0 = λ t i. (generation : ℕ) × IsMet t mask bodies interval i.index generation × (i ≡ id_of i.index generation) in
    record {
      ascending = h.ascending;
      complete = λ index generation due.
          h.complete index generation (λ n first last. fits_by g f from mask (point bodies interval.history n) index generation (due n first last));
      sound = All-weaker (P f) (P g)
          (λ i met. (met.0, (met.1.0, met.1.1, met.1.2, fits_by f g to mask (point bodies interval.history met.1.0) i.index met.0 met.1.3), met.2)) ids h.sound;
    }

-- ---- the reply where a query stands

right_in : (script : Script) (at : Standing script) (history : List Made) → point script.world.bodies history (length (history_at script at)) ≡ scene_at script at
    → (mask : ℕ) (shape : Shape)
    → IsRightReply script.world.bodies history (length (history_at script at)) mask shape
    (replies.Hits (hits (is_touched shape) mask (table_at script at).scene))
right_in script at history same mask shape =
    let bodies = script.world.bodies in
    let n = length (history_at script at) in
    let here = sym same in
    let found = hits (is_touched shape) mask (point bodies history n) in
    let test : FixBox → Type 0 = λ b. IsTrue (is_touched shape b) in
    record {
      ids = found;
      listed = ap (λ (s : Scene). replies.Hits (hits (is_touched shape) mask s)) ((is_table_at script at).scene ∙ here);
      right = right_by test (Touch shape) (λ b. (is_touched_decides shape b).0) (λ b. (is_touched_decides shape b).1) mask bodies
          (record { history = history; from = n; to = n }) found (hits_right (is_touched shape) mask bodies history n);
    }

queries : (script : Script) (at : Standing script) (history : List Made) → point script.world.bodies history (length (history_at script at)) ≡ scene_at script at
    → (c : Command)
    → AnswersQuery script.world.bodies history (length (history_at script at)) c (turn (table_at script at) c).reply
queries script at history same (commands.QueryBox mask bounds) = right_in script at history same mask (shapes.Box bounds)
queries script at history same (commands.QueryPoint mask where_at) = right_in script at history same mask (shapes.Point where_at)
queries script at history same (commands.QueryRay mask segment) = right_in script at history same mask (shapes.Segment segment)
queries script at history same c = tt

-- so it is with each history in which that scene stands there
pub queries_in : (script : Script) (at : Standing script) (history : List Made) → point script.world.bodies history (length (history_at script at)) ≡ scene_at script at
    → AnswersQuery script.world.bodies history (length (history_at script at)) at.command (turn_at script at).reply
queries_in script at history same = queries script at history same at.command

pub queries_at : (script : Script) (at : Standing script)
    → AnswersQuery script.world.bodies (history_of script.world script.lines) (length (history_at script at)) at.command (turn_at script at).reply
queries_at script at = queries_in script at (history_of script.world script.lines) (point_at script at)
