-- What each order of a serial script does, where main gives all of them and nobody else acts.
use Rattle.std.specs.Prelude.{ℕ, List, [], ◌∷◌, ◌++◌}
use Rattle.word_map.specs.declared.config.Config.{Config}
use Rattle.scene_model.specs.declared.entry.Entry.{Entry}
use Rattle.reply_text.specs.declared.reply.Reply.TheVariants as replies
use Rattle.script_player.specs.Books.{Books, known_at}
use Rattle.script_player.specs.Table.{Table, empty_table, table_with}
use Rattle.script_player.specs.Turn.{Turn, turn, table_after}
use Rattle.script_player.specs.Report.{end_text}
use Rattle.script_player.specs.Line.{Order, Plain, Update, Retire, Velocity, Step}
use Rattle.script_player.specs.Answer.{Answer, Replied, NoToken, Stepped, answer_text}
use Rattle.script_player.specs.Shifted.{Speed, with_speed, Shift, shifts_of, step_moves, moved_count, kept_count}

-- what the player keeps between two orders: the table, and the velocities
pub record Course : Type 0 where
  pub table : Table
  pub speeds : List Speed

abbrev pub empty_course : Config → Course
empty_course world = record { table = empty_table world; speeds = [] }

-- the entries that an order makes, its answer, and what is kept from then on
pub record Outcome : Type 0 where
  pub entries : List Entry
  pub answer : Answer
  pub course : Course

-- an update gives back what all batches keep that came in: nothing is attached any more
abbrev pub updated : Books → Books
updated books = record books { attached = [] }

abbrev pub played : Course → Turn → Outcome
played course t = record { entries = t.entries; answer = Replied t.reply; course = record course { table = table_after course.table t } }

abbrev pub stepped : Course → List Shift → Outcome
stepped course list =
    let scene = course.table.scene in
    let moves = step_moves scene list in
    record {
      entries = moves;
      answer = Stepped (moved_count scene list) (kept_count scene list);
      course = record course { table = table_with course.table moves (updated course.table.books) };
    }

-- where nobody else acts an update is never refused, and it leaves no token
abbrev pub outcome_of : Course → Order → Outcome
outcome_of course (Plain command) = played course (turn course.table command)
outcome_of course Update = record {
  entries = [];
  answer = Replied replies.Done;
  course = record course { table = table_with course.table [] (updated course.table.books) };
}
outcome_of course Retire = record { entries = []; answer = NoToken; course = course }
outcome_of course (Velocity name v) = record { entries = []; answer = Replied replies.Done; course = record course { speeds = with_speed course.speeds name v } }
outcome_of course (Step workers) = stepped course (shifts_of (known_at course.table.books) course.speeds)

-- ---- the report

abbrev pub course_below : Course → List Order → Course
course_below course [] = course
course_below course (order ∷ orders) = course_below (outcome_of course order).course orders

abbrev pub answers_text : Course → List Order → List ℕ
answers_text course [] = []
answers_text course (order ∷ orders) =
    let o = outcome_of course order in
    answer_text o.answer ++ answers_text o.course orders

-- what the plain scene prints for the orders of a serial script
abbrev pub orders_report : Config → List Order → List ℕ
orders_report world orders =
    let course = empty_course world in
    answers_text course orders ++ end_text (course_below course orders).table.scene
