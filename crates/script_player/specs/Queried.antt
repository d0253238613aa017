-- What a query is answered.
use Rattle.std.specs.Prelude.{◌≡◌, ℕ, List}
use Rattle.fixed_box.specs.declared.shape.Shape.{Shape}
use Rattle.fixed_box.specs.declared.shape.Shape.TheVariants as shapes
use Rattle.fixed_box.specs.Touch.{Touch}
use Rattle.body_ident.specs.Id.{Id}
use Rattle.scene_model.specs.declared.entry.Made.{Made}
use Rattle.scene_model.specs.History.{IsRightAnswer}
use Rattle.script_text.specs.declared.command.Command.{Command}
use Rattle.script_text.specs.declared.command.Command.TheVariants.{QueryBox, QueryPoint, QueryRay}
use Rattle.reply_text.specs.declared.reply.Reply.{Reply}
use Rattle.reply_text.specs.declared.reply.Reply.TheVariants as replies

-- the reply lists ids, ascending by index: exactly those of the bodies that, at this point of the history, are in the
-- broad phase, in a layer of the mask, and touch the shape
pub record IsRightReply (bodies : ℕ) (history : List Made) (point mask : ℕ) (shape : Shape) (reply : Reply) : Type 0 where
  pub ids : List Id
  pub listed : reply ≡ replies.Hits ids
  pub right : IsRightAnswer (Touch shape) mask bodies (record { history = history; from = point; to = point }) ids

-- of commands that ask for no bodies this says nothing
abbrev pub AnswersQuery : ℕ → List Made → ℕ → Command → Reply → Type 0
AnswersQuery bodies history point (QueryBox mask bounds) reply = IsRightReply bodies history point mask (shapes.Box bounds) reply
AnswersQuery bodies history point (QueryPoint mask at) reply = IsRightReply bodies history point mask (shapes.Point at) reply
AnswersQuery bodies history point (QueryRay mask segment) reply = IsRightReply bodies history point mask (shapes.Segment segment) reply
AnswersQuery bodies history point command reply = Unit {0}
