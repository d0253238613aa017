-- What comes of a command that is carried out or refused.
use Rattle.std.specs.Prelude.{List, [], Option, Some, None}
use Rattle.scene_model.specs.declared.entry.Entry.{Entry}
use Rattle.reply_text.specs.declared.refusal.Refusal.{Refusal}
use Rattle.reply_text.specs.declared.reply.Reply.{Reply}
use Rattle.reply_text.specs.declared.reply.Reply.TheVariants as replies
use Rattle.script_player.specs.Books.{Books}
use Rattle.script_player.specs.Table.{Table}

-- the entries that it makes, why it is refused, and the books from then on
pub record Attempt : Type 0 where
  pub entries : List Entry
  pub refusal : Option Refusal
  pub books : Books

-- it is refused at once, or there is nothing to do
abbrev pub refused : Table → Refusal → Attempt
refused table refusal = record { entries = []; refusal = Some refusal; books = table.books }

abbrev pub nothing_done : Table → Attempt
nothing_done table = record { entries = []; refusal = None; books = table.books }

-- how it is answered
abbrev pub outcome : Option Refusal → Reply
outcome None = replies.Done
outcome (Some refusal) = replies.Refused refusal
