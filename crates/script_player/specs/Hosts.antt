-- How a host answers commands.
use Rattle.std.specs.Prelude.{◌≡◌, ℕ, List, Option}
use Rattle.world_io.specs.Bytes.{Appended, AppendedPart}
use Rattle.script_text.specs.declared.command.Command.{Command}
use Rattle.reply_text.specs.declared.reply.Reply.{Reply}
use Rattle.reply_text.specs.Reply.{reply_text}
use Rattle.script_player.specs.Table.{Table}
use Rattle.script_player.specs.Turn.{turn, table_after}
use Rattle.script_player.specs.Report.{replies_text, table_below}
use Rattle.script_player.specs.Fitting.{FitsWorld, AllFitWorld}

-- the reply is that to the command on each table by which the host was told, and the host is told by that table after it
pub record IsAnswered {Host : Type 0} (shows : Host → Table → Type 0) (command : Command) (old new : Host) (reply : Reply) : Type 0 where
  pub reply_is : (table : Table) → shows old table → reply ≡ (turn table command).reply
  pub shown : (table : Table) → shows old table → shows new (table_after table (turn table command))

-- a host is told by a table whose world the command fits
pub record IsToldFor {Host : Type 0} (shows : Host → Table → Type 0) (host : Host) (command : Command) : Type 0 where
  pub table : Table
  pub shown : shows host table
  pub fits : FitsWorld table.world command

pub record IsToldForAll {Host : Type 0} (shows : Host → Table → Type 0) (host : Host) (commands : List Command) : Type 0 where
  pub table : Table
  pub shown : shows host table
  pub fits : AllFitWorld table.world commands

-- the line of the reply is at hand
pub record HasLine {Host : Type 0} (shows : Host → Table → Type 0) (command : Command) (old new : Host) (line : List ℕ) : Type 0 where
  pub line_is : (table : Table) → shows old table → line ≡ reply_text (turn table command).reply
  pub shown : (table : Table) → shows old table → shows new (table_after table (turn table command))

-- it was written
pub record Writes {Host : Type 0} (shows : Host → Table → Type 0) (command : Command) (old new : Host) (before after : Option (List ℕ)) : Type 0 where
  pub line : (table : Table) → shows old table → Appended before after (reply_text (turn table command).reply)
  pub shown : (table : Table) → shows old table → shows new (table_after table (turn table command))

abbrev pub WritesPart : {Host : Type 0} → (Host → Table → Type 0) → Command → Host → (before after : Option (List ℕ)) → Type 0
WritesPart shows command old before after = (table : Table) → shows old table → AppendedPart before after (reply_text (turn table command).reply)

-- commands were played: their replies were written, and the host is told by the table after them
pub record Plays {Host : Type 0} (shows : Host → Table → Type 0) (commands : List Command) (old new : Host) (before after : Option (List ℕ)) : Type 0 where
  pub replies : (table : Table) → shows old table → Appended before after (replies_text table commands)
  pub shown : (table : Table) → shows old table → shows new (table_below table commands)

-- a first part of these replies was written
abbrev pub PlaysPart : {Host : Type 0} → (Host → Table → Type 0) → List Command → Host → (before after : Option (List ℕ)) → Type 0
PlaysPart shows commands old before after = (table : Table) → shows old table → AppendedPart before after (replies_text table commands)
