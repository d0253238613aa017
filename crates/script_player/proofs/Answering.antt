-- A plain player that shows a table, after a command.
use Rattle.std.proofs.Common.{◌≡◌, sym, ap, subst, ◌∙◌, Result, Ok, Err, IfOk}
use Rattle.script_text.specs.declared.command.Command.{Command}
use Rattle.reply_text.specs.declared.reply.Reply.{Reply}
use Rattle.script_player.specs.Table.{Table}
use Rattle.script_player.specs.Turn.{Turn, turn}
use Rattle.script_player.specs.UnderWay.{IsUnderWay}
use Rattle.script_player.specs.Shown.{shown_table, shown_after, Does, IsShownBy}
use Rattle.script_player.specs.Hosts.{IsAnswered}
use Rattle.script_player.proofs.GoingOn.{turn_goes_on}
use Rattle.script_player.proofs.Projection.{turn-shown, shown_after-turn}

turn_same : (command : Command) (old table : Table) → IsShownBy old table → turn old command ≡ turn table command
turn_same command old table shows = ap (λ (t : Table). turn t command) shows.shown ∙ turn-shown table command

-- what a turn on a shown table answers, and what it leaves, told of the table
pub answered : (command : Command) (old new : Table) (reply : Reply) → Does (turn old command) old new reply → IsAnswered IsShownBy command old new reply
answered command old new reply does = record {
  reply_is = λ table shows. does.reply_is ∙ ap (λ (t : Turn). t.reply) (turn_same command old table shows);
  shown = λ table shows. record {
    shown =
        does.after ∙ (ap (λ (t : Table). shown_after t (turn t command)) shows.shown ∙ (ap (shown_after (shown_table table)) (turn-shown table command) ∙ shown_after-turn table (turn table command)));
    under_way = subst IsUnderWay (sym does.after) (turn_goes_on old command shows.under_way);
  };
}

pub answered_ok : {E : Type 0} (command : Command) (old new : Table) (result : Result Reply E) → IfOk result (Does (turn old command) old new) → IfOk result (IsAnswered IsShownBy command old new)
answered_ok command old new (Ok reply) does = answered command old new reply does
answered_ok command old new (Err e) does = does
