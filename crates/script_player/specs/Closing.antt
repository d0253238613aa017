-- The end of a script: the batches that are left are given up, in the order of their names.
use Rattle.std.specs.Prelude.{◌≡◌, ℕ, ◌+◌, ⊤, ◌==◌, nat_lt, if◌then◌else◌, Bool, true, false, List, [], ◌∷◌, ◌++◌, length, Some, All}
use Rattle.scene_model.specs.declared.entry.Made.{Made}
use Rattle.script_text.specs.declared.command.Command.TheVariants as commands
use Rattle.reply_text.specs.declared.reply.Reply.TheVariants as replies
use Rattle.script_player.specs.Taking.{unmarks}
use Rattle.script_player.specs.Prepared.{Prepared}
use Rattle.script_player.specs.Line.{Plan, Plain, worker_of}
use Rattle.script_player.specs.Answer.{Replied}
use Rattle.script_player.specs.Event.{Event}
use Rattle.script_player.specs.Open.{maker_of}
use Rattle.script_player.specs.Ordered.{IsAfter, IsSpan, HasEntriesOf}

-- a text comes before another: by the first byte in which they differ, or it is the shorter one
abbrev pub is_text_before : List ℕ → List ℕ → Bool
is_text_before [] [] = false
is_text_before [] (b ∷ bs) = true
is_text_before (a ∷ as_left) [] = false
is_text_before (a ∷ as_left) (b ∷ bs) = if a == b then is_text_before as_left bs else nat_lt a b

abbrev pub put_by_name : Prepared → List Prepared → List Prepared
put_by_name p [] = p ∷ []
put_by_name p (q ∷ later) = if is_text_before q.name p.name then q ∷ put_by_name p later else p ∷ q ∷ later

abbrev pub in_name_order : List Prepared → List Prepared
in_name_order [] = []
in_name_order (p ∷ later) = put_by_name p (in_name_order later)

-- a batch is given up by the pass that made it, below the last line
pub record IsGivenUp (plan : Plan) (history : List Made) (told earlier : List Event) (p : Prepared) (e : Event) : Type 0 where
  pub caller : e.caller ≡ 0
  pub pass : maker_of p.name told ≡ Some e.pass
  pub given : e.given ≡ length plan.lines + 1
  pub answered : e.answered ≡ length plan.lines + 1
  pub order : e.order ≡ Some (Plain (commands.Abort p.name))
  pub answer : e.answer ≡ Replied replies.Done
  pub made : e.made ≡ unmarks p.indexes
  pub none : e.lanes ≡ []
  pub follows : All (IsAfter e) earlier
  pub span : IsSpan history e.span
  pub entries : HasEntriesOf history (worker_of plan 0) earlier e

abbrev pub AreGivenUp : Plan → List Made → List Event → List Event → List Prepared → List Event → Type 0
AreGivenUp plan history told earlier [] [] = ⊤
AreGivenUp plan history told earlier (p ∷ batches) (e ∷ closing) =
    IsGivenUp plan history told earlier p e × AreGivenUp plan history told (earlier ++ e ∷ []) batches closing
AreGivenUp plan history told earlier batches closing = ⊥
