-- What a create is answered.
use Rattle.std.specs.Prelude.{◌≡◌, ℕ, List, [], ◌∷◌, ◌++◌}
use Rattle.fixed_box.specs.declared.fix_box.FixBox.{FixBox}
use Rattle.body_ident.specs.Id.{Id, id_of}
use Rattle.scene_model.specs.declared.entry.Entry.{Entry}
use Rattle.scene_model.specs.declared.entry.Entry.TheVariants as entries
use Rattle.scene_model.specs.declared.entry.Made.{Made}
use Rattle.scene_model.specs.History.{creations_in}
use Rattle.script_text.specs.declared.command.Command.{Command}
use Rattle.script_text.specs.declared.command.Command.TheVariants.{Create}
use Rattle.reply_text.specs.declared.refusal.Refusal.TheVariants.{Full}
use Rattle.reply_text.specs.declared.reply.Reply.{Reply}
use Rattle.reply_text.specs.declared.reply.Reply.TheVariants as replies
use Rattle.script_player.specs.Standing.{made_alone}
use Rattle.script_player.specs.Turn.{Turn}

-- one body was created, and the id is its own: its index, and how many were created there by now
pub record IsOwnId (history : List Made) (layer : ℕ) (bounds : FixBox) (user : ℕ) (made : List Entry) (i : Id) : Type 0 where
  pub index : ℕ
  pub entry : made ≡ entries.Create index layer bounds user ∷ []
  pub id : i ≡ id_of index (creations_in index (history ++ made_alone made))

-- below a history a create prints such an id, or it is refused and creates nothing
abbrev pub IsCreated : List Made → ℕ → FixBox → ℕ → List Entry → Reply → Type 0
IsCreated history layer bounds user made (replies.Id i) = IsOwnId history layer bounds user made i
IsCreated history layer bounds user made (replies.Refused refusal) = (refusal ≡ Full) × (made ≡ [])
IsCreated history layer bounds user made reply = ⊥

-- of other commands this says nothing
abbrev pub AnswersCreate : List Made → Command → Turn → Type 0
AnswersCreate history (Create name layer bounds user) t = IsCreated history layer bounds user t.entries t.reply
AnswersCreate history command t = Unit {0}
