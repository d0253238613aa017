-- The player over a plain scene, which counts creations modulo 256.
use Rattle.std.specs.Prelude.{◌≡◌, ℕ, List, Option, fold, Result, Ok, Err, Some, None}
use Rattle.scene_model.specs.declared.entry.Entry.{Entry}
use Rattle.scene_model.specs.Scene.{Scene}
use Rattle.scene_model.specs.Shown.{shown, after_shown}
use Rattle.reply_text.specs.declared.refusal.Refusal.{Refusal}
use Rattle.reply_text.specs.declared.reply.Reply.{Reply}
use Rattle.script_player.specs.Books.{Books}
use Rattle.script_player.specs.Table.{Table}
use Rattle.script_player.specs.Attempt.{Attempt}
use Rattle.script_player.specs.declared.taking.Taken.{Taken}
use Rattle.script_player.specs.Taking.{Marking, marks, Taking}
use Rattle.script_player.specs.Turn.{Turn}
use Rattle.script_player.specs.UnderWay.{IsUnderWay}

-- a table with the scene that a plain scene shows
abbrev pub shown_table : Table → Table
shown_table table = record table { scene = shown table.scene }

-- what a plain scene shows after entries, with other books
abbrev pub shown_with : Table → List Entry → Books → Table
shown_with table entries books = record table { scene = fold after_shown table.scene entries; books = books }

abbrev pub shown_after : Table → Turn → Table
shown_after table t = shown_with table t.entries t.books

-- this turn is what was answered and done
pub record Does (t : Turn) (old new : Table) (reply : Reply) : Type 0 where
  pub reply_is : reply ≡ t.reply
  pub after : new ≡ shown_after old t

-- this attempt was made
pub record Tries (attempt : Attempt) (old new : Table) (refusal : Option Refusal) : Type 0 where
  pub refusal_is : refusal ≡ attempt.refusal
  pub after : new ≡ shown_with old attempt.entries attempt.books

-- this marking was made
pub record Marks (m : Marking) (old new : Scene) (indexes : List ℕ) (refusal : Option Refusal) : Type 0 where
  pub indexes_are : indexes ≡ m.indexes
  pub refusal_is : refusal ≡ m.refusal
  pub after : new ≡ fold after_shown old (marks m.indexes)

-- what was taken, or why nothing was, where the batch keeps so many nodes
abbrev pub IsTaken : Taking → ℕ → Result Taken Refusal → Type 0
IsTaken t nodes (Ok taken) = (t.refusal ≡ None) × (taken.indexes ≡ t.indexes) × (taken.nodes ≡ nodes)
IsTaken t nodes (Err refusal) = t.refusal ≡ Some refusal

-- this taking was made
pub record Takes (t : Taking) (nodes : ℕ) (old new : Table) (result : Result Taken Refusal) : Type 0 where
  pub result_is : IsTaken t nodes result
  pub after : new ≡ shown_with old t.entries old.books

-- a plain player shows the table, and goes on from there
pub record IsShownBy (player table : Table) : Type 0 where
  pub shown : player ≡ shown_table table
  pub under_way : IsUnderWay player
