-- What calls answer that a pass makes alone in its world.
use Rattle.std.specs.Prelude.{◌≡◌, ℕ, [], ◌∷◌, Option, None}
use Rattle.fixed_box.specs.declared.fix_box.FixBox.{FixBox}
use Rattle.fixed_box.specs.declared.shape.Shape.{Shape}
use Rattle.shape_test.specs.Touched.{is_touched}
use Rattle.body_ident.specs.Id.{Id}
use Rattle.scene_model.specs.declared.entry.Entry.TheVariants.{Create}
use Rattle.scene_model.specs.Scene.{next_index}
use Rattle.scene_model.specs.Query.{hits}
use Rattle.core_state.specs.declared.view.View.{View}
use Rattle.pass_table.specs.Belongings.{belongings_of}
use Rattle.pass_table.specs.Work.{Tells}
use Rattle.body_slots.specs.Answers.{IsNextId}
use Rattle.tree_query.specs.declared.finder.Finder.{Finder}
use Rattle.tree_query.specs.Finding.{ids_of}
use Rattle.tree_query.specs.Answers.{raised}
use Rattle.reply_text.specs.declared.refusal.Refusal.{Refusal}
use Rattle.script_player.specs.declared.bodies.Change.{Change}
use Rattle.script_player.specs.Table.{Table}
use Rattle.script_player.specs.Attempt.{Attempt}
use Rattle.script_player.specs.Body.{body_of, change_body}
use Rattle.world_host.specs.Alone.{scene_of, MakesEntries, Leaves}

-- the next body was created: this is its id
pub record WasCreated (layer : ℕ) (bounds : FixBox) (user : ℕ) (start next : View) (id : Id) : Type 0 where
  pub is : IsNextId (scene_of start) id
  pub leaves : Leaves start next (Create id.index layer bounds user ∷ [])

-- at each index a body is live
pub record WasFull (start next : View) : Type 0 where
  pub none : next_index (scene_of start) ≡ None
  pub leaves : Leaves start next []

-- this attempt was made: these are its entries, and why it was refused
pub record Tries (attempt : Attempt) (start next : View) (refusal : Option Refusal) : Type 0 where
  pub refusal_is : refusal ≡ attempt.refusal
  pub leaves : Leaves start next attempt.entries

-- the body of an id was changed, or was not, just as on a table with this scene
abbrev pub ChangesAlone : Change → Id → View → View → Option Refusal → Type 0
ChangesAlone change id start next refusal =
    (table : Table) → table.scene ≡ scene_of start → Tries (change_body table change id.index (body_of table.scene id)) start next refusal

-- the finder holds the hits of the scene, the scene stays, and of the words that are told only that of the reader was stored
pub record AnswersHits (shape : Shape) (mask : ℕ) (start next : View) (finder : Finder) : Type 0 where
  pub hits_are : ids_of finder ≡ hits (is_touched shape) mask (scene_of start)
  pub made : MakesEntries start next []
  pub reads : (number : ℕ) × (first : ℕ) × (second : ℕ) × Tells start next (raised number first second)
  pub keeps : belongings_of next ≡ belongings_of start
