-- A create prints the id of the body that it creates.
use Rattle.std.proofs.Common.{◌≡◌, ℕ, ◌+◌, cond, List, [], ◌∷◌, ◌++◌, Option, Some, None, refl, ap, sym, ◌∙◌, eq-eqb, arith}
use Rattle.std.proofs.lemmas.List.Sums.{sum_by-append, sum_by-cons}
use Rattle.fixed_box.specs.declared.fix_box.FixBox.{FixBox}
use Rattle.body_ident.specs.Id.{id_of}
use Rattle.scene_model.specs.declared.entry.Entry.TheVariants as entries
use Rattle.scene_model.specs.declared.entry.Made.{Made}
use Rattle.scene_model.specs.Scene.{Scene, place_at, next_index}
use Rattle.scene_model.specs.History.{creates, creations_in}
use Rattle.scene_model.proofs.Creations.{creations_at-scene_after}
use Rattle.script_text.specs.declared.command.Command.{Command}
use Rattle.script_text.specs.declared.command.Command.TheVariants as commands
use Rattle.script_text.specs.declared.script.Script.{Script}
use Rattle.script_player.specs.Turn.{turn, create_turn}
use Rattle.script_player.specs.Standing.{made_alone, Standing, history_at, table_at, turn_at}
use Rattle.script_player.specs.Created.{IsCreated, AnswersCreate}
use Rattle.script_player.proofs.Standing.{is_table_at}
use Rattle.script_player.proofs.Lawful.{lawful_at}

-- one creation more
counted : (history : List Made) (index layer user : ℕ) (bounds : FixBox)
    → creations_in index (history ++ made_alone (entries.Create index layer bounds user ∷ [])) ≡ creations_in index history + 1
counted history index layer user bounds =
    let one : Made = record { pass = 0; entry = entries.Create index layer bounds user } in
    let weight : Made → ℕ = λ m. cond (creates index m.entry) 1 0 in
    let own : weight one ≡ 1 = ap (λ b. cond b 1 0) (eq-eqb index index refl) in
    omega (arith, sum_by-append weight history (one ∷ []), sum_by-cons weight one [], own)

created : (script : Script) (at : Standing script) (name : List ℕ) (layer user : ℕ) (bounds : FixBox) (o : Option ℕ)
    → IsCreated (history_at script at) layer bounds user (create_turn (table_at script at) name layer bounds user o).entries
    (create_turn (table_at script at) name layer bounds user o).reply
created script at name layer user bounds None = (refl, refl)
created script at name layer user bounds (Some index) =
    let history = history_at script at in
    let here = ap (λ (s : Scene). (place_at s index).creations) (is_table_at script at).scene in
    let before = creations_at-scene_after script.world.layers script.world.bodies history index (lawful_at script at) in
    record {
      index = index;
      entry = refl;
      id = ap (id_of index) (ap (λ n. n + 1) (here ∙ before) ∙ sym (counted history index layer user bounds));
    }

creates_by : (script : Script) (at : Standing script) (c : Command) → AnswersCreate (history_at script at) c (turn (table_at script at) c)
creates_by script at (commands.Create name layer bounds user) = created script at name layer user bounds (next_index (table_at script at).scene)
creates_by script at c = tt

pub creates_at : (script : Script) (at : Standing script) → AnswersCreate (history_at script at) at.command (turn_at script at)
creates_at script at = creates_by script at at.command
