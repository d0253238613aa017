-- The entries of a script are a lawful history: each is possible at its place, and in a layer of the world.
use Rattle.std.proofs.Common.{◌≡◌, ℕ, ◌<◌, List, [], ◌∷◌, ◌++◌, get_or, Option, Some, None, IfSome, IsSomeAnd, subst}
use Rattle.std.specs.Bool.{⊤}
use Rattle.fixed_box.specs.declared.fix_box.FixBox.{FixBox}
use Rattle.scene_model.specs.declared.body_view.Phase.TheVariants.{Held}
use Rattle.scene_model.specs.declared.entry.Entry.{Entry}
use Rattle.scene_model.specs.declared.entry.Entry.TheVariants as entries
use Rattle.scene_model.specs.Scene.{Scene, Record, empty_scene, place_at, record_at, next_index}
use Rattle.scene_model.specs.Step.{IsPossible, IsWithinLayers, after_entry}
use Rattle.scene_model.specs.History.{IsLawfulFrom, IsLawfulHistory}
use Rattle.scene_model.specs.Consistent.{IsLatest, IsConsistent}
use Rattle.scene_model.proofs.Histories.{IsConsistent-empty, IsConsistent-after_entry, lawful_parts}
use Rattle.script_text.specs.declared.command.Command.{Command}
use Rattle.script_text.specs.declared.command.Command.TheVariants as commands
use Rattle.script_text.specs.declared.script.Script.{Script}
use Rattle.script_player.specs.declared.bodies.Change.{Change}
use Rattle.script_player.specs.declared.bodies.Change.TheVariants as changes
use Rattle.script_player.specs.Table.{Table, empty_table}
use Rattle.script_player.specs.Body.{entry_of}
use Rattle.script_player.specs.Turn.{create_turn, turn, table_after}
use Rattle.script_player.specs.Report.{entries_made, ArePossibleFrom}
use Rattle.script_player.specs.InLayers.{IsInLayers, AreInLayers}
use Rattle.script_player.specs.Standing.{made_alone, history_of, Standing, history_at, table_at}
use Rattle.script_player.proofs.Histories.{history_of as possible_of}
use Rattle.script_player.proofs.Stepwise.{IsStepwise, turn_steps}
use Rattle.script_player.specs.Fitting.{FitsIn, AllFitIn}
use Rattle.script_player.proofs.Layered.{script_fits}
use Rattle.script_player.proofs.Standing.{history_more}

-- entries that create bodies in one of so many layers, if they create any
abbrev AreWithin : ℕ → List Entry → Type 0
AreWithin layers [] = ⊤
AreWithin layers (entry ∷ later) = IsWithinLayers layers entry × AreWithin layers later

within-append : (layers : ℕ) (xs ys : List Entry) → AreWithin layers xs → AreWithin layers ys → AreWithin layers (xs ++ ys)
within-append layers [] ys h k = k
within-append layers (x ∷ xs) ys h k = (h.0, within-append layers xs ys h.1 k)

change-within : (layers : ℕ) (change : Change) (index : ℕ) → IsWithinLayers layers (entry_of change index)
change-within layers changes.Destroy index = tt
change-within layers changes.Remove index = tt
change-within layers (changes.Move bounds) index = tt
change-within layers (changes.SetUser user) index = tt

-- no other command than a create creates a body
steps-within : (layers : ℕ) → IsStepwise (λ old entries new. AreWithin layers entries)
steps-within layers = record {
  none = λ b. tt;
  more = λ a b c xs ys h k. within-append layers xs ys h k;
  change = λ b c index. (change-within layers c index, tt);
  mark = λ b index. (tt, tt);
  unmark = λ b index. (tt, tt);
  join = λ b layer nodes indexes. (tt, tt);
  keep = λ b batch. tt;
  spend = λ b name. tt;
}

create-within : (layers : ℕ) (table : Table) (name : List ℕ) (layer user : ℕ) (bounds : FixBox) (o : Option ℕ) → layer < layers
    → AreWithin layers (create_turn table name layer bounds user o).entries
create-within layers table name layer user bounds None h = tt
create-within layers table name layer user bounds (Some index) h = (h, tt)

turn-within : (layers bodies : ℕ) (table : Table) (c : Command) → FitsIn layers bodies c → AreWithin layers (turn table c).entries
turn-within layers bodies table (commands.Create name layer bounds user) h = create-within layers table name layer user bounds (next_index table.scene) h
turn-within layers bodies table c h = turn_steps (λ old entries new. AreWithin layers entries) (steps-within layers) table c

made-within : (layers bodies : ℕ) (cs : List Command) (table : Table) → AllFitIn layers bodies cs → AreWithin layers (entries_made table cs)
made-within layers bodies [] table h = tt
made-within layers bodies (c ∷ cs) table h =
    let t = turn table c in
    within-append layers t.entries (entries_made (table_after table t) cs) (turn-within layers bodies table c h.0) (made-within layers bodies cs (table_after table t) h.1)

lawful_alone : (layers : ℕ) (es : List Entry) (scene : Scene) → ArePossibleFrom scene es → AreWithin layers es → IsLawfulFrom layers scene (made_alone es)
lawful_alone layers [] scene h w = tt
lawful_alone layers (entry ∷ es) scene h w = ((h.0, w.0), lawful_alone layers es (after_entry scene entry) h.1 w.1)

pub lawful_of : (script : Script) → IsLawfulHistory script.world.layers script.world.bodies (history_of script.world script.lines)
lawful_of script =
    let table = empty_table script.world in
    let layers = script.world.layers in
    lawful_alone layers (entries_made table script.lines) table.scene (possible_of script) (made-within layers script.world.bodies script.lines table (script_fits script))

-- so is the part above a command
pub lawful_at : (script : Script) (at : Standing script) → IsLawfulHistory script.world.layers script.world.bodies (history_at script at)
lawful_at script at =
    let layers = script.world.layers in
    let bodies = script.world.bodies in
    let rest = made_alone (entries_made (table_at script at) (at.command ∷ at.below)) in
    (lawful_parts layers (empty_scene bodies) (history_at script at) rest (subst (IsLawfulHistory layers bodies) (history_more script at) (lawful_of script))).0

-- ---- the layers of joins

-- a body that is live is in a layer that there is
live_in_layer : (layers creations layer : ℕ) (o : Option Record) → IfSome o (IsLatest layers creations) → IsSomeAnd o (λ r. (r.phase ≡ Held) × (r.layer ≡ layer)) → layer < layers
live_in_layer layers creations layer None latest h = absurd h
live_in_layer layers creations layer (Some r) latest h = subst (λ (n : ℕ). n < layers) h.1 latest.in_layers

in_layers : (layers : ℕ) (scene : Scene) (entry : Entry) → IsConsistent layers scene → IsPossible scene entry → IsWithinLayers layers entry → IsInLayers layers entry
in_layers layers scene (entries.Create index layer bounds user) is h w = w
in_layers layers scene (entries.Join layer indexes) is h w =
    let index = get_or indexes 0 0 in
    live_in_layer layers (place_at scene index).creations layer (record_at scene index) (is.latest index) (h.2 0 0 h.0)
in_layers layers scene entry is h w = tt

all_in_layers : (layers : ℕ) (es : List Entry) (scene : Scene) → IsConsistent layers scene → IsLawfulFrom layers scene (made_alone es) → AreInLayers layers es
all_in_layers layers [] scene is h = tt
all_in_layers layers (entry ∷ es) scene is h = (
  in_layers layers scene entry is h.0.0 h.0.1,
  all_in_layers layers es (after_entry scene entry) (IsConsistent-after_entry layers scene entry h.0 is) h.1,
)

pub in_layers_of : (script : Script) → AreInLayers script.world.layers (entries_made (empty_table script.world) script.lines)
in_layers_of script =
    let table = empty_table script.world in
    all_in_layers script.world.layers (entries_made table script.lines) table.scene (IsConsistent-empty script.world.layers script.world.bodies) (lawful_of script)
