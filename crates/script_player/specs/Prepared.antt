-- What batches keep, told by the replies and the entries above a command.
use Rattle.std.specs.Prelude.{ℕ, ◌+◌, ◌==◌, Bool, false, if◌then◌else◌, List, [], ◌∷◌, ◌++◌, length, bytes_eq, sum_by, count_by}
use Rattle.std.specs.List.{list_any}
use Rattle.scene_model.specs.declared.entry.Entry.{Entry}
use Rattle.scene_model.specs.declared.entry.Entry.TheVariants.{Mark, Join}
use Rattle.scene_model.specs.Need.{need}
use Rattle.script_text.specs.declared.command.Command.{Command}
use Rattle.script_text.specs.declared.command.Command.TheVariants.{Prepare, Finalize, Abort}
use Rattle.script_text.specs.declared.script.Script.{Script}
use Rattle.reply_text.specs.declared.reply.Reply.{Reply}
use Rattle.reply_text.specs.declared.reply.Reply.TheVariants.{Done}
use Rattle.script_player.specs.Table.{empty_table}
use Rattle.script_player.specs.Report.{entries_made}
use Rattle.script_player.specs.Standing.{Standing}
use Rattle.script_player.specs.Exchange.{Exchange, exchanges_at}

-- a batch that was prepared and was neither brought in nor given up: its name, its layer, how many bodies it was asked
-- to take, and the indexes of those that it holds
pub record Prepared : Type 0 where
  pub name : List ℕ
  pub layer : ℕ
  pub bodies : ℕ
  pub indexes : List ℕ

-- the indexes that entries mark
abbrev pub marked_by : List Entry → List ℕ
marked_by [] = []
marked_by (Mark index ∷ later) = index ∷ marked_by later
marked_by (entry ∷ later) = marked_by later

-- all but the first that has a name
abbrev pub without : List ℕ → List Prepared → List Prepared
without name [] = []
without name (p ∷ later) = if bytes_eq p.name name then later else p ∷ without name later

-- those after a command that asked for this, and those as before where it was refused
abbrev pub where_done : Reply → List Prepared → List Prepared → List Prepared
where_done Done asked held = asked
where_done reply asked held = held

abbrev pub prepared_by : List Prepared → Command → Reply → List Entry → List Prepared
prepared_by held (Prepare batch layer names) reply made =
    where_done reply (held ++ record { name = batch; layer = layer; bodies = length names; indexes = marked_by made } ∷ []) held
prepared_by held (Finalize batch) reply made = where_done reply (without batch held) held
prepared_by held (Abort batch) reply made = where_done reply (without batch held) held
prepared_by held command reply made = held

abbrev pub prepared_from : List Prepared → List Exchange → List Prepared
prepared_from held [] = held
prepared_from held (e ∷ later) = prepared_from (prepared_by held e.command e.reply e.made) later

-- whether bodies of a layer came in, and the nodes of the tree over those that did
abbrev pub joins : ℕ → Entry → Bool
joins layer (Join own indexes) = own == layer
joins layer entry = false

abbrev pub nodes_joined : Entry → ℕ
nodes_joined (Join layer indexes) = need (length indexes)
nodes_joined entry = 0

-- what batches keep: slots of a layer, and nodes; and whether a prepared one has a name
pub record Kept : Type 0 where
  pub named : Bool
  pub slots : ℕ
  pub nodes : ℕ

-- what they keep after further entries
abbrev pub kept_with : Kept → ℕ → List Entry → Kept
kept_with kept layer made = record kept { slots = kept.slots + count_by (joins layer) made; nodes = kept.nodes + sum_by nodes_joined made }

-- batches that are prepared keep a slot and the nodes of their trees, and so do those that came in
abbrev pub kept_by : List Prepared → List Entry → List ℕ → ℕ → Kept
kept_by prepared made name layer =
    kept_with (record {
      named = list_any (λ p. bytes_eq p.name name) prepared;
      slots = count_by (λ p. p.layer == layer) prepared;
      nodes = sum_by (λ p. need p.bodies) prepared;
    }) layer made

-- what they keep where a command stands
abbrev pub kept_at : (script : Script) → Standing script → List ℕ → ℕ → Kept
kept_at script at name layer = kept_by (prepared_from [] (exchanges_at script at)) (entries_made (empty_table script.world) at.above) name layer
