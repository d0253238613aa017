-- What calls on batches do that a pass makes alone in its world.
use Rattle.std.specs.Prelude.{◌≡◌, ◌≢◌, ℕ, ◌+◌, List, [], ◌∷◌, ◌++◌, length, map, Option, Some, None}
use Rattle.scene_model.specs.declared.entry.Entry.TheVariants.{Join}
use Rattle.scene_model.specs.Need.{need}
use Rattle.core_state.specs.declared.view.View.{View}
use Rattle.batch_add.specs.declared.answers.PrepareRefused.{PrepareRefused}
use Rattle.batch_add.specs.declared.answers.PrepareRefused.TheVariants.{Memory, Empty as NoBodies, NoSlot, NoNodes as FewNodes, Gone as IdGone, Held as IdHeld, AlreadyIn as IdIn, WrongLayer as IdElsewhere}
use Rattle.batch_add.specs.declared.mark_op.MarkRefused.{MarkRefused}
use Rattle.batch_add.specs.declared.mark_op.MarkRefused.TheVariants.{Gone, Held, AlreadyIn, WrongLayer}
use Rattle.batch_add.specs.declared.prepared.Prepared.{Prepared}
use Rattle.batch_add.specs.declared.prepared_list.PreparedList.{PreparedList}
use Rattle.batch_add.specs.PreparedLists.{batches_of}
use Rattle.reply_text.specs.declared.refusal.Refusal.{Refusal}
use Rattle.reply_text.specs.declared.refusal.Refusal.TheVariants as refusals
use Rattle.script_player.specs.declared.books.Known.{Known}
use Rattle.script_player.specs.Table.{Table}
use Rattle.script_player.specs.Taking.{Taking, taking, unmarks}
use Rattle.script_player.specs.Batches.{join_taken}
use Rattle.world_host.specs.Alone.{scene_of, MakesEntries}
use Rattle.world_host.specs.Rooms.{slots_taken, nodes_free, HasRooms}

-- the room for batches is as it was
pub record HasSameRoom (start next : View) : Type 0 where
  pub config : next.config ≡ start.config
  pub slots : (layer : ℕ) → slots_taken next layer ≡ slots_taken start layer
  pub free : nodes_free next ≡ nodes_free start

-- a slot of the layer more is taken, and so many nodes
pub record TakesRoom (layer nodes : ℕ) (start next : View) : Type 0 where
  pub config : next.config ≡ start.config
  pub own : slots_taken next layer ≡ slots_taken start layer + 1
  pub others : (other : ℕ) → other ≢ layer → slots_taken next other ≡ slots_taken start other
  pub free : nodes_free next + nodes ≡ nodes_free start

-- a batch of a layer that holds the bodies at these indexes was attached
pub record WasAttached (layer : ℕ) (indexes : List ℕ) (start next : View) : Type 0 where
  pub made : MakesEntries start next (Join layer indexes ∷ [])
  pub room : HasSameRoom start next

-- or it was given up: its room is free again
pub record WasGivenUp (layer : ℕ) (indexes : List ℕ) (start next : View) : Type 0 where
  pub made : MakesEntries start next (unmarks indexes)
  pub room : TakesRoom layer (need (length indexes)) next start

-- ---- taking bodies

-- the refusal of an id, in the words of scripts
abbrev pub refusal_to : MarkRefused → Refusal
refusal_to (Gone state) = refusals.Gone
refusal_to (Held slot) = refusals.Held
refusal_to (AlreadyIn phase) = refusals.AlreadyIn
refusal_to (WrongLayer found) = refusals.WrongLayer

-- and that of a batch; want of memory is none
abbrev pub refusal_for : PrepareRefused → Option Refusal
refusal_for Memory = None
refusal_for NoBodies = Some refusals.Empty
refusal_for (NoSlot words) = Some refusals.NoSlot
refusal_for (FewNodes wanted free) = Some refusals.NoNodes
refusal_for (IdGone at state) = Some refusals.Gone
refusal_for (IdHeld at slot) = Some refusals.Held
refusal_for (IdIn at phase) = Some refusals.AlreadyIn
refusal_for (IdElsewhere at found) = Some refusals.WrongLayer

-- the table tells the scene that a pass knows, and the room for batches
pub record TellsRoom (table : Table) (view : View) : Type 0 where
  pub scene : table.scene ≡ scene_of view
  pub slots : table.world.slots ≡ view.config.slots
  pub nodes : table.world.nodes ≡ view.config.nodes
  pub rooms : HasRooms view table.books

-- a batch of these bodies is prepared behind the others, with a slot of the layer and the nodes that its tree needs
pub record HasBatchMore (layer : ℕ) (bodies : List Known) (indexes : List ℕ) (old new : PreparedList) (start next : View) : Type 0 where
  pub batch : Prepared
  pub put : batches_of new ≡ batches_of old ++ batch ∷ []
  pub of_layer : batch.layer ≡ layer
  pub holds : batch.indexes.items ≡ indexes
  pub all : indexes ≡ map (λ known. known.id.index) bodies
  pub room : TakesRoom layer (need (length bodies)) start next

-- or none is
abbrev pub BatchesAfter : ℕ → List Known → List ℕ → PreparedList → PreparedList → View → View → Option Refusal → Type 0
BatchesAfter layer bodies indexes old new start next None = HasBatchMore layer bodies indexes old new start next
BatchesAfter layer bodies indexes old new start next (Some refusal) = (batches_of new ≡ batches_of old) × HasSameRoom start next

-- this taking was made
pub record Takes (t : Taking) (layer : ℕ) (bodies : List Known) (old new : PreparedList) (start next : View) (refusal : Option Refusal) : Type 0 where
  pub refusal_is : refusal ≡ t.refusal
  pub made : MakesEntries start next t.entries
  pub after : BatchesAfter layer bodies t.indexes old new start next refusal

-- a batch of a layer took these bodies, or did not, just as on a table with this scene and this room
abbrev pub TakesAlone : ℕ → List Known → PreparedList → PreparedList → View → View → Option Refusal → Type 0
TakesAlone layer bodies old new start next refusal =
    (table : Table) → TellsRoom table start → Takes (taking table layer bodies) layer bodies old new start next refusal

-- ---- adding bodies

-- the room that is taken by a batch that was attached at once, and its bodies; nothing where it was refused
abbrev pub RoomAfter : ℕ → List Known → List ℕ → View → View → Option Refusal → Type 0
RoomAfter layer bodies indexes start next None = TakesRoom layer (need (length bodies)) start next × (indexes ≡ map (λ known. known.id.index) bodies)
RoomAfter layer bodies indexes start next (Some refusal) = HasSameRoom start next

-- this taking was made, and the batch was attached
pub record Adds (t : Taking) (layer : ℕ) (bodies : List Known) (start next : View) (refusal : Option Refusal) : Type 0 where
  pub refusal_is : refusal ≡ t.refusal
  pub made : (table : Table) → MakesEntries start next (join_taken table layer (need (length bodies)) t.indexes t.entries t.refusal).entries
  pub after : RoomAfter layer bodies t.indexes start next refusal

-- bodies of a layer were added, or were not, just as on a table with this scene and this room
abbrev pub AddsAlone : ℕ → List Known → View → View → Option Refusal → Type 0
AddsAlone layer bodies start next refusal = (table : Table) → TellsRoom table start → Adds (taking table layer bodies) layer bodies start next refusal

-- the list after a batch was asked for
abbrev pub ListAfter : PreparedList → PreparedList → Option Refusal → Type 0
ListAfter old new None = (batch : Prepared) × (batches_of new ≡ batches_of old ++ batch ∷ [])
ListAfter old new (Some refusal) = batches_of new ≡ batches_of old
