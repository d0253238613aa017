-- How a batch takes the bodies that it is to add.
use Rattle.std.specs.Prelude.{ℕ, ◌-◌, ◌==◌, nat_le, nat_lt, if◌then◌else◌, List, [], ◌∷◌, ◌++◌, length, map, Option, Some, None}
use Rattle.body_ident.specs.Id.{Id}
use Rattle.scene_model.specs.declared.body_view.BodyView.{BodyView}
use Rattle.scene_model.specs.declared.body_view.Phase.{Phase}
use Rattle.scene_model.specs.declared.body_view.Phase.TheVariants.{Out, Held, In}
use Rattle.scene_model.specs.declared.entry.Entry.{Entry}
use Rattle.scene_model.specs.declared.entry.Entry.TheVariants as entries
use Rattle.scene_model.specs.Need.{need}
use Rattle.scene_model.specs.Scene.{Scene}
use Rattle.scene_model.specs.Step.{after_entry}
use Rattle.reply_text.specs.declared.refusal.Refusal.{Refusal}
use Rattle.reply_text.specs.declared.refusal.Refusal.TheVariants as refusals
use Rattle.script_player.specs.declared.books.Known.{Known}
use Rattle.script_player.specs.Books.{slots_kept, nodes_kept}
use Rattle.script_player.specs.Table.{Table}
use Rattle.script_player.specs.Body.{body_of}

-- why there can be no batch of so many bodies in a layer: it has no bodies, no slot or too few nodes
abbrev pub room_refusal : Table → ℕ → ℕ → Option Refusal
room_refusal table layer count =
    if count == 0 then Some refusals.Empty
    else (if nat_le table.world.slots (slots_kept table.books layer) then Some refusals.NoSlot
    else (if nat_lt (table.world.nodes - nodes_kept table.books) (need count) then Some refusals.NoNodes else None))

-- why a batch of a layer cannot take a body: it has this phase, it has this layer, or it is gone
abbrev pub phase_refusal : Phase → ℕ → ℕ → Option Refusal
phase_refusal Held own asked = Some refusals.Held
phase_refusal In own asked = Some refusals.AlreadyIn
phase_refusal Out own asked = if own == asked then None else Some refusals.WrongLayer

abbrev pub view_refusal : ℕ → Option BodyView → Option Refusal
view_refusal layer None = Some refusals.Gone
view_refusal layer (Some v) = phase_refusal v.phase v.layer layer

abbrev pub mark_refusal : Scene → ℕ → Id → Option Refusal
mark_refusal scene layer i = view_refusal layer (body_of scene i)

-- the indexes of the bodies that are marked, and why the next one is refused
pub record Marking : Type 0 where
  pub indexes : List ℕ
  pub refusal : Option Refusal

abbrev pub marking_on : ℕ → Option Refusal → Marking → Marking
marking_on index None later = record { indexes = index ∷ later.indexes; refusal = later.refusal }
marking_on index (Some refusal) later = record { indexes = []; refusal = Some refusal }

-- bodies are marked one after another, each in the scene after the marks before it, up to the first that is refused
abbrev pub marking : Scene → ℕ → List Known → Marking
marking scene layer [] = record { indexes = []; refusal = None }
marking scene layer (known ∷ bodies) =
    marking_on known.id.index (mark_refusal scene layer known.id) (marking (after_entry scene (entries.Mark known.id.index)) layer bodies)

-- an entry for each of these indexes
abbrev pub marks : List ℕ → List Entry
marks indexes = map (λ index. entries.Mark index) indexes

abbrev pub unmarks : List ℕ → List Entry
unmarks indexes = map (λ index. entries.Unmark index) indexes

-- the entries that taking bodies makes, why it is refused, and the indexes that are held where it is not
pub record Taking : Type 0 where
  pub entries : List Entry
  pub refusal : Option Refusal
  pub indexes : List ℕ

-- where a body is refused, those before it are let go
abbrev pub marked : List ℕ → Option Refusal → Taking
marked indexes None = record { entries = marks indexes; refusal = None; indexes = indexes }
marked indexes (Some refusal) = record { entries = marks indexes ++ unmarks indexes; refusal = Some refusal; indexes = [] }

-- where there is no room, no body is marked
abbrev pub taking_in : Option Refusal → Marking → Taking
taking_in None m = marked m.indexes m.refusal
taking_in (Some refusal) m = record { entries = []; refusal = Some refusal; indexes = [] }

-- a batch of a layer takes bodies
abbrev pub taking : Table → ℕ → List Known → Taking
taking table layer bodies = taking_in (room_refusal table layer (length bodies)) (marking table.scene layer bodies)
