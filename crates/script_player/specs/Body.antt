-- Commands on the body of one name, and what is read of bodies.
use Rattle.std.specs.Prelude.{ℕ, ◌==◌, if◌then◌else◌, List, [], ◌∷◌, map, Option, Some, None, option_and_then}
use Rattle.body_ident.specs.Id.{Id}
use Rattle.scene_model.specs.declared.body_view.BodyView.{BodyView}
use Rattle.scene_model.specs.declared.body_view.Phase.{Phase}
use Rattle.scene_model.specs.declared.body_view.Phase.TheVariants.{Out, Held, In}
use Rattle.scene_model.specs.declared.entry.Entry.{Entry}
use Rattle.scene_model.specs.declared.entry.Entry.TheVariants as entries
use Rattle.scene_model.specs.Scene.{Scene}
use Rattle.scene_model.specs.Query.{view_at}
use Rattle.reply_text.specs.declared.multi.MultiItem.{MultiItem}
use Rattle.reply_text.specs.declared.multi.MultiItem.TheVariants as items
use Rattle.reply_text.specs.declared.refusal.Refusal.{Refusal}
use Rattle.reply_text.specs.declared.refusal.Refusal.TheVariants as refusals
use Rattle.reply_text.specs.declared.reply.Reply.{Reply}
use Rattle.reply_text.specs.declared.reply.Reply.TheVariants as replies
use Rattle.script_player.specs.declared.books.Known.{Known}
use Rattle.script_player.specs.declared.bodies.Change.{Change}
use Rattle.script_player.specs.declared.bodies.Change.TheVariants as changes
use Rattle.script_player.specs.Books.{known_at, known_all}
use Rattle.script_player.specs.Table.{Table}
use Rattle.script_player.specs.Attempt.{Attempt, refused}

-- the view of the body that an id names: the body at its index, where its sequence number is that of the id
abbrev pub body_of : Scene → Id → Option BodyView
body_of scene i = option_and_then (λ v. if v.id.seq == i.seq then Some v else None) (view_at scene i.index)

-- why a body in a phase cannot be changed so
abbrev pub forbids : Change → Phase → Option Refusal
forbids changes.Destroy Out = None
forbids changes.Destroy Held = Some refusals.InUse
forbids changes.Destroy In = Some refusals.InUse
forbids changes.Remove Out = Some refusals.NotIn
forbids changes.Remove Held = Some refusals.Held
forbids changes.Remove In = None
forbids (changes.Move bounds) Out = None
forbids (changes.Move bounds) Held = Some refusals.Held
forbids (changes.Move bounds) In = None
forbids (changes.SetUser user) phase = None

-- the entry of a change of the body at an index
abbrev pub entry_of : Change → ℕ → Entry
entry_of changes.Destroy index = entries.Destroy index
entry_of changes.Remove index = entries.Remove index
entry_of (changes.Move bounds) index = entries.Move index bounds
entry_of (changes.SetUser user) index = entries.SetUser index user

-- a change that is made where nothing forbids it
abbrev pub make_change : Table → Entry → Option Refusal → Attempt
make_change table entry None = record { entries = entry ∷ []; refusal = None; books = table.books }
make_change table entry (Some refusal) = refused table refusal

-- a body that is gone cannot be changed
abbrev pub change_body : Table → Change → ℕ → Option BodyView → Attempt
change_body table change index None = refused table refusals.Gone
change_body table change index (Some v) = make_change table (entry_of change index) (forbids change v.phase)

-- nor can that of a name which stands for nothing
abbrev pub change_known : Table → Change → Option Known → Attempt
change_known table change None = refused table refusals.NoId
change_known table change (Some known) = change_body table change known.id.index (body_of table.scene known.id)

-- a change of the body of a name
abbrev pub change_named : Table → Change → List ℕ → Attempt
change_named table change name = change_known table change (known_at table.books name)

-- all that there is to know of a body
abbrev pub read_body : Option BodyView → Reply
read_body None = replies.Gone
read_body (Some v) = replies.Body v

abbrev pub read_known : Scene → Option Known → Reply
read_known scene None = replies.Refused refusals.NoId
read_known scene (Some known) = read_body (body_of scene known.id)

-- the body of a name is read
abbrev pub read_named : Table → List ℕ → Reply
read_named table name = read_known table.scene (known_at table.books name)

-- what is told of one of several bodies
abbrev pub item_of : Option BodyView → MultiItem
item_of None = items.Gone
item_of (Some v) = items.User v.id v.user

abbrev pub multi_known : Scene → Option (List Known) → Reply
multi_known scene None = replies.Refused refusals.NoId
multi_known scene (Some bodies) = replies.Multi (map (λ known. item_of (body_of scene known.id)) bodies)

-- the user numbers of the bodies of names
abbrev pub multi_named : Table → List (List ℕ) → Reply
multi_named table names = multi_known table.scene (known_all table.books names)
