-- Why a command is refused, told by the scene where it stands. Refusals are looked for in the order in which they are
-- written here.
use Rattle.std.specs.Prelude.{◌==◌, ◌++◌, map, filter, fold, ◌≡◌, ◌⊎◌, ℕ, ◌+◌, ◌<◌, ◌≤◌, Bool, true, false, List, [], ◌∷◌, length, Option, Some, None}
use Rattle.std.specs.List.{range_with_len}
use Rattle.word_map.specs.declared.config.Config.{Config}
use Rattle.body_ident.specs.Id.{Id}
use Rattle.scene_model.specs.declared.body_view.BodyView.{BodyView}
use Rattle.scene_model.specs.declared.entry.Entry.{Entry}
use Rattle.scene_model.specs.declared.entry.Entry.TheVariants as entries
use Rattle.scene_model.specs.Need.{need}
use Rattle.scene_model.specs.Scene.{Scene}
use Rattle.scene_model.specs.Step.{after_entry}
use Rattle.scene_model.specs.Query.{view_of}
use Rattle.scene_model.specs.Cause.{HasIdBody, IsCauseAt, full, gone, in_use, not_in, held, already_in, wrong_layer}
use Rattle.script_text.specs.declared.command.Command.{Command}
use Rattle.script_text.specs.declared.command.Command.TheVariants as commands
use Rattle.reply_text.specs.declared.multi.MultiItem.{MultiItem}
use Rattle.reply_text.specs.declared.multi.MultiItem.TheVariants as items
use Rattle.reply_text.specs.declared.refusal.Refusal.{Refusal}
use Rattle.reply_text.specs.declared.refusal.Refusal.TheVariants as refusals
use Rattle.reply_text.specs.declared.reply.Reply.{Reply}
use Rattle.reply_text.specs.declared.reply.Reply.TheVariants as replies
use Rattle.script_player.specs.declared.books.Known.{Known}
use Rattle.script_player.specs.Exchange.{Exchange, all_known_by, id_of_name, ids_of_names}
use Rattle.script_player.specs.Prepared.{Kept, kept_with}
use Rattle.script_player.specs.Taking.{marks}

-- a reply that carries a command out, or refuses it
abbrev pub IsDoneOr : Option Refusal → Reply → Type 0
IsDoneOr None reply = reply ≡ replies.Done
IsDoneOr (Some refusal) reply = reply ≡ replies.Refused refusal

-- where this is a cause the answer is its refusal; where it is none, this holds of the answer
abbrev pub OrElse : Type 0 → Refusal → Option Refusal → Type 0 → Type 0
OrElse C refusal answer Later = (C × (answer ≡ Some refusal)) ⊎ (¬ C × Later)

-- ---- commands on the body of one name

abbrev pub LooksAt : Scene → Id → Command → Option Refusal → Type 0
LooksAt scene i (commands.Destroy name) answer =
    OrElse (IsCauseAt (gone i) scene) refusals.Gone answer (OrElse (IsCauseAt (in_use i) scene) refusals.InUse answer (answer ≡ None))
LooksAt scene i (commands.Remove name) answer =
    OrElse (IsCauseAt (gone i) scene) refusals.Gone answer
    (OrElse (IsCauseAt (not_in i) scene) refusals.NotIn answer (OrElse (IsCauseAt (held i) scene) refusals.Held answer (answer ≡ None)))
LooksAt scene i (commands.Move name bounds) answer =
    OrElse (IsCauseAt (gone i) scene) refusals.Gone answer (OrElse (IsCauseAt (held i) scene) refusals.Held answer (answer ≡ None))
LooksAt scene i (commands.User name user) answer = OrElse (IsCauseAt (gone i) scene) refusals.Gone answer (answer ≡ None)
LooksAt scene i command answer = Unit {0}

-- the answer to such a command, where its name stands for an id, and where it stands for none
pub record IsLookedAt (scene : Scene) (i : Id) (command : Command) (reply : Reply) : Type 0 where
  pub answer : Option Refusal
  pub replied : IsDoneOr answer reply
  pub first : LooksAt scene i command answer

abbrev pub AnswersById : Scene → Option Id → Command → Reply → Type 0
AnswersById scene None command reply = reply ≡ replies.Refused refusals.NoId
AnswersById scene (Some i) command reply = IsLookedAt scene i command reply

-- ---- reads

-- the body that an id names is told as it is, or it is gone
abbrev pub IsTold : Scene → Id → Option BodyView → Type 0
IsTold scene i None = IsCauseAt (gone i) scene
IsTold scene i (Some v) = HasIdBody scene i (λ r. view_of i.index r ≡ v)

abbrev pub TellsBody : Scene → Id → Reply → Type 0
TellsBody scene i replies.Gone = IsTold scene i None
TellsBody scene i (replies.Body v) = IsTold scene i (Some v)
TellsBody scene i reply = ⊥

abbrev pub AnswersRead : Scene → Option Id → Reply → Type 0
AnswersRead scene None reply = reply ≡ replies.Refused refusals.NoId
AnswersRead scene (Some i) reply = TellsBody scene i reply

-- of one of several bodies its id and its user number are told, or that it is gone
abbrev pub TellsItem : Scene → Id → MultiItem → Type 0
TellsItem scene i items.Gone = IsCauseAt (gone i) scene
TellsItem scene i (items.User own user) = HasIdBody scene i (λ r. ((view_of i.index r).id ≡ own) × (r.user ≡ user))

abbrev pub TellsItems : Scene → List Id → List MultiItem → Type 0
TellsItems scene [] [] = Unit {0}
TellsItems scene (i ∷ ids) (item ∷ list) = TellsItem scene i item × TellsItems scene ids list
TellsItems scene ids list = ⊥

abbrev pub TellsAll : Scene → List Id → Reply → Type 0
TellsAll scene ids (replies.Multi list) = TellsItems scene ids list
TellsAll scene ids reply = ⊥

abbrev pub AnswersMulti : Scene → Option (List Id) → Reply → Type 0
AnswersMulti scene None reply = reply ≡ replies.Refused refusals.NoId
AnswersMulti scene (Some ids) reply = TellsAll scene ids reply

-- ---- creates

pub record IsMadeOrFull (scene : Scene) (reply : Reply) : Type 0 where
  pub full_first : (IsCauseAt full scene × (reply ≡ replies.Refused refusals.Full)) ⊎ (¬ IsCauseAt full scene × ((i : Id) × (reply ≡ replies.Id i)))

-- ---- batches

-- why a body cannot be held for a layer
abbrev pub LooksToHold : Scene → ℕ → Id → Option Refusal → Type 0
LooksToHold scene layer i answer =
    OrElse (IsCauseAt (gone i) scene) refusals.Gone answer
    (OrElse (IsCauseAt (held i) scene) refusals.Held answer
    (OrElse (IsCauseAt (already_in i) scene) refusals.AlreadyIn answer
    (OrElse (IsCauseAt (wrong_layer i layer) scene) refusals.WrongLayer answer (answer ≡ None))))

-- bodies are held one after another, each in the scene where those before it are held; the first that cannot be decides
abbrev pub LooksToHoldEach : Scene → ℕ → List Id → Option Refusal → Type 0
LooksToHoldEach scene layer [] answer = answer ≡ None
LooksToHoldEach scene layer (i ∷ later) answer =
    (LooksToHold scene layer i None × LooksToHoldEach (after_entry scene (entries.Mark i.index)) layer later answer)
    ⊎ ((refusal : Refusal) × LooksToHold scene layer i (Some refusal) × (answer ≡ Some refusal))

-- a batch has bodies, a slot that is left in its layer, and enough nodes; and each body can be held
abbrev pub LooksForRoom : Config → Kept → Scene → ℕ → List Id → Option Refusal → Type 0
LooksForRoom world kept scene layer ids answer =
    OrElse (length ids ≡ 0) refusals.Empty answer
    (OrElse (world.slots ≤ kept.slots) refusals.NoSlot answer
    (OrElse (world.nodes < kept.nodes + need (length ids)) refusals.NoNodes answer (LooksToHoldEach scene layer ids answer)))

-- a prepare looks first whether its name is taken
pub record IsPrepared (world : Config) (kept : Kept) (scene : Scene) (layer : ℕ) (ids : List Id) (reply : Reply) : Type 0 where
  pub answer : Option Refusal
  pub replied : IsDoneOr answer reply
  pub first : OrElse (kept.named ≡ true) refusals.Batch answer (LooksForRoom world kept scene layer ids answer)

abbrev pub AnswersPrepare : Config → Kept → Scene → ℕ → Option (List Id) → Reply → Type 0
AnswersPrepare world kept scene layer None reply = reply ≡ replies.Refused refusals.NoId
AnswersPrepare world kept scene layer (Some ids) reply = IsPrepared world kept scene layer ids reply

-- a prepared batch is brought in or given up
abbrev pub AnswersBatch : Bool → Reply → Type 0
AnswersBatch true reply = reply ≡ replies.Done
AnswersBatch false reply = reply ≡ replies.Refused refusals.NoBatch

-- ---- adds

-- the entries of a batch that takes bodies and joins
abbrev pub joined : ℕ → List Known → List Entry
joined layer bodies = marks (map (λ known. known.id.index) bodies) ++ entries.Join layer (map (λ known. known.id.index) bodies) ∷ []

-- of a layer its bodies are brought in, where there are any and nothing refuses them; then the other layers are
-- looked at, after the entries so far
abbrev pub LooksAtLayer : Config → (ℕ → Kept) → Scene → ℕ → List Known → (List Entry → Option Refusal → Type 0) → List Entry → Option Refusal → Type 0
LooksAtLayer world kept scene layer [] Later made answer = Later made answer
LooksAtLayer world kept scene layer (known ∷ bodies) Later made answer =
    let Looks : Option Refusal → Type 0 =
    LooksForRoom world (kept_with (kept layer) layer made) (fold after_entry scene made) layer (map (λ known. known.id) (known ∷ bodies)) in
    (Looks None × Later (made ++ joined layer (known ∷ bodies)) answer) ⊎ ((refusal : Refusal) × Looks (Some refusal) × (answer ≡ Some refusal))

abbrev pub LooksAtLayers : Config → (ℕ → Kept) → Scene → List Known → List ℕ → List Entry → Option Refusal → Type 0
LooksAtLayers world kept scene bodies [] made answer = answer ≡ None
LooksAtLayers world kept scene bodies (layer ∷ layers) made answer =
    LooksAtLayer world kept scene layer (filter (λ known. known.layer == layer) bodies) (LooksAtLayers world kept scene bodies layers) made answer

-- bodies are added in the layers of the world, from the first on, each in the layer that it was created in
pub record IsAdded (world : Config) (kept : ℕ → Kept) (scene : Scene) (bodies : List Known) (reply : Reply) : Type 0 where
  pub answer : Option Refusal
  pub replied : IsDoneOr answer reply
  pub first : LooksAtLayers world kept scene bodies (range_with_len 0 world.layers) [] answer

abbrev pub AnswersAdd : Config → (ℕ → Kept) → Scene → Option (List Known) → Reply → Type 0
AnswersAdd world kept scene None reply = reply ≡ replies.Refused refusals.NoId
AnswersAdd world kept scene (Some bodies) reply = IsAdded world kept scene bodies reply

-- ---- every command, below these exchanges; of a name and a layer this is what batches keep

abbrev pub IsAnsweredFirst : Config → (List ℕ → ℕ → Kept) → Scene → List Exchange → Command → Reply → Type 0
IsAnsweredFirst world kept scene above (commands.Create name layer bounds user) reply = IsMadeOrFull scene reply
IsAnsweredFirst world kept scene above (commands.Destroy name) reply = AnswersById scene (id_of_name above name) (commands.Destroy name) reply
IsAnsweredFirst world kept scene above (commands.Add names) reply = AnswersAdd world (kept []) scene (all_known_by above names) reply
IsAnsweredFirst world kept scene above (commands.Prepare batch layer names) reply = AnswersPrepare world (kept batch layer) scene layer (ids_of_names above names) reply
IsAnsweredFirst world kept scene above (commands.Finalize batch) reply = AnswersBatch (kept batch 0).named reply
IsAnsweredFirst world kept scene above (commands.Abort batch) reply = AnswersBatch (kept batch 0).named reply
IsAnsweredFirst world kept scene above (commands.Remove name) reply = AnswersById scene (id_of_name above name) (commands.Remove name) reply
IsAnsweredFirst world kept scene above (commands.Move name bounds) reply = AnswersById scene (id_of_name above name) (commands.Move name bounds) reply
IsAnsweredFirst world kept scene above (commands.User name user) reply = AnswersById scene (id_of_name above name) (commands.User name user) reply
IsAnsweredFirst world kept scene above (commands.Read name) reply = AnswersRead scene (id_of_name above name) reply
IsAnsweredFirst world kept scene above (commands.Multi names) reply = AnswersMulti scene (ids_of_names above names) reply
IsAnsweredFirst world kept scene above command reply = Unit {0}
