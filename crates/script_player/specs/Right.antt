-- When the answer to a command is right for its span, and its entries are those that it asks for. What batches keep is told
-- as the command sees it, and a cause by what shows that it was so at a point of the span.
use Rattle.std.specs.Prelude.{◌≡◌, ℕ, ◌+◌, ◌<◌, ◌≤◌, Bool, true, false, List, [], ◌∷◌, ◌++◌, length, map, take, Option, Some, None, slice_get}
use Rattle.std.specs.List.{range_with_len}
use Rattle.word_map.specs.declared.config.Config.{Config}
use Rattle.fixed_box.specs.declared.fix_box.FixBox.{FixBox}
use Rattle.fixed_box.specs.declared.shape.Shape.{Shape}
use Rattle.fixed_box.specs.declared.shape.Shape.TheVariants as shapes
use Rattle.fixed_box.specs.Touch.{Touch}
use Rattle.body_ident.specs.Id.{Id, id_of}
use Rattle.scene_model.specs.declared.entry.Entry.{Entry}
use Rattle.scene_model.specs.declared.entry.Entry.TheVariants as entries
use Rattle.scene_model.specs.Need.{need}
use Rattle.scene_model.specs.History.{Interval, AtSomePoint, IsRightAnswer, creations_in}
use Rattle.scene_model.specs.Cause.{Cause, full, gone, in_use, not_in, held, already_in, wrong_layer, IsCause}
use Rattle.script_text.specs.declared.command.Command.{Command}
use Rattle.script_text.specs.declared.command.Command.TheVariants as commands
use Rattle.reply_text.specs.declared.refusal.Refusal.{Refusal}
use Rattle.reply_text.specs.declared.refusal.Refusal.TheVariants as refusals
use Rattle.reply_text.specs.declared.reply.Reply.{Reply}
use Rattle.reply_text.specs.declared.reply.Reply.TheVariants as replies
use Rattle.script_player.specs.declared.books.Known.{Known}
use Rattle.script_player.specs.Taking.{marks, unmarks}
use Rattle.script_player.specs.Batches.{in_layer}
use Rattle.script_player.specs.Exchange.{Exchange, all_known_by, id_of_name, ids_of_names}
use Rattle.script_player.specs.Prepared.{Prepared, Kept, kept_with}
use Rattle.script_player.specs.Refused.{AnswersRead, AnswersMulti}
use Rattle.script_player.specs.Done.{joined_each, prepared_named}

-- ---- tables: which refusals a command may give, and their causes

-- of a change of one body
abbrev pub may_refuse : Command → Refusal → Bool
may_refuse (commands.Destroy name) refusals.Gone = true
may_refuse (commands.Destroy name) refusals.InUse = true
may_refuse (commands.Remove name) refusals.Gone = true
may_refuse (commands.Remove name) refusals.NotIn = true
may_refuse (commands.Remove name) refusals.Held = true
may_refuse (commands.Move name bounds) refusals.Gone = true
may_refuse (commands.Move name bounds) refusals.Held = true
may_refuse (commands.User name user) refusals.Gone = true
may_refuse command refusal = false

abbrev pub change_cause : Refusal → Id → Option Cause
change_cause refusals.Gone i = Some (gone i)
change_cause refusals.InUse i = Some (in_use i)
change_cause refusals.NotIn i = Some (not_in i)
change_cause refusals.Held i = Some (held i)
change_cause refusal i = None

-- of a body that a batch of a layer is to hold
abbrev pub hold_cause : Refusal → Id → ℕ → Option Cause
hold_cause refusals.Gone i layer = Some (gone i)
hold_cause refusals.Held i layer = Some (held i)
hold_cause refusals.AlreadyIn i layer = Some (already_in i)
hold_cause refusals.WrongLayer i layer = Some (wrong_layer i layer)
hold_cause refusal i layer = None

-- there is such a cause, and it is shown
abbrev pub IsShown : (Cause → Type 0) → Option Cause → Type 0
IsShown Shows None = ⊥
IsShown Shows (Some cause) = Shows cause

-- ---- one body

abbrev pub IsChanged : (Cause → Type 0) → Command → (ℕ → Entry) → Id → Reply → List Entry → Type 0
IsChanged Shows command entry i replies.Done made = made ≡ entry i.index ∷ []
IsChanged Shows command entry i (replies.Refused refusal) made =
    (may_refuse command refusal ≡ true) × IsShown Shows (change_cause refusal i) × (made ≡ [])
IsChanged Shows command entry i reply made = ⊥

abbrev pub IsChangedOf : (Cause → Type 0) → Command → (ℕ → Entry) → Option Id → Reply → List Entry → Type 0
IsChangedOf Shows command entry None reply made = (reply ≡ replies.Refused refusals.NoId) × (made ≡ [])
IsChangedOf Shows command entry (Some i) reply made = IsChanged Shows command entry i reply made

-- the id of a create is that of its own entry: its index, and how many bodies were created there by then
pub record IsOwn (pass : ℕ) (interval : Interval) (layer : ℕ) (bounds : FixBox) (user : ℕ) (i : Id) (made : List Entry) : Type 0 where
  pub index : ℕ
  pub entry : made ≡ entries.Create index layer bounds user ∷ []
  pub place : ℕ
  pub first : interval.from ≤ place
  pub last : place < interval.to
  pub stands : slice_get interval.history place ≡ Some (record { pass = pass; entry = entries.Create index layer bounds user })
  pub id : i ≡ id_of index (creations_in index (take (place + 1) interval.history))

abbrev pub IsCreatedIn : (Cause → Type 0) → ℕ → Interval → ℕ → FixBox → ℕ → Reply → List Entry → Type 0
IsCreatedIn Shows pass interval layer bounds user (replies.Id i) made = IsOwn pass interval layer bounds user i made
IsCreatedIn Shows pass interval layer bounds user (replies.Refused refusal) made = (refusal ≡ refusals.Full) × Shows full × (made ≡ [])
IsCreatedIn Shows pass interval layer bounds user reply made = ⊥

-- ---- queries

pub record IsFound (bodies : ℕ) (interval : Interval) (mask : ℕ) (shape : Shape) (reply : Reply) (made : List Entry) : Type 0 where
  pub ids : List Id
  pub listed : reply ≡ replies.Hits ids
  pub right : IsRightAnswer (Touch shape) mask bodies interval ids
  pub none : made ≡ []

-- ---- batches

-- bodies are held one after another up to one that is refused, and then they are let go
pub record IsHeldUpTo (Shows : Cause → Type 0) (layer : ℕ) (bodies : List Known) (refusal : Refusal) (made : List Entry) : Type 0 where
  pub before : List Known
  pub stopped : Known
  pub rest : List Known
  pub parts : bodies ≡ before ++ stopped ∷ rest
  pub undone : let indexes = map (λ known. known.id.index) before in made ≡ marks indexes ++ unmarks indexes
  pub cause : IsShown Shows (hold_cause refusal stopped.id layer)

-- a batch of a layer is refused: there are no bodies, no slot or too few nodes, or a body cannot be held
abbrev pub IsRefusedRoom : Config → Kept → (Cause → Type 0) → ℕ → List Known → Refusal → List Entry → Type 0
IsRefusedRoom world kept Shows layer bodies refusals.Empty made = (bodies ≡ []) × (made ≡ [])
IsRefusedRoom world kept Shows layer bodies refusals.NoSlot made = (world.slots ≤ kept.slots) × (made ≡ [])
IsRefusedRoom world kept Shows layer bodies refusals.NoNodes made = (world.nodes < kept.nodes + need (length bodies)) × (made ≡ [])
IsRefusedRoom world kept Shows layer bodies refusal made = IsHeldUpTo Shows layer bodies refusal made

abbrev pub IsRefusedPrepare : Config → Kept → (Cause → Type 0) → ℕ → List Known → Refusal → List Entry → Type 0
IsRefusedPrepare world kept Shows layer bodies refusals.Batch made = (kept.named ≡ true) × (made ≡ [])
IsRefusedPrepare world kept Shows layer bodies refusal made = IsRefusedRoom world kept Shows layer bodies refusal made

abbrev pub IsPreparedIn : Config → Kept → (Cause → Type 0) → ℕ → List Known → Reply → List Entry → Type 0
IsPreparedIn world kept Shows layer bodies replies.Done made = made ≡ marks (map (λ known. known.id.index) bodies)
IsPreparedIn world kept Shows layer bodies (replies.Refused refusal) made = IsRefusedPrepare world kept Shows layer bodies refusal made
IsPreparedIn world kept Shows layer bodies reply made = ⊥

abbrev pub IsPreparedOf : Config → Kept → (Cause → Type 0) → ℕ → Option (List Known) → Reply → List Entry → Type 0
IsPreparedOf world kept Shows layer None reply made = (reply ≡ replies.Refused refusals.NoId) × (made ≡ [])
IsPreparedOf world kept Shows layer (Some bodies) reply made = IsPreparedIn world kept Shows layer bodies reply made

-- layers come in one after another up to one that is refused; what came in above it keeps its slots and nodes too
pub record IsAddedUpTo (world : Config) (kept : ℕ → Kept) (Shows : Cause → Type 0) (bodies : List Known) (layers : List ℕ) (refusal : Refusal) (made : List Entry) : Type 0 where
  pub before : List ℕ
  pub layer : ℕ
  pub rest : List ℕ
  pub parts : layers ≡ before ++ layer ∷ rest
  pub undone : List Entry
  pub entries : made ≡ joined_each bodies before ++ undone
  pub refused : IsRefusedRoom world (kept_with (kept layer) layer (joined_each bodies before)) Shows layer (in_layer layer bodies) refusal undone

abbrev pub IsAddedIn : Config → (ℕ → Kept) → (Cause → Type 0) → List Known → Reply → List Entry → Type 0
IsAddedIn world kept Shows bodies replies.Done made = made ≡ joined_each bodies (range_with_len 0 world.layers)
IsAddedIn world kept Shows bodies (replies.Refused refusal) made = IsAddedUpTo world kept Shows bodies (range_with_len 0 world.layers) refusal made
IsAddedIn world kept Shows bodies reply made = ⊥

abbrev pub IsAddedOf : Config → (ℕ → Kept) → (Cause → Type 0) → Option (List Known) → Reply → List Entry → Type 0
IsAddedOf world kept Shows None reply made = (reply ≡ replies.Refused refusals.NoId) × (made ≡ [])
IsAddedOf world kept Shows (Some bodies) reply made = IsAddedIn world kept Shows bodies reply made

-- a batch is spent that is prepared
abbrev pub IsSpent : Bool → Option Prepared → (Prepared → List Entry) → Reply → List Entry → Type 0
IsSpent named None entries reply made = (named ≡ false) × (reply ≡ replies.Refused refusals.NoBatch) × (made ≡ [])
IsSpent named (Some p) entries reply made = (reply ≡ replies.Done) × (made ≡ entries p)

-- ---- every command

-- a command of a pass, below these exchanges, where batches keep so much of a name and a layer
abbrev pub IsRightFor : Config → (List ℕ → ℕ → Kept) → ℕ → Interval → List Exchange → Command → Reply → List Entry → Type 0
IsRightFor world kept pass interval above (commands.Create name layer bounds user) reply made =
    IsCreatedIn (IsCause world.bodies interval) pass interval layer bounds user reply made
IsRightFor world kept pass interval above (commands.Destroy name) reply made =
    IsChangedOf (IsCause world.bodies interval) (commands.Destroy name) (λ index. entries.Destroy index) (id_of_name above name) reply made
IsRightFor world kept pass interval above (commands.Remove name) reply made =
    IsChangedOf (IsCause world.bodies interval) (commands.Remove name) (λ index. entries.Remove index) (id_of_name above name) reply made
IsRightFor world kept pass interval above (commands.Move name bounds) reply made =
    IsChangedOf (IsCause world.bodies interval) (commands.Move name bounds) (λ index. entries.Move index bounds) (id_of_name above name) reply made
IsRightFor world kept pass interval above (commands.User name user) reply made =
    IsChangedOf (IsCause world.bodies interval) (commands.User name user) (λ index. entries.SetUser index user) (id_of_name above name) reply made
IsRightFor world kept pass interval above (commands.Add names) reply made =
    IsAddedOf world (kept []) (IsCause world.bodies interval) (all_known_by above names) reply made
IsRightFor world kept pass interval above (commands.Prepare batch layer names) reply made =
    IsPreparedOf world (kept batch layer) (IsCause world.bodies interval) layer (all_known_by above names) reply made
IsRightFor world kept pass interval above (commands.Finalize batch) reply made =
    IsSpent (kept batch 0).named (prepared_named above batch) (λ p. entries.Join p.layer p.indexes ∷ []) reply made
IsRightFor world kept pass interval above (commands.Abort batch) reply made =
    IsSpent (kept batch 0).named (prepared_named above batch) (λ p. unmarks p.indexes) reply made
IsRightFor world kept pass interval above (commands.Read name) reply made =
    AtSomePoint world.bodies interval (λ scene. AnswersRead scene (id_of_name above name) reply) × (made ≡ [])
IsRightFor world kept pass interval above (commands.Multi names) reply made =
    AtSomePoint world.bodies interval (λ scene. AnswersMulti scene (ids_of_names above names) reply) × (made ≡ [])
IsRightFor world kept pass interval above (commands.QueryBox mask bounds) reply made =
    IsFound world.bodies interval mask (shapes.Box bounds) reply made
IsRightFor world kept pass interval above (commands.QueryPoint mask at) reply made =
    IsFound world.bodies interval mask (shapes.Point at) reply made
IsRightFor world kept pass interval above (commands.QueryRay mask segment) reply made =
    IsFound world.bodies interval mask (shapes.Segment segment) reply made
