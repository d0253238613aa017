-- The lines of replies.
use Rattle.std.specs.Prelude.{ℕ, List, [], ◌∷◌, ◌++◌, codes, decimal}
use Rattle.std.specs.List.{flat_map}
use Rattle.body_ident.specs.Id.{Id}
use Rattle.body_ident.specs.Text.{id_text}
use Rattle.scene_model.specs.declared.body_view.BodyView.{BodyView}
use Rattle.scene_model.specs.declared.body_view.Phase.{Phase}
use Rattle.scene_model.specs.declared.body_view.Phase.TheVariants as phases
use Rattle.script_text.specs.Command.{box_words}
use Rattle.script_text.specs.Printed.{spaced}
use Rattle.reply_text.specs.declared.multi.MultiItem.{MultiItem}
use Rattle.reply_text.specs.declared.multi.MultiItem.TheVariants as items
use Rattle.reply_text.specs.declared.refusal.Refusal.{Refusal}
use Rattle.reply_text.specs.declared.refusal.Refusal.TheVariants as refusals
use Rattle.reply_text.specs.declared.reply.Reply.{Reply}
use Rattle.reply_text.specs.declared.reply.Reply.TheVariants as replies

abbrev pub refusal_text : Refusal → List ℕ
refusal_text refusals.NoId = codes "noid"
refusal_text refusals.Batch = codes "batch"
refusal_text refusals.NoBatch = codes "nobatch"
refusal_text refusals.Full = codes "full"
refusal_text refusals.Gone = codes "gone"
refusal_text refusals.InUse = codes "inuse"
refusal_text refusals.Empty = codes "empty"
refusal_text refusals.NoSlot = codes "noslot"
refusal_text refusals.NoNodes = codes "nonodes"
refusal_text refusals.Held = codes "held"
refusal_text refusals.AlreadyIn = codes "alreadyin"
refusal_text refusals.WrongLayer = codes "wronglayer"
refusal_text refusals.NotIn = codes "notin"

abbrev pub phase_text : Phase → List ℕ
phase_text phases.Out = codes "out"
phase_text phases.Held = codes "held"
phase_text phases.In = codes "in"

-- what there is to know of a body
abbrev pub body_words : BodyView → List (List ℕ)
body_words v = id_text v.id ∷ decimal v.layer ∷ (box_words v.bounds ++ decimal v.user ∷ phase_text v.phase ∷ [])

-- an id with its user number, or that the body is gone
abbrev pub item_text : MultiItem → List ℕ
item_text (items.User i user) = id_text i ++ 61 ∷ decimal user
item_text items.Gone = codes "gone"

abbrev pub hits_text : List Id → List ℕ
hits_text [] = codes " -"
hits_text (i ∷ ids) = flat_map (λ i. 32 ∷ id_text i) (i ∷ ids)

-- a reply, and its line
abbrev pub reply_words : Reply → List ℕ
reply_words (replies.Id i) = codes "id " ++ id_text i
reply_words replies.Done = codes "ok"
reply_words (replies.Refused refusal) = codes "refused " ++ refusal_text refusal
reply_words (replies.Body view) = codes "body" ++ spaced (body_words view)
reply_words replies.Gone = codes "gone"
reply_words (replies.Multi list) = codes "multi" ++ flat_map (λ item. 32 ∷ item_text item) list
reply_words (replies.Hits ids) = codes "hits" ++ hits_text ids

abbrev pub reply_text : Reply → List ℕ
reply_text reply = reply_words reply ++ codes "\n"
