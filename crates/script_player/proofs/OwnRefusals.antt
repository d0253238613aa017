-- The refusals that come from the script and the answers above alone, where main gives all commands.
use Rattle.std.proofs.Common.{◌≡◌, ℕ, eqb, true, false, cond, Bool, List, [], ◌∷◌, Option, Some, None, refl, ap, sym, subst, ◌∙◌, inl, inr}
use Rattle.std.specs.Prelude.{filter, not, if◌then◌else◌, map, is_some, option_map, option_and_then, ◌||◌}
use Rattle.fixed_box.specs.declared.fix_box.FixBox.{FixBox}
use Rattle.body_ident.specs.Id.{Id}
use Rattle.scene_model.specs.declared.entry.Entry.{Entry}
use Rattle.scene_model.specs.declared.entry.Entry.TheVariants as entries
use Rattle.scene_model.specs.Scene.{Scene}
use Rattle.scene_model.specs.History.{Interval}
use Rattle.scene_model.specs.Cause.{Cause, IsCause}
use Rattle.word_map.specs.declared.config.Config.{Config}
use Rattle.script_text.specs.declared.command.Command.{Command}
use Rattle.script_text.specs.declared.command.Command.TheVariants as commands
use Rattle.script_text.specs.declared.script.Script.{Script}
use Rattle.reply_text.specs.declared.refusal.Refusal.{Refusal}
use Rattle.reply_text.specs.declared.refusal.Refusal.TheVariants as refusals
use Rattle.reply_text.specs.declared.reply.Reply.{Reply}
use Rattle.reply_text.specs.declared.reply.Reply.TheVariants as replies
use Rattle.script_player.specs.declared.books.Known.{Known}
use Rattle.script_player.specs.Exchange.{all_known_by, known_by}
use Rattle.script_player.specs.Batches.{in_layer}
use Rattle.script_player.specs.Prepared.{Kept, kept_with}
use Rattle.script_player.specs.Done.{joined_each}
use Rattle.script_player.specs.Refused.{IsDoneOr, AnswersRead, AnswersMulti, AnswersPrepare, AnswersBatch, IsAnsweredFirst}
use Rattle.script_player.specs.Right.{IsChanged, IsChangedOf, IsCreatedIn, IsRefusedRoom, IsAddedOf, IsPreparedOf, IsRightFor}
use Rattle.script_player.specs.Line.{plan_of}
use Rattle.script_player.specs.Event.{Event, exchanges_told}
use Rattle.script_player.specs.Open.{has_name, batches_left, preparing_of, is_preparing, Preparing}
use Rattle.script_player.specs.Refusals.{own_of, own_of_refusal, own_refusal}

-- where names stand for ids, there is this refusal at most
abbrev where_known : {A : Type 0} → Option A → Option Refusal → Option Refusal
where_known o later = if is_some o then later else Some refusals.NoId

create_own : (Shows : Cause → Type 0) (pass layer user : ℕ) (interval : Interval) (bounds : FixBox) (reply : Reply) (made : List Entry)
    → IsCreatedIn Shows pass interval layer bounds user reply made → own_of reply ≡ None
create_own Shows pass layer user interval bounds (replies.Id i) made h = refl
create_own Shows pass layer user interval bounds (replies.Refused refusal) made h = ap own_of_refusal h.0
create_own Shows pass layer user interval bounds replies.Done made h = absurd h
create_own Shows pass layer user interval bounds replies.Gone made h = absurd h
create_own Shows pass layer user interval bounds (replies.Body view) made h = absurd h
create_own Shows pass layer user interval bounds (replies.Multi list) made h = absurd h
create_own Shows pass layer user interval bounds (replies.Hits ids) made h = absurd h

refused_own : (Shows : Cause → Type 0) (c : Command) (entry : ℕ → Entry) (i : Id) (refusal : Refusal) (made : List Entry)
    → IsChanged Shows c entry i (replies.Refused refusal) made → own_of_refusal refusal ≡ None
refused_own Shows c entry i refusals.NoId made h = absurd h.1
refused_own Shows c entry i refusals.Batch made h = absurd h.1
refused_own Shows c entry i refusals.NoBatch made h = absurd h.1
refused_own Shows c entry i refusal made h = refl

changed_own : (Shows : Cause → Type 0) (c : Command) (entry : ℕ → Entry) (i : Id) (reply : Reply) (made : List Entry)
    → IsChanged Shows c entry i reply made → own_of reply ≡ None
changed_own Shows c entry i replies.Done made h = refl
changed_own Shows c entry i (replies.Refused refusal) made h = refused_own Shows c entry i refusal made h
changed_own Shows c entry i (replies.Id j) made h = absurd h
changed_own Shows c entry i replies.Gone made h = absurd h
changed_own Shows c entry i (replies.Body view) made h = absurd h
changed_own Shows c entry i (replies.Multi list) made h = absurd h
changed_own Shows c entry i (replies.Hits ids) made h = absurd h

change_own : (Shows : Cause → Type 0) (c : Command) (entry : ℕ → Entry) (o : Option Known) (reply : Reply) (made : List Entry)
    → IsChangedOf Shows c entry (option_map (λ k. k.id) o) reply made
    → own_of reply ≡ where_known (option_and_then (λ known. option_map (λ others. known ∷ others) (Some [])) o) None
change_own Shows c entry None reply made h = ap own_of h.0
change_own Shows c entry (Some k) reply made h = changed_own Shows c entry k.id reply made h

read_own : (scene : Scene) (o : Option Known) (reply : Reply) → AnswersRead scene (option_map (λ k. k.id) o) reply
    → own_of reply ≡ where_known (option_and_then (λ known. option_map (λ others. known ∷ others) (Some [])) o) None
read_own scene None reply h = ap own_of h
read_own scene (Some k) replies.Gone h = refl
read_own scene (Some k) (replies.Body view) h = refl
read_own scene (Some k) replies.Done h = absurd h
read_own scene (Some k) (replies.Refused refusal) h = absurd h
read_own scene (Some k) (replies.Id j) h = absurd h
read_own scene (Some k) (replies.Multi list) h = absurd h
read_own scene (Some k) (replies.Hits ids) h = absurd h

multi_own : (scene : Scene) (o : Option (List Known)) (reply : Reply) → AnswersMulti scene (option_map (map (λ k. k.id)) o) reply
    → own_of reply ≡ where_known o None
multi_own scene None reply h = ap own_of h
multi_own scene (Some ks) (replies.Multi list) h = refl
multi_own scene (Some ks) replies.Gone h = absurd h
multi_own scene (Some ks) (replies.Body view) h = absurd h
multi_own scene (Some ks) replies.Done h = absurd h
multi_own scene (Some ks) (replies.Refused refusal) h = absurd h
multi_own scene (Some ks) (replies.Id j) h = absurd h
multi_own scene (Some ks) (replies.Hits ids) h = absurd h

room_own : (world : Config) (kept : Kept) (Shows : Cause → Type 0) (layer : ℕ) (bodies : List Known) (refusal : Refusal) (made : List Entry)
    → IsRefusedRoom world kept Shows layer bodies refusal made → own_of_refusal refusal ≡ None
room_own world kept Shows layer bodies refusals.NoId made h = absurd h.cause
room_own world kept Shows layer bodies refusals.Batch made h = absurd h.cause
room_own world kept Shows layer bodies refusals.NoBatch made h = absurd h.cause
room_own world kept Shows layer bodies refusal made h = refl

add_own : (world : Config) (kept : ℕ → Kept) (Shows : Cause → Type 0) (o : Option (List Known)) (reply : Reply) (made : List Entry)
    → IsAddedOf world kept Shows o reply made → own_of reply ≡ where_known o None
add_own world kept Shows None reply made h = ap own_of h.0
add_own world kept Shows (Some bodies) replies.Done made h = refl
add_own world kept Shows (Some bodies) (replies.Refused refusal) made h = room_own world (kept_with (kept h.layer) h.layer (joined_each bodies h.before)) Shows h.layer (in_layer h.layer bodies) refusal h.undone h.refused
add_own world kept Shows (Some bodies) replies.Gone made h = absurd h
add_own world kept Shows (Some bodies) (replies.Body view) made h = absurd h
add_own world kept Shows (Some bodies) (replies.Multi list) made h = absurd h
add_own world kept Shows (Some bodies) (replies.Id j) made h = absurd h
add_own world kept Shows (Some bodies) (replies.Hits ids) made h = absurd h

-- a prepare that finds its name free is not refused for it
free_refused : (world : Config) (kept : Kept) (Shows : Cause → Type 0) (layer : ℕ) (bodies : List Known) (refusal : Refusal) (made : List Entry) → ¬ (kept.named ≡ true)
    → IsPreparedOf world kept Shows layer (Some bodies) (replies.Refused refusal) made → own_of_refusal refusal ≡ None
free_refused world kept Shows layer bodies refusals.Batch made untaken h = absurd (untaken h.0)
free_refused world kept Shows layer bodies refusals.NoId made untaken h = absurd h.cause
free_refused world kept Shows layer bodies refusals.NoBatch made untaken h = absurd h.cause
free_refused world kept Shows layer bodies refusal made untaken h = refl

free_own : (world : Config) (kept : Kept) (Shows : Cause → Type 0) (layer : ℕ) (bodies : List Known) (reply : Reply) (made : List Entry) → ¬ (kept.named ≡ true)
    → IsPreparedOf world kept Shows layer (Some bodies) reply made → own_of reply ≡ None
free_own world kept Shows layer bodies replies.Done made untaken h = refl
free_own world kept Shows layer bodies (replies.Refused refusal) made untaken h = free_refused world kept Shows layer bodies refusal made untaken h
free_own world kept Shows layer bodies replies.Gone made untaken h = absurd h
free_own world kept Shows layer bodies (replies.Body view) made untaken h = absurd h
free_own world kept Shows layer bodies (replies.Multi list) made untaken h = absurd h
free_own world kept Shows layer bodies (replies.Id j) made untaken h = absurd h
free_own world kept Shows layer bodies (replies.Hits ids) made untaken h = absurd h

not_true : (b : Bool) → ¬ (b ≡ true) → b ≡ false
not_true true untaken = absurd (untaken refl)
not_true false untaken = refl

refused_by : (answer : Option Refusal) (refusal : Refusal) (reply : Reply) → answer ≡ Some refusal → IsDoneOr answer reply → reply ≡ replies.Refused refusal
refused_by answer refusal reply same h = subst (λ (a : Option Refusal). IsDoneOr a reply) same h

prepare_own : (world : Config) (kept : Kept) (scene : Scene) (Shows : Cause → Type 0) (layer : ℕ) (o : Option (List Known)) (reply : Reply) (made : List Entry)
    → IsPreparedOf world kept Shows layer o reply made → AnswersPrepare world kept scene layer (option_map (map (λ k. k.id)) o) reply
    → own_of reply ≡ where_known o (if kept.named then Some refusals.Batch else None)
prepare_own world kept scene Shows layer None reply made h first = ap own_of h.0
prepare_own world kept scene Shows layer (Some bodies) reply made h first =
    elim first.first [
      | inl taken ↦ ap own_of (refused_by first.answer refusals.Batch reply taken.1 first.replied) ∙ sym (ap (λ b. cond b (Some refusals.Batch) None) taken.0)
      | inr free ↦ free_own world kept Shows layer bodies reply made free.0 h ∙ sym (ap (λ b. cond b (Some refusals.Batch) None) (not_true kept.named free.0))
    ]

spent_own : (named : Bool) (reply : Reply) → AnswersBatch named reply → own_of reply ≡ (if named then None else Some refusals.NoBatch)
spent_own true reply h = ap own_of h
spent_own false reply h = ap own_of h

or_false : (b : Bool) → (b || false) ≡ b
or_false true = refl
or_false false = refl

taken_is : (name : List ℕ) (left : Bool) (list : List Preparing) → list ≡ [] → (left || is_preparing name (filter (λ p. not (eqb p.caller 0)) list)) ≡ left
taken_is name left list none = ap (λ (ps : List Preparing). left || is_preparing name (filter (λ p. not (eqb p.caller 0)) ps)) none ∙ or_false left

pub own_alone : (script : Script) (known : List Event) (kept : List ℕ → ℕ → Kept) (interval : Interval) (scene : Scene) (c : Command) (reply : Reply) (made : List Entry)
    → IsRightFor script.world kept 0 interval (exchanges_told known) c reply made
    → IsAnsweredFirst script.world kept scene (exchanges_told known) c reply
    → ((name : List ℕ) (layer : ℕ) → (kept name layer).named ≡ has_name name (batches_left known))
    → preparing_of known ≡ []
    → own_of reply ≡ own_refusal (plan_of script) 0 known c
own_alone script known kept interval scene (commands.Create name layer bounds user) reply made h first named none = create_own (IsCause script.world.bodies interval) 0 layer user interval bounds reply made h
own_alone script known kept interval scene (commands.Destroy name) reply made h first named none =
    change_own (IsCause script.world.bodies interval) (commands.Destroy name) (λ index. entries.Destroy index) (known_by (exchanges_told known) name) reply made h
own_alone script known kept interval scene (commands.Remove name) reply made h first named none =
    change_own (IsCause script.world.bodies interval) (commands.Remove name) (λ index. entries.Remove index) (known_by (exchanges_told known) name) reply made h
own_alone script known kept interval scene (commands.Move name bounds) reply made h first named none =
    change_own (IsCause script.world.bodies interval) (commands.Move name bounds) (λ index. entries.Move index bounds) (known_by (exchanges_told known) name) reply made h
own_alone script known kept interval scene (commands.User name user) reply made h first named none =
    change_own (IsCause script.world.bodies interval) (commands.User name user) (λ index. entries.SetUser index user) (known_by (exchanges_told known) name) reply made h
own_alone script known kept interval scene (commands.Add names) reply made h first named none = add_own script.world (kept []) (IsCause script.world.bodies interval) (all_known_by (exchanges_told known) names) reply made h
own_alone script known kept interval scene (commands.Prepare batch layer names) reply made h first named none =
    let o = all_known_by (exchanges_told known) names in
    prepare_own script.world (kept batch layer) scene (IsCause script.world.bodies interval) layer o reply made h first
    ∙ ap (λ (b : Bool). where_known o (cond b (Some refusals.Batch) None)) (named batch layer ∙ sym (taken_is batch (has_name batch (batches_left known)) (preparing_of known) none))
own_alone script known kept interval scene (commands.Finalize batch) reply made h first named none =
    spent_own (kept batch 0).named reply first ∙ ap (λ (b : Bool). cond b None (Some refusals.NoBatch)) (named batch 0)
own_alone script known kept interval scene (commands.Abort batch) reply made h first named none =
    spent_own (kept batch 0).named reply first ∙ ap (λ (b : Bool). cond b None (Some refusals.NoBatch)) (named batch 0)
own_alone script known kept interval scene (commands.Read name) reply made h first named none = read_own scene (known_by (exchanges_told known) name) reply first
own_alone script known kept interval scene (commands.Multi names) reply made h first named none = multi_own scene (all_known_by (exchanges_told known) names) reply first
own_alone script known kept interval scene (commands.QueryBox mask bounds) reply made h first named none = ap own_of h.listed
own_alone script known kept interval scene (commands.QueryPoint mask at) reply made h first named none = ap own_of h.listed
own_alone script known kept interval scene (commands.QueryRay mask segment) reply made h first named none = ap own_of h.listed
