-- Changes of one body, creates, and batches that are spent: each answer is right, and makes what it says.
use Rattle.std.proofs.Common.{◌≡◌, ℕ, ◌+◌, true, List, [], ◌∷◌, ◌++◌, length, take, Bool, Option, Some, None, is_some, option_map, refl, ap, sym, subst, ◌∙◌, append_assoc, length-append, inl, inr, arith}
use Rattle.std.proofs.lemmas.Option.{slice_get-get_or}
use Rattle.std.proofs.Math.Seq.{take-append_seam, get_or-append_seam}
use Rattle.fixed_box.specs.declared.fix_box.FixBox.{FixBox}
use Rattle.body_ident.specs.Id.{Id, id_of}
use Rattle.scene_model.specs.declared.body_view.BodyView.{BodyView}
use Rattle.scene_model.specs.declared.body_view.Phase.{Phase}
use Rattle.scene_model.specs.declared.body_view.Phase.TheVariants.{Out, Held, In}
use Rattle.scene_model.specs.declared.entry.Entry.{Entry}
use Rattle.scene_model.specs.declared.entry.Entry.TheVariants as entries
use Rattle.scene_model.specs.declared.entry.Made.{Made}
use Rattle.scene_model.specs.Scene.{Scene}
use Rattle.scene_model.specs.History.{creations_in}
use Rattle.scene_model.specs.Cause.{Cause, IsCauseAt, full, gone, in_use, not_in, held}
use Rattle.reply_text.specs.declared.refusal.Refusal.TheVariants as refusals
use Rattle.reply_text.specs.declared.reply.Reply.{Reply}
use Rattle.reply_text.specs.declared.reply.Reply.TheVariants as replies
use Rattle.script_player.specs.declared.books.Known.{Known}
use Rattle.script_player.specs.declared.books.Batch.{Batch}
use Rattle.script_player.specs.declared.bodies.Change.{Change}
use Rattle.script_player.specs.declared.bodies.Change.TheVariants as changes
use Rattle.script_player.specs.Table.{Table}
use Rattle.script_player.specs.Attempt.{outcome}
use Rattle.script_player.specs.Body.{body_of, forbids, entry_of, make_change, change_body, change_known}
use Rattle.script_player.specs.Taking.{unmarks}
use Rattle.script_player.specs.Batches.{finalize_batch, abort_batch}
use Rattle.script_player.specs.Standing.{made_alone}
use Rattle.script_player.specs.Created.{IsCreated}
use Rattle.script_player.specs.Refused.{IsTold, IsMadeOrFull}
use Rattle.script_player.specs.Right.{may_refuse, IsChanged, IsChangedOf, IsOwn, IsCreatedIn, IsSpent}
use Rattle.script_player.proofs.Causes.{IsInPhase, told, told_phase, has_more}
use Rattle.script_player.proofs.PreparedBatches.{prepared_of}
use Rattle.script_player.proofs.Refusing.{command_of}

-- ---- changes

may_be_gone : (change : Change) (name : List ℕ) → may_refuse (command_of change name) refusals.Gone ≡ true
may_be_gone changes.Destroy name = refl
may_be_gone changes.Remove name = refl
may_be_gone (changes.Move bounds) name = refl
may_be_gone (changes.SetUser user) name = refl

phase_right : (table : Table) (i : Id) (change : Change) (name : List ℕ) (Shows : Cause → Type 0) (p : Phase) → ((c : Cause) → IsCauseAt c table.scene → Shows c) → IsInPhase table.scene i p
    → IsChanged Shows (command_of change name) (entry_of change) i (outcome (make_change table (entry_of change i.index) (forbids change p)).refusal)
    (make_change table (entry_of change i.index) (forbids change p)).entries
phase_right table i changes.Destroy name Shows Out shows h = refl
phase_right table i changes.Destroy name Shows Held shows h = (refl, shows (in_use i) (has_more table.scene i _ _ (λ r a. inl a) h), refl)
phase_right table i changes.Destroy name Shows In shows h = (refl, shows (in_use i) (has_more table.scene i _ _ (λ r a. inr a) h), refl)
phase_right table i changes.Remove name Shows Out shows h = (refl, shows (not_in i) h, refl)
phase_right table i changes.Remove name Shows Held shows h = (refl, shows (held i) h, refl)
phase_right table i changes.Remove name Shows In shows h = refl
phase_right table i (changes.Move bounds) name Shows Out shows h = refl
phase_right table i (changes.Move bounds) name Shows Held shows h = (refl, shows (held i) h, refl)
phase_right table i (changes.Move bounds) name Shows In shows h = refl
phase_right table i (changes.SetUser user) name Shows p shows h = refl

body_right : (table : Table) (i : Id) (change : Change) (name : List ℕ) (Shows : Cause → Type 0) (o : Option BodyView) → ((c : Cause) → IsCauseAt c table.scene → Shows c)
    → IsTold table.scene i o
    → IsChanged Shows (command_of change name) (entry_of change) i (outcome (change_body table change i.index o).refusal) (change_body table change i.index o).entries
body_right table i change name Shows None shows h = (may_be_gone change name, shows (gone i) h, refl)
body_right table i change name Shows (Some v) shows h = phase_right table i change name Shows v.phase shows (told_phase table.scene i v h)

pub change_right : (table : Table) (change : Change) (name : List ℕ) (Shows : Cause → Type 0) (o : Option Known) → ((c : Cause) → IsCauseAt c table.scene → Shows c)
    → IsChangedOf Shows (command_of change name) (entry_of change) (option_map (λ k. k.id) o) (outcome (change_known table change o).refusal) (change_known table change o).entries
change_right table change name Shows None shows = (refl, refl)
change_right table change name Shows (Some known) shows =
    body_right table known.id change name Shows (body_of table.scene known.id) shows (told table.scene known.id (body_of table.scene known.id) refl)

-- ---- creates

own_right : (before later : List Made) (index layer user : ℕ) (bounds : FixBox) (i : Id) → let one = entries.Create index layer bounds user ∷ [] in
    i ≡ id_of index (creations_in index (before ++ made_alone one))
    → IsOwn 0 (record { history = before ++ (made_alone one ++ later); from = length before; to = length before + 1 }) layer bounds user i one
own_right before later index layer user bounds i e =
    let made : Made = record { pass = 0; entry = entries.Create index layer bounds user } in
    let whole = before ++ made ∷ later in
    let up_to : take (length before + 1) whole ≡ before ++ made ∷ [] =
    ap (λ (h : List Made). take (length before + 1) h) (sym (append_assoc before (made ∷ []) later))
    ∙ ap (λ (n : ℕ). take n ((before ++ made ∷ []) ++ later)) (sym (length-append before (made ∷ [])))
    ∙ take-append_seam (before ++ made ∷ []) later in
    record {
      index = index;
      entry = refl;
      place = length before;
      first = omega arith;
      last = omega arith;
      stands =
          slice_get-get_or whole (length before) made (omega (arith, length-append before (made ∷ later)))
          ∙ ap (λ (m : Made). Some m) (get_or-append_seam before made later made);
      id = e ∙ ap (λ (h : List Made). id_of index (creations_in index h)) (sym up_to);
    }

pub create_right : (before later : List Made) (layer user : ℕ) (bounds : FixBox) (scene : Scene) (made : List Entry) (reply : Reply) (Shows : Cause → Type 0)
    → ((c : Cause) → IsCauseAt c scene → Shows c) → IsCreated before layer bounds user made reply → IsMadeOrFull scene reply
    → IsCreatedIn Shows 0 (record { history = before ++ (made_alone made ++ later); from = length before; to = length before + length made }) layer bounds user reply made
create_right before later layer user bounds scene made (replies.Id i) Shows shows c m =
    let P : List Entry → Type 0 = λ es.
    IsOwn 0 (record { history = before ++ (made_alone es ++ later); from = length before; to = length before + length es }) layer bounds user i es in
    subst P (sym c.entry) (own_right before later c.index layer user bounds i
    (subst (λ (es : List Entry). i ≡ id_of c.index (creations_in c.index (before ++ made_alone es))) c.entry c.id))
create_right before later layer user bounds scene made (replies.Refused r) Shows shows c m = elim m.full_first [
  | inl no_place ↦ (c.0, shows full no_place.0, c.1)
  | inr found ↦ absurd (let e = found.1.1 in cc)
]
create_right before later layer user bounds scene made reply Shows shows c m = absurd c

-- ---- batches that are spent

pub finalize_right : (table : Table) (name : List ℕ) (o : Option Batch) (named : Bool) → is_some o ≡ named
    → IsSpent named (option_map prepared_of o) (λ p. entries.Join p.layer p.indexes ∷ []) (outcome (finalize_batch table name o).refusal) (finalize_batch table name o).entries
finalize_right table name None named e = (sym e, refl, refl)
finalize_right table name (Some batch) named e = (refl, refl)

pub abort_right : (table : Table) (name : List ℕ) (o : Option Batch) (named : Bool) → is_some o ≡ named
    → IsSpent named (option_map prepared_of o) (λ p. unmarks p.indexes) (outcome (abort_batch table name o).refusal) (abort_batch table name o).entries
abort_right table name None named e = (sym e, refl, refl)
abort_right table name (Some batch) named e = (refl, refl)
