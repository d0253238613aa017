-- Where a batch is refused: which body stopped it, and what was made by then.
use Rattle.std.proofs.Common.{◌≡◌, ℕ, ◌+◌, ◌-◌, ◌<◌, ◌≤◌, Bool, true, false, cond, eqb, leb, ltb, List, [], ◌∷◌, ◌++◌, length, map, fold, Option, Some, None, refl, ap, sym, subst, ◌∙◌, inl, inr, arith}
use Rattle.std.proofs.lemmas.List.{nil_from_length}
use Rattle.std.proofs.lemmas.Bool.Decides.{nat_tests}
use Rattle.word_map.specs.declared.config.Config.{Config}
use Rattle.body_ident.specs.Id.{Id}
use Rattle.scene_model.specs.declared.entry.Entry.{Entry}
use Rattle.scene_model.specs.declared.entry.Entry.TheVariants.{Mark}
use Rattle.scene_model.specs.Need.{need}
use Rattle.scene_model.specs.Scene.{Scene}
use Rattle.scene_model.specs.Step.{after_entry}
use Rattle.scene_model.specs.Cause.{Cause, IsCauseAt}
use Rattle.reply_text.specs.declared.refusal.Refusal.{Refusal}
use Rattle.reply_text.specs.declared.refusal.Refusal.TheVariants as refusals
use Rattle.script_player.specs.declared.books.Known.{Known}
use Rattle.script_player.specs.declared.books.Batch.{Batch}
use Rattle.script_player.specs.Books.{has_batch, slots_kept, nodes_kept}
use Rattle.script_player.specs.Table.{Table}
use Rattle.script_player.specs.Attempt.{Attempt, refused, outcome}
use Rattle.script_player.specs.Taking.{mark_refusal, Marking, marking_on, marking, marks, unmarks, marked, taking_in, taking}
use Rattle.script_player.specs.Batches.{keep_taken, prepare_known}
use Rattle.script_player.specs.Prepared.{Kept}
use Rattle.script_player.specs.Refused.{LooksToHold}
use Rattle.script_player.specs.Right.{hold_cause, IsShown, IsHeldUpTo, IsRefusedRoom, IsRefusedPrepare, IsPreparedIn, IsPreparedOf}
use Rattle.script_player.proofs.Preparing.{kept_in, looks_to_hold}
use Rattle.script_player.proofs.Taken.{are_taken}

-- what shows each cause that is there after a first part of these entries
abbrev pub ShowsIn : Scene → List Entry → (Cause → Type 0) → Type 0
ShowsIn scene made Shows = (xs ys : List Entry) (cause : Cause) → made ≡ xs ++ ys → IsCauseAt cause (fold after_entry scene xs) → Shows cause

show_more : (P Q : Cause → Type 0) (o : Option Cause) → ((c : Cause) → P c → Q c) → IsShown P o → IsShown Q o
show_more P Q None to h = h
show_more P Q (Some c) to h = to c h

-- ---- the body that stops a batch

why_held : (scene : Scene) (layer : ℕ) (i : Id) (r : Refusal) → LooksToHold scene layer i (Some r) → IsShown (λ c. IsCauseAt c scene) (hold_cause r i layer)
why_held scene layer i r (inl lost) = let same : r ≡ refusals.Gone = cc in subst (λ r. IsShown (λ c. IsCauseAt c scene) (hold_cause r i layer)) (sym same) lost.0
why_held scene layer i r (inr (there, inl own)) = let same : r ≡ refusals.Held = let e = own.1 in cc in subst (λ r. IsShown (λ c. IsCauseAt c scene) (hold_cause r i layer)) (sym same) own.0
why_held scene layer i r (inr (there, inr (free, inl own))) = let same : r ≡ refusals.AlreadyIn = let e = own.1 in cc in subst (λ r. IsShown (λ c. IsCauseAt c scene) (hold_cause r i layer)) (sym same) own.0
why_held scene layer i r (inr (there, inr (free, inr (out, inl own)))) = let same : r ≡ refusals.WrongLayer = let e = own.1 in cc in subst (λ r. IsShown (λ c. IsCauseAt c scene) (hold_cause r i layer)) (sym same) own.0
why_held scene layer i r (inr (there, inr (free, inr (out, inr (own, none))))) = absurd (let e = none in cc)

-- the bodies before it are marked, and it gives a cause then
record StopsAt (scene : Scene) (layer : ℕ) (bodies : List Known) (indexes : List ℕ) (r : Refusal) : Type 0 where
  before : List Known
  stopped : Known
  rest : List Known
  parts : bodies ≡ before ++ stopped ∷ rest
  indexes_are : indexes ≡ map (λ k. k.id.index) before
  why : IsShown (λ c. IsCauseAt c (fold after_entry scene (marks indexes))) (hold_cause r stopped.id layer)

stops_on : (scene : Scene) (layer : ℕ) (known : Known) (bodies : List Known) (o : Option Refusal) (m : Marking) (r : Refusal) → LooksToHold scene layer known.id o
    → (m.refusal ≡ Some r → StopsAt (after_entry scene (Mark known.id.index)) layer bodies m.indexes r)
    → (marking_on known.id.index o m).refusal ≡ Some r → StopsAt scene layer (known ∷ bodies) (marking_on known.id.index o m).indexes r
stops_on scene layer known bodies None m r looks rest e =
    let s = rest e in
    record {
      before = known ∷ s.before;
      stopped = s.stopped;
      rest = s.rest;
      parts = ap (λ (ks : List Known). known ∷ ks) s.parts;
      indexes_are = ap (λ (xs : List ℕ). known.id.index ∷ xs) s.indexes_are;
      why = s.why;
    }
stops_on scene layer known bodies (Some refusal) m r looks rest e =
    let same : refusal ≡ r = cc in
    record {
      before = [];
      stopped = known;
      rest = bodies;
      parts = refl;
      indexes_are = refl;
      why = why_held scene layer known.id r (subst (λ (s : Refusal). LooksToHold scene layer known.id (Some s)) same looks);
    }

stops_at : (bodies : List Known) (scene : Scene) (layer : ℕ) (r : Refusal) → (marking scene layer bodies).refusal ≡ Some r
    → StopsAt scene layer bodies (marking scene layer bodies).indexes r
stops_at [] scene layer r e = absurd cc
stops_at (known ∷ bodies) scene layer r e =
    let after = after_entry scene (Mark known.id.index) in
    stops_on scene layer known bodies (mark_refusal scene layer known.id) (marking after layer bodies) r (looks_to_hold scene known.id layer) (stops_at bodies after layer r) e

held_up_to : (scene : Scene) (layer : ℕ) (bodies : List Known) (indexes : List ℕ) (r : Refusal) (Shows : Cause → Type 0) → ShowsIn scene (marks indexes ++ unmarks indexes) Shows
    → StopsAt scene layer bodies indexes r → IsHeldUpTo Shows layer bodies r (marks indexes ++ unmarks indexes)
held_up_to scene layer bodies indexes r Shows shows s = record {
  before = s.before;
  stopped = s.stopped;
  rest = s.rest;
  parts = s.parts;
  undone = ap (λ (xs : List ℕ). marks xs ++ unmarks xs) s.indexes_are;
  cause = show_more (λ c. IsCauseAt c (fold after_entry scene (marks indexes))) Shows (hold_cause r s.stopped.id layer) (λ c here. shows (marks indexes) (unmarks indexes) c refl here) s.why;
}

-- ---- room

held_room : (world : Config) (kept : Kept) (Shows : Cause → Type 0) (layer : ℕ) (bodies : List Known) (r : Refusal) (made : List Entry)
    → IsHeldUpTo Shows layer bodies r made → IsRefusedRoom world kept Shows layer bodies r made
held_room world kept Shows layer bodies refusals.Empty made h = absurd h.cause
held_room world kept Shows layer bodies refusals.NoSlot made h = absurd h.cause
held_room world kept Shows layer bodies refusals.NoNodes made h = absurd h.cause
held_room world kept Shows layer bodies r made h = h

marked_room : (world : Config) (kept : Kept) (scene : Scene) (Shows : Cause → Type 0) (layer : ℕ) (bodies : List Known) (indexes : List ℕ) (o : Option Refusal) (r : Refusal)
    → (o ≡ Some r → StopsAt scene layer bodies indexes r) → ShowsIn scene (marked indexes o).entries Shows → (marked indexes o).refusal ≡ Some r
    → IsRefusedRoom world kept Shows layer bodies r (marked indexes o).entries
marked_room world kept scene Shows layer bodies indexes None r stops shows e = absurd cc
marked_room world kept scene Shows layer bodies indexes (Some refusal) r stops shows e =
    held_room world kept Shows layer bodies r (marks indexes ++ unmarks indexes) (held_up_to scene layer bodies indexes r Shows shows (stops e))

by_refusal : (P : Refusal → Type 0) (s r : Refusal) → Some s ≡ Some r → P s → P r
by_refusal P s r e h = let same : s ≡ r = cc in subst P same h

room_right : (world : Config) (kept : Kept) (scene : Scene) (Shows : Cause → Type 0) (layer : ℕ) (bodies : List Known) (m : Marking) (empty slot nodes : Bool) (r : Refusal)
    → (empty ≡ true → bodies ≡ []) → (slot ≡ true → world.slots ≤ kept.slots) → (nodes ≡ true → world.nodes < kept.nodes + need (length bodies))
    → (m.refusal ≡ Some r → StopsAt scene layer bodies m.indexes r)
    → let t = taking_in (cond empty (Some refusals.Empty) (cond slot (Some refusals.NoSlot) (cond nodes (Some refusals.NoNodes) None))) m in
    ShowsIn scene t.entries Shows → t.refusal ≡ Some r → IsRefusedRoom world kept Shows layer bodies r t.entries
room_right world kept scene Shows layer bodies m true slot nodes r e s n stops shows is =
    by_refusal (λ r. IsRefusedRoom world kept Shows layer bodies r []) refusals.Empty r is (e refl, refl)
room_right world kept scene Shows layer bodies m false true nodes r e s n stops shows is =
    by_refusal (λ r. IsRefusedRoom world kept Shows layer bodies r []) refusals.NoSlot r is (s refl, refl)
room_right world kept scene Shows layer bodies m false false true r e s n stops shows is =
    by_refusal (λ r. IsRefusedRoom world kept Shows layer bodies r []) refusals.NoNodes r is (n refl, refl)
room_right world kept scene Shows layer bodies m false false false r e s n stops shows is =
    marked_room world kept scene Shows layer bodies m.indexes m.refusal r stops shows is

pub taking_right : (table : Table) (name : List ℕ) (layer : ℕ) (bodies : List Known) (Shows : Cause → Type 0) (r : Refusal) → nodes_kept table.books ≤ table.world.nodes
    → ShowsIn table.scene (taking table layer bodies).entries Shows → (taking table layer bodies).refusal ≡ Some r
    → IsRefusedRoom table.world (kept_in table.books name layer) Shows layer bodies r (taking table layer bodies).entries
taking_right table name layer bodies Shows r within shows e =
    room_right table.world (kept_in table.books name layer) table.scene Shows layer bodies (marking table.scene layer bodies)
    (eqb (length bodies) 0) (leb table.world.slots (slots_kept table.books layer)) (ltb (table.world.nodes - nodes_kept table.books) (need (length bodies))) r
    (λ h. nil_from_length bodies (grind (arith, nat_tests))) (λ h. grind (arith, nat_tests)) (λ h. grind (arith, nat_tests)) (stops_at bodies table.scene layer r) shows e

-- ---- prepares

room_prepare : (world : Config) (kept : Kept) (Shows : Cause → Type 0) (layer : ℕ) (bodies : List Known) (r : Refusal) (made : List Entry)
    → IsRefusedRoom world kept Shows layer bodies r made → IsRefusedPrepare world kept Shows layer bodies r made
room_prepare world kept Shows layer bodies refusals.Batch made h = absurd h.cause
room_prepare world kept Shows layer bodies r made h = h

keep_right : (table : Table) (kept : Kept) (Shows : Cause → Type 0) (layer : ℕ) (bodies : List Known) (batch : Batch) (made : List Entry) (o : Option Refusal)
    → (o ≡ None → made ≡ marks (map (λ k. k.id.index) bodies)) → ((r : Refusal) → o ≡ Some r → IsRefusedRoom table.world kept Shows layer bodies r made)
    → IsPreparedIn table.world kept Shows layer bodies (outcome (keep_taken table batch made o).refusal) (keep_taken table batch made o).entries
keep_right table kept Shows layer bodies batch made None all stops = all refl
keep_right table kept Shows layer bodies batch made (Some r) all stops = room_prepare table.world kept Shows layer bodies r made (stops r refl)

named_right : (table : Table) (kept : Kept) (Shows : Cause → Type 0) (layer : ℕ) (bodies : List Known) (named : Bool) (later : Attempt) → kept.named ≡ named
    → (named ≡ false → IsPreparedIn table.world kept Shows layer bodies (outcome later.refusal) later.entries)
    → IsPreparedIn table.world kept Shows layer bodies (outcome (cond named (refused table refusals.Batch) later).refusal) (cond named (refused table refusals.Batch) later).entries
named_right table kept Shows layer bodies true later e h = (e, refl)
named_right table kept Shows layer bodies false later e h = h refl

shows_kept : (table : Table) (batch : Batch) (made : List Entry) (o : Option Refusal) → (keep_taken table batch made o).entries ≡ made
shows_kept table batch made None = refl
shows_kept table batch made (Some r) = refl

pub prepare_right : (table : Table) (name : List ℕ) (layer : ℕ) (o : Option (List Known)) (Shows : Cause → Type 0) → nodes_kept table.books ≤ table.world.nodes
    → ShowsIn table.scene (prepare_known table name layer o).entries Shows
    → IsPreparedOf table.world (kept_in table.books name layer) Shows layer o (outcome (prepare_known table name layer o).refusal) (prepare_known table name layer o).entries
prepare_right table name layer None Shows within shows = (refl, refl)
prepare_right table name layer (Some bodies) Shows within shows =
    let t = taking table layer bodies in
    let batch : Batch = record { name = name; layer = layer; indexes = t.indexes; nodes = need (length bodies) } in
    let later = keep_taken table batch t.entries t.refusal in
    named_right table (kept_in table.books name layer) Shows layer bodies (has_batch table.books name) later refl
    (λ free.
    let own : ShowsIn table.scene t.entries Shows =
    subst (λ (es : List Entry). ShowsIn table.scene es Shows)
    (ap (λ (b : Bool). (cond b (refused table refusals.Batch) later).entries) free ∙ shows_kept table batch t.entries t.refusal) shows in
    keep_right table (kept_in table.books name layer) Shows layer bodies batch t.entries t.refusal (λ e. (are_taken table layer bodies e).entries)
    (λ r e. taking_right table name layer bodies Shows r within own e))
