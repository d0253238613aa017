-- Why the bodies of a batch cannot be held, and why there can be no batch.
use Rattle.std.proofs.Common.{◌≡◌, ◌≢◌, ℕ, ◌+◌, ◌-◌, ◌<◌, ◌≤◌, Bool, true, false, cond, eqb, leb, ltb, List, [], ◌∷◌, length, map, Option, Some, None, is_some, option_map, bytes_eq, ◌↔◌, refl, ap, sym, subst, ◌∙◌, inl, inr, arith}
use Rattle.std.specs.List.{list_any, position_or_len, find}
use Rattle.std.proofs.lemmas.List.{length-map}
use Rattle.std.proofs.lemmas.List.Folds.{find_at}
use Rattle.std.proofs.lemmas.Option.{slice_get_past}
use Rattle.std.proofs.lemmas.Bool.{cases_Bool}
use Rattle.std.proofs.lemmas.Bool.Decides.{nat_tests, eqb_tells}
use Rattle.word_map.specs.declared.config.Config.{Config}
use Rattle.body_ident.specs.Id.{Id}
use Rattle.scene_model.specs.declared.body_view.BodyView.{BodyView}
use Rattle.scene_model.specs.declared.body_view.Phase.{Phase}
use Rattle.scene_model.specs.declared.body_view.Phase.TheVariants.{Out, Held, In}
use Rattle.scene_model.specs.declared.entry.Entry.{Entry}
use Rattle.scene_model.specs.declared.entry.Entry.TheVariants.{Mark}
use Rattle.scene_model.specs.Need.{need}
use Rattle.scene_model.specs.Scene.{Scene}
use Rattle.scene_model.specs.Step.{after_entry}
use Rattle.scene_model.specs.Query.{view_of}
use Rattle.scene_model.specs.Cause.{HasIdBody}
use Rattle.reply_text.specs.declared.refusal.Refusal.{Refusal}
use Rattle.reply_text.specs.declared.refusal.Refusal.TheVariants as refusals
use Rattle.script_player.specs.declared.books.Known.{Known}
use Rattle.script_player.specs.declared.books.Batch.{Batch}
use Rattle.script_player.specs.Books.{Books, has_batch, batch_named, slots_kept, nodes_kept}
use Rattle.script_player.specs.Table.{Table}
use Rattle.script_player.specs.Attempt.{Attempt, refused, outcome}
use Rattle.script_player.specs.Body.{body_of}
use Rattle.script_player.specs.Taking.{room_refusal, phase_refusal, view_refusal, mark_refusal, Marking, marking_on, marking, marked, taking_in, taking}
use Rattle.script_player.specs.Batches.{keep_taken, prepare_known, finalize_batch, abort_batch}
use Rattle.script_player.specs.Prepared.{Kept}
use Rattle.script_player.specs.Refused.{IsTold, LooksToHold, LooksToHoldEach, LooksForRoom, IsPrepared, AnswersPrepare, AnswersBatch}
use Rattle.script_player.proofs.Causes.{told, is_there, has_not, has_more, replied}

-- ---- a body to be held

-- the phase and the layer of a body that is told
told_phase_layer : (scene : Scene) (i : Id) (v : BodyView) → IsTold scene i (Some v) → HasIdBody scene i (λ r. (r.phase ≡ v.phase) × (r.layer ≡ v.layer))
told_phase_layer scene i v h =
    has_more scene i (λ r. view_of i.index r ≡ v) (λ r. (r.phase ≡ v.phase) × (r.layer ≡ v.layer))
    (λ r same. (ap (λ (w : BodyView). w.phase) same, ap (λ (w : BodyView). w.layer) same)) h

abbrev StandsSo : Scene → Id → Phase → ℕ → Type 0
StandsSo scene i p own = HasIdBody scene i (λ r. (r.phase ≡ p) × (r.layer ≡ own))

out_looks : (scene : Scene) (i : Id) (own asked : ℕ) → StandsSo scene i Out own → LooksToHold scene asked i (phase_refusal Out own asked)
out_looks scene i own asked h =
    let there = is_there scene i _ h in
    let not_held = has_not scene i _ (λ r. r.phase ≡ Held) (λ r a b. let out = a.0 in cc) h in
    let not_in = has_not scene i _ (λ r. r.phase ≡ In) (λ r a b. let out = a.0 in cc) h in
    elim (eqb_tells own asked) [
      | inl same ↦
          let not_wrong = has_not scene i _ (λ r. (r.phase ≡ Out) × (r.layer ≢ asked)) (λ r a b. b.1 (a.1 ∙ same.1)) h in
          rw same.0 (inr (there, inr (not_held, inr (not_in, inr (not_wrong, refl)))))
      | inr other ↦
          let wrong = has_more scene i _ (λ r. (r.phase ≡ Out) × (r.layer ≢ asked)) (λ r a. (a.0, λ is. other.1 (sym a.1 ∙ is))) h in
          rw other.0 (inr (there, inr (not_held, inr (not_in, inl (wrong, refl)))))
    ]

phase_looks : (scene : Scene) (i : Id) (p : Phase) (own asked : ℕ) → StandsSo scene i p own → LooksToHold scene asked i (phase_refusal p own asked)
phase_looks scene i Held own asked h = inr (is_there scene i _ h, inl (has_more scene i _ _ (λ r a. a.0) h, refl))
phase_looks scene i In own asked h =
    inr (is_there scene i _ h, inr (has_not scene i _ (λ r. r.phase ≡ Held) (λ r a b. let inside = a.0 in cc) h, inl (has_more scene i _ _ (λ r a. a.0) h, refl)))
phase_looks scene i Out own asked h = out_looks scene i own asked h

view_looks : (scene : Scene) (i : Id) (layer : ℕ) (o : Option BodyView) → IsTold scene i o → LooksToHold scene layer i (view_refusal layer o)
view_looks scene i layer None h = inl (h, refl)
view_looks scene i layer (Some v) h = phase_looks scene i v.phase v.layer layer (told_phase_layer scene i v h)

pub looks_to_hold : (scene : Scene) (i : Id) (layer : ℕ) → LooksToHold scene layer i (mark_refusal scene layer i)
looks_to_hold scene i layer = view_looks scene i layer (body_of scene i) (told scene i (body_of scene i) refl)

-- ---- the bodies of a batch

one_looks : (scene : Scene) (layer : ℕ) (i : Id) (later : List Id) (o : Option Refusal) (m : Marking) → LooksToHold scene layer i o
    → LooksToHoldEach (after_entry scene (Mark i.index)) layer later m.refusal → LooksToHoldEach scene layer (i ∷ later) (marking_on i.index o m).refusal
one_looks scene layer i later None m h rest = inl (h, rest)
one_looks scene layer i later (Some refusal) m h rest = inr (refusal, h, refl)

each_looks : (bodies : List Known) (scene : Scene) (layer : ℕ) → LooksToHoldEach scene layer (map (λ k. k.id) bodies) (marking scene layer bodies).refusal
each_looks [] scene layer = refl
each_looks (known ∷ bodies) scene layer =
    let after = after_entry scene (Mark known.id.index) in
    one_looks scene layer known.id (map (λ k. k.id) bodies) (mark_refusal scene layer known.id) (marking after layer bodies) (looks_to_hold scene known.id layer)
    (each_looks bodies after layer)

-- ---- room

marked_answer : (indexes : List ℕ) (o : Option Refusal) → (marked indexes o).refusal ≡ o
marked_answer indexes None = refl
marked_answer indexes (Some refusal) = refl

room_looks : (world : Config) (kept : Kept) (scene : Scene) (layer : ℕ) (ids : List Id) (m : Marking) (empty slot nodes : Bool)
    → (empty ≡ true) ↔ (length ids ≡ 0) → (slot ≡ true) ↔ (world.slots ≤ kept.slots) → (nodes ≡ true) ↔ (world.nodes < kept.nodes + need (length ids))
    → LooksToHoldEach scene layer ids m.refusal
    → LooksForRoom world kept scene layer ids (taking_in (cond empty (Some refusals.Empty) (cond slot (Some refusals.NoSlot) (cond nodes (Some refusals.NoNodes) None))) m).refusal
room_looks world kept scene layer ids m true slot nodes e s n each = inl (e.0 refl, refl)
room_looks world kept scene layer ids m false true nodes e s n each = inr (λ h. let t = e.1 h in cc, inl (s.0 refl, refl))
room_looks world kept scene layer ids m false false true e s n each = inr (λ h. let t = e.1 h in cc, inr (λ h. let t = s.1 h in cc, inl (n.0 refl, refl)))
room_looks world kept scene layer ids m false false false e s n each =
    inr (λ h. let t = e.1 h in cc, inr (λ h. let t = s.1 h in cc, inr (λ h. let t = n.1 h in cc, subst (LooksToHoldEach scene layer ids) (sym (marked_answer m.indexes m.refusal)) each)))

-- what batches keep, by the books
abbrev pub kept_in : Books → List ℕ → ℕ → Kept
kept_in books name layer = record { named = has_batch books name; slots = slots_kept books layer; nodes = nodes_kept books }

pub taking_looks : (table : Table) (name : List ℕ) (layer : ℕ) (bodies : List Known) → nodes_kept table.books ≤ table.world.nodes
    → LooksForRoom table.world (kept_in table.books name layer) table.scene layer (map (λ k. k.id) bodies) (taking table layer bodies).refusal
taking_looks table name layer bodies within =
    let ids = map (λ (k : Known). k.id) bodies in
    let count : length ids ≡ length bodies = length-map bodies (λ (k : Known). k.id) in
    let P : ℕ → Type 0 = λ n. LooksForRoom table.world (kept_in table.books name layer) table.scene layer ids (taking_in (room_refusal table layer n) (marking table.scene layer bodies)).refusal in
    subst P count (room_looks table.world (kept_in table.books name layer) table.scene layer ids (marking table.scene layer bodies)
    (eqb (length ids) 0) (leb table.world.slots (slots_kept table.books layer)) (ltb (table.world.nodes - nodes_kept table.books) (need (length ids)))
    (λ h. grind (arith, nat_tests), λ h. grind (arith, nat_tests))
    (λ h. grind (arith, nat_tests), λ h. grind (arith, nat_tests))
    (λ h. grind (arith, nat_tests), λ h. grind (arith, nat_tests))
    (each_looks bodies table.scene layer))

-- ---- the commands

kept_answer : (table : Table) (batch : Batch) (made : List Entry) (o : Option Refusal) → (keep_taken table batch made o).refusal ≡ o
kept_answer table batch made None = refl
kept_answer table batch made (Some refusal) = refl

named_looks : (table : Table) (world : Config) (kept : Kept) (layer : ℕ) (ids : List Id) (named : Bool) (later : Attempt) → kept.named ≡ named
    → LooksForRoom world kept table.scene layer ids later.refusal → IsPrepared world kept table.scene layer ids (outcome (cond named (refused table refusals.Batch) later).refusal)
named_looks table world kept layer ids true later e h = record { answer = Some refusals.Batch; replied = refl; first = inl (e, refl) }
named_looks table world kept layer ids false later e h =
    record { answer = later.refusal; replied = replied later.refusal; first = inr (λ is. let t = sym e ∙ is in cc, h) }

pub prepare_answered : (table : Table) (name : List ℕ) (layer : ℕ) (o : Option (List Known)) → nodes_kept table.books ≤ table.world.nodes
    → AnswersPrepare table.world (kept_in table.books name layer) table.scene layer (option_map (λ ks. map (λ k. k.id) ks) o) (outcome (prepare_known table name layer o).refusal)
prepare_answered table name layer None within = refl
prepare_answered table name layer (Some bodies) within =
    let t = taking table layer bodies in
    let ids = map (λ (k : Known). k.id) bodies in
    let batch : Batch = record { name = name; layer = layer; indexes = t.indexes; nodes = need (length bodies) } in
    named_looks table table.world (kept_in table.books name layer) layer ids (has_batch table.books name) (keep_taken table batch t.entries t.refusal) refl
    (subst (LooksForRoom table.world (kept_in table.books name layer) table.scene layer ids) (sym (kept_answer table batch t.entries t.refusal))
    (taking_looks table name layer bodies within))

-- the prepared batch that has a name is the first that has it
pub named_is_found : (books : Books) (name : List ℕ) → batch_named books name ≡ find (λ b. bytes_eq b.name name) books.prepared
named_is_found books name =
    let p : Batch → Bool = λ b. bytes_eq b.name name in
    let n = position_or_len p books.prepared in
    elim (cases_Bool (ltb n (length books.prepared))) [
      | inl within ↦ rw within (sym (find_at p books.prepared))
      | inr past ↦
          let end : length books.prepared ≤ n = grind (arith, nat_tests) in
          rw past (sym (find_at p books.prepared ∙ slice_get_past books.prepared n end))
    ]

some_found : (batches : List Batch) (name : List ℕ) → is_some (find (λ b. bytes_eq b.name name) batches) ≡ list_any (λ b. bytes_eq b.name name) batches
some_found [] name = refl
some_found (batch ∷ batches) name = elim (cases_Bool (bytes_eq batch.name name)) [
  | inl same ↦ rw same refl
  | inr other ↦ rw other (some_found batches name)
]

-- there is one exactly where a batch has the name
pub is_named : (books : Books) (name : List ℕ) → is_some (batch_named books name) ≡ has_batch books name
is_named books name = ap (λ (o : Option Batch). is_some o) (named_is_found books name) ∙ some_found books.prepared name

pub finalize_answered : (table : Table) (name : List ℕ) (o : Option Batch) (named : Bool) → is_some o ≡ named → AnswersBatch named (outcome (finalize_batch table name o).refusal)
finalize_answered table name None true e = absurd cc
finalize_answered table name None false e = refl
finalize_answered table name (Some batch) true e = refl
finalize_answered table name (Some batch) false e = absurd cc

pub abort_answered : (table : Table) (name : List ℕ) (o : Option Batch) (named : Bool) → is_some o ≡ named → AnswersBatch named (outcome (abort_batch table name o).refusal)
abort_answered table name None true e = absurd cc
abort_answered table name None false e = refl
abort_answered table name (Some batch) true e = refl
abort_answered table name (Some batch) false e = absurd cc
