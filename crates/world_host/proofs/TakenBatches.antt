-- What preparing a batch answers, told of the scene and the room before it.
use Rattle.std.proofs.Common.{◌≡◌, ◌≢◌, ◌⊎◌, ℕ, zero, suc, ◌+◌, ◌-◌, ◌<◌, ◌≤◌, Bool, true, false, cond, List, [], ◌∷◌, ◌++◌, length, map, get_or, take, drop, Option, Some, None, Err, fold, refl, ap, sym, ◌∙◌, subst, arith, ne_eqb, inl, inr, drop-cons}
use Rattle.std.specs.Prelude.{⊤, All, nat_le, nat_lt, count_by}
use Rattle.std.specs.List.{range_with_len}
use Rattle.std.proofs.lemmas.Bool.{lt-ltb, le-ltb, le-leb, lt-leb}
use Rattle.std.proofs.lemmas.Option.{same_Some}
use Rattle.std.proofs.lemmas.List.{append-nil, length-map, get_or-map, take-map, take-append-drop}
use Rattle.fixed_box.specs.declared.fix_box.FixBox.{FixBox}
use Rattle.body_ident.specs.Id.{Id}
use Rattle.scene_model.specs.declared.body_view.Phase.TheVariants.{Out}
use Rattle.scene_model.specs.declared.entry.Entry.{Entry}
use Rattle.scene_model.specs.declared.entry.Entry.TheVariants.{Mark, Unmark}
use Rattle.scene_model.specs.Scene.{Scene}
use Rattle.scene_model.specs.Step.{after_entry}
use Rattle.scene_model.specs.Need.{need}
use Rattle.scene_model.specs.Cause.{HasIdBody, IsCauseAt}
use Rattle.word_map.specs.declared.config.Config.{Config}
use Rattle.word_map.specs.declared.name.Name.{Name}
use Rattle.word_map.specs.declared.name.Name.TheVariants.{Slot, PoolFree}
use Rattle.core_state.specs.declared.item.Store.{Store}
use Rattle.core_state.specs.declared.view.Batch.{Batch}
use Rattle.core_state.specs.declared.view.Marked.{Marked}
use Rattle.core_state.specs.declared.view.View.{View}
use Rattle.core_state.specs.Log.{word}
use Rattle.core_state.specs.Names.{code_of, same_name}
use Rattle.core_state.specs.Encoding.{reserved_by}
use Rattle.core_state.specs.View.{known_word}
use Rattle.core_state.proofs.Beginning.{contains_first}
use Rattle.core_state.proofs.SameNames.{same_name-equal}
use Rattle.tree_plan.specs.Plan.{Plan}
use Rattle.tree_plan.proofs.Slots.{need_some}
use Rattle.pass_table.specs.declared.pass.Pass.{Pass}
use Rattle.pass_table.specs.Passes.{view_of}
use Rattle.pass_table.specs.Calls.{AtPoint}
use Rattle.pass_table.specs.Several.{KnowsOwn}
use Rattle.pass_table.specs.Work.{is_told, told_stores, Outcome, HasDone, idle}
use Rattle.batch_add.specs.declared.answers.PrepareRefused.{PrepareRefused}
use Rattle.batch_add.specs.declared.answers.PrepareRefused.TheVariants.{Memory, Empty as NoBodies, NoSlot, NoNodes as FewNodes, Gone as IdGone, Held as IdHeld, AlreadyIn as IdIn, WrongLayer as IdElsewhere}
use Rattle.batch_add.specs.declared.mark_op.MarkRefused.{MarkRefused}
use Rattle.batch_add.specs.declared.mark_op.MarkRefused.TheVariants.{Gone, Held, AlreadyIn, WrongLayer}
use Rattle.batch_add.specs.declared.prepared.Prepared.{Prepared}
use Rattle.batch_add.specs.declared.prepared_list.PreparedList.{PreparedList}
use Rattle.batch_add.specs.PreparedLists.{batches_of}
use Rattle.batch_add.specs.Parts.{stored_as, StoresFrom, FoundNoSlot, IsFreeAt, WereFree, IsMarkRefusedAt, cause_of}
use Rattle.batch_add.specs.Drawing.{IsDrawnBy}
use Rattle.batch_add.specs.Answers.{prepared_outcome, refused_outcome, HasPrepared, HadNoBodies, HadFewNodes, HadBadId, PrepareAnswers}
use Rattle.reply_text.specs.declared.refusal.Refusal.{Refusal}
use Rattle.reply_text.specs.declared.refusal.Refusal.TheVariants as refusals
use Rattle.script_player.specs.declared.books.Known.{Known}
use Rattle.script_player.specs.Books.{slots_kept, nodes_kept}
use Rattle.script_player.specs.Table.{Table}
use Rattle.script_player.specs.Taking.{Taking, marking, marking_on, mark_refusal, room_refusal, taking_in, marks, unmarks}
use Rattle.world_host.specs.Alone.{scene_of, MakesEntries, AreLawful}
use Rattle.world_host.specs.Rooms.{slots_taken, nodes_free}
use Rattle.world_host.specs.Batches.{HasSameRoom, refusal_to, refusal_for, TellsRoom, Takes, TakesAlone}
use Rattle.world_host.proofs.Histories.{Sees, pass-own, pass-sees, pass-makes}
use Rattle.world_host.proofs.Points.{point-after}
use Rattle.world_host.proofs.ToldWords.{store_after, word-told, word-at, stores-split, stored-among, IsAmongStores}
use Rattle.world_host.proofs.SlotCounts.{taken_by, taken-some, taken-own, taken-other, empty-slot, full-slots}
use Rattle.world_host.proofs.MarkedBodies.{AllTouch, touch-marks, touch-unmarks, touch-first, HasTag, tag-before, CanTake, indexes_of, can-take, with_first, marking-first, bad-refused}

-- ---- lists of bodies

abbrev ids_of : List Known → List Id
ids_of ks = map (λ k. k.id) ks

entries-of : (entry : ℕ → Entry) (ks : List Known) → map (λ (id : Id). entry id.index) (ids_of ks) ≡ map entry (indexes_of ks)
entries-of entry [] = refl
entries-of entry (k ∷ ks) = ap (λ (l : List Entry). entry k.id.index ∷ l) (entries-of entry ks)

index-of-ids : (ks : List Known) → map (λ (id : Id). id.index) (ids_of ks) ≡ indexes_of ks
index-of-ids [] = refl
index-of-ids (k ∷ ks) = ap (λ (l : List ℕ). k.id.index ∷ l) (index-of-ids ks)

-- ---- a call of the one pass of a world

module _ (before pass : Pass) (one : (view_of before).config.passes ≡ 1) (o : Outcome) (done : HasDone (view_of before) (view_of pass) o) where
  abbrev start : View
  start = view_of before

  abbrev next : View
  next = view_of pass

  done-sizes : next.config ≡ start.config
  done-sizes = ap (λ (v : View). v.config) done.left

  done-role : next.role ≡ start.role
  done-role = ap (λ (v : View). v.role) done.left

  done-own : KnowsOwn next
  done-own = pass-own pass start one done-sizes done-role

  done-sees : Sees start next o.entries
  done-sees = pass-sees pass start one done-sizes done-role o.entries done.adds

  done-makes : MakesEntries start next o.entries
  done-makes = pass-makes pass start one done-sizes done-role o.entries done.adds

  done-word : (name : Name) → is_told name ≡ true → known_word next name ≡ fold (store_after name) (known_word start name) o.stores
  done-word name is = word-told start next name o.stores is done-own done-sizes done-role done.tells

  done-among : (name : Name) (old new : ℕ) → is_told name ≡ true → StoresFrom start next name old new → IsAmongStores name (known_word start name) old new o.stores
  done-among name old new is from = stored-among start next o.stores name old new is done-own done-role done.tells from

  -- a word of which each store is of another name, at a point
  done-at : (name : Name) (value : ℕ) → is_told name ≡ true → ((early late : List Store) → o.stores ≡ early ++ late → (w : ℕ) → fold (store_after name) w early ≡ w)
      → AtPoint start next (λ log. word start.config log name ≡ value) → known_word start name ≡ value
  done-at name value is spares at =
      let split = stores-split start next o.stores done-own done-role done.tells at.since at.later at.parts in
      let own = word-at start next o.stores done-own done-role done.tells at.since at.later at.parts name is in
      sym (spares (told_stores done.tells.number at.since) (told_stores done.tells.number at.later) split (known_word start name)) ∙ (sym own ∙ at.holds)

-- ---- stores of other words

abbrev Spares : Name → List Store → Type 0
Spares name [] = ⊤
Spares name (s ∷ later) = (same_name s.name name ≡ false) × Spares name later

spares-fold : (name : Name) (early late : List Store) → Spares name (early ++ late) → (w : ℕ) → fold (store_after name) w early ≡ w
spares-fold name [] late h w = refl
spares-fold name (s ∷ early) late h w =
    ap (λ (n : ℕ). fold (store_after name) n early) (ap (λ (b : Bool). cond b s.value w) h.0) ∙ spares-fold name early late h.1 w

kinds-apart : (l t : ℕ) → Slot l t ≢ PoolFree
kinds-apart l t e = let kinds = ap (λ (n : Name). (code_of n).kind) e in absurd (omega arith)

-- ---- the room on a table

module _ (table : Table) (view : View) (tells : TellsRoom table view) (layer : ℕ) (in_layers : layer < view.config.layers) (count : ℕ) where
  room-empty : count ≡ 0 → room_refusal table layer count ≡ Some refusals.Empty
  room-empty none = ap (λ (n : ℕ). room_refusal table layer n) none

  slots-same : slots_taken view layer ≡ slots_kept table.books layer
  slots-same = tells.rooms.slots layer in_layers

  after-empty : 0 < count → room_refusal table layer count
      ≡ cond (nat_le table.world.slots (slots_kept table.books layer)) (Some refusals.NoSlot) (cond (nat_lt (table.world.nodes - nodes_kept table.books) (need count)) (Some refusals.NoNodes) None)
  after-empty some =
      ap (λ (b : Bool). cond b (Some refusals.Empty) (cond (nat_le table.world.slots (slots_kept table.books layer)) (Some refusals.NoSlot) (cond (nat_lt (table.world.nodes - nodes_kept table.books) (need count)) (Some refusals.NoNodes) None)))
      (ne_eqb count 0 (λ none. absurd (omega arith)))

  room-full : 0 < count → view.config.slots ≤ slots_taken view layer → room_refusal table layer count ≡ Some refusals.NoSlot
  room-full some full =
      let same = slots-same in
      let all = tells.slots in
      after-empty some
      ∙ ap (λ (b : Bool). cond b (Some refusals.NoSlot) (cond (nat_lt (table.world.nodes - nodes_kept table.books) (need count)) (Some refusals.NoNodes) None))
      (le-leb table.world.slots (slots_kept table.books layer) (omega arith))

  after-slots : 0 < count → slots_taken view layer < view.config.slots → room_refusal table layer count ≡ cond (nat_lt (table.world.nodes - nodes_kept table.books) (need count)) (Some refusals.NoNodes) None
  after-slots some less =
      let same = slots-same in
      let all = tells.slots in
      after-empty some
      ∙ ap (λ (b : Bool). cond b (Some refusals.NoSlot) (cond (nat_lt (table.world.nodes - nodes_kept table.books) (need count)) (Some refusals.NoNodes) None))
      (lt-leb table.world.slots (slots_kept table.books layer) (omega arith))

  room-few : 0 < count → slots_taken view layer < view.config.slots → nodes_free view < need count → room_refusal table layer count ≡ Some refusals.NoNodes
  room-few some less few =
      let nodes = tells.rooms.nodes in
      let all = tells.nodes in
      after-slots some less
      ∙ ap (λ (b : Bool). cond b (Some refusals.NoNodes) None) (lt-ltb (table.world.nodes - nodes_kept table.books) (need count) (omega arith))

  room-enough : 0 < count → slots_taken view layer < view.config.slots → need count ≤ nodes_free view → room_refusal table layer count ≡ None
  room-enough some less enough =
      let nodes = tells.rooms.nodes in
      let all = tells.nodes in
      after-slots some less
      ∙ ap (λ (b : Bool). cond b (Some refusals.NoNodes) None) (le-ltb (table.world.nodes - nodes_kept table.books) (need count) (omega arith))

-- ---- words of slots that are as they were

same-room : (start next : View) → next.config ≡ start.config → ((l t : ℕ) → known_word next (Slot l t) ≡ known_word start (Slot l t)) → known_word next PoolFree ≡ known_word start PoolFree → HasSameRoom start next
same-room start next sizes words free = record {
  config = sizes;
  slots = λ layer.
      ap (λ (c : Config). count_by (λ t. nat_lt 0 (known_word next (Slot layer t))) (range_with_len 0 c.slots)) sizes
      ∙ (λ i. count_by (λ t. nat_lt 0 (words layer t i)) (range_with_len 0 start.config.slots));
  free = free;
}

-- a slot that was empty, was reserved and is empty again
back-again : (start : View) (layer slot value : ℕ) → known_word start (Slot layer slot) ≡ 0 → (l t : ℕ)
    → cond (same_name (Slot layer slot) (Slot l t)) 0 (cond (same_name (Slot layer slot) (Slot l t)) value (known_word start (Slot l t))) ≡ known_word start (Slot l t)
back-again start layer slot value none l t = go (same_name (Slot layer slot) (Slot l t)) refl
  where
    go : (b : Bool) → same_name (Slot layer slot) (Slot l t) ≡ b → cond b 0 (cond b value (known_word start (Slot l t))) ≡ known_word start (Slot l t)
    go true e = sym (ap (known_word start) (sym (same_name-equal (Slot layer slot) (Slot l t) e)) ∙ none)
    go false e = refl

-- ---- which of the stores it was

slot-first : (l t w new left : ℕ) → IsAmongStores (Slot l t) w 0 new (stored_as (Slot l t) new ∷ stored_as PoolFree left ∷ []) → w ≡ 0
slot-first l t w new left (inl own) = own.2
slot-first l t w new left (inr (inl other)) = absurd (kinds-apart l t (sym other.0))
slot-first l t w new left (inr (inr none)) = absurd none

slot-back : (l t w n : ℕ) → IsAmongStores (Slot l t) w 0 (suc n) (stored_as (Slot l t) (suc n) ∷ stored_as (Slot l t) 0 ∷ []) → w ≡ 0
slot-back l t w n (inl own) = own.2
slot-back l t w n (inr (inl other)) = absurd (let e = other.1 in omega arith)
slot-back l t w n (inr (inr none)) = absurd none

slot-undone : (l t w n left free : ℕ) → IsAmongStores (Slot l t) w 0 (suc n) (stored_as (Slot l t) (suc n) ∷ stored_as PoolFree left ∷ stored_as (Slot l t) 0 ∷ stored_as PoolFree free ∷ []) → w ≡ 0
slot-undone l t w n left free (inl own) = own.2
slot-undone l t w n left free (inr (inl other)) = absurd (kinds-apart l t (sym other.0))
slot-undone l t w n left free (inr (inr (inl third))) = absurd (let e = third.1 in omega arith)
slot-undone l t w n left free (inr (inr (inr (inl other)))) = absurd (kinds-apart l t (sym other.0))
slot-undone l t w n left free (inr (inr (inr (inr none)))) = absurd none

pool-first : (l t value w old left : ℕ) → IsAmongStores PoolFree w old left (stored_as (Slot l t) value ∷ stored_as PoolFree left ∷ []) → w ≡ old
pool-first l t value w old left (inl other) = absurd (kinds-apart l t other.0)
pool-first l t value w old left (inr (inl own)) = own.2
pool-first l t value w old left (inr (inr none)) = absurd none

-- one of the two stores of the number of free nodes
pool-either : (l t value w old new left free : ℕ) → IsAmongStores PoolFree w old new (stored_as (Slot l t) value ∷ stored_as PoolFree left ∷ stored_as (Slot l t) 0 ∷ stored_as PoolFree free ∷ [])
    → ((left ≡ new) × (w ≡ old)) ⊎ ((free ≡ new) × (left ≡ old))
pool-either l t value w old new left free (inl other) = absurd (kinds-apart l t other.0)
pool-either l t value w old new left free (inr (inl first)) = inl (first.1, first.2)
pool-either l t value w old new left free (inr (inr (inl other))) = absurd (kinds-apart l t other.0)
pool-either l t value w old new left free (inr (inr (inr (inl second)))) = inr (second.1, second.2)
pool-either l t value w old new left free (inr (inr (inr (inr none)))) = absurd none

-- they were taken, and given back
pool-same : (w wanted left old : ℕ) → 0 < wanted → ((left ≡ left) × (w ≡ left + wanted)) ⊎ ((old + wanted ≡ left) × (left ≡ left + wanted)) → ((left ≡ old + wanted) × (w ≡ old)) ⊎ ((old + wanted ≡ old + wanted) × (left ≡ old))
    → (w ≡ left + wanted) × (old + wanted ≡ w)
pool-same w wanted left old some (inl one) (inl two) = absurd (let a = one.1 in let b = two.0 in let c = two.1 in omega arith)
pool-same w wanted left old some (inl one) (inr two) = (one.1, (let a = one.1 in let b = two.1 in omega arith))
pool-same w wanted left old some (inr one) two = absurd (let a = one.1 in omega arith)

-- ---- markings

whole-marking : (s : Scene) (layer : ℕ) (ks : List Known) → CanTake s layer ks → marking s layer ks ≡ record { indexes = indexes_of ks; refusal = None }
whole-marking s layer ks can =
    ap (marking s layer) (sym (append-nil ks))
    ∙ (marking-first layer ks [] s can ∙ (λ i. record { indexes = append-nil (indexes_of ks) i; refusal = None }))

stopped-marking : (s : Scene) (layer : ℕ) (ks later : List Known) (k : Known) (refusal : Refusal) → CanTake s layer ks → mark_refusal (fold after_entry s (marks (indexes_of ks))) layer k.id ≡ Some refusal
    → marking s layer (ks ++ k ∷ later) ≡ record { indexes = indexes_of ks; refusal = Some refusal }
stopped-marking s layer ks later k refusal can why =
    let stop : Scene = fold after_entry s (marks (indexes_of ks)) in
    marking-first layer ks (k ∷ later) s can
    ∙ (ap (λ (o : Option Refusal). with_first (indexes_of ks) (marking_on k.id.index o (marking (after_entry stop (Mark k.id.index)) layer later))) why
    ∙ (λ i. record { indexes = append-nil (indexes_of ks) i; refusal = Some refusal }))

anywhere : (js : List ℕ) → All (λ (j : ℕ). ⊤) js
anywhere js k d below = tt

-- more nodes are needed than there may be free, so there are bodies
some-needed : (free count : ℕ) → free < need count → 0 < count
some-needed free zero few = absurd (omega arith)
some-needed free (suc n) few = omega arith

some-marked : {has : Name → ℕ → Type 0} {plan : Plan} {bound : ℕ → ℕ → FixBox} (bodies : List (ℕ × FixBox)) (batch : Batch) → IsDrawnBy has bodies plan bound batch → 0 < length batch.marked
some-marked [] batch drawn = let some = drawn.some in absurd (omega arith)
some-marked (body ∷ bodies) batch drawn =
    let m = drawn.of_batch.all body (contains_first body bodies) in
    let below = m.1.1 in
    omega arith

-- ---- what the call answers

module _ (before pass : Pass) (one : (view_of before).config.passes ≡ 1) (layer : ℕ) (in_layers : layer < (view_of before).config.layers) (bodies : List Known) where
  abbrev begin : View
  begin = view_of before

  abbrev finish : View
  finish = view_of pass

  abbrev scene : Scene
  scene = scene_of begin

  -- each body that was free at a point is of the layer
  was-tagged : (o : Outcome) → HasDone begin finish o → (ks : List Known) → AllTouch (λ j. ⊤) o.entries → WereFree layer begin finish (ids_of ks) → All (λ k. HasTag scene layer k.id) ks
  was-tagged o done ks touch were n d below =
      let id = (get_or ks n d).id in
      let at : AtPoint begin finish (IsFreeAt begin.config layer id) =
      subst (λ (i : Id). AtPoint begin finish (IsFreeAt begin.config layer i)) (get_or-map (λ (k : Known). k.id) ks n d d.id below)
      (were n d.id (subst (λ (m : ℕ). n < m) (sym (length-map ks (λ (k : Known). k.id))) below))
      in
      let after = point-after begin finish (IsFreeAt begin.config layer id) at o.entries (done-sees before pass one o done) in
      tag-before scene layer id after.early (touch-first (λ j. ⊤) after.early after.late (subst (AllTouch (λ j. ⊤)) after.parts touch))
      (subst (λ (s : Scene). HasIdBody s id (λ r. (r.phase ≡ Out) × (r.layer ≡ layer))) after.scene at.holds)

  module _ (old new : PreparedList) where
    in-words : (own refusal : Refusal) → Some own ≡ Some refusal → TakesAlone layer bodies old new begin finish (Some own) → TakesAlone layer bodies old new begin finish (Some refusal)
    in-words own refusal is takes = subst (λ (r : Refusal). TakesAlone layer bodies old new begin finish (Some r)) (same_Some own refusal is) takes

    -- refused before any body was marked
    refused-takes : (o : Outcome) → HasDone begin finish o → (refusal : Refusal) → o.entries ≡ [] → HasSameRoom begin finish → batches_of new ≡ batches_of old
        → ((table : Table) → TellsRoom table begin → room_refusal table layer (length bodies) ≡ Some refusal) → TakesAlone layer bodies old new begin finish (Some refusal)
    refused-takes o done refusal none room same why table tells =
        subst (λ (t : Taking). Takes t layer bodies old new begin finish (Some refusal))
        (sym (ap (λ (r : Option Refusal). taking_in r (marking table.scene layer bodies)) (why table tells)))
        (record { refusal_is = refl; made = subst (MakesEntries begin finish) none (done-makes before pass one o done); after = (same, room) })

    empty-takes : HadNoBodies (ids_of bodies) begin finish → batches_of new ≡ batches_of old → TakesAlone layer bodies old new begin finish (Some refusals.Empty)
    empty-takes had same =
        let o = idle begin in
        let word = done-word before pass one o had.done in
        let room = same-room begin finish (done-sizes before pass one o had.done) (λ l t. word (Slot l t) refl) (word PoolFree refl) in
        let none : length bodies ≡ 0 = sym (length-map bodies (λ (k : Known). k.id)) ∙ ap (λ (l : List Id). length l) had.none in
        refused-takes o had.done refusals.Empty refl room same (λ table tells. room-empty table begin tells layer in_layers (length bodies) none)

    full-takes : (words : List ℕ) → (ids_of bodies) ≢ [] → FoundNoSlot layer begin finish words → batches_of new ≡ batches_of old → TakesAlone layer bodies old new begin finish (Some refusals.NoSlot)
    full-takes words some found same =
        let o = idle begin in
        let word = done-word before pass one o found.done in
        let room = same-room begin finish (done-sizes before pass one o found.done) (λ l t. word (Slot l t) refl) (word PoolFree refl) in
        let each : (t : ℕ) → t < begin.config.slots → 0 < known_word begin (Slot layer t) = λ t below.
        let at = found.each t 0 below in
        let is = done-at before pass one o found.done (Slot layer t) _ refl (λ early late parts w. nothing-before (Slot layer t) early late parts w) at.1 in
        not-zero _ (λ e. at.0 (sym is ∙ e))
        in
        let full = full-slots begin layer each in
        refused-takes o found.done refusals.NoSlot refl room same
        (λ table tells. room-full table begin tells layer in_layers (length bodies) (some-bodies bodies some) (omega arith))
      where
        nothing-before : (name : Name) (early late : List Store) → [] ≡ early ++ late → (w : ℕ) → fold (store_after name) w early ≡ w
        nothing-before name [] late parts w = refl
        nothing-before name (s ∷ early) late parts w = absurd cc

        not-zero : (n : ℕ) → n ≢ 0 → 0 < n
        not-zero zero h = absurd (h refl)
        not-zero (suc n) h = omega arith

        some-bodies : (ks : List Known) → (ids_of ks) ≢ [] → 0 < length ks
        some-bodies [] h = absurd (h refl)
        some-bodies (k ∷ ks) h = omega arith

    few-takes : (wanted free : ℕ) → 0 < length bodies → HadFewNodes layer (ids_of bodies) begin finish wanted free → batches_of new ≡ batches_of old → TakesAlone layer bodies old new begin finish (Some refusals.NoNodes)
    few-takes wanted free some had same =
        let value = reserved_by had.number in
        let o : Outcome = record (idle begin) { stores = stored_as (Slot layer had.slot) value ∷ stored_as (Slot layer had.slot) 0 ∷ []; places = true } in
        let word = done-word before pass one o had.done in
        let none = slot-back layer had.slot (known_word begin (Slot layer had.slot)) had.number (done-among before pass one o had.done (Slot layer had.slot) 0 value refl had.from_slot) in
        let room = same-room begin finish (done-sizes before pass one o had.done) (λ l t. word (Slot l t) refl ∙ back-again begin layer had.slot value none l t) (word PoolFree refl) in
        let less = empty-slot begin layer had.slot had.below none in
        let is : known_word begin PoolFree ≡ free = done-at before pass one o had.done PoolFree free refl (λ early late parts w. spares-fold PoolFree early late (subst (Spares PoolFree) parts (refl, (refl, tt))) w) had.at in
        let many : wanted ≡ need (length bodies) = had.need_of ∙ ap need (length-map bodies (λ (k : Known). k.id)) in
        let few = had.few in
        refused-takes o had.done refusals.NoNodes refl room same (λ table tells. room-few table begin tells layer in_layers (length bodies) some less (omega arith))

    -- refused for an id
    bad-takes : (at : ℕ) (refused : MarkRefused) → HadBadId layer (ids_of bodies) begin finish at refused → batches_of new ≡ batches_of old → TakesAlone layer bodies old new begin finish (Some (refusal_to refused))
    bad-takes at refused had same table tells =
        let ids = ids_of bodies in
        let ks : List Known = take at bodies in
        let js : List ℕ = indexes_of ks in
        let k : Known = get_or bodies at (record { id = record { index = 0; seq = 0 }; layer = 0 }) in
        let below : at < length bodies = subst (λ (n : ℕ). at < n) (length-map bodies (λ (k : Known). k.id)) had.some in
        let value = reserved_by had.number in
        let wanted = need (length ids) in
        let o : Outcome = refused_outcome begin layer had.slot had.number (take at ids) had.left (had.old + wanted) in
        let first : take at ids ≡ ids_of ks = take-map (λ (k : Known). k.id) at bodies in
        let entries : o.entries ≡ marks js ++ unmarks js =
        (λ i. map (λ (id : Id). Mark id.index) (first i) ++ map (λ (id : Id). Unmark id.index) (first i)) ∙ (λ i. entries-of (λ n. Mark n) ks i ++ entries-of (λ n. Unmark n) ks i)
        in
        let touch : (P : ℕ → Type 0) → All P js → AllTouch P o.entries = λ P all. subst (AllTouch P) (sym entries) (touch-marks P js (unmarks js) all (touch-unmarks P js all)) in
        let made : MakesEntries begin finish (marks js ++ unmarks js) = subst (MakesEntries begin finish) entries (done-makes before pass one o had.done) in
        let can : CanTake scene layer ks = can-take begin.config.layers layer ks scene (unmarks js) made.lawful (was-tagged o had.done ks (touch (λ j. ⊤) (anywhere js)) (subst (WereFree layer begin finish) first had.each)) in
        let point : AtPoint begin finish (IsMarkRefusedAt begin.config layer k.id refused) =
        subst (λ (i : Id). AtPoint begin finish (IsMarkRefusedAt begin.config layer i refused)) (get_or-map (λ (k : Known). k.id) bodies at _ k.id below) (had.cause k.id)
        in
        let after = point-after begin finish (IsMarkRefusedAt begin.config layer k.id refused) point o.entries (done-sees before pass one o had.done) in
        let why : mark_refusal (fold after_entry scene (marks js)) layer k.id ≡ Some (refusal_to refused) =
        bad-refused layer ks scene can k.id after.early (touch-first (λ j. ⊤) after.early after.late (subst (AllTouch (λ j. ⊤)) after.parts (touch (λ j. ⊤) (anywhere js))))
        (λ all. touch-first (λ j. j ≢ k.id.index) after.early after.late (subst (AllTouch (λ j. j ≢ k.id.index)) after.parts (touch (λ j. j ≢ k.id.index) all)))
        refused (subst (IsCauseAt (cause_of layer k.id refused)) after.scene point.holds.cause)
        in
        let parts : bodies ≡ ks ++ k ∷ drop (suc at) bodies = sym (take-append-drop at bodies) ∙ ap (λ (l : List Known). ks ++ l) (drop-cons bodies at _ below) in
        let marked_is : marking table.scene layer bodies ≡ record { indexes = js; refusal = Some (refusal_to refused) } =
        (λ i. marking (tells.scene i) layer (parts i)) ∙ stopped-marking scene layer ks (drop (suc at) bodies) k (refusal_to refused) can why
        in
        let some : 0 < need (length bodies) = need_some (length bodies) (omega arith) in
        let count : wanted ≡ need (length bodies) = ap need (length-map bodies (λ (k : Known). k.id)) in
        let none = slot-undone layer had.slot (known_word begin (Slot layer had.slot)) had.number had.left (had.old + wanted) (done-among before pass one o had.done (Slot layer had.slot) 0 value refl had.from_slot) in
        let pool = pool-same (known_word begin PoolFree) wanted had.left had.old (omega arith)
        (pool-either layer had.slot value (known_word begin PoolFree) (had.left + wanted) had.left had.left (had.old + wanted) (done-among before pass one o had.done PoolFree (had.left + wanted) had.left refl had.from_pool))
        (pool-either layer had.slot value (known_word begin PoolFree) had.old (had.old + wanted) had.left (had.old + wanted) (done-among before pass one o had.done PoolFree had.old (had.old + wanted) refl had.back))
        in
        let word = done-word before pass one o had.done in
        let room = same-room begin finish (done-sizes before pass one o had.done) (λ l t. word (Slot l t) refl ∙ back-again begin layer had.slot value none l t) (word PoolFree refl ∙ pool.1) in
        let less = empty-slot begin layer had.slot had.below none in
        let enough : need (length bodies) ≤ nodes_free begin = (let a = pool.0 in omega arith) in
        let free = room-enough table begin tells layer in_layers (length bodies) (omega arith) less enough in
        subst (λ (t : Taking). Takes t layer bodies old new begin finish (Some (refusal_to refused)))
        (sym (λ i. taking_in (free i) (marked_is i)))
        (record { refusal_is = refl; made = made; after = (same, room) })

    -- and where it is not refused
    all-taken : (p : Prepared) → 0 < length bodies → HasPrepared layer (ids_of bodies) begin finish p → batches_of new ≡ batches_of old ++ p ∷ [] → TakesAlone layer bodies old new begin finish None
    all-taken p some has put table tells =
        let ids = ids_of bodies in
        let js : List ℕ = indexes_of bodies in
        let value = reserved_by p.number in
        let wanted = need (length ids) in
        let o : Outcome = prepared_outcome begin layer p.slot p.number ids has.left has.good.batch has.written in
        let entries : o.entries ≡ marks js = entries-of (λ n. Mark n) bodies in
        let whole : o.entries ≡ marks js ++ [] = entries ∙ sym (append-nil (marks js)) in
        let touch : AllTouch (λ j. ⊤) o.entries = subst (AllTouch (λ j. ⊤)) (sym whole) (touch-marks (λ j. ⊤) js [] (anywhere js) tt) in
        let made : MakesEntries begin finish (marks js) = subst (MakesEntries begin finish) entries (done-makes before pass one o has.done) in
        let lawful = subst (AreLawful begin.config.layers scene) (sym (append-nil (marks js))) made.lawful in
        let can : CanTake scene layer bodies = can-take begin.config.layers layer bodies scene [] lawful (was-tagged o has.done bodies touch has.each) in
        let marked_is : marking table.scene layer bodies ≡ record { indexes = js; refusal = None } = ap (λ (s : Scene). marking s layer bodies) tells.scene ∙ whole-marking scene layer bodies can in
        let count : wanted ≡ need (length bodies) = ap need (length-map bodies (λ (k : Known). k.id)) in
        let none = slot-first layer p.slot (known_word begin (Slot layer p.slot)) value has.left (done-among before pass one o has.done (Slot layer p.slot) 0 value refl has.from_slot) in
        let pool = pool-first layer p.slot value (known_word begin PoolFree) (has.left + wanted) has.left (done-among before pass one o has.done PoolFree (has.left + wanted) has.left refl has.from_pool) in
        let word = done-word before pass one o has.done in
        let sizes = done-sizes before pass one o has.done in
        let named : (p.layer < finish.config.layers) × (p.slot < finish.config.slots) = has.good.is.named in
        let below : p.slot < begin.config.slots = subst (λ (c : Config). p.slot < c.slots) sizes named.1 in
        let words : (l t : ℕ) → known_word finish (Slot l t) ≡ cond (same_name (Slot layer p.slot) (Slot l t)) value (known_word begin (Slot l t)) = λ l t. word (Slot l t) refl in
        let counts = taken-own begin finish layer p.slot value sizes words below in
        let was : taken_by (known_word begin (Slot layer p.slot)) ≡ 0 = ap taken_by none in
        let now : taken_by value ≡ 1 = taken-some value (omega arith) in
        let left : known_word finish PoolFree ≡ has.left = word PoolFree refl in
        let less = empty-slot begin layer p.slot below none in
        let free = room-enough table begin tells layer in_layers (length bodies) some less (omega arith) in
        subst (λ (t : Taking). Takes t layer bodies old new begin finish None)
        (sym (λ i. taking_in (free i) (marked_is i)))
        (record {
          refusal_is = refl;
          made = made;
          after = record {
            batch = p;
            put = put;
            of_layer = has.of_layer;
            holds = has.indexes ∙ index-of-ids bodies;
            all = refl;
            room = record {
              config = sizes;
              own = omega (arith, counts, was, now);
              others = λ other apart. taken-other begin finish layer p.slot value sizes words other apart;
              free = omega (arith, left, pool, count);
            };
          };
        })

    -- where it is refused, for what it says
    pub refusal-takes : (refused : PrepareRefused) (refusal : Refusal) → PrepareAnswers layer (ids_of bodies) begin finish (Err refused) → refusal_for refused ≡ Some refusal → batches_of new ≡ batches_of old
        → TakesAlone layer bodies old new begin finish (Some refusal)
    refusal-takes Memory refusal answers is same = absurd cc
    refusal-takes NoBodies refusal answers is same = in-words refusals.Empty refusal is (empty-takes answers same)
    refusal-takes (NoSlot words) refusal answers is same = in-words refusals.NoSlot refusal is (full-takes words.words.items answers.0 answers.1 same)
    refusal-takes (FewNodes wanted free) refusal answers is same =
        let need_of = answers.need_of in
        let few = answers.few in
        let many = length-map bodies (λ (k : Known). k.id) in
        in-words refusals.NoNodes refusal is (few-takes wanted free (subst (λ (n : ℕ). 0 < n) many (some-needed free (length (ids_of bodies)) (subst (λ (n : ℕ). free < n) need_of few))) answers same)
    refusal-takes (IdGone at state) refusal answers is same = in-words refusals.Gone refusal is (bad-takes at (Gone state) answers same)
    refusal-takes (IdHeld at slot) refusal answers is same = in-words refusals.Held refusal is (bad-takes at (Held slot) answers same)
    refusal-takes (IdIn at phase) refusal answers is same = in-words refusals.AlreadyIn refusal is (bad-takes at (AlreadyIn phase) answers same)
    refusal-takes (IdElsewhere at found) refusal answers is same = in-words refusals.WrongLayer refusal is (bad-takes at (WrongLayer found) answers same)

    -- a batch that was prepared has a body
    pub prepared-takes : (ids : List Id) → ids ≡ ids_of bodies → (p : Prepared) × (batches_of new ≡ batches_of old ++ p ∷ []) × HasPrepared layer ids begin finish p → TakesAlone layer bodies old new begin finish None
    prepared-takes ids same t =
        let has = subst (λ (l : List Id). HasPrepared layer l begin finish t.0) same t.2 in
        let batch = has.good.is in
        let some = some-marked has.good.bodies has.good.batch batch.drawn in
        let marked_are = ap (λ (l : List ℕ). length l) (batch.indexes ∙ (has.indexes ∙ index-of-ids bodies)) in
        let a = length-map has.good.batch.marked (λ (m : Marked). m.index) in
        let b = length-map bodies (λ (k : Known). k.id.index) in
        all-taken t.0 (omega arith) has t.1
