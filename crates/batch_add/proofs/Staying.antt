-- A batch that is good stays so: what the pass wrote in its nodes is still written, and the batch is one of its still.
use Rattle.std.specs.Prelude.{not, flat_map}
use Rattle.std.proofs.Common.{◌≡◌, ℕ, ◌∷◌, ◌++◌, Bool, cond, List, [], Some, All, Contains, ap, sym, ◌∙◌, subst, append_assoc}
use Rattle.std.proofs.lemmas.List.{append-nil}
use Rattle.std.proofs.lemmas.List.Elements.{All-append, All-cons, All-contains, All-filter, All-nil, Contains-append_left, filter-append}
use Rattle.std.proofs.lemmas.Grind.{flat_map-append}
use Rattle.word_map.specs.declared.config.Config.{Config}
use Rattle.word_map.specs.declared.name.Name.TheVariants.{Slot, Parent, Phase}
use Rattle.word_map.specs.Names.{IsName}
use Rattle.core_state.specs.declared.item.Store.{Store}
use Rattle.core_state.specs.declared.view.Batch.{Batch}
use Rattle.core_state.specs.declared.view.View.{View}
use Rattle.core_state.specs.View.{IsPass, number_in}
use Rattle.core_state.specs.Nodes.{node_in}
use Rattle.core_state.specs.Bodies.{IsForSlot}
use Rattle.core_state.specs.Batches.{new_batch, is_for, without_batch, batch_nodes_of, is_in_nodes, written_outside}
use Rattle.core_state.proofs.Beginning.{contains_flat}
use Rattle.core_batch.proofs.Lists.{filter_from}
use Rattle.pass_table.specs.Belongings.{Belongings, belongings_of}
use Rattle.pass_table.specs.Bodies.{IsCurrent}
use Rattle.fixed_box.specs.declared.fix_box.FixBox.{FixBox}
use Rattle.batch_add.specs.declared.prepared.Prepared.{Prepared}
use Rattle.batch_add.specs.Drawing.{HasWritten}
use Rattle.batch_add.specs.Prepared.{IsTheBatch, IsGoodIn, IsGood, IsApart, LeavesOthers}
use Rattle.batch_add.proofs.Batches.{other-false, without-one, among-middle}
use Rattle.batch_add.proofs.Drawn.{drawn-as}
use Rattle.batch_add.proofs.Known.{batches-apart}
use Rattle.batch_add.proofs.Written.{outside-keeps}

-- ---- by what the pass has

module _ (prepared : Prepared) (has now : Belongings) (good : IsGoodIn prepared has) (sizes : now.config ≡ has.config) (role : now.role ≡ has.role) where
  pub stays-good : (before after : List Batch) → now.batches ≡ before ++ good.batch ∷ after → All (λ b. ¬ IsForSlot prepared.layer prepared.slot b) before
      → All (λ b. ¬ IsForSlot prepared.layer prepared.slot b) after
      → ((s : Store) (n : ℕ) → Contains has.written s → node_in s.name ≡ Some n → Contains good.batch.nodes n → Contains now.written s) → IsGoodIn prepared now
  stays-good before after among alone_before alone_after written =
      let is = good.is in
      record {
        pass = ap number_in role ∙ good.pass;
        before = before;
        batch = good.batch;
        after = after;
        bodies = good.bodies;
        is = record {
          among = among;
          for_slot = is.for_slot;
          named = subst (λ (c : Config). IsName c (Slot prepared.layer prepared.slot)) (sym sizes) is.named;
          nodes = is.nodes;
          indexes = is.indexes;
          many = is.many;
          once = is.once;
          plan = is.plan;
          bound = is.bound;
          drawn =
              drawn-as (HasWritten has.written) (HasWritten now.written) good.bodies is.plan is.bound good.batch is.drawn
              (λ name n value of_node inside before. written (record { name = name; value = value }) n before of_node inside);
          alone_before = alone_before;
          alone_after = alone_after;
          nodes_named = subst (λ (c : Config). All (λ n. IsName c (Parent n)) good.batch.nodes) (sym sizes) is.nodes_named;
          bodies_named = subst (λ (c : Config). All (λ m. IsName c (Phase m.index)) good.batch.marked) (sym sizes) is.bodies_named;
        };
      }

-- where the pass has what it had
pub good-kept : (prepared : Prepared) (view next : View) → belongings_of next ≡ belongings_of view → IsGood prepared view → IsGood prepared next
good-kept prepared view next keeps good = subst (IsGoodIn prepared) (sym keeps) good

-- the batch is one of the pass's
pub good-among : (prepared : Prepared) (view : View) (good : IsGood prepared view) → Contains view.batches good.batch
good-among prepared view good = subst (λ (l : List Batch). Contains l good.batch) (sym good.is.among) (among-middle good.before good.batch good.after)

-- and its nodes are its batch nodes
pub good-nodes : (prepared : Prepared) (view : View) (good : IsGood prepared view) (n : ℕ) → Contains good.batch.nodes n → Contains (batch_nodes_of view) n
good-nodes prepared view good n inside =
    Contains-append_left (flat_map (λ b. b.nodes) view.batches) view.loose n (contains_flat (λ b. b.nodes) view.batches good.batch n (good-among prepared view good) inside)

-- ---- a batch comes

-- a batch for a slot for which none was is apart from each that is good
pub comes-apart : (prepared : Prepared) (view : View) → All (λ b. ¬ IsForSlot prepared.layer prepared.slot b) view.batches → (other : Prepared) → IsGood other view → IsApart other prepared
comes-apart prepared view alone other good = record {
  slots = λ same.
      All-contains (λ b. ¬ IsForSlot prepared.layer prepared.slot b) view.batches good.batch alone (good-among other view good) (good.is.for_slot.0 ∙ same.0, good.is.for_slot.1 ∙ same.1);
}

-- of two that are apart each is apart from the other
pub apart-back : (one other : Prepared) → IsApart one other → IsApart other one
apart-back one other apart = record { slots = λ same. apart.slots (sym same.0, sym same.1) }

module _ (prepared : Prepared) (view next : View) (batch : Batch) (for_slot : IsForSlot prepared.layer prepared.slot batch) (alone : All (λ b. ¬ IsForSlot prepared.layer prepared.slot b) view.batches)
    (sizes : next.config ≡ view.config) (role : next.role ≡ view.role) (batches : next.batches ≡ view.batches ++ batch ∷ [])
    (written : written_outside batch.nodes next.written ≡ view.written) where
  -- it leaves those that are good
  pub comes-beside : (other : Prepared) → IsGood other view → IsGood other next
  comes-beside other good =
      let apart = comes-apart prepared view alone other good in
      stays-good other (belongings_of view) (belongings_of next) good sizes role good.before (good.after ++ batch ∷ [])
      (batches ∙ (ap (λ (l : List Batch). l ++ batch ∷ []) good.is.among ∙ append_assoc good.before (good.batch ∷ good.after) (batch ∷ [])))
      good.is.alone_before
      (All-append (λ b. ¬ IsForSlot other.layer other.slot b) good.after (batch ∷ []) good.is.alone_after
      (All-cons (λ b. ¬ IsForSlot other.layer other.slot b) batch [] (λ for. apart.slots (sym for.0 ∙ for_slot.0, sym for.1 ∙ for_slot.1)) (All-nil (λ b. ¬ IsForSlot other.layer other.slot b))))
      (λ s n has of_node inside.
      (filter_from (λ (s : Store). not (is_in_nodes batch.nodes (node_in s.name))) next.written s (subst (λ (l : List Store). Contains l s) (sym written) has)).0)

-- a slot that is reserved has no nodes yet, so what is none of the pass's then was none before
pub fresh-start : (view reserved : View) (layer slot : ℕ) (nodes : List ℕ) → reserved.batches ≡ view.batches ++ new_batch layer slot ∷ [] → reserved.loose ≡ view.loose
    → All (λ n. ¬ Contains (batch_nodes_of reserved) n) nodes → All (λ n. ¬ Contains (batch_nodes_of view) n) nodes
fresh-start view reserved layer slot nodes batches loose fresh = subst (λ (own : List ℕ). All (λ n. ¬ Contains own n) nodes) same fresh
  where
    same : batch_nodes_of reserved ≡ batch_nodes_of view
    same =
        (λ i. flat_map (λ b. b.nodes) (batches i) ++ loose i)
        ∙ ap (λ (l : List ℕ). l ++ view.loose) (flat_map-append (λ (b : Batch). b.nodes) view.batches (new_batch layer slot ∷ []) ∙ append-nil (flat_map (λ (b : Batch). b.nodes) view.batches))

-- ---- a batch goes

module _ (view : View) (current : ∥ IsCurrent view ∥₁) (number : ℕ) (pass : IsPass view number) (prepared : Prepared) (before : List Batch) (batch : Batch) (after : List Batch) (bodies : List (ℕ × FixBox))
    (is : IsTheBatch prepared (belongings_of view) before batch after bodies) (next : View) (sizes : next.config ≡ view.config) (role : next.role ≡ view.role)
    (batches : next.batches ≡ before ++ after) (written : next.written ≡ written_outside batch.nodes view.written) where
  abbrev is_other : Batch → Bool
  is_other b = not (is_for prepared.layer prepared.slot b)

  -- it leaves those that are good and for another slot
  pub goes-beside : LeavesOthers prepared view next
  goes-beside other good apart =
      let other_slot : ¬ IsForSlot prepared.layer prepared.slot good.batch = λ for. apart.slots (sym good.is.for_slot.0 ∙ for.0, sym good.is.for_slot.1 ∙ for.1) in
      let early = without_batch prepared.layer prepared.slot good.before in
      let late = without_batch prepared.layer prepared.slot good.after in
      let all : next.batches ≡ early ++ good.batch ∷ late =
      batches
      ∙ (sym (without-one prepared.layer prepared.slot batch is.for_slot after before is.alone_before is.alone_after)
      ∙ (ap (without_batch prepared.layer prepared.slot) (sym is.among ∙ good.is.among)
      ∙ (filter-append is_other good.before (good.batch ∷ good.after)
      ∙ ap (λ (t : Bool). early ++ cond (not t) (good.batch ∷ late) late) (other-false prepared.layer prepared.slot good.batch other_slot))))
      in
      stays-good other (belongings_of view) (belongings_of next) good sizes role early late all
      (All-filter is_other (λ b. ¬ IsForSlot other.layer other.slot b) good.before good.is.alone_before)
      (All-filter is_other (λ b. ¬ IsForSlot other.layer other.slot b) good.after good.is.alone_after)
      (λ s n has of_node inside.
      subst (λ (l : List Store). Contains l s) (sym written)
      (outside-keeps batch.nodes view.written s n has of_node
      (λ in_one.
      batches-apart view number pass current batch good.batch n (subst (λ (l : List Batch). Contains l batch) (sym is.among) (among-middle before batch after)) (good-among other view good)
      (λ same. other_slot (subst (IsForSlot prepared.layer prepared.slot) same is.for_slot)) in_one inside)))
