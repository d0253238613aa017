-- A slot is reserved, or let go: what each is, and that the nodes are in one place.
use Rattle.std.proofs.Common.{◌≡◌, ℕ, List, [], ◌∷◌, ◌++◌, Bool, false, cond, eqb, Option, Contains, AllPairs, refl, ap, sym, ◌∙◌, subst, inl, inr}
use Rattle.std.specs.Prelude.{flat_map, option_map}
use Rattle.std.proofs.lemmas.Bool.{cases_Bool, eqb-true}
use Rattle.std.proofs.lemmas.Option.{same_Some}
use Rattle.std.proofs.lemmas.List.{append-nil}
use Rattle.std.proofs.lemmas.List.Concat.{flat_map-append}
use Rattle.word_map.specs.declared.name.Name.{Name}
use Rattle.word_map.specs.declared.name.Name.TheVariants.{Slot}
use Rattle.word_map.specs.Names.{pool_lock}
use Rattle.core_state.specs.declared.view.Mode.TheVariants.{Write}
use Rattle.core_state.specs.declared.view.Batch.{Batch}
use Rattle.core_state.specs.declared.view.View.{View}
use Rattle.core_state.specs.View.{Holds}
use Rattle.core_state.specs.Core.{Core, word_of}
use Rattle.core_state.specs.Kind.{Kind, Step, learned, found_by, view_after, after_step}
use Rattle.core_state.specs.Encoding.{reserved_by}
use Rattle.core_state.specs.Nodes.{nodes_of, nodes_in}
use Rattle.core_state.specs.Parts.{task_on_pool, update_on_nodes}
use Rattle.core_state.specs.Batches.{MayReserve, reserve, new_batch, reserved_if, MayLetSlotGo, let_slot_go, let_go_view, nodes_for, batch_nodes_of}
use Rattle.core_state.specs.Bodies.{IsForSlot, AreOtherSlots}
use Rattle.core_state.specs.BodiesAgree.{body_scope}
use Rattle.core_state.specs.NodesInOnePlace.{NodesInOnePlace, node_scope}
use Rattle.core_state.specs.Scope.{sight, IsOnce}
use Rattle.core_state.proofs.Beginning.{cases_cons}
use Rattle.core_state.proofs.Opening.{none_in}
use Rattle.core_guard.proofs.Leaving.{Acts, lawful}
use Rattle.core_guard.proofs.NodesLeft.{KeepsNodes, same-nodes, unseen-pool, unseen-update, NodesInOnePlace-stays}
use Rattle.core_guard.proofs.Seats.{seat_seen}
use Rattle.core_batch.proofs.Lists.{pairs-left, pairs-right}
use Rattle.core_batch.proofs.SlotLists.{IsBatchCut, cut_batch, once_moved, moved-forth, moved-back}

-- ---- what the steps are

-- the slot was empty, and is reserved for a new batch
pub record IsReserving (core : Core) (step : Step) (l t : ℕ) : Type 0 where
  pub names : step.name ≡ Slot l t
  pub empty : word_of core step.name ≡ 0
  pub expected : step.first ≡ 0
  pub own : step.second ≡ reserved_by step.number
  pub left : reserved_if (learned core step) step.name (found_by core step) step.first ≡ record (learned core step) { batches = step.view.batches ++ new_batch l t ∷ [] }

-- it was not, and nothing is stored
pub record IsMissing (core : Core) (step : Step) : Type 0 where
  pub missed : eqb (found_by core step) step.first ≡ false
  pub left : reserved_if (learned core step) step.name (found_by core step) step.first ≡ learned core step

pub data ReserveStep (core : Core) (step : Step) : Type 0 where
  reserving : (l t : ℕ) → IsReserving core step l t → ReserveStep core step
  missing : IsMissing core step → ReserveStep core step

pub reserve-step : (core : Core) (step : Step) (a : Acts core step) → MayReserve step.view step.name step.first step.second → ReserveStep core step
reserve-step core step a asked =
    let l = asked.layer in
    let t = asked.slot in
    let name : reserved_if (learned core step) step.name (found_by core step) step.first ≡ reserved_if (learned core step) (Slot l t) (found_by core step) step.first =
    ap (λ (n : Name). reserved_if (learned core step) n (found_by core step) step.first) asked.names in
    elim (cases_Bool (eqb (found_by core step) step.first)) [
      | inl hit ↦
          reserving l t
          (record {
            names = asked.names;
            empty = eqb-true (found_by core step) step.first hit ∙ asked.empty;
            expected = asked.empty;
            own = asked.own ∙ ap reserved_by (same_Some asked.number step.number (sym asked.pass ∙ a.pass));
            left = name ∙ ap (λ (b : Bool). cond b (record (learned core step) { batches = step.view.batches ++ new_batch l t ∷ [] }) (learned core step)) hit;
          })
      | inr missed ↦
          missing
          (record {
            missed = missed;
            left = name ∙ ap (λ (b : Bool). cond b (record (learned core step) { batches = step.view.batches ++ new_batch l t ∷ [] }) (learned core step)) missed;
          })
    ]

-- the view after a slot is let go
abbrev pub freed_view : Core → Step → ℕ → ℕ → View
freed_view core step l t = let_go_view (learned core step) (Slot l t)

pub freed-left : (core : Core) (step : Step) (asked : MayLetSlotGo step.view step.name step.first step.second) → let_go_view (learned core step) step.name ≡ freed_view core step asked.layer asked.slot
freed-left core step asked = ap (let_go_view (learned core step)) asked.names

-- ---- batches

-- the batches of one slot are one batch
pub slot_batch : (xs : List Batch) (l t : ℕ) (b c : Batch) → AllPairs AreOtherSlots xs → Contains xs b → Contains xs c → IsForSlot l t b → IsForSlot l t c → b ≡ c
slot_batch xs l t b c h one two for_one for_two =
    let first = (cut_batch l t xs b h one for_one).found in
    let second = (cut_batch l t xs c h two for_two).found in
    same_Some b c (sym first ∙ second)

-- the batches of all passes hold other slots, and so do those of each
view_apart : (views : List View) (v : View) → Contains views v → AllPairs AreOtherSlots (flat_map (λ w. w.batches) views) → AllPairs AreOtherSlots v.batches
view_apart [] v among h = absurd (none_in _ among)
view_apart (w ∷ views) v among h =
    elim (cases_cons w views v among) [
      | inl same ↦ subst (λ (u : View). AllPairs AreOtherSlots u.batches) same (pairs-left AreOtherSlots w.batches (flat_map (λ u. u.batches) views) h)
      | inr rest ↦ view_apart views v rest (pairs-right AreOtherSlots w.batches (flat_map (λ u. u.batches) views) h)
    ]

pub own_apart : (core : Core) (step : Step) (a : Acts core step) → AllPairs AreOtherSlots step.view.batches
own_apart core step a = view_apart (sight body_scope core).passes _ (seat_seen body_scope core step.seat step.number step.view a.at a.pass) a.laws.bodies.slots

-- ---- nodes

module _ (kind : Kind) (core : Core) (step : Step) (a : Acts core step) (l t : ℕ) (names : step.name ≡ Slot l t) where
  -- a step on a slot, after which the pass has the nodes that it had
  slot-nodes : (left : View) → kind.leaves (learned core step) step.name (found_by core step) step.first step.second ≡ left → left.locks ≡ step.view.locks → left.call ≡ step.view.call
      → left.rebuild ≡ step.view.rebuild → KeepsNodes kind core step → NodesInOnePlace a.laws.nodes (after_step kind core step)
  slot-nodes left is locks call rebuild keeps =
      let none : node_scope.names step.name ≡ false = ap node_scope.names names in
      NodesInOnePlace-stays kind core step (lawful a)
      (unseen-pool kind core step none (ap (λ (v : View). task_on_pool v.call.task) is ∙ ap (λ c. task_on_pool c.task) call)
      (λ pooling holds. subst (λ k. Holds (record step.view { locks = k }) (pool_lock core.config) Write) (sym (ap (λ (v : View). v.locks) is ∙ locks)) holds))
      keeps (unseen-update kind core step none (ap (λ (v : View). option_map update_on_nodes v.rebuild) is ∙ ap (λ o. option_map update_on_nodes o) rebuild))

pub NodesInOnePlace-reserve : (core : Core) (step : Step) (a : Acts core step) → MayReserve step.view step.name step.first step.second → NodesInOnePlace a.laws.nodes (after_step reserve core step)
NodesInOnePlace-reserve core step a asked = go (reserve-step core step a asked)
  where
    go : ReserveStep core step → NodesInOnePlace a.laws.nodes (after_step reserve core step)
    go (reserving l t r) =
        slot-nodes reserve core step a l t r.names _ r.left refl refl refl
        (same-nodes reserve core step
        (ap (λ (v : View). flat_map (λ b. b.nodes) v.batches) r.left
        ∙ (flat_map-append (λ (b : Batch). b.nodes) step.view.batches (new_batch l t ∷ []) ∙ append-nil (flat_map (λ (b : Batch). b.nodes) step.view.batches)))
        (ap (λ (v : View). v.loose) r.left) (ap (λ (v : View). nodes_in v.rebuild) r.left))
    go (missing m) =
        slot-nodes reserve core step a asked.layer asked.slot asked.names _ m.left refl refl refl
        (same-nodes reserve core step (ap (λ (v : View). flat_map (λ b. b.nodes) v.batches) m.left) (ap (λ (v : View). v.loose) m.left) (ap (λ (v : View). nodes_in v.rebuild) m.left))

module _ (core : Core) (step : Step) (a : Acts core step) (asked : MayLetSlotGo step.view step.name step.first step.second) where
  abbrev Last : View
  Last = view_after let_slot_go core step

  pub freed-cut : IsBatchCut asked.layer asked.slot step.view.batches asked.batch
  freed-cut = cut_batch asked.layer asked.slot step.view.batches asked.batch (own_apart core step a) asked.has.among asked.has.for_slot

  abbrev flat : List Batch → List ℕ
  flat xs = flat_map (λ b. b.nodes) xs

  abbrev updated : List ℕ
  updated = nodes_in step.view.rebuild

  flat_before : flat step.view.batches ≡ flat freed-cut.front ++ (asked.batch.nodes ++ flat freed-cut.back)
  flat_before = ap flat freed-cut.whole ∙ flat_map-append (λ (b : Batch). b.nodes) freed-cut.front (asked.batch ∷ freed-cut.back)

  flat_after : flat Last.batches ≡ flat freed-cut.front ++ flat freed-cut.back
  flat_after = ap (λ (v : View). flat v.batches) (freed-left core step asked) ∙ (ap flat freed-cut.rest ∙ flat_map-append (λ (b : Batch). b.nodes) freed-cut.front freed-cut.back)

  loose_after : Last.loose ≡ step.view.loose ++ asked.batch.nodes
  loose_after = ap (λ (v : View). v.loose) (freed-left core step asked) ∙ ap (λ (o : Option Batch). step.view.loose ++ nodes_for o) freed-cut.found

  nodes_before : nodes_of step.view ≡ (flat freed-cut.front ++ (asked.batch.nodes ++ flat freed-cut.back)) ++ (step.view.loose ++ updated)
  nodes_before = ap (λ (x : List ℕ). x ++ (step.view.loose ++ updated)) flat_before

  nodes_after : nodes_of Last ≡ (flat freed-cut.front ++ flat freed-cut.back) ++ ((step.view.loose ++ asked.batch.nodes) ++ updated)
  nodes_after = λ i. flat_after i ++ (loose_after i ++ nodes_in (freed-left core step asked i).rebuild)

  keeps : KeepsNodes let_slot_go core step
  keeps = record {
    forth = λ n is.
        subst (λ (x : List ℕ). Contains x n) (sym nodes_after)
        (moved-forth (flat freed-cut.front) asked.batch.nodes (flat freed-cut.back) step.view.loose updated n (subst (λ (x : List ℕ). Contains x n) nodes_before is));
    back = λ n is.
        subst (λ (x : List ℕ). Contains x n) (sym nodes_before)
        (moved-back (flat freed-cut.front) asked.batch.nodes (flat freed-cut.back) step.view.loose updated n (subst (λ (x : List ℕ). Contains x n) nodes_after is));
    once = λ once. subst IsOnce (sym nodes_after) (once_moved (flat freed-cut.front) asked.batch.nodes (flat freed-cut.back) step.view.loose updated (subst IsOnce nodes_before once));
    batch = λ n is.
        let mid : batch_nodes_of Last ≡ (flat freed-cut.front ++ flat freed-cut.back) ++ (step.view.loose ++ asked.batch.nodes) = (λ i. flat_after i ++ loose_after i) in
        let nil : (x : List ℕ) → x ++ [] ≡ x = append-nil in
        let from = subst (λ (x : List ℕ). Contains x n) mid is in
        let moved =
        moved-back (flat freed-cut.front) asked.batch.nodes (flat freed-cut.back) step.view.loose [] n
        (subst (λ (x : List ℕ). Contains ((flat freed-cut.front ++ flat freed-cut.back) ++ x) n) (sym (nil (step.view.loose ++ asked.batch.nodes))) from)
        in
        subst (λ (x : List ℕ). Contains (x ++ step.view.loose) n) (sym flat_before)
        (subst (λ (x : List ℕ). Contains ((flat freed-cut.front ++ (asked.batch.nodes ++ flat freed-cut.back)) ++ x) n) (nil step.view.loose) moved);
  }

  pub NodesInOnePlace-let_slot_go : NodesInOnePlace a.laws.nodes (after_step let_slot_go core step)
  NodesInOnePlace-let_slot_go = slot-nodes let_slot_go core step a asked.layer asked.slot asked.names _ (freed-left core step asked) refl refl refl keeps
