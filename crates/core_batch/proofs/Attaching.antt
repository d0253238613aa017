-- A batch that is to be attached: what is known of its slot, its nodes and its bodies before.
use Rattle.std.proofs.Common.{◌≡◌, ◌≢◌, ℕ, ◌<◌, true, Some, Contains, refl, ap, sym, ◌∙◌, subst, inl, inr, arith}
use Rattle.std.specs.Prelude.{flat_map, slice_index}
use Rattle.std.proofs.lemmas.Bool.{false≢true}
use Rattle.std.proofs.lemmas.List.Elements.{Contains-append_left}
use Rattle.fixed_box.specs.FixBox.{words_of}
use Rattle.scene_model.specs.declared.body_view.Phase.TheVariants.{Held}
use Rattle.scene_model.specs.Scene.{Record, record_at}
use Rattle.scene_model.specs.Step.{HasBody}
use Rattle.word_map.specs.declared.name.Name.{Name}
use Rattle.word_map.specs.declared.name.Name.TheVariants.{Phase, BoxWord, LocA, LocB, Child, Bound, Parent, Slot}
use Rattle.core_state.specs.declared.view.Call.{Call}
use Rattle.core_state.specs.Parts.{call_by_task}
use Rattle.core_state.specs.declared.view.Task.{Task}
use Rattle.core_state.specs.declared.view.Task.TheVariants.{Moving}
use Rattle.core_state.specs.declared.view.Marked.{Marked}
use Rattle.core_state.specs.declared.view.Batch.{Batch}
use Rattle.core_state.specs.declared.view.View.{View}
use Rattle.core_state.specs.View.{IsPass, known_word}
use Rattle.core_state.specs.Core.{Core, word_of, scene_of, IsViewAt}
use Rattle.core_state.specs.Encoding.{reserved_by, slot_tree, place, phase_join, IsBox, Covers, bound_in}
use Rattle.core_state.specs.Space.{IsInHull}
use Rattle.core_state.specs.Kind.{Step}
use Rattle.core_state.specs.Formed.{IsFormed}
use Rattle.core_state.specs.Guards.{GuardsHold, by_node}
use Rattle.core_state.specs.Nodes.{owned, node_in, Above, here, higher}
use Rattle.core_state.specs.Scope.{Sight, sight, scene_in}
use Rattle.core_state.specs.Bodies.{MovesBody, HasWholeBox, IsBetweenBoxes, IsForSlot, AreOtherSlots, all_batches}
use Rattle.core_state.specs.BodiesAgree.{body_scope, IsHeldFor}
use Rattle.core_state.specs.NodesInOnePlace.{node_scope}
use Rattle.core_state.specs.LocationsHold.{location_scope, IsPlannedIn, IsUnheld}
use Rattle.core_state.specs.Batches.{is_for, batch_for, IsPart, nothing, a_body, a_node, IsEntered, HasSide, IsWholeTree, attach}
use Rattle.core_state.specs.Invariants.{Invariants}
use Rattle.core_guard.proofs.Seats.{seat_seen, each-seat, has-seat}
use Rattle.core_guard.proofs.BodiesStep.{HoldsSlot, known-now}
use Rattle.core_guard.proofs.Leaving.{held-once}
use Rattle.core_state.proofs.Beginning.{contains_flat, body_record, record_body}
use Rattle.core_batch.proofs.Lists.{find-only, pairs-two}
use Rattle.core_batch.proofs.Owning.{same-seat, number-low, slot-reserved, batch-home}
use Rattle.core_batch.proofs.SlotLists.{is_for-true, is_for-slot}

-- a pass with the batch that it attaches
pub record Attaching (core : Core) : Type 0 where
  pub seat : ℕ
  pub number : ℕ
  pub layer : ℕ
  pub slot : ℕ
  pub root : ℕ
  pub second : ℕ
  pub view : View
  pub batch : Batch
  pub at : IsViewAt core seat view
  pub pass : IsPass view number
  pub among : Contains view.batches batch
  pub for_slot : IsForSlot layer slot batch
  pub whole : IsWholeTree (known_word view) batch root

-- its step
abbrev pub step_of : (core : Core) → Attaching core → Step
step_of core a = record { seat = a.seat; view = a.view; number = a.number; name = Slot a.layer a.slot; first = slot_tree a.root; second = a.second }

-- ---- bodies

-- who stands between the box words of a body gives it another box
moves-held : (s : Sight) (call : Call) (task : Task) (i : ℕ) → MovesBody task i → IsUnheld s (call_by_task task call).task → call.task ≡ task → ¬ HasBody (scene_in s) i (λ r. r.phase ≡ Held)
moves-held s call (Moving index target) i moves unheld at held =
    held-once (record_at (scene_in s) index) (subst (IsUnheld s) at unheld) (subst (λ (k : ℕ). HasBody (scene_in s) k (λ r. r.phase ≡ Held)) (sym moves) held)
moves-held s call _ i moves unheld at held = absurd moves

-- the body at an index, which the batch holds, stands at its place in the batch's nodes
pub record IsJoining (core : Core) (layer slot : ℕ) (batch : Batch) (m : Marked) (i : ℕ) : Type 0 where
  pub index : m.index ≡ i
  pub body : Record
  pub live : record_at (scene_of core) i ≡ Some body
  pub held : body.phase ≡ Held
  pub in_layer : body.layer ≡ layer
  pub phase : word_of core (Phase i) ≡ phase_join slot
  pub box : (k : ℕ) → k < 6 → word_of core (BoxWord i k) ≡ slice_index m.bounds k
  pub bounds : (k : ℕ) → k < 6 → slice_index (words_of body.bounds) k ≡ slice_index m.bounds k
  pub first : word_of core (LocA i) ≡ m.place
  pub second : word_of core (LocB i) ≡ 0
  pub entered : IsEntered (word_of core) batch m

-- ---- what is known of it

module _ (core : Core) (a : Attaching core) (formed : IsFormed core) where
  -- another pass has another number
  pub other_number : (seat number : ℕ) (view : View) → seat ≢ a.seat → IsViewAt core seat view → IsPass view number → number ≢ a.number
  other_number seat number view apart at pass same = apart (same-seat core formed seat a.seat a.number view a.view at a.at (pass ∙ ap Some same) a.pass)

  module _ (h : Invariants core) where
    -- the slot is reserved by the pass
    pub was_reserved : word_of core (Slot a.layer a.slot) ≡ reserved_by a.number
    was_reserved = slot-reserved core formed h.bodies a.seat a.number a.layer a.slot a.view a.at a.pass (a.batch, a.among, a.for_slot)

    -- so it names no tree
    pub no_tree : (root : ℕ) → word_of core (Slot a.layer a.slot) ≢ slot_tree root
    no_tree root names = let was = was_reserved in let few = number-low core formed a.seat a.number a.view a.at a.pass in absurd (omega arith)

    -- no other pass has a batch for it
    pub no_other : (seat number : ℕ) (view : View) → seat ≢ a.seat → IsViewAt core seat view → IsPass view number → ¬ HoldsSlot a.layer a.slot view
    no_other seat number view apart at pass holds =
        let word = slot-reserved core formed h.bodies seat number a.layer a.slot view at pass holds in
        let was = was_reserved in
        other_number seat number view apart at pass (omega arith)

    pub in_all : Contains (all_batches (sight body_scope core)) a.batch
    in_all = contains_flat (λ v. v.batches) (sight body_scope core).passes _ a.batch (seat_seen body_scope core a.seat a.number a.view a.at a.pass) a.among

    -- and no other batch is
    pub only_batch : (b : Batch) → Contains (all_batches (sight body_scope core)) b → IsForSlot a.layer a.slot b → b ≡ a.batch
    only_batch b among for =
        elim (pairs-two AreOtherSlots (all_batches (sight body_scope core)) b a.batch h.bodies.slots among in_all) [
          | inl same ↦ same
          | inr other ↦
              elim other [
                | inl apart ↦ absurd (apart (for.0 ∙ sym a.for_slot.0, for.1 ∙ sym a.for_slot.1))
                | inr apart ↦ absurd (apart (a.for_slot.0 ∙ sym for.0, a.for_slot.1 ∙ sym for.1))
              ]
        ]

    pub only_own : (b : Batch) → Contains a.view.batches b → IsForSlot a.layer a.slot b → b ≡ a.batch
    only_own b among for = only_batch b (contains_flat (λ v. v.batches) (sight body_scope core).passes _ b (seat_seen body_scope core a.seat a.number a.view a.at a.pass) among) for

    pub found : batch_for a.layer a.slot a.view ≡ Some a.batch
    found =
        find-only (λ b. is_for a.layer a.slot b) a.view.batches a.batch a.among (is_for-true a.layer a.slot a.batch a.for_slot)
        (λ b among passes. only_own b among (is_for-slot a.layer a.slot b passes))

    -- ---- nodes

    -- the nodes are batch nodes of the pass
    pub batch_node : (n : ℕ) → Contains a.batch.nodes n → n < core.config.nodes
    batch_node n inside =
        h.places.batches a.batch n (contains_flat (λ v. v.batches) (sight node_scope core).passes _ a.batch (seat_seen node_scope core a.seat a.number a.view a.at a.pass) a.among) inside

    pub was_home : (n : ℕ) → Contains a.batch.nodes n → h.nodes.home n ≡ owned a.number
    was_home n inside = batch-home core h.nodes h.places a.seat a.number a.view a.at a.pass n (Contains-append_left (flat_map (λ b. b.nodes) a.view.batches) a.view.loose n (contains_flat (λ b. b.nodes) a.view.batches a.batch n a.among inside))

    module _ (guards : GuardsHold core) where
      -- their words are those that the pass knew
      pub node_word : (name : Name) (n : ℕ) → Contains a.batch.nodes n → node_in name ≡ Some n → word_of core name ≡ known_word a.view name
      node_word name n inside of_node =
          known-now attach core (step_of core a) a.at a.pass name formed guards
          (by_node n (Contains-append_left (flat_map (λ b. b.nodes) a.view.batches) _ n (contains_flat (λ b. b.nodes) a.view.batches a.batch n a.among inside)) of_node)

      pub child_word : (n k : ℕ) → Contains a.batch.nodes n → word_of core (Child n k) ≡ known_word a.view (Child n k)
      child_word n k inside = node_word (Child n k) n inside refl

      pub parent_word : (n : ℕ) → Contains a.batch.nodes n → word_of core (Parent n) ≡ known_word a.view (Parent n)
      parent_word n inside = node_word (Parent n) n inside refl

      pub part_now : (n k : ℕ) → Contains a.batch.nodes n → IsPart (known_word a.view) a.batch a.whole.depth n k → IsPart (word_of core) a.batch a.whole.depth n k
      part_now n k inside (nothing e) = nothing (child_word n k inside ∙ e)
      part_now n k inside (a_body m marked at e) = a_body m marked at (child_word n k inside ∙ e)
      part_now n k inside (a_node c below e parent depth) = a_node c below (child_word n k inside ∙ e) (parent_word c below ∙ parent) depth

      -- the ways up are those that it knew
      above_known : (n k x y : ℕ) → Contains a.batch.nodes n → Above (word_of core) n k x y → Contains a.batch.nodes x × Above (known_word a.view) n k x y
      above_known n k x y inside (here p q) = (inside, here p q)
      above_known n k x y inside (higher p q m j c d up below rest) =
          let parent : known_word a.view (Parent p) ≡ place m j = sym (parent_word p inside) ∙ up in
          elim (a.whole.under_root p inside) [
            | inl top ↦ let none = top.1 in absurd (omega arith)
            | inr t ↦
                let at = t.4 in
                let less = t.2 in
                let same : t.0 ≡ m = omega arith in
                let later = above_known m j c d (subst (λ (z : ℕ). Contains a.batch.nodes z) same t.3) rest in
                (later.0, higher p q m j c d parent below later.1)
          ]

      pub entered_now : (m : Marked) → IsEntered (known_word a.view) a.batch m → IsEntered (word_of core) a.batch m
      entered_now m e = record {
        placed = e.placed;
        node = e.node;
        child = e.child;
        below = e.below;
        in_batch = e.in_batch;
        at = e.at;
        entry = child_word e.node e.child e.in_batch ∙ e.entry;
        encloses = λ x y up.
            let t = above_known e.node e.child x y e.in_batch up in
            subst (λ (b : ℕ → ℕ). Covers b (λ q. slice_index m.bounds q)) (λ i q. sym (node_word (Bound x y q) x t.0 refl) i) (e.encloses x y t.1);
      }

      -- so they are a whole tree by the words as they are
      abbrev pub whole_now : IsWholeTree (word_of core) a.batch a.root
      whole_now =
          let w = a.whole in
          let bounds : (n k : ℕ) → Contains a.batch.nodes n → bound_in (known_word a.view) n k ≡ bound_in (word_of core) n k =
          λ n k inside. λ i q. sym (node_word (Bound n k q) n inside refl) i
          in
          record {
            depth = w.depth;
            rooted = w.rooted;
            parts = λ n k inside below. part_now n k inside (w.parts n k inside below);
            under_root = λ n inside.
                elim (w.under_root n inside) [
                  | inl top ↦ inl (top.0, parent_word n inside ∙ top.1)
                  | inr t ↦ inr (t.0, t.1, t.2, t.3, parent_word n inside ∙ t.4, child_word t.0 t.1 t.3 ∙ t.5)
                ];
            height = w.height;
            entered = λ m marked. entered_now m (w.entered m marked);
            some = w.some;
            boxes = λ n k inside below child. subst IsBox (bounds n k inside) (w.boxes n k inside below (λ e. child (child_word n k inside ∙ e)));
            tight = λ n k inside below child. subst (IsInHull (HasSide a.batch)) (bounds n k inside) (w.tight n k inside below (λ e. child (child_word n k inside ∙ e)));
          }

      -- ---- bodies

      held_for : (m : Marked) → Contains a.batch.marked m → IsHeldFor (sight body_scope core) a.batch m
      held_for m marked = h.bodies.marked a.batch m in_all marked

      -- nobody gives a held body another box
      whole_box : (m : Marked) → Contains a.batch.marked m → HasWholeBox (sight body_scope core) m.index
      whole_box m marked number between =
          let from = has-seat body_scope (λ n v. refl) core number (λ v. IsBetweenBoxes v m.index) between in
          let unheld = each-seat location_scope (λ n v. refl) core (λ n v. IsUnheld (sight location_scope core) v.call.task) h.locations.unheld from.seat number from.view from.at from.pass in
          let t = body_record (record_at (scene_of core) m.index) _ (held_for m marked).held in
          moves-held (sight location_scope core) from.view.call from.view.call.task m.index from.holds.0 unheld refl (record_body (record_at (scene_of core) m.index) (λ r. r.phase ≡ Held) t.0 t.1 t.2.0)

      planned_at : (m : Marked) → m.is_placed ≡ true → IsPlannedIn (sight location_scope core) a.batch m → word_of core (LocA m.index) ≡ m.place
      planned_at m placed h =
          elim h [
            | inl t ↦ absurd (false≢true (sym t.0 ∙ placed))
            | inr t ↦ t.1
          ]

      pub joining : (m : Marked) → Contains a.batch.marked m → IsJoining core a.layer a.slot a.batch m m.index
      joining m marked =
          let for = held_for m marked in
          let t = body_record (record_at (scene_of core) m.index) _ for.held in
          let words = (h.bodies.live m.index t.0 t.1).bounds (whole_box m marked) in
          let entered = entered_now m (a.whole.entered m marked) in
          let planned = h.locations.held a.batch m (contains_flat (λ v. v.batches) (sight location_scope core).passes _ a.batch (seat_seen location_scope core a.seat a.number a.view a.at a.pass) a.among) marked in
          record {
            index = refl;
            body = t.0;
            live = t.1;
            held = t.2.0;
            in_layer = t.2.1 ∙ a.for_slot.0;
            phase = for.phase ∙ ap phase_join a.for_slot.1;
            box = for.bounds;
            bounds = λ k below. sym (words k below) ∙ for.bounds k below;
            first = planned_at m entered.placed planned.0;
            second = planned.1;
            entered = entered;
          }
