-- The steps by which an update publishes its new trees, and what they ask as tests.
use Rattle.std.proofs.Common.{◌≡◌, ◌⊎◌, ℕ, zero, suc, ◌-◌, ◌/◌, ◌%◌, ◌==◌, Bool, true, false, cond, List, [], ◌∷◌, length, map, Option, Some, None, refl, ap, sym, ◌∙◌, inl, inr}
use Rattle.std.specs.Prelude.{slice_index}
use Rattle.fixed_box.specs.declared.fix_box.FixBox.{FixBox}
use Rattle.fixed_box.specs.FixBox.{words_of}
use Rattle.word_map.specs.declared.name.Name.TheVariants.{Child, Main, Slot}
use Rattle.core_state.specs.declared.item.Store.{Store}
use Rattle.core_state.specs.declared.view.Task.{Task}
use Rattle.core_state.specs.declared.view.Task.TheVariants.{Nothing, Placing}
use Rattle.core_state.specs.declared.view.Merged.{Merged}
use Rattle.core_state.specs.declared.view.Noted.{Noted}
use Rattle.core_state.specs.declared.view.Rebuild.{Rebuild}
use Rattle.core_state.specs.declared.view.View.{View}
use Rattle.core_state.specs.Boxes.{box_of}
use Rattle.core_state.specs.Encoding.{sides_of}
use Rattle.core_state.specs.Event.{of_updates}
use Rattle.core_run.proofs.Tests.{◌>>=◌, same?, other?, below?, true?, false?, some?, is_some?, empty?, filled?, same_list?, entry?, each?, member?, idle?}
use Rattle.core_run.proofs.Steps.{Test, Move, act}
use Rattle.scene_model.specs.Tree.{Tree, nothing, body, node, tree}
use Rattle.core_state.specs.Updates.{IsPlacing, IsDone, merged_tree}
use Rattle.core_state.specs.Exchanging.{tree_of_child, written_word, written_tree, notes_of_layer, IsNewMain, of_none, of_tree, MayExchange, exchange_main, MayClearSlot, clear_slot}
use Rattle.core_state.specs.UpdateEvent.{exchanges_main, clears_slot}

-- ---- trees

pub same_nodes : (a b c d e f g h : Tree) → a ≡ e → b ≡ f → c ≡ g → d ≡ h → node a b c d ≡ node e f g h
same_nodes a b c d e f g h p q r s = λ i. node (p i) (q i) (r i) (s i)

abbrev pub same_tree? : (a b : Tree) → Option (a ≡ b)
same_tree? nothing nothing = Some refl
same_tree? (body i) (body j) = do
  same ← same? i j
  Some (ap body same)
same_tree? (node a b c d) (node e f g h) = do
  first ← same_tree? a e
  second ← same_tree? b f
  third ← same_tree? c g
  last ← same_tree? d h
  Some (same_nodes a b c d e f g h first second third last)
same_tree? _ _ = None

-- the tree that was stored, read no further than it goes
abbrev pub picked : Bool → Bool → (ℕ → Tree) → ℕ → Tree
picked true odd below x = nothing
picked false true below x = body (x / 2)
picked false false below x = below ((x - 2) / 2)

pub picked-same : (none odd : Bool) (f g : ℕ → Tree) (x : ℕ) → f ((x - 2) / 2) ≡ g ((x - 2) / 2) → picked none odd f x ≡ cond none nothing (cond odd (body (x / 2)) (g ((x - 2) / 2)))
picked-same true odd f g x same = refl
picked-same false true f g x same = refl
picked-same false false f g x same = same

abbrev pub stored_tree : List Store → ℕ → ℕ → Tree
stored_tree written zero n = nothing
stored_tree written (suc levels) n =
    let at = λ (k : ℕ). let x = written_word written (Child n k) in picked (x == 0) (x % 2 == 1) (stored_tree written levels) x in
    node (at 0) (at 1) (at 2) (at 3)

pub stored-same : (written : List Store) (levels n : ℕ) → stored_tree written levels n ≡ written_tree written levels n
stored-same written zero n = refl
stored-same written (suc levels) n = at_each (λ m. stored-same written levels m)
  where
    at : ((m : ℕ) → stored_tree written levels m ≡ written_tree written levels m) → (k : ℕ)
        → picked (written_word written (Child n k) == 0) (written_word written (Child n k) % 2 == 1) (stored_tree written levels) (written_word written (Child n k))
        ≡ tree_of_child (written_tree written levels) (written_word written (Child n k))
    at below k = picked-same _ _ (stored_tree written levels) (written_tree written levels) (written_word written (Child n k)) (below _)

    at_each : ((m : ℕ) → stored_tree written levels m ≡ written_tree written levels m) → stored_tree written (suc levels) n ≡ written_tree written (suc levels) n
    at_each below = same_nodes _ _ _ _ _ _ _ _ (at below 0) (at below 1) (at below 2) (at below 3)

-- ---- what was noted in a layer

abbrev pub HasNotes : List Noted → Type 0
HasNotes notes = (bodies : List (ℕ × FixBox)) × (map (λ b. b.0) bodies ≡ map (λ n. n.index) notes) × (map (λ b. words_of b.1) bodies ≡ map (λ n. n.bounds) notes)

abbrev pub note_more : (n : Noted) (box : FixBox) (notes : List Noted) → words_of box ≡ n.bounds → HasNotes notes → HasNotes (n ∷ notes)
note_more n box notes same more = ((n.index, box) ∷ more.0, (λ i. n.index ∷ more.1 i), (λ i. same i ∷ more.2 i))

abbrev pub bodies_of? : (notes : List Noted) → Option (HasNotes notes)
bodies_of? [] = Some ([], refl, refl)
bodies_of? (n ∷ notes) = do
  box ← box_of (sides_of n.bounds)
  same ← same_list? (words_of box) n.bounds
  more ← bodies_of? notes
  Some (note_more n box notes same more)

abbrev pub new_main? : (view : View) (r : Rebuild) (layer value : ℕ) → Option (IsNewMain view r layer value)
new_main? view r layer zero = do
  none ← empty? (notes_of_layer r layer)
  Some (of_none refl none)
new_main? view r layer (suc root) = do
  planned ← true? r.is_planned
  notes ← bodies_of? (notes_of_layer r layer)
  some ← filled? notes.0
  same ← same_tree? (stored_tree view.written 10 root) (tree notes.0)
  Some (of_tree root notes.0 planned refl (record { indexes = notes.1; bounds = notes.2 }) some (sym (stored-same view.written 10 root) ∙ same))

-- ---- the steps

abbrev pub not_placing? : (task : Task) (index : ℕ) → Option (¬ IsPlacing task index)
not_placing? (Placing i) index = other? i index
not_placing? Nothing index = Some (λ h. h)
not_placing? _ index = None

abbrev pub done? : (view : View) (r : Rebuild) (index : ℕ) → Option (IsDone view r index)
done? view r index = elim (member? r.given_up index) [
  | Some gone ↦ Some (inr gone)
  | None ↦ do
    placed ← member? r.placed index
    free ← not_placing? view.call.task index
    Some (inl (placed, free))
]

abbrev pub planned? : (r : Rebuild) → Option ((r.is_planned ≡ true) ⊎ (r.noted ≡ []))
planned? r = elim (true? r.is_planned) [
  | Some planned ↦ Some (inl planned)
  | None ↦ do
    none ← empty? r.noted
    Some (inr none)
]

abbrev pub may_exchange? : Test MayExchange
may_exchange? view (Main layer) value second = do
  r ← some? view.rebuild
  idle ← idle? view.call.task
  arena ← is_some? r.0.arena
  all ← same? r.0.passed view.config.bodies
  planned ← planned? r.0
  next ← same? layer (length r.0.swapped)
  done ← each? {P = λ n. IsDone view r.0 n.index} (λ n. done? view r.0 n.index) r.0.noted
  unread ← empty? r.0.readers
  unreclaimed ← false? r.0.is_reclaimed
  root ← same? value (slice_index r.0.roots layer)
  of_notes ← new_main? view r.0 layer value
  Some (record { layer = layer; r = r.0; names = refl; update = r.1; idle = idle; arena = arena; all_bodies = all; planned = planned; next = next; done = done; unread = unread; unreclaimed = unreclaimed; root = root; of_notes = of_notes })
may_exchange? view _ value second = None

abbrev pub exchanges_main_word : (seat layer value : ℕ) → Move
exchanges_main_word seat layer value = act exchange_main may_exchange? (λ before after s. of_updates (exchanges_main s)) seat (Main layer) value 0

pub next_merged : (m : Merged) (layer slot : ℕ) → m.layer ≡ layer → m.slot ≡ slot → m ≡ merged_tree layer slot m.root
next_merged m layer slot e f = λ i. record { layer = e i; slot = f i; root = m.root }

abbrev pub may_clear_slot? : Test MayClearSlot
may_clear_slot? view (Slot layer slot) value second = do
  r ← some? view.rebuild
  all ← same? r.0.passed view.config.bodies
  planned ← planned? r.0
  swapped ← same? (length r.0.swapped) view.config.layers
  some_left ← below? r.0.cleared (length r.0.merged)
  next ← entry? r.0.merged r.0.cleared
  of_layer ← same? next.0.layer layer
  of_slot ← same? next.0.slot slot
  unread ← empty? r.0.readers
  unreclaimed ← false? r.0.is_reclaimed
  none ← same? value 0
  Some (record {
    layer = layer;
    slot = slot;
    root = next.0.root;
    r = r.0;
    names = refl;
    update = r.1;
    all_bodies = all;
    planned = planned;
    all_swapped = swapped;
    some_left = some_left;
    next = next.1 (merged_tree layer slot next.0.root) ∙ next_merged next.0 layer slot of_layer of_slot;
    unread = unread;
    unreclaimed = unreclaimed;
    none = none;
  })
may_clear_slot? view _ value second = None

abbrev pub clears_slot_word : (seat layer slot : ℕ) → Move
clears_slot_word seat layer slot = act clear_slot may_clear_slot? (λ before after s. of_updates (clears_slot s)) seat (Slot layer slot) 0 0
