-- Which of some batches is the one for a slot.
use Rattle.std.specs.Prelude.{not, flat_map, Contains}
use Rattle.std.proofs.Common.{◌≡◌, ℕ, Bool, false, List, [], ◌∷◌, ◌++◌, All, Option, Some, cond, find, refl, ap, ◌∙◌}
use Rattle.std.proofs.lemmas.Bool.{false_from_ne_true}
use Rattle.std.proofs.lemmas.List.Elements.{All-head, All-tail, Contains-append_left}
use Rattle.core_state.specs.declared.view.Batch.{Batch}
use Rattle.core_state.specs.Bodies.{IsForSlot}
use Rattle.core_state.specs.Batches.{is_for, change_batch, without_batch}
use Rattle.core_batch.proofs.SlotLists.{is_for-true, is_for-slot}
use Rattle.core_batch.proofs.Lists.{contains_later}
use Rattle.core_state.proofs.Beginning.{contains_flat, contains_first}
use Rattle.core_state.specs.declared.view.View.{View}
use Rattle.core_state.specs.Guards.{Owns, by_node, private_nodes}
use Rattle.core_state.specs.Nodes.{node_in}
use Rattle.word_map.specs.declared.name.Name.{Name}

module _ (l t : ℕ) where
  abbrev IsOther : Batch → Type 0
  IsOther b = ¬ IsForSlot l t b

  pub other-false : (b : Batch) → IsOther b → is_for l t b ≡ false
  other-false b other = false_from_ne_true (is_for l t b) (λ e. other (is_for-slot l t b e))

  -- where none is for it, none is left out, found or changed
  pub without-none : (bs : List Batch) → All (λ b. ¬ IsForSlot l t b) bs → without_batch l t bs ≡ bs
  without-none [] others = refl
  without-none (b ∷ bs) others =
      ap (λ (e : Bool). cond (not e) (b ∷ without_batch l t bs) (without_batch l t bs)) (other-false b (All-head IsOther b bs others))
      ∙ ap (λ (r : List Batch). b ∷ r) (without-none bs (All-tail IsOther b bs others))

  pub change-none : (change : Batch → Batch) (bs : List Batch) → All (λ b. ¬ IsForSlot l t b) bs → change_batch l t change bs ≡ bs
  change-none change [] others = refl
  change-none change (b ∷ bs) others =
      (λ i. cond (other-false b (All-head IsOther b bs others) i) (change b) b ∷ change-none change bs (All-tail IsOther b bs others) i)

  -- where one is for it, it is this one
  module _ (batch : Batch) (own : IsForSlot l t batch) (after : List Batch) where
    pub without-one : (before : List Batch) → All (λ b. ¬ IsForSlot l t b) before → All (λ b. ¬ IsForSlot l t b) after → without_batch l t (before ++ batch ∷ after) ≡ before ++ after
    without-one [] others later =
        ap (λ (e : Bool). cond (not e) (batch ∷ without_batch l t after) (without_batch l t after)) (is_for-true l t batch own) ∙ without-none after later
    without-one (b ∷ before) others later =
        ap (λ (e : Bool). cond (not e) (b ∷ without_batch l t (before ++ batch ∷ after)) (without_batch l t (before ++ batch ∷ after))) (other-false b (All-head IsOther b before others))
        ∙ ap (λ (r : List Batch). b ∷ r) (without-one before (All-tail IsOther b before others) later)

    pub found-one : (before : List Batch) → All (λ b. ¬ IsForSlot l t b) before → find (λ b. is_for l t b) (before ++ batch ∷ after) ≡ Some batch
    found-one [] others = ap (λ (e : Bool). cond {A = Option Batch} e (Some batch) (find (λ b. is_for l t b) after)) (is_for-true l t batch own)
    found-one (b ∷ before) others =
        ap (λ (e : Bool). cond {A = Option Batch} e (Some b) (find (λ c. is_for l t c) (before ++ batch ∷ after))) (other-false b (All-head IsOther b before others))
        ∙ found-one before (All-tail IsOther b before others)

    pub change-one : (change : Batch → Batch) (before : List Batch) → All (λ b. ¬ IsForSlot l t b) before → All (λ b. ¬ IsForSlot l t b) after
        → change_batch l t change (before ++ batch ∷ after) ≡ before ++ change batch ∷ after
    change-one change [] others later = (λ i. cond (is_for-true l t batch own i) (change batch) batch ∷ change-none change after later i)
    change-one change (b ∷ before) others later =
        (λ i. cond (other-false b (All-head IsOther b before others) i) (change b) b ∷ change-one change before (All-tail IsOther b before others) later i)

-- a node of a batch of the pass is its own
pub owns-batch_node : (view : View) (batch : Batch) (n : ℕ) (name : Name) → Contains view.batches batch → Contains batch.nodes n → node_in name ≡ Some n → Owns view.config view name
owns-batch_node view batch n name among in_batch of_node =
    by_node n (Contains-append_left (flat_map (λ b. b.nodes) view.batches) (view.loose ++ private_nodes view.rebuild) n (contains_flat (λ b. b.nodes) view.batches batch n among in_batch)) of_node

-- a batch stands between others
pub among-middle : (before : List Batch) (batch : Batch) (after : List Batch) → Contains (before ++ batch ∷ after) batch
among-middle [] batch after = contains_first batch after
among-middle (b ∷ before) batch after = contains_later b (before ++ batch ∷ after) batch (among-middle before batch after)
