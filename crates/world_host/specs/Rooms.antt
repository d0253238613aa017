-- What the world has left for batches, and the batches that are prepared, beside the books.
use Rattle.std.specs.Prelude.{◌≡◌, ℕ, ◌+◌, ◌<◌, nat_lt, List, length, map, All, count_by}
use Rattle.std.specs.List.{range_with_len}
use Rattle.scene_model.specs.Need.{need}
use Rattle.word_map.specs.declared.name.Name.TheVariants.{Slot, PoolFree}
use Rattle.core_state.specs.declared.view.View.{View}
use Rattle.core_state.specs.View.{known_word}
use Rattle.batch_add.specs.declared.prepared_list.PreparedList.{PreparedList}
use Rattle.batch_add.specs.PreparedLists.{batches_of, AreGood}
use Rattle.script_player.specs.declared.books.Batch.{Batch}
use Rattle.script_player.specs.Books.{Books, slots_kept, nodes_kept}

-- how many slots of a layer are not empty, and how many nodes are free, by what the pass knows
abbrev pub slots_taken : View → ℕ → ℕ
slots_taken view layer = count_by (λ t. nat_lt 0 (known_word view (Slot layer t))) (range_with_len 0 view.config.slots)

abbrev pub nodes_free : View → ℕ
nodes_free view = known_word view PoolFree

-- the books keep what is kept
pub record HasRooms (view : View) (books : Books) : Type 0 where
  pub slots : (layer : ℕ) → layer < view.config.layers → slots_taken view layer ≡ slots_kept books layer
  pub nodes : nodes_free view + nodes_kept books ≡ view.config.nodes

-- the prepared batches of the books, one by one, are those that are held
pub record AreTokens (batches : List Batch) (list : PreparedList) (view : View) : Type 0 where
  pub good : AreGood list view
  pub same : map {B = ℕ × List ℕ} (λ b. (b.layer, b.indexes)) batches ≡ map {B = ℕ × List ℕ} (λ p. (p.layer, p.indexes.items)) (batches_of list)
  pub nodes : All (λ b. b.nodes ≡ need (length b.indexes)) batches
