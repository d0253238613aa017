-- What others' steps between two turns leave of a tree that is being drawn: the nodes are the pass's own.
use Rattle.std.proofs.Common.{◌≡◌, ℕ, ◌<◌, List, [], ◌∷◌, Contains, Some, sym, ◌∙◌, subst, append_assoc, arith}
use Rattle.std.specs.Prelude.{flat_map}
use Rattle.std.proofs.lemmas.List.Elements.{Contains-get_or, Contains-append_left, Contains-append_right}
use Rattle.tree_plan.specs.Plan.{node_count}
use Rattle.word_map.specs.declared.name.Name.{Name}
use Rattle.core_state.specs.declared.view.Batch.{Batch}
use Rattle.core_state.specs.declared.view.View.{View}
use Rattle.core_state.specs.Nodes.{node_in}
use Rattle.core_state.specs.Guards.{Owns, by_node, private_nodes}
use Rattle.core_state.specs.Batches.{batch_nodes_of}
use Rattle.core_state.proofs.Beginning.{contains_first, contains_flat}
use Rattle.pass_table.specs.Knowing.{KnowsMore}
use Rattle.batch_add.specs.declared.tree_drawing.TreeDrawing.{TreeDrawing}
use Rattle.batch_add.specs.Drawing.{node_at}
use Rattle.batch_add.specs.stages.DrawStages.{Planned, Reached, HasDrawnUpTo, reached, IsDrawing}
use Rattle.pass_table.proofs.WorkLater.{worked-more, worked-batches}

-- ---- own nodes

-- a node of a batch of the pass is the pass's own
pub own-node : (view : View) (n : ℕ) (name : Name) → Contains (batch_nodes_of view) n → node_in name ≡ Some n → Owns view.config view name
own-node view n name among of_node =
    by_node n
    (subst (λ (l : List ℕ). Contains l n) (append_assoc (flat_map (λ (b : Batch). b.nodes) view.batches) view.loose (private_nodes view.rebuild))
    (Contains-append_left (batch_nodes_of view) (private_nodes view.rebuild) n among))
    of_node

module _ (p : Planned) (start view : View) (r : Reached) (h : HasDrawnUpTo p start view r) where
  -- the newest batch is among those of the pass
  pub newest-among : Contains view.batches h.drawn
  newest-among =
      subst (λ (l : List Batch). Contains l h.drawn) (sym (worked-batches start view _ h.worked))
      (Contains-append_right h.before (h.drawn ∷ []) h.drawn (contains_first h.drawn []))

  pub drawn-nodes : h.drawn.nodes ≡ p.nodes
  drawn-nodes = h.from.nodes ∙ h.begun_so.nodes

  -- and its nodes are the pass's
  pub node-inside : (n : ℕ) → n < node_count p.plan → Contains h.drawn.nodes (node_at p.nodes n)
  node-inside n made =
      subst (λ (l : List ℕ). Contains l (node_at p.nodes n)) (sym drawn-nodes)
      (Contains-get_or p.nodes n 0 (let many = h.begun_so.many in omega arith))

  pub node-own : (n : ℕ) → n < node_count p.plan → Contains (batch_nodes_of view) (node_at p.nodes n)
  node-own n made =
      Contains-append_left (flat_map (λ (b : Batch). b.nodes) view.batches) view.loose (node_at p.nodes n)
      (contains_flat (λ (b : Batch). b.nodes) view.batches h.drawn (node_at p.nodes n) newest-among (node-inside n made))

  -- others made steps
  module _ (next : View) (more : KnowsMore view next) where
    pub drawn-later : HasDrawnUpTo p start next r
    drawn-later = record {
      before = h.before;
      batch = h.batch;
      begun_so = h.begun_so;
      drawn = h.drawn;
      written = h.written;
      worked = worked-more start view next _ h.worked more;
      from = h.from;
      of_batch = h.of_batch;
      says = h.says;
      only = h.only;
      placed = h.placed;
    }

pub drawing-later : (first : TreeDrawing) (start : View) (operation : TreeDrawing) (view next : View) → KnowsMore view next → IsDrawing first start operation view → IsDrawing first start operation next
drawing-later first start operation view next more drawing = (drawing.0, (drawing.1.0, drawn-later _ start view (reached operation.stage) drawing.1.1 next more))
