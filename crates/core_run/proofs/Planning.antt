-- The new trees that the last store of a plan asks for, as a test.
use Rattle.std.proofs.Common.{◌≡◌, ◌≢◌, ◌⊎◌, ℕ, zero, suc, ◌+◌, ◌-◌, ◌/◌, ◌%◌, ◌<◌, ◌≤◌, nat_lt, Bool, true, false, List, length, Contains, Option, Some, None, refl, subst, inl, inr, ltb-true, ltb-false, arith}
use Rattle.std.specs.Prelude.{slice_index}
use Rattle.word_map.specs.declared.config.Config.{Config}
use Rattle.word_map.specs.declared.name.Name.{Name}
use Rattle.word_map.specs.declared.name.Name.TheVariants.{Child, Parent}
use Rattle.core_state.specs.declared.view.Noted.{Noted}
use Rattle.core_state.specs.declared.view.NewNode.{NewNode}
use Rattle.core_state.specs.declared.view.Rebuild.{Rebuild}
use Rattle.core_state.specs.Encoding.{place, body_child, node_child, Sides, sides_of, IsBox, bound_in}
use Rattle.core_state.specs.Event.{of_updates}
use Rattle.core_run.proofs.Tests.{◌>>=◌, same?, other?, below?, at_most?, place?, each?, some_in?, member?, each_below?}
use Rattle.core_run.proofs.Steps.{Test, Move, act}
use lib.ListN.{get_or-eq_default}
use Rattle.core_state.specs.Space.{IsInHull}
use Rattle.core_state.specs.Noting.{new_node, IsNewPart, nothing, a_body, a_node, IsBelowNewRoot, IsNewEntry, StandsBelow, HasSideBelow, IsNewTree, HasNoTree, AreNewTrees, known_with, with_new_node, MayFinishPlan, finish_plan}
use Rattle.core_state.specs.UpdateEvent.{finishes_plan}
use Rattle.core_run.proofs.Notes.{stores_new?}
use Rattle.core_run.proofs.Attaching.{first?}
use Rattle.core_run.proofs.Ways.{box?, where_child?, depth_of, encloses?, above?}

-- ---- the nodes that were made

pub same_made : (m : NewNode) (layer node : ℕ) → m.layer ≡ layer → m.node ≡ node → m ≡ new_node layer node
same_made m layer node e f = λ i. record { layer = e i; node = f i }

abbrev pub made? : (made : List NewNode) (layer node : ℕ) → Option (Contains made (new_node layer node))
made? made layer node = do
  t ← some_in? {P = λ m. m ≡ new_node layer node} (λ m. do
    e ← same? m.layer layer
    f ← same? m.node node
    Some (same_made m layer node e f)) made
  Some (subst (λ (m : NewNode). Contains made m) t.2 t.1)

abbrev pub body_part? : (word : Name → ℕ) (r : Rebuild) (depth : ℕ → ℕ) (layer n k : ℕ) → Option (IsNewPart word r depth layer n k)
body_part? word r depth layer n k = do
  m ← some_in? {P = λ m. (m.layer ≡ layer) × (m.place ≡ place n k) × (word (Child n k) ≡ body_child m.index)} (λ m. do
    of_layer ← same? m.layer layer
    at ← same? m.place (place n k)
    entry ← same? (word (Child n k)) (body_child m.index)
    Some (of_layer, at, entry)) r.noted
  Some (a_body m.0 m.1 m.2.0 m.2.1 m.2.2)

abbrev pub node_part? : (word : Name → ℕ) (r : Rebuild) (depth : ℕ → ℕ) (layer n k c : ℕ) → Option (IsNewPart word r depth layer n k)
node_part? word r depth layer n k c = do
  inside ← made? r.made layer c
  child ← same? (word (Child n k)) (node_child c)
  parent ← same? (word (Parent c)) (place n k)
  lower ← same? (depth c) (suc (depth n))
  Some (a_node c inside child parent lower)

abbrev pub part? : (word : Name → ℕ) (r : Rebuild) (depth : ℕ → ℕ) (layer n k : ℕ) → Option (IsNewPart word r depth layer n k)
part? word r depth layer n k = elim (same? (word (Child n k)) 0) [
  | Some none ↦ Some (nothing none)
  | None ↦ elim (same? (word (Child n k) % 2) 1) [
    | Some odd ↦ body_part? word r depth layer n k
    | None ↦ node_part? word r depth layer n k (word (Child n k) / 2 - 1)
  ]
]

abbrev pub below_root? : (word : Name → ℕ) (r : Rebuild) (layer root c : ℕ) → Option (IsBelowNewRoot word r layer root c)
below_root? word r layer root c = elim (same? c root) [
  | Some same ↦ do
    top ← same? (word (Parent c)) 0
    Some (inl (same, top))
  | None ↦ do
    at ← place? (word (Parent c))
    inside ← made? r.made layer at.0
    child ← same? (word (Child at.0 at.1)) (node_child c)
    Some (inr (at.0, at.1, at.2, inside, at.3, child))
]

-- ---- the bodies that were noted

abbrev pub entered? : (word : Name → ℕ) (r : Rebuild) (m : Noted) → Option (IsNewEntry word r m)
entered? word r m = do
  at ← place? m.place
  inside ← made? r.made m.layer at.0
  entry ← same? (word (Child at.0 at.1)) (body_child m.index)
  encloses ← encloses? 10 word (sides_of m.bounds) at.0 at.1
  Some (record { node = at.0; child = at.1; below = at.2; in_tree = inside; at = at.3; entry = entry; encloses = encloses })

abbrev pub stands_below? : (word : Name → ℕ) (m : Noted) (n k : ℕ) → Option (StandsBelow word m n k)
stands_below? word m n k = do
  at ← place? m.place
  above ← above? 10 word at.0 at.1 n k
  Some (at.0, at.1, at.2, at.3, above)

abbrev pub low? : (word : Name → ℕ) (r : Rebuild) (n k : ℕ) (b : Sides) (q : ℕ) → Option ((side : ℕ) × HasSideBelow word r n k q side × (side ≤ b q))
low? word r n k b q = do
  t ← some_in? {P = λ m. StandsBelow word m n k × (sides_of m.bounds q ≤ b q)} (λ m. do
    stands ← stands_below? word m n k
    low ← at_most? (sides_of m.bounds q) (b q)
    Some (stands, low)) r.noted
  Some (sides_of t.0.bounds q, (t.0, t.1, t.2.0, refl), t.2.1)

abbrev pub high? : (word : Name → ℕ) (r : Rebuild) (n k : ℕ) (b : Sides) (q : ℕ) → Option ((side : ℕ) × HasSideBelow word r n k q side × (b q ≤ side))
high? word r n k b q = do
  t ← some_in? {P = λ m. StandsBelow word m n k × (b q ≤ sides_of m.bounds q)} (λ m. do
    stands ← stands_below? word m n k
    high ← at_most? (b q) (sides_of m.bounds q)
    Some (stands, high)) r.noted
  Some (sides_of t.0.bounds q, (t.0, t.1, t.2.0, refl), t.2.1)

abbrev pub tight? : (word : Name → ℕ) (r : Rebuild) (n k : ℕ) (b : Sides) → Option (IsInHull (HasSideBelow word r n k) b)
tight? word r n k b = each_below? {P = λ q. ((side : ℕ) × HasSideBelow word r n k q side × (side ≤ b q)) × ((side : ℕ) × HasSideBelow word r n k (3 + q) side × (b (3 + q) ≤ side))} 3 (λ q. do
  low ← low? word r n k b q
  high ← high? word r n k b (3 + q)
  Some (low, high))

-- ---- what holds of each node that was made

abbrev pub root_in : Rebuild → ℕ → ℕ
root_in r layer = slice_index r.roots layer - 1

pub record IsNodeOfPlan (word : Name → ℕ) (r : Rebuild) (m : NewNode) : Type 0 where
  pub parts : (k : ℕ) → k < 4 → IsNewPart word r (depth_of word 10) m.layer m.node k
  pub under_root : IsBelowNewRoot word r m.layer (root_in r m.layer) m.node
  pub height : depth_of word 10 m.node < 10
  pub boxes : (k : ℕ) → k < 4 → word (Child m.node k) ≢ 0 → IsBox (bound_in word m.node k)
  pub tight : (k : ℕ) → k < 4 → word (Child m.node k) ≢ 0 → IsInHull (HasSideBelow word r m.node k) (bound_in word m.node k)

abbrev pub node_of_plan? : (word : Name → ℕ) (r : Rebuild) (m : NewNode) → Option (IsNodeOfPlan word r m)
node_of_plan? word r m = do
  parts ← each_below? {P = IsNewPart word r (depth_of word 10) m.layer m.node} 4 (part? word r (depth_of word 10) m.layer m.node)
  under_root ← below_root? word r m.layer (root_in r m.layer) m.node
  height ← below? (depth_of word 10 m.node) 10
  boxes ← each_below? {P = λ k. word (Child m.node k) ≢ 0 → IsBox (bound_in word m.node k)} 4 (λ k. where_child? (word (Child m.node k)) (box? (bound_in word m.node k)))
  tight ← each_below? {P = λ k. word (Child m.node k) ≢ 0 → IsInHull (HasSideBelow word r m.node k) (bound_in word m.node k)} 4
      (λ k. where_child? (word (Child m.node k)) (tight? word r m.node k (bound_in word m.node k)))
  Some (record { parts = parts; under_root = under_root; height = height; boxes = boxes; tight = tight })

-- ---- the trees of layers

abbrev AreNodesOfPlan : (Name → ℕ) → Rebuild → Type 0
AreNodesOfPlan word r = (m : NewNode) → Contains r.made m → IsNodeOfPlan word r m

abbrev AreEntered : (Name → ℕ) → Rebuild → Type 0
AreEntered word r = (m : Noted) → Contains r.noted m → IsNewEntry word r m

pub new_tree : (word : Name → ℕ) (r : Rebuild) (layer root : ℕ) → AreNodesOfPlan word r → AreEntered word r → slice_index r.roots layer ≡ suc root
    → Contains r.made (new_node layer root) → word (Parent root) ≡ 0 → IsNewTree word r (depth_of word 10) layer root
new_tree word r layer root nodes entered named rooted top = record {
  named = named;
  rooted = rooted;
  top = top;
  parts = λ n k inside below. (nodes (new_node layer n) inside).parts k below;
  under_root = λ n inside. subst (λ (a : ℕ). IsBelowNewRoot word r layer a n) (omega arith) (nodes (new_node layer n) inside).under_root;
  height = λ n inside. (nodes (new_node layer n) inside).height;
  entered = λ m noted of_layer. entered m noted;
  boxes = λ n k inside below there. (nodes (new_node layer n) inside).boxes k below there;
  tight = λ n k inside below there. (nodes (new_node layer n) inside).tight k below there;
}

abbrev IsPlanned : (Name → ℕ) → Rebuild → ℕ → Type 0
IsPlanned word r layer = ((root : ℕ) × IsNewTree word r (depth_of word 10) layer root) ⊎ HasNoTree r layer

pub no_nodes_there : (r : Rebuild) (layer : ℕ) → ((m : NewNode) → Contains r.made m → m.layer ≢ layer) → (n : ℕ) → ¬ Contains r.made (new_node layer n)
no_nodes_there r layer other n inside = other (new_node layer n) inside refl

abbrev pub tree_by? : (word : Name → ℕ) (r : Rebuild) (layer value : ℕ) → AreNodesOfPlan word r → AreEntered word r → slice_index r.roots layer ≡ value → Option (IsPlanned word r layer)
tree_by? word r layer zero nodes entered is = do
  no_nodes ← each? {P = λ m. m.layer ≢ layer} (λ m. other? m.layer layer) r.made
  no_bodies ← each? {P = λ m. m.layer ≢ layer} (λ m. other? m.layer layer) r.noted
  Some (inr (record { no_root = is; no_nodes = no_nodes_there r layer no_nodes; no_bodies = no_bodies }))
tree_by? word r layer (suc root) nodes entered is = do
  rooted ← made? r.made layer root
  top ← same? (word (Parent root)) 0
  Some (inl (root, new_tree word r layer root nodes entered is rooted top))

pub beyond : (c : Config) (r : Rebuild) → length r.roots ≤ c.layers → ((m : NewNode) → Contains r.made m → m.layer < c.layers) → ((m : Noted) → Contains r.noted m → m.layer < c.layers)
    → (layer : ℕ) → c.layers ≤ layer → HasNoTree r layer
beyond c r few nodes bodies layer far = record {
  no_root = get_or-eq_default r.roots 0 (omega arith);
  no_nodes = λ n inside. let below = nodes (new_node layer n) inside in omega arith;
  no_bodies = λ m noted of_layer. let below = bodies m noted in omega arith;
}

pub all_layers : (P : ℕ → Type 0) (n : ℕ) → ((k : ℕ) → k < n → P k) → ((k : ℕ) → n ≤ k → P k) → (k : ℕ) → P k
all_layers P n inside outside k = go (nat_lt k n) refl
  where
    go : (b : Bool) → nat_lt k n ≡ b → P k
    go true e = inside k (ltb-true k n e)
    go false e = outside k (omega (arith, ltb-false k n e))

-- no node was made for two layers
pub other_nodes : (a b : NewNode) → a.node ≢ b.node → a.node ≡ b.node → a.layer ≡ b.layer
other_nodes a b other same = absurd (other same)

abbrev pub once? : (a b : NewNode) → Option (a.node ≡ b.node → a.layer ≡ b.layer)
once? a b = elim (same? a.layer b.layer) [
  | Some same ↦ Some (λ node. same)
  | None ↦ do
    other ← other? a.node b.node
    Some (other_nodes a b other)
]

abbrev pub new_trees? : (c : Config) (word : Name → ℕ) (r : Rebuild) → Option (AreNewTrees c word r)
new_trees? c word r = do
  some ← first? r.noted
  owned ← each? {P = λ m. Contains r.nodes m.node} (λ m. member? r.nodes m.node) r.made
  layers ← each? {P = λ m. m.layer < c.layers} (λ m. below? m.layer c.layers) r.made
  noted ← each? {P = λ m. m.layer < c.layers} (λ m. below? m.layer c.layers) r.noted
  once ← each? {P = λ a. (b : NewNode) → Contains r.made b → a.node ≡ b.node → a.layer ≡ b.layer} (λ a. each? {P = λ b. a.node ≡ b.node → a.layer ≡ b.layer} (once? a) r.made) r.made
  nodes ← each? {P = IsNodeOfPlan word r} (node_of_plan? word r) r.made
  entered ← each? {P = IsNewEntry word r} (entered? word r) r.noted
  few ← at_most? (length r.roots) c.layers
  trees ← each_below? {P = IsPlanned word r} c.layers (λ layer. tree_by? word r layer (slice_index r.roots layer) nodes entered refl)
  Some (record {
    depth = depth_of word 10;
    some = some;
    owned = λ layer n inside. owned (new_node layer n) inside;
    layers = λ layer n inside. layers (new_node layer n) inside;
    once = λ layer other n inside also. once (new_node layer n) inside (new_node other n) also refl;
    trees = all_layers (IsPlanned word r) c.layers trees (λ layer far. inr (beyond c r few layers noted layer far));
  })

abbrev pub may_finish_plan? : (layer : ℕ) → Test (MayFinishPlan layer)
may_finish_plan? layer view (Parent node) value second = do
  stores ← stores_new? view node
  of_world ← below? layer view.config.layers
  all ← same? stores.0.passed view.config.bodies
  whole ← new_trees? view.config (known_with view (Parent node) value) (with_new_node layer (Parent node) value stores.0)
  Some (record { node = node; r = stores.0; names = refl; stores = stores.1; of_world = of_world; all_bodies = all; whole = whole })
may_finish_plan? layer view _ value second = None

abbrev pub finishes_planning : (seat layer node value : ℕ) → Move
finishes_planning seat layer node value = act (finish_plan layer) (may_finish_plan? layer) (λ before after s. of_updates (finishes_plan layer s)) seat (Parent node) value 0
