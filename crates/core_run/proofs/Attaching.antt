-- The tree of a batch that is to be attached, as a test.
use Rattle.std.proofs.Common.{◌≡◌, ◌≢◌, ℕ, suc, ◌+◌, ◌-◌, ◌/◌, ◌%◌, ◌<◌, ◌≤◌, List, [], ◌∷◌, Contains, Option, Some, None, refl, inl, inr}
use Rattle.word_map.specs.declared.name.Name.{Name}
use Rattle.word_map.specs.declared.name.Name.TheVariants.{Child, Parent, Slot}
use Rattle.core_state.specs.declared.view.Marked.{Marked}
use Rattle.core_state.specs.declared.view.Batch.{Batch}
use Rattle.core_state.specs.View.{known_word}
use Rattle.core_state.specs.Encoding.{place, slot_tree, body_child, node_child, Sides, sides_of, IsBox, bound_in}
use Rattle.core_run.proofs.Tests.{◌>>=◌, same?, below?, at_most?, true?, place?, each?, some_in?, member?, each_below?}
use Rattle.core_run.proofs.Steps.{Test, Move, act}
use Rattle.core_state.specs.Space.{IsInHull}
use Rattle.core_state.specs.Batches.{IsPart, nothing, a_body, a_node, IsBelowRoot, IsEntered, HasSide, IsWholeTree, MayAttach, attach}
use Rattle.core_state.specs.Event.{of_batches, attaches}
use Rattle.core_run.proofs.Tests.{first_in}
use Rattle.core_run.proofs.Preparing.{batch?}
use Rattle.core_run.proofs.Ways.{box?, where_child?, depth_of, encloses?}

-- ---- the parts of its nodes

abbrev pub body_part? : (word : Name → ℕ) (batch : Batch) (depth : ℕ → ℕ) (n k : ℕ) → Option (IsPart word batch depth n k)
body_part? word batch depth n k = do
  m ← some_in? {P = λ m. (m.place ≡ place n k) × (word (Child n k) ≡ body_child m.index)} (λ m. do
    at ← same? m.place (place n k)
    entry ← same? (word (Child n k)) (body_child m.index)
    Some (at, entry)) batch.marked
  Some (a_body m.0 m.1 m.2.0 m.2.1)

abbrev pub node_part? : (word : Name → ℕ) (batch : Batch) (depth : ℕ → ℕ) (n k c : ℕ) → Option (IsPart word batch depth n k)
node_part? word batch depth n k c = do
  inside ← member? batch.nodes c
  child ← same? (word (Child n k)) (node_child c)
  parent ← same? (word (Parent c)) (place n k)
  lower ← same? (depth c) (suc (depth n))
  Some (a_node c inside child parent lower)

abbrev pub part? : (word : Name → ℕ) (batch : Batch) (depth : ℕ → ℕ) (n k : ℕ) → Option (IsPart word batch depth n k)
part? word batch depth n k = elim (same? (word (Child n k)) 0) [
  | Some none ↦ Some (nothing none)
  | None ↦ elim (same? (word (Child n k) % 2) 1) [
    | Some odd ↦ body_part? word batch depth n k
    | None ↦ node_part? word batch depth n k (word (Child n k) / 2 - 1)
  ]
]

abbrev pub below_root? : (word : Name → ℕ) (batch : Batch) (root c : ℕ) → Option (IsBelowRoot word batch root c)
below_root? word batch root c = elim (same? c root) [
  | Some same ↦ do
    top ← same? (word (Parent c)) 0
    Some (inl (same, top))
  | None ↦ do
    at ← place? (word (Parent c))
    inside ← member? batch.nodes at.0
    child ← same? (word (Child at.0 at.1)) (node_child c)
    Some (inr (at.0, at.1, at.2, inside, at.3, child))
]

-- ---- its bodies

abbrev pub entered? : (word : Name → ℕ) (batch : Batch) (m : Marked) → Option (IsEntered word batch m)
entered? word batch m = do
  placed ← true? m.is_placed
  at ← place? m.place
  inside ← member? batch.nodes at.0
  entry ← same? (word (Child at.0 at.1)) (body_child m.index)
  encloses ← encloses? 10 word (sides_of m.bounds) at.0 at.1
  Some (record { placed = placed; node = at.0; child = at.1; below = at.2; in_batch = inside; at = at.3; entry = entry; encloses = encloses })

abbrev pub tight? : (batch : Batch) (b : Sides) → Option (IsInHull (HasSide batch) b)
tight? batch b = each_below? {P = λ q. ((side : ℕ) × HasSide batch q side × (side ≤ b q)) × ((side : ℕ) × HasSide batch (3 + q) side × (b (3 + q) ≤ side))} 3 (λ q. do
  low ← some_in? {P = λ m. sides_of m.bounds q ≤ b q} (λ m. at_most? (sides_of m.bounds q) (b q)) batch.marked
  high ← some_in? {P = λ m. b (3 + q) ≤ sides_of m.bounds (3 + q)} (λ m. at_most? (b (3 + q)) (sides_of m.bounds (3 + q))) batch.marked
  Some ((sides_of low.0.bounds q, (low.0, low.1, refl), low.2), (sides_of high.0.bounds (3 + q), (high.0, high.1, refl), high.2)))

-- ---- the whole

abbrev pub first? : {A : Type 0} (xs : List A) → Option ((x : A) × Contains xs x)
first? [] = None
first? (x ∷ xs) = Some (x, first_in x xs)

abbrev pub each_child? : {P : ℕ → ℕ → Type 0} (nodes : List ℕ) → ((n k : ℕ) → Option (P n k)) → Option ((n : ℕ) → Contains nodes n → (k : ℕ) → k < 4 → P n k)
each_child? {P} nodes test = each? {P = λ n. (k : ℕ) → k < 4 → P n k} (λ n. each_below? {P = P n} 4 (test n)) nodes

abbrev pub whole? : (word : Name → ℕ) (batch : Batch) (root : ℕ) → Option (IsWholeTree word batch root)
whole? word batch root = do
  rooted ← member? batch.nodes root
  parts ← each_child? {P = IsPart word batch (depth_of word 10)} batch.nodes (part? word batch (depth_of word 10))
  under_root ← each? {P = IsBelowRoot word batch root} (below_root? word batch root) batch.nodes
  height ← each? {P = λ n. depth_of word 10 n < 10} (λ n. below? (depth_of word 10 n) 10) batch.nodes
  entered ← each? {P = IsEntered word batch} (entered? word batch) batch.marked
  some ← first? batch.marked
  boxes ← each_child? {P = λ n k. word (Child n k) ≢ 0 → IsBox (bound_in word n k)} batch.nodes (λ n k. where_child? (word (Child n k)) (box? (bound_in word n k)))
  tight ← each_child? {P = λ n k. word (Child n k) ≢ 0 → IsInHull (HasSide batch) (bound_in word n k)} batch.nodes (λ n k. where_child? (word (Child n k)) (tight? batch (bound_in word n k)))
  Some (record {
    depth = depth_of word 10;
    rooted = rooted;
    parts = λ n k inside below. parts n inside k below;
    under_root = under_root;
    height = height;
    entered = entered;
    some = some;
    boxes = λ n k inside below there. boxes n inside k below there;
    tight = λ n k inside below there. tight n inside k below there;
  })

abbrev pub may_attach? : Test MayAttach
may_attach? view (Slot layer slot) value second = do
  batch ← batch? view layer slot
  whole ← whole? (known_word view) batch.0 (value - 1024)
  attached ← same? value (slot_tree (value - 1024))
  Some (record { layer = layer; slot = slot; batch = batch.0; names = refl; has = batch.1; root = value - 1024; whole = whole; attached = attached })
may_attach? view _ value second = None

abbrev pub attaches_tree : (seat layer slot root : ℕ) → Move
attaches_tree seat layer slot root = act attach may_attach? (λ before after s. of_batches (attaches s)) seat (Slot layer slot) (slot_tree root) 0
