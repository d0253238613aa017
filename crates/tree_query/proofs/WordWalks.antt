-- The words that a walk reads of a layer, and of all asked layers, and the trees that they name.
use Rattle.std.proofs.Common.{◌≡◌, ◌≢◌, ℕ, zero, ◌+◌, ◌-◌, ◌<◌, ◌≤◌, ◌^◌, List, [], ◌∷◌, ◌++◌, map, Bool, true, false, refl, ap, ◌∙◌, subst, arith, inl, inr, suc}
use Rattle.std.specs.Prelude.{◌==◌, if◌then◌else◌, flat_map, filter, Option, Some}
use Rattle.std.specs.Int.{bit_at}
use Rattle.std.specs.List.{range_with_len}
use Rattle.std.proofs.lemmas.Bool.{cases_lt, lt-leb, le-leb}
use Rattle.fixed_box.specs.declared.shape.Shape.{Shape}
use Rattle.word_map.specs.Limits.{IsConfig}
use Rattle.word_map.specs.Names.{node_count}
use Rattle.word_map.specs.declared.config.Config.{Config}
use Rattle.word_map.specs.declared.name.Name.{Name}
use Rattle.word_map.specs.declared.name.Name.TheVariants.{Main, Slot}
use Rattle.core_state.specs.declared.view.Waiting.{Waiting}
use Rattle.core_state.specs.declared.view.View.{View}
use Rattle.core_state.specs.Walking.{words_of_layer, asked_words, waiting, roots_in, next_node}
use Rattle.pass_table.specs.Bodies.{IsCurrent}
use Rattle.tree_query.specs.declared.finder.Finder.{Finder}
use Rattle.tree_query.specs.Finding.{has_index, seq_of}
use Rattle.tree_query.specs.Walking.{WalksOn}
use Rattle.tree_query.specs.Collecting.{Trip, IsOnTrip, Reaches, IsCollecting, IsAtNodes, word_place, roots_of, words_from, words_asked, layers_from}
use Rattle.tree_query.proofs.Trips.{trip-on, child-at}
use Rattle.tree_query.proofs.Kept.{puts-none, collecting-more, loads-fit}

-- ---- the words of a layer

module _ (c : Config) (layer : ℕ) where
  pub slots-all : words_from c layer 0 ≡ words_of_layer c layer
  slots-all = ap (λ (n : ℕ). map (Slot layer) (range_with_len 0 n) ++ Main layer ∷ []) (omega arith)

  pub next-slot : (slot : ℕ) → slot < c.slots → words_from c layer slot ≡ Slot layer slot ∷ words_from c layer (slot + 1)
  next-slot slot low =
      let more : c.slots - slot ≡ suc (c.slots - (slot + 1)) = omega arith in
      ap (λ (n : ℕ). map (Slot layer) (range_with_len slot n) ++ Main layer ∷ []) more

  pub no-slot : (slot : ℕ) → c.slots ≤ slot → words_from c layer slot ≡ Main layer ∷ []
  no-slot slot past = let none : c.slots - slot ≡ 0 = omega arith in ap (λ (n : ℕ). map (Slot layer) (range_with_len slot n) ++ Main layer ∷ []) none

-- ---- the words of all asked layers

module _ (c : Config) (mask : ℕ) where
  abbrev words_in : List ℕ → List Name
  words_in layers = flat_map (words_of_layer c) (filter (λ k. bit_at mask k == 1) layers)

  pub layers-all : layers_from c mask 0 ≡ asked_words c mask
  layers-all = ap (λ (n : ℕ). words_in (range_with_len 0 n)) (omega arith)

  layers-more : (layer : ℕ) → layer < c.layers → layers_from c mask layer ≡ words_in (layer ∷ range_with_len (layer + 1) (c.layers - (layer + 1)))
  layers-more layer low = let more : c.layers - layer ≡ suc (c.layers - (layer + 1)) = omega arith in ap (λ (n : ℕ). words_in (range_with_len layer n)) more

  asked-more : (b : Bool) (layer : ℕ) (layers : List ℕ) → (bit_at mask layer == 1) ≡ b → words_in (layer ∷ layers) ≡ (if b then words_of_layer c layer else []) ++ words_in layers
  asked-more true layer layers asks = ap (λ (b : Bool). flat_map (words_of_layer c) (if b then layer ∷ filter (λ k. bit_at mask k == 1) layers else filter (λ k. bit_at mask k == 1) layers)) asks
  asked-more false layer layers asks = ap (λ (b : Bool). flat_map (words_of_layer c) (if b then layer ∷ filter (λ k. bit_at mask k == 1) layers else filter (λ k. bit_at mask k == 1) layers)) asks

  pub next-layer : (layer : ℕ) → layer < c.layers → layers_from c mask layer ≡ words_asked c mask layer ++ layers_from c mask (layer + 1)
  next-layer layer low = layers-more layer low ∙ asked-more (bit_at mask layer == 1) layer (range_with_len (layer + 1) (c.layers - (layer + 1))) refl

  pub no-layer : (layer : ℕ) → c.layers ≤ layer → layers_from c mask layer ≡ []
  no-layer layer past = let none : c.layers - layer ≡ 0 = omega arith in ap (λ (n : ℕ). words_in (range_with_len layer n)) none

-- ---- a word that was read

module _ (trip : Trip) (shape : Shape) (before : Finder) (view : View) (name : Name) (rest : List Name) (h : IsCollecting trip shape before view (word_place (name ∷ rest))) where
  pub words-few : ∥ IsCurrent view ∥₁ → IsConfig view.config → before.loads < 2 ^ 32
  words-few current limits =
      let few = loads-fit trip view (word_place (name ∷ rest)) h.on current limits in
      let loads = h.kept.loads in
      omega arith

  module _ (next : View) (value : ℕ) (step : WalksOn view next name value) where
    read-on : Reaches trip view next (next_node rest (roots_in name value)) [] 1
    read-on = trip-on trip view next (word_place (name ∷ rest)) name value h.on refl step

    -- the tree that it names is to be walked
    pub word-read : (roots : List Waiting) (after : Finder) → roots_in name value ≡ roots → ((index : ℕ) → has_index after index ≡ has_index before index)
        → ((index : ℕ) → seq_of after index ≡ seq_of before index) → after.loads ≡ before.loads + 1 → IsCollecting trip shape after next (next_node rest roots)
    word-read roots after is has seqs loads =
        subst (λ (s : List Waiting). IsCollecting trip shape after next (next_node rest s)) is
        (collecting-more trip shape before after view next (word_place (name ∷ rest)) (next_node rest (roots_in name value)) [] 1 h read-on (puts-none before after has seqs) loads)

    -- and its root is a node of the world
    pub root-below : ∥ IsCurrent next ∥₁ → (root : ℕ) → roots_in name value ≡ waiting root 1 ∷ [] → root < node_count next.config
    root-below current root is =
        let on : IsOnTrip trip next (next_node rest (waiting root 1 ∷ [])) = subst (λ (s : List Waiting). IsOnTrip trip next (next_node rest s)) is read-on.on in
        (child-at trip next (next_node rest (waiting root 1 ∷ [])) on current root 0 refl).0

-- a slot that was read is small
pub slot-small : (trip : Trip) (shape : Shape) (before : Finder) (view next : View) (layer slot value : ℕ) (rest : List Name) → IsCollecting trip shape before view (word_place (Slot layer slot ∷ rest))
    → WalksOn view next (Slot layer slot) value → ∥ IsCurrent next ∥₁ → IsConfig next.config → value < 1024 + 2 ^ 32
slot-small trip shape before view next layer slot value rest h step current limits = elim (cases_lt value 1024) [
  | inl less ↦ omega arith
  | inr tree ↦
      let names : roots_in (Slot layer slot) value ≡ waiting (value - 1024) 1 ∷ [] = ap (λ (b : Bool). if b then waiting (value - 1024) 1 ∷ [] else []) (le-leb 1024 value tree) in
      let root = root-below trip shape before view (Slot layer slot) rest h next value step current (value - 1024) names in
      let nodes = limits.nodes.1 in
      let bodies = limits.bodies.1 in
      let layers = limits.layers.1 in
      omega arith
]

-- and so is a main word
pub main-small : (trip : Trip) (shape : Shape) (before : Finder) (view next : View) (layer value : ℕ) (rest : List Name) → IsCollecting trip shape before view (word_place (Main layer ∷ rest))
    → WalksOn view next (Main layer) value → ∥ IsCurrent next ∥₁ → IsConfig next.config → value ≤ 2 ^ 32
main-small trip shape before view next layer zero rest h step current limits = omega arith
main-small trip shape before view next layer (suc value) rest h step current limits =
    let root = root-below trip shape before view (Main layer) rest h next (suc value) step current value refl in
    let nodes = limits.nodes.1 in
    let bodies = limits.bodies.1 in
    let layers = limits.layers.1 in
    omega arith

-- ---- the tree of a root

pub slot-empty : (layer slot value : ℕ) → value < 1024 → roots_in (Slot layer slot) value ≡ []
slot-empty layer slot value less = ap (λ (b : Bool). if b then waiting (value - 1024) 1 ∷ [] else []) (lt-leb 1024 value less)

pub slot-root : (layer slot value root : ℕ) → 1024 + root ≡ value → roots_in (Slot layer slot) value ≡ waiting root 1 ∷ []
slot-root layer slot value root is =
    let same : value - 1024 ≡ root = omega arith in
    ap (λ (b : Bool). if b then waiting (value - 1024) 1 ∷ [] else []) (le-leb 1024 value (omega arith)) ∙ ap (λ (r : ℕ). waiting r 1 ∷ []) same

pub main-root : (layer value : ℕ) → value ≢ 0 → roots_in (Main layer) value ≡ waiting (value - 1) 1 ∷ []
main-root layer zero some = absurd (some refl)
main-root layer (suc root) some = let same : root ≡ suc root - 1 = omega arith in ap (λ (r : ℕ). waiting r 1 ∷ []) same

-- its root is the only node on the stack
pub root-pushed : (trip : Trip) (rest : List Name) (shape : Shape) (finder : Finder) (view : View) (named : Option ℕ) (root : ℕ) (nodes : List ℕ) → named ≡ Some root → nodes ≡ root ∷ []
    → IsCollecting trip shape finder view (next_node rest (roots_of named)) → IsAtNodes trip rest shape finder nodes view
root-pushed trip rest shape finder view named root nodes is same h =
    (waiting root 1 ∷ [], same, subst (λ (o : Option ℕ). IsCollecting trip shape finder view (next_node rest (roots_of o))) is h)
