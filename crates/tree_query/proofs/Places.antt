-- The places that a walk by turns goes to from what it reads.
use Rattle.std.proofs.Common.{◌≡◌, ℕ, zero, suc, ◌+◌, ◌-◌, ◌<◌, ◌≤◌, List, [], ◌∷◌, ◌++◌, Bool, true, false, cond, length, get_or, drop, map, append_assoc, refl, ap, sym, ◌∙◌, subst, inl, inr, arith}
use Rattle.std.specs.Prelude.{nat_le, ◌==◌, if◌then◌else◌, filter, flat_map}
use Rattle.std.specs.Int.{bit_at}
use Rattle.std.specs.List.{range_with_len}
use Rattle.std.proofs.lemmas.Bool.{cases_lt, lt-ltb, le-ltb, le-leb, lt-leb}
use Rattle.std.proofs.lemmas.List.{length_push}
use Rattle.word_map.specs.declared.config.Config.{Config}
use Rattle.word_map.specs.declared.name.Name.{Name}
use Rattle.word_map.specs.declared.name.Name.TheVariants.{Main, Slot}
use Rattle.arrayvec.specs.ArrayVec.{ArrayVec}
use Rattle.core_state.specs.declared.view.Waiting.{Waiting}
use Rattle.core_state.specs.Walking.{at_child, waiting, words_of_layer, asked_words, next_node, next_child, roots_in}
use Rattle.tree_query.specs.Collecting.{nodes_in}
use Rattle.tree_query.specs.declared.walk.WalkStage.{WalkStage}
use Rattle.tree_query.specs.declared.walk.WalkStage.TheVariants.{Word, Child, End}
use Rattle.tree_query.specs.declared.walk.Walk.{Walk}
use Rattle.tree_query.specs.stages.WalkPlaces.{words_from, words_at, words_left, IsNextLayer, IsSized, IsAtPlace}

-- ---- words still to be read

module _ (c : Config) (mask : ℕ) where
  abbrev asked : ℕ → Bool
  asked layer = bit_at mask layer == 1

  abbrev words_in : List ℕ → List Name
  words_in layers = flat_map (words_of_layer c) (filter asked layers)

  -- the next one is a slot
  pub words-slot : (layer slot : ℕ) → layer < c.layers → slot < c.slots → words_at c mask layer slot ≡ Slot layer slot ∷ words_at c mask layer (slot + 1)
  words-slot layer slot inside low =
      let more : c.slots - slot ≡ suc (c.slots - (slot + 1)) = omega arith in
      let there = lt-ltb layer c.layers inside in
      ap (λ (b : Bool). if b then map (Slot layer) (range_with_len slot (c.slots - slot)) ++ Main layer ∷ words_from c mask (layer + 1) else []) there
      ∙ (ap (λ (n : ℕ). map (Slot layer) (range_with_len slot n) ++ Main layer ∷ words_from c mask (layer + 1)) more
      ∙ sym (ap (λ (b : Bool). Slot layer slot ∷ (if b then map (Slot layer) (range_with_len (slot + 1) (c.slots - (slot + 1))) ++ Main layer ∷ words_from c mask (layer + 1) else [])) there))

  -- or the main word
  pub words-main : (layer slot : ℕ) → layer < c.layers → c.slots ≤ slot → words_at c mask layer slot ≡ Main layer ∷ words_from c mask (layer + 1)
  words-main layer slot inside past =
      let none : c.slots - slot ≡ 0 = omega arith in
      ap (λ (b : Bool). if b then map (Slot layer) (range_with_len slot (c.slots - slot)) ++ Main layer ∷ words_from c mask (layer + 1) else []) (lt-ltb layer c.layers inside)
      ∙ ap (λ (n : ℕ). map (Slot layer) (range_with_len slot n) ++ Main layer ∷ words_from c mask (layer + 1)) none

  -- or there is none
  pub words-none : (layer slot : ℕ) → c.layers ≤ layer → words_at c mask layer slot ≡ []
  words-none layer slot past =
      ap (λ (b : Bool). if b then map (Slot layer) (range_with_len slot (c.slots - slot)) ++ Main layer ∷ words_from c mask (layer + 1) else []) (le-ltb layer c.layers past)

  -- layers that are not asked are passed over
  range-on : (layer : ℕ) → layer < c.layers → range_with_len layer (c.layers - layer) ≡ layer ∷ range_with_len (layer + 1) (c.layers - (layer + 1))
  range-on layer inside = let more : c.layers - layer ≡ suc (c.layers - (layer + 1)) = omega arith in ap (range_with_len layer) more

  words-skip : (layer : ℕ) → layer < c.layers → asked layer ≡ false → words_from c mask layer ≡ words_from c mask (layer + 1)
  words-skip layer inside none =
      ap words_in (range-on layer inside)
      ∙ ap (λ (b : Bool). flat_map (words_of_layer c) (cond b (layer ∷ filter asked (range_with_len (layer + 1) (c.layers - (layer + 1)))) (filter asked (range_with_len (layer + 1) (c.layers - (layer + 1)))))) none

  words-take : (layer : ℕ) → layer < c.layers → asked layer ≡ true → words_from c mask layer ≡ words_at c mask layer 0
  words-take layer inside some =
      let all : c.slots - 0 ≡ c.slots = omega arith in
      ap words_in (range-on layer inside)
      ∙ (ap (λ (b : Bool). flat_map (words_of_layer c) (cond b (layer ∷ filter asked (range_with_len (layer + 1) (c.layers - (layer + 1)))) (filter asked (range_with_len (layer + 1) (c.layers - (layer + 1)))))) some
      ∙ (append_assoc (map (Slot layer) (range_with_len 0 c.slots)) (Main layer ∷ []) (words_from c mask (layer + 1))
      ∙ (ap (λ (n : ℕ). map (Slot layer) (range_with_len 0 n) ++ Main layer ∷ words_from c mask (layer + 1)) (sym all)
      ∙ sym (ap (λ (b : Bool). if b then map (Slot layer) (range_with_len 0 (c.slots - 0)) ++ Main layer ∷ words_from c mask (layer + 1) else []) (lt-ltb layer c.layers inside)))))

  words-end : (layer : ℕ) → c.layers ≤ layer → words_from c mask layer ≡ words_at c mask layer 0
  words-end layer past =
      let none : c.layers - layer ≡ 0 = omega arith in
      ap (λ (n : ℕ). words_in (range_with_len layer n)) none ∙ sym (words-none layer 0 past)

  words-far : (gap from next : ℕ) → from + gap ≡ next → IsNextLayer mask c.layers from next → words_from c mask from ≡ words_at c mask next 0
  words-far zero from next far is =
      let same : from ≡ next = omega arith in
      ap (words_from c mask) same
      ∙ elim (cases_lt next c.layers) [
        | inl inside ↦ words-take next inside (is.asked inside)
        | inr past ↦ words-end next past
      ]
  words-far (suc gap) from next far is =
      let within = is.within in
      words-skip from (omega arith) (is.none from (omega arith) (omega arith))
      ∙ words-far gap (from + 1) next (omega arith)
      (record { above = omega arith; within = is.within; none = λ layer above below. is.none layer (omega arith) below; asked = is.asked })

  -- the words of the layers from one on begin with the first layer that is asked
  pub words-next : (from next : ℕ) → IsNextLayer mask c.layers from next → words_from c mask from ≡ words_at c mask next 0
  words-next from next is = let above = is.above in words-far (next - from) from next (omega arith) is

  -- so do all words
  pub words-all : (lowest : ℕ) → IsNextLayer mask c.layers 0 lowest → asked_words c mask ≡ words_at c mask lowest 0
  words-all lowest is = let all : c.layers ≡ c.layers - 0 = omega arith in ap (λ (n : ℕ). words_in (range_with_len 0 n)) all ∙ words-next 0 lowest is

-- ---- nodes that wait

push-same : (xs ys : List ℕ) (x y : ℕ) → xs ++ x ∷ [] ≡ ys ++ y ∷ [] → (xs ≡ ys) × (x ≡ y)
push-same [] [] x y same = (refl, ap (λ (l : List ℕ). get_or l 0 0) same)
push-same [] (b ∷ ys) x y same = let long = length_push ys y in let both = ap length same in absurd (omega arith)
push-same (a ∷ xs) [] x y same = let long = length_push xs x in let both = ap length same in absurd (omega arith)
push-same (a ∷ xs) (b ∷ ys) x y same =
    let rest = push-same xs ys x y (ap (drop 1) same) in
    let first : a ≡ b = ap (λ (l : List ℕ). get_or l 0 0) same in
    ((λ i. first i ∷ rest.0 i), rest.1)

pub nodes-none : (stack : List Waiting) → nodes_in stack ≡ [] → stack ≡ []
nodes-none [] none = refl
nodes-none (w ∷ stack) none = let long = length_push (nodes_in stack) w.node in let both = ap length none in absurd (omega arith)

-- the walk goes on to the node that waits
pub place-popped : (c : Config) (before : Walk) (rest : ArrayVec ℕ) (node : ℕ) (stack : List Waiting) → before.stack.items ≡ rest.items ++ node ∷ [] → before.stack.items ≡ nodes_in stack
    → IsAtPlace c (record before { stack = rest; node = node; child = 0; stage = Child }) (next_node (words_left c before) stack)
place-popped c before rest node [] popped nodes = let long = length_push rest.items node in let both = ap length (sym popped ∙ nodes) in absurd (omega arith)
place-popped c before rest node (w ∷ stack) popped nodes =
    let same = push-same rest.items (nodes_in stack) node w.node (sym popped ∙ nodes) in
    record {
      level = w.level;
      stack = stack;
      nodes = same.0;
      place = λ i. record { rest = words_left c before; stack = stack; spot = at_child (sym same.1 i) w.level 0 };
      reads = refl;
      fits = tt;
    }

-- or to the next word
pub place-word : (c : Config) (before : Walk) (stack : List Waiting) → before.layer < c.layers → before.stack.items ≡ [] → before.stack.items ≡ nodes_in stack
    → IsAtPlace c (record before { stage = Word }) (next_node (words_left c before) stack)
place-word c before stack inside none nodes = record {
  level = 0;
  stack = [];
  nodes = none;
  place = ap (next_node (words_left c before)) (nodes-none stack (sym nodes ∙ none));
  reads = refl;
  fits = (inside, none);
}

-- or to its end
pub place-end : (c : Config) (before : Walk) (stack : List Waiting) → c.layers ≤ before.layer → before.stack.items ≡ [] → before.stack.items ≡ nodes_in stack
    → IsAtPlace c (record before { stage = End }) (next_node (words_left c before) stack)
place-end c before stack past none nodes = record {
  level = 0;
  stack = [];
  nodes = none;
  place = ap (next_node (words_left c before)) (nodes-none stack (sym nodes ∙ none));
  reads = refl;
  fits = (past, none);
}

-- where a child is done, the next one is read
pub place-child : (c : Config) (before : Walk) (stack : List Waiting) (level : ℕ) → before.child < 3 → before.stack.items ≡ nodes_in stack
    → IsAtPlace c (record before { child = before.child + 1; stage = Child }) (next_child (words_left c before) stack before.node level before.child)
place-child c before stack level low nodes = record {
  level = level;
  stack = stack;
  nodes = nodes;
  place =
      ap (λ (b : Bool). if b then record { rest = words_left c before; stack = stack; spot = at_child before.node level (before.child + 1) } else next_node (words_left c before) stack)
      (lt-ltb before.child 3 low);
  reads = refl;
  fits = tt;
}

-- or the node is left
pub child-past : (rest : List Name) (stack : List Waiting) (n level k : ℕ) → 3 ≤ k → next_child rest stack n level k ≡ next_node rest stack
child-past rest stack n level k past = ap (λ (b : Bool). if b then record { rest = rest; stack = stack; spot = at_child n level (k + 1) } else next_node rest stack) (le-ltb k 3 past)

-- ---- words that were read

-- a slot names a root
pub place-root : (c : Config) (before : Walk) (root : ℕ) (value : ℕ) → before.stack.items ≡ [] → value ≡ 1024 + root
    → IsAtPlace c (record before { slot = before.slot + 1; node = root; child = 0; stage = Child }) (next_node (words_at c before.mask before.layer (before.slot + 1)) (roots_in (Slot before.layer before.slot) value))
place-root c before root value none is =
    let less : (nat_le 1024 value) ≡ true = le-leb 1024 value (omega arith) in
    let same : value - 1024 ≡ root = omega arith in
    record {
      level = 1;
      stack = [];
      nodes = none;
      place =
          ap (λ (b : Bool). next_node (words_at c before.mask before.layer (before.slot + 1)) (if b then waiting (value - 1024) 1 ∷ [] else [])) less
          ∙ ap (λ (n : ℕ). record { rest = words_at c before.mask before.layer (before.slot + 1); stack = []; spot = at_child n 1 0 }) same;
      reads = refl;
      fits = tt;
    }

-- or none
pub place-rootless : (c : Config) (before : Walk) (value : ℕ) → before.stage ≡ Word → before.layer < c.layers → before.stack.items ≡ [] → value < 1024
    → IsAtPlace c (record before { slot = before.slot + 1 }) (next_node (words_at c before.mask before.layer (before.slot + 1)) (roots_in (Slot before.layer before.slot) value))
place-rootless c before value stage inside none low =
    subst (λ (s : WalkStage). IsAtPlace c (record before { slot = before.slot + 1; stage = s }) (next_node (words_at c before.mask before.layer (before.slot + 1)) (roots_in (Slot before.layer before.slot) value))) (sym stage)
    (record {
      level = 0;
      stack = [];
      nodes = none;
      place = ap (λ (b : Bool). next_node (words_at c before.mask before.layer (before.slot + 1)) (if b then waiting (value - 1024) 1 ∷ [] else [])) (lt-leb 1024 value low);
      reads = refl;
      fits = (inside, none);
    })

-- a main word
module _ (c : Config) (before : Walk) (next : ℕ) (sized : IsSized c before) (none : before.stack.items ≡ []) (is : IsNextLayer before.mask before.layers (before.layer + 1) next) where
  later : words_from c before.mask (before.layer + 1) ≡ words_at c before.mask next 0
  later = words-next c before.mask (before.layer + 1) next (subst (λ (n : ℕ). IsNextLayer before.mask n (before.layer + 1) next) sized.layers is)

  pub place-main : (value : ℕ) → 0 < value
      → IsAtPlace c (record before { layer = next; slot = 0; node = value - 1; child = 0; stage = Child }) (next_node (words_from c before.mask (before.layer + 1)) (roots_in (Main before.layer) value))
  place-main zero some = absurd (omega arith)
  place-main (suc root) some = record {
    level = 1;
    stack = [];
    nodes = none;
    place = let same : root ≡ suc root - 1 = omega arith in λ i. record { rest = later i; stack = []; spot = at_child (same i) 1 0 };
    reads = refl;
    fits = tt;
  }

  pub place-mainless : before.stage ≡ Word → next < before.layers
      → IsAtPlace c (record before { layer = next; slot = 0 }) (next_node (words_from c before.mask (before.layer + 1)) (roots_in (Main before.layer) 0))
  place-mainless stage inside =
      subst (λ (s : WalkStage). IsAtPlace c (record before { layer = next; slot = 0; stage = s }) (next_node (words_from c before.mask (before.layer + 1)) [])) (sym stage) (record {
        level = 0;
        stack = [];
        nodes = none;
        place = ap (λ (l : List Name). next_node l []) later;
        reads = refl;
        fits = (subst (λ (n : ℕ). next < n) sized.layers inside, none);
      })

  pub place-last : before.layers ≤ next
      → IsAtPlace c (record before { layer = next; slot = 0; stage = End }) (next_node (words_from c before.mask (before.layer + 1)) (roots_in (Main before.layer) 0))
  place-last past = record {
    level = 0;
    stack = [];
    nodes = none;
    place = ap (λ (l : List Name). next_node l []) later;
    reads = refl;
    fits = (subst (λ (n : ℕ). n ≤ next) sized.layers past, none);
  }
