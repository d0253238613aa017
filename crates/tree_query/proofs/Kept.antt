-- What a finder keeps of a walk, load by load.
use Rattle.std.proofs.Common.{◌≡◌, ◌≢◌, ℕ, suc, ◌+◌, ◌*◌, ◌-◌, ◌<◌, ◌≤◌, ◌^◌, List, [], ◌∷◌, ◌++◌, Bool, true, false, length, refl, ap, sym, ◌∙◌, subst, inl, inr, arith}
use Rattle.std.specs.Prelude.{Contains, ◌==◌, ◌%◌, ◌/◌, if◌then◌else◌, filter, not}
use Rattle.std.specs.Int.{bit_at}
use Rattle.std.specs.List.{range_with_len}
use Rattle.std.proofs.lemmas.Bool.{cases_lt, lt-ltb, le-ltb, eq-eqb, ne_eqb}
use Rattle.std.proofs.lemmas.List.{append-nil, length_push}
use Rattle.std.proofs.lemmas.List.Filters.{length-filter_both}
use Rattle.std.proofs.lemmas.List.FromFn.{length-range_with_len}
use Rattle.std.proofs.Math.Nat.{mul-le-mul}
use Rattle.std.proofs.lemmas.List.Elements.{Contains-append_left, Contains-append_right, Contains-append_cases, Contains-push}
use Rattle.fixed_box.specs.declared.shape.Shape.{Shape}
use Rattle.word_map.specs.Limits.{IsConfig}
use Rattle.word_map.specs.Names.{node_count}
use Rattle.word_map.specs.declared.name.Name.{Name}
use Rattle.word_map.specs.declared.name.Name.TheVariants.{Child}
use Rattle.core_state.specs.declared.view.Waiting.{Waiting}
use Rattle.core_state.specs.declared.view.View.{View}
use Rattle.core_state.specs.Walking.{Position, at_child, at_bound, waiting, next_node, next_child, pushed}
use Rattle.core_state.specs.declared.item.Load.{Load}
use Rattle.core_state.specs.Encoding.{body_child, node_child}
use Rattle.core_state.proofs.Opening.{none_in}
use Rattle.core_state.proofs.Beginning.{contains_first}
use Rattle.core_query.specs.Clear.{asked_layers}
use Rattle.core_query.proofs.Asked.{asked-count}
use Rattle.pass_table.specs.Bodies.{IsCurrent}
use Rattle.tree_query.specs.Walking.{WalksOn}
use Rattle.tree_query.proofs.Trips.{trip-on, reaches-trans, room-at, node-at, body-at, few-at, child-at}
use Rattle.tree_query.specs.declared.finder.Finder.{Finder}
use Rattle.tree_query.specs.Finding.{has_index, seq_of}
use Rattle.tree_query.specs.Collecting.{body_named, Trip, IsOnTrip, found_so_far, Reaches, IsKept, IsCollecting, nodes_in, child_place, bound_place, past_bound, IsAtChild, HasReadBound, Puts, KeepsChild}

-- nothing is put into a finder that has the same words
pub puts-none : (before after : Finder) → ((index : ℕ) → has_index after index ≡ has_index before index) → ((index : ℕ) → seq_of after index ≡ seq_of before index) → Puts before after []
puts-none before after has seqs = record {
  has = λ index. (λ h. inl (sym (has index) ∙ h), λ h. elim h [ inl was ↦ has index ∙ was | inr among ↦ absurd (none_in index among) ]);
  seqs = λ zero index h. seqs index ∙ zero index (sym (has index) ∙ h);
}

-- what was found since is put in
pub kept-more : (trip : Trip) (before after : Finder) (view next : View) (at : Position) (found : List ℕ) (count : ℕ) → IsKept trip before view → Reaches trip view next at found count
    → Puts before after found → after.loads ≡ before.loads + count → IsKept trip after next
kept-more trip before after view next at found count kept way puts loads = record {
  found = λ index. (
    λ h. subst (λ (l : List ℕ). Contains l index) (sym way.found_more)
        (elim ((puts.has index).0 h) [
          | inl was ↦ Contains-append_left (found_so_far trip view) found index ((kept.found index).0 was)
          | inr new ↦ Contains-append_right (found_so_far trip view) found index new
        ]),
    λ h. (puts.has index).1
        (elim (Contains-append_cases (found_so_far trip view) found index (subst (λ (l : List ℕ). Contains l index) way.found_more h)) [
          | inl was ↦ inl ((kept.found index).1 was)
          | inr new ↦ inr new
        ]),
  );
  seqs = puts.seqs kept.seqs;
  loads = let a = kept.loads in let b = way.loaded in omega arith;
}

pub collecting-more : (trip : Trip) (shape : Shape) (before after : Finder) (view next : View) (was at : Position) (found : List ℕ) (count : ℕ) → IsCollecting trip shape before view was
    → Reaches trip view next at found count → Puts before after found → after.loads ≡ before.loads + count → IsCollecting trip shape after next at
collecting-more trip shape before after view next was at found count h way puts loads = record {
  asks = h.asks;
  on = way.on;
  kept = kept-more trip before after view next at found count h.kept way puts loads;
}

-- ---- places at the children of a node

pub child-there : (rest : List Name) (stack : List Waiting) (n level k : ℕ) → k < 4 → child_place rest stack n level k ≡ record { rest = rest; stack = stack; spot = at_child n level k }
child-there rest stack n level k low = ap (λ (b : Bool). if b then record { rest = rest; stack = stack; spot = at_child n level k } else next_node rest stack) (lt-ltb k 4 low)

pub child-next : (rest : List Name) (stack : List Waiting) (n level k : ℕ) → next_child rest stack n level k ≡ child_place rest stack n level (k + 1)
child-next rest stack n level k =
    elim (cases_lt k 3) [
      | inl less ↦
          ap (λ (b : Bool). if b then record { rest = rest; stack = stack; spot = at_child n level (k + 1) } else next_node rest stack) (lt-ltb k 3 less ∙ sym (lt-ltb (k + 1) 4 (omega arith)))
      | inr last ↦
          ap (λ (b : Bool). if b then record { rest = rest; stack = stack; spot = at_child n level (k + 1) } else next_node rest stack) (le-ltb k 3 last ∙ sym (le-ltb (k + 1) 4 (omega arith)))
    ]

-- ---- how many

range-many : (p : ℕ → Bool) (xs : List ℕ) → length (filter p xs) ≤ length xs
range-many p xs = let both = length-filter_both p (λ x. not (p x)) (λ x. refl) xs in omega arith

product-few : (a b x y : ℕ) → a ≤ x → b ≤ y → a * b ≤ x * y
product-few a b x y p q = mul-le-mul p q

-- a walk has less than 2^32 loads
pub loads-fit : (trip : Trip) (view : View) (at : Position) → IsOnTrip trip view at → ∥ IsCurrent view ∥₁ → IsConfig view.config → length view.walk.loads < 2 ^ 32
loads-fit trip view at on current limits =
    let c = view.config in
    let few = few-at trip view at on current in
    let words = asked-count c trip.query.mask in
    let layers = range-many (λ layer. bit_at trip.query.mask layer == 1) (range_with_len 0 c.layers) in
    let range = length-range_with_len 0 c.layers in
    let slots = limits.slots.1 in
    let of_layers = limits.layers.1 in
    let all = product-few (c.slots + 1) (length (asked_layers c trip.query.mask)) 65 8 (omega arith) (omega arith) in
    let bodies = limits.bodies.1 in
    let nodes = limits.nodes.1 in
    omega arith

-- the node that is walked next, or is the first to wait, is one of the world
pub first-node : (trip : Trip) (view : View) (rest : List Name) (w : Waiting) (stack : List Waiting) (n level k : ℕ) → IsOnTrip trip view (child_place rest (w ∷ stack) n level k) → ∥ IsCurrent view ∥₁
    → w.node < node_count view.config
first-node trip view rest w stack n level k on current =
    elim (cases_lt k 4) [
      | inl less ↦
          node-at trip view (record { rest = rest; stack = w ∷ stack; spot = at_child n level k }) (subst (IsOnTrip trip view) (child-there rest (w ∷ stack) n level k less) on) current w
          (contains_first w stack)
      | inr last ↦
          let past = ap (λ (b : Bool). if b then record { rest = rest; stack = w ∷ stack; spot = at_child n level k } else next_node rest (w ∷ stack)) (le-ltb k 4 last) in
          (child-at trip view (next_node rest (w ∷ stack)) (subst (IsOnTrip trip view) past on) current w.node 0 refl).0
    ]

-- ---- a child that was read

-- the nodes on the stack when a child is kept
pub nodes-kept : (touches even : Bool) (nodes : List ℕ) (stack : List Waiting) (m level : ℕ) → nodes ≡ nodes_in stack
    → nodes ++ (if touches then (if even then m ∷ [] else []) else []) ≡ nodes_in (if touches then (if even then waiting m level ∷ stack else stack) else stack)
nodes-kept true true nodes stack m level same = ap (λ (l : List ℕ). l ++ m ∷ []) same
nodes-kept true false nodes stack m level same = append-nil nodes ∙ same
nodes-kept false even nodes stack m level same = append-nil nodes ∙ same

pub nodes-many : (stack : List Waiting) → length (nodes_in stack) ≡ length stack
nodes-many [] = refl
nodes-many (w ∷ stack) = length_push (nodes_in stack) w.node ∙ (let e = nodes-many stack in omega arith)

module _ (trip : Trip) (rest : List Name) (shape : Shape) (finder : Finder) (nodes : List ℕ) (view : View) (n k : ℕ) (low : k < 4) (h : IsAtChild trip rest shape finder nodes view n k) where
  abbrev level : ℕ
  level = h.0

  abbrev stack : List Waiting
  stack = h.1

  abbrev here : Position
  here = record { rest = rest; stack = stack; spot = at_child n level k }

  pub on-child : IsOnTrip trip view here
  on-child = subst (IsOnTrip trip view) (child-there rest stack n level k low) h.3.on

  -- the words of a child of the world are named
  pub child-named : ∥ IsCurrent view ∥₁ → (n < node_count view.config) × (k < 4)
  child-named current = child-at trip view here on-child current n k refl

  pub child-walks : view.walk.is_on ≡ true
  child-walks = h.3.on.walking.on

  -- there is room for one node more
  pub child-space : ∥ IsCurrent view ∥₁ → length nodes < 40
  child-space current =
      let room = room-at trip view here on-child current in
      let same = ap (length {A = ℕ}) h.2 in
      let many = nodes-many stack in
      omega arith

  pub child-few : ∥ IsCurrent view ∥₁ → IsConfig view.config → finder.loads < 2 ^ 32
  child-few current limits =
      let few = loads-fit trip view here on-child current limits in
      let loads = h.3.kept.loads in
      omega arith

  -- there is no child
  pub no-child : (after : Finder) (next : View) (value : ℕ) → WalksOn view next (Child n k) value → value ≡ 0 → ((index : ℕ) → has_index after index ≡ has_index finder index)
      → ((index : ℕ) → seq_of after index ≡ seq_of finder index) → after.loads ≡ finder.loads + 1 → IsAtChild trip rest shape after nodes next n (k + 1)
  no-child after next value step none has seqs loads =
      let way = trip-on trip view next here (Child n k) value on-child refl step in
      let place =
      ap (λ (b : Bool). if b then next_child rest stack n level k else record { rest = rest; stack = stack; spot = at_bound n level k value [] }) (eq-eqb value 0 none) ∙ child-next rest stack n level k
      in
      let there : Reaches trip view next (child_place rest stack n level (k + 1)) [] 1 = subst (λ (p : Position). Reaches trip view next p [] 1) place way in
      (level, stack, h.2, collecting-more trip shape finder after view next (child_place rest stack n level k) (child_place rest stack n level (k + 1)) [] 1 h.3 there (puts-none finder after has seqs) loads)

  module _ (mid : View) (x : ℕ) (step : WalksOn view mid (Child n k) x) (some : x ≢ 0) where
    pub to-bound : Reaches trip view mid (bound_place rest stack n level k x) [] 1
    to-bound =
        subst (λ (p : Position). Reaches trip view mid p [] 1)
        (ap (λ (b : Bool). if b then next_child rest stack n level k else record { rest = rest; stack = stack; spot = at_bound n level k x [] }) (ne_eqb x 0 some))
        (trip-on trip view mid here (Child n k) x on-child refl step)

    -- a body that it is is one of the world
    pub child-body : ∥ IsCurrent mid ∥₁ → (index : ℕ) → x ≡ body_child index → index < mid.config.bodies
    child-body current index is =
        body-at trip mid (bound_place rest stack n level k x) to-bound.on current n k index
        (subst (λ (v : ℕ). Contains mid.walk.loads (record { name = Child n k; value = v })) is
        (subst (λ (l : List Load). Contains l (record { name = Child n k; value = x })) (sym step.loads) (Contains-push view.walk.loads (record { name = Child n k; value = x }))))

    module _ (next : View) (touches : Bool) (read : HasReadBound trip mid next rest stack n level k x touches) where
      abbrev Later : List Waiting
      Later = if touches then pushed level x stack else stack

      past-child : Reaches trip view next (child_place rest Later n level (k + 1)) (if touches then body_named x else []) 7
      past-child =
          subst (λ (p : Position). Reaches trip view next p (if touches then body_named x else []) 7) (child-next rest Later n level k)
          (reaches-trans trip view mid next (bound_place rest stack n level k x) (past_bound rest stack n level k x touches) [] (if touches then body_named x else []) 1 6 to-bound read)

      pub child-kept : (counted after : Finder) (later : List ℕ) → ((index : ℕ) → has_index counted index ≡ has_index finder index) → ((index : ℕ) → seq_of counted index ≡ seq_of finder index)
          → counted.loads ≡ finder.loads + 7 → KeepsChild touches x nodes later counted after → IsAtChild trip rest shape after later next n (k + 1)
      child-kept counted after later has seqs loads keeps = (
        level,
        Later,
        keeps.stack ∙ nodes-kept touches (x % 2 == 0) nodes stack ((x - 2) / 2) (suc level) h.2,
        collecting-more trip shape finder after view next (child_place rest stack n level k) (child_place rest Later n level (k + 1)) (if touches then body_named x else []) 7 h.3 past-child
            (record {
              has = λ index. (
                λ t. elim ((keeps.puts.has index).0 t) [ inl was ↦ inl (sym (has index) ∙ was) | inr new ↦ inr new ],
                λ t. (keeps.puts.has index).1 (elim t [ inl was ↦ inl (has index ∙ was) | inr new ↦ inr new ]),
              );
              seqs = λ zero. keeps.puts.seqs (λ index t. seqs index ∙ zero index (sym (has index) ∙ t));
            })
            (keeps.loads ∙ loads),
      )

      -- a node that it is is one of the world
      pub child-node : ∥ IsCurrent next ∥₁ → touches ≡ true → (m : ℕ) → x ≡ node_child m → m < node_count next.config
      child-node current touched m is =
          let even : (x % 2 == 0) ≡ true = eq-eqb (x % 2) 0 (omega arith) in
          let half : (x - 2) / 2 ≡ m = omega arith in
          let later : Later ≡ waiting m (suc level) ∷ stack =
          ap (λ (b : Bool). if b then pushed level x stack else stack) touched
          ∙ (ap (λ (b : Bool). if b then waiting ((x - 2) / 2) (suc level) ∷ stack else stack) even ∙ ap (λ (z : ℕ). waiting z (suc level) ∷ stack) half)
          in
          first-node trip next rest (waiting m (suc level)) stack n level (k + 1) (subst (λ (s : List Waiting). IsOnTrip trip next (child_place rest s n level (k + 1))) later past-child.on) current
