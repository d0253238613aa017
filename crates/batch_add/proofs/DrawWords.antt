-- What a store leaves of the words of nodes that are drawn, and how far they say the plan then.
use Rattle.std.proofs.Common.{◌≡◌, ◌≢◌, ℕ, suc, ◌+◌, ◌*◌, ◌<◌, nat_eq, length, List, sym, ◌∙◌, ap, subst, inl, inr, arith}
use Rattle.std.specs.List.{IsDistinct}
use Rattle.std.proofs.lemmas.Bool.{cases_lt}
use Rattle.std.proofs.lemmas.Option.{same_Some}
use Rattle.tree_plan.specs.declared.plan_child.PlanChild.TheVariants.{Nothing}
use Rattle.tree_plan.specs.Plan.{node_count, child_at, parent_at}
use Rattle.tree_bounds.specs.Bounds.{side}
use Rattle.word_map.specs.declared.name.Name.{Name}
use Rattle.word_map.specs.declared.name.Name.TheVariants.{Child, Bound, Parent}
use Rattle.core_state.specs.Nodes.{node_in}
use Rattle.batch_add.specs.Drawing.{node_at, child_word, parent_word}
use Rattle.batch_add.specs.stages.DrawStages.{Planned, Reached, SaysUpTo}
use Rattle.batch_add.proofs.Drawn.{position, position-node_at}

-- other nodes of the plan become other nodes
pub node-alone : (nodes : List ℕ) (m n : ℕ) → IsDistinct nat_eq nodes → m < length nodes → n < length nodes → node_at nodes m ≡ node_at nodes n → m ≡ n
node-alone nodes m n distinct inside within same =
    sym (position-node_at nodes m distinct inside) ∙ (ap (position nodes) same ∙ position-node_at nodes n distinct within)

-- which child, and which side, a word is of
abbrev child_number : Name → ℕ
child_number (Child n k) = k
child_number (Bound n k q) = k
child_number _ = 0

abbrev side_number : Name → ℕ
side_number (Bound n k q) = q
side_number _ = 0

-- a store of one word: the word then has this value, and all other words that have one keep it
pub record StoresBeside (before after : Name → ℕ → Type 0) (name : Name) (value : ℕ) : Type 0 where
  pub now : after name value
  pub others : (other : Name) (here : ℕ) → name ≢ other → before other here → after other here

module _ (before after : Name → ℕ → Type 0) (p : Planned) (distinct : IsDistinct nat_eq p.nodes) (many : length p.nodes ≡ node_count p.plan) (r : Reached) (says : SaysUpTo before p r) where
  abbrev at : ℕ → ℕ
  at n = node_at p.nodes n

  one_node : (m n : ℕ) → m < node_count p.plan → n < node_count p.plan → at m ≡ at n → m ≡ n
  one_node m n made there same = node-alone p.nodes m n distinct (omega (arith, many)) (omega (arith, many)) same

  -- two words of one node and child are of one place
  one_place : (m j n k : ℕ) → m < node_count p.plan → n < node_count p.plan → at m ≡ at n → j ≡ k → 4 * m + j ≡ 4 * n + k
  one_place m j n k made there same child = let e = one_node m n made there same in omega arith

  -- the word of a child
  module _ (n k : ℕ) (made : n < node_count p.plan) (few : k < 4) (stores : StoresBeside before after (Child (at n) k) (child_word p.nodes (child_at p.plan n k))) (here : r.children ≡ 4 * n + k) where
    child_more : (m j : ℕ) → m < node_count p.plan → j < 4 → 4 * m + j < suc (4 * n + k) → after (Child (at m) j) (child_word p.nodes (child_at p.plan m j))
    child_more m j made_m few_j below =
        elim (cases_lt (4 * m + j) (4 * n + k)) [
          | inl less ↦
              stores.others (Child (at m) j) (child_word p.nodes (child_at p.plan m j))
              (λ same.
              let one = one_place n k m j made made_m (same_Some (at n) (at m) (ap node_in same)) (ap child_number same) in
              omega arith)
              (says.child m j made_m few_j (omega arith))
          | inr past ↦
              let node : n ≡ m = omega arith in
              let child : k ≡ j = omega arith in
              subst (λ (z : ℕ). after (Child (at m) z) (child_word p.nodes (child_at p.plan m z))) child
              (subst (λ (z : ℕ). after (Child (at z) k) (child_word p.nodes (child_at p.plan z k))) node stores.now)
        ]

    pub child-said : SaysUpTo after p (record r { children = suc (4 * n + k) })
    child-said = record {
      child = child_more;
      bounds = λ m j q made_m few_j side_q below some. stores.others (Bound (at m) j q) (side (p.bound m j) q) (λ same. absurd cc) (says.bounds m j q made_m few_j side_q below some);
      parent = λ m made_m below. stores.others (Parent (at m)) (parent_word p.nodes (parent_at p.plan m)) (λ same. absurd cc) (says.parent m made_m below);
    }

  -- a side of its bound
  module _ (n k q : ℕ) (made : n < node_count p.plan) (few : k < 4) (inside : q < 6) (stores : StoresBeside before after (Bound (at n) k q) (side (p.bound n k) q)) (here : r.sides ≡ 6 * (4 * n + k) + q) where
    side_more : (m j s : ℕ) → m < node_count p.plan → j < 4 → s < 6 → 6 * (4 * m + j) + s < suc (6 * (4 * n + k) + q) → child_at p.plan m j ≢ Nothing → after (Bound (at m) j s) (side (p.bound m j) s)
    side_more m j s made_m few_j side_s below some =
        elim (cases_lt (6 * (4 * m + j) + s) (6 * (4 * n + k) + q)) [
          | inl less ↦
              stores.others (Bound (at m) j s) (side (p.bound m j) s)
              (λ same.
              let one = one_place n k m j made made_m (same_Some (at n) (at m) (ap node_in same)) (ap child_number same) in
              let also : q ≡ s = ap side_number same in
              omega arith)
              (says.bounds m j s made_m few_j side_s (omega arith) some)
          | inr past ↦
              let places : 4 * n + k ≡ 4 * m + j = omega arith in
              let node : n ≡ m = omega arith in
              let child : k ≡ j = omega arith in
              let number : q ≡ s = omega arith in
              subst (λ (z : ℕ). after (Bound (at m) j z) (side (p.bound m j) z)) number
              (subst (λ (z : ℕ). after (Bound (at m) z q) (side (p.bound m z) q)) child
              (subst (λ (z : ℕ). after (Bound (at z) k q) (side (p.bound z k) q)) node stores.now))
        ]

    pub side-said : SaysUpTo after p (record r { sides = suc (6 * (4 * n + k) + q) })
    side-said = record {
      child = λ m j made_m few_j below. stores.others (Child (at m) j) (child_word p.nodes (child_at p.plan m j)) (λ same. absurd cc) (says.child m j made_m few_j below);
      bounds = side_more;
      parent = λ m made_m below. stores.others (Parent (at m)) (parent_word p.nodes (parent_at p.plan m)) (λ same. absurd cc) (says.parent m made_m below);
    }

  -- a parent
  module _ (n : ℕ) (made : n < node_count p.plan) (stores : StoresBeside before after (Parent (at n)) (parent_word p.nodes (parent_at p.plan n))) (here : r.parents ≡ n) where
    parent_more : (m : ℕ) → m < node_count p.plan → m < suc n → after (Parent (at m)) (parent_word p.nodes (parent_at p.plan m))
    parent_more m made_m below =
        elim (cases_lt m n) [
          | inl less ↦
              stores.others (Parent (at m)) (parent_word p.nodes (parent_at p.plan m))
              (λ same. let one = one_node n m made made_m (same_Some (at n) (at m) (ap node_in same)) in omega arith)
              (says.parent m made_m (omega arith))
          | inr past ↦
              let node : n ≡ m = omega arith in
              subst (λ (z : ℕ). after (Parent (at z)) (parent_word p.nodes (parent_at p.plan z))) node stores.now
        ]

    pub parent-said : SaysUpTo after p (record r { parents = suc n })
    parent-said = record {
      child = λ m j made_m few_j below. stores.others (Child (at m) j) (child_word p.nodes (child_at p.plan m j)) (λ same. absurd cc) (says.child m j made_m few_j below);
      bounds = λ m j q made_m few_j side_q below some. stores.others (Bound (at m) j q) (side (p.bound m j) q) (λ same. absurd cc) (says.bounds m j q made_m few_j side_q below some);
      parent = parent_more;
    }

-- where nothing stands, no bound is stored
pub sides-passed : (said : Name → ℕ → Type 0) (p : Planned) (r : Reached) (n k : ℕ) → k < 4 → child_at p.plan n k ≡ Nothing → r.sides ≡ 6 * (4 * n + k) → SaysUpTo said p r
    → SaysUpTo said p (record r { sides = 6 * suc (4 * n + k) })
sides-passed said p r n k few none here says = record {
  child = says.child;
  bounds = λ m j q made few_j side_q below some.
      elim (cases_lt (6 * (4 * m + j) + q) (6 * (4 * n + k))) [
        | inl less ↦ says.bounds m j q made few_j side_q (omega arith) some
        | inr past ↦
            let places : 4 * n + k ≡ 4 * m + j = omega arith in
            let node : n ≡ m = omega arith in
            let child : k ≡ j = omega arith in
            absurd (some ((λ i. child_at p.plan (sym node i) (sym child i)) ∙ none))
      ];
  parent = says.parent;
}
