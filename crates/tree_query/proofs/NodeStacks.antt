-- The nodes that wait on the stack of a walk that collects.
use Rattle.std.proofs.Common.{◌≡◌, ℕ, ◌<◌, ◌^◌, List, [], ◌∷◌, ◌++◌, length, true, false, refl, ap, sym, ◌∙◌, subst, arith}
use Rattle.std.proofs.lemmas.List.{length_push}
use Rattle.fixed_box.specs.declared.shape.Shape.{Shape}
use Rattle.word_map.specs.Limits.{IsConfig}
use Rattle.word_map.specs.declared.name.Name.{Name}
use Rattle.core_state.specs.declared.view.View.{View}
use Rattle.core_state.specs.Walking.{at_child, next_node}
use Rattle.pass_table.specs.Bodies.{IsCurrent}
use Rattle.tree_query.specs.declared.finder.Finder.{Finder}
use Rattle.tree_query.specs.Collecting.{Trip, IsCollecting, nodes_in, IsAtChild, IsAtNodes, word_place}
use Rattle.tree_query.proofs.Kept.{loads-fit}

-- two lists with one more each are the same only where both are
pushed-same : (xs ys : List ℕ) (x y : ℕ) → xs ++ x ∷ [] ≡ ys ++ y ∷ [] → (xs ≡ ys) × (x ≡ y)
pushed-same [] [] x y same = (refl, cc)
pushed-same [] (b ∷ ys) x y same = let count = ap length same in let more = length_push ys y in absurd (omega arith)
pushed-same (a ∷ xs) [] x y same = let count = ap length same in let more = length_push xs x in absurd (omega arith)
pushed-same (a ∷ xs) (b ∷ ys) x y same =
    let first : a ≡ b = cc in
    let later : xs ++ x ∷ [] ≡ ys ++ y ∷ [] = cc in
    let both = pushed-same xs ys x y later in
    (ap (λ (z : ℕ). z ∷ xs) first ∙ ap (λ (l : List ℕ). b ∷ l) both.0, both.1)

-- what is not longer than nothing is empty
pub none-left : (xs : List ℕ) → (0 < length xs → false ≡ true) → xs ≡ []
none-left [] longer = refl
none-left (x ∷ xs) longer = let e = longer (omega arith) in absurd cc

module _ (trip : Trip) (rest : List Name) (shape : Shape) (finder : Finder) (view : View) where
  -- the last node of the stack is walked next
  pub at-node : (nodes left : List ℕ) (node : ℕ) → nodes ≡ left ++ node ∷ [] → IsAtNodes trip rest shape finder nodes view → IsAtChild trip rest shape finder left view node 0
  at-node nodes left node parts ([], same, at) = let count = ap length (sym same ∙ parts) in let more = length_push left node in absurd (omega arith)
  at-node nodes left node parts (w ∷ stack, same, at) =
      let both = pushed-same left (nodes_in stack) node w.node (sym parts ∙ same) in (
        w.level,
        stack,
        both.0,
        subst (λ (n : ℕ). IsCollecting trip shape finder view (record { rest = rest; stack = stack; spot = at_child n w.level 0 })) (sym both.1) at,
      )

  -- where none is left, the next word is to be read
  pub no-nodes : (nodes : List ℕ) → nodes ≡ [] → IsAtNodes trip rest shape finder nodes view → IsCollecting trip shape finder view (word_place rest)
  no-nodes nodes none ([], same, at) = at
  no-nodes nodes none (w ∷ stack, same, at) = let count = ap length (sym none ∙ same) in let more = length_push (nodes_in stack) w.node in absurd (omega arith)

  -- the loads so far are few
  pub nodes-few : (nodes : List ℕ) → ∥ IsCurrent view ∥₁ → IsConfig view.config → IsAtNodes trip rest shape finder nodes view → finder.loads < 2 ^ 32
  nodes-few nodes current limits h =
      let few = loads-fit trip view (next_node rest h.0) h.2.on current limits in
      let loads = h.2.kept.loads in
      omega arith
