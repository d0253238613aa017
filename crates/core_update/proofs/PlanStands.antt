-- The new trees stand once they are planned: their nodes are in them, and they are sound.
use Rattle.std.proofs.Common.{◌≡◌, ℕ, suc, ◌<◌, ◌≤◌, List, true, length, Contains, Option, Some, refl, ap, sym, ◌∙◌, subst, inl, inr, arith}
use Rattle.std.specs.Prelude.{IsSomeAnd, option_map, slice_index}
use Rattle.word_map.specs.declared.config.Config.{Config}
use Rattle.word_map.specs.declared.name.Name.{Name}
use Rattle.word_map.specs.declared.name.Name.TheVariants.{Child, Parent}
use Rattle.core_state.specs.declared.view.Rebuild.{Rebuild}
use Rattle.core_state.specs.Core.{Core}
use Rattle.core_state.specs.Encoding.{IsBox}
use Rattle.core_state.specs.Kind.{Step, after_step}
use Rattle.core_state.specs.Nodes.{Nodes, Home, owned, made, IsInTree}
use Rattle.core_state.specs.Noting.{MayFinishPlan, finish_plan, with_plan, new_node, IsNewTree, IsNewPart, IsBelowNewRoot}
use Rattle.core_state.specs.Noting as noting
use Rattle.core_state.specs.Parts.{update_on_trees}
use Rattle.core_state.specs.Scope.{Sight}
use Rattle.core_state.specs.Updates.{HasUpdate}
use Rattle.core_state.specs.TreesSound.{tree_scope, IsRootOf, IsChild, IsPlaced, as_root, at_place, IsSoundNode, RootsMade}
use Rattle.core_state.specs.TreesSound as trees
use Rattle.core_state.proofs.Steps.{view-step}
use Rattle.core_guard.proofs.Leaving.{Acts, Last}
use Rattle.core_guard.proofs.Seats.{seat-has}
use Rattle.core_guard.proofs.Settled.{sound}
use Rattle.core_update.proofs.EarlyUpdate.{own-home, unmade}
use Rattle.core_update.proofs.OwnNotes.{own-notes}
use Rattle.core_update.proofs.PlanNodes.{MakesHomes, planning}
use Rattle.core_update.proofs.PlanTrees.{PlansTrees, Second}
use Rattle.core_update.proofs.PlanWhole.{M, R, N, W, K, whole, child-now, parent-now, bound-now, later, made-home, made-depth, as_before, in_new, home-then}

pub made-layer : (p q k l : ℕ) → made p k ≡ made q l → k ≡ l
made-layer p q k l e = ap layer_of_home e
  where
    layer_of_home : Home → ℕ
    layer_of_home (made x y) = y
    layer_of_home _ = 0

module _ (layer : ℕ) (core : Core) (step : Step) (a : Acts core step) (asked : MayFinishPlan layer step.view step.name step.first step.second) where
  abbrev nodes : Nodes
  nodes = a.laws.nodes

  abbrev r : Rebuild
  r = asked.r

  abbrev pub Made : ℕ → ℕ → Type 0
  Made l n = Contains (M layer core step a asked) (new_node l n)

  abbrev pub Later : Nodes
  Later = later layer core step a asked

  abbrev Word : Name → ℕ
  Word = W layer core step a asked

  abbrev pub u : Rebuild
  u = record asked.r { made = M layer core step a asked; roots = R layer core step a asked; is_planned = true }

  pub two : option_map (with_plan layer step.name step.first) step.view.rebuild ≡ Some u
  two = ap (option_map (with_plan layer step.name step.first)) asked.stores.update ∙ ap (λ (n : Name). Some (with_plan layer n step.first asked.r)) asked.names

  pub own-then : (n l : ℕ) → Made l n → nodes.home n ≡ owned step.number
  own-then n l inside = own-home core step a asked.r asked.stores.update asked.stores.early n ((whole layer core step a asked).owned l n inside)

  pub makes : MakesHomes (with_plan layer) core step a asked.r asked.stores.update asked.stores.early.unplanned (M layer core step a asked) (R layer core step a asked) true two Later
  makes = record {
    homes = λ n. elim (home-then layer core step a asked n) [
      | as_before home depth ↦ inl home
      | in_new l inside ↦ inr ((whole layer core step a asked).owned l n inside, own-then n l inside, (l, made-home layer core step a asked n l inside))
    ];
    own_made = λ n l. (
      λ e. elim (home-then layer core step a asked n) [
        | as_before home depth ↦ absurd (unmade core step a asked.r asked.stores.update asked.stores.early n l (sym home ∙ e))
        | in_new k inside ↦
            let same : k ≡ l = made-layer step.number step.number k l (sym (made-home layer core step a asked n k inside) ∙ e) in
            let here : Made l n = subst (λ (x : ℕ). Made x n) same inside in
            (refl, subst (λ (xs : List ℕ). length xs ≤ l) (sym asked.stores.early.swapped) (omega arith), (whole layer core step a asked).layers l n here, here)
      ],
      λ t. made-home layer core step a asked n l t.3,
    );
  }

  -- ---- the trees are sound

  -- a node that was made is in the tree of its layer
  pub tree-of : (l n : ℕ) → Made l n → (root : ℕ) × IsNewTree (K layer core step a asked) (N layer core step a asked) (whole layer core step a asked).depth l root
  tree-of l n inside =
      elim ((whole layer core step a asked).trees l) [
        | inl t ↦ t
        | inr none ↦ absurd (none.no_nodes n inside)
      ]

  module _ (l root : ℕ) (t : IsNewTree (K layer core step a asked) (N layer core step a asked) (whole layer core step a asked).depth l root) where
    abbrev Now : Sight
    Now = Second (with_plan layer) core step a asked.r asked.stores.update asked.stores.early (M layer core step a asked) (R layer core step a asked) true two Later makes

    child-then : (n k : ℕ) → Made l n → K layer core step a asked (Child n k) ≡ Word (Child n k)
    child-then n k inside = child-now layer core step a asked l root t n k inside

    part-then : (n k : ℕ) → Made l n → IsNewPart (K layer core step a asked) (N layer core step a asked) (whole layer core step a asked).depth l n k → IsChild Later Now n k
    part-then n k inside (noting.nothing e) = trees.nothing (sym (child-then n k inside) ∙ e)
    part-then n k inside (noting.a_body m among of_layer at e) =
        trees.a_body m.index
        (subst (λ (x : ℕ). m.index < x) (asked.all_bodies ∙ ap (λ (c : Config). c.bodies) (sound core step a).config) ((own-notes core step a asked.r asked.stores.update).passed m among)) (sym (child-then n k inside) ∙ e)
    part-then n k inside (noting.a_node c among e parent deeper) =
        trees.a_node c (sym (child-then n k inside) ∙ e) (made-home layer core step a asked c l among ∙ sym (made-home layer core step a asked n l inside)) (sym (parent-now layer core step a asked l root t c among) ∙ parent)
        (made-depth layer core step a asked c l among ∙ (deeper ∙ ap suc (sym (made-depth layer core step a asked n l inside))))

    root-then : IsRootOf Now (made step.number l) root
    root-then =
        seat-has tree_scope (λ k v. refl) (after_step (planning (with_plan layer)) core step) step.number (λ v. HasUpdate v (λ x. slice_index x.roots l ≡ suc root)) (record {
          seat = step.seat;
          view = Last (planning (with_plan layer)) core step;
          at = view-step (planning (with_plan layer)) core step a.at;
          pass = a.pass;
          holds = subst (λ (o : Option Rebuild). IsSomeAnd (option_map update_on_trees o) (λ x. slice_index x.roots l ≡ suc root)) (sym two) t.named;
        })

    placed-then : (n : ℕ) → Made l n → IsPlaced Later Now n
    placed-then n inside =
        elim (t.under_root n inside) [
          | inl top ↦
              as_root (sym (parent-now layer core step a asked l root t n inside) ∙ top.1)
              (subst (λ (home : Home). IsRootOf Now home n) (sym (made-home layer core step a asked n l inside)) (subst (λ (x : ℕ). IsRootOf Now (made step.number l) x) (sym top.0) root-then))
          | inr at ↦
              at_place at.0 at.1 at.2 (sym (parent-now layer core step a asked l root t n inside) ∙ at.4) (sym (child-then at.0 at.1 at.3) ∙ at.5)
              (made-home layer core step a asked at.0 l at.3 ∙ sym (made-home layer core step a asked n l inside))
        ]

    sound-then : (n : ℕ) → Made l n → IsSoundNode Later Now n
    sound-then n inside = record {
      children = λ k low. part-then n k inside (t.parts n k inside low);
      placed = placed-then n inside;
      height = subst (λ (d : ℕ). d < 10) (sym (made-depth layer core step a asked n l inside)) (t.height n inside);
      bounds = λ k low some.
          subst IsBox (λ j q. bound-now layer core step a asked l root t n k q inside j) (t.boxes n k inside low (λ none. some (sym (child-then n k inside) ∙ none)));
    }

  pub trees-then : PlansTrees (with_plan layer) core step a asked.r asked.stores.update asked.stores.early (M layer core step a asked) (R layer core step a asked) true two Later makes
  trees-then = record {
    depth = λ n inside. elim (home-then layer core step a asked n) [ as_before home depth ↦ depth | in_new l among ↦ absurd (subst IsInTree (own-then n l among) inside) ];
    sound = λ n l owns e.
        elim (home-then layer core step a asked n) [
          | as_before home depth ↦ absurd (unmade core step a asked.r asked.stores.update asked.stores.early n l (sym home ∙ e))
          | in_new k inside ↦ let t = tree-of k n inside in sound-then k t.0 t.1 n inside
        ];
    roots = λ l root is from named.
        elim ((whole layer core step a asked).trees l) [
          | inl t ↦
              let same : t.0 ≡ root = let e = t.1.named in omega arith in
              subst (λ (x : ℕ). (Later.home x ≡ made step.number l) × (Word (Parent x) ≡ 0)) same
              (made-home layer core step a asked t.0 l t.1.rooted, sym (parent-now layer core step a asked l t.0 t.1 t.0 t.1.rooted) ∙ t.1.top)
          | inr none ↦ let zero_there = none.no_root in absurd (omega arith)
        ];
  }
