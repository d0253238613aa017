-- Plans and bounds are of a set of bodies, whatever their order.
use Rattle.std.proofs.Common.{ℕ, List, map, sym, ◌∙◌, ap}
use Rattle.std.specs.List.{filter_map}
use Rattle.std.specs.List.Sorted.{IsPermutation}
use Rattle.std.proofs.lemmas.List.Sorted.{IsPermutation-sym, IsPermutation-trans, IsPermutation-map, length_permutation, Contains-permutation}
use Rattle.fixed_box.specs.declared.fix_box.FixBox.{FixBox}
use Rattle.scene_model.specs.Need.{need}
use Rattle.tree_plan.specs.Arranged.{AreApart}
use Rattle.tree_plan.specs.Plan.{Plan, body_of, IsPlanOf}
use Rattle.tree_plan.proofs.Standing.{tree-permutation}
use Rattle.tree_bounds.specs.Bounds.{AreBoundsOf}

pub IsPlanOf-permutation : (bodies others : List (ℕ × FixBox)) (plan : Plan) → AreApart bodies → IsPermutation bodies others → IsPlanOf bodies plan → IsPlanOf others plan
IsPlanOf-permutation bodies others plan apart same h = record {
  nodes = h.nodes ∙ ap need (sym (length_permutation bodies others same));
  slots = h.slots;
  same_tree = h.same_tree ∙ tree-permutation bodies others apart same;
  low = h.low;
  once =
      IsPermutation-trans (map (λ b. b.0) others) (map (λ b. b.0) bodies) (filter_map body_of plan.children)
      (IsPermutation-sym (map (λ b. b.0) bodies) (map (λ b. b.0) others) (IsPermutation-map (λ (b : ℕ × FixBox). b.0) bodies others same)) h.once;
  breadth_first = h.breadth_first;
  parents = h.parents;
}

pub AreBoundsOf-permutation : (bodies others : List (ℕ × FixBox)) (plan : Plan) (bound : ℕ → ℕ → FixBox) → IsPermutation bodies others → AreBoundsOf bodies plan bound → AreBoundsOf others plan bound
AreBoundsOf-permutation bodies others plan bound same h = record {
  a_body = λ n k index made few e. Contains-permutation bodies others (index, bound n k) same (h.a_body n k index made few e);
  a_node = h.a_node;
}
