-- Bounds that are filled in from the last place on. Place 4 * n + k is that of child k of node n.
use Rattle.std.proofs.Common.{◌≡◌, ◌≢◌, ℕ, ◌+◌, ◌*◌, ◌<◌, ◌≤◌, inl, inr, List, length, take, get_or, set, sym, ◌∙◌, ap, subst, arith, get_or-set_same, get_or-set_other}
use Rattle.std.specs.List.{Contains}
use Rattle.std.proofs.lemmas.Bool.{cases_eq}
use Rattle.std.proofs.lemmas.List.{get_or-take, length-set}
use Rattle.fixed_box.specs.declared.fix_box.FixBox.{FixBox}
use Rattle.tree_plan.specs.declared.plan_child.PlanChild.TheVariants.{Body, Node}
use Rattle.tree_plan.specs.Plan.{Plan, node_count, child_at, IsPlanOf, HaveBoxesOf}
use Rattle.tree_bounds.specs.Bounds.{IsHullOfNode, AreBoundsOf}
use Rattle.tree_bounds.specs.Held.{no_bound, bound_in}
use Rattle.tree_bounds.proofs.FirstChildren.{below_later}
use Rattle.tree_bounds.proofs.NodeHulls.{IsHullOfNode-same}

-- the bounds are right from a place on
pub record AreBoundsFrom (bodies : List (ℕ × FixBox)) (plan : Plan) (bound : ℕ → ℕ → FixBox) (place : ℕ) : Type 0 where
  pub a_body : (n k index : ℕ) → place ≤ 4 * n + k → n < node_count plan → k < 4 → child_at plan n k ≡ Body index → Contains bodies (index, bound n k)
  pub a_node : (n k m : ℕ) → place ≤ 4 * n + k → n < node_count plan → k < 4 → child_at plan n k ≡ Node m → IsHullOfNode plan bound m (bound n k)

pub AreBoundsFrom-none : (bodies : List (ℕ × FixBox)) (plan : Plan) (bound : ℕ → ℕ → FixBox) (place : ℕ) → 4 * node_count plan ≤ place → AreBoundsFrom bodies plan bound place
AreBoundsFrom-none bodies plan bound place past = record {
  a_body = λ n k index from made few e. absurd (omega arith);
  a_node = λ n k m from made few e. absurd (omega arith);
}

pub AreBoundsOf-all : (bodies : List (ℕ × FixBox)) (plan : Plan) (bound : ℕ → ℕ → FixBox) → AreBoundsFrom bodies plan bound 0 → AreBoundsOf bodies plan bound
AreBoundsOf-all bodies plan bound h = record { a_body = λ n k index. h.a_body n k index (omega arith); a_node = λ n k m. h.a_node n k m (omega arith) }

-- the bounds of the nodes of a plan are those that count
pub AreBoundsOf-same : (bodies : List (ℕ × FixBox)) (plan : Plan) (bound other : ℕ → ℕ → FixBox) → IsPlanOf bodies plan → ((n k : ℕ) → n < node_count plan → k < 4 → bound n k ≡ other n k)
    → AreBoundsOf bodies plan bound → AreBoundsOf bodies plan other
AreBoundsOf-same bodies plan bound other planned same h = record {
  a_body = λ n k index made few e. subst (λ (b : FixBox). Contains bodies (index, b)) (same n k made few) (h.a_body n k index made few e);
  a_node = λ n k m made few e.
      let below = below_later bodies plan planned n k m made few e in
      subst (IsHullOfNode plan other m) (same n k made few) (IsHullOfNode-same plan bound other m (bound n k) (λ i less. same m i below.1 less) (h.a_node n k m made few e));
}

pub bound_in-take : (boxes : List FixBox) (nodes n k : ℕ) → n < nodes → k < 4 → bound_in boxes n k ≡ bound_in (take (4 * nodes) boxes) n k
bound_in-take boxes nodes n k made few = sym (get_or-take (4 * nodes) boxes (4 * n + k) no_bound (omega arith))

-- one place more, before those that are right
module _ (bodies : List (ℕ × FixBox)) (plan : Plan) (planned : IsPlanOf bodies plan) (boxes : List FixBox) (place : ℕ) (within : place < length boxes) (box : FixBox) where
  others_stay : (n k : ℕ) → 4 * n + k ≢ place → bound_in boxes n k ≡ bound_in (set boxes place box) n k
  others_stay n k apart = sym (get_or-set_other boxes place (4 * n + k) box no_bound apart)

  this_is : (n k : ℕ) → 4 * n + k ≡ place → box ≡ bound_in (set boxes place box) n k
  this_is n k same = sym (ap (λ i. get_or (set boxes place box) i no_bound) same ∙ get_or-set_same boxes place box no_bound within)

  hull_stays : (n k m : ℕ) (hull : FixBox) → place ≤ 4 * n + k → n < node_count plan → k < 4 → child_at plan n k ≡ Node m → IsHullOfNode plan (bound_in boxes) m hull
      → IsHullOfNode plan (bound_in (set boxes place box)) m hull
  hull_stays n k m hull from made few e h =
      let below = below_later bodies plan planned n k m made few e in
      IsHullOfNode-same plan (bound_in boxes) (bound_in (set boxes place box)) m hull (λ i less. others_stay m i (λ same. omega (arith, below.0))) h

  pub AreBoundsFrom-more : (n k : ℕ) → 4 * n + k ≡ place → k < 4 → ((index : ℕ) → child_at plan n k ≡ Body index → Contains bodies (index, box))
      → ((m : ℕ) → child_at plan n k ≡ Node m → IsHullOfNode plan (bound_in boxes) m box) → AreBoundsFrom bodies plan (bound_in boxes) (place + 1) → AreBoundsFrom bodies plan (bound_in (set boxes place box)) place
  AreBoundsFrom-more n k here few body node h = record {
    a_body = λ i j index from made less e.
        elim (cases_eq (4 * i + j) place) [
          | inl same ↦
              let one : i ≡ n = omega arith in
              let two : j ≡ k = omega arith in
              subst (λ (b : FixBox). Contains bodies (index, b)) (this_is i j same) (body index (ap (λ x. child_at plan x k) (sym one) ∙ ap (λ x. child_at plan i x) (sym two) ∙ e))
          | inr apart ↦ subst (λ (b : FixBox). Contains bodies (index, b)) (others_stay i j apart) (h.a_body i j index (omega arith) made less e)
        ];
    a_node = λ i j m from made less e.
        elim (cases_eq (4 * i + j) place) [
          | inl same ↦
              let one : i ≡ n = omega arith in
              let two : j ≡ k = omega arith in
              subst (IsHullOfNode plan (bound_in (set boxes place box)) m) (this_is i j same)
              (hull_stays i j m box from made less e (node m (ap (λ x. child_at plan x k) (sym one) ∙ ap (λ x. child_at plan i x) (sym two) ∙ e)))
          | inr apart ↦
              subst (IsHullOfNode plan (bound_in (set boxes place box)) m) (others_stay i j apart)
              (hull_stays i j m (bound_in boxes i j) from made less e (h.a_node i j m (omega arith) made less e))
        ];
  }

-- the boxes of the bodies stay where a bound is written that is the box of the body there, if one stands there
pub HaveBoxesOf-more : (bodies : List (ℕ × FixBox)) (plan : Plan) (boxes : List FixBox) (place n k : ℕ) (box : FixBox) → place < length boxes → 4 * n + k ≡ place → k < 4
    → ((index : ℕ) → child_at plan n k ≡ Body index → Contains bodies (index, box)) → HaveBoxesOf bodies plan boxes → HaveBoxesOf bodies plan (set boxes place box)
HaveBoxesOf-more bodies plan boxes place n k box within here few body h = λ i j index d made less inside e.
    let size : length (set boxes place box) ≡ length boxes = length-set boxes place box in
    elim (cases_eq (4 * i + j) place) [
      | inl same ↦
          let one : i ≡ n = omega arith in
          let two : j ≡ k = omega arith in
          let read : get_or (set boxes place box) (4 * i + j) d ≡ box = ap (λ t. get_or (set boxes place box) t d) same ∙ get_or-set_same boxes place box d within in
          subst (λ (b : FixBox). Contains bodies (index, b)) (sym read) (body index (ap (λ x. child_at plan x k) (sym one) ∙ ap (λ x. child_at plan i x) (sym two) ∙ e))
      | inr apart ↦ subst (λ (b : FixBox). Contains bodies (index, b)) (sym (get_or-set_other boxes place (4 * i + j) box d apart)) (h i j index d made less (omega arith) e)
    ]

-- a box that stays where it was is the body's
pub box_stays : (bodies : List (ℕ × FixBox)) (plan : Plan) (boxes : List FixBox) (n k : ℕ) (box : FixBox) → n < node_count plan → k < 4 → 4 * n + k < length boxes → HaveBoxesOf bodies plan boxes
    → ((index : ℕ) → child_at plan n k ≡ Body index → box ≡ bound_in boxes n k) → (index : ℕ) → child_at plan n k ≡ Body index → Contains bodies (index, box)
box_stays bodies plan boxes n k box made few inside h stays index e = subst (λ (b : FixBox). Contains bodies (index, b)) (sym (stays index e)) (h n k index no_bound made few inside e)
