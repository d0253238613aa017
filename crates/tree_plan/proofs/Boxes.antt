-- The boxes of bodies, written where the bodies stand in the tree.
use Rattle.std.proofs.Common.{◌≡◌, ℕ, ◌+◌, ◌*◌, ◌<◌, inl, inr, List, length, take, get_or, set, sym, ◌∙◌, ap, subst, arith}
use Rattle.std.specs.List.{Contains}
use Rattle.std.specs.List.Sorted.{IsPermutation}
use Rattle.std.proofs.lemmas.Bool.{cases_eq}
use Rattle.std.proofs.lemmas.List.{get_or-set_same, get_or-set_other, get_or_default, get_or-take, length-set}
use Rattle.std.proofs.lemmas.List.Sorted.{IsPermutation-sym, Contains-permutation}
use Rattle.fixed_box.specs.declared.fix_box.FixBox.{FixBox}
use Rattle.tree_plan.specs.declared.plan_child.PlanChild.{PlanChild}
use Rattle.tree_plan.specs.declared.plan_child.PlanChild.TheVariants.{Nothing, Body}
use Rattle.tree_plan.specs.Numbering.{slot_child, HaveBoxes}

-- what stands at a slot after it is filled, and what at the slots before it
child_read : (children : List PlanChild) (slot t : ℕ) (e child : PlanChild) → slot < length children → t ≡ slot → slot_child (set children slot e) t ≡ child → e ≡ child
child_read children slot t e child within same is = sym (ap (slot_child (set children slot e)) same ∙ get_or-set_same children slot e Nothing within) ∙ is

child_before : (children : List PlanChild) (slot t : ℕ) (e child : PlanChild) → t < slot → slot_child (set children slot e) t ≡ child → slot_child children t ≡ child
child_before children slot t e child before is = sym (get_or-set_other children slot t e Nothing (λ same. omega arith)) ∙ is

below_or_here : (t slot : ℕ) → t < slot + 1 → (t < slot → ⊥) → t ≡ slot
below_or_here t slot under not = elim (cases_eq t slot) [ inl same ↦ same | inr apart ↦ absurd (not (omega arith)) ]

-- where no body stands no box is written
pub HaveBoxes-other : (bodies : List (ℕ × FixBox)) (children : List PlanChild) (boxes : List FixBox) (slot : ℕ) (e : PlanChild) → slot < length children → ((index : ℕ) → e ≡ Body index → ⊥)
    → HaveBoxes bodies children boxes slot → HaveBoxes bodies (set children slot e) boxes (slot + 1)
HaveBoxes-other bodies children boxes slot e within other h = λ t index d under room is.
    elim (cases_eq t slot) [
      | inl same ↦ absurd (other index (child_read children slot t e (Body index) within same is))
      | inr apart ↦ h t index d (omega arith) room (child_before children slot t e (Body index) (omega arith) is)
    ]

body_index : (i j : ℕ) → Body i ≡ Body j → i ≡ j
body_index i j e = cc

one_body : (bodies : List (ℕ × FixBox)) (children : List PlanChild) (boxes : List FixBox) (slot start : ℕ) (past : ℕ × FixBox) → slot < length children → start < length bodies
    → HaveBoxes bodies children boxes slot → HaveBoxes bodies (set children slot (Body (get_or bodies start past).0)) (set boxes slot (get_or bodies start past).1) (slot + 1)
one_body bodies children boxes slot start past within some h = λ t index d under room is.
    let body : ℕ × FixBox = get_or bodies start past in
    let size : length (set boxes slot body.1) ≡ length boxes = length-set boxes slot body.1 in
    elim (cases_eq t slot) [
      | inl same ↦
          let its : body.0 ≡ index = body_index body.0 index (child_read children slot t (Body body.0) (Body index) within same is) in
          let box : get_or (set boxes slot body.1) t d ≡ body.1 = ap (λ k. get_or (set boxes slot body.1) k d) same ∙ get_or-set_same boxes slot body.1 d (omega arith) in
          let here : Contains bodies (body.0, body.1) = (start, some, get_or_default bodies start body past some) in
          subst (λ (b : FixBox). Contains bodies (index, b)) (sym box) (subst (λ (i : ℕ). Contains bodies (i, body.1)) its here)
      | inr apart ↦
          subst (λ (b : FixBox). Contains bodies (index, b)) (sym (get_or-set_other boxes slot t body.1 d (λ same. omega arith)))
          (h t index d (omega arith) (omega arith) (child_before children slot t (Body body.0) (Body index) (omega arith) is))
    ]

-- the box of a body is
pub HaveBoxes-body : (bodies : List (ℕ × FixBox)) (children : List PlanChild) (boxes : List FixBox) (slot start : ℕ) (past other : ℕ × FixBox) → slot < length children → start < length bodies
    → HaveBoxes bodies children boxes slot → HaveBoxes bodies (set children slot (Body (get_or bodies start past).0)) (set boxes slot (get_or bodies start other).1) (slot + 1)
HaveBoxes-body bodies children boxes slot start past other within some h =
    subst (λ (b : ℕ × FixBox). HaveBoxes bodies (set children slot (Body (get_or bodies start past).0)) (set boxes slot b.1) (slot + 1)) (get_or_default bodies start past other some)
    (one_body bodies children boxes slot start past within some h)

pub HaveBoxes-none : (bodies : List (ℕ × FixBox)) (children : List PlanChild) (boxes : List FixBox) → HaveBoxes bodies children boxes 0
HaveBoxes-none bodies children boxes = λ t index d under room is. absurd (omega arith)

-- those of all slots, for the bodies in the order in which they came
pub all_boxes : (bodies old : List (ℕ × FixBox)) (children : List PlanChild) (boxes : List FixBox) (nodes n c index : ℕ) (d : FixBox) → IsPermutation old bodies → HaveBoxes bodies children boxes (4 * nodes)
    → n < nodes → c < 4 → 4 * n + c < length boxes → slot_child (take (4 * nodes) children) (4 * n + c) ≡ Body index → Contains old (index, get_or boxes (4 * n + c) d)
all_boxes bodies old children boxes nodes n c index d same h made few room is =
    let read : slot_child children (4 * n + c) ≡ Body index = sym (get_or-take (4 * nodes) children (4 * n + c) Nothing (omega arith)) ∙ is in
    Contains-permutation bodies old (index, get_or boxes (4 * n + c) d) (IsPermutation-sym old bodies same) (h (4 * n + c) index d (omega arith) room read)
