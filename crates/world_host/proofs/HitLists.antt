-- A right answer to a query at one point is the list of hits there.
use Rattle.std.proofs.Common.{◌≡◌, ◌⊎◌, ℕ, zero, suc, ◌<◌, ◌≤◌, List, [], ◌∷◌, length, get_or, map, IsTrue, inl, inr, refl, ap, sym, ◌∙◌, subst, arith}
use Rattle.std.specs.Prelude.{⊤, All, AllPairs, Contains}
use Rattle.std.proofs.lemmas.List.{take_all, get_or-map, length-map, append-nil}
use Rattle.std.proofs.lemmas.List.Kept.{AllPairs-from_increasing}
use Rattle.std.specs.List.Sorted.{IsStrictlyIncreasing}
use Rattle.fixed_box.specs.declared.fix_box.FixBox.{FixBox}
use Rattle.fixed_box.specs.declared.shape.Shape.{Shape}
use Rattle.fixed_box.specs.Touch.{Touch}
use Rattle.shape_test.specs.Touched.{is_touched}
use Rattle.shape_test.proofs.Arrivals.{is_touched_decides}
use Rattle.body_ident.specs.Id.{Id, id_of}
use Rattle.scene_model.specs.declared.entry.Made.{Made}
use Rattle.scene_model.specs.Query.{hits}
use Rattle.scene_model.specs.History.{Interval, point, scene_after, Fits, IsRightAnswer}
use Rattle.scene_model.proofs.Hits.{hits_right}
use Rattle.core_state.specs.declared.view.View.{View}
use Rattle.core_state.specs.Log.{history}
use Rattle.tree_query.specs.Checking.{points_between}
use Rattle.script_player.proofs.Querying.{right_by}
use Rattle.world_host.specs.Alone.{scene_of}
use Rattle.world_host.proofs.Histories.{Sees}

-- ---- lists that ascend

abbrev Above : Id → List Id → Type 0
Above x xs = All (λ y. x.index < y.index) xs

abbrev Ascends : List Id → Type 0
Ascends [] = ⊤
Ascends (x ∷ xs) = Above x xs × Ascends xs

ascends-pairs : (xs : List Id) → AllPairs (λ a b. a.index < b.index) xs → Ascends xs
ascends-pairs [] h = tt
ascends-pairs (x ∷ xs) h = (
  λ k d below. h 0 (suc k) d (omega arith) (omega arith),
  ascends-pairs xs (λ i j d less below. h (suc i) (suc j) d (omega arith) (omega arith)),
)

ascends : (xs : List Id) → IsStrictlyIncreasing (map (λ i. i.index) xs) → Ascends xs
ascends xs up = ascends-pairs xs (λ i j d less below.
    let index : Id → ℕ = λ x. x.index in
    let inside : j < length (map index xs) = subst (λ (n : ℕ). j < n) (sym (length-map xs index)) below in
    let pair = AllPairs-from_increasing (map index xs) up i j 0 less inside in
    let one = get_or-map index xs i d 0 (omega (arith, less, below)) in
    let two = get_or-map index xs j d 0 below in
    omega arith)

-- a member of a list is above what the list is above
member-above : (x : Id) (xs : List Id) → Above x xs → (i : Id) → Contains xs i → x.index < i.index
member-above x xs above i c = subst (λ (y : Id). x.index < y.index) c.2 (above c.0 i c.1)

-- it is the first of a list, or one of the rest
member-at : (x : Id) (xs : List Id) (i : Id) (k : ℕ) → k < length (x ∷ xs) → get_or (x ∷ xs) k i ≡ i → (x ≡ i) ⊎ Contains xs i
member-at x xs i zero below is = inl is
member-at x xs i (suc k) below is = inr (k, omega arith, is)

member : (x : Id) (xs : List Id) (i : Id) → Contains (x ∷ xs) i → (x ≡ i) ⊎ Contains xs i
member x xs i c = member-at x xs i c.0 c.1 c.2

later-member : (x : Id) (xs : List Id) (i : Id) → Contains xs i → Contains (x ∷ xs) i
later-member x xs i c = (suc c.0, omega (arith, c.1), c.2)

abbrev Within : List Id → List Id → Type 0
Within xs ys = (i : Id) → Contains xs i → Contains ys i

-- the first of two lists with the same members is the same
same-first : (x y : Id) (xs ys : List Id) → Above x xs → Above y ys → Within (x ∷ xs) (y ∷ ys) → Within (y ∷ ys) (x ∷ xs) → x ≡ y
same-first x y xs ys above_x above_y there back = elim (member y ys x (there x (0, omega arith, refl))) [
  | inl same ↦ sym same
  | inr later ↦ elim (member x xs y (back y (0, omega arith, refl))) [
    | inl same ↦ same
    | inr other ↦
        let less = member-above y ys above_y x later in
        let more = member-above x xs above_x y other in
        absurd (omega arith)
  ]
]

-- and so the rests have the same members
same-rest : (x y : Id) (xs ys : List Id) → Above x xs → x ≡ y → Within (x ∷ xs) (y ∷ ys) → Within xs ys
same-rest x y xs ys above same there i c = elim (member y ys i (there i (later-member x xs i c))) [
  | inl first ↦
      let less = member-above x xs above i c in
      let is : x.index ≡ i.index = ap (λ (j : Id). j.index) (same ∙ first) in
      absurd (omega arith)
  | inr later ↦ later
]

none-within : (x : Id) (xs : List Id) → Within (x ∷ xs) [] → ⊥
none-within x xs there = let below = (there x (0, omega arith, refl)).1 in omega arith

pub same-list : (xs ys : List Id) → Ascends xs → Ascends ys → Within xs ys → Within ys xs → xs ≡ ys
same-list [] [] up_x up_y there back = refl
same-list [] (y ∷ ys) up_x up_y there back = absurd (none-within y ys back)
same-list (x ∷ xs) [] up_x up_y there back = absurd (none-within x xs there)
same-list (x ∷ xs) (y ∷ ys) up_x up_y there back =
    let first = same-first x y xs ys up_x.0 up_y.0 there back in
    let rest = same-list xs ys up_x.1 up_y.1 (same-rest x y xs ys up_x.0 first there) (same-rest y x ys xs up_y.0 (sym first) back) in
    (λ i. first i ∷ rest i)

-- ---- answers at one point

module _ (f : FixBox → Type 0) (mask bodies : ℕ) (history : List Made) (n : ℕ) where
  abbrev here : Interval
  here = record { history = history; from = n; to = n }

  -- what one right answer has, each other one has
  answered-too : (xs ys : List Id) → IsRightAnswer f mask bodies here xs → IsRightAnswer f mask bodies here ys → Within xs ys
  answered-too xs ys one two i c =
      let P : Id → Type 0 = λ j. (generation : ℕ) × ((m : ℕ) × (n ≤ m) × (m ≤ n) × Fits f mask (point bodies history m) j.index generation) × (j ≡ id_of j.index generation) in
      let found : P i = subst P c.2 (one.sound c.0 i c.1) in
      let met = found.1 in
      let m : ℕ = met.0 in
      let low : n ≤ m = met.1 in
      let high : m ≤ n = met.2 in
      let due : (k : ℕ) → n ≤ k → k ≤ n → Fits f mask (point bodies history k) i.index found.0 = λ k from to.
      let same : m ≡ k = omega (arith, low, high, from, to) in
      subst (λ (l : ℕ). Fits f mask (point bodies history l) i.index found.0) same met.3
      in
      subst (Contains ys) (sym found.2) (two.complete i.index found.0 due)

  pub one-answer : (xs ys : List Id) → IsRightAnswer f mask bodies here xs → IsRightAnswer f mask bodies here ys → xs ≡ ys
  one-answer xs ys one two = same-list xs ys (ascends xs one.ascending) (ascends ys two.ascending) (answered-too xs ys one two) (answered-too ys xs two one)

-- ---- a query beside which nobody acted

-- a right answer for its whole time is the list of hits of the scene before it
pub answer-hits : (shape : Shape) (mask : ℕ) (start next : View) (ids : List Id) → Sees start next [] → IsRightAnswer (Touch shape) mask start.config.bodies (points_between start next) ids
    → ids ≡ hits (is_touched shape) mask (scene_of start)
answer-hits shape mask start next ids sees right =
    let bodies = start.config.bodies in
    let before : List Made = history start.known in
    let n : ℕ = length before in
    let test : FixBox → Type 0 = λ b. IsTrue (is_touched shape b) in
    let same : history next.known ≡ before = sees.1 ∙ append-nil before in
    let at : Interval = record { history = before; from = n; to = n } in
    let whole : points_between start next ≡ at = ap (λ (l : List Made). record { history = l; from = n; to = length l }) same in
    let found : List Id = hits (is_touched shape) mask (point bodies before n) in
    let own = right_by test (Touch shape) (λ b. (is_touched_decides shape b).0) (λ b. (is_touched_decides shape b).1) mask bodies at found (hits_right (is_touched shape) mask bodies before n) in
    let answered : IsRightAnswer (Touch shape) mask bodies at ids = subst (λ (i : Interval). IsRightAnswer (Touch shape) mask bodies i ids) whole right in
    one-answer (Touch shape) mask bodies before n ids found answered own
    ∙ ap (λ (l : List Made). hits (is_touched shape) mask (scene_after bodies l)) (take_all n before (omega arith))
