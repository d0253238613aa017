-- In a plan the first child of each node is there, and what stands below a node has a greater number.
use Rattle.std.proofs.Common.{◌≡◌, ◌≢◌, ℕ, zero, suc, ◌+◌, ◌<◌, ◌≤◌, Option, Some, None, IsSome, inl, inr, List, [], ◌∷◌, length, refl, sym, ap, subst, arith}
use Rattle.std.proofs.lemmas.Bool.{cases_lt, false≢true}
use Rattle.std.proofs.lemmas.List.{get_or_past}
use Rattle.fixed_box.specs.declared.fix_box.FixBox.{FixBox}
use Rattle.scene_model.specs.Tree.{Tree, nothing, body, node, front_half, back_half, child_of, tree_within}
use Rattle.scene_model.proofs.Trees.{length-front_half, length-back_half}
use Rattle.tree_plan.specs.declared.plan_child.PlanChild.TheVariants.{Nothing, Node}
use Rattle.tree_plan.specs.Plan.{Plan, node_count, child_at, parent_at, tree_under, tree_from, IsPlanOf}

-- ---- trees

-- the first child of each node is there
abbrev pub Begins : Tree → Type 0
Begins nothing = Unit {0}
Begins (body index) = Unit {0}
Begins (node a b c d) = (a ≢ nothing) × Begins a × Begins b × Begins c × Begins d

child_there : (f : List (ℕ × FixBox) → Tree) (run : List (ℕ × FixBox)) → 0 < length run → (2 ≤ length run → f run ≢ nothing) → child_of f run ≢ nothing
child_there f [] some h = absurd (omega arith)
child_there f (b ∷ []) some h = λ e. cc
child_there f (b ∷ c ∷ rest) some h = h (omega arith)

child_begins : (f : List (ℕ × FixBox) → Tree) (run : List (ℕ × FixBox)) → (2 ≤ length run → Begins (f run)) → Begins (child_of f run)
child_begins f [] h = tt
child_begins f (b ∷ []) h = tt
child_begins f (b ∷ c ∷ rest) h = h (omega arith)

tree_there : (levels : ℕ) (xs : List (ℕ × FixBox)) → 0 < levels → tree_within levels xs ≢ nothing
tree_there zero xs some = absurd (omega arith)
tree_there (suc levels) xs some = λ e. cc

tree_begins : (levels : ℕ) (xs : List (ℕ × FixBox)) → 0 < length xs → length xs ≤ levels → Begins (tree_within levels xs)
tree_begins zero xs some fits = absurd (omega arith)
tree_begins (suc levels) xs some fits =
    let front = length-front_half xs in
    let back = length-back_half xs in
    let a = length-front_half (front_half xs) in
    let b = length-back_half (front_half xs) in
    let c = length-front_half (back_half xs) in
    let d = length-back_half (back_half xs) in
    let below : (run : List (ℕ × FixBox)) → (2 ≤ length run → length run < length xs) → Begins (child_of (tree_within levels) run) =
    λ run fewer. child_begins (tree_within levels) run (λ two. let less = fewer two in tree_begins levels run (omega arith) (omega arith)) in (
      child_there (tree_within levels) (front_half (front_half xs)) (omega arith) (λ two. tree_there levels _ (omega arith)),
      below (front_half (front_half xs)) (λ two. omega arith),
      below (back_half (front_half xs)) (λ two. omega arith),
      below (front_half (back_half xs)) (λ two. omega arith),
      below (back_half (back_half xs)) (λ two. omega arith),
    )

-- ---- plans

none_some : (o : Option (ℕ × ℕ)) (p : ℕ × ℕ) → o ≡ None → o ≡ Some p → ⊥
none_some o p e f = cc

-- what stands below a node has a greater number
pub below_later : (bodies : List (ℕ × FixBox)) (plan : Plan) → IsPlanOf bodies plan → (n k m : ℕ) → n < node_count plan → k < 4 → child_at plan n k ≡ Node m → (n < m) × (m < node_count plan)
below_later bodies plan h n k m made few e =
    let p = (h.parents.agree n k m made few).1 e in
    let above = h.parents.above m n k p in
    (above.0, elim (cases_lt m (node_count plan)) [ inl less ↦ less | inr past ↦ absurd (none_some (parent_at plan m) (n, k) (get_or_past plan.parents m None past) p) ])

-- the tree that is read from a node, so far as to the last level
record Reached (plan : Plan) (n : ℕ) : Type 0 where
  levels : ℕ
  enough : node_count plan ≤ levels + n
  begins : Begins (tree_from plan levels n)

begins_below : (plan : Plan) (levels m c n : ℕ) → c < 4 → child_at plan m c ≡ Node n → Begins (tree_from plan (suc levels) m) → Begins (tree_from plan levels n)
begins_below plan levels m zero n few e h = subst (λ t. Begins t) (ap (tree_under (tree_from plan levels)) e) h.1
begins_below plan levels m (suc zero) n few e h = subst (λ t. Begins t) (ap (tree_under (tree_from plan levels)) e) h.2
begins_below plan levels m (suc (suc zero)) n few e h = subst (λ t. Begins t) (ap (tree_under (tree_from plan levels)) e) h.3
begins_below plan levels m (suc (suc (suc zero))) n few e h = subst (λ t. Begins t) (ap (tree_under (tree_from plan levels)) e) h.4
begins_below plan levels m (suc (suc (suc (suc c)))) n few e h = absurd (omega arith)

reached_below : (plan : Plan) (levels m c n : ℕ) → m < node_count plan → m < n → c < 4 → child_at plan m c ≡ Node n → node_count plan ≤ levels + m → Begins (tree_from plan levels m) → Reached plan n
reached_below plan zero m c n made later few e enough h = absurd (omega arith)
reached_below plan (suc levels) m c n made later few e enough h = record { levels = levels; enough = omega arith; begins = begins_below plan levels m c n few e h }

some_value : (o : Option (ℕ × ℕ)) → IsSome o → (p : ℕ × ℕ) × (o ≡ Some p)
some_value None h = absurd (false≢true h)
some_value (Some p) h = (p, refl)

reached : (bodies : List (ℕ × FixBox)) (plan : Plan) → IsPlanOf bodies plan → 0 < length bodies → (fuel n : ℕ) → n ≤ fuel → n < node_count plan → Reached plan n
reached bodies plan h some fuel zero fits made = record {
  levels = node_count plan;
  enough = omega arith;
  begins = subst (λ t. Begins t) (sym h.same_tree) (tree_begins (length bodies) bodies some (omega arith));
}
reached bodies plan h some zero (suc n) fits made = absurd (omega arith)
reached bodies plan h some (suc fuel) (suc n) fits made =
    let found = some_value (parent_at plan (suc n)) (h.parents.others (suc n) (omega arith) made) in
    let m = found.0.0 in
    let c = found.0.1 in
    let above = h.parents.above (suc n) m c found.1 in
    let over : m < node_count plan = omega (arith, above.0) in
    let r = reached bodies plan h some fuel m (omega (arith, above.0)) over in
    reached_below plan r.levels m c (suc n) over above.0 above.1 ((h.parents.agree m c (suc n) over above.1).0 found.1) r.enough r.begins

first_by : (plan : Plan) (levels n : ℕ) → n < node_count plan → node_count plan ≤ levels + n → Begins (tree_from plan levels n) → child_at plan n 0 ≢ Nothing
first_by plan zero n made enough h = absurd (omega arith)
first_by plan (suc levels) n made enough h = λ e. h.0 (ap (tree_under (tree_from plan levels)) e)

-- the first child of each node is there
pub first_there : (bodies : List (ℕ × FixBox)) (plan : Plan) → IsPlanOf bodies plan → (n : ℕ) → n < node_count plan → child_at plan n 0 ≢ Nothing
first_there [] plan h n made = absurd (omega (arith, h.nodes))
first_there (b ∷ bodies) plan h n made =
    let r = reached (b ∷ bodies) plan h (omega arith) n n (omega arith) made in
    first_by plan r.levels n made r.enough r.begins
