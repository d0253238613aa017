-- What the words of a drawn batch say of each of its nodes and bodies.
use Rattle.std.proofs.Common.{◌≡◌, ◌≢◌, ℕ, zero, suc, ◌<◌, nat_eq, Bool, false, cond, List, [], ◌∷◌, length, map, Option, Some, Contains, refl, sym, ◌∙◌, ap, subst, inl, inr, arith}
use Rattle.std.specs.Prelude.{◌==◌}
use Rattle.std.specs.List.{IsDistinct}
use Rattle.std.proofs.lemmas.Bool.{eq-eqb, eqb-false, ne_eqb}
use Rattle.std.proofs.lemmas.Grind.{get_or_default_zero}
use Rattle.std.proofs.lemmas.List.Elements.{Contains-get_or}
use Rattle.std.proofs.lemmas.Map.Keys.{IsDistinct-head, IsDistinct-tail}
use Rattle.fixed_box.specs.declared.fix_box.FixBox.{FixBox}
use Rattle.fixed_box.specs.FixBox.{words_of}
use Rattle.tree_plan.specs.declared.plan_child.PlanChild.{PlanChild}
use Rattle.tree_plan.specs.declared.plan_child.PlanChild.TheVariants.{Nothing, Body}
use Rattle.tree_plan.specs.Arranged.{AreApart}
use Rattle.tree_plan.specs.Plan.{Plan, node_count, child_at, parent_at}
use Rattle.tree_plan.proofs.Members.{In, in_from_contains, contains_from_in, all_in}
use Rattle.tree_plan.proofs.OnePlace.{body_somewhere}
use Rattle.word_map.specs.declared.name.Name.{Name}
use Rattle.tree_bounds.specs.Bounds.{side}
use Rattle.word_map.specs.declared.name.Name.TheVariants.{Child, Bound, Parent}
use Rattle.core_state.specs.declared.view.Marked.{Marked}
use Rattle.core_state.specs.declared.view.Batch.{Batch}
use Rattle.core_state.specs.Nodes.{node_in}
use Rattle.core_batch.proofs.Lists.{contains_map}
use Rattle.batch_add.specs.Drawing.{node_at, child_word, parent_word, IsDrawnBy, IsDrawn}
use Rattle.batch_add.proofs.Levels.{level, level-next, node-there}

-- ---- lists without repetition

-- what is the first element is none of the others
first_apart : (x y : ℕ) (xs : List ℕ) → IsDistinct nat_eq (x ∷ xs) → Contains xs y → x ≢ y
first_apart x y xs apart among same =
    eqb-false x y (all_in (λ z. nat_eq x z ≡ false) xs (IsDistinct-head nat_eq x xs apart) y (in_from_contains xs y among)) same

-- where a number stands in a list
abbrev pub position : List ℕ → ℕ → ℕ
position [] z = 0
position (x ∷ xs) z = cond (x == z) 0 (suc (position xs z))

-- an element stands at its place
pub position-node_at : (xs : List ℕ) (n : ℕ) → IsDistinct nat_eq xs → n < length xs → position xs (node_at xs n) ≡ n
position-node_at [] n apart within = absurd (omega arith)
position-node_at (x ∷ xs) zero apart within = ap (λ (b : Bool). cond b 0 (suc (position xs x))) (eq-eqb x x refl)
position-node_at (x ∷ xs) (suc n) apart within =
    let less : n < length xs = omega arith in
    let y = node_at xs n in
    let other : (x == y) ≡ false = ne_eqb x y (first_apart x y xs apart (Contains-get_or xs n 0 less)) in
    ap (λ (b : Bool). cond b 0 (suc (position xs y))) other ∙ ap suc (position-node_at xs n (IsDistinct-tail nat_eq x xs apart) less)

-- of bodies with the same index there is one
same_body : (bodies : List (ℕ × FixBox)) (a b : ℕ × FixBox) → AreApart bodies → In a bodies → In b bodies → a.0 ≡ b.0 → a ≡ b
same_body [] a b apart h k same = absurd h
same_body (x ∷ xs) a b apart (inl e) (inl f) same = e ∙ sym f
same_body (x ∷ xs) a b apart (inl e) (inr k) same =
    absurd (first_apart x.0 b.0 (map (λ c. c.0) xs) apart (contains_map (λ (c : ℕ × FixBox). c.0) xs b (contains_from_in xs b k)) (ap (λ (c : ℕ × FixBox). c.0) (sym e) ∙ same))
same_body (x ∷ xs) a b apart (inr h) (inl f) same =
    absurd (first_apart x.0 a.0 (map (λ c. c.0) xs) apart (contains_map (λ (c : ℕ × FixBox). c.0) xs a (contains_from_in xs a h)) (ap (λ (c : ℕ × FixBox). c.0) (sym f) ∙ sym same))
same_body (x ∷ xs) a b apart (inr h) (inr k) same = same_body xs a b (IsDistinct-tail nat_eq x.0 (map (λ c. c.0) xs) apart) h k same

-- a body of the batch stands at a place of the plan, with its box
pub record StandsAt (plan : Plan) (bound : ℕ → ℕ → FixBox) (m : Marked) : Type 0 where
  pub node : ℕ
  pub child : ℕ
  pub made : node < node_count plan
  pub below : child < 4
  pub there : child_at plan node child ≡ Body m.index
  pub bounds : m.bounds ≡ words_of (bound node child)

-- a body of the plan is marked, with the bound at its place
pub record IsMarkedAt (batch : Batch) (bound : ℕ → ℕ → FixBox) (index n k : ℕ) : Type 0 where
  pub m : Marked
  pub marked : Contains batch.marked m
  pub is : m.index ≡ index
  pub bounds : m.bounds ≡ words_of (bound n k)

-- ---- nodes

module _ {has : Name → ℕ → Type 0} {bodies : List (ℕ × FixBox)} {plan : Plan} {bound : ℕ → ℕ → FixBox} {batch : Batch} (d : IsDrawnBy has bodies plan bound batch) where
  -- the plan has a first node, and each of its nodes is one of the batch
  pub root-made : 0 < node_count plan
  root-made = node-there bodies plan d.planned d.some

  pub node-among : (n : ℕ) → n < node_count plan → Contains batch.nodes (node_at batch.nodes n)
  node-among n made = Contains-get_or batch.nodes n 0 (omega (arith, d.nodes))

  -- what holds of each node of the plan holds of each of the batch
  pub each-node : (P : ℕ → Type 0) → ((n : ℕ) → n < node_count plan → P (node_at batch.nodes n)) → (c : ℕ) → Contains batch.nodes c → P c
  each-node P h c among =
      let within = among.1 in
      let made : among.0 < node_count plan = omega (arith, d.nodes) in
      subst P (sym (get_or_default_zero batch.nodes among.0 c within) ∙ among.2) (h among.0 made)

  -- how deep a node stands: the level of the plan's node that it became
  abbrev pub depth : ℕ → ℕ
  depth c = level plan (node_count plan) (position batch.nodes c)

  pub depth-node_at : (n : ℕ) → n < node_count plan → depth (node_at batch.nodes n) ≡ level plan (node_count plan) n
  depth-node_at n made = ap (level plan (node_count plan)) (position-node_at batch.nodes n d.distinct (omega (arith, d.nodes)))

  -- a child is one level lower
  pub depth-child : (n k c : ℕ) → c < node_count plan → parent_at plan c ≡ Some (n, k) → n < node_count plan → depth (node_at batch.nodes c) ≡ suc (depth (node_at batch.nodes n))
  depth-child n k c below up made =
      depth-node_at c below ∙ level-next d.planned.parents (node_count plan) c n k up (omega arith) ∙ ap suc (sym (depth-node_at n made))

-- ---- words

module _ {word : Name → ℕ} {bodies : List (ℕ × FixBox)} {plan : Plan} {bound : ℕ → ℕ → FixBox} {batch : Batch} (d : IsDrawn word bodies plan bound batch) where
  -- the words of a child and of a parent, by what the plan has
  pub child-said : (n k : ℕ) (e : PlanChild) → n < node_count plan → k < 4 → child_at plan n k ≡ e → word (Child (node_at batch.nodes n) k) ≡ child_word batch.nodes e
  child-said n k e made few there = d.says.child n k made few ∙ ap (child_word batch.nodes) there

  pub parent-said : (n : ℕ) (o : Option (ℕ × ℕ)) → n < node_count plan → parent_at plan n ≡ o → word (Parent (node_at batch.nodes n)) ≡ parent_word batch.nodes o
  parent-said n o made above = d.says.parent n made ∙ ap (parent_word batch.nodes) above

  -- where a word says something, the plan has something
  pub child-there : (n k : ℕ) → n < node_count plan → k < 4 → word (Child (node_at batch.nodes n) k) ≢ 0 → child_at plan n k ≢ Nothing
  child-there n k made few some none = some (child-said n k Nothing made few none)

-- ---- bodies

module _ {has : Name → ℕ → Type 0} {bodies : List (ℕ × FixBox)} {plan : Plan} {bound : ℕ → ℕ → FixBox} {batch : Batch} (d : IsDrawnBy has bodies plan bound batch) where
  -- what the plan has as a body is a body of the batch, and the other way round
  pub marked-at : (n k index : ℕ) → n < node_count plan → k < 4 → child_at plan n k ≡ Body index → IsMarkedAt batch bound index n k
  marked-at n k index made few there =
      let t = d.of_batch.all (index, bound n k) (d.bounded.a_body n k index made few there) in
      record { m = t.0; marked = t.1; is = t.2.index; bounds = t.2.bounds }

  pub stands-at : (m : Marked) → Contains batch.marked m → StandsAt plan bound m
  stands-at m marked =
      let t = d.of_batch.each m marked in
      let body = t.0 in
      let index_among : Contains (map (λ (b : ℕ × FixBox). b.0) bodies) body.0 = contains_map (λ (b : ℕ × FixBox). b.0) bodies body t.1 in
      let s = body_somewhere bodies plan d.planned body.0 index_among in
      let n = s.0 in
      let k = s.1.0 in
      let own : (body.0, bound n k) ≡ body =
      same_body bodies (body.0, bound n k) body d.apart (in_from_contains bodies (body.0, bound n k) (d.bounded.a_body n k body.0 s.1.1 s.1.2 s.1.3)) (in_from_contains bodies body t.1) refl in
      record {
        node = n;
        child = k;
        made = s.1.1;
        below = s.1.2;
        there = s.1.3 ∙ ap Body (sym t.2.index);
        bounds = t.2.bounds ∙ ap (λ (b : ℕ × FixBox). words_of b.1) (sym own);
      }

-- ---- other words

-- a batch that is drawn stays so where the words of its nodes have the values that they had
pub drawn-as : (one two : Name → ℕ → Type 0) (bodies : List (ℕ × FixBox)) (plan : Plan) (bound : ℕ → ℕ → FixBox) (batch : Batch) → IsDrawnBy one bodies plan bound batch
    → ((name : Name) (n value : ℕ) → node_in name ≡ Some n → Contains batch.nodes n → one name value → two name value) → IsDrawnBy two bodies plan bound batch
drawn-as one two bodies plan bound batch drawn keeps = record {
  planned = drawn.planned;
  apart = drawn.apart;
  some = drawn.some;
  bounded = drawn.bounded;
  of_batch = drawn.of_batch;
  nodes = drawn.nodes;
  distinct = drawn.distinct;
  says = record {
    child = λ n k made few. keeps (Child (node_at batch.nodes n) k) (node_at batch.nodes n) (child_word batch.nodes (child_at plan n k)) refl (node-among drawn n made) (drawn.says.child n k made few);
    bounds = λ n k q made few side_q there.
        keeps (Bound (node_at batch.nodes n) k q) (node_at batch.nodes n) (side (bound n k) q) refl (node-among drawn n made) (drawn.says.bounds n k q made few side_q there);
    parent = λ n made. keeps (Parent (node_at batch.nodes n)) (node_at batch.nodes n) (parent_word batch.nodes (parent_at plan n)) refl (node-among drawn n made) (drawn.says.parent n made);
  };
  placed = drawn.placed;
}
