-- Each slot that is filled keeps what is known of the nodes so far.
use Rattle.std.proofs.Common.{◌≡◌, ℕ, zero, suc, ◌+◌, ◌-◌, ◌*◌, ◌/◌, ◌%◌, ◌<◌, ◌≤◌, cond, inl, inr, Option, None, Some, List, [], ◌∷◌, ◌++◌, length, take, drop, get_or, set, map, refl, sym, ◌∙◌, ap, subst, arith, append_assoc, drop-cons}
use Rattle.std.specs.List.{filter_map, range_with_len}
use Rattle.std.specs.List.Sorted.{IsPermutation}
use Rattle.std.proofs.lemmas.Bool.{lt-ltb, cases_lt}
use Rattle.std.proofs.lemmas.List.{get_or-set_same, get_or-set_other, take_more_set, length-set, append-nil, map-append}
use Rattle.std.proofs.lemmas.List.Elements.{filter_map-append}
use Rattle.std.proofs.lemmas.List.Sorted.{IsPermutation-refl, IsPermutation-trans, IsPermutation-append_right, IsPermutation-append_comm}
use borrow.Author.Count.{below_more}
use Rattle.fixed_box.specs.declared.fix_box.FixBox.{FixBox}
use Rattle.scene_model.specs.Need.{need, need_of_run}
use Rattle.scene_model.proofs.Needs.{need_of_run-two}
use Rattle.tree_plan.specs.declared.plan_child.PlanChild.{PlanChild}
use Rattle.tree_plan.specs.declared.plan_child.PlanChild.TheVariants.{Nothing, Body, Node}
use Rattle.tree_plan.specs.declared.run.Run.{Run}
use Rattle.tree_plan.specs.Quarters.{quarter_start, quarter_size}
use Rattle.tree_plan.specs.Plan.{body_of, node_of}
use Rattle.tree_plan.specs.Numbering.{run_at, slot_child, part, slot_start, slot_size, slot_part, needs_from, indexes_from, IsNodeAt, IsFilled, IsNumbered}
use Rattle.tree_plan.proofs.Quarters.{quarter_within, need_by_quarters, part-whole, quarters_join}

-- ---- what is still needed

-- a slot that is to be filled is one of a node
pub slot_under : (runs : List Run) (nodes count slot : ℕ) → slot < 4 * nodes → slot ≤ 4 * count → count + needs_from runs slot (4 * count - slot) ≡ nodes → slot < 4 * count
slot_under runs nodes count slot below reached still =
    elim (cases_lt slot (4 * count)) [
      | inl h ↦ h
      | inr h ↦
          let none : 4 * count - slot ≡ 0 = omega arith in
          let nothing : needs_from runs slot (4 * count - slot) ≡ 0 = ap (needs_from runs slot) none in
          absurd (omega arith)
    ]

needs_next : (runs : List Run) (count slot : ℕ) → slot < 4 * count
    → needs_from runs slot (4 * count - slot) ≡ need_of_run need (slot_size runs slot) + needs_from runs (slot + 1) (4 * count - (slot + 1))
needs_next runs count slot under =
    let left : 4 * count - slot ≡ suc (4 * count - (slot + 1)) = omega arith in
    ap (needs_from runs slot) left

indexes_next : (bodies : List (ℕ × FixBox)) (runs : List Run) (count slot : ℕ) → slot < 4 * count
    → indexes_from bodies runs slot (4 * count - slot) ≡ map (λ b. b.0) (slot_part bodies runs slot) ++ indexes_from bodies runs (slot + 1) (4 * count - (slot + 1))
indexes_next bodies runs count slot under =
    let left : 4 * count - slot ≡ suc (4 * count - (slot + 1)) = omega arith in
    ap (indexes_from bodies runs slot) left

few_need_none : (size : ℕ) → size < 2 → need_of_run need size ≡ 0
few_need_none size few = ap (λ b. cond b 0 (need size)) (lt-ltb size 2 few)

-- ---- runs that stay

abbrev pub RunsStay : List Run → List Run → ℕ → Type 0
RunsStay runs runs' count = (n : ℕ) → n < count → run_at runs' n ≡ run_at runs n

slot_start-stays : (runs runs' : List Run) (count t : ℕ) → RunsStay runs runs' count → t < 4 * count → slot_start runs' t ≡ slot_start runs t
slot_start-stays runs runs' count t stay under = ap (λ (r : Run). r.start + quarter_start r.size (t % 4)) (stay (t / 4) (omega arith))

slot_size-stays : (runs runs' : List Run) (count t : ℕ) → RunsStay runs runs' count → t < 4 * count → slot_size runs' t ≡ slot_size runs t
slot_size-stays runs runs' count t stay under = ap (λ (r : Run). quarter_size r.size (t % 4)) (stay (t / 4) (omega arith))

slot_part-stays : (bodies : List (ℕ × FixBox)) (runs runs' : List Run) (count t : ℕ) → RunsStay runs runs' count → t < 4 * count → slot_part bodies runs' t ≡ slot_part bodies runs t
slot_part-stays bodies runs runs' count t stay under =
    ap (λ (r : Run). part bodies (r.start + quarter_start r.size (t % 4)) (quarter_size r.size (t % 4))) (stay (t / 4) (omega arith))

IsNodeAt-stays : (runs runs' : List Run) (children children' : List PlanChild) (count count' t n : ℕ) → slot_child children' t ≡ slot_child children t → count ≤ count' → RunsStay runs runs' count → t < 4 * count
    → IsNodeAt runs children count t n → IsNodeAt runs' children' count' t n
IsNodeAt-stays runs runs' children children' count count' t n same more stay under h = record {
  child = same ∙ h.child;
  later = h.later;
  made = omega (arith, h.made);
  start = ap (λ (r : Run). r.start) (stay n h.made) ∙ h.start ∙ sym (slot_start-stays runs runs' count t stay under);
  size = ap (λ (r : Run). r.size) (stay n h.made) ∙ h.size ∙ sym (slot_size-stays runs runs' count t stay under);
  parent = ap (λ (r : Run). r.parent) (stay n h.made) ∙ h.parent;
}

IsFilled-stays : (bodies : List (ℕ × FixBox)) (runs runs' : List Run) (children children' : List PlanChild) (count count' t : ℕ) → slot_child children' t ≡ slot_child children t → count ≤ count' → RunsStay runs runs' count
    → t < 4 * count → IsFilled bodies runs children count t → IsFilled bodies runs' children' count' t
IsFilled-stays bodies runs runs' children children' count count' t same more stay under h = record {
  none = λ p. same ∙ h.none (sym (slot_size-stays runs runs' count t stay under) ∙ p);
  one = λ b p q. same ∙ h.one b (sym (slot_size-stays runs runs' count t stay under) ∙ p) (sym (slot_part-stays bodies runs runs' count t stay under) ∙ q);
  more = λ two.
      let node = h.more (subst (λ k. 2 ≤ k) (slot_size-stays runs runs' count t stay under) two) in
      (node.0, IsNodeAt-stays runs runs' children children' count count' t node.0 same more stay under node.1);
}

-- ---- children that stay

child_stays : (children : List PlanChild) (slot t : ℕ) (e : PlanChild) → t < slot → slot_child (set children slot e) t ≡ slot_child children t
child_stays children slot t e below = get_or-set_other children slot t e Nothing (λ same. omega arith)

child_here : (children : List PlanChild) (slot : ℕ) (e : PlanChild) → slot < length children → slot_child (set children slot e) slot ≡ e
child_here children slot e within = get_or-set_same children slot e Nothing within

picked_more : (h : PlanChild → Option ℕ) (children : List PlanChild) (slot : ℕ) (e : PlanChild) → slot < length children
    → filter_map h (take (slot + 1) (set children slot e)) ≡ filter_map h (take slot children) ++ filter_map h (e ∷ [])
picked_more h children slot e within = ap (filter_map h) (take_more_set children slot e within) ∙ filter_map-append h (take slot children) (e ∷ [])

-- ---- a slot over one body or none

once_few : (all done left part rest done' : List ℕ) → left ≡ part ++ rest → done' ≡ done ++ part → IsPermutation all (done ++ left) → IsPermutation all (done' ++ rest)
once_few all done left part rest done' p q h =
    subst (λ (ys : List ℕ). IsPermutation all ys) (ap (λ ys. done ++ ys) p ∙ sym (append_assoc done part rest) ∙ ap (λ ys. ys ++ rest) (sym q)) h

IsNumbered-few : (bodies : List (ℕ × FixBox)) (runs : List Run) (children : List PlanChild) (nodes count slot : ℕ) (e : PlanChild) → IsNumbered bodies runs children nodes count slot → slot < 4 * nodes
    → slot_size runs slot < 2 → filter_map node_of (e ∷ []) ≡ [] → filter_map body_of (e ∷ []) ≡ map (λ b. b.0) (slot_part bodies runs slot)
    → (slot_size runs slot ≡ 0 → e ≡ Nothing) → ((b : ℕ × FixBox) → slot_size runs slot ≡ 1 → slot_part bodies runs slot ≡ b ∷ [] → e ≡ Body b.0)
    → IsNumbered bodies runs (set children slot e) nodes count (slot + 1)
IsNumbered-few bodies runs children nodes count slot e h below few no_node index none one =
    let under : slot < 4 * count = slot_under runs nodes count slot below h.reached h.still in
    let within : slot < length children = omega (arith, h.places) in
    let here : slot_child (set children slot e) slot ≡ e = child_here children slot e within in record {
      root_start = h.root_start;
      root_size = h.root_size;
      root_parent = h.root_parent;
      room = h.room;
      places = subst (λ k. 4 * nodes ≤ k) (sym (length-set children slot e)) h.places;
      first = h.first;
      reached = omega arith;
      still = omega (arith, h.still, needs_next runs count slot under, few_need_none (slot_size runs slot) few);
      within = h.within;
      filled = below_more (IsFilled bodies runs (set children slot e) count) slot
          (λ t before. IsFilled-stays bodies runs runs children (set children slot e) count count t (child_stays children slot t e before) (omega arith) (λ n made. refl) (omega arith) (h.filled t before))
          (record { none = λ p. here ∙ none p; one = λ b p q. here ∙ one b p q; more = λ two. absurd (omega arith) });
      parents = λ n some made.
          let p = h.parents n some made in
          (p.0, omega (arith, p.1), IsNodeAt-stays runs runs children (set children slot e) count count p.0 n (child_stays children slot p.0 e p.1) (omega arith) (λ k made. refl) (omega (arith, p.1)) p.2);
      numbers = picked_more node_of children slot e within ∙ ap (λ ys. filter_map node_of (take slot children) ++ ys) no_node ∙ append-nil (filter_map node_of (take slot children)) ∙ h.numbers;
      once =
          once_few (map (λ b. b.0) bodies) _ _ (map (λ b. b.0) (slot_part bodies runs slot)) _ _ (indexes_next bodies runs count slot under)
          (picked_more body_of children slot e within ∙ ap (λ ys. filter_map body_of (take slot children) ++ ys) index) h.once;
    }

part_none : (bodies : List (ℕ × FixBox)) (start size : ℕ) → size ≡ 0 → part bodies start size ≡ []
part_none bodies start size e = ap (λ k. take k (drop start bodies)) e

part_one : (bodies : List (ℕ × FixBox)) (start size : ℕ) (d : ℕ × FixBox) → size ≡ 1 → start < length bodies → part bodies start size ≡ get_or bodies start d ∷ []
part_one bodies start size d e within =
    ap (λ k. take k (drop start bodies)) e ∙ ap (take 1) (drop-cons bodies start d within)

pub slot_within : (bodies : List (ℕ × FixBox)) (runs : List Run) (children : List PlanChild) (nodes count slot : ℕ) → IsNumbered bodies runs children nodes count slot → (t : ℕ) → t < 4 * count
    → slot_start runs t + slot_size runs t ≤ length bodies
slot_within bodies runs children nodes count slot h t under =
    let w = h.within (t / 4) (omega arith) in
    omega (arith, w.1, quarter_within (run_at runs (t / 4)).size (t % 4))

pub IsNumbered-none : (bodies : List (ℕ × FixBox)) (runs : List Run) (children : List PlanChild) (nodes count slot size : ℕ) → IsNumbered bodies runs children nodes count slot → slot < 4 * nodes
    → size ≡ slot_size runs slot → size ≡ 0 → IsNumbered bodies runs (set children slot Nothing) nodes count (slot + 1)
IsNumbered-none bodies runs children nodes count slot size h below e empty =
    IsNumbered-few bodies runs children nodes count slot Nothing h below (omega arith) refl (sym (ap (map (λ b. b.0)) (part_none bodies (slot_start runs slot) (slot_size runs slot) (sym e ∙ empty))))
    (λ p. refl) (λ b p q. absurd (omega arith))

head_same : (x b : ℕ × FixBox) (ys : List (ℕ × FixBox)) → ys ≡ x ∷ [] → ys ≡ b ∷ [] → x.0 ≡ b.0
head_same x b ys p q = let same : x ≡ b = cc in ap (λ y. y.0) same

pub IsNumbered-one : (bodies : List (ℕ × FixBox)) (runs : List Run) (children : List PlanChild) (nodes count slot start size : ℕ) (d : ℕ × FixBox) → IsNumbered bodies runs children nodes count slot
    → slot < 4 * nodes → start ≡ slot_start runs slot → size ≡ slot_size runs slot → size ≡ 1 → IsNumbered bodies runs (set children slot (Body (get_or bodies start d).0)) nodes count (slot + 1)
IsNumbered-one bodies runs children nodes count slot start size d h below s e one =
    let under : slot < 4 * count = slot_under runs nodes count slot below h.reached h.still in
    let within : slot_start runs slot + slot_size runs slot ≤ length bodies = slot_within bodies runs children nodes count slot h slot under in
    let x = get_or bodies start d in
    let here : slot_part bodies runs slot ≡ x ∷ [] =
    ap (λ k. part bodies k (slot_size runs slot)) (sym s) ∙ part_one bodies start (slot_size runs slot) d (sym e ∙ one) (omega arith) in
    IsNumbered-few bodies runs children nodes count slot (Body x.0) h below (omega arith) refl (sym (ap (map (λ b. b.0)) here))
    (λ p. absurd (omega arith)) (λ b p q. ap Body (head_same x b (slot_part bodies runs slot) here q))

-- ---- a slot over two bodies or more

needs_same : (runs runs' : List Run) (count : ℕ) → RunsStay runs runs' count → (t m : ℕ) → t + m ≤ 4 * count → needs_from runs' t m ≡ needs_from runs t m
needs_same runs runs' count stay t zero under = refl
needs_same runs runs' count stay t (suc m) under =
    ap (λ k. need_of_run need k + needs_from runs' (t + 1) m) (slot_size-stays runs runs' count t stay (omega arith))
    ∙ ap (λ k. need_of_run need (slot_size runs t) + k) (needs_same runs runs' count stay (t + 1) m (omega arith))

needs_split : (runs : List Run) (t m k n u : ℕ) → n ≡ m + k → u ≡ t + m → needs_from runs t n ≡ needs_from runs t m + needs_from runs u k
needs_split runs t zero k n u e f =
    let same : n ≡ k = omega arith in
    let from : t ≡ u = omega arith in
    ap (needs_from runs t) same ∙ ap (λ v. needs_from runs v k) from ∙ omega arith
needs_split runs t (suc m) k zero u e f = absurd (omega arith)
needs_split runs t (suc m) k (suc n) u e f =
    omega (arith, needs_split runs (t + 1) m k n u (omega arith) (omega arith))

indexes_same : (bodies : List (ℕ × FixBox)) (runs runs' : List Run) (count : ℕ) → RunsStay runs runs' count → (t m : ℕ) → t + m ≤ 4 * count → indexes_from bodies runs' t m ≡ indexes_from bodies runs t m
indexes_same bodies runs runs' count stay t zero under = refl
indexes_same bodies runs runs' count stay t (suc m) under =
    ap (λ ys. map (λ b. b.0) ys ++ indexes_from bodies runs' (t + 1) m) (slot_part-stays bodies runs runs' count t stay (omega arith))
    ∙ ap (λ ys. map (λ b. b.0) (slot_part bodies runs t) ++ ys) (indexes_same bodies runs runs' count stay (t + 1) m (omega arith))

indexes_split : (bodies : List (ℕ × FixBox)) (runs : List Run) (t m k n u : ℕ) → n ≡ m + k → u ≡ t + m → indexes_from bodies runs t n ≡ indexes_from bodies runs t m ++ indexes_from bodies runs u k
indexes_split bodies runs t zero k n u e f =
    let same : n ≡ k = omega arith in
    let from : t ≡ u = omega arith in
    ap (indexes_from bodies runs t) same ∙ ap (λ v. indexes_from bodies runs v k) from
indexes_split bodies runs t (suc m) k zero u e f = absurd (omega arith)
indexes_split bodies runs t (suc m) k (suc n) u e f =
    ap (λ ys. map (λ b. b.0) (slot_part bodies runs t) ++ ys) (indexes_split bodies runs (t + 1) m k n u (omega arith) (omega arith))
    ∙ sym (append_assoc (map (λ b. b.0) (slot_part bodies runs t)) (indexes_from bodies runs (t + 1) m) (indexes_from bodies runs u k))

-- the four slots of a node
slot_size-new : (runs : List Run) (n c t : ℕ) (r : Run) → run_at runs n ≡ r → c < 4 → t ≡ 4 * n + c → slot_size runs t ≡ quarter_size r.size c
slot_size-new runs n c t r here few e =
    let node : t / 4 ≡ n = omega arith in
    let child : t % 4 ≡ c = omega arith in
    ap (λ k. quarter_size (run_at runs k).size (t % 4)) node ∙ ap (λ (s : Run). quarter_size s.size (t % 4)) here ∙ ap (quarter_size r.size) child

slot_part-new : (bodies : List (ℕ × FixBox)) (runs : List Run) (n c t : ℕ) (r : Run) → run_at runs n ≡ r → c < 4 → t ≡ 4 * n + c
    → slot_part bodies runs t ≡ part bodies (r.start + quarter_start r.size c) (quarter_size r.size c)
slot_part-new bodies runs n c t r here few e =
    let node : t / 4 ≡ n = omega arith in
    let child : t % 4 ≡ c = omega arith in
    ap (λ k. part bodies ((run_at runs k).start + quarter_start (run_at runs k).size (t % 4)) (quarter_size (run_at runs k).size (t % 4))) node
    ∙ ap (λ (s : Run). part bodies (s.start + quarter_start s.size (t % 4)) (quarter_size s.size (t % 4))) here
    ∙ ap (λ k. part bodies (r.start + quarter_start r.size k) (quarter_size r.size k)) child

four_needs : (runs : List Run) (t : ℕ) (a b c d : ℕ) → slot_size runs t ≡ a → slot_size runs (t + 1) ≡ b → slot_size runs (t + 1 + 1) ≡ c → slot_size runs (t + 1 + 1 + 1) ≡ d
    → needs_from runs t 4 ≡ need_of_run need a + need_of_run need b + need_of_run need c + need_of_run need d
four_needs runs t a b c d p q r s = omega (arith, ap (need_of_run need) p, ap (need_of_run need) q, ap (need_of_run need) r, ap (need_of_run need) s)

-- together they need what the node needs but for itself
needs_new : (runs : List Run) (n t : ℕ) (r : Run) → run_at runs n ≡ r → t ≡ 4 * n → 0 < r.size → 1 + needs_from runs t 4 ≡ need r.size
needs_new runs n t r here e some =
    omega (
      arith,
      need_by_quarters r.size some,
      four_needs runs t (quarter_size r.size 0) (quarter_size r.size 1) (quarter_size r.size 2) (quarter_size r.size 3)
          (slot_size-new runs n 0 t r here (omega arith) (omega arith)) (slot_size-new runs n 1 (t + 1) r here (omega arith) (omega arith))
          (slot_size-new runs n 2 (t + 1 + 1) r here (omega arith) (omega arith)) (slot_size-new runs n 3 (t + 1 + 1 + 1) r here (omega arith) (omega arith)),
    )

four_indexes : (p q r s a b c d whole : List (ℕ × FixBox)) → p ≡ a → q ≡ b → r ≡ c → s ≡ d → a ++ (b ++ (c ++ d)) ≡ whole
    → map (λ b. b.0) p ++ (map (λ b. b.0) q ++ (map (λ b. b.0) r ++ (map (λ b. b.0) s ++ []))) ≡ map (λ b. b.0) whole
four_indexes p q r s a b c d whole e f g h join =
    let index : ℕ × FixBox → ℕ = λ b. b.0 in
    let same : map index p ++ (map index q ++ (map index r ++ map index s)) ≡ map index a ++ (map index b ++ (map index c ++ map index d)) = cc in
    let parts : map index (a ++ (b ++ (c ++ d))) ≡ map index a ++ (map index b ++ (map index c ++ map index d)) = simp map-append in
    ap (λ ys. map index p ++ (map index q ++ (map index r ++ ys))) (append-nil (map index s)) ∙ same ∙ sym parts ∙ ap (map index) join

-- and together they hold what the node stands over
indexes_new : (bodies : List (ℕ × FixBox)) (runs : List Run) (n t : ℕ) (r : Run) → run_at runs n ≡ r → t ≡ 4 * n → indexes_from bodies runs t 4 ≡ map (λ b. b.0) (part bodies r.start r.size)
indexes_new bodies runs n t r here e =
    four_indexes _ _ _ _ _ _ _ _ _
    (slot_part-new bodies runs n 0 t r here (omega arith) (omega arith)) (slot_part-new bodies runs n 1 (t + 1) r here (omega arith) (omega arith))
    (slot_part-new bodies runs n 2 (t + 1 + 1) r here (omega arith) (omega arith)) (slot_part-new bodies runs n 3 (t + 1 + 1 + 1) r here (omega arith) (omega arith))
    (quarters_join bodies r.start r.size)

range_push : (a n m : ℕ) → m ≡ a + n → range_with_len a (suc n) ≡ range_with_len a n ++ m ∷ []
range_push a zero m e = let same : a ≡ m = omega arith in ap (λ k. k ∷ []) same
range_push a (suc n) m e = ap (λ ys. a ∷ ys) (range_push (a + 1) n m (omega arith))

once_more : (all done part rest new left next done' : List ℕ) → left ≡ part ++ rest → next ≡ rest ++ new → new ≡ part → done' ≡ done → IsPermutation all (done ++ left) → IsPermutation all (done' ++ next)
once_more all done part rest new left next done' p q e f h =
    let from : IsPermutation all (done ++ (part ++ rest)) = subst (λ (ys : List ℕ). IsPermutation all (done ++ ys)) p h in
    let moved : IsPermutation (done ++ (part ++ rest)) (done ++ (rest ++ part)) = IsPermutation-append_right done (part ++ rest) (rest ++ part) (IsPermutation-append_comm part rest) in
    subst (λ (ys : List ℕ). IsPermutation all ys) (ap (λ ys. done ++ (rest ++ ys)) (sym e) ∙ ap (λ ys. done ++ ys) (sym q) ∙ ap (λ ys. ys ++ next) (sym f))
    (IsPermutation-trans all (done ++ (part ++ rest)) (done ++ (rest ++ part)) from moved)

pub need_some : (n : ℕ) → 0 < n → 1 ≤ need n
need_some n some = omega (arith, need_by_quarters n some)

-- there is room for one node more
pub room_for_more : (bodies : List (ℕ × FixBox)) (runs : List Run) (children : List PlanChild) (nodes count slot size : ℕ) → IsNumbered bodies runs children nodes count slot → slot < 4 * nodes → size ≡ slot_size runs slot
    → 2 ≤ size → count < nodes
room_for_more bodies runs children nodes count slot size h below e two =
    let under : slot < 4 * count = slot_under runs nodes count slot below h.reached h.still in
    omega (arith, h.still, needs_next runs count slot under, need_of_run-two need (slot_size runs slot) (omega arith), need_some (slot_size runs slot) (omega arith))

pub IsNumbered-more : (bodies : List (ℕ × FixBox)) (runs : List Run) (children : List PlanChild) (nodes count slot : ℕ) (r : Run) → IsNumbered bodies runs children nodes count slot → slot < 4 * nodes
    → r.start ≡ slot_start runs slot → r.size ≡ slot_size runs slot → r.parent ≡ Some (slot / 4, slot % 4) → 2 ≤ r.size
    → IsNumbered bodies (set runs count r) (set children slot (Node count)) nodes (count + 1) (slot + 1)
IsNumbered-more bodies runs children nodes count slot r h below start size parent two =
    let runs' : List Run = set runs count r in
    let children' : List PlanChild = set children slot (Node count) in
    let under : slot < 4 * count = slot_under runs nodes count slot below h.reached h.still in
    let room : count < nodes = room_for_more bodies runs children nodes count slot r.size h below size two in
    let within : slot < length children = omega (arith, h.places) in
    let stay : RunsStay runs runs' count = λ n made. get_or-set_other runs count n r (record { start = 0; size = 0; parent = None }) (λ same. omega arith) in
    let new : run_at runs' count ≡ r = get_or-set_same runs count r (record { start = 0; size = 0; parent = None }) (omega (arith, h.room)) in
    let here : slot_child children' slot ≡ Node count = child_here children slot (Node count) within in
    let rest : ℕ = 4 * count - (slot + 1) in
    let longer : 4 * (count + 1) - (slot + 1) ≡ rest + 4 = omega arith in
    let from : 4 * count ≡ slot + 1 + rest = omega arith in
    let node : IsNodeAt runs' children' (count + 1) slot count = record {
      child = here;
      later = omega arith;
      made = omega arith;
      start = ap (λ (s : Run). s.start) new ∙ start ∙ sym (slot_start-stays runs runs' count slot stay under);
      size = ap (λ (s : Run). s.size) new ∙ size ∙ sym (slot_size-stays runs runs' count slot stay under);
      parent = ap (λ (s : Run). s.parent) new ∙ parent;
    } in
    let same_size : slot_size runs' slot ≡ r.size = slot_size-stays runs runs' count slot stay under ∙ sym size in record {
      root_start = ap (λ (s : Run). s.start) (stay 0 h.first) ∙ h.root_start;
      root_size = ap (λ (s : Run). s.size) (stay 0 h.first) ∙ h.root_size;
      root_parent = ap (λ (s : Run). s.parent) (stay 0 h.first) ∙ h.root_parent;
      room = subst (λ k. nodes ≤ k) (sym (length-set runs count r)) h.room;
      places = subst (λ k. 4 * nodes ≤ k) (sym (length-set children slot (Node count))) h.places;
      first = omega arith;
      reached = omega arith;
      still = omega (
        arith,
        h.still,
        needs_next runs count slot under,
        need_of_run-two need (slot_size runs slot) (omega arith),
        ap need size,
        needs_split runs' (slot + 1) rest 4 (4 * (count + 1) - (slot + 1)) (4 * count) longer from,
        needs_same runs runs' count stay (slot + 1) rest (omega arith),
        needs_new runs' count (4 * count) r new refl (omega arith),
      );
      within = below_more (λ n. (0 < (run_at runs' n).size) × ((run_at runs' n).start + (run_at runs' n).size ≤ length bodies)) count
          (λ n made. subst (λ (s : Run). (0 < s.size) × (s.start + s.size ≤ length bodies)) (sym (stay n made)) (h.within n made))
          (subst (λ (s : Run). (0 < s.size) × (s.start + s.size ≤ length bodies)) (sym new) (omega arith, omega (arith, slot_within bodies runs children nodes count slot h slot under)));
      filled = below_more (IsFilled bodies runs' children' (count + 1)) slot
          (λ t before. IsFilled-stays bodies runs runs' children children' count (count + 1) t (child_stays children slot t (Node count) before) (omega arith) stay (omega arith) (h.filled t before))
          (record { none = λ p. absurd (omega arith); one = λ b p q. absurd (omega arith); more = λ _. (count, node) });
      parents = λ n some made. below_more (λ k. 0 < k → (t : ℕ) × (t < slot + 1) × IsNodeAt runs' children' (count + 1) t k) count
          (λ k made some.
          let p = h.parents k some made in
          (p.0, omega (arith, p.1), IsNodeAt-stays runs runs' children children' count (count + 1) p.0 k (child_stays children slot p.0 (Node count) p.1) (omega arith) stay (omega (arith, p.1)) p.2))
          (λ some. (slot, omega arith, node)) n made some;
      numbers =
          let longer_range : count + 1 - 1 ≡ suc (count - 1) = omega (arith, h.first) in
          let next : count ≡ 1 + (count - 1) = omega (arith, h.first) in
          picked_more node_of children slot (Node count) within ∙ ap (λ ys. ys ++ count ∷ []) h.numbers ∙ sym (range_push 1 (count - 1) count next) ∙ sym (ap (range_with_len 1) longer_range);
      once =
          once_more (map (λ b. b.0) bodies) _ (map (λ b. b.0) (slot_part bodies runs slot)) (indexes_from bodies runs (slot + 1) rest) (indexes_from bodies runs' (4 * count) 4) _ _ _
          (indexes_next bodies runs count slot under)
          (indexes_split bodies runs' (slot + 1) rest 4 (4 * (count + 1) - (slot + 1)) (4 * count) longer from ∙ ap (λ ys. ys ++ indexes_from bodies runs' (4 * count) 4) (indexes_same bodies runs runs' count stay (slot + 1) rest (omega arith)))
          (indexes_new bodies runs' count (4 * count) r new refl ∙ ap (λ k. map (λ b. b.0) (part bodies k r.size)) start ∙ ap (λ k. map (λ b. b.0) (part bodies (slot_start runs slot) k)) size)
          (picked_more body_of children slot (Node count) within ∙ append-nil (filter_map body_of (take slot children))) h.once;
    }

-- ---- before the first slot

pub IsNumbered-start : (bodies : List (ℕ × FixBox)) (runs : List Run) (children : List PlanChild) (nodes : ℕ) (r : Run) → 0 < length bodies → nodes ≡ need (length bodies) → nodes ≤ length runs → 4 * nodes ≤ length children
    → r.start ≡ 0 → r.size ≡ length bodies → r.parent ≡ None → IsNumbered bodies (set runs 0 r) children nodes 1 0
IsNumbered-start bodies runs children nodes r some needed room places start size parent =
    let runs' : List Run = set runs 0 r in
    let one : 1 ≤ nodes = omega (arith, need_some (length bodies) some) in
    let new : run_at runs' 0 ≡ r = get_or-set_same runs 0 r (record { start = 0; size = 0; parent = None }) (omega arith) in record {
      root_start = ap (λ (s : Run). s.start) new ∙ start;
      root_size = ap (λ (s : Run). s.size) new ∙ size;
      root_parent = ap (λ (s : Run). s.parent) new ∙ parent;
      room = subst (λ k. nodes ≤ k) (sym (length-set runs 0 r)) room;
      places = places;
      first = omega arith;
      reached = omega arith;
      still = needs_new runs' 0 0 r new refl (omega arith) ∙ ap need size ∙ sym needed;
      within = below_more (λ n. (0 < (run_at runs' n).size) × ((run_at runs' n).start + (run_at runs' n).size ≤ length bodies)) 0 (λ n made. absurd (omega arith))
          (subst (λ (s : Run). (0 < s.size) × (s.start + s.size ≤ length bodies)) (sym new) (omega arith, omega arith));
      filled = λ t before. absurd (omega arith);
      parents = λ n later made. absurd (omega arith);
      numbers = refl;
      once =
          let all : indexes_from bodies runs' 0 4 ≡ map (λ b. b.0) bodies =
          indexes_new bodies runs' 0 0 r new refl ∙ ap (λ k. map (λ b. b.0) (part bodies k r.size)) start ∙ ap (λ k. map (λ b. b.0) (part bodies 0 k)) size ∙ ap (map (λ b. b.0)) (part-whole bodies) in
          subst (λ (ys : List ℕ). IsPermutation (map (λ b. b.0) bodies) ys) (sym all) (IsPermutation-refl (map (λ b. b.0) bodies));
    }
