-- Lists of which one element is taken out or changed: the bodies, the batches and the nodes of a pass.
use Rattle.std.proofs.Common.{◌≡◌, ◌≢◌, ℕ, List, [], ◌∷◌, ◌++◌, Bool, true, false, not, cond, Option, Some, None, Contains, AllPairs, map, refl, ap, sym, ◌∙◌, subst, inl, inr, arith}
use Rattle.std.specs.Prelude.{◌==◌, ◌||◌, filter, find, flat_map}
use Rattle.std.proofs.lemmas.Bool.{cases_Bool, eq-eqb, ne_eqb}
use Rattle.std.proofs.lemmas.Grind.{flat_map-append}
use Rattle.std.proofs.lemmas.List.Elements.{Contains-append_left, Contains-append_right}
use Rattle.std.proofs.lemmas.List.Folds.{list_any-append}
use Rattle.core_state.specs.declared.item.Store.{Store}
use Rattle.core_state.specs.declared.view.Marked.{Marked}
use Rattle.core_state.specs.declared.view.Batch.{Batch}
use Rattle.core_state.specs.Bodies.{AreOtherSlots}
use Rattle.core_state.specs.Nodes.{node_in}
use Rattle.core_state.specs.Batches.{is_for, without_batch, with_bodies, changed_at, change_marked, without_marked, is_in_nodes, written_outside}
use Rattle.core_state.proofs.Beginning.{contains_flat, contains_first}
use Rattle.core_batch.proofs.Lists.{contains_later, pairs-first, pairs-right, pairs-across}
use Rattle.core_batch.proofs.Mapped.{AreOtherBodies}
use Rattle.core_batch.proofs.SlotLists.{is_for-true, is_for-slot}
use Rattle.batch_add.specs.stages.GivingUp.{with_marks, unplaced}

-- ---- one element is taken out

module _ {X : Type 0} (p : X → Bool) where
  -- all are left that pass the test
  pub filter_all : (xs : List X) → ((x : X) → Contains xs x → p x ≡ true) → filter p xs ≡ xs
  filter_all [] all = refl
  filter_all (x ∷ xs) all =
      ap (λ (t : Bool). cond t (x ∷ filter p xs) (filter p xs)) (all x (contains_first x xs)) ∙ ap (λ (l : List X). x ∷ l) (filter_all xs (λ y c. all y (contains_later x xs y c)))

  -- all but one
  filter_but : (before : List X) (x : X) (after : List X) → ((y : X) → Contains before y → p y ≡ true) → p x ≡ false → ((y : X) → Contains after y → p y ≡ true)
      → filter p (before ++ x ∷ after) ≡ before ++ after
  filter_but [] x after early fails late = ap (λ (t : Bool). cond t (x ∷ filter p after) (filter p after)) fails ∙ filter_all after late
  filter_but (y ∷ before) x after early fails late =
      ap (λ (t : Bool). cond t (y ∷ filter p (before ++ x ∷ after)) (filter p (before ++ x ∷ after))) (early y (contains_first y before))
      ∙ ap (λ (l : List X). y ∷ l) (filter_but before x after (λ z c. early z (contains_later y before z c)) fails late)

  -- and that one is found
  find_but : (before : List X) (x : X) (after : List X) → ((y : X) → Contains before y → p y ≡ false) → p x ≡ true → find p (before ++ x ∷ after) ≡ Some x
  find_but [] x after early passes = ap (λ (t : Bool). cond t (Some x) (find p after)) passes
  find_but (y ∷ before) x after early passes =
      ap (λ (t : Bool). cond t (Some y) (find p (before ++ x ∷ after))) (early y (contains_first y before))
      ∙ find_but before x after (λ z c. early z (contains_later y before z c)) passes

-- ---- one element is changed

module _ {X : Type 0} (f : X → X) where
  map_all : (xs : List X) → ((x : X) → Contains xs x → f x ≡ x) → map f xs ≡ xs
  map_all [] all = refl
  map_all (x ∷ xs) all = λ i. all x (contains_first x xs) i ∷ map_all xs (λ y c. all y (contains_later x xs y c)) i

  map_but : (before : List X) (x y : X) (after : List X) → ((z : X) → Contains before z → f z ≡ z) → f x ≡ y → ((z : X) → Contains after z → f z ≡ z) → map f (before ++ x ∷ after) ≡ before ++ y ∷ after
  map_but [] x y after early is late = λ i. is i ∷ map_all after late i
  map_but (w ∷ before) x y after early is late = λ i. early w (contains_first w before) i ∷ map_but before x y after (λ z c. early z (contains_later w before z c)) is late i

-- ---- a body of a batch

-- each body is marked once among batches: what is done to the bodies at an index is done to this one
module _ (before : List Batch) (batch : Batch) (after : List Batch) (m : Marked) (later : List Marked) (once : AllPairs AreOtherBodies (flat_map (λ (b : Batch). b.marked) (before ++ with_marks batch (m ∷ later) ∷ after))) where
  abbrev flat : List Batch → List Marked
  flat batches = flat_map (λ (b : Batch). b.marked) batches

  whole : AllPairs AreOtherBodies (flat before ++ m ∷ (later ++ flat after))
  whole = subst (AllPairs AreOtherBodies) (flat_map-append (λ (b : Batch). b.marked) before (with_marks batch (m ∷ later) ∷ after)) once

  early : (b : Batch) → Contains before b → (u : Marked) → Contains b.marked u → u.index ≢ m.index
  early b among u marked =
      pairs-across AreOtherBodies (flat before) (m ∷ (later ++ flat after)) whole u m (contains_flat (λ (c : Batch). c.marked) before b u among marked) (contains_first m (later ++ flat after))

  behind : (u : Marked) → Contains (later ++ flat after) u → u.index ≢ m.index
  behind u among same = pairs-first AreOtherBodies m (later ++ flat after) (pairs-right AreOtherBodies (flat before) (m ∷ (later ++ flat after)) whole) u among (sym same)

  late : (b : Batch) → Contains after b → (u : Marked) → Contains b.marked u → u.index ≢ m.index
  late b among u marked = behind u (Contains-append_right later (flat after) u (contains_flat (λ (c : Batch). c.marked) after b u among marked))

  others : (u : Marked) → Contains later u → u.index ≢ m.index
  others u among = behind u (Contains-append_left later (flat after) u among)

  changed : (change : List Marked → List Marked) (new : List Marked) → ((l : List Marked) → ((u : Marked) → Contains l u → u.index ≢ m.index) → change l ≡ l) → change (m ∷ later) ≡ new
      → map (with_bodies change) (before ++ with_marks batch (m ∷ later) ∷ after) ≡ before ++ with_marks batch new ∷ after
  changed change new leaves is =
      map_but (with_bodies change) before (with_marks batch (m ∷ later)) (with_marks batch new) after (λ b among i. record b { marked = leaves b.marked (early b among) i }) (λ i. record batch { marked = is i })
      (λ b among i. record b { marked = leaves b.marked (late b among) i })

  -- it is unmarked
  abbrev left_over : Marked → Bool
  left_over u = not (u.index == m.index)

  left-other : (u : Marked) → u.index ≢ m.index → left_over u ≡ true
  left-other u apart = ap not (ne_eqb u.index m.index apart)

  pub body-gone : without_marked m.index (before ++ with_marks batch (m ∷ later) ∷ after) ≡ before ++ with_marks batch later ∷ after
  body-gone =
      changed (filter (λ (u : Marked). not (u.index == m.index))) later (λ l apart. filter_all (λ (u : Marked). not (u.index == m.index)) l (λ u c. left-other u (apart u c)))
      (filter_but (λ (u : Marked). not (u.index == m.index)) [] m later (λ u c. left-other u (absurd_in u c)) (ap not (eq-eqb m.index m.index refl)) (λ u c. left-other u (others u c)))
    where
      absurd_in : (u : Marked) → Contains [] u → u.index ≢ m.index
      absurd_in u c same = let none = c.1 in absurd (omega arith)

  -- its location is taken back
  abbrev clear : Marked → Marked
  clear u = record u { is_placed = false }

  clear-other : (u : Marked) → u.index ≢ m.index → changed_at m.index clear u ≡ u
  clear-other u apart = ap (λ (t : Bool). cond t (clear u) u) (ne_eqb u.index m.index apart)

  pub body-cleared : change_marked m.index clear (before ++ with_marks batch (m ∷ later) ∷ after) ≡ before ++ with_marks batch (unplaced m ∷ later) ∷ after
  body-cleared =
      changed (map (changed_at m.index clear)) (unplaced m ∷ later) (λ l apart. map_all (changed_at m.index clear) l (λ u c. clear-other u (apart u c)))
      (λ i. cond (eq-eqb m.index m.index refl i) (clear m) m ∷ map_all (changed_at m.index clear) later (λ u c. clear-other u (others u c)) i)

-- ---- a batch

-- no two batches are for one slot: without the batch for a slot the others are left
module _ (before : List Batch) (batch : Batch) (after : List Batch) (apart : AllPairs AreOtherSlots (before ++ batch ∷ after)) where
  abbrev for_it : Batch → Bool
  for_it b = is_for batch.layer batch.slot b

  slot_early : (b : Batch) → Contains before b → is_for batch.layer batch.slot b ≡ false
  slot_early b among =
      elim (cases_Bool (is_for batch.layer batch.slot b)) [
        | inl hit ↦ absurd (pairs-across AreOtherSlots before (batch ∷ after) apart b batch among (contains_first batch after) (is_for-slot batch.layer batch.slot b hit))
        | inr miss ↦ miss
      ]

  slot_late : (b : Batch) → Contains after b → is_for batch.layer batch.slot b ≡ false
  slot_late b among =
      elim (cases_Bool (is_for batch.layer batch.slot b)) [
        | inl hit ↦
            let same = is_for-slot batch.layer batch.slot b hit in
            absurd (pairs-first AreOtherSlots batch after (pairs-right AreOtherSlots before (batch ∷ after) apart) b among (sym same.0, sym same.1))
        | inr miss ↦ miss
      ]

  pub batch-gone : without_batch batch.layer batch.slot (before ++ batch ∷ after) ≡ before ++ after
  batch-gone =
      filter_but (λ (b : Batch). not (for_it b)) before batch after (λ b c. ap not (slot_early b c)) (ap not (is_for-true batch.layer batch.slot batch (refl, refl))) (λ b c. ap not (slot_late b c))

  pub batch-found : find (λ (b : Batch). for_it b) (before ++ batch ∷ after) ≡ Some batch
  batch-found = find_but (λ (b : Batch). for_it b) before batch after slot_early (is_for-true batch.layer batch.slot batch (refl, refl))

-- ---- nodes

pub node-gone : (had : List ℕ) (node : ℕ) (later : List ℕ) → AllPairs (λ a b. a ≢ b) (had ++ node ∷ later) → filter (λ n. not (n == node)) (had ++ node ∷ later) ≡ had ++ later
node-gone had node later once =
    filter_but (λ (n : ℕ). not (n == node)) had node later
    (λ n c. ap not (ne_eqb n node (pairs-across (λ a b. a ≢ b) had (node ∷ later) once n node c (contains_first node later))))
    (ap not (eq-eqb node node refl))
    (λ n c. ap not (ne_eqb n node (λ same. pairs-first (λ a b. a ≢ b) node later (pairs-right (λ a b. a ≢ b) had (node ∷ later) once) n c (sym same))))

-- what passes two tests, one after the other
module _ {X : Type 0} (one two both : X → Bool) (same : (x : X) → both x ≡ (one x || two x)) where
  filter_first : (x : X) (xs : List X) → filter (λ y. not (two y)) (filter (λ y. not (one y)) xs) ≡ filter (λ y. not (both y)) xs → (a b : Bool) → two x ≡ b
      → filter (λ y. not (two y)) (cond (not a) (x ∷ filter (λ y. not (one y)) xs) (filter (λ y. not (one y)) xs)) ≡ cond (not (a || b)) (x ∷ filter (λ y. not (both y)) xs) (filter (λ y. not (both y)) xs)
  filter_first x xs rest true b is = rest
  filter_first x xs rest false true is =
      ap (λ (t : Bool). cond (not t) (x ∷ filter (λ y. not (two y)) (filter (λ y. not (one y)) xs)) (filter (λ y. not (two y)) (filter (λ y. not (one y)) xs))) is ∙ rest
  filter_first x xs rest false false is =
      ap (λ (t : Bool). cond (not t) (x ∷ filter (λ y. not (two y)) (filter (λ y. not (one y)) xs)) (filter (λ y. not (two y)) (filter (λ y. not (one y)) xs))) is
      ∙ ap (λ (l : List X). x ∷ l) rest

  filter_twice : (xs : List X) → filter (λ y. not (two y)) (filter (λ y. not (one y)) xs) ≡ filter (λ y. not (both y)) xs
  filter_twice [] = refl
  filter_twice (x ∷ xs) =
      filter_first x xs (filter_twice xs) (one x) (two x) refl
      ∙ ap (λ (t : Bool). cond (not t) (x ∷ filter (λ y. not (both y)) xs) (filter (λ y. not (both y)) xs)) (sym (same x))

in_none : (o : Option ℕ) → is_in_nodes [] o ≡ false
in_none None = refl
in_none (Some n) = refl

in_more : (gone : List ℕ) (node : ℕ) (o : Option ℕ) → is_in_nodes (gone ++ node ∷ []) o ≡ (is_in_nodes gone o || is_in_nodes (node ∷ []) o)
in_more gone node None = refl
in_more gone node (Some n) = list_any-append (λ (m : ℕ). m == n) gone (node ∷ [])

-- what was stored outside of no nodes is all
pub written-none : (written : List Store) → written_outside [] written ≡ written
written-none written = filter_all (λ (s : Store). not (is_in_nodes [] (node_in s.name))) written (λ s c. ap not (in_none (node_in s.name)))

pub written-more : (gone : List ℕ) (node : ℕ) (written : List Store) → written_outside (node ∷ []) (written_outside gone written) ≡ written_outside (gone ++ node ∷ []) written
written-more gone node written =
    filter_twice (λ (s : Store). is_in_nodes gone (node_in s.name)) (λ (s : Store). is_in_nodes (node ∷ []) (node_in s.name)) (λ (s : Store). is_in_nodes (gone ++ node ∷ []) (node_in s.name))
    (λ s. in_more gone node (node_in s.name)) written
