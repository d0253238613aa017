-- The list of free indexes of a scene: whom it names, and what entries do to it.
use Rattle.std.proofs.Common.{◌≡◌, ◌≢◌, ℕ, zero, suc, ◌+◌, ◌-◌, ◌<◌, ◌≤◌, List, [], ◌∷◌, ◌++◌, length, get_or, drop, refl, sym, ◌∙◌, ap, subst, Contains, Some, None, is_some, IsSome, IsNone, inl, inr, arith}
use Rattle.std.specs.List.{range_with_len}
use Rattle.std.proofs.lemmas.List.{length-set, length_push, get_or_past}
use Rattle.std.proofs.lemmas.List.Elements.{Contains-append_left, Contains-append_right, Contains-append_cases}
use Rattle.std.proofs.lemmas.List.FromFn.{length-range_with_len, get_or-range_with_len}
use Rattle.std.proofs.lemmas.Bool.{cases_lt, lt-ltb, false≢true}
use Rattle.scene_model.specs.Scene.{Scene, Place, Record, place_at, record_at, unused, next_of, next_index}
use Rattle.scene_model.specs.Step.{created_in, with_new_body, with_change, after_entry}
use Rattle.scene_model.specs.Consistent.{IsConsistent}
use Rattle.scene_model.specs.declared.entry.Entry.TheVariants.{Create, Destroy, SetUser}
use Rattle.fixed_box.specs.declared.fix_box.FixBox.{FixBox}
use Rattle.core_state.specs.Bodies.{free_indexes}

-- ---- lists

-- two lists that begin alike begin with one element, and go on alike
pub cons_first : (x y : ℕ) (xs ys : List ℕ) → x ∷ xs ≡ y ∷ ys → x ≡ y
cons_first x y xs ys e = ap (λ (l : List ℕ). get_or l 0 0) e

pub cons_rest : (x y : ℕ) (xs ys : List ℕ) → x ∷ xs ≡ y ∷ ys → xs ≡ ys
cons_rest x y xs ys e = ap (λ (l : List ℕ). drop 1 l) e

-- the numbers of a range
pub in_range : (a n i : ℕ) → Contains (range_with_len a n) i → (a ≤ i) × (i < a + n)
in_range a n i c =
    let below : c.0 < n = omega (arith, c.1, length-range_with_len a n) in
    let is : a + c.0 ≡ i = sym (get_or-range_with_len a n c.0 i below) ∙ c.2 in
    (omega arith, omega arith)

pub range_has : (a n i : ℕ) → a ≤ i → i < a + n → Contains (range_with_len a n) i
range_has a n i low high =
    let inside : i - a < length (range_with_len a n) = omega (arith, length-range_with_len a n) in
    let at : a + (i - a) ≡ i = omega arith in
    (i - a, inside, get_or-range_with_len a n (i - a) i (omega arith) ∙ at)

-- ---- the next index

next-unused : (used bodies index n : ℕ) (chain : List ℕ) → bodies - used ≡ n → range_with_len used n ≡ index ∷ chain → next_of [] used bodies ≡ Some index
next-unused used bodies index zero chain count e = absurd (omega (arith, ap length e))
next-unused used bodies index (suc n) chain count e =
    let room : used < bodies = omega arith in
    rw (lt-ltb used bodies room) (ap Some (cons_first used index (range_with_len (used + 1) n) chain e))

next-first : (freed : List ℕ) (used bodies index : ℕ) (chain : List ℕ) → freed ++ range_with_len used (bodies - used) ≡ index ∷ chain → next_of freed used bodies ≡ Some index
next-first [] used bodies index chain e = next-unused used bodies index (bodies - used) chain refl e
next-first (first ∷ rest) used bodies index chain e = ap Some (cons_first first index (rest ++ range_with_len used (bodies - used)) chain e)

-- the next body takes the first free index
pub free-next : (scene : Scene) (index : ℕ) (chain : List ℕ) → free_indexes scene ≡ index ∷ chain → next_index scene ≡ Some index
free-next scene index chain e = next-first scene.freed (length scene.places) scene.bodies index chain e

-- ---- what entries do to the list

range-rest : (a n first : ℕ) (chain : List ℕ) → range_with_len a n ≡ first ∷ chain → range_with_len (a + 1) (n - 1) ≡ chain
range-rest a zero first chain e = absurd (omega (arith, ap length e))
range-rest a (suc n) first chain e =
    let less : suc n - 1 ≡ n = omega arith in
    ap (λ (m : ℕ). range_with_len (a + 1) m) less ∙ cons_rest a first (range_with_len (a + 1) n) chain e

free-new : (freed : List ℕ) (scene : Scene) (index : ℕ) (chain : List ℕ) (place : Place) → freed ++ range_with_len (length scene.places) (scene.bodies - length scene.places) ≡ index ∷ chain
    → freed ≡ scene.freed → free_indexes (with_new_body freed scene index place) ≡ chain
free-new [] scene index chain place e none =
    let used : length (scene.places ++ place ∷ []) ≡ length scene.places + 1 = length_push scene.places place in
    let fewer : scene.bodies - (length scene.places + 1) ≡ scene.bodies - length scene.places - 1 = omega arith in
    ap (λ (l : List ℕ). l ++ range_with_len (length (scene.places ++ place ∷ [])) (scene.bodies - length (scene.places ++ place ∷ []))) (sym none)
    ∙ (ap (λ (n : ℕ). range_with_len n (scene.bodies - n)) used
    ∙ (ap (λ (n : ℕ). range_with_len (length scene.places + 1) n) fewer
    ∙ range-rest (length scene.places) (scene.bodies - length scene.places) index chain e))
free-new (first ∷ rest) scene index chain place e none =
    ap (λ (n : ℕ). rest ++ range_with_len n (scene.bodies - n)) (length-set scene.places index place)
    ∙ cons_rest first index (rest ++ range_with_len (length scene.places) (scene.bodies - length scene.places)) chain e

-- a creation takes the first one off
pub free-created : (scene : Scene) (index : ℕ) (chain : List ℕ) (layer : ℕ) (bounds : FixBox) (user : ℕ) → free_indexes scene ≡ index ∷ chain
    → free_indexes (after_entry scene (Create index layer bounds user)) ≡ chain
free-created scene index chain layer bounds user e = free-new scene.freed scene index chain (created_in (place_at scene index) layer bounds user) e refl

-- a destruction puts its index in front
pub free-destroyed : (scene : Scene) (index : ℕ) → free_indexes (after_entry scene (Destroy index)) ≡ index ∷ free_indexes scene
free-destroyed scene index =
    ap (λ (n : ℕ). index ∷ (scene.freed ++ range_with_len n (scene.bodies - n))) (length-set scene.places index (record (place_at scene index) { body = None }))

-- a change in place leaves it
pub free-change : (f : Record → Record) (scene : Scene) (index : ℕ) → free_indexes (with_change f scene index) ≡ free_indexes scene
free-change f scene index = ap (λ (n : ℕ). scene.freed ++ range_with_len n (scene.bodies - n)) (length-set scene.places index _)

pub free-user : (scene : Scene) (index user : ℕ) → free_indexes (after_entry scene (SetUser index user)) ≡ free_indexes scene
free-user scene index user = free-change (λ r. record r { user = user }) scene index

-- ---- whom the list names

-- an index past the used ones has no body
unused_dead : (scene : Scene) (index : ℕ) → length scene.places ≤ index → IsNone (record_at scene index)
unused_dead scene index past = ap (λ (p : Place). is_some p.body) (get_or_past scene.places index unused past)

module _ (layers : ℕ) (scene : Scene) (h : IsConsistent layers scene) where
  -- a free index is one of the world at which no body is live
  pub free-dead : (index : ℕ) → Contains (free_indexes scene) index → (index < scene.bodies) × IsNone (record_at scene index)
  free-dead index c =
      elim (Contains-append_cases scene.freed (range_with_len (length scene.places) (scene.bodies - length scene.places)) index c) [
        | inl freed ↦ let t = h.freed_empty index freed in let below = t.0 in let room = h.room in (omega arith, t.1)
        | inr later ↦
            let t = in_range (length scene.places) (scene.bodies - length scene.places) index later in
            let low = t.0 in
            let high = t.1 in
            let room = h.room in
            (omega arith, unused_dead scene index low)
      ]

  -- and each such index is free
  pub dead-free : (index : ℕ) → index < scene.bodies → IsNone (record_at scene index) → Contains (free_indexes scene) index
  dead-free index below dead =
      elim (cases_lt index (length scene.places)) [
        | inl used ↦ Contains-append_left scene.freed (range_with_len (length scene.places) (scene.bodies - length scene.places)) index (h.empty_freed index used dead)
        | inr past ↦
            Contains-append_right scene.freed (range_with_len (length scene.places) (scene.bodies - length scene.places)) index
            (range_has (length scene.places) (scene.bodies - length scene.places) index past (omega arith))
      ]

  -- a live index is not free
  pub free-apart : (index other : ℕ) → IsSome (record_at scene index) → Contains (free_indexes scene) other → other ≢ index
  free-apart index other live free same = false≢true (sym (free-dead other free).1 ∙ subst (λ (k : ℕ). IsSome (record_at scene k)) (sym same) live)
