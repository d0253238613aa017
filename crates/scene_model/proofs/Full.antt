-- A scene has no next index exactly where every index is live.
use Rattle.std.proofs.Common.{◌≡◌, ℕ, ◌<◌, Bool, true, false, cond, nat_lt, List, [], ◌∷◌, length, refl, sym, ◌∙◌, ap, subst, Contains, Some, None, is_some, arith}
use Rattle.std.proofs.lemmas.List.{get_or_past}
use Rattle.std.proofs.lemmas.Bool.{false≢true}
use Rattle.std.proofs.lemmas.Bool.Decides.{nat_tests}
use Rattle.scene_model.specs.Scene.{Scene, Place, unused, record_at, next_of, next_index}
use Rattle.scene_model.specs.Cause.{IsCauseAt, full}
use Rattle.scene_model.specs.Consistent.{IsConsistent}

cond_none : {A : Type 0} (b : Bool) (x : A) → cond b (Some x) None ≡ None → b ≡ false
cond_none true x e = absurd (cc)
cond_none false x e = refl

cond_false : {A : Type 0} (b : Bool) (x : A) → (b ≡ true → ⊥) → cond b (Some x) None ≡ None
cond_false true x h = absurd (h refl)
cond_false false x h = refl

live_or_not : (b : Bool) → (b ≡ false → ⊥) → b ≡ true
live_or_not true h = refl
live_or_not false h = absurd (h refl)

none_next : (layers : ℕ) (scene : Scene) (freed : List ℕ) → scene.freed ≡ freed → next_of freed (length scene.places) scene.bodies ≡ None
    → IsConsistent layers scene → IsCauseAt full scene
none_next layers scene (first ∷ rest) is next h = absurd (cc)
none_next layers scene [] is next h = λ index below.
    let used : nat_lt (length scene.places) scene.bodies ≡ false = cond_none _ _ next in
    live_or_not (is_some (record_at scene index))
    (λ gone.
    let c = h.empty_freed index (grind (arith, nat_tests)) gone in
    let inside = c.1 in
    omega (arith, ap length is))

none_left : (layers : ℕ) (scene : Scene) (freed : List ℕ) → scene.freed ≡ freed → IsCauseAt full scene
    → IsConsistent layers scene → next_of freed (length scene.places) scene.bodies ≡ None
none_left layers scene (first ∷ rest) is live h =
    let c : Contains scene.freed first = subst (λ (xs : List ℕ). Contains xs first) (sym is) (0, omega arith, refl) in
    let empty = h.freed_empty first c in
    absurd (false≢true (sym empty.1 ∙ live first (omega (arith, empty.0, h.room))))
none_left layers scene [] is live h =
    cond_false (nat_lt (length scene.places) scene.bodies) (length scene.places)
    (λ room.
    let below : length scene.places < scene.bodies = grind (arith, nat_tests) in
    let past : record_at scene (length scene.places) ≡ None = ap (λ (p : Place). p.body) (get_or_past scene.places (length scene.places) unused (omega arith)) in
    false≢true (sym (ap is_some past) ∙ live (length scene.places) below))

pub next_index-full : (layers : ℕ) (scene : Scene) → IsConsistent layers scene → (next_index scene ≡ None → IsCauseAt full scene) × (IsCauseAt full scene → next_index scene ≡ None)
next_index-full layers scene h =
    (λ next. none_next layers scene scene.freed refl next h, λ live. none_left layers scene scene.freed refl live h)
