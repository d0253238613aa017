-- The six sides of a bound, read one after the other.
use Rattle.std.proofs.Common.{◌≡◌, ℕ, List, [], ◌∷◌, Bool, true, false, refl, sym, subst}
use Rattle.std.specs.Prelude.{IsTrue, ◌↔◌, if◌then◌else◌}
use Rattle.fixed_box.specs.declared.fix_box.FixBox.{FixBox}
use Rattle.fixed_box.specs.FixBox.{words_of}
use Rattle.fixed_box.specs.Touch.{Touch}
use Rattle.fixed_box.specs.declared.shape.Shape.{Shape}
use Rattle.word_map.specs.declared.name.Name.{Name}
use Rattle.word_map.specs.declared.name.Name.TheVariants.{Bound}
use Rattle.core_state.specs.declared.view.Waiting.{Waiting}
use Rattle.core_state.specs.declared.view.View.{View}
use Rattle.core_state.specs.Walking.{Query, at_bound, Position}
use Rattle.tree_query.specs.Walking.{WalksOn}
use Rattle.tree_query.specs.Collecting.{body_named, Trip, IsOnTrip, Reaches, bound_place, past_bound, HasReadBound}
use Rattle.tree_query.proofs.Trips.{trip-on, reaches-trans}

same_bool : (a b : Bool) → (IsTrue a → IsTrue b) → (IsTrue b → IsTrue a) → a ≡ b
same_bool true true f g = refl
same_bool true false f g = sym (f refl)
same_bool false true f g = g refl
same_bool false false f g = refl

-- a box that touches by a call is one that touches by the test of the query
pub tests-so : (query : Query) (shape : Shape) (touches : Bool) (words : List ℕ) → query.shape ≡ shape → IsTrue touches ↔ ((b : FixBox) × (words_of b ≡ words) × Touch shape b) → query.test words ≡ touches
tests-so query shape touches words asks h =
    let tests = subst (λ (s : Shape). IsTrue (query.test words) ↔ ((b : FixBox) × (words_of b ≡ words) × Touch s b)) asks (query.tests words) in
    same_bool (query.test words) touches (λ t. h.1 (tests.0 t)) (λ t. tests.1 (h.0 t))

module _ (trip : Trip) (rest : List Name) (stack : List Waiting) (n level k x : ℕ) where
  abbrev at_sides : List ℕ → Position
  at_sides read = record { rest = rest; stack = stack; spot = at_bound n level k x read }

  module _ (v0 v1 v2 v3 v4 v5 v6 : View) (a b c d e f : ℕ) (s0 : WalksOn v0 v1 (Bound n k 0) a) (s1 : WalksOn v1 v2 (Bound n k 1) b) (s2 : WalksOn v2 v3 (Bound n k 2) c)
      (s3 : WalksOn v3 v4 (Bound n k 3) d) (s4 : WalksOn v4 v5 (Bound n k 4) e) (s5 : WalksOn v5 v6 (Bound n k 5) f) where
    sides-read : IsOnTrip trip v0 (bound_place rest stack n level k x)
        → Reaches trip v0 v6 (past_bound rest stack n level k x (trip.query.test (a ∷ b ∷ c ∷ d ∷ e ∷ f ∷ []))) (if trip.query.test (a ∷ b ∷ c ∷ d ∷ e ∷ f ∷ []) then body_named x else []) 6
    sides-read h =
        let r0 : Reaches trip v0 v1 (at_sides (a ∷ [])) [] 1 = trip-on trip v0 v1 (at_sides []) (Bound n k 0) a h refl s0 in
        let r1 : Reaches trip v1 v2 (at_sides (a ∷ b ∷ [])) [] 1 = trip-on trip v1 v2 (at_sides (a ∷ [])) (Bound n k 1) b r0.on refl s1 in
        let r2 : Reaches trip v2 v3 (at_sides (a ∷ b ∷ c ∷ [])) [] 1 = trip-on trip v2 v3 (at_sides (a ∷ b ∷ [])) (Bound n k 2) c r1.on refl s2 in
        let r3 : Reaches trip v3 v4 (at_sides (a ∷ b ∷ c ∷ d ∷ [])) [] 1 = trip-on trip v3 v4 (at_sides (a ∷ b ∷ c ∷ [])) (Bound n k 3) d r2.on refl s3 in
        let r4 : Reaches trip v4 v5 (at_sides (a ∷ b ∷ c ∷ d ∷ e ∷ [])) [] 1 = trip-on trip v4 v5 (at_sides (a ∷ b ∷ c ∷ d ∷ [])) (Bound n k 4) e r3.on refl s4 in
        let r5 = trip-on trip v5 v6 (at_sides (a ∷ b ∷ c ∷ d ∷ e ∷ [])) (Bound n k 5) f r4.on refl s5 in
        let two = reaches-trans trip v0 v1 v2 _ _ [] [] 1 1 r0 r1 in
        let three = reaches-trans trip v0 v2 v3 _ _ [] [] 2 1 two r2 in
        let four = reaches-trans trip v0 v3 v4 _ _ [] [] 3 1 three r3 in
        let five = reaches-trans trip v0 v4 v5 _ _ [] [] 4 1 four r4 in
        reaches-trans trip v0 v5 v6 _ _ [] _ 5 1 five r5

    -- and tested
    pub bound-read : (shape : Shape) (touches : Bool) → trip.query.shape ≡ shape → IsTrue touches ↔ ((box : FixBox) × (words_of box ≡ a ∷ b ∷ c ∷ d ∷ e ∷ f ∷ []) × Touch shape box)
        → IsOnTrip trip v0 (bound_place rest stack n level k x) → HasReadBound trip v0 v6 rest stack n level k x touches
    bound-read shape touches asks h on =
        subst (HasReadBound trip v0 v6 rest stack n level k x) (tests-so trip.query shape touches (a ∷ b ∷ c ∷ d ∷ e ∷ f ∷ []) asks h) (sides-read on)
