-- A move that has climbed from a location to the root has widened every bound on the way: so all of them contain the box.
use Rattle.std.proofs.Common.{◌≡◌, ℕ, ◌+◌, Option, subst, arith}
use Rattle.core_state.specs.declared.view.Call.{Call}
use Rattle.core_state.specs.declared.view.Rebuild.{Rebuild}
use Rattle.core_state.specs.Encoding.{Sides, Covers, bound_in, place}
use Rattle.core_state.specs.Moving.{HasWidened, HasClimbed, to_root, to_parent}
use Rattle.core_state.specs.Nodes.{Nodes, Above, here, higher}
use Rattle.core_state.specs.Scope.{Sight}
use Rattle.core_state.specs.LocationsHold.{Encloses}
use Rattle.core_guard.proofs.PlacesStay.{PassIsPlaced}

module _ (nodes : Nodes) (s : Sight) (r : Option Rebuild) (c : Call) (p : PassIsPlaced nodes s c r) (box : Sides) where
  -- what was widened is as wide still
  widened-covers : (n k : ℕ) → HasWidened c box n k → Covers (bound_in s.word n k) box
  widened-covers n k h q low =
      let below = p.still_wide n k q (box q) (h q (omega arith)) in
      let above = p.still_wide n k (3 + q) (box (3 + q)) (h (3 + q) (omega arith)) in
      (below.0 low, above.1 (omega arith))

  -- and the parents that were loaded stand
  pub climbed-encloses : (n k : ℕ) → HasClimbed c box n k → Encloses s n k box
  climbed-encloses n k (to_root x y wide loaded) a b (here z w) = widened-covers n k wide
  climbed-encloses n k (to_root x y wide loaded) a b (higher z w m j c0 d0 e below rest) = let root = (p.on_its_way n 0 loaded).0 in absurd (omega arith)
  climbed-encloses n k (to_parent x y m j wide below loaded more) a b (here z w) = widened-covers n k wide
  climbed-encloses n k (to_parent x y m j wide below loaded more) a b (higher z w o i c0 d0 e low rest) =
      let parent = (p.on_its_way n (place m j) loaded).0 in
      let one : o ≡ m = omega arith in
      let two : i ≡ j = omega arith in
      climbed-encloses m j more a b (subst (λ (t : ℕ). Above s.word m t a b) two (subst (λ (t : ℕ). Above s.word t i a b) one rest))
