-- One update at most is under way: two passes that have one are one pass.
use Rattle.std.proofs.Common.{◌≡◌, ℕ, suc, Option, Some, None, IsSome, option_map, refl, subst, arith, ◌≢◌, is_some, IsSomeAnd, ap, ◌∙◌}
use Rattle.word_map.specs.declared.name.Name.TheVariants.{Update, LocB}
use Rattle.core_state.specs.declared.view.Rebuild.{Rebuild}
use Rattle.core_state.specs.declared.view.View.{View}
use Rattle.core_state.specs.View.{IsPass}
use Rattle.core_state.specs.Core.{Core, word_of, IsViewAt}
use Rattle.core_state.specs.Formed.{IsFormed}
use Rattle.core_state.specs.Nodes.{Nodes}
use Rattle.core_state.specs.NodesInOnePlace.{NodesInOnePlace, node_scope}
use Rattle.core_guard.proofs.Seats.{seat-has, has-seat}
use Rattle.core_guard.proofs.Owners.{same-view}
use Rattle.std.specs.Prelude.{Contains}
use Rattle.core_state.specs.Parts.{update_on_places}
use Rattle.core_state.specs.Scope.{sight}
use Rattle.core_state.specs.Updates.{HasUpdate}
use Rattle.core_state.specs.LocationsHold.{LocationsHold, location_scope, IsSecondFor}

some-map : (f : Rebuild → Rebuild) (o : Option Rebuild) → IsSome o → IsSome (option_map f o)
some-map f None h = h
some-map f (Some r) h = refl

module _ (core : Core) (formed : IsFormed core) (nodes : Nodes) (h : NodesInOnePlace nodes core) where
  names-update : (seat number : ℕ) (view : View) → IsViewAt core seat view → IsPass view number → IsSome view.rebuild → word_of core Update ≡ suc number
  names-update seat number view at pass some =
      (h.update number).1
      (seat-has node_scope (λ k v. refl) core number (λ v. IsSome v.rebuild) (record { seat = seat; view = view; at = at; pass = pass; holds = some-map _ view.rebuild some }))

  pub one-update : (seat other number second : ℕ) (v w : View) → IsViewAt core seat v → IsViewAt core other w → IsPass v number → IsPass w second → IsSome v.rebuild → IsSome w.rebuild → v ≡ w
  one-update seat other number second v w at found pass own one two =
      let first = names-update seat number v at pass one in
      let same : second ≡ number = let again = names-update other second w found own two in omega arith in
      same-view core formed seat other number v w at found pass (subst (IsPass w) same own)

  -- so it has placed each body that has a second location
  pub second-placed : LocationsHold nodes core → (i : ℕ) → word_of core (LocB i) ≢ 0 → (seat number : ℕ) (view : View) (r : Rebuild) → IsViewAt core seat view → IsPass view number → view.rebuild ≡ Some r → Contains r.placed i
  second-placed locations i other seat number view r found own e =
      let Was = sight location_scope core in
      let second = locations.second i other in
      let from = has-seat location_scope (λ k v. refl) core second.0 (λ v. HasUpdate v (IsSecondFor Was i)) second.1 in
      let one : from.view ≡ view = one-update from.seat seat second.0 number from.view view from.at found from.pass own (some-of from.view.rebuild (IsSecondFor Was i) from.holds) (ap is_some e) in
      (subst (λ (o : Option Rebuild). IsSomeAnd (option_map update_on_places o) (IsSecondFor Was i)) (ap (λ (v : View). v.rebuild) one ∙ e) from.holds).1
    where
      some-of : (o : Option Rebuild) (P : Rebuild → Type 0) → IsSomeAnd (option_map update_on_places o) P → IsSome o
      some-of None P h = absurd h
      some-of (Some r) P h = refl
