-- Where a body in the broad phase stands: its locations are in trees of its layer, or in a new one, at the place that the
-- update planned for it.
use Rattle.std.proofs.Common.{◌≡◌, ℕ, ◌<◌, ◌≤◌, true, length, Option, Some, None, Contains, refl, ap, sym, ◌∙◌, subst, inl, inr, arith}
use Rattle.std.specs.Prelude.{IfSome, IsSomeAnd, option_map}
use Rattle.std.proofs.lemmas.Bool.{cases_lt}
use Rattle.std.proofs.lemmas.Option.{same_Some}
use Rattle.scene_model.specs.declared.body_view.Phase.TheVariants.{In}
use Rattle.scene_model.specs.Scene.{Record, record_at}
use Rattle.word_map.specs.declared.name.Name.TheVariants.{LocB, Main}
use Rattle.core_state.specs.declared.view.Noted.{Noted}
use Rattle.core_state.specs.declared.view.Rebuild.{Rebuild}
use Rattle.core_state.specs.declared.view.View.{View}
use Rattle.core_state.specs.View.{IsPass}
use Rattle.core_state.specs.Core.{Core, word_of, scene_of, IsViewAt}
use Rattle.core_state.specs.Encoding.{place}
use Rattle.core_state.specs.Nodes.{Nodes, Home, made, under, IsLive, IsOfLayer}
use Rattle.core_state.specs.Parts.{update_on_places}
use Rattle.core_state.specs.Scope.{Sight, sight}
use Rattle.core_state.specs.Updates.{IsNoted, IsSameBody}
use Rattle.core_state.specs.LocationsHold.{LocationsHold, location_scope, IsLocation, IsWhere, in_slot, in_main, in_old, in_merged, IsSecondFor, IsPlannedAt, IsPublishedAt}
use Rattle.core_state.proofs.Beginning.{body_record}
use Rattle.core_guard.proofs.Seats.{HasSeat, has-seat, each-seat}

-- the body is planned at the place by the update of a pass
pub record IsPlannedBy (core : Core) (nodes : Nodes) (i layer n k : ℕ) : Type 0 where
  pub number : ℕ
  pub seat : ℕ
  pub view : View
  pub at : IsViewAt core seat view
  pub pass : IsPass view number
  pub home : nodes.home n ≡ made number layer
  pub noted : IsSomeAnd view.rebuild (λ r. IsNoted r i (λ noted. (noted.place ≡ place n k) × IsSameBody (sight location_scope core) noted))

-- a location in a tree of the layer that others may reach, or in a new one
pub data IsInLayerAt (core : Core) (nodes : Nodes) (i layer n k : ℕ) : Type 0 where
  in_tree : IsLive (nodes.home n) → IsOfLayer layer (nodes.home n) → IsInLayerAt core nodes i layer n k
  in_new_tree : IsPlannedBy core nodes i layer n k → IsInLayerAt core nodes i layer n k

module _ (core : Core) (nodes : Nodes) (h : LocationsHold nodes core) (i : ℕ) (r : Record) (is : record_at (scene_of core) i ≡ Some r) (inside : r.phase ≡ In) where
  abbrev Is : Sight
  Is = sight location_scope core

  of_home : (n k : ℕ) (home : Home) → nodes.home n ≡ home → IsLive home → IsOfLayer r.layer home → IsInLayerAt core nodes i r.layer n k
  of_home n k home e live layer = in_tree (subst IsLive (sym e) live) (subst (IsOfLayer r.layer) (sym e) layer)

  by_first : (n k : ℕ) → IsWhere nodes Is i r.layer n → IsInLayerAt core nodes i r.layer n k
  by_first n k (in_slot t e home rest) = of_home n k _ home tt refl
  by_first n k (in_main e home rest) = of_home n k _ home tt refl
  by_first n k (in_old number name e other home layer) = of_home n k _ home tt layer
  by_first n k (in_merged number t root e other home has) = of_home n k _ home tt refl

  -- of the second one: the trees of its layer are exchanged, or not yet
  by_second : (n k : ℕ) → k < 4 → word_of core (LocB i) ≡ place n k → IsInLayerAt core nodes i r.layer n k
  by_second n k below e =
      let second = h.second i (λ none. absurd (omega arith)) in
      let from = has-seat location_scope (λ k v. refl) core second.0 (λ v. IsSomeAnd v.rebuild (IsSecondFor Is i)) second.1 in
      go second.0 _ from from.view.rebuild refl
      (each-seat location_scope (λ k v. refl) core _ h.planned from.seat second.0 from.view from.at from.pass)
      (each-seat location_scope (λ k v. refl) core _ h.published from.seat second.0 from.view from.at from.pass) from.holds
    where
      go : (number : ℕ) (seen : View) (from : HasSeat location_scope (λ k v. refl) core number (λ v. IsSomeAnd v.rebuild (IsSecondFor Is i))) (o : Option Rebuild) → from.view.rebuild ≡ o
          → IfSome (option_map update_on_places o) (λ u. (noted : Noted) → Contains u.noted noted → u.is_planned ≡ true → length u.swapped ≤ noted.layer → IsPlannedAt nodes Is number seen u noted)
          → IfSome (option_map update_on_places o) (λ u. (noted : Noted) → Contains u.noted noted → IsPublishedAt nodes u noted)
          → IsSomeAnd (option_map update_on_places o) (IsSecondFor Is i) → IsInLayerAt core nodes i r.layer n k
      go number seen from None same planned published t = absurd t
      go number seen from (Some u) same planned published t =
          let noted = t.3.0 in
          let among : Contains u.noted noted = t.3.1 in
          let at : noted.place ≡ place n k = sym t.3.3.0 ∙ e in
          let body = body_record (record_at (scene_of core) noted.index) (λ q. (q.generation ≡ noted.generation) × (q.layer ≡ noted.layer)) t.3.3.1 in
          let layer : noted.layer ≡ r.layer =
          sym body.2.1 ∙ ap (λ (x : Record). x.layer) (same_Some body.0 r (sym body.1 ∙ (ap (λ (j : ℕ). record_at (scene_of core) j) t.3.2 ∙ is)))
          in
          elim (cases_lt noted.layer (length u.swapped)) [
            | inl swapped ↦
                let p = published noted among t.0 swapped in
                let one : p.0 ≡ n = let place = p.3 in let other = p.2 in omega arith in
                of_home n k (under (Main noted.layer)) (subst (λ (x : ℕ). nodes.home x ≡ under (Main noted.layer)) one p.4) tt (ap Some layer)
            | inr left ↦
                let p = planned noted among t.0 left in
                let one : p.node ≡ n = let place = p.at in let other = p.below in omega arith in
                in_new_tree (record {
                  number = number;
                  seat = from.seat;
                  view = from.view;
                  at = from.at;
                  pass = from.pass;
                  home = subst (λ (x : ℕ). nodes.home x ≡ made number r.layer) one (p.made_for ∙ ap (made number) layer);
                  noted = subst (λ (o : Option Rebuild). IsSomeAnd o (λ r. IsNoted r i (λ noted. (noted.place ≡ place n k) × IsSameBody Is noted))) (sym same) (noted, among, t.3.2, (at, t.3.3.1));
                })
          ]

  pub in-layer : (n k : ℕ) → IsLocation Is i n k → IsInLayerAt core nodes i r.layer n k
  in-layer n k location =
      elim (location.1) [
        | inl e ↦ by_first n k (h.first i r n k is inside location.0 e)
        | inr e ↦ by_second n k location.0 e
      ]
