-- An update that has planned no trees yet: what the laws say of it and of its nodes, and that they hold where it changes in
-- such things alone.
use Rattle.std.proofs.Common.{◌≡◌, ◌≢◌, ℕ, ◌<◌, ◌≤◌, List, true, false, length, Contains, Option, Some, refl, ap, sym, ◌∙◌, subst}
use Rattle.std.specs.Prelude.{IfSome, IsSomeAnd, option_map, flat_map, slice_index_or}
use Rattle.std.proofs.lemmas.Bool.{false≢true}
use Rattle.std.proofs.lemmas.List.Elements.{Contains-append_right}
use Rattle.word_map.specs.declared.name.Name.{Name}
use Rattle.core_state.specs.declared.view.Call.{Call}
use Rattle.core_state.specs.declared.view.Noted.{Noted}
use Rattle.core_state.specs.declared.view.Merged.{Merged}
use Rattle.core_state.specs.View.{no_call, IsPass}
use Rattle.core_state.specs.declared.view.Rebuild.{Rebuild}
use Rattle.core_state.specs.declared.view.Task.{Task}
use Rattle.core_state.specs.declared.view.Task.TheVariants.{Nothing}
use Rattle.core_state.specs.declared.view.View.{View}
use Rattle.core_state.specs.Core.{Core, IsViewAt}
use Rattle.core_state.specs.Formed.{IsFormed}
use Rattle.core_state.specs.Invariants.{Invariants}
use Rattle.core_state.specs.Kind.{Kind, Step, after_step}
use Rattle.core_state.specs.Nodes.{Nodes, owned, made, IsOwnedBy, nodes_in}
use Rattle.core_state.specs.Noting.{IsEarly}
use Rattle.core_state.specs.Parts.{call_by_task, call_on_places, update_on_nodes, update_on_places}
use Rattle.core_state.specs.Updates.{IsMadeIn, IsStillMerged, IsPlacing, merged_tree}
use Rattle.core_state.specs.LocationsHold.{LocationsHold, location_scope, IsSecondFor, IsPlannedAt, IsPublishedAt, Removes}
use Rattle.core_state.specs.NodesInOnePlace.{node_scope}
use Rattle.core_guard.proofs.Leaving.{Acts}
use Rattle.core_guard.proofs.Owners.{same-view, owned-by}
use Rattle.core_guard.proofs.PlacesStay.{PassIsPlaced, begun-placed}
use Rattle.core_guard.proofs.Seats.{has-seat, seen_of}
use Rattle.core_batch.proofs.Owning.{owned_home}
use Rattle.core_update.proofs.SwappedPlaces.{One, Two, First, Second, OneUpdate, TwoUpdate, LocationsHold-swap}

module _ (core : Core) (step : Step) (at : IsViewAt core step.seat step.view) (pass : IsPass step.view step.number) (formed : IsFormed core) (laws : Invariants core) (r : Rebuild) (has : step.view.rebuild ≡ Some r) (early : IsEarly r) where
  -- no node is in a new tree of the pass
  pub none-made : (n l : ℕ) → laws.nodes.home n ≢ made step.number l
  none-made n l home =
      let from = has-seat node_scope (λ k v. refl) core step.number (λ v. IsSomeAnd v.rebuild (λ u. IsMadeIn core.config u l n)) ((laws.places.made_by n step.number l).0 home) in
      let same : from.view ≡ step.view = same-view core formed from.seat step.seat step.number from.view step.view from.at at from.pass pass in
      let t = subst (λ (o : Option Rebuild). IsSomeAnd (option_map update_on_nodes o) (λ u. IsMadeIn core.config u l n)) (ap (λ (v : View). v.rebuild) same ∙ has) from.holds in
      false≢true (sym early.unplanned ∙ t.0)

  -- its own ones are owned apart
  pub owned-apart : (n : ℕ) → Contains r.nodes n → laws.nodes.home n ≡ owned step.number
  owned-apart n among =
      let all = subst (λ (o : Option Rebuild). Contains (nodes_in o) n) (sym has) among in
      let owns = owned-by core laws.nodes laws.places step.seat step.number step.view at pass n
      (Contains-append_right (flat_map (λ b. b.nodes) step.view.batches) _ n (Contains-append_right step.view.loose (nodes_in step.view.rebuild) n all)) in
      owned_home step.number (laws.nodes.home n) owns (λ p l e. none-made n l (e ∙ ap (λ (q : ℕ). made q l) (subst (IsOwnedBy step.number) e owns)))

module _ (core : Core) (step : Step) (a : Acts core step) (r : Rebuild) (has : step.view.rebuild ≡ Some r) (early : IsEarly r) where
  abbrev nodes : Nodes
  nodes = a.laws.nodes

  pub unmade : (n l : ℕ) → nodes.home n ≢ made step.number l
  unmade = none-made core step a.at a.pass a.formed a.laws r has early

  pub own-home : (n : ℕ) → Contains r.nodes n → nodes.home n ≡ owned step.number
  own-home = owned-apart core step a.at a.pass a.formed a.laws r has early

  -- ---- a kind that notes something else of it

  module _ (kind : Kind) (leaves : View → Name → ℕ → ℕ → ℕ → View) (idle : step.view.call.task ≡ Nothing) where
    -- what the one kind leaves and the other does: the update is still early, and has replaced as much
    pub record NotesElse : Type 0 where
      pub u : Rebuild
      pub one : (One kind leaves core step a nodes).rebuild ≡ Some r
      pub two : (Two kind leaves core step a nodes).rebuild ≡ Some u
      pub one_call : (One kind leaves core step a nodes).call ≡ step.view.call
      pub two_call : (Two kind leaves core step a nodes).call ≡ step.view.call
      pub batches : (Two kind leaves core step a nodes).batches ≡ (One kind leaves core step a nodes).batches
      pub unplanned : u.is_planned ≡ false
      pub swapped : u.swapped ≡ r.swapped
      pub cleared : u.cleared ≡ r.cleared
      pub merged : u.merged ≡ r.merged

    pub LocationsHold-early : LocationsHold nodes (after_step (record kind { leaves = leaves }) core step) → NotesElse → LocationsHold nodes (after_step kind core step)
    LocationsHold-early h g =
        let one : OneUpdate kind leaves core step a nodes ≡ Some (update_on_places r) = ap (option_map update_on_places) g.one in
        let two : TwoUpdate kind leaves core step a nodes ≡ Some (update_on_places g.u) = ap (option_map update_on_places) g.two in
        let calm : call_on_places (Two kind leaves core step a nodes).call ≡ no_call = ap call_on_places g.two_call ∙ ap (λ (t : Task). call_by_task t step.view.call) idle in
        let task : (Two kind leaves core step a nodes).call.task ≡ (One kind leaves core step a nodes).call.task = ap (λ (c : Call). c.task) (g.two_call ∙ sym g.one_call) in
        let forth : (P : Rebuild → Type 0) → (P (update_on_places r) → P (update_on_places g.u)) → IsSomeAnd (OneUpdate kind leaves core step a nodes) P → IsSomeAnd (TwoUpdate kind leaves core step a nodes) P =
        λ P more t. subst (λ (o : Option Rebuild). IsSomeAnd o P) (sym two) (more (subst (λ (o : Option Rebuild). IsSomeAnd o P) one t))
        in
        LocationsHold-swap kind leaves core step a nodes h (record {
          batches = g.batches;
          bodies = λ i. record {
            second = forth (IsSecondFor (First kind leaves core step a nodes) i) (λ t. absurd (false≢true (sym early.unplanned ∙ t.0)));
            placed = λ t e. subst (λ (x : Task). IsPlacing x i) (sym task);
            unexchanged = λ l. forth (λ x. length x.swapped ≤ l) (subst (λ (xs : List ℕ). length xs ≤ l) (sym g.swapped));
            merged = λ l t root. forth (λ x. IsStillMerged x l t root)
                (λ m. subst (λ (xs : List Merged). (k : ℕ) × (g.u.cleared ≤ k) × (k < length xs) × (slice_index_or xs k (merged_tree l t root) ≡ merged_tree l t root)) (sym g.merged) (subst (λ (n : ℕ). (k : ℕ) × (n ≤ k) × (k < length r.merged) × (slice_index_or r.merged k (merged_tree l t root) ≡ merged_tree l t root)) (sym g.cleared) m));
            removed = subst (λ (x : Task). Removes x i) (sym task);
          };
          noted = λ i n k l home. absurd (unmade n l home);
          planned = subst (λ (o : Option Rebuild). IfSome o (λ x. (noted : Noted) → Contains x.noted noted → x.is_planned ≡ true → length x.swapped ≤ noted.layer → IsPlannedAt nodes (Second kind leaves core step a nodes) step.number (seen_of location_scope step.number (Two kind leaves core step a nodes)) x noted)) (sym two) (λ noted among planned. absurd (false≢true (sym g.unplanned ∙ planned)));
          published = subst (λ (o : Option Rebuild). IfSome o (λ x. (noted : Noted) → Contains x.noted noted → IsPublishedAt nodes x noted)) (sym two) (λ noted among planned. absurd (false≢true (sym g.unplanned ∙ planned)));
          own = subst (λ (c : Call). PassIsPlaced nodes (Second kind leaves core step a nodes) c (TwoUpdate kind leaves core step a nodes)) (sym calm)
              (begun-placed nodes (Second kind leaves core step a nodes) (TwoUpdate kind leaves core step a nodes) Nothing (λ i removes. absurd removes) tt (λ n k climbs. absurd climbs));
        })
