-- While each update that is under way is only planned yet, or is at its end, no body has a second location, no new tree stands,
-- and no node is to be given back.
use Rattle.std.proofs.Common.{◌≡◌, ◌≢◌, ℕ, zero, suc, ◌≤◌, List, [], true, Option, Some, None, Contains, IsSomeAnd, IfSome, option_map, length, refl, subst, inl, inr, arith, sym}
use Rattle.std.proofs.lemmas.Bool.{cases_eq}
use Rattle.word_map.specs.declared.config.Config.{Config}
use Rattle.word_map.specs.declared.name.Name.TheVariants.{LocB, Child}
use Rattle.core_state.specs.Core.{Core, word_of, IsViewAt}
use Rattle.core_state.specs.Encoding.{node_child}
use Rattle.core_state.specs.Invariants.{Invariants}
use Rattle.core_state.specs.Kind.{Step}
use Rattle.core_state.specs.LocationsHold.{location_scope, IsSecondFor}
use Rattle.core_state.specs.Nodes.{made, returning, Nodes}
use Rattle.core_state.specs.NodesInOnePlace.{node_scope}
use Rattle.core_state.specs.Parts.{update_on_nodes, update_on_trees, update_on_places}
use Rattle.core_state.specs.Scope.{Sight, sight}
use Rattle.core_state.specs.TreesSound.{tree_scope, IsLeft, as_top, below, IsLeftNode, IsChild, nothing, a_body, a_node}
use Rattle.core_state.specs.Updates.{HasUpdate, IsMadeIn}
use Rattle.core_state.specs.View.{IsPass}
use Rattle.core_state.specs.declared.view.Rebuild.{Rebuild}
use Rattle.core_state.specs.declared.view.View.{View}
use Rattle.core_state.specs.declared.view.Waiting.{Waiting}
use Rattle.core_state.proofs.Lookups.{at_one}
use Rattle.core_state.proofs.Opening.{none_in}
use Rattle.core_guard.proofs.Holders.{EachOther}
use Rattle.core_guard.proofs.Leaving.{if_some_map}
use Rattle.core_guard.proofs.Seats.{has-seat}

-- an update of which it is so
pub record IsQuietUpdate (c : Config) (r : Rebuild) : Type 0 where
  pub promoted : (i : ℕ) → Contains r.placed i → Contains r.promoted i
  pub published : r.is_planned ≡ true → c.layers ≤ length r.swapped
  pub returned : r.returning ≡ []

-- two facts of what a law sees of an update
seen-fact : (f : Rebuild → Rebuild) (o : Option Rebuild) (P Q : Rebuild → Type 0) → ((r : Rebuild) → Q r → ¬ P (f r)) → IfSome o Q → ¬ IsSomeAnd (option_map f o) P
seen-fact f None P Q none q h = h
seen-fact f (Some r) P Q none q h = none r q h

-- a node below another is one level lower
pub child-depth : (nodes : Nodes) (s : Sight) (m k n : ℕ) → IsChild nodes s m k → s.word (Child m k) ≡ node_child n → nodes.depth n ≡ suc (nodes.depth m)
child-depth nodes s m k n (nothing none) e = absurd (omega arith)
child-depth nodes s m k n (a_body i low body) e = absurd (omega arith)
child-depth nodes s m k n (a_node x node home parent depth) e = let same : x ≡ n = omega arith in subst (λ (y : ℕ). nodes.depth y ≡ suc (nodes.depth m)) same depth

-- an update has nothing left to give back
abbrev pub IsLeftEmpty : Rebuild → Type 0
IsLeftEmpty r = r.returning ≡ []

-- then no node is to be given back by its pass: each stands below another
module _ (core : Core) (h : Invariants core) (number : ℕ) (empty : (seat : ℕ) (view : View) → IsViewAt core seat view → IsPass view number → IfSome view.rebuild IsLeftEmpty) where
  abbrev Trees : Sight
  Trees = sight tree_scope core

  left-of : (n : ℕ) (o : Option Rebuild) → IfSome o IsLeftEmpty → IsSomeAnd (option_map update_on_trees o) (λ r. IsLeftNode h.nodes Trees number r n) → (r : Rebuild) × IsLeftNode h.nodes Trees number r n × (r.returning ≡ [])
  left-of n None none left = absurd left
  left-of n (Some r) none left = (update_on_trees r, left, none)

  left_node : (n : ℕ) → h.nodes.home n ≡ returning number → (r : Rebuild) × IsLeftNode h.nodes Trees number r n × (r.returning ≡ [])
  left_node n home =
      let from = has-seat tree_scope (λ k v. refl) core number (λ v. HasUpdate v (λ r. IsLeftNode h.nodes Trees number r n)) (h.trees.left_nodes n number home) in
      left-of n from.view.rebuild (empty from.seat from.view from.at from.pass) from.holds

  above_left : (n : ℕ) → h.nodes.home n ≡ returning number → (m : ℕ) × (h.nodes.home m ≡ returning number) × (h.nodes.depth n ≡ suc (h.nodes.depth m))
  above_left n home = let t = left_node n home in go t.0 t.1.left t.2
    where
      go : (r : Rebuild) → IsLeft h.nodes Trees number r n → r.returning ≡ [] → (m : ℕ) × (h.nodes.home m ≡ returning number) × (h.nodes.depth n ≡ suc (h.nodes.depth m))
      go r (as_top level among) none = absurd (none_in _ (subst (λ (l : List Waiting). Contains l (record { node = n; level = level })) none among))
      go r (below m k low parent child at) none = (m, at, child-depth h.nodes Trees m k n ((left_node m at).1.children k low) child)

  none_as_deep : (d n : ℕ) → h.nodes.depth n ≡ d → h.nodes.home n ≢ returning number
  none_as_deep zero n deep home = let t = above_left n home in let more = t.2 in absurd (omega arith)
  none_as_deep (suc d) n deep home = let t = above_left n home in let more = t.2 in none_as_deep d t.0 (omega arith) t.1

  pub nothing-left : (n : ℕ) → h.nodes.home n ≢ returning number
  nothing-left n = none_as_deep (h.nodes.depth n) n refl

module _ (core : Core) (h : Invariants core) (quiet : (seat number : ℕ) (view : View) → IsViewAt core seat view → IsPass view number → IfSome view.rebuild (IsQuietUpdate core.config)) where
  pub no-second : (i : ℕ) → word_of core (LocB i) ≡ 0
  no-second i =
      elim (cases_eq (word_of core (LocB i)) 0) [
        | inl none ↦ none
        | inr other ↦
            let s = sight location_scope core in
            let second = h.locations.second i other in
            let from = has-seat location_scope (λ k v. refl) core second.0 (λ v. HasUpdate v (IsSecondFor s i)) second.1 in
            absurd (seen-fact update_on_places from.view.rebuild (IsSecondFor s i) _ (λ r q t. t.2 (q.promoted i t.1)) (quiet from.seat second.0 from.view from.at from.pass) from.holds)
      ]

  pub none-made : (n number l : ℕ) → h.nodes.home n ≢ made number l
  none-made n number l e =
      let from = has-seat node_scope (λ k v. refl) core number (λ v. HasUpdate v (λ r. IsMadeIn core.config r l n)) ((h.places.made_by n number l).0 e) in
      seen-fact update_on_nodes from.view.rebuild (λ r. IsMadeIn core.config r l n) _ (λ r q t. let all = q.published t.0 in let few = t.1 in let low = t.2 in omega arith) (quiet from.seat number from.view from.at from.pass) from.holds

  pub none-returning : (n number : ℕ) → h.nodes.home n ≢ returning number
  none-returning n number = nothing-left core h number (λ seat view at pass. if_some_map view.rebuild (IsQuietUpdate core.config) IsLeftEmpty (λ r q. q.returned) (quiet seat number view at pass)) n

-- where one pass alone has an update
pub quiet-alone : (core : Core) (step : Step) → IsViewAt core step.seat step.view → EachOther core step (λ number view. view.rebuild ≡ None) → IfSome step.view.rebuild (IsQuietUpdate core.config)
    → (seat number : ℕ) (view : View) → IsViewAt core seat view → IsPass view number → IfSome view.rebuild (IsQuietUpdate core.config)
quiet-alone core step at alone own seat number view found is =
    elim (cases_eq seat step.seat) [
      | inl same ↦
          let one : step.view ≡ view = at_one core.views step.seat step.view view at (subst (λ (k : ℕ). IsViewAt core k view) same found) in
          subst (λ (v : View). IfSome v.rebuild (IsQuietUpdate core.config)) one own
      | inr apart ↦ subst (λ (o : Option Rebuild). IfSome o (IsQuietUpdate core.config)) (sym (alone seat number view apart found is)) tt
    ]
