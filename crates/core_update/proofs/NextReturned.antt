-- What a pass is to give back next: a node that is in its hands, and in no list of the pool. Loading a child of it changes
-- nothing.
use Rattle.std.proofs.Common.{◌∙◌, ◌≡◌, ◌≢◌, List, refl, subst, sym, ℕ}
use Rattle.std.proofs.lemmas.Bool.{false≢true}
use Rattle.std.specs.Prelude.{Contains}
use Rattle.core_state.specs.Core.{Core}
use Rattle.core_state.specs.Kind.{Step}
use Rattle.core_state.specs.Nodes.{free, returning}
use Rattle.core_state.specs.Parts.{update_on_trees}
use Rattle.core_state.specs.Retiring.{IsNextToReturn, MayLoadReturned, load_returned}
use Rattle.core_state.specs.Scope.{sight}
use Rattle.core_state.specs.TreesSound.{AreTops, IsTop, tree_scope}
use Rattle.core_state.specs.Walking.{waiting}
use Rattle.core_state.specs.declared.view.Waiting.{Waiting}
use Rattle.core_state.proofs.Beginning.{contains_first}
use Rattle.core_state.proofs.Guarding.{GuardsHold-load}
use Rattle.core_guard.proofs.Holders.{IsGuarded}
use Rattle.core_guard.proofs.Leaving.{Acts}
use Rattle.core_guard.proofs.Touched.{IsKept, kept}
use Rattle.core_update.proofs.Rebuilt.{Invariants-nothing}
use Rattle.core_update.proofs.Updating.{own-says}

pub free_returning : (number : ℕ) → free ≢ returning number
free_returning number e = absurd cc

module _ (core : Core) (step : Step) (a : Acts core step) (node : ℕ) (next : IsNextToReturn step.view node) where
  pub own-tops : AreTops a.laws.nodes (sight tree_scope core) step.number (update_on_trees next.r)
  own-tops =
      own-says tree_scope (λ k v. refl) update_on_trees (λ k v. refl) core step.seat step.number step.view next.r a.at a.pass next.update (λ k v r. AreTops a.laws.nodes (sight tree_scope core) k r)
      a.laws.trees.tops

  -- it is a top of what is left
  pub next-top : IsTop a.laws.nodes (sight tree_scope core) step.number (waiting node next.level)
  next-top = own-tops.tops (waiting node next.level) (subst (λ (l : List Waiting). Contains l (waiting node next.level)) (sym next.first) (contains_first (waiting node next.level) next.rest))

  pub next-returning : a.laws.nodes.home node ≡ returning step.number
  next-returning = next-top.owned

  -- so it is not free yet
  pub next-not_free : a.laws.nodes.home node ≢ free
  next-not_free e = free_returning step.number (sym e ∙ next-returning)

-- ---- kind 55

pub Invariants-load_returned : IsKept MayLoadReturned load_returned
Invariants-load_returned =
    kept MayLoadReturned load_returned (λ core step a asked. Invariants-nothing load_returned core step a false≢true (λ value. refl) refl)

pub GuardsHold-load_returned : IsGuarded MayLoadReturned load_returned
GuardsHold-load_returned before after steps formed laws guards = GuardsHold-load MayLoadReturned load_returned before after (λ found first. refl) steps guards
