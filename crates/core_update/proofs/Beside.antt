-- A law that does not read what a step changes of its own update: the step is then as one that leaves the view as it was.
use Rattle.std.proofs.Common.{◌≡◌, ℕ, List, true, false, Option, Some, None, refl, ap, sym, ◌∙◌}
use Rattle.core_state.specs.declared.item.Item.{Item}
use Rattle.core_state.specs.declared.view.Joined.{Joined}
use Rattle.core_state.specs.declared.view.Rebuild.{Rebuild}
use Rattle.core_state.specs.declared.view.View.{View}
use Rattle.core_state.specs.Core.{Core}
use Rattle.core_state.specs.Operation.{stores}
use Rattle.core_state.specs.Kind.{Kind, Step, found_by, log_after, after_step}
use Rattle.core_state.specs.Scope.{Scope, Sight, sight, bare_view}
use Rattle.core_state.proofs.Frames.{frame, step-same, passes-same}
use Rattle.core_guard.proofs.Leaving.{Acts, Last}
use Rattle.core_guard.proofs.Light.{KeepsPart}

-- the kind that does the same with the words, and leaves the view as it was
abbrev pub still_kind : Kind → Kind
still_kind kind = record kind { leaves = λ view name found first second. view }

-- a scope reads nothing of what an update is changed to
abbrev pub Forgets : Scope → (Rebuild → Rebuild) → Type 0
Forgets scope change =
    (bare view : View) (x : Rebuild) (known : List Item) (joined : Option Joined) → scope.part bare (record view { rebuild = Some (change x); known = known; joined = joined }) ≡ scope.part bare (record view { rebuild = Some x })

module _ (kind : Kind) (core : Core) (step : Step) (a : Acts core step) (r : Rebuild) (change : Rebuild → Rebuild) (update : step.view.rebuild ≡ Some r)
    (last : Last kind core step ≡ record step.view { rebuild = Some (change r); known = log_after kind core step; joined = None }) where
  pub part-kept : (scope : Scope) → Forgets scope change → KeepsPart kind core step scope
  part-kept scope forgets =
      ap (λ (v : View). scope.part (bare_view step.number) v) last ∙
      (forgets (bare_view step.number) step.view r (log_after kind core step) None ∙
      ap (λ (o : Option Rebuild). scope.part (bare_view step.number) (record step.view { rebuild = o })) (sym update))

  -- a law that does not read the word either
  pub law-beside : (scope : Scope) (Law : Sight → Type 0) → Forgets scope change → (stores kind.operation (found_by core step) step.first ≡ true → scope.names step.name ≡ false)
      → ((value : ℕ) → kind.entry step.view step.name value ≡ None) → Law (sight scope core) → Law (sight scope (after_step kind core step))
  law-beside scope Law forgets hidden plain =
      frame scope Law core (after_step kind core step) (step-same scope kind core step a.at a.pass (record { name = hidden; entry = λ reads. plain; part = part-kept scope forgets }))

  -- a law that holds after the step that leaves the view
  pub law-stilled : (scope : Scope) (Law : Sight → Type 0) → Forgets scope change → scope.part (bare_view step.number) (Last (still_kind kind) core step) ≡ scope.part (bare_view step.number) step.view
      → Law (sight scope (after_step (still_kind kind) core step)) → Law (sight scope (after_step kind core step))
  law-stilled scope Law forgets still =
      frame scope Law (after_step (still_kind kind) core step) (after_step kind core step)
      (record {
        config = refl;
        words = λ name reads. refl;
        history = λ reads. refl;
        passes = passes-same scope (still_kind kind) core step a.at a.pass still ∙ sym (passes-same scope kind core step a.at a.pass (part-kept scope forgets));
      })
