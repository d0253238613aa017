-- The batches that are left to a pass that has attached one.
use Rattle.std.proofs.Common.{◌≡◌, List, Bool, true, false, not, Contains, ap, sym, subst, inl, inr}
use Rattle.std.specs.Prelude.{option_map}
use Rattle.std.proofs.lemmas.Bool.{false≢true, cases_Bool}
use Rattle.core_state.specs.declared.view.Batch.{Batch}
use Rattle.core_state.specs.declared.view.View.{View}
use Rattle.core_state.specs.Core.{Core}
use Rattle.core_state.specs.Kind.{view_after}
use Rattle.core_state.specs.Scope.{Scope, sight, part_of, bare_view}
use Rattle.core_state.specs.Bodies.{IsForSlot, all_batches}
use Rattle.core_state.specs.Batches.{is_for, attach}
use Rattle.core_state.proofs.Beginning.{contains_filter}
use Rattle.core_batch.proofs.Lists.{filter_from, IsPartOf, part-filter, part-set}
use Rattle.core_batch.proofs.Attaching.{Attaching, step_of}
use Rattle.core_batch.proofs.Attached.{core_after}
use Rattle.core_batch.proofs.SlotLists.{is_for-true, is_for-slot}

module _ (core : Core) (a : Attaching core) where
  abbrev pub left_view : View
  left_view = view_after attach core (step_of core a)

  -- those are batches of the pass for other slots
  pub left-from : (b : Batch) → Contains left_view.batches b → Contains a.view.batches b × ¬ IsForSlot a.layer a.slot b
  left-from b among =
      let t = filter_from (λ b. not (is_for a.layer a.slot b)) a.view.batches b among in
      (t.0, λ for. not_both (is_for a.layer a.slot b) (is_for-true a.layer a.slot b for) t.1)
    where
      not_both : (test : Bool) → test ≡ true → not test ≡ true → ⊥
      not_both true e f = false≢true f
      not_both false e f = false≢true e

  pub left-there : (b : Batch) → Contains a.view.batches b → ¬ IsForSlot a.layer a.slot b → Contains left_view.batches b
  left-there b among other =
      elim (cases_Bool (is_for a.layer a.slot b)) [
        | inl is ↦ absurd (other (is_for-slot a.layer a.slot b is))
        | inr not_for ↦ contains_filter (λ b. not (is_for a.layer a.slot b)) a.view.batches b among (ap (λ (t : Bool). not t) not_for)
      ]

  pub left-part : IsPartOf left_view.batches a.view.batches
  left-part = part-filter (λ b. not (is_for a.layer a.slot b)) a.view.batches

-- what a law sees of batches afterwards is a part of what it saw
pub batches-left : (core : Core) (a : Attaching core) (scope : Scope) → ((bare view : View) → (scope.part bare view).batches ≡ view.batches)
    → IsPartOf (all_batches (sight scope (core_after core a))) (all_batches (sight scope core))
batches-left core a scope reads =
    let bare = bare_view a.number in
    let left = left_view core a in
    part-set (part_of scope) (λ (v : View). v.batches) core.views a.seat a.view left (scope.part bare a.view) (scope.part bare left) a.at (ap (option_map (λ n. scope.part (bare_view n) a.view)) a.pass)
    (ap (option_map (λ n. scope.part (bare_view n) left)) a.pass)
    (subst (λ (l : List Batch). IsPartOf l (scope.part bare a.view).batches) (sym (reads bare left)) (subst (λ (l : List Batch). IsPartOf left.batches l) (sym (reads bare a.view)) (left-part core a)))
