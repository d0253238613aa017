-- The word of the update tells which pass has one under way.
use Rattle.std.proofs.Common.{IsSome, None, Option, Some, ap, arith, is_some, suc, sym, ℕ, ◌∙◌, ◌≡◌, ◌≢◌, refl, subst}
use Rattle.std.specs.Prelude.{option_map, IfSome}
use Rattle.word_map.specs.declared.name.Name.TheVariants.{Update}
use Rattle.core_state.specs.Core.{Core, IsViewAt, word_of}
use Rattle.core_state.specs.Formed.{IsFormed}
use Rattle.core_state.specs.Invariants.{Invariants}
use Rattle.core_state.specs.Kind.{Step}
use Rattle.core_state.specs.NodesInOnePlace.{node_scope}
use Rattle.core_state.specs.Parts.{update_on_nodes}
use Rattle.core_state.specs.Scope.{Scope, sight}
use Rattle.core_state.specs.Updates.{EachUpdate}
use Rattle.core_state.specs.View.{IsPass}
use Rattle.core_state.specs.declared.view.Rebuild.{Rebuild}
use Rattle.core_state.specs.declared.view.View.{View}
use Rattle.core_guard.proofs.Holders.{EachOther}
use Rattle.core_guard.proofs.Owners.{same-seat}
use Rattle.core_guard.proofs.Seats.{seat-has, KeepsNumber, each-seat, seen_of}

module _ (core : Core) (h : Invariants core) where
  some-seen : (o : Option Rebuild) (r : Rebuild) → o ≡ Some r → IsSome (option_map update_on_nodes o)
  some-seen o r e = ap (λ (x : Option Rebuild). is_some (option_map update_on_nodes x)) e

  pub names-update : (seat number : ℕ) (view : View) (r : Rebuild) → IsViewAt core seat view → IsPass view number → view.rebuild ≡ Some r → word_of core Update ≡ suc number
  names-update seat number view r at pass e =
      (h.places.update number).1
      (seat-has node_scope (λ k v. refl) core number (λ v. IsSome v.rebuild) (record { seat = seat; view = view; at = at; pass = pass; holds = some-seen view.rebuild r e }))

  none-unless : (o : Option Rebuild) → ((r : Rebuild) → o ≢ Some r) → o ≡ None
  none-unless None none = refl
  none-unless (Some r) none = absurd (none r refl)

  -- none has, where the word is 0
  pub none-updates : word_of core Update ≡ 0 → (seat number : ℕ) (view : View) → IsViewAt core seat view → IsPass view number → view.rebuild ≡ None
  none-updates none seat number view at pass = none-unless view.rebuild (λ r e. let some = names-update seat number view r at pass e in absurd (omega arith))

  -- and where a pass has one, no other has
  pub others-update-none : IsFormed core → (step : Step) → IsViewAt core step.seat step.view → IsPass step.view step.number → (r : Rebuild) → step.view.rebuild ≡ Some r → EachOther core step (λ number view. view.rebuild ≡ None)
  others-update-none formed step at pass r e seat number view apart found own =
      none-unless view.rebuild
      (λ q some.
      let one = names-update step.seat step.number step.view r at pass e in
      let two = names-update seat number view q found own some in
      let same : number ≡ step.number = omega arith in
      absurd (apart (same-seat core formed seat step.seat number view step.view found at own (pass ∙ ap Some (sym same)))))

-- what a law says of each update it says of the own one
pub own-says : (scope : Scope) (keeps : KeepsNumber scope) (part : Rebuild → Rebuild) → ((number : ℕ) (view : View) → (seen_of scope number view).rebuild ≡ option_map part view.rebuild)
    → (core : Core) (seat number : ℕ) (view : View) (r : Rebuild) → IsViewAt core seat view → IsPass view number → view.rebuild ≡ Some r → (P : ℕ → View → Rebuild → Type 0) → EachUpdate (sight scope core) P
    → P number (seen_of scope number view) (part r)
own-says scope keeps part reads core seat number view r at pass has P h =
    subst (λ (o : Option Rebuild). IfSome o (P number (seen_of scope number view))) (reads number view ∙ ap (option_map part) has)
    (each-seat scope keeps core (λ k v. IfSome v.rebuild (P k v)) h seat number view at pass)
