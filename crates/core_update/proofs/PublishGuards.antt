-- Taking a tree out of sight stores no word that another pass has for itself: no other pass has an update, and none has a batch
-- for a slot that has a tree.
use Rattle.std.proofs.Common.{◌≡◌, Option, None, IsSomeAnd, refl, subst, inl, inr, arith}
use Rattle.word_map.specs.declared.name.Name.TheVariants.{Main, Slot}
use Rattle.core_state.specs.declared.view.Rebuild.{Rebuild}
use Rattle.core_state.specs.Core.{word_of}
use Rattle.core_state.specs.Exchanging.{MayClearSlot, clear_slot, MayExchange, exchange_main}
use Rattle.core_state.specs.Encoding.{slot_tree}
use Rattle.core_state.specs.Parts.{update_on_cover}
use Rattle.core_state.specs.Scope.{sight}
use Rattle.core_state.specs.BodiesCovered.{cover_scope, KeepsMerged}
use Rattle.core_batch.proofs.Owning.{number-low, slot-reserved}
use Rattle.core_guard.proofs.Holders.{keeps, IsGuarded, guarded}
use Rattle.core_update.proofs.OwnUpdate.{others-none, each-own}

none-has : (o : Option Rebuild) (P : Rebuild → Type 0) → o ≡ None → ¬ IsSomeAnd o P
none-has o P e h = subst (λ (o : Option Rebuild). IsSomeAnd o P) e h

pub GuardsHold-exchange_main : IsGuarded MayExchange exchange_main
GuardsHold-exchange_main =
    guarded MayExchange exchange_main
    (λ core step a asked. keeps exchange_main core step (Main asked.layer) asked.names
    (λ stored seat number view apart found own. (none-has view.rebuild _ (others-none exchange_main core step a asked.r asked.update seat number view apart found own), tt)))

pub GuardsHold-clear_slot : IsGuarded MayClearSlot clear_slot
GuardsHold-clear_slot =
    guarded MayClearSlot clear_slot
    (λ core step a asked. keeps clear_slot core step (Slot asked.layer asked.slot) asked.names
    (λ stored seat number view apart found own. (
      λ holder. elim holder [
        | inr merges ↦ none-has view.rebuild _ (others-none clear_slot core step a asked.r asked.update seat number view apart found own) merges
        | inl has ↦
            let low = number-low core a.formed seat number view found own in
            let reserved = slot-reserved core a.formed a.laws.bodies seat number asked.layer asked.slot view found own has in
            let h =
            each-own clear_slot core step a asked.r asked.update cover_scope (λ k v. refl) update_on_cover (λ bare v. refl) (λ n v y. KeepsMerged (sight cover_scope core) y) a.laws.cover.merged
            in
            let tree : word_of core (Slot asked.layer asked.slot) ≡ slot_tree asked.root = h.stand asked.layer asked.slot asked.root (asked.r.cleared, omega arith, asked.some_left, asked.next) in
            absurd (omega arith)
      ],
      tt,
    )))
