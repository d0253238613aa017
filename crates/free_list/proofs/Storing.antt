-- What a pass has stored since, step by step.
use Rattle.std.specs.Prelude.{All}
use Rattle.std.proofs.Common.{◌≡◌, ◌≢◌, ℕ, suc, List, [], ◌∷◌, ◌++◌, Some, None, cond, get_or, take, drop, append_assoc, refl, ap, sym, ◌∙◌, subst}
use Rattle.std.specs.List.{cons_option}
use Rattle.std.proofs.lemmas.Bool.{eq-eqb, ne_eqb}
use Rattle.std.proofs.lemmas.List.{append-nil}
use Rattle.std.proofs.lemmas.List.Elements.{All-head, All-tail, filter_map-append}
use Rattle.std.proofs.lemmas.Option.{same_Some}
use Rattle.word_map.specs.declared.name.Name.{Name}
use Rattle.core_state.specs.declared.item.Item.{Item}
use Rattle.core_state.specs.declared.item.Store.{Store}
use Rattle.core_state.specs.declared.view.View.{View}
use Rattle.core_state.specs.View.{IsPass, number_in}
use Rattle.core_state.proofs.Quiet.{cut_at}
use Rattle.pass_table.specs.Knowing.{IsOthers, KnowsMore}
use Rattle.pass_table.specs.Calls.{StoresWord}
use Rattle.free_list.specs.Since.{store_at, own_store, own_stores, HasStored}

-- ---- items

-- others' items are no stores of the pass
none-stored : (number : ℕ) (items : List Item) → All (λ item. item.pass ≢ number) items → own_stores number items ≡ []
none-stored number [] foreign = refl
none-stored number (item ∷ items) foreign =
    let P : Item → Type 0 = λ i. i.pass ≢ number in
    (λ i. cons_option (cond (ne_eqb item.pass number (All-head P item items foreign) i) (Some (store_at item.name item.value)) None) (none-stored number items (All-tail P item items foreign) i))

-- an own one is one
one-stored : (number : ℕ) (item : Item) (name : Name) (value : ℕ) → item.pass ≡ number → item.name ≡ name → item.value ≡ value → own_stores number (item ∷ []) ≡ store_at name value ∷ []
one-stored number item name value own named is = λ i. cons_option (cond (eq-eqb item.pass number own i) (Some (store_at (named i) (is i))) None) []

-- what came by others is by others
came-foreign : (view : View) (number : ℕ) (since : List Item) → IsPass view number → ((early later : List Item) (item : Item) → since ≡ early ++ item ∷ later → IsOthers view (view.known ++ early) item)
    → All (λ (item : Item). item.pass ≢ number) since
came-foreign view number since pass others = λ k d below same. (others (take k since) (drop (suc k) since) (get_or since k d) (cut_at since k d below)).foreign (pass ∙ ap Some (sym same))

-- ---- views

pub nothing-stored : (view : View) (number : ℕ) → IsPass view number → HasStored view view []
nothing-stored view number pass = record { number = number; pass = pass; since = []; known = sym (append-nil view.known); own = refl }

-- one part more
stored-on : (start view next : View) (stores more : List Store) (has : HasStored start view stores) (since : List Item) → next.known ≡ view.known ++ since → own_stores has.number since ≡ more
    → HasStored start next (stores ++ more)
stored-on start view next stores more has since known own = record {
  number = has.number;
  pass = has.pass;
  since = has.since ++ since;
  known = known ∙ (ap (λ (l : List Item). l ++ since) has.known ∙ append_assoc start.known has.since since);
  own = filter_map-append (own_store has.number) has.since since ∙ (λ i. has.own i ++ own i);
}

-- after a load it is the same
pub stored-more : (start view next : View) (stores : List Store) → view.role ≡ start.role → HasStored start view stores → KnowsMore view next → HasStored start next stores
stored-more start view next stores role has more =
    let none = none-stored has.number more.since (came-foreign view has.number more.since (ap number_in role ∙ has.pass) more.others) in
    subst (HasStored start next) (append-nil stores) (stored-on start view next stores [] has more.since more.known none)

-- after a store it is this one too
pub stored-word : (start view next : View) (stores : List Store) (name : Name) (value : ℕ) → view.role ≡ start.role → HasStored start view stores → StoresWord view next name value
    → HasStored start next (stores ++ store_at name value ∷ [])
stored-word start view next stores name value role has word =
    let came = word.advances in
    let pass : IsPass view has.number = ap number_in role ∙ has.pass in
    let own : word.item.pass ≡ has.number = same_Some word.item.pass has.number (sym (All-head (λ (i : Item). IsPass view i.pass) word.item [] came.mine) ∙ pass) in
    stored-on start view next stores (store_at name value ∷ []) has (came.since ++ word.item ∷ []) (came.known ∙ append_assoc view.known came.since (word.item ∷ []))
    (filter_map-append (own_store has.number) came.since (word.item ∷ [])
    ∙ (λ i. none-stored has.number came.since (came-foreign view has.number came.since pass came.others) i ++ one-stored has.number word.item name value own word.named word.is i))
