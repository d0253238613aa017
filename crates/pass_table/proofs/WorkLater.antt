-- What others' steps leave of a call: all that it did, and all that the pass has.
use Rattle.std.proofs.Common.{◌≡◌, ℕ, List, [], ◌∷◌, ◌++◌, Bool, true, false, Option, Some, None, cond, eqb, inl, inr, fold, append_assoc, refl, ap, sym, ◌∙◌, subst}
use Rattle.std.specs.List.{cons_option}
use Rattle.std.proofs.lemmas.Bool.{cases_eq, eq-eqb, ne_eqb}
use Rattle.std.proofs.lemmas.List.{append-nil}
use Rattle.std.proofs.lemmas.List.Elements.{filter_map-append}
use Rattle.std.proofs.lemmas.List.Sums.{fold-append}
use Rattle.word_map.specs.declared.config.Config.{Config}
use Rattle.word_map.specs.declared.name.Name.{Name}
use Rattle.word_map.specs.declared.name.Name.TheVariants.{Lock}
use Rattle.core_state.specs.declared.item.Item.{Item}
use Rattle.core_state.specs.declared.item.Store.{Store}
use Rattle.core_state.specs.declared.view.Mode.{Mode}
use Rattle.core_state.specs.declared.view.LockStep.TheVariants.{Taken as TakenStep}
use Rattle.core_state.specs.declared.view.View.{View}
use Rattle.core_state.specs.View.{number_in, IsPass, mode_of, mode_after, Holds}
use Rattle.core_state.proofs.Quiet.{append_cut, in_first, in_second}
use Rattle.pass_table.specs.Knowing.{KnowsMore, StoresAlone, more-alone}
use Rattle.pass_table.specs.Holding.{IsAtRest}
use Rattle.pass_table.specs.Belongings.{belongings_of}
use Rattle.pass_table.proofs.Calling.{adds-more}
use Rattle.pass_table.specs.Work.{is_told, told_store, told_stores, Tells, is_location, SparesLocations, Work, HasWorked}

-- ---- stores that are told

-- the pass has its number
pub same_pass : (start view : View) (number : ℕ) → view.role ≡ start.role → IsPass start number → IsPass view number
same_pass start view number role pass = ap number_in role ∙ pass

-- an item tells nothing that is another pass's, or whose word is not told
foreign_untold : (number : ℕ) (item : Item) → (eqb item.pass number) ≡ false → told_store number item ≡ None
foreign_untold number item other = go (is_told item.name)
  where
    go : (t : Bool) → cond {A = Option Store} t (cond (eqb item.pass number) (Some (record { name = item.name; value = item.value })) None) None ≡ None
    go false = refl
    go true = ap (λ (t : Bool). cond {A = Option Store} t (Some (record { name = item.name; value = item.value })) None) other

untold : (number : ℕ) (item : Item) → is_told item.name ≡ false → told_store number item ≡ None
untold number item silent = ap (λ (t : Bool). cond {A = Option Store} t (cond (eqb item.pass number) (Some (record { name = item.name; value = item.value })) None) None) silent

-- where the pass stored only a word that is not told, nothing is
pub none-told : (view : View) (number : ℕ) (name : Name) → IsPass view number → is_told name ≡ false → (items : List Item)
    → ((early later : List Item) (item : Item) → items ≡ early ++ item ∷ later → IsPass view item.pass → item.name ≡ name) → told_stores number items ≡ []
none-told view number name pass silent [] own = refl
none-told view number name pass silent (item ∷ items) own = λ i. cons_option (head i) (none-told view number name pass silent items (λ early later it parts. own (item ∷ early) later it (ap (λ (l : List Item). item ∷ l) parts)) i)
  where
    head : told_store number item ≡ None
    head =
        elim (cases_eq item.pass number) [
          | inl same ↦ untold number item (ap is_told (own [] items item refl (pass ∙ ap Some (sym same))) ∙ silent)
          | inr other ↦ foreign_untold number item (ne_eqb item.pass number other)
        ]

-- one part more
pub tells_on : (start view next : View) (stores more : List Store) (tells : Tells start view stores) (since : List Item) → next.known ≡ view.known ++ since → told_stores tells.number since ≡ more
    → Tells start next (stores ++ more)
tells_on start view next stores more tells since known told = record {
  number = tells.number;
  pass = tells.pass;
  since = tells.since ++ since;
  known = known ∙ (ap (λ (l : List Item). l ++ since) tells.known ∙ append_assoc start.known tells.since since);
  told = filter_map-append (told_store tells.number) tells.since since ∙ (λ i. tells.told i ++ told i);
}

-- a step on another word, and what others stored
pub tells-alone : (start view next : View) (stores : List Store) (name : Name) → view.role ≡ start.role → Tells start view stores → StoresAlone view next name → is_told name ≡ false
    → Tells start next stores
tells-alone start view next stores name role tells alone silent =
    subst (Tells start next) (append-nil stores)
    (tells_on start view next stores [] tells alone.since alone.known (none-told view tells.number name (same_pass start view tells.number role tells.pass) silent alone.since alone.own))

pub tells-more : (start view next : View) (stores : List Store) → view.role ≡ start.role → Tells start view stores → KnowsMore view next → Tells start next stores
tells-more start view next stores role tells more = tells-alone start view next stores (Lock 0) role tells (more-alone view next (Lock 0) more) refl

-- ---- locations

pub spares-then : (start mid next : View) → mid.role ≡ start.role → SparesLocations start mid → SparesLocations mid next → SparesLocations start next
spares-then start mid next role one two = record {
  since = one.since ++ two.since;
  known = two.known ∙ (ap (λ (l : List Item). l ++ two.since) one.known ∙ append_assoc start.known one.since two.since);
  own = λ early later item parts mine.
      elim (append_cut one.since two.since early later item parts) [
        | in_first rest p ↦ one.own early rest item p mine
        | in_second front p q ↦ two.own front later item q (ap number_in role ∙ mine)
      ];
}

-- a step on another word
pub spares-alone : (start view next : View) (name : Name) → view.role ≡ start.role → SparesLocations start view → StoresAlone view next name → is_location name ≡ false → SparesLocations start next
spares-alone start view next name role spares alone other =
    spares-then start view next role spares
    (record { since = alone.since; known = alone.known; own = λ early later item parts mine. ap is_location (alone.own early later item parts mine) ∙ other })

pub spares-more : (start view next : View) → view.role ≡ start.role → SparesLocations start view → KnowsMore view next → SparesLocations start next
spares-more start view next role spares more = spares-alone start view next (Lock 0) role spares (more-alone view next (Lock 0) more) refl

-- ---- calls under way

module _ (start view : View) (w : Work) (worked : HasWorked start view w) where
  pub worked-role : view.role ≡ start.role
  worked-role = ap (λ (v : View). v.role) worked.left

  pub worked-sizes : view.config ≡ start.config
  worked-sizes = ap (λ (v : View). v.config) worked.left

  pub worked-pass : IsPass view worked.adds.number
  worked-pass = same_pass start view worked.adds.number worked-role worked.adds.pass

  pub worked-batches : view.batches ≡ w.batches
  worked-batches = ap (λ (v : View). v.batches) worked.left

  pub worked-loose : view.loose ≡ w.loose
  worked-loose = ap (λ (v : View). v.loose) worked.left

  pub worked-written : view.written ≡ w.written
  worked-written = ap (λ (v : View). v.written) worked.left

  -- what the pass has beside its locks and its task
  pub worked-keeps : belongings_of view ≡ record (belongings_of start) { batches = w.batches; loose = w.loose; written = w.written }
  worked-keeps = ap belongings_of worked.left

  -- how it holds a lock
  pub worked-mode : IsAtRest start → (lock : ℕ) → mode_of view.locks lock ≡ mode_of w.steps lock
  worked-mode rest lock =
      ap (λ (v : View). mode_of v.locks lock) worked.left
      ∙ (fold-append (mode_after lock) None start.locks w.steps ∙ ap (λ (o : Option Mode). fold (mode_after lock) o w.steps) (rest.free lock))

-- ---- locks that were taken

-- what the steps on locks leave held is held
pub held-by : (start view : View) (w : Work) → HasWorked start view w → IsAtRest start → (lock : Config → ℕ) (mode : Mode) → mode_of w.steps (lock start.config) ≡ Some mode → Holds view (lock view.config) mode
held-by start view w worked rest lock mode taken =
    subst (λ (c : Config). Holds view (lock c) mode) (sym (worked-sizes start view w worked)) (worked-mode start view w worked rest (lock start.config) ∙ taken)

pub one-taken : (a : ℕ) (mode : Mode) → mode_of (TakenStep a mode ∷ []) a ≡ Some mode
one-taken a mode = ap (λ (t : Bool). cond {A = Option Mode} t (Some mode) None) (eq-eqb a a refl)

-- others made steps, or the pass loaded a word
module _ (start view next : View) (w : Work) (worked : HasWorked start view w) where
  pub worked-more : KnowsMore view next → HasWorked start next w
  worked-more more = record {
    adds = adds-more start view next w.entries (worked-role start view w worked) worked.adds more;
    tells = tells-more start view next w.stores (worked-role start view w worked) worked.tells more;
    spares = λ none. spares-more start view next (worked-role start view w worked) (worked.spares none) more;
    doing = ap (λ (v : View). v.call.task) more.rest ∙ worked.doing;
    left =
        more.rest
        ∙ (ap (λ (v : View). record v { known = next.known; joined = None }) worked.left
        ∙ (λ i. record start {
          known = next.known;
          joined = sym (ap (λ (v : View). v.joined) more.rest) i;
          locks = start.locks ++ w.steps;
          call = sym (ap (λ (v : View). v.call) more.rest) i;
          batches = w.batches;
          loose = w.loose;
          written = w.written;
        }));
  }
