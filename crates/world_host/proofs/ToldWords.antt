-- Words of which each call tells what it stored there, by what the one pass of a world has told.
use Rattle.std.proofs.Common.{◌≡◌, ◌⊎◌, ℕ, Bool, true, false, cond, ◌==◌, if◌then◌else◌, List, [], ◌∷◌, ◌++◌, Option, Some, None, append_assoc, refl, ap, sym, ◌∙◌, subst, eq-eqb, inl, inr}
use Rattle.std.specs.Prelude.{All, fold}
use Rattle.std.specs.List.{cons_option}
use Rattle.std.proofs.lemmas.Bool.{cases_Bool, false≢true}
use Rattle.std.proofs.lemmas.List.{append_cancel_left}
use Rattle.std.proofs.lemmas.List.Elements.{All-head, All-tail, All-nil, All-cons, filter_map-append}
use Rattle.std.proofs.lemmas.List.Sums.{fold-append}
use Rattle.std.proofs.lemmas.Option.{same_Some}
use Rattle.word_map.specs.declared.config.Config.{Config}
use Rattle.word_map.specs.declared.name.Name.{Name}
use Rattle.core_state.specs.declared.item.Item.{Item}
use Rattle.core_state.specs.declared.item.Store.{Store}
use Rattle.core_state.specs.declared.view.View.{View}
use Rattle.core_state.specs.Names.{same_name}
use Rattle.core_state.specs.Log.{word, word_after}
use Rattle.core_state.specs.View.{number_in, known_word}
use Rattle.batch_add.specs.Parts.{StoresFrom}
use Rattle.core_state.proofs.SameNames.{same_name-equal}
use Rattle.pass_table.proofs.Keeping.{All-second}
use Rattle.pass_table.specs.Several.{KnowsOwn}
use Rattle.pass_table.specs.Work.{is_told, told_store, told_stores, Tells}

-- a word after a store
abbrev pub store_after : Name → ℕ → Store → ℕ
store_after name before store = if same_name store.name name then store.value else before

-- an item of the pass stores such a word as it is told, and one that is not told stores another word
told-one : (name : Name) (number : ℕ) (item : Item) (before : ℕ) (told : Bool) → is_told name ≡ true → item.pass ≡ number → is_told item.name ≡ told
    → word_after name before item ≡ fold (store_after name) before (cons_option (told_store number item) [])
told-one name number item before true is own shown =
    let whole : told_store number item ≡ Some (record { name = item.name; value = item.value }) =
    ap (λ (t : Bool). cond t (cond (item.pass == number) (Some (record { name = item.name; value = item.value })) None) None) shown
    ∙ ap (λ (t : Bool). cond t (Some (record { name = item.name; value = item.value })) None) (eq-eqb item.pass number own)
    in
    ap (λ (o : Option Store). fold (store_after name) before (cons_option o [])) (sym whole)
told-one name number item before false is own shown =
    let none : told_store number item ≡ None = ap (λ (t : Bool). cond t (cond (item.pass == number) (Some (record { name = item.name; value = item.value })) None) None) shown in
    let other : same_name item.name name ≡ false = elim (cases_Bool (same_name item.name name)) [
      | inl same ↦ absurd (false≢true (sym shown ∙ (ap is_told (same_name-equal item.name name same) ∙ is)))
      | inr apart ↦ apart
    ] in
    ap (λ (t : Bool). if t then item.value else before) other ∙ ap (λ (o : Option Store). fold (store_after name) before (cons_option o [])) (sym none)

cons-fold : (f : ℕ → Store → ℕ) (before : ℕ) (o : Option Store) (later : List Store) → fold f before (cons_option o later) ≡ fold f (fold f before (cons_option o [])) later
cons-fold f before None later = refl
cons-fold f before (Some s) later = refl

told-all : (name : Name) (number : ℕ) (items : List Item) (before : ℕ) → is_told name ≡ true → All (λ item. item.pass ≡ number) items
    → fold (word_after name) before items ≡ fold (store_after name) before (told_stores number items)
told-all name number [] before is own = refl
told-all name number (item ∷ items) before is own =
    let P : Item → Type 0 = λ i. i.pass ≡ number in
    let one = told-one name number item before (is_told item.name) is (All-head P item items own) refl in
    told-all name number items (word_after name before item) is (All-tail P item items own)
    ∙ (ap (λ (b : ℕ). fold (store_after name) b (told_stores number items)) one
    ∙ sym (cons-fold (store_after name) before (told_store number item) (told_stores number items)))

-- such a word, after a call that told these stores
pub word-told : (start next : View) (name : Name) (stores : List Store) → is_told name ≡ true → KnowsOwn next → next.config ≡ start.config → next.role ≡ start.role → Tells start next stores
    → known_word next name ≡ fold (store_after name) (known_word start name) stores
word-told start next name stores is own sizes role tells =
    let mine : All (λ (item : Item). item.pass ≡ tells.number) (start.known ++ tells.since) =
    subst (All (λ (item : Item). item.pass ≡ tells.number)) tells.known (λ k d below. same_Some _ tells.number (sym (own k d below) ∙ (ap number_in role ∙ tells.pass)))
    in
    ap (λ (c : Config). word c next.known name) sizes
    ∙ (ap (λ (l : List Item). word start.config l name) tells.known
    ∙ (fold-append (word_after name) _ start.known tells.since
    ∙ (told-all name tells.number tells.since (known_word start name) is (All-second (λ (item : Item). item.pass ≡ tells.number) start.known tells.since mine)
    ∙ ap (fold (store_after name) (known_word start name)) tells.told)))

-- ---- at a point of a call

first-all : {X : Type 0} (P : X → Type 0) (xs ys : List X) → All P (xs ++ ys) → All P xs
first-all P [] ys h = All-nil P
first-all P (x ∷ xs) ys h = All-cons P x xs (All-head P x (xs ++ ys) h) (first-all P xs ys (All-tail P x (xs ++ ys) h))

module _ (start next : View) (stores : List Store) (own : KnowsOwn next) (role : next.role ≡ start.role) (tells : Tells start next stores) (since later : List Item) (parts : next.known ≡ (start.known ++ since) ++ later) where
  abbrev Mine : Item → Type 0
  Mine item = item.pass ≡ tells.number

  items : tells.since ≡ since ++ later
  items = append_cancel_left start.known tells.since (since ++ later) (sym tells.known ∙ (parts ∙ append_assoc start.known since later))

  all-mine : All Mine (since ++ later)
  all-mine =
      subst (All Mine) items
      (All-second Mine start.known tells.since (subst (All Mine) tells.known (λ k d below. same_Some _ tells.number (sym (own k d below) ∙ (ap number_in role ∙ tells.pass)))))

  -- the stores up to there are the first of those that were told
  pub stores-split : stores ≡ told_stores tells.number since ++ told_stores tells.number later
  stores-split = sym tells.told ∙ (ap (told_stores tells.number) items ∙ filter_map-append (told_store tells.number) since later)

  -- and the word is as after them
  pub word-at : (name : Name) → is_told name ≡ true → word start.config (start.known ++ since) name ≡ fold (store_after name) (known_word start name) (told_stores tells.number since)
  word-at name is = fold-append (word_after name) _ start.known since ∙ told-all name tells.number since (known_word start name) is (first-all Mine since later all-mine)

-- ---- a store that was told in the place of another value

-- it is one of these stores, where this was the word before them
abbrev pub IsAmongStores : Name → ℕ → ℕ → ℕ → List Store → Type 0
IsAmongStores name before old new [] = ⊥
IsAmongStores name before old new (s ∷ later) = ((s.name ≡ name) × (s.value ≡ new) × (before ≡ old)) ⊎ IsAmongStores name (store_after name before s) old new later

among-split : (name : Name) (before old new : ℕ) (early late : List Store) → fold (store_after name) before early ≡ old → IsAmongStores name before old new (early ++ record { name = name; value = new } ∷ late)
among-split name before old new [] late was = inl (refl, refl, was)
among-split name before old new (s ∷ early) late was = inr (among-split name (store_after name before s) old new early late was)

-- the store of an item of the pass that is told
item-told : (name : Name) (number new : ℕ) (item : Item) → is_told name ≡ true → item.name ≡ name → item.value ≡ new → item.pass ≡ number → told_store number item ≡ Some (record { name = name; value = new })
item-told name number new item is named value mine =
    ap (λ (t : Bool). cond t (cond (item.pass == number) (Some (record { name = item.name; value = item.value })) None) None) (ap is_told named ∙ is)
    ∙ (ap (λ (t : Bool). cond t (Some (record { name = item.name; value = item.value })) None) (eq-eqb item.pass number mine)
    ∙ (λ i. Some (record { name = named i; value = value i })))

pub stored-among : (start next : View) (stores : List Store) (name : Name) (old new : ℕ) → is_told name ≡ true → KnowsOwn next → next.role ≡ start.role → Tells start next stores → StoresFrom start next name old new
    → IsAmongStores name (known_word start name) old new stores
stored-among start next stores name old new is own role tells from =
    let number = tells.number in
    let later = from.item ∷ from.later in
    let mine : from.item.pass ≡ number = same_Some from.item.pass number (sym from.pass ∙ tells.pass) in
    let told = item-told name number new from.item is from.named from.is mine in
    let split : stores ≡ told_stores number from.since ++ record { name = name; value = new } ∷ told_stores number from.later =
    stores-split start next stores own role tells from.since later from.parts
    ∙ ap (λ (o : Option Store). told_stores number from.since ++ cons_option o (told_stores number from.later)) told
    in
    let was = sym (word-at start next stores own role tells from.since later from.parts name is) ∙ from.was in
    subst (IsAmongStores name (known_word start name) old new) (sym split) (among-split name (known_word start name) old new (told_stores number from.since) (told_stores number from.later) was)
