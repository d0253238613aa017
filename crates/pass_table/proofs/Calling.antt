-- How a call of several steps goes on.
use Rattle.std.specs.Prelude.{All, IfSome, option_map, option_to_list}
use Rattle.std.proofs.Common.{◌≡◌, ◌≢◌, ℕ, suc, ◌+◌, ◌<◌, List, [], ◌∷◌, ◌++◌, Bool, false, Option, Some, None, cond, get_or, take, drop, append_assoc, inl, inr, refl, ap, sym, ◌∙◌, subst, arith}
use Rattle.std.specs.List.{cons_option}
use Rattle.std.proofs.lemmas.Bool.{eq-eqb, ne_eqb}
use Rattle.std.proofs.lemmas.Option.{same_Some}
use Rattle.std.proofs.lemmas.List.{append-nil}
use Rattle.std.proofs.lemmas.List.Elements.{All-head, All-tail, All-nil, All-cons, filter_map-append}
use Rattle.scene_model.specs.declared.entry.Entry.{Entry}
use Rattle.scene_model.specs.declared.entry.Made.{Made}
use Rattle.word_map.specs.declared.config.Config.{Config}
use Rattle.word_map.specs.declared.name.Name.{Name}
use Rattle.word_map.specs.declared.name.Name.TheVariants.{Lock}
use Rattle.scene_model.specs.History.{scene_after, IsLawfulHistory}
use Rattle.core_state.specs.declared.item.Item.{Item}
use Rattle.core_state.specs.declared.view.LockStep.{LockStep}
use Rattle.core_state.specs.declared.view.LockStep.TheVariants.{Released}
use Rattle.core_state.specs.declared.view.Task.TheVariants.{Nothing}
use Rattle.core_state.specs.declared.view.Call.{Call}
use Rattle.core_state.specs.declared.view.View.{View}
use Rattle.core_state.specs.Log.{word, history, IsPrefix}
use Rattle.core_state.specs.View.{number_in, IsPass, known_word, no_call}
use Rattle.core_state.specs.Locking.{MayRelease, release}
use Rattle.core_state.specs.Event.{releases, of_locks}
use Rattle.core_state.specs.Core.{word_of, scene_of}
use Rattle.core_state.specs.Guards.{scene_at}
use Rattle.core_state.specs.Operation.{Operation, store, stores, stored_by}
use Rattle.core_state.specs.Kind.{Kind, Asking, Step, learned, found_by, item_of, gained_by, log_after}
use Rattle.core_state.specs.Quietly.{IsSteady}
use Rattle.core_state.proofs.Quiet.{cut_at, steady-since, quiet-word}
use Rattle.core_state.proofs.Forming.{unspent_pass}
use Rattle.core_state.proofs.Reading.{word-stored, word-other}
use Rattle.core_state.proofs.Steps.{gained-unstored}
use Rattle.pass_table.specs.Stepping.{step_by, Stepped, Stored}
use Rattle.pass_table.specs.Knowing.{KnowsMore}
use Rattle.pass_table.specs.Turning.{AtMostOneStep, MadeBy, Turned}
use Rattle.pass_table.specs.declared.turn.Turn.TheVariants.{More, Again}
use Rattle.pass_table.specs.declared.take_op.TakeOp.{TakeOp}
use Rattle.pass_table.specs.Holding.{LetGo}
use Rattle.pass_table.specs.TakeTurns.{turns_after, turns_left, more-quiet}
use Rattle.pass_table.specs.Calls.{own_entry, own_entries, Adds, AtPoint, MakesAt, Advances, StoresWord}
use Rattle.pass_table.proofs.Knowing.{came-others}
use Rattle.pass_table.proofs.Turning.{one-step, made-entry}

-- ---- entries

-- others' items have none of the pass's entries
pub foreign-none : (number : ℕ) (items : List Item) → All (λ item. item.pass ≢ number) items → own_entries number items ≡ []
foreign-none number [] h = refl
foreign-none number (item ∷ items) h =
    let P : Item → Type 0 = λ i. i.pass ≢ number in
    (λ i. cons_option (cond (ne_eqb item.pass number (All-head P item items h) i) item.entry None) (foreign-none number items (All-tail P item items h) i))

abbrev made_of : ℕ → Entry → Made
made_of number entry = record { pass = number; entry = entry }

-- an own item has the entry that it made
entry-made : (number : ℕ) (entry : Option Entry) (made : Option Made) → cons_option (option_map (made_of number) entry) [] ≡ option_to_list made
    → cons_option entry [] ≡ option_to_list (option_map (λ (m : Made). m.entry) made)
entry-made number None None same = refl
entry-made number None (Some made) same = absurd cc
entry-made number (Some entry) None same = absurd cc
entry-made number (Some entry) (Some made) same = ap (λ (l : List Made). (get_or l 0 made).entry ∷ []) same

own-made : (number : ℕ) (own : Option Item) (made : Option Made) → IfSome own (λ item. item.pass ≡ number) → history (option_to_list own) ≡ option_to_list made
    → own_entries number (option_to_list own) ≡ option_to_list (option_map (λ (m : Made). m.entry) made)
own-made number None None mine same = refl
own-made number None (Some made) mine same = absurd cc
own-made number (Some item) made mine same = ap (λ (t : Bool). cons_option (cond t item.entry None) []) (eq-eqb item.pass number mine) ∙ entry-made item.pass item.entry made same

pub Adds-refl : (view : View) (number : ℕ) → IsPass view number → Adds view view []
Adds-refl view number pass = record { number = number; pass = pass; since = []; known = sym (append-nil view.known); own = refl }

-- one part more
adds-on : (start view next : View) (entries more : List Entry) (adds : Adds start view entries) (since : List Item) → next.known ≡ view.known ++ since → own_entries adds.number since ≡ more
    → Adds start next (entries ++ more)
adds-on start view next entries more adds since known own = record {
  number = adds.number;
  pass = adds.pass;
  since = adds.since ++ since;
  known = known ∙ (ap (λ (l : List Item). l ++ since) adds.known ∙ append_assoc start.known adds.since since);
  own = filter_map-append (own_entry adds.number) adds.since since ∙ (λ i. adds.own i ++ own i);
}

-- the pass has its number
same_number : (start view : View) (number other : ℕ) → IsPass start number → view.role ≡ start.role → IsPass view other → other ≡ number
same_number start view number other pass role is = same_Some other number (sym is ∙ (ap number_in role ∙ pass))

-- a turn adds the entry that it made
pub adds-made : (start view next : View) (entries : List Entry) (made : Option Made) → view.role ≡ start.role → Adds start view entries → MadeBy view next made
    → Adds start next (entries ++ option_to_list (option_map (λ (m : Made). m.entry) made))
adds-made start view next entries made role adds by =
    let number : by.number ≡ adds.number = same_number start view adds.number by.number adds.pass role by.pass in
    let foreign : All (λ (item : Item). item.pass ≢ adds.number) by.since = subst (λ (n : ℕ). All (λ (item : Item). item.pass ≢ n) by.since) number by.foreign in
    let mine : IfSome by.own (λ (item : Item). item.pass ≡ adds.number) = subst (λ (n : ℕ). IfSome by.own (λ (item : Item). item.pass ≡ n)) number by.by_pass in
    let own : own_entries adds.number (by.since ++ option_to_list by.own) ≡ option_to_list (option_map (λ (m : Made). m.entry) made) =
    filter_map-append (own_entry adds.number) by.since (option_to_list by.own)
    ∙ (λ i. foreign-none adds.number by.since foreign i ++ own-made adds.number by.own made mine by.entry i)
    in
    adds-on start view next entries (option_to_list (option_map (λ (m : Made). m.entry) made)) adds (by.since ++ option_to_list by.own) (by.parts ∙ append_assoc view.known by.since (option_to_list by.own)) own

pub adds-none : (start view next : View) (entries : List Entry) → view.role ≡ start.role → Adds start view entries → MadeBy view next None → Adds start next entries
adds-none start view next entries role adds by = subst (Adds start next) (append-nil entries) (adds-made start view next entries None role adds by)

-- what others stored adds none
pub more-foreign : (view next : View) (number : ℕ) (more : KnowsMore view next) → IsPass view number → All (λ (item : Item). item.pass ≢ number) more.since
more-foreign view next number more pass = λ k d below same.
    (more.others (take k more.since) (drop (suc k) more.since) (get_or more.since k d) (cut_at more.since k d below)).foreign (pass ∙ ap Some (sym same))

pub adds-more : (start view next : View) (entries : List Entry) → view.role ≡ start.role → Adds start view entries → KnowsMore view next → Adds start next entries
adds-more start view next entries role adds more =
    let none = foreign-none adds.number more.since (more-foreign view next adds.number more (ap number_in role ∙ adds.pass)) in
    subst (Adds start next) (append-nil entries) (adds-on start view next entries [] adds more.since more.known none)

-- ---- points

-- a point of a call stays one
pub point-later : (start view next : View) (fact : List Item → Type 0) → IsPrefix view.known next.known → AtPoint start view fact → AtPoint start next fact
point-later start view next fact later point = record {
  since = point.since;
  later = point.later ++ later.0;
  parts = later.1 ∙ (ap (λ (l : List Item). l ++ later.0) point.parts ∙ append_assoc (start.known ++ point.since) point.later later.0);
  holds = point.holds;
}

-- and so does an entry that was made
pub makes-later : (start view next : View) (entry : Entry) (fact : List Item → Type 0) → IsPrefix view.known next.known → MakesAt start view entry fact → MakesAt start next entry fact
makes-later start view next entry fact later at = record {
  since = at.since;
  item = at.item;
  later = at.later ++ later.0;
  parts = later.1 ∙ (ap (λ (l : List Item). l ++ later.0) at.parts ∙ append_assoc (start.known ++ at.since) (at.item ∷ at.later) later.0);
  pass = at.pass;
  makes = at.makes;
  holds = at.holds;
}

-- what is known now is a point
pub point-now : (start view : View) (entries : List Entry) (fact : List Item → Type 0) → Adds start view entries → fact view.known → AtPoint start view fact
point-now start view entries fact adds holds = record {
  since = adds.since;
  later = [];
  parts = adds.known ∙ sym (append-nil (start.known ++ adds.since));
  holds = subst fact adds.known holds;
}

-- ---- words

-- a word that others leave stands while the pass stores none
pub steady-more : (view next : View) (name : Name) → KnowsMore view next → IsSteady view name → known_word next name ≡ known_word view name
steady-more view next name more steady = quiet-word view next name (more-quiet view next more) (ap (λ (v : View). v.config) more.rest) steady

module _ (view next : View) (item : Item) (advances : Advances view next (item ∷ [])) (sizes : next.config ≡ view.config) (name : Name) where
  -- the word that the pass stored
  pub stored-word : item.name ≡ name → known_word next name ≡ item.value
  stored-word same = (λ i. word (sizes i) (advances.known i) name) ∙ word-stored view.config (view.known ++ advances.since) item name same

  -- and another one that others leave
  pub stored-steady : item.name ≢ name → IsSteady view name → known_word next name ≡ known_word view name
  stored-steady other steady =
      (λ i. word (sizes i) (advances.known i) name)
      ∙ (word-other view.config (view.known ++ advances.since) item name other
      ∙ steady-since view advances.since name (λ early later it parts. (advances.others early later it parts).quiet) steady)

-- ---- steps

module _ (asks : Asking) (kind : Kind) (view next : View) (name : Name) (first second found : ℕ) (stepped : Stepped asks kind view name first second found next) where
  abbrev made : Step
  made = step_by stepped.seat view stepped.number name first second

  pub stepped-sizes : view.config ≡ stepped.before.config
  stepped-sizes = (stepped.stands.formed.views stepped.seat view stepped.allowed.at (unspent_pass view.role stepped.number stepped.allowed.pass)).config

  -- what the pass then knows
  pub stepped-known : next.known ≡ stepped.before.log ++ gained_by kind stepped.before made
  stepped-known = ap (λ (v : View). v.known) stepped.leaves

  -- at its moment a word that others leave is the one that was known
  pub steady-now : (word_name : Name) → IsSteady view word_name → word_of stepped.before word_name ≡ known_word view word_name
  steady-now word_name steady =
      (λ i. word (sym stepped-sizes i) (stepped.learns i) word_name)
      ∙ steady-since view stepped.since word_name (λ early later item parts. (came-others asks kind view next name first second found stepped early later item parts).quiet) steady

  -- a step that stored this item
  pub stepped-stores : (item : Item) → gained_by kind stepped.before made ≡ item ∷ [] → item.pass ≡ stepped.number → Advances view next (item ∷ [])
  stepped-stores item gained by = record {
    since = stepped.since;
    known = stepped-known ∙ (λ i. stepped.learns i ++ gained i);
    others = came-others asks kind view next name first second found stepped;
    mine = mine;
  }
    where
      mine : All (λ (i : Item). IsPass view i.pass) (item ∷ [])
      mine = All-cons (λ (i : Item). IsPass view i.pass) item [] (stepped.allowed.pass ∙ ap Some (sym by)) (All-nil (λ (i : Item). IsPass view i.pass))

  -- what it leaves of the view
  pub stepped-left : (locks : List LockStep) (call : Call) → kind.leaves (learned stepped.before made) name (found_by stepped.before made) first second ≡ record (learned stepped.before made) { locks = locks; call = call }
      → next ≡ record view { known = next.known; joined = next.joined; locks = locks; call = call }
  stepped-left locks call leaves =
      stepped.leaves
      ∙ (ap (λ (v : View). record v { config = view.config; role = view.role; known = log_after kind stepped.before made; joined = None }) leaves
      ∙ (λ i. record view { known = sym (ap (λ (v : View). v.known) stepped.leaves) i; joined = sym (ap (λ (v : View). v.joined) stepped.leaves) i; locks = locks; call = call }))

-- a load: the word found is the one that is known then
module _ (asks : Asking) (kind : Kind) (view next : View) (name : Name) (first second found : ℕ) (stepped : Stepped asks kind view name first second found next)
    (loads : (word operand : ℕ) → stores kind.operation word operand ≡ false) where
  pub loaded-all : next.known ≡ stepped.before.log
  loaded-all =
      stepped-known asks kind view next name first second found stepped
      ∙ (ap (λ (l : List Item). stepped.before.log ++ l) (gained-unstored kind stepped.before (step_by stepped.seat view stepped.number name first second) (loads (found_by stepped.before (step_by stepped.seat view stepped.number name first second)) first))
      ∙ append-nil stepped.before.log)

  pub loaded-word : known_word next name ≡ found
  loaded-word =
      (λ i. word ((ap (λ (v : View). v.config) stepped.leaves ∙ stepped-sizes asks kind view next name first second found stepped) i) (loaded-all i) name) ∙ sym stepped.finds

  -- and the scene is the one that is known then
  pub loaded-scene : scene_at next.config next.known ≡ scene_of stepped.before
  loaded-scene = λ i. scene_after ((ap (λ (v : View). v.config) stepped.leaves ∙ stepped-sizes asks kind view next name first second found stepped) i).bodies (history (loaded-all i))

-- a store: the value is the word that is known then
module _ (asks : Asking) (kind : Kind) (view next : View) (name : Name) (value : ℕ) (does : kind.operation ≡ store) (stored : Stored asks kind view name value next) where
  abbrev pub stored_step : Step
  stored_step = step_by stored.1.seat view stored.1.number name value 0

  pub stored-gained : gained_by kind stored.1.before stored_step ≡ item_of kind stored_step value ∷ []
  stored-gained = ap (λ (o : Operation). option_to_list (option_map (item_of kind stored_step) (stored_by o (found_by stored.1.before stored_step) value 0))) does

  pub stores-word : StoresWord view next name value
  stores-word = record {
    item = item_of kind stored_step value;
    named = refl;
    is = refl;
    advances = stepped-stores asks kind view next name value 0 stored.0 stored.1 (item_of kind stored_step value) stored-gained refl;
  }

  -- and the turn made its entry
  pub stored-made : (number : ℕ) → IsPass view number → MadeBy view next (option_map (λ entry. record { pass = number; entry = entry }) (kind.entry view name value))
  stored-made number pass = made-entry asks kind view next name value 0 stored.0 stored.1 number value pass (ap (λ (o : Operation). stored_by o stored.0 value 0) does)

-- what stores of words leave of other words
module _ (view next : View) (name : Name) (value : ℕ) (stores_word : StoresWord view next name value) (sizes : next.config ≡ view.config) where
  pub word-now : known_word next name ≡ value
  word-now = stored-word view next stores_word.item stores_word.advances sizes name stores_word.named ∙ stores_word.is

  pub word-beside : (other : Name) → name ≢ other → IsSteady view other → known_word next other ≡ known_word view other
  word-beside other apart steady = stored-steady view next stores_word.item stores_word.advances sizes other (λ same. apart (sym stores_word.named ∙ same)) steady

-- ---- letting a lock go

module _ (view next : View) (lock found : ℕ) (go : LetGo view lock found next) where
  pub released-step : AtMostOneStep view next
  released-step = one-step MayRelease release view next (Lock lock) go.0 0 found go.1 (λ before after steps. of_locks (releases steps))

  pub released-made : (number : ℕ) → IsPass view number → MadeBy view next None
  released-made number pass = made-entry MayRelease release view next (Lock lock) go.0 0 found go.1 number _ pass refl

  pub released-left : next ≡ record view { known = next.known; joined = next.joined; locks = view.locks ++ Released lock ∷ []; call = next.call }
  released-left =
      stepped-left MayRelease release view next (Lock lock) go.0 0 found go.1 (view.locks ++ Released lock ∷ []) no_call refl
      ∙ (λ i. record view { known = next.known; joined = next.joined; locks = view.locks ++ Released lock ∷ []; call = sym (ap (λ (v : View). v.call) go.1.leaves) i })

  pub released-task : next.call.task ≡ Nothing
  released-task = ap (λ (v : View). v.call.task) go.1.leaves

  -- the history that is known then is lawful
  pub released-lawful : IsLawfulHistory next.config.layers next.config.bodies (history next.known)
  released-lawful =
      let sizes : next.config ≡ go.1.before.config = ap (λ (v : View). v.config) go.1.leaves ∙ stepped-sizes MayRelease release view next (Lock lock) go.0 0 found go.1 in
      let past = ap (λ (v : View). history v.known) go.1.leaves in
      subst (λ (c : Config). IsLawfulHistory c.layers c.bodies (history next.known)) (sym sizes)
      (subst (λ (l : List Made). IsLawfulHistory go.1.before.config.layers go.1.before.config.bodies l) (sym past) go.1.still_stands.laws.bodies.lawful)

-- ---- taking a lock

-- how far such turns come, with so many more to make afterwards
pub turned-more : (T U : Type 0) (more : ℕ) (view next : View) (takes : Option TakeOp) (before after : ℕ) → Turned {T = T} More view next takes before after
    → Turned {T = U} More view next takes (more + before) (more + after)
turned-more T U more view next takes before after (inl less) = inl (omega arith)
turned-more T U more view next takes before after (inr lost) = let one = lost.0 in inr (omega arith, lost.1)

pub turned-again : (T U : Type 0) (more : ℕ) (view next : View) (takes : Option TakeOp) (before after lock found : ℕ) → Turned {T = T} (Again lock found) view next takes before after
    → Turned {T = U} (Again lock found) view next takes (more + before) (more + after)
turned-again T U more view next takes before after lock found turned = (ap (λ (n : ℕ). more + n) turned.0, turned.1)

-- at least one turn is left
pub some-left : (operation : TakeOp) → 0 < turns_left operation
some-left operation = go operation.loaded
  where
    go : (o : Option ℕ) → 0 < turns_after o
    go None = omega arith
    go (Some word) = omega arith
