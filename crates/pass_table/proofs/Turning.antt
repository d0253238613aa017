-- What the step of a turn tells of the turn.
use Rattle.std.specs.Prelude.{IfSome, unwrap_or, option_map, option_and_then, option_to_list}
use Rattle.std.proofs.Common.{◌≡◌, ℕ, List, [], ◌∷◌, ◌++◌, Option, Some, None, refl, ap, sym, ◌∙◌, inr, subst, arith}
use Rattle.std.proofs.lemmas.List.{append-nil}
use Rattle.scene_model.specs.declared.entry.Entry.{Entry}
use Rattle.scene_model.specs.declared.entry.Made.{Made}
use Rattle.word_map.specs.declared.name.Name.{Name}
use Rattle.word_map.specs.declared.name.Name.TheVariants.{Lock, Update}
use Rattle.core_state.specs.declared.item.Item.{Item}
use Rattle.core_state.specs.declared.view.Mode.{Mode}
use Rattle.core_state.specs.declared.view.Mode.TheVariants.{Read, Write}
use Rattle.core_state.specs.declared.view.View.{View}
use Rattle.core_state.specs.Log.{made_by, history}
use Rattle.core_state.specs.Operation.{stored_by}
use Rattle.core_state.specs.View.{IsPass}
use Rattle.core_state.specs.Core.{Core}
use Rattle.core_state.specs.Kind.{Kind, Asking, Step, Steps, item_of, found_by, gained_by, after_step}
use Rattle.core_state.specs.Locking.{MayLoadLock, load_lock, take}
use Rattle.core_state.specs.Looking.{MayLook, look}
use Rattle.core_state.specs.Event.{Event, looks, loads_lock, takes_read, takes_write, of_locks}
use Rattle.pass_table.specs.Stepping.{step_by, Stepped}
use Rattle.pass_table.specs.Knowing.{Looked}
use Rattle.pass_table.specs.Trying.{LoadedLock, MayTake, ExchangedLock}
use Rattle.pass_table.specs.Turning.{AtMostOneStep, MadeBy, GoesOn, IsUnderWay}
use Rattle.pass_table.specs.declared.turn.Turn.{Turn}
use Rattle.pass_table.specs.declared.turn.Turn.TheVariants.{Done, More, Again}

-- the entry that a step makes, with its pass, where it stores this value or none
abbrev pub made_of : Kind → Step → Option ℕ → Option Made
made_of kind step = option_and_then (λ value. made_by (item_of kind step value))

history-stored : (kind : Kind) (step : Step) (stored : Option ℕ) → history (option_to_list (option_map (item_of kind step) stored)) ≡ option_to_list (made_of kind step stored)
history-stored kind step None = refl
history-stored kind step (Some value) = history-entry (kind.entry step.view step.name value)
  where
    history-entry : (entry : Option Entry) → history ((record { pass = step.number; name = step.name; value = value; entry = entry }) ∷ []) ≡ option_to_list (made_by (record { pass = step.number; name = step.name; value = value; entry = entry }))
    history-entry None = refl
    history-entry (Some entry) = refl

stored-by : (kind : Kind) (step : Step) (stored : Option ℕ) → IfSome (option_map (item_of kind step) stored) (λ item. item.pass ≡ step.number)
stored-by kind step None = tt
stored-by kind step (Some value) = refl

module _ (asks : Asking) (kind : Kind) (view next : View) (name : Name) (first second found : ℕ) (stepped : Stepped asks kind view name first second found next) where
  abbrev made : Step
  made = step_by stepped.seat view stepped.number name first second

  -- a turn that made one step of a kind, which is an event of the core
  pub one-step : ((before after : Core) → Steps asks kind before after → Event before after) → AtMostOneStep view next
  one-step event = inr (record {
    kind = kind;
    before = stepped.before;
    step = made;
    since = stepped.since;
    of = refl;
    at = stepped.allowed.at;
    pass = stepped.allowed.pass;
    stands = stepped.stands;
    event = event stepped.before (after_step kind stepped.before made) (record { step = made; allowed = stepped.allowed; result = refl });
    learns = stepped.learns;
    foreign = stepped.foreign;
    leaves = stepped.leaves;
    still_stands = stepped.still_stands;
  })

  -- it made the entry of the item that the step stored
  pub made-by-step : MadeBy view next (made_of kind made (stored_by kind.operation (found_by stepped.before made) first second))
  made-by-step = record {
    number = stepped.number;
    pass = stepped.allowed.pass;
    since = stepped.since;
    own = option_map (item_of kind made) (stored_by kind.operation (found_by stepped.before made) first second);
    parts = ap (λ (v : View). v.known) stepped.leaves ∙ ap (λ (l : List Item). l ++ gained_by kind stepped.before made) stepped.learns;
    foreign = stepped.foreign;
    by_pass = stored-by kind made (stored_by kind.operation (found_by stepped.before made) first second);
    entry = history-stored kind made (stored_by kind.operation (found_by stepped.before made) first second);
  }

  -- so with the number of the pass, and the value that was stored
  pub made-entry : (number value : ℕ) → IsPass view number → stored_by kind.operation found first second ≡ Some value
      → MadeBy view next (option_map (λ entry. record { pass = number; entry = entry }) (kind.entry view name value))
  made-entry number value pass stored =
      subst (λ (n : ℕ). MadeBy view next (option_map (λ entry. record { pass = n; entry = entry }) (kind.entry view name value))) (ap (λ (o : Option ℕ). unwrap_or o 0) (sym stepped.allowed.pass ∙ pass))
      (subst (λ (s : Option ℕ). MadeBy view next (made_of kind made s)) (ap (λ (f : ℕ). stored_by kind.operation f first second) (sym stepped.finds) ∙ stored) made-by-step)

  -- a kind that makes no entry
  pub made-none : ((value : ℕ) → kind.entry view name value ≡ None) → MadeBy view next None
  made-none never = subst (λ (m : Option Made). MadeBy view next m) (none-made (stored_by kind.operation (found_by stepped.before made) first second)) made-by-step
    where
      none-made : (stored : Option ℕ) → made_of kind made stored ≡ None
      none-made None = refl
      none-made (Some value) = ap (option_map (λ (entry : Entry). record { pass = stepped.number; entry = entry })) (never value)

-- what goes on from each beginning goes on
pub goes-on : {T S : Type 0} (under_way : S → View → S → View → Type 0) (turn : Turn T) (before after : S) (view next : View)
    → ((first : S) (start : View) → under_way first start before view → GoesOn turn (under_way first start after next)) → IsUnderWay under_way before view → GoesOn turn (IsUnderWay under_way after next)
goes-on under_way (Done answer) before after view next keeps since = tt
goes-on under_way More before after view next keeps since = record { first = since.first; start = since.start; goes = keeps since.first since.start since.goes }
goes-on under_way (Again lock word) before after view next keeps since = record { first = since.first; start = since.start; goes = keeps since.first since.start since.goes }

-- a turn that made no step made nothing
pub still-made : (view : View) (number : ℕ) → IsPass view number → MadeBy view view None
still-made view number pass = record {
  number = number;
  pass = pass;
  since = [];
  own = None;
  parts = sym (append-nil (view.known ++ []) ∙ append-nil view.known);
  foreign = λ k item below. omega arith;
  by_pass = tt;
  entry = refl;
}

pub looked-step : (view next : View) → Looked view next → AtMostOneStep view next
looked-step view next looked = one-step MayLook look view next Update 0 0 looked.found looked.step (λ before after steps. looks steps)

-- ---- the turns that take a lock

pub loaded-step : (view next : View) (lock found : ℕ) → LoadedLock view next lock found → AtMostOneStep view next
loaded-step view next lock found step = one-step MayLoadLock load_lock view next (Lock lock) 0 0 found step (λ before after steps. of_locks (loads_lock steps))

-- it makes no entry
pub loaded-made : (view next : View) (lock found : ℕ) → LoadedLock view next lock found → MadeBy view next None
loaded-made view next lock found step = made-by-step MayLoadLock load_lock view next (Lock lock) 0 0 found step

pub exchanged-step : (view next : View) (lock : ℕ) (mode : Mode) (expected found : ℕ) → ExchangedLock view next lock mode expected found → AtMostOneStep view next
exchanged-step view next lock Read expected found made = one-step (MayTake Read) (take Read) view next (Lock lock) expected made.put found made.step (λ before after steps. of_locks (takes_read steps))
exchanged-step view next lock Write expected found made = one-step (MayTake Write) (take Write) view next (Lock lock) expected made.put found made.step (λ before after steps. of_locks (takes_write steps))

pub exchanged-made : (view next : View) (lock : ℕ) (mode : Mode) (expected found : ℕ) → ExchangedLock view next lock mode expected found → MadeBy view next None
exchanged-made view next lock mode expected found made = made-none (MayTake mode) (take mode) view next (Lock lock) expected made.put found made.step (λ value. refl)
