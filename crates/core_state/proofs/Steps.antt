-- What a step changes: one word, one view, and the log by one item at most.
use Rattle.std.proofs.Common.{◌≡◌, ◌≢◌, ℕ, List, [], ◌∷◌, Bool, true, false, cond, Some, None, set, refl, ap, sym, ◌∙◌, subst}
use Rattle.std.specs.Prelude.{option_map, option_to_list, slice_set}
use Rattle.std.proofs.lemmas.Bool.{false≢true}
use Rattle.std.proofs.lemmas.List.{append-nil, set-get_or}
use Rattle.word_map.specs.declared.name.Name.{Name}
use Rattle.word_map.specs.Names.{IsName}
use Rattle.word_map.specs.Layout.{place_of}
use Rattle.core_state.specs.declared.item.Item.{Item}
use Rattle.core_state.specs.declared.view.View.{View}
use Rattle.core_state.specs.Log.{word, words, IsPrefix}
use Rattle.core_state.specs.Core.{Core, word_of, IsViewAt}
use Rattle.core_state.specs.Operation.{Operation, load, store, exchange, compare_exchange, fetch_add, fetch_min, fetch_max, stores, result_of}
use Rattle.core_state.specs.Kind.{Kind, Asking, Step, Steps, found_by, left_by, item_of, gained_by, log_after, view_after, after_step}
use Rattle.core_state.specs.Seats.{Joins, after_split, joined_view, spent_view}
use Rattle.core_state.specs.Event.{Event, Run, begins, goes_on, ChangesOne}
use Rattle.core_state.proofs.Cases.{event-case}
use Rattle.core_state.proofs.Lookups.{at_bound, at_one, at_longer, set_here, set_else}
use Rattle.core_state.proofs.Prefixes.{IsPrefix-refl, IsPrefix-trans}
use Rattle.core_state.proofs.Reading.{word-stored, word-other, words-push, words-named}

-- an operation that stores nothing leaves the word as it was
result-unstored : (operation : Operation) (found first second : ℕ) → stores operation found first ≡ false → result_of operation found first second ≡ found
result-unstored load found first second none = refl
result-unstored compare_exchange found first second none = rw none refl
result-unstored store found first second none = absurd (false≢true (sym none))
result-unstored exchange found first second none = absurd (false≢true (sym none))
result-unstored fetch_add found first second none = absurd (false≢true (sym none))
result-unstored fetch_min found first second none = absurd (false≢true (sym none))
result-unstored fetch_max found first second none = absurd (false≢true (sym none))

-- a step that stores nothing gains nothing
pub gained-unstored : (kind : Kind) (core : Core) (step : Step) → stores kind.operation (found_by core step) step.first ≡ false → gained_by kind core step ≡ []
gained-unstored kind core step none =
    ap (λ (t : Bool). option_to_list (option_map (item_of kind step) (cond t (Some (left_by kind core step)) None))) none

-- a step gains nothing, and leaves its word, or gains its item
pub data Gains (kind : Kind) (core : Core) (step : Step) : Type 0 where
  nothing : gained_by kind core step ≡ [] → left_by kind core step ≡ found_by core step → Gains kind core step
  its_item : stores kind.operation (found_by core step) step.first ≡ true → gained_by kind core step ≡ item_of kind step (left_by kind core step) ∷ []
      → Gains kind core step

pub gains : (kind : Kind) (core : Core) (step : Step) → Gains kind core step
gains kind core step = go (stores kind.operation (found_by core step) step.first) refl
  where
    left : ℕ
    left = left_by kind core step

    gained : Bool → List Item
    gained test = option_to_list (option_map (item_of kind step) (cond test (Some left) None))

    go : (test : Bool) → stores kind.operation (found_by core step) step.first ≡ test → Gains kind core step
    go true e = its_item e (ap (λ (t : Bool). option_to_list (option_map (item_of kind step) (cond t (Some (left_by kind core step)) None))) e)
    go false e = nothing (gained-unstored kind core step e) (result-unstored kind.operation (found_by core step) step.first step.second e)

module _ (kind : Kind) (core : Core) (step : Step) where
  -- its word is then what it left there
  pub word-step : word core.config (log_after kind core step) step.name ≡ left_by kind core step
  word-step =
      elim (gains kind core step) [
        | nothing e f ↦ rw e (ap (λ (l : List Item). word core.config l step.name) (append-nil core.log) ∙ sym f)
        | its_item t e ↦ rw e (word-stored core.config core.log (item_of kind step (left_by kind core step)) step.name refl)
      ]

  -- and all other words are as before
  pub word-step-other : (name : Name) → name ≢ step.name → word core.config (log_after kind core step) name ≡ word_of core name
  word-step-other name other =
      elim (gains kind core step) [
        | nothing e f ↦ rw e (ap (λ (l : List Item). word core.config l name) (append-nil core.log))
        | its_item t e ↦ rw e (word-other core.config core.log (item_of kind step (left_by kind core step)) name (λ same. other (sym same)))
      ]

  -- a step that stores nothing leaves them all
  pub word-step-unstored : stores kind.operation (found_by core step) step.first ≡ false → (name : Name) → word core.config (log_after kind core step) name ≡ word_of core name
  word-step-unstored none name = rw (gained-unstored kind core step none) (ap (λ (l : List Item). word core.config l name) (append-nil core.log))

  -- so in the table one place changes
  pub words-step : IsName core.config step.name → words core.config (log_after kind core step) ≡ slice_set (words core.config core.log) (place_of core.config step.name) (left_by kind core step)
  words-step named =
      elim (gains kind core step) [
        | nothing e f ↦
            let reads = words-named core.config core.log step.name 0 named in
            rw e (ap (words core.config) (append-nil core.log) ∙
            (sym (set-get_or (words core.config core.log) (place_of core.config step.name) 0) ∙
            ap (λ (value : ℕ). slice_set (words core.config core.log) (place_of core.config step.name) value) (reads ∙ sym f)))
        | its_item t e ↦ rw e (words-push core.config core.log (item_of kind step (left_by kind core step)) named)
      ]

  -- the stepping pass then knows the whole log
  pub view-step : IsViewAt core step.seat step.view → IsViewAt (after_step kind core step) step.seat (view_after kind core step)
  view-step at = set_here core.views step.seat (view_after kind core step) (at_bound core.views step.seat step.view at)

  -- and the other seats have their views
  pub view-step-other : (seat : ℕ) (view : View) → seat ≢ step.seat → IsViewAt core seat view → IsViewAt (after_step kind core step) seat view
  view-step-other seat view other at = set_else core.views step.seat seat (view_after kind core step) other ∙ at

-- ---- the log only grows

steps-prefix : (asks : Asking) (kind : Kind) (before after : Core) → Steps asks kind before after → IsPrefix before.log after.log
steps-prefix asks kind before after steps =
    subst (λ (c : Core). IsPrefix before.log c.log) (sym steps.result) (gained_by kind before steps.step, refl)

same-prefix : (before after : Core) → after.log ≡ before.log → IsPrefix before.log after.log
same-prefix before after same = subst (IsPrefix before.log) (sym same) (IsPrefix-refl before.log)

pub event-prefix : (before after : Core) → Event before after → IsPrefix before.log after.log
event-prefix before after event =
    event-case before after (λ e. same-prefix before after (ap (λ (c : Core). c.log) e.result)) (λ e. same-prefix before after (ap (λ (c : Core). c.log) e.result)) (λ e. same-prefix before after (ap (λ (c : Core). c.log) e.result))
    (λ asks kind e. steps-prefix asks kind before after e) event

pub run-prefix : (first last : Core) → Run first last → IsPrefix first.log last.log
run-prefix first last begins = IsPrefix-refl first.log
run-prefix first last (goes_on {last = middle} run event) =
    IsPrefix-trans first.log middle.log last.log (run-prefix first middle run) (event-prefix middle last event)

-- ---- of the passes, an event changes the view of one at most

steps-one : (asks : Asking) (kind : Kind) (before after : Core) → Steps asks kind before after → ChangesOne before after
steps-one asks kind before after steps = record {
  seat = steps.step.seat;
  others = λ other view ne at passes. subst (λ (c : Core). IsViewAt c other view) (sym steps.result) (view-step-other kind before steps.step other view ne at);
}

split-one : (before after : Core) (seat : ℕ) (left right : View) → after ≡ after_split before seat left right → ChangesOne before after
split-one before after seat left right result = record {
  seat = seat;
  others = λ other view ne at passes.
      subst (λ (c : Core). IsViewAt c other view) (sym result)
      (at_longer (set before.views seat left) (right ∷ []) other view (set_else before.views seat other left ne ∙ at));
}

joins-one : (before after : Core) → Joins before after → ChangesOne before after
joins-one before after joins = record {
  seat = joins.seat;
  others = λ other view ne at passes.
      let joined = joined_view joins.view joins.visitor in
      let apart : other ≢ joins.other = λ same. passes (ap (λ (v : View). v.role) (at_one before.views joins.other view joins.visitor (subst (λ (s : ℕ). IsViewAt before s view) same at) joins.other_at) ∙ joins.visits) in
      subst (λ (c : Core). IsViewAt c other view) (sym joins.result)
      (set_else (set before.views joins.seat joined) joins.other other spent_view apart ∙ (set_else before.views joins.seat other joined ne ∙ at));
}

pub event-one : (before after : Core) → Event before after → ChangesOne before after
event-one before after event =
    event-case before after (λ e. split-one before after e.seat _ _ e.result) (λ e. split-one before after e.seat _ _ e.result) (λ e. joins-one before after e) (λ asks kind e. steps-one asks kind before after e) event
