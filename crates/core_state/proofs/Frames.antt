-- A law that sees the same holds as before.
use Rattle.std.proofs.Common.{◌≡◌, ◌≢◌, ℕ, zero, suc, List, [], ◌∷◌, ◌++◌, Bool, true, false, cond, Option, Some, None, set, refl, ap, sym, ◌∙◌, subst}
use Rattle.std.specs.Prelude.{IsTrue, filter_map, option_map}
use Rattle.std.proofs.lemmas.Bool.{false≢true}
use Rattle.std.proofs.lemmas.List.{append-nil}
use Rattle.std.proofs.lemmas.List.Elements.{filter_map-append}
use mathlib.Core.Option.{some, some-injective}
use lib.ListN.{get_elem?}
use Rattle.scene_model.specs.declared.entry.Made.{Made}
use Rattle.word_map.specs.declared.name.Name.{Name}
use Rattle.core_state.specs.declared.item.Item.{Item}
use Rattle.core_state.specs.declared.view.Role.{Role}
use Rattle.core_state.specs.declared.view.View.{View}
use Rattle.core_state.specs.Log.{word, history, made_by}
use Rattle.core_state.specs.View.{number_in, number_of, IsPass}
use Rattle.core_state.specs.Core.{Core, word_of, IsViewAt}
use Rattle.core_state.specs.Operation.{stores}
use Rattle.core_state.specs.Kind.{Kind, Step, found_by, left_by, gained_by, log_after, view_after, after_step}
use Rattle.core_state.specs.Seats.{Visits, Joins, after_split, visitor_of, joined_view, spent_view}
use Rattle.core_state.specs.Frame.{IsOutside, ReadsNoLog}
use Rattle.core_state.specs.Scope.{Scope, Sight, sight, part_of, bare_view, IsSameTo}
use Rattle.core_state.proofs.Steps.{gains, nothing, its_item, gained-unstored, word-step-other}
use Rattle.core_state.proofs.Lookups.{set_else}

-- what is hidden is the same, and so is what is the same where it is seen
pub same_cond : {A : Type 0} (test : Bool) (x y d : A) → (IsTrue test → x ≡ y) → cond test x d ≡ cond test y d
same_cond true x y d same = same refl
same_cond false x y d same = refl

pub sight-same : (scope : Scope) (a b : Core) → IsSameTo scope a b → sight scope a ≡ sight scope b
sight-same scope a b same = λ i. record {
  config = same.config i;
  word = λ name. same_cond (scope.names name) (word_of a name) (word_of b name) 0 (same.words name) i;
  history = same_cond scope.reads_history (history a.log) (history b.log) [] same.history i;
  passes = same.passes i;
}

-- the frame law, of every law at once
pub frame : (scope : Scope) (Law : Sight → Type 0) (a b : Core) → IsSameTo scope a b → Law (sight scope a) → Law (sight scope b)
frame scope Law a b same h = subst Law (sight-same scope a b same) h

-- ---- steps that a law does not see

-- what a function keeps of a list stays where an element is changed to one of which it keeps the same
pub filter_map-set : {X Y : Type 0} (f : X → Option Y) (xs : List X) (i : ℕ) (x y : X) → get_elem? xs i ≡ some x → f y ≡ f x → filter_map f (set xs i y) ≡ filter_map f xs
filter_map-set f [] i x y at same = refl
filter_map-set {Y = Y} f (z ∷ xs) zero x y at same =
    let value : f y ≡ f z = same ∙ ap f (sym (some-injective z x at)) in
    rw value refl
filter_map-set f (z ∷ xs) (suc i) x y at same = rw (filter_map-set f xs i x y at same) refl

-- what a step makes for the history
made-gained : (kind : Kind) (core : Core) (step : Step) → ((value : ℕ) → kind.entry step.view step.name value ≡ None) → history (gained_by kind core step) ≡ []
made-gained kind core step none =
    elim (gains kind core step) [
      | nothing e f ↦ rw e refl
      | its_item t e ↦ rw (e, none (left_by kind core step)) refl
    ]

pub step-history : (kind : Kind) (core : Core) (step : Step) → ((value : ℕ) → kind.entry step.view step.name value ≡ None) → history (log_after kind core step) ≡ history core.log
step-history kind core step none =
    filter_map-append made_by core.log (gained_by kind core step) ∙
    (ap (λ (l : List Made). history core.log ++ l) (made-gained kind core step none) ∙ append-nil (history core.log))

-- a name that a law speaks of is as before
outside-word : (scope : Scope) (kind : Kind) (core : Core) (step : Step) (name : Name) → IsOutside scope kind core step → IsTrue (scope.names name)
    → word_of core name ≡ word_of (after_step kind core step) name
outside-word scope kind core step name outside speaks = go (stores kind.operation (found_by core step) step.first) refl
  where
    go : (test : Bool) → stores kind.operation (found_by core step) step.first ≡ test → word_of core name ≡ word_of (after_step kind core step) name
    go true e =
        let apart : name ≢ step.name = λ same. false≢true (sym (outside.name e) ∙ (ap scope.names (sym same) ∙ speaks)) in
        sym (word-step-other kind core step name apart)
    go false e = rw (gained-unstored kind core step e) (ap (λ (l : List Item). word core.config l name) (sym (append-nil core.log)))

-- what is seen of the stepping view is as before
part-same : (scope : Scope) (view after : View) (number : ℕ) → number_of view ≡ Some number → number_of after ≡ Some number
    → scope.part (bare_view number) after ≡ scope.part (bare_view number) view → part_of scope after ≡ part_of scope view
part-same scope view after number pass still same = rw (pass, still) (ap Some same)

pub passes-same : (scope : Scope) (kind : Kind) (core : Core) (step : Step) → IsViewAt core step.seat step.view → IsPass step.view step.number
    → scope.part (bare_view step.number) (view_after kind core step) ≡ scope.part (bare_view step.number) step.view
    → filter_map (part_of scope) (after_step kind core step).views ≡ filter_map (part_of scope) core.views
passes-same scope kind core step at pass same =
    filter_map-set (part_of scope) core.views step.seat step.view (view_after kind core step) at (part-same scope step.view (view_after kind core step) step.number pass pass same)

-- a step outside of a scope leaves all that is seen in it
pub step-same : (scope : Scope) (kind : Kind) (core : Core) (step : Step) → IsViewAt core step.seat step.view → IsPass step.view step.number
    → IsOutside scope kind core step → IsSameTo scope core (after_step kind core step)
step-same scope kind core step at pass outside = record {
  config = refl;
  words = λ name speaks. outside-word scope kind core step name outside speaks;
  history = λ reads. sym (step-history kind core step (outside.entry reads));
  passes = sym (passes-same scope kind core step at pass outside.part);
}

-- ---- seats

-- a visitor is not seen, nor what a pass knows
pub visits-same : (scope : Scope) (before after : Core) → Visits before after → IsSameTo scope before after
visits-same scope before after visits =
    let views : List View = set before.views visits.seat visits.view in
    let proof : IsSameTo scope before (after_split before visits.seat visits.view (visitor_of visits.view)) = record {
      config = refl;
      words = λ name speaks. refl;
      history = λ reads. refl;
      passes = sym (filter_map-append (part_of scope) views (visitor_of visits.view ∷ []) ∙
          (append-nil (filter_map (part_of scope) views) ∙
          filter_map-set (part_of scope) before.views visits.seat visits.view visits.view visits.at refl));
    } in
    subst (IsSameTo scope before) (sym visits.result) proof

pub joins-same : (scope : Scope) (before after : Core) → ReadsNoLog scope → Joins before after → IsSameTo scope before after
joins-same scope before after reads joins =
    let joined = joined_view joins.view joins.visitor in
    let one : List View = set before.views joins.seat joined in
    let other_at : get_elem? one joins.other ≡ some joins.visitor = set_else before.views joins.seat joins.other joined joins.apart ∙ joins.other_at in
    let spent : part_of scope spent_view ≡ part_of scope joins.visitor = ap (λ (r : Role). option_map (λ number. scope.part (bare_view number) joins.visitor) (number_in r)) (sym joins.visits) in
    let proof : IsSameTo scope before (record before { views = set one joins.other spent_view }) = record {
      config = refl;
      words = λ name speaks. refl;
      history = λ r. refl;
      passes = sym (filter_map-set (part_of scope) one joins.other joins.visitor spent_view other_at spent ∙
          filter_map-set (part_of scope) before.views joins.seat joins.view joined joins.at
          (part-same scope joins.view joined joins.number joins.pass joins.pass (reads (bare_view joins.number) joins.view joined.known joined.joined)));
    } in
    subst (IsSameTo scope before) (sym joins.result) proof
