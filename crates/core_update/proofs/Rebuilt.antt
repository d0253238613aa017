-- A step that stores at most the word of the update or that of the arena, makes no entry, and changes the update of its pass,
-- which alone has one. Most laws see at most the update.
use Rattle.std.proofs.Common.{None, Option, [], ap, false, inl, inr, refl, subst, sym, ℕ, ◌∙◌, ◌≡◌, ◌≢◌, ◌⊎◌}
use Rattle.std.proofs.lemmas.Bool.{cases_eq}
use Rattle.std.proofs.lemmas.Option.{same_Some}
use Rattle.std.specs.Prelude.{option_map}
use Rattle.word_map.specs.declared.name.Name.TheVariants.{Arena, Update}
use Rattle.core_state.specs.BodiesAgree.{body_scope}
use Rattle.core_state.specs.BodiesCovered.{cover_scope}
use Rattle.core_state.specs.Core.{Core, IsViewAt, word_of}
use Rattle.core_state.specs.Invariants.{Invariants}
use Rattle.core_state.specs.Kind.{Kind, Step, after_step, found_by, learned, log_after, view_after}
use Rattle.core_state.specs.LocationsHold.{location_scope}
use Rattle.core_state.specs.LocksAgree.{lock_scope}
use Rattle.core_state.specs.Log.{history}
use Rattle.core_state.specs.NodesInOnePlace.{node_scope}
use Rattle.core_state.specs.ReadersCounted.{reader_scope}
use Rattle.core_state.specs.Scope.{Scope, Sight, sight, IsSameTo}
use Rattle.core_state.specs.TreesSound.{tree_scope}
use Rattle.core_state.specs.View.{IsPass, number_of}
use Rattle.core_state.specs.WalksLead.{walk_scope}
use Rattle.core_state.specs.declared.view.Rebuild.{Rebuild}
use Rattle.core_state.specs.declared.view.View.{View}
use Rattle.core_state.proofs.Frames.{frame, same_cond, step-same}
use Rattle.core_state.proofs.Keeping.{Invariants-unseen}
use Rattle.core_state.proofs.Lookups.{at_one}
use Rattle.core_guard.proofs.Holders.{EachOther}
use Rattle.core_guard.proofs.Leaving.{Acts, other-number}
use Rattle.core_guard.proofs.Light.{Stores}
use Rattle.core_guard.proofs.Seats.{KeepsNumber, each-seats, each-step, flat-step, has-step, seat_seen, seen_of}
use Rattle.core_update.proofs.OtherUpdate.{ChangesUpdate}

-- no other pass has an update
abbrev pub IsAlone : Core → Step → Type 0
IsAlone core step = EachOther core step (λ number view. view.rebuild ≡ None)

-- where a step makes no entry, and stores no name that a law reads, the law sees of all but the passes what it saw
pub sight-moved : (kind : Kind) (core : Core) (step : Step) → Acts core step → ((value : ℕ) → kind.entry step.view step.name value ≡ None)
    → (scope : Scope) → (Stores kind core step → scope.names step.name ≡ false) → sight scope (after_step kind core step) ≡ record (sight scope core) { passes = (sight scope (after_step kind core step)).passes }
sight-moved kind core step a entry scope hidden =
    let blind : Scope = record scope { part = λ bare view. bare } in
    let same = step-same blind kind core step a.at a.pass (record { name = hidden; entry = λ reads. entry; part = refl }) in
    λ i. record {
      config = core.config;
      word = λ name. same_cond (scope.names name) (word_of (after_step kind core step) name) (word_of core name) 0 (λ reads. sym (same.words name reads)) i;
      history = same_cond scope.reads_history (history (log_after kind core step)) (history core.log) [] (λ reads. sym (same.history reads)) i;
      passes = (sight scope (after_step kind core step)).passes;
    }

module _ (kind : Kind) (core : Core) (step : Step) where
  -- such a step
  pub record Rebuilds (next : Option Rebuild) : Type 0 where
    pub hidden : Stores kind core step → (step.name ≡ Update) ⊎ (step.name ≡ Arena)
    pub entry : (value : ℕ) → kind.entry step.view step.name value ≡ None
    pub leaves : kind.leaves (learned core step) step.name (found_by core step) step.first step.second ≡ record (learned core step) { rebuild = next }

  -- a law that reads neither word
  abbrev pub IsUnread : Scope → Type 0
  IsUnread scope = (scope.names Update ≡ false) × (scope.names Arena ≡ false)

  module _ (a : Acts core step) (next : Option Rebuild) (b : Rebuilds next) where
    abbrev Last : View
    Last = view_after kind core step

    abbrev Left : View
    Left = record step.view { known = log_after kind core step; joined = None; rebuild = next }

    pub rebuilt : Last ≡ Left
    rebuilt = ap (λ (v : View). record v { config = step.view.config; role = step.view.role; known = log_after kind core step; joined = None }) b.leaves

    hidden-name : (scope : Scope) → IsUnread scope → Stores kind core step → scope.names step.name ≡ false
    hidden-name scope unread stored = elim (b.hidden stored) [ inl update ↦ ap scope.names update ∙ unread.0 | inr arena ↦ ap scope.names arena ∙ unread.1 ]

    -- a law that does not see the update either
    pub unseen : (scope : Scope) (Law : Sight → Type 0) → IsUnread scope → seen_of scope step.number Left ≡ seen_of scope step.number step.view → Law (sight scope core) → Law (sight scope (after_step kind core step))
    unseen scope Law unread same =
        frame scope Law core (after_step kind core step)
        (step-same scope kind core step a.at a.pass (record { name = hidden-name scope unread; entry = λ reads. b.entry; part = ap (seen_of scope step.number) rebuilt ∙ same }))

    -- a load of which a law does not see the change of the update
    pub unseen-load : ¬ Stores kind core step → (scope : Scope) (Law : Sight → Type 0) → seen_of scope step.number Left ≡ seen_of scope step.number step.view → Law (sight scope core) → Law (sight scope (after_step kind core step))
    unseen-load unstored scope Law same =
        frame scope Law core (after_step kind core step)
        (step-same scope kind core step a.at a.pass (record { name = λ stored. absurd (unstored stored); entry = λ reads. b.entry; part = ap (seen_of scope step.number) rebuilt ∙ same }))

    -- of all else a law sees what it saw
    pub moved : (scope : Scope) → IsUnread scope → sight scope (after_step kind core step) ≡ record (sight scope core) { passes = (sight scope (after_step kind core step)).passes }
    moved scope unread = sight-moved kind core step a b.entry scope (hidden-name scope unread)

    module _ (alone : IsAlone core step) (scope : Scope) (keeps : KeepsNumber scope) (part : Rebuild → Rebuild)
        (seen : seen_of scope step.number Left ≡ record (seen_of scope step.number step.view) { rebuild = option_map part next })
        (none : (number : ℕ) (view : View) → view.rebuild ≡ None → (seen_of scope number view).rebuild ≡ None) where
      last : seen_of scope step.number Last ≡ record (seen_of scope step.number step.view) { rebuild = option_map part next }
      last = ap (seen_of scope step.number) rebuilt ∙ seen

      pub changes : ChangesUpdate (sight scope core) (sight scope (after_step kind core step)).passes step.number (seen_of scope step.number step.view) (option_map part next)
      changes = record {
        each = λ P Q h others own.
            each-step scope keeps kind core step a.at a.pass P Q h (λ seat n view apart found is p. others n (seen_of scope n view) (other-number core step a seat n view apart found is) p)
            (λ p. subst (Q step.number) (sym last) (own p));
        has = λ n P Q h others own.
            has-step scope keeps kind core step a.at a.pass n P Q h
            (λ seat view apart found is p. others (seen_of scope n view) (other-number core step a seat n view apart found is) (seat_seen scope core seat n view found is) (keeps n view) p)
            (λ same p. subst Q (sym last) (own (sym same) p));
        alone = each-seats scope keeps core (λ n u. n ≢ step.number → u.rebuild ≡ None) (λ seat n view found is other. none n view (elim (cases_eq seat step.seat) [
          | inl same ↦ absurd (other (number-of seat n view found is same))
          | inr apart ↦ alone seat n view apart found is
        ]));
        batches = flat-step scope keeps kind core step a.at a.pass (λ u. u.batches) (ap (λ (u : View). u.batches) last);
      }
        where
          number-of : (seat n : ℕ) (view : View) → IsViewAt core seat view → IsPass view n → seat ≡ step.seat → n ≡ step.number
          number-of seat n view found is same =
              let one : step.view ≡ view = at_one core.views step.seat step.view view a.at (subst (λ (k : ℕ). IsViewAt core k view) same found) in
              same_Some n step.number (sym is ∙ (ap (λ (v : View). number_of v) (sym one) ∙ a.pass))

-- a step that stores nothing and leaves the view as it was keeps all laws
pub Invariants-nothing : (kind : Kind) (core : Core) (step : Step) → Acts core step → ¬ Stores kind core step → ((value : ℕ) → kind.entry step.view step.name value ≡ None)
    → kind.leaves (learned core step) step.name (found_by core step) step.first step.second ≡ learned core step → Invariants (after_step kind core step)
Invariants-nothing kind core step a unstored entry leaves =
    let last : view_after kind core step ≡ record step.view { known = log_after kind core step; joined = None } =
    ap (λ (v : View). record v { config = step.view.config; role = step.view.role; known = log_after kind core step; joined = None }) leaves in
    let same : (scope : Scope) → seen_of scope step.number (record step.view { known = log_after kind core step; joined = None }) ≡ seen_of scope step.number step.view → IsSameTo scope core (after_step kind core step) =
    λ scope part. step-same scope kind core step a.at a.pass (record { name = λ stored. absurd (unstored stored); entry = λ reads. entry; part = ap (seen_of scope step.number) last ∙ part })
    in
    Invariants-unseen core (after_step kind core step)
    (record {
      locks = same lock_scope refl;
      bodies = same body_scope refl;
      places = same node_scope refl;
      trees = same tree_scope refl;
      locations = same location_scope refl;
      cover = same cover_scope refl;
      walks = same walk_scope refl;
      readers = same reader_scope refl;
    })
    a.laws
