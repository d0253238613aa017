-- Every event keeps what stands.
use Rattle.std.proofs.Common.{◌≡◌, ◌≢◌, ◌⊎◌, ℕ, suc, List, [], ◌∷◌, ◌++◌, Option, Some, None, length, set, append_assoc, refl, ap, sym, ◌∙◌, subst, inl, inr, arith}
use Rattle.std.specs.Prelude.{All, IfSome, Contains}
use Rattle.std.proofs.lemmas.List.{append_cancel_left, length-append}
use Rattle.std.proofs.lemmas.List.Elements.{All-nil, All-cons, All-tail, All-append}
use Rattle.word_map.specs.declared.config.Config.{Config}
use Rattle.word_map.specs.Limits.{IsConfig}
use Rattle.core_state.specs.declared.item.Item.{Item}
use Rattle.core_state.specs.declared.view.Role.{Role}
use Rattle.core_state.specs.declared.view.Role.TheVariants.{Pass, Visitor, Spent}
use Rattle.core_state.specs.declared.view.Joined.{Joined}
use Rattle.core_state.specs.declared.view.Batch.{Batch}
use Rattle.core_state.specs.declared.view.View.{View}
use Rattle.core_state.specs.Log.{IsPrefix}
use Rattle.core_state.specs.View.{known_alone, own_known, number_in, number_of, IsPass, blank_view}
use Rattle.core_state.specs.Core.{Core, IsViewAt, opening}
use Rattle.core_state.specs.Kind.{Kind, Asking, Step, Steps, left_by, item_of, gained_by, view_after, after_step}
use Rattle.core_state.specs.Seats.{Opens, Visits, Joins, after_split, visitor_of, joined_view, spent_view}
use Rattle.core_state.specs.Event.{Event}
use Rattle.core_state.specs.BodiesAgree.{BodiesAgree}
use Rattle.core_state.specs.Formed.{AreApart, IsSoundView, IsFormed}
use Rattle.core_state.proofs.Cases.{event-case}
use Rattle.core_state.proofs.Lookups.{at_set}
use Rattle.core_state.proofs.Prefixes.{IsPrefix-refl, IsPrefix-trans}
use Rattle.core_state.proofs.Steps.{gains, nothing, its_item}
use Rattle.core_state.proofs.Forming.{pass_role, unspent_pass, is_left, is_right, is_other, at_split, is_spent, is_joined, is_old, at_join, IsFormed-event, IsFormed-opening}
use Rattle.core_state.proofs.Guarding.{GuardsHold-opening}
use Rattle.core_state.proofs.Opening.{Invariants-opening}
use Rattle.pass_table.proofs.Events.{Invariants-event, GuardsHold-event}
use Rattle.pass_table.specs.OwnMarks.{MarksAreOwn}
use Rattle.pass_table.proofs.OwnMarks.{KeptBatch, MarksAreOwn-step, MarksAreOwn-same, MarksAreOwn-opening}
use Rattle.pass_table.specs.Standing.{HasNumber, AreForeign, OwnAreKnown, Stands}

-- what holds of all of two lists holds of all of the second
pub All-second : {X : Type 0} (P : X → Type 0) (xs ys : List X) → All P (xs ++ ys) → All P ys
All-second P [] ys h = h
All-second P (x ∷ xs) ys h = All-second P xs ys (All-tail P x (xs ++ ys) h)

-- who is apart from a pass has none of its numbers
apart-foreign : (role other : Role) (number : ℕ) → number_in other ≡ Some number → AreApart role other → ¬ HasNumber role number
apart-foreign (Pass own further) other number pass apart has =
    let role = pass_role other number pass in
    let sides : AreApart (Pass own further) (Pass number role.0) = subst (AreApart (Pass own further)) role.1 apart in
    let low = has.0 in
    let high = has.1 in
    elim sides [ inl less ↦ omega arith | inr less ↦ omega arith ]
apart-foreign Visitor other number pass apart has = has
apart-foreign Spent other number pass apart has = has

spent-foreign : (items : List Item) → AreForeign Spent items
spent-foreign items k d below has = has

visitor-foreign : (items : List Item) → AreForeign Visitor items
visitor-foreign items k d below has = has

-- fewer numbers have fewer items
foreign-less : (role less : Role) (items : List Item) → ((number : ℕ) → HasNumber less number → HasNumber role number) → AreForeign role items → AreForeign less items
foreign-less role less items within foreign = λ k d below has. foreign k d below (within _ has)

-- of a list that is nothing more nothing is to be shown
foreign-none : (role : Role) (log since : List Item) → log ≡ log ++ since → AreForeign role since
foreign-none role log [] e = All-nil (λ (item : Item). ¬ HasNumber role item.pass)
foreign-none role log (item ∷ since) e = let lengths = ap length e in absurd (omega (arith, length-append log (item ∷ since)))

-- what came since is what had come since, and what came now
since-parts : (known since log gained before : List Item) → log ≡ known ++ before → log ++ gained ≡ known ++ since → before ++ gained ≡ since
since-parts known since log gained before e f =
    append_cancel_left known (before ++ gained) since (sym (append_assoc known before gained) ∙ (ap (λ (l : List Item). l ++ gained) (sym e) ∙ f))

unspent_cases : (role : Role) → (role ≡ Spent) ⊎ (role ≢ Spent)
unspent_cases (Pass number further) = inr (unspent_pass (Pass number further) number refl)
unspent_cases Visitor = inr (λ e. absurd (grind arith))
unspent_cases Spent = inl refl

-- what a pass knew by itself is a first part of the log
pub own_prefix : (o : Option Joined) (known : List Item) → IfSome o (λ j. IsPrefix j.own known × IsPrefix j.other known) → IsPrefix (known_alone o known) known
own_prefix None known h = IsPrefix-refl known
own_prefix (Some j) known h = h.0

pub own-prefix : (c : Config) (log : List Item) (view : View) → IsSoundView c log view → IsPrefix (own_known view) log
own-prefix c log view sound = IsPrefix-trans (own_known view) view.known log (own_prefix view.joined view.known sound.joined) sound.known

-- ---- a step

module _ (kind : Kind) (core : Core) (step : Step) (at : IsViewAt core step.seat step.view) (pass : IsPass step.view step.number) (formed : IsFormed core) (own : OwnAreKnown core) where
  -- its item is by another pass
  gained-foreign : (seat : ℕ) (view : View) → seat ≢ step.seat → IsViewAt core seat view → AreForeign view.role (gained_by kind core step)
  gained-foreign seat view other at_view =
      let foreign : ¬ HasNumber view.role step.number =
      apart-foreign view.role step.view.role step.number pass (formed.apart seat step.seat view step.view at_view at other)
      in
      elim (gains kind core step) [
        | nothing e f ↦ subst (AreForeign view.role) (sym e) (All-nil (λ (item : Item). ¬ HasNumber view.role item.pass))
        | its_item t e ↦
            subst (AreForeign view.role) (sym e)
            (All-cons (λ (item : Item). ¬ HasNumber view.role item.pass) (item_of kind step (left_by kind core step)) [] foreign (All-nil (λ (item : Item). ¬ HasNumber view.role item.pass)))
      ]

  others-foreign : (seat : ℕ) (view : View) (since : List Item) → seat ≢ step.seat → IsViewAt core seat view
      → core.log ++ gained_by kind core step ≡ own_known view ++ since → AreForeign view.role since
  others-foreign seat view since other at_view e =
      elim (unspent_cases view.role) [
        | inl spent ↦ subst (λ (r : Role). AreForeign r since) (sym spent) (spent-foreign since)
        | inr unspent ↦
            let known = own-prefix core.config core.log view (formed.views seat view at_view unspent) in
            subst (AreForeign view.role) (since-parts (own_known view) since core.log (gained_by kind core step) known.0 known.1 e)
            (All-append (λ (item : Item). ¬ HasNumber view.role item.pass) known.0 (gained_by kind core step) (own seat view known.0 at_view known.1) (gained-foreign seat view other at_view))
      ]

  pub OwnAreKnown-step : OwnAreKnown (after_step kind core step)
  OwnAreKnown-step seat view since at_view e =
      elim (at_set core.views step.seat seat (view_after kind core step) view at_view) [
        | inl t ↦ foreign-none view.role (after_step kind core step).log since (e ∙ ap (λ (v : View). own_known v ++ since) (sym t.1))
        | inr t ↦ others-foreign seat view since t.0 t.1 e
      ]

OwnAreKnown-steps : (asks : Asking) (kind : Kind) (before after : Core) → Steps asks kind before after → IsFormed before → OwnAreKnown before → OwnAreKnown after
OwnAreKnown-steps asks kind before after steps formed own =
    subst OwnAreKnown (sym steps.result) (OwnAreKnown-step kind before steps.step steps.allowed.at steps.allowed.pass formed own)

-- ---- seats

OwnAreKnown-split : (core : Core) (cut : ℕ) (left right : View) → ((since : List Item) → core.log ≡ own_known left ++ since → AreForeign left.role since)
    → ((since : List Item) → core.log ≡ own_known right ++ since → AreForeign right.role since) → OwnAreKnown core → OwnAreKnown (after_split core cut left right)
OwnAreKnown-split core cut left right own_left own_right own seat view since at e =
    elim (at_split core cut left right seat view at) [
      | is_left p same ↦ subst Told same own_left since e
      | is_right p same ↦ subst Told same own_right since e
      | is_other p old ↦ own seat view since old e
    ]
  where
    Told : View → Type 0
    Told v = (since : List Item) → core.log ≡ own_known v ++ since → AreForeign v.role since

OwnAreKnown-opens : (before after : Core) → Opens before after → OwnAreKnown before → OwnAreKnown after
OwnAreKnown-opens before after opens own =
    let whole = Pass opens.number (suc opens.further) in
    subst OwnAreKnown (sym opens.result)
    (OwnAreKnown-split before opens.seat _ _
    (λ since e. foreign-less whole (Pass opens.number 0) since (λ n has. let low = has.0 in let high = has.1 in (low, omega arith)) (own opens.seat _ since opens.at e))
    (λ since e. foreign-less whole (Pass (suc opens.number) opens.further) since (λ n has. let low = has.0 in let high = has.1 in (omega arith, omega arith)) (own opens.seat _ since opens.at e))
    own)

OwnAreKnown-visits : (before after : Core) → Visits before after → OwnAreKnown before → OwnAreKnown after
OwnAreKnown-visits before after visits own =
    subst OwnAreKnown (sym visits.result)
    (OwnAreKnown-split before visits.seat visits.view (visitor_of visits.view) (λ since e. own visits.seat visits.view since visits.at e) (λ since e. visitor-foreign since) own)

-- a pass that knows more has less that it does not know
pub known-longer : (role : Role) (log short long since : List Item) → IsPrefix short long → log ≡ long ++ since
    → ((rest : List Item) → log ≡ short ++ rest → AreForeign role rest) → AreForeign role since
known-longer role log short long since more e own =
    let all = own (more.0 ++ since) (e ∙ (ap (λ (l : List Item). l ++ since) more.1 ∙ append_assoc short more.0 since)) in
    All-second (λ (item : Item). ¬ HasNumber role item.pass) more.0 since all

OwnAreKnown-joins : (before after : Core) → Joins before after → IsFormed before → OwnAreKnown before → OwnAreKnown after
OwnAreKnown-joins before after joins formed own = subst OwnAreKnown (sym joins.result) go
  where
    view : View
    view = joins.view

    log : List Item
    log = before.log

    joined : View
    joined = joined_view joins.view joins.visitor

    core : Core
    core = record before { views = set (set before.views joins.seat (joined_view joins.view joins.visitor)) joins.other spent_view }

    Told : View → Type 0
    Told v = (since : List Item) → before.log ≡ own_known v ++ since → AreForeign v.role since

    knows : Told joined
    knows since e =
        known-longer view.role log (own_known view) view.known since
        (own_prefix view.joined view.known (formed.views joins.seat view joins.at (unspent_pass view.role joins.number joins.pass)).joined) e (λ rest f. own joins.seat view rest joins.at f)

    go : OwnAreKnown core
    go seat u since at e =
        elim (at_join before joins.seat joins.other joined seat u at) [
          | is_spent same ↦ subst (λ (v : View). AreForeign v.role since) same (spent-foreign since)
          | is_joined p same ↦ subst Told same knows since e
          | is_old old ↦ own seat u since old e
        ]

-- ---- all events

OwnAreKnown-event : (before after : Core) → Event before after → IsFormed before → OwnAreKnown before → OwnAreKnown after
OwnAreKnown-event before after event formed own =
    event-case before after (λ e. OwnAreKnown-opens before after e own) (λ e. OwnAreKnown-visits before after e own) (λ e. OwnAreKnown-joins before after e formed own)
    (λ asks kind e. OwnAreKnown-steps asks kind before after e formed own) event

-- ---- marks

MarksAreOwn-steps : (asks : Asking) (kind : Kind) (before after : Core) → Steps asks kind before after → BodiesAgree before → BodiesAgree after → IsFormed after → MarksAreOwn before → MarksAreOwn after
MarksAreOwn-steps asks kind before after steps agree later formed own =
    subst MarksAreOwn (sym steps.result)
    (MarksAreOwn-step kind before steps.step steps.allowed.at steps.allowed.pass agree (subst BodiesAgree steps.result later) (subst IsFormed steps.result formed) own)

-- a view that has no batches has none of a pass
none-kept : (before : Core) (view : View) (number : ℕ) (batch : Batch) → [] ≡ view.batches → Contains view.batches batch → KeptBatch before number batch
none-kept before view number batch none among = let has = subst (λ (l : List Batch). Contains l batch) (sym none) among in let below = has.1 in absurd (omega arith)

MarksAreOwn-split : (core : Core) (cut number : ℕ) (view left right : View) → IsViewAt core cut view → IsPass view number → number_of left ≡ number_of view → left.batches ≡ view.batches → right.batches ≡ []
    → MarksAreOwn core → MarksAreOwn (after_split core cut left right)
MarksAreOwn-split core cut number view left right at pass role same none own =
    MarksAreOwn-same core (after_split core cut left right) refl
    (λ seat n u at_u is batch among.
    elim (at_split core cut left right seat u at_u) [
      | is_left p e ↦
          record {
            seat = cut;
            view = view;
            at = at;
            pass = sym role ∙ (ap number_of e ∙ is);
            among = subst (λ (l : List Batch). Contains l batch) (ap (λ (v : View). v.batches) (sym e) ∙ same) among;
          }
      | is_right p e ↦ none-kept core u n batch (sym none ∙ ap (λ (v : View). v.batches) e) among
      | is_other p old ↦ record { seat = seat; view = u; at = old; pass = is; among = among }
    ]) own

MarksAreOwn-joins : (before after : Core) → Joins before after → MarksAreOwn before → MarksAreOwn after
MarksAreOwn-joins before after joins own =
    subst MarksAreOwn (sym joins.result)
    (MarksAreOwn-same before _ refl
    (λ seat n u at is batch among.
    elim (at_join before joins.seat joins.other (joined_view joins.view joins.visitor) seat u at) [
      | is_spent e ↦ none-kept before u n batch (ap (λ (v : View). v.batches) e) among
      | is_joined p e ↦
          record {
            seat = joins.seat;
            view = joins.view;
            at = joins.at;
            pass = ap number_of e ∙ is;
            among = subst (λ (l : List Batch). Contains l batch) (ap (λ (v : View). v.batches) (sym e)) among;
          }
      | is_old old ↦ record { seat = seat; view = u; at = old; pass = is; among = among }
    ]) own)

MarksAreOwn-event : (before after : Core) → Event before after → BodiesAgree before → BodiesAgree after → IsFormed after → MarksAreOwn before → MarksAreOwn after
MarksAreOwn-event before after event agree later formed own =
    event-case before after
    (λ e. subst MarksAreOwn (sym e.result) (MarksAreOwn-split before e.seat e.number (blank_view before.config (Pass e.number (suc e.further))) _ _ e.at refl refl refl refl own))
    (λ e. subst MarksAreOwn (sym e.result) (MarksAreOwn-split before e.seat e.number e.view e.view (visitor_of e.view) e.at e.pass refl refl refl own))
    (λ e. MarksAreOwn-joins before after e own) (λ asks kind e. MarksAreOwn-steps asks kind before after e agree later formed own) event

pub Stands-event : (before after : Core) → Event before after → Stands before → Stands after
Stands-event before after event stands =
    let formed = IsFormed-event before after event stands.formed in
    let laws = Invariants-event before after event stands.formed stands.guards stands.laws in
    record {
      formed = formed;
      laws = laws;
      guards = GuardsHold-event before after event stands.formed stands.laws stands.guards;
      own = OwnAreKnown-event before after event stands.formed stands.own;
      marks = MarksAreOwn-event before after event stands.laws.bodies laws.bodies formed stands.marks;
    }

pub Stands-opening : (c : Config) → IsConfig c → Stands (opening c)
Stands-opening c sizes = record {
  formed = IsFormed-opening c sizes;
  laws = Invariants-opening c sizes;
  guards = GuardsHold-opening c;
  own = λ seat view since at e. nothing_since view.role (own_known view) since (sym e);
  marks = MarksAreOwn-opening c;
}
  where
    nothing_since : (role : Role) (known since : List Item) → known ++ since ≡ [] → AreForeign role since
    nothing_since role [] [] e = All-nil (λ (item : Item). ¬ HasNumber role item.pass)
    nothing_since role [] (item ∷ since) e = let lengths = ap length e in absurd (omega arith)
    nothing_since role (item ∷ known) since e = let lengths = ap length e in absurd (omega arith)
