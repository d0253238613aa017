-- What the stores of box words ask, and what they leave.
use Rattle.std.specs.Prelude.{◌%◌, option_map, Contains, IsSomeAnd, slice_index}
use Rattle.std.proofs.Common.{◌≡◌, ◌≢◌, ℕ, zero, suc, ◌+◌, ◌<◌, ◌≤◌, List, [], ◌∷◌, ◌++◌, Bool, true, false, Option, Some, None, append_assoc, refl, ap, sym, ◌∙◌, subst, inl, inr, arith}
use mathlib.Core.Logic.{∥∥₁_elim}
use Rattle.std.proofs.Props.{props}
use Rattle.std.proofs.lemmas.Bool.{cases_eq, eq-eqb, ne_eqb, false≢true}
use Rattle.std.proofs.lemmas.List.Elements.{Contains-append_left}
use Rattle.fixed_box.specs.FixBox.{words_of}
use Rattle.fixed_box.specs.declared.fix_box.FixBox.{FixBox}
use Rattle.fixed_box.proofs.Words.{on_axis_in_range, word_of-range}
use Rattle.body_ident.specs.Id.{Id}
use Rattle.scene_model.specs.declared.body_view.Phase.{Phase as BodyPhase}
use Rattle.scene_model.specs.declared.body_view.Phase.TheVariants.{Out, Held, In}
use Rattle.scene_model.specs.declared.entry.Entry.{Entry}
use Rattle.scene_model.specs.declared.entry.Entry.TheVariants.{Move}
use Rattle.scene_model.specs.Scene.{Record, record_at}
use Rattle.scene_model.specs.Cause.{HasIdBody}
use Rattle.word_map.specs.declared.config.Config.{Config}
use Rattle.word_map.specs.declared.name.Name.{Name}
use Rattle.word_map.specs.declared.name.Name.TheVariants.{State, BoxWord, LocA, LocB}
use Rattle.word_map.specs.Names.{stripe_of}
use Rattle.core_state.specs.declared.item.Item.{Item}
use Rattle.core_state.specs.declared.item.Load.{Load}
use Rattle.core_state.specs.declared.item.Store.{Store}
use Rattle.core_state.specs.declared.view.Mode.TheVariants.{Write}
use Rattle.core_state.specs.declared.view.LockStep.{LockStep}
use Rattle.core_state.specs.declared.view.Role.{Role}
use Rattle.core_state.specs.declared.view.Task.{Task}
use Rattle.core_state.specs.declared.view.Task.TheVariants.{Nothing, Moving}
use Rattle.core_state.specs.declared.view.Call.{Call}
use Rattle.core_state.specs.declared.view.View.{View}
use Rattle.core_state.specs.View.{IsPass, Holds, mode_of, number_in, known_word}
use Rattle.core_state.proofs.Boxes.{box_of-words}
use Rattle.core_state.specs.Encoding.{Sides, sides_of}
use Rattle.core_state.specs.Event.{of_moves, stores_side, stores_last_side}
use Rattle.core_state.specs.Guards.{scene_at}
use Rattle.core_state.specs.Kind.{Step, learned, log_after, item_of}
use Rattle.core_state.specs.Moving.{IsSettled, HasClimbed, to_root, to_parent, IsWidenedFor, of_target, of_body_out, MayStoreSide, side_stored_by, store_side, box_with_last, as_target, as_body_out, MayStoreLastSide, move_of, store_last_side}
use Rattle.pass_table.specs.Stepping.{step_by}
use Rattle.pass_table.specs.Turning.{AtMostOneStep, MadeBy}
use Rattle.pass_table.specs.Calls.{Advances, StoresWord}
use Rattle.pass_table.specs.Bodies.{IsCurrent, KnowsLive, HasKnownBody}
use Rattle.pass_table.specs.Settled.{KnowsPhase, KnowsFirst, KnowsSecond}
use Rattle.pass_table.specs.Work.{IsCalling}
use Rattle.pass_table.proofs.Knowing.{step-alone}
use Rattle.pass_table.proofs.Turning.{one-step}
use Rattle.pass_table.proofs.Calling.{stepped-stores, stored-gained, stored-made, stores-word, word-now, word-beside}
use Rattle.pass_table.proofs.Bodies.{stepped-current}
use Rattle.pass_table.proofs.LockedBodies.{live-steady}
use Rattle.pass_table.proofs.Settled.{sound-now, mid-phase, phase-beside, first-beside, second-steady, sure-word, sure-in}
use Rattle.pass_table.proofs.WorkLater.{worked-role, worked-sizes, worked-pass}
use Rattle.pass_table.proofs.Working.{worked-made}
use Rattle.widen_bounds.specs.Answers.{HasMoved}
use Rattle.widen_bounds.specs.stages.MoveLater.{in-apart, out-apart}
use Rattle.widen_bounds.specs.stages.Storing.{HasClimbedFrom, GetsBox, where_widened, as_it_is_out, IsBoxing, StoresSideOf, StoresLastOf}

-- ---- a body in a phase

-- a body in a phase that is not held is not held, and is in it
not-held : (o : Option Record) (P : Record → Type 0) (phase : BodyPhase) → phase ≢ Held → IsSomeAnd o (λ r. P r × (r.phase ≡ phase)) → IsSomeAnd o (λ r. r.phase ≢ Held)
not-held None P phase apart h = h
not-held (Some r) P phase apart h = λ held. apart (sym h.1 ∙ held)

still-so : (o : Option Record) (P : Record → Type 0) (phase : BodyPhase) → phase ≢ Held → IsSomeAnd o (λ r. P r × (r.phase ≡ phase)) → IsSomeAnd o (λ r. P r × (r.phase ≢ Held))
still-so None P phase apart h = h
still-so (Some r) P phase apart h = (h.0, λ held. apart (sym h.1 ∙ held))

in-phase : (o : Option Record) (P : Record → Type 0) (phase : BodyPhase) → IsSomeAnd o (λ r. P r × (r.phase ≡ phase)) → IsSomeAnd o (λ r. r.phase ≡ phase)
in-phase None P phase h = h
in-phase (Some r) P phase h = h.1

-- a pass that knows the whole log is sure that a body is out
sure-out : (view : View) → ∥ IsCurrent view ∥₁ → (id : Id) → KnowsPhase id Out view → HasKnownBody id view (λ r. r.phase ≡ Out)
sure-out view current id knows = sure (record_at (scene_at view.config view.known) id.index) (λ now. knows.body (sound-now view now))
  where
    sure : (o : Option Record) → (IsCurrent view → IsSomeAnd o (λ r. (r.generation % 256 ≡ id.seq) × (r.phase ≡ Out))) → IsSomeAnd o (λ r. (r.generation % 256 ≡ id.seq) × (r.phase ≡ Out))
    sure None h = absurd (∥∥₁_elim current (hlevel props) h)
    sure (Some r) h = (∥∥₁_elim current (hlevel props) (λ now. (h now).0), phase-is r.phase (∥∥₁_elim current (hlevel props) (λ now. ap phase-out (h now).1)))
      where
        phase-out : BodyPhase → Bool
        phase-out Out = true
        phase-out _ = false

        phase-is : (phase : BodyPhase) → phase-out phase ≡ true → phase ≡ Out
        phase-is Out e = refl
        phase-is In e = absurd (false≢true e)
        phase-is Held e = absurd (false≢true e)

-- ---- what was climbed stays climbed while more is stored and loaded

pub climbed-on : (one two : Call) (box : Sides) → ((s : Store) → Contains one.stores s → Contains two.stores s) → ((l : Load) → Contains one.loads l → Contains two.loads l)
    → (n k : ℕ) → HasClimbed one box n k → HasClimbed two box n k
climbed-on one two box stores loads n k (to_root x y wide loaded) = to_root n k (λ q below. stores _ (wide q below)) (loads _ loaded)
climbed-on one two box stores loads n k (to_parent x y m j wide below loaded more) =
    to_parent n k m j (λ q less. stores _ (wide q less)) below (loads _ loaded) (climbed-on one two box stores loads m j more)

-- ---- what the stores ask

-- sides of boxes are words of coordinates
side-range : (bounds : FixBox) (side : ℕ) → side < 6 → (1 ≤ slice_index (words_of bounds) side) × (slice_index (words_of bounds) side ≤ 16777216)
side-range bounds zero below = word_of-range _ (on_axis_in_range bounds.lo 0)
side-range bounds (suc zero) below = word_of-range _ (on_axis_in_range bounds.lo 1)
side-range bounds (suc (suc zero)) below = word_of-range _ (on_axis_in_range bounds.lo 2)
side-range bounds (suc (suc (suc zero))) below = word_of-range _ (on_axis_in_range bounds.hi 0)
side-range bounds (suc (suc (suc (suc zero)))) below = word_of-range _ (on_axis_in_range bounds.hi 1)
side-range bounds (suc (suc (suc (suc (suc zero))))) below = word_of-range _ (on_axis_in_range bounds.hi 2)
side-range bounds (suc (suc (suc (suc (suc (suc side)))))) below = absurd (omega arith)

module _ (id : Id) (to : FixBox) (view : View) (current : ∥ IsCurrent view ∥₁) where
  abbrev body : Option Record
  body = record_at (scene_at view.config view.known) id.index

  is-settled : (phase : BodyPhase) → phase ≢ Held → Holds view (stripe_of view.config id.index) Write → KnowsPhase id phase view → HasKnownBody id view (λ r. r.phase ≡ phase) → IsSettled view id.index
  is-settled phase apart stripe knows here = record { stripe = stripe; live = let live = knows.live in omega arith; unheld = not-held body (λ r. r.generation % 256 ≡ id.seq) phase apart here }

  is-widened : (first second : ℕ) → KnowsPhase id In view → view.call.task ≡ Moving id.index (words_of to) → KnowsFirst id first view → KnowsSecond id second view
      → HasClimbedFrom view.call (words_of to) first → HasClimbedFrom view.call (words_of to) second → IsWidenedFor view id.index (words_of to)
  is-widened first second phase task at_first at_second one two = record {
    inside = in-phase body (λ r. r.generation % 256 ≡ id.seq) In (sure-in view current id phase);
    task = task;
    six = refl;
    climbed = λ n k known.
        elim (known.1) [
          | inl e ↦ one n k known.0 (sym (sure-word view current (LocA id.index) first at_first) ∙ e)
          | inr e ↦ two n k known.0 (sym at_second ∙ e)
        ];
  }

  -- those of a side but the last
  pub asks-side : (side : ℕ) → side < 5 → IsBoxing id to side view → MayStoreSide view (BoxWord id.index side) (slice_index (words_of to) side) 0
  asks-side side less boxing = go boxing.gets
    where
      range : (1 ≤ slice_index (words_of to) side) × (slice_index (words_of to) side ≤ 16777216)
      range = side-range to side (omega arith)

      go : GetsBox id to view → MayStoreSide view (BoxWord id.index side) (slice_index (words_of to) side) 0
      go (where_widened first second phase task at_first at_second one two) = record {
        index = id.index;
        side = side;
        names = refl;
        not_last = less;
        settled = is-settled In in-apart boxing.stripe phase (sure-in view current id phase);
        low = range.0;
        high = range.1;
        stores = of_target (words_of to) (is-widened first second phase task at_first at_second one two) refl;
      }
      go (as_it_is_out phase task) = record {
        index = id.index;
        side = side;
        names = refl;
        not_last = less;
        settled = is-settled Out out-apart boxing.stripe phase (sure-out view current id phase);
        low = range.0;
        high = range.1;
        stores = of_body_out (record { outside = in-phase body (λ r. r.generation % 256 ≡ id.seq) Out (sure-out view current id phase); task = task });
      }

  -- with the last side the words are those of the box
  pub last-box : IsBoxing id to 5 view → (q : ℕ) → q < 6 → box_with_last view id.index (slice_index (words_of to) 5) q ≡ slice_index (words_of to) q
  last-box boxing q below =
      elim (cases_eq q 5) [
        | inl last ↦
            let side : box_with_last view id.index (slice_index (words_of to) 5) q ≡ slice_index (words_of to) 5 = rw (eq-eqb q 5 last) refl in
            side ∙ ap (slice_index (words_of to)) (sym last)
        | inr apart ↦
            let side : box_with_last view id.index (slice_index (words_of to) 5) q ≡ known_word view (BoxWord id.index q) = rw (ne_eqb q 5 apart) refl in
            side ∙ boxing.stored q (omega arith)
      ]

  -- those of the last one
  pub asks-last : IsBoxing id to 5 view → MayStoreLastSide view (BoxWord id.index 5) (slice_index (words_of to) 5) 0
  asks-last boxing = go boxing.gets
    where
      go : GetsBox id to view → MayStoreLastSide view (BoxWord id.index 5) (slice_index (words_of to) 5) 0
      go (where_widened first second phase task at_first at_second one two) = record {
        index = id.index;
        names = refl;
        settled = is-settled In in-apart boxing.stripe phase (sure-in view current id phase);
        bounds = to;
        box = last-box boxing;
        stores = as_target (is-widened first second phase task at_first at_second one two);
      }
      go (as_it_is_out phase task) = record {
        index = id.index;
        names = refl;
        settled = is-settled Out out-apart boxing.stripe phase (sure-out view current id phase);
        bounds = to;
        box = last-box boxing;
        stores = as_body_out (record { outside = in-phase body (λ r. r.generation % 256 ≡ id.seq) Out (sure-out view current id phase); task = task });
      }

-- ---- what a side leaves

-- the phase of a body that gets a box
record HasPhase (id : Id) (view : View) : Type 0 where
  phase : BodyPhase
  apart : phase ≢ Held
  knows : KnowsPhase id phase view

has-phase : (id : Id) (to : FixBox) (view : View) → GetsBox id to view → HasPhase id view
has-phase id to view (where_widened first second phase task at_first at_second one two) = record { phase = In; apart = in-apart; knows = phase }
has-phase id to view (as_it_is_out phase task) = record { phase = Out; apart = out-apart; knows = phase }

abbrev side_of : Name → ℕ
side_of (BoxWord i q) = q
side_of _ = 0

module _ (id : Id) (to : FixBox) (side : ℕ) (view next : View) (boxing : IsBoxing id to side view) (stored : StoresSideOf id to side view next) where
  abbrev name : Name
  name = BoxWord id.index side

  abbrev value : ℕ
  value = slice_index (words_of to) side

  abbrev made : Step
  made = step_by stored.1.seat view stored.1.number name value 0

  abbrev its_store : Store
  its_store = record { name = name; value = value }

  pub side-step : AtMostOneStep view next
  side-step = one-step MayStoreSide store_side view next name value 0 stored.0 stored.1 (λ before after steps. of_moves (stores_side steps))

  pub side-made : (number : ℕ) → IsPass view number → MadeBy view next None
  side-made number pass = stored-made MayStoreSide store_side view next name value refl stored number pass

  word : StoresWord view next name value
  word = stores-word MayStoreSide store_side view next name value refl stored

  by : Advances view next (item_of store_side made value ∷ [])
  by = stepped-stores MayStoreSide store_side view next name value 0 stored.0 stored.1 (item_of store_side made value) (stored-gained MayStoreSide store_side view next name value refl stored) refl

  -- the move goes on, or begins
  by-task : (task : Task) → view.call.task ≡ task
      → next ≡ record (side_stored_by task (learned stored.1.before made) name value) { config = view.config; role = view.role; known = log_after store_side stored.1.before made; joined = None }
  by-task task at =
      stored.1.leaves
      ∙ ap (λ (t : Task). record (side_stored_by t (learned stored.1.before made) name value) { config = view.config; role = view.role; known = log_after store_side stored.1.before made; joined = None }) at

  goes-on : (i : ℕ) (target : List ℕ) → view.call.task ≡ Moving i target
      → next ≡ record view { known = log_after store_side stored.1.before made; joined = None; call = record view.call { stores = view.call.stores ++ its_store ∷ [] } }
  goes-on i target at = by-task (Moving i target) at

  begins : view.call.task ≡ Nothing
      → next ≡ record view { known = log_after store_side stored.1.before made; joined = None; call = record { task = Moving id.index []; loads = []; stores = its_store ∷ [] } }
  begins at = by-task Nothing at

  left-so : (known : List Item) (call : Call) → next ≡ record view { known = known; joined = None; call = call } → next ≡ record view { known = next.known; joined = next.joined; call = next.call }
  left-so known call e =
      e
      ∙ (λ i. record view { known = sym (ap (λ (v : View). v.known) e) i; joined = sym (ap (λ (v : View). v.joined) e) i; call = sym (ap (λ (v : View). v.call) e) i })

  pub side-left : next ≡ record view { known = next.known; joined = next.joined; call = next.call }
  side-left = go boxing.gets
    where
      go : GetsBox id to view → next ≡ record view { known = next.known; joined = next.joined; call = next.call }
      go (where_widened first second phase task at_first at_second one two) = left-so _ _ (goes-on id.index (words_of to) task)
      go (as_it_is_out phase task) = elim (task) [ inl none ↦ left-so _ _ (begins none) | inr moving ↦ left-so _ _ (goes-on id.index [] moving) ]

  sizes : next.config ≡ view.config
  sizes = ap (λ (v : View). v.config) side-left

  live : KnowsLive id view
  live = (has-phase id to view boxing.gets).knows.live

  live-on : KnowsLive id next
  live-on = word-beside view next name value word sizes (State id.index) (λ same. absurd cc) (live-steady id Write view (State id.index) boxing.stripe live refl) ∙ live

  phase-on : (phase : BodyPhase) → phase ≢ Held → KnowsPhase id phase view → KnowsPhase id phase next
  phase-on phase apart knows = phase-beside id Write phase apart view next boxing.stripe knows (item_of store_side made value) by sizes refl live-on

  climbed-from : (i : ℕ) (target box : List ℕ) → view.call.task ≡ Moving i target → (at : ℕ) → HasClimbedFrom view.call box at → HasClimbedFrom next.call box at
  climbed-from i target box task at climbed n k below is =
      subst (λ (c : Call). HasClimbed c (sides_of box) n k) (sym (ap (λ (v : View). v.call) (goes-on i target task)))
      (climbed-on view.call (record view.call { stores = view.call.stores ++ its_store ∷ [] }) (sides_of box) (λ s has. Contains-append_left view.call.stores (its_store ∷ []) s has) (λ l has. has) n k (climbed n k below is))

  gets-on : GetsBox id to next
  gets-on = go boxing.gets
    where
      go : GetsBox id to view → GetsBox id to next
      go (where_widened first second phase task at_first at_second one two) =
          where_widened first second (phase-on In in-apart phase) (ap (λ (v : View). v.call.task) (goes-on id.index (words_of to) task) ∙ task)
          (first-beside id Write In in-apart view next boxing.stripe phase (item_of store_side made value) by sizes first (λ same. absurd cc) at_first)
          (word-beside view next name value word sizes (LocB id.index) (λ same. absurd cc) (second-steady id.index Write view boxing.stripe) ∙ at_second)
          (climbed-from id.index (words_of to) (words_of to) task first one) (climbed-from id.index (words_of to) (words_of to) task second two)
      go (as_it_is_out phase task) =
          as_it_is_out (phase-on Out out-apart phase)
          (inr (elim (task) [
            | inl none ↦ ap (λ (v : View). v.call.task) (begins none)
            | inr moving ↦ ap (λ (v : View). v.call.task) (goes-on id.index [] moving) ∙ moving
          ]))

  pub boxing-on : IsBoxing id to (side + 1) next
  boxing-on = record {
    stripe = ap (λ (v : View). mode_of v.locks (stripe_of v.config id.index)) side-left ∙ boxing.stripe;
    below = subst (λ (c : Config). id.index < c.bodies) (sym sizes) boxing.below;
    gets = gets-on;
    stored = λ q less.
        elim (cases_eq q side) [
          | inl same ↦
              subst (λ (p : ℕ). known_word next (BoxWord id.index p) ≡ slice_index (words_of to) p) (sym same) (word-now view next name value word sizes)
          | inr apart ↦
              word-beside view next name value word sizes (BoxWord id.index q) (λ same. apart (sym (ap side_of same))) (live-steady id Write view (BoxWord id.index q) boxing.stripe live refl)
              ∙ boxing.stored q (omega arith)
        ];
  }

  pub side-calling : (start : View) (steps : List LockStep) → IsCalling start view steps view.call.task [] → IsCalling start next steps next.call.task []
  side-calling start steps calling =
      worked-made start view next _ calling name None next.call.task refl (step-alone MayStoreSide store_side view next name value 0 stored.0 stored.1)
      (side-made calling.adds.number (worked-pass start view _ calling)) side-left refl

-- ---- what the last side leaves

module _ (id : Id) (to : FixBox) (view next : View) (boxing : IsBoxing id to 5 view) (current : ∥ IsCurrent view ∥₁) (stored : StoresLastOf id to view next) where
  abbrev last_name : Name
  last_name = BoxWord id.index 5

  abbrev last_value : ℕ
  last_value = slice_index (words_of to) 5

  abbrev last_made : Step
  last_made = step_by stored.1.seat view stored.1.number last_name last_value 0

  abbrev last_item : Item
  last_item = item_of store_last_side last_made last_value

  pub last-step : AtMostOneStep view next
  last-step = one-step MayStoreLastSide store_last_side view next last_name last_value 0 stored.0 stored.1 (λ before after steps. of_moves (stores_last_side steps))

  makes : move_of view last_name last_value ≡ Some (Move id.index to)
  makes = ap (option_map (λ (b : FixBox). Move id.index b)) (box_of-words to (box_with_last view id.index last_value) (last-box id to view current boxing))

  pub last-made : (number : ℕ) → IsPass view number → MadeBy view next (Some (record { pass = number; entry = Move id.index to }))
  last-made number pass =
      subst (λ (o : Option Entry). MadeBy view next (option_map (λ (e : Entry). record { pass = number; entry = e }) o)) makes
      (stored-made MayStoreLastSide store_last_side view next last_name last_value refl stored number pass)

  last-word : StoresWord view next last_name last_value
  last-word = stores-word MayStoreLastSide store_last_side view next last_name last_value refl stored

  last-by : Advances view next (last_item ∷ [])
  last-by =
      stepped-stores MayStoreLastSide store_last_side view next last_name last_value 0 stored.0 stored.1 last_item
      (stored-gained MayStoreLastSide store_last_side view next last_name last_value refl stored) refl

  pub last-left : next ≡ record view { known = next.known; joined = next.joined; call = next.call }
  last-left =
      stored.1.leaves
      ∙ (λ i. record view {
        known = sym (ap (λ (v : View). v.known) stored.1.leaves) i;
        joined = sym (ap (λ (v : View). v.joined) stored.1.leaves) i;
        call = sym (ap (λ (v : View). v.call) stored.1.leaves) i;
      })

  pub last-task : next.call.task ≡ Nothing
  last-task = ap (λ (v : View). v.call.task) stored.1.leaves

  last-sizes : next.config ≡ view.config
  last-sizes = ap (λ (v : View). v.config) last-left

  last-phase : HasPhase id view
  last-phase = has-phase id to view boxing.gets

  -- the body is live still
  pub last-live : KnowsLive id next
  last-live =
      word-beside view next last_name last_value last-word last-sizes (State id.index) (λ same. absurd cc) (live-steady id Write view (State id.index) boxing.stripe last-phase.knows.live refl)
      ∙ last-phase.knows.live

  module _ (start : View) (steps : List LockStep) (calling : IsCalling start view steps view.call.task []) where
    pub last-calling : IsCalling start next steps Nothing (Move id.index to ∷ [])
    last-calling =
        worked-made start view next _ calling last_name _ Nothing refl (step-alone MayStoreLastSide store_last_side view next last_name last_value 0 stored.0 stored.1)
        (last-made calling.adds.number (worked-pass start view _ calling)) last-left last-task

    pub has-moved : HasMoved id to start next
    has-moved = record {
      adds = last-calling.adds;
      at = record {
        since = calling.adds.since ++ last-by.since;
        item = last_item;
        later = [];
        parts = last-by.known ∙ ap (λ (l : List Item). l ++ last_item ∷ []) mid;
        pass = ap (λ (r : Role). number_in r) (sym (worked-role start view _ calling)) ∙ stored.1.allowed.pass;
        makes = makes;
        holds = subst (λ (l : List Item). HasIdBody (scene_at start.config l) id (λ r. r.phase ≢ Held)) mid (subst (λ (c : Config). HasIdBody (scene_at c (view.known ++ last-by.since)) id (λ r. r.phase ≢ Held)) (worked-sizes start view _ calling) unheld);
      };
    }
      where
        mid : view.known ++ last-by.since ≡ start.known ++ (calling.adds.since ++ last-by.since)
        mid = ap (λ (l : List Item). l ++ last-by.since) calling.adds.known ∙ append_assoc start.known calling.adds.since last-by.since

        now : IsCurrent next
        now = stepped-current MayStoreLastSide store_last_side view next last_name last_value 0 stored.0 stored.1

        unheld : HasIdBody (scene_at view.config (view.known ++ last-by.since)) id (λ r. r.phase ≢ Held)
        unheld =
            still-so (record_at (scene_at view.config (view.known ++ last-by.since)) id.index) (λ r. r.generation % 256 ≡ id.seq) last-phase.phase last-phase.apart
            (mid-phase id Write last-phase.phase last-phase.apart view next boxing.stripe last-phase.knows (last_item ∷ []) last-by last-sizes (sound-now next now))
