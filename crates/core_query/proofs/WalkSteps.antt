-- The beginning and the end of a walk: the own reader word turns odd or even. A walk that begins has read nothing and has all
-- that it has to find ahead of it; of one that has ended nothing is said.
use Rattle.std.proofs.Common.{◌≡◌, ◌≢◌, ◌⊎◌, ◌↔◌, ℕ, ◌+◌, ◌%◌, ◌^◌, List, [], true, false, None, length, refl, ap, sym, ◌∙◌, subst, inl, inr, arith}
use Rattle.std.proofs.lemmas.Bool.{cases_lt, false≢true}
use Rattle.std.proofs.lemmas.Option.{same_Some}
use Rattle.word_map.specs.declared.name.Name.{Name}
use Rattle.word_map.specs.declared.name.Name.TheVariants.{Reader, Child}
use Rattle.core_state.specs.declared.item.Load.{Load}
use Rattle.core_state.specs.Log.{history}
use Rattle.core_state.specs.Core.{Core, word_of}
use Rattle.core_state.specs.View.{IsPass}
use Rattle.core_state.specs.Kind.{Kind, Step, learned, found_by, left_by}
use Rattle.core_state.specs.Encoding.{body_child}
use Rattle.core_state.specs.Scope.{Sight, sight, word_in}
use Rattle.core_state.specs.Walking.{Query, start, position_of}
use Rattle.core_state.specs.Guards.{KeepsGuards}
use Rattle.core_state.specs.Walks.{MayBegin, begin_walk, MayEnd, end_walk, new_walk}
use Rattle.core_state.specs.LocationsHold.{LocationsHoldIn, location_scope}
use Rattle.core_state.specs.WalksLead.{WalksLead}
use Rattle.core_state.specs.ReadersCounted.{ReadersCounted, reader_scope, Reaches, IsWalkedAt, WalkStays, ReadsInSpace}
use Rattle.core_state.specs.Invariants.{Invariants}
use Rattle.core_state.proofs.Beginning.{due_ahead}
use Rattle.core_state.proofs.Opening.{none_in}
use Rattle.core_state.proofs.Starting.{start-stays, start-space, known-none, main_last}
use Rattle.core_state.proofs.Steps.{word-step, word-step-other}
use Rattle.core_guard.proofs.Leaving.{Acts, After, Last}
use Rattle.core_guard.proofs.ReadersLeft.{some-all}
use Rattle.core_guard.proofs.WalksLeft.{WalksLead-goes_on, walk-left, longer, begun-left}
use Rattle.core_guard.proofs.Still.{IsStill, still-leaves, still-boxes, ReadersCounted-still}
use Rattle.core_guard.proofs.Light.{KeepsPart, IsLight, Invariants-light, law-kept, unread}
use Rattle.core_guard.proofs.Holders.{IsGuarded, guarded, keeps}
use Rattle.core_guard.proofs.Touched.{IsKept, kept}

-- the own reader word, by the number of the step
own-reader : (core : Core) (step : Step) → Acts core step → (number : ℕ) → step.name ≡ Reader number → IsPass step.view number → step.name ≡ Reader step.number
own-reader core step a number names pass = names ∙ ap (λ (p : ℕ). Reader p) (same_Some number step.number (sym pass ∙ a.pass))

-- a word with one added is odd where it was not
then_odd : (w : ℕ) → ¬ (w % 2 ≡ 1) → (w + 1) % 2 ^ 64 % 2 ≡ 1
then_odd w none = elim (cases_lt 0 (w % 2)) [ inl odd ↦ absurd (none (omega arith)) | inr even ↦ omega arith ]

abbrev number_of_reader : Name → ℕ
number_of_reader (Reader p) = p
number_of_reader _ = 0

-- ---- what both kinds do

-- the pass adds one to its own reader word, and from then on it walks where it did not; a walk that it is in has read nothing
record Turns (kind : Kind) (core : Core) (step : Step) : Type 0 where
  names : step.name ≡ Reader step.number
  entry : (value : ℕ) → kind.entry step.view step.name value ≡ None
  call : (Last kind core step).call ≡ step.view.call
  batches : (Last kind core step).batches ≡ step.view.batches
  rebuild : (Last kind core step).rebuild ≡ step.view.rebuild
  adds : left_by kind core step ≡ (found_by core step + 1) % 2 ^ 64
  turned : ((step.view.walk.is_on ≡ false) × ((Last kind core step).walk.is_on ≡ true)) ⊎ ((step.view.walk.is_on ≡ true) × ((Last kind core step).walk.is_on ≡ false))
  fresh : (Last kind core step).walk.is_on ≡ true → (Last kind core step).walk.loads ≡ []

module _ (kind : Kind) (core : Core) (step : Step) (a : Acts core step) (t : Turns kind core step) where
  abbrev Now : Sight
  Now = sight reader_scope (After kind core step)

  still : IsStill kind core step
  still = record {
    words = λ name other. word-step-other kind core step name (λ e. other step.number (e ∙ t.names));
    entry = t.entry;
    task = ap (λ c. c.task) t.call;
    batches = t.batches;
    rebuild = t.rebuild;
  }

  other-reader : (number : ℕ) → number ≢ step.number → word_of (After kind core step) (Reader number) ≡ word_of core (Reader number)
  other-reader number other = word-step-other kind core step (Reader number) (λ e. other (ap number_of_reader (e ∙ t.names)))

  adds : word_of (After kind core step) (Reader step.number) ≡ (word_of core (Reader step.number) + 1) % 2 ^ 64
  adds = subst (λ (name : Name). word_of (After kind core step) name ≡ (word_of core name + 1) % 2 ^ 64) t.names (word-step kind core step ∙ t.adds)

  odd : (word_of core (Reader step.number) % 2 ≡ 1) ↔ (step.view.walk.is_on ≡ true) → (word_of (After kind core step) (Reader step.number) % 2 ≡ 1) ↔ ((Last kind core step).walk.is_on ≡ true)
  odd was =
      elim (t.turned) [
        | inl on ↦ (λ e. on.1, λ h. subst (λ (w : ℕ). w % 2 ≡ 1) (sym adds) (then_odd (word_of core (Reader step.number)) (λ e. false≢true (sym on.0 ∙ was.0 e))))
        | inr off ↦ (λ e. let odd = was.1 off.0 in let more = subst (λ (w : ℕ). w % 2 ≡ 1) adds e in absurd (omega arith), λ h. absurd (false≢true (sym off.1 ∙ h)))
      ]

  -- what is said of a walk is so of one that has read nothing
  of_start : (P : Query → List Load → Type 0) → ((query : Query) → P query []) → (Last kind core step).walk.is_on ≡ true → (query : Query) → P query (Last kind core step).walk.loads
  of_start P h on query = subst (P query) (sym (t.fresh on)) (h query)

  readers : ReadersCounted a.laws.nodes (After kind core step)
  readers = ReadersCounted-still kind core step still a t.call (record {
    odd = odd;
    seen = other-reader;
    stays = λ on query follows. of_start (λ q l. WalkStays a.laws.nodes Now.word l (position_of core.config q l)) (λ q. start-stays core.config q Now.word a.laws.nodes) on query;
    in_space = λ on query follows. of_start (λ q l. ReadsInSpace Now l (position_of core.config q l)) (start-space Now) on query;
    avoids = λ number view among pass.
        some-all view.rebuild _
        (λ r seen on query follows x name from home.
        of_start (λ q l. ¬ (Reaches Now.word (position_of core.config q l) x ⊎ IsWalkedAt l x)) (λ q. known-none core.config q Now.word x) on query from);
  })

  invariants : IsLight kind core step → KeepsPart kind core step location_scope → WalksLead (After kind core step) → Invariants (After kind core step)
  invariants l part walks =
      Invariants-light kind core step a l (law-kept kind core step a l location_scope (LocationsHoldIn a.laws.nodes) (unread kind core step a l location_scope (λ p. refl)) part a.laws.locations) walks readers

  -- nobody has a reader word for itself
  guards : KeepsGuards kind core step
  guards = keeps kind core step (Reader step.number) t.names (λ stored seat number view apart found pass. (λ h. h, tt))

-- ---- kind 28

module _ (core : Core) (step : Step) (a : Acts core step) (asked : MayBegin step.view step.name step.first step.second) where
  begins : Turns begin_walk core step
  begins = record {
    names = own-reader core step a asked.number asked.names asked.pass;
    entry = λ value. refl;
    call = refl;
    batches = refl;
    rebuild = refl;
    adds = ap (λ (n : ℕ). (found_by core step + n) % 2 ^ 64) asked.one;
    turned = inl (asked.rests, refl);
    fresh = λ on. refl;
  }

  leads : WalksLead (After begin_walk core step)
  leads =
      let s = still begin_walk core step a begins in
      let left = still-leaves begin_walk core step s a.laws.nodes in
      let boxes = still-boxes begin_walk core step s a in
      let new = new_walk (learned core step) in
      WalksLead-goes_on begin_walk core step a a.laws.nodes (λ n. ⊥) left boxes
      (λ on query follows.
      walk-left begin_walk core step a a.laws.nodes (λ n. ⊥) left new (start core.config query) (start-stays core.config query (word_in reader_scope core) a.laws.nodes) boxes (omega arith) query (record {
        ahead = λ index generation due. due_ahead core a.formed a.laws query new (omega arith) index generation due;
        widens = tt;
        order = main_last core.config query;
        once = λ i j d less below. absurd (omega arith);
        bodies = λ n k index among. absurd (none_in (record { name = Child n k; value = body_child index }) among);
      }))
      (longer begin_walk core step a a.laws.nodes (λ n. ⊥) left (length (history core.log)) (omega arith))

  begun : Invariants (After begin_walk core step)
  begun = invariants begin_walk core step a begins (record { reader = λ stored. (step.number, begins.names); entry = λ value. refl; locks = refl; bodies = refl; nodes = refl; trees = refl; cover = refl }) refl leads

pub Invariants-begin_walk : IsKept MayBegin begin_walk
Invariants-begin_walk = kept MayBegin begin_walk begun

pub GuardsHold-begin_walk : IsGuarded MayBegin begin_walk
GuardsHold-begin_walk = guarded MayBegin begin_walk (λ core step a asked. guards begin_walk core step a (begins core step a asked))

-- ---- kind 29

module _ (core : Core) (step : Step) (a : Acts core step) (asked : MayEnd step.view step.name step.first step.second) where
  ends : Turns end_walk core step
  ends = record {
    names = own-reader core step a asked.number asked.names asked.pass;
    entry = λ value. refl;
    call = refl;
    batches = refl;
    rebuild = refl;
    adds = ap (λ (n : ℕ). (found_by core step + n) % 2 ^ 64) asked.one;
    turned = inr (asked.walks, refl);
    fresh = λ on. absurd (false≢true on);
  }

  ended : Invariants (After end_walk core step)
  ended =
      let s = still end_walk core step a ends in
      let left = still-leaves end_walk core step s a.laws.nodes in
      invariants end_walk core step a ends (record { reader = λ stored. (step.number, ends.names); entry = λ value. refl; locks = refl; bodies = refl; nodes = refl; trees = refl; cover = refl }) refl
      (WalksLead-goes_on end_walk core step a a.laws.nodes (λ n. ⊥) left (still-boxes end_walk core step s a) (λ on query follows. absurd (false≢true on)) (begun-left end_walk core step a a.laws.nodes (λ n. ⊥) left))

pub Invariants-end_walk : IsKept MayEnd end_walk
Invariants-end_walk = kept MayEnd end_walk ended

pub GuardsHold-end_walk : IsGuarded MayEnd end_walk
GuardsHold-end_walk = guarded MayEnd end_walk (λ core step a asked. guards end_walk core step a (ends core step a asked))
