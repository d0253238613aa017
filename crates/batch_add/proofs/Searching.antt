-- What each turn of looking for a slot leaves.
use Rattle.std.specs.Prelude.{All, Contains, option_map, option_to_list}
use Rattle.std.proofs.Common.{◌≡◌, ◌≢◌, ℕ, suc, ◌+◌, ◌<◌, List, [], ◌∷◌, ◌++◌, Bool, true, false, Option, Some, None, cond, eqb, length, get_or, set, append_assoc, inl, inr, refl, ap, sym, ◌∙◌, subst, arith}
use Rattle.std.proofs.lemmas.Bool.{cases_lt, eq-eqb, ne_eqb, eqb-true, eqb-false}
use Rattle.std.proofs.lemmas.List.{append-nil, get_or-set_same, get_or-set_other, length-set}
use Rattle.std.proofs.lemmas.List.Elements.{Contains-get_or}
use Rattle.word_map.specs.declared.name.Name.{Name}
use Rattle.word_map.specs.declared.name.Name.TheVariants.{Slot}
use Rattle.core_state.specs.declared.item.Item.{Item}
use Rattle.core_state.specs.declared.view.Batch.{Batch}
use Rattle.core_state.specs.declared.view.View.{View}
use Rattle.core_state.specs.declared.view.Task.TheVariants.{Nothing}
use Rattle.core_state.specs.Log.{word}
use Rattle.core_state.specs.View.{IsPass, known_word, number_in}
use Rattle.core_state.specs.Operation.{Operation, compare_exchange, stores, stored_by}
use Rattle.core_state.specs.Kind.{Kind, Asking, Step, found_by, item_of, gained_by}
use Rattle.core_state.specs.Event.{loads_slot, reserves, of_batches}
use Rattle.core_state.specs.Encoding.{reserved_by}
use Rattle.core_state.specs.Bodies.{IsForSlot}
use Rattle.core_state.specs.Batches.{MayLoadSlot, load_slot, MayReserve, reserve, new_batch}
use Rattle.core_state.proofs.Steps.{gained-unstored}
use Rattle.core_batch.proofs.Owning.{slot-reserved}
use Rattle.pass_table.specs.declared.turn.Turn.{Turn}
use Rattle.pass_table.specs.declared.turn.Turn.TheVariants.{Done, More}
use Rattle.pass_table.specs.Stepping.{step_by, Stepped}
use Rattle.pass_table.specs.Knowing.{KnowsMore}
use Rattle.pass_table.specs.Turning.{AtMostOneStep, MadeBy}
use Rattle.pass_table.specs.Holding.{IsAtRest}
use Rattle.pass_table.specs.Calls.{StoresWord}
use Rattle.pass_table.proofs.Knowing.{knows-more, came-others}
use Rattle.pass_table.proofs.Turning.{one-step, made-by-step, made-entry}
use Rattle.pass_table.proofs.Calling.{point-now, loaded-word, stepped-sizes, stepped-stores}
use Rattle.free_list.proofs.Pool.{now-by}
use Rattle.batch_add.specs.declared.slot_search.SlotSearch.{SlotSearch}
use Rattle.pass_table.specs.Work.{begun, HasWorked}
use Rattle.batch_add.specs.Parts.{StoresFrom, IsNewest, HasReserved, FoundNoSlot}
use Rattle.batch_add.specs.stages.Searching.{WasFound, WereFound, IsSearching, HasSearched, slot_turns, search_left, IsSearchTurn, HasNoted, searching-later}
use Rattle.pass_table.proofs.WorkLater.{worked-sizes, worked-batches, worked-loose, worked-written}
use Rattle.pass_table.proofs.Working.{worked-told, worked-done}

-- ---- exchanges

-- a compare and exchange stores where it found the word expected, and else it leaves all but what the pass knows
module _ (asks : Asking) (kind : Kind) (view next : View) (name : Name) (expected new found : ℕ) (stepped : Stepped asks kind view name expected new found next) (exchanges : kind.operation ≡ compare_exchange) where
  abbrev made : Step
  made = step_by stepped.seat view stepped.number name expected new

  abbrev before_word : ℕ
  before_word = found_by stepped.before made

  module _ (other : found ≢ expected) where
    missed_gains : gained_by kind stepped.before made ≡ []
    missed_gains =
        gained-unstored kind stepped.before made
        (ap (λ (o : Operation). stores o before_word expected) exchanges ∙ (ap (λ (n : ℕ). eqb n expected) (sym stepped.finds) ∙ ne_eqb found expected other))

    missed_known : next.known ≡ stepped.before.log
    missed_known = ap (λ (v : View). v.known) stepped.leaves ∙ (ap (λ (l : List Item). stepped.before.log ++ l) missed_gains ∙ append-nil stepped.before.log)

    -- the word found is the one that is known then
    pub missed-word : known_word next name ≡ found
    missed-word =
        (λ i. word ((ap (λ (v : View). v.config) stepped.leaves ∙ stepped-sizes asks kind view next name expected new found stepped) i) (missed_known i) name) ∙ sym stepped.finds

    pub missed-more : ((v : View) → kind.leaves v name found expected new ≡ v) → KnowsMore view next
    missed-more plain = record {
      since = stepped.since;
      known = missed_known ∙ stepped.learns;
      others = came-others asks kind view next name expected new found stepped;
      rest =
          now-by asks kind view next name expected new found stepped
          ∙ ap (λ (v : View). record v { config = view.config; role = view.role; known = next.known; joined = None }) (plain (record view { known = stepped.before.log }));
    }

    -- it made nothing
    pub missed-made : MadeBy view next None
    missed-made = record {
      number = stepped.number;
      pass = stepped.allowed.pass;
      since = stepped.since;
      own = None;
      parts = missed_known ∙ (stepped.learns ∙ sym (append-nil (view.known ++ stepped.since)));
      foreign = stepped.foreign;
      by_pass = tt;
      entry = refl;
    }

  module _ (hit : found ≡ expected) where
    pub hit-gains : gained_by kind stepped.before made ≡ item_of kind made new ∷ []
    hit-gains =
        ap (λ (o : Operation). option_to_list (option_map (item_of kind made) (stored_by o before_word expected new))) exchanges
        ∙ ap (λ (t : Bool). option_to_list (option_map (item_of kind made) (cond {A = Option ℕ} t (Some (cond t new before_word)) None)))
        (ap (λ (n : ℕ). eqb n expected) (sym stepped.finds) ∙ eq-eqb found expected hit)

    pub hit-stores : StoresWord view next name new
    hit-stores = record {
      item = item_of kind made new;
      named = refl;
      is = refl;
      advances = stepped-stores asks kind view next name expected new found stepped (item_of kind made new) hit-gains refl;
    }

-- ---- a slot that is not empty

-- there is a word for the slot that it looks at
pub search-inside : (first : SlotSearch) (start : View) (operation : SlotSearch) (view : View) → IsSearching first start operation view → operation.slot < length operation.words.items
search-inside first start operation view searching = let all = searching.all in let below = searching.below in omega arith

-- one slot more was found
found-more : (layer : ℕ) (start view : View) (words more : List ℕ) (count found : ℕ) → count < length words → more ≡ set words count found → WereFound layer start view words count
    → WasFound layer start view count found → WereFound layer start view more (suc count)
found-more layer start view words more count found inside is before here slot past below =
    subst (λ (l : List ℕ). WasFound layer start view slot (get_or l slot past)) (sym is)
    (elim (cases_lt slot count) [
      | inl earlier ↦ subst (WasFound layer start view slot) (sym (get_or-set_other words count slot found past (λ same. absurd (omega arith)))) (before slot past earlier)
      | inr late ↦
          let last : count ≡ slot = omega arith in
          subst (λ (n : ℕ). WasFound layer start view n (get_or (set words count found) n past)) last
          (subst (WasFound layer start view count) (sym (get_or-set_same words count found past inside)) here)
    ])

module _ (before after : SlotSearch) (found : ℕ) (view next : View) (noted : HasNoted before found after) (more : KnowsMore view next) (is : known_word next (Slot before.layer before.slot) ≡ found) (some : found ≢ 0) where
  module _ (first : SlotSearch) (start : View) (searching : IsSearching first start before view) where
    later : IsSearching first start before next
    later = searching-later first start before view next more searching

    inside : before.slot < length before.words.items
    inside = search-inside first start before view searching

    here : WasFound first.layer start next before.slot found
    here = (
      some,
      point-now start next [] _ later.worked.adds
          ((λ i. word (sym (worked-sizes start next (begun start) later.worked) i) next.known (Slot (sym searching.layer i) before.slot)) ∙ is),
    )

    noted_found : WereFound first.layer start next after.words.items (suc before.slot)
    noted_found = found-more first.layer start next before.words.items after.words.items before.slot found inside noted.words later.found here

    noted_all : length after.words.items ≡ start.config.slots
    noted_all = ap (λ (l : List ℕ). length l) noted.words ∙ (length-set before.words.items before.slot found ∙ searching.all)

    noted-on : suc before.slot ≢ length before.words.items → IsSearching first start after next
    noted-on short = record {
      layer = noted.layer ∙ searching.layer;
      in_layers = searching.in_layers;
      rest = searching.rest;
      worked = later.worked;
      all = noted_all;
      below = let all = searching.all in let below = searching.below in let slot = noted.slot in omega arith;
      found = subst (WereFound first.layer start next after.words.items) (sym noted.slot) noted_found;
    }

    noted-last : suc before.slot ≡ length before.words.items → FoundNoSlot first.layer start next after.words.items
    noted-last full = record {
      done = worked-done start next (begun start) later.worked searching.rest refl (λ lock. refl);
      all = noted_all;
      each = λ slot past below. noted_found slot past (let all = searching.all in omega arith);
    }

  -- what is left falls
  noted-less : before.slot < length before.words.items → suc before.slot ≢ length before.words.items → search_left after < search_left before
  noted-less inside short =
      let slot = noted.slot in
      let same : length after.words.items ≡ length before.words.items = ap (λ (l : List ℕ). length l) noted.words ∙ length-set before.words.items before.slot found in
      let two : slot_turns after.is_empty ≡ 2 = ap slot_turns noted.unread in
      let one : 0 < slot_turns before.is_empty = some_turns before.is_empty in
      omega arith
    where
      some_turns : (t : Bool) → 0 < slot_turns t
      some_turns true = omega arith
      some_turns false = omega arith

  -- the turn that notes what was found there
  pub noted-turn : (turn : Turn (Option ℕ)) → turn ≡ cond (eqb (suc before.slot) (length before.words.items)) (Done None) More → before.slot < length before.words.items → AtMostOneStep view next → MadeBy view next None
      → IsSearchTurn turn before after view next
  noted-turn turn goes inside step made =
      subst (λ (t : Turn (Option ℕ)). IsSearchTurn t before after view next) (sym goes) (go (eqb (suc before.slot) (length before.words.items)) refl)
    where
      go : (t : Bool) → eqb (suc before.slot) (length before.words.items) ≡ t → IsSearchTurn (cond t (Done None) More) before after view next
      go true e = record {
        step = step;
        made = made;
        turned = tt;
        loads = tt;
        keeps = λ first start searching. tt;
        answered = λ first start searching. noted-last first start searching (eqb-true (suc before.slot) (length before.words.items) e);
      }
      go false e =
          let short : suc before.slot ≢ length before.words.items = eqb-false (suc before.slot) (length before.words.items) e in
          record {
            step = step;
            made = made;
            turned = inl (noted-less inside short);
            loads = tt;
            keeps = λ first start searching. noted-on first start searching short;
            answered = λ first start searching. tt;
          }

-- ---- the load

module _ (view next : View) (layer slot found : ℕ) (stepped : Stepped MayLoadSlot load_slot view (Slot layer slot) 0 0 found next) where
  pub slot-step : AtMostOneStep view next
  slot-step = one-step MayLoadSlot load_slot view next (Slot layer slot) 0 0 found stepped (λ before after steps. of_batches (loads_slot steps))

  pub slot-made : MadeBy view next None
  slot-made = made-by-step MayLoadSlot load_slot view next (Slot layer slot) 0 0 found stepped

  pub slot-more : KnowsMore view next
  slot-more = knows-more MayLoadSlot load_slot view next (Slot layer slot) 0 0 found stepped (λ v n f a b. refl) (λ w operand. refl)

  pub slot-is : known_word next (Slot layer slot) ≡ found
  slot-is = loaded-word MayLoadSlot load_slot view next (Slot layer slot) 0 0 found stepped (λ w operand. refl)

-- the slot was empty, and is to be exchanged
pub empty-turn : (before : SlotSearch) (view next : View) → before.is_empty ≡ false → KnowsMore view next → AtMostOneStep view next → MadeBy view next None
    → IsSearchTurn More before (record before { is_empty = true }) view next
empty-turn before view next unread more step made = record {
  step = step;
  made = made;
  turned = inl (let two : slot_turns before.is_empty ≡ 2 = ap slot_turns unread in omega arith);
  loads = tt;
  keeps = λ first start searching. let on = searching-later first start before view next more searching in record {
    layer = on.layer;
    in_layers = on.in_layers;
    rest = on.rest;
    worked = on.worked;
    all = on.all;
    below = on.below;
    found = on.found;
  };
  answered = λ first start searching. tt;
}

-- ---- the exchange

pub may-reserve : (view : View) (layer slot number own : ℕ) → IsPass view number → own ≡ number + 1 → MayReserve view (Slot layer slot) 0 own
may-reserve view layer slot number own pass is =
    record { layer = layer; slot = slot; number = number; names = refl; pass = pass; empty = refl; own = let one : number + 1 ≡ suc number = omega arith in is ∙ one }

-- it found another word
module _ (view next : View) (layer slot own found : ℕ) (stepped : Stepped MayReserve reserve view (Slot layer slot) 0 own found next) where
  pub reserve-step : AtMostOneStep view next
  reserve-step = one-step MayReserve reserve view next (Slot layer slot) 0 own found stepped (λ before after steps. of_batches (reserves steps))

  module _ (other : found ≢ 0) where
    left_so : (v : View) → reserve.leaves v (Slot layer slot) found 0 own ≡ v
    left_so v = ap (λ (t : Bool). cond t (record v { batches = v.batches ++ new_batch layer slot ∷ [] }) v) (ne_eqb found 0 other)

    pub reserve-missed : KnowsMore view next
    reserve-missed = missed-more MayReserve reserve view next (Slot layer slot) 0 own found stepped refl other left_so

    pub reserve-found : known_word next (Slot layer slot) ≡ found
    reserve-found = missed-word MayReserve reserve view next (Slot layer slot) 0 own found stepped refl other

    pub reserve-unmade : MadeBy view next None
    reserve-unmade = missed-made MayReserve reserve view next (Slot layer slot) 0 own found stepped refl other

-- or it found the slot empty, which is the pass's then
module _ (view next : View) (layer slot number : ℕ) (pass : IsPass view number) (stepped : Stepped MayReserve reserve view (Slot layer slot) 0 (reserved_by number) 0 next) where
  abbrev Reserved : Name
  Reserved = Slot layer slot

  abbrev exchange : Step
  exchange = step_by stepped.seat view stepped.number Reserved 0 (reserved_by number)

  reserved_now : next ≡ record view { batches = view.batches ++ new_batch layer slot ∷ []; known = next.known; joined = None }
  reserved_now = now-by MayReserve reserve view next Reserved 0 (reserved_by number) 0 stepped

  reserved_word : StoresWord view next Reserved (reserved_by number)
  reserved_word = hit-stores MayReserve reserve view next Reserved 0 (reserved_by number) 0 stepped refl refl

  reserved_made : MadeBy view next None
  reserved_made = made-entry MayReserve reserve view next Reserved 0 (reserved_by number) 0 stepped number (reserved_by number) pass refl

  module _ (start : View) (worked : HasWorked start view (begun start)) where
    reserved_left : next ≡ record view {
      known = next.known;
      joined = next.joined;
      call = next.call;
      batches = start.batches ++ new_batch layer slot ∷ [];
      loose = start.loose;
      written = start.written;
    }
    reserved_left =
        reserved_now
        ∙ (λ i. record view {
          known = next.known;
          joined = sym (ap (λ (v : View). v.joined) reserved_now) i;
          call = sym (ap (λ (v : View). v.call) reserved_now) i;
          batches = worked-batches start view (begun start) worked i ++ new_batch layer slot ∷ [];
          loose = worked-loose start view (begun start) worked i;
          written = worked-written start view (begun start) worked i;
        })

    log_same : stepped.before.log ≡ start.known ++ (worked.adds.since ++ stepped.since)
    log_same = stepped.learns ∙ (ap (λ (l : List Item). l ++ stepped.since) worked.adds.known ∙ append_assoc start.known worked.adds.since stepped.since)

    reserved_from : StoresFrom start next Reserved 0 (reserved_by number)
    reserved_from = record {
      since = worked.adds.since ++ stepped.since;
      item = item_of reserve exchange (reserved_by number);
      later = [];
      parts =
          ap (λ (v : View). v.known) stepped.leaves
          ∙ (λ i. log_same i ++ hit-gains MayReserve reserve view next Reserved 0 (reserved_by number) 0 stepped refl refl i);
      pass = sym (ap (λ (v : View). number_in v.role) worked.left) ∙ stepped.allowed.pass;
      named = refl;
      is = refl;
      was =
          (λ i. word ((sym (worked-sizes start view (begun start) worked) ∙ stepped-sizes MayReserve reserve view next Reserved 0 (reserved_by number) 0 stepped) i) (sym log_same i) Reserved)
          ∙ sym stepped.finds;
    }

    -- the pass had no batch for the slot: that would have reserved it
    reserved_alone : All (λ (b : Batch). ¬ IsForSlot layer slot b) start.batches
    reserved_alone k d below is_for =
        let batch = get_or start.batches k d in
        let among : Contains view.batches batch = subst (λ (l : List Batch). Contains l batch) (sym (worked-batches start view (begun start) worked)) (Contains-get_or start.batches k d below) in
        let word = slot-reserved stepped.before stepped.stands.formed stepped.stands.laws.bodies stepped.seat number layer slot view stepped.allowed.at pass (batch, among, is_for) in
        let empty = stepped.finds in
        absurd (omega arith)

    pub has-reserved : IsAtRest start → slot < start.config.slots → HasReserved layer start next slot
    has-reserved rest below =
        let told =
        worked-told start view next (begun start) worked Reserved (reserved_by number) None Nothing (start.batches ++ new_batch layer slot ∷ []) start.loose start.written reserved_word reserved_made
        (ap (λ (v : View). v.call.task) reserved_now ∙ worked.doing) reserved_left refl
        in
        record {
          number = number;
          pass = sym (ap (λ (v : View). number_in v.role) worked.left) ∙ pass;
          below = below;
          done = worked-done start next _ told rest refl (λ lock. refl);
          from = reserved_from;
          alone = reserved_alone;
        }

-- the turn that reserved it
pub reserved-turn : (before : SlotSearch) (view next : View) (number own : ℕ) → IsPass view number → own ≡ number + 1 → Stepped MayReserve reserve view (Slot before.layer before.slot) 0 own 0 next
    → IsSearchTurn (Done (Some before.slot)) before before view next
reserved-turn before view next number own pass is stepped =
    let one : own ≡ reserved_by number = (let more : number + 1 ≡ suc number = omega arith in is ∙ more) in
    let exact = subst (λ (n : ℕ). Stepped MayReserve reserve view (Slot before.layer before.slot) 0 n 0 next) one stepped in
    record {
      step = reserve-step view next before.layer before.slot own 0 stepped;
      made = reserved_made view next before.layer before.slot number pass exact;
      turned = tt;
      loads = tt;
      keeps = λ first start searching. tt;
      answered = λ first start searching.
          subst (λ (l : ℕ). HasReserved l start next before.slot) searching.layer (has-reserved view next before.layer before.slot number pass exact start searching.worked searching.rest searching.below);
    }

-- ---- what was answered

pub searched-rest : (first : SlotSearch) (start : View) (last : SlotSearch) (next : View) (answer : Option ℕ) → HasSearched first start last next answer → IsAtRest next
searched-rest first start last next (Some slot) searched = searched.done.rest
searched-rest first start last next None searched = searched.done.rest

-- the batch for the slot is the newest one
pub reserved-newest : (layer slot : ℕ) (start next : View) → HasReserved layer start next slot → IsNewest next start.batches (new_batch layer slot)
reserved-newest layer slot start next reserved = ap (λ (v : View). v.batches) reserved.done.left
