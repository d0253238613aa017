-- What calls tell that make no entry and store no word that is told: looks and meetings, and steps on locks.
use Rattle.std.specs.Prelude.{option_to_list}
use Rattle.std.proofs.Common.{◌≡◌, ◌≢◌, ◌⊎◌, inl, inr, ℕ, List, [], ◌++◌, None, Option, eqb, append_assoc, refl, ap, sym, ◌∙◌, subst}
use Rattle.std.proofs.lemmas.Bool.{ne_eqb}
use Rattle.std.proofs.lemmas.List.{append-nil}
use Rattle.std.proofs.lemmas.List.Elements.{All-append}
use Rattle.scene_model.specs.declared.entry.Made.{Made}
use Rattle.word_map.specs.declared.name.Name.TheVariants.{Lock}
use Rattle.core_state.specs.declared.item.Item.{Item}
use Rattle.core_state.specs.declared.view.Mode.{Mode}
use Rattle.core_state.specs.declared.view.View.{View}
use Rattle.core_state.specs.View.{number_in, IsPass}
use Rattle.core_state.specs.Kind.{gained_by}
use Rattle.core_state.specs.Locking.{MayLoadLock, load_lock, take, MayRelease, release}
use Rattle.core_state.proofs.Quiet.{KnowsQuietly-trans}
use Rattle.core_state.proofs.Steps.{gained-unstored}
use Rattle.pass_table.specs.Stepping.{step_by}
use Rattle.pass_table.specs.Belongings.{belongings_of}
use Rattle.pass_table.specs.Calls.{Adds}
use Rattle.pass_table.specs.Work.{Tells}
use Rattle.pass_table.specs.Holding.{LetGo}
use Rattle.pass_table.specs.Knowing.{KnowsMore, StoresAlone, alone-trans, more-alone}
use Rattle.pass_table.specs.TakeTurns.{taking_of, HasTaken, more-quiet}
use Rattle.pass_table.specs.Trying.{with_taken, LoadedLock, MayTake, ExchangedLock, Tried, WasBusy, WasLost}
use Rattle.pass_table.specs.Turning.{MadeBy}
use Rattle.pass_table.specs.declared.take_answer.Take.{Take}
use Rattle.pass_table.specs.declared.take_answer.Take.TheVariants.{Taken, Busy, Lost}
use Rattle.pass_table.proofs.Between.{more-trans}
use Rattle.pass_table.proofs.Calling.{Adds-refl, adds-more, adds-none, more-foreign, released-made, released-left}
use Rattle.pass_table.proofs.Knowing.{came-others, knows-more, step-alone, lock-step-quiet}
use Rattle.pass_table.proofs.Trying.{leaves-missed, leaves-taken}
use Rattle.pass_table.proofs.Turning.{exchanged-made}
use Rattle.pass_table.proofs.WorkLater.{tells-alone, tells-more}
use Rattle.pass_table.proofs.Working.{tells-refl}

-- ---- a pass that only came to know more

module _ (view next : View) (number : ℕ) (pass : IsPass view number) (more : KnowsMore view next) where
  pub more-adds : Adds view next []
  more-adds = adds-more view view next [] refl (Adds-refl view number pass) more

  pub more-tells : Tells view next []
  more-tells = tells-more view view next [] refl (tells-refl view number pass) more

  -- what it does then made the same entry since before
  pub made-after : (last : View) (made : Option Made) → MadeBy next last made → MadeBy view last made
  made-after last made by = record {
    number = by.number;
    pass = own;
    since = more.since ++ by.since;
    own = by.own;
    parts =
        by.parts
        ∙ ap (λ (l : List Item). l ++ option_to_list by.own) (ap (λ (l : List Item). l ++ by.since) more.known ∙ append_assoc view.known more.since by.since);
    foreign = All-append (λ (item : Item). item.pass ≢ by.number) more.since by.since (more-foreign view next by.number more own) by.foreign;
    by_pass = by.by_pass;
    entry = by.entry;
  }
    where
      own : IsPass view by.number
      own = sym (ap (λ (v : View). number_in v.role) more.rest) ∙ by.pass

-- and has all that it had
pub more-keeps : (view next : View) → KnowsMore view next → belongings_of next ≡ belongings_of view
more-keeps view next more = ap belongings_of more.rest

-- ---- tries of a lock

pub loaded-more : (view next : View) (lock found : ℕ) → LoadedLock view next lock found → KnowsMore view next
loaded-more view next lock found load = knows-more MayLoadLock load_lock view next (Lock lock) 0 0 found load (λ v n f a b. refl) (λ word operand. refl)

-- an exchange that found another word than the one expected stored nothing
pub missed-more : (view next : View) (lock : ℕ) (mode : Mode) (expected found : ℕ) → ExchangedLock view next lock mode expected found → found ≢ expected → KnowsMore view next
missed-more view next lock mode expected found exchange other =
    let step = exchange.step in
    let made = step_by step.seat view step.number (Lock lock) expected exchange.put in
    let left = leaves-missed (MayTake mode) mode view next lock expected exchange.put found step other in
    let nothing : gained_by (take mode) step.before made ≡ [] =
    gained-unstored (take mode) step.before made (ap (λ (n : ℕ). eqb n expected) (sym step.finds) ∙ ne_eqb found expected other)
    in
    record {
      since = step.since;
      known = ap (λ (v : View). v.known) step.leaves ∙ (ap (λ (l : List Item). step.before.log ++ l) nothing ∙ (append-nil step.before.log ∙ step.learns));
      others = came-others (MayTake mode) (take mode) view next (Lock lock) expected exchange.put found step;
      rest = left.rest;
    }

-- so does a try that did not take the lock
busy-more : (view next : View) (lock : ℕ) (mode : Mode) (of word : ℕ) → WasBusy view next lock mode of word → KnowsMore view next
busy-more view next lock mode of word busy = loaded-more view next lock word busy.load

lost-more : (view next : View) (lock : ℕ) (mode : Mode) (loaded found : ℕ) → WasLost view next lock mode loaded found → KnowsMore view next
lost-more view next lock mode loaded found lost =
    more-trans view lost.middle next (loaded-more view lost.middle lock loaded lost.load)
    (missed-more lost.middle next lock mode loaded found lost.exchange (λ same. lost.changed (sym same)))

pub tried-more : (view next : View) (lock : ℕ) (mode : Mode) (result : Take) → ((of : ℕ) × (word : ℕ) × (result ≡ Busy of word)) ⊎ ((loaded : ℕ) × (found : ℕ) × (result ≡ Lost loaded found))
    → Tried view next lock mode result → KnowsMore view next
tried-more view next lock mode result (inl t) tried = busy-more view next lock mode t.0 t.1 (subst (Tried view next lock mode) t.2 tried)
tried-more view next lock mode result (inr t) tried = lost-more view next lock mode t.0 t.1 (subst (Tried view next lock mode) t.2 tried)

-- ---- a lock was taken, by an exchange after the pass came to know more

module _ (start mid next : View) (lock : ℕ) (mode : Mode) (word number : ℕ) (pass : IsPass start number) (more : KnowsMore start mid) (hit : ExchangedLock mid next lock mode word word) where
  took-alone : StoresAlone start next (Lock lock)
  took-alone =
      alone-trans start mid next (Lock lock) (ap (λ (v : View). v.role) more.rest) (more-alone start mid (Lock lock) more)
      (step-alone (MayTake mode) (take mode) mid next (Lock lock) word hit.put word hit.step)

  pub took-lock : HasTaken (taking_of lock mode) start next
  took-lock =
      let left = leaves-taken (MayTake mode) mode mid next lock word hit.put word hit.step refl in
      record {
        left = record {
          known = (more.since ++ left.known.0, left.known.1 ∙ (ap (λ (l : List Item). l ++ left.known.0) more.known ∙ append_assoc start.known more.since left.known.0));
          rest = left.rest ∙ ap (λ (v : View). record v { known = next.known; joined = None; locks = with_taken v lock mode }) more.rest;
        };
        quiet =
            KnowsQuietly-trans start mid next (more.rest ∙ (λ i. record start { known = mid.known; joined = sym (ap (λ (v : View). v.joined) more.rest) i })) (more-quiet start mid more)
            (lock-step-quiet (MayTake mode) (take mode) mid next (Lock lock) word hit.put word hit.step lock refl);
        alone = took-alone;
      }

  pub took-made : MadeBy start next None
  took-made = made-after start mid number pass more next None (exchanged-made mid next lock mode word word hit)

  pub took-adds : Adds start next []
  took-adds = adds-none start start next [] refl (Adds-refl start number pass) took-made

  pub took-tells : Tells start next []
  took-tells = tells-alone start start next [] (Lock lock) refl (tells-refl start number pass) took-alone refl

  pub took-keeps : belongings_of next ≡ belongings_of start
  took-keeps = ap belongings_of took-lock.left.rest

-- ---- a try, whatever came of it

module _ (view next : View) (lock : ℕ) (mode : Mode) (number : ℕ) (pass : IsPass view number) where
  pub tried-adds : (result : Take) → Tried view next lock mode result → Adds view next []
  tried-adds Taken tried = took-adds view tried.middle next lock mode tried.word number pass (loaded-more view tried.middle lock tried.word tried.load) tried.exchange
  tried-adds (Busy of word) tried = more-adds view next number pass (busy-more view next lock mode of word tried)
  tried-adds (Lost loaded found) tried = more-adds view next number pass (lost-more view next lock mode loaded found tried)

  pub tried-tells : (result : Take) → Tried view next lock mode result → Tells view next []
  tried-tells Taken tried = took-tells view tried.middle next lock mode tried.word number pass (loaded-more view tried.middle lock tried.word tried.load) tried.exchange
  tried-tells (Busy of word) tried = more-tells view next number pass (busy-more view next lock mode of word tried)
  tried-tells (Lost loaded found) tried = more-tells view next number pass (lost-more view next lock mode loaded found tried)

-- ---- a lock was let go

module _ (view next : View) (lock found number : ℕ) (pass : IsPass view number) (go : LetGo view lock found next) where
  pub released-adds : Adds view next []
  released-adds = adds-none view view next [] refl (Adds-refl view number pass) (released-made view next lock found go number pass)

  pub released-tells : Tells view next []
  released-tells =
      tells-alone view view next [] (Lock lock) refl (tells-refl view number pass) (step-alone MayRelease release view next (Lock lock) go.0 0 found go.1) refl

  pub released-keeps : belongings_of next ≡ belongings_of view
  released-keeps = ap belongings_of (released-left view next lock found go)
