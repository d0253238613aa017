-- How a call goes on, and how its parts follow each other.
use Rattle.std.specs.Prelude.{option_map, option_to_list}
use Rattle.std.proofs.Common.{◌≡◌, ℕ, List, [], ◌∷◌, ◌++◌, Bool, true, false, not, Option, Some, None, cond, eqb, filter_map, append_assoc, refl, ap, sym, ◌∙◌, subst}
use Rattle.std.specs.List.{cons_option}
use Rattle.std.proofs.lemmas.Bool.{eq-eqb}
use Rattle.std.proofs.lemmas.Option.{same_Some}
use Rattle.std.proofs.lemmas.List.{append-nil}
use Rattle.std.proofs.lemmas.List.Elements.{All-head, filter_map-append}
use Rattle.scene_model.specs.declared.entry.Entry.{Entry}
use Rattle.scene_model.specs.declared.entry.Made.{Made}
use Rattle.word_map.specs.declared.name.Name.{Name}
use Rattle.word_map.specs.declared.name.Name.TheVariants.{Lock, LocA, LocB}
use Rattle.core_state.specs.declared.item.Item.{Item}
use Rattle.core_state.specs.declared.item.Store.{Store}
use Rattle.core_state.specs.declared.view.Mode.{Mode}
use Rattle.core_state.specs.declared.view.LockStep.{LockStep}
use Rattle.core_state.specs.declared.view.LockStep.TheVariants.{Taken as TakenStep, Released}
use Rattle.core_state.specs.declared.view.Task.{Task}
use Rattle.core_state.specs.declared.view.Task.TheVariants.{Nothing}
use Rattle.core_state.specs.declared.view.Batch.{Batch}
use Rattle.core_state.specs.declared.view.View.{View}
use Rattle.core_state.specs.Log.{IsPrefix}
use Rattle.core_state.specs.View.{IsPass, mode_of}
use Rattle.core_state.specs.Locking.{MayRelease, release}
use Rattle.core_state.proofs.Quiet.{append_cut, in_first, in_second, no_cut, one_cut}
use Rattle.pass_table.specs.Knowing.{StoresAlone}
use Rattle.pass_table.specs.Turning.{MadeBy}
use Rattle.pass_table.specs.Holding.{LetGo, IsAtRest}
use Rattle.pass_table.specs.Trying.{Waited}
use Rattle.pass_table.specs.TakeTurns.{taking_of, HasTaken}
use Rattle.pass_table.specs.Calls.{own_entry, Adds, AtPoint, StoresWord}
use Rattle.pass_table.specs.Belongings.{belongings_of}
use Rattle.pass_table.proofs.Knowing.{step-alone}
use Rattle.pass_table.proofs.Calling.{Adds-refl, adds-made, released-made, released-left, released-task}
use Rattle.pass_table.proofs.WorkLater.{same_pass, none-told, tells_on, tells-alone, spares-then, spares-alone, worked-role, worked-pass, worked-mode}
use Rattle.pass_table.specs.Work.{is_told, told_store, told_stores, Tells, is_location, SparesLocations, is_shown, Work, begun, with_lock, HasWorked, Outcome, HasDone, followed, outcome_of, idle}

-- ---- stores that are told

pub tells-refl : (view : View) (number : ℕ) → IsPass view number → Tells view view []
tells-refl view number pass = record { number = number; pass = pass; since = []; known = sym (append-nil view.known); told = refl }

-- a store that is told
pub tells-stored : (start view next : View) (stores : List Store) (name : Name) (value : ℕ) → view.role ≡ start.role → Tells start view stores → StoresWord view next name value → is_told name ≡ true
    → Tells start next (stores ++ (record { name = name; value = value }) ∷ [])
tells-stored start view next stores name value role tells word told =
    tells_on start view next stores (record { name = name; value = value } ∷ []) tells (word.advances.since ++ word.item ∷ [])
    (word.advances.known ∙ append_assoc view.known word.advances.since (word.item ∷ []))
    (filter_map-append (told_store number) word.advances.since (word.item ∷ []) ∙ (λ i. others i ++ own i))
  where
    number : ℕ
    number = tells.number

    pass : IsPass view number
    pass = same_pass start view number role tells.pass

    others : told_stores number word.advances.since ≡ []
    others =
        none-told view number (Lock 0) pass refl word.advances.since
        (λ early later item parts mine. absurd ((word.advances.others early later item parts).foreign mine))

    by_pass : word.item.pass ≡ number
    by_pass = same_Some word.item.pass number (sym (All-head (λ (it : Item). IsPass view it.pass) word.item [] word.advances.mine) ∙ pass)

    own : told_stores number (word.item ∷ []) ≡ (record { name = name; value = value }) ∷ []
    own =
        ap (λ (o : Option Store). cons_option o [])
        (ap (λ (t : Bool). cond {A = Option Store} t (cond (eqb word.item.pass number) (Some (record { name = word.item.name; value = word.item.value })) None) None) (ap is_told word.named ∙ told)
        ∙ (ap (λ (t : Bool). cond {A = Option Store} t (Some (record { name = word.item.name; value = word.item.value })) None) (eq-eqb word.item.pass number by_pass)
        ∙ (λ i. Some (record { name = word.named i; value = word.is i }))))

-- two parts
pub tells-then : (start mid next : View) (stores more : List Store) → mid.role ≡ start.role → Tells start mid stores → Tells mid next more → Tells start next (stores ++ more)
tells-then start mid next stores more role tells later =
    tells_on start mid next stores more tells later.since later.known
    (subst (λ (n : ℕ). told_stores n later.since ≡ more) (same_Some later.number tells.number (sym later.pass ∙ same_pass start mid tells.number role tells.pass)) later.told)

pub adds-then : (start mid next : View) (entries more : List Entry) → mid.role ≡ start.role → Adds start mid entries → Adds mid next more → Adds start next (entries ++ more)
adds-then start mid next entries more role adds later = record {
  number = adds.number;
  pass = adds.pass;
  since = adds.since ++ later.since;
  known = later.known ∙ (ap (λ (l : List Item). l ++ later.since) adds.known ∙ append_assoc start.known adds.since later.since);
  own =
      filter_map-append (own_entry adds.number) adds.since later.since
      ∙ (λ i. adds.own i ++ subst (λ (n : ℕ). filter_map (own_entry n) later.since ≡ more) (same_Some later.number adds.number (sym later.pass ∙ same_pass start mid adds.number role adds.pass)) later.own i);
}

-- ---- locations

pub spares-refl : (view : View) → SparesLocations view view
spares-refl view = record { since = []; known = sym (append-nil view.known); own = λ early later item parts mine. absurd (no_cut item early later parts) }

-- a word was stored that is no location
spares-word : (view next : View) (name : Name) (value : ℕ) → StoresWord view next name value → is_location name ≡ false → SparesLocations view next
spares-word view next name value word other = record {
  since = word.advances.since ++ word.item ∷ [];
  known = word.advances.known ∙ append_assoc view.known word.advances.since (word.item ∷ []);
  own = λ early later item parts mine.
      elim (append_cut word.advances.since (word.item ∷ []) early later item parts) [
        | in_first rest p ↦ absurd ((word.advances.others early rest item p).foreign mine)
        | in_second front p q ↦ ap is_location (ap (λ (it : Item). it.name) (one_cut word.item item front later q) ∙ word.named) ∙ other
      ];
}

told-elsewhere : (name : Name) → is_told name ≡ true → is_location name ≡ false
told-elsewhere (LocA index) told = absurd cc
told-elsewhere (LocB index) told = absurd cc
told-elsewhere _ told = refl

-- a word that need not be shown is not told, and no location where none may be stored
hidden-untold : (places : Bool) (name : Name) → is_shown places name ≡ false → is_told name ≡ false
hidden-untold places name hidden = go (is_told name) hidden
  where
    go : (t : Bool) → cond t true (cond (is_location name) (not places) false) ≡ false → t ≡ false
    go false h = refl
    go true h = absurd cc

hidden-elsewhere : (places : Bool) (name : Name) → is_shown places name ≡ false → places ≡ false → is_location name ≡ false
hidden-elsewhere places name hidden none = go (is_told name) (is_location name) places hidden none
  where
    go : (t l p : Bool) → cond t true (cond l (not p) false) ≡ false → p ≡ false → l ≡ false
    go false false p h n = refl
    go true l p h n = absurd cc
    go false true false h n = absurd cc
    go false true true h n = absurd cc

neither : (a b : Bool) → cond a true b ≡ false → (a ≡ false) × (b ≡ false)
neither false b e = (refl, e)
neither true b e = absurd cc

-- a call that is told as one that may have stored locations
pub worked-loosely : (start view : View) (w : Work) → HasWorked start view w → HasWorked start view (record w { places = true })
worked-loosely start view w worked = record { adds = worked.adds; tells = worked.tells; spares = λ none. absurd cc; doing = worked.doing; left = worked.left }

-- ---- calls under way

pub worked-begun : (view : View) (number : ℕ) → IsPass view number → IsAtRest view → HasWorked view view (begun view)
worked-begun view number pass rest = record {
  adds = Adds-refl view number pass;
  tells = tells-refl view number pass;
  spares = λ none. spares-refl view;
  doing = rest.done;
  left = λ i. record view { locks = sym (append-nil view.locks) i };
}

module _ (start view : View) (w : Work) (worked : HasWorked start view w) where
  -- with no lock held at the end the pass is at rest again
  pub worked-done : IsAtRest start → w.task ≡ Nothing → ((lock : ℕ) → mode_of w.steps lock ≡ None) → HasDone start view (outcome_of w)
  worked-done rest none free = record {
    adds = worked.adds;
    tells = worked.tells;
    spares = worked.spares;
    rest = record { free = λ lock. worked-mode start view w worked rest lock ∙ free lock; done = worked.doing ∙ none; still = ap (λ (v : View). v.walk.is_on) worked.left ∙ rest.still };
    left =
        worked.left
        ∙ (λ i. record start { known = view.known; joined = view.joined; locks = sym (ap (λ (v : View). v.locks) worked.left) i; call = view.call; batches = w.batches; loose = w.loose; written = w.written });
  }

-- what comes after some steps is so much of what was there at the start
module _ (start view next : View) (w : Work) (worked : HasWorked start view w) where
  left_on : (locks : List LockStep) (batches : List Batch) (loose : List ℕ) (written : List Store)
      → next ≡ record view { known = next.known; joined = next.joined; locks = locks; call = next.call; batches = batches; loose = loose; written = written }
      → next ≡ record start { known = next.known; joined = next.joined; locks = locks; call = next.call; batches = batches; loose = loose; written = written }
  left_on locks batches loose written left =
      left ∙ ap (λ (v : View). record v { known = next.known; joined = next.joined; locks = locks; call = next.call; batches = batches; loose = loose; written = written }) worked.left

  -- the pass waited for a lock
  pub worked-waited : (lock : ℕ) → Waited view next → MadeBy view next None → StoresAlone view next (Lock lock) → HasWorked start next w
  worked-waited lock waited by alone = record {
    adds = subst (Adds start next) (append-nil w.entries) (adds-made start view next w.entries None (worked-role start view w worked) worked.adds by);
    tells = tells-alone start view next w.stores (Lock lock) (worked-role start view w worked) worked.tells alone refl;
    spares = λ none. spares-alone start view next (Lock lock) (worked-role start view w worked) (worked.spares none) alone refl;
    doing = ap (λ (v : View). v.call.task) waited.rest ∙ worked.doing;
    left =
        waited.rest
        ∙ (ap (λ (v : View). record v { known = next.known; joined = next.joined }) worked.left
        ∙ (λ i. record start {
          known = next.known;
          joined = next.joined;
          locks = start.locks ++ w.steps;
          call = sym (ap (λ (v : View). v.call) waited.rest) i;
          batches = w.batches;
          loose = w.loose;
          written = w.written;
        }));
  }

  -- or took it
  pub worked-taken : (lock : ℕ) (mode : Mode) → HasTaken (taking_of lock mode) view next → MadeBy view next None → HasWorked start next (with_lock w (TakenStep lock mode))
  worked-taken lock mode taken by = record {
    adds = subst (Adds start next) (append-nil w.entries) (adds-made start view next w.entries None (worked-role start view w worked) worked.adds by);
    tells = tells-alone start view next w.stores (Lock lock) (worked-role start view w worked) worked.tells taken.alone refl;
    spares = λ none. spares-alone start view next (Lock lock) (worked-role start view w worked) (worked.spares none) taken.alone refl;
    doing = ap (λ (v : View). v.call.task) taken.left.rest ∙ worked.doing;
    left =
        taken.left.rest
        ∙ (ap (λ (v : View). record v { known = next.known; joined = None; locks = v.locks ++ TakenStep lock mode ∷ [] }) worked.left
        ∙ (λ i. record start {
          known = next.known;
          joined = sym (ap (λ (v : View). v.joined) taken.left.rest) i;
          locks = append_assoc start.locks w.steps (TakenStep lock mode ∷ []) i;
          call = sym (ap (λ (v : View). v.call) taken.left.rest) i;
          batches = w.batches;
          loose = w.loose;
          written = w.written;
        }));
  }

  -- a lock was let go
  pub worked-released : (lock found : ℕ) → LetGo view lock found next → w.task ≡ Nothing → HasWorked start next (with_lock w (Released lock))
  worked-released lock found go none = record {
    adds =
        subst (Adds start next) (append-nil w.entries)
        (adds-made start view next w.entries None (worked-role start view w worked) worked.adds (released-made view next lock found go worked.adds.number (worked-pass start view w worked)));
    tells =
        tells-alone start view next w.stores (Lock lock) (worked-role start view w worked) worked.tells (step-alone MayRelease release view next (Lock lock) go.0 0 found go.1) refl;
    spares = λ none. spares-alone start view next (Lock lock) (worked-role start view w worked) (worked.spares none) (step-alone MayRelease release view next (Lock lock) go.0 0 found go.1) refl;
    doing = released-task view next lock found go ∙ sym none;
    left =
        released-left view next lock found go
        ∙ (ap (λ (v : View). record v { known = next.known; joined = next.joined; locks = v.locks ++ Released lock ∷ []; call = next.call }) worked.left
        ∙ (λ i. record start {
          known = next.known;
          joined = next.joined;
          locks = append_assoc start.locks w.steps (Released lock ∷ []) i;
          call = next.call;
          batches = w.batches;
          loose = w.loose;
          written = w.written;
        }));
  }

  -- a step on a word that is not told, with this entry or none, which left the pass with this task
  pub worked-made : (name : Name) (made : Option Made) (task : Task) → is_shown w.places name ≡ false → StoresAlone view next name → MadeBy view next made
      → next ≡ record view { known = next.known; joined = next.joined; call = next.call } → next.call.task ≡ task
      → HasWorked start next (record w { task = task; entries = w.entries ++ option_to_list (option_map (λ (m : Made). m.entry) made) })
  worked-made name made task silent alone by left doing = record {
    adds = adds-made start view next w.entries made (worked-role start view w worked) worked.adds by;
    tells = tells-alone start view next w.stores name (worked-role start view w worked) worked.tells alone (hidden-untold w.places name silent);
    spares = λ none. spares-alone start view next name (worked-role start view w worked) (worked.spares none) alone (hidden-elsewhere w.places name silent none);
    doing = doing;
    left = left ∙ ap (λ (v : View). record v { known = next.known; joined = next.joined; call = next.call }) worked.left;
  }

  -- a word was stored, with this entry or none, which left the pass with this task, these batches and these nodes
  module _ (name : Name) (value : ℕ) (made : Option Made) (task : Task) (batches : List Batch) (loose : List ℕ) (written : List Store)
      (word : StoresWord view next name value) (by : MadeBy view next made) (doing : next.call.task ≡ task)
      (left : next ≡ record view { known = next.known; joined = next.joined; call = next.call; batches = batches; loose = loose; written = written }) where
    stored_left : next ≡ record start { known = next.known; joined = next.joined; locks = start.locks ++ w.steps; call = next.call; batches = batches; loose = loose; written = written }
    stored_left = left ∙ ap (λ (v : View). record v { known = next.known; joined = next.joined; call = next.call; batches = batches; loose = loose; written = written }) worked.left

    abbrev after_store : List Store → Work
    after_store stores = record {
      steps = w.steps;
      task = task;
      entries = w.entries ++ option_to_list (option_map (λ (m : Made). m.entry) made);
      stores = stores;
      batches = batches;
      loose = loose;
      written = written;
      places = w.places;
    }

    pub worked-told : is_told name ≡ true → HasWorked start next (after_store (w.stores ++ (record { name = name; value = value }) ∷ []))
    worked-told told = record {
      adds = adds-made start view next w.entries made (worked-role start view w worked) worked.adds by;
      tells = tells-stored start view next w.stores name value (worked-role start view w worked) worked.tells word told;
      spares = λ none. spares-then start view next (worked-role start view w worked) (worked.spares none) (spares-word view next name value word (told-elsewhere name told));
      doing = doing;
      left = stored_left;
    }

    pub worked-untold : is_shown w.places name ≡ false → StoresAlone view next name → HasWorked start next (after_store w.stores)
    worked-untold silent alone = record {
      adds = adds-made start view next w.entries made (worked-role start view w worked) worked.adds by;
      tells = tells-alone start view next w.stores name (worked-role start view w worked) worked.tells alone (hidden-untold w.places name silent);
      spares = λ none. spares-alone start view next name (worked-role start view w worked) (worked.spares none) alone (hidden-elsewhere w.places name silent none);
      doing = doing;
      left = stored_left;
    }

-- ---- parts of calls

-- what is known after a call begins with what was known before
pub done-prefix : (start next : View) (o : Outcome) → HasDone start next o → IsPrefix start.known next.known
done-prefix start next o done = (done.adds.since, done.adds.known)

-- a pass that does nothing
pub done-idle : (view : View) (number : ℕ) → IsPass view number → IsAtRest view → HasDone view view (idle view)
done-idle view number pass rest = record { adds = Adds-refl view number pass; tells = tells-refl view number pass; spares = λ none. spares-refl view; rest = rest; left = refl }

-- what the pass has afterwards beside its locks and its task
pub done-keeps : (start next : View) (o : Outcome) → HasDone start next o → belongings_of next ≡ record (belongings_of start) { batches = o.batches; loose = o.loose; written = o.written }
done-keeps start next o done = ap belongings_of done.left

-- two parts one after the other
pub done-then : (start mid next : View) (first second : Outcome) → HasDone start mid first → HasDone mid next second → HasDone start next (followed first second)
done-then start mid next first second one two =
    let role : mid.role ≡ start.role = ap (λ (v : View). v.role) one.left in
    record {
      adds = adds-then start mid next first.entries second.entries role one.adds two.adds;
      tells = tells-then start mid next first.stores second.stores role one.tells two.tells;
      spares = λ none. let both = neither first.places second.places none in spares-then start mid next role (one.spares both.0) (two.spares both.1);
      rest = two.rest;
      left =
          two.left
          ∙ ap (λ (v : View). record v { known = next.known; joined = next.joined; locks = next.locks; call = next.call; batches = second.batches; loose = second.loose; written = second.written }) one.left;
    }

-- a point of a later part is one of the whole call
pub point-from : (start mid next : View) (fact : List Item → Type 0) → IsPrefix start.known mid.known → AtPoint mid next fact → AtPoint start next fact
point-from start mid next fact early point = record {
  since = early.0 ++ point.since;
  later = point.later;
  parts = point.parts ∙ ap (λ (l : List Item). l ++ point.later) (same);
  holds = subst fact same point.holds;
}
  where
    same : mid.known ++ point.since ≡ start.known ++ (early.0 ++ point.since)
    same = ap (λ (l : List Item). l ++ point.since) early.1 ∙ append_assoc start.known early.0 point.since
