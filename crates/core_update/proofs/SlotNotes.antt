-- Noting a slot keeps all laws: no body was looked at yet, and a tree that is found in the slot stands there.
use Rattle.std.proofs.Common.{true, false, AllPairs, Bool, Contains, List, Option, Some, [], ap, arith, cond, inl, inr, refl, subst, sym, ℕ, ◌*◌, ◌++◌, ◌+◌, ◌-◌, ◌<◌, ◌∙◌, ◌∷◌, ◌≡◌, ◌≤◌, ◌⊎◌}
use Rattle.std.proofs.lemmas.Bool.{leb-true, false≢true}
use Rattle.std.proofs.lemmas.List.Elements.{Contains-append_cases}
use Rattle.std.specs.Prelude.{IfSome, nat_le, option_map}
use Rattle.word_map.specs.declared.config.Config.{Config}
use Rattle.word_map.specs.declared.name.Name.TheVariants.{Slot}
use Rattle.core_state.specs.BodiesCovered.{KeepsMerged, NotesHold, cover_scope}
use Rattle.core_state.specs.Core.{Core, word_of}
use Rattle.core_state.specs.Encoding.{slot_tree}
use Rattle.core_state.specs.Invariants.{Invariants}
use Rattle.core_state.specs.Kind.{Kind, Step, after_step, found_by, learned}
use Rattle.core_state.specs.NodesInOnePlace.{NodesInOnePlace, NodesInOnePlaceIn, node_scope}
use Rattle.core_state.specs.Noting.{IsEarly, MayNoteSlot, merged_with, note_slot, with_slot}
use Rattle.core_state.specs.Parts.{update_on_cover, update_on_nodes}
use Rattle.core_state.specs.Scope.{Sight, sight}
use Rattle.core_state.specs.Updates.{EachUpdate, merged_tree}
use Rattle.core_state.specs.declared.view.Merged.{Merged}
use Rattle.core_state.specs.declared.view.Noted.{Noted}
use Rattle.core_state.specs.declared.view.Rebuild.{Rebuild}
use Rattle.core_state.specs.declared.view.View.{View}
use Rattle.core_state.proofs.Guarding.{GuardsHold-load}
use Rattle.core_state.proofs.Opening.{none_in, only}
use Rattle.core_guard.proofs.Settled.{sound}
use Rattle.core_guard.proofs.Holders.{IsGuarded}
use Rattle.core_guard.proofs.Leaving.{Acts}
use Rattle.core_guard.proofs.Light.{Stores}
use Rattle.core_guard.proofs.Seats.{seen_of}
use Rattle.core_guard.proofs.Touched.{IsKept, kept}
use Rattle.core_batch.proofs.Lists.{pairs-append, pairs-cons, pairs-none}
use Rattle.core_update.proofs.EarlySteps.{Invariants-early, NotesGoOn}
use Rattle.core_update.proofs.OtherUpdate.{HasPlan}
use Rattle.core_update.proofs.Rebuilt.{IsAlone, Rebuilds, unseen-load}
use Rattle.core_update.proofs.Updating.{others-update-none, own-says}

module _ (layer slot found : ℕ) (merged : List Merged) where
  abbrev more : List Merged
  more = merged_with layer slot found merged

  abbrev new : Merged
  new = merged_tree layer slot (found - 1024)

  -- one that is merged was there, or is the new one
  merged-cases : (m : Merged) → Contains more m → Contains merged m ⊎ ((1024 ≤ found) × (new ≡ m))
  merged-cases m among = go (nat_le 1024 found) refl among
    where
      go : (test : Bool) → nat_le 1024 found ≡ test → Contains (cond test (merged ++ new ∷ []) merged) m → Contains merged m ⊎ ((1024 ≤ found) × (new ≡ m))
      go true e h = elim (Contains-append_cases merged (new ∷ []) m h) [ inl old ↦ inl old | inr last ↦ inr (leb-true 1024 found e, only new m last) ]
      go false e h = inl h

  merged-once : (R : Merged → Merged → Type 0) → ((m : Merged) → Contains merged m → R m new) → AllPairs R merged → AllPairs R more
  merged-once R apart pairs = go (nat_le 1024 found)
    where
      go : (test : Bool) → AllPairs R (cond test (merged ++ new ∷ []) merged)
      go true =
          pairs-append R merged (new ∷ []) pairs (pairs-cons R new [] (λ y c. absurd (none_in _ c)) (pairs-none R)) (λ x y front last. subst (R x) (only new y last) (apart x front))
      go false = pairs

module _ (core : Core) (step : Step) (a : Acts core step) (asked : MayNoteSlot step.view step.name step.first step.second) where
  abbrev kind : Kind
  kind = note_slot

  abbrev After : Core
  After = after_step kind core step

  abbrev r : Rebuild
  r = asked.r

  abbrev found : ℕ
  found = found_by core step

  abbrev noted : Rebuild
  noted = record r { slots_read = r.slots_read + 1; merged = merged_with asked.layer asked.slot found r.merged }

  alone : IsAlone core step
  alone = others-update-none core a.laws a.formed step a.at a.pass r asked.update

  unstored : ¬ Stores kind core step
  unstored stored = false≢true stored

  rebuilds : Rebuilds kind core step (Some noted)
  rebuilds = record {
    hidden = λ stored. absurd (unstored stored);
    entry = λ value. refl;
    leaves = λ i. record (learned core step) { rebuild = option_map (with_slot (asked.names i) found) (asked.update i) };
  }

  before : IfSome step.view.rebuild IsEarly
  before = subst (λ (o : Option Rebuild). IfSome o IsEarly) (sym asked.update) asked.early

  after : IsEarly noted
  after =
      let e = asked.early in
      record { unplanned = e.unplanned; placed = e.placed; given_up = e.given_up; swapped = e.swapped; cleared = e.cleared; promoted = e.promoted; readers = e.readers; unreclaimed = e.unreclaimed; returning = e.returning; unswitched = e.unswitched }

  homes : NodesInOnePlace a.laws.nodes After
  homes =
      unseen-load kind core step a (Some noted) rebuilds unstored node_scope (NodesInOnePlaceIn a.laws.nodes)
      (λ i. record (seen_of node_scope step.number step.view) { rebuild = option_map update_on_nodes (sym asked.update i) }) a.laws.places

  -- ---- notes

  own-cover : (P : ℕ → View → Rebuild → Type 0) → EachUpdate (sight cover_scope core) P → P step.number (seen_of cover_scope step.number step.view) (update_on_cover r)
  own-cover = own-says cover_scope (λ k v. refl) update_on_cover (λ k v. refl) core step.seat step.number step.view r a.at a.pass asked.update

  abbrev Sees : Sight
  Sees = sight cover_scope core

  abbrev Now : Sight
  Now = record Sees { passes = (sight cover_scope After).passes }

  was : NotesHold a.laws.nodes Sees (seen_of cover_scope step.number step.view) (update_on_cover r)
  was = own-cover (λ k v q. NotesHold a.laws.nodes Sees v q) a.laws.cover.notes

  kept-merged : KeepsMerged Sees (update_on_cover r)
  kept-merged = own-cover (λ k v q. KeepsMerged Sees q) a.laws.cover.merged

  none-noted : (n : Noted) → ¬ Contains r.noted n
  none-noted n among = let below = was.passed n among in let none = asked.no_bodies in absurd (omega arith)

  -- the slot that is read next
  next-place : r.slots_read ≡ asked.layer * core.config.slots + asked.slot
  next-place = asked.next ∙ ap (λ (c : Config). asked.layer * c.slots + asked.slot) (sound core step a).config

  merges : KeepsMerged Now (update_on_cover noted)
  merges = record {
    stand = λ l t root merged.
        elim (merged-cases asked.layer asked.slot found r.merged (merged_tree l t root) (merged.0, merged.2, merged.3)) [
          | inl old ↦ kept-merged.stand l t root (old.0, let none = asked.early.cleared in omega arith, old.1, old.2)
          | inr new ↦
              let low = new.0 in
              let same : slot_tree (found - 1024) ≡ slot_tree root = ap (λ (m : Merged). slot_tree m.root) new.1 in
              ap (word_of core) (λ i. Slot (sym new.1 i).layer (sym new.1 i).slot) ∙ (ap (word_of core) (sym asked.names) ∙ omega arith)
        ];
    read = λ m among.
        elim (merged-cases asked.layer asked.slot found r.merged m among) [
          | inl old ↦ let below = kept-merged.read m old in omega arith
          | inr new ↦ subst (λ (x : Merged). x.layer * core.config.slots + x.slot < r.slots_read + 1) new.1 (let next = next-place in omega arith)
        ];
    each_once = merged-once asked.layer asked.slot found r.merged (λ x y. ¬ ((x.layer ≡ y.layer) × (x.slot ≡ y.slot)))
        (λ m among same. let below = kept-merged.read m among in let next = next-place in let layer = ap (λ (l : ℕ). l * core.config.slots) same.0 in let slot = same.1 in absurd (omega arith)) kept-merged.each_once;
  }

  notes : NotesGoOn a.laws.nodes kind core step (Some noted)
  notes = record {
    to_place = λ i l t root below. let none = asked.no_bodies in absurd (omega arith);
    notes = record {
      all_noted = λ i opened. let below = opened.0 in let none = asked.no_bodies in absurd (omega arith);
      still_there = λ n among. absurd (none-noted n among);
      located = λ n among. absurd (none-noted n among);
      in_old = λ n among. absurd (none-noted n among);
      placed = λ i among. absurd (none_in i (subst (λ (l : List ℕ). Contains l i) asked.early.placed among));
      given_up = λ i among. absurd (none_in i (subst (λ (l : List ℕ). Contains l i) asked.early.given_up among));
      once = was.once;
      passed = was.passed;
      boxes = was.boxes;
      begun = was.begun;
    };
    merged = merges;
    early = asked.early.swapped;
  }

  Invariants-notes : Invariants After
  Invariants-notes =
      Invariants-early kind core step a (Some noted) rebuilds alone before after
      (λ index n k placing plan. subst (λ (o : Option Rebuild). HasPlan o index n k) asked.update plan)
      (λ index n k placing plan. subst (λ (o : Option Rebuild). HasPlan o index n k) (sym asked.update) plan) notes homes

-- ---- kind 17, for an update

pub Invariants-note_slot : IsKept MayNoteSlot note_slot
Invariants-note_slot = kept MayNoteSlot note_slot (λ core step a asked. Invariants-notes core step a asked)

pub GuardsHold-note_slot : IsGuarded MayNoteSlot note_slot
GuardsHold-note_slot before after steps formed laws guards = GuardsHold-load MayNoteSlot note_slot before after (λ found first. refl) steps guards
