-- Loading the word of a reader: the update notes what it found. A pass of which it found an even value, or two values that are
-- not the same, walks in nothing that is out of sight. As long as some pass may, no more than the note is new.
use Rattle.std.proofs.Common.{Bool, Option, Some, [], ap, arith, false, inl, inr, option_map, refl, subst, sym, true, ℕ, ◌%◌, ◌∙◌, ◌≡◌}
use Rattle.std.proofs.lemmas.Bool.{false≢true}
use Rattle.std.proofs.lemmas.List.Elements.{Contains-append_cases}
use Rattle.std.specs.Prelude.{List, ◌++◌, ◌∷◌}
use Rattle.word_map.specs.declared.name.Name.TheVariants.{Reader}
use Rattle.core_state.specs.BodiesAgree.{BodiesAgreeIn, body_scope}
use Rattle.core_state.specs.BodiesCovered.{BodiesCoveredIn, cover_scope}
use Rattle.core_state.specs.Core.{Core, word_of}
use Rattle.core_state.specs.Invariants.{Invariants}
use Rattle.core_state.specs.Kind.{Step, after_step, found_by, learned}
use Rattle.core_state.specs.LocationsHold.{LocationsHoldIn, location_scope}
use Rattle.core_state.specs.LocksAgree.{LocksAgreeIn, lock_scope}
use Rattle.core_state.specs.Nodes.{Nodes}
use Rattle.core_state.specs.NodesInOnePlace.{NodesInOnePlaceIn, node_scope}
use Rattle.core_state.specs.Parts.{update_on_cover, update_on_nodes, update_on_places, update_on_readers, update_on_trees}
use Rattle.core_state.specs.ReadersCounted.{AvoidsSuperseded, HasSeenOff, IsTight, ReadersCounted, ReadersCountedIn, reader_scope}
use Rattle.core_state.specs.Retiring.{MayLoadReader, is_unreached, load_reader, reclaimed_if, with_reader}
use Rattle.core_state.specs.Scope.{EachPass, Sight, sight}
use Rattle.core_state.specs.TreesSound.{TreesSoundIn, tree_scope}
use Rattle.core_state.specs.Updates.{EachUpdate}
use Rattle.core_state.specs.WalksLead.{WalksLeadIn, walk_scope}
use Rattle.core_state.specs.declared.item.Load.{Load}
use Rattle.core_state.specs.declared.view.Rebuild.{Rebuild}
use Rattle.core_state.specs.declared.view.View.{View}
use Rattle.core_state.proofs.Guarding.{GuardsHold-load}
use Rattle.core_state.proofs.Opening.{only}
use Rattle.core_guard.proofs.Holders.{IsGuarded}
use Rattle.core_guard.proofs.Leaving.{Acts}
use Rattle.core_guard.proofs.Light.{Stores}
use Rattle.core_guard.proofs.Seats.{seen_of}
use Rattle.core_update.proofs.OtherUpdate.{ChangesUpdate, ReadersCounted-goes, ReadersGoOn, tight-next}
use Rattle.core_update.proofs.Rebuilt.{IsAlone, Rebuilds, changes, moved, unseen-load}
use Rattle.core_update.proofs.Updating.{others-update-none, own-says}

module _ (core : Core) (step : Step) (a : Acts core step) (asked : MayLoadReader step.view step.name step.first step.second) where
  abbrev r : Rebuild
  r = asked.r

  abbrev found : ℕ
  found = found_by core step

  abbrev new : Load
  new = record { name = step.name; value = found }

  abbrev pub loaded : Rebuild
  loaded = record r { readers = r.readers ++ new ∷ [] }

  pub alone : IsAlone core step
  alone = others-update-none core a.laws a.formed step a.at a.pass r asked.update

  pub unstored : ¬ Stores load_reader core step
  unstored stored = false≢true stored

  -- what the update is then, be it as it was but for the load, or with what is to be given back
  module _ (last : Rebuild) (is : reclaimed_if (is_unreached step.view.config loaded) loaded ≡ last) where
    pub rebuilds : Rebuilds load_reader core step (Some last)
    rebuilds = record {
      hidden = λ stored. absurd (unstored stored);
      entry = λ value. refl;
      leaves = ap (λ (o : Option Rebuild). record (learned core step) { rebuild = option_map (with_reader step.view.config step.name found) o }) asked.update
          ∙ ap (λ (next : Rebuild). record (learned core step) { rebuild = Some next }) is;
    }

    -- ---- readers

    module _ (seen : update_on_readers last ≡ update_on_readers loaded) where
      abbrev nodes : Nodes
      nodes = a.laws.nodes

      abbrev Sees : Sight
      Sees = sight reader_scope core

      abbrev Later : List View
      Later = (sight reader_scope (after_step load_reader core step)).passes

      abbrev Now : Sight
      Now = record Sees { passes = Later }

      abbrev mine : View
      mine = seen_of reader_scope step.number step.view

      own-readers : (P : ℕ → View → Rebuild → Type 0) → EachUpdate Sees P → P step.number mine (update_on_readers r)
      own-readers = own-says reader_scope (λ k v. refl) update_on_readers (λ k v. refl) core step.seat step.number step.view r a.at a.pass asked.update

      changed : ChangesUpdate Sees Later step.number mine (Some (update_on_readers loaded))
      changed =
          subst (λ (x : Rebuild). ChangesUpdate Sees Later step.number mine (Some x)) seen
          (changes load_reader core step a (Some last) rebuilds alone reader_scope (λ k v. refl) update_on_readers refl (λ number view e. ap (option_map update_on_readers) e))

      -- a pass was seen off before, or does not walk
      abbrev IsOff : ℕ → View → Type 0
      IsOff q view = (HasSeenOff Sees (update_on_readers r) q → AvoidsSuperseded nodes Sees step.number view.walk) × (view.walk.is_on ≡ true → word_of core (Reader q) % 2 ≡ 1)

      off-then : (q : ℕ) (view : View) → IsOff q view → HasSeenOff Now (update_on_readers loaded) q → AvoidsSuperseded nodes Now step.number view.walk
      off-then q view off (value, among, cases) =
          elim (Contains-append_cases r.readers (new ∷ []) _ among) [
            | inl old ↦ off.0 (value, old, cases)
            | inr last ↦
                let same = only new _ last in
                let is : value ≡ word_of core (Reader q) = ap (λ (l : Load). l.value) (sym same) ∙ ap (λ (l : Load). word_of core l.name) same in
                λ on query follows m name reached.
                elim cases [
                  | inl even ↦ let odd = off.1 on in let both : value % 2 ≡ word_of core (Reader q) % 2 = ap (λ (x : ℕ). x % 2) is in absurd (omega arith)
                  | inr differs ↦ absurd (differs is)
                ]
          ]

      off-each : EachPass Now (λ q other. HasSeenOff Now (update_on_readers loaded) q → AvoidsSuperseded nodes Now step.number other.walk)
      off-each =
          changed.each IsOff (λ q view. HasSeenOff Now (update_on_readers loaded) q → AvoidsSuperseded nodes Now step.number view.walk)
          (λ q view among pass. (
            own-readers (λ k v x. EachPass Sees (λ p other. HasSeenOff Sees x p → AvoidsSuperseded nodes Sees k other.walk)) a.laws.readers.seen_off q view among pass,
            λ on. (a.laws.readers.odd q).1 (view, among, pass, on),
          )) (λ q view other off. off-then q view off) (λ off. off-then step.number mine off)

      goes-on : ReadersGoOn nodes Sees Later step.number mine (Some (update_on_readers loaded)) changed (update_on_readers loaded)
      goes-on = (
        λ planned.
            tight-next nodes Sees Later step.number mine (Some (update_on_readers loaded)) changed (update_on_readers r)
            (own-readers (λ k v x. x.is_planned ≡ true → IsTight nodes Sees k x) a.laws.readers.tight planned),
        off-each,
      )

      pub readers : ReadersCounted nodes (after_step load_reader core step)
      readers =
          subst (ReadersCountedIn nodes) (sym (moved load_reader core step a (Some last) rebuilds reader_scope (refl, refl)))
          (ReadersCounted-goes nodes Sees Later step.number mine (Some (update_on_readers loaded)) changed goes-on a.laws.readers)

  -- ---- all laws, as long as some pass may still reach what is out of sight

  pub Invariants-reached : is_unreached step.view.config loaded ≡ false → Invariants (after_step load_reader core step)
  Invariants-reached reached =
      let h = a.laws in
      let is : reclaimed_if (is_unreached step.view.config loaded) loaded ≡ loaded = ap (λ (test : Bool). reclaimed_if test loaded) reached in
      let was = unseen-load load_reader core step a (Some loaded) (rebuilds loaded is) unstored in
      record {
        nodes = h.nodes;
        locks = was lock_scope LocksAgreeIn refl h.locks;
        bodies = was body_scope BodiesAgreeIn refl h.bodies;
        places = was node_scope (NodesInOnePlaceIn h.nodes) (λ i. record (seen_of node_scope step.number step.view) { rebuild = option_map update_on_nodes (sym asked.update i) }) h.places;
        trees = was tree_scope (TreesSoundIn h.nodes) (λ i. record (seen_of tree_scope step.number step.view) { rebuild = option_map update_on_trees (sym asked.update i) }) h.trees;
        locations = was location_scope (LocationsHoldIn h.nodes) (λ i. record (seen_of location_scope step.number step.view) { rebuild = option_map update_on_places (sym asked.update i) }) h.locations;
        cover = was cover_scope (BodiesCoveredIn h.nodes) (λ i. record (seen_of cover_scope step.number step.view) { rebuild = option_map update_on_cover (sym asked.update i) }) h.cover;
        walks = was walk_scope WalksLeadIn refl h.walks;
        readers = readers loaded is refl;
      }

-- ---- kinds 51 and 52

pub GuardsHold-load_reader : IsGuarded MayLoadReader load_reader
GuardsHold-load_reader before after steps formed laws guards = GuardsHold-load MayLoadReader load_reader before after (λ found first. refl) steps guards
