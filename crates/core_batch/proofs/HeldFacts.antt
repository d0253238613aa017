-- What a pass knows of its batches: their slots, their nodes, and the bodies that they hold, which stand in no tree.
use Rattle.std.proofs.Common.{◌≡◌, ◌≢◌, ℕ, suc, ◌<◌, ◌∷◌, List, Option, Some, None, refl, ap, sym, ◌∙◌, subst, inl, inr, arith, false}
use Rattle.std.specs.Prelude.{Contains, IsSomeAnd, flat_map}
use Rattle.std.proofs.lemmas.Option.{same_Some}
use Rattle.std.proofs.lemmas.List.Elements.{Contains-append_left, Contains-append_right}
use Rattle.scene_model.specs.declared.body_view.Phase.TheVariants.{Out, Held, In}
use Rattle.scene_model.specs.Scene.{Record, record_at}
use Rattle.scene_model.specs.Step.{HasBody}
use Rattle.word_map.specs.declared.name.Name.{Name}
use Rattle.word_map.specs.declared.name.Name.TheVariants.{Phase, Slot, LocA, LocB}
use Rattle.word_map.specs.Names.{IsName}
use Rattle.core_state.specs.declared.item.Item.{Item}
use Rattle.core_state.specs.declared.view.Marked.{Marked}
use Rattle.core_state.specs.declared.view.Batch.{Batch}
use Rattle.core_state.specs.declared.view.View.{View}
use Rattle.core_state.specs.Log.{opening_word}
use Rattle.core_state.specs.View.{IsPass}
use Rattle.core_state.specs.Core.{Core, word_of, IsViewAt, scene_of}
use Rattle.core_state.specs.Kind.{Kind, Step, learned, found_by, log_after, view_after}
use Rattle.core_state.specs.Formed.{IsFormed, IsSoundItem}
use Rattle.core_state.specs.Encoding.{place, phase_join, slot_tree}
use Rattle.core_state.specs.Nodes.{Home, owned, IsInTree}
use Rattle.core_state.specs.Scope.{Sight, sight}
use Rattle.core_state.specs.BodiesAgree.{body_scope, IsHeldFor}
use Rattle.core_state.specs.LocationsHold.{location_scope, IsPlannedIn, is_location_store}
use Rattle.core_state.specs.Invariants.{Invariants}
use Rattle.core_state.proofs.Beginning.{contains_flat, body_record}
use Rattle.core_state.proofs.Reading.{word-last}
use Rattle.core_guard.proofs.PlacesStay as places
use Rattle.core_guard.proofs.Leaving.{IsHandled, some_and_map, After}
use Rattle.core_guard.proofs.Seats.{seat_seen}
use Rattle.core_batch.proofs.Mapped.{held-by}
use Rattle.core_batch.proofs.Owning.{number-low, slot-reserved, batch-home}
use Rattle.core_guard.proofs.BodyTouch.{location-words}

-- ---- what was stored

-- a word that is not its opening word was stored, so it is one of the world
pub stored-named : (core : Core) (name : Name) → IsFormed core → word_of core name ≢ opening_word core.config name → IsName core.config name
stored-named core name formed other =
    elim (word-last core.config core.log name) [
      | inl none ↦ absurd (other none.1)
      | inr last ↦
          let t = last.0 in
          let among : Contains core.log t.item = subst (λ (l : List Item). Contains l t.item) (sym t.parts) (Contains-append_right t.first (t.item ∷ t.later) t.item (0, omega arith, refl)) in
          let sound : IsSoundItem core.config t.item = subst (IsSoundItem core.config) among.2 (formed.items among.0 t.item among.1) in
          subst (IsName core.config) t.stores sound.named
    ]

-- ---- bodies

-- a body is not out and held
pub out_or_held : (o : Option Record) → IsSomeAnd o (λ r. r.phase ≡ Out) → IsSomeAnd o (λ r. r.phase ≡ Held) → ⊥
out_or_held None out held = out
out_or_held (Some r) out held = absurd cc

-- nor held and in the broad phase
pub held_or_in : (o : Option Record) → IsSomeAnd o (λ r. r.phase ≡ Held) → IsSomeAnd o (λ r. r.phase ≡ In) → ⊥
held_or_in None held inside = inside
held_or_in (Some r) held inside = absurd cc

-- where a batch says that a body is, is kept with its location word and the nodes of the batch
pub planned-kept : (s t : Sight) (b d : Batch) (u : Marked) → d.nodes ≡ b.nodes → t.word (LocA u.index) ≡ s.word (LocA u.index) → IsPlannedIn s b u → IsPlannedIn t d u
planned-kept s t b d u nodes same (inl none) = inl (none.0, same ∙ none.1)
planned-kept s t b d u nodes same (inr placed) =
    inr (placed.0, same ∙ placed.1, (placed.2.0, placed.2.1, placed.2.2, placed.2.3, subst (λ (l : List ℕ). Contains l placed.2.0) (sym nodes) placed.2.4))

-- and by a step that stores no location
pub planned-still : (kind : Kind) (core : Core) (step : Step) → is_location_store step.name ≡ false → (b d : Batch) (u : Marked) → d.nodes ≡ b.nodes → IsPlannedIn (sight location_scope core) b u × (word_of core (LocB u.index) ≡ 0)
    → IsPlannedIn (sight location_scope (After kind core step)) d u × (word_of (After kind core step) (LocB u.index) ≡ 0)
planned-still kind core step unstored b d u nodes was =
    let words = location-words kind core step unstored u.index in
    (planned-kept (sight location_scope core) (sight location_scope (After kind core step)) b d u nodes words.0 was.0, words.1 ∙ was.1)

-- nobody handles a body that is held
pub held-alone : (core : Core) (i : ℕ) → Invariants core → HasBody (scene_of core) i (λ r. r.phase ≡ Held)
    → (seat number : ℕ) (view : View) → IsViewAt core seat view → IsPass view number → ¬ IsHandled view.call.task i
held-alone core i h = places.held-alone h.nodes core h.locations i

-- ---- views

-- a view is another in what its batches hold alone
pub record Rebatches (view last : View) : Type 0 where
  pub nodes : flat_map (λ (b : Batch). b.nodes) last.batches ≡ flat_map (λ (b : Batch). b.nodes) view.batches
  pub call : last.call ≡ view.call
  pub locks : last.locks ≡ view.locks
  pub walk : last.walk ≡ view.walk
  pub loose : last.loose ≡ view.loose
  pub written : last.written ≡ view.written
  pub rebuild : last.rebuild ≡ view.rebuild

-- after a step that leaves other batches with the same nodes
pub rebatches : (kind : Kind) (core : Core) (step : Step) (batches : List Batch) → kind.leaves (learned core step) step.name (found_by core step) step.first step.second ≡ record (learned core step) { batches = batches }
    → flat_map (λ (b : Batch). b.nodes) batches ≡ flat_map (λ (b : Batch). b.nodes) step.view.batches → Rebatches step.view (view_after kind core step)
rebatches kind core step batches leaves nodes =
    subst (λ (v : View). Rebatches step.view (record v { config = step.view.config; role = step.view.role; known = log_after kind core step; joined = None })) (sym leaves)
    (record { nodes = nodes; call = refl; locks = refl; walk = refl; loose = refl; written = refl; rebuild = refl })

-- ---- batches

-- nodes of a place
place-node : (n k m j : ℕ) → k < 4 → j < 4 → place n k ≡ place m j → n ≡ m
place-node n k m j below less e = omega arith

owned-out : (number : ℕ) (home : Home) → home ≡ owned number → ¬ IsInTree home
owned-out number home e inside = subst IsInTree e inside

module _ (core : Core) (formed : IsFormed core) (h : Invariants core) (seat number : ℕ) (view : View) (at : IsViewAt core seat view) (pass : IsPass view number) where
  module _ (batch : Batch) (among : Contains view.batches batch) where
    -- the slot of a batch is reserved, and one of the world
    pub batch-reserved : word_of core (Slot batch.layer batch.slot) ≡ suc number
    batch-reserved = slot-reserved core formed h.bodies seat number batch.layer batch.slot view at pass (batch, among, (refl, refl))

    pub slot-named : IsName core.config (Slot batch.layer batch.slot)
    slot-named = stored-named core (Slot batch.layer batch.slot) formed (λ e. let r = batch-reserved in absurd (omega arith))

    -- so it names no tree
    pub batch-no_tree : (l t root : ℕ) → l ≡ batch.layer → t ≡ batch.slot → word_of core (Slot l t) ≢ slot_tree root
    batch-no_tree l t root layer slot tree =
        let word : word_of core (Slot l t) ≡ suc number = (λ i. word_of core (Slot (layer i) (slot i))) ∙ batch-reserved in
        let fits = number-low core formed seat number view at pass in
        absurd (omega arith)

    -- the nodes of a batch are the pass's own
    pub node-owned : (n : ℕ) → Contains batch.nodes n → h.nodes.home n ≡ owned number
    node-owned n inside =
        batch-home core h.nodes h.places seat number view at pass n
        (Contains-append_left (flat_map (λ (b : Batch). b.nodes) view.batches) view.loose n (contains_flat (λ b. b.nodes) view.batches batch n among inside))

    -- so a location there leads to no tree
    pub off-node : (m j n k : ℕ) → j < 4 → Contains batch.nodes m → k < 4 → place m j ≡ place n k → ¬ IsInTree (h.nodes.home n)
    off-node m j n k less inside below e =
        owned-out number (h.nodes.home n) (subst (λ (x : ℕ). h.nodes.home x ≡ owned number) (place-node m j n k less below e) (node-owned m inside))

    -- a body that it has marked
    module _ (m : Marked) (marked : Contains batch.marked m) where
      pub mark-held : IsHeldFor (sight body_scope core) batch m
      mark-held = h.bodies.marked batch m (held-by core seat number view batch at pass among) marked

      pub marked-held : HasBody (scene_of core) m.index (λ r. r.phase ≡ Held)
      marked-held = some_and_map (record_at (scene_of core) m.index) _ _ (λ r held. held.0) mark-held.held

      pub mark-planned : IsPlannedIn (sight location_scope core) batch m × (word_of core (LocB m.index) ≡ 0)
      mark-planned = h.locations.held batch m (contains_flat (λ v. v.batches) (sight location_scope core).passes _ batch (seat_seen location_scope core seat number view at pass) among) marked

      -- has a location in no tree
      pub mark-off : (n k : ℕ) → k < 4 → word_of core (LocA m.index) ≡ place n k → ¬ IsInTree (h.nodes.home n)
      mark-off n k below e = go mark-planned.0
        where
          go : IsPlannedIn (sight location_scope core) batch m → ¬ IsInTree (h.nodes.home n)
          go (inl none) = let zero = none.1 in absurd (omega arith)
          go (inr placed) = off-node placed.2.0 placed.2.1 n k placed.2.2 placed.2.4 below (sym (placed.1 ∙ placed.2.3) ∙ e)

      -- and a phase that names a slot with no tree
      pub mark-unjoined : (l t root : ℕ) → HasBody (scene_of core) m.index (λ r. r.layer ≡ l) → word_of core (Phase m.index) ≡ phase_join t → word_of core (Slot l t) ≢ slot_tree root
      mark-unjoined l t root body joins =
          let b = body_record (record_at (scene_of core) m.index) (λ r. r.layer ≡ l) body in
          let here = body_record (record_at (scene_of core) m.index) _ mark-held.held in
          let same : b.0 ≡ here.0 = same_Some b.0 here.0 (sym b.1 ∙ here.1) in
          let layer : l ≡ batch.layer = sym b.2 ∙ (ap (λ (r : Record). r.layer) same ∙ here.2.1) in
          let phase : phase_join t ≡ phase_join batch.slot = sym joins ∙ mark-held.phase in
          batch-no_tree l t root layer (let p = phase in omega arith)
