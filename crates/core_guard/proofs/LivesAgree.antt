-- The bodies agree after a step on the words of a body: what it is to be, its creation, its destruction, its user number.
use Rattle.std.proofs.Common.{◌≡◌, ◌≢◌, ℕ, ◌+◌, ◌-◌, ◌<◌, ◌≤◌, Bool, true, false, List, ◌∷◌, Option, Some, None, option_map, IsSome, IsNone, IsSomeAnd, Contains, refl, ap, sym, ◌∙◌, subst, inl, inr, arith}
use Rattle.std.proofs.lemmas.Bool.{false≢true}
use Rattle.std.proofs.lemmas.Option.{none-some, same_Some}
use Rattle.fixed_box.specs.declared.fix_box.FixBox.{FixBox}
use Rattle.scene_model.specs.declared.body_view.Phase.TheVariants.{Out, Held}
use Rattle.scene_model.specs.declared.entry.Entry.{Entry}
use Rattle.scene_model.specs.declared.entry.Entry.TheVariants.{Create, Destroy, SetUser}
use Rattle.scene_model.specs.Scene.{Record, Scene, Place, place_at, record_at}
use Rattle.scene_model.specs.Step.{HasBody, IsLawful, created_in, after_entry}
use Rattle.word_map.specs.declared.config.Config.{Config}
use Rattle.word_map.specs.declared.name.Name.{Name}
use Rattle.word_map.specs.declared.name.Name.TheVariants.{SlotHead, SlotNext, State, Phase, Layer, User, BoxWord, Slot}
use Rattle.word_map.specs.Names.{IsName, index_lock, stripe_of}
use Rattle.core_state.specs.declared.view.Mode.TheVariants.{Write}
use Rattle.core_state.specs.declared.view.Task.{Task}
use Rattle.core_state.specs.Log.{word, history}
use Rattle.core_state.specs.View.{known_word, IsPass, Holds}
use Rattle.core_state.specs.Core.{Core, word_of, IsViewAt}
use Rattle.core_state.specs.Kind.{Kind, Step, Steps, log_after, view_after, after_step}
use Rattle.core_state.specs.Formed.{IsFormed}
use Rattle.core_state.specs.Guards.{by_lock, by_creation, IsBodyWord, GuardsHold}
use Rattle.core_state.specs.Scope.{Sight, sight, scene_in}
use Rattle.core_state.specs.Encoding.{phase_out}
use Rattle.core_state.specs.Lives.{IsCreating, IsFieldOf, MayStoreField, store_field, created_state, MayCreate, creation_of, create, MayDestroy, destruction_of, destroy, MaySetUser, new_user_of, set_user}
use Rattle.core_state.specs.LocksAgree.{LocksAgree}
use Rattle.core_state.specs.Bodies.{state_word, phase_by, free_indexes, IsChain, MovesBody, IsBetweenBoxes}
use Rattle.core_state.specs.BodiesAgree.{BodiesAgree, HasWordsOf, body_scope, ListsFree, ChangesList, IsUnderStripe}
use Rattle.core_state.proofs.Boxes.{box_of-words}
use Rattle.core_state.proofs.Frames.{step-history}
use Rattle.core_state.proofs.Guarding.{live-still}
use Rattle.core_state.proofs.Steps.{word-step}
use Rattle.core_guard.proofs.Chains.{chain-kept}
use Rattle.core_guard.proofs.Scenes.{live_or_dead, record_live, bodies-after, place_at-created, place_at-created_other, place_at-destroyed, place_at-destroyed_other, with_user, place_at-user, place_at-user_other, state-created, state-destroyed, state-user, state-tells_live}
use Rattle.core_guard.proofs.FreeIndexes.{free-next, free-created, free-destroyed, free-user, free-dead}
use Rattle.core_guard.proofs.BodiesStep.{WordsPart, together, sound, known-now, unstored, chain-task, new_sight, bodies-agree, phase-kept, whole-back, words-kept, stripe-moved, stripe-part, list-part, list-stays, KeepsHeld, batch-part, out_phase}
use Rattle.core_guard.proofs.OneBody.{is_other, body_index, past_after, one_sight, one-scene, other_word, one-words, one-held, one-linked, one-agree}
use Rattle.core_guard.proofs.ListsAgree.{scene_consistent, world-lock, listed-now, known-live}
use Rattle.core_state.proofs.Beginning.{record_body, contains_first}
use Rattle.core_guard.proofs.Leaving.{out_held}

-- ---- an index that is to get a body

module _ (kind : Kind) (core : Core) (step : Step) (at : IsViewAt core step.seat step.view) (pass : IsPass step.view step.number) (formed : IsFormed core) (agree : LocksAgree core)
    (h : BodiesAgree core) (index : ℕ) (creating : IsCreating step.view index) where
  abbrev old : Sight
  old = sight body_scope core

  pub creating-lock : Holds step.view (index_lock core.config) Write
  creating-lock = world-lock kind core step at pass formed creating.lock

  -- it is the first of the scene's free ones
  pub creating-first : index ∷ h.chain ≡ free_indexes (scene_in old)
  creating-first = let t = subst (λ (task : Task). ListsFree old step.view task h.chain) creating.task (chain-task kind core step at pass agree h creating-lock) in t.1

  -- so no body is live there
  pub creating-dead : (index < core.config.bodies) × IsNone (record_at (scene_in old) index)
  creating-dead =
      let t = free-dead core.config.layers (scene_in old) (scene_consistent core h) index (subst (λ (l : List ℕ). Contains l index) creating-first (contains_first index h.chain)) in
      (subst (λ (n : ℕ). index < n) (bodies-after core.config.bodies (history core.log)) t.0, t.1)

  -- a live body is at another index
  pub creating-apart : (i : ℕ) (r : Record) → record_at (scene_in old) i ≡ Some r → i ≢ index
  creating-apart i r e same = absurd (false≢true (sym creating-dead.1 ∙ subst (λ (k : ℕ). IsSome (record_at (scene_in old) k)) same (record_live (record_at (scene_in old) i) r e)))

-- ---- what a body is to be

-- the words of bodies that a creation stores before it
abbrev is_field : Name → Bool
is_field (Layer i) = true
is_field (User i) = true
is_field (BoxWord i k) = true
is_field _ = false

abbrev field_index : Name → ℕ
field_index (Layer i) = i
field_index (User i) = i
field_index (BoxWord i k) = i
field_index _ = 0

field-names : (c : Config) (index : ℕ) (name : Name) (value : ℕ) → IsFieldOf c index name value → (is_field name ≡ true) × (field_index name ≡ index)
field-names c index (Layer i) value h = (refl, h.0)
field-names c index (User i) value h = (refl, h.0)
field-names c index (BoxWord i k) value h = (refl, h.0)
field-names c index _ value h = absurd h

module _ (core : Core) (step : Step) (at : IsViewAt core step.seat step.view) (pass : IsPass step.view step.number) (formed : IsFormed core) (guards : GuardsHold core) (agree : LocksAgree core)
    (h : BodiesAgree core) (asked : MayStoreField step.view step.name step.first step.second) where
  -- what the law sees afterwards
  abbrev field_sight : Sight
  field_sight = new_sight store_field core step at pass (history core.log)

  -- the word stored is one of that index
  field_name : (is_field step.name ≡ true) × (field_index step.name ≡ asked.index)
  field_name = field-names step.view.config asked.index step.name step.first asked.field

  -- another word of bodies
  no_field : (name : Name) → is_field name ≡ false → field_sight.word name ≡ (sight body_scope core).word name
  no_field name none = unstored store_field core step at pass name (λ same. false≢true (sym none ∙ (ap is_field same ∙ field_name.0)))

  -- or one of a body that is live
  other_field : (name : Name) → field_index name ≢ asked.index → field_sight.word name ≡ (sight body_scope core).word name
  other_field name apart = unstored store_field core step at pass name (λ same. apart (ap field_index same ∙ field_name.1))

  -- no body has those words yet
  field-agree : BodiesAgree (after_step store_field core step)
  field-agree =
      let s = sight body_scope core in
      let creating = asked.creating in
      let task = creating.task in
      let boxless : (i : ℕ) → IsBetweenBoxes step.view i → ⊥ = λ i between. subst (λ (k : Task). MovesBody k i) task between.0 in
      let apart = creating-apart store_field core step at pass formed agree h asked.index creating in
      let lock = creating-lock store_field core step at pass formed agree h asked.index creating in
      let first = creating-first store_field core step at pass formed agree h asked.index creating in
      let words : WordsPart field_sight = record {
        lawful = h.lawful;
        state = λ i below. no_field (State i) refl ∙ h.state i below;
        live = λ i r e.
            words-kept store_field core step at pass (history core.log) i r (λ between. absurd (boxless i between)) (other_field (Layer i) (apart i r e)) (other_field (User i) (apart i r e))
            (λ k. other_field (BoxWord i k) (apart i r e)) (no_field (Phase i) refl) (λ l t. no_field (Slot l t) refl) (h.live i r e);
        dead = λ i none. no_field (Phase i) refl ∙ h.dead i none;
      } in
      let held : KeepsHeld store_field core step at pass (history core.log) = record {
        forth = λ i r e held. record_body (record_at (scene_in field_sight) i) (λ q. (q.phase ≡ Held) × (q.layer ≡ r.layer)) r e (held, refl);
        boxes = λ i r e held k. other_field (BoxWord i k) (apart i r e);
        back = λ i held. held;
      } in
      let head : field_sight.word SlotHead ≡ s.word SlotHead = no_field SlotHead refl in
      let linked : IsChain (λ i. field_sight.word (SlotNext i)) (field_sight.word SlotHead) h.chain =
      rw head (chain-kept (λ i. s.word (SlotNext i)) (λ i. field_sight.word (SlotNext i)) (s.word SlotHead) h.chain (λ j c. no_field (SlotNext j) refl) h.linked)
      in
      bodies-agree store_field core step at pass (history core.log) (step-history store_field core step (λ value. refl))
      (together field_sight words
      (list-part store_field core step at pass (history core.log) agree h lock h.chain linked
      (subst (λ (k : Task). ListsFree field_sight (view_after store_field core step) k h.chain) (sym task) (lock, first)) (λ none. absurd (none (subst ChangesList (sym task) tt))))
      (stripe-part store_field core step at pass (history core.log) h (λ was. subst (IsUnderStripe field_sight (view_after store_field core step)) (sym task) tt))
      (batch-part store_field core step at pass (history core.log) h refl held (λ i. no_field (Phase i) refl) (λ l t. no_field (Slot l t) refl)))

pub BodiesAgree-store_field : (before after : Core) → Steps MayStoreField store_field before after → IsFormed before → GuardsHold before → LocksAgree before → BodiesAgree before → BodiesAgree after
BodiesAgree-store_field before after steps formed guards agree h =
    subst BodiesAgree (sym steps.result) (field-agree before steps.step steps.allowed.at steps.allowed.pass formed guards agree h steps.allowed.asked)

-- ---- a creation

module _ (core : Core) (step : Step) (at : IsViewAt core step.seat step.view) (pass : IsPass step.view step.number) (formed : IsFormed core) (guards : GuardsHold core) (agree : LocksAgree core)
    (h : BodiesAgree core) (asked : MayCreate step.view step.name step.first step.second) where
  -- the entry that it makes
  abbrev pub created_entry : Entry
  created_entry = Create asked.index (known_word step.view (Layer asked.index)) asked.bounds (known_word step.view (User asked.index))

  pub created_made : create.entry step.view step.name step.first ≡ Some created_entry
  created_made =
      ap (λ (n : Name). creation_of step.view n) asked.names
      ∙ ap (option_map (λ (b : FixBox). Create asked.index (known_word step.view (Layer asked.index)) b (known_word step.view (User asked.index))))
      (box_of-words asked.bounds (λ k. known_word step.view (BoxWord asked.index k)) asked.fields.bounds_words)

  -- its index was the first of the free ones
  pub create_first : asked.index ∷ h.chain ≡ free_indexes (scene_in (sight body_scope core))
  create_first = creating-first create core step at pass formed agree h asked.index asked.creating

  -- at other indexes nothing changes
  pub create_places : (i : ℕ) → i ≢ asked.index → place_at (after_entry (scene_in (sight body_scope core)) created_entry) i ≡ place_at (scene_in (sight body_scope core)) i
  create_places i apart =
      place_at-created_other (scene_in (sight body_scope core)) asked.index (known_word step.view (Layer asked.index)) asked.bounds (known_word step.view (User asked.index)) i
      (free-next (scene_in (sight body_scope core)) asked.index h.chain (sym create_first)) apart

  -- the word stored is the state word of that index
  pub create_other : is_other step.name ≡ false
  create_other = ap is_other asked.names

  pub create_index : body_index step.name ≡ asked.index
  create_index = ap body_index asked.names

  -- what the law sees afterwards, and the body that is then there
  abbrev pub create_sight : Sight
  create_sight = one_sight create core step at pass h created_entry asked.index create_other create_index create_places

  abbrev pub new_record : Record
  new_record = record {
    generation = (place_at (scene_in (sight body_scope core)) asked.index).creations + 1;
    layer = known_word step.view (Layer asked.index);
    bounds = asked.bounds;
    user = known_word step.view (User asked.index);
    phase = Out;
  }

  -- it stands at its index
  pub create_place : place_at (scene_in create_sight) asked.index
      ≡ created_in (place_at (scene_in (sight body_scope core)) asked.index) (known_word step.view (Layer asked.index)) asked.bounds (known_word step.view (User asked.index))
  create_place =
      ap (λ (scene : Scene). place_at scene asked.index) (one-scene create core step at pass h created_entry asked.index create_other create_index create_places)
      ∙ place_at-created core.config.layers (scene_in (sight body_scope core)) asked.index (known_word step.view (Layer asked.index)) asked.bounds (known_word step.view (User asked.index))
      (scene_consistent core h) (free-next (scene_in (sight body_scope core)) asked.index h.chain (sym create_first))

  pub create_record : record_at (scene_in create_sight) asked.index ≡ Some new_record
  create_record = ap (λ (p : Place). p.body) create_place

  -- a word that was stored for the creation
  create_now : (name : Name) → IsBodyWord asked.index name → word_of core name ≡ known_word step.view name
  create_now name of_body = known-now create core step at pass name formed guards (by_creation asked.index asked.creating.task of_body)

  -- other words are as they were, the user word too
  create_word : (name : Name) → is_other name ≡ true → create_sight.word name ≡ (sight body_scope core).word name
  create_word = other_word create core step at pass h created_entry asked.index create_other create_index create_places

  create_user : create_sight.word (User asked.index) ≡ (sight body_scope core).word (User asked.index)
  create_user = unstored create core step at pass (User asked.index) (λ same. let e = asked.names in absurd cc)

  -- the phase word says out, as that of an index with no body
  pub create_phase : create_sight.word (Phase asked.index) ≡ phase_out
  create_phase = create_word (Phase asked.index) refl ∙ h.dead asked.index (creating-dead create core step at pass formed agree h asked.index asked.creating).1

  -- so the words of the index are those of the new body
  create_words : HasWordsOf create_sight asked.index new_record
  create_words = record {
    layer = create_word (Layer asked.index) refl ∙ create_now (Layer asked.index) refl;
    user = create_user ∙ create_now (User asked.index) refl;
    user_fits = asked.fields.user;
    bounds = λ whole k below. create_word (BoxWord asked.index k) refl ∙ (create_now (BoxWord asked.index k) refl ∙ asked.fields.bounds_words k below);
    phase = ap (λ (n : ℕ). phase_by n (create_sight.word (Slot (known_word step.view (Layer asked.index)) (n - 2)))) create_phase;
    slot = subst (λ (n : ℕ). n < 2 + core.config.slots) (sym create_phase) (omega arith);
  }

  -- and so is its state word
  create_state : create_sight.word (State asked.index) ≡ state_word (place_at (scene_in create_sight) asked.index)
  create_state =
      let s = sight body_scope core in
      let dead = creating-dead create core step at pass formed agree h asked.index asked.creating in
      let stored : create_sight.word (State asked.index) ≡ step.first = ap (λ (n : Name). word core.config (log_after create core step) n) (sym asked.names) ∙ word-step create core step in
      let was : known_word step.view (State asked.index) ≡ state_word (place_at (scene_in s) asked.index) = sym (create_now (State asked.index) refl) ∙ h.state asked.index dead.0 in
      stored ∙ (asked.state ∙ (ap created_state was
      ∙ (sym (state-created (place_at (scene_in s) asked.index) (known_word step.view (Layer asked.index)) asked.bounds (known_word step.view (User asked.index)) dead.1) ∙ ap state_word (sym create_place))))

  -- the list is the scene's again
  create-agree : BodiesAgree (after_step create core step)
  create-agree =
      let s = sight body_scope core in
      let dead = creating-dead create core step at pass formed agree h asked.index asked.creating in
      let layers : known_word step.view (Layer asked.index) < core.config.layers =
      subst (λ (c : Config). known_word step.view (Layer asked.index) < c.layers) (sound create core step at pass formed).config asked.fields.layer in
      let lawful : IsLawful core.config.layers (scene_in s) created_entry = (free-next (scene_in s) asked.index h.chain (sym create_first), layers) in
      let free : h.chain ≡ free_indexes (scene_in create_sight) =
      sym (ap free_indexes (one-scene create core step at pass h created_entry asked.index create_other create_index create_places)
      ∙ free-created (scene_in s) asked.index h.chain (known_word step.view (Layer asked.index)) asked.bounds (known_word step.view (User asked.index)) (sym create_first))
      in
      one-agree create core step at pass h created_entry asked.index create_other create_index create_places refl created_made refl
      (one-words create core step at pass h created_entry asked.index create_other create_index create_places lawful
      (λ i between. absurd (subst (λ (k : Task). MovesBody k i) asked.creating.task between.0)) (λ below. create_state)
      (λ r e. subst (HasWordsOf create_sight asked.index) (same_Some new_record r (sym create_record ∙ e)) create_words)
      (λ none. create_phase))
      (one-held create core step at pass h created_entry asked.index create_other create_index create_places
      (λ r e held. absurd (false≢true (sym dead.1 ∙ record_live (record_at (scene_in s) asked.index) r e)))
      (λ held. absurd (out_held (subst (λ (o : Option Record). IsSomeAnd o (λ q. q.phase ≡ Held)) create_record held))))
      (list-part create core step at pass (past_after create core step at pass h created_entry asked.index create_other create_index create_places) agree h
      (creating-lock create core step at pass formed agree h asked.index asked.creating) h.chain
      (one-linked create core step at pass h created_entry asked.index create_other create_index create_places) tt (λ none. free))
      (λ was. tt)

pub BodiesAgree-create : (before after : Core) → Steps MayCreate create before after → IsFormed before → GuardsHold before → LocksAgree before → BodiesAgree before → BodiesAgree after
BodiesAgree-create before after steps formed guards agree h =
    subst BodiesAgree (sym steps.result) (create-agree before steps.step steps.allowed.at steps.allowed.pass formed guards agree h steps.allowed.asked)

-- ---- a destruction

module _ (core : Core) (step : Step) (at : IsViewAt core step.seat step.view) (pass : IsPass step.view step.number) (formed : IsFormed core) (guards : GuardsHold core) (agree : LocksAgree core)
    (h : BodiesAgree core) (asked : MayDestroy step.view step.name step.first step.second) where
  -- the entry that it makes
  pub destroy_made : destroy.entry step.view step.name step.first ≡ Some (Destroy asked.index)
  destroy_made = ap destruction_of asked.names

  -- at other indexes nothing changes
  pub destroy_places : (i : ℕ) → i ≢ asked.index → place_at (after_entry (scene_in (sight body_scope core)) (Destroy asked.index)) i ≡ place_at (scene_in (sight body_scope core)) i
  destroy_places i apart = place_at-destroyed_other (scene_in (sight body_scope core)) asked.index i apart

  -- the word stored is the state word of that index
  pub destroy_other : is_other step.name ≡ false
  destroy_other = ap is_other asked.names

  pub destroy_index : body_index step.name ≡ asked.index
  destroy_index = ap body_index asked.names

  -- what the law sees afterwards
  abbrev pub destroy_sight : Sight
  destroy_sight = one_sight destroy core step at pass h (Destroy asked.index) asked.index destroy_other destroy_index destroy_places

  -- by the sizes of the world
  pub destroy_lock : Holds step.view (index_lock core.config) Write
  destroy_lock = world-lock destroy core step at pass formed asked.lock

  pub destroy_below : asked.index < core.config.bodies
  destroy_below = subst (λ (c : Config). asked.index < c.bodies) (sound destroy core step at pass formed).config asked.body.below

  -- the body is live, and its phase word says out
  pub destroy_live : IsSome (record_at (scene_in (sight body_scope core)) asked.index)
  destroy_live = known-live destroy core step at pass formed asked.index guards h destroy_lock destroy_below asked.body.live

  pub destroy_phase : word_of core (Phase asked.index) ≡ phase_out
  destroy_phase =
      let stripe : Holds step.view (stripe_of core.config asked.index) Write =
      subst (λ (c : Config). Holds step.view (stripe_of c asked.index) Write) (sound destroy core step at pass formed).config asked.body.stripe in
      known-now destroy core step at pass (Phase asked.index) formed guards (by_lock (stripe_of core.config asked.index) Write stripe refl) ∙ asked.body.out

  -- the body is out
  pub destroy_out : (r : Record) → record_at (scene_in (sight body_scope core)) asked.index ≡ Some r → r.phase ≡ Out
  destroy_out r e = sym (out_phase (word_of core (Phase asked.index)) (word_of core (Slot r.layer (word_of core (Phase asked.index) - 2))) r.phase destroy_phase (h.live asked.index r e).phase)

  pub destroy_body : HasBody (scene_in (sight body_scope core)) asked.index (λ r. r.phase ≡ Out)
  destroy_body =
      elim (live_or_dead (record_at (scene_in (sight body_scope core)) asked.index)) [
        | inl t ↦ record_body (record_at (scene_in (sight body_scope core)) asked.index) (λ r. r.phase ≡ Out) t.0 t.1 (destroy_out t.0 t.1)
        | inr none ↦ absurd (false≢true (sym none ∙ destroy_live))
      ]

  -- afterwards none is live there
  pub destroy_place : place_at (scene_in destroy_sight) asked.index ≡ record (place_at (scene_in (sight body_scope core)) asked.index) { body = None }
  destroy_place =
      ap (λ (scene : Scene). place_at scene asked.index) (one-scene destroy core step at pass h (Destroy asked.index) asked.index destroy_other destroy_index destroy_places)
      ∙ place_at-destroyed (scene_in (sight body_scope core)) asked.index destroy_live

  pub destroy_none : record_at (scene_in destroy_sight) asked.index ≡ None
  destroy_none = ap (λ (p : Place). p.body) destroy_place

  -- and the state word says so
  destroy_state : destroy_sight.word (State asked.index) ≡ state_word (place_at (scene_in destroy_sight) asked.index)
  destroy_state =
      let s = sight body_scope core in
      let stored : destroy_sight.word (State asked.index) ≡ step.first = ap (λ (n : Name). word core.config (log_after destroy core step) n) (sym asked.names) ∙ word-step destroy core step in
      let now = listed-now destroy core step at pass formed (State asked.index) guards destroy_lock refl in
      let was : known_word step.view (State asked.index) ≡ state_word (place_at (scene_in s) asked.index) = sym now ∙ h.state asked.index destroy_below in
      stored ∙ (asked.state ∙ (ap (λ (n : ℕ). n - 256) was ∙ (sym (state-destroyed (place_at (scene_in s) asked.index) destroy_live) ∙ ap state_word (sym destroy_place))))

  -- its index stands in front of the list
  destroy_first : h.chain ≡ asked.index ∷ free_indexes (scene_in (sight body_scope core))
  destroy_first =
      let t = subst (λ (task : Task). ListsFree (sight body_scope core) step.view task h.chain) asked.task (chain-task destroy core step at pass agree h destroy_lock) in
      t.1

  -- so the list is the scene's again
  destroy-agree : BodiesAgree (after_step destroy core step)
  destroy-agree =
      let s = sight body_scope core in
      let free : h.chain ≡ free_indexes (scene_in destroy_sight) =
      destroy_first ∙ sym (ap free_indexes (one-scene destroy core step at pass h (Destroy asked.index) asked.index destroy_other destroy_index destroy_places) ∙ free-destroyed (scene_in s) asked.index)
      in
      one-agree destroy core step at pass h (Destroy asked.index) asked.index destroy_other destroy_index destroy_places refl destroy_made refl
      (one-words destroy core step at pass h (Destroy asked.index) asked.index destroy_other destroy_index destroy_places (destroy_body, tt)
      (λ i between. absurd (subst (λ (k : Task). MovesBody k i) asked.task between.0)) (λ below. destroy_state) (λ r e. absurd (none-some r (sym destroy_none ∙ e)))
      (λ none. other_word destroy core step at pass h (Destroy asked.index) asked.index destroy_other destroy_index destroy_places (Phase asked.index) refl ∙ destroy_phase))
      (one-held destroy core step at pass h (Destroy asked.index) asked.index destroy_other destroy_index destroy_places
      (λ r e held. absurd (out_held (sym (destroy_out r e) ∙ held)))
      (λ held. absurd (subst (λ (o : Option Record). IsSomeAnd o (λ q. q.phase ≡ Held)) destroy_none held)))
      (list-part destroy core step at pass (past_after destroy core step at pass h (Destroy asked.index) asked.index destroy_other destroy_index destroy_places) agree h destroy_lock h.chain
      (one-linked destroy core step at pass h (Destroy asked.index) asked.index destroy_other destroy_index destroy_places) tt (λ none. free))
      (λ was. tt)

pub BodiesAgree-destroy : (before after : Core) → Steps MayDestroy destroy before after → IsFormed before → GuardsHold before → LocksAgree before → BodiesAgree before → BodiesAgree after
BodiesAgree-destroy before after steps formed guards agree h =
    subst BodiesAgree (sym steps.result) (destroy-agree before steps.step steps.allowed.at steps.allowed.pass formed guards agree h steps.allowed.asked)

-- ---- a user number

module _ (core : Core) (step : Step) (at : IsViewAt core step.seat step.view) (pass : IsPass step.view step.number) (formed : IsFormed core) (guards : GuardsHold core) (h : BodiesAgree core)
    (asked : MaySetUser step.view step.name step.first step.second) (user_below : asked.index < core.config.bodies) where
  -- the entry that it makes
  pub user_made : set_user.entry step.view step.name step.first ≡ Some (SetUser asked.index step.first)
  user_made = ap (λ (n : Name). new_user_of n step.first) asked.names

  -- at other indexes nothing changes
  pub user_places : (i : ℕ) → i ≢ asked.index → place_at (after_entry (scene_in (sight body_scope core)) (SetUser asked.index step.first)) i ≡ place_at (scene_in (sight body_scope core)) i
  user_places i apart = place_at-user_other (scene_in (sight body_scope core)) asked.index step.first i apart

  -- the word stored is the user word of that index
  pub user_other : is_other step.name ≡ false
  user_other = ap is_other asked.names

  pub user_index : body_index step.name ≡ asked.index
  user_index = ap body_index asked.names

  -- what the law sees afterwards
  abbrev pub user_sight : Sight
  user_sight = one_sight set_user core step at pass h (SetUser asked.index step.first) asked.index user_other user_index user_places

  -- the body is live still, since the pass has its stripe
  pub user_live : IsSome (record_at (scene_in (sight body_scope core)) asked.index)
  user_live =
      let own = sound set_user core step at pass formed in
      let stripe : Holds step.view (stripe_of core.config asked.index) Write = subst (λ (c : Config). Holds step.view (stripe_of c asked.index) Write) own.config asked.stripe in
      let live : 256 ≤ word core.config step.view.known (State asked.index) = subst (λ (c : Config). 256 ≤ word c step.view.known (State asked.index)) own.config asked.live in
      let still = live-still core step.seat step.number step.view asked.index Write (State asked.index) formed guards at pass stripe live refl in
      let state = h.state asked.index user_below in
      state-tells_live (place_at (scene_in (sight body_scope core)) asked.index) (omega arith)

  -- it has the new number
  pub user_place : place_at (scene_in user_sight) asked.index
      ≡ record (place_at (scene_in (sight body_scope core)) asked.index) { body = option_map (with_user step.first) (record_at (scene_in (sight body_scope core)) asked.index) }
  user_place =
      ap (λ (scene : Scene). place_at scene asked.index) (one-scene set_user core step at pass h (SetUser asked.index step.first) asked.index user_other user_index user_places)
      ∙ place_at-user (scene_in (sight body_scope core)) asked.index step.first

  -- other words are as they were, the state word too
  user_word : (name : Name) → is_other name ≡ true → user_sight.word name ≡ (sight body_scope core).word name
  user_word = other_word set_user core step at pass h (SetUser asked.index step.first) asked.index user_other user_index user_places

  user_state : user_sight.word (State asked.index) ≡ state_word (place_at (scene_in user_sight) asked.index)
  user_state =
      unstored set_user core step at pass (State asked.index) (λ same. let e = asked.names in absurd cc)
      ∙ (h.state asked.index user_below ∙ (sym (state-user (place_at (scene_in (sight body_scope core)) asked.index) step.first) ∙ ap state_word (sym user_place)))

  module _ (r : Record) (e : record_at (scene_in (sight body_scope core)) asked.index ≡ Some r) where
    -- the body with that number
    pub user_record : record_at (scene_in user_sight) asked.index ≡ Some (with_user step.first r)
    user_record = ap (λ (p : Place). p.body) user_place ∙ ap (option_map (with_user step.first)) e

    -- and its words
    user_words : HasWordsOf user_sight asked.index (with_user step.first r)
    user_words =
        let was = h.live asked.index r e in
        let stored : user_sight.word (User asked.index) ≡ step.first = ap (λ (n : Name). word core.config (log_after set_user core step) n) (sym asked.names) ∙ word-step set_user core step in
        let past = past_after set_user core step at pass h (SetUser asked.index step.first) asked.index user_other user_index user_places in
        record {
          layer = user_word (Layer asked.index) refl ∙ was.layer;
          user = stored;
          user_fits = asked.fits;
          bounds = λ whole k below. user_word (BoxWord asked.index k) refl ∙ was.bounds (whole-back set_user core step at pass past asked.index (λ between. between) whole) k below;
          phase =
              phase-kept (word_of core (Phase asked.index)) (user_sight.word (Phase asked.index)) (λ t. word_of core (Slot r.layer t)) (λ t. user_sight.word (Slot r.layer t)) r.phase
              (user_word (Phase asked.index) refl) (λ t. user_word (Slot r.layer t) refl) was.phase;
          slot = subst (λ (n : ℕ). n < 2 + core.config.slots) (sym (user_word (Phase asked.index) refl)) was.slot;
        }

    -- the list is what it was, whoever is changing it
    user-agree : BodiesAgree (after_step set_user core step)
    user-agree =
        let s = sight body_scope core in
        let past = past_after set_user core step at pass h (SetUser asked.index step.first) asked.index user_other user_index user_places in
        let scene = one-scene set_user core step at pass h (SetUser asked.index step.first) asked.index user_other user_index user_places in
        one-agree set_user core step at pass h (SetUser asked.index step.first) asked.index user_other user_index user_places refl user_made refl
        (one-words set_user core step at pass h (SetUser asked.index step.first) asked.index user_other user_index user_places (user_live, tt) (λ i between. between) (λ below. user_state)
        (λ q f. subst (HasWordsOf user_sight asked.index) (same_Some (with_user step.first r) q (sym user_record ∙ f)) user_words)
        (λ none. absurd (false≢true (sym none ∙ record_live (record_at (scene_in user_sight) asked.index) (with_user step.first r) user_record))))
        (one-held set_user core step at pass h (SetUser asked.index step.first) asked.index user_other user_index user_places
        (λ q f held.
        let same : r ≡ q = same_Some r q (sym e ∙ f) in
        record_body (record_at (scene_in user_sight) asked.index) (λ p. (p.phase ≡ Held) × (p.layer ≡ q.layer)) (with_user step.first r) user_record
        (ap (λ (p : Record). p.phase) same ∙ held, ap (λ (p : Record). p.layer) same))
        (λ held.
        let now : IsSomeAnd (Some (with_user step.first r)) (λ p. p.phase ≡ Held) = subst (λ (o : Option Record). IsSomeAnd o (λ p. p.phase ≡ Held)) user_record held in
        record_body (record_at (scene_in s) asked.index) (λ p. p.phase ≡ Held) r e now))
        (list-stays set_user core step at pass past h refl refl (user_word SlotHead refl) (λ i. user_word (SlotNext i) refl)
        (ap free_indexes scene ∙ free-user (scene_in s) asked.index step.first))
        (λ was. stripe-moved set_user core step at pass past step.view step.view step.view.call.task (λ lock holds. holds) was)

pub BodiesAgree-set_user : (before after : Core) → Steps MaySetUser set_user before after → IsFormed before → GuardsHold before → LocksAgree before → BodiesAgree before → BodiesAgree after
BodiesAgree-set_user before after steps formed guards agree h =
    let step = steps.step in
    let allowed = steps.allowed in
    let asked = allowed.asked in
    let below : asked.index < before.config.bodies = subst (IsName before.config) asked.names allowed.named in
    let live = user_live before step allowed.at allowed.pass formed guards h asked below in
    subst BodiesAgree (sym steps.result)
    (elim (live_or_dead (record_at (scene_in (sight body_scope before)) asked.index)) [
      | inl t ↦ user-agree before step allowed.at allowed.pass formed guards h asked below t.0 t.1
      | inr none ↦ absurd (false≢true (sym none ∙ live))
    ])
