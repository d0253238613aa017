-- The bodies agree after a link and after a head of the list of free indexes is stored.
use Rattle.std.proofs.Common.{◌≡◌, ◌≢◌, ℕ, zero, suc, ◌-◌, ◌<◌, ◌≤◌, List, ◌∷◌, Some, true, false, IsSome, Contains, refl, ap, sym, ◌∙◌, subst, arith}
use Rattle.std.specs.Prelude.{⊤, None}
use Rattle.std.proofs.lemmas.Bool.{lt-leb, le-leb}
use Rattle.scene_model.proofs.Lives.{Contains-cons_tail}
use Rattle.scene_model.specs.declared.body_view.Phase.TheVariants.{Held}
use Rattle.scene_model.specs.Scene.{place_at, record_at}
use Rattle.scene_model.specs.Consistent.{IsConsistent}
use Rattle.scene_model.proofs.Histories.{IsConsistent-scene_after}
use Rattle.word_map.specs.declared.config.Config.{Config}
use Rattle.word_map.specs.declared.name.Name.{Name}
use Rattle.word_map.specs.declared.name.Name.TheVariants.{SlotHead, SlotNext, State, Phase, Layer, User, BoxWord, Slot}
use Rattle.word_map.specs.Names.{index_lock}
use Rattle.core_state.specs.declared.view.Mode.TheVariants.{Write}
use Rattle.core_state.specs.declared.view.Task.{Task}
use Rattle.core_state.specs.declared.view.Task.TheVariants.{Nothing, Creating, Destroying}
use Rattle.core_state.specs.declared.view.View.{View}
use Rattle.core_state.specs.Log.{word, history}
use Rattle.core_state.specs.View.{known_word, IsPass, Holds}
use Rattle.core_state.specs.Core.{Core, word_of, IsViewAt}
use Rattle.core_state.specs.Kind.{Kind, Step, Steps, learned, log_after, view_after, after_step}
use Rattle.core_state.specs.Formed.{IsFormed}
use Rattle.core_state.specs.Guards.{by_lock, guard_of, GuardsHold}
use Rattle.core_state.specs.Scope.{Sight, sight, scene_in}
use Rattle.core_state.specs.Lists.{HasList, MayStoreLink, store_link, TakesFirst, PutsFirst, ChangesHead, takes_first, puts_first, MayStoreHead, store_head, task_by_head, is_live}
use Rattle.core_state.specs.LocksAgree.{LocksAgree}
use Rattle.core_state.specs.Bodies.{free_indexes, IsChain, MovesBody}
use Rattle.core_state.specs.BodiesAgree.{BodiesAgree, body_scope, ListsFree, ChangesList, IsUnderStripe}
use Rattle.core_state.proofs.Frames.{step-history}
use Rattle.core_state.proofs.Steps.{word-step}
use Rattle.core_guard.proofs.Chains.{chain-kept, chain-front, chain-first}
use Rattle.core_guard.proofs.Scenes.{bodies-after, state-tells_live, state-dead_low}
use Rattle.core_guard.proofs.FreeIndexes.{free-dead, free-apart}
use Rattle.core_guard.proofs.BodiesStep.{WordsPart, ListPart, together, sound, known-now, unstored, chain-idle, new_sight, bodies-agree, words-kept, stripe-part, list-part, KeepsHeld, batch-part, found-now}
use Rattle.core_state.proofs.Beginning.{record_body, contains_first}

-- ---- under the lock of the list

-- the scene is one that a lawful history leads to
pub scene_consistent : (core : Core) → BodiesAgree core → IsConsistent core.config.layers (scene_in (sight body_scope core))
scene_consistent core h = IsConsistent-scene_after core.config.layers core.config.bodies (history core.log) h.lawful

-- a task under which no box is being stored
abbrev pub IsBoxless : Task → Type 0
IsBoxless task = (i : ℕ) → ¬ MovesBody task i

module _ (kind : Kind) (core : Core) (step : Step) (at : IsViewAt core step.seat step.view) (pass : IsPass step.view step.number) (formed : IsFormed core) where
  -- the lock of the list, by the sizes of the world
  pub world-lock : Holds step.view (index_lock step.view.config) Write → Holds step.view (index_lock core.config) Write
  world-lock lock = subst (λ (c : Config). Holds step.view (index_lock c) Write) (sound kind core step at pass formed).config lock

  -- a word that it guards is the one that was known
  pub listed-now : (name : Name) → GuardsHold core → Holds step.view (index_lock core.config) Write → guard_of core.config name ≡ Some (index_lock core.config) → word_of core name ≡ known_word step.view name
  listed-now name guards lock guarded = known-now kind core step at pass name formed guards (by_lock (index_lock core.config) Write lock guarded)

  -- whose state was known to say so is live
  pub known-live : (index : ℕ) → GuardsHold core → BodiesAgree core → Holds step.view (index_lock core.config) Write → index < core.config.bodies → 256 ≤ known_word step.view (State index)
      → IsSome (record_at (scene_in (sight body_scope core)) index)
  known-live index guards h lock below live =
      let now = listed-now (State index) guards lock refl in
      let state = h.state index below in
      state-tells_live (place_at (scene_in (sight body_scope core)) index) (omega arith)

-- ---- steps that store a word of the list alone

-- a word that no body has
abbrev pub IsListWord : Name → Type 0
IsListWord SlotHead = ⊤
IsListWord (SlotNext i) = ⊤
IsListWord _ = ⊥

module _ (kind : Kind) (core : Core) (step : Step) (at : IsViewAt core step.seat step.view) (pass : IsPass step.view step.number) (of_list : IsListWord step.name) (h : BodiesAgree core) where
  abbrev pub list_sight : Sight
  list_sight = new_sight kind core step at pass (history core.log)

  stored_apart : (name : Name) → ¬ IsListWord name → name ≢ step.name
  stored_apart name other same = other (subst IsListWord (sym same) of_list)

  same_word : (name : Name) → ¬ IsListWord name → list_sight.word name ≡ (sight body_scope core).word name
  same_word name other = unstored kind core step at pass name (stored_apart name other)

  -- the words of bodies
  pub list-words : IsBoxless step.view.call.task → WordsPart list_sight
  list-words boxless = record {
    lawful = h.lawful;
    state = λ i below. same_word (State i) (λ none. none) ∙ h.state i below;
    live = λ i r e.
        words-kept kind core step at pass (history core.log) i r (λ between. absurd (boxless i between.0))
        (same_word (Layer i) (λ none. none)) (same_word (User i) (λ none. none)) (λ k. same_word (BoxWord i k) (λ none. none))
        (same_word (Phase i) (λ none. none)) (λ l t. same_word (Slot l t) (λ none. none)) (h.live i r e);
    dead = λ i none. same_word (Phase i) (λ none. none) ∙ h.dead i none;
  }

  -- no body is held that was not
  pub list-held : KeepsHeld kind core step at pass (history core.log)
  list-held = record {
    forth = λ i r e held. record_body (record_at (scene_in list_sight) i) (λ q. (q.phase ≡ Held) × (q.layer ≡ r.layer)) r e (held, refl);
    boxes = λ i r e held k. same_word (BoxWord i k) (λ none. none);
    back = λ i held. held;
  }

  -- so what is left to show is that the list is linked as the task says
  pub list-agree : ((value : ℕ) → kind.entry step.view step.name value ≡ None) → IsBoxless step.view.call.task → (view_after kind core step).batches ≡ step.view.batches
      → ((view : View) → IsUnderStripe list_sight view (view_after kind core step).call.task) → ListPart list_sight → BodiesAgree (after_step kind core step)
  list-agree none boxless batches stripes list =
      bodies-agree kind core step at pass (history core.log) (step-history kind core step none)
      (together list_sight (list-words boxless) list
      (stripe-part kind core step at pass (history core.log) h (λ old. stripes (view_after kind core step)))
      (batch-part kind core step at pass (history core.log) h batches list-held (λ i. same_word (Phase i) (λ none. none)) (λ l t. same_word (Slot l t) (λ none. none))))

idle-boxless : (task : Task) → task ≡ Nothing → IsBoxless task
idle-boxless task idle i moves = subst (λ (t : Task). MovesBody t i) idle moves

-- ---- a link

-- the index whose link it is
abbrev linked_index : Name → ℕ
linked_index (SlotNext i) = i
linked_index _ = 0

module _ (core : Core) (step : Step) (at : IsViewAt core step.seat step.view) (pass : IsPass step.view step.number) (formed : IsFormed core) (guards : GuardsHold core) (agree : LocksAgree core)
    (h : BodiesAgree core) (asked : MayStoreLink step.view step.name step.first step.second) where
  link-agree : BodiesAgree (after_step store_link core step)
  link-agree =
      let s = sight body_scope core in
      let t = list_sight store_link core step at pass (subst IsListWord (sym asked.names) tt) h in
      let lock = world-lock store_link core step at pass formed asked.list.lock in
      let idle = asked.list.idle in
      let own = sound store_link core step at pass formed in
      let below : asked.index < core.config.bodies = subst (λ (c : Config). asked.index < c.bodies) own.config asked.body.below in
      let live = known-live store_link core step at pass formed asked.index guards h lock below asked.body.live in
      let whole = chain-idle store_link core step at pass agree h lock idle in
      let apart : (j : ℕ) → Contains h.chain j → j ≢ asked.index = λ j c.
      free-apart core.config.layers (scene_in s) (scene_consistent core h) asked.index j live (subst (λ (l : List ℕ). Contains l j) whole c)
      in
      let link : (j : ℕ) → Contains h.chain j → t.word (SlotNext j) ≡ s.word (SlotNext j) = λ j c.
      unstored store_link core step at pass (SlotNext j) (λ same. apart j c (ap linked_index (same ∙ asked.names)))
      in
      let head : t.word SlotHead ≡ s.word SlotHead = unstored store_link core step at pass SlotHead (λ same. let e = asked.names in absurd cc) in
      list-agree store_link core step at pass (subst IsListWord (sym asked.names) tt) h (λ value. refl) (idle-boxless step.view.call.task idle) refl
      (λ view. subst (IsUnderStripe t view) (sym idle) tt)
      (list-part store_link core step at pass (history core.log) agree h lock h.chain
      (rw head (chain-kept (λ i. s.word (SlotNext i)) (λ i. t.word (SlotNext i)) (s.word SlotHead) h.chain link h.linked))
      (subst (λ (task : Task). ListsFree t (view_after store_link core step) task h.chain) (sym idle) tt)
      (λ none. whole))

pub BodiesAgree-store_link : (before after : Core) → Steps MayStoreLink store_link before after → IsFormed before → GuardsHold before → LocksAgree before → BodiesAgree before → BodiesAgree after
BodiesAgree-store_link before after steps formed guards agree h =
    subst BodiesAgree (sym steps.result) (link-agree before steps.step steps.allowed.at steps.allowed.pass formed guards agree h steps.allowed.asked)

-- ---- a head

-- a head that names no live body begins a creation
task-taken : (view : View) (found value index : ℕ) → found ≡ suc index → ((i : ℕ) → value ≡ suc i → known_word view (State i) < 256) → task_by_head view found value ≡ Creating index
task-taken view found zero index first free =
    let is : found - 1 ≡ index = omega arith in
    ap Creating is
task-taken view found (suc i) index first free =
    let is : found - 1 ≡ index = omega arith in
    let dead : is_live (known_word view (State i)) ≡ false = lt-leb 256 (known_word view (State i)) (free i refl) in
    rw dead (ap Creating is)

-- and one that does a destruction
task-put : (view : View) (found value index : ℕ) → value ≡ suc index → 256 ≤ known_word view (State index) → task_by_head view found value ≡ Destroying index
task-put view found value index head live =
    let test : is_live (known_word view (State index)) ≡ true = le-leb 256 (known_word view (State index)) live in
    ap (λ (n : ℕ). task_by_head view found n) head ∙ rw test refl

module _ (core : Core) (step : Step) (at : IsViewAt core step.seat step.view) (pass : IsPass step.view step.number) (formed : IsFormed core) (guards : GuardsHold core) (agree : LocksAgree core)
    (h : BodiesAgree core) (names : step.name ≡ SlotHead) (list : HasList step.view) where
  abbrev head_view : View
  head_view = view_after store_head core step

  abbrev head_sight : Sight
  head_sight = list_sight store_head core step at pass (subst IsListWord (sym names) tt) h

  world : Holds step.view (index_lock core.config) Write
  world = world-lock store_head core step at pass formed list.lock

  now : (name : Name) → guard_of core.config name ≡ Some (index_lock core.config) → word_of core name ≡ known_word step.view name
  now name guarded = listed-now store_head core step at pass formed name guards world guarded

  whole_list : h.chain ≡ free_indexes (scene_in (sight body_scope core))
  whole_list = chain-idle store_head core step at pass agree h world list.idle

  head_stored : head_sight.word SlotHead ≡ step.first
  head_stored = ap (λ (n : Name). word core.config (log_after store_head core step) n) (sym names) ∙ word-step store_head core step

  links_stand : (i : ℕ) → head_sight.word (SlotNext i) ≡ (sight body_scope core).word (SlotNext i)
  links_stand i = unstored store_head core step at pass (SlotNext i) (λ same. absurd cc)

  -- with the list that the task says
  head-agree : (task : Task) (chain : List ℕ) → head_view.call.task ≡ task → IsChain (λ i. (sight body_scope core).word (SlotNext i)) step.first chain
      → ((view : View) → IsUnderStripe head_sight view task) → ListsFree head_sight head_view task chain → ChangesList task → BodiesAgree (after_step store_head core step)
  head-agree task chain is linked stripes lists changes =
      list-agree store_head core step at pass (subst IsListWord (sym names) tt) h (λ value. refl) (idle-boxless step.view.call.task list.idle) refl
      (λ view. subst (IsUnderStripe head_sight view) (sym is) (stripes view))
      (list-part store_head core step at pass (history core.log) agree h world chain
      (rw head_stored (chain-kept (λ i. (sight body_scope core).word (SlotNext i)) (λ i. head_sight.word (SlotNext i)) step.first chain (λ j c. links_stand j) linked))
      (subst (λ (t : Task). ListsFree head_sight head_view t chain) (sym is) lists)
      (λ none. absurd (none (subst ChangesList (sym is) changes))))

  -- what is left of the list when the first index is taken off
  pub record IsTaken (takes : TakesFirst step.view step.first) : Type 0 where
    pub chain : List ℕ
    pub free : takes.index ∷ chain ≡ free_indexes (scene_in (sight body_scope core))
    pub linked : IsChain (λ i. (sight body_scope core).word (SlotNext i)) step.first chain

  pub is-taken : (takes : TakesFirst step.view step.first) → IsTaken takes
  is-taken takes =
      let s = sight body_scope core in
      let first : word_of core SlotHead ≡ suc takes.index = now SlotHead refl ∙ takes.head in
      let link : step.first ≡ word_of core (SlotNext takes.index) = takes.next ∙ sym (now (SlotNext takes.index) refl) in
      let cut = chain-first (λ i. s.word (SlotNext i)) takes.index h.chain (subst (λ (n : ℕ). IsChain (λ i. s.word (SlotNext i)) n h.chain) first h.linked) in
      record {
        chain = cut.0;
        free = sym cut.1 ∙ whole_list;
        linked = subst (λ (n : ℕ). IsChain (λ i. s.word (SlotNext i)) n cut.0) (sym link) cut.2;
      }

  -- no body is live at the next one
  next-dead : (takes : TakesFirst step.view step.first) (i : ℕ) → step.first ≡ suc i → known_word (learned core step) (State i) < 256
  next-dead takes i names =
      let s = sight body_scope core in
      let taken = is-taken takes in
      let next = chain-first (λ j. s.word (SlotNext j)) i taken.chain (subst (λ (n : ℕ). IsChain (λ j. s.word (SlotNext j)) n taken.chain) names taken.linked) in
      let among : Contains taken.chain i = subst (λ (l : List ℕ). Contains l i) (sym next.1) (contains_first i next.0) in
      let none = free-dead core.config.layers (scene_in s) (scene_consistent core h) i (subst (λ (l : List ℕ). Contains l i) taken.free (Contains-cons_tail takes.index taken.chain i among)) in
      let below : i < core.config.bodies = subst (λ (n : ℕ). i < n) (bodies-after core.config.bodies (history core.log)) none.0 in
      let state = h.state i below in
      let low = state-dead_low (place_at (scene_in s) i) none.1 in
      let found = found-now store_head core step at pass (State i) formed in
      omega arith

  -- so a creation is under way
  pub taken-task : (takes : TakesFirst step.view step.first) → head_view.call.task ≡ Creating takes.index
  taken-task takes =
      task-taken (learned core step) (word_of core step.name) step.first takes.index (ap (λ (n : Name). word_of core n) names ∙ (now SlotHead refl ∙ takes.head)) (next-dead takes)

  -- or a destruction
  pub put-task : (puts : PutsFirst step.view step.first) → head_view.call.task ≡ Destroying puts.index
  put-task puts =
      let state = now (State puts.index) refl in
      let live = puts.body.live in
      let found = found-now store_head core step at pass (State puts.index) formed in
      task-put (learned core step) (word_of core step.name) step.first puts.index puts.head (omega arith)

  take-agree : TakesFirst step.view step.first → BodiesAgree (after_step store_head core step)
  take-agree takes =
      let taken = is-taken takes in
      head-agree (Creating takes.index) taken.chain (taken-task takes) taken.linked (λ view. tt) (world, taken.free) tt

  put-agree : PutsFirst step.view step.first → BodiesAgree (after_step store_head core step)
  put-agree puts =
      let s = sight body_scope core in
      let link : word_of core (SlotNext puts.index) ≡ word_of core SlotHead = now (SlotNext puts.index) refl ∙ (puts.link ∙ sym (now SlotHead refl)) in
      head-agree (Destroying puts.index) (puts.index ∷ h.chain) (put-task puts)
      (rw puts.head (chain-front (λ i. s.word (SlotNext i)) (s.word SlotHead) puts.index h.chain link h.linked))
      (λ view. tt) (world, ap (λ (l : List ℕ). puts.index ∷ l) whole_list) tt

  change-agree : ChangesHead step.view step.first → BodiesAgree (after_step store_head core step)
  change-agree (takes_first t) = take-agree t
  change-agree (puts_first p) = put-agree p

pub BodiesAgree-store_head : (before after : Core) → Steps MayStoreHead store_head before after → IsFormed before → GuardsHold before → LocksAgree before → BodiesAgree before → BodiesAgree after
BodiesAgree-store_head before after steps formed guards agree h =
    let asked = steps.allowed.asked in
    subst BodiesAgree (sym steps.result) (change-agree before steps.step steps.allowed.at steps.allowed.pass formed guards agree h asked.names asked.list asked.change)
