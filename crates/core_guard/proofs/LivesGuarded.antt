-- The steps on the list of free indexes and on bodies store no word that another pass has for itself.
use Rattle.std.proofs.Common.{◌≡◌, ℕ, ◌<◌, List, ◌∷◌, Option, Some, None, Contains, IsNone, refl, sym, ◌∙◌, subst, inl, inr, arith, ◌≢◌}
use Rattle.std.specs.Prelude.{IsSomeAnd}
use Rattle.std.proofs.lemmas.Bool.{false≢true}
use Rattle.scene_model.specs.declared.body_view.Phase.TheVariants.{Out, Held}
use Rattle.scene_model.specs.Scene.{Record, place_at, record_at}
use Rattle.scene_model.specs.Step.{HasBody}
use Rattle.word_map.specs.declared.config.Config.{Config}
use Rattle.word_map.specs.declared.name.Name.{Name}
use Rattle.word_map.specs.declared.name.Name.TheVariants.{SlotHead, SlotNext, State, Layer, User, BoxWord, Phase, LocA, LocB}
use Rattle.word_map.specs.Names.{IsName, index_lock, stripe_of}
use Rattle.core_state.specs.declared.view.Mode.TheVariants.{Write}
use Rattle.core_state.specs.declared.view.Task.{Task}
use Rattle.core_state.specs.View.{Holds}
use Rattle.core_state.specs.Core.{Core, word_of, scene_of}
use Rattle.core_state.specs.Kind.{Kind, Step}
use Rattle.core_state.specs.Guards.{IsBodyWord, KeepsGuards}
use Rattle.core_state.specs.Scope.{sight, scene_in}
use Rattle.core_state.specs.Bodies.{free_indexes}
use Rattle.core_state.specs.BodiesAgree.{body_scope, ListsFree, ChangesList}
use Rattle.core_state.specs.Lists.{MayStoreLink, store_link, MayStoreHead, store_head}
use Rattle.core_state.specs.Lives.{IsCreating, IsFieldOf, MayStoreField, store_field, MayCreate, create, MayDestroy, destroy, MaySetUser, set_user}
use Rattle.core_state.proofs.Beginning.{contains_first}
use Rattle.core_guard.proofs.Scenes.{state-dead_low, none_here}
use Rattle.core_guard.proofs.FreeIndexes.{free-dead}
use Rattle.core_guard.proofs.Seats.{each-seat}
use Rattle.core_guard.proofs.BodiesStep.{others-idle}
use Rattle.core_guard.proofs.Alone.{marked-held}
use Rattle.core_guard.proofs.ListsAgree.{scene_consistent, world-lock}
use Rattle.core_guard.proofs.LivesAgree.{creating-dead, destroy_body, user_live}
use Rattle.core_guard.proofs.Leaving.{Acts, some_and_map, held-once}
use Rattle.core_guard.proofs.Holders.{Locks, Makes, HasMark, EachOther, keeps, body-holder, body-settles, unlocked, locked, IsGuarded, guarded, Holder, Settles}

-- ---- the list of free indexes

pub GuardsHold-store_link : IsGuarded MayStoreLink store_link
GuardsHold-store_link = guarded MayStoreLink store_link (λ core step a asked. locked store_link core step a (λ c. index_lock c) asked.list.lock (SlotNext asked.index) asked.names (λ view. (λ h. h, tt)))

pub GuardsHold-store_head : IsGuarded MayStoreHead store_head
GuardsHold-store_head = guarded MayStoreHead store_head (λ core step a asked. locked store_head core step a (λ c. index_lock c) asked.list.lock SlotHead asked.names (λ view. (λ h. h, tt)))

-- ---- what other passes do not have

module _ (core : Core) (step : Step) (a : Acts core step) where
  -- a mark of a body that is not held
  pub unmarked : (i : ℕ) → ¬ HasBody (scene_of core) i (λ r. r.phase ≡ Held) → EachOther core step (λ number view. ¬ HasMark view i)
  unmarked i unheld seat number view apart found own t =
      let held = marked-held core a.laws.bodies seat number view found own t.0 t.1 t.2 t.3 in
      unheld (subst (λ (k : ℕ). HasBody (scene_of core) k (λ r. r.phase ≡ Held)) t.4 (some_and_map (record_at (scene_of core) t.1.index) _ _ (λ r h. h.0) held))

  -- a live body that they create
  pub unmade : (i : ℕ) → ¬ IsNone (record_at (scene_of core) i) → EachOther core step (λ number view. ¬ Makes view i)
  unmade i live seat number view apart found own makes =
      let h = a.laws.bodies in
      let s = sight body_scope core in
      let lists = each-seat body_scope (λ n v. refl) core (λ n v. ListsFree s v v.call.task h.chain) h.listed seat number view found own in
      let first : i ∷ h.chain ≡ free_indexes (scene_in s) = (subst (λ (t : Task). ListsFree s view t h.chain) makes lists).1 in
      live (free-dead core.config.layers (scene_in s) (scene_consistent core h) i (subst (λ (l : List ℕ). Contains l i) first (contains_first i h.chain))).1

  -- while this one has the lock of the list: no lock of it, no body that they create
  module _ (kind : Kind) (lock : Holds step.view (index_lock step.view.config) Write) where
    unlisted : EachOther core step (λ number view. ¬ Locks view (index_lock core.config))
    unlisted = unlocked core step a (λ c. index_lock c) lock

    idle : (i : ℕ) → EachOther core step (λ number view. ¬ Makes view i)
    idle i seat number view apart found own makes =
        others-idle kind core step a.at a.pass a.laws.locks a.laws.bodies (world-lock kind core step a.at a.pass a.formed lock) seat number view apart found own (subst ChangesList (sym makes) tt)

-- ---- a body that is to be

module _ (kind : Kind) (core : Core) (step : Step) (a : Acts core step) (index : ℕ) (creating : IsCreating step.view index) where
  -- none is live there
  dead-guarded : IsBodyWord index step.name → KeepsGuards kind core step
  dead-guarded of_body =
      let h = a.laws.bodies in
      let dead = creating-dead kind core step a.at a.pass a.formed a.laws.locks h index creating in
      let low : word_of core (State index) < 256 = let state = h.state index dead.0 in let below = state-dead_low (place_at (scene_of core) index) dead.1 in omega arith in
      keeps kind core step step.name refl
      (λ stored seat number view apart found own. (
        λ holder. elim (body-holder core.config view step.name index of_body holder) [
          | inl l ↦ unlisted core step a kind creating.lock seat number view apart found own l
          | inr (inl makes) ↦ idle core step a kind creating.lock index seat number view apart found own makes
          | inr (inr mark) ↦ unmarked core step a index (none_here (record_at (scene_of core) index) (λ r. r.phase ≡ Held) dead.1) seat number view apart found own mark
        ],
        body-settles core view step.name index of_body (λ mode holds. low),
      ))

field-word : (c : Config) (i : ℕ) (name : Name) (value : ℕ) → IsFieldOf c i name value → IsBodyWord i name
field-word c i (Layer j) value field = field.0
field-word c i (User j) value field = field.0
field-word c i (BoxWord j k) value field = field.0
field-word c i _ value field = absurd field

pub GuardsHold-store_field : IsGuarded MayStoreField store_field
GuardsHold-store_field =
    guarded MayStoreField store_field
    (λ core step a asked. dead-guarded store_field core step a asked.index asked.creating (field-word step.view.config asked.index step.name step.first asked.field))

pub GuardsHold-create : IsGuarded MayCreate create
GuardsHold-create = guarded MayCreate create (λ core step a asked. dead-guarded create core step a asked.index asked.creating (subst (IsBodyWord asked.index) (sym asked.names) refl))

-- ---- a live body

-- a word of the body that may be stored under its stripe
abbrev pub IsStripeWord : ℕ → Name → Type 0
IsStripeWord i (Phase j) = j ≡ i
IsStripeWord i (BoxWord j k) = j ≡ i
IsStripeWord i (LocA j) = j ≡ i
IsStripeWord i (LocB j) = j ≡ i
IsStripeWord i _ = ⊥

module _ (kind : Kind) (core : Core) (step : Step) (a : Acts core step) (i : ℕ) (stripe : Holds step.view (stripe_of step.view.config i) Write) (unheld : HasBody (scene_of core) i (λ r. r.phase ≢ Held)) where
  none_locks : (j : ℕ) → j ≡ i → EachOther core step (λ number view. ¬ Locks view (stripe_of core.config j))
  none_locks j same = unlocked core step a (λ c. stripe_of c j) (subst (λ (k : ℕ). Holds step.view (stripe_of step.view.config k) Write) (sym same) stripe)

  none_marks : (j : ℕ) → j ≡ i → EachOther core step (λ number view. ¬ HasMark view j)
  none_marks j same = unmarked core step a j (held-once (record_at (scene_of core) j) (subst (λ (k : ℕ). HasBody (scene_of core) k (λ r. r.phase ≢ Held)) (sym same) unheld))

  none_makes : (j : ℕ) → j ≡ i → EachOther core step (λ number view. ¬ Makes view j)
  none_makes j same = unmade core step a j (λ gone. none_here (record_at (scene_of core) i) (λ r. r.phase ≢ Held) (subst (λ (k : ℕ). IsNone (record_at (scene_of core) k)) same gone) unheld)

  nobodys : (name : Name) → IsStripeWord i name → EachOther core step (λ number view. ¬ Holder core.config view name × Settles core view name)
  nobodys (Phase j) same seat number view apart found own = (
    λ holder. elim holder [ inl l ↦ none_locks j same seat number view apart found own l | inr mark ↦ none_marks j same seat number view apart found own mark ],
    tt,
  )
  nobodys (BoxWord j k) same seat number view apart found own = (
    λ holder. elim holder [ inl makes ↦ none_makes j same seat number view apart found own makes | inr mark ↦ none_marks j same seat number view apart found own mark ],
    λ mode holds. absurd (none_locks j same seat number view apart found own (mode, holds)),
  )
  nobodys (LocA j) same seat number view apart found own = (
    λ mark. none_marks j same seat number view apart found own mark,
    λ mode holds. absurd (none_locks j same seat number view apart found own (mode, holds)),
  )
  nobodys (LocB j) same seat number view apart found own = (
    λ holder. elim holder [ inl l ↦ none_locks j same seat number view apart found own l | inr mark ↦ none_marks j same seat number view apart found own mark ],
    tt,
  )
  nobodys _ same seat number view apart found own = absurd same

  -- no other pass has such a word of a body that no batch holds, and whose stripe this one has
  pub stripe-guarded : IsStripeWord i step.name → KeepsGuards kind core step
  stripe-guarded of = keeps kind core step step.name refl (λ stored. nobodys step.name of)

-- one that is out is not held
out_unheld : (o : Option Record) → IsSomeAnd o (λ r. r.phase ≡ Out) → ¬ IsSomeAnd o (λ r. r.phase ≡ Held)
out_unheld None out held = out
out_unheld (Some r) out held = absurd cc

pub GuardsHold-destroy : IsGuarded MayDestroy destroy
GuardsHold-destroy =
    guarded MayDestroy destroy
    (λ core step a asked. keeps destroy core step (State asked.index) asked.names
    (λ stored seat number view apart found own. (
      λ holder. elim holder [
        | inl l ↦ unlisted core step a destroy asked.lock seat number view apart found own l
        | inr (inl makes) ↦ idle core step a destroy asked.lock asked.index seat number view apart found own makes
        | inr (inr mark) ↦
            unmarked core step a asked.index (out_unheld (record_at (scene_of core) asked.index) (destroy_body core step a.at a.pass a.formed a.guards a.laws.locks a.laws.bodies asked)) seat number view apart found own mark
      ],
      λ mode holds. absurd (unlocked core step a (λ c. stripe_of c asked.index) asked.body.stripe seat number view apart found own (mode, holds)),
    )))

pub GuardsHold-set_user : IsGuarded MaySetUser set_user
GuardsHold-set_user =
    guarded MaySetUser set_user
    (λ core step a asked. keeps set_user core step (User asked.index) asked.names
    (λ stored seat number view apart found own.
    let live = user_live core step a.at a.pass a.formed a.guards a.laws.bodies asked (subst (IsName core.config) asked.names a.named) in (
      unmade core step a asked.index (λ none. false≢true (sym none ∙ live)) seat number view apart found own,
      λ mode holds. absurd (unlocked core step a (λ c. stripe_of c asked.index) asked.stripe seat number view apart found own (mode, holds)),
    )))
