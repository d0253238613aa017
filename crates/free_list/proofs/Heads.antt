-- What the steps on the list of free indexes tell of the list and of the scene.
use Rattle.std.proofs.Common.{◌≡◌, ℕ, suc, ◌<◌, List, [], ◌∷◌, Contains, None, inl, inr, refl, ap, sym, ◌∙◌, subst, arith}
use Rattle.scene_model.specs.Scene.{next_index, record_at}
use Rattle.scene_model.specs.Cause.{IsCauseAt, full}
use Rattle.scene_model.specs.History.{scene_after}
use Rattle.word_map.specs.declared.config.Config.{Config}
use Rattle.word_map.specs.declared.name.Name.TheVariants.{SlotHead, SlotNext}
use Rattle.core_state.specs.declared.view.Task.{Task}
use Rattle.core_state.specs.declared.view.Task.TheVariants.{Creating, Destroying}
use Rattle.core_state.specs.declared.view.View.{View}
use Rattle.core_state.specs.Log.{history}
use Rattle.core_state.specs.View.{known_word}
use Rattle.core_state.specs.Core.{Core, word_of}
use Rattle.core_state.specs.Kind.{Step, view_after}
use Rattle.core_state.specs.Scope.{sight, scene_in}
use Rattle.core_state.specs.Guards.{scene_at}
use Rattle.core_state.specs.Bodies.{free_indexes, IsChain}
use Rattle.core_state.specs.BodiesAgree.{BodiesAgree, body_scope}
use Rattle.core_state.specs.Lists.{HasList, MayLoadList, load_list, MayStoreLink, store_link, TakesFirst, PutsFirst, MayStoreHead, store_head, with_task}
use Rattle.core_state.proofs.Frames.{step-history}
use Rattle.core_guard.proofs.Chains.{chain-end, chain-first}
use Rattle.core_state.proofs.Beginning.{contains_first}
use Rattle.core_guard.proofs.Scenes.{bodies-after, live_or_dead, record_live}
use Rattle.core_guard.proofs.FreeIndexes.{free-next, free-dead, dead-free}
use Rattle.core_guard.proofs.BodiesStep.{chain-idle}
use Rattle.core_guard.proofs.ListsAgree.{scene_consistent, world-lock, is-taken, taken-task, put-task}
use Rattle.pass_table.specs.Stepping.{step_by, Stepped, Stored}
use Rattle.pass_table.specs.Calls.{StoresWord}
use Rattle.pass_table.proofs.Knowing.{knows-more}
use Rattle.pass_table.proofs.Calling.{stepped-sizes, loaded-all, loaded-word, stores-word}
use Rattle.free_list.specs.Heads.{IsFirst, LoadedHead, LoadedLink, IsDoing, TookOff, LinkedTo, PutInFront}

-- ---- the scene

-- the scene that is known is that of a core whose history is known
scene-here : (core : Core) (view : View) → view.config ≡ core.config → history view.known ≡ history core.log → scene_at view.config view.known ≡ scene_in (sight body_scope core)
scene-here core view sizes past = λ i. scene_after (sizes i).bodies (past i)

-- the first of the free indexes is the one that the next body takes
first-known : (core : Core) (view : View) (index : ℕ) (chain : List ℕ) → BodiesAgree core → view.config ≡ core.config → history view.known ≡ history core.log
    → free_indexes (scene_in (sight body_scope core)) ≡ index ∷ chain → IsFirst view index
first-known core view index chain agree sizes past free =
    let scene = scene_in (sight body_scope core) in
    let none = free-dead core.config.layers scene (scene_consistent core agree) index (subst (λ (l : List ℕ). Contains l index) (sym free) (contains_first index chain)) in
    record {
      below = subst (λ (c : Config). index < c.bodies) (sym sizes) (subst (λ (n : ℕ). index < n) (bodies-after core.config.bodies (history core.log)) none.0);
      free = ap next_index (scene-here core view sizes past) ∙ free-next scene index chain free;
    }

-- where no index is free a body is live at each
none-free : (core : Core) → BodiesAgree core → free_indexes (scene_in (sight body_scope core)) ≡ [] → IsCauseAt full (scene_in (sight body_scope core))
none-free core agree none index below =
    let scene = scene_in (sight body_scope core) in
    elim (live_or_dead (record_at scene index)) [
      | inl t ↦ record_live (record_at scene index) t.0 t.1
      | inr dead ↦
          let among = subst (λ (l : List ℕ). Contains l index) none (dead-free core.config.layers scene (scene_consistent core agree) index below dead) in
          absurd (omega (arith, among.1))
    ]

-- ---- loads

module _ (view next : View) (head : ℕ) (list : HasList view) (stepped : Stepped MayLoadList load_list view SlotHead 0 0 head next) where
  core : Core
  core = stepped.before

  abbrev loading : Step
  loading = step_by stepped.seat view stepped.number SlotHead 0 0

  agree : BodiesAgree stepped.before
  agree = stepped.stands.laws.bodies

  sizes : next.config ≡ stepped.before.config
  sizes = ap (λ (v : View). v.config) stepped.leaves ∙ stepped-sizes MayLoadList load_list view next SlotHead 0 0 head stepped

  past : history next.known ≡ history stepped.before.log
  past = ap history (loaded-all MayLoadList load_list view next SlotHead 0 0 head stepped (λ word operand. refl))

  -- the list is the scene's
  whole : agree.chain ≡ free_indexes (scene_in (sight body_scope stepped.before))
  whole =
      chain-idle load_list stepped.before loading stepped.allowed.at stepped.allowed.pass stepped.stands.laws.locks agree
      (world-lock load_list stepped.before loading stepped.allowed.at stepped.allowed.pass stepped.stands.formed list.lock) list.idle

  linked : IsChain (λ i. word_of stepped.before (SlotNext i)) head agree.chain
  linked = subst (λ (n : ℕ). IsChain (λ i. word_of stepped.before (SlotNext i)) n agree.chain) (sym stepped.finds) agree.linked

  pub loaded-head : LoadedHead view next head
  loaded-head = record {
    step = stepped;
    more = knows-more MayLoadList load_list view next SlotHead 0 0 head stepped (λ v n f a b. refl) (λ word operand. refl);
    is = loaded-word MayLoadList load_list view next SlotHead 0 0 head stepped (λ word operand. refl);
    none = λ zero.
        let empty = chain-end (λ i. word_of stepped.before (SlotNext i)) agree.chain (subst (λ (n : ℕ). IsChain (λ i. word_of stepped.before (SlotNext i)) n agree.chain) zero linked) in
        subst (IsCauseAt full) (sym (scene-here stepped.before next sizes past)) (none-free stepped.before agree (sym whole ∙ empty));
    some = λ index names.
        let first = chain-first (λ i. word_of stepped.before (SlotNext i)) index agree.chain (subst (λ (n : ℕ). IsChain (λ i. word_of stepped.before (SlotNext i)) n agree.chain) names linked) in
        first-known stepped.before next index first.0 agree sizes past (sym whole ∙ first.1);
  }

pub loaded-link : (view next : View) (index link : ℕ) → Stepped MayLoadList load_list view (SlotNext index) 0 0 link next → LoadedLink view next index link
loaded-link view next index link stepped = record {
  step = stepped;
  more = knows-more MayLoadList load_list view next (SlotNext index) 0 0 link stepped (λ v n f a b. refl) (λ word operand. refl);
  is = loaded-word MayLoadList load_list view next (SlotNext index) 0 0 link stepped (λ word operand. refl);
}

-- ---- stores

pub linked-to : (view next : View) (index head : ℕ) → Stored MayStoreLink store_link view (SlotNext index) head next → LinkedTo view next index head
linked-to view next index head stored = record {
  step = stored;
  stores = stores-word MayStoreLink store_link view next (SlotNext index) head refl stored;
  rest = stored.1.leaves ∙ (λ i. record view { known = sym (ap (λ (v : View). v.known) stored.1.leaves) i; joined = None });
}

module _ (view next : View) (value : ℕ) (list : HasList view) (stored : Stored MayStoreHead store_head view SlotHead value next) where
  abbrev storing : Step
  storing = step_by stored.1.seat view stored.1.number SlotHead value 0

  head-sizes : next.config ≡ stored.1.before.config
  head-sizes = ap (λ (v : View). v.config) stored.1.leaves ∙ stepped-sizes MayStoreHead store_head view next SlotHead value 0 stored.0 stored.1

  head-past : history next.known ≡ history stored.1.before.log
  head-past = ap (λ (v : View). history v.known) stored.1.leaves ∙ step-history store_head stored.1.before storing (λ v. refl)

  -- the task that is begun
  is-doing : (task : Task) → (view_after store_head stored.1.before storing).call.task ≡ task → IsDoing view next task
  is-doing task same = record { rest = stored.1.leaves ∙ (λ i. record (with_task view (same i)) { known = sym (ap (λ (v : View). v.known) stored.1.leaves) i; joined = None }) }

  pub took-off : TakesFirst view value → (index : ℕ) → known_word view SlotHead ≡ suc index → TookOff view next index value
  took-off takes index names =
      let stepped = stored.1 in
      let agree = stepped.stands.laws.bodies in
      let taken = is-taken stepped.before storing stepped.allowed.at stepped.allowed.pass stepped.stands.formed stepped.stands.guards stepped.stands.laws.locks agree refl list takes in
      let task = taken-task stepped.before storing stepped.allowed.at stepped.allowed.pass stepped.stands.formed stepped.stands.guards stepped.stands.laws.locks agree refl list takes in
      let same : takes.index ≡ index = (let head = takes.head in omega arith) in
      subst (λ (n : ℕ). TookOff view next n value) same
      (record {
        step = stored;
        stores = stores-word MayStoreHead store_head view next SlotHead value refl stored;
        doing = is-doing (Creating takes.index) task;
        first = first-known stepped.before next takes.index taken.chain agree head-sizes head-past (sym taken.free);
      })

  pub put-in-front : (index : ℕ) (puts : PutsFirst view value) → puts.index ≡ index → value ≡ suc index → PutInFront view next index
  put-in-front index puts same head =
      let stepped = stored.1 in
      let task = put-task stepped.before storing stepped.allowed.at stepped.allowed.pass stepped.stands.formed stepped.stands.guards stepped.stands.laws.locks stepped.stands.laws.bodies refl list puts in
      record {
        step = subst (λ (n : ℕ). Stored MayStoreHead store_head view SlotHead n next) head stored;
        stores = subst (λ (n : ℕ). StoresWord view next SlotHead n) head (stores-word MayStoreHead store_head view next SlotHead value refl stored);
        doing = subst (λ (n : ℕ). IsDoing view next (Destroying n)) same (is-doing (Destroying puts.index) task);
      }
