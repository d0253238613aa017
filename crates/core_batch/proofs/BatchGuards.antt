-- The steps on batches and on the pool store no word that another pass has for itself.
use Rattle.std.proofs.Common.{◌≡◌, ◌≢◌, ◌⊎◌, ℕ, suc, ◌<◌, [], Bool, true, false, Option, Some, None, option_map, refl, ap, sym, ◌∙◌, subst, inl, inr, arith}
use Rattle.std.specs.Prelude.{Contains, IfSome, IsSomeAnd, if◌then◌else◌, map, flat_map}
use Rattle.std.proofs.lemmas.Bool.{eqb-true}
use Rattle.std.proofs.lemmas.Option.{none-some, same_Some}
use Rattle.std.proofs.lemmas.List.Elements.{Contains-append_left, Contains-append_right, Contains-append_cases}
use Rattle.scene_model.specs.declared.body_view.Phase.TheVariants.{Held}
use Rattle.scene_model.specs.Scene.{record_at}
use Rattle.scene_model.specs.Step.{HasBody}
use Rattle.word_map.specs.declared.config.Config.{Config}
use Rattle.word_map.specs.declared.name.Name.{Name}
use Rattle.word_map.specs.declared.name.Name.TheVariants.{Phase, LocA, Child, Bound, Parent, PoolHead, PoolNext, PoolFree, Slot}
use Rattle.word_map.specs.Names.{pool_lock, stripe_of}
use Rattle.core_state.specs.declared.view.Mode.TheVariants.{Write}
use Rattle.core_state.specs.declared.view.Marked.{Marked}
use Rattle.core_state.specs.declared.view.Batch.{Batch}
use Rattle.core_state.specs.declared.view.Rebuild.{Rebuild}
use Rattle.core_state.specs.declared.view.Waiting.{Waiting}
use Rattle.core_state.specs.declared.view.View.{View}
use Rattle.core_state.specs.View.{IsPass, Holds}
use Rattle.core_state.specs.Core.{Core, word_of, scene_of, IsViewAt}
use Rattle.core_state.specs.Kind.{Kind, Step, found_by}
use Rattle.core_state.specs.Encoding.{slot_tree, phase_out}
use Rattle.core_state.specs.Parts.{update_on_cover, update_on_trees}
use Rattle.core_state.specs.Nodes.{returning, IsOwnedBy, node_in, nodes_in, nodes_of}
use Rattle.core_state.specs.Updates.{IsStillMerged}
use Rattle.core_state.specs.Batches.{HasMarked, MayMark, mark, MayUnmark, unmark, MayPlace, place_body, MayTakeBack, take_back, MayReserve, reserve, HasBatch, MayAttach, attach, MayStoreNode, store_node, MayLetSlotGo, let_slot_go}
use Rattle.core_state.specs.Pool.{MayStorePoolLink, store_pool_link, MayStorePoolHead, store_pool_head, MayStorePoolCount, store_pool_count}
use Rattle.core_state.specs.BodiesCovered.{cover_scope, KeepsMerged}
use Rattle.core_state.specs.Guards.{by_lock, KeepsGuards, private_nodes}
use Rattle.core_state.specs.Scope.{sight}
use Rattle.core_state.specs.TreesSound.{tree_scope, AreTops}
use Rattle.core_state.specs.Invariants.{Invariants}
use Rattle.core_guard.proofs.BodiesStep.{sound, known-now}
use Rattle.core_guard.proofs.Alone.{marked-held}
use Rattle.core_guard.proofs.Seats.{each-seat}
use Rattle.core_batch.proofs.Lists.{map_from}
use Rattle.core_batch.proofs.Mapped.{marks-apart, held-by}
use Rattle.core_batch.proofs.Owning.{same-seat, owner_one, owned-by, batch-home, number-low, slot-reserved}
use Rattle.core_guard.proofs.Leaving.{Acts, some_and_map}
use Rattle.core_guard.proofs.Holders.{HasMark, HasNode, Holder, Settles, EachOther, IsNobodys, keeps, unlocked, locked, IsGuarded, guarded}

-- ---- what other passes do not have

module _ (core : Core) (step : Step) (a : Acts core step) where
  -- a body that this one has marked
  marked-alone : (batch : Batch) (m : Marked) → HasMarked step.view batch m → EachOther core step (λ number view. ¬ HasMark view m.index)
  marked-alone batch m has seat number view apart found own t =
      marks-apart core a.laws.bodies step.seat step.number step.view a.at a.pass seat number view batch t.0 m t.1 apart found own has.among has.marked t.2 t.3 (sym t.4)

  -- a body whose phase is not that of a slot
  unmarked : (i : ℕ) → word_of core (Phase i) ≡ phase_out → EachOther core step (λ number view. ¬ HasMark view i)
  unmarked i out seat number view apart found own t =
      let joins = (a.laws.bodies.marked t.0 t.1 (held-by core seat number view t.0 found own t.2) t.3).phase in
      let same = ap (λ (k : ℕ). word_of core (Phase k)) t.4 in
      absurd (omega arith)

  -- the number of this one
  numbered : EachOther core step (λ number view. number ≢ step.number)
  numbered seat number view apart found own same = apart (same-seat core a.formed seat step.seat number view step.view found a.at own (a.pass ∙ ap Some (sym same)))

  -- a slot that names no tree, and that no other pass has
  slotless : (l t : ℕ) → ((root : ℕ) → word_of core (Slot l t) ≢ slot_tree root) → ((number : ℕ) → number ≢ step.number → suc number < 1024 → word_of core (Slot l t) ≢ suc number) → IsNobodys core step (Slot l t)
  slotless l t treeless others seat number view apart found own = (
    λ holder. elim holder [
      | inl has ↦ others number (numbered seat number view apart found own) (number-low core a.formed seat number view found own) (slot-reserved core a.formed a.laws.bodies seat number l t view found own has)
      | inr merges ↦ clears view.rebuild (each-seat cover_scope (λ k v. refl) core (λ k v. IfSome v.rebuild (λ r. KeepsMerged (sight cover_scope core) r)) a.laws.cover.merged seat number view found own) merges
    ],
    tt,
  )
    where
      clears : (o : Option Rebuild) → IfSome (option_map update_on_cover o) (λ r. KeepsMerged (sight cover_scope core) r) → ¬ IsSomeAnd o (λ r. (root : ℕ) × IsStillMerged r l t root)
      clears None h merges = merges
      clears (Some r) h merges = treeless merges.0 (h.stand l t merges.0 merges.1)

  -- so the slot of an own batch, which is reserved, is nobody else's
  slot-own : (l t : ℕ) (batch : Batch) → HasBatch step.view l t batch → IsNobodys core step (Slot l t)
  slot-own l t batch has =
      let mine = slot-reserved core a.formed a.laws.bodies step.seat step.number l t step.view a.at a.pass (batch, has.among, has.for_slot) in
      let low = number-low core a.formed step.seat step.number step.view a.at a.pass in
      slotless l t (λ root e. absurd (omega arith)) (λ number other below e. other (omega arith))

-- ---- bodies of batches

pub GuardsHold-mark : IsGuarded MayMark mark
GuardsHold-mark =
    guarded MayMark mark
    (λ core step a asked. keeps mark core step (Phase asked.index) asked.names
    (λ stored seat number view apart found own.
    let stripe = subst (λ (c : Config). Holds step.view (stripe_of c asked.index) Write) (sound mark core step a.at a.pass a.formed).config asked.stripe in
    let out = known-now mark core step a.at a.pass (Phase asked.index) a.formed a.guards (by_lock (stripe_of core.config asked.index) Write stripe refl) ∙ asked.out in (
      λ holder. elim holder [
        | inl l ↦ unlocked core step a (λ c. stripe_of c asked.index) asked.stripe seat number view apart found own l
        | inr t ↦ unmarked core step a asked.index out seat number view apart found own t
      ],
      tt,
    )))

pub GuardsHold-unmark : IsGuarded MayUnmark unmark
GuardsHold-unmark =
    guarded MayUnmark unmark
    (λ core step a asked. keeps unmark core step (Phase asked.m.index) asked.names
    (λ stored seat number view apart found own. (
      λ holder. elim holder [
        | inl l ↦ unlocked core step a (λ c. stripe_of c asked.m.index) asked.stripe seat number view apart found own l
        | inr t ↦ marked-alone core step a asked.batch asked.m asked.has seat number view apart found own t
      ],
      tt,
    )))

location-guarded : (kind : Kind) (core : Core) (step : Step) → Acts core step → (batch : Batch) (m : Marked) → HasMarked step.view batch m → step.name ≡ LocA m.index → KeepsGuards kind core step
location-guarded kind core step a batch m has names =
    let held : HasBody (scene_of core) m.index (λ r. r.phase ≡ Held) =
    some_and_map (record_at (scene_of core) m.index) _ _ (λ r h. h.0) (marked-held core a.laws.bodies step.seat step.number step.view a.at a.pass batch m has.among has.marked)
    in
    keeps kind core step (LocA m.index) names (λ stored seat number view apart found own. (marked-alone core step a batch m has seat number view apart found own, λ mode holds. held))

pub GuardsHold-place_body : IsGuarded MayPlace place_body
GuardsHold-place_body = guarded MayPlace place_body (λ core step a asked. location-guarded place_body core step a asked.batch asked.m asked.has asked.names)

pub GuardsHold-take_back : IsGuarded MayTakeBack take_back
GuardsHold-take_back = guarded MayTakeBack take_back (λ core step a asked. location-guarded take_back core step a asked.batch asked.m asked.has asked.names)

-- ---- slots

pub GuardsHold-reserve : IsGuarded MayReserve reserve
GuardsHold-reserve =
    guarded MayReserve reserve
    (λ core step a asked. keeps reserve core step (Slot asked.layer asked.slot) asked.names
    (λ hit.
    let empty : word_of core (Slot asked.layer asked.slot) ≡ 0 = ap (word_of core) (sym asked.names) ∙ (eqb-true (found_by core step) step.first hit ∙ asked.empty) in
    slotless core step a asked.layer asked.slot (λ root e. absurd (omega arith)) (λ number other low e. absurd (omega arith))))

pub GuardsHold-let_slot_go : IsGuarded MayLetSlotGo let_slot_go
GuardsHold-let_slot_go =
    guarded MayLetSlotGo let_slot_go
    (λ core step a asked. keeps let_slot_go core step (Slot asked.layer asked.slot) asked.names (λ stored. slot-own core step a asked.layer asked.slot asked.batch asked.has))

pub GuardsHold-attach : IsGuarded MayAttach attach
GuardsHold-attach =
    guarded MayAttach attach (λ core step a asked. keeps attach core step (Slot asked.layer asked.slot) asked.names (λ stored. slot-own core step a asked.layer asked.slot asked.batch asked.has))

-- ---- own nodes

abbrev HoldsNode : Core → View → Name → ℕ → Type 0
HoldsNode core view name n = (Holder core.config view name → HasNode view n) × Settles core view name

node_word : (core : Core) (view : View) (name : Name) (n : ℕ) → node_in name ≡ Some n → HoldsNode core view name n
node_word core view (Child m k) n e = (λ h. subst (HasNode view) (same_Some m n e) h, tt)
node_word core view (Bound m k q) n e = (λ h. subst (HasNode view) (same_Some m n e) h, tt)
node_word core view (Parent m) n e = (λ h. subst (HasNode view) (same_Some m n e) h, tt)
node_word core view _ n e = absurd (none-some n e)

-- a pass has such a node for a batch, to give it back, or as one of its update; or it is a top of what the update gives back
abbrev HasTop : View → ℕ → Type 0
HasTop view n = IsSomeAnd view.rebuild (λ r. (w : Waiting) × Contains r.returning w × (w.node ≡ n))

private_among : (o : Option Rebuild) (n : ℕ) → Contains (private_nodes o) n → Contains (nodes_in o) n ⊎ IsSomeAnd o (λ r. (w : Waiting) × Contains r.returning w × (w.node ≡ n))
private_among None n h = inl h
private_among (Some r) n h =
    elim (Contains-append_cases (if r.is_planned then [] else r.nodes) (map (λ w. w.node) r.returning) n h) [
      | inl c ↦ inl (go r.is_planned c)
      | inr c ↦ inr (map_from (λ (w : Waiting). w.node) r.returning n c)
    ]
  where
    go : (test : Bool) → Contains (if test then [] else r.nodes) n → Contains r.nodes n
    go true c = let below = c.1 in absurd (omega arith)
    go false c = c

among_all : (view : View) (n : ℕ) → HasNode view n → Contains (nodes_of view) n ⊎ HasTop view n
among_all view n h =
    let batches = flat_map (λ (b : Batch). b.nodes) view.batches in
    elim (Contains-append_cases batches _ n h) [
      | inl c ↦ inl (Contains-append_left batches _ n c)
      | inr c ↦ elim (Contains-append_cases view.loose _ n c) [
        | inl d ↦ inl (Contains-append_right batches _ n (Contains-append_left view.loose (nodes_in view.rebuild) n d))
        | inr d ↦ elim (private_among view.rebuild n d) [
          | inl e ↦ inl (Contains-append_right batches _ n (Contains-append_right view.loose (nodes_in view.rebuild) n e))
          | inr e ↦ inr e
        ]
      ]
    ]

-- a top is to be given back, so it is in no batch and owned by nobody
top-home : (core : Core) (h : Invariants core) (seat number : ℕ) (view : View) → IsViewAt core seat view → IsPass view number → (n : ℕ) → HasTop view n → h.nodes.home n ≡ returning number
top-home core h seat number view found own n top = go view.rebuild (each-seat tree_scope (λ k v. refl) core _ h.trees.tops seat number view found own) top
  where
    go : (o : Option Rebuild) → IfSome (option_map update_on_trees o) (λ r. AreTops h.nodes (sight tree_scope core) number r) → IsSomeAnd o (λ r. (w : Waiting) × Contains r.returning w × (w.node ≡ n)) → h.nodes.home n ≡ returning number
    go None tops t = absurd t
    go (Some r) tops t = subst (λ (k : ℕ). h.nodes.home k ≡ returning number) t.2 (tops.tops t.0 t.1).owned

pub GuardsHold-store_node : IsGuarded MayStoreNode store_node
GuardsHold-store_node =
    guarded MayStoreNode store_node
    (λ core step a asked. keeps store_node core step step.name refl
    (λ stored seat number view apart found own.
    let word = node_word core view step.name asked.node asked.of_node in
    let home = batch-home core a.laws.nodes a.laws.places step.seat step.number step.view a.at a.pass asked.node asked.owns in (
      λ holder. elim (among_all view asked.node (word.0 holder)) [
        | inl has ↦
            let owns = owned-by core a.laws.nodes a.laws.places seat number view found own asked.node has in
            numbered core step a seat number view apart found own (owner_one number step.number (a.laws.nodes.home asked.node) owns (subst (IsOwnedBy step.number) (sym home) refl))
        | inr top ↦ let back = sym home ∙ top-home core a.laws seat number view found own asked.node top in absurd cc
      ],
      word.1,
    )))

-- ---- the pool

pub GuardsHold-store_pool_link : IsGuarded MayStorePoolLink store_pool_link
GuardsHold-store_pool_link =
    guarded MayStorePoolLink store_pool_link (λ core step a asked. locked store_pool_link core step a (λ c. pool_lock c) asked.pool.lock (PoolNext asked.node) asked.names (λ view. (λ h. h, tt)))

pub GuardsHold-store_pool_head : IsGuarded MayStorePoolHead store_pool_head
GuardsHold-store_pool_head = guarded MayStorePoolHead store_pool_head (λ core step a asked. locked store_pool_head core step a (λ c. pool_lock c) asked.pool.lock PoolHead asked.names (λ view. (λ h. h, tt)))

pub GuardsHold-store_pool_count : IsGuarded MayStorePoolCount store_pool_count
GuardsHold-store_pool_count = guarded MayStorePoolCount store_pool_count (λ core step a asked. locked store_pool_count core step a (λ c. pool_lock c) asked.lock PoolFree asked.names (λ view. (λ h. h, tt)))
