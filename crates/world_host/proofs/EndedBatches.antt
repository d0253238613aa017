-- What is left of the room for batches where one is attached, and where one is given up.
use Rattle.std.proofs.Common.{◌≡◌, ◌≢◌, ◌⊎◌, ℕ, ◌+◌, ◌<◌, cond, List, [], ◌∷◌, ◌++◌, length, map, inl, inr, refl, ap, sym, ◌∙◌, subst, arith}
use Rattle.std.specs.Prelude.{Contains}
use mathlib.Core.Logic.{∥∥₁_elim}
use Rattle.std.proofs.Props.{props}
use Rattle.std.proofs.lemmas.Bool.{cases_eq}
use Rattle.std.proofs.lemmas.List.Elements.{Contains-append_right}
use Rattle.scene_model.specs.declared.entry.Entry.{Entry}
use Rattle.scene_model.specs.declared.entry.Entry.TheVariants.{Join, Unmark}
use Rattle.scene_model.specs.Need.{need}
use Rattle.word_map.specs.declared.name.Name.{Name}
use Rattle.word_map.specs.declared.name.Name.TheVariants.{Slot, PoolFree}
use Rattle.core_state.specs.declared.item.Store.{Store}
use Rattle.core_state.specs.declared.view.Batch.{Batch}
use Rattle.core_state.specs.declared.view.Marked.{Marked}
use Rattle.core_state.specs.declared.view.View.{View}
use Rattle.core_state.specs.Names.{code_of, same_name}
use Rattle.core_state.specs.Encoding.{slot_tree}
use Rattle.core_state.specs.View.{IsPass, known_word}
use Rattle.core_state.proofs.Beginning.{contains_first}
use Rattle.core_batch.proofs.Owning.{slot-reserved}
use Rattle.pass_table.specs.declared.pass.Pass.{Pass}
use Rattle.pass_table.specs.Passes.{view_of}
use Rattle.pass_table.specs.Bodies.{IsCurrent}
use Rattle.pass_table.specs.Several.{KnowsOwn}
use Rattle.pass_table.specs.Work.{Tells}
use Rattle.pass_table.proofs.Bodies.{known-now}
use Rattle.batch_add.specs.declared.prepared.Prepared.{Prepared}
use Rattle.batch_add.specs.Parts.{stored_as, given_stores}
use Rattle.batch_add.specs.Drawing.{node_at}
use Rattle.batch_add.specs.Prepared.{HasAttached}
use Rattle.batch_add.specs.Answers.{HasAborted}
use Rattle.script_player.specs.Taking.{unmarks}
use Rattle.world_host.specs.Alone.{MakesEntries}
use Rattle.world_host.specs.Rooms.{slots_taken}
use Rattle.world_host.specs.Batches.{WasAttached, WasGivenUp}
use Rattle.world_host.proofs.Histories.{pass-own, pass-makes}
use Rattle.world_host.proofs.ToldWords.{word-told, stored-among, IsAmongStores}
use Rattle.world_host.proofs.SlotCounts.{taken_by, taken-some, taken-own, taken-other}

-- ---- the word of the slot of a prepared batch says that it is taken

held-now : (view : View) (number layer slot : ℕ) (batch : Batch) → IsPass view number → Contains view.batches batch → (batch.layer ≡ layer) × (batch.slot ≡ slot) → IsCurrent view → 0 < known_word view (Slot layer slot)
held-now view number layer slot batch pass among for_slot now =
    let word = known-now view now (Slot layer slot) ∙ slot-reserved now.core now.stands.formed now.stands.laws.bodies now.seat number layer slot view now.at pass (batch, among, for_slot) in
    omega arith

module _ (before : Pass) (prepared : Prepared) (early : List Batch) (batch : Batch) (late : List Batch) (among : (view_of before).batches ≡ early ++ batch ∷ late) (for_slot : (batch.layer ≡ prepared.layer) × (batch.slot ≡ prepared.slot)) where
  abbrev start : View
  start = view_of before

  abbrev own_slot : Name
  own_slot = Slot prepared.layer prepared.slot

  was-taken : 0 < known_word start own_slot
  was-taken =
      ∥∥₁_elim before.current (hlevel props)
      (held-now start before.number prepared.layer prepared.slot batch before.numbered
      (subst (λ (bs : List Batch). Contains bs batch) (sym among) (Contains-append_right early (batch ∷ late) batch (contains_first batch late))) for_slot)

  was-one : taken_by (known_word start own_slot) ≡ 1
  was-one = taken-some (known_word start own_slot) was-taken

-- ---- a batch is attached

module _ (before pass : Pass) (one : (view_of before).config.passes ≡ 1) (prepared : Prepared) (attached : HasAttached prepared (view_of before) (view_of pass)) where
  abbrev start_a : View
  start_a = view_of before

  abbrev next_a : View
  next_a = view_of pass

  sizes_a : next_a.config ≡ start_a.config
  sizes_a = ap (λ (v : View). v.config) attached.left

  role_a : next_a.role ≡ start_a.role
  role_a = ap (λ (v : View). v.role) attached.left

  own_a : KnowsOwn next_a
  own_a = pass-own pass start_a one sizes_a role_a

  abbrev root_word : ℕ
  root_word = slot_tree (node_at prepared.nodes.items 0)

  words_a : (l t : ℕ) → known_word next_a (Slot l t) ≡ cond (same_name (Slot prepared.layer prepared.slot) (Slot l t)) root_word (known_word start_a (Slot l t))
  words_a l t = word-told start_a next_a (Slot l t) (stored_as (Slot prepared.layer prepared.slot) root_word ∷ []) refl own_a sizes_a role_a attached.tells

  still_taken : (l : ℕ) → (l ≡ prepared.layer) ⊎ (l ≢ prepared.layer) → slots_taken next_a l ≡ slots_taken start_a l
  still_taken l (inr other) = taken-other start_a next_a prepared.layer prepared.slot root_word sizes_a words_a l other
  still_taken l (inl same) =
      let named : (prepared.layer < start_a.config.layers) × (prepared.slot < start_a.config.slots) = attached.is.named in
      let counts = taken-own start_a next_a prepared.layer prepared.slot root_word sizes_a words_a named.1 in
      let was = was-one before prepared attached.before attached.batch attached.after attached.is.among attached.is.for_slot in
      subst (λ (k : ℕ). slots_taken next_a k ≡ slots_taken start_a k) (sym same) (omega (arith, counts, was, taken-some root_word (omega arith)))

  pub was-attached : WasAttached prepared.layer prepared.indexes.items start_a next_a
  was-attached = record {
    made = pass-makes pass start_a one sizes_a role_a (Join prepared.layer prepared.indexes.items ∷ []) attached.adds;
    room = record {
      config = sizes_a;
      slots = λ l. still_taken l (cases_eq l prepared.layer);
      free = word-told start_a next_a PoolFree (stored_as (Slot prepared.layer prepared.slot) root_word ∷ []) refl own_a sizes_a role_a attached.tells;
    };
  }

-- ---- a batch is given up

-- what is stored then
given-cases : (batch : Batch) (free : ℕ) (nodes : List ℕ) → batch.nodes ≡ nodes
    → (given_stores batch free ≡ stored_as (Slot batch.layer batch.slot) 0 ∷ []) ⊎ (given_stores batch free ≡ stored_as (Slot batch.layer batch.slot) 0 ∷ stored_as PoolFree free ∷ [])
given-cases batch free [] is = inl (ap (λ (l : List ℕ). given_stores (record batch { nodes = l }) free) is)
given-cases batch free (n ∷ rest) is = inr (ap (λ (l : List ℕ). given_stores (record batch { nodes = l }) free) is)

kinds-apart : (l t : ℕ) → Slot l t ≢ PoolFree
kinds-apart l t e = let kinds = ap (λ (n : Name). (code_of n).kind) e in absurd (omega arith)

-- of two such stores that of the free nodes is the second
free-from : (l t before old new free : ℕ) → IsAmongStores PoolFree before old new (stored_as (Slot l t) 0 ∷ stored_as PoolFree free ∷ []) → (free ≡ new) × (before ≡ old)
free-from l t before old new free (inl first) = absurd (kinds-apart l t first.0)
free-from l t before old new free (inr (inl second)) = (second.1, second.2)
free-from l t before old new free (inr (inr none)) = absurd none

none-free : (l t before old new : ℕ) → IsAmongStores PoolFree before old new (stored_as (Slot l t) 0 ∷ []) → ⊥
none-free l t before old new (inl first) = kinds-apart l t first.0
none-free l t before old new (inr none) = none

unmarks-of : (marked : List Marked) → map (λ (m : Marked). Unmark m.index) marked ≡ unmarks (map (λ (m : Marked). m.index) marked)
unmarks-of [] = refl
unmarks-of (m ∷ later) = ap (λ (l : List Entry). Unmark m.index ∷ l) (unmarks-of later)

module _ (before pass : Pass) (one : (view_of before).config.passes ≡ 1) (prepared : Prepared) (aborted : HasAborted prepared (view_of before) (view_of pass)) where
  abbrev start_g : View
  start_g = view_of before

  abbrev next_g : View
  next_g = view_of pass

  abbrev batch_g : Batch
  batch_g = aborted.batch

  sizes_g : next_g.config ≡ start_g.config
  sizes_g = ap (λ (v : View). v.config) aborted.given.done.left

  role_g : next_g.role ≡ start_g.role
  role_g = ap (λ (v : View). v.role) aborted.given.done.left

  own_g : KnowsOwn next_g
  own_g = pass-own pass start_g one sizes_g role_g

  abbrev stores_g : List Store
  stores_g = stored_as (Slot batch_g.layer batch_g.slot) 0 ∷ stored_as PoolFree aborted.given.free ∷ []

  stores-are : given_stores batch_g aborted.given.free ≡ stores_g
  stores-are = elim (given-cases batch_g aborted.given.free batch_g.nodes refl) [
    | inl bare ↦
        let among = stored-among start_g next_g _ PoolFree aborted.back.0 _ refl own_g role_g aborted.given.done.tells aborted.back.1 in
        absurd (none-free batch_g.layer batch_g.slot (known_word start_g PoolFree) _ _ (subst (IsAmongStores PoolFree (known_word start_g PoolFree) _ _) bare among))
    | inr both ↦ both
  ]

  tells_g : Tells start_g next_g stores_g
  tells_g = subst (Tells start_g next_g) stores-are aborted.given.done.tells

  free_g : (aborted.given.free ≡ aborted.back.0 + need (length prepared.indexes.items)) × (known_word start_g PoolFree ≡ aborted.back.0)
  free_g = free-from batch_g.layer batch_g.slot (known_word start_g PoolFree) _ _ aborted.given.free (stored-among start_g next_g stores_g PoolFree aborted.back.0 _ refl own_g role_g tells_g aborted.back.1)

  words_g : (l t : ℕ) → known_word next_g (Slot l t) ≡ cond (same_name (Slot prepared.layer prepared.slot) (Slot l t)) 0 (known_word start_g (Slot l t))
  words_g l t =
      word-told start_g next_g (Slot l t) stores_g refl own_g sizes_g role_g tells_g
      ∙ (λ i. cond (same_name (Slot (aborted.is.for_slot.0 i) (aborted.is.for_slot.1 i)) (Slot l t)) 0 (known_word start_g (Slot l t)))

  pub was-given_up : WasGivenUp prepared.layer prepared.indexes.items start_g next_g
  was-given_up =
      let named : (prepared.layer < start_g.config.layers) × (prepared.slot < start_g.config.slots) = aborted.is.named in
      let counts = taken-own start_g next_g prepared.layer prepared.slot 0 sizes_g words_g named.1 in
      let was = was-one before prepared aborted.before batch_g aborted.after aborted.is.among aborted.is.for_slot in
      let pool = word-told start_g next_g PoolFree stores_g refl own_g sizes_g role_g tells_g in
      record {
        made =
            subst (MakesEntries start_g next_g) (unmarks-of batch_g.marked ∙ ap unmarks aborted.is.indexes)
            (pass-makes pass start_g one sizes_g role_g (map (λ (m : Marked). Unmark m.index) batch_g.marked) aborted.given.done.adds);
        room = record {
          config = sym sizes_g;
          own = omega (arith, counts, was);
          others = λ other apart. sym (taken-other start_g next_g prepared.layer prepared.slot 0 sizes_g words_g other apart);
          free = let free = free_g in omega (arith, pool, free.0, free.1);
        };
      }
