-- The bodies agree: state, phase, layer, user and box words say what the history says, and the free indexes are linked.
use Rattle.std.specs.Prelude.{◌≡◌, ◌≢◌, ◌↔◌, ℕ, suc, ◌+◌, ◌-◌, ◌^◌, ◌<◌, Bool, true, false, List, ◌∷◌, Contains, AllPairs, Some, ⊤, slice_index, IsNone}
use Rattle.fixed_box.specs.FixBox.{words_of}
use Rattle.scene_model.specs.declared.body_view.Phase.TheVariants.{Held}
use Rattle.scene_model.specs.Scene.{Record, place_at, record_at}
use Rattle.scene_model.specs.Step.{HasBody}
use Rattle.scene_model.specs.History.{IsLawfulHistory}
use Rattle.word_map.specs.declared.name.Name.{Name}
use Rattle.word_map.specs.declared.name.Name.TheVariants.{SlotHead, SlotNext, State, Phase, Layer, User, BoxWord, Slot}
use Rattle.word_map.specs.Names.{index_lock, stripe_of}
use Rattle.core_state.specs.declared.view.Mode.TheVariants.{Write}
use Rattle.core_state.specs.declared.view.Task.{Task}
use Rattle.core_state.specs.declared.view.Task.TheVariants.{Creating, Destroying, Moving, Removing, Placing}
use Rattle.core_state.specs.declared.view.Marked.{Marked}
use Rattle.core_state.specs.declared.view.Batch.{Batch}
use Rattle.core_state.specs.declared.view.View.{View}
use Rattle.core_state.specs.View.{Holds}
use Rattle.core_state.specs.Parts.{call_without_loads}
use Rattle.core_state.specs.Core.{Core}
use Rattle.core_state.specs.Scope.{Scope, Sight, sight, scene_in, HasPass, EachPass}
use Rattle.core_state.specs.Encoding.{phase_out, phase_join, reserved_by}
use Rattle.core_state.specs.Bodies.{state_word, phase_by, free_indexes, IsChain, HasWholeBox, IsForSlot, AreOtherSlots, all_batches, all_marked}

abbrev pub is_body_word : Name → Bool
is_body_word SlotHead = true
is_body_word (SlotNext i) = true
is_body_word (State i) = true
is_body_word (Phase i) = true
is_body_word (Layer i) = true
is_body_word (User i) = true
is_body_word (BoxWord i k) = true
is_body_word (Slot l t) = true
is_body_word _ = false

-- it reads those words, the history, and of each view the locks, the batches, what it is at and what it stored for that
abbrev pub body_scope : Scope
body_scope = record {
  names = is_body_word;
  reads_history = true;
  part = λ bare view. record bare { locks = view.locks; call = call_without_loads view.call; batches = view.batches };
}

-- the words of a live body are those of its record; its box words so far as they are not being stored
pub record HasWordsOf (s : Sight) (i : ℕ) (r : Record) : Type 0 where
  pub layer : s.word (Layer i) ≡ r.layer
  pub user : s.word (User i) ≡ r.user
  pub user_fits : r.user < 2 ^ 32
  pub bounds : HasWholeBox s i → (k : ℕ) → k < 6 → s.word (BoxWord i k) ≡ slice_index (words_of r.bounds) k
  -- a phase that names a slot never stands with an empty one
  pub phase : phase_by (s.word (Phase i)) (s.word (Slot r.layer (s.word (Phase i) - 2))) ≡ Some r.phase
  pub slot : s.word (Phase i) < 2 + s.config.slots

-- what a task says of the free indexes: one was taken off and its body is not created, or one was put in front and its
-- body is not destroyed. Both are done under the lock of the list
abbrev pub ListsFree : Sight → View → Task → List ℕ → Type 0
ListsFree s view (Creating index) chain = Holds view (index_lock s.config) Write × (index ∷ chain ≡ free_indexes (scene_in s))
ListsFree s view (Destroying index) chain = Holds view (index_lock s.config) Write × (chain ≡ index ∷ free_indexes (scene_in s))
ListsFree s view _ chain = ⊤

-- the task changes the list of free indexes
abbrev pub ChangesList : Task → Type 0
ChangesList (Creating index) = ⊤
ChangesList (Destroying index) = ⊤
ChangesList _ = ⊥

-- a pass gives a body another box only under its stripe
abbrev pub IsUnderStripe : Sight → View → Task → Type 0
IsUnderStripe s view (Moving index target) = Holds view (stripe_of s.config index) Write
IsUnderStripe s view (Removing index) = Holds view (stripe_of s.config index) Write
IsUnderStripe s view (Placing index) = Holds view (stripe_of s.config index) Write
IsUnderStripe s view _ = ⊤

-- a body that a batch has marked is held in its layer, its phase names its slot, and its box words are those it had
pub record IsHeldFor (s : Sight) (batch : Batch) (m : Marked) : Type 0 where
  pub held : HasBody (scene_in s) m.index (λ r. (r.phase ≡ Held) × (r.layer ≡ batch.layer))
  pub phase : s.word (Phase m.index) ≡ phase_join batch.slot
  pub bounds : (k : ℕ) → k < 6 → s.word (BoxWord m.index k) ≡ slice_index m.bounds k

pub record BodiesAgreeIn (s : Sight) : Type 0 where
  pub lawful : IsLawfulHistory s.config.layers s.config.bodies s.history
  pub state : (i : ℕ) → i < s.config.bodies → s.word (State i) ≡ state_word (place_at (scene_in s) i)
  pub live : (i : ℕ) (r : Record) → record_at (scene_in s) i ≡ Some r → HasWordsOf s i r
  -- an index that is not live says that it is out
  pub dead : (i : ℕ) → IsNone (record_at (scene_in s) i) → s.word (Phase i) ≡ phase_out
  -- the chain of free indexes
  pub chain : List ℕ
  pub linked : IsChain (λ i. s.word (SlotNext i)) (s.word SlotHead) chain
  pub listed : EachPass s (λ number view. ListsFree s view view.call.task chain)
  pub settled : EachPass s (λ number view. ¬ ChangesList view.call.task) → chain ≡ free_indexes (scene_in s)
  pub stripes : EachPass s (λ number view. IsUnderStripe s view view.call.task)
  -- a slot is reserved by a pass exactly where the pass has a batch for it; no two batches have one slot
  pub reserved : (l t number : ℕ) → suc number < 1024 →
      (s.word (Slot l t) ≡ reserved_by number) ↔ HasPass s number (λ view. (batch : Batch) × Contains view.batches batch × IsForSlot l t batch)
  pub slots : AllPairs AreOtherSlots (all_batches s)
  -- a held body is marked in one batch
  pub marked : (batch : Batch) (m : Marked) → Contains (all_batches s) batch → Contains batch.marked m → IsHeldFor s batch m
  pub held : (i : ℕ) → HasBody (scene_in s) i (λ r. r.phase ≡ Held) →
      (batch : Batch) × (m : Marked) × Contains (all_batches s) batch × Contains batch.marked m × (m.index ≡ i)
  pub once : AllPairs (λ a b. a.index ≢ b.index) (all_marked s)

abbrev pub BodiesAgree : Core → Type 0
BodiesAgree core = BodiesAgreeIn (sight body_scope core)
