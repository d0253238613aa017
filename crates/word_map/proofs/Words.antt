-- A word says one thing.
use Rattle.std.proofs.Common.{◌≡◌, ℕ, ◌<◌, ◌≤◌, Bool, true, false, refl, ap, sym, ◌∙◌, arith}
use Rattle.std.proofs.lemmas.Bool.{false≢true}
use Rattle.word_map.specs.declared.body_words.StateWord.{StateWord}
use Rattle.word_map.specs.declared.body_words.StateWord.TheVariants.{Live, Free}
use Rattle.word_map.specs.declared.body_words.PhaseWord.{PhaseWord}
use Rattle.word_map.specs.declared.body_words.PhaseWord.TheVariants.{Out, In, Joined}
use Rattle.word_map.specs.declared.tree_words.SlotWord.{SlotWord}
use Rattle.word_map.specs.declared.tree_words.SlotWord.TheVariants.{Empty as NoBatch, Reserved, Tree}
use Rattle.word_map.specs.declared.tree_words.ChildWord.{ChildWord}
use Rattle.word_map.specs.declared.tree_words.ChildWord.TheVariants.{Empty as NoChild, Body, Node}
use Rattle.word_map.specs.declared.tree_words.LocationWord.{LocationWord}
use Rattle.word_map.specs.declared.tree_words.LocationWord.TheVariants.{Nowhere, At as AtPlace}
use Rattle.word_map.specs.declared.tree_words.BoundWord.{BoundWord}
use Rattle.word_map.specs.declared.tree_words.BoundWord.TheVariants.{Empty as NoBox, At as AtCoordinate}
use Rattle.word_map.specs.declared.list_words.ListWord.{ListWord}
use Rattle.word_map.specs.declared.list_words.ListWord.TheVariants.{End, Next}
use Rattle.word_map.specs.Words.{IsStateWord, IsSlotWord, IsLocationWord, IsBoundWord, word_of_state, word_of_phase, word_of_slot, word_of_child, word_of_location, word_of_bound, word_of_link}

pub state-one : (a b : StateWord) → IsStateWord a → IsStateWord b → word_of_state a ≡ word_of_state b → a ≡ b
state-one (Live x) (Live y) p q e = ap Live (omega arith)
state-one (Live x) (Free y) p q e = absurd (omega arith)
state-one (Free x) (Live y) p q e = absurd (omega arith)
state-one (Free x) (Free y) p q e = ap Free e

pub phase-one : (a b : PhaseWord) → word_of_phase a ≡ word_of_phase b → a ≡ b
phase-one Out Out e = refl
phase-one Out In e = absurd (omega arith)
phase-one Out (Joined y) e = absurd (omega arith)
phase-one In Out e = absurd (omega arith)
phase-one In In e = refl
phase-one In (Joined y) e = absurd (omega arith)
phase-one (Joined x) Out e = absurd (omega arith)
phase-one (Joined x) In e = absurd (omega arith)
phase-one (Joined x) (Joined y) e = ap Joined (omega arith)

pub slot-one : (a b : SlotWord) → IsSlotWord a → IsSlotWord b → word_of_slot a ≡ word_of_slot b → a ≡ b
slot-one NoBatch NoBatch p q e = refl
slot-one NoBatch (Reserved y) p q e = absurd (omega arith)
slot-one NoBatch (Tree y) p q e = absurd (omega arith)
slot-one (Reserved x) NoBatch p q e = absurd (omega arith)
slot-one (Reserved x) (Reserved y) p q e = ap Reserved (omega arith)
slot-one (Reserved x) (Tree y) p q e = absurd (omega arith)
slot-one (Tree x) NoBatch p q e = absurd (omega arith)
slot-one (Tree x) (Reserved y) p q e = absurd (omega arith)
slot-one (Tree x) (Tree y) p q e = ap Tree (omega arith)

pub child-one : (a b : ChildWord) → word_of_child a ≡ word_of_child b → a ≡ b
child-one NoChild NoChild e = refl
child-one NoChild (Body y) e = absurd (omega arith)
child-one NoChild (Node y) e = absurd (omega arith)
child-one (Body x) NoChild e = absurd (omega arith)
child-one (Body x) (Body y) e = ap Body (omega arith)
child-one (Body x) (Node y) e = absurd (omega arith)
child-one (Node x) NoChild e = absurd (omega arith)
child-one (Node x) (Body y) e = absurd (omega arith)
child-one (Node x) (Node y) e = ap Node (omega arith)

at-place : (n m c d : ℕ) → n ≡ m → c ≡ d → AtPlace n c ≡ AtPlace m d
at-place n m c d p q = λ i. AtPlace (p i) (q i)

pub location-one : (a b : LocationWord) → IsLocationWord a → IsLocationWord b → word_of_location a ≡ word_of_location b → a ≡ b
location-one Nowhere Nowhere p q e = refl
location-one Nowhere (AtPlace m d) p q e = absurd (omega arith)
location-one (AtPlace n c) Nowhere p q e = absurd (omega arith)
location-one (AtPlace n c) (AtPlace m d) p q e = at-place n m c d (omega arith) (omega arith)

pub bound-one : (side : ℕ) → (a b : BoundWord) → IsBoundWord side a → IsBoundWord side b → word_of_bound side a ≡ word_of_bound side b → a ≡ b
bound-one side NoBox NoBox p q e = refl
bound-one side NoBox (AtCoordinate y) p q e = absurd (q (sym e))
bound-one side (AtCoordinate x) NoBox p q e = absurd (p e)
bound-one side (AtCoordinate x) (AtCoordinate y) p q e = ap AtCoordinate e

pub link-one : (a b : ListWord) → word_of_link a ≡ word_of_link b → a ≡ b
link-one End End e = refl
link-one End (Next y) e = absurd (omega arith)
link-one (Next x) End e = absurd (omega arith)
link-one (Next x) (Next y) e = ap Next (omega arith)

-- a slot word that names no tree, by the test for one
pub no-tree : (word : ℕ) {test : Bool} → (1024 ≤ word → test ≡ true) → test ≡ false → word < 1024
no-tree word high none = let low : 1024 ≤ word → ⊥ = (λ h. false≢true (sym none ∙ high h)) in omega arith
