-- What is so at every position that a walk comes to: its stack is short for the levels of its nodes, and the words that are
-- still to be read are words of the world.
use Rattle.std.proofs.Common.{◌≡◌, ℕ, zero, suc, ◌+◌, ◌*◌, ◌<◌, ◌≤◌, List, [], ◌∷◌, ◌++◌, length, true, false, refl, arith}
use Rattle.std.specs.Prelude.{Contains, Bool, ⊤, nat_lt, nat_le, ◌==◌, ◌%◌, ◌-◌, ◌/◌, if◌then◌else◌}
use Rattle.std.proofs.lemmas.Bool.{cond_both, ltb-true}
use Rattle.word_map.specs.declared.config.Config.{Config}
use Rattle.word_map.specs.declared.name.Name.{Name}
use Rattle.word_map.specs.declared.name.Name.TheVariants.{Main, Slot}
use Rattle.core_state.specs.declared.item.Load.{Load}
use Rattle.core_state.specs.declared.view.Waiting.{Waiting}
use Rattle.core_state.specs.Walking.{Query, Spot, resting, at_child, at_bound, Position, waiting, start, next_node, next_child, roots_in, pushed, advance_from, advance, replay, position_of}
use Rattle.core_query.proofs.Asked.{behind, IsAskedWord, asked-word}

-- ---- the stack

-- below each node that waits stand at most three of its own level and of each between it and the root
abbrev pub IsShort : List Waiting → Type 0
IsShort [] = ⊤
IsShort (w ∷ stack) = (length stack + 3 ≤ 3 * w.level) × IsShort stack

-- at a node, as many more of the next level as children were read
abbrev pub IsShortAt : Spot → List Waiting → Type 0
IsShortAt resting stack = stack ≡ []
IsShortAt (at_child n level k) stack = (k < 4) × (length stack + 3 ≤ 3 * level + k)
IsShortAt (at_bound n level k x read) stack = (k < 4) × (length read < 6) × (length stack + 3 ≤ 3 * level + k)

pub record IsOrderly (c : Config) (mask : ℕ) (at : Position) : Type 0 where
  pub words : (name : Name) → Contains at.rest name → IsAskedWord c mask name
  pub stack : IsShort at.stack
  pub spot : IsShortAt at.spot at.stack

abbrev AreWords : Config → ℕ → List Name → Type 0
AreWords c mask rest = (name : Name) → Contains rest name → IsAskedWord c mask name

next_node-orderly : (c : Config) (mask : ℕ) (rest : List Name) (stack : List Waiting) → AreWords c mask rest → IsShort stack → IsOrderly c mask (next_node rest stack)
next_node-orderly c mask rest [] words short = record { words = words; stack = tt; spot = refl }
next_node-orderly c mask rest (w ∷ stack) words short = let first = short.0 in record { words = words; stack = short.1; spot = (omega arith, omega arith) }

next_child-orderly : (c : Config) (mask : ℕ) (rest : List Name) (stack : List Waiting) (n level k : ℕ) → k < 4 → AreWords c mask rest → IsShort stack → length stack + 3 ≤ 3 * level + (k + 1)
    → IsOrderly c mask (next_child rest stack n level k)
next_child-orderly c mask rest stack n level k low words short room =
    cond_both (nat_lt k 3) (record { rest = rest; stack = stack; spot = at_child n level (k + 1) }) (next_node rest stack) (IsOrderly c mask)
    (λ more. let below = ltb-true k 3 more in record { words = words; stack = short; spot = (omega arith, omega arith) })
    (λ last. next_node-orderly c mask rest stack words short)

-- a child whose bound was read is put on the stack, or is not
after_bound-orderly : (c : Config) (mask : ℕ) (rest : List Name) (stack : List Waiting) (n level k x : ℕ) → k < 4 → AreWords c mask rest → IsShort stack → length stack + 3 ≤ 3 * level + k
    → (touches : Bool) → IsOrderly c mask (next_child rest (if touches then pushed level x stack else stack) n level k)
after_bound-orderly c mask rest stack n level k x low words short room false = next_child-orderly c mask rest stack n level k low words short (omega arith)
after_bound-orderly c mask rest stack n level k x low words short room true =
    cond_both (x % 2 == 0) (waiting ((x - 2) / 2) (suc level) ∷ stack) stack (λ (s : List Waiting). IsOrderly c mask (next_child rest s n level k))
    (λ node. next_child-orderly c mask rest (waiting ((x - 2) / 2) (suc level) ∷ stack) n level k low words (omega arith, short) (omega arith))
    (λ body. next_child-orderly c mask rest stack n level k low words short (omega arith))

roots-short : (name : Name) (value : ℕ) → IsShort (roots_in name value)
roots-short (Main l) zero = tt
roots-short (Main l) (suc root) = (omega arith, tt)
roots-short (Slot l t) value = cond_both (nat_le 1024 value) (waiting (value - 1024) 1 ∷ []) [] IsShort (λ e. (omega arith, tt)) (λ e. tt)
roots-short _ value = tt

advance-orderly : (c : Config) (mask : ℕ) (query : Query) (rest : List Name) (stack : List Waiting) (spot : Spot) (value : ℕ) → AreWords c mask rest → IsShort stack → IsShortAt spot stack
    → IsOrderly c mask (advance_from query rest stack spot value)
advance-orderly c mask query [] stack resting value words short at = record { words = words; stack = short; spot = at }
advance-orderly c mask query (name ∷ rest) stack resting value words short at =
    next_node-orderly c mask rest (roots_in name value) (λ n among. words n (behind name rest n among)) (roots-short name value)
advance-orderly c mask query rest stack (at_child n level k) value words short at =
    let room = at.1 in
    cond_both (value == 0) (next_child rest stack n level k) (record { rest = rest; stack = stack; spot = at_bound n level k value [] }) (IsOrderly c mask)
    (λ none. next_child-orderly c mask rest stack n level k at.0 words short (omega arith))
    (λ some. record { words = words; stack = short; spot = (at.0, omega arith, room) })
advance-orderly c mask query rest stack (at_bound n level k x read) value words short at =
    let sides = read ++ value ∷ [] in
    cond_both (nat_lt (length sides) 6) (record { rest = rest; stack = stack; spot = at_bound n level k x sides })
    (next_child rest (if query.test sides then pushed level x stack else stack) n level k) (IsOrderly c mask)
    (λ less. record { words = words; stack = short; spot = (at.0, ltb-true (length sides) 6 less, at.2) })
    (λ whole. after_bound-orderly c mask rest stack n level k x at.0 words short at.2 (query.test sides))

replay-orderly : (c : Config) (mask : ℕ) (query : Query) (loads : List Load) (at : Position) → IsOrderly c mask at → IsOrderly c mask (replay query at loads)
replay-orderly c mask query [] at h = h
replay-orderly c mask query (l ∷ loads) at h = replay-orderly c mask query loads (advance query at l) (advance-orderly c mask query at.rest at.stack at.spot l.value h.words h.stack h.spot)

-- so it is wherever a query comes to, whatever it has read
pub position-orderly : (c : Config) (query : Query) (loads : List Load) → IsOrderly c query.mask (position_of c query loads)
position-orderly c query loads = replay-orderly c query.mask query loads (start c query) (record { words = asked-word c query.mask; stack = tt; spot = refl })
