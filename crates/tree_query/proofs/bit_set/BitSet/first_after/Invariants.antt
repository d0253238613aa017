use Rattle.std.proofs.Common.{◌≡◌, ℕ, ◌+◌, ◌*◌, ◌/◌, ◌<◌, ◌≤◌, false}
use Rattle.tree_query.specs.Indexes.{has_bit}
use Rattle.tree_query.proofs.bit_set.BitSet.first_after.Given as goal

-- none is in the words passed so far
abbrev pub invariant-loop-word : goal.invariant-loop-word
invariant-loop-word l =
    (l.before + 1 ≤ l.word) × ((other : ℕ) → 64 * (l.before + 1) ≤ other → other / 64 < l.word → has_bit l.self.words.items other ≡ false)
