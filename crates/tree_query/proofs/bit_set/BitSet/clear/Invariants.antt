use Rattle.std.proofs.Common.{◌≡◌, ℕ, ◌<◌, length}
use Rattle.std.specs.Prelude.{slice_index}
use Rattle.tree_query.proofs.bit_set.BitSet.clear.Given as goal

-- the words passed so far are 0
abbrev pub invariant-loop-word : goal.invariant-loop-word
invariant-loop-word l =
    (length l.self.words.items ≡ length l.initial.self.words.items) × (l.self.to ≡ l.initial.self.to) × ((w : ℕ) → w < l.word → slice_index l.self.words.items w ≡ 0)
