use Rattle.std.proofs.Common.{◌≡◌, ℕ, ◌-◌, ◌<◌, ◌≤◌, length}
use Rattle.std.specs.Prelude.{slice_index}
use Rattle.tree_query.proofs.finding.clear_marked.Given as goal

-- the words passed so far are 0, and the others as they were
abbrev pub invariant-loop-word : goal.invariant-loop-word
invariant-loop-word l =
    (length l.words.items ≡ length l.initial.words.items) × ((w : ℕ) → w < l.next → slice_index l.words.items w ≡ 0)
    × ((w : ℕ) → l.next ≤ w → slice_index l.words.items w ≡ slice_index l.initial.words.items w)

abbrev pub decreases-loop-word : goal.decreases-loop-word
decreases-loop-word l = length l.words.items - l.next
