use Rattle.std.proofs.Common.{◌≡◌, map}
use Rattle.std.specs.List.{range_with_len}
use Rattle.word_map.specs.Layout.{name_of}
use Rattle.core_state.specs.Log.{opening_word}
use Rattle.pass_table.proofs.opening_words.opening_words.Given as goal

abbrev pub invariant-loop-place : goal.invariant-loop-place
invariant-loop-place l = l.list.items ≡ map (λ p. opening_word l.map (name_of l.map p)) (range_with_len 0 l.place)
