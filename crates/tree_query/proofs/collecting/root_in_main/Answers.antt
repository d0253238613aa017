use Rattle.std.proofs.Common.{ℕ, ap}
use Rattle.word_map.specs.declared.name.Name.TheVariants.{Main}
use Rattle.core_state.specs.Walking.{roots_in}
use Rattle.tree_query.proofs.WordWalks.{main-root}
use Rattle.tree_query.proofs.collecting.root_in_main.Goals as goal

pub returns-then-word-eq0 : goal.returns-then-word-eq0
returns-then-word-eq0 c = λ layer. ap (λ (word : ℕ). roots_in (Main layer) word) c.if-word-eq0.true

pub returns-else-word-eq0 : goal.returns-else-word-eq0
returns-else-word-eq0 c = λ layer. main-root layer c.args.word c.if-word-eq0.false
