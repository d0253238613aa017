-- A query: a walk that collected, and then the check of each candidate.
use Rattle.std.proofs.Common.{◌≡◌, ℕ, ◌++◌, ap, ◌∙◌}
use Rattle.fixed_box.specs.declared.shape.Shape.{Shape}
use Rattle.word_map.specs.declared.config.Config.{Config}
use Rattle.core_state.specs.declared.view.View.{View}
use Rattle.pass_table.specs.Work.{HasDone, idle}
use Rattle.tree_query.specs.declared.finder.Finder.{Finder}
use Rattle.tree_query.specs.Finding.{ids_of}
use Rattle.tree_query.specs.Answers.{HasCollected, HasQueried}
use Rattle.tree_query.specs.Checking.{AreAllChecked, steps_of}
use Rattle.tree_query.proofs.RightAnswers.{right-answer}
use Rattle.tree_query.proofs.WalkGuards.{walked-sizes}

-- what both leave is what a query leaves
pub has-queried : (shape : Shape) (mask : ℕ) (start mid next : View) (found finder : Finder) → HasCollected shape mask start mid found → HasDone mid next (idle mid)
    → next.locks ≡ mid.locks ++ steps_of mid.config (ids_of found) → AreAllChecked shape mask mid next found finder → HasQueried shape mask start next finder
has-queried shape mask start mid next found finder collected done locks checked =
    let sizes = walked-sizes start mid _ collected.walked in
    record {
      mid = mid;
      found = found;
      collected = collected;
      checks = done;
      checked = checked;
      locks = locks ∙ ap (λ (c : Config). mid.locks ++ steps_of c (ids_of found)) sizes;
      right = right-answer shape mask start mid next found finder (collected.walked.adds.since, collected.walked.adds.known) (done.adds.since, done.adds.known) sizes collected.due checked;
    }
