-- A query beside which nobody acts.
use Rattle.std.proofs.Common.{◌≡◌, ℕ, [], ap}
use Rattle.fixed_box.specs.declared.shape.Shape.{Shape}
use Rattle.core_state.specs.declared.view.View.{View}
use Rattle.pass_table.specs.declared.pass.Pass.{Pass}
use Rattle.pass_table.specs.Passes.{view_of}
use Rattle.pass_table.specs.Belongings.{belongings_of}
use Rattle.pass_table.proofs.Working.{adds-then, tells-then}
use Rattle.tree_query.specs.declared.finder.Finder.{Finder}
use Rattle.tree_query.specs.Finding.{ids_of}
use Rattle.tree_query.specs.Answers.{HasQueried, raised}
use Rattle.world_host.specs.Answers.{AnswersHits}
use Rattle.world_host.proofs.Histories.{alone-sees, alone-makes}
use Rattle.world_host.proofs.HitLists.{answer-hits}

pub query-answers : (shape : Shape) (mask : ℕ) (pass : Pass) (start : View) (finder : Finder) → start.config.passes ≡ 1 → belongings_of (view_of pass) ≡ belongings_of start
    → HasQueried shape mask start (view_of pass) finder → AnswersHits shape mask start (view_of pass) finder
query-answers shape mask pass start finder one keeps queried =
    let next = view_of pass in
    let walked = queried.collected.walked in
    let role = ap (λ (v : View). v.role) walked.left in
    let adds = adds-then start queried.mid next [] [] role walked.adds queried.checks.adds in
    let sees = alone-sees pass start one keeps [] adds in
    record {
      hits_are = answer-hits shape mask start next (ids_of finder) sees queried.right;
      made = alone-makes pass start one keeps [] adds;
      reads = (queried.collected.number, queried.collected.first, queried.collected.second, tells-then start queried.mid next (raised queried.collected.number queried.collected.first queried.collected.second) [] role walked.tells queried.checks.tells);
      keeps = keeps;
    }
