use Rattle.std.proofs.Common.{List, [], ◌++◌, ◌∷◌, ap, subst, ◌∙◌, ℕ}
use Rattle.core_state.specs.declared.view.Waiting.{Waiting}
use Rattle.core_state.specs.Walking.{next_node}
use Rattle.pass_table.specs.Passes.{view_of}
use Rattle.tree_query.specs.Collecting.{IsCollecting, roots_of}
use Rattle.tree_query.proofs.WordWalks.{root-pushed}
use Rattle.tree_query.proofs.collecting.walk_root.Goals as goal

pub walk_tree-requires-clause-at : goal.walk_tree-requires-clause-at
walk_tree-requires-clause-at c =
    let at = c.requires.at in
    let pushed = c.push.ensures.items ∙ ap (λ (l : List ℕ). l ++ c.in-Some.root ∷ []) c.requires.empty in
    (at.0, at.1, root-pushed at.0 at.1 c.args.shape.now c.args.finder.now (view_of c.args.pass.now) c.args.root c.in-Some.root c.push.new.self.items c.in-Some.is pushed at.2)

pub returns-in-Some-clause-on : goal.returns-in-Some-clause-on
returns-in-Some-clause-on c = λ trip rest at.
    let pushed = c.push.ensures.items ∙ ap (λ (l : List ℕ). l ++ c.in-Some.root ∷ []) c.requires.empty in
    c.walk_tree.ensures.on trip rest (root-pushed trip rest c.args.shape.now c.args.finder.now (view_of c.args.pass.now) c.args.root c.in-Some.root c.push.new.self.items c.in-Some.is pushed at)

pub returns-in_default-clause-on : goal.returns-in_default-clause-on
returns-in_default-clause-on c = λ trip rest at.
    subst (λ (s : List Waiting). IsCollecting trip c.args.shape.now c.args.finder.now (view_of c.args.pass.now) (next_node rest s)) (ap roots_of c.in_default.is) at
