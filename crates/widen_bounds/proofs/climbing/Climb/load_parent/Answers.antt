use Rattle.std.proofs.Common.{◌≡◌, ℕ, ◌<◌, Some, ap, sym, ◌∙◌, subst, arith}
use Rattle.word_map.specs.declared.config.Config.{Config}
use Rattle.word_map.specs.declared.name.Name.TheVariants.{Parent}
use Rattle.word_map.specs.Names.{node_count}
use Rattle.word_map.specs.Words.{word_of_location, IsLocationWord}
use Rattle.core_state.specs.Moving.{MayLoadParentMoving}
use Rattle.pass_table.specs.Passes.{view_of}
use Rattle.widen_bounds.specs.stages.Climbing.{IsClimbTurn}
use Rattle.widen_bounds.proofs.WidenAsks.{may-load, node-in}
use Rattle.widen_bounds.proofs.WidenParents.{load-fits, root-turn, parent-turn}
use Rattle.widen_bounds.proofs.climbing.Climb.load_parent.Goals as goal

pub step_36-parent-requires : goal.step_36-parent-requires
step_36-parent-requires g c =
    let view = view_of c.args.pass.now in
    let climb = c.args.self in
    let way = c.requires.1.0 in
    let full : climb.side ≡ 6 = let few = way.goes.climbing.sides in let all = c.requires.1.1 in omega arith in
    let current = c.args.pass.now.current in (
      c.requires.0,
      (
        subst (λ (s : Config). climb.node < node_count s) c.requires.0.sizes (node-in way.id c.args.target.now way.steps way.start view way.known way.first way.second way.at climb way.goes current),
        subst (λ (i : ℕ). MayLoadParentMoving i view (Parent climb.node) 0 0) way.same
            (may-load way.id c.args.target.now way.steps way.start view way.known way.first way.second way.at climb way.goes current full),
      ),
    )

pub from_word-requires : goal.from_word-requires
from_word-requires g c =
    let climb = c.args.self in
    let way = c.requires.1.0 in
    let full : climb.side ≡ 6 = let few = way.goes.climbing.sides in let all = c.requires.1.1 in omega arith in
    record { in_range = load-fits g.index c.args.target.now climb (view_of c.args.pass.now) (view_of c.step_36-parent.new.pass) c.step_36-parent.result way full c.step_36-parent.ensures.step c.step_36-parent.new.pass.current }

pub returns-in-Nowhere-clause-turn : goal.returns-in-Nowhere-clause-turn
returns-in-Nowhere-clause-turn g c =
    let climb = c.args.self in
    let way = c.requires.1.0 in
    let full : climb.side ≡ 6 = let few = way.goes.climbing.sides in let all = c.requires.1.1 in omega arith in
    root-turn g.index c.args.target.now climb (view_of c.args.pass.now) (view_of c.step_36-parent.new.pass) c.step_36-parent.result way full c.step_36-parent.ensures.step
    (sym c.from_word.ensures.value ∙ ap word_of_location c.in-Nowhere.is)

pub returns-in-At-clause-turn : goal.returns-in-At-clause-turn
returns-in-At-clause-turn g c =
    let climb = c.args.self in
    let way = c.requires.1.0 in
    let view = view_of c.args.pass.now in
    let next = view_of c.step_36-parent.new.pass in
    let full : climb.side ≡ 6 = let few = way.goes.climbing.sides in let all = c.requires.1.1 in omega arith in
    subst (λ (l : ℕ). IsClimbTurn g.index c.args.target.now climb (Some (record { node = c.in-At.node; child = c.in-At.child; level = l; side = 0 })) view next) (omega arith)
    (parent-turn g.index c.args.target.now climb view next c.step_36-parent.result way full c.step_36-parent.ensures.step c.in-At.node c.in-At.child (subst IsLocationWord c.in-At.is c.from_word.ensures.sound)
    (sym c.from_word.ensures.value ∙ ap word_of_location c.in-At.is))
