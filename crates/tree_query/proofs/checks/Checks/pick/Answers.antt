use Rattle.std.proofs.Common.{◌≡◌, ◌<◌, true, ap, sym, subst}
use Rattle.word_map.specs.declared.config.Config.{Config}
use Rattle.core_state.specs.declared.view.View.{View}
use Rattle.pass_table.specs.declared.turn.Turn.TheVariants.{More}
use Rattle.pass_table.specs.Passes.{view_of}
use Rattle.tree_query.specs.stages.CandidateCheck.{IsInCheck}
use Rattle.tree_query.specs.stages.AllChecks.{going, AreCheckTurn}
use Rattle.tree_query.proofs.ChecksTurns.{rests, picks-below, picked, ended}
use Rattle.tree_query.proofs.checks.Checks.pick.Goals as goal

pub new-self-requires-clause-idle : goal.new-self-requires-clause-idle
new-self-requires-clause-idle c = record { of = c.requires.of; rest = rests c.args.self.now c.args.finder.now (view_of c.args.pass.now) c.requires.stage c.requires.under_way }

pub new-self-requires-clause-below : goal.new-self-requires-clause-below
new-self-requires-clause-below c =
    subst (λ (s : Config). c.in-Some.index < s.bodies) c.requires.of.sizes
    (picks-below c.args.self.now c.args.finder.now (view_of c.args.pass.now) c.requires.stage c.requires.under_way c.in-Some.index c.in-Some.ensures.some)

pub returns-in-Some-clause-turn : goal.returns-in-Some-clause-turn
returns-in-Some-clause-turn c = λ shape mask.
    let view = view_of c.args.pass.now in
    let next = view_of c.new-self.new.pass in
    let still : next ≡ view = ap view_of c.new-self.ensures.pass in
    let check = c.new-self.result in
    subst (λ (v : View). AreCheckTurn shape mask More (going c.args.self.now c.args.finder.now) (going (record c.args.self.now { check = check; is_at_one = true }) c.args.finder.now) view v) (sym still)
    (picked shape mask c.args.self.now c.args.finder.now view c.args.pass.now.number c.args.pass.now.numbered c.requires.stage check c.in-Some.index c.in-Some.ensures.some c.in-Some.ensures.below
    c.new-self.ensures.index c.new-self.ensures.left c.new-self.ensures.unloaded (subst (IsInCheck shape mask check view check) still (c.new-self.ensures.under_way shape mask)))

pub returns-in-None-clause-turn : goal.returns-in-None-clause-turn
returns-in-None-clause-turn c = λ shape mask.
    ended shape mask c.args.self.now c.args.finder.now (view_of c.args.pass.now) c.args.pass.now.number c.args.pass.now.numbered c.requires.stage c.in-None.ensures.none
