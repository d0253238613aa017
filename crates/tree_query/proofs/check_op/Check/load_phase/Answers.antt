use Rattle.std.proofs.Common.{None, refl, arith}
use Rattle.word_map.specs.declared.name.Name.TheVariants.{Phase}
use Rattle.pass_table.specs.Passes.{view_of}
use Rattle.body_look.proofs.Finding.{phase-low}
use Rattle.tree_query.specs.declared.check_op.CheckStage.TheVariants.{Live, Joining, Inside, Leaving}
use Rattle.tree_query.specs.stages.CandidateCheck.{id_at}
use Rattle.tree_query.specs.stages.CheckLater.{guard-later}
use Rattle.tree_query.proofs.CheckTurns.{now-held, load-stripe, load-below, load-on}
use Rattle.tree_query.proofs.CheckLoads.{phase-out, phase-inside, phase-joins}
use Rattle.tree_query.proofs.check_op.Check.load_phase.Goals as goal

pub load_of_body-word-requires-clause-named : goal.load_of_body-word-requires-clause-named
load_of_body-word-requires-clause-named c = load-below c.args.self.now (Live c.args.sequence) (view_of c.args.pass.now) c.requires.stage c.requires.under_way (λ shape mask start at. at) _ c.requires.of.sizes

pub load_of_body-word-requires-clause-stripe : goal.load_of_body-word-requires-clause-stripe
load_of_body-word-requires-clause-stripe c = load-stripe c.args.self.now (Live c.args.sequence) (view_of c.args.pass.now) c.requires.stage c.requires.under_way (λ shape mask start at. at)

pub from_word-requires : goal.from_word-requires
from_word-requires c =
    let view = view_of c.args.pass.now in
    let next = view_of c.load_of_body-word.new.pass in
    let load = c.load_of_body-word.ensures.loaded in
    let held = now-held c.args.self.now (Live c.args.sequence) view c.requires.stage c.requires.under_way (λ shape mask start at. at) in
    record { in_range = phase-low (id_at c.args.self.now.index c.args.sequence) next (guard-later c.args.self.now.index c.args.sequence view next load.more held.knows) load.now c.load_of_body-word.result load.word }

pub returns-in-Out-clause-turn : goal.returns-in-Out-clause-turn
returns-in-Out-clause-turn c = λ shape mask.
    let view = view_of c.args.pass.now in
    let next = view_of c.load_of_body-word.new.pass in
    let load = c.load_of_body-word.ensures in
    let index = c.args.self.now.index in
    load-on shape mask c.args.self.now c.go_on.new.self (Live c.args.sequence) (Leaving None) c.args.self.now.words view next (Phase index) c.load_of_body-word.result
    c.go_on.ensures.stage c.requires.stage load.step load.made load.loaded tt c.go_on.result c.go_on.ensures.more (omega arith) (λ start at. at) (λ start at. at) (λ six. six)
    (λ start mid begun taken sizes more six knows. phase-out shape mask index start mid view next sizes more (Phase index) c.load_of_body-word.result load.loaded c.args.sequence refl knows c.in-Out.ensures)

pub returns-in-In-clause-turn : goal.returns-in-In-clause-turn
returns-in-In-clause-turn c = λ shape mask.
    let view = view_of c.args.pass.now in
    let next = view_of c.load_of_body-word.new.pass in
    let load = c.load_of_body-word.ensures in
    let index = c.args.self.now.index in
    load-on shape mask c.args.self.now c.go_on-in-In.new.self (Live c.args.sequence) (Inside c.args.sequence) c.args.self.now.words view next (Phase index) c.load_of_body-word.result
    c.go_on-in-In.ensures.stage c.requires.stage load.step load.made load.loaded tt c.go_on-in-In.result c.go_on-in-In.ensures.more (omega arith) (λ start at. at) (λ start at. at) (λ six. six)
    (λ start mid begun taken sizes more six knows. phase-inside shape mask index start mid view next sizes more (Phase index) c.load_of_body-word.result load.loaded c.args.sequence refl knows c.args.self.now.words c.in-In.ensures)

pub returns-in-Joined-clause-turn : goal.returns-in-Joined-clause-turn
returns-in-Joined-clause-turn c = λ shape mask.
    let view = view_of c.args.pass.now in
    let next = view_of c.load_of_body-word.new.pass in
    let load = c.load_of_body-word.ensures in
    let index = c.args.self.now.index in
    load-on shape mask c.args.self.now c.go_on-in-Joined.new.self (Live c.args.sequence) (Joining c.args.sequence c.in-Joined.slot) c.args.self.now.words view next (Phase index) c.load_of_body-word.result
    c.go_on-in-Joined.ensures.stage c.requires.stage load.step load.made load.loaded tt c.go_on-in-Joined.result c.go_on-in-Joined.ensures.more (omega arith) (λ start at. at) (λ start at. at) (λ six. six)
    (λ start mid begun taken sizes more six knows. phase-joins shape mask index start mid view next sizes more (Phase index) c.load_of_body-word.result load.loaded c.args.sequence refl knows c.args.self.now.words c.in-Joined.slot c.in-Joined.ensures)
