use Rattle.batch_add.specs.stages.Preparing.{stage_label}
use Rattle.batch_add.proofs.PrepareLabel.{label-none}
use Rattle.pass_table.specs.declared.turn.Turn.TheVariants.{Done, More, Again}
use Rattle.std.proofs.Common.{ap, Err, inl}
use Rattle.pass_table.specs.Passes.{view_of}
use Rattle.batch_add.proofs.PrepareGives.{giving-inside, giving-more, giving-again, giving-done}
use Rattle.batch_add.proofs.prepare_op.PrepareOp.give_up.Goals as goal

pub turn-requires-clause-under_way : goal.turn-requires-clause-under_way
turn-requires-clause-under_way c = giving-inside c.args.self.now c.args.undone c.in-Some.giving c.requires.stage c.in-Some.is (view_of c.args.pass.now) c.requires.under_way

pub returns-in-Done-clause-turn : goal.returns-in-Done-clause-turn
returns-in-Done-clause-turn c =
    giving-done c.args.self.now c.args.undone c.in-Some.giving c.requires.stage c.in-Some.is (view_of c.args.pass.now) c.turn.new.self (view_of c.turn.new.pass) c.in-Done.ensures.step c.in-Done.ensures.made
    c.in-Done.ensures.answers c.refusal.result c.refusal.ensures

pub returns-in-More-clause-turn : goal.returns-in-More-clause-turn
returns-in-More-clause-turn c =
    giving-more c.args.self.now c.args.undone c.in-Some.giving c.requires.stage c.in-Some.is (view_of c.args.pass.now) c.turn.new.self (view_of c.turn.new.pass) c.in-More.ensures.step c.in-More.ensures.made
    c.in-More.ensures.keeps c.in-More.ensures.turned c.in-More.ensures.loads

pub returns-in-Again-clause-turn : goal.returns-in-Again-clause-turn
returns-in-Again-clause-turn c =
    giving-again c.args.self.now c.args.undone c.in-Some.giving c.requires.stage c.in-Some.is (view_of c.args.pass.now) c.turn.new.self (view_of c.turn.new.pass) c.in-Again.ensures.step c.in-Again.ensures.made
    c.in-Again.ensures.keeps c.in-Again.lock c.in-Again.word c.in-Again.ensures.turned c.in-Again.ensures.loads

pub returns-in-Done-clause-label : goal.returns-in-Done-clause-label
returns-in-Done-clause-label c = label-none (Done (Err c.refusal.result)) c.args.self.now _ (view_of c.args.pass.now) (view_of c.turn.new.pass) (inl tt) (ap stage_label c.requires.stage)

pub returns-in-More-clause-label : goal.returns-in-More-clause-label
returns-in-More-clause-label c = label-none More c.args.self.now _ (view_of c.args.pass.now) (view_of c.turn.new.pass) tt (ap stage_label c.requires.stage)

pub returns-in-Again-clause-label : goal.returns-in-Again-clause-label
returns-in-Again-clause-label c = label-none (Again c.in-Again.lock c.in-Again.word) c.args.self.now _ (view_of c.args.pass.now) (view_of c.turn.new.pass) tt (ap stage_label c.requires.stage)
