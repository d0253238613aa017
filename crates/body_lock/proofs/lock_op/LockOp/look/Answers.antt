use Rattle.pass_table.specs.Passes.{view_of}
use Rattle.body_lock.proofs.Locking.{look-more, look-again, look-lives, look-gone}
use Rattle.body_lock.proofs.lock_op.LockOp.look.Goals as goal

pub returns-in-More-clause-turn : goal.returns-in-More-clause-turn
returns-in-More-clause-turn c =
    look-more c.args.self.now c.turn.new.self (view_of c.args.pass.now) (view_of c.turn.new.pass) c.requires.stage c.turn.ensures.step c.turn.ensures.made c.in-More.ensures.loads
    c.in-More.ensures.keeps c.in-More.ensures.turned

pub returns-in-Again-clause-turn : goal.returns-in-Again-clause-turn
returns-in-Again-clause-turn c =
    look-again c.args.self.now c.turn.new.self (view_of c.args.pass.now) (view_of c.turn.new.pass) c.requires.stage c.turn.ensures.step c.turn.ensures.made c.in-Again.ensures.loads
    c.in-Again.ensures.keeps c.in-Again.lock c.in-Again.word c.in-Again.ensures.turned

pub returns-in-Gone-clause-turn : goal.returns-in-Gone-clause-turn
returns-in-Gone-clause-turn c =
    look-gone c.args.self.now c.turn.new.self (view_of c.args.pass.now) (view_of c.turn.new.pass) c.requires.stage c.turn.ensures.step c.turn.ensures.made c.in-Done.found c.in-Done.ensures.answers
    c.in-Gone.state c.in-Gone.is

pub returns-in_default : goal.returns-in_default
returns-in_default c = record {
  of = c.turn.ensures.of;
  turn =
      look-lives c.args.self.now c.turn.new.self (view_of c.args.pass.now) (view_of c.turn.new.pass) c.requires.stage c.turn.ensures.step c.turn.ensures.made c.in-Done.found c.in-Done.ensures.answers
      (λ state. c.in_default.not-Gone state);
}
