use Rattle.core_state.specs.declared.view.Mode.TheVariants.{Read}
use Rattle.pass_table.proofs.Working.{done-keeps}
use Rattle.pass_table.specs.Passes.{view_of}
use Rattle.body_lock.proofs.Letting.{unlocked}
use Rattle.body_lock.proofs.body_read.BodyRead.unlock.Goals as goal

pub returns-clause-adds : goal.returns-clause-adds
returns-clause-adds c =
    (unlocked c.args.self.number c.args.self.id Read (view_of c.args.pass.now) (view_of c.unlock.new.pass) c.args.world.now.map c.requires.of.sizes c.requires.good c.unlock.ensures.step).adds

pub returns-clause-tells : goal.returns-clause-tells
returns-clause-tells c =
    (unlocked c.args.self.number c.args.self.id Read (view_of c.args.pass.now) (view_of c.unlock.new.pass) c.args.world.now.map c.requires.of.sizes c.requires.good c.unlock.ensures.step).tells

pub returns-clause-keeps : goal.returns-clause-keeps
returns-clause-keeps c =
    done-keeps _ _ _ (unlocked c.args.self.number c.args.self.id Read (view_of c.args.pass.now) (view_of c.unlock.new.pass) c.args.world.now.map c.requires.of.sizes c.requires.good c.unlock.ensures.step)

pub returns-clause-idle : goal.returns-clause-idle
returns-clause-idle c =
    record { of = c.unlock.ensures.of; rest = (unlocked c.args.self.number c.args.self.id Read (view_of c.args.pass.now) (view_of c.unlock.new.pass) c.args.world.now.map c.requires.of.sizes c.requires.good c.unlock.ensures.step).rest }
