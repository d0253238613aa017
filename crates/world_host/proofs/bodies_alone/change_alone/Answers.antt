use Rattle.std.proofs.Common.{sym, subst}
use Rattle.pass_table.specs.Passes.{view_of}
use Rattle.script_player.specs.declared.bodies.Change.{Change}
use Rattle.world_host.specs.Answers.{ChangesAlone}
use Rattle.world_host.proofs.bodies_alone.change_alone.Goals as goal

pub returns-in-Destroy-clause-changed : goal.returns-in-Destroy-clause-changed
returns-in-Destroy-clause-changed g c =
    subst (λ (change : Change). ChangesAlone change c.args.id (view_of c.args.pass.now) (view_of c.destroy_alone.new.pass) c.destroy_alone.result) (sym c.in-Destroy.is) c.destroy_alone.ensures.changed

pub returns-in-Remove-clause-changed : goal.returns-in-Remove-clause-changed
returns-in-Remove-clause-changed g c =
    subst (λ (change : Change). ChangesAlone change c.args.id (view_of c.args.pass.now) (view_of c.remove_alone.new.pass) c.remove_alone.result) (sym c.in-Remove.is) c.remove_alone.ensures.changed

pub returns-in-Move-clause-changed : goal.returns-in-Move-clause-changed
returns-in-Move-clause-changed g c =
    subst (λ (change : Change). ChangesAlone change c.args.id (view_of c.args.pass.now) (view_of c.move_alone.new.pass) c.move_alone.result) (sym c.in-Move.is) c.move_alone.ensures.changed

pub returns-in-SetUser-clause-changed : goal.returns-in-SetUser-clause-changed
returns-in-SetUser-clause-changed g c =
    subst (λ (change : Change). ChangesAlone change c.args.id (view_of c.args.pass.now) (view_of c.set_user_alone.new.pass) c.set_user_alone.result) (sym c.in-SetUser.is) c.set_user_alone.ensures.changed
