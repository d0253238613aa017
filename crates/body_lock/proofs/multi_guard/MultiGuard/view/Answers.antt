use Rattle.pass_table.specs.Passes.{view_of}
use Rattle.body_lock.proofs.Guards.{multi-more, reached-guarding, reached-adds, reached-tells, reached-sees}
use Rattle.body_lock.proofs.Standing.{more-keeps}
use Rattle.body_lock.proofs.multi_guard.MultiGuard.view.Goals as goal

pub read_body-requires-clause-guarded : goal.read_body-requires-clause-guarded
read_body-requires-clause-guarded c =
    let guard = c.args.self.now in (
      guard.number,
      guard.mode,
      reached-guarding guard (view_of c.args.pass.now) c.requires.good c.args.k c.requires.within c.body-body.result c.body-body.ensures c.in-Reached.is,
    )

pub returns-in-Reached-clause-good : goal.returns-in-Reached-clause-good
returns-in-Reached-clause-good c = multi-more c.args.self.now (view_of c.args.pass.now) (view_of c.read_body.new.pass) c.read_body.ensures.more c.requires.good

pub returns-in-Reached-clause-adds : goal.returns-in-Reached-clause-adds
returns-in-Reached-clause-adds c =
    reached-adds c.args.self.now (view_of c.args.pass.now) c.requires.good c.args.k c.requires.within c.body-body.result c.body-body.ensures c.in-Reached.is (view_of c.read_body.new.pass)
    c.read_body.ensures.more

pub returns-in-Reached-clause-tells : goal.returns-in-Reached-clause-tells
returns-in-Reached-clause-tells c =
    reached-tells c.args.self.now (view_of c.args.pass.now) c.requires.good c.args.k c.requires.within c.body-body.result c.body-body.ensures c.in-Reached.is (view_of c.read_body.new.pass)
    c.read_body.ensures.more

pub returns-in-Reached-clause-keeps : goal.returns-in-Reached-clause-keeps
returns-in-Reached-clause-keeps c = more-keeps (view_of c.args.pass.now) (view_of c.read_body.new.pass) c.read_body.ensures.more

pub returns-in-Reached-clause-sees : goal.returns-in-Reached-clause-sees
returns-in-Reached-clause-sees c =
    reached-sees c.args.self.now (view_of c.args.pass.now) c.requires.good c.args.k c.requires.within c.body-body.result c.body-body.ensures c.in-Reached.is (view_of c.read_body.new.pass)
    c.read_body.result c.read_body.ensures.more c.read_body.ensures.now c.read_body.ensures.seen
