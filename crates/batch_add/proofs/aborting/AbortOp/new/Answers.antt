use Rattle.batch_add.proofs.aborting.AbortOp.new.Goals as goal

pub returns-clause-under_way : goal.returns-clause-under_way
returns-clause-under_way c = record { gives = c.new.ensures.under_way; current = c.args.pass.now.current }
