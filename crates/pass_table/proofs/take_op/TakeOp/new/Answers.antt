use Rattle.std.proofs.Common.{sym, subst}
use Rattle.word_map.specs.declared.config.Config.{Config}
use Rattle.word_map.specs.declared.name.Name.TheVariants.{Lock}
use Rattle.word_map.specs.Names.{IsName}
use Rattle.pass_table.specs.Passes.{view_of}
use Rattle.pass_table.proofs.TakingTurns.{taking-begun}
use Rattle.pass_table.proofs.take_op.TakeOp.new.Goals as goal

pub returns-clause-under_way : goal.returns-clause-under_way
returns-clause-under_way c =
    let a = c.args in
    taking-begun a.lock a.mode (view_of a.pass.now) (subst (λ (d : Config). IsName d (Lock a.lock)) (sym c.requires.of.sizes) c.requires.named) c.requires.free
