use Rattle.std.proofs.Common.{rules, inl}
use Rattle.broadphase.proofs.Ending.{answered, answered_part}
use Rattle.broadphase.specs.declared.form.Form.TheVariants.{Check}
use Rattle.broadphase.proofs.top.check_script.Goals as goal

pub returns-in-Ok-write_all-clause-ends : goal.returns-in-Ok-write_all-clause-ends
returns-in-Ok-write_all-clause-ends g c = answered Check c.in-Ok._script _ _ _ _ _ c.in-Ok.ensures.script.0 c.in-Ok.ensures.script.1 c.in-Ok-write_all.ensures.whole

pub returns-in-Ok-clause-ends : goal.returns-in-Ok-clause-ends
returns-in-Ok-clause-ends g c =
    (search rules, inl (answered_part Check c.in-Ok._script _ _ _ _ _ c.in-Ok.ensures.script.0 c.in-Ok.ensures.script.1 c.in-Err-write_all.ensures.part))
