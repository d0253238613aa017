use Rattle.std.proofs.Common.{rules, inl}
use Rattle.broadphase.proofs.Ending.{answered, answered_part, part_of_it}
use Rattle.broadphase.proofs.ReadingLemmas.{all_at_most}
use Rattle.broadphase.specs.declared.form.Form.TheVariants.{Play}
use Rattle.broadphase.proofs.top.play_script.Goals as goal

pub returns-in-Ok-play-clause-ends : goal.returns-in-Ok-play-clause-ends
returns-in-Ok-play-clause-ends g c = answered Play c.in-Ok.script _ _ _ _ _ c.in-Ok.ensures.script.0 c.in-Ok.ensures.script.1 c.in-Ok-play.ensures.report

pub returns-in-Err-Write-clause-ends : goal.returns-in-Err-Write-clause-ends
returns-in-Err-Write-clause-ends g c =
    (search rules, inl (answered_part Play c.in-Ok.script _ _ _ _ _ c.in-Ok.ensures.script.0 c.in-Ok.ensures.script.1 c.in-Err-Write.ensures.part))

pub returns-in-Ok-clause-ends : goal.returns-in-Ok-clause-ends
returns-in-Ok-clause-ends g c = (
  all_at_most _ _ c.in-Ok.ensures.script.0.bytes _ c.in-Ok.ensures.script.0.all c.in-Ok.ensures.script.0.within,
  part_of_it Play _ _ _ _ (λ e. cc) (answered_part Play c.in-Ok.script _ _ _ _ _ c.in-Ok.ensures.script.0 c.in-Ok.ensures.script.1 c.in-Err-Memory.ensures.part),
)
