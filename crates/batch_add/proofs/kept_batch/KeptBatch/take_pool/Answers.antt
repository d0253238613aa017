use Rattle.std.proofs.Common.{ℕ, ◌<◌, sym, ◌∙◌, ap, subst}
use Rattle.word_map.specs.declared.config.Config.{Config}
use Rattle.word_map.specs.Names.{pool_lock}
use Rattle.core_state.specs.declared.view.Mode.TheVariants.{Write}
use Rattle.pass_table.specs.Passes.{view_of}
use Rattle.pass_table.specs.TakeTurns.{taking_of, HasTaken}
use Rattle.pass_table.proofs.WorkLater.{worked-sizes}
use Rattle.batch_add.specs.stages.GivingLater.{free-lock}
use Rattle.batch_add.proofs.GiveBodies.{nodes-many}
use Rattle.batch_add.proofs.GiveWork.{free-taken}
use Rattle.batch_add.proofs.kept_batch.KeptBatch.take_pool.Goals as goal

pub take_write-requires-clause-order : goal.take_write-requires-clause-order
take_write-requires-clause-order g c held above = let now = c.requires.so_far in free-lock now.start (view_of c.args.pass.now) _ now.begun.rest now.at held

pub returns-clause-leads : goal.returns-clause-leads
returns-clause-leads g c start before batch after begun gone =
    let kept = c.args.self.now in
    let view = view_of c.args.pass.now in
    let next = view_of c.take_write.new.pass in
    let same = c.pool_lock.ensures ∙ ap (λ (s : Config). pool_lock s) (sym c.requires.of.sizes ∙ worked-sizes start view _ gone.worked) in (
      subst (λ (n : ℕ). 0 < n) (sym (nodes-many kept batch begun.keeps)) c.requires.some,
      free-taken start view next _ (pool_lock start.config) (subst (λ (l : ℕ). HasTaken (taking_of l Write) view next) same c.take_write.ensures.taken) c.take_write.ensures.made gone,
    )
