use Rattle.std.proofs.Common.{ℕ, sym, ◌∙◌, refl, ap, subst}
use Rattle.word_map.specs.declared.config.Config.{Config}
use Rattle.word_map.specs.declared.name.Name.TheVariants.{Lock, PoolFree}
use Rattle.word_map.specs.Names.{pool_lock}
use Rattle.core_state.specs.declared.view.Mode.TheVariants.{Write}
use Rattle.core_state.specs.Locking.{MayRelease, release}
use Rattle.pass_table.specs.Holding.{MayLetGo, LetGo}
use Rattle.pass_table.specs.Passes.{view_of}
use Rattle.pass_table.proofs.Knowing.{known-more}
use Rattle.pass_table.proofs.Calling.{released-step, released-made}
use Rattle.pass_table.proofs.WorkLater.{worked-sizes}
use Rattle.batch_add.specs.stages.GivingLater.{under-lock, from-later}
use Rattle.batch_add.proofs.GiveWork.{under-released}
use Rattle.batch_add.proofs.GiveSlot.{gives-all}
use Rattle.batch_add.proofs.kept_batch.KeptBatch.leave_pool.Goals as goal

pub release-requires-clause-may : goal.release-requires-clause-may
release-requires-clause-may c =
    let view = view_of c.args.pass.now in
    let now = c.requires.so_far in
    let named = c.pool_lock.ensures ∙ ap (λ (s : Config). pool_lock s) (sym c.requires.of.sizes ∙ worked-sizes now.start view _ now.at.2.worked) in
    subst (MayLetGo view) (sym named) (record { mode = Write; holds = under-lock now.start view _ now.begun.rest (pool_lock now.start.config) now.at.2; done = now.at.2.worked.doing })

pub returns-clause-step : goal.returns-clause-step
returns-clause-step c =
    let kept = c.args.self.now in
    let view = view_of c.args.pass.now in
    let next = view_of c.release.new.pass in
    let lock = c.pool_lock.result in
    let found = c.release.ensures.step.0 in
    let go = c.release.ensures.step.1 in
    record {
      step = released-step view next lock found go;
      made = released-made view next lock found go c.args.pass.now.number c.args.pass.now.numbered;
      leads = λ start before batch after begun at.
          let named = c.pool_lock.ensures ∙ ap (λ (s : Config). pool_lock s) (sym c.requires.of.sizes ∙ worked-sizes start view _ at.2.worked) in
          let mine : LetGo view (pool_lock start.config) found next = subst (λ (l : ℕ). LetGo view l found next) named go in
          gives-all start before batch after kept begun next at.1 at.0 (under-released start view next _ (pool_lock start.config) found mine refl at.2)
          (from-later start view next PoolFree _ _ (known-more MayRelease release view next (Lock lock) go.0 0 found go.1) at.3);
    }
