use Rattle.std.proofs.Common.{ℕ, Option, IfSome, Some, refl, sym, ◌∙◌, subst}
use Rattle.std.proofs.lemmas.Bool.{false≢true}
use Rattle.pass_table.specs.Passes.{view_of}
use Rattle.pass_table.specs.Turning.{HasLoaded}
use Rattle.pass_table.proofs.Turning.{loaded-step, loaded-made}
use Rattle.pass_table.proofs.Knowing.{step-alone, lock-step-quiet}
use Rattle.pass_table.proofs.TakingTurns.{taking-on}
use Rattle.pass_table.proofs.take_op.TakeOp.load.Goals as goal

pub returns-clause-step : goal.returns-clause-step
returns-clause-step c = loaded-step (view_of c.args.pass.now) (view_of c.load_word-word.new.pass) _ _ c.load_word-word.ensures.step

pub returns-then-excludes-clause-step : goal.returns-then-excludes-clause-step
returns-then-excludes-clause-step c = loaded-step (view_of c.args.pass.now) (view_of c.load_word-word.new.pass) _ _ c.load_word-word.ensures.step

pub returns-then-excludes-clause-keeps : goal.returns-then-excludes-clause-keeps
returns-then-excludes-clause-keeps c first start taking =
    let view = view_of c.args.pass.now in
    let next = view_of c.load_word-word.new.pass in
    taking-on first start c.args.self.now view next c.args.self.now.loaded c.load_word-word.ensures.left (lock-step-quiet _ _ view next _ _ _ _ c.load_word-word.ensures.step _ refl) (step-alone _ _ view next _ _ _ _ c.load_word-word.ensures.step) taking.open_to taking

pub returns-clause-keeps : goal.returns-clause-keeps
returns-clause-keeps c first start taking =
    let view = view_of c.args.pass.now in
    let next = view_of c.load_word-word.new.pass in
    taking-on first start c.args.self.now view next (Some c.load_word-word.result) c.load_word-word.ensures.left (lock-step-quiet _ _ view next _ _ _ _ c.load_word-word.ensures.step _ refl) (step-alone _ _ view next _ _ _ _ c.load_word-word.ensures.step)
    (λ excluded. false≢true (sym c.if-excludes.false ∙ c.excludes.ensures.1 excluded)) taking

pub returns-clause-made : goal.returns-clause-made
returns-clause-made c = loaded-made (view_of c.args.pass.now) (view_of c.load_word-word.new.pass) _ _ c.load_word-word.ensures.step

pub returns-then-excludes-clause-made : goal.returns-then-excludes-clause-made
returns-then-excludes-clause-made c = loaded-made (view_of c.args.pass.now) (view_of c.load_word-word.new.pass) _ _ c.load_word-word.ensures.step

pub returns-clause-loads : goal.returns-clause-loads
returns-clause-loads c = record { load = c.load_word-word.ensures.step; had = c.load_word-word.ensures.had }

pub returns-then-excludes-clause-loads : goal.returns-then-excludes-clause-loads
returns-then-excludes-clause-loads c =
    subst (λ (o : Option ℕ). IfSome o (HasLoaded (view_of c.args.pass.now) (view_of c.load_word-word.new.pass) c.args.self.now.lock)) (sym c.requires.first) tt

pub returns-then-excludes-clause-turned : goal.returns-then-excludes-clause-turned
returns-then-excludes-clause-turned c =
    (refl, record { taking = c.args.self.now; is = refl; same = refl; load = c.load_word-word.ensures.step; had = c.load_word-word.ensures.had; excludes = c.excludes.ensures.0 c.if-excludes.true })
