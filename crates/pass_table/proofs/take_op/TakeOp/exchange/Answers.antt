use Rattle.std.proofs.Common.{ℕ, suc, Option, IfSome, None, refl, ap, sym, inr, subst}
use Rattle.word_map.specs.declared.config.Config.{Config}
use Rattle.word_map.specs.declared.name.Name.TheVariants.{Lock}
use Rattle.word_map.specs.Names.{IsName}
use Rattle.pass_table.specs.Passes.{view_of}
use Rattle.pass_table.specs.Trying.{Excludes}
use Rattle.pass_table.specs.TakeTurns.{turns_after}
use Rattle.pass_table.proofs.Knowing.{step-alone, lock-step-quiet}
use Rattle.pass_table.proofs.TakingTurns.{taking-on, taking-done}
use Rattle.pass_table.proofs.Turning.{exchanged-step, exchanged-made}
use Rattle.pass_table.proofs.take_op.TakeOp.exchange.Goals as goal

pub returns-in-Ok-clause-step : goal.returns-in-Ok-clause-step
returns-in-Ok-clause-step c =
    exchanged-step (view_of c.args.pass.now) (view_of c.exchange.new.pass) _ c.args.self.now.mode _ _ c.in-Ok.ensures.exchanged.exchange

pub returns-in-Err-clause-step : goal.returns-in-Err-clause-step
returns-in-Err-clause-step c =
    exchanged-step (view_of c.args.pass.now) (view_of c.exchange.new.pass) _ c.args.self.now.mode _ _ c.in-Err.ensures.exchanged.exchange

pub returns-in-Err-clause-turned : goal.returns-in-Err-clause-turned
returns-in-Err-clause-turned c = inr (
  sym (ap (λ (o : Option ℕ). suc (turns_after o)) c.requires.second),
  record { taking = c.args.self.now; is = refl; word = c.args.word; loaded = c.requires.second; found = c.in-Err.field-0; missed = c.in-Err.ensures.exchanged },
)

pub returns-in-Ok-clause-answers : goal.returns-in-Ok-clause-answers
returns-in-Ok-clause-answers c first start taking =
    let view = view_of c.args.pass.now in
    let next = view_of c.exchange.new.pass in
    let hit = c.in-Ok.ensures.exchanged in
    taking-done first start c.args.self.now view next hit.left (lock-step-quiet _ _ view next _ _ _ _ hit.exchange.step _ refl) (step-alone _ _ view next _ _ _ _ hit.exchange.step) taking

pub returns-in-Err-clause-keeps : goal.returns-in-Err-clause-keeps
returns-in-Err-clause-keeps c first start taking =
    let view = view_of c.args.pass.now in
    let next = view_of c.exchange.new.pass in
    let missed = c.in-Err.ensures.exchanged in
    taking-on first start c.args.self.now view next None missed.left (lock-step-quiet _ _ view next _ _ _ _ missed.exchange.step _ refl) (step-alone _ _ view next _ _ _ _ missed.exchange.step) tt taking

pub exchange-requires-clause-named : goal.exchange-requires-clause-named
exchange-requires-clause-named c = subst (λ (d : Config). IsName d (Lock c.args.self.now.lock)) c.requires.of.sizes c.requires.under_way.goes.named

pub exchange-requires-clause-free : goal.exchange-requires-clause-free
exchange-requires-clause-free c = c.requires.under_way.goes.free

pub exchange-requires-clause-open : goal.exchange-requires-clause-open
exchange-requires-clause-open c = subst (λ (o : Option ℕ). IfSome o (λ word. ¬ Excludes c.args.self.now.mode word)) c.requires.second c.requires.under_way.goes.open_to

pub returns-in-Ok-clause-made : goal.returns-in-Ok-clause-made
returns-in-Ok-clause-made c = exchanged-made (view_of c.args.pass.now) (view_of c.exchange.new.pass) _ c.args.self.now.mode _ _ c.in-Ok.ensures.exchanged.exchange

pub returns-in-Err-clause-made : goal.returns-in-Err-clause-made
returns-in-Err-clause-made c = exchanged-made (view_of c.args.pass.now) (view_of c.exchange.new.pass) _ c.args.self.now.mode _ _ c.in-Err.ensures.exchanged.exchange
