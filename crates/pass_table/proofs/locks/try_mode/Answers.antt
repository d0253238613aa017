use Rattle.std.proofs.Common.{[], ◌∷◌, ◌++◌, sym, ◌∙◌}
use Rattle.std.proofs.lemmas.Bool.{false≢true}
use Rattle.core_state.specs.declared.view.LockStep.TheVariants.{Taken}
use Rattle.pass_table.specs.Passes.{view_of}
use Rattle.pass_table.proofs.Trying.{Leaves-trans, HadWord-later, HadWord-earlier, still-free}
use Rattle.pass_table.proofs.locks.try_mode.Goals as goal

pub returns-in-Err-clause-tried : goal.returns-in-Err-clause-tried
returns-in-Err-clause-tried c =
    let view = view_of c.args.pass.now in
    let middle = view_of c.load_word-loaded.new.pass in
    let next = view_of c.exchange.new.pass in
    let load = c.load_word-loaded.ensures in
    let lost = c.in-Err.ensures.exchanged in
    record {
      middle = middle;
      load = load.step;
      exchange = lost.exchange;
      left = Leaves-trans (λ locks. locks) view middle next load.left lost.left;
      had = HadWord-later view middle next _ _ _ load.had lost.left;
      had_found = HadWord-earlier view middle next _ _ _ load.left lost.had;
      free = λ excluded. false≢true (sym c.if-excludes.false ∙ c.excludes.ensures.1 excluded);
      changed = lost.changed;
    }

pub returns-in-Ok-clause-tried : goal.returns-in-Ok-clause-tried
returns-in-Ok-clause-tried c =
    let view = view_of c.args.pass.now in
    let middle = view_of c.load_word-loaded.new.pass in
    let next = view_of c.exchange.new.pass in
    let load = c.load_word-loaded.ensures in
    let hit = c.in-Ok.ensures.exchanged in
    record {
      word = c.load_word-loaded.result;
      middle = middle;
      load = load.step;
      exchange = hit.exchange;
      left = Leaves-trans (λ locks. locks ++ Taken c.args.lock c.args.mode ∷ []) view middle next load.left hit.left;
      had = HadWord-later view middle next _ _ _ load.had hit.left;
      free = λ excluded. false≢true (sym c.if-excludes.false ∙ c.excludes.ensures.1 excluded);
    }

pub exchange-requires-clause-free : goal.exchange-requires-clause-free
exchange-requires-clause-free c = still-free (view_of c.args.pass.now) (view_of c.load_word-loaded.new.pass) c.args.lock c.load_word-loaded.ensures.left c.requires.free

pub exchange-requires-clause-open : goal.exchange-requires-clause-open
exchange-requires-clause-open c = λ excluded. false≢true (sym c.if-excludes.false ∙ c.excludes.ensures.1 excluded)
