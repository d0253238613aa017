use Rattle.std.proofs.Common.{◌<◌, refl, ap, sym, ◌∙◌, subst, arith}
use Rattle.word_map.specs.declared.config.Config.{Config}
use Rattle.pass_table.specs.Passes.{view_of}
use Rattle.pass_table.proofs.Working.{worked-begun}
use Rattle.batch_add.proofs.slot_search.SlotSearch.new.Goals as goal

pub returns-clause-under_way : goal.returns-clause-under_way
returns-clause-under_way c =
    let sizes = c.requires.of.sizes in
    let some = c.args.world.now.in_limits.slots.0 in
    record {
      layer = refl;
      in_layers = subst (λ (s : Config). c.args.layer < s.layers) (sym sizes) c.requires.in_layers;
      rest = c.requires.rest;
      worked = worked-begun (view_of c.args.pass.now) c.args.pass.now.number c.args.pass.now.numbered c.requires.rest;
      all = c.requires.words ∙ ap (λ (s : Config). s.slots) (sym sizes);
      below = subst (λ (s : Config). 0 < s.slots) (sym sizes) (omega arith);
      found = λ slot past none. absurd (omega arith);
    }
