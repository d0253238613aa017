use Rattle.std.proofs.Common.{◌<◌, ap, sym, ◌∙◌, subst}
use Rattle.word_map.specs.declared.config.Config.{Config}
use Rattle.word_map.specs.Names.{node_count}
use Rattle.word_map.specs.Words.{word_of_location, IsLocationWord}
use Rattle.pass_table.specs.Passes.{view_of}
use Rattle.remove_body.specs.stages.Removing.{a_place}
use Rattle.remove_body.proofs.RemoveSteps.{in-range, in-tree}
use Rattle.remove_body.proofs.clearing.clear_entry.Goals as goal

pub from_word-requires : goal.from_word-requires
from_word-requires c = record {
  in_range = in-range (view_of c.args.pass.now) c.args.pass.now.number c.args.id.index c.args.pass.now.numbered c.requires.removing c.args.at c.requires.at c.args.pass.now.current;
}

pub step_40-requires-clause-named : goal.step_40-requires-clause-named
step_40-requires-clause-named c =
    let below = subst IsLocationWord c.in-At.is c.from_word.ensures.sound in (
      subst (λ (s : Config). c.in-At.node < node_count s) c.requires.of.sizes
          (in-tree (view_of c.args.pass.now) c.args.pass.now.number c.args.id.index c.args.pass.now.numbered c.requires.removing c.args.at c.requires.at c.args.pass.now.current c.in-At.node c.in-At.child below
          (sym c.from_word.ensures.value ∙ ap word_of_location c.in-At.is)),
      below,
    )

pub returns-in-At-clause-clears : goal.returns-in-At-clause-clears
returns-in-At-clause-clears c =
    a_place c.in-At.node c.in-At.child (subst IsLocationWord c.in-At.is c.from_word.ensures.sound) (sym c.from_word.ensures.value ∙ ap word_of_location c.in-At.is) c.step_40.ensures.step
