use Rattle.std.proofs.Common.{◌∙◌, sym}
use Rattle.pass_table.specs.Passes.{view_of}
use Rattle.pass_table.proofs.Between.{more-refl}
use Rattle.pass_table.proofs.LockedBodies.{layer-stays}
use Rattle.body_lock.proofs.viewing.layer_of.Goals as goal

pub returns-in-Held-clause-more : goal.returns-in-Held-clause-more
returns-in-Held-clause-more c = more-refl (view_of c.args.pass.now) c.requires.now.alone

pub returns-in-Held-2-clause-more : goal.returns-in-Held-2-clause-more
returns-in-Held-2-clause-more c = more-refl (view_of c.args.pass.now) c.requires.now.alone

pub returns-in_default : goal.returns-in_default
returns-in_default c =
    let load = c.load_layer.ensures in
    record {
      of = load.of;
      guarded = load.guarded;
      more = load.loaded.more;
      layer = sym (layer-stays c.args.id (view_of c.args.pass.now) (view_of c.load_layer.new.pass) c.requires.guarded load.loaded.more) ∙ load.loaded.word;
    }
