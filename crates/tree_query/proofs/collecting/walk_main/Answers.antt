use Rattle.std.proofs.Common.{refl, sym, subst, arith}
use Rattle.word_map.specs.Limits.{IsConfig}
use Rattle.word_map.specs.declared.name.Name.TheVariants.{Main}
use Rattle.pass_table.specs.Passes.{view_of}
use Rattle.tree_query.proofs.WordWalks.{words-few, word-read, main-small}
use Rattle.tree_query.proofs.collecting.walk_main.Goals as goal

pub load_main-word-requires-clause-walks : goal.load_main-word-requires-clause-walks
load_main-word-requires-clause-walks c = c.requires.at.2.on.walking.on

pub overflow_add-finder : goal.overflow_add-finder
overflow_add-finder c =
    let at = c.requires.at in
    let pass = c.args.pass.now in
    let few = words-few at.0 c.args.shape.now c.args.finder.now (view_of pass) (Main c.args.layer) at.1 at.2 pass.current (subst IsConfig (sym c.requires.of.sizes) c.args.world.now.in_limits) in
    omega arith

pub root_in_main-requires : goal.root_in_main-requires
root_in_main-requires c =
    let at = c.requires.at in
    let next = c.load_main-word.new.pass in
    record {
      in_range =
          main-small at.0 c.args.shape.now c.args.finder.now (view_of c.args.pass.now) (view_of next) c.args.layer c.load_main-word.result at.1 at.2 c.load_main-word.ensures.on next.current
          (subst IsConfig (sym c.load_main-word.ensures.of.sizes) c.args.world.now.in_limits);
    }

pub walk_root-requires-clause-at : goal.walk_root-requires-clause-at
walk_root-requires-clause-at c =
    let at = c.requires.at in (
      at.0,
      at.1,
      word-read at.0 c.args.shape.now c.args.finder.now (view_of c.args.pass.now) (Main c.args.layer) at.1 at.2 (view_of c.load_main-word.new.pass) c.load_main-word.result c.load_main-word.ensures.on _ _
          (c.root_in_main.ensures c.args.layer) (λ index. refl) (λ index. refl) refl,
    )

pub returns-clause-on : goal.returns-clause-on
returns-clause-on c = λ trip rest at.
    c.walk_root.ensures.on trip rest
    (word-read trip c.args.shape.now c.args.finder.now (view_of c.args.pass.now) (Main c.args.layer) rest at (view_of c.load_main-word.new.pass) c.load_main-word.result c.load_main-word.ensures.on _ _
    (c.root_in_main.ensures c.args.layer) (λ index. refl) (λ index. refl) refl)
