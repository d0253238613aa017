use Rattle.std.proofs.Common.{sym, subst, ◌+◌, arith}
use Rattle.core_state.specs.Walking.{next_node, roots_in}
use Rattle.word_map.specs.declared.name.Name.TheVariants.{Slot}
use Rattle.tree_query.specs.declared.walk.Walk.{Walk}
use Rattle.tree_query.specs.stages.WalkPlaces.{IsAtPlace, words_at}
use Rattle.tree_query.proofs.Places.{place-root, place-rootless}
use Rattle.tree_query.proofs.walk.Walk.take_slot.Goals as goal

pub returns-in-Tree-clause-there : goal.returns-in-Tree-clause-there
returns-in-Tree-clause-there c = λ s inside none.
    let old = c.args.self.now in
    subst (λ (w : Walk). IsAtPlace s w (next_node (words_at s old.mask old.layer (old.slot + 1)) (roots_in (Slot old.layer old.slot) c.args.word))) (sym c.enter.ensures)
    (place-root s old c.in-Tree.root c.args.word none (sym c.in-Tree.ensures.value))

pub returns-in-Empty-clause-there : goal.returns-in-Empty-clause-there
returns-in-Empty-clause-there c = λ s inside none.
    let value = c.in-Empty.ensures.value in
    place-rootless s c.args.self.now c.args.word c.requires.stage inside none (omega arith)

pub returns-in-Reserved-clause-there : goal.returns-in-Reserved-clause-there
returns-in-Reserved-clause-there c = λ s inside none.
    let value = c.in-Reserved.ensures.value in
    let sound = c.in-Reserved.ensures.sound in
    place-rootless s c.args.self.now c.args.word c.requires.stage inside none (omega arith)
