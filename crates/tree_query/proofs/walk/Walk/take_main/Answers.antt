use Rattle.std.proofs.Common.{◌≡◌, ℕ, ◌+◌, ◌<◌, ◌≤◌, sym, subst, arith}
use Rattle.core_state.specs.Walking.{next_node, roots_in}
use Rattle.word_map.specs.declared.name.Name.TheVariants.{Main}
use Rattle.tree_query.specs.declared.walk.WalkStage.TheVariants.{End}
use Rattle.tree_query.specs.declared.walk.Walk.{Walk}
use Rattle.tree_query.specs.stages.WalkPlaces.{IsAtPlace, words_from}
use Rattle.tree_query.proofs.Places.{place-main, place-mainless, place-last}
use Rattle.tree_query.proofs.walk.Walk.take_main.Goals as goal

pub returns-then-word-gt0-clause-there : goal.returns-then-word-gt0-clause-there
returns-then-word-gt0-clause-there c = λ s sized none.
    let old = c.args.self.now in
    let some = c.if-word-gt0.true in
    subst (λ (w : Walk). IsAtPlace s w (next_node (words_from s old.mask (old.layer + 1)) (roots_in (Main old.layer) c.args.word))) (sym c.enter.ensures)
    (place-main s old c.next_layer-self.result sized none c.next_layer-self.ensures c.args.word (omega arith))

pub returns-then-self-clause-there : goal.returns-then-self-clause-there
returns-then-self-clause-there c = λ s sized none.
    let old = c.args.self.now in
    let next = c.next_layer-self.result in
    let zero : c.args.word ≡ 0 = let none = c.if-word-gt0.false in omega arith in
    let past : old.layers ≤ next = let past = c.if-self.true in omega arith in
    subst (λ (v : ℕ). IsAtPlace s (record old { layer = next; slot = 0; stage = End }) (next_node (words_from s old.mask (old.layer + 1)) (roots_in (Main old.layer) v))) (sym zero)
    (place-last s old next sized none c.next_layer-self.ensures past)

pub returns-else-self-clause-there : goal.returns-else-self-clause-there
returns-else-self-clause-there c = λ s sized none.
    let old = c.args.self.now in
    let next = c.next_layer-self.result in
    let zero : c.args.word ≡ 0 = let none = c.if-word-gt0.false in omega arith in
    let inside : next < old.layers = let past = c.if-self.false in omega arith in
    subst (λ (v : ℕ). IsAtPlace s (record old { layer = next; slot = 0 }) (next_node (words_from s old.mask (old.layer + 1)) (roots_in (Main old.layer) v))) (sym zero)
    (place-mainless s old next sized none c.next_layer-self.ensures c.requires.stage inside)
