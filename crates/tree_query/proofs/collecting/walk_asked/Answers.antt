use Rattle.std.proofs.Common.{◌++◌, Bool, List, [], ap, sym, ◌∙◌, subst}
use Rattle.std.specs.Prelude.{if◌then◌else◌}
use Rattle.word_map.specs.declared.name.Name.{Name}
use Rattle.core_state.specs.Walking.{words_of_layer}
use Rattle.pass_table.specs.Passes.{view_of}
use Rattle.tree_query.specs.Collecting.{IsCollecting, word_place}
use Rattle.tree_query.proofs.collecting.walk_asked.Goals as goal

pub walk_layer-requires-clause-at : goal.walk_layer-requires-clause-at
walk_layer-requires-clause-at c =
    let at = c.requires.at in
    let asks = sym c.is_asked.ensures ∙ c.if-is_asked.true in
    let words = ap (λ (b : Bool). if b then words_of_layer c.args.world.now.map c.args.layer else []) asks in
    (at.0, at.1, subst (λ (l : List Name). IsCollecting at.0 c.args.shape.now c.args.finder.now (view_of c.args.pass.now) (word_place (l ++ at.1))) words at.2)

pub returns-then-is_asked-clause-on : goal.returns-then-is_asked-clause-on
returns-then-is_asked-clause-on c = λ trip rest at.
    let asks = sym c.is_asked.ensures ∙ c.if-is_asked.true in
    let words = ap (λ (b : Bool). if b then words_of_layer c.args.world.now.map c.args.layer else []) asks in
    c.walk_layer.ensures.on trip rest (subst (λ (l : List Name). IsCollecting trip c.args.shape.now c.args.finder.now (view_of c.args.pass.now) (word_place (l ++ rest))) words at)

pub returns-else-is_asked-clause-on : goal.returns-else-is_asked-clause-on
returns-else-is_asked-clause-on c = λ trip rest at.
    let asks = sym c.is_asked.ensures ∙ c.if-is_asked.false in
    let words = ap (λ (b : Bool). if b then words_of_layer c.args.world.now.map c.args.layer else []) asks in
    subst (λ (l : List Name). IsCollecting trip c.args.shape.now c.args.finder.now (view_of c.args.pass.now) (word_place (l ++ rest))) words at
