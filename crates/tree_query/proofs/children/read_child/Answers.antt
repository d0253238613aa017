use Rattle.std.proofs.Common.{◌<◌, refl, sym, subst, arith}
use Rattle.word_map.specs.Limits.{IsConfig}
use Rattle.word_map.specs.Names.{node_count}
use Rattle.word_map.specs.declared.config.Config.{Config}
use Rattle.pass_table.specs.Passes.{view_of}
use Rattle.tree_query.proofs.Kept.{child-named, child-few, child-space, child-body, no-child, child-kept}
use Rattle.tree_query.proofs.ChildReads.{bound-of, word-small}
use Rattle.tree_query.proofs.children.read_child.Goals as goal

pub load_child-word-requires-clause-named : goal.load_child-word-requires-clause-named
load_child-word-requires-clause-named c =
    let at = c.requires.at in
    let pass = c.args.pass.now in
    subst (λ (s : Config). (c.args.node < node_count s) × (c.args.child < 4)) c.requires.of.sizes
    (child-named at.0 at.1 c.args.shape.now c.args.finder.now c.args.stack.now.items (view_of pass) c.args.node c.args.child c.requires.low at.2 pass.current)

pub read_bound-touches-requires-clause-below : goal.read_bound-touches-requires-clause-below
read_bound-touches-requires-clause-below c =
    let at = c.requires.at in
    let pass = c.args.pass.now in
    subst (λ (s : Config). (c.args.node < node_count s) × (c.args.child < 4)) c.requires.of.sizes
    (child-named at.0 at.1 c.args.shape.now c.args.finder.now c.args.stack.now.items (view_of pass) c.args.node c.args.child c.requires.low at.2 pass.current)

pub overflow_add-finder : goal.overflow_add-finder
overflow_add-finder c =
    let at = c.requires.at in
    let pass = c.args.pass.now in
    let limits = subst IsConfig (sym c.requires.of.sizes) c.args.world.now.in_limits in
    let few = child-few at.0 at.1 c.args.shape.now c.args.finder.now c.args.stack.now.items (view_of pass) c.args.node c.args.child c.requires.low at.2 pass.current limits in
    omega arith

pub overflow_add-finder-2 : goal.overflow_add-finder-2
overflow_add-finder-2 c =
    let at = c.requires.at in
    let pass = c.args.pass.now in
    let limits = subst IsConfig (sym c.requires.of.sizes) c.args.world.now.in_limits in
    let few = child-few at.0 at.1 c.args.shape.now c.args.finder.now c.args.stack.now.items (view_of pass) c.args.node c.args.child c.requires.low at.2 pass.current limits in
    omega arith

pub returns-then-word-eq0-clause-on : goal.returns-then-word-eq0-clause-on
returns-then-word-eq0-clause-on c = λ trip rest at.
    no-child trip rest c.args.shape.now c.args.finder.now c.args.stack.now.items (view_of c.args.pass.now) c.args.node c.args.child c.requires.low at _ (view_of c.load_child-word.new.pass)
    c.load_child-word.result c.load_child-word.ensures.on c.if-word-eq0.true (λ index. refl) (λ index. refl) refl

pub keep_child-requires-clause-in_range : goal.keep_child-requires-clause-in_range
keep_child-requires-clause-in_range c =
    let at = c.requires.at in
    let mid = c.load_child-word.new.pass in
    let next = c.read_bound-touches.new.pass in
    let limits = c.args.world.now.in_limits in
    word-small at.0 at.1 c.args.shape.now c.args.finder.now c.args.stack.now.items (view_of c.args.pass.now) c.args.node c.args.child c.requires.low at.2 (view_of mid) c.load_child-word.result
    c.load_child-word.ensures.on c.if-word-eq0.false (view_of next) c.read_bound-touches.result c.read_bound-touches.ensures.read mid.current next.current
    (subst IsConfig (sym c.load_child-word.ensures.of.sizes) limits) (subst IsConfig (sym c.read_bound-touches.ensures.of.sizes) limits)

pub keep_child-requires-clause-room : goal.keep_child-requires-clause-room
keep_child-requires-clause-room c = λ index is.
    let at = c.requires.at in
    let mid = c.load_child-word.new.pass in
    let body =
    child-body at.0 at.1 c.args.shape.now c.args.finder.now c.args.stack.now.items (view_of c.args.pass.now) c.args.node c.args.child c.requires.low at.2 (view_of mid) c.load_child-word.result
    c.load_child-word.ensures.on c.if-word-eq0.false mid.current index is
    in
    let below = subst (λ (s : Config). index < s.bodies) c.load_child-word.ensures.of.sizes body in
    let room = c.requires.room in
    omega arith

pub keep_child-requires-clause-space : goal.keep_child-requires-clause-space
keep_child-requires-clause-space c =
    let at = c.requires.at in
    let pass = c.args.pass.now in
    child-space at.0 at.1 c.args.shape.now c.args.finder.now c.args.stack.now.items (view_of pass) c.args.node c.args.child c.requires.low at.2 pass.current

pub returns-clause-on : goal.returns-clause-on
returns-clause-on c = λ trip rest at.
    let start = view_of c.args.pass.now in
    let mid = view_of c.load_child-word.new.pass in
    let next = view_of c.read_bound-touches.new.pass in
    let x = c.load_child-word.result in
    let touches = c.read_bound-touches.result in
    let read =
    bound-of trip rest c.args.shape.now c.args.finder.now c.args.stack.now.items start c.args.node c.args.child c.requires.low at mid x c.load_child-word.ensures.on c.if-word-eq0.false next touches
    c.read_bound-touches.ensures.read
    in
    child-kept trip rest c.args.shape.now c.args.finder.now c.args.stack.now.items start c.args.node c.args.child c.requires.low at mid x c.load_child-word.ensures.on c.if-word-eq0.false next touches read _
    c.keep_child.new.finder c.keep_child.new.stack.items (λ index. refl) (λ index. refl) refl c.keep_child.ensures
