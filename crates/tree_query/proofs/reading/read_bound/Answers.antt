use Rattle.std.proofs.Common.{◌∙◌, arith}
use Rattle.pass_table.specs.Passes.{view_of}
use Rattle.tree_query.proofs.Trips.{load-counted}
use Rattle.tree_query.proofs.Sides.{bound-read}
use Rattle.tree_query.proofs.reading.read_bound.Goals as goal

pub load_side-y0-requires-clause-walks : goal.load_side-y0-requires-clause-walks
load_side-y0-requires-clause-walks c = c.load_side-x0.ensures.on.on ∙ c.requires.walks

pub load_side-z0-requires-clause-walks : goal.load_side-z0-requires-clause-walks
load_side-z0-requires-clause-walks c = c.load_side-y0.ensures.on.on ∙ (c.load_side-x0.ensures.on.on ∙ c.requires.walks)

pub load_side-x1-requires-clause-walks : goal.load_side-x1-requires-clause-walks
load_side-x1-requires-clause-walks c = c.load_side-z0.ensures.on.on ∙ (c.load_side-y0.ensures.on.on ∙ (c.load_side-x0.ensures.on.on ∙ c.requires.walks))

pub load_side-y1-requires-clause-walks : goal.load_side-y1-requires-clause-walks
load_side-y1-requires-clause-walks c = c.load_side-x1.ensures.on.on ∙ (c.load_side-z0.ensures.on.on ∙ (c.load_side-y0.ensures.on.on ∙ (c.load_side-x0.ensures.on.on ∙ c.requires.walks)))

pub load_side-z1-requires-clause-walks : goal.load_side-z1-requires-clause-walks
load_side-z1-requires-clause-walks c =
    c.load_side-y1.ensures.on.on ∙ (c.load_side-x1.ensures.on.on ∙ (c.load_side-z0.ensures.on.on ∙ (c.load_side-y0.ensures.on.on ∙ (c.load_side-x0.ensures.on.on ∙ c.requires.walks))))

pub returns-clause-count : goal.returns-clause-count
returns-clause-count c =
    let a = load-counted _ _ _ _ c.load_side-x0.ensures.on in
    let b = load-counted _ _ _ _ c.load_side-y0.ensures.on in
    let d = load-counted _ _ _ _ c.load_side-z0.ensures.on in
    let e = load-counted _ _ _ _ c.load_side-x1.ensures.on in
    let f = load-counted _ _ _ _ c.load_side-y1.ensures.on in
    let g = load-counted _ _ _ _ c.load_side-z1.ensures.on in
    omega arith

pub returns-clause-read : goal.returns-clause-read
returns-clause-read c = λ trip rest stack level x asks on.
    bound-read trip rest stack c.args.node level c.args.child x (view_of c.args.pass.now) (view_of c.load_side-x0.new.pass) (view_of c.load_side-y0.new.pass) (view_of c.load_side-z0.new.pass)
    (view_of c.load_side-x1.new.pass) (view_of c.load_side-y1.new.pass) (view_of c.load_side-z1.new.pass) _ _ _ _ _ _ c.load_side-x0.ensures.on c.load_side-y0.ensures.on c.load_side-z0.ensures.on
    c.load_side-x1.ensures.on c.load_side-y1.ensures.on c.load_side-z1.ensures.on c.args.shape.now c.is_touching.result asks c.is_touching.ensures on
