use Rattle.std.proofs.Common.{Bool, sym, subst}
use Rattle.tree_query.specs.Collecting.{KeepsChild}
use Rattle.tree_query.proofs.Keeping.{keeps-body}
use Rattle.tree_query.proofs.children.keep_child.Goals as goal

pub put-requires : goal.put-requires
put-requires c = c.requires.room c.in-Body.index (sym c.in-Body.ensures)

pub returns-in-Body : goal.returns-in-Body
returns-in-Body c =
    let put = c.put.ensures in
    let nodes = c.args.stack.now.items in
    subst (λ (b : Bool). KeepsChild b c.args.word nodes nodes c.args.finder.now c.put.new.self) (sym c.if-not-touches.false)
    (keeps-body c.args.word c.in-Body.index nodes c.args.finder.now c.put.new.self (sym c.in-Body.ensures) put.has put.seq put.room put.loads)
