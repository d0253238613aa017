use Rattle.std.proofs.Common.{ℕ, ◌<◌, ◌≤◌, refl, subst, arith}
use Rattle.pass_table.specs.Passes.{view_of}
use Rattle.tree_query.specs.declared.walk.WalkStage.TheVariants.{Word, End}
use Rattle.tree_query.proofs.WalkTurnEnds.{begin-turn}
use Rattle.tree_query.proofs.walk.Walk.begin_walk.Goals as goal

pub returns-then-self-clause-turn : goal.returns-then-self-clause-turn
returns-then-self-clause-turn c =
    let old = c.args.self.now in
    let inside : old.layer < old.layers = let inside = c.if-self.true in omega arith in
    let begins = c.begin.ensures.begins in
    begin-turn old c.args.finder.now (view_of c.args.pass.now) (view_of c.begin.new.pass) begins.0 begins.1 c.requires.stage begins.2 begins.3 Word refl refl refl
    (λ s sized none. (subst (λ (n : ℕ). old.layer < n) sized.layers inside, none)) c.requires.under_way c.begin.ensures.step c.begin.ensures.made

pub returns-else-self-clause-turn : goal.returns-else-self-clause-turn
returns-else-self-clause-turn c =
    let old = c.args.self.now in
    let past : old.layers ≤ old.layer = let inside = c.if-self.false in omega arith in
    let begins = c.begin.ensures.begins in
    begin-turn old c.args.finder.now (view_of c.args.pass.now) (view_of c.begin.new.pass) begins.0 begins.1 c.requires.stage begins.2 begins.3 End refl refl refl
    (λ s sized none. (subst (λ (n : ℕ). n ≤ old.layer) sized.layers past, none)) c.requires.under_way c.begin.ensures.step c.begin.ensures.made
