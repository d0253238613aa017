use Rattle.std.specs.Prelude.{MatchResult, IfErr, OnOk}
use Rattle.std.proofs.Common.{Ok, Err, Result, subst}
use Rattle.fixed_box.specs.declared.fix_box.FixBox.{FixBox}
use Rattle.body_ident.specs.Id.{Id}
use Rattle.pass_table.specs.Passes.{view_of}
use Rattle.widen_bounds.specs.declared.answers.MoveRefused.{MoveRefused}
use Rattle.widen_bounds.specs.Answers.{IsMoveAnswer}
use Rattle.widen_bounds.proofs.calls.move_body.Goals as goal

-- what is so of an answer either way is so of each
of_done : (P : Type 0) (Q : MoveRefused → Type 0) (answer : Result (Unit {0}) MoveRefused) → MatchResult answer (λ _. P) Q → OnOk answer P
of_done P Q (Ok done) h = h
of_done P Q (Err refused) h = tt

of_refusal : (P : Type 0) (Q : MoveRefused → Type 0) (answer : Result (Unit {0}) MoveRefused) → MatchResult answer (λ _. P) Q → IfErr answer Q
of_refusal P Q (Ok done) h = tt
of_refusal P Q (Err refused) h = h

pub returns-clause-lawful : goal.returns-clause-lawful
returns-clause-lawful g c = (c.drive.ensures.answers c.new-moving.result (view_of c.args.pass.now) c.new-moving.ensures.under_way).ended.lawful

pub returns-clause-tells : goal.returns-clause-tells
returns-clause-tells g c = (c.drive.ensures.answers c.new-moving.result (view_of c.args.pass.now) c.new-moving.ensures.under_way).ended.tells

pub returns-clause-spares : goal.returns-clause-spares
returns-clause-spares g c = (c.drive.ensures.answers c.new-moving.result (view_of c.args.pass.now) c.new-moving.ensures.under_way).spares

pub returns-clause-keeps : goal.returns-clause-keeps
returns-clause-keeps g c = (c.drive.ensures.answers c.new-moving.result (view_of c.args.pass.now) c.new-moving.ensures.under_way).ended.keeps

pub returns-clause-moved : goal.returns-clause-moved
returns-clause-moved g c =
    let view = view_of c.args.pass.now in
    let next = view_of c.drive.new.pass in
    let made = c.drive.ensures.answers c.new-moving.result view c.new-moving.ensures.under_way in
    of_done _ _ c.drive.result (subst (λ (i : Id). IsMoveAnswer i c.args.to view next c.drive.result) c.new-moving.ensures.begun (subst (λ (t : FixBox). IsMoveAnswer c.new-moving.result.id t view next c.drive.result) c.new-moving.ensures.target made.answers))

pub returns-clause-refused : goal.returns-clause-refused
returns-clause-refused g c =
    let view = view_of c.args.pass.now in
    let next = view_of c.drive.new.pass in
    let made = c.drive.ensures.answers c.new-moving.result view c.new-moving.ensures.under_way in
    of_refusal _ _ c.drive.result (subst (λ (i : Id). IsMoveAnswer i c.args.to view next c.drive.result) c.new-moving.ensures.begun (subst (λ (t : FixBox). IsMoveAnswer c.new-moving.result.id t view next c.drive.result) c.new-moving.ensures.target made.answers))

pub returns-clause-idle : goal.returns-clause-idle
returns-clause-idle g c = record { of = c.drive.ensures.of; rest = (c.drive.ensures.answers c.new-moving.result (view_of c.args.pass.now) c.new-moving.ensures.under_way).ended.rest }
