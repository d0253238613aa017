use Rattle.std.specs.Prelude.{MatchResult, IfErr, OnOk}
use Rattle.std.proofs.Common.{Ok, Err, Result, subst}
use Rattle.body_ident.specs.Id.{Id}
use Rattle.pass_table.specs.Passes.{view_of}
use Rattle.remove_body.specs.declared.answers.RemoveRefused.{RemoveRefused}
use Rattle.remove_body.specs.Answers.{IsRemoveAnswer}
use Rattle.remove_body.proofs.calls.remove.Goals as goal

-- what is so of an answer either way is so of each
of_done : (P : Type 0) (Q : RemoveRefused → Type 0) (answer : Result (Unit {0}) RemoveRefused) → MatchResult answer (λ _. P) Q → OnOk answer P
of_done P Q (Ok done) h = h
of_done P Q (Err refused) h = tt

of_refusal : (P : Type 0) (Q : RemoveRefused → Type 0) (answer : Result (Unit {0}) RemoveRefused) → MatchResult answer (λ _. P) Q → IfErr answer Q
of_refusal P Q (Ok done) h = tt
of_refusal P Q (Err refused) h = h

pub returns-clause-lawful : goal.returns-clause-lawful
returns-clause-lawful g c = (c.drive.ensures.answers c.new-removing.result (view_of c.args.pass.now) c.new-removing.ensures.under_way).0.lawful

pub returns-clause-tells : goal.returns-clause-tells
returns-clause-tells g c = (c.drive.ensures.answers c.new-removing.result (view_of c.args.pass.now) c.new-removing.ensures.under_way).0.tells

pub returns-clause-keeps : goal.returns-clause-keeps
returns-clause-keeps g c = (c.drive.ensures.answers c.new-removing.result (view_of c.args.pass.now) c.new-removing.ensures.under_way).0.keeps

pub returns-clause-removed : goal.returns-clause-removed
returns-clause-removed g c =
    let view = view_of c.args.pass.now in
    let next = view_of c.drive.new.pass in
    let made = c.drive.ensures.answers c.new-removing.result view c.new-removing.ensures.under_way in
    of_done _ _ c.drive.result (subst (λ (i : Id). IsRemoveAnswer i view next c.drive.result) c.new-removing.ensures.begun made.1)

pub returns-clause-refused : goal.returns-clause-refused
returns-clause-refused g c =
    let view = view_of c.args.pass.now in
    let next = view_of c.drive.new.pass in
    let made = c.drive.ensures.answers c.new-removing.result view c.new-removing.ensures.under_way in
    of_refusal _ _ c.drive.result (subst (λ (i : Id). IsRemoveAnswer i view next c.drive.result) c.new-removing.ensures.begun made.1)

pub returns-clause-idle : goal.returns-clause-idle
returns-clause-idle g c = record { of = c.drive.ensures.of; rest = (c.drive.ensures.answers c.new-removing.result (view_of c.args.pass.now) c.new-removing.ensures.under_way).0.rest }
