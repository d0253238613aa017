use Rattle.std.specs.Prelude.{MatchResult, IfErr, OnOk}
use Rattle.std.proofs.Common.{Ok, Err, Result}
use Rattle.body_slots.specs.declared.answers.DestroyRefused.{DestroyRefused}
use Rattle.body_slots.proofs.whole_destroy.destroy.Goals as goal

-- what is so of an answer either way is so of each
of_done : (P : Type 0) (Q : DestroyRefused → Type 0) (answer : Result (Unit {0}) DestroyRefused) → MatchResult answer (λ _. P) Q → OnOk answer P
of_done P Q (Ok done) h = h
of_done P Q (Err refused) h = tt

of_refusal : (P : Type 0) (Q : DestroyRefused → Type 0) (answer : Result (Unit {0}) DestroyRefused) → MatchResult answer (λ _. P) Q → IfErr answer Q
of_refusal P Q (Ok done) h = tt
of_refusal P Q (Err refused) h = h

pub returns-clause-idle : goal.returns-clause-idle
returns-clause-idle g c = record { of = c.destroy_body.ensures.of; rest = c.destroy_body.ensures.ended.rest }

pub returns-clause-lawful : goal.returns-clause-lawful
returns-clause-lawful g c = c.destroy_body.ensures.ended.lawful

pub returns-clause-tells : goal.returns-clause-tells
returns-clause-tells g c = c.destroy_body.ensures.ended.tells

pub returns-clause-keeps : goal.returns-clause-keeps
returns-clause-keeps g c = c.destroy_body.ensures.ended.keeps

pub returns-clause-destroyed : goal.returns-clause-destroyed
returns-clause-destroyed g c = of_done _ _ c.destroy_body.result c.destroy_body.ensures.answer

pub returns-clause-refused : goal.returns-clause-refused
returns-clause-refused g c = of_refusal _ _ c.destroy_body.result c.destroy_body.ensures.answer
