use Rattle.std.specs.Prelude.{MatchResult, IfOk, IfErr}
use Rattle.std.proofs.Common.{Ok, Err, Result, ◌<◌, subst}
use Rattle.body_ident.specs.Id.{Id}
use Rattle.word_map.specs.declared.config.Config.{Config}
use Rattle.body_slots.specs.declared.answers.Full.{Full}
use Rattle.body_slots.proofs.whole_create.create.Goals as goal

-- what is so of an answer either way is so of a refusal
of_refusal : (P : Id → Type 0) (Q : Full → Type 0) (answer : Result Id Full) → MatchResult answer P Q → IfErr answer Q
of_refusal P Q (Ok id) h = tt
of_refusal P Q (Err refused) h = h

-- and of an id
of_id : (P R : Id → Type 0) (Q : Full → Type 0) (answer : Result Id Full) → ((id : Id) → P id → R id) → MatchResult answer P Q → IfOk answer R
of_id P R Q (Ok id) weaker h = weaker id h
of_id P R Q (Err refused) weaker h = tt

pub returns-clause-idle : goal.returns-clause-idle
returns-clause-idle g c = record { of = c.create_body.ensures.of; rest = c.create_body.ensures.ended.rest }

pub returns-clause-lawful : goal.returns-clause-lawful
returns-clause-lawful g c = c.create_body.ensures.ended.lawful

pub returns-clause-tells : goal.returns-clause-tells
returns-clause-tells g c = c.create_body.ensures.ended.tells

pub returns-clause-keeps : goal.returns-clause-keeps
returns-clause-keeps g c = c.create_body.ensures.ended.keeps

pub returns-clause-below : goal.returns-clause-below
returns-clause-below g c = of_id _ _ _ c.create_body.result (λ id created. subst (λ (s : Config). id.index < s.bodies) c.requires.idle.of.sizes created.below) c.create_body.ensures.answer

pub returns-clause-created : goal.returns-clause-created
returns-clause-created g c = of_id _ _ _ c.create_body.result (λ id created. created) c.create_body.ensures.answer

pub returns-clause-full : goal.returns-clause-full
returns-clause-full g c = of_refusal _ _ c.create_body.result c.create_body.ensures.answer
