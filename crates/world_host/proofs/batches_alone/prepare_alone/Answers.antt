use Rattle.std.proofs.Common.{◌<◌, List, All, Err, sym, ◌∙◌, subst}
use Rattle.std.proofs.lemmas.List.Elements.{All-map}
use Rattle.script_player.specs.declared.books.Known.{Known}
use Rattle.body_ident.specs.Id.{Id}
use Rattle.word_map.specs.declared.config.Config.{Config}
use Rattle.pass_table.specs.Passes.{view_of}
use Rattle.batch_add.specs.Answers.{PrepareAnswers}
use Rattle.world_host.proofs.TakenBatches.{prepared-takes, refusal-takes}
use Rattle.world_host.proofs.batches_alone.prepare_alone.Goals as goal

pub returns-in-Ok-clause-takes : goal.returns-in-Ok-clause-takes
returns-in-Ok-clause-takes g c =
    let in_layers = subst (λ (s : Config). c.args.layer < s.layers) (sym c.requires.lone.idle.of.sizes) c.requires.in_layers in
    prepared-takes c.args.pass.now c.prepare.new.pass c.requires.lone.one c.args.layer in_layers c.args.bodies.now c.args.batches.now c.prepare.new.self c.deref.result.now
    (c.deref.ensures.value ∙ c.in_ok-ids.ensures) c.in-Ok.ensures.prepared

pub returns-in-Some-clause-takes : goal.returns-in-Some-clause-takes
returns-in-Some-clause-takes g c =
    let in_layers = subst (λ (s : Config). c.args.layer < s.layers) (sym c.requires.lone.idle.of.sizes) c.requires.in_layers in
    let t = c.in-Err.ensures.refused in
    let answers = subst (λ (l : List Id). PrepareAnswers c.args.layer l (view_of c.args.pass.now) (view_of c.prepare.new.pass) (Err c.in-Err.refused)) (c.deref.ensures.value ∙ c.in_ok-ids.ensures) t.1 in
    refusal-takes c.args.pass.now c.prepare.new.pass c.requires.lone.one c.args.layer in_layers c.args.bodies.now c.args.batches.now c.prepare.new.self c.in-Err.refused c.in-Some.refusal answers
    (sym c.refusal_of.ensures ∙ c.in-Some.is) t.0

pub prepare-requires-clause-below : goal.prepare-requires-clause-below
prepare-requires-clause-below g c =
    let P : Id → Type 0 = λ id. id.index < c.args.world.now.map.bodies in
    subst (All P) (sym (c.deref.ensures.value ∙ c.in_ok-ids.ensures)) (All-map P (λ (k : Known). k.id) c.args.bodies.now c.requires.below)

pub returns-in-Ok-clause-list : goal.returns-in-Ok-clause-list
returns-in-Ok-clause-list g c = let t = c.in-Ok.ensures.prepared in (t.0, t.1)

pub returns-in-Some-clause-list : goal.returns-in-Some-clause-list
returns-in-Some-clause-list g c = c.in-Err.ensures.refused.0
