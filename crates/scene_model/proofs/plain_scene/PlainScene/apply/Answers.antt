use Rattle.std.proofs.Common.{◌≡◌, sym, ◌∙◌, ap, Result, Ok, Err, OnOk}
use Rattle.std.specs.declared.alloc.AllocError.{AllocError}
use Rattle.scene_model.specs.declared.entry.Entry.{Entry}
use Rattle.scene_model.specs.Scene.{Scene}
use Rattle.scene_model.specs.Step.{after_entry}
use Rattle.scene_model.specs.Shown.{shown, after_shown}
use Rattle.scene_model.proofs.ShownSteps.{shown-after_entry}
use Rattle.scene_model.proofs.plain_scene.PlainScene.apply.Goals as goal

-- what is shown after the step follows each scene that was shown before it
follows_by : (r : Result (Unit {0}) AllocError) (old new : Scene) (entry : Entry) → OnOk r (new ≡ after_shown old entry)
    → OnOk r ((scene : Scene) → old ≡ shown scene → new ≡ shown (after_entry scene entry))
follows_by (Ok _) old new entry e = λ scene is. e ∙ ap (λ (s : Scene). after_shown s entry) is ∙ sym (shown-after_entry scene entry)
follows_by (Err _) old new entry e = tt

pub returns-clause-follows : goal.returns-clause-follows
returns-clause-follows c = follows_by c.step.result c.args.self.now c.step.new.self c.args.entry.now c.step.ensures.ok
