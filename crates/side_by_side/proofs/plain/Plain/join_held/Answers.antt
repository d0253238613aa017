use Rattle.std.proofs.Common.{ℕ, List, sym, subst}
use Rattle.scene_model.specs.declared.entry.Entry.TheVariants.{Join}
use Rattle.scene_model.specs.Step.{IsPossible}
use Rattle.scene_model.proofs.Views.{IsPossible-join_one}
use Rattle.side_by_side.proofs.plain.Plain.join_held.Goals as goal

pub apply-requires : goal.apply-requires
apply-requires c =
    subst (λ (list : List ℕ). IsPossible c.args.self.now.scene (Join c.args.layer list)) (sym c.in_ok-indexes.ensures)
    (IsPossible-join_one c.args.self.now.scene c.args.layer c.args.index c.requires)
