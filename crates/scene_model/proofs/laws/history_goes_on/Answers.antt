use Rattle.std.proofs.Common.{[], ◌∷◌}
use Rattle.scene_model.specs.Scene.{empty_scene}
use Rattle.scene_model.proofs.Histories.{scene_from-append, IsLawfulFrom-append, lawful_parts}
use Rattle.scene_model.proofs.laws.history_goes_on.Goals as goal

pub returns-clause-scene : goal.returns-clause-scene
returns-clause-scene c = λ bodies history made. scene_from-append (empty_scene bodies) history (made ∷ [])

pub returns-clause-lawful : goal.returns-clause-lawful
returns-clause-lawful c = λ layers bodies history made. (
  λ lawful.
      let parts = lawful_parts layers (empty_scene bodies) history (made ∷ []) lawful in
      (parts.0, parts.1.0),
  λ parts. IsLawfulFrom-append layers (empty_scene bodies) history (made ∷ []) parts.0 (parts.1, tt),
)

pub returns-clause-prefix : goal.returns-clause-prefix
returns-clause-prefix c = λ layers bodies first later lawful. (lawful_parts layers (empty_scene bodies) first later lawful).0
