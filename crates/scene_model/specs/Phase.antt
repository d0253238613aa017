-- The phases of a body.
use Rattle.std.specs.Prelude.{Bool, true, false}
use Rattle.scene_model.specs.declared.body_view.Phase.{Phase}
use Rattle.scene_model.specs.declared.body_view.Phase.TheVariants.{Out, Held, In}

abbrev pub is_in : Phase → Bool
is_in In = true
is_in Held = false
is_in Out = false
