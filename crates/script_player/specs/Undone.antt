-- What a command that is refused leaves behind.
use Rattle.std.specs.Prelude.{◌≡◌, ℕ, ◌+◌, ◌≤◌, ⊤, List, [], ◌∷◌, ◌++◌, fold}
use Rattle.scene_model.specs.declared.entry.Entry.{Entry}
use Rattle.scene_model.specs.declared.entry.Entry.TheVariants.{Join}
use Rattle.scene_model.specs.Scene.{Scene}
use Rattle.scene_model.specs.Step.{after_entry}
use Rattle.script_text.specs.declared.command.Command.{Command}
use Rattle.script_text.specs.declared.command.Command.TheVariants.{Add, Prepare}
use Rattle.script_player.specs.Taking.{marks, unmarks}

-- bodies were held and let go, or there were none
pub record IsUndone (scene : Scene) (made : List Entry) : Type 0 where
  pub indexes : List ℕ
  pub undone : made ≡ marks indexes ++ unmarks indexes
  pub same : fold after_entry scene made ≡ scene

-- the bodies of a layer that came in together
pub record Addition : Type 0 where
  pub layer : ℕ
  pub indexes : List ℕ

abbrev pub additions : List Addition → List Entry
additions [] = []
additions (a ∷ later) = (marks a.indexes ++ Join a.layer a.indexes ∷ []) ++ additions later

-- they come layer by layer, ascending, from this layer on
abbrev pub Ascend : ℕ → List Addition → Type 0
Ascend from [] = ⊤
Ascend from (a ∷ later) = (from ≤ a.layer) × Ascend (a.layer + 1) later

-- some layers came in, and of the next one all that was held was let go
pub record IsPartlyAdded (scene : Scene) (from : ℕ) (made : List Entry) : Type 0 where
  pub added : List Addition
  pub ascend : Ascend from added
  pub rest : List Entry
  pub parts : made ≡ additions added ++ rest
  pub undone : IsUndone (fold after_entry scene (additions added)) rest

-- what a command leaves where it is refused
abbrev pub LeavesUndone : Scene → Command → List Entry → Type 0
LeavesUndone scene (Prepare batch layer names) made = IsUndone scene made
LeavesUndone scene (Add names) made = IsPartlyAdded scene 0 made
LeavesUndone scene command made = made ≡ []
