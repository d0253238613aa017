-- Entries that name layers of the world.
use Rattle.std.specs.Prelude.{ℕ, ◌<◌, ⊤, List, [], ◌∷◌}
use Rattle.scene_model.specs.declared.entry.Entry.{Entry}
use Rattle.scene_model.specs.declared.entry.Entry.TheVariants as entries

-- a body is created in a layer that there is, and joins in one
abbrev pub IsInLayers : ℕ → Entry → Type 0
IsInLayers layers (entries.Create index layer bounds user) = layer < layers
IsInLayers layers (entries.Join layer indexes) = layer < layers
IsInLayers layers entry = ⊤

abbrev pub AreInLayers : ℕ → List Entry → Type 0
AreInLayers layers [] = ⊤
AreInLayers layers (entry ∷ later) = IsInLayers layers entry × AreInLayers layers later
