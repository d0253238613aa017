-- What holds of a table between two commands.
use Rattle.std.specs.Prelude.{ℕ, ◌≤◌, ◌^◌, ⊤, List, [], ◌∷◌, All, Contains}
use Rattle.std.specs.List.{AllPairs}
use Rattle.word_map.specs.Limits.{IsConfig}
use Rattle.scene_model.specs.declared.entry.Entry.{Entry}
use Rattle.scene_model.specs.declared.entry.Entry.TheVariants.{Join}
use Rattle.scene_model.specs.Scene.{Scene}
use Rattle.scene_model.specs.Step.{IsPossible}
use Rattle.scene_model.specs.Shown.{after_shown}
use Rattle.scene_model.specs.Consistent.{IsConsistent}
use Rattle.script_player.specs.declared.books.Batch.{Batch}
use Rattle.script_player.specs.Books.{nodes_kept}
use Rattle.script_player.specs.Table.{Table}

-- entries can be added one after another to what a plain scene shows
abbrev pub ArePossible : Scene → List Entry → Type 0
ArePossible scene [] = ⊤
ArePossible scene (entry ∷ later) = IsPossible scene entry × ArePossible (after_shown scene entry) later

-- no index stands in both lists
abbrev pub AreApart : List ℕ → List ℕ → Type 0
AreApart xs ys = (index : ℕ) → Contains xs index → ¬ Contains ys index

-- each prepared batch can be joined, and no two of them hold the same body
pub record AreHeld (scene : Scene) (prepared : List Batch) : Type 0 where
  pub can_join : All (λ b. IsPossible scene (Join b.layer b.indexes)) prepared
  pub apart : AllPairs (λ a b. AreApart a.indexes b.indexes) prepared

-- the scene is consistent, whatever layers were used
abbrev pub IsSound : Scene → Type 0
IsSound scene = (layers : ℕ) × IsConsistent layers scene

-- the sizes are within their limits, each index fits an id, the scene is sound, batches keep no more nodes than there
-- are, and each prepared batch holds its bodies
pub record IsUnderWay (table : Table) : Type 0 where
  pub config : IsConfig table.world
  pub bodies : table.scene.bodies ≤ 2 ^ 23
  pub sound : IsSound table.scene
  pub nodes : nodes_kept table.books ≤ table.world.nodes
  pub held : AreHeld table.scene table.books.prepared
