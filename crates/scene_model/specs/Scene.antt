-- The scene: which bodies are live, and what is known of each.
use Rattle.std.specs.Prelude.{ℕ, List, [], ◌∷◌, length, Option, Some, None, slice_index_or, nat_lt, if◌then◌else◌}
use Rattle.fixed_box.specs.declared.fix_box.FixBox.{FixBox}
use Rattle.scene_model.specs.declared.body_view.Phase.{Phase}

-- what is known of a live body; it is the generation-th body that was created at its index, from 1 on
pub record Record : Type 0 where
  pub generation : ℕ
  pub layer : ℕ
  pub bounds : FixBox
  pub user : ℕ
  pub phase : Phase

-- an index: how many bodies were created at it so far, and the one that is live there
pub record Place : Type 0 where
  pub creations : ℕ
  pub body : Option Record

-- the places of all indexes that were ever used; those of them that were destroyed and not used since, the last
-- destroyed first; and how many indexes there are
pub record Scene : Type 0 where
  pub places : List Place
  pub freed : List ℕ
  pub bodies : ℕ

-- the scene in which no body was created yet
abbrev pub empty_scene : ℕ → Scene
empty_scene bodies = record { places = []; freed = []; bodies = bodies }

-- an index that was never used
abbrev pub unused : Place
unused = record { creations = 0; body = None }

abbrev pub place_at : Scene → ℕ → Place
place_at scene index = slice_index_or scene.places index unused

-- the body that is live at an index
abbrev pub record_at : Scene → ℕ → Option Record
record_at scene index = (place_at scene index).body

-- the index that the next body takes: the one that was destroyed last, else the least that was never used
abbrev pub next_of : List ℕ → ℕ → ℕ → Option ℕ
next_of (index ∷ _) used bodies = Some index
next_of [] used bodies = if nat_lt used bodies then Some used else None

abbrev pub next_index : Scene → Option ℕ
next_index scene = next_of scene.freed (length scene.places) scene.bodies
