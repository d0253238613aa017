-- Parts of a history, and the entries that a pass made in it.
use Rattle.std.specs.Prelude.{ℕ, ◌==◌, if◌then◌else◌, List, [], ◌∷◌}
use Rattle.scene_model.specs.declared.entry.Entry.{Entry}
use Rattle.scene_model.specs.declared.entry.Made.{Made}

-- the part between these two lengths of the history
pub record Span : Type 0 where
  pub from : ℕ
  pub to : ℕ

-- the entries of a history that a pass made
abbrev pub entries_by : ℕ → List Made → List Entry
entries_by pass [] = []
entries_by pass (m ∷ later) = if m.pass == pass then m.entry ∷ entries_by pass later else entries_by pass later
