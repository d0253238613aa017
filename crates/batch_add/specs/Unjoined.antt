-- Marks and joins of a body in a history.
use Rattle.std.specs.Prelude.{◌≡◌, ℕ, List, ◌∷◌, ◌++◌, All}
use Rattle.scene_model.specs.declared.entry.Entry.TheVariants.{Mark, Unmark}
use Rattle.scene_model.specs.declared.entry.Made.{Made}
use Rattle.pass_table.specs.OwnMarks.{MarksBody, JoinsBody}

-- by none of these entries, whoever made them, the body comes into the broad phase
abbrev pub NoneJoins : ℕ → List Made → Type 0
NoneJoins i made = All (λ m. ¬ JoinsBody i m.entry) made

-- A body is marked in a history, and unmarked later: these are the entries between, and none of them is another mark of it
pub record IsUndone (history : List Made) (i : ℕ) (between : List Made) : Type 0 where
  pub first : List Made
  pub marker : ℕ
  pub unmarker : ℕ
  pub later : List Made
  pub parts : history ≡ first ++ (record { pass = marker; entry = Mark i }) ∷ (between ++ (record { pass = unmarker; entry = Unmark i }) ∷ later)
  pub once : All (λ m. ¬ MarksBody i m.entry) between

-- the last mark of a body in a history, since which it did not come into the broad phase
pub record IsMarkedSince (history : List Made) (i : ℕ) : Type 0 where
  pub first : List Made
  pub marker : ℕ
  pub since : List Made
  pub parts : history ≡ first ++ (record { pass = marker; entry = Mark i }) ∷ since
  pub unjoined : NoneJoins i since

-- A pass marked a body and unmarked it later, and these are the entries between: none of them is a mark of it by this pass
pub record IsUndoneBy (number : ℕ) (history : List Made) (i : ℕ) (between : List Made) : Type 0 where
  pub first : List Made
  pub later : List Made
  pub parts : history ≡ first ++ (record { pass = number; entry = Mark i }) ∷ (between ++ (record { pass = number; entry = Unmark i }) ∷ later)
  pub once : All (λ m. m.pass ≡ number → ¬ MarksBody i m.entry) between

-- by none of these entries, whoever made them, the body is marked
abbrev pub NoneMarks : ℕ → List Made → Type 0
NoneMarks i made = All (λ m. ¬ MarksBody i m.entry) made
