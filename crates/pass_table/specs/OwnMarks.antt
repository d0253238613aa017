-- Who marks and unmarks a body: the pass that holds it, and no other one.
use Rattle.std.specs.Prelude.{◌≡◌, ℕ, List, ◌∷◌, ◌++◌, All, Contains}
use Rattle.scene_model.specs.declared.entry.Entry.{Entry}
use Rattle.scene_model.specs.declared.entry.Entry.TheVariants.{Mark, Unmark, Join}
use Rattle.scene_model.specs.declared.entry.Made.{Made}
use Rattle.core_state.specs.declared.view.Marked.{Marked}
use Rattle.core_state.specs.declared.view.Batch.{Batch}
use Rattle.core_state.specs.declared.view.View.{View}
use Rattle.core_state.specs.Log.{history}
use Rattle.core_state.specs.View.{IsPass}
use Rattle.core_state.specs.Core.{Core, IsViewAt}

-- the entry marks the body at an index
abbrev pub MarksBody : ℕ → Entry → Type 0
MarksBody i (Mark j) = i ≡ j
MarksBody i _ = ⊥

-- the body at an index comes into the broad phase by it
abbrev pub JoinsBody : ℕ → Entry → Type 0
JoinsBody i (Join layer indexes) = Contains indexes i
JoinsBody i _ = ⊥

-- the last mark of a body in a history is by this pass, and since then it did not come into the broad phase
pub record IsMarkedBy (number : ℕ) (past : List Made) (i : ℕ) : Type 0 where
  pub first : List Made
  pub since : List Made
  pub parts : past ≡ first ++ (record { pass = number; entry = Mark i }) ∷ since
  pub unmarked : All (λ m. ¬ MarksBody i m.entry) since
  pub unjoined : All (λ m. ¬ JoinsBody i m.entry) since

-- each body that a batch of a pass holds was marked by this pass
abbrev pub HeldAreOwn : Core → Type 0
HeldAreOwn core = (seat number : ℕ) (view : View) (batch : Batch) (m : Marked) → IsViewAt core seat view → IsPass view number → Contains view.batches batch → Contains batch.marked m
    → IsMarkedBy number (history core.log) m.index

-- and each that was unmarked, by the pass that unmarked it
abbrev pub UnmarkedAreOwn : List Made → Type 0
UnmarkedAreOwn made = (past later : List Made) (i number : ℕ) → made ≡ past ++ (record { pass = number; entry = Unmark i }) ∷ later → IsMarkedBy number past i

pub record MarksAreOwn (core : Core) : Type 0 where
  pub held : HeldAreOwn core
  pub unmarked : UnmarkedAreOwn (history core.log)
