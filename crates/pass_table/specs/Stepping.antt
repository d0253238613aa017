-- What one step tells the pass that made it.
use Rattle.std.specs.Prelude.{◌≡◌, ◌≢◌, ℕ, ◌^◌, ◌<◌, List, ◌∷◌, ◌++◌, All}
use Rattle.atomic_table.specs.Table.{Me}
use Rattle.atomic_table.specs.Table.{Step as TableStep}
use Rattle.atomic_table.specs.Seated.{TableId}
use Rattle.word_map.specs.declared.config.Config.{Config}
use Rattle.word_map.specs.declared.name.Name.{Name}
use Rattle.word_map.specs.Layout.{word_count, name_of}
use Rattle.core_state.specs.declared.item.Item.{Item}
use Rattle.core_state.specs.declared.view.View.{View}
use Rattle.core_state.specs.View.{own_known, IsPass}
use Rattle.core_state.specs.Core.{Core}
use Rattle.core_state.specs.Kind.{Kind, Asking, Step, IsAllowed, found_by, view_after, after_step}
use Rattle.core_state.specs.Guards.{IsQuiet}
use Rattle.pass_table.specs.Standing.{Stands}

abbrev pub step_by : ℕ → View → ℕ → Name → ℕ → ℕ → Step
step_by seat view number name first second = record { seat = seat; view = view; number = number; name = name; first = first; second = second }

-- A step of this kind was made, once, in a core that stands: at its moment the log was what the pass knew, and what
-- others had stored since, of which no item stores a word that the pass has for itself. It found the word as it was
-- then, and left the pass with the view that the kind says, in a core that stands
pub record Stepped (asks : Asking) (kind : Kind) (view : View) (name : Name) (first second found : ℕ) (next : View) : Type 0 where
  pub before : Core
  pub seat : ℕ
  pub number : ℕ
  pub since : List Item
  pub stands : Stands before
  pub allowed : IsAllowed asks before (step_by seat view number name first second)
  pub learns : before.log ≡ view.known ++ since
  pub foreign : All (λ item. item.pass ≢ number) since
  pub quiet : (early later : List Item) (item : Item) → since ≡ early ++ item ∷ later → IsQuiet before.config view (view.known ++ early) item
  -- where the pass has met another since its last step, so is all that was stored since that step
  pub alone : (early later : List Item) (item : Item) → before.log ≡ (own_known view ++ early) ++ item ∷ later → (item.pass ≢ number) × IsQuiet before.config view (own_known view ++ early) item
  pub finds : found ≡ found_by before (step_by seat view number name first second)
  pub leaves : next ≡ view_after kind before (step_by seat view number name first second)
  pub still_stands : Stands (after_step kind before (step_by seat view number name first second))

-- what a step at a place of the table asks of its caller
pub record MayStep {S : Type 0} (asks : Asking) (c : Config) (table : TableId) (me : Me S View) (place first second : ℕ) : Type 0 where
  pub words : table.words ≡ word_count c
  pub sizes : me.0.config ≡ c
  pub below : place < word_count c
  pub number : ℕ
  pub pass : IsPass me.0 number
  pub first_fits : first < 2 ^ 64
  pub second_fits : second < 2 ^ 64
  pub asked : asks me.0 (name_of c place) first second

-- what the table tells of it
abbrev pub told : {S : Type 0} → Asking → Kind → TableStep S → Me S View → ℕ → Me S View → Type 0
told asks kind step me found next =
    (next.1 ≡ me.1) × Stepped asks kind me.0 (name_of me.0.config step.word) step.first step.second found next.0

-- a store: it overwrites the word that it finds
abbrev pub Stored : Asking → Kind → View → Name → ℕ → View → Type 0
Stored asks kind view name value next = (found : ℕ) × Stepped asks kind view name value 0 found next

-- what the table tells of it
abbrev pub told_of_store : {S : Type 0} → Asking → Kind → TableStep S → Me S View → Me S View → Type 0
told_of_store asks kind step me next = (found : ℕ) × told asks kind step me found next
