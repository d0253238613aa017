-- What passes of one world know of one another's entries.
use Rattle.std.specs.Prelude.{◌≡◌, ◌≢◌, ℕ, ◌<◌, List, ◌++◌, map, All}
use Rattle.scene_model.specs.declared.entry.Entry.{Entry}
use Rattle.scene_model.specs.declared.entry.Made.{Made}
use Rattle.core_state.specs.declared.item.Item.{Item}
use Rattle.core_state.specs.declared.view.View.{View}
use Rattle.core_state.specs.Log.{history}
use Rattle.core_state.specs.View.{IsPass}
use Rattle.pass_table.specs.Knowing.{MeetsWith}
use Rattle.pass_table.specs.Calls.{Adds}

-- the entries of the pass with this number
abbrev pub made_by_pass : ℕ → List Entry → List Made
made_by_pass number entries = map (λ entry. record { pass = number; entry = entry }) entries

-- all that the pass knows was stored by itself
abbrev pub KnowsOwn : View → Type 0
KnowsOwn view = All (λ item. IsPass view item.pass) view.known

-- the pass came to know just these entries, all of them made by the pass with this number
abbrev pub SeesJust : List Item → View → ℕ → List Entry → Type 0
SeesJust known next actor entries = history next.known ≡ history known ++ made_by_pass actor entries

-- A round of meetings after a call. All passes of a world knew the same log, and one of them made a call that added these
-- entries; then these are their views, by number. The first one met the one that acted, and then each other pass met the
-- first
pub record MeetInTurn (known : List Item) (start : View) (views : ℕ → View) (first actor : ℕ) (met : View) (backs : ℕ → View) (entries : List Entry) : Type 0 where
  pub apart : first ≢ actor
  pub first_in : first < (views first).config.passes
  pub actor_in : actor < (views first).config.passes
  pub numbered : (number : ℕ) → number < (views first).config.passes → IsPass (views number) number
  pub same : (number : ℕ) → number < (views first).config.passes → number ≢ actor → (views number).known ≡ known
  pub start_same : start.known ≡ known
  pub role : (views actor).role ≡ start.role
  pub adds : Adds start (views actor) entries
  pub meets : MeetsWith (views first) (views actor) met
  pub back : (number : ℕ) → number < (views first).config.passes → number ≢ first → MeetsWith (views number) met (backs number)
