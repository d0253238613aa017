-- What a sink in memory is seen as.
use Rattle.std.specs.Prelude.{ℕ, ◌<◌, ◌≤◌, ◌⊎◌, List, length, Contains}
use Rattle.world_io.specs.Faults.{next_count}

pub record Tape : Type 0 where
  -- the bytes that were written
  pub contents : List ℕ
  -- the numbers of the calls that fail, of which the first is 1
  pub fails : List ℕ
  -- the most bytes that one call takes, and the most that all take
  pub at_most : ℕ
  pub room : ℕ
  -- how many calls were made, and how many of them failed
  pub calls : ℕ
  pub faults : ℕ

-- the next call is one of those that fail, or has something to write where no room is left
abbrev pub RefusesNext : Tape → List ℕ → Type 0
RefusesNext tape piece = Contains tape.fails (next_count tape.calls) ⊎ ((0 < length piece) × (tape.room ≤ length tape.contents))
