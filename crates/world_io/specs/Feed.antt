-- What a source in memory is seen as.
use Rattle.std.specs.Prelude.{ℕ, List, Contains}
use Rattle.world_io.specs.Faults.{next_count}

pub record Feed : Type 0 where
  -- the bytes that are left
  pub left : List ℕ
  -- the numbers of the calls that fail, of which the first is 1
  pub fails : List ℕ
  -- the most bytes that one call gives
  pub at_most : ℕ
  -- how many calls were made, and how many of them failed
  pub calls : ℕ
  pub faults : ℕ

-- the next call is one of those that fail
abbrev pub FailsNext : Feed → Type 0
FailsNext feed = Contains feed.fails (next_count feed.calls)
