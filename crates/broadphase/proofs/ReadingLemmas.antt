-- What a source gave in a last call after those that came before it.
use Rattle.std.proofs.Common.{◌≡◌, ℕ, ◌+◌, ◌≤◌, List, ◌++◌, length, Option, length-append, arith}
use Rattle.world_io.specs.Bytes.{Gave, GaveAll}
use Rattle.world_io.proofs.BytesLemmas.{Gave-append}
use Rattle.broadphase.specs.Reading.{GaveCount, GaveAtMost}

-- some bytes, and then this many
pub GaveCount-after : (a b c : Option (List ℕ)) (xs : List ℕ) (n m : ℕ) → Gave a b xs → GaveCount b c n → length xs + n ≡ m → GaveCount a c m
GaveCount-after a b c xs n m first last sum = record {
  bytes = xs ++ last.bytes;
  gave = Gave-append a b c xs last.bytes first last.gave;
  exact = omega (arith, length-append xs last.bytes, last.exact);
}

-- some bytes, and then this many or fewer
pub GaveAtMost-after : (a b c : Option (List ℕ)) (xs : List ℕ) (n m : ℕ) → Gave a b xs → GaveAtMost b c n → length xs + n ≤ m → GaveAtMost a c m
GaveAtMost-after a b c xs n m first last sum = record {
  bytes = xs ++ last.bytes;
  gave = Gave-append a b c xs last.bytes first last.gave;
  bound = omega (arith, length-append xs last.bytes, last.bound);
}

-- all bytes, where they are no more than this many
pub all_at_most : (a b : Option (List ℕ)) (xs : List ℕ) (most : ℕ) → GaveAll a b xs → length xs ≤ most → GaveAtMost a b most
all_at_most a b xs most all within = record { bytes = xs; gave = all.gave; bound = within }

pub ruleset after_pieces = (GaveCount-after, GaveAtMost-after)
