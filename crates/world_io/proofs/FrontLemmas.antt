-- What a sink took of a piece, call by call.
use Rattle.std.proofs.Common.{◌≡◌, ℕ, ◌+◌, ◌≤◌, List, length, take, drop, Option, sym, arith}
use Rattle.std.specs.List.{slice_range}
use Rattle.std.proofs.lemmas.Grind.{common_steps}
use Rattle.std.proofs.lemmas.List.{take-append-drop}
use Rattle.std.proofs.Math.Seq.{take-add}
use Rattle.world_io.specs.Bytes.{Appended, AppendedPart}
use Rattle.world_io.proofs.BytesLemmas.{Appended-append}

-- a front, and then some of the slice of what comes after it
pub Appended-take-more : (a b c : Option (List ℕ)) (xs : List ℕ) (i n : ℕ) → i ≤ length xs → Appended a b (take i xs) → Appended b c (take n (slice_range xs i (length xs))) → Appended a c (take (i + n) xs)
Appended-take-more a b c xs i n within front more =
    let rest : slice_range xs i (length xs) ≡ drop i xs = grind (arith, common_steps) in
    let more' : Appended b c (take n (drop i xs)) = rw rest at more in
    rw (take-add i n xs) (Appended-append a b c (take i xs) (take n (drop i xs)) front more')

-- a front is a first part
pub AppendedPart-take : (a b : Option (List ℕ)) (xs : List ℕ) (i : ℕ) → Appended a b (take i xs) → AppendedPart a b xs
AppendedPart-take a b xs i front = record {
  part = take i xs;
  rest = drop i xs;
  split = sym (take-append-drop i xs);
  appended = front;
}

pub ruleset by_fronts = (Appended-take-more, AppendedPart-take)
