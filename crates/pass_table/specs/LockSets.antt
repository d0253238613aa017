-- Sets of locks as bits.
use Rattle.std.specs.Prelude.{◌≡◌, ℕ, ◌-◌, ◌==◌, nat_lt, if◌then◌else◌}
use Rattle.std.specs.Int.{bit_at}
use Rattle.pass_table.specs.declared.lock_set.LockSet.{LockSet}

-- the bit of a lock in the two words of a set
abbrev pub bit_of : ℕ → ℕ → ℕ → ℕ
bit_of low high lock = if nat_lt lock 64 then bit_at low lock else bit_at high (lock - 64)

-- 1 where the lock is in the set, and else 0
abbrev pub bit_in : LockSet → ℕ → ℕ
bit_in set lock = bit_of set.low set.high lock

-- the bit of this lock is now so, and the others are as they were
abbrev pub IsChanged : LockSet → ℕ → ℕ → LockSet → Type 0
IsChanged set lock bit next = (other : ℕ) → bit_in next other ≡ if lock == other then bit else bit_in set other
