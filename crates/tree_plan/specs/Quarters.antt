-- The four runs into which so many bodies are halved twice, by their places.
use Rattle.std.specs.Prelude.{ℕ, zero, suc, ◌+◌, ◌-◌, ◌/◌}

-- where the run of a child begins, and how many bodies it has
abbrev pub quarter_start : ℕ → ℕ → ℕ
quarter_start n zero = 0
quarter_start n (suc zero) = (n - n / 2) - (n - n / 2) / 2
quarter_start n (suc (suc zero)) = n - n / 2
quarter_start n (suc (suc (suc child))) = (n - n / 2) + (n / 2 - n / 2 / 2)

abbrev pub quarter_size : ℕ → ℕ → ℕ
quarter_size n zero = (n - n / 2) - (n - n / 2) / 2
quarter_size n (suc zero) = (n - n / 2) / 2
quarter_size n (suc (suc zero)) = n / 2 - n / 2 / 2
quarter_size n (suc (suc (suc child))) = n / 2 / 2
