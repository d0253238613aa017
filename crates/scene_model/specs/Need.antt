-- How many nodes a tree over some bodies has.
use Rattle.std.specs.Prelude.{ℕ, zero, suc, ◌+◌, ◌-◌, ◌/◌, nat_lt, List, [], ◌∷◌, map, sum, if◌then◌else◌}

-- the sizes of the four runs into which so many bodies are halved twice
abbrev pub quarters : ℕ → ℕ → List ℕ
quarters front back = (front - front / 2) ∷ front / 2 ∷ (back - back / 2) ∷ back / 2 ∷ []

abbrev pub run_sizes : ℕ → List ℕ
run_sizes n = quarters (n - n / 2) (n / 2)

-- what a run takes below its node: nothing where it has one body or none
abbrev pub need_of_run : (ℕ → ℕ) → ℕ → ℕ
need_of_run below run = if nat_lt run 2 then 0 else below run

-- the nodes of a tree over so many bodies, of so many levels at most
abbrev pub need_within : ℕ → ℕ → ℕ
need_within zero n = 0
need_within (suc levels) n = 1 + sum (map (need_of_run (need_within levels)) (run_sizes n))

-- the nodes of the tree over so many bodies: they are never as many levels as bodies
abbrev pub need : ℕ → ℕ
need n = need_within n n
