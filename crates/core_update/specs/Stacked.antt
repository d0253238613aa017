-- The stack of nodes that are to be given back: of the tree that is begun only few wait at once. The roots of the others wait
-- behind them.
use Rattle.std.specs.Prelude.{ℕ, suc, ◌+◌, ◌*◌, ◌≤◌, ◌==◌, if◌then◌else◌, List, [], ◌∷◌, ⊤}
use Rattle.core_state.specs.declared.view.Waiting.{Waiting}

-- how many of them are no roots
abbrev pub begun : List Waiting → ℕ
begun [] = 0
begun (w ∷ rest) = if w.level == 1 then begun rest else suc (begun rest)

-- behind each of them wait at most three nodes for each level below the root's up to its own, and behind a root roots alone
abbrev pub IsStacked : List Waiting → Type 0
IsStacked [] = ⊤
IsStacked (w ∷ rest) = (begun rest + 3 ≤ 3 * w.level) × IsStacked rest
