-- The nodes that a walk has walked: of each it read the first child.
use Rattle.std.specs.Prelude.{ℕ, zero, List, filter_map, Option, Some, None}
use Rattle.word_map.specs.declared.name.Name.{Name}
use Rattle.word_map.specs.declared.name.Name.TheVariants.{Child}
use Rattle.core_state.specs.declared.item.Load.{Load}

-- the node whose first child has this name
abbrev pub walked_by : Name → Option ℕ
walked_by (Child n zero) = Some n
walked_by _ = None

-- in the order in which they were walked
abbrev pub walked_nodes : List Load → List ℕ
walked_nodes loads = filter_map (λ l. walked_by l.name) loads
