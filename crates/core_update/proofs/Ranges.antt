-- A range of numbers, as the nodes of an arena are one.
use Rattle.std.proofs.Common.{Contains, arith, suc, zero, ℕ, ◌+◌, ◌<◌, ◌≤◌, ◌*◌, ◌-◌}
use Rattle.std.proofs.lemmas.List.FromFn.{get_or-range_with_len, length-range_with_len}
use Rattle.std.specs.List.{range_with_len}
use Rattle.word_map.specs.Names.{node_count, arena_nodes}
use Rattle.word_map.specs.declared.config.Config.{Config}
use Rattle.core_state.specs.Encoding.{IsInArena}
use Rattle.core_state.specs.Scope.{IsOnce}

pub in-range : (n from many : ℕ) → Contains (range_with_len from many) n → (from ≤ n) × (n < from + many)
in-range n from many h =
    let long = length-range_with_len from many in
    let at = get_or-range_with_len from many h.0 n (omega (arith, h.1)) in
    let is = h.2 in
    let below = h.1 in
    (omega arith, omega arith)

pub range-once : (from many : ℕ) → IsOnce (range_with_len from many)
range-once from many i j d less inside same =
    let long = length-range_with_len from many in
    let one = get_or-range_with_len from many i d (omega (arith, inside)) in
    let two = get_or-range_with_len from many j d (omega (arith, inside)) in
    absurd (omega arith)

-- the nodes of an arena
pub in-arena : (c : Config) (arena n : ℕ) → Contains (range_with_len (c.nodes + arena * arena_nodes c) (arena_nodes c)) n → IsInArena c arena n
in-arena c arena n among = let t = in-range n (c.nodes + arena * arena_nodes c) (arena_nodes c) among in let high = t.1 in (t.0, omega arith)

-- which are nodes of the world
pub in-world : (c : Config) (arena n : ℕ) → arena < 2 → IsInArena c arena n → node_count c ≤ n → ⊥
in-world c zero n low inside above = let high = inside.1 in omega arith
in-world c (suc zero) n low inside above = let high = inside.1 in omega arith
in-world c (suc (suc arena)) n low inside above = omega arith

-- and no node is in both
pub apart-arenas : (c : Config) (arena n : ℕ) → arena < 2 → IsInArena c arena n → IsInArena c (1 - arena) n → ⊥
apart-arenas c zero n low one two = let high = one.1 in let above = two.0 in omega arith
apart-arenas c (suc zero) n low one two = let high = two.1 in let above = one.0 in omega arith
apart-arenas c (suc (suc arena)) n low one two = omega arith
