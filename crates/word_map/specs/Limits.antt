-- The sizes that a world may have.
use Rattle.std.specs.Prelude.{ℕ, ◌≤◌, ◌==◌, ◌&&◌, nat_le, not, Bool, Option, [], ◌∷◌, find, IsTrue}
use Rattle.std.specs.List.{list_any}
use Rattle.word_map.specs.declared.config.Config.{Config}
use Rattle.word_map.specs.declared.config.Field.{Field}
use Rattle.word_map.specs.declared.config.Field.TheVariants.{Bodies, Stripes, Layers, Slots, Nodes, Passes}
use Rattle.word_map.specs.declared.config.TheConstants.{MAX_BODIES, STRIPE_COUNTS, MAX_LAYERS, MAX_SLOTS, MAX_NODES, MAX_PASSES}

-- whether a number is 1, 2, 4, 8, 16, 32 or 64
abbrev pub is_stripe_count : ℕ → Bool
is_stripe_count n = list_any (λ count. count == n) STRIPE_COUNTS

-- whether a number is from 1 to a limit
abbrev pub is_up_to : ℕ → ℕ → Bool
is_up_to limit n = nat_le 1 n && nat_le n limit

-- whether a field has a number that it may have
abbrev pub is_within_limit : Config → Field → Bool
is_within_limit c Bodies = is_up_to MAX_BODIES c.bodies
is_within_limit c Stripes = is_stripe_count c.stripes
is_within_limit c Layers = is_up_to MAX_LAYERS c.layers
is_within_limit c Slots = is_up_to MAX_SLOTS c.slots
is_within_limit c Nodes = is_up_to MAX_NODES c.nodes
is_within_limit c Passes = is_up_to MAX_PASSES c.passes

-- the first field, in this order, that has a number that it may not have
abbrev pub fault_of : Config → Option Field
fault_of c =
    find (λ field. not (is_within_limit c field))
    (Bodies ∷ Stripes ∷ Layers ∷ Slots ∷ Nodes ∷ Passes ∷ [])

-- each field has a number that it may have
pub record IsConfig (c : Config) : Type 0 where
  pub bodies : (1 ≤ c.bodies) × (c.bodies ≤ MAX_BODIES)
  pub stripes : IsTrue (is_stripe_count c.stripes)
  pub layers : (1 ≤ c.layers) × (c.layers ≤ MAX_LAYERS)
  pub slots : (1 ≤ c.slots) × (c.slots ≤ MAX_SLOTS)
  pub nodes : (1 ≤ c.nodes) × (c.nodes ≤ MAX_NODES)
  pub passes : (1 ≤ c.passes) × (c.passes ≤ MAX_PASSES)

-- a world as large as is planned: up to 1,048,576 bodies and batch nodes, and 1,024 slots of a layer
pub record IsPlanned (c : Config) : Type 0 where
  pub bodies : c.bodies ≤ 1048576
  pub stripes : c.stripes ≤ 64
  pub layers : c.layers ≤ 8
  pub slots : c.slots ≤ 1024
  pub nodes : c.nodes ≤ 1048576
  pub passes : c.passes ≤ 32
