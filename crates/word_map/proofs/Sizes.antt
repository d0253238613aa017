-- How large a world is.
use Rattle.std.proofs.Common.{◌+◌, ◌*◌, ◌^◌, ◌<◌, ◌≤◌, arith, mul-le-mul}
use Rattle.std.specs.Int.{IsPowerOfTwo}
use Rattle.word_map.specs.declared.config.Config.{Config}
use Rattle.word_map.specs.Limits.{IsConfig, IsPlanned}
use Rattle.word_map.specs.Layout.{word_count, largest}
use Rattle.word_map.proofs.Stripes.{stripes-power, stripes-range}

-- no world has more words than the largest
pub word_count-largest : (c : Config) → IsConfig c → word_count c ≤ word_count largest
word_count-largest c h =
    let slots : c.slots + 1 ≤ 65 = omega arith in
    let layers : (c.slots + 1) * c.layers ≤ 65 * 8 = mul-le-mul slots h.layers.1 in
    omega (arith, layers, stripes-range c.stripes h.stripes)

-- the stripes of a world are a power of two
pub stripes-IsPowerOfTwo : (c : Config) → IsConfig c → IsPowerOfTwo c.stripes
stripes-IsPowerOfTwo c h = let power = stripes-power c.stripes h.stripes in (power.0, power.1)

-- the limits are within those that are planned
pub IsConfig-planned : (c : Config) → IsConfig c → IsPlanned c
IsConfig-planned c h = let stripes = stripes-range c.stripes h.stripes in grind arith

-- at those, too, places are small
pub word_count-planned : (c : Config) → IsPlanned c → word_count c < 2 ^ 27
word_count-planned c h =
    let slots : c.slots + 1 ≤ 1025 = omega arith in
    let layers : (c.slots + 1) * c.layers ≤ 1025 * 8 = mul-le-mul slots h.layers in
    omega (arith, layers)

-- what the law on sizes stands on
pub ruleset size_rules = (word_count-largest, stripes-IsPowerOfTwo, IsConfig-planned, word_count-planned)
