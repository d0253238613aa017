-- What a map keeps beside the sizes that it was made for.
use Rattle.std.specs.Prelude.{◌≡◌, ◌+◌}
use Rattle.word_map.specs.declared.config.Config.{Config}
use Rattle.word_map.specs.declared.map.Map.TheInside.{Inside}
use Rattle.word_map.specs.Limits.{IsConfig}
use Rattle.word_map.specs.Layout.{heads_start, bodies_start, layers_start, nodes_start, pool_start, groups_start, readers_start, plain_pool, apart_readers, word_count}

-- each number is what the layout says of the sizes
pub record IsLaidOut (m : Inside) : Type 0 where
  pub limits : IsConfig m.config
  pub heads : m.heads ≡ heads_start m.config
  pub bodies : m.bodies ≡ bodies_start m.config
  pub layers : m.layers ≡ layers_start m.config
  pub layer_words : m.layer_words ≡ m.config.slots + 1
  pub nodes : m.nodes ≡ nodes_start m.config
  pub pool : m.pool ≡ pool_start m.config
  pub plain_pool : m.plain_pool ≡ plain_pool m.config
  pub groups : m.groups ≡ groups_start m.config
  pub apart_readers : m.apart_readers ≡ apart_readers m.config
  pub readers : m.readers ≡ readers_start m.config
  pub len : m.len ≡ word_count m.config

-- all that a map keeps
abbrev pub inside_of : Config → Inside
inside_of c = record {
  config = c;
  heads = heads_start c;
  bodies = bodies_start c;
  layers = layers_start c;
  layer_words = c.slots + 1;
  nodes = nodes_start c;
  pool = pool_start c;
  plain_pool = plain_pool c;
  groups = groups_start c;
  apart_readers = apart_readers c;
  readers = readers_start c;
  len = word_count c;
}
