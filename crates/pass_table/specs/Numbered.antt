-- The kinds of step that serve several lists, by the word: what each number asks, and what it does.
use Rattle.std.specs.Prelude.{ℕ}
use Rattle.word_map.specs.declared.name.Name.{Name}
use Rattle.word_map.specs.declared.name.Name.TheVariants.{SlotHead, SlotNext, PoolHead, PoolNext, PoolFree}
use Rattle.core_state.specs.declared.view.View.{View}
use Rattle.core_state.specs.Lists.{MayStoreLink, store_link, MayStoreHead, store_head}
use Rattle.core_state.specs.Pool.{MayStorePoolLink, store_pool_link, MayStorePoolHead, store_pool_head, MayStorePoolCount, store_pool_count}
use Rattle.pass_table.specs.Stepping.{Stored}

-- kind 10, a link
abbrev pub MayLink : View → Name → ℕ → Type 0
MayLink view (SlotNext index) value = MayStoreLink view (SlotNext index) value 0
MayLink view (PoolNext node) value = MayStorePoolLink view (PoolNext node) value 0
MayLink view _ value = ⊥

abbrev pub Linked : View → Name → ℕ → View → Type 0
Linked view (SlotNext index) value next = Stored MayStoreLink store_link view (SlotNext index) value next
Linked view (PoolNext node) value next = Stored MayStorePoolLink store_pool_link view (PoolNext node) value next
Linked view _ value next = ⊥

-- kind 11, a head or the count of free nodes
abbrev pub MayHead : View → Name → ℕ → Type 0
MayHead view SlotHead value = MayStoreHead view SlotHead value 0
MayHead view PoolHead value = MayStorePoolHead view PoolHead value 0
MayHead view PoolFree value = MayStorePoolCount view PoolFree value 0
MayHead view _ value = ⊥

abbrev pub Headed : View → Name → ℕ → View → Type 0
Headed view SlotHead value next = Stored MayStoreHead store_head view SlotHead value next
Headed view PoolHead value next = Stored MayStorePoolHead store_pool_head view PoolHead value next
Headed view PoolFree value next = Stored MayStorePoolCount store_pool_count view PoolFree value next
Headed view _ value next = ⊥
