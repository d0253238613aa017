-- The words of a world, and the log of the steps that stored a value, oldest first.
use Rattle.std.specs.Prelude.{◌≡◌, ◌≢◌, ℕ, suc, ◌+◌, ◌==◌, nat_lt, if◌then◌else◌, List, ◌∷◌, ◌++◌, map, fold, filter_map, All, Option, option_map}
use Rattle.std.specs.List.{range_with_len}
use Rattle.scene_model.specs.declared.entry.Made.{Made}
use Rattle.word_map.specs.declared.config.Config.{Config}
use Rattle.word_map.specs.declared.name.Name.{Name}
use Rattle.word_map.specs.declared.name.Name.TheVariants.{SlotHead, SlotNext, BoxWord, Bound, PoolHead, PoolNext, PoolFree}
use Rattle.word_map.specs.Layout.{name_of, word_count}
use Rattle.core_state.specs.Names.{same_name}
use Rattle.core_state.specs.declared.item.Item.{Item}

-- a link of a list that runs through all of so many places in order: 1 more than the next place, and 0 at the end
abbrev pub opening_link : ℕ → ℕ → ℕ
opening_link count place = if suc place == count then 0 else 2 + place

-- a side of the bound of a child that is not there: it begins above all coordinates and ends below them
abbrev pub empty_side : ℕ → ℕ
empty_side k = if nat_lt k 3 then 33554432 else 0

-- a word of a world in which nothing was done yet
abbrev pub opening_word : Config → Name → ℕ
opening_word c SlotHead = 1
opening_word c (SlotNext i) = opening_link c.bodies i
opening_word c (BoxWord i k) = 1
opening_word c (Bound n b k) = empty_side k
opening_word c PoolHead = 1
opening_word c (PoolNext n) = opening_link c.nodes n
opening_word c PoolFree = c.nodes
opening_word c _ = 0

-- a word after a step that stored a value
abbrev pub word_after : Name → ℕ → Item → ℕ
word_after name before item = if same_name item.name name then item.value else before

-- a word: what was stored there last, and else its opening word
abbrev pub word : Config → List Item → Name → ℕ
word c log name = fold (word_after name) (opening_word c name) log

-- all words of the table, in the order of their places
abbrev pub words : Config → List Item → List ℕ
words c log = map (λ place. word c log (name_of c place)) (range_with_len 0 (word_count c))

-- the entry of a step, with the pass that made it
abbrev pub made_by : Item → Option Made
made_by item = option_map (λ entry. record { pass = item.pass; entry = entry }) item.entry

-- the entries of the log
abbrev pub history : List Item → List Made
history log = filter_map made_by log

-- no step of these stored a value under the name
abbrev pub NoneStores : List Item → Name → Type 0
NoneStores items name = All (λ item. item.name ≢ name) items

-- of the steps that stored a value under the name, the last
pub record LastStores (log : List Item) (name : Name) : Type 0 where
  pub first : List Item
  pub item : Item
  pub later : List Item
  pub parts : log ≡ first ++ item ∷ later
  pub stores : item.name ≡ name
  pub none : NoneStores later name

-- a log goes on from another
abbrev pub IsPrefix : List Item → List Item → Type 0
IsPrefix early late = (since : List Item) × (late ≡ early ++ since)
