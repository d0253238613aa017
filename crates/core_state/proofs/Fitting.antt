-- Every word of a world fits 64 bits.
use Rattle.std.proofs.Common.{ℕ, ◌+◌, ◌^◌, ◌<◌, List, [], ◌∷◌, Bool, true, false, cond, arith}
use Rattle.std.specs.Prelude.{All, fold}
use Rattle.std.proofs.lemmas.List.Elements.{All-head, All-tail}
use Rattle.word_map.specs.declared.config.Config.{Config}
use Rattle.word_map.specs.declared.name.Name.{Name}
use Rattle.word_map.specs.declared.name.Name.TheVariants.{SlotHead, SlotNext, BoxWord, Bound, PoolHead, PoolNext, PoolFree}
use Rattle.word_map.specs.Limits.{IsConfig}
use Rattle.word_map.specs.Names.{IsName}
use Rattle.core_state.specs.Names.{same_name}
use Rattle.core_state.specs.Log.{word, word_after, opening_word}
use Rattle.core_state.specs.Operation.{Operation, load, store, exchange, compare_exchange, fetch_add, fetch_min, fetch_max, result_of}
use Rattle.core_state.specs.Formed.{IsSoundItem}
use Rattle.core_state.specs.declared.item.Item.{Item}

abbrev Fits : ℕ → Type 0
Fits n = n < 2 ^ 64

-- one of two numbers that fit
Fits-cond : (test : Bool) (a b : ℕ) → Fits a → Fits b → Fits (cond test a b)
Fits-cond true a b h k = h
Fits-cond false a b h k = k

opening_word-fits : (c : Config) (name : Name) → IsConfig c → IsName c name → Fits (opening_word c name)
opening_word-fits c SlotHead sizes named = omega arith
opening_word-fits c (SlotNext i) sizes named = Fits-cond _ 0 (2 + i) (omega arith) (let most = sizes.bodies in omega arith)
opening_word-fits c (BoxWord i k) sizes named = omega arith
opening_word-fits c (Bound n b k) sizes named = Fits-cond _ 33554432 0 (omega arith) (omega arith)
opening_word-fits c PoolHead sizes named = omega arith
opening_word-fits c (PoolNext n) sizes named = Fits-cond _ 0 (2 + n) (omega arith) (let most = sizes.nodes in omega arith)
opening_word-fits c PoolFree sizes named = let most = sizes.nodes in omega arith
opening_word-fits c _ sizes named = omega arith

fold-fits : (c : Config) (name : Name) (before : ℕ) (log : List Item) → All (IsSoundItem c) log → Fits before → Fits (fold (word_after name) before log)
fold-fits c name before [] sound fits = fits
fold-fits c name before (item ∷ log) sound fits =
    let first = All-head (IsSoundItem c) item log sound in
    fold-fits c name (word_after name before item) log (All-tail (IsSoundItem c) item log sound) (Fits-cond (same_name item.name name) item.value before first.fits fits)

pub word-fits : (c : Config) (log : List Item) (name : Name) → IsConfig c → All (IsSoundItem c) log → IsName c name → word c log name < 2 ^ 64
word-fits c log name sizes sound named = fold-fits c name (opening_word c name) log sound (opening_word-fits c name sizes named)

-- what an operation leaves fits, where the word found and the operands do
pub result_of-fits : (operation : Operation) (found first second : ℕ) → found < 2 ^ 64 → first < 2 ^ 64 → second < 2 ^ 64 → result_of operation found first second < 2 ^ 64
result_of-fits load found first second f a b = f
result_of-fits store found first second f a b = a
result_of-fits exchange found first second f a b = a
result_of-fits compare_exchange found first second f a b = Fits-cond _ second found b f
result_of-fits fetch_add found first second f a b = omega arith
result_of-fits fetch_min found first second f a b = omega arith
result_of-fits fetch_max found first second f a b = omega arith
