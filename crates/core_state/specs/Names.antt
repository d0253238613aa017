-- When two names are the same, as a test.
use Rattle.std.specs.Prelude.{ℕ, ◌==◌, ◌&&◌, Bool}
use Rattle.word_map.specs.declared.name.Name.{Name}
use Rattle.word_map.specs.declared.name.Name.TheVariants.{Lock, SlotHead, SlotNext, State, Phase, Layer, User, BoxWord, LocA, LocB, Child, Bound, Parent, PoolHead, PoolNext, PoolFree, Main, Slot, Reader, Update, Arena}

-- the kind of a name, and its numbers
pub record Code : Type 0 where
  pub kind : ℕ
  pub first : ℕ
  pub second : ℕ
  pub third : ℕ

abbrev pub coded : ℕ → ℕ → ℕ → ℕ → Code
coded kind first second third = record { kind = kind; first = first; second = second; third = third }

-- a name is told by its kind and its numbers
abbrev pub code_of : Name → Code
code_of (Lock i) = coded 0 i 0 0
code_of SlotHead = coded 1 0 0 0
code_of (SlotNext i) = coded 2 i 0 0
code_of (State i) = coded 3 i 0 0
code_of (Phase i) = coded 4 i 0 0
code_of (Layer i) = coded 5 i 0 0
code_of (User i) = coded 6 i 0 0
code_of (BoxWord i k) = coded 7 i k 0
code_of (LocA i) = coded 8 i 0 0
code_of (LocB i) = coded 9 i 0 0
code_of (Child n b) = coded 10 n b 0
code_of (Bound n b k) = coded 11 n b k
code_of (Parent n) = coded 12 n 0 0
code_of PoolHead = coded 13 0 0 0
code_of (PoolNext n) = coded 14 n 0 0
code_of PoolFree = coded 15 0 0 0
code_of (Main l) = coded 16 l 0 0
code_of (Slot l t) = coded 17 l t 0
code_of (Reader p) = coded 18 p 0 0
code_of Update = coded 19 0 0 0
code_of Arena = coded 20 0 0 0

abbrev pub same_code : Code → Code → Bool
same_code a b = a.kind == b.kind && a.first == b.first && a.second == b.second && a.third == b.third

-- whether two names are the same
abbrev pub same_name : Name → Name → Bool
same_name a b = same_code (code_of a) (code_of b)
