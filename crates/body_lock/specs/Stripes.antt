-- Sets of stripes as bits, and the locks of a pass that holds the stripes of a set.
use Rattle.std.specs.Prelude.{◌≡◌, ℕ, zero, suc, ◌<◌, ◌≤◌, ◌==◌, Bool, true, false, if◌then◌else◌, List, [], ◌∷◌, ◌++◌, Contains}
use Rattle.std.specs.Int.{bit_at}
use Rattle.body_ident.specs.Id.{Id}
use Rattle.word_map.specs.declared.config.Config.{Config}
use Rattle.word_map.specs.Names.{stripe_of}
use Rattle.core_state.specs.declared.view.Mode.{Mode}
use Rattle.core_state.specs.declared.view.View.{View}
use Rattle.core_state.specs.View.{Holds, HoldsNot}

-- the stripe is in the set
abbrev pub has_stripe : ℕ → ℕ → Bool
has_stripe bits stripe = bit_at bits stripe == 1

-- the first stripe of the set from one on
pub record IsNext (bits from stripe : ℕ) : Type 0 where
  pub above : from ≤ stripe
  pub below : stripe < 64
  pub has : has_stripe bits stripe ≡ true
  pub first : (other : ℕ) → from ≤ other → other < stripe → has_stripe bits other ≡ false

-- there is none
abbrev pub HasNone : ℕ → ℕ → Type 0
HasNone bits from = (other : ℕ) → from ≤ other → has_stripe bits other ≡ false

-- its first stripe, and the rest of it
pub record TakesFirst (bits rest stripe : ℕ) : Type 0 where
  pub first : IsNext bits 0 stripe
  pub less : rest < bits
  pub left : (other : ℕ) → has_stripe rest other ≡ if stripe == other then false else has_stripe bits other

-- the stripes of the set below this one: each once, ascending
unfoldable pub stripes_below : ℕ → ℕ → List ℕ
stripes_below bits zero = []
stripes_below bits (suc end) = stripes_below bits end ++ (if has_stripe bits end then end ∷ [] else [])

-- the set has the stripes of these ids, and no others
pub record AreStripesOf (c : Config) (ids : List Id) (bits : ℕ) : Type 0 where
  pub all : (i : Id) → Contains ids i → has_stripe bits (stripe_of c i.index) ≡ true
  pub only : (stripe : ℕ) → has_stripe bits stripe ≡ true → (i : Id) × Contains ids i × (stripe_of c i.index ≡ stripe)

-- of all locks the pass holds just the stripes of the set below this one, in this mode
pub record HoldsBelow (view : View) (bits : ℕ) (mode : Mode) (end : ℕ) : Type 0 where
  pub held : (lock : ℕ) → lock < end → has_stripe bits lock ≡ true → Holds view lock mode
  pub later : (lock : ℕ) → end ≤ lock → HoldsNot view lock
  pub others : (lock : ℕ) → has_stripe bits lock ≡ false → HoldsNot view lock

-- all of them
pub record HoldsAll (view : View) (bits : ℕ) (mode : Mode) : Type 0 where
  pub held : (lock : ℕ) → has_stripe bits lock ≡ true → Holds view lock mode
  pub others : (lock : ℕ) → has_stripe bits lock ≡ false → HoldsNot view lock
