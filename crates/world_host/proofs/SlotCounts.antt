-- How many slots are taken after one of them got another word.
use Rattle.std.proofs.Common.{◌≡◌, ◌≢◌, ℕ, zero, suc, ◌+◌, ◌<◌, ◌≤◌, Bool, true, false, cond, inl, inr, refl, ap, sym, ◌∙◌, arith}
use Rattle.std.specs.Prelude.{sum_by, nat_lt}
use Rattle.std.specs.List.{range_with_len}
use Rattle.std.proofs.lemmas.Bool.{cases_eq, lt-ltb}
use Rattle.std.proofs.lemmas.List.Sums.{sum_by-cons}
use Rattle.word_map.specs.declared.config.Config.{Config}
use Rattle.word_map.specs.declared.name.Name.{Name}
use Rattle.word_map.specs.declared.name.Name.TheVariants.{Slot}
use Rattle.core_state.specs.declared.view.View.{View}
use Rattle.core_state.specs.Names.{code_of, same_name}
use Rattle.core_state.specs.View.{known_word}
use Rattle.core_state.proofs.SameNames.{same_name-refl, same_name-other}
use Rattle.world_host.specs.Rooms.{slots_taken}

-- ---- sums over numbers where two functions differ at one of them

module _ (f g : ℕ → ℕ) (at : ℕ) (same : (t : ℕ) → t ≢ at → g t ≡ f t) where
  past : (from len : ℕ) → at < from → sum_by g (range_with_len from len) ≡ sum_by f (range_with_len from len)
  past from zero below = refl
  past from (suc len) below =
      let one = same from (λ e. absurd (omega arith)) in
      let rest = past (from + 1) len (omega arith) in
      let a = sum_by-cons f from (range_with_len (from + 1) len) in
      let b = sum_by-cons g from (range_with_len (from + 1) len) in
      omega (arith, one, rest, a, b)

  pub sums-differ : (from len : ℕ) → from ≤ at → at < from + len → sum_by g (range_with_len from len) + f at ≡ sum_by f (range_with_len from len) + g at
  sums-differ from zero low high = absurd (omega arith)
  sums-differ from (suc len) low high =
      let a = sum_by-cons f from (range_with_len (from + 1) len) in
      let b = sum_by-cons g from (range_with_len (from + 1) len) in
      elim (cases_eq from at) [
        | inl is ↦
            let rest = past (from + 1) len (omega arith) in
            let own = ap f is in
            let other = ap g is in
            omega (arith, rest, a, b, own, other)
        | inr apart ↦
            let one = same from apart in
            let rest = sums-differ (from + 1) len (omega arith) (omega arith) in
            omega (arith, one, rest, a, b)
      ]

-- ---- sums of ones

module _ (f : ℕ → ℕ) (few : (t : ℕ) → f t ≤ 1) where
  most : (from len : ℕ) → sum_by f (range_with_len from len) ≤ len
  most from zero = omega arith
  most from (suc len) =
      let a = sum_by-cons f from (range_with_len (from + 1) len) in
      omega (arith, a, few from, most (from + 1) len)

  short : (at from len : ℕ) → f at ≡ 0 → from ≤ at → at < from + len → sum_by f (range_with_len from len) < len
  short at from zero none low high = absurd (omega arith)
  short at from (suc len) none low high =
      let a = sum_by-cons f from (range_with_len (from + 1) len) in
      elim (cases_eq from at) [
        | inl is ↦ let own = ap f is in omega (arith, a, own, none, most (from + 1) len)
        | inr apart ↦ let rest = short at (from + 1) len none (omega arith) (omega arith) in omega (arith, a, few from, rest)
      ]

every-one : (f : ℕ → ℕ) (from len : ℕ) → ((t : ℕ) → from ≤ t → t < from + len → f t ≡ 1) → sum_by f (range_with_len from len) ≡ len
every-one f from zero one = refl
every-one f from (suc len) one =
    let a = sum_by-cons f from (range_with_len (from + 1) len) in
    let own = one from (omega arith) (omega arith) in
    let rest = every-one f (from + 1) len (λ t low high. one t (omega arith) (omega arith)) in
    omega (arith, a, own, rest)

-- ---- a slot with another word

-- 1 for a word that says that the slot is taken
abbrev pub taken_by : ℕ → ℕ
taken_by value = cond (nat_lt 0 value) 1 0

pub taken-some : (value : ℕ) → 0 < value → taken_by value ≡ 1
taken-some value some = ap (λ (b : Bool). cond b 1 0) (lt-ltb 0 value some)

one-most : (b : Bool) → cond {A = ℕ} b 1 0 ≤ 1
one-most true = omega arith
one-most false = omega arith

-- where a slot is empty, not all are taken
pub empty-slot : (view : View) (layer slot : ℕ) → slot < view.config.slots → known_word view (Slot layer slot) ≡ 0 → slots_taken view layer < view.config.slots
empty-slot view layer slot below none =
    short (λ t. taken_by (known_word view (Slot layer t))) (λ t. one-most (nat_lt 0 (known_word view (Slot layer t)))) slot 0 view.config.slots (ap taken_by none) (omega arith) (omega arith)

-- where none is, all are
pub full-slots : (view : View) (layer : ℕ) → ((t : ℕ) → t < view.config.slots → 0 < known_word view (Slot layer t)) → slots_taken view layer ≡ view.config.slots
full-slots view layer full = every-one (λ t. taken_by (known_word view (Slot layer t))) 0 view.config.slots (λ t low high. taken-some (known_word view (Slot layer t)) (full t (omega arith)))

module _ (start next : View) (layer slot value : ℕ) (sizes : next.config ≡ start.config)
    (words : (l t : ℕ) → known_word next (Slot l t) ≡ cond (same_name (Slot layer slot) (Slot l t)) value (known_word start (Slot l t))) where
  word-own : known_word next (Slot layer slot) ≡ value
  word-own = words layer slot ∙ ap (λ (b : Bool). cond b value (known_word start (Slot layer slot))) (same_name-refl (Slot layer slot))

  word-other : (l t : ℕ) → Slot layer slot ≢ Slot l t → known_word next (Slot l t) ≡ known_word start (Slot l t)
  word-other l t other = words l t ∙ ap (λ (b : Bool). cond b value (known_word start (Slot l t))) (same_name-other (Slot layer slot) (Slot l t) other)

  -- the slots of its layer
  pub taken-own : slot < start.config.slots → slots_taken next layer + taken_by (known_word start (Slot layer slot)) ≡ slots_taken start layer + taken_by value
  taken-own below =
      let f : ℕ → ℕ = λ t. taken_by (known_word start (Slot layer t)) in
      let g : ℕ → ℕ = λ t. taken_by (known_word next (Slot layer t)) in
      let differ = sums-differ f g slot (λ t apart. ap taken_by (word-other layer t (λ e. apart (sym (ap (λ (n : Name). (code_of n).second) e))))) 0 start.config.slots (omega arith) (omega arith) in
      let all : slots_taken next layer ≡ sum_by g (range_with_len 0 start.config.slots) = ap (λ (c : Config). sum_by g (range_with_len 0 c.slots)) sizes in
      let own : g slot ≡ taken_by value = ap taken_by word-own in
      let before : slots_taken start layer ≡ sum_by f (range_with_len 0 start.config.slots) = refl in
      omega (arith, differ, all, own, before)

  -- those of other layers stay
  pub taken-other : (l : ℕ) → l ≢ layer → slots_taken next l ≡ slots_taken start l
  taken-other l apart =
      ap (λ (c : Config). sum_by (λ t. taken_by (known_word next (Slot l t))) (range_with_len 0 c.slots)) sizes
      ∙ (λ i. sum_by (λ t. taken_by (word-other l t (λ e. apart (sym (ap (λ (n : Name). (code_of n).first) e))) i)) (range_with_len 0 start.config.slots))
