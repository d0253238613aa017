-- The bits of a lock word are those of its holders: no two of them have one bit.
use Rattle.std.proofs.Common.{◌≡◌, ◌≢◌, ◌↔◌, ℕ, zero, suc, ◌+◌, ◌/◌, ◌%◌, ◌^◌, ◌<◌, List, [], ◌∷◌, Option, Some, None, refl, ap, sym, ◌∙◌, subst, inl, inr, arith}
use Rattle.std.specs.Prelude.{sum_by}
use Rattle.std.specs.Int.{bit_at}
use Rattle.std.proofs.lemmas.Bool.{cases_eq}
use Rattle.std.proofs.lemmas.Option.{none-some, same_Some}
use Rattle.std.proofs.lemmas.Nat.Bits.{bit_at_lowest, bit_at-suc, bit_at-zero, bit_at-lt}
use Rattle.std.proofs.lemmas.List.Sums.{sum_by-cons}
use mathlib.Core.Option.{some, some-injective, some-ne-none}
use lib.ListN.{get_elem?}
use Rattle.word_map.specs.declared.name.Name.TheVariants.{Lock}
use Rattle.core_state.specs.declared.view.Mode.{Mode}
use Rattle.core_state.specs.declared.view.Mode.TheVariants.{Read, Write}
use Rattle.core_state.specs.declared.view.Role.{Role}
use Rattle.core_state.specs.declared.view.Role.TheVariants.{Pass, Visitor, Spent}
use Rattle.core_state.specs.declared.view.View.{View}
use Rattle.core_state.specs.View.{number_in, number_of, mode_of, IsPass}
use Rattle.core_state.specs.Core.{Core, word_of, IsViewAt}
use Rattle.core_state.specs.Formed.{AreApart, IsFormed}
use Rattle.core_state.specs.Locking.{bit_of}
use Rattle.core_state.specs.LocksAgree.{LocksAgree, IsHeldBy, bit_if}
use Rattle.core_state.proofs.Forming.{pass_role, pass_below, unspent_pass}
use Rattle.core_state.proofs.Guarding.{adds, lock-word}

-- ---- one bit more

-- a power of two, added to a number without that bit, sets it and leaves the others
bit_at-add_same : (k m : ℕ) → bit_at m k ≡ 0 → bit_at (2 ^ k + m) k ≡ 1
bit_at-add_same zero m none =
    let low = bit_at_lowest m in
    let sum = bit_at_lowest (1 + m) in
    omega arith
bit_at-add_same (suc k) m none =
    let half : (2 ^ suc k + m) / 2 ≡ 2 ^ k + m / 2 = omega arith in
    bit_at-suc (2 ^ suc k + m) k ∙ (ap (λ (n : ℕ). bit_at n k) half ∙ bit_at-add_same k (m / 2) (sym (bit_at-suc m k) ∙ none))

bit_at-add_other : (k i m : ℕ) → bit_at m k ≡ 0 → i ≢ k → bit_at (2 ^ k + m) i ≡ bit_at m i
bit_at-add_other zero zero m none ne = absurd (ne refl)
bit_at-add_other zero (suc i) m none ne =
    let low = bit_at_lowest m in
    let half : (1 + m) / 2 ≡ m / 2 = omega arith in
    bit_at-suc (1 + m) i ∙ (ap (λ (n : ℕ). bit_at n i) half ∙ sym (bit_at-suc m i))
bit_at-add_other (suc k) zero m none ne =
    let low : (2 ^ suc k + m) % 2 ≡ m % 2 = omega arith in
    bit_at_lowest (2 ^ suc k + m) ∙ (low ∙ sym (bit_at_lowest m))
bit_at-add_other (suc k) (suc i) m none ne =
    let half : (2 ^ suc k + m) / 2 ≡ 2 ^ k + m / 2 = omega arith in
    bit_at-suc (2 ^ suc k + m) i ∙
    (ap (λ (n : ℕ). bit_at n i) half ∙
    (bit_at-add_other k i (m / 2) (sym (bit_at-suc m k) ∙ none) (λ e. ne (ap suc e)) ∙ sym (bit_at-suc m i)))

-- ---- the bits of holders

-- the bit of a pass that holds a lock
abbrev pub exponent : ℕ → Mode → ℕ
exponent number Read = number
exponent number Write = 32 + number

abbrev exponent_if : Option ℕ → Option Mode → Option ℕ
exponent_if (Some number) (Some mode) = Some (exponent number mode)
exponent_if _ _ = None

abbrev exponent_of : ℕ → View → Option ℕ
exponent_of lock view = exponent_if (number_of view) (mode_of view.locks lock)

adds-bit : (lock : ℕ) (view : View) (role : Role) → view.role ≡ role → adds lock view ≡ bit_if (number_in role) (mode_of view.locks lock)
adds-bit lock view (Pass number further) e = rw e refl
adds-bit lock view Visitor e = rw e refl
adds-bit lock view Spent e = rw e refl

bit_if-none : (number : Option ℕ) (mode : Option Mode) → exponent_if number mode ≡ None → bit_if number mode ≡ 0
bit_if-none None mode e = refl
bit_if-none (Some number) None e = refl
bit_if-none (Some number) (Some mode) e = absurd (none-some (exponent number mode) (sym e))

bit_of-exponent : (number : ℕ) (mode : Mode) → bit_of number mode ≡ 2 ^ exponent number mode
bit_of-exponent number Read = refl
bit_of-exponent number Write = refl

bit_if-some : (number : Option ℕ) (mode : Option Mode) (k : ℕ) → exponent_if number mode ≡ Some k → bit_if number mode ≡ 2 ^ k
bit_if-some None mode k e = absurd (none-some k e)
bit_if-some (Some number) None k e = absurd (none-some k e)
bit_if-some (Some number) (Some mode) k e = bit_of-exponent number mode ∙ ap (λ (n : ℕ). 2 ^ n) (same_Some _ k e)

-- ---- the word of a lock, over the seats

-- some seat's pass has the bit
abbrev Sets : ℕ → List View → ℕ → Type 0
Sets lock views k = (seat : ℕ) × (view : View) × (get_elem? views seat ≡ some view) × (exponent_of lock view ≡ Some k)

-- no two seats have one bit
abbrev AreOwn : ℕ → List View → Type 0
AreOwn lock views = (i j k : ℕ) (v w : View) → i ≢ j → get_elem? views i ≡ some v → get_elem? views j ≡ some w → exponent_of lock v ≡ Some k → exponent_of lock w ≡ Some k → ⊥

-- what the first view does to a bit of the sum of the others
bits_first : (lock k : ℕ) (view : View) (views : List View) (o : Option ℕ) → exponent_of lock view ≡ o → AreOwn lock (view ∷ views)
    → ((j : ℕ) → (bit_at (sum_by (adds lock) views) j ≡ 1) ↔ Sets lock views j) → (bit_at (sum_by (adds lock) (view ∷ views)) k ≡ 1) ↔ Sets lock (view ∷ views) k
bits_first lock k view views None e own rest =
    let sum : sum_by (adds lock) (view ∷ views) ≡ sum_by (adds lock) views =
    omega (arith, sum_by-cons (adds lock) view views, adds-bit lock view view.role refl, bit_if-none (number_of view) (mode_of view.locks lock) e)
    in (
      λ h. let t = (rest k).0 (ap (λ (n : ℕ). bit_at n k) (sym sum) ∙ h) in (suc t.0, t.1, t.2, t.3),
      λ t. ap (λ (n : ℕ). bit_at n k) sum ∙ (rest k).1 (later t.0 t.1 t.2 t.3),
    )
  where
    later : (seat : ℕ) (v : View) → get_elem? (view ∷ views) seat ≡ some v → exponent_of lock v ≡ Some k → Sets lock views k
    later zero v at has = absurd (none-some k (sym e ∙ (ap (exponent_of lock) (some-injective view v at) ∙ has)))
    later (suc seat) v at has = (seat, v, at, has)
bits_first lock k view views (Some b) e own rest =
    let sum : sum_by (adds lock) (view ∷ views) ≡ 2 ^ b + sum_by (adds lock) views =
    sum_by-cons (adds lock) view views ∙ ap (λ (n : ℕ). n + sum_by (adds lock) views) (adds-bit lock view view.role refl ∙ bit_if-some (number_of view) (mode_of view.locks lock) b e)
    in
    let low = bit_at-lt (sum_by (adds lock) views) b in
    let clear : bit_at (sum_by (adds lock) views) b ≡ 0 =
    elim (cases_eq (bit_at (sum_by (adds lock) views) b) 1) [
      | inl one ↦ (let t = (rest b).0 one in absurd (own 0 (suc t.0) b view t.1 (omega arith) refl t.2 e t.3))
      | inr other ↦ omega arith
    ]
    in
    elim (cases_eq k b) [
      | inl same ↦ (
        λ h. (0, view, refl, e ∙ ap Some (sym same)),
        λ t. ap (λ (n : ℕ). bit_at n k) sum ∙ (ap (bit_at (2 ^ b + sum_by (adds lock) views)) same ∙ bit_at-add_same b (sum_by (adds lock) views) clear),
      )
      | inr other ↦
          let same = ap (λ (n : ℕ). bit_at n k) sum ∙ bit_at-add_other b k (sum_by (adds lock) views) clear other in (
            λ h. let t = (rest k).0 (sym same ∙ h) in (suc t.0, t.1, t.2, t.3),
            λ t. same ∙ (rest k).1 (later other t.0 t.1 t.2 t.3),
          )
    ]
  where
    later : k ≢ b → (seat : ℕ) (v : View) → get_elem? (view ∷ views) seat ≡ some v → exponent_of lock v ≡ Some k → Sets lock views k
    later other zero v at has = absurd (other (same_Some k b (sym has ∙ (ap (exponent_of lock) (sym (some-injective view v at)) ∙ e))))
    later other (suc seat) v at has = (seat, v, at, has)

bits_sum : (lock k : ℕ) (views : List View) → AreOwn lock views → (bit_at (sum_by (adds lock) views) k ≡ 1) ↔ Sets lock views k
bits_sum lock k [] own = (λ h. absurd (zero_one (sym (bit_at-zero k) ∙ h)), λ t. absurd (some-ne-none t.1 (sym t.2)))
  where
    zero_one : ◌≡◌ {A = ℕ} 0 1 → ⊥
    zero_one e = omega arith
bits_sum lock k (view ∷ views) own =
    bits_first lock k view views (exponent_of lock view) refl own
    (λ j. bits_sum lock j views (λ a b c v w ne at other. own (suc a) (suc b) c v w (λ e. ne (omega arith)) at other))

-- ---- in a core

-- what a bit says of the view that sets it
exponent_parts : (number : Option ℕ) (mode : Option Mode) (k : ℕ) → exponent_if number mode ≡ Some k → (n : ℕ) × (m : Mode) × (number ≡ Some n) × (mode ≡ Some m) × (exponent n m ≡ k)
exponent_parts None mode k e = absurd (none-some k e)
exponent_parts (Some n) None k e = absurd (none-some k e)
exponent_parts (Some n) (Some m) k e = (n, m, refl, refl, same_Some _ k e)

-- of numbers below 32 the bits are those of readers and writers
exponent_apart : (n m : ℕ) (a b : Mode) (k : ℕ) → n < 32 → m < 32 → n ≢ m → exponent n a ≡ k → exponent m b ≡ k → ⊥
exponent_apart n m Read Read k p q ne e f = ne (e ∙ sym f)
exponent_apart n m Read Write k p q ne e f = omega arith
exponent_apart n m Write Read k p q ne e f = omega arith
exponent_apart n m Write Write k p q ne e f = ne (omega arith)

exponent-same : (n m : ℕ) (a b : Mode) → n < 32 → m < 32 → exponent n a ≡ exponent m b → (n ≡ m) × (a ≡ b)
exponent-same n m Read Read p q e = (e, refl)
exponent-same n m Read Write p q e = absurd (omega arith)
exponent-same n m Write Read p q e = absurd (omega arith)
exponent-same n m Write Write p q e = (omega arith, refl)

module _ (core : Core) (formed : IsFormed core) where
  below : (seat number : ℕ) (view : View) → IsViewAt core seat view → IsPass view number → number < 32
  below seat number view at pass =
      let sound = formed.views seat view at (unspent_pass view.role number pass) in
      let less = pass_below core.config.passes number view.role pass sound.numbers in
      let most = formed.sizes.passes in
      omega arith

  numbers_apart : (i j n m : ℕ) (v w : View) → i ≢ j → IsViewAt core i v → IsViewAt core j w → IsPass v n → IsPass w m → n ≢ m
  numbers_apart i j n m v w ne at other p q same =
      let a = pass_role v.role n p in
      let b = pass_role w.role m q in
      let apart = subst (λ (r : Role). AreApart (Pass n a.0) r) b.1 (subst (λ (r : Role). AreApart r w.role) a.1 (formed.apart i j v w at other ne)) in
      elim apart [ inl less ↦ omega arith | inr less ↦ omega arith ]

  own_bits : (lock : ℕ) → AreOwn lock core.views
  own_bits lock i j k v w ne at other e f =
      let a = exponent_parts (number_of v) (mode_of v.locks lock) k e in
      let b = exponent_parts (number_of w) (mode_of w.locks lock) k f in
      exponent_apart a.0 b.0 a.1 b.1 k (below i a.0 v at a.2) (below j b.0 w other b.2) (numbers_apart i j a.0 b.0 v w ne at other a.2 b.2) a.4 b.4

  -- a bit is set exactly where its pass holds the lock so
  bit-held : (lock number : ℕ) (mode : Mode) → number < 32 → LocksAgree core → (bit_at (word_of core (Lock lock)) (exponent number mode) ≡ 1) ↔ IsHeldBy core lock number mode
  bit-held lock number mode less agree =
      let word = lock-word core lock agree in
      let sum = bits_sum lock (exponent number mode) core.views (own_bits lock) in (
        λ h. let t = sum.0 (ap (λ (n : ℕ). bit_at n (exponent number mode)) (sym word) ∙ h) in
            let a = exponent_parts (number_of t.1) (mode_of t.1.locks lock) (exponent number mode) t.3 in
            let same = exponent-same a.0 number a.1 mode (below t.0 a.0 t.1 t.2 a.2) less a.4 in
            (t.0, t.1, t.2, a.2 ∙ ap Some same.0, a.3 ∙ ap Some same.1),
        λ t. ap (λ (n : ℕ). bit_at n (exponent number mode)) word ∙ sum.1 (t.0, t.1, t.2, rw (t.3, t.4) refl),
      )

pub lock_bits : (core : Core) (lock number : ℕ) → IsFormed core → LocksAgree core → number < 32 →
    ((bit_at (word_of core (Lock lock)) number ≡ 1) ↔ IsHeldBy core lock number Read) × ((bit_at (word_of core (Lock lock)) (32 + number) ≡ 1) ↔ IsHeldBy core lock number Write)
lock_bits core lock number formed agree less = (bit-held core formed lock number Read less agree, bit-held core formed lock number Write less agree)
