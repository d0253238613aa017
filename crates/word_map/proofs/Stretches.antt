-- Stretches in a row: each place has a row and an offset, and each row and offset has a place.
use Rattle.std.proofs.Common.{ℕ, zero, suc, ◌≡◌, ◌+◌, ◌-◌, ◌*◌, ◌/◌, ◌%◌, ◌<◌, ◌≤◌, inl, inr, List, [], ◌∷◌, Option, Some, None, refl, ap, subst, ◌∙◌, arith, div-add-mod', div-lt_iff_lt-mul, mod-lt}
use Rattle.std.proofs.lemmas.Bool.{cases_lt, lt-ltb, le-ltb}
use Rattle.std.proofs.lemmas.Nat.{div-mul-add, mod-mul-add, mul-add-lt}
use Rattle.word_map.specs.declared.name.Name.{Name}
use Rattle.word_map.specs.Layout.{Stretch, name_in}

-- how many words stretches have
abbrev pub total : List Stretch → ℕ
total [] = 0
total (s ∷ rest) = s.width * s.rows + total rest

-- what holds of each place of stretches that begin at a place, and of its name
abbrev pub Each : (ℕ → Name → Type 0) → List Stretch → ℕ → Type 0
Each G [] start = Unit {0}
Each G (s ∷ rest) start =
    ((i k : ℕ) → i < s.rows → k < s.width → G (start + i * s.width + k) (s.name i k)) × Each G rest (start + s.width * s.rows)

-- a place of a stretch is in a row that has words
width_pos : (place w r : ℕ) → place < w * r → 0 < w
width_pos place zero r below = absurd (grind arith)
width_pos place (suc w) r below = omega arith

-- the row of a place is one of the stretch's
row_below : (place w r : ℕ) → place < w * r → place / w < r
row_below place w r below = (div-lt_iff_lt-mul (width_pos _ _ _ below)).1 (grind arith)

-- and so of each name that is found
pub name_in-each : (G : ℕ → Name → Type 0) (ss : List Stretch) (start place : ℕ) → Each G ss start → place < total ss →
    G (start + place) (name_in ss place)
name_in-each G [] start place each below = absurd (omega arith)
name_in-each G (s ∷ rest) start place each below =
    elim (cases_lt place (s.width * s.rows)) [
      | inl here ↦
          let test = lt-ltb _ _ here in
          let row : place / s.width < s.rows = row_below _ _ _ here in
          let offset : place % s.width < s.width = mod-lt place (width_pos _ _ _ here) in
          let whole : start + place / s.width * s.width + place % s.width ≡ start + place =
          omega (arith, div-add-mod' place s.width) in
          rw test (subst (λ (q : ℕ). G q (s.name (place / s.width) (place % s.width))) whole (each.0 _ _ row offset))
      | inr past ↦
          let test = le-ltb _ _ past in
          let whole : start + s.width * s.rows + (place - s.width * s.rows) ≡ start + place = omega arith in
          rw test (subst (λ (q : ℕ). G q (name_in rest (place - s.width * s.rows))) whole
          (name_in-each G rest (start + s.width * s.rows) (place - s.width * s.rows) each.1 (omega arith)))
    ]

-- the stretch with a number, and the place that it begins at
abbrev pub stretch_at : List Stretch → ℕ → Option Stretch
stretch_at [] r = None
stretch_at (s ∷ rest) zero = Some s
stretch_at (s ∷ rest) (suc r) = stretch_at rest r

abbrev pub start_in : List Stretch → ℕ → ℕ
start_in [] r = 0
start_in (s ∷ rest) zero = 0
start_in (s ∷ rest) (suc r) = s.width * s.rows + start_in rest r

-- the name at a row and an offset of the first stretch
name_in-first : (s : Stretch) (rest : List Stretch) (i k place : ℕ) → i < s.rows → k < s.width → place ≡ 0 + i * s.width + k →
    (place < s.width * s.rows) × (name_in (s ∷ rest) place ≡ s.name i k)
name_in-first s rest i k place row offset at =
    let here : place < s.width * s.rows = omega (arith, mul-add-lt i s.width k s.rows row offset) in
    let test = lt-ltb _ _ here in
    let split : place ≡ i * s.width + k = omega arith in
    let quotient : place / s.width ≡ i = ap (λ n. n / s.width) split ∙ div-mul-add i s.width k offset in
    let remainder : place % s.width ≡ k = ap (λ n. n % s.width) split ∙ mod-mul-add i s.width k offset in
    (here, rw (test, quotient, remainder) refl)

-- the name at a row and an offset of a stretch
pub name_in-at : (ss : List Stretch) (r i k place : ℕ) (s : Stretch) → stretch_at ss r ≡ Some s → i < s.rows → k < s.width →
    place ≡ start_in ss r + i * s.width + k → (place < total ss) × (name_in ss place ≡ s.name i k)
name_in-at [] r i k place s found row offset at = absurd (cc)
name_in-at (t ∷ rest) zero i k place s found row offset at =
    let same : t ≡ s = cc in
    let first = subst (λ (u : Stretch). i < u.rows → k < u.width → place ≡ 0 + i * u.width + k →
    (place < t.width * t.rows) × (name_in (t ∷ rest) place ≡ u.name i k)) same (name_in-first t rest i k place) row offset at in
    (omega (arith, first.0), first.1)
name_in-at (t ∷ rest) (suc r) i k place s found row offset at =
    let past : t.width * t.rows ≤ place = omega arith in
    let test = le-ltb _ _ past in
    let later = name_in-at rest r i k (place - t.width * t.rows) s found row offset (omega arith) in
    (omega (arith, later.0), rw test later.1)
