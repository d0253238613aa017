-- Bounds that are read in part: a side more, and the sixth, after which a bound that has to touch the shape passes the test.
use Rattle.std.proofs.Common.{◌≡◌, ℕ, ◌+◌, ◌<◌, List, [], ◌∷◌, ◌++◌, length, refl, ap, sym, ◌∙◌, inl, inr, arith}
use Rattle.std.specs.Prelude.{nat_lt, slice_index}
use Rattle.std.proofs.lemmas.Bool.{cases_lt, cond-true, cond-false}
use Rattle.std.proofs.lemmas.Bool.Decides.{nat_tests}
use Rattle.std.proofs.lemmas.List.{length_push, get_or_push, get_or_append_left}
use Rattle.fixed_box.specs.FixBox.{words_of}
use Rattle.fixed_box.specs.Touch.{Touch}
use Rattle.fixed_box.specs.declared.fix_box.FixBox.{FixBox}
use Rattle.word_map.specs.declared.name.Name.{Name}
use Rattle.word_map.specs.declared.name.Name.TheVariants.{Bound}
use Rattle.core_state.specs.declared.item.Load.{Load}
use Rattle.core_state.specs.declared.view.Walk.{Walk}
use Rattle.core_state.specs.Core.{Core}
use Rattle.core_state.specs.Encoding.{Sides, sides_of, IsBox, Covers, bound_in}
use Rattle.core_state.specs.Scope.{word_in}
use Rattle.core_state.specs.Walking.{Query}
use Rattle.core_state.specs.WalksLead.{walk_scope, HoldsOne, begun_bound, mixed, IsReadInPart}
use Rattle.core_guard.proofs.Leaving.{covers-more}
use Rattle.core_query.proofs.Touching.{Passes, six-pass}

-- ---- bounds that are read in part

-- with a side more of those that stand they are the same
module _ (read : List ℕ) (value : ℕ) (now : Sides) (is : value ≡ now (length read)) where
  -- on each side
  pub mixed-more : (q : ℕ) → mixed (read ++ value ∷ []) now q ≡ mixed read now q
  mixed-more q =
      let long = length_push read value in
      elim (cases_lt q (length read)) [
        | inl less ↦
            cond-true (nat_lt q (length (read ++ value ∷ []))) _ _ (grind (arith, nat_tests)) ∙ (get_or_append_left read (value ∷ []) 0 q less ∙ sym (cond-true (nat_lt q (length read)) _ _ (grind (arith, nat_tests))))
        | inr more ↦ elim (cases_lt (length read) q) [
          | inl after ↦ cond-false (nat_lt q (length (read ++ value ∷ []))) _ _ (grind (arith, nat_tests)) ∙ sym (cond-false (nat_lt q (length read)) _ _ (grind (arith, nat_tests)))
          | inr until ↦
              let same : length read ≡ q = omega arith in
              cond-true (nat_lt q (length (read ++ value ∷ []))) _ _ (grind (arith, nat_tests)) ∙
              (get_or_push read value 0 q same ∙ (is ∙ (ap now same ∙ sym (cond-false (nat_lt q (length read)) _ _ (grind (arith, nat_tests))))))
        ]
      ]

-- without one they are what stands, and with all sides what was read
pub mixed-nothing : (now : Sides) (q : ℕ) → mixed [] now q ≡ now q
mixed-nothing now q = cond-false (nat_lt q 0) _ _ (grind (arith, nat_tests))

-- of all sides that were read
mixed-all : (read : List ℕ) (now : Sides) (q : ℕ) → q < length read → mixed read now q ≡ slice_index read q
mixed-all read now q less = cond-true (nat_lt q (length read)) _ _ (grind (arith, nat_tests))

-- ---- boxes by their six sides

-- the same six sides
abbrev pub SameSides : Sides → Sides → Type 0
SameSides a b = (q : ℕ) → q < 6 → a q ≡ b q

-- of the same sides all is the same
pub same-covers : (a b c d : Sides) → SameSides a c → SameSides b d → Covers a b → Covers c d
same-covers a b c d outer inner h q low =
    let t = h q low in
    let x = outer q (omega arith) in
    let y = inner q (omega arith) in
    let z = outer (3 + q) (omega arith) in
    let w = inner (3 + q) (omega arith) in
    (omega (arith, t), omega (arith, t))

-- and so is that they are a box
pub same-box : (a b : Sides) → SameSides a b → IsBox a → IsBox b
same-box a b same h q low =
    let t = h q low in
    let x = same q (omega arith) in
    let z = same (3 + q) (omega arith) in
    (omega (arith, t), omega (arith, t), omega (arith, t))

-- ---- a walk and one load more

-- the bound that a walk notes with a load is the one that stood when its first side was read
abbrev pub KeepsBegun : (Name → ℕ) → Walk → Load → List ℕ → Type 0
KeepsBegun word walk new bound = (n k : ℕ) (read : List ℕ) → Bound n k (length read) ≡ new.name → SameSides (begun_bound word walk n k read) (sides_of bound)

-- a walk with a load more, and the bound that it notes
abbrev pub longer_walk : Walk → Load → List ℕ → Walk
longer_walk walk new bound = record walk { loads = walk.loads ++ new ∷ []; bound = bound }

-- with a side read, the bound that it notes is the one that stood
pub begun-more : (word : Name → ℕ) (walk : Walk) (new : Load) (bound : List ℕ) (n k : ℕ) (read : List ℕ) → begun_bound word (longer_walk walk new bound) n k (read ++ new.value ∷ []) ≡ sides_of bound
begun-more word walk new bound n k [] = refl
begun-more word walk new bound n k (side ∷ read) = refl

module _ (core : Core) (query : Query) (walk : Walk) (new : Load) (bound : List ℕ) (begun : KeepsBegun (word_in walk_scope core) walk new bound) where
  abbrev V : Name → ℕ
  V = word_in walk_scope core

  abbrev Later : Walk
  Later = longer_walk walk new bound

  -- ---- the bound that is being read

  -- which has the sides that it had before
  pub begun-same : (n k : ℕ) (read : List ℕ) → Bound n k (length read) ≡ new.name → SameSides (begun_bound V walk n k read) (begun_bound V Later n k (read ++ new.value ∷ []))
  begun-same n k read next q low = begun n k read next q low ∙ ap (λ (s : Sides). s q) (sym (begun-more V walk new bound n k read))

  module _ (n k x : ℕ) (read : List ℕ) (next : Bound n k (length read) ≡ new.name) (value : new.value ≡ V (Bound n k (length read))) (h : IsReadInPart V walk n k x read) where
    abbrev More : List ℕ
    More = read ++ new.value ∷ []

    -- the bound that is read in part has them too
    now-same : SameSides (mixed read (bound_in V n k)) (mixed More (bound_in V n k))
    now-same q low = sym (mixed-more read new.value (bound_in V n k) value q)

    -- so it is read in part, with a side more
    pub read-more : IsReadInPart V Later n k x More
    read-more = record {
      box = h.box;
      begun_box = same-box (begun_bound V walk n k read) (begun_bound V Later n k More) (begun-same n k read next) h.begun_box;
      now = same-covers (bound_in V n k) (mixed read (bound_in V n k)) (bound_in V n k) (mixed More (bound_in V n k)) (λ q low. refl) now-same h.now;
      begun = same-covers (mixed read (bound_in V n k)) (begun_bound V walk n k read) (mixed More (bound_in V n k)) (begun_bound V Later n k More) now-same (begun-same n k read next) h.begun;
      child = h.child;
    }

    -- read to the end it is a box that contains the one that stood when its first side was read
    module _ (all : length More ≡ 6) where
      -- the six sides that were read
      sides-same : SameSides (mixed read (bound_in V n k)) (sides_of More)
      sides-same q low = now-same q low ∙ mixed-all More (bound_in V n k) q (omega arith)

      -- they are a box between the one that stands and the one that stood
      read-box : IsBox (sides_of More)
      read-box =
          same-box (mixed read (bound_in V n k)) (sides_of More) sides-same
          (λ q low. let out = h.box q low in let in_ = h.begun_box q low in let x = h.now q low in let y = h.begun q low in (omega arith, omega arith, omega arith))

      -- it passes the test where that one contains a box that touches the shape
      pub all-pass : (Had : Sides → Type 0) → ((box : Sides) → Had box → (inner : FixBox) × Touch query.shape inner × (box ≡ sides_of (words_of inner))) → HoldsOne Had (begun_bound V walk n k read) → Passes query More
      all-pass Had touching holds =
          let t = touching holds.0 holds.1 in
          let covers = covers-more (mixed read (bound_in V n k)) (begun_bound V walk n k read) holds.0 h.begun holds.2 in
          six-pass query More all read-box t.0 t.1
          (same-covers (mixed read (bound_in V n k)) holds.0 (sides_of More) (sides_of (words_of t.0)) sides-same (λ q low. ap (λ (s : Sides). s q) t.2) covers)
