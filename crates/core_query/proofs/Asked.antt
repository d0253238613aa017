-- The words that a query asks for: of each layer that is asked the slots and the main word.
use Rattle.std.proofs.Common.{◌≡◌, ℕ, suc, ◌+◌, ◌*◌, ◌<◌, List, [], ◌∷◌, Some, true, length, ap, sym, ◌∙◌, subst, inl, inr, arith}
use Rattle.std.specs.Prelude.{Contains, Bool, map, flat_map, filter, ◌==◌}
use Rattle.std.specs.Int.{bit_at}
use Rattle.std.specs.List.{range_with_len}
use Rattle.std.proofs.lemmas.Bool.{cases_Bool, eqb-true}
use Rattle.std.proofs.Math.Nat.{mul-suc}
use Rattle.std.proofs.lemmas.List.{length-append}
use Rattle.std.proofs.lemmas.List.Elements.{Contains-append_right, Contains-append_cases}
use Rattle.std.proofs.lemmas.List.FromFn.{length-range_with_len, get_or-range_with_len, length-map-range_with_len}
use Rattle.word_map.specs.declared.config.Config.{Config}
use Rattle.word_map.specs.declared.name.Name.{Name}
use Rattle.word_map.specs.declared.name.Name.TheVariants.{Main, Slot}
use Rattle.word_map.specs.Names.{IsName}
use Rattle.core_state.specs.Encoding.{layer_of}
use Rattle.core_state.specs.Walking.{words_of_layer, asked_words}
use Rattle.core_state.proofs.Beginning.{cases_cons, contains_first}
use Rattle.core_state.proofs.Opening.{none_in, only}
use Rattle.core_query.specs.Clear.{asked_layers}

-- ---- elements of lists that are made of others

module _ {X : Type 0} where
  pub behind : (y : X) (xs : List X) (x : X) → Contains xs x → Contains (y ∷ xs) x
  behind y xs x h = Contains-append_right (y ∷ []) xs x h

  -- what stands in a filtered list stood in the list, and passes
  pub filter-back : (p : X → Bool) (xs : List X) (x : X) → Contains (filter p xs) x → Contains xs x × (p x ≡ true)
  filter-back p [] x h = absurd (none_in x h)
  filter-back p (y ∷ xs) x h =
      elim (cases_Bool (p y)) [
        | inl test ↦ elim (cases_cons y (filter p xs) x (rw test at h)) [
          | inl first ↦ ((0, omega arith, first), ap p (sym first) ∙ test)
          | inr later ↦ let t = filter-back p xs x later in (behind y xs x t.0, t.1)
        ]
        | inr test ↦ let t = filter-back p xs x (rw test at h) in (behind y xs x t.0, t.1)
      ]

  pub map-back : {Y : Type 0} (f : X → Y) (xs : List X) (y : Y) → Contains (map f xs) y → (x : X) × Contains xs x × (f x ≡ y)
  map-back f [] y h = absurd (none_in y h)
  map-back f (z ∷ xs) y h =
      elim (cases_cons (f z) (map f xs) y h) [
        | inl first ↦ (z, contains_first z xs, first)
        | inr later ↦ let t = map-back f xs y later in (t.0, behind z xs t.0 t.1, t.2)
      ]

  pub flat-back : {Y : Type 0} (f : X → List Y) (xs : List X) (y : Y) → Contains (flat_map f xs) y → (x : X) × Contains xs x × Contains (f x) y
  flat-back f [] y h = absurd (none_in y h)
  flat-back f (z ∷ xs) y h =
      elim (Contains-append_cases (f z) (flat_map f xs) y h) [
        | inl first ↦ (z, contains_first z xs, first)
        | inr later ↦ let t = flat-back f xs y later in (t.0, behind z xs t.0 t.1, t.2)
      ]

pub range-below : (n i : ℕ) → Contains (range_with_len 0 n) i → i < n
range-below n i h =
    let len = length-range_with_len 0 n in
    let below : h.0 < n = rw (← len) h.1 in
    let at = get_or-range_with_len 0 n h.0 i below in
    let same = sym at ∙ h.2 in
    omega arith

-- ---- the words of a layer

-- a word that is asked for is of the world and of a layer that is asked
pub record IsAskedWord (c : Config) (mask : ℕ) (name : Name) : Type 0 where
  pub layer : ℕ
  pub below : layer < c.layers
  pub asked : bit_at mask layer ≡ 1
  pub of_layer : layer_of name ≡ Some layer
  pub named : IsName c name

pub layer-word : (c : Config) (l : ℕ) (name : Name) → l < c.layers → Contains (words_of_layer c l) name → (layer_of name ≡ Some l) × IsName c name
layer-word c l name below h =
    elim (Contains-append_cases (map (Slot l) (range_with_len 0 c.slots)) (Main l ∷ []) name h) [
      | inl slot ↦ let s = map-back (Slot l) (range_with_len 0 c.slots) name slot in (ap layer_of (sym s.2), subst (IsName c) s.2 (below, range-below c.slots s.0 s.1))
      | inr main ↦ let same = only (Main l) name main in (ap layer_of (sym same), subst (IsName c) same below)
    ]

pub asked-word : (c : Config) (mask : ℕ) (name : Name) → Contains (asked_words c mask) name → IsAskedWord c mask name
asked-word c mask name h =
    let l = flat-back (words_of_layer c) (asked_layers c mask) name h in
    let t = filter-back (λ layer. bit_at mask layer == 1) (range_with_len 0 c.layers) l.0 l.1 in
    let below = range-below c.layers l.0 t.0 in
    let word = layer-word c l.0 name below l.2 in
    record { layer = l.0; below = below; asked = eqb-true (bit_at mask l.0) 1 t.1; of_layer = word.0; named = word.1 }

-- ---- how many they are

layers-count : (c : Config) (layers : List ℕ) → length (flat_map (words_of_layer c) layers) ≡ (c.slots + 1) * length layers
layers-count c [] = omega arith
layers-count c (layer ∷ layers) =
    let first = length-append (map (Slot layer) (range_with_len 0 c.slots)) (Main layer ∷ []) in
    let slots = length-map-range_with_len (Slot layer) 0 c.slots in
    let all = length-append (words_of_layer c layer) (flat_map (words_of_layer c) layers) in
    let later = layers-count c layers in
    all ∙ counted (c.slots) (length layers) (length (words_of_layer c layer)) (length (flat_map (words_of_layer c) layers)) (omega arith) later
  where
    counted : (slots many one others : ℕ) → one ≡ slots + 1 → others ≡ (slots + 1) * many → one + others ≡ (slots + 1) * suc many
    counted slots many one others p q = grind (arith, mul-suc)

pub asked-count : (c : Config) (mask : ℕ) → length (asked_words c mask) ≡ (c.slots + 1) * length (asked_layers c mask)
asked-count c mask = layers-count c (asked_layers c mask)
