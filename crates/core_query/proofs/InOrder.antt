-- A query reads slots and main words alone, each once, and of each layer the main word last.
use Rattle.std.proofs.Common.{◌≡◌, ◌≢◌, ℕ, zero, suc, ◌+◌, ◌<◌, ◌≤◌, Bool, List, [], ◌∷◌, ◌++◌, ap, sym, ◌∙◌, subst, inl, inr, arith, append_assoc}
use Rattle.std.specs.Prelude.{Some, Contains, flat_map, filter, map, ◌==◌, ⊤}
use Rattle.std.specs.Int.{bit_at}
use Rattle.std.specs.List.{range_with_len}
use Rattle.std.proofs.lemmas.Bool.{cond_both}
use Rattle.std.proofs.lemmas.Option.{same_Some}
use Rattle.std.proofs.lemmas.List.Elements.{Contains-append_right, Contains-append_cases}
use Rattle.word_map.specs.declared.config.Config.{Config}
use Rattle.word_map.specs.declared.name.Name.{Name}
use Rattle.word_map.specs.declared.name.Name.TheVariants.{Main, Slot}
use Rattle.core_state.specs.Encoding.{layer_of}
use Rattle.core_state.specs.Walking.{words_of_layer, asked_words}
use Rattle.core_state.proofs.Beginning.{cases_cons, contains_first}
use Rattle.core_state.proofs.Opening.{none_in, only}

-- what follows a word that is read: never itself; after a slot the main word of its layer, after a main word nothing of it
abbrev pub IsNext : Name → List Name → Type 0
IsNext (Main l) rest = (name : Name) → Contains rest name → layer_of name ≢ Some l
IsNext (Slot l t) rest = (¬ Contains rest (Slot l t)) × Contains rest (Main l)
IsNext _ rest = ⊥

-- so of each word that is still to be read
abbrev pub InOrder : List Name → Type 0
InOrder [] = ⊤
InOrder (name ∷ rest) = IsNext name rest × InOrder rest

-- such a word has a layer, and does not come again
pub next-once : (name : Name) (rest : List Name) → IsNext name rest → ((l : ℕ) × (layer_of name ≡ Some l)) × ¬ Contains rest name
next-once (Main l) rest next = ((l, λ i. Some l), λ again. next (Main l) again (λ i. Some l))
next-once (Slot l t) rest next = ((l, λ i. Some l), next.0)
next-once _ rest next = absurd next

-- so where a slot is still to be read, its main word is too
pub order-main_last : (names : List Name) → InOrder names → (l t : ℕ) → Contains names (Slot l t) → Contains names (Main l)
order-main_last [] order l t h = absurd (none_in (Slot l t) h)
order-main_last (name ∷ rest) order l t h =
    elim (cases_cons name rest (Slot l t) h) [
      | inl same ↦ Contains-append_right (name ∷ []) rest (Main l) (subst (λ (n : Name). IsNext n rest) same order.0).1
      | inr later ↦ Contains-append_right (name ∷ []) rest (Main l) (order-main_last rest order.1 l t later)
    ]

-- ---- numbers that ascend

-- each number is above those before it
abbrev Ascend : List ℕ → Type 0
Ascend [] = ⊤
Ascend (x ∷ xs) = ((y : ℕ) → Contains xs y → x < y) × Ascend xs

-- a range has no number below the first
range-from : (a n x : ℕ) → Contains (range_with_len a n) x → a ≤ x
range-from a zero x h = absurd (none_in x h)
range-from a (suc n) x h = elim (cases_cons a (range_with_len (a + 1) n) x h) [ inl same ↦ omega arith | inr later ↦ let low = range-from (a + 1) n x later in omega arith ]

-- and ascends
range-ascends : (a n : ℕ) → Ascend (range_with_len a n)
range-ascends a zero = tt
range-ascends a (suc n) = (λ y h. let low = range-from (a + 1) n y h in omega arith, range-ascends (a + 1) n)

-- what is kept of numbers was among them
filter-among : (p : ℕ → Bool) (xs : List ℕ) (x : ℕ) → Contains (filter p xs) x → Contains xs x
filter-among p [] x h = h
filter-among p (y ∷ xs) x h =
    cond_both (p y) (y ∷ filter p xs) (filter p xs) (λ (l : List ℕ). Contains l x → Contains (y ∷ xs) x)
    (λ passes among.
    elim (cases_cons y (filter p xs) x among) [
      | inl same ↦ subst (Contains (y ∷ xs)) same (contains_first y xs)
      | inr later ↦ Contains-append_right (y ∷ []) xs x (filter-among p xs x later)
    ])
    (λ fails among. Contains-append_right (y ∷ []) xs x (filter-among p xs x among)) h

-- and ascends where they do
filter-ascends : (p : ℕ → Bool) (xs : List ℕ) → Ascend xs → Ascend (filter p xs)
filter-ascends p [] h = h
filter-ascends p (x ∷ xs) h =
    cond_both (p x) (x ∷ filter p xs) (filter p xs) (λ (l : List ℕ). Ascend l) (λ passes. (λ y among. h.0 y (filter-among p xs y among), filter-ascends p xs h.1)) (λ fails. filter-ascends p xs h.1)

-- ---- the words of layers

-- which slots are read of a layer
slot-among : (layer : ℕ) (ts : List ℕ) (name : Name) → Contains (map (Slot layer) ts) name → (t : ℕ) × Contains ts t × (Slot layer t ≡ name)
slot-among layer [] name h = absurd (none_in name h)
slot-among layer (t ∷ ts) name h =
    elim (cases_cons (Slot layer t) (map (Slot layer) ts) name h) [
      | inl same ↦ (t, contains_first t ts, same)
      | inr later ↦ let s = slot-among layer ts name later in (s.0, Contains-append_right (t ∷ []) ts s.0 s.1, s.2)
    ]

-- the words of a layer have that layer
layer-word : (c : Config) (layer : ℕ) (name : Name) → Contains (words_of_layer c layer) name → layer_of name ≡ Some layer
layer-word c layer name h =
    elim (Contains-append_cases (map (Slot layer) (range_with_len 0 c.slots)) (Main layer ∷ []) name h) [
      | inl slot ↦ let s = slot-among layer (range_with_len 0 c.slots) name slot in ap layer_of (sym s.2)
      | inr main ↦ ap layer_of (sym (only (Main layer) name main))
    ]

-- those of several layers have one of them
layers-word : (c : Config) (layers : List ℕ) (name : Name) → Contains (flat_map (words_of_layer c) layers) name → (l : ℕ) × Contains layers l × (layer_of name ≡ Some l)
layers-word c [] name h = absurd (none_in name h)
layers-word c (layer ∷ layers) name h =
    elim (Contains-append_cases (words_of_layer c layer) (flat_map (words_of_layer c) layers) name h) [
      | inl first ↦ (layer, contains_first layer layers, layer-word c layer name first)
      | inr later ↦ let t = layers-word c layers name later in (t.0, Contains-append_right (layer ∷ []) layers t.0 t.1, t.2)
    ]

-- slots that ascend, before words in order of which the main word is one
slots-in-order : (layer : ℕ) (ts : List ℕ) (more : List Name) → Ascend ts → ((t : ℕ) → ¬ Contains more (Slot layer t)) → Contains more (Main layer) → InOrder more
    → InOrder (map (Slot layer) ts ++ more)
slots-in-order layer [] more ascend none main h = h
slots-in-order layer (t ∷ ts) more ascend none main h = (
  (
    λ again.
        elim (Contains-append_cases (map (Slot layer) ts) more (Slot layer t) again) [
          | inl slot ↦
              let s = slot-among layer ts (Slot layer t) slot in
              let same = same_slot s.0 t s.2 in
              let less = ascend.0 s.0 s.1 in
              omega arith
          | inr later ↦ none t later
        ],
    Contains-append_right (map (Slot layer) ts) more (Main layer) main,
  ),
  slots-in-order layer ts more ascend.1 none main h,
)
  where
    same_slot : (x y : ℕ) → Slot layer x ≡ Slot layer y → x ≡ y
    same_slot x y e = cc

-- the words of layers that ascend
layers-in-order : (c : Config) (layers : List ℕ) → Ascend layers → InOrder (flat_map (words_of_layer c) layers)
layers-in-order c [] ascend = tt
layers-in-order c (layer ∷ layers) ascend =
    let later : List Name = flat_map (words_of_layer c) layers in
    let apart : (name : Name) → Contains later name → layer_of name ≢ Some layer =
    λ name among e.
    let t = layers-word c layers name among in
    let less = ascend.0 t.0 t.1 in
    let same = same_Some t.0 layer (sym t.2 ∙ e) in
    omega arith
    in
    subst InOrder (sym (append_assoc (map (Slot layer) (range_with_len 0 c.slots)) (Main layer ∷ []) later))
    (slots-in-order layer (range_with_len 0 c.slots) (Main layer ∷ later) (range-ascends 0 c.slots)
    (λ t among. elim (cases_cons (Main layer) later (Slot layer t) among) [ inl same ↦ absurd cc | inr more ↦ apart (Slot layer t) more (λ i. Some layer) ])
    (contains_first (Main layer) later) (apart, layers-in-order c layers ascend.1))

-- and so all that a query reads
pub asked-in-order : (c : Config) (mask : ℕ) → InOrder (asked_words c mask)
asked-in-order c mask = layers-in-order c (filter (λ l. bit_at mask l == 1) (range_with_len 0 c.layers)) (filter-ascends (λ l. bit_at mask l == 1) (range_with_len 0 c.layers) (range-ascends 0 c.layers))
