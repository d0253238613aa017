-- What a word is after steps that stored a value.
use Rattle.std.proofs.Common.{◌≡◌, ◌≢◌, ◌⊎◌, ℕ, ◌<◌, List, [], ◌∷◌, ◌++◌, inl, inr, refl, ap, sym, ◌∙◌, subst, arith, length, slice_index_or, append_assoc}
use Rattle.std.specs.Prelude.{fold, slice_set}
use Rattle.std.proofs.lemmas.Bool.{cases_eq}
use Rattle.std.proofs.lemmas.List.{ext_get_or, get_or-set_same, get_or-set_other, length-set}
use Rattle.std.proofs.lemmas.List.Elements.{All-head, All-tail, All-nil, All-cons}
use Rattle.std.proofs.lemmas.List.Sums.{fold-append}
use Rattle.std.proofs.lemmas.List.FromFn.{get_or-map-range_with_len, length-map-range_with_len}
use Rattle.word_map.specs.declared.config.Config.{Config}
use Rattle.word_map.specs.declared.name.Name.{Name}
use Rattle.word_map.specs.Names.{IsName}
use Rattle.word_map.specs.Layout.{name_of, place_of, word_count}
use Rattle.core_state.specs.Log.{word, word_after, words, opening_word, NoneStores, LastStores}
use Rattle.core_state.specs.declared.item.Item.{Item}
use Rattle.word_map.proofs.Places.{place_of-placed, name_of-at}
use Rattle.core_state.proofs.SameNames.{same_name-refl, same_name-other, cases_name}

-- a step that stored the name
word_after-same : (name : Name) (before : ℕ) (item : Item) → item.name ≡ name → word_after name before item ≡ item.value
word_after-same name before item same = rw (← same, same_name-refl item.name) refl

-- a step that stored another
word_after-other : (name : Name) (before : ℕ) (item : Item) → item.name ≢ name → word_after name before item ≡ before
word_after-other name before item other = rw (same_name-other item.name name other) refl

-- one step more
pub word-push : (c : Config) (log : List Item) (item : Item) (name : Name) → word c (log ++ item ∷ []) name ≡ word_after name (word c log name) item
word-push c log item name = fold-append (word_after name) (opening_word c name) log (item ∷ [])

-- the name that was stored
pub word-stored : (c : Config) (log : List Item) (item : Item) (name : Name) → item.name ≡ name → word c (log ++ item ∷ []) name ≡ item.value
word-stored c log item name same = word-push c log item name ∙ word_after-same name (word c log name) item same

-- another name
pub word-other : (c : Config) (log : List Item) (item : Item) (name : Name) → item.name ≢ name → word c (log ++ item ∷ []) name ≡ word c log name
word-other c log item name other = word-push c log item name ∙ word_after-other name (word c log name) item other

-- a name that none of these steps stored
fold-none : (name : Name) (before : ℕ) (items : List Item) → NoneStores items name → fold (word_after name) before items ≡ before
fold-none name before [] none = refl
fold-none name before (item ∷ items) none =
    let P : Item → Type 0 = λ x. x.name ≢ name in
    fold-none name (word_after name before item) items (All-tail P item items none) ∙ word_after-other name before item (All-head P item items none)

pub word-none : (c : Config) (log since : List Item) (name : Name) → NoneStores since name → word c (log ++ since) name ≡ word c log name
word-none c log since name none = fold-append (word_after name) (opening_word c name) log since ∙ fold-none name (word c log name) since none

-- ---- the words by place

pub length-words : (c : Config) (log : List Item) → length (words c log) ≡ word_count c
length-words c log = length-map-range_with_len (λ place. word c log (name_of c place)) 0 (word_count c)

-- the word at a place
pub words-at : (c : Config) (log : List Item) (place d : ℕ) → place < word_count c → slice_index_or (words c log) place d ≡ word c log (name_of c place)
words-at c log place d below = get_or-map-range_with_len (λ p. word c log (name_of c p)) 0 (word_count c) place place d below (omega arith)

-- the word of a name
pub words-named : (c : Config) (log : List Item) (name : Name) (d : ℕ) → IsName c name → slice_index_or (words c log) (place_of c name) d ≡ word c log name
words-named c log name d named =
    let placed = place_of-placed c name named in
    words-at c log (place_of c name) d placed.0 ∙ ap (word c log) placed.1

-- one step more writes one place
words_after : (c : Config) (log : List Item) (item : Item) (place : ℕ) → IsName c item.name → place < word_count c →
    slice_index_or (words c (log ++ item ∷ [])) place 0 ≡ slice_index_or (slice_set (words c log) (place_of c item.name) item.value) place 0
words_after c log item place named below =
    elim (cases_eq place (place_of c item.name)) [
      | inl same ↦
          let named_back = place_of-placed c item.name named in
          let within : place_of c item.name < length (words c log) = rw length-words named_back.0 in
          let reads = words-named c (log ++ item ∷ []) item.name 0 named in
          let writes = get_or-set_same (words c log) (place_of c item.name) item.value 0 within in
          rw same (reads ∙ (word-stored c log item item.name refl ∙ sym writes))
      | inr other ↦
          let at = name_of-at c place below in
          let apart : item.name ≢ name_of c place = λ same. other (sym at.1 ∙ ap (place_of c) (sym same)) in
          words-at c (log ++ item ∷ []) place 0 below ∙
          (word-other c log item (name_of c place) apart ∙
          (sym (words-at c log place 0 below) ∙ sym (get_or-set_other (words c log) (place_of c item.name) place item.value 0 other)))
    ]

-- so a step that stores a value writes the one place of its name
pub words-push : (c : Config) (log : List Item) (item : Item) → IsName c item.name →
    words c (log ++ item ∷ []) ≡ slice_set (words c log) (place_of c item.name) item.value
words-push c log item named =
    ext_get_or 0 _ _
    (length-words c (log ++ item ∷ []) ∙ (sym (length-words c log) ∙ sym (length-set (words c log) (place_of c item.name) item.value)))
    (λ place below. words_after c log item place named (subst (λ (n : ℕ). place < n) (length-words c (log ++ item ∷ [])) below))

-- ---- what stored a word last

-- the items of a log, of which none stores the name, or the last one that does stands between others
last_of : (log : List Item) (name : Name) → NoneStores log name ⊎ LastStores log name
last_of [] name = inl (All-nil (λ (x : Item). x.name ≢ name))
last_of (item ∷ log) name =
    elim (last_of log name) [
      | inr last ↦ inr (record { first = item ∷ last.first; item = last.item; later = last.later; parts = ap (λ (l : List Item). item ∷ l) last.parts; stores = last.stores; none = last.none })
      | inl none ↦ elim (cases_name item.name name) [
        | inl same ↦ inr (record { first = []; item = item; later = log; parts = refl; stores = same; none = none })
        | inr other ↦ inl (All-cons (λ (x : Item). x.name ≢ name) item log other none)
      ]
    ]

-- a word is its opening word where no step stored it, and else what the last such step stored
pub word-last : (c : Config) (log : List Item) (name : Name) →
    (NoneStores log name × (word c log name ≡ opening_word c name)) ⊎ ((last : LastStores log name) × (word c log name ≡ last.item.value))
word-last c log name =
    elim (last_of log name) [
      | inl none ↦ inl (none, word-none c [] log name none)
      | inr last ↦
          let front = word-none c (last.first ++ last.item ∷ []) last.later name last.none in
          let parts : log ≡ (last.first ++ last.item ∷ []) ++ last.later = last.parts ∙ sym (append_assoc last.first (last.item ∷ []) last.later) in
          inr (last, ap (λ (l : List Item). word c l name) parts ∙ (front ∙ word-stored c last.first last.item name last.stores))
    ]
