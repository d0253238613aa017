-- Names and places are each other's inverse.
use Rattle.std.proofs.Common.{ℕ, zero, suc, ◌≡◌, ◌+◌, ◌-◌, ◌*◌, ◌/◌, ◌%◌, ◌<◌, inl, inr, List, [], ◌∷◌, Some, refl, ap, subst, sym, ◌∙◌, arith, length, slice_index_or}
use Rattle.std.proofs.lemmas.Bool.{cases_lt, lt-ltb, le-ltb}
use Rattle.std.proofs.lemmas.Nat.{div-mul-add, mod-mul-add}
use Rattle.word_map.specs.declared.config.Config.{Config}
use Rattle.word_map.specs.declared.name.Name.{Name}
use Rattle.word_map.specs.declared.name.Name.TheVariants.{Lock, SlotHead, SlotNext, State, Phase, Layer, User, BoxWord, LocA, LocB, Child, Bound, Parent, PoolHead, PoolNext, PoolFree, Main, Slot, Reader, Update, Arena}
use Rattle.word_map.specs.Names.{IsName, lock_count, node_count}
use Rattle.word_map.specs.Layout.{Stretch, stretches, name_of, place_of, word_count, heads_start, bodies_start, layers_start, nodes_start, pool_start, groups_start, readers_start, group_word, plain_pool, apart_readers}
use Rattle.word_map.specs.Row.{head_words, body_words, body_word, layer_word, node_word, child_word}
use Rattle.word_map.specs.declared.row.TheConstants.{BODY_WORDS, NODE_WORDS, GROUP_WORDS}
use Rattle.word_map.proofs.Stretches.{total, Each, name_in-each, stretch_at, start_in, name_in-at}

-- the stretches have all words
total_words : (c : Config) → total (stretches c) ≡ word_count c
total_words c = omega arith

-- a coordinate of a body's box, by its offset among the body's words
body_word-box : (i k : ℕ) → k < 6 → body_word i (4 + k) ≡ BoxWord i k
unfolding body_word
body_word-box i zero h = refl
body_word-box i (suc zero) h = refl
body_word-box i (suc (suc zero)) h = refl
body_word-box i (suc (suc (suc zero))) h = refl
body_word-box i (suc (suc (suc (suc zero)))) h = refl
body_word-box i (suc (suc (suc (suc (suc zero))))) h = refl
body_word-box i (suc (suc (suc (suc (suc (suc k)))))) h = absurd (omega arith)

-- a word of a child, by its offset among the node's words
node_word-child : (n b k : ℕ) → b < 4 → k < 7 → node_word n (b * 7 + k) ≡ child_word n b k
node_word-child n b k child offset =
    let within : b * 7 + k < 28 = omega arith in
    let test = lt-ltb (b * 7 + k) 28 within in
    rw (test, div-mul-add b 7 k offset, mod-mul-add b 7 k offset) refl

-- a pool word of a group, by its offset in the group
group_word-pool : (c : Config) (p k : ℕ) → k < 16 → group_word c p k ≡ PoolNext (plain_pool c + 16 * p + k)
group_word-pool c p k offset = let test = lt-ltb k 16 offset in rw test refl

-- a word has a place in the table, and is the word there
abbrev pub Placed : Config → ℕ → Name → Type 0
Placed c place n = (place < word_count c) × (name_of c place ≡ n)

-- the word at a row and an offset of a stretch
placed : (c : Config) (r i k place : ℕ) (s : Stretch) → stretch_at (stretches c) r ≡ Some s → i < s.rows → k < s.width →
    place ≡ start_in (stretches c) r + i * s.width + k → Placed c place (s.name i k)
unfolding name_of
placed c r i k place s found row offset at =
    let there = name_in-at (stretches c) r i k place s found row offset at in
    (omega (arith, there.0, total_words c), there.1)

-- the same, where the name is written otherwise
placed_as : (c : Config) (r i k place : ℕ) (n : Name) (s : Stretch) → stretch_at (stretches c) r ≡ Some s → s.name i k ≡ n →
    i < s.rows → k < s.width → place ≡ start_in (stretches c) r + i * s.width + k → Placed c place n
placed_as c r i k place n s found named row offset at =
    subst (λ m. Placed c place m) named (placed c r i k place s found row offset at)

-- each name has a place, and is the name there
pub place_of-placed : (c : Config) (n : Name) → IsName c n → Placed c (place_of c n) n
unfolding place_of body_word
place_of-placed c (Lock i) h = placed c 0 i 0 _ _ refl h (omega arith) (omega arith)
place_of-placed c SlotHead h = placed c 1 0 0 _ _ refl (omega arith) (omega arith) (omega arith)
place_of-placed c PoolHead h = placed c 1 0 1 _ _ refl (omega arith) (omega arith) (omega arith)
place_of-placed c PoolFree h = placed c 1 0 2 _ _ refl (omega arith) (omega arith) (omega arith)
place_of-placed c Update h = placed c 1 0 3 _ _ refl (omega arith) (omega arith) (omega arith)
place_of-placed c Arena h = placed c 1 0 4 _ _ refl (omega arith) (omega arith) (omega arith)
place_of-placed c (State i) h = placed c 2 i 0 _ _ refl h (omega arith) (omega arith)
place_of-placed c (Phase i) h = placed c 2 i 1 _ _ refl h (omega arith) (omega arith)
place_of-placed c (Layer i) h = placed c 2 i 2 _ _ refl h (omega arith) (omega arith)
place_of-placed c (User i) h = placed c 2 i 3 _ _ refl h (omega arith) (omega arith)
place_of-placed c (BoxWord i k) h = placed_as c 2 i (4 + k) _ _ _ refl (body_word-box i k h.1) h.0 (omega arith) (omega arith)
place_of-placed c (LocA i) h = placed c 2 i 10 _ _ refl h (omega arith) (omega arith)
place_of-placed c (LocB i) h = placed c 2 i 11 _ _ refl h (omega arith) (omega arith)
place_of-placed c (SlotNext i) h = placed c 2 i 12 _ _ refl h (omega arith) (omega arith)
place_of-placed c (Main l) h = placed c 3 l 0 _ _ refl h (omega arith) (omega arith)
place_of-placed c (Slot l t) h = placed c 3 l (suc t) _ _ refl h.0 (omega arith) (omega arith)
place_of-placed c (Child n b) h =
    placed_as c 4 n (b * 7 + 0) _ _ _ refl (node_word-child n b 0 h.1 (omega arith)) h.0 (omega arith) (omega arith)
place_of-placed c (Bound n b k) h =
    placed_as c 4 n (b * 7 + suc k) _ _ _ refl (node_word-child n b (suc k) h.1 (omega arith)) h.0 (omega arith) (omega arith)
place_of-placed c (Parent n) h = placed c 4 n 28 _ _ refl h (omega arith) (omega arith)
place_of-placed c (PoolNext n) h =
    elim (cases_lt n (plain_pool c)) [
      | inl plain ↦ let test = lt-ltb _ _ plain in rw test (placed c 5 n 0 _ _ refl plain (omega arith) (omega arith))
      | inr later ↦
          let test = le-ltb _ _ later in
          let m : ℕ = n - plain_pool c in
          let number : plain_pool c + 16 * (m / 16) + m % 16 ≡ n = omega arith in
          rw test (placed_as c 6 (m / 16) (m % 16) _ _ _ refl (group_word-pool c (m / 16) (m % 16) (omega arith) ∙ ap PoolNext number) (omega arith) (omega arith) (omega arith))
    ]
place_of-placed c (Reader p) h =
    elim (cases_lt p (apart_readers c)) [
      | inl apart ↦ let test = lt-ltb _ _ apart in rw test (placed c 6 p 16 _ _ refl apart (omega arith) (omega arith))
      | inr later ↦
          let test = le-ltb _ _ later in
          let number : apart_readers c + (p - apart_readers c) ≡ p = omega arith in
          rw test (placed_as c 7 (p - apart_readers c) 0 _ _ _ refl (ap Reader number) (omega arith) (omega arith) (omega arith))
    ]

-- distinct names have distinct places
pub place_of-apart : (c : Config) (m n : Name) → IsName c m → IsName c n → place_of c m ≡ place_of c n → m ≡ n
place_of-apart c m n first second same =
    sym (place_of-placed c m first).1 ∙ (ap (λ p. name_of c p) same ∙ (place_of-placed c n second).1)

-- a name of the world, with its place
abbrev pub At : Config → ℕ → Name → Type 0
At c place n = IsName c n × (place_of c n ≡ place)

-- what holds of each word of a list of words that begins at a place
abbrev EachWord : (ℕ → Name → Type 0) → List Name → ℕ → Type 0
EachWord G [] start = Unit {0}
EachWord G (n ∷ rest) start = G start n × EachWord G rest (start + 1)

-- and so of the word at an offset
word-each : (G : ℕ → Name → Type 0) (words : List Name) (start k place : ℕ) → EachWord G words start → k < length words →
    place ≡ start + k → G place (slice_index_or words k Update)
word-each G [] start k place each offset at = absurd (omega arith)
word-each G (n ∷ rest) start zero place each offset at = let e : start ≡ place = omega arith in subst (λ (q : ℕ). G q n) e each.0
word-each G (n ∷ rest) start (suc k) place each offset at = word-each G rest (start + 1) k place each.1 (omega arith) (omega arith)

-- the words of which a world has one each, with their places
head_word-at : (c : Config) → EachWord (At c) head_words (heads_start c)
unfolding place_of
head_word-at c = ((tt, refl), ((tt, refl), ((tt, omega arith), ((tt, omega arith), ((tt, omega arith), tt)))))

-- the words of a body, with their places
body_word-at : (c : Config) (i : ℕ) → i < c.bodies → EachWord (At c) (body_words i) (bodies_start c + BODY_WORDS * i)
unfolding place_of
body_word-at c i h = (
  (h, refl),
  (
    (h, refl),
    (
      (h, omega arith),
      (
        (h, omega arith),
        (
          ((h, omega arith), omega arith),
          (
            ((h, omega arith), omega arith),
            (
              ((h, omega arith), omega arith),
              (
                ((h, omega arith), omega arith),
                (
                  ((h, omega arith), omega arith),
                  (
                    ((h, omega arith), omega arith),
                    (
                      (h, omega arith),
                      ((h, omega arith), ((h, omega arith), tt)),
                    ),
                  ),
                ),
              ),
            ),
          ),
        ),
      ),
    ),
  ),
)

-- a lock, with its place
lock_word-at : (c : Config) (i place : ℕ) → i < lock_count c → place ≡ i → At c place (Lock i)
unfolding place_of
lock_word-at c i place lock at = (lock, sym at)

-- a word of a layer, with its place
layer_word-at : (c : Config) (l k place : ℕ) → l < c.layers → k < c.slots + 1 → place ≡ layers_start c + (c.slots + 1) * l + k →
    At c place (layer_word l k)
unfolding place_of
layer_word-at c l zero place layer offset at = (layer, omega arith)
layer_word-at c l (suc t) place layer offset at = ((layer, omega arith), omega arith)

-- a word of a child, with its place
child_word-at : (c : Config) (n b k place : ℕ) → n < node_count c → b < 4 → k < 7 →
    place ≡ nodes_start c + NODE_WORDS * n + 7 * b + k → At c place (child_word n b k)
unfolding place_of
child_word-at c n b zero place node child offset at = ((node, child), omega arith)
child_word-at c n b (suc k) place node child offset at = ((node, child, omega arith), omega arith)

-- a word of a node, with its place
node_word-at : (c : Config) (n k place : ℕ) → n < node_count c → k < 29 → place ≡ nodes_start c + NODE_WORDS * n + k →
    At c place (node_word n k)
unfolding place_of
node_word-at c n k place node offset at =
    elim (cases_lt k 28) [
      | inl below ↦ let test = lt-ltb _ _ below in
          rw test (child_word-at c n (k / 7) (k % 7) place node (omega arith) (omega arith) (omega arith))
      | inr above ↦ let test = le-ltb _ _ above in rw test (node, omega arith)
    ]

-- a link of the pool before the groups, with its place
pool_word-at : (c : Config) (n place : ℕ) → n < plain_pool c → place ≡ pool_start c + n → At c place (PoolNext n)
unfolding place_of
pool_word-at c n place plain at = let test = lt-ltb _ _ plain in (omega arith, rw test (sym at))

-- a word of a group, with its place
group_word-at : (c : Config) (p k place : ℕ) → p < apart_readers c → k < 17 → place ≡ groups_start c + GROUP_WORDS * p + k →
    At c place (group_word c p k)
unfolding place_of
group_word-at c p k place group offset at =
    elim (cases_lt k 16) [
      | inl below ↦
          let inside = lt-ltb _ _ below in
          let test = le-ltb (plain_pool c + 16 * p + k) (plain_pool c) (omega arith) in
          rw inside (omega arith, rw test (omega arith))
      | inr above ↦
          let outside = le-ltb _ _ above in
          let test = lt-ltb _ _ group in
          rw outside (omega arith, rw test (omega arith))
    ]

-- a reader word after the groups, with its place
reader_word-at : (c : Config) (p place : ℕ) → p < c.passes - apart_readers c → place ≡ readers_start c + p →
    At c place (Reader (apart_readers c + p))
unfolding place_of
reader_word-at c p place reader at =
    let test = le-ltb (apart_readers c + p) (apart_readers c) (omega arith) in (omega arith, rw test (omega arith))

-- each word of each stretch
stretches-at : (c : Config) → Each (At c) (stretches c) 0
unfolding body_word
stretches-at c = (
  (λ i k row offset. lock_word-at c i _ row (omega arith)),
  (
    (λ i k row offset. word-each (At c) head_words _ k _ (head_word-at c) offset (omega arith)),
    (
      (λ i k row offset. word-each (At c) (body_words i) _ k _ (body_word-at c i row) offset (omega arith)),
      (
        (λ l k row offset. layer_word-at c l k _ row offset (omega arith)),
        (
          (λ n k row offset. node_word-at c n k _ row offset (omega arith)),
          (
            (λ n k row offset. pool_word-at c n _ row (omega arith)),
            (
              (λ p k row offset. group_word-at c p k _ row offset (omega arith)),
              ((λ p k row offset. reader_word-at c p _ row (omega arith)), tt),
            ),
          ),
        ),
      ),
    ),
  ),
)

-- each name that is found at a place of the table has that place
pub name_of-at : (c : Config) (place : ℕ) → place < word_count c → At c place (name_of c place)
unfolding name_of
name_of-at c place below =
    let found = name_in-each (At c) (stretches c) 0 place (stretches-at c) (omega (arith, total_words c)) in
    (found.0, omega (arith, found.1))

-- what both ways say, for the functions of the map
pub ruleset placed_rules = (place_of-placed, name_of-at)
