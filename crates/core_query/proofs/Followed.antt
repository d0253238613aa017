-- The other way round: a query reads each whole record of the words that it asks for, to the end.
use Rattle.std.proofs.Common.{◌≡◌, ℕ, List, [], ◌∷◌, ◌++◌, Some, true, false, refl, ap, sym, ◌∙◌, subst, inl, inr, append_assoc}
use Rattle.std.specs.Prelude.{map, ◌==◌, if◌then◌else◌}
use Rattle.std.specs.List.{range_with_len}
use Rattle.std.proofs.lemmas.Bool.{cases_Bool}
use Rattle.word_map.specs.declared.config.Config.{Config}
use Rattle.word_map.specs.declared.name.Name.{Name}
use Rattle.core_state.specs.declared.item.Load.{Load}
use Rattle.core_state.specs.declared.view.Waiting.{Waiting}
use Rattle.core_state.specs.Walking.{Query, at_child, at_bound, Position, asked_words, next_node, next_child, roots_in, pushed, advance_from, advance, next_word, Follows, position_of}
use Rattle.core_query.specs.Ends.{IsAtEnd}
use Rattle.core_query.specs.WholeRecord.{ReadChild, six_words, side_load, child_loads, node_loads, node_to_walk, nodes_to_walk, IsWholeRecord, nothing_left, of_word, of_node}
use Rattle.core_query.proofs.Finding.{child_load, loads-none, loads-some}
use Rattle.core_query.proofs.Recording.{Ends, put, node_of, put-nodes, four-joined}

-- one load more in front, of the word that is next
in-front : (query : Query) (at : Position) (l : Load) (loads : List Load) → next_word at.rest at.spot ≡ Some l.name → Ends query (advance query at l) loads → Ends query at (l ∷ loads)
in-front query at l loads e h = record { follows = (e, h.follows); end = h.end }

module _ (query : Query) (rest : List Name) where
  -- where the walk is after a child word, and what then waits
  after-none : (stack : List Waiting) (n level k x : ℕ) → (x == 0) ≡ true → advance_from query rest stack (at_child n level k) x ≡ next_child rest stack n level k
  after-none stack n level k x none = rw none refl

  after-some : (stack : List Waiting) (n level k x : ℕ) → (x == 0) ≡ false → advance_from query rest stack (at_child n level k) x ≡ record { rest = rest; stack = stack; spot = at_bound n level k x [] }
  after-some stack n level k x some = rw some refl

  put-none : (stack : List Waiting) (level : ℕ) (child : ReadChild) → (child.word == 0) ≡ true → put query level child stack ≡ stack
  put-none stack level child none = rw none refl

  put-some : (stack : List Waiting) (level : ℕ) (child : ReadChild) → (child.word == 0) ≡ false
      → put query level child stack ≡ (if query.test (six_words child.bound) then pushed level child.word stack else stack)
  put-some stack level child some = rw some refl

  -- the loads of a child are read from where the walk is at it
  child-followed : (stack : List Waiting) (n level k : ℕ) (child : ReadChild) (later : List Load) → Ends query (next_child rest (put query level child stack) n level k) later
      → Ends query (record { rest = rest; stack = stack; spot = at_child n level k }) (child_loads n k child ++ later)
  child-followed stack n level k child later h =
      let at : Position = record { rest = rest; stack = stack; spot = at_child n level k } in
      let word = child_load n k child.word in
      elim (cases_Bool (child.word == 0)) [
        | inl none ↦
            subst (λ (loads : List Load). Ends query at (loads ++ later)) (sym (loads-none n k child none))
            (in-front query at word later refl
            (subst (λ (p : Position). Ends query p later) (sym (after-none stack n level k child.word none))
            (subst (λ (s : List Waiting). Ends query (next_child rest s n level k) later) (put-none stack level child none) h)))
        | inr some ↦
            let sides = map (side_load n k child.bound) (range_with_len 0 6) in
            subst (λ (loads : List Load). Ends query at (loads ++ later)) (sym (loads-some n k child some))
            (in-front query at word (sides ++ later) refl
            (subst (λ (p : Position). Ends query p (sides ++ later)) (sym (after-some stack n level k child.word some))
            (sides-followed stack n level k child later (subst (λ (s : List Waiting). Ends query (next_child rest s n level k) later) (put-some stack level child some) h))))
      ]
    where
      sides-followed : (stack : List Waiting) (n level k : ℕ) (child : ReadChild) (later : List Load)
          → Ends query (next_child rest (if query.test (six_words child.bound) then pushed level child.word stack else stack) n level k) later
          → Ends query (record { rest = rest; stack = stack; spot = at_bound n level k child.word [] }) (map (side_load n k child.bound) (range_with_len 0 6) ++ later)
      sides-followed stack n level k child later h = record { follows = (refl, (refl, (refl, (refl, (refl, (refl, h.follows)))))); end = h.end }

  -- the nodes that wait when the four children were read
  abbrev waits : ℕ → (ℕ → ReadChild) → List Waiting → List Waiting
  waits level children stack = put query level (children 3) (put query level (children 2) (put query level (children 1) (put query level (children 0) stack)))

  node-followed : (stack : List Waiting) (n level : ℕ) (children : ℕ → ReadChild) (later : List Load) → Ends query (next_node rest (waits level children stack)) later
      → Ends query (record { rest = rest; stack = stack; spot = at_child n level 0 }) (node_loads n children ++ later)
  node-followed stack n level children later h =
      let a = children 0 in
      let b = children 1 in
      let c = children 2 in
      let d = children 3 in
      let one = put query level a stack in
      let two = put query level b one in
      let three = put query level c two in
      let last = child-followed three n level 3 d later h in
      let third = child-followed two n level 2 c (child_loads n 3 d ++ later) last in
      let second = child-followed one n level 1 b (child_loads n 2 c ++ (child_loads n 3 d ++ later)) third in
      subst (Ends query (record { rest = rest; stack = stack; spot = at_child n level 0 })) (sym (split (child_loads n 0 a) (child_loads n 1 b) (child_loads n 2 c) (child_loads n 3 d) later))
      (child-followed stack n level 0 a (child_loads n 1 b ++ (child_loads n 2 c ++ (child_loads n 3 d ++ later))) second)
    where
      split : (a b c d later : List Load) → (a ++ (b ++ (c ++ (d ++ [])))) ++ later ≡ a ++ (b ++ (c ++ (d ++ later)))
      split a b c d later = simp append_assoc

-- the nodes that then wait are those that are to be walked, and those that waited before
waits-nodes : (query : Query) (rest : List Name) (level : ℕ) (children : ℕ → ReadChild) (stack : List Waiting) → map node_of (waits query rest level children stack) ≡ nodes_to_walk query children ++ map node_of stack
waits-nodes query rest level children stack =
    let one = put query level (children 0) stack in
    let two = put query level (children 1) one in
    let three = put query level (children 2) two in
    four-joined (map node_of (waits query rest level children stack)) (node_to_walk query (children 3)) (node_to_walk query (children 2)) (node_to_walk query (children 1)) (node_to_walk query (children 0))
    (map node_of three) (map node_of two) (map node_of one) (map node_of stack)
    (put-nodes query level (children 3) three) (put-nodes query level (children 2) two) (put-nodes query level (children 1) one) (put-nodes query level (children 0) stack)

first-is : (w : Waiting) (stack : List Waiting) (n : ℕ) (nodes : List ℕ) → map node_of (w ∷ stack) ≡ n ∷ nodes → (w.node ≡ n) × (map node_of stack ≡ nodes)
first-is w stack n nodes e = (cc, cc)

followed : (query : Query) (nodes : List ℕ) (names : List Name) (loads : List Load) → IsWholeRecord query nodes names loads → (stack : List Waiting) → map node_of stack ≡ nodes
    → Ends query (next_node names stack) loads
followed query nodes names loads nothing_left [] e = record { follows = tt; end = record { rest = refl; stack = refl; spot = refl } }
followed query nodes names loads nothing_left (w ∷ stack) e = absurd cc
followed query nodes names loads (of_word name value more later whole) [] e =
    let t = followed query _ more later whole (roots_in name value) refl in
    record { follows = (refl, t.follows); end = t.end }
followed query nodes names loads (of_word name value more later whole) (w ∷ stack) e = absurd cc
followed query nodes names loads (of_node n children more words later whole) [] e = absurd cc
followed query nodes names loads (of_node n children more words later whole) (w ∷ stack) e =
    let same = first-is w stack n more e in
    let next = waits query words w.level children stack in
    let t = followed query (nodes_to_walk query children ++ more) words later whole next (waits-nodes query words w.level children stack ∙ ap (λ (x : List ℕ). nodes_to_walk query children ++ x) same.1) in
    subst (λ (m : ℕ). Ends query (next_node words (w ∷ stack)) (node_loads m children ++ later)) same.0 (node-followed query words stack w.node w.level children later t)

pub whole-followed : (c : Config) (query : Query) (loads : List Load) → IsWholeRecord query [] (asked_words c query.mask) loads → Follows c query loads × IsAtEnd (position_of c query loads)
whole-followed c query loads whole = let t = followed query [] (asked_words c query.mask) loads whole [] refl in (t.follows, t.end)
