-- What a query has read when it is at its end is a whole record: the loads of a child, of a node, and of all that is left.
use Rattle.std.proofs.Common.{◌≡◌, ◌≢◌, ℕ, zero, suc, ◌-◌, ◌/◌, ◌%◌, ◌≤◌, List, [], ◌∷◌, ◌++◌, Bool, true, false, cond, length, refl, ap, sym, ◌∙◌, subst, inl, inr, arith, append_assoc}
use Rattle.std.specs.Prelude.{map, ◌==◌, if◌then◌else◌, slice_index}
use Rattle.std.proofs.lemmas.Bool.{cases_Bool}
use Rattle.std.proofs.lemmas.Option.{none-some, same_Some}
use Rattle.std.proofs.lemmas.List.{length-append}
use Rattle.word_map.specs.declared.config.Config.{Config}
use Rattle.word_map.specs.declared.name.Name.{Name}
use Rattle.word_map.specs.declared.name.Name.TheVariants.{Child}
use Rattle.core_state.specs.declared.item.Load.{Load}
use Rattle.core_state.specs.declared.view.Waiting.{Waiting}
use Rattle.core_state.specs.Walking.{Query, resting, at_child, at_bound, Position, waiting, asked_words, next_node, next_child, roots_in, pushed, advance_from, replay, FollowsFrom, Follows, position_of}
use Rattle.core_query.specs.Ends.{IsAtEnd}
use Rattle.core_query.specs.WholeRecord.{ReadChild, six_words, child_loads, node_loads, node_to_walk, nodes_to_walk, IsWholeRecord, nothing_left, of_word, of_node}

-- the loads are what is read from a position on, to the end
pub record Ends (query : Query) (at : Position) (loads : List Load) : Type 0 where
  pub follows : FollowsFrom query at loads
  pub end : IsAtEnd (replay query at loads)

child-moves : (n level k : ℕ) → at_child n level k ≢ resting
child-moves n level k e = absurd cc

bound-moves : (n level k x : ℕ) (read : List ℕ) → at_bound n level k x read ≢ resting
bound-moves n level k x read e = absurd cc

-- four pieces taken off the front of a list, one after the other
pub four-joined : {X : Type 0} (l a b c d la lb lc ld : List X) → l ≡ a ++ la → la ≡ b ++ lb → lb ≡ c ++ lc → lc ≡ d ++ ld → l ≡ (a ++ (b ++ (c ++ (d ++ [])))) ++ ld
four-joined l a b c d la lb lc ld p q r s = rw (p, q, r, s) (simp append_assoc)

-- ---- a child

-- the stack when a child was read
abbrev pub put : Query → ℕ → ReadChild → List Waiting → List Waiting
put query level child stack = if child.word == 0 then stack else if query.test (six_words child.bound) then pushed level child.word stack else stack

abbrev pub node_of : Waiting → ℕ
node_of w = w.node

put-by : (none touches node : Bool) (m level : ℕ) (stack : List Waiting)
    → map node_of (cond none stack (cond touches (cond node (waiting m level ∷ stack) stack) stack)) ≡ cond none [] (cond touches (cond node (m ∷ []) []) []) ++ map node_of stack
put-by true touches node m level stack = refl
put-by false false node m level stack = refl
put-by false true true m level stack = refl
put-by false true false m level stack = refl

pub put-nodes : (query : Query) (level : ℕ) (child : ReadChild) (stack : List Waiting) → map node_of (put query level child stack) ≡ node_to_walk query child ++ map node_of stack
put-nodes query level child stack = put-by (child.word == 0) (query.test (six_words child.bound)) (child.word % 2 == 0) ((child.word - 2) / 2) (suc level) stack

module _ (query : Query) (rest : List Name) where
  -- the first loads are those of a child, and the others go on behind it
  record ReadsChild (stack : List Waiting) (n level k : ℕ) (loads : List Load) : Type 0 where
    child : ReadChild
    later : List Load
    is : loads ≡ child_loads n k child ++ later
    goes_on : Ends query (next_child rest (put query level child stack) n level k) later

  six-sides : (stack : List Waiting) (n level k x : ℕ) (name : Name) (loads : List Load) → (x == 0) ≡ false → Child n k ≡ name
      → Ends query (record { rest = rest; stack = stack; spot = at_bound n level k x [] }) loads
      → ReadsChild stack n level k (record { name = name; value = x } ∷ loads)
  six-sides stack n level k x name (a ∷ b ∷ c ∷ d ∷ e ∷ f ∷ later) some same h =
      let t = h.follows in
      record {
        child = record { word = x; bound = slice_index (a.value ∷ b.value ∷ c.value ∷ d.value ∷ e.value ∷ f.value ∷ []) };
        later = later;
        is = rw some (λ i.
            record { name = sym same i; value = x } ∷ record { name = sym (same_Some _ _ t.0) i; value = a.value } ∷ record { name = sym (same_Some _ _ t.1.0) i; value = b.value }
            ∷ record { name = sym (same_Some _ _ t.1.1.0) i; value = c.value } ∷ record { name = sym (same_Some _ _ t.1.1.1.0) i; value = d.value }
            ∷ record { name = sym (same_Some _ _ t.1.1.1.1.0) i; value = e.value } ∷ record { name = sym (same_Some _ _ t.1.1.1.1.1.0) i; value = f.value } ∷ later);
        goes_on = rw some (record { follows = t.1.1.1.1.1.1; end = h.end });
      }
  six-sides stack n level k x name _ some same h = absurd (bound-moves _ _ _ _ _ h.end.spot)

  by-word : (stack : List Waiting) (n level k value : ℕ) (name : Name) (loads : List Load) → Child n k ≡ name → Ends query (advance_from query rest stack (at_child n level k) value) loads
      → ReadsChild stack n level k (record { name = name; value = value } ∷ loads)
  by-word stack n level k value name loads same h =
      elim (cases_Bool (value == 0)) [
        | inl none ↦ record {
          child = record { word = value; bound = λ q. 0 };
          later = loads;
          is = rw none (ap (λ (m : Name). record { name = m; value = value } ∷ loads) (sym same));
          goes_on = rw none (rw none at h);
        }
        | inr some ↦ six-sides stack n level k value name loads some same (rw some at h)
      ]

  reads-child : (stack : List Waiting) (n level k : ℕ) (loads : List Load) → Ends query (record { rest = rest; stack = stack; spot = at_child n level k }) loads → ReadsChild stack n level k loads
  reads-child stack n level k [] h = absurd (child-moves n level k h.end.spot)
  reads-child stack n level k (l ∷ loads) h = by-word stack n level k l.value l.name loads (same_Some (Child n k) l.name h.follows.0) (record { follows = h.follows.1; end = h.end })

  -- ---- a node

  abbrev of_four : ReadChild → ReadChild → ReadChild → ReadChild → ℕ → ReadChild
  of_four a b c d zero = a
  of_four a b c d (suc zero) = b
  of_four a b c d (suc (suc zero)) = c
  of_four a b c d _ = d

  record ReadsNode (stack : List Waiting) (n : ℕ) (loads : List Load) : Type 0 where
    children : ℕ → ReadChild
    later : List Load
    next : List Waiting
    is : loads ≡ node_loads n children ++ later
    nodes : map node_of next ≡ nodes_to_walk query children ++ map node_of stack
    goes_on : Ends query (next_node rest next) later

  -- the nodes that wait after one child, after two, and after three
  abbrev pub after_one : ℕ → ReadChild → List Waiting → List Waiting
  after_one level a stack = put query level a stack

  abbrev pub after_two : ℕ → ReadChild → ReadChild → List Waiting → List Waiting
  after_two level a b stack = put query level b (after_one level a stack)

  abbrev pub after_three : ℕ → ReadChild → ReadChild → ReadChild → List Waiting → List Waiting
  after_three level a b c stack = put query level c (after_two level a b stack)

  by-children : (stack : List Waiting) (n level : ℕ) (loads : List Load) (a : ReadsChild stack n level 0 loads) (b : ReadsChild (after_one level a.child stack) n level 1 a.later)
      (c : ReadsChild (after_two level a.child b.child stack) n level 2 b.later) → ReadsChild (after_three level a.child b.child c.child stack) n level 3 c.later → ReadsNode stack n loads
  by-children stack n level loads a b c d = record {
    children = of_four a.child b.child c.child d.child;
    later = d.later;
    next = put query level d.child (after_three level a.child b.child c.child stack);
    is =
        four-joined loads (child_loads n 0 a.child) (child_loads n 1 b.child) (child_loads n 2 c.child) (child_loads n 3 d.child) a.later b.later c.later d.later a.is b.is c.is d.is;
    nodes =
        four-joined (map node_of (put query level d.child (after_three level a.child b.child c.child stack)))
        (node_to_walk query d.child) (node_to_walk query c.child) (node_to_walk query b.child) (node_to_walk query a.child)
        (map node_of (after_three level a.child b.child c.child stack)) (map node_of (after_two level a.child b.child stack)) (map node_of (after_one level a.child stack)) (map node_of stack)
        (put-nodes query level d.child (after_three level a.child b.child c.child stack)) (put-nodes query level c.child (after_two level a.child b.child stack))
        (put-nodes query level b.child (after_one level a.child stack)) (put-nodes query level a.child stack);
    goes_on = d.goes_on;
  }

  reads-node : (stack : List Waiting) (n level : ℕ) (loads : List Load) → Ends query (record { rest = rest; stack = stack; spot = at_child n level 0 }) loads → ReadsNode stack n loads
  reads-node stack n level loads h =
      let a = reads-child stack n level 0 loads h in
      let b = reads-child (after_one level a.child stack) n level 1 a.later a.goes_on in
      let c = reads-child (after_two level a.child b.child stack) n level 2 b.later b.goes_on in
      by-children stack n level loads a b c (reads-child (after_three level a.child b.child c.child stack) n level 3 c.later c.goes_on)

-- ---- all that is left

-- what is read where these nodes wait and these words are to be read; the number is one that the length does not exceed
whole : (query : Query) (most : ℕ) (stack : List Waiting) (rest : List Name) (loads : List Load) → length loads ≤ most → Ends query (next_node rest stack) loads
    → IsWholeRecord query (map node_of stack) rest loads
whole query most [] [] [] few h = nothing_left
whole query most [] [] (l ∷ loads) few h = absurd (none-some l.name h.follows.0)
whole query most [] (name ∷ rest) [] few h = absurd (let none = h.end.rest in cc)
whole query zero [] (name ∷ rest) (l ∷ loads) few h = absurd (omega arith)
whole query (suc most) [] (name ∷ rest) (l ∷ loads) few h =
    let same = same_Some name l.name h.follows.0 in
    let later = whole query most (roots_in name l.value) rest loads (omega arith) (record { follows = h.follows.1; end = h.end }) in
    subst (λ (m : Name). IsWholeRecord query [] (name ∷ rest) (record { name = m; value = l.value } ∷ loads)) same (of_word name l.value rest loads later)
whole query zero (w ∷ stack) rest loads few h = let t = reads-node query rest stack w.node w.level loads h in let long = ap length t.is ∙ length-append (node_loads w.node t.children) t.later in absurd (omega arith)
whole query (suc most) (w ∷ stack) rest loads few h =
    let t = reads-node query rest stack w.node w.level loads h in
    let long = ap length t.is ∙ length-append (node_loads w.node t.children) t.later in
    let later = whole query most t.next rest t.later (omega arith) t.goes_on in
    subst (IsWholeRecord query (w.node ∷ map node_of stack) rest) (sym t.is)
    (of_node w.node t.children (map node_of stack) rest t.later (subst (λ (nodes : List ℕ). IsWholeRecord query nodes rest t.later) t.nodes later))

pub whole-record : (c : Config) (query : Query) (loads : List Load) → Follows c query loads → IsAtEnd (position_of c query loads) → IsWholeRecord query [] (asked_words c query.mask) loads
whole-record c query loads follows end = whole query (length loads) [] (asked_words c query.mask) loads (omega arith) (record { follows = follows; end = end })
