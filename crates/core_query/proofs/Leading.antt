-- What is ahead of a walk after one load more: each body that was ahead of it is so still, or is a candidate.
use Rattle.std.proofs.Common.{◌≡◌, ◌⊎◌, ℕ, zero, suc, ◌+◌, ◌≤◌, List, [], ◌∷◌, ◌++◌, length, refl, ap, sym, ◌∙◌, subst, inl, inr, arith}
use Rattle.std.specs.Prelude.{Contains, nat_lt, nat_le, if◌then◌else◌, slice_index, ◌==◌, ◌-◌, ◌/◌, ◌%◌}
use Rattle.std.proofs.lemmas.Bool.{cases_lt, cond_both, false≢true}
use Rattle.std.proofs.lemmas.Bool.Decides.{nat_tests}
use Rattle.std.proofs.lemmas.List.Elements.{Contains-append_right}
use Rattle.fixed_box.specs.FixBox.{words_of}
use Rattle.fixed_box.specs.Touch.{Touch}
use Rattle.fixed_box.specs.declared.fix_box.FixBox.{FixBox}
use Rattle.word_map.specs.declared.name.Name.{Name}
use Rattle.word_map.specs.declared.name.Name.TheVariants.{Child, Bound, Main, Slot}
use Rattle.core_state.specs.declared.item.Load.{Load}
use Rattle.core_state.specs.declared.view.Waiting.{Waiting}
use Rattle.core_state.specs.declared.view.Walk.{Walk}
use Rattle.core_state.specs.Core.{Core, word_of}
use Rattle.core_state.specs.Encoding.{node_child, NamesRoot, Sides, sides_of, bound_in}
use Rattle.core_state.specs.Scope.{word_in}
use Rattle.core_state.specs.WalkRecord.{IsLoaded, IsCandidate}
use Rattle.core_state.specs.Walking.{Query, Spot, resting, at_child, at_bound, Position, waiting, next_node, next_child, roots_in, pushed}
use Rattle.core_state.specs.WalksLead.{walk_scope, HoldsOne, Way, to_entry, to_node, Leads, is_entry, by_node, ChildLeads, LeadsBySpot, begun_bound, LeadsByPart, IsAhead, is_found, by_slot, by_main, by_stack, by_child, by_part, IsReadInPart, OnlyWidens}
use Rattle.core_state.proofs.Beginning.{cases_cons, contains_first}
use Rattle.core_state.proofs.Opening.{none_in}
use Rattle.core_query.proofs.Replay.{IsHalfRead, Moves, to_root, past_none, to_bound, by_side, past_bound, loaded-before, sides-more}
use Rattle.core_query.proofs.Touching.{Passes}
use Rattle.core_query.proofs.HalfRead.{KeepsBegun, longer_walk, same-covers, begun-same, all-pass}

-- the root that a word names is the one that is walked at once
root-among : (name : Name) (value root : ℕ) → NamesRoot name value root → Contains (roots_in name value) (waiting root 1)
root-among (Main l) zero root names = absurd (omega arith)
root-among (Main l) (suc other) root names = let same : other ≡ root = omega arith in subst (λ (r : ℕ). Contains (waiting other 1 ∷ []) (waiting r 1)) same (contains_first (waiting other 1) [])
root-among (Slot l t) value root names =
    cond_both (nat_le 1024 value) (waiting (value - 1024) 1 ∷ []) [] (λ (stack : List Waiting). Contains stack (waiting root 1))
    (λ tree. let same : value - 1024 ≡ root = omega arith in subst (λ (r : ℕ). Contains (waiting (value - 1024) 1 ∷ []) (waiting r 1)) same (contains_first (waiting (value - 1024) 1) []))
    (λ none. absurd (grind (arith, nat_tests)))
root-among _ value root names = absurd names

-- a child that is a node goes onto the stack
push-among : (level m : ℕ) (stack : List Waiting) → Contains (pushed level (node_child m) stack) (waiting m (suc level))
push-among level m stack =
    let node : (node_child m - 2) / 2 ≡ m = omega arith in
    cond_both (node_child m % 2 == 0) _ _ (λ (l : List Waiting). Contains l (waiting m (suc level)))
    (λ even. subst (λ (r : ℕ). Contains (waiting ((node_child m - 2) / 2) (suc level) ∷ stack) (waiting r (suc level))) node (contains_first _ stack)) (λ odd. absurd (grind (arith, nat_tests)))

-- and nothing leaves it
push-more : (level x : ℕ) (stack : List Waiting) (v : Waiting) → Contains stack v → Contains (pushed level x stack) v
push-more level x stack v among = cond_both (x % 2 == 0) _ _ (λ (l : List Waiting). Contains l v) (λ even. Contains-append_right (_ ∷ []) stack v among) (λ odd. among)

module _ (word : Name → ℕ) (Had : Sides → Type 0) (index : ℕ) (query : Query) where
  -- a way down from a node begins at one of its children
  way-child : (n : ℕ) → Way word Had index n → ChildLeads word Had index n 0
  way-child n (to_entry m k low e holds) = (k, omega arith, low, holds, is_entry e)
  way-child n (to_node m k x low e holds way) = (k, omega arith, low, holds, by_node x e way)

  -- what is ahead is so at another place with the same words to be read, if it is by the stack, by a child and by a bound
  ahead-map : (walk longer : Walk) (rest : List Name) (stack other : List Waiting) (spot last : Spot) → (IsCandidate query.shape walk.loads index → IsCandidate query.shape longer.loads index)
      → ((v : Waiting) → Contains stack v → Way word Had index v.node → IsAhead word Had index query longer (record { rest = rest; stack = other; spot = last }))
      → (LeadsBySpot word Had index spot → IsAhead word Had index query longer (record { rest = rest; stack = other; spot = last }))
      → (LeadsByPart word Had index walk spot → IsAhead word Had index query longer (record { rest = rest; stack = other; spot = last }))
      → IsAhead word Had index query walk (record { rest = rest; stack = stack; spot = spot }) → IsAhead word Had index query longer (record { rest = rest; stack = other; spot = last })
  ahead-map walk longer rest stack other spot last candidate on_stack on_child on_part (is_found found) = is_found (candidate found)
  ahead-map walk longer rest stack other spot last candidate on_stack on_child on_part (by_slot h) = by_slot h
  ahead-map walk longer rest stack other spot last candidate on_stack on_child on_part (by_main h) = by_main h
  ahead-map walk longer rest stack other spot last candidate on_stack on_child on_part (by_stack v among way) = on_stack v among way
  ahead-map walk longer rest stack other spot last candidate on_stack on_child on_part (by_child h) = on_child h
  ahead-map walk longer rest stack other spot last candidate on_stack on_child on_part (by_part h) = on_part h

  -- what is ahead by the words to be read or by the stack is so where the walk takes the next node
  module _ (walk : Walk) where
    abbrev Ahead : Position → Type 0
    Ahead at = IsAhead word Had index query walk at

    -- with the next node of the stack
    next-ahead : (rest : List Name) (stack : List Waiting) (spot : Spot) → (¬ LeadsBySpot word Had index spot) → (¬ LeadsByPart word Had index walk spot) → Ahead (record { rest = rest; stack = stack; spot = spot })
        → Ahead (next_node rest stack)
    next-ahead rest [] spot none part h = ahead-map walk walk rest [] [] spot resting (λ found. found) (λ v among way. absurd (none_in v among)) (λ t. absurd (none t)) (λ t. absurd (part t)) h
    next-ahead rest (u ∷ stack) spot none part h =
        ahead-map walk walk rest (u ∷ stack) stack spot (at_child u.node u.level 0) (λ found. found)
        (λ v among way.
        elim (cases_cons u stack v among) [
          | inl same ↦ by_child (way-child u.node (subst (λ (w : Waiting). Way word Had index w.node) (sym same) way))
          | inr later ↦ by_stack v later way
        ])
        (λ t. absurd (none t)) (λ t. absurd (part t)) h

    -- with the next child, or the next node after the last
    child-ahead : (rest : List Name) (stack : List Waiting) (n level k : ℕ) → Ahead (record { rest = rest; stack = stack; spot = at_child n level (k + 1) }) → Ahead (next_child rest stack n level k)
    child-ahead rest stack n level k h =
        cond_both (nat_lt k 3) _ _ Ahead (λ more. h)
        (λ last. next-ahead rest stack (at_child n level (k + 1)) (λ t. let high : 3 ≤ k = grind (arith, nat_tests) in let low = t.1 in let less = t.2 in absurd (omega arith)) (λ t. t) h)

-- ---- one load more

module _ (core : Core) (query : Query) (walk : Walk) (new : Load) (bound : List ℕ) (begun : KeepsBegun (word_in walk_scope core) walk new bound) (value : new.value ≡ word_of core new.name)
    (Had : Sides → Type 0) (index : ℕ) (touching : (box : Sides) → Had box → (inner : FixBox) × Touch query.shape inner × (box ≡ sides_of (words_of inner))) where
  abbrev V : Name → ℕ
  V = word_in walk_scope core

  abbrev Later : Walk
  Later = longer_walk walk new bound

  abbrev Before : Position → Type 0
  Before at = IsAhead V Had index query walk at

  abbrev After : Position → Type 0
  After at = IsAhead V Had index query Later at

  -- what was found is found
  loaded-more : (name : Name) (x : ℕ) → IsLoaded walk.loads name x → IsLoaded Later.loads name x
  loaded-more name x h = loaded-before query walk.loads new name x h

  -- so is each candidate
  found-more : IsCandidate query.shape walk.loads index → IsCandidate query.shape Later.loads index
  found-more t = (t.0, t.1, loaded-more _ _ t.2, (t.3.0, t.3.1, λ q low. loaded-more _ _ (t.3.2 q low)))

  -- a slot or a main word: its tree is walked at once
  root-ahead : (rest : List Name) → Before (record { rest = new.name ∷ rest; stack = []; spot = resting }) → After (next_node rest (roots_in new.name new.value))
  root-ahead rest h = next-ahead V Had index query Later rest (roots_in new.name new.value) resting (λ t. t) (λ t. t) (go h)
    where
      named : (name : Name) → new.name ≡ name → (root : ℕ) → NamesRoot name (word_of core name) root → Way V Had index root → After (record { rest = rest; stack = roots_in new.name new.value; spot = resting })
      named name same root names way =
          let own : NamesRoot new.name new.value root = subst (λ (w : ℕ). NamesRoot new.name w root) (sym value) (subst (λ (n : Name). NamesRoot n (word_of core n) root) (sym same) names) in
          by_stack (waiting root 1) (root-among new.name new.value root own) way

      go : Before (record { rest = new.name ∷ rest; stack = []; spot = resting }) → After (record { rest = rest; stack = roots_in new.name new.value; spot = resting })
      go (is_found found) = is_found (found-more found)
      go (by_slot t) =
          elim (cases_cons new.name rest (Slot t.0 t.1) t.2.0) [
            | inl same ↦ named (Slot t.0 t.1) same t.2.1.0 t.2.1.1 t.2.1.2
            | inr later ↦ by_slot (t.0, t.1, (later, t.2.1))
          ]
      go (by_main t) =
          elim (cases_cons new.name rest (Main t.0) t.1.0) [
            | inl same ↦ named (Main t.0) same t.1.1.0 t.1.1.1 t.1.1.2
            | inr later ↦ by_main (t.0, (later, t.1.1))
          ]
      go (by_stack v among way) = absurd (none_in v among)
      go (by_child t) = absurd t
      go (by_part t) = absurd t

  -- a child that leads on is the one that is read now, or a later one
  abbrev ByChild : ℕ → ℕ → Type 0
  ByChild n k = (HoldsOne Had (bound_in V n k) × Leads V Had index new.value) ⊎ ChildLeads V Had index n (k + 1)

  -- one or the other
  which-child : (n k : ℕ) → Child n k ≡ new.name → ChildLeads V Had index n k → ByChild n k
  which-child n k next t =
      elim (cases_lt k t.0) [
        | inl later ↦ inr (t.0, omega arith, t.2, t.3, t.4)
        | inr until ↦
            let low = t.1 in
            let same : t.0 ≡ k = omega arith in
            let here : V (Child n t.0) ≡ new.value = ap (λ (j : ℕ). word_of core (Child n j)) same ∙ (ap (word_of core) next ∙ sym value) in
            inl (subst (λ (j : ℕ). HoldsOne Had (bound_in V n j)) same t.3, subst (Leads V Had index) here t.4)
      ]

  -- a child that is there: its bound is read next
  some-ahead : (rest : List Name) (stack : List Waiting) (n level k : ℕ) → Child n k ≡ new.name → Before (record { rest = rest; stack = stack; spot = at_child n level k })
      → After (record { rest = rest; stack = stack; spot = at_bound n level k new.value [] })
  some-ahead rest stack n level k next h =
      ahead-map V Had index query walk Later rest stack stack (at_child n level k) (at_bound n level k new.value []) found-more (λ v among way. by_stack v among way)
      (λ t. elim (which-child n k next t) [ inl here ↦ by_part here | inr later ↦ by_child later ]) (λ t. absurd t) h

  -- one that is not there leads nowhere
  leads-none : (x : ℕ) → x ≡ 0 → ¬ Leads V Had index x
  leads-none x e (is_entry is) = absurd (omega arith)
  leads-none x e (by_node m is way) = absurd (omega arith)

  -- so the next child is read
  none-ahead : (rest : List Name) (stack : List Waiting) (n level k : ℕ) → Child n k ≡ new.name → new.value ≡ 0 → Before (record { rest = rest; stack = stack; spot = at_child n level k })
      → After (record { rest = rest; stack = stack; spot = at_child n level (k + 1) })
  none-ahead rest stack n level k next none h =
      ahead-map V Had index query walk Later rest stack stack (at_child n level k) (at_child n level (k + 1)) found-more (λ v among way. by_stack v among way)
      (λ t. elim (which-child n k next t) [ inl here ↦ absurd (leads-none new.value none here.1) | inr later ↦ by_child later ]) (λ t. absurd t) h

  -- a side, of which there are more
  holds-more : (n k : ℕ) (read : List ℕ) → Bound n k (length read) ≡ new.name → HoldsOne Had (begun_bound V walk n k read) → HoldsOne Had (begun_bound V Later n k (read ++ new.value ∷ []))
  holds-more n k read next t =
      (t.0, t.1, same-covers (begun_bound V walk n k read) t.0 (begun_bound V Later n k (read ++ new.value ∷ [])) t.0 (begun-same core query walk new bound begun n k read next) (λ q low. refl) t.2)

  -- all stays ahead
  side-ahead : (rest : List Name) (stack : List Waiting) (n level k x : ℕ) (read : List ℕ) → Bound n k (length read) ≡ new.name → Before (record { rest = rest; stack = stack; spot = at_bound n level k x read })
      → After (record { rest = rest; stack = stack; spot = at_bound n level k x (read ++ new.value ∷ []) })
  side-ahead rest stack n level k x read next h =
      ahead-map V Had index query walk Later rest stack stack (at_bound n level k x read) (at_bound n level k x (read ++ new.value ∷ [])) found-more (λ v among way. by_stack v among way) (λ t. by_child t)
      (λ t. by_part (holds-more n k read next t.0, t.1)) h

  -- the last side: a child whose bound touches is a candidate, or goes onto the stack
  module _ (rest : List Name) (stack : List Waiting) (n level k x : ℕ) (read : List ℕ) (next : Bound n k (length read) ≡ new.name) (half : IsHalfRead walk.loads n k x read)
      (part : IsReadInPart V walk n k x read) (all : length (read ++ new.value ∷ []) ≡ 6) where
    abbrev Sixth : List ℕ
    Sixth = read ++ new.value ∷ []

    -- the six sides pass the test where they contain what the body had
    passes : LeadsByPart V Had index walk (at_bound n level k x read) → Passes query Sixth
    passes t = all-pass core query walk new bound begun n k x read next (value ∙ ap (word_of core) (sym next)) part all Had touching t.0

    -- the child is then the body, which is a candidate, or a node, which goes onto the stack
    by_part-passed : Passes query Sixth → Leads V Had index x → After (record { rest = rest; stack = pushed level x stack; spot = at_child n level (k + 1) })
    by_part-passed p (is_entry e) =
        is_found (
          n,
          k,
          subst (IsLoaded Later.loads (Child n k)) e (loaded-more (Child n k) x half.child),
          (
            p.box,
            p.touch,
            λ q low. subst (λ (l : List ℕ). IsLoaded Later.loads (Bound n k q) (slice_index l q)) (sym p.words) (sides-more query walk.loads new n k x read half next q (omega arith)),
          ),
        )
    by_part-passed p (by_node m e way) = by_stack (waiting m (suc level)) (subst (λ (y : ℕ). Contains (pushed level y stack) (waiting m (suc level))) (sym e) (push-among level m stack)) way

    -- all stays ahead, or is found
    all-ahead : Before (record { rest = rest; stack = stack; spot = at_bound n level k x read })
        → After (record { rest = rest; stack = if query.test Sixth then pushed level x stack else stack; spot = at_child n level (k + 1) })
    all-ahead h =
        cond_both (query.test Sixth) _ _ (λ (s : List Waiting). After (record { rest = rest; stack = s; spot = at_child n level (k + 1) }))
        (λ passed. go (pushed level x stack) (push-more level x stack) (λ t. by_part-passed (passes t) t.1)) (λ failed. go stack (λ v among. among) (λ t. absurd (false≢true (sym failed ∙ (passes t).test))))
      where
        go : (s : List Waiting) → ((v : Waiting) → Contains stack v → Contains s v) → (LeadsByPart V Had index walk (at_bound n level k x read) → After (record { rest = rest; stack = s; spot = at_child n level (k + 1) }))
            → After (record { rest = rest; stack = s; spot = at_child n level (k + 1) })
        go s more part =
            ahead-map V Had index query walk Later rest stack s (at_bound n level k x read) (at_child n level (k + 1)) found-more (λ v among way. by_stack v (more v among) way) (λ t. by_child t) part h

  -- so wherever the walk is
  pub ahead-more : (at later : Position) → Moves query walk.loads new at later → OnlyWidens V walk at.spot → Before at → After later
  ahead-more at later (to_root rest next order) widens h = root-ahead rest h
  ahead-more at later (past_none rest stack n level k low next none) widens h = child-ahead V Had index query Later rest stack n level k (none-ahead rest stack n level k next none h)
  ahead-more at later (to_bound rest stack n level k low next some) widens h = some-ahead rest stack n level k next h
  ahead-more at later (by_side rest stack n level k x read half next less) widens h = side-ahead rest stack n level k x read next h
  ahead-more at later (past_bound rest stack n level k x read half next all) widens h =
      child-ahead V Had index query Later rest _ n level k (all-ahead rest stack n level k x read next half widens all h)
