-- The replay of the loads of a walk, and one load more: what the words read so far say of the place where the walk is.
use Rattle.std.proofs.Common.{◌≡◌, ◌≢◌, ℕ, ◌<◌, List, [], ◌∷◌, ◌++◌, length, refl, ap, sym, ◌∙◌, subst, inl, inr, arith, append_assoc}
use Rattle.std.specs.Prelude.{Some, Contains, nat_lt, if◌then◌else◌, slice_index, ◌==◌}
use Rattle.std.proofs.lemmas.Bool.{cases_lt, cond_both}
use Rattle.std.proofs.lemmas.Bool.Decides.{nat_tests}
use Rattle.std.proofs.lemmas.Option.{none-some, same_Some}
use Rattle.std.proofs.lemmas.List.{append-nil, length_push, get_or_push, get_or_append_left}
use Rattle.std.proofs.lemmas.List.Elements.{Contains-append_left, Contains-push}
use Rattle.std.proofs.lemmas.List.Sums.{fold-append}
use Rattle.word_map.specs.declared.config.Config.{Config}
use Rattle.word_map.specs.declared.name.Name.{Name}
use Rattle.word_map.specs.declared.name.Name.TheVariants.{Child, Bound}
use Rattle.core_state.specs.declared.item.Load.{Load}
use Rattle.core_state.specs.declared.view.Waiting.{Waiting}
use Rattle.core_state.specs.WalkRecord.{IsLoaded}
use Rattle.core_state.specs.Walking.{Query, Spot, resting, at_child, at_bound, Position, start, next_node, next_child, roots_in, pushed, advance_from, advance, replay, next_word, FollowsFrom, Follows, position_of}
use Rattle.core_query.proofs.InOrder.{IsNext, InOrder, asked-in-order}

-- ---- one load more

-- all loads but the last follow too
follows-before : (query : Query) (at : Position) (loads : List Load) (new : Load) → FollowsFrom query at (loads ++ new ∷ []) → FollowsFrom query at loads
follows-before query at [] new h = tt
follows-before query at (l ∷ loads) new h = (h.0, follows-before query (advance query at l) loads new h.1)

-- and the last one is of the word that is next then
follows-next : (query : Query) (at : Position) (loads : List Load) (new : Load) → FollowsFrom query at (loads ++ new ∷ [])
    → next_word (replay query at loads).rest (replay query at loads).spot ≡ Some new.name
follows-next query at [] new h = h.0
follows-next query at (l ∷ loads) new h = follows-next query (advance query at l) loads new h.1

-- loads follow a query where all but the last do, and the last one is of the word that is next
pub follows-more : (c : Config) (query : Query) (loads : List Load) (new : Load) → Follows c query (loads ++ new ∷ [])
    → Follows c query loads × (next_word (position_of c query loads).rest (position_of c query loads).spot ≡ Some new.name)
follows-more c query loads new h = (follows-before query (start c query) loads new h, follows-next query (start c query) loads new h)

-- loads go on with one of the word that is next
follows-further : (query : Query) (at : Position) (loads : List Load) (new : Load) → FollowsFrom query at loads
    → next_word (replay query at loads).rest (replay query at loads).spot ≡ Some new.name → FollowsFrom query at (loads ++ new ∷ [])
follows-further query at [] new h next = (next, tt)
follows-further query at (l ∷ loads) new h next = (h.0, follows-further query (advance query at l) loads new h.1 next)

pub follows-on : (c : Config) (query : Query) (loads : List Load) (new : Load) → Follows c query loads
    → next_word (position_of c query loads).rest (position_of c query loads).spot ≡ Some new.name → Follows c query (loads ++ new ∷ [])
follows-on c query loads new h next = follows-further query (start c query) loads new h next

-- it moves the place by one load
pub position-more : (c : Config) (query : Query) (loads : List Load) (new : Load) → position_of c query (loads ++ new ∷ []) ≡ advance query (position_of c query loads) new
position-more c query loads new = fold-append (advance query) (start c query) loads (new ∷ [])

-- ---- what holds at the start and after each further load holds of every walk

module _ (query : Query) (P : List Load → Position → Type 0)
    (more : (loads : List Load) (at : Position) (new : Load) → P loads at → next_word at.rest at.spot ≡ Some new.name → P (loads ++ new ∷ []) (advance query at new)) where
  -- from any loads on
  replay-keeps : (before later : List Load) (at : Position) → P before at → FollowsFrom query at later → P (before ++ later) (replay query at later)
  replay-keeps before [] at h follows = subst (λ (l : List Load). P l at) (sym (append-nil before)) h
  replay-keeps before (l ∷ later) at h follows =
      subst (λ (all : List Load). P all (replay query (advance query at l) later)) (append_assoc before (l ∷ []) later)
      (replay-keeps (before ++ l ∷ []) later (advance query at l) (more before at l h follows.0) follows.1)

  -- and from none
  pub position-keeps : (c : Config) (loads : List Load) → P [] (start c query) → Follows c query loads → P loads (position_of c query loads)
  position-keeps c loads h follows = replay-keeps [] loads (start c query) h follows

-- ---- where a walk is, as its loads say

-- the child and the sides of a bound that is being read were read
pub record IsHalfRead (loads : List Load) (n k x : ℕ) (read : List ℕ) : Type 0 where
  pub low : k < 4
  pub some : x ≢ 0
  pub some_left : length read < 6
  pub child : IsLoaded loads (Child n k) x
  pub sides : (q : ℕ) → q < length read → IsLoaded loads (Bound n k q) (slice_index read q)

-- a walk rests only where no node is left on its stack
abbrev pub IsSpot : List Load → List Waiting → Spot → Type 0
IsSpot loads stack resting = stack ≡ []
IsSpot loads stack (at_child n level k) = k < 4
IsSpot loads stack (at_bound n level k x read) = IsHalfRead loads n k x read

-- what the loads say of the place, and of the words that are still to be read
pub record IsReplayed (loads : List Load) (at : Position) : Type 0 where
  pub order : InOrder at.rest
  pub spot : IsSpot loads at.stack at.spot

-- ---- what one load more does to the place

-- a root is walked at once; a child 0 is passed over, and of any other the bound is read; with the sixth side the child is done,
-- and where the box touches, a node goes onto the stack
pub data Moves (query : Query) (loads : List Load) (new : Load) : Position → Position → Type 0 where
  to_root : (rest : List Name) → IsNext new.name rest → InOrder rest → Moves query loads new (record { rest = new.name ∷ rest; stack = []; spot = resting }) (next_node rest (roots_in new.name new.value))
  past_none : (rest : List Name) (stack : List Waiting) (n level k : ℕ) → k < 4 → Child n k ≡ new.name → new.value ≡ 0
      → Moves query loads new (record { rest = rest; stack = stack; spot = at_child n level k }) (next_child rest stack n level k)
  to_bound : (rest : List Name) (stack : List Waiting) (n level k : ℕ) → k < 4 → Child n k ≡ new.name → new.value ≢ 0
      → Moves query loads new (record { rest = rest; stack = stack; spot = at_child n level k }) (record { rest = rest; stack = stack; spot = at_bound n level k new.value [] })
  by_side : (rest : List Name) (stack : List Waiting) (n level k x : ℕ) (read : List ℕ) → IsHalfRead loads n k x read → Bound n k (length read) ≡ new.name → length (read ++ new.value ∷ []) < 6
      → Moves query loads new (record { rest = rest; stack = stack; spot = at_bound n level k x read }) (record { rest = rest; stack = stack; spot = at_bound n level k x (read ++ new.value ∷ []) })
  past_bound : (rest : List Name) (stack : List Waiting) (n level k x : ℕ) (read : List ℕ) → IsHalfRead loads n k x read → Bound n k (length read) ≡ new.name → length (read ++ new.value ∷ []) ≡ 6
      → Moves query loads new (record { rest = rest; stack = stack; spot = at_bound n level k x read })
      (next_child rest (if query.test (read ++ new.value ∷ []) then pushed level x stack else stack) n level k)

-- where the next node is walked
next_node-replayed : (loads : List Load) (rest : List Name) (stack : List Waiting) → InOrder rest → IsReplayed loads (next_node rest stack)
next_node-replayed loads rest [] order = record { order = order; spot = refl }
next_node-replayed loads rest (w ∷ stack) order = record { order = order; spot = omega arith }

-- where the next child is read
next_child-replayed : (loads : List Load) (rest : List Name) (stack : List Waiting) (n level k : ℕ) → InOrder rest → IsReplayed loads (next_child rest stack n level k)
next_child-replayed loads rest stack n level k order =
    cond_both (nat_lt k 3) _ _ (IsReplayed loads) (λ less. record { order = order; spot = grind (arith, nat_tests) }) (λ last. next_node-replayed loads rest stack order)

module _ (query : Query) (loads : List Load) (new : Load) where
  -- by the load at hand
  abbrev Move : Position → Position → Type 0
  Move at later = Moves query loads new at later

  -- place by place
  moves-at : (rest : List Name) (stack : List Waiting) (spot : Spot) → IsReplayed loads (record { rest = rest; stack = stack; spot = spot }) → next_word rest spot ≡ Some new.name
      → Move (record { rest = rest; stack = stack; spot = spot }) (advance_from query rest stack spot new.value)
  moves-at [] stack resting h next = absurd (none-some new.name next)
  moves-at (name ∷ rest) stack resting h next =
      let same = same_Some name new.name next in
      subst (λ (s : List Waiting). Move (record { rest = name ∷ rest; stack = s; spot = resting }) (next_node rest (roots_in name new.value))) (sym h.spot)
      (subst (λ (n : Name). Move (record { rest = n ∷ rest; stack = []; spot = resting }) (next_node rest (roots_in n new.value))) (sym same)
      (to_root rest (subst (λ (n : Name). IsNext n rest) same h.order.0) h.order.1))
  moves-at rest stack (at_child n level k) h next =
      let same = same_Some (Child n k) new.name next in
      cond_both (new.value == 0) _ _ (Move (record { rest = rest; stack = stack; spot = at_child n level k })) (λ none. past_none rest stack n level k h.spot same (grind (arith, nat_tests)))
      (λ some. to_bound rest stack n level k h.spot same (grind (arith, nat_tests)))
  moves-at rest stack (at_bound n level k x read) h next =
      let same = same_Some (Bound n k (length read)) new.name next in
      cond_both (nat_lt (length (read ++ new.value ∷ [])) 6) _ _ (Move (record { rest = rest; stack = stack; spot = at_bound n level k x read }))
      (λ less. by_side rest stack n level k x read h.spot same (grind (arith, nat_tests)))
      (λ last. past_bound rest stack n level k x read h.spot same (let long = length_push read new.value in let some = h.spot.some_left in grind (arith, nat_tests)))

  -- so it is wherever a walk reads the word that is next
  pub moves : (at : Position) → IsReplayed loads at → next_word at.rest at.spot ≡ Some new.name → Move at (advance query at new)
  moves at h next = moves-at at.rest at.stack at.spot h next

  -- ---- what is said of the place stays

  abbrev Longer : List Load
  Longer = loads ++ new ∷ []

  -- the last load is among them
  loaded-last : (name : Name) (value : ℕ) → name ≡ new.name → value ≡ new.value → IsLoaded Longer name value
  loaded-last name value names values = subst (Contains Longer) (λ i. record { name = sym names i; value = sym values i }) (Contains-push loads new)

  -- and so are those before it
  pub loaded-before : (name : Name) (value : ℕ) → IsLoaded loads name value → IsLoaded Longer name value
  loaded-before name value h = Contains-append_left loads (new ∷ []) (record { name = name; value = value }) h

  -- of a bound that is being read, with a side more, all sides were read
  pub sides-more : (n k x : ℕ) (read : List ℕ) → IsHalfRead loads n k x read → Bound n k (length read) ≡ new.name → (q : ℕ) → q < length (read ++ new.value ∷ [])
      → IsLoaded Longer (Bound n k q) (slice_index (read ++ new.value ∷ []) q)
  sides-more n k x read h name q below =
      elim (cases_lt q (length read)) [
        | inl before ↦ subst (IsLoaded Longer (Bound n k q)) (sym (get_or_append_left read (new.value ∷ []) 0 q before)) (loaded-before (Bound n k q) (slice_index read q) (h.sides q before))
        | inr last ↦
            let same : q ≡ length read = omega (arith, length_push read new.value) in
            loaded-last (Bound n k q) (slice_index (read ++ new.value ∷ []) q) (ap (Bound n k) same ∙ name) (get_or_push read new.value 0 q (sym same))
      ]

  -- whatever the load did
  pub replayed-more : (at later : Position) → Move at later → InOrder at.rest → IsReplayed Longer later
  replayed-more at later (to_root rest next order) was = next_node-replayed Longer rest (roots_in new.name new.value) order
  replayed-more at later (past_none rest stack n level k low next none) was = next_child-replayed Longer rest stack n level k was
  replayed-more at later (to_bound rest stack n level k low next some) was = record {
    order = was;
    spot = record { low = low; some = some; some_left = omega arith; child = loaded-last (Child n k) new.value next refl; sides = λ q below. absurd (omega arith) };
  }
  replayed-more at later (by_side rest stack n level k x read half next less) was = record {
    order = was;
    spot = record { low = half.low; some = half.some; some_left = less; child = loaded-before (Child n k) x half.child; sides = sides-more n k x read half next };
  }
  replayed-more at later (past_bound rest stack n level k x read half next all) was = next_child-replayed Longer rest _ n level k was

-- so at each place of a walk
pub position-replayed : (c : Config) (query : Query) (loads : List Load) → Follows c query loads → IsReplayed loads (position_of c query loads)
position-replayed c query loads follows =
    position-keeps query IsReplayed (λ loads at new h next. replayed-more query loads new at (advance query at new) (moves query loads new at h next) h.order) c loads
    (record { order = asked-in-order c query.mask; spot = refl }) follows
