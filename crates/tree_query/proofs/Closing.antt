-- What a walk has found, load by load, are candidates, and at its end just these.
use Rattle.std.proofs.Common.{◌≡◌, ℕ, zero, suc, ◌<◌, ◌≤◌, List, [], ◌∷◌, ◌++◌, Bool, true, length, refl, ap, sym, ◌∙◌, subst, inl, inr, arith, append_assoc}
use Rattle.std.specs.Prelude.{Contains, Some, map, slice_index, ◌==◌, ◌%◌, ◌/◌, ◌-◌, if◌then◌else◌}
use Rattle.std.specs.List.{range_with_len}
use Rattle.std.proofs.lemmas.Bool.{cases_Bool, cases_lt, lt-ltb, le-ltb, eqb-false, ne_eqb}
use Rattle.std.proofs.lemmas.Option.{none-some, same_Some}
use Rattle.std.proofs.lemmas.List.Elements.{Contains-append_left, Contains-append_right, Contains-append_cases}
use Rattle.word_map.specs.declared.config.Config.{Config}
use Rattle.word_map.specs.declared.name.Name.{Name}
use Rattle.word_map.specs.declared.name.Name.TheVariants.{Child, Bound}
use Rattle.core_state.specs.declared.item.Load.{Load}
use Rattle.core_state.specs.Encoding.{body_child, layer_of}
use Rattle.core_state.specs.WalkRecord.{IsLoaded, IsCandidate}
use Rattle.core_state.specs.Walking.{Query, Spot, resting, at_child, at_bound, Position, next_word, next_child, advance, replay, FollowsFrom, Follows, position_of, start as first_place}
use Rattle.core_state.proofs.Opening.{none_in, only}
use Rattle.core_query.specs.WholeRecord.{ReadChild, six_words, side_load, child_loads, node_loads}
use Rattle.core_query.specs.Found.{IsFound}
use Rattle.core_query.proofs.Asked.{IsAskedWord}
use Rattle.core_query.proofs.Positions.{position-orderly}
use Rattle.core_query.proofs.Finding.{loads-some}
use Rattle.core_query.proofs.Replay.{IsReplayed, Moves, to_root, past_none, to_bound, by_side, past_bound, moves, position-more, replayed-more, position-replayed, position-keeps, loaded-before, sides-more}
use Rattle.tree_query.specs.Collecting.{body_named, found_with, found_from, found_by}
use Rattle.tree_query.proofs.Trips.{found-more}

-- ---- the body that a child word names

named-body : (x index : ℕ) → Contains (body_named x) index → x ≡ body_child index
named-body x index among =
    elim (cases_Bool (x % 2 == 0)) [
      | inl even ↦ absurd (none_in index (rw even at among))
      | inr odd ↦
          let same = only ((x - 1) / 2) index (rw odd at among) in
          let rest = eqb-false (x % 2) 0 odd in
          omega arith
    ]

body-named : (index : ℕ) → Contains (body_named (body_child index)) index
body-named index = rw (ne_eqb (body_child index % 2) 0 (λ none. omega arith)) (0, omega arith, omega arith)

-- ---- what is found is a candidate

-- with a load more it is one still
candidate-later : (query : Query) (loads : List Load) (new : Load) (index : ℕ) → IsCandidate query.shape loads index → IsCandidate query.shape (loads ++ new ∷ []) index
candidate-later query loads new index h = (
  h.0,
  h.1,
  loaded-before query loads new (Child h.0 h.1) (body_child index) h.2,
  (h.3.0, h.3.1, λ q low. loaded-before query loads new (Bound h.0 h.1 q) _ (h.3.2 q low)),
)

module _ (query : Query) (loads : List Load) (new : Load) where
  -- nothing is found at a child, and with the sixth side of a bound that touches the body that it bounds
  with-sides : (n level k x : ℕ) (read : List ℕ) (index : ℕ) → Contains (found_with query (at_bound n level k x read) new.value) index
      → (6 ≤ length (read ++ new.value ∷ [])) × (query.test (read ++ new.value ∷ []) ≡ true) × Contains (body_named x) index
  with-sides n level k x read index among =
      let sides = read ++ new.value ∷ [] in
      elim (cases_lt (length sides) 6) [
        | inl less ↦ absurd (none_in index (rw (lt-ltb (length sides) 6 less) at among))
        | inr more ↦ elim (cases_Bool (query.test sides)) [
          | inl touches ↦ (more, touches, rw (le-ltb (length sides) 6 more, touches) at among)
          | inr apart ↦ absurd (none_in index (rw (le-ltb (length sides) 6 more, apart) at among))
        ]
      ]

  found-new : (at later : Position) → Moves query loads new at later → (index : ℕ) → Contains (found_with query at.spot new.value) index → IsCandidate query.shape (loads ++ new ∷ []) index
  found-new at later (to_root rest next order) index among = absurd (none_in index among)
  found-new at later (past_none rest stack n level k low next none) index among = absurd (none_in index among)
  found-new at later (to_bound rest stack n level k low next some) index among = absurd (none_in index among)
  found-new at later (by_side rest stack n level k x read half next less) index among = let t = with-sides n level k x read index among in absurd (omega (arith, t.0, less))
  found-new at later (past_bound rest stack n level k x read half next all) index among =
      let sides = read ++ new.value ∷ [] in
      let t = with-sides n level k x read index among in
      let box = (query.tests sides).0 t.1 in (
        n,
        k,
        subst (IsLoaded (loads ++ new ∷ []) (Child n k)) (named-body x index t.2) (loaded-before query loads new (Child n k) x half.child),
        (
          box.0,
          box.2,
          λ q low. subst (λ (l : List ℕ). IsLoaded (loads ++ new ∷ []) (Bound n k q) (slice_index l q)) (sym box.1) (sides-more query loads new n k x read half next q (omega (arith, low, all))),
        ),
      )

-- what holds wherever a walk comes to
record FindsCandidates (c : Config) (query : Query) (loads : List Load) (at : Position) : Type 0 where
  place : position_of c query loads ≡ at
  replayed : IsReplayed loads at
  candidates : (index : ℕ) → Contains (found_by c query loads) index → IsCandidate query.shape loads index

finds-more : (c : Config) (query : Query) (loads : List Load) (at : Position) (new : Load) → FindsCandidates c query loads at → next_word at.rest at.spot ≡ Some new.name
    → FindsCandidates c query (loads ++ new ∷ []) (advance query at new)
finds-more c query loads at new h next =
    let move = moves query loads new at h.replayed next in
    record {
      place = position-more c query loads new ∙ ap (λ (p : Position). advance query p new) h.place;
      replayed = replayed-more query loads new at (advance query at new) move h.replayed.order;
      candidates = λ index among.
          elim (Contains-append_cases (found_by c query loads) (found_with query (position_of c query loads).spot new.value) index (subst (λ (l : List ℕ). Contains l index) (found-more query (first_place c query) loads new) among)) [
            | inl before ↦ candidate-later query loads new index (h.candidates index before)
            | inr last ↦ found-new query loads new at (advance query at new) move index (subst (λ (p : Position). Contains (found_with query p.spot new.value) index) h.place last)
          ];
    }

pub found-candidate : (c : Config) (query : Query) (loads : List Load) → Follows c query loads → (index : ℕ) → Contains (found_by c query loads) index → IsCandidate query.shape loads index
found-candidate c query loads follows =
    (position-keeps query (FindsCandidates c query) (finds-more c query) c loads
    (record { place = refl; replayed = position-replayed c query [] tt; candidates = λ index among. absurd (none_in index among) }) follows).candidates

-- ---- what was read with a bound that touches is found

found-joined : (query : Query) (at : Position) (before later : List Load) → found_from query at (before ++ later) ≡ found_from query at before ++ found_from query (replay query at before) later
found-joined query at [] later = refl
found-joined query at (l ∷ before) later =
    ap (λ (found : List ℕ). found_with query at.spot l.value ++ found) (found-joined query (advance query at l) before later)
    ∙ sym (append_assoc (found_with query at.spot l.value) (found_from query (advance query at l) before) (found_from query (replay query (advance query at l) before) later))

follows-later : (query : Query) (at : Position) (before later : List Load) → FollowsFrom query at (before ++ later) → FollowsFrom query (replay query at before) later
follows-later query at [] later h = h
follows-later query at (l ∷ before) later h = follows-later query (advance query at l) before later h.1

-- the loads of a child stand among those of its node
record IsPartOf (loads part : List Load) : Type 0 where
  before : List Load
  later : List Load
  parts : loads ≡ before ++ (part ++ later)

child-part : (n : ℕ) (children : ℕ → ReadChild) (k : ℕ) → k < 4 → IsPartOf (node_loads n children) (child_loads n k (children k))
child-part n children zero low = record { before = []; later = child_loads n 1 (children 1) ++ (child_loads n 2 (children 2) ++ (child_loads n 3 (children 3) ++ [])); parts = refl }
child-part n children (suc zero) low = record { before = child_loads n 0 (children 0); later = child_loads n 2 (children 2) ++ (child_loads n 3 (children 3) ++ []); parts = refl }
child-part n children (suc (suc zero)) low = record {
  before = child_loads n 0 (children 0) ++ child_loads n 1 (children 1);
  later = child_loads n 3 (children 3) ++ [];
  parts = sym (append_assoc (child_loads n 0 (children 0)) (child_loads n 1 (children 1)) (child_loads n 2 (children 2) ++ (child_loads n 3 (children 3) ++ [])));
}
child-part n children (suc (suc (suc zero))) low = record {
  before = child_loads n 0 (children 0) ++ (child_loads n 1 (children 1) ++ child_loads n 2 (children 2));
  later = [];
  parts = sym (append_assoc (child_loads n 0 (children 0)) (child_loads n 1 (children 1) ++ child_loads n 2 (children 2)) (child_loads n 3 (children 3) ++ [])
      ∙ ap (λ (l : List Load). child_loads n 0 (children 0) ++ l) (append_assoc (child_loads n 1 (children 1)) (child_loads n 2 (children 2)) (child_loads n 3 (children 3) ++ [])));
}
child-part n children (suc (suc (suc (suc k)))) low = absurd (omega arith)

-- and so among all loads where the node was read
part-within : (all : List Load) (front back : List Load) (loads part : List Load) → all ≡ front ++ (loads ++ back) → IsPartOf loads part → IsPartOf all part
part-within all front back loads part e h = record {
  before = front ++ h.before;
  later = h.later ++ back;
  parts = e ∙ (ap (λ (l : List Load). front ++ (l ++ back)) h.parts ∙ split front h.before part h.later back);
}
  where
    split : (a b c d e : List Load) → a ++ ((b ++ (c ++ d)) ++ e) ≡ (a ++ b) ++ (c ++ (d ++ e))
    split a b c d e = simp append_assoc

-- a walk that reads a child next is at this child
at-next-child : (c : Config) (mask : ℕ) (rest : List Name) (spot : Spot) (n k : ℕ) → ((name : Name) → Contains rest name → IsAskedWord c mask name) → next_word rest spot ≡ Some (Child n k)
    → (level : ℕ) × (spot ≡ at_child n level k)
at-next-child c mask [] resting n k words e = absurd (none-some (Child n k) e)
at-next-child c mask (name ∷ rest) resting n k words e =
    let t = words name (0, omega arith, refl) in
    let same = same_Some name (Child n k) e in
    absurd (none-some t.layer (sym (ap layer_of same) ∙ t.of_layer))
at-next-child c mask rest (at_child m level j) n k words e = let same = same_Some (Child m j) (Child n k) e in (level, cc)
at-next-child c mask rest (at_bound m level j x read) n k words e = let same = same_Some (Bound m j (length read)) (Child n k) e in absurd cc

-- at this child it finds the body that the child is
finds-child : (query : Query) (at : Position) (n level k index : ℕ) (child : ReadChild) (later : List Load) → at.spot ≡ at_child n level k → child.word ≡ body_child index
    → query.test (six_words child.bound) ≡ true → Contains (found_from query at (child_loads n k child ++ later)) index
finds-child query at n level k index child later spot body touches =
    let some = ne_eqb child.word 0 (λ none. omega arith) in
    let there : Position = record { rest = at.rest; stack = at.stack; spot = at_child n level k } in
    subst (λ (p : Position). Contains (found_from query p (child_loads n k child ++ later)) index) (λ i. record { rest = at.rest; stack = at.stack; spot = sym spot i })
    (subst (λ (loads : List Load). Contains (found_from query there (loads ++ later)) index) (sym (loads-some n k child some))
    (subst (λ (b : Bool). Contains (found_from query (after b) (map (side_load n k child.bound) (range_with_len 0 6) ++ later)) index) (sym some)
    (Contains-append_left (if query.test (six_words child.bound) then body_named child.word else []) _ index
    (subst (λ (b : Bool). Contains (if b then body_named child.word else []) index) (sym touches) (subst (λ (x : ℕ). Contains (body_named x) index) (sym body) (body-named index))))))
  where
    after : Bool → Position
    after b = if b then next_child at.rest at.stack n level k else record { rest = at.rest; stack = at.stack; spot = at_bound n level k child.word [] }

pub read-found : (c : Config) (query : Query) (loads : List Load) → Follows c query loads → (index : ℕ) → IsFound query loads index → Contains (found_by c query loads) index
read-found c query loads follows index found =
    let n = found.node in
    let k = found.k in
    let child = found.children k in
    let part = part-within loads found.read.0 found.read.1 (node_loads n found.children) (child_loads n k child) found.read.2 (child-part n found.children k found.low) in
    let at = position_of c query part.before in
    let next = follows-later query (first_place c query) part.before (child_loads n k child ++ part.later) (subst (Follows c query) part.parts follows) in
    let there = at-next-child c query.mask at.rest at.spot n k (position-orderly c query part.before).words next.0 in
    subst (λ (l : List Load). Contains (found_by c query l) index) (sym part.parts)
    (subst (λ (l : List ℕ). Contains l index) (sym (found-joined query (first_place c query) part.before (child_loads n k child ++ part.later)))
    (Contains-append_right (found_by c query part.before) (found_from query at (child_loads n k child ++ part.later)) index
    (finds-child query at n there.0 k index child part.later there.1 found.body found.touches)))
