-- What the next load of a walk leaves so: no node is walked twice, since a walk that is about to read the first child of a node
-- has not read it before, and each body that is read as a child is one of the world.
use Rattle.std.proofs.Common.{◌≡◌, ◌≢◌, ℕ, List, [], ◌∷◌, ◌++◌, Some, get_or, length, refl, ap, sym, ◌∙◌, subst, inl, inr, arith}
use Rattle.std.specs.Prelude.{Contains}
use Rattle.std.proofs.lemmas.Option.{none-some, same_Some}
use Rattle.std.proofs.lemmas.List.Elements.{Contains-get_or, Contains-push_cases}
use Rattle.std.proofs.lemmas.List.Quantifiers.{all_pairs_push}
use Rattle.word_map.specs.declared.name.Name.{Name}
use Rattle.word_map.specs.declared.name.Name.TheVariants.{Child, Bound}
use Rattle.core_state.specs.declared.item.Load.{Load}
use Rattle.core_state.specs.declared.view.View.{View}
use Rattle.core_state.specs.Core.{Core, word_of}
use Rattle.core_state.specs.Encoding.{body_child, layer_of}
use Rattle.core_state.specs.Scope.{word_in}
use Rattle.core_state.specs.WalkRecord.{WalksOnce, ReadsBodies}
use Rattle.core_state.specs.Walking.{Query, Spot, resting, at_child, at_bound, Position, next_word}
use Rattle.core_state.specs.ReadersCounted.{reader_scope, ReachesBySpot, the_node, by_spot, IsBegun, IsWalkedAt}
use Rattle.core_state.specs.Invariants.{Invariants}
use Rattle.core_query.specs.Ends.{IsWalking, walked_to}
use Rattle.core_query.proofs.Asked.{IsAskedWord}
use Rattle.core_query.proofs.Positions.{position-orderly}
use Rattle.core_query.proofs.Ended.{leads, stays}
use Rattle.core_query.proofs.Stacks.{child-of_world}

module _ (core : Core) (h : Invariants core) (query : Query) (seat number : ℕ) (view : View) (w : IsWalking core query seat number view) where
  abbrev at : Position
  at = walked_to core query view

  -- where the next word is a child of a node, the walk is at this node and child
  at-next_child : (rest : List Name) (spot : Spot) (n k : ℕ) → ((name : Name) → Contains rest name → IsAskedWord core.config query.mask name) → next_word rest spot ≡ Some (Child n k)
      → (level : ℕ) × (spot ≡ at_child n level k)
  at-next_child [] resting n k words e = absurd (none-some (Child n k) e)
  at-next_child (name ∷ rest) resting n k words e =
      let t = words name (0, omega arith, refl) in
      let same = same_Some name (Child n k) e in
      absurd (none-some t.layer (sym (ap layer_of same) ∙ t.of_layer))
  at-next_child rest (at_child m level j) n k words e = let same = same_Some (Child m j) (Child n k) e in (level, cc)
  at-next_child rest (at_bound m level j x read) n k words e = let same = same_Some (Bound m j (length read)) (Child n k) e in absurd cc

  next-child : (name : Name) (n k : ℕ) → next_word at.rest at.spot ≡ Some name → name ≡ Child n k → (level : ℕ) × (at.spot ≡ at_child n level k)
  next-child name n k next is = at-next_child at.rest at.spot n k (position-orderly core.config query view.walk.loads).words (next ∙ ap Some is)

  -- a node of which it is to read the first child it has not walked
  not-walked : (n level : ℕ) → at.spot ≡ at_child n level 0 → ¬ IsWalkedAt view.walk.loads n
  not-walked n level e walked =
      let reaches = by_spot (subst (ReachesBySpot (word_in reader_scope core) n) (sym e) (the_node level 0)) in
      let begun = subst (λ (spot : Spot). IsBegun spot n) e (((stays core h query seat number view w).visited n walked).1 reaches) in
      absurd (omega arith)

  -- so after the next load too no node was walked twice
  pub once-more : (name : Name) → next_word at.rest at.spot ≡ Some name → (value : ℕ) → WalksOnce (view.walk.loads ++ record { name = name; value = value } ∷ [])
  once-more name next value =
      all_pairs_push (λ (a b : Load). (n : ℕ) → a.name ≡ Child n 0 → b.name ≢ Child n 0) view.walk.loads (record { name = name; value = value }) (leads core h query seat number view w).once
      (λ k d below n was is.
      let t = next-child name n 0 next is in
      let l = get_or view.walk.loads k d in
      not-walked n t.0 t.1 (l.value, subst (λ (x : Load). Contains view.walk.loads x) (λ i. record { name = was i; value = l.value }) (Contains-get_or view.walk.loads k d below)))

  -- and each body that was read as a child is one of the world
  pub bodies-more : (name : Name) → next_word at.rest at.spot ≡ Some name
      → ReadsBodies core.config (view.walk.loads ++ record { name = name; value = word_of core name } ∷ [])
  bodies-more name next n k index among =
      elim (Contains-push_cases view.walk.loads (record { name = name; value = word_of core name }) (record { name = Child n k; value = body_child index }) among) [
        | inl before ↦ (leads core h query seat number view w).bodies n k index before
        | inr last ↦
            let is : name ≡ Child n k = ap (λ (l : Load). l.name) last in
            let t = next-child name n k next is in
            child-of_world core h query seat number view w n t.0 k index t.1 (ap (word_of core) (sym is) ∙ ap (λ (l : Load). l.value) last)
      ]
