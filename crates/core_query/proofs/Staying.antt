-- What is said of a walk, of what it reaches and has walked, is so after one load more, wherever the walk is.
use Rattle.std.proofs.Common.{◌≡◌, ◌≢◌, ◌⊎◌, ℕ, suc, ◌+◌, ◌<◌, List, [], ◌∷◌, ◌++◌, length, refl, ap, sym, ◌∙◌, subst, inl, inr, arith}
use Rattle.std.specs.Prelude.{◌==◌, ◌-◌, ◌/◌, ◌%◌}
use Rattle.std.proofs.lemmas.Bool.{cond_both}
use Rattle.std.proofs.lemmas.Bool.Decides.{nat_tests}
use Rattle.std.proofs.lemmas.Option.{same_Some}
use Rattle.word_map.specs.declared.name.Name.{Name}
use Rattle.word_map.specs.declared.name.Name.TheVariants.{Child, Bound, Main, Slot}
use Rattle.core_state.specs.declared.item.Load.{Load}
use Rattle.core_state.specs.declared.view.Waiting.{Waiting}
use Rattle.core_state.specs.Core.{Core, word_of}
use Rattle.core_state.specs.Encoding.{node_child, NamesRoot, layer_of}
use Rattle.core_state.specs.Nodes.{Nodes, under, node_in}
use Rattle.core_state.specs.TreesSound.{TreesSound}
use Rattle.core_state.specs.Walking.{Query, resting, at_child, at_bound, Position, waiting, next_node, roots_in, pushed}
use Rattle.core_state.specs.ReadersCounted.{ReachesBySpot, the_node, the_node_of_bound, by_child, by_next_child, by_part, Reaches, by_spot, layer_at_hand, IsAtHand, IsWalkedAt, WalkStays}
use Rattle.core_query.proofs.InOrder.{IsNext}
use Rattle.core_query.proofs.Replay.{Moves, to_root, past_none, to_bound, by_side, past_bound}
use Rattle.core_query.proofs.Reaching.{layer-same, walked-cases, W, Goes, next-reaches, pop-stays, goes-child, hand-reached, stay-at, pushed-goes, on-root, walked-before, root-stays}

-- the root that a word names is that of its tree
named-home : (nodes : Nodes) (core : Core) → TreesSound nodes core → (name : Name) (root : ℕ) → NamesRoot name (word_of core name) root → nodes.home root ≡ under name
named-home nodes core trees (Main l) root names = (trees.roots (Main l) root names).0
named-home nodes core trees (Slot l t) root names = (trees.roots (Slot l t) root names).0
named-home nodes core trees _ root names = absurd names

-- a walk stays, and comes to nothing but the tree that the word names
pub record ReadsOn (nodes : Nodes) (word : Name → ℕ) (loads : List Load) (new : Load) (at later : Position) : Type 0 where
  pub stays : WalkStays nodes word (loads ++ new ∷ []) later
  pub known : (a : ℕ) → Reaches word later a ⊎ IsWalkedAt (loads ++ new ∷ []) a → (Reaches word at a ⊎ IsWalkedAt loads a) ⊎ (nodes.home a ≡ under new.name)

module _ (nodes : Nodes) (core : Core) (trees : TreesSound nodes core) (query : Query) (loads : List Load) (new : Load) (value : new.value ≡ word_of core new.name) where
  abbrev Word : Name → ℕ
  Word = W nodes core trees

  abbrev Longer : List Load
  Longer = loads ++ new ∷ []

  -- with this load
  abbrev Go : Position → Position → Type 0
  Go at later = Goes nodes core trees loads Longer at later

  -- ---- a child

  module _ (rest : List Name) (stack : List Waiting) (n level k : ℕ) (low : k < 4) (next : Child n k ≡ new.name) (h : WalkStays nodes Word loads (record { rest = rest; stack = stack; spot = at_child n level k })) where
    abbrev At : Position
    At = record { rest = rest; stack = stack; spot = at_child n level k }

    -- the node at hand is walked with its first child
    child-walked : (a : ℕ) → IsWalkedAt Longer a → IsWalkedAt loads a ⊎ (n ≡ a)
    child-walked a walked = elim (walked-cases loads new a walked) [ inl before ↦ inl before | inr last ↦ inr (same_Some n a (ap node_in (next ∙ last))) ]

    -- the layer at hand is the same
    child-layer : layer_at_hand Longer ≡ layer_at_hand loads
    child-layer = layer-same loads new (ap layer_of (sym next))

    -- past a child it reaches less
    none-less : (a : ℕ) → ReachesBySpot Word a (at_child n level (k + 1)) → ReachesBySpot Word a (at_child n level k)
    none-less a (the_node l j) = the_node level k
    none-less a (by_child x l j t) = by_child n level k (t.0, t.1, (let after = t.2 in omega arith), t.3, t.4, t.5)

    -- a child that is not there is passed over
    none-goes : Go At (record { rest = rest; stack = stack; spot = at_child n level (k + 1) })
    none-goes =
        stay-at nodes core trees loads Longer rest stack (at_child n level k) (at_child n level (k + 1)) h (record {
          layer = child-layer;
          walked = λ a walked. elim (child-walked a walked) [ inl before ↦ inl before | inr same ↦ inr (same, (same, omega arith)) ];
          less = none-less;
          hand = λ a hand. hand;
          begun = λ a begun. (begun.0, omega arith);
          waits = refl;
        })

    -- by a child that is there it reaches what it did
    some-less : (a : ℕ) → ReachesBySpot Word a (at_bound n level k new.value []) → ReachesBySpot Word a (at_child n level k)
    some-less a (the_node_of_bound l j x read) = the_node level k
    some-less a (by_next_child y l j x read t) = by_child n level k (t.0, t.1, (let after = t.2 in omega arith), t.3, t.4, t.5)
    some-less a (by_part y l j x m read is below) = by_child n level k (k, m, omega arith, low, ap (word_of core) next ∙ (sym value ∙ is), below)

    -- its bound is read next
    some-goes : Go At (record { rest = rest; stack = stack; spot = at_bound n level k new.value [] })
    some-goes =
        stay-at nodes core trees loads Longer rest stack (at_child n level k) (at_bound n level k new.value []) h (record {
          layer = child-layer;
          walked = λ a walked. elim (child-walked a walked) [ inl before ↦ inl before | inr same ↦ inr (same, same) ];
          less = some-less;
          hand = λ a hand. hand;
          begun = λ a begun. begun.0;
          waits = refl;
        })

  -- ---- a side of a bound

  module _ (rest : List Name) (stack : List Waiting) (n level k x : ℕ) (read : List ℕ) (next : Bound n k (length read) ≡ new.name)
      (h : WalkStays nodes Word loads (record { rest = rest; stack = stack; spot = at_bound n level k x read })) where
    abbrev Here : Position
    Here = record { rest = rest; stack = stack; spot = at_bound n level k x read }

    -- no node is walked by it
    side-walked : (a : ℕ) → IsWalkedAt Longer a → IsWalkedAt loads a
    side-walked a walked = elim (walked-cases loads new a walked) [ inl before ↦ before | inr last ↦ let same : Bound n k (length read) ≡ Child a 0 = next ∙ last in absurd cc ]

    -- the layer at hand is the same
    side-layer : layer_at_hand Longer ≡ layer_at_hand loads
    side-layer = layer-same loads new (ap layer_of (sym next))

    -- with a side more it reaches the same
    side-less : (a : ℕ) → ReachesBySpot Word a (at_bound n level k x (read ++ new.value ∷ [])) → ReachesBySpot Word a (at_bound n level k x read)
    side-less a (the_node_of_bound l j y r) = the_node_of_bound level k x read
    side-less a (by_next_child z l j y r t) = by_next_child n level k x read t
    side-less a (by_part z l j y m r is below) = by_part n level k x m read is below

    -- further sides are read
    side-goes : Go Here (record { rest = rest; stack = stack; spot = at_bound n level k x (read ++ new.value ∷ []) })
    side-goes =
        stay-at nodes core trees loads Longer rest stack (at_bound n level k x read) (at_bound n level k x (read ++ new.value ∷ [])) h
        (record { layer = side-layer; walked = λ a walked. inl (side-walked a walked); less = side-less; hand = λ a hand. hand; begun = λ a begun. begun; waits = refl })

    -- past a child it reaches less
    past-less : (a : ℕ) → ReachesBySpot Word a (at_child n level (k + 1)) → ReachesBySpot Word a (at_bound n level k x read)
    past-less a (the_node l j) = the_node_of_bound level k x read
    past-less a (by_child z l j t) = by_next_child n level k x read t

    -- a child whose bound does not touch, or that is a body
    past-goes : Go Here (record { rest = rest; stack = stack; spot = at_child n level (k + 1) })
    past-goes =
        stay-at nodes core trees loads Longer rest stack (at_bound n level k x read) (at_child n level (k + 1)) h
        (record { layer = side-layer; walked = λ a walked. inl (side-walked a walked); less = past-less; hand = λ a hand. hand; begun = λ a begun. (begun, omega arith); waits = refl })

    -- one whose bound touches: a node goes onto the stack
    push-goes : k < 4 → x ≢ 0 → ((m : ℕ) → x ≡ node_child m → Word (Child n k) ≡ x) → Go Here (record { rest = rest; stack = pushed level x stack; spot = at_child n level (k + 1) })
    push-goes low some child =
        cond_both (x % 2 == 0) _ _ (λ (s : List Waiting). Go Here (record { rest = rest; stack = s; spot = at_child n level (k + 1) }))
        (λ even.
        let m : ℕ = (x - 2) / 2 in
        let is : x ≡ node_child m = grind (arith, nat_tests) in
        subst (λ (y : ℕ). Go (record { rest = rest; stack = stack; spot = at_bound n level k y read }) (record { rest = rest; stack = waiting m (suc level) ∷ stack; spot = at_child n level (k + 1) })) (sym is)
        (pushed-goes nodes core trees loads Longer rest stack n level k m read low
        (subst (λ (y : ℕ). WalkStays nodes Word loads (record { rest = rest; stack = stack; spot = at_bound n level k y read })) is h) (child m is ∙ is) side-layer side-walked))
        (λ odd. past-goes)

  -- ---- wherever the walk is

  -- at a node nothing else is read
  at-node : (at later : Position) → ((a : ℕ) → IsWalkedAt Longer a → IsWalkedAt loads a ⊎ IsAtHand at.spot a) → Go at later → ReadsOn nodes Word loads new at later
  at-node at later walked g = record {
    stays = g.stays;
    known = λ a from.
        inl (elim from [ inl reaches ↦ inl (g.less a reaches) | inr read ↦ elim (walked a read) [ inl before ↦ inr before | inr hand ↦ inl (by_spot (hand-reached nodes core trees at.spot a hand)) ] ]);
  }

  -- at a word that names a tree it comes to this tree alone
  at-root : (rest : List Name) → IsNext new.name rest → WalkStays nodes Word loads (record { rest = new.name ∷ rest; stack = []; spot = resting })
      → ReadsOn nodes Word loads new (record { rest = new.name ∷ rest; stack = []; spot = resting }) (next_node rest (roots_in new.name new.value))
  at-root rest next h =
      let roots = λ (root : ℕ) (names : NamesRoot new.name new.value root).
      named-home nodes core trees new.name root (subst (λ (w : ℕ). NamesRoot new.name w root) value names)
      in
      record {
        stays = pop-stays nodes core trees Longer rest (roots_in new.name new.value) (root-stays nodes core trees loads new rest h next roots);
        known = λ a from.
            elim from [
              | inl reaches ↦ inr (on-root nodes core trees loads new rest h next roots a (next-reaches nodes core trees rest (roots_in new.name new.value) a reaches))
              | inr read ↦ inl (inr (walked-before nodes core trees loads new rest h next roots a read))
            ];
      }

  -- so it is wherever the walk is
  pub stays-more : (at later : Position) → Moves query loads new at later → ((n level k x : ℕ) (read : List ℕ) → at.spot ≡ at_bound n level k x read → (m : ℕ) → x ≡ node_child m → Word (Child n k) ≡ x)
      → WalkStays nodes Word loads at → ReadsOn nodes Word loads new at later
  stays-more at later (to_root rest next order) child h = at-root rest next h
  stays-more at later (past_none rest stack n level k low next none) child h =
      at-node at later (child-walked rest stack n level k low next h) (goes-child nodes core trees loads Longer at rest stack n level k (none-goes rest stack n level k low next h))
  stays-more at later (to_bound rest stack n level k low next some) child h = at-node at later (child-walked rest stack n level k low next h) (some-goes rest stack n level k low next h)
  stays-more at later (by_side rest stack n level k x read half next less) child h =
      at-node at later (λ a walked. inl (side-walked rest stack n level k x read next h a walked)) (side-goes rest stack n level k x read next h)
  stays-more at later (past_bound rest stack n level k x read half next all) child h =
      at-node at later (λ a walked. inl (side-walked rest stack n level k x read next h a walked))
      (goes-child nodes core trees loads Longer at rest _ n level k
      (cond_both (query.test (read ++ new.value ∷ [])) _ _ (λ (s : List Waiting). Go at (record { rest = rest; stack = s; spot = at_child n level (k + 1) }))
      (λ passed. push-goes rest stack n level k x read next h half.low half.some (child n level k x read refl)) (λ failed. past-goes rest stack n level k x read next h)))
