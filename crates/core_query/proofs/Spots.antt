-- The bound at hand after one load more: it only widens, and lies in the space of the layer, and so does each side that was read.
use Rattle.std.proofs.Common.{◌≡◌, ◌≢◌, ◌⊎◌, ℕ, ◌+◌, ◌<◌, ◌≤◌, List, [], ◌∷◌, ◌++◌, length, None, refl, ap, sym, ◌∙◌, subst, inl, inr, arith}
use Rattle.std.specs.Prelude.{IfSome, Option, nat_lt, ◌-◌, ⊤}
use Rattle.std.proofs.lemmas.Bool.{cases_lt, cond_both}
use Rattle.word_map.specs.declared.name.Name.{Name}
use Rattle.word_map.specs.declared.name.Name.TheVariants.{Child, Bound, Main, Slot}
use Rattle.core_state.specs.declared.item.Load.{Load}
use Rattle.core_state.specs.declared.view.Waiting.{Waiting}
use Rattle.core_state.specs.declared.view.Walk.{Walk}
use Rattle.core_state.specs.Core.{Core, word_of}
use Rattle.core_state.specs.Encoding.{Sides, Covers, bound_in, layer_of}
use Rattle.core_state.specs.Nodes.{Nodes, Stands}
use Rattle.core_state.specs.Scope.{Sight, sight, word_in}
use Rattle.core_state.specs.Space.{IsInLayer, IsInSpace, IsSideIn}
use Rattle.core_state.specs.TreesSound.{TreesSound}
use Rattle.core_state.specs.Walking.{Query, Spot, resting, at_child, at_bound, Position, next_node, next_child}
use Rattle.core_state.specs.WalksLead.{walk_scope, OnlyWidens, IsReadInPart, mixed}
use Rattle.core_state.specs.ReadersCounted.{ReadersCounted, reader_scope, the_node, by_spot, layer_at_hand, WalkStays, ReadsInSpace}
use Rattle.core_state.proofs.Starting.{some-last}
use Rattle.core_guard.proofs.Leaving.{live-stands, if_some_map}
use Rattle.core_query.proofs.InOrder.{IsNext}
use Rattle.core_query.proofs.Replay.{Moves, to_root, past_none, to_bound, by_side, past_bound}
use Rattle.core_query.proofs.HalfRead.{KeepsBegun, longer_walk, mixed-nothing, same-covers, read-more}
use Rattle.core_query.proofs.Reaching.{layer-same}

-- ---- what is said of a bound at hand, and nothing of a walk elsewhere

module _ (P : Spot → Type 0) (rests : P resting) (at_node : (n level k : ℕ) → P (at_child n level k)) where
  -- at the next node nothing is read yet
  next-spot : (rest : List Name) (stack : List Waiting) → P (next_node rest stack).spot
  next-spot rest [] = rests
  next-spot rest (v ∷ stack) = at_node v.node v.level 0

  -- nor at the next child
  child-spot : (rest : List Name) (stack : List Waiting) (n level k : ℕ) → P (next_child rest stack n level k).spot
  child-spot rest stack n level k = cond_both (nat_lt k 3) _ _ (λ (at : Position). P at.spot) (λ more. at_node n level (k + 1)) (λ last. next-spot rest stack)

-- ---- the last of some loads

-- where loads with one more are parted by one of them, this is the last one, or one of those before
last-or-before : (loads before later : List Load) (new one : Load) → loads ++ new ∷ [] ≡ before ++ one ∷ later → ((loads ≡ before) × (new ≡ one)) ⊎ ((more : List Load) × (loads ≡ before ++ one ∷ more))
last-or-before [] [] later new one e = inl (refl, cc)
last-or-before [] (y ∷ before) later new one e = absurd (some-last before later one cc)
last-or-before (x ∷ loads) [] later new one e = let same : x ≡ one = cc in inr (loads, λ i. same i ∷ loads)
last-or-before (x ∷ loads) (y ∷ before) later new one e =
    let same : x ≡ y = cc in
    elim (last-or-before loads before later new one cc) [
      | inl last ↦ inl (λ i. same i ∷ last.0 i, last.1)
      | inr more ↦ inr (more.0, λ i. same i ∷ more.1 i)
    ]

-- ---- one load more

module _ (nodes : Nodes) (core : Core) (trees : TreesSound nodes core) (query : Query) (walk : Walk) (new : Load) (value : new.value ≡ word_of core new.name) where
  abbrev Stays : Position → Type 0
  Stays at = WalkStays nodes (word_in reader_scope core) walk.loads at

  -- the word that is read now
  now : (name : Name) → name ≡ new.name → word_of core name ≡ new.value
  now name next = ap (word_of core) next ∙ sym value

  -- ---- bounds only widen

  module _ (bound : List ℕ) (begun : KeepsBegun (word_in walk_scope core) walk new bound) where
    abbrev V : Name → ℕ
    V = word_in walk_scope core

    abbrev Later : Walk
    Later = longer_walk walk new bound

    -- nothing of the bound is read yet
    first-read : (n k : ℕ) → k < 4 → Stands (nodes.home n) → Child n k ≡ new.name → new.value ≢ 0 → IsReadInPart V Later n k new.value []
    first-read n k low stands next some =
        let box = (trees.sound n stands).bounds k low (λ none. some (sym (now (Child n k) next) ∙ none)) in
        let is : Sides = bound_in V n k in
        let itself : Covers is is = λ q less. (omega arith, omega arith) in
        record {
          box = box;
          begun_box = box;
          now = same-covers is is is (mixed [] is) (λ q less. refl) (λ q less. sym (mixed-nothing is q)) itself;
          begun = same-covers is is (mixed [] is) is (λ q less. sym (mixed-nothing is q)) (λ q less. refl) itself;
          child = λ m node. now (Child n k) next;
        }

    -- so wherever the walk is
    pub widens-more : (at later : Position) → Moves query walk.loads new at later → Stays at → OnlyWidens V walk at.spot → OnlyWidens V Later later.spot
    widens-more at later (to_root rest next order) h widens = next-spot (OnlyWidens V Later) tt (λ n level k. tt) rest _
    widens-more at later (past_none rest stack n level k low next none) h widens = child-spot (OnlyWidens V Later) tt (λ m l j. tt) rest stack n level k
    widens-more at later (to_bound rest stack n level k low next some) h widens = first-read n k low (live-stands (nodes.home n) (h.live n (by_spot (the_node level k))).0) next some
    widens-more at later (by_side rest stack n level k x read half next less) h widens =
        read-more core query walk new bound begun n k x read next (sym (now (Bound n k (length read)) next)) widens
    widens-more at later (past_bound rest stack n level k x read half next all) h widens = child-spot (OnlyWidens V Later) tt (λ m l j. tt) rest _ n level k

  -- ---- what is read lies in the space

  module _ (readers : ReadersCounted nodes core) where
    abbrev S : Sight
    S = sight reader_scope core

    abbrev Longer : List Load
    Longer = walk.loads ++ new ∷ []

    -- a bound lies in the space of the layer at hand
    abbrev BoundIn : List Load → ℕ → ℕ → Type 0
    BoundIn loads n k = IfSome (layer_at_hand loads) (λ l. IsInSpace S l (bound_in S.word n k))

    -- and so does the one that is read in part
    abbrev PartIn : List Load → Spot → Type 0
    PartIn loads (at_bound n level k x read) = BoundIn loads n k
    PartIn loads _ = ⊤

    -- it did so before
    part-was : (at : Position) → ReadsInSpace S walk.loads at → PartIn walk.loads at.spot
    part-was at h = go at.spot (λ i. at.spot)
      where
        go : (spot : Spot) → at.spot ≡ spot → PartIn walk.loads spot
        go resting e = tt
        go (at_child n level k) e = tt
        go (at_bound n level k x read) e = h.part n level k x read e

    -- the layer at hand is the same where no slot and no main word was read
    same-layer : (name : Name) → name ≡ new.name → layer_of name ≡ None → (n k : ℕ) → BoundIn walk.loads n k → BoundIn Longer n k
    same-layer name same none n k h = subst (λ (o : Option ℕ). IfSome o (λ l. IsInSpace S l (bound_in S.word n k))) (sym (layer-same walk.loads new (ap layer_of (sym same) ∙ none))) h

    -- it does so with a load more
    part-more : (at later : Position) → Moves query walk.loads new at later → Stays at → PartIn walk.loads at.spot → PartIn Longer later.spot
    part-more at later (to_root rest next order) h part = next-spot (PartIn Longer) tt (λ n level k. tt) rest _
    part-more at later (past_none rest stack n level k low next none) h part = child-spot (PartIn Longer) tt (λ m l j. tt) rest stack n level k
    part-more at later (to_bound rest stack n level k low next some) h part =
        let live = h.live n (by_spot (the_node level k)) in
        same-layer (Child n k) next refl n k
        (if_some_map (layer_at_hand walk.loads) _ _ (λ l of. readers.space n k l live.0 of low (λ none. some (sym (now (Child n k) next) ∙ none))) live.1)
    part-more at later (by_side rest stack n level k x read half next less) h part = same-layer (Bound n k (length read)) next refl n k part
    part-more at later (past_bound rest stack n level k x read half next all) h part = child-spot (PartIn Longer) tt (λ m l j. tt) rest _ n level k

    -- the side that is read now
    abbrev SideIn : Name → ℕ → Type 0
    SideIn (Bound n k q) v = IfSome (layer_at_hand walk.loads) (λ l. IsSideIn (IsInLayer S l) q v)
    SideIn _ v = ⊤

    -- each side of a bound in the space lies in it
    side-of : (l n k q : ℕ) → q < 6 → IsInSpace S l (bound_in S.word n k) → IsSideIn (IsInLayer S l) q (S.word (Bound n k q))
    side-of l n k q low h =
        elim (cases_lt q 3) [
          | inl less ↦ let t = (h q less).0 in (t.0, t.1, (λ lo. t.2), (λ hi. absurd (omega arith)))
          | inr more ↦
              let at : 3 + (q - 3) ≡ q = omega arith in
              let t = (h (q - 3) (omega arith)).1 in
              (t.0, subst (λ (p : ℕ). IsInLayer S l p t.0) at t.1, (λ lo. absurd (omega arith)), (λ hi. subst (λ (p : ℕ). S.word (Bound n k p) ≤ t.0) at t.2))
        ]

    -- so does the one of the bound at hand
    side-in : (n k : ℕ) (read : List ℕ) → length read < 6 → Bound n k (length read) ≡ new.name → BoundIn walk.loads n k → SideIn new.name new.value
    side-in n k read low next part =
        subst (λ (name : Name). SideIn name new.value) next
        (if_some_map (layer_at_hand walk.loads) _ _ (λ l space. subst (IsSideIn (IsInLayer S l) (length read)) (now (Bound n k (length read)) next) (side-of l n k (length read) low space)) part)

    -- and no other word that is read is a side
    side-now : (at later : Position) → Moves query walk.loads new at later → PartIn walk.loads at.spot → SideIn new.name new.value
    side-now at later (to_root rest next order) part = none new.name next
      where
        none : (name : Name) → IsNext name rest → SideIn name new.value
        none (Main l) h = tt
        none (Slot l t) h = tt
        none _ h = absurd h
    side-now at later (past_none rest stack n level k low next none) part = subst (λ (name : Name). SideIn name new.value) next tt
    side-now at later (to_bound rest stack n level k low next some) part = subst (λ (name : Name). SideIn name new.value) next tt
    side-now at later (by_side rest stack n level k x read half next less) part = side-in n k read half.some_left next part
    side-now at later (past_bound rest stack n level k x read half next all) part = side-in n k read half.some_left next part

    -- so all that was read lies in the space
    pub space-more : (at later : Position) → Moves query walk.loads new at later → Stays at → ReadsInSpace S walk.loads at → ReadsInSpace S Longer later
    space-more at later m h reads = record {
      sides = λ before rest n k q v e.
          elim (last-or-before walk.loads before rest new (record { name = Bound n k q; value = v }) e) [
            | inl last ↦
                subst (λ (b : List Load). IfSome (layer_at_hand b) (λ l. IsSideIn (IsInLayer S l) q v)) last.0 (subst (λ (l : Load). SideIn l.name l.value) last.1 (side-now at later m (part-was at reads)))
            | inr more ↦ reads.sides before more.0 n k q v more.1
          ];
      part = λ n level k x read e. subst (PartIn Longer) e (part-more at later m h (part-was at reads));
    }
