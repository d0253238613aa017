-- What a walk reaches after one load more: no more than it reached before, or the tree whose root it has read.
use Rattle.std.proofs.Common.{◌≡◌, ◌⊎◌, ℕ, zero, suc, ◌+◌, ◌<◌, ◌≤◌, List, [], ◌∷◌, ◌++◌, Some, None, refl, ap, sym, ◌∙◌, subst, inl, inr, arith}
use Rattle.std.specs.Prelude.{Option, Contains, AllPairs, IfSome, map, nat_lt, nat_le, ◌-◌}
use Rattle.std.proofs.lemmas.Bool.{cond_both}
use Rattle.std.proofs.lemmas.Bool.Decides.{nat_tests}
use Rattle.std.proofs.lemmas.Option.{none-some}
use Rattle.std.proofs.lemmas.List.{get_or-map, length-map}
use Rattle.std.proofs.lemmas.List.Elements.{Contains-get_or, Contains-append_right, Contains-push_cases}
use Rattle.std.proofs.lemmas.List.Kept.{AllPairs-cons}
use Rattle.std.proofs.lemmas.List.Sums.{fold-append}
use Rattle.word_map.specs.declared.name.Name.{Name}
use Rattle.word_map.specs.declared.name.Name.TheVariants.{Child, Parent, Main, Slot}
use Rattle.core_state.specs.declared.item.Load.{Load}
use Rattle.core_state.specs.declared.view.Waiting.{Waiting}
use Rattle.core_state.specs.Core.{Core}
use Rattle.core_state.specs.Encoding.{node_child, place, NamesRoot, layer_of}
use Rattle.core_state.specs.Nodes.{Nodes, under, IsLive, Stands, IsOfLayer, Below, itself, lower}
use Rattle.core_state.specs.Scope.{word_in}
use Rattle.core_state.specs.TreesSound.{TreesSound}
use Rattle.core_state.specs.Walking.{Spot, resting, at_child, at_bound, Position, waiting, next_node, next_child, roots_in}
use Rattle.core_state.specs.ReadersCounted.{reader_scope, ReachesBySpot, the_node, the_node_of_bound, by_child, by_next_child, by_part, Reaches, by_stack, by_spot, layer_after, layer_at_hand, IsAtHand, IsBegun, waiting_at, AreApart, IsWalkedAt, WalkStays}
use Rattle.core_state.proofs.Beginning.{cases_cons, contains_first}
use Rattle.core_state.proofs.Opening.{none_in, only}
use Rattle.core_guard.proofs.Leaving.{live-stands}
use Rattle.core_guard.proofs.ReadersLeft.{map-back}
use Rattle.core_query.proofs.InOrder.{IsNext, next-once}
use Rattle.core_query.proofs.Descendants.{IsUnder, child-of, child-stands, below-home, below-deeper, below-parent}

-- ---- one load more

module _ (loads : List Load) (new : Load) where
  abbrev Longer : List Load
  Longer = loads ++ new ∷ []

  -- the layer at hand follows from the last load
  layer-more : layer_at_hand Longer ≡ layer_after (layer_at_hand loads) new
  layer-more = fold-append layer_after None loads (new ∷ [])

  -- the layer at hand is that of the word, and as before where the word has none
  pub layer-named : (l : ℕ) → layer_of new.name ≡ Some l → layer_at_hand Longer ≡ Some l
  layer-named l of = layer-more ∙ go new.name of
    where
      go : (name : Name) → layer_of name ≡ Some l → layer_after (layer_at_hand loads) (record { name = name; value = new.value }) ≡ Some l
      go (Main layer) e = e
      go (Slot layer t) e = e
      go _ e = absurd (none-some l e)

  -- where it has none it is the one before
  pub layer-same : layer_of new.name ≡ None → layer_at_hand Longer ≡ layer_at_hand loads
  layer-same of = layer-more ∙ go new.name of
    where
      go : (name : Name) → layer_of name ≡ None → layer_after (layer_at_hand loads) (record { name = name; value = new.value }) ≡ layer_at_hand loads
      go (Main layer) e = absurd (none-some layer (sym e))
      go (Slot layer t) e = absurd (none-some layer (sym e))
      go _ e = refl

  -- a node that was walked then was walked before, or its first child is the word
  pub walked-cases : (n : ℕ) → IsWalkedAt Longer n → IsWalkedAt loads n ⊎ (new.name ≡ Child n 0)
  walked-cases n walked =
      elim (Contains-push_cases loads new (record { name = Child n 0; value = walked.0 }) walked.1) [ inl before ↦ inl (walked.0, before) | inr last ↦ inr (ap (λ (l : Load). l.name) last) ]

-- ---- stacks

module _ (R : ℕ → ℕ → Type 0) (v : Waiting) (stack : List Waiting) where
  -- each two nodes of a stack
  abbrev Pairs : List Waiting → Type 0
  Pairs waits = AllPairs R (map (λ u. u.node) waits)

  -- the first one and a later one
  pairs-head : Pairs (v ∷ stack) → (u : Waiting) → Contains stack u → R v.node u.node
  pairs-head h u among =
      let at = get_or-map (λ (w : Waiting). w.node) stack among.0 u u.node among.1 ∙ ap (λ (w : Waiting). w.node) among.2 in
      subst (R v.node) at (h zero (suc among.0) u.node (omega arith) (let long = length-map stack (λ (w : Waiting). w.node) in let low = among.1 in omega arith))

  -- two later ones
  pairs-tail : Pairs (v ∷ stack) → Pairs stack
  pairs-tail h i j d less inside = h (suc i) (suc j) d (omega arith) (omega arith)

  -- one more in front
  pairs-more : ((u : Waiting) → Contains stack u → R v.node u.node) → Pairs stack → Pairs (v ∷ stack)
  pairs-more first h =
      AllPairs-cons R v.node (map (λ u. u.node) stack)
      (λ k d inside. let t = map-back (λ u. u.node) stack _ (Contains-get_or (map (λ u. u.node) stack) k d inside) in subst (R v.node) t.2 (first t.0 t.1)) h

-- ---- a walk in a core whose trees are sound

module _ (nodes : Nodes) (core : Core) (trees : TreesSound nodes core) where
  abbrev pub W : Name → ℕ
  W = word_in reader_scope core

  -- ---- a walk that goes on with its stack

  -- a node on the stack, or below one
  abbrev pub OnStack : List Waiting → ℕ → Type 0
  OnStack stack a = (v : Waiting) × Contains stack v × Below W v.node a

  -- what is said of a walk that is between two nodes
  pub record StackStays (loads : List Load) (rest : List Name) (stack : List Waiting) : Type 0 where
    pub live : (a : ℕ) → OnStack stack a → IsLive (nodes.home a) × IfSome (layer_at_hand loads) (λ l. IsOfLayer l (nodes.home a))
    pub apart : AllPairs (AreApart W) (map (λ v. v.node) stack)
    pub levels : (v : Waiting) → Contains stack v → v.level ≤ suc (nodes.depth v.node)
    pub read : (a : ℕ) (name : Name) → OnStack stack a ⊎ IsWalkedAt loads a → nodes.home a ≡ under name → ¬ Contains rest name
    pub visited : (n : ℕ) → IsWalkedAt loads n → IsLive (nodes.home n) × ¬ OnStack stack n

  -- a walk that rests is at no node
  resting-none : (a : ℕ) → ¬ ReachesBySpot W a resting
  resting-none a h = elim h [ ]

  -- at a child it reaches what is below the node
  child-reaches : (n level k a : ℕ) → ReachesBySpot W a (at_child n level k) → Below W n a
  child-reaches n level k a (the_node l j) = itself a
  child-reaches n level k a (by_child x l j h) = lower n h.0 h.1 a h.3 h.4 h.5

  -- with the next node it reaches what is below its stack
  pub next-reaches : (rest : List Name) (stack : List Waiting) (a : ℕ) → Reaches W (next_node rest stack) a → OnStack stack a
  next-reaches rest [] a (by_stack v among below) = absurd (none_in v among)
  next-reaches rest [] a (by_spot h) = absurd (resting-none a h)
  next-reaches rest (v ∷ stack) a (by_stack u among below) = (u, Contains-append_right (v ∷ []) stack u among, below)
  next-reaches rest (v ∷ stack) a (by_spot h) = (v, contains_first v stack, child-reaches v.node v.level 0 a h)

  -- so the same is said of it there
  pub pop-stays : (loads : List Load) (rest : List Name) (stack : List Waiting) → StackStays loads rest stack → WalkStays nodes W loads (next_node rest stack)
  pop-stays loads rest [] h = record {
    live = λ a reaches. h.live a (next-reaches rest [] a reaches);
    apart = h.apart;
    ahead = λ v among reaches. none_in v among;
    behind = λ v n among hand below. none_in v among;
    levels = λ v among. absurd (none_in v among);
    read = λ a name from. h.read a name (elim from [ inl reaches ↦ inl (next-reaches rest [] a reaches) | inr walked ↦ inr walked ]);
    visited = λ n walked. ((h.visited n walked).0, λ reaches. absurd ((h.visited n walked).1 (next-reaches rest [] n reaches)));
  }
  pop-stays loads rest (v ∷ stack) h = record {
    live = λ a reaches. h.live a (next-reaches rest (v ∷ stack) a reaches);
    apart = pairs-tail (AreApart W) v stack h.apart;
    ahead = λ u among reaches. (pairs-head (AreApart W) v stack h.apart u among).0 (child-reaches v.node v.level 0 u.node reaches);
    behind = λ u n among hand below. (pairs-head (AreApart W) v stack h.apart u among).1 (subst (Below W u.node) (sym hand) below);
    levels = λ u among. h.levels u among;
    read = λ a name from. h.read a name (elim from [ inl reaches ↦ inl (next-reaches rest (v ∷ stack) a reaches) | inr walked ↦ inr walked ]);
    visited = λ n walked. ((h.visited n walked).0, λ reaches. absurd ((h.visited n walked).1 (next-reaches rest (v ∷ stack) n reaches)));
  }

  -- a walk whose stack stays has it left where it is done with a node
  stack-left : (loads : List Load) (at : Position) → WalkStays nodes W loads at → StackStays loads at.rest at.stack
  stack-left loads at h = record {
    live = λ a t. h.live a (by_stack t.0 t.1 t.2);
    apart = h.apart;
    levels = λ v among. h.levels v (waits at.spot v among);
    read = λ a name from. h.read a name (elim from [ inl t ↦ inl (by_stack t.0 t.1 t.2) | inr walked ↦ inr walked ]);
    visited = λ n walked. let old = h.visited n walked in (old.0, λ t. h.behind t.0 n t.1 (begun at.spot n (old.1 (by_stack t.0 t.1 t.2))) t.2);
  }
    where
      waits : (spot : Spot) (v : Waiting) → Contains at.stack v → Contains (waiting_at spot at.stack) v
      waits resting v among = among
      waits (at_child n level k) v among = Contains-append_right (waiting n level ∷ []) at.stack v among
      waits (at_bound n level k x read) v among = Contains-append_right (waiting n level ∷ []) at.stack v among

      begun : (spot : Spot) (n : ℕ) → IsBegun spot n → IsAtHand spot n
      begun resting n h = h
      begun (at_child m level k) n h = h.0
      begun (at_bound m level k x read) n h = h

  -- ---- from one place to the next

  -- what is said of a walk stays, and it reaches no more
  pub record Goes (loads longer : List Load) (at later : Position) : Type 0 where
    pub stays : WalkStays nodes W longer later
    pub less : (a : ℕ) → Reaches W later a → Reaches W at a

  -- on to the next node of the stack
  goes-next : (loads longer : List Load) (at later : Position) → Goes loads longer at later → Goes loads longer at (next_node later.rest later.stack)
  goes-next loads longer at later g = record {
    stays = pop-stays longer later.rest later.stack (stack-left longer later g.stays);
    less = λ a reaches. let t = next-reaches later.rest later.stack a reaches in g.less a (by_stack t.0 t.1 t.2);
  }

  -- on to the next child, or to the next node after the last
  pub goes-child : (loads longer : List Load) (at : Position) (rest : List Name) (stack : List Waiting) (n level k : ℕ) → Goes loads longer at (record { rest = rest; stack = stack; spot = at_child n level (k + 1) })
      → Goes loads longer at (next_child rest stack n level k)
  goes-child loads longer at rest stack n level k g =
      cond_both (nat_lt k 3) _ _ (Goes loads longer at) (λ more. g) (λ last. goes-next loads longer at (record { rest = rest; stack = stack; spot = at_child n level (k + 1) }) g)

  -- the node at hand is reached
  pub hand-reached : (spot : Spot) (n : ℕ) → IsAtHand spot n → ReachesBySpot W n spot
  hand-reached resting n hand = absurd hand
  hand-reached (at_child m level k) n hand = subst (λ (x : ℕ). ReachesBySpot W x (at_child m level k)) hand (the_node level k)
  hand-reached (at_bound m level k x read) n hand = subst (λ (y : ℕ). ReachesBySpot W y (at_bound m level k x read)) hand (the_node_of_bound level k x read)

  -- what was read last, at a node of which the walk reads on
  pub record ReadsAt (loads longer : List Load) (spot later : Spot) (stack : List Waiting) : Type 0 where
    pub layer : layer_at_hand longer ≡ layer_at_hand loads
    pub walked : (n : ℕ) → IsWalkedAt longer n → IsWalkedAt loads n ⊎ (IsAtHand spot n × IsBegun later n)
    pub less : (a : ℕ) → ReachesBySpot W a later → ReachesBySpot W a spot
    pub hand : (n : ℕ) → IsAtHand later n → IsAtHand spot n
    pub begun : (n : ℕ) → IsBegun spot n → IsBegun later n
    pub waits : waiting_at later stack ≡ waiting_at spot stack

  -- then what is said of it stays
  pub stay-at : (loads longer : List Load) (rest : List Name) (stack : List Waiting) (spot later : Spot) → WalkStays nodes W loads (record { rest = rest; stack = stack; spot = spot }) → ReadsAt loads longer spot later stack
      → Goes loads longer (record { rest = rest; stack = stack; spot = spot }) (record { rest = rest; stack = stack; spot = later })
  stay-at loads longer rest stack spot later h r = record {
    stays = record {
      live = λ a reaches. subst (λ (o : Option ℕ). IsLive (nodes.home a) × IfSome o (λ l. IsOfLayer l (nodes.home a))) (sym r.layer) (h.live a (less a reaches));
      apart = h.apart;
      ahead = λ v among reaches. h.ahead v among (r.less v.node reaches);
      behind = λ v n among hand below. h.behind v n among (r.hand n hand) below;
      levels = λ v among. h.levels v (subst (λ (l : List Waiting). Contains l v) r.waits among);
      read = λ a name from. h.read a name (known a from);
      visited = λ n walked.
          elim (r.walked n walked) [
            | inl before ↦ let old = h.visited n before in (old.0, λ reaches. r.begun n (old.1 (less n reaches)))
            | inr new ↦ ((h.live n (by_spot (hand-reached spot n new.0))).0, λ reaches. new.1)
          ];
    };
    less = less;
  }
    where
      less : (a : ℕ) → Reaches W (record { rest = rest; stack = stack; spot = later }) a → Reaches W (record { rest = rest; stack = stack; spot = spot }) a
      less a (by_stack v among below) = by_stack v among below
      less a (by_spot reaches) = by_spot (r.less a reaches)

      known : (a : ℕ) → Reaches W (record { rest = rest; stack = stack; spot = later }) a ⊎ IsWalkedAt longer a → Reaches W (record { rest = rest; stack = stack; spot = spot }) a ⊎ IsWalkedAt loads a
      known a (inl reaches) = inl (less a reaches)
      known a (inr walked) = elim (r.walked a walked) [ inl before ↦ inr before | inr new ↦ inl (by_spot (hand-reached spot a new.0)) ]

  -- ---- a node whose bound was read goes onto the stack

  module _ (loads longer : List Load) (rest : List Name) (stack : List Waiting) (n level k m : ℕ) (read : List ℕ) (low : k < 4)
      (h : WalkStays nodes W loads (record { rest = rest; stack = stack; spot = at_bound n level k (node_child m) read })) (child : W (Child n k) ≡ node_child m)
      (layer : layer_at_hand longer ≡ layer_at_hand loads) (walked : (a : ℕ) → IsWalkedAt longer a → IsWalkedAt loads a) where
    abbrev At : Position
    At = record { rest = rest; stack = stack; spot = at_bound n level k (node_child m) read }

    abbrev Later : Position
    Later = record { rest = rest; stack = waiting m (suc level) ∷ stack; spot = at_child n level (k + 1) }

    -- the child that was read, and what is below it
    part : (a : ℕ) → Below W m a → ReachesBySpot W a At.spot
    part a below = by_part n level k (node_child m) m read refl below

    -- the later children, and the node at hand
    spot-less : (a : ℕ) → ReachesBySpot W a Later.spot → ReachesBySpot W a At.spot
    spot-less a (the_node l j) = the_node_of_bound level k (node_child m) read
    spot-less a (by_child x l j below) = by_next_child n level k (node_child m) read below

    -- nothing else is reached
    less-push : (a : ℕ) → Reaches W Later a → Reaches W At a
    less-push a (by_spot reaches) = by_spot (spot-less a reaches)
    less-push a (by_stack v among below) =
        elim (cases_cons (waiting m (suc level)) stack v among) [
          | inl same ↦ by_spot (part a (subst (λ (u : Waiting). Below W u.node a) (sym same) below))
          | inr old ↦ by_stack v old below
        ]

    -- what is reached stands
    stands : (a : ℕ) → Reaches W At a → Stands (nodes.home a)
    stands a reaches = live-stands (nodes.home a) (h.live a reaches).0

    -- and so does the node at hand
    hand-stands : Stands (nodes.home n)
    hand-stands = stands n (by_spot (the_node_of_bound level k (node_child m) read))

    -- the child stands below it
    placed : IsUnder nodes core trees n k m
    placed = child-of nodes core trees n k m hand-stands low child

    -- and not the other way round
    not-back : ¬ Below W m n
    not-back below = let deeper = below-deeper nodes core trees m n (child-stands nodes core trees n k m hand-stands low child) below in let depth = placed.depth in omega arith

    -- no later child of the node at hand has it below
    not-later : (a : ℕ) → m ≡ a → ¬ ReachesBySpot W a Later.spot
    not-later a is (the_node l j) = not-back (subst (Below W m) is (itself m))
    not-later a is (by_child x l j t) =
        let other = child-of nodes core trees n t.0 t.1 hand-stands t.3 t.4 in
        let up = child-stands nodes core trees n t.0 t.1 hand-stands t.3 t.4 in
        elim (below-parent nodes core trees t.1 m n k up placed.parent low (subst (Below W t.1) (sym is) t.5)) [
          | inl same ↦
              let parent : W (Parent m) ≡ place n t.0 = subst (λ (b : ℕ). W (Parent b) ≡ place n t.0) same other.parent in
              let mine = placed.parent in
              let after = t.2 in
              omega arith
          | inr back ↦ let deeper = below-deeper nodes core trees t.1 n up back in let depth = other.depth in omega arith
        ]

    -- what is said of the walk stays
    pub pushed-goes : Goes loads longer At Later
    pushed-goes = record {
      stays = record {
        live = λ a reaches. subst (λ (o : Option ℕ). IsLive (nodes.home a) × IfSome o (λ l. IsOfLayer l (nodes.home a))) (sym layer) (h.live a (less-push a reaches));
        apart = pairs-more (AreApart W) (waiting m (suc level)) stack
            (λ v among. (
              λ below. h.ahead v among (part v.node below),
              λ below.
                  elim (below-parent nodes core trees v.node m n k (stands v.node (by_stack v among (itself v.node))) placed.parent low below) [
                    | inl same ↦ h.ahead v among (part v.node (subst (λ (b : ℕ). Below W b v.node) same (itself v.node)))
                    | inr up ↦ h.behind v n among refl up
                  ],
            ))
            h.apart;
        ahead = λ v among reaches.
            elim (cases_cons (waiting m (suc level)) stack v among) [
              | inl same ↦ not-later v.node (ap (λ (u : Waiting). u.node) same) reaches
              | inr old ↦ h.ahead v old (spot-less v.node reaches)
            ];
        behind = λ v x among hand below.
            elim (cases_cons (waiting m (suc level)) stack v among) [
              | inl same ↦ not-back (subst (Below W m) (sym hand) (subst (λ (u : Waiting). Below W u.node x) (sym same) below))
              | inr old ↦ h.behind v x old hand below
            ];
        levels = λ v among.
            elim (cases_cons (waiting n level) (waiting m (suc level) ∷ stack) v among) [
              | inl same ↦ h.levels v (subst (Contains (waiting n level ∷ stack)) same (contains_first (waiting n level) stack))
              | inr later ↦ elim (cases_cons (waiting m (suc level)) stack v later) [
                | inl same ↦
                    let hand = h.levels (waiting n level) (contains_first (waiting n level) stack) in
                    let depth = placed.depth in
                    subst (λ (u : Waiting). u.level ≤ suc (nodes.depth u.node)) same (omega arith)
                | inr old ↦ h.levels v (Contains-append_right (waiting n level ∷ []) stack v old)
              ]
            ];
        read = λ a name from. h.read a name (elim from [ inl reaches ↦ inl (less-push a reaches) | inr new ↦ inr (walked a new) ]);
        visited = λ a new. let old = h.visited a (walked a new) in (old.0, λ reaches. (old.1 (less-push a reaches), omega arith));
      };
      less = less-push;
    }

  -- ---- the root of a tree that a word names is walked at once

  module _ (loads : List Load) (new : Load) (rest : List Name) (h : WalkStays nodes W loads (record { rest = new.name ∷ rest; stack = []; spot = resting }))
      (next : IsNext new.name rest) (roots : (root : ℕ) → NamesRoot new.name new.value root → nodes.home root ≡ under new.name) where
    -- it is the root that the word names, at level 1
    named-root : (name : Name) (value : ℕ) (v : Waiting) → Contains (roots_in name value) v → NamesRoot name value v.node × (v.level ≡ 1)
    named-root (Main l) zero v among = absurd (none_in v among)
    named-root (Main l) (suc root) v among = let same = only (waiting root 1) v among in (ap (λ (u : Waiting). suc u.node) same, ap (λ (u : Waiting). u.level) (sym same))
    named-root (Slot l t) value v among =
        cond_both (nat_le 1024 value) (waiting (value - 1024) 1 ∷ []) [] (λ (stack : List Waiting). Contains stack v → NamesRoot (Slot l t) value v.node × (v.level ≡ 1))
        (λ tree one. let same = only (waiting (value - 1024) 1) v one in let node = ap (λ (u : Waiting). u.node) same in (grind (arith, nat_tests), ap (λ (u : Waiting). u.level) (sym same)))
        (λ none nothing. absurd (none_in v nothing)) among
    named-root _ value v among = absurd (none_in v among)

    -- and there is one at most
    one-root : (name : Name) (value : ℕ) → AllPairs (AreApart W) (map (λ v. v.node) (roots_in name value))
    one-root (Main l) zero i j d less inside = absurd (omega arith)
    one-root (Main l) (suc root) i j d less inside = absurd (omega arith)
    one-root (Slot l t) value i j d less inside =
        cond_both (nat_le 1024 value) (waiting (value - 1024) 1 ∷ []) [] (λ (stack : List Waiting). AllPairs (AreApart W) (map (λ v. v.node) stack)) (λ tree x y e low within. absurd (omega arith))
        (λ none x y e low within. absurd (omega arith)) i j d less inside
    one-root _ value i j d less inside = absurd (omega arith)

    -- what is below it is in the tree of the word
    pub on-root : (a : ℕ) → OnStack (roots_in new.name new.value) a → nodes.home a ≡ under new.name
    on-root a t =
        let home = roots t.0.node (named-root new.name new.value t.0 t.1).0 in
        below-home nodes core trees t.0.node a (subst Stands (sym home) tt) t.2 ∙ home

    -- the word has a layer, and is not read again
    once : ((l : ℕ) × (layer_of new.name ≡ Some l)) × ¬ Contains rest new.name
    once = next-once new.name rest next

    -- no node is walked by it yet
    pub walked-before : (n : ℕ) → IsWalkedAt (loads ++ new ∷ []) n → IsWalkedAt loads n
    walked-before n walked = elim (walked-cases loads new n walked) [ inl before ↦ before | inr last ↦ absurd (none-some once.0.0 (sym (ap layer_of last) ∙ once.0.1)) ]

    -- so the walk goes on with this stack
    pub root-stays : StackStays (loads ++ new ∷ []) rest (roots_in new.name new.value)
    root-stays = record {
      live = λ a t.
          let home = sym (on-root a t) in (
            subst IsLive home tt,
            subst (λ (o : Option ℕ). IfSome o (λ l. IsOfLayer l (nodes.home a))) (sym (layer-named loads new once.0.0 once.0.1)) (subst (IsOfLayer once.0.0) home once.0.1),
          );
      apart = one-root new.name new.value;
      levels = λ v among. let level = (named-root new.name new.value v among).1 in omega arith;
      read = λ a name from home among.
          elim from [
            | inl t ↦ let same : new.name ≡ name = under-name (sym (on-root a t) ∙ home) in once.1 (subst (Contains rest) (sym same) among)
            | inr walked ↦ h.read a name (inr (walked-before a walked)) home (Contains-append_right (new.name ∷ []) rest name among)
          ];
      visited = λ n walked.
          let before = walked-before n walked in
          ((h.visited n before).0, λ t. h.read n new.name (inr before) (on-root n t) (contains_first new.name rest));
    }
      where
        under-name : {a b : Name} → under a ≡ under b → a ≡ b
        under-name e = cc
