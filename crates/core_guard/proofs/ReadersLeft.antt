-- The readers are counted after a step that leaves nodes where they stand and widens bounds at most, to sides that count.
use Rattle.std.proofs.Common.{◌≡◌, ◌≢◌, ◌⊎◌, ◌↔◌, ℕ, suc, ◌+◌, ◌%◌, ◌<◌, ◌≤◌, List, [], ◌∷◌, Option, Some, None, length, true, refl, ap, sym, ◌∙◌, subst, inl, inr, arith, ◌++◌}
use Rattle.std.specs.Prelude.{Contains, AllPairs, map, get_or, option_map, IfSome, IsSomeAnd}
use Rattle.std.proofs.lemmas.Bool.{cases_lt, cases_eq}
use Rattle.std.proofs.lemmas.List.{get_or_default}
use Rattle.scene_model.specs.declared.entry.Made.{Made}
use Rattle.fixed_box.specs.FixBox.{words_of}
use Rattle.scene_model.specs.Scene.{Scene, record_at, Record}
use Rattle.scene_model.specs.Step.{HasBody}
use Rattle.word_map.specs.declared.name.Name.{Name}
use Rattle.word_map.specs.declared.name.Name.TheVariants.{Reader, Child, Bound, LocA, LocB}
use Rattle.core_state.specs.declared.item.Load.{Load}
use Rattle.core_state.specs.declared.view.Task.{Task}
use Rattle.core_state.specs.declared.view.Task.TheVariants.{Moving, Removing}
use Rattle.core_state.specs.declared.view.Call.{Call}
use Rattle.core_state.specs.declared.view.Noted.{Noted}
use Rattle.core_state.specs.declared.view.Waiting.{Waiting}
use Rattle.core_state.specs.declared.view.Walk.{Walk}
use Rattle.core_state.specs.declared.view.Rebuild.{Rebuild}
use Rattle.core_state.specs.declared.view.View.{View}
use Rattle.core_state.specs.View.{IsPass}
use Rattle.core_state.specs.Core.{Core, word_of, scene_of, IsViewAt}
use Rattle.core_state.specs.Kind.{Kind, Step}
use Rattle.core_state.specs.Encoding.{node_child, place, Sides, sides_of, bound_in}
use Rattle.core_state.specs.Nodes.{Nodes, Home, made, IsLive, Stands, IsInTree, IsOfLayer, Above, here, Below, itself, lower}
use Rattle.core_state.specs.Parts.{task_at_place, update_on_places, update_on_readers, update_on_cover}
use Rattle.core_state.specs.Scope.{Sight, sight, HasPass, EachPass}
use Rattle.core_state.specs.Space.{HadAs, HadInLayer, IsTarget, IsComing, IsInHull, IsInLayer, IsInSpace}
use Rattle.core_state.specs.Updates.{EachUpdate}
use Rattle.core_state.specs.TreesSound.{tree_scope}
use Rattle.core_state.specs.LocationsHold.{LocationsHold, IsLocation, IsPlannedAt, IsPublishedAt, location_scope}
use Rattle.core_state.specs.Walking.{Query, Spot, resting, at_child, at_bound, Position, waiting, Follows, position_of}
use Rattle.core_state.specs.ReadersCounted.{ReadersCounted, reader_scope, ReachesByChild, ReachesBySpot, the_node, the_node_of_bound, by_child, by_next_child, by_part, Reaches, by_stack, by_spot, layer_at_hand, waiting_at, AreApart, IsWalkedAt, WalkStays, ReadsInSpace, AvoidsSuperseded, HasSeenOff, ClimbsInTrees, IsPlannedBelow, IsSideOf, IsTight}
use Rattle.core_state.proofs.Beginning.{body_record, record_body, cases_cons, last_point}
use Rattle.core_state.proofs.Steps.{view-step}
use Rattle.core_guard.proofs.Seats.{each-seat, each-seats, has-seat, each-step, has-step, has-unstep, seat-has, seat-before, steps_now, stays}
use Rattle.core_guard.proofs.Growing.{point-grown, length-grown, had_in_layer-grown}
use Rattle.core_guard.proofs.Leaving.{Acts, if_some_map, if_some_both, some_and_map, IsHandled, IsIdle, LeadsWithin, sound-leads, stands-in_tree, After, Last, Stays, Leaves, Touches, above-forth, above-back, each_update, live-stands, other-number, none-kept, child-back}
use Rattle.core_guard.proofs.InPlace.{InPlace, stays-in_place, creation-forth}
use Rattle.core_state.specs.BodiesCovered.{cover_scope}
use Rattle.scene_model.specs.History.{point}

-- ---- hulls and lists

-- a box lies in the hull of what counts, where each side is as before or counts itself
pub hull-by : (Counts More : ℕ → ℕ → Type 0) (a b : Sides) → ((q side : ℕ) → Counts q side → More q side) → ((q : ℕ) → (b q ≡ a q) ⊎ More q (b q)) → IsInHull Counts a → IsInHull More b
hull-by Counts More a b more sides h q below =
    let t = h q below in (
      elim (sides q) [ inl same ↦ (t.0.0, more q t.0.0 t.0.1, subst (λ (w : ℕ). t.0.0 ≤ w) (sym same) t.0.2) | inr new ↦ (b q, new, omega arith) ],
      elim (sides (3 + q)) [ inl same ↦ (t.1.0, more (3 + q) t.1.0 t.1.1, subst (λ (w : ℕ). w ≤ t.1.0) (sym same) t.1.2) | inr new ↦ (b (3 + q), new, omega arith) ],
    )

-- of an element of a list that is mapped
pub map-back : {X Y : Type 0} (f : X → Y) (xs : List X) (y : Y) → Contains (map f xs) y → (x : X) × Contains xs x × (f x ≡ y)
map-back f [] y h = let none = h.1 in absurd (omega arith)
map-back f (z ∷ xs) y h =
    elim (cases_cons (f z) (map f xs) y h) [
      | inl same ↦ (z, (0, omega arith, refl), same)
      | inr rest ↦ let t = map-back f xs y rest in (t.0, (suc t.1.0, omega (arith, t.1.1), t.1.2), t.2)
    ]

-- what holds of each two holds again, where it does of two that are there
pub pairs-again : {X : Type 0} (R Q : X → X → Type 0) (xs : List X) → ((x y : X) → Contains xs x → Contains xs y → R x y → Q x y) → AllPairs R xs → AllPairs Q xs
pairs-again R Q xs more h i j d below inside =
    more (get_or xs i d) (get_or xs j d) (i, omega arith, get_or_default xs i (get_or xs i d) d (omega arith)) (j, inside, get_or_default xs j (get_or xs j d) d inside) (h i j d below inside)

-- what holds of all holds of what is there
pub some-all : {X : Type 0} (o : Option X) (P : X → Type 0) → ((x : X) → P x) → IfSome o P
some-all None P h = tt
some-all (Some x) P h = h x

-- ---- the places that an update has planned stand

abbrev pub PlansStand : Nodes → Rebuild → Type 0
PlansStand nodes r = (noted : Noted) (n k : ℕ) → Contains r.noted noted → k < 4 → noted.place ≡ place n k → Stands (nodes.home n)

plans_of : (nodes : Nodes) (s : Sight) (number : ℕ) (view : View) (o : Option Rebuild)
    → IfSome (option_map update_on_places o) (λ r. (noted : Noted) → Contains r.noted noted → r.is_planned ≡ true → length r.swapped ≤ noted.layer → IsPlannedAt nodes s number view r noted)
    → IfSome (option_map update_on_places o) (λ r. (noted : Noted) → Contains r.noted noted → IsPublishedAt nodes r noted)
    → IfSome (option_map update_on_readers o) (λ r. r.is_planned ≡ true → PlansStand nodes r)
plans_of nodes s number view None planned published = tt
plans_of nodes s number view (Some r) planned published = λ is noted n k among low at.
    elim (cases_lt noted.layer (length r.swapped)) [
      | inl below ↦
          let t = published noted among is below in
          let same : t.0 ≡ n = let place = t.3 in let other = t.2 in omega arith in
          subst (λ (x : ℕ). Stands (nodes.home x)) same (subst Stands (sym t.4) tt)
      | inr high ↦
          let t = planned noted among is high in
          let same : t.node ≡ n = let place = t.at in let other = t.below in omega arith in
          subst (λ (x : ℕ). Stands (nodes.home x)) same (subst Stands (sym t.made_for) tt)
    ]

pub plans-stand : (nodes : Nodes) (core : Core) → LocationsHold nodes core → EachUpdate (sight reader_scope core) (λ number view r. r.is_planned ≡ true → PlansStand nodes r)
plans-stand nodes core h =
    each-seats reader_scope (λ k v. refl) core (λ number v. IfSome v.rebuild (λ r. r.is_planned ≡ true → PlansStand nodes r))
    (λ seat number view at pass.
    plans_of nodes (sight location_scope core) number _ view.rebuild
    (each-seat location_scope (λ k v. refl) core _ h.planned seat number view at pass)
    (each-seat location_scope (λ k v. refl) core _ h.published seat number view at pass))

-- ---- what is said of one walk, and of one update

abbrev pub WalkIn : Nodes → Sight → Walk → Type 0
WalkIn nodes s walk = walk.is_on ≡ true → (query : Query) → Follows s.config query walk.loads → WalkStays nodes s.word walk.loads (position_of s.config query walk.loads)

abbrev pub SpaceIn : Sight → Walk → Type 0
SpaceIn s walk = walk.is_on ≡ true → (query : Query) → Follows s.config query walk.loads → ReadsInSpace s walk.loads (position_of s.config query walk.loads)

abbrev pub Off : Nodes → Sight → ℕ → Rebuild → ℕ → View → Type 0
Off nodes s number r q other = HasSeenOff s r q → AvoidsSuperseded nodes s number other.walk

-- a side that counts for a bound of a new tree
abbrev pub TightSide : Sight → Rebuild → ℕ → ℕ → ℕ → ℕ → Type 0
TightSide s r n k q side = (noted : Noted) × Contains r.noted noted × IsPlannedBelow s noted n k × IsSideOf s r noted q side

-- a node on the stack or at hand is reached
waiting-reached : (word : Name → ℕ) (at : Position) (w : Waiting) → Contains (waiting_at at.spot at.stack) w → Reaches word at w.node
waiting-reached word at w among = go at.spot refl among
  where
    go : (spot : Spot) → spot ≡ at.spot → Contains (waiting_at spot at.stack) w → Reaches word at w.node
    go resting e h = by_stack w h (itself w.node)
    go (at_child n level k) e h =
        elim (cases_cons (waiting n level) at.stack w h) [
          | inl same ↦ subst (λ (v : Waiting). Reaches word at v.node) same (by_spot (subst (ReachesBySpot word n) e (the_node level k)))
          | inr rest ↦ by_stack w rest (itself w.node)
        ]
    go (at_bound n level k x read) e h =
        elim (cases_cons (waiting n level) at.stack w h) [
          | inl same ↦ subst (λ (v : Waiting). Reaches word at v.node) same (by_spot (subst (ReachesBySpot word n) e (the_node_of_bound level k x read)))
          | inr rest ↦ by_stack w rest (itself w.node)
        ]

-- ---- tasks as the law reads them

pub target-seen : (task : Task) (index q side : ℕ) → IsTarget task index q side → IsTarget (task_at_place task) index q side
target-seen (Moving i target) index q side h = h
target-seen _ index q side h = absurd h

pub target-was : (task : Task) (index q side : ℕ) → IsTarget (task_at_place task) index q side → IsTarget task index q side
target-was (Moving i target) index q side h = h
target-was _ index q side h = absurd h

target-handled : (task : Task) (index q side : ℕ) → IsTarget (task_at_place task) index q side → IsHandled task index
target-handled (Moving i target) index q side h = h.0
target-handled _ index q side h = absurd h

climbs-seen : (nodes : Nodes) (s : Sight) (task : Task) → ClimbsInTrees nodes s task → ClimbsInTrees nodes s (task_at_place task)
climbs-seen nodes s (Moving index target) h = h
climbs-seen nodes s (Removing index) h = h
climbs-seen nodes s _ h = tt

pub climbs-was : (nodes : Nodes) (s : Sight) (task : Task) → ClimbsInTrees nodes s (task_at_place task) → ClimbsInTrees nodes s task
climbs-was nodes s (Moving index target) h = h
climbs-was nodes s (Removing index) h = h
climbs-was nodes s _ h = tt

-- ---- the step

module _ (kind : Kind) (core : Core) (step : Step) (a : Acts core step) (later : Nodes) (New : ℕ → Type 0) (m : Leaves kind core step a.laws.nodes later New) where
  abbrev Before : Nodes
  Before = a.laws.nodes

  abbrev Old : Sight
  Old = sight reader_scope core

  abbrev Now : Sight
  Now = sight reader_scope (After kind core step)

  -- what is to be shown of bodies and bounds
  pub record Counts : Type 0 where
    -- bodies that other passes handle stay where they are; where the own one climbs it stands in trees
    pub places : (seat number : ℕ) (view : View) → seat ≢ step.seat → IsViewAt core seat view → IsPass view number → (i : ℕ) → IsHandled view.call.task i
        → (word_of (After kind core step) (LocA i) ≡ word_of core (LocA i)) × (word_of (After kind core step) (LocB i) ≡ word_of core (LocB i))
    pub climbs : ClimbsInTrees later Now (Last kind core step).call.task
    -- what counts for a layer and for an update counts still, and so does each side that is another
    pub layers : (l q side : ℕ) → IsInLayer Old l q side → IsInLayer Now l q side
    pub gives : EachUpdate Old (λ number view r. (noted : Noted) (q side : ℕ) → Contains r.noted noted → IsSideOf Old r noted q side → IsSideOf Now r noted q side)
    pub live : (n k q l : ℕ) → IsLive (Before.home n) → IsOfLayer l (Before.home n) → (word_of (After kind core step) (Bound n k q) ≡ word_of core (Bound n k q)) ⊎ IsInLayer Now l q (word_of (After kind core step) (Bound n k q))
    pub fresh : EachUpdate Old (λ number view r. (n k q l : ℕ) → Before.home n ≡ made number l → (word_of (After kind core step) (Bound n k q) ≡ word_of core (Bound n k q)) ⊎ TightSide Now r n k q (word_of (After kind core step) (Bound n k q)))
    -- bounds of new nodes lie in the space of their layer, and none of these is in a tree that is only made yet
    pub new : (n k l : ℕ) → New n → IsLive (later.home n) → IsOfLayer l (later.home n) → k < 4 → Now.word (Child n k) ≢ 0 → IsInSpace Now l (bound_in Now.word n k)
    pub unmade : (n number l : ℕ) → New n → later.home n ≢ made number l

  abbrev pub Walks : View → Type 0
  Walks view = view.walk.is_on ≡ true

  abbrev pub IsOdd : Sight → ℕ → Type 0
  IsOdd s number = s.word (Reader number) % 2 ≡ 1

  -- what is to be shown of the own walk and of reader words
  pub record GoesOn : Type 0 where
    pub odd : IsOdd Old step.number ↔ Walks step.view → IsOdd Now step.number ↔ Walks (Last kind core step)
    pub seen : (number : ℕ) → number ≢ step.number → word_of (After kind core step) (Reader number) ≡ word_of core (Reader number)
    pub stays : WalkIn later Now (Last kind core step).walk
    pub in_space : SpaceIn Now (Last kind core step).walk
    pub avoids : EachUpdate Now (λ number view r. HasSeenOff Now r step.number → AvoidsSuperseded later Now number (Last kind core step).walk)

  -- the own word was odd where the pass walked; so each is odd after the step where its pass walks
  was-odd : IsOdd Old step.number ↔ Walks step.view
  was-odd = (
    λ e.
        (has-step reader_scope (λ k v. refl) kind core step a.at a.pass step.number Walks (λ v. Walks step.view) ((a.laws.readers.odd step.number).0 e)
        (λ seat view apart found pass on. absurd (other-number core step a seat step.number view apart found pass refl)) (λ same on. on)).3,
    λ on. (a.laws.readers.odd step.number).1 (seat-has reader_scope (λ k v. refl) core step.number Walks (record { seat = step.seat; view = step.view; at = a.at; pass = a.pass; holds = on })),
  )

  odd-after : GoesOn → (number : ℕ) → IsOdd Now number ↔ HasPass Now number Walks
  odd-after g number =
      elim (cases_eq number step.number) [
        | inl same ↦
            let own = g.odd was-odd in
            subst (λ (p : ℕ). IsOdd Now p ↔ HasPass Now p Walks) (sym same) (
              λ e. seat-has reader_scope (λ k v. refl) (After kind core step) step.number Walks
                  (record { seat = step.seat; view = Last kind core step; at = view-step kind core step a.at; pass = a.pass; holds = own.0 e }),
              λ has. own.1
                  (has-unstep reader_scope (λ k v. refl) kind core step a.at a.pass step.number (λ v. Walks (Last kind core step)) Walks has
                  (λ seat view apart found pass on. absurd (other-number core step a seat step.number view apart found pass refl)) (λ same on. on)).3,
            )
        | inr other ↦
            let word = ap (λ (x : ℕ). x % 2) (g.seen number other) in (
              λ e. has-step reader_scope (λ k v. refl) kind core step a.at a.pass number Walks Walks ((a.laws.readers.odd number).0 (sym word ∙ e)) (λ seat view apart found pass on. on) (λ same on. absurd (other (sym same))),
              λ has. word ∙ (a.laws.readers.odd number).1 (has-unstep reader_scope (λ k v. refl) kind core step a.at a.pass number Walks Walks has (λ seat view apart found pass on. on) (λ same on. absurd (other (sym same)))),
            )
      ]

  -- or that they are the same
  pub record SameWalk : Type 0 where
    pub reader : (p : ℕ) → word_of (After kind core step) (Reader p) ≡ word_of core (Reader p)
    pub walk : (Last kind core step).walk ≡ step.view.walk

  leads : LeadsWithin Before Old.word
  leads = let t = sound-leads Before (sight tree_scope core) a.laws.trees in record { up = t.up; down = t.down }

  node-back : (n k x : ℕ) → Stands (Before.home n) → Now.word (Child n k) ≡ node_child x → Old.word (Child n k) ≡ node_child x
  node-back n k x stands e = child-back kind core step a Before later New m n k (node_child x) (stands-in_tree (Before.home n) stands) (omega arith) e

  none-forth : (n k : ℕ) → Stands (Before.home n) → Old.word (Child n k) ≡ 0 → Now.word (Child n k) ≡ 0
  none-forth n k stands e = none-kept kind core step a Before later New m n k (stands-in_tree (Before.home n) stands) e

  stay : (n : ℕ) → Stands (Before.home n) → later.home n ≡ Before.home n
  stay n stands = m.stays n (stands-in_tree (Before.home n) stands)

  -- ---- what walks reach

  below-stands : (n k x : ℕ) → Stands (Before.home n) → k < 4 → Old.word (Child n k) ≡ node_child x → Stands (Before.home x)
  below-stands n k x stands below e = subst Stands (sym (leads.down n k x stands below e)) stands

  below-back : (n x : ℕ) → Stands (Before.home n) → Below Now.word n x → Below Old.word n x
  below-back n x stands (itself y) = itself y
  below-back n x stands (lower y k z w below e rest) =
      let old = node-back n k z stands e in
      lower n k z x below old (below-back z x (below-stands n k z stands below old) rest)

  module _ (loads : List Load) (at : Position) (was : WalkStays Before Old.word loads at) where
    reached : (x : ℕ) → Reaches Old.word at x → Stands (Before.home x)
    reached x reaches = live-stands (Before.home x) (was.live x reaches).0

    on_stack : (w : Waiting) → Contains at.stack w → Stands (Before.home w.node)
    on_stack w among = reached w.node (by_stack w among (itself w.node))

    reach_child-back : (n from x : ℕ) → Stands (Before.home n) → ReachesByChild Now.word n from x → ReachesByChild Old.word n from x
    reach_child-back n from x stands h =
        let old = node-back n h.0 h.1 stands h.4 in
        (h.0, h.1, h.2, h.3, old, below-back h.1 x (below-stands n h.0 h.1 stands h.3 old) h.5)

    spot-back : (x : ℕ) (spot : Spot) → ((y : ℕ) → ReachesBySpot Old.word y spot → Stands (Before.home y)) → ReachesBySpot Now.word x spot → ReachesBySpot Old.word x spot
    spot-back x spot hand (the_node level k) = the_node level k
    spot-back x spot hand (the_node_of_bound level k y read) = the_node_of_bound level k y read
    spot-back x spot hand (by_child n level k h) = by_child n level k (reach_child-back n k x (hand n (the_node level k)) h)
    spot-back x spot hand (by_next_child n level k y read h) = by_next_child n level k y read (reach_child-back n (k + 1) x (hand n (the_node_of_bound level k y read)) h)
    spot-back x spot hand (by_part n level k y z read e below) = by_part n level k y z read e (below-back z x (hand z (by_part n level k y z read e (itself z))) below)

    at_spot-back : (x : ℕ) → ReachesBySpot Now.word x at.spot → ReachesBySpot Old.word x at.spot
    at_spot-back x h = spot-back x at.spot (λ y r. reached y (by_spot r)) h

    pub reaches-back : (x : ℕ) → Reaches Now.word at x → Reaches Old.word at x
    reaches-back x (by_stack w among below) = by_stack w among (below-back w.node x (on_stack w among) below)
    reaches-back x (by_spot h) = by_spot (at_spot-back x h)

    -- what is reached or was walked is in the same tree
    known-back : (x : ℕ) → Reaches Now.word at x ⊎ IsWalkedAt loads x → Reaches Old.word at x ⊎ IsWalkedAt loads x
    known-back x (inl reaches) = inl (reaches-back x reaches)
    known-back x (inr walked) = inr walked

    known-home : (x : ℕ) → Reaches Old.word at x ⊎ IsWalkedAt loads x → later.home x ≡ Before.home x
    known-home x (inl reaches) = stay x (reached x reaches)
    known-home x (inr walked) = stay x (live-stands (Before.home x) (was.visited x walked).0)

    stack-apart : (x y : ℕ) → Contains (map (λ w. w.node) at.stack) x → Contains (map (λ w. w.node) at.stack) y → AreApart Old.word x y → AreApart Now.word x y
    stack-apart x y first second apart =
        let stands : (z : ℕ) → Contains (map (λ w. w.node) at.stack) z → Stands (Before.home z) =
        λ z among. let t = map-back (λ w. w.node) at.stack z among in subst (λ (n : ℕ). Stands (Before.home n)) t.2 (on_stack t.0 t.1)
        in
        (λ below. apart.0 (below-back x y (stands x first) below), λ below. apart.1 (below-back y x (stands y second) below))

    stays-forth : WalkStays later Now.word loads at
    stays-forth = record {
      live = λ x reaches.
          let old = reaches-back x reaches in
          let live = was.live x old in
          let same = sym (stay x (reached x old)) in
          (subst IsLive same live.0, subst (λ (home : Home). IfSome (layer_at_hand loads) (λ l. IsOfLayer l home)) same live.1);
      apart = pairs-again (AreApart Old.word) (AreApart Now.word) (map (λ w. w.node) at.stack) stack-apart was.apart;
      ahead = λ w among reaches. was.ahead w among (at_spot-back w.node reaches);
      behind = λ w n among hand below. was.behind w n among hand (below-back w.node n (on_stack w among) below);
      levels = λ w among.
          let stands = reached w.node (waiting-reached Old.word at w among) in
          subst (λ (d : ℕ). w.level ≤ suc d) (sym (m.depth w.node (stands-in_tree (Before.home w.node) stands))) (was.levels w among);
      read = λ x name from home. let old = known-back x from in was.read x name old (sym (known-home x old) ∙ home);
      visited = λ n walked. (subst IsLive (sym (known-home n (inr walked))) (was.visited n walked).0, λ reaches. (was.visited n walked).1 (reaches-back n reaches));
    }

    -- what was read lies in the space still
    space-forth : Counts → ReadsInSpace Old loads at → ReadsInSpace Now loads at
    space-forth c reads = record {
      sides = λ before rest n k q value e. if_some_map (layer_at_hand before) _ _ (λ l t. (t.0, c.layers l q t.0 t.1, t.2, t.3)) (reads.sides before rest n k q value e);
      part = λ n level k x read e.
          let live = was.live n (by_spot (subst (ReachesBySpot Old.word n) (sym e) (the_node_of_bound level k x read))) in
          if_some_map (layer_at_hand loads) _ _
          (λ l both. hull-by (IsInLayer Old l) (IsInLayer Now l) (bound_in Old.word n k) (bound_in Now.word n k) (c.layers l) (λ q. c.live n k q l live.0 both.0) both.1)
          (if_some_both (layer_at_hand loads) _ _ live.1 (reads.part n level k x read e));
    }

  pub walk-forth : (walk : Walk) → WalkIn Before Old walk → WalkIn later Now walk
  walk-forth walk was on query follows = stays-forth walk.loads (position_of Old.config query walk.loads) (was on query follows)

  pub walk_space-forth : Counts → (walk : Walk) → WalkIn Before Old walk → SpaceIn Old walk → SpaceIn Now walk
  walk_space-forth c walk was space on query follows = space-forth walk.loads (position_of Old.config query walk.loads) (was on query follows) c (space on query follows)

  pub avoids-forth : (number : ℕ) (walk : Walk) → WalkIn Before Old walk → AvoidsSuperseded Before Old number walk → AvoidsSuperseded later Now number walk
  avoids-forth number walk was h on query follows x name from home =
      let at = position_of Old.config query walk.loads in
      let old = known-back walk.loads at (was on query follows) x from in
      h on query follows x name old (sym (known-home walk.loads at (was on query follows) x old) ∙ home)

  -- ---- those who climb

  pub climb-forth : (i : ℕ) → word_of (After kind core step) (LocA i) ≡ word_of core (LocA i) → word_of (After kind core step) (LocB i) ≡ word_of core (LocB i)
      → ((n k x y : ℕ) → IsLocation Old i n k → Above Old.word n k x y → Stands (Before.home x))
      → (n k x y : ℕ) → IsLocation Now i n k → Above Now.word n k x y → Stands (later.home x)
  climb-forth i first second climbs n k x y location up =
      let old : IsLocation Old i n k = (location.0, elim (location.1) [ inl e ↦ inl (sym first ∙ e) | inr e ↦ inr (sym second ∙ e) ]) in
      let stands = climbs n k x y old (above-back kind core step a Before later New m Old.word Now.word leads m.parent n k x y (climbs n k n k old (here n k)) up) in
      subst Stands (sym (stay x stands)) stands

  pub climbs-forth : (task : Task) → ((i : ℕ) → IsHandled task i → (word_of (After kind core step) (LocA i) ≡ word_of core (LocA i)) × (word_of (After kind core step) (LocB i) ≡ word_of core (LocB i)))
      → ClimbsInTrees Before Old (task_at_place task) → ClimbsInTrees later Now (task_at_place task)
  climbs-forth (Moving index target) same climbs = let t = same index refl in climb-forth index t.0 t.1 climbs
  climbs-forth (Removing index) same climbs = let t = same index refl in climb-forth index t.0 t.1 climbs
  climbs-forth _ same climbs = tt

  -- a pass that is in the middle of what it was in the middle of climbs in trees still
  pub climbs-own : (Last kind core step).call ≡ step.view.call
      → ((i : ℕ) → IsHandled step.view.call.task i → (word_of (After kind core step) (LocA i) ≡ word_of core (LocA i)) × (word_of (After kind core step) (LocB i) ≡ word_of core (LocB i)))
      → ClimbsInTrees later Now (Last kind core step).call.task
  climbs-own call same =
      let was = each-seat reader_scope (λ k v. refl) core _ a.laws.readers.climbs step.seat step.number step.view a.at a.pass in
      subst (λ (c : Call). ClimbsInTrees later Now c.task) (sym call) (climbs-was later Now step.view.call.task (climbs-forth step.view.call.task same was))

  -- ---- bounds of new trees

  abbrev Fresh : ℕ → Rebuild → Type 0
  Fresh number r = (n k q l : ℕ) → Before.home n ≡ made number l → (word_of (After kind core step) (Bound n k q) ≡ word_of core (Bound n k q)) ⊎ TightSide Now r n k q (word_of (After kind core step) (Bound n k q))

  abbrev Gives : Rebuild → Type 0
  Gives r = (noted : Noted) (q side : ℕ) → Contains r.noted noted → IsSideOf Old r noted q side → IsSideOf Now r noted q side

  planned-forth : (r : Rebuild) (noted : Noted) (n k : ℕ) → PlansStand Before r → Contains r.noted noted → IsPlannedBelow Old noted n k → IsPlannedBelow Now noted n k
  planned-forth r noted n k plans among t =
      (t.0, t.1, t.2, t.3, above-forth kind core step a Before later New m Old.word Now.word leads m.parent t.0 t.1 n k (plans noted t.0 t.1 among t.2 t.3) t.4)

  tight-forth : (number : ℕ) (r : Rebuild) → ((n number l : ℕ) → New n → later.home n ≢ made number l) → PlansStand Before r → Gives r → Fresh number r → IsTight Before Old number r → IsTight later Now number r
  tight-forth number r unmade plans gives fresh tight n k l home below full =
      elim (m.stood n (subst IsInTree (sym home) tt)) [
        | inl same ↦
            let old : Before.home n ≡ made number l = sym same ∙ home in
            let stands : Stands (Before.home n) = subst Stands (sym old) tt in
            hull-by (TightSide Old r n k) (TightSide Now r n k) (bound_in Old.word n k) (bound_in Now.word n k)
            (λ q side counts. (counts.0, counts.1, planned-forth r counts.0 n k plans counts.1 counts.2, gives counts.0 q side counts.1 counts.3)) (λ q. fresh n k q l old)
            (tight n k l old below (λ none. full (none-forth n k stands none)))
        | inr new ↦ absurd (unmade n number l new home)
      ]

  -- ---- readers that an update has seen

  pub seen-back : (r : Rebuild) (q : ℕ) → word_of (After kind core step) (Reader q) ≡ word_of core (Reader q) → HasSeenOff Now r q → HasSeenOff Old r q
  seen-back r q same seen = (seen.0, seen.1, elim (seen.2) [ inl even ↦ inl even | inr other ↦ inr (λ e. other (e ∙ sym same)) ])

  off-forth : (number : ℕ) (r : Rebuild) → GoesOn → (HasSeenOff Now r step.number → AvoidsSuperseded later Now number (Last kind core step).walk) → EachPass Old (Off Before Old number r) → EachPass Now (Off later Now number r)
  off-forth number r g avoids off =
      each-step reader_scope (λ k v. refl) kind core step a.at a.pass (λ q other. WalkIn Before Old other.walk × Off Before Old number r q other) (Off later Now number r)
      (λ q other among pass. (a.laws.readers.stays q other among pass, off q other among pass))
      (λ seat q other apart found own both seen.
      avoids-forth number other.walk both.0 (both.1 (seen-back r q (g.seen q (other-number core step a seat q other apart found own)) seen)))
      (λ both. avoids)

  -- ---- the law

  pub ReadersCounted-goes_on : Counts → GoesOn → ReadersCounted later (After kind core step)
  ReadersCounted-goes_on c g =
      let h = a.laws.readers in
      let each = each-step reader_scope (λ k v. refl) kind core step a.at a.pass in
      let updates = each_update kind core step a Before later New m reader_scope (λ k v. refl) update_on_readers (λ bare view. refl) in
      record {
        odd = odd-after g;
        stays = each (λ number v. WalkIn Before Old v.walk) (λ number v. WalkIn later Now v.walk) h.stays (λ seat number view apart found own was. walk-forth view.walk was) (λ was. g.stays);
        in_space = each (λ number v. WalkIn Before Old v.walk × SpaceIn Old v.walk) (λ number v. SpaceIn Now v.walk)
            (λ number v among pass. (h.stays number v among pass, h.in_space number v among pass))
            (λ seat number view apart found own both. walk_space-forth c view.walk both.0 both.1) (λ was. g.in_space);
        seen_off = λ number view among pass.
            if_some_map view.rebuild _ _ (λ r both. both.0 both.1)
            (if_some_both view.rebuild _ _
            (updates (λ number v r. EachPass Old (Off Before Old number r))
            (λ number v r. (HasSeenOff Now r step.number → AvoidsSuperseded later Now number (Last kind core step).walk) → EachPass Now (Off later Now number r)) h.seen_off
            (λ number v r off avoids. off-forth number r g avoids off) (λ r some off avoids. off-forth step.number r g avoids off) number view among pass)
            (g.avoids number view among pass));
        climbs = each (λ number v. ClimbsInTrees Before Old v.call.task) (λ number v. ClimbsInTrees later Now v.call.task) h.climbs
            (λ seat number view apart found own climbs. climbs-forth view.call.task (c.places seat number view apart found own) climbs) (λ was. climbs-seen later Now (Last kind core step).call.task c.climbs);
        space = λ n k l live layer below full.
            elim (m.stood n (stands-in_tree (later.home n) (live-stands (later.home n) live))) [
              | inl home ↦
                  let was = subst IsLive home live in
                  let of = subst (IsOfLayer l) home layer in
                  hull-by (IsInLayer Old l) (IsInLayer Now l) (bound_in Old.word n k) (bound_in Now.word n k) (c.layers l) (λ q. c.live n k q l was of)
                  (h.space n k l was of below (λ none. full (none-forth n k (live-stands (Before.home n) was) none)))
              | inr new ↦ c.new n k l new live layer below full
            ];
        tight =
            updates
            (λ number v r. ((r.is_planned ≡ true → PlansStand Before r) × (r.is_planned ≡ true → IsTight Before Old number r)) × (Gives r × Fresh number r))
            (λ number v r. r.is_planned ≡ true → IsTight later Now number r)
            (λ number v among pass. if_some_both v.rebuild _ _ (if_some_both v.rebuild _ _ (plans-stand Before core a.laws.locations number v among pass) (h.tight number v among pass))
            (if_some_both v.rebuild _ _ (c.gives number v among pass) (c.fresh number v among pass)))
            (λ number v r t planned. tight-forth number r c.unmade (t.0.0 planned) t.1.0 t.1.1 (t.0.1 planned))
            (λ r some t planned. tight-forth step.number r c.unmade (t.0.0 planned) t.1.0 t.1.1 (t.0.1 planned));
      }

  -- the own walk and reader words are the same
  pub goes_on-same : Counts → SameWalk → GoesOn
  goes_on-same c w =
      let h = a.laws.readers in
      let own = each-seat reader_scope (λ k v. refl) core in
      let walks = own _ h.stays step.seat step.number step.view a.at a.pass in
      let odd-same : Now.word (Reader step.number) % 2 ≡ Old.word (Reader step.number) % 2 = ap (λ (x : ℕ). x % 2) (w.reader step.number) in
      record {
        odd = λ was. (λ e. ap (λ (x : Walk). x.is_on) w.walk ∙ was.0 (sym odd-same ∙ e), λ on. odd-same ∙ was.1 (ap (λ (x : Walk). x.is_on) (sym w.walk) ∙ on));
        seen = λ number other. w.reader number;
        stays = subst (λ (x : Walk). WalkIn later Now x) (sym w.walk) (walk-forth step.view.walk walks);
        in_space = subst (λ (x : Walk). SpaceIn Now x) (sym w.walk) (walk_space-forth c step.view.walk walks (own _ h.in_space step.seat step.number step.view a.at a.pass));
        avoids = each_update kind core step a Before later New m reader_scope (λ k v. refl) update_on_readers (λ bare view. refl)
            (λ number v r. EachPass Old (Off Before Old number r)) (λ number v r. HasSeenOff Now r step.number → AvoidsSuperseded later Now number (Last kind core step).walk) h.seen_off
            (λ number v r off seen. avoids-own number r walks w (own _ off step.seat step.number step.view a.at a.pass) seen)
            (λ r some off seen. avoids-own step.number r walks w (own _ off step.seat step.number step.view a.at a.pass) seen);
      }
    where
      avoids-own : (number : ℕ) (r : Rebuild) → WalkIn Before Old step.view.walk → SameWalk → (HasSeenOff Old r step.number → AvoidsSuperseded Before Old number step.view.walk) → HasSeenOff Now r step.number → AvoidsSuperseded later Now number (Last kind core step).walk
      avoids-own number r walks w off seen =
          subst (λ (x : Walk). AvoidsSuperseded later Now number x) (sym w.walk) (avoids-forth number step.view.walk walks (off (seen-back r step.number (w.reader step.number) seen)))

  pub ReadersCounted-leaves : Counts → SameWalk → ReadersCounted later (After kind core step)
  ReadersCounted-leaves c w = ReadersCounted-goes_on c (goes_on-same c w)

  -- ---- sides that count

  -- a body that is there is of the same creation and layer afterwards
  abbrev pub KeepsLayer : ℕ → Type 0
  KeepsLayer i = (g l : ℕ) → HasBody (scene_of core) i (λ r. (r.generation ≡ g) × (r.layer ≡ l)) → HasBody (scene_of (After kind core step)) i (λ r. (r.generation ≡ g) × (r.layer ≡ l))

  -- the body has this side now
  abbrev HasSide : ℕ → ℕ → ℕ → Type 0
  HasSide index q side = HasBody (scene_of (After kind core step)) index (λ r. sides_of (words_of r.bounds) q ≡ side)

  -- what is to be shown where the own pass is to give bodies the same boxes, or has given them: bodies that passes handle
  -- keep their layers
  pub record KeepsTargets : Type 0 where
    pub targets : (index q side : ℕ) → IsTarget step.view.call.task index q side → IsTarget (Last kind core step).call.task index q side ⊎ HasSide index q side
    pub bodies : (seat number : ℕ) (view : View) → IsViewAt core seat view → IsPass view number → (i : ℕ) → IsHandled view.call.task i → KeepsLayer i

  pub had-forth : (l : ℕ) (box : Sides) → HadInLayer Old l box → HadInLayer Now l box
  had-forth l box h = subst (λ (past : List Made). HadInLayer (record Now { history = past }) l box) (sym m.goes_on) (had_in_layer-grown Old Now.word m.more l box h)

  pub had_as-forth : (from : ℕ) (noted : Noted) (box : Sides) → HadAs Old from noted box → HadAs Now from noted box
  had_as-forth from noted box h =
      let longer = length-grown Old.history m.more in
      subst (λ (past : List Made). HadAs (record Now { history = past }) from noted box) (sym m.goes_on) (
        h.0,
        h.1,
        omega (arith, h.2),
        subst (λ (scene : Scene). HasBody scene noted.index (λ r. (r.generation ≡ noted.generation) × (r.layer ≡ noted.layer) × (box ≡ sides_of (words_of r.bounds))))
            (sym (point-grown core.config.bodies Old.history m.more h.0 h.2)) h.3,
      )

  -- what a body has it had at the last point of the history
  had-now : (index : ℕ) (P : Record → Type 0) → HasBody (scene_of (After kind core step)) index P → HasBody (point core.config.bodies Now.history (length Now.history)) index P
  had-now index P h = subst (λ (s : Scene). HasBody s index P) (sym (last_point (After kind core step))) h

  -- what the own pass is to give is on its way
  pub coming-now : (index q side : ℕ) → IsTarget (Last kind core step).call.task index q side → IsComing Now index q side
  coming-now index q side target = (
    step.number,
    seat-has reader_scope (λ k v. refl) (After kind core step) step.number (λ v. IsTarget v.call.task index q side) (record {
      seat = step.seat;
      view = Last kind core step;
      at = view-step kind core step a.at;
      pass = a.pass;
      holds = target-seen (Last kind core step).call.task index q side target;
    }),
  )

  coming-left : KeepsTargets → (index q side : ℕ) → IsComing Old index q side → IsComing Now index q side ⊎ HasSide index q side
  coming-left t index q side h =
      let from = has-seat reader_scope (λ k v. refl) core h.0 (λ v. IsTarget v.call.task index q side) h.1 in
      elim (seat-before reader_scope (λ k v. refl) kind core step a.at a.pass from.seat h.0 from.view from.at from.pass) [
        | steps_now same one two ↦
            elim (t.targets index q side (target-was step.view.call.task index q side (subst (λ (v : View). IsTarget (task_at_place v.call.task) index q side) (sym one) from.holds))) [
              | inl target ↦ inl (coming-now index q side target)
              | inr has ↦ inr has
            ]
        | stays apart new ↦ inl (h.0, seat-has reader_scope (λ k v. refl) (After kind core step) h.0 (λ v. IsTarget v.call.task index q side) (record { seat = from.seat; view = from.view; at = new; pass = from.pass; holds = from.holds }))
      ]

  coming-keeps : KeepsTargets → (index q side : ℕ) → IsComing Old index q side → KeepsLayer index
  coming-keeps t index q side h =
      let from = has-seat reader_scope (λ k v. refl) core h.0 (λ v. IsTarget v.call.task index q side) h.1 in
      t.bodies from.seat h.0 from.view from.at from.pass index (target-handled from.view.call.task index q side from.holds)

  layer-forth : (i l : ℕ) → KeepsLayer i → HasBody (scene_of core) i (λ r. r.layer ≡ l) → HasBody (scene_of (After kind core step)) i (λ r. r.layer ≡ l)
  layer-forth i l keeps body =
      let t = body_record (record_at (scene_of core) i) _ body in
      some_and_map (record_at (scene_of (After kind core step)) i) _ _ (λ r both. both.1) (keeps t.0.generation l (record_body (record_at (scene_of core) i) _ t.0 t.1 (refl, t.2)))

  -- all that counted for a layer or for an update counts then
  pub layers-kept : KeepsTargets → (l q side : ℕ) → IsInLayer Old l q side → IsInLayer Now l q side
  layers-kept t l q side (inl had) = inl (had.0, had-forth l had.0 had.1, had.2)
  layers-kept t l q side (inr coming) =
      let of = layer-forth coming.0 l (coming-keeps t coming.0 q side coming.1) coming.2 in
      elim (coming-left t coming.0 q side coming.1) [
        | inl c ↦ inr (coming.0, c, of)
        | inr has ↦
            let x = body_record (record_at (scene_of (After kind core step)) coming.0) _ has in
            let P : Record → Type 0 = λ y. (y.layer ≡ l) × (sides_of (words_of x.0.bounds) ≡ sides_of (words_of y.bounds)) in
            let here = record_body (record_at (scene_of (After kind core step)) coming.0) P x.0 x.1 (subst (λ (o : Option Record). IsSomeAnd o (λ y. y.layer ≡ l)) x.1 of, refl) in
            inl (sides_of (words_of x.0.bounds), (length Now.history, coming.0, omega arith, had-now coming.0 P here), x.2)
      ]

  pub gives-kept : KeepsTargets → EachUpdate Old (λ number view r. (noted : Noted) (q side : ℕ) → Contains r.noted noted → IsSideOf Old r noted q side → IsSideOf Now r noted q side)
  gives-kept t =
      let begun = each-seat cover_scope (λ k v. refl) core (λ k v. IfSome v.rebuild (λ r. r.from ≤ length Old.history)) (λ number v among pass. if_some_map v.rebuild _ _ (λ r notes. notes.begun) (a.laws.cover.notes number v among pass)) in
      each-seats reader_scope (λ k v. refl) core (λ number v. IfSome v.rebuild Gives) (λ seat number view at pass. each view.rebuild (begun seat number view at pass))
    where
      give : (r : Rebuild) → r.from ≤ length Old.history → (noted : Noted) (q side : ℕ) → IsSideOf Old r noted q side → IsSideOf Now r noted q side
      give r begun noted q side (inl had) = inl (had.0, had_as-forth r.from noted had.0 had.1, had.2)
      give r begun noted q side (inr both) =
          let same = coming-keeps t noted.index q side both.1 noted.generation noted.layer both.0 in
          elim (coming-left t noted.index q side both.1) [
            | inl c ↦ inr (same, c)
            | inr has ↦
                let x = body_record (record_at (scene_of (After kind core step)) noted.index) _ has in
                let is = subst (λ (o : Option Record). IsSomeAnd o (λ y. (y.generation ≡ noted.generation) × (y.layer ≡ noted.layer))) x.1 same in
                let P : Record → Type 0 = λ y. (y.generation ≡ noted.generation) × (y.layer ≡ noted.layer) × (sides_of (words_of x.0.bounds) ≡ sides_of (words_of y.bounds)) in
                let here = record_body (record_at (scene_of (After kind core step)) noted.index) P x.0 x.1 (is.0, is.1, refl) in
                let longer = length-grown Old.history m.more in
                let total : length Now.history ≡ length (Old.history ++ m.more) = ap length m.goes_on in
                inl (sides_of (words_of x.0.bounds), (length Now.history, omega arith, omega arith, had-now noted.index P here), x.2)
          ]

      each : (o : Option Rebuild) → IfSome (option_map update_on_cover o) (λ r. r.from ≤ length Old.history) → IfSome (option_map update_on_readers o) Gives
      each None begun = tt
      each (Some r) begun = λ noted q side among counts. give (update_on_readers r) begun noted q side counts

  -- a body that stays where it is keeps its layer
  pub in_place-keeps : (i : ℕ) → InPlace kind core step i → KeepsLayer i
  in_place-keeps i b g l body = creation-forth kind core step i b (λ x y. (x ≡ g) × (y ≡ l)) body

-- ---- a step after which all bodies stand as they stood

module _ (kind : Kind) (core : Core) (step : Step) (a : Acts core step) (m : Leaves kind core step a.laws.nodes a.laws.nodes (λ n. ⊥)) (stays_all : (i : ℕ) → Stays kind core step i) where
  abbrev None_comes : ℕ → Type 0
  None_comes n = ⊥

  abbrev Seen : Sight
  Seen = sight reader_scope (After kind core step)

  pub counts-stay : ((index q side : ℕ) → IsTarget step.view.call.task index q side → IsTarget (Last kind core step).call.task index q side ⊎ HasBody (scene_of (After kind core step)) index (λ r. sides_of (words_of r.bounds) q ≡ side))
      → ClimbsInTrees a.laws.nodes Seen (Last kind core step).call.task
      → ((n k q l : ℕ) → IsLive (a.laws.nodes.home n) → IsOfLayer l (a.laws.nodes.home n) → (word_of (After kind core step) (Bound n k q) ≡ word_of core (Bound n k q)) ⊎ IsInLayer Seen l q (word_of (After kind core step) (Bound n k q)))
      → EachUpdate (sight reader_scope core) (λ number view r. (n k q l : ℕ) → a.laws.nodes.home n ≡ made number l → (word_of (After kind core step) (Bound n k q) ≡ word_of core (Bound n k q)) ⊎ TightSide Seen r n k q (word_of (After kind core step) (Bound n k q)))
      → Counts kind core step a a.laws.nodes None_comes m
  counts-stay targets climbs live fresh =
      let kept : KeepsTargets kind core step a a.laws.nodes None_comes m = record {
        targets = targets;
        bodies = λ seat number view at pass i handled. in_place-keeps kind core step a a.laws.nodes None_comes m i (stays-in_place kind core step i (stays_all i));
      } in
      record {
        places = λ seat number view apart at pass i handled. ((stays_all i).loc_a, (stays_all i).loc_b);
        climbs = climbs;
        layers = layers-kept kind core step a a.laws.nodes None_comes m kept;
        gives = gives-kept kind core step a a.laws.nodes None_comes m kept;
        live = live;
        fresh = fresh;
        new = λ n k l none. absurd none;
        unmade = λ n number l none. absurd none;
      }

-- ---- a step that touches no place in a tree

idle-target : (task : Task) (index q side : ℕ) → IsIdle task → ¬ IsTarget task index q side
idle-target (Moving i target) index q side calm h = calm
idle-target _ index q side calm h = h

pub idle-climbs : (nodes : Nodes) (s : Sight) (task : Task) → IsIdle task → ClimbsInTrees nodes s task
idle-climbs nodes s (Moving index target) calm = absurd calm
idle-climbs nodes s (Removing index) calm = absurd calm
idle-climbs nodes s _ calm = tt

module _ (kind : Kind) (core : Core) (step : Step) (a : Acts core step) (later : Nodes) (t : Touches kind core step a.laws.nodes later) where
  abbrev None_new : ℕ → Type 0
  None_new n = ⊥

  handled-stays : (seat number : ℕ) (view : View) → IsViewAt core seat view → IsPass view number → (i : ℕ) → IsHandled view.call.task i → Stays kind core step i
  handled-stays seat number view at pass i handled = elim (t.bodies i) [ inl same ↦ same | inr apart ↦ absurd (apart.alone seat number view at pass handled) ]

  keeps : KeepsTargets kind core step a later None_new t.leaves
  keeps = record {
    targets = λ index q side target.
        elim (t.call) [
          | inl same ↦ inl (subst (λ (c : Call). IsTarget c.task index q side) (sym same) target)
          | inr calm ↦ absurd (idle-target step.view.call.task index q side calm.0 target)
        ];
    bodies = λ seat number view at pass i handled. in_place-keeps kind core step a later None_new t.leaves i (stays-in_place kind core step i (handled-stays seat number view at pass i handled));
  }

  counts : Counts kind core step a later None_new t.leaves
  counts = record {
    places = λ seat number view apart at pass i handled. let s = handled-stays seat number view at pass i handled in (s.loc_a, s.loc_b);
    climbs =
        elim (t.call) [
          | inl same ↦ climbs-own kind core step a later None_new t.leaves same (λ i handled. let s = handled-stays step.seat step.number step.view a.at a.pass i handled in (s.loc_a, s.loc_b))
          | inr calm ↦ idle-climbs later (sight reader_scope (After kind core step)) (Last kind core step).call.task calm.1
        ];
    layers = layers-kept kind core step a later None_new t.leaves keeps;
    gives = gives-kept kind core step a later None_new t.leaves keeps;
    live = λ n k q l live layer. inl (t.bounds n k q (live-stands (a.laws.nodes.home n) live));
    fresh = λ number view among pass. some-all view.rebuild _ (λ r n k q l home. inl (t.bounds n k q (subst Stands (sym home) tt)));
    new = λ n k l none. absurd none;
    unmade = λ n number l none. absurd none;
  }

  pub ReadersCounted-touches : ReadersCounted later (After kind core step)
  ReadersCounted-touches = ReadersCounted-leaves kind core step a later None_new t.leaves counts (record { reader = t.reader; walk = t.walk })
