-- The law of readers of two kinds of step that store alike: where it holds after the one it holds after the other, also where
-- nodes that were in no tree come to stand in a new one.
use Rattle.std.proofs.Common.{◌≡◌, ◌≢◌, ℕ, suc, ◌+◌, ◌≤◌, List, true, Contains, Option, Some, None, refl, sym, ◌∙◌, subst, inl, inr}
use Rattle.std.specs.Prelude.{IfSome, option_map}
use Rattle.std.proofs.lemmas.Option.{same_Some, none-some}
use Rattle.word_map.specs.declared.name.Name.{Name}
use Rattle.core_state.specs.declared.item.Load.{Load}
use Rattle.core_state.specs.declared.view.Noted.{Noted}
use Rattle.core_state.specs.declared.view.Rebuild.{Rebuild}
use Rattle.core_state.specs.declared.view.Task.{Task}
use Rattle.core_state.specs.declared.view.Task.TheVariants.{Moving, Removing}
use Rattle.core_state.specs.declared.view.View.{View}
use Rattle.core_state.specs.declared.view.Waiting.{Waiting}
use Rattle.core_state.specs.declared.view.Walk.{Walk}
use Rattle.core_state.specs.Core.{Core}
use Rattle.core_state.specs.Encoding.{bound_in}
use Rattle.core_state.specs.Kind.{Kind, Step, view_after, after_step}
use Rattle.core_state.specs.Nodes.{Nodes, Home, under, superseded, made, IsLive, Stands, IsOfLayer, itself}
use Rattle.core_state.specs.Parts.{task_at_place, no_rebuild, update_on_readers}
use Rattle.core_state.specs.Scope.{Sight, sight, HasPass, EachPass}
use Rattle.core_state.specs.Space.{IsTarget, IsComing, IsInLayer, IsInHull, IsSideIn}
use Rattle.core_state.specs.Walking.{Spot, resting, at_child, at_bound, Position, position_of, waiting}
use Rattle.core_state.specs.ReadersCounted.{ReadersCounted, reader_scope, Reaches, by_stack, by_spot, ReachesBySpot, the_node, the_node_of_bound, waiting_at, WalkStays, layer_at_hand, AvoidsSuperseded, HasSeenOff, ClimbsInTrees, IsTight, IsSideOf}
use Rattle.core_state.proofs.Beginning.{cases_cons}
use Rattle.core_guard.proofs.Leaving.{Acts, if_some_map, live-stands, other-number}
use Rattle.core_guard.proofs.ReadersLeft.{WalkIn, SpaceIn, Off}
use Rattle.core_update.proofs.Swapped.{each-swap, has-swap}

-- a node on the stack or at hand is reached
waiting-reached : (word : Name → ℕ) (at : Position) (w : Waiting) (spot : Spot) → spot ≡ at.spot → Contains (waiting_at spot at.stack) w → Reaches word at w.node
waiting-reached word at w resting e h = by_stack w h (itself w.node)
waiting-reached word at w (at_child n level k) e h =
    elim (cases_cons (waiting n level) at.stack w h) [
      | inl same ↦ subst (λ (v : Waiting). Reaches word at v.node) same (by_spot (subst (ReachesBySpot word n) e (the_node level k)))
      | inr rest ↦ by_stack w rest (itself w.node)
    ]
waiting-reached word at w (at_bound n level k x read) e h =
    elim (cases_cons (waiting n level) at.stack w h) [
      | inl same ↦ subst (λ (v : Waiting). Reaches word at v.node) same (by_spot (subst (ReachesBySpot word n) e (the_node_of_bound level k x read)))
      | inr rest ↦ by_stack w rest (itself w.node)
    ]

-- what is so of the loads of readers of one update is so of those of another that has loaded the same
by-readers : (P : List Load → Type 0) (o u : Option Rebuild) → option_map (λ r. r.readers) o ≡ option_map (λ r. r.readers) u → IfSome (option_map update_on_readers o) (λ r. P r.readers) → IfSome (option_map update_on_readers u) (λ r. P r.readers)
by-readers P o None e h = tt
by-readers P None (Some r) e h = absurd (none-some r.readers e)
by-readers P (Some q) (Some r) e h = subst P (same_Some q.readers r.readers e) h

-- nodes that stand keep homes and depths, and no other comes to stand but in a new tree
pub record OnlyMakes (nodes later : Nodes) : Type 0 where
  pub stays : (n : ℕ) → Stands (nodes.home n) → later.home n ≡ nodes.home n
  pub depth : (n : ℕ) → Stands (nodes.home n) → later.depth n ≡ nodes.depth n
  pub live : (n : ℕ) → IsLive (later.home n) → later.home n ≡ nodes.home n

pub same-makes : (nodes : Nodes) → OnlyMakes nodes nodes
same-makes nodes = record { stays = λ n inside. refl; depth = λ n inside. refl; live = λ n is. refl }

-- ---- the same words and history, and other passes

module _ (nodes later : Nodes) (k : OnlyMakes nodes later) (s : Sight) (passes : List View) where
  abbrev Then : Sight
  Then = record s { passes = passes }

  live-again : (n : ℕ) → IsLive (nodes.home n) → IsLive (later.home n)
  live-again n live = subst IsLive (sym (k.stays n (live-stands (nodes.home n) live))) live

  stands-again : (n : ℕ) → Stands (nodes.home n) → Stands (later.home n)
  stands-again n stands = subst Stands (sym (k.stays n stands)) stands

  home-before : (n : ℕ) (home : Home) → IsLive home → later.home n ≡ home → nodes.home n ≡ home
  home-before n home live e = sym (k.live n (subst IsLive (sym e) live)) ∙ e

  stays-again : (loads : List Load) (at : Position) → WalkStays nodes s.word loads at → WalkStays later s.word loads at
  stays-again loads at h = record {
    live = λ n reaches.
        let t = h.live n reaches in
        (live-again n t.0, subst (λ (home : Home). IfSome (layer_at_hand loads) (λ l. IsOfLayer l home)) (sym (k.stays n (live-stands (nodes.home n) t.0))) t.1);
    apart = h.apart;
    ahead = h.ahead;
    behind = h.behind;
    levels = λ w among.
        subst (λ (d : ℕ). w.level ≤ suc d) (sym (k.depth w.node (live-stands (nodes.home w.node) (h.live w.node (waiting-reached s.word at w at.spot refl among)).0))) (h.levels w among);
    read = λ n name from home. h.read n name from (home-before n (under name) tt home);
    visited = λ n walked. let t = h.visited n walked in (live-again n t.0, t.1);
  }

  walk-again : (walk : Walk) → WalkIn nodes s walk → WalkIn later Then walk
  walk-again walk h on query follows = stays-again walk.loads (position_of s.config query walk.loads) (h on query follows)

  avoids-again : (number : ℕ) (walk : Walk) → AvoidsSuperseded nodes s number walk → AvoidsSuperseded later Then number walk
  avoids-again number walk h on query follows n name from home = h on query follows n name from (home-before n (superseded number name) tt home)

  climbs-again : (task : Task) → ClimbsInTrees nodes s task → ClimbsInTrees later Then task
  climbs-again (Moving index target) h = λ n x y z location up. stands-again y (h n x y z location up)
  climbs-again (Removing index) h = λ n x y z location up. stands-again y (h n x y z location up)
  climbs-again _ h = tt

  module _ (coming : (index q side : ℕ) → IsComing s index q side → IsComing Then index q side) where
    layer-again : (l q side : ℕ) → IsInLayer s l q side → IsInLayer Then l q side
    layer-again l q side (inl had) = inl had
    layer-again l q side (inr h) = inr (h.0, coming h.0 q side h.1, h.2)

    hull-again : (Counts More : ℕ → ℕ → Type 0) → ((q side : ℕ) → Counts q side → More q side) → (b : ℕ → ℕ) → IsInHull Counts b → IsInHull More b
    hull-again Counts More more b h q low = let t = h q low in ((t.0.0, more q t.0.0 t.0.1, t.0.2), (t.1.0, more (3 + q) t.1.0 t.1.1, t.1.2))

    space-again : (walk : Walk) → SpaceIn s walk → SpaceIn Then walk
    space-again walk h on query follows =
        let t = h on query follows in
        record {
          sides = λ before rest n x q value e.
              if_some_map (layer_at_hand before) (λ l. IsSideIn (IsInLayer s l) q value) (λ l. IsSideIn (IsInLayer Then l) q value) (λ l side. (side.0, layer-again l q side.0 side.1, side.2, side.3)) (t.sides before rest n x q value e);
          part = λ n level x y read e.
              if_some_map (layer_at_hand walk.loads) (λ l. IsInHull (IsInLayer s l) (bound_in s.word n x)) (λ l. IsInHull (IsInLayer Then l) (bound_in s.word n x))
              (λ l hull. hull-again (IsInLayer s l) (IsInLayer Then l) (layer-again l) (bound_in s.word n x) hull) (t.part n level x y read e);
        }

    side-again : (r : Rebuild) (noted : Noted) (q side : ℕ) → IsSideOf s r noted q side → IsSideOf Then r noted q side
    side-again r noted q side (inl had) = inl had
    side-again r noted q side (inr h) = inr (h.0, coming noted.index q side h.1)

    -- of a tree that was new already
    tight-again : (number : ℕ) (r : Rebuild) → ((n l : ℕ) → later.home n ≡ made number l → nodes.home n ≡ made number l) → IsTight nodes s number r → IsTight later Then number r
    tight-again number r old h n x l home low some =
        hull-again _ _ (λ q side t. (t.0, t.1, t.2, side-again r t.0 q side t.3)) (bound_in s.word n x) (h n x l (old n l home) low some)

-- ---- after the one step and after the other

module _ (kind : Kind) (leaves : View → Name → ℕ → ℕ → ℕ → View) (core : Core) (step : Step) (a : Acts core step) (nodes later : Nodes) (k : OnlyMakes nodes later) where
  abbrev One : View
  One = view_after (record kind { leaves = leaves }) core step

  abbrev Two : View
  Two = view_after kind core step

  abbrev pub FirstReaders : Sight
  FirstReaders = sight reader_scope (after_step (record kind { leaves = leaves }) core step)

  abbrev pub SecondReaders : Sight
  SecondReaders = sight reader_scope (after_step kind core step)

  -- what is to be shown of the stepping pass, and that no node comes to stand in a new tree of another
  pub record SwapsReaders : Type 0 where
    pub walk : Two.walk ≡ One.walk
    pub task : task_at_place Two.call.task ≡ task_at_place One.call.task
    pub readers : option_map (λ r. r.readers) One.rebuild ≡ option_map (λ r. r.readers) Two.rebuild
    pub others : (n number l : ℕ) → number ≢ step.number → later.home n ≡ made number l → nodes.home n ≡ made number l
    pub tight : IfSome (option_map update_on_readers Two.rebuild) (λ r. r.is_planned ≡ true → IsTight later SecondReaders step.number r)

  module _ (h : ReadersCounted nodes (after_step (record kind { leaves = leaves }) core step)) (g : SwapsReaders) where
    coming : (index q side : ℕ) → IsComing FirstReaders index q side → IsComing SecondReaders index q side
    coming index q side c = (
      c.0,
      has-swap reader_scope (λ k v. refl) kind leaves core step a.at a.pass c.0 (λ v. IsTarget v.call.task index q side) (λ v. IsTarget v.call.task index q side) c.1 (λ seat view apart found is target. target)
          (λ same target. subst (λ (t : Task). IsTarget t index q side) (sym g.task) target),
    )

    abbrev Walks : View → Type 0
    Walks v = v.walk.is_on ≡ true

    on-forth : (number : ℕ) → HasPass FirstReaders number Walks → HasPass SecondReaders number Walks
    on-forth number has =
        has-swap reader_scope (λ k v. refl) kind leaves core step a.at a.pass number Walks Walks has (λ seat view apart found is on. on) (λ same on. subst (λ (w : Walk). w.is_on ≡ true) (sym g.walk) on)

    on-back : (number : ℕ) → HasPass SecondReaders number Walks → HasPass FirstReaders number Walks
    on-back number has =
        has-swap reader_scope (λ k v. refl) (record kind { leaves = leaves }) kind.leaves core step a.at a.pass number Walks Walks has (λ seat view apart found is on. on) (λ same on. subst (λ (w : Walk). w.is_on ≡ true) g.walk on)

    -- walks, pass by pass
    each-walk : (P Q : Walk → Type 0) → ((walk : Walk) → P walk → Q walk) → EachPass FirstReaders (λ number v. P v.walk) → EachPass SecondReaders (λ number v. Q v.walk)
    each-walk P Q more old =
        each-swap reader_scope (λ k v. refl) kind leaves core step a.at a.pass (λ number v. P v.walk) (λ number v. Q v.walk) old (λ seat number view apart found is p. more view.walk p)
        (λ p. subst Q (sym g.walk) (more One.walk p))

    -- who is seen off by the loads of readers
    abbrev OffBy : List Load → ℕ → Type 0
    OffBy loads q = HasSeenOff FirstReaders (record no_rebuild { readers = loads }) q

    off-again : (number : ℕ) (loads : List Load) → EachPass FirstReaders (λ q v. OffBy loads q → AvoidsSuperseded nodes FirstReaders number v.walk) → EachPass SecondReaders (λ q v. OffBy loads q → AvoidsSuperseded later SecondReaders number v.walk)
    off-again number loads old =
        each-swap reader_scope (λ k v. refl) kind leaves core step a.at a.pass (λ q v. OffBy loads q → AvoidsSuperseded nodes FirstReaders number v.walk) (λ q v. OffBy loads q → AvoidsSuperseded later SecondReaders number v.walk) old
        (λ seat q view apart found is p off. avoids-again nodes later k FirstReaders SecondReaders.passes number view.walk (p off))
        (λ p off. subst (λ (w : Walk). AvoidsSuperseded later SecondReaders number w) (sym g.walk) (avoids-again nodes later k FirstReaders SecondReaders.passes number One.walk (p off)))

    pub ReadersCounted-swap : ReadersCounted later (after_step kind core step)
    ReadersCounted-swap = record {
      odd = λ number. (λ e. on-forth number ((h.odd number).0 e), λ has. (h.odd number).1 (on-back number has));
      stays = each-walk (λ w. WalkIn nodes FirstReaders w) (λ w. WalkIn later SecondReaders w) (λ w p. walk-again nodes later k FirstReaders SecondReaders.passes w p) h.stays;
      in_space = each-walk (λ w. SpaceIn FirstReaders w) (λ w. SpaceIn SecondReaders w) (λ w p. space-again nodes later k FirstReaders SecondReaders.passes coming w p) h.in_space;
      seen_off =
          each-swap reader_scope (λ k v. refl) kind leaves core step a.at a.pass (λ number v. IfSome v.rebuild (λ r. EachPass FirstReaders (Off nodes FirstReaders number r))) (λ number v. IfSome v.rebuild (λ r. EachPass SecondReaders (Off later SecondReaders number r))) h.seen_off
          (λ seat number view apart found is old.
          if_some_map (option_map update_on_readers view.rebuild) (λ r. EachPass FirstReaders (Off nodes FirstReaders number r)) (λ r. EachPass SecondReaders (Off later SecondReaders number r)) (λ r off. off-again number r.readers off) old)
          (λ old.
          if_some_map (option_map update_on_readers Two.rebuild) (λ r. EachPass FirstReaders (λ q v. OffBy r.readers q → AvoidsSuperseded nodes FirstReaders step.number v.walk)) (λ r. EachPass SecondReaders (Off later SecondReaders step.number r))
          (λ r off. off-again step.number r.readers off) (by-readers (λ loads. EachPass FirstReaders (λ q v. OffBy loads q → AvoidsSuperseded nodes FirstReaders step.number v.walk)) One.rebuild Two.rebuild g.readers old));
      climbs =
          each-swap reader_scope (λ k v. refl) kind leaves core step a.at a.pass (λ number v. ClimbsInTrees nodes FirstReaders v.call.task) (λ number v. ClimbsInTrees later SecondReaders v.call.task) h.climbs
          (λ seat number view apart found is old. climbs-again nodes later k FirstReaders SecondReaders.passes (task_at_place view.call.task) old)
          (λ old. subst (λ (t : Task). ClimbsInTrees later SecondReaders t) (sym g.task) (climbs-again nodes later k FirstReaders SecondReaders.passes (task_at_place One.call.task) old));
      space = λ n x l live layer low some.
          let same = k.live n live in
          hull-again nodes later k FirstReaders SecondReaders.passes coming (IsInLayer FirstReaders l) (IsInLayer SecondReaders l) (layer-again nodes later k FirstReaders SecondReaders.passes coming l) (bound_in FirstReaders.word n x)
          (h.space n x l (subst IsLive same live) (subst (IsOfLayer l) same layer) low some);
      tight =
          each-swap reader_scope (λ k v. refl) kind leaves core step a.at a.pass (λ number v. IfSome v.rebuild (λ r. r.is_planned ≡ true → IsTight nodes FirstReaders number r))
          (λ number v. IfSome v.rebuild (λ r. r.is_planned ≡ true → IsTight later SecondReaders number r)) h.tight
          (λ seat number view apart found is old.
          if_some_map (option_map update_on_readers view.rebuild) (λ r. r.is_planned ≡ true → IsTight nodes FirstReaders number r) (λ r. r.is_planned ≡ true → IsTight later SecondReaders number r)
          (λ r t planned. tight-again nodes later k FirstReaders SecondReaders.passes coming number r (λ n l. g.others n number l (other-number core step a seat number view apart found is)) (t planned)) old)
          (λ old. g.tight);
    }
