-- What the laws of locations, of bodies and of readers say once what an update took out of sight is given back: words, history and
-- passes are as they were, no location leads to a tree that was out of sight, and no walk comes there.
use Rattle.std.proofs.Common.{◌≡◌, ◌⊎◌, ℕ, List, Option, Some, None, true, refl, ap, sym, ◌∙◌, subst, inl, inr}
use Rattle.std.specs.Prelude.{IfSome, IsSomeAnd}
use Rattle.word_map.specs.declared.name.Name.TheVariants.{LocB}
use Rattle.core_state.specs.declared.item.Load.{Load}
use Rattle.core_state.specs.declared.view.Noted.{Noted}
use Rattle.core_state.specs.declared.view.Rebuild.{Rebuild}
use Rattle.core_state.specs.declared.view.Task.{Task}
use Rattle.core_state.specs.declared.view.Task.TheVariants.{Moving, Removing, Placing}
use Rattle.core_state.specs.declared.view.View.{View}
use Rattle.core_state.specs.Nodes.{Nodes, Home, made, under, IsLive, IsOfLayer, IsPublished, Stands, Above, here}
use Rattle.core_state.specs.Scope.{Sight, EachPass}
use Rattle.core_state.specs.Updates.{EachUpdate, IsOldTree, IsPlacing}
use Rattle.core_state.specs.Walking.{Query, Follows, Position, position_of}
use Rattle.core_state.specs.LocationsHold.{LocationsHoldIn, IsLocation, IsWhere, in_slot, in_main, in_old, in_merged, IsPlannedAt, IsTakenOut, ClimbsFrom}
use Rattle.core_state.specs.BodiesCovered.{BodiesCoveredIn, NotesHold, IsInOldTree}
use Rattle.core_state.specs.ReadersCounted.{ReadersCountedIn, WalkStays, Reaches, IsWalkedAt, ClimbsInTrees}
use Rattle.core_guard.proofs.Leaving.{if_some_map, LeadsWithin}
use Rattle.core_move.proofs.MoveSteps.{above-home}
use Rattle.core_update.proofs.Reclaiming.{reclaim, reclaimed, IsInSight, reclaim-kept, reclaim-forth, reclaim-back, home-back, all-in-sight}

module _ (nodes : Nodes) (s : Sight) where
  abbrev later : Nodes
  later = reclaimed nodes

  made-back : (n number l : ℕ) → later.home n ≡ made number l → nodes.home n ≡ made number l
  made-back n number l = home-back (nodes.home n) (made number l) (λ p e. absurd cc) (λ e. absurd cc)

  -- no location leads to a tree that is out of sight
  abbrev pub IsNoneThere : Type 0
  IsNoneThere = (i n k : ℕ) → IsLocation s i n k → IsInSight (nodes.home n)

  -- ---- locations

  module _ (none_there : IsNoneThere) (unplaced : (i : ℕ) → s.word (LocB i) ≡ 0) (resting : EachUpdate s (λ number view r. (i : ℕ) → ¬ IsPlacing view.call.task i)) where
    -- what is said of the node at a location is said of it then
    at-location : (P : Home → Type 0) (i n k : ℕ) → IsLocation s i n k → P (nodes.home n) → P (later.home n)
    at-location P i n k location = subst P (sym (reclaim-kept (nodes.home n) (none_there i n k location)))

    where-later : (i layer n : ℕ) → IsWhere nodes s i layer n → IsWhere later s i layer n
    where-later i layer n (in_slot t e home second) = in_slot t e (ap reclaim home) second
    where-later i layer n (in_main e home second) = in_main e (ap reclaim home) second
    where-later i layer n (in_old number name e second home of_layer) = absurd (second (unplaced i))
    where-later i layer n (in_merged number t root e second home has) = in_merged number t root e second (ap reclaim home) has

    planned-later : (number : ℕ) (view : View) (r : Rebuild) (noted : Noted) → IsPlannedAt nodes s number view r noted → IsPlannedAt later s number view r noted
    planned-later number view r noted h =
        record { node = h.node; child = h.child; below = h.below; at = h.at; made_for = ap reclaim h.made_for; entry = h.entry; undone = h.undone; of_done = h.of_done }

    taken-later : (view : View) (i : ℕ) → IsTakenOut nodes s view i → IsTakenOut later s view i
    taken-later view i h = record {
      out = h.out;
      cleared = λ n k location. let t = h.cleared n k location in (at-location Stands i n k location t.0, t.1);
      live = λ n k below e. at-location IsLive i n k (below, inl e) (h.live n k below e);
    }

    climbs-later : (view : View) (task : Task) (n k : ℕ) → IfSome view.rebuild (λ r. (i : ℕ) → ¬ IsPlacing task i) → (ClimbsFrom s view task n k → Stands (nodes.home n)) → ClimbsFrom s view task n k → Stands (later.home n)
    climbs-later view (Moving i target) n k none was climbs = at-location Stands i n k climbs (was climbs)
    climbs-later view (Placing i) n k none was climbs = absurd (idle view.rebuild _ none climbs.1)
      where
        idle : (o : Option Rebuild) (P : Rebuild → Type 0) → IfSome o (λ r. (j : ℕ) → ¬ IsPlacing (Placing i) j) → ¬ IsSomeAnd o P
        idle None P none h = h
        idle (Some r) P none h = none i refl
    climbs-later view _ n k none was climbs = absurd climbs

    pub LocationsHold-reclaimed : LocationsHoldIn nodes s → LocationsHoldIn later s
    LocationsHold-reclaimed h = record {
      at = λ i r n k e inside location.
          let t = h.at i r n k e inside location in
          record { stands = at-location Stands i n k location t.stands; entry = t.entry; bounds = t.bounds; box_words = t.box_words };
      entries = λ i n k published. h.entries i n k (subst IsPublished (reclaim-back IsPublished (λ p none. none) (λ none. none) (nodes.home n) published) published);
      made_entries = λ i n k number l home. h.made_entries i n k number l (made-back n number l home);
      planned = λ number view among pass. if_some_map view.rebuild _ _ (λ r was noted one planned above. planned-later number view r noted (was noted one planned above)) (h.planned number view among pass);
      published = λ number view among pass.
          if_some_map view.rebuild _ _ (λ r was noted one planned above. let t = was noted one planned above in (t.0, t.1, t.2, t.3, ap reclaim t.4)) (h.published number view among pass);
      first = λ i r n k e inside below location. where-later i r.layer n (h.first i r n k e inside below location);
      located = h.located;
      second = h.second;
      dead = h.dead;
      out = h.out;
      removed = λ number view among pass i removes. taken-later view i (h.removed number view among pass i removes);
      held = h.held;
      unheld = h.unheld;
      widened = h.widened;
      still_wide = h.still_wide;
      climbs_from = λ number view among pass n k. climbs-later view view.call.task n k (resting number view among pass) (h.climbs_from number view among pass n k);
      on_its_way = h.on_its_way;
      widened_on_way = h.widened_on_way;
    }

  -- ---- bodies

  old-back : (r : Rebuild) (i : ℕ) → IsInOldTree later s r i → IsInOldTree nodes s r i
  old-back r i t = (t.0, t.1, t.2, t.3, subst (IsOldTree r) (reclaim-back (IsOldTree r) (λ p none. none) (λ none. none) (nodes.home t.0) t.4) t.4)

  old-home : (r : Rebuild) (n : ℕ) → IsOldTree r (nodes.home n) → IsOldTree r (later.home n)
  old-home r n old = subst (IsOldTree r) (sym (reclaim-forth (IsOldTree r) (λ p name none. none) (nodes.home n) old)) old

  notes-later : (view : View) (r : Rebuild) → NotesHold nodes s view r → NotesHold later s view r
  notes-later view r h = record {
    all_noted = λ i opened tree. h.all_noted i opened (old-back r i tree);
    still_there = λ n among opened looks.
        let t = h.still_there n among opened looks in
        ((t.0.0, t.0.1, t.0.2, t.0.3, old-home r t.0.0 t.0.4), t.1);
    located = h.located;
    in_old = λ n among undone. let t = h.in_old n among undone in (t.0, t.1, t.2, t.3, old-home r t.0 t.4);
    placed = λ i among tree. h.placed i among (old-back r i tree);
    given_up = λ i among tree. h.given_up i among (old-back r i tree);
    once = h.once;
    passed = h.passed;
    boxes = h.boxes;
    begun = h.begun;
  }

  pub BodiesCovered-reclaimed : BodiesCoveredIn nodes s → BodiesCoveredIn later s
  BodiesCovered-reclaimed h = record {
    covered = λ i r e inside.
        let t = h.covered i r e inside in
        let same = reclaim-forth IsPublished (λ p name none. none) (nodes.home t.0) t.3 in
        (t.0, t.1, t.2, subst IsPublished (sym same) t.3, subst (IsOfLayer r.layer) (sym same) t.4);
    replaced = λ i n k number name below at home. absurd (all-in-sight (nodes.home n) number name home);
    to_place = h.to_place;
    notes = λ number view among pass. if_some_map view.rebuild _ _ (λ r was. notes-later view r was) (h.notes number view among pass);
    merged = h.merged;
    exchanged = h.exchanged;
  }

  -- ---- readers

  -- what a walk reaches or has walked is in sight
  abbrev pub WalksInSight : Type 0
  WalksInSight = EachPass s (λ number view. view.walk.is_on ≡ true → (query : Query) → Follows s.config query view.walk.loads → (n : ℕ) → Reaches s.word (position_of s.config query view.walk.loads) n ⊎ IsWalkedAt view.walk.loads n → IsInSight (nodes.home n))

  walk-later : (loads : List Load) (at : Position) → ((n : ℕ) → Reaches s.word at n ⊎ IsWalkedAt loads n → IsInSight (nodes.home n)) → WalkStays nodes s.word loads at → WalkStays later s.word loads at
  walk-later loads at inside h = record {
    live = λ n reaches.
        let t = h.live n reaches in
        let same = reclaim-kept (nodes.home n) (inside n (inl reaches)) in
        (subst IsLive (sym same) t.0, if_some_map _ _ _ (λ l of. subst (IsOfLayer l) (sym same) of) t.1);
    apart = h.apart;
    ahead = h.ahead;
    behind = h.behind;
    levels = h.levels;
    read = λ n name from home. h.read n name from (home-back (nodes.home n) (under name) (λ p e. absurd cc) (λ e. absurd cc) home);
    visited = λ n walked. let t = h.visited n walked in (subst IsLive (sym (reclaim-kept (nodes.home n) (inside n (inr walked)))) t.0, t.1);
  }

  module _ (none_there : IsNoneThere) (leads : LeadsWithin nodes s.word) (walks : WalksInSight) where
    stands-above : (i n k a b : ℕ) → IsLocation s i n k → Above s.word n k a b → Stands (nodes.home n) → Stands (nodes.home a) → Stands (later.home a)
    stands-above i n k a b location above below stands =
        let same = above-home nodes s.word leads n k a b below above in
        subst Stands (sym (reclaim-kept (nodes.home a) (λ p name e. none_there i n k location p name (sym same ∙ e)))) stands

    climbs-in : (task : Task) → ClimbsInTrees nodes s task → ClimbsInTrees later s task
    climbs-in (Moving i target) h = λ n k a b location above. stands-above i n k a b location above (h n k n k location (here n k)) (h n k a b location above)
    climbs-in (Removing i) h = λ n k a b location above. stands-above i n k a b location above (h n k n k location (here n k)) (h n k a b location above)
    climbs-in _ h = tt

    pub ReadersCounted-reclaimed : ReadersCountedIn nodes s → ReadersCountedIn later s
    ReadersCounted-reclaimed h = record {
      odd = h.odd;
      stays = λ number view among pass on query follows. walk-later view.walk.loads _ (walks number view among pass on query follows) (h.stays number view among pass on query follows);
      in_space = h.in_space;
      seen_off = λ number view among pass.
          if_some_map view.rebuild _ _ (λ r was q other one own seen on query follows a name from. all-in-sight (nodes.home a) number name) (h.seen_off number view among pass);
      climbs = λ number view among pass. climbs-in view.call.task (h.climbs number view among pass);
      space = λ n k l live of. let same = reclaim-back IsLive (λ p none. none) (λ none. none) (nodes.home n) live in h.space n k l (subst IsLive same live) (subst (IsOfLayer l) same of);
      tight = λ number view among pass. if_some_map view.rebuild _ _ (λ r was planned n k l home. was planned n k l (made-back n number l home)) (h.tight number view among pass);
    }
