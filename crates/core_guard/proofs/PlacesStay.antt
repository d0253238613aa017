-- What the law of locations says of one body, one pass and one update, and that it stays where the step leaves them.
use Rattle.std.proofs.Common.{◌≡◌, ◌≢◌, ◌↔◌, ℕ, ◌<◌, ◌≤◌, List, Option, Some, None, refl, ap, sym, ◌∙◌, subst, inl, inr, arith, []}
use Rattle.std.specs.Prelude.{Contains, IsNone, IsSomeAnd, length}
use Rattle.fixed_box.specs.FixBox.{words_of}
use Rattle.scene_model.specs.declared.body_view.Phase.TheVariants.{Out, Held, In}
use Rattle.scene_model.specs.Scene.{Record, record_at}
use Rattle.scene_model.specs.Step.{HasBody}
use Rattle.word_map.specs.declared.name.Name.TheVariants.{Phase, LocA, LocB, Child}
use Rattle.core_state.specs.declared.item.Store.{Store}
use Rattle.core_state.specs.declared.view.Task.{Task}
use Rattle.core_state.specs.declared.view.Task.TheVariants.{Nothing, Creating, Destroying, Pooling, Moving, Removing, Placing}
use Rattle.core_state.specs.declared.view.Call.{Call}
use Rattle.core_state.specs.declared.view.Noted.{Noted}
use Rattle.core_state.specs.declared.view.Rebuild.{Rebuild}
use Rattle.core_state.specs.declared.view.View.{View}
use Rattle.core_state.specs.View.{IsPass}
use Rattle.core_state.specs.Core.{Core, scene_of, IsViewAt}
use Rattle.core_state.specs.Kind.{Kind, Step}
use Rattle.core_state.specs.Encoding.{body_child, place, Sides, sides_of, bound_in}
use Rattle.core_state.specs.Parts.{call_by_task, call_on_places, update_on_places}
use Rattle.core_state.specs.Nodes.{Nodes, Home, made, IsLive, Stands, IsInTree, Above}
use Rattle.core_state.specs.Scope.{Sight, sight, scene_in, bare_view, HasPass, EachPass}
use Rattle.core_state.specs.TreesSound.{tree_scope}
use Rattle.core_state.specs.Updates.{HasUpdate, IsStillMerged, IsPlacing, IsDone}
use Rattle.core_state.specs.LocationsHold.{LocationsHold, LocationsHoldIn, location_scope, IsLocation, IsAt, Encloses, box_in, Removes, IsRemoved, IsTakenOut, has_cleared_location, IsPlacedNow, IsWhere, in_slot, in_main, in_old, in_merged, IsSecondFor, IsSecond, IsPlannedAt, IsPublishedAt, GivesBox, IsWidened, IsStillWide, ClimbsFrom, IsOnItsWay, IsWidenedOnWay, IsUnheld}
use Rattle.core_state.proofs.Beginning.{record_body}
use Rattle.core_guard.proofs.Seats.{each-seat, has-step}
use Rattle.core_guard.proofs.InPlace.{InPlace, stays-in_place, none-was, phase-back, phase-forth, in-stays, in-was, unremoved-stays, IsAlike, alike-forth}
use Rattle.core_guard.proofs.Leaving.{Acts, IsHandled, IsIdle, idle-unhandled, LeadsWithin, sound-leads, After, Last, Stays, IsApart, Leaves, home-forth, stands-later, wider, above-stands, above-forth, above-back, has_update, record-back, stands-in_tree, held-once, live-stands, covers-more, out_held, IsCleared, entry-kept}
use Rattle.std.proofs.lemmas.Bool.{false≢true}
use Rattle.core_state.proofs.Opening.{none_in}

-- ---- what the law says of one body, and of one pass

pub record BodyIsPlaced (nodes : Nodes) (s : Sight) (i : ℕ) : Type 0 where
  pub at : (r : Record) (n k : ℕ) → record_at (scene_in s) i ≡ Some r → r.phase ≡ In → IsLocation s i n k → IsAt nodes s i r n k
  pub first : (r : Record) (n k : ℕ) → record_at (scene_in s) i ≡ Some r → r.phase ≡ In → k < 4 → s.word (LocA i) ≡ place n k → IsWhere nodes s i r.layer n
  pub located : (r : Record) → record_at (scene_in s) i ≡ Some r → r.phase ≡ In → s.word (LocA i) ≢ 0
  pub second : s.word (LocB i) ≢ 0 → IsSecond s i
  pub dead : IsNone (record_at (scene_in s) i) → (s.word (LocA i) ≡ 0) × (s.word (LocB i) ≡ 0)
  pub out : HasBody (scene_in s) i (λ r. r.phase ≡ Out) → ¬ IsRemoved s i → (s.word (LocA i) ≡ 0) × (s.word (LocB i) ≡ 0)

-- a pass that has this call and this update
abbrev pub acting : Call → Option Rebuild → View
acting call rebuild = record (bare_view 0) { call = call; rebuild = rebuild }

pub record PassIsPlaced (nodes : Nodes) (s : Sight) (call : Call) (rebuild : Option Rebuild) : Type 0 where
  pub removed : (i : ℕ) → Removes call.task i → IsTakenOut nodes s (acting call rebuild) i
  pub unheld : IsUnheld s call.task
  pub widened : IsWidened s (acting call rebuild)
  pub still_wide : IsStillWide s (acting call rebuild)
  pub climbs_from : (n k : ℕ) → ClimbsFrom s (acting call rebuild) call.task n k → Stands (nodes.home n)
  pub on_its_way : IsOnItsWay s (acting call rebuild)
  pub widened_on_way : IsWidenedOnWay s (acting call rebuild)

-- a call that has loaded and stored nothing
pub begun-placed : (nodes : Nodes) (s : Sight) (r : Option Rebuild) (task : Task)
    → ((i : ℕ) → Removes task i → IsTakenOut nodes s (acting (record { task = task; loads = []; stores = [] }) r) i) → IsUnheld s task
    → ((n k : ℕ) → ClimbsFrom s (acting (record { task = task; loads = []; stores = [] }) r) task n k → Stands (nodes.home n)) → PassIsPlaced nodes s (record { task = task; loads = []; stores = [] }) r
begun-placed nodes s r task removed unheld climbs = record {
  removed = removed;
  unheld = unheld;
  widened = λ i n k box gives has. absurd (false≢true has);
  still_wide = λ n k q value among. absurd (none_in _ among);
  climbs_from = climbs;
  on_its_way = λ m value among. absurd (none_in _ among);
  widened_on_way = λ x y q value among. absurd (none_in _ among);
}

-- of a view it reads what was stored alone
pub taken-out : (nodes : Nodes) (s : Sight) (v w : View) (i : ℕ) → w.call.stores ≡ v.call.stores → IsTakenOut nodes s v i → IsTakenOut nodes s w i
taken-out nodes s v w i same h = record {
  out = h.out;
  cleared = λ n k location.
      let t = h.cleared n k location in (
        t.0,
        elim (t.1) [
          | inl e ↦ inl e
          | inr e ↦ inr (e.0, ap has_cleared_location same ∙ e.1, λ among. e.2 (subst (λ (l : List Store). Contains l (record { name = Child n k; value = 0 })) same among))
        ],
      );
  live = h.live;
}

abbrev pub EachPlaced : Nodes → Sight → Type 0
EachPlaced nodes s = EachPass s (λ number v. PassIsPlaced nodes s v.call v.rebuild)

pub body-placed : (nodes : Nodes) (s : Sight) → LocationsHoldIn nodes s → (i : ℕ) → BodyIsPlaced nodes s i
body-placed nodes s h i = record { at = h.at i; first = h.first i; located = h.located i; second = h.second i; dead = h.dead i; out = h.out i }

pub pass-placed : (nodes : Nodes) (s : Sight) → LocationsHoldIn nodes s → EachPlaced nodes s
pass-placed nodes s h number v among pass = record {
  removed = λ i removes. taken-out nodes s v (acting v.call v.rebuild) i refl (h.removed number v among pass i removes);
  unheld = h.unheld number v among pass;
  widened = h.widened number v among pass;
  still_wide = h.still_wide number v among pass;
  climbs_from = h.climbs_from number v among pass;
  on_its_way = h.on_its_way number v among pass;
  widened_on_way = h.widened_on_way number v among pass;
}

-- ---- tasks

-- what is so of no idle task is so of the call as it is seen, if it is of the call, and the other way round
module _ (P : Task → Type 0) (busy : (task : Task) → IsIdle task → ¬ P task) (call : Call) where
  pub seen-task : P (call_on_places call).task → P call.task
  seen-task h = go call.task h
    where
      go : (task : Task) → P (call_by_task task call).task → P call.task
      go (Moving index target) h = h
      go (Removing index) h = h
      go (Placing index) h = h
      go _ h = absurd (busy Nothing tt h)

  pub task-seen : P call.task → P (call_on_places call).task
  task-seen own = go call.task own
    where
      go : (task : Task) → P task → P (call_by_task task call).task
      go Nothing h = absurd (busy Nothing tt h)
      go (Creating index) h = absurd (busy (Creating index) tt h)
      go (Destroying index) h = absurd (busy (Destroying index) tt h)
      go (Pooling taken given) h = absurd (busy (Pooling taken given) tt h)
      go _ h = own

pub removes-handles : (task : Task) (i : ℕ) → Removes task i → IsHandled task i
removes-handles (Removing index) i h = h
removes-handles _ i h = absurd h

pub places-handles : (task : Task) (i : ℕ) → IsPlacing task i → IsHandled task i
places-handles (Placing index) i h = h
places-handles _ i h = absurd h

pub gives-handles : (task : Task) (i : ℕ) (box : Sides) → GivesBox task i box → IsHandled task i
gives-handles (Moving index target) i box h = h.0
gives-handles _ i box h = absurd h

pub removes-busy : (i : ℕ) (task : Task) → IsIdle task → ¬ Removes task i
removes-busy i task calm h = idle-unhandled task i calm (removes-handles task i h)

pub places-busy : (i : ℕ) (task : Task) → IsIdle task → ¬ IsPlacing task i
places-busy i task calm h = idle-unhandled task i calm (places-handles task i h)

pub handled-seen : (call : Call) (i : ℕ) → IsHandled (call_on_places call).task i → IsHandled call.task i
handled-seen call i h = seen-task (λ task. IsHandled task i) (λ task calm. idle-unhandled task i calm) call h

-- who takes a body out, or places it, is seen to
pub removes-seen : (one other : Call) (i : ℕ) → (Removes one.task i → Removes other.task i) → Removes (call_on_places one).task i → Removes (call_on_places other).task i
removes-seen one other i more h = task-seen (λ task. Removes task i) (removes-busy i) other (more (seen-task (λ task. Removes task i) (removes-busy i) one h))

pub places-seen : (one other : Call) (i : ℕ) → (IsPlacing one.task i → IsPlacing other.task i) → IsPlacing (call_on_places one).task i → IsPlacing (call_on_places other).task i
places-seen one other i more h = task-seen (λ task. IsPlacing task i) (places-busy i) other (more (seen-task (λ task. IsPlacing task i) (places-busy i) one h))

-- who gives a body another box climbs from its locations
gives-climbs : (s : Sight) (view : View) (task : Task) (i n k : ℕ) (box : Sides) → GivesBox task i box → IsLocation s i n k → ClimbsFrom s view task n k
gives-climbs s view (Moving index target) i n k box gives location = subst (λ (j : ℕ). IsLocation s j n k) (sym gives.0) location
gives-climbs s view _ i n k box gives location = absurd gives

-- ---- held bodies

held-unhandled : (s : Sight) (task : Task) (i : ℕ) → IsUnheld s task → (Removes task i → HasBody (scene_in s) i (λ r. r.phase ≡ Out)) → HasBody (scene_in s) i (λ r. r.phase ≡ Held) → ¬ IsHandled task i
held-unhandled s (Moving index target) i unheld out held e = held-once (record_at (scene_in s) index) unheld (subst (λ (j : ℕ). HasBody (scene_in s) j (λ r. r.phase ≡ Held)) (sym e) held)
held-unhandled s (Placing index) i unheld out held e = held-once (record_at (scene_in s) index) unheld (subst (λ (j : ℕ). HasBody (scene_in s) j (λ r. r.phase ≡ Held)) (sym e) held)
held-unhandled s (Removing index) i unheld out held e = go (record_at (scene_in s) i) (out e) held
  where
    go : (o : Option Record) → IsSomeAnd o (λ r. r.phase ≡ Out) → IsSomeAnd o (λ r. r.phase ≡ Held) → ⊥
    go None h k = h
    go (Some r) h k = out_held (sym h ∙ k)
held-unhandled s _ i unheld out held h = h

-- nobody moves a held body, takes it out or places it
pub held-alone : (nodes : Nodes) (core : Core) → LocationsHold nodes core → (i : ℕ) → HasBody (scene_of core) i (λ r. r.phase ≡ Held)
    → (seat number : ℕ) (view : View) → IsViewAt core seat view → IsPass view number → ¬ IsHandled view.call.task i
held-alone nodes core h i held seat number view at pass handled =
    let s = sight location_scope core in
    let p = each-seat location_scope (λ k v. refl) core (λ k v. PassIsPlaced nodes s v.call v.rebuild) (pass-placed nodes s h) seat number view at pass in
    held-unhandled s (call_on_places view.call).task i p.unheld (λ removes. (p.removed i removes).out) held
    (task-seen (λ task. IsHandled task i) (λ task calm. idle-unhandled task i calm) view.call handled)

-- where a first location of a body in the broad phase may be, others may reach it
pub where-live : (nodes : Nodes) (s : Sight) (i layer n : ℕ) → IsWhere nodes s i layer n → IsLive (nodes.home n)
where-live nodes s i layer n (in_slot t e home second) = subst IsLive (sym home) tt
where-live nodes s i layer n (in_main e home second) = subst IsLive (sym home) tt
where-live nodes s i layer n (in_old number name e second home of_layer) = subst IsLive (sym home) tt
where-live nodes s i layer n (in_merged number t root e second home has) = subst IsLive (sym home) tt

-- ---- the step

module _ (kind : Kind) (core : Core) (step : Step) (a : Acts core step) (later : Nodes) (New : ℕ → Type 0) (m : Leaves kind core step a.laws.nodes later New) where
  abbrev nodes : Nodes
  nodes = a.laws.nodes

  abbrev Was : Sight
  Was = sight location_scope core

  abbrev Is : Sight
  Is = sight location_scope (After kind core step)

  leads : LeadsWithin nodes Was.word
  leads = let t = sound-leads nodes (sight tree_scope core) a.laws.trees in record { up = t.up; down = t.down }

  pub later_stands : (n : ℕ) → Stands (nodes.home n) → Stands (later.home n)
  later_stands = stands-later kind core step a nodes later New m

  pub home_forth : (n : ℕ) (home : Home) → IsInTree home → nodes.home n ≡ home → later.home n ≡ home
  home_forth = home-forth kind core step a nodes later New m

  entry_kept : (n k i : ℕ) → Stands (nodes.home n) → HasBody (scene_of core) i (λ r. r.phase ≡ In) → Was.word (Child n k) ≡ body_child i → Is.word (Child n k) ≡ body_child i
  entry_kept n k i stands = entry-kept kind core step a nodes later New m n k i (stands-in_tree (nodes.home n) stands)

  -- ---- ways up

  pub up-stood : (n k x y : ℕ) → Stands (nodes.home n) → Above Was.word n k x y → Stands (nodes.home x)
  up-stood = above-stands kind core step a nodes later New m Was.word Is.word leads m.parent

  pub up-forth : (n k x y : ℕ) → Stands (nodes.home n) → Above Was.word n k x y → Above Is.word n k x y
  up-forth = above-forth kind core step a nodes later New m Was.word Is.word leads m.parent

  pub up-back : (n k x y : ℕ) → Stands (nodes.home n) → Above Is.word n k x y → Above Was.word n k x y
  up-back = above-back kind core step a nodes later New m Was.word Is.word leads m.parent

  pub encloses-forth : (n k : ℕ) (box : Sides) → Stands (nodes.home n) → Encloses Was n k box → Encloses Is n k box
  encloses-forth n k box stands h x y up =
      let old = up-back n k x y stands up in
      covers-more (bound_in Is.word x y) (bound_in Was.word x y) box (wider kind core step a nodes later New m x y (up-stood n k x y stands old)) (h x y old)

  pub update-forth : (number : ℕ) (P Q : Rebuild → Type 0) → ((r : Rebuild) → P r → Q r) → HasPass Was number (λ v. HasUpdate v P) → HasPass Is number (λ v. HasUpdate v Q)
  update-forth = has_update kind core step a nodes later New m location_scope (λ k v. refl) update_on_places (λ bare v. refl)

  -- ---- a body that stays where it is

  -- if it is in the broad phase, its box and its box words lie in all bounds from each location up
  abbrev pub IsEnclosed : ℕ → Type 0
  IsEnclosed i = (r : Record) (n k : ℕ) → record_at (scene_in Is) i ≡ Some r → r.phase ≡ In → IsLocation Is i n k → Encloses Is n k (sides_of (words_of r.bounds)) × Encloses Is n k (box_in Is i)

  -- a second location that stays is one still
  pub second-forth : (i : ℕ) → Is.word (LocB i) ≡ Was.word (LocB i) → IsAlike (record_at (scene_in Was) i) (record_at (scene_in Is) i) → IsSecond Was i → IsSecond Is i
  second-forth i loc_b body h = (
    h.0,
    update-forth h.0 (IsSecondFor Was i) (IsSecondFor Is i)
        (λ r t.
        let n = t.3 in
        let alike = subst (λ (j : ℕ). IsAlike (record_at (scene_in Was) j) (record_at (scene_in Is) j)) (sym n.2) body in
        (t.0, t.1, t.2, (n.0, n.1, n.2, (loc_b ∙ n.3.0, alike-forth _ _ alike (λ g l. (g ≡ n.0.generation) × (l ≡ n.0.layer)) n.3.1)))) h.1,
  )

  module _ (i : ℕ) (b : InPlace kind core step i) where
    pub location-back : (n k : ℕ) → IsLocation Is i n k → IsLocation Was i n k
    location-back n k h = (h.0, elim (h.1) [ inl e ↦ inl (sym b.loc_a ∙ e) | inr e ↦ inr (sym b.loc_b ∙ e) ])

    pub location-forth : (n k : ℕ) → IsLocation Was i n k → IsLocation Is i n k
    location-forth n k h = (h.0, elim (h.1) [ inl e ↦ inl (b.loc_a ∙ e) | inr e ↦ inr (b.loc_b ∙ e) ])

    placed_now-forth : IsPlacedNow Was i → IsPlacedNow Is i
    placed_now-forth h = (
      h.0,
      has-step location_scope (λ k v. refl) kind core step a.at a.pass h.0 (λ v. IsPlacing v.call.task i) (λ v. IsPlacing v.call.task i) h.1 (λ seat view apart found own places. places)
          (λ same. places-seen step.view.call (Last kind core step).call i b.places.0),
    )

    where-forth : (layer n : ℕ) → Is.word (Phase i) ≡ Was.word (Phase i) → IsWhere nodes Was i layer n → IsWhere later Is i layer n
    where-forth layer n phase (in_slot t e home second) =
        in_slot t (phase ∙ e) (home_forth n _ tt home) (elim second [ inl none ↦ inl (b.loc_b ∙ none) | inr placed ↦ inr (placed_now-forth placed) ])
    where-forth layer n phase (in_main e home second) =
        in_main (phase ∙ e) (home_forth n _ tt home)
        (elim second [
          | inl none ↦ inl (b.loc_b ∙ none)
          | inr t ↦
              inr (elim t [
                | inl same ↦ inl (b.loc_b ∙ (same ∙ sym b.loc_a))
                | inr old ↦ inr (old.0, update-forth old.0 (λ r. length r.swapped ≤ layer) (λ r. length r.swapped ≤ layer) (λ r few. few) old.1)
              ])
        ])
    where-forth layer n phase (in_old number name e second home of_layer) = in_old number name (phase ∙ e) (λ none. second (sym b.loc_b ∙ none)) (home_forth n _ tt home) of_layer
    where-forth layer n phase (in_merged number t root e second home has) =
        in_merged number t root (phase ∙ e) (λ none. second (sym b.loc_b ∙ none)) (home_forth n _ tt home)
        (update-forth number (λ r. IsStillMerged r layer t root) (λ r. IsStillMerged r layer t root) (λ r merged. merged) has)

    nowhere-forth : (Was.word (LocA i) ≡ 0) × (Was.word (LocB i) ≡ 0) → (Is.word (LocA i) ≡ 0) × (Is.word (LocB i) ≡ 0)
    nowhere-forth h = (b.loc_a ∙ h.0, b.loc_b ∙ h.1)

    pub placed-forth : BodyIsPlaced nodes Was i → IsEnclosed i → BodyIsPlaced later Is i
    placed-forth h enclosed = record {
      at = λ q n k e inside location.
          let old = in-was kind core step i b q e inside in
          let was = h.at old.0 n k old.1 old.2 (location-back n k location) in
          let box = enclosed q n k e inside location in
          record { stands = later_stands n was.stands; entry = entry_kept n k i was.stands (record_body (record_at (scene_of core) i) (λ x. x.phase ≡ In) old.0 old.1 old.2) was.entry; bounds = box.0; box_words = box.1 };
      first = λ q n k e inside below location.
          let old = in-was kind core step i b q e inside in
          where-forth q.layer n (in-stays kind core step i b q e inside).word (subst (λ (l : ℕ). IsWhere nodes Was i l n) (sym old.3) (h.first old.0 n k old.1 old.2 below (sym b.loc_a ∙ location)));
      located = λ q e inside none. let old = in-was kind core step i b q e inside in h.located old.0 old.1 old.2 (sym b.loc_a ∙ none);
      second = λ other. second-forth i b.loc_b b.body (h.second (λ none. other (b.loc_b ∙ none)));
      dead = λ none. nowhere-forth (h.dead (none-was kind core step i b none));
      out = λ body kept.
          let t = unremoved-stays kind core step i b a location_scope (λ k v. refl) (seen-task (λ task. Removes task i) (removes-busy i) step.view.call) (task-seen (λ task. Removes task i) (removes-busy i) (Last kind core step).call) kept in
          nowhere-forth (h.out (phase-back kind core step i b (λ p. p ≡ Out) t.0 body) t.1);
    }

  -- one of which all stays lies in them as it did
  pub stays-enclosed : (i : ℕ) → Stays kind core step i → BodyIsPlaced nodes Was i → IsEnclosed i
  stays-enclosed i b h q n k e inside location =
      let old = record-back _ _ q b.body e in
      let was = h.at (record q { user = old.0 }) n k old.1 inside (location-back i (stays-in_place kind core step i b) n k location) in (
        encloses-forth n k (sides_of (words_of q.bounds)) was.stands was.bounds,
        subst (λ (box : Sides). Encloses Is n k box) (λ j p. sym (b.box p) j) (encloses-forth n k (box_in Was i) was.stands was.box_words),
      )

  -- ---- a body that is apart

  module _ (i : ℕ) (b : IsApart kind core step nodes i) where
    pub apart-nowhere : (n k : ℕ) → IsInTree (nodes.home n) → ¬ IsLocation Was i n k
    apart-nowhere n k inside h =
        elim (h.1) [
          | inl e ↦ b.off n k h.0 e inside
          | inr e ↦ let none = b.second in absurd (omega arith)
        ]

    pub apart-placed : BodyIsPlaced later Is i
    apart-placed = record {
      at = λ r n k e inside location. absurd (b.unseen_after (record_body _ (λ x. x.phase ≡ In) r e inside));
      first = λ r n k e inside below location. absurd (b.unseen_after (record_body _ (λ x. x.phase ≡ In) r e inside));
      located = λ r e inside none. b.unseen_after (record_body _ (λ x. x.phase ≡ In) r e inside);
      second = λ other. absurd (other b.second_after);
      dead = λ none. (b.dead none, b.second_after);
      out = λ body kept. (b.out body, b.second_after);
    }

  -- ---- passes that handle no body but such as stay

  module _ (rebuild : Option Rebuild) where
    pub climbs-back : (call : Call) (task : Task) → ((i : ℕ) → IsHandled task i → InPlace kind core step i) → (n k : ℕ) → ClimbsFrom Is (acting call rebuild) task n k → ClimbsFrom Was (acting call rebuild) task n k
    climbs-back call (Moving index target) stay n k h = location-back index (stay index refl) n k h
    climbs-back call (Placing index) stay n k h = h
    climbs-back call _ stay n k h = absurd h

    pub climbs-forth : (call : Call) (task : Task) → ((i : ℕ) → IsHandled task i → InPlace kind core step i) → (n k : ℕ) → ClimbsFrom Was (acting call rebuild) task n k → ClimbsFrom Is (acting call rebuild) task n k
    climbs-forth call (Moving index target) stay n k h = location-forth index (stay index refl) n k h
    climbs-forth call (Placing index) stay n k h = h
    climbs-forth call _ stay n k h = absurd h

    pub unheld-forth : (task : Task) → ((i : ℕ) → IsHandled task i → InPlace kind core step i) → IsUnheld Was task → IsUnheld Is task
    unheld-forth (Moving index target) stay h = phase-forth kind core step index (stay index refl) (λ p. p ≢ Held) (λ e. absurd cc) h
    unheld-forth (Placing index) stay h = phase-forth kind core step index (stay index refl) (λ p. p ≢ Held) (λ e. absurd cc) h
    unheld-forth _ stay h = tt

    pub taken-forth : (call : Call) (i : ℕ) → InPlace kind core step i → IsTakenOut nodes Was (acting call rebuild) i → IsTakenOut later Is (acting call rebuild) i
    taken-forth call i b h = record {
      out = phase-forth kind core step i b (λ p. p ≡ Out) refl h.out;
      cleared = λ n k location.
          let t = h.cleared n k (location-back i b n k location) in
          let child = m.child n k (stands-in_tree (nodes.home n) t.0) in
          (later_stands n t.0, elim child [ inl same ↦ elim (t.1) [ inl e ↦ inl (same ∙ e) | inr e ↦ inr (same ∙ e.0, e.1, e.2) ] | inr c ↦ inl c.none ]);
      live = λ n k below e.
          let live = h.live n k below (sym b.loc_a ∙ e) in
          subst IsLive (sym (m.stays n (stands-in_tree (nodes.home n) (live-stands (nodes.home n) live)))) live;
    }

    pub pass-forth : (call : Call) → ((i : ℕ) → IsHandled call.task i → InPlace kind core step i) → PassIsPlaced nodes Was call rebuild → PassIsPlaced later Is call rebuild
    pass-forth call stay p = record {
      removed = λ i removes. taken-forth call i (stay i (removes-handles call.task i removes)) (p.removed i removes);
      unheld = unheld-forth call.task stay p.unheld;
      widened = λ i n k box gives stored location.
          let old = location-back i (stay i (gives-handles call.task i box gives)) n k location in
          let was = p.widened i n k box gives stored old in
          (was.0, encloses-forth n k box (p.climbs_from n k (gives-climbs Was (acting call rebuild) call.task i n k box gives old)) was.1);
      still_wide = λ n k q value stored.
          let t = p.widened_on_way n k q value stored in
          let wide = m.wide n k q (up-stood t.0 t.1 n k (p.climbs_from t.0 t.1 t.2) t.3) in
          let old = p.still_wide n k q value stored in
          (λ low. let x = wide.0 low in let y = old.0 low in omega arith, λ high. let x = wide.1 high in let y = old.1 high in omega arith);
      climbs_from = λ n k climbs. later_stands n (p.climbs_from n k (climbs-back call call.task stay n k climbs));
      on_its_way = λ x value read.
          let old = p.on_its_way x value read in
          let t = old.1 in
          let stands = p.climbs_from t.0 t.1 t.3 in (
            m.parent x (stands-in_tree (nodes.home x) (up-stood t.0 t.1 x t.2 stands t.4)) ∙ old.0,
            (t.0, t.1, t.2, climbs-forth call call.task stay t.0 t.1 t.3, up-forth t.0 t.1 x t.2 stands t.4),
          );
      widened_on_way = λ x y q value stored.
          let t = p.widened_on_way x y q value stored in
          (t.0, t.1, climbs-forth call call.task stay t.0 t.1 t.2, up-forth t.0 t.1 x y (p.climbs_from t.0 t.1 t.2) t.3);
    }

  -- ---- what an update plans

  -- what the step clears of an update's plan, the update has done with
  abbrev pub HasDone : ℕ → View → Rebuild → Noted → Type 0
  HasDone number v r noted = (n k : ℕ) (c : IsCleared kind core step nodes n k) → noted.index ≡ c.index → noted.place ≡ place n k → nodes.home n ≡ made number noted.layer → IsDone v r noted.index

  -- a view that is done with the same bodies
  pub planned-forth : (number : ℕ) (v w : View) (r : Rebuild) (noted : Noted) → (IsPlacing v.call.task noted.index ↔ IsPlacing w.call.task noted.index)
      → ((n k : ℕ) → Stands (nodes.home n) → k < 4 → Was.word (Child n k) ≡ body_child noted.index → Was.word (LocB noted.index) ≡ place n k → Is.word (LocB noted.index) ≡ place n k)
      → HasDone number v r noted → IsPlannedAt nodes Was number v r noted → IsPlannedAt later Is number w r noted
  planned-forth number v w r noted placing second finished h =
      let stands : Stands (nodes.home h.node) = subst Stands (sym h.made_for) tt in
      let child = m.child h.node h.child (stands-in_tree (nodes.home h.node) stands) in
      let back : IsDone w r noted.index → IsDone v r noted.index = λ done. elim done [ inl t ↦ inl (t.0, λ places. t.1 (placing.0 places)) | inr given ↦ inr given ] in
      let forth : IsDone v r noted.index → IsDone w r noted.index = λ done. elim done [ inl t ↦ inl (t.0, λ places. t.1 (placing.1 places)) | inr given ↦ inr given ] in
      record {
        node = h.node;
        child = h.child;
        below = h.below;
        at = h.at;
        made_for = home_forth h.node _ tt h.made_for;
        entry = elim child [ inl same ↦ elim (h.entry) [ inl e ↦ inl (same ∙ e) | inr e ↦ inr (same ∙ e) ] | inr c ↦ inr c.none ];
        undone = λ undone.
            let e = h.undone (λ was. undone (forth was)) in
            elim child [
              | inl same ↦ same ∙ e
              | inr c ↦ let one : noted.index ≡ c.index = let was = c.was in omega arith in absurd (undone (forth (finished h.node h.child c one h.at h.made_for)))
            ];
        of_done = λ done e.
            elim child [
              | inl same ↦ let was = sym same ∙ e in second h.node h.child stands h.below was (h.of_done (back done) was ∙ h.at) ∙ sym h.at
              | inr c ↦ let none = c.none in absurd (omega arith)
            ];
      }

  pub published-forth : (r : Rebuild) (noted : Noted) → IsPublishedAt nodes r noted → IsPublishedAt later r noted
  published-forth r noted h planned swapped = let t = h planned swapped in (t.0, t.1, t.2, t.3, home_forth t.0 _ tt t.4)
