-- One pass alone changes its update, and no other has one. What the laws of trees, places, bodies and readers say then, where
-- no body has a second location, no new tree stands, and no node is to be given back.
use Rattle.std.proofs.Common.{◌≡◌, ◌≢◌, ℕ, ◌<◌, ◌≤◌, ◌%◌, List, [], true, false, Option, None, Contains, IsSomeAnd, IfSome, length, refl, ap, sym, ◌∙◌, subst, inl, inr, arith}
use Rattle.std.proofs.lemmas.Bool.{cases_eq, true≢false}
use Rattle.std.specs.Prelude.{flat_map, map}
use Rattle.scene_model.specs.Scene.{Record}
use Rattle.scene_model.specs.Step.{HasBody}
use Rattle.word_map.specs.declared.name.Name.{Name}
use Rattle.word_map.specs.declared.name.Name.TheVariants.{LocB, Phase, Reader}
use Rattle.core_state.specs.BodiesCovered.{BodiesCoveredIn, NotesHold, KeepsMerged, ExchangesDone, IsAsNoted}
use Rattle.core_state.specs.Encoding.{place, bound_in, phase_join}
use Rattle.core_state.specs.LocationsHold.{LocationsHoldIn, IsAt, Removes, IsTakenOut, IsWhere, in_slot, in_main, in_old, in_merged, IsPlannedAt, IsPublishedAt, ClimbsFrom, IsUnheld}
use Rattle.core_state.specs.Nodes.{Nodes, Home, made, under, superseded, returning}
use Rattle.core_state.specs.ReadersCounted.{ReadersCountedIn, layer_at_hand, ReadsInSpace, HasSeenOff, AvoidsSuperseded, ClimbsInTrees, IsSideOf, IsTight}
use Rattle.core_state.specs.Scope.{Sight, scene_in, IsOnce, HasPass, EachPass}
use Rattle.core_state.specs.Space.{IsInLayer, IsTarget}
use Rattle.core_state.specs.TreesSound.{TreesSoundIn, IsRootOf, IsSupersededRoot, of_main, of_slot, IsChild, nothing, a_body, a_node, IsPlaced, as_root, at_place, AreTops, RootsMade, RootsSuperseded}
use Rattle.core_state.specs.Updates.{EachUpdate, HasUpdate, IsNoted, IsPlacing, IsDone, IsStillMerged}
use Rattle.core_state.specs.View.{IsPass}
use Rattle.core_state.specs.Walking.{Position}
use Rattle.core_state.specs.declared.item.Load.{Load}
use Rattle.core_state.specs.declared.view.Batch.{Batch}
use Rattle.core_state.specs.declared.view.Call.{Call}
use Rattle.core_state.specs.declared.view.Noted.{Noted}
use Rattle.core_state.specs.declared.view.Rebuild.{Rebuild}
use Rattle.core_state.specs.declared.view.Task.{Task}
use Rattle.core_state.specs.declared.view.Task.TheVariants.{Moving, Removing, Placing}
use Rattle.core_state.specs.declared.view.View.{View}
use Rattle.core_state.specs.declared.view.Waiting.{Waiting}
use Rattle.core_state.proofs.Opening.{none_in}
use Rattle.core_guard.proofs.Leaving.{if_some_map}
use Rattle.core_guard.proofs.PlacesStay.{acting, PassIsPlaced, EachPlaced, pass-placed, taken-out}
use Rattle.core_guard.proofs.ReadersLeft.{hull-by, WalkIn, SpaceIn, TightSide}

-- ---- what a law says that reads no pass

module _ (s : Sight) (passes : List View) where
  abbrev pub Next : Sight
  Next = record s { passes = passes }

  module _ (nodes : Nodes) where
    pub child-next : (n k : ℕ) → IsChild nodes s n k → IsChild nodes Next n k
    child-next n k (nothing e) = nothing e
    child-next n k (a_body i below e) = a_body i below e
    child-next n k (a_node m e home parent depth) = a_node m e home parent depth

    at-next : (i : ℕ) (r : Record) (n k : ℕ) → IsAt nodes s i r n k → IsAt nodes Next i r n k
    at-next i r n k h = record { stands = h.stands; entry = h.entry; bounds = h.bounds; box_words = h.box_words }

    taken-next : (v w : View) (i : ℕ) → w.call.stores ≡ v.call.stores → IsTakenOut nodes s v i → IsTakenOut nodes Next w i
    taken-next v w i same h = let t = taken-out nodes s v w i same h in record { out = t.out; cleared = t.cleared; live = t.live }

    in_trees-next : (task : Task) → ClimbsInTrees nodes s task → ClimbsInTrees nodes Next task
    in_trees-next (Moving index target) h = h
    in_trees-next (Removing index) h = h
    in_trees-next _ h = tt

  unheld-next : (task : Task) → IsUnheld s task → IsUnheld Next task
  unheld-next (Moving index target) h = h
  unheld-next (Placing index) h = h
  unheld-next _ h = tt

-- an update is to place the body there
abbrev pub HasPlan : Option Rebuild → ℕ → ℕ → ℕ → Type 0
HasPlan o index n k = IsSomeAnd o (λ r. IsNoted r index (λ noted. noted.place ≡ place n k))

-- where a pass is about to place a body, it is to place it there by the second update if it is by the first
abbrev pub KeepsPlan : Call → Option Rebuild → Option Rebuild → Type 0
KeepsPlan call o p = (index n k : ℕ) → IsPlacing call.task index → HasPlan o index n k → HasPlan p index n k

climbs-next : (s : Sight) (passes : List View) (call : Call) (o p : Option Rebuild) (task : Task) (n k : ℕ) → ((index : ℕ) → IsPlacing task index → HasPlan o index n k → HasPlan p index n k)
    → ClimbsFrom s (acting call o) task n k → ClimbsFrom (record s { passes = passes }) (acting call p) task n k
climbs-next s passes call o p (Moving index target) n k more h = h
climbs-next s passes call o p (Placing index) n k more h = (h.0, more index refl h.1)
climbs-next s passes call o p _ n k more h = absurd h

pass-next : (nodes : Nodes) (s : Sight) (passes : List View) (call : Call) (o p : Option Rebuild) → KeepsPlan call o p → KeepsPlan call p o → PassIsPlaced nodes s call o → PassIsPlaced nodes (record s { passes = passes }) call p
pass-next nodes s passes call o p forth back h =
    let climbs = λ (n k : ℕ). climbs-next s passes call o p call.task n k (λ index. forth index n k) in
    record {
      removed = λ i removes. taken-next s passes nodes (acting call o) (acting call p) i refl (h.removed i removes);
      unheld = unheld-next s passes call.task h.unheld;
      widened = h.widened;
      still_wide = h.still_wide;
      climbs_from = λ n k at. h.climbs_from n k (climbs-next (record s { passes = passes }) s.passes call p o call.task n k (λ index. back index n k) at);
      on_its_way = λ m value among.
          let t = h.on_its_way m value among in
          (t.0, (t.1.0, t.1.1, t.1.2, climbs t.1.0 t.1.1 t.1.3, t.1.4));
      widened_on_way = λ x y q value among.
          let t = h.widened_on_way x y q value among in
          (t.0, t.1, climbs t.0 t.1 t.2, t.3);
    }

-- an update that has exchanged and cleared nothing has taken no tree out of sight
pub no-root : (r : Rebuild) (name : Name) (root : ℕ) → r.swapped ≡ [] → r.cleared ≡ 0 → ¬ IsSupersededRoot r name root
no-root r name root swapped cleared (of_main l x below e) = let few = ap length swapped in absurd (omega arith)
no-root r name root swapped cleared (of_slot l t x k below inside e) = absurd (omega arith)

-- what is to be said of what an update noted
pub record CoverGoesOn (nodes : Nodes) (s : Sight) (view : View) (r : Rebuild) : Type 0 where
  pub to_place : (i l t root : ℕ) → i < r.passed → IsStillMerged r l t root → HasBody (scene_in s) i (λ b. b.layer ≡ l) → s.word (Phase i) ≡ phase_join t → IsNoted r i (λ n. ¬ IsDone view r i)
  pub notes : NotesHold nodes s view r
  pub merged : KeepsMerged s r
  pub early : r.swapped ≡ []

-- ---- the change

-- the passes are as before, but that one has another update; no other has any
pub record ChangesUpdate (s : Sight) (passes : List View) (number : ℕ) (v : View) (o : Option Rebuild) : Type 1 where
  pub each : (P Q : ℕ → View → Type 0) → EachPass s P → ((n : ℕ) (u : View) → n ≢ number → P n u → Q n u) → (P number v → Q number (record v { rebuild = o })) → EachPass (record s { passes = passes }) Q
  pub has : (n : ℕ) (P Q : View → Type 0) → HasPass s n P → ((u : View) → n ≢ number → Contains s.passes u → IsPass u n → P u → Q u) → (n ≡ number → P v → Q (record v { rebuild = o }))
      → HasPass (record s { passes = passes }) n Q
  pub alone : EachPass s (λ n u. n ≢ number → u.rebuild ≡ None)
  pub batches : flat_map (λ u. u.batches) passes ≡ flat_map (λ u. u.batches) s.passes

module _ (nodes : Nodes) (s : Sight) (passes : List View) (number : ℕ) (v : View) (o : Option Rebuild) (c : ChangesUpdate s passes number v o) where
  abbrev Now : Sight
  Now = Next s passes

  abbrev Own : View
  Own = record v { rebuild = o }

  pub each-update : (Q : ℕ → View → Rebuild → Type 0) → IfSome o (Q number Own) → EachUpdate Now Q
  each-update Q own =
      c.each (λ n u. n ≢ number → u.rebuild ≡ None) (λ n u. IfSome u.rebuild (Q n u)) c.alone
      (λ n u other none. subst (λ (r : Option Rebuild). IfSome r (Q n u)) (sym (none other)) tt) (λ none. own)

  pub has-update : (n : ℕ) (P Q : Rebuild → Type 0) → HasPass s n (λ u. HasUpdate u P) → (n ≡ number → IsSomeAnd v.rebuild P → IsSomeAnd o Q) → HasPass Now n (λ u. HasUpdate u Q)
  has-update n P Q h own =
      c.has n (λ u. HasUpdate u P) (λ u. HasUpdate u Q) h
      (λ u other among pass has. absurd (subst (λ (r : Option Rebuild). IsSomeAnd r P) (c.alone n u among pass other) has)) own

  pub has-call : (n : ℕ) (P : Call → Type 0) → HasPass s n (λ u. P u.call) → HasPass Now n (λ u. P u.call)
  has-call n P h = c.has n (λ u. P u.call) (λ u. P u.call) h (λ u other among pass has. has) (λ same has. has)

  -- ---- trees

  -- what is to be said of the trees of the update
  pub record TreesGoOn : Type 0 where
    pub unmade : (n p l : ℕ) → nodes.home n ≢ made p l
    pub unreturned : (n p : ℕ) → nodes.home n ≢ returning p
    pub unseen : (name : Name) (root : ℕ) → nodes.home root ≡ superseded number name → ¬ IsSomeAnd v.rebuild (λ r. IsSupersededRoot r name root)
    pub early : IfSome o (λ r. (r.is_planned ≡ false) × (r.swapped ≡ []) × (r.cleared ≡ 0) × (r.returning ≡ []))

  module _ (t : TreesGoOn) where
    root-next : (home : Home) (root : ℕ) → nodes.home root ≡ home → IsRootOf s home root → IsRootOf Now home root
    root-next (under name) root at h = h
    root-next (made p l) root at h = absurd (t.unmade root p l at)
    root-next (superseded p name) root at h =
        has-update p (λ r. IsSupersededRoot r name root) (λ r. IsSupersededRoot r name root) h
        (λ same some. absurd (t.unseen name root (subst (λ (q : ℕ). nodes.home root ≡ superseded q name) same at) some))
    root-next _ root at h = absurd h

    placed-next : (m : ℕ) → IsPlaced nodes s m → IsPlaced nodes Now m
    placed-next m (as_root none root) = as_root none (root-next (nodes.home m) m refl root)
    placed-next m (at_place n k below parent child home) = at_place n k below parent child home

    tops-next : (r : Rebuild) → r.returning ≡ [] → AreTops nodes Now number r
    tops-next r none = record {
      tops = λ top among. absurd (none_in top (subst (λ (l : List Waiting). Contains l top) none among));
      once = subst (λ (l : List Waiting). IsOnce (map (λ w. w.node) l)) (sym none) (λ i j d below inside. absurd (omega arith));
    }

    pub TreesSound-next : TreesSoundIn nodes s → TreesSoundIn nodes Now
    TreesSound-next h = record {
      sound = λ n stands.
          let node = h.sound n stands in
          record { children = λ k below. child-next s passes nodes n k (node.children k below); placed = placed-next n node.placed; height = node.height; bounds = node.bounds };
      roots = h.roots;
      stored = c.each _ _ h.stored (λ n u other stored. stored) (λ stored. stored);
      made_roots = each-update (λ n u r. RootsMade nodes Now n r) (if_some_map o _ _ (λ r e l root planned. absurd (true≢false (sym planned ∙ e.0))) t.early);
      superseded_roots = each-update (λ n u r. RootsSuperseded nodes Now n r) (if_some_map o _ _ (λ r e name root unread is. absurd (no-root r name root e.1 e.2 is)) t.early);
      left_nodes = λ n p e. absurd (t.unreturned n p e);
      tops = each-update (λ n u r. AreTops nodes Now n r) (if_some_map o _ _ (λ r e. tops-next r e.3) t.early);
    }

  -- ---- places

  -- what is to be said of what the update plans
  pub record PlacesGoOn : Type 0 where
    pub unmade : (n p l : ℕ) → nodes.home n ≢ made p l
    pub unplaced : (i : ℕ) → s.word (LocB i) ≡ 0
    pub early : IfSome o (λ r. r.is_planned ≡ false)
    pub forth : KeepsPlan v.call v.rebuild o
    pub back : KeepsPlan v.call o v.rebuild

  module _ (p : PlacesGoOn) where
    where-next : (i layer n : ℕ) → IsWhere nodes s i layer n → IsWhere nodes Now i layer n
    where-next i layer n (in_slot t e home second) = in_slot t e home (inl (p.unplaced i))
    where-next i layer n (in_main e home second) = in_main e home (inl (p.unplaced i))
    where-next i layer n (in_old m name e second home of_layer) = absurd (second (p.unplaced i))
    where-next i layer n (in_merged m t root e second home has) = absurd (second (p.unplaced i))

    placed-passes : LocationsHoldIn nodes s → EachPlaced nodes Now
    placed-passes h =
        c.each (λ n u. PassIsPlaced nodes s u.call u.rebuild) (λ n u. PassIsPlaced nodes Now u.call u.rebuild) (pass-placed nodes s h)
        (λ n u other was. pass-next nodes s passes u.call u.rebuild u.rebuild (λ index x k placing at. at) (λ index x k placing at. at) was)
        (λ was. pass-next nodes s passes v.call v.rebuild o p.forth p.back was)

    pub LocationsHold-next : LocationsHoldIn nodes s → LocationsHoldIn nodes Now
    LocationsHold-next h =
        let each = placed-passes h in
        record {
          at = λ i r n k e inside location. at-next s passes nodes i r n k (h.at i r n k e inside location);
          entries = h.entries;
          made_entries = λ i n k m l home below entry. absurd (p.unmade n m l home);
          planned = each-update
              (λ n u r. (noted : Noted) → Contains r.noted noted → r.is_planned ≡ true → length r.swapped ≤ noted.layer → IsPlannedAt nodes Now n u r noted)
              (if_some_map o _ _ (λ r e noted among planned. absurd (true≢false (sym planned ∙ e))) p.early);
          published = each-update (λ n u r. (noted : Noted) → Contains r.noted noted → IsPublishedAt nodes r noted)
              (if_some_map o _ _ (λ r e noted among planned. absurd (true≢false (sym planned ∙ e))) p.early);
          first = λ i r n k e inside below location. where-next i r.layer n (h.first i r n k e inside below location);
          located = h.located;
          second = λ i other. absurd (other (p.unplaced i));
          dead = h.dead;
          out = λ i body left. h.out i body (λ removed. left (removed.0, has-call removed.0 (λ call. Removes call.task i) removed.1));
          removed = λ m u among pass i removes. taken-out nodes Now (acting u.call u.rebuild) u i refl ((each m u among pass).removed i removes);
          held = λ batch m among marked. h.held batch m (subst (λ (l : List Batch). Contains l batch) c.batches among) marked;
          unheld = λ m u among pass. (each m u among pass).unheld;
          widened = λ m u among pass. (each m u among pass).widened;
          still_wide = λ m u among pass. (each m u among pass).still_wide;
          climbs_from = λ m u among pass. (each m u among pass).climbs_from;
          on_its_way = λ m u among pass. (each m u among pass).on_its_way;
          widened_on_way = λ m u among pass. (each m u among pass).widened_on_way;
        }

  -- ---- bodies

  -- what an update noted of bodies holds for it as it was
  as_noted-next : (n : Noted) → IsAsNoted s n → IsAsNoted Now n
  as_noted-next n h = record {
    looks = record { state = h.looks.state; location = h.looks.location };
    phase = λ left. h.phase (λ removed. left (removed.0, has-call removed.0 (λ call. Removes call.task n.index) removed.1));
    layer = h.layer;
    same = h.same;
  }

  pub notes-next : (r : Rebuild) → NotesHold nodes s v r → NotesHold nodes Now Own r
  notes-next r h = record {
    all_noted = λ i opened tree. let t = h.all_noted i opened tree in (t.0, t.1, t.2, as_noted-next t.0 t.3);
    still_there = λ n among opened looks. let t = h.still_there n among opened (record { state = looks.state; location = looks.location }) in (t.0, as_noted-next n t.1);
    located = h.located;
    in_old = h.in_old;
    placed = h.placed;
    given_up = h.given_up;
    once = h.once;
    passed = h.passed;
    boxes = h.boxes;
    begun = h.begun;
  }

  pub BodiesCovered-next : IfSome o (CoverGoesOn nodes Now Own) → BodiesCoveredIn nodes s → BodiesCoveredIn nodes Now
  BodiesCovered-next own h = record {
    covered = h.covered;
    replaced = h.replaced;
    to_place = each-update
        (λ n u r. (i l t root : ℕ) → i < r.passed → IsStillMerged r l t root → HasBody (scene_in s) i (λ b. b.layer ≡ l) → s.word (Phase i) ≡ phase_join t → IsNoted r i (λ m. ¬ IsDone u r i))
        (if_some_map o _ _ (λ r g. g.to_place) own);
    notes = each-update (λ n u r. NotesHold nodes Now u r) (if_some_map o _ _ (λ r g. g.notes) own);
    merged = each-update (λ n u r. KeepsMerged Now r) (if_some_map o _ _ (λ r g. g.merged) own);
    exchanged = each-update (λ n u r. ExchangesDone u r) (if_some_map o _ _ (λ r g some. let few = ap length g.early in absurd (omega arith)) own);
  }

  -- ---- readers

  coming-next : (l q side : ℕ) → IsInLayer s l q side → IsInLayer Now l q side
  coming-next l q side (inl had) = inl had
  coming-next l q side (inr t) = inr (t.0, (t.1.0, has-call t.1.0 (λ call. IsTarget call.task t.0 q side) t.1.1), t.2)

  space-next : (loads : List Load) (at : Position) → ReadsInSpace s loads at → ReadsInSpace Now loads at
  space-next loads at h = record {
    sides = λ before later n k q value e. if_some_map (layer_at_hand before) _ _ (λ l t. (t.0, coming-next l q t.0 t.1, t.2, t.3)) (h.sides before later n k q value e);
    part = λ n level k x read e.
        if_some_map (layer_at_hand loads) _ _ (λ l inside. hull-by (IsInLayer s l) (IsInLayer Now l) (bound_in s.word n k) (bound_in s.word n k) (coming-next l) (λ q. inl refl) inside) (h.part n level k x read e);
  }

  odd-back : (n : ℕ) → EachPass s (λ m u. m ≡ n → u.walk.is_on ≢ true) → EachPass Now (λ m u. m ≡ n → u.walk.is_on ≢ true)
  odd-back n none = c.each _ _ none (λ m u other h. h) (λ h. h)

  -- the bound of a new tree lies in the hull that it lay in
  pub tight-next : (r : Rebuild) → IsTight nodes s number r → IsTight nodes Now number r
  tight-next r h n k l home below full =
      hull-by (TightSide s r n k) (TightSide Now r n k) (bound_in s.word n k) (bound_in s.word n k) (λ q side t. (t.0, t.1, t.2, again t.0 q side t.3)) (λ q. inl refl) (h n k l home below full)
    where
      again : (m : Noted) (q side : ℕ) → IsSideOf s r m q side → IsSideOf Now r m q side
      again m q side (inl had) = inl had
      again m q side (inr t) = inr (t.0, (t.1.0, has-call t.1.0 (λ call. IsTarget call.task m.index q side) t.1.1))

  -- what is to be said of the bounds of new trees, and of the readers that the update loaded
  abbrev pub ReadersGoOn : Rebuild → Type 0
  ReadersGoOn r = (r.is_planned ≡ true → IsTight nodes Now number r) × EachPass Now (λ q other. HasSeenOff Now r q → AvoidsSuperseded nodes Now number other.walk)

  pub ReadersCounted-goes : IfSome o ReadersGoOn → ReadersCountedIn nodes s → ReadersCountedIn nodes Now
  ReadersCounted-goes own h = record {
    odd = λ n. (
      λ e. c.has n (λ u. u.walk.is_on ≡ true) (λ u. u.walk.is_on ≡ true) ((h.odd n).0 e) (λ u other among pass on. on) (λ same on. on),
      λ has.
          elim (cases_eq (s.word (Reader n) % 2) 1) [
            | inl odd ↦ odd
            | inr even ↦
                absurd (odd-back n
                (λ m u among pass same on. even ((h.odd n).1 (u, among, subst (IsPass u) same pass, on)))
                n has.0 has.1 has.2 refl has.3)
          ],
    );
    stays = c.each (λ n u. WalkIn nodes s u.walk) (λ n u. WalkIn nodes Now u.walk) h.stays (λ n u other stays. stays) (λ stays. stays);
    in_space = c.each (λ n u. SpaceIn s u.walk) (λ n u. SpaceIn Now u.walk) h.in_space
        (λ n u other was on query follows. space-next u.walk.loads _ (was on query follows)) (λ was on query follows. space-next v.walk.loads _ (was on query follows));
    seen_off = each-update (λ n u r. EachPass Now (λ q other. HasSeenOff Now r q → AvoidsSuperseded nodes Now n other.walk)) (if_some_map o _ _ (λ r own. own.1) own);
    climbs = c.each (λ n u. ClimbsInTrees nodes s u.call.task) (λ n u. ClimbsInTrees nodes Now u.call.task) h.climbs
        (λ n u other was. in_trees-next s passes nodes u.call.task was) (λ was. in_trees-next s passes nodes v.call.task was);
    space = λ n k l live layer below full.
        hull-by (IsInLayer s l) (IsInLayer Now l) (bound_in s.word n k) (bound_in s.word n k) (coming-next l) (λ q. inl refl) (h.space n k l live layer below full);
    tight = each-update (λ n u r. r.is_planned ≡ true → IsTight nodes Now n r) (if_some_map o _ _ (λ r own. own.0) own);
  }

  -- of an update that has planned no tree, and loaded no reader, there is nothing to say
  pub ReadersCounted-next : IfSome o (λ r. (r.is_planned ≡ false) × (r.readers ≡ [])) → ReadersCountedIn nodes s → ReadersCountedIn nodes Now
  ReadersCounted-next early =
      ReadersCounted-goes
      (if_some_map o _ _
      (λ r e. (
        λ planned. absurd (true≢false (sym planned ∙ e.0)),
        λ q other among pass seen. absurd (none_in _ (subst (λ (l : List Load). Contains l (record { name = Reader q; value = seen.0 })) e.1 seen.1)),
      )) early)
