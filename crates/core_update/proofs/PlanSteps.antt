-- All laws hold after the last store of a plan: what they say of the new trees is what the step asks.
use Rattle.std.proofs.Common.{◌≡◌, ◌⊎◌, ℕ, ◌+◌, ◌<◌, ◌≤◌, List, true, length, Contains, Option, Some, refl, ap, sym, ◌∙◌, subst, inl, inr, arith}
use Rattle.std.specs.Prelude.{IfSome, IsSomeAnd, option_map}
use Rattle.std.proofs.lemmas.Bool.{false≢true}
use Rattle.scene_model.specs.declared.entry.Made.{Made as MadeEntry}
use Rattle.word_map.specs.declared.name.Name.TheVariants.{Child}
use Rattle.core_state.specs.declared.view.Call.{Call}
use Rattle.core_state.specs.declared.view.Noted.{Noted}
use Rattle.core_state.specs.declared.view.Rebuild.{Rebuild}
use Rattle.core_state.specs.declared.view.Task.{Task}
use Rattle.core_state.specs.declared.view.Task.TheVariants.{Nothing}
use Rattle.core_state.specs.View.{no_call}
use Rattle.core_state.specs.Batches.{store_node}
use Rattle.core_state.specs.Core.{Core}
use Rattle.core_state.specs.Encoding.{body_child, place, sides_of}
use Rattle.core_state.specs.Kind.{Kind, Step, after_step}
use Rattle.core_state.specs.Nodes.{Nodes, node_in, owned, made, IsLive, Stands}
use Rattle.core_state.specs.Noting.{MayFinishPlan, finish_plan, with_plan, new_node, IsNewTree, IsNewPart, HasSideBelow}
use Rattle.core_state.specs.Noting as noting
use Rattle.core_state.specs.Parts.{call_at, call_by_task, call_on_places, task_on_cover, update_on_places, update_on_cover, update_on_readers}
use Rattle.core_state.specs.Scope.{Sight, sight, HasPass, bare_view}
use Rattle.core_state.specs.Space.{HadAs}
use Rattle.core_state.specs.Updates.{HasUpdate, IsNoted, IsStillMerged}
use Rattle.core_state.specs.LocksAgree.{lock_scope, LocksAgreeIn}
use Rattle.core_state.specs.BodiesAgree.{body_scope, BodiesAgreeIn}
use Rattle.core_state.specs.LocationsHold.{LocationsHold, location_scope, IsSecondFor, IsPlannedAt, IsPublishedAt}
use Rattle.core_state.specs.BodiesCovered.{cover_scope, BodiesCoveredIn}
use Rattle.core_state.specs.WalksLead.{walk_scope, WalksLeadIn}
use Rattle.core_state.specs.ReadersCounted.{IsTight, IsPlannedBelow, IsSideOf}
use Rattle.core_state.specs.Invariants.{Invariants}
use Rattle.core_state.proofs.Frames.{step-history}
use Rattle.core_state.proofs.Opening.{none_in}
use Rattle.core_state.proofs.Steps.{view-step}
use Rattle.core_guard.proofs.Cleared.{above-same}
use Rattle.core_guard.proofs.Holders.{IsGuarded, guarded}
use Rattle.core_guard.proofs.Leaving.{Acts, Last}
use Rattle.core_guard.proofs.PlacesStay.{PassIsPlaced, begun-placed}
use Rattle.core_guard.proofs.Seats.{seat-has, seen_of}
use Rattle.core_guard.proofs.Touched.{IsKept, kept}
use Rattle.core_update.proofs.EarlyUpdate.{own-home, unmade}
use Rattle.core_update.proofs.OwnGuards.{own-guarded}
use Rattle.core_update.proofs.OwnNotes.{own-notes}
use Rattle.core_update.proofs.OwnNodes.{LocksAgree-own_node, BodiesAgree-own_node, NodesInOnePlace-own_node, TreesSound-own_node, LocationsHold-own_node, BodiesCovered-own_node, WalksLead-own_node, ReadersCounted-own_node}
use Rattle.core_update.proofs.PlacingWidens.{made-once}
use Rattle.core_update.proofs.PlanNodes.{NodesInOnePlace-plan}
use Rattle.core_update.proofs.PlanTrees.{TreesSound-plan}
use Rattle.core_update.proofs.PlanStands.{Made, Later, u, two, own-then, makes, trees-then, tree-of, made-layer}
use Rattle.core_update.proofs.PlanWhole.{M, R, N, W, K, whole, child-now, bound-now, up-forth, made-home, as_before, in_new, home-then}
use Rattle.core_update.proofs.ComeToStand.{LocationsHold-rehomed, BodiesCovered-rehomed}
use Rattle.core_update.proofs.Swapped.{law-swap}
use Rattle.core_update.proofs.SwappedPlaces.{First, Second, OneUpdate, TwoUpdate, SwapsPlaces, LocationsHold-swap}
use Rattle.core_update.proofs.SwappedReaders.{OnlyMakes, SecondReaders, ReadersCounted-swap}

module _ (layer : ℕ) (core : Core) (step : Step) (a : Acts core step) (asked : MayFinishPlan layer step.view step.name step.first step.second) where
  abbrev nodes : Nodes
  nodes = a.laws.nodes

  abbrev kind : Kind
  kind = finish_plan layer

  abbrev r : Rebuild
  r = asked.r

  abbrev Then : Nodes
  Then = Later layer core step a asked

  abbrev new : Rebuild
  new = u layer core step a asked

  pub home : nodes.home asked.node ≡ owned step.number
  home = own-home core step a asked.r asked.stores.update asked.stores.early asked.node asked.stores.owns

  pub of_node : node_in step.name ≡ Some asked.node
  of_node = ap node_in asked.names

  only-makes : OnlyMakes nodes Then
  only-makes = record {
    stays = λ n stands. elim (home-then layer core step a asked n) [ as_before same depth ↦ same | in_new l among ↦ absurd (subst Stands (own-then layer core step a asked n l among) stands) ];
    depth = λ n stands. elim (home-then layer core step a asked n) [ as_before same depth ↦ depth | in_new l among ↦ absurd (subst Stands (own-then layer core step a asked n l among) stands) ];
    live = λ n live. elim (home-then layer core step a asked n) [ as_before same depth ↦ same | in_new l among ↦ absurd (subst IsLive (made-home layer core step a asked n l among) live) ];
  }

  -- a node in a new tree was in it, or is one of those that were made
  made-or : (n number l : ℕ) → Then.home n ≡ made number l → (nodes.home n ≡ made number l) ⊎ ((number ≡ step.number) × Made layer core step a asked l n)
  made-or n number l e =
      elim (home-then layer core step a asked n) [
        | as_before same depth ↦ inl (sym same ∙ e)
        | in_new k among ↦
            let both = sym (made-home layer core step a asked n k among) ∙ e in
            inr (sym (made-once step.number number k l both), subst (λ (x : ℕ). Made layer core step a asked x n) (made-layer step.number number k l both) among)
      ]

  -- ---- locations

  abbrev Mid : Sight
  Mid = First (finish_plan layer) store_node.leaves core step a Then

  abbrev Is : Sight
  Is = Second (finish_plan layer) store_node.leaves core step a Then

  one : OneUpdate (finish_plan layer) store_node.leaves core step a Then ≡ Some (update_on_places asked.r)
  one = ap (option_map update_on_places) asked.stores.update

  two-places : TwoUpdate (finish_plan layer) store_node.leaves core step a Then ≡ Some (update_on_places new)
  two-places = ap (option_map update_on_places) (two layer core step a asked)

  abbrev NotedAt : ℕ → ℕ → ℕ → ℕ → Rebuild → Type 0
  NotedAt i n k l x = IsNoted x i (λ noted. (noted.place ≡ place n k) × (noted.layer ≡ l))

  -- the entries of new trees are those of noted bodies
  noted-part : (i n k l : ℕ) → Made layer core step a asked l n → W layer core step a asked (Child n k) ≡ body_child i → IsNewPart (K layer core step a asked) (N layer core step a asked) (whole layer core step a asked).depth l n k → NotedAt i n k l asked.r
  noted-part i n k l inside e part = go part
    where
      same : K layer core step a asked (Child n k) ≡ W layer core step a asked (Child n k)
      same = let t = tree-of layer core step a asked l n inside in child-now layer core step a asked l t.0 t.1 n k inside

      go : IsNewPart (K layer core step a asked) (N layer core step a asked) (whole layer core step a asked).depth l n k → NotedAt i n k l asked.r
      go (noting.nothing none) = let both = same in absurd (omega arith)
      go (noting.a_body m among of_layer at here) = let both = same in (m, among, omega arith, (at, of_layer))
      go (noting.a_node c among here parent deeper) = let both = same in absurd (omega arith)

  entries-new : (i n k number l : ℕ) → Then.home n ≡ made number l → k < 4 → Mid.word (Child n k) ≡ body_child i → (nodes.home n ≡ made number l) ⊎ HasPass Mid number (λ view. HasUpdate view (NotedAt i n k l))
  entries-new i n k number l e low entry =
      elim (made-or n number l e) [
        | inl old ↦ inl old
        | inr t ↦
            let tree = tree-of layer core step a asked l n t.1 in
            inr (subst (λ (x : ℕ). HasPass Mid x (λ view. HasUpdate view (NotedAt i n k l))) (sym t.0)
            (seat-has location_scope (λ j v. refl) (after_step store_node core step) step.number (λ v. HasUpdate v (NotedAt i n k l)) (record {
              seat = step.seat;
              view = Last store_node core step;
              at = view-step store_node core step a.at;
              pass = a.pass;
              holds = subst (λ (o : Option Rebuild). IsSomeAnd (option_map update_on_places o) (NotedAt i n k l)) (sym asked.stores.update) (noted-part i n k l t.1 entry (tree.1.parts n k t.1 low));
            })))
      ]

  -- each body that was noted is at its place
  planned-new : (noted : Noted) → Contains asked.r.noted noted → IsPlannedAt Then Is step.number (seen_of location_scope step.number (Last (finish_plan layer) core step)) (update_on_places new) noted
  planned-new noted among =
      elim ((whole layer core step a asked).trees noted.layer) [
        | inl t ↦
            let entered = t.1.entered noted among refl in
            let entry : W layer core step a asked (Child entered.node entered.child) ≡ body_child noted.index =
            sym (child-now layer core step a asked noted.layer t.0 t.1 entered.node entered.child entered.in_tree) ∙ entered.entry
            in
            record {
              node = entered.node;
              child = entered.child;
              below = entered.below;
              at = entered.at;
              made_for = made-home layer core step a asked entered.node noted.layer entered.in_tree;
              entry = inl entry;
              undone = λ undone. entry;
              of_done = λ done e. elim done [
                | inl d ↦ absurd (none_in noted.index (subst (λ (xs : List ℕ). Contains xs noted.index) asked.stores.early.placed d.0))
                | inr d ↦ absurd (none_in noted.index (subst (λ (xs : List ℕ). Contains xs noted.index) asked.stores.early.given_up d))
              ];
            }
        | inr none ↦ absurd (none.no_bodies noted among refl)
      ]

  calm : call_on_places step.view.call ≡ no_call
  calm = ap (λ (t : Task). call_by_task t step.view.call) asked.stores.idle

  swaps : SwapsPlaces (finish_plan layer) store_node.leaves core step a Then
  swaps =
      let forth : (P : Rebuild → Type 0) → (P (update_on_places asked.r) → P (update_on_places new)) → IsSomeAnd (OneUpdate (finish_plan layer) store_node.leaves core step a Then) P → IsSomeAnd (TwoUpdate (finish_plan layer) store_node.leaves core step a Then) P =
      λ P more t. subst (λ (o : Option Rebuild). IsSomeAnd o P) (sym two-places) (more (subst (λ (o : Option Rebuild). IsSomeAnd o P) one t))
      in
      record {
        batches = refl;
        bodies = λ i. record {
          second = forth (IsSecondFor Mid i) (λ t. absurd (false≢true (sym asked.stores.early.unplanned ∙ t.0)));
          placed = λ t e places. places;
          unexchanged = λ l. forth (λ x. length x.swapped ≤ l) (λ t. t);
          merged = λ l t root. forth (λ x. IsStillMerged x l t root) (λ m. m);
          removed = λ removes. removes;
        };
        noted = λ i n k l at. forth (NotedAt i n k l) (λ t. t);
        planned = subst
            (λ (o : Option Rebuild). IfSome o (λ x. (noted : Noted) → Contains x.noted noted → x.is_planned ≡ true → length x.swapped ≤ noted.layer → IsPlannedAt Then Is step.number (seen_of location_scope step.number (Last (finish_plan layer) core step)) x noted))
            (sym two-places) (λ noted among is from. planned-new noted among);
        published = subst (λ (o : Option Rebuild). IfSome o (λ x. (noted : Noted) → Contains x.noted noted → IsPublishedAt Then x noted)) (sym two-places)
            (λ noted among is swapped. let none = subst (λ (xs : List ℕ). noted.layer < length xs) asked.stores.early.swapped swapped in absurd (omega arith));
        own = subst (λ (c : Call). PassIsPlaced Then Is c (TwoUpdate (finish_plan layer) store_node.leaves core step a Then)) (sym calm)
            (begun-placed Then Is (TwoUpdate (finish_plan layer) store_node.leaves core step a Then) Nothing (λ i removes. absurd removes) tt (λ n k climbs. absurd climbs));
      }

  LocationsHold-planned : LocationsHold Then (after_step (finish_plan layer) core step)
  LocationsHold-planned =
      LocationsHold-swap (finish_plan layer) store_node.leaves core step a Then
      (LocationsHold-rehomed nodes Then only-makes Mid (LocationsHold-own_node core step a asked.node of_node home) entries-new) swaps

  -- ---- readers

  abbrev Count : Sight
  Count = SecondReaders (finish_plan layer) store_node.leaves core step a nodes Then only-makes

  -- what stands below a place is planned below it
  side-new : (l n k : ℕ) → Made layer core step a asked l n → (root : ℕ) (t : IsNewTree (K layer core step a asked) (N layer core step a asked) (whole layer core step a asked).depth l root) → (q side : ℕ) → HasSideBelow (K layer core step a asked) (N layer core step a asked) n k q side
      → (noted : Noted) × Contains asked.r.noted noted × IsPlannedBelow Count noted n k × IsSideOf Count (update_on_readers new) noted q side
  side-new l n k inside root t q side h =
      let m = h.0 in
      let boxes = (own-notes core step a asked.r asked.stores.update).boxes m h.1 in
      elim ((whole layer core step a asked).trees m.layer) [
        | inl own ↦
            let entered = own.1.entered m h.1 refl in
            let node : entered.node ≡ h.2.0 = let e = entered.at in let f = h.2.3 in let x = entered.below in let y = h.2.2 in omega arith in
            let above = up-forth layer core step a asked m.layer own.0 own.1 h.2.0 h.2.1 n k (subst (λ (x : ℕ). Made layer core step a asked m.layer x) node entered.in_tree) h.2.4 in (
              m,
              h.1,
              (h.2.0, h.2.1, h.2.2, h.2.3, above-same (W layer core step a asked) Count.word (λ x. refl) h.2.0 h.2.1 n k above),
              inl (sides_of m.bounds, had-then m boxes, h.3),
            )
        | inr none ↦ absurd (none.no_bodies m h.1 refl)
      ]
    where
      had-then : (m : Noted) → HadAs (sight cover_scope core) asked.r.from m (sides_of m.bounds) → HadAs Count asked.r.from m (sides_of m.bounds)
      had-then m h = subst (λ (past : List MadeEntry). HadAs (record Count { history = past }) asked.r.from m (sides_of m.bounds)) (sym (step-history (finish_plan layer) core step (λ value. refl))) h

  tight-new : IsTight Then Count step.number (update_on_readers new)
  tight-new n k l e low some =
      elim (made-or n step.number l e) [
        | inl old ↦ absurd (unmade core step a asked.r asked.stores.update asked.stores.early n l old)
        | inr made_now ↦
            let t = tree-of layer core step a asked l n made_now.1 in
            let child = child-now layer core step a asked l t.0 t.1 n k made_now.1 in
            let hull = t.1.tight n k made_now.1 low (λ none. some (sym child ∙ none)) in
            λ q below.
            let side = hull q below in
            let low_same = bound-now layer core step a asked l t.0 t.1 n k q made_now.1 in
            let high_same = bound-now layer core step a asked l t.0 t.1 n k (3 + q) made_now.1 in (
              (side.0.0, side-new l n k made_now.1 t.0 t.1 q side.0.0 side.0.1, subst (λ (x : ℕ). side.0.0 ≤ x) low_same side.0.2),
              (side.1.0, side-new l n k made_now.1 t.0 t.1 (3 + q) side.1.0 side.1.1, subst (λ (x : ℕ). x ≤ side.1.0) high_same side.1.2),
            )
      ]

  -- ---- all of them

  same-cover : option_map update_on_cover step.view.rebuild ≡ option_map update_on_cover (option_map (with_plan layer step.name step.first) step.view.rebuild)
  same-cover = ap (option_map update_on_cover) asked.stores.update ∙ sym (ap (option_map update_on_cover) (two layer core step a asked))

  pub Invariants-planned : Invariants (after_step (finish_plan layer) core step)
  Invariants-planned = record {
    nodes = Then;
    locks = law-swap lock_scope (λ k v. refl) kind store_node.leaves core step a.at a.pass LocksAgreeIn refl (LocksAgree-own_node core step a asked.node of_node home);
    bodies = law-swap body_scope (λ k v. refl) kind store_node.leaves core step a.at a.pass BodiesAgreeIn refl (BodiesAgree-own_node core step a asked.node of_node home);
    places =
        NodesInOnePlace-plan (with_plan layer) core step a asked.r asked.stores.update asked.stores.early.unplanned (M layer core step a asked) (R layer core step a asked) true (two layer core step a asked) Then (makes layer core step a asked)
        (NodesInOnePlace-own_node core step a asked.node of_node home);
    trees =
        TreesSound-plan (with_plan layer) core step a asked.r asked.stores.update asked.stores.early (M layer core step a asked) (R layer core step a asked) true (two layer core step a asked) Then (makes layer core step a asked)
        (trees-then layer core step a asked) (TreesSound-own_node core step a asked.node of_node home);
    locations = LocationsHold-planned;
    cover = law-swap cover_scope (λ k v. refl) kind store_node.leaves core step a.at a.pass (BodiesCoveredIn Then)
        (ap (λ (o : Option Rebuild). record (bare_view step.number) { call = call_at (task_on_cover step.view.call.task); rebuild = o }) same-cover)
        (BodiesCovered-rehomed nodes Then only-makes (sight cover_scope (after_step store_node core step)) (BodiesCovered-own_node core step a asked.node of_node home));
    walks = law-swap walk_scope (λ k v. refl) kind store_node.leaves core step a.at a.pass WalksLeadIn refl (WalksLead-own_node core step a asked.node of_node home);
    readers = ReadersCounted-swap kind store_node.leaves core step a nodes Then only-makes (ReadersCounted-own_node core step a asked.node of_node home)
        (record {
          walk = refl;
          task = refl;
          readers = ap (option_map (λ (x : Rebuild). x.readers)) asked.stores.update ∙ sym (ap (option_map (λ (x : Rebuild). x.readers)) (two layer core step a asked));
          others = λ n number l apart e. elim (made-or n number l e) [ inl old ↦ old | inr t ↦ absurd (apart t.0) ];
          tight = subst (λ (o : Option Rebuild). IfSome (option_map update_on_readers o) (λ x. x.is_planned ≡ true → IsTight Then Count step.number x)) (sym (two layer core step a asked)) (λ is. tight-new);
        });
  }

-- ---- kind 22, the last one

pub Invariants-finish_plan : (layer : ℕ) → IsKept (MayFinishPlan layer) (finish_plan layer)
Invariants-finish_plan layer = kept (MayFinishPlan layer) (finish_plan layer) (λ core step a asked. Invariants-planned layer core step a asked)

pub GuardsHold-finish_plan : (layer : ℕ) → IsGuarded (MayFinishPlan layer) (finish_plan layer)
GuardsHold-finish_plan layer =
    guarded (MayFinishPlan layer) (finish_plan layer) (λ core step a asked. own-guarded (finish_plan layer) core step a asked.node (of_node layer core step a asked) (home layer core step a asked))
