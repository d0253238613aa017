-- Opening a pass keeps all invariants: what holds of all passes holds where there is one more, which has done nothing.
use Rattle.std.proofs.Common.{◌≡◌, ◌≢◌, ℕ, suc, ◌+◌, List, [], ◌∷◌, ◌++◌, refl, ap, sym, ◌∙◌, subst, inl, inr, arith, set}
use Rattle.std.specs.Prelude.{Contains, AllPairs, filter_map, flat_map, Some}
use Rattle.std.proofs.lemmas.Bool.{false≢true}
use Rattle.std.proofs.lemmas.List.{append-nil}
use Rattle.std.proofs.lemmas.List.Concat.{flat_map-append}
use Rattle.std.proofs.lemmas.List.Sums.{fold-append}
use Rattle.std.proofs.lemmas.List.Elements.{Contains-append_left, Contains-push_cases, filter_map-append}
use Rattle.word_map.specs.declared.config.Config.{Config}
use Rattle.core_state.specs.declared.view.Role.TheVariants.{Pass}
use Rattle.core_state.specs.declared.view.Marked.{Marked}
use Rattle.core_state.specs.declared.view.Batch.{Batch}
use Rattle.core_state.specs.declared.view.Noted.{Noted}
use Rattle.core_state.specs.declared.view.Rebuild.{Rebuild}
use Rattle.core_state.specs.declared.view.Walk.{Walk}
use Rattle.core_state.specs.declared.view.View.{View}
use Rattle.core_state.specs.View.{blank_view}
use Rattle.core_state.specs.Core.{Core, IsViewAt}
use Rattle.core_state.specs.Seats.{Opens, after_split}
use Rattle.core_state.specs.Scope.{Scope, Sight, sight, part_of, bare_view, HasPass, EachPass}
use Rattle.core_state.specs.Encoding.{Sides, IsInArena, bound_in}
use Rattle.core_state.specs.Nodes.{Nodes, Home, under, made, superseded}
use Rattle.core_state.specs.Updates.{EachUpdate, HasUpdate, arena_of, arena_after}
use Rattle.core_state.specs.Space.{IsComing, IsInLayer, IsInHull, IsInSpace, IsSideIn}
use Rattle.core_state.specs.Bodies.{AreOtherSlots, all_batches}
use Rattle.core_state.specs.BodiesAgree.{BodiesAgreeIn, body_scope}
use Rattle.core_state.specs.NodesInOnePlace.{NodesInOnePlaceIn, node_scope}
use Rattle.core_state.specs.TreesSound.{TreesSoundIn, IsRootOf, IsChild, nothing, a_body, a_node, IsPlaced, as_root, at_place, IsLeft, as_top, below, IsLeftNode, tree_scope}
use Rattle.core_state.specs.LocationsHold.{LocationsHoldIn, IsRemoved, IsWhere, in_slot, in_main, in_old, in_merged, location_scope}
use Rattle.core_state.specs.BodiesCovered.{BodiesCoveredIn, LooksAsNoted, IsAsNoted, NotesHold, cover_scope}
use Rattle.core_state.specs.Walking.{Position}
use Rattle.core_state.specs.WalksLead.{WalksLeadIn, walk_scope}
use Rattle.core_state.specs.ReadersCounted.{ReadersCountedIn, ReadsInSpace, layer_at_hand, reader_scope}
use Rattle.core_state.specs.Invariants.{Invariants}
use Rattle.core_state.proofs.Frames.{filter_map-set}
use Rattle.core_state.proofs.Opening.{none_in}
use Rattle.core_guard.proofs.Leaving.{if_some_map, some_and_map}
use Rattle.core_guard.proofs.LockWords.{Agrees-from, Agrees-to, Agrees-opened}

-- a box lies in a hull also where more counts
hull-more : (Counts More : ℕ → ℕ → Type 0) (b : Sides) → ((q side : ℕ) → Counts q side → More q side) → IsInHull Counts b → IsInHull More b
hull-more Counts More b counts h q low =
    let t = h q low in
    ((t.0.0, counts q t.0.0 t.0.1, t.0.2), (t.1.0, counts (3 + q) t.1.0 t.1.1, t.1.2))

-- a sight with one more pass, which has done nothing
abbrev pub more : Sight → ℕ → Sight
more s p = record s { passes = s.passes ++ bare_view p ∷ [] }

-- ---- what is said of passes

module _ (s : Sight) (p : ℕ) where
  -- what each pass has, each has afterwards, if the new one has it
  each-more : (P Q : ℕ → View → Type 0) → EachPass s P → ((number : ℕ) (view : View) → P number view → Q number view) → ((number : ℕ) → Q number (bare_view p)) → EachPass (more s p) Q
  each-more P Q h step bare number view among pass =
      elim (Contains-push_cases s.passes (bare_view p) view among) [
        | inl old ↦ step number view (h number view old pass)
        | inr new ↦ subst (Q number) new (bare number)
      ]

  -- and it had it before
  each-less : (P : ℕ → View → Type 0) → EachPass (more s p) P → EachPass s P
  each-less P h number view among pass = h number view (Contains-append_left s.passes (bare_view p ∷ []) view among) pass

  -- what some pass has, one has afterwards
  has-more : (number : ℕ) (P Q : View → Type 0) → HasPass s number P → ((view : View) → P view → Q view) → HasPass (more s p) number Q
  has-more number P Q h step = (h.0, Contains-append_left s.passes (bare_view p ∷ []) h.0 h.1, h.2, step h.0 h.3)

  -- and one had it before, as the new one has it not
  has-less : (number : ℕ) (P : View → Type 0) → HasPass (more s p) number P → ¬ P (bare_view p) → HasPass s number P
  has-less number P h none =
      elim (Contains-push_cases s.passes (bare_view p) h.0 h.1) [
        | inl old ↦ (h.0, old, h.2, h.3)
        | inr new ↦ absurd (none (subst P (sym new) h.3))
      ]

  -- of which nothing is collected
  flat-more : {X : Type 0} (f : View → List X) → f (bare_view p) ≡ [] → flat_map f (more s p).passes ≡ flat_map f s.passes
  flat-more {X = X} f none = flat_map-append f s.passes (bare_view p ∷ []) ∙ (ap (λ (l : List X). flat_map f s.passes ++ (l ++ [])) none ∙ append-nil (flat_map f s.passes))

  -- it has no update
  update-more : (P Q : ℕ → View → Rebuild → Type 0) → EachUpdate s P → ((number : ℕ) (view : View) (r : Rebuild) → P number view r → Q number view r) → EachUpdate (more s p) Q
  update-more P Q h step = each-more _ _ h (λ number view has. if_some_map view.rebuild (P number view) (Q number view) (step number view) has) (λ number. tt)

  batches-more : all_batches (more s p) ≡ all_batches s
  batches-more = flat-more (λ v. v.batches) refl

  among-less : (batch : Batch) → Contains (all_batches (more s p)) batch → Contains (all_batches s) batch
  among-less batch among = subst (λ (l : List Batch). Contains l batch) batches-more among

  -- ---- bodies

  BodiesAgree-more : BodiesAgreeIn s → BodiesAgreeIn (more s p)
  BodiesAgree-more h = record {
    lawful = h.lawful;
    state = h.state;
    live = λ i r is.
        let w = h.live i r is in
        record { layer = w.layer; user = w.user; user_fits = w.user_fits; bounds = λ whole. w.bounds (λ number has. whole number (has-more number _ _ has (λ v x. x))); phase = w.phase; slot = w.slot };
    dead = h.dead;
    chain = h.chain;
    linked = h.linked;
    listed = each-more _ _ h.listed (λ number v x. x) (λ number. tt);
    settled = λ settled. h.settled (each-less _ settled);
    stripes = each-more _ _ h.stripes (λ number v x. x) (λ number. tt);
    reserved = λ l t number low. (
      λ e. has-more number _ _ ((h.reserved l t number low).0 e) (λ v x. x),
      λ has. (h.reserved l t number low).1 (has-less number _ has (λ none. none_in none.0 none.1)),
    );
    slots = subst (λ (b : List Batch). AllPairs AreOtherSlots b) (sym batches-more) h.slots;
    marked = λ batch m among marked.
        let t = h.marked batch m (among-less batch among) marked in
        record { held = t.held; phase = t.phase; bounds = t.bounds };
    held = λ i has.
        let t = h.held i has in
        (t.0, t.1, subst (λ (b : List Batch). Contains b t.0) (sym batches-more) t.2, t.3, t.4);
    once = subst (λ (b : List Batch). AllPairs (λ (x : Marked) (y : Marked). x.index ≢ y.index) (flat_map (λ (c : Batch). c.marked) b)) (sym batches-more) h.once;
  }

  -- ---- nodes

  arena-more : (named layer : ℕ) → arena_of (more s p) named layer ≡ arena_of s named layer
  arena-more named layer = fold-append (λ arena view. arena_after layer arena view.rebuild) named s.passes (bare_view p ∷ [])

  NodesInOnePlace-more : (nodes : Nodes) → NodesInOnePlaceIn nodes s → NodesInOnePlaceIn nodes (more s p)
  NodesInOnePlace-more nodes h = record {
    in_use = h.in_use;
    arenas = h.arenas;
    chain = h.chain;
    linked = h.linked;
    once = h.once;
    free_nodes = h.free_nodes;
    batch_nodes = h.batch_nodes;
    count = λ quiet. h.count (each-less _ quiet);
    pool = each-more _ _ h.pool (λ number v x. x) (λ number. tt);
    owned = λ n number. (
      λ own. has-more number _ _ ((h.owned n number).0 own) (λ v x. x),
      λ has. (h.owned n number).1 (has-less number _ has (none_in n)),
    );
    owned_once = each-more _ _ h.owned_once (λ number v x. x) (λ number i j d less below. absurd (omega arith));
    batches = λ batch n among inside. h.batches batch n (among-less batch among) inside;
    loose = each-more _ _ h.loose (λ number v x. x) (λ number n among. absurd (none_in n among));
    slot_trees = h.slot_trees;
    main_trees = λ n l e. subst (λ (a : ℕ). IsInArena s.config a n) (sym (arena-more _ l)) (h.main_trees n l e);
    made_trees = h.made_trees;
    made_by = λ n number l. (
      λ e. has-more number _ _ ((h.made_by n number l).0 e) (λ v x. x),
      λ has. (h.made_by n number l).1 (has-less number _ has (λ none. none)),
    );
    in_arena = update-more _ _ h.in_arena (λ number v r x. x);
    update = λ number. (
      λ e. has-more number _ _ ((h.update number).0 e) (λ v x. x),
      λ has. (h.update number).1 (has-less number _ has (λ none. false≢true none)),
    );
    superseded_by = λ n number name e. has-more number _ _ (h.superseded_by n number name e) (λ v x. x);
    returning_by = λ n number e.
        let t = h.returning_by n number e in
        (t.0, has-more number _ _ t.1 (λ v x. x));
    arena = h.arena;
    named = update-more _ _ h.named (λ number v r x. x);
    idle = λ unread. h.idle (each-less _ unread);
  }

  -- ---- trees

  module _ (nodes : Nodes) where
    root-more : (home : Home) (root : ℕ) → IsRootOf s home root → IsRootOf (more s p) home root
    root-more (under name) root h = h
    root-more (made number l) root h = has-more number _ _ h (λ v x. x)
    root-more (superseded number name) root h = has-more number _ _ h (λ v x. x)
    root-more _ root h = absurd h

    child-more : (n k : ℕ) → IsChild nodes s n k → IsChild nodes (more s p) n k
    child-more n k (nothing e) = nothing e
    child-more n k (a_body i low e) = a_body i low e
    child-more n k (a_node m e home parent depth) = a_node m e home parent depth

    placed-more : (m : ℕ) → IsPlaced nodes s m → IsPlaced nodes (more s p) m
    placed-more m (as_root e root) = as_root e (root-more (nodes.home m) m root)
    placed-more m (at_place n k low e child home) = at_place n k low e child home

    left-more : (number : ℕ) (r : Rebuild) (m : ℕ) → IsLeft nodes s number r m → IsLeft nodes (more s p) number r m
    left-more number r m (as_top level among) = as_top level among
    left-more number r m (below n k low e child home) = below n k low e child home

    TreesSound-more : TreesSoundIn nodes s → TreesSoundIn nodes (more s p)
    TreesSound-more h = record {
      sound = λ n stands.
          let t = h.sound n stands in
          record { children = λ k low. child-more n k (t.children k low); placed = placed-more n t.placed; height = t.height; bounds = t.bounds };
      roots = h.roots;
      stored = each-more _ _ h.stored (λ number v x. x) (λ number store among. absurd (none_in store among));
      made_roots = update-more _ _ h.made_roots (λ number v r x. x);
      superseded_roots = update-more _ _ h.superseded_roots (λ number v r x. x);
      left_nodes = λ n number e.
          has-more number (λ v. HasUpdate v (λ r. IsLeftNode nodes s number r n)) _ (h.left_nodes n number e)
          (λ v has. some_and_map v.rebuild _ _ (λ r t. record { children = λ k low. child-more n k (t.children k low); left = left-more number r n t.left; height = t.height }) has);
      tops = update-more _ _ h.tops
          (λ number v r t. record {
            tops = λ top among. let x = t.tops top among in record { owned = x.owned; alone = x.alone; low = x.low };
            once = t.once;
          });
    }

    -- ---- locations

    where-more : (i layer n : ℕ) → IsWhere nodes s i layer n → IsWhere nodes (more s p) i layer n
    where-more i layer n (in_slot t phase home second) = in_slot t phase home (elim second [ inl none ↦ inl none | inr now ↦ inr (now.0, has-more now.0 _ _ now.1 (λ v x. x)) ])
    where-more i layer n (in_main phase home second) =
        in_main phase home
        (elim second [
          | inl none ↦ inl none
          | inr other ↦ inr (elim other [ inl same ↦ inl same | inr unexchanged ↦ inr (unexchanged.0, has-more unexchanged.0 _ _ unexchanged.1 (λ v x. x)) ])
        ])
    where-more i layer n (in_old number name phase second home of_layer) = in_old number name phase second home of_layer
    where-more i layer n (in_merged number t root phase second home has) = in_merged number t root phase second home (has-more number _ _ has (λ v x. x))

    removed-more : (i : ℕ) → IsRemoved s i → IsRemoved (more s p) i
    removed-more i h = (h.0, has-more h.0 _ _ h.1 (λ v x. x))

    LocationsHold-more : LocationsHoldIn nodes s → LocationsHoldIn nodes (more s p)
    LocationsHold-more h = record {
      at = λ i r n k e phase location.
          let t = h.at i r n k e phase location in
          record { stands = t.stands; entry = t.entry; bounds = t.bounds; box_words = t.box_words };
      entries = h.entries;
      made_entries = λ i n k number l home low entry. has-more number _ _ (h.made_entries i n k number l home low entry) (λ v x. x);
      planned = update-more _ _ h.planned
          (λ number v r planned noted among made unswapped.
          let t = planned noted among made unswapped in
          record { node = t.node; child = t.child; below = t.below; at = t.at; made_for = t.made_for; entry = t.entry; undone = t.undone; of_done = t.of_done });
      published = update-more _ _ h.published (λ number v r x. x);
      first = λ i r n k e phase low location. where-more i r.layer n (h.first i r n k e phase low location);
      second = λ i other.
          let t = h.second i other in
          (t.0, has-more t.0 _ _ t.1 (λ v x. x));
      located = h.located;
      dead = h.dead;
      out = λ i body kept. h.out i body (λ removed. kept (removed-more i removed));
      removed = each-more _ _ h.removed
          (λ number v removed i removes.
          let t = removed i removes in
          record { out = t.out; cleared = t.cleared; live = t.live })
          (λ number i removes. absurd removes);
      held = λ batch m among marked. h.held batch m (among-less batch among) marked;
      unheld = each-more _ _ h.unheld (λ number v x. x) (λ number. tt);
      widened = each-more _ _ h.widened (λ number v x. x) (λ number i n k box gives. absurd gives);
      still_wide = each-more _ _ h.still_wide (λ number v x. x) (λ number n k q value among. absurd (none_in _ among));
      climbs_from = each-more _ _ h.climbs_from (λ number v x. x) (λ number n k climbs. absurd climbs);
      on_its_way = each-more _ _ h.on_its_way (λ number v x. x) (λ number m value among. absurd (none_in _ among));
      widened_on_way = each-more _ _ h.widened_on_way (λ number v x. x) (λ number a b q value among. absurd (none_in _ among));
    }

    -- ---- what is covered

    as-noted-more : (n : Noted) → IsAsNoted s n → IsAsNoted (more s p) n
    as-noted-more n h = record {
      looks = record { state = h.looks.state; location = h.looks.location };
      phase = λ kept. h.phase (λ removed. kept (removed-more n.index removed));
      layer = h.layer;
      same = h.same;
    }

    looks-less : (n : Noted) → LooksAsNoted (more s p) n → LooksAsNoted s n
    looks-less n h = record { state = h.state; location = h.location }

    notes-more : (v : View) (r : Rebuild) → NotesHold nodes s v r → NotesHold nodes (more s p) v r
    notes-more v r h = record {
      all_noted = λ i opened old.
          let t = h.all_noted i opened old in
          (t.0, t.1, t.2, as-noted-more t.0 t.3);
      still_there = λ n among opened looks.
          let t = h.still_there n among opened (looks-less n looks) in
          (t.0, as-noted-more n t.1);
      located = h.located;
      in_old = h.in_old;
      placed = h.placed;
      given_up = h.given_up;
      once = h.once;
      passed = h.passed;
      boxes = h.boxes;
      begun = h.begun;
    }

    BodiesCovered-more : BodiesCoveredIn nodes s → BodiesCoveredIn nodes (more s p)
    BodiesCovered-more h = record {
      covered = h.covered;
      replaced = h.replaced;
      to_place = update-more _ _ h.to_place (λ number v r x. x);
      notes = update-more _ _ h.notes (λ number v r t. notes-more v r t);
      merged = update-more _ _ h.merged (λ number v r t. record { stand = t.stand; read = t.read; each_once = t.each_once });
      exchanged = update-more _ _ h.exchanged (λ number v r x. x);
    }

    -- ---- walks and readers

    WalksLead-more : WalksLeadIn s → WalksLeadIn (more s p)
    WalksLead-more h = record {
      leads = each-more _ _ h.leads
          (λ number v leads on query follows.
          let t = leads on query follows in
          record { ahead = t.ahead; widens = t.widens; order = t.order; once = t.once; bodies = t.bodies })
          (λ number on. absurd (false≢true on));
      begun = each-more _ _ h.begun (λ number v x. x) (λ number. omega arith);
    }

    coming-more : (index q side : ℕ) → IsComing s index q side → IsComing (more s p) index q side
    coming-more index q side h = (h.0, has-more h.0 _ _ h.1 (λ v x. x))

    in_layer-more : (layer q side : ℕ) → IsInLayer s layer q side → IsInLayer (more s p) layer q side
    in_layer-more layer q side (inl had) = inl had
    in_layer-more layer q side (inr t) = inr (t.0, coming-more t.0 q side t.1, t.2)

    side-more : (layer q value : ℕ) → IsSideIn (IsInLayer s layer) q value → IsSideIn (IsInLayer (more s p) layer) q value
    side-more layer q value h = (h.0, in_layer-more layer q h.0 h.1, h.2, h.3)

    space-more : (layer : ℕ) (b : Sides) → IsInSpace s layer b → IsInSpace (more s p) layer b
    space-more layer b h = hull-more (IsInLayer s layer) (IsInLayer (more s p) layer) b (in_layer-more layer) h

    reads-more : (walk : Walk) (at : Position) → ReadsInSpace s walk.loads at → ReadsInSpace (more s p) walk.loads at
    reads-more walk at h = record {
      sides = λ before later n k q value e. if_some_map (layer_at_hand before) _ _ (λ l t. side-more l q value t) (h.sides before later n k q value e);
      part = λ n level k x read e. if_some_map (layer_at_hand walk.loads) _ _ (λ l t. space-more l (bound_in s.word n k) t) (h.part n level k x read e);
    }

    ReadersCounted-more : ReadersCountedIn nodes s → ReadersCountedIn nodes (more s p)
    ReadersCounted-more h = record {
      odd = λ number. (
        λ e. has-more number _ _ ((h.odd number).0 e) (λ v x. x),
        λ has. (h.odd number).1 (has-less number _ has false≢true),
      );
      stays = each-more _ _ h.stays (λ number v x. x) (λ number on. absurd (false≢true on));
      in_space = each-more _ _ h.in_space (λ number v reads on query follows. reads-more v.walk _ (reads on query follows)) (λ number on. absurd (false≢true on));
      seen_off = update-more _ _ h.seen_off (λ number v r off. each-more _ _ off (λ q w x. x) (λ q seen on. absurd (false≢true on)));
      climbs = each-more _ _ h.climbs (λ number v x. x) (λ number. tt);
      space = λ n k l live layer low child. space-more l (bound_in s.word n k) (h.space n k l live layer low child);
      tight = update-more _ _ h.tight
          (λ number v r tight planned n k l home low child.
          hull-more _ _ (bound_in s.word n k) (λ q side t. (t.0, t.1, t.2, elim (t.3) [ inl had ↦ inl had | inr coming ↦ inr (coming.0, coming-more t.0.index q side coming.1) ])) (tight planned n k l home low child));
    }

-- ---- the step

module _ (core : Core) (seat number further : ℕ) (at : IsViewAt core seat (blank_view core.config (Pass number (suc further)))) where
  abbrev opened : Core
  opened = after_split core seat (blank_view core.config (Pass number 0)) (blank_view core.config (Pass (suc number) further))

  -- a law that reads nothing of a pass that has done nothing sees one more
  opened-seen : (scope : Scope) → ((c : Config) (n rest : ℕ) → scope.part (bare_view n) (blank_view c (Pass n rest)) ≡ bare_view n) → more (sight scope core) (suc number) ≡ sight scope opened
  opened-seen scope reads =
      let left = blank_view core.config (Pass number 0) in
      let right = blank_view core.config (Pass (suc number) further) in
      let same : filter_map (part_of scope) (set core.views seat left) ≡ filter_map (part_of scope) core.views =
      filter_map-set (part_of scope) core.views seat (blank_view core.config (Pass number (suc further))) left at (ap Some (reads core.config number 0 ∙ sym (reads core.config number (suc further))))
      in
      λ i. record (sight scope core) {
        passes = (sym (filter_map-append (part_of scope) (set core.views seat left) (right ∷ []) ∙ (λ j. same j ++ reads core.config (suc number) further j ∷ []))) i;
      }

  Invariants-opened : Invariants core → Invariants opened
  Invariants-opened h = record {
    nodes = h.nodes;
    locks = Agrees-to opened (Agrees-opened core seat number further at (Agrees-from core h.locks));
    bodies = subst BodiesAgreeIn (opened-seen body_scope (λ c n f. refl)) (BodiesAgree-more (sight body_scope core) (suc number) h.bodies);
    places = subst (NodesInOnePlaceIn h.nodes) (opened-seen node_scope (λ c n f. refl)) (NodesInOnePlace-more (sight node_scope core) (suc number) h.nodes h.places);
    trees = subst (TreesSoundIn h.nodes) (opened-seen tree_scope (λ c n f. refl)) (TreesSound-more (sight tree_scope core) (suc number) h.nodes h.trees);
    locations = subst (LocationsHoldIn h.nodes) (opened-seen location_scope (λ c n f. refl)) (LocationsHold-more (sight location_scope core) (suc number) h.nodes h.locations);
    cover = subst (BodiesCoveredIn h.nodes) (opened-seen cover_scope (λ c n f. refl)) (BodiesCovered-more (sight cover_scope core) (suc number) h.nodes h.cover);
    walks = subst WalksLeadIn (opened-seen walk_scope (λ c n f. refl)) (WalksLead-more (sight walk_scope core) (suc number) h.nodes h.walks);
    readers = subst (ReadersCountedIn h.nodes) (opened-seen reader_scope (λ c n f. refl)) (ReadersCounted-more (sight reader_scope core) (suc number) h.nodes h.readers);
  }

pub Invariants-opens : (before after : Core) → Opens before after → Invariants before → Invariants after
Invariants-opens before after opens h = subst Invariants (sym opens.result) (Invariants-opened before opens.seat opens.number opens.further opens.at h)
