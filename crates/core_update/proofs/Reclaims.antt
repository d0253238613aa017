-- Loading the word of a reader keeps all laws: as long as some pass may still be in what the update took out of sight no more than
-- the load is new, and with the one that shows that none is, these trees are given back.
use Rattle.std.proofs.Common.{◌≡◌, ℕ, ◌<◌, true, false, Bool, Some, option_map, refl, ap, sym, ◌∙◌, subst, inl, inr, ◌≢◌, ◌↔◌, ◌-◌, Option, None, IsSomeAnd, arith}
use Rattle.std.specs.Prelude.{Contains, IsNone}
use Rattle.word_map.specs.declared.name.Name.{Name}
use Rattle.word_map.specs.declared.name.Name.TheVariants.{Child, LocA, LocB, Parent, Reader, Arena, Main, Slot, Update}
use Rattle.core_state.specs.declared.view.Rebuild.{Rebuild}
use Rattle.core_state.specs.declared.view.Task.{Task}
use Rattle.core_state.specs.BodiesAgree.{BodiesAgreeIn, body_scope}
use Rattle.core_state.specs.BodiesCovered.{BodiesCoveredIn, cover_scope}
use Rattle.core_state.specs.Core.{Core, word_of}
use Rattle.core_state.specs.Invariants.{Invariants}
use Rattle.core_state.specs.Kind.{Step, after_step}
use Rattle.core_state.specs.LocationsHold.{LocationsHoldIn, location_scope}
use Rattle.core_state.specs.LocksAgree.{LocksAgreeIn, lock_scope}
use Rattle.core_state.specs.Nodes.{Nodes, superseded, free, spare, IsOwnedBy, nodes_in}
use Rattle.core_state.specs.Parts.{call_by_task, call_on_places, update_on_cover, update_on_places, update_on_readers, update_on_nodes}
use Rattle.core_state.specs.ReadersCounted.{AvoidsSuperseded, HasSeenOff, ReadersCounted, reader_scope}
use Rattle.core_state.specs.Retiring.{MayLoadReader, is_unreached, load_reader}
use Rattle.core_state.specs.Scope.{EachPass, Sight, sight}
use Rattle.core_state.specs.TreesSound.{tree_scope}
use Rattle.core_state.specs.Updates.{IsPlacing, EachUpdate, arena_after}
use Rattle.core_state.specs.WalksLead.{WalksLeadIn, walk_scope}
use Rattle.core_state.specs.declared.view.View.{View}
use Rattle.core_state.specs.Encoding.{IsInArena}
use Rattle.core_state.specs.NodesInOnePlace.{NodesInOnePlace, NamesArena, IsOfReplaced, node_scope}
use Rattle.core_state.proofs.Forming.{pass_below, unspent_pass}
use Rattle.core_state.proofs.Steps.{word-step-unstored}
use Rattle.core_guard.proofs.Leaving.{Acts, LeadsWithin, sound-leads, if_some_map, lawful}
use Rattle.core_guard.proofs.Seats.{each-seats, each-step, seen_of}
use Rattle.core_guard.proofs.Touched.{IsKept, kept}
use Rattle.core_guard.proofs.NodesLeft.{OwnerPart, owner-stays, pool-stays, same-nodes, together, unseen-pool}
use Rattle.core_update.proofs.AtRest.{no-second, none-made}
use Rattle.core_update.proofs.LastReader.{is-last, last, left-last, none-there, rebuilds-last, off, quiet, superseded-own, all-swapped, none-returning}
use Rattle.core_update.proofs.OwnUpdate.{after-each, own-all, each-own}
use Rattle.core_update.proofs.ReaderLoads.{Invariants-reached, loaded, readers, unstored, alone}
use Rattle.core_update.proofs.Rebuilt.{unseen-load, Rebuilds}
use Rattle.core_update.proofs.ReclaimedLaws.{BodiesCovered-reclaimed, IsNoneThere, LocationsHold-reclaimed, ReadersCounted-reclaimed, WalksInSight}
use Rattle.core_update.proofs.ReclaimedTrees.{TreesSound-reclaimed}
use Rattle.core_update.proofs.Reclaiming.{reclaimed, all-in-sight, home-back, reclaim, reclaim-back, reclaim-forth, returning-back, spare-back, stands-back}
use Rattle.core_update.proofs.OneArena.{arena-of-one}
use Rattle.core_update.proofs.UpdateNodes.{UpdateHolds, tree-next}
use Rattle.core_update.proofs.Updating.{names-update}

module _ (core : Core) (step : Step) (a : Acts core step) (asked : MayLoadReader step.view step.name step.first step.second) (unreached : is_unreached step.view.config (loaded core step a asked) ≡ true) where
  abbrev nodes : Nodes
  nodes = a.laws.nodes

  abbrev later : Nodes
  later = reclaimed nodes

  abbrev r : Rebuild
  r = asked.r

  abbrev now : Rebuild
  now = last core step a asked unreached

  abbrev After : Core
  After = after_step load_reader core step

  same : (name : Name) → word_of After name ≡ word_of core name
  same = word-step-unstored load_reader core step refl

  abbrev b : Rebuilds load_reader core step (Some now)
  b = rebuilds-last core step a asked unreached

  -- ---- nodes

  abbrev Old : Sight
  Old = sight node_scope core

  own-before : (P : ℕ → View → Rebuild → Type 0) → EachUpdate Old P → P step.number (seen_of node_scope step.number step.view) (update_on_nodes r)
  own-before = each-own load_reader core step a r asked.update node_scope (λ k v. refl) update_on_nodes (λ bare v. refl)

  -- a main tree that is out of sight was in the other arena
  spare-forth : (n : ℕ) → n < core.config.nodes → later.home n ≢ spare
  spare-forth n low e =
      elim (spare-back (nodes.home n) e) [
        | inl was ↦ a.laws.places.arenas n low was
        | inr gone ↦ replaced gone.1 (superseded-own core step a asked n gone.0 gone.1 gone.2).1 gone.3
      ]
    where
      in-arena : (o : Option ℕ) → ¬ IsSomeAnd o (λ old. IsInArena core.config old n)
      in-arena None h = h
      in-arena (Some old) h = let above = h.0 in omega arith

      replaced : (name : Name) → IsOfReplaced core.config (update_on_nodes r) name n → ¬ ((l t : ℕ) → name ≢ Slot l t)
      replaced (Slot l t) h other = other l t refl
      replaced (Main l) h other = in-arena r.arena h
      replaced _ h other = h

  holds : UpdateHolds load_reader core step a (Some now) b (alone core step a asked) later
  holds = record {
    in_use = λ n above. ap reclaim (a.laws.places.in_use n above);
    arenas = spare-forth;
    stood = λ n stands. stands-back (nodes.home n) stands;
    unmade = none-made core a.laws (quiet core step a asked unreached);
    returned = λ n number e.
        elim (returning-back (nodes.home n) number e) [
          | inl was ↦ absurd (none-returning core step a asked n number was)
          | inr gone ↦ let own = superseded-own core step a asked n number (Slot gone.0 gone.1) gone.2 in (own.1, sym own.0, refl)
        ];
    main = λ n l home inside.
        let says = arena-of-one core step.seat step.number step.view a.at a.pass (alone core step a asked) (word_of core Arena) l ∙ ap (λ (o : Option Rebuild). arena_after l (word_of core Arena) o) asked.update in
        subst (λ (x : ℕ). IsInArena core.config (arena_after l x (Some r)) n) (sym (same Arena)) (subst (λ (x : ℕ). IsInArena core.config x n) says inside);
    says = record {
      published = λ planned. let all = all-swapped core step a asked unreached in omega arith;
      in_arena = own-before (λ number v y. (n : ℕ) → Contains y.nodes n → IsSomeAnd y.arena (λ old. IsInArena core.config (1 - old) n)) a.laws.places.in_arena;
      named = if_some_map r.arena _ _ (λ old says. (says.0, same Arena ∙ says.1)) (own-before (λ number v y. NamesArena Old y) a.laws.places.named);
    };
    update = inl (same Update ∙ names-update core a.laws step.seat step.number step.view r a.at a.pass asked.update, refl);
    superseded = λ n name home some. absurd (all-in-sight (nodes.home n) step.number name home);
    arena = subst (λ (x : ℕ). x < 2) (sym (same Arena)) a.laws.places.arena;
    idle = λ unread n inside.
        ap reclaim
        (a.laws.places.idle (own-all load_reader core step a r asked.update node_scope (λ k v. refl) update_on_nodes (λ bare v. refl) (λ number v y. IsNone y.arena) unread) n
        (subst (λ (x : ℕ). IsInArena core.config (1 - x) n) (same Arena) inside));
  }

  owned-same : (n number : ℕ) → IsOwnedBy number (nodes.home n) ↔ IsOwnedBy number (later.home n)
  owned-same n number = (
    λ owns. subst (IsOwnedBy number) (sym (reclaim-forth (IsOwnedBy number) (λ p name none. none) (nodes.home n) owns)) owns,
    λ owns. subst (IsOwnedBy number) (reclaim-back (IsOwnedBy number) (λ p none. none) (λ none. none) (nodes.home n) owns) owns,
  )

  owners : OwnerPart later (sight node_scope After)
  owners =
      let h = owner-stays load_reader core step (lawful a) (same-nodes load_reader core step refl refl (ap nodes_in (left-last core step a asked unreached) ∙ sym (ap nodes_in asked.update))) in
      record { owned = λ n number. (λ owns. (h.owned n number).0 ((owned-same n number).1 owns), λ has. (owned-same n number).0 ((h.owned n number).1 has)); owned_once = h.owned_once; below = h.below }

  placed : NodesInOnePlace later (After)
  placed =
      together (After) later
      (pool-stays load_reader core step (lawful a) later (λ n. (λ e. ap reclaim e, λ e. home-back (nodes.home n) free (λ p same. absurd cc) (λ same. absurd cc) e)) (unseen-pool load_reader core step (ap node_scope.names asked.names) refl (λ pooling held. held))) owners
      (tree-next load_reader core step a (Some now) b (alone core step a asked) later holds)

  -- ---- readers

  abbrev Now : Sight
  Now = sight reader_scope After

  counted : ReadersCounted nodes After
  counted = readers core step a asked now (is-last core step a asked unreached) refl

  low : EachPass Now (λ q view. q < core.config.passes)
  low =
      each-step reader_scope (λ k v. refl) load_reader core step a.at a.pass (λ q view. q < core.config.passes) (λ q view. q < core.config.passes)
      (each-seats reader_scope (λ k v. refl) core (λ q view. q < core.config.passes)
      (λ seat q view at pass. pass_below core.config.passes q view.role pass (a.formed.views seat view at (unspent_pass view.role q pass)).numbers)) (λ seat q view apart at pass low. low) (λ low. low)

  walks : WalksInSight nodes Now
  walks q view among pass on query follows n from number name home =
      let own = superseded-own core step a asked n number name home in
      let seen =
      after-each load_reader core step a r asked.update reader_scope (λ k v. refl) update_on_readers (λ bare v. refl) now (left-last core step a asked unreached)
      (λ k v x. EachPass Now (λ p other. HasSeenOff Now x p → AvoidsSuperseded nodes Now k other.walk)) counted.seen_off q view among pass
      (off core step a asked unreached q (word_of After (Reader q)) (low q view among pass))
      in
      seen on query follows n name from (home ∙ ap (λ (k : ℕ). superseded k name) (sym own.0))

  leads : LeadsWithin nodes Now.word
  leads =
      let t = sound-leads nodes (sight tree_scope core) a.laws.trees in
      record { up = λ m n j stands below e. t.up m n j stands below (sym (same (Parent m)) ∙ e); down = λ n k m stands below e. t.down n k m stands below (sym (same (Child n k)) ∙ e) }

  none-there-now : IsNoneThere nodes Now
  none-there-now i n k location =
      none-there core step a asked unreached i n k (location.0, elim (location.1) [ inl first ↦ inl (sym (same (LocA i)) ∙ first) | inr second ↦ inr (sym (same (LocB i)) ∙ second) ])

  -- ---- all laws

  Invariants-reclaimed : Invariants After
  Invariants-reclaimed =
      let h = a.laws in
      let was = unseen-load load_reader core step a (Some now) b (unstored core step a asked) in
      record {
        nodes = later;
        locks = was lock_scope LocksAgreeIn refl h.locks;
        bodies = was body_scope BodiesAgreeIn refl h.bodies;
        places = placed;
        trees = TreesSound-reclaimed core step a asked unreached;
        locations = was location_scope (LocationsHoldIn later) (λ i. record (seen_of location_scope step.number step.view) { rebuild = option_map update_on_places (sym asked.update i) })
            (LocationsHold-reclaimed nodes (sight location_scope core) (none-there core step a asked unreached) (no-second core h (quiet core step a asked unreached))
            (own-all load_reader core step a r asked.update location_scope (λ k v. refl) update_on_places (λ bare v. refl) (λ number v y. (i : ℕ) → ¬ IsPlacing v.call.task i) resting) h.locations);
        cover = was cover_scope (BodiesCoveredIn later) (λ i. record (seen_of cover_scope step.number step.view) { rebuild = option_map update_on_cover (sym asked.update i) })
            (BodiesCovered-reclaimed nodes (sight cover_scope core) h.cover);
        walks = was walk_scope WalksLeadIn refl h.walks;
        readers = ReadersCounted-reclaimed nodes Now none-there-now leads walks counted;
      }
    where
      resting : (i : ℕ) → ¬ IsPlacing (call_on_places step.view.call).task i
      resting i placing = subst (λ (t : Task). IsPlacing (call_by_task t step.view.call).task i) asked.idle placing

-- ---- kinds 51 and 52

pub Invariants-load_reader : IsKept MayLoadReader load_reader
Invariants-load_reader = kept MayLoadReader load_reader (λ core step a asked. go core step a asked (is_unreached step.view.config (loaded core step a asked)) refl)
  where
    go : (core : Core) (step : Step) (a : Acts core step) (asked : MayLoadReader step.view step.name step.first step.second) (test : Bool) → is_unreached step.view.config (loaded core step a asked) ≡ test
        → Invariants (after_step load_reader core step)
    go core step a asked true e = Invariants-reclaimed core step a asked e
    go core step a asked false e = Invariants-reached core step a asked e
