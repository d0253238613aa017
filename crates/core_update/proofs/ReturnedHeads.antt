-- A node of a merged tree is given back: it is then the first one of the pool, and its children are tops of what is left.
use Rattle.std.proofs.Common.{◌≡◌, ◌≢◌, ◌↔◌, ℕ, true, false, Option, Some, option_map, refl, ap, sym, ◌∙◌, subst, inl, inr}
use Rattle.std.specs.Prelude.{IfSome}
use Rattle.word_map.specs.declared.name.Name.TheVariants.{Main, Slot, PoolHead, PoolNext}
use Rattle.word_map.specs.Names.{pool_lock}
use Rattle.core_state.specs.declared.view.Rebuild.{Rebuild}
use Rattle.core_state.specs.declared.view.View.{View}
use Rattle.core_state.specs.Bodies.{all_batches}
use Rattle.core_state.specs.BodiesAgree.{body_scope}
use Rattle.core_state.specs.BodiesCovered.{BodiesCovered, BodiesCoveredIn, cover_scope}
use Rattle.core_state.specs.Core.{Core, word_of}
use Rattle.core_state.specs.Invariants.{Invariants}
use Rattle.core_state.specs.Kind.{Step, view_after, after_step}
use Rattle.core_state.specs.LocationsHold.{LocationsHold, LocationsHoldIn, location_scope}
use Rattle.core_state.specs.LocksAgree.{lock_scope}
use Rattle.core_state.specs.Nodes.{Nodes, Home, free, spare, made, under, superseded, returning, IsOwnedBy, nodes_in}
use Rattle.core_state.specs.NodesInOnePlace.{node_scope}
use Rattle.core_state.specs.Parts.{call_at, update_on_nodes, update_on_places, update_on_cover, update_on_readers}
use Rattle.core_state.specs.ReadersCounted.{ReadersCounted, ReadersCountedIn, reader_scope, IsTight}
use Rattle.core_state.specs.Retiring.{MayGiveReturned, give_returned}
use Rattle.core_state.specs.Scope.{Scope, Sight, sight}
use Rattle.core_state.specs.WalksLead.{WalksLeadIn, walk_scope}
use Rattle.core_state.proofs.Frames.{frame, step-same}
use Rattle.core_state.proofs.Steps.{word-step, view-step}
use Rattle.core_guard.proofs.BodiesAside.{pool_calls}
use Rattle.core_guard.proofs.Holders.{IsGuarded, guarded, locked}
use Rattle.core_guard.proofs.Leaving.{Acts, IsIdle, lawful, if_some_map, live-stands, idle-places, idle-cover, idle-at_place}
use Rattle.core_guard.proofs.LockSteps.{LocksAgree-other}
use Rattle.core_guard.proofs.NodesLeft.{OwnerPart, PoolPart, TreePart, owner-stays, same-homes, same-nodes, together, tree-part}
use Rattle.core_guard.proofs.Seats.{seen_of, each-seat}
use Rattle.core_guard.proofs.Touched.{IsKept, kept}
use Rattle.core_batch.proofs.Giving.{pool-given}
use Rattle.core_batch.proofs.PoolBodies.{BodiesAgree-pool, given_task, same-batches}
use Rattle.core_batch.proofs.PoolSteps.{IsPoolWord, pool-now, world-pool}
use Rattle.core_batch.proofs.PoolTouches.{pool_idle}
use Rattle.core_update.proofs.ComeToStand.{LocationsHold-rehomed, BodiesCovered-rehomed}
use Rattle.core_update.proofs.NextReturned.{next-not_free}
use Rattle.core_update.proofs.ReturnedTrees.{Given, Left, home-before, homes-else, returning-else, stands-else, update-left, TreesSound-given}
use Rattle.core_update.proofs.SwappedReaders.{OnlyMakes, ReadersCounted-swap}

module _ (core : Core) (step : Step) (a : Acts core step) (asked : MayGiveReturned step.view step.name step.first step.second) where
  abbrev After : Core
  After = after_step give_returned core step

  abbrev Last : View
  Last = view_after give_returned core step

  abbrev p : ℕ
  p = step.number

  abbrev x : ℕ
  x = asked.node

  abbrev nodes : Nodes
  nodes = a.laws.nodes

  abbrev later : Nodes
  later = Given core step a asked

  forth : (home : Home) → returning p ≢ home → free ≢ home → (n : ℕ) → nodes.home n ≡ home → later.home n ≡ home
  forth home was is n e = homes-else core step a asked (λ h. h ≡ home) was is n (inl e) ∙ e

  back : (home : Home) → returning p ≢ home → free ≢ home → (n : ℕ) → later.home n ≡ home → nodes.home n ≡ home
  back home was is n e = sym (homes-else core step a asked (λ h. h ≡ home) was is n (inr e)) ∙ e

  owned-same : (n number : ℕ) → IsOwnedBy number (nodes.home n) ↔ IsOwnedBy number (later.home n)
  owned-same n number =
      let else = homes-else core step a asked (IsOwnedBy number) (λ none. none) (λ none. none) n in
      (λ owns. subst (IsOwnedBy number) (sym (else (inl owns))) owns, λ owns. subst (IsOwnedBy number) (else (inr owns)) owns)

  -- what a law reads of the update is the same, if it does not read what is left to give back
  same-update : {X : Type 0} (part : Option Rebuild → X) → part (Some (Left core step a asked)) ≡ part (Some asked.next.r) → part Last.rebuild ≡ part step.view.rebuild
  same-update part same = ap part (update-left core step a asked) ∙ (same ∙ sym (ap part asked.next.update))

  -- ---- where the nodes are

  pool : PoolPart later (sight node_scope After)
  pool =
      pool-given give_returned core step a x
      (record {
        names = asked.names;
        lock = world-pool core step a asked.pool.lock;
        idle = asked.pool.idle;
        task = refl;
        locks = refl;
        stored = ap (word_of After) (sym asked.names) ∙ (word-step give_returned core step ∙ asked.head);
        link = pool-now core step a asked.pool.lock (PoolNext x) tt ∙ (asked.link ∙ sym (pool-now core step a asked.pool.lock PoolHead tt));
        elsewhere = next-not_free core step a x asked.next;
        batch_node = (a.laws.places.returning_by x p (home-before core step a asked)).0;
      })

  owners : OwnerPart later (sight node_scope After)
  owners =
      let h = owner-stays give_returned core step (lawful a) (same-nodes give_returned core step refl refl (same-update nodes_in refl)) in
      record {
        owned = λ n number. (λ owns. (h.owned n number).0 ((owned-same n number).1 owns), λ has. (owned-same n number).0 ((h.owned n number).1 has));
        owned_once = h.owned_once;
        below = h.below;
      }

  trees : TreePart later (sight node_scope After)
  trees =
      let h =
      tree-part give_returned core step (lawful a)
      (record {
        rebuild = same-update (option_map update_on_nodes) refl;
        update = λ same. let e = same ∙ asked.names in absurd cc;
        arena = λ same. let e = same ∙ asked.names in absurd cc;
      })
      nodes (same-homes core nodes)
      in
      record {
        in_use = λ n above. forth spare (λ e. absurd cc) (λ e. absurd cc) n (h.in_use n above);
        arenas = λ n low e. h.arenas n low (back spare (λ e. absurd cc) (λ e. absurd cc) n e);
        slot_trees = λ n l t e. h.slot_trees n l t (back (under (Slot l t)) (λ e. absurd cc) (λ e. absurd cc) n e);
        main_trees = λ n l e. h.main_trees n l (back (under (Main l)) (λ e. absurd cc) (λ e. absurd cc) n e);
        made_trees = λ n number l e. h.made_trees n number l (back (made number l) (λ e. absurd cc) (λ e. absurd cc) n e);
        made_by = λ n number l. (
          λ e. (h.made_by n number l).0 (back (made number l) (λ e. absurd cc) (λ e. absurd cc) n e),
          λ has. forth (made number l) (λ e. absurd cc) (λ e. absurd cc) n ((h.made_by n number l).1 has),
        );
        in_arena = h.in_arena;
        update = h.update;
        superseded_by = λ n number name e. h.superseded_by n number name (back (superseded number name) (λ e. absurd cc) (λ e. absurd cc) n e);
        returning_by = λ n number e. h.returning_by n number (returning-else core step a asked n number e).1;
        arena = h.arena;
        named = h.named;
        idle = λ unread n inside. forth spare (λ e. absurd cc) (λ e. absurd cc) n (h.idle unread n inside);
      }

  -- ---- laws that do not see what is left to give back

  stays : (scope : Scope) (Law : Sight → Type 0) → scope.names PoolHead ≡ false → seen_of scope p Last ≡ seen_of scope p step.view → Law (sight scope core) → Law (sight scope After)
  stays scope Law hidden same =
      frame scope Law core After (step-same scope give_returned core step a.at a.pass (record { name = λ stored. ap scope.names asked.names ∙ hidden; entry = λ reads value. refl; part = same }))

  calm : IsIdle step.view.call.task
  calm = pool_idle step.view.call.task asked.pool.idle

  calm-after : IsIdle Last.call.task
  calm-after = pool_idle Last.call.task (given_task step.view.call.task asked.pool.idle)

  only-makes : OnlyMakes nodes later
  only-makes = record { stays = λ n stands. stands-else core step a asked n (inl stands); depth = λ n stands. refl; live = λ n live. stands-else core step a asked n (inr (live-stands (later.home n) live)) }

  locations : LocationsHold later After
  locations =
      LocationsHold-rehomed nodes later only-makes (sight location_scope After)
      (stays location_scope (LocationsHoldIn nodes) refl
      (λ i. record (seen_of location_scope p step.view) { call = (idle-places Last.call calm-after ∙ sym (idle-places step.view.call calm)) i; rebuild = same-update (option_map update_on_places) refl i })
      a.laws.locations)
      (λ i n k number l home low entry. inl (back (made number l) (λ e. absurd cc) (λ e. absurd cc) n home))

  cover : BodiesCovered later After
  cover =
      BodiesCovered-rehomed nodes later only-makes (sight cover_scope After)
      (stays cover_scope (BodiesCoveredIn nodes) refl
      (λ i. record (seen_of cover_scope p step.view) { call = call_at ((idle-cover Last.call.task calm-after ∙ sym (idle-cover step.view.call.task calm)) i); rebuild = same-update (option_map update_on_cover) refl i })
      a.laws.cover)

  readers : ReadersCounted later After
  readers =
      let h =
      stays reader_scope (ReadersCountedIn nodes) refl
      (λ i. record (seen_of reader_scope p step.view) { call = call_at ((idle-at_place Last.call.task calm-after ∙ sym (idle-at_place step.view.call.task calm)) i); rebuild = same-update (option_map update_on_readers) refl i })
      a.laws.readers
      in
      ReadersCounted-swap give_returned give_returned.leaves core step a nodes later only-makes h
      (record {
        walk = refl;
        task = refl;
        readers = refl;
        others = λ n number l apart e. back (made number l) (λ e. absurd cc) (λ e. absurd cc) n e;
        tight =
            if_some_map (option_map update_on_readers Last.rebuild) _ _
            (λ r tight planned n k l home. tight planned n k l (back (made p l) (λ e. absurd cc) (λ e. absurd cc) n home))
            (each-seat reader_scope (λ k v. refl) After (λ number v. IfSome v.rebuild (λ r. r.is_planned ≡ true → IsTight nodes (sight reader_scope After) number r)) h.tight step.seat p Last (view-step give_returned core step a.at) a.pass);
      })

  -- ---- all of it

  pub Invariants-given : Invariants After
  Invariants-given = record {
    nodes = later;
    locks = LocksAgree-other core step (lawful a) give_returned (ap lock_scope.names asked.names) refl;
    bodies =
        BodiesAgree-pool give_returned core step a (subst IsPoolWord (sym asked.names) tt) (λ value. refl) (pool_calls asked.pool.idle (given_task step.view.call.task asked.pool.idle))
        (same-batches (all_batches (sight body_scope core)) step.view.batches) (λ l t. (λ has. has, λ has. has));
    places = together After later pool owners trees;
    trees = TreesSound-given core step a asked;
    locations = locations;
    cover = cover;
    walks = stays walk_scope WalksLeadIn refl refl a.laws.walks;
    readers = readers;
  }

-- ---- kind 11, of a node of a merged tree

pub Invariants-give_returned : IsKept MayGiveReturned give_returned
Invariants-give_returned = kept MayGiveReturned give_returned (λ core step a asked. Invariants-given core step a asked)

pub GuardsHold-give_returned : IsGuarded MayGiveReturned give_returned
GuardsHold-give_returned = guarded MayGiveReturned give_returned (λ core step a asked. locked give_returned core step a (λ c. pool_lock c) asked.pool.lock PoolHead asked.names (λ view. (λ h. h, tt)))
