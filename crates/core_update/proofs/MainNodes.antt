-- Where nodes are once a main word is exchanged: those of the new tree are no longer the update's own, and stand under the word
-- in the arena that is not the old one.
use Rattle.std.proofs.Common.{◌≡◌, ◌≢◌, ◌↔◌, ℕ, ◌-◌, ◌<◌, List, ◌++◌, length, Bool, cond, Option, option_map, Some, None, IsSome, is_some, IsSomeAnd, true, false, refl, ap, sym, ◌∙◌, subst, inl, inr, arith}
use Rattle.std.specs.Prelude.{Contains, nat_lt, not, filter, IsNone, ◌==◌}
use Rattle.std.proofs.lemmas.Bool.{cases_eq, cases_lt, cases_Bool, lt-ltb, le-ltb, false≢true, ne_eqb}
use Rattle.std.proofs.lemmas.List.Elements.{Contains-append_left, Contains-append_right, Contains-append_cases}
use Rattle.word_map.specs.declared.config.Config.{Config}
use Rattle.word_map.specs.Names.{pool_lock}
use Rattle.word_map.specs.declared.name.Name.{Name}
use Rattle.word_map.specs.declared.name.Name.TheVariants.{Main, Slot, Update, Arena}
use Rattle.core_state.specs.declared.view.NewNode.{NewNode}
use Rattle.core_state.specs.declared.view.Rebuild.{Rebuild}
use Rattle.core_state.specs.declared.view.View.{View}
use Rattle.core_state.specs.Batches.{batch_nodes_of, is_in_nodes}
use Rattle.core_state.specs.Core.{Core, word_of}
use Rattle.core_state.specs.declared.view.Mode.TheVariants.{Write}
use Rattle.core_state.specs.View.{Holds}
use Rattle.core_state.specs.Kind.{Step, found_by, after_step}
use Rattle.core_state.specs.Encoding.{IsInArena}
use Rattle.core_state.specs.Exchanging.{MayExchange, exchange_main, nodes_made, with_exchange}
use Rattle.core_state.specs.Nodes.{Nodes, Home, free, spare, made, under, superseded, returning, IsOwnedBy, nodes_of, nodes_in}
use Rattle.core_state.specs.NodesInOnePlace.{NodesInOnePlace, node_scope, NamesArena, IsOfReplaced}
use Rattle.core_state.specs.Parts.{update_on_nodes, task_on_pool}
use Rattle.core_state.specs.Scope.{Sight, sight, HasPass, EachPass, IsOnce}
use Rattle.core_state.specs.Updates.{HasUpdate, IsMadeIn, arena_of}
use Rattle.core_state.proofs.Beginning.{contains_filter}
use Rattle.core_state.proofs.Steps.{word-step-other, view-step}
use Rattle.core_batch.proofs.Attached.{in_nodes-there, there-in_nodes}
use Rattle.core_batch.proofs.Lists.{filter_from, part-refl, part-append, part-filter, part-pairs}
use Rattle.core_guard.proofs.Leaving.{Acts, After, Last, lawful, other-number, if_some_map}
use Rattle.core_guard.proofs.NodesLeft.{OwnerPart, TreePart, together, pool-stays, unseen-pool, seen-nodes}
use Rattle.core_guard.proofs.Owners.{nodes_split, owned-by, batch-below, same-view}
use Rattle.core_guard.proofs.Seats.{seen_of, seat_seen, has-seat, seat-has, each-step, has-step, has-unstep, each-seats}
use Rattle.core_guard.proofs.Touched.{IsKept, kept as kept_by}
use Rattle.core_update.proofs.ArenaOf.{arena-is}
use Rattle.core_update.proofs.MainExchanges.{q, last, main-layer, longer as swapped-longer, made-home, home-made, publishes}
use Rattle.core_update.proofs.OwnUpdate.{each-own, has-own, holds-own, own-each, own-has, has-after, only-own, only-after, after-each}
use Rattle.core_update.proofs.Publishing.{homes_after}
use Rattle.core_update.proofs.PublishKeeps.{Invariants-published}
use Rattle.core_update.proofs.Turning.{turn, turns, Turns, kept, taken, shown, other-back, other-forth, under-back, superseded-back, made-back, made-forth}

some-is : {X : Type 0} (o : Option X) → IsSome o → (x : X) × (o ≡ Some x)
some-is None h = absurd (false≢true h)
some-is (Some x) h = (x, refl)

-- which tree a node was in is a matter of the arena alone
replaced-same : (c : Config) (one two : Rebuild) (name : Name) (n : ℕ) → two.arena ≡ one.arena → IsOfReplaced c one name n → IsOfReplaced c two name n
replaced-same c one two (Slot l t) n same h = h
replaced-same c one two (Main l) n same h = subst (λ (o : Option ℕ). IsSomeAnd o (λ old. IsInArena c old n)) (sym same) h
replaced-same c one two _ n same h = absurd h

module _ (core : Core) (step : Step) (a : Acts core step) (asked : MayExchange step.view step.name step.first step.second) where
  abbrev nodes : Nodes
  nodes = a.laws.nodes

  abbrev r : Rebuild
  r = asked.r

  abbrev after : Rebuild
  after = with_exchange asked.layer (found_by core step) r

  abbrev later : Nodes
  later = homes_after exchange_main core step a r (q core step a asked)

  abbrev x : Name
  x = step.name

  abbrev me : ℕ
  me = step.number

  abbrev Old : Sight
  Old = sight node_scope core

  abbrev New : Sight
  New = sight node_scope (After exchange_main core step)

  rebuild : (Last exchange_main core step).rebuild ≡ Some after
  rebuild = ap (λ (v : View). v.rebuild) (last core step a asked)

  -- ---- homes

  forth : (n : ℕ) (target : Home) → ((name : Name) → target ≢ under name) → ((m l : ℕ) → target ≢ made m l) → nodes.home n ≡ target → later.home n ≡ target
  forth n target = other-forth me x (nodes.home n) target

  back : (n : ℕ) (target : Home) → ((name : Name) → target ≢ under name) → ((m : ℕ) (name : Name) → target ≢ superseded m name) → later.home n ≡ target → nodes.home n ≡ target
  back n target = other-back me x (nodes.home n) target

  same-word : (name : Name) → ((l : ℕ) → Main l ≢ name) → word_of (After exchange_main core step) name ≡ word_of core name
  same-word name apart = word-step-other exchange_main core step name (λ e. apart asked.layer (sym (e ∙ asked.names)))

  layer-name : Main asked.layer ≡ x
  layer-name = sym asked.names

  -- ---- the own nodes

  abbrev batch_nodes : List ℕ
  batch_nodes = batch_nodes_of step.view

  abbrev gone : List ℕ
  gone = nodes_made r asked.layer

  had : nodes_of step.view ≡ batch_nodes ++ r.nodes
  had = nodes_split step.view ∙ ap (λ (o : Option Rebuild). batch_nodes ++ nodes_in o) asked.update

  has : nodes_of (Last exchange_main core step) ≡ batch_nodes ++ after.nodes
  has = nodes_split (Last exchange_main core step) ∙ (ap (λ (v : View). batch_nodes_of v ++ nodes_in v.rebuild) (last core step a asked))

  -- a node of the batches is in no new tree
  batch-unmade : (n l : ℕ) → Contains batch_nodes n → nodes.home n ≢ made me l
  batch-unmade n l among home =
      let low = batch-below core nodes a.laws.places step.seat step.number step.view a.at a.pass n among in
      let high = a.laws.places.made_trees n me l home in
      absurd (omega arith)

  was-among : (n : ℕ) → IsOwnedBy me (nodes.home n) → Contains (batch_nodes ++ r.nodes) n
  was-among n owns =
      let from = has-seat node_scope (λ k v. refl) core me (λ v. Contains (nodes_of v) n) ((a.laws.places.owned n me).0 owns) in
      let one : from.view ≡ step.view = same-view core a.formed from.seat step.seat me from.view step.view from.at a.at from.pass a.pass in
      subst (λ (l : List ℕ). Contains l n) had (subst (λ (v : View). Contains (nodes_of v) n) one (subst (λ (l : List ℕ). Contains l n) (seen-nodes me from.view) from.holds))

  among-owned : (n : ℕ) → Contains (batch_nodes ++ r.nodes) n → IsOwnedBy me (nodes.home n)
  among-owned n among = owned-by core nodes a.laws.places step.seat step.number step.view a.at a.pass n (subst (λ (l : List ℕ). Contains l n) (sym had) among)

  -- a node of the new tree is one of those of the update
  in-nodes : (n l : ℕ) → nodes.home n ≡ made me l → Contains r.nodes n
  in-nodes n l home =
      elim (Contains-append_cases batch_nodes r.nodes n (was-among n (subst (IsOwnedBy me) (sym home) refl))) [
        | inl batch ↦ absurd (batch-unmade n l batch home)
        | inr own ↦ own
      ]

  -- those that stay are those that are not in the tree
  left-node : (n : ℕ) → Contains r.nodes n → ¬ Contains gone n → Contains after.nodes n
  left-node n among apart =
      contains_filter (λ (m : ℕ). not (is_in_nodes gone (Some m))) r.nodes n among
      (elim (cases_Bool (is_in_nodes gone (Some n))) [
        | inl test ↦ absurd (apart (in_nodes-there gone n test))
        | inr test ↦ ap not test
      ])

  node-left : (n : ℕ) → Contains after.nodes n → Contains r.nodes n × ¬ Contains gone n
  node-left n among =
      let t = filter_from (λ (m : ℕ). not (is_in_nodes gone (Some m))) r.nodes n among in
      (t.0, λ inside. false≢true (ap not (sym (there-in_nodes gone n inside)) ∙ t.1))

  -- what the pass has is what it owns
  owns-has : (n : ℕ) → IsOwnedBy me (later.home n) → Contains (nodes_of (Last exchange_main core step)) n
  owns-has n owns =
      let was = owned-before (nodes.home n) refl owns in
      subst (λ (l : List ℕ). Contains l n) (sym has)
      (elim (Contains-append_cases batch_nodes r.nodes n (was-among n was)) [
        | inl batch ↦ Contains-append_left batch_nodes after.nodes n batch
        | inr own ↦
            Contains-append_right batch_nodes after.nodes n
            (left-node n own (λ inside. unowned (subst (λ (home : Home). IsOwnedBy me (turn me x home)) (made-home core step a asked n inside) owns)))
      ])
    where
      owned-before : (home : Home) → nodes.home n ≡ home → IsOwnedBy me (turn me x (nodes.home n)) → IsOwnedBy me (nodes.home n)
      owned-before home e owns = go (turn me x (nodes.home n)) (turns me x (nodes.home n)) owns
        where
          go : (then : Home) → Turns me x (nodes.home n) then → IsOwnedBy me then → IsOwnedBy me (nodes.home n)
          go then (kept other unmade) owns = owns
          go then (taken is) owns = absurd owns
          go then (shown l is e) owns = absurd owns

      unowned : ¬ IsOwnedBy me (turn me x (made me asked.layer))
      unowned owns = go (turn me x (made me asked.layer)) (turns me x (made me asked.layer)) owns
        where
          go : (then : Home) → Turns me x (made me asked.layer) then → ¬ IsOwnedBy me then
          go then (kept other unmade) owns = unmade asked.layer layer-name refl
          go then (taken is) owns = owns
          go then (shown l is e) owns = owns

  has-owns : (n : ℕ) → Contains (nodes_of (Last exchange_main core step)) n → IsOwnedBy me (later.home n)
  has-owns n among =
      elim (Contains-append_cases batch_nodes after.nodes n (subst (λ (l : List ℕ). Contains l n) has among)) [
        | inl batch ↦ owned-later (among-owned n (Contains-append_left batch_nodes r.nodes n batch)) (λ home. batch-unmade n asked.layer batch home)
        | inr own ↦
            let t = node-left n own in
            owned-later (among-owned n (Contains-append_right batch_nodes r.nodes n t.0)) (λ home. t.1 (home-made core step a asked n home))
      ]
    where
      owned-later : IsOwnedBy me (nodes.home n) → nodes.home n ≢ made me asked.layer → IsOwnedBy me (later.home n)
      owned-later owns apart = go (turn me x (nodes.home n)) (turns me x (nodes.home n))
        where
          go : (then : Home) → Turns me x (nodes.home n) then → IsOwnedBy me then
          go then (kept other unmade) = owns
          go then (taken is) = absurd (subst (IsOwnedBy me) is owns)
          go then (shown l is e) = absurd (apart (e ∙ ap (made me) (main-layer core step a asked l is)))

  -- of another pass nothing changes
  other-owned : (number : ℕ) → number ≢ me → (n : ℕ) → IsOwnedBy number (later.home n) ↔ IsOwnedBy number (nodes.home n)
  other-owned number other n = go (turn me x (nodes.home n)) (turns me x (nodes.home n))
    where
      go : (then : Home) → Turns me x (nodes.home n) then → IsOwnedBy number then ↔ IsOwnedBy number (nodes.home n)
      go then (kept apart unmade) = (λ h. h, λ h. h)
      go then (taken is) = (λ h. absurd h, λ h. absurd (subst (IsOwnedBy number) is h))
      go then (shown l is e) = (λ h. absurd h, λ h. absurd (other (sym (subst (IsOwnedBy number) e h))))

  owners : OwnerPart later New
  owners = record {
    owned = λ n number.
        elim (cases_eq number me) [
          | inl same ↦ subst (λ (p : ℕ). IsOwnedBy p (later.home n) ↔ HasPass New p (λ view. Contains (nodes_of view) n)) (sym same) (
            λ owns. seat-has node_scope (λ k v. refl) (After exchange_main core step) me (λ v. Contains (nodes_of v) n)
                (record {
                  seat = step.seat;
                  view = Last exchange_main core step;
                  at = view-step exchange_main core step a.at;
                  pass = a.pass;
                  holds = subst (λ (l : List ℕ). Contains l n) (sym (seen-nodes me (Last exchange_main core step))) (owns-has n owns);
                }),
            λ has. has-owns n (own-nodes n has),
          )
          | inr other ↦ (
            λ owns. has-step node_scope (λ k v. refl) exchange_main core step a.at a.pass number (λ v. Contains (nodes_of v) n) (λ v. Contains (nodes_of v) n)
                ((a.laws.places.owned n number).0 ((other-owned number other n).0 owns)) (λ seat view apart found own h. h) (λ same h. absurd (other (sym same))),
            λ has. (other-owned number other n).1
                ((a.laws.places.owned n number).1
                (has-unstep node_scope (λ k v. refl) exchange_main core step a.at a.pass number (λ v. Contains (nodes_of v) n) (λ v. Contains (nodes_of v) n) has (λ seat view apart found own h. h)
                (λ same h. absurd (other (sym same))))),
          )
        ];
    owned_once = each-step node_scope (λ k v. refl) exchange_main core step a.at a.pass (λ number view. IsOnce (nodes_of view)) (λ number view. IsOnce (nodes_of view)) a.laws.places.owned_once
        (λ seat number view apart found own once. once)
        (λ once.
        subst IsOnce (sym (seen-nodes me (Last exchange_main core step) ∙ has))
        (part-pairs (λ m n. m ≢ n) (batch_nodes ++ after.nodes) (batch_nodes ++ r.nodes)
        (part-append batch_nodes batch_nodes after.nodes r.nodes (part-refl batch_nodes) (part-filter (λ (m : ℕ). not (is_in_nodes gone (Some m))) r.nodes)) (subst IsOnce (seen-nodes me step.view ∙ had) once)));
    below = each-step node_scope (λ k v. refl) exchange_main core step a.at a.pass (λ number view. (n : ℕ) → Contains (batch_nodes_of view) n → n < core.config.nodes)
        (λ number view. (n : ℕ) → Contains (batch_nodes_of view) n → n < core.config.nodes) below-before (λ seat number view apart found own old. old)
        (λ old n among. old n (subst (λ (v : View). Contains (batch_nodes_of v) n) (last core step a asked) among));
  }
    where
      own-nodes : (n : ℕ) → HasPass New me (λ view. Contains (nodes_of view) n) → Contains (nodes_of (Last exchange_main core step)) n
      own-nodes n h =
          (has-unstep node_scope (λ k v. refl) exchange_main core step a.at a.pass me (λ v. Contains (nodes_of (Last exchange_main core step)) n) (λ v. Contains (nodes_of v) n) h
          (λ seat view apart found own t. absurd (other-number core step a seat me view apart found own refl))
          (λ same t. subst (λ (l : List ℕ). Contains l n) (seen-nodes me (Last exchange_main core step)) t)).3

      below-before : EachPass Old (λ number view. (n : ℕ) → Contains (batch_nodes_of view) n → n < core.config.nodes)
      below-before =
          each-seats node_scope (λ k v. refl) core (λ number view. (n : ℕ) → Contains (batch_nodes_of view) n → n < core.config.nodes)
          (λ seat number view at pass n among. batch-below core nodes a.laws.places seat number view at pass n among)

  -- ---- arenas

  -- the number of the arena that the update loaded
  loaded : (old : ℕ) × (r.arena ≡ Some old)
  loaded = some-is r.arena asked.arena

  arena-before : (named l : ℕ) → arena_of Old named l ≡ cond (nat_lt l (length r.swapped)) (1 - loaded.0) loaded.0
  arena-before named l =
      arena-is Old l named loaded.0 (update_on_nodes r) (seen_of node_scope me step.view) (seat_seen node_scope core step.seat me step.view a.at a.pass) (ap (option_map update_on_nodes) asked.update) loaded.1
      (only-own exchange_main core step a r asked.update node_scope (λ k v. refl) update_on_nodes (λ bare v. refl))

  arena-now : (named l : ℕ) → arena_of New named l ≡ cond (nat_lt l (length after.swapped)) (1 - loaded.0) loaded.0
  arena-now named l =
      arena-is New l named loaded.0 (update_on_nodes after) (seen_of node_scope me (Last exchange_main core step))
      (seat_seen node_scope (After exchange_main core step) step.seat me (Last exchange_main core step) (view-step exchange_main core step a.at) a.pass) (ap (option_map update_on_nodes) rebuild) loaded.1
      (only-after exchange_main core step a r asked.update node_scope (λ k v. refl) update_on_nodes (λ bare v. refl) after rebuild)

  -- it is another one for this layer alone
  arena-kept : (named other l : ℕ) → Main l ≢ x → arena_of New named l ≡ arena_of Old other l
  arena-kept named other l apart = arena-now named l ∙ (ap (λ (t : Bool). cond t (1 - loaded.0) loaded.0) test ∙ sym (arena-before other l))
    where
      test : nat_lt l (length after.swapped) ≡ nat_lt l (length r.swapped)
      test =
          let more = swapped-longer core step a asked in
          elim (cases_lt l (length r.swapped)) [
            | inl below ↦ lt-ltb l (length after.swapped) (omega arith) ∙ sym (lt-ltb l (length r.swapped) below)
            | inr above ↦
                let not-it : l ≢ length r.swapped = λ same. apart (ap Main (same ∙ sym asked.next) ∙ layer-name) in
                le-ltb l (length after.swapped) (omega arith) ∙ sym (le-ltb l (length r.swapped) above)
          ]

  arena-other : (named : ℕ) → arena_of New named asked.layer ≡ 1 - loaded.0
  arena-other named =
      let more = swapped-longer core step a asked in
      let next = asked.next in
      arena-now named asked.layer ∙ ap (λ (t : Bool). cond t (1 - loaded.0) loaded.0) (lt-ltb asked.layer (length after.swapped) (omega arith))

  arena-old : (named : ℕ) → arena_of Old named asked.layer ≡ loaded.0
  arena-old named = let next = asked.next in arena-before named asked.layer ∙ ap (λ (t : Bool). cond t (1 - loaded.0) loaded.0) (le-ltb asked.layer (length r.swapped) (omega arith))

  -- the new tree is in the arena of the update's nodes
  new-arena : (n : ℕ) → Contains r.nodes n → IsInArena core.config (1 - loaded.0) n
  new-arena n among =
      subst (λ (o : Option ℕ). IsSomeAnd o (λ old. IsInArena core.config (1 - old) n)) loaded.1
      (each-own exchange_main core step a r asked.update node_scope (λ k v. refl) update_on_nodes (λ bare v. refl)
      (λ number view y. (m : ℕ) → Contains y.nodes m → IsSomeAnd y.arena (λ old. IsInArena core.config (1 - old) m)) a.laws.places.in_arena n among)

  -- ---- trees

  before : (number : ℕ) (P : Rebuild → Type 0) → HasPass Old number (λ v. HasUpdate v P) → (me ≡ number) × P (update_on_nodes r)
  before = has-own exchange_main core step a r asked.update node_scope (λ k v. refl) update_on_nodes (λ bare v. refl)

  now-has : (number : ℕ) (P : Rebuild → Type 0) → me ≡ number → P (update_on_nodes after) → HasPass New number (λ v. HasUpdate v P)
  now-has number P same h = subst (λ (p : ℕ). HasPass New p (λ v. HasUpdate v P)) same (own-has exchange_main core step a r asked.update node_scope (λ k v. refl) update_on_nodes (λ bare v. refl) after rebuild P h)

  -- a node of a new tree that is not published is one of a later layer
  made-forth-in : (n l : ℕ) → later.home n ≡ made me l → IsMadeIn core.config r l n → IsMadeIn core.config after l n
  made-forth-in n l home h =
      let more = swapped-longer core step a asked in
      let apart : l ≢ asked.layer = λ same. not-shown n l home (ap Main same ∙ layer-name) in
      let next = asked.next in
      let above = h.1 in
      let planned = h.0 in (
        h.0,
        omega arith,
        h.2,
        subst (λ (t : Bool). Contains (cond t (filter (λ m. not (m.layer == asked.layer)) r.made) r.made) (record { layer = l; node = n })) (sym planned)
            (contains_filter (λ (m : NewNode). not (m.layer == asked.layer)) r.made (record { layer = l; node = n }) h.3 (ap not (ne_eqb l asked.layer apart))),
      )
    where
      not-shown : (n l : ℕ) → later.home n ≡ made me l → Main l ≢ x
      not-shown n l home one = go (turn me x (nodes.home n)) (turns me x (nodes.home n)) home
        where
          go : (then : Home) → Turns me x (nodes.home n) then → then ≢ made me l
          go then (kept other unmade) e = unmade l one e
          go then (taken is) e = absurd cc
          go then (shown m is f) e = absurd cc

  made-back-in : (n l : ℕ) → IsMadeIn core.config after l n → IsMadeIn core.config r l n × (Main l ≢ x)
  made-back-in n l h =
      let more = swapped-longer core step a asked in
      let next = asked.next in
      let above = h.1 in
      let planned : r.is_planned ≡ true = h.0 in
      let among = subst (λ (t : Bool). Contains (cond t (filter (λ m. not (m.layer == asked.layer)) r.made) r.made) (record { layer = l; node = n })) planned h.3 in (
        (planned, omega arith, h.2, (filter_from (λ (m : NewNode). not (m.layer == asked.layer)) r.made (record { layer = l; node = n }) among).0),
        λ one. let same = main-layer core step a asked l one in absurd (omega arith),
      )

  trees : TreePart later New
  trees =
      let h = a.laws.places in
      record {
        in_use = λ n above. forth n spare (λ name e. absurd cc) (λ m l e. absurd cc) (h.in_use n above);
        arenas = λ n below e. h.arenas n below (back n spare (λ name e. absurd cc) (λ m name e. absurd cc) e);
        slot_trees = λ n l t e.
            elim (under-back me x (nodes.home n) (Slot l t) e) [
              | inl was ↦ h.slot_trees n l t was.0
              | inr new ↦ absurd (slot-main l t new.1.0 (new.0 ∙ sym new.1.1))
            ];
        main_trees = λ n l e.
            elim (under-back me x (nodes.home n) (Main l) e) [
              | inl was ↦ subst (λ (arena : ℕ). IsInArena core.config arena n) (sym (arena-kept (New.word Arena) (Old.word Arena) l was.1)) (h.main_trees n l was.0)
              | inr new ↦
                  subst (λ (m : ℕ). IsInArena core.config (arena_of New (New.word Arena) m) n) (sym (main-layer core step a asked l new.0))
                  (subst (λ (arena : ℕ). IsInArena core.config arena n) (sym (arena-other (New.word Arena))) (new-arena n (in-nodes n new.1.0 new.1.2)))
            ];
        made_trees = λ n number l e. h.made_trees n number l (made-back me x (nodes.home n) number l e);
        made_by = λ n number l. (
          λ e.
              let t = before number (λ y. IsMadeIn core.config y l n) ((h.made_by n number l).0 (made-back me x (nodes.home n) number l e)) in
              now-has number (λ y. IsMadeIn core.config y l n) t.0 (made-forth-in n l (e ∙ ap (λ (p : ℕ). made p l) (sym t.0)) t.1),
          λ has.
              let t = has-after exchange_main core step a r asked.update node_scope (λ k v. refl) update_on_nodes (λ bare v. refl) after rebuild number (λ y. IsMadeIn core.config y l n) has in
              let u = made-back-in n l t.1 in
              made-forth me x (nodes.home n) number l (λ both. u.1 both.1)
              ((h.made_by n number l).1
              (subst (λ (p : ℕ). HasPass Old p (λ v. HasUpdate v (λ y. IsMadeIn core.config y l n))) t.0
              (holds-own exchange_main core step a r asked.update node_scope (λ k v. refl) update_on_nodes (λ bare v. refl) (λ y. IsMadeIn core.config y l n) u.0))),
        );
        in_arena =
            own-each exchange_main core step a r asked.update node_scope (λ k v. refl) update_on_nodes (λ bare v. refl) after rebuild
            (λ number view y. (n : ℕ) → Contains y.nodes n → IsSomeAnd y.arena (λ old. IsInArena core.config (1 - old) n))
            (λ n among. subst (λ (o : Option ℕ). IsSomeAnd o (λ old. IsInArena core.config (1 - old) n)) (sym loaded.1) (new-arena n (node-left n among).0));
        update = λ number. (
          λ e. has-step node_scope (λ k v. refl) exchange_main core step a.at a.pass number (λ v. IsSome v.rebuild) (λ v. IsSome v.rebuild)
              ((h.update number).0 (sym (same-word Update (λ l e. absurd cc)) ∙ e)) (λ seat view apart found own some. some) (λ same some. ap is_some (ap (option_map update_on_nodes) rebuild)),
          λ has. same-word Update (λ l e. absurd cc) ∙
              (h.update number).1
              (has-unstep node_scope (λ k v. refl) exchange_main core step a.at a.pass number (λ v. IsSome v.rebuild) (λ v. IsSome v.rebuild) has (λ seat view apart found own some. some)
              (λ same some. ap is_some (ap (option_map update_on_nodes) asked.update))),
        );
        superseded_by = λ n number name e.
            let P = λ (name : Name) (y : Rebuild). (y.is_reclaimed ≡ false) × IsOfReplaced core.config y name n in
            elim (superseded-back me x (nodes.home n) number name e) [
              | inl was ↦
                  let t = before number (P name) (h.superseded_by n number name was) in
                  now-has number (P name) t.0 (t.1.0, replaced-same core.config (update_on_nodes r) (update_on_nodes after) name n refl t.1.1)
              | inr new ↦
                  let there = subst (λ (arena : ℕ). IsInArena core.config arena n) (arena-old (Old.word Arena)) (h.main_trees n asked.layer (new.2 ∙ ap under asked.names)) in
                  now-has number (P name) (sym new.0) (
                    asked.unreclaimed,
                    subst (λ (name : Name). IsOfReplaced core.config (update_on_nodes after) name n) (sym (new.1 ∙ asked.names))
                        (subst (λ (o : Option ℕ). IsSomeAnd o (λ old. IsInArena core.config old n)) (sym loaded.1) there),
                  )
            ];
        returning_by = λ n number e.
            let was = h.returning_by n number (back n (returning number) (λ name e. absurd cc) (λ m name e. absurd cc) e) in
            let t = before number (λ y. y.is_reclaimed ≡ true) was.1 in
            (was.0, now-has number (λ y. y.is_reclaimed ≡ true) t.0 t.1);
        arena = subst (λ (m : ℕ). m < 2) (sym (same-word Arena (λ l e. absurd cc))) h.arena;
        named =
            own-each exchange_main core step a r asked.update node_scope (λ k v. refl) update_on_nodes (λ bare v. refl) after rebuild (λ number view y. NamesArena New y)
            (if_some_map r.arena _ _ (λ old t. (t.0, same-word Arena (λ l e. absurd cc) ∙ t.1))
            (each-own exchange_main core step a r asked.update node_scope (λ k v. refl) update_on_nodes (λ bare v. refl) (λ number view y. NamesArena Old y) h.named));
        idle = λ unread n inside.
            let none = after-each exchange_main core step a r asked.update node_scope (λ k v. refl) update_on_nodes (λ bare v. refl) after rebuild (λ number view y. IsNone y.arena) unread in
            absurd (some-none loaded.0 (subst (λ (o : Option ℕ). IsNone o) loaded.1 none));
      }
    where
      slot-main : (l t m : ℕ) → Slot l t ≢ Main m
      slot-main l t m e = absurd cc

      some-none : (old : ℕ) → ¬ IsNone (Some old)
      some-none old e = absurd cc

  placed : NodesInOnePlace later (after_step exchange_main core step)
  placed =
      together (after_step exchange_main core step) later
      (pool-stays exchange_main core step (lawful a) later
      (λ n. (forth n free (λ name e. absurd cc) (λ m l e. absurd cc), back n free (λ name e. absurd cc) (λ m name e. absurd cc)))
      (unseen-pool exchange_main core step (ap node_scope.names asked.names) (ap (λ (v : View). task_on_pool v.call.task) (last core step a asked))
      (λ pooling holds. subst (λ (v : View). Holds v (pool_lock core.config) Write) (sym (last core step a asked)) holds)))
      owners trees

-- ---- kind 47

pub Invariants-exchange_main : IsKept MayExchange exchange_main
Invariants-exchange_main =
    kept_by MayExchange exchange_main
    (λ core step a asked. Invariants-published exchange_main core step a asked.r (q core step a asked) (publishes core step a asked) (placed core step a asked))
