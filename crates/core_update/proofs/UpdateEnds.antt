-- Ending an update keeps all laws: no body has a second location and no node is superseded or to be given back any more, and the
-- nodes that it did not use are spare.
use Rattle.std.proofs.Common.{Bool, Contains, List, None, Option, Some, [], ap, arith, cond, false, inl, inr, length, refl, set, subst, suc, sym, zero, ℕ, ◌++◌, ◌-◌, ◌<◌, ◌∙◌, ◌∷◌, ◌≡◌, ◌≢◌, ◌≤◌, ◌⊎◌}
use Rattle.std.proofs.lemmas.Bool.{cases_eq, lt-ltb, true≢false}
use Rattle.std.proofs.lemmas.List.{append-nil}
use Rattle.std.proofs.lemmas.List.Elements.{Contains-append_cases, Contains-append_left, Contains-append_right}
use Rattle.std.specs.List.{cons_option}
use Rattle.std.specs.Prelude.{IfSome, IsSomeAnd, filter_map, not, option_map, ⊤}
use Rattle.word_map.specs.declared.name.Name.{Name}
use Rattle.word_map.specs.declared.name.Name.TheVariants.{Arena, LocB, Main, Slot, Update}
use Rattle.core_state.specs.Batches.{batch_nodes_of, is_in_nodes, written_outside}
use Rattle.core_state.specs.BodiesAgree.{BodiesAgreeIn, body_scope}
use Rattle.core_state.specs.BodiesCovered.{BodiesCovered, cover_scope}
use Rattle.core_state.specs.Core.{Core, IsViewAt, word_of}
use Rattle.core_state.specs.Encoding.{IsInArena, NamesRoot}
use Rattle.core_state.specs.Guards.{KeepsGuards}
use Rattle.core_state.specs.Invariants.{Invariants}
use Rattle.core_state.specs.Kind.{Kind, Step, after_step, view_after}
use Rattle.core_state.specs.LocationsHold.{LocationsHold, location_scope}
use Rattle.core_state.specs.LocksAgree.{LocksAgreeIn, lock_scope}
use Rattle.core_state.specs.Nodes.{spare, free, superseded, Home, IsInTree, IsOwnedBy, Nodes, Stands, made, node_in, nodes_in, nodes_of, owned, returning, under}
use Rattle.core_state.specs.Operation.{store}
use Rattle.core_state.specs.NodesInOnePlace.{IsOfReplaced, NamesArena, NodesInOnePlace, NodesInOnePlaceIn, node_scope}
use Rattle.core_state.specs.Parts.{call_by_task, call_on_places, update_on_cover, update_on_nodes, update_on_places, update_on_readers, update_on_trees}
use Rattle.core_state.specs.ReadersCounted.{ReadersCounted, reader_scope}
use Rattle.core_state.specs.Retiring.{MayEndUpdate, end_update}
use Rattle.core_state.specs.Scope.{IsOnce, Scope, Sight, part_of, sight}
use Rattle.core_state.specs.TreesSound.{TreesSound, tree_scope}
use Rattle.core_state.specs.Updates.{EachUpdate, HasUpdate, IsPlacing, arena_after, arena_of}
use Rattle.core_state.specs.View.{IsPass}
use Rattle.core_state.specs.WalksLead.{WalksLeadIn, walk_scope}
use Rattle.core_state.specs.declared.item.Store.{Store}
use Rattle.core_state.specs.declared.view.Rebuild.{Rebuild}
use Rattle.core_state.specs.declared.view.Task.{Task}
use Rattle.core_state.specs.declared.view.View.{View}
use Rattle.core_state.proofs.Frames.{frame}
use Rattle.core_state.proofs.Lookups.{at_one}
use Rattle.core_state.proofs.Steps.{word-step, word-step-other}
use Rattle.core_guard.proofs.CoverLeft.{BodiesCovered-touches}
use Rattle.core_guard.proofs.Holders.{IsGuarded, guarded, keeps}
use Rattle.core_guard.proofs.Leaving.{Acts, Touches, lawful}
use Rattle.core_guard.proofs.NodesLeft.{pool-stays, seen-nodes, together}
use Rattle.core_guard.proofs.Owners.{batch-below, nodes_split, owned-by}
use Rattle.core_guard.proofs.PlacesLeft.{LocationsHold-touches}
use Rattle.core_guard.proofs.ReadersLeft.{ReadersCounted-touches}
use Rattle.core_guard.proofs.Seats.{each-seat, has-seat, seen_of}
use Rattle.core_guard.proofs.Touched.{IsKept, kept}
use Rattle.core_guard.proofs.TreesLeft.{TreesSound-touches}
use Rattle.core_batch.proofs.Attached.{there-in_nodes}
use Rattle.core_batch.proofs.Lists.{filter_from, pairs-across, pairs-left}
use Rattle.core_batch.proofs.NodesStep.{OwnsAfter, owner-part}
use Rattle.core_batch.proofs.Owning.{owned_home, owner-has}
use Rattle.core_update.proofs.AtEnd.{all-layers, end-quiet}
use Rattle.core_update.proofs.AtRest.{IsQuietUpdate, no-second, none-made, none-returning, quiet-alone}
use Rattle.core_update.proofs.Between.{between}
use Rattle.core_update.proofs.NamedTrees.{main-layer, named-tree}
use Rattle.core_update.proofs.OneArena.{arena-of-one, arena-said}
use Rattle.core_update.proofs.OtherUpdate.{BodiesCovered-next, LocationsHold-next, ReadersCounted-next, TreesSound-next}
use Rattle.core_update.proofs.Ranges.{apart-arenas}
use Rattle.core_update.proofs.Rebuilt.{IsAlone, Rebuilds, unseen}
use Rattle.core_update.proofs.Rehomed.{home-after, home-out, homes-else, moved_home, rehomed, same_home, touches-rehomed}
use Rattle.core_update.proofs.UpdateNodes.{UpdateHolds, leaves-pool, tree-next}
use Rattle.core_update.proofs.Updating.{others-update-none, own-says}

-- what is kept of a list of which an element is changed, where it is kept as another would be
set-same : {X Y : Type 0} (f : X → Option Y) (xs : List X) (i : ℕ) (x y : X) → f x ≡ f y → filter_map f (set xs i x) ≡ filter_map f (set xs i y)
set-same f [] i x y same = refl
set-same {Y = Y} f (z ∷ xs) zero x y same = ap (λ (o : Option Y). cons_option o (filter_map f xs)) same
set-same {Y = Y} f (z ∷ xs) (suc i) x y same = ap (λ (l : List Y). cons_option (f z) l) (set-same f xs i x y same)

module _ (core : Core) (step : Step) (a : Acts core step) (asked : MayEndUpdate step.view step.name step.first step.second) where
  abbrev kind : Kind
  kind = end_update

  abbrev After : Core
  After = after_step kind core step

  abbrev p : ℕ
  p = step.number

  abbrev r : Rebuild
  r = asked.r

  abbrev old : ℕ
  old = asked.old

  abbrev list : List ℕ
  list = r.nodes

  abbrev nodes : Nodes
  nodes = a.laws.nodes

  abbrev later : Nodes
  later = rehomed nodes list spare

  has : step.view.rebuild ≡ Some r
  has = asked.ends.update

  alone : IsAlone core step
  alone = others-update-none core a.laws a.formed step a.at a.pass r has

  quiet-now : (seat number : ℕ) (view : View) → IsViewAt core seat view → IsPass view number → IfSome view.rebuild (IsQuietUpdate core.config)
  quiet-now = quiet-alone core step a.at alone (subst (λ (o : Option Rebuild). IfSome o (IsQuietUpdate core.config)) (sym has) (end-quiet core step a r old asked.ends))

  own-nodes : (P : ℕ → View → Rebuild → Type 0) → EachUpdate (sight node_scope core) P → P p (seen_of node_scope p step.view) (update_on_nodes r)
  own-nodes = own-says node_scope (λ k v. refl) update_on_nodes (λ k v. refl) core step.seat p step.view r a.at a.pass has

  -- the word is the arena that it switched to
  arena-is : (old < 2) × (word_of core Arena ≡ 1 - old)
  arena-is =
      subst (λ (t : Bool). (old < 2) × (word_of core Arena ≡ cond t (1 - old) old)) asked.switched
      (subst (λ (o : Option ℕ). IfSome o (λ x. (x < 2) × (word_of core Arena ≡ cond r.is_switched (1 - x) x))) asked.ends.arena (own-nodes (λ k v q. NamesArena (sight node_scope core) q) a.laws.places.named))

  not-superseded : (n number : ℕ) (name : Name) → nodes.home n ≢ superseded number name
  not-superseded n number name home =
      let from = has-seat node_scope (λ k v. refl) core number (λ v. HasUpdate v (λ q. (q.is_reclaimed ≡ false) × IsOfReplaced core.config q name n)) (a.laws.places.superseded_by n number name home) in
      elim (cases_eq from.seat step.seat) [
        | inl same ↦
            let one : step.view ≡ from.view = at_one core.views step.seat step.view from.view a.at (subst (λ (k : ℕ). IsViewAt core k from.view) same from.at) in
            true≢false
            (sym asked.ends.reclaimed
            ∙ (subst (λ (o : Option Rebuild). IsSomeAnd (option_map update_on_nodes o) (λ q. (q.is_reclaimed ≡ false) × IsOfReplaced core.config q name n)) (ap (λ (v : View). v.rebuild) (sym one) ∙ has) from.holds).0)
        | inr apart ↦
            subst (λ (o : Option Rebuild). IsSomeAnd (option_map update_on_nodes o) (λ q. (q.is_reclaimed ≡ false) × IsOfReplaced core.config q name n)) (alone from.seat number from.view apart from.at from.pass) from.holds
      ]

  -- ---- the nodes that it did not use

  abbrev behind : List ℕ
  behind = batch_nodes_of step.view

  nodes-before : nodes_of step.view ≡ behind ++ list
  nodes-before = nodes_split step.view ∙ ap (λ (o : Option Rebuild). behind ++ nodes_in o) has

  has-node : (n : ℕ) → Contains list n → Contains (nodes_of step.view) n
  has-node n among = subst (λ (l : List ℕ). Contains l n) (sym nodes-before) (Contains-append_right behind list n among)

  was-owned : (n : ℕ) → Contains list n → nodes.home n ≡ owned p
  was-owned n among = owned_home p (nodes.home n) (owned-by core nodes a.laws.places step.seat p step.view a.at a.pass n (has-node n among)) (λ q l. none-made core a.laws quiet-now n q l)

  else : (P : Home → Type 0) → ¬ P (owned p) → ¬ P spare → (n : ℕ) → P (nodes.home n) ⊎ P (later.home n) → later.home n ≡ nodes.home n
  else = homes-else nodes list spare (owned p) was-owned

  once-before : IsOnce (behind ++ list)
  once-before =
      subst IsOnce nodes-before
      (subst IsOnce (seen-nodes p step.view) (each-seat node_scope (λ k v. refl) core (λ number view. IsOnce (nodes_of view)) a.laws.places.owned_once step.seat p step.view a.at a.pass))

  in-old : (n : ℕ) → Contains list n → IsInArena core.config (1 - old) n
  in-old n among =
      subst (λ (o : Option ℕ). IsSomeAnd o (λ x. IsInArena core.config (1 - x) n)) asked.ends.arena
      (own-nodes (λ k v q. (m : ℕ) → Contains q.nodes m → IsSomeAnd q.arena (λ x. IsInArena core.config (1 - x) m)) a.laws.places.in_arena n among)

  -- ---- the steps that leave a part of what it leaves

  -- what was stored in those nodes goes
  abbrev Drops : Kind
  Drops = record { operation = store; entry = λ view name value. None; leaves = λ view name found first second. record view { written = written_outside (nodes_in view.rebuild) view.written } }

  -- the update goes
  abbrev Ends : Kind
  Ends = record { operation = store; entry = λ view name value. None; leaves = λ view name found first second. record view { rebuild = None } }

  rebuilds : Rebuilds Ends core step None
  rebuilds = record { hidden = λ stored. inl asked.names; entry = λ value. refl; leaves = refl }

  touches : Touches Drops core step nodes later
  touches =
      touches-rehomed Drops core step a later
      (record {
        names = inl asked.names;
        plain = λ value. refl;
        rebuild = refl;
        walk = refl;
        call = refl;
        batches = refl;
        depth = λ n. refl;
        in_tree = else IsInTree (λ none. none) (λ none. none);
        others = λ n number apart was. else (IsOwnedBy number) (λ same. apart (sym same)) (λ none. none) n (inl was);
        written = λ store among.
            let t = filter_from (λ (s : Store). not (is_in_nodes (nodes_in step.view.rebuild) (node_in s.name))) step.view.written store among in (
              t.0,
              λ n of at. home-out nodes list spare n
                  (λ inside.
                  true≢false
                  (sym t.1
                  ∙ ((λ i. not (is_in_nodes (nodes_in (has i)) (of i))) ∙ ap not (there-in_nodes list n inside)))),
            );
      })

  -- ---- who owns nodes

  owns : OwnsAfter Ends core step a later
  owns = record {
    others = λ n number apart. (
      λ was. subst (IsOwnedBy number) (sym (else (IsOwnedBy number) (λ same. apart (sym same)) (λ none. none) n (inl was))) was,
      λ is. subst (IsOwnedBy number) (else (IsOwnedBy number) (λ same. apart (sym same)) (λ none. none) n (inr is)) is,
    );
    own = λ n. (
      λ is.
          elim (home-after nodes list spare n) [
            | moved_home inside e ↦ absurd (subst (IsOwnedBy p) e is)
            | same_home none e ↦
                elim (Contains-append_cases behind list n (subst (λ (l : List ℕ). Contains l n) nodes-before (owner-has core nodes a.laws.places a.formed step.seat p step.view a.at a.pass n (subst (IsOwnedBy p) e is)))) [
                  | inl own ↦ subst (λ (l : List ℕ). Contains l n) (sym nodes-after) own
                  | inr gone ↦ absurd (none gone)
                ]
          ],
      λ among.
          let own = subst (λ (l : List ℕ). Contains l n) nodes-after among in
          let was = owned-by core nodes a.laws.places step.seat p step.view a.at a.pass n (subst (λ (l : List ℕ). Contains l n) (sym nodes-before) (Contains-append_left behind list n own)) in
          subst (IsOwnedBy p) (sym (home-out nodes list spare n (λ inside. pairs-across (λ x y. x ≢ y) behind list once-before n n own inside refl))) was,
    );
    once = subst IsOnce (sym nodes-after) (pairs-left (λ x y. x ≢ y) behind list once-before);
    below = λ n among. batch-below core nodes a.laws.places step.seat p step.view a.at a.pass n among;
  }
    where
      nodes-after : nodes_of (view_after Ends core step) ≡ behind
      nodes-after = nodes_split (view_after Ends core step) ∙ append-nil behind

  -- ---- where nodes are

  abbrev New : Sight
  New = sight node_scope (after_step Ends core step)

  arena-same : New.word Arena ≡ word_of core Arena
  arena-same = word-step-other Ends core step Arena (λ e. let no = e ∙ asked.names in absurd cc)

  -- a node of a main tree is in the other arena
  main-in : (n l : ℕ) → nodes.home n ≡ under (Main l) → IsInArena core.config (arena_of (sight node_scope core) (word_of core Arena) l) n → IsInArena core.config (1 - old) n
  main-in n l home inside =
      let low : l < length r.swapped = let all = all-layers core step a r old asked.ends in let layer = main-layer core a.laws a.formed n l home in omega arith in
      let says : arena_of (sight node_scope core) (word_of core Arena) l ≡ 1 - old =
      arena-of-one core step.seat p step.view a.at a.pass alone (word_of core Arena) l
      ∙ (ap (λ (o : Option Rebuild). arena_after l (word_of core Arena) o) has
      ∙ (arena-said l (word_of core Arena) old r asked.ends.arena ∙ ap (λ (t : Bool). cond t (1 - old) old) (lt-ltb l (length r.swapped) low)))
      in
      subst (λ (x : ℕ). IsInArena core.config x n) says inside

  -- a node of the arena that the main trees were in is spare, or was not used
  old-spare : (n : ℕ) → IsInArena core.config (1 - New.word Arena) n → later.home n ≡ spare
  old-spare n inside =
      elim (home-after nodes list spare n) [
        | moved_home among e ↦ e
        | same_home none e ↦ e ∙ go (nodes.home n) refl none
      ]
    where
      in-last : IsInArena core.config old n
      in-last = let one = arena-same in let two = arena-is.1 in let low = arena-is.0 in subst (λ (x : ℕ). IsInArena core.config x n) (omega arith) inside

      above : core.config.nodes ≤ n
      above = let t = in-last.0 in omega arith

      not-batch : ¬ Contains (batch_nodes_of step.view) n
      not-batch among = let below = batch-below core nodes a.laws.places step.seat p step.view a.at a.pass n among in let high = above in omega arith

      go : (home : Home) → nodes.home n ≡ home → ¬ Contains list n → home ≡ spare
      go spare e none = refl
      go free e none = let below = a.laws.places.batch_nodes n e in let high = above in absurd (omega arith)
      go (owned q) e none =
          let from = has-seat node_scope (λ k v. refl) core q (λ v. Contains (nodes_of v) n) ((a.laws.places.owned n q).0 (subst (IsOwnedBy q) (sym e) refl)) in
          let among : Contains (nodes_of from.view) n = subst (λ (l : List ℕ). Contains l n) (seen-nodes q from.view) from.holds in
          absurd
          (elim (cases_eq from.seat step.seat) [
            | inl same ↦
                let one : step.view ≡ from.view = at_one core.views step.seat step.view from.view a.at (subst (λ (k : ℕ). IsViewAt core k from.view) same from.at) in
                elim (Contains-append_cases behind list n (subst (λ (l : List ℕ). Contains l n) nodes-before (subst (λ (v : View). Contains (nodes_of v) n) (sym one) among))) [
                  | inl own ↦ not-batch own
                  | inr inside ↦ none inside
                ]
            | inr apart ↦
                let all : nodes_of from.view ≡ batch_nodes_of from.view = nodes_split from.view ∙ (ap (λ (o : Option Rebuild). batch_nodes_of from.view ++ nodes_in o) (alone from.seat q from.view apart from.at from.pass) ∙ append-nil (batch_nodes_of from.view)) in
                let below = batch-below core nodes a.laws.places from.seat q from.view from.at from.pass n (subst (λ (l : List ℕ). Contains l n) all among) in
                let high = above in
                omega arith
          ])
      go (made q l) e none = absurd (none-made core a.laws quiet-now n q l e)
      go (returning q) e none = absurd (none-returning core a.laws quiet-now n q e)
      go (superseded q name) e none = absurd (not-superseded n q name e)
      go (under name) e none = absurd (published name e (named-tree core a.laws n name e))
        where
          published : (name : Name) → nodes.home n ≡ under name → (root : ℕ) × NamesRoot name ((sight tree_scope core).word name) root → ⊥
          published (Slot l t) e named = let below = a.laws.places.slot_trees n l t e in let high = above in omega arith
          published (Main l) e named =
              apart-arenas core.config old n arena-is.0 in-last (main-in n l e (a.laws.places.main_trees n l e))
          published _ e named = named.1

  later-unmade : (n q l : ℕ) → later.home n ≢ made q l
  later-unmade n q l e = none-made core a.laws quiet-now n q l (sym (else IsInTree (λ none. none) (λ none. none) n (inr (subst IsInTree (sym e) tt))) ∙ e)

  later-unreturned : (n q : ℕ) → later.home n ≢ returning q
  later-unreturned n q e = none-returning core a.laws quiet-now n q (sym (else IsInTree (λ none. none) (λ none. none) n (inr (subst IsInTree (sym e) tt))) ∙ e)

  later-unseen : (n q : ℕ) (name : Name) → later.home n ≢ superseded q name
  later-unseen n q name e = not-superseded n q name (sym (else IsInTree (λ none. none) (λ none. none) n (inr (subst IsInTree (sym e) tt))) ∙ e)

  holds : UpdateHolds Ends core step a None rebuilds alone later
  holds =
      let h = a.laws.places in
      record {
        in_use = λ n above.
            elim (home-after nodes list spare n) [
              | moved_home inside e ↦ e
              | same_home none e ↦ e ∙ h.in_use n above
            ];
        arenas = λ n below e.
            elim (home-after nodes list spare n) [
              | moved_home inside at ↦ let t = (in-old n inside).0 in absurd (omega arith)
              | same_home none at ↦ h.arenas n below (sym at ∙ e)
            ];
        stood = λ n stands. else Stands (λ none. none) (λ none. none) n (inr stands);
        unmade = none-made core a.laws quiet-now;
        returned = λ n number e. absurd (later-unreturned n number e);
        main = λ n l home inside. subst (λ (x : ℕ). IsInArena core.config x n) (sym (arena-same ∙ arena-is.1)) (main-in n l home inside);
        says = tt;
        update = inr (ap (word_of (after_step Ends core step)) (sym asked.names) ∙ (word-step Ends core step ∙ asked.none), refl);
        superseded = λ n name home some. absurd (later-unseen n p name home);
        arena = subst (λ (x : ℕ). x < 2) (sym arena-same) h.arena;
        idle = λ unread n inside. old-spare n inside;
      }

  homes-ended : NodesInOnePlace later (after_step Ends core step)
  homes-ended =
      together (after_step Ends core step) later
      (pool-stays Ends core step (lawful a) later
      (λ n. (λ e. else (λ x. x ≡ free) (λ same. absurd cc) (λ same. absurd cc) n (inl e) ∙ e, λ e. sym (else (λ x. x ≡ free) (λ same. absurd cc) (λ same. absurd cc) n (inr e)) ∙ e))
      (leaves-pool Ends core step a None rebuilds alone (inl asked.names)))
      (owner-part Ends core step a later owns) (tree-next Ends core step a None rebuilds alone later holds)

  -- a law that does not read what was stored in own nodes
  by-ends : (scope : Scope) (Law : Sight → Type 0) → seen_of scope p (view_after Ends core step) ≡ seen_of scope p (view_after kind core step) → Law (sight scope (after_step Ends core step)) → Law (sight scope After)
  by-ends scope Law same h =
      frame scope Law (after_step Ends core step) After
      (record {
        config = refl;
        words = λ name reads. refl;
        history = λ reads. refl;
        passes = set-same (part_of scope) core.views step.seat (view_after Ends core step) (view_after kind core step) (rw (a.pass) (ap Some same));
      }) h

  -- ---- trees, places, bodies and readers

  abbrev Dropped : Core
  Dropped = after_step Drops core step

  no-view : (f : Rebuild → Rebuild) (o : Option Rebuild) → o ≡ None → option_map f o ≡ None
  no-view f o e = ap (option_map f) e

  trees : TreesSound later After
  trees =
      TreesSound-next later (sight tree_scope Dropped) (sight tree_scope After).passes p (seen_of tree_scope p (view_after Drops core step)) None
      (between Drops kind core step a alone tree_scope (λ k v. refl) update_on_trees None (λ number view e. no-view update_on_trees view.rebuild e) refl refl)
      (record { unmade = later-unmade; unreturned = later-unreturned; unseen = λ name root at some. later-unseen root p name at; early = tt }) (TreesSound-touches Drops core step a later touches)

  locations : LocationsHold later After
  locations =
      LocationsHold-next later (sight location_scope Dropped) (sight location_scope After).passes p (seen_of location_scope p (view_after Drops core step)) None
      (between Drops kind core step a alone location_scope (λ k v. refl) update_on_places None (λ number view e. no-view update_on_places view.rebuild e) refl refl)
      (record {
        unmade = later-unmade;
        unplaced = λ i. word-step-other Drops core step (LocB i) (λ e. let no = e ∙ asked.names in absurd cc) ∙ no-second core a.laws quiet-now i;
        early = tt;
        forth = λ index n k placing plan. absurd (resting index placing);
        back = λ index n k placing plan. absurd plan;
      })
      (LocationsHold-touches Drops core step a later touches)
    where
      resting : (index : ℕ) → ¬ IsPlacing (call_on_places step.view.call).task index
      resting index placing = subst (λ (t : Task). IsPlacing (call_by_task t step.view.call).task index) asked.idle placing

  cover : BodiesCovered later After
  cover =
      BodiesCovered-next later (sight cover_scope Dropped) (sight cover_scope After).passes p (seen_of cover_scope p (view_after Drops core step)) None
      (between Drops kind core step a alone cover_scope (λ k v. refl) update_on_cover None (λ number view e. no-view update_on_cover view.rebuild e) refl refl) tt (BodiesCovered-touches Drops core step a later touches)

  readers : ReadersCounted later After
  readers =
      ReadersCounted-next later (sight reader_scope Dropped) (sight reader_scope After).passes p (seen_of reader_scope p (view_after Drops core step)) None
      (between Drops kind core step a alone reader_scope (λ k v. refl) update_on_readers None (λ number view e. no-view update_on_readers view.rebuild e) refl refl) tt
      (ReadersCounted-touches Drops core step a later touches)

  pub Invariants-ends : Invariants After
  Invariants-ends = record {
    nodes = later;
    locks = by-ends lock_scope LocksAgreeIn refl (unseen Ends core step a None rebuilds lock_scope LocksAgreeIn (refl, refl) refl a.laws.locks);
    bodies = by-ends body_scope BodiesAgreeIn refl (unseen Ends core step a None rebuilds body_scope BodiesAgreeIn (refl, refl) refl a.laws.bodies);
    places = by-ends node_scope (NodesInOnePlaceIn later) refl homes-ended;
    trees = trees;
    locations = locations;
    cover = cover;
    walks = by-ends walk_scope WalksLeadIn refl (unseen Ends core step a None rebuilds walk_scope WalksLeadIn (refl, refl) refl a.laws.walks);
    readers = readers;
  }

module _ (core : Core) (step : Step) (a : Acts core step) (asked : MayEndUpdate step.view step.name step.first step.second) where
  guards : KeepsGuards end_update core step
  guards =
      keeps end_update core step Update asked.names
      (λ stored seat number view apart found is.
      (λ holder. subst (λ (o : Option Rebuild). IsSomeAnd o (λ x. ⊤)) (others-update-none core a.laws a.formed step a.at a.pass asked.r asked.ends.update seat number view apart found is) holder, tt))

-- ---- kind 54

pub Invariants-end_update : IsKept MayEndUpdate end_update
Invariants-end_update = kept MayEndUpdate end_update (λ core step a asked. Invariants-ends core step a asked)

pub GuardsHold-end_update : IsGuarded MayEndUpdate end_update
GuardsHold-end_update = guarded MayEndUpdate end_update (λ core step a asked. guards core step a asked)
