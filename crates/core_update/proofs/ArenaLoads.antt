-- Loading the number of the arena keeps all laws: the other arena was spare, and its nodes become the update's own.
use Rattle.std.proofs.Common.{Bool, Contains, IsNone, List, None, Option, Some, ap, arith, cond, false, inl, inr, is_some, length, refl, subst, sym, ℕ, ◌*◌, ◌++◌, ◌+◌, ◌-◌, ◌<◌, ◌↔◌, ◌∙◌, ◌≡◌, ◌≢◌, ◌⊎◌}
use Rattle.std.proofs.lemmas.Bool.{cases_eq, false≢true, true≢false, le-ltb}
use Rattle.std.proofs.lemmas.List.{append-nil}
use Rattle.std.proofs.lemmas.List.Elements.{Contains-append_cases, Contains-append_left, Contains-append_right}
use Rattle.std.specs.Prelude.{IfSome, IsSomeAnd, nat_lt, option_map}
use Rattle.word_map.specs.Names.{arena_nodes}
use Rattle.word_map.specs.declared.config.Config.{Config}
use Rattle.word_map.specs.declared.name.Name.{Name}
use Rattle.word_map.specs.declared.name.Name.TheVariants.{Arena, Main, Slot, Update}
use Rattle.core_state.specs.Batches.{batch_nodes_of}
use Rattle.core_state.specs.BodiesAgree.{BodiesAgreeIn, body_scope}
use Rattle.core_state.specs.BodiesCovered.{BodiesCoveredIn, cover_scope}
use Rattle.core_state.specs.Core.{Core, IsViewAt, word_of}
use Rattle.core_state.specs.Encoding.{IsInArena}
use Rattle.core_state.specs.Invariants.{Invariants}
use Rattle.core_state.specs.Kind.{Kind, Step, after_step, found_by, learned, log_after, view_after}
use Rattle.core_state.specs.LocationsHold.{LocationsHoldIn, location_scope}
use Rattle.core_state.specs.LocksAgree.{LocksAgreeIn, lock_scope}
use Rattle.core_state.specs.Log.{word}
use Rattle.core_state.specs.Nodes.{Home, IsInTree, IsOwnedBy, Nodes, Stands, free, nodes_in, nodes_of, owned, returning, spare}
use Rattle.core_state.specs.NodesInOnePlace.{IsOfReplaced, NodesInOnePlace, node_scope}
use Rattle.core_state.specs.Noting.{MayLoadArena, load_arena, with_arena}
use Rattle.core_state.specs.Operation.{load}
use Rattle.core_state.specs.Parts.{update_on_cover, update_on_nodes, update_on_places, update_on_readers, update_on_trees}
use Rattle.core_state.specs.ReadersCounted.{ReadersCountedIn, reader_scope}
use Rattle.core_state.specs.Scope.{IsOnce, Scope, Sight, sight}
use Rattle.core_state.specs.TreesSound.{TreesSoundIn, tree_scope}
use Rattle.core_state.specs.Updates.{EachUpdate, arena_after, arena_of}
use Rattle.core_state.specs.View.{IsPass}
use Rattle.core_state.specs.WalksLead.{WalksLeadIn, walk_scope}
use Rattle.core_state.specs.declared.item.Item.{Item}
use Rattle.core_state.specs.declared.view.Rebuild.{Rebuild}
use Rattle.core_state.specs.declared.view.View.{View}
use Rattle.core_state.proofs.Frames.{frame, passes-same}
use Rattle.core_state.proofs.Guarding.{GuardsHold-load}
use Rattle.core_state.proofs.Lookups.{at_one}
use Rattle.core_guard.proofs.CoverLeft.{BodiesCovered-touches}
use Rattle.core_guard.proofs.Holders.{IsGuarded}
use Rattle.core_guard.proofs.Leaving.{Acts, Touches, lawful}
use Rattle.core_guard.proofs.Light.{Stores}
use Rattle.core_guard.proofs.NodesLeft.{pool-stays, seen-nodes, together}
use Rattle.core_guard.proofs.Owners.{batch-below, nodes_split, owned-by}
use Rattle.core_guard.proofs.PlacesLeft.{LocationsHold-touches}
use Rattle.core_guard.proofs.ReadersLeft.{ReadersCounted-touches}
use Rattle.core_guard.proofs.Seats.{each-seat, each-seats, seen_of}
use Rattle.core_guard.proofs.Settled.{sound}
use Rattle.core_guard.proofs.Touched.{IsKept, kept}
use Rattle.core_guard.proofs.TreesLeft.{TreesSound-touches}
use Rattle.core_batch.proofs.Lists.{pairs-append}
use Rattle.core_batch.proofs.NodesStep.{OwnsAfter, owner-part}
use Rattle.core_batch.proofs.Owning.{owner-has}
use Rattle.core_batch.proofs.Rehome.{owned_spare}
use Rattle.core_update.proofs.AtRest.{IsQuietUpdate, none-made, none-returning, quiet-alone}
use Rattle.core_update.proofs.EarlySteps.{early-quiet}
use Rattle.core_update.proofs.OneArena.{arena-of-one, arena-said, arena-unsaid}
use Rattle.core_update.proofs.Ranges.{in-world, range-once, in-arena}
use Rattle.core_update.proofs.Rebuilt.{IsAlone, Rebuilds, rebuilt, unseen-load}
use Rattle.core_update.proofs.Rehomed.{home-after, home-in, homes-else, moved_home, rehomed, same_home, touches-rehomed}
use Rattle.core_update.proofs.UpdateNodes.{UpdateHolds, leaves-pool, tree-next}
use Rattle.core_update.proofs.Updating.{names-update, others-update-none, own-says}

module _ (core : Core) (step : Step) (a : Acts core step) (asked : MayLoadArena step.view step.name step.first step.second) where
  abbrev kind : Kind
  kind = load_arena

  abbrev After : Core
  After = after_step kind core step

  abbrev p : ℕ
  p = step.number

  abbrev r : Rebuild
  r = asked.r

  abbrev found : ℕ
  found = found_by core step

  abbrev with : Rebuild
  with = with_arena step.view.config found r

  abbrev list : List ℕ
  list = with.nodes

  abbrev nodes : Nodes
  nodes = a.laws.nodes

  abbrev later : Nodes
  later = rehomed nodes list (owned p)

  alone : IsAlone core step
  alone = others-update-none core a.laws a.formed step a.at a.pass r asked.update

  unstored : ¬ Stores kind core step
  unstored stored = false≢true stored

  rebuilds : Rebuilds kind core step (Some with)
  rebuilds = record {
    hidden = λ stored. absurd (unstored stored);
    entry = λ value. refl;
    leaves = ap (λ (o : Option Rebuild). record (learned core step) { rebuild = option_map (with_arena step.view.config found) o }) asked.update;
  }

  quiet-now : (seat number : ℕ) (view : View) → IsViewAt core seat view → IsPass view number → IfSome view.rebuild (IsQuietUpdate core.config)
  quiet-now = quiet-alone core step a.at alone (subst (λ (o : Option Rebuild). IfSome o (IsQuietUpdate core.config)) (sym asked.update) (early-quiet core.config r asked.early))

  config : step.view.config ≡ core.config
  config = (sound core step a).config

  word-same : (name : Name) → word_of After name ≡ word_of core name
  word-same name = ap (λ (l : List Item). word core.config l name) (append-nil core.log)

  named : found ≡ word_of core Arena
  named = ap (word_of core) asked.names

  -- ---- the nodes of the other arena

  of-arena : (n : ℕ) → Contains list n → IsInArena core.config (1 - word_of core Arena) n
  of-arena n among =
      subst (λ (c : Config). IsInArena c (1 - word_of core Arena) n) config
      (subst (λ (x : ℕ). IsInArena step.view.config (1 - x) n) named
      (in-arena step.view.config (1 - found) n among))

  was-spare : (n : ℕ) → Contains list n → nodes.home n ≡ spare
  was-spare n among = a.laws.places.idle unread n (of-arena n among)
    where
      unread : EachUpdate (sight node_scope core) (λ k v q. IsNone q.arena)
      unread =
          each-seats node_scope (λ k v. refl) core (λ k v. IfSome v.rebuild (λ q. IsNone q.arena))
          (λ seat number view found is.
          elim (cases_eq seat step.seat) [
            | inl same ↦
                let one : step.view ≡ view = at_one core.views step.seat step.view view a.at (subst (λ (k : ℕ). IsViewAt core k view) same found) in
                subst (λ (o : Option Rebuild). IfSome (option_map update_on_nodes o) (λ q. IsNone q.arena)) (sym asked.update ∙ ap (λ (v : View). v.rebuild) one) (ap is_some asked.unread)
            | inr apart ↦ subst (λ (o : Option Rebuild). IfSome (option_map update_on_nodes o) (λ q. IsNone q.arena)) (sym (alone seat number view apart found is)) tt
          ])

  -- a home that is neither spare nor the pass's own
  else : (P : Home → Type 0) → ¬ P spare → ¬ P (owned p) → (n : ℕ) → P (nodes.home n) ⊎ P (later.home n) → later.home n ≡ nodes.home n
  else = homes-else nodes list (owned p) spare was-spare

  same-as : (home : Home) → spare ≢ home → owned p ≢ home → (n : ℕ) → (nodes.home n ≡ home) ↔ (later.home n ≡ home)
  same-as home one two n = (
    λ e. else (λ x. x ≡ home) one two n (inl e) ∙ e,
    λ e. sym (else (λ x. x ≡ home) one two n (inr e)) ∙ e,
  )

  -- ---- who owns them

  abbrev behind : List ℕ
  behind = batch_nodes_of step.view

  has-batch : nodes_of step.view ≡ behind
  has-batch = nodes_split step.view ∙ (ap (λ (o : Option Rebuild). behind ++ nodes_in o) asked.update ∙ (ap (λ (l : List ℕ). behind ++ l) asked.no_nodes ∙ append-nil behind))

  last-is : view_after kind core step ≡ record step.view { known = log_after kind core step; joined = None; rebuild = Some with }
  last-is = rebuilt kind core step a (Some with) rebuilds

  has-now : nodes_of (view_after kind core step) ≡ behind ++ list
  has-now = ap (λ (v : View). nodes_of v) last-is ∙ nodes_split (record step.view { rebuild = Some with })

  owned-was : (n : ℕ) → Contains behind n → IsOwnedBy p (nodes.home n)
  owned-was n among = owned-by core nodes a.laws.places step.seat p step.view a.at a.pass n (subst (λ (l : List ℕ). Contains l n) (sym has-batch) among)

  owns : OwnsAfter kind core step a later
  owns = record {
    others = λ n number apart. (
      λ was. subst (IsOwnedBy number) (sym (else (IsOwnedBy number) (λ none. none) (λ same. apart (sym same)) n (inl was))) was,
      λ is. subst (IsOwnedBy number) (else (IsOwnedBy number) (λ none. none) (λ same. apart (sym same)) n (inr is)) is,
    );
    own = λ n. (
      λ is.
          elim (home-after nodes list (owned p) n) [
            | moved_home inside e ↦ subst (λ (l : List ℕ). Contains l n) (sym has-now) (Contains-append_right behind list n inside)
            | same_home none e ↦
                subst (λ (l : List ℕ). Contains l n) (sym has-now)
                (Contains-append_left behind list n
                (subst (λ (l : List ℕ). Contains l n) has-batch (owner-has core nodes a.laws.places a.formed step.seat p step.view a.at a.pass n (subst (IsOwnedBy p) e is))))
          ],
      λ among.
          elim (Contains-append_cases behind list n (subst (λ (l : List ℕ). Contains l n) has-now among)) [
            | inl old ↦
                elim (home-after nodes list (owned p) n) [
                  | moved_home inside e ↦ subst (IsOwnedBy p) (sym e) refl
                  | same_home none e ↦ subst (IsOwnedBy p) (sym e) (owned-was n old)
                ]
            | inr new ↦ subst (IsOwnedBy p) (sym (home-in nodes list (owned p) n new)) refl
          ],
    );
    once =
        subst IsOnce (sym has-now)
        (pairs-append (λ x y. x ≢ y) behind list
        (subst IsOnce has-batch (subst IsOnce (seen-nodes p step.view) (each-seat node_scope (λ k v. refl) core (λ number view. IsOnce (nodes_of view)) a.laws.places.owned_once step.seat p step.view a.at a.pass)))
        (range-once (step.view.config.nodes + (1 - found) * arena_nodes step.view.config) (arena_nodes step.view.config))
        (λ x y old new same. subst (IsOwnedBy p) (ap nodes.home same ∙ was-spare y new) (owned-was x old)));
    below = λ n among. batch-below core nodes a.laws.places step.seat p step.view a.at a.pass n (subst (λ (v : View). Contains (batch_nodes_of v) n) last-is among);
  }

  -- ---- where nodes are

  abbrev New : Sight
  New = sight node_scope After

  own-nodes : (P : ℕ → View → Rebuild → Type 0) → EachUpdate (sight node_scope core) P → P p (seen_of node_scope p step.view) (update_on_nodes r)
  own-nodes = own-says node_scope (λ k v. refl) update_on_nodes (λ k v. refl) core step.seat p step.view r a.at a.pass asked.update

  says-now : (l : ℕ) → arena_of (sight node_scope core) (word_of core Arena) l ≡ arena_after l (New.word Arena) (Some with)
  says-now l =
      arena-of-one core step.seat p step.view a.at a.pass alone (word_of core Arena) l
      ∙ (ap (λ (o : Option Rebuild). arena_after l (word_of core Arena) o) asked.update
      ∙ (arena-unsaid l (word_of core Arena) r asked.unread ∙ (sym named ∙ sym (arena-said l (New.word Arena) found with refl ∙ (ap (λ (s : List ℕ). cond (nat_lt l (length s)) (1 - found) found) asked.early.swapped ∙ ap (λ (t : Bool). cond t (1 - found) found) (le-ltb l 0 (omega arith)))))))

  holds : UpdateHolds kind core step a (Some with) rebuilds alone later
  holds =
      let h = a.laws.places in
      record {
        in_use = λ n above.
            elim (home-after nodes list (owned p) n) [
              | moved_home inside e ↦ absurd (in-world core.config (1 - word_of core Arena) n (omega arith) (of-arena n inside) above)
              | same_home none e ↦ e ∙ h.in_use n above
            ];
        arenas = λ n below e.
            elim (home-after nodes list (owned p) n) [
              | moved_home inside at ↦ owned_spare p (sym at ∙ e)
              | same_home none at ↦ h.arenas n below (sym at ∙ e)
            ];
        stood = λ n stands. else Stands (λ none. none) (λ none. none) n (inr stands);
        unmade = none-made core a.laws quiet-now;
        returned = λ n number e. absurd (none-returning core a.laws quiet-now n number (sym (else (λ x. x ≡ returning number) (λ same. absurd cc) (λ same. absurd cc) n (inr e)) ∙ e));
        main = λ n l home inside. subst (λ (x : ℕ). IsInArena core.config x n) (says-now l) inside;
        says = record {
          published = λ planned. absurd (true≢false (sym planned ∙ asked.early.unplanned));
          in_arena = λ n among. subst (λ (x : ℕ). IsInArena core.config (1 - x) n) (sym named) (of-arena n among);
          named = (subst (λ (x : ℕ). x < 2) (sym named) h.arena, word-same Arena ∙ (sym named ∙ ap (λ (t : Bool). cond t (1 - found) found) (sym asked.early.unswitched)));
        };
        update = inl (word-same Update ∙ names-update core a.laws step.seat p step.view r a.at a.pass asked.update, refl);
        superseded = λ n name home some.
            let was = subst (λ (o : Option Rebuild). IsSomeAnd (option_map update_on_nodes o) (λ q. (q.is_reclaimed ≡ false) × IsOfReplaced core.config q name n)) asked.update some in
            (was.0, replaced n name was.1);
        arena = subst (λ (x : ℕ). x < 2) (sym (word-same Arena)) h.arena;
        idle = λ unread n inside. absurd (true≢false unread);
      }
    where
      replaced : (n : ℕ) (name : Name) → IsOfReplaced core.config (update_on_nodes r) name n → IsOfReplaced core.config (update_on_nodes with) name n
      replaced n (Slot l t) h = h
      replaced n (Main l) h = absurd (subst (λ (o : Option ℕ). IsSomeAnd o (λ old. IsInArena core.config old n)) asked.unread h)
      replaced n _ h = absurd h

  homes : NodesInOnePlace later After
  homes =
      together After later (pool-stays kind core step (lawful a) later (same-as free (λ e. absurd cc) (λ e. absurd cc)) (leaves-pool kind core step a (Some with) rebuilds alone (inr asked.names)))
      (owner-part kind core step a later owns) (tree-next kind core step a (Some with) rebuilds alone later holds)

  -- ---- the trees, by a step that leaves the view as it was

  abbrev Plain : Kind
  Plain = record { operation = load; entry = λ view name value. None; leaves = λ view name old first second. view }

  touches : Touches Plain core step nodes later
  touches =
      touches-rehomed Plain core step a later
      (record {
        names = inr asked.names;
        plain = λ value. refl;
        rebuild = refl;
        walk = refl;
        call = refl;
        batches = refl;
        depth = λ n. refl;
        in_tree = else IsInTree (λ none. none) (λ none. none);
        others = λ n number apart was. else (IsOwnedBy number) (λ none. none) (λ same. apart (sym same)) n (inl was);
        written = λ store among. (
          among,
          λ n of at.
              elim (home-after nodes list (owned p) n) [
                | moved_home inside e ↦ absurd (owned_spare p (sym at ∙ was-spare n inside))
                | same_home none e ↦ e
              ],
        );
      })

  -- a law that does not see where the nodes of the update are
  by-plain : (scope : Scope) (Law : Sight → Type 0) → seen_of scope p (record step.view { known = log_after kind core step; joined = None; rebuild = Some with }) ≡ seen_of scope p step.view
      → seen_of scope p (view_after Plain core step) ≡ seen_of scope p step.view → Law (sight scope (after_step Plain core step)) → Law (sight scope After)
  by-plain scope Law same plain h =
      frame scope Law (after_step Plain core step) After
      (record {
        config = refl;
        words = λ name reads. refl;
        history = λ reads. refl;
        passes = passes-same scope Plain core step a.at a.pass plain ∙ sym (passes-same scope kind core step a.at a.pass (ap (seen_of scope p) last-is ∙ same));
      }) h

  Invariants-loads : Invariants After
  Invariants-loads =
      let part : (f : Rebuild → Rebuild) → f with ≡ f r → option_map f (Some with) ≡ option_map f step.view.rebuild = λ f e. ap Some e ∙ sym (ap (option_map f) asked.update) in
      record {
        nodes = later;
        locks = unseen-load kind core step a (Some with) rebuilds unstored lock_scope LocksAgreeIn refl a.laws.locks;
        bodies = unseen-load kind core step a (Some with) rebuilds unstored body_scope BodiesAgreeIn refl a.laws.bodies;
        places = homes;
        trees = by-plain tree_scope (TreesSoundIn later) (λ i. record (seen_of tree_scope p step.view) { rebuild = part update_on_trees refl i }) refl (TreesSound-touches Plain core step a later touches);
        locations = by-plain location_scope (LocationsHoldIn later) (λ i. record (seen_of location_scope p step.view) { rebuild = part update_on_places refl i }) refl (LocationsHold-touches Plain core step a later touches);
        cover = by-plain cover_scope (BodiesCoveredIn later) (λ i. record (seen_of cover_scope p step.view) { rebuild = part update_on_cover refl i }) refl (BodiesCovered-touches Plain core step a later touches);
        walks = unseen-load kind core step a (Some with) rebuilds unstored walk_scope WalksLeadIn refl a.laws.walks;
        readers = by-plain reader_scope (ReadersCountedIn later) (λ i. record (seen_of reader_scope p step.view) { rebuild = part update_on_readers refl i }) refl (ReadersCounted-touches Plain core step a later touches);
      }

-- ---- kind 43

pub Invariants-load_arena : IsKept MayLoadArena load_arena
Invariants-load_arena = kept MayLoadArena load_arena (λ core step a asked. Invariants-loads core step a asked)

pub GuardsHold-load_arena : IsGuarded MayLoadArena load_arena
GuardsHold-load_arena before after steps formed laws guards = GuardsHold-load MayLoadArena load_arena before after (λ found first. refl) steps guards
