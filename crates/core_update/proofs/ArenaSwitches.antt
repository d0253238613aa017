-- Switching arenas keeps all laws: all main trees are in the other arena by then, and the update says so already.
use Rattle.std.proofs.Common.{is_some, Option, Some, ap, arith, cond, false, inl, inr, refl, subst, suc, sym, true, ℕ, ◌-◌, ◌<◌, ◌∙◌, ◌≡◌}
use Rattle.std.proofs.lemmas.Bool.{true≢false}
use Rattle.std.specs.Prelude.{Contains, IfSome, IsSomeAnd, option_map, ⊤}
use Rattle.word_map.specs.declared.name.Name.TheVariants.{Arena, Update}
use Rattle.core_state.specs.BodiesAgree.{BodiesAgreeIn, body_scope}
use Rattle.core_state.specs.BodiesCovered.{BodiesCoveredIn, cover_scope}
use Rattle.core_state.specs.Core.{Core, IsViewAt, word_of}
use Rattle.core_state.specs.Encoding.{IsInArena}
use Rattle.core_state.specs.Guards.{KeepsGuards}
use Rattle.core_state.specs.Invariants.{Invariants}
use Rattle.core_state.specs.Kind.{Kind, Step, after_step, learned}
use Rattle.core_state.specs.LocationsHold.{LocationsHoldIn, location_scope}
use Rattle.core_state.specs.LocksAgree.{LocksAgreeIn, lock_scope}
use Rattle.core_state.specs.Nodes.{Nodes, nodes_in}
use Rattle.core_state.specs.NodesInOnePlace.{IsOfReplaced, NamesArena, NodesInOnePlace, node_scope}
use Rattle.core_state.specs.Parts.{update_on_cover, update_on_nodes, update_on_places, update_on_readers, update_on_trees}
use Rattle.core_state.specs.ReadersCounted.{ReadersCountedIn, reader_scope}
use Rattle.core_state.specs.Retiring.{MaySwitchArena, switch_arena}
use Rattle.core_state.specs.Scope.{Sight, sight}
use Rattle.core_state.specs.TreesSound.{TreesSoundIn, tree_scope}
use Rattle.core_state.specs.Updates.{EachUpdate, arena_after, arena_of}
use Rattle.core_state.specs.View.{IsPass}
use Rattle.core_state.specs.WalksLead.{WalksLeadIn, walk_scope}
use Rattle.core_state.specs.declared.view.Rebuild.{Rebuild}
use Rattle.core_state.specs.declared.view.View.{View}
use Rattle.core_state.proofs.Steps.{word-step, word-step-other}
use Rattle.core_guard.proofs.Holders.{IsGuarded, guarded, keeps}
use Rattle.core_guard.proofs.Leaving.{Acts}
use Rattle.core_guard.proofs.Seats.{seen_of}
use Rattle.core_guard.proofs.Touched.{IsKept, kept}
use Rattle.core_update.proofs.AtEnd.{end-quiet}
use Rattle.core_update.proofs.AtRest.{IsQuietUpdate, none-made, none-returning, quiet-alone}
use Rattle.core_update.proofs.OneArena.{arena-of-one, arena-said}
use Rattle.core_update.proofs.Rebuilt.{IsAlone, Rebuilds, unseen}
use Rattle.core_update.proofs.UpdateNodes.{UpdateHolds, places-same}
use Rattle.core_update.proofs.Updating.{names-update, others-update-none, own-says}

module _ (core : Core) (step : Step) (a : Acts core step) (asked : MaySwitchArena step.view step.name step.first step.second) where
  abbrev kind : Kind
  kind = switch_arena

  abbrev After : Core
  After = after_step kind core step

  abbrev r : Rebuild
  r = asked.r

  abbrev old : ℕ
  old = asked.old

  abbrev switched : Rebuild
  switched = record r { is_switched = true }

  has : step.view.rebuild ≡ Some r
  has = asked.ends.update

  alone : IsAlone core step
  alone = others-update-none core a.laws a.formed step a.at a.pass r has

  rebuilds : Rebuilds kind core step (Some switched)
  rebuilds = record {
    hidden = λ stored. inr asked.names;
    entry = λ value. refl;
    leaves = ap (λ (o : Option Rebuild). record (learned core step) { rebuild = option_map (λ (x : Rebuild). record x { is_switched = true }) o }) has;
  }

  quiet-now : (seat number : ℕ) (view : View) → IsViewAt core seat view → IsPass view number → IfSome view.rebuild (IsQuietUpdate core.config)
  quiet-now = quiet-alone core step a.at alone (subst (λ (o : Option Rebuild). IfSome o (IsQuietUpdate core.config)) (sym has) (end-quiet core step a r old asked.ends))

  -- ---- where nodes are

  abbrev nodes : Nodes
  nodes = a.laws.nodes

  abbrev New : Sight
  New = sight node_scope After

  arena-now : New.word Arena ≡ 1 - old
  arena-now = ap (word_of After) (sym asked.names) ∙ (word-step kind core step ∙ asked.other)

  update-now : New.word Update ≡ suc step.number
  update-now = word-step-other kind core step Update (λ e. let no = e ∙ asked.names in absurd cc) ∙ names-update core a.laws step.seat step.number step.view r a.at a.pass has

  -- what the law says of the own update
  own-nodes : (P : ℕ → View → Rebuild → Type 0) → EachUpdate (sight node_scope core) P → P step.number (seen_of node_scope step.number step.view) (update_on_nodes r)
  own-nodes = own-says node_scope (λ k v. refl) update_on_nodes (λ k v. refl) core step.seat step.number step.view r a.at a.pass has

  old-low : old < 2
  old-low = (subst (λ (o : Option ℕ). IfSome o (λ x. (x < 2) × (word_of core Arena ≡ cond r.is_switched (1 - x) x))) asked.ends.arena (own-nodes (λ k v q. NamesArena (sight node_scope core) q) a.laws.places.named)).0

  says-now : (l named : ℕ) → arena_of (sight node_scope core) named l ≡ arena_after l (New.word Arena) (Some switched)
  says-now l named =
      arena-of-one core step.seat step.number step.view a.at a.pass alone named l
      ∙ (ap (λ (o : Option Rebuild). arena_after l named o) has ∙ (arena-said l named old r asked.ends.arena ∙ sym (arena-said l (New.word Arena) old switched asked.ends.arena)))

  holds : UpdateHolds kind core step a (Some switched) rebuilds alone nodes
  holds =
      let h = a.laws.places in
      record {
        in_use = h.in_use;
        arenas = h.arenas;
        stood = λ n inside. refl;
        unmade = none-made core a.laws quiet-now;
        returned = λ n number e. absurd (none-returning core a.laws quiet-now n number e);
        main = λ n l home inside. subst (λ (x : ℕ). IsInArena core.config x n) (says-now l (word_of core Arena)) inside;
        says = record {
          published = (end-quiet core step a r old asked.ends).published;
          in_arena = own-nodes (λ k v q. (n : ℕ) → Contains q.nodes n → IsSomeAnd q.arena (λ x. IsInArena core.config (1 - x) n)) h.in_arena;
          named = subst (λ (o : Option ℕ). IfSome o (λ x. (x < 2) × (New.word Arena ≡ 1 - x))) (sym asked.ends.arena) (old-low, arena-now);
        };
        update = inl (update-now, refl);
        superseded = λ n name home some.
            absurd (true≢false (sym asked.ends.reclaimed ∙ (subst (λ (o : Option Rebuild). IsSomeAnd (option_map update_on_nodes o) (λ q. (q.is_reclaimed ≡ false) × IsOfReplaced core.config q name n)) has some).0));
        arena = let now = arena-now in omega arith;
        idle = λ unread n inside. absurd (true≢false (sym (ap is_some asked.ends.arena) ∙ unread));
      }

  homes : NodesInOnePlace nodes After
  homes = places-same kind core step a (Some switched) rebuilds alone (inr asked.names) (sym (ap nodes_in has)) holds

  Invariants-switches : Invariants After
  Invariants-switches =
      let same : (part : Rebuild → Rebuild) → part switched ≡ part r → option_map part (Some switched) ≡ option_map part step.view.rebuild =
      λ part e. ap Some e ∙ sym (ap (option_map part) has)
      in
      record {
        nodes = nodes;
        locks = unseen kind core step a (Some switched) rebuilds lock_scope LocksAgreeIn (refl, refl) refl a.laws.locks;
        bodies = unseen kind core step a (Some switched) rebuilds body_scope BodiesAgreeIn (refl, refl) refl a.laws.bodies;
        places = homes;
        trees = unseen kind core step a (Some switched) rebuilds tree_scope (TreesSoundIn nodes) (refl, refl)
            (λ i. record (seen_of tree_scope step.number step.view) { rebuild = same update_on_trees refl i }) a.laws.trees;
        locations = unseen kind core step a (Some switched) rebuilds location_scope (LocationsHoldIn nodes) (refl, refl)
            (λ i. record (seen_of location_scope step.number step.view) { rebuild = same update_on_places refl i }) a.laws.locations;
        cover = unseen kind core step a (Some switched) rebuilds cover_scope (BodiesCoveredIn nodes) (refl, refl)
            (λ i. record (seen_of cover_scope step.number step.view) { rebuild = same update_on_cover refl i }) a.laws.cover;
        walks = unseen kind core step a (Some switched) rebuilds walk_scope WalksLeadIn (refl, refl) refl a.laws.walks;
        readers = unseen kind core step a (Some switched) rebuilds reader_scope (ReadersCountedIn nodes) (refl, refl)
            (λ i. record (seen_of reader_scope step.number step.view) { rebuild = same update_on_readers refl i }) a.laws.readers;
      }

  guards : KeepsGuards kind core step
  guards =
      keeps kind core step Arena asked.names
      (λ stored seat number view apart found is. (λ holder. subst (λ (o : Option Rebuild). IsSomeAnd o (λ x. ⊤)) (alone seat number view apart found is) holder, tt))

-- ---- kind 53

pub Invariants-switch_arena : IsKept MaySwitchArena switch_arena
Invariants-switch_arena = kept MaySwitchArena switch_arena (λ core step a asked. Invariants-switches core step a asked)

pub GuardsHold-switch_arena : IsGuarded MaySwitchArena switch_arena
GuardsHold-switch_arena = guarded MaySwitchArena switch_arena (λ core step a asked. guards core step a asked)
