-- Where the nodes are after a step that changes the update of its pass, which alone has one.
use Rattle.std.proofs.Common.{IsNone, IsSome, None, Option, Some, ap, arith, false, inl, inr, length, refl, subst, suc, sym, true, ℕ, ◌<◌, ◌∙◌, ◌≡◌, ◌≢◌, ◌≤◌, ◌⊎◌}
use Rattle.std.proofs.lemmas.Bool.{false≢true}
use Rattle.std.specs.Prelude.{Contains, IfSome, IsSomeAnd, option_map, ◌-◌, flat_map}
use Rattle.word_map.specs.Names.{node_count, pool_lock}
use Rattle.word_map.specs.declared.name.Name.{Name}
use Rattle.word_map.specs.declared.name.Name.TheVariants.{Arena, Main, Slot, Update}
use Rattle.core_state.specs.Core.{Core, IsViewAt}
use Rattle.core_state.specs.Encoding.{IsInArena}
use Rattle.core_state.specs.Kind.{Kind, Step, after_step, view_after}
use Rattle.core_state.specs.Nodes.{superseded, Home, Stands, Nodes, made, returning, spare, under, nodes_in}
use Rattle.core_state.specs.NodesInOnePlace.{IsOfReplaced, NamesArena, node_scope, NodesInOnePlace}
use Rattle.core_state.specs.Parts.{update_on_nodes, task_on_pool}
use Rattle.core_state.specs.Scope.{HasPass, Sight, sight}
use Rattle.core_state.specs.Updates.{IsMadeIn, arena_after, arena_of}
use Rattle.core_state.specs.View.{IsPass, Holds}
use Rattle.core_state.specs.declared.view.Batch.{Batch}
use Rattle.core_state.specs.declared.view.Mode.TheVariants.{Write}
use Rattle.core_state.specs.declared.view.Rebuild.{Rebuild}
use Rattle.core_state.specs.declared.view.View.{View}
use Rattle.core_state.proofs.Steps.{view-step}
use Rattle.core_guard.proofs.Leaving.{Acts, if_some_map, lawful}
use Rattle.core_guard.proofs.NodesLeft.{TreePart, LeavesPool, owner-stays, pool-stays, same-nodes, together}
use Rattle.core_guard.proofs.Seats.{stepped, stayed, HasSeat, SeatAfter, each-seat, has-seat, seat-after, seat-has, seen_of}
use Rattle.core_update.proofs.OneArena.{arena-of-one}
use Rattle.core_update.proofs.OtherUpdate.{ChangesUpdate, each-update, has-update}
use Rattle.core_update.proofs.Rebuilt.{Rebuilds, changes, rebuilt, IsAlone}

module _ (kind : Kind) (core : Core) (step : Step) (a : Acts core step) (next : Option Rebuild) (b : Rebuilds kind core step next) (alone : IsAlone core step) where
  abbrev nodes : Nodes
  nodes = a.laws.nodes

  abbrev Old : Sight
  Old = sight node_scope core

  abbrev New : Sight
  New = sight node_scope (after_step kind core step)

  abbrev Seen : Option Rebuild
  Seen = option_map update_on_nodes next

  no-view : (o : Option Rebuild) → o ≡ None → option_map update_on_nodes o ≡ None
  no-view o e = ap (option_map update_on_nodes) e

  pub changed : ChangesUpdate Old New.passes step.number (seen_of node_scope step.number step.view) Seen
  changed = changes kind core step a next b alone node_scope (λ k v. refl) update_on_nodes refl (λ number view e. no-view view.rebuild e)

  -- what an update has to say of nodes and arenas
  pub record SaysOfNodes (r : Rebuild) : Type 0 where
    pub published : r.is_planned ≡ true → core.config.layers ≤ length r.swapped
    pub in_arena : (n : ℕ) → Contains r.nodes n → IsSomeAnd r.arena (λ old. IsInArena core.config (1 - old) n)
    pub named : NamesArena New r

  abbrev Replaces : Name → ℕ → Rebuild → Type 0
  Replaces name n r = (r.is_reclaimed ≡ false) × IsOfReplaced core.config r name n

  -- what is to be shown; nodes that stand then have the homes that they had, and those that are to be given back are the pass's
  pub record UpdateHolds (later : Nodes) : Type 0 where
    pub in_use : (n : ℕ) → node_count core.config ≤ n → later.home n ≡ spare
    pub arenas : (n : ℕ) → n < core.config.nodes → later.home n ≢ spare
    pub stood : (n : ℕ) → Stands (later.home n) → later.home n ≡ nodes.home n
    pub unmade : (n number l : ℕ) → nodes.home n ≢ made number l
    pub returned : (n number : ℕ) → later.home n ≡ returning number → (n < core.config.nodes) × (number ≡ step.number) × IsSomeAnd Seen (λ r. r.is_reclaimed ≡ true)
    pub main : (n l : ℕ) → nodes.home n ≡ under (Main l) → IsInArena core.config (arena_of Old (Old.word Arena) l) n → IsInArena core.config (arena_after l (New.word Arena) next) n
    pub says : IfSome Seen SaysOfNodes
    pub update : ((New.word Update ≡ suc step.number) × IsSome next) ⊎ ((New.word Update ≡ 0) × (next ≡ None))
    pub superseded : (n : ℕ) (name : Name) → later.home n ≡ superseded step.number name → IsSomeAnd (option_map update_on_nodes step.view.rebuild) (Replaces name n) → IsSomeAnd Seen (Replaces name n)
    pub arena : New.word Arena < 2
    pub idle : IfSome Seen (λ r. IsNone r.arena) → (n : ℕ) → IsInArena core.config (1 - New.word Arena) n → later.home n ≡ spare

  module _ (later : Nodes) (u : UpdateHolds later) where
    own-seat : HasSeat node_scope (λ k v. refl) (after_step kind core step) step.number (λ v. v.rebuild ≡ Seen)
    own-seat = record {
      seat = step.seat;
      view = view_after kind core step;
      at = view-step kind core step a.at;
      pass = a.pass;
      holds = ap (λ (v : View). option_map update_on_nodes v.rebuild) (rebuilt kind core step a next b);
    }

    -- of the own update alone
    own-update : (number : ℕ) (P : Option Rebuild → Type 0) → ¬ P None → HasPass New number (λ v. P v.rebuild) → (number ≡ step.number) × P Seen
    own-update number P none has =
        let from = has-seat node_scope (λ k v. refl) (after_step kind core step) number (λ v. P v.rebuild) has in
        go from (seat-after node_scope (λ k v. refl) kind core step a.at a.pass from.seat number from.view from.at from.pass)
      where
        go : (from : HasSeat node_scope (λ k v. refl) (after_step kind core step) number (λ v. P v.rebuild)) → SeatAfter node_scope (λ k v. refl) kind core step a.at a.pass from.seat number from.view → (number ≡ step.number) × P Seen
        go from (stepped same one two) = (sym two, subst P (ap (λ (v : View). option_map update_on_nodes v.rebuild) (sym one ∙ rebuilt kind core step a next b)) from.holds)
        go from (stayed apart old) = absurd (none (subst P (no-view from.view.rebuild (alone from.seat number from.view apart old from.pass)) from.holds))

    own-shows : (number : ℕ) (P : Option Rebuild → Type 0) → number ≡ step.number → P Seen → HasPass New number (λ v. P v.rebuild)
    own-shows number P same h =
        subst (λ (k : ℕ). HasPass New k (λ v. P v.rebuild)) (sym same)
        (seat-has node_scope (λ k v. refl) (after_step kind core step) step.number (λ v. P v.rebuild)
        (record { seat = own-seat.seat; view = own-seat.view; at = own-seat.at; pass = own-seat.pass; holds = subst P (sym own-seat.holds) h }))

    alone-after : (other n : ℕ) (v : View) → other ≢ step.seat → IsViewAt (after_step kind core step) other v → IsPass v n → v.rebuild ≡ None
    alone-after other n v apart found is = go (seat-after node_scope (λ k w. refl) kind core step a.at a.pass other n v found is)
      where
        go : SeatAfter node_scope (λ k w. refl) kind core step a.at a.pass other n v → v.rebuild ≡ None
        go (stepped same one two) = absurd (apart same)
        go (stayed else old) = alone other n v else old is

    arena-now : (named layer : ℕ) → arena_of New named layer ≡ arena_after layer named next
    arena-now named layer =
        arena-of-one (after_step kind core step) step.seat step.number (view_after kind core step) (view-step kind core step a.at) a.pass alone-after named layer
        ∙ ap (λ (v : View). arena_after layer named v.rebuild) (rebuilt kind core step a next b)

    was-in : (n : ℕ) (home : Home) → Stands home → later.home n ≡ home → nodes.home n ≡ home
    was-in n home stands e = sym (u.stood n (subst Stands (sym e) stands)) ∙ e

    unmade-says : (o : Option Rebuild) → IfSome o SaysOfNodes → (l n : ℕ) → ¬ IsSomeAnd o (λ r. IsMadeIn core.config r l n)
    unmade-says None says l n h = h
    unmade-says (Some r) says l n h = let all = says.published h.0 in let few = h.1 in let low = h.2 in omega arith

    some-seen : (o : Option Rebuild) → IsSome (option_map update_on_nodes o) → IsSome o
    some-seen None h = h
    some-seen (Some r) h = refl

    seen-some : (o : Option Rebuild) → IsSome o → IsSome (option_map update_on_nodes o)
    seen-some None h = h
    seen-some (Some r) h = refl

    pub tree-next : TreePart later New
    tree-next = record {
      in_use = u.in_use;
      arenas = u.arenas;
      slot_trees = λ n l t e. a.laws.places.slot_trees n l t (was-in n (under (Slot l t)) tt e);
      main_trees = λ n l e.
          let was = was-in n (under (Main l)) tt e in
          subst (λ (x : ℕ). IsInArena core.config x n) (sym (arena-now (New.word Arena) l)) (u.main n l was (a.laws.places.main_trees n l was));
      made_trees = λ n number l e. absurd (u.unmade n number l (was-in n (made number l) tt e));
      made_by = λ n number l. (
        λ e. absurd (u.unmade n number l (was-in n (made number l) tt e)),
        λ has. absurd (unmade-says Seen u.says l n (own-update number (λ o. IsSomeAnd o (λ r. IsMadeIn core.config r l n)) (λ none. none) has).1),
      );
      in_arena = each-update nodes Old New.passes step.number (seen_of node_scope step.number step.view) Seen changed (λ k v r. (n : ℕ) → Contains r.nodes n → IsSomeAnd r.arena (λ old. IsInArena core.config (1 - old) n))
          (if_some_map Seen _ _ (λ r says. says.in_arena) u.says);
      update = λ number. (
        λ e.
            elim (u.update) [
              | inl t ↦
                  let same : number ≡ step.number = let now = t.0 in omega arith in
                  own-shows number (λ o. IsSome o) same (seen-some next t.1)
              | inr t ↦ let now = t.0 in absurd (omega arith)
            ],
        λ has.
            let own = own-update number (λ o. IsSome o) (λ none. false≢true none) has in
            elim (u.update) [
              | inl t ↦ t.0 ∙ ap suc (sym own.0)
              | inr t ↦ absurd (false≢true (subst IsSome t.1 (some-seen next own.1)))
            ],
      );
      superseded_by = λ n number name e.
          let was = was-in n (superseded number name) tt e in
          has-update nodes Old New.passes step.number (seen_of node_scope step.number step.view) Seen changed number (Replaces name n) (Replaces name n) (a.laws.places.superseded_by n number name was)
          (λ same some. u.superseded n name (subst (λ (k : ℕ). later.home n ≡ superseded k name) same e) some);
      returning_by = λ n number e.
          let t = u.returned n number e in (
            t.0,
            own-shows number (λ o. IsSomeAnd o (λ r. r.is_reclaimed ≡ true)) t.1 t.2,
          );
      arena = u.arena;
      named = each-update nodes Old New.passes step.number (seen_of node_scope step.number step.view) Seen changed (λ k v r. NamesArena New r) (if_some_map Seen _ _ (λ r says. says.named) u.says);
      idle = λ unread n inside. u.idle (subst (λ (o : Option Rebuild). IfSome o (λ r. IsNone r.arena)) own-seat.holds
          (each-seat node_scope (λ k v. refl) (after_step kind core step) (λ k v. IfSome v.rebuild (λ r. IsNone r.arena)) unread own-seat.seat step.number own-seat.view own-seat.at own-seat.pass)) n inside;
    }

  -- ---- a step after which the nodes are as before, but for the pass

  module _ (names : (step.name ≡ Update) ⊎ (step.name ≡ Arena)) where
    pub leaves-pool : LeavesPool kind core step
    leaves-pool =
        let last = rebuilt kind core step a next b in
        record {
          head = λ same. elim names [ inl e ↦ let no = same ∙ e in absurd cc | inr e ↦ let no = same ∙ e in absurd cc ];
          next = λ n same. elim names [ inl e ↦ let no = same ∙ e in absurd cc | inr e ↦ let no = same ∙ e in absurd cc ];
          count = λ same. elim names [ inl e ↦ let no = same ∙ e in absurd cc | inr e ↦ let no = same ∙ e in absurd cc ];
          task = ap (λ (v : View). task_on_pool v.call.task) last;
          lock = λ pooling held. subst (λ (v : View). Holds v (pool_lock core.config) Write) (sym last) held;
        }

    -- where it has the nodes that it had
    pub places-same : nodes_in next ≡ nodes_in step.view.rebuild → UpdateHolds nodes → NodesInOnePlace nodes (after_step kind core step)
    places-same same holds =
        let last = rebuilt kind core step a next b in
        together (after_step kind core step) nodes (pool-stays kind core step (lawful a) nodes (λ n. (λ e. e, λ e. e)) leaves-pool)
        (owner-stays kind core step (lawful a)
        (same-nodes kind core step (ap (λ (v : View). flat_map (λ (x : Batch). x.nodes) v.batches) last) (ap (λ (v : View). v.loose) last) (ap (λ (v : View). nodes_in v.rebuild) last ∙ same)))
        (tree-next nodes holds)
