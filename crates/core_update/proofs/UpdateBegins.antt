-- Beginning an update keeps all laws: no pass has one under way, and the new one says nothing yet.
use Rattle.std.proofs.Common.{IsNone, None, Option, Some, ap, arith, cond, eqb, inl, inr, refl, subst, suc, sym, true, ℕ, ◌<◌, ◌∙◌, ◌≡◌, ◌≢◌, false}
use Rattle.std.proofs.lemmas.Bool.{cases_Bool, eqb-true, false≢true}
use Rattle.std.proofs.lemmas.Option.{same_Some}
use Rattle.std.specs.Prelude.{Bool, IfSome, IsSomeAnd, option_map, ⊤, ◌-◌}
use Rattle.word_map.specs.declared.name.Name.{Name}
use Rattle.word_map.specs.declared.name.Name.TheVariants.{Arena, Update}
use Rattle.core_state.specs.Core.{Core, IsViewAt, word_of}
use Rattle.core_state.specs.Encoding.{IsInArena}
use Rattle.core_state.specs.Guards.{KeepsGuards}
use Rattle.core_state.specs.Invariants.{Invariants}
use Rattle.core_state.specs.Kind.{Kind, Step, after_step, found_by, learned}
use Rattle.core_state.specs.Nodes.{Nodes, nodes_in}
use Rattle.core_state.specs.NodesInOnePlace.{NodesInOnePlace, node_scope, IsOfReplaced}
use Rattle.core_state.specs.Noting.{IsEarly, MayBeginUpdate, begin_update, new_update}
use Rattle.core_state.specs.Parts.{update_on_nodes}
use Rattle.core_state.specs.Scope.{Sight, sight}
use Rattle.core_state.specs.Updates.{arena_after}
use Rattle.core_state.specs.View.{IsPass}
use Rattle.core_state.specs.declared.view.Rebuild.{Rebuild}
use Rattle.core_state.specs.declared.view.View.{View}
use Rattle.core_state.proofs.Opening.{none_in}
use Rattle.core_state.proofs.Steps.{word-step, word-step-other}
use Rattle.core_guard.proofs.Holders.{IsGuarded, guarded, keeps}
use Rattle.core_guard.proofs.Leaving.{Acts}
use Rattle.core_guard.proofs.Seats.{each-seats}
use Rattle.core_guard.proofs.Touched.{IsKept, kept}
use Rattle.core_update.proofs.AtRest.{IsQuietUpdate, none-made, none-returning}
use Rattle.core_update.proofs.EarlySteps.{Invariants-early, NotesGoOn, quiet}
use Rattle.core_update.proofs.OneArena.{arena-of-one}
use Rattle.core_update.proofs.OtherUpdate.{HasPlan}
use Rattle.core_update.proofs.Rebuilt.{Invariants-nothing, IsAlone, Rebuilds}
use Rattle.core_update.proofs.UpdateNodes.{UpdateHolds, places-same}
use Rattle.core_update.proofs.Updating.{none-updates}

module _ (core : Core) (step : Step) (a : Acts core step) (asked : MayBeginUpdate step.view step.name step.first step.second) where
  abbrev kind : Kind
  kind = begin_update

  abbrev After : Core
  After = after_step kind core step

  entry : (value : ℕ) → kind.entry step.view step.name value ≡ None
  entry value = refl

  -- ---- the word was 0

  module _ (hit : eqb (found_by core step) step.first ≡ true) where
    abbrev new : Rebuild
    new = new_update (learned core step)

    none : word_of core Update ≡ 0
    none = ap (word_of core) (sym asked.names) ∙ (eqb-true (found_by core step) step.first hit ∙ asked.none)

    no-update : (seat number : ℕ) (view : View) → IsViewAt core seat view → IsPass view number → view.rebuild ≡ None
    no-update = none-updates core a.laws none

    own-none : step.view.rebuild ≡ None
    own-none = no-update step.seat step.number step.view a.at a.pass

    alone : IsAlone core step
    alone seat number view apart found is = no-update seat number view found is

    rebuilds : Rebuilds kind core step (Some new)
    rebuilds = record {
      hidden = λ stored. inl asked.names;
      entry = entry;
      leaves = ap (λ (t : Bool). cond t (record (learned core step) { rebuild = Some new }) (learned core step)) hit;
    }

    before : IfSome step.view.rebuild IsEarly
    before = subst (λ (o : Option Rebuild). IfSome o IsEarly) (sym own-none) tt

    after : IsEarly new
    after = record { unplanned = refl; placed = refl; given_up = refl; swapped = refl; cleared = refl; promoted = refl; readers = refl; unreclaimed = refl; returning = refl; unswitched = refl }

    quiet-now : (seat number : ℕ) (view : View) → IsViewAt core seat view → IsPass view number → IfSome view.rebuild (IsQuietUpdate core.config)
    quiet-now = quiet kind core step a (Some new) rebuilds alone before after

    -- ---- where nodes are

    abbrev nodes : Nodes
    nodes = a.laws.nodes

    abbrev New : Sight
    New = sight node_scope After

    other : (name : Name) → name ≢ Update → word_of After name ≡ word_of core name
    other name apart = word-step-other kind core step name (λ e. apart (e ∙ asked.names))

    arena-same : New.word Arena ≡ word_of core Arena
    arena-same = other Arena (λ e. absurd cc)

    update-now : New.word Update ≡ suc step.number
    update-now =
        ap (word_of After) (sym asked.names)
        ∙ (word-step kind core step ∙ (ap (λ (t : Bool). cond t step.second (found_by core step)) hit ∙ (asked.own ∙ ap suc (same_Some asked.number step.number (sym asked.pass ∙ a.pass)))))

    holds : UpdateHolds kind core step a (Some new) rebuilds alone nodes
    holds =
        let h = a.laws.places in
        record {
          in_use = h.in_use;
          arenas = h.arenas;
          stood = λ n inside. refl;
          unmade = none-made core a.laws quiet-now;
          returned = λ n number e. absurd (none-returning core a.laws quiet-now n number e);
          main = λ n l home inside.
              subst (λ (x : ℕ). IsInArena core.config x n)
              (arena-of-one core step.seat step.number step.view a.at a.pass alone (word_of core Arena) l ∙ (ap (λ (o : Option Rebuild). arena_after l (word_of core Arena) o) own-none ∙ sym arena-same)) inside;
          says = record { published = λ planned. absurd (false≢true planned); in_arena = λ n among. absurd (none_in n among); named = tt };
          update = inl (update-now, refl);
          superseded = λ n name home some. absurd (subst (λ (o : Option Rebuild). IsSomeAnd (option_map update_on_nodes o) (λ r. (r.is_reclaimed ≡ false) × IsOfReplaced core.config r name n)) own-none some);
          arena = subst (λ (x : ℕ). x < 2) (sym arena-same) h.arena;
          idle = λ unread n inside.
              h.idle
              (each-seats node_scope (λ k v. refl) core (λ k v. IfSome v.rebuild (λ r. IsNone r.arena))
              (λ seat number view found is. subst (λ (o : Option Rebuild). IfSome (option_map update_on_nodes o) (λ r. IsNone r.arena)) (sym (no-update seat number view found is)) tt))
              n (subst (λ (x : ℕ). IsInArena core.config (1 - x) n) arena-same inside);
        }

    homes : NodesInOnePlace nodes After
    homes = places-same kind core step a (Some new) rebuilds alone (inl asked.names) (sym (ap nodes_in own-none)) holds

    -- ---- notes

    notes : NotesGoOn nodes kind core step (Some new)
    notes = record {
      to_place = λ i l t root below. absurd (omega arith);
      notes = record {
        all_noted = λ i opened. let below = opened.0 in absurd (omega arith);
        still_there = λ n among. absurd (none_in n among);
        located = λ n among. absurd (none_in n among);
        in_old = λ n among. absurd (none_in n among);
        placed = λ i among. absurd (none_in i among);
        given_up = λ i among. absurd (none_in i among);
        once = λ i j d below inside. absurd (omega arith);
        passed = λ n among. absurd (none_in n among);
        boxes = λ n among. absurd (none_in n among);
        begun = omega arith;
      };
      merged = record {
        stand = λ l t root merged. let few = merged.2 in absurd (omega arith);
        read = λ m among. absurd (none_in m among);
        each_once = λ i j d below inside. absurd (omega arith);
      };
      early = refl;
    }

    begun : Invariants After
    begun =
        Invariants-early kind core step a (Some new) rebuilds alone before after
        (λ index n k placing plan. absurd (subst (λ (o : Option Rebuild). HasPlan o index n k) own-none plan))
        (λ index n k placing plan. absurd (none_in plan.0 plan.1)) notes homes

  Invariants-begins : Invariants After
  Invariants-begins =
      elim (cases_Bool (eqb (found_by core step) step.first)) [
        | inl hit ↦ begun hit
        | inr missed ↦
            Invariants-nothing kind core step a (λ stored. false≢true (sym missed ∙ stored)) entry
            (ap (λ (t : Bool). cond t (record (learned core step) { rebuild = Some (new_update (learned core step)) }) (learned core step)) missed)
      ]

  guards : KeepsGuards kind core step
  guards =
      keeps kind core step Update asked.names
      (λ stored seat number view apart found is.
      let none = none-updates core a.laws (ap (word_of core) (sym asked.names) ∙ (eqb-true (found_by core step) step.first stored ∙ asked.none)) seat number view found is in
      (λ holder. subst (λ (o : Option Rebuild). IsSomeAnd o (λ r. ⊤)) none holder, tt))

-- ---- kind 42

pub Invariants-begin_update : IsKept MayBeginUpdate begin_update
Invariants-begin_update = kept MayBeginUpdate begin_update (λ core step a asked. Invariants-begins core step a asked)

pub GuardsHold-begin_update : IsGuarded MayBeginUpdate begin_update
GuardsHold-begin_update = guarded MayBeginUpdate begin_update (λ core step a asked. guards core step a asked)
