-- The bodies are covered where a batch was attached.
use Rattle.std.proofs.Common.{◌≡◌, ◌≢◌, ℕ, ◌<◌, Option, Some, Contains, IsSomeAnd, ap, sym, ◌∙◌, subst, inl, arith}
use Rattle.std.proofs.lemmas.Option.{same_Some}
use Rattle.scene_model.specs.declared.body_view.Phase.TheVariants.{In}
use Rattle.scene_model.specs.Scene.{Record, record_at}
use Rattle.scene_model.specs.Step.{HasBody, in_phase}
use Rattle.scene_model.specs.History.{scene_after}
use Rattle.word_map.specs.declared.name.Name.TheVariants.{Phase, LocA, Slot}
use Rattle.core_state.specs.declared.view.Marked.{Marked}
use Rattle.core_state.specs.Core.{Core, word_of, scene_of}
use Rattle.core_state.specs.Encoding.{place, slot_tree}
use Rattle.core_state.specs.Nodes.{Nodes, under, IsInTree, IsPublished, IsOfLayer}
use Rattle.core_state.specs.Updates.{IsOldTree}
use Rattle.core_state.specs.BodiesCovered.{BodiesCovered, IsCovered}
use Rattle.core_state.specs.Batches.{attach}
use Rattle.core_guard.proofs.Leaving.{Acts, Leaves, if_some_map}
use Rattle.core_guard.proofs.CoverLeft.{Now, as_it_was, off_trees, IsOff, IsFresh, BodiesCovered-leaves}
use Rattle.core_batch.proofs.Attaching.{Attaching, step_of, no_tree, was_home, IsJoining}
use Rattle.core_batch.proofs.Attached.{nodes_after, home-inside, past-after, scene_then, joins, stays, becomes, core_after, word-other, stays-so}

module _ (core : Core) (a : Attaching core) (acts : Acts core (step_of core a)) where
  abbrev Later : Nodes
  Later = nodes_after acts.laws.nodes core a

  -- ---- the new tree

  under_slot : (n : ℕ) → Contains a.batch.nodes n → Later.home n ≡ under (Slot a.layer a.slot)
  under_slot n inside = home-inside acts.laws.nodes core a n inside

  -- no tree stood in the slot before
  treeless : (root : ℕ) → word_of core (Slot a.layer a.slot) ≢ slot_tree root
  treeless = no_tree core a acts.formed acts.laws

  module _ (m : Leaves attach core (step_of core a) acts.laws.nodes Later (λ n. Contains a.batch.nodes n)) where
    fresh : IsFresh attach core (step_of core a) Later (λ n. Contains a.batch.nodes n)
    fresh = record {
      unreplaced = λ number view among pass.
          if_some_map view.rebuild _ _
          (λ r kept n inside old.
          let t = subst (IsOldTree r) (under_slot n inside) old in
          treeless t.0 (kept.stand a.layer a.slot t.0 t.1))
          (acts.laws.cover.merged number view among pass);
      seen = λ n number name inside gone. absurd cc (sym (under_slot n inside) ∙ gone);
    }

    -- ---- bodies

    scene_now : (i : ℕ) → record_at (scene_of (core_after core a)) i ≡ record_at (scene_then core a) i
    scene_now i = ap (λ (l : _). record_at (scene_after core.config.bodies l) i) (past-after core a acts.formed acts.laws)

    -- a body that joins stands in the new tree, and stood in none
    module _ (marked : Marked) (i : ℕ) (j : IsJoining core a.layer a.slot a.batch marked i) (now : record_at (scene_then core a) i ≡ Some (in_phase In j.body)) where
      joined_node : (n k : ℕ) → k < 4 → word_of (core_after core a) (LocA i) ≡ place n k → Contains a.batch.nodes n
      joined_node n k below location =
          let first : place j.entered.node j.entered.child ≡ place n k = sym (j.first ∙ j.entered.at) ∙ (sym (word-other core a (LocA i) (λ e. absurd cc)) ∙ location) in
          let low = j.entered.below in
          subst (λ (x : ℕ). Contains a.batch.nodes x) (omega arith) j.entered.in_batch

      joined_layer : (l : ℕ) → HasBody (scene_of (core_after core a)) i (λ r. r.layer ≡ l) → a.layer ≡ l
      joined_layer l body = sym j.in_layer ∙ subst (λ (o : Option Record). IsSomeAnd o (λ r. r.layer ≡ l)) (scene_now i ∙ now) body

      joins-so : IsOff attach core (step_of core a) acts.laws.nodes Later i
      joins-so = record {
        covered = record {
          covered = λ r e inside.
              let same : in_phase In j.body ≡ r = same_Some (in_phase In j.body) r (sym (scene_now i ∙ now) ∙ e) in
              let home = under_slot j.entered.node j.entered.in_batch in
              subst (λ (b : Record). IsCovered Later (Now attach core (step_of core a)) i b.layer) same (
                j.entered.node,
                j.entered.child,
                (j.entered.below, inl (word-other core a (LocA i) (λ e. absurd cc) ∙ (j.first ∙ j.entered.at))),
                subst IsPublished (sym home) tt,
                subst (IsOfLayer j.body.layer) (sym home) (ap Some (sym j.in_layer)),
              );
          replaced = λ n k number name below location gone. absurd cc (sym (under_slot n (joined_node n k below location)) ∙ gone);
        };
        off = λ n k below location inside. subst IsInTree (was_home core a acts.formed acts.laws n (joined_node n k below location)) inside;
        unjoined = λ l t root body joins names.
            let phase = j.phase in
            let now_phase = word-other core a (Phase i) (λ e. absurd cc) in
            let slot : t ≡ a.slot = omega arith in
            treeless root (ap (λ (x : ℕ). word_of core (Slot x a.slot)) (joined_layer l body) ∙ (ap (λ (x : ℕ). word_of core (Slot l x)) (sym slot) ∙ names));
        calm = λ h. h;
      }

    -- ---- the law

    pub BodiesCovered-attach : BodiesCovered Later (core_after core a)
    BodiesCovered-attach =
        BodiesCovered-leaves attach core (step_of core a) acts acts.laws.nodes Later (λ n. Contains a.batch.nodes n) m acts.laws.cover fresh
        (λ i.
        elim (becomes core a acts.formed acts.laws acts.guards i) [
          | joins marked among j was now ↦ off_trees (joins-so marked i j now)
          | stays apart is ↦ as_it_was (stays-so core a i (scene_now i ∙ is))
        ])
