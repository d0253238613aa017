-- A preparation that was begun, and one of no bodies.
use Rattle.std.proofs.Common.{◌≡◌, ◌⊎◌, ℕ, ◌<◌, ◌≤◌, List, [], ◌∷◌, All, length, map, Err, inl, inr, refl, ap, sym, ◌∙◌, subst, arith}
use Rattle.word_map.specs.declared.config.TheConstants.{MAX_BODIES}
use Rattle.core_state.specs.declared.view.View.{View}
use Rattle.core_state.specs.View.{IsPass}
use Rattle.pass_table.specs.declared.turn.Turn.TheVariants.{Done}
use Rattle.pass_table.specs.Holding.{IsAtRest}
use Rattle.pass_table.specs.Bodies.{IsCurrent}
use Rattle.pass_table.specs.Turning.{MadeBy}
use Rattle.pass_table.proofs.Turning.{still-made}
use Rattle.batch_add.specs.declared.answers.PrepareRefused.TheVariants.{Empty as NoBodies}
use Rattle.batch_add.specs.declared.prepare_op.PrepareStage.TheVariants.{Empty, Searching}
use Rattle.batch_add.specs.declared.prepare_op.PrepareOp.{PrepareOp}
use Rattle.pass_table.specs.Work.{begun}
use Rattle.batch_add.specs.stages.Searching.{IsSearching}
use Rattle.batch_add.specs.stages.Preparing.{ids_of, count_of, need_of, CanPlan, AtPrepare, IsPreparing, entry_at, IsPrepareTurn}
use Rattle.pass_table.proofs.Working.{worked-begun, worked-done}
use Rattle.tree_plan.specs.declared.node_count.TheConstants.{MAX_TREE_BODIES}

-- with no bodies nothing is done
pub empty-turn : (op : PrepareOp) (view : View) (number : ℕ) → IsPass view number → op.stage ≡ Empty → IsPrepareTurn (Done (Err NoBodies)) op op view view
empty-turn op view number pass at = record {
  step = inl refl;
  made = subst (MadeBy view view) (sym (ap (entry_at op) at)) (still-made view number pass);
  turned = tt;
  loads = tt;
  keeps = λ first start h. tt;
  answered = λ first start h.
      let a : AtPrepare op start view Empty = subst (AtPrepare op start view) at h.at in
      record { none = sym h.ids ∙ a.0; done = worked-done start view (begun start) a.1 h.wanted.rest refl (λ lock. refl) };
}

none-there : {A : Type 0} (l : List A) → length l ≡ 0 → l ≡ []
none-there [] none = refl
none-there (x ∷ l) none = absurd (omega arith)

pub few-enough : (a b c : ℕ) → a ≡ b → b ≤ c → c ≤ MAX_BODIES → a ≤ MAX_TREE_BODIES
few-enough a b c same less most = omega arith

pub same-most : (a b c : ℕ) → a ≡ b → c ≡ b → a ≤ c
same-most a b c same most = omega arith

-- with all that it needs it is begun
module _ (op : PrepareOp) (view : View) (number : ℕ) (pass : IsPass view number) (rest : IsAtRest view) (current : ∥ IsCurrent view ∥₁)
    (in_layers : op.layer < view.config.layers) (below : All (λ id. id.index < view.config.bodies) (ids_of op)) (few : count_of op ≤ MAX_TREE_BODIES)
    (layer : op.search.layer ≡ op.layer) (searching : IsSearching op.search view op.search view) (taking : op.taking.count ≡ need_of op) (nodes : length op.taking.nodes.items ≡ need_of op)
    (bodies : length op.marking.bodies.items ≡ count_of op) (plans : CanPlan (count_of op) op.plans) (indexes : op.indexes.items ≡ map (λ id. id.index) (ids_of op)) where
  begun_at : ((count_of op ≡ 0) × (op.stage ≡ Empty)) ⊎ ((0 < count_of op) × (op.stage ≡ Searching)) → AtPrepare op view view op.stage
  begun_at (inl none) = subst (AtPrepare op view view) (sym none.1) (none-there (ids_of op) none.0, worked-begun view number pass rest)
  begun_at (inr some) =
      subst (AtPrepare op view view) (sym some.1) (
        some.0,
        record { mid = view; first = op.search; so = record { here = refl; layer = layer }; goes = searching },
        taking,
        nodes,
        record { bodies = bodies; plans = record { plans = plans; indexes = indexes } },
      )

  pub preparing-begun : ((count_of op ≡ 0) × (op.stage ≡ Empty)) ⊎ ((0 < count_of op) × (op.stage ≡ Searching)) → (next : View) → next ≡ view → IsPreparing op view op next
  preparing-begun stage next still = subst (IsPreparing op view op) (sym still) (record { layer = refl; ids = refl; wanted = record { in_layers = in_layers; below = below; few = few; rest = rest; current = current }; at = begun_at stage })
