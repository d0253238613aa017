-- Marking bodies that was begun.
use Rattle.std.specs.Prelude.{nat_eq, false}
use Rattle.std.proofs.Common.{◌≡◌, ℕ, ◌<◌, List, [], ◌++◌, ◌∷◌, All, length, take, refl, ap, sym, ◌∙◌, subst, arith}
use Rattle.std.proofs.lemmas.Map.Keys.{IsDistinct-from_apart}
use Rattle.fixed_box.specs.declared.fix_box.FixBox.{FixBox}
use Rattle.body_ident.specs.Id.{Id}
use Rattle.core_state.specs.declared.view.Mode.TheVariants.{Write}
use Rattle.core_state.specs.declared.view.Task.TheVariants.{Nothing}
use Rattle.core_state.specs.declared.view.Batch.{Batch}
use Rattle.core_state.specs.declared.view.View.{View}
use Rattle.core_state.specs.View.{IsPass}
use Rattle.pass_table.specs.Holding.{IsAtRest}
use Rattle.body_look.specs.declared.look_op.LookDepth.TheVariants.{Phase as ItsPhase}
use Rattle.body_look.specs.stages.Looking.{looking_of, IsLooking}
use Rattle.batch_add.specs.declared.mark_op.MarkStage.TheVariants.{Looking}
use Rattle.batch_add.specs.declared.mark_op.Marking.{Marking}
use Rattle.pass_table.specs.Work.{HasWorked, begun as begun_work}
use Rattle.batch_add.specs.Parts.{IsNewest, WereFree}
use Rattle.batch_add.specs.stages.Marking.{marks_of, current, IsForNewest, AreFirst, marks_work, AtMark, IsMarking}
use Rattle.pass_table.proofs.Working.{worked-begun}

-- nothing is marked yet
none_first : (ids : List Id) (all : List (ℕ × FixBox)) (n : ℕ) → n ≡ 0 → AreFirst (record { ids = ids; marked = n; bodies = take n all })
none_first ids all n none =
    subst (λ (m : ℕ). AreFirst (record { ids = ids; marked = m; bodies = take m all })) (sym none)
    (record { within = omega arith; many = refl; indexes = refl; apart = IsDistinct-from_apart nat_eq [] (λ i j d less below. absurd (omega arith)) })

nothing_done : (start : View) (before : List Batch) (batch : Batch) (all : List (ℕ × FixBox)) (n : ℕ) → n ≡ 0 → IsNewest start before batch → batch.marked ≡ [] → begun_work start ≡ marks_work start before batch (take n all) []
nothing_done start before batch all n none newest bare =
    (λ i. record {
      steps = [];
      task = Nothing;
      entries = [];
      stores = [];
      batches = (newest ∙ (λ j. before ++ (record batch { marked = bare j }) ∷ [])) i;
      loose = start.loose;
      written = start.written;
      places = false;
    })
    ∙ ap (λ (m : ℕ). marks_work start before batch (take m all) []) (sym none)

-- a marking is begun by a pass at rest
pub marking-begun : (operation : Marking) (view next : View) (number : ℕ) → operation.marked ≡ 0 → operation.stage ≡ Looking → IsPass view number → IsAtRest view
    → 0 < length operation.ids.items → length operation.bodies.items ≡ length operation.ids.items → All (λ id. id.index < view.config.bodies) operation.ids.items
    → ((before : List Batch) × (batch : Batch) × IsForNewest operation.layer operation.slot view before batch)
    → IsLooking (looking_of view.config (current (marks_of operation)) Write ItsPhase) view operation.look next → IsMarking operation view operation next
marking-begun operation view next number none at pass rest some room below newest goes = record {
  layer = refl;
  slot = refl;
  ids = refl;
  goes = record {
    before = newest.0;
    batch = newest.1;
    room = room;
    begun = record { for_newest = newest.2; below = below; rest = rest; first = none_first operation.ids.items operation.bodies.items operation.marked none };
    at =
        subst (AtMark view newest.0 newest.1 (marks_of operation) next operation.look) (sym at) (record {
          mid = view;
          between = record {
            next = omega arith;
            steps = [];
            free = λ lock. refl;
            worked = subst (HasWorked view view) (nothing_done view newest.0 newest.1 operation.bodies.items operation.marked none newest.2.newest newest.2.bare) (worked-begun view number pass rest);
            each = subst (λ (m : ℕ). WereFree newest.1.layer view view (take m operation.ids.items)) (sym none) (λ k d below. absurd (omega arith));
          };
          looking = goes;
        });
  };
}
