-- A drawing that was begun, and what it answers by the bodies in another order.
use Rattle.std.proofs.Common.{◌≡◌, ℕ, ◌<◌, true, false, List, Contains, map, refl, sym, ◌∙◌, ap, subst, arith}
use Rattle.std.specs.Prelude.{All}
use Rattle.std.specs.List.Sorted.{IsPermutation}
use Rattle.std.proofs.lemmas.List.{same_from_push}
use Rattle.std.proofs.lemmas.List.Sorted.{IsPermutation-sym, Contains-permutation, length_permutation}
use Rattle.fixed_box.specs.declared.fix_box.FixBox.{FixBox}
use Rattle.tree_plan.specs.Plan.{Plan, node_count, IsPlanOf}
use Rattle.tree_plan.proofs.Order.{AreApart-permutation}
use Rattle.tree_bounds.specs.Bounds.{AreBoundsOf}
use Rattle.tree_bounds.specs.Held.{HeldBounds, bound_of}
use Rattle.tree_bounds.proofs.Sets.{IsPlanOf-permutation, AreBoundsOf-permutation}
use Rattle.core_state.specs.declared.view.Marked.{Marked}
use Rattle.core_state.specs.declared.view.Batch.{Batch}
use Rattle.core_state.specs.declared.view.View.{View}
use Rattle.core_state.specs.View.{IsPass}
use Rattle.core_batch.proofs.Lists.{contains_map, map_from}
use Rattle.pass_table.specs.Holding.{IsAtRest}
use Rattle.batch_add.specs.declared.tree_drawing.TreeDrawing.{TreeDrawing}
use Rattle.pass_table.specs.Work.{begun, HasWorked}
use Rattle.batch_add.specs.Drawing.{IsMarkedAs, HasBodies}
use Rattle.batch_add.specs.Parts.{IsNewest, marked_as, HasDrawn}
use Rattle.batch_add.specs.stages.DrawStages.{Planned, IsToDraw, IsBegun, before_child, IsDrawnFrom, HasDrawnUpTo, HasDrawnAll}
use Rattle.batch_add.proofs.Levels.{node-there}
use Rattle.pass_table.proofs.Working.{worked-begun, worked-loosely}

-- ---- the bodies of the batch

-- bodies that are marked in order are those of the batch, in any order
marked-bodies : (batch : Batch) (bodies sorted : List (ℕ × FixBox)) → batch.marked ≡ map marked_as bodies → IsPermutation bodies sorted → HasBodies batch sorted
marked-bodies batch bodies sorted marked same = record {
  each = λ m among.
      let t = map_from marked_as bodies m (subst (λ (l : List Marked). Contains l m) marked among) in
      (t.0, Contains-permutation bodies sorted t.0 same t.1, subst (λ (x : Marked). IsMarkedAs x t.0) t.2 (record { index = refl; bounds = refl }));
  all = λ body among. (
    marked_as body,
    subst (λ (l : List Marked). Contains l (marked_as body)) (sym marked) (contains_map marked_as bodies body (Contains-permutation sorted bodies body (IsPermutation-sym bodies sorted same) among)),
    record { index = refl; bounds = refl },
  );
}

-- none of them is placed
marked-waiting : (batch : Batch) (bodies : List (ℕ × FixBox)) → batch.marked ≡ map marked_as bodies → (m : Marked) → Contains batch.marked m → m.is_placed ≡ false
marked-waiting batch bodies marked m among =
    let t = map_from marked_as bodies m (subst (λ (l : List Marked). Contains l m) marked among) in
    ap (λ (x : Marked). x.is_placed) (sym t.2)

each_of : {X : Type 0} (P : X → Type 0) (xs : List X) → All P xs → (x : X) → Contains xs x → P x
each_of P xs all x among = subst P among.2 (all among.0 x among.1)

module _ (view : View) (bodies sorted : List (ℕ × FixBox)) (nodes : List ℕ) (plan : Plan) (bounds : HeldBounds) (to : IsToDraw view bodies nodes) (rest : IsAtRest view)
    (same : IsPermutation bodies sorted) (planned : IsPlanOf bodies plan) (bounded : AreBoundsOf sorted plan (bound_of bounds)) (all : bounds.nodes ≡ node_count plan) where
  abbrev planned_so : Planned
  planned_so = record { plan = plan; bound = bound_of bounds; bounded = bounds.nodes; nodes = nodes; bodies = sorted }

  begun_so : IsBegun planned_so view to.before to.batch
  begun_so = record {
    rest = rest;
    newest = to.newest;
    nodes = to.nodes_are;
    many = to.many ∙ sym planned.nodes;
    below = to.below;
    distinct = to.distinct;
    planned = IsPlanOf-permutation bodies sorted plan to.apart same planned;
    apart = AreApart-permutation bodies sorted same to.apart;
    some = let some = to.some in let size = length_permutation bodies sorted same in omega arith;
    all_bounded = all;
    bounds = bounded;
    indexes = λ body among. each_of (λ (b : ℕ × FixBox). b.0 < view.config.bodies) bodies to.indexes body (Contains-permutation sorted bodies body (IsPermutation-sym bodies sorted same) among);
  }

  pub drawing-begun : (number : ℕ) → IsPass view number → HasDrawnUpTo planned_so view view (before_child 0 0)
  drawing-begun number pass = record {
    before = to.before;
    batch = to.batch;
    begun_so = begun_so;
    drawn = to.batch;
    written = view.written;
    worked = subst (λ (l : List Batch). HasWorked view view (record (begun view) { batches = l; places = true })) to.newest (worked-loosely view view _ (worked-begun view number pass rest));
    from = record { layer = refl; slot = refl; nodes = refl; indexes = refl };
    of_batch = marked-bodies to.batch bodies sorted to.marked same;
    says = record {
      child = λ n k made few below. absurd (omega arith);
      bounds = λ n k q made few inside below some. absurd (omega arith);
      parent = λ n made below. absurd (omega arith);
    };
    only = refl;
    placed = record {
      placed = λ m among n k made few stands below. absurd (omega arith);
      waiting = λ m among n k made few stands past. marked-waiting to.batch bodies to.marked m among;
    };
  }

  -- there is a first node
  pub first-node : 0 < node_count plan
  first-node = node-there bodies plan planned to.some

-- ---- the answer

-- a batch that is drawn over bodies is drawn over them in any order
pub drawn-of-set : (bodies others : List (ℕ × FixBox)) (before : List Batch) (start next : View) (drawn : Batch) → IsPermutation bodies others → HasDrawn bodies before start next drawn → HasDrawn others before start next drawn
drawn-of-set bodies others before start next drawn same has =
    let tree = has.tree in
    record {
      written = has.written;
      done = has.done;
      plan = has.plan;
      bound = has.bound;
      tree = record {
        planned = IsPlanOf-permutation bodies others has.plan tree.apart same tree.planned;
        apart = AreApart-permutation bodies others same tree.apart;
        some = let some = tree.some in let size = length_permutation bodies others same in omega arith;
        bounded = AreBoundsOf-permutation bodies others has.plan has.bound same tree.bounded;
        of_batch = record {
          each = λ m among. let t = tree.of_batch.each m among in (t.0, Contains-permutation bodies others t.0 same t.1, t.2);
          all = λ body among. tree.of_batch.all body (Contains-permutation others bodies body (IsPermutation-sym bodies others same) among);
        };
        nodes = tree.nodes;
        distinct = tree.distinct;
        says = tree.says;
        placed = tree.placed;
      };
      only = has.only;
    }

-- the newest batch of the pass, whatever it was known as
pub record IsDrawnNow (bodies : List (ℕ × FixBox)) (before : List Batch) (batch : Batch) (start next : View) : Type 0 where
  pub drawn : Batch
  pub from : IsDrawnFrom batch drawn
  pub has : HasDrawn bodies before start next drawn

pub drawn-newest : (first : TreeDrawing) (start : View) (last : TreeDrawing) (next : View) (bodies : List (ℕ × FixBox)) (before : List Batch) (batch : Batch) → IsNewest start before batch → IsPermutation bodies first.bodies.items → HasDrawnAll first start last next
    → IsDrawnNow bodies before batch start next
drawn-newest first start last next bodies before batch newest same has =
    let one = same_from_push has.before before has.batch batch (sym has.newest ∙ newest) in
    record {
      drawn = has.drawn;
      from = subst (λ (b : Batch). IsDrawnFrom b has.drawn) one.1 has.from;
      has =
          drawn-of-set first.bodies.items bodies before start next has.drawn (IsPermutation-sym bodies first.bodies.items same)
          (subst (λ (l : List Batch). HasDrawn first.bodies.items l start next has.drawn) one.0 has.has);
    }
