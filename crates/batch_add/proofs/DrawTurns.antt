-- What each turn of drawing a tree leaves.
use Rattle.std.proofs.Common.{◌≡◌, ◌≢◌, ℕ, suc, ◌+◌, ◌-◌, ◌*◌, ◌<◌, nat_eq, ltb, Bool, true, false, cond, List, [], ◌∷◌, ◌++◌, Contains, AllPairs, map, length, Some, None, refl, sym, ◌∙◌, ap, subst, inl, arith}
use Rattle.std.specs.Prelude.{flat_map}
use Rattle.std.specs.List.{IsDistinct}
use Rattle.std.proofs.lemmas.Bool.{ltb-true, ltb-false}
use Rattle.std.proofs.lemmas.List.Elements.{Contains-get_or}
use Rattle.fixed_box.specs.declared.fix_box.FixBox.{FixBox}
use Rattle.tree_plan.specs.declared.plan_child.PlanChild.{PlanChild}
use Rattle.tree_plan.specs.declared.plan_child.PlanChild.TheVariants.{Nothing, Body, Node}
use Rattle.tree_plan.specs.Plan.{node_count, child_at, parent_at}
use Rattle.tree_plan.proofs.OnePlace.{body_somewhere}
use Rattle.tree_bounds.specs.Bounds.{side}
use Rattle.word_map.specs.declared.config.Config.{Config}
use Rattle.word_map.specs.declared.name.Name.{Name}
use Rattle.word_map.specs.declared.name.Name.TheVariants.{Child as ChildWord, Bound as BoundWord, Parent as ParentWord, LocA}
use Rattle.core_state.specs.declared.view.Task.TheVariants.{Nothing as NoTask}
use Rattle.core_state.specs.declared.item.Store.{Store}
use Rattle.core_state.specs.declared.view.Marked.{Marked}
use Rattle.core_state.specs.declared.view.Batch.{Batch}
use Rattle.core_state.specs.declared.view.View.{View}
use Rattle.core_state.specs.View.{IsPass}
use Rattle.core_state.specs.Event.{stores_node, places as places_one, of_batches}
use Rattle.core_state.specs.Encoding.{place}
use Rattle.core_state.specs.Nodes.{node_in}
use Rattle.core_state.specs.Batches.{change_marked, also_written, written_outside, MayStoreNode, store_node, MayPlace, place_body}
use Rattle.core_batch.proofs.Lists.{contains_map}
use Rattle.core_batch.proofs.Mapped.{AreOtherBodies, own-marks}
use Rattle.pass_table.specs.declared.turn.Turn.{Turn}
use Rattle.pass_table.specs.declared.turn.Turn.TheVariants.{Done, More}
use Rattle.pass_table.specs.Stepping.{Stored}
use Rattle.pass_table.specs.Turning.{AtMostOneStep, MadeBy}
use Rattle.pass_table.specs.Calls.{StoresWord}
use Rattle.pass_table.proofs.Knowing.{step-alone}
use Rattle.pass_table.proofs.Turning.{one-step}
use Rattle.pass_table.proofs.Calling.{stores-word, stored-made}
use Rattle.batch_add.specs.declared.draw_stage.DrawStage.{DrawStage}
use Rattle.batch_add.specs.declared.draw_stage.DrawStage.TheVariants.{Child, Side, Placing, Parent}
use Rattle.batch_add.specs.declared.tree_drawing.TreeDrawing.{TreeDrawing}
use Rattle.pass_table.specs.Work.{is_shown, HasWorked}
use Rattle.batch_add.specs.Drawing.{node_at, child_word, parent_word, SaysPlanBy, ArePlaced, HasWritten, WritesOnly}
use Rattle.batch_add.specs.Parts.{HasDrawn}
use Rattle.batch_add.specs.stages.DrawStages.{Planned, planned_of, Reached, before_child, reached, next_child, after_child, after_sides, after_side, SaysUpTo, ArePlacedUpTo, drawing_work, HasDrawnUpTo, AtDraw, stage_left, IsDrawTurn}
use Rattle.batch_add.specs.stages.DrawLater.{newest-among, drawn-nodes, node-inside, node-own}
use Rattle.pass_table.proofs.WorkLater.{worked-pass, worked-sizes, worked-batches, worked-loose, worked-written}
use Rattle.pass_table.proofs.Working.{worked-untold, worked-done}
use Rattle.batch_add.proofs.DrawWords.{StoresBeside, child-said, side-said, parent-said, sides-passed}
use Rattle.batch_add.proofs.Written.{written-beside, outside-also}
use Rattle.batch_add.proofs.DrawMarks.{placed_at, with_placed, placed-from, placed-bodies, body-placed, places-passed, batches-placed, others-apart}

-- ---- turns

-- a turn that goes on to a stage
pub went-on : (turn : Turn (Unit {0})) (before new : TreeDrawing) (stage after : DrawStage) (view next : View) → turn ≡ More → new ≡ record before { stage = after } → before.stage ≡ stage
    → AtMostOneStep view next → MadeBy view next None → stage_left (node_count before.planner) after < stage_left (node_count before.planner) stage
    → ((start : View) → AtDraw (planned_of before) start view stage → AtDraw (planned_of before) start next after) → IsDrawTurn turn before new view next
went-on turn before new stage after view next goes is at step made less keeps =
    subst (λ (t : Turn (Unit {0})). IsDrawTurn t before new view next) (sym goes)
    (subst (λ (o : TreeDrawing). IsDrawTurn More before o view next) (sym is) (record {
      step = step;
      made = made;
      turned = inl (subst (λ (s : DrawStage). stage_left (node_count before.planner) after < stage_left (node_count before.planner) s) (sym at) less);
      loads = tt;
      keeps = λ first start drawing. (drawing.0, keeps start (subst (AtDraw (planned_of before) start view) at drawing.1));
      answered = λ first start drawing. tt;
    }))

-- ---- so many turns less

next-less : (count n k : ℕ) → k < 4 → stage_left count (next_child n k) < 33 * (count - suc n) + 8 * (4 - k) - 6
next-less count n k few = go (ltb k 3) refl
  where
    go : (t : Bool) → ltb k 3 ≡ t → stage_left count (cond t (Child n (k + 1)) (Parent n)) < 33 * (count - suc n) + 8 * (4 - k) - 6
    go true e = let less : k < 3 = ltb-true k 3 e in omega arith
    go false e = let last = ltb-false k 3 e in omega arith

sides-less : (count n k : ℕ) (e : PlanChild) → k < 4 → stage_left count (after_sides n k e) < 33 * (count - suc n) + 8 * (4 - k) - 5
sides-less count n k Nothing few = let less = next-less count n k few in omega arith
sides-less count n k (Body index) few = omega arith
sides-less count n k (Node m) few = let less = next-less count n k few in omega arith

pub child-less : (count n k : ℕ) (e : PlanChild) → k < 4 → stage_left count (after_child n k e) < stage_left count (Child n k)
child-less count n k Nothing few = let less = next-less count n k few in omega arith
child-less count n k (Body index) few = omega arith
child-less count n k (Node m) few = omega arith

pub side-less : (count n k q : ℕ) (e : PlanChild) → k < 4 → q < 6 → stage_left count (after_side n k q e) < stage_left count (Side n k q)
side-less count n k q e few inside = go (ltb q 5) refl
  where
    go : (t : Bool) → ltb q 5 ≡ t → stage_left count (cond t (Side n k (q + 1)) (after_sides n k e)) < stage_left count (Side n k q)
    go true e = let less : q < 5 = ltb-true q 5 e in omega arith
    go false t = let last = ltb-false q 5 t in let less = sides-less count n k e few in omega arith

pub placing-less : (count n k index : ℕ) → k < 4 → stage_left count (next_child n k) < stage_left count (Placing n k index)
placing-less count n k index few = next-less count n k few

pub parent-less : (count n : ℕ) → suc n < count → stage_left count (Child (n + 1) 0) < stage_left count (Parent n)
parent-less count n more = omega arith

-- ---- how far it is

module _ (p : Planned) (start view : View) where
  -- the same, by other numbers
  drawn-at : (r s : Reached) → r.children ≡ s.children → r.sides ≡ s.sides → r.places ≡ s.places → r.parents ≡ s.parents → HasDrawnUpTo p start view r → HasDrawnUpTo p start view s
  drawn-at r s children sides places parents h = subst (HasDrawnUpTo p start view) (λ i. record { children = children i; sides = sides i; places = places i; parents = parents i }) h

  -- no body stands at the place
  pass-place : (n k : ℕ) (children sides parents : ℕ) → n < node_count p.plan → k < 4 → ((index : ℕ) → child_at p.plan n k ≢ Body index)
      → HasDrawnUpTo p start view (record { children = children; sides = sides; places = 4 * n + k; parents = parents })
      → HasDrawnUpTo p start view (record { children = children; sides = sides; places = suc (4 * n + k); parents = parents })
  pass-place n k children sides parents made few none h = record {
    before = h.before;
    batch = h.batch;
    begun_so = h.begun_so;
    drawn = h.drawn;
    written = h.written;
    worked = h.worked;
    from = h.from;
    of_batch = h.of_batch;
    says = record { child = h.says.child; bounds = h.says.bounds; parent = h.says.parent };
    only = h.only;
    placed = places-passed p h.begun_so.planned h.begun_so.apart h.drawn.marked n k made few none h.placed;
  }

  -- the bound of nothing is passed
  pass-sides : (n k : ℕ) (children places parents : ℕ) → k < 4 → child_at p.plan n k ≡ Nothing
      → HasDrawnUpTo p start view (record { children = children; sides = 6 * (4 * n + k); places = places; parents = parents })
      → HasDrawnUpTo p start view (record { children = children; sides = 6 * suc (4 * n + k); places = places; parents = parents })
  pass-sides n k children places parents few none h = record {
    before = h.before;
    batch = h.batch;
    begun_so = h.begun_so;
    drawn = h.drawn;
    written = h.written;
    worked = h.worked;
    from = h.from;
    of_batch = h.of_batch;
    says = sides-passed (HasWritten h.written) p _ n k few none refl h.says;
    only = h.only;
    placed = h.placed;
  }

  -- all of a child is done
  abbrev child_done : ℕ → ℕ → Reached
  child_done n k = record { children = suc (4 * n + k); sides = 6 * suc (4 * n + k); places = suc (4 * n + k); parents = n }

  at-next : (n k : ℕ) → n < node_count p.plan → k < 4 → HasDrawnUpTo p start view (child_done n k) → AtDraw p start view (next_child n k)
  at-next n k made few h = go (ltb k 3) refl
    where
      go : (t : Bool) → ltb k 3 ≡ t → AtDraw p start view (cond t (Child n (k + 1)) (Parent n))
      go true e =
          let less : k < 3 = ltb-true k 3 e in
          ((made, omega arith), drawn-at (child_done n k) (before_child n (k + 1)) (omega arith) (omega arith) (omega arith) refl h)
      go false e =
          let last = ltb-false k 3 e in
          (made, drawn-at (child_done n k) (before_child n 4) (omega arith) (omega arith) (omega arith) refl h)

  -- all of it but the location of a body
  at-sides : (n k : ℕ) (e : PlanChild) → child_at p.plan n k ≡ e → n < node_count p.plan → k < 4
      → HasDrawnUpTo p start view (record { children = suc (4 * n + k); sides = 6 * suc (4 * n + k); places = 4 * n + k; parents = n }) → AtDraw p start view (after_sides n k e)
  at-sides n k Nothing there made few h =
      at-next n k made few (pass-place n k (suc (4 * n + k)) (6 * suc (4 * n + k)) n made few (λ index same. let bad : Nothing ≡ Body index = sym there ∙ same in absurd cc) h)
  at-sides n k (Body index) there made few h = ((made, few, there), h)
  at-sides n k (Node m) there made few h =
      at-next n k made few (pass-place n k (suc (4 * n + k)) (6 * suc (4 * n + k)) n made few (λ index same. let bad : Node m ≡ Body index = sym there ∙ same in absurd cc) h)

-- ---- a word of a node is stored

module _ (view next : View) (name : Name) (value : ℕ) (stored : Stored MayStoreNode store_node view name value next) where
  pub node-step : AtMostOneStep view next
  node-step = one-step MayStoreNode store_node view next name value 0 stored.0 stored.1 (λ before after steps. of_batches (stores_node steps))

  pub node-made : (number : ℕ) → IsPass view number → MadeBy view next None
  node-made number pass = stored-made MayStoreNode store_node view next name value refl stored number pass

  node_word : StoresWord view next name value
  node_word = stores-word MayStoreNode store_node view next name value refl stored

  module _ (p : Planned) (start : View) (r : Reached) (h : HasDrawnUpTo p start view r) where
    node_written : next.written ≡ also_written name value h.written
    node_written = ap (λ (v : View). v.written) stored.1.leaves ∙ ap (also_written name value) (worked-written start view _ h.worked)

    -- it is written, and what else was written still is
    node-beside : StoresBeside (HasWritten h.written) (HasWritten next.written) name value
    node-beside =
        subst (λ (l : List Store). StoresBeside (HasWritten h.written) (HasWritten l) name value) (sym (node_written)) (written-beside name value h.written)

    node-worked : is_shown true name ≡ false → HasWorked start next (drawing_work start h.before h.drawn next.written)
    node-worked hidden =
        worked-untold start view next (drawing_work start h.before h.drawn h.written) h.worked name value None NoTask (h.before ++ h.drawn ∷ []) start.loose next.written node_word
        (node-made h.worked.adds.number (worked-pass start view _ h.worked)) (ap (λ (v : View). v.call.task) stored.1.leaves ∙ h.worked.doing)
        (stored.1.leaves
        ∙ (λ i. record view {
          known = sym (ap (λ (v : View). v.known) stored.1.leaves) i;
          joined = sym (ap (λ (v : View). v.joined) stored.1.leaves) i;
          call = sym (ap (λ (v : View). v.call) stored.1.leaves) i;
          batches = worked-batches start view _ h.worked i;
          loose = worked-loose start view _ h.worked i;
          written = sym (ap (λ (v : View). v.written) stored.1.leaves) i;
        })) hidden (step-alone MayStoreNode store_node view next name value 0 stored.0 stored.1)

    node-on : is_shown true name ≡ false → (n : ℕ) → n < node_count p.plan → node_in name ≡ Some (node_at p.nodes n) → (s : Reached) → s.places ≡ r.places → SaysUpTo (HasWritten next.written) p s → HasDrawnUpTo p start next s
    node-on hidden n made of_node s places says = record {
      before = h.before;
      batch = h.batch;
      begun_so = h.begun_so;
      drawn = h.drawn;
      written = next.written;
      worked = node-worked hidden;
      from = h.from;
      of_batch = h.of_batch;
      says = says;
      only =
          ap (written_outside p.nodes) node_written
          ∙ (outside-also p.nodes name (node_at p.nodes n) value h.written of_node (Contains-get_or p.nodes n 0 (let many = h.begun_so.many in omega arith)) ∙ h.only);
      placed = subst (ArePlacedUpTo p h.drawn.marked) (sym places) h.placed;
    }

-- the pass may store it
pub may-store : (p : Planned) (start view : View) (r : Reached) (name : Name) (value n : ℕ) → HasDrawnUpTo p start view r → n < node_count p.plan → node_in name ≡ Some (node_at p.nodes n) → MayStoreNode view name value 0
may-store p start view r name value n h made is = record { node = node_at p.nodes n; of_node = is; owns = node-own p start view r h n made }

-- ---- a child

pub child-drawn : (p : Planned) (start view next : View) (n k : ℕ) → Stored MayStoreNode store_node view (ChildWord (node_at p.nodes n) k) (child_word p.nodes (child_at p.plan n k)) next
    → AtDraw p start view (Child n k) → AtDraw p start next (after_child n k (child_at p.plan n k))
child-drawn p start view next n k stored at = go (child_at p.plan n k) refl
  where
    made : n < node_count p.plan
    made = at.0.0

    few : k < 4
    few = at.0.1

    h : HasDrawnUpTo p start view (before_child n k)
    h = at.1

    name : Name
    name = ChildWord (node_at p.nodes n) k

    stored_child : HasDrawnUpTo p start next (record { children = suc (4 * n + k); sides = 6 * (4 * n + k); places = 4 * n + k; parents = n })
    stored_child =
        node-on view next name (child_word p.nodes (child_at p.plan n k)) stored p start (before_child n k) h refl n made refl _ refl
        (child-said (HasWritten h.written) (HasWritten next.written) p h.begun_so.distinct h.begun_so.many (before_child n k) h.says n k made few
        (node-beside view next name (child_word p.nodes (child_at p.plan n k)) stored p start (before_child n k) h) refl)

    first_side : HasDrawnUpTo p start next (reached (Side n k 0))
    first_side = drawn-at p start next _ (reached (Side n k 0)) refl (omega arith) refl refl stored_child

    go : (e : PlanChild) → child_at p.plan n k ≡ e → AtDraw p start next (after_child n k e)
    go Nothing e = at-sides p start next n k Nothing e made few (pass-sides p start next n k (suc (4 * n + k)) (4 * n + k) n few e stored_child)
    go (Body index) e = ((made, few, omega arith, λ none. let bad : Body index ≡ Nothing = sym e ∙ none in absurd cc), first_side)
    go (Node m) e = ((made, few, omega arith, λ none. let bad : Node m ≡ Nothing = sym e ∙ none in absurd cc), first_side)

-- ---- a side

pub side-drawn : (p : Planned) (start view next : View) (n k q : ℕ) → Stored MayStoreNode store_node view (BoundWord (node_at p.nodes n) k q) (side (p.bound n k) q) next
    → AtDraw p start view (Side n k q) → AtDraw p start next (after_side n k q (child_at p.plan n k))
side-drawn p start view next n k q stored at = go (ltb q 5) refl
  where
    made : n < node_count p.plan
    made = at.0.0

    few : k < 4
    few = at.0.1

    inside : q < 6
    inside = at.0.2

    h : HasDrawnUpTo p start view (reached (Side n k q))
    h = at.1

    name : Name
    name = BoundWord (node_at p.nodes n) k q

    stored_side : HasDrawnUpTo p start next (record { children = suc (4 * n + k); sides = suc (6 * (4 * n + k) + q); places = 4 * n + k; parents = n })
    stored_side =
        node-on view next name (side (p.bound n k) q) stored p start (reached (Side n k q)) h refl n made refl _ refl
        (side-said (HasWritten h.written) (HasWritten next.written) p h.begun_so.distinct h.begun_so.many (reached (Side n k q)) h.says n k q made few inside
        (node-beside view next name (side (p.bound n k) q) stored p start (reached (Side n k q)) h) refl)

    go : (t : Bool) → ltb q 5 ≡ t → AtDraw p start next (cond t (Side n k (q + 1)) (after_sides n k (child_at p.plan n k)))
    go true e =
        let less : q < 5 = ltb-true q 5 e in
        ((made, few, omega arith, at.0.3), drawn-at p start next _ (reached (Side n k (q + 1))) refl (omega arith) refl refl stored_side)
    go false e =
        let last = ltb-false q 5 e in
        at-sides p start next n k (child_at p.plan n k) refl made few (drawn-at p start next _ (reached (Placing n k 0)) refl (omega arith) refl refl stored_side)

-- ---- a parent

module _ (p : Planned) (start view next : View) (n : ℕ) (stored : Stored MayStoreNode store_node view (ParentWord (node_at p.nodes n)) (parent_word p.nodes (parent_at p.plan n)) next) (at : AtDraw p start view (Parent n)) where
  abbrev node_name : Name
  node_name = ParentWord (node_at p.nodes n)

  pub parent_drawn : HasDrawnUpTo p start next (record { children = 4 * n + 4; sides = 6 * (4 * n + 4); places = 4 * n + 4; parents = suc n })
  parent_drawn =
      node-on view next node_name (parent_word p.nodes (parent_at p.plan n)) stored p start (before_child n 4) at.1 refl n at.0 refl _ refl
      (parent-said (HasWritten at.1.written) (HasWritten next.written) p at.1.begun_so.distinct at.1.begun_so.many (before_child n 4) at.1.says n at.0
      (node-beside view next node_name (parent_word p.nodes (parent_at p.plan n)) stored p start (before_child n 4) at.1) refl)

  pub parent-drawn : suc n < node_count p.plan → AtDraw p start next (Child (n + 1) 0)
  parent-drawn more = ((omega arith, omega arith), drawn-at p start next _ (before_child (n + 1) 0) (omega arith) (omega arith) (omega arith) (omega arith) parent_drawn)

  -- after the last node all is drawn
  module _ (last : suc n ≡ node_count p.plan) where
    all_says : SaysPlanBy (HasWritten parent_drawn.written) p.plan p.bound p.nodes
    all_says = record {
      child = λ m k made few. parent_drawn.says.child m k made few (omega arith);
      bounds = λ m k q made few inside some. parent_drawn.says.bounds m k q made few inside (omega arith) some;
      parent = λ m made. parent_drawn.says.parent m made (omega arith);
    }

    all_placed : ArePlaced p.plan p.nodes parent_drawn.drawn
    all_placed m among =
        let body = parent_drawn.of_batch.each m among in
        let index : Contains (map (λ (b : ℕ × FixBox). b.0) p.bodies) m.index =
        subst (Contains (map (λ (b : ℕ × FixBox). b.0) p.bodies)) (sym body.2.index) (contains_map (λ (b : ℕ × FixBox). b.0) p.bodies body.0 body.1)
        in
        let s = body_somewhere p.bodies p.plan parent_drawn.begun_so.planned m.index index in
        let made_there = s.1.1 in
        let few_there = s.1.2 in (
          (parent_drawn.placed.placed m among s.0 s.1.0 made_there few_there s.1.3 (omega arith)).0,
          λ a b made few stands. (parent_drawn.placed.placed m among a b made few stands (omega arith)).1,
        )

    pub all-drawn : HasDrawn p.bodies parent_drawn.before start next parent_drawn.drawn
    all-drawn =
        let begun_so = parent_drawn.begun_so in
        let same : parent_drawn.drawn.nodes ≡ p.nodes = drawn-nodes p start next _ parent_drawn in
        record {
          written = parent_drawn.written;
          done = worked-done start next _ parent_drawn.worked begun_so.rest refl (λ lock. refl);
          plan = p.plan;
          bound = p.bound;
          tree = record {
            planned = begun_so.planned;
            apart = begun_so.apart;
            some = begun_so.some;
            bounded = begun_so.bounds;
            of_batch = parent_drawn.of_batch;
            nodes = ap (λ (l : List ℕ). length l) same ∙ begun_so.many;
            distinct = subst (λ (l : List ℕ). IsDistinct nat_eq l) (sym same) begun_so.distinct;
            says = subst (SaysPlanBy (HasWritten parent_drawn.written) p.plan p.bound) (sym same) all_says;
            placed = subst (λ (l : List ℕ). ArePlaced p.plan l parent_drawn.drawn) (sym same) all_placed;
          };
          only = subst (λ (l : List ℕ). WritesOnly l start.written parent_drawn.written) (sym same) parent_drawn.only;
        }

-- ---- a body is placed

module _ (view next : View) (index value : ℕ) (stored : Stored MayPlace place_body view (LocA index) value next) where
  pub place-step : AtMostOneStep view next
  place-step = one-step MayPlace place_body view next (LocA index) value 0 stored.0 stored.1 (λ before after steps. of_batches (places_one steps))

  pub place-made : (number : ℕ) → IsPass view number → MadeBy view next None
  place-made number pass = stored-made MayPlace place_body view next (LocA index) value refl stored number pass

module _ (p : Planned) (start view : View) (n k index : ℕ) (at : AtDraw p start view (Placing n k index)) where
  made : n < node_count p.plan
  made = at.0.0

  few : k < 4
  few = at.0.1

  there : child_at p.plan n k ≡ Body index
  there = at.0.2

  h : HasDrawnUpTo p start view (reached (Placing n k index))
  h = at.1

  -- the batch has marked it, and it is at no place
  own : (m : Marked) × Contains h.drawn.marked m × (m.index ≡ index)
  own = let t = h.of_batch.all (index, p.bound n k) (h.begun_so.bounds.a_body n k index made few there) in (t.0, t.1, t.2.index)

  pub may-place : MayPlace view (LocA index) (place (node_at p.nodes n) k) 0
  may-place = record {
    batch = h.drawn;
    m = own.0;
    has = record { among = newest-among p start view _ h; marked = own.1 };
    names = ap LocA (sym own.2);
    unplaced = h.placed.waiting own.0 own.1 n k made few (there ∙ ap Body (sym own.2)) (omega arith);
    node = node_at p.nodes n;
    child = k;
    below = few;
    in_batch = node-inside p start view _ h n made;
    at = refl;
  }

  module _ (next : View) (stored : Stored MayPlace place_body view (LocA index) (place (node_at p.nodes n) k) next) where
    place_word : StoresWord view next (LocA index) (place (node_at p.nodes n) k)
    place_word = stores-word MayPlace place_body view next (LocA index) (place (node_at p.nodes n) k) refl stored

    -- no other batch has marked it
    marks_apart : AllPairs AreOtherBodies (flat_map (λ b. b.marked) (h.before ++ h.drawn ∷ []))
    marks_apart =
        subst (λ (l : List Batch). AllPairs AreOtherBodies (flat_map (λ b. b.marked) l)) (worked-batches start view _ h.worked)
        (own-marks stored.1.before stored.1.stands.laws.bodies stored.1.seat stored.1.number view stored.1.allowed.at stored.1.allowed.pass)

    placed_batches : change_marked index (placed_at (place (node_at p.nodes n) k)) view.batches ≡ h.before ++ with_placed index (place (node_at p.nodes n) k) h.drawn ∷ []
    placed_batches =
        ap (change_marked index (placed_at (place (node_at p.nodes n) k))) (worked-batches start view _ h.worked)
        ∙ batches-placed h.before h.drawn index (place (node_at p.nodes n) k) (others-apart h.before h.drawn index own.0 own.1 own.2 marks_apart)

    place_worked : HasWorked start next (drawing_work start h.before (with_placed index (place (node_at p.nodes n) k) h.drawn) h.written)
    place_worked =
        worked-untold start view next (drawing_work start h.before h.drawn h.written) h.worked (LocA index) (place (node_at p.nodes n) k) None NoTask
        (h.before ++ with_placed index (place (node_at p.nodes n) k) h.drawn ∷ []) start.loose h.written place_word
        (place-made view next index (place (node_at p.nodes n) k) stored h.worked.adds.number (worked-pass start view _ h.worked)) (ap (λ (v : View). v.call.task) stored.1.leaves ∙ h.worked.doing)
        (stored.1.leaves
        ∙ (λ i. record view {
          known = sym (ap (λ (v : View). v.known) stored.1.leaves) i;
          joined = sym (ap (λ (v : View). v.joined) stored.1.leaves) i;
          call = sym (ap (λ (v : View). v.call) stored.1.leaves) i;
          batches = placed_batches i;
          loose = worked-loose start view _ h.worked i;
          written = worked-written start view _ h.worked i;
        })) refl (step-alone MayPlace place_body view next (LocA index) (place (node_at p.nodes n) k) 0 stored.0 stored.1)

    pub place-drawn : AtDraw p start next (next_child n k)
    place-drawn =
        at-next p start next n k made few (record {
          before = h.before;
          batch = h.batch;
          begun_so = h.begun_so;
          drawn = with_placed index (place (node_at p.nodes n) k) h.drawn;
          written = h.written;
          worked = place_worked;
          from = placed-from h.batch h.drawn index (place (node_at p.nodes n) k) h.from;
          of_batch = placed-bodies h.drawn p.bodies index (place (node_at p.nodes n) k) h.of_batch;
          says = record { child = h.says.child; bounds = h.says.bounds; parent = h.says.parent };
          only = h.only;
          placed = body-placed p h.begun_so.planned h.begun_so.apart h.drawn.marked n k made few index (place (node_at p.nodes n) k) there refl h.placed;
        })

  -- its index is one of the world
  pub index-below : index < view.config.bodies
  index-below =
      subst (λ (c : Config). index < c.bodies) (sym (worked-sizes start view _ h.worked))
      (h.begun_so.indexes (index, p.bound n k) (h.begun_so.bounds.a_body n k index made few there))

-- ---- the turns of an operation

module _ (turn : Turn (Unit {0})) (before new : TreeDrawing) (view next : View) (number : ℕ) (pass : IsPass view number) where
  abbrev So : Planned
  So = planned_of before

  module _ (after : DrawStage) (goes : turn ≡ More) (is : new ≡ record before { stage = after }) where
    pub child-turn : (n k here value : ℕ) → here ≡ node_at So.nodes n → value ≡ child_word So.nodes (child_at So.plan n k) → after ≡ after_child n k (child_at So.plan n k) → before.stage ≡ Child n k → k < 4
        → Stored MayStoreNode store_node view (ChildWord here k) value next → IsDrawTurn turn before new view next
    child-turn n k here value at says comes stage few stored =
        let name : Name = ChildWord (node_at So.nodes n) k in
        let word : ℕ = child_word So.nodes (child_at So.plan n k) in
        let store : Stored MayStoreNode store_node view name word next =
        subst (λ (w : ℕ). Stored MayStoreNode store_node view name w next) says (subst (λ (m : ℕ). Stored MayStoreNode store_node view (ChildWord m k) value next) at stored)
        in
        went-on turn before new (Child n k) (after_child n k (child_at So.plan n k)) view next goes (is ∙ ap (λ (s : DrawStage). record before { stage = s }) comes) stage
        (node-step view next name word store) (node-made view next name word store number pass) (child-less (node_count So.plan) n k (child_at So.plan n k) few)
        (λ start at_child. child-drawn So start view next n k store at_child)

    pub side-turn : (n k q here value : ℕ) → here ≡ node_at So.nodes n → value ≡ side (So.bound n k) q → after ≡ after_side n k q (child_at So.plan n k) → before.stage ≡ Side n k q → k < 4 → q < 6
        → Stored MayStoreNode store_node view (BoundWord here k q) value next → IsDrawTurn turn before new view next
    side-turn n k q here value at says comes stage few inside stored =
        let name : Name = BoundWord (node_at So.nodes n) k q in
        let word : ℕ = side (So.bound n k) q in
        let store : Stored MayStoreNode store_node view name word next =
        subst (λ (w : ℕ). Stored MayStoreNode store_node view name w next) says (subst (λ (m : ℕ). Stored MayStoreNode store_node view (BoundWord m k q) value next) at stored)
        in
        went-on turn before new (Side n k q) (after_side n k q (child_at So.plan n k)) view next goes (is ∙ ap (λ (s : DrawStage). record before { stage = s }) comes) stage
        (node-step view next name word store) (node-made view next name word store number pass) (side-less (node_count So.plan) n k q (child_at So.plan n k) few inside)
        (λ start at_side. side-drawn So start view next n k q store at_side)

    pub parent-turn : (n here value : ℕ) → here ≡ node_at So.nodes n → value ≡ parent_word So.nodes (parent_at So.plan n) → after ≡ Child (n + 1) 0 → before.stage ≡ Parent n → suc n < node_count So.plan
        → Stored MayStoreNode store_node view (ParentWord here) value next → IsDrawTurn turn before new view next
    parent-turn n here value at says comes stage more stored =
        let name : Name = ParentWord (node_at So.nodes n) in
        let word : ℕ = parent_word So.nodes (parent_at So.plan n) in
        let store : Stored MayStoreNode store_node view name word next =
        subst (λ (w : ℕ). Stored MayStoreNode store_node view name w next) says (subst (λ (m : ℕ). Stored MayStoreNode store_node view (ParentWord m) value next) at stored)
        in
        went-on turn before new (Parent n) (Child (n + 1) 0) view next goes (is ∙ ap (λ (s : DrawStage). record before { stage = s }) comes) stage
        (node-step view next name word store) (node-made view next name word store number pass) (parent-less (node_count So.plan) n more)
        (λ start at_parent. parent-drawn So start view next n store at_parent more)

    pub placing-turn : (n k index value : ℕ) → value ≡ place (node_at So.nodes n) k → after ≡ next_child n k → before.stage ≡ Placing n k index → k < 4
        → Stored MayPlace place_body view (LocA index) value next → IsDrawTurn turn before new view next
    placing-turn n k index value says comes stage few stored =
        let word : ℕ = place (node_at So.nodes n) k in
        let store : Stored MayPlace place_body view (LocA index) word next = subst (λ (w : ℕ). Stored MayPlace place_body view (LocA index) w next) says stored in
        went-on turn before new (Placing n k index) (next_child n k) view next goes (is ∙ ap (λ (s : DrawStage). record before { stage = s }) comes) stage
        (place-step view next index word store) (place-made view next index word store number pass) (placing-less (node_count So.plan) n k index few)
        (λ start at_place. place-drawn So start view n k index at_place next store)

  -- the last one
  pub last-turn : (n here value : ℕ) → turn ≡ Done tt → new.nodes ≡ before.nodes → here ≡ node_at So.nodes n → value ≡ parent_word So.nodes (parent_at So.plan n) → before.stage ≡ Parent n → suc n ≡ node_count So.plan
      → Stored MayStoreNode store_node view (ParentWord here) value next → IsDrawTurn turn before new view next
  last-turn n here value ends kept at says stage last stored =
      let name : Name = ParentWord (node_at So.nodes n) in
      let word : ℕ = parent_word So.nodes (parent_at So.plan n) in
      let store : Stored MayStoreNode store_node view name word next =
      subst (λ (w : ℕ). Stored MayStoreNode store_node view name w next) says (subst (λ (m : ℕ). Stored MayStoreNode store_node view (ParentWord m) value next) at stored)
      in
      subst (λ (t : Turn (Unit {0})). IsDrawTurn t before new view next) (sym ends) (record {
        step = node-step view next name word store;
        made = node-made view next name word store number pass;
        turned = tt;
        loads = tt;
        keeps = λ first start drawing. tt;
        answered = λ first start drawing.
            let at_parent : AtDraw So start view (Parent n) = subst (AtDraw So start view) stage drawing.1 in
            let drawn = parent_drawn So start view next n store at_parent in
            record {
              nodes = ap (λ v. v.items) kept ∙ ap (λ (q : Planned). q.nodes) drawing.0;
              before = drawn.before;
              batch = drawn.batch;
              newest = drawn.begun_so.newest;
              drawn = drawn.drawn;
              from = drawn.from;
              has = subst (λ (b : List (ℕ × FixBox)). HasDrawn b drawn.before start next drawn.drawn) (ap (λ (q : Planned). q.bodies) drawing.0) (all-drawn So start view next n store at_parent last);
            };
      })
