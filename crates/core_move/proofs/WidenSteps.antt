-- Widening a side of a bound in a move keeps all laws: the bound is above a location of the body, so its new side, which the
-- body is to have, counts for the layer, or for the new tree in which the body is planned.
use Rattle.std.proofs.Common.{◌≡◌, ◌≢◌, ℕ, List, true, length, Option, Some, refl, ap, sym, ◌∙◌, subst, inl, inr, arith}
use Rattle.std.specs.Prelude.{IsSomeAnd}
use Rattle.std.proofs.lemmas.Option.{same_Some}
use Rattle.scene_model.specs.declared.body_view.Phase.TheVariants.{Held, In}
use Rattle.scene_model.specs.Scene.{Record, record_at}
use Rattle.word_map.specs.declared.name.Name.TheVariants.{Bound}
use Rattle.word_map.specs.Names.{IsName}
use Rattle.core_state.specs.declared.item.Store.{Store}
use Rattle.core_state.specs.declared.view.Task.{Task}
use Rattle.core_state.specs.declared.view.Call.{Call}
use Rattle.core_state.specs.declared.view.Rebuild.{Rebuild}
use Rattle.core_state.specs.declared.view.View.{View}
use Rattle.core_state.specs.View.{IsPass}
use Rattle.core_state.specs.Core.{Core, word_of, scene_of, IsViewAt}
use Rattle.core_state.specs.Operation.{Operation, fetch_min, fetch_max}
use Rattle.core_state.specs.Kind.{Kind, Step, Steps, found_by, left_by, after_step}
use Rattle.core_state.specs.Encoding.{place, sides_of}
use Rattle.core_state.specs.Guards.{KeepsGuards}
use Rattle.core_state.specs.Bodies.{is_box_word, has_box_word, MovesBody}
use Rattle.core_state.specs.Moving.{IsKnownLocation, side_in, MayWiden, MayWidenLow, MayWidenHigh, widen_low, widen_high}
use Rattle.core_state.specs.Nodes.{Nodes, made, IsLive, Stands, IsOfLayer, Above, node_in}
use Rattle.core_state.specs.Parts.{update_on_readers}
use Rattle.core_state.specs.Scope.{Sight, sight}
use Rattle.core_state.specs.Space.{IsTarget, IsComing, IsInLayer}
use Rattle.core_state.specs.Updates.{IsNoted, IsSameBody, IsPlacing}
use Rattle.core_state.specs.TreesSound.{BoundsOnlyWiden, tree_scope}
use Rattle.core_state.specs.LocationsHold.{location_scope, IsLocation, Encloses, Removes}
use Rattle.core_state.specs.ReadersCounted.{reader_scope}
use Rattle.core_state.specs.Invariants.{Invariants}
use Rattle.core_state.proofs.Beginning.{body_record, record_body}
use Rattle.core_state.proofs.Steps.{word-step}
use Rattle.core_guard.proofs.Holders.{IsGuarded, guarded}
use Rattle.core_guard.proofs.Touched.{IsKept, kept}
use Rattle.core_guard.proofs.Leaving.{Acts, After, Leaves, sound-leads, scene-plain, in_held, LeadsWithin, above-forth, layer-once, made-once, updates-at}
use Rattle.core_guard.proofs.PlacesLeft.{SeenUpdate}
use Rattle.core_guard.proofs.PlacesStay.{PassIsPlaced}
use Rattle.core_guard.proofs.ReadersLeft.{TightSide, coming-now}
use Rattle.core_guard.proofs.Settled.{StandsStill, settled-still, known-location}
use Rattle.core_guard.proofs.Owners.{same-view}
use Rattle.core_guard.proofs.TreeWords.{OnTree, IsTreeWord, Invariants-tree, tree-guarded, tree-stays}
use Rattle.core_guard.proofs.WidenedBound.{WidensBound, node_of, child_of, side-widens, widened-leaves, widened-boxes, side-or}
use Rattle.core_guard.proofs.Standing.{in_tree, in_new_tree, in-layer}
use Rattle.core_move.proofs.MoveSteps.{Under, has_begun, begins_now, target_of, stores_of, call_under, call_more, under-so, under-target, above-home, under-placed, stores-placed}
use Rattle.core_move.proofs.Widening.{IsWider, min-wider, max-wider, widening, new_store, Goes, goes, box-more}
use Rattle.core_guard.proofs.Recalled.{recalled, call-is}
use Rattle.core_guard.proofs.OnBody.{IsOn}
use Rattle.core_guard.proofs.InPlace.{stays-in_place}
use Rattle.core_guard.proofs.Still.{come-up}

-- what the two kinds ask, and what they do to the word
record Widens (operation : Operation) (index : ℕ) (core : Core) (step : Step) : Type 0 where
  node : ℕ
  child : ℕ
  side : ℕ
  names : step.name ≡ Bound node child side
  may : MayWiden index step.view node child side step.first
  wider : IsWider operation side (found_by core step) step.first step.second

low : (index : ℕ) (core : Core) (step : Step) → MayWidenLow index step.view step.name step.first step.second → Widens fetch_min index core step
low index core step asked = record { node = asked.node; child = asked.child; side = asked.side; names = asked.names; may = asked.may; wider = min-wider asked.side (found_by core step) step.first step.second asked.is_low }

high : (index : ℕ) (core : Core) (step : Step) → MayWidenHigh index step.view step.name step.first step.second → Widens fetch_max index core step
high index core step asked = record { node = asked.node; child = asked.child; side = asked.side; names = asked.names; may = asked.may; wider = max-wider asked.side (found_by core step) step.first step.second asked.is_high }

under-boxes : (index : ℕ) (c : Call) (u : Under index c) → MovesBody c.task index → has_box_word c.stores ≡ true → has_box_word (stores_of index c u) ≡ true
under-boxes index c (has_begun t e) moves has = has
under-boxes index c (begins_now e) moves has = absurd (subst (λ (task : Task). MovesBody task index) e moves)

module _ (operation : Operation) (index : ℕ) (core : Core) (step : Step) (a : Acts core step) (w : Widens operation index core step) where
  abbrev widens : Kind
  widens = widening operation index

  abbrev nodes : Nodes
  nodes = a.laws.nodes

  abbrev Was : Sight
  Was = sight location_scope core

  abbrev Is : Sight
  Is = sight location_scope (After widens core step)

  abbrev Now : Sight
  Now = sight reader_scope (After widens core step)

  g : Goes operation index core step w.node w.child w.side
  g = goes operation index core step w.node w.child w.side w.names (subst (IsName core.config) w.names a.named).2 w.may

  abbrev One : Call
  One = call_under index step.view.call g.u

  abbrev Two : Call
  Two = call_more index step.view.call g.u g.next (new_store operation index core step)

  known : StandsStill core step.view index
  known = settled-still core step a index w.may.settled

  body : (r : Record) × (record_at (scene_of core) index ≡ Some r) × (r.phase ≡ In)
  body = body_record (record_at (scene_of core) index) (λ r. r.phase ≡ In) (subst (λ (o : Option Record). IsSomeAnd o (λ r. r.phase ≡ In)) (sym known.body) w.may.inside)

  stands : (n k : ℕ) → IsLocation Was index n k → Stands (nodes.home n)
  stands n k h = (a.laws.locations.at index body.0 n k body.1 body.2 h).stands

  leads : LeadsWithin nodes Was.word
  leads = let t = sound-leads nodes (sight tree_scope core) a.laws.trees in record { up = t.up; down = t.down }

  -- ---- the place is above a location

  own : PassIsPlaced nodes Was One (SeenUpdate widens core step)
  own = under-placed widens core step a index g.u (record_body (record_at (scene_of core) index) (λ r. r.phase ≢ Held) body.0 body.1 (λ held. in_held (sym body.2 ∙ held))) stands

  up : (n : ℕ) × (k : ℕ) × IsLocation Was index n k × Above Was.word n k w.node w.child
  up = come-up nodes Was (SeenUpdate widens core step) One own (IsKnownLocation step.view index) (known-location core step.view index known.loc_a known.loc_b) w.node w.child g.come

  home : nodes.home w.node ≡ nodes.home up.0
  home = above-home nodes Was.word leads up.0 up.1 w.node w.child (stands up.0 up.1 up.2) up.3

  bound : WidensBound widens core step a w.node w.child w.side
  bound = record {
    names = w.names;
    stands = subst Stands (sym home) (stands up.0 up.1 up.2);
    one = w.wider.one;
    wide = w.wider.word;
    low = w.may.low;
    high = w.may.high;
    rebuild = ap (λ (v : View). v.rebuild) (recalled widens core step Two g.recalls);
  }

  abbrev m : Leaves widens core step nodes nodes (λ n. ⊥)
  m = widened-leaves widens core step a w.node w.child w.side bound

  -- ---- the side counts

  coming : IsComing Now index w.side step.first
  coming = coming-now widens core step a nodes (λ n. ⊥) m index w.side step.first (subst (λ (c : Call). IsTarget c.task index w.side step.first) (sym (call-is widens core step Two g.recalls)) (refl, g.grown.has.0, g.grown.has.1))

  -- for the layer of a tree that others may reach
  counts-live : (l : ℕ) → IsLive (nodes.home w.node) → IsOfLayer l (nodes.home w.node) → IsInLayer Now l w.side step.first
  counts-live l live layer =
      let of : body.0.layer ≡ l = elim (in-layer core nodes a.laws.locations index body.0 body.1 body.2 up.0 up.1 up.2) [
        | in_tree still is ↦ layer-once body.0.layer l (nodes.home up.0) still is (subst (IsOfLayer l) home layer)
        | in_new_tree p ↦ absurd (subst IsLive (home ∙ p.home) live)
      ] in
      inr (index, coming, record_body (record_at (scene_of (After widens core step)) index) (λ r. r.layer ≡ l) body.0 (scene-plain widens core step (λ value. refl) index ∙ body.1) of)

  -- and in a new tree for the body that is planned below
  counts-made : (seat number : ℕ) (view : View) → IsViewAt core seat view → IsPass view number → (r : Rebuild) → view.rebuild ≡ Some r → (l : ℕ) → nodes.home w.node ≡ made number l → TightSide Now (update_on_readers r) w.node w.child w.side step.first
  counts-made seat number view at pass r is l made_for =
      elim (in-layer core nodes a.laws.locations index body.0 body.1 body.2 up.0 up.1 up.2) [
        | in_tree still layer ↦ absurd (subst IsLive (sym home ∙ made_for) still)
        | in_new_tree p ↦
            let number_is : p.number ≡ number = (made-once p.number number body.0.layer l (sym p.home ∙ (sym home ∙ made_for))).0 in
            let view_is : p.view ≡ view = same-view core a.formed p.seat seat number p.view view p.at at (p.pass ∙ ap Some number_is) pass in
            let t = subst (λ (x : Option Rebuild). IsSomeAnd x (λ r. IsNoted r index (λ noted. (noted.place ≡ place up.0 up.1) × IsSameBody Was noted))) (ap (λ (v : View). v.rebuild) view_is ∙ is) p.noted in
            let same = scene-plain widens core step (λ value. refl) t.0.index in (
              t.0,
              t.1,
              (up.0, up.1, up.2.0, t.3.0, above-forth widens core step a nodes nodes (λ n. ⊥) m Was.word Now.word leads m.parent up.0 up.1 w.node w.child (stands up.0 up.1 up.2) up.3),
              inr (
                subst (λ (x : Option Record). IsSomeAnd x (λ r. (r.generation ≡ t.0.generation) × (r.layer ≡ t.0.layer))) (sym same) t.3.1,
                subst (λ (x : ℕ). IsComing Now x w.side step.first) (sym t.2) coming,
              ),
            )
      ]

  -- ---- all laws

  node-stands : (n : ℕ) → node_in step.name ≡ Some n → Stands (nodes.home n)
  node-stands n e = subst (λ (x : ℕ). Stands (nodes.home x)) (same_Some w.node n (sym (ap node_in w.names) ∙ e)) bound.stands

  no_box : has_box_word Two.stores ≡ has_box_word One.stores
  no_box = box-more One.stores (new_store operation index core step) (ap is_box_word w.names)

  t : OnTree widens core step a index Two
  t = record {
    on = record { stripe = w.may.settled.stripe; before = under-so (IsOn index) index step.view.call tt (λ t. refl) g.u; after = refl; recalls = g.recalls };
    word = subst IsTreeWord (sym w.names) tt;
    node = node-stands;
    plain = λ value. refl;
    leaves = m;
    boxes = widened-boxes widens core step a w.node w.child w.side bound;
    removes = (under-so (λ t. ¬ Removes t index) index step.view.call (λ no. no) (λ t no. no) g.u, λ h. absurd h);
    places = (under-so (λ t. ¬ IsPlacing t index) index step.view.call (λ no. no) (λ t no. no) g.u, λ h. absurd h);
    between = λ b. (refl, no_box ∙ under-boxes index step.view.call g.u b.0 b.1);
    targets = λ i q value target.
        let t = under-target index step.view.call g.u i q value target in
        let old = g.grown.old q t.1 in
        (t.0, old.0, old.1 ∙ t.2);
    stand = stands;
    live = λ n k q l live layer.
        elim (side-or widens core step a w.node w.child w.side bound (λ x j p v. IsLive (nodes.home x) → IsOfLayer l (nodes.home x) → IsInLayer Now l p v) (counts-live l) n k q) [ inl e ↦ inl e | inr counts ↦ inr (counts live layer) ];
    fresh = updates-at reader_scope (λ k v. refl) update_on_readers (λ b v. refl) core _ (λ seat number view at pass r is n k q l made_for.
        elim (side-or widens core step a w.node w.child w.side bound (λ x j p v. nodes.home x ≡ made number l → TightSide Now (update_on_readers r) x j p v) (counts-made seat number view at pass r is l) n k q) [
          | inl e ↦ inl e
          | inr counts ↦ inr (counts made_for)
        ]);
  }

  own-after : PassIsPlaced nodes Is Two (SeenUpdate widens core step)
  own-after =
      stores-placed widens core step a index m (stays-in_place widens core step index (tree-stays widens core step a index Two t index)) (SeenUpdate widens core step) step.view.call g.u g.next
      (new_store operation index core step) own (record {
        enclosed = λ has n k at.
            let was = own.widened index n k (sides_of (target_of index step.view.call g.u)) (refl, refl) (sym no_box ∙ has) at in
            let whole = g.grown.whole was.0 in
            (ap length whole ∙ was.0, subst (λ (t : List ℕ). Encloses Was n k (sides_of t)) (sym whole) was.1);
        wide = λ n k q value e.
            let name : Bound w.node w.child w.side ≡ Bound n k q = sym w.names ∙ ap (λ (x : Store). x.name) e in
            let first : step.first ≡ value = ap (λ (x : Store). x.value) e in
            let q0 : w.side ≡ q = ap side_in name in
            let word : Is.word (Bound n k q) ≡ left_by widens core step = ap Is.word (sym name) ∙ (ap (word_of (After widens core step)) (sym w.names) ∙ word-step widens core step) in
            (λ low. let t = w.wider.operand.0 (omega arith) in omega arith, λ high. let t = w.wider.operand.1 (omega arith) in omega arith);
        way = λ x y q value e.
            let name : Bound w.node w.child w.side ≡ Bound x y q = sym w.names ∙ ap (λ (z : Store). z.name) e in
            (up.0, up.1, up.2, subst (λ (j : ℕ). Above Was.word up.0 up.1 j y) (ap node_of name) (subst (λ (j : ℕ). Above Was.word up.0 up.1 w.node j) (ap child_of name) up.3));
      })

  Invariants-widens : Invariants (after_step widens core step)
  Invariants-widens = Invariants-tree widens core step a index Two t own-after

  guarded-widens : KeepsGuards widens core step
  guarded-widens = tree-guarded widens core step a index Two t.word node-stands

-- ---- kinds 34 and 35

pub Invariants-widen_low : (index : ℕ) → IsKept (MayWidenLow index) (widen_low index)
Invariants-widen_low index = kept (MayWidenLow index) (widen_low index) (λ core step a asked. Invariants-widens fetch_min index core step a (low index core step asked))

pub Invariants-widen_high : (index : ℕ) → IsKept (MayWidenHigh index) (widen_high index)
Invariants-widen_high index = kept (MayWidenHigh index) (widen_high index) (λ core step a asked. Invariants-widens fetch_max index core step a (high index core step asked))

pub GuardsHold-widen_low : (index : ℕ) → IsGuarded (MayWidenLow index) (widen_low index)
GuardsHold-widen_low index = guarded (MayWidenLow index) (widen_low index) (λ core step a asked. guarded-widens fetch_min index core step a (low index core step asked))

pub GuardsHold-widen_high : (index : ℕ) → IsGuarded (MayWidenHigh index) (widen_high index)
GuardsHold-widen_high index = guarded (MayWidenHigh index) (widen_high index) (λ core step a asked. guarded-widens fetch_max index core step a (high index core step asked))

-- ---- bounds only widen

only-widens : (operation : Operation) (index : ℕ) (nodes : Nodes) (core : Core) (step : Step) → Widens operation index core step → BoundsOnlyWiden nodes core (after_step (widening operation index) core step)
only-widens operation index nodes core step w n k q stands = side-widens (widening operation index) core step w.node w.child w.side w.names w.wider.word n k q

pub widen_low-widens : (index : ℕ) (nodes : Nodes) (before after : Core) → Steps (MayWidenLow index) (widen_low index) before after → BoundsOnlyWiden nodes before after
widen_low-widens index nodes before after steps = subst (BoundsOnlyWiden nodes before) (sym steps.result) (only-widens fetch_min index nodes before steps.step (low index before steps.step steps.allowed.asked))

pub widen_high-widens : (index : ℕ) (nodes : Nodes) (before after : Core) → Steps (MayWidenHigh index) (widen_high index) before after → BoundsOnlyWiden nodes before after
widen_high-widens index nodes before after steps = subst (BoundsOnlyWiden nodes before) (sym steps.result) (only-widens fetch_max index nodes before steps.step (high index before steps.step steps.allowed.asked))
