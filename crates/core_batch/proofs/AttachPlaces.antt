-- The locations hold where a batch was attached: its bodies join at their places in its nodes, and all else stays.
use Rattle.std.proofs.Common.{◌≡◌, ◌⊎◌, ℕ, ◌+◌, ◌<◌, List, Option, Some, Contains, IsSomeAnd, refl, ap, sym, ◌∙◌, subst, inl, inr, arith}
use Rattle.std.specs.Prelude.{is_some, not, option_map}
use Rattle.std.proofs.lemmas.Bool.{false≢true}
use Rattle.std.proofs.lemmas.Option.{same_Some}
use Rattle.fixed_box.specs.FixBox.{words_of}
use Rattle.scene_model.specs.declared.body_view.Phase.TheVariants.{Out, Held, In}
use Rattle.scene_model.specs.Scene.{Record, record_at}
use Rattle.scene_model.specs.Step.{HasBody, in_phase}
use Rattle.scene_model.specs.History.{scene_after}
use Rattle.scene_model.specs.declared.entry.Made.{Made}
use Rattle.word_map.specs.declared.name.Name.{Name}
use Rattle.word_map.specs.declared.name.Name.TheVariants.{Phase, BoxWord, LocA, LocB, Child, Bound, Parent, Slot}
use Rattle.core_state.specs.declared.view.Marked.{Marked}
use Rattle.core_state.specs.declared.view.Batch.{Batch}
use Rattle.core_state.specs.declared.view.View.{View}
use Rattle.core_state.specs.Core.{Core, word_of, scene_of}
use Rattle.core_state.specs.Kind.{view_after}
use Rattle.core_state.specs.Encoding.{body_child, place, Sides, sides_of, Covers, bound_in}
use Rattle.core_state.specs.Nodes.{Nodes, made, under, Stands, Above, here, higher}
use Rattle.core_state.specs.Scope.{Sight, sight, part_of, bare_view}
use Rattle.core_state.specs.Bodies.{all_batches}
use Rattle.core_state.specs.LocationsHold.{LocationsHold, location_scope, box_in, IsLocation, IsAt, IsWhere, in_slot, IsPlannedIn}
use Rattle.core_state.specs.Batches.{is_for, IsPart, nothing, a_body, a_node, IsWholeTree, attach}
use Rattle.core_state.proofs.Beginning.{record_body}
use Rattle.core_guard.proofs.Leaving.{Acts, IsHandled, After, Stays, Leaves}
use Rattle.core_guard.proofs.PlacesStay.{BodyIsPlaced, held-alone, handled-seen}
use Rattle.core_guard.proofs.PlacesLeft.{BodyLeft, body_stays, body_anew, pass_stays, anew-in-place, LocationsHold-leaves}
use Rattle.core_batch.proofs.Lists.{IsPartOf, part-contains, part-filter, part-set}
use Rattle.core_batch.proofs.Attaching.{Attaching, step_of, whole_now, IsJoining, joining}
use Rattle.core_batch.proofs.Attached.{nodes_after, home-inside, past-after, Becomes, joins, stays, becomes, word-other, stays-so}

-- a box of the same six sides is contained too
covers-same : (outer one other : Sides) → ((q : ℕ) → q < 6 → other q ≡ one q) → Covers outer one → Covers outer other
covers-same outer one other same h q below =
    let low = same q (omega arith) in
    let high = same (3 + q) (omega arith) in
    let t = h q below in
    let lower = t.0 in
    let upper = t.1 in
    (omega arith, omega arith)

-- ways up by the same words are the same
above-same : (v w : Name → ℕ) → ((n : ℕ) → w (Parent n) ≡ v (Parent n)) → (n k a b : ℕ) → Above v n k a b → Above w n k a b
above-same v w same n k a b (here x y) = here x y
above-same v w same n k a b (higher x y m j c d e below rest) = higher x y m j c d (same x ∙ e) below (above-same v w same m j c d rest)

out_in : Out ≡ In → ⊥
out_in e = absurd cc

under_made : {name : Name} {number l : ℕ} → under name ≡ made number l → ⊥
under_made e = absurd cc

module _ (core : Core) (a : Attaching core) where
  -- a joining body has its place alone
  pub joined-place : (m : Marked) (i n k : ℕ) (j : IsJoining core a.layer a.slot a.batch m i) → k < 4 → (word_of core (LocA i) ≡ place n k) ⊎ (word_of core (LocB i) ≡ place n k) → (j.entered.node ≡ n) × (j.entered.child ≡ k)
  joined-place m i n k j below at =
      elim at [
        | inl first ↦
            let own = j.first in
            let is = j.entered.at in
            let less = j.entered.below in
            (omega arith, omega arith)
        | inr second ↦ let none = j.second in absurd (omega arith)
      ]

  -- the batches afterwards are some of those before
  fewer-batches : IsPartOf (all_batches (sight location_scope (After attach core (step_of core a)))) (all_batches (sight location_scope core))
  fewer-batches =
      let left = view_after attach core (step_of core a) in
      part-set (part_of location_scope) (λ (v : View). v.batches) core.views a.seat a.view left (location_scope.part (bare_view a.number) a.view) (location_scope.part (bare_view a.number) left) a.at
      (ap (option_map (λ n. location_scope.part (bare_view n) a.view)) a.pass) (ap (option_map (λ n. location_scope.part (bare_view n) left)) a.pass)
      (part-filter (λ b. not (is_for a.layer a.slot b)) a.view.batches)

module _ (core : Core) (a : Attaching core) (acts : Acts core (step_of core a)) where
  abbrev Later : Nodes
  Later = nodes_after acts.laws.nodes core a

  abbrev Joined : Core
  Joined = After attach core (step_of core a)

  abbrev Now : Sight
  Now = sight location_scope Joined

  abbrev Whole : IsWholeTree (word_of core) a.batch a.root
  Whole = whole_now core a acts.formed acts.laws acts.guards

  -- what becomes of the body at an index
  becomes-now : (i : ℕ) → Becomes core a i (record_at (scene_of core) i) (record_at (scene_of Joined) i)
  becomes-now i =
      subst (λ (past : List Made). Becomes core a i (record_at (scene_of core) i) (record_at (scene_after core.config.bodies past) i)) (sym (past-after core a acts.formed acts.laws))
      (becomes core a acts.formed acts.laws acts.guards i)

  location-before : (i n k : ℕ) → IsLocation Now i n k → (word_of core (LocA i) ≡ place n k) ⊎ (word_of core (LocB i) ≡ place n k)
  location-before i n k h =
      elim (h.1) [
        | inl e ↦ inl (sym (word-other core a (LocA i) (λ x. absurd cc)) ∙ e)
        | inr e ↦ inr (sym (word-other core a (LocB i) (λ x. absurd cc)) ∙ e)
      ]

  -- ---- a body that joins

  module _ (m : Marked) (i : ℕ) (j : IsJoining core a.layer a.slot a.batch m i) (is : record_at (scene_of Joined) i ≡ Some (in_phase In j.body)) where
    joined-at : IsAt Later Now i (in_phase In j.body) j.entered.node j.entered.child
    joined-at =
        let e = j.entered in
        let up : (x y : ℕ) → Above Now.word e.node e.child x y → Above (word_of core) e.node e.child x y =
        above-same Now.word (word_of core) (λ n. sym (word-other core a (Parent n) (λ x. absurd cc))) e.node e.child
        in
        let bound : (x y : ℕ) → bound_in (word_of core) x y ≡ bound_in Now.word x y = λ x y t q. sym (word-other core a (Bound x y q) (λ z. absurd cc)) t in
        record {
          stands = subst Stands (sym (home-inside acts.laws.nodes core a e.node e.in_batch)) tt;
          entry = word-other core a (Child e.node e.child) (λ x. absurd cc) ∙ (e.entry ∙ ap body_child j.index);
          bounds = λ x y above.
              subst (λ (b : Sides). Covers b (sides_of (words_of j.body.bounds))) (bound x y)
              (covers-same _ (sides_of m.bounds) (sides_of (words_of j.body.bounds)) j.bounds (e.encloses x y (up x y above)));
          box_words = λ x y above.
              subst (λ (b : Sides). Covers b (box_in Now i)) (bound x y)
              (covers-same _ (sides_of m.bounds) (box_in Now i) (λ q below. word-other core a (BoxWord i q) (λ z. absurd cc) ∙ j.box q below) (e.encloses x y (up x y above)));
        }

    joined-second : Now.word (LocB i) ≡ 0
    joined-second = word-other core a (LocB i) (λ x. absurd cc) ∙ j.second

    joined-placed : BodyIsPlaced Later Now i
    joined-placed = record {
      at = λ r n k e inside location.
          let at = joined-place core a m i n k j location.0 (location-before i n k location) in
          subst (λ (b : Record). IsAt Later Now i b n k) (same_Some (in_phase In j.body) r (sym is ∙ e))
          (subst (λ (x : ℕ). IsAt Later Now i (in_phase In j.body) x k) at.0 (subst (λ (y : ℕ). IsAt Later Now i (in_phase In j.body) j.entered.node y) at.1 joined-at));
      first = λ r n k e inside below location.
          let at = joined-place core a m i n k j below (inl (sym (word-other core a (LocA i) (λ x. absurd cc)) ∙ location)) in
          let layer : j.body.layer ≡ r.layer = ap (λ (b : Record). b.layer) (same_Some (in_phase In j.body) r (sym is ∙ e)) in
          let home : Later.home n ≡ under (Slot a.layer a.slot) = home-inside acts.laws.nodes core a n (subst (λ (x : ℕ). Contains a.batch.nodes x) at.0 j.entered.in_batch) in
          subst (λ (l : ℕ). IsWhere Later Now i l n) (sym j.in_layer ∙ layer) (in_slot a.slot (word-other core a (Phase i) (λ x. absurd cc) ∙ j.phase) home (inl joined-second));
      located = λ r e inside none. let at = j.entered.at in let first = sym (word-other core a (LocA i) (λ x. absurd cc)) ∙ none in let there = j.first in absurd (omega arith);
      second = λ other. absurd (other joined-second);
      dead = λ none. absurd (false≢true (sym none ∙ ap is_some is));
      out = λ body kept. absurd (out_in (sym (subst (λ (o : Option Record). IsSomeAnd o (λ r. r.phase ≡ Out)) is body)));
    }

    joined-held : HasBody (scene_of core) i (λ r. r.phase ≡ Held)
    joined-held = record_body (record_at (scene_of core) i) (λ r. r.phase ≡ Held) j.body j.live j.held

  -- an entry of the new tree is that of a body of the batch, at its place
  part-entry : (i n k : ℕ) → k < 4 → IsPart (word_of core) a.batch a.whole.depth n k → word_of core (Child n k) ≡ body_child i → IsLocation Now i n k
  part-entry i n k below (nothing e) entry = absurd (omega arith)
  part-entry i n k below (a_node c inside e parent depth) entry = absurd (omega arith)
  part-entry i n k below (a_body m marked at e) entry =
      let same : m.index ≡ i = omega arith in
      let first : word_of core (LocA m.index) ≡ place n k = (joining core a acts.formed acts.laws acts.guards m marked).first ∙ at in
      (below, inl (word-other core a (LocA i) (λ x. absurd cc) ∙ subst (λ (x : ℕ). word_of core (LocA x) ≡ place n k) same first))

  planned-now : (b : Batch) (m : Marked) → IsPlannedIn (sight location_scope core) b m → IsPlannedIn Now b m
  planned-now b m h =
      let same = word-other core a (LocA m.index) (λ x. absurd cc) in
      elim h [
        | inl t ↦ inl (t.0, same ∙ t.1)
        | inr t ↦ inr (t.0, same ∙ t.1, t.2)
      ]

  -- ---- the law

  module _ (leaves : Leaves attach core (step_of core a) acts.laws.nodes (nodes_after acts.laws.nodes core a) (λ n. Contains a.batch.nodes n)) where
    body-left : (i : ℕ) → BodyLeft attach core (step_of core a) acts.laws.nodes Later i
    body-left i =
        elim (becomes-now i) [
          | joins m marked j old is ↦
              body_anew
              (anew-in-place attach core (step_of core a) acts Later (λ n. Contains a.batch.nodes n) leaves i (joined-placed m i j is)
              (λ seat number view apart. held-alone acts.laws.nodes core acts.laws.locations i (joined-held m i j is) seat number view)
              (word-other core a (LocA i) (λ x. absurd cc)) (word-other core a (LocB i) (λ x. absurd cc)) (λ t. t, λ t. t))
          | stays apart same ↦ body_stays (stays-so core a i same)
        ]

    own-stays : (i : ℕ) → IsHandled a.view.call.task i → Stays attach core (step_of core a) i
    own-stays i handled =
        elim (becomes-now i) [
          | joins m marked j old is ↦ absurd (held-alone acts.laws.nodes core acts.laws.locations i (joined-held m i j is) a.seat a.number a.view a.at a.pass handled)
          | stays apart same ↦ stays-so core a i same
        ]

    pub LocationsHold-attach : LocationsHold Later Joined
    LocationsHold-attach =
        LocationsHold-leaves attach core (step_of core a) acts Later (λ n. Contains a.batch.nodes n) leaves
        (record {
          bodies = body-left;
          own = pass_stays refl (λ i handled. own-stays i (handled-seen a.view.call i handled));
          entries = λ i n k inside published below entry. part-entry i n k below (Whole.parts n k inside below) (sym (word-other core a (Child n k) (λ x. absurd cc)) ∙ entry);
          made_entries = λ i n k number l inside home below entry. absurd (under_made (sym (home-inside acts.laws.nodes core a n inside) ∙ home));
          held = λ b m among marked.
              let old = acts.laws.locations.held b m (part-contains (all_batches Now) (all_batches (sight location_scope core)) b (fewer-batches core a) among) marked in
              (planned-now b m old.0, word-other core a (LocB m.index) (λ x. absurd cc) ∙ old.1);
        })
