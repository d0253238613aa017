-- Where the way up of a move is in the trees: each place on it is in a tree, and one level above the last.
use Rattle.std.specs.Prelude.{◌^◌, option_map}
use Rattle.std.proofs.Common.{◌≡◌, ℕ, zero, suc, ◌+◌, ◌*◌, ◌<◌, ◌≤◌, List, inl, inr, refl, ap, sym, ◌∙◌, subst, arith}
use Rattle.std.proofs.lemmas.Bool.{cases_lt}
use Rattle.body_ident.specs.Id.{Id}
use Rattle.scene_model.specs.declared.body_view.Phase.TheVariants.{In}
use Rattle.scene_model.specs.Scene.{Scene, record_at}
use Rattle.scene_model.specs.Cause.{HasIdBody}
use Rattle.word_map.specs.declared.config.Config.{Config}
use Rattle.word_map.specs.declared.name.Name.TheVariants.{Parent, LocA, LocB, Child}
use Rattle.word_map.specs.Limits.{IsConfig}
use Rattle.word_map.specs.Names.{node_count}
use Rattle.core_state.specs.declared.view.Task.{Task}
use Rattle.core_state.specs.declared.view.Task.TheVariants.{Moving}
use Rattle.core_state.specs.declared.view.Call.{Call}
use Rattle.core_state.specs.declared.view.View.{View}
use Rattle.core_state.specs.View.{IsPass}
use Rattle.core_state.specs.Core.{word_of}
use Rattle.core_state.specs.Encoding.{Sides, place, node_child}
use Rattle.core_state.specs.LocationsHold.{location_scope, IsLocation}
use Rattle.core_state.specs.Moving.{IsKnownLocation}
use Rattle.core_state.specs.Nodes.{Nodes, Stands}
use Rattle.core_state.specs.Parts.{call_by_task, call_on_places, update_on_places}
use Rattle.core_state.specs.Scope.{Sight, sight, scene_in}
use Rattle.core_state.specs.TreesSound.{tree_scope, IsPlaced, as_root, at_place, IsChild, nothing, a_body, a_node}
use Rattle.core_state.proofs.Beginning.{body_record}
use Rattle.core_guard.proofs.PlacesStay.{PassIsPlaced, pass-placed}
use Rattle.core_guard.proofs.Seats.{each-seat}
use Rattle.pass_table.specs.Bodies.{IsCurrent}
use Rattle.pass_table.specs.Settled.{KnowsPhase}
use Rattle.pass_table.proofs.Bodies.{known-now, scene-known}
use Rattle.pass_table.proofs.Settled.{sound-now}
use Rattle.widen_bounds.specs.stages.Widening.{HasClimbedTo, at_begin, one_up}

-- two places that are the same
pub place-once : (n k m j : ℕ) → k < 4 → j < 4 → place n k ≡ place m j → (n ≡ m) × (k ≡ j)
place-once n k m j below less e = (omega arith, omega arith)

four-cut : (m : ℕ) → (q : ℕ) × (r : ℕ) × (r < 4) × (m ≡ 4 * q + r)
four-cut zero = (0, 0, omega arith, omega arith)
four-cut (suc m) =
    let t = four-cut m in
    let below = t.2 in
    let is = t.3 in
    elim (cases_lt t.1 3) [
      | inl less ↦ (t.0, t.1 + 1, omega arith, omega arith)
      | inr full ↦ (t.0 + 1, 0, omega arith, omega arith)
    ]

-- a node is one level below the one in which it is
module _ (nodes : Nodes) (s : Sight) where
  below-it : (n k a : ℕ) → s.word (Child n k) ≡ node_child a → IsChild nodes s n k → nodes.depth a ≡ suc (nodes.depth n)
  below-it n k a e (nothing none) = absurd (omega arith)
  below-it n k a e (a_body i low is) = absurd (omega arith)
  below-it n k a e (a_node m is home parent depth) =
      let same : m ≡ a = omega arith in
      subst (λ (x : ℕ). nodes.depth x ≡ suc (nodes.depth n)) same depth

  up-from : ((n : ℕ) → Stands (nodes.home n) → (k : ℕ) → k < 4 → IsChild nodes s n k) → (a m j : ℕ) → Stands (nodes.home a) → j < 4 → s.word (Parent a) ≡ place m j → IsPlaced nodes s a
      → Stands (nodes.home m) × (nodes.depth a ≡ suc (nodes.depth m))
  up-from children a m j stands below e (as_root none root) = absurd (omega arith)
  up-from children a m j stands below e (at_place n k low is child home) =
      let once = place-once n k m j low below (sym is ∙ e) in
      let there : Stands (nodes.home n) = subst Stands (sym home) stands in
      subst (λ (x : ℕ). Stands (nodes.home x) × (nodes.depth a ≡ suc (nodes.depth x))) once.0 (there, below-it n k a child (children n there k low))

module _ (view : View) (now : IsCurrent view) where
  abbrev pub nodes_now : Nodes
  nodes_now = now.stands.laws.nodes

  abbrev pub places_now : Sight
  places_now = sight location_scope now.core

  -- what the laws say of the pass
  pub placed-now : (number : ℕ) → IsPass view number → (index : ℕ) (target : List ℕ) → view.call.task ≡ Moving index target
      → PassIsPlaced nodes_now places_now view.call (option_map update_on_places view.rebuild)
  placed-now number pass index target task =
      let old = each-seat location_scope (λ k v. refl) now.core (λ k v. PassIsPlaced nodes_now places_now v.call v.rebuild) (pass-placed nodes_now places_now now.stands.laws.locations) now.seat number view now.at pass in
      let seen : call_on_places view.call ≡ view.call = ap (λ (t : Task). call_by_task t view.call) task in
      subst (λ (c : Call). PassIsPlaced nodes_now places_now c (option_map update_on_places view.rebuild)) seen old

  -- a location of a body in the broad phase is in a tree
  pub location-stands : (id : Id) → KnowsPhase id In view → (n k : ℕ) → IsKnownLocation view id.index n k → Stands (nodes_now.home n)
  location-stands id knows n k location =
      let body = body_record (record_at (scene_in places_now) id.index) _ (subst (λ (s : Scene). HasIdBody s id (λ r. r.phase ≡ In)) (scene-known view now) (knows.body (sound-now view now))) in
      let there : IsLocation places_now id.index n k =
      (location.0, elim (location.1) [ inl e ↦ inl (sym (known-now view now (LocA id.index)) ∙ e) | inr e ↦ inr (sym (known-now view now (LocB id.index)) ∙ e) ])
      in
      (now.stands.laws.locations.at id.index body.0 n k body.1 body.2.1 there).stands

  -- a node in a tree is one of the world, and not deep
  pub node-below : (n : ℕ) → Stands (nodes_now.home n) → n < node_count view.config
  node-below n stands =
      elim (cases_lt n (node_count now.core.config)) [
        | inl less ↦ subst (λ (c : Config). n < node_count c) now.sizes less
        | inr above ↦ absurd (subst Stands (now.stands.laws.places.in_use n above) stands)
      ]

  -- so a word that names a place there is not great
  pub word-below : (w : ℕ) → ((n k : ℕ) → k < 4 → w ≡ place n k → n < node_count view.config) → w ≤ 2 ^ 34
  word-below w named = go w refl
    where
      go : (v : ℕ) → w ≡ v → v ≤ 2 ^ 34
      go zero e = omega arith
      go (suc m) e =
          let t = four-cut m in
          let is = t.3 in
          let node = named t.0 t.1 t.2 (e ∙ omega arith) in
          let limits : IsConfig view.config = subst IsConfig now.sizes now.stands.formed.sizes in
          let count = limits.nodes.1 in
          let bodies = limits.bodies.1 in
          let layers = limits.layers.1 in
          omega arith

  -- a parent that is loaded is in the tree too, one level higher
  pub parent-stands : (a m j : ℕ) → Stands (nodes_now.home a) → j < 4 → word_of now.core (Parent a) ≡ place m j → Stands (nodes_now.home m) × (nodes_now.depth a ≡ suc (nodes_now.depth m))
  parent-stands a m j stands below e =
      let sound = now.stands.laws.trees.sound in
      up-from nodes_now (sight tree_scope now.core) (λ n there. (sound n there).children) a m j stands below e (sound a stands).placed

  pub way-stands : (number : ℕ) → IsPass view number → (index : ℕ) (target : List ℕ) → view.call.task ≡ Moving index target → (box : Sides) (n k level a b : ℕ) → HasClimbedTo view.call box n k level a b
      → Stands (nodes_now.home n) → Stands (nodes_now.home a) × (nodes_now.depth n ≡ level + nodes_now.depth a)
  way-stands number pass index target task box n k zero a b at_begin stands = (stands, omega arith)
  way-stands number pass index target task box n k (suc level) m j (one_up l a b x y way wide below loaded) stands =
      let one = way-stands number pass index target task box n k level a b way stands in
      let up = parent-stands a m j one.0 below ((placed-now number pass index target task).on_its_way a (place m j) loaded).0 in
      let low = one.1 in
      let high = up.1 in
      (up.0, omega arith)

  pub depth-low : (n : ℕ) → Stands (nodes_now.home n) → nodes_now.depth n < 10
  depth-low n stands = (now.stands.laws.trees.sound n stands).height
