-- What the steps of a move leave: locks, the places of nodes, all other bodies, and what the move itself has done so far.
use Rattle.std.proofs.Common.{length, true, ◌≡◌, ◌≢◌, ℕ, ◌<◌, ◌≤◌, List, [], ◌∷◌, ◌++◌, Option, refl, ap, sym, ◌∙◌, subst, inl, inr}
use Rattle.std.proofs.lemmas.List.Elements.{Contains-append_cases}
use Rattle.scene_model.specs.declared.body_view.Phase.TheVariants.{Held}
use Rattle.scene_model.specs.Step.{HasBody}
use Rattle.word_map.specs.declared.name.Name.{Name}
use Rattle.word_map.specs.declared.name.Name.TheVariants.{Bound}
use Rattle.core_state.specs.declared.item.Load.{Load}
use Rattle.core_state.specs.declared.item.Store.{Store}
use Rattle.core_state.specs.declared.view.Task.{Task}
use Rattle.core_state.specs.declared.view.Task.TheVariants.{Nothing, Moving}
use Rattle.core_state.specs.declared.view.Call.{Call}
use Rattle.core_state.specs.declared.view.Rebuild.{Rebuild}
use Rattle.core_state.specs.Core.{Core, scene_of}
use Rattle.core_state.specs.Kind.{Kind, Step}
use Rattle.core_state.specs.Nodes.{Nodes, Stands, Above, here, higher}
use Rattle.core_state.specs.Parts.{call_by_task, call_on_places}
use Rattle.core_state.specs.Scope.{Sight, sight}
use Rattle.core_state.specs.Space.{IsTarget}
use Rattle.core_state.specs.LocationsHold.{location_scope, IsLocation, Encloses}
use Rattle.core_state.specs.Bodies.{has_box_word}
use Rattle.core_state.specs.Encoding.{Sides, sides_of}
use Rattle.core_state.proofs.Opening.{only}
use Rattle.core_guard.proofs.Leaving.{Acts, After, Leaves, LeadsWithin}
use Rattle.core_guard.proofs.PlacesLeft.{SeenUpdate}
use Rattle.core_guard.proofs.PlacesStay.{PassIsPlaced, pass-placed, up-forth, encloses-forth, begun-placed, pass-forth, location-forth, location-back}
use Rattle.core_guard.proofs.Seats.{each-seat}
use Rattle.core_guard.proofs.InPlace.{InPlace}

-- ---- ways up

module _ (nodes : Nodes) (word : Name → ℕ) (leads : LeadsWithin nodes word) where
  -- a place above another is in the same tree
  pub above-home : (n k x y : ℕ) → Stands (nodes.home n) → Above word n k x y → nodes.home x ≡ nodes.home n
  above-home n k x y stands (here p q) = refl
  above-home n k x y stands (higher p q o j c d e below rest) =
      let up = leads.up n o j stands below e in
      above-home o j x y (subst Stands (sym up) stands) rest ∙ up

-- ---- the step

-- the move of the body that is under way, or one that begins
pub data Under (index : ℕ) (c : Call) : Type 0 where
  has_begun : (target : List ℕ) → c.task ≡ Moving index target → Under index c
  begins_now : c.task ≡ Nothing → Under index c

-- its target, and what it has loaded and stored
abbrev pub target_of : (index : ℕ) (c : Call) → Under index c → List ℕ
target_of index c (has_begun target e) = target
target_of index c (begins_now e) = []

abbrev pub loads_of : (index : ℕ) (c : Call) → Under index c → List Load
loads_of index c (has_begun target e) = c.loads
loads_of index c (begins_now e) = []

abbrev pub stores_of : (index : ℕ) (c : Call) → Under index c → List Store
stores_of index c (has_begun target e) = c.stores
stores_of index c (begins_now e) = []

-- the call of it, and with another target and a store more
abbrev pub call_under : (index : ℕ) (c : Call) → Under index c → Call
call_under index c u = record { task = Moving index (target_of index c u); loads = loads_of index c u; stores = stores_of index c u }

abbrev pub call_more : (index : ℕ) (c : Call) → Under index c → List ℕ → Store → Call
call_more index c u next new = record { task = Moving index next; loads = loads_of index c u; stores = stores_of index c u ++ new ∷ [] }

-- what is so of a move of the body, and of no task, is so of the task
pub under-so : (P : Task → Type 0) (index : ℕ) (c : Call) → P Nothing → ((t : List ℕ) → P (Moving index t)) → Under index c → P c.task
under-so P index c idle moves (has_begun t e) = subst P (sym e) (moves t)
under-so P index c idle moves (begins_now e) = subst P (sym e) idle

-- what the task was about to give, the move under way is
pub under-target : (index : ℕ) (c : Call) (u : Under index c) (i q side : ℕ) → IsTarget c.task i q side → IsTarget (Moving index (target_of index c u)) i q side
under-target index c (has_begun t e) i q side h = subst (λ (task : Task). IsTarget task i q side) e h
under-target index c (begins_now e) i q side h = absurd (subst (λ (task : Task). IsTarget task i q side) e h)

module _ (kind : Kind) (core : Core) (step : Step) (a : Acts core step) (index : ℕ) where
  abbrev nodes : Nodes
  nodes = a.laws.nodes

  abbrev Was : Sight
  Was = sight location_scope core

  abbrev Is : Sight
  Is = sight location_scope (After kind core step)

  -- ---- a store more of the move

  module _ (m : Leaves kind core step nodes nodes (λ n. ⊥)) (b : InPlace kind core step index) (r : Option Rebuild) (c : Call) (u : Under index c) (next : List ℕ) (new : Store) where
    abbrev One : Call
    One = call_under index c u

    abbrev Two : Call
    Two = call_more index c u next new

    -- it is to be shown that all bounds above contain the target once box words are stored, and of what is stored last that it
    -- is as wide, and at a place on the way
    pub record StoresOn : Type 0 where
      pub enclosed : has_box_word Two.stores ≡ true → (n k : ℕ) → IsLocation Was index n k → (length next ≡ 6) × Encloses Was n k (sides_of next)
      pub wide : (n k q value : ℕ) → new ≡ record { name = Bound n k q; value = value } → (q < 3 → Is.word (Bound n k q) ≤ value) × (3 ≤ q → value ≤ Is.word (Bound n k q))
      pub way : (x y q value : ℕ) → new ≡ record { name = Bound x y q; value = value } → (n : ℕ) × (k : ℕ) × IsLocation Was index n k × Above Was.word n k x y

    pub stores-placed : PassIsPlaced nodes Was One r → StoresOn → PassIsPlaced nodes Is Two r
    stores-placed p on =
        let was = pass-forth kind core step a nodes (λ n. ⊥) m r One (λ i handled. subst (InPlace kind core step) handled b) p in
        record {
          removed = λ i removes. absurd removes;
          unheld = was.unheld;
          widened = λ i n k box gives has location.
              let at = location-back kind core step a nodes (λ n. ⊥) m index b n k (subst (λ (j : ℕ). IsLocation Is j n k) (sym gives.0) location) in
              let t = on.enclosed has n k at in
              (t.0, subst (λ (box : Sides). Encloses Is n k box) (sym gives.1) (encloses-forth kind core step a nodes (λ n. ⊥) m n k (sides_of next) (p.climbs_from n k at) t.1));
          still_wide = λ n k q value among.
              elim (Contains-append_cases (stores_of index c u) (new ∷ []) (record { name = Bound n k q; value = value }) among) [
                | inl old ↦ was.still_wide n k q value old
                | inr last ↦ on.wide n k q value (only new (record { name = Bound n k q; value = value }) last)
              ];
          climbs_from = was.climbs_from;
          on_its_way = was.on_its_way;
          widened_on_way = λ x y q value among.
              elim (Contains-append_cases (stores_of index c u) (new ∷ []) (record { name = Bound x y q; value = value }) among) [
                | inl old ↦ was.widened_on_way x y q value old
                | inr last ↦
                    let t = on.way x y q value (only new (record { name = Bound x y q; value = value }) last) in
                    (t.0, t.1, location-forth kind core step a nodes (λ n. ⊥) m index b t.0 t.1 t.2, up-forth kind core step a nodes (λ n. ⊥) m t.0 t.1 x y (p.climbs_from t.0 t.1 t.2) t.3)
              ];
        }

  -- what is said of the own call as it is, or as it begins
  pub under-placed : (u : Under index step.view.call) → HasBody (scene_of core) index (λ q. q.phase ≢ Held) → ((n k : ℕ) → IsLocation Was index n k → Stands (nodes.home n))
      → PassIsPlaced nodes Was (call_under index step.view.call u) (SeenUpdate kind core step)
  under-placed (has_begun t e) unheld stands =
      let old = each-seat location_scope (λ k v. refl) core (λ number v. PassIsPlaced nodes Was v.call v.rebuild) (pass-placed nodes Was a.laws.locations) step.seat step.number step.view a.at a.pass in
      let seen : call_on_places step.view.call ≡ step.view.call = ap (λ (task : Task). call_by_task task step.view.call) e in
      let same : step.view.call ≡ record { task = Moving index t; loads = step.view.call.loads; stores = step.view.call.stores } =
      λ i. record { task = e i; loads = step.view.call.loads; stores = step.view.call.stores } in
      subst (λ (c : Call). PassIsPlaced nodes Was c (SeenUpdate kind core step)) (seen ∙ same) old
  under-placed (begins_now e) unheld stands = begun-placed nodes Was (SeenUpdate kind core step) (Moving index []) (λ i removes. absurd removes) unheld stands
