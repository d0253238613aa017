-- The load of a parent to place a body keeps all laws: only the law of locations sees it, and the node is on the way up.
use Rattle.std.proofs.Common.{◌≡◌, ℕ, List, [], ◌∷◌, Option, Some, refl, ap, sym, ◌∙◌, subst}
use Rattle.std.specs.Prelude.{option_map, IsSomeAnd}
use Rattle.std.proofs.lemmas.Bool.{false≢true}
use Rattle.std.proofs.lemmas.List.{append-nil}
use Rattle.word_map.specs.declared.name.Name.{Name}
use Rattle.word_map.specs.declared.name.Name.TheVariants.{Parent}
use Rattle.core_state.specs.declared.item.Item.{Item}
use Rattle.core_state.specs.declared.item.Load.{Load}
use Rattle.core_state.specs.declared.view.Rebuild.{Rebuild}
use Rattle.core_state.specs.declared.view.Task.{Task}
use Rattle.core_state.specs.Encoding.{place}
use Rattle.core_state.specs.Log.{word}
use Rattle.core_state.specs.Core.{Core, word_of}
use Rattle.core_state.specs.Kind.{Kind, Step, found_by, after_step}
use Rattle.core_state.specs.Nodes.{Above}
use Rattle.core_state.specs.Parts.{call_by_task, update_on_places}
use Rattle.core_state.specs.Placing.{IsPlannedPlace, MayLoadParentPlacing, load_parent_placing}
use Rattle.core_state.specs.Scope.{Sight, sight}
use Rattle.core_state.specs.Updates.{IsNoted}
use Rattle.core_state.specs.LocationsHold.{location_scope, ClimbsFrom, IsOnItsWay}
use Rattle.core_state.specs.WalksLead.{WalksLeadIn, walk_scope}
use Rattle.core_state.specs.ReadersCounted.{ReadersCountedIn, reader_scope}
use Rattle.core_state.specs.Invariants.{Invariants}
use Rattle.core_state.proofs.Guarding.{GuardsHold-load}
use Rattle.core_state.proofs.Opening.{only}
use Rattle.core_guard.proofs.Light.{IsLight, Invariants-light, law-kept}
use Rattle.core_guard.proofs.Leaving.{Acts, After, Last}
use Rattle.core_guard.proofs.PlacesStay.{acting}
use Rattle.core_guard.proofs.PlacesLeft.{SeenUpdate}
use Rattle.core_guard.proofs.Still.{IsStill, Placed, LocationsHold-loaded, come-up, climbs-any}
use Rattle.core_guard.proofs.Holders.{IsGuarded}
use Rattle.core_guard.proofs.Touched.{IsKept, kept}

-- the node of a load of a parent
abbrev node_of_parent : Name → ℕ
node_of_parent (Parent n) = n
node_of_parent _ = 0

-- a planned place is one as the law of locations sees the update
pub planned-seen : (o : Option Rebuild) (index n k : ℕ) → IsSomeAnd o (λ r. IsNoted r index (λ noted. noted.place ≡ place n k))
    → IsSomeAnd (option_map update_on_places o) (λ r. IsNoted r index (λ noted. noted.place ≡ place n k))
planned-seen (Some r) index n k h = h
planned-seen _ index n k h = absurd h

module _ (index : ℕ) (core : Core) (step : Step) (a : Acts core step) (asked : MayLoadParentPlacing index step.view step.name step.first step.second) where
  abbrev kind : Kind
  kind = load_parent_placing index

  abbrev Is : Sight
  Is = sight location_scope (After kind core step)

  abbrev new_load : Load
  new_load = record { name = step.name; value = found_by core step }

  same_word : (name : Name) → word_of (After kind core step) name ≡ word_of core name
  same_word name = ap (λ (l : List Item). word core.config l name) (append-nil core.log)

  still : IsStill kind core step
  still = record { words = λ name other. same_word name; entry = λ value. refl; task = refl; batches = refl; rebuild = refl }

  -- the placing begins at the planned place
  begins : (n k : ℕ) → IsPlannedPlace step.view index n k → ClimbsFrom Is (acting step.view.call (SeenUpdate kind core step)) step.view.call.task n k
  begins n k h =
      subst (λ (t : Task). ClimbsFrom Is (acting step.view.call (SeenUpdate kind core step)) t n k) (sym asked.task) (h.0, planned-seen step.view.rebuild index n k h.1)

  on_way : Placed kind core step still a step.view.call → IsOnItsWay Is (acting (record step.view.call { loads = new_load ∷ [] }) (SeenUpdate kind core step))
  on_way p m value h =
      let e = only new_load (record { name = Parent m; value = value }) h in
      let name = ap (λ (l : Load). l.name) e in
      let node : asked.node ≡ m = ap node_of_parent (sym asked.names ∙ name) in
      let t = come-up a.laws.nodes Is (SeenUpdate kind core step) step.view.call p (IsPlannedPlace step.view index) begins asked.node asked.child asked.come in (
        same_word (Parent m) ∙ (ap (λ (x : Name). word_of core x) (sym name) ∙ ap (λ (l : Load). l.value) e),
        (t.0, t.1, asked.child, climbs-any Is step.view.call (record step.view.call { loads = new_load ∷ [] }) (SeenUpdate kind core step) step.view.call.task t.0 t.1 t.2, subst (λ (x : ℕ). Above Is.word t.0 t.1 x asked.child) node t.3),
      )

  light : IsLight kind core step
  light = record { reader = λ stored. absurd (false≢true stored); entry = λ value. refl; locks = refl; bodies = refl; nodes = refl; trees = refl; cover = refl }

  Invariants-loads : Invariants (after_step kind core step)
  Invariants-loads =
      let locations = LocationsHold-loaded kind core step still a new_load (ap (λ (t : Task). call_by_task t step.view.call) asked.task) (ap (λ (t : Task). call_by_task t (Last kind core step).call) asked.task) on_way in
      Invariants-light kind core step a light locations (law-kept kind core step a light walk_scope WalksLeadIn (λ stored. absurd (false≢true stored)) refl a.laws.walks)
      (law-kept kind core step a light reader_scope (ReadersCountedIn a.laws.nodes) (λ stored. absurd (false≢true stored)) refl a.laws.readers)

-- ---- kind 36

pub Invariants-load_parent_placing : (index : ℕ) → IsKept (MayLoadParentPlacing index) (load_parent_placing index)
Invariants-load_parent_placing index = kept (MayLoadParentPlacing index) (load_parent_placing index) (λ core step a asked. Invariants-loads index core step a asked)

pub GuardsHold-load_parent_placing : (index : ℕ) → IsGuarded (MayLoadParentPlacing index) (load_parent_placing index)
GuardsHold-load_parent_placing index before after steps formed laws guards =
    GuardsHold-load (MayLoadParentPlacing index) (load_parent_placing index) before after (λ found first. refl) steps guards
