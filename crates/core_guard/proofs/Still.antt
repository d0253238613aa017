-- A step that stores no word but those of readers, and makes no entry: nodes and bodies are as before. Of a load in a climb
-- it is to be shown that the node is on the way up, of a step of a walk that the walk goes on.
use Rattle.std.proofs.Common.{◌≡◌, ◌≢◌, ℕ, [], ◌∷◌, ◌++◌, None, refl, sym, ◌∙◌, subst, inl, inr, arith, ap}
use Rattle.std.specs.Prelude.{Option}
use Rattle.std.proofs.lemmas.List.Elements.{Contains-append_cases}
use Rattle.word_map.specs.declared.name.Name.{Name}
use Rattle.word_map.specs.declared.name.Name.TheVariants.{Child, Bound, Parent, Main, Slot, Reader}
use Rattle.core_state.specs.declared.item.Load.{Load}
use Rattle.core_state.specs.declared.view.Task.{Task}
use Rattle.core_state.specs.declared.view.Task.TheVariants.{Moving, Placing}
use Rattle.core_state.specs.declared.view.Call.{Call}
use Rattle.core_state.specs.declared.view.Rebuild.{Rebuild}
use Rattle.core_state.specs.Log.{history}
use Rattle.core_state.specs.Core.{Core, word_of}
use Rattle.core_state.specs.Encoding.{NamesRoot, IsBox, place}
use Rattle.core_state.specs.Kind.{Kind, Step, gained_by}
use Rattle.core_state.specs.LocationsHold.{LocationsHold, location_scope, Removes, ClimbsFrom, IsOnItsWay}
use Rattle.core_state.specs.Moving.{HasComeTo, at_start, by_parent}
use Rattle.core_state.specs.Nodes.{Nodes, Above, here}
use Rattle.core_state.specs.Parts.{call_on_places}
use Rattle.core_state.specs.Scope.{Sight, sight}
use Rattle.core_state.specs.Space.{IsTarget}
use Rattle.core_state.specs.Updates.{IsPlacing}
use Rattle.core_state.specs.ReadersCounted.{ReadersCounted}
use Rattle.core_state.proofs.Beginning.{above-more}
use Rattle.core_guard.proofs.Seats.{each-seat}
use Rattle.core_guard.proofs.Leaving.{Acts, After, Last, Stays, Leaves, step-goes_on, scene-plain, stays-by, body_of}
use Rattle.core_guard.proofs.PlacesStay.{PassIsPlaced, acting, taken-out, pass-placed, pass-forth}
use Rattle.core_guard.proofs.PlacesLeft.{SeenUpdate, LocationsHold-stays}
use Rattle.core_guard.proofs.ReadersLeft.{some-all, Counts, GoesOn, climbs-own, ReadersCounted-goes_on, counts-stay}
use Rattle.core_guard.proofs.TreesLeft.{KeepsBoxes}
use Rattle.core_guard.proofs.InPlace.{stays-in_place}
use Rattle.std.proofs.lemmas.Option.{none-some}

pub record IsStill (kind : Kind) (core : Core) (step : Step) : Type 0 where
  pub words : (name : Name) → ((p : ℕ) → name ≢ Reader p) → word_of (After kind core step) name ≡ word_of core name
  pub entry : (value : ℕ) → kind.entry step.view step.name value ≡ None
  pub task : (Last kind core step).call.task ≡ step.view.call.task
  pub batches : (Last kind core step).batches ≡ step.view.batches
  pub rebuild : (Last kind core step).rebuild ≡ step.view.rebuild

-- ---- climbs

-- where a call climbs from is no matter of what it loaded
pub climbs-any : (s : Sight) (c d : Call) (r : Option Rebuild) (task : Task) (n k : ℕ) → ClimbsFrom s (acting c r) task n k → ClimbsFrom s (acting d r) task n k
climbs-any s c d r (Moving index target) n k h = h
climbs-any s c d r (Placing index) n k h = h
climbs-any s c d r _ n k h = absurd h

abbrev pub with_new : Call → Load → Call
with_new c new = record c { loads = c.loads ++ new ∷ [] }

module _ (nodes : Nodes) (s : Sight) (r : Option Rebuild) (c : Call) (p : PassIsPlaced nodes s c r) where
  -- what a climb has come to is at a place that it begins at, or above one
  pub come-up : (Begins : ℕ → ℕ → Type 0) → ((n k : ℕ) → Begins n k → ClimbsFrom s (acting c r) c.task n k) → (m j : ℕ) → HasComeTo c Begins m j → (n : ℕ) × (k : ℕ) × ClimbsFrom s (acting c r) c.task n k × Above s.word n k m j
  come-up Begins climbs m j (at_start begins) = (m, j, climbs m j begins, here m j)
  come-up Begins climbs m j (by_parent x below loaded) =
      let old = p.on_its_way x (place m j) loaded in
      let t = old.1 in
      (t.0, t.1, t.3, above-more s.word t.0 t.1 x t.2 m j t.4 old.0 below)

  -- a load more
  loaded-placed : (new : Load) → IsOnItsWay s (acting (record c { loads = new ∷ [] }) r) → PassIsPlaced nodes s (with_new c new) r
  loaded-placed new way =
      let d = with_new c new in
      record {
        removed = λ i removes. taken-out nodes s (acting c r) (acting d r) i refl (p.removed i removes);
        unheld = p.unheld;
        widened = p.widened;
        still_wide = p.still_wide;
        climbs_from = λ n k climbs. p.climbs_from n k (climbs-any s d c r c.task n k climbs);
        on_its_way = λ m value h.
            elim (Contains-append_cases c.loads (new ∷ []) (record { name = Parent m; value = value }) h) [
              | inl before ↦ let t = p.on_its_way m value before in (t.0, (t.1.0, t.1.1, t.1.2, climbs-any s c d r c.task t.1.0 t.1.1 t.1.3, t.1.4))
              | inr last ↦ let t = way m value last in (t.0, (t.1.0, t.1.1, t.1.2, climbs-any s (record c { loads = new ∷ [] }) d r c.task t.1.0 t.1.1 t.1.3, t.1.4))
            ];
        widened_on_way = λ a b q value h. let t = p.widened_on_way a b q value h in (t.0, t.1, climbs-any s c d r c.task t.0 t.1 t.2, t.3);
      }

-- ---- the step

module _ (kind : Kind) (core : Core) (step : Step) (s : IsStill kind core step) where
  names-forth : (name : Name) (root : ℕ) → NamesRoot name (word_of core name) root → NamesRoot name (word_of (After kind core step) name) root
  names-forth (Main l) root h = s.words (Main l) (λ p e. absurd cc) ∙ h
  names-forth (Slot l t) root h = s.words (Slot l t) (λ p e. absurd cc) ∙ h
  names-forth _ root h = h

  names-back : (name : Name) (root : ℕ) → NamesRoot name (word_of (After kind core step) name) root → NamesRoot name (word_of core name) root
  names-back (Main l) root h = sym (s.words (Main l) (λ p e. absurd cc)) ∙ h
  names-back (Slot l t) root h = sym (s.words (Slot l t) (λ p e. absurd cc)) ∙ h
  names-back _ root h = h

  pub still-leaves : (nodes : Nodes) → Leaves kind core step nodes nodes (λ n. ⊥)
  still-leaves nodes = record {
    stays = λ n inside. refl;
    depth = λ n inside. refl;
    stood = λ n inside. inl refl;
    child = λ n k inside. inl (s.words (Child n k) (λ p e. absurd cc));
    parent = λ n inside. s.words (Parent n) (λ p e. absurd cc);
    wide = λ n k q stands. let same = s.words (Bound n k q) (λ p e. absurd cc) in (λ low. omega arith, λ high. omega arith);
    names = names-forth;
    named = λ name root h. inl (names-back name root h);
    more = history (gained_by kind core step);
    goes_on = step-goes_on kind core step;
    rebuild = s.rebuild;
  }

  pub still-stays : (i : ℕ) → Stays kind core step i
  still-stays i =
      stays-by kind core step i (scene-plain kind core step s.entry i) (λ name of. s.words name (λ p e. none-some i (sym (ap body_of e) ∙ of)))
      (subst (λ (t : Task). Removes t i) (sym s.task), subst (λ (t : Task). Removes t i) s.task) (subst (λ (t : Task). IsPlacing t i) (sym s.task), subst (λ (t : Task). IsPlacing t i) s.task)

  module _ (a : Acts core step) where
    abbrev No_new : ℕ → Type 0
    No_new n = ⊥

    abbrev left : Leaves kind core step a.laws.nodes a.laws.nodes No_new
    left = still-leaves a.laws.nodes

    -- ---- places

    abbrev pub Placed : Call → Type 0
    Placed call = PassIsPlaced a.laws.nodes (sight location_scope (After kind core step)) call (SeenUpdate kind core step)

    -- what was said of the own call is so of the words as they are now
    pub still-placed : Placed (call_on_places step.view.call)
    still-placed =
        let Was = sight location_scope core in
        pass-forth kind core step a a.laws.nodes No_new left (SeenUpdate kind core step) (call_on_places step.view.call) (λ i handled. stays-in_place kind core step i (still-stays i))
        (each-seat location_scope (λ k v. refl) core (λ number v. PassIsPlaced a.laws.nodes Was v.call v.rebuild) (pass-placed a.laws.nodes Was a.laws.locations) step.seat step.number step.view a.at a.pass)

    pub LocationsHold-still : Placed (call_on_places (Last kind core step).call) → LocationsHold a.laws.nodes (After kind core step)
    LocationsHold-still own = LocationsHold-stays kind core step a left still-stays s.batches own

    -- a load more in the own call
    pub LocationsHold-loaded : (new : Load) → call_on_places step.view.call ≡ step.view.call → call_on_places (Last kind core step).call ≡ with_new step.view.call new
        → (Placed step.view.call → IsOnItsWay (sight location_scope (After kind core step)) (acting (record step.view.call { loads = new ∷ [] }) (SeenUpdate kind core step))) → LocationsHold a.laws.nodes (After kind core step)
    LocationsHold-loaded new before after way =
        let old = subst Placed before still-placed in
        LocationsHold-still (subst Placed (sym after) (loaded-placed a.laws.nodes (sight location_scope (After kind core step)) (SeenUpdate kind core step) step.view.call old new (way old)))

    -- ---- walks

    pub still-boxes : KeepsBoxes kind core step a.laws.nodes a.laws.nodes
    still-boxes n k stands box = subst IsBox (λ i q. sym (s.words (Bound n k q) (λ p e. absurd cc)) i) box

    -- ---- readers

    pub still-counts : (Last kind core step).call ≡ step.view.call → Counts kind core step a a.laws.nodes No_new left
    still-counts call =
        let bound = λ (n k q : ℕ). s.words (Bound n k q) (λ p e. absurd cc) in
        counts-stay kind core step a left still-stays (λ index q side target. inl (subst (λ (c : Call). IsTarget c.task index q side) (sym call) target))
        (climbs-own kind core step a a.laws.nodes No_new left call (λ i handled. ((still-stays i).loc_a, (still-stays i).loc_b))) (λ n k q l live layer. inl (bound n k q))
        (λ number view among pass. some-all view.rebuild _ (λ r n k q l home. inl (bound n k q)))

    pub ReadersCounted-still : (Last kind core step).call ≡ step.view.call → GoesOn kind core step a a.laws.nodes No_new left → ReadersCounted a.laws.nodes (After kind core step)
    ReadersCounted-still call g = ReadersCounted-goes_on kind core step a a.laws.nodes No_new left (still-counts call) g
