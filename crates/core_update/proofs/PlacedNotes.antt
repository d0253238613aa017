-- An update places a body: its second location is stored. What the law of locations says of the body, of the pass and of all
-- others then.
use Rattle.std.proofs.Common.{◌≡◌, ◌≢◌, ℕ, ◌+◌, ◌<◌, [], ◌∷◌, ◌++◌, Bool, true, false, Some, None, refl, ap, sym, ◌∙◌, subst, inl, inr, arith}
use Rattle.std.specs.Prelude.{option_map, if◌then◌else◌, ◌==◌}
use Rattle.std.proofs.lemmas.Bool.{cases_eq, ne_eqb}
use Rattle.std.proofs.lemmas.Option.{same_Some}
use Rattle.fixed_box.specs.FixBox.{words_of}
use Rattle.scene_model.specs.declared.body_view.Phase.TheVariants.{In}
use Rattle.scene_model.specs.Scene.{Record, record_at}
use Rattle.word_map.specs.declared.name.Name.{Name}
use Rattle.word_map.specs.declared.name.Name.TheVariants.{Phase, BoxWord, LocB, Child}
use Rattle.word_map.specs.Names.{stripe_of}
use Rattle.core_state.specs.declared.view.Mode.TheVariants.{Write}
use Rattle.core_state.specs.declared.view.Call.{Call}
use Rattle.core_state.specs.declared.view.Rebuild.{Rebuild}
use Rattle.core_state.specs.declared.view.Task.{Task}
use Rattle.core_state.specs.declared.view.Task.TheVariants.{Nothing, Placing}
use Rattle.core_state.specs.declared.view.View.{View}
use Rattle.core_state.specs.View.{Holds, known_word}
use Rattle.core_state.specs.Core.{Core, word_of, scene_of}
use Rattle.core_state.specs.Encoding.{body_child, phase_in, phase_join, Sides, sides_of, Covers}
use Rattle.core_state.specs.Kind.{Kind, Step, learned, log_after}
use Rattle.core_state.specs.Lists.{with_task}
use Rattle.core_state.specs.Nodes.{Nodes, made, Stands}
use Rattle.core_state.specs.Parts.{call_by_task, update_on_places}
use Rattle.core_state.specs.Placing.{IsToPlace, MayPlaceNoted, place_noted, placed_by}
use Rattle.core_state.specs.Scope.{Sight, sight}
use Rattle.core_state.specs.LocationsHold.{location_scope, Encloses}
use Rattle.core_state.proofs.Steps.{word-step, word-step-other}
use Rattle.core_guard.proofs.BodiesStep.{found-now}
use Rattle.core_guard.proofs.BodyAnew.{turn-leaves}
use Rattle.core_guard.proofs.Leaving.{Acts, After, Last, Stays, Leaves, scene-plain, stays-by, body_of}
use Rattle.core_guard.proofs.OnBody.{OnBody, IsOn, removes-else, places-else}
use Rattle.core_guard.proofs.OneUpdate.{second-placed}
use Rattle.core_guard.proofs.PlacesLeft.{SeenUpdate}
use Rattle.core_guard.proofs.PlacesStay.{PassIsPlaced, pass-placed, encloses-forth}
use Rattle.core_guard.proofs.Recalled.{with_known}
use Rattle.core_guard.proofs.Seats.{each-seat}
use Rattle.core_move.proofs.Climbing.{climbed-encloses}
use Rattle.core_update.proofs.OwnNotes.{Locating, known, body, undone, planned-at}
use Rattle.core_update.proofs.PlacedBody.{places_it, box-words, planned-home}

pub covers-same : (a b c : Sides) → ((q : ℕ) → q < 6 → b q ≡ c q) → Covers a b → Covers a c
covers-same a b c same h q low =
    let t = h q low in
    let one = same q (omega arith) in
    let two = same (3 + q) (omega arith) in
    (omega arith, omega arith)

module _ (core : Core) (step : Step) (a : Acts core step) (asked : MayPlaceNoted step.view step.name step.first step.second) where
  abbrev pub nodes : Nodes
  nodes = a.laws.nodes

  abbrev pub index : ℕ
  index = asked.index

  abbrev pub p : IsToPlace step.view asked.index
  p = asked.to_place

  -- the step as one of which the pass notes just that it goes on
  abbrev pub placing_on : View → Name → ℕ → ℕ → ℕ → View
  placing_on view name found first second = with_task view (Placing asked.index)

  abbrev pub quiet : Kind
  quiet = record place_noted { leaves = placing_on }

  abbrev pub Was : Sight
  Was = sight location_scope core

  abbrev pub Is : Sight
  Is = sight location_scope (After place_noted core step)

  abbrev pub going_on : Call
  going_on = record { task = Placing asked.index; loads = []; stores = [] }

  pub o : OnBody quiet core step index going_on
  o = record { stripe = subst (λ (j : ℕ). Holds step.view (stripe_of step.view.config j) Write) p.of_body p.as_noted.settled.stripe; before = subst (λ (t : Task). IsOn asked.index t) (sym asked.task) refl; after = refl; recalls = refl }

  pub of_body : body_of step.name ≡ Some index
  of_body = ap body_of asked.names

  -- ---- what the pass is left with

  abbrev pub next_task : Task
  next_task = if known_word (learned core step) (Phase asked.index) == phase_in then Nothing else Placing asked.index

  abbrev pub u : Rebuild
  u = record asked.to_place.r { placed = asked.to_place.r.placed ++ asked.index ∷ [] }

  pub last : Last place_noted core step ≡ record step.view {
    call = record { task = next_task; loads = []; stores = [] };
    rebuild = option_map (λ (r : Rebuild). record r { placed = r.placed ++ asked.index ∷ [] }) step.view.rebuild;
    known = log_after place_noted core step;
    joined = None;
  }
  last = ap (λ (n : Name). with_known place_noted core step (placed_by (learned core step) n)) asked.names

  pub same-call : (Last place_noted core step).call ≡ record { task = next_task; loads = []; stores = [] }
  same-call = ap (λ (v : View). v.call) last

  pub new-rebuild : (Last place_noted core step).rebuild ≡ Some u
  new-rebuild = ap (λ (v : View). v.rebuild) last ∙ ap (option_map (λ (r : Rebuild). record r { placed = r.placed ++ asked.index ∷ [] })) p.update

  -- with a phase that names a slot it goes on, with another one it has done
  pub task-joins : (t : ℕ) → word_of core (Phase index) ≡ phase_join t → next_task ≡ Placing index
  task-joins t e =
      let other : (known_word (learned core step) (Phase asked.index) == phase_in) ≡ false = ne_eqb (known_word (learned core step) (Phase asked.index)) phase_in (λ same. let joins = found-now place_noted core step a.at a.pass (Phase asked.index) a.formed ∙ e in absurd (omega arith)) in
      rw other refl

  pub task-or : (P : Task → Type 0) → P Nothing → P (Placing index) → P next_task
  task-or P idle places = go (known_word (learned core step) (Phase asked.index) == phase_in)
    where
      go : (test : Bool) → P (if test then Nothing else Placing asked.index)
      go true = idle
      go false = places

  -- ---- words and bodies

  pub word-same : (name : Name) → name ≢ LocB index → word_of (After place_noted core step) name ≡ word_of core name
  word-same name other = word-step-other place_noted core step name (λ e. other (e ∙ asked.names))

  pub second-now : word_of (After place_noted core step) (LocB index) ≡ p.noted.place
  second-now = ap (word_of (After place_noted core step)) (sym asked.names) ∙ (word-step place_noted core step ∙ asked.at)

  -- it had none before
  pub second-none : word_of core (LocB index) ≡ 0
  second-none =
      elim (cases_eq (word_of core (LocB index)) 0) [
        | inl none ↦ none
        | inr some ↦ absurd (p.unplaced (second-placed core a.formed nodes a.laws.places a.laws.locations index some step.seat step.number step.view p.r a.at a.pass p.update))
      ]

  abbrev pub b : Record
  b = (body core step a asked.index asked.to_place).0

  pub b-is : record_at (scene_of core) index ≡ Some b
  b-is = subst (λ (j : ℕ). record_at (scene_of core) j ≡ Some b) p.of_body (body core step a asked.index asked.to_place).1

  pub b-in : b.phase ≡ In
  b-in = (body core step a asked.index asked.to_place).2

  pub record-same : (j : ℕ) → record_at (scene_of (After place_noted core step)) j ≡ record_at (scene_of core) j
  record-same j = scene-plain place_noted core step (λ value. refl) j

  pub m : Leaves quiet core step nodes nodes (λ n. ⊥)
  m = turn-leaves quiet core step nodes index of_body refl

  pub stays : (j : ℕ) → j ≢ index → Stays quiet core step j
  stays j apart =
      stays-by quiet core step j (record-same j) (λ name of. word-same name (λ e. apart (same_Some j index (sym of ∙ ap body_of e)))) (removes-else quiet core step index going_on a o j apart) (places-else quiet core step index going_on a o j apart)

  -- ---- the place

  pub home : nodes.home asked.node ≡ made step.number p.noted.layer
  home = planned-home core step a index p (places_it asked.task) asked.node asked.child asked.below asked.planned

  pub entry : word_of core (Child asked.node asked.child) ≡ body_child index
  entry =
      let t = planned-at core step a index p p.noted p.among in
      let n : t.node ≡ asked.node = let e = t.at in let f = asked.planned in let x = t.below in let y = asked.below in omega arith in
      let k : t.child ≡ asked.child = let e = t.at in let f = asked.planned in let x = t.below in let y = asked.below in omega arith in
      (λ j. word_of core (Child (sym n j) (sym k j))) ∙ (t.undone (undone core step a index p (Locating core step a p.r p.update) (update_on_places p.r) refl refl) ∙ ap body_child p.of_body)

  own : PassIsPlaced nodes Was step.view.call (SeenUpdate place_noted core step)
  own =
      subst (λ (c : Call). PassIsPlaced nodes Was c (SeenUpdate place_noted core step)) (ap (λ (t : Task). call_by_task t step.view.call) asked.task)
      (each-seat location_scope (λ k v. refl) core (λ k v. PassIsPlaced nodes Was v.call v.rebuild) (pass-placed nodes Was a.laws.locations) step.seat step.number step.view a.at a.pass)

  pub box-same : (q : ℕ) → q < 6 → known_word step.view (BoxWord index q) ≡ sides_of (words_of b.bounds) q
  box-same q below =
      ap (λ (j : ℕ). known_word step.view (BoxWord j q)) (sym p.of_body) ∙ (sym ((known core step a index p).words (BoxWord p.noted.index q) refl) ∙ box-words core step a index p (places_it asked.task) place_noted q below)

  pub word-box : (q : ℕ) → q < 6 → known_word step.view (BoxWord index q) ≡ word_of (After place_noted core step) (BoxWord index q)
  word-box q below =
      box-same q below ∙ (sym (box-words core step a index p (places_it asked.task) place_noted q below) ∙ (ap (λ (j : ℕ). word_of core (BoxWord j q)) p.of_body ∙ sym (word-same (BoxWord index q) (λ e. absurd cc))))

  -- all bounds from there up contain the box
  pub encloses : (box : Sides) → ((q : ℕ) → q < 6 → known_word step.view (BoxWord index q) ≡ box q) → Encloses Is asked.node asked.child box
  encloses box same x y up =
      encloses-forth quiet core step a nodes (λ n. ⊥) m asked.node asked.child box (subst Stands (sym home) tt)
      (λ c d above. covers-same _ (λ q. known_word step.view (BoxWord asked.index q)) box same
      (climbed-encloses nodes Was (SeenUpdate place_noted core step) step.view.call own (λ q. known_word step.view (BoxWord asked.index q)) asked.node asked.child asked.climbed c d above)) x y up
