-- A body that is settled for a pass stands still: no other pass stores a word of it, and it is as the pass knows it.
use Rattle.std.proofs.Common.{◌≡◌, ◌≢◌, ℕ, ◌≤◌, List, [], ◌∷◌, ◌++◌, Option, Some, None, option_map, IfSome, IsSomeAnd, append_assoc, refl, ap, sym, ◌∙◌, subst, inl, inr, arith}
use Rattle.std.specs.Prelude.{All, ⊤}
use Rattle.std.specs.List.{cons_option}
use Rattle.std.proofs.lemmas.List.{append-nil, length-append}
use Rattle.std.proofs.lemmas.List.Elements.{All-head, All-tail, All-contains, filter_map-append}
use Rattle.scene_model.specs.declared.body_view.Phase.TheVariants.{Held, In}
use Rattle.scene_model.specs.declared.entry.Entry.{Entry}
use Rattle.scene_model.specs.declared.entry.Entry.TheVariants.{Create, Destroy, Mark, Unmark, Join, Remove, Move, SetUser}
use Rattle.scene_model.specs.declared.entry.Made.{Made}
use Rattle.scene_model.specs.Scene.{Scene, Record, Place, empty_scene, place_at, record_at}
use Rattle.scene_model.specs.Step.{HasBody, IsLawful, after_entry}
use Rattle.scene_model.specs.History.{scene_from, IsLawfulFrom}
use Rattle.scene_model.proofs.Places.{place_at-with_body_other}
use Rattle.scene_model.proofs.Batches.{place_at-fold_phase}
use Rattle.scene_model.proofs.Histories.{scene_from-append, lawful_parts}
use Rattle.word_map.specs.declared.config.Config.{Config}
use Rattle.word_map.specs.declared.name.Name.{Name}
use Rattle.word_map.specs.declared.name.Name.TheVariants.{State, Phase, LocA, LocB}
use Rattle.word_map.specs.Names.{stripe_of}
use Rattle.core_state.specs.declared.item.Item.{Item}
use Rattle.core_state.specs.declared.view.Mode.{Mode}
use Rattle.core_state.specs.declared.view.Mode.TheVariants.{Write}
use Rattle.core_state.specs.declared.view.View.{View}
use Rattle.core_state.specs.Log.{word, made_by, history}
use Rattle.core_state.specs.View.{Holds, known_word}
use Rattle.core_state.specs.Core.{Core, word_of, scene_of}
use Rattle.core_state.specs.Kind.{Step}
use Rattle.core_state.specs.Formed.{IsMadeOn, IsSoundItem, IsSoundView}
use Rattle.core_state.specs.Guards.{Owns, by_lock, IsBodyWord, IsQuiet, scene_at}
use Rattle.core_state.specs.Moving.{IsSettled, IsKnownLocation}
use Rattle.core_state.specs.Scope.{sight}
use Rattle.core_state.specs.LocationsHold.{location_scope, IsLocation}
use Rattle.core_state.proofs.Forming.{unspent_pass}
use Rattle.core_state.proofs.Guarding.{own-less, owned-still, live-still}
use Rattle.core_state.proofs.Reading.{word-other}
use Rattle.core_guard.proofs.Leaving.{Acts, held-once}
use Rattle.core_guard.proofs.Scenes.{place_at-created_other, place_at-destroyed_other}

-- ---- one entry

-- it is not on the body at an index, but that this may join
abbrev IsElse : ℕ → Entry → Type 0
IsElse i (Create j layer bounds user) = i ≢ j
IsElse i (Destroy j) = i ≢ j
IsElse i (Mark j) = i ≢ j
IsElse i (Unmark j) = i ≢ j
IsElse i (Join layer indexes) = ⊤
IsElse i (Remove j) = i ≢ j
IsElse i (Move j bounds) = i ≢ j
IsElse i (SetUser j user) = i ≢ j

abbrev pub IsHeldIn : Scene → ℕ → Type 0
IsHeldIn scene i = HasBody scene i (λ r. r.phase ≡ Held)

held-some : (o : Option Record) (layer : ℕ) → IsSomeAnd o (λ r. (r.phase ≡ Held) × (r.layer ≡ layer)) → IsSomeAnd o (λ r. r.phase ≡ Held)
held-some None layer h = h
held-some (Some r) layer h = h.0

body_of_place : (scene after : Scene) (i : ℕ) → place_at after i ≡ place_at scene i → record_at after i ≡ record_at scene i
body_of_place scene after i e = ap (λ (p : Place). p.body) e

-- such an entry leaves a body that no batch holds
entry-same : (layers : ℕ) (scene : Scene) (i : ℕ) (entry : Entry) → IsLawful layers scene entry → IsElse i entry → ¬ IsHeldIn scene i → record_at (after_entry scene entry) i ≡ record_at scene i
entry-same layers scene i (Create j layer bounds user) lawful other unheld = body_of_place scene (after_entry scene (Create j layer bounds user)) i (place_at-created_other scene j layer bounds user i lawful.0 other)
entry-same layers scene i (Destroy j) lawful other unheld = body_of_place scene (after_entry scene (Destroy j)) i (place_at-destroyed_other scene j i other)
entry-same layers scene i (Mark j) lawful other unheld = body_of_place scene (after_entry scene (Mark j)) i (place_at-with_body_other scene j i _ other)
entry-same layers scene i (Unmark j) lawful other unheld = body_of_place scene (after_entry scene (Unmark j)) i (place_at-with_body_other scene j i _ other)
entry-same layers scene i (Join layer indexes) lawful other unheld =
    elim (place_at-fold_phase In indexes scene i) [
      | inl t ↦ absurd (unheld (held-some (record_at scene i) layer (All-contains (λ k. HasBody scene k (λ r. (r.phase ≡ Held) × (r.layer ≡ layer))) indexes i lawful.0.2 t.0)))
      | inr t ↦ body_of_place scene (after_entry scene (Join layer indexes)) i t.1
    ]
entry-same layers scene i (Remove j) lawful other unheld = body_of_place scene (after_entry scene (Remove j)) i (place_at-with_body_other scene j i _ other)
entry-same layers scene i (Move j bounds) lawful other unheld = body_of_place scene (after_entry scene (Move j bounds)) i (place_at-with_body_other scene j i _ other)
entry-same layers scene i (SetUser j user) lawful other unheld = body_of_place scene (after_entry scene (SetUser j user)) i (place_at-with_body_other scene j i _ other)

-- an entry that is made on no word of the body is such
else-made : (i : ℕ) (name : Name) (entry : Entry) → ¬ IsBodyWord i name → name ≢ Phase i → IsMadeOn entry name → IsElse i entry
else-made i name (Mark j) none phase made = λ same. phase (made ∙ ap Phase (sym same))
else-made i name (Unmark j) none phase made = λ same. phase (made ∙ ap Phase (sym same))
else-made i name (Join layer indexes) none phase made = tt
else-made i name (Remove j) none phase made = λ same. phase (made ∙ ap Phase (sym same))
else-made i name (Move j bounds) none phase made = λ same. none (subst (IsBodyWord i) (sym made.1) (sym same))
else-made i name _ none phase made = λ same. none (subst (IsBodyWord i) (sym made) (sym same))

else-some : (i : ℕ) (name : Name) (entry : Option Entry) → ¬ IsBodyWord i name → name ≢ Phase i → IfSome entry (λ e. IsMadeOn e name) → IfSome entry (IsElse i)
else-some i name None none phase made = tt
else-some i name (Some entry) none phase made = else-made i name entry none phase made

-- ---- one item, and those since the last step of the pass

abbrev pub made_of : ℕ → Entry → Made
made_of pass entry = record { pass = pass; entry = entry }

one-next : (layers : ℕ) (scene : Scene) (i pass : ℕ) (entry : Option Entry) (later : List Made) → IsLawfulFrom layers scene (cons_option (option_map (made_of pass) entry) later) → IfSome entry (IsElse i) → ¬ IsHeldIn scene i
    → (record_at (scene_from scene (cons_option (option_map (made_of pass) entry) [])) i ≡ record_at scene i) × IsLawfulFrom layers (scene_from scene (cons_option (option_map (made_of pass) entry) [])) later
one-next layers scene i pass None later lawful other unheld = (refl, lawful)
one-next layers scene i pass (Some entry) later lawful other unheld = (entry-same layers scene i entry lawful.0 other unheld, lawful.1)

pub scene-more : (c : Config) (first more : List Item) → scene_at c (first ++ more) ≡ scene_from (scene_at c first) (history more)
scene-more c first more = ap (scene_from (empty_scene c.bodies)) (filter_map-append made_by first more) ∙ scene_from-append (empty_scene c.bodies) (history first) (history more)

module _ (c : Config) (view : View) (i : ℕ) (mode : Mode) (holds : Holds view (stripe_of c i) mode) where
  pub settled-since : (known since : List Item) → ((early later : List Item) (item : Item) → since ≡ early ++ item ∷ later → IsQuiet c view (known ++ early) item)
      → All (IsSoundItem c) since → IsLawfulFrom c.layers (scene_at c known) (history since) → 256 ≤ word c known (State i) → ¬ IsHeldIn (scene_at c known) i
      → (record_at (scene_at c (known ++ since)) i ≡ record_at (scene_at c known) i) × (word c (known ++ since) (LocA i) ≡ word c known (LocA i))
  settled-since known [] quiet sound lawful live unheld =
      (ap (λ (l : List Item). record_at (scene_at c l) i) (append-nil known), ap (λ (l : List Item). word c l (LocA i)) (append-nil known))
  settled-since known (item ∷ since) quiet sound lawful live unheld =
      let first : IsQuiet c view known item = subst (λ (l : List Item). IsQuiet c view l item) (append-nil known) (quiet [] since item refl) in
      let none : ¬ IsBodyWord i item.name = λ own. let dead = first.body i mode holds own in omega arith in
      let phase : item.name ≢ Phase i = λ same. first.others (subst (Owns c view) (sym same) (by_lock (stripe_of c i) mode holds refl)) in
      let place : item.name ≢ LocA i = λ same. unheld (first.location i mode holds same) in
      let other = else-some i item.name item.entry none phase (All-head (IsSoundItem c) item since sound).said in
      let one = one-next c.layers (scene_at c known) i item.pass item.entry (history since) lawful other unheld in
      let more = known ++ item ∷ [] in
      let scene : scene_at c more ≡ scene_from (scene_at c known) (history (item ∷ [])) = scene-more c known (item ∷ []) in
      let same : record_at (scene_at c more) i ≡ record_at (scene_at c known) i = ap (λ (s : Scene). record_at s i) scene ∙ one.0 in
      let state : word c more (State i) ≡ word c known (State i) = word-other c known item (State i) (λ e. none (subst (IsBodyWord i) (sym e) refl)) in
      let rest =
      settled-since more since
      (λ early later next parts.
      subst (λ (l : List Item). IsQuiet c view l next) (sym (append_assoc known (item ∷ []) early)) (quiet (item ∷ early) later next (ap (λ (l : List Item). item ∷ l) parts)))
      (All-tail (IsSoundItem c) item since sound)
      (subst (λ (s : Scene). IsLawfulFrom c.layers s (history since)) (sym scene) one.1)
      (omega arith)
      (λ held. unheld (subst (λ (o : Option Record). IsSomeAnd o (λ r. r.phase ≡ Held)) same held))
      in
      let whole : more ++ since ≡ known ++ item ∷ since = append_assoc known (item ∷ []) since in (
        ap (λ (l : List Item). record_at (scene_at c l) i) (sym whole) ∙ (rest.0 ∙ same),
        ap (λ (l : List Item). word c l (LocA i)) (sym whole) ∙ (rest.1 ∙ word-other c known item (LocA i) place),
      )

-- ---- a body that is settled for the pass of a step

all_second : {X : Type 0} (P : X → Type 0) (xs ys : List X) → All P (xs ++ ys) → All P ys
all_second P [] ys h = h
all_second P (x ∷ xs) ys h = all_second P xs ys (All-tail P x (xs ++ ys) h)

-- where its location words are what the pass knows, a location that the pass knows is one, and the other way round
module _ (core : Core) (view : View) (i : ℕ) (first : word_of core (LocA i) ≡ known_word view (LocA i)) (second : word_of core (LocB i) ≡ known_word view (LocB i)) where
  pub known-location : (n k : ℕ) → IsKnownLocation view i n k → IsLocation (sight location_scope core) i n k
  known-location n k h = (h.0, elim (h.1) [ inl e ↦ inl (first ∙ e) | inr e ↦ inr (second ∙ e) ])

  pub location-known : (n k : ℕ) → IsLocation (sight location_scope core) i n k → IsKnownLocation view i n k
  location-known n k h = (h.0, elim (h.1) [ inl e ↦ inl (sym first ∙ e) | inr e ↦ inr (sym second ∙ e) ])

-- its record and its words are those that the pass knows
pub record StandsStill (core : Core) (view : View) (i : ℕ) : Type 0 where
  pub body : record_at (scene_of core) i ≡ record_at (scene_at view.config view.known) i
  pub words : (name : Name) → IsBodyWord i name → word_of core name ≡ known_word view name
  pub phase : word_of core (Phase i) ≡ known_word view (Phase i)
  pub loc_a : word_of core (LocA i) ≡ known_word view (LocA i)
  pub loc_b : word_of core (LocB i) ≡ known_word view (LocB i)

module _ (core : Core) (step : Step) (a : Acts core step) where
  abbrev pub sound : IsSoundView core.config core.log step.view
  sound = a.formed.views step.seat step.view a.at (unspent_pass step.view.role step.number a.pass)

  pub quiet-since : (early later : List Item) (item : Item) → sound.known.0 ≡ early ++ item ∷ later → IsQuiet core.config step.view (step.view.known ++ early) item
  quiet-since early later item parts =
      a.guards step.seat step.number step.view (step.view.known ++ early) later item a.at a.pass
      (sound.known.1 ∙ (ap (λ (l : List Item). step.view.known ++ l) parts ∙ sym (append_assoc step.view.known early (item ∷ later))))
      (omega (arith, length-append step.view.known early, own-less step.view sound.joined))

  -- what is known, and what came since
  abbrev Known : List Item
  Known = step.view.known

  abbrev Since : List Item
  Since = sound.known.0

  pub sound-since : All (IsSoundItem core.config) Since
  sound-since = all_second (IsSoundItem core.config) Known Since (subst (λ (l : List Item). All (IsSoundItem core.config) l) sound.known.1 a.formed.items)

  -- what was known is lawful, and so is what came
  lawful-both : IsLawfulFrom core.config.layers (empty_scene core.config.bodies) (history Known) × IsLawfulFrom core.config.layers (scene_at core.config Known) (history Since)
  lawful-both =
      let start = empty_scene core.config.bodies in
      let whole = subst (λ (l : List Item). IsLawfulFrom core.config.layers start (history l)) sound.known.1 a.laws.bodies.lawful in
      lawful_parts core.config.layers start (history Known) (history Since) (subst (IsLawfulFrom core.config.layers start) (filter_map-append made_by Known Since) whole)

  pub lawful-known : IsLawfulFrom core.config.layers (empty_scene core.config.bodies) (history Known)
  lawful-known = lawful-both.0

  pub lawful-since : IsLawfulFrom core.config.layers (scene_at core.config Known) (history Since)
  lawful-since = lawful-both.1

  pub settled-still : (i : ℕ) → IsSettled step.view i → StandsStill core step.view i
  settled-still i h =
      let holds = subst (λ (c : Config). Holds step.view (stripe_of c i) Write) sound.config h.stripe in
      let live = subst (λ (c : Config). 256 ≤ word c Known (State i)) sound.config h.live in
      let unheld = subst (λ (c : Config). HasBody (scene_at c Known) i (λ r. r.phase ≢ Held)) sound.config h.unheld in
      let t = settled-since core.config step.view i Write holds Known Since quiet-since sound-since lawful-since live (held-once _ unheld) in
      let now : (name : Name) → word core.config Known name ≡ known_word step.view name = λ name. ap (λ (c : Config). word c Known name) (sym sound.config) in
      let owned : (name : Name) → Owns core.config step.view name → word_of core name ≡ known_word step.view name =
      λ name owns. owned-still core step.seat step.number step.view a.formed a.guards a.at a.pass name owns ∙ now name
      in
      record {
        body = ap (λ (l : List Item). record_at (scene_at core.config l) i) sound.known.1 ∙ (t.0 ∙ ap (λ (c : Config). record_at (scene_at c Known) i) (sym sound.config));
        words = λ name of_body. live-still core step.seat step.number step.view i Write name a.formed a.guards a.at a.pass holds live of_body ∙ now name;
        phase = owned (Phase i) (by_lock (stripe_of core.config i) Write holds refl);
        loc_a = ap (λ (l : List Item). word core.config l (LocA i)) sound.known.1 ∙ (t.1 ∙ now (LocA i));
        loc_b = owned (LocB i) (by_lock (stripe_of core.config i) Write holds refl);
      }
