-- A body that is out, and whose stripe a pass holds: since the last step of that pass no batch held it, so its first
-- location is the one that the pass knows.
use Rattle.std.proofs.Common.{◌≡◌, ◌≢◌, ℕ, List, [], ◌∷◌, ◌++◌, Option, Some, None, option_map, IfSome, IsSomeAnd, IsNone, length, append_assoc, refl, ap, sym, ◌∙◌, subst, inl, inr, arith}
use Rattle.std.specs.Prelude.{All, Contains, is_some}
use Rattle.std.specs.List.{cons_option}
use Rattle.std.proofs.lemmas.Bool.{cases_eq}
use Rattle.std.proofs.lemmas.Option.{same_Some, cond_some}
use Rattle.std.proofs.lemmas.List.{append-nil, get_or_past}
use Rattle.std.proofs.lemmas.List.Elements.{All-head, All-tail}
use Rattle.scene_model.specs.declared.body_view.Phase.TheVariants.{Out, Held, In}
use Rattle.scene_model.specs.declared.entry.Entry.{Entry}
use Rattle.scene_model.specs.declared.entry.Entry.TheVariants.{Create, Destroy, Mark, Unmark, Join, Remove, Move, SetUser}
use Rattle.scene_model.specs.declared.entry.Made.{Made}
use Rattle.scene_model.specs.Scene.{Record, Scene, Place, unused, place_at, record_at, next_of, next_index}
use Rattle.scene_model.specs.Consistent.{IsConsistent}
use Rattle.scene_model.specs.Step.{HasBody, IsLawful, after_entry, with_change, in_phase}
use Rattle.scene_model.specs.History.{scene_from, IsLawfulFrom}
use Rattle.scene_model.proofs.Places.{place_at-with_change_same, place_at-with_body_other}
use Rattle.scene_model.proofs.Batches.{place_at-fold_phase}
use Rattle.scene_model.proofs.Histories.{IsConsistent-after_entry, IsConsistent-scene_after}
use Rattle.word_map.specs.declared.config.Config.{Config}
use Rattle.word_map.specs.declared.name.Name.{Name}
use Rattle.word_map.specs.declared.name.Name.TheVariants.{Phase, LocA}
use Rattle.word_map.specs.Names.{stripe_of}
use Rattle.core_state.specs.declared.item.Item.{Item}
use Rattle.core_state.specs.declared.view.Mode.{Mode}
use Rattle.core_state.specs.declared.view.Mode.TheVariants.{Write}
use Rattle.core_state.specs.declared.view.View.{View}
use Rattle.core_state.specs.Log.{word, history}
use Rattle.core_state.specs.View.{Holds, known_word}
use Rattle.core_state.specs.Core.{Core, word_of, scene_of}
use Rattle.core_state.specs.Kind.{Step}
use Rattle.core_state.specs.Formed.{IsMadeOn, IsSoundItem}
use Rattle.core_state.specs.Guards.{Owns, by_lock, IsQuiet, scene_at}
use Rattle.core_state.proofs.Beginning.{contains_first}
use Rattle.core_state.proofs.Reading.{word-other}
use Rattle.core_guard.proofs.Leaving.{Acts}
use Rattle.core_guard.proofs.Scenes.{none_here, place_at-created_other, place_at-destroyed_other}
use Rattle.core_guard.proofs.Settled.{made_of, scene-more, sound, quiet-since, sound-since, lawful-known, lawful-since}

-- a body is live and held, or in the broad phase
abbrev IsInside : Scene → ℕ → Type 0
IsInside scene i = HasBody scene i (λ r. r.phase ≢ Out)

-- no body is live at the index that the next one takes
next-dead : (layers : ℕ) (scene : Scene) (index : ℕ) → IsConsistent layers scene → next_index scene ≡ Some index → IsNone (record_at scene index)
next-dead layers scene index h next = go scene.freed refl next
  where
    go : (freed : List ℕ) → scene.freed ≡ freed → next_of freed (length scene.places) scene.bodies ≡ Some index → IsNone (record_at scene index)
    go [] e is =
        let same = (cond_some _ _ _ is).1 in
        ap (λ (p : Place). is_some p.body) (get_or_past scene.places index unused (omega arith))
    go (first ∷ rest) e is =
        subst (λ (k : ℕ). IsNone (record_at scene k)) (same_Some first index is) (h.freed_empty first (subst (λ (l : List ℕ). Contains l first) (sym e) (contains_first first rest))).1

mapped : (f : Record → Record) → ((r : Record) → r.phase ≢ Out → (f r).phase ≢ Out) → (o : Option Record) → IsSomeAnd o (λ r. r.phase ≢ Out) → IsSomeAnd (option_map f o) (λ r. r.phase ≢ Out)
mapped f keeps None h = h
mapped f keeps (Some r) h = keeps r h

-- it stays so where its place is the same, or its record changed so
inside-same : (scene after : Scene) (i : ℕ) → place_at after i ≡ place_at scene i → IsInside scene i → IsInside after i
inside-same scene after i same h = subst (λ (p : Place). IsSomeAnd p.body (λ r. r.phase ≢ Out)) (sym same) h

inside-changed : (f : Record → Record) (scene : Scene) (i j : ℕ) → ((r : Record) → r.phase ≢ Out → (f r).phase ≢ Out) → IsInside scene i → IsInside (with_change f scene j) i
inside-changed f scene i j keeps h =
    elim (cases_eq i j) [
      | inl same ↦
          subst (IsInside (with_change f scene j)) (sym same)
          (subst (λ (p : Place). IsSomeAnd p.body (λ r. r.phase ≢ Out)) (sym (place_at-with_change_same f scene j)) (mapped f keeps (record_at scene j) (subst (IsInside scene) same h)))
      | inr apart ↦ inside-same scene (with_change f scene j) i (place_at-with_body_other scene j i _ apart) h
    ]

not_both : (o : Option Record) → IsSomeAnd o (λ r. r.phase ≢ Out) → ¬ IsSomeAnd o (λ r. r.phase ≡ Out)
not_both None h out = h
not_both (Some r) h out = h out

held-inside : (o : Option Record) → IsSomeAnd o (λ r. r.phase ≡ Held) → IsSomeAnd o (λ r. r.phase ≢ Out)
held-inside None h = h
held-inside (Some r) h = λ out. held_out (sym h ∙ out)
  where
    held_out : Held ≡ Out → ⊥
    held_out e = absurd cc

-- no entry takes it out that is not made on its phase word
inside-entry : (layers : ℕ) (scene : Scene) (i : ℕ) (name : Name) (entry : Entry) → IsConsistent layers scene → IsLawful layers scene entry → name ≢ Phase i → IsMadeOn entry name → IsInside scene i
    → IsInside (after_entry scene entry) i
inside-entry layers scene i name (Create j layer bounds user) whole lawful phase made h =
    let apart : i ≢ j = λ same. none_here (record_at scene j) (λ r. r.phase ≢ Out) (next-dead layers scene j whole lawful.0) (subst (IsInside scene) same h) in
    inside-same scene (after_entry scene (Create j layer bounds user)) i (place_at-created_other scene j layer bounds user i lawful.0 apart) h
inside-entry layers scene i name (Destroy j) whole lawful phase made h =
    let apart : i ≢ j = λ same. not_both (record_at scene j) (subst (IsInside scene) same h) lawful.0 in
    inside-same scene (after_entry scene (Destroy j)) i (place_at-destroyed_other scene j i apart) h
inside-entry layers scene i name (Mark j) whole lawful phase made h = inside-changed (in_phase Held) scene i j (λ r some out. absurd cc) h
inside-entry layers scene i name (Unmark j) whole lawful phase made h =
    inside-same scene (after_entry scene (Unmark j)) i (place_at-with_body_other scene j i _ (λ same. phase (made ∙ ap Phase (sym same)))) h
inside-entry layers scene i name (Join layer indexes) whole lawful phase made h =
    elim (place_at-fold_phase In indexes scene i) [
      | inl t ↦ subst (λ (p : Place). IsSomeAnd p.body (λ r. r.phase ≢ Out)) (sym t.1) (mapped (in_phase In) (λ r some out. absurd cc) (record_at scene i) h)
      | inr t ↦ inside-same scene (after_entry scene (Join layer indexes)) i t.1 h
    ]
inside-entry layers scene i name (Remove j) whole lawful phase made h =
    inside-same scene (after_entry scene (Remove j)) i (place_at-with_body_other scene j i _ (λ same. phase (made ∙ ap Phase (sym same)))) h
inside-entry layers scene i name (Move j bounds) whole lawful phase made h = inside-changed (λ r. record r { bounds = bounds }) scene i j (λ r some. some) h
inside-entry layers scene i name (SetUser j user) whole lawful phase made h = inside-changed (λ r. record r { user = user }) scene i j (λ r some. some) h

-- ---- one item

record GoesInside (layers : ℕ) (scene after : Scene) (i : ℕ) (later : List Made) : Type 0 where
  inside : IsInside scene i → IsInside after i
  whole : IsConsistent layers after
  lawful : IsLawfulFrom layers after later

one-inside : (layers : ℕ) (scene : Scene) (i pass : ℕ) (name : Name) (entry : Option Entry) (later : List Made) → IsConsistent layers scene → IsLawfulFrom layers scene (cons_option (option_map (made_of pass) entry) later)
    → name ≢ Phase i → IfSome entry (λ e. IsMadeOn e name) → GoesInside layers scene (scene_from scene (cons_option (option_map (made_of pass) entry) [])) i later
one-inside layers scene i pass name None later whole lawful phase made = record { inside = λ h. h; whole = whole; lawful = lawful }
one-inside layers scene i pass name (Some entry) later whole lawful phase made = record {
  inside = inside-entry layers scene i name entry whole lawful.0 phase made;
  whole = IsConsistent-after_entry layers scene entry lawful.0 whole;
  lawful = lawful.1;
}

-- ---- the items since the last step of the pass

module _ (c : Config) (view : View) (i : ℕ) (mode : Mode) (holds : Holds view (stripe_of c i) mode) where
  out-since : (known since : List Item) → ((early later : List Item) (item : Item) → since ≡ early ++ item ∷ later → IsQuiet c view (known ++ early) item)
      → All (IsSoundItem c) since → IsConsistent c.layers (scene_at c known) → IsLawfulFrom c.layers (scene_at c known) (history since) → HasBody (scene_at c (known ++ since)) i (λ r. r.phase ≡ Out)
      → (¬ IsInside (scene_at c known) i) × (word c (known ++ since) (LocA i) ≡ word c known (LocA i))
  out-since known [] quiet items whole lawful out =
      let all = append-nil known in
      (λ h. not_both (record_at (scene_at c known) i) h (subst (λ (l : List Item). HasBody (scene_at c l) i (λ r. r.phase ≡ Out)) all out), ap (λ (l : List Item). word c l (LocA i)) all)
  out-since known (item ∷ since) quiet items whole lawful out =
      let first : IsQuiet c view known item = subst (λ (l : List Item). IsQuiet c view l item) (append-nil known) (quiet [] since item refl) in
      let phase : item.name ≢ Phase i = λ same. first.others (subst (Owns c view) (sym same) (by_lock (stripe_of c i) mode holds refl)) in
      let one = one-inside c.layers (scene_at c known) i item.pass item.name item.entry (history since) whole lawful phase (All-head (IsSoundItem c) item since items).said in
      let more = known ++ item ∷ [] in
      let scene : scene_at c more ≡ scene_from (scene_at c known) (history (item ∷ [])) = scene-more c known (item ∷ []) in
      let all : more ++ since ≡ known ++ item ∷ since = append_assoc known (item ∷ []) since in
      let rest =
      out-since more since
      (λ early later next parts.
      subst (λ (l : List Item). IsQuiet c view l next) (sym (append_assoc known (item ∷ []) early)) (quiet (item ∷ early) later next (ap (λ (l : List Item). item ∷ l) parts)))
      (All-tail (IsSoundItem c) item since items)
      (subst (IsConsistent c.layers) (sym scene) one.whole)
      (subst (λ (s : Scene). IsLawfulFrom c.layers s (history since)) (sym scene) one.lawful)
      (subst (λ (l : List Item). HasBody (scene_at c l) i (λ r. r.phase ≡ Out)) (sym all) out)
      in
      let before : ¬ IsInside (scene_at c known) i = λ h. rest.0 (subst (λ (s : Scene). IsInside s i) (sym scene) (one.inside h)) in
      let place : item.name ≢ LocA i = λ same. before (held-inside (record_at (scene_at c known) i) (first.location i mode holds same)) in
      (before, ap (λ (l : List Item). word c l (LocA i)) (sym all) ∙ (rest.1 ∙ word-other c known item (LocA i) place))

-- ---- the pass of a step

pub out-still : (core : Core) (step : Step) (a : Acts core step) (i : ℕ) → Holds step.view (stripe_of core.config i) Write → HasBody (scene_of core) i (λ r. r.phase ≡ Out)
    → word_of core (LocA i) ≡ known_word step.view (LocA i)
out-still core step a i holds out =
    let s = sound core step a in
    let known = step.view.known in
    let t =
    out-since core.config step.view i Write holds known s.known.0 (quiet-since core step a) (sound-since core step a)
    (IsConsistent-scene_after core.config.layers core.config.bodies (history known) (lawful-known core step a)) (lawful-since core step a)
    (subst (λ (l : List Item). HasBody (scene_at core.config l) i (λ r. r.phase ≡ Out)) s.known.1 out)
    in
    ap (λ (l : List Item). word core.config l (LocA i)) s.known.1 ∙ (t.1 ∙ ap (λ (c : Config). word c known (LocA i)) (sym s.config))
