-- The scene after an entry that changes the record of one body: all other places stay, and so does what is said of who is
-- live.
use Rattle.std.proofs.Common.{◌≡◌, ◌≢◌, ℕ, List, [], ◌∷◌, ◌++◌, Option, Some, None, option_map, refl, ap, ◌∙◌}
use Rattle.scene_model.specs.declared.entry.Entry.{Entry}
use Rattle.scene_model.specs.declared.entry.Made.{Made}
use Rattle.scene_model.specs.Scene.{Record, Scene, Place, place_at, record_at}
use Rattle.scene_model.specs.Step.{after_entry, with_change, IsLawful}
use Rattle.scene_model.specs.History.{scene_after, IsLawfulHistory}
use Rattle.scene_model.proofs.Places.{place_at-with_change_same, place_at-with_body_other}
use Rattle.core_state.specs.Bodies.{state_word, free_indexes}
use Rattle.core_guard.proofs.FreeIndexes.{free-change}
use Rattle.core_guard.proofs.OneBody.{scene-made, lawful-made}
use Rattle.core_state.specs.Log.{history}
use Rattle.core_state.specs.Core.{Core, scene_of}
use Rattle.core_state.specs.BodiesAgree.{BodiesAgree}
use Rattle.core_state.specs.Kind.{Kind, Step, log_after, after_step}

state-changed : (change : Record → Record) (p : Place) → state_word (record p { body = option_map change p.body }) ≡ state_word p
state-changed change p = go p.body refl
  where
    go : (o : Option Record) → p.body ≡ o → state_word (record p { body = option_map change p.body }) ≡ state_word p
    go None e = rw e refl
    go (Some r) e = rw e refl

module _ (bodies number : ℕ) (before : List Made) (entry : Entry) (change : Record → Record) (index : ℕ) (alters : (scene : Scene) → after_entry scene entry ≡ with_change change scene index) where
  abbrev pub Before : Scene
  Before = scene_after bodies before

  abbrev pub Changed : Scene
  Changed = scene_after bodies (before ++ record { pass = number; entry = entry } ∷ [])

  scene : Changed ≡ with_change change Before index
  scene = scene-made bodies number before entry ∙ alters Before

  pub changed-other : (i : ℕ) → i ≢ index → place_at Changed i ≡ place_at Before i
  changed-other i apart = ap (λ (s : Scene). place_at s i) scene ∙ place_at-with_body_other Before index i _ apart

  here : place_at Changed index ≡ record (place_at Before index) { body = option_map change (record_at Before index) }
  here = ap (λ (s : Scene). place_at s index) scene ∙ place_at-with_change_same change Before index

  pub changed-here : (r : Record) → record_at Before index ≡ Some r → record_at Changed index ≡ Some (change r)
  changed-here r live = ap (λ (p : Place). p.body) here ∙ ap (option_map change) live

  pub changed-state : state_word (place_at Changed index) ≡ state_word (place_at Before index)
  changed-state = ap state_word here ∙ state-changed change (place_at Before index)

  pub changed-free : free_indexes Changed ≡ free_indexes Before
  changed-free = ap free_indexes scene ∙ free-change change Before index

-- ---- what a history says then

-- of all bodies but this one what it said, and of this one that it is this record
pub record Changes (core : Core) (index : ℕ) (past : List Made) (q : Record) : Type 0 where
  pub lawful : IsLawfulHistory core.config.layers core.config.bodies past
  pub others : (i : ℕ) → i ≢ index → place_at (scene_after core.config.bodies past) i ≡ place_at (scene_of core) i
  pub state : state_word (place_at (scene_after core.config.bodies past) index) ≡ state_word (place_at (scene_of core) index)
  pub free : free_indexes (scene_after core.config.bodies past) ≡ free_indexes (scene_of core)
  pub now : record_at (scene_after core.config.bodies past) index ≡ Some q

module _ (core : Core) (index : ℕ) (h : BodiesAgree core) (r : Record) (live : record_at (scene_of core) index ≡ Some r) where
  -- so it is where no entry is made
  pub changes-none : Changes core index (history core.log) r
  changes-none = record { lawful = h.lawful; others = λ i apart. refl; state = refl; free = refl; now = live }

  pub changes-made : (number : ℕ) (entry : Entry) (change : Record → Record) → ((scene : Scene) → after_entry scene entry ≡ with_change change scene index) → IsLawful core.config.layers (scene_of core) entry
      → Changes core index (history core.log ++ record { pass = number; entry = entry } ∷ []) (change r)
  changes-made number entry change alters lawful =
      let bodies = core.config.bodies in
      let before = history core.log in
      record {
        lawful = lawful-made core.config.layers bodies number before entry h.lawful lawful;
        others = changed-other bodies number before entry change index alters;
        state = changed-state bodies number before entry change index alters;
        free = changed-free bodies number before entry change index alters;
        now = changed-here bodies number before entry change index alters r live;
      }

-- and so of the records after a step that leaves this history
module _ (kind : Kind) (core : Core) (step : Step) (index : ℕ) (past : List Made) (q : Record) (c : Changes core index past q) (made : history (log_after kind core step) ≡ past) where
  pub record-after : record_at (scene_of (after_step kind core step)) index ≡ Some q
  record-after = ap (λ (l : List Made). record_at (scene_after core.config.bodies l) index) made ∙ c.now

  pub others-after : (i : ℕ) → i ≢ index → record_at (scene_of (after_step kind core step)) i ≡ record_at (scene_of core) i
  others-after i apart = ap (λ (l : List Made). record_at (scene_after core.config.bodies l) i) made ∙ ap (λ (p : Place). p.body) (c.others i apart)
