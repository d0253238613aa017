-- What a pass makes that is alone in its world: its entries are all that comes to the scene.
use Rattle.std.proofs.Common.{◌≡◌, ℕ, List, [], ◌∷◌, ◌++◌, refl, ap, ◌∙◌, subst}
use Rattle.std.specs.Prelude.{fold}
use Rattle.scene_model.specs.declared.entry.Entry.{Entry}
use Rattle.scene_model.specs.Scene.{Scene, empty_scene}
use Rattle.scene_model.specs.Step.{after_entry}
use Rattle.scene_model.specs.History.{scene_from, scene_after, IsLawfulFrom, IsLawfulHistory}
use Rattle.scene_model.proofs.Histories.{scene_from-append, lawful_parts}
use Rattle.word_map.specs.declared.config.Config.{Config}
use Rattle.core_state.specs.declared.view.View.{View}
use Rattle.core_state.specs.Log.{history}
use Rattle.pass_table.specs.declared.pass.Pass.{Pass}
use Rattle.pass_table.specs.Passes.{view_of}
use Rattle.pass_table.specs.Knowing.{KnowsLawful}
use Rattle.pass_table.specs.Belongings.{Belongings, belongings_of}
use Rattle.pass_table.specs.Calls.{Adds}
use Rattle.pass_table.specs.Several.{made_by_pass, KnowsOwn}
use Rattle.pass_table.specs.Work.{Tells}
use Rattle.pass_table.proofs.Current.{knows-lawful}
use Rattle.pass_table.proofs.Several.{knows-own, sees-own}
use Rattle.world_host.specs.Alone.{scene_of, AreLawful, MakesEntries, Leaves}

-- the history goes on by these entries and no others
abbrev pub Sees : View → View → List Entry → Type 0
Sees start next entries = (number : ℕ) × (history next.known ≡ history start.known ++ made_by_pass number entries)

-- a scene goes on by entries, whoever made them
pub scene-made : (number : ℕ) (entries : List Entry) (scene : Scene) → scene_from scene (made_by_pass number entries) ≡ fold after_entry scene entries
scene-made number [] scene = refl
scene-made number (entry ∷ later) scene = scene-made number later (after_entry scene entry)

-- and so they are lawful one after another
lawful-made : (layers number : ℕ) (entries : List Entry) (scene : Scene) → IsLawfulFrom layers scene (made_by_pass number entries) → AreLawful layers scene entries
lawful-made layers number [] scene h = tt
lawful-made layers number (entry ∷ later) scene h = (h.0, lawful-made layers number later (after_entry scene entry) h.1)

pub seen-makes : (start next : View) (entries : List Entry) → next.config ≡ start.config → KnowsLawful next → Sees start next entries → MakesEntries start next entries
seen-makes start next entries sizes lawful sees =
    let c : Config = start.config in
    let whole = subst (IsLawfulHistory c.layers c.bodies) sees.1 (subst (λ (d : Config). IsLawfulHistory d.layers d.bodies (history next.known)) sizes lawful) in
    record {
      scene =
          ap (λ (d : Config). scene_after d.bodies (history next.known)) sizes
          ∙ (ap (scene_after c.bodies) sees.1
          ∙ (scene_from-append (empty_scene c.bodies) (history start.known) (made_by_pass sees.0 entries) ∙ scene-made sees.0 entries (scene_of start)));
      lawful = lawful-made c.layers sees.0 entries (scene_of start) (lawful_parts c.layers (empty_scene c.bodies) (history start.known) (made_by_pass sees.0 entries) whole).1;
      config = sizes;
    }

-- ---- of the one pass of a world

module _ (pass : Pass) (start : View) (one : start.config.passes ≡ 1) (sizes : (view_of pass).config ≡ start.config) (role : (view_of pass).role ≡ start.role) where
  pub pass-own : KnowsOwn (view_of pass)
  pass-own = knows-own (view_of pass) pass.number pass.numbered pass.current (ap (λ (c : Config). c.passes) sizes ∙ one)

  pub pass-sees : (entries : List Entry) → Adds start (view_of pass) entries → Sees start (view_of pass) entries
  pass-sees entries adds = (adds.number, sees-own start (view_of pass) entries adds.number adds.pass role adds pass-own)

  pub pass-makes : (entries : List Entry) → Adds start (view_of pass) entries → MakesEntries start (view_of pass) entries
  pass-makes entries adds = seen-makes start (view_of pass) entries sizes (knows-lawful (view_of pass) pass.current) (pass-sees entries adds)

-- ---- where it has afterwards what it had

module _ (pass : Pass) (start : View) (one : start.config.passes ≡ 1) (keeps : belongings_of (view_of pass) ≡ belongings_of start) where
  abbrev next : View
  next = view_of pass

  same-sizes : next.config ≡ start.config
  same-sizes = ap (λ (b : Belongings). b.config) keeps

  same-role : next.role ≡ start.role
  same-role = ap (λ (b : Belongings). b.role) keeps

  pub alone-own : KnowsOwn next
  alone-own = pass-own pass start one same-sizes same-role

  pub alone-sees : (entries : List Entry) → Adds start next entries → Sees start next entries
  alone-sees entries adds = pass-sees pass start one same-sizes same-role entries adds

  pub alone-makes : (entries : List Entry) → Adds start next entries → MakesEntries start next entries
  alone-makes entries adds = pass-makes pass start one same-sizes same-role entries adds

  pub alone-leaves : (entries : List Entry) → Adds start next entries → Tells start next [] → Leaves start next entries
  alone-leaves entries adds tells = record { made = alone-makes entries adds; tells = tells; keeps = keeps }
