-- What is shown follows the scene: each step of the one is a step of the other.
use Rattle.std.proofs.Common.{◌≡◌, ℕ, ◌+◌, ◌%◌, List, [], ◌∷◌, map, set, refl, sym, ◌∙◌, ap, fold, Option, Some, None, option_map, arith}
use Rattle.std.proofs.lemmas.List.{map-set, map-append}
use Rattle.std.proofs.Math.ListN.{get_or-map}
use Rattle.fixed_box.specs.declared.fix_box.FixBox.{FixBox}
use Rattle.scene_model.specs.declared.body_view.Phase.{Phase}
use Rattle.scene_model.specs.declared.entry.Entry.{Entry}
use Rattle.scene_model.specs.declared.entry.Entry.TheVariants.{Create, Destroy, Mark, Unmark, Join, Remove, Move, SetUser}
use Rattle.scene_model.specs.Scene.{Scene, Place, Record, place_at, record_at, unused}
use Rattle.scene_model.specs.Step.{created_in, with_new_body, with_body, with_change, with_phase, after_entry}
use Rattle.scene_model.specs.Shown.{shown_record, shown_place, shown, after_shown}

pub place_at-shown : (scene : Scene) (index : ℕ) → place_at (shown scene) index ≡ shown_place (place_at scene index)
place_at-shown scene index = get_or-map shown_place scene.places index unused

-- a change that says nothing of the generation is seen as it is
shows-change : (f : Record → Record) → ((r : Record) → shown_record (f r) ≡ f (shown_record r)) → (o : Option Record)
    → option_map shown_record (option_map f o) ≡ option_map f (option_map shown_record o)
shows-change f same None = refl
shows-change f same (Some r) = ap Some (same r)

shown-with_body : (scene : Scene) (index : ℕ) (body : Option Record) → shown (with_body scene index body) ≡ with_body (shown scene) index (option_map shown_record body)
shown-with_body scene index body =
    ap (λ (ps : List Place). record scene { places = ps })
    (map-set shown_place scene.places index (record (place_at scene index) { body = body })
    ∙ ap (λ (p : Place). set (map shown_place scene.places) index (record p { body = option_map shown_record body })) (sym (place_at-shown scene index)))

shown-with_change : (f : Record → Record) → ((r : Record) → shown_record (f r) ≡ f (shown_record r)) → (scene : Scene) (index : ℕ)
    → shown (with_change f scene index) ≡ with_change f (shown scene) index
shown-with_change f same scene index =
    shown-with_body scene index (option_map f (record_at scene index))
    ∙ ap (with_body (shown scene) index)
    (shows-change f same (record_at scene index) ∙ ap (λ (p : Place). option_map f p.body) (sym (place_at-shown scene index)))

shown-join : (phase : Phase) (indexes : List ℕ) (scene : Scene) → shown (fold (with_phase phase) scene indexes) ≡ fold (with_phase phase) (shown scene) indexes
shown-join phase [] scene = refl
shown-join phase (index ∷ rest) scene =
    shown-join phase rest (with_phase phase scene index)
    ∙ ap (λ (s : Scene). fold (with_phase phase) s rest) (shown-with_change (λ r. record r { phase = phase }) (λ r. refl) scene index)

-- one creation more counts one more
created_in-shown : (place : Place) (layer : ℕ) (bounds : FixBox) (user : ℕ) → shown_place (created_in (shown_place place) layer bounds user) ≡ shown_place (created_in place layer bounds user)
created_in-shown place layer bounds user =
    let count : (place.creations % 256 + 1) % 256 ≡ (place.creations + 1) % 256 = omega arith in
    rw count

shown-with_new_body : (freed : List ℕ) (scene : Scene) (index : ℕ) (place : Place) → shown (with_new_body freed scene index place) ≡ with_new_body freed (shown scene) index (shown_place place)
shown-with_new_body [] scene index place = ap (λ (ps : List Place). record scene { places = ps }) (map-append shown_place scene.places (place ∷ []))
shown-with_new_body (i ∷ rest) scene index place =
    ap (λ (ps : List Place). record scene { places = ps; freed = rest }) (map-set shown_place scene.places index place)

pub shown-after_entry : (scene : Scene) (entry : Entry) → shown (after_entry scene entry) ≡ after_shown (shown scene) entry
shown-after_entry scene (Create index layer bounds user) =
    shown-with_new_body scene.freed scene index (created_in (place_at scene index) layer bounds user)
    ∙ ap (with_new_body scene.freed (shown scene) index)
    (sym (created_in-shown (place_at scene index) layer bounds user)
    ∙ ap (λ (p : Place). shown_place (created_in p layer bounds user)) (sym (place_at-shown scene index)))
shown-after_entry scene (Destroy index) = ap (λ (s : Scene). record s { freed = index ∷ scene.freed }) (shown-with_body scene index None)
shown-after_entry scene (Mark index) = shown-with_change _ (λ r. refl) scene index
shown-after_entry scene (Unmark index) = shown-with_change _ (λ r. refl) scene index
shown-after_entry scene (Join layer indexes) = shown-join _ indexes scene
shown-after_entry scene (Remove index) = shown-with_change _ (λ r. refl) scene index
shown-after_entry scene (Move index bounds) = shown-with_change _ (λ r. refl) scene index
shown-after_entry scene (SetUser index user) = shown-with_change _ (λ r. refl) scene index
