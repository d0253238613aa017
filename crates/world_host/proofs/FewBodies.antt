-- A world has no more live bodies than it has room for.
use Rattle.std.proofs.Common.{◌≡◌, ℕ, ◌≤◌, List, [], ◌∷◌, length, refl, ap, ◌∙◌, arith}
use Rattle.std.proofs.lemmas.List.Sums.{count_by-le-length}
use Rattle.std.specs.Prelude.{is_some, false}
use Rattle.std.specs.Option.{option_map_or}
use Rattle.scene_model.specs.Phase.{is_in}
use Rattle.scene_model.specs.declared.entry.Entry.{Entry}
use Rattle.scene_model.specs.declared.entry.Entry.TheVariants.{Create, Destroy, Mark, Unmark, Join, Remove, Move, SetUser}
use Rattle.scene_model.specs.declared.entry.Made.{Made}
use Rattle.scene_model.specs.Scene.{Scene, Place, empty_scene, place_at}
use Rattle.scene_model.specs.Step.{created_in, with_new_body, after_entry}
use Rattle.scene_model.specs.History.{scene_from}
use Rattle.scene_model.specs.Query.{live_count, in_count}
use Rattle.scene_model.proofs.Batches.{JoinsOnly-fold}
use Rattle.word_map.specs.declared.config.Config.{Config}
use Rattle.core_state.specs.Log.{history}
use Rattle.pass_table.specs.declared.pass.Pass.{Pass}
use Rattle.pass_table.specs.declared.world.World.{World}
use Rattle.pass_table.specs.Passes.{view_of, IsOf}
use Rattle.world_host.specs.Alone.{scene_of}
use Rattle.world_host.proofs.Soundness.{lone-consistent}

bodies-new : (freed : List ℕ) (scene : Scene) (index : ℕ) (place : Place) → (with_new_body freed scene index place).bodies ≡ scene.bodies
bodies-new [] scene index place = refl
bodies-new (first ∷ rest) scene index place = refl

-- no entry changes how many indexes there are
bodies-after : (scene : Scene) (entry : Entry) → (after_entry scene entry).bodies ≡ scene.bodies
bodies-after scene (Create index layer bounds user) = bodies-new scene.freed scene index (created_in (place_at scene index) layer bounds user)
bodies-after scene (Destroy index) = refl
bodies-after scene (Mark index) = refl
bodies-after scene (Unmark index) = refl
bodies-after scene (Join layer indexes) = (JoinsOnly-fold scene indexes).bodies
bodies-after scene (Remove index) = refl
bodies-after scene (Move index bounds) = refl
bodies-after scene (SetUser index user) = refl

bodies-from : (made : List Made) (scene : Scene) → (scene_from scene made).bodies ≡ scene.bodies
bodies-from [] scene = refl
bodies-from (m ∷ later) scene = bodies-from later (after_entry scene m.entry) ∙ bodies-after scene m.entry

places-few : (world : World) (pass : Pass) → IsOf world pass → length (scene_of (view_of pass)).places ≤ 65536
places-few world pass of =
    let room = (lone-consistent pass).room in
    let all = bodies-from (history (view_of pass).known) (empty_scene (view_of pass).config.bodies) in
    let same = ap (λ (c : Config). c.bodies) of.sizes in
    let most = world.in_limits.bodies.1 in
    omega (arith, room, all, same, most)

-- as many are live at most, and as many in the broad phase
pub live-few : (world : World) (pass : Pass) → IsOf world pass → live_count (scene_of (view_of pass)) ≤ 65536
live-few world pass of =
    let scene : Scene = scene_of (view_of pass) in
    let count : live_count scene ≤ length scene.places = count_by-le-length (λ (p : Place). is_some p.body) scene.places in
    omega (arith, count, places-few world pass of)

pub in-few : (world : World) (pass : Pass) → IsOf world pass → in_count (scene_of (view_of pass)) ≤ 65536
in-few world pass of =
    let scene : Scene = scene_of (view_of pass) in
    let count : in_count scene ≤ length scene.places = count_by-le-length (λ (p : Place). option_map_or (λ r. is_in r.phase) p.body false) scene.places in
    omega (arith, count, places-few world pass of)
