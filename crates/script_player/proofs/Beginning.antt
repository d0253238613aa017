-- A player of a script of which nothing was played yet.
use Rattle.std.proofs.Common.{◌≡◌, refl, ◌∙◌, Result, Ok, Err, ap, arith}
use Rattle.word_map.specs.declared.config.Config.{Config}
use Rattle.word_map.specs.Limits.{IsConfig}
use Rattle.scene_model.proofs.Histories.{IsConsistent-empty}
use Rattle.scene_model.specs.Scene.{Scene, empty_scene}
use Rattle.script_player.specs.Books.{Books, no_books}
use Rattle.script_player.specs.Table.{Table, empty_table}
use Rattle.script_player.specs.UnderWay.{IsUnderWay}
use Rattle.script_player.specs.Shown.{IsShownBy}

-- the table of a script of which nothing was played
pub under_way_first : (world : Config) → IsConfig world → IsUnderWay (empty_table world)
under_way_first world c = record {
  config = c;
  bodies = omega (arith, c.bodies.1);
  sound = (0, IsConsistent-empty 0 world.bodies);
  nodes = omega arith;
  held = record { can_join = λ k d below. absurd (omega arith); apart = λ i j d before below. absurd (omega arith) };
}

pub shown_first : (world : Config) (player : Table) → IsConfig world → player ≡ empty_table world → IsShownBy player (empty_table world)
shown_first world player c new = rw new (record { shown = refl; under_way = under_way_first world c })

abbrev ok_of : {E : Type 0} → Scene → Result Scene E → Scene
ok_of past (Ok scene) = scene
ok_of past (Err e) = past

pub shown_new : {E : Type 0} (world : Config) (scene : Scene) (books : Books) → IsConfig world → ◌≡◌ {A = Result Scene E} (Ok scene) (Ok (empty_scene world.bodies)) → books ≡ no_books
    → IsShownBy (record { world = world; scene = scene; books = books }) (empty_table world)
shown_new {E = E} world scene books c s b =
    let same : scene ≡ empty_scene world.bodies = ap (λ (r : Result Scene E). ok_of scene r) s in
    let table : record { world = world; scene = scene; books = books } ≡ empty_table world = ap (λ (sc : Scene). record { world = world; scene = sc; books = books }) same ∙ ap (λ (bk : Books). record (empty_table world) { books = bk }) b in
    shown_first world (record { world = world; scene = scene; books = books }) c table
