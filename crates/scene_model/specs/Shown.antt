-- What a plain scene shows of a scene: everything, but each count of creations only modulo 256.
use Rattle.std.specs.Prelude.{◌%◌, map, option_map}
use Rattle.scene_model.specs.declared.entry.Entry.{Entry}
use Rattle.scene_model.specs.declared.entry.Entry.TheVariants.{Create}
use Rattle.scene_model.specs.Scene.{Scene, Place, Record, place_at}
use Rattle.scene_model.specs.Step.{created_in, with_new_body, after_entry}

abbrev pub shown_record : Record → Record
shown_record r = record r { generation = r.generation % 256 }

abbrev pub shown_place : Place → Place
shown_place place = record { creations = place.creations % 256; body = option_map shown_record place.body }

abbrev pub shown : Scene → Scene
shown scene = record scene { places = map shown_place scene.places }

-- the step of what is shown: only a creation counts
abbrev pub after_shown : Scene → Entry → Scene
after_shown scene (Create index layer bounds user) =
    with_new_body scene.freed scene index (shown_place (created_in (place_at scene index) layer bounds user))
after_shown scene entry = after_entry scene entry
