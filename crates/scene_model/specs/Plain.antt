-- How the fields of a plain scene are seen.
use Rattle.std.specs.Prelude.{option_map}
use Rattle.scene_model.specs.declared.plain_scene.Body.{Body}
use Rattle.scene_model.specs.declared.plain_scene.Slot.{Slot}
use Rattle.scene_model.specs.Scene.{Place, Record}

abbrev pub record_of : Body → Record
record_of b = record { generation = b.seq; layer = b.layer; bounds = b.bounds; user = b.user; phase = b.phase }

abbrev pub place_of : Slot → Place
place_of slot = record { creations = slot.creations; body = option_map record_of slot.body }
