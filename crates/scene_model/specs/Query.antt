-- What is read of a scene: views, counts, and the bodies that a query finds.
use Rattle.std.specs.Prelude.{ℕ, ◌==◌, Bool, false, ◌&&◌, List, count_by, filter_map, length, Option, is_some, option_map, option_and_then}
use Rattle.std.specs.List.{range_with_len}
use Rattle.std.specs.Bool.{then_some}
use Rattle.std.specs.Option.{option_map_or}
use Rattle.std.specs.Int.{bit_at}
use Rattle.fixed_box.specs.declared.fix_box.FixBox.{FixBox}
use Rattle.body_ident.specs.Id.{Id, id_of}
use Rattle.scene_model.specs.declared.body_view.BodyView.{BodyView}
use Rattle.scene_model.specs.Phase.{is_in}
use Rattle.scene_model.specs.Scene.{Scene, Record, record_at}

-- a record as a reader sees it
abbrev pub view_of : ℕ → Record → BodyView
view_of index r = record { id = id_of index r.generation; layer = r.layer; bounds = r.bounds; user = r.user; phase = r.phase }

abbrev pub view_at : Scene → ℕ → Option BodyView
view_at scene index = option_map (view_of index) (record_at scene index)

-- how many bodies are live, and how many of them are in the broad phase
abbrev pub live_count : Scene → ℕ
live_count scene = count_by (λ p. is_some p.body) scene.places

abbrev pub in_count : Scene → ℕ
in_count scene = count_by (λ p. option_map_or (λ r. is_in r.phase) p.body false) scene.places

-- a body is in the broad phase, in a layer of the mask, and its bounds pass the test
abbrev pub is_hit : (FixBox → Bool) → ℕ → Record → Bool
is_hit test mask r = is_in r.phase && (bit_at mask r.layer == 1) && test r.bounds

-- the id of a body at an index, where it is hit
abbrev pub hit_id : (FixBox → Bool) → ℕ → ℕ → Record → Option Id
hit_id test mask index r = then_some (is_hit test mask r) (id_of index r.generation)

abbrev pub hit_at : (FixBox → Bool) → ℕ → Scene → ℕ → Option Id
hit_at test mask scene index = option_and_then (hit_id test mask index) (record_at scene index)

-- the ids of all bodies that are hit, ascending by index
abbrev pub hits : (FixBox → Bool) → ℕ → Scene → List Id
hits test mask scene = filter_map (hit_at test mask scene) (range_with_len 0 (length scene.places))
