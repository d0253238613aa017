-- What the command of a line is, and what is wrong with words that are none.
use Rattle.std.specs.Prelude.{ℕ, if◌then◌else◌, List, [], ◌∷◌, Option, Some, None}
use Rattle.script_text.specs.declared.code.Code.{Code}
use Rattle.script_text.specs.declared.code.Code.TheVariants as code
use Rattle.script_text.specs.declared.limits.TheConstants.{MAX_MULTI}
use Rattle.script_text.specs.declared.keyword.Keyword.{Keyword}
use Rattle.script_text.specs.declared.keyword.Keyword.TheVariants.{World, Create, Destroy, Add, Prepare, Finalize, Abort, Remove, Move, User, Read, Multi, QueryBox, QueryPoint, QueryRay}
use Rattle.script_text.specs.Keyword.{keyword_of, unknown_word}
use Rattle.script_text.specs.Fault.{first_of}
use Rattle.script_text.specs.Name.{name_fault, new_name_fault, known_name_fault, known_names_fault}
use Rattle.script_text.specs.Fields.{count_fault, corner_fault, order_fault, bounds_fault, steps_fault, size_fault, layer_fault, user_fault, mask_fault}
use Rattle.script_text.specs.Above.{Above}
use Rattle.word_map.specs.declared.config.Field.TheVariants.{Bodies, Stripes, Layers, Slots, Nodes}

-- Each of these is told the words below the first word of a line.

-- `world BODIES STRIPES LAYERS SLOTS NODES`: each word is looked at whole before the next one
abbrev pub world_fault : List (List ℕ) → Option Code
world_fault (bodies ∷ stripes ∷ layers ∷ slots ∷ nodes ∷ []) =
    first_of (size_fault Bodies bodies ∷ size_fault Stripes stripes ∷ size_fault Layers layers ∷ size_fault Slots slots ∷ size_fault Nodes nodes ∷ [])
world_fault _ = Some code.Count

-- `create NAME LAYER BOX USER`
abbrev pub create_fault : List (List ℕ) → ℕ → List (List ℕ) → Option Code
create_fault names layers (name ∷ layer ∷ x0 ∷ y0 ∷ z0 ∷ x1 ∷ y1 ∷ z1 ∷ user ∷ []) =
    first_of (new_name_fault names name ∷ layer_fault layers layer ∷ corner_fault x0 y0 z0 ∷ corner_fault x1 y1 z1
    ∷ user_fault user ∷ order_fault (x0 ∷ y0 ∷ z0 ∷ []) (x1 ∷ y1 ∷ z1 ∷ []) ∷ [])
create_fault names layers _ = Some code.Count

-- the one name of a body: `destroy NAME`, `remove NAME`, `read NAME`
abbrev pub body_fault : List (List ℕ) → List (List ℕ) → Option Code
body_fault names (name ∷ []) = known_name_fault names name
body_fault names _ = Some code.Count

-- the one name of a batch: `finalize B`, `abort B`
abbrev pub batch_fault : List (List ℕ) → Option Code
batch_fault (batch ∷ []) = name_fault batch
batch_fault _ = Some code.Count

-- 1 to so many names of bodies: `add NAME..`, `multi NAME..`
abbrev pub bodies_fault : List (List ℕ) → ℕ → List (List ℕ) → Option Code
bodies_fault names most args = first_of (count_fault 1 most args ∷ known_names_fault names args ∷ [])

-- `prepare B LAYER NAME..`, with 0 to so many names
abbrev pub prepare_fault : List (List ℕ) → ℕ → ℕ → List (List ℕ) → Option Code
prepare_fault names most layers (batch ∷ layer ∷ args) =
    first_of (count_fault 0 most args ∷ name_fault batch ∷ layer_fault layers layer ∷ known_names_fault names args ∷ [])
prepare_fault names most layers _ = Some code.Count

-- `move NAME BOX`
abbrev pub move_fault : List (List ℕ) → List (List ℕ) → Option Code
move_fault names (name ∷ x0 ∷ y0 ∷ z0 ∷ x1 ∷ y1 ∷ z1 ∷ []) = first_of (known_name_fault names name ∷ bounds_fault x0 y0 z0 x1 y1 z1 ∷ [])
move_fault names _ = Some code.Count

-- `user NAME U`
abbrev pub set_user_fault : List (List ℕ) → List (List ℕ) → Option Code
set_user_fault names (name ∷ user ∷ []) = first_of (known_name_fault names name ∷ user_fault user ∷ [])
set_user_fault names _ = Some code.Count

-- `box MASK BOX`
abbrev pub box_fault : List (List ℕ) → Option Code
box_fault (mask ∷ x0 ∷ y0 ∷ z0 ∷ x1 ∷ y1 ∷ z1 ∷ []) = first_of (mask_fault mask ∷ bounds_fault x0 y0 z0 x1 y1 z1 ∷ [])
box_fault _ = Some code.Count

-- `point MASK x y z`
abbrev pub point_fault : List (List ℕ) → Option Code
point_fault (mask ∷ x ∷ y ∷ z ∷ []) = first_of (mask_fault mask ∷ corner_fault x y z ∷ [])
point_fault _ = Some code.Count

-- `ray MASK ox oy oz dx dy dz`
abbrev pub ray_fault : List (List ℕ) → Option Code
ray_fault (mask ∷ ox ∷ oy ∷ oz ∷ dx ∷ dy ∷ dz ∷ []) = first_of (mask_fault mask ∷ corner_fault ox oy oz ∷ steps_fault dx dy dz ∷ [])
ray_fault _ = Some code.Count

-- a command below the world line
abbrev pub fields_fault : Above → Keyword → List (List ℕ) → Option Code
fields_fault above World args = Some code.World
fields_fault above Create args = create_fault above.names above.layers args
fields_fault above Destroy args = body_fault above.names args
fields_fault above Add args = bodies_fault above.names above.bodies args
fields_fault above Prepare args = prepare_fault above.names above.bodies above.layers args
fields_fault above Finalize args = batch_fault args
fields_fault above Abort args = batch_fault args
fields_fault above Remove args = body_fault above.names args
fields_fault above Move args = move_fault above.names args
fields_fault above User args = set_user_fault above.names args
fields_fault above Read args = body_fault above.names args
fields_fault above Multi args = bodies_fault above.names MAX_MULTI args
fields_fault above QueryBox args = box_fault args
fields_fault above QueryPoint args = point_fault args
fields_fault above QueryRay args = ray_fault args

-- the first command is `world`
abbrev pub first_fault : Keyword → List (List ℕ) → Option Code
first_fault World args = world_fault args
first_fault _ args = Some code.World

abbrev pub named_fault : Above → List ℕ → Option Keyword → List (List ℕ) → Option Code
named_fault above word None args = Some (unknown_word word)
named_fault above word (Some keyword) args = if above.started then fields_fault above keyword args else first_fault keyword args

-- what is wrong with the words of a line's command; where there are none, nothing is
abbrev pub command_fault : Above → List (List ℕ) → Option Code
command_fault above [] = None
command_fault above (word ∷ args) = named_fault above word (keyword_of word) args
