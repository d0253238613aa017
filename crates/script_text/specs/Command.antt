-- The words of a script's lines, as they are printed.
use Rattle.std.specs.Prelude.{ℕ, List, [], ◌∷◌, ◌++◌, map, codes, decimal}
use Rattle.std.specs.Fmt.{signed_decimal}
use Rattle.fixed_box.specs.declared.coord.Coord.{Coord}
use Rattle.fixed_box.specs.declared.fix_box.FixBox.{FixBox}
use Rattle.fixed_box.specs.declared.segment.Segment.{Segment}
use Rattle.word_map.specs.declared.config.Config.{Config}
use Rattle.script_text.specs.declared.command.Command.{Command}
use Rattle.script_text.specs.declared.command.Command.TheVariants.{Create, Destroy, Add, Prepare, Finalize, Abort, Remove, Move, User, Read, Multi, QueryBox, QueryPoint, QueryRay}

-- the coordinates of a corner
abbrev pub corner_words : List Coord → List (List ℕ)
corner_words corner = map (λ c. signed_decimal c.value) corner

-- the low corner and the high one
abbrev pub box_words : FixBox → List (List ℕ)
box_words b = corner_words b.lo ++ corner_words b.hi

-- the beginning of a segment, and its steps
abbrev pub segment_words : Segment → List (List ℕ)
segment_words s = corner_words s.o ++ map signed_decimal s.d

abbrev pub world_words : Config → List (List ℕ)
world_words c =
    codes "world" ∷ decimal c.bodies ∷ decimal c.stripes ∷ decimal c.layers ∷ decimal c.slots ∷ decimal c.nodes ∷ []

abbrev pub command_words : Command → List (List ℕ)
command_words (Create name layer bounds user) =
    codes "create" ∷ name ∷ decimal layer ∷ (box_words bounds ++ decimal user ∷ [])
command_words (Destroy name) = codes "destroy" ∷ name ∷ []
command_words (Add names) = codes "add" ∷ names
command_words (Prepare batch layer names) = codes "prepare" ∷ batch ∷ decimal layer ∷ names
command_words (Finalize batch) = codes "finalize" ∷ batch ∷ []
command_words (Abort batch) = codes "abort" ∷ batch ∷ []
command_words (Remove name) = codes "remove" ∷ name ∷ []
command_words (Move name bounds) = codes "move" ∷ name ∷ box_words bounds
command_words (User name user) = codes "user" ∷ name ∷ decimal user ∷ []
command_words (Read name) = codes "read" ∷ name ∷ []
command_words (Multi names) = codes "multi" ∷ names
command_words (QueryBox mask bounds) = codes "box" ∷ decimal mask ∷ box_words bounds
command_words (QueryPoint mask at) = codes "point" ∷ decimal mask ∷ corner_words at
command_words (QueryRay mask segment) = codes "ray" ∷ decimal mask ∷ segment_words segment
