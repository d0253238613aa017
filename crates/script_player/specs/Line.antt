-- A script as data: what each of its lines gives to whom.
--
-- A caller is a number, that of its own pass: main is 0, an actor has 1 and so on in the order in which the script names
-- actors first, and the workers of blocks and steps come behind the actors.
use Rattle.std.specs.Prelude.{ℕ, ◌+◌, ◌==◌, Bool, ℤ, List, [], ◌∷◌, length, map, Option}
use Rattle.std.specs.List.{list_any}
use Rattle.word_map.specs.declared.config.Config.{Config}
use Rattle.script_text.specs.declared.command.Command.{Command}
use Rattle.script_text.specs.declared.command.Command.TheVariants as commands
use Rattle.script_text.specs.declared.script.Script.{Script}

-- a place of a command, up to which a `go` goes on with it
pub data Label : Type 0 where
  Slots : Label
  Root : Label
  Walked : Label
  Marked : Label
  Leaf : Label
  Widened : Label
  Out : Label
  Planned : Label
  Built : Label
  Swapped : Label
  Cleared : Label
  Promoted : Label

-- what a caller is to do
pub data Order : Type 0 where
  -- a command on bodies and batches, or a query
  Plain : Command → Order
  -- merge all trees of each layer into one
  Update : Order
  -- retire the token that an update left
  Retire : Order
  -- from now on a name is moved by this in each step
  Velocity : List ℕ → List ℤ → Order
  -- move the bodies of all names that have a velocity, by so many workers
  Step : ℕ → Order

-- what a line asks for
pub data Line : Type 0 where
  -- main's own order
  Own : Order → Line
  -- an order for an actor
  Start : ℕ → Order → Line
  -- go on with the unfinished command of a caller, up to a label where one is named
  Go : ℕ → Option Label → Line
  -- sections that are carried out beside one another, each by a worker
  Block : List (List Order) → Line

-- a script as lines: the sizes of its world, the names of its actors, and the lines below the first
pub record Plan : Type 0 where
  pub world : Config
  pub actors : List (List ℕ)
  pub lines : List Line

-- all lines of today's scripts are main's own commands
abbrev pub lines_of_script : Script → List Line
lines_of_script script = map (λ command. Own (Plain command)) script.lines

abbrev pub plan_of : Script → Plan
plan_of script = record { world = script.world; actors = []; lines = lines_of_script script }

-- the worker with this number, from 0 on
abbrev pub worker_of : Plan → ℕ → ℕ
worker_of plan k = 1 + length plan.actors + k

-- ---- tables of labels

-- the place of a label in the table; of one command a later label has a greater number
abbrev pub label_number : Label → ℕ
label_number Slots = 0
label_number Root = 1
label_number Walked = 2
label_number Marked = 3
label_number Leaf = 4
label_number Widened = 5
label_number Out = 6
label_number Planned = 7
label_number Built = 8
label_number Swapped = 9
label_number Cleared = 10
label_number Promoted = 11

abbrev pub is_same_label : Label → Label → Bool
is_same_label a b = label_number a == label_number b

-- which commands have which labels
abbrev pub labels_of_command : Command → List Label
labels_of_command (commands.QueryBox mask bounds) = Slots ∷ Root ∷ Walked ∷ []
labels_of_command (commands.QueryPoint mask at) = Slots ∷ Root ∷ Walked ∷ []
labels_of_command (commands.QueryRay mask segment) = Slots ∷ Root ∷ Walked ∷ []
labels_of_command (commands.Prepare batch layer names) = Marked ∷ []
labels_of_command (commands.Move name bounds) = Leaf ∷ Widened ∷ []
labels_of_command (commands.Remove name) = Out ∷ []
labels_of_command command = []

abbrev pub labels_of : Order → List Label
labels_of (Plain command) = labels_of_command command
labels_of Update = Planned ∷ Built ∷ Swapped ∷ Cleared ∷ Promoted ∷ []
labels_of order = []

abbrev pub has_label : Order → Label → Bool
has_label order label = list_any (is_same_label label) (labels_of order)
