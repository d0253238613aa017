-- What stands above a line.
use Rattle.std.specs.Prelude.{ℕ, Bool, true, false, if◌then◌else◌, List, [], ◌∷◌, nat_abs, bytes_eq, codes}
use Rattle.script_text.specs.Number.{number_of}
use Rattle.script_text.specs.Name.{add_name}

-- whether there is the world line, how many bodies and layers it states, and the names that were created
pub record Above : Type 0 where
  pub started : Bool
  pub bodies : ℕ
  pub layers : ℕ
  pub names : List (List ℕ)

-- nothing stands above the first line
abbrev pub opening : Above
opening = record { started = false; bodies = 0; layers = 0; names = [] }

-- `world BODIES STRIPES LAYERS SLOTS NODES`, below its first word
abbrev pub after_world : Above → List (List ℕ) → Above
after_world above (bodies ∷ stripes ∷ layers ∷ args) =
    record above { started = true; bodies = nat_abs (number_of bodies); layers = nat_abs (number_of layers) }
after_world above _ = above

-- `create NAME ..`, below its first word
abbrev pub after_create : Above → List (List ℕ) → Above
after_create above (name ∷ args) = record above { names = add_name above.names name }
after_create above [] = above

-- what stands above the line below a command
abbrev pub after_command : Above → List (List ℕ) → Above
after_command above [] = above
after_command above (word ∷ args) =
    if bytes_eq word (codes "world") then after_world above args
    else (if bytes_eq word (codes "create") then after_create above args else above)
