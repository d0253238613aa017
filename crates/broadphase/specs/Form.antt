-- What the words of a command line ask for.
use Rattle.std.specs.Prelude.{◌≡◌, ℕ, if◌then◌else◌, List, [], ◌∷◌, map, Option, Some, None, String, string_bytes, codes, bytes_eq}
use Rattle.std.specs.Global.{Global}
use Rattle.broadphase.specs.declared.form.Form.{Form}
use Rattle.broadphase.specs.declared.form.Form.TheVariants.{Play, Check}

-- the command that one word names
abbrev pub form_named : List ℕ → Option Form
form_named word =
    if bytes_eq word (codes "play") then Some Play
    else (if bytes_eq word (codes "check") then Some Check else None)

-- a command has no further words
abbrev pub form_of : List (List ℕ) → Option Form
form_of (word ∷ []) = form_named word
form_of _ = None

-- these words ask for this command, or for none
abbrev pub Asks : List (String Global) → Form → Type 0
Asks words form = form_of (map string_bytes words) ≡ Some form

abbrev pub AskNothing : List (String Global) → Type 0
AskNothing words = form_of (map string_bytes words) ≡ None
