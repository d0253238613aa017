-- The first words of commands: those of the commands that are built, and those of the others.
use Rattle.std.specs.Prelude.{ℕ, Bool, if◌then◌else◌, List, Option, codes, find, bytes_eq}
use Rattle.std.specs.List.{list_any}
use Rattle.script_text.specs.declared.code.Code.{Code}
use Rattle.script_text.specs.declared.code.Code.TheVariants as code
use Rattle.script_text.specs.declared.keyword.Keyword.{Keyword}
use Rattle.script_text.specs.declared.keyword.Keyword.TheVariants.{World, Create, Destroy, Add, Prepare, Finalize, Abort, Remove, Move, User, Read, Multi, QueryBox, QueryPoint, QueryRay}
use Rattle.script_text.specs.declared.keyword.Unbuilt.{Unbuilt}
use Rattle.script_text.specs.declared.keyword.Unbuilt.TheVariants as unbuilt
use Rattle.script_text.specs.declared.keyword.TheConstants.{BUILT, UNBUILT}

abbrev pub keyword_text : Keyword → List ℕ
keyword_text World = codes "world"
keyword_text Create = codes "create"
keyword_text Destroy = codes "destroy"
keyword_text Add = codes "add"
keyword_text Prepare = codes "prepare"
keyword_text Finalize = codes "finalize"
keyword_text Abort = codes "abort"
keyword_text Remove = codes "remove"
keyword_text Move = codes "move"
keyword_text User = codes "user"
keyword_text Read = codes "read"
keyword_text Multi = codes "multi"
keyword_text QueryBox = codes "box"
keyword_text QueryPoint = codes "point"
keyword_text QueryRay = codes "ray"

abbrev pub unbuilt_text : Unbuilt → List ℕ
unbuilt_text unbuilt.Update = codes "update"
unbuilt_text unbuilt.Retire = codes "retire"
unbuilt_text unbuilt.Velocity = codes "velocity"
unbuilt_text unbuilt.Step = codes "step"
unbuilt_text unbuilt.Actor = codes "actor"
unbuilt_text unbuilt.Go = codes "go"
unbuilt_text unbuilt.Par = codes "par"
unbuilt_text unbuilt.Worker = codes "worker"
unbuilt_text unbuilt.End = codes "end"

-- the command that a word names, of those that are built
unfoldable pub keyword_of : List ℕ → Option Keyword
keyword_of word = find (λ k. bytes_eq word (keyword_text k)) BUILT

-- a word that names a command of the others
abbrev pub is_unbuilt : List ℕ → Bool
is_unbuilt word = list_any (λ k. bytes_eq word (unbuilt_text k)) UNBUILT

-- what is wrong with a word that names no command which is built
abbrev pub unknown_word : List ℕ → Code
unknown_word word = if is_unbuilt word then code.Later else code.Word
