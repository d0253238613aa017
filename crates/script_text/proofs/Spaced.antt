-- Words as they stand in printed lines.
use Rattle.std.proofs.Common.{◌≡◌, ℕ, List, [], ◌∷◌, ◌++◌, length, map, ℤ, codes, take, drop, Result, Ok, Err, OnErr, refl, ap, sym, ◌∙◌, append_assoc}
use Rattle.std.proofs.lemmas.List.{take-append-drop}
use Rattle.std.proofs.Math.Seq.{take-append_seam}
use Rattle.std.specs.List.{flat_map}
use Rattle.std.specs.Fmt.{signed_decimal}
use Rattle.std.proofs.lemmas.List.Concat.{flat_map-append}
use Rattle.fixed_box.specs.declared.coord.Coord.{Coord}
use Rattle.word_map.specs.declared.config.Config.{Config}
use Rattle.script_text.specs.declared.command.Command.{Command}
use Rattle.script_text.specs.Command.{corner_words, world_words, command_words}
use Rattle.script_text.specs.Printed.{spaced, line_text, lines_text, text_of}

-- the words of several things
pub spaced_each : {X : Type 0} (text : X → List ℕ) (xs : List X) → spaced (map text xs) ≡ flat_map (λ x. 32 ∷ text x) xs
spaced_each text [] = refl
spaced_each text (x ∷ xs) = ap (λ (bytes : List ℕ). 32 ∷ (text x ++ bytes)) (spaced_each text xs)

pub spaced_corner : (corner : List Coord) → spaced (corner_words corner) ≡ flat_map (λ c. 32 ∷ signed_decimal c.value) corner
spaced_corner corner = spaced_each (λ (c : Coord). signed_decimal c.value) corner

pub spaced_steps : (steps : List ℤ) → spaced (map signed_decimal steps) ≡ flat_map (λ n. 32 ∷ signed_decimal n) steps
spaced_steps steps = spaced_each signed_decimal steps

pub spaced_append : (words more : List (List ℕ)) → spaced (words ++ more) ≡ spaced words ++ spaced more
spaced_append words more = flat_map-append (λ (word : List ℕ). 32 ∷ word) words more

by_command : (commands : List Command) → flat_map (λ c. line_text (command_words c) ++ codes "\n") commands ≡ lines_text (map command_words commands)
by_command [] = refl
by_command (c ∷ commands) = ap (λ (bytes : List ℕ). (line_text (command_words c) ++ codes "\n") ++ bytes) (by_command commands)

-- what stood in front of a text stands there still, after more was written behind it
pub front_kept : (old mid new more : List ℕ) → mid ≡ old ++ more → take (length mid) new ≡ mid → take (length old) new ≡ old
front_kept old mid new more m h =
    let rest : List ℕ = drop (length mid) new in
    let e : new ≡ old ++ (more ++ rest) = sym (take-append-drop (length mid) new) ∙ (ap (λ (l : List ℕ). l ++ rest) (h ∙ m) ∙ append_assoc old more rest) in
    ap (take (length old)) e ∙ take-append_seam old (more ++ rest)

-- the same after an error
pub front_kept_after : {T E : Type 0} (r : Result T E) (old mid new more : List ℕ) → mid ≡ old ++ more → take (length mid) new ≡ mid → OnErr r (take (length old) new ≡ old)
front_kept_after (Ok x) old mid new more m h = tt
front_kept_after (Err e) old mid new more m h = front_kept old mid new more m h

-- the text of a script, command by command
pub text_by_command : (world : Config) (commands : List Command)
    → (line_text (world_words world) ++ codes "\n") ++ flat_map (λ c. line_text (command_words c) ++ codes "\n") commands ≡ text_of world commands
text_by_command world commands = ap (λ (bytes : List ℕ). (line_text (world_words world) ++ codes "\n") ++ bytes) (by_command commands)
