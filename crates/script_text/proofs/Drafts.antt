-- A draft with one line more.
use Rattle.std.proofs.Common.{◌≡◌, ℕ, true, List, [], ◌∷◌, ◌++◌, map, Option, Some, None, refl, ap, sym, ◌∙◌, inl, inr}
use Rattle.word_map.specs.declared.config.Config.{Config}
use Rattle.script_text.specs.declared.draft.Draft.{Draft}
use Rattle.std.proofs.lemmas.Bool.{cases_Bool}
use Rattle.script_text.specs.Fitting.{HasWords, numbers_fit, all_fit}
use Rattle.script_text.specs.Draft.{Adds, Keeps, above_next, above_of, names_with, words_of_lines}
use Rattle.std.proofs.lemmas.List.{map_push}
use Rattle.script_text.specs.declared.command.Command.{Command}
use Rattle.script_text.specs.declared.command.Command.TheVariants.{Create, Destroy, Add, Prepare, Finalize, Abort, Remove, Move, User, Read, Multi, QueryBox, QueryPoint, QueryRay}
use Rattle.script_text.specs.Command.{command_words, world_words}
use Rattle.script_text.specs.Name.{add_name}
use Rattle.script_text.specs.Above.{Above, after_command}

-- what stands above the next line, told by the command
abbrev pub above_after : Above → Command → Above
above_after above (Create name layer bounds user) = record above { names = add_name above.names name }
above_after above c = above

of_command : (above : Above) (c : Command) → after_command above (command_words c) ≡ above_after above c
of_command above (Create name layer bounds user) = refl
of_command above (Destroy name) = refl
of_command above (Add names) = refl
of_command above (Prepare batch layer names) = refl
of_command above (Finalize batch) = refl
of_command above (Abort batch) = refl
of_command above (Remove name) = refl
of_command above (Move name bounds) = refl
of_command above (User name user) = refl
of_command above (Read name) = refl
of_command above (Multi names) = refl
of_command above (QueryBox mask bounds) = refl
of_command above (QueryPoint mask at) = refl
of_command above (QueryRay mask segment) = refl

pub after_words : (above : Above) (c : Command) (words : List (List ℕ)) → command_words c ≡ words → after_command above words ≡ above_after above c
after_words above c words e = ap (after_command above) (sym e) ∙ of_command above c

pub one_more : (first : List (List ℕ)) (lines : List Command) (c : Command) (words : List (List ℕ)) → command_words c ≡ words
    → first ∷ map command_words (lines ++ c ∷ []) ≡ (first ∷ map command_words lines) ++ words ∷ []
one_more first lines c words e = rw (map_push command_words lines c, e) refl

-- one command more whose numbers fit
pub fit_more : (commands : List Command) (c : Command) → all_fit commands ≡ true → numbers_fit c ≡ true → all_fit (commands ++ c ∷ []) ≡ true
fit_more [] c h fits = rw fits refl
fit_more (d ∷ commands) c h fits =
    elim (cases_Bool (numbers_fit d)) [
      | inl good ↦ rw good (fit_more commands c (rw good at h) fits)
      | inr bad ↦ absurd (let e = rw bad at h in cc)
    ]

above_with : (world : Option Config) (names : List (List ℕ)) (c : Command) (config : Config) → world ≡ Some config → above_of world (names_with names c) ≡ above_after (above_of world names) c
above_with None names c config begun = absurd cc
above_with (Some world) names (Create name layer bounds user) config begun = refl
above_with (Some world) names (Destroy name) config begun = refl
above_with (Some world) names (Add names-2) config begun = refl
above_with (Some world) names (Prepare batch layer bodies) config begun = refl
above_with (Some world) names (Finalize batch) config begun = refl
above_with (Some world) names (Abort batch) config begun = refl
above_with (Some world) names (Remove name) config begun = refl
above_with (Some world) names (Move name bounds) config begun = refl
above_with (Some world) names (User name user) config begun = refl
above_with (Some world) names (Read name) config begun = refl
above_with (Some world) names (Multi bodies) config begun = refl
above_with (Some world) names (QueryBox mask bounds) config begun = refl
above_with (Some world) names (QueryPoint mask at) config begun = refl
above_with (Some world) names (QueryRay mask segment) config begun = refl

text_with : (world : Option Config) (lines : List Command) (c : Command) (words : List (List ℕ)) (config : Config) → world ≡ Some config → command_words c ≡ words
    → words_of_lines world (lines ++ c ∷ []) ≡ words_of_lines world lines ++ words ∷ []
text_with None lines c words config begun e = absurd cc
text_with (Some world) lines c words config begun e = one_more (world_words world) lines c words e

-- a draft that keeps a command adds its words
pub adds_kept : (old new : Draft) (c : Command) (word : List ℕ) (args : List (List ℕ)) (config : Config) → old.world ≡ Some config → HasWords (word ∷ args) c → Keeps c old new → Adds (word ∷ args) old new
adds_kept old new c word args config begun has kept =
    record {
      text =
          ap (λ (w : Option Config). words_of_lines w new.lines.items) kept.world
          ∙ (ap (words_of_lines old.world) kept.lines ∙ text_with old.world old.lines.items c (word ∷ args) config begun has.words_are);
      above =
          ap (λ (w : Option Config). above_of w new.names) kept.world
          ∙ (ap (above_of old.world) kept.names
          ∙ (above_with old.world old.names c config begun ∙ sym (after_words (above_next old) c (word ∷ args) has.words_are)));
      fit = λ fits. ap all_fit kept.lines ∙ fit_more old.lines.items c fits has.fits;
    }
