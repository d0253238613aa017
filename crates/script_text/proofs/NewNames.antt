-- The name of a creation is new.
use Rattle.std.proofs.Common.{◌≡◌, ℕ, Bool, true, false, ◌&&◌, not, cond, List, [], ◌∷◌, ◌++◌, Option, Some, None, refl, sym, ap, subst, ◌∙◌}
use Rattle.std.specs.Fmt.{decimal}
use Rattle.fixed_box.specs.declared.fix_box.FixBox.{FixBox}
use Rattle.script_text.specs.declared.code.Code.{Code}
use Rattle.script_text.specs.declared.code.Code.TheVariants.{Name}
use Rattle.script_text.specs.declared.command.Command.{Command}
use Rattle.script_text.specs.declared.command.Command.TheVariants as commands
use Rattle.script_text.specs.declared.keyword.Keyword.{Keyword}
use Rattle.script_text.specs.declared.keyword.Keyword.TheVariants.{World, Create, Destroy, Add, Prepare, Finalize, Abort, Remove, Move, User, Read, Multi, QueryBox, QueryPoint, QueryRay}
use Rattle.script_text.specs.Above.{Above}
use Rattle.script_text.specs.Command.{box_words}
use Rattle.script_text.specs.Draft.{IsNewIn}
use Rattle.script_text.specs.Fault.{first_of}
use Rattle.script_text.specs.Fitting.{HasWords}
use Rattle.script_text.specs.Grammar.{create_fault, fields_fault}
use Rattle.script_text.specs.Keyword.{keyword_text, keyword_of}
use Rattle.script_text.specs.Name.{is_name, is_among, new_name_fault}

first_none : (a : Option Code) (later : List (Option Code)) → first_of (a ∷ later) ≡ None → a ≡ None
first_none (Some c) later h = absurd cc
first_none None later h = refl

not_among : (name among : Bool) → cond (name && not among) None (Some Name) ≡ None → among ≡ false
not_among true true h = absurd cc
not_among true false h = refl
not_among false among h = absurd cc

new_name : (names : List (List ℕ)) (layers : ℕ) (name word : List ℕ) (rest : List (List ℕ)) → create_fault names layers (name ∷ word ∷ rest) ≡ None → is_among names name ≡ false
new_name names layers name word (x0 ∷ y0 ∷ z0 ∷ x1 ∷ y1 ∷ z1 ∷ user ∷ []) h = not_among (is_name name) (is_among names name) (first_none (new_name_fault names name) _ h)
new_name names layers name word _ h = absurd cc

abbrev first_word : (words : List (List ℕ)) → List ℕ
first_word [] = []
first_word (word ∷ words) = word

abbrev rest_of : List (List ℕ) → List (List ℕ)
rest_of [] = []
rest_of (word ∷ words) = words

of_keyword : (above : Above) (keyword : Keyword) (args : List (List ℕ)) (name : List ℕ) (layer user : ℕ) (bounds : FixBox) → fields_fault above keyword args ≡ None
    → Some Create ≡ Some keyword → name ∷ decimal layer ∷ (box_words bounds ++ decimal user ∷ []) ≡ args → is_among above.names name ≡ false
of_keyword above Create args name layer user bounds good same words =
    new_name above.names above.layers name (decimal layer) (box_words bounds ++ decimal user ∷ []) (subst (λ a. create_fault above.names above.layers a ≡ None) (sym words) good)
of_keyword above other args name layer user bounds good same words = absurd cc

named : (keyword : Keyword) → keyword_of (keyword_text keyword) ≡ Some keyword
unfolding keyword_of
named World = refl
named Create = refl
named Destroy = refl
named Add = refl
named Prepare = refl
named Finalize = refl
named Abort = refl
named Remove = refl
named Move = refl
named User = refl
named Read = refl
named Multi = refl
named QueryBox = refl
named QueryPoint = refl
named QueryRay = refl

pub created_is_new : (above : Above) (keyword : Keyword) (args : List (List ℕ)) (name : List ℕ) (layer user : ℕ) (bounds : FixBox) → fields_fault above keyword args ≡ None
    → HasWords (keyword_text keyword ∷ args) (commands.Create name layer bounds user) → is_among above.names name ≡ false
created_is_new above keyword args name layer user bounds good has =
    let same = sym (named Create) ∙ (ap (λ (words : List (List ℕ)). keyword_of (first_word words)) has.words_are ∙ named keyword) in
    of_keyword above keyword args name layer user bounds good same (ap rest_of has.words_are)

-- the command of a line without a fault gives a new name, if it gives one
pub gives_new_name : (above : Above) (keyword : Keyword) (args : List (List ℕ)) (c : Command) → fields_fault above keyword args ≡ None
    → HasWords (keyword_text keyword ∷ args) c → IsNewIn above.names c
gives_new_name above keyword args (commands.Create name layer bounds user) good has = created_is_new above keyword args name layer user bounds good has
gives_new_name above keyword args _ good has = tt
