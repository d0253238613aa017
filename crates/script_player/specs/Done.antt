-- What a command that is carried out makes.
use Rattle.std.specs.Prelude.{◌≡◌, ℕ, ◌==◌, List, [], ◌∷◌, ◌++◌, map, filter, Option, Some, None, find, bytes_eq}
use Rattle.std.specs.List.{range_with_len}
use Rattle.body_ident.specs.Id.{Id}
use Rattle.scene_model.specs.declared.entry.Entry.{Entry}
use Rattle.scene_model.specs.declared.entry.Entry.TheVariants as entries
use Rattle.script_text.specs.declared.command.Command.{Command}
use Rattle.script_text.specs.declared.command.Command.TheVariants as commands
use Rattle.script_player.specs.declared.books.Known.{Known}
use Rattle.script_player.specs.Taking.{marks, unmarks}
use Rattle.script_player.specs.Exchange.{Exchange, all_known_by, id_of_name}
use Rattle.script_player.specs.Prepared.{Prepared, prepared_from}
use Rattle.script_player.specs.Refused.{joined}

-- one entry, on the body of an id
abbrev pub MakesOne : Option Id → (ℕ → Entry) → List Entry → Type 0
MakesOne None entry made = ⊥
MakesOne (Some i) entry made = made ≡ entry i.index ∷ []

-- these entries, on bodies that names stand for
abbrev pub MakesFor : Option (List Known) → (List Known → List Entry) → List Entry → Type 0
MakesFor None entries made = ⊥
MakesFor (Some bodies) entries made = made ≡ entries bodies

-- these entries, on the bodies of a batch that is prepared
abbrev pub prepared_named : List Exchange → List ℕ → Option Prepared
prepared_named above name = find (λ p. bytes_eq p.name name) (prepared_from [] above)

abbrev pub MakesOf : Option Prepared → (Prepared → List Entry) → List Entry → Type 0
MakesOf None entries made = ⊥
MakesOf (Some p) entries made = made ≡ entries p

-- layer by layer, where there are bodies of a layer
abbrev pub joined_some : ℕ → List Known → List Entry
joined_some layer [] = []
joined_some layer (known ∷ bodies) = joined layer (known ∷ bodies)

abbrev pub joined_each : List Known → List ℕ → List Entry
joined_each bodies [] = []
joined_each bodies (layer ∷ layers) = joined_some layer (filter (λ known. known.layer == layer) bodies) ++ joined_each bodies layers

-- what a command makes that is answered `ok`, where there are so many layers
abbrev pub MakesAsked : ℕ → List Exchange → Command → List Entry → Type 0
MakesAsked layers above (commands.Destroy name) made = MakesOne (id_of_name above name) (λ index. entries.Destroy index) made
MakesAsked layers above (commands.Remove name) made = MakesOne (id_of_name above name) (λ index. entries.Remove index) made
MakesAsked layers above (commands.Move name bounds) made = MakesOne (id_of_name above name) (λ index. entries.Move index bounds) made
MakesAsked layers above (commands.User name user) made = MakesOne (id_of_name above name) (λ index. entries.SetUser index user) made
MakesAsked layers above (commands.Prepare batch layer names) made = MakesFor (all_known_by above names) (λ bodies. marks (map (λ known. known.id.index) bodies)) made
MakesAsked layers above (commands.Add names) made = MakesFor (all_known_by above names) (λ bodies. joined_each bodies (range_with_len 0 layers)) made
MakesAsked layers above (commands.Finalize batch) made = MakesOf (prepared_named above batch) (λ p. entries.Join p.layer p.indexes ∷ []) made
MakesAsked layers above (commands.Abort batch) made = MakesOf (prepared_named above batch) (λ p. unmarks p.indexes) made
MakesAsked layers above command made = Unit {0}
