-- One step of a history: where an entry is lawful, and the scene after it.
use Rattle.std.specs.Prelude.{◌≡◌, ℕ, ◌+◌, ◌<◌, ◌⊎◌, ⊤, List, [], ◌∷◌, ◌++◌, length, fold, All, nat_eq, Option, Some, None, option_map, IsSome, IsSomeAnd, slice_set}
use Rattle.std.specs.List.{IsDistinct}
use Rattle.fixed_box.specs.declared.fix_box.FixBox.{FixBox}
use Rattle.scene_model.specs.declared.body_view.Phase.{Phase}
use Rattle.scene_model.specs.declared.body_view.Phase.TheVariants.{Out, Held, In}
use Rattle.scene_model.specs.declared.entry.Entry.{Entry}
use Rattle.scene_model.specs.declared.entry.Entry.TheVariants.{Create, Destroy, Mark, Unmark, Join, Remove, Move, SetUser}
use Rattle.scene_model.specs.Scene.{Scene, Place, Record, place_at, record_at, next_index}

-- a body is live at the index, and this holds of it
abbrev pub HasBody : Scene → ℕ → (Record → Type 0) → Type 0
HasBody scene index P = IsSomeAnd (record_at scene index) P

-- what each entry asks of the scene that it is added to, but for the layer of a creation
abbrev pub IsPossible : Scene → Entry → Type 0
IsPossible scene (Create index layer bounds user) = next_index scene ≡ Some index
IsPossible scene (Destroy index) = HasBody scene index (λ r. r.phase ≡ Out)
IsPossible scene (Mark index) = HasBody scene index (λ r. r.phase ≡ Out)
IsPossible scene (Unmark index) = HasBody scene index (λ r. r.phase ≡ Held)
IsPossible scene (Join layer indexes) =
    (0 < length indexes) × IsDistinct nat_eq indexes × All (λ index. HasBody scene index (λ r. (r.phase ≡ Held) × (r.layer ≡ layer))) indexes
IsPossible scene (Remove index) = HasBody scene index (λ r. r.phase ≡ In)
IsPossible scene (Move index bounds) = HasBody scene index (λ r. (r.phase ≡ Out) ⊎ (r.phase ≡ In))
IsPossible scene (SetUser index user) = IsSome (record_at scene index)

-- a body is created only in a layer that there is
abbrev pub IsWithinLayers : ℕ → Entry → Type 0
IsWithinLayers layers (Create index layer bounds user) = layer < layers
IsWithinLayers layers _ = ⊤

-- the entry may be added to the scene, where there are so many layers
abbrev pub IsLawful : ℕ → Scene → Entry → Type 0
IsLawful layers scene entry = IsPossible scene entry × IsWithinLayers layers entry

-- a place after one creation more
abbrev pub created_in : Place → ℕ → FixBox → ℕ → Place
created_in place layer bounds user = record {
  creations = place.creations + 1;
  body = Some (record { generation = place.creations + 1; layer = layer; bounds = bounds; user = user; phase = Out });
}

-- the scene with a new body: it takes the first freed index, and where none is freed an index of its own
abbrev pub with_new_body : List ℕ → Scene → ℕ → Place → Scene
with_new_body (_ ∷ rest) scene index place = record scene { places = slice_set scene.places index place; freed = rest }
with_new_body [] scene index place = record scene { places = scene.places ++ place ∷ [] }

-- the scene with the body at an index changed, or gone
abbrev pub with_body : Scene → ℕ → Option Record → Scene
with_body scene index body = record scene { places = slice_set scene.places index (record (place_at scene index) { body = body }) }

abbrev pub with_change : (Record → Record) → Scene → ℕ → Scene
with_change change scene index = with_body scene index (option_map change (record_at scene index))

abbrev pub in_phase : Phase → Record → Record
in_phase phase r = record r { phase = phase }

abbrev pub with_phase : Phase → Scene → ℕ → Scene
with_phase phase scene index = with_change (in_phase phase) scene index

-- the scene after an entry; of one that is not possible there this says nothing that is used
abbrev pub after_entry : Scene → Entry → Scene
after_entry scene (Create index layer bounds user) = with_new_body scene.freed scene index (created_in (place_at scene index) layer bounds user)
after_entry scene (Destroy index) = record (with_body scene index None) { freed = index ∷ scene.freed }
after_entry scene (Mark index) = with_phase Held scene index
after_entry scene (Unmark index) = with_phase Out scene index
after_entry scene (Join layer indexes) = fold (with_phase In) scene indexes
after_entry scene (Remove index) = with_phase Out scene index
after_entry scene (Move index bounds) = with_change (λ r. record r { bounds = bounds }) scene index
after_entry scene (SetUser index user) = with_change (λ r. record r { user = user }) scene index
