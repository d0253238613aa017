-- What holds at the labels of a walk: how often its reader word was raised.
use Rattle.std.proofs.Common.{◌≡◌, ℕ, ◌<◌, List, [], ◌∷◌, ◌++◌, subst, arith}
use Rattle.std.specs.Prelude.{Contains, map, ◌%◌, ◌==◌}
use Rattle.std.specs.Int.{bit_at}
use Rattle.std.specs.List.{range_with_len}
use Rattle.std.proofs.lemmas.Bool.{eq-eqb}
use Rattle.std.proofs.lemmas.List.Elements.{Contains-push}
use Rattle.fixed_box.specs.declared.shape.Shape.{Shape}
use Rattle.word_map.specs.declared.config.Config.{Config}
use Rattle.word_map.specs.declared.name.Name.{Name}
use Rattle.word_map.specs.declared.name.Name.TheVariants.{Main, Slot}
use Rattle.core_state.specs.declared.item.Store.{Store}
use Rattle.core_state.specs.declared.view.View.{View}
use Rattle.core_state.specs.View.{IsPass}
use Rattle.core_state.specs.Walking.{Position, words_of_layer, asked_words}
use Rattle.core_state.proofs.Beginning.{contains_filter, contains_flat}
use Rattle.core_state.proofs.Opening.{none_in, range_contains}
use Rattle.core_query.specs.Clear.{asked_layers}
use Rattle.tree_query.specs.Walking.{HasWalked, reader_store, EndsWalk}
use Rattle.tree_query.specs.Collecting.{Trip, IsOnTrip}
use Rattle.tree_query.specs.declared.finder.Finder.{Finder}
use Rattle.tree_query.specs.Answers.{raised, AsksAny, SaysWalk, HasCollected}

-- inside the walk it was raised once
pub says-inside : (mask : ℕ) (start view : View) (number first label : ℕ) → IsPass start number → HasWalked start view (reader_store number first ∷ []) → label < 2 → SaysWalk mask start view label
says-inside mask start view number first label pass h low = record {
  number = number;
  pass = pass;
  first = first;
  adds = h.adds;
  inside = λ less asks. h.tells;
  after = λ last. absurd (omega arith);
}

pub says-on : (mask : ℕ) (trip : Trip) (view : View) (at : Position) (number first label : ℕ) → IsPass trip.start number → trip.told ≡ reader_store number first ∷ [] → IsOnTrip trip view at → label < 2
    → SaysWalk mask trip.start view label
says-on mask trip view at number first label pass told h low =
    says-inside mask trip.start view number first label pass (subst (HasWalked trip.start view) told h.walked) low

-- after it twice, and where no layer is asked nothing is said of the labels before
pub says-after : (mask : ℕ) (start view : View) (number first second label : ℕ) → IsPass start number → HasWalked start view (raised number first second) → second % 2 ≡ 1 → ((label < 2) → ¬ AsksAny start.config mask)
    → SaysWalk mask start view label
says-after mask start view number first second label pass h odd none = record {
  number = number;
  pass = pass;
  first = first;
  adds = h.adds;
  inside = λ less asks. absurd (none less asks);
  after = λ last. (second, odd, h.tells);
}

-- so it is when the walk has ended
pub says-ended : (mask : ℕ) (trip : Trip) (last next : View) (at : Position) (number first second label : ℕ) → IsPass trip.start number → trip.told ≡ reader_store number first ∷ [] → IsOnTrip trip last at
    → EndsWalk last next number second → ((label < 2) → ¬ AsksAny trip.start.config mask) → SaysWalk mask trip.start next label
says-ended mask trip last next at number first second label pass told on ends none =
    says-after mask trip.start next number first second label pass
    (subst (λ (stores : List Store). HasWalked trip.start next (stores ++ reader_store number second ∷ [])) told (ends.walked trip.start trip.told on.walked)) ends.odd none

-- and so at the last label when the call has ended
pub says-collected : (shape : Shape) (mask : ℕ) (start next : View) (finder : Finder) → HasCollected shape mask start next finder → SaysWalk mask start next 2
says-collected shape mask start next finder h = says-after mask start next h.number h.first h.second 2 h.pass h.walked h.odd (λ less. absurd (omega arith))

-- no layer is asked where there is no word to read
pub none-asked : (c : Config) (mask : ℕ) → asked_words c mask ≡ [] → ¬ AsksAny c mask
none-asked c mask none asks =
    let layer = asks.0 in
    let among = contains_filter (λ l. bit_at mask l == 1) (range_with_len 0 c.layers) layer (range_contains c.layers layer asks.1) (eq-eqb (bit_at mask layer) 1 asks.2) in
    none_in (Main layer) (subst (λ (names : List Name). Contains names (Main layer)) none
    (contains_flat (words_of_layer c) (asked_layers c mask) layer (Main layer) among (Contains-push (map (Slot layer) (range_with_len 0 c.slots)) (Main layer))))
