-- What the view of a body tells of its record.
use Rattle.std.proofs.Common.{◌≡◌, ℕ, zero, suc, ◌<◌, [], ◌∷◌, length, get_or, nat_eq, arith, sym, ap, Bool, ◌&&◌, ◌==◌, option_and_then, Option, Some, None, IsSomeAnd, option_map}
use Rattle.std.specs.List.{IsDistinct}
use Rattle.std.specs.Bool.{then_some}
use Rattle.std.specs.Int.{bit_at}
use Rattle.std.proofs.lemmas.Option.{none-some, same_Some}
use Rattle.scene_model.specs.declared.body_view.BodyView.{BodyView}
use Rattle.scene_model.specs.declared.body_view.Phase.TheVariants.{Held}
use Rattle.scene_model.specs.declared.entry.Entry.TheVariants.{Join}
use Rattle.fixed_box.specs.declared.fix_box.FixBox.{FixBox}
use Rattle.scene_model.specs.Phase.{is_in}
use Rattle.scene_model.specs.Scene.{Scene, Record, record_at}
use Rattle.scene_model.specs.Step.{HasBody, IsPossible}
use Rattle.scene_model.specs.Query.{view_of, view_at, hit_id, hit_at}

viewed : (index : ℕ) (o : Option Record) (view : BodyView) (P : Record → Type 0) → option_map (view_of index) o ≡ Some view
    → ((r : Record) → view_of index r ≡ view → P r) → IsSomeAnd o P
viewed index None view P e then = absurd (none-some view e)
viewed index (Some r) view P e then = then r (same_Some _ _ e)

-- what is so of each record with this view is so of the body
pub HasBody-from_view : (scene : Scene) (index : ℕ) (view : BodyView) (P : Record → Type 0) → view_at scene index ≡ Some view
    → ((r : Record) → view_of index r ≡ view → P r) → HasBody scene index P
HasBody-from_view scene index view P e then = viewed index (record_at scene index) view P e then

one_distinct : (index : ℕ) → IsDistinct nat_eq (index ∷ [])
unfolding IsDistinct
one_distinct index = (tt, tt)

one_all : (P : ℕ → Type 0) (x k d : ℕ) → P x → k < length (x ∷ []) → P (get_or (x ∷ []) k d)
one_all P x zero d h below = h
one_all P x (suc k) d h below = absurd (omega arith)

-- one body that is held may join alone
pub IsPossible-join_one : (scene : Scene) (layer index : ℕ) → HasBody scene index (λ r. (r.phase ≡ Held) × (r.layer ≡ layer)) → IsPossible scene (Join layer (index ∷ []))
IsPossible-join_one scene layer index h =
    (omega arith, one_distinct index, λ k d below. one_all (λ i. HasBody scene i (λ r. (r.phase ≡ Held) × (r.layer ≡ layer))) index k d h below)

seen_hit : (test : FixBox → Bool) (mask index : ℕ) (o : Option Record) (view : BodyView) → option_map (view_of index) o ≡ Some view
    → option_and_then (hit_id test mask index) o ≡ then_some (is_in view.phase && (bit_at mask view.layer == 1) && test view.bounds) view.id
seen_hit test mask index None view e = absurd (none-some view e)
seen_hit test mask index (Some r) view e =
    ap (λ (v : BodyView). then_some (is_in v.phase && (bit_at mask v.layer == 1) && test v.bounds) v.id) (same_Some (view_of index r) view e)

-- the view of a body tells whether it is a hit
pub hit_at-from_view : (test : FixBox → Bool) (mask : ℕ) (scene : Scene) (index : ℕ) (view : BodyView) → Some view ≡ view_at scene index
    → hit_at test mask scene index ≡ then_some (is_in view.phase && (bit_at mask view.layer == 1) && test view.bounds) view.id
hit_at-from_view test mask scene index view e = seen_hit test mask index (record_at scene index) view (sym e)
