-- What is read of a scene is read of what is shown of it.
use Rattle.std.proofs.Common.{◌≡◌, ℕ, ◌+◌, ◌%◌, Bool, false, cond, List, [], ◌∷◌, length, map, refl, sym, ◌∙◌, ap, subst, count_by, filter_map, get_or, Option, Some, None, is_some, IsSomeAnd, option_map, option_and_then, arith}
use Rattle.std.specs.List.{cons_option, range_with_len}
use Rattle.std.specs.Option.{option_map_or}
use Rattle.std.proofs.lemmas.List.{length-map}
use Rattle.std.proofs.lemmas.List.Sums.{sum_by-cons}
use Rattle.fixed_box.specs.declared.fix_box.FixBox.{FixBox}
use Rattle.scene_model.specs.declared.entry.Entry.{Entry}
use Rattle.scene_model.specs.declared.entry.Entry.TheVariants.{Create, Destroy, Mark, Unmark, Join, Remove, Move, SetUser}
use Rattle.scene_model.specs.Scene.{Scene, Place, Record, record_at, next_index, next_of}
use Rattle.scene_model.specs.Step.{HasBody, IsPossible}
use Rattle.scene_model.specs.Query.{view_of, view_at, live_count, in_count, hit_id, hit_at, hits}
use Rattle.scene_model.specs.Phase.{is_in}
use Rattle.scene_model.specs.Shown.{shown_record, shown_place, shown}
use Rattle.scene_model.proofs.ShownSteps.{place_at-shown}

pub record_at-shown : (scene : Scene) (index : ℕ) → record_at (shown scene) index ≡ option_map shown_record (record_at scene index)
record_at-shown scene index = ap (λ (p : Place). p.body) (place_at-shown scene index)

pub next_index-shown : (scene : Scene) → next_index (shown scene) ≡ next_index scene
next_index-shown scene = ap (λ n. next_of scene.freed n scene.bodies) (length-map scene.places shown_place)

mod_twice : (n : ℕ) → n % 256 % 256 ≡ n % 256
mod_twice n = omega arith

view_of-shown : (index : ℕ) (o : Option Record) → option_map (view_of index) (option_map shown_record o) ≡ option_map (view_of index) o
view_of-shown index None = refl
view_of-shown index (Some r) = rw (mod_twice r.generation)

pub view_at-shown : (scene : Scene) (index : ℕ) → view_at (shown scene) index ≡ view_at scene index
view_at-shown scene index = ap (option_map (view_of index)) (record_at-shown scene index) ∙ view_of-shown index (record_at scene index)

count_by-map : {A : Type 0} (p : A → Bool) (f : A → A) → ((x : A) → p (f x) ≡ p x) → (xs : List A) → count_by p (map f xs) ≡ count_by p xs
count_by-map p f same [] = refl
count_by-map p f same (x ∷ xs) =
    sum_by-cons (λ y. cond (p y) 1 0) (f x) (map f xs)
    ∙ ap (λ n. cond (p (f x)) 1 0 + n) (count_by-map p f same xs)
    ∙ ap (λ b. cond b 1 0 + count_by p xs) (same x)
    ∙ sym (sum_by-cons (λ y. cond (p y) 1 0) x xs)

live-shown : (o : Option Record) → is_some (option_map shown_record o) ≡ is_some o
live-shown None = refl
live-shown (Some r) = refl

pub live_count-shown : (scene : Scene) → live_count (shown scene) ≡ live_count scene
live_count-shown scene = count_by-map _ shown_place (λ p. live-shown p.body) scene.places

in-shown : (o : Option Record) → option_map_or (λ r. is_in r.phase) (option_map shown_record o) false ≡ option_map_or (λ r. is_in r.phase) o false
in-shown None = refl
in-shown (Some r) = refl

pub in_count-shown : (scene : Scene) → in_count (shown scene) ≡ in_count scene
in_count-shown scene = count_by-map _ shown_place (λ p. in-shown p.body) scene.places

hit_id-shown : (test : FixBox → Bool) (mask index : ℕ) (o : Option Record) → option_and_then (hit_id test mask index) (option_map shown_record o) ≡ option_and_then (hit_id test mask index) o
hit_id-shown test mask index None = refl
hit_id-shown test mask index (Some r) = rw (mod_twice r.generation)

hit_at-shown : (test : FixBox → Bool) (mask : ℕ) (scene : Scene) (index : ℕ) → hit_at test mask (shown scene) index ≡ hit_at test mask scene index
hit_at-shown test mask scene index = ap (option_and_then (hit_id test mask index)) (record_at-shown scene index) ∙ hit_id-shown test mask index (record_at scene index)

filter_map_agree : {A B : Type 0} (f g : A → Option B) → ((x : A) → f x ≡ g x) → (xs : List A) → filter_map f xs ≡ filter_map g xs
filter_map_agree f g same [] = refl
filter_map_agree f g same (x ∷ xs) = ap (λ ys. cons_option (f x) ys) (filter_map_agree f g same xs) ∙ ap (λ o. cons_option o (filter_map g xs)) (same x)

pub hits-shown : (test : FixBox → Bool) (mask : ℕ) (scene : Scene) → hits test mask (shown scene) ≡ hits test mask scene
hits-shown test mask scene =
    ap (λ n. filter_map (hit_at test mask (shown scene)) (range_with_len 0 n)) (length-map scene.places shown_place)
    ∙ filter_map_agree _ _ (hit_at-shown test mask scene) (range_with_len 0 (length scene.places))

-- ---- where an entry is possible

shows_body : (P Q : Record → Type 0) → ((r : Record) → P r → Q (shown_record r)) → (o : Option Record) → IsSomeAnd o P → IsSomeAnd (option_map shown_record o) Q
shows_body P Q then None h = h
shows_body P Q then (Some r) h = then r h

seen_body : (P Q : Record → Type 0) → ((r : Record) → P (shown_record r) → Q r) → (o : Option Record) → IsSomeAnd (option_map shown_record o) P → IsSomeAnd o Q
seen_body P Q then None h = h
seen_body P Q then (Some r) h = then r h

HasBody-shown : (scene : Scene) (index : ℕ) (P Q : Record → Type 0) → ((r : Record) → P r → Q (shown_record r)) → HasBody scene index P → HasBody (shown scene) index Q
HasBody-shown scene index P Q then h =
    subst (λ (o : Option Record). IsSomeAnd o Q) (sym (record_at-shown scene index)) (shows_body P Q then (record_at scene index) h)

HasBody-seen : (scene : Scene) (index : ℕ) (P Q : Record → Type 0) → ((r : Record) → P (shown_record r) → Q r) → HasBody (shown scene) index P → HasBody scene index Q
HasBody-seen scene index P Q then h =
    seen_body P Q then (record_at scene index) (subst (λ (o : Option Record). IsSomeAnd o P) (record_at-shown scene index) h)

pub IsPossible-shown : (scene : Scene) (entry : Entry) → IsPossible scene entry → IsPossible (shown scene) entry
IsPossible-shown scene (Create index layer bounds user) h = next_index-shown scene ∙ h
IsPossible-shown scene (Destroy index) h = HasBody-shown scene index _ _ (λ r h. h) h
IsPossible-shown scene (Mark index) h = HasBody-shown scene index _ _ (λ r h. h) h
IsPossible-shown scene (Unmark index) h = HasBody-shown scene index _ _ (λ r h. h) h
IsPossible-shown scene (Join layer indexes) h = (h.0, h.1, λ k d below. HasBody-shown scene (get_or indexes k d) _ _ (λ r h. h) (h.2 k d below))
IsPossible-shown scene (Remove index) h = HasBody-shown scene index _ _ (λ r h. h) h
IsPossible-shown scene (Move index bounds) h = HasBody-shown scene index _ _ (λ r h. h) h
IsPossible-shown scene (SetUser index user) h = ap is_some (record_at-shown scene index) ∙ live-shown (record_at scene index) ∙ h

pub IsPossible-seen : (scene : Scene) (entry : Entry) → IsPossible (shown scene) entry → IsPossible scene entry
IsPossible-seen scene (Create index layer bounds user) h = sym (next_index-shown scene) ∙ h
IsPossible-seen scene (Destroy index) h = HasBody-seen scene index _ _ (λ r h. h) h
IsPossible-seen scene (Mark index) h = HasBody-seen scene index _ _ (λ r h. h) h
IsPossible-seen scene (Unmark index) h = HasBody-seen scene index _ _ (λ r h. h) h
IsPossible-seen scene (Join layer indexes) h = (h.0, h.1, λ k d below. HasBody-seen scene (get_or indexes k d) _ _ (λ r h. h) (h.2 k d below))
IsPossible-seen scene (Remove index) h = HasBody-seen scene index _ _ (λ r h. h) h
IsPossible-seen scene (Move index bounds) h = HasBody-seen scene index _ _ (λ r h. h) h
IsPossible-seen scene (SetUser index user) h = sym (live-shown (record_at scene index)) ∙ sym (ap is_some (record_at-shown scene index)) ∙ h
