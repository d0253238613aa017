-- How entries change the numbers of bodies that are live, and that are in the broad phase.
use Rattle.std.proofs.Common.{◌≡◌, ◌≢◌, ℕ, ◌+◌, ◌<◌, false, cond, List, [], ◌∷◌, length, Option, Some, None, refl, ap, sym, ◌∙◌, subst, arith}
use Rattle.std.specs.Prelude.{All, Contains, sum_by, fold, is_some, option_map, nat_eq, IsNone, IsSome, IsSomeAnd}
use Rattle.std.specs.Option.{option_map_or}
use Rattle.std.specs.List.{IsDistinct, AllByRecursion}
use Rattle.std.proofs.lemmas.List.Sums.{sum_by-set, sum_by-append, sum_by-cons}
use Rattle.std.proofs.lemmas.List.Elements.{All-nil, All-cons, All-head, All-tail}
use Rattle.std.proofs.lemmas.Bool.{false≢true, eq-eqb}
use Rattle.std.proofs.lemmas.Map.Keys.{IsDistinct-tail}
use Rattle.std.proofs.lemmas.Option.{same_Some}
use Rattle.scene_model.specs.declared.body_view.Phase.{Phase}
use Rattle.scene_model.specs.declared.body_view.Phase.TheVariants.{Out, Held, In}
use Rattle.scene_model.specs.declared.entry.Entry.{Entry}
use Rattle.scene_model.specs.declared.entry.Entry.TheVariants.{Create, Destroy, Mark, Unmark, Join, Remove, Move, SetUser}
use Rattle.scene_model.specs.Phase.{is_in}
use Rattle.scene_model.specs.Scene.{Scene, Place, Record, unused, place_at, record_at, next_of}
use Rattle.scene_model.specs.Step.{HasBody, IsPossible, in_phase, created_in, with_new_body, with_body, with_change, with_phase, after_entry}
use Rattle.scene_model.specs.Query.{live_count, in_count}
use Rattle.scene_model.specs.Consistent.{IsConsistent}
use Rattle.scene_model.proofs.Places.{live_used, place_at-with_body_other}
use Rattle.scene_model.proofs.Histories.{IsConsistent-after_entry}
use Rattle.core_state.proofs.Beginning.{body_record}
use Rattle.world_host.specs.Alone.{AreLawful}
use Rattle.world_host.specs.Counted.{created_by, destroyed_by, joined_by, removed_by, CountsLive, CountsInside}

-- ---- what is counted of a place

abbrev tally : (Option Record → ℕ) → Scene → ℕ
tally w scene = sum_by (λ p. w p.body) scene.places

-- a body is live, or it is in the broad phase
abbrev one_live : Option Record → ℕ
one_live o = cond (is_some o) 1 0

abbrev one_in : Option Record → ℕ
one_in o = cond (option_map_or (λ r. is_in r.phase) o false) 1 0

-- a place gets another body
tally-with_body : (w : Option Record → ℕ) (scene : Scene) (index : ℕ) (body : Option Record) → index < length scene.places
    → tally w (with_body scene index body) + w (record_at scene index) ≡ tally w scene + w body
tally-with_body w scene index body below = sum_by-set (λ (p : Place). w p.body) scene.places index (record (place_at scene index) { body = body }) unused below

-- a live body is changed
tally-with_change : (w : Option Record → ℕ) (f : Record → Record) (scene : Scene) (index : ℕ) (P : Record → Type 0) → HasBody scene index P
    → (r : Record) × P r × (tally w (with_change f scene index) + w (Some r) ≡ tally w scene + w (Some (f r)))
tally-with_change w f scene index P h =
    let has = body_record (record_at scene index) P h in
    let set = tally-with_body w scene index (option_map f (record_at scene index)) (live_used scene index P h) in
    let old : w (record_at scene index) ≡ w (Some has.0) = ap w has.1 in
    let new : w (option_map f (record_at scene index)) ≡ w (Some (f has.0)) = ap (λ (o : Option Record). w (option_map f o)) has.1 in
    (has.0, has.2, omega (arith, set, old, new))

-- a change leaves as many live
live-changed : (f : Record → Record) (scene : Scene) (index : ℕ) (P : Record → Type 0) → HasBody scene index P → live_count (with_change f scene index) ≡ live_count scene
live-changed f scene index P h =
    let t = tally-with_change one_live f scene index P h in
    let e = t.2 in
    omega (arith, e)

-- ---- a body is created

-- at an index where none is live
new-body : (w : Option Record → ℕ) (layers : ℕ) (scene : Scene) (freed : List ℕ) (index : ℕ) (place : Place) → w None ≡ 0 → scene.freed ≡ freed → next_of freed (length scene.places) scene.bodies ≡ Some index
    → IsConsistent layers scene → tally w (with_new_body freed scene index place) ≡ tally w scene + w place.body
new-body w layers scene [] index place none is next h =
    let more = sum_by-append (λ (p : Place). w p.body) scene.places (place ∷ []) in
    let one = sum_by-cons (λ (p : Place). w p.body) place [] in
    omega (arith, more, one)
new-body w layers scene (first ∷ rest) index place none is next h =
    let same : first ≡ index = same_Some first index next in
    let empty = h.freed_empty index (subst (λ (xs : List ℕ). Contains xs index) (sym is) (0, omega arith, same)) in
    let set = sum_by-set (λ (p : Place). w p.body) scene.places index place unused empty.0 in
    let old : w (record_at scene index) ≡ 0 = nothing (record_at scene index) empty.1 in
    omega (arith, set, old)
  where
    nothing : (o : Option Record) → IsNone o → w o ≡ 0
    nothing None e = none
    nothing (Some r) e = absurd (cc)

-- ---- bodies that come into the broad phase together

-- a body at another index stays
other-body : (phase : Phase) (scene : Scene) (index other : ℕ) (P : Record → Type 0) → other ≢ index → HasBody scene other P → HasBody (with_phase phase scene index) other P
other-body phase scene index other P apart h = subst (λ (p : Place). IsSomeAnd p.body P) (sym (place_at-with_body_other scene index other _ apart)) h

-- it is held, in a layer
abbrev IsHeldIn : ℕ → Record → Type 0
IsHeldIn layer r = (r.phase ≡ Held) × (r.layer ≡ layer)

abbrev AllHeldIn : ℕ → Scene → List ℕ → Type 0
AllHeldIn layer scene indexes = All (λ index. HasBody scene index (IsHeldIn layer)) indexes

-- a further index is none of those that differ from it
apart-from : (index : ℕ) (rest : List ℕ) → IsDistinct nat_eq (index ∷ rest) → All (λ i. i ≢ index) rest
unfolding IsDistinct
apart-from index rest distinct = apart-by index rest distinct.0
  where
    apart-by : (index : ℕ) (rest : List ℕ) → AllByRecursion (λ y. nat_eq index y ≡ false) rest → All (λ i. i ≢ index) rest
    apart-by index [] h = All-nil (λ i. i ≢ index)
    apart-by index (y ∷ rest) h = All-cons (λ i. i ≢ index) y rest (λ same. false≢true (sym h.0 ∙ eq-eqb index y (sym same))) (apart-by index rest h.1)

rest-held : (layer index : ℕ) (scene : Scene) (rest : List ℕ) → All (λ i. i ≢ index) rest → AllHeldIn layer scene rest → AllHeldIn layer (with_phase In scene index) rest
rest-held layer index scene rest apart held = λ k d below. other-body In scene index _ (IsHeldIn layer) (apart k d below) (held k d below)

joined-in : (layer : ℕ) (indexes : List ℕ) (scene : Scene) → IsDistinct nat_eq indexes → AllHeldIn layer scene indexes → in_count (fold (with_phase In) scene indexes) ≡ in_count scene + length indexes
joined-in layer [] scene distinct held = omega arith
joined-in layer (index ∷ rest) scene distinct held =
    let P : ℕ → Type 0 = λ i. HasBody scene i (IsHeldIn layer) in
    let t = tally-with_change one_in (λ r. record r { phase = In }) scene index (IsHeldIn layer) (All-head P index rest held) in
    let was : one_in (Some t.0) ≡ 0 = ap (λ (phase : Phase). cond (is_in phase) 1 0) t.1.0 in
    let more = t.2 in
    let later = joined-in layer rest (with_phase In scene index) (IsDistinct-tail nat_eq index rest distinct) (rest-held layer index scene rest (apart-from index rest distinct) (All-tail P index rest held)) in
    omega (arith, was, more, later)

joined-live : (layer : ℕ) (indexes : List ℕ) (scene : Scene) → IsDistinct nat_eq indexes → AllHeldIn layer scene indexes → live_count (fold (with_phase In) scene indexes) ≡ live_count scene
joined-live layer [] scene distinct held = refl
joined-live layer (index ∷ rest) scene distinct held =
    let P : ℕ → Type 0 = λ i. HasBody scene i (IsHeldIn layer) in
    joined-live layer rest (with_phase In scene index) (IsDistinct-tail nat_eq index rest distinct) (rest-held layer index scene rest (apart-from index rest distinct) (All-tail P index rest held))
    ∙ live-changed (λ r. record r { phase = In }) scene index (IsHeldIn layer) (All-head P index rest held)

-- ---- one entry

-- a body that is live at all
live-body : (o : Option Record) → IsSome o → IsSomeAnd o (λ r. Unit {0})
live-body None h = absurd (false≢true h)
live-body (Some r) h = tt

-- a change of the phase, from one to another
phase-in : (phase : Phase) (scene : Scene) (index : ℕ) (from : Phase) → HasBody scene index (λ r. r.phase ≡ from) → in_count (with_phase phase scene index) + cond (is_in from) 1 0 ≡ in_count scene + cond (is_in phase) 1 0
phase-in phase scene index from h =
    let t = tally-with_change one_in (λ r. record r { phase = phase }) scene index (λ r. r.phase ≡ from) h in
    let was : one_in (Some t.0) ≡ cond (is_in from) 1 0 = ap (λ (p : Phase). cond (is_in p) 1 0) t.1 in
    let is = t.2 in
    omega (arith, was, is)

-- another change
same-in : (f : Record → Record) (scene : Scene) (index : ℕ) (P : Record → Type 0) → ((r : Record) → (f r).phase ≡ r.phase) → HasBody scene index P → in_count (with_change f scene index) ≡ in_count scene
same-in f scene index P keeps h =
    let t = tally-with_change one_in f scene index P h in
    let same : one_in (Some (f t.0)) ≡ one_in (Some t.0) = ap (λ (p : Phase). cond (is_in p) 1 0) (keeps t.0) in
    let is = t.2 in
    omega (arith, same, is)

live-after : (layers : ℕ) (scene : Scene) (entry : Entry) → IsConsistent layers scene → IsPossible scene entry → live_count (after_entry scene entry) + destroyed_by entry ≡ live_count scene + created_by entry
live-after layers scene (Create index layer bounds user) h may =
    let more = new-body one_live layers scene scene.freed index (created_in (place_at scene index) layer bounds user) refl refl may h in
    omega (arith, more)
live-after layers scene (Destroy index) h may =
    let has = body_record (record_at scene index) (λ r. r.phase ≡ Out) may in
    let set = tally-with_body one_live scene index None (live_used scene index _ may) in
    let was : one_live (record_at scene index) ≡ 1 = ap one_live has.1 in
    omega (arith, set, was)
live-after layers scene (Mark index) h may = let same = live-changed (in_phase Held) scene index _ may in omega (arith, same)
live-after layers scene (Unmark index) h may = let same = live-changed (in_phase Out) scene index _ may in omega (arith, same)
live-after layers scene (Join layer indexes) h may = let same = joined-live layer indexes scene may.1 may.2 in omega (arith, same)
live-after layers scene (Remove index) h may = let same = live-changed (in_phase Out) scene index _ may in omega (arith, same)
live-after layers scene (Move index bounds) h may = let same = live-changed (λ r. record r { bounds = bounds }) scene index _ may in omega (arith, same)
live-after layers scene (SetUser index user) h may = let same = live-changed (λ r. record r { user = user }) scene index (λ r. Unit {0}) (live-body (record_at scene index) may) in omega (arith, same)

in-after : (layers : ℕ) (scene : Scene) (entry : Entry) → IsConsistent layers scene → IsPossible scene entry → in_count (after_entry scene entry) + removed_by entry ≡ in_count scene + joined_by entry
in-after layers scene (Create index layer bounds user) h may =
    let more = new-body one_in layers scene scene.freed index (created_in (place_at scene index) layer bounds user) refl refl may h in
    omega (arith, more)
in-after layers scene (Destroy index) h may =
    let has = body_record (record_at scene index) (λ r. r.phase ≡ Out) may in
    let set = tally-with_body one_in scene index None (live_used scene index _ may) in
    let was : one_in (record_at scene index) ≡ 0 = ap one_in has.1 ∙ ap (λ (p : Phase). cond (is_in p) 1 0) has.2 in
    omega (arith, set, was)
in-after layers scene (Mark index) h may = let same = phase-in Held scene index Out may in omega (arith, same)
in-after layers scene (Unmark index) h may = let same = phase-in Out scene index Held may in omega (arith, same)
in-after layers scene (Join layer indexes) h may = let more = joined-in layer indexes scene may.1 may.2 in omega (arith, more)
in-after layers scene (Remove index) h may = let less = phase-in Out scene index In may in omega (arith, less)
in-after layers scene (Move index bounds) h may = let same = same-in (λ r. record r { bounds = bounds }) scene index _ (λ r. refl) may in omega (arith, same)
in-after layers scene (SetUser index user) h may = let same = same-in (λ r. record r { user = user }) scene index (λ r. Unit {0}) (λ r. refl) (live-body (record_at scene index) may) in omega (arith, same)

-- ---- all entries

pub live-counted : (layers : ℕ) (entries : List Entry) (scene : Scene) → IsConsistent layers scene → AreLawful layers scene entries → CountsLive entries (live_count scene) (live_count (fold after_entry scene entries))
live-counted layers [] scene h may = refl
live-counted layers (entry ∷ later) scene h may =
    let one = live-after layers scene entry h may.0.0 in
    let rest = live-counted layers later (after_entry scene entry) (IsConsistent-after_entry layers scene entry may.0 h) may.1 in
    let gone = sum_by-cons destroyed_by entry later in
    let come = sum_by-cons created_by entry later in
    omega (arith, one, rest, gone, come)

pub in-counted : (layers : ℕ) (entries : List Entry) (scene : Scene) → IsConsistent layers scene → AreLawful layers scene entries → CountsInside entries (in_count scene) (in_count (fold after_entry scene entries))
in-counted layers [] scene h may = refl
in-counted layers (entry ∷ later) scene h may =
    let one = in-after layers scene entry h may.0.0 in
    let rest = in-counted layers later (after_entry scene entry) (IsConsistent-after_entry layers scene entry may.0 h) may.1 in
    let gone = sum_by-cons removed_by entry later in
    let come = sum_by-cons joined_by entry later in
    omega (arith, one, rest, gone, come)
