-- Histories: the scene after one, and what bodies a query over a part of one may answer.
use Rattle.std.specs.Prelude.{◌≡◌, ℕ, ◌≤◌, ◌==◌, ⊤, Bool, false, count_by, List, [], ◌∷◌, fold, map, take, All, Contains}
use Rattle.std.specs.Int.{bit_at}
use Rattle.std.specs.List.Sorted.{IsStrictlyIncreasing}
use Rattle.fixed_box.specs.declared.fix_box.FixBox.{FixBox}
use Rattle.body_ident.specs.Id.{Id, id_of}
use Rattle.scene_model.specs.declared.body_view.Phase.TheVariants.{In}
use Rattle.scene_model.specs.declared.entry.Entry.{Entry}
use Rattle.scene_model.specs.declared.entry.Entry.TheVariants.{Create}
use Rattle.scene_model.specs.declared.entry.Made.{Made}
use Rattle.scene_model.specs.Scene.{Scene, Record, empty_scene}
use Rattle.scene_model.specs.Step.{HasBody, IsLawful, after_entry}

-- the scene that entries lead to, from a scene on
abbrev pub scene_from : Scene → List Made → Scene
scene_from scene history = fold (λ s made. after_entry s made.entry) scene history

-- the scene after a history, where there are so many bodies
abbrev pub scene_after : ℕ → List Made → Scene
scene_after bodies history = scene_from (empty_scene bodies) history

-- each entry is lawful in the scene that it is added to
abbrev pub IsLawfulFrom : ℕ → Scene → List Made → Type 0
IsLawfulFrom layers scene [] = ⊤
IsLawfulFrom layers scene (made ∷ later) = IsLawful layers scene made.entry × IsLawfulFrom layers (after_entry scene made.entry) later

abbrev pub IsLawfulHistory : ℕ → ℕ → List Made → Type 0
IsLawfulHistory layers bodies history = IsLawfulFrom layers (empty_scene bodies) history

-- the prefixes of a history with lengths from the one number to the other, both included
pub record Interval : Type 0 where
  pub history : List Made
  pub from : ℕ
  pub to : ℕ

-- the scene after the first entries of a history, so many
abbrev pub point : ℕ → List Made → ℕ → Scene
point bodies history length = scene_after bodies (take length history)

-- a fact holds of the scene at each point of an interval, or at one
abbrev pub AtEachPoint : ℕ → Interval → (Scene → Type 0) → Type 0
AtEachPoint bodies interval P = (n : ℕ) → interval.from ≤ n → n ≤ interval.to → P (point bodies interval.history n)

abbrev pub AtSomePoint : ℕ → Interval → (Scene → Type 0) → Type 0
AtSomePoint bodies interval P = (n : ℕ) × (interval.from ≤ n) × (n ≤ interval.to) × P (point bodies interval.history n)

-- a body is in the broad phase, in a layer of the mask, and its bounds touch
abbrev pub IsHit : (FixBox → Type 0) → ℕ → Record → Type 0
IsHit touches mask r = (r.phase ≡ In) × (bit_at mask r.layer ≡ 1) × touches r.bounds

-- the body that was created as the generation-th at an index is live, and a hit
abbrev pub Fits : (FixBox → Type 0) → ℕ → Scene → ℕ → ℕ → Type 0
Fits touches mask scene index generation = HasBody scene index (λ r. (r.generation ≡ generation) × IsHit touches mask r)

-- it fits at each point of the interval: a query must answer it
abbrev pub IsDue : (FixBox → Type 0) → ℕ → ℕ → Interval → ℕ → ℕ → Type 0
IsDue touches mask bodies interval index generation = AtEachPoint bodies interval (λ scene. Fits touches mask scene index generation)

-- it fits at some point of the interval: a query may answer it
abbrev pub IsMet : (FixBox → Type 0) → ℕ → ℕ → Interval → ℕ → ℕ → Type 0
IsMet touches mask bodies interval index generation = AtSomePoint bodies interval (λ scene. Fits touches mask scene index generation)

-- ids ascend by index, each due body is among them, and each of them names a body that was met
pub record IsRightAnswer (touches : FixBox → Type 0) (mask bodies : ℕ) (interval : Interval) (ids : List Id) : Type 0 where
  pub ascending : IsStrictlyIncreasing (map (λ i. i.index) ids)
  pub complete : (index generation : ℕ) → IsDue touches mask bodies interval index generation → Contains ids (id_of index generation)
  pub sound : All (λ i. (generation : ℕ) × IsMet touches mask bodies interval i.index generation × (i ≡ id_of i.index generation)) ids

-- whether the entry creates a body at the index, and how many of a history do
abbrev pub creates : ℕ → Entry → Bool
creates index (Create at layer bounds user) = at == index
creates index entry = false

abbrev pub creations_in : ℕ → List Made → ℕ
creations_in index history = count_by (λ made. creates index made.entry) history
