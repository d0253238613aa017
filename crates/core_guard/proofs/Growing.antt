-- A history that goes on, and what a sight with it had before.
use Rattle.std.proofs.Common.{◌≡◌, ℕ, ◌≤◌, List, ◌++◌, length, ap, sym, subst, arith}
use Rattle.std.proofs.lemmas.List.{take-append-le, length-append}
use Rattle.fixed_box.specs.FixBox.{words_of}
use Rattle.scene_model.specs.declared.entry.Made.{Made}
use Rattle.scene_model.specs.Scene.{Scene}
use Rattle.scene_model.specs.Step.{HasBody}
use Rattle.scene_model.specs.History.{scene_after, point}
use Rattle.word_map.specs.declared.name.Name.{Name}
use Rattle.core_state.specs.Encoding.{sides_of, Sides}
use Rattle.core_state.specs.Scope.{Sight}
use Rattle.core_state.specs.Space.{HadSince, HadInLayer}

-- ---- what a law sees

-- a sight with other words and a longer history
abbrev pub grown : Sight → (Name → ℕ) → List Made → Sight
grown s word more = record s { word = word; history = s.history ++ more }

-- ---- a history that goes on

-- its points up to there are those of the shorter one
pub point-grown : (bodies : ℕ) (first more : List Made) (n : ℕ) → n ≤ length first → point bodies (first ++ more) n ≡ point bodies first n
point-grown bodies first more n below = ap (scene_after bodies) (take-append-le n first more below)

pub length-grown : (first more : List Made) → length first ≤ length (first ++ more)
length-grown first more = omega (arith, length-append first more)

module _ (s : Sight) (word : Name → ℕ) (more : List Made) where
  point-forth : (n : ℕ) (P : Scene → Type 0) → n ≤ length s.history → P (point s.config.bodies s.history n) → P (point s.config.bodies (s.history ++ more) n)
  point-forth n P below h = subst P (sym (point-grown s.config.bodies s.history more n below)) h

  pub had-grown : (from index : ℕ) (box : Sides) → HadSince s from index box → HadSince (grown s word more) from index box
  had-grown from index box h =
      let longer = length-grown s.history more in
      (h.0, h.1, omega (arith, h.2), point-forth h.0 (λ scene. HasBody scene index (λ r. box ≡ sides_of (words_of r.bounds))) h.2 h.3)

  pub had_in_layer-grown : (layer : ℕ) (box : Sides) → HadInLayer s layer box → HadInLayer (grown s word more) layer box
  had_in_layer-grown layer box h =
      let longer = length-grown s.history more in
      (h.0, h.1, omega (arith, h.2), point-forth h.0 (λ scene. HasBody scene h.1 (λ r. (r.layer ≡ layer) × (box ≡ sides_of (words_of r.bounds)))) h.2 h.3)
