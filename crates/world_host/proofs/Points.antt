-- What is so at a point of a call that nobody else acted beside, is so of the scene before it.
use Rattle.std.proofs.Common.{◌≡◌, ℕ, suc, List, [], ◌∷◌, ◌++◌, Option, Some, length, get_or, drop, append_assoc, refl, ap, sym, ◌∙◌, subst, arith}
use Rattle.std.specs.Prelude.{option_map, fold}
use Rattle.std.specs.List.{cons_option}
use Rattle.std.proofs.lemmas.List.{append_cancel_left, append-nil, length-append}
use Rattle.std.proofs.lemmas.List.Elements.{filter_map-append}
use Rattle.scene_model.specs.declared.entry.Entry.{Entry}
use Rattle.scene_model.specs.declared.entry.Made.{Made}
use Rattle.scene_model.specs.Scene.{Scene, empty_scene}
use Rattle.scene_model.specs.Step.{after_entry}
use Rattle.scene_model.proofs.Histories.{scene_from-append}
use Rattle.scene_model.specs.History.{scene_after}
use Rattle.core_state.specs.declared.item.Item.{Item}
use Rattle.core_state.specs.declared.view.View.{View}
use Rattle.core_state.specs.Log.{history, made_by}
use Rattle.core_state.specs.Guards.{scene_at}
use Rattle.pass_table.specs.Calls.{AtPoint, MakesAt}
use Rattle.pass_table.specs.Several.{made_by_pass}
use Rattle.world_host.specs.Alone.{scene_of}
use Rattle.world_host.proofs.Histories.{Sees, scene-made}

none-long : {X : Type 0} (xs : List X) → length xs ≡ 0 → xs ≡ []
none-long [] e = refl
none-long (x ∷ xs) e = absurd (omega arith)

-- ---- logs after which no further entry was made

scene-still : (start : View) (since : List Item) → history since ≡ [] → scene_at start.config (start.known ++ since) ≡ scene_of start
scene-still start since none =
    ap (scene_after start.config.bodies) (filter_map-append made_by start.known since ∙ (ap (λ (l : List Made). history start.known ++ l) none ∙ append-nil (history start.known)))

history-parts : (start next : View) (since rest : List Item) → next.known ≡ (start.known ++ since) ++ rest → history next.known ≡ history start.known ++ (history since ++ history rest)
history-parts start next since rest parts =
    ap history parts
    ∙ (filter_map-append made_by (start.known ++ since) rest
    ∙ (ap (λ (l : List Made). l ++ history rest) (filter_map-append made_by start.known since) ∙ append_assoc (history start.known) (history since) (history rest)))

made-between : (start next : View) (since rest : List Item) (entries : List Entry) (sees : Sees start next entries) → next.known ≡ (start.known ++ since) ++ rest → history since ++ history rest ≡ made_by_pass sees.0 entries
made-between start next since rest entries sees parts =
    append_cancel_left (history start.known) (history since ++ history rest) (made_by_pass sees.0 entries) (sym (history-parts start next since rest parts) ∙ sees.1)

-- ---- a call that made no entry

pub point-scene : (start next : View) (fact : List Item → Type 0) (at : AtPoint start next fact) → Sees start next [] → scene_at start.config (start.known ++ at.since) ≡ scene_of start
point-scene start next fact at sees =
    let all : length (history at.since ++ history at.later) ≡ 0 = ap length (made-between start next at.since at.later [] sees at.parts) in
    scene-still start at.since (none-long (history at.since) (omega (arith, length-append (history at.since) (history at.later), all)))

-- what its point says of the scene
pub point-before : (start next : View) (P : Scene → Type 0) → Sees start next [] → AtPoint start next (λ log. P (scene_at start.config log)) → P (scene_of start)
point-before start next P sees at = subst P (point-scene start next (λ log. P (scene_at start.config log)) at sees) at.holds

-- ---- a call that made one

one-more : (item : Item) (entry : Entry) (later : List Item) → item.entry ≡ Some entry → length (history (item ∷ later)) ≡ suc (length (history later))
one-more item entry later is = ap (λ (o : Option Entry). length (cons_option (option_map (λ (e : Entry). record { pass = item.pass; entry = e }) o) (history later))) is

pub made-before : (start next : View) (entry : Entry) (P : Scene → Type 0) → Sees start next (entry ∷ []) → MakesAt start next entry (λ log. P (scene_at start.config log)) → P (scene_of start)
made-before start next entry P sees at =
    let all : length (history at.since ++ history (at.item ∷ at.later)) ≡ 1 = ap length (made-between start next at.since (at.item ∷ at.later) (entry ∷ []) sees at.parts) in
    let more = one-more at.item entry at.later at.makes in
    subst P (scene-still start at.since (none-long (history at.since) (omega (arith, length-append (history at.since) (history (at.item ∷ at.later)), all, more)))) at.holds

-- ---- a call that made several

made-split : (number : ℕ) (entries : List Entry) (xs ys : List Made) → xs ++ ys ≡ made_by_pass number entries → (early : List Entry) × (late : List Entry) × (entries ≡ early ++ late) × (xs ≡ made_by_pass number early)
made-split number entries [] ys e = ([], entries, refl, refl)
made-split number [] (x ∷ xs) ys e = absurd cc
made-split number (entry ∷ entries) (x ∷ xs) ys e =
    let rest = made-split number entries xs ys (ap (drop 1) e) in
    let first : x ≡ record { pass = number; entry = entry } = ap (λ (l : List Made). get_or l 0 x) e in
    (entry ∷ rest.0, rest.1, ap (λ (l : List Entry). entry ∷ l) rest.2, λ i. first i ∷ rest.3 i)

-- at its point the scene is that after the first of them
pub record AfterFirst (start : View) (entries : List Entry) (since : List Item) : Type 0 where
  pub early : List Entry
  pub late : List Entry
  pub parts : entries ≡ early ++ late
  pub scene : scene_at start.config (start.known ++ since) ≡ fold after_entry (scene_of start) early

pub point-after : (start next : View) (fact : List Item → Type 0) (at : AtPoint start next fact) (entries : List Entry) → Sees start next entries → AfterFirst start entries at.since
point-after start next fact at entries sees =
    let split = made-split sees.0 entries (history at.since) (history at.later) (made-between start next at.since at.later entries sees at.parts) in
    let bodies = start.config.bodies in
    record {
      early = split.0;
      late = split.1;
      parts = split.2;
      scene =
          ap (scene_after bodies) (filter_map-append made_by start.known at.since ∙ ap (λ (l : List Made). history start.known ++ l) split.3)
          ∙ (scene_from-append (empty_scene bodies) (history start.known) (made_by_pass sees.0 split.0) ∙ scene-made sees.0 split.0 (scene_of start));
    }
