-- The answer of a query is right: its walk found each body that is due, and each candidate was checked.
use Rattle.std.specs.Prelude.{Contains, IsSomeAnd, map, take, length}
use Rattle.std.specs.List.Sorted.{IsStrictlyIncreasing}
use Rattle.std.proofs.Common.{◌≡◌, inl, inr, ℕ, ◌+◌, ◌%◌, ◌<◌, ◌≤◌, List, ◌++◌, true, Some, refl, ap, sym, ◌∙◌, subst, arith}
use Rattle.std.proofs.lemmas.Bool.{cases_Bool}
use Rattle.std.proofs.lemmas.Option.{same_Some}
use Rattle.std.proofs.lemmas.List.{take_all, take-append-le, length-append, length-map, get_or-map}
use Rattle.std.proofs.lemmas.List.Elements.{All-weaker, All-contains_itself, filter_map-append}
use Rattle.fixed_box.specs.declared.shape.Shape.{Shape}
use Rattle.fixed_box.specs.Touch.{Touch}
use Rattle.body_ident.specs.Id.{Id, id_of}
use Rattle.scene_model.specs.declared.entry.Made.{Made}
use Rattle.scene_model.specs.Scene.{Scene, Record, record_at}
use Rattle.scene_model.specs.History.{scene_after, IsHit, Fits, IsDue, IsMet, IsRightAnswer}
use Rattle.word_map.specs.declared.config.Config.{Config}
use Rattle.core_state.specs.declared.item.Item.{Item}
use Rattle.core_state.specs.declared.view.View.{View}
use Rattle.core_state.specs.Log.{made_by, history, IsPrefix}
use Rattle.core_state.specs.Guards.{scene_at}
use Rattle.core_state.proofs.Beginning.{body_record, record_body}
use Rattle.tree_query.specs.declared.finder.Finder.{Finder}
use Rattle.tree_query.specs.Finding.{has_index, room_of, seq_of, ids_of}
use Rattle.tree_query.specs.Checking.{AreAllChecked, points_between, HoldsDue}
use Rattle.tree_query.proofs.Ranges.{ids-ascend, ids-of_found, found-in_ids}

-- ---- the history of a log that goes on

history-on : (first since : List Item) → history (first ++ since) ≡ history first ++ history since
history-on first since = filter_map-append made_by first since

-- its first entries are those of the first part
pub taken-on : (n : ℕ) (first since : List Item) → n ≤ length (history first) → take n (history (first ++ since)) ≡ take n (history first)
taken-on n first since low = ap (take n) (history-on first since) ∙ take-append-le n (history first) (history since) low

-- and it is no shorter
pub longer : (first since : List Item) → length (history first) ≤ length (history (first ++ since))
longer first since =
    let whole = ap length (history-on first since) ∙ length-append (history first) (history since) in
    omega arith

-- the scene after so many entries is that after the first part
scene-on : (bodies : ℕ) (first since : List Item) → scene_after bodies (take (length (history first)) (history (first ++ since))) ≡ scene_after bodies (history first)
scene-on bodies first since =
    ap (scene_after bodies) (taken-on (length (history first)) first since (omega arith) ∙ take_all (length (history first)) (history first) (omega arith))

-- ---- the ids ascend

pub ids-increase : (finder : Finder) → IsStrictlyIncreasing (map (λ i. i.index) (ids_of finder))
ids-increase finder k below =
    let ids : List Id = ids_of finder in
    let none : Id = record { index = 0; seq = 0 } in
    let inside : k + 1 < length ids = subst (λ (n : ℕ). k + 1 < n) (length-map ids (λ (i : Id). i.index)) below in
    let one = get_or-map (λ (i : Id). i.index) ids k none 0 (omega arith) in
    let two = get_or-map (λ (i : Id). i.index) ids (k + 1) none 0 inside in
    let less = ids-ascend finder k (k + 1) none (omega arith) inside in
    omega arith

-- ---- bodies that fit

module _ (shape : Shape) (mask : ℕ) (scene : Scene) (index generation : ℕ) (fits : Fits (Touch shape) mask scene index generation) where
  abbrev fitting : (r : Record) × (record_at scene index ≡ Some r) × ((r.generation ≡ generation) × IsHit (Touch shape) mask r)
  fitting = body_record (record_at scene index) (λ r. (r.generation ≡ generation) × IsHit (Touch shape) mask r) fits

  -- there is a hit
  fits-hit : IsSomeAnd (record_at scene index) (IsHit (Touch shape) mask)
  fits-hit = record_body (record_at scene index) (IsHit (Touch shape) mask) fitting.0 fitting.1 fitting.2.1

  -- and its sequence number is that of any hit there
  fits-seq : (seq : ℕ) → IsSomeAnd (record_at scene index) (λ r. (r.generation % 256 ≡ seq) × IsHit (Touch shape) mask r) → generation % 256 ≡ seq
  fits-seq seq has =
      let hit = body_record (record_at scene index) (λ r. (r.generation % 256 ≡ seq) × IsHit (Touch shape) mask r) has in
      let same : fitting.0 ≡ hit.0 = same_Some fitting.0 hit.0 (sym fitting.1 ∙ hit.1) in
      ap (λ (g : ℕ). g % 256) (sym fitting.2.0) ∙ (ap (λ (r : Record). r.generation % 256) same ∙ hit.2.0)

-- ---- the answer

module _ (shape : Shape) (mask : ℕ) (start mid next : View) (before after : Finder) (early : IsPrefix start.known mid.known) (late : IsPrefix mid.known next.known) (sizes : mid.config ≡ start.config)
    (due : HoldsDue shape mask start mid before) (checked : AreAllChecked shape mask mid next before after) where
  abbrev bodies : ℕ
  bodies = start.config.bodies

  -- a point of the check is one of the whole call
  module _ (since later : List Item) (parts : next.known ≡ (mid.known ++ since) ++ later) where
    abbrev at : ℕ
    at = length (history (mid.known ++ since))

    point-scene : scene_after bodies (take at (history next.known)) ≡ scene_at start.config (mid.known ++ since)
    point-scene = ap (λ (l : List Item). scene_after bodies (take at (history l))) parts ∙ scene-on bodies (mid.known ++ since) later

    point-above : length (history start.known) ≤ at
    point-above =
        let one = subst (λ (l : List Item). length (history start.known) ≤ length (history l)) (sym early.1) (longer start.known early.0) in
        let two = longer mid.known since in
        omega arith

    point-below : at ≤ length (history next.known)
    point-below = subst (λ (l : List Item). at ≤ length (history l)) (sym parts) (longer (mid.known ++ since) later)

  -- what is due up to the end was due up to the end of the walk
  due-before : (index generation : ℕ) → IsDue (Touch shape) mask bodies (points_between start next) index generation → IsDue (Touch shape) mask bodies (points_between start mid) index generation
  due-before index generation whole n above below =
      let same : take n (history next.known) ≡ take n (history mid.known) = ap (λ (l : List Item). take n (history l)) late.1 ∙ taken-on n mid.known late.0 below in
      let on = subst (λ (l : List Item). length (history mid.known) ≤ length (history l)) (sym late.1) (longer mid.known late.0) in
      subst (λ (l : List Made). Fits (Touch shape) mask (scene_after bodies l) index generation) same (whole n above (omega arith))

  -- and fits where it was checked
  due-fits : (index generation : ℕ) → IsDue (Touch shape) mask bodies (points_between start next) index generation
      → (since later : List Item) → next.known ≡ (mid.known ++ since) ++ later → Fits (Touch shape) mask (scene_at mid.config (mid.known ++ since)) index generation
  due-fits index generation whole since later parts =
      subst (λ (c : Config). Fits (Touch shape) mask (scene_at c (mid.known ++ since)) index generation) (sym sizes)
      (subst (λ (s : Scene). Fits (Touch shape) mask s index generation) (point-scene since later parts)
      (whole (length (history (mid.known ++ since))) (point-above since later parts) (point-below since later parts)))

  -- so it is answered
  complete : (index generation : ℕ) → IsDue (Touch shape) mask bodies (points_between start next) index generation → Contains (ids_of after) (id_of index generation)
  complete index generation whole =
      let was : has_index before index ≡ true = due index generation (due-before index generation whole) in
      let below : index < room_of before = before.below index was in
      elim (cases_Bool (has_index after index)) [
        | inl has ↦
            let point = checked.hits index below has in
            let fits = due-fits index generation whole point.since point.later point.parts in
            let seq = fits-seq shape mask (scene_at mid.config (mid.known ++ point.since)) index generation fits (seq_of after index) point.holds in
            found-in_ids after (id_of index generation) (subst (λ (n : ℕ). index < n) (sym checked.room) below) has (λ i. record { index = index; seq = seq i })
        | inr none ↦
            let point = checked.others index below was none in
            let fits = due-fits index generation whole point.since point.later point.parts in
            absurd (point.holds (fits-hit shape mask (scene_at mid.config (mid.known ++ point.since)) index generation fits))
      ]

  -- and what is answered was met
  met : (id : Id) → Contains (ids_of after) id → (generation : ℕ) × IsMet (Touch shape) mask bodies (points_between start next) id.index generation × (id ≡ id_of id.index generation)
  met id among =
      let found = ids-of_found after id among in
      let point = checked.hits id.index (subst (λ (n : ℕ). id.index < n) checked.room found.0) found.1 in
      let log : List Item = mid.known ++ point.since in
      let hit = body_record (record_at (scene_at mid.config log) id.index) (λ r. (r.generation % 256 ≡ seq_of after id.index) × IsHit (Touch shape) mask r) point.holds in
      let g : ℕ = hit.0.generation in
      let fits : Fits (Touch shape) mask (scene_at mid.config log) id.index g =
      record_body (record_at (scene_at mid.config log) id.index) (λ r. (r.generation ≡ g) × IsHit (Touch shape) mask r) hit.0 hit.1 (refl, hit.2.1)
      in
      let there : Fits (Touch shape) mask (scene_after bodies (take (length (history log)) (history next.known))) id.index g =
      subst (λ (s : Scene). Fits (Touch shape) mask s id.index g) (sym (point-scene point.since point.later point.parts))
      (subst (λ (c : Config). Fits (Touch shape) mask (scene_at c log) id.index g) sizes fits)
      in (
        g,
        (length (history log), point-above point.since point.later point.parts, point-below point.since point.later point.parts, there),
        found.2 ∙ (λ i. record { index = id.index; seq = sym hit.2.0 i }),
      )

  pub right-answer : IsRightAnswer (Touch shape) mask bodies (points_between start next) (ids_of after)
  right-answer = record {
    ascending = ids-increase after;
    complete = complete;
    sound = All-weaker (Contains (ids_of after)) (λ i. (generation : ℕ) × IsMet (Touch shape) mask bodies (points_between start next) i.index generation × (i ≡ id_of i.index generation)) met (ids_of after)
        (All-contains_itself (ids_of after));
  }
