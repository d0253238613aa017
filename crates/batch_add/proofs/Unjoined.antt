-- A body that is unmarked was held since it was marked, so it did not come into the broad phase between.
use Rattle.std.proofs.Common.{◌≡◌, inl, inr, ℕ, List, [], ◌∷◌, ◌++◌, drop, All, refl, ap, sym, ◌∙◌, subst, append_assoc}
use Rattle.std.proofs.lemmas.List.{append-nil, append_cancel_left}
use Rattle.std.proofs.lemmas.List.Elements.{All-head, All-tail, All-nil, All-cons, All-append}
use Rattle.scene_model.specs.declared.entry.Entry.{Entry}
use Rattle.scene_model.specs.declared.entry.Entry.TheVariants.{Mark, Unmark}
use Rattle.scene_model.specs.declared.entry.Made.{Made}
use Rattle.scene_model.specs.Scene.{Scene, empty_scene}
use Rattle.scene_model.specs.Step.{after_entry}
use Rattle.scene_model.specs.History.{scene_from, IsLawfulFrom, IsLawfulHistory}
use Rattle.scene_model.specs.Consistent.{IsConsistent}
use Rattle.scene_model.proofs.Histories.{IsConsistent-empty, IsConsistent-after_entry, IsConsistent-scene_from, lawful_parts}
use mathlib.Core.Logic.{∥∥₁_elim}
use Rattle.std.proofs.Props.{props}
use Rattle.core_state.specs.declared.view.View.{View}
use Rattle.core_state.specs.Log.{history}
use Rattle.core_state.proofs.Quiet.{append_cut, in_first, in_second}
use Rattle.pass_table.specs.Bodies.{IsCurrent}
use Rattle.pass_table.specs.OwnMarks.{MarksBody, JoinsBody, IsMarkedBy}
use Rattle.pass_table.proofs.Keeping.{All-second}
use Rattle.pass_table.proofs.HeldEntries.{IsHeldAt, held-before}
use Rattle.batch_add.specs.Unjoined.{NoneJoins, NoneMarks, IsUndone, IsUndoneBy, IsMarkedSince}

-- ---- entries

-- without a mark of it a body that is not held is not held later
unheld-stays : (layers i : ℕ) (scene : Scene) (made : List Made) → IsConsistent layers scene → IsLawfulFrom layers scene made → All (λ m. ¬ MarksBody i m.entry) made → ¬ IsHeldAt scene i
    → ¬ IsHeldAt (scene_from scene made) i
unheld-stays layers i scene [] consistent lawful unmarked unheld held = unheld held
unheld-stays layers i scene (m ∷ made) consistent lawful unmarked unheld held =
    unheld-stays layers i (after_entry scene m.entry) made (IsConsistent-after_entry layers scene m.entry lawful.0 consistent) lawful.1 (All-tail (λ (n : Made). ¬ MarksBody i n.entry) m made unmarked)
    (λ now.
    elim (held-before layers scene i m.entry consistent lawful.0 now) [
      | inl marks ↦ All-head (λ (n : Made). ¬ MarksBody i n.entry) m made unmarked marks
      | inr was ↦ unheld was.0
    ]) held

-- so up to an unmark of it, a body that is not marked does not join
none-joins : (layers i pass : ℕ) (scene : Scene) (made later : List Made) → IsConsistent layers scene → IsLawfulFrom layers scene (made ++ (record { pass = pass; entry = Unmark i }) ∷ later)
    → All (λ m. ¬ MarksBody i m.entry) made → NoneJoins i made
none-joins layers i pass scene [] later consistent lawful unmarked = All-nil (λ (m : Made). ¬ JoinsBody i m.entry)
none-joins layers i pass scene (m ∷ made) later consistent lawful unmarked =
    let next = after_entry scene m.entry in
    let so : IsConsistent layers next = IsConsistent-after_entry layers scene m.entry lawful.0 consistent in
    let rest = All-tail (λ (n : Made). ¬ MarksBody i n.entry) m made unmarked in
    let parts = lawful_parts layers next made ((record { pass = pass; entry = Unmark i }) ∷ later) lawful.1 in
    All-cons (λ (n : Made). ¬ JoinsBody i n.entry) m made
    (λ joins.
    unheld-stays layers i next made so parts.0 rest
    (λ now.
    elim (held-before layers scene i m.entry consistent lawful.0 now) [
      | inl marks ↦ All-head (λ (n : Made). ¬ MarksBody i n.entry) m made unmarked marks
      | inr was ↦ was.1 joins
    ]) parts.1.0.0)
    (none-joins layers i pass next made later so lawful.1 rest)

pub undone-unjoined : (layers bodies : ℕ) (past : List Made) (i : ℕ) (between : List Made) → IsLawfulHistory layers bodies past → IsUndone past i between → NoneJoins i between
undone-unjoined layers bodies past i between lawful undone =
    let mark : Made = record { pass = undone.marker; entry = Mark i } in
    let rest = between ++ (record { pass = undone.unmarker; entry = Unmark i }) ∷ undone.later in
    let parts = lawful_parts layers (empty_scene bodies) undone.first (mark ∷ rest) (subst (IsLawfulFrom layers (empty_scene bodies)) undone.parts lawful) in
    let scene = scene_from (empty_scene bodies) undone.first in
    let consistent : IsConsistent layers scene = IsConsistent-scene_from layers undone.first (empty_scene bodies) parts.0 (IsConsistent-empty layers bodies) in
    none-joins layers i undone.unmarker (after_entry scene (Mark i)) between undone.later (IsConsistent-after_entry layers scene (Mark i) parts.1.0 consistent) parts.1.1 undone.once

-- ---- the mark

-- a body that is held was marked, and did not join since
pub held-marked : (layers i : ℕ) (scene : Scene) (past made : List Made) → IsConsistent layers scene → IsLawfulFrom layers scene made → (IsHeldAt scene i → IsMarkedSince past i)
    → IsHeldAt (scene_from scene made) i → IsMarkedSince (past ++ made) i
held-marked layers i scene past [] consistent lawful marked held = subst (λ (l : List Made). IsMarkedSince l i) (sym (append-nil past)) (marked held)
held-marked layers i scene past (m ∷ made) consistent lawful marked held =
    subst (λ (l : List Made). IsMarkedSince l i) (append_assoc past (m ∷ []) made)
    (held-marked layers i (after_entry scene m.entry) (past ++ m ∷ []) made (IsConsistent-after_entry layers scene m.entry lawful.0 consistent) lawful.1
    (λ now.
    elim (held-before layers scene i m.entry consistent lawful.0 now) [
      | inl marks ↦ marked-now past m marks
      | inr was ↦ marked-then past m (marked was.0) was.1
    ]) held)
  where
    marks-is : (entry : Entry) → MarksBody i entry → entry ≡ Mark i
    marks-is (Mark j) marks = ap Mark (sym marks)
    marks-is _ marks = absurd marks

    marked-now : (past : List Made) (m : Made) → MarksBody i m.entry → IsMarkedSince (past ++ m ∷ []) i
    marked-now past m marks = record {
      first = past;
      marker = m.pass;
      since = [];
      parts = λ k. past ++ (record { pass = m.pass; entry = marks-is m.entry marks k }) ∷ [];
      unjoined = All-nil (λ (n : Made). ¬ JoinsBody i n.entry);
    }

    marked-then : (past : List Made) (m : Made) → IsMarkedSince past i → ¬ JoinsBody i m.entry → IsMarkedSince (past ++ m ∷ []) i
    marked-then past m was none = record {
      first = was.first;
      marker = was.marker;
      since = was.since ++ m ∷ [];
      parts =
          ap (λ (l : List Made). l ++ m ∷ []) was.parts
          ∙ append_assoc was.first ((record { pass = was.marker; entry = Mark i }) ∷ was.since) (m ∷ []);
      unjoined =
          All-append (λ (n : Made). ¬ JoinsBody i n.entry) was.since (m ∷ []) was.unjoined
          (All-cons (λ (n : Made). ¬ JoinsBody i n.entry) m [] none (All-nil (λ (n : Made). ¬ JoinsBody i n.entry)));
    }

pub unmarked-marked : (layers bodies : ℕ) (past later : List Made) (i pass : ℕ) → IsLawfulHistory layers bodies (past ++ (record { pass = pass; entry = Unmark i }) ∷ later) → IsMarkedSince past i
unmarked-marked layers bodies past later i pass lawful =
    let parts = lawful_parts layers (empty_scene bodies) past ((record { pass = pass; entry = Unmark i }) ∷ later) lawful in
    held-marked layers i (empty_scene bodies) [] past (IsConsistent-empty layers bodies) parts.0 (λ h. absurd h) parts.1.0.0

-- ---- by one pass

-- a mark since which the pass made no other one is its last mark, and so the last mark of all
undone-last : (number i : ℕ) (first between : List Made) → IsMarkedBy number (first ++ (record { pass = number; entry = Mark i }) ∷ between) i → All (λ m. m.pass ≡ number → ¬ MarksBody i m.entry) between
    → NoneJoins i between × NoneMarks i between
undone-last number i first between by once =
    let mark : Made = record { pass = number; entry = Mark i } in
    elim (append_cut first (mark ∷ between) by.first by.since mark by.parts) [
      | in_first rest p ↦
          let whole : by.first ++ mark ∷ (rest ++ mark ∷ between) ≡ by.first ++ mark ∷ by.since =
          sym (append_assoc by.first (mark ∷ rest) (mark ∷ between)) ∙ (ap (λ (l : List Made). l ++ mark ∷ between) (sym p) ∙ by.parts)
          in
          let since : rest ++ mark ∷ between ≡ by.since = ap (drop 1) (append_cancel_left by.first (mark ∷ (rest ++ mark ∷ between)) (mark ∷ by.since) whole) in
          let marks = subst (All (λ (m : Made). ¬ MarksBody i m.entry)) (sym since) by.unmarked in
          absurd (All-head (λ (m : Made). ¬ MarksBody i m.entry) mark between (All-second (λ (m : Made). ¬ MarksBody i m.entry) rest (mark ∷ between) marks) refl)
      | in_second front p q ↦ from_front front q
    ]
  where
    from_front : (front : List Made) → (record { pass = number; entry = Mark i }) ∷ between ≡ front ++ (record { pass = number; entry = Mark i }) ∷ by.since → NoneJoins i between × NoneMarks i between
    from_front [] q =
        let same : by.since ≡ between = sym (ap (drop 1) q) in
        (subst (NoneJoins i) same by.unjoined, subst (NoneMarks i) same by.unmarked)
    from_front (f ∷ front) q =
        let tail : between ≡ front ++ (record { pass = number; entry = Mark i }) ∷ by.since = ap (drop 1) q in
        let own = subst (All (λ (m : Made). m.pass ≡ number → ¬ MarksBody i m.entry)) tail once in
        absurd
        (All-head (λ (m : Made). m.pass ≡ number → ¬ MarksBody i m.entry) (record { pass = number; entry = Mark i }) by.since
        (All-second (λ (m : Made). m.pass ≡ number → ¬ MarksBody i m.entry) front ((record { pass = number; entry = Mark i }) ∷ by.since) own) refl refl)

-- who unmarks a body marked it last
pub unmarked-by : (view : View) (past later : List Made) (i number : ℕ) → IsCurrent view → history view.known ≡ past ++ (record { pass = number; entry = Unmark i }) ∷ later → IsMarkedBy number past i
unmarked-by view past later i number now parts = now.stands.marks.unmarked past later i number (ap history (sym now.whole) ∙ parts)

pub undone-by : (view : View) (i number : ℕ) (between : List Made) → IsCurrent view → IsUndoneBy number (history view.known) i between → NoneJoins i between × NoneMarks i between
undone-by view i number between now undone =
    let mark : Made = record { pass = number; entry = Mark i } in
    let unmark : Made = record { pass = number; entry = Unmark i } in
    let parts = undone.parts ∙ sym (append_assoc undone.first (mark ∷ between) (unmark ∷ undone.later)) in
    undone-last number i undone.first between (unmarked-by view (undone.first ++ mark ∷ between) undone.later i number now parts) undone.once

none-prop : (P : Made → Type 0) (made : List Made) → IsProp (All (λ m. ¬ P m) made)
none-prop P made = hlevel props

pub undone-known : (view : View) (i number : ℕ) (between : List Made) → ∥ IsCurrent view ∥₁ → IsUndoneBy number (history view.known) i between → NoneJoins i between × NoneMarks i between
undone-known view i number between current undone = (
  ∥∥₁_elim current (none-prop (λ m. JoinsBody i m.entry) between) (λ now. (undone-by view i number between now undone).0),
  ∥∥₁_elim current (none-prop (λ m. MarksBody i m.entry) between) (λ now. (undone-by view i number between now undone).1),
)
