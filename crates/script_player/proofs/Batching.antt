-- What taking bodies for a batch leads to.
use Rattle.std.proofs.Common.{◌≡◌, ℕ, ◌-◌, ◌<◌, ◌≤◌, Bool, true, false, cond, eqb, leb, ltb, List, [], ◌∷◌, length, fold, Option, Some, None, Ok, refl, ap, sym, subst, ◌∙◌, arith}
use Rattle.std.proofs.lemmas.Bool.Decides.{nat_tests}
use Rattle.scene_model.specs.Need.{need}
use Rattle.scene_model.specs.declared.entry.Entry.TheVariants.{Join}
use Rattle.scene_model.specs.declared.body_view.Phase.TheVariants.{Held}
use Rattle.scene_model.specs.Scene.{Scene}
use Rattle.scene_model.specs.Step.{IsPossible, with_phase}
use Rattle.scene_model.specs.Shown.{after_shown}
use Rattle.reply_text.specs.declared.refusal.Refusal.{Refusal}
use Rattle.reply_text.specs.declared.refusal.Refusal.TheVariants.{Empty, NoSlot, NoNodes}
use Rattle.script_player.specs.declared.books.Known.{Known}
use Rattle.script_player.specs.declared.taking.Taken.{Taken}
use Rattle.script_player.specs.Books.{slots_kept, nodes_kept}
use Rattle.script_player.specs.Table.{Table}
use Rattle.script_player.specs.Taking.{room_refusal, Marking, marking_on, marking, mark_refusal, marks, unmarks, Taking, marked, taking_in, taking}
use Rattle.script_player.specs.UnderWay.{ArePossible}
use Rattle.script_player.specs.Shown.{Marks, Takes}
use Rattle.script_player.proofs.Follows.{fold_marks}
use Rattle.script_player.proofs.Holding.{CanMarkAll, marking_can, marks_can_join, marks_can_let_go}

-- those that were marked can be let go
pub marked_can_let_go : (scene now : Scene) (layer : ℕ) (bodies : List Known) (indexes given : List ℕ) (refusal : Option Refusal)
    → Marks (marking scene layer bodies) scene now indexes refusal → given ≡ indexes → ArePossible now (unmarks given)
marked_can_let_go scene now layer bodies indexes given refusal m e =
    let P : Scene → Type 0 = λ s. ArePossible s (unmarks (marking scene layer bodies).indexes) in
    let Q : List ℕ → Type 0 = λ xs. ArePossible now (unmarks xs) in
    subst Q (sym m.indexes_are ∙ sym e) (subst P (sym m.after) (marks_can_let_go (marking scene layer bodies).indexes scene layer (marking_can scene layer bodies)))

-- ---- a taking that is not refused

-- there is room, and all bodies were marked
pub record IsWhole (room : Option Refusal) (m : Marking) (t : Taking) : Type 0 where
  pub room_is : room ≡ None
  pub all : m.refusal ≡ None
  pub is : t ≡ record { entries = marks m.indexes; refusal = None; indexes = m.indexes }

whole_marked : (indexes : List ℕ) (o : Option Refusal) → (marked indexes o).refusal ≡ None → (o ≡ None) × (marked indexes o ≡ record { entries = marks indexes; refusal = None; indexes = indexes })
whole_marked indexes None e = (refl, refl)
whole_marked indexes (Some refusal) e = absurd cc

whole_in : (room : Option Refusal) (m : Marking) → (taking_in room m).refusal ≡ None → IsWhole room m (taking_in room m)
whole_in None m e = let w = whole_marked m.indexes m.refusal e in record { room_is = refl; all = w.0; is = w.1 }
whole_in (Some refusal) m e = absurd cc

pub whole : (table : Table) (layer : ℕ) (bodies : List Known) → (taking table layer bodies).refusal ≡ None
    → IsWhole (room_refusal table layer (length bodies)) (marking table.scene layer bodies) (taking table layer bodies)
whole table layer bodies e = whole_in (room_refusal table layer (length bodies)) (marking table.scene layer bodies) e

room_tests : (none slots nodes : Bool) → cond none (Some Empty) (cond slots (Some NoSlot) (cond nodes (Some NoNodes) None)) ≡ None → (none ≡ false) × (nodes ≡ false)
room_tests true slots nodes e = absurd cc
room_tests false true nodes e = absurd cc
room_tests false false true e = absurd cc
room_tests false false false e = (refl, refl)

-- where there is room there are bodies, and nodes for them
pub room_for : (table : Table) (layer count : ℕ) → room_refusal table layer count ≡ None → (0 < count) × (need count ≤ table.world.nodes - nodes_kept table.books)
room_for table layer count e =
    let tests = room_tests (eqb count 0) (leb table.world.slots (slots_kept table.books layer)) (ltb (table.world.nodes - nodes_kept table.books) (need count)) e in
    let some : eqb count 0 ≡ false = tests.0 in
    let enough : ltb (table.world.nodes - nodes_kept table.books) (need count) ≡ false = tests.1 in
    (grind (arith, nat_tests), grind (arith, nat_tests))

some_on : (index : ℕ) (o : Option Refusal) (later : Marking) → (marking_on index o later).refusal ≡ None → 0 < length (marking_on index o later).indexes
some_on index None later e = omega arith
some_on index (Some refusal) later e = absurd cc

-- of some bodies that are all marked, some are
some_marked : (scene : Scene) (layer : ℕ) (bodies : List Known) → 0 < length bodies → (marking scene layer bodies).refusal ≡ None → 0 < length (marking scene layer bodies).indexes
some_marked scene layer [] some e = absurd (omega arith)
some_marked scene layer (known ∷ bodies) some e = some_on known.id.index (mark_refusal scene layer known.id) _ e

-- what is taken can be joined
pub record CanJoin (table : Table) (layer : ℕ) (t : Taking) : Type 0 where
  pub scene : fold after_shown table.scene t.entries ≡ fold (with_phase Held) table.scene t.indexes
  pub can : CanMarkAll table.scene layer t.indexes
  pub join : IsPossible (fold after_shown table.scene t.entries) (Join layer t.indexes)

pub taking_can_join : (table : Table) (layer : ℕ) (bodies : List Known) → (taking table layer bodies).refusal ≡ None → CanJoin table layer (taking table layer bodies)
taking_can_join table layer bodies e =
    let w = whole table layer bodies e in
    let m = marking table.scene layer bodies in
    let some = some_marked table.scene layer bodies (room_for table layer (length bodies) w.room_is).0 w.all in
    let can = marking_can table.scene layer bodies in
    subst (CanJoin table layer) (sym w.is) (record {
      scene = fold_marks m.indexes table.scene;
      can = can;
      join = subst (λ (s : Scene). IsPossible s (Join layer m.indexes)) (sym (fold_marks m.indexes table.scene)) (marks_can_join m.indexes table.scene layer some can);
    })

-- what a call took can be joined
pub taken_can_join : (table new : Table) (layer nodes : ℕ) (bodies : List Known) (taken : Taken)
    → Takes (taking table layer bodies) nodes table new (Ok taken) → IsPossible new.scene (Join layer taken.indexes)
taken_can_join table new layer nodes bodies taken h =
    let can = taking_can_join table layer bodies h.result_is.0 in
    let P : Scene → Type 0 = λ s. IsPossible s (Join layer (taking table layer bodies).indexes) in
    let Q : List ℕ → Type 0 = λ xs. IsPossible new.scene (Join layer xs) in
    subst Q (sym h.result_is.1) (subst P (sym (ap (λ (t : Table). t.scene) h.after)) can.join)
