-- Which entries bring bodies in, and the batches that are attached by them.
use Rattle.std.proofs.Common.{◌≡◌, ℕ, ◌+◌, false, cond, eqb, List, [], ◌∷◌, ◌++◌, length, Option, Some, None, refl, ap, ◌∙◌, sum_by, count_by, arith}
use Rattle.std.proofs.lemmas.List.Sums.{sum_by-append, sum_by-cons, sum_by_push}
use Rattle.scene_model.specs.declared.entry.Entry.{Entry}
use Rattle.scene_model.specs.declared.entry.Entry.TheVariants.{Mark, Unmark, Join}
use Rattle.scene_model.specs.Need.{need}
use Rattle.reply_text.specs.declared.refusal.Refusal.{Refusal}
use Rattle.script_player.specs.declared.books.Attached.{Attached}
use Rattle.script_player.specs.declared.bodies.Change.{Change}
use Rattle.script_player.specs.declared.bodies.Change.TheVariants as changes
use Rattle.script_player.specs.Books.{Books, with_attached}
use Rattle.script_player.specs.Body.{entry_of}
use Rattle.script_player.specs.Taking.{Marking, marks, unmarks, marked, taking_in}
use Rattle.script_player.specs.Prepared.{joins, nodes_joined}

-- ---- entries that bring no bodies in

pub record AreJoinless (made : List Entry) : Type 0 where
  pub slots : (layer : ℕ) → count_by (joins layer) made ≡ 0
  pub nodes : sum_by nodes_joined made ≡ 0

pub joinless_none : AreJoinless []
joinless_none = record { slots = λ layer. refl; nodes = refl }

pub joinless_cons : (entry : Entry) (later : List Entry) → ((layer : ℕ) → joins layer entry ≡ false) → nodes_joined entry ≡ 0 → AreJoinless later → AreJoinless (entry ∷ later)
joinless_cons entry later joinless light h = record {
  slots = λ layer. sum_by-cons (λ e. cond (joins layer e) 1 0) entry later ∙ rw (joinless layer) (omega (arith, h.slots layer));
  nodes = sum_by-cons nodes_joined entry later ∙ rw light (omega (arith, h.nodes));
}

joinless_append : (xs ys : List Entry) → AreJoinless xs → AreJoinless ys → AreJoinless (xs ++ ys)
joinless_append xs ys h k = record {
  slots = λ layer. sum_by-append (λ e. cond (joins layer e) 1 0) xs ys ∙ rw (h.slots layer, k.slots layer) refl;
  nodes = sum_by-append nodes_joined xs ys ∙ rw (h.nodes, k.nodes) refl;
}

joinless_marks : (indexes : List ℕ) → AreJoinless (marks indexes)
joinless_marks [] = joinless_none
joinless_marks (index ∷ rest) = joinless_cons (Mark index) (marks rest) (λ layer. refl) refl (joinless_marks rest)

pub joinless_unmarks : (indexes : List ℕ) → AreJoinless (unmarks indexes)
joinless_unmarks [] = joinless_none
joinless_unmarks (index ∷ rest) = joinless_cons (Unmark index) (unmarks rest) (λ layer. refl) refl (joinless_unmarks rest)

joinless_marked : (indexes : List ℕ) (o : Option Refusal) → AreJoinless (marked indexes o).entries
joinless_marked indexes None = joinless_marks indexes
joinless_marked indexes (Some refusal) = joinless_append (marks indexes) (unmarks indexes) (joinless_marks indexes) (joinless_unmarks indexes)

pub joinless_taking : (room : Option Refusal) (m : Marking) → AreJoinless (taking_in room m).entries
joinless_taking None m = joinless_marked m.indexes m.refusal
joinless_taking (Some refusal) m = joinless_none

pub joinless_change : (change : Change) (index : ℕ) → AreJoinless (entry_of change index ∷ [])
joinless_change changes.Destroy index = joinless_cons _ [] (λ layer. refl) refl joinless_none
joinless_change changes.Remove index = joinless_cons _ [] (λ layer. refl) refl joinless_none
joinless_change (changes.Move bounds) index = joinless_cons _ [] (λ layer. refl) refl joinless_none
joinless_change (changes.SetUser user) index = joinless_cons _ [] (λ layer. refl) refl joinless_none

-- ---- batches that came in

-- the batches that are attached then, by the entries
pub record Attaches (old new : Books) (made : List Entry) : Type 0 where
  pub slots : (layer : ℕ) → count_by (λ a. eqb a.layer layer) new.attached ≡ count_by (λ a. eqb a.layer layer) old.attached + count_by (joins layer) made
  pub nodes : sum_by (λ a. a.nodes) new.attached ≡ sum_by (λ a. a.nodes) old.attached + sum_by nodes_joined made

pub attaches_none : (old new : Books) (made : List Entry) → new.attached ≡ old.attached → AreJoinless made → Attaches old new made
attaches_none old new made same h = record {
  slots = λ layer. ap (λ (xs : List Attached). count_by (λ a. eqb a.layer layer) xs) same ∙ omega (arith, h.slots layer);
  nodes = ap (λ (xs : List Attached). sum_by (λ a. a.nodes) xs) same ∙ omega (arith, h.nodes);
}

pub attaches_more : (a b c : Books) (xs ys : List Entry) → Attaches a b xs → Attaches b c ys → Attaches a c (xs ++ ys)
attaches_more a b c xs ys h k = record {
  slots = λ layer. omega (arith, h.slots layer, k.slots layer, sum_by-append (λ e. cond (joins layer e) 1 0) xs ys);
  nodes = omega (arith, h.nodes, k.nodes, sum_by-append nodes_joined xs ys);
}

pub attaches_join : (old left : Books) (layer nodes : ℕ) (indexes : List ℕ) → left.attached ≡ old.attached → nodes ≡ need (length indexes)
    → Attaches old (with_attached left layer nodes) (Join layer indexes ∷ [])
attaches_join old left layer nodes indexes same size =
    let one : Attached = record { layer = layer; nodes = nodes } in
    record {
      slots = λ l.
          let here = ap (λ (xs : List Attached). count_by (λ a. eqb a.layer l) xs) same in
          let push = sum_by_push (λ (a : Attached). cond (eqb a.layer l) 1 0) left.attached one in
          let entry = sum_by-cons (λ e. cond (joins l e) 1 0) (Join layer indexes) [] in
          omega (arith, here, push, entry);
      nodes =
          let here = ap (λ (xs : List Attached). sum_by (λ a. a.nodes) xs) same in
          let push = sum_by_push (λ (a : Attached). a.nodes) left.attached one in
          let entry = sum_by-cons nodes_joined (Join layer indexes) [] in
          omega (arith, here, push, entry, size);
    }
