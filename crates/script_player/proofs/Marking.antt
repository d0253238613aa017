-- Bodies that are marked one after another, and that are let go one after another.
use Rattle.std.proofs.Common.{◌≡◌, ℕ, ◌+◌, ◌<◌, ◌≤◌, List, [], ◌∷◌, ◌++◌, length, drop, get_or, fold, Option, Some, None, refl, ap, sym, subst, ◌∙◌, append_assoc, add-one, drop-cons, option_and_then, cond, eqb, inl, inr, IsSomeAnd}
use Rattle.std.proofs.lemmas.List.{append-nil, drop_all, map-append}
use Rattle.std.proofs.lemmas.List.Sums.{fold-append}
use Rattle.std.proofs.lemmas.Bool.{cases_Bool, eqb-true}
use Rattle.body_ident.specs.Id.{Id}
use Rattle.scene_model.specs.declared.body_view.BodyView.{BodyView}
use Rattle.scene_model.specs.declared.body_view.Phase.{Phase}
use Rattle.scene_model.specs.declared.body_view.Phase.TheVariants.{Out, Held, In}
use Rattle.scene_model.specs.declared.entry.Entry.{Entry}
use Rattle.scene_model.specs.declared.entry.Entry.TheVariants.{Mark, Unmark}
use Rattle.scene_model.specs.Scene.{Scene, Record}
use Rattle.scene_model.specs.Step.{HasBody, IsPossible, after_entry}
use Rattle.scene_model.specs.Query.{view_at}
use Rattle.scene_model.specs.Shown.{after_shown}
use Rattle.scene_model.proofs.Views.{HasBody-from_view}
use Rattle.reply_text.specs.declared.refusal.Refusal.{Refusal}
use Rattle.script_player.specs.declared.books.Known.{Known}
use Rattle.script_player.specs.Body.{body_of}
use Rattle.script_player.specs.Taking.{Marking, marking_on, marking, mark_refusal, view_refusal, phase_refusal, marks, unmarks}
use Rattle.script_player.specs.UnderWay.{ArePossible}
use Rattle.script_player.specs.Shown.{Marks}

-- ---- letting go

-- the first bodies, so many, were let go, and the others can be
pub record HasUnmarked (old now : Scene) (indexes : List ℕ) (i : ℕ) : Type 0 where
  pub possible : ArePossible now (unmarks (drop i indexes))
  pub after : fold after_shown old (unmarks indexes) ≡ fold after_shown now (unmarks (drop i indexes))

pub unmarked_none : (scene : Scene) (indexes : List ℕ) → ArePossible scene (unmarks indexes) → HasUnmarked scene scene indexes 0
unmarked_none scene indexes possible = record { possible = possible; after = refl }

next_index_of : (indexes : List ℕ) (i d : ℕ) → i < length indexes → drop i indexes ≡ get_or indexes i d ∷ drop (i + 1) indexes
next_index_of indexes i d below = rw add-one (drop-cons indexes i d below)

pub can_unmark : (old now : Scene) (indexes : List ℕ) (i d : ℕ) → HasUnmarked old now indexes i → i < length indexes → IsPossible now (Unmark (get_or indexes i d))
can_unmark old now indexes i d h below =
    let P : List ℕ → Type 0 = λ rest. ArePossible now (unmarks rest) in
    (subst P (next_index_of indexes i d below) h.possible).0

pub unmarked_more : (old now later : Scene) (indexes : List ℕ) (i d : ℕ) → HasUnmarked old now indexes i → i < length indexes
    → later ≡ after_shown now (Unmark (get_or indexes i d)) → HasUnmarked old later indexes (i + 1)
unmarked_more old now later indexes i d h below e =
    let P : List ℕ → Type 0 = λ rest. ArePossible now (unmarks rest) in
    let Q : Scene → Type 0 = λ s. ArePossible s (unmarks (drop (i + 1) indexes)) in
    let next = next_index_of indexes i d below in
    record {
      possible = subst Q (sym e) (subst P next h.possible).1;
      after = h.after ∙ ap (λ (rest : List ℕ). fold after_shown now (unmarks rest)) next ∙ ap (λ (s : Scene). fold after_shown s (unmarks (drop (i + 1) indexes))) (sym e);
    }

pub unmarked_all : (old now : Scene) (indexes : List ℕ) (i : ℕ) → HasUnmarked old now indexes i → length indexes ≤ i → now ≡ fold after_shown old (unmarks indexes)
unmarked_all old now indexes i h end = sym (h.after ∙ ap (λ (rest : List ℕ). fold after_shown now (unmarks rest)) (drop_all i indexes end))

-- ---- marking

abbrev pub IsReady : ℕ → Record → Type 0
IsReady layer r = (r.phase ≡ Out) × (r.layer ≡ layer)

out_in_layer : (p : Phase) (own asked : ℕ) → phase_refusal p own asked ≡ None → (p ≡ Out) × (own ≡ asked)
out_in_layer Held own asked h = absurd cc
out_in_layer In own asked h = absurd cc
out_in_layer Out own asked h =
    elim (cases_Bool (eqb own asked)) [
      | inl same ↦ (refl, eqb-true own asked same)
      | inr other ↦ absurd (let e = rw other at h in cc)
    ]

in_view : (o : Option BodyView) (seq : ℕ) (v : BodyView) → option_and_then (λ w. cond (eqb w.id.seq seq) (Some w) None) o ≡ Some v → o ≡ Some v
in_view None seq v e = absurd cc
in_view (Some w) seq v e =
    elim (cases_Bool (eqb w.id.seq seq)) [
      | inl same ↦ (rw same at e)
      | inr other ↦ absurd (let h = rw other at e in cc)
    ]

-- the body that an id names is the body at its index
pub seen_body : (scene : Scene) (i : Id) (v : BodyView) → body_of scene i ≡ Some v → view_at scene i.index ≡ Some v
seen_body scene i v e = in_view (view_at scene i.index) i.seq v e

ready_view : (scene : Scene) (i : Id) (layer : ℕ) (o : Option BodyView) → body_of scene i ≡ o → view_refusal layer o ≡ None → HasBody scene i.index (IsReady layer)
ready_view scene i layer None e h = absurd cc
ready_view scene i layer (Some v) e h =
    let ready = out_in_layer v.phase v.layer layer h in
    HasBody-from_view scene i.index v (IsReady layer) (seen_body scene i v e)
    (λ r same. (ap (λ (w : BodyView). w.phase) same ∙ ready.0, ap (λ (w : BodyView). w.layer) same ∙ ready.1))

-- a body that a batch can take is out, and in the batch's layer
pub is_ready : (scene : Scene) (layer : ℕ) (i : Id) → mark_refusal scene layer i ≡ None → HasBody scene i.index (IsReady layer)
is_ready scene layer i h = ready_view scene i layer (body_of scene i) refl h

-- what follows from a fact of a body
pub weaker : (o : Option Record) (P Q : Record → Type 0) → ((r : Record) → P r → Q r) → IsSomeAnd o P → IsSomeAnd o Q
weaker None P Q to h = h
weaker (Some r) P Q to h = to r h

pub can_mark : (scene : Scene) (layer : ℕ) (i : Id) → mark_refusal scene layer i ≡ None → IsPossible scene (Mark i.index)
can_mark scene layer i h = weaker _ (IsReady layer) (λ r. r.phase ≡ Out) (λ r ready. ready.0) (is_ready scene layer i h)

abbrev prefixed : List ℕ → Marking → Marking
prefixed indexes m = record m { indexes = indexes ++ m.indexes }

-- the first bodies, so many, were marked
pub record HasMarked (layer : ℕ) (old now : Scene) (bodies : List Known) (indexes : List ℕ) (i : ℕ) : Type 0 where
  pub rest : marking old layer bodies ≡ prefixed indexes (marking now layer (drop i bodies))
  pub after : now ≡ fold after_shown old (marks indexes)

pub marked_none : (layer : ℕ) (scene : Scene) (bodies : List Known) → HasMarked layer scene scene bodies [] 0
marked_none layer scene bodies = record { rest = refl; after = refl }

next_body : (bodies : List Known) (i : ℕ) (d : Known) → i < length bodies → drop i bodies ≡ get_or bodies i d ∷ drop (i + 1) bodies
next_body bodies i d below = rw add-one (drop-cons bodies i d below)

pub marked_more : (layer : ℕ) (old now later : Scene) (bodies : List Known) (indexes : List ℕ) (i index : ℕ) (d : Known)
    → HasMarked layer old now bodies indexes i → i < length bodies → index ≡ (get_or bodies i d).id.index
    → mark_refusal now layer (get_or bodies i d).id ≡ None → later ≡ after_shown now (Mark index)
    → HasMarked layer old later bodies (indexes ++ index ∷ []) (i + 1)
marked_more layer old now later bodies indexes i index d h below at free e =
    let known = get_or bodies i d in
    let left = drop (i + 1) bodies in
    let marked : Scene = after_entry now (Mark known.id.index) in
    let same : marked ≡ later = ap (λ (k : ℕ). after_entry now (Mark k)) (sym at) ∙ sym e in
    record {
      rest =
          h.rest
          ∙ ap (λ (bs : List Known). prefixed indexes (marking now layer bs)) (next_body bodies i d below)
          ∙ ap (λ (o : Option Refusal). prefixed indexes (marking_on known.id.index o (marking marked layer left))) free
          ∙ ap (λ (k : ℕ). prefixed indexes (marking_on k None (marking marked layer left))) (sym at)
          ∙ ap (λ (s : Scene). prefixed indexes (marking_on index None (marking s layer left))) same
          ∙ ap (λ (xs : List ℕ). record (marking later layer left) { indexes = xs }) (sym (append_assoc indexes (index ∷ []) (marking later layer left).indexes));
      after =
          e
          ∙ ap (λ (s : Scene). after_shown s (Mark index)) h.after
          ∙ sym (ap (λ (es : List Entry). fold after_shown old es) (map-append (λ (k : ℕ). Mark k) indexes (index ∷ [])) ∙ fold-append after_shown old (marks indexes) (marks (index ∷ [])));
    }

ends : (m : Marking) (old now : Scene) (indexes : List ℕ) (refusal : Option Refusal) → m ≡ prefixed indexes (record { indexes = []; refusal = refusal })
    → now ≡ fold after_shown old (marks indexes) → Marks m old now indexes refusal
ends m old now indexes refusal e after =
    let all : m.indexes ≡ indexes = ap (λ (n : Marking). n.indexes) e ∙ append-nil indexes in
    record {
      indexes_are = sym all;
      refusal_is = sym (ap (λ (n : Marking). n.refusal) e);
      after = after ∙ ap (λ (xs : List ℕ). fold after_shown old (marks xs)) (sym all);
    }

pub marked_stop : (layer : ℕ) (old now : Scene) (bodies : List Known) (indexes : List ℕ) (i : ℕ) (d : Known) (refusal : Refusal)
    → HasMarked layer old now bodies indexes i → i < length bodies → mark_refusal now layer (get_or bodies i d).id ≡ Some refusal
    → Marks (marking old layer bodies) old now indexes (Some refusal)
marked_stop layer old now bodies indexes i d refusal h below why =
    let known = get_or bodies i d in
    ends (marking old layer bodies) old now indexes (Some refusal)
    (h.rest
    ∙ ap (λ (bs : List Known). prefixed indexes (marking now layer bs)) (next_body bodies i d below)
    ∙ ap (λ (o : Option Refusal). prefixed indexes (marking_on known.id.index o (marking (after_entry now (Mark known.id.index)) layer (drop (i + 1) bodies)))) why)
    h.after

pub marked_all : (layer : ℕ) (old now : Scene) (bodies : List Known) (indexes : List ℕ) (i : ℕ) → HasMarked layer old now bodies indexes i → length bodies ≤ i
    → Marks (marking old layer bodies) old now indexes None
marked_all layer old now bodies indexes i h end =
    ends (marking old layer bodies) old now indexes None
    (h.rest ∙ ap (λ (bs : List Known). prefixed indexes (marking now layer bs)) (drop_all i bodies end))
    h.after
