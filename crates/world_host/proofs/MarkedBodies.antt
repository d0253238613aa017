-- Bodies that are marked and let go: what of the scene stays meanwhile.
use Rattle.std.proofs.Common.{◌≡◌, ◌≢◌, ℕ, ◌%◌, ◌==◌, Bool, cond, List, [], ◌∷◌, ◌++◌, map, get_or, Option, Some, None, fold, Contains, IsSomeAnd, refl, ap, sym, ◌∙◌, subst, eq-eqb, ne_eqb, inl, inr}
use Rattle.std.specs.Prelude.{⊤, All, IfSome, option_map, option_and_then, if◌then◌else◌}
use Rattle.std.proofs.lemmas.Bool.{cases_eq}
use Rattle.std.proofs.lemmas.List.{get_or_default}
use Rattle.std.proofs.lemmas.List.Elements.{All-head, All-tail}
use Rattle.std.proofs.lemmas.Option.{same_Some}
use Rattle.body_ident.specs.Id.{Id}
use Rattle.scene_model.specs.declared.body_view.BodyView.{BodyView}
use Rattle.scene_model.specs.declared.body_view.Phase.{Phase}
use Rattle.scene_model.specs.declared.body_view.Phase.TheVariants.{Out, Held, In}
use Rattle.scene_model.specs.declared.entry.Entry.{Entry}
use Rattle.scene_model.specs.declared.entry.Entry.TheVariants.{Mark, Unmark}
use Rattle.scene_model.specs.Scene.{Scene, Place, Record, record_at}
use Rattle.scene_model.specs.Step.{HasBody, in_phase, with_phase, after_entry}
use Rattle.scene_model.specs.Query.{view_of}
use Rattle.scene_model.specs.Cause.{HasIdBody, IsCauseAt}
use Rattle.scene_model.proofs.Places.{place_at-with_body_other, place_at-with_change_same}
use Rattle.scene_model.proofs.Batches.{place_at-fold_phase}
use Rattle.batch_add.specs.declared.mark_op.MarkRefused.{MarkRefused}
use Rattle.batch_add.specs.declared.mark_op.MarkRefused.TheVariants as causes
use Rattle.batch_add.specs.Parts.{cause_of}
use Rattle.reply_text.specs.declared.refusal.Refusal.{Refusal}
use Rattle.reply_text.specs.declared.refusal.Refusal.TheVariants as refusals
use Rattle.script_player.specs.declared.books.Known.{Known}
use Rattle.script_player.specs.Taking.{Marking, marking_on, marking, mark_refusal, view_refusal, phase_refusal, marks, unmarks}
use Rattle.script_player.proofs.Marking.{IsReady}
use Rattle.script_player.proofs.Follows.{IsHeldIn}
use Rattle.script_player.proofs.Holding.{CanMarkAll, all_ready, all_held}
use Rattle.world_host.specs.Alone.{AreLawful}
use Rattle.world_host.specs.Batches.{refusal_to}
use Rattle.world_host.proofs.Records.{has-body, gone-body}

-- ---- one mark, or one taken back

at-other : (p : Phase) (s : Scene) (j i : ℕ) → i ≢ j → record_at (with_phase p s j) i ≡ record_at s i
at-other p s j i apart = ap (λ (q : Place). q.body) (place_at-with_body_other s j i _ apart)

at-same : (p : Phase) (s : Scene) (j : ℕ) → record_at (with_phase p s j) j ≡ option_map (in_phase p) (record_at s j)
at-same p s j = ap (λ (q : Place). q.body) (place_at-with_change_same (in_phase p) s j)

-- what holds of a body, whatever its phase, holds of it in another phase
by-cases : (P : Option Record → Type 0) (p : Phase) (s : Scene) (j i : ℕ) → ((o : Option Record) → P o → P (option_map (in_phase p) o)) → P (record_at s i) → P (record_at (with_phase p s j) i)
by-cases P p s j i keeps h = elim (cases_eq i j) [
  | inl same ↦
      subst (λ (k : ℕ). P (record_at s k) → P (record_at (with_phase p s j) k)) (sym same)
      (λ own. subst P (sym (at-same p s j)) (keeps (record_at s j) own)) h
  | inr apart ↦ subst P (sym (at-other p s j i apart)) h
]

-- ---- marks, and marks taken back

-- the entry marks a body at such an index, or takes a mark of it back
abbrev pub Touches : (ℕ → Type 0) → Entry → Type 0
Touches P (Mark j) = P j
Touches P (Unmark j) = P j
Touches P entry = ⊥

abbrev pub AllTouch : (ℕ → Type 0) → List Entry → Type 0
AllTouch P [] = ⊤
AllTouch P (entry ∷ later) = Touches P entry × AllTouch P later

pub touch-marks : (P : ℕ → Type 0) (js : List ℕ) (later : List Entry) → All P js → AllTouch P later → AllTouch P (marks js ++ later)
touch-marks P [] later h rest = rest
touch-marks P (j ∷ js) later h rest = (All-head P j js h, touch-marks P js later (All-tail P j js h) rest)

pub touch-unmarks : (P : ℕ → Type 0) (js : List ℕ) → All P js → AllTouch P (unmarks js)
touch-unmarks P [] h = tt
touch-unmarks P (j ∷ js) h = (All-head P j js h, touch-unmarks P js (All-tail P j js h))

pub touch-first : (P : ℕ → Type 0) (xs ys : List Entry) → AllTouch P (xs ++ ys) → AllTouch P xs
touch-first P [] ys h = tt
touch-first P (x ∷ xs) ys h = (h.0, touch-first P xs ys h.1)

-- what they keep of the body at an index
keep-all : (P : Option Record → Type 0) (i : ℕ) → ((o : Option Record) → P o → P (option_map (in_phase Held) o)) → ((o : Option Record) → P o → P (option_map (in_phase Out) o))
    → (es : List Entry) (s : Scene) → AllTouch (λ j. ⊤) es → P (record_at s i) → P (record_at (fold after_entry s es) i)
keep-all P i held out [] s h own = own
keep-all P i held out (Mark j ∷ es) s h own = keep-all P i held out es (with_phase Held s j) h.1 (by-cases P Held s j i held own)
keep-all P i held out (Unmark j ∷ es) s h own = keep-all P i held out es (with_phase Out s j) h.1 (by-cases P Out s j i out own)
keep-all P i held out (entry ∷ es) s h own = absurd h.0

-- a body that none of them touches
untouched : (i : ℕ) (es : List Entry) (s : Scene) → AllTouch (λ j. j ≢ i) es → record_at (fold after_entry s es) i ≡ record_at s i
untouched i [] s h = refl
untouched i (Mark j ∷ es) s h = untouched i es (with_phase Held s j) h.1 ∙ at-other Held s j i (λ e. h.0 (sym e))
untouched i (Unmark j ∷ es) s h = untouched i es (with_phase Out s j) h.1 ∙ at-other Out s j i (λ e. h.0 (sym e))
untouched i (entry ∷ es) s h = absurd h.0

-- ---- what does not change: which body it is, and its layer

abbrev pub tags : Option Record → Option (ℕ × ℕ)
tags o = option_map (λ r. (r.generation, r.layer)) o

phase-tags : (p : Phase) (t : Option (ℕ × ℕ)) (o : Option Record) → tags o ≡ t → tags (option_map (in_phase p) o) ≡ t
phase-tags p t None e = e
phase-tags p t (Some r) e = e

pub tags-keep : (i : ℕ) (es : List Entry) (s : Scene) → AllTouch (λ j. ⊤) es → tags (record_at (fold after_entry s es) i) ≡ tags (record_at s i)
tags-keep i es s h = keep-all (λ o. tags o ≡ tags (record_at s i)) i (phase-tags Held (tags (record_at s i))) (phase-tags Out (tags (record_at s i))) es s h refl

tags-step : (p : Phase) (s : Scene) (j i : ℕ) → tags (record_at (with_phase p s j) i) ≡ tags (record_at s i)
tags-step p s j i = by-cases (λ o. tags o ≡ tags (record_at s i)) p s j i (phase-tags p (tags (record_at s i))) refl

-- and a body that is not in the broad phase does not come into it
abbrev IsNotIn : Option Record → Type 0
IsNotIn o = IfSome o (λ r. r.phase ≢ In)

held-not-in : (o : Option Record) → IsNotIn o → IsNotIn (option_map (in_phase Held) o)
held-not-in None h = h
held-not-in (Some r) h = λ e. absurd cc

out-not-in : (o : Option Record) → IsNotIn o → IsNotIn (option_map (in_phase Out) o)
out-not-in None h = h
out-not-in (Some r) h = λ e. absurd cc

-- ---- bodies that a batch can take

abbrev IsFree : ℕ → Record → Type 0
IsFree layer r = (r.phase ≡ Out) × (r.layer ≡ layer)

-- the body that the id names is of this layer, whatever its phase
abbrev TagOf : ℕ → ℕ → ℕ × ℕ → Type 0
TagOf layer seq t = (t.0 % 256 ≡ seq) × (t.1 ≡ layer)

abbrev pub HasTag : Scene → ℕ → Id → Type 0
HasTag s layer id = IsSomeAnd (tags (record_at s id.index)) (TagOf layer id.seq)

free-tag : (layer seq : ℕ) (o : Option Record) → IsSomeAnd o (λ r. (r.generation % 256 ≡ seq) × IsFree layer r) → IsSomeAnd (tags o) (TagOf layer seq)
free-tag layer seq None h = h
free-tag layer seq (Some r) h = (h.0, h.1.1)

-- so it was where the body was free after marks
pub tag-before : (s : Scene) (layer : ℕ) (id : Id) (es : List Entry) → AllTouch (λ j. ⊤) es → HasIdBody (fold after_entry s es) id (IsFree layer) → HasTag s layer id
tag-before s layer id es touch h =
    subst (λ (t : Option (ℕ × ℕ)). IsSomeAnd t (TagOf layer id.seq)) (tags-keep id.index es s touch) (free-tag layer id.seq (record_at (fold after_entry s es) id.index) h)

-- bodies are free one after another
abbrev pub CanTake : Scene → ℕ → List Known → Type 0
CanTake s layer [] = ⊤
CanTake s layer (k ∷ ks) = HasIdBody s k.id (IsFree layer) × CanTake (with_phase Held s k.id.index) layer ks

abbrev pub indexes_of : List Known → List ℕ
indexes_of ks = map (λ k. k.id.index) ks

tag-free : (layer seq : ℕ) (o : Option Record) → IsSomeAnd o (λ r. r.phase ≡ Out) → IsSomeAnd (tags o) (TagOf layer seq) → IsSomeAnd o (λ r. (r.generation % 256 ≡ seq) × IsFree layer r)
tag-free layer seq None out tag = out
tag-free layer seq (Some r) out tag = (tag.0, (out, tag.1))

pub can-take : (layers layer : ℕ) (ks : List Known) (s : Scene) (more : List Entry) → AreLawful layers s (marks (indexes_of ks) ++ more) → All (λ k. HasTag s layer k.id) ks → CanTake s layer ks
can-take layers layer [] s more lawful tagged = tt
can-take layers layer (k ∷ ks) s more lawful tagged =
    let P : Known → Type 0 = λ k. HasTag s layer k.id in
    let j = k.id.index in (
      tag-free layer k.id.seq (record_at s j) lawful.0.0 (All-head P k ks tagged),
      can-take layers layer ks (with_phase Held s j) more lawful.1
          (λ n d below.
          let other = get_or ks n d in
          subst (λ (t : Option (ℕ × ℕ)). IsSomeAnd t (TagOf layer other.id.seq)) (sym (tags-step Held s j other.id.index)) (All-tail P k ks tagged n d below)),
    )

ready-of : (layer seq : ℕ) (o : Option Record) → IsSomeAnd o (λ r. (r.generation % 256 ≡ seq) × IsFree layer r) → IsSomeAnd o (IsReady layer)
ready-of layer seq None h = h
ready-of layer seq (Some r) h = h.1

can-mark_all : (layer : ℕ) (ks : List Known) (s : Scene) → CanTake s layer ks → CanMarkAll s layer (indexes_of ks)
can-mark_all layer [] s can = tt
can-mark_all layer (k ∷ ks) s can = (ready-of layer k.id.seq (record_at s k.id.index) can.0, can-mark_all layer ks (with_phase Held s k.id.index) can.1)

marks-fold : (js : List ℕ) (s : Scene) → fold after_entry s (marks js) ≡ fold (with_phase Held) s js
marks-fold [] s = refl
marks-fold (j ∷ js) s = marks-fold js (with_phase Held s j)

-- ---- they are marked one after another

free-refusal : (s : Scene) (layer : ℕ) (id : Id) → HasIdBody s id (IsFree layer) → mark_refusal s layer id ≡ None
free-refusal s layer id h =
    let has = has-body s id (IsFree layer) h in
    ap (view_refusal layer) has.1
    ∙ (ap (λ (p : Phase). phase_refusal p has.0.layer layer) has.2.0
    ∙ ap (λ (b : Bool). cond b None (Some refusals.WrongLayer)) (eq-eqb has.0.layer layer has.2.1))

abbrev pub with_first : List ℕ → Marking → Marking
with_first js m = record m { indexes = js ++ m.indexes }

pub marking-first : (layer : ℕ) (ks later : List Known) (s : Scene) → CanTake s layer ks
    → marking s layer (ks ++ later) ≡ with_first (indexes_of ks) (marking (fold after_entry s (marks (indexes_of ks))) layer later)
marking-first layer [] later s can = refl
marking-first layer (k ∷ ks) later s can =
    ap (λ (o : Option Refusal). marking_on k.id.index o (marking (after_entry s (Mark k.id.index)) layer (ks ++ later))) (free-refusal s layer k.id can.0)
    ∙ ap (marking_on k.id.index None) (marking-first layer ks later (with_phase Held s k.id.index) can.1)

-- ---- one is refused

by-cause : (s : Scene) (layer : ℕ) (id : Id) (refused : MarkRefused) → IsCauseAt (cause_of layer id refused) s → mark_refusal s layer id ≡ Some (refusal_to refused)
by-cause s layer id (causes.Gone state) cause = ap (view_refusal layer) (gone-body s id cause)
by-cause s layer id (causes.Held slot) cause =
    let has = has-body s id (λ r. r.phase ≡ Held) cause in
    ap (view_refusal layer) has.1 ∙ ap (λ (p : Phase). phase_refusal p has.0.layer layer) has.2
by-cause s layer id (causes.AlreadyIn phase) cause =
    let has = has-body s id (λ r. r.phase ≡ In) cause in
    ap (view_refusal layer) has.1 ∙ ap (λ (p : Phase). phase_refusal p has.0.layer layer) has.2
by-cause s layer id (causes.WrongLayer found) cause =
    let has = has-body s id (λ r. (r.phase ≡ Out) × (r.layer ≢ layer)) cause in
    ap (view_refusal layer) has.1
    ∙ (ap (λ (p : Phase). phase_refusal p has.0.layer layer) has.2.0
    ∙ ap (λ (b : Bool). cond b None (Some refusals.WrongLayer)) (ne_eqb has.0.layer layer has.2.1))

-- the refusal rests on the body at the index
same-refusal : (s u : Scene) (layer : ℕ) (id : Id) → record_at s id.index ≡ record_at u id.index → mark_refusal s layer id ≡ mark_refusal u layer id
same-refusal s u layer id e =
    ap (λ (o : Option Record). view_refusal layer (option_and_then (λ (v : BodyView). if v.id.seq == id.seq then Some v else None) (option_map (view_of id.index) o))) e

-- of a body that is marked itself the cause is so after the marks
gone-moves : (seq : ℕ) (o u : Option Record) → tags o ≡ tags u → (IsSomeAnd o (λ r. r.generation % 256 ≡ seq) → ⊥) → IsSomeAnd u (λ r. r.generation % 256 ≡ seq) → ⊥
gone-moves seq o None e none h = h
gone-moves seq None (Some r) e none h = absurd cc
gone-moves seq (Some q) (Some r) e none h = none (ap (λ (t : ℕ × ℕ). t.0 % 256) (same_Some _ _ e) ∙ h)

held-moves : (layer seq : ℕ) (o u : Option Record) → tags o ≡ tags u → IsSomeAnd o (λ r. (r.generation % 256 ≡ seq) × (r.phase ≡ Held)) → IsSomeAnd u (IsHeldIn layer) → IsSomeAnd u (λ r. (r.generation % 256 ≡ seq) × (r.phase ≡ Held))
held-moves layer seq o None e h held = held
held-moves layer seq None (Some r) e h held = absurd h
held-moves layer seq (Some q) (Some r) e h held = (sym (ap (λ (t : ℕ × ℕ). t.0 % 256) (same_Some _ _ e)) ∙ h.0, held.0)

in-never : (seq : ℕ) (o : Option Record) → IsNotIn o → IsSomeAnd o (λ r. (r.generation % 256 ≡ seq) × (r.phase ≡ In)) → ⊥
in-never seq None none h = h
in-never seq (Some r) none h = none h.1

layer-never : (layer seq : ℕ) (o u : Option Record) → tags o ≡ tags u → IsSomeAnd o (λ r. (r.generation % 256 ≡ seq) × ((r.phase ≡ Out) × (r.layer ≢ layer))) → IsSomeAnd u (IsHeldIn layer) → ⊥
layer-never layer seq o None e h held = held
layer-never layer seq None (Some r) e h held = h
layer-never layer seq (Some q) (Some r) e h held = h.1.1 (ap (λ (t : ℕ × ℕ). t.1) (same_Some _ _ e) ∙ held.1)

ready-not-in : (layer : ℕ) (o : Option Record) → IsSomeAnd o (IsReady layer) → IsNotIn o
ready-not-in layer None h = absurd h
ready-not-in layer (Some r) h = λ inside. (let apart = sym h.0 ∙ inside in cc)

module _ (layer : ℕ) (ks : List Known) (s : Scene) (can : CanTake s layer ks) (id : Id) (es : List Entry) (touch : AllTouch (λ j. ⊤) es)
    (apart : (All (λ j. j ≢ id.index) (indexes_of ks)) → AllTouch (λ j. j ≢ id.index) es) where
  abbrev js : List ℕ
  js = indexes_of ks

  abbrev all_marked : Scene
  all_marked = fold after_entry s (marks js)

  abbrev point : Scene
  point = fold after_entry s es

  own-moves : (refused : MarkRefused) → Contains js id.index → IsCauseAt (cause_of layer id refused) point → IsCauseAt (cause_of layer id refused) all_marked
  own-moves refused among cause = go refused cause
    where
      held : HasBody all_marked id.index (IsHeldIn layer)
      held = subst (λ (u : Scene). HasBody u id.index (IsHeldIn layer)) (sym (marks-fold js s)) (all_held js s layer (can-mark_all layer ks s can) id.index among)

      same : tags (record_at point id.index) ≡ tags (record_at all_marked id.index)
      same = tags-keep id.index es s touch ∙ sym (tags-marks js s)
        where
          tags-marks : (xs : List ℕ) (u : Scene) → tags (record_at (fold after_entry u (marks xs)) id.index) ≡ tags (record_at u id.index)
          tags-marks [] u = refl
          tags-marks (x ∷ xs) u = tags-marks xs (with_phase Held u x) ∙ tags-step Held u x id.index

      outside : IsNotIn (record_at point id.index)
      outside = keep-all IsNotIn id.index held-not-in out-not-in es s touch (ready-not-in layer (record_at s id.index) (all_ready js s layer (can-mark_all layer ks s can) id.index among))

      go : (refused : MarkRefused) → IsCauseAt (cause_of layer id refused) point → IsCauseAt (cause_of layer id refused) all_marked
      go (causes.Gone state) cause = gone-moves id.seq (record_at point id.index) (record_at all_marked id.index) same cause
      go (causes.Held slot) cause = held-moves layer id.seq (record_at point id.index) (record_at all_marked id.index) same cause held
      go (causes.AlreadyIn phase) cause = absurd (in-never id.seq (record_at point id.index) outside cause)
      go (causes.WrongLayer found) cause = absurd (layer-never layer id.seq (record_at point id.index) (record_at all_marked id.index) same cause held)

  -- so it is refused for the cause that was seen at a point
  pub bad-refused : (refused : MarkRefused) → IsCauseAt (cause_of layer id refused) point → mark_refusal all_marked layer id ≡ Some (refusal_to refused)
  bad-refused refused cause = elim (place_at-fold_phase Held js s id.index) [
    | inl at ↦ by-cause all_marked layer id refused (own-moves refused at.0 cause)
    | inr not ↦
        let still : record_at all_marked id.index ≡ record_at s id.index = ap (λ (u : Scene). record_at u id.index) (marks-fold js s) ∙ ap (λ (q : Place). q.body) not.1 in
        let none : All (λ j. j ≢ id.index) js = λ k d below e. not.0 (k, below, get_or_default js k id.index d below ∙ e) in
        same-refusal all_marked point layer id (still ∙ sym (untouched id.index es s (apart none))) ∙ by-cause point layer id refused cause
  ]
