-- What the scene says of the body that an id names.
use Rattle.std.proofs.Common.{◌≡◌, ◌%◌, ◌⊎◌, true, cond, eqb, Option, Some, None, IsSomeAnd, option_map, option_and_then, refl, ap, sym, subst, ◌∙◌, eq-eqb, inl, inr}
use Rattle.std.proofs.lemmas.Bool.{cases_Bool, eqb-true}
use Rattle.body_ident.specs.Id.{Id}
use Rattle.scene_model.specs.declared.body_view.BodyView.{BodyView}
use Rattle.scene_model.specs.declared.body_view.Phase.{Phase}
use Rattle.scene_model.specs.Scene.{Scene, Record, record_at}
use Rattle.scene_model.specs.Query.{view_of}
use Rattle.scene_model.specs.Cause.{HasIdBody, IsCauseAt, gone}
use Rattle.reply_text.specs.declared.refusal.Refusal.{Refusal}
use Rattle.script_player.specs.Attempt.{outcome}
use Rattle.script_player.specs.Body.{body_of}
use Rattle.script_player.specs.Refused.{IsDoneOr, IsTold}
use Rattle.script_player.proofs.Marking.{weaker}

pub replied : (answer : Option Refusal) → IsDoneOr answer (outcome answer)
replied None = refl
replied (Some refusal) = refl

seen_or_gone : (i : Id) (o : Option Record) (v : Option BodyView)
    → v ≡ option_and_then (λ (w : BodyView). cond (eqb w.id.seq i.seq) (Some w) None) (option_map (view_of i.index) o)
    → ((v ≡ None) × ¬ IsSomeAnd o (λ r. r.generation % 256 ≡ i.seq))
    ⊎ ((w : BodyView) × (v ≡ Some w) × IsSomeAnd o (λ r. (r.generation % 256 ≡ i.seq) × (view_of i.index r ≡ w)))
seen_or_gone i None v e = inl (e, λ h. h)
seen_or_gone i (Some r) v e = elim (cases_Bool (eqb (r.generation % 256) i.seq)) [
  | inl same ↦ inr (view_of i.index r, e ∙ rw same refl, (eqb-true (r.generation % 256) i.seq same, refl))
  | inr other ↦ inl (e ∙ rw other refl, λ h. let same : eqb (r.generation % 256) i.seq ≡ true = eq-eqb (r.generation % 256) i.seq h in cc)
]

pub told : (scene : Scene) (i : Id) (o : Option BodyView) → o ≡ body_of scene i → IsTold scene i o
told scene i o e = elim (seen_or_gone i (record_at scene i.index) o e) [
  | inl lost ↦ subst (IsTold scene i) (sym lost.0) lost.1
  | inr seen ↦ subst (IsTold scene i) (sym seen.1) seen.2
]

-- the phase of that body
abbrev pub IsInPhase : Scene → Id → Phase → Type 0
IsInPhase scene i p = HasIdBody scene i (λ r. r.phase ≡ p)

pub told_phase : (scene : Scene) (i : Id) (v : BodyView) → IsTold scene i (Some v) → IsInPhase scene i v.phase
told_phase scene i v h =
    weaker (record_at scene i.index) _ (λ r. (r.generation % 256 ≡ i.seq) × (r.phase ≡ v.phase)) (λ r own. (own.0, ap (λ (w : BodyView). w.phase) own.1)) h

-- a body of an id is not gone
pub is_there : (scene : Scene) (i : Id) (P : Record → Type 0) → HasIdBody scene i P → ¬ IsCauseAt (gone i) scene
is_there scene i P h lost = lost (weaker (record_at scene i.index) _ (λ r. r.generation % 256 ≡ i.seq) (λ r own. own.0) h)

-- it does not have what contradicts
never : (o : Option Record) (P Q : Record → Type 0) → ((r : Record) → P r → Q r → ⊥) → IsSomeAnd o P → IsSomeAnd o Q → ⊥
never None P Q clash p q = p
never (Some r) P Q clash p q = clash r p q

pub has_not : (scene : Scene) (i : Id) (P Q : Record → Type 0) → ((r : Record) → P r → Q r → ⊥) → HasIdBody scene i P → ¬ HasIdBody scene i Q
has_not scene i P Q clash p q = never (record_at scene i.index) _ _ (λ r a b. clash r a.1 b.1) p q

pub has_more : (scene : Scene) (i : Id) (P Q : Record → Type 0) → ((r : Record) → P r → Q r) → HasIdBody scene i P → HasIdBody scene i Q
has_more scene i P Q to h = weaker (record_at scene i.index) _ _ (λ r own. (own.0, to r own.1)) h
