-- What a scene says of the body that an id names.
use Rattle.std.proofs.Common.{◌≡◌, ◌%◌, ◌==◌, Bool, cond, Option, Some, None, refl, ap, ◌∙◌, eq-eqb, inl, inr}
use Rattle.std.specs.Prelude.{if◌then◌else◌, IsSomeAnd, option_map, option_and_then, ℕ}
use Rattle.std.proofs.lemmas.Bool.Decides.{eqb_tells}
use Rattle.body_ident.specs.Id.{Id}
use Rattle.scene_model.specs.declared.body_view.BodyView.{BodyView}
use Rattle.scene_model.specs.Scene.{Scene, Record, record_at}
use Rattle.scene_model.specs.Query.{view_of}
use Rattle.scene_model.specs.Cause.{HasIdBody, IsCauseAt, gone}
use Rattle.core_state.proofs.Beginning.{body_record}
use Rattle.script_player.specs.Body.{body_of}

-- the view of a body, where its sequence number is this
abbrev viewed : ℕ → ℕ → Option Record → Option BodyView
viewed index seq o = option_and_then (λ v. if v.id.seq == seq then Some v else None) (option_map (view_of index) o)

named : (v : BodyView) (seq : ℕ) → v.id.seq ≡ seq → option_and_then (λ (w : BodyView). if w.id.seq == seq then Some w else None) (Some v) ≡ Some v
named v seq is = ap (λ (b : Bool). cond b (Some v) None) (eq-eqb v.id.seq seq is)

-- a body that is seen under an id
pub seen-body : (scene : Scene) (i : Id) (r : Record) (v : BodyView) → record_at scene i.index ≡ Some r → view_of i.index r ≡ v → v.id ≡ i → body_of scene i ≡ Some v
seen-body scene i r v live shows names =
    ap (viewed i.index i.seq) live
    ∙ (ap (λ (w : BodyView). option_and_then (λ (x : BodyView). if x.id.seq == i.seq then Some x else None) (Some w)) shows ∙ named v i.seq (ap (λ (j : Id). j.seq) names))

-- one that has this
pub has-body : (scene : Scene) (i : Id) (P : Record → Type 0) → HasIdBody scene i P → (r : Record) × (body_of scene i ≡ Some (view_of i.index r)) × P r
has-body scene i P h =
    let has = body_record (record_at scene i.index) (λ r. (r.generation % 256 ≡ i.seq) × P r) h in
    (has.0, ap (viewed i.index i.seq) has.1 ∙ named (view_of i.index has.0) i.seq has.2.0, has.2.1)

-- and one that is gone
gone-viewed : (index seq : ℕ) (o : Option Record) → (IsSomeAnd o (λ r. r.generation % 256 ≡ seq) → ⊥) → viewed index seq o ≡ None
gone-viewed index seq None h = refl
gone-viewed index seq (Some r) h = elim (eqb_tells (r.generation % 256) seq) [
  | inl same ↦ absurd (h same.1)
  | inr apart ↦ ap (λ (b : Bool). cond b (Some (view_of index r)) None) apart.0
]

pub gone-body : (scene : Scene) (i : Id) → IsCauseAt (gone i) scene → body_of scene i ≡ None
gone-body scene i cause = gone-viewed i.index i.seq (record_at scene i.index) cause
