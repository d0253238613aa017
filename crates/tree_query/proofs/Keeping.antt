-- A body that is a child goes into the finder.
use Rattle.std.proofs.Common.{◌≡◌, ℕ, ◌-◌, List, [], ◌∷◌, ◌++◌, Bool, true, false, ap, sym, ◌∙◌, subst, inl, inr, arith}
use Rattle.std.specs.Prelude.{Contains, ◌==◌, ◌%◌, ◌/◌, if◌then◌else◌}
use Rattle.std.proofs.lemmas.Bool.{cases_eq, eq-eqb, ne_eqb}
use Rattle.std.proofs.lemmas.List.{append-nil}
use Rattle.core_state.specs.Encoding.{body_child}
use Rattle.core_state.proofs.Opening.{only}
use Rattle.core_state.proofs.Beginning.{contains_first}
use Rattle.tree_query.specs.declared.finder.Finder.{Finder}
use Rattle.tree_query.specs.Finding.{has_index, seq_of, room_of}
use Rattle.tree_query.specs.Collecting.{Puts, KeepsChild}

-- one body is put in
puts-one : (before after : Finder) (body : ℕ) → ((index : ℕ) → has_index after index ≡ if body == index then true else has_index before index)
    → ((index : ℕ) → seq_of after index ≡ if body == index then 0 else seq_of before index) → Puts before after (body ∷ [])
puts-one before after body has seqs = record {
  has = λ index. elim (cases_eq body index) [
    | inl same ↦ (
      λ h. inr (subst (Contains (body ∷ [])) same (contains_first body [])),
      λ h. has index ∙ ap (λ (b : Bool). if b then true else has_index before index) (eq-eqb body index same),
    )
    | inr apart ↦
        let now : has_index after index ≡ has_index before index = has index ∙ ap (λ (b : Bool). if b then true else has_index before index) (ne_eqb body index apart) in
        (λ h. inl (sym now ∙ h), λ h. now ∙ elim h [ inl was ↦ was | inr among ↦ absurd (apart (only body index among)) ])
  ];
  seqs = λ zero index h. elim (cases_eq body index) [
    | inl same ↦ seqs index ∙ ap (λ (b : Bool). if b then 0 else seq_of before index) (eq-eqb body index same)
    | inr apart ↦
        let now : has_index after index ≡ has_index before index = has index ∙ ap (λ (b : Bool). if b then true else has_index before index) (ne_eqb body index apart) in
        seqs index ∙ (ap (λ (b : Bool). if b then 0 else seq_of before index) (ne_eqb body index apart) ∙ zero index (sym now ∙ h))
  ];
}

-- a body goes into the finder
pub keeps-body : (x body : ℕ) (nodes : List ℕ) (before after : Finder) → x ≡ body_child body
    → ((index : ℕ) → has_index after index ≡ if body == index then true else has_index before index) → ((index : ℕ) → seq_of after index ≡ if body == index then 0 else seq_of before index)
    → room_of after ≡ room_of before → after.loads ≡ before.loads → KeepsChild true x nodes nodes before after
keeps-body x body nodes before after is has seqs room loads =
    let odd : (x % 2 == 0) ≡ false = ne_eqb (x % 2) 0 (λ e. omega arith) in
    let half : (x - 1) / 2 ≡ body = omega arith in
    record {
      stack = sym (ap (λ (b : Bool). nodes ++ (if b then (x - 2) / 2 ∷ [] else [])) odd ∙ append-nil nodes);
      puts =
          subst (λ (b : Bool). Puts before after (if b then [] else (x - 1) / 2 ∷ [])) (sym odd)
          (subst (λ (z : ℕ). Puts before after (z ∷ [])) (sym half) (puts-one before after body has seqs));
      loads = loads;
      room = room;
    }
