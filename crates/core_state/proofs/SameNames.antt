-- The test of names tells whether they are the same.
use Rattle.std.proofs.Common.{◌≡◌, ◌≢◌, ◌⊎◌, List, ◌∷◌, [], Bool, true, false, eqb, refl, ap, sym, ◌∙◌, inl, inr}
use Rattle.std.specs.Prelude.{◌&&◌, slice_index_or}
use Rattle.std.proofs.lemmas.Bool.{eqb-true, eq-eqb, false≢true}
use Rattle.word_map.specs.declared.name.Name.{Name}
use Rattle.word_map.specs.declared.name.Name.TheVariants.{Lock, SlotHead, SlotNext, State, Phase, Layer, User, BoxWord, LocA, LocB, Child, Bound, Parent, PoolHead, PoolNext, PoolFree, Main, Slot, Reader, Update, Arena}
use Rattle.core_state.specs.Names.{Code, code_of, same_code, same_name}

-- the name of a code, by kind
readers : List (Code → Name)
readers =
    (λ c. Lock c.first) ∷ (λ c. SlotHead) ∷ (λ c. SlotNext c.first) ∷ (λ c. State c.first) ∷ (λ c. Phase c.first) ∷
    (λ c. Layer c.first) ∷ (λ c. User c.first) ∷ (λ c. BoxWord c.first c.second) ∷ (λ c. LocA c.first) ∷
    (λ c. LocB c.first) ∷ (λ c. Child c.first c.second) ∷ (λ c. Bound c.first c.second c.third) ∷
    (λ c. Parent c.first) ∷ (λ c. PoolHead) ∷ (λ c. PoolNext c.first) ∷ (λ c. PoolFree) ∷ (λ c. Main c.first) ∷
    (λ c. Slot c.first c.second) ∷ (λ c. Reader c.first) ∷ (λ c. Update) ∷ (λ c. Arena) ∷ []

named : Code → Name
unfolding readers
named c = slice_index_or readers c.kind (λ _. Update) c

named-code_of : (n : Name) → named (code_of n) ≡ n
unfolding named readers
named-code_of (Lock i) = refl
named-code_of _ = refl

-- four numbers that are equal make one code
same_parts : (a b : Code) → a.kind ≡ b.kind → a.first ≡ b.first → a.second ≡ b.second → a.third ≡ b.third → a ≡ b
same_parts a b p q r t = λ i. record { kind = p i; first = q i; second = r i; third = t i }

-- both of two tests
pub and_left : (a b : Bool) → (a && b) ≡ true → a ≡ true
and_left true b h = refl
and_left false b h = h

pub and_right : (a b : Bool) → (a && b) ≡ true → b ≡ true
and_right true b h = h
and_right false b h = absurd (false≢true h)

same_code-equal : (a b : Code) → same_code a b ≡ true → a ≡ b
same_code-equal a b same =
    let last = and_right _ (eqb a.third b.third) same in
    let front = and_left _ (eqb a.third b.third) same in
    let third = and_right _ (eqb a.second b.second) front in
    let pair = and_left _ (eqb a.second b.second) front in
    same_parts a b (eqb-true _ _ (and_left (eqb a.kind b.kind) (eqb a.first b.first) pair)) (eqb-true _ _ (and_right (eqb a.kind b.kind) (eqb a.first b.first) pair)) (eqb-true _ _ third) (eqb-true _ _ last)

same_code-refl : (a : Code) → same_code a a ≡ true
same_code-refl a = rw (eq-eqb a.kind a.kind refl, eq-eqb a.first a.first refl, eq-eqb a.second a.second refl, eq-eqb a.third a.third refl) refl

-- names that pass the test are one
pub same_name-equal : (a b : Name) → same_name a b ≡ true → a ≡ b
same_name-equal a b same = sym (named-code_of a) ∙ (ap named (same_code-equal (code_of a) (code_of b) same) ∙ named-code_of b)

pub same_name-refl : (a : Name) → same_name a a ≡ true
same_name-refl a = same_code-refl (code_of a)

-- other names do not pass it
pub same_name-other : (a b : Name) → a ≢ b → same_name a b ≡ false
same_name-other a b other = go (same_name a b) refl
  where
    go : (test : Bool) → same_name a b ≡ test → same_name a b ≡ false
    go false e = e
    go true e = absurd (other (same_name-equal a b e))

-- two names are the same or not
pub cases_name : (a b : Name) → (a ≡ b) ⊎ (a ≢ b)
cases_name a b = go (same_name a b) refl
  where
    go : (test : Bool) → same_name a b ≡ test → (a ≡ b) ⊎ (a ≢ b)
    go true e = inl (same_name-equal a b e)
    go false e = inr (λ same. false≢true (sym e ∙ ap (same_name a) (sym same) ∙ same_name-refl a))
