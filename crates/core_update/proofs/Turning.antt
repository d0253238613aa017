-- How the homes of nodes turn when an update takes the tree of a word out of sight: its nodes are superseded from then on,
-- and where the word is a main word, those of the new tree of the layer stand under it.
use Rattle.std.proofs.Common.{◌≡◌, ◌≢◌, ◌⊎◌, ℕ, ◌==◌, Bool, true, cond, Some, refl, ap, sym, ◌∙◌, subst, inl, inr}
use Rattle.std.proofs.lemmas.Bool.{cases_eq, eq-eqb, ne_eqb}
use Rattle.word_map.specs.declared.name.Name.{Name}
use Rattle.word_map.specs.declared.name.Name.TheVariants.{Main}
use Rattle.core_state.specs.Names.{same_name}
use Rattle.core_state.specs.Encoding.{layer_of}
use Rattle.core_state.specs.Nodes.{Home, free, spare, owned, made, under, superseded, returning, Nodes, Stands, IsLive, IsOfLayer}
use Rattle.core_state.proofs.SameNames.{same_name-refl, same_name-other, cases_name}

-- by pass and word
abbrev pub turn : ℕ → Name → Home → Home
turn p x (under name) = cond (same_name name x) (superseded p x) (under name)
turn p x (made q l) = cond (q == p) (cond (same_name (Main l) x) (under x) (made q l)) (made q l)
turn p x home = home

abbrev pub turned : ℕ → Name → Nodes → Nodes
turned p x nodes = record { home = λ n. turn p x (nodes.home n); depth = nodes.depth }

-- a home stays, or it is the tree that is taken out of sight, or the new one
pub data Turns (p : ℕ) (x : Name) (home : Home) : Home → Type 0 where
  kept : home ≢ under x → ((l : ℕ) → Main l ≡ x → home ≢ made p l) → Turns p x home home
  taken : home ≡ under x → Turns p x home (superseded p x)
  shown : (l : ℕ) → Main l ≡ x → home ≡ made p l → Turns p x home (under x)

abbrev name_of : Home → Name
name_of (under name) = name
name_of _ = Main 0

abbrev pass_of : Home → ℕ
pass_of (made p l) = p
pass_of _ = 0

abbrev layer_in : Home → ℕ
layer_in (made p l) = l
layer_in _ = 0

abbrev who_took : Home → ℕ
who_took (superseded p name) = p
who_took _ = 0

abbrev name_taken : Home → Name
name_taken (superseded p name) = name
name_taken _ = Main 0

module _ (p : ℕ) (x : Name) where
  pub turns : (home : Home) → Turns p x home (turn p x home)
  turns (under name) =
      elim (cases_name name x) [
        | inl same ↦
            let test : same_name name x ≡ true = ap (λ (y : Name). same_name y x) same ∙ same_name-refl x in
            subst (Turns p x (under name)) (sym (ap (λ (t : Bool). cond t (superseded p x) (under name)) test)) (taken (ap under same))
        | inr apart ↦
            subst (Turns p x (under name)) (sym (ap (λ (t : Bool). cond t (superseded p x) (under name)) (same_name-other name x apart))) (kept (λ e. apart (ap name_of e)) (λ l is e. absurd cc))
      ]
  turns (made q l) =
      elim (cases_eq q p) [
        | inr apart ↦
            subst (Turns p x (made q l)) (sym (ap (λ (t : Bool). cond t (cond (same_name (Main l) x) (under x) (made q l)) (made q l)) (ne_eqb q p apart)))
            (kept (λ e. absurd cc) (λ m is e. apart (ap pass_of e)))
        | inl same ↦
            subst (Turns p x (made q l)) (sym (ap (λ (t : Bool). cond t (cond (same_name (Main l) x) (under x) (made q l)) (made q l)) (eq-eqb q p same)))
            (elim (cases_name (Main l) x) [
              | inl is ↦
                  let test : same_name (Main l) x ≡ true = ap (λ (y : Name). same_name y x) is ∙ same_name-refl x in
                  subst (Turns p x (made q l)) (sym (ap (λ (t : Bool). cond t (under x) (made q l)) test)) (shown l is (λ i. made (same i) l))
              | inr other ↦
                  subst (Turns p x (made q l)) (sym (ap (λ (t : Bool). cond t (under x) (made q l)) (same_name-other (Main l) x other)))
                  (kept (λ e. absurd cc) (λ m is e. other (ap Main (ap layer_in e) ∙ is)))
            ])
      ]
  turns free = kept (λ e. absurd cc) (λ l is e. absurd cc)
  turns spare = kept (λ e. absurd cc) (λ l is e. absurd cc)
  turns (owned q) = kept (λ e. absurd cc) (λ l is e. absurd cc)
  turns (superseded q name) = kept (λ e. absurd cc) (λ l is e. absurd cc)
  turns (returning q) = kept (λ e. absurd cc) (λ l is e. absurd cc)

  -- ---- forth

  -- by what a home is
  pub turn-kept : (home : Home) → home ≢ under x → ((l : ℕ) → Main l ≡ x → home ≢ made p l) → turn p x home ≡ home
  turn-kept home other unmade = go (turn p x home) (turns home)
    where
      go : (later : Home) → Turns p x home later → later ≡ home
      go later (kept h k) = refl
      go later (taken is) = absurd (other is)
      go later (shown l is e) = absurd (unmade l is e)

  pub turn-taken : (home : Home) → home ≡ under x → turn p x home ≡ superseded p x
  turn-taken home e = go (turn p x home) (turns home)
    where
      go : (later : Home) → Turns p x home later → later ≡ superseded p x
      go later (kept h k) = absurd (h e)
      go later (taken is) = refl
      go later (shown l is f) = absurd (apart (sym e ∙ f))
        where
          apart : under x ≡ made p l → ⊥
          apart f = absurd cc

  pub turn-shown : (home : Home) (l : ℕ) → Main l ≡ x → home ≡ made p l → turn p x home ≡ under x
  turn-shown home l is e = go (turn p x home) (turns home)
    where
      go : (later : Home) → Turns p x home later → later ≡ under x
      go later (kept h k) = absurd (k l is e)
      go later (taken f) = absurd (apart (sym f ∙ e))
        where
          apart : under x ≡ made p l → ⊥
          apart f = absurd cc
      go later (shown m same f) = refl

  -- a node that stands, or is live, does so still
  pub turn-stands : (home : Home) → Stands home → Stands (turn p x home)
  turn-stands home h = go (turn p x home) (turns home)
    where
      go : (later : Home) → Turns p x home later → Stands later
      go later (kept a b) = h
      go later (taken is) = tt
      go later (shown l is e) = tt

  pub turn-live : (home : Home) → IsLive home → IsLive (turn p x home)
  turn-live home h = go (turn p x home) (turns home)
    where
      go : (later : Home) → Turns p x home later → IsLive later
      go later (kept a b) = h
      go later (taken is) = tt
      go later (shown l is e) = tt

  -- and in a tree of the same layer
  pub turn-of_layer : (home : Home) (layer : ℕ) → IsOfLayer layer home → IsOfLayer layer (turn p x home)
  turn-of_layer home layer h = go (turn p x home) (turns home)
    where
      go : (later : Home) → Turns p x home later → IsOfLayer layer later
      go later (kept a b) = h
      go later (taken is) = subst (IsOfLayer layer) is h
      go later (shown l is e) = let same : l ≡ layer = subst (IsOfLayer layer) e h in ap layer_of (sym is) ∙ ap Some same

  -- ---- back

  pub stands-back : (home : Home) → Stands (turn p x home) → Stands home
  stands-back home h = go (turn p x home) (turns home) h
    where
      go : (later : Home) → Turns p x home later → Stands later → Stands home
      go later (kept a b) s = s
      go later (taken is) s = subst Stands (sym is) tt
      go later (shown l is e) s = subst Stands (sym e) tt

  -- a home under a word was that, or it is of the new tree
  pub under-back : (home : Home) (name : Name) → turn p x home ≡ under name → ((home ≡ under name) × (name ≢ x)) ⊎ ((name ≡ x) × ((l : ℕ) × (Main l ≡ x) × (home ≡ made p l)))
  under-back home name e = go (turn p x home) (turns home) e
    where
      go : (later : Home) → Turns p x home later → later ≡ under name → ((home ≡ under name) × (name ≢ x)) ⊎ ((name ≡ x) × ((l : ℕ) × (Main l ≡ x) × (home ≡ made p l)))
      go later (kept other b) e = inl (e, λ same. other (e ∙ ap under same))
      go later (taken is) e = absurd (apart e)
        where
          apart : superseded p x ≡ under name → ⊥
          apart f = absurd cc
      go later (shown l is f) e = inr (ap name_of (sym e), (l, is, f))

  pub superseded-back : (home : Home) (q : ℕ) (name : Name) → turn p x home ≡ superseded q name → (home ≡ superseded q name) ⊎ ((q ≡ p) × (name ≡ x) × (home ≡ under x))
  superseded-back home q name e = go (turn p x home) (turns home) e
    where
      go : (later : Home) → Turns p x home later → later ≡ superseded q name → (home ≡ superseded q name) ⊎ ((q ≡ p) × (name ≡ x) × (home ≡ under x))
      go later (kept a b) e = inl e
      go later (taken is) e = inr (ap who_took (sym e), ap name_taken (sym e), is)
      go later (shown l is f) e = absurd (apart e)
        where
          apart : under x ≡ superseded q name → ⊥
          apart f = absurd cc

  -- a home of another kind was that
  pub other-back : (home target : Home) → ((name : Name) → target ≢ under name) → ((q : ℕ) (name : Name) → target ≢ superseded q name) → turn p x home ≡ target → home ≡ target
  other-back home target none gone e = go (turn p x home) (turns home) e
    where
      go : (later : Home) → Turns p x home later → later ≡ target → home ≡ target
      go later (kept a b) e = e
      go later (taken is) e = absurd (gone p x (sym e))
      go later (shown l is f) e = absurd (none x (sym e))

  pub other-forth : (home target : Home) → ((name : Name) → target ≢ under name) → ((q l : ℕ) → target ≢ made q l) → home ≡ target → turn p x home ≡ target
  other-forth home target none unmade e = turn-kept home (λ is. none x (sym e ∙ is)) (λ l is f. unmade p l (sym e ∙ f)) ∙ e

  pub made-back : (home : Home) (q l : ℕ) → turn p x home ≡ made q l → home ≡ made q l
  made-back home q l e = other-back home (made q l) (λ name f. absurd cc) (λ r name f. absurd cc) e

  pub made-forth : (home : Home) (q l : ℕ) → ¬ ((q ≡ p) × (Main l ≡ x)) → home ≡ made q l → turn p x home ≡ made q l
  made-forth home q l other e = turn-kept home (λ is. apart (sym e ∙ is)) (λ m is f. other (pass (sym e ∙ f), ap Main (layer (sym e ∙ f)) ∙ is)) ∙ e
    where
      apart : made q l ≡ under x → ⊥
      apart f = absurd cc

      pass : {m : ℕ} → made q l ≡ made p m → q ≡ p
      pass f = ap pass_of f

      layer : {m : ℕ} → made q l ≡ made p m → l ≡ m
      layer f = ap layer_in f

  pub under-forth : (home : Home) (name : Name) → name ≢ x → home ≡ under name → turn p x home ≡ under name
  under-forth home name other e = turn-kept home (λ is. other (ap name_of (sym e ∙ is))) (λ l is f. apart l (sym e ∙ f)) ∙ e
    where
      apart : (l : ℕ) → under name ≡ made p l → ⊥
      apart l f = absurd cc

  pub superseded-forth : (home : Home) (q : ℕ) (name : Name) → home ≡ superseded q name → turn p x home ≡ superseded q name
  superseded-forth home q name e = other-forth home (superseded q name) (λ y f. absurd cc) (λ r l f. absurd cc) e
