-- A node more for the newest batch.
use Rattle.std.proofs.Common.{◌≡◌, ◌≢◌, ℕ, List, [], ◌∷◌, ◌++◌, Contains, AllPairs, append_assoc, refl, ap, sym, ◌∙◌, subst, inl, inr}
use Rattle.std.specs.Prelude.{flat_map}
use Rattle.std.proofs.lemmas.List.{append-nil}
use Rattle.std.proofs.lemmas.List.Elements.{Contains-append_left}
use Rattle.core_state.specs.declared.view.Marked.{Marked}
use Rattle.core_state.specs.declared.view.Batch.{Batch}
use Rattle.core_state.specs.Batches.{change_newest}
use Rattle.core_state.specs.Bodies.{IsForSlot, AreOtherSlots}
use Rattle.core_batch.proofs.BatchesStep.{ChangesBatches}
use Rattle.core_state.proofs.Opening.{none_in, only}
use Rattle.core_batch.proofs.Lists.{contains_later, pairs-first, pairs-rest, pairs-cons, pairs-none}
use Rattle.core_state.proofs.Beginning.{cases_cons, contains_first}

module _ (node : ℕ) where
  -- a batch with the node
  abbrev pub grow : Batch → Batch
  grow b = record b { nodes = b.nodes ++ node ∷ [] }

  -- a batch is the same but for further nodes
  record IsGrown (x y : Batch) : Type 0 where
    layer : x.layer ≡ y.layer
    slot : x.slot ≡ y.slot
    marked : x.marked ≡ y.marked
    nodes : (n : ℕ) → Contains x.nodes n → Contains y.nodes n

  grown-same : (x : Batch) → IsGrown x x
  grown-same x = record { layer = refl; slot = refl; marked = refl; nodes = λ n inside. inside }

  grown-more : (x : Batch) → IsGrown x (grow x)
  grown-more x = record { layer = refl; slot = refl; marked = refl; nodes = λ n inside. Contains-append_left x.nodes (node ∷ []) n inside }

  newest-back : (xs : List Batch) (y : Batch) → Contains (change_newest grow xs) y → (x : Batch) × Contains xs x × IsGrown x y
  newest-back [] y h = absurd (none_in _ h)
  newest-back (b ∷ []) y h = (b, contains_first b [], subst (IsGrown b) (only (grow b) y h) (grown-more b))
  newest-back (b ∷ c ∷ rest) y h =
      elim (cases_cons b (change_newest grow (c ∷ rest)) y h) [
        | inl e ↦ (b, contains_first b (c ∷ rest), subst (IsGrown b) e (grown-same b))
        | inr later ↦ let t = newest-back (c ∷ rest) y later in (t.0, contains_later b (c ∷ rest) t.0 t.1, t.2)
      ]

  newest-forth : (xs : List Batch) (x : Batch) → Contains xs x → (y : Batch) × Contains (change_newest grow xs) y × IsGrown x y
  newest-forth [] x h = absurd (none_in _ h)
  newest-forth (b ∷ []) x h = (grow b, contains_first (grow b) [], subst (λ (z : Batch). IsGrown z (grow b)) (only b x h) (grown-more b))
  newest-forth (b ∷ c ∷ rest) x h =
      elim (cases_cons b (c ∷ rest) x h) [
        | inl e ↦ (b, contains_first b (change_newest grow (c ∷ rest)), subst (λ (z : Batch). IsGrown z b) e (grown-same b))
        | inr later ↦ let t = newest-forth (c ∷ rest) x later in (t.0, contains_later b (change_newest grow (c ∷ rest)) t.0 t.1, t.2)
      ]

  newest-apart : (xs : List Batch) → AllPairs AreOtherSlots xs → AllPairs AreOtherSlots (change_newest grow xs)
  newest-apart [] h = pairs-none AreOtherSlots
  newest-apart (b ∷ []) h = pairs-cons AreOtherSlots (grow b) [] (λ y c. absurd (none_in _ c)) (pairs-none AreOtherSlots)
  newest-apart (b ∷ c ∷ rest) h =
      pairs-cons AreOtherSlots b (change_newest grow (c ∷ rest))
      (λ y among.
      let t = newest-back (c ∷ rest) y among in
      λ for_slot. pairs-first AreOtherSlots b (c ∷ rest) h t.0 t.1 (for_slot.0 ∙ sym t.2.layer, for_slot.1 ∙ sym t.2.slot))
      (newest-apart (c ∷ rest) (pairs-rest AreOtherSlots b (c ∷ rest) h))

  newest-marks : (xs : List Batch) → flat_map (λ b. b.marked) (change_newest grow xs) ≡ flat_map (λ b. b.marked) xs
  newest-marks [] = refl
  newest-marks (b ∷ []) = refl
  newest-marks (b ∷ c ∷ rest) = ap (λ (l : List Marked). b.marked ++ l) (newest-marks (c ∷ rest))

  -- no slot and no mark is another
  pub newest-changes : (all xs : List Batch) → ChangesBatches all xs (change_newest grow xs)
  newest-changes all xs = record {
    apart = newest-apart xs;
    keyed = λ y among. let t = newest-back xs y among in inl (t.0, t.1, t.2.layer, t.2.slot);
    marks = newest-marks xs;
    back = λ y m among marked.
        let t = newest-back xs y among in
        (t.0, t.1, subst (λ (l : List Marked). Contains l m) (sym t.2.marked) marked, t.2.layer, t.2.slot, t.2.nodes);
    forth = λ x m among marked.
        let t = newest-forth xs x among in
        (t.0, t.1, subst (λ (l : List Marked). Contains l m) t.2.marked marked);
  }

  -- slots are held as before
  pub newest-holds : (xs : List Batch) (l t : ℕ) → ((b : Batch) × Contains xs b × IsForSlot l t b) → (b : Batch) × Contains (change_newest grow xs) b × IsForSlot l t b
  newest-holds xs l t h =
      let u = newest-forth xs h.0 h.1 in
      (u.0, u.1, (sym u.2.layer ∙ h.2.0, sym u.2.slot ∙ h.2.1))

  pub newest-held : (xs : List Batch) (l t : ℕ) → ((b : Batch) × Contains (change_newest grow xs) b × IsForSlot l t b) → (b : Batch) × Contains xs b × IsForSlot l t b
  newest-held xs l t h =
      let u = newest-back xs h.0 h.1 in
      (u.0, u.1, (u.2.layer ∙ h.2.0, u.2.slot ∙ h.2.1))

  -- and of nodes there is one more, the last
  pub newest-nodes : (xs : List Batch) → xs ≢ [] → flat_map (λ b. b.nodes) (change_newest grow xs) ≡ flat_map (λ b. b.nodes) xs ++ node ∷ []
  newest-nodes [] some = absurd (some refl)
  newest-nodes (b ∷ []) some = append-nil (b.nodes ++ node ∷ []) ∙ ap (λ (l : List ℕ). l ++ node ∷ []) (sym (append-nil b.nodes))
  newest-nodes (b ∷ c ∷ rest) some =
      ap (λ (l : List ℕ). b.nodes ++ l) (newest-nodes (c ∷ rest) (λ e. absurd cc))
      ∙ sym (append_assoc b.nodes (flat_map (λ (x : Batch). x.nodes) (c ∷ rest)) (node ∷ []))
