-- What an update has noted, once it has looked at one body more: that of the next index, which it notes where the body is in a
-- tree that it replaces.
use Rattle.std.proofs.Common.{Contains, List, [], arith, inl, inr, subst, sym, ℕ, ◌++◌, ◌+◌, ◌<◌, ◌∙◌, ◌≡◌, ◌≢◌, ◌⊎◌}
use Rattle.std.proofs.lemmas.List.{map-append}
use Rattle.std.proofs.lemmas.Bool.{cases_eq}
use Rattle.std.proofs.lemmas.List.Elements.{Contains-append_cases, Contains-append_left, Contains-append_right}
use Rattle.std.specs.Prelude.{map}
use Rattle.scene_model.specs.Step.{HasBody}
use Rattle.word_map.specs.declared.name.Name.TheVariants.{Main, Phase, Slot}
use Rattle.core_state.specs.BodiesCovered.{IsAsNoted, IsInOldTree, NotesHold}
use Rattle.core_state.specs.Encoding.{phase_join, place, sides_of}
use Rattle.core_state.specs.Nodes.{Home, Nodes, under}
use Rattle.core_state.specs.Scope.{IsOnce, Sight, scene_in}
use Rattle.core_state.specs.Space.{HadAs}
use Rattle.core_state.specs.Updates.{IsDone, IsNoted, IsOldTree, IsStillMerged}
use Rattle.core_state.specs.declared.view.Noted.{Noted}
use Rattle.core_state.specs.declared.view.Rebuild.{Rebuild}
use Rattle.core_state.specs.declared.view.View.{View}
use Rattle.core_state.proofs.Opening.{none_in}
use Rattle.core_guard.proofs.ReadersLeft.{map-back}
use Rattle.core_batch.proofs.Lists.{pairs-append}

-- a tree that it replaces is one whatever it has noted
more-old : (r : Rebuild) (passed : ℕ) (noted : List Noted) (home : Home) → IsOldTree r home → IsOldTree (record r { passed = passed; noted = noted }) home
more-old r passed noted (under (Main l)) h = h
more-old r passed noted (under (Slot l t)) h = h
more-old r passed noted (under _) h = absurd h
more-old r passed noted _ h = absurd h

less-old : (r : Rebuild) (passed : ℕ) (noted : List Noted) (home : Home) → IsOldTree (record r { passed = passed; noted = noted }) home → IsOldTree r home
less-old r passed noted (under (Main l)) h = h
less-old r passed noted (under (Slot l t)) h = h
less-old r passed noted (under _) h = absurd h
less-old r passed noted _ h = absurd h

module _ (nodes : Nodes) (s : Sight) (view : View) (r : Rebuild) (index : ℕ) where
  -- a note of the body
  pub record IsNewNote (n : Noted) : Type 0 where
    pub index_is : n.index ≡ index
    pub tree : IsInOldTree nodes s r index
    pub noted : IsAsNoted s n
    pub located : n.location ≢ 0
    pub in_old : (a : ℕ) × (b : ℕ) × (b < 4) × (n.location ≡ place a b) × IsOldTree r (nodes.home a)
    pub box : HadAs s r.from n (sides_of n.bounds)

  -- what is noted is such, and there is one where the body is in a tree that the update replaces, or may come there
  pub record LooksRight (extra : List Noted) : Type 0 where
    pub each : (n : Noted) → Contains extra n → IsNewNote n
    pub once : IsOnce (map (λ n. n.index) extra)
    pub in_tree : IsInOldTree nodes s r index → (n : Noted) × Contains extra n
    pub joins : (l t root : ℕ) → IsStillMerged r l t root → HasBody (scene_in s) index (λ b. b.layer ≡ l) → s.word (Phase index) ≡ phase_join t → (n : Noted) × Contains extra n

  module _ (extra : List Noted) (looks : LooksRight extra) (next : r.passed ≡ index) (placed : r.placed ≡ []) (given_up : r.given_up ≡ []) where
    abbrev Looked : Rebuild
    Looked = record r { passed = r.passed + 1; noted = r.noted ++ extra }

    none-done : (i : ℕ) → ¬ IsDone view Looked i
    none-done i done =
        elim done [
          | inl t ↦ none_in i (subst (λ (l : List ℕ). Contains l i) placed t.0)
          | inr t ↦ none_in i (subst (λ (l : List ℕ). Contains l i) given_up t)
        ]

    tree-less : (i : ℕ) → IsInOldTree nodes s Looked i → IsInOldTree nodes s r i
    tree-less i t = (t.0, t.1, t.2, t.3, less-old r (r.passed + 1) (r.noted ++ extra) (nodes.home t.0) t.4)

    tree-more : (i : ℕ) → IsInOldTree nodes s r i → IsInOldTree nodes s Looked i
    tree-more i t = (t.0, t.1, t.2, t.3, more-old r (r.passed + 1) (r.noted ++ extra) (nodes.home t.0) t.4)

    -- an index that was looked at is the new one, or was before
    looked-at : (i : ℕ) → i < r.passed + 1 → (i < r.passed) ⊎ (i ≡ index)
    looked-at i below =
        elim (cases_eq i index) [
          | inl same ↦ inr same
          | inr other ↦ inl (omega arith)
        ]

    noted-cases : (n : Noted) → Contains (r.noted ++ extra) n → Contains r.noted n ⊎ Contains extra n
    noted-cases n among = Contains-append_cases r.noted extra n among

    -- the new one is noted
    is-noted : (n : Noted) → Contains extra n → (i : ℕ) → i ≡ index → IsNoted Looked i (λ m. IsAsNoted s m)
    is-noted n among i same = let new = looks.each n among in (n, Contains-append_right r.noted extra n among, new.index_is ∙ sym same, new.noted)

    pub looked-to_place : ((i l t root : ℕ) → i < r.passed → IsStillMerged r l t root → HasBody (scene_in s) i (λ b. b.layer ≡ l) → s.word (Phase i) ≡ phase_join t → IsNoted r i (λ n. ¬ IsDone view r i))
        → (i l t root : ℕ) → i < Looked.passed → IsStillMerged Looked l t root → HasBody (scene_in s) i (λ b. b.layer ≡ l) → s.word (Phase i) ≡ phase_join t → IsNoted Looked i (λ n. ¬ IsDone view Looked i)
    looked-to_place was i l t root below merged body joins =
        elim (looked-at i below) [
          | inl before ↦ let n = was i l t root before merged body joins in (n.0, Contains-append_left r.noted extra n.0 n.1, n.2, none-done i)
          | inr same ↦
              let n = looks.joins l t root merged (subst (λ (j : ℕ). HasBody (scene_in s) j (λ b. b.layer ≡ l)) same body) (subst (λ (j : ℕ). s.word (Phase j) ≡ phase_join t) same joins) in
              (n.0, Contains-append_right r.noted extra n.0 n.1, (looks.each n.0 n.1).index_is ∙ sym same, none-done i)
        ]

    pub looked-notes : NotesHold nodes s view r → NotesHold nodes s view Looked
    looked-notes was = record {
      all_noted = λ i opened tree.
          elim (looked-at i opened.0) [
            | inl before ↦ let n = was.all_noted i (before, opened.1) (tree-less i tree) in (n.0, Contains-append_left r.noted extra n.0 n.1, n.2, n.3)
            | inr same ↦ let n = looks.in_tree (subst (IsInOldTree nodes s r) same (tree-less i tree)) in is-noted n.0 n.1 i same
          ];
      still_there = λ n among opened looking.
          elim (noted-cases n among) [
            | inl old ↦ let t = was.still_there n old (was.passed n old, opened.1) looking in (tree-more n.index t.0, t.1)
            | inr new ↦ let t = looks.each n new in (tree-more n.index (subst (IsInOldTree nodes s r) (sym t.index_is) t.tree), t.noted)
          ];
      located = λ n among. elim (noted-cases n among) [ inl old ↦ was.located n old | inr new ↦ (looks.each n new).located ];
      in_old = λ n among undone.
          elim (noted-cases n among) [
            | inl old ↦ let t = was.in_old n old undone in (t.0, t.1, t.2, t.3, more-old r (r.passed + 1) (r.noted ++ extra) (nodes.home t.0) t.4)
            | inr new ↦ let t = (looks.each n new).in_old in (t.0, t.1, t.2, t.3, more-old r (r.passed + 1) (r.noted ++ extra) (nodes.home t.0) t.4)
          ];
      placed = λ i among. absurd (none_in i (subst (λ (l : List ℕ). Contains l i) placed among));
      given_up = λ i among. absurd (none_in i (subst (λ (l : List ℕ). Contains l i) given_up among));
      once =
          subst IsOnce (sym (map-append (λ (n : Noted). n.index) r.noted extra))
          (pairs-append (λ a b. a ≢ b) (map (λ n. n.index) r.noted) (map (λ n. n.index) extra) was.once looks.once
          (λ a b front last same.
          let one = map-back (λ (n : Noted). n.index) r.noted a front in
          let two = map-back (λ (n : Noted). n.index) extra b last in
          let below = was.passed one.0 one.1 in
          let at = (looks.each two.0 two.1).index_is in
          let first = one.2 in
          let second = two.2 in
          absurd (omega arith)));
      passed = λ n among.
          elim (noted-cases n among) [
            | inl old ↦ let below = was.passed n old in omega arith
            | inr new ↦ let at = (looks.each n new).index_is in omega arith
          ];
      boxes = λ n among. elim (noted-cases n among) [ inl old ↦ was.boxes n old | inr new ↦ (looks.each n new).box ];
      begun = was.begun;
    }
