-- What a pass has written in nodes, after one word more and without some nodes.
use Rattle.std.specs.Prelude.{not}
use Rattle.std.proofs.Common.{◌≡◌, ℕ, ◌==◌, ◌++◌, ◌∷◌, Bool, true, false, cond, List, [], Option, Some, None, Contains, filter, refl, ap, sym, ◌∙◌, subst}
use Rattle.std.proofs.lemmas.Bool.{eqb-true, false_from_ne_true}
use Rattle.std.proofs.lemmas.List.{append-nil}
use Rattle.std.proofs.lemmas.List.Elements.{Contains-append_left, Contains-append_right, filter-append}
use Rattle.std.proofs.lemmas.Map.Views.{Contains-from_any}
use Rattle.word_map.specs.declared.name.Name.{Name}
use Rattle.core_state.specs.declared.item.Store.{Store}
use Rattle.core_state.specs.Names.{same_name}
use Rattle.core_state.specs.Nodes.{node_in}
use Rattle.core_state.specs.Batches.{also_written, is_in_nodes, written_outside}
use Rattle.core_state.proofs.Beginning.{contains_first, contains_filter}
use Rattle.core_state.proofs.SameNames.{same_name-equal, same_name-other}
use Rattle.core_batch.proofs.Attached.{there-in_nodes}
use Rattle.core_batch.proofs.Lists.{filter_from}
use Rattle.batch_add.specs.Drawing.{HasWritten, WritesOnly}
use Rattle.batch_add.proofs.DrawWords.{StoresBeside}
use Rattle.batch_add.proofs.GiveLists.{filter_all}

-- ---- one word more

-- the word is written, and what else was written still is
pub written-beside : (name : Name) (value : ℕ) (written : List Store) → StoresBeside (HasWritten written) (HasWritten (also_written name value written)) name value
written-beside name value written =
    let others = filter (λ (s : Store). not (same_name s.name name)) written in
    let new : Store = record { name = name; value = value } in
    record {
      now = Contains-append_right others (new ∷ []) new (contains_first new []);
      others = λ other here apart has.
          let old : Store = record { name = other; value = here } in
          Contains-append_left others (new ∷ []) old
          (contains_filter (λ (s : Store). not (same_name s.name name)) written old has (ap not (same_name-other other name (λ e. apart (sym e)))));
    }

-- what the first test leaves out the second does not pass
filter_beside : {X : Type 0} (one two : X → Bool) (xs : List X) → ((x : X) → one x ≡ false → two x ≡ false) → filter two (filter one xs) ≡ filter two xs
filter_beside one two [] out = refl
filter_beside {X} one two (x ∷ xs) out = go (one x) refl (filter_beside one two xs out)
  where
    go : (t : Bool) → one x ≡ t → filter two (filter one xs) ≡ filter two xs → filter two (filter one (x ∷ xs)) ≡ filter two (x ∷ xs)
    go true e rest = ap (λ (t : Bool). filter two (cond t (x ∷ filter one xs) (filter one xs))) e ∙ ap (λ (l : List X). cond (two x) (x ∷ l) l) rest
    go false e rest =
        ap (λ (t : Bool). filter two (cond t (x ∷ filter one xs) (filter one xs))) e
        ∙ (rest ∙ sym (ap (λ (t : Bool). cond t (x ∷ filter two xs) (filter two xs)) (out x e)))

module _ (nodes : List ℕ) where
  abbrev is_outside : Store → Bool
  is_outside s = not (is_in_nodes nodes (node_in s.name))

  -- a word of a node among them is no other
  inside : (s : Store) (n : ℕ) → node_in s.name ≡ Some n → Contains nodes n → is_outside s ≡ false
  inside s n of_node among = ap (λ (o : Bool). not o) (ap (is_in_nodes nodes) of_node ∙ there-in_nodes nodes n among)

  outside : (s : Store) (n : ℕ) → node_in s.name ≡ Some n → ¬ Contains nodes n → is_outside s ≡ true
  outside s n of_node other =
      ap not
      (ap (is_in_nodes nodes) of_node
      ∙ false_from_ne_true (is_in_nodes nodes (Some n)) (λ any. other (Contains-from_any {eq = λ a b. b == a} (λ x y e. sym (eqb-true y x e)) n nodes any)))

  -- a word of these nodes changes nothing outside of them
  pub outside-also : (name : Name) (n value : ℕ) (written : List Store) → node_in name ≡ Some n → Contains nodes n
      → written_outside nodes (also_written name value written) ≡ written_outside nodes written
  outside-also name n value written of_node among =
      let new : Store = record { name = name; value = value } in
      let others = filter (λ (s : Store). not (same_name s.name name)) written in
      filter-append is_outside others (new ∷ [])
      ∙ (ap (λ (t : Bool). filter is_outside others ++ cond t (new ∷ []) []) (inside new n of_node among)
      ∙ (append-nil (filter is_outside others) ∙ filter_beside (λ (s : Store). not (same_name s.name name)) is_outside written same))
    where
      not_false : (t : Bool) → not t ≡ false → t ≡ true
      not_false true e = refl
      not_false false e = sym e

      same : (s : Store) → not (same_name s.name name) ≡ false → is_outside s ≡ false
      same s e = inside s n (ap node_in (same_name-equal s.name name (not_false (same_name s.name name) e)) ∙ of_node) among

  -- what was written in another node is still written
  pub outside-keeps : (written : List Store) (s : Store) (n : ℕ) → Contains written s → node_in s.name ≡ Some n → ¬ Contains nodes n → Contains (written_outside nodes written) s
  outside-keeps written s n has of_node other = contains_filter is_outside written s has (outside s n of_node other)

  pub only-keeps : (before written : List Store) → WritesOnly nodes before written → (s : Store) (n : ℕ) → Contains before s → node_in s.name ≡ Some n → ¬ Contains nodes n → Contains written s
  only-keeps before written only s n has of_node other =
      (filter_from is_outside written s (subst (λ (l : List Store). Contains l s) (sym only) (outside-keeps before s n has of_node other))).0

  -- where nothing was written in them, all is outside
  pub outside-all : (written : List Store) → ((s : Store) → Contains written s → (n : ℕ) → node_in s.name ≡ Some n → ¬ Contains nodes n) → written_outside nodes written ≡ written
  outside-all written none = filter_all is_outside written (λ s has. each s has (node_in s.name) refl)
    where
      each : (s : Store) → Contains written s → (o : Option ℕ) → node_in s.name ≡ o → is_outside s ≡ true
      each s has None e = ap (λ (o : Option ℕ). not (is_in_nodes nodes o)) e
      each s has (Some n) e = outside s n e (none s has n e)
