-- The load of a reader after which no pass can reach what the update took out of sight: every body that was placed is promoted,
-- and each pass was found not to walk, or to have ended the walk that it was in.
use Rattle.std.proofs.Common.{Bool, Option, Some, [], ap, arith, false, inl, inr, refl, subst, sym, true, ℕ, ◌%◌, ◌<◌, ◌∙◌, ◌≡◌, ◌≢◌, ◌⊎◌, length, eq-eqb}
use Rattle.std.proofs.lemmas.Bool.{and_parts, cases_eq, eqb-true, false≢true}
use Rattle.std.proofs.lemmas.List.Folds.{list_any_at}
use Rattle.std.specs.List.{list_any, range_with_len}
use Rattle.std.specs.Prelude.{Contains, IfSome, List, ◌∷◌, ◌==◌, ◌||◌, not}
use Rattle.word_map.specs.declared.config.Config.{Config}
use Rattle.word_map.specs.declared.name.Name.{Name}
use Rattle.word_map.specs.declared.name.Name.TheVariants.{Reader}
use Rattle.core_state.specs.Core.{Core, IsViewAt}
use Rattle.core_state.specs.Kind.{Step, view_after}
use Rattle.core_state.specs.LocationsHold.{IsLocation, location_scope}
use Rattle.core_state.specs.Nodes.{Nodes, superseded, returning}
use Rattle.core_state.specs.NodesInOnePlace.{IsOfReplaced, node_scope}
use Rattle.core_state.specs.Parts.{update_on_nodes, update_on_trees}
use Rattle.core_state.specs.Retiring.{MayLoadReader, is_of_reader, differs_from, is_seen_off, is_unreached, are_all_promoted, shows_off, load_reader, reclaimed_if, with_tops}
use Rattle.core_state.specs.Scope.{sight}
use Rattle.core_state.specs.TreesSound.{AreTops, tree_scope}
use Rattle.core_state.specs.View.{IsPass}
use Rattle.core_state.specs.declared.item.Load.{Load}
use Rattle.core_state.specs.declared.view.Rebuild.{Rebuild}
use Rattle.core_state.specs.declared.view.View.{View}
use Rattle.core_state.specs.declared.view.Waiting.{Waiting}
use Rattle.core_state.proofs.Beginning.{contains_first}
use Rattle.core_state.proofs.SameNames.{same_name-equal}
use Rattle.core_guard.proofs.FreeIndexes.{range_has}
use Rattle.core_guard.proofs.Leaving.{Acts}
use Rattle.core_guard.proofs.Settled.{sound}
use Rattle.core_update.proofs.AtRest.{IsQuietUpdate, no-second, quiet-alone}
use Rattle.core_update.proofs.MergedTrees.{any-from, any_cases}
use Rattle.core_update.proofs.OwnUpdate.{each-own, has-own}
use Rattle.core_update.proofs.ReaderLoads.{alone, loaded, rebuilds}
use Rattle.core_update.proofs.Rebuilt.{Rebuilds, rebuilt}
use Rattle.core_update.proofs.Reclaiming.{IsInSight}

-- ---- the tests

-- what no element fails each one passes
pub all-from : {X : Type 0} (p : X → Bool) (xs : List X) → not (list_any (λ x. not (p x)) xs) ≡ true → (x : X) → Contains xs x → p x ≡ true
all-from p xs none x among = go (p x) refl
  where
    go : (b : Bool) → p x ≡ b → p x ≡ true
    go true e = e
    go false e = absurd (false≢true (sym (ap not (list_any_at (λ y. not (p y)) xs among.0 x among.1 (ap (λ y. not (p y)) among.2 ∙ ap not e))) ∙ none))

-- of two values that differ one is not the present one
pub shown-off : (readers : List Load) (q now : ℕ) → is_seen_off readers q ≡ true → (value : ℕ) × Contains readers (record { name = Reader q; value = value }) × ((value % 2 ≡ 0) ⊎ (value ≢ now))
shown-off readers q now off =
    let t = any-from (shows_off q readers) readers off in
    let both = and_parts (is_of_reader q t.0) ((t.0.value % 2 == 0) || list_any (differs_from q t.0) readers) t.2 in
    let one = named t.0 t.1 both.0 in
    elim (any_cases (t.0.value % 2 == 0) (list_any (differs_from q t.0) readers) both.1) [
      | inl even ↦ (t.0.value, one, inl (eqb-true (t.0.value % 2) 0 even))
      | inr other ↦
          let u = any-from (differs_from q t.0) readers other in
          let two = and_parts (is_of_reader q u.0) (not (u.0.value == t.0.value)) u.2 in
          elim (cases_eq t.0.value now) [
            | inr apart ↦ (t.0.value, one, inr apart)
            | inl present ↦
                (u.0.value, named u.0 u.1 two.0, inr (λ again. false≢true (sym (ap not (eq-eqb u.0.value t.0.value (again ∙ sym present))) ∙ two.1)))
          ]
    ]
  where
    named : (l : Load) → Contains readers l → is_of_reader q l ≡ true → Contains readers (record { name = Reader q; value = l.value })
    named l among of = subst (Contains readers) (λ i. record { name = same_name-equal l.name (Reader q) of i; value = l.value }) among

module _ (core : Core) (step : Step) (a : Acts core step) (asked : MayLoadReader step.view step.name step.first step.second) where
  abbrev r : Rebuild
  r = asked.r

  abbrev nodes : Nodes
  nodes = a.laws.nodes

  -- ---- until then nothing is to be given back, and what is out of sight is so by the update of the pass

  pub none-returning : (n number : ℕ) → nodes.home n ≢ returning number
  none-returning n number e =
      let t = has-own load_reader core step a r asked.update node_scope (λ k v. refl) update_on_nodes (λ bare v. refl) number (λ y. y.is_reclaimed ≡ true) (a.laws.places.returning_by n number e).1 in
      false≢true (sym asked.unreclaimed ∙ t.1)

  pub superseded-own : (n number : ℕ) (name : Name) → nodes.home n ≡ superseded number name → (step.number ≡ number) × IsOfReplaced core.config (update_on_nodes r) name n
  superseded-own n number name e =
      let t =
      has-own load_reader core step a r asked.update node_scope (λ k v. refl) update_on_nodes (λ bare v. refl) number (λ y. (y.is_reclaimed ≡ false) × IsOfReplaced core.config y name n)
      (a.laws.places.superseded_by n number name e)
      in
      (t.0, t.1.1)

  no-tops : (tops : List Waiting) → r.returning ≡ tops → r.returning ≡ []
  no-tops [] e = e
  no-tops (w ∷ rest) e =
      let t = each-own load_reader core step a r asked.update tree_scope (λ k v. refl) update_on_trees (λ bare v. refl) (λ number v y. AreTops nodes (sight tree_scope core) number y) a.laws.trees.tops in
      absurd (none-returning w.node step.number (t.tops w (subst (λ (l : List Waiting). Contains l w) (sym e) (contains_first w rest))).owned)

  -- ---- the last one

  module _ (unreached : is_unreached step.view.config (loaded core step a asked) ≡ true) where
    -- what the update is then
    abbrev pub last : Rebuild
    last = with_tops (loaded core step a asked)

    pub is-last : reclaimed_if (is_unreached step.view.config (loaded core step a asked)) (loaded core step a asked) ≡ last
    is-last = ap (λ (test : Bool). reclaimed_if test (loaded core step a asked)) unreached

    pub rebuilds-last : Rebuilds load_reader core step (Some last)
    rebuilds-last = rebuilds core step a asked last is-last

    pub left-last : (view_after load_reader core step).rebuild ≡ Some last
    left-last = ap (λ (v : View). v.rebuild) (rebuilt load_reader core step a (Some last) rebuilds-last)

    -- ---- what holds then

    tests : (are_all_promoted r ≡ true) × (not (list_any (λ number. not (is_seen_off (loaded core step a asked).readers number)) (range_with_len 0 step.view.config.passes)) ≡ true)
    tests = and_parts (are_all_promoted r) _ unreached

    promoted : (i : ℕ) → Contains r.placed i → Contains r.promoted i
    promoted i among =
        let t = any-from (λ j. j == i) r.promoted (all-from (λ k. list_any (λ j. j == k) r.promoted) r.placed tests.0 i among) in
        subst (Contains r.promoted) (eqb-true t.0 i t.2) t.1

    -- the pass was seen off
    pub off : (q now : ℕ) → q < core.config.passes → (value : ℕ) × Contains (loaded core step a asked).readers (record { name = Reader q; value = value }) × ((value % 2 ≡ 0) ⊎ (value ≢ now))
    off q now below =
        let wide : q < step.view.config.passes = subst (λ (c : Config). q < c.passes) (sym (sound core step a).config) below in
        shown-off (loaded core step a asked).readers q now
        (all-from (is_seen_off (loaded core step a asked).readers) (range_with_len 0 step.view.config.passes) tests.1 q (range_has 0 step.view.config.passes q (omega arith) (let low = wide in omega arith)))

    pub all-swapped : length r.swapped ≡ core.config.layers
    all-swapped = asked.published.all_swapped ∙ ap (λ (c : Config). c.layers) (sound core step a).config

    pub quiet : (seat number : ℕ) (view : View) → IsViewAt core seat view → IsPass view number → IfSome view.rebuild (IsQuietUpdate core.config)
    quiet =
        quiet-alone core step a.at (alone core step a asked)
        (subst (λ (o : Option Rebuild). IfSome o (IsQuietUpdate core.config)) (sym asked.update)
        (record { promoted = promoted; published = λ planned. let all = all-swapped in omega arith; returned = no-tops r.returning refl }))

    -- no body is in a tree that is out of sight
    pub none-there : (i n k : ℕ) → IsLocation (sight location_scope core) i n k → IsInSight (nodes.home n)
    none-there i n k location number name home =
        let none = no-second core a.laws quiet i in
        elim (location.1) [
          | inl first ↦ a.laws.cover.replaced i n k number name location.0 first home none
          | inr second ↦ absurd (omega arith)
        ]
