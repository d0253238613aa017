-- Exchanging a main word: the next one, once all bodies that were noted are placed or given up.
use Rattle.std.proofs.Common.{◌≡◌, ◌≢◌, ◌⊎◌, ℕ, suc, ◌+◌, ◌<◌, ◌≤◌, List, [], ◌∷◌, ◌++◌, length, Bool, cond, Option, option_map, Some, None, true, false, refl, ap, sym, ◌∙◌, subst, inl, inr, arith}
use Rattle.std.specs.Prelude.{Contains, slice_index, not, map, filter, ◌==◌}
use Rattle.std.proofs.lemmas.Bool.{cases_eq, eq-eqb, eqb-true, false≢true}
use Rattle.std.proofs.lemmas.Option.{same_Some}
use Rattle.std.proofs.lemmas.List.{get_or_append_left, length-append}
use Rattle.std.proofs.Math.Seq.{get_or-append_seam}
use Rattle.word_map.specs.declared.config.Config.{Config}
use Rattle.word_map.specs.declared.name.Name.{Name}
use Rattle.word_map.specs.declared.name.Name.TheVariants.{Main, Slot}
use Rattle.word_map.specs.Names.{IsName}
use Rattle.core_state.specs.declared.item.Store.{Store}
use Rattle.core_state.specs.declared.view.NewNode.{NewNode}
use Rattle.core_state.specs.declared.view.Noted.{Noted}
use Rattle.core_state.specs.declared.view.Rebuild.{Rebuild}
use Rattle.core_state.specs.declared.view.View.{View}
use Rattle.core_state.specs.Batches.{is_in_nodes, written_outside}
use Rattle.core_state.specs.Core.{Core, word_of}
use Rattle.core_state.specs.Kind.{Step, found_by, learned, log_after}
use Rattle.core_state.specs.Encoding.{NamesRoot, layer_of}
use Rattle.core_state.specs.Exchanging.{MayExchange, exchange_main, IsNewMain, of_none, of_tree, nodes_made, nodes_made_in, with_exchange, exchanged_view}
use Rattle.core_state.specs.Nodes.{made, under, node_in}
use Rattle.core_state.specs.NodesInOnePlace.{node_scope}
use Rattle.core_state.specs.Parts.{update_on_nodes}
use Rattle.core_state.specs.TreesSound.{IsSupersededRoot, of_main, of_slot}
use Rattle.core_state.specs.Updates.{IsOldTree, IsMadeIn}
use Rattle.core_state.proofs.Beginning.{contains_filter}
use Rattle.core_state.proofs.Opening.{none_in}
use Rattle.core_state.proofs.Steps.{word-step}
use Rattle.core_batch.proofs.Attached.{there-in_nodes}
use Rattle.core_batch.proofs.Lists.{contains_map, map_from, filter_from}
use Rattle.core_guard.proofs.Leaving.{Acts, After, Last}
use Rattle.core_guard.proofs.Settled.{sound}
use Rattle.core_update.proofs.OwnUpdate.{has-own, holds-own}
use Rattle.core_update.proofs.Publishing.{Published, Publishes, is_tree_name}

abbrev layer_named : Name → ℕ
layer_named (Main l) = l
layer_named _ = 0

module _ (core : Core) (step : Step) (a : Acts core step) (asked : MayExchange step.view step.name step.first step.second) where
  abbrev pub r : Rebuild
  r = asked.r

  abbrev layer : ℕ
  layer = asked.layer

  abbrev found : ℕ
  found = found_by core step

  abbrev pub q : Published
  q = record {
    swapped = r.swapped ++ found_by core step ∷ [];
    cleared = r.cleared;
    nodes = (with_exchange asked.layer (found_by core step) r).nodes;
    made = (with_exchange asked.layer (found_by core step) r).made;
  }

  abbrev finish : View → View
  finish v = record v { config = step.view.config; role = step.view.role; known = log_after exchange_main core step; joined = None }

  pub last : Last exchange_main core step
      ≡ record step.view { rebuild = Some (with_exchange asked.layer (found_by core step) r); written = written_outside (nodes_made r asked.layer) step.view.written; known = log_after exchange_main core step; joined = None }
  last =
      ap (λ (n : Name). finish (exchanged_view (learned core step) n found)) asked.names ∙
      ap (λ (o : Option Rebuild). record step.view { rebuild = option_map (with_exchange layer found) o; written = written_outside (nodes_made_in o layer) step.view.written; known = log_after exchange_main core step; joined = None }) asked.update

  pub longer : length q.swapped ≡ length r.swapped + 1
  longer = length-append r.swapped (found ∷ [])

  -- ---- the word

  pub main-layer : (l : ℕ) → Main l ≡ step.name → l ≡ layer
  main-layer l e = ap layer_named (e ∙ asked.names)

  not-slot : (l t : ℕ) → Slot l t ≢ step.name
  not-slot l t e = apart (e ∙ asked.names)
    where
      apart : Slot l t ≡ Main layer → ⊥
      apart e = absurd cc

  named-layer : layer < core.config.layers
  named-layer = subst (IsName core.config) asked.names a.named

  value-now : word_of (After exchange_main core step) step.name ≡ slice_index r.roots layer
  value-now = word-step exchange_main core step ∙ asked.root

  -- ---- the nodes of the new tree

  -- those are its nodes
  pub of-made : (n : ℕ) → Contains (nodes_made r layer) n → (r.is_planned ≡ true) × Contains r.made (record { layer = layer; node = n })
  of-made n among = go r.is_planned refl among
    where
      go : (t : Bool) → r.is_planned ≡ t → Contains (cond t (map (λ m. m.node) (filter (λ m. m.layer == layer) r.made)) []) n → (r.is_planned ≡ true) × Contains r.made (record { layer = layer; node = n })
      go true e h =
          let t = map_from (λ (m : NewNode). m.node) (filter (λ m. m.layer == layer) r.made) n h in
          let u = filter_from (λ (m : NewNode). m.layer == layer) r.made t.0 t.1 in
          let same : t.0 ≡ record { layer = layer; node = n } = λ i. record { layer = eqb-true t.0.layer layer u.1 i; node = t.2 i } in
          (e, subst (λ (m : NewNode). Contains r.made m) same u.0)
      go false e h = absurd (none_in n h)

  pub made-of : (n : ℕ) → r.is_planned ≡ true → Contains r.made (record { layer = layer; node = n }) → Contains (nodes_made r layer) n
  made-of n planned among =
      subst (λ (t : Bool). Contains (cond t (map (λ m. m.node) (filter (λ m. m.layer == layer) r.made)) []) n) (sym planned)
      (contains_map (λ (m : NewNode). m.node) (filter (λ m. m.layer == layer) r.made) (record { layer = layer; node = n })
      (contains_filter (λ (m : NewNode). m.layer == layer) r.made (record { layer = layer; node = n }) among (eq-eqb layer layer refl)))

  pub made-home : (n : ℕ) → Contains (nodes_made r layer) n → a.laws.nodes.home n ≡ made step.number layer
  made-home n among =
      let t = of-made n among in
      let next = asked.next in
      (a.laws.places.made_by n step.number layer).1
      (holds-own exchange_main core step a r asked.update node_scope (λ k v. refl) update_on_nodes (λ bare v. refl) (λ y. IsMadeIn core.config y layer n) (t.0, omega arith, named-layer, t.1))

  pub home-made : (n : ℕ) → a.laws.nodes.home n ≡ made step.number layer → Contains (nodes_made r layer) n
  home-made n home =
      let t =
      (has-own exchange_main core step a r asked.update node_scope (λ k v. refl) update_on_nodes (λ bare v. refl) step.number (λ y. IsMadeIn core.config y layer n)
      ((a.laws.places.made_by n step.number layer).0 home)).1
      in
      made-of n t.0 t.3

  -- ---- all that is to be shown

  gone : (name : Name) (root : ℕ) → IsSupersededRoot r name root → IsSupersededRoot (with_exchange layer found r) name root
  gone name root (of_main l m below e) = let more = longer in of_main l m (omega arith) (get_or_append_left r.swapped (found ∷ []) 0 l below ∙ e)
  gone name root (of_slot l t m k below inside e) = of_slot l t m k below inside e

  gone-before : (name : Name) (root : ℕ) → IsSupersededRoot (with_exchange layer found r) name root → IsSupersededRoot r name root ⊎ ((name ≡ step.name) × NamesRoot step.name (word_of core step.name) root)
  gone-before name root (of_slot l t m k below inside e) = inl (of_slot l t m k below inside e)
  gone-before name root (of_main l m below e) =
      elim (cases_eq l (length r.swapped)) [
        | inr apart ↦
            let more = longer in
            let less : l < length r.swapped = omega arith in
            inl (of_main l m less (sym (get_or_append_left r.swapped (found ∷ []) 0 l less) ∙ e))
        | inl same ↦
            let value : found ≡ suc m = sym (get_or-append_seam r.swapped found [] 0) ∙ (ap (slice_index q.swapped) (sym same) ∙ e) in
            let name : Main l ≡ step.name = ap Main (same ∙ sym asked.next) ∙ sym asked.names in
            inr (name, subst (λ (name : Name). NamesRoot name (word_of core name) m) (sym asked.names) (ap (word_of core) (sym asked.names) ∙ value))
      ]

  pub publishes : Publishes exchange_main core step a r q
  publishes = record {
    update = asked.update;
    tree_word = ap is_tree_name asked.names;
    plain = λ value. refl;
    rebuild = ap (λ (v : View). v.rebuild) last;
    call = ap (λ (v : View). v.call) last;
    batches = ap (λ (v : View). v.batches) last;
    loose = ap (λ (v : View). v.loose) last;
    locks = ap (λ (v : View). v.locks) last;
    walk = ap (λ (v : View). v.walk) last;
    all_bodies = asked.all_bodies ∙ ap (λ (c : Config). c.bodies) (sound core step a).config;
    planned = λ n among. elim (asked.planned) [ inl is ↦ is | inr none ↦ absurd (none_in n (subst (λ (l : List Noted). Contains l n) none among)) ];
    done = asked.done;
    unread = asked.unread;
    unreclaimed = asked.unreclaimed;
    old = subst (λ (name : Name). IsOldTree r (under name)) (sym asked.names) (let next = asked.next in omega arith);
    longer = let more = longer in omega arith;
    left = λ l above. let more = longer in let next = asked.next in (omega arith, λ one. let same = main-layer l one in absurd (omega arith));
    still_left = λ l above other. beyond l above (λ same. other (ap Main (same ∙ sym asked.next) ∙ sym asked.names));
    exchanged = λ l below one. let same = main-layer l one in let next = asked.next in absurd (omega arith);
    now = λ l below. before l below;
    layer = λ l of.
        let same : layer ≡ l = same_Some layer l (ap layer_of (sym asked.names) ∙ of) in
        let more = longer in
        let next = asked.next in
        omega arith;
    merged = λ l t root still. (still, not-slot l t);
    still_merged = λ l t root still other. still;
    taken = λ root names.
        let value : found ≡ suc root = ap (word_of core) asked.names ∙ subst (λ (name : Name). NamesRoot name (word_of core name) root) asked.names names in
        let more = longer in
        let next = asked.next in
        subst (λ (name : Name). IsSupersededRoot (with_exchange layer found r) name root) (sym asked.names)
        (of_main layer root (omega arith) (ap (slice_index q.swapped) next ∙ (get_or-append_seam r.swapped found [] 0 ∙ value)));
    gone = gone;
    gone_before = gone-before;
    named = λ root names.
        let value : slice_index r.roots layer ≡ suc root = sym value-now ∙ (ap (word_of (After exchange_main core step)) asked.names ∙ subst (λ (name : Name). NamesRoot name (word_of (After exchange_main core step) name) root) asked.names names) in
        let next = asked.next in
        (layer, sym asked.names, is-planned root (asked.root ∙ value), omega arith, value);
    emptied = λ l t one. absurd (not-slot l t one);
    names = λ l root one e.
        subst (λ (name : Name). NamesRoot name (word_of (After exchange_main core step) name) root) (sym asked.names)
        (ap (word_of (After exchange_main core step)) (sym asked.names) ∙ (value-now ∙ (ap (slice_index r.roots) (sym (main-layer l one)) ∙ e)));
    written = λ store among.
        let t = filter_from (λ (s : Store). not (is_in_nodes (nodes_made r layer) (node_in s.name))) step.view.written store (subst (λ (v : View). Contains v.written store) last among) in (
          t.0,
          λ n l of home one.
              let there : is_in_nodes (nodes_made r layer) (node_in store.name) ≡ true = ap (is_in_nodes (nodes_made r layer)) of ∙ there-in_nodes (nodes_made r layer) n (home-made n (home ∙ ap (made step.number) (main-layer l one))) in
              false≢true (ap not (sym there) ∙ t.1),
        );
  }
    where
      beyond : (l : ℕ) → length r.swapped ≤ l → l ≢ length r.swapped → length q.swapped ≤ l
      beyond l above apart = let more = longer in omega arith

      before : (l : ℕ) → l < length q.swapped → (l < length r.swapped) ⊎ (Main l ≡ step.name)
      before l below =
          elim (cases_eq l (length r.swapped)) [
            | inl same ↦ inr (ap Main (same ∙ sym asked.next) ∙ sym asked.names)
            | inr apart ↦ let more = longer in inl (omega arith)
          ]

      -- a root is named only where the trees are planned
      is-planned : (root : ℕ) → step.first ≡ suc root → r.is_planned ≡ true
      is-planned root value = go asked.of_notes
        where
          go : IsNewMain step.view r layer step.first → r.is_planned ≡ true
          go (of_none none empty) = absurd (omega arith)
          go (of_tree root bodies planned value notes some tree) = planned
