-- What a pass whose view is current knows of the nodes of its batches: their words are what it wrote, and each node is one
-- batch's.
use Rattle.std.proofs.Common.{◌≡◌, ◌≢◌, ℕ, ◌-◌, ◌<◌, ◌≤◌, ◌++◌, Bool, true, cond, List, Option, Some, None, All, Contains, refl, ap, sym, ◌∙◌, subst, inl, inr, arith}
use mathlib.Core.Logic.{∥∥₁_elim}
use Rattle.std.specs.Prelude.{flat_map, option_map, IfSome, IsSomeAnd}
use Rattle.std.proofs.Props.{props}
use Rattle.std.proofs.lemmas.Option.{none-some}
use Rattle.std.proofs.lemmas.List.Elements.{All-contains, Contains-append_left, Contains-append_cases}
use Rattle.word_map.specs.declared.config.Config.{Config}
use Rattle.word_map.specs.declared.name.Name.{Name}
use Rattle.word_map.specs.declared.name.Name.TheVariants.{Child, Bound, Parent}
use Rattle.core_state.specs.declared.item.Store.{Store}
use Rattle.core_state.specs.declared.view.Batch.{Batch}
use Rattle.core_state.specs.declared.view.Rebuild.{Rebuild}
use Rattle.core_state.specs.declared.view.View.{View}
use Rattle.core_state.specs.View.{IsPass, known_word}
use Rattle.core_state.specs.Core.{word_of}
use Rattle.core_state.specs.Scope.{sight, IsOnce}
use Rattle.core_state.specs.Encoding.{IsInArena}
use Rattle.core_state.specs.Parts.{update_on_nodes}
use Rattle.core_state.specs.Nodes.{Home, node_in, owned, IsOwnedBy, nodes_in, nodes_of}
use Rattle.core_state.specs.NodesInOnePlace.{node_scope}
use Rattle.core_state.specs.TreesSound.{is_tree_word, tree_scope, IsAsStored}
use Rattle.core_state.specs.Invariants.{Invariants}
use Rattle.core_state.specs.Batches.{batch_nodes_of, written_outside}
use Rattle.core_state.proofs.Opening.{none_in}
use Rattle.core_state.proofs.Beginning.{contains_flat}
use Rattle.core_guard.proofs.Seats.{each-seat}
use Rattle.core_guard.proofs.NodesLeft.{seen-nodes}
use Rattle.core_batch.proofs.Lists.{pairs-left, flat-once}
use Rattle.core_batch.proofs.Owning.{nodes_split, batch-home, owner-has}
use Rattle.pass_table.specs.Belongings.{belongings_of}
use Rattle.pass_table.specs.Bodies.{IsCurrent}
use Rattle.pass_table.proofs.Bodies.{known-now}
use Rattle.fixed_box.specs.declared.fix_box.FixBox.{FixBox}
use Rattle.batch_add.specs.declared.prepared.Prepared.{Prepared}
use Rattle.batch_add.specs.Drawing.{HasWritten, IsDrawn}
use Rattle.batch_add.specs.Prepared.{IsTheBatch}
use Rattle.batch_add.proofs.Batches.{among-middle}
use Rattle.batch_add.proofs.Drawn.{drawn-as}
use Rattle.batch_add.proofs.Written.{outside-all}

-- a word of a node is one of those of which the law of trees speaks
tree-named : (name : Name) (n : ℕ) → node_in name ≡ Some n → is_tree_word name ≡ true
tree-named (Child m k) n e = refl
tree-named (Bound m k q) n e = refl
tree-named (Parent m) n e = refl
tree-named _ n e = absurd (none-some n e)

-- the nodes of an update are no batch nodes
in_arena-above : (c : Config) (arena : Option ℕ) (n : ℕ) → IsSomeAnd arena (λ old. IsInArena c (1 - old) n) → c.nodes ≤ n
in_arena-above c None n h = absurd h
in_arena-above c (Some old) n h = let low = h.0 in omega arith

module _ (view : View) (number : ℕ) (pass : IsPass view number) (now : IsCurrent view) where
  abbrev laws : Invariants now.core
  laws = now.stands.laws

  -- who wrote in a node owns it, and the word is that
  owned_as : (s : Store) → Contains view.written s
      → IfSome (node_in s.name) (λ n. IsOwnedBy number (laws.nodes.home n) × IsAsStored (sight tree_scope now.core).word (laws.nodes.home n) s.name s.value)
  owned_as s has =
      each-seat tree_scope (λ k v. refl) now.core
      (λ k v. (store : Store) → Contains v.written store
      → IfSome (node_in store.name) (λ n. IsOwnedBy k (laws.nodes.home n) × IsAsStored (sight tree_scope now.core).word (laws.nodes.home n) store.name store.value))
      laws.trees.stored now.seat number view now.at pass s has

  owned_so : (s : Store) (n : ℕ) → Contains view.written s → node_in s.name ≡ Some n
      → IsOwnedBy number (laws.nodes.home n) × IsAsStored (sight tree_scope now.core).word (laws.nodes.home n) s.name s.value
  owned_so s n has of_node =
      subst (λ (o : Option ℕ). IfSome o (λ m. IsOwnedBy number (laws.nodes.home m) × IsAsStored (sight tree_scope now.core).word (laws.nodes.home m) s.name s.value)) of_node (owned_as s has)

  -- a word of a batch node is what the pass wrote there
  stands-so : (name : Name) (n value : ℕ) → node_in name ≡ Some n → Contains (batch_nodes_of view) n → HasWritten view.written name value → known_word view name ≡ value
  stands-so name n value of_node among has =
      let home : laws.nodes.home n ≡ owned number = batch-home now.core laws.nodes laws.places now.seat number view now.at pass n among in
      let stands : (sight tree_scope now.core).word name ≡ value =
      subst (λ (h : Home). IsAsStored (sight tree_scope now.core).word h name value) home (owned_so (record { name = name; value = value }) n has of_node).1
      in
      known-now view now name ∙ (sym (ap (λ (t : Bool). cond t (word_of now.core name) 0) (tree-named name n of_node)) ∙ stands)

  -- the nodes of its update are no batch nodes
  update_above : (o : Option Rebuild) (n : ℕ) → IfSome (option_map update_on_nodes o) (λ r. (m : ℕ) → Contains r.nodes m → IsSomeAnd r.arena (λ old. IsInArena now.core.config (1 - old) m))
      → Contains (nodes_in o) n → now.core.config.nodes ≤ n
  update_above None n h among = absurd (none_in n among)
  update_above (Some r) n h among = in_arena-above now.core.config r.arena n (h n among)

  above : (n : ℕ) → Contains (nodes_in view.rebuild) n → now.core.config.nodes ≤ n
  above n among =
      update_above view.rebuild n
      (each-seat node_scope (λ k v. refl) now.core (λ k v. IfSome v.rebuild (λ r. (m : ℕ) → Contains r.nodes m → IsSomeAnd r.arena (λ old. IsInArena now.core.config (1 - old) m)))
      laws.places.in_arena now.seat number view now.at pass) among

  -- what is written in a batch node is in one of the pass's
  none-fresh : (nodes : List ℕ) → All (λ n. ¬ Contains (batch_nodes_of view) n) nodes → All (λ n. n < view.config.nodes) nodes
      → (s : Store) → Contains view.written s → (n : ℕ) → node_in s.name ≡ Some n → ¬ Contains nodes n
  none-fresh nodes others below s has n of_node inside =
      let low : n < now.core.config.nodes = subst (λ (c : Config). n < c.nodes) (sym now.sizes) (All-contains (λ (m : ℕ). m < view.config.nodes) nodes n below inside) in
      let among : Contains (nodes_of view) n = owner-has now.core laws.nodes laws.places now.stands.formed now.seat number view now.at pass n (owned_so s n has of_node).0 in
      elim (Contains-append_cases (batch_nodes_of view) (nodes_in view.rebuild) n (subst (λ (l : List ℕ). Contains l n) (nodes_split view) among)) [
        | inl batches ↦ All-contains (λ (m : ℕ). ¬ Contains (batch_nodes_of view) m) nodes n others inside batches
        | inr update ↦ let high = above n update in absurd (omega arith)
      ]

  -- a node is one batch's
  one-batch : (one other : Batch) (n : ℕ) → Contains view.batches one → Contains view.batches other → Contains one.nodes n → Contains other.nodes n → one ≡ other
  one-batch one other n among beside inside there =
      let once : IsOnce (nodes_of view) =
      subst IsOnce (seen-nodes number view) (each-seat node_scope (λ k v. refl) now.core (λ k v. IsOnce (nodes_of v)) laws.places.owned_once now.seat number view now.at pass)
      in
      flat-once (λ b. b.nodes) view.batches one other n (pairs-left (λ (a b : ℕ). a ≢ b) (flat_map (λ b. b.nodes) view.batches) (view.loose ++ nodes_in view.rebuild) once)
      among beside inside there

module _ (view : View) (number : ℕ) (pass : IsPass view number) (current : ∥ IsCurrent view ∥₁) where
  -- a word of a batch node is what the pass wrote there
  pub written-stands : (name : Name) (n value : ℕ) → node_in name ≡ Some n → Contains (batch_nodes_of view) n → HasWritten view.written name value → known_word view name ≡ value
  written-stands name n value of_node among has = ∥∥₁_elim current (hlevel props) (λ now. stands-so view number pass now name n value of_node among has)

  -- nothing is written in batch nodes that are not the pass's
  pub fresh-unwritten : (nodes : List ℕ) → All (λ n. ¬ Contains (batch_nodes_of view) n) nodes → All (λ n. n < view.config.nodes) nodes → written_outside nodes view.written ≡ view.written
  fresh-unwritten nodes others below =
      outside-all nodes view.written (λ s has n of_node inside. ∥∥₁_elim current (hlevel props) (λ now. none-fresh view number pass now nodes others below s has n of_node inside))

  -- two batches share no node
  pub batches-apart : (one other : Batch) (n : ℕ) → Contains view.batches one → Contains view.batches other → ¬ (one ≡ other) → Contains one.nodes n → ¬ Contains other.nodes n
  batches-apart one other n among beside apart inside there = ∥∥₁_elim current (hlevel props) (λ now. apart (one-batch view number pass now one other n among beside inside there))

  -- the tree of a batch that is good is in the words that the pass knows
  pub drawn-now : (prepared : Prepared) (before : List Batch) (batch : Batch) (after : List Batch) (bodies : List (ℕ × FixBox)) (is : IsTheBatch prepared (belongings_of view) before batch after bodies)
      → IsDrawn (known_word view) bodies is.plan is.bound batch
  drawn-now prepared before batch after bodies is =
      drawn-as (HasWritten view.written) (λ name value. known_word view name ≡ value) bodies is.plan is.bound batch is.drawn
      (λ name n value of_node inside has.
      let among : Contains view.batches batch = subst (λ (l : List Batch). Contains l batch) (sym is.among) (among-middle before batch after) in
      written-stands name n value of_node
      (Contains-append_left (flat_map (λ b. b.nodes) view.batches) view.loose n (contains_flat (λ b. b.nodes) view.batches batch n among inside)) has)
