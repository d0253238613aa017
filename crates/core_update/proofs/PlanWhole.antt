-- With the last store of a plan the new trees stand: what the pass knows of the words of its own nodes is what there is.
use Rattle.std.proofs.Common.{◌≡◌, ℕ, ◌<◌, List, [], ◌∷◌, ◌++◌, Bool, true, false, Contains, Option, Some, None, refl, ap, sym, ◌∙◌, subst, inl, inr, arith}
use Rattle.std.specs.Prelude.{◌==◌, if◌then◌else◌, flat_map, map}
use Rattle.std.proofs.lemmas.Bool.{cases_eq, ne_eqb, eq-eqb}
use Rattle.std.proofs.lemmas.Option.{same_Some, none-some}
use Rattle.std.proofs.lemmas.List.Elements.{Contains-append_left, Contains-append_right}
use Rattle.word_map.specs.declared.config.Config.{Config}
use Rattle.word_map.specs.declared.name.Name.{Name}
use Rattle.word_map.specs.declared.name.Name.TheVariants.{Child, Bound, Parent}
use Rattle.core_state.specs.declared.view.NewNode.{NewNode}
use Rattle.core_state.specs.declared.view.Rebuild.{Rebuild}
use Rattle.core_state.specs.Names.{same_name}
use Rattle.core_state.specs.Core.{Core, word_of}
use Rattle.core_state.specs.Encoding.{place}
use Rattle.core_state.specs.Guards.{private_nodes, by_node}
use Rattle.core_state.specs.Kind.{Kind, Step}
use Rattle.core_state.specs.Nodes.{Nodes, Home, node_in, made, Above, here, higher}
use Rattle.core_state.specs.Noting.{MayFinishPlan, finish_plan, made_with, roots_with, with_new_node, new_node, known_with, AreNewTrees, IsNewTree}
use Rattle.core_state.proofs.Beginning.{cases_cons}
use Rattle.core_state.proofs.Opening.{none_in}
use Rattle.core_state.proofs.SameNames.{same_name-refl, cases_name, same_name-other}
use Rattle.core_state.proofs.Steps.{word-step, word-step-other}
use Rattle.core_guard.proofs.BodiesStep.{known-now}
use Rattle.core_guard.proofs.Leaving.{Acts, After}
use Rattle.core_guard.proofs.Settled.{sound}
use Rattle.core_batch.proofs.Lists.{contains_later}

module _ (layer : ℕ) (core : Core) (step : Step) (a : Acts core step) (asked : MayFinishPlan layer step.view step.name step.first step.second) where
  abbrev pub kind : Kind
  kind = finish_plan layer

  abbrev pub M : List NewNode
  M = made_with layer asked.node asked.r.made

  abbrev pub R : List ℕ
  R = roots_with layer asked.node step.first asked.r.roots

  -- the update with its last node noted
  abbrev pub N : Rebuild
  N = record asked.r { made = M; roots = R }

  abbrev pub W : Name → ℕ
  W = word_of (After (finish_plan layer) core step)

  abbrev pub K : Name → ℕ
  K = known_with step.view step.name step.first

  pub whole : AreNewTrees core.config K N
  whole =
      subst (λ (c : Config). AreNewTrees c K N) (sound core step a).config
      (subst (AreNewTrees step.view.config K) (ap (λ (n : Name). with_new_node layer n step.first asked.r) asked.names) asked.whole)

  -- a word of an own node is as the pass knows it
  pub agree : (name : Name) (n : ℕ) → node_in name ≡ Some n → Contains asked.r.nodes n → K name ≡ W name
  agree name n of_node among =
      elim (cases_name name step.name) [
        | inl same ↦
            let found : same_name name step.name ≡ true = ap (λ (x : Name). same_name x step.name) same ∙ same_name-refl step.name in
            rw found (sym (ap W same ∙ word-step kind core step))
        | inr other ↦
            let found : same_name name step.name ≡ false = same_name-other name step.name other in
            rw found (sym (word-step-other kind core step name other ∙ known-now kind core step a.at a.pass name a.formed a.guards (by_node n private of_node)))
      ]
    where
      private : Contains (flat_map (λ b. b.nodes) step.view.batches ++ (step.view.loose ++ private_nodes step.view.rebuild)) n
      private =
          Contains-append_right (flat_map (λ b. b.nodes) step.view.batches) (step.view.loose ++ private_nodes step.view.rebuild) n
          (Contains-append_right step.view.loose (private_nodes step.view.rebuild) n
          (subst (λ (o : Option Rebuild). Contains (private_nodes o) n) (sym asked.stores.update)
          (Contains-append_left (if asked.r.is_planned then [] else asked.r.nodes) (map (λ w. w.node) asked.r.returning) n
          (subst (λ (t : Bool). Contains (if t then [] else asked.r.nodes) n) (sym asked.stores.early.unplanned) among))))

  -- ---- one of the trees

  module _ (l root : ℕ) (t : IsNewTree K N whole.depth l root) where
    own : (n : ℕ) → Contains M (new_node l n) → Contains asked.r.nodes n
    own n inside = whole.owned l n inside

    pub child-now : (n k : ℕ) → Contains M (new_node l n) → K (Child n k) ≡ W (Child n k)
    child-now n k inside = agree (Child n k) n refl (own n inside)

    pub parent-now : (n : ℕ) → Contains M (new_node l n) → K (Parent n) ≡ W (Parent n)
    parent-now n inside = agree (Parent n) n refl (own n inside)

    pub bound-now : (n k q : ℕ) → Contains M (new_node l n) → K (Bound n k q) ≡ W (Bound n k q)
    bound-now n k q inside = agree (Bound n k q) n refl (own n inside)

    -- the node above one of it is one of it
    parent-in : (n x j : ℕ) → Contains M (new_node l n) → j < 4 → K (Parent n) ≡ place x j → Contains M (new_node l x)
    parent-in n x j inside low e =
        elim (t.under_root n inside) [
          | inl top ↦ let none = top.1 in absurd (omega arith)
          | inr at ↦
              let below = at.2 in
              let here = at.4 in
              let same : at.0 ≡ x = omega arith in
              subst (λ (y : ℕ). Contains M (new_node l y)) same at.3
        ]

    pub up-forth : (n k x y : ℕ) → Contains M (new_node l n) → Above K n k x y → Above W n k x y
    up-forth n k x y inside (here p q) = here p q
    up-forth n k x y inside (higher p q m j c d e low rest) = higher p q m j c d (sym (parent-now n inside) ∙ e) low (up-forth m j x y (parent-in n m j inside low e) rest)

    pub up-back : (n k x y : ℕ) → Contains M (new_node l n) → Above W n k x y → Above K n k x y
    up-back n k x y inside (here p q) = here p q
    up-back n k x y inside (higher p q m j c d e low rest) =
        let was : K (Parent n) ≡ place m j = parent-now n inside ∙ e in
        higher p q m j c d was low (up-back m j x y (parent-in n m j inside low was) rest)

    pub up-in : (n k x y : ℕ) → Contains M (new_node l n) → Above K n k x y → Contains M (new_node l x)
    up-in n k x y inside (here p q) = inside
    up-in n k x y inside (higher p q m j c d e low rest) = up-in m j x y (parent-in n m j inside low e) rest

  -- ---- homes

  -- the layer in which a node was made
  abbrev pub layer_in : List NewNode → ℕ → Option ℕ
  layer_in [] n = None
  layer_in (m ∷ ms) n = if m.node == n then Some m.layer else layer_in ms n

  pub in-layer : (xs : List NewNode) (n l : ℕ) → layer_in xs n ≡ Some l → Contains xs (new_node l n)
  in-layer [] n l e = absurd (none-some l e)
  in-layer (m ∷ ms) n l e =
      elim (cases_eq m.node n) [
        | inl same ↦
            let found : (m.node == n) ≡ true = eq-eqb m.node n same in
            let layer : m.layer ≡ l = same_Some m.layer l (sym (ap (λ (b : Bool). if b then Some m.layer else layer_in ms n) found) ∙ e) in
            subst (Contains (m ∷ ms)) (λ j. record { layer = layer j; node = same j }) (0, omega arith, refl)
        | inr apart ↦
            let missed : (m.node == n) ≡ false = ne_eqb m.node n apart in
            contains_later m ms (new_node l n) (in-layer ms n l (sym (ap (λ (b : Bool). if b then Some m.layer else layer_in ms n) missed) ∙ e))
      ]

  some-layer : (xs : List NewNode) (n l : ℕ) → Contains xs (new_node l n) → (k : ℕ) × (layer_in xs n ≡ Some k)
  some-layer [] n l among = absurd (none_in _ among)
  some-layer (m ∷ ms) n l among =
      elim (cases_eq m.node n) [
        | inl same ↦ (m.layer, ap (λ (b : Bool). if b then Some m.layer else layer_in ms n) (eq-eqb m.node n same))
        | inr apart ↦
            elim (cases_cons m ms (new_node l n) among) [
              | inl first ↦ absurd (apart (ap (λ (x : NewNode). x.node) first))
              | inr rest ↦ let t = some-layer ms n l rest in (t.0, ap (λ (b : Bool). if b then Some m.layer else layer_in ms n) (ne_eqb m.node n apart) ∙ t.1)
            ]
      ]

  pub of-layer : (n l : ℕ) → Contains M (new_node l n) → layer_in M n ≡ Some l
  of-layer n l among =
      let t = some-layer M n l among in
      t.1 ∙ ap Some (whole.once t.0 l n (in-layer M n t.0 t.1) among)

  abbrev home_by : Option ℕ → Home → Home
  home_by None home = home
  home_by (Some l) home = made step.number l

  abbrev depth_by : Option ℕ → ℕ → ℕ → ℕ
  depth_by None old new = old
  depth_by (Some l) old new = new

  -- those nodes are in new trees then
  abbrev pub later : Nodes
  later = record { home = λ n. home_by (layer_in M n) (a.laws.nodes.home n); depth = λ n. depth_by (layer_in M n) (a.laws.nodes.depth n) (whole.depth n) }

  pub made-home : (n l : ℕ) → Contains M (new_node l n) → later.home n ≡ made step.number l
  made-home n l among = ap (λ (o : Option ℕ). home_by o (a.laws.nodes.home n)) (of-layer n l among)

  pub made-depth : (n l : ℕ) → Contains M (new_node l n) → later.depth n ≡ whole.depth n
  made-depth n l among = ap (λ (o : Option ℕ). depth_by o (a.laws.nodes.depth n) (whole.depth n)) (of-layer n l among)

  -- a node is where it was, or has come to stand
  pub data HomeThen (n : ℕ) : Type 0 where
    as_before : later.home n ≡ a.laws.nodes.home n → later.depth n ≡ a.laws.nodes.depth n → HomeThen n
    in_new : (l : ℕ) → Contains M (new_node l n) → HomeThen n

  pub home-then : (n : ℕ) → HomeThen n
  home-then n = go (layer_in M n) refl
    where
      go : (o : Option ℕ) → layer_in M n ≡ o → HomeThen n
      go None e = as_before (ap (λ (o : Option ℕ). home_by o (a.laws.nodes.home n)) e) (ap (λ (o : Option ℕ). depth_by o (a.laws.nodes.depth n) (whole.depth n)) e)
      go (Some l) e = in_new l (in-layer M n l e)
