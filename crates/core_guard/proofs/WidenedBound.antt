-- A step that widens a side of a bound of a node that stands: trees are left, and the trees are sound and the walks lead on.
use Rattle.std.proofs.Common.{◌≡◌, ◌≢◌, ◌⊎◌, ℕ, ◌+◌, ◌<◌, ◌≤◌, List, Some, refl, ap, sym, ◌∙◌, subst, inl, inr, arith}
use Rattle.std.specs.Prelude.{Contains}
use Rattle.std.proofs.lemmas.Option.{same_Some}
use Rattle.word_map.specs.declared.name.Name.{Name}
use Rattle.word_map.specs.declared.name.Name.TheVariants.{Child, Bound, Parent}
use Rattle.core_state.specs.declared.item.Store.{Store}
use Rattle.core_state.specs.Log.{history}
use Rattle.core_state.specs.Core.{Core, word_of}
use Rattle.core_state.specs.Kind.{Kind, Step, found_by, left_by, gained_by}
use Rattle.core_state.specs.Encoding.{NamesRoot, layer_of}
use Rattle.core_state.specs.Nodes.{Stands, owned, node_in}
use Rattle.core_state.specs.TreesSound.{TreesSound}
use Rattle.core_state.specs.WalksLead.{WalksLead}
use Rattle.core_state.proofs.SameNames.{cases_name}
use Rattle.core_state.proofs.Steps.{word-step, word-step-other}
use Rattle.core_guard.proofs.Leaving.{Acts, After, Last, Leaves, step-goes_on, roots-other}
use Rattle.core_guard.proofs.TreesLeft.{KeepsBoxes, come-none, stored-left, TreesSound-leaves}
use Rattle.core_guard.proofs.WalksLeft.{WalksLead-leaves}

-- the node, the child and the side of a word of a bound
abbrev pub node_of : Name → ℕ
node_of (Bound n k q) = n
node_of _ = 0

abbrev pub child_of : Name → ℕ
child_of (Bound n k q) = k
child_of _ = 0

abbrev pub side_of : Name → ℕ
side_of (Bound n k q) = q
side_of _ = 0

-- bounds only widen by a step that makes a low side no greater, or a high one no less
pub side-widens : (kind : Kind) (core : Core) (step : Step) (node child side : ℕ) → step.name ≡ Bound node child side → (side < 3 → left_by kind core step ≤ found_by core step) × (3 ≤ side → found_by core step ≤ left_by kind core step) → (n k q : ℕ)
    → (q < 3 → word_of (After kind core step) (Bound n k q) ≤ word_of core (Bound n k q)) × (3 ≤ q → word_of core (Bound n k q) ≤ word_of (After kind core step) (Bound n k q))
side-widens kind core step node child side names wide n k q =
    elim (cases_name (Bound n k q) step.name) [
      | inl same ↦
          let one : q ≡ side = ap side_of (same ∙ names) in
          let old = ap (word_of core) same in
          let new = ap (word_of (After kind core step)) same ∙ word-step kind core step in
          (λ low. let less = wide.0 (omega arith) in omega arith, λ high. let more = wide.1 (omega arith) in omega arith)
      | inr other ↦ let same = word-step-other kind core step (Bound n k q) other in (λ low. omega arith, λ high. omega arith)
    ]

module _ (kind : Kind) (core : Core) (step : Step) (a : Acts core step) where
  -- the side is then what it was or the operand, which is a coordinate; a low one is no greater, a high one no less
  pub record WidensBound (node child side : ℕ) : Type 0 where
    pub names : step.name ≡ Bound node child side
    pub stands : Stands (a.laws.nodes.home node)
    pub one : (left_by kind core step ≡ found_by core step) ⊎ (left_by kind core step ≡ step.first)
    pub wide : (side < 3 → left_by kind core step ≤ found_by core step) × (3 ≤ side → found_by core step ≤ left_by kind core step)
    pub low : 1 ≤ step.first
    pub high : step.first ≤ 16777216
    pub rebuild : (Last kind core step).rebuild ≡ step.view.rebuild

  module _ (node child side : ℕ) (w : WidensBound node child side) where
    unnamed : (name : Name) → name ≢ Bound node child side → word_of (After kind core step) name ≡ word_of core name
    unnamed name other = word-step-other kind core step name (λ e. other (e ∙ w.names))

    -- a side is as it was, or is the one that is widened
    pub data SideAfter (n k q : ℕ) : Type 0 where
      as_it_was : word_of (After kind core step) (Bound n k q) ≡ word_of core (Bound n k q) → SideAfter n k q
      is_widened : n ≡ node → k ≡ child → q ≡ side → word_of core (Bound n k q) ≡ found_by core step → word_of (After kind core step) (Bound n k q) ≡ left_by kind core step → SideAfter n k q

    pub side-after : (n k q : ℕ) → SideAfter n k q
    side-after n k q =
        elim (cases_name (Bound n k q) step.name) [
          | inl same ↦
              let e = same ∙ w.names in
              is_widened (ap node_of e) (ap child_of e) (ap side_of e) (ap (word_of core) same) (ap (word_of (After kind core step)) same ∙ word-step kind core step)
          | inr other ↦ as_it_was (word-step-other kind core step (Bound n k q) other)
        ]

    only-widens : (n k q : ℕ) → (q < 3 → word_of (After kind core step) (Bound n k q) ≤ word_of core (Bound n k q)) × (3 ≤ q → word_of core (Bound n k q) ≤ word_of (After kind core step) (Bound n k q))
    only-widens = side-widens kind core step node child side w.names w.wide

    -- and a side of a box stays a coordinate
    coordinate : (n k q : ℕ) → 1 ≤ word_of core (Bound n k q) → word_of core (Bound n k q) ≤ 16777216 → (1 ≤ word_of (After kind core step) (Bound n k q)) × (word_of (After kind core step) (Bound n k q) ≤ 16777216)
    coordinate n k q least most =
        elim (side-after n k q) [
          | as_it_was same ↦ (omega arith, omega arith)
          | is_widened one two three old new ↦
              let low = w.low in
              let high = w.high in
              elim (w.one) [ inl found ↦ (omega arith, omega arith) | inr first ↦ (omega arith, omega arith) ]
        ]

    -- a side is as it was, or of it holds what holds of the new one
    pub side-or : (P : ℕ → ℕ → ℕ → ℕ → Type 0) → P node child side step.first → (n k q : ℕ) → (word_of (After kind core step) (Bound n k q) ≡ word_of core (Bound n k q)) ⊎ P n k q (word_of (After kind core step) (Bound n k q))
    side-or P new n k q =
        elim (side-after n k q) [
          | as_it_was e ↦ inl e
          | is_widened one two three old now ↦
              elim (w.one) [
                | inl found ↦ inl (now ∙ (found ∙ sym old))
                | inr first ↦
                    let v : ℕ = word_of (After kind core step) (Bound n k q) in
                    let here : P node child side v = subst (P node child side) (sym (now ∙ first)) new in
                    inr (subst (λ (x : ℕ). P x k q v) (sym one) (subst (λ (x : ℕ). P node x q v) (sym two) (subst (λ (x : ℕ). P node child x v) (sym three) here)))
              ]
        ]

    pub widened-boxes : KeepsBoxes kind core step a.laws.nodes a.laws.nodes
    widened-boxes n k stands box q below =
        let was = box q below in
        let low = coordinate n k q was.0 (let more = was.1 in let most = was.2 in omega arith) in
        let high = coordinate n k (3 + q) (let more = was.1 in let least = was.0 in omega arith) was.2 in
        let less = (only-widens n k q).0 below in
        let more = (only-widens n k (3 + q)).1 (omega arith) in
        let order = was.1 in
        (low.0, omega arith, high.1)

    pub widened-leaves : Leaves kind core step a.laws.nodes a.laws.nodes (λ n. ⊥)
    widened-leaves = record {
      stays = λ n inside. refl;
      depth = λ n inside. refl;
      stood = λ n inside. inl refl;
      child = λ n k inside. inl (unnamed (Child n k) (λ e. absurd cc));
      parent = λ n inside. unnamed (Parent n) (λ e. absurd cc);
      wide = λ n k q stands. only-widens n k q;
      names = λ name root. (roots name root).0;
      named = λ name root h. inl ((roots name root).1 h);
      more = history (gained_by kind core step);
      goes_on = step-goes_on kind core step;
      rebuild = w.rebuild;
    }
      where
        roots : (name : Name) (root : ℕ) → (NamesRoot name (word_of core name) root → NamesRoot name (word_of (After kind core step) name) root)
            × (NamesRoot name (word_of (After kind core step) name) root → NamesRoot name (word_of core name) root)
        roots = roots-other kind core step (ap layer_of w.names)

    -- no node that a pass owns apart is the one
    apart : (n number : ℕ) → a.laws.nodes.home n ≡ owned number → node_in step.name ≢ Some n
    apart n number home e =
        let same : node ≡ n = same_Some node n (sym (ap node_in w.names) ∙ e) in
        subst Stands (ap a.laws.nodes.home same ∙ home) w.stands

    pub TreesSound-widens : (Last kind core step).written ≡ step.view.written → TreesSound a.laws.nodes (After kind core step)
    TreesSound-widens written =
        TreesSound-leaves kind core step a a.laws.nodes (λ n. ⊥) widened-leaves (come-none kind core step a.laws.nodes a.laws.nodes) widened-boxes (λ n number other home. (refl, apart n number home))
        (stored-left kind core step a a.laws.nodes (λ n. ⊥) widened-leaves
        (λ store among. (subst (λ (l : List Store). Contains l store) written among, λ n of_node home. (refl, apart n step.number home))))

    pub WalksLead-widens : (Last kind core step).walk ≡ step.view.walk → WalksLead (After kind core step)
    WalksLead-widens walk = WalksLead-leaves kind core step a a.laws.nodes (λ n. ⊥) widened-leaves widened-boxes walk
