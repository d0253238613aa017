-- The tops of what is left of merged trees, where one of them is given back: those of its children that are nodes come in its
-- place.
use Rattle.std.proofs.Common.{◌≡◌, ◌≢◌, ◌⊎◌, ℕ, suc, ◌<◌, List, ◌∷◌, Contains, refl, sym, ◌∙◌, subst, inl, inr, arith}
use Rattle.std.specs.Prelude.{map, ◌==◌, ◌-◌, ◌/◌, ◌%◌}
use Rattle.std.proofs.lemmas.Bool.{cases_lt, cond_both}
use Rattle.std.proofs.lemmas.Bool.Decides.{nat_tests}
use Rattle.word_map.specs.declared.name.Name.{Name}
use Rattle.word_map.specs.declared.name.Name.TheVariants.{Child, Parent}
use Rattle.core_state.specs.declared.view.Waiting.{Waiting}
use Rattle.core_state.specs.Encoding.{node_child, place}
use Rattle.core_state.specs.Nodes.{Nodes}
use Rattle.core_state.specs.Retiring.{child_pushed, children_pushed}
use Rattle.core_state.specs.Scope.{Sight, IsOnce}
use Rattle.core_state.specs.TreesSound.{IsChild, nothing, a_body, a_node}
use Rattle.core_state.specs.Walking.{waiting}
use Rattle.core_state.proofs.Beginning.{cases_cons, contains_first}
use Rattle.core_batch.proofs.Lists.{contains_later, map_from, pairs-cons}

-- what is so of the tops without a child, where it is no node, and with it in front, is so of them
pub child-pushed : (word : Name → ℕ) (n level k : ℕ) (tops : List Waiting) (P : List Waiting → Type 0)
    → (((m : ℕ) → word (Child n k) ≢ node_child m) → P tops) → ((m : ℕ) → word (Child n k) ≡ node_child m → P (waiting m (suc level) ∷ tops)) → P (child_pushed word n level k tops)
child-pushed word n level k tops P none node =
    let x : ℕ = word (Child n k) in
    cond_both (x == 0) _ _ P
    (λ empty. none (λ m e. absurd (grind (arith, nat_tests))))
    (λ full.
    cond_both (x % 2 == 0) _ _ P (λ even. node ((x - 2) / 2) (grind (arith, nat_tests))) (λ odd. none (λ m e. absurd (grind (arith, nat_tests)))))

module _ (nodes : Nodes) (s : Sight) (n level : ℕ) (children : (k : ℕ) → k < 4 → IsChild nodes s n k) where
  -- a child that is a node is in the same home, one level lower
  pub record IsBelow (k m : ℕ) : Type 0 where
    pub home : nodes.home m ≡ nodes.home n
    pub parent : s.word (Parent m) ≡ place n k
    pub depth : nodes.depth m ≡ suc (nodes.depth n)

  pub is-below : (k m : ℕ) → k < 4 → s.word (Child n k) ≡ node_child m → IsBelow k m
  is-below k m low e = go (children k low)
    where
      go : IsChild nodes s n k → IsBelow k m
      go (nothing none) = absurd (omega arith)
      go (a_body i below is) = absurd (omega arith)
      go (a_node x is home parent depth) = let same : x ≡ m = omega arith in subst (IsBelow k) same (record { home = home; parent = parent; depth = depth })

  -- a top that came in its place: one of its first children
  pub record IsNewTop (j : ℕ) (top : Waiting) : Type 0 where
    pub child : ℕ
    pub early : child < j
    pub is : s.word (Child n child) ≡ node_child top.node
    pub level_is : top.level ≡ suc level

  module _ (rest : List Waiting) (apart : (top : Waiting) → Contains rest top → (k : ℕ) → k < 4 → s.word (Parent top.node) ≢ place n k) where
    -- the tops, once its first children were looked at
    pub record Pushed (j : ℕ) (tops : List Waiting) : Type 0 where
      pub each : (top : Waiting) → Contains tops top → Contains rest top ⊎ IsNewTop j top
      pub old : (top : Waiting) → Contains rest top → Contains tops top
      pub new : (k m : ℕ) → k < j → s.word (Child n k) ≡ node_child m → Contains tops (waiting m (suc level))
      pub once : IsOnce (map (λ w. w.node) tops)

    later-top : (j : ℕ) (top : Waiting) → IsNewTop j top → IsNewTop (suc j) top
    later-top j top t = let early = t.early in record { child = t.child; early = omega arith; is = t.is; level_is = t.level_is }

    later-tops : (j : ℕ) (tops : List Waiting) → Pushed j tops → (top : Waiting) → Contains tops top → Contains rest top ⊎ IsNewTop (suc j) top
    later-tops j tops h top among = elim (h.each top among) [ inl old ↦ inl old | inr new ↦ inr (later-top j top new) ]

    -- the next child is none of them
    no-top : (j m : ℕ) (tops : List Waiting) → j < 4 → Pushed j tops → s.word (Child n j) ≡ node_child m → (top : Waiting) → Contains tops top → m ≢ top.node
    no-top j m tops low h e top among same =
        let parent : s.word (Parent top.node) ≡ place n j = subst (λ (x : ℕ). s.word (Parent x) ≡ place n j) same (is-below j m low e).parent in
        elim (h.each top among) [
          | inl old ↦ apart top old j low parent
          | inr new ↦
              let early = new.early in
              let other = (is-below new.child top.node (omega arith) new.is).parent in
              absurd (omega arith)
        ]

    push : (j : ℕ) (tops : List Waiting) → j < 4 → Pushed j tops → Pushed (suc j) (child_pushed s.word n level j tops)
    push j tops low h =
        child-pushed s.word n level j tops (Pushed (suc j))
        (λ none. record {
          each = later-tops j tops h;
          old = h.old;
          new = λ k m below e. go none k m below e (cases_next k j below);
          once = h.once;
        })
        (λ m e. record {
          each = λ top among.
              elim (cases_cons (waiting m (suc level)) tops top among) [
                | inl same ↦ inr (subst (IsNewTop (suc j)) same (record { child = j; early = omega arith; is = e; level_is = refl }))
                | inr before ↦ later-tops j tops h top before
              ];
          old = λ top among. contains_later (waiting m (suc level)) tops top (h.old top among);
          new = λ k x below is. front m e k x is (cases_next k j below);
          once =
              pairs-cons (λ a b. a ≢ b) m (map (λ w. w.node) tops)
              (λ x among same. let t = map_from (λ (w : Waiting). w.node) tops x among in no-top j m tops low h e t.0 t.1 (same ∙ sym t.2))
              h.once;
        })
      where
        cases_next : (k j : ℕ) → k < suc j → (k < j) ⊎ (k ≡ j)
        cases_next k j below = elim (cases_lt k j) [ inl less ↦ inl less | inr more ↦ inr (omega arith) ]

        go : ((m : ℕ) → s.word (Child n j) ≢ node_child m) → (k m : ℕ) → k < suc j → s.word (Child n k) ≡ node_child m → (k < j) ⊎ (k ≡ j) → Contains tops (waiting m (suc level))
        go none k m below e (inl less) = h.new k m less e
        go none k m below e (inr same) = absurd (none m (subst (λ (i : ℕ). s.word (Child n i) ≡ node_child m) same e))

        front : (m : ℕ) → s.word (Child n j) ≡ node_child m → (k x : ℕ) → s.word (Child n k) ≡ node_child x → (k < j) ⊎ (k ≡ j) → Contains (waiting m (suc level) ∷ tops) (waiting x (suc level))
        front m e k x is (inl less) = contains_later (waiting m (suc level)) tops (waiting x (suc level)) (h.new k x less is)
        front m e k x is (inr same) =
            let here = subst (λ (i : ℕ). s.word (Child n i) ≡ node_child x) same is in
            let one : m ≡ x = omega arith in
            subst (λ (y : ℕ). Contains (waiting m (suc level) ∷ tops) (waiting y (suc level))) one (contains_first (waiting m (suc level)) tops)

    pub all-pushed : IsOnce (map (λ w. w.node) rest) → Pushed 4 (children_pushed s.word n level rest)
    all-pushed once =
        push 3 _ (omega arith)
        (push 2 _ (omega arith)
        (push 1 _ (omega arith)
        (push 0 rest (omega arith) (record { each = λ top among. inl among; old = λ top among. among; new = λ k m none e. absurd (omega arith); once = once }))))
