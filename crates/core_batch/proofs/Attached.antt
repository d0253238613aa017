-- A batch that is attached: where its nodes are afterwards, and what becomes of bodies and words.
use Rattle.std.proofs.Common.{◌≡◌, ◌≢◌, ◌⊎◌, ℕ, List, [], ◌∷◌, ◌++◌, Bool, true, false, cond, ◌||◌, Option, Some, None, Contains, IsSomeAnd, refl, ap, sym, ◌∙◌, subst, inl, inr}
use Rattle.std.specs.Prelude.{◌==◌, fold, map, option_map}
use Rattle.std.specs.List.{list_any}
use Rattle.std.proofs.lemmas.Bool.{eqb-true, eq-eqb, false≢true}
use Rattle.scene_model.specs.declared.body_view.Phase.TheVariants.{Held, In}
use Rattle.scene_model.specs.declared.entry.Entry.TheVariants.{Join}
use Rattle.scene_model.specs.declared.entry.Made.{Made}
use Rattle.scene_model.specs.Scene.{Record, Scene, Place, record_at}
use Rattle.scene_model.specs.Step.{in_phase, with_phase}
use Rattle.scene_model.specs.History.{scene_after}
use Rattle.scene_model.proofs.Batches.{place_at-fold_phase}
use Rattle.word_map.specs.declared.name.Name.{Name}
use Rattle.word_map.specs.declared.name.Name.TheVariants.{Slot, State, Phase, Layer, BoxWord, LocA, LocB}
use Rattle.core_state.specs.declared.view.Marked.{Marked}
use Rattle.core_state.specs.declared.view.Batch.{Batch}
use Rattle.core_state.specs.Log.{history}
use Rattle.core_state.specs.Core.{Core, word_of, scene_of}
use Rattle.core_state.specs.Encoding.{slot_tree}
use Rattle.core_state.specs.Kind.{log_after, after_step}
use Rattle.core_state.specs.Formed.{IsFormed}
use Rattle.core_state.specs.Guards.{GuardsHold}
use Rattle.core_state.specs.Nodes.{Nodes, Home, owned, under}
use Rattle.core_state.specs.Batches.{is_in_nodes, attach}
use Rattle.core_state.specs.Invariants.{Invariants}
use Rattle.core_state.proofs.Steps.{word-step, word-step-other}
use Rattle.core_guard.proofs.OneBody.{history-made, scene-made}
use Rattle.core_state.proofs.Opening.{none_in}
use Rattle.core_batch.proofs.Lists.{contains_later, contains_map, map_from}
use Rattle.core_batch.proofs.Attaching.{Attaching, step_of, found, was_home, IsJoining, joining}
use Rattle.core_state.proofs.Beginning.{cases_cons, contains_first}
use Rattle.core_guard.proofs.Leaving.{Stays, as_before-same}

-- ---- names of nodes

any_left : (a b : Bool) → a ≡ true → (a || b) ≡ true
any_left a b e = rw e refl

any_right : (a b : Bool) → b ≡ true → (a || b) ≡ true
any_right true b e = refl
any_right false b e = e

any_cases : (a b : Bool) → (a || b) ≡ true → (a ≡ true) ⊎ (b ≡ true)
any_cases true b h = inl refl
any_cases false b h = inr h

pub in_nodes-there : (nodes : List ℕ) (n : ℕ) → is_in_nodes nodes (Some n) ≡ true → Contains nodes n
in_nodes-there [] n h = absurd (false≢true h)
in_nodes-there (m ∷ rest) n h =
    elim (any_cases (m == n) (list_any (λ k. k == n) rest) h) [
      | inl same ↦ subst (λ (k : ℕ). Contains (m ∷ rest) k) (eqb-true m n same) (contains_first m rest)
      | inr later ↦ contains_later m rest n (in_nodes-there rest n later)
    ]

pub there-in_nodes : (nodes : List ℕ) (n : ℕ) → Contains nodes n → is_in_nodes nodes (Some n) ≡ true
there-in_nodes [] n h = absurd (none_in n h)
there-in_nodes (m ∷ rest) n h =
    elim (cases_cons m rest n h) [
      | inl same ↦ any_left (m == n) (list_any (λ k. k == n) rest) (eq-eqb m n same)
      | inr later ↦ any_right (m == n) (list_any (λ k. k == n) rest) (there-in_nodes rest n later)
    ]

-- ---- where nodes are afterwards

-- those of the batch are in the tree of its slot
abbrev pub nodes_after : Nodes → (core : Core) → Attaching core → Nodes
nodes_after nodes core a = record {
  home = λ n. cond (is_in_nodes a.batch.nodes (Some n)) (under (Slot a.layer a.slot)) (nodes.home n);
  depth = λ n. cond (is_in_nodes a.batch.nodes (Some n)) (a.whole.depth n) (nodes.depth n);
}

-- a node of the batch, or another one
pub data NodeAfter (nodes : Nodes) (core : Core) (a : Attaching core) (n : ℕ) : Type 0 where
  attached_node : Contains a.batch.nodes n → (nodes_after nodes core a).home n ≡ under (Slot a.layer a.slot) → (nodes_after nodes core a).depth n ≡ a.whole.depth n → NodeAfter nodes core a n
  other_node : ¬ Contains a.batch.nodes n → (nodes_after nodes core a).home n ≡ nodes.home n → (nodes_after nodes core a).depth n ≡ nodes.depth n → NodeAfter nodes core a n

pub node-after : (nodes : Nodes) (core : Core) (a : Attaching core) (n : ℕ) → NodeAfter nodes core a n
node-after nodes core a n = go (is_in_nodes a.batch.nodes (Some n)) refl
  where
    go : (test : Bool) → is_in_nodes a.batch.nodes (Some n) ≡ test → NodeAfter nodes core a n
    go true e = attached_node (in_nodes-there a.batch.nodes n e) (ap (λ (t : Bool). cond t (under (Slot a.layer a.slot)) (nodes.home n)) e) (ap (λ (t : Bool). cond t (a.whole.depth n) (nodes.depth n)) e)
    go false e =
        other_node (λ inside. false≢true (sym e ∙ there-in_nodes a.batch.nodes n inside)) (ap (λ (t : Bool). cond t (under (Slot a.layer a.slot)) (nodes.home n)) e)
        (ap (λ (t : Bool). cond t (a.whole.depth n) (nodes.depth n)) e)

module _ (nodes : Nodes) (core : Core) (a : Attaching core) where
  abbrev Later : Nodes
  Later = nodes_after nodes core a

  pub home-inside : (n : ℕ) → Contains a.batch.nodes n → Later.home n ≡ under (Slot a.layer a.slot)
  home-inside n inside =
      elim (node-after nodes core a n) [
        | attached_node in_batch home depth ↦ home
        | other_node none home depth ↦ absurd (none inside)
      ]

  pub depth-inside : (n : ℕ) → Contains a.batch.nodes n → Later.depth n ≡ a.whole.depth n
  depth-inside n inside =
      elim (node-after nodes core a n) [
        | attached_node in_batch home depth ↦ depth
        | other_node none home depth ↦ absurd (none inside)
      ]

  pub home-outside : (n : ℕ) → ¬ Contains a.batch.nodes n → Later.home n ≡ nodes.home n
  home-outside n outside =
      elim (node-after nodes core a n) [
        | attached_node in_batch home depth ↦ absurd (outside in_batch)
        | other_node none home depth ↦ home
      ]

  pub depth-outside : (n : ℕ) → ¬ Contains a.batch.nodes n → Later.depth n ≡ nodes.depth n
  depth-outside n outside =
      elim (node-after nodes core a n) [
        | attached_node in_batch home depth ↦ absurd (outside in_batch)
        | other_node none home depth ↦ depth
      ]

  -- what is so of no node of the batch is so of another node, and was
  pub home-back : (P : Home → Type 0) (n : ℕ) → ¬ P (under (Slot a.layer a.slot)) → P (Later.home n) → (¬ Contains a.batch.nodes n) × P (nodes.home n)
  home-back P n none h =
      elim (node-after nodes core a n) [
        | attached_node in_batch home depth ↦ absurd (none (subst P home h))
        | other_node outside home depth ↦ (outside, subst P home h)
      ]

-- ---- what becomes of bodies

abbrev pub joined : {core : Core} → Attaching core → List ℕ
joined a = map (λ m. m.index) a.batch.marked

abbrev pub join_made : {core : Core} → Attaching core → Made
join_made a = record { pass = a.number; entry = Join a.layer (joined a) }

-- the history afterwards, and its scene
abbrev pub past_of : (core : Core) → Attaching core → List Made
past_of core a = history core.log ++ join_made a ∷ []

abbrev pub scene_then : (core : Core) → Attaching core → Scene
scene_then core a = scene_after core.config.bodies (past_of core a)

-- a body joins, or it is as it was
pub data Becomes (core : Core) (a : Attaching core) (i : ℕ) (o p : Option Record) : Type 0 where
  joins : (m : Marked) → Contains a.batch.marked m → (j : IsJoining core a.layer a.slot a.batch m i) → o ≡ Some j.body → p ≡ Some (in_phase In j.body) → Becomes core a i o p
  stays : ((m : Marked) → Contains a.batch.marked m → m.index ≢ i) → p ≡ o → Becomes core a i o p

module _ (core : Core) (a : Attaching core) (i : ℕ) where
  pub becomes-forth : (P Q : Record → Type 0) (o p : Option Record) → Becomes core a i o p → ((r : Record) → r.phase ≡ Held → P r → Q (in_phase In r)) → ((r : Record) → P r → Q r) → IsSomeAnd o P → IsSomeAnd p Q
  becomes-forth P Q o p (joins m marked j was is) changed same h =
      subst (λ (x : Option Record). IsSomeAnd x Q) (sym is) (changed j.body j.held (subst (λ (x : Option Record). IsSomeAnd x P) was h))
  becomes-forth P Q o p (stays apart is) changed same h = subst (λ (x : Option Record). IsSomeAnd x Q) (sym is) (go o h)
    where
      go : (x : Option Record) → IsSomeAnd x P → IsSomeAnd x Q
      go None h = h
      go (Some r) h = same r h

module _ (core : Core) (a : Attaching core) (formed : IsFormed core) (h : Invariants core) where
  -- a node that is not owned by the pass is none of the batch
  pub home-forth : (P : Home → Type 0) (n : ℕ) → ¬ P (owned a.number) → P (h.nodes.home n) → (¬ Contains a.batch.nodes n) × P ((nodes_after h.nodes core a).home n)
  home-forth P n none is =
      let outside : ¬ Contains a.batch.nodes n = λ inside. none (subst P (was_home core a formed h n inside) is) in
      (outside, subst P (sym (home-outside h.nodes core a n outside)) is)

  -- ---- the history

  pub join-made : attach.entry a.view (Slot a.layer a.slot) (slot_tree a.root) ≡ Some (Join a.layer (joined a))
  join-made = ap (option_map (λ (b : Batch). Join a.layer (map (λ m. m.index) b.marked))) (found core a formed h)

  pub past-after : history (log_after attach core (step_of core a)) ≡ past_of core a
  past-after = history-made attach core (step_of core a) (Join a.layer (joined a)) refl join-made

  pub scene-then : scene_then core a ≡ fold (with_phase In) (scene_of core) (joined a)
  scene-then = scene-made core.config.bodies a.number (history core.log) (Join a.layer (joined a))

  module _ (guards : GuardsHold core) where
    pub becomes : (i : ℕ) → Becomes core a i (record_at (scene_of core) i) (record_at (scene_then core a) i)
    becomes i =
        subst (λ (scene : Scene). Becomes core a i (record_at (scene_of core) i) (record_at scene i)) (sym scene-then)
        (elim (place_at-fold_phase In (joined a) (scene_of core) i) [
          | inl at ↦
              let t = map_from (λ m. m.index) a.batch.marked i at.0 in
              let j = subst (IsJoining core a.layer a.slot a.batch t.0) t.2 (joining core a formed h guards t.0 t.1) in
              joins t.0 t.1 j j.live (ap (λ (p : Place). p.body) at.1 ∙ ap (option_map (in_phase In)) j.live)
          | inr not ↦
              stays (λ m marked same. not.0 (subst (λ (k : ℕ). Contains (joined a) k) same (contains_map (λ m. m.index) a.batch.marked m marked)))
              (ap (λ (p : Place). p.body) not.1)
        ])

-- ---- words

module _ (core : Core) (a : Attaching core) where
  abbrev pub core_after : Core
  core_after = after_step attach core (step_of core a)

  pub word-other : (name : Name) → name ≢ Slot a.layer a.slot → word_of core_after name ≡ word_of core name
  word-other name other = word-step-other attach core (step_of core a) name other

  pub word-slot : word_of core_after (Slot a.layer a.slot) ≡ slot_tree a.root
  word-slot = word-step attach core (step_of core a)

  -- a body that is as it was, with all words of its places
  pub stays-so : (i : ℕ) → record_at (scene_of core_after) i ≡ record_at (scene_of core) i → Stays attach core (step_of core a) i
  stays-so i same = record {
    body = as_before-same _ _ same;
    loc_a = word-other (LocA i) (λ e. absurd cc);
    loc_b = word-other (LocB i) (λ e. absurd cc);
    phase = word-other (Phase i) (λ e. absurd cc);
    box = λ q. word-other (BoxWord i q) (λ e. absurd cc);
    state = word-other (State i) (λ e. absurd cc);
    layer = word-other (Layer i) (λ e. absurd cc);
    removes = (λ h. h, λ h. h);
    places = (λ h. h, λ h. h);
  }
