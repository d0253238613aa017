-- Nodes of an update that stand in no tree get another home, with a step that stores at most the word of the update or that of the arena.
use Rattle.std.proofs.Common.{Bool, Contains, List, None, Some, ap, cond, false, inl, inr, refl, subst, sym, true, ℕ, ◌∙◌, ◌≡◌, ◌≢◌, ◌⊎◌}
use Rattle.std.proofs.lemmas.Bool.{false≢true}
use Rattle.std.proofs.lemmas.Option.{none-some}
use Rattle.word_map.specs.declared.name.Name.{Name}
use Rattle.word_map.specs.declared.name.Name.TheVariants.{Arena, Bound, LocA, LocB, Reader, Update}
use Rattle.core_state.specs.Batches.{is_in_nodes}
use Rattle.core_state.specs.Bodies.{all_batches}
use Rattle.core_state.specs.Core.{Core, word_of}
use Rattle.core_state.specs.Encoding.{layer_of}
use Rattle.core_state.specs.Kind.{Kind, Step, after_step, view_after}
use Rattle.core_state.specs.LocationsHold.{IsPlannedIn, Removes, location_scope}
use Rattle.core_state.specs.Nodes.{Home, IsInTree, IsOwnedBy, Nodes, node_in, owned}
use Rattle.core_state.specs.Scope.{sight}
use Rattle.core_state.specs.Updates.{IsPlacing}
use Rattle.core_state.specs.declared.item.Store.{Store}
use Rattle.core_state.specs.declared.view.Batch.{Batch}
use Rattle.core_state.specs.declared.view.Call.{Call}
use Rattle.core_state.specs.declared.view.Marked.{Marked}
use Rattle.core_state.specs.declared.view.View.{View}
use Rattle.core_state.proofs.Steps.{word-step-other}
use Rattle.core_guard.proofs.Leaving.{Acts, Leaves, Touches, body_of, leaves-aside, roots-other, scene-plain, stays-by}
use Rattle.core_guard.proofs.Seats.{flat-step}
use Rattle.core_guard.proofs.TreesLeft.{stored-left}
use Rattle.core_batch.proofs.Attached.{in_nodes-there, there-in_nodes}

module _ (nodes : Nodes) (list : List ℕ) (home : Home) where
  -- those of a list get it
  abbrev pub rehomed : Nodes
  rehomed = record nodes { home = λ n. cond (is_in_nodes list (Some n)) home (nodes.home n) }

  pub data HomeAfter (n : ℕ) : Type 0 where
    moved_home : Contains list n → rehomed.home n ≡ home → HomeAfter n
    same_home : ¬ Contains list n → rehomed.home n ≡ nodes.home n → HomeAfter n

  pub home-after : (n : ℕ) → HomeAfter n
  home-after n = go (is_in_nodes list (Some n)) refl
    where
      go : (test : Bool) → is_in_nodes list (Some n) ≡ test → HomeAfter n
      go true e = moved_home (in_nodes-there list n e) (ap (λ (t : Bool). cond t home (nodes.home n)) e)
      go false e = same_home (λ among. false≢true (sym e ∙ there-in_nodes list n among)) (ap (λ (t : Bool). cond t home (nodes.home n)) e)

  pub home-in : (n : ℕ) → Contains list n → rehomed.home n ≡ home
  home-in n among = elim (home-after n) [ moved_home inside e ↦ e | same_home none e ↦ absurd (none among) ]

  pub home-out : (n : ℕ) → ¬ Contains list n → rehomed.home n ≡ nodes.home n
  home-out n none = elim (home-after n) [ moved_home inside e ↦ absurd (none inside) | same_home other e ↦ e ]

  -- where all of them had another one
  module _ (old : Home) (was : (n : ℕ) → Contains list n → nodes.home n ≡ old) where
    -- a home that neither was nor is theirs has the nodes that it had
    pub homes-else : (P : Home → Type 0) → ¬ P old → ¬ P home → (n : ℕ) → P (nodes.home n) ⊎ P (rehomed.home n) → rehomed.home n ≡ nodes.home n
    homes-else P before after n h =
        elim (home-after n) [
          | moved_home inside e ↦ absurd (elim h [ inl p ↦ before (subst P (was n inside) p) | inr p ↦ after (subst P e p) ])
          | same_home none e ↦ e
        ]

-- ---- the step

module _ (kind : Kind) (core : Core) (step : Step) (a : Acts core step) (later : Nodes) where
  abbrev nodes : Nodes
  nodes = a.laws.nodes

  abbrev After : Core
  After = after_step kind core step

  abbrev Last : View
  Last = view_after kind core step

  -- it leaves the pass all but some of what it had stored in own nodes
  pub record IsRehoming : Type 0 where
    pub names : (step.name ≡ Update) ⊎ (step.name ≡ Arena)
    pub plain : (value : ℕ) → kind.entry step.view step.name value ≡ None
    pub rebuild : Last.rebuild ≡ step.view.rebuild
    pub walk : Last.walk ≡ step.view.walk
    pub call : Last.call ≡ step.view.call
    pub batches : Last.batches ≡ step.view.batches
    pub depth : (n : ℕ) → later.depth n ≡ nodes.depth n
    pub in_tree : (n : ℕ) → IsInTree (nodes.home n) ⊎ IsInTree (later.home n) → later.home n ≡ nodes.home n
    pub others : (n number : ℕ) → number ≢ step.number → IsOwnedBy number (nodes.home n) → later.home n ≡ nodes.home n
    pub written : (store : Store) → Contains Last.written store → Contains step.view.written store × ((n : ℕ) → node_in store.name ≡ Some n → nodes.home n ≡ owned step.number → later.home n ≡ nodes.home n)

  module _ (h : IsRehoming) where
    other : (name : Name) → name ≢ Update → name ≢ Arena → word_of After name ≡ word_of core name
    other name one two = word-step-other kind core step name (λ e. elim (h.names) [ inl update ↦ one (e ∙ update) | inr arena ↦ two (e ∙ arena) ])

    of_body : (name : Name) (i : ℕ) → body_of name ≡ Some i → word_of After name ≡ word_of core name
    of_body name i of = other name (λ e. none-some i (ap body_of (sym e) ∙ of)) (λ e. none-some i (ap body_of (sym e) ∙ of))

    no_node : node_in step.name ≡ None
    no_node = elim (h.names) [ inl e ↦ ap node_in e | inr e ↦ ap node_in e ]

    no_layer : layer_of step.name ≡ None
    no_layer = elim (h.names) [ inl e ↦ ap layer_of e | inr e ↦ ap layer_of e ]

    leaves : Leaves kind core step nodes later (λ n. ⊥)
    leaves =
        leaves-aside kind core step nodes later (λ n inside e. none-some n (sym no_node ∙ e)) (λ n inside. h.in_tree n (inl inside)) (λ n inside. h.depth n) (λ n inside. h.in_tree n (inr inside))
        (roots-other kind core step no_layer) h.rebuild

    held : (batch : Batch) (marked : Marked) → Contains (all_batches (sight location_scope After)) batch → Contains batch.marked marked
        → IsPlannedIn (sight location_scope After) batch marked × (word_of After (LocB marked.index) ≡ 0)
    held batch marked among inside =
        let same = flat-step location_scope (λ k v. refl) kind core step a.at a.pass (λ v. v.batches) h.batches in
        let was = a.laws.locations.held batch marked (subst (λ (l : List Batch). Contains l batch) same among) inside in
        let loc = of_body (LocA marked.index) marked.index refl in (
          elim (was.0) [ inl t ↦ inl (t.0, loc ∙ t.1) | inr t ↦ inr (t.0, loc ∙ t.1, t.2) ],
          of_body (LocB marked.index) marked.index refl ∙ was.1,
        )

    pub touches-rehomed : Touches kind core step nodes later
    touches-rehomed = record {
      leaves = leaves;
      bounds = λ n k q stands. other (Bound n k q) (λ e. absurd cc) (λ e. absurd cc);
      bodies = λ i. inl
          (stays-by kind core step i (scene-plain kind core step h.plain i) (λ name of. of_body name i of)
          (subst (λ (c : Call). Removes c.task i) (sym h.call), subst (λ (c : Call). Removes c.task i) h.call)
          (subst (λ (c : Call). IsPlacing c.task i) (sym h.call), subst (λ (c : Call). IsPlacing c.task i) h.call));
      call = inl h.call;
      walk = h.walk;
      reader = λ p. other (Reader p) (λ e. absurd cc) (λ e. absurd cc);
      others = λ n number apart owns. (h.others n number apart owns, λ e. none-some n (sym no_node ∙ e));
      written = stored-left kind core step a later (λ n. ⊥) leaves
          (λ store among. let t = h.written store among in (t.0, λ n of at. (t.1 n of at, λ e. none-some n (sym no_node ∙ e))));
      held = held;
    }
