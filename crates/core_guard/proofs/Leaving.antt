-- What a step leaves of trees, bodies and passes. It stores one word, changes one view and the scene at few bodies: so a law
-- is shown anew only of what the step touches, and stays of all else.
use Rattle.std.proofs.Common.{◌≡◌, ◌≢◌, ◌⊎◌, ◌↔◌, ℕ, ◌+◌, ◌++◌, ◌<◌, ◌≤◌, List, Option, Some, None, refl, ap, sym, ◌∙◌, subst, inl, inr, arith}
use Rattle.std.specs.Prelude.{Contains, IsNone, IsSomeAnd, IfSome, option_map}
use Rattle.std.proofs.lemmas.List.Elements.{filter_map-append}
use Rattle.std.proofs.lemmas.Option.{none-some, same_Some}
use Rattle.scene_model.specs.declared.body_view.Phase.TheVariants.{Out, Held, In}
use Rattle.scene_model.specs.declared.entry.Made.{Made}
use Rattle.scene_model.specs.Scene.{Record, record_at}
use Rattle.scene_model.specs.Step.{HasBody}
use Rattle.scene_model.specs.History.{scene_after}
use Rattle.word_map.specs.Names.{IsName}
use Rattle.word_map.specs.declared.name.Name.{Name}
use Rattle.word_map.specs.declared.name.Name.TheVariants.{State, Phase, Layer, User, BoxWord, LocA, LocB, Child, Bound, Parent, Main, Slot, Reader}
use Rattle.core_state.specs.declared.item.Store.{Store}
use Rattle.core_state.specs.declared.view.Marked.{Marked}
use Rattle.core_state.specs.declared.view.Noted.{Noted}
use Rattle.core_state.specs.declared.view.Batch.{Batch}
use Rattle.core_state.specs.declared.view.Task.{Task}
use Rattle.core_state.specs.declared.view.Task.TheVariants.{Nothing, Moving, Removing, Placing}
use Rattle.core_state.specs.declared.view.Call.{Call}
use Rattle.core_state.specs.declared.view.Rebuild.{Rebuild}
use Rattle.core_state.specs.declared.view.View.{View}
use Rattle.core_state.specs.Log.{history, made_by}
use Rattle.core_state.specs.View.{IsPass, no_call}
use Rattle.core_state.specs.Core.{Core, word_of, scene_of, IsViewAt}
use Rattle.core_state.specs.Kind.{Kind, Asking, Step, Steps, gained_by, view_after, after_step}
use Rattle.core_state.specs.Formed.{IsFormed, AreApart}
use Rattle.core_state.specs.Guards.{GuardsHold}
use Rattle.core_state.specs.Encoding.{NamesRoot, place, body_child, node_child, phase_join, slot_tree, layer_of, Covers, bound_in, Sides}
use Rattle.core_state.specs.Nodes.{Nodes, Home, Stands, IsLive, IsInTree, IsPublished, IsOwnedBy, IsOfLayer, node_in, Above, here, higher, under, made, superseded}
use Rattle.core_state.specs.Parts.{call_by_task, call_on_places, task_on_cover, task_at_place}
use Rattle.core_state.specs.Scope.{Scope, Sight, sight, HasPass}
use Rattle.core_state.specs.TreesSound.{TreesSoundIn, IsChild, nothing, a_body, a_node, IsPlaced, as_root, at_place, IsAsStored}
use Rattle.core_state.specs.Updates.{EachUpdate, HasUpdate, IsOldTree, IsPlacing, IsDone}
use Rattle.core_state.specs.Bodies.{all_batches}
use Rattle.core_state.specs.LocationsHold.{Removes, location_scope, IsPlannedIn}
use Rattle.core_state.specs.Invariants.{Invariants}
use Rattle.core_state.proofs.Forming.{pass_role}
use Rattle.core_state.proofs.Frames.{step-history}
use Rattle.core_state.proofs.Steps.{word-step-other}
use Rattle.core_guard.proofs.Seats.{KeepsNumber, seen_of, each-step, has-step, each-seats}
use Rattle.core_state.specs.declared.view.Role.{Role}
use Rattle.core_state.specs.declared.view.Role.TheVariants.{Pass}

-- ---- a step that is made, by a pass, in a core in which all holds

pub record Acts (core : Core) (step : Step) : Type 0 where
  pub at : IsViewAt core step.seat step.view
  pub pass : IsPass step.view step.number
  pub named : IsName core.config step.name
  pub formed : IsFormed core
  pub guards : GuardsHold core
  pub laws : Invariants core

pub acts-of : (asks : Asking) (kind : Kind) (before after : Core) → (steps : Steps asks kind before after) → IsFormed before → GuardsHold before → Invariants before → Acts before steps.step
acts-of asks kind before after steps formed guards laws =
    record { at = steps.allowed.at; pass = steps.allowed.pass; named = steps.allowed.named; formed = formed; guards = guards; laws = laws }

-- the part of it that does without form and guards: a pass makes the step, and all laws hold
pub record Lawful (core : Core) (step : Step) : Type 0 where
  pub at : IsViewAt core step.seat step.view
  pub pass : IsPass step.view step.number
  pub laws : Invariants core

abbrev pub lawful : {core : Core} {step : Step} → Acts core step → Lawful core step
lawful a = record { at = a.at; pass = a.pass; laws = a.laws }

-- ---- facts of options

pub if_some_map : {X : Type 0} (o : Option X) (P Q : X → Type 0) → ((x : X) → P x → Q x) → IfSome o P → IfSome o Q
if_some_map None P Q f h = h
if_some_map (Some x) P Q f h = f x h

-- with what is known of what is there
pub if_some_with : {X : Type 0} (o : Option X) (P Q : X → Type 0) → ((x : X) → o ≡ Some x → P x → Q x) → IfSome o P → IfSome o Q
if_some_with None P Q f h = h
if_some_with (Some x) P Q f h = f x refl h

-- two facts of one
pub if_some_both : {X : Type 0} (o : Option X) (P Q : X → Type 0) → IfSome o P → IfSome o Q → IfSome o (λ x. P x × Q x)
if_some_both None P Q h k = h
if_some_both (Some x) P Q h k = (h, k)

pub some_and_map : {X : Type 0} (o : Option X) (P Q : X → Type 0) → ((x : X) → P x → Q x) → IsSomeAnd o P → IsSomeAnd o Q
some_and_map None P Q f h = h
some_and_map (Some x) P Q f h = f x h

-- the three phases of a body are apart
pub out_in : Out ≡ In → ⊥
out_in e = absurd cc

pub out_held : Out ≡ Held → ⊥
out_held e = absurd cc

pub in_held : In ≡ Held → ⊥
in_held e = absurd cc

-- ---- tasks

-- a pass moves, removes or places the body
abbrev pub IsHandled : Task → ℕ → Type 0
IsHandled (Moving index target) i = index ≡ i
IsHandled (Removing index) i = index ≡ i
IsHandled (Placing index) i = index ≡ i
IsHandled _ i = ⊥

-- it does nothing with a body that stands in a tree, or is to
abbrev pub IsIdle : Task → Type 0
IsIdle (Moving index target) = ⊥
IsIdle (Removing index) = ⊥
IsIdle (Placing index) = ⊥
IsIdle _ = Unit {0}

pub idle-unhandled : (task : Task) (i : ℕ) → IsIdle task → ¬ IsHandled task i
idle-unhandled (Moving index target) i calm h = calm
idle-unhandled (Removing index) i calm h = calm
idle-unhandled (Placing index) i calm h = calm
idle-unhandled _ i calm h = h

-- so the laws of places read none
pub idle-places : (call : Call) → IsIdle call.task → call_on_places call ≡ no_call
idle-places call calm = go call.task calm
  where
    go : (task : Task) → IsIdle task → call_by_task task call ≡ no_call
    go (Moving index target) c = absurd c
    go (Removing index) c = absurd c
    go (Placing index) c = absurd c
    go _ c = refl

pub idle-cover : (task : Task) → IsIdle task → task_on_cover task ≡ Nothing
idle-cover (Moving index target) c = absurd c
idle-cover (Removing index) c = absurd c
idle-cover (Placing index) c = absurd c
idle-cover _ c = refl

pub idle-at_place : (task : Task) → IsIdle task → task_at_place task ≡ Nothing
idle-at_place (Moving index target) c = absurd c
idle-at_place (Removing index) c = absurd c
idle-at_place (Placing index) c = absurd c
idle-at_place _ c = refl

-- ---- words lead from a node in a tree to nodes of the same tree

pub record LeadsWithin (nodes : Nodes) (word : Name → ℕ) : Type 0 where
  pub up : (m a j : ℕ) → Stands (nodes.home m) → j < 4 → word (Parent m) ≡ place a j → nodes.home a ≡ nodes.home m
  pub down : (n k m : ℕ) → Stands (nodes.home n) → k < 4 → word (Child n k) ≡ node_child m → nodes.home m ≡ nodes.home n

module _ (nodes : Nodes) (s : Sight) where
  up-placed : (m a j : ℕ) → j < 4 → s.word (Parent m) ≡ place a j → IsPlaced nodes s m → nodes.home a ≡ nodes.home m
  up-placed m a j below e (as_root none root) = absurd (omega arith)
  up-placed m a j below e (at_place n k low is child home) =
      let same : n ≡ a = omega arith in
      subst (λ (x : ℕ). nodes.home x ≡ nodes.home m) same home

  pub down-child : (n k m : ℕ) → s.word (Child n k) ≡ node_child m → IsChild nodes s n k → nodes.home m ≡ nodes.home n
  down-child n k m e (nothing none) = absurd (omega arith)
  down-child n k m e (a_body i below is) = absurd (omega arith)
  down-child n k m e (a_node x is home parent depth) =
      let same : x ≡ m = omega arith in
      subst (λ (y : ℕ). nodes.home y ≡ nodes.home n) same home

  pub sound-leads : TreesSoundIn nodes s → LeadsWithin nodes s.word
  sound-leads h = record {
    up = λ m a j stands below e. up-placed m a j below e (h.sound m stands).placed;
    down = λ n k m stands below e. down-child n k m e ((h.sound n stands).children k below);
  }

-- a published node stands
pub published-stands : (home : Home) → IsPublished home → Stands home
published-stands (under name) h = tt
published-stands _ h = absurd h

-- and so does one of a tree that an update is to replace
pub old-stands : (r : Rebuild) (home : Home) → IsOldTree r home → Stands home
old-stands r (under name) h = tt
old-stands r _ h = absurd h

pub stands-in_tree : (home : Home) → Stands home → IsInTree home
stands-in_tree (under name) h = tt
stands-in_tree (superseded p name) h = tt
stands-in_tree (made p l) h = tt
stands-in_tree _ h = absurd h

-- a tree is of one layer
pub layer-once : (a b : ℕ) (home : Home) → IsLive home → IsOfLayer a home → IsOfLayer b home → a ≡ b
layer-once a b (under name) live one two = same_Some a b (sym one ∙ two)
layer-once a b (superseded p name) live one two = same_Some a b (sym one ∙ two)
layer-once a b _ live one two = absurd live

-- a new one is of one pass, and one layer
pub made-once : (p q k l : ℕ) → made p k ≡ made q l → (p ≡ q) × (k ≡ l)
made-once p q k l e = (ap pass_in e, ap layer_in e)
  where
    pass_in : Home → ℕ
    pass_in (made x y) = x
    pass_in _ = 0

    layer_in : Home → ℕ
    layer_in (made x y) = y
    layer_in _ = 0

-- ---- updates

-- what holds of the update of the view in each seat, as a law reads it
pub updates-at : (scope : Scope) → KeepsNumber scope → (part : Rebuild → Rebuild) → ((bare view : View) → (scope.part bare view).rebuild ≡ option_map part view.rebuild) → (core : Core) (P : ℕ → View → Rebuild → Type 0)
    → ((seat number : ℕ) (view : View) → IsViewAt core seat view → IsPass view number → (r : Rebuild) → view.rebuild ≡ Some r → P number (seen_of scope number view) (part r)) → EachUpdate (sight scope core) P
updates-at scope keeps part reads core P h =
    each-seats scope keeps core (λ number v. IfSome v.rebuild (P number v))
    (λ seat number view at pass. subst (λ (o : Option Rebuild). IfSome o (P number (seen_of scope number view))) (sym (reads _ view)) (go seat number view at pass view.rebuild refl))
  where
    go : (seat number : ℕ) (view : View) → IsViewAt core seat view → IsPass view number → (o : Option Rebuild) → view.rebuild ≡ o → IfSome (option_map part o) (P number (seen_of scope number view))
    go seat number view at pass None is = tt
    go seat number view at pass (Some r) is = h seat number view at pass r is

-- ---- the step

-- a body is as it was, but for its user number
pub data IsAsBefore : Option Record → Option Record → Type 0 where
  not_live : IsAsBefore None None
  is_live : (r : Record) (user : ℕ) → IsAsBefore (Some r) (Some (record r { user = user }))

-- what is the same is as before
pub as_before-same : (o p : Option Record) → p ≡ o → IsAsBefore o p
as_before-same o p e = subst (IsAsBefore o) (sym e) (go o)
  where
    go : (o : Option Record) → IsAsBefore o o
    go None = not_live
    go (Some r) = is_live r r.user

-- ---- words of bodies

-- the body whose word it is
abbrev pub body_of : Name → Option ℕ
body_of (State i) = Some i
body_of (Phase i) = Some i
body_of (Layer i) = Some i
body_of (User i) = Some i
body_of (BoxWord i k) = Some i
body_of (LocA i) = Some i
body_of (LocB i) = Some i
body_of _ = None

pub body-no_node : (name : Name) (i : ℕ) → body_of name ≡ Some i → (node_in name ≡ None) × (layer_of name ≡ None)
body-no_node (State j) i e = (refl, refl)
body-no_node (Phase j) i e = (refl, refl)
body-no_node (Layer j) i e = (refl, refl)
body-no_node (User j) i e = (refl, refl)
body-no_node (BoxWord j k) i e = (refl, refl)
body-no_node (LocA j) i e = (refl, refl)
body-no_node (LocB j) i e = (refl, refl)
body-no_node _ i e = absurd (none-some i e)

module _ (kind : Kind) (core : Core) (step : Step) where
  abbrev pub After : Core
  After = after_step kind core step

  abbrev pub Last : View
  Last = view_after kind core step

  -- ---- bodies

  -- a body is as it was, and so are the words of its places, and whether the pass takes it out or places it
  pub record Stays (i : ℕ) : Type 0 where
    pub body : IsAsBefore (record_at (scene_of core) i) (record_at (scene_of After) i)
    pub loc_a : word_of After (LocA i) ≡ word_of core (LocA i)
    pub loc_b : word_of After (LocB i) ≡ word_of core (LocB i)
    pub phase : word_of After (Phase i) ≡ word_of core (Phase i)
    pub box : (q : ℕ) → word_of After (BoxWord i q) ≡ word_of core (BoxWord i q)
    pub state : word_of After (State i) ≡ word_of core (State i)
    pub layer : word_of After (Layer i) ≡ word_of core (Layer i)
    pub removes : Removes step.view.call.task i ↔ Removes Last.call.task i
    pub places : IsPlacing step.view.call.task i ↔ IsPlacing Last.call.task i

  -- where its record and its words are the same
  pub stays-by : (i : ℕ) → record_at (scene_of After) i ≡ record_at (scene_of core) i → ((name : Name) → body_of name ≡ Some i → word_of After name ≡ word_of core name)
      → Removes step.view.call.task i ↔ Removes Last.call.task i → IsPlacing step.view.call.task i ↔ IsPlacing Last.call.task i → Stays i
  stays-by i body word removes places = record {
    body = as_before-same _ _ body;
    loc_a = word (LocA i) refl;
    loc_b = word (LocB i) refl;
    phase = word (Phase i) refl;
    box = λ q. word (BoxWord i q) refl;
    state = word (State i) refl;
    layer = word (Layer i) refl;
    removes = removes;
    places = places;
  }

  -- a body, or an index that is not live, stands in no tree and is not to, before the step and after it: nobody moves,
  -- removes or places it, it has no second location, and its first one leads to no tree
  pub record IsApart (nodes : Nodes) (i : ℕ) : Type 0 where
    pub unseen : ¬ HasBody (scene_of core) i (λ r. r.phase ≡ In)
    pub unseen_after : ¬ HasBody (scene_of After) i (λ r. r.phase ≡ In)
    pub alone : (seat number : ℕ) (view : View) → IsViewAt core seat view → IsPass view number → ¬ IsHandled view.call.task i
    pub alone_after : ¬ IsHandled Last.call.task i
    pub second : word_of core (LocB i) ≡ 0
    pub second_after : word_of After (LocB i) ≡ 0
    pub off : (n k : ℕ) → k < 4 → word_of core (LocA i) ≡ place n k → ¬ IsInTree (nodes.home n)
    pub off_after : (n k : ℕ) → k < 4 → word_of After (LocA i) ≡ place n k → ¬ IsInTree (nodes.home n)
    -- it has a first location only while a batch holds it
    pub dead : IsNone (record_at (scene_of After) i) → word_of After (LocA i) ≡ 0
    pub out : HasBody (scene_of After) i (λ r. r.phase ≡ Out) → word_of After (LocA i) ≡ 0
    -- and the slot that its phase names has no tree
    pub unjoined : (l t root : ℕ) → HasBody (scene_of After) i (λ r. r.layer ≡ l) → word_of After (Phase i) ≡ phase_join t → word_of core (Slot l t) ≢ slot_tree root

  -- ---- nodes

  -- a child is 0 that was the entry of a body which nobody needs any more: it is in no layer's broad phase, and an update
  -- that planned the entry has done with the body
  pub record IsCleared (nodes : Nodes) (n k : ℕ) : Type 0 where
    pub none : word_of After (Child n k) ≡ 0
    pub index : ℕ
    pub was : word_of core (Child n k) ≡ body_child index
    pub left : ¬ HasBody (scene_of core) index (λ r. r.phase ≡ In)
    pub done : EachUpdate (sight location_scope core) (λ number view r. (noted : Noted) → Contains r.noted noted → noted.index ≡ index → noted.place ≡ place n k → nodes.home n ≡ made number noted.layer → IsDone view r index)

  -- Nodes in trees keep homes, depths and parents, and children but for entries that nobody needs; bounds only widen. A node
  -- that comes to stand is a new one; the same roots are named, and new ones of new nodes. The history goes on, and the
  -- update is the same
  pub record Leaves (nodes later : Nodes) (New : ℕ → Type 0) : Type 0 where
    pub stays : (n : ℕ) → IsInTree (nodes.home n) → later.home n ≡ nodes.home n
    pub depth : (n : ℕ) → IsInTree (nodes.home n) → later.depth n ≡ nodes.depth n
    pub stood : (n : ℕ) → IsInTree (later.home n) → (later.home n ≡ nodes.home n) ⊎ New n
    pub child : (n k : ℕ) → IsInTree (nodes.home n) → (word_of After (Child n k) ≡ word_of core (Child n k)) ⊎ IsCleared nodes n k
    pub parent : (n : ℕ) → IsInTree (nodes.home n) → word_of After (Parent n) ≡ word_of core (Parent n)
    pub wide : (n k q : ℕ) → Stands (nodes.home n) → (q < 3 → word_of After (Bound n k q) ≤ word_of core (Bound n k q)) × (3 ≤ q → word_of core (Bound n k q) ≤ word_of After (Bound n k q))
    pub names : (name : Name) (root : ℕ) → NamesRoot name (word_of core name) root → NamesRoot name (word_of After name) root
    pub named : (name : Name) (root : ℕ) → NamesRoot name (word_of After name) root → NamesRoot name (word_of core name) root ⊎ New root
    pub more : List Made
    pub goes_on : history After.log ≡ history core.log ++ more
    pub rebuild : Last.rebuild ≡ step.view.rebuild

  module _ (a : Acts core step) (nodes later : Nodes) (New : ℕ → Type 0) (m : Leaves nodes later New) where
    pub home-forth : (n : ℕ) (home : Home) → IsInTree home → nodes.home n ≡ home → later.home n ≡ home
    home-forth n home inside e = m.stays n (subst IsInTree (sym e) inside) ∙ e

    pub home-back : (n : ℕ) (home : Home) → IsInTree home → later.home n ≡ home → (nodes.home n ≡ home) ⊎ New n
    home-back n home inside e = elim (m.stood n (subst IsInTree (sym e) inside)) [ inl same ↦ inl (sym same ∙ e) | inr new ↦ inr new ]

    -- a child that is a node stays, and so does the entry of a body in the broad phase; and none is new
    pub none-kept : (n k : ℕ) → IsInTree (nodes.home n) → word_of core (Child n k) ≡ 0 → word_of After (Child n k) ≡ 0
    none-kept n k inside e = elim (m.child n k inside) [ inl same ↦ same ∙ e | inr c ↦ c.none ]

    pub node-kept : (n k x : ℕ) → IsInTree (nodes.home n) → word_of core (Child n k) ≡ node_child x → word_of After (Child n k) ≡ node_child x
    node-kept n k x inside e = elim (m.child n k inside) [ inl same ↦ same ∙ e | inr c ↦ let was = c.was in absurd (omega arith) ]

    pub entry-kept : (n k i : ℕ) → IsInTree (nodes.home n) → HasBody (scene_of core) i (λ r. r.phase ≡ In) → word_of core (Child n k) ≡ body_child i → word_of After (Child n k) ≡ body_child i
    entry-kept n k i inside is_in e =
        elim (m.child n k inside) [
          | inl same ↦ same ∙ e
          | inr c ↦
              let one : i ≡ c.index = let was = c.was in omega arith in
              absurd (c.left (subst (λ (j : ℕ). HasBody (scene_of core) j (λ r. r.phase ≡ In)) one is_in))
        ]

    pub child-back : (n k x : ℕ) → IsInTree (nodes.home n) → 0 < x → word_of After (Child n k) ≡ x → word_of core (Child n k) ≡ x
    child-back n k x inside some e = elim (m.child n k inside) [ inl same ↦ sym same ∙ e | inr c ↦ let none = c.none in absurd (omega arith) ]

    pub stands-later : (n : ℕ) → Stands (nodes.home n) → Stands (later.home n)
    stands-later n stands = subst Stands (sym (m.stays n (stands-in_tree (nodes.home n) stands))) stands

    pub wider : (n k : ℕ) → Stands (nodes.home n) → Covers (bound_in (word_of After) n k) (bound_in (word_of core) n k)
    wider n k stands q low = ((m.wide n k q stands).0 low, (m.wide n k (3 + q) stands).1 (omega arith))

    -- ways up, by the words as a law reads them
    module _ (word new : Name → ℕ) (leads : LeadsWithin nodes word) (same : (n : ℕ) → IsInTree (nodes.home n) → new (Parent n) ≡ word (Parent n)) where
      up : (n x j : ℕ) → Stands (nodes.home n) → j < 4 → word (Parent n) ≡ place x j → Stands (nodes.home x)
      up n x j stands below e = subst Stands (sym (leads.up n x j stands below e)) stands

      pub above-stands : (n k x y : ℕ) → Stands (nodes.home n) → Above word n k x y → Stands (nodes.home x)
      above-stands n k x y stands (here p q) = stands
      above-stands n k x y stands (higher p q o j c d e below rest) = above-stands o j x y (up n o j stands below e) rest

      pub above-forth : (n k x y : ℕ) → Stands (nodes.home n) → Above word n k x y → Above new n k x y
      above-forth n k x y stands (here p q) = here p q
      above-forth n k x y stands (higher p q o j c d e below rest) =
          higher p q o j c d (same n (stands-in_tree (nodes.home n) stands) ∙ e) below (above-forth o j x y (up n o j stands below e) rest)

      pub above-back : (n k x y : ℕ) → Stands (nodes.home n) → Above new n k x y → Above word n k x y
      above-back n k x y stands (here p q) = here p q
      above-back n k x y stands (higher p q o j c d e below rest) =
          let old : word (Parent n) ≡ place o j = sym (same n (stands-in_tree (nodes.home n) stands)) ∙ e in
          higher p q o j c d old below (above-back o j x y (up n o j stands below old) rest)

    -- ---- what is said of updates, by the part of them that a law reads

    module _ (scope : Scope) (keeps : KeepsNumber scope) (part : Rebuild → Rebuild) (reads : (bare view : View) → (scope.part bare view).rebuild ≡ option_map part view.rebuild) where
      pub has_update : (number : ℕ) (P Q : Rebuild → Type 0) → ((r : Rebuild) → P r → Q r) → HasPass (sight scope core) number (λ v. HasUpdate v P) → HasPass (sight scope After) number (λ v. HasUpdate v Q)
      has_update number P Q more h =
          has-step scope keeps kind core step a.at a.pass number (λ v. HasUpdate v P) (λ v. HasUpdate v Q) h
          (λ seat view apart found own has. some_and_map _ P Q more has)
          (λ same has.
          subst (λ (o : Option Rebuild). IsSomeAnd o Q) (sym (reads _ Last ∙ (ap (option_map part) m.rebuild ∙ sym (reads _ step.view)))) (some_and_map _ P Q more has))

      pub each_update : (P Q : ℕ → View → Rebuild → Type 0) → EachUpdate (sight scope core) P
          → ((number : ℕ) (view : View) (r : Rebuild) → P number (seen_of scope number view) r → Q number (seen_of scope number view) r)
          → ((r : Rebuild) → option_map part step.view.rebuild ≡ Some r → P step.number (seen_of scope step.number step.view) r → Q step.number (seen_of scope step.number Last) r)
          → EachUpdate (sight scope After) Q
      each_update P Q h others own =
          each-step scope keeps kind core step a.at a.pass (λ number v. IfSome v.rebuild (P number v)) (λ number v. IfSome v.rebuild (Q number v)) h
          (λ seat number view apart found is has. if_some_with _ _ _ (λ r some p. others number view r p) has)
          (λ has.
          subst (λ (o : Option Rebuild). IfSome o (Q step.number (seen_of scope step.number Last))) (sym (reads _ Last ∙ (ap (option_map part) m.rebuild ∙ sym (reads _ step.view))))
          (if_some_with _ _ _ (λ r some p. own r (sym (reads _ step.view) ∙ some) p) has))

  -- ---- where the step stores no word of a node in a tree

  -- the history goes on by what the step adds
  pub step-goes_on : history After.log ≡ history core.log ++ history (gained_by kind core step)
  step-goes_on = filter_map-append made_by core.log (gained_by kind core step)

  -- a word that names no root says the same of all roots
  pub roots-other : layer_of step.name ≡ None → (name : Name) (root : ℕ) → (NamesRoot name (word_of core name) root → NamesRoot name (word_of After name) root)
      × (NamesRoot name (word_of After name) root → NamesRoot name (word_of core name) root)
  roots-other none (Main l) root =
      let same : word_of After (Main l) ≡ word_of core (Main l) = word-step-other kind core step (Main l) (λ e. none-some l (sym none ∙ ap layer_of (sym e))) in
      (λ h. same ∙ h, λ h. sym same ∙ h)
  roots-other none (Slot l t) root =
      let same : word_of After (Slot l t) ≡ word_of core (Slot l t) = word-step-other kind core step (Slot l t) (λ e. none-some l (sym none ∙ ap layer_of (sym e))) in
      (λ h. same ∙ h, λ h. sym same ∙ h)
  roots-other none _ root = (λ h. h, λ h. h)

  -- so it leaves all trees, where it leaves the update and no other node comes to stand in one
  pub leaves-aside : (nodes later : Nodes) → ((n : ℕ) → IsInTree (nodes.home n) → node_in step.name ≢ Some n)
      → ((n : ℕ) → IsInTree (nodes.home n) → later.home n ≡ nodes.home n) → ((n : ℕ) → IsInTree (nodes.home n) → later.depth n ≡ nodes.depth n) → ((n : ℕ) → IsInTree (later.home n) → later.home n ≡ nodes.home n)
      → ((name : Name) (root : ℕ) → (NamesRoot name (word_of core name) root → NamesRoot name (word_of After name) root) × (NamesRoot name (word_of After name) root → NamesRoot name (word_of core name) root))
      → Last.rebuild ≡ step.view.rebuild → Leaves nodes later (λ n. ⊥)
  leaves-aside nodes later apart stays depth stood roots rebuild =
      let word : (name : Name) (n : ℕ) → node_in name ≡ Some n → IsInTree (nodes.home n) → word_of After name ≡ word_of core name =
      λ name n of_node inside. word-step-other kind core step name (λ e. apart n inside (ap node_in (sym e) ∙ of_node))
      in
      record {
        stays = stays;
        depth = depth;
        stood = λ n inside. inl (stood n inside);
        child = λ n k inside. inl (word (Child n k) n refl inside);
        parent = λ n inside. word (Parent n) n refl inside;
        wide = λ n k q stands.
            let same = word (Bound n k q) n refl (stands-in_tree (nodes.home n) stands) in
            (λ low. omega arith, λ high. omega arith);
        names = λ name root. (roots name root).0;
        named = λ name root h. inl ((roots name root).1 h);
        more = history (gained_by kind core step);
        goes_on = step-goes_on;
        rebuild = rebuild;
      }

  -- and with the same homes, where it stores a word of no node
  pub leaves-same : (nodes : Nodes) → node_in step.name ≡ None → layer_of step.name ≡ None → Last.rebuild ≡ step.view.rebuild → Leaves nodes nodes (λ n. ⊥)
  leaves-same nodes no_node no_layer rebuild =
      leaves-aside nodes nodes (λ n inside e. none-some n (sym no_node ∙ e)) (λ n inside. refl) (λ n inside. refl) (λ n inside. refl) (roots-other no_layer) rebuild

  -- Each body stays as it is, or is apart from all trees before and after. The pass is in the middle of what it was in the
  -- middle of, or does nothing with bodies in trees, before and after; it walks as before. No word of another's node is
  -- stored, and what each pass stored in its own nodes stands; batches say where their bodies are
  pub record Touches (nodes later : Nodes) : Type 0 where
    pub leaves : Leaves nodes later (λ n. ⊥)
    pub bounds : (n k q : ℕ) → Stands (nodes.home n) → word_of After (Bound n k q) ≡ word_of core (Bound n k q)
    pub bodies : (i : ℕ) → Stays i ⊎ IsApart nodes i
    pub call : (Last.call ≡ step.view.call) ⊎ (IsIdle step.view.call.task × IsIdle Last.call.task)
    pub walk : Last.walk ≡ step.view.walk
    pub reader : (p : ℕ) → word_of After (Reader p) ≡ word_of core (Reader p)
    pub others : (n number : ℕ) → number ≢ step.number → IsOwnedBy number (nodes.home n) → (later.home n ≡ nodes.home n) × (node_in step.name ≢ Some n)
    pub written : (store : Store) → Contains Last.written store → IfSome (node_in store.name) (λ n. IsOwnedBy step.number (later.home n) × IsAsStored (word_of After) (later.home n) store.name store.value)
    pub held : (batch : Batch) (marked : Marked) → Contains (all_batches (sight location_scope After)) batch → Contains batch.marked marked
        → IsPlannedIn (sight location_scope After) batch marked × (word_of After (LocB marked.index) ≡ 0)

  -- a step that makes no entry leaves the scene as it was
  pub scene-plain : ((value : ℕ) → kind.entry step.view step.name value ≡ None) → (i : ℕ) → record_at (scene_of After) i ≡ record_at (scene_of core) i
  scene-plain plain i = ap (λ (l : List Made). record_at (scene_after core.config.bodies l) i) (step-history kind core step plain)

-- ---- bodies

-- the record of a body that is there was there before, with another user number
pub record-back : (o p : Option Record) (r : Record) → IsAsBefore o p → p ≡ Some r → (user : ℕ) × (o ≡ Some (record r { user = user }))
record-back o p r not_live e = absurd (none-some r e)
record-back o p r (is_live old user) e = (old.user, λ i. Some (record (same i) { user = old.user }))
  where
    same : record old { user = user } ≡ r
    same = same_Some (record old { user = user }) r e

-- a body that is not held is not held
pub held-once : (o : Option Record) → IsSomeAnd o (λ r. r.phase ≢ Held) → ¬ IsSomeAnd o (λ r. r.phase ≡ Held)
held-once None h held = h
held-once (Some r) h held = h held

-- ---- used by many

-- a node that is live stands
pub live-stands : (home : Home) → IsLive home → Stands home
live-stands (under name) h = tt
live-stands (superseded p name) h = tt
live-stands _ h = absurd h

pub covers-more : (a b c : Sides) → Covers a b → Covers b c → Covers a c
covers-more a b c ab bc q low = let x = ab q low in let y = bc q low in (omega arith, omega arith)

-- two seats of passes have two numbers
pub number-apart : (number further rest : ℕ) → ¬ AreApart (Pass number further) (Pass number rest)
number-apart number further rest (inl less) = absurd (omega arith)
number-apart number further rest (inr less) = absurd (omega arith)

pub other-number : (core : Core) (step : Step) → Acts core step → (seat number : ℕ) (view : View) → seat ≢ step.seat → IsViewAt core seat view → IsPass view number → number ≢ step.number
other-number core step a seat number view apart at pass same =
    let one = pass_role view.role step.number (pass ∙ ap Some same) in
    let two = pass_role step.view.role step.number a.pass in
    let parts = a.formed.apart seat step.seat view step.view at a.at apart in
    number-apart step.number one.0 two.0 (subst (λ (r : Role). AreApart r (Pass step.number two.0)) one.1 (subst (λ (r : Role). AreApart view.role r) two.1 parts))
