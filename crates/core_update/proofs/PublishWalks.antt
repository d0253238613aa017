-- The walks lead on once the tree of a word is taken out of sight: a body that was ahead in it is ahead in the main tree of
-- its layer, whose word the walk has not read either.
use Rattle.std.proofs.Common.{◌≡◌, ◌≢◌, ℕ, ◌<◌, ◌≤◌, length, Some, refl, ap, sym, ◌∙◌, subst, inl, inr, arith}
use Rattle.std.specs.Prelude.{Contains}
use Rattle.std.proofs.lemmas.Option.{same_Some}
use Rattle.fixed_box.specs.FixBox.{words_of}
use Rattle.fixed_box.specs.Touch.{Touch}
use Rattle.scene_model.specs.declared.body_view.Phase.TheVariants.{In}
use Rattle.scene_model.specs.Scene.{Scene, Record, record_at}
use Rattle.scene_model.specs.History.{IsDue, Fits, point}
use Rattle.word_map.specs.declared.name.Name.{Name}
use Rattle.word_map.specs.declared.name.Name.TheVariants.{LocB, Child, Bound, Main, Slot}
use Rattle.core_state.specs.declared.view.Rebuild.{Rebuild}
use Rattle.core_state.specs.declared.view.Walk.{Walk}
use Rattle.core_state.specs.Log.{history}
use Rattle.core_state.specs.Core.{Core, word_of, scene_of}
use Rattle.core_state.specs.Kind.{Kind, Step, after_step}
use Rattle.core_state.specs.Encoding.{NamesRoot, place, body_child, layer_of, Sides, sides_of, bound_in}
use Rattle.core_state.specs.Nodes.{Nodes, Home, made, under, superseded, Stands, IsPublished, Above, here}
use Rattle.core_state.specs.Scope.{Sight, sight, bare_view, word_in}
use Rattle.core_state.specs.Space.{HadSince}
use Rattle.core_state.specs.TreesSound.{tree_scope}
use Rattle.core_state.specs.LocationsHold.{location_scope, IsWhere, in_slot, in_main, in_old, in_merged}
use Rattle.core_state.specs.Walking.{Query, Position}
use Rattle.core_state.specs.WalksLead.{WalksLead, WalksLeadIn, WalkLeads, walk_scope, Way, to_entry, to_node, HoldsOne, IsAhead, is_found, by_slot, by_main, by_stack, by_child, by_part, ReadsMainLast, since_begun}
use Rattle.core_state.proofs.Beginning.{body_record, record_body, last_point}
use Rattle.core_state.proofs.Frames.{step-history, passes-same}
use Rattle.core_state.proofs.SameNames.{cases_name}
use Rattle.core_state.proofs.Steps.{word-step-other}
use Rattle.core_guard.proofs.Leaving.{Acts, After, LeadsWithin, sound-leads}
use Rattle.core_update.proofs.Publishing.{Published, Publishes, homes_after, update_after, other-word, unmoved}
use Rattle.core_update.proofs.PublishCover.{second-main}
use Rattle.core_update.proofs.PublishFacts.{has-place, taken-second, second-at}
use Rattle.core_update.proofs.PublishPlaces.{LocationsHold-published}
use Rattle.core_update.proofs.PublishTrees.{TreesSound-published}
use Rattle.core_update.proofs.SameWays.{way-same, spot-same, part-same, widens-same}
use Rattle.core_update.proofs.Unmoved.{scene-same}
use Rattle.core_update.proofs.UpToRoot.{climb}

abbrev name_under : Home → Name
name_under (under name) = name
name_under _ = Main 0

under-name : (one two : Name) → under one ≡ under two → one ≡ two
under-name one two e = ap name_under e

under-superseded : (name : Name) (number : ℕ) (other : Name) → under name ≢ superseded number other
under-superseded name number other e = absurd cc

under-made : (name : Name) (number l : ℕ) → under name ≢ made number l
under-made name number l e = absurd cc

module _ (kind : Kind) (core : Core) (step : Step) (a : Acts core step) (r : Rebuild) (q : Published) (p : Publishes kind core step a r q) where
  abbrev nodes : Nodes
  nodes = a.laws.nodes

  abbrev later : Nodes
  later = homes_after kind core step a r q

  abbrev Old : Sight
  Old = sight walk_scope core

  abbrev new : Name → ℕ
  new = word_in walk_scope (After kind core step)

  abbrev Now : Sight
  Now = record Old { word = new }

  abbrev Was : Sight
  Was = sight location_scope core

  abbrev x : Name
  x = step.name

  same-child : (n k : ℕ) → new (Child n k) ≡ Old.word (Child n k)
  same-child n k = other-word kind core step a r q p (Child n k) refl

  same-side : (n k z : ℕ) → new (Bound n k z) ≡ Old.word (Bound n k z)
  same-side n k z = other-word kind core step a r q p (Bound n k z) refl

  -- ---- a body that was ahead in the tree

  leads : LeadsWithin nodes (word_in tree_scope core)
  leads = sound-leads nodes (sight tree_scope core) a.laws.trees

  -- a way in it ends at an entry in it
  record EndsAt (index : ℕ) : Type 0 where
    pub node : ℕ
    pub child : ℕ
    pub below : child < 4
    pub home : nodes.home node ≡ under x
    pub entry : word_of core (Child node child) ≡ body_child index

  way-ends : (Had : Sides → Type 0) (index n : ℕ) → nodes.home n ≡ under x → Way Old.word Had index n → EndsAt index
  way-ends Had index n home (to_entry m k low e holds) = record { node = n; child = k; below = low; home = home; entry = e }
  way-ends Had index n home (to_node m k y low e holds rest) = way-ends Had index y (leads.down n k y (subst Stands (sym home) tt) low e ∙ home) rest

  -- so the body is of the layer of the word, and has a second location
  record IsLost (index : ℕ) (b : Record) : Type 0 where
    pub layer : layer_of x ≡ Some b.layer
    pub second : word_of core (LocB index) ≢ 0

  lost : (index : ℕ) (b : Record) → record_at (scene_of core) index ≡ Some b → b.phase ≡ In → EndsAt index → IsLost index b
  lost index b live inside t =
      elim ((a.laws.locations.entries index t.node t.child (subst IsPublished (sym t.home) tt) t.below t.entry).1) [
        | inl e ↦ record { layer = go (a.laws.locations.first index b t.node t.child live inside t.below e); second = taken-second kind core step a r q p index t.node t.child t.below e t.home }
        | inr e ↦ absurd (elsewhere e)
      ]
    where
      go : IsWhere nodes Was index b.layer t.node → layer_of x ≡ Some b.layer
      go (in_slot y phase home second) = ap layer_of (under-name x (Slot b.layer y) (sym t.home ∙ home))
      go (in_main phase home second) = ap layer_of (under-name x (Main b.layer) (sym t.home ∙ home))
      go (in_old number name phase some home of_layer) = absurd (under-superseded x number name (sym t.home ∙ home))
      go (in_merged number y root phase some home has) = ap layer_of (under-name x (Slot b.layer y) (sym t.home ∙ home))

      elsewhere : word_of core (LocB index) ≢ place t.node t.child
      elsewhere e =
          let n = second-at kind core step a r q p index (λ none. let at = e in absurd (omega arith)) in
          let h = has-place kind core step a r q p n.noted n.among in
          let one : h.node ≡ t.node = let at = h.at in let there = n.here in let low = h.below in let low_too = t.below in omega arith in
          let home : nodes.home h.node ≡ under x = ap nodes.home one ∙ t.home in
          elim (h.home) [
            | inl fresh ↦ under-made x step.number n.noted.layer (sym home ∙ fresh.0)
            | inr public ↦ p.exchanged n.noted.layer public.1 (under-name (Main n.noted.layer) x (sym public.0 ∙ home))
          ]

  -- then a way leads to it from the root of the main tree
  module _ (walk : Walk) (from : walk.from ≤ length (history core.log)) where
    abbrev Had : ℕ → Sides → Type 0
    Had index = HadSince Now walk.from index

    way-then : (index : ℕ) (b : Record) → record_at (scene_of core) index ≡ Some b → b.phase ≡ In → IsLost index b → (root : ℕ) × NamesRoot (Main b.layer) (new (Main b.layer)) root × Way new (Had index) index root
    way-then index b live inside l =
        let t = second-main kind core step a r q p index b live l.second (p.layer b.layer l.layer) in
        let then : record_at (scene_of (After kind core step)) index ≡ Some b =
        ap (λ (y : Scene). record_at y index) (scene-same kind core step a r (update_after kind core step a r q) later (unmoved kind core step a r q p)) ∙ live
        in
        let at = (LocationsHold-published kind core step a r q p).at index b t.node t.child then inside t.location in
        let box : Sides = sides_of (words_of b.bounds) in
        let now : record_at (point core.config.bodies (history core.log) (length (history core.log))) index ≡ Some b = ap (λ (y : Scene). record_at y index) (last_point core) ∙ live in
        let had : Had index box = (length (history core.log), from, omega arith, record_body _ (λ y. box ≡ sides_of (words_of y.bounds)) b now refl) in
        let wide : (n k : ℕ) → Above (word_in location_scope (After kind core step)) t.node t.child n k → HoldsOne (Had index) (bound_in (word_of (After kind core step)) n k) = λ n k up. (box, had, at.bounds n k up) in
        climb (After kind core step) later (TreesSound-published kind core step a r q p) (Had index) index t.node t.child wide (later.depth t.node) t.node t.child (Main b.layer) refl t.home (here t.node t.child)
        (to_entry t.node t.child t.location.0 at.entry (wide t.node t.child (here t.node t.child)))

    module _ (query : Query) (at : Position) (order : ReadsMainLast at) where
      -- a body that is due is in the broad phase
      due-body : (index generation : ℕ) → IsDue (Touch query.shape) query.mask core.config.bodies (since_begun Old walk) index generation → (b : Record) × (record_at (scene_of core) index ≡ Some b) × (b.phase ≡ In)
      due-body index generation due =
          let last = length (history core.log) in
          let fits : Fits (Touch query.shape) query.mask (scene_of core) index generation =
          subst (λ (y : Scene). Fits (Touch query.shape) query.mask y index generation) (last_point core) (due last from (omega arith))
          in
          let t = body_record (record_at (scene_of core) index) _ fits in
          (t.0, t.1, t.2.1.0)

      main-ahead : (index generation : ℕ) → IsDue (Touch query.shape) query.mask core.config.bodies (since_begun Old walk) index generation → (l : ℕ) → Contains at.rest (Main l) → Some l ≡ layer_of x → EndsAt index
          → IsAhead new (Had index) index query walk at
      main-ahead index generation due l among of ends =
          let b = due-body index generation due in
          let t = lost index b.0 b.1 b.2 ends in
          let same : l ≡ b.0.layer = same_Some l b.0.layer (of ∙ t.layer) in
          by_main (b.0.layer, (subst (λ (m : ℕ). Contains at.rest (Main m)) same among, way-then index b.0 b.1 b.2 t))

      ahead-forth : (index generation : ℕ) → IsDue (Touch query.shape) query.mask core.config.bodies (since_begun Old walk) index generation
          → IsAhead Old.word (Had index) index query walk at → IsAhead new (Had index) index query walk at
      ahead-forth index generation due (is_found found) = is_found found
      ahead-forth index generation due (by_slot h) =
          let root = h.2.1.0 in
          let names = h.2.1.1 in
          let way = h.2.1.2 in
          elim (cases_name (Slot h.0 h.1) x) [
            | inr other ↦ by_slot (h.0, h.1, (h.2.0, (root, word-step-other kind core step (Slot h.0 h.1) other ∙ names, way-same Old.word new same-child same-side (Had index) index root way)))
            | inl one ↦
                let home = (a.laws.trees.roots (Slot h.0 h.1) root names).0 ∙ ap under one in
                main-ahead index generation due h.0 (order h.0 h.1 h.2.0) (ap layer_of one) (way-ends (Had index) index root home way)
          ]
      ahead-forth index generation due (by_main h) =
          let root = h.1.1.0 in
          let names = h.1.1.1 in
          let way = h.1.1.2 in
          elim (cases_name (Main h.0) x) [
            | inr other ↦ by_main (h.0, (h.1.0, (root, word-step-other kind core step (Main h.0) other ∙ names, way-same Old.word new same-child same-side (Had index) index root way)))
            | inl one ↦
                let home = (a.laws.trees.roots (Main h.0) root names).0 ∙ ap under one in
                main-ahead index generation due h.0 h.1.0 (ap layer_of one) (way-ends (Had index) index root home way)
          ]
      ahead-forth index generation due (by_stack w among way) = by_stack w among (way-same Old.word new same-child same-side (Had index) index w.node way)
      ahead-forth index generation due (by_child h) = by_child (spot-same Old.word new same-child same-side (Had index) index at.spot h)
      ahead-forth index generation due (by_part h) = by_part (part-same Old.word new same-child same-side (Had index) index walk at.spot h)

    walk-forth : (query : Query) (at : Position) → WalkLeads Old walk query at → WalkLeads Now walk query at
    walk-forth query at h = record {
      ahead = λ index generation due. ahead-forth query at h.order index generation due (h.ahead index generation due);
      widens = widens-same Old.word new same-child same-side walk at.spot h.widens;
      order = h.order;
      once = h.once;
      bodies = h.bodies;
    }

  -- ---- the law

  pub WalksLead-published : WalksLead (after_step kind core step)
  WalksLead-published =
      let seen : sight walk_scope (After kind core step) ≡ Now =
      λ j. record {
        config = core.config;
        word = new;
        history = step-history kind core step p.plain j;
        passes = passes-same walk_scope kind core step a.at a.pass (λ i. record (bare_view step.number) { walk = p.walk i }) j;
      }
      in
      let h = a.laws.walks in
      subst WalksLeadIn (sym seen)
      (record {
        leads = λ number view among pass on query follows. walk-forth view.walk (h.begun number view among pass) query _ (h.leads number view among pass on query follows);
        begun = h.begun;
      })
