-- An entry of a body is cleared: a child word of a node that stands, which was the entry of a body, is 0. Trees stay sound,
-- walks lead on to all other bodies, and readers are counted, since no child that is a node changes.
use Rattle.std.proofs.Common.{◌≡◌, ◌≢◌, ◌⊎◌, ℕ, ◌+◌, ◌<◌, ◌≤◌, List, [], ◌∷◌, refl, ap, sym, ◌∙◌, subst, inl, inr, length, arith, Bool, true, false, None}
use Rattle.std.specs.Prelude.{IfSome, map, take, if◌then◌else◌}
use Rattle.std.proofs.lemmas.Bool.{false≢true, cases_eq, cases_Bool}
use Rattle.std.proofs.lemmas.List.{take_all}
use Rattle.fixed_box.specs.declared.fix_box.FixBox.{FixBox}
use Rattle.fixed_box.specs.Touch.{Touch}
use Rattle.scene_model.specs.declared.body_view.Phase.TheVariants.{In}
use Rattle.scene_model.specs.Scene.{Scene, record_at}
use Rattle.scene_model.specs.Step.{HasBody}
use Rattle.scene_model.specs.History.{IsDue, Fits, scene_after}
use Rattle.word_map.specs.declared.name.Name.{Name}
use Rattle.word_map.specs.declared.name.Name.TheVariants.{Child, Bound, Parent, Main, Slot}
use Rattle.core_state.specs.declared.item.Load.{Load}
use Rattle.core_state.specs.declared.view.Task.{Task}
use Rattle.core_state.specs.declared.view.Task.TheVariants.{Moving, Removing}
use Rattle.core_state.specs.declared.view.Rebuild.{Rebuild}
use Rattle.core_state.specs.declared.view.Walk.{Walk}
use Rattle.core_state.specs.declared.view.View.{View}
use Rattle.core_state.specs.Core.{Core, word_of}
use Rattle.core_state.specs.Kind.{Kind, Step, view_after, after_step}
use Rattle.core_state.specs.Encoding.{body_child, node_child, NamesRoot, Sides}
use Rattle.core_state.specs.Nodes.{Nodes, Home, owned, made, under, superseded, Stands, IsOwnedBy, node_in, Above, here, higher, Below, itself, lower}
use Rattle.core_state.specs.Scope.{Scope, Sight, sight, word_in, bare_view, scene_in}
use Rattle.core_state.specs.Space.{HadSince}
use Rattle.core_state.specs.TreesSound.{TreesSoundIn, IsRootOf, IsChild, nothing, a_body, a_node, IsPlaced, as_root, at_place, IsSoundNode, IsAsStored, IsLeft, as_top, below}
use Rattle.core_state.specs.Walking.{Query, Spot, resting, at_child, at_bound, Position, position_of}
use Rattle.core_state.specs.WalksLead.{WalksLeadIn, Way, to_entry, to_node, Leads, is_entry, by_node, ChildLeads, LeadsBySpot, LeadsByPart, IsAhead, is_found, by_slot, by_main, by_stack as ahead_by_stack, by_child as ahead_by_child, by_part as ahead_by_part, OnlyWidens, since_begun}
use Rattle.core_state.specs.ReadersCounted.{ReadersCountedIn, ReachesByChild, ReachesBySpot, the_node, the_node_of_bound, by_child, by_next_child, by_part, Reaches, by_stack, by_spot, AreApart, IsWalkedAt, WalkStays, AvoidsSuperseded, ClimbsInTrees, IsTight}
use Rattle.core_state.proofs.Frames.{same_cond, step-history, passes-same}
use Rattle.core_state.proofs.Steps.{word-step-other}
use Rattle.core_guard.proofs.Leaving.{Acts, if_some_map, some_and_map}
use Rattle.core_guard.proofs.ReadersLeft.{pairs-again, TightSide}
use Rattle.core_guard.proofs.TreesLeft.{stored-same}

-- ---- words of which some children are others

abbrev pub with_children : (Name → ℕ) → (ℕ → ℕ → ℕ) → Name → ℕ
with_children word c (Child n k) = c n k
with_children word c name = word name

abbrev pub cleared_in : Sight → (ℕ → ℕ → ℕ) → Sight
cleared_in s c = record s { word = with_children s.word c }

-- a child word that was the entry of the body is 0
pub record IsGone (nodes : Nodes) (old c : ℕ → ℕ → ℕ) (i n k : ℕ) : Type 0 where
  pub none : c n k ≡ 0
  pub was : old n k ≡ body_child i
  pub stands : Stands (nodes.home n)

-- and any other is what it was
abbrev pub ClearsEntries : Nodes → (Name → ℕ) → (ℕ → ℕ → ℕ) → ℕ → Type 0
ClearsEntries nodes word c i = (n k : ℕ) → (c n k ≡ word (Child n k)) ⊎ IsGone nodes (λ n k. word (Child n k)) c i n k

-- ways up are by parents alone
pub above-same : (v w : Name → ℕ) → ((n : ℕ) → w (Parent n) ≡ v (Parent n)) → (n k a b : ℕ) → Above v n k a b → Above w n k a b
above-same v w same n k a b (here x y) = here x y
above-same v w same n k a b (higher x y m j p q e low rest) = higher x y m j p q (same n ∙ e) low (above-same v w same m j p q rest)

module _ (nodes : Nodes) (s : Sight) (c : ℕ → ℕ → ℕ) (i : ℕ) (clears : ClearsEntries nodes s.word c i) where
  abbrev New : Sight
  New = cleared_in s c

  -- a child that is a node stays, and so does the entry of another body; and none is new
  pub node-kept : (n k m : ℕ) → s.word (Child n k) ≡ node_child m → c n k ≡ node_child m
  node-kept n k m e = elim (clears n k) [ inl same ↦ same ∙ e | inr gone ↦ let was = gone.was in absurd (omega arith) ]

  pub body-kept : (n k j : ℕ) → j ≢ i → s.word (Child n k) ≡ body_child j → c n k ≡ body_child j
  body-kept n k j apart e = elim (clears n k) [ inl same ↦ same ∙ e | inr gone ↦ let was = gone.was in absurd (apart (omega arith)) ]

  pub none-kept : (n k : ℕ) → s.word (Child n k) ≡ 0 → c n k ≡ 0
  none-kept n k e = elim (clears n k) [ inl same ↦ same ∙ e | inr gone ↦ gone.none ]

  pub some-back : (n k x : ℕ) → 0 < x → c n k ≡ x → s.word (Child n k) ≡ x
  some-back n k x some e = elim (clears n k) [ inl same ↦ sym same ∙ e | inr gone ↦ let none = gone.none in absurd (omega arith) ]

  node-back : (n k m : ℕ) → c n k ≡ node_child m → s.word (Child n k) ≡ node_child m
  node-back n k m e = some-back n k (node_child m) (omega arith) e

  -- ---- trees

  child-forth : (n k : ℕ) → IsChild nodes s n k → IsChild nodes New n k
  child-forth n k (nothing e) = nothing (none-kept n k e)
  child-forth n k (a_body j low e) = elim (clears n k) [ inl same ↦ a_body j low (same ∙ e) | inr gone ↦ nothing gone.none ]
  child-forth n k (a_node m e home parent depth) = a_node m (node-kept n k m e) home parent depth

  names-forth : (name : Name) (root : ℕ) → NamesRoot name (s.word name) root → NamesRoot name (New.word name) root
  names-forth (Main l) root h = h
  names-forth (Slot l t) root h = h
  names-forth _ root h = absurd h

  names-back : (name : Name) (root : ℕ) → NamesRoot name (New.word name) root → NamesRoot name (s.word name) root
  names-back (Main l) root h = h
  names-back (Slot l t) root h = h
  names-back _ root h = absurd h

  root-forth : (home : Home) (root : ℕ) → IsRootOf s home root → IsRootOf New home root
  root-forth (under name) root h = names-forth name root h
  root-forth (made number l) root h = h
  root-forth (superseded number name) root h = h
  root-forth _ root h = absurd h

  placed-forth : (m : ℕ) → IsPlaced nodes s m → IsPlaced nodes New m
  placed-forth m (as_root e root) = as_root e (root-forth (nodes.home m) m root)
  placed-forth m (at_place n k low e child home) = at_place n k low e (node-kept n k m child) home

  sound-forth : (n : ℕ) → IsSoundNode nodes s n → IsSoundNode nodes New n
  sound-forth n h = record {
    children = λ k low. child-forth n k (h.children k low);
    placed = placed-forth n h.placed;
    height = h.height;
    bounds = λ k low some. h.bounds k low (λ none. some (none-kept n k none));
  }

  -- what was stored in an own node stands, but that the entry may be gone of one in a new tree
  child-stored : (n k value : ℕ) (home : Home) → nodes.home n ≡ home → IsAsStored s.word home (Child n k) value → IsAsStored New.word home (Child n k) value
  child-stored n k value (owned p) e h = elim (clears n k) [ inl same ↦ same ∙ h | inr gone ↦ absurd (subst Stands e gone.stands) ]
  child-stored n k value (made p l) e h =
      elim (clears n k) [
        | inl same ↦ elim h [ inl is ↦ inl (same ∙ is) | inr t ↦ inr (same ∙ t.0, t.1) ]
        | inr gone ↦ elim h [ inl is ↦ inr (gone.none, (i, sym is ∙ gone.was)) | inr t ↦ inr (gone.none, t.1) ]
      ]
  child-stored n k value _ e h = absurd h

  stored-forth : (number value : ℕ) (name : Name) → IfSome (node_in name) (λ n. IsOwnedBy number (nodes.home n) × IsAsStored s.word (nodes.home n) name value)
      → IfSome (node_in name) (λ n. IsOwnedBy number (nodes.home n) × IsAsStored New.word (nodes.home n) name value)
  stored-forth number value (Child n k) h = (h.0, child-stored n k value (nodes.home n) refl h.1)
  stored-forth number value (Bound n k q) h = (h.0, stored-same s.word New.word (nodes.home n) (Bound n k q) value refl h.1)
  stored-forth number value (Parent n) h = (h.0, stored-same s.word New.word (nodes.home n) (Parent n) value refl h.1)
  stored-forth number value _ h = tt

  left-forth : (number : ℕ) (r : Rebuild) (n : ℕ) → IsLeft nodes s number r n → IsLeft nodes New number r n
  left-forth number r n (as_top level among) = as_top level among
  left-forth number r n (below x k low parent child home) = below x k low parent (node-kept x k n child) home

  pub TreesSound-cleared : TreesSoundIn nodes s → TreesSoundIn nodes New
  TreesSound-cleared h = record {
    sound = λ n stands. sound-forth n (h.sound n stands);
    roots = λ name root names. h.roots name root (names-back name root names);
    stored = λ number view among pass store inside. stored-forth number store.value store.name (h.stored number view among pass store inside);
    made_roots = h.made_roots;
    superseded_roots = h.superseded_roots;
    left_nodes = λ n number e.
        let t = h.left_nodes n number e in
        (t.0, t.1, t.2, some_and_map t.0.rebuild _ _ (λ r old. record { children = λ k low. child-forth n k (old.children k low); left = left-forth number r n old.left; height = old.height }) t.3);
    tops = λ number view among pass.
        if_some_map view.rebuild _ _
        (λ r old. record { tops = λ top inside. let t = old.tops top inside in record { owned = t.owned; alone = t.alone; low = t.low }; once = old.once }) (h.tops number view among pass);
  }

  -- ---- walks, where the body is in no layer's broad phase

  module _ (Had : Sides → Type 0) (index : ℕ) (apart : index ≢ i) where
    way-forth : (n : ℕ) → Way s.word Had index n → Way New.word Had index n
    way-forth n (to_entry x k low e holds) = to_entry n k low (body-kept n k index apart e) holds
    way-forth n (to_node x k m low e holds rest) = to_node n k m low (node-kept n k m e) holds (way-forth m rest)

    leads-forth : (x : ℕ) → Leads s.word Had index x → Leads New.word Had index x
    leads-forth x (is_entry e) = is_entry e
    leads-forth x (by_node m e way) = by_node m e (way-forth m way)

    leads-kept : (n k : ℕ) → Leads s.word Had index (s.word (Child n k)) → Leads New.word Had index (c n k)
    leads-kept n k (is_entry e) = is_entry (body-kept n k index apart e)
    leads-kept n k (by_node m e way) = by_node m (node-kept n k m e) (way-forth m way)

    children-forth : (n from : ℕ) → ChildLeads s.word Had index n from → ChildLeads New.word Had index n from
    children-forth n from h = (h.0, h.1, h.2, h.3, leads-kept n h.0 h.4)

    spot-forth : (spot : Spot) → LeadsBySpot s.word Had index spot → LeadsBySpot New.word Had index spot
    spot-forth resting h = h
    spot-forth (at_child n level k) h = children-forth n k h
    spot-forth (at_bound n level k x read) h = children-forth n (k + 1) h

    part-forth : (walk : Walk) (spot : Spot) → LeadsByPart s.word Had index walk spot → LeadsByPart New.word Had index walk spot
    part-forth walk resting h = h
    part-forth walk (at_child n level k) h = h
    part-forth walk (at_bound n level k x []) h = (h.0, leads-forth x h.1)
    part-forth walk (at_bound n level k x (side ∷ read)) h = (h.0, leads-forth x h.1)

    ahead-forth : (query : Query) (walk : Walk) (at : Position) → IsAhead s.word Had index query walk at → IsAhead New.word Had index query walk at
    ahead-forth query walk at (is_found found) = is_found found
    ahead-forth query walk at (by_slot h) = by_slot (h.0, h.1, (h.2.0, (h.2.1.0, h.2.1.1, way-forth h.2.1.0 h.2.1.2)))
    ahead-forth query walk at (by_main h) = by_main (h.0, (h.1.0, (h.1.1.0, h.1.1.1, way-forth h.1.1.0 h.1.1.2)))
    ahead-forth query walk at (ahead_by_stack w among way) = ahead_by_stack w among (way-forth w.node way)
    ahead-forth query walk at (ahead_by_child h) = ahead_by_child (spot-forth at.spot h)
    ahead-forth query walk at (ahead_by_part h) = ahead_by_part (part-forth walk at.spot h)

  widens-forth : (walk : Walk) (spot : Spot) → OnlyWidens s.word walk spot → OnlyWidens New.word walk spot
  widens-forth walk resting h = h
  widens-forth walk (at_child n level k) h = h
  widens-forth walk (at_bound n level k x []) h = record { box = h.box; begun_box = h.begun_box; now = h.now; begun = h.begun; child = λ m is. node-kept n k m (h.child m is ∙ is) ∙ sym is }
  widens-forth walk (at_bound n level k x (side ∷ read)) h = record { box = h.box; begun_box = h.begun_box; now = h.now; begun = h.begun; child = λ m is. node-kept n k m (h.child m is ∙ is) ∙ sym is }

  -- a body that is due is in the broad phase now
  due-apart : (touches : FixBox → Type 0) (mask index generation : ℕ) (walk : Walk) → walk.from ≤ length s.history → ¬ HasBody (scene_in s) i (λ r. r.phase ≡ In)
      → IsDue touches mask s.config.bodies (since_begun s walk) index generation → index ≢ i
  due-apart touches mask index generation walk begun left due same =
      let now : scene_after s.config.bodies (take (length s.history) s.history) ≡ scene_in s = ap (scene_after s.config.bodies) (take_all (length s.history) s.history (omega arith)) in
      let fits : Fits touches mask (scene_in s) index generation = subst (λ (scene : Scene). Fits touches mask scene index generation) now (due (length s.history) begun (omega arith)) in
      left (subst (λ (k : ℕ). HasBody (scene_in s) k (λ r. r.phase ≡ In)) same (some_and_map (record_at (scene_in s) index) _ _ (λ r h. h.1.0) fits))

  pub WalksLead-cleared : ¬ HasBody (scene_in s) i (λ r. r.phase ≡ In) → WalksLeadIn s → WalksLeadIn New
  WalksLead-cleared left h = record {
    leads = λ number view among pass on query follows.
        let old = h.leads number view among pass on query follows in
        record {
          ahead = λ index generation due.
              ahead-forth (HadSince s view.walk.from index) index (due-apart (Touch query.shape) query.mask index generation view.walk (h.begun number view among pass) left due) query view.walk
              (position_of s.config query view.walk.loads) (old.ahead index generation due);
          widens = widens-forth view.walk (position_of s.config query view.walk.loads).spot old.widens;
          order = old.order;
          once = old.once;
          bodies = old.bodies;
        };
    begun = h.begun;
  }

  -- ---- readers

  below-back : (n x : ℕ) → Below New.word n x → Below s.word n x
  below-back n x (itself y) = itself y
  below-back n x (lower y k m z low e rest) = lower n k m x low (node-back n k m e) (below-back m x rest)

  reach_child-back : (n from x : ℕ) → ReachesByChild New.word n from x → ReachesByChild s.word n from x
  reach_child-back n from x h = (h.0, h.1, h.2, h.3, node-back n h.0 h.1 h.4, below-back h.1 x h.5)

  spot-back : (x : ℕ) (spot : Spot) → ReachesBySpot New.word x spot → ReachesBySpot s.word x spot
  spot-back x spot (the_node level k) = the_node level k
  spot-back x spot (the_node_of_bound level k y read) = the_node_of_bound level k y read
  spot-back x spot (by_child n level k h) = by_child n level k (reach_child-back n k x h)
  spot-back x spot (by_next_child n level k y read h) = by_next_child n level k y read (reach_child-back n (k + 1) x h)
  spot-back x spot (by_part n level k y m read e h) = by_part n level k y m read e (below-back m x h)

  module _ (at : Position) where
    reaches-back : (x : ℕ) → Reaches New.word at x → Reaches s.word at x
    reaches-back x (by_stack w among h) = by_stack w among (below-back w.node x h)
    reaches-back x (by_spot h) = by_spot (spot-back x at.spot h)

    known-back : (loads : List Load) (x : ℕ) → Reaches New.word at x ⊎ IsWalkedAt loads x → Reaches s.word at x ⊎ IsWalkedAt loads x
    known-back loads x (inl h) = inl (reaches-back x h)
    known-back loads x (inr h) = inr h

    stays-forth : (loads : List Load) → WalkStays nodes s.word loads at → WalkStays nodes New.word loads at
    stays-forth loads h = record {
      live = λ x reaches. h.live x (reaches-back x reaches);
      apart = pairs-again (AreApart s.word) (AreApart New.word) (map (λ w. w.node) at.stack) (λ x y first second apart. (λ low. apart.0 (below-back x y low), λ low. apart.1 (below-back y x low))) h.apart;
      ahead = λ w among reaches. h.ahead w among (spot-back w.node at.spot reaches);
      behind = λ w n among hand low. h.behind w n among hand (below-back w.node n low);
      levels = h.levels;
      read = λ x name from home. h.read x name (known-back loads x from) home;
      visited = λ n walked. ((h.visited n walked).0, λ reaches. (h.visited n walked).1 (reaches-back n reaches));
    }

  avoids-forth : (number : ℕ) (walk : Walk) → AvoidsSuperseded nodes s number walk → AvoidsSuperseded nodes New number walk
  avoids-forth number walk h on query follows x name from = h on query follows x name (known-back (position_of s.config query walk.loads) walk.loads x from)

  climbs-forth : (task : Task) → ClimbsInTrees nodes s task → ClimbsInTrees nodes New task
  climbs-forth (Moving index target) h = λ n k x y location up. h n k x y location (above-same New.word s.word (λ m. refl) n k x y up)
  climbs-forth (Removing index) h = λ n k x y location up. h n k x y location (above-same New.word s.word (λ m. refl) n k x y up)
  climbs-forth _ h = tt

  side-forth : (r : Rebuild) (n k q side : ℕ) → TightSide s r n k q side → TightSide New r n k q side
  side-forth r n k q side t = (t.0, t.1, (t.2.0, t.2.1, t.2.2, t.2.3, above-same s.word New.word (λ m. refl) t.2.0 t.2.1 n k t.2.4), t.3)

  tight-forth : (number : ℕ) (r : Rebuild) → IsTight nodes s number r → IsTight nodes New number r
  tight-forth number r h n k l home low full q side =
      let t = h n k l home low (λ none. full (none-kept n k none)) q side in
      ((t.0.0, side-forth r n k q t.0.0 t.0.1, t.0.2), (t.1.0, side-forth r n k (3 + q) t.1.0 t.1.1, t.1.2))

  pub ReadersCounted-cleared : ReadersCountedIn nodes s → ReadersCountedIn nodes New
  ReadersCounted-cleared h = record {
    odd = h.odd;
    stays = λ number view among pass on query follows. stays-forth (position_of s.config query view.walk.loads) view.walk.loads (h.stays number view among pass on query follows);
    in_space = λ number view among pass on query follows. let old = h.in_space number view among pass on query follows in record { sides = old.sides; part = old.part };
    seen_off = λ number view among pass.
        if_some_map view.rebuild _ _ (λ r old q other inside own seen. avoids-forth number other.walk (old q other inside own seen)) (h.seen_off number view among pass);
    climbs = λ number view among pass. climbs-forth view.call.task (h.climbs number view among pass);
    space = λ n k l live layer low full. h.space n k l live layer low (λ none. full (none-kept n k none));
    tight = λ number view among pass. if_some_map view.rebuild _ _ (λ r old planned. tight-forth number r (old planned)) (h.tight number view among pass);
  }

-- ---- a step on a child word

abbrev is_child : Name → Bool
is_child (Child n k) = true
is_child _ = false

abbrev node_of : Name → ℕ
node_of (Child n k) = n
node_of _ = 0

abbrev child_of : Name → ℕ
child_of (Child n k) = k
child_of _ = 0

child-name : (name : Name) → is_child name ≡ true → (n : ℕ) × (k : ℕ) × (name ≡ Child n k)
child-name (Child n k) is = (n, k, refl)
child-name _ is = absurd (false≢true is)

other-children : (word : Name → ℕ) (c : ℕ → ℕ → ℕ) (name : Name) → is_child name ≡ false → with_children word c name ≡ word name
other-children word c (Child n k) none = absurd (false≢true (sym none))
other-children word c _ none = refl

module _ (kind : Kind) (core : Core) (step : Step) (node child : ℕ) (names : step.name ≡ Child node child) (plain : (value : ℕ) → kind.entry step.view step.name value ≡ None) where
  -- the child words of nodes afterwards, as a scope sees them
  abbrev pub children_in : Scope → ℕ → ℕ → ℕ
  children_in scope n k = word_in scope (after_step kind core step) (Child n k)

  child-words : (scope : Scope) (name : Name) → word_in scope (after_step kind core step) name ≡ with_children (word_in scope core) (children_in scope) name
  child-words scope name =
      elim (cases_Bool (is_child name)) [
        | inl is ↦
            let t = child-name name is in
            subst (λ (x : Name). word_in scope (after_step kind core step) x ≡ with_children (word_in scope core) (children_in scope) x) (sym t.2) refl
        | inr none ↦
            same_cond (scope.names name) (word_of (after_step kind core step) name) (word_of core name) 0
            (λ reads. word-step-other kind core step name (λ e. false≢true (sym none ∙ ap is_child (e ∙ names))))
            ∙ sym (other-children (word_in scope core) (children_in scope) name none)
      ]

  -- what a law sees is what it saw but for them, and for the passes
  pub child-sight : (scope : Scope) → sight scope (after_step kind core step) ≡ record (cleared_in (sight scope core) (children_in scope)) { passes = (sight scope (after_step kind core step)).passes }
  child-sight scope = λ j. record {
    config = core.config;
    word = λ name. child-words scope name j;
    history = if scope.reads_history then step-history kind core step plain j else [];
    passes = (sight scope (after_step kind core step)).passes;
  }

  -- so a law that sees no change of the view holds where it does of these words
  pub child-law : (a : Acts core step) (scope : Scope) (Law : Sight → Type 0) → scope.part (bare_view step.number) (view_after kind core step) ≡ scope.part (bare_view step.number) step.view
      → Law (cleared_in (sight scope core) (children_in scope)) → Law (sight scope (after_step kind core step))
  child-law a scope Law same h =
      subst Law (sym (child-sight scope))
      (subst (λ (l : List View). Law (record (cleared_in (sight scope core) (children_in scope)) { passes = l })) (sym (passes-same scope kind core step a.at a.pass same)) h)

  -- a child is the one that is stored, or it is as before
  pub child-where : (n k : ℕ) → ((n ≡ node) × (k ≡ child)) ⊎ (word_of (after_step kind core step) (Child n k) ≡ word_of core (Child n k))
  child-where n k =
      elim (cases_eq n node) [
        | inl same ↦ elim (cases_eq k child) [
          | inl too ↦ inl (same, too)
          | inr apart ↦ inr (word-step-other kind core step (Child n k) (λ e. apart (ap child_of (e ∙ names))))
        ]
        | inr apart ↦ inr (word-step-other kind core step (Child n k) (λ e. apart (ap node_of (e ∙ names))))
      ]

  -- so what is said is shown of the one child
  abbrev IsSo : Nodes → ℕ → ℕ → ℕ → Type 0
  IsSo nodes i n k = (word_of (after_step kind core step) (Child n k) ≡ word_of core (Child n k)) ⊎ IsGone nodes (λ n k. word_of core (Child n k)) (λ n k. word_of (after_step kind core step) (Child n k)) i n k

  pub child-clears : (nodes : Nodes) (i : ℕ) → word_of (after_step kind core step) (Child node child) ≡ 0 → (word_of core (Child node child) ≡ 0) ⊎ ((word_of core (Child node child) ≡ body_child i) × Stands (nodes.home node))
      → ClearsEntries nodes (word_of core) (λ n k. word_of (after_step kind core step) (Child n k)) i
  child-clears nodes i none was n k =
      let here : IsSo nodes i node child = elim was [ inl e ↦ inl (none ∙ sym e) | inr t ↦ inr (record { none = none; was = t.0; stands = t.1 }) ] in
      elim (child-where n k) [
        | inl same ↦ subst (λ (m : ℕ). IsSo nodes i m k) (sym same.0) (subst (IsSo nodes i node) (sym same.1) here)
        | inr kept ↦ inl kept
      ]
