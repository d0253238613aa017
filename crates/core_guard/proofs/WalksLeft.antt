-- The walks lead on after a step that leaves trees: what a walk still reaches stands, and stays where it is.
use Rattle.std.proofs.Common.{◌≡◌, ℕ, ◌+◌, ◌<◌, ◌≤◌, List, [], ◌∷◌, ◌++◌, Bool, true, false, length, cond, refl, ap, sym, ◌∙◌, subst, arith}
use Rattle.std.specs.Prelude.{nat_lt, slice_index, take}
use Rattle.std.proofs.lemmas.List.{take_all}
use Rattle.std.proofs.lemmas.Bool.Decides.{nat_tests}
use Rattle.fixed_box.specs.declared.fix_box.FixBox.{FixBox}
use Rattle.fixed_box.specs.Touch.{Touch}
use Rattle.scene_model.specs.declared.entry.Made.{Made}
use Rattle.scene_model.specs.Scene.{Scene, record_at}
use Rattle.scene_model.specs.Step.{HasBody}
use Rattle.scene_model.specs.declared.body_view.Phase.TheVariants.{In}
use Rattle.scene_model.specs.History.{IsDue, Fits, scene_after}
use Rattle.word_map.specs.declared.name.Name.{Name}
use Rattle.word_map.specs.declared.name.Name.TheVariants.{Main, Slot, Child}
use Rattle.core_state.specs.declared.view.Walk.{Walk}
use Rattle.core_state.specs.declared.view.View.{View}
use Rattle.core_state.specs.Log.{history}
use Rattle.core_state.specs.View.{IsPass}
use Rattle.core_state.specs.Core.{Core, scene_of, IsViewAt}
use Rattle.core_state.specs.Kind.{Kind, Step}
use Rattle.core_state.specs.Encoding.{body_child, node_child, NamesRoot, IsBox, Sides, Covers, bound_in}
use Rattle.core_state.specs.Nodes.{Nodes, Stands, itself}
use Rattle.core_state.specs.Scope.{scene_in, Sight, sight, word_in}
use Rattle.core_state.specs.Space.{HadSince}
use Rattle.core_state.specs.TreesSound.{tree_scope}
use Rattle.core_state.specs.Walking.{Query, Spot, resting, at_child, at_bound, Position, Follows, position_of}
use Rattle.core_state.specs.WalksLead.{WalksLead, WalkLeads, walk_scope, since_begun, Way, to_entry, to_node, HoldsOne, Leads, is_entry, by_node, ChildLeads, LeadsUnread, LeadsBySpot, LeadsByPart, begun_bound, IsAhead, is_found, by_slot, by_main, by_stack, by_child, by_part, OnlyWidens, mixed}
use Rattle.core_state.specs.ReadersCounted.{reader_scope, Reaches, ReachesBySpot, the_node, the_node_of_bound, by_spot, WalkStays}
use Rattle.core_state.specs.ReadersCounted as readers
use Rattle.core_guard.proofs.Seats.{each-seat, each-step}
use Rattle.core_guard.proofs.Growing.{grown, point-grown, length-grown, had-grown}
use Rattle.core_guard.proofs.Leaving.{Acts, After, Last, Leaves, Touches, LeadsWithin, sound-leads, stands-in_tree, wider, live-stands, covers-more, node-kept, entry-kept, some_and_map}
use Rattle.core_guard.proofs.TreesLeft.{KeepsBoxes, boxes-touched}

-- ---- bounds that are read in part

-- sides that were read, and then those that stand
module _ (read : List ℕ) (a b : Sides) (wide : Covers a b) where
  less-mixed : (p : ℕ) → a p ≤ b p → mixed read a p ≤ mixed read b p
  less-mixed p less = go (nat_lt p (length read))
    where
      go : (t : Bool) → cond t (slice_index read p) (a p) ≤ cond t (slice_index read p) (b p)
      go true = omega arith
      go false = less

  more-mixed : (p : ℕ) → b p ≤ a p → mixed read b p ≤ mixed read a p
  more-mixed p less = go (nat_lt p (length read))
    where
      go : (t : Bool) → cond t (slice_index read p) (b p) ≤ cond t (slice_index read p) (a p)
      go true = omega arith
      go false = less

  mixed-wider : Covers (mixed read a) (mixed read b)
  mixed-wider q low = (less-mixed q (wide q low).0, more-mixed (3 + q) (wide q low).1)

  low-now : (p : ℕ) → a p ≤ b p → b p ≤ mixed read b p → a p ≤ mixed read a p
  low-now p less h = go (nat_lt p (length read)) h
    where
      go : (t : Bool) → b p ≤ cond t (slice_index read p) (b p) → a p ≤ cond t (slice_index read p) (a p)
      go true h = omega arith
      go false h = omega arith

  high-now : (p : ℕ) → b p ≤ a p → mixed read b p ≤ b p → mixed read a p ≤ a p
  high-now p less h = go (nat_lt p (length read)) h
    where
      go : (t : Bool) → cond t (slice_index read p) (b p) ≤ b p → cond t (slice_index read p) (a p) ≤ a p
      go true h = omega arith
      go false h = omega arith

  mixed-now : Covers b (mixed read b) → Covers a (mixed read a)
  mixed-now h q low = (low-now q (wide q low).0 (h q low).0, high-now (3 + q) (wide q low).1 (h q low).1)

mixed-none : (now : Sides) → Covers (mixed [] now) now
mixed-none now q low = (under q, over (3 + q))
  where
    under : (p : ℕ) → mixed [] now p ≤ now p
    under p = grind (arith, nat_tests)

    over : (p : ℕ) → now p ≤ mixed [] now p
    over p = grind (arith, nat_tests)

-- ---- a body that is due by a longer history was due by the shorter one

due-back : (s : Sight) (word : Name → ℕ) (touches : FixBox → Type 0) (mask index generation : ℕ) (walk : Walk)
    → (more : List Made) → IsDue touches mask s.config.bodies (since_begun (grown s word more) walk) index generation → IsDue touches mask s.config.bodies (since_begun s walk) index generation
due-back s word touches mask index generation walk more due n from to =
    let longer = length-grown s.history more in
    subst (λ (scene : Scene). Fits touches mask scene index generation) (point-grown s.config.bodies s.history more n to) (due n from (omega arith))

-- and is in the broad phase now
due-in : (s : Sight) (touches : FixBox → Type 0) (mask index generation : ℕ) (walk : Walk) → walk.from ≤ length s.history → IsDue touches mask s.config.bodies (since_begun s walk) index generation
    → HasBody (scene_in s) index (λ r. r.phase ≡ In)
due-in s touches mask index generation walk begun due =
    let now : scene_after s.config.bodies (take (length s.history) s.history) ≡ scene_in s = ap (scene_after s.config.bodies) (take_all (length s.history) s.history (omega arith)) in
    some_and_map (record_at (scene_in s) index) _ _ (λ r h. h.1.0) (subst (λ (scene : Scene). Fits touches mask scene index generation) now (due (length s.history) begun (omega arith)))

module _ (kind : Kind) (core : Core) (step : Step) (a : Acts core step) (later : Nodes) (New : ℕ → Type 0) (m : Leaves kind core step a.laws.nodes later New) where
  abbrev nodes : Nodes
  nodes = a.laws.nodes

  abbrev Old : Sight
  Old = sight walk_scope core

  abbrev Now : Sight
  Now = sight walk_scope (After kind core step)

  abbrev new : Name → ℕ
  new = word_in walk_scope (After kind core step)

  leads : LeadsWithin nodes (word_in tree_scope core)
  leads = sound-leads nodes (sight tree_scope core) a.laws.trees

  wide : (n k : ℕ) → Stands (nodes.home n) → Covers (bound_in new n k) (bound_in Old.word n k)
  wide n k stands = wider kind core step a nodes later New m n k stands

  node_kept : (n k x : ℕ) → Stands (nodes.home n) → Old.word (Child n k) ≡ node_child x → new (Child n k) ≡ node_child x
  node_kept n k x stands = node-kept kind core step a nodes later New m n k x (stands-in_tree (nodes.home n) stands)

  entry_kept : (n k i : ℕ) → Stands (nodes.home n) → HasBody (scene_of core) i (λ r. r.phase ≡ In) → Old.word (Child n k) ≡ body_child i → new (Child n k) ≡ body_child i
  entry_kept n k i stands = entry-kept kind core step a nodes later New m n k i (stands-in_tree (nodes.home n) stands)

  below-stands : (n k x : ℕ) → Stands (nodes.home n) → k < 4 → Old.word (Child n k) ≡ node_child x → Stands (nodes.home x)
  below-stands n k x stands low e = subst Stands (sym (leads.down n k x stands low e)) stands

  -- ---- ways that lead to a body in the broad phase, which may have had more boxes

  module _ (Had More : Sides → Type 0) (grows : (box : Sides) → Had box → More box) (index : ℕ) (is_in : HasBody (scene_of core) index (λ r. r.phase ≡ In)) where
    holds-forth : (n k : ℕ) → Stands (nodes.home n) → HoldsOne Had (bound_in Old.word n k) → HoldsOne More (bound_in new n k)
    holds-forth n k stands h = (h.0, grows h.0 h.1, covers-more (bound_in new n k) (bound_in Old.word n k) h.0 (wide n k stands) h.2)

    way-forth : (n : ℕ) → Stands (nodes.home n) → Way Old.word Had index n → Way new More index n
    way-forth n stands (to_entry x k low e holds) = to_entry n k low (entry_kept n k index stands is_in e) (holds-forth n k stands holds)
    way-forth n stands (to_node x k y low e holds rest) = to_node n k y low (node_kept n k y stands e) (holds-forth n k stands holds) (way-forth y (below-stands n k y stands low e) rest)

    leads-forth : (x : ℕ) → ((y : ℕ) → x ≡ node_child y → Stands (nodes.home y)) → Leads Old.word Had index x → Leads new More index x
    leads-forth x stands (is_entry e) = is_entry e
    leads-forth x stands (by_node y e way) = by_node y e (way-forth y (stands y e) way)

    leads-kept : (n k : ℕ) → Stands (nodes.home n) → k < 4 → Leads Old.word Had index (Old.word (Child n k)) → Leads new More index (new (Child n k))
    leads-kept n k stands low (is_entry e) = is_entry (entry_kept n k index stands is_in e)
    leads-kept n k stands low (by_node y e way) = by_node y (node_kept n k y stands e) (way-forth y (below-stands n k y stands low e) way)

    child-forth : (n from : ℕ) → Stands (nodes.home n) → ChildLeads Old.word Had index n from → ChildLeads new More index n from
    child-forth n from stands h = (h.0, h.1, h.2, holds-forth n h.0 stands h.3, leads-kept n h.0 stands h.2 h.4)

    unread-forth : (at : Position) (name : Name) → ((root : ℕ) → NamesRoot name (Old.word name) root → NamesRoot name (new name) root × Stands (nodes.home root)) → LeadsUnread Old.word Had index at name → LeadsUnread new More index at name
    unread-forth at name roots h = (h.0, (h.1.0, (roots h.1.0 h.1.1).0, way-forth h.1.0 (roots h.1.0 h.1.1).1 h.1.2))

  -- a root that is named stands
  root-stands : (name : Name) (root : ℕ) → NamesRoot name (word_in tree_scope core name) root → Stands (nodes.home root)
  root-stands name root names = subst Stands (sym (a.laws.trees.roots name root names).0) tt

  -- ---- a walk that is under way

  module _ (walk : Walk) (at : Position) (stays : WalkStays nodes (word_in reader_scope core) walk.loads at) where
    reached : (x : ℕ) → Reaches (word_in reader_scope core) at x → Stands (nodes.home x)
    reached x reaches = live-stands (nodes.home x) (stays.live x reaches).0

    from-spot : (spot : Spot) → at.spot ≡ spot → (x : ℕ) → ReachesBySpot (word_in reader_scope core) x spot → Stands (nodes.home x)
    from-spot spot e x reaches = reached x (by_spot (subst (ReachesBySpot (word_in reader_scope core) x) (sym e) reaches))

    module _ (Had More : Sides → Type 0) (grows : (box : Sides) → Had box → More box) (index : ℕ) (is_in : HasBody (scene_of core) index (λ r. r.phase ≡ In)) where
      spot-forth : (spot : Spot) → at.spot ≡ spot → LeadsBySpot Old.word Had index spot → LeadsBySpot new More index spot
      spot-forth resting e h = h
      spot-forth (at_child n level k) e h = child-forth Had More grows index is_in n k (from-spot (at_child n level k) e n (the_node level k)) h
      spot-forth (at_bound n level k x read) e h = child-forth Had More grows index is_in n (k + 1) (from-spot (at_bound n level k x read) e n (the_node_of_bound level k x read)) h

      begun-forth : (n k : ℕ) (read : List ℕ) → Stands (nodes.home n) → HoldsOne Had (begun_bound Old.word walk n k read) → HoldsOne More (begun_bound new walk n k read)
      begun-forth n k [] stands h = holds-forth Had More grows index is_in n k stands h
      begun-forth n k (side ∷ read) stands h = (h.0, grows h.0 h.1, h.2)

      part-forth : (spot : Spot) → at.spot ≡ spot → LeadsByPart Old.word Had index walk spot → LeadsByPart new More index walk spot
      part-forth resting e h = h
      part-forth (at_child n level k) e h = h
      part-forth (at_bound n level k x read) e h = (
        begun-forth n k read (from-spot (at_bound n level k x read) e n (the_node_of_bound level k x read)) h.0,
        leads-forth Had More grows index is_in x (λ y is. from-spot (at_bound n level k x read) e y (readers.by_part n level k x y read is (itself y))) h.1,
      )

      ahead-forth : (query : Query) → IsAhead Old.word Had index query walk at → IsAhead new More index query walk at
      ahead-forth query (is_found found) = is_found found
      ahead-forth query (by_slot h) =
          by_slot (h.0, h.1, unread-forth Had More grows index is_in at (Slot h.0 h.1) (λ root e. (m.names (Slot h.0 h.1) root e, root-stands (Slot h.0 h.1) root e)) h.2)
      ahead-forth query (by_main h) = by_main (h.0, unread-forth Had More grows index is_in at (Main h.0) (λ root e. (m.names (Main h.0) root e, root-stands (Main h.0) root e)) h.1)
      ahead-forth query (by_stack w among way) = by_stack w among (way-forth Had More grows index is_in w.node (reached w.node (readers.by_stack w among (itself w.node))) way)
      ahead-forth query (by_child h) = by_child (spot-forth at.spot refl h)
      ahead-forth query (by_part h) = by_part (part-forth at.spot refl h)

    module _ (boxes : KeepsBoxes kind core step nodes later) where
      begun_box-forth : (n k : ℕ) (read : List ℕ) → Stands (nodes.home n) → IsBox (begun_bound Old.word walk n k read) → IsBox (begun_bound new walk n k read)
      begun_box-forth n k [] stands h = boxes n k stands h
      begun_box-forth n k (side ∷ read) stands h = h

      begun-wider : (n k : ℕ) (read : List ℕ) → Stands (nodes.home n) → Covers (mixed read (bound_in Old.word n k)) (begun_bound Old.word walk n k read)
          → Covers (mixed read (bound_in new n k)) (begun_bound new walk n k read)
      begun-wider n k [] stands h = mixed-none (bound_in new n k)
      begun-wider n k (side ∷ read) stands h =
          covers-more (mixed (side ∷ read) (bound_in new n k)) (mixed (side ∷ read) (bound_in Old.word n k)) (begun_bound Old.word walk n k (side ∷ read))
          (mixed-wider (side ∷ read) (bound_in new n k) (bound_in Old.word n k) (wide n k stands)) h

      widens-forth : (spot : Spot) → at.spot ≡ spot → OnlyWidens Old.word walk spot → OnlyWidens new walk spot
      widens-forth resting e h = h
      widens-forth (at_child n level k) e h = h
      widens-forth (at_bound n level k x read) e h =
          let stands = from-spot (at_bound n level k x read) e n (the_node_of_bound level k x read) in
          record {
            box = boxes n k stands h.box;
            begun_box = begun_box-forth n k read stands h.begun_box;
            now = mixed-now read (bound_in new n k) (bound_in Old.word n k) (wide n k stands) h.now;
            begun = begun-wider n k read stands h.begun;
            child = λ y is. node_kept n k y stands (h.child y is ∙ is) ∙ sym is;
          }

      -- with a longer history
      abbrev Long : Sight
      Long = record Now { history = history core.log ++ m.more }

      walk-forth : walk.from ≤ length Old.history → (query : Query) → WalkLeads Old walk query at → WalkLeads Long walk query at
      walk-forth begun query h = record {
        ahead = λ index generation due.
            let was = due-back Old new (Touch query.shape) query.mask index generation walk m.more due in
            ahead-forth (HadSince Old walk.from index) (HadSince Long walk.from index) (λ box had. had-grown Old new m.more walk.from index box had) index
            (due-in Old (Touch query.shape) query.mask index generation walk begun was) query (h.ahead index generation was);
        widens = widens-forth at.spot refl h.widens;
        order = h.order;
        once = h.once;
        bodies = h.bodies;
      }

      pub walk-left : walk.from ≤ length Old.history → (query : Query) → WalkLeads Old walk query at → WalkLeads Now walk query at
      walk-left begun query h = subst (λ (s : Sight). WalkLeads s walk query at) (λ i. record Now { history = sym m.goes_on i }) (walk-forth begun query h)

  -- ---- the law

  pub longer : (n : ℕ) → n ≤ length Old.history → n ≤ length Now.history
  longer n low =
      let more = length-grown (history core.log) m.more in
      subst (λ (h : List Made). n ≤ length h) (sym m.goes_on) (omega arith)

  -- what is said of the walk of a view
  abbrev pub LeadsOn : Sight → Walk → Type 0
  LeadsOn s walk = walk.is_on ≡ true → (query : Query) → Follows core.config query walk.loads → WalkLeads s walk query (position_of core.config query walk.loads)

  abbrev StaysOn : Walk → Type 0
  StaysOn walk = walk.is_on ≡ true → (query : Query) → Follows core.config query walk.loads → WalkStays nodes (word_in reader_scope core) walk.loads (position_of core.config query walk.loads)

  stays-at : (seat number : ℕ) (view : View) → IsViewAt core seat view → IsPass view number → StaysOn view.walk
  stays-at seat number view at pass = each-seat reader_scope (λ k v. refl) core (λ number view. StaysOn view.walk) a.laws.readers.stays seat number view at pass

  begun-at : (seat number : ℕ) (view : View) → IsViewAt core seat view → IsPass view number → view.walk.from ≤ length Old.history
  begun-at = each-seat walk_scope (λ k v. refl) core (λ number view. view.walk.from ≤ length Old.history) a.laws.walks.begun

  -- the own walk began before
  pub begun-was : step.view.walk.from ≤ length Old.history
  begun-was = begun-at step.seat step.number step.view a.at a.pass

  on-left : KeepsBoxes kind core step nodes later → (walk : Walk) → walk.from ≤ length Old.history → StaysOn walk → LeadsOn Old walk → LeadsOn Now walk
  on-left boxes walk begun stays old on query follows = walk-left walk (position_of core.config query walk.loads) (stays on query follows) boxes begun query (old on query follows)

  -- where the own walk goes on, and leads to what it has to find
  pub WalksLead-goes_on : KeepsBoxes kind core step nodes later → LeadsOn Now (Last kind core step).walk → (Last kind core step).walk.from ≤ length Now.history → WalksLead (After kind core step)
  WalksLead-goes_on boxes own from = record {
    leads =
        each-step walk_scope (λ k v. refl) kind core step a.at a.pass (λ number view. LeadsOn Old view.walk) (λ number view. LeadsOn Now view.walk) a.laws.walks.leads
        (λ seat number view apart at pass old. on-left boxes view.walk (begun-at seat number view at pass) (stays-at seat number view at pass) old) (λ old. own);
    begun =
        each-step walk_scope (λ k v. refl) kind core step a.at a.pass (λ number view. view.walk.from ≤ length Old.history) (λ number view. view.walk.from ≤ length Now.history) a.laws.walks.begun
        (λ seat number view apart at pass old. longer view.walk.from old) (λ old. from);
  }

  pub begun-left : step.view.walk.from ≤ length Now.history
  begun-left = longer step.view.walk.from begun-was

  pub WalksLead-leaves : KeepsBoxes kind core step nodes later → (Last kind core step).walk ≡ step.view.walk → WalksLead (After kind core step)
  WalksLead-leaves boxes same =
      let old = each-seat walk_scope (λ k v. refl) core (λ number view. LeadsOn Old view.walk) a.laws.walks.leads step.seat step.number step.view a.at a.pass in
      WalksLead-goes_on boxes (subst (LeadsOn Now) (sym same) (on-left boxes step.view.walk begun-was (stays-at step.seat step.number step.view a.at a.pass) old))
      (subst (λ (w : Walk). w.from ≤ length Now.history) (sym same) begun-left)

-- a step beside the trees
pub WalksLead-touches : (kind : Kind) (core : Core) (step : Step) (a : Acts core step) (later : Nodes) → Touches kind core step a.laws.nodes later → WalksLead (After kind core step)
WalksLead-touches kind core step a later t = WalksLead-leaves kind core step a later (λ n. ⊥) t.leaves (boxes-touched kind core step a later t) t.walk
