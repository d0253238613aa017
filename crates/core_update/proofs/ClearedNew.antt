-- Walks lead on where the entry of a body is cleared in a new tree: no walk comes to a node of it.
use Rattle.std.proofs.Common.{◌≡◌, ℕ, ◌+◌, ◌<◌, [], ◌∷◌, true, refl, sym, ◌∙◌, subst}
use Rattle.word_map.specs.declared.name.Name.{Name}
use Rattle.word_map.specs.declared.name.Name.TheVariants.{Child, Main, Slot}
use Rattle.core_state.specs.declared.view.Walk.{Walk}
use Rattle.core_state.specs.Core.{Core, word_of}
use Rattle.core_state.specs.Encoding.{NamesRoot, Sides, node_child}
use Rattle.core_state.specs.Nodes.{Nodes, IsLive, itself}
use Rattle.core_state.specs.Scope.{Sight, sight}
use Rattle.core_state.specs.TreesSound.{TreesSound, tree_scope}
use Rattle.core_state.specs.Walking.{Query, Spot, resting, at_child, at_bound, Position, Follows, position_of}
use Rattle.core_state.specs.WalksLead.{WalksLead, WalksLeadIn, walk_scope, HoldsOne, Way, to_entry, to_node, Leads, is_entry, by_node, ChildLeads, LeadsBySpot, LeadsByPart, IsAhead, OnlyWidens, WalkLeads}
use Rattle.core_state.specs.WalksLead.{is_found, by_slot, by_main}
use Rattle.core_state.specs.WalksLead as walks
use Rattle.core_state.specs.ReadersCounted.{ReadersCounted, reader_scope, Reaches, ReachesBySpot, the_node, the_node_of_bound}
use Rattle.core_state.specs.ReadersCounted as readers
use Rattle.core_state.specs.Space.{HadSince}
use Rattle.core_guard.proofs.Cleared.{cleared_in}
use Rattle.core_guard.proofs.Leaving.{LeadsWithin, sound-leads, live-stands}
use Rattle.core_guard.proofs.Seats.{each-seat, each-seats}

module _ (core : Core) (nodes : Nodes) (leads : LeadsWithin nodes (word_of core)) (c : ℕ → ℕ → ℕ) (same : (n k : ℕ) → IsLive (nodes.home n) → c n k ≡ word_of core (Child n k)) where
  abbrev s : Sight
  s = sight walk_scope core

  abbrev New : Sight
  New = cleared_in s c

  live-below : (n k m : ℕ) → IsLive (nodes.home n) → k < 4 → word_of core (Child n k) ≡ node_child m → IsLive (nodes.home m)
  live-below n k m live low e = subst IsLive (sym (leads.down n k m (live-stands (nodes.home n) live) low e)) live

  module _ (Had : Sides → Type 0) (index : ℕ) where
    way-forth : (n : ℕ) → IsLive (nodes.home n) → Way s.word Had index n → Way New.word Had index n
    way-forth n live (to_entry x k low e holds) = to_entry n k low (same n k live ∙ e) holds
    way-forth n live (to_node x k m low e holds rest) = to_node n k m low (same n k live ∙ e) holds (way-forth m (live-below n k m live low e) rest)

    leads-forth : (x : ℕ) → ((m : ℕ) → x ≡ node_child m → IsLive (nodes.home m)) → Leads s.word Had index x → Leads New.word Had index x
    leads-forth x live (is_entry e) = is_entry e
    leads-forth x live (by_node m e way) = by_node m e (way-forth m (live m e) way)

    children-forth : (n from : ℕ) → IsLive (nodes.home n) → ChildLeads s.word Had index n from → ChildLeads New.word Had index n from
    children-forth n from live h = (
      h.0,
      h.1,
      h.2,
      h.3,
      subst (Leads New.word Had index) (sym (same n h.0 live)) (leads-forth (s.word (Child n h.0)) (λ m e. live-below n h.0 m live h.2 e) h.4),
    )

  -- ---- a walk that is under way

  module _ (walk : Walk) (at : Position) (roots : (name : Name) (root : ℕ) → NamesRoot name (word_of core name) root → IsLive (nodes.home root)) (reached : (x : ℕ) → Reaches (sight reader_scope core).word at x → IsLive (nodes.home x)) where
    from-spot : (spot : Spot) → at.spot ≡ spot → (x : ℕ) → ReachesBySpot (sight reader_scope core).word x spot → IsLive (nodes.home x)
    from-spot spot e x reaches = reached x (readers.by_spot (subst (ReachesBySpot (sight reader_scope core).word x) (sym e) reaches))

    module _ (Had : Sides → Type 0) (index : ℕ) where
      spot-forth : (spot : Spot) → at.spot ≡ spot → LeadsBySpot s.word Had index spot → LeadsBySpot New.word Had index spot
      spot-forth resting e h = h
      spot-forth (at_child n level k) e h = children-forth Had index n k (from-spot (at_child n level k) e n (the_node level k)) h
      spot-forth (at_bound n level k x read) e h = children-forth Had index n (k + 1) (from-spot (at_bound n level k x read) e n (the_node_of_bound level k x read)) h

      part-forth : (spot : Spot) → at.spot ≡ spot → LeadsByPart s.word Had index walk spot → LeadsByPart New.word Had index walk spot
      part-forth resting e h = h
      part-forth (at_child n level k) e h = h
      part-forth (at_bound n level k x []) e h = (h.0, leads-forth Had index x (λ m is. from-spot (at_bound n level k x []) e m (readers.by_part n level k x m [] is (itself m))) h.1)
      part-forth (at_bound n level k x (side ∷ read)) e h = (h.0, leads-forth Had index x (λ m is. from-spot (at_bound n level k x (side ∷ read)) e m (readers.by_part n level k x m (side ∷ read) is (itself m))) h.1)

      ahead-forth : (query : Query) → IsAhead s.word Had index query walk at → IsAhead New.word Had index query walk at
      ahead-forth query (is_found found) = is_found found
      ahead-forth query (by_slot h) = by_slot (h.0, h.1, (h.2.0, (h.2.1.0, h.2.1.1, way-forth Had index h.2.1.0 (roots (Slot h.0 h.1) h.2.1.0 h.2.1.1) h.2.1.2)))
      ahead-forth query (by_main h) = by_main (h.0, (h.1.0, (h.1.1.0, h.1.1.1, way-forth Had index h.1.1.0 (roots (Main h.0) h.1.1.0 h.1.1.1) h.1.1.2)))
      ahead-forth query (walks.by_stack w among way) = walks.by_stack w among (way-forth Had index w.node (reached w.node (readers.by_stack w among (itself w.node))) way)
      ahead-forth query (walks.by_child h) = walks.by_child (spot-forth at.spot refl h)
      ahead-forth query (walks.by_part h) = walks.by_part (part-forth at.spot refl h)

    widens-forth : (spot : Spot) → at.spot ≡ spot → OnlyWidens s.word walk spot → OnlyWidens New.word walk spot
    widens-forth resting e h = h
    widens-forth (at_child n level k) e h = h
    widens-forth (at_bound n level k x []) e h =
        record { box = h.box; begun_box = h.begun_box; now = h.now; begun = h.begun; child = λ m is. same n k (from-spot (at_bound n level k x []) e n (the_node_of_bound level k x [])) ∙ h.child m is }
    widens-forth (at_bound n level k x (side ∷ read)) e h =
        record { box = h.box; begun_box = h.begun_box; now = h.now; begun = h.begun; child = λ m is. same n k (from-spot (at_bound n level k x (side ∷ read)) e n (the_node_of_bound level k x (side ∷ read))) ∙ h.child m is }

    walk-forth : (query : Query) → WalkLeads s walk query at → WalkLeads New walk query at
    walk-forth query h = record {
      ahead = λ index generation due. ahead-forth (HadSince s walk.from index) index query (h.ahead index generation due);
      widens = widens-forth at.spot refl h.widens;
      order = h.order;
      once = h.once;
      bodies = h.bodies;
    }

-- all walks
pub WalksLead-unreached : (core : Core) (nodes : Nodes) → TreesSound nodes core → ReadersCounted nodes core → WalksLead core → (c : ℕ → ℕ → ℕ) → ((n k : ℕ) → IsLive (nodes.home n) → c n k ≡ word_of core (Child n k)) → WalksLeadIn (cleared_in (sight walk_scope core) c)
WalksLead-unreached core nodes trees counted h c same = record {
  leads =
      each-seats walk_scope (λ k v. refl) core
      (λ number v. v.walk.is_on ≡ true → (query : Query) → Follows core.config query v.walk.loads → WalkLeads (cleared_in (sight walk_scope core) c) v.walk query (position_of core.config query v.walk.loads))
      (λ seat number view found is on query follows.
      let at = position_of core.config query view.walk.loads in
      let stays = each-seat reader_scope (λ k v. refl) core _ counted.stays seat number view found is on query follows in
      walk-forth core nodes leads c same view.walk at roots (λ x reaches. (stays.live x reaches).0) query
      (each-seat walk_scope (λ k v. refl) core _ h.leads seat number view found is on query follows));
  begun = h.begun;
}
  where
    leads : LeadsWithin nodes (word_of core)
    leads = let t = sound-leads nodes (sight tree_scope core) trees in record { up = t.up; down = t.down }

    roots : (name : Name) (root : ℕ) → NamesRoot name (word_of core name) root → IsLive (nodes.home root)
    roots (Main l) root names = subst IsLive (sym (trees.roots (Main l) root names).0) tt
    roots (Slot l t) root names = subst IsLive (sym (trees.roots (Slot l t) root names).0) tt
    roots _ root names = absurd names
