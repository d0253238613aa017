-- Ways down by the same child words and bounds lead on as they did.
use Rattle.std.proofs.Common.{◌≡◌, ℕ, ◌+◌, List, [], ◌∷◌, sym, ◌∙◌, subst}
use Rattle.word_map.specs.declared.name.Name.{Name}
use Rattle.word_map.specs.declared.name.Name.TheVariants.{Child, Bound}
use Rattle.core_state.specs.declared.view.Walk.{Walk}
use Rattle.core_state.specs.Encoding.{Sides, IsBox, Covers, bound_in}
use Rattle.core_state.specs.Walking.{Spot, resting, at_child, at_bound}
use Rattle.core_state.specs.WalksLead.{HoldsOne, Way, to_entry, to_node, Leads, is_entry, by_node, ChildLeads, LeadsBySpot, LeadsByPart, begun_bound, mixed, OnlyWidens}

module _ (one two : Name → ℕ) (child : (n k : ℕ) → two (Child n k) ≡ one (Child n k)) (side : (n k q : ℕ) → two (Bound n k q) ≡ one (Bound n k q)) where
  bound : (n k : ℕ) → bound_in one n k ≡ bound_in two n k
  bound n k = λ j q. sym (side n k q) j

  begun : (walk : Walk) (n k : ℕ) (read : List ℕ) → begun_bound one walk n k read ≡ begun_bound two walk n k read
  begun walk n k [] = bound n k
  begun walk n k (x ∷ read) = λ j. begun_bound one walk n k (x ∷ read)

  module _ (Had : Sides → Type 0) (index : ℕ) where
    holds-same : (n k : ℕ) → HoldsOne Had (bound_in one n k) → HoldsOne Had (bound_in two n k)
    holds-same n k h = subst (HoldsOne Had) (bound n k) h

    pub way-same : (n : ℕ) → Way one Had index n → Way two Had index n
    way-same n (to_entry m k low e holds) = to_entry n k low (child n k ∙ e) (holds-same n k holds)
    way-same n (to_node m k x low e holds rest) = to_node n k x low (child n k ∙ e) (holds-same n k holds) (way-same x rest)

    leads-same : (x : ℕ) → Leads one Had index x → Leads two Had index x
    leads-same x (is_entry e) = is_entry e
    leads-same x (by_node m e way) = by_node m e (way-same m way)

    child-leads : (n from : ℕ) → ChildLeads one Had index n from → ChildLeads two Had index n from
    child-leads n from h = (h.0, h.1, h.2, holds-same n h.0 h.3, subst (Leads two Had index) (sym (child n h.0)) (leads-same (one (Child n h.0)) h.4))

    pub spot-same : (spot : Spot) → LeadsBySpot one Had index spot → LeadsBySpot two Had index spot
    spot-same resting h = h
    spot-same (at_child n level k) h = child-leads n k h
    spot-same (at_bound n level k x read) h = child-leads n (k + 1) h

    pub part-same : (walk : Walk) (spot : Spot) → LeadsByPart one Had index walk spot → LeadsByPart two Had index walk spot
    part-same walk resting h = h
    part-same walk (at_child n level k) h = h
    part-same walk (at_bound n level k x read) h = (subst (HoldsOne Had) (begun walk n k read) h.0, leads-same x h.1)

  pub widens-same : (walk : Walk) (spot : Spot) → OnlyWidens one walk spot → OnlyWidens two walk spot
  widens-same walk resting h = h
  widens-same walk (at_child n level k) h = h
  widens-same walk (at_bound n level k x read) h = record {
    box = subst IsBox (bound n k) h.box;
    begun_box = subst IsBox (begun walk n k read) h.begun_box;
    now = subst (λ (b : Sides). Covers b (mixed read b)) (bound n k) h.now;
    begun = subst (λ (b : Sides). Covers (mixed read (bound_in two n k)) b) (begun walk n k read) (subst (λ (b : Sides). Covers (mixed read b) (begun_bound one walk n k read)) (bound n k) h.begun);
    child = λ m is. child n k ∙ h.child m is;
  }
