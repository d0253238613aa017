-- What the invariants say of a walk that is under way, and what of one that is at its end.
use Rattle.std.proofs.Common.{◌≡◌, ℕ, List, true, refl, subst}
use Rattle.std.specs.Prelude.{Contains}
use Rattle.fixed_box.specs.Touch.{Touch}
use Rattle.scene_model.specs.History.{IsDue}
use Rattle.word_map.specs.declared.name.Name.{Name}
use Rattle.word_map.specs.declared.name.Name.TheVariants.{Main, Slot}
use Rattle.core_state.specs.declared.view.Waiting.{Waiting}
use Rattle.core_state.specs.declared.view.Walk.{Walk}
use Rattle.core_state.specs.declared.view.View.{View}
use Rattle.core_state.specs.Core.{Core}
use Rattle.core_state.specs.Encoding.{Sides}
use Rattle.core_state.specs.Scope.{sight, word_in}
use Rattle.core_state.specs.Space.{HadSince}
use Rattle.core_state.specs.WalkRecord.{IsCandidate}
use Rattle.core_state.specs.Walking.{Query, Spot, resting, Position, Follows, position_of}
use Rattle.core_state.specs.WalksLead.{walk_scope, WalkLeads, IsAhead, is_found, by_slot, by_main, by_stack, by_child, by_part, LeadsBySpot, LeadsByPart}
use Rattle.core_state.specs.ReadersCounted.{reader_scope, WalkStays, ReadsInSpace}
use Rattle.core_state.specs.Invariants.{Invariants}
use Rattle.core_state.proofs.Opening.{none_in}
use Rattle.core_guard.proofs.Seats.{each-seat}
use Rattle.core_query.specs.Ends.{IsWalking, walked_to, IsAtEnd, since}

-- a walk that rests is at no node
no_child : (word : Name → ℕ) (Had : Sides → Type 0) (index : ℕ) (spot : Spot) → spot ≡ resting → ¬ LeadsBySpot word Had index spot
no_child word Had index spot rests h = subst (LeadsBySpot word Had index) rests h

no_part : (word : Name → ℕ) (Had : Sides → Type 0) (index : ℕ) (walk : Walk) (spot : Spot) → spot ≡ resting → ¬ LeadsByPart word Had index walk spot
no_part word Had index walk spot rests h = subst (LeadsByPart word Had index walk) rests h

-- where nothing is left to read, a body that is ahead is a candidate
only_found : (word : Name → ℕ) (Had : Sides → Type 0) (index : ℕ) (query : Query) (walk : Walk) (at : Position) → IsAtEnd at → IsAhead word Had index query walk at → IsCandidate query.shape walk.loads index
only_found word Had index query walk at end (is_found candidate) = candidate
only_found word Had index query walk at end (by_slot h) = absurd (none_in (Slot h.0 h.1) (subst (λ (rest : List Name). Contains rest (Slot h.0 h.1)) end.rest h.2.0))
only_found word Had index query walk at end (by_main h) = absurd (none_in (Main h.0) (subst (λ (rest : List Name). Contains rest (Main h.0)) end.rest h.1.0))
only_found word Had index query walk at end (by_stack w among way) = absurd (none_in w (subst (λ (stack : List Waiting). Contains stack w) end.stack among))
only_found word Had index query walk at end (by_child h) = absurd (no_child word Had index at.spot end.spot h)
only_found word Had index query walk at end (by_part h) = absurd (no_part word Had index walk at.spot end.spot h)

module _ (core : Core) (h : Invariants core) (query : Query) (seat number : ℕ) (view : View) (w : IsWalking core query seat number view) where
  -- what three of the invariants say of this walk
  pub leads : WalkLeads (sight walk_scope core) view.walk query (walked_to core query view)
  leads =
      each-seat walk_scope (λ p v. refl) core
      (λ p v. v.walk.is_on ≡ true → (q : Query) → Follows core.config q v.walk.loads → WalkLeads (sight walk_scope core) v.walk q (position_of core.config q v.walk.loads))
      h.walks.leads seat number view w.at w.pass w.on query w.follows

  pub stays : WalkStays h.nodes (word_in reader_scope core) view.walk.loads (walked_to core query view)
  stays =
      each-seat reader_scope (λ p v. refl) core
      (λ p v. v.walk.is_on ≡ true → (q : Query) → Follows core.config q v.walk.loads → WalkStays h.nodes (word_in reader_scope core) v.walk.loads (position_of core.config q v.walk.loads))
      h.readers.stays seat number view w.at w.pass w.on query w.follows

  pub reads : ReadsInSpace (sight reader_scope core) view.walk.loads (walked_to core query view)
  reads =
      each-seat reader_scope (λ p v. refl) core
      (λ p v. v.walk.is_on ≡ true → (q : Query) → Follows core.config q v.walk.loads → ReadsInSpace (sight reader_scope core) v.walk.loads (position_of core.config q v.walk.loads))
      h.readers.in_space seat number view w.at w.pass w.on query w.follows

  pub due_found : IsAtEnd (walked_to core query view) → (index generation : ℕ) → IsDue (Touch query.shape) query.mask core.config.bodies (since core view.walk) index generation
      → IsCandidate query.shape view.walk.loads index
  due_found end index generation due =
      only_found (word_in walk_scope core) (HadSince (sight walk_scope core) view.walk.from index) index query view.walk (walked_to core query view) end (leads.ahead index generation due)
