-- The loads of a walk keep all laws: they store nothing, and of each query that the loads follow the walk goes on.
use Rattle.std.proofs.Common.{◌≡◌, ◌⊎◌, ℕ, ◌%◌, List, [], ◌∷◌, length, true, Some, None, refl, ap, sym, ◌∙◌, subst, inl, inr, arith}
use Rattle.std.proofs.lemmas.Bool.{false≢true}
use Rattle.std.proofs.lemmas.List.FromFn.{get_or-map-range_with_len}
use Rattle.word_map.specs.declared.config.Config.{Config}
use Rattle.word_map.specs.declared.name.Name.{Name}
use Rattle.word_map.specs.declared.name.Name.TheVariants.{Child, Bound, Main, Slot, Reader}
use Rattle.core_state.specs.declared.item.Load.{Load}
use Rattle.core_state.specs.declared.view.Walk.{Walk}
use Rattle.core_state.specs.declared.view.Rebuild.{Rebuild}
use Rattle.core_state.specs.declared.view.View.{View}
use Rattle.core_state.specs.Log.{word}
use Rattle.core_state.specs.View.{known_word}
use Rattle.core_state.specs.Core.{Core, word_of}
use Rattle.core_state.specs.Operation.{load}
use Rattle.core_state.specs.Kind.{Kind, Step, learned, found_by}
use Rattle.core_state.specs.Encoding.{node_child, sides_of, bound_in}
use Rattle.core_state.specs.Nodes.{Nodes, under, superseded}
use Rattle.core_state.specs.Parts.{update_on_readers}
use Rattle.core_state.specs.Scope.{Sight, sight, word_in, EachPass}
use Rattle.core_state.specs.Space.{HadSince}
use Rattle.core_state.specs.Walking.{Query, at_bound, Position, advance, next_word, Follows, position_of}
use Rattle.core_state.specs.Walks.{MayWalkSlot, walk_slot, MayWalkMain, walk_main, MayWalkChild, walk_child, MayWalkBound, walk_bound, bound_begun, bound_known}
use Rattle.core_state.specs.LocationsHold.{LocationsHoldIn, location_scope}
use Rattle.core_state.specs.WalksLead.{WalksLead, walk_scope, begun_bound, OnlyWidens, WalkLeads}
use Rattle.core_state.specs.ReadersCounted.{ReadersCounted, reader_scope, Reaches, IsWalkedAt, WalkStays, ReadsInSpace, HasSeenOff, AvoidsSuperseded}
use Rattle.core_state.specs.Invariants.{Invariants}
use Rattle.core_state.proofs.Forming.{unspent_pass}
use Rattle.core_state.proofs.Guarding.{GuardsHold-load}
use Rattle.core_state.proofs.Steps.{word-step-unstored}
use Rattle.core_guard.proofs.Seats.{each-seat}
use Rattle.core_guard.proofs.Leaving.{Acts, After, Leaves, each_update}
use Rattle.core_guard.proofs.ReadersLeft.{WalkIn, Off, walk-forth, walk_space-forth, avoids-forth, seen-back}
use Rattle.core_guard.proofs.WalksLeft.{WalksLead-goes_on, walk-left, begun-left, begun-was}
use Rattle.core_guard.proofs.Still.{IsStill, still-leaves, still-boxes, still-counts, ReadersCounted-still}
use Rattle.core_guard.proofs.Light.{IsLight, Invariants-light, law-kept, unread}
use Rattle.core_guard.proofs.Holders.{IsGuarded}
use Rattle.core_guard.proofs.Touched.{IsKept, kept}
use Rattle.core_query.specs.Ends.{IsWalking}
use Rattle.core_query.proofs.InOrder.{order-main_last}
use Rattle.core_query.proofs.Replay.{IsReplayed, Moves, moves, follows-more, position-more, position-replayed}
use Rattle.core_query.proofs.Touching.{due-touches}
use Rattle.core_query.proofs.HalfRead.{SameSides, KeepsBegun, longer_walk}
use Rattle.core_query.proofs.Leading.{ahead-more}
use Rattle.core_query.proofs.Staying.{ReadsOn, stays-more}
use Rattle.core_query.proofs.Spots.{widens-more, space-more}
use Rattle.core_query.proofs.NextLoad.{once-more, bodies-more}

-- all four kinds do this: a load more is noted, and how the bound stood that the walk reads
abbrev reads : (View → Name → List ℕ) → Kind
reads notes = record {
  operation = load;
  entry = λ view name value. None;
  leaves = λ view name found first second. record view { walk = longer_walk view.walk (record { name = name; value = found }) (notes view name) };
}

module _ (notes : View → Name → List ℕ) (core : Core) (step : Step) (a : Acts core step) (walks : step.view.walk.is_on ≡ true)
    (begun : KeepsBegun (word_in walk_scope core) step.view.walk (record { name = step.name; value = found_by core step }) (notes (learned core step) step.name)) where
  abbrev kind : Kind
  kind = reads notes

  abbrev nodes : Nodes
  nodes = a.laws.nodes

  abbrev Old : Sight
  Old = sight walk_scope core

  abbrev Was : Sight
  Was = sight reader_scope core

  abbrev Now : Sight
  Now = sight reader_scope (After kind core step)

  abbrev new : Load
  new = record { name = step.name; value = found_by core step }

  abbrev Later : Walk
  Later = longer_walk step.view.walk new (notes (learned core step) step.name)

  -- ---- a query that the loads follow

  module _ (query : Query) (follows : Follows core.config query Later.loads) where
    -- it followed them before, and this word was next
    before : Follows core.config query step.view.walk.loads × (next_word (position_of core.config query step.view.walk.loads).rest (position_of core.config query step.view.walk.loads).spot ≡ Some step.name)
    before = follows-more core.config query step.view.walk.loads new follows

    abbrev At : Position
    At = position_of core.config query step.view.walk.loads

    -- what the loads say of the place
    replayed : IsReplayed step.view.walk.loads At
    replayed = position-replayed core.config query step.view.walk.loads before.0

    -- what the laws say of the walk before
    stayed : WalkStays nodes Was.word step.view.walk.loads At
    stayed = each-seat reader_scope (λ k v. refl) core _ a.laws.readers.stays step.seat step.number step.view a.at a.pass walks query before.0

    read : ReadsInSpace Was step.view.walk.loads At
    read = each-seat reader_scope (λ k v. refl) core _ a.laws.readers.in_space step.seat step.number step.view a.at a.pass walks query before.0

    led : WalkLeads Old step.view.walk query At
    led = each-seat walk_scope (λ k v. refl) core _ a.laws.walks.leads step.seat step.number step.view a.at a.pass walks query before.0

    child : (n level k x : ℕ) (sides : List ℕ) → At.spot ≡ at_bound n level k x sides → (m : ℕ) → x ≡ node_child m → Was.word (Child n k) ≡ x
    child n level k x sides e = (subst (OnlyWidens Old.word step.view.walk) e led.widens).child

    -- what the load does to the place
    moved : Moves query step.view.walk.loads new At (advance query At new)
    moved = moves query step.view.walk.loads new At replayed before.1

    -- what it reaches then
    reads_on : ReadsOn nodes Was.word step.view.walk.loads new At (advance query At new)
    reads_on = stays-more nodes core a.laws.trees query step.view.walk.loads new refl At (advance query At new) moved child stayed

    -- where it is then
    abbrev Then : Position
    Then = position_of core.config query Later.loads

    at_later : (P : Position → Type 0) → P (advance query At new) → P Then
    at_later P h = subst P (sym (position-more core.config query step.view.walk.loads new)) h

    stays-on : WalkStays nodes Was.word Later.loads Then
    stays-on = at_later (WalkStays nodes Was.word Later.loads) reads_on.stays

    space-on : ReadsInSpace Was Later.loads Then
    space-on = at_later (ReadsInSpace Was Later.loads) (space-more nodes core a.laws.trees query step.view.walk new refl a.laws.readers At (advance query At new) moved stayed read)

    known-on : (x : ℕ) → Reaches Was.word Then x ⊎ IsWalkedAt Later.loads x
        → (Reaches Was.word At x ⊎ IsWalkedAt step.view.walk.loads x) ⊎ (nodes.home x ≡ under step.name)
    known-on x = at_later (λ at. Reaches Was.word at x ⊎ IsWalkedAt Later.loads x → (Reaches Was.word At x ⊎ IsWalkedAt step.view.walk.loads x) ⊎ (nodes.home x ≡ under step.name)) (reads_on.known x)

    walking : IsWalking core query step.seat step.number step.view
    walking = record { at = a.at; pass = a.pass; on = walks; follows = before.0 }

    leads-on : WalkLeads Old Later query Then
    leads-on = at_later (WalkLeads Old Later query) (record {
      ahead = λ index generation due.
          ahead-more core query step.view.walk new (notes (learned core step) step.name) begun refl (HadSince Old step.view.walk.from index) index (due-touches Old step.view.walk query index generation due) At (advance query At new) moved
          led.widens (led.ahead index generation due);
      widens = widens-more nodes core a.laws.trees query step.view.walk new refl (notes (learned core step) step.name) begun At (advance query At new) moved stayed led.widens;
      order = order-main_last (advance query At new).rest (subst (λ at. IsReplayed Later.loads at) (position-more core.config query step.view.walk.loads new) (position-replayed core.config query Later.loads follows)).order;
      once = once-more core a.laws query step.seat step.number step.view walking step.name before.1 (found_by core step);
      bodies = bodies-more core a.laws query step.seat step.number step.view walking step.name before.1;
    })

  -- ---- the step

  -- no word changes
  same_word : (name : Name) → word_of (After kind core step) name ≡ word_of core name
  same_word name = word-step-unstored kind core step refl name

  still : IsStill kind core step
  still = record { words = λ name other. same_word name; entry = λ value. refl; task = refl; batches = refl; rebuild = refl }

  -- and five laws see nothing
  light : IsLight kind core step
  light = record { reader = λ stored. absurd (false≢true stored); entry = λ value. refl; locks = refl; bodies = refl; nodes = refl; trees = refl; cover = refl }

  abbrev No_new : ℕ → Type 0
  No_new n = ⊥

  abbrev left : Leaves kind core step nodes nodes No_new
  left = still-leaves kind core step still nodes

  -- all is ahead still
  leads : WalksLead (After kind core step)
  leads =
      let boxes = still-boxes kind core step still a in
      WalksLead-goes_on kind core step a nodes No_new left boxes
      (λ on query follows. walk-left kind core step a nodes No_new left Later (position_of core.config query Later.loads) (stays-on query follows) boxes (begun-was kind core step a nodes No_new left) query (leads-on query follows))
      (begun-left kind core step a nodes No_new left)

  -- what it reaches stays
  stays-in : WalkIn nodes Was Later
  stays-in on query follows = stays-on query follows

  -- it comes to no node that is superseded, where it had come to none
  avoids : (number : ℕ) (r : Rebuild) → EachPass Was (Off nodes Was number r) → HasSeenOff Now r step.number → AvoidsSuperseded nodes Now number Later
  avoids number r off seen =
      let was = each-seat reader_scope (λ k v. refl) core _ off step.seat step.number step.view a.at a.pass (seen-back kind core step a nodes No_new left r step.number (same_word (Reader step.number)) seen) in
      avoids-forth kind core step a nodes No_new left number Later stays-in
      (λ on query follows x name from home.
      elim (known-on query follows x from) [ inl old ↦ was walks query (before query follows).0 x name old home | inr root ↦ let other : under step.name ≡ superseded number name = sym root ∙ home in absurd cc ])

  -- the readers are counted still
  readers : ReadersCounted nodes (After kind core step)
  readers =
      let odd_same : Now.word (Reader step.number) % 2 ≡ Was.word (Reader step.number) % 2 = ap (λ (w : ℕ). w % 2) (same_word (Reader step.number)) in
      ReadersCounted-still kind core step still a refl (record {
        odd = λ was. (λ e. was.0 (sym odd_same ∙ e), λ on. odd_same ∙ was.1 on);
        seen = λ number other. same_word (Reader number);
        stays = walk-forth kind core step a nodes No_new left Later stays-in;
        in_space = walk_space-forth kind core step a nodes No_new left (still-counts kind core step still a refl) Later stays-in (λ on query follows. space-on query follows);
        avoids = each_update kind core step a nodes nodes No_new left reader_scope (λ k v. refl) update_on_readers (λ bare view. refl)
            (λ number v r. EachPass Was (Off nodes Was number r)) (λ number v r. HasSeenOff Now r step.number → AvoidsSuperseded nodes Now number Later) a.laws.readers.seen_off
            (λ number v r off. avoids number r off) (λ r some off. avoids step.number r off);
      })

  -- so all laws hold
  loads-keep : Invariants (After kind core step)
  loads-keep =
      Invariants-light kind core step a light
      (law-kept kind core step a light location_scope (LocationsHoldIn nodes) (unread kind core step a light location_scope (λ p. refl)) refl a.laws.locations) leads readers

-- ---- kinds 30 to 32: a word that is no side of a bound

-- it notes no bound
abbrev notes_none : View → Name → List ℕ
notes_none view name = view.walk.bound

pub Invariants-walk_slot : IsKept MayWalkSlot walk_slot
Invariants-walk_slot =
    kept MayWalkSlot walk_slot
    (λ core step a asked. loads-keep notes_none core step a asked.walks (λ n k read next. let same : Bound n k (length read) ≡ Slot asked.layer asked.slot = next ∙ asked.names in absurd cc))

pub Invariants-walk_main : IsKept MayWalkMain walk_main
Invariants-walk_main =
    kept MayWalkMain walk_main
    (λ core step a asked. loads-keep notes_none core step a asked.walks (λ n k read next. let same : Bound n k (length read) ≡ Main asked.layer = next ∙ asked.names in absurd cc))

pub Invariants-walk_child : IsKept MayWalkChild walk_child
Invariants-walk_child =
    kept MayWalkChild walk_child
    (λ core step a asked. loads-keep notes_none core step a asked.walks (λ n k read next. let same : Bound n k (length read) ≡ Child asked.node asked.child = next ∙ asked.names in absurd cc))

-- ---- kind 33

-- the bound that is noted with a first side is the one that stands then; with a further side it stays
module _ (core : Core) (step : Step) (a : Acts core step) where
  abbrev Noted : Name → List ℕ
  Noted name = bound_begun (learned core step) name

  -- the pass knows the bound as it stands
  known-now : (n k : ℕ) → SameSides (bound_in (word_in walk_scope core) n k) (sides_of (bound_known (learned core step) n k))
  known-now n k q low =
      let config = (a.formed.views step.seat step.view a.at (unspent_pass step.view.role step.number a.pass)).config in
      sym (get_or-map-range_with_len (λ p. known_word (learned core step) (Bound n k p)) 0 6 q q 0 low (omega arith) ∙ ap (λ (c : Config). word c core.log (Bound n k q)) config)

  noted-begun : KeepsBegun (word_in walk_scope core) step.view.walk (record { name = step.name; value = found_by core step }) (Noted step.name)
  noted-begun n k read next = subst (λ (name : Name). SameSides (begun_bound (word_in walk_scope core) step.view.walk n k read) (sides_of (Noted name))) next (go read)
    where
      go : (read : List ℕ) → SameSides (begun_bound (word_in walk_scope core) step.view.walk n k read) (sides_of (Noted (Bound n k (length read))))
      go [] = known-now n k
      go (side ∷ read) = λ q low. refl

pub Invariants-walk_bound : IsKept MayWalkBound walk_bound
Invariants-walk_bound =
    kept MayWalkBound walk_bound (λ core step a asked. loads-keep bound_begun core step a asked.walks (noted-begun core step a))

-- ---- guards: nothing is stored

pub GuardsHold-walk_slot : IsGuarded MayWalkSlot walk_slot
GuardsHold-walk_slot before after steps formed laws guards = GuardsHold-load MayWalkSlot walk_slot before after (λ found first. refl) steps guards

pub GuardsHold-walk_main : IsGuarded MayWalkMain walk_main
GuardsHold-walk_main before after steps formed laws guards = GuardsHold-load MayWalkMain walk_main before after (λ found first. refl) steps guards

pub GuardsHold-walk_child : IsGuarded MayWalkChild walk_child
GuardsHold-walk_child before after steps formed laws guards = GuardsHold-load MayWalkChild walk_child before after (λ found first. refl) steps guards

pub GuardsHold-walk_bound : IsGuarded MayWalkBound walk_bound
GuardsHold-walk_bound before after steps formed laws guards = GuardsHold-load MayWalkBound walk_bound before after (λ found first. refl) steps guards
