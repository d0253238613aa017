-- Where each word that a walk by turns loads leads it.
use Rattle.std.proofs.Common.{◌≡◌, ℕ, zero, suc, ◌+◌, ◌-◌, ◌<◌, ◌≤◌, ◌^◌, List, [], ◌∷◌, ◌++◌, Bool, true, Some, None, length, refl, ap, sym, ◌∙◌, subst, inl, inr, arith}
use Rattle.std.proofs.lemmas.Bool.{cases_lt, le-leb}
use Rattle.word_map.specs.Limits.{IsConfig}
use Rattle.std.specs.Prelude.{nat_lt, if◌then◌else◌}
use Rattle.word_map.specs.Names.{node_count}
use Rattle.word_map.specs.declared.config.Config.{Config}
use Rattle.word_map.specs.declared.name.Name.{Name}
use Rattle.word_map.specs.declared.name.Name.TheVariants.{Slot, Main, Bound, Child as ChildName}
use Rattle.core_state.specs.declared.view.Waiting.{Waiting}
use Rattle.core_state.specs.declared.view.View.{View}
use Rattle.core_state.specs.Walking.{Query, Position, resting, at_child, at_bound, waiting, roots_in, next_node, next_word, next_child, pushed, after_side, advance, advance_from}
use Rattle.pass_table.specs.Bodies.{IsCurrent}
use Rattle.pass_table.specs.Turning.{AtMostOneStep, MadeBy}
use Rattle.tree_query.specs.declared.finder.Finder.{Finder}
use Rattle.tree_query.specs.declared.walk.WalkStage.{WalkStage}
use Rattle.tree_query.specs.declared.walk.WalkStage.TheVariants.{Word, Child}
use Rattle.tree_query.specs.declared.walk.Walk.{Walk}
use Rattle.tree_query.specs.Finding.{room_of}
use Rattle.tree_query.specs.Walking.{WalksOn}
use Rattle.tree_query.specs.Collecting.{body_named, found_with, IsOnTrip, Puts, nodes_in}
use Rattle.tree_query.specs.stages.WalkPlaces.{IsSized, is_reading, is_at_side, spot_at, FitsStage, words_at, words_from, words_left, IsAtPlace, KeepsWord}
use Rattle.tree_query.specs.stages.WalkTurns.{trip_of, IsUnderWalk, IsWalkTurn}
use Rattle.tree_query.proofs.Trips.{trip-on, child-at, bound-at, slot-at, main-at}
use Rattle.tree_query.proofs.Places.{words-slot, words-main}
use Rattle.tree_query.proofs.WalkTurns.{Leads, as_before, ClimbsLayers, stays-climbing, reading-turn}

-- the place at a stage
pub place-at : (c : Config) (walk : Walk) (at : Position) (stage : WalkStage) (h : IsAtPlace c walk at) → walk.stage ≡ stage → at ≡ record { rest = words_left c walk; stack = h.stack; spot = spot_at walk h.level stage }
place-at c walk at stage h is = h.place ∙ ap (λ (s : WalkStage). record { rest = words_left c walk; stack = h.stack; spot = spot_at walk h.level s }) is

pub reads-at : (walk : Walk) (stage : WalkStage) → walk.stage ≡ stage → is_reading stage ≡ true → is_reading walk.stage ≡ true
reads-at walk stage is reads = ap is_reading is ∙ reads

-- ---- a child

child-next_word : (c : Config) (walk : Walk) (at : Position) → IsAtPlace c walk at → walk.stage ≡ Child → next_word at.rest at.spot ≡ Some (ChildName walk.node walk.child)
child-next_word c walk at h is = ap (λ (p : Position). next_word p.rest p.spot) (place-at c walk at Child h is)

pub child-asks : (walk : Walk) (finder : Finder) (view : View) → IsUnderWalk walk finder view → walk.stage ≡ Child → ∥ IsCurrent view ∥₁ → (walk.node < node_count view.config) × (walk.child < 4)
child-asks walk finder view under is current =
    let h = under.goes.reads (ap is_reading is) in
    child-at (trip_of under.start h.number h.first h.query) view h.at h.collecting.on current walk.node walk.child (child-next_word under.start.config walk h.at h.place is)

pub child-leads : (c : Config) (query : Query) (before after : Walk) (held finder : Finder) (at : Position) (value : ℕ) → before.stage ≡ Child → IsSized c before → IsAtPlace c before at → Puts held finder []
    → ((query : Query) (stack : List Waiting) (level : ℕ) → before.stack.items ≡ nodes_in stack → IsAtPlace c after (advance_from query (words_left c before) stack (at_child before.node level before.child) value))
    → Leads c query before after held finder at (ChildName before.node before.child) value
child-leads c query before after held finder at value is sized h puts took =
    let there = sym (place-at c before at Child h is) in
    record {
      is = child-next_word c before at h is;
      place = subst (λ (p : Position). IsAtPlace c after (advance query p (record { name = ChildName before.node before.child; value = value }))) there (took query h.stack h.level h.nodes);
      puts = subst (λ (p : Position). Puts held finder (found_with query p.spot value)) there puts;
    }

-- ---- a side of a bound, but the last one

side-more : (query : Query) (rest : List Name) (stack : List Waiting) (n level k x : ℕ) (sides : List ℕ) → nat_lt (length sides) 6 ≡ true
    → after_side query rest stack n level k x sides ≡ record { rest = rest; stack = stack; spot = at_bound n level k x sides }
side-more query rest stack n level k x sides few =
    ap (λ (b : Bool). if b then record { rest = rest; stack = stack; spot = at_bound n level k x sides } else next_child rest (if query.test sides then pushed level x stack else stack) n level k) few

side-finds : (query : Query) (x : ℕ) (sides : List ℕ) → nat_lt (length sides) 6 ≡ true → (if nat_lt (length sides) 6 then [] else if query.test sides then body_named x else []) ≡ []
side-finds query x sides few = ap (λ (b : Bool). if b then [] else if query.test sides then body_named x else []) few

module _ (walk : Walk) (stage : WalkStage) (read : List ℕ) (is : walk.stage ≡ stage) (spot : (level : ℕ) → spot_at walk level stage ≡ at_bound walk.node level walk.child walk.word read) where
  pub place-side : (c : Config) (at : Position) (h : IsAtPlace c walk at) → at ≡ record { rest = words_left c walk; stack = h.stack; spot = at_bound walk.node h.level walk.child walk.word read }
  place-side c at h = place-at c walk at stage h is ∙ ap (λ s. record { rest = words_left c walk; stack = h.stack; spot = s }) (spot h.level)

  pub side-next_word : (c : Config) (at : Position) → IsAtPlace c walk at → next_word at.rest at.spot ≡ Some (Bound walk.node walk.child (length read))
  side-next_word c at h = ap (λ (p : Position). next_word p.rest p.spot) (place-side c at h)

  -- it is one of a child of the world
  pub side-asks : (finder : Finder) (view : View) → IsUnderWalk walk finder view → is_reading stage ≡ true → ∥ IsCurrent view ∥₁ → (walk.node < node_count view.config) × (walk.child < 4) × (length read < 6)
  side-asks finder view under reads current =
      let h = under.goes.reads (ap is_reading is ∙ reads) in
      bound-at (trip_of under.start h.number h.first h.query) view h.at h.collecting.on current walk.node walk.child (length read) (side-next_word under.start.config h.at h.place)

  pub side-leads : (c : Config) (query : Query) (after : Walk) (held finder : Finder) (at : Position) (value : ℕ) → IsAtPlace c walk at → Puts held finder [] → nat_lt (length (read ++ value ∷ [])) 6 ≡ true
      → ((stack : List Waiting) (level : ℕ) → walk.stack.items ≡ nodes_in stack
      → IsAtPlace c after (record { rest = words_left c walk; stack = stack; spot = at_bound walk.node level walk.child walk.word (read ++ value ∷ []) }))
      → Leads c query walk after held finder at (Bound walk.node walk.child (length read)) value
  side-leads c query after held finder at value h puts few took =
      let there = sym (place-side c at h) in
      record {
        is = side-next_word c at h;
        place =
            subst (λ (p : Position). IsAtPlace c after (advance query p (record { name = Bound walk.node walk.child (length read); value = value }))) there
            (subst (IsAtPlace c after) (sym (side-more query (words_left c walk) h.stack walk.node h.level walk.child walk.word (read ++ value ∷ []) few)) (took h.stack h.level h.nodes));
        puts = subst (λ (p : Position). Puts held finder (found_with query p.spot value)) there (subst (Puts held finder) (sym (side-finds query walk.word (read ++ value ∷ []) few)) puts);
      }

-- the whole turn
module _ (before after : Walk) (held finder : Finder) (view next : View) (value : ℕ) (stage : WalkStage) (read : List ℕ) (under : IsUnderWalk before held view) (few : held.loads < 2 ^ 32)
    (is : before.stage ≡ stage) (reads : is_reading stage ≡ true) (side : is_at_side stage ≡ true)
    (spot : (level : ℕ) → spot_at before level stage ≡ at_bound before.node level before.child before.word read) (not_last : nat_lt (length (read ++ value ∷ [])) 6 ≡ true) where
  pub side-turn : ¬ (stage ≡ Word) → KeepsWord before after → after.node ≡ before.node → after.child ≡ before.child → after.word ≡ before.word → finder.loads ≡ held.loads + 1 → room_of finder ≡ room_of held
      → Puts held finder [] → WalksOn view next (Bound before.node before.child (length read)) value → AtMostOneStep view next → MadeBy view next None
      → ((c : Config) (stack : List Waiting) (level : ℕ) → before.stack.items ≡ nodes_in stack
      → IsAtPlace c after (record { rest = words_left c before; stack = stack; spot = at_bound before.node level before.child before.word (read ++ value ∷ []) }))
      → IsWalkTurn before after held finder view next
  side-turn other keeps node child word count room puts walks step made took =
      reading-turn before after held finder view next (Bound before.node before.child (length read)) value under few (ap is_reading is ∙ reads) keeps.plan (stays-climbing before after stage is other keeps) count room
      walks step made (λ s. as_before (ap is_at_side is ∙ side) node child word)
      (λ c query at asks sized place. side-leads before stage read is spot c query after held finder at value place puts not_last (took c))

-- ---- a slot

pub fits-at : (c : Config) (walk : Walk) (at : Position) (stage : WalkStage) → IsAtPlace c walk at → walk.stage ≡ stage → FitsStage c walk stage
fits-at c walk at stage h is = subst (FitsStage c walk) is h.fits

module _ (walk : Walk) (is : walk.stage ≡ Word) (low : walk.slot < walk.slots) where
  place-slot : (c : Config) (at : Position) (h : IsAtPlace c walk at) → IsSized c walk
      → at ≡ record { rest = Slot walk.layer walk.slot ∷ words_at c walk.mask walk.layer (walk.slot + 1); stack = h.stack; spot = resting }
  place-slot c at h sized =
      place-at c walk at Word h is
      ∙ ap (λ (rest : List Name). record { rest = rest; stack = h.stack; spot = resting })
      (words-slot c walk.mask walk.layer walk.slot (fits-at c walk at Word h is).0 (subst (λ (n : ℕ). walk.slot < n) sized.slots low))

  slot-next_word : (c : Config) (at : Position) → IsAtPlace c walk at → IsSized c walk → next_word at.rest at.spot ≡ Some (Slot walk.layer walk.slot)
  slot-next_word c at h sized = ap (λ (p : Position). next_word p.rest p.spot) (place-slot c at h sized)

  pub slot-asks : (finder : Finder) (view : View) → IsUnderWalk walk finder view → ∥ IsCurrent view ∥₁ → (walk.layer < view.config.layers) × (walk.slot < view.config.slots)
  slot-asks finder view under current =
      let h = under.goes.reads (ap is_reading is) in
      slot-at (trip_of under.start h.number h.first h.query) view h.at h.collecting.on current walk.layer walk.slot (slot-next_word under.start.config h.at h.place under.goes.sized)

  -- a root that it names is a node of the world
  pub slot-fits : (finder : Finder) (view next : View) (value : ℕ) → IsUnderWalk walk finder view → WalksOn view next (Slot walk.layer walk.slot) value → ∥ IsCurrent next ∥₁ → IsConfig next.config
      → value < 1024 + 2 ^ 32
  slot-fits finder view next value under walks current limits =
      let h = under.goes.reads (ap is_reading is) in
      let trip = trip_of under.start h.number h.first h.query in
      let name = Slot walk.layer walk.slot in
      let rest = words_at under.start.config walk.mask walk.layer (walk.slot + 1) in
      let on = (trip-on trip view next h.at name value h.collecting.on (slot-next_word under.start.config h.at h.place under.goes.sized) walks).on in
      let there : IsOnTrip trip next (next_node rest (roots_in name value)) =
      subst (λ (p : Position). IsOnTrip trip next (advance h.query p (record { name = name; value = value }))) (place-slot under.start.config h.at h.place under.goes.sized) on
      in
      elim (cases_lt value 1024) [
        | inl less ↦ omega arith
        | inr root ↦
            let named : roots_in name value ≡ waiting (value - 1024) 1 ∷ [] = ap (λ (b : Bool). if b then waiting (value - 1024) 1 ∷ [] else []) (le-leb 1024 value root) in
            let node = (child-at trip next (next_node rest (waiting (value - 1024) 1 ∷ [])) (subst (λ (s : List Waiting). IsOnTrip trip next (next_node rest s)) named there) current (value - 1024) 0 refl).0 in
            let nodes = limits.nodes.1 in
            let bodies = limits.bodies.1 in
            let layers = limits.layers.1 in
            omega arith
      ]

  pub slot-leads : (c : Config) (query : Query) (after : Walk) (held finder : Finder) (at : Position) (value : ℕ) → IsSized c walk → IsAtPlace c walk at → Puts held finder []
      → (walk.layer < c.layers → walk.stack.items ≡ [] → IsAtPlace c after (next_node (words_at c walk.mask walk.layer (walk.slot + 1)) (roots_in (Slot walk.layer walk.slot) value)))
      → Leads c query walk after held finder at (Slot walk.layer walk.slot) value
  slot-leads c query after held finder at value sized h puts took =
      let there = sym (place-slot c at h sized) in
      let fits = fits-at c walk at Word h is in
      record {
        is = slot-next_word c at h sized;
        place = subst (λ (p : Position). IsAtPlace c after (advance query p (record { name = Slot walk.layer walk.slot; value = value }))) there (took fits.0 fits.1);
        puts = subst (λ (p : Position). Puts held finder (found_with query p.spot value)) there puts;
      }

  -- the layer stays, and its main word is not read yet
  pub slot-climbs : (after : Walk) → after.layer ≡ walk.layer → ClimbsLayers walk after
  slot-climbs after same = record { above = omega arith; within = λ within. omega arith; passes = λ word last. absurd (omega arith) }

-- ---- a main word

module _ (walk : Walk) (is : walk.stage ≡ Word) (past : walk.slots ≤ walk.slot) where
  place-of_main : (c : Config) (at : Position) (h : IsAtPlace c walk at) → IsSized c walk → at ≡ record { rest = Main walk.layer ∷ words_from c walk.mask (walk.layer + 1); stack = h.stack; spot = resting }
  place-of_main c at h sized =
      place-at c walk at Word h is
      ∙ ap (λ (rest : List Name). record { rest = rest; stack = h.stack; spot = resting })
      (words-main c walk.mask walk.layer walk.slot (fits-at c walk at Word h is).0 (subst (λ (n : ℕ). n ≤ walk.slot) sized.slots past))

  main-next_word : (c : Config) (at : Position) → IsAtPlace c walk at → IsSized c walk → next_word at.rest at.spot ≡ Some (Main walk.layer)
  main-next_word c at h sized = ap (λ (p : Position). next_word p.rest p.spot) (place-of_main c at h sized)

  pub main-asks : (finder : Finder) (view : View) → IsUnderWalk walk finder view → ∥ IsCurrent view ∥₁ → walk.layer < view.config.layers
  main-asks finder view under current =
      let h = under.goes.reads (ap is_reading is) in
      main-at (trip_of under.start h.number h.first h.query) view h.at h.collecting.on current walk.layer (main-next_word under.start.config h.at h.place under.goes.sized)

  pub main-inside : (finder : Finder) (view : View) → IsUnderWalk walk finder view → walk.layer < walk.layers
  main-inside finder view under =
      let h = under.goes.reads (ap is_reading is) in
      subst (λ (n : ℕ). walk.layer < n) (sym under.goes.sized.layers) (fits-at under.start.config walk h.at Word h.place is).0

  -- the root that it names is a node of the world
  pub main-fits : (finder : Finder) (view next : View) (value : ℕ) → IsUnderWalk walk finder view → WalksOn view next (Main walk.layer) value → ∥ IsCurrent next ∥₁ → IsConfig next.config → value ≤ 2 ^ 32
  main-fits finder view next zero under walks current limits = omega arith
  main-fits finder view next (suc root) under walks current limits =
      let h = under.goes.reads (ap is_reading is) in
      let trip = trip_of under.start h.number h.first h.query in
      let name = Main walk.layer in
      let rest = words_from under.start.config walk.mask (walk.layer + 1) in
      let on = (trip-on trip view next h.at name (suc root) h.collecting.on (main-next_word under.start.config h.at h.place under.goes.sized) walks).on in
      let there : IsOnTrip trip next (next_node rest (waiting root 1 ∷ [])) =
      subst (λ (p : Position). IsOnTrip trip next (advance h.query p (record { name = name; value = suc root }))) (place-of_main under.start.config h.at h.place under.goes.sized) on
      in
      let node = (child-at trip next (next_node rest (waiting root 1 ∷ [])) there current root 0 refl).0 in
      let nodes = limits.nodes.1 in
      let bodies = limits.bodies.1 in
      let layers = limits.layers.1 in
      omega arith

  pub main-leads : (c : Config) (query : Query) (after : Walk) (held finder : Finder) (at : Position) (value : ℕ) → IsSized c walk → IsAtPlace c walk at → Puts held finder []
      → (walk.stack.items ≡ [] → IsAtPlace c after (next_node (words_from c walk.mask (walk.layer + 1)) (roots_in (Main walk.layer) value)))
      → Leads c query walk after held finder at (Main walk.layer) value
  main-leads c query after held finder at value sized h puts took =
      let there = sym (place-of_main c at h sized) in
      record {
        is = main-next_word c at h sized;
        place = subst (λ (p : Position). IsAtPlace c after (advance query p (record { name = Main walk.layer; value = value }))) there (took (fits-at c walk at Word h is).1);
        puts = subst (λ (p : Position). Puts held finder (found_with query p.spot value)) there puts;
      }
