-- The last side of a bound, with which the child goes where it is to go.
use Rattle.std.proofs.Common.{◌≡◌, ◌≢◌, ℕ, suc, ◌+◌, ◌-◌, ◌<◌, ◌≤◌, ◌^◌, List, [], ◌∷◌, ◌++◌, Bool, true, Some, length, refl, ap, sym, ◌∙◌, subst, inl, inr, arith}
use Rattle.std.specs.Prelude.{IsTrue, ◌↔◌, ◌==◌, ◌%◌, ◌/◌, if◌then◌else◌}
use Rattle.std.proofs.lemmas.Bool.{cases_eq, eq-eqb}
use Rattle.fixed_box.specs.declared.fix_box.FixBox.{FixBox}
use Rattle.fixed_box.specs.FixBox.{words_of}
use Rattle.fixed_box.specs.Touch.{Touch}
use Rattle.word_map.specs.Limits.{IsConfig}
use Rattle.word_map.specs.Names.{node_count}
use Rattle.word_map.specs.declared.config.Config.{Config}
use Rattle.word_map.specs.declared.name.Name.TheVariants.{Bound, Child as ChildName}
use Rattle.core_state.specs.declared.item.Load.{Load}
use Rattle.core_state.specs.declared.view.Waiting.{Waiting}
use Rattle.core_state.specs.declared.view.View.{View}
use Rattle.core_state.specs.Encoding.{body_child}
use Rattle.core_state.specs.Walking.{Query, Position, at_bound, waiting, next_word, next_child, pushed, advance}
use Rattle.core_state.specs.WalkRecord.{IsLoaded}
use Rattle.pass_table.specs.Bodies.{IsCurrent}
use Rattle.tree_query.specs.declared.finder.Finder.{Finder}
use Rattle.tree_query.specs.declared.walk.WalkStage.TheVariants.{HighZ}
use Rattle.tree_query.specs.declared.walk.Walk.{Walk}
use Rattle.tree_query.specs.Walking.{WalksOn}
use Rattle.tree_query.specs.Collecting.{body_named, found_with, IsOnTrip, Puts, node_named, nodes_in}
use Rattle.tree_query.specs.stages.WalkPlaces.{is_reading, is_at_side, words_left, IsAtPlace}
use Rattle.tree_query.specs.stages.WalkTurns.{trip_of, IsUnderWalk}
use Rattle.tree_query.proofs.Trips.{trip-on, room-at, body-at}
use Rattle.tree_query.proofs.Kept.{child-next, first-node, nodes-kept, nodes-many}
use Rattle.tree_query.proofs.Sides.{tests-so}
use Rattle.tree_query.proofs.WalkTurns.{Leads}
use Rattle.tree_query.proofs.WalkLeads.{place-side, side-next_word}

-- whether the six words are those of a box that the shape touches
abbrev pub Tells : Walk → ℕ → Bool → Type 0
Tells walk value touches = IsTrue touches ↔ ((b : FixBox) × (words_of b ≡ walk.x0 ∷ walk.y0 ∷ walk.z0 ∷ walk.x1 ∷ walk.y1 ∷ value ∷ []) × Touch walk.shape b)

-- there is room on the stack
pub space-on : (walk : Walk) (finder : Finder) (view : View) → IsUnderWalk walk finder view → is_reading walk.stage ≡ true → ∥ IsCurrent view ∥₁ → length walk.stack.items < 40
space-on walk finder view under was current =
    let h = under.goes.reads was in
    let room = room-at (trip_of under.start h.number h.first h.query) view h.at h.collecting.on current in
    let there = ap (λ (p : Position). length p.stack) h.place.place in
    let same = ap length h.place.nodes in
    let many = nodes-many h.place.stack in
    omega arith

module _ (walk : Walk) (is : walk.stage ≡ HighZ) where
  abbrev read : List ℕ
  read = walk.x0 ∷ walk.y0 ∷ walk.z0 ∷ walk.x1 ∷ walk.y1 ∷ []

  abbrev six : ℕ → List ℕ
  six value = walk.x0 ∷ walk.y0 ∷ walk.z0 ∷ walk.x1 ∷ walk.y1 ∷ value ∷ []

  place-last_side : (c : Config) (at : Position) (h : IsAtPlace c walk at) → at ≡ record { rest = words_left c walk; stack = h.stack; spot = at_bound walk.node h.level walk.child walk.word read }
  place-last_side c at h = place-side walk HighZ read is (λ level. refl) c at h

  last-next_word : (c : Config) (at : Position) → IsAtPlace c walk at → next_word at.rest at.spot ≡ Some (Bound walk.node walk.child 5)
  last-next_word c at h = side-next_word walk HighZ read is (λ level. refl) c at h

  -- the word of a child that touches is small
  module _ (finder : Finder) (view : View) (under : IsUnderWalk walk finder view) (current : ∥ IsCurrent view ∥₁) where
    -- a body that it is is one of the world
    pub last-body : (index : ℕ) → walk.word ≡ body_child index → index < view.config.bodies
    last-body index same =
        let h = under.goes.reads (ap is_reading is) in
        body-at (trip_of under.start h.number h.first h.query) view h.at h.collecting.on current walk.node walk.child index
        (subst (IsLoaded view.walk.loads (ChildName walk.node walk.child)) same (h.loaded (ap is_at_side is)).0)

    pub last-some : walk.word ≢ 0
    last-some = let h = under.goes.reads (ap is_reading is) in (h.loaded (ap is_at_side is)).1

    module _ (next : View) (value : ℕ) (walks : WalksOn view next (Bound walk.node walk.child 5) value) (touches : Bool) (tells : Tells walk value touches) where
      -- a node that it is is one of the world
      last-node : ∥ IsCurrent next ∥₁ → touches ≡ true → walk.word % 2 ≡ 0 → (walk.word - 2) / 2 < node_count next.config
      last-node there touched even =
          let h = under.goes.reads (ap is_reading is) in
          let c = under.start.config in
          let trip = trip_of under.start h.number h.first h.query in
          let new : Load = record { name = Bound walk.node walk.child 5; value = value } in
          let on = (trip-on trip view next h.at (Bound walk.node walk.child 5) value h.collecting.on (last-next_word c h.at h.place) walks).on in
          let now : IsOnTrip trip next (next_child (words_left c walk) (if h.query.test (six value) then pushed h.place.level walk.word h.place.stack else h.place.stack) walk.node h.place.level walk.child) =
          subst (λ (p : Position). IsOnTrip trip next (advance h.query p new)) (place-last_side c h.at h.place) on
          in
          let tested : h.query.test (six value) ≡ true = tests-so h.query walk.shape touches (six value) h.collecting.asks tells ∙ touched in
          let on_stack : (if h.query.test (six value) then pushed h.place.level walk.word h.place.stack else h.place.stack) ≡ waiting ((walk.word - 2) / 2) (suc h.place.level) ∷ h.place.stack =
          ap (λ (b : Bool). if b then pushed h.place.level walk.word h.place.stack else h.place.stack) tested
          ∙ ap (λ (b : Bool). if b then waiting ((walk.word - 2) / 2) (suc h.place.level) ∷ h.place.stack else h.place.stack) (eq-eqb (walk.word % 2) 0 even)
          in
          first-node trip next (words_left c walk) (waiting ((walk.word - 2) / 2) (suc h.place.level)) h.place.stack walk.node h.place.level (walk.child + 1)
          (subst (IsOnTrip trip next) (child-next (words_left c walk) (waiting ((walk.word - 2) / 2) (suc h.place.level) ∷ h.place.stack) walk.node h.place.level walk.child)
          (subst (λ (s : List Waiting). IsOnTrip trip next (next_child (words_left c walk) s walk.node h.place.level walk.child)) on_stack now)) there

      pub last-small : ∥ IsCurrent next ∥₁ → IsConfig view.config → IsConfig next.config → touches ≡ true → walk.word ≤ 2 ^ 33
      last-small there limits later touched = elim (cases_eq (walk.word % 2) 0) [
        | inl even ↦
            let node = last-node there touched even in
            let nodes = later.nodes.1 in
            let bodies = later.bodies.1 in
            let layers = later.layers.1 in
            omega arith
        | inr odd ↦
            let body = last-body ((walk.word - 1) / 2) (omega arith) in
            let bodies = limits.bodies.1 in
            omega arith
      ]

  -- where it leads
  pub last-leads : (c : Config) (query : Query) (after : Walk) (held finder : Finder) (at : Position) (value : ℕ) (touches : Bool) (later : List ℕ) → query.shape ≡ walk.shape → Tells walk value touches
      → IsAtPlace c walk at → later ≡ walk.stack.items ++ (if touches then node_named walk.word else []) → Puts held finder (if touches then body_named walk.word else [])
      → ((stack : List Waiting) (level : ℕ) → later ≡ nodes_in stack → IsAtPlace c after (next_child (words_left c walk) stack walk.node level walk.child))
      → Leads c query walk after held finder at (Bound walk.node walk.child 5) value
  last-leads c query after held finder at value touches later asks tells h stack puts took =
      let there = sym (place-last_side c at h) in
      let tested = sym (tests-so query walk.shape touches (six value) asks tells) in
      let new : Load = record { name = Bound walk.node walk.child 5; value = value } in
      record {
        is = last-next_word c at h;
        place =
            subst (λ (p : Position). IsAtPlace c after (advance query p new)) there
            (subst (λ (b : Bool). IsAtPlace c after (next_child (words_left c walk) (if b then pushed h.level walk.word h.stack else h.stack) walk.node h.level walk.child)) tested
            (took (if touches then pushed h.level walk.word h.stack else h.stack) h.level
            (stack ∙ nodes-kept touches (walk.word % 2 == 0) walk.stack.items h.stack ((walk.word - 2) / 2) (suc h.level) h.nodes)));
        puts =
            subst (λ (p : Position). Puts held finder (found_with query p.spot value)) there
            (subst (λ (b : Bool). Puts held finder (if b then body_named walk.word else [])) tested puts);
      }
