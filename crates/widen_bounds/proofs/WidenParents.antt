-- The parent of a node on the way up is loaded.
use Rattle.std.specs.Prelude.{Contains, ◌^◌}
use Rattle.std.proofs.Common.{◌≡◌, ℕ, suc, ◌<◌, ◌≤◌, List, [], ◌∷◌, ◌++◌, Some, None, inl, inr, refl, ap, sym, ◌∙◌, subst, arith}
use mathlib.Core.Logic.{∥∥₁_elim}
use Rattle.std.proofs.Props.{props}
use Rattle.std.proofs.lemmas.List.{append-nil}
use Rattle.std.proofs.lemmas.List.Elements.{All-nil, Contains-push}
use Rattle.fixed_box.specs.FixBox.{words_of}
use Rattle.fixed_box.specs.declared.fix_box.FixBox.{FixBox}
use Rattle.body_ident.specs.Id.{Id}
use Rattle.word_map.specs.declared.name.Name.TheVariants.{Parent}
use Rattle.core_state.specs.declared.item.Item.{Item}
use Rattle.core_state.specs.declared.item.Load.{Load}
use Rattle.core_state.specs.declared.view.LockStep.{LockStep}
use Rattle.core_state.specs.declared.view.Task.TheVariants.{Moving}
use Rattle.core_state.specs.declared.view.View.{View}
use Rattle.core_state.specs.View.{IsPass}
use Rattle.core_state.specs.Bodies.{has_box_word}
use Rattle.core_state.specs.Core.{word_of}
use Rattle.core_state.specs.Encoding.{Sides, sides_of, place}
use Rattle.core_state.specs.Event.{of_moves, loads_parent}
use Rattle.core_state.specs.Kind.{Step}
use Rattle.core_state.specs.Moving.{HasLoaded, HasWidened, to_root, IsKnownLocation, MayLoadParentMoving, load_parent_moving}
use Rattle.core_state.specs.Nodes.{Stands}
use Rattle.pass_table.specs.Stepping.{step_by, Stepped}
use Rattle.pass_table.specs.Calls.{Advances}
use Rattle.pass_table.specs.Bodies.{IsCurrent}
use Rattle.pass_table.proofs.Knowing.{came-others, step-alone}
use Rattle.pass_table.proofs.Turning.{one-step, made-none}
use Rattle.pass_table.proofs.Calling.{stepped-known, loaded-word}
use Rattle.pass_table.proofs.Bodies.{stepped-current, known-now}
use Rattle.pass_table.proofs.Settled.{sound-now}
use Rattle.widen_bounds.specs.declared.climbing.Climb.{Climb}
use Rattle.widen_bounds.specs.stages.Widening.{moving_with, IsMidMove, HasClimbedTo, one_up}
use Rattle.widen_bounds.specs.stages.Climbing.{IsOnWay, ClimbsFor, Grows, a_place, HasComeOn, HasComeUp, IsClimbTurn}
use Rattle.widen_bounds.proofs.WidenPlaces.{nodes_now, location-stands, node-below, word-below, parent-stands, way-stands, depth-low}
use Rattle.widen_bounds.proofs.WidenAsks.{mid-pass}
use Rattle.widen_bounds.proofs.WidenWays.{grows-more, widened-grows, way-grows, closes}
use Rattle.widen_bounds.proofs.WidenSteps.{parent-beside, body-loaded, move-on}
use Rattle.widen_bounds.proofs.WidenSides.{some-left}

module _ (id : Id) (target : FixBox) (steps : List LockStep) (start view next : View) (known first second at n k level found : ℕ) where
  abbrev words : List ℕ
  words = words_of target

  abbrev box : Sides
  box = sides_of words

  abbrev full_climb : Climb
  full_climb = record { node = n; child = k; level = level; side = 6 }

  module _ (goes : IsOnWay id target steps start view known first second at full_climb) (six : known ≡ 6)
      (stepped : Stepped (MayLoadParentMoving id.index) (load_parent_moving id.index) view (Parent n) 0 0 found next) where
    abbrev made : Step
    made = step_by stepped.seat view stepped.number (Parent n) 0 0

    -- the call has loaded one word more
    loads-more : next.call.loads ≡ view.call.loads ++ record { name = Parent n; value = found } ∷ []
    loads-more = ap (λ (v : View). v.call.loads) stepped.leaves ∙ ap (λ (x : ℕ). view.call.loads ++ record { name = Parent n; value = x } ∷ []) (sym stepped.finds)

    stores-same : next.call.stores ≡ view.call.stores
    stores-same = ap (λ (v : View). v.call.stores) stepped.leaves

    loaded : HasLoaded next.call (Parent n) found
    loaded = subst (λ (l : List Load). Contains l (record { name = Parent n; value = found })) (sym loads-more) (Contains-push view.call.loads (record { name = Parent n; value = found }))

    grows : Grows view.call next.call
    grows = grows-more view.call next.call (record { name = Parent n; value = found } ∷ []) [] loads-more (stores-same ∙ sym (append-nil view.call.stores))

    left : next ≡ record view { known = next.known; joined = next.joined; call = next.call }
    left =
        stepped.leaves
        ∙ (λ i. record view {
          known = sym (ap (λ (v : View). v.known) stepped.leaves) i;
          joined = sym (ap (λ (v : View). v.joined) stepped.leaves) i;
          call = sym (ap (λ (v : View). v.call) stepped.leaves) i;
        })

    by : Advances view next []
    by = record {
      since = stepped.since;
      known = stepped-known (MayLoadParentMoving id.index) (load_parent_moving id.index) view next (Parent n) 0 0 found stepped ∙ ap (λ (l : List Item). l ++ []) stepped.learns;
      others = came-others (MayLoadParentMoving id.index) (load_parent_moving id.index) view next (Parent n) 0 0 found stepped;
      mine = All-nil (λ (i : Item). IsPass view i.pass);
    }

    pub move-loaded : IsMidMove id target steps start next known first second
    move-loaded =
        let sizes : next.config ≡ view.config = ap (λ (v : View). v.config) left in
        move-on id target steps start view next known first second goes.move sizes (Parent n) known (parent-beside id n)
        (step-alone (MayLoadParentMoving id.index) (load_parent_moving id.index) view next (Parent n) 0 0 found stepped)
        (made-none (MayLoadParentMoving id.index) (load_parent_moving id.index) view next (Parent n) 0 0 found stepped (λ a. refl)) left
        (ap (λ (v : View). v.call.task) stepped.leaves ∙ goes.move.calling.doing) (body-loaded id target steps start view next known first second goes.move sizes by) goes.move.few
        (λ some. ap has_box_word stores-same ∙ goes.move.no_box_word some)

    wide : HasWidened next.call box n k
    wide = widened-grows view.call next.call box grows n k goes.climbing.widened

    way : HasClimbedTo next.call box goes.climbing.node goes.climbing.child level n k
    way = way-grows view.call next.call box grows goes.climbing.node goes.climbing.child level n k goes.climbing.way

    -- the node is in a tree
    begins-now : (now : IsCurrent next) → Stands ((nodes_now next now).home goes.climbing.node)
    begins-now now =
        let location : IsKnownLocation next id.index goes.climbing.node goes.climbing.child = (
          goes.climbing.below,
          elim (goes.one) [
            | inl e ↦ inl (move-loaded.at_first (sound-now next now) ∙ (sym e ∙ goes.climbing.begins))
            | inr e ↦ inr (move-loaded.at_second ∙ (sym e ∙ goes.climbing.begins))
          ],
        )
        in
        location-stands next now id move-loaded.phase goes.climbing.node goes.climbing.child location

    task-now : next.call.task ≡ Moving id.index words
    task-now = move-loaded.calling.doing ∙ ap (moving_with id.index words) six

    node-now : (now : IsCurrent next) → Stands ((nodes_now next now).home n)
    node-now now =
        (way-stands next now move-loaded.calling.adds.number (mid-pass id target steps start next known first second move-loaded) id.index words task-now box goes.climbing.node goes.climbing.child level n k way
        (begins-now now)).0

    parent-now : (now : IsCurrent next) → word_of now.core (Parent n) ≡ found
    parent-now now =
        sym (known-now next now (Parent n)) ∙ loaded-word (MayLoadParentMoving id.index) (load_parent_moving id.index) view next (Parent n) 0 0 found stepped (λ word operand. refl)

    -- the word that was found names a place of the world, if any
    pub parent-fits : ∥ IsCurrent next ∥₁ → found ≤ 2 ^ 34
    parent-fits current =
        ∥∥₁_elim current (hlevel props)
        (λ now. word-below next now found (λ m j below is. node-below next now m (parent-stands next now n m j (node-now now) below (parent-now now ∙ is)).0))

    -- at a root the way is closed
    pub comes-up : found ≡ 0 → HasComeUp id target steps start next view.call known first second at
    comes-up none = record {
      all = six;
      grows = grows;
      move = move-loaded;
      closed = closes next.call box at goes.climbing.node goes.climbing.child level n k goes.climbing.begins goes.climbing.below way (to_root n k wide (subst (HasLoaded next.call (Parent n)) none loaded));
    }

    -- else it goes on one level higher
    module _ (m j : ℕ) (below : j < 4) (is : found ≡ place m j) where
      higher : HasClimbedTo next.call box goes.climbing.node goes.climbing.child (suc level) m j
      higher = one_up level n k m j way wide below (subst (HasLoaded next.call (Parent n)) is loaded)

      pub level-low : IsCurrent next → suc level < 10
      level-low now =
          let up = way-stands next now move-loaded.calling.adds.number (mid-pass id target steps start next known first second move-loaded) id.index words task-now box goes.climbing.node goes.climbing.child (suc level)
          m j higher (begins-now now)
          in
          let deep = up.1 in
          let low = depth-low next now goes.climbing.node (begins-now now) in
          omega arith

      pub comes-on : IsCurrent next → HasComeOn id target steps start next view.call known first second at (record { node = m; child = j; level = suc level; side = 0 })
      comes-on now = record {
        later = known;
        all = λ all. all;
        grows = inr grows;
        goes = record {
          move = move-loaded;
          one = goes.one;
          climbing = record {
            node = goes.climbing.node;
            child = goes.climbing.child;
            begins = goes.climbing.begins;
            below = goes.climbing.below;
            way = higher;
            low = level-low now;
            inside = below;
            sides = omega arith;
            widened = λ q low. absurd (omega arith);
            so_far = inr six;
          };
        };
      }

-- ---- the step

module _ (index : ℕ) (target : FixBox) (climb : Climb) (view next : View) (found : ℕ) (way : ClimbsFor index target climb view) (full : climb.side ≡ 6)
    (stepped : Stepped (MayLoadParentMoving index) (load_parent_moving index) view (Parent climb.node) 0 0 found next) where
  same-climb : climb ≡ record climb { side = 6 }
  same-climb = ap (λ (s : ℕ). record climb { side = s }) full

  stepped-of : (i : ℕ) → i ≡ index → Stepped (MayLoadParentMoving i) (load_parent_moving i) view (Parent climb.node) 0 0 found next
  stepped-of i same = subst (λ (x : ℕ). Stepped (MayLoadParentMoving x) (load_parent_moving x) view (Parent climb.node) 0 0 found next) (sym same) stepped

  full-way : (id : Id) (steps : List LockStep) (start : View) (known first second at : ℕ) → IsOnWay id target steps start view known first second at climb
      → IsOnWay id target steps start view known first second at (record climb { side = 6 }) × (known ≡ 6)
  full-way id steps start known first second at goes =
      (subst (IsOnWay id target steps start view known first second at) same-climb goes, elim (goes.climbing.so_far) [ inl lowest ↦ lowest.0 ∙ full | inr all ↦ all ])

  now-current : IsCurrent next
  now-current = stepped-current (MayLoadParentMoving index) (load_parent_moving index) view next (Parent climb.node) 0 0 found stepped

  pub load-fits : ∥ IsCurrent next ∥₁ → found ≤ 2 ^ 34
  load-fits current =
      let own = full-way way.id way.steps way.start way.known way.first way.second way.at way.goes in
      parent-fits way.id target way.steps way.start view next way.known way.first way.second way.at climb.node climb.child climb.level found own.0 own.1 (stepped-of way.id.index way.same) current

  pub root-turn : found ≡ 0 → IsClimbTurn index target climb None view next
  root-turn none = record {
    step = one-step (MayLoadParentMoving index) (load_parent_moving index) view next (Parent climb.node) 0 0 found stepped (λ before after steps. of_moves (loads_parent index steps));
    made = made-none (MayLoadParentMoving index) (load_parent_moving index) view next (Parent climb.node) 0 0 found stepped (λ a. refl);
    current = now-current;
    some = some-left climb.level climb.side way.goes.climbing.low way.goes.climbing.sides;
    fewer = tt;
    onward = tt;
    keeps = λ id steps start known first second at same goes.
        let own = full-way id steps start known first second at goes in
        comes-up id target steps start view next known first second at climb.node climb.child climb.level found own.0 own.1 (stepped-of id.index same) none;
  }

  -- the level is low, as the pass knows then
  pub higher-low : (m j : ℕ) → j < 4 → found ≡ place m j → suc climb.level < 10
  higher-low m j below is =
      let own = full-way way.id way.steps way.start way.known way.first way.second way.at way.goes in
      level-low way.id target way.steps way.start view next way.known way.first way.second way.at climb.node climb.child climb.level found own.0 own.1 (stepped-of way.id.index way.same) m j below is now-current

  pub parent-turn : (m j : ℕ) → j < 4 → found ≡ place m j → IsClimbTurn index target climb (Some (record { node = m; child = j; level = suc climb.level; side = 0 })) view next
  parent-turn m j below is = record {
    step = one-step (MayLoadParentMoving index) (load_parent_moving index) view next (Parent climb.node) 0 0 found stepped (λ before after steps. of_moves (loads_parent index steps));
    made = made-none (MayLoadParentMoving index) (load_parent_moving index) view next (Parent climb.node) 0 0 found stepped (λ a. refl);
    current = now-current;
    some = some-left climb.level climb.side way.goes.climbing.low way.goes.climbing.sides;
    fewer = let low = higher-low m j below is in omega arith;
    onward = a_place m j full refl;
    keeps = λ id steps start known first second at same goes.
        let own = full-way id steps start known first second at goes in
        comes-on id target steps start view next known first second at climb.node climb.child climb.level found own.0 own.1 (stepped-of id.index same) m j below is now-current;
  }
