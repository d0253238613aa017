-- What the steps of a move ask on the way up.
use Rattle.std.specs.Prelude.{⊤, ◌%◌, IsSomeAnd, slice_index, take}
use Rattle.std.proofs.Common.{◌≡◌, ◌≢◌, ◌⊎◌, ℕ, zero, suc, ◌+◌, ◌<◌, ◌≤◌, List, [], ◌∷◌, ◌++◌, length, Option, Some, None, inl, inr, refl, ap, sym, ◌∙◌, subst, arith}
use mathlib.Core.Logic.{∥∥₁_elim}
use Rattle.std.proofs.Props.{props}
use Rattle.fixed_box.specs.FixBox.{words_of}
use Rattle.fixed_box.specs.declared.fix_box.FixBox.{FixBox}
use Rattle.fixed_box.proofs.Words.{AreWords-of_box}
use Rattle.body_ident.specs.Id.{Id}
use Rattle.scene_model.specs.declared.body_view.Phase.{Phase}
use Rattle.scene_model.specs.declared.body_view.Phase.TheVariants.{Held, In}
use Rattle.scene_model.specs.Scene.{Record, record_at}
use Rattle.word_map.specs.declared.name.Name.TheVariants.{LocA, Parent}
use Rattle.word_map.specs.Names.{stripe_of, node_count}
use Rattle.core_state.specs.declared.view.Mode.TheVariants.{Write}
use Rattle.core_state.specs.declared.view.LockStep.{LockStep}
use Rattle.core_state.specs.declared.view.Call.{Call}
use Rattle.core_state.specs.declared.view.View.{View}
use Rattle.core_state.specs.View.{IsPass, Holds, mode_of}
use Rattle.core_state.specs.Encoding.{Sides, sides_of, place}
use Rattle.core_state.specs.Guards.{scene_at}
use Rattle.core_state.specs.Moving.{IsSettled, IsKnownIn, IsKnownLocation, HasComeTo, at_start, by_parent, IsSideOfTarget, an_old, the_next, MayWiden, WidensForMove, begins_move, goes_on_moving, MayLoadParentMoving}
use Rattle.core_state.specs.Nodes.{Stands}
use Rattle.pass_table.specs.Bodies.{IsCurrent}
use Rattle.pass_table.proofs.Settled.{sure-word, sure-in}
use Rattle.pass_table.proofs.WorkLater.{worked-pass}
use Rattle.widen_bounds.specs.declared.climbing.Climb.{Climb}
use Rattle.widen_bounds.specs.stages.Widening.{moving_with, IsMidMove, HasClimbedTo, at_begin, one_up}
use Rattle.widen_bounds.specs.stages.Climbing.{IsOnWay}
use Rattle.widen_bounds.proofs.WidenPlaces.{nodes_now, location-stands, node-below, way-stands}

-- ---- the six sides of a box

module _ (target : FixBox) where
  pub take-length : (k : ℕ) → k ≤ 6 → length (take k (words_of target)) ≡ k
  take-length zero low = refl
  take-length (suc zero) low = refl
  take-length (suc (suc zero)) low = refl
  take-length (suc (suc (suc zero))) low = refl
  take-length (suc (suc (suc (suc zero)))) low = refl
  take-length (suc (suc (suc (suc (suc zero))))) low = refl
  take-length (suc (suc (suc (suc (suc (suc zero)))))) low = refl
  take-length (suc (suc (suc (suc (suc (suc (suc k))))))) low = absurd (omega arith)

  pub take-next : (k : ℕ) → k < 6 → take (suc k) (words_of target) ≡ take k (words_of target) ++ slice_index (words_of target) k ∷ []
  take-next zero low = refl
  take-next (suc zero) low = refl
  take-next (suc (suc zero)) low = refl
  take-next (suc (suc (suc zero))) low = refl
  take-next (suc (suc (suc (suc zero)))) low = refl
  take-next (suc (suc (suc (suc (suc zero))))) low = refl
  take-next (suc (suc (suc (suc (suc (suc k)))))) low = absurd (omega arith)

  -- they are words of coordinates, in order
  side-range : (q : ℕ) → q < 6 → (1 ≤ slice_index (words_of target) q) × (slice_index (words_of target) q ≤ 16777216)
  side-range zero low = let t = AreWords-of_box target (words_of target) refl in let a = t.0.0 in let b = t.0.1 in let c = t.0.2 in (omega arith, omega arith)
  side-range (suc zero) low = let t = AreWords-of_box target (words_of target) refl in let a = t.1.0 in let b = t.1.1 in let c = t.1.2 in (omega arith, omega arith)
  side-range (suc (suc zero)) low = let t = AreWords-of_box target (words_of target) refl in let a = t.2.0 in let b = t.2.1 in let c = t.2.2 in (omega arith, omega arith)
  side-range (suc (suc (suc zero))) low = let t = AreWords-of_box target (words_of target) refl in let a = t.0.0 in let b = t.0.1 in let c = t.0.2 in (omega arith, omega arith)
  side-range (suc (suc (suc (suc zero)))) low = let t = AreWords-of_box target (words_of target) refl in let a = t.1.0 in let b = t.1.1 in let c = t.1.2 in (omega arith, omega arith)
  side-range (suc (suc (suc (suc (suc zero))))) low = let t = AreWords-of_box target (words_of target) refl in let a = t.2.0 in let b = t.2.1 in let c = t.2.2 in (omega arith, omega arith)
  side-range (suc (suc (suc (suc (suc (suc q)))))) low = absurd (omega arith)

  side-order : (a : ℕ) → a < 3 → slice_index (take (3 + a) (words_of target)) a ≤ slice_index (words_of target) (3 + a)
  side-order zero low = (AreWords-of_box target (words_of target) refl).0.1
  side-order (suc zero) low = (AreWords-of_box target (words_of target) refl).1.1
  side-order (suc (suc zero)) low = (AreWords-of_box target (words_of target) refl).2.1
  side-order (suc (suc (suc a))) low = absurd (omega arith)

  -- the next one, and an old one
  next-side : (q : ℕ) → q < 6 → IsSideOfTarget (take q (words_of target)) q (slice_index (words_of target) q)
  next-side q low =
      the_next (sym (take-length q (omega arith)))
      (λ a is. subst (λ (x : ℕ). slice_index (take x (words_of target)) a ≤ slice_index (words_of target) x) (sym is) (side-order a (omega arith)))

  old-side : (q : ℕ) → q < 6 → IsSideOfTarget (words_of target) q (slice_index (words_of target) q)
  old-side q low = an_old low refl

-- ---- a body in the broad phase

-- it is not held
in-free : (o : Option Record) (P : Record → Type 0) → IsSomeAnd o (λ r. P r × (r.phase ≡ In)) → IsSomeAnd o (λ r. r.phase ≢ Held)
in-free None P h = h
in-free (Some r) P h = λ held. absurd (subst IsItIn (sym h.1 ∙ held) tt)
  where
    IsItIn : Phase → Type 0
    IsItIn In = ⊤
    IsItIn _ = ⊥

in-inside : (o : Option Record) (P : Record → Type 0) → IsSomeAnd o (λ r. P r × (r.phase ≡ In)) → IsSomeAnd o (λ r. r.phase ≡ In)
in-inside None P h = h
in-inside (Some r) P h = h.1

module _ (id : Id) (target : FixBox) (steps : List LockStep) (start view : View) (known first second : ℕ) (move : IsMidMove id target steps start view known first second) where
  pub mid-pass : IsPass view move.calling.adds.number
  mid-pass = worked-pass start view _ move.calling

  pub mid-stripe : Holds view (stripe_of view.config id.index) Write
  mid-stripe = ap (λ (v : View). mode_of v.locks (stripe_of v.config id.index)) move.calling.left ∙ move.stripe

  module _ (current : ∥ IsCurrent view ∥₁) where
    pub mid-settled : IsSettled view id.index
    mid-settled =
        record {
          stripe = mid-stripe;
          live = let live = move.phase.live in omega arith;
          unheld = in-free (record_at (scene_at view.config view.known) id.index) (λ r. r.generation % 256 ≡ id.seq) (sure-in view current id move.phase);
        }

    pub mid-inside : IsKnownIn view id.index In
    mid-inside = in-inside (record_at (scene_at view.config view.known) id.index) (λ r. r.generation % 256 ≡ id.seq) (sure-in view current id move.phase)

    -- its location words are those that were loaded
    pub is-location : (at n k : ℕ) → (at ≡ first) ⊎ (at ≡ second) → k < 4 → at ≡ place n k → IsKnownLocation view id.index n k
    is-location at n k one below is =
        (below, elim (one) [ inl e ↦ inl (sure-word view current (LocA id.index) first move.at_first ∙ (sym e ∙ is)) | inr e ↦ inr (move.at_second ∙ (sym e ∙ is)) ])

    pub location-is : (n k : ℕ) → IsKnownLocation view id.index n k → (first ≡ place n k) ⊎ (second ≡ place n k)
    location-is n k location =
        elim (location.1) [ inl e ↦ inl (sym (sure-word view current (LocA id.index) first move.at_first) ∙ e) | inr e ↦ inr (sym move.at_second ∙ e) ]

-- ---- on the way up

pub come-to : (call : Call) (box : Sides) (Begins : ℕ → ℕ → Type 0) (n k level a b : ℕ) → HasClimbedTo call box n k level a b → Begins n k → HasComeTo call Begins a b
come-to call box Begins n k zero a b at_begin begins = at_start begins
come-to call box Begins n k (suc level) m j (one_up l a b x y way wide below loaded) begins = by_parent a below loaded

-- at the lowest place
lowest : (call : Call) (box : Sides) (n k level a b : ℕ) → level ≡ 0 → HasClimbedTo call box n k level a b → (n ≡ a) × (k ≡ b)
lowest call box n k zero a b none at_begin = (refl, refl)
lowest call box n k (suc level) m j none (one_up l a b x y way wide below loaded) = absurd (omega arith)

module _ (id : Id) (target : FixBox) (steps : List LockStep) (start view : View) (known first second at : ℕ) (climb : Climb) (goes : IsOnWay id target steps start view known first second at climb) (current : ∥ IsCurrent view ∥₁) where
  abbrev words : List ℕ
  words = words_of target

  begins : IsKnownLocation view id.index goes.climbing.node goes.climbing.child
  begins = is-location id target steps start view known first second goes.move current at goes.climbing.node goes.climbing.child goes.one goes.climbing.below goes.climbing.begins

  come : HasComeTo view.call (IsKnownLocation view id.index) climb.node climb.child
  come = come-to view.call (sides_of words) (IsKnownLocation view id.index) goes.climbing.node goes.climbing.child climb.level climb.node climb.child goes.climbing.way begins

  at-lowest : climb.level ≡ 0 → IsKnownLocation view id.index climb.node climb.child
  at-lowest none =
      let same = lowest view.call (sides_of words) goes.climbing.node goes.climbing.child climb.level climb.node climb.child none goes.climbing.way in
      subst (λ (a : ℕ). IsKnownLocation view id.index a climb.child) same.0 (subst (λ (b : ℕ). IsKnownLocation view id.index goes.climbing.node b) same.1 begins)

  doing : (so_far : ℕ) → known ≡ so_far → view.call.task ≡ moving_with id.index words so_far
  doing so_far is = goes.move.calling.doing ∙ ap (moving_with id.index words) is

  -- so far it has come to the sides that are widened at the lowest place
  first-place : (side : ℕ) → side < 6 → known ≡ side → climb.level ≡ 0 → WidensForMove view id.index climb.node climb.child side (slice_index words side)
  first-place zero low is none = begins_move (record { idle = doing 0 is; first = refl; location = at-lowest none })
  first-place (suc side) low is none = goes_on_moving (record { target = take (suc side) words; task = doing (suc side) is; side = next-side target (suc side) low; come = come })

  pub may-widen : climb.side < 6 → MayWiden id.index view climb.node climb.child climb.side (slice_index words climb.side)
  may-widen low =
      let range = side-range target climb.side low in
      record {
        settled = mid-settled id target steps start view known first second goes.move current;
        inside = mid-inside id target steps start view known first second goes.move current;
        low = range.0;
        high = range.1;
        widens = elim (goes.climbing.so_far) [
          | inl lowest ↦ first-place climb.side low lowest.0 lowest.1
          | inr all ↦ goes_on_moving (record { target = words; task = doing 6 all; side = old-side target climb.side low; come = come })
        ];
      }

  -- the move has come to six sides where all are widened at a place
  pub all-known : climb.side ≡ 6 → known ≡ 6
  all-known full = elim (goes.climbing.so_far) [ inl lowest ↦ lowest.0 ∙ full | inr all ↦ all ]

  pub may-load : climb.side ≡ 6 → MayLoadParentMoving id.index view (Parent climb.node) 0 0
  may-load full = record {
    node = climb.node;
    child = climb.child;
    target = words;
    names = refl;
    settled = mid-settled id target steps start view known first second goes.move current;
    task = doing 6 (all-known full);
    come = come;
  }

  -- the node is in a tree
  pub way-now : (now : IsCurrent view) → Stands ((nodes_now view now).home climb.node) × ((nodes_now view now).depth goes.climbing.node ≡ climb.level + (nodes_now view now).depth climb.node)
  way-now now =
      let stands = location-stands view now id goes.move.phase goes.climbing.node goes.climbing.child begins in
      elim (goes.climbing.so_far) [
        | inl here ↦
            let same = lowest view.call (sides_of words) goes.climbing.node goes.climbing.child climb.level climb.node climb.child here.1 goes.climbing.way in
            let none = here.1 in
            subst (λ (x : ℕ). Stands ((nodes_now view now).home x) × ((nodes_now view now).depth goes.climbing.node ≡ climb.level + (nodes_now view now).depth x)) same.0 (stands, omega arith)
        | inr all ↦
            way-stands view now goes.move.calling.adds.number (mid-pass id target steps start view known first second goes.move) id.index words (doing 6 all) (sides_of words) goes.climbing.node goes.climbing.child
            climb.level climb.node climb.child goes.climbing.way stands
      ]

  pub node-in : climb.node < node_count view.config
  node-in = ∥∥₁_elim current (hlevel props) (λ now. node-below view now climb.node (way-now now).0)
