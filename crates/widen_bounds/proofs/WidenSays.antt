-- What the labels of the widening say: so far the bounds contain the box that the body is to have.
use Rattle.std.proofs.Common.{◌≡◌, ◌⊎◌, ℕ, zero, suc, ◌+◌, ◌<◌, ◌≤◌, List, Bool, cond, Option, Some, None, inl, inr, refl, ap, sym, ◌∙◌, subst, arith}
use Rattle.std.proofs.lemmas.Bool.{cases_eq, eq-eqb, ne_eqb}
use Rattle.std.proofs.lemmas.Option.{none-some, same_Some}
use Rattle.fixed_box.specs.FixBox.{words_of}
use Rattle.fixed_box.specs.declared.fix_box.FixBox.{FixBox}
use Rattle.body_ident.specs.Id.{Id}
use Rattle.word_map.specs.declared.name.Name.TheVariants.{Bound, Parent}
use Rattle.core_state.specs.declared.view.LockStep.{LockStep}
use Rattle.core_state.specs.declared.view.Task.TheVariants.{Moving}
use Rattle.core_state.specs.declared.view.Call.{Call}
use Rattle.core_state.specs.declared.view.View.{View}
use Rattle.core_state.specs.View.{known_word}
use Rattle.core_state.specs.Encoding.{Sides, sides_of, place, Covers, bound_in}
use Rattle.core_state.specs.Moving.{HasLoaded, HasWidened, HasClimbed}
use Rattle.core_state.specs.Nodes.{Above, here, higher}
use Rattle.core_move.proofs.Closing.{climbs-close}
use Rattle.pass_table.specs.Bodies.{IsCurrent}
use Rattle.pass_table.specs.Labels.{SaysNew}
use Rattle.pass_table.specs.Turning.{HasReached}
use Rattle.pass_table.proofs.Bodies.{known-now}
use Rattle.pass_table.proofs.Settled.{sound-now}
use Rattle.widen_bounds.specs.declared.climbing.Climb.{Climb}
use Rattle.widen_bounds.specs.declared.widening.Widening.{Widening}
use Rattle.widen_bounds.specs.declared.widening.Widening.TheVariants.{First, Second, Ended}
use Rattle.widen_bounds.specs.stages.Widening.{moving_with, IsMidMove, HasClimbedTo, at_begin, one_up, IsClimbing, HasClosed, IsWidening, climb_label, widening_label, KnowsWide, KnowsLeafWide, KnowsAllWide, widening_says}
use Rattle.widen_bounds.specs.stages.Climbing.{GoesOnTo, a_side, a_place}
use Rattle.widen_bounds.proofs.WidenPlaces.{place-once, places_now, placed-now}
use Rattle.widen_bounds.proofs.WidenAsks.{mid-pass}

-- ---- labels of a way up

-- where one is reached, the first two places are widened
leaf-label : (level side last : ℕ) → climb_label level side ≡ Some last → ((level ≡ 1) × (side ≡ 6)) ⊎ (2 ≤ level)
leaf-label zero side last is = absurd (none-some last is)
leaf-label (suc zero) side last is =
    elim (cases_eq side 6) [
      | inl full ↦ inl (refl, full)
      | inr few ↦ absurd (none-some last (sym (ap (λ (t : Bool). cond {A = Option ℕ} t (Some 0) None) (ne_eqb side 6 few)) ∙ is))
    ]
leaf-label (suc (suc level)) side last is = inr (omega arith)

no-label : (side label : ℕ) → side < 6 → ¬ HasReached (climb_label 1 side) label
no-label side label few reached = subst (λ (o : Option ℕ). HasReached o label) (ap (λ (t : Bool). cond {A = Option ℕ} t (Some 0) None) (ne_eqb side 6 (λ same. omega arith))) reached

pub label-low : (level side label : ℕ) → HasReached (climb_label level side) label → label ≤ 0
label-low zero side label reached = absurd reached
label-low (suc zero) side label reached =
    elim (cases_eq side 6) [
      | inl full ↦ subst (λ (o : Option ℕ). HasReached o label) (ap (λ (t : Bool). cond {A = Option ℕ} t (Some 0) None) (eq-eqb side 6 full)) reached
      | inr few ↦ absurd (subst (λ (o : Option ℕ). HasReached o label) (ap (λ (t : Bool). cond {A = Option ℕ} t (Some 0) None) (ne_eqb side 6 few)) reached)
    ]
label-low (suc (suc level)) side label reached = reached

-- one that is reached stays so
pub label-on : (before after : Climb) → GoesOnTo before after → (label : ℕ) → HasReached (climb_label before.level before.side) label → HasReached (climb_label after.level after.side) label
label-on before after (a_side few is) label reached = subst (λ (c : Climb). HasReached (climb_label c.level c.side) label) (sym is) (go before.level reached)
  where
    go : (level : ℕ) → HasReached (climb_label level before.side) label → HasReached (climb_label level (suc before.side)) label
    go zero reached = absurd reached
    go (suc zero) reached = absurd (no-label before.side label few reached)
    go (suc (suc level)) reached = reached
label-on before after (a_place m j full is) label reached = subst (λ (c : Climb). HasReached (climb_label c.level c.side) label) (sym is) (go before.level reached)
  where
    go : (level : ℕ) → HasReached (climb_label level before.side) label → HasReached (climb_label (suc level) 0) label
    go zero reached = absurd reached
    go (suc zero) reached = label-low 1 before.side label reached
    go (suc (suc level)) reached = reached

-- ---- the first two places

pub record FirstTwo (call : Call) (box : Sides) (n k level a b : ℕ) : Type 0 where
  pub node : ℕ
  pub child : ℕ
  pub below : child < 4
  pub loaded : HasLoaded call (Parent n) (place node child)
  pub lowest : HasWidened call box n k
  pub above : ((level ≡ 0) × (a ≡ node) × (b ≡ child)) ⊎ HasWidened call box node child

first-two : (call : Call) (box : Sides) (n k level a b : ℕ) → HasClimbedTo call box n k (suc level) a b → FirstTwo call box n k level a b
first-two call box n k zero m j (one_up l a b x y at_begin wide below loaded) = record { node = m; child = j; below = below; loaded = loaded; lowest = wide; above = inl (refl, refl, refl) }
first-two call box n k (suc level) m j (one_up l a b x y way wide below loaded) =
    let t = first-two call box n k level a b way in
    record {
      node = t.node;
      child = t.child;
      below = t.below;
      loaded = t.loaded;
      lowest = t.lowest;
      above = elim (t.above) [
        | inl last ↦ inr (subst (λ (x : ℕ). HasWidened call box x t.child) last.1 (subst (λ (y : ℕ). HasWidened call box a y) last.2 wide))
        | inr more ↦ inr more
      ];
    }

-- ---- what the pass knows

module _ (id : Id) (target : FixBox) (steps : List LockStep) (start view : View) (known first second : ℕ) (move : IsMidMove id target steps start view known first second) (now : IsCurrent view) where
  abbrev words : List ℕ
  words = words_of target

  abbrev box : Sides
  box = sides_of words

  same-wide : (n k : ℕ) → Covers (bound_in (places_now view now).word n k) box → KnowsWide view box n k
  same-wide n k covers q low =
      let t = covers q low in
      (subst (λ (x : ℕ). x ≤ box q) (sym (known-now view now (Bound n k q))) t.0, subst (λ (x : ℕ). box (3 + q) ≤ x) (sym (known-now view now (Bound n k (3 + q)))) t.1)

  same-above : (n k a b : ℕ) → Above (known_word view) n k a b → Above (places_now view now).word n k a b
  same-above n k a b (here x y) = here n k
  same-above n k a b (higher x y m j c d e low rest) = higher n k m j a b (sym (known-now view now (Parent n)) ∙ e) low (same-above m j a b rest)

  module _ (six : known ≡ 6) where
    task : view.call.task ≡ Moving id.index words
    task = move.calling.doing ∙ ap (moving_with id.index words) six

    -- all bounds above a place contain the box from which the way is closed
    closed-wide : (n k : ℕ) → HasClimbed view.call box n k → (a b : ℕ) → Above (known_word view) n k a b → KnowsWide view box a b
    closed-wide n k climbed a b above =
        same-wide a b
        (climbs-close now.core now.seat move.calling.adds.number view id.index words n k now.stands.laws now.at (mid-pass id target steps start view known first second move) task climbed a b (same-above n k a b above))

    widened-wide : (n k : ℕ) → HasWidened view.call box n k → KnowsWide view box n k
    widened-wide n k wide =
        let p = placed-now view now move.calling.adds.number (mid-pass id target steps start view known first second move) id.index words task in
        same-wide n k
        (λ q low.
        let below = p.still_wide n k q (box q) (wide q (omega arith)) in
        let above = p.still_wide n k (3 + q) (box (3 + q)) (wide (3 + q) (omega arith)) in
        (below.0 low, above.1 (omega arith)))

    -- so of a way that has come to a second place
    two-wide : (n k level a b : ℕ) → HasClimbedTo view.call box n k (suc level) a b → ((level ≡ 0) → HasWidened view.call box a b)
        → KnowsWide view box n k × ((m j : ℕ) → j < 4 → known_word view (Parent n) ≡ place m j → KnowsWide view box m j)
    two-wide n k level a b way last =
        let t = first-two view.call box n k level a b way in
        let p = placed-now view now move.calling.adds.number (mid-pass id target steps start view known first second move) id.index words task in
        let wide : HasWidened view.call box t.node t.child =
        elim (t.above) [
          | inl end ↦ subst (λ (x : ℕ). HasWidened view.call box x t.child) end.1 (subst (λ (y : ℕ). HasWidened view.call box a y) end.2 (last end.0))
          | inr more ↦ more
        ]
        in (
          widened-wide n k t.lowest,
          λ m j low is.
              let once = place-once t.node t.child m j t.below low (sym (known-now view now (Parent n) ∙ (p.on_its_way n (place t.node t.child) t.loaded).0) ∙ is) in
              subst (λ (x : ℕ). KnowsWide view box x j) once.0 (subst (λ (y : ℕ). KnowsWide view box t.node y) once.1 (widened-wide t.node t.child wide)),
        )

    leaf-closed : HasClosed view.call box first → KnowsLeafWide id.index box view
    leaf-closed closed n k below is =
        let climbed = closed n k below (sym (move.at_first (sound-now view now)) ∙ is) in
        (closed-wide n k climbed n k (here n k), λ m j low parent. closed-wide n k climbed m j (higher n k m j m j parent low (here m j)))

    all-closed : HasClosed view.call box first → HasClosed view.call box second → KnowsAllWide id.index box view
    all-closed one two n k a b location above =
        elim (location.1) [
          | inl e ↦ closed-wide n k (one n k location.0 (sym (move.at_first (sound-now view now)) ∙ e)) a b above
          | inr e ↦ closed-wide n k (two n k location.0 (sym move.at_second ∙ e)) a b above
        ]

  -- where there is no first location nothing is said of it
  leaf-none : first ≡ 0 → KnowsLeafWide id.index box view
  leaf-none none n k below is = let zero_word = sym (move.at_first (sound-now view now)) ∙ is in absurd (omega arith)

  leaf-climbing : (climb : Climb) → IsClimbing view.call box known first climb → ((climb.level ≡ 1) × (climb.side ≡ 6)) ⊎ (2 ≤ climb.level) → KnowsLeafWide id.index box view
  leaf-climbing climb climbing reached n k below is = go climb.level refl
    where
      high : 1 ≤ climb.level
      high = elim (reached) [ inl two ↦ (let one = two.0 in omega arith) | inr more ↦ (let some = more in omega arith) ]

      six : known ≡ 6
      six = elim (climbing.so_far) [ inl lowest ↦ (let none = lowest.1 in let some = high in absurd (omega arith)) | inr all ↦ all ]

      full : (level : ℕ) → climb.level ≡ suc level → level ≡ 0 → HasWidened view.call box climb.node climb.child
      full level at none q low =
          elim (reached) [
            | inl two ↦ (let all = two.1 in climbing.widened q (omega arith))
            | inr more ↦ (let some = more in absurd (omega arith))
          ]

      go : (level : ℕ) → climb.level ≡ level → KnowsWide view box n k × ((m j : ℕ) → j < 4 → known_word view (Parent n) ≡ place m j → KnowsWide view box m j)
      go zero at = let some = high in absurd (omega arith)
      go (suc level) at =
          let once = place-once climbing.node climbing.child n k climbing.below below (sym climbing.begins ∙ (sym (move.at_first (sound-now view now)) ∙ is)) in
          let way = subst (λ (l : ℕ). HasClimbedTo view.call box climbing.node climbing.child l climb.node climb.child) at climbing.way in
          two-wide six n k level climb.node climb.child
          (subst (λ (x : ℕ). HasClimbedTo view.call box x k (suc level) climb.node climb.child) once.0 (subst (λ (y : ℕ). HasClimbedTo view.call box climbing.node y (suc level) climb.node climb.child) once.1 way))
          (full level at)

-- ---- what is said

said-at : (id : Id) (target : FixBox) (steps : List LockStep) (start view : View) (widening : Widening) (now : IsCurrent view) → IsWidening id target steps start view widening → (last : ℕ) → widening_label widening ≡ Some last
    → (label : ℕ) → label ≤ last → widening_says id target view label
said-at id target steps start view (First climb later) now w last is label low =
    let none : label ≡ 0 = let small = label-low climb.level climb.side label (subst (λ (o : Option ℕ). HasReached o label) (sym is) low) in omega arith in
    subst (widening_says id target view) (sym none)
    (leaf-climbing id target steps start view w.known w.first w.second w.move now climb w.at.1 (leaf-label climb.level climb.side last is))
said-at id target steps start view (Second climb) now w last is label low =
    let none : label ≡ 0 = let zero_last = same_Some 0 last is in omega arith in
    subst (widening_says id target view) (sym none)
    (elim (w.at.1) [
      | inl no_first ↦ leaf-none id target steps start view w.known w.first w.second w.move now no_first
      | inr six ↦ leaf-closed id target steps start view w.known w.first w.second w.move now six w.at.0
    ])
said-at id target steps start view Ended now w last is zero low = leaf-closed id target steps start view w.known w.first w.second w.move now w.at.2 w.at.0
said-at id target steps start view Ended now w last is (suc label) low = all-closed id target steps start view w.known w.first w.second w.move now w.at.2 w.at.0 w.at.1

-- so after a turn
pub said : (id : Id) (target : FixBox) (steps : List LockStep) (start view : View) (before : Option ℕ) (after : Widening) (now : IsCurrent view) → IsWidening id target steps start view after
    → SaysNew before (widening_label after) (widening_says id target view)
said id target steps start view before after now w = go (widening_label after) refl
  where
    go : (reached : Option ℕ) → widening_label after ≡ reached → SaysNew before reached (widening_says id target view)
    go None is = tt
    go (Some last) is = λ label fresh low. said-at id target steps start view after now w last is label low
