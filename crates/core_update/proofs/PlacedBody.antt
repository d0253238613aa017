-- A body that an update is to place: its box is what its words say, and the place that is planned for it is in a new tree.
use Rattle.std.proofs.Common.{◌≡◌, ℕ, zero, suc, ◌<◌, ◌≤◌, refl, sym, subst, inl, inr, arith}
use Rattle.std.specs.Prelude.{slice_index}
use Rattle.std.proofs.lemmas.Bool.{cases_eq}
use Rattle.fixed_box.specs.FixBox.{words_of}
use Rattle.fixed_box.specs.declared.fix_box.FixBox.{FixBox}
use Rattle.fixed_box.proofs.Words.{on_axis_in_range, word_of-range}
use Rattle.word_map.specs.declared.config.Config.{Config}
use Rattle.word_map.specs.declared.name.Name.TheVariants.{BoxWord}
use Rattle.word_map.specs.Names.{stripe_of}
use Rattle.core_state.specs.declared.view.Mode.TheVariants.{Write}
use Rattle.core_state.specs.declared.view.Task.{Task}
use Rattle.core_state.specs.declared.view.Task.TheVariants.{Nothing, Moving, Placing}
use Rattle.core_state.specs.declared.view.View.{View}
use Rattle.core_state.specs.View.{Holds}
use Rattle.core_state.specs.Core.{Core, word_of, IsViewAt}
use Rattle.core_state.specs.Encoding.{place}
use Rattle.core_state.specs.Kind.{Kind, Step}
use Rattle.core_state.specs.Nodes.{made}
use Rattle.core_state.specs.Bodies.{HasWholeBox, IsBetweenBoxes, MovesBody}
use Rattle.core_state.specs.BodiesAgree.{body_scope}
use Rattle.core_state.specs.Placing.{IsToPlace}
use Rattle.core_state.specs.Scope.{sight}
use Rattle.core_guard.proofs.BodyTouch.{stripe-others}
use Rattle.core_guard.proofs.Leaving.{Acts, IsHandled}
use Rattle.core_guard.proofs.Seats.{has-seat}
use Rattle.core_guard.proofs.Settled.{sound}
use Rattle.core_state.proofs.Lookups.{at_one}
use Rattle.core_update.proofs.OwnNotes.{body, planned-at}

-- sides of boxes are words of coordinates
pub side-range : (bounds : FixBox) (side : ℕ) → side < 6 → (1 ≤ slice_index (words_of bounds) side) × (slice_index (words_of bounds) side ≤ 16777216)
side-range bounds zero below = word_of-range _ (on_axis_in_range bounds.lo 0)
side-range bounds (suc zero) below = word_of-range _ (on_axis_in_range bounds.lo 1)
side-range bounds (suc (suc zero)) below = word_of-range _ (on_axis_in_range bounds.lo 2)
side-range bounds (suc (suc (suc zero))) below = word_of-range _ (on_axis_in_range bounds.hi 0)
side-range bounds (suc (suc (suc (suc zero)))) below = word_of-range _ (on_axis_in_range bounds.hi 1)
side-range bounds (suc (suc (suc (suc (suc zero))))) below = word_of-range _ (on_axis_in_range bounds.hi 2)
side-range bounds (suc (suc (suc (suc (suc (suc side)))))) below = absurd (omega arith)

moves-handles : (task : Task) (i : ℕ) → MovesBody task i → IsHandled task i
moves-handles (Moving index target) i h = h
moves-handles _ i h = absurd h

-- the pass does nothing, or places the body
pub data PlacesOnly (task : Task) (index : ℕ) : Type 0 where
  nothing_yet : task ≡ Nothing → PlacesOnly task index
  places_it : task ≡ Placing index → PlacesOnly task index

pub places-so : (P : Task → Type 0) (task : Task) (index : ℕ) → P Nothing → P (Placing index) → PlacesOnly task index → P task
places-so P task index idle places (nothing_yet e) = subst P (sym e) idle
places-so P task index idle places (places_it e) = subst P (sym e) places

module _ (core : Core) (step : Step) (a : Acts core step) (index : ℕ) (p : IsToPlace step.view index) (only : PlacesOnly step.view.call.task index) where
  abbrev pub i : ℕ
  i = p.noted.index

  pub stripe : Holds step.view (stripe_of core.config i) Write
  stripe = subst (λ (c : Config). Holds step.view (stripe_of c i) Write) (sound core step a).config p.as_noted.settled.stripe

  -- nobody gives it another box
  whole : (kind : Kind) → HasWholeBox (sight body_scope core) i
  whole kind number h =
      let from = has-seat body_scope (λ k v. refl) core number (λ v. IsBetweenBoxes v i) h in
      elim (cases_eq from.seat step.seat) [
        | inl same ↦
            let one : step.view ≡ from.view = at_one core.views step.seat step.view from.view a.at (subst (λ (k : ℕ). IsViewAt core k from.view) same from.at) in
            places-so (λ t. ¬ MovesBody t i) step.view.call.task index (λ no. no) (λ no. no) only (subst (λ (v : View). MovesBody v.call.task i) (sym one) from.holds.0)
        | inr apart ↦ stripe-others kind core step a i stripe from.seat number from.view apart from.at from.pass (moves-handles from.view.call.task i from.holds.0)
      ]

  -- so its words are those of its box
  pub box-words : (kind : Kind) (q : ℕ) → q < 6 → word_of core (BoxWord i q) ≡ slice_index (words_of (body core step a index p).0.bounds) q
  box-words kind q below = let b = body core step a index p in (a.laws.bodies.live i b.0 b.1).bounds (whole kind) q below

  pub planned-home : (n k : ℕ) → k < 4 → p.noted.place ≡ place n k → a.laws.nodes.home n ≡ made step.number p.noted.layer
  planned-home n k below at =
      let t = planned-at core step a index p p.noted p.among in
      let same : t.node ≡ n = let e = t.at in let low = t.below in omega arith in
      subst (λ (x : ℕ). a.laws.nodes.home x ≡ made step.number p.noted.layer) same t.made_for
