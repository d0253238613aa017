-- Six words that are a box pass the test of a query where they contain a box that touches its shape.
use Rattle.std.proofs.Common.{◌≡◌, ℕ, List, [], ◌∷◌, length, true, sym, subst, arith}
use Rattle.std.specs.Prelude.{IsTrue, IsSomeAnd, Option, Some, None}
use Rattle.std.proofs.lemmas.Bool.{and_from}
use Rattle.fixed_box.specs.FixBox.{words_of, contains}
use Rattle.fixed_box.specs.Touch.{Touch}
use Rattle.fixed_box.specs.declared.fix_box.FixBox.{FixBox}
use Rattle.fixed_box.proofs.Order.{at_most_from_axes}
use Rattle.fixed_box.proofs.Shapes.{Touch-outward}
use Rattle.fixed_box.proofs.Words.{on_axis_in_range, le_from_words}
use Rattle.scene_model.specs.Scene.{Record, record_at}
use Rattle.scene_model.specs.History.{IsDue, point}
use Rattle.core_state.specs.declared.view.Walk.{Walk}
use Rattle.core_state.specs.Encoding.{Sides, sides_of, IsBox, Covers}
use Rattle.core_state.specs.Scope.{Sight}
use Rattle.core_state.specs.Space.{HadSince}
use Rattle.core_state.specs.Walking.{Query}
use Rattle.core_state.specs.WalksLead.{since_begun}
use Rattle.core_state.proofs.Queries.{box_of}

-- the box of six words
six-box : (l : List ℕ) → length l ≡ 6 → IsBox (sides_of l) → (b : FixBox) × (words_of b ≡ l)
six-box (a ∷ b ∷ c ∷ d ∷ e ∷ f ∷ []) long h = box_of a b c d e f (h 0 (omega arith)) (h 1 (omega arith)) (h 2 (omega arith))
six-box l long h = absurd (omega arith)

-- of two boxes the one contains the other where its words do
contains-words : (outer inner : FixBox) → Covers (sides_of (words_of outer)) (sides_of (words_of inner)) → IsTrue (contains outer inner)
contains-words outer inner h =
    let x = h 0 (omega arith) in
    let y = h 1 (omega arith) in
    let z = h 2 (omega arith) in
    let low = λ (i : ℕ). le_from_words _ _ (on_axis_in_range outer.lo i) (on_axis_in_range inner.lo i) in
    let high = λ (i : ℕ). le_from_words _ _ (on_axis_in_range inner.hi i) (on_axis_in_range outer.hi i) in
    and_from _ _ (at_most_from_axes outer.lo inner.lo (low 0 x.0, low 1 y.0, low 2 z.0)) (at_most_from_axes inner.hi outer.hi (high 0 x.1, high 1 y.1, high 2 z.1))

-- the box of six words touches the shape, and passes the test
pub record Passes (query : Query) (l : List ℕ) : Type 0 where
  pub box : FixBox
  pub words : words_of box ≡ l
  pub touch : Touch query.shape box
  pub test : query.test l ≡ true

pub six-pass : (query : Query) (l : List ℕ) → length l ≡ 6 → IsBox (sides_of l) → (inner : FixBox) → Touch query.shape inner → Covers (sides_of l) (sides_of (words_of inner)) → Passes query l
six-pass query l long box inner touch covers =
    let made = six-box l long box in
    let outward = Touch-outward query.shape made.0 inner (contains-words made.0 inner (subst (λ (w : List ℕ). Covers (sides_of w) (sides_of (words_of inner))) (sym made.1) covers)) touch in
    record { box = made.0; words = made.1; touch = outward; test = (query.tests l).1 (made.0, made.1, outward) }

-- ---- what a body had that has fitted since

-- two facts of what is there are of the same
both-of : (o : Option Record) (P Q : Record → Type 0) → IsSomeAnd o P → IsSomeAnd o Q → (r : Record) × P r × Q r
both-of None P Q p q = absurd p
both-of (Some r) P Q p q = (r, p, q)

-- each box that it had touches the shape
pub due-touches : (s : Sight) (walk : Walk) (query : Query) (index generation : ℕ) → IsDue (Touch query.shape) query.mask s.config.bodies (since_begun s walk) index generation
    → (box : Sides) → HadSince s walk.from index box → (inner : FixBox) × Touch query.shape inner × (box ≡ sides_of (words_of inner))
due-touches s walk query index generation due box had =
    let t = both-of (record_at (point s.config.bodies s.history had.0) index) _ _ (due had.0 had.1 had.2) had.3 in
    (t.0.bounds, t.1.1.2, t.2)
