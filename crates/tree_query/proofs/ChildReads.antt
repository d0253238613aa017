-- A child that was read with its bound: its word is small.
use Rattle.std.proofs.Common.{◌≡◌, ◌≢◌, ℕ, ◌-◌, ◌<◌, ◌≤◌, ◌^◌, List, Bool, true, arith, inl, inr}
use Rattle.std.specs.Prelude.{◌%◌, ◌/◌}
use Rattle.std.proofs.lemmas.Bool.{cases_eq}
use Rattle.fixed_box.specs.declared.shape.Shape.{Shape}
use Rattle.word_map.specs.Limits.{IsConfig}
use Rattle.word_map.specs.declared.name.Name.{Name}
use Rattle.word_map.specs.declared.name.Name.TheVariants.{Child}
use Rattle.core_state.specs.declared.view.Waiting.{Waiting}
use Rattle.core_state.specs.declared.view.View.{View}
use Rattle.pass_table.specs.Bodies.{IsCurrent}
use Rattle.tree_query.specs.declared.finder.Finder.{Finder}
use Rattle.tree_query.specs.Walking.{WalksOn}
use Rattle.tree_query.specs.Collecting.{Trip, IsOnTrip, IsAtChild, bound_place, HasReadBound}
use Rattle.tree_query.proofs.Kept.{to-bound, child-body, child-node}

-- whatever walk it is, the bound of the child was read so
abbrev pub ReadsBound : Shape → View → View → ℕ → ℕ → Bool → Type 0
ReadsBound shape mid next n k touches =
    (trip : Trip) (rest : List Name) (stack : List Waiting) (level x : ℕ) → trip.query.shape ≡ shape → IsOnTrip trip mid (bound_place rest stack n level k x)
    → HasReadBound trip mid next rest stack n level k x touches

module _ (trip : Trip) (rest : List Name) (shape : Shape) (finder : Finder) (nodes : List ℕ) (view : View) (n k : ℕ) (low : k < 4) (h : IsAtChild trip rest shape finder nodes view n k) (mid : View) (x : ℕ)
    (step : WalksOn view mid (Child n k) x) (some : x ≢ 0) (next : View) (touches : Bool) where
  pub bound-of : ReadsBound shape mid next n k touches → HasReadBound trip mid next rest h.1 n h.0 k x touches
  bound-of reads = reads trip rest h.1 h.0 x h.3.asks (to-bound trip rest shape finder nodes view n k low h mid x step some).on

  -- the word of one that touches is small
  pub word-small : ReadsBound shape mid next n k touches → ∥ IsCurrent mid ∥₁ → ∥ IsCurrent next ∥₁ → IsConfig mid.config → IsConfig next.config → touches ≡ true → x ≤ 2 ^ 33
  word-small reads here there limits later touched = elim (cases_eq (x % 2) 0) [
    | inl even ↦
        let node = child-node trip rest shape finder nodes view n k low h mid x step some next touches (bound-of reads) there touched ((x - 2) / 2) (omega arith) in
        let nodes = later.nodes.1 in
        let bodies = later.bodies.1 in
        omega arith
    | inr odd ↦
        let body = child-body trip rest shape finder nodes view n k low h mid x step some here ((x - 1) / 2) (omega arith) in
        let bodies = limits.bodies.1 in
        omega arith
  ]
