-- What others' steps between two turns leave of a walk.
use Rattle.std.specs.Prelude.{◌≡◌, ◌⊎◌, ℕ}
use Rattle.std.proofs.Common.{inl, inr, sym, subst}
use Rattle.core_state.specs.declared.view.View.{View}
use Rattle.pass_table.specs.Knowing.{KnowsMore}
use Rattle.pass_table.proofs.Between.{more-trans}
use Rattle.tree_query.specs.declared.finder.Finder.{Finder}
use Rattle.tree_query.specs.declared.walk.Walk.{Walk}
use Rattle.tree_query.specs.stages.WalkTurns.{IsWalkGoing}

-- it was so after its last turn, and since then the pass may have come to know more
pub record IsWalkingSince (room : ℕ) (first : Walk) (start : View) (walk : Walk) (finder : Finder) (view : View) : Type 0 where
  pub mid : View
  pub goes : IsWalkGoing room first start walk finder mid
  pub since : (mid ≡ view) ⊎ KnowsMore mid view

pub walking-later : (room : ℕ) (first : Walk) (start : View) (walk : Walk) (finder : Finder) (view next : View) → KnowsMore view next → IsWalkingSince room first start walk finder view
    → IsWalkingSince room first start walk finder next
walking-later room first start walk finder view next more h = record {
  mid = h.mid;
  goes = h.goes;
  since =
      inr (elim h.since [
        | inl same ↦ subst (λ (v : View). KnowsMore v next) (sym same) more
        | inr past ↦ more-trans h.mid view next past more
      ]);
}
