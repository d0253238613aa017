-- What a call widened on its ways up stays widened, whatever more it does.
use Rattle.std.specs.Prelude.{Contains}
use Rattle.std.proofs.Common.{◌≡◌, ℕ, zero, suc, ◌<◌, List, ◌++◌, sym, ◌∙◌, subst, arith}
use Rattle.std.proofs.lemmas.List.Elements.{Contains-append_left}
use Rattle.word_map.specs.declared.name.Name.TheVariants.{Bound, Parent}
use Rattle.core_state.specs.declared.item.Load.{Load}
use Rattle.core_state.specs.declared.item.Store.{Store}
use Rattle.core_state.specs.declared.view.Call.{Call}
use Rattle.core_state.specs.Encoding.{Sides, place}
use Rattle.core_state.specs.Moving.{HasWidened, HasClimbed, to_root, to_parent}
use Rattle.widen_bounds.specs.stages.Widening.{HasClimbedTo, at_begin, one_up, HasClosed}
use Rattle.widen_bounds.specs.stages.Climbing.{Grows}
use Rattle.widen_bounds.proofs.WidenPlaces.{place-once}

pub grows-more : (call later : Call) (loads : List Load) (stores : List Store) → later.loads ≡ call.loads ++ loads → later.stores ≡ call.stores ++ stores → Grows call later
grows-more call later loads stores more_loads more_stores = record {
  loads = λ load among. subst (λ (l : List Load). Contains l load) (sym more_loads) (Contains-append_left call.loads loads load among);
  stores = λ store among. subst (λ (l : List Store). Contains l store) (sym more_stores) (Contains-append_left call.stores stores store among);
}

module _ (call later : Call) (box : Sides) (grows : Grows call later) where
  pub widened-grows : (n k : ℕ) → HasWidened call box n k → HasWidened later box n k
  widened-grows n k wide q low = grows.stores (record { name = Bound n k q; value = box q }) (wide q low)

  pub climbed-grows : (n k : ℕ) → HasClimbed call box n k → HasClimbed later box n k
  climbed-grows n k (to_root x y wide loaded) = to_root n k (widened-grows n k wide) (grows.loads (record { name = Parent n; value = 0 }) loaded)
  climbed-grows n k (to_parent x y m j wide below loaded more) =
      to_parent n k m j (widened-grows n k wide) below (grows.loads (record { name = Parent n; value = place m j }) loaded) (climbed-grows m j more)

  pub way-grows : (n k level a b : ℕ) → HasClimbedTo call box n k level a b → HasClimbedTo later box n k level a b
  way-grows n k zero a b at_begin = at_begin
  way-grows n k (suc level) m j (one_up l a b x y way wide below loaded) =
      one_up level a b m j (way-grows n k level a b way) (widened-grows a b wide) below (grows.loads (record { name = Parent a; value = place m j }) loaded)

  pub closed-grows : (at : ℕ) → HasClosed call box at → HasClosed later box at
  closed-grows at closed n k below is = climbed-grows n k (closed n k below is)

-- a way of no places is one of every call
pub no-way : (call later : Call) (box : Sides) (n k level a b : ℕ) → level ≡ 0 → HasClimbedTo call box n k level a b → HasClimbedTo later box n k level a b
no-way call later box n k zero a b none at_begin = at_begin
no-way call later box n k (suc level) m j none (one_up l a b x y way wide below loaded) = absurd (omega arith)

-- what is closed from a place is closed from where the way to it begins
pub whole-way : (call : Call) (box : Sides) (n k level a b : ℕ) → HasClimbedTo call box n k level a b → HasClimbed call box a b → HasClimbed call box n k
whole-way call box n k zero a b at_begin more = more
whole-way call box n k (suc level) m j (one_up l a b x y way wide below loaded) more = whole-way call box n k level a b way (to_parent a b m j wide below loaded more)

-- so the way from a location is
pub closes : (call : Call) (box : Sides) (at n k level a b : ℕ) → at ≡ place n k → k < 4 → HasClimbedTo call box n k level a b → HasClimbed call box a b → HasClosed call box at
closes call box at n k level a b is below way more m j low e =
    let once = place-once n k m j below low (sym is ∙ e) in
    subst (λ (x : ℕ). HasClimbed call box x j) once.0 (subst (λ (y : ℕ). HasClimbed call box n y) once.1 (whole-way call box n k level a b way more))

-- there is none where the word is 0
pub none-closed : (call : Call) (box : Sides) → HasClosed call box 0
none-closed call box n k below is = absurd (omega arith)
