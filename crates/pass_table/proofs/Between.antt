-- What others do between two steps of a pass, one after the other.
use Rattle.std.proofs.Common.{◌≡◌, List, [], ◌++◌, None, append_assoc, ap, sym, ◌∙◌, subst}
use Rattle.std.proofs.lemmas.List.{append-nil}
use Rattle.core_state.specs.declared.item.Item.{Item}
use Rattle.core_state.specs.declared.view.View.{View}
use Rattle.core_state.proofs.Quiet.{in_first, in_second, append_cut, no_cut, unknown-quiet}
use Rattle.pass_table.specs.Knowing.{IsOthers, KnowsMore}

-- nothing more is known where nothing was done
pub more-refl : (view : View) → view.joined ≡ None → KnowsMore view view
more-refl view alone = record {
  since = [];
  known = sym (append-nil view.known);
  others = λ early later item parts. absurd (no_cut item early later parts);
  rest = λ i. record view { joined = alone i };
}

-- one after the other
pub more-trans : (view mid next : View) → KnowsMore view mid → KnowsMore mid next → KnowsMore view next
more-trans view mid next one two = record {
  since = one.since ++ two.since;
  known = two.known ∙ (ap (λ (l : List Item). l ++ two.since) one.known ∙ append_assoc view.known one.since two.since);
  others = λ early later item parts.
      elim (append_cut one.since two.since early later item parts) [
        | in_first rest p ↦ one.others early rest item p
        | in_second front p q ↦
            let same : mid.known ++ front ≡ view.known ++ early =
            ap (λ (l : List Item). l ++ front) one.known ∙ (append_assoc view.known one.since front ∙ ap (λ (l : List Item). view.known ++ l) (sym p))
            in
            let later_one = subst (λ (v : View). IsOthers v (mid.known ++ front) item) one.rest (two.others front later item q) in
            let there = subst (λ (l : List Item). IsOthers (record view { known = mid.known; joined = None }) l item) same later_one in
            record { foreign = there.foreign; quiet = unknown-quiet view.config view mid.known None (view.known ++ early) item there.quiet }
      ];
  rest = two.rest ∙ ap (λ (v : View). record v { known = next.known; joined = None }) one.rest;
}
