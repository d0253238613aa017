-- The table allows that seats are opened, cut and joined.
use Rattle.std.proofs.Common.{◌≡◌, ℕ, suc, ◌+◌, ◌-◌, ◌<◌, arith, set, refl, ap, sym, ◌∙◌, subst}
use lib.ListN.{get_elem?}
use mathlib.Core.Option.{some}
use Rattle.atomic_table.specs.Table.{Splits, Joins}
use Rattle.word_map.specs.declared.config.Config.{Config}
use Rattle.word_map.specs.Layout.{word_count}
use Rattle.core_state.specs.declared.view.Role.TheVariants.{Pass, Visitor}
use Rattle.core_state.specs.declared.view.View.{View}
use Rattle.core_state.specs.View.{IsPass, blank_view}
use Rattle.core_state.specs.Core.{Core}
use Rattle.core_state.specs.Seats.{after_split, visitor_of, joined_view, spent_view}
use Rattle.core_state.specs.Event.{opens_pass, splits_visitor, joins_visitor}
use Rattle.core_state.proofs.Lookups.{set_else}
use Rattle.pass_table.specs.Standing.{core_of, IsRuled}
use Rattle.pass_table.specs.Seating.{own_view, next_view}
use Rattle.pass_table.proofs.Keeping.{Stands-event}

module _ {S : Type 0} (c : Config) (id : ℕ) where
  pub opens-allowed : (number further : ℕ) → Splits (IsRuled {S = S} c) id (blank_view c (Pass number (suc further))) (blank_view c (Pass number 0)) (blank_view c (Pass (suc number) further))
  opens-allowed number further s ruled at =
      let core = core_of c ruled.log s.views in
      let after = after_split core id (blank_view c (Pass number 0)) (blank_view c (Pass (suc number) further)) in
      record {
        log = ruled.log;
        words = ruled.words;
        stands = Stands-event core after (opens_pass (record { seat = id; number = number; further = further; at = at; result = refl })) ruled.stands;
      }

  pub visits-allowed : (view : View) (number : ℕ) → IsPass view number → Splits (IsRuled {S = S} c) id view view (visitor_of view)
  visits-allowed view number pass s ruled at =
      let core = core_of c ruled.log s.views in
      record {
        log = ruled.log;
        words = ruled.words;
        stands = Stands-event core (after_split core id view (visitor_of view)) (splits_visitor (record { seat = id; number = number; view = view; at = at; pass = pass; result = refl })) ruled.stands;
      }

  pub joins-allowed : (view visitor : View) (other number : ℕ) → IsPass view number → visitor.role ≡ Visitor → Joins (IsRuled {S = S} c) id view other visitor (joined_view view visitor) spent_view
  joins-allowed view visitor other number pass visits s ruled at apart other_at =
      let core = core_of c ruled.log s.views in
      let after : Core = record core { views = set (set s.views id (joined_view view visitor)) other spent_view } in
      let at_other : get_elem? s.views other ≡ some visitor = sym (set_else s.views id other (joined_view view visitor) apart) ∙ other_at in
      record {
        log = ruled.log;
        words = ruled.words;
        stands = Stands-event core after
            (joins_visitor (record { seat = id; other = other; number = number; view = view; visitor = visitor; at = at; pass = pass; apart = apart; other_at = at_other; visits = visits; result = refl })) ruled.stands;
      }

-- a table has words
pub words-some : (c : Config) (words : ℕ) → words ≡ word_count c → 0 < words
words-some c words same = omega arith

-- the seat that has all numbers from one on may be cut
pub opens-view : {S : Type 0} (key c : Config) (id number : ℕ) (view : View) → key ≡ c → number + 1 < c.passes → view ≡ blank_view c (Pass number (c.passes - 1 - number))
    → Splits (IsRuled {S = S} key) id view (own_view view) (next_view view)
opens-view {S} key c id number view keyed more same =
    let further = c.passes - 2 - number in
    let left : c.passes - 1 - number ≡ suc further = omega arith in
    let rest : further ≡ suc further - 1 = omega arith in
    let blank = blank_view c (Pass number (suc further)) in
    subst (λ (v : View). Splits (IsRuled {S = S} key) id v (own_view v) (next_view v)) (sym (same ∙ ap (λ (k : ℕ). blank_view c (Pass number k)) left))
    (subst (λ (d : Config). Splits (IsRuled {S = S} d) id blank (blank_view c (Pass number 0)) (blank_view c (Pass (suc number) (suc further - 1)))) (sym keyed)
    (subst (λ (k : ℕ). Splits (IsRuled {S = S} c) id blank (blank_view c (Pass number 0)) (blank_view c (Pass (suc number) k))) rest (opens-allowed c id number further)))
