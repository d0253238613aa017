-- What stays good of several batches.
use Rattle.std.proofs.Common.{◌≡◌, ℕ, ◌+◌, ◌<◌, inl, inr, List, [], ◌∷◌, ◌++◌, length, get_or, All, Result, Ok, Err, IfOk, sym, ◌∙◌, subst, arith}
use Rattle.std.specs.List.{remove}
use Rattle.std.proofs.lemmas.Bool.{cases_lt}
use Rattle.std.proofs.lemmas.List.{get_or_default}
use Rattle.std.proofs.lemmas.List.Edits.{length-remove, get_or-remove_below, get_or-remove_above}
use Rattle.std.proofs.lemmas.List.Elements.{All-nil, All-cons, All-append}
use Rattle.std.proofs.lemmas.List.Quantifiers.{all_pairs_push, all_pairs_remove}
use Rattle.core_state.specs.declared.view.View.{View}
use Rattle.pass_table.specs.Belongings.{Belongings, belongings_of}
use Rattle.batch_add.specs.declared.answers.PrepareRefused.{PrepareRefused}
use Rattle.batch_add.specs.declared.prepared.Prepared.{Prepared}
use Rattle.batch_add.specs.declared.prepared_list.PreparedList.{PreparedList}
use Rattle.batch_add.specs.Prepared.{IsGood, IsGoodIn, IsApart}
use Rattle.batch_add.specs.PreparedLists.{batches_of, AreGood, IsBeside, AllGood, AllApart}

-- where each batch that was good is good still
pub all-kept : (batches : List Prepared) (has now : Belongings) → ((other : Prepared) → IsGoodIn other has → IsGoodIn other now) → AllGood batches has → AllGood batches now
all-kept batches has now kept good = record { each = λ k d below. kept (get_or batches k d) (good.each k d below); apart = good.apart }

-- but for those that are for the slot of one
pub all-others : (batch : Prepared) (batches : List Prepared) (has now : Belongings) → ((other : Prepared) → IsGoodIn other has → IsApart other batch → IsGoodIn other now)
    → AllGood batches has → AllApart batch batches → AllGood batches now
all-others batch batches has now others good beside = record { each = λ k d below. others (get_or batches k d) (good.each k d below) (beside.each k d below); apart = good.apart }

-- a batch that is for another slot than each that is good
pub all-apart : (batch : Prepared) (batches : List Prepared) (has : Belongings) → ((other : Prepared) → IsGoodIn other has → IsApart other batch) → AllGood batches has → AllApart batch batches
all-apart batch batches has apart good = record { each = λ k d below. apart (get_or batches k d) (good.each k d below) }

-- and of each list of such
pub listed-beside : (start : View) (answer : Result Prepared PrepareRefused) → IfOk answer (λ batch. (other : Prepared) → IsGood other start → IsApart other batch)
    → IfOk answer (λ batch. (list : PreparedList) → AreGood list start → IsBeside batch list)
listed-beside start (Ok batch) apart = λ list. all-apart batch (batches_of list) (belongings_of start) apart
listed-beside start (Err refused) apart = tt

-- one more
pub all-push : (batch : Prepared) (batches : List Prepared) (has : Belongings) → AllGood batches has → IsGoodIn batch has → AllApart batch batches → AllGood (batches ++ batch ∷ []) has
all-push batch batches has good one beside = record {
  each = All-append (λ b. IsGoodIn b has) batches (batch ∷ []) good.each (All-cons (λ b. IsGoodIn b has) batch [] one (All-nil (λ b. IsGoodIn b has)));
  apart = all_pairs_push IsApart batches batch good.apart beside.each;
}

-- ---- one less

module _ (batches : List Prepared) (place : ℕ) (within : place < length batches) where
  -- each of the others was before it or after it
  pub each-left : (P : Prepared → Type 0) → ((k : ℕ) (d : Prepared) → k < place → P (get_or batches k d)) → ((k : ℕ) (d : Prepared) → place < k → k < length batches → P (get_or batches k d))
      → All P (remove batches place)
  each-left P before after k d below =
      elim (cases_lt k place) [
        | inl less ↦ subst P (sym (get_or-remove_below batches place d k less within)) (before k d less)
        | inr more ↦
            let fewer = length-remove batches place within in
            subst P (sym (get_or-remove_above batches place d k more within)) (after (k + 1) d (omega arith) (omega arith))
      ]

  module _ (has : Belongings) (good : AllGood batches has) where
    pub good-left : AllGood (remove batches place) has
    good-left = record {
      each = each-left (λ b. IsGoodIn b has) (λ k d less. good.each k d (omega arith)) (λ k d more below. good.each k d below);
      apart = all_pairs_remove IsApart batches place within good.apart;
    }

    -- the one that is taken out is good, and beside the others
    module _ (taken : Prepared) (is : taken ≡ get_or batches place taken) where
      pub good-taken : IsGoodIn taken has
      good-taken = subst (λ (b : Prepared). IsGoodIn b has) (sym is) (good.each place taken within)

      turned : (a b : Prepared) → IsApart a b → IsApart b a
      turned a b apart = record { slots = λ same. apart.slots (sym same.0, sym same.1) }

      -- a place holds the same whatever stands for one past the end
      pub apart-left : AllApart taken (remove batches place)
      apart-left = record {
        each =
            each-left (λ b. IsApart b taken)
            (λ k d less. subst (λ (b : Prepared). IsApart (get_or batches k d) b) (sym (is ∙ get_or_default batches place taken d within)) (good.apart k place d less within))
            (λ k d more below. turned taken (get_or batches k d) (subst (λ (b : Prepared). IsApart b (get_or batches k d)) (sym (is ∙ get_or_default batches place taken d within)) (good.apart place k d more below)));
      }
