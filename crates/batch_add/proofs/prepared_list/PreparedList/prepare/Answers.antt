use Rattle.std.proofs.Common.{◌≡◌, List, [], ◌∷◌, ◌++◌, map, ap, sym, ◌∙◌, subst}
use Rattle.pass_table.specs.Belongings.{belongings_of}
use Rattle.pass_table.specs.Passes.{view_of}
use Rattle.batch_add.specs.declared.prepared.Prepared.{Prepared}
use Rattle.batch_add.specs.declared.prepared_list.KeptPrepared.{KeptPrepared}
use Rattle.batch_add.specs.PreparedLists.{batches_of, AllGood}
use Rattle.batch_add.proofs.PreparedLists.{all-push}
use Rattle.batch_add.proofs.prepared_list.PreparedList.prepare.Goals as goal

-- the same list has the same batches before a further one
behind : (batch : Prepared) (kept before : List KeptPrepared) → kept ≡ before → map (λ k. k.batch) kept ++ batch ∷ [] ≡ map (λ k. k.batch) before ++ batch ∷ []
behind batch kept before same = ap (λ (l : List KeptPrepared). map (λ k. k.batch) l ++ batch ∷ []) same

pub returns-clause-prepared : goal.returns-clause-prepared
returns-clause-prepared g c =
    let batch = c.in_ok-batch.batch in (
      batch,
      c.put.ensures.kept ∙ behind batch c.reserve.new.self.items c.args.self.now.batches.items c.reserve.ensures.items,
      c.in_ok-batch.ensures.answers,
    )

pub returns-clause-good : goal.returns-clause-good
returns-clause-good g c =
    let has = belongings_of (view_of c.prepare.new.pass) in
    let list = c.args.self.now in
    let batch = c.in_ok-batch.batch in
    subst (λ (l : List Prepared). AllGood l has) (sym (c.put.ensures.kept ∙ behind batch c.reserve.new.self.items list.batches.items c.reserve.ensures.items))
    (all-push batch (batches_of list) has (c.in_ok-batch.ensures.lists list c.requires.good) c.in_ok-batch.ensures.good (c.in_ok-batch.ensures.listed list c.requires.good))
