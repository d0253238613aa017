use Rattle.std.proofs.Common.{List, suc, take, drop, map, ap, sym, ◌∙◌, ◌++◌, subst, ◌<◌, length, arith}
use Rattle.std.proofs.lemmas.List.{map-append, take-map, drop-map, length-map, get_or-map}
use Rattle.std.proofs.lemmas.List.Edits.{length-remove}
use Rattle.pass_table.specs.Belongings.{belongings_of}
use Rattle.batch_add.specs.declared.prepared.Prepared.{Prepared}
use Rattle.batch_add.specs.declared.prepared_list.KeptPrepared.{KeptPrepared}
use Rattle.batch_add.specs.PreparedLists.{batches_of, AllGood, AllApart}
use Rattle.batch_add.proofs.PreparedLists.{good-taken, good-left, apart-left}
use Rattle.batch_add.proofs.prepared_list.PreparedList.take.Goals as goal

pub returns-clause-others : goal.returns-clause-others
returns-clause-others c =
    let kept = c.args.self.now.batches.items in
    let batch = λ (k : KeptPrepared). k.batch in
    ap (map batch) c.remove.ensures.items
    ∙ (map-append batch (take c.args.place kept) (drop (suc c.args.place) kept)
    ∙ (λ i. sym (take-map batch c.args.place kept) i ++ sym (drop-map batch (suc c.args.place) kept) i))

pub returns-clause-count : goal.returns-clause-count
returns-clause-count c =
    let same = ap (λ (l : List Prepared). length l) (returns-clause-others c) in
    let fewer = length-remove (batches_of c.args.self.now) c.args.place c.requires.there in
    omega arith

pub returns-clause-taken : goal.returns-clause-taken
returns-clause-taken c =
    let kept = c.args.self.now.batches.items in
    let batch = λ (k : KeptPrepared). k.batch in
    let there = c.requires.there in
    let within : c.args.place < length kept = omega (arith, length-map kept batch) in
    c.into_batch.ensures ∙ (ap batch c.remove.ensures.value ∙ sym (get_or-map batch kept c.args.place c.remove.result c.into_batch.result within))

pub returns-clause-good : goal.returns-clause-good
returns-clause-good c view good = good-taken (batches_of c.args.self.now) c.args.place c.requires.there (belongings_of view) good c.into_batch.result (returns-clause-taken c)

pub returns-clause-left : goal.returns-clause-left
returns-clause-left c view good =
    subst (λ (l : List Prepared). AllGood l (belongings_of view)) (sym (returns-clause-others c)) (good-left (batches_of c.args.self.now) c.args.place c.requires.there (belongings_of view) good)

pub returns-clause-beside : goal.returns-clause-beside
returns-clause-beside c view good =
    subst (AllApart c.into_batch.result) (sym (returns-clause-others c))
    (apart-left (batches_of c.args.self.now) c.args.place c.requires.there (belongings_of view) good c.into_batch.result (returns-clause-taken c))
