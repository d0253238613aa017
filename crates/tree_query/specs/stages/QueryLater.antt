-- What others' steps between two turns of a query leave as it was.
use Rattle.std.proofs.Common.{ℕ, Option, Some, None}
use Rattle.core_state.specs.declared.view.View.{View}
use Rattle.pass_table.specs.Knowing.{KnowsMore}
use Rattle.tree_query.specs.declared.checks.Checks.{Checks}
use Rattle.tree_query.specs.declared.finder.Finder.{Finder}
use Rattle.tree_query.specs.declared.query_op.QueryOp.{QueryOp}
use Rattle.tree_query.specs.declared.walk.Walk.{Walk}
use Rattle.tree_query.specs.stages.AllChecks.{going}
use Rattle.tree_query.specs.stages.AllChecksLater.{checks-later}
use Rattle.tree_query.specs.stages.CollectTurns.{room_kept}
use Rattle.tree_query.specs.stages.QueryStages.{IsQueryWith, IsQueryGoing}
use Rattle.tree_query.specs.stages.WalkLater.{walking-later}

module _ (room : ℕ) (first : Walk) (start : View) (walk : Walk) (checks : Checks) (view next : View) (more : KnowsMore view next) where
  pub query-later : (finder : Option Finder) → IsQueryWith room first start walk checks finder view → IsQueryWith room first start walk checks finder next
  query-later None way = absurd way
  query-later (Some finder) way = record {
    rest = way.rest;
    walks = λ on.
        let was = way.walks on in
        record { goes = walking-later room first start walk finder view next more was.goes; next = was.next; none = was.none };
    checked = λ ended.
        let was = way.checked ended in
        record {
          plan = was.plan;
          mid = was.mid;
          found = was.found;
          roomy = was.roomy;
          collected = was.collected;
          fresh = was.fresh;
          goes = checks-later walk.shape walk.mask (going was.fresh was.found) was.mid (going checks finder) view next more was.goes;
        };
  }

pub querying-later : (first : QueryOp) (start : View) (operation : QueryOp) (view next : View) → KnowsMore view next → IsQueryGoing first start operation view → IsQueryGoing first start operation next
querying-later first start operation view next more way = query-later (room_kept first.finder) first.walk start operation.walk operation.checks view next more operation.finder way
