-- How many turns the parts of a preparation have left.
use Rattle.std.proofs.Common.{◌≡◌, ◌≢◌, ℕ, suc, ◌+◌, ◌-◌, ◌*◌, ◌<◌, ◌≤◌, Bool, true, false, List, [], length, Option, Some, None, sym, subst, arith}
use Rattle.scene_model.specs.Need.{need}
use Rattle.scene_model.proofs.Needs.{need-more}
use Rattle.core_state.specs.declared.view.View.{View}
use Rattle.pass_table.specs.TakeTurns.{turns_after}
use Rattle.batch_add.specs.declared.slot_search.SlotSearch.{SlotSearch}
use Rattle.batch_add.specs.declared.node_taking.NodeStage.{NodeStage}
use Rattle.batch_add.specs.declared.node_taking.NodeStage.TheVariants.{Locking, Locked, Next, First, Linked, Taken, Leaving}
use Rattle.batch_add.specs.declared.node_taking.NodeTaking.{NodeTaking}
use Rattle.batch_add.specs.declared.giving_up.GiveStage.{GiveStage}
use Rattle.batch_add.specs.declared.giving_up.GiveStage.TheVariants.{Striping, Striped, Cleared, Unmarked, Bare, Locking as PoolLocking, Locked as PoolLocked, Next as PutNext, Headed, Linked as PutLinked, Given, Counted}
use Rattle.batch_add.specs.stages.Searching.{slot_turns, search_left}
use Rattle.batch_add.specs.stages.TakingNodes.{AtNodes, IsTakingNodes, stage_left, nodes_left}
use Rattle.batch_add.specs.stages.GivingUp.{stage_left as give_stage_left}

-- a tree over some bodies has some nodes
pub need-some : (n : ℕ) → 0 < n → 0 < need n
need-some n some = subst (λ (m : ℕ). 0 < m) (sym (need-more n some)) (omega arith)

turns-most : (o : Option ℕ) → turns_after o ≤ 2
turns-most None = omega arith
turns-most (Some word) = omega arith

-- a slot is looked at at least once
pub search-some : (operation : SlotSearch) → 0 < search_left operation
search-some operation = go operation.is_empty (2 * (length operation.words.items - suc operation.slot))
  where
    go : (b : Bool) (n : ℕ) → 0 < n + slot_turns b
    go false n = omega arith
    go true n = omega arith

-- three turns for each node at most, and five
nodes_most : (count taken : ℕ) (stage : NodeStage) → stage_left count taken stage ≤ 3 * count + 5
nodes_most count taken (Locking taking) = let most = turns-most taking.loaded in omega arith
nodes_most count taken Locked = omega arith
nodes_most count taken Next = omega arith
nodes_most count taken (First node) = omega arith
nodes_most count taken (Linked node link) = omega arith
nodes_most count taken Taken = omega arith
nodes_most count taken (Leaving answer) = omega arith

pub nodes-most : (operation : NodeTaking) → nodes_left operation ≤ 3 * operation.count + 5
nodes-most operation = nodes_most operation.count operation.taken operation.stage

-- and one at least
nodes_some : (start : View) (operation : NodeTaking) (view : View) (stage : NodeStage) → AtNodes start operation view stage → 0 < stage_left operation.count operation.taken stage
nodes_some start operation view (Locking taking) at = omega arith
nodes_some start operation view Locked at = omega arith
nodes_some start operation view Next at = omega arith
nodes_some start operation view (First node) at = omega arith
nodes_some start operation view (Linked node link) at = let short = at.0.short in omega arith
nodes_some start operation view Taken at = omega arith
nodes_some start operation view (Leaving answer) at = omega arith

pub nodes-some : (first : NodeTaking) (start : View) (operation : NodeTaking) (view : View) → IsTakingNodes first start operation view → 0 < nodes_left operation
nodes-some first start operation view taking = nodes_some start operation view operation.stage taking.stage

-- a batch without bodies and nodes is given up in a few turns
pub give-few : (stage : GiveStage) → give_stage_left 0 0 stage ≤ 11
give-few (Striping done taking) = let most = turns-most taking.loaded in omega arith
give-few (Striped done) = omega arith
give-few (Cleared done) = omega arith
give-few (Unmarked done) = omega arith
give-few Bare = omega arith
give-few (PoolLocking taking) = let most = turns-most taking.loaded in omega arith
give-few PoolLocked = omega arith
give-few (PutNext free given) = omega arith
give-few (Headed free given head) = omega arith
give-few (PutLinked free given) = omega arith
give-few (Given free) = omega arith
give-few Counted = omega arith

-- ---- one part after the other

pub nodes-after : (nodes search count wanted rest : ℕ) → nodes ≤ 3 * count + 5 → count ≡ wanted → 0 < search → nodes + rest < search + (3 * wanted + 6 + rest)
nodes-after nodes search count wanted rest most same some = omega arith

pub marks-after : (marks nodes count rest : ℕ) → marks ≤ 15 * count → 0 < nodes → marks + rest < nodes + (15 * count + rest)
marks-after marks nodes count rest most some = omega arith

pub few-after : (give nodes count wanted : ℕ) → give ≤ 11 → 0 < nodes → 0 < count → give < nodes + (15 * count + (36 * wanted + 6 * count + 9))
few-after give nodes count wanted most some bodies = omega arith

pub some-ids : {A : Type 0} (l : List A) → 0 < length l → l ≢ []
some-ids {A = A} l less none = let lost : 0 < 0 = subst (λ (m : List A). 0 < length m) none less in absurd (omega arith)
