-- What each turn of taking nodes leaves.
use Rattle.std.specs.Prelude.{Result, Ok, Err}
use Rattle.std.proofs.Common.{◌≡◌, ◌≢◌, ℕ, zero, suc, ◌+◌, ◌-◌, ◌*◌, ◌<◌, ◌≤◌, List, [], ◌∷◌, ◌++◌, Bool, true, false, Option, Some, None, cond, eqb, length, take, get_or, append_assoc, inl, refl, ap, sym, ◌∙◌, subst, arith}
use Rattle.std.proofs.lemmas.Bool.{eqb-true, eqb-false}
use Rattle.std.proofs.lemmas.List.{take_all}
use Rattle.std.proofs.lemmas.Grind.{take-set_at}
use Rattle.word_map.specs.declared.config.Config.{Config}
use Rattle.word_map.specs.declared.name.Name.{Name}
use Rattle.word_map.specs.declared.name.Name.TheVariants.{Lock, PoolHead, PoolFree}
use Rattle.word_map.specs.Names.{pool_lock}
use Rattle.core_state.specs.declared.item.Item.{Item}
use Rattle.core_state.specs.declared.view.Mode.{Mode}
use Rattle.core_state.specs.declared.view.Mode.TheVariants.{Write}
use Rattle.core_state.specs.declared.view.LockStep.TheVariants.{Taken as TakenStep, Released}
use Rattle.core_state.specs.declared.view.Task.TheVariants.{Nothing}
use Rattle.core_state.specs.declared.view.Batch.{Batch}
use Rattle.core_state.specs.declared.view.View.{View}
use Rattle.core_state.specs.Log.{word, IsPrefix}
use Rattle.core_state.specs.View.{IsPass, number_in, known_word, mode_of}
use Rattle.core_state.specs.Quietly.{IsSteady}
use Rattle.core_state.specs.Event.{loads_list, stores_pool_head, stores_pool_count, of_lists, of_pool}
use Rattle.core_state.specs.Lists.{MayLoadList, load_list}
use Rattle.core_state.specs.NodesInOnePlace.{IsPooling}
use Rattle.core_state.specs.Pool.{IsPoolTask, HasPool, TakesNode, MayStorePoolHead, store_pool_head, one_taken, MayStorePoolCount, store_pool_count}
use Rattle.core_state.specs.Batches.{change_newest}
use Rattle.core_state.specs.Locking.{MayRelease, release}
use Rattle.core_state.proofs.Quiet.{steady-since}
use Rattle.pass_table.specs.declared.take_op.TakeOp.{TakeOp}
use Rattle.pass_table.specs.declared.turn.Turn.{Turn}
use Rattle.pass_table.specs.declared.turn.Turn.TheVariants.{Done, More, Again}
use Rattle.pass_table.specs.Stepping.{Stepped}
use Rattle.pass_table.specs.TakeTurns.{taking_of, IsTaking, HasTaken, turns_left}
use Rattle.pass_table.specs.Turning.{AtMostOneStep, MadeBy, Turned, LoadsNow, GoesOn, Answers, IsUnderWay}
use Rattle.pass_table.specs.Holding.{MayLetGo, LetGo, IsAtRest}
use Rattle.pass_table.specs.Calls.{StoresWord}
use Rattle.pass_table.proofs.Knowing.{known-more, step-alone}
use Rattle.pass_table.proofs.TakingTurns.{taking-anew}
use Rattle.pass_table.proofs.Turning.{one-step, made-by-step}
use Rattle.pass_table.proofs.Calling.{point-now, point-later, stepped-sizes, stored-made, word-beside, released-step, released-made, turned-more, turned-again}
use Rattle.free_list.specs.Pool.{taken_in, given_in, LoadedPoolHead, LoadedPoolLink, LoadedCount, TookNode, StoredCount}
use Rattle.batch_add.specs.declared.node_taking.NodeStage.{NodeStage}
use Rattle.batch_add.specs.declared.node_taking.NodeStage.TheVariants.{Locking, Locked, Next, First, Linked, Taken, Leaving}
use Rattle.batch_add.specs.declared.node_taking.NodeTaking.{NodeTaking}
use Rattle.pass_table.specs.Work.{Work, begun, with_lock, HasWorked, HasDone, outcome_of}
use Rattle.pass_table.proofs.WorkLater.{worked-sizes, worked-pass, worked-batches, worked-loose, worked-written, worked-more}
use Rattle.batch_add.specs.Parts.{with_nodes, StoresFrom, IsNewest, HasNodes, FoundFewNodes}
use Rattle.batch_add.specs.stages.TakingNodes.{with_more, pooling, pool_step, locked_work, taking_work, counted_work, HasTakenSome, IsFirstNode, AtEnd, AtNodes, IsTakingNodes, IsNodesAnswer, HasTakenNodes, stage_left, nodes_left, IsNodesTurn, HasNotedNode, pool-locked, pool-steady, from-later, some-later, first-later, nodes_takes, takes_at}
use Rattle.pass_table.proofs.Working.{worked-begun, worked-waited, worked-taken, worked-released, worked-told, worked-untold, worked-done}
use Rattle.batch_add.proofs.TakenNodes.{some-newest, newest-some, with-none, with-one, with-some, with-newest, taken-distinct, taken-others, taken-below}

-- ---- turns

-- a turn after which there is more to do
pub nodes-on : (before after : NodeTaking) (stage : NodeStage) (view next : View) → before.stage ≡ stage → after.count ≡ before.count → length after.nodes.items ≡ length before.nodes.items
    → AtMostOneStep view next → MadeBy view next None → nodes_left after < stage_left before.count before.taken stage → LoadsNow view next (nodes_takes after)
    → ((first : NodeTaking) (start : View) → IsTakingNodes first start before view → AtNodes start before view stage → AtNodes start after next after.stage) → IsNodesTurn More before after view next
nodes-on before after stage view next at count long step made less loads keeps = record {
  step = step;
  made = made;
  turned = inl (subst (λ (s : NodeStage). nodes_left after < stage_left before.count before.taken s) (sym at) less);
  loads = loads;
  keeps = λ first start taking. record {
    count = count ∙ taking.count;
    long = long ∙ (taking.long ∙ sym count);
    some = subst (λ (n : ℕ). 0 < n) (sym count) taking.some;
    preparing = taking.preparing;
    rest = taking.rest;
    stage = keeps first start taking (subst (AtNodes start before view) at taking.stage);
  };
  answered = λ first start taking. tt;
}

-- after a node more no lock is taken
pub noted-loads : (before : NodeTaking) (node : ℕ) (after : NodeTaking) (view next : View) → HasNotedNode before node after → LoadsNow view next (nodes_takes after)
noted-loads before node after view next noted = subst (λ (s : NodeStage). LoadsNow view next (takes_at s)) (sym noted.stage) (go (eqb (suc before.taken) before.count))
  where
    go : (t : Bool) → LoadsNow view next (takes_at (cond t Taken Next))
    go true = tt
    go false = tt

-- ---- what the pass may do under the lock

pooling_task : (taken : ℕ) → IsPoolTask (pooling taken)
pooling_task zero = tt
pooling_task (suc taken) = tt

pooling_taken : (taken : ℕ) → taken_in (pooling taken) ≡ taken
pooling_taken zero = refl
pooling_taken (suc taken) = refl

pooling_given : (taken : ℕ) → given_in (pooling taken) ≡ 0
pooling_given zero = refl
pooling_given (suc taken) = refl

pooling_more : (taken : ℕ) → one_taken (pooling taken) ≡ pooling (suc taken)
pooling_more zero = refl
pooling_more (suc taken) = refl

pooling_some : (taken : ℕ) → 0 < taken → IsPooling (pooling taken)
pooling_some zero some = absurd (omega arith)
pooling_some (suc taken) some = tt

module _ (start view : View) (nodes : List ℕ) (taken : ℕ) (rest : IsAtRest start) (worked : HasWorked start view (taking_work start nodes taken)) where
  pub taking-pool : HasPool view
  taking-pool = record {
    lock = pool-locked start view (taking_work start nodes taken) rest worked refl;
    idle = subst IsPoolTask (sym worked.doing) (pooling_task taken);
  }

  taken_now : taken_in view.call.task ≡ taken
  taken_now = ap taken_in worked.doing ∙ pooling_taken taken

  given_now : given_in view.call.task ≡ 0
  given_now = ap given_in worked.doing ∙ pooling_given taken

pub locked-pool : (start view : View) → IsAtRest start → HasWorked start view (locked_work start) → HasPool view
locked-pool start view rest worked = record {
  lock = pool-locked start view (locked_work start) rest worked refl;
  idle = subst IsPoolTask (sym worked.doing) tt;
}

-- ---- taking the lock

pub nodes-begun : (taking : TakeOp) (count : ℕ) (view next : View) (operation : NodeTaking) (number lock : ℕ) → IsPass view number → lock ≡ pool_lock view.config → operation.count ≡ count → operation.taken ≡ 0
    → operation.stage ≡ Locking taking → length operation.nodes.items ≡ count → 0 < count → view.batches ≢ [] → IsAtRest view → next ≡ view → IsTaking (taking_of lock Write) view taking next
    → IsTakingNodes operation view operation next
nodes-begun taking count view next operation number lock pass same is none at long some preparing rest still goes = record {
  count = refl;
  long = long ∙ sym is;
  some = subst (λ (n : ℕ). 0 < n) (sym is) some;
  preparing = preparing;
  rest = rest;
  stage = subst (AtNodes view operation next) (sym at) (
    subst (λ (v : View). HasWorked view v (begun view)) (sym still) (worked-begun view number pass rest),
    taking-anew (taking_of (pool_lock view.config) Write) view taking next (subst (λ (l : ℕ). IsTaking (taking_of l Write) view taking next) same goes),
    none,
  );
}

pub lock-done : (start : View) (operation : NodeTaking) (view next : View) (taking : TakeOp) → HasTaken (taking_of (pool_lock start.config) Write) view next → MadeBy view next None
    → AtNodes start operation view (Locking taking) → AtNodes start operation next Locked
lock-done start operation view next taking taken by at = (worked-taken start view next (begun start) at.0 (pool_lock start.config) Write taken by, at.2)

pub lock-on : (start : View) (operation : NodeTaking) (view next : View) (taking after : TakeOp) → IsTaking (taking_of (pool_lock start.config) Write) view after next → MadeBy view next None
    → AtNodes start operation view (Locking taking) → AtNodes start operation next (Locking after)
lock-on start operation view next taking after goes by at =
    (worked-waited start view next (begun start) at.0 (pool_lock start.config) goes.waited by goes.alone, taking-anew _ view after next goes, at.2)

-- a turn that is to be made again, or after which there is more to do
module _ (before : NodeTaking) (taking after : TakeOp) (view next : View) (at : before.stage ≡ Locking taking) (step : AtMostOneStep view next) (made : MadeBy view next None) (loads : LoadsNow view next (Some after))
    (keeps : (start : View) → AtNodes start before view (Locking taking) → AtNodes start before next (Locking after)) where
  abbrev Waiting : NodeTaking
  Waiting = record before { stage = Locking after }

  lock_turn : (turn : Turn (Result (Unit {0}) ℕ)) → Turned turn view next (Some taking) (3 * before.count + 3 + turns_left taking) (3 * before.count + 3 + turns_left after)
      → (LoadsNow view next (Some after) → GoesOn turn (LoadsNow view next (Some after)))
      → ((first : NodeTaking) (start : View) → IsTakingNodes first start Waiting next → GoesOn turn (IsTakingNodes first start Waiting next))
      → ((first : NodeTaking) (start : View) → Answers turn (HasTakenNodes first start Waiting next)) → IsNodesTurn turn before Waiting view next
  lock_turn turn turned new_load goes answers = record {
    step = step;
    made = made;
    turned = subst (λ (s : NodeStage). Turned turn view next (takes_at s) (stage_left before.count before.taken s) (3 * before.count + 3 + turns_left after)) (sym at) turned;
    loads = new_load loads;
    keeps = λ first start under_way. goes first start (record {
      count = under_way.count;
      long = under_way.long;
      some = under_way.some;
      preparing = under_way.preparing;
      rest = under_way.rest;
      stage = keeps start (subst (AtNodes start before view) at under_way.stage);
    });
    answered = λ first start under_way. answers first start;
  }

  pub lock-more : Turned {T = Unit {0}} More view next (Some taking) (turns_left taking) (turns_left after) → IsNodesTurn More before Waiting view next
  lock-more turned =
      lock_turn More (turned-more (Unit {0}) (Result (Unit {0}) ℕ) (3 * before.count + 3) view next (Some taking) (turns_left taking) (turns_left after) turned) (λ l. l) (λ first start under_way. under_way) (λ first start. tt)

  pub lock-again : (lock found : ℕ) → Turned {T = Unit {0}} (Again lock found) view next (Some taking) (turns_left taking) (turns_left after) → IsNodesTurn (Again lock found) before Waiting view next
  lock-again lock found turned =
      lock_turn (Again lock found) (turned-again (Unit {0}) (Result (Unit {0}) ℕ) (3 * before.count + 3) view next (Some taking) (turns_left taking) (turns_left after) lock found turned) (λ l. l) (λ first start under_way. under_way)
      (λ first start. tt)

-- ---- loads

-- what is taken so far is so at any stage
some_staged : (start : View) (operation : NodeTaking) (view : View) (stage : NodeStage) → HasTakenSome start operation view → HasTakenSome start (record operation { stage = stage }) view
some_staged start operation view stage some = record { worked = some.worked; free = some.free; enough = some.enough }

module _ (view next : View) (name : Name) (found : ℕ) (stepped : Stepped MayLoadList load_list view name 0 0 found next) where
  pub pool-step : AtMostOneStep view next
  pool-step = one-step MayLoadList load_list view next name 0 0 found stepped (λ before after steps. of_lists (loads_list steps))

  pub pool-made : MadeBy view next None
  pool-made = made-by-step MayLoadList load_list view next name 0 0 found stepped

module _ (start : View) (operation : NodeTaking) (view next : View) (free : ℕ) (loaded : LoadedCount view next free) (at : AtNodes start operation view Locked) where
  counted : HasWorked start next (locked_work start)
  counted = worked-more start view next (locked_work start) at.0 loaded.more

  pub free-few : free < operation.count → AtNodes start operation next (Leaving (Err free))
  free-few few = (
    counted,
    few,
    point-now start next [] _ counted.adds ((λ i. word (sym (worked-sizes start next (locked_work start) counted) i) next.known PoolFree) ∙ loaded.is),
  )

  pub free-enough : 0 < operation.count → operation.count ≤ free → AtNodes start (record operation { free = free; stage = Next }) next Next
  free-enough some enough = (
    record {
      worked = subst (λ (n : ℕ). HasWorked start next (taking_work start (take n operation.nodes.items) n)) (sym at.1) (subst (HasWorked start next) (λ i. record (locked_work start) { batches = sym (with-none start.batches) i }) counted);
      free = loaded.is;
      enough = enough;
    },
    let none = at.1 in omega arith,
  )

-- the head names a node, since fewer are taken than were free
pub head-some : (start : View) (operation : NodeTaking) (view next : View) (head : ℕ) → IsAtRest start → LoadedPoolHead view next head → AtNodes start operation view Next → head ≢ 0
head-some start operation view next head rest loaded at =
    let taken = taken_now start view _ operation.taken rest at.0.worked in
    let free = at.0.free in
    let enough = at.0.enough in
    let short = at.1 in
    loaded.left (omega arith)

pub head-first : (start : View) (operation : NodeTaking) (view next : View) (head node : ℕ) → IsAtRest start → LoadedPoolHead view next head → head ≡ suc node → AtNodes start operation view Next
    → AtNodes start (record operation { stage = First node }) next (First node)
head-first start operation view next head node rest loaded names at = record {
  some = some_staged start operation next (First node) (some-later start operation view next rest loaded.more at.0);
  short = at.1;
  below = subst (λ (c : Config). node < c.nodes) (worked-sizes start view _ at.0.worked) (loaded.some node names);
  head = loaded.is ∙ names;
}

pub link-linked : (start : View) (operation : NodeTaking) (view next : View) (node link : ℕ) → IsAtRest start → LoadedPoolLink view next node link → AtNodes start operation view (First node)
    → AtNodes start (record operation { stage = Linked node link }) next (Linked node link)
link-linked start operation view next node link rest loaded at = (
  record { some = some_staged start operation next (Linked node link) (some-later start operation view next rest loaded.more at.some); short = at.short; below = at.below; head = head_later.head },
  loaded.is,
)
  where
    head_later : IsFirstNode start operation next node
    head_later = first-later start operation view next rest loaded.more node at

-- ---- taking a node off

-- what the store of the head asks
pub takes-node : (start : View) (operation : NodeTaking) (view : View) (node link : ℕ) → start.batches ≢ [] → AtNodes start operation view (Linked node link) → TakesNode view link
takes-node start operation view node link preparing at = record {
  node = node;
  head = at.0.head;
  next = sym at.1;
  preparing = λ none. with-some _ start.batches preparing (sym (worked-batches start view _ at.0.some.worked) ∙ none);
}

module _ (view next : View) (node link : ℕ) (took : TookNode view next node link) where
  pub took-step : AtMostOneStep view next
  took-step = one-step MayStorePoolHead store_pool_head view next PoolHead link 0 took.step.0 took.step.1 (λ before after steps. of_pool (stores_pool_head steps))

  pub took-made : (number : ℕ) → IsPass view number → MadeBy view next None
  took-made number pass = stored-made MayStorePoolHead store_pool_head view next PoolHead link refl took.step number pass

  module _ (start : View) (before after : NodeTaking) (rest : IsAtRest start) (long : length before.nodes.items ≡ before.count) (noted : HasNotedNode before node after) (at : AtNodes start before view (Linked node link)) where
    abbrev now : Work
    now = taking_work start (take before.taken before.nodes.items) before.taken

    took_worked : HasWorked start view (taking_work start (take before.taken before.nodes.items) before.taken)
    took_worked = at.0.some.worked

    took_batches : change_newest (λ b. record b { nodes = b.nodes ++ node ∷ [] }) view.batches ≡ with_more (take after.taken after.nodes.items) start.batches
    took_batches =
        ap (change_newest (λ b. record b { nodes = b.nodes ++ node ∷ [] })) (worked-batches start view now took_worked)
        ∙ (with-one (take before.taken before.nodes.items) node start.batches ∙ ap (λ (l : List ℕ). with_more l start.batches) (sym more))
      where
        more : take after.taken after.nodes.items ≡ take before.taken before.nodes.items ++ node ∷ []
        more =
            (λ i. take (noted.taken i) (noted.nodes i))
            ∙ take-set_at before.nodes.items before.taken (suc before.taken) node (let one : suc before.taken ≡ before.taken + 1 = omega arith in one) (let short = at.0.short in omega arith)

    took_left : next ≡ record view {
      known = next.known;
      joined = next.joined;
      call = next.call;
      batches = with_more (take after.taken after.nodes.items) start.batches;
      loose = start.loose;
      written = start.written;
    }
    took_left =
        took.now
        ∙ (λ i. record view {
          known = next.known;
          joined = sym (ap (λ (v : View). v.joined) took.now) i;
          call = sym (ap (λ (v : View). v.call) took.now) i;
          batches = took_batches i;
          loose = worked-loose start view now took_worked i;
          written = worked-written start view now took_worked i;
        })

    took_task : next.call.task ≡ pooling after.taken
    took_task = ap (λ (v : View). v.call.task) took.now ∙ (ap one_taken took_worked.doing ∙ (pooling_more before.taken ∙ ap pooling (sym noted.taken)))

    took_sizes : next.config ≡ view.config
    took_sizes = ap (λ (v : View). v.config) took.now

    took_some : HasTakenSome start after next
    took_some = record {
      worked =
          worked-untold start view next now took_worked PoolHead link None (pooling after.taken) (with_more (take after.taken after.nodes.items) start.batches) start.loose start.written took.stores
          (took-made took_worked.adds.number (worked-pass start view now took_worked)) took_task took_left refl
          (step-alone MayStorePoolHead store_pool_head view next PoolHead link 0 took.step.0 took.step.1);
      free =
          word-beside view next PoolHead link took.stores took_sizes PoolFree (λ same. absurd cc) (pool-steady start view now rest took_worked refl PoolFree refl)
          ∙ (at.0.some.free ∙ sym noted.free);
      enough = subst (λ (n : ℕ). n ≤ after.free) (sym noted.count) (subst (λ (n : ℕ). before.count ≤ n) (sym noted.free) at.0.some.enough);
    }

    -- it was the last one, or there are more to take
    pub took-noted : AtNodes start after next after.stage
    took-noted = subst (AtNodes start after next) (sym noted.stage) (go (eqb (suc before.taken) before.count) refl)
      where
        go : (t : Bool) → eqb (suc before.taken) before.count ≡ t → AtNodes start after next (cond t Taken Next)
        go true e = (took_some, noted.taken ∙ (eqb-true (suc before.taken) before.count e ∙ sym noted.count))
        go false e =
            let more : suc before.taken ≢ before.count = eqb-false (suc before.taken) before.count e in
            let short = at.0.short in
            (took_some, subst (λ (n : ℕ). after.taken < n) (sym noted.count) (subst (λ (n : ℕ). n < before.count) (sym noted.taken) (omega arith)))

-- what is left then
pub noted-less : (before after : NodeTaking) (node link : ℕ) → before.taken < before.count → HasNotedNode before node after → nodes_left after < stage_left before.count before.taken (Linked node link)
noted-less before after node link short noted =
    subst (λ (n : ℕ). stage_left n after.taken after.stage < 3 * (before.count - before.taken)) (sym noted.count)
    (subst (λ (n : ℕ). stage_left before.count n after.stage < 3 * (before.count - before.taken)) (sym noted.taken)
    (subst (λ (s : NodeStage). stage_left before.count (suc before.taken) s < 3 * (before.count - before.taken)) (sym noted.stage) (go (eqb (suc before.taken) before.count))))
  where
    go : (t : Bool) → stage_left before.count (suc before.taken) (cond t Taken Next) < 3 * (before.count - before.taken)
    go true = omega arith
    go false = omega arith

-- ---- storing the count

-- what was stored in the place of a word that others leave
pub stores-from : (start view next : View) (w : Work) (name : Name) (old new : ℕ) → HasWorked start view w → StoresWord view next name new → IsSteady view name → known_word view name ≡ old
    → StoresFrom start next name old new
stores-from start view next w name old new worked stores steady is = record {
  since = worked.adds.since ++ stores.advances.since;
  item = stores.item;
  later = [];
  parts = stores.advances.known ∙ ap (λ (l : List Item). l ++ stores.item ∷ []) log_same;
  pass = sym (ap (λ (v : View). number_in v.role) worked.left) ∙ first_of_pass;
  named = stores.named;
  is = stores.is;
  was =
      (λ i. word (sym (worked-sizes start view w worked) i) (sym log_same i) name)
      ∙ (steady-since view stores.advances.since name (λ early later it parts. (stores.advances.others early later it parts).quiet) steady ∙ is);
}
  where
    log_same : view.known ++ stores.advances.since ≡ start.known ++ (worked.adds.since ++ stores.advances.since)
    log_same = ap (λ (l : List Item). l ++ stores.advances.since) worked.adds.known ∙ append_assoc start.known worked.adds.since stores.advances.since

    first_of_pass : IsPass view stores.item.pass
    first_of_pass = stores.advances.mine 0 stores.item (omega arith)

-- what the store of the count asks
pub may-count : (start : View) (operation : NodeTaking) (view : View) (rest : IsAtRest start) → 0 < operation.count → AtNodes start operation view Taken
    → HasPool view × IsPooling view.call.task × (operation.free - operation.count + taken_in view.call.task ≡ known_word view PoolFree + given_in view.call.task)
may-count start operation view rest some at =
    let worked = at.0.worked in
    let taken = taken_now start view _ operation.taken rest worked in
    let given = given_now start view _ operation.taken rest worked in
    let free = at.0.free in
    let enough = at.0.enough in
    let all = at.1 in (
      taking-pool start view _ operation.taken rest worked,
      subst IsPooling (sym worked.doing) (pooling_some operation.taken (omega arith)),
      omega arith,
    )

module _ (view next : View) (left : ℕ) (stored : StoredCount view next left) where
  pub count-step : AtMostOneStep view next
  count-step = one-step MayStorePoolCount store_pool_count view next PoolFree left 0 stored.step.0 stored.step.1 (λ before after steps. of_pool (stores_pool_count steps))

  pub count-made : (number : ℕ) → IsPass view number → MadeBy view next None
  count-made number pass = stored-made MayStorePoolCount store_pool_count view next PoolFree left refl stored.step number pass

  pub count-stored : (start : View) (operation : NodeTaking) → IsAtRest start → length operation.nodes.items ≡ operation.count → left ≡ operation.free - operation.count → AtNodes start operation view Taken
      → AtNodes start operation next (Leaving (Ok tt))
  count-stored start operation rest long is at = (
    left,
    worked-told start view next w worked PoolFree left None Nothing (with_more operation.nodes.items start.batches) start.loose start.written stored.stores
        (count-made worked.adds.number (worked-pass start view w worked)) (ap (λ (v : View). v.call.task) stored.now) left_so refl,
    stores-from start view next w PoolFree (left + operation.count) left worked stored.stores (pool-steady start view w rest worked refl PoolFree refl)
        (let enough = at.0.enough in let free = at.0.free in omega arith),
  )
    where
      w : Work
      w = taking_work start (take operation.taken operation.nodes.items) operation.taken

      worked : HasWorked start view (taking_work start (take operation.taken operation.nodes.items) operation.taken)
      worked = at.0.worked

      all : take operation.taken operation.nodes.items ≡ operation.nodes.items
      all = take_all operation.taken operation.nodes.items (let taken = at.1 in omega arith)

      left_so : next ≡ record view {
        known = next.known;
        joined = next.joined;
        call = next.call;
        batches = with_more operation.nodes.items start.batches;
        loose = start.loose;
        written = start.written;
      }
      left_so =
          stored.now
          ∙ (λ i. record view {
            known = next.known;
            joined = sym (ap (λ (v : View). v.joined) stored.now) i;
            call = sym (ap (λ (v : View). v.call) stored.now) i;
            batches = (worked-batches start view (taking_work start (take operation.taken operation.nodes.items) operation.taken) at.0.worked ∙ ap (λ (l : List ℕ). with_more l start.batches) all) i;
            loose = worked-loose start view (taking_work start (take operation.taken operation.nodes.items) operation.taken) at.0.worked i;
            written = worked-written start view (taking_work start (take operation.taken operation.nodes.items) operation.taken) at.0.worked i;
          })

-- ---- letting the lock go

-- a lock that was taken and let go is not held
none_held : (lock other : ℕ) → mode_of (TakenStep lock Write ∷ Released lock ∷ []) other ≡ None
none_held lock other = go (eqb lock other)
  where
    go : (t : Bool) → cond {A = Option Mode} t None (cond t (Some Write) None) ≡ None
    go true = refl
    go false = refl

module _ (start view : View) (w : Work) (rest : IsAtRest start) (worked : HasWorked start view w) (steps : w.steps ≡ pool_step start.config ∷ []) (none : w.task ≡ Nothing) where
  pub pool-may_go : MayLetGo view (pool_lock view.config)
  pool-may_go = record { mode = Write; holds = pool-locked start view w rest worked steps; done = worked.doing ∙ none }

  -- and then the pass is at rest again
  pool_gone : (next : View) (found : ℕ) → LetGo view (pool_lock start.config) found next → HasDone start next (outcome_of w)
  pool_gone next found go =
      let lock = pool_lock start.config in
      let released = worked-released start view next w worked lock found go none in
      worked-done start next (with_lock w (Released lock)) released rest none (λ other. ap (λ l. mode_of (l ++ Released lock ∷ []) other) steps ∙ none_held lock other)

end_may : (start : View) (operation : NodeTaking) (view : View) (answer : Result (Unit {0}) ℕ) → IsAtRest start → AtEnd start operation view answer → MayLetGo view (pool_lock view.config)
end_may start operation view (Ok done) rest at = pool-may_go start view _ rest at.1 refl refl
end_may start operation view (Err free) rest at = pool-may_go start view _ rest at.0 refl refl

pub may-leave : (before : NodeTaking) (answer : Result (Unit {0}) ℕ) (view : View) (lock : ℕ) → IsUnderWay IsTakingNodes before view → before.stage ≡ Leaving answer → lock ≡ pool_lock view.config → MayLetGo view lock
may-leave before answer view lock way at same =
    subst (MayLetGo view) (sym same) (end_may way.start before view answer way.goes.rest (subst (AtNodes way.start before view) at way.goes.stage))

module _ (first : NodeTaking) (start : View) (operation : NodeTaking) (view next : View) (found : ℕ) (under_way : IsTakingNodes first start operation view) (go : LetGo view (pool_lock start.config) found next) where
  gone_known : IsPrefix view.known next.known
  gone_known = known-more MayRelease release view next (Lock (pool_lock start.config)) go.0 0 found go.1

  -- fewer nodes were free
  gone_few : (free : ℕ) → AtEnd start operation view (Err free) → FoundFewNodes operation.count start next free
  gone_few free at = record {
    done = pool_gone start view (locked_work start) under_way.rest at.0 refl refl next found go;
    few = at.1;
    at = point-later start view next _ gone_known at.2;
  }

  -- the nodes are taken
  gone_taken : (done : Unit {0}) → AtEnd start operation view (Ok done) → (before : List Batch) (batch : Batch) → IsNewest start before batch → HasNodes operation.count before batch start next operation.nodes.items
  gone_taken done at before batch newest =
      let nodes = operation.nodes.items in
      let w = counted_work start nodes at.0 in
      let places = go.1.stands.laws.places in
      let batches = worked-batches start view w at.1 in
      let loose = worked-loose start view w at.1 in
      let same : with_more nodes start.batches ≡ before ++ (record batch { nodes = batch.nodes ++ nodes }) ∷ [] = ap (with_more nodes) newest ∙ with-newest nodes before batch in
      let sizes : go.1.before.config ≡ start.config =
      sym (stepped-sizes MayRelease release view next (Lock (pool_lock start.config)) go.0 0 found go.1) ∙ worked-sizes start view w at.1
      in
      record {
        left = at.0;
        done =
            subst (λ (l : List Batch). HasDone start next (record (outcome_of (counted_work start operation.nodes.items at.0)) { batches = l })) same
            (pool_gone start view w under_way.rest at.1 refl refl next found go);
        from = from-later start view next PoolFree _ _ gone_known at.2;
        many = under_way.long;
        below =
            subst (λ (c : Config). (k d : ℕ) → k < length operation.nodes.items → get_or operation.nodes.items k d < c.nodes) sizes
            (taken-below go.1.before go.1.stands.laws.nodes places go.1.seat go.1.number view start nodes go.1.allowed.at go.1.allowed.pass under_way.preparing batches loose);
        distinct = taken-distinct go.1.before go.1.stands.laws.nodes places go.1.seat go.1.number view start nodes go.1.allowed.at go.1.allowed.pass under_way.preparing batches loose;
        others = taken-others go.1.before go.1.stands.laws.nodes places go.1.seat go.1.number view start nodes go.1.allowed.at go.1.allowed.pass under_way.preparing batches loose;
      }

  gone_end : (answer : Result (Unit {0}) ℕ) → AtEnd start operation view answer → IsNodesAnswer first.count start next operation.nodes.items answer
  gone_end (Ok done) at = λ before batch newest. subst (λ (n : ℕ). HasNodes n before batch start next operation.nodes.items) under_way.count (gone_taken done at before batch newest)
  gone_end (Err free) at = subst (λ (n : ℕ). FoundFewNodes n start next free) under_way.count (gone_few free at)

-- how the sizes were
end_sizes : (start : View) (operation : NodeTaking) (view : View) (answer : Result (Unit {0}) ℕ) → AtEnd start operation view answer → view.config ≡ start.config
end_sizes start operation view (Ok done) at = worked-sizes start view _ at.1
end_sizes start operation view (Err free) at = worked-sizes start view _ at.0

-- the last turn
pub leave-turn : (before : NodeTaking) (answer : Result (Unit {0}) ℕ) (view next : View) (number lock found : ℕ) → IsPass view number → before.stage ≡ Leaving answer → lock ≡ pool_lock view.config → LetGo view lock found next
    → IsNodesTurn (Done answer) before before view next
leave-turn before answer view next number lock found pass at same go = record {
  step = released-step view next lock found go;
  made = released-made view next lock found go number pass;
  turned = tt;
  loads = tt;
  keeps = λ first start under_way. tt;
  answered = λ first start under_way.
      let there = subst (AtNodes start before view) at under_way.stage in
      record {
        count = under_way.count;
        is =
            gone_end first start before view next found under_way
            (subst (λ (l : ℕ). LetGo view l found next) (same ∙ ap (λ (c : Config). pool_lock c) (end_sizes start before view answer there)) go) answer there;
      };
}

-- ---- what was answered

-- the newest batch has the nodes
pub taken-newest : (count : ℕ) (before : List Batch) (batch : Batch) (start next : View) (nodes : List ℕ) → HasNodes count before batch start next nodes → IsNewest next before (with_nodes batch nodes)
taken-newest count before batch start next nodes taken = ap (λ (v : View). v.batches) taken.done.left

pub taken-rest : (first : NodeTaking) (start : View) (last : NodeTaking) (next : View) (answer : Result (Unit {0}) ℕ) → start.batches ≢ [] → HasTakenNodes first start last next answer → IsAtRest next × (next.batches ≢ [])
taken-rest first start last next (Ok done) some taken =
    let newest = some-newest start.batches some in
    let has = taken.is newest.0 newest.1 newest.2 in
    (has.done.rest, newest-some next newest.0 _ (taken-newest first.count newest.0 newest.1 start next last.nodes.items has))
taken-rest first start last next (Err free) some few = (few.is.done.rest, subst (λ (l : List Batch). l ≢ []) (sym (ap (λ (v : View). v.batches) few.is.done.left)) some)
