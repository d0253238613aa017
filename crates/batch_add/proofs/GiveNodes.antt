-- How the nodes of a batch that is given up are put into the pool again.
use Rattle.std.specs.Prelude.{flat_map, filter}
use Rattle.std.proofs.Common.{◌≡◌, ◌≢◌, ℕ, zero, suc, ◌+◌, ◌<◌, ◌≤◌, ◌==◌, not, List, [], ◌∷◌, ◌++◌, None, Contains, AllPairs, length, take, drop, get_or, append_assoc, refl, ap, sym, ◌∙◌, subst, arith}
use Rattle.std.proofs.lemmas.List.{append-nil, length-append}
use Rattle.std.proofs.lemmas.List.Elements.{Contains-append_right}
use Rattle.word_map.specs.declared.config.Config.{Config}
use Rattle.word_map.specs.declared.name.Name.TheVariants.{PoolHead, PoolNext, PoolFree}
use Rattle.word_map.specs.Names.{pool_lock}
use Rattle.core_state.specs.declared.item.Item.{Item}
use Rattle.core_state.specs.declared.view.Mode.TheVariants.{Write}
use Rattle.core_state.specs.declared.view.Role.{Role}
use Rattle.core_state.specs.declared.view.Task.{Task}
use Rattle.core_state.specs.declared.view.Task.TheVariants.{Nothing}
use Rattle.core_state.specs.declared.view.Batch.{Batch}
use Rattle.core_state.specs.declared.view.View.{View}
use Rattle.core_state.specs.Log.{word}
use Rattle.core_state.specs.View.{IsPass, Holds, known_word, number_in}
use Rattle.core_state.specs.Kind.{item_of}
use Rattle.core_state.specs.Event.{loads_list, stores_pool_link, stores_pool_head, stores_pool_count, of_lists, of_pool}
use Rattle.core_state.specs.Lists.{MayLoadList, load_list, with_task}
use Rattle.core_state.specs.Nodes.{nodes_of, nodes_in}
use Rattle.core_state.specs.NodesInOnePlace.{IsPooling, node_scope}
use Rattle.core_state.specs.Scope.{IsOnce}
use Rattle.core_state.specs.Batches.{written_outside}
use Rattle.core_state.specs.Pool.{IsPoolTask, HasPool, MayStorePoolLink, store_pool_link, MayStorePoolHead, store_pool_head, MayStorePoolCount, store_pool_count, one_given}
use Rattle.core_state.proofs.Beginning.{contains_first}
use Rattle.core_guard.proofs.Seats.{each-seat}
use Rattle.core_batch.proofs.Lists.{pairs-left, pairs-right}
use Rattle.core_guard.proofs.NodesLeft.{seen-nodes}
use Rattle.pass_table.specs.Stepping.{step_by}
use Rattle.pass_table.specs.Turning.{AtMostOneStep, MadeBy}
use Rattle.pass_table.proofs.Knowing.{step-alone}
use Rattle.pass_table.proofs.Turning.{one-step, made-by-step}
use Rattle.pass_table.proofs.Calling.{stepped-sizes, steady-now, stored-made, stored-gained, word-now, word-beside}
use Rattle.free_list.specs.Pool.{taken_in, given_in, LoadedPoolHead, LoadedCount, LinkedNode, GaveNode, StoredCount}
use Rattle.batch_add.specs.declared.kept_batch.KeptBatch.{KeptBatch}
use Rattle.pass_table.proofs.WorkLater.{worked-sizes, worked-batches, worked-loose, worked-written, worked-pass, worked-role}
use Rattle.batch_add.specs.Parts.{StoresFrom}
use Rattle.batch_add.specs.stages.Keeping.{node_of, IsKept, IsBegunFor}
use Rattle.batch_add.specs.stages.GivingUp.{WorksUnder, putting, giving_work, counted_work, IsAtNode, KnowsFree, IsPutting}
use Rattle.batch_add.specs.stages.GivingLater.{under-pool, pool-steady, under-more, put-later}
use Rattle.batch_add.specs.stages.GiveSteps.{HasPut}
use Rattle.batch_add.proofs.GiveLists.{node-gone, written-more}
use Rattle.batch_add.proofs.GiveWork.{under-stored, under-told}
use Rattle.batch_add.proofs.GiveBodies.{nodes-many}

-- ---- loads

module _ (view next : View) (found : ℕ) where
  pub load-head-step : LoadedPoolHead view next found → AtMostOneStep view next
  load-head-step loaded = one-step MayLoadList load_list view next PoolHead 0 0 found loaded.step (λ before after steps. of_lists (loads_list steps))

  pub load-head-made : LoadedPoolHead view next found → MadeBy view next None
  load-head-made loaded = made-by-step MayLoadList load_list view next PoolHead 0 0 found loaded.step

  pub load-count-step : LoadedCount view next found → AtMostOneStep view next
  load-count-step loaded = one-step MayLoadList load_list view next PoolFree 0 0 found loaded.step (λ before after steps. of_lists (loads_list steps))

  pub load-count-made : LoadedCount view next found → MadeBy view next None
  load-count-made loaded = made-by-step MayLoadList load_list view next PoolFree 0 0 found loaded.step

-- ---- the node that is next

-- it is the one that is kept
node_is : (gone : List ℕ) (node : ℕ) (later items : List ℕ) (n : ℕ) → gone ++ node ∷ later ≡ take n items → get_or items (length gone) 0 ≡ node
node_is [] node later items zero same = absurd cc
node_is [] node later [] (suc n) same = absurd cc
node_is [] node later (b ∷ items) (suc n) same = sym (ap (λ (l : List ℕ). get_or l 0 0) same)
node_is (g ∷ gone) node later items zero same = absurd cc
node_is (g ∷ gone) node later [] (suc n) same = absurd cc
node_is (g ∷ gone) node later (b ∷ items) (suc n) same = node_is gone node later items n (ap (λ (l : List ℕ). drop 1 l) same)

module _ (kept : KeptBatch) (batch : Batch) (keeps : IsKept kept batch) (given : ℕ) (at : IsAtNode batch given) where
  pub node-kept : node_of kept given ≡ at.node
  node-kept = ap (λ (n : ℕ). node_of kept n) (sym at.many) ∙ node_is at.gone at.node at.later kept.nodes.items kept.node_count (sym at.parts ∙ keeps.nodes)

  pub node-less : given < kept.node_count
  node-less =
      let all : length batch.nodes ≡ length at.gone + suc (length at.later) = ap (λ (l : List ℕ). length l) at.parts ∙ length-append at.gone (at.node ∷ at.later) in
      let many = nodes-many kept batch keeps in
      let here = at.many in
      omega arith

  pub node-room : given < length kept.nodes.items
  node-room = let less = node-less in let room = keeps.node_room in omega arith

-- ---- the task

pool_task : (given : ℕ) → IsPoolTask (putting given)
pool_task zero = tt
pool_task (suc given) = tt

given_more : (given : ℕ) → one_given (putting given) ≡ putting (suc given)
given_more zero = refl
given_more (suc given) = refl

is_putting : (given : ℕ) → 0 < given → IsPooling (putting given)
is_putting zero some = absurd (omega arith)
is_putting (suc given) some = tt

none_taken : (given : ℕ) → taken_in (putting given) ≡ 0
none_taken zero = refl
none_taken (suc given) = refl

so_many : (given : ℕ) → given_in (putting given) ≡ given
so_many zero = refl
so_many (suc given) = refl

module _ (start : View) (before : List Batch) (batch : Batch) (after : List Batch) (kept : KeptBatch) (begun : IsBegunFor kept start before batch after) (view : View) where
  abbrev lock : ℕ
  lock = pool_lock start.config

  -- the pool may be changed
  pub has-pool : (given : ℕ) (gone left : List ℕ) → WorksUnder (pool_lock start.config) start view (giving_work start before batch after (putting given) gone left) → HasPool view
  has-pool given gone left work = record { lock = under-pool start view _ begun.rest work; idle = subst IsPoolTask (sym work.worked.doing) (pool_task given) }

  -- after the last node its count may be stored
  pub count-asks : (free : ℕ) → 0 < length batch.nodes → WorksUnder (pool_lock start.config) start view (giving_work start before batch after (putting (length batch.nodes)) batch.nodes [])
      → KnowsFree start before batch after view free → IsPooling view.call.task × (free + length batch.nodes + taken_in view.call.task ≡ known_word view PoolFree + given_in view.call.task)
  count-asks free some work knows =
      let taken = ap taken_in work.worked.doing ∙ none_taken (length batch.nodes) in
      let given = ap given_in work.worked.doing ∙ so_many (length batch.nodes) in
      let known = knows.known in
      (subst IsPooling (sym work.worked.doing) (is_putting (length batch.nodes) some), omega arith)

  -- ---- the count is loaded

  pub count-known : (next : View) (count : ℕ) → LoadedCount view next count
      → WorksUnder (pool_lock start.config) start view (giving_work start before batch after Nothing [] batch.nodes) → HasPut count 0 start before batch after next
  count-known next count loaded work =
      let task : view.call.task ≡ Nothing = work.worked.doing in
      let sizes : view.config ≡ start.config = worked-sizes start view _ work.worked in
      let counts : count + 0 ≡ loaded.many + 0 = subst (λ (t : Task). count + given_in t ≡ loaded.many + taken_in t) task loaded.counts in
      let most : loaded.many ≤ start.config.nodes = subst (λ (c : Config). loaded.many ≤ c.nodes) sizes loaded.most in
      record {
        gone = [];
        left = batch.nodes;
        parts = refl;
        many = refl;
        work = under-more start view next _ loaded.more _ work;
        knows = record { known = loaded.is; most = omega arith };
      }

  -- ---- what comes next

  module _ (free given : ℕ) (put : HasPut free given start before batch after view) where
    gone_left : kept.node_count ≡ given + length put.left
    gone_left =
        sym (nodes-many kept batch begun.keeps)
        ∙ (ap (λ (l : List ℕ). length l) put.parts
        ∙ (length-append put.gone put.left ∙ ap (λ (n : ℕ). n + length put.left) put.many))

    -- a node is left
    pub node-next : given < kept.node_count → IsPutting start before batch after view free given
    node-next less = go put.left refl
      where
        go : (l : List ℕ) → put.left ≡ l → IsPutting start before batch after view free given
        go [] none =
            let rest : length put.left ≡ 0 = ap (λ (l : List ℕ). length l) none in
            let count = gone_left in
            absurd (omega arith)
        go (x ∷ l) some = record {
          at = record { gone = put.gone; node = x; later = l; parts = put.parts ∙ ap (λ (k : List ℕ). put.gone ++ k) some; many = put.many };
          work = subst (λ (k : List ℕ). WorksUnder (pool_lock start.config) start view (giving_work start before batch after (putting given) put.gone k)) some put.work;
          knows = put.knows;
        }

    -- or none
    pub nodes-done : given ≡ kept.node_count → 0 < given
        → (0 < length batch.nodes) × WorksUnder (pool_lock start.config) start view (giving_work start before batch after (putting (length batch.nodes)) batch.nodes []) × KnowsFree start before batch after view free
    nodes-done all some = go put.left refl
      where
        go : (l : List ℕ) → put.left ≡ l
            → (0 < length batch.nodes) × WorksUnder (pool_lock start.config) start view (giving_work start before batch after (putting (length batch.nodes)) batch.nodes []) × KnowsFree start before batch after view free
        go [] none =
            let count : given ≡ length batch.nodes = all ∙ sym (nodes-many kept batch begun.keeps) in (
              omega arith,
              subst (λ (n : ℕ). WorksUnder (pool_lock start.config) start view (giving_work start before batch after (putting n) batch.nodes [])) count
                  (subst (λ (l : List ℕ). WorksUnder (pool_lock start.config) start view (giving_work start before batch after (putting given) l []))
                  (sym (append-nil put.gone) ∙ (ap (λ (l : List ℕ). put.gone ++ l) (sym none) ∙ sym put.parts))
                  (subst (λ (l : List ℕ). WorksUnder (pool_lock start.config) start view (giving_work start before batch after (putting given) put.gone l)) none put.work)),
              put.knows,
            )
        go (x ∷ l) some_left =
            let rest : length put.left ≡ suc (length l) = ap (λ (k : List ℕ). length k) some_left in
            let count = gone_left in
            absurd (omega arith)

  -- ---- a node is given back

  module _ (free given : ℕ) (put : IsPutting start before batch after view free given) where
    put_loose : view.loose ≡ start.loose ++ put.at.node ∷ put.at.later
    put_loose = worked-loose start view _ put.work.worked

    holds : Holds view (pool_lock view.config) Write
    holds = under-pool start view _ begun.rest put.work

    -- it is to be given back
    pub node-loose : Contains view.loose put.at.node
    node-loose =
        subst (λ (l : List ℕ). Contains l put.at.node) (sym put_loose) (Contains-append_right start.loose (put.at.node ∷ put.at.later) put.at.node (contains_first put.at.node put.at.later))

    -- the head is loaded
    pub head-known : (next : View) (head : ℕ) → LoadedPoolHead view next head
        → (after_it : IsPutting start before batch after next free given) × (known_word next PoolHead ≡ head) × (after_it.at.node < start.config.nodes)
    head-known next head loaded = (
      put-later start before batch after view next begun.rest loaded.more free given put,
      loaded.is,
      subst (λ (c : Config). put.at.node < c.nodes) (worked-sizes start view _ put.work.worked) (loaded.loose put.at.node node-loose),
    )

    -- it becomes the link of the node
    module _ (next : View) (head : ℕ) (linked : LinkedNode view next put.at.node head) where
      link_sizes : next.config ≡ view.config
      link_sizes = ap (λ (v : View). v.config) linked.now

      pub link-step : AtMostOneStep view next
      link-step = one-step MayStorePoolLink store_pool_link view next (PoolNext put.at.node) head 0 linked.step.0 linked.step.1 (λ before_it after_it steps. of_pool (stores_pool_link steps))

      pub link-made : (number : ℕ) → IsPass view number → MadeBy view next None
      link-made number pass = stored-made MayStorePoolLink store_pool_link view next (PoolNext put.at.node) head refl linked.step number pass

      link_work : WorksUnder (pool_lock start.config) start next (giving_work start before batch after (putting given) put.at.gone (put.at.node ∷ put.at.later))
      link_work =
          subst (λ (t : Task). WorksUnder (pool_lock start.config) start next (giving_work start before batch after t put.at.gone (put.at.node ∷ put.at.later))) put.work.worked.doing
          (under-stored start view next _ (PoolNext put.at.node) head view.call (before ++ after) (start.loose ++ put.at.node ∷ put.at.later) (written_outside put.at.gone start.written) linked.stores
          (linked.now
          ∙ (λ i. record view {
            known = next.known;
            joined = None;
            batches = worked-batches start view _ put.work.worked i;
            loose = worked-loose start view _ put.work.worked i;
            written = worked-written start view _ put.work.worked i;
          }))
          (pool_lock start.config) (link-made put.work.worked.adds.number (worked-pass start view _ put.work.worked)) refl
          (step-alone MayStorePoolLink store_pool_link view next (PoolNext put.at.node) head 0 linked.step.0 linked.step.1) put.work)

      pub link-known : known_word view PoolHead ≡ head → (after_it : IsPutting start before batch after next free given) × (known_word next (PoolNext after_it.at.node) ≡ known_word next PoolHead)
      link-known is = (
        record {
          at = put.at;
          work = link_work;
          knows = record {
            known = word-beside view next (PoolNext put.at.node) head linked.stores link_sizes PoolFree (λ same. absurd cc) (pool-steady view PoolFree holds refl) ∙ put.knows.known;
            most = put.knows.most;
          };
        },
        word-now view next (PoolNext put.at.node) head linked.stores link_sizes
            ∙ sym (word-beside view next (PoolNext put.at.node) head linked.stores link_sizes PoolHead (λ same. absurd cc) (pool-steady view PoolHead holds refl) ∙ is),
      )

    -- the node is put in front
    module _ (next : View) (gave : GaveNode view next put.at.node) where
      pub front-step : AtMostOneStep view next
      front-step = one-step MayStorePoolHead store_pool_head view next PoolHead (suc put.at.node) 0 gave.step.0 gave.step.1 (λ before_it after_it steps. of_pool (stores_pool_head steps))

      pub front-made : (number : ℕ) → IsPass view number → MadeBy view next None
      front-made number pass = stored-made MayStorePoolHead store_pool_head view next PoolHead (suc put.at.node) refl gave.step number pass

      front_once : AllPairs (λ a b. a ≢ b) (start.loose ++ put.at.node ∷ put.at.later)
      front_once =
          let s = gave.step.1 in
          let all : IsOnce (nodes_of view) =
          subst IsOnce (seen-nodes s.number view) (each-seat node_scope (λ k v. refl) s.before (λ k v. IsOnce (nodes_of v)) s.stands.laws.places.owned_once s.seat s.number view s.allowed.at s.allowed.pass)
          in
          subst (λ (l : List ℕ). AllPairs (λ a b. a ≢ b) l) put_loose
          (pairs-left (λ a b. a ≢ b) view.loose (nodes_in view.rebuild) (pairs-right (λ a b. a ≢ b) (flat_map (λ (b : Batch). b.nodes) view.batches) (view.loose ++ nodes_in view.rebuild) all))

      front_left : next ≡ record view {
        known = next.known;
        joined = None;
        call = (with_task view (one_given view.call.task)).call;
        batches = before ++ after;
        loose = start.loose ++ put.at.later;
        written = written_outside (put.at.gone ++ put.at.node ∷ []) start.written;
      }
      front_left =
          gave.now
          ∙ (λ i. record view {
            known = next.known;
            joined = None;
            call = (with_task view (one_given view.call.task)).call;
            batches = worked-batches start view _ put.work.worked i;
            loose = (ap (filter (λ (n : ℕ). not (n == put.at.node))) put_loose ∙ node-gone start.loose put.at.node put.at.later front_once) i;
            written = (ap (written_outside (put.at.node ∷ [])) (worked-written start view _ put.work.worked) ∙ written-more put.at.gone put.at.node start.written) i;
          })

      front_work : WorksUnder (pool_lock start.config) start next (giving_work start before batch after (putting (suc given)) (put.at.gone ++ put.at.node ∷ []) put.at.later)
      front_work =
          subst (λ (t : Task). WorksUnder (pool_lock start.config) start next (giving_work start before batch after t (put.at.gone ++ put.at.node ∷ []) put.at.later))
          (ap one_given put.work.worked.doing ∙ given_more given)
          (under-stored start view next _ PoolHead (suc put.at.node) ((with_task view (one_given view.call.task)).call) (before ++ after) (start.loose ++ put.at.later)
          (written_outside (put.at.gone ++ put.at.node ∷ []) start.written) gave.stores front_left (pool_lock start.config)
          (front-made put.work.worked.adds.number (worked-pass start view _ put.work.worked)) refl
          (step-alone MayStorePoolHead store_pool_head view next PoolHead (suc put.at.node) 0 gave.step.0 gave.step.1) put.work)

      front_knows : KnowsFree start before batch after next free
      front_knows = record {
        known = word-beside view next PoolHead (suc put.at.node) gave.stores (ap (λ (v : View). v.config) gave.now) PoolFree (λ same. absurd cc) (pool-steady view PoolFree holds refl) ∙ put.knows.known;
        most = put.knows.most;
      }

      pub front-put : HasPut free (suc given) start before batch after next
      front-put = record {
        gone = put.at.gone ++ put.at.node ∷ [];
        left = put.at.later;
        parts = put.at.parts ∙ sym (append_assoc put.at.gone (put.at.node ∷ []) put.at.later);
        many = length-append put.at.gone (put.at.node ∷ []) ∙ (let here = put.at.many in omega arith);
        work = front_work;
        knows = front_knows;
      }

  -- ---- the count is stored

  module _ (free : ℕ) (some : 0 < length batch.nodes) (work : WorksUnder (pool_lock start.config) start view (giving_work start before batch after (putting (length batch.nodes)) batch.nodes []))
      (knows : KnowsFree start before batch after view free) where
    pub count-pooling : IsPooling view.call.task
    count-pooling = subst IsPooling (sym work.worked.doing) (is_putting (length batch.nodes) some)

    pub count-counts : free + length batch.nodes + taken_in view.call.task ≡ known_word view PoolFree + given_in view.call.task
    count-counts =
        let none : taken_in view.call.task ≡ 0 = ap taken_in work.worked.doing ∙ none_taken (length batch.nodes) in
        let all : given_in view.call.task ≡ length batch.nodes = ap given_in work.worked.doing ∙ so_many (length batch.nodes) in
        let known = knows.known in
        omega arith

    module _ (next : View) (stored : StoredCount view next (free + length batch.nodes)) where
      abbrev count : ℕ
      count = free + length batch.nodes

      pub count-step : AtMostOneStep view next
      count-step = one-step MayStorePoolCount store_pool_count view next PoolFree count 0 stored.step.0 stored.step.1 (λ before_it after_it steps. of_pool (stores_pool_count steps))

      pub count-made : (number : ℕ) → IsPass view number → MadeBy view next None
      count-made number pass = stored-made MayStorePoolCount store_pool_count view next PoolFree count refl stored.step number pass

      pub count-work : WorksUnder (pool_lock start.config) start next (counted_work start before batch after count)
      count-work =
          under-told start view next _ PoolFree count ((with_task view Nothing).call) (before ++ after) (start.loose ++ []) (written_outside batch.nodes start.written) stored.stores
          (stored.now
          ∙ (λ i. record view {
            known = next.known;
            joined = None;
            call = (with_task view Nothing).call;
            batches = worked-batches start view _ work.worked i;
            loose = worked-loose start view _ work.worked i;
            written = worked-written start view _ work.worked i;
          }))
          (pool_lock start.config) (count-made work.worked.adds.number (worked-pass start view _ work.worked)) refl work

      -- in the place of the one that was loaded
      count_log : stored.step.1.before.log ≡ start.known ++ (work.worked.adds.since ++ stored.step.1.since)
      count_log =
          stored.step.1.learns ∙ (ap (λ (l : List Item). l ++ stored.step.1.since) work.worked.adds.known ∙ append_assoc start.known work.worked.adds.since stored.step.1.since)

      count_was : word start.config stored.step.1.before.log PoolFree ≡ free
      count_was =
          let sizes : start.config ≡ stored.step.1.before.config =
          sym (worked-sizes start view _ work.worked) ∙ stepped-sizes MayStorePoolCount store_pool_count view next PoolFree count 0 stored.step.0 stored.step.1
          in
          ap (λ (c : Config). word c stored.step.1.before.log PoolFree) sizes
          ∙ (steady-now MayStorePoolCount store_pool_count view next PoolFree count 0 stored.step.0 stored.step.1 PoolFree (pool-steady view PoolFree (under-pool start view _ begun.rest work) refl) ∙ knows.known)

      pub count-from : StoresFrom start next PoolFree free count
      count-from = record {
        since = work.worked.adds.since ++ stored.step.1.since;
        item = item_of store_pool_count (step_by stored.step.1.seat view stored.step.1.number PoolFree count 0) count;
        later = [];
        parts = ap (λ (v : View). v.known) stored.step.1.leaves ∙ (λ i. count_log i ++ stored-gained MayStorePoolCount store_pool_count view next PoolFree count refl stored.step i);
        pass = ap (λ (r : Role). number_in r) (sym (worked-role start view _ work.worked)) ∙ stored.step.1.allowed.pass;
        named = refl;
        is = refl;
        was = subst (λ (l : List Item). word start.config l PoolFree ≡ free) count_log count_was;
      }
