-- What the steps of taking a node off the pool and of giving one back tell together.
use Rattle.std.proofs.Common.{◌≡◌, ◌≢◌, ℕ, suc, List, [], ◌∷◌, None, refl, ap, sym, ◌∙◌, subst}
use Rattle.word_map.specs.declared.name.Name.TheVariants.{PoolHead, PoolNext, PoolFree}
use Rattle.word_map.specs.Names.{pool_lock}
use Rattle.core_state.specs.declared.item.Item.{Item}
use Rattle.core_state.specs.declared.view.Mode.TheVariants.{Write}
use Rattle.core_state.specs.declared.view.View.{View}
use Rattle.core_state.specs.View.{IsPass, Holds, known_word, number_of}
use Rattle.core_state.specs.Guards.{by_lock}
use Rattle.core_state.specs.Quietly.{IsSteady, of_pass}
use Rattle.core_state.specs.Pool.{IsPoolTask, HasPool, MayStorePoolLink, store_pool_link, TakesNode, MayStorePoolHead, store_pool_head, node_taken, node_given}
use Rattle.pass_table.proofs.Calling.{Adds-refl, adds-more, adds-none, steady-more, word-now, word-beside, stored-made}
use Rattle.free_list.specs.Since.{IsNow, store_at, HasStored}
use Rattle.free_list.specs.Pool.{LoadedPoolHead, LoadedPoolLink, TookNode, LinkedNode, GaveNode}
use Rattle.free_list.specs.Calls.{MayTakeNode, PoppedNode, HadNoNode, PushedNode}
use Rattle.free_list.proofs.Storing.{nothing-stored, stored-more, stored-word}

-- ---- what goes on

now-on : (view mid next : View) → IsNow view mid → IsNow mid next → IsNow view next
now-on view mid next one two = two ∙ ap (λ (v : View). record v { known = next.known; joined = None }) one

-- what is done to a view that knows more is done to the view
now-from : (change : View → View) (view mid next : View) → ((v : View) (log : List Item) → record (change (record v { known = log; joined = None })) { known = next.known; joined = None } ≡ record (change v) { known = next.known; joined = None })
    → IsNow view mid → IsNow (change mid) next → IsNow (change view) next
now-from change view mid next blind one two = two ∙ (ap (λ (v : View). record (change v) { known = next.known; joined = None }) one ∙ blind view mid.known)

pub pool-kept : (view next : View) → IsNow view next → HasPool view → HasPool next
pool-kept view next now pool = record {
  lock = subst (λ (v : View). Holds v (pool_lock v.config) Write) (sym now) pool.lock;
  idle = subst (λ (v : View). IsPoolTask v.call.task) (sym now) pool.idle;
}

-- words under the lock of the pool
pool-head-steady : (view : View) → HasPool view → IsSteady view PoolHead
pool-head-steady view pool = of_pass (by_lock (pool_lock view.config) Write pool.lock refl)

pool-link-steady : (view : View) (node : ℕ) → HasPool view → IsSteady view (PoolNext node)
pool-link-steady view node pool = of_pass (by_lock (pool_lock view.config) Write pool.lock refl)

count-steady : (view : View) → HasPool view → IsSteady view PoolFree
count-steady view pool = of_pass (by_lock (pool_lock view.config) Write pool.lock refl)

-- ---- taking a node off

-- the head still names the node
pub still-named : (view mid : View) (node head link : ℕ) → HasPool view → head ≡ suc node → known_word view PoolHead ≡ head → LoadedPoolLink view mid node link → known_word mid PoolHead ≡ suc node
still-named view mid node head link pool names is loaded = steady-more view mid PoolHead loaded.more (pool-head-steady view pool) ∙ (is ∙ names)

-- what the store of the head asks
pub takes-node : (view mid : View) (node head link : ℕ) → MayTakeNode view → head ≡ suc node → known_word view PoolHead ≡ head → LoadedPoolLink view mid node link → TakesNode mid link
takes-node view mid node head link may names is loaded = record {
  node = node;
  head = still-named view mid node head link may.pool names is loaded;
  next = sym loaded.is;
  preparing = subst (λ (v : View). v.batches ≢ []) (sym loaded.more.rest) may.preparing;
}

pub may-still : (view next : View) → IsNow view next → MayTakeNode view → MayTakeNode next
may-still view next now may = record { pool = pool-kept view next now may.pool; preparing = subst (λ (v : View). v.batches ≢ []) (sym now) may.preparing }

pub popped-node : (view one two next : View) (number node head link : ℕ) → IsPass view number → HasPool view → head ≡ suc node → LoadedPoolHead view one head → LoadedPoolLink one two node link
    → TookNode two next node link → PoppedNode view next node
popped-node view one two next number node head link pass pool names first second third =
    let now_two = now-on view one two first.more.rest second.more.rest in
    let pool_one = pool-kept view one first.more.rest pool in
    let pool_two = pool-kept view two now_two pool in
    let role_one = ap (λ (v : View). v.role) first.more.rest in
    let role_two = ap (λ (v : View). v.role) now_two in
    let pass_two : IsPass two number = ap (λ (v : View). number_of v) now_two ∙ pass in
    let sizes = ap (λ (v : View). v.config) third.now in
    let adds_two = adds-more view one two [] role_one (adds-more view view one [] refl (Adds-refl view number pass) first.more) second.more in
    let stored_two = stored-more view one two [] role_one (stored-more view view one [] refl (nothing-stored view number pass) first.more) second.more in
    let link_was : link ≡ known_word view (PoolNext node) =
    sym second.is ∙ (steady-more one two (PoolNext node) second.more (pool-link-steady one node pool_one) ∙ steady-more view one (PoolNext node) first.more (pool-link-steady view node pool))
    in
    record {
      adds = adds-none view two next [] role_two adds_two (stored-made MayStorePoolHead store_pool_head two next PoolHead link refl third.step number pass_two);
      stored = subst (λ (n : ℕ). HasStored view next (store_at PoolHead n ∷ [])) link_was (stored-word view two next [] PoolHead link role_two stored_two third.stores);
      was = sym (steady-more view one PoolHead first.more (pool-head-steady view pool)) ∙ (first.is ∙ names);
      below = first.some node names;
      is = word-now two next PoolHead link third.stores sizes ∙ link_was;
      count =
          word-beside two next PoolHead link third.stores sizes PoolFree (λ same. absurd cc) (count-steady two pool_two)
          ∙ (steady-more one two PoolFree second.more (count-steady one pool_one) ∙ steady-more view one PoolFree first.more (count-steady view pool));
      now = now-from (λ v. node_taken v node) view two next (λ v log. refl) now_two third.now;
    }

pub had-no-node : (view next : View) (head : ℕ) → HasPool view → LoadedPoolHead view next head → head ≡ 0 → HadNoNode view next (record { head = head })
had-no-node view next head pool loaded zero = record {
  more = loaded.more;
  zero = zero;
  is = sym (steady-more view next PoolHead loaded.more (pool-head-steady view pool)) ∙ loaded.is;
  every = loaded.none zero;
}

-- ---- giving one back

-- the link is the head
pub is-linked : (view next : View) (node head : ℕ) → HasPool view → head ≡ known_word view PoolHead → LinkedNode view next node head → known_word next (PoolNext node) ≡ known_word next PoolHead
is-linked view next node head pool is linked =
    let sizes = ap (λ (v : View). v.config) linked.now in
    word-now view next (PoolNext node) head linked.stores sizes
    ∙ (is ∙ sym (word-beside view next (PoolNext node) head linked.stores sizes PoolHead (λ same. absurd cc) (pool-head-steady view pool)))

pub pushed-node : (view one two next : View) (number node head : ℕ) → IsPass view number → HasPool view → LoadedPoolHead view one head → LinkedNode one two node head → GaveNode two next node
    → PushedNode view next node
pushed-node view one two next number node head pass pool first second third =
    let now_two = now-on view one two first.more.rest second.now in
    let pool_one = pool-kept view one first.more.rest pool in
    let pool_two = pool-kept view two now_two pool in
    let role_one = ap (λ (v : View). v.role) first.more.rest in
    let role_two = ap (λ (v : View). v.role) now_two in
    let pass_one : IsPass one number = ap (λ (v : View). number_of v) first.more.rest ∙ pass in
    let pass_two : IsPass two number = ap (λ (v : View). number_of v) now_two ∙ pass in
    let sizes_two = ap (λ (v : View). v.config) second.now in
    let sizes = ap (λ (v : View). v.config) third.now in
    let adds_one = adds-more view view one [] refl (Adds-refl view number pass) first.more in
    let adds_two = adds-none view one two [] role_one adds_one (stored-made MayStorePoolLink store_pool_link one two (PoolNext node) head refl second.step number pass_one) in
    let stored_one = stored-more view view one [] refl (nothing-stored view number pass) first.more in
    let stored_two = stored-word view one two [] (PoolNext node) head role_one stored_one second.stores in
    let head_was : head ≡ known_word view PoolHead = sym first.is ∙ steady-more view one PoolHead first.more (pool-head-steady view pool) in
    record {
      adds = adds-none view two next [] role_two adds_two (stored-made MayStorePoolHead store_pool_head two next PoolHead (suc node) refl third.step number pass_two);
      stored =
          subst (λ (n : ℕ). HasStored view next (store_at (PoolNext node) n ∷ store_at PoolHead (suc node) ∷ [])) head_was
          (stored-word view two next (store_at (PoolNext node) head ∷ []) PoolHead (suc node) role_two stored_two third.stores);
      is = word-now two next PoolHead (suc node) third.stores sizes;
      link =
          word-beside two next PoolHead (suc node) third.stores sizes (PoolNext node) (λ same. absurd cc) (pool-link-steady two node pool_two)
          ∙ (word-now one two (PoolNext node) head second.stores sizes_two ∙ head_was);
      count =
          word-beside two next PoolHead (suc node) third.stores sizes PoolFree (λ same. absurd cc) (count-steady two pool_two)
          ∙ (word-beside one two (PoolNext node) head second.stores sizes_two PoolFree (λ same. absurd cc) (count-steady one pool_one)
          ∙ steady-more view one PoolFree first.more (count-steady view pool));
      now = now-from (λ v. node_given v node) view two next (λ v log. refl) now_two third.now;
    }
