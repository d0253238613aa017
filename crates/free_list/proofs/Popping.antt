-- What the steps of taking an index off the list and of putting one in front tell together.
use Rattle.std.proofs.Common.{◌≡◌, ℕ, suc, ◌<◌, ◌≤◌, [], ◌∷◌, None, refl, ap, sym, ◌∙◌, subst}
use Rattle.word_map.specs.declared.name.Name.TheVariants.{SlotHead, SlotNext, State, Phase}
use Rattle.word_map.specs.Names.{index_lock, stripe_of}
use Rattle.core_state.specs.declared.view.Mode.TheVariants.{Write}
use Rattle.core_state.specs.declared.view.Task.TheVariants.{Creating, Destroying}
use Rattle.core_state.specs.declared.view.View.{View}
use Rattle.core_state.specs.View.{IsPass, Holds, known_word, number_of}
use Rattle.core_state.specs.Guards.{by_lock}
use Rattle.core_state.specs.Quietly.{IsSteady, of_pass}
use Rattle.core_state.specs.Lists.{HasList, IsLiveAndOut, MayStoreLink, store_link, TakesFirst, MayStoreHead, store_head, with_task}
use Rattle.pass_table.specs.Knowing.{KnowsMore}
use Rattle.pass_table.proofs.Calling.{Adds-refl, adds-more, adds-none, steady-more, word-now, word-beside, stored-made}
use Rattle.free_list.specs.Since.{IsNow, store_at, HasStored}
use Rattle.free_list.specs.Heads.{LoadedHead, LoadedLink, TookOff, LinkedTo, PutInFront}
use Rattle.free_list.specs.Calls.{PoppedIndex, HadNoIndex, PushedIndex}
use Rattle.free_list.proofs.Storing.{nothing-stored, stored-more, stored-word}

-- ---- what goes on

pub list-kept : (view next : View) → IsNow view next → HasList view → HasList next
list-kept view next rest list = record {
  lock = subst (λ (v : View). Holds v (index_lock v.config) Write) (sym rest) list.lock;
  idle = ap (λ (v : View). v.call.task) rest ∙ list.idle;
}

pub out-kept : (view next : View) (index : ℕ) → IsNow view next → known_word next (State index) ≡ known_word view (State index) → known_word next (Phase index) ≡ known_word view (Phase index)
    → IsLiveAndOut view index → IsLiveAndOut next index
out-kept view next index rest state phase body = record {
  below = subst (λ (v : View). index < v.config.bodies) (sym rest) body.below;
  stripe = subst (λ (v : View). Holds v (stripe_of v.config index) Write) (sym rest) body.stripe;
  live = subst (λ (n : ℕ). 256 ≤ n) (sym state) body.live;
  out = phase ∙ body.out;
}

-- words under the lock of the list, and the phase under the stripe
pub head-steady : (view : View) → HasList view → IsSteady view SlotHead
head-steady view list = of_pass (by_lock (index_lock view.config) Write list.lock refl)

pub link-steady : (view : View) (index : ℕ) → HasList view → IsSteady view (SlotNext index)
link-steady view index list = of_pass (by_lock (index_lock view.config) Write list.lock refl)

pub state-steady : (view : View) (index : ℕ) → HasList view → IsSteady view (State index)
state-steady view index list = of_pass (by_lock (index_lock view.config) Write list.lock refl)

pub phase-steady : (view : View) (index : ℕ) → IsLiveAndOut view index → IsSteady view (Phase index)
phase-steady view index body = of_pass (by_lock (stripe_of view.config index) Write body.stripe refl)

pub out-more : (view next : View) (index : ℕ) → KnowsMore view next → HasList view → IsLiveAndOut view index → IsLiveAndOut next index
out-more view next index more list body =
    out-kept view next index more.rest (steady-more view next (State index) more (state-steady view index list)) (steady-more view next (Phase index) more (phase-steady view index body)) body

-- ---- taking an index off

-- the head still names the index
pub still-first : (view mid : View) (index head link : ℕ) → HasList view → head ≡ suc index → known_word view SlotHead ≡ head → LoadedLink view mid index link → known_word mid SlotHead ≡ suc index
still-first view mid index head link list names is loaded = steady-more view mid SlotHead loaded.more (head-steady view list) ∙ (is ∙ names)

-- what the store of the head asks
pub takes-first : (view mid : View) (index head link : ℕ) → HasList view → head ≡ suc index → known_word view SlotHead ≡ head → LoadedLink view mid index link → TakesFirst mid link
takes-first view mid index head link list names is loaded =
    record { index = index; head = still-first view mid index head link list names is loaded; next = sym loaded.is }

pub popped : (view one two next : View) (number index head link : ℕ) → IsPass view number → HasList view → head ≡ suc index → LoadedHead view one head → LoadedLink one two index link
    → TookOff two next index link → PoppedIndex view next index
popped view one two next number index head link pass list names first second third =
    let list_one = list-kept view one first.more.rest list in
    let list_two = list-kept one two second.more.rest list_one in
    let role_one = ap (λ (v : View). v.role) first.more.rest in
    let role_two = ap (λ (v : View). v.role) second.more.rest ∙ role_one in
    let pass_two : IsPass two number = ap (λ (v : View). number_of v) second.more.rest ∙ (ap (λ (v : View). number_of v) first.more.rest ∙ pass) in
    let adds_one = adds-more view view one [] refl (Adds-refl view number pass) first.more in
    let adds_two = adds-more view one two [] role_one adds_one second.more in
    let stored_two = stored-more view one two [] role_one (stored-more view view one [] refl (nothing-stored view number pass) first.more) second.more in
    let before : IsNow view two = second.more.rest ∙ ap (λ (v : View). record v { known = two.known; joined = None }) first.more.rest in
    let link_was : link ≡ known_word view (SlotNext index) =
    sym second.is ∙ (steady-more one two (SlotNext index) second.more (link-steady one index list_one) ∙ steady-more view one (SlotNext index) first.more (link-steady view index list))
    in
    record {
      adds = adds-none view two next [] role_two adds_two (stored-made MayStoreHead store_head two next SlotHead link refl third.step number pass_two);
      stored = subst (λ (n : ℕ). HasStored view next (store_at SlotHead n ∷ [])) link_was (stored-word view two next [] SlotHead link role_two stored_two third.stores);
      was = sym (steady-more view one SlotHead first.more (head-steady view list)) ∙ (first.is ∙ names);
      is = word-now two next SlotHead link third.stores (ap (λ (v : View). v.config) third.doing.rest) ∙ link_was;
      doing = record { rest = third.doing.rest ∙ ap (λ (v : View). record (with_task v (Creating index)) { known = next.known; joined = None }) before };
      first = third.first;
    }

pub was-empty : (view next : View) (head : ℕ) → HasList view → LoadedHead view next head → head ≡ 0 → HadNoIndex view next (record { head = head })
was-empty view next head list loaded zero = record {
  more = loaded.more;
  zero = zero;
  is = sym (steady-more view next SlotHead loaded.more (head-steady view list)) ∙ loaded.is;
  every = loaded.none zero;
}

-- ---- putting one in front

-- the link is the head
pub is-linked : (view next : View) (index head : ℕ) → HasList view → head ≡ known_word view SlotHead → LinkedTo view next index head → known_word next (SlotNext index) ≡ known_word next SlotHead
is-linked view next index head list is linked =
    word-now view next (SlotNext index) head linked.stores (ap (λ (v : View). v.config) linked.rest)
    ∙ (is ∙ sym (word-beside view next (SlotNext index) head linked.stores (ap (λ (v : View). v.config) linked.rest) SlotHead (λ same. absurd cc) (head-steady view list)))

pub out-linked : (view next : View) (index other head : ℕ) → HasList view → LinkedTo view next other head → IsLiveAndOut view index → IsLiveAndOut next index
out-linked view next index other head list linked body =
    let sizes = ap (λ (v : View). v.config) linked.rest in
    out-kept view next index linked.rest (word-beside view next (SlotNext other) head linked.stores sizes (State index) (λ same. absurd cc) (state-steady view index list))
    (word-beside view next (SlotNext other) head linked.stores sizes (Phase index) (λ same. absurd cc) (phase-steady view index body)) body

pub pushed : (view one two next : View) (number index head : ℕ) → IsPass view number → HasList view → LoadedHead view one head → LinkedTo one two index head → PutInFront two next index
    → PushedIndex view next index
pushed view one two next number index head pass list first second third =
    let list_one = list-kept view one first.more.rest list in
    let list_two = list-kept one two second.rest list_one in
    let role_one = ap (λ (v : View). v.role) first.more.rest in
    let role_two = ap (λ (v : View). v.role) second.rest ∙ role_one in
    let pass_one : IsPass one number = ap (λ (v : View). number_of v) first.more.rest ∙ pass in
    let pass_two : IsPass two number = ap (λ (v : View). number_of v) second.rest ∙ pass_one in
    let adds_one = adds-more view view one [] refl (Adds-refl view number pass) first.more in
    let adds_two = adds-none view one two [] role_one adds_one (stored-made MayStoreLink store_link one two (SlotNext index) head refl second.step number pass_one) in
    let stored_one = stored-more view view one [] refl (nothing-stored view number pass) first.more in
    let stored_two = stored-word view one two [] (SlotNext index) head role_one stored_one second.stores in
    let head_was : head ≡ known_word view SlotHead = sym first.is ∙ steady-more view one SlotHead first.more (head-steady view list) in
    let before : IsNow view two = second.rest ∙ ap (λ (v : View). record v { known = two.known; joined = None }) first.more.rest in
    let sizes = ap (λ (v : View). v.config) third.doing.rest in
    record {
      adds = adds-none view two next [] role_two adds_two (stored-made MayStoreHead store_head two next SlotHead (suc index) refl third.step number pass_two);
      stored =
          subst (λ (n : ℕ). HasStored view next (store_at (SlotNext index) n ∷ store_at SlotHead (suc index) ∷ [])) head_was
          (stored-word view two next (store_at (SlotNext index) head ∷ []) SlotHead (suc index) role_two stored_two third.stores);
      is = word-now two next SlotHead (suc index) third.stores sizes;
      link =
          word-beside two next SlotHead (suc index) third.stores sizes (SlotNext index) (λ same. absurd cc) (link-steady two index list_two)
          ∙ (word-now one two (SlotNext index) head second.stores (ap (λ (v : View). v.config) second.rest) ∙ head_was);
      doing = record { rest = third.doing.rest ∙ ap (λ (v : View). record (with_task v (Destroying index)) { known = next.known; joined = None }) before };
    }
