-- The last index of a list taken off, and words of its body stored.
use Rattle.std.proofs.Common.{◌≡◌, ◌≢◌, ℕ, suc, ◌-◌, ◌<◌, ◌^◌, Bool, cond, Some, None, refl, ap, sym, ◌∙◌, subst, arith}
use Rattle.std.proofs.lemmas.Bool.{eq-eqb}
use Rattle.std.proofs.lemmas.List.{append-nil}
use Rattle.word_map.specs.declared.config.Config.{Config}
use Rattle.word_map.specs.declared.name.Name.{Name}
use Rattle.word_map.specs.declared.name.Name.TheVariants.{SlotHead, SlotNext, User}
use Rattle.word_map.specs.Names.{index_lock}
use Rattle.core_state.specs.declared.view.Mode.TheVariants.{Write}
use Rattle.core_state.specs.declared.view.Task.TheVariants.{Creating}
use Rattle.core_state.specs.declared.view.View.{View}
use Rattle.core_state.specs.Log.{word}
use Rattle.core_state.specs.View.{mode_of, known_word}
use Rattle.core_state.specs.Core.{word_of}
use Rattle.core_state.specs.Kind.{Kind, Asking}
use Rattle.core_state.specs.Guards.{Owns, by_lock}
use Rattle.core_state.specs.Lists.{MayLoadList, load_list, HasList, takes_first, MayStoreHead, store_head}
use Rattle.core_state.specs.Lives.{IsCreating, MayStoreField, store_field}
use Rattle.core_state.proofs.Forming.{unspent_pass}
use Rattle.core_state.proofs.Guarding.{owned-still}
use Rattle.pass_table.specs.declared.pass.Pass.{Pass}
use Rattle.pass_table.specs.declared.world.World.{World}
use Rattle.pass_table.specs.Knowing.{KnowsMore}
use Rattle.pass_table.specs.Opened.{IsFresh}
use Rattle.pass_table.specs.Passes.{view_of}
use Rattle.pass_table.specs.Stepping.{Stepped, Stored}
use Rattle.pass_table.specs.Trying.{WasTaken, with_taken}
use Rattle.pass_table.proofs.Knowing.{knows-more}

-- a fresh pass that took the lock of the list has the list
pub list-taken : (world : World) (pass : Pass) (next : View) → IsFresh world 0 pass → WasTaken (view_of pass) next world.map.stripes Write → HasList next
list-taken world pass next fresh taken =
    let lock = world.map.stripes in
    record {
      lock =
          ap (λ (v : View). mode_of v.locks (index_lock v.config)) taken.left.rest ∙
          (ap (λ (v : View). mode_of (with_taken v lock Write) (index_lock v.config)) fresh.view ∙ ap (λ (t : Bool). cond t (Some Write) None) (eq-eqb lock lock refl));
      idle = ap (λ (v : View). v.call.task) taken.left.rest ∙ ap (λ (v : View). v.call.task) fresh.view;
    }

-- a step finds each word that its pass has for itself as the pass knows it
module _ (asks : Asking) (kind : Kind) (view next : View) (name : Name) (first second found : ℕ) (stepped : Stepped asks kind view name first second found next) where
  same-sizes : view.config ≡ stepped.before.config
  same-sizes = (stepped.stands.formed.views stepped.seat view stepped.allowed.at (unspent_pass view.role stepped.number stepped.allowed.pass)).config

  stands-still : (other : Name) → Owns view.config view other → word_of stepped.before other ≡ known_word view other
  stands-still other owns =
      owned-still stepped.before stepped.seat stepped.number view stepped.stands.formed stepped.stands.guards stepped.allowed.at stepped.allowed.pass other
      (subst (λ (c : Config). Owns c view other) same-sizes owns) ∙
      ap (λ (c : Config). word c view.known other) (sym same-sizes)

-- the words of the list of free indexes are the own ones of a pass that has the list
owns-head : (view : View) → HasList view → Owns view.config view SlotHead
owns-head view list = by_lock (index_lock view.config) Write list.lock refl

-- a load of a word of the list
module _ (view next : View) (name : Name) (found : ℕ) (loaded : Stepped MayLoadList load_list view name 0 0 found next) where
  more : KnowsMore view next
  more = knows-more MayLoadList load_list view next name 0 0 found loaded (λ v n f a b. refl) (λ word operand. refl)

  known-whole : (other : Name) → known_word next other ≡ word_of loaded.before other
  known-whole other =
      let sizes : next.config ≡ loaded.before.config =
      ap (λ (v : View). v.config) more.rest ∙ same-sizes MayLoadList load_list view next name 0 0 found loaded
      in
      let whole = ap (λ (v : View). v.known) loaded.leaves ∙ append-nil loaded.before.log in
      λ i. word (sizes i) (whole i) other

  pub loaded-list : HasList view → HasList next
  loaded-list list = record {
    lock = ap (λ (v : View). mode_of v.locks (index_lock v.config)) more.rest ∙ list.lock;
    idle = ap (λ (v : View). v.call.task) more.rest ∙ list.idle;
  }

  pub loaded-word : known_word next name ≡ found
  loaded-word = known-whole name ∙ sym loaded.finds

  pub loaded-head : HasList view → known_word next SlotHead ≡ known_word view SlotHead
  loaded-head list = known-whole SlotHead ∙ stands-still MayLoadList load_list view next name 0 0 found loaded SlotHead (owns-head view list)

-- the head of a list that has an index is 1 more than it
pub head-index : (view next : View) (name : Name) (head found : ℕ) → HasList view → known_word view SlotHead ≡ head → head ≢ 0
    → Stepped MayLoadList load_list view name 0 0 found next → known_word next SlotHead ≡ suc (head - 1)
head-index view next name head found list known some loaded =
    let same : head ≡ suc (head - 1) = omega arith in
    loaded-head view next name found loaded list ∙ (known ∙ same)

-- what taking the last index off asks
pub may-take-last : (view : View) (index : ℕ) → HasList view → known_word view SlotHead ≡ suc index → known_word view (SlotNext index) ≡ 0 → MayStoreHead view SlotHead 0 0
may-take-last view index list head last =
    record { names = refl; list = list; change = takes_first (record { index = index; head = head; next = sym last }) }

-- then its body is to be created
pub creates-next : (view next : View) (index : ℕ) → HasList view → known_word view SlotHead ≡ suc index → Stored MayStoreHead store_head view SlotHead 0 next → IsCreating next index
creates-next view next index list head stored =
    let step = stored.1 in
    let was : word_of step.before SlotHead ≡ known_word view SlotHead =
    stands-still MayStoreHead store_head view next SlotHead 0 0 stored.0 step SlotHead (owns-head view list)
    in
    let same : word_of step.before SlotHead - 1 ≡ index = omega arith in
    record {
      lock = ap (λ (v : View). mode_of v.locks (index_lock v.config)) step.leaves ∙ list.lock;
      task = ap (λ (v : View). v.call.task) step.leaves ∙ ap Creating same;
    }

-- what a store of a user number asks, and that the body is still to be created after it
pub may-store-user : (view : View) (index user : ℕ) → IsCreating view index → user < 2 ^ 32 → MayStoreField view (User index) user 0
may-store-user view index user creating fits = record { index = index; creating = creating; field = (refl, fits) }

pub creates-still : (view next : View) (name : Name) (value index : ℕ) → IsCreating view index → Stored MayStoreField store_field view name value next → IsCreating next index
creates-still view next name value index creating stored =
    record {
      lock = ap (λ (v : View). mode_of v.locks (index_lock v.config)) stored.1.leaves ∙ creating.lock;
      task = ap (λ (v : View). v.call.task) stored.1.leaves ∙ creating.task;
    }
