use Rattle.std.proofs.Common.{◌≡◌, ℕ, sym, subst}
use Rattle.word_map.specs.declared.name.Name.TheVariants.{SlotHead, SlotNext}
use Rattle.core_state.specs.View.{known_word}
use Rattle.core_state.specs.Lists.{IsLiveAndOut}
use Rattle.pass_table.specs.Passes.{view_of}
use Rattle.free_list.specs.Heads.{LinkedTo, PutInFront}
use Rattle.body_slots.proofs.DestroyTurns.{has-list}
use Rattle.body_slots.proofs.WholeDestroy.{list-headed, out-headed, head-headed, list-linked, out-linked, link-linked, put-back}
use Rattle.body_slots.proofs.whole_destroy.put_back.Goals as goal

pub load_head-head-requires-clause-list : goal.load_head-head-requires-clause-list
load_head-head-requires-clause-list c = let way = c.requires.locked in has-list c.args.id way.0 (view_of c.args.pass.now) way.1.rest way.2.0

pub store_link-requires-clause-list : goal.store_link-requires-clause-list
store_link-requires-clause-list c =
    let way = c.requires.locked in
    list-headed c.args.id way.0 (view_of c.args.pass.now) (view_of c.load_head-head.new.pass) c.load_head-head.result way.1 way.2 c.load_head-head.ensures.loaded

pub store_link-requires-clause-body : goal.store_link-requires-clause-body
store_link-requires-clause-body c =
    let way = c.requires.locked in
    let one = view_of c.load_head-head.new.pass in
    subst (λ (n : ℕ). IsLiveAndOut one n) (sym c.index-index.ensures.value)
    (out-headed c.args.id way.0 (view_of c.args.pass.now) one c.load_head-head.result way.1 way.2 c.load_head-head.ensures.loaded)

pub store_link-requires-clause-head : goal.store_link-requires-clause-head
store_link-requires-clause-head c =
    let way = c.requires.locked in
    head-headed c.args.id way.0 (view_of c.args.pass.now) (view_of c.load_head-head.new.pass) c.load_head-head.result way.1 way.2 c.load_head-head.ensures.loaded

pub put_in_front-requires-clause-list : goal.put_in_front-requires-clause-list
put_in_front-requires-clause-list c =
    let way = c.requires.locked in
    let head = c.load_head-head.result in
    let one = view_of c.load_head-head.new.pass in
    let two = view_of c.store_link.new.pass in
    let linked = subst (λ (n : ℕ). LinkedTo one two n head) c.index-index.ensures.value c.store_link.ensures.linked in
    list-linked c.args.id way.0 (view_of c.args.pass.now) one head way.1 way.2 c.load_head-head.ensures.loaded two linked

pub put_in_front-requires-clause-body : goal.put_in_front-requires-clause-body
put_in_front-requires-clause-body c =
    let way = c.requires.locked in
    let head = c.load_head-head.result in
    let one = view_of c.load_head-head.new.pass in
    let two = view_of c.store_link.new.pass in
    let linked = subst (λ (n : ℕ). LinkedTo one two n head) c.index-index.ensures.value c.store_link.ensures.linked in
    subst (λ (n : ℕ). IsLiveAndOut two n) (sym c.index-index.ensures.value)
    (out-linked c.args.id way.0 (view_of c.args.pass.now) one head way.1 way.2 c.load_head-head.ensures.loaded two linked)

pub put_in_front-requires-clause-link : goal.put_in_front-requires-clause-link
put_in_front-requires-clause-link c =
    let way = c.requires.locked in
    let head = c.load_head-head.result in
    let one = view_of c.load_head-head.new.pass in
    let two = view_of c.store_link.new.pass in
    let linked = subst (λ (n : ℕ). LinkedTo one two n head) c.index-index.ensures.value c.store_link.ensures.linked in
    subst (λ (n : ℕ). known_word two (SlotNext n) ≡ known_word two SlotHead) (sym c.index-index.ensures.value)
    (link-linked c.args.id way.0 (view_of c.args.pass.now) one head way.1 way.2 c.load_head-head.ensures.loaded two linked)

pub returns-clause-keeps : goal.returns-clause-keeps
returns-clause-keeps c = λ start begun at.
    let head = c.load_head-head.result in
    let one = view_of c.load_head-head.new.pass in
    let two = view_of c.store_link.new.pass in
    let next = view_of c.put_in_front.new.pass in
    let linked = subst (λ (n : ℕ). LinkedTo one two n head) c.index-index.ensures.value c.store_link.ensures.linked in
    put-back c.args.id start (view_of c.args.pass.now) one head begun at c.load_head-head.ensures.loaded two linked next (subst (λ (n : ℕ). PutInFront two next n) c.index-index.ensures.value c.put_in_front.ensures.put)
