-- What a destruction in one call leaves, part by part.
use Rattle.std.proofs.Common.{◌≡◌, ℕ, ◌≤◌, Bool, Option, Some, None, Ok, cond, ap, sym, ◌∙◌, subst, arith}
use Rattle.std.proofs.lemmas.Bool.{ne_eqb}
use Rattle.body_ident.specs.Id.{Id}
use Rattle.word_map.specs.declared.name.Name.TheVariants.{SlotHead, SlotNext, State}
use Rattle.word_map.specs.Names.{index_lock, stripe_of}
use Rattle.core_state.specs.declared.view.Mode.{Mode}
use Rattle.core_state.specs.declared.view.Mode.TheVariants.{Write}
use Rattle.core_state.specs.declared.view.View.{View}
use Rattle.core_state.specs.View.{HoldsNot, known_word}
use Rattle.core_state.specs.Lists.{HasList, IsLiveAndOut}
use Rattle.core_state.specs.Lives.{MayDestroy, destroy}
use Rattle.pass_table.specs.Stepping.{Stored}
use Rattle.pass_table.specs.TakeTurns.{taking_of, HasTaken}
use Rattle.pass_table.specs.Turning.{MadeBy}
use Rattle.pass_table.specs.Holding.{MayLetGo, LetGo}
use Rattle.pass_table.proofs.WorkLater.{worked-sizes, worked-mode}
use Rattle.free_list.specs.Heads.{LoadedHead, LinkedTo, PutInFront}
use Rattle.body_look.specs.declared.body_found.BodyFound.{BodyFound}
use Rattle.body_look.specs.declared.body_found.BodyFound.TheVariants.{Out as FoundOut}
use Rattle.body_look.specs.declared.look_op.LookDepth.TheVariants.{Phase as ItsPhase}
use Rattle.body_look.specs.stages.Looking.{HasLooked}
use Rattle.body_slots.specs.declared.destroy_op.DestroyStage.TheVariants.{Locked, Headed, Linked, InFront, Destroyed, Leaving}
use Rattle.body_slots.specs.stages.Destroying.{PastLook, IsBegunFor, IsFoundOut, DestroysOn}
use Rattle.body_slots.proofs.DestroyTurns.{has-list, has-out, list-done, found-out}
use Rattle.body_slots.proofs.DestroyEnds.{head-loaded, link-stored, put-first, destruction-calling, has-destroyed, may-leave_list, left-list}

-- ---- the lock of the list

-- the pass holds no lock from that of the list on
pub list-order : (id : Id) (start view : View) (lock : ℕ) → lock ≡ index_lock view.config → IsBegunFor id start → IsFoundOut id start view → (held : ℕ) → lock ≤ held → HoldsNot view held
list-order id start view lock is begun found held after =
    let same = is ∙ ap index_lock (worked-sizes start view _ found.0) in
    let below = begun.striped in
    worked-mode start view _ found.0 begun.rest held ∙ ap (λ (t : Bool). cond {A = Option Mode} t (Some Write) None) (ne_eqb (stripe_of start.config id.index) held (λ alike. absurd (omega arith)))

pub list-on : (id : Id) (view next : View) (lock : ℕ) → lock ≡ index_lock view.config → HasTaken (taking_of lock Write) view next → MadeBy view next None
    → DestroysOn id (λ start. IsFoundOut id start view) (λ start. PastLook id start next Locked)
list-on id view next lock is taken made = λ start begun found.
    list-done id start view next begun.rest (subst (λ (l : ℕ). HasTaken (taking_of l Write) view next) (is ∙ ap index_lock (worked-sizes start view _ found.0)) taken) made found

-- ---- the list

module _ (id : Id) (start view one : View) (head : ℕ) (begun : IsBegunFor id start) (at : PastLook id start view Locked) (loaded : LoadedHead view one head) where
  headed : PastLook id start one (Headed head)
  headed = head-loaded id start view one head begun loaded at

  pub list-headed : HasList one
  list-headed = has-list id start one begun.rest headed.0

  pub out-headed : IsLiveAndOut one id.index
  out-headed = has-out id start one _ _ begun headed.0 headed.1

  pub head-headed : head ≡ known_word one SlotHead
  head-headed = sym headed.2

  module _ (two : View) (linked : LinkedTo one two id.index head) where
    linked_at : PastLook id start two Linked
    linked_at = link-stored id start one two head begun linked headed

    pub list-linked : HasList two
    list-linked = has-list id start two begun.rest linked_at.0

    pub out-linked : IsLiveAndOut two id.index
    out-linked = has-out id start two _ _ begun linked_at.0 linked_at.1

    pub link-linked : known_word two (SlotNext id.index) ≡ known_word two SlotHead
    link-linked = linked_at.2

    pub put-back : (next : View) → PutInFront two next id.index → PastLook id start next InFront
    put-back next put = put-first id start two next begun put linked_at

-- ---- the body

module _ (id : Id) (view next : View) (value : ℕ) (is : value ≡ id.seq) (stored : Stored MayDestroy destroy view (State id.index) value next) where
  pub destroyed-on : DestroysOn id (λ start. PastLook id start view InFront) (λ start. PastLook id start next Destroyed)
  destroyed-on = λ start begun at. (destruction-calling id start view value begun at is next stored, has-destroyed id start view value begun at is next stored)

-- ---- letting locks go

pub may-leave-out : (id : Id) (start view : View) (lock : ℕ) → lock ≡ index_lock view.config → IsBegunFor id start → PastLook id start view Destroyed → MayLetGo view lock
may-leave-out id start view lock is begun at = subst (MayLetGo view) (sym (is ∙ ap index_lock (worked-sizes start view _ at.0))) (may-leave_list id start view begun at)

pub left-on : (id : Id) (view next : View) (lock found : ℕ) → lock ≡ index_lock view.config → LetGo view lock found next → DestroysOn id (λ start. PastLook id start view Destroyed) (λ start. PastLook id start next (Leaving (Ok tt)))
left-on id view next lock found is go = λ start begun at. left-list id start view begun at next found (subst (λ (l : ℕ). LetGo view l found next) (is ∙ ap index_lock (worked-sizes start view _ at.0)) go)

-- ---- what a look found

pub out-on : (id : Id) (view : View) (found : BodyFound) → found ≡ FoundOut → DestroysOn id (λ start. HasLooked id Write ItsPhase start view found) (λ start. IsFoundOut id start view)
out-on id view found is = λ start begun looked. (looked.stripe.worked, found-out id start view found is looked)
