-- What a guard of several bodies keeps.
use Rattle.std.proofs.Common.{◌≡◌, ℕ, ◌<◌, List, [], length, get_or, ap, sym, ◌∙◌, subst}
use Rattle.std.proofs.lemmas.List.Elements.{All-get_or, All-weaker}
use Rattle.body_ident.specs.Id.{Id}
use Rattle.scene_model.specs.declared.body_view.BodyView.{BodyView}
use Rattle.word_map.specs.declared.config.Config.{Config}
use Rattle.core_state.specs.declared.view.Mode.{Mode}
use Rattle.core_state.specs.declared.view.View.{View}
use Rattle.core_state.specs.declared.view.LockStep.{LockStep}
use Rattle.core_state.specs.View.{mode_of, number_in}
use Rattle.pass_table.specs.Knowing.{KnowsMore}
use Rattle.pass_table.specs.Calls.{Adds, AtPoint}
use Rattle.body_lock.specs.declared.multi_guard.MultiEntry.{MultiEntry}
use Rattle.body_lock.specs.declared.multi_guard.MultiEntry.TheVariants.{Reached, Gone}
use Rattle.body_lock.specs.declared.multi_guard.LockedBody.{LockedBody}
use Rattle.body_lock.specs.declared.multi_guard.MultiGuard.{MultiGuard}
use Rattle.pass_table.specs.Bodies.{IsGuarding, IsCurrent}
use Rattle.pass_table.proofs.LockedBodies.{guarding-more}
use Rattle.pass_table.specs.Work.{Tells}
use Rattle.body_lock.specs.Seeing.{IsSeenAt, HasSetUser}
use Rattle.body_lock.specs.Stripes.{HoldsAll}
use Rattle.body_lock.specs.Multi.{IsReachGood, IsEntryGood, IsMultiGood, SeesBody}
use Rattle.body_lock.proofs.Standing.{guarding-adds, guarding-tells, user-guarding}
use Rattle.body_lock.proofs.Staying.{guarded-stays}

-- the locks of a set are held as before
holds-kept : (view next : View) (bits : ℕ) (mode : Mode) → ((lock : ℕ) → mode_of next.locks lock ≡ mode_of view.locks lock) → HoldsAll view bits mode → HoldsAll next bits mode
holds-kept view next bits mode same holds = record { held = λ lock has. same lock ∙ holds.held lock has; others = λ lock has. same lock ∙ holds.others lock has }

pub holds-more : (view next : View) (bits : ℕ) (mode : Mode) → KnowsMore view next → HoldsAll view bits mode → HoldsAll next bits mode
holds-more view next bits mode more = holds-kept view next bits mode (λ lock. ap (λ (v : View). mode_of v.locks lock) more.rest)

-- A step that leaves the locks and what is under way keeps the guard as long as it keeps what is said of each body that is guarded
module _ (guard : MultiGuard) (view next : View) (sizes : next.config ≡ view.config) (role : next.role ≡ view.role) (locks : next.locks ≡ view.locks) (task : next.call.task ≡ view.call.task) (walk : next.walk.is_on ≡ view.walk.is_on)
    (guards : (id : Id) → IsGuarding guard.number id guard.mode view → IsGuarding guard.number id guard.mode next) where
  reach-kept : (id : Id) (entry : MultiEntry) → IsReachGood guard.number guard.mode view id entry → IsReachGood guard.number guard.mode next id entry
  reach-kept id Reached good = guards id good
  reach-kept id (Gone state) good = tt

  pub multi-kept : IsMultiGood guard view → IsMultiGood guard next
  multi-kept good = record {
    pass = ap number_in role ∙ good.pass;
    holds = holds-kept view next guard.stripes.bits guard.mode (λ lock. ap (λ (l : List LockStep). mode_of l lock) locks) good.holds;
    within = λ stripe has. subst (λ (c : Config). stripe < c.stripes) (sym sizes) (good.within stripe has);
    done = task ∙ good.done;
    still = walk ∙ good.still;
    each =
        All-weaker (IsEntryGood guard.number guard.mode view) (IsEntryGood guard.number guard.mode next) (λ body. reach-kept body.id body.entry) guard.bodies.items
        good.each;
  }

pub multi-more : (guard : MultiGuard) (view next : View) → KnowsMore view next → IsMultiGood guard view → IsMultiGood guard next
multi-more guard view next more =
    multi-kept guard view next (ap (λ (v : View). v.config) more.rest) (ap (λ (v : View). v.role) more.rest) (ap (λ (v : View). v.locks) more.rest) (ap (λ (v : View). v.call.task) more.rest)
    (ap (λ (v : View). v.walk.is_on) more.rest)
    (λ id good. guarding-more guard.number id guard.mode view good next more)

-- the k-th body, where it was reached
module _ (guard : MultiGuard) (view : View) (good : IsMultiGood guard view) (k : ℕ) (within : k < length guard.bodies.items) (body : LockedBody) (is : (past : LockedBody) → body ≡ get_or guard.bodies.items k past)
    (reached : body.entry ≡ Reached) where
  pub reached-guarding : IsGuarding guard.number body.id guard.mode view
  reached-guarding =
      subst (IsReachGood guard.number guard.mode view body.id) reached
      (subst (IsEntryGood guard.number guard.mode view) (sym (is body)) (All-get_or (IsEntryGood guard.number guard.mode view) guard.bodies.items k body within good.each))

  pub reached-adds : (next : View) → KnowsMore view next → Adds view next []
  reached-adds next more = guarding-adds guard.number body.id guard.mode view reached-guarding next more

  pub reached-tells : (next : View) → KnowsMore view next → Tells view next []
  reached-tells next more = guarding-tells guard.number body.id guard.mode view reached-guarding next more

  pub reached-sees : (next : View) (shown : BodyView) → KnowsMore view next → IsCurrent next → AtPoint view next (IsSeenAt view.config view.known body.id shown)
      → (past : LockedBody) → ((get_or guard.bodies.items k past).entry ≡ Reached) × SeesBody (get_or guard.bodies.items k past).id view next shown
  reached-sees next shown more now seen past =
      subst (λ (b : LockedBody). (b.entry ≡ Reached) × SeesBody b.id view next shown) (is past)
      (reached, record { now = now; more = more; stays = guarded-stays guard.number body.id guard.mode view next reached-guarding more now; seen = seen })

-- after another user number of one of its bodies
pub multi-set : (guard : MultiGuard) (view next : View) (index user : ℕ) → HasSetUser view next guard.number index user → IsMultiGood guard view → IsMultiGood guard next
multi-set guard view next index user set =
    multi-kept guard view next (ap (λ (v : View). v.config) set.rest) (ap (λ (v : View). v.role) set.rest) (ap (λ (v : View). v.locks) set.rest) (ap (λ (v : View). v.call.task) set.rest)
    (ap (λ (v : View). v.walk.is_on) set.rest)
    (λ id good. user-guarding guard.number id guard.mode view next guard.number index user good set)
