-- A guarded body and the guards of it: while others act, and when the pass gives it another user number.
use Rattle.std.proofs.Common.{◌≡◌, ℕ, ◌<◌, List, [], ◌∷◌, ◌++◌, Some, None, append_assoc, refl, ap, sym, ◌∙◌, subst}
use Rattle.std.proofs.lemmas.Option.{same_Some}
use Rattle.body_ident.specs.Id.{Id}
use Rattle.word_map.specs.declared.config.Config.{Config}
use Rattle.word_map.specs.declared.name.Name.TheVariants.{State, User}
use Rattle.word_map.specs.Names.{stripe_of}
use Rattle.scene_model.specs.declared.entry.Entry.TheVariants.{SetUser}
use Rattle.core_state.specs.declared.item.Item.{Item}
use Rattle.core_state.specs.declared.view.Mode.TheVariants.{Write}
use Rattle.core_state.specs.declared.view.Mode.{Mode}
use Rattle.core_state.specs.declared.view.View.{View}
use Rattle.core_state.specs.View.{IsPass, mode_of, number_of}
use Rattle.core_state.specs.Lives.{MaySetUser, set_user}
use Rattle.core_state.proofs.Quiet.{in_first, in_second, append_cut, one_cut}
use Rattle.pass_table.specs.Knowing.{KnowsMore, StoresAlone}
use Rattle.pass_table.specs.Stepping.{Stepped}
use Rattle.pass_table.specs.Calls.{Adds, Advances}
use Rattle.pass_table.proofs.Turning.{made-entry}
use Rattle.pass_table.proofs.Calling.{Adds-refl, adds-more, adds-made, stored-steady, stepped-stores}
use Rattle.pass_table.specs.Bodies.{IsAlone}
use Rattle.pass_table.specs.Bodies.{IsGuarding}
use Rattle.pass_table.proofs.LockedBodies.{live-steady, guarding-more}
use Rattle.pass_table.proofs.Bodies.{stepped-current}
use Rattle.pass_table.proofs.WorkLater.{tells-alone, tells-more}
use Rattle.pass_table.proofs.Working.{tells-refl}
use Rattle.pass_table.specs.Work.{Tells}
use Rattle.pass_table.specs.Belongings.{belongings_of}
use Rattle.body_lock.specs.Seeing.{user_item, HasSetUser}

module _ (number : ℕ) (id : Id) (mode : Mode) (view : View) (guarding : IsGuarding number id mode view) where
  -- what others did added nothing
  pub guarding-adds : (next : View) → KnowsMore view next → Adds view next []
  guarding-adds next more = adds-more view view next [] refl (Adds-refl view number guarding.pass) more

  pub guarding-tells : (next : View) → KnowsMore view next → Tells view next []
  guarding-tells next more = tells-more view view next [] refl (tells-refl view number guarding.pass) more

-- and all that the pass has beside its locks and its task is as it was
pub more-keeps : (view next : View) → KnowsMore view next → belongings_of next ≡ belongings_of view
more-keeps view next more = ap belongings_of more.rest

pub alone-more : (number : ℕ) (id : Id) (mode : Mode) (view next : View) → IsAlone number id mode view → KnowsMore view next → IsAlone number id mode next
alone-more number id mode view next alone more = record {
  guarding = guarding-more number id mode view alone.guarding next more;
  only = λ lock other.
      ap (λ (v : View). mode_of v.locks lock) more.rest
      ∙ alone.only lock (λ same. other (same ∙ ap (λ (v : View). stripe_of v.config id.index) (sym more.rest)));
  still = ap (λ (v : View). v.walk.is_on) more.rest ∙ alone.still;
}

-- what giving the body another user number tells
pub user-set : (view next : View) (found at index value user : ℕ) → at ≡ index → value ≡ user → Stepped MaySetUser set_user view (User at) value 0 found next → (number : ℕ) → IsPass view number
    → HasSetUser view next number index user
user-set view next found at index value user same_index same_user made number pass =
    let stepped : Stepped MaySetUser set_user view (User index) user 0 found next =
    subst (λ (i : ℕ). Stepped MaySetUser set_user view (User i) user 0 found next) same_index (subst (λ (n : ℕ). Stepped MaySetUser set_user view (User at) n 0 found next) same_user made)
    in
    let same : stepped.number ≡ number = same_Some stepped.number number (sym stepped.allowed.pass ∙ pass) in
    let item : Item = user_item stepped.number index user in
    record {
      stored = subst (λ (n : ℕ). Advances view next (user_item n index user ∷ [])) same (stepped-stores MaySetUser set_user view next (User index) user 0 found stepped item refl refl);
      made = made-entry MaySetUser set_user view next (User index) user 0 found stepped number user pass refl;
      now = stepped-current MaySetUser set_user view next (User index) user 0 found stepped;
      rest = stepped.leaves ∙ ap (λ (l : List Item). record view { known = l; joined = None }) (sym (ap (λ (v : View). v.known) stepped.leaves));
    }

-- what is guarded is guarded after it
module _ (number : ℕ) (id : Id) (mode : Mode) (view next : View) (pass index user : ℕ) (old : IsGuarding number id mode view) (set : HasSetUser view next pass index user) where
  user-sizes : next.config ≡ view.config
  user-sizes = ap (λ (v : View). v.config) set.rest

  user-locks : (lock : ℕ) → mode_of next.locks lock ≡ mode_of view.locks lock
  user-locks lock = ap (λ (v : View). mode_of v.locks lock) set.rest

  pub user-guarding : IsGuarding number id mode next
  user-guarding = record {
    pass = ap (λ (v : View). number_of v) set.rest ∙ old.pass;
    stripe = user-locks (stripe_of next.config id.index) ∙ (ap (λ (c : Config). mode_of view.locks (stripe_of c id.index)) user-sizes ∙ old.stripe);
    below = subst (λ (c : Config). id.index < c.bodies) (sym user-sizes) old.below;
    state =
        stored-steady view next (user_item pass index user) set.stored user-sizes (State id.index) (λ e. absurd (cc)) (live-steady id mode view (State id.index) old.stripe old.state refl)
        ∙ old.state;
    done = ap (λ (v : View). v.call.task) set.rest ∙ old.done;
  }

  -- and the pass has added the new number
  pub user-adds : Adds view next (SetUser index user ∷ [])
  user-adds = adds-made view view next [] (Some (record { pass = pass; entry = SetUser index user })) refl (Adds-refl view number old.pass) set.made

  -- it has stored that word alone
  user-stored : StoresAlone view next (User index)
  user-stored =
      let stored = set.stored in
      record {
        since = stored.since ++ user_item pass index user ∷ [];
        known = stored.known ∙ append_assoc view.known stored.since (user_item pass index user ∷ []);
        own = λ early later item parts mine.
            elim (append_cut stored.since (user_item pass index user ∷ []) early later item parts) [
              | in_first rest p ↦ absurd ((stored.others early rest item p).foreign mine)
              | in_second front p q ↦ ap (λ (it : Item). it.name) (one_cut (user_item pass index user) item front later q)
            ];
      }

  pub user-tells : Tells view next []
  user-tells = tells-alone view view next [] (User index) refl (tells-refl view number old.pass) user-stored refl

pub user-keeps : (view next : View) (pass index user : ℕ) → HasSetUser view next pass index user → belongings_of next ≡ belongings_of view
user-keeps view next pass index user set = ap belongings_of set.rest

pub user-alone : (number : ℕ) (id : Id) (view next : View) (user : ℕ) → IsAlone number id Write view → HasSetUser view next number id.index user → IsAlone number id Write next
user-alone number id view next user alone set = record {
  guarding = user-guarding number id Write view next number id.index user alone.guarding set;
  only = λ lock other.
      ap (λ (v : View). mode_of v.locks lock) set.rest
      ∙ alone.only lock (λ same. other (same ∙ ap (λ (v : View). stripe_of v.config id.index) (sym set.rest)));
  still = ap (λ (v : View). v.walk.is_on) set.rest ∙ alone.still;
}
