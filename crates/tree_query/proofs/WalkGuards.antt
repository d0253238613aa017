-- What a walk leaves of all else that its pass has: what is guarded is guarded still, and the locks, the batches and what is
-- under way are as they were.
use Rattle.std.proofs.Common.{◌≡◌, ℕ, ◌<◌, List, false, refl, ap, sym, ◌∙◌, subst}
use Rattle.body_ident.specs.Id.{Id}
use Rattle.word_map.specs.declared.config.Config.{Config}
use Rattle.word_map.specs.declared.name.Name.TheVariants.{State}
use Rattle.word_map.specs.Names.{stripe_of}
use Rattle.core_state.specs.declared.item.Store.{Store}
use Rattle.core_state.specs.declared.view.Mode.{Mode}
use Rattle.core_state.specs.declared.view.View.{View}
use Rattle.core_state.specs.View.{number_of, mode_of}
use Rattle.core_state.proofs.Quiet.{quiet-word}
use Rattle.pass_table.specs.Bodies.{IsGuarding, IsAlone}
use Rattle.pass_table.specs.Belongings.{belongings_of}
use Rattle.pass_table.specs.Holding.{IsAtRest}
use Rattle.pass_table.specs.Passes.{view_of, IsOf, IsIdle}
use Rattle.pass_table.specs.declared.pass.Pass.{Pass}
use Rattle.pass_table.specs.declared.world.World.{World}
use Rattle.pass_table.proofs.LockedBodies.{live-steady}
use Rattle.tree_query.specs.Walking.{HasWalked}

module _ (start next : View) (stores : List Store) (h : HasWalked start next stores) where
  pub walked-sizes : next.config ≡ start.config
  walked-sizes = ap (λ (v : View). v.config) h.left

  pub walked-role : next.role ≡ start.role
  walked-role = ap (λ (v : View). v.role) h.left

  -- the locks are as they were
  pub walked-locks : next.locks ≡ start.locks
  walked-locks = ap (λ (v : View). v.locks) h.left

  -- and so is what is under way
  pub walked-call : next.call ≡ start.call
  walked-call = ap (λ (v : View). v.call) h.left

  -- and all that the pass has beside these
  pub walked-keeps : belongings_of next ≡ belongings_of start
  walked-keeps = ap belongings_of h.left

  -- a pass at rest that has ended its walk is at rest
  pub walked-rest : next.walk.is_on ≡ false → IsAtRest start → IsAtRest next
  walked-rest still rest = record {
    still = still;
    free = λ lock. ap (λ (v : View). mode_of v.locks lock) h.left ∙ rest.free lock;
    done = ap (λ (v : View). v.call.task) h.left ∙ rest.done;
  }

  -- what is guarded is guarded still: its state word stands
  pub walked-guards : (number : ℕ) (id : Id) (mode : Mode) → IsGuarding number id mode start → IsGuarding number id mode next
  walked-guards number id mode guarding = record {
    pass = ap number_of h.left ∙ guarding.pass;
    stripe = ap (λ (v : View). mode_of v.locks (stripe_of v.config id.index)) h.left ∙ guarding.stripe;
    below = subst (λ (c : Config). id.index < c.bodies) (sym walked-sizes) guarding.below;
    state = quiet-word start next (State id.index) h.quiet walked-sizes (live-steady id mode start (State id.index) guarding.stripe guarding.state refl) ∙ guarding.state;
    done = ap (λ (v : View). v.call.task) h.left ∙ guarding.done;
  }

  -- and the pass holds no other lock where it held none
  pub walked-alone : next.walk.is_on ≡ false → (number : ℕ) (id : Id) (mode : Mode) → IsAlone number id mode start → IsAlone number id mode next
  walked-alone still number id mode alone = record {
    still = still;
    guarding = walked-guards number id mode alone.guarding;
    only = λ lock apart. ap (λ (v : View). mode_of v.locks lock) h.left ∙ alone.only lock (λ same. apart (same ∙ ap (λ (c : Config). stripe_of c id.index) (sym walked-sizes)));
  }

-- a pass that was idle is idle
pub walked-idle : (world : World) (old new : Pass) (stores : List Store) → HasWalked (view_of old) (view_of new) stores → (view_of new).walk.is_on ≡ false → IsOf world new → IsIdle world old → IsIdle world new
walked-idle world old new stores h still of idle = record { of = of; rest = walked-rest (view_of old) (view_of new) stores h still idle.rest }
