-- A creation and a destruction that were begun.
use Rattle.std.proofs.Common.{◌≡◌, ℕ, ◌<◌, ◌^◌, [], None, refl, sym, subst, arith}
use Rattle.std.proofs.Math.Nat.{mod-lt}
use Rattle.body_ident.specs.Id.{Id}
use Rattle.fixed_box.specs.declared.fix_box.FixBox.{FixBox}
use Rattle.word_map.specs.declared.config.Config.{Config}
use Rattle.word_map.specs.Limits.{IsConfig}
use Rattle.word_map.proofs.Stripes.{stripes-range}
use Rattle.word_map.specs.Names.{index_lock, stripe_of}
use Rattle.core_state.specs.declared.view.Mode.TheVariants.{Write}
use Rattle.core_state.specs.declared.view.Task.TheVariants.{Nothing}
use Rattle.core_state.specs.declared.view.View.{View}
use Rattle.core_state.specs.View.{IsPass}
use Rattle.pass_table.specs.declared.take_op.TakeOp.{TakeOp}
use Rattle.pass_table.specs.Holding.{IsAtRest}
use Rattle.pass_table.specs.TakeTurns.{taking_of, IsTaking}
use Rattle.pass_table.proofs.Working.{worked-begun}
use Rattle.pass_table.specs.Work.{IsCalling}
use Rattle.body_look.specs.declared.look_op.LookDepth.TheVariants.{Phase as ItsPhase}
use Rattle.body_look.specs.declared.look_op.LookOp.{LookOp}
use Rattle.body_look.specs.stages.Looking.{looking_of, IsLooking}
use Rattle.body_slots.specs.declared.create_op.CreateOp.{CreateOp}
use Rattle.body_slots.specs.declared.create_op.CreateStage.TheVariants.{Taking}
use Rattle.body_slots.specs.declared.destroy_op.DestroyOp.{DestroyOp}
use Rattle.body_slots.specs.declared.destroy_op.DestroyStage.TheVariants.{Looking}
use Rattle.body_slots.specs.stages.Creating.{CreatesBody}
use Rattle.body_slots.specs.stages.Destroying.{DestroysBody, IsBegunFor}

module _ (layer : ℕ) (bounds : FixBox) (user : ℕ) (view next : View) (taking : TakeOp) where
  abbrev Begun : CreateOp
  Begun = record { layer = layer; bounds = bounds; user = user; stage = Taking taking; made = None }

  pub creating-begun : (lock number : ℕ) → lock ≡ index_lock view.config → IsPass view number → layer < view.config.layers → user < 2 ^ 32 → IsAtRest view → next ≡ view
      → IsTaking (taking_of lock Write) view taking next → CreatesBody Begun view Begun next
  creating-begun lock number same pass below fits rest still goes = (
    record { layer_as = refl; bounds_as = refl; user_as = refl; in_layers = below; fits = fits; rest = rest },
    (
      subst (λ (v : View). IsCalling view v [] Nothing []) (sym still) (worked-begun view number pass rest),
      subst (λ (v : View). IsTaking (taking_of (index_lock view.config) Write) v taking next) (sym still) (subst (λ (l : ℕ). IsTaking (taking_of l Write) view taking next) same goes),
    ),
  )

-- each body has its stripe before the lock of the list
stripe-first : (c : Config) (index : ℕ) → IsConfig c → stripe_of c index < index_lock c
stripe-first c index limits = let range = stripes-range c.stripes limits.stripes in mod-lt index {m = c.stripes} (omega arith)

pub begun-for : (id : Id) (view : View) → IsConfig view.config → id.index < view.config.bodies → IsAtRest view → IsBegunFor id view
begun-for id view limits below rest = record { below = below; striped = stripe-first view.config id.index limits; rest = rest }

module _ (id : Id) (view next : View) (look : LookOp) where
  abbrev BegunFor : DestroyOp
  BegunFor = record { id = id; look = look; stage = Looking; made = None }

  pub destroying-begun : IsConfig view.config → id.index < view.config.bodies → IsAtRest view → look ≡ looking_of view.config id Write ItsPhase → IsLooking look view look next → DestroysBody BegunFor view BegunFor next
  destroying-begun limits below rest is looking = (
    refl,
    begun-for id view limits below rest,
    subst (λ (first : LookOp). IsLooking first view look next) is looking,
  )
