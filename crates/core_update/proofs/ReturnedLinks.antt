-- Storing the link of a node that is to be given back keeps all laws: the node is in no list yet.
use Rattle.std.proofs.Common.{ap, refl, subst, sym, inl}
use Rattle.word_map.specs.declared.name.Name.TheVariants.{PoolNext}
use Rattle.word_map.specs.Names.{pool_lock}
use Rattle.core_state.specs.BodiesAgree.{BodiesAgreeIn, body_scope}
use Rattle.core_state.specs.Kind.{after_step}
use Rattle.core_state.specs.LocksAgree.{lock_scope}
use Rattle.core_state.specs.Retiring.{MayLinkReturned, link_returned}
use Rattle.core_state.proofs.Frames.{frame, step-same}
use Rattle.core_guard.proofs.Holders.{IsGuarded, guarded, locked}
use Rattle.core_guard.proofs.Leaving.{lawful}
use Rattle.core_guard.proofs.ListSteps.{IsAsideWord, Invariants-aside}
use Rattle.core_guard.proofs.LockSteps.{LocksAgree-other}
use Rattle.core_guard.proofs.Touched.{IsKept, kept}
use Rattle.core_batch.proofs.PoolSteps.{NodesInOnePlace-linked, world-pool}
use Rattle.core_update.proofs.NextReturned.{next-not_free}

-- ---- kind 10, of a node of a merged tree

pub Invariants-link_returned : IsKept MayLinkReturned link_returned
Invariants-link_returned =
    kept MayLinkReturned link_returned
    (λ core step a asked.
    Invariants-aside link_returned core step (lawful a)
    (record { aside = subst IsAsideWord (sym asked.names) tt; entry = λ value. refl; batches = refl; written = refl; walk = refl; rebuild = refl; call = inl refl })
    (LocksAgree-other core step (lawful a) link_returned (ap lock_scope.names asked.names) refl)
    (frame body_scope BodiesAgreeIn core (after_step link_returned core step)
    (step-same body_scope link_returned core step a.at a.pass (record { name = λ stored. ap body_scope.names asked.names; entry = λ reads value. refl; part = refl })) a.laws.bodies)
    (NodesInOnePlace-linked core step a asked.node asked.names (world-pool core step a asked.pool.lock) (next-not_free core step a asked.node asked.next)))

pub GuardsHold-link_returned : IsGuarded MayLinkReturned link_returned
GuardsHold-link_returned =
    guarded MayLinkReturned link_returned
    (λ core step a asked. locked link_returned core step a (λ c. pool_lock c) asked.pool.lock (PoolNext asked.node) asked.names (λ view. (λ h. h, tt)))
