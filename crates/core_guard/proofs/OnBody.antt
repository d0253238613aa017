-- A step of a pass that holds the stripe of a body, does nothing or something with that body, and goes on so: it changes its
-- call alone.
use Rattle.std.proofs.Common.{◌≡◌, ◌≢◌, ◌↔◌, ℕ, false, Some, refl, sym, ◌∙◌, subst, inl, inr}
use Rattle.std.specs.Prelude.{⊤}
use Rattle.std.proofs.lemmas.Option.{none-some}
use Rattle.word_map.specs.declared.config.Config.{Config}
use Rattle.word_map.specs.declared.name.Name.{Name}
use Rattle.word_map.specs.declared.name.Name.TheVariants.{State, Phase, Layer, User, BoxWord, LocA, LocB}
use Rattle.word_map.specs.Names.{stripe_of}
use Rattle.core_state.specs.declared.view.Mode.TheVariants.{Write}
use Rattle.core_state.specs.declared.view.Task.{Task}
use Rattle.core_state.specs.declared.view.Task.TheVariants.{Nothing, Moving, Removing, Placing}
use Rattle.core_state.specs.declared.view.Call.{Call}
use Rattle.core_state.specs.declared.view.View.{View}
use Rattle.core_state.specs.View.{IsPass, Holds}
use Rattle.core_state.specs.Core.{Core, IsViewAt}
use Rattle.core_state.specs.Kind.{Kind, Step, after_step}
use Rattle.core_state.specs.Parts.{task_on_pool}
use Rattle.core_state.specs.Scope.{Sight}
use Rattle.core_state.specs.Updates.{IsPlacing}
use Rattle.core_state.specs.Bodies.{MovesBody}
use Rattle.core_state.specs.LocksAgree.{LocksAgree, lock_scope}
use Rattle.core_state.specs.BodiesAgree.{ChangesList, IsUnderStripe}
use Rattle.core_state.specs.NodesInOnePlace.{NodesInOnePlace, node_scope}
use Rattle.core_state.specs.TreesSound.{tree_scope}
use Rattle.core_state.specs.Nodes.{Nodes, Stands, Above}
use Rattle.core_state.specs.LocationsHold.{Removes, IsLocation}
use Rattle.core_state.specs.ReadersCounted.{ClimbsInTrees}
use Rattle.core_guard.proofs.BodyTouch.{stripe-others}
use Rattle.core_guard.proofs.Leaving.{Acts, IsHandled, Last, body_of}
use Rattle.core_guard.proofs.PlacesStay.{removes-handles, places-handles}
use Rattle.core_guard.proofs.Recalled.{Recalls, recalled, task-is, LocksAgree-recalled, NodesInOnePlace-recalled}
use Rattle.core_guard.proofs.Settled.{sound}
use Rattle.core_state.proofs.Lookups.{at_one}
use Rattle.std.proofs.lemmas.Bool.{cases_eq}

-- ---- tasks

-- it does something with this body, or nothing
abbrev pub IsOn : ℕ → Task → Type 0
IsOn index Nothing = ⊤
IsOn index (Moving i target) = i ≡ index
IsOn index (Removing i) = i ≡ index
IsOn index (Placing i) = i ≡ index
IsOn index _ = ⊥

pub on-handles : (index i : ℕ) (task : Task) → IsOn index task → IsHandled task i → i ≡ index
on-handles index i (Moving j target) on h = sym h ∙ on
on-handles index i (Removing j) on h = sym h ∙ on
on-handles index i (Placing j) on h = sym h ∙ on
on-handles index i _ on h = absurd h

pub on-moves : (index i : ℕ) (task : Task) → IsOn index task → MovesBody task i → i ≡ index
on-moves index i (Moving j target) on h = sym h ∙ on
on-moves index i _ on h = absurd h

on-pool : (index : ℕ) (task : Task) → IsOn index task → task_on_pool task ≡ Nothing
on-pool index Nothing on = refl
on-pool index (Moving j target) on = refl
on-pool index (Removing j) on = refl
on-pool index (Placing j) on = refl
on-pool index _ on = absurd on

pub on-lists : (index : ℕ) (task : Task) → IsOn index task → ¬ ChangesList task
on-lists index Nothing on c = c
on-lists index (Moving j target) on c = c
on-lists index (Removing j) on c = c
on-lists index (Placing j) on c = c
on-lists index _ on c = on

pub on-stripe : (s : Sight) (view : View) (index : ℕ) (task : Task) → IsOn index task → Holds view (stripe_of s.config index) Write → IsUnderStripe s view task
on-stripe s view index (Moving j target) on holds = subst (λ (k : ℕ). Holds view (stripe_of s.config k) Write) (sym on) holds
on-stripe s view index (Removing j) on holds = subst (λ (k : ℕ). Holds view (stripe_of s.config k) Write) (sym on) holds
on-stripe s view index (Placing j) on holds = subst (λ (k : ℕ). Holds view (stripe_of s.config k) Write) (sym on) holds
on-stripe s view index _ on holds = tt

-- and it climbs from that body alone
pub climbs-on : (nodes : Nodes) (s : Sight) (index : ℕ) (task : Task) → IsOn index task → ((n k x y : ℕ) → IsLocation s index n k → Above s.word n k x y → Stands (nodes.home x)) → ClimbsInTrees nodes s task
climbs-on nodes s index (Moving i target) on stand = subst (λ (j : ℕ). ClimbsInTrees nodes s (Moving j target)) (sym on) stand
climbs-on nodes s index (Removing i) on stand = subst (λ (j : ℕ). ClimbsInTrees nodes s (Removing j)) (sym on) stand
climbs-on nodes s index _ on stand = tt

-- ---- words

-- what three laws do not read
pub record IsUnread (name : Name) : Type 0 where
  pub locks : lock_scope.names name ≡ false
  pub nodes : node_scope.names name ≡ false
  pub trees : tree_scope.names name ≡ false

-- a word of a body
pub body-unread : (name : Name) (i : ℕ) → body_of name ≡ Some i → IsUnread name
body-unread (State j) i e = record { locks = refl; nodes = refl; trees = refl }
body-unread (Phase j) i e = record { locks = refl; nodes = refl; trees = refl }
body-unread (Layer j) i e = record { locks = refl; nodes = refl; trees = refl }
body-unread (User j) i e = record { locks = refl; nodes = refl; trees = refl }
body-unread (BoxWord j k) i e = record { locks = refl; nodes = refl; trees = refl }
body-unread (LocA j) i e = record { locks = refl; nodes = refl; trees = refl }
body-unread (LocB j) i e = record { locks = refl; nodes = refl; trees = refl }
body-unread _ i e = absurd (none-some i e)

-- ---- the step

module _ (kind : Kind) (core : Core) (step : Step) (index : ℕ) (call : Call) where
  pub record OnBody : Type 0 where
    pub stripe : Holds step.view (stripe_of step.view.config index) Write
    pub before : IsOn index step.view.call.task
    pub after : IsOn index call.task
    pub recalls : Recalls kind core step call

  module _ (a : Acts core step) (o : OnBody) where
    pub own-stripe : Holds step.view (stripe_of core.config index) Write
    own-stripe = subst (λ (c : Config). Holds step.view (stripe_of c index) Write) (sound core step a).config o.stripe

    pub stripe-after : Holds (Last kind core step) (stripe_of core.config index) Write
    stripe-after = subst (λ (v : View). Holds v (stripe_of core.config index) Write) (sym (recalled kind core step call o.recalls)) own-stripe

    pub on-after : IsOn index (Last kind core step).call.task
    on-after = subst (IsOn index) (sym (task-is kind core step call o.recalls)) o.after

    -- no other pass does anything with the body, and this one nothing with another one
    pub others-else : (seat number : ℕ) (view : View) → seat ≢ step.seat → IsViewAt core seat view → IsPass view number → ¬ IsHandled view.call.task index
    others-else = stripe-others kind core step a index own-stripe

    -- so what is done with the body alone nobody does, if this pass does not
    pub nobody-does : (P : Task → Type 0) → ((task : Task) → P task → IsHandled task index) → ¬ P step.view.call.task → (seat number : ℕ) (view : View) → IsViewAt core seat view → IsPass view number → ¬ P view.call.task
    nobody-does P handles own seat number view found is does =
        elim (cases_eq seat step.seat) [
          | inl same ↦
              let one : step.view ≡ view = at_one core.views step.seat step.view view a.at (subst (λ (k : ℕ). IsViewAt core k view) same found) in
              own (subst (λ (v : View). P v.call.task) (sym one) does)
          | inr apart ↦ others-else seat number view apart found is (handles view.call.task does)
        ]

    pub removes-else : (i : ℕ) → i ≢ index → Removes step.view.call.task i ↔ Removes (Last kind core step).call.task i
    removes-else i apart = (
      λ h. absurd (apart (on-handles index i step.view.call.task o.before (removes-handles step.view.call.task i h))),
      λ h. absurd (apart (on-handles index i (Last kind core step).call.task on-after (removes-handles (Last kind core step).call.task i h))),
    )

    pub places-else : (i : ℕ) → i ≢ index → IsPlacing step.view.call.task i ↔ IsPlacing (Last kind core step).call.task i
    places-else i apart = (
      λ h. absurd (apart (on-handles index i step.view.call.task o.before (places-handles step.view.call.task i h))),
      λ h. absurd (apart (on-handles index i (Last kind core step).call.task on-after (places-handles (Last kind core step).call.task i h))),
    )

    pub LocksAgree-on : lock_scope.names step.name ≡ false → LocksAgree (after_step kind core step)
    LocksAgree-on hidden = LocksAgree-recalled kind core step call o.recalls a hidden

    pub NodesInOnePlace-on : node_scope.names step.name ≡ false → NodesInOnePlace a.laws.nodes (after_step kind core step)
    NodesInOnePlace-on hidden = NodesInOnePlace-recalled kind core step call o.recalls a hidden (on-pool index call.task o.after ∙ sym (on-pool index step.view.call.task o.before))
