-- What is so of each pass between two calls, since what it knows was the whole log of a core that stands.
use Rattle.std.proofs.Common.{◌≡◌, ℕ, Bool, true, false, ◌⊎◌, inl, inr, List, [], ◌∷◌, length, Option, Some, None, refl, ap, sym, ◌∙◌, subst}
use mathlib.Core.Logic.{∥∥₁_elim}
use Rattle.std.proofs.Props.{props}
use Rattle.std.proofs.lemmas.Bool.{false≢true}
use Rattle.std.proofs.lemmas.Option.{none-some}
use Rattle.core_guard.proofs.Seats.{KeepsNumber, each-seat, seen_of}
use Rattle.scene_model.specs.declared.body_view.Phase.{Phase}
use Rattle.scene_model.specs.declared.body_view.Phase.TheVariants.{Out, In}
use Rattle.scene_model.specs.declared.entry.Entry.{Entry}
use Rattle.scene_model.specs.declared.entry.Entry.TheVariants.{Create, Destroy, Mark, Unmark, Join, Remove, Move, SetUser}
use Rattle.scene_model.specs.declared.entry.Made.{Made}
use Rattle.scene_model.specs.Scene.{Scene}
use Rattle.scene_model.specs.Step.{IsPossible, IsWithinLayers, after_entry}
use Rattle.scene_model.specs.History.{IsLawfulFrom, IsLawfulHistory}
use Rattle.word_map.specs.declared.config.Config.{Config}
use Rattle.core_state.specs.declared.item.Item.{Item}
use Rattle.core_state.specs.declared.view.Joined.{Joined}
use Rattle.core_state.specs.declared.view.LockStep.{LockStep}
use Rattle.core_state.specs.declared.view.Mode.TheVariants.{Write}
use Rattle.core_state.specs.declared.view.Task.{Task}
use Rattle.core_state.specs.declared.view.Task.TheVariants.{Nothing, Creating, Destroying, Pooling, Moving, Removing, Placing}
use Rattle.core_state.specs.declared.view.View.{View}
use Rattle.core_state.specs.Log.{history}
use Rattle.core_state.specs.View.{IsPass, mode_of, Holds, HoldsNot}
use Rattle.core_state.specs.Parts.{task_on_pool}
use Rattle.core_state.specs.Scope.{Sight, sight}
use Rattle.core_state.specs.BodiesAgree.{body_scope, ListsFree, IsUnderStripe}
use Rattle.core_state.specs.NodesInOnePlace.{node_scope, PoolsUnder}
use Rattle.pass_table.specs.Holding.{IsAtRest}
use Rattle.pass_table.specs.Knowing.{KnowsLawful}
use Rattle.pass_table.specs.Bodies.{IsCurrent}

-- ---- the history is lawful

phase-prop : (p q : Phase) → IsProp (p ≡ q)
phase-prop p q = hlevel props

-- a body that is out, or in, is not both
either-prop : (p : Phase) → IsProp ((p ≡ Out) ⊎ (p ≡ In))
either-prop p (inl e) (inl f) = ap inl (phase-prop p Out e f)
either-prop p (inr e) (inr f) = ap inr (phase-prop p In e f)
either-prop p (inl e) (inr f) = absurd (apart (sym e ∙ f))
  where
    apart : ¬ (Out ≡ In)
    apart same = absurd cc
either-prop p (inr e) (inl f) = absurd (apart (sym f ∙ e))
  where
    apart : ¬ (Out ≡ In)
    apart same = absurd cc

possible-prop : (scene : Scene) (entry : Entry) → IsProp (IsPossible scene entry)
possible-prop scene (Create index layer bounds user) = hlevel props
possible-prop scene (Destroy index) = hlevel (props, phase-prop)
possible-prop scene (Mark index) = hlevel (props, phase-prop)
possible-prop scene (Unmark index) = hlevel (props, phase-prop)
possible-prop scene (Join layer indexes) = hlevel (props, phase-prop)
possible-prop scene (Remove index) = hlevel (props, phase-prop)
possible-prop scene (Move index bounds) = hlevel (props, either-prop)
possible-prop scene (SetUser index user) = hlevel props

within-prop : (layers : ℕ) (entry : Entry) → IsProp (IsWithinLayers layers entry)
within-prop layers (Create index layer bounds user) = hlevel props
within-prop layers (Destroy index) = hlevel props
within-prop layers (Mark index) = hlevel props
within-prop layers (Unmark index) = hlevel props
within-prop layers (Join layer indexes) = hlevel props
within-prop layers (Remove index) = hlevel props
within-prop layers (Move index bounds) = hlevel props
within-prop layers (SetUser index user) = hlevel props

-- there is one proof at most that a history is lawful
lawful-prop : (layers : ℕ) (scene : Scene) (past : List Made) → IsProp (IsLawfulFrom layers scene past)
lawful-prop layers scene [] = hlevel props
lawful-prop layers scene (made ∷ later) = λ a b i. (
  (possible-prop scene made.entry a.0.0 b.0.0 i, within-prop layers made.entry a.0.1 b.0.1 i),
  lawful-prop layers (after_entry scene made.entry) later a.1 b.1 i,
)

-- what a pass knows that knows the whole log
pub current-lawful : (view : View) → IsCurrent view → KnowsLawful view
current-lawful view now =
    subst (λ (c : Config). IsLawfulHistory c.layers c.bodies (history view.known)) now.sizes
    (subst (λ (l : List Item). IsLawfulHistory now.core.config.layers now.core.config.bodies (history l)) (sym now.whole) now.stands.laws.bodies.lawful)

pub knows-lawful : (view : View) → ∥ IsCurrent view ∥₁ → KnowsLawful view
knows-lawful view current = ∥∥₁_elim current (lawful-prop view.config.layers _ (history view.known)) (λ now. current-lawful view now)

-- ---- it meets nobody

abbrev is_alone : Option Joined → Bool
is_alone None = true
is_alone (Some joined) = false

alone-is : (joined : Option Joined) → is_alone joined ≡ true → joined ≡ None
alone-is None test = refl
alone-is (Some joined) test = absurd (false≢true test)

pub meets-none : (view : View) → ∥ IsCurrent view ∥₁ → view.joined ≡ None
meets-none view current = alone-is view.joined (∥∥₁_elim current (hlevel props) (λ now. ap is_alone now.alone))

-- ---- where it holds no lock nothing is half done

abbrev is_nothing : Task → Bool
is_nothing Nothing = true
is_nothing _ = false

nothing-is : (task : Task) → is_nothing task ≡ true → task ≡ Nothing
nothing-is Nothing test = refl
nothing-is (Creating index) test = absurd (false≢true test)
nothing-is (Destroying index) test = absurd (false≢true test)
nothing-is (Pooling taken given) test = absurd (false≢true test)
nothing-is (Moving index target) test = absurd (false≢true test)
nothing-is (Removing index) test = absurd (false≢true test)
nothing-is (Placing index) test = absurd (false≢true test)

-- what a law sees of a view has its number
body-numbers : KeepsNumber body_scope
body-numbers number view = refl

node-numbers : KeepsNumber node_scope
node-numbers number view = refl

module _ (view : View) (free : (lock : ℕ) → HoldsNot view lock) where
  unheld : (seen : View) → seen.locks ≡ view.locks → (lock : ℕ) → ¬ Holds seen lock Write
  unheld seen same lock holds = none-some Write (sym (free lock) ∙ (ap (λ (l : List LockStep). mode_of l lock) (sym same) ∙ holds))

  -- each task is under a lock
  no-task : (s t : Sight) (seen pooled : View) (chain : List ℕ) (many : ℕ) → seen.locks ≡ view.locks → pooled.locks ≡ view.locks → (task : Task)
      → ListsFree s seen task chain → IsUnderStripe s seen task → PoolsUnder t pooled (task_on_pool task) many → task ≡ Nothing
  no-task s t seen pooled chain many one two Nothing lists under pools = refl
  no-task s t seen pooled chain many one two (Creating index) lists under pools = absurd (unheld seen one _ lists.0)
  no-task s t seen pooled chain many one two (Destroying index) lists under pools = absurd (unheld seen one _ lists.0)
  no-task s t seen pooled chain many one two (Pooling taken given) lists under pools = absurd (unheld pooled two _ pools.0)
  no-task s t seen pooled chain many one two (Moving index target) lists under pools = absurd (unheld seen one _ under)
  no-task s t seen pooled chain many one two (Removing index) lists under pools = absurd (unheld seen one _ under)
  no-task s t seen pooled chain many one two (Placing index) lists under pools = absurd (unheld seen one _ under)

  current-rests : (number : ℕ) → IsPass view number → IsCurrent view → view.call.task ≡ Nothing
  current-rests number pass now =
      let s = sight body_scope now.core in
      let t = sight node_scope now.core in
      let laws = now.stands.laws in
      no-task s t (seen_of body_scope number view) (seen_of node_scope number view) laws.bodies.chain (length laws.places.chain) refl refl view.call.task
      (each-seat body_scope body-numbers now.core (λ n v. ListsFree s v v.call.task laws.bodies.chain) laws.bodies.listed now.seat number view now.at pass)
      (each-seat body_scope body-numbers now.core (λ n v. IsUnderStripe s v v.call.task) laws.bodies.stripes now.seat number view now.at pass)
      (each-seat node_scope node-numbers now.core (λ n v. PoolsUnder t v v.call.task (length laws.places.chain)) laws.places.pool now.seat number view now.at pass)

  pub free-rests : view.walk.is_on ≡ false → (number : ℕ) → IsPass view number → ∥ IsCurrent view ∥₁ → IsAtRest view
  free-rests still number pass current = record {
    free = free;
    still = still;
    done = nothing-is view.call.task (∥∥₁_elim current (hlevel props) (λ now. ap is_nothing (current-rests number pass now)));
  }
