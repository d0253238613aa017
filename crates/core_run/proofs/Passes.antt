-- The run passes through every kind of step: it is made, and looked through, by computation.
use Rattle.std.proofs.Common.{◌≡◌, ℕ, suc, ◌≤◌, true, List, Contains, Option, Some, None, is_some, refl, inl, inr, subst}
use Rattle.word_map.specs.declared.config.Config.{Config}
use Rattle.word_map.specs.declared.name.Name.{Name}
use Rattle.word_map.specs.declared.name.Name.TheVariants.{Child, Main}
use Rattle.word_map.specs.declared.config.TheConstants.{MAX_BODIES, MAX_LAYERS, MAX_SLOTS, MAX_NODES, MAX_PASSES}
use Rattle.word_map.specs.Limits.{IsConfig, is_stripe_count}
use Rattle.core_state.specs.declared.item.Load.{Load}
use Rattle.core_state.specs.declared.view.View.{View}
use Rattle.core_state.specs.Core.{Core, word_of, opening}
use Rattle.core_state.specs.Event.{Event, Run, of_updates, begins, goes_on}
use Rattle.core_run.specs.Labels.{Label, label_of, seat_of_update, all_labels, labels_of_plan, labels_of_exchange, labels_of_end}
use Rattle.core_run.specs.Passing.{Fact, Occurs, HasLabel, IsHalfWay, HasWalker, IsMadeElsewhere, IsNamed, IsOutOfSight, IsBeside, PassesThrough}
use Rattle.core_run.proofs.Tests.{◌>>=◌, same?, other?, at_most?, above_zero?, true?, each?, some_in?}
use Rattle.core_run.proofs.Steps.{view_at?, run?}
use Rattle.core_run.proofs.TheRun.{sizes, opened, moves}

-- ---- some event of a run

abbrev pub TestOf : Fact → Type 0
TestOf P = (before after : Core) (event : Event before after) → Option (P before after event)

abbrev pub occurs? : {P : Fact} → TestOf P → {first last : Core} (run : Run first last) → Option (Occurs P run)
occurs? test begins = None
occurs? test (goes_on {last} {next} run event) = elim (test last next event) [
  | Some p ↦ Some (inl p)
  | None ↦ do
    earlier ← occurs? test run
    Some (inr earlier)
]

pub same_label : (a b : Label) → a.kind ≡ b.kind → a.variant ≡ b.variant → a ≡ b
same_label a b e f = λ i. record { kind = e i; variant = f i }

abbrev pub label? : (l : Label) → TestOf (HasLabel l)
label? l before after event = do
  kind ← same? (label_of event).kind l.kind
  variant ← same? (label_of event).variant l.variant
  Some (same_label (label_of event) l kind variant)

-- ---- a walk

pub same_load : (l : Load) (name : Name) (value : ℕ) → l.name ≡ name → l.value ≡ value → l ≡ record { name = name; value = value }
same_load l name value e f = λ i. record { name = e i; value = f i }

-- a load of a main word that named a root
abbrev pub main_of? : (name : Name) → Option ((layer : ℕ) × (name ≡ Main layer))
main_of? (Main layer) = Some (layer, refl)
main_of? _ = None

abbrev pub main_load? : (l : Load) → Option ((layer : ℕ) × (root : ℕ) × (l ≡ record { name = Main layer; value = suc root }))
main_load? l = do
  main ← main_of? l.name
  root ← above_zero? l.value
  Some (main.0, root.0, same_load l (Main main.0) (suc root.0) main.1 root.1)

-- and one of a child of the root
abbrev pub child_of? : (root : ℕ) (name : Name) → Option ((child : ℕ) × (name ≡ Child root child))
child_of? root (Child n k) = do
  same ← same? n root
  Some (k, λ i. Child (same i) k)
child_of? root _ = None

abbrev pub child_load? : (root : ℕ) (l : Load) → Option ((child : ℕ) × (l ≡ record { name = Child root child; value = l.value }))
child_load? root l = do
  child ← child_of? root l.name
  Some (child.0, same_load l (Child root child.0) l.value child.1 refl)

abbrev pub half_way? : (view : View) → Option ((layer : ℕ) × (root : ℕ) × IsHalfWay view layer root)
half_way? view = do
  walks ← true? view.walk.is_on
  main ← some_in? {P = λ l. (layer : ℕ) × (root : ℕ) × (l ≡ record { name = Main layer; value = suc root })} main_load? view.walk.loads
  child ← some_in? {P = λ l. (child : ℕ) × (l ≡ record { name = Child main.2.1 child; value = l.value })} (child_load? main.2.1) view.walk.loads
  Some (
    main.2.0,
    main.2.1,
    record {
      walks = walks;
      main = subst (λ (l : Load). Contains view.walk.loads l) main.2.2 main.1;
      child = child.2.0;
      found = child.0.value;
      read = subst (λ (l : Load). Contains view.walk.loads l) child.2.1 child.1;
    },
  )

-- pass 1 is the one that walks
abbrev pub elsewhere? : {before after : Core} (event : Event before after) (seat : ℕ) → Option (IsMadeElsewhere event seat)
elsewhere? (of_updates e) seat = other? (seat_of_update e) seat
elsewhere? event seat = None

abbrev pub walker? : {P : ℕ → ℕ → Type 0} → ((word root : ℕ) → Option (P word root)) → TestOf (HasWalker P)
walker? test before after event = do
  at ← view_at? before.views 1
  elsewhere ← elsewhere? event 1
  half ← half_way? at.0
  named ← test (word_of before (Main half.0)) half.1
  Some (record { seat = 1; view = at.0; layer = half.0; root = half.1; at = at.1; elsewhere = elsewhere; half_way = half.2; named = named })

abbrev pub beside? : {P : ℕ → ℕ → Type 0} → ((word root : ℕ) → Option (P word root)) → (l : Label) → TestOf (IsBeside P l)
beside? {P} test l before after event = do
  has ← label? l before after event
  walker ← walker? {P = P} test before after event
  Some (has, walker)

-- ---- the whole

abbrev pub passes? : {P : Label → Fact} → ((l : Label) → TestOf (P l)) → (labels : List Label) → {first last : Core} (run : Run first last) → Option (PassesThrough labels P run)
passes? {P} test labels run = each? {P = λ l. Occurs (P l) run} (λ l. occurs? {P = P l} (test l) run) labels

abbrev pub named? : (word root : ℕ) → Option (IsNamed word root)
named? word root = same? word (suc root)

abbrev pub out_of_sight? : (word root : ℕ) → Option (IsOutOfSight word root)
out_of_sight? word root = other? word (suc root)

abbrev pub up_to? : (n limit : ℕ) → Option ((1 ≤ n) × (n ≤ limit))
up_to? n limit = do
  some ← at_most? 1 n
  few ← at_most? n limit
  Some (some, few)

abbrev pub config? : (c : Config) → Option (IsConfig c)
config? c = do
  bodies ← up_to? c.bodies MAX_BODIES
  stripes ← true? (is_stripe_count c.stripes)
  layers ← up_to? c.layers MAX_LAYERS
  slots ← up_to? c.slots MAX_SLOTS
  nodes ← up_to? c.nodes MAX_NODES
  passes ← up_to? c.passes MAX_PASSES
  Some (record { bodies = bodies; stripes = stripes; layers = layers; slots = slots; nodes = nodes; passes = passes })

abbrev pub HasRun : Type 0
HasRun = (c : Config) × IsConfig c × (last : Core) × (run : Run (opening c) last) × PassesThrough all_labels HasLabel run
    × PassesThrough labels_of_plan (IsBeside IsNamed) run × PassesThrough labels_of_exchange (IsBeside IsOutOfSight) run × PassesThrough labels_of_end (IsBeside IsNamed) run

abbrev whole? : Option HasRun
whole? = do
  within ← config? sizes
  reached ← run? opened moves
  all ← passes? {P = HasLabel} label? all_labels reached.1
  planned ← passes? {P = IsBeside IsNamed} (beside? {P = IsNamed} named?) labels_of_plan reached.1
  exchanged ← passes? {P = IsBeside IsOutOfSight} (beside? {P = IsOutOfSight} out_of_sight?) labels_of_exchange reached.1
  ended ← passes? {P = IsBeside IsNamed} (beside? {P = IsNamed} named?) labels_of_end reached.1
  Some (sizes, within, reached.0, reached.1, all, planned, exchanged, ended)

-- what was made
made : {A : Type 0} (o : Option A) → is_some o ≡ true → A
made None e = absurd (cc)
made (Some a) e = a

whole_made : is_some whole? ≡ true
whole_made = refl

pub has_run : HasRun
has_run = made whole? whole_made
