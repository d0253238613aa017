-- A step of any kind, made where what it asks passes a test, and runs of such steps.
use Rattle.std.proofs.Common.{◌≡◌, ℕ, zero, suc, ◌^◌, ◌<◌, List, [], ◌∷◌, Option, Some, None, refl}
use mathlib.Core.Option as maybe
use lib.ListN.{get_elem?}
use Rattle.word_map.specs.declared.config.Config.{Config}
use Rattle.word_map.specs.declared.name.Name.{Name}
use Rattle.word_map.specs.declared.name.Name.TheVariants.{Lock, SlotHead, SlotNext, State, Phase, Layer, User, BoxWord, LocA, LocB, Child, Bound, Parent, PoolHead, PoolNext, PoolFree, Main, Slot, Reader, Update, Arena}
use Rattle.word_map.specs.Names.{lock_count, node_count, IsName}
use Rattle.core_state.specs.declared.view.View.{View}
use Rattle.core_state.specs.Core.{Core}
use Rattle.core_state.specs.Kind.{Kind, Asking, Step, Steps, after_step}
use Rattle.core_state.specs.Event.{Event, Run, goes_on}
use Rattle.core_run.proofs.Tests.{◌>>=◌, below?, pass?}

-- a test of what a kind of step asks
abbrev pub Test : Asking → Type 0
Test asks = (view : View) (name : Name) (first second : ℕ) → Option (asks view name first second)

-- an event that a core may make
abbrev pub Ahead : Core → Type 0
Ahead core = (after : Core) × Event core after

-- what is to be done next, wherever it may be
abbrev pub Move : Type 0
Move = (core : Core) → Option (Ahead core)

-- ---- names

abbrev pub two? : (a b c d : ℕ) → Option ((a < b) × (c < d))
two? a b c d = do
  one ← below? a b
  other ← below? c d
  Some (one, other)

abbrev pub three? : (a b c d e f : ℕ) → Option ((a < b) × (c < d) × (e < f))
three? a b c d e f = do
  one ← below? a b
  other ← below? c d
  last ← below? e f
  Some (one, other, last)

abbrev pub name? : (c : Config) (name : Name) → Option (IsName c name)
name? c (Lock i) = below? i (lock_count c)
name? c SlotHead = Some tt
name? c (SlotNext i) = below? i c.bodies
name? c (State i) = below? i c.bodies
name? c (Phase i) = below? i c.bodies
name? c (Layer i) = below? i c.bodies
name? c (User i) = below? i c.bodies
name? c (BoxWord i k) = two? i c.bodies k 6
name? c (LocA i) = below? i c.bodies
name? c (LocB i) = below? i c.bodies
name? c (Child n b) = two? n (node_count c) b 4
name? c (Bound n b k) = three? n (node_count c) b 4 k 6
name? c (Parent n) = below? n (node_count c)
name? c PoolHead = Some tt
name? c (PoolNext n) = below? n c.nodes
name? c PoolFree = Some tt
name? c (Main l) = below? l c.layers
name? c (Slot l t) = two? l c.layers t c.slots
name? c (Reader p) = below? p c.passes
name? c Update = Some tt
name? c Arena = Some tt

-- ---- steps

abbrev pub view_at? : (views : List View) (seat : ℕ) → Option ((view : View) × (get_elem? views seat ≡ maybe.some view))
view_at? [] seat = None
view_at? (v ∷ vs) zero = Some (v, refl)
view_at? (v ∷ vs) (suc seat) = view_at? vs seat

abbrev pub step? : {asks : Asking} (kind : Kind) → Test asks → (core : Core) (seat : ℕ) (name : Name) (first second : ℕ) → Option ((after : Core) × Steps asks kind core after)
step? kind asked? core seat name first second = do
  at ← view_at? core.views seat
  pass ← pass? at.0
  named ← name? core.config name
  one ← below? first (2 ^ 64)
  other ← below? second (2 ^ 64)
  asked ← asked? at.0 name first second
  let step : Step = record { seat = seat; view = at.0; number = pass.0; name = name; first = first; second = second }
  Some (
    after_step kind core step,
    record {
      step = step;
      allowed = record { at = at.1; pass = pass.1; named = named; first_fits = one; second_fits = other; asked = asked };
      result = refl;
    },
  )

abbrev pub as_event : {core : Core} {S : Core → Type 0} → ((after : Core) → S after → Event core after) → Option ((after : Core) × S after) → Option (Ahead core)
as_event make None = None
as_event make (Some s) = Some (s.0, make s.0 s.1)

-- a move of a kind of step
abbrev pub act : {asks : Asking} (kind : Kind) → Test asks → ((before after : Core) → Steps asks kind before after → Event before after)
    → (seat : ℕ) (name : Name) (first second : ℕ) → Move
act kind asked? make seat name first second core = as_event (make core) (step? kind asked? core seat name first second)

-- ---- runs

abbrev pub Reached : Core → Type 0
Reached first = (last : Core) × Run first last

abbrev pub run? : {first last : Core} → Run first last → List Move → Option (Reached first)
run? {first} {last} run [] = Some (last, run)
run? {first} {last} run (m ∷ rest) = do
  e ← m last
  run? (goes_on run e.1) rest
