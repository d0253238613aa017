-- What the words of a body tell a pass that holds its lock.
use Rattle.std.specs.Prelude.{nat_lt}
use Rattle.std.proofs.Common.{◌≡◌, inl, inr, ℕ, zero, suc, ◌+◌, ◌-◌, ◌^◌, ◌<◌, ◌≤◌, Bool, true, false, List, Option, Some, cond, refl, ap, sym, ◌∙◌, subst, arith}
use Rattle.std.proofs.Math.Nat.{le-add_left}
use Rattle.std.proofs.lemmas.Bool.{cases_eq, lt-ltb, le-ltb}
use Rattle.std.proofs.lemmas.Option.{none-some, same_Some}
use Rattle.body_ident.specs.Id.{Id}
use Rattle.scene_model.specs.declared.body_view.Phase.{Phase}
use Rattle.scene_model.specs.declared.body_view.Phase.TheVariants.{Out, Held, In}
use Rattle.scene_model.specs.Scene.{Scene, Record, record_at}
use Rattle.scene_model.specs.History.{creations_in}
use Rattle.scene_model.proofs.Creations.{creations_at-scene_after}
use Rattle.word_map.specs.declared.config.Config.{Config}
use Rattle.word_map.specs.declared.name.Name.{Name}
use Rattle.word_map.specs.declared.name.Name.TheVariants.{State, Phase as PhaseWord, Layer, User, BoxWord, Slot}
use Rattle.word_map.specs.Limits.{IsConfig}
use Rattle.word_map.specs.Names.{stripe_of}
use Rattle.core_state.specs.declared.item.Item.{Item}
use Rattle.core_state.specs.declared.view.Mode.{Mode}
use Rattle.core_state.specs.declared.view.Mode.TheVariants.{Write}
use Rattle.core_state.specs.declared.view.Task.{Task}
use Rattle.core_state.specs.declared.view.Task.TheVariants.{Nothing, Moving}
use Rattle.core_state.specs.declared.view.View.{View}
use Rattle.core_state.specs.Log.{word, history}
use Rattle.core_state.specs.View.{number_of, mode_of, Holds, known_word}
use Rattle.core_state.specs.Core.{IsViewAt, word_of}
use Rattle.core_state.specs.Guards.{scene_at, by_lock, IsBodyWord}
use Rattle.core_state.specs.Scope.{sight, Sight}
use Rattle.core_state.specs.Bodies.{phase_by, phase_by_slot, MovesBody, IsBetweenBoxes, HasWholeBox}
use Rattle.core_state.specs.BodiesAgree.{BodiesAgree, body_scope, IsUnderStripe}
use Rattle.core_state.specs.Quietly.{IsSteady, of_pass, of_live}
use Rattle.core_state.proofs.Guarding.{writer-alone}
use Rattle.core_state.proofs.Lookups.{at_one}
use Rattle.core_guard.proofs.Seats.{KeepsNumber, has-seat, each-seat, seen_of}
use Rattle.pass_table.specs.Knowing.{KnowsMore}
use Rattle.pass_table.specs.Bodies.{IsCurrent, KnowsLive, IsGuarding, IsGuarded, HasKnownBody, IsTold}
use Rattle.pass_table.proofs.Calling.{steady-more}
use Rattle.pass_table.proofs.Bodies.{live-at, has-body, known-now, scene-known}

-- ---- words that stand while others act

-- those that a creation stores, as the body is live
pub live-steady : (id : Id) (mode : Mode) (view : View) (name : Name) → Holds view (stripe_of view.config id.index) mode → KnowsLive id view → IsBodyWord id.index name → IsSteady view name
live-steady id mode view name holds live own = of_live id.index mode holds (subst (λ (n : ℕ). 256 ≤ n) (sym live) (le-add_left 256 id.seq)) own

-- and the phase word, which the stripe guards
pub phase-steady : (index : ℕ) (mode : Mode) (view : View) → Holds view (stripe_of view.config index) mode → IsSteady view (PhaseWord index)
phase-steady index mode view holds = of_pass (by_lock (stripe_of view.config index) mode holds refl)

-- so it is still live
pub live-more : (id : Id) (mode : Mode) (view next : View) → KnowsMore view next → Holds view (stripe_of view.config id.index) mode → KnowsLive id view → KnowsLive id next
live-more id mode view next more holds live = steady-more view next (State id.index) more (live-steady id mode view (State id.index) holds live refl) ∙ live

-- and guarded still
pub guarding-more : (number : ℕ) (id : Id) (mode : Mode) (view : View) → IsGuarding number id mode view → (next : View) → KnowsMore view next → IsGuarding number id mode next
guarding-more number id mode view guarding next more =
    let sizes : next.config ≡ view.config = ap (λ (v : View). v.config) more.rest in
    record {
      pass = ap (λ (v : View). number_of v) more.rest ∙ guarding.pass;
      stripe =
          ap (λ (v : View). mode_of v.locks (stripe_of next.config id.index)) more.rest
          ∙ (ap (λ (c : Config). mode_of view.locks (stripe_of c id.index)) sizes ∙ guarding.stripe);
      below = subst (λ (c : Config). id.index < c.bodies) (sym sizes) guarding.below;
      state = live-more id mode view next more guarding.stripe guarding.state;
      done = ap (λ (v : View). v.call.task) more.rest ∙ guarding.done;
    }

pub guarded-more : (id : Id) (view next : View) → IsGuarded id view → KnowsMore view next → IsGuarded id next
guarded-more id view next guarded more = (guarded.0, guarded.1, guarding-more guarded.0 id guarded.1 view guarded.2 next more)

-- a word of a guarded body, its layer and its phase word are later as they were
module _ (id : Id) (view next : View) (guarded : IsGuarded id view) (more : KnowsMore view next) where
  pub word-stays : (name : Name) → IsBodyWord id.index name → known_word next name ≡ known_word view name
  word-stays name own = steady-more view next name more (live-steady id guarded.1 view name guarded.2.stripe guarded.2.state own)

  pub layer-stays : known_word next (Layer id.index) ≡ known_word view (Layer id.index)
  layer-stays = word-stays (Layer id.index) refl

  pub phase-stays : known_word next (PhaseWord id.index) ≡ known_word view (PhaseWord id.index)
  phase-stays = steady-more view next (PhaseWord id.index) more (phase-steady id.index guarded.1 view guarded.2.stripe)

-- ---- nobody moves a guarded body

-- what a law of bodies sees of a view has its number
body-numbers : KeepsNumber body_scope
body-numbers number view = refl

-- who moves a body writes under its stripe
moving-writes : (s : Sight) (view : View) (task : Task) (i : ℕ) → MovesBody task i → IsUnderStripe s view task → Holds view (stripe_of s.config i) Write
moving-writes s view (Moving index target) i moves under = subst (λ (k : ℕ). Holds view (stripe_of s.config k) Write) moves under
moving-writes s view _ i moves under = absurd moves

-- and a pass that is in the middle of nothing moves none
nothing-moves : (task : Task) (i : ℕ) → task ≡ Nothing → ¬ MovesBody task i
nothing-moves task i is moves = subst (λ (t : Task). MovesBody t i) is moves

module _ (number : ℕ) (id : Id) (mode : Mode) (view : View) (guarding : IsGuarding number id mode view) (now : IsCurrent view) where
  abbrev agrees : BodiesAgree now.core
  agrees = now.stands.laws.bodies

  -- so nobody does, and the box words are whole
  whole-box : HasWholeBox (sight body_scope now.core) id.index
  whole-box other h =
      let s = sight body_scope now.core in
      let seat = has-seat body_scope body-numbers now.core other (λ v. IsBetweenBoxes v id.index) h in
      let under = each-seat body_scope body-numbers now.core (λ n v. IsUnderStripe s v v.call.task) agrees.stripes seat.seat other seat.view seat.at seat.pass in
      let writes : Holds seat.view (stripe_of now.core.config id.index) Write = moving-writes s (seen_of body_scope other seat.view) seat.view.call.task id.index seat.holds.0 under in
      elim (cases_eq now.seat seat.seat) [
        | inl same ↦
            let is : seat.view ≡ view = at_one now.core.views seat.seat seat.view view seat.at (subst (λ (n : ℕ). IsViewAt now.core n view) same now.at) in
            nothing-moves seat.view.call.task id.index (ap (λ (v : View). v.call.task) is ∙ guarding.done) seat.holds.0
        | inr apart ↦
            let free = writer-alone now.core (stripe_of now.core.config id.index) seat.seat now.seat other number seat.view view now.stands.laws.locks seat.at seat.pass writes apart now.at guarding.pass in
            let held = ap (λ (c : Config). mode_of view.locks (stripe_of c id.index)) now.sizes ∙ guarding.stripe in
            none-some mode (sym free ∙ held)
      ]

  -- what the words tell of it
  pub tells : IsTold id view
  tells =
      let live =
      live-at now.core id agrees (subst (λ (c : Config). id.index < c.bodies) (sym now.sizes) guarding.below) (sym (known-now view now (State id.index)) ∙ guarding.state)
      in
      let phase = known-now view now (PhaseWord id.index) in
      record {
        body = live.body;
        live = ap (λ (scene : Scene). record_at scene id.index) (scene-known view now) ∙ live.at;
        latest =
            live.latest
            ∙ (creations_at-scene_after now.core.config.layers now.core.config.bodies (history now.core.log) id.index agrees.lawful
            ∙ ap (λ (l : List Item). creations_in id.index (history l)) (sym now.whole));
        sequence = live.sequence;
        layer = known-now view now (Layer id.index) ∙ live.words.layer;
        in_layers = subst (λ (c : Config). live.body.layer < c.layers) now.sizes live.in_layers;
        user = known-now view now (User id.index) ∙ live.words.user;
        user_fits = live.words.user_fits;
        bounds = λ k below. known-now view now (BoxWord id.index k) ∙ live.words.bounds whole-box k below;
        phase = (λ j. phase_by (phase j) (known-now view now (Slot live.body.layer (phase j - 2)) j)) ∙ live.words.phase;
        slot = subst (λ (n : ℕ). n < 2 + view.config.slots) (sym phase) (subst (λ (c : Config). word_of now.core (PhaseWord id.index) < 2 + c.slots) now.sizes live.words.slot);
      }

-- what a pass that guards the body knows of it now
pub guarded-tells : (id : Id) (view : View) → IsGuarded id view → IsCurrent view → IsTold id view
guarded-tells id view guarded now = tells guarded.0 id guarded.1 view guarded.2 now

-- ---- the phase

-- a slot that has no tree holds the body
slot-held : (found : ℕ) (phase : Phase) → found < 1024 → phase_by_slot found ≡ Some phase → phase ≡ Held
slot-held zero phase low says = absurd (none-some phase says)
slot-held (suc n) phase low says =
    let test : nat_lt (suc n) 1024 ≡ true = lt-ltb (suc n) 1024 low in
    same_Some phase Held (sym says ∙ ap (λ (t : Bool). cond {A = Option Phase} t (Some Held) (Some In)) test)

slot-in : (found : ℕ) (phase : Phase) → 1024 ≤ found → phase_by_slot found ≡ Some phase → phase ≡ In
slot-in zero phase high says = absurd (omega arith)
slot-in (suc n) phase high says =
    let test : nat_lt (suc n) 1024 ≡ false = le-ltb (suc n) 1024 high in
    same_Some phase In (sym says ∙ ap (λ (t : Bool). cond {A = Option Phase} t (Some Held) (Some In)) test)

module _ (id : Id) (view : View) (told : IsTold id view) where
  -- what holds of its record holds of the body
  pub told-body : (P : Record → Type 0) → P told.body → HasKnownBody id view P
  told-body P holds = has-body (scene_at view.config view.known) id told.body told.live told.sequence P holds

  -- what a phase word says that names no slot
  told-phase : (word : ℕ) → known_word view (PhaseWord id.index) ≡ word → phase_by word (known_word view (Slot told.body.layer (word - 2))) ≡ Some told.body.phase
  told-phase word is = ap (λ (n : ℕ). phase_by n (known_word view (Slot told.body.layer (n - 2)))) (sym is) ∙ told.phase

  pub told-out : known_word view (PhaseWord id.index) ≡ 0 → told.body.phase ≡ Out
  told-out is = same_Some told.body.phase Out (sym (told-phase 0 is))

  pub told-in : known_word view (PhaseWord id.index) ≡ 1 → told.body.phase ≡ In
  told-in is = same_Some told.body.phase In (sym (told-phase 1 is))

  -- where it names a slot, the word of this slot says so
  module _ (slot layer found : ℕ) (names : known_word view (PhaseWord id.index) ≡ 2 + slot) (lies : known_word view (Layer id.index) ≡ layer) (loaded : known_word view (Slot layer slot) ≡ found) where
    told-slot : phase_by_slot found ≡ Some told.body.phase
    told-slot =
        let less : 2 + slot - 2 ≡ slot = omega arith in
        let two : suc (suc slot) ≡ 2 + slot = omega arith in
        let same : layer ≡ told.body.layer = sym lies ∙ told.layer in
        ap phase_by_slot (sym loaded ∙ (λ i. known_word view (Slot (same i) (sym less i))))
        ∙ (ap (λ (n : ℕ). phase_by n (known_word view (Slot told.body.layer (2 + slot - 2)))) two ∙ told-phase (2 + slot) names)

    pub told-held : found < 1024 → told.body.phase ≡ Held
    told-held low = slot-held found told.body.phase low told-slot

    pub told-joined : 1024 ≤ found → told.body.phase ≡ In
    told-joined high = slot-in found told.body.phase high told-slot

-- ---- words that are loaded of a guarded body fit their types

module _ (id : Id) (view : View) (guarded : IsGuarded id view) (now : IsCurrent view) where
  limits : IsConfig view.config
  limits = subst IsConfig now.sizes now.stands.formed.sizes

  -- the slot that a phase word names is one of the world's, and so is the layer
  pub slot-below : (word : ℕ) → known_word view (PhaseWord id.index) ≡ word → word - 2 < view.config.slots
  slot-below word is =
      let slot = (guarded-tells id view guarded now).slot in
      let slots = limits.slots in
      omega arith

  pub layer-below : (word : ℕ) → known_word view (Layer id.index) ≡ word → word < view.config.layers
  layer-below word is =
      let told = guarded-tells id view guarded now in
      let layers = told.in_layers in
      let same = told.layer in
      omega arith

  -- they and user numbers fit 32 bits
  pub phase-fits : (word : ℕ) → known_word view (PhaseWord id.index) ≡ word → word < 2 ^ 32
  phase-fits word is =
      let slot = (guarded-tells id view guarded now).slot in
      let slots = limits.slots.1 in
      omega arith

  pub layer-fits : (word : ℕ) → known_word view (Layer id.index) ≡ word → word < 2 ^ 32
  layer-fits word is =
      let below = layer-below word is in
      let most = limits.layers.1 in
      omega arith

  pub user-fits : (word : ℕ) → known_word view (User id.index) ≡ word → word < 2 ^ 32
  user-fits word is =
      let told = guarded-tells id view guarded now in
      let fits = told.user_fits in
      let same = told.user in
      omega arith
