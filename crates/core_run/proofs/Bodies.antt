-- Steps on the words of bodies, and what they ask as tests.
use Rattle.std.proofs.Common.{◌≡◌, ℕ, ◌-◌, ◌^◌, Option, Some, None, refl, ap, ◌∙◌}
use Rattle.std.specs.Prelude.{slice_index}
use Rattle.fixed_box.specs.declared.fix_box.FixBox.{FixBox}
use Rattle.fixed_box.specs.FixBox.{words_of}
use Rattle.word_map.specs.declared.config.Config.{Config}
use Rattle.word_map.specs.declared.name.Name.{Name}
use Rattle.word_map.specs.declared.name.Name.TheVariants.{State, Phase, Layer, User, BoxWord, LocA, LocB}
use Rattle.word_map.specs.Names.{index_lock, stripe_of}
use Rattle.core_state.specs.declared.view.Mode.TheVariants.{Write}
use Rattle.core_state.specs.declared.view.Task.TheVariants.{Creating, Destroying}
use Rattle.core_state.specs.declared.view.View.{View}
use Rattle.core_state.specs.View.{known_word}
use Rattle.core_state.specs.Boxes.{box_of}
use Rattle.core_state.specs.Core.{word_of}
use Rattle.core_run.proofs.Tests.{◌>>=◌, same?, below?, at_most?, each_below?, holds?, held?, creating?, destroying?}
use Rattle.core_run.proofs.Steps.{Test, Move, act}
use Rattle.core_state.specs.Lives.{IsFieldOf, MayStoreField, store_field, HasFields, MayCreate, create, created_state, MayDestroy, destroy, IsOfBody, MayLoadBody, load_body, under_stripe, under_list, MaySetUser, set_user}
use Rattle.core_state.specs.Event.{of_bodies, stores_field, creates, destroys, loads_body, sets_user}
use Rattle.core_run.proofs.Beginnings.{live_and_out?}

abbrev pub field? : (c : Config) (i : ℕ) (name : Name) (value : ℕ) → Option (IsFieldOf c i name value)
field? c i (Layer j) value = do
  same ← same? j i
  below ← below? value c.layers
  Some (same, below)
field? c i (User j) value = do
  same ← same? j i
  below ← below? value (2 ^ 32)
  Some (same, below)
field? c i (BoxWord j k) value = do
  same ← same? j i
  low ← at_most? 1 value
  high ← at_most? value 16777216
  Some (same, low, high)
field? c i _ value = None

abbrev pub may_store_field? : Test MayStoreField
may_store_field? view name value second = do
  lock ← holds? view (index_lock view.config) Write
  task ← creating? view.call.task
  field ← field? view.config task.0 name value
  Some (record { index = task.0; creating = record { lock = lock; task = task.1 }; field = field })

abbrev pub stores_field_of : (seat : ℕ) → Name → ℕ → Move
stores_field_of seat name value = act store_field may_store_field? (λ before after s. of_bodies (stores_field s)) seat name value 0

abbrev pub fields? : (view : View) (index : ℕ) (bounds : FixBox) → Option (HasFields view index bounds)
fields? view index bounds = do
  layer ← below? (known_word view (Layer index)) view.config.layers
  user ← below? (known_word view (User index)) (2 ^ 32)
  words ← each_below? {P = λ k. known_word view (BoxWord index k) ≡ slice_index (words_of bounds) k} 6 (λ k. same? (known_word view (BoxWord index k)) (slice_index (words_of bounds) k))
  Some (record { layer = layer; user = user; bounds_words = words })

abbrev pub may_create? : Test MayCreate
may_create? view (State index) value second = do
  lock ← holds? view (index_lock view.config) Write
  task ← creating? view.call.task
  same ← same? task.0 index
  bounds ← box_of (λ k. known_word view (BoxWord index k))
  fields ← fields? view index bounds
  state ← same? value (created_state (known_word view (State index)))
  Some (record { index = index; names = refl; creating = record { lock = lock; task = task.1 ∙ ap Creating same }; bounds = bounds; fields = fields; state = state })
may_create? view _ value second = None

abbrev pub creates_body : (seat index : ℕ) → Move
creates_body seat index core = act create may_create? (λ before after s. of_bodies (creates s)) seat (State index) (created_state (word_of core (State index))) 0 core

abbrev pub may_destroy? : Test MayDestroy
may_destroy? view (State index) value second = do
  lock ← holds? view (index_lock view.config) Write
  task ← destroying? view.call.task
  same ← same? task.0 index
  body ← live_and_out? view index
  state ← same? value (known_word view (State index) - 256)
  Some (record { index = index; names = refl; lock = lock; task = task.1 ∙ ap Destroying same; body = body; state = state })
may_destroy? view _ value second = None

abbrev pub destroys_body : (seat index : ℕ) → Move
destroys_body seat index core = act destroy may_destroy? (λ before after s. of_bodies (destroys s)) seat (State index) (word_of core (State index) - 256) 0 core

abbrev pub of_body? : (name : Name) → Option ((index : ℕ) × IsOfBody index name)
of_body? (State i) = Some (i, refl)
of_body? (Phase i) = Some (i, refl)
of_body? (Layer i) = Some (i, refl)
of_body? (User i) = Some (i, refl)
of_body? (BoxWord i k) = Some (i, refl)
of_body? (LocA i) = Some (i, refl)
of_body? (LocB i) = Some (i, refl)
of_body? _ = None

abbrev pub may_load_body? : Test MayLoadBody
may_load_body? view name first second = do
  body ← of_body? name
  holds ← held? view (stripe_of view.config body.0)
  Some (under_stripe body.0 holds.0 body.1 holds.1)

abbrev pub loads_word_of_body : (seat : ℕ) → Name → Move
loads_word_of_body seat name = act load_body may_load_body? (λ before after s. of_bodies (loads_body s)) seat name 0 0

abbrev pub may_load_state? : Test MayLoadBody
may_load_state? view (State index) first second = do
  lock ← holds? view (index_lock view.config) Write
  Some (under_list index refl lock)
may_load_state? view _ first second = None

abbrev pub loads_state : (seat index : ℕ) → Move
loads_state seat index = act load_body may_load_state? (λ before after s. of_bodies (loads_body s)) seat (State index) 0 0

abbrev pub may_set_user? : Test MaySetUser
may_set_user? view (User index) value second = do
  stripe ← holds? view (stripe_of view.config index) Write
  live ← at_most? 256 (known_word view (State index))
  fits ← below? value (2 ^ 32)
  Some (record { index = index; names = refl; stripe = stripe; live = live; fits = fits })
may_set_user? view _ value second = None

abbrev pub sets_user_of : (seat index value : ℕ) → Move
sets_user_of seat index value = act set_user may_set_user? (λ before after s. of_bodies (sets_user s)) seat (User index) value 0
