-- Whose a word is, by its name. So a step stores nobody else's word where no other pass is the holder of its word.
use Rattle.std.proofs.Common.{◌≡◌, ◌≢◌, ◌⊎◌, ℕ, ◌<◌, ◌++◌, true, Option, Some, None, refl, sym, ◌∙◌, subst, inl, inr}
use Rattle.std.specs.Prelude.{⊤, Contains, IsSomeAnd, flat_map}
use Rattle.std.proofs.lemmas.Option.{none-some, same_Some}
use Rattle.scene_model.specs.declared.body_view.Phase.TheVariants.{Held}
use Rattle.scene_model.specs.Step.{HasBody}
use Rattle.word_map.specs.declared.config.Config.{Config}
use Rattle.word_map.specs.declared.name.Name.{Name}
use Rattle.word_map.specs.declared.name.Name.TheVariants.{Lock, SlotHead, SlotNext, State, Phase, Layer, User, BoxWord, LocA, LocB, Child, Bound, Parent, PoolHead, PoolNext, PoolFree, Main, Slot, Reader, Update, Arena}
use Rattle.word_map.specs.Names.{index_lock, pool_lock, stripe_of}
use Rattle.core_state.specs.declared.view.Mode.{Mode}
use Rattle.core_state.specs.declared.view.Mode.TheVariants.{Write}
use Rattle.core_state.specs.declared.view.Task.TheVariants.{Creating}
use Rattle.core_state.specs.declared.view.Marked.{Marked}
use Rattle.core_state.specs.declared.view.Batch.{Batch}
use Rattle.core_state.specs.declared.view.Rebuild.{Rebuild}
use Rattle.core_state.specs.declared.view.View.{View}
use Rattle.core_state.specs.View.{IsPass, Holds}
use Rattle.core_state.specs.Operation.{stores}
use Rattle.core_state.specs.Core.{Core, word_of, scene_of, IsViewAt}
use Rattle.core_state.specs.Kind.{Kind, Asking, Step, Steps, found_by}
use Rattle.core_state.specs.Formed.{IsFormed}
use Rattle.core_state.specs.Nodes.{node_in}
use Rattle.core_state.specs.Updates.{HasUpdate, IsStillMerged}
use Rattle.core_state.specs.Guards.{Owns, by_lock, by_creation, by_batch, by_mark, by_node, by_update, IsBodyWord, IsHeldWord, IsUpdateWord, KeepsGuards, GuardsHold, guard_of, private_nodes}
use Rattle.core_state.specs.Invariants.{Invariants}
use Rattle.core_state.proofs.Forming.{unspent_pass}
use Rattle.core_state.proofs.Guarding.{GuardsHold-step, writer-alone}
use Rattle.core_guard.proofs.BodiesStep.{HoldsSlot}
use Rattle.core_guard.proofs.Leaving.{Acts, acts-of}

-- ---- what a pass may have a word by

abbrev pub Locks : View → ℕ → Type 0
Locks view lock = (mode : Mode) × Holds view lock mode

abbrev pub Makes : View → ℕ → Type 0
Makes view i = view.call.task ≡ Creating i

abbrev pub HasMark : View → ℕ → Type 0
HasMark view i = (batch : Batch) × (m : Marked) × Contains view.batches batch × Contains batch.marked m × (m.index ≡ i)

abbrev pub HasNode : View → ℕ → Type 0
HasNode view n = Contains (flat_map (λ b. b.nodes) view.batches ++ (view.loose ++ private_nodes view.rebuild)) n

abbrev pub Updates : View → Type 0
Updates view = HasUpdate view (λ r. ⊤)

abbrev pub Merges : View → ℕ → ℕ → Type 0
Merges view l t = HasUpdate view (λ r. (root : ℕ) × IsStillMerged r l t root)

-- by which of these it has a word of this name
abbrev pub Holder : Config → View → Name → Type 0
Holder c view (Lock i) = ⊥
Holder c view SlotHead = Locks view (index_lock c)
Holder c view (SlotNext i) = Locks view (index_lock c)
Holder c view (State i) = Locks view (index_lock c) ⊎ (Makes view i ⊎ HasMark view i)
Holder c view (Phase i) = Locks view (stripe_of c i) ⊎ HasMark view i
Holder c view (Layer i) = Makes view i ⊎ HasMark view i
Holder c view (User i) = Makes view i
Holder c view (BoxWord i k) = Makes view i ⊎ HasMark view i
Holder c view (LocA i) = HasMark view i
Holder c view (LocB i) = Locks view (stripe_of c i) ⊎ HasMark view i
Holder c view (Child n k) = HasNode view n
Holder c view (Bound n k q) = HasNode view n
Holder c view (Parent n) = HasNode view n
Holder c view PoolHead = Locks view (pool_lock c)
Holder c view (PoolNext n) = Locks view (pool_lock c)
Holder c view PoolFree = Locks view (pool_lock c)
Holder c view (Slot l t) = HoldsSlot l t view ⊎ Merges view l t
Holder c view (Reader p) = ⊥
Holder c view (Main l) = Updates view
Holder c view Update = Updates view
Holder c view Arena = Updates view

-- ---- each word that it has, it has so

locks : (view : View) (a lock : ℕ) (mode : Mode) → Holds view lock mode → Some a ≡ Some lock → Locks view a
locks view a lock mode holds e = (mode, subst (λ (l : ℕ). Holds view l mode) (sym (same_Some a lock e)) holds)

of_lock : (c : Config) (view : View) (name : Name) (lock : ℕ) (mode : Mode) → Holds view lock mode → guard_of c name ≡ Some lock → Holder c view name
of_lock c view SlotHead lock mode holds e = locks view _ lock mode holds e
of_lock c view (SlotNext i) lock mode holds e = locks view _ lock mode holds e
of_lock c view (State i) lock mode holds e = inl (locks view _ lock mode holds e)
of_lock c view PoolHead lock mode holds e = locks view _ lock mode holds e
of_lock c view (PoolNext n) lock mode holds e = locks view _ lock mode holds e
of_lock c view PoolFree lock mode holds e = locks view _ lock mode holds e
of_lock c view (Phase i) lock mode holds e = inl (locks view _ lock mode holds e)
of_lock c view (LocB i) lock mode holds e = inl (locks view _ lock mode holds e)
of_lock c view _ lock mode holds e = absurd (none-some lock e)

makes : (view : View) (i j : ℕ) → view.call.task ≡ Creating i → j ≡ i → Makes view j
makes view i j e same = subst (λ (k : ℕ). view.call.task ≡ Creating k) (sym same) e

of_creation : (c : Config) (view : View) (name : Name) (i : ℕ) → view.call.task ≡ Creating i → IsBodyWord i name → Holder c view name
of_creation c view (State j) i e same = inr (inl (makes view i j e same))
of_creation c view (Layer j) i e same = inl (makes view i j e same)
of_creation c view (User j) i e same = makes view i j e same
of_creation c view (BoxWord j k) i e same = inl (makes view i j e same)
of_creation c view _ i e same = absurd same

of_mark : (c : Config) (view : View) (name : Name) (batch : Batch) (m : Marked) → Contains view.batches batch → Contains batch.marked m → IsHeldWord m.index name → Holder c view name
of_mark c view (State j) batch m among marked same = inr (inr (batch, m, among, marked, sym same))
of_mark c view (Phase j) batch m among marked same = inr (batch, m, among, marked, sym same)
of_mark c view (Layer j) batch m among marked same = inr (batch, m, among, marked, sym same)
of_mark c view (BoxWord j k) batch m among marked same = inr (batch, m, among, marked, sym same)
of_mark c view (LocA j) batch m among marked same = (batch, m, among, marked, sym same)
of_mark c view (LocB j) batch m among marked same = inr (batch, m, among, marked, sym same)
of_mark c view _ batch m among marked same = absurd same

of_node : (c : Config) (view : View) (name : Name) (n : ℕ) → HasNode view n → node_in name ≡ Some n → Holder c view name
of_node c view (Child m k) n h e = subst (HasNode view) (sym (same_Some m n e)) h
of_node c view (Bound m k q) n h e = subst (HasNode view) (sym (same_Some m n e)) h
of_node c view (Parent m) n h e = subst (HasNode view) (sym (same_Some m n e)) h
of_node c view _ n h e = absurd (none-some n e)

none_of : (o : Option Rebuild) → ¬ IsSomeAnd o (λ r. ⊥)
none_of None h = h
none_of (Some r) h = h

of_update : (c : Config) (view : View) (name : Name) → HasUpdate view (λ r. IsUpdateWord r name) → Holder c view name
of_update c view Update h = h
of_update c view Arena h = h
of_update c view (Main l) h = h
of_update c view (Slot l t) h = inr h
of_update c view _ h = absurd (none_of view.rebuild h)

pub by_name : (c : Config) (view : View) (name : Name) → Owns c view name → Holder c view name
by_name c view name (by_lock lock mode holds e) = of_lock c view name lock mode holds e
by_name c view name (by_creation i e of_body) = of_creation c view name i e of_body
by_name c view name (by_batch batch among e) = subst (Holder c view) (sym e) (inl (batch, among, (refl, refl)))
by_name c view name (by_mark batch m among marked held) = of_mark c view name batch m among marked held
by_name c view name (by_node n among e) = of_node c view name n among e
by_name c view name (by_update h) = of_update c view name h

-- ---- words of a body under a stripe that another pass holds

abbrev pub Settles : Core → View → Name → Type 0
Settles core view (State i) = (mode : Mode) → Holds view (stripe_of core.config i) mode → word_of core (State i) < 256
Settles core view (Layer i) = (mode : Mode) → Holds view (stripe_of core.config i) mode → word_of core (State i) < 256
Settles core view (User i) = (mode : Mode) → Holds view (stripe_of core.config i) mode → word_of core (State i) < 256
Settles core view (BoxWord i k) = (mode : Mode) → Holds view (stripe_of core.config i) mode → word_of core (State i) < 256
Settles core view (LocA i) = (mode : Mode) → Holds view (stripe_of core.config i) mode → HasBody (scene_of core) i (λ r. r.phase ≡ Held)
Settles core view _ = ⊤

settled : (core : Core) (view : View) (name : Name) → Settles core view name → (i : ℕ) (mode : Mode) → Holds view (stripe_of core.config i) mode → IsBodyWord i name → word_of core (State i) < 256
settled core view (State j) s i mode holds same = subst (λ (k : ℕ). Holds view (stripe_of core.config k) mode → word_of core (State k) < 256) same (s mode) holds
settled core view (Layer j) s i mode holds same = subst (λ (k : ℕ). Holds view (stripe_of core.config k) mode → word_of core (State k) < 256) same (s mode) holds
settled core view (User j) s i mode holds same = subst (λ (k : ℕ). Holds view (stripe_of core.config k) mode → word_of core (State k) < 256) same (s mode) holds
settled core view (BoxWord j k) s i mode holds same = subst (λ (k : ℕ). Holds view (stripe_of core.config k) mode → word_of core (State k) < 256) same (s mode) holds
settled core view _ s i mode holds same = absurd same

-- ---- a word of a body

-- a pass has one by the lock of the list, since it creates the body, or by a mark
pub body-holder : (c : Config) (view : View) (name : Name) (i : ℕ) → IsBodyWord i name → Holder c view name → Locks view (index_lock c) ⊎ (Makes view i ⊎ HasMark view i)
body-holder c view (State j) i same h = subst (λ (k : ℕ). Locks view (index_lock c) ⊎ (Makes view k ⊎ HasMark view k)) same h
body-holder c view (Layer j) i same h = inr (subst (λ (k : ℕ). Makes view k ⊎ HasMark view k) same h)
body-holder c view (User j) i same h = inr (inl (subst (Makes view) same h))
body-holder c view (BoxWord j k) i same h = inr (subst (λ (k : ℕ). Makes view k ⊎ HasMark view k) same h)
body-holder c view _ i same h = absurd same

-- and one that holds its stripe asks that none is live
pub body-settles : (core : Core) (view : View) (name : Name) (i : ℕ) → IsBodyWord i name → ((mode : Mode) → Holds view (stripe_of core.config i) mode → word_of core (State i) < 256) → Settles core view name
body-settles core view (State j) i same low = subst (λ (k : ℕ). (mode : Mode) → Holds view (stripe_of core.config k) mode → word_of core (State k) < 256) (sym same) low
body-settles core view (Layer j) i same low = subst (λ (k : ℕ). (mode : Mode) → Holds view (stripe_of core.config k) mode → word_of core (State k) < 256) (sym same) low
body-settles core view (User j) i same low = subst (λ (k : ℕ). (mode : Mode) → Holds view (stripe_of core.config k) mode → word_of core (State k) < 256) (sym same) low
body-settles core view (BoxWord j k) i same low = subst (λ (k : ℕ). (mode : Mode) → Holds view (stripe_of core.config k) mode → word_of core (State k) < 256) (sym same) low
body-settles core view _ i same low = absurd same

-- ---- a step

-- of each pass but the one that steps
abbrev pub EachOther : Core → Step → (ℕ → View → Type 0) → Type 0
EachOther core step P = (seat number : ℕ) (view : View) → seat ≢ step.seat → IsViewAt core seat view → IsPass view number → P number view

-- no other pass holds the word, and what it holds of a body lets the word be stored
abbrev pub IsNobodys : Core → Step → Name → Type 0
IsNobodys core step name = EachOther core step (λ number view. ¬ Holder core.config view name × Settles core view name)

pub keeps : (kind : Kind) (core : Core) (step : Step) (name : Name) → step.name ≡ name → (stores kind.operation (found_by core step) step.first ≡ true → IsNobodys core step name) → KeepsGuards kind core step
keeps kind core step name names free stored seat number view apart found own =
    let t = free stored seat number view apart found own in
    record {
      others = λ owns. t.0 (by_name core.config view name (subst (Owns core.config view) names owns));
      body = λ i mode holds of_body. settled core view name t.1 i mode holds (subst (IsBodyWord i) names of_body);
      location = λ i mode holds e. subst (Settles core view) (sym names ∙ e) t.1 mode holds;
    }

-- no other pass has a lock that this one has to write
pub unlocked : (core : Core) (step : Step) (a : Acts core step) (lock : Config → ℕ) → Holds step.view (lock step.view.config) Write → EachOther core step (λ number view. ¬ Locks view (lock core.config))
unlocked core step a lock mine seat number view apart found own l =
    let here = subst (λ (c : Config). Holds step.view (lock c) Write) (a.formed.views step.seat step.view a.at (unspent_pass step.view.role step.number a.pass)).config mine in
    none-some l.0 (sym (writer-alone core (lock core.config) step.seat seat step.number number step.view view a.laws.locks a.at a.pass here apart found own) ∙ l.1)

-- so a word that a pass has by that lock alone is nobody else's
pub locked : (kind : Kind) (core : Core) (step : Step) (a : Acts core step) (lock : Config → ℕ) → Holds step.view (lock step.view.config) Write → (name : Name) → step.name ≡ name
    → ((view : View) → (Holder core.config view name → Locks view (lock core.config)) × Settles core view name) → KeepsGuards kind core step
locked kind core step a lock mine name names by =
    keeps kind core step name names (λ stored seat number view apart found own. (λ holder. unlocked core step a lock mine seat number view apart found own ((by view).0 holder), (by view).1))

-- what is to be proved of a kind: that it keeps the guards
abbrev pub IsGuarded : Asking → Kind → Type 0
IsGuarded asks kind = (before after : Core) → Steps asks kind before after → IsFormed before → Invariants before → GuardsHold before → GuardsHold after

pub guarded : (asks : Asking) (kind : Kind) → ((core : Core) (step : Step) → Acts core step → asks step.view step.name step.first step.second → KeepsGuards kind core step) → IsGuarded asks kind
guarded asks kind h before after steps formed laws guards =
    subst GuardsHold (sym steps.result) (GuardsHold-step kind before steps.step steps.allowed.at (h before steps.step (acts-of asks kind before after steps formed guards laws) steps.allowed.asked) guards)
