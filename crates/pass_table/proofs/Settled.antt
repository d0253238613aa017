-- A body that no batch holds and whose stripe a pass holds stands still for it, with its phase and its locations.
use Rattle.std.specs.Prelude.{filter_map, option_map, IsSomeAnd, All, ◌%◌}
use Rattle.std.proofs.Common.{◌≡◌, ◌≢◌, ℕ, Bool, true, false, List, [], ◌∷◌, ◌++◌, Option, Some, None, refl, ap, sym, ◌∙◌, subst, arith}
use mathlib.Core.Logic.{∥∥₁_elim}
use Rattle.std.proofs.Props.{props}
use Rattle.std.proofs.lemmas.Bool.{false≢true}
use Rattle.std.proofs.lemmas.List.{append-nil}
use Rattle.std.proofs.lemmas.List.Elements.{All-nil, All-cons, All-head, All-tail, filter_map-append}
use Rattle.body_ident.specs.Id.{Id}
use Rattle.scene_model.specs.declared.body_view.Phase.{Phase}
use Rattle.scene_model.specs.declared.body_view.Phase.TheVariants.{Out, Held, In}
use Rattle.scene_model.specs.declared.entry.Entry.TheVariants.{Remove}
use Rattle.scene_model.specs.Scene.{Record, Scene, Place, empty_scene, record_at}
use Rattle.scene_model.specs.Step.{in_phase, with_phase}
use Rattle.scene_model.specs.History.{IsLawfulFrom, scene_from}
use Rattle.scene_model.specs.Cause.{HasIdBody}
use Rattle.scene_model.proofs.Histories.{lawful_parts}
use Rattle.scene_model.proofs.Places.{place_at-with_change_same}
use Rattle.word_map.specs.declared.config.Config.{Config}
use Rattle.word_map.specs.declared.name.Name.{Name}
use Rattle.word_map.specs.declared.name.Name.TheVariants.{LocA, LocB}
use Rattle.word_map.specs.Names.{stripe_of}
use Rattle.core_state.specs.declared.item.Item.{Item}
use Rattle.core_state.specs.declared.view.Mode.{Mode}
use Rattle.core_state.specs.declared.view.View.{View}
use Rattle.core_state.specs.Log.{word, history, made_by}
use Rattle.core_state.specs.View.{IsPass, Holds, known_word}
use Rattle.core_state.specs.Formed.{IsSoundItem}
use Rattle.core_state.specs.Guards.{scene_at, by_lock}
use Rattle.core_state.specs.Quietly.{IsSteady, of_pass}
use Rattle.core_state.proofs.Reading.{word-other}
use Rattle.core_guard.proofs.Settled.{settled-since, scene-more}
use Rattle.pass_table.specs.Knowing.{KnowsMore}
use Rattle.pass_table.specs.Calls.{Advances}
use Rattle.pass_table.specs.Bodies.{IsCurrent, KnowsLive, HasKnownBody}
use Rattle.pass_table.specs.Settled.{KnowsSound, KnowsPhase, KnowsFirst, KnowsSecond}
use Rattle.pass_table.proofs.Current.{current-lawful}
use Rattle.pass_table.proofs.Calling.{steady-more}
use Rattle.pass_table.proofs.LockedBodies.{live-more}

-- ---- what is sound

-- what a pass knows that knows the whole log
pub sound-now : (view : View) → IsCurrent view → KnowsSound view
sound-now view now = record {
  items =
      subst (λ (c : Config). All (IsSoundItem c) view.known) now.sizes
      (subst (λ (l : List Item). All (IsSoundItem now.core.config) l) (sym now.whole) now.stands.formed.items);
  lawful = current-lawful view now;
}

-- the first and the second part of it
all-first : {X : Type 0} (P : X → Type 0) (xs ys : List X) → All P (xs ++ ys) → All P xs
all-first P [] ys h = All-nil P
all-first P (x ∷ xs) ys h = All-cons P x xs (All-head P x (xs ++ ys) h) (all-first P xs ys (All-tail P x (xs ++ ys) h))

all-second : {X : Type 0} (P : X → Type 0) (xs ys : List X) → All P (xs ++ ys) → All P ys
all-second P [] ys h = h
all-second P (x ∷ xs) ys h = all-second P xs ys (All-tail P x (xs ++ ys) h)

-- ---- of records

-- a body in a phase is not held, unless that is the phase
not-held : (o : Option Record) (P : Record → Type 0) (phase : Phase) → phase ≢ Held → IsSomeAnd o (λ r. P r × (r.phase ≡ phase)) → ¬ IsSomeAnd o (λ r. r.phase ≡ Held)
not-held None P phase apart h held = h
not-held (Some r) P phase apart h held = apart (sym h.1 ∙ held)

-- a body that is put out is out, and the same
put-out : (o : Option Record) (sequence : ℕ) (phase : Phase) → IsSomeAnd o (λ r. (r.generation % 256 ≡ sequence) × (r.phase ≡ phase))
    → IsSomeAnd (option_map (in_phase Out) o) (λ r. (r.generation % 256 ≡ sequence) × (r.phase ≡ Out))
put-out None sequence phase h = h
put-out (Some r) sequence phase h = (h.0, refl)

module _ (id : Id) (mode : Mode) (phase : Phase) (apart : phase ≢ Held) (view next : View) (stripe : Holds view (stripe_of view.config id.index) mode) (knows : KnowsPhase id phase view) where
  -- after what others stored, and then some items by the pass
  module _ (own : List Item) (advances : Advances view next own) (sizes : next.config ≡ view.config) (sound : KnowsSound next) where
    abbrev pub Mid : List Item
    Mid = view.known ++ advances.since

    items : All (IsSoundItem view.config) (Mid ++ own)
    items = subst (λ (l : List Item). All (IsSoundItem view.config) l) advances.known (subst (λ (c : Config). All (IsSoundItem c) next.known) sizes sound.items)

    abbrev start : Scene
    start = empty_scene view.config.bodies

    lawful : IsLawfulFrom view.config.layers start (history Mid)
    lawful =
        let whole = subst (λ (l : List Item). IsLawfulFrom view.config.layers start (history l)) advances.known
        (subst (λ (c : Config). IsLawfulFrom c.layers (empty_scene c.bodies) (history next.known)) sizes sound.lawful)
        in
        (lawful_parts view.config.layers start (history Mid) (history own) (subst (IsLawfulFrom view.config.layers start) (filter_map-append made_by Mid own) whole)).0

    parts : IsLawfulFrom view.config.layers start (history view.known) × IsLawfulFrom view.config.layers (scene_at view.config view.known) (history advances.since)
    parts = lawful_parts view.config.layers start (history view.known) (history advances.since) (subst (IsLawfulFrom view.config.layers start) (filter_map-append made_by view.known advances.since) lawful)

    pub sound-before : KnowsSound view
    sound-before = record { items = all-first (IsSoundItem view.config) view.known advances.since (all-first (IsSoundItem view.config) Mid own items); lawful = parts.0 }

    same : (record_at (scene_at view.config Mid) id.index ≡ record_at (scene_at view.config view.known) id.index) × (word view.config Mid (LocA id.index) ≡ known_word view (LocA id.index))
    same =
        let live = knows.live in
        settled-since view.config view id.index mode stripe view.known advances.since (λ early later item split. (advances.others early later item split).quiet)
        (all-second (IsSoundItem view.config) view.known advances.since (all-first (IsSoundItem view.config) Mid own items)) parts.1 (omega arith)
        (not-held (record_at (scene_at view.config view.known) id.index) (λ r. r.generation % 256 ≡ id.seq) phase apart (knows.body sound-before))

    -- the body is as it was, and so is its first location
    pub mid-phase : HasIdBody (scene_at view.config Mid) id (λ r. r.phase ≡ phase)
    mid-phase = subst (λ (o : Option Record). IsSomeAnd o (λ r. (r.generation % 256 ≡ id.seq) × (r.phase ≡ phase))) (sym same.0) (knows.body sound-before)

    pub mid-place : word view.config Mid (LocA id.index) ≡ known_word view (LocA id.index)
    mid-place = same.1

  -- after a step of the pass that makes no entry
  module _ (item : Item) (advances : Advances view next (item ∷ [])) (sizes : next.config ≡ view.config) where
    pub phase-beside : item.entry ≡ None → KnowsLive id next → KnowsPhase id phase next
    phase-beside none live = record {
      live = live;
      body = λ sound.
          let mid = view.known ++ advances.since in
          let none_made : history (item ∷ []) ≡ [] = ap (λ e. filter_map made_by (record item { entry = e } ∷ [])) none in
          let scene : scene_at next.config next.known ≡ scene_at view.config mid =
          (λ i. scene_at (sizes i) (advances.known i)) ∙ (scene-more view.config mid (item ∷ []) ∙ ap (scene_from (scene_at view.config mid)) none_made)
          in
          subst (λ (s : Scene). HasIdBody s id (λ r. r.phase ≡ phase)) (sym scene) (mid-phase (item ∷ []) advances sizes sound);
    }

    -- after one that takes the body out
    pub phase-removed : item.entry ≡ Some (Remove id.index) → KnowsLive id next → KnowsPhase id Out next
    phase-removed removes live = record {
      live = live;
      body = λ sound.
          let mid = view.known ++ advances.since in
          let i = id.index in
          let made : history (item ∷ []) ≡ record { pass = item.pass; entry = Remove i } ∷ [] = ap (λ e. filter_map made_by (record item { entry = e } ∷ [])) removes in
          let scene : scene_at next.config next.known ≡ with_phase Out (scene_at view.config mid) i =
          (λ k. scene_at (sizes k) (advances.known k)) ∙ (scene-more view.config mid (item ∷ []) ∙ ap (scene_from (scene_at view.config mid)) made)
          in
          let there : record_at (with_phase Out (scene_at view.config mid) i) i ≡ option_map (in_phase Out) (record_at (scene_at view.config mid) i) =
          ap (λ (p : Place). p.body) (place_at-with_change_same (in_phase Out) (scene_at view.config mid) i)
          in
          subst (λ (s : Scene). HasIdBody s id (λ r. r.phase ≡ Out)) (sym scene)
          (subst (λ (o : Option Record). IsSomeAnd o (λ r. (r.generation % 256 ≡ id.seq) × (r.phase ≡ Out))) (sym there)
          (put-out (record_at (scene_at view.config mid) i) id.seq phase (mid-phase (item ∷ []) advances sizes sound)));
    }

    -- on another word than the first location
    pub first-beside : (first : ℕ) → item.name ≢ LocA id.index → KnowsFirst id first view → KnowsFirst id first next
    first-beside first other is sound =
        (λ i. word (sizes i) (advances.known i) (LocA id.index))
        ∙ (word-other view.config (view.known ++ advances.since) item (LocA id.index) other
        ∙ (mid-place (item ∷ []) advances sizes sound ∙ is (sound-before (item ∷ []) advances sizes sound)))

  -- while others act
  module _ (more : KnowsMore view next) where
    more_sizes : next.config ≡ view.config
    more_sizes = ap (λ (v : View). v.config) more.rest

    abbrev by_others : Advances view next []
    by_others = record { since = more.since; known = more.known ∙ sym (append-nil (view.known ++ more.since)); others = more.others; mine = All-nil (λ (i : Item). IsPass view i.pass) }

    at_end : scene_at view.config (view.known ++ more.since) ≡ scene_at next.config next.known
    at_end = λ i. scene_at (sym more_sizes i) (sym more.known i)

    pub phase-more : KnowsPhase id phase next
    phase-more = record {
      live = live-more id mode view next more stripe knows.live;
      body = λ sound. subst (λ (s : Scene). HasIdBody s id (λ r. r.phase ≡ phase)) at_end (mid-phase [] by_others more_sizes sound);
    }

    pub first-more : (first : ℕ) → KnowsFirst id first view → KnowsFirst id first next
    first-more first is sound =
        (λ i. word (more_sizes i) (more.known i) (LocA id.index)) ∙ (mid-place [] by_others more_sizes sound ∙ is (sound-before [] by_others more_sizes sound))

-- the second location is guarded by the stripe
pub second-steady : (index : ℕ) (mode : Mode) (view : View) → Holds view (stripe_of view.config index) mode → IsSteady view (LocB index)
second-steady index mode view holds = of_pass (by_lock (stripe_of view.config index) mode holds refl)

pub second-more : (id : Id) (mode : Mode) (view next : View) (second : ℕ) → KnowsMore view next → Holds view (stripe_of view.config id.index) mode → KnowsSecond id second view → KnowsSecond id second next
second-more id mode view next second more holds is = steady-more view next (LocB id.index) more (second-steady id.index mode view holds) ∙ is

-- ---- a pass knows the whole log of a core that stands

-- so it is sure of what is decided
module _ (view : View) (current : ∥ IsCurrent view ∥₁) where
  pub sure-word : (name : Name) (value : ℕ) → (KnowsSound view → known_word view name ≡ value) → known_word view name ≡ value
  sure-word name value is = ∥∥₁_elim current (hlevel props) (λ now. is (sound-now view now))

  pub sure-in : (id : Id) → KnowsPhase id In view → HasKnownBody id view (λ r. r.phase ≡ In)
  sure-in id knows = sure (record_at (scene_at view.config view.known) id.index) (λ now. knows.body (sound-now view now))
    where
      sure : (o : Option Record) → (IsCurrent view → IsSomeAnd o (λ r. (r.generation % 256 ≡ id.seq) × (r.phase ≡ In))) → IsSomeAnd o (λ r. (r.generation % 256 ≡ id.seq) × (r.phase ≡ In))
      sure None h = absurd (∥∥₁_elim current (hlevel props) h)
      sure (Some r) h = (∥∥₁_elim current (hlevel props) (λ now. (h now).0), phase-is r.phase (∥∥₁_elim current (hlevel props) (λ now. ap phase-in (h now).1)))
        where
          phase-in : Phase → Bool
          phase-in In = true
          phase-in _ = false

          phase-is : (phase : Phase) → phase-in phase ≡ true → phase ≡ In
          phase-is In e = refl
          phase-is Out e = absurd (false≢true e)
          phase-is Held e = absurd (false≢true e)
