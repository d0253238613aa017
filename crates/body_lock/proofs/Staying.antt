-- A body that is locked stays, but that it may join.
use Rattle.std.proofs.Common.{◌≡◌, ◌≢◌, ◌⊎◌, inl, inr, ℕ, ◌≤◌, List, [], ◌∷◌, ◌++◌, append_assoc, Option, Some, None, option_map, IfSome, IsSomeAnd, refl, ap, sym, ◌∙◌, subst, arith}
use Rattle.std.specs.Prelude.{All, ⊤}
use Rattle.std.specs.List.{cons_option}
use Rattle.std.proofs.lemmas.Option.{none-some}
use Rattle.std.proofs.lemmas.List.{append-nil, append_cancel_left}
use Rattle.std.proofs.lemmas.List.Elements.{All-nil, All-cons, All-head, All-tail, All-contains, filter_map-append}
use Rattle.body_ident.specs.Id.{Id}
use Rattle.scene_model.specs.declared.body_view.Phase.{Phase}
use Rattle.scene_model.specs.declared.body_view.Phase.TheVariants.{Held, In}
use Rattle.scene_model.specs.declared.entry.Entry.{Entry}
use Rattle.scene_model.specs.declared.entry.Entry.TheVariants.{Create, Destroy, Mark, Unmark, Join, Remove, Move, SetUser}
use Rattle.scene_model.specs.declared.entry.Made.{Made}
use Rattle.scene_model.specs.Scene.{Scene, Record, Place, empty_scene, place_at, record_at}
use Rattle.scene_model.specs.Step.{HasBody, IsLawful, in_phase, after_entry}
use Rattle.scene_model.specs.History.{scene_from, IsLawfulFrom}
use Rattle.scene_model.proofs.Places.{place_at-with_body_other}
use Rattle.scene_model.proofs.Batches.{place_at-fold_phase}
use Rattle.scene_model.proofs.Histories.{scene_from-append, lawful_parts}
use Rattle.word_map.specs.declared.config.Config.{Config}
use Rattle.word_map.specs.declared.name.Name.{Name}
use Rattle.word_map.specs.declared.name.Name.TheVariants.{State, Phase as PhaseWord}
use Rattle.word_map.specs.Names.{stripe_of}
use Rattle.core_state.specs.declared.item.Item.{Item}
use Rattle.core_state.specs.declared.view.Mode.{Mode}
use Rattle.core_state.specs.declared.view.View.{View}
use Rattle.core_state.specs.Log.{word, made_by, history}
use Rattle.core_state.specs.View.{Holds}
use Rattle.core_state.specs.Guards.{Owns, IsBodyWord, by_lock, scene_at}
use Rattle.core_state.specs.Formed.{IsMadeOn, IsSoundItem}
use Rattle.core_state.proofs.Reading.{word-other}
use Rattle.core_guard.proofs.Scenes.{place_at-created_other, place_at-destroyed_other}
use Rattle.pass_table.specs.Knowing.{IsOthers, KnowsMore}
use Rattle.pass_table.proofs.Keeping.{All-second}
use Rattle.pass_table.specs.Bodies.{IsGuarding, IsCurrent, IsTold}
use Rattle.pass_table.proofs.LockedBodies.{tells, guarding-more}
use Rattle.body_lock.specs.Staying.{IsSameBody, StaysLive, BodyStays}

-- ---- one body

-- the same body, or none both times
abbrev MayJoin : Option Record → Option Record → Type 0
MayJoin (Some r) (Some s) = IsSameBody r s
MayJoin None None = ⊤
MayJoin _ _ = ⊥

may_join-refl : (o : Option Record) → MayJoin o o
may_join-refl None = tt
may_join-refl (Some r) = record { generation = refl; layer = refl; bounds = refl; user = refl; phase = inl refl }

may_join-same : (o p : Option Record) → p ≡ o → MayJoin o p
may_join-same o p e = subst (MayJoin o) (sym e) (may_join-refl o)

held≢in : Held ≢ In
held≢in e = absurd cc

phases-trans : (a b c : Phase) → (a ≡ b) ⊎ ((a ≡ Held) × (b ≡ In)) → (b ≡ c) ⊎ ((b ≡ Held) × (c ≡ In)) → (a ≡ c) ⊎ ((a ≡ Held) × (c ≡ In))
phases-trans a b c (inl e) (inl f) = inl (e ∙ f)
phases-trans a b c (inl e) (inr t) = inr (e ∙ t.0, t.1)
phases-trans a b c (inr t) (inl f) = inr (t.0, sym f ∙ t.1)
phases-trans a b c (inr t) (inr u) = absurd (held≢in (sym u.0 ∙ t.1))

may_join-trans : (o p q : Option Record) → MayJoin o p → MayJoin p q → MayJoin o q
may_join-trans None None None h k = tt
may_join-trans None None (Some s) h k = k
may_join-trans None (Some r) q h k = absurd h
may_join-trans (Some r) None q h k = absurd h
may_join-trans (Some r) (Some s) None h k = k
may_join-trans (Some r) (Some s) (Some t) h k = record {
  generation = h.generation ∙ k.generation;
  layer = h.layer ∙ k.layer;
  bounds = h.bounds ∙ k.bounds;
  user = h.user ∙ k.user;
  phase = phases-trans r.phase s.phase t.phase h.phase k.phase;
}

-- where one is live later, it was
may_join-live : (o p : Option Record) (r : Record) → p ≡ Some r → MayJoin o p → (s : Record) × (o ≡ Some s)
may_join-live None None r e h = absurd (none-some r e)
may_join-live None (Some q) r e h = absurd h
may_join-live (Some s) p r e h = (s, refl)

stays-live : (o p : Option Record) (r : Record) → o ≡ Some r → MayJoin o p → StaysLive o p
stays-live None p r e h = absurd (none-some r e)
stays-live (Some r) None q e h = h
stays-live (Some r) (Some s) q e h = h

-- a held body that joins
may_join-joined : (o : Option Record) → IsSomeAnd o (λ r. r.phase ≡ Held) → MayJoin o (option_map (in_phase In) o)
may_join-joined None h = tt
may_join-joined (Some r) h = record { generation = refl; layer = refl; bounds = refl; user = refl; phase = inr (h, refl) }

-- ---- one entry

-- the entry does not change the body at an index, but that it may join
abbrev IsElse : ℕ → Entry → Type 0
IsElse i (Create j layer bounds user) = i ≢ j
IsElse i (Destroy j) = i ≢ j
IsElse i (Mark j) = i ≢ j
IsElse i (Unmark j) = i ≢ j
IsElse i (Join layer indexes) = ⊤
IsElse i (Remove j) = i ≢ j
IsElse i (Move j bounds) = i ≢ j
IsElse i (SetUser j user) = i ≢ j

some-held : (o : Option Record) (layer : ℕ) → IsSomeAnd o (λ r. (r.phase ≡ Held) × (r.layer ≡ layer)) → IsSomeAnd o (λ r. r.phase ≡ Held)
some-held None layer h = h
some-held (Some r) layer h = h.0

body-same : (scene after : Scene) (i : ℕ) → place_at after i ≡ place_at scene i → MayJoin (record_at scene i) (record_at after i)
body-same scene after i e = may_join-same (record_at scene i) (record_at after i) (ap (λ (p : Place). p.body) e)

entry-stays : (layers : ℕ) (scene : Scene) (i : ℕ) (entry : Entry) → IsLawful layers scene entry → IsElse i entry → MayJoin (record_at scene i) (record_at (after_entry scene entry) i)
entry-stays layers scene i (Create j layer bounds user) lawful other = body-same scene (after_entry scene (Create j layer bounds user)) i (place_at-created_other scene j layer bounds user i lawful.0 other)
entry-stays layers scene i (Destroy j) lawful other = body-same scene (after_entry scene (Destroy j)) i (place_at-destroyed_other scene j i other)
entry-stays layers scene i (Mark j) lawful other = body-same scene (after_entry scene (Mark j)) i (place_at-with_body_other scene j i _ other)
entry-stays layers scene i (Unmark j) lawful other = body-same scene (after_entry scene (Unmark j)) i (place_at-with_body_other scene j i _ other)
entry-stays layers scene i (Join layer indexes) lawful other =
    elim (place_at-fold_phase In indexes scene i) [
      | inl t ↦
          subst (MayJoin (record_at scene i)) (sym (ap (λ (p : Place). p.body) t.1))
          (may_join-joined (record_at scene i) (some-held (record_at scene i) layer (All-contains (λ k. HasBody scene k (λ r. (r.phase ≡ Held) × (r.layer ≡ layer))) indexes i lawful.0.2 t.0)))
      | inr t ↦ body-same scene (after_entry scene (Join layer indexes)) i t.1
    ]
entry-stays layers scene i (Remove j) lawful other = body-same scene (after_entry scene (Remove j)) i (place_at-with_body_other scene j i _ other)
entry-stays layers scene i (Move j bounds) lawful other = body-same scene (after_entry scene (Move j bounds)) i (place_at-with_body_other scene j i _ other)
entry-stays layers scene i (SetUser j user) lawful other = body-same scene (after_entry scene (SetUser j user)) i (place_at-with_body_other scene j i _ other)

-- ---- a history that goes on

abbrev made_of : ℕ → Entry → Made
made_of pass entry = record { pass = pass; entry = entry }

one-more : (layers : ℕ) (scene : Scene) (i pass : ℕ) (entry : Option Entry) (later : List Made) → IsLawfulFrom layers scene (cons_option (option_map (made_of pass) entry) later) → IfSome entry (IsElse i)
    → ((next : Scene) → IsLawfulFrom layers next later → MayJoin (record_at next i) (record_at (scene_from next later) i))
    → MayJoin (record_at scene i) (record_at (scene_from scene (cons_option (option_map (made_of pass) entry) later)) i)
one-more layers scene i pass None later lawful other rest = rest scene lawful
one-more layers scene i pass (Some entry) later lawful other rest =
    let next = after_entry scene entry in
    may_join-trans (record_at scene i) (record_at next i) (record_at (scene_from next later) i) (entry-stays layers scene i entry lawful.0 other) (rest next lawful.1)

abbrev AreElse : ℕ → List Item → Type 0
AreElse i items = All (λ item. IfSome item.entry (IsElse i)) items

items-stay : (layers : ℕ) (scene : Scene) (i : ℕ) (items : List Item) → IsLawfulFrom layers scene (history items) → AreElse i items → MayJoin (record_at scene i) (record_at (scene_from scene (history items)) i)
items-stay layers scene i [] lawful other = may_join-refl (record_at scene i)
items-stay layers scene i (item ∷ items) lawful other =
    let P : Item → Type 0 = λ it. IfSome it.entry (IsElse i) in
    one-more layers scene i item.pass item.entry (history items) lawful (All-head P item items other) (λ next rest. items-stay layers next i items rest (All-tail P item items other))

first-all : {X : Type 0} (P : X → Type 0) (xs ys : List X) → All P (xs ++ ys) → All P xs
first-all P [] ys h = All-nil P
first-all P (x ∷ xs) ys h = All-cons P x xs (All-head P x (xs ++ ys) h) (first-all P xs ys (All-tail P x (xs ++ ys) h))

-- so between two logs, of which the one goes on from the other
log-stays : (c : Config) (layers i : ℕ) (first mid later : List Item) → IsLawfulFrom layers (empty_scene c.bodies) (history ((first ++ mid) ++ later)) → AreElse i mid
    → MayJoin (record_at (scene_at c first) i) (record_at (scene_at c (first ++ mid)) i)
log-stays c layers i first mid later lawful other =
    let start = empty_scene c.bodies in
    let whole : history ((first ++ mid) ++ later) ≡ history (first ++ mid) ++ history later = filter_map-append made_by (first ++ mid) later in
    let front : history (first ++ mid) ≡ history first ++ history mid = filter_map-append made_by first mid in
    let parts = lawful_parts layers start (history (first ++ mid)) (history later) (subst (IsLawfulFrom layers start) whole lawful) in
    let halves = lawful_parts layers start (history first) (history mid) (subst (IsLawfulFrom layers start) front parts.0) in
    subst (λ (scene : Scene). MayJoin (record_at (scene_at c first) i) (record_at scene i))
    (sym (ap (scene_from start) front ∙ scene_from-append start (history first) (history mid)))
    (items-stay layers (scene_at c first) i mid halves.1 other)

-- ---- what others do under a held stripe

-- an entry that is made on no word of the body
else-made : (i : ℕ) (name : Name) (entry : Entry) → ¬ IsBodyWord i name → name ≢ PhaseWord i → IsMadeOn entry name → IsElse i entry
else-made i name (Create j layer bounds user) none phase made = λ same. none (subst (IsBodyWord i) (sym made) (sym same))
else-made i name (Destroy j) none phase made = λ same. none (subst (IsBodyWord i) (sym made) (sym same))
else-made i name (Mark j) none phase made = λ same. phase (made ∙ ap PhaseWord (sym same))
else-made i name (Unmark j) none phase made = λ same. phase (made ∙ ap PhaseWord (sym same))
else-made i name (Join layer indexes) none phase made = tt
else-made i name (Remove j) none phase made = λ same. phase (made ∙ ap PhaseWord (sym same))
else-made i name (Move j bounds) none phase made = λ same. none (subst (IsBodyWord i) (sym made.1) (sym same))
else-made i name (SetUser j user) none phase made = λ same. none (subst (IsBodyWord i) (sym made) (sym same))

else-some : (i : ℕ) (name : Name) (entry : Option Entry) → ¬ IsBodyWord i name → name ≢ PhaseWord i → IfSome entry (λ e. IsMadeOn e name) → IfSome entry (IsElse i)
else-some i name None none phase made = tt
else-some i name (Some entry) none phase made = else-made i name entry none phase made

module _ (view : View) (i : ℕ) (mode : Mode) (holds : Holds view (stripe_of view.config i) mode) where
  others-else : (known since : List Item) → ((early later : List Item) (item : Item) → since ≡ early ++ item ∷ later → IsOthers view (known ++ early) item) → 256 ≤ word view.config known (State i)
      → All (IsSoundItem view.config) since → AreElse i since
  others-else known [] others live sound = All-nil (λ item. IfSome item.entry (IsElse i))
  others-else known (item ∷ since) others live sound =
      let first : IsOthers view known item = subst (λ (l : List Item). IsOthers view l item) (append-nil known) (others [] since item refl) in
      let none : ¬ IsBodyWord i item.name = λ own. let dead = first.quiet.body i mode holds own in omega arith in
      let phase : item.name ≢ PhaseWord i = λ same. first.quiet.others (subst (Owns view.config view) (sym same) (by_lock (stripe_of view.config i) mode holds refl)) in
      let said = (All-head (IsSoundItem view.config) item since sound).said in
      let later : (early rest : List Item) (next : Item) → since ≡ early ++ next ∷ rest → IsOthers view ((known ++ item ∷ []) ++ early) next = λ early rest next parts.
      subst (λ (l : List Item). IsOthers view l next) (sym (append_assoc known (item ∷ []) early)) (others (item ∷ early) rest next (ap (λ (l : List Item). item ∷ l) parts))
      in
      let state : word view.config (known ++ item ∷ []) (State i) ≡ word view.config known (State i) =
      word-other view.config known item (State i) (λ same. none (subst (IsBodyWord i) (sym same) refl))
      in
      All-cons (λ it. IfSome it.entry (IsElse i)) item since (else-some i item.name item.entry none phase said)
      (others-else (known ++ item ∷ []) since later (omega arith) (All-tail (IsSoundItem view.config) item since sound))

-- ---- a guarded body

module _ (number : ℕ) (id : Id) (mode : Mode) (view next : View) (guarding : IsGuarding number id mode view) (more : KnowsMore view next) (now : IsCurrent next) where
  sizes : now.core.config ≡ view.config
  sizes = now.sizes ∙ ap (λ (v : View). v.config) more.rest

  log : now.core.log ≡ view.known ++ more.since
  log = sym now.whole ∙ more.known

  sound-since : All (IsSoundItem view.config) more.since
  sound-since =
      All-second (IsSoundItem view.config) view.known more.since
      (subst (λ (l : List Item). All (IsSoundItem view.config) l) log (subst (λ (c : Config). All (IsSoundItem c) now.core.log) sizes now.stands.formed.items))

  state-live : 256 ≤ word view.config view.known (State id.index)
  state-live = let state = guarding.state in omega arith

  else-since : AreElse id.index more.since
  else-since = others-else view id.index mode guarding.stripe view.known more.since more.others state-live sound-since

  lawful : IsLawfulFrom view.config.layers (empty_scene view.config.bodies) (history (view.known ++ more.since))
  lawful =
      subst (λ (l : List Item). IsLawfulFrom view.config.layers (empty_scene view.config.bodies) (history l)) log
      (subst (λ (c : Config). IsLawfulFrom c.layers (empty_scene c.bodies) (history now.core.log)) sizes now.stands.laws.bodies.lawful)

  pub guarded-stays : BodyStays id.index view next
  guarded-stays early mid later parts =
      let c = view.config in
      let i = id.index in
      let since : more.since ≡ early ++ (mid ++ later) =
      append_cancel_left view.known more.since (early ++ (mid ++ later))
      (sym more.known ∙ (parts ∙ (append_assoc (view.known ++ early) mid later ∙ append_assoc view.known early (mid ++ later))))
      in
      let else : AreElse i (early ++ (mid ++ later)) = subst (AreElse i) since else-since in
      let P : Item → Type 0 = λ item. IfSome item.entry (IsElse i) in
      let else_rest : AreElse i (mid ++ later) = All-second P early (mid ++ later) else in
      let known : next.known ≡ view.known ++ more.since = more.known in
      let here : IsLawfulFrom c.layers (empty_scene c.bodies) (history next.known) = subst (λ (l : List Item). IsLawfulFrom c.layers (empty_scene c.bodies) (history l)) (sym known) lawful in
      let told : IsTold id next = tells number id mode next (guarding-more number id mode view guarding next more) now in
      let end = record_at (scene_at c next.known) i in
      let end_live : end ≡ Some told.body = ap (λ (s : Config). record_at (scene_at s next.known) i) (sym (ap (λ (v : View). v.config) more.rest)) ∙ told.live in
      let a = view.known ++ early in
      let to_end : MayJoin (record_at (scene_at c a) i) end =
      subst (λ (l : List Item). MayJoin (record_at (scene_at c a) i) (record_at (scene_at c l) i)) (sym (parts ∙ append_assoc a mid later))
      (log-stays c c.layers i a (mid ++ later) []
      (subst (λ (l : List Item). IsLawfulFrom c.layers (empty_scene c.bodies) (history l)) (parts ∙ (append_assoc a mid later ∙ sym (append-nil (a ++ (mid ++ later))))) here) else_rest)
      in
      let live = may_join-live (record_at (scene_at c a) i) end told.body end_live to_end in
      stays-live (record_at (scene_at c a) i) (record_at (scene_at c (a ++ mid)) i) live.0 live.1
      (log-stays c c.layers i a mid later (subst (λ (l : List Item). IsLawfulFrom c.layers (empty_scene c.bodies) (history l)) parts here) (first-all P mid later else_rest))
