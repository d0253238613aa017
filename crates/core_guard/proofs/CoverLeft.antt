-- The bodies are covered after a step of which it is shown only what the law says of the bodies that it touches.
use Rattle.std.proofs.Common.{◌≡◌, ◌≢◌, ◌⊎◌, ◌↔◌, ℕ, ◌++◌, ◌<◌, ◌≤◌, List, length, Option, Some, None, refl, ap, sym, ◌∙◌, subst, inl, inr, arith}
use Rattle.std.specs.Prelude.{Contains, IsSomeAnd, IfSome, map}
use Rattle.fixed_box.specs.FixBox.{words_of}
use Rattle.scene_model.specs.declared.body_view.Phase.TheVariants.{In}
use Rattle.scene_model.specs.declared.entry.Made.{Made}
use Rattle.scene_model.specs.Scene.{Record, record_at}
use Rattle.scene_model.specs.Step.{HasBody}
use Rattle.word_map.specs.declared.name.Name.{Name}
use Rattle.word_map.specs.declared.name.Name.TheVariants.{Phase, LocA, LocB, Slot}
use Rattle.core_state.specs.declared.view.Noted.{Noted}
use Rattle.core_state.specs.declared.view.Rebuild.{Rebuild}
use Rattle.core_state.specs.declared.view.Task.{Task}
use Rattle.core_state.specs.declared.view.Task.TheVariants.{Nothing, Creating, Destroying, Pooling, Moving, Removing, Placing}
use Rattle.core_state.specs.declared.view.View.{View}
use Rattle.core_state.specs.Core.{Core, word_of}
use Rattle.core_state.specs.Kind.{Kind, Step, after_step}
use Rattle.core_state.specs.Encoding.{place, phase_join, slot_tree, Sides, sides_of}
use Rattle.core_state.specs.Parts.{task_on_cover, update_on_cover}
use Rattle.core_state.specs.Nodes.{Nodes, superseded, IsInTree, IsPublished, IsOfLayer}
use Rattle.core_state.specs.Scope.{Sight, sight, scene_in, IsOnce}
use Rattle.core_state.specs.Space.{HadAs}
use Rattle.core_state.specs.Updates.{EachUpdate, IsOldTree, IsStillMerged, IsNoted, IsPlacing, IsDone}
use Rattle.core_state.specs.LocationsHold.{IsLocation, Removes}
use Rattle.core_state.specs.BodiesCovered.{BodiesCovered, cover_scope, IsCovered, IsInOldTree, LooksAsNoted, IsAsNoted, IsOpen, NotesHold, KeepsMerged, ExchangesDone}
use Rattle.core_guard.proofs.Seats.{seen_of}
use Rattle.core_guard.proofs.Growing.{point-grown, length-grown}
use Rattle.core_guard.proofs.InPlace.{InPlace, stays-in_place, creation-forth, creation-back, in-was, unremoved-stays}
use Rattle.core_guard.proofs.Leaving.{Acts, After, Last, Stays, IsApart, Leaves, Touches, home-back, each_update, if_some_map, if_some_both, published-stands, old-stands, stands-in_tree}
use Rattle.core_guard.proofs.PlacesStay.{places-handles}

-- ---- what the law says of one body

pub record BodyIsCovered (nodes : Nodes) (s : Sight) (i : ℕ) : Type 0 where
  pub covered : (r : Record) → record_at (scene_in s) i ≡ Some r → r.phase ≡ In → IsCovered nodes s i r.layer
  pub replaced : (n k number : ℕ) (name : Name) → k < 4 → s.word (LocA i) ≡ place n k → nodes.home n ≡ superseded number name → s.word (LocB i) ≢ 0

-- and of one body for one update
pub record IsNotedRight (nodes : Nodes) (s : Sight) (view : View) (r : Rebuild) (i : ℕ) : Type 0 where
  pub to_place : (l t root : ℕ) → i < r.passed → IsStillMerged r l t root → HasBody (scene_in s) i (λ b. b.layer ≡ l) → s.word (Phase i) ≡ phase_join t → IsNoted r i (λ n. ¬ IsDone view r i)
  pub all_noted : IsOpen view r i → IsInOldTree nodes s r i → IsNoted r i (λ n. IsAsNoted s n)
  pub still_there : (n : Noted) → Contains r.noted n → n.index ≡ i → IsOpen view r i → LooksAsNoted s n → IsInOldTree nodes s r i × IsAsNoted s n
  pub in_old : (n : Noted) → Contains r.noted n → n.index ≡ i → ¬ IsDone view r i → (x : ℕ) × (b : ℕ) × (b < 4) × (n.location ≡ place x b) × IsOldTree r (nodes.home x)
  pub placed : Contains r.placed i → IsInOldTree nodes s r i → IsNoted r i (λ n. s.word (LocB i) ≡ n.place)
  pub given_up : Contains r.given_up i → ¬ IsInOldTree nodes s r i
  pub exchanged : 0 < length r.swapped → (n : Noted) → Contains r.noted n → n.index ≡ i → IsDone view r i

-- and of an update beside single bodies
pub record RestHolds (s : Sight) (r : Rebuild) : Type 0 where
  pub located : (n : Noted) → Contains r.noted n → n.location ≢ 0
  pub once : IsOnce (map (λ n. n.index) r.noted)
  pub passed : (n : Noted) → Contains r.noted n → n.index < r.passed
  pub boxes : (n : Noted) → Contains r.noted n → HadAs s r.from n (sides_of n.bounds)
  pub begun : r.from ≤ length s.history
  pub merged : KeepsMerged s r

module _ (nodes : Nodes) (s : Sight) where
  -- the law of notes is that of each body
  right-of : (view : View) (r : Rebuild)
      → ((i l t root : ℕ) → i < r.passed → IsStillMerged r l t root → HasBody (scene_in s) i (λ b. b.layer ≡ l) → s.word (Phase i) ≡ phase_join t → IsNoted r i (λ n. ¬ IsDone view r i))
      → NotesHold nodes s view r → ExchangesDone view r → (i : ℕ) → IsNotedRight nodes s view r i
  right-of view r places notes exchanged i = record {
    to_place = places i;
    all_noted = notes.all_noted i;
    still_there = λ n among same opened looks.
        subst (λ (j : ℕ). IsInOldTree nodes s r j × IsAsNoted s n) same (notes.still_there n among (subst (IsOpen view r) (sym same) opened) looks);
    in_old = λ n among same undone. notes.in_old n among (λ done. undone (subst (IsDone view r) same done));
    placed = notes.placed i;
    given_up = notes.given_up i;
    exchanged = λ begun n among same. subst (IsDone view r) same (exchanged begun n among);
  }

  notes-of : (view : View) (r : Rebuild) → RestHolds s r → ((i : ℕ) → IsNotedRight nodes s view r i) → NotesHold nodes s view r
  notes-of view r rest right = record {
    all_noted = λ i. (right i).all_noted;
    still_there = λ n among. (right n.index).still_there n among refl;
    located = rest.located;
    in_old = λ n among. (right n.index).in_old n among refl;
    placed = λ i. (right i).placed;
    given_up = λ i. (right i).given_up;
    once = rest.once;
    passed = rest.passed;
    boxes = rest.boxes;
    begun = rest.begun;
  }

-- ---- what the law reads of a task

-- who takes a body out, or places it, is seen to
task-seen : (task : Task) (i : ℕ) → (Removes task i ↔ Removes (task_on_cover task) i) × (IsPlacing task i ↔ IsPlacing (task_on_cover task) i)
task-seen Nothing i = ((λ h. h, λ h. h), (λ h. h, λ h. h))
task-seen (Creating index) i = ((λ h. h, λ h. h), (λ h. h, λ h. h))
task-seen (Destroying index) i = ((λ h. h, λ h. h), (λ h. h, λ h. h))
task-seen (Pooling taken given) i = ((λ h. h, λ h. h), (λ h. h, λ h. h))
task-seen (Moving index target) i = ((λ h. h, λ h. h), (λ h. h, λ h. h))
task-seen (Removing index) i = ((λ h. h, λ h. h), (λ h. h, λ h. h))
task-seen (Placing index) i = ((λ h. h, λ h. h), (λ h. h, λ h. h))

-- an update has done with a body still, where nobody begins to place it
pub still_done : (v w : View) (r : Rebuild) (i : ℕ) → (IsPlacing w.call.task i → IsPlacing v.call.task i) → IsDone v r i → IsDone w r i
still_done v w r i calm (inl t) = inl (t.0, λ places. t.1 (calm places))
still_done v w r i calm (inr given) = inr given

-- ---- the history goes on

pub had_as-grown : (s : Sight) (more : List Made) (from : ℕ) (n : Noted) (box : Sides) → HadAs s from n box → HadAs (record s { history = s.history ++ more }) from n box
had_as-grown s more from n box h =
    let longer = length-grown s.history more in (
      h.0,
      h.1,
      omega (arith, h.2),
      subst (λ (scene : _). HasBody scene n.index (λ r. (r.generation ≡ n.generation) × (r.layer ≡ n.layer) × (box ≡ sides_of (words_of r.bounds)))) (sym (point-grown s.config.bodies s.history more h.0 h.2)) h.3,
    )

module _ (kind : Kind) (core : Core) (step : Step) where
  abbrev pub Past : Sight
  Past = sight cover_scope core

  abbrev pub Now : Sight
  Now = sight cover_scope (After kind core step)

  -- a new node is in no tree that an update is to replace, or has taken out of sight
  pub record IsFresh (later : Nodes) (New : ℕ → Type 0) : Type 0 where
    pub unreplaced : EachUpdate Past (λ number view r. (n : ℕ) → New n → ¬ IsOldTree r (later.home n))
    pub seen : (n number : ℕ) (name : Name) → New n → later.home n ≢ superseded number name

  -- the first location of a body leads to no tree that was there, and nobody begins to place the body
  pub record IsOff (nodes later : Nodes) (i : ℕ) : Type 0 where
    pub covered : BodyIsCovered later Now i
    pub off : (n k : ℕ) → k < 4 → word_of (After kind core step) (LocA i) ≡ place n k → ¬ IsInTree (nodes.home n)
    pub unjoined : (l t root : ℕ) → HasBody (scene_in Now) i (λ r. r.layer ≡ l) → word_of (After kind core step) (Phase i) ≡ phase_join t → word_of core (Slot l t) ≢ slot_tree root
    pub calm : IsPlacing (Last kind core step).call.task i → IsPlacing step.view.call.task i

  -- it is shown anew of a body
  pub record IsAnew (later : Nodes) (i : ℕ) : Type 0 where
    pub covered : BodyIsCovered later Now i
    pub noted : EachUpdate Now (λ number view r. IsNotedRight later Now view r i)

  pub data BodyAfter (nodes later : Nodes) (i : ℕ) : Type 0 where
    as_it_was : Stays kind core step i → BodyAfter nodes later i
    in_place : InPlace kind core step i → BodyAfter nodes later i
    apart : IsApart kind core step nodes i → BodyAfter nodes later i
    off_trees : IsOff nodes later i → BodyAfter nodes later i
    anew : IsAnew later i → BodyAfter nodes later i

module _ (kind : Kind) (core : Core) (step : Step) (a : Acts core step) (nodes later : Nodes) (New : ℕ → Type 0) (m : Leaves kind core step nodes later New) where
  abbrev Old : Sight
  Old = Past kind core step

  abbrev Seen : Sight
  Seen = Now kind core step

  old-forth : (r : Rebuild) (n : ℕ) → IsOldTree r (nodes.home n) → IsOldTree r (later.home n)
  old-forth r n h = subst (IsOldTree r) (sym (m.stays n (stands-in_tree (nodes.home n) (old-stands r (nodes.home n) h)))) h

  -- ---- a body that stays where it is

  module _ (i : ℕ) (b : InPlace kind core step i) where
    covered-forth : BodyIsCovered nodes Old i → IsFresh kind core step later New → BodyIsCovered later Seen i
    covered-forth h fresh = record {
      covered = λ q e inside.
          let before = in-was kind core step i b q e inside in
          let t = h.covered before.0 before.1 before.2 in
          let location : IsLocation Seen i t.0 t.1 = (t.2.0, elim (t.2.1) [ inl e ↦ inl (b.loc_a ∙ e) | inr e ↦ inr (b.loc_b ∙ e) ]) in
          let same = sym (m.stays t.0 (stands-in_tree (nodes.home t.0) (published-stands (nodes.home t.0) t.3))) in
          (t.0, t.1, location, subst IsPublished same t.3, subst (λ (l : ℕ). IsOfLayer l (later.home t.0)) (sym before.3) (subst (IsOfLayer before.0.layer) same t.4));
      replaced = λ n k number name below location home none.
          elim (home-back kind core step a nodes later New m n (superseded number name) tt home) [
            | inl was ↦ h.replaced n k number name below (sym b.loc_a ∙ location) was (sym b.loc_b ∙ none)
            | inr new ↦ fresh.seen n number name new home
          ];
    }

    old_tree-forth : (r : Rebuild) → IsInOldTree nodes Old r i → IsInOldTree later Seen r i
    old_tree-forth r h = (h.0, h.1, h.2, b.loc_a ∙ h.3, old-forth r h.0 h.4)

    looks-back : (n : Noted) → n.index ≡ i → LooksAsNoted Seen n → LooksAsNoted Old n
    looks-back n same h =
        let at = subst (InPlace kind core step) (sym same) b in
        record { state = sym at.state ∙ h.state; location = sym at.loc_a ∙ h.location }

    as_noted-forth : (n : Noted) → n.index ≡ i → IsAsNoted Old n → IsAsNoted Seen n
    as_noted-forth n same h =
        let at = subst (InPlace kind core step) (sym same) b in
        let before = (task-seen step.view.call.task n.index).0.1 in
        let after = (task-seen (Last kind core step).call.task n.index).0.0 in
        record {
          looks = record { state = at.state ∙ h.looks.state; location = at.loc_a ∙ h.looks.location };
          phase = λ left. let t = unremoved-stays kind core step n.index at a cover_scope (λ k v. refl) before after left in t.0.word ∙ h.phase t.1;
          layer = at.layer ∙ h.layer;
          same = creation-forth kind core step n.index at (λ g l. (g ≡ n.generation) × (l ≡ n.layer)) h.same;
        }

  -- ---- a body that is in no tree that was there

  module _ (fresh : IsFresh kind core step later New) where
    apart-off : (i : ℕ) → IsApart kind core step nodes i → IsOff kind core step nodes later i
    apart-off i b = record {
      covered = record {
        covered = λ r e inside. absurd (b.unseen_after (subst (λ (o : Option Record). IsSomeAnd o (λ q. q.phase ≡ In)) (sym e) inside));
        replaced = λ n k number name below location home none.
            elim (home-back kind core step a nodes later New m n (superseded number name) tt home) [
              | inl was ↦ b.off_after n k below location (subst IsInTree (sym was) tt)
              | inr new ↦ fresh.seen n number name new home
            ];
      };
      off = b.off_after;
      unjoined = b.unjoined;
      calm = λ places. absurd (b.alone_after (places-handles (Last kind core step).call.task i places));
    }

  -- ---- for one update

  module _ (r : Rebuild) (unreplaced : (n : ℕ) → New n → ¬ IsOldTree r (later.home n)) where
    old-back : (n : ℕ) → IsOldTree r (later.home n) → IsOldTree r (nodes.home n)
    old-back n h =
        elim (m.stood n (stands-in_tree (later.home n) (old-stands r (later.home n) h))) [
          | inl same ↦ subst (IsOldTree r) same h
          | inr new ↦ absurd (unreplaced n new h)
        ]

    -- in which the pass that has it is to place the same bodies
    module _ (v w : View) (i : ℕ) (done : IsDone v r i → IsDone w r i) where
      stays-right : InPlace kind core step i → (IsDone w r i → IsDone v r i) → IsNotedRight nodes Old v r i → IsNotedRight later Seen w r i
      stays-right b undone h =
          let tree-back : IsInOldTree later Seen r i → IsInOldTree nodes Old r i = λ t. (t.0, t.1, t.2, sym b.loc_a ∙ t.3, old-back t.0 t.4) in
          let opened-back : IsOpen w r i → IsOpen v r i = λ o. (o.0, λ is. o.1 (done is)) in
          record {
            to_place = λ l t root passed merged body joins.
                let phase : word_of core (Phase i) ≡ phase_join t = elim (b.phase) [ inl stays ↦ sym stays.word ∙ joins | inr gone ↦ let out = gone.word in absurd (omega arith) ] in
                let n = h.to_place l t root passed merged (creation-back kind core step i b (λ g x. x ≡ l) body) phase in
                (n.0, n.1, n.2, λ is. n.3 (undone is));
            all_noted = λ opened tree.
                let n = h.all_noted (opened-back opened) (tree-back tree) in
                (n.0, n.1, n.2, as_noted-forth i b n.0 n.2 n.3);
            still_there = λ n among same opened looks.
                let t = h.still_there n among same (opened-back opened) (looks-back i b n same looks) in
                (old_tree-forth i b r t.0, as_noted-forth i b n same t.1);
            in_old = λ n among same unfinished.
                let t = h.in_old n among same (λ is. unfinished (done is)) in
                (t.0, t.1, t.2, t.3, old-forth r t.0 t.4);
            placed = λ among tree.
                let n = h.placed among (tree-back tree) in
                (n.0, n.1, n.2, b.loc_b ∙ n.3);
            given_up = λ among tree. h.given_up among (tree-back tree);
            exchanged = λ begun n among same. done (h.exchanged begun n among same);
          }

      off-right : IsOff kind core step nodes later i → KeepsMerged Old r → IsNotedRight nodes Old v r i → IsNotedRight later Seen w r i
      off-right b merged h =
          let nowhere : (n k : ℕ) → k < 4 → word_of (After kind core step) (LocA i) ≡ place n k → ¬ IsOldTree r (nodes.home n) =
          λ n k below location old. b.off n k below location (stands-in_tree (nodes.home n) (old-stands r (nodes.home n) old))
          in
          let treeless : ¬ IsInOldTree later Seen r i = λ t. nowhere t.0 t.1 t.2 t.3 (old-back t.0 t.4) in
          record {
            to_place = λ l t root passed still body joins. absurd (b.unjoined l t root body joins (merged.stand l t root still));
            all_noted = λ opened tree. absurd (treeless tree);
            still_there = λ n among same opened looks.
                let t = h.in_old n among same (λ is. opened.1 (done is)) in
                absurd (nowhere t.0 t.1 t.2 (ap (λ (j : ℕ). word_of (After kind core step) (LocA j)) (sym same) ∙ (looks.location ∙ t.3)) t.4);
            in_old = λ n among same unfinished.
                let t = h.in_old n among same (λ is. unfinished (done is)) in
                (t.0, t.1, t.2, t.3, old-forth r t.0 t.4);
            placed = λ among tree. absurd (treeless tree);
            given_up = λ among tree. treeless tree;
            exchanged = λ begun n among same. done (h.exchanged begun n among same);
          }

  -- what is said of an update before
  pub record WasRight (view : View) (r : Rebuild) : Type 0 where
    pub right : (i : ℕ) → IsNotedRight nodes Old view r i
    pub rest : RestHolds Old r
    pub fresh : (n : ℕ) → New n → ¬ IsOldTree r (later.home n)

  pub was-right : BodiesCovered nodes core → IsFresh kind core step later New → EachUpdate Old (λ number view r. WasRight view r)
  was-right h fresh number view among pass =
      let places = if_some_both view.rebuild _ _ (h.to_place number view among pass) (h.notes number view among pass) in
      let kept = if_some_both view.rebuild _ _ (h.merged number view among pass) (h.exchanged number view among pass) in
      if_some_map view.rebuild _ _
      (λ r t.
      let notes = t.0.0.1 in
      record {
        right = right-of nodes Old view r t.0.0.0 notes t.0.1.1;
        rest = record { located = notes.located; once = notes.once; passed = notes.passed; boxes = notes.boxes; begun = notes.begun; merged = t.0.1.0 };
        fresh = t.1;
      })
      (if_some_both view.rebuild _ _ (if_some_both view.rebuild _ _ places kept) (fresh.unreplaced number view among pass))

  rest-forth : (r : Rebuild) → RestHolds Old r → RestHolds Seen r
  rest-forth r h = record {
    located = h.located;
    once = h.once;
    passed = h.passed;
    boxes = λ n among.
        subst (λ (l : List Made). HadAs (record Old { history = l }) r.from n (sides_of n.bounds)) (sym m.goes_on) (had_as-grown Old m.more r.from n (sides_of n.bounds) (h.boxes n among));
    begun = let begun = h.begun in let longer = length-grown Old.history m.more in let now = ap length m.goes_on in omega arith;
    merged = record { stand = λ l t root still. m.names (Slot l t) root (h.merged.stand l t root still); read = h.merged.read; each_once = h.merged.each_once };
  }

  -- ---- the law

  module _ (h : BodiesCovered nodes core) (fresh : IsFresh kind core step later New) (bodies : (i : ℕ) → BodyAfter kind core step nodes later i) where
    body-later : (i : ℕ) → BodyIsCovered later Seen i
    body-later i =
        elim (bodies i) [
          | as_it_was b ↦ covered-forth i (stays-in_place kind core step i b) (record { covered = h.covered i; replaced = h.replaced i }) fresh
          | in_place b ↦ covered-forth i b (record { covered = h.covered i; replaced = h.replaced i }) fresh
          | apart b ↦ (apart-off fresh i b).covered
          | off_trees b ↦ b.covered
          | anew b ↦ b.covered
        ]

    -- what is said of an update after
    abbrev IsRight : View → Rebuild → Type 0
    IsRight view r = RestHolds Seen r × ((i : ℕ) → IsAnew kind core step later i ⊎ IsNotedRight later Seen view r i)

    rights-forth : (v w : View) (r : Rebuild) → ((i : ℕ) → InPlace kind core step i → IsPlacing v.call.task i ↔ IsPlacing w.call.task i) → ((i : ℕ) → IsOff kind core step nodes later i → IsPlacing w.call.task i → IsPlacing v.call.task i)
        → WasRight v r → IsRight w r
    rights-forth v w r same calm was = (
      rest-forth r was.rest,
      λ i.
          let stays : InPlace kind core step i → IsNotedRight later Seen w r i = λ b. stays-right r was.fresh v w i (still_done v w r i (same i b).1) b (still_done w v r i (same i b).0) (was.right i) in
          let off : IsOff kind core step nodes later i → IsNotedRight later Seen w r i = λ b. off-right r was.fresh v w i (still_done v w r i (calm i b)) b was.rest.merged (was.right i) in
          elim (bodies i) [
            | as_it_was b ↦ inr (stays (stays-in_place kind core step i b))
            | in_place b ↦ inr (stays b)
            | apart b ↦ inr (off (apart-off fresh i b))
            | off_trees b ↦ inr (off b)
            | anew b ↦ inl b
          ],
    )

    right-seen : EachUpdate Seen (λ number view r. IsRight view r)
    right-seen =
        each_update kind core step a nodes later New m cover_scope (λ k v. refl) update_on_cover (λ k v. refl) (λ number view r. WasRight view r) (λ number view r. IsRight view r) (was-right h fresh)
        (λ number view r was. rights-forth (seen_of cover_scope number view) (seen_of cover_scope number view) r (λ i b. (λ x. x, λ x. x)) (λ i b x. x) was)
        (λ r some was.
        rights-forth (seen_of cover_scope step.number step.view) (seen_of cover_scope step.number (Last kind core step)) r
        (λ i b. (
          λ x. (task-seen (Last kind core step).call.task i).1.0 (b.places.0 ((task-seen step.view.call.task i).1.1 x)),
          λ x. (task-seen step.view.call.task i).1.0 (b.places.1 ((task-seen (Last kind core step).call.task i).1.1 x)),
        ))
        (λ i b x. (task-seen step.view.call.task i).1.0 (b.calm ((task-seen (Last kind core step).call.task i).1.1 x))) was)

    right-later : EachUpdate Seen (λ number view r. RestHolds Seen r × ((i : ℕ) → IsNotedRight later Seen view r i))
    right-later number view among pass = go view.rebuild (right-seen number view among pass) (λ i b. b.noted number view among pass)
      where
        go : (o : Option Rebuild) → IfSome o (λ r. IsRight view r) → ((i : ℕ) → IsAnew kind core step later i → IfSome o (λ r. IsNotedRight later Seen view r i)) → IfSome o (λ r. RestHolds Seen r × ((i : ℕ) → IsNotedRight later Seen view r i))
        go None old new = tt
        go (Some r) old new = (old.0, λ i. elim (old.1 i) [ inl b ↦ new i b | inr right ↦ right ])

    pub BodiesCovered-leaves : BodiesCovered later (After kind core step)
    BodiesCovered-leaves = record {
      covered = λ i. (body-later i).covered;
      replaced = λ i. (body-later i).replaced;
      to_place = λ number view among pass. if_some_map view.rebuild _ _ (λ r t i. (t.1 i).to_place) (right-later number view among pass);
      notes = λ number view among pass. if_some_map view.rebuild _ _ (λ r t. notes-of later Seen view r t.0 t.1) (right-later number view among pass);
      merged = λ number view among pass. if_some_map view.rebuild _ _ (λ r t. t.0.merged) (right-later number view among pass);
      exchanged = λ number view among pass. if_some_map view.rebuild _ _ (λ r t begun n listed. (t.1 n.index).exchanged begun n listed refl) (right-later number view among pass);
    }

-- where the step touches bodies that are apart from all trees, at most
pub BodiesCovered-touches : (kind : Kind) (core : Core) (step : Step) (a : Acts core step) (later : Nodes) → Touches kind core step a.laws.nodes later → BodiesCovered later (after_step kind core step)
BodiesCovered-touches kind core step a later t =
    BodiesCovered-leaves kind core step a a.laws.nodes later (λ n. ⊥) t.leaves a.laws.cover
    (record { unreplaced = λ number view among pass. all-some view.rebuild _ (λ r n new. absurd new); seen = λ n number name new. absurd new })
    (λ i. elim (t.bodies i) [ inl b ↦ as_it_was b | inr b ↦ apart b ])
  where
    all-some : (o : Option Rebuild) (P : Rebuild → Type 0) → ((r : Rebuild) → P r) → IfSome o P
    all-some None P f = tt
    all-some (Some r) P f = f r
