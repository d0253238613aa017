-- The bodies are covered once the tree of a word is taken out of sight: each one that stood in it has its second location in
-- the main tree of its layer.
use Rattle.std.proofs.Common.{◌≡◌, ◌≢◌, ℕ, ◌<◌, ◌≤◌, List, length, Option, Some, refl, ap, sym, ◌∙◌, subst, inl, inr, arith}
use Rattle.std.specs.Prelude.{Contains, IsSomeAnd}
use Rattle.scene_model.specs.declared.entry.Made.{Made}
use Rattle.scene_model.specs.Scene.{Scene, Record, record_at}
use Rattle.scene_model.specs.Step.{HasBody}
use Rattle.word_map.specs.declared.name.Name.{Name}
use Rattle.word_map.specs.declared.name.Name.TheVariants.{Phase, LocA, LocB, Main, Slot}
use Rattle.core_state.specs.declared.view.Call.{Call}
use Rattle.core_state.specs.declared.view.Noted.{Noted}
use Rattle.core_state.specs.declared.view.Rebuild.{Rebuild}
use Rattle.core_state.specs.declared.view.View.{View}
use Rattle.core_state.specs.Core.{Core, word_of, scene_of}
use Rattle.core_state.specs.Kind.{Kind, Step, after_step}
use Rattle.core_state.specs.Encoding.{phase_join, sides_of}
use Rattle.core_state.specs.Nodes.{Nodes, Home, under, IsPublished, IsOfLayer}
use Rattle.core_state.specs.Parts.{update_on_cover, task_on_cover}
use Rattle.core_state.specs.Scope.{Sight, sight, scene_in}
use Rattle.core_state.specs.Updates.{EachUpdate, IsOldTree, IsStillMerged, IsDone, IsNoted, IsPlacing}
use Rattle.core_state.specs.LocationsHold.{IsLocation}
use Rattle.core_state.specs.BodiesCovered.{BodiesCovered, cover_scope, IsCovered, IsInOldTree, NotesHold, KeepsMerged, ExchangesDone}
use Rattle.core_state.specs.Space.{HadAs}
use Rattle.core_state.proofs.SameNames.{cases_name}
use Rattle.core_state.proofs.Frames.{step-history}
use Rattle.core_state.proofs.Steps.{word-step-other}
use Rattle.core_guard.proofs.Leaving.{Acts, After, Last}
use Rattle.core_guard.proofs.Seats.{seen_of}
use Rattle.core_update.proofs.OwnUpdate.{each-own, own-each}
use Rattle.core_update.proofs.Publishing.{Published, Publishes, homes_after, update_after, other-word, unmoved}
use Rattle.core_update.proofs.PublishFacts.{HasPlace, has-place, taken-second, second-at, done-seen}
use Rattle.core_update.proofs.PublishPlaces.{published_name}
use Rattle.core_update.proofs.Turning.{turn, turns, Turns, kept, taken, shown, turn-shown, superseded-back, under-forth, turn-of_layer}
use Rattle.core_update.proofs.Unmoved.{scene-same}

module _ (kind : Kind) (core : Core) (step : Step) (a : Acts core step) (r : Rebuild) (q : Published) (p : Publishes kind core step a r q) where
  abbrev nodes : Nodes
  nodes = a.laws.nodes

  abbrev later : Nodes
  later = homes_after kind core step a r q

  abbrev after : Rebuild
  after = update_after kind core step a r q

  abbrev Past : Sight
  Past = sight cover_scope core

  abbrev Now : Sight
  Now = sight cover_scope (After kind core step)

  abbrev x : Name
  x = step.name

  abbrev me : ℕ
  me = step.number

  abbrev was : View
  was = seen_of cover_scope me step.view

  abbrev is : View
  is = seen_of cover_scope me (Last kind core step)

  scene : scene_of (After kind core step) ≡ scene_of core
  scene = scene-same kind core step a r after later (unmoved kind core step a r q p)

  loc_a : (i : ℕ) → word_of (After kind core step) (LocA i) ≡ word_of core (LocA i)
  loc_a i = other-word kind core step a r q p (LocA i) refl

  loc_b : (i : ℕ) → word_of (After kind core step) (LocB i) ≡ word_of core (LocB i)
  loc_b i = other-word kind core step a r q p (LocB i) refl

  location-forth : (i n k : ℕ) → IsLocation Past i n k → IsLocation Now i n k
  location-forth i n k h = (h.0, elim (h.1) [ inl e ↦ inl (loc_a i ∙ e) | inr e ↦ inr (loc_b i ∙ e) ])

  -- ---- bodies are covered

  now-main : (noted : Noted) (h : HasPlace kind core step a r q p noted) → noted.layer < length q.swapped → later.home h.node ≡ under (Main noted.layer)
  now-main noted h below =
      elim (h.home) [
        | inr public ↦ under-forth me x (nodes.home h.node) (Main noted.layer) (p.exchanged noted.layer public.1) public.0
        | inl fresh ↦
            elim (p.now noted.layer below) [
              | inl less ↦ let more = fresh.1 in absurd (omega arith)
              | inr one ↦ turn-shown me x (nodes.home h.node) noted.layer one fresh.0 ∙ ap under (sym one)
            ]
      ]

  -- a second location is a place in the main tree, once the trees of the layer are exchanged
  pub record IsInMain (i : ℕ) (b : Record) : Type 0 where
    pub node : ℕ
    pub child : ℕ
    pub location : IsLocation Now i node child
    pub home : later.home node ≡ under (Main b.layer)

  pub second-main : (i : ℕ) (b : Record) → record_at (scene_of core) i ≡ Some b → word_of core (LocB i) ≢ 0 → b.layer < length q.swapped → IsInMain i b
  second-main i b live some below =
      let n = second-at kind core step a r q p i some in
      let h = has-place kind core step a r q p n.noted n.among in
      let layer : b.layer ≡ n.noted.layer = of-record (record_at (scene_of core) i) n.noted.generation n.noted.layer live n.same in
      record {
        node = h.node;
        child = h.child;
        location = (h.below, inr (loc_b i ∙ (n.here ∙ h.at)));
        home = now-main n.noted h (subst (λ (l : ℕ). l < length q.swapped) layer below) ∙ ap (λ (l : ℕ). under (Main l)) (sym layer);
      }
    where
      of-record : (o : Option Record) (g layer : ℕ) → o ≡ Some b → IsSomeAnd o (λ y. (y.generation ≡ g) × (y.layer ≡ layer)) → b.layer ≡ layer
      of-record o g layer e h = (subst (λ (o : Option Record). IsSomeAnd o (λ y. (y.generation ≡ g) × (y.layer ≡ layer))) e h).1

  covered-forth : (i : ℕ) (b : Record) → record_at (scene_of core) i ≡ Some b → IsCovered nodes Past i b.layer → IsCovered later Now i b.layer
  covered-forth i b live h =
      let name = published_name (nodes.home h.0) h.3 in
      elim (cases_name name.0 x) [
        | inr other ↦
            let home = under-forth me x (nodes.home h.0) name.0 other name.1 in
            (h.0, h.1, location-forth i h.0 h.1 h.2, subst IsPublished (sym home) tt, turn-of_layer me x (nodes.home h.0) b.layer h.4)
        | inl one ↦
            let there = name.1 ∙ ap under one in
            let some : word_of core (LocB i) ≢ 0 = elim (h.2.1) [ inl e ↦ taken-second kind core step a r q p i h.0 h.1 h.2.0 e there | inr e ↦ (λ none. let at = e in absurd (omega arith)) ] in
            let t = second-main i b live some (p.layer b.layer (subst (IsOfLayer b.layer) there h.4)) in
            (t.node, t.child, t.location, subst IsPublished (sym t.home) tt, subst (IsOfLayer b.layer) (sym t.home) refl)
      ]

  -- ---- notes

  old-back : (home : Home) → IsOldTree (update_on_cover after) (turn me x home) → IsOldTree (update_on_cover r) home
  old-back home h = go (turn me x home) (turns me x home) h
    where
      same-home : (home : Home) → IsOldTree (update_on_cover after) home → IsOldTree (update_on_cover r) home
      same-home (under (Main l)) h = (p.left l h).0
      same-home (under (Slot l t)) h = (h.0, (p.merged l t h.0 h.1).0)
      same-home (under _) h = absurd h
      same-home _ h = absurd h

      go : (then : Home) → Turns me x home then → IsOldTree (update_on_cover after) then → IsOldTree (update_on_cover r) home
      go then (kept other unmade) h = same-home home h
      go then (taken gone) h = absurd h
      go then (shown l one e) h = absurd ((p.left l (subst (λ (name : Name). IsOldTree (update_on_cover after) (under name)) (sym one) h)).1 one)

  tree-back : (i : ℕ) → IsInOldTree later Now (update_on_cover after) i → IsInOldTree nodes Past (update_on_cover r) i
  tree-back i t = (t.0, t.1, t.2, sym (loc_a i) ∙ t.3, old-back (nodes.home t.0) t.4)

  done-forth : (i : ℕ) → IsDone was (update_on_cover r) i → IsDone is (update_on_cover after) i
  done-forth i (inl t) = inl (t.0, λ places. t.1 (subst (λ (c : Call). IsPlacing (task_on_cover c.task) i) p.call places))
  done-forth i (inr given) = inr given

  done-back : (i : ℕ) → IsDone is (update_on_cover after) i → IsDone was (update_on_cover r) i
  done-back i (inl t) = inl (t.0, λ places. t.1 (subst (λ (c : Call). IsPlacing (task_on_cover c.task) i) (sym p.call) places))
  done-back i (inr given) = inr given

  done-is : (n : Noted) → Contains r.noted n → IsDone is (update_on_cover after) n.index
  done-is n among = done-forth n.index (done-seen kind core step a r q p n among)

  history-same : Now.history ≡ Past.history
  history-same = step-history kind core step p.plain

  notes-later : NotesHold nodes Past was (update_on_cover r) → NotesHold later Now is (update_on_cover after)
  notes-later h = record {
    all_noted = λ i opened tree.
        let n = h.all_noted i (opened.0, λ done. opened.1 (done-forth i done)) (tree-back i tree) in
        absurd (opened.1 (subst (IsDone is (update_on_cover after)) n.2 (done-is n.0 n.1)));
    still_there = λ n among opened looks. absurd (opened.1 (done-is n among));
    located = h.located;
    in_old = λ n among undone. absurd (undone (done-is n among));
    placed = λ i among tree. let n = h.placed i among (tree-back i tree) in (n.0, n.1, n.2, loc_b i ∙ n.3);
    given_up = λ i among tree. h.given_up i among (tree-back i tree);
    once = h.once;
    passed = h.passed;
    boxes = λ n among. subst (λ (past : List Made). HadAs (record Past { history = past }) r.from n (sides_of n.bounds)) (sym history-same) (h.boxes n among);
    begun = subst (λ (past : List Made). r.from ≤ length past) (sym history-same) h.begun;
  }

  merged-later : KeepsMerged Past (update_on_cover r) → KeepsMerged Now (update_on_cover after)
  merged-later h = record {
    stand = λ l t root still. let m = p.merged l t root still in word-step-other kind core step (Slot l t) m.1 ∙ h.stand l t root m.0;
    read = h.read;
    each_once = h.each_once;
  }

  -- ---- the law

  abbrev WasToPlace : ℕ → View → Rebuild → Type 0
  WasToPlace number v y = (i l t root : ℕ) → i < y.passed → IsStillMerged y l t root → HasBody (scene_in Past) i (λ b. b.layer ≡ l) → Past.word (Phase i) ≡ phase_join t → IsNoted y i (λ n. ¬ IsDone v y i)

  abbrev IsToPlace : ℕ → View → Rebuild → Type 0
  IsToPlace number v y = (i l t root : ℕ) → i < y.passed → IsStillMerged y l t root → HasBody (scene_in Now) i (λ b. b.layer ≡ l) → Now.word (Phase i) ≡ phase_join t → IsNoted y i (λ n. ¬ IsDone v y i)

  before : (P : ℕ → View → Rebuild → Type 0) → EachUpdate Past P → P me was (update_on_cover r)
  before = each-own kind core step a r p.update cover_scope (λ k v. refl) update_on_cover (λ bare v. refl)

  now-each : (P : ℕ → View → Rebuild → Type 0) → P me is (update_on_cover after) → EachUpdate Now P
  now-each = own-each kind core step a r p.update cover_scope (λ k v. refl) update_on_cover (λ bare v. refl) after p.rebuild

  pub BodiesCovered-published : BodiesCovered later (after_step kind core step)
  BodiesCovered-published =
      let h = a.laws.cover in
      record {
        covered = λ i b e inside. let live = ap (λ (y : Scene). record_at y i) (sym scene) ∙ e in covered-forth i b live (h.covered i b live inside);
        replaced = λ i n k number name below at home none.
            let there = sym (loc_a i) ∙ at in
            let zero = sym (loc_b i) ∙ none in
            elim (superseded-back me x (nodes.home n) number name home) [
              | inl old ↦ h.replaced i n k number name below there old zero
              | inr new ↦ taken-second kind core step a r q p i n k below there new.2 zero
            ];
        to_place = now-each IsToPlace
            (λ i l t root passed still body joins.
            let n =
            before WasToPlace h.to_place i l t root passed (p.merged l t root still).0 (subst (λ (y : Scene). HasBody y i (λ b. b.layer ≡ l)) scene body) (sym (other-word kind core step a r q p (Phase i) refl) ∙ joins) in
            (n.0, n.1, n.2, λ done. n.3 (done-back i done)));
        notes = now-each (λ number v y. NotesHold later Now v y) (notes-later (before (λ number v y. NotesHold nodes Past v y) h.notes));
        merged = now-each (λ number v y. KeepsMerged Now y) (merged-later (before (λ number v y. KeepsMerged Past y) h.merged));
        exchanged = now-each (λ number v y. ExchangesDone v y) (λ begun n among. done-is n among);
      }
