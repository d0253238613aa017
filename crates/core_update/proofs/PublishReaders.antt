-- The readers are counted once the tree of a word is taken out of sight: walks reach what they reached, and no reader is
-- loaded yet. Bounds of the new tree lie in the space of its layer, since they lie in the hull of the bodies noted there.
use Rattle.std.proofs.Common.{◌≡◌, ◌≢◌, ◌⊎◌, ℕ, ◌+◌, ◌<◌, List, false, true, refl, ap, sym, ◌∙◌, subst, inl, inr, arith}
use Rattle.std.specs.Prelude.{Contains, IsTrue, option_map}
use Rattle.std.proofs.lemmas.Option.{same_Some}
use Rattle.std.proofs.lemmas.Bool.{false≢true}
use Rattle.scene_model.specs.Scene.{record_at}
use Rattle.word_map.specs.declared.name.Name.{Name}
use Rattle.word_map.specs.declared.name.Name.TheVariants.{Child, Main, Slot, Reader}
use Rattle.core_state.specs.declared.item.Load.{Load}
use Rattle.core_state.specs.declared.view.Noted.{Noted}
use Rattle.core_state.specs.declared.view.Rebuild.{Rebuild}
use Rattle.core_state.specs.declared.view.Task.{Task}
use Rattle.core_state.specs.declared.view.Task.TheVariants.{Moving, Removing}
use Rattle.core_state.specs.Core.{Core, word_of}
use Rattle.core_state.specs.Kind.{Kind, Step, after_step}
use Rattle.core_state.specs.Encoding.{bound_in, layer_of}
use Rattle.core_state.specs.Nodes.{Nodes, Home, made, under, Stands, IsLive, IsOfLayer, Above, here, higher}
use Rattle.core_state.specs.Parts.{update_on_readers, update_on_nodes, call_at, task_at_place}
use Rattle.core_state.specs.Scope.{Sight, sight, EachPass, bare_view, scene_in}
use Rattle.scene_model.specs.History.{point}
use Rattle.core_state.specs.Space.{IsInLayer, IsInSpace}
use Rattle.core_state.specs.TreesSound.{tree_scope}
use Rattle.core_state.specs.Updates.{IsMadeIn}
use Rattle.core_state.specs.NodesInOnePlace.{node_scope}
use Rattle.core_state.specs.Walking.{Position}
use Rattle.core_state.specs.ReadersCounted.{ReadersCounted, ReadersCountedIn, reader_scope, Reaches, IsWalkedAt, WalkStays, AvoidsSuperseded, HasSeenOff, ClimbsInTrees, IsPlannedBelow, IsSideOf, IsTight, layer_at_hand}
use Rattle.core_state.proofs.Frames.{same_cond, step-history, passes-same}
use Rattle.core_state.proofs.Opening.{none_in}
use Rattle.core_guard.proofs.Leaving.{Acts, After, Last, LeadsWithin, sound-leads, if_some_map, some_and_map}
use Rattle.core_update.proofs.OwnUpdate.{each-own, own-all, has-own}
use Rattle.core_update.proofs.Publishing.{Published, Publishes, homes_after, is_tree_name, other-word}
use Rattle.core_update.proofs.PublishFacts.{has-place}
use Rattle.core_update.proofs.Turning.{turn-stands, turn-live, turn-of_layer, under-back, made-back, turns, Turns, kept, taken, shown}

abbrev layer_made : Home → ℕ
layer_made (made y l) = l
layer_made _ = 0

module _ (kind : Kind) (core : Core) (step : Step) (a : Acts core step) (r : Rebuild) (q : Published) (p : Publishes kind core step a r q) where
  abbrev nodes : Nodes
  nodes = a.laws.nodes

  abbrev later : Nodes
  later = homes_after kind core step a r q

  abbrev s : Sight
  s = sight reader_scope core

  abbrev x : Name
  x = step.name

  abbrev me : ℕ
  me = step.number

  -- the law sees the same words and views
  seen-same : sight reader_scope (After kind core step) ≡ s
  seen-same = λ j. record {
    config = core.config;
    word = λ name. hidden name j;
    history = step-history kind core step p.plain j;
    passes = passes-same reader_scope kind core step a.at a.pass part j;
  }
    where
      not-tree : (name : Name) → IsTrue (reader_scope.names name) → is_tree_name name ≡ false
      not-tree (Main l) reads = absurd (false≢true reads)
      not-tree (Slot l t) reads = absurd (false≢true reads)
      not-tree _ reads = refl

      hidden : (name : Name) → (sight reader_scope (After kind core step)).word name ≡ s.word name
      hidden name = same_cond (reader_scope.names name) (word_of (After kind core step) name) (word_of core name) 0 (λ reads. other-word kind core step a r q p name (not-tree name reads))

      updates : option_map update_on_readers (Last kind core step).rebuild ≡ option_map update_on_readers step.view.rebuild
      updates = ap (option_map update_on_readers) p.rebuild ∙ sym (ap (option_map update_on_readers) p.update)

      part : reader_scope.part (bare_view me) (Last kind core step) ≡ reader_scope.part (bare_view me) step.view
      part = λ j. record (bare_view me) { walk = p.walk j; call = call_at (task_at_place (p.call j).task); rebuild = updates j }

  -- ---- walks

  -- what is reached or was walked is live, and its home turns from a tree out of sight at most
  walk-forth : (loads : List Load) (at : Position) → WalkStays nodes s.word loads at → WalkStays later s.word loads at
  walk-forth loads at h = record {
    live = λ n reaches.
        let t = h.live n reaches in
        (turn-live me x (nodes.home n) t.0, if_some_map (layer_at_hand loads) _ _ (λ l of. turn-of_layer me x (nodes.home n) l of) t.1);
    apart = h.apart;
    ahead = h.ahead;
    behind = h.behind;
    levels = h.levels;
    read = λ n name from home.
        elim (under-back me x (nodes.home n) name home) [
          | inl was ↦ h.read n name from was.0
          | inr new ↦ absurd (subst IsLive new.1.2 (live n from))
        ];
    visited = λ n walked. (turn-live me x (nodes.home n) (h.visited n walked).0, (h.visited n walked).1);
  }
    where
      live : (n : ℕ) → Reaches s.word at n ⊎ IsWalkedAt loads n → IsLive (nodes.home n)
      live n (inl reaches) = (h.live n reaches).0
      live n (inr walked) = (h.visited n walked).0

  climbs-forth : (task : Task) → ClimbsInTrees nodes s task → ClimbsInTrees later s task
  climbs-forth (Moving i target) h = λ n k b c location up. turn-stands me x (nodes.home b) (h n k b c location up)
  climbs-forth (Removing i) h = λ n k b c location up. turn-stands me x (nodes.home b) (h n k b c location up)
  climbs-forth _ h = tt

  -- ---- bounds of the new tree

  leads : LeadsWithin nodes s.word
  leads = let t = sound-leads nodes (sight tree_scope core) a.laws.trees in record { up = t.up; down = t.down }

  above-home : (n k y z : ℕ) → Stands (nodes.home n) → Above s.word n k y z → nodes.home y ≡ nodes.home n
  above-home n k y z stands (here b c) = refl
  above-home n k y z stands (higher b c m j d e parent below rest) =
      let one = leads.up n m j stands below parent in
      above-home m j y z (subst Stands (sym one) stands) rest ∙ one

  -- a body that was noted below a place of the new tree of a layer is of that layer
  layer-noted : (noted : Noted) (n k l : ℕ) → Contains r.noted noted → nodes.home n ≡ made me l → IsPlannedBelow s noted n k → noted.layer ≡ l
  layer-noted noted n k l among home t =
      let place = has-place kind core step a r q p noted among in
      let one : place.node ≡ t.0 = let at = place.at in let there = t.3 in let low = place.below in let under_four = t.2 in omega arith in
      let stands : Stands (nodes.home t.0) = subst (λ (y : ℕ). Stands (nodes.home y)) one (elim (place.home) [ inl fresh ↦ subst Stands (sym fresh.0) tt | inr public ↦ subst Stands (sym public.0) tt ]) in
      let up : nodes.home n ≡ nodes.home place.node = above-home t.0 t.1 n k stands t.4 ∙ ap nodes.home (sym one) in
      elim (place.home) [
        | inl fresh ↦ ap layer_made (sym fresh.0 ∙ (sym up ∙ home))
        | inr public ↦ absurd (apart (sym public.0 ∙ (sym up ∙ home)))
      ]
    where
      apart : under (Main noted.layer) ≡ made me l → ⊥
      apart e = absurd cc

  side-in : (noted : Noted) (l z side : ℕ) → noted.layer ≡ l → IsSideOf s (update_on_readers r) noted z side → IsInLayer s l z side
  side-in noted l z side of (inl had) =
      let t = had.1 in
      inl (had.0, (t.0, noted.index, t.2, some_and_map (record_at (point core.config.bodies s.history t.0) noted.index) _ _ (λ b c. (c.1 ∙ of, c.2)) t.3), had.2)
  side-in noted l z side of (inr coming) = inr (noted.index, coming.1, some_and_map (record_at (scene_in s) noted.index) _ _ (λ b c. c.1 ∙ of) coming.0)

  -- ---- the law

  tight : (n k l : ℕ) → nodes.home n ≡ made me l → k < 4 → s.word (Child n k) ≢ 0 → IsInSpace s l (bound_in s.word n k)
  tight n k l home below some z low =
      let planned : r.is_planned ≡ true = (has-own kind core step a r p.update node_scope (λ c v. refl) update_on_nodes (λ bare v. refl) me (λ y. IsMadeIn core.config y l n) ((a.laws.places.made_by n me l).0 home)).1.0 in
      let t =
      each-own kind core step a r p.update reader_scope (λ c v. refl) update_on_readers (λ bare v. refl) (λ number v y. y.is_planned ≡ true → IsTight nodes s number y) a.laws.readers.tight planned n k l home below some z low
      in
      let of = λ (noted : Noted) (among : Contains r.noted noted) (h : IsPlannedBelow s noted n k). layer-noted noted n k l among home h in (
        (t.0.0, side-in t.0.1.0 l z t.0.0 (of t.0.1.0 t.0.1.1 t.0.1.2) t.0.1.3, t.0.2),
        (t.1.0, side-in t.1.1.0 l (3 + z) t.1.0 (of t.1.1.0 t.1.1.1 t.1.1.2) t.1.1.3, t.1.2),
      )

  space-forth : (n k l : ℕ) → IsLive (later.home n) → IsOfLayer l (later.home n) → k < 4 → s.word (Child n k) ≢ 0 → IsInSpace s l (bound_in s.word n k)
  space-forth n k l live of below some = go (later.home n) (turns me x (nodes.home n)) live of
    where
      go : (then : Home) → Turns me x (nodes.home n) then → IsLive then → IsOfLayer l then → IsInSpace s l (bound_in s.word n k)
      go then (kept other unmade) live of = a.laws.readers.space n k l live of below some
      go then (taken is) live of = a.laws.readers.space n k l (subst IsLive (sym is) tt) (subst (IsOfLayer l) (sym is) of) below some
      go then (shown m is home) live of =
          let same : m ≡ l = same_Some m l (ap layer_of is ∙ of) in
          tight n k l (home ∙ ap (made me) same) below some

  counted : ReadersCountedIn later s
  counted =
      let h = a.laws.readers in
      record {
        odd = h.odd;
        stays = λ number view among pass on query follows. walk-forth view.walk.loads _ (h.stays number view among pass on query follows);
        in_space = h.in_space;
        seen_off =
            own-all kind core step a r p.update reader_scope (λ c v. refl) update_on_readers (λ bare v. refl)
            (λ number view y. EachPass s (λ reader other. HasSeenOff s y reader → AvoidsSuperseded later s number other.walk))
            (λ reader other among pass seen. absurd (none_in _ (subst (λ (loads : List Load). Contains loads (record { name = Reader reader; value = seen.0 })) p.unread seen.1)));
        climbs = λ number view among pass. climbs-forth view.call.task (h.climbs number view among pass);
        space = space-forth;
        tight =
            own-all kind core step a r p.update reader_scope (λ c v. refl) update_on_readers (λ bare v. refl) (λ number view y. y.is_planned ≡ true → IsTight later s number y)
            (λ planned n k l home below some.
            each-own kind core step a r p.update reader_scope (λ c v. refl) update_on_readers (λ bare v. refl) (λ number v y. y.is_planned ≡ true → IsTight nodes s number y) h.tight planned n k l
            (made-back me x (nodes.home n) me l home) below some);
      }

  pub ReadersCounted-published : ReadersCounted later (after_step kind core step)
  ReadersCounted-published = subst (ReadersCountedIn later) (sym seen-same) counted
