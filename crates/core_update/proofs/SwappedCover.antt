-- The law of cover of two kinds of step that store alike: where it holds after the one it holds after the other, if it is so of
-- the stepping pass.
use Rattle.std.proofs.Common.{◌≡◌, ◌≢◌, ℕ, ◌<◌, List, [], map, Contains, Option, Some, refl, subst, ◌⊎◌, inl, inr}
use Rattle.std.specs.Prelude.{IfSome, option_map}
use Rattle.scene_model.specs.declared.body_view.Phase.TheVariants.{In}
use Rattle.scene_model.specs.Scene.{Record, record_at}
use Rattle.scene_model.specs.Step.{HasBody}
use Rattle.word_map.specs.declared.name.Name.{Name}
use Rattle.word_map.specs.declared.name.Name.TheVariants.{Phase, LocA, LocB}
use Rattle.core_state.specs.declared.view.Noted.{Noted}
use Rattle.core_state.specs.declared.view.Rebuild.{Rebuild}
use Rattle.core_state.specs.declared.view.Task.{Task}
use Rattle.core_state.specs.declared.view.Task.TheVariants.{Removing, Placing}
use Rattle.core_state.specs.declared.view.View.{View}
use Rattle.core_state.specs.Core.{Core}
use Rattle.core_state.specs.Encoding.{place, phase_join, sides_of}
use Rattle.core_state.specs.Kind.{Kind, Step, view_after, after_step}
use Rattle.core_state.specs.Nodes.{Nodes, superseded}
use Rattle.core_state.specs.Parts.{task_on_cover, update_on_cover}
use Rattle.core_state.specs.Scope.{Sight, sight, EachPass, IsOnce, scene_in}
use Rattle.core_state.specs.Space.{HadAs}
use Rattle.core_state.specs.Updates.{IsStillMerged, IsOldTree, IsNoted, IsDone, IsPlacing}
use Rattle.core_state.specs.LocationsHold.{IsRemoved, Removes}
use Rattle.core_state.specs.BodiesCovered.{BodiesCovered, cover_scope, IsCovered, IsInOldTree, LooksAsNoted, IsAsNoted, IsOpen, NotesHold, KeepsMerged, ExchangesDone}
use Rattle.core_state.proofs.Opening.{none_in}
use Rattle.core_guard.proofs.Leaving.{Acts, if_some_map, if_some_both}
use Rattle.core_guard.proofs.Seats.{seen_of, each-seat}
use Rattle.core_update.proofs.Swapped.{each-swap, has-swap}

-- who takes a body out, or places it, is seen to
pub removes-to_cover : (task : Task) (i : ℕ) → Removes task i → Removes (task_on_cover task) i
removes-to_cover (Removing index) i h = h
removes-to_cover _ i h = absurd h

pub removes-from_cover : (task : Task) (i : ℕ) → Removes (task_on_cover task) i → Removes task i
removes-from_cover (Removing index) i h = h
removes-from_cover _ i h = absurd h

pub places-from_cover : (task : Task) (i : ℕ) → IsPlacing (task_on_cover task) i → IsPlacing task i
places-from_cover (Placing index) i h = h
places-from_cover _ i h = absurd h

-- the same notes, but for the places of bodies
pub record Renoted (xs ys : List Noted) : Type 0 where
  pub forth : (n : Noted) → Contains xs n → (p : ℕ) × Contains ys (record n { place = p })
  pub back : (m : Noted) → Contains ys m → (n : Noted) × (p : ℕ) × Contains xs n × (record n { place = p } ≡ m)
  pub once : IsOnce (map (λ n. n.index) xs) → IsOnce (map (λ n. n.index) ys)

-- what the law says of one update
pub record UpdateIsRight (nodes : Nodes) (s : Sight) (view : View) (r : Rebuild) : Type 0 where
  pub to_place : (i l t root : ℕ) → i < r.passed → IsStillMerged r l t root → HasBody (scene_in s) i (λ b. b.layer ≡ l) → s.word (Phase i) ≡ phase_join t → IsNoted r i (λ n. ¬ IsDone view r i)
  pub notes : NotesHold nodes s view r
  pub merged : KeepsMerged s r
  pub exchanged : ExchangesDone view r

module _ (nodes : Nodes) (core : Core) where
  abbrev Seen : Sight
  Seen = sight cover_scope core

  pub all-right : BodiesCovered nodes core → EachPass Seen (λ number v. IfSome v.rebuild (λ r. UpdateIsRight nodes Seen v r))
  all-right h number v among pass =
      let places = if_some_both v.rebuild _ _ (h.to_place number v among pass) (h.notes number v among pass) in
      let kept = if_some_both v.rebuild _ _ (h.merged number v among pass) (h.exchanged number v among pass) in
      if_some_map v.rebuild _ _ (λ r t. record { to_place = t.0.0; notes = t.0.1; merged = t.1.0; exchanged = t.1.1 }) (if_some_both v.rebuild _ _ places kept)

  pub covered-by : ((i : ℕ) (r : Record) → record_at (scene_in Seen) i ≡ Some r → r.phase ≡ In → IsCovered nodes Seen i r.layer)
      → ((i n k number : ℕ) (name : Name) → k < 4 → Seen.word (LocA i) ≡ place n k → nodes.home n ≡ superseded number name → Seen.word (LocB i) ≢ 0)
      → EachPass Seen (λ number v. IfSome v.rebuild (λ r. UpdateIsRight nodes Seen v r)) → BodiesCovered nodes core
  covered-by covered replaced right = record {
    covered = covered;
    replaced = replaced;
    to_place = λ number v among pass. if_some_map v.rebuild _ _ (λ r t. t.to_place) (right number v among pass);
    notes = λ number v among pass. if_some_map v.rebuild _ _ (λ r t. t.notes) (right number v among pass);
    merged = λ number v among pass. if_some_map v.rebuild _ _ (λ r t. t.merged) (right number v among pass);
    exchanged = λ number v among pass. if_some_map v.rebuild _ _ (λ r t. t.exchanged) (right number v among pass);
  }

-- ---- the same words and history, and other passes

module _ (nodes : Nodes) (s : Sight) (passes : List View) (removed : (i : ℕ) → IsRemoved s i → IsRemoved (record s { passes = passes }) i) where
  abbrev Then : Sight
  Then = record s { passes = passes }

  pub as_noted-again : (n : Noted) → IsAsNoted s n → IsAsNoted Then n
  as_noted-again n h = record { looks = record { state = h.looks.state; location = h.looks.location }; phase = λ left. h.phase (λ gone. left (removed n.index gone)); layer = h.layer; same = h.same }

  -- an update that is done with the same bodies
  pub right-again : (v w : View) (r : Rebuild) → ((i : ℕ) → IsDone v r i → IsDone w r i) → ((i : ℕ) → IsDone w r i → IsDone v r i) → UpdateIsRight nodes s v r → UpdateIsRight nodes Then w r
  right-again v w r forth back h =
      let notes = h.notes in
      record {
        to_place = λ i l t root passed merged body joins. let n = h.to_place i l t root passed merged body joins in (n.0, n.1, n.2, λ done. n.3 (back i done));
        notes = record {
          all_noted = λ i opened tree. let n = notes.all_noted i (opened.0, λ done. opened.1 (forth i done)) tree in (n.0, n.1, n.2, as_noted-again n.0 n.3);
          still_there = λ n among opened looks.
              let t = notes.still_there n among (opened.0, λ done. opened.1 (forth n.index done)) (record { state = looks.state; location = looks.location }) in
              (t.0, as_noted-again n t.1);
          located = notes.located;
          in_old = λ n among undone. notes.in_old n among (λ done. undone (forth n.index done));
          placed = notes.placed;
          given_up = notes.given_up;
          once = notes.once;
          passed = notes.passed;
          boxes = notes.boxes;
          begun = notes.begun;
        };
        merged = record { stand = h.merged.stand; read = h.merged.read; each_once = h.merged.each_once };
        exchanged = λ begun n among. forth n.index (h.exchanged begun n among);
      }

  -- and one that has given bodies other places, before it placed any
  pub right-renoted : (v w : View) (r : Rebuild) (xs : List Noted) → ((i : ℕ) → IsDone v r i → IsDone w r i) → ((i : ℕ) → IsDone w r i → IsDone v r i) → Renoted r.noted xs → r.placed ≡ []
      → UpdateIsRight nodes s v r → UpdateIsRight nodes Then w (record r { noted = xs })
  right-renoted v w r xs forth back again none h =
      let notes = h.notes in
      let replaced : (n : Noted) (p : ℕ) → IsAsNoted s n → IsAsNoted Then (record n { place = p }) =
      λ n p was.
      let t = as_noted-again n was in
      record { looks = record { state = t.looks.state; location = t.looks.location }; phase = t.phase; layer = t.layer; same = t.same }
      in
      record {
        to_place = λ i l t root passed merged body joins. let n = h.to_place i l t root passed merged body joins in let m = again.forth n.0 n.1 in (record n.0 { place = m.0 }, m.1, n.2, λ done. n.3 (back i done));
        notes = record {
          all_noted = λ i opened tree. let n = notes.all_noted i (opened.0, λ done. opened.1 (forth i done)) tree in let m = again.forth n.0 n.1 in (record n.0 { place = m.0 }, m.1, n.2, replaced n.0 m.0 n.3);
          still_there = λ m among.
              let n = again.back m among in
              subst (λ (x : Noted). IsOpen w r x.index → LooksAsNoted Then x → IsInOldTree nodes s r x.index × IsAsNoted Then x) n.3
              (λ opened looks. let t = notes.still_there n.0 n.2 (opened.0, λ done. opened.1 (forth n.0.index done)) (record { state = looks.state; location = looks.location }) in (t.0, replaced n.0 n.1 t.1));
          located = λ m among. let n = again.back m among in subst (λ (x : Noted). x.location ≢ 0) n.3 (notes.located n.0 n.2);
          in_old = λ m among.
              let n = again.back m among in
              subst (λ (x : Noted). ¬ IsDone w r x.index → (a : ℕ) × (b : ℕ) × (b < 4) × (x.location ≡ place a b) × IsOldTree r (nodes.home a)) n.3
              (λ undone. notes.in_old n.0 n.2 (λ done. undone (forth n.0.index done)));
          placed = λ i among. absurd (none_in i (subst (λ (l : List ℕ). Contains l i) none among));
          given_up = notes.given_up;
          once = again.once notes.once;
          passed = λ m among. let n = again.back m among in subst (λ (x : Noted). x.index < r.passed) n.3 (notes.passed n.0 n.2);
          boxes = λ m among. let n = again.back m among in subst (λ (x : Noted). HadAs Then r.from x (sides_of x.bounds)) n.3 (notes.boxes n.0 n.2);
          begun = notes.begun;
        };
        merged = record { stand = h.merged.stand; read = h.merged.read; each_once = h.merged.each_once };
        exchanged = λ begun m among. let n = again.back m among in subst (λ (x : Noted). IsDone w r x.index) n.3 (forth n.0.index (h.exchanged begun n.0 n.2));
      }

  -- and one that has placed or given up a body more
  pub right-more : (v w : View) (r : Rebuild) (xs ys : List ℕ) → ((i : ℕ) → IsDone v r i → IsDone w (record r { placed = xs; given_up = ys }) i)
      → ((i l t root : ℕ) → IsStillMerged r l t root → HasBody (scene_in s) i (λ b. b.layer ≡ l) → s.word (Phase i) ≡ phase_join t → IsDone w (record r { placed = xs; given_up = ys }) i → IsDone v r i)
      → ((i : ℕ) → Contains xs i → Contains r.placed i ⊎ IsNoted r i (λ n. s.word (LocB i) ≡ n.place)) → ((i : ℕ) → Contains ys i → Contains r.given_up i ⊎ ¬ IsInOldTree nodes s r i)
      → UpdateIsRight nodes s v r → UpdateIsRight nodes Then w (record r { placed = xs; given_up = ys })
  right-more v w r xs ys forth back placed given h =
      let notes = h.notes in
      record {
        to_place = λ i l t root passed merged body joins. let n = h.to_place i l t root passed merged body joins in (n.0, n.1, n.2, λ done. n.3 (back i l t root merged body joins done));
        notes = record {
          all_noted = λ i opened tree. let n = notes.all_noted i (opened.0, λ done. opened.1 (forth i done)) tree in (n.0, n.1, n.2, as_noted-again n.0 n.3);
          still_there = λ n among opened looks.
              let t = notes.still_there n among (opened.0, λ done. opened.1 (forth n.index done)) (record { state = looks.state; location = looks.location }) in
              (t.0, as_noted-again n t.1);
          located = notes.located;
          in_old = λ n among undone. notes.in_old n among (λ done. undone (forth n.index done));
          placed = λ i among tree. elim (placed i among) [ inl old ↦ notes.placed i old tree | inr new ↦ new ];
          given_up = λ i among tree. elim (given i among) [ inl old ↦ notes.given_up i old tree | inr new ↦ new tree ];
          once = notes.once;
          passed = notes.passed;
          boxes = notes.boxes;
          begun = notes.begun;
        };
        merged = record { stand = h.merged.stand; read = h.merged.read; each_once = h.merged.each_once };
        exchanged = λ begun n among. forth n.index (h.exchanged begun n among);
      }

-- ---- after the one step and after the other

module _ (kind : Kind) (leaves : View → Name → ℕ → ℕ → ℕ → View) (core : Core) (step : Step) (a : Acts core step) (nodes : Nodes) where
  abbrev One : View
  One = view_after (record kind { leaves = leaves }) core step

  abbrev Two : View
  Two = view_after kind core step

  abbrev pub FirstCover : Sight
  FirstCover = sight cover_scope (after_step (record kind { leaves = leaves }) core step)

  abbrev pub SecondCover : Sight
  SecondCover = sight cover_scope (after_step kind core step)

  pub removed-again : ((i : ℕ) → Removes One.call.task i → Removes Two.call.task i) → (i : ℕ) → IsRemoved FirstCover i → IsRemoved SecondCover i
  removed-again more i h = (
    h.0,
    has-swap cover_scope (λ k v. refl) kind leaves core step a.at a.pass h.0 (λ v. Removes v.call.task i) (λ v. Removes v.call.task i) h.1 (λ seat view apart found is removes. removes)
        (λ same removes. removes-to_cover Two.call.task i (more i (removes-from_cover One.call.task i removes))),
  )

  abbrev IsRight : Sight → View → Type 0
  IsRight s v = IfSome v.rebuild (λ r. UpdateIsRight nodes s v r)

  -- if the own update is right, all are
  pub BodiesCovered-swap : BodiesCovered nodes (after_step (record kind { leaves = leaves }) core step) → ((i : ℕ) → Removes One.call.task i → Removes Two.call.task i)
      → (IfSome (option_map update_on_cover One.rebuild) (λ r. UpdateIsRight nodes FirstCover (seen_of cover_scope step.number One) r) → IfSome (option_map update_on_cover Two.rebuild) (λ r. UpdateIsRight nodes SecondCover (seen_of cover_scope step.number Two) r))
      → BodiesCovered nodes (after_step kind core step)
  BodiesCovered-swap h removes own = covered-by nodes (after_step kind core step) h.covered h.replaced
      (each-swap cover_scope (λ k v. refl) kind leaves core step a.at a.pass (λ number v. IsRight FirstCover v) (λ number v. IsRight SecondCover v) (all-right nodes (after_step (record kind { leaves = leaves }) core step) h)
      (λ seat number view apart found is old.
      let v = seen_of cover_scope number view in
      if_some_map (option_map update_on_cover view.rebuild) (λ r. UpdateIsRight nodes FirstCover v r) (λ r. UpdateIsRight nodes SecondCover v r)
      (λ r right. right-again nodes FirstCover SecondCover.passes (removed-again removes) v v r (λ i done. done) (λ i done. done) right) old) own)

-- of the own update
pub own-right : (core : Core) (step : Step) (a : Acts core step) (r : Rebuild) → step.view.rebuild ≡ Some r → UpdateIsRight a.laws.nodes (sight cover_scope core) (seen_of cover_scope step.number step.view) (update_on_cover r)
own-right core step a r has =
    subst (λ (o : Option Rebuild). IfSome (option_map update_on_cover o) (λ u. UpdateIsRight a.laws.nodes (sight cover_scope core) (seen_of cover_scope step.number step.view) u)) has
    (each-seat cover_scope (λ k v. refl) core (λ number v. IfSome v.rebuild (λ u. UpdateIsRight a.laws.nodes (sight cover_scope core) v u)) (all-right a.laws.nodes core a.laws.cover) step.seat step.number step.view a.at a.pass)
