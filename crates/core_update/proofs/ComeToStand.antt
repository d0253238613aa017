-- The laws of locations and of cover where nodes come to stand in new trees, and nothing else changes.
use Rattle.std.proofs.Common.{◌≡◌, ◌⊎◌, ℕ, ◌<◌, ◌≤◌, true, length, Contains, sym, ◌∙◌, subst, inl, inr}
use Rattle.word_map.specs.declared.name.Name.TheVariants.{Child}
use Rattle.core_state.specs.declared.view.Noted.{Noted}
use Rattle.core_state.specs.declared.view.Rebuild.{Rebuild}
use Rattle.core_state.specs.declared.view.View.{View}
use Rattle.core_state.specs.Encoding.{body_child, place}
use Rattle.core_state.specs.Nodes.{Nodes, Home, under, made, IsLive, Stands, IsPublished, IsOfLayer}
use Rattle.core_state.specs.Scope.{Sight, HasPass}
use Rattle.core_state.specs.Updates.{HasUpdate, IsNoted, IsOldTree}
use Rattle.core_state.specs.LocationsHold.{LocationsHoldIn, IsWhere, in_slot, in_main, in_old, in_merged, IsPlannedAt, IsTakenOut}
use Rattle.core_state.specs.BodiesCovered.{BodiesCoveredIn, NotesHold, IsInOldTree}
use Rattle.core_guard.proofs.Leaving.{if_some_map, live-stands, old-stands}
use Rattle.core_update.proofs.SwappedReaders.{OnlyMakes}

module _ (nodes later : Nodes) (k : OnlyMakes nodes later) (s : Sight) where
  same-live : (n : ℕ) → IsLive (nodes.home n) → later.home n ≡ nodes.home n
  same-live n live = k.stays n (live-stands (nodes.home n) live)

  stands-then : (n : ℕ) → Stands (nodes.home n) → Stands (later.home n)
  stands-then n stands = subst Stands (sym (k.stays n stands)) stands

  tree-then : (n : ℕ) (home : Home) → Stands home → nodes.home n ≡ home → later.home n ≡ home
  tree-then n home inside e = k.stays n (subst Stands (sym e) inside) ∙ e

  published-live : (home : Home) → IsPublished home → IsLive home
  published-live (under name) h = tt
  published-live _ h = absurd h

  -- ---- locations

  where-then : (i layer n : ℕ) → IsWhere nodes s i layer n → IsWhere later s i layer n
  where-then i layer n (in_slot t e home second) = in_slot t e (tree-then n _ tt home) second
  where-then i layer n (in_main e home second) = in_main e (tree-then n _ tt home) second
  where-then i layer n (in_old number name e some home of_layer) = in_old number name e some (tree-then n _ tt home) of_layer
  where-then i layer n (in_merged number t root e some home has) = in_merged number t root e some (tree-then n _ tt home) has

  planned-then : (number : ℕ) (v : View) (r : Rebuild) (noted : Noted) → IsPlannedAt nodes s number v r noted → IsPlannedAt later s number v r noted
  planned-then number v r noted h =
      record { node = h.node; child = h.child; below = h.below; at = h.at; made_for = tree-then h.node _ tt h.made_for; entry = h.entry; undone = h.undone; of_done = h.of_done }

  taken-then : (v : View) (i : ℕ) → IsTakenOut nodes s v i → IsTakenOut later s v i
  taken-then v i h = record {
    out = h.out;
    cleared = λ n x location. let t = h.cleared n x location in (stands-then n t.0, t.1);
    live = λ n x below e. let live = h.live n x below e in subst IsLive (sym (same-live n live)) live;
  }

  -- the entries of the new trees are noted
  pub LocationsHold-rehomed : LocationsHoldIn nodes s
      → ((i n x number l : ℕ) → later.home n ≡ made number l → x < 4 → s.word (Child n x) ≡ body_child i
      → (nodes.home n ≡ made number l) ⊎ HasPass s number (λ view. HasUpdate view (λ r. IsNoted r i (λ noted. (noted.place ≡ place n x) × (noted.layer ≡ l)))))
      → LocationsHoldIn later s
  LocationsHold-rehomed h new = record {
    at = λ i r n x e inside location. let t = h.at i r n x e inside location in record { stands = stands-then n t.stands; entry = t.entry; bounds = t.bounds; box_words = t.box_words };
    entries = λ i n x published below entry. h.entries i n x (subst IsPublished (k.live n (published-live (later.home n) published)) published) below entry;
    made_entries = λ i n x number l home below entry. elim (new i n x number l home below entry) [ inl old ↦ h.made_entries i n x number l old below entry | inr noted ↦ noted ];
    planned = λ number v among pass.
        if_some_map v.rebuild _ (λ r. (noted : Noted) → Contains r.noted noted → r.is_planned ≡ true → length r.swapped ≤ noted.layer → IsPlannedAt later s number v r noted)
        (λ r planned noted inside is from. planned-then number v r noted (planned noted inside is from)) (h.planned number v among pass);
    published = λ number v among pass.
        if_some_map v.rebuild _ _ (λ r published noted inside is swapped. let t = published noted inside is swapped in (t.0, t.1, t.2, t.3, tree-then t.0 _ tt t.4)) (h.published number v among pass);
    first = λ i r n x e inside below location. where-then i r.layer n (h.first i r n x e inside below location);
    located = h.located;
    second = h.second;
    dead = h.dead;
    out = h.out;
    removed = λ number v among pass i removes. taken-then v i (h.removed number v among pass i removes);
    held = h.held;
    unheld = h.unheld;
    widened = h.widened;
    still_wide = h.still_wide;
    climbs_from = λ number v among pass n x climbs. stands-then n (h.climbs_from number v among pass n x climbs);
    on_its_way = h.on_its_way;
    widened_on_way = h.widened_on_way;
  }

  -- ---- cover

  old-then : (r : Rebuild) (n : ℕ) → IsOldTree r (nodes.home n) → IsOldTree r (later.home n)
  old-then r n h = subst (IsOldTree r) (sym (k.stays n (old-stands r (nodes.home n) h))) h

  old-live : (r : Rebuild) (home : Home) → IsOldTree r home → IsLive home
  old-live r (under name) h = tt
  old-live r _ h = absurd h

  old-was : (r : Rebuild) (n : ℕ) → IsOldTree r (later.home n) → IsOldTree r (nodes.home n)
  old-was r n h = subst (IsOldTree r) (k.live n (old-live r (later.home n) h)) h

  in_old-then : (r : Rebuild) (i : ℕ) → IsInOldTree nodes s r i → IsInOldTree later s r i
  in_old-then r i t = (t.0, t.1, t.2, t.3, old-then r t.0 t.4)

  in_old-was : (r : Rebuild) (i : ℕ) → IsInOldTree later s r i → IsInOldTree nodes s r i
  in_old-was r i t = (t.0, t.1, t.2, t.3, old-was r t.0 t.4)

  notes-then : (v : View) (r : Rebuild) → NotesHold nodes s v r → NotesHold later s v r
  notes-then v r h = record {
    all_noted = λ i opened tree. h.all_noted i opened (in_old-was r i tree);
    still_there = λ n among opened looks. let t = h.still_there n among opened looks in (in_old-then r n.index t.0, t.1);
    located = h.located;
    in_old = λ n among undone. let t = h.in_old n among undone in (t.0, t.1, t.2, t.3, old-then r t.0 t.4);
    placed = λ i among tree. h.placed i among (in_old-was r i tree);
    given_up = λ i among tree. h.given_up i among (in_old-was r i tree);
    once = h.once;
    passed = h.passed;
    boxes = h.boxes;
    begun = h.begun;
  }

  pub BodiesCovered-rehomed : BodiesCoveredIn nodes s → BodiesCoveredIn later s
  BodiesCovered-rehomed h = record {
    covered = λ i r e inside.
        let t = h.covered i r e inside in
        let same = sym (same-live t.0 (published-live (nodes.home t.0) t.3)) in
        (t.0, t.1, t.2, subst IsPublished same t.3, subst (IsOfLayer r.layer) same t.4);
    replaced = λ i n x number name below location home. h.replaced i n x number name below location (sym (k.live n (subst IsLive (sym home) tt)) ∙ home);
    to_place = h.to_place;
    notes = λ number v among pass. if_some_map v.rebuild (λ r. NotesHold nodes s v r) (λ r. NotesHold later s v r) (λ r notes. notes-then v r notes) (h.notes number v among pass);
    merged = h.merged;
    exchanged = h.exchanged;
  }
