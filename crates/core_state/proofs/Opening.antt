-- The opening meets all invariants: nothing stands in a tree, no body is live, and the one pass has done nothing.
use Rattle.std.proofs.Common.{◌≡◌, ◌≢◌, ℕ, zero, suc, ◌+◌, ◌<◌, ◌≤◌, List, [], ◌∷◌, refl, ap, sym, ◌∙◌, subst, inl, inr, arith, eq-eqb, ne_eqb}
use Rattle.std.specs.Prelude.{Contains, AllPairs, ⊤, nat_lt, slice_index_or, if◌then◌else◌}
use Rattle.std.specs.List.{range_with_len}
use Rattle.std.proofs.lemmas.Bool.{cases_lt, lt-ltb, le-ltb, false≢true}
use Rattle.std.proofs.lemmas.Option.{none-some}
use Rattle.std.proofs.lemmas.List.FromFn.{get_or-range_with_len, length-range_with_len}
use Rattle.std.proofs.Math.Nat.{sub-zero, zero-add}
use Rattle.scene_model.specs.Scene.{empty_scene}
use Rattle.word_map.specs.declared.config.Config.{Config}
use Rattle.word_map.specs.declared.name.Name.{Name}
use Rattle.word_map.specs.declared.name.Name.TheVariants.{Bound, Parent, Main, Slot}
use Rattle.word_map.specs.Limits.{IsConfig}
use Rattle.core_state.specs.declared.view.Mode.TheVariants.{Write}
use Rattle.core_state.specs.declared.view.Marked.{Marked}
use Rattle.core_state.specs.declared.view.View.{View}
use Rattle.core_state.specs.Log.{opening_link}
use Rattle.core_state.specs.Core.{opening}
use Rattle.core_state.specs.Encoding.{NamesRoot}
use Rattle.core_state.specs.Nodes.{Home, Nodes, free, spare, IsOwnedBy, Stands, IsInTree, IsLive, IsPublished}
use Rattle.core_state.specs.Scope.{Sight, sight, word_in, bare_view, HasPass, EachPass, IsOnce}
use Rattle.core_state.specs.Bodies.{IsChain, free_indexes, AreOtherSlots}
use Rattle.core_state.specs.LocksAgree.{LocksAgree, lock_scope}
use Rattle.core_state.specs.BodiesAgree.{BodiesAgree, body_scope}
use Rattle.core_state.specs.NodesInOnePlace.{NodesInOnePlace, node_scope}
use Rattle.core_state.specs.TreesSound.{TreesSound, tree_scope}
use Rattle.core_state.specs.LocationsHold.{LocationsHold, location_scope}
use Rattle.core_state.specs.BodiesCovered.{BodiesCovered, cover_scope}
use Rattle.core_state.specs.WalksLead.{WalksLead, walk_scope}
use Rattle.core_state.specs.ReadersCounted.{ReadersCounted, reader_scope}
use Rattle.core_state.specs.Invariants.{Invariants}

-- ---- the one pass

pub none_in : {X : Type 0} (x : X) → Contains [] x → ⊥
none_in x h = let below = h.1 in absurd (omega arith)

none_paired : {X : Type 0} (R : X → X → Type 0) → AllPairs R []
none_paired R i j d less below = absurd (omega arith)

-- the only member of a list of one
only_at : {X : Type 0} (x y : X) (k : ℕ) → k < 1 → slice_index_or (x ∷ []) k y ≡ y → x ≡ y
only_at x y zero below same = same
only_at x y (suc k) below same = absurd (omega arith)

pub only : {X : Type 0} (x y : X) → Contains (x ∷ []) y → x ≡ y
only x y h = only_at x y h.0 h.1 h.2

-- what holds of a pass that has done nothing holds of each
pub each_bare : (s : Sight) (P : ℕ → View → Type 0) → s.passes ≡ bare_view 0 ∷ [] → ((number : ℕ) → P number (bare_view 0)) → EachPass s P
each_bare s P passes h number view among pass =
    subst (P number) (only (bare_view 0) view (subst (λ (l : List View). Contains l view) passes among)) (h number)

-- what does not hold of it holds of none
pub no_bare : (s : Sight) (number : ℕ) (P : View → Type 0) → s.passes ≡ bare_view 0 ∷ [] → ¬ P (bare_view 0) → ¬ HasPass s number P
no_bare s number P passes not h =
    not (subst P (sym (only (bare_view 0) h.0 (subst (λ (l : List View). Contains l h.0) passes h.1))) h.3)

-- ---- lists of free places

-- a chain of all places in order, from one on
chain_range : (count at link n : ℕ) → at + n ≡ count → (n ≡ 0 → link ≡ 0) → (0 < n → link ≡ suc at) → IsChain (opening_link count) link (range_with_len at n)
chain_range count at link zero all ends begins = ends refl
chain_range count at link (suc n) all ends begins = (
  begins (omega arith),
  chain_range count (at + 1) (opening_link count at) n (omega arith)
      (λ none. let last = eq-eqb (suc at) count (omega arith) in rw last refl)
      (λ some. let more = ne_eqb (suc at) count (omega arith) in rw more (omega arith)),
)

chain_all : (count : ℕ) → 1 ≤ count → IsChain (opening_link count) 1 (range_with_len 0 count)
chain_all count some = chain_range count 0 1 count (omega arith) (λ none. omega arith) (λ more. refl)

range_once : (n : ℕ) → IsOnce (range_with_len 0 n)
range_once n i j d less below =
    let len = length-range_with_len 0 n in
    let second : j < n = rw (← len) below in
    let first : i < n = omega arith in
    rw (get_or-range_with_len 0 n i d first, get_or-range_with_len 0 n j d second) (omega arith)

pub range_contains : (n i : ℕ) → i < n → Contains (range_with_len 0 n) i
range_contains n i below = (i, rw length-range_with_len below, get_or-range_with_len 0 n i i below ∙ zero-add i)

range_below : (n i : ℕ) → Contains (range_with_len 0 n) i → i < n
range_below n i h =
    let len = length-range_with_len 0 n in
    let below : h.0 < n = rw (← len) h.1 in
    let at = get_or-range_with_len 0 n h.0 i below in
    let same : h.0 ≡ i = sym (zero-add h.0) ∙ (sym at ∙ h.2) in
    omega arith

-- ---- the nodes

-- batch nodes are free, all others spare
abbrev home_of : ℕ → ℕ → Home
home_of count n = if nat_lt n count then free else spare

abbrev opening_nodes : Config → Nodes
opening_nodes c = record { home = home_of c.nodes; depth = λ n. 0 }

-- what holds of a free and of a spare node
data Idle (count n : ℕ) : Type 0 where
  is_free : n < count → home_of count n ≡ free → Idle count n
  is_spare : count ≤ n → home_of count n ≡ spare → Idle count n

idle : (count n : ℕ) → Idle count n
idle count n =
    elim (cases_lt n count) [
      | inl below ↦ let test = lt-ltb n count below in is_free below (rw test refl)
      | inr above ↦ let test = le-ltb n count above in is_spare above (rw test refl)
    ]

-- so it is in no tree and nobody's
idle_not : (count n : ℕ) (P : Home → Type 0) → ¬ P free → ¬ P spare → ¬ P (home_of count n)
idle_not count n P not_free not_spare h =
    elim (idle count n) [
      | is_free below e ↦ not_free (subst P e h)
      | is_spare above e ↦ not_spare (subst P e h)
    ]

abbrev IsFree : Home → Type 0
IsFree free = ⊤
IsFree _ = ⊥

LocksAgree-opening : (c : Config) → LocksAgree (opening c)
LocksAgree-opening c = record {
  holders = λ lock. refl;
  alone = each_bare (sight lock_scope (opening c)) _ refl (λ number lock held. absurd (none-some Write held));
}

BodiesAgree-opening : (c : Config) → IsConfig c → BodiesAgree (opening c)
BodiesAgree-opening c sizes =
    let s = sight body_scope (opening c) in
    let free_all : free_indexes (empty_scene c.bodies) ≡ range_with_len 0 c.bodies = ap (range_with_len 0) (sub-zero c.bodies) in
    record {
      lawful = tt;
      state = λ i below. refl;
      live = λ i r e. absurd (none-some r e);
      dead = λ i none. refl;
      chain = range_with_len 0 c.bodies;
      linked = chain_all c.bodies sizes.bodies.0;
      listed = each_bare s _ refl (λ number. tt);
      settled = λ quiet. sym free_all;
      stripes = each_bare s _ refl (λ number. tt);
      reserved = λ l t number below. (
        λ e. absurd (omega arith),
        λ h. absurd (no_bare s number _ refl (λ has. none_in has.0 has.1) h),
      );
      slots = none_paired AreOtherSlots;
      marked = λ batch m among. absurd (none_in batch among);
      held = λ i has. absurd has;
      once = none_paired (λ (a : Marked) (b : Marked). a.index ≢ b.index);
    }

NodesInOnePlace-opening : (c : Config) → IsConfig c → NodesInOnePlace (opening_nodes c) (opening c)
NodesInOnePlace-opening c sizes =
    let s = sight node_scope (opening c) in
    record {
      in_use = λ n beyond. elim (idle c.nodes n) [ is_free below e ↦ absurd (omega arith) | is_spare above e ↦ e ];
      arenas = λ n below spared. elim (idle c.nodes n) [ is_free b e ↦ subst IsFree (sym e ∙ spared) tt | is_spare above e ↦ absurd (omega arith) ];
      chain = range_with_len 0 c.nodes;
      linked = chain_all c.nodes sizes.nodes.0;
      once = range_once c.nodes;
      free_nodes = λ n. (
        λ among. let below = range_below c.nodes n among in
            elim (idle c.nodes n) [ is_free b e ↦ e | is_spare above e ↦ absurd (omega arith) ],
        λ freed. elim (idle c.nodes n) [ is_free b e ↦ range_contains c.nodes n b | is_spare above e ↦ absurd (subst IsFree (sym freed ∙ e) tt) ],
      );
      batch_nodes = λ n freed. elim (idle c.nodes n) [ is_free b e ↦ b | is_spare above e ↦ absurd (subst IsFree (sym freed ∙ e) tt) ];
      count = λ quiet. sym (length-range_with_len 0 c.nodes);
      pool = each_bare s _ refl (λ number. tt);
      owned = λ n number. (
        λ own. absurd (idle_not c.nodes n (IsOwnedBy number) (λ h. h) (λ h. h) own),
        λ h. absurd (no_bare s number _ refl (none_in n) h),
      );
      owned_once = each_bare s _ refl (λ number. none_paired (λ (a : ℕ) (b : ℕ). a ≢ b));
      batches = λ batch n among. absurd (none_in batch among);
      loose = each_bare s _ refl (λ number n among. absurd (none_in n among));
      slot_trees = λ n l t e. absurd (idle_not c.nodes n IsPublished (λ h. h) (λ h. h) (subst IsPublished (sym e) tt));
      made_trees = λ n number l e. absurd (idle_not c.nodes n Stands (λ h. h) (λ h. h) (subst Stands (sym e) tt));
      made_by = λ n number l. (
        λ e. absurd (idle_not c.nodes n Stands (λ h. h) (λ h. h) (subst Stands (sym e) tt)),
        λ h. absurd (no_bare s number _ refl (λ none. none) h),
      );
      in_arena = each_bare s _ refl (λ number. tt);
      main_trees = λ n l e. absurd (idle_not c.nodes n IsPublished (λ h. h) (λ h. h) (subst IsPublished (sym e) tt));
      update = λ number. (
        λ e. absurd (omega arith),
        λ h. absurd (no_bare s number _ refl false≢true h),
      );
      superseded_by = λ n number name e. absurd (idle_not c.nodes n IsLive (λ h. h) (λ h. h) (subst IsLive (sym e) tt));
      returning_by = λ n number e. absurd (idle_not c.nodes n IsInTree (λ h. h) (λ h. h) (subst IsInTree (sym e) tt));
      arena = omega arith;
      named = each_bare s _ refl (λ number. tt);
      idle = λ unread n inside. elim (idle c.nodes n) [ is_free b e ↦ (let low = inside.0 in absurd (omega arith)) | is_spare above e ↦ e ];
    }

-- no word names a root
no_root : (c : Config) (name : Name) (root : ℕ) → NamesRoot name (word_in tree_scope (opening c) name) root → ⊥
no_root c (Main l) root h = absurd (omega arith)
no_root c (Slot l t) root h = absurd (omega arith)
no_root c _ root h = h

TreesSound-opening : (c : Config) → TreesSound (opening_nodes c) (opening c)
TreesSound-opening c =
    let s = sight tree_scope (opening c) in
    record {
      sound = λ n stands. absurd (idle_not c.nodes n Stands (λ h. h) (λ h. h) stands);
      roots = λ name root names. absurd (no_root c name root names);
      stored = each_bare s _ refl (λ number store among. absurd (none_in store among));
      made_roots = each_bare s _ refl (λ number. tt);
      superseded_roots = each_bare s _ refl (λ number. tt);
      left_nodes = λ n number e. absurd (idle_not c.nodes n IsInTree (λ h. h) (λ h. h) (subst IsInTree (sym e) tt));
      tops = each_bare s _ refl (λ number. tt);
    }

LocationsHold-opening : (c : Config) → LocationsHold (opening_nodes c) (opening c)
LocationsHold-opening c =
    let s = sight location_scope (opening c) in
    record {
      at = λ i r n k e. absurd (none-some r e);
      entries = λ i n k published. absurd (idle_not c.nodes n IsPublished (λ h. h) (λ h. h) published);
      made_entries = λ i n k number l e. absurd (idle_not c.nodes n Stands (λ h. h) (λ h. h) (subst Stands (sym e) tt));
      planned = each_bare s _ refl (λ number. tt);
      published = each_bare s _ refl (λ number. tt);
      first = λ i r n k e. absurd (none-some r e);
      located = λ i r e. absurd (none-some r e);
      second = λ i other. absurd (other refl);
      dead = λ i none. (refl, refl);
      out = λ i has. absurd has;
      removed = each_bare s _ refl (λ number i removes. absurd removes);
      held = λ batch m among. absurd (none_in batch among);
      widened = each_bare s _ refl (λ number i n k box gives. absurd gives);
      still_wide = each_bare s _ refl (λ number n k q value among. absurd (none_in (record { name = Bound n k q; value = value }) among));
      climbs_from = each_bare s _ refl (λ number n k climbs. absurd climbs);
      on_its_way = each_bare s _ refl (λ number m value among. absurd (none_in (record { name = Parent m; value = value }) among));
      unheld = each_bare s _ refl (λ number. tt);
      widened_on_way = each_bare s _ refl (λ number a b q value among. absurd (none_in (record { name = Bound a b q; value = value }) among));
    }

BodiesCovered-opening : (c : Config) → BodiesCovered (opening_nodes c) (opening c)
BodiesCovered-opening c =
    let s = sight cover_scope (opening c) in
    record {
      covered = λ i r e. absurd (none-some r e);
      replaced = λ i n k number l below e. absurd (omega arith);
      to_place = each_bare s _ refl (λ number. tt);
      notes = each_bare s _ refl (λ number. tt);
      merged = each_bare s _ refl (λ number. tt);
      exchanged = each_bare s _ refl (λ number. tt);
    }

WalksLead-opening : (c : Config) → WalksLead (opening c)
WalksLead-opening c =
    let s = sight walk_scope (opening c) in
    record {
      leads = each_bare s _ refl (λ number on. absurd (false≢true on));
      begun = each_bare s _ refl (λ number. omega arith);
    }

ReadersCounted-opening : (c : Config) → ReadersCounted (opening_nodes c) (opening c)
ReadersCounted-opening c =
    let s = sight reader_scope (opening c) in
    record {
      odd = λ number. (λ e. absurd (omega arith), λ h. absurd (no_bare s number _ refl false≢true h));
      stays = each_bare s _ refl (λ number on. absurd (false≢true on));
      in_space = each_bare s _ refl (λ number on. absurd (false≢true on));
      seen_off = each_bare s _ refl (λ number. tt);
      climbs = each_bare s _ refl (λ number. tt);
      space = λ n k l live. absurd (idle_not c.nodes n IsLive (λ h. h) (λ h. h) live);
      tight = each_bare s _ refl (λ number. tt);
    }

pub Invariants-opening : (c : Config) → IsConfig c → Invariants (opening c)
Invariants-opening c sizes = record {
  nodes = opening_nodes c;
  locks = LocksAgree-opening c;
  bodies = BodiesAgree-opening c sizes;
  places = NodesInOnePlace-opening c sizes;
  trees = TreesSound-opening c;
  locations = LocationsHold-opening c;
  cover = BodiesCovered-opening c;
  walks = WalksLead-opening c;
  readers = ReadersCounted-opening c;
}
