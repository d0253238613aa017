-- What the law of cover says where second locations change, and nothing else that it reads.
use Rattle.std.proofs.Common.{◌≡◌, ◌≢◌, ℕ, ◌<◌, sym, ◌∙◌}
use Rattle.word_map.specs.declared.name.Name.{Name}
use Rattle.word_map.specs.declared.name.Name.TheVariants.{State, Phase, Layer, LocA, LocB, Slot}
use Rattle.core_state.specs.declared.view.Noted.{Noted}
use Rattle.core_state.specs.declared.view.Rebuild.{Rebuild}
use Rattle.core_state.specs.declared.view.View.{View}
use Rattle.core_state.specs.Encoding.{place}
use Rattle.core_state.specs.Nodes.{Nodes, superseded}
use Rattle.core_state.specs.Scope.{Sight}
use Rattle.core_state.specs.Updates.{EachUpdate}
use Rattle.core_state.specs.LocationsHold.{IsLocation}
use Rattle.core_state.specs.BodiesCovered.{BodiesCoveredIn, IsInOldTree, LooksAsNoted, IsAsNoted, NotesHold}
use Rattle.core_guard.proofs.Leaving.{if_some_map, if_some_both}

module _ (nodes : Nodes) (s : Sight) (word : Name → ℕ) where
  abbrev Now : Sight
  Now = record s { word = word }

  pub record SecondsChange : Type 0 where
    pub state : (i : ℕ) → word (State i) ≡ s.word (State i)
    pub phase : (i : ℕ) → word (Phase i) ≡ s.word (Phase i)
    pub layer : (i : ℕ) → word (Layer i) ≡ s.word (Layer i)
    pub loc_a : (i : ℕ) → word (LocA i) ≡ s.word (LocA i)
    pub slot : (l t : ℕ) → word (Slot l t) ≡ s.word (Slot l t)
    pub location : (i n k : ℕ) → IsLocation s i n k → IsLocation Now i n k
    -- a body in a tree that was taken out of sight, or is to be replaced, keeps its second location
    pub superseded : (i n k number : ℕ) (name : Name) → k < 4 → s.word (LocA i) ≡ place n k → nodes.home n ≡ superseded number name → s.word (LocB i) ≢ 0 → word (LocB i) ≢ 0
    pub replaced : EachUpdate s (λ number view r. (i : ℕ) → IsInOldTree nodes s r i → word (LocB i) ≡ s.word (LocB i))

  module _ (c : SecondsChange) where
    tree-back : (r : Rebuild) (i : ℕ) → IsInOldTree nodes Now r i → IsInOldTree nodes s r i
    tree-back r i t = (t.0, t.1, t.2, sym (c.loc_a i) ∙ t.3, t.4)

    tree-forth : (r : Rebuild) (i : ℕ) → IsInOldTree nodes s r i → IsInOldTree nodes Now r i
    tree-forth r i t = (t.0, t.1, t.2, c.loc_a i ∙ t.3, t.4)

    looks-back : (n : Noted) → LooksAsNoted Now n → LooksAsNoted s n
    looks-back n h = record { state = sym (c.state n.index) ∙ h.state; location = sym (c.loc_a n.index) ∙ h.location }

    as_noted-forth : (n : Noted) → IsAsNoted s n → IsAsNoted Now n
    as_noted-forth n h = record {
      looks = record { state = c.state n.index ∙ h.looks.state; location = c.loc_a n.index ∙ h.looks.location };
      phase = λ left. c.phase n.index ∙ h.phase left;
      layer = c.layer n.index ∙ h.layer;
      same = h.same;
    }

    notes-forth : (view : View) (r : Rebuild) → ((i : ℕ) → IsInOldTree nodes s r i → word (LocB i) ≡ s.word (LocB i)) → NotesHold nodes s view r → NotesHold nodes Now view r
    notes-forth view r kept h = record {
      all_noted = λ i opened tree. let n = h.all_noted i opened (tree-back r i tree) in (n.0, n.1, n.2, as_noted-forth n.0 n.3);
      still_there = λ n among opened looks. let t = h.still_there n among opened (looks-back n looks) in (tree-forth r n.index t.0, as_noted-forth n t.1);
      located = h.located;
      in_old = h.in_old;
      placed = λ i among tree. let n = h.placed i among (tree-back r i tree) in (n.0, n.1, n.2, kept i (tree-back r i tree) ∙ n.3);
      given_up = λ i among tree. h.given_up i among (tree-back r i tree);
      once = h.once;
      passed = h.passed;
      boxes = h.boxes;
      begun = h.begun;
    }

    pub cover-second : BodiesCoveredIn nodes s → BodiesCoveredIn nodes Now
    cover-second h = record {
      covered = λ i r e inside. let t = h.covered i r e inside in (t.0, t.1, c.location i t.0 t.1 t.2, t.3, t.4);
      replaced = λ i n k number name below at home. let was = sym (c.loc_a i) ∙ at in c.superseded i n k number name below was home (h.replaced i n k number name below was home);
      to_place = λ number view among pass. if_some_map view.rebuild _ _ (λ r old i l t root passed still body joins. old i l t root passed still body (sym (c.phase i) ∙ joins)) (h.to_place number view among pass);
      notes = λ number view among pass.
          if_some_map view.rebuild _ _ (λ r both. notes-forth view r both.0 both.1) (if_some_both view.rebuild _ _ (c.replaced number view among pass) (h.notes number view among pass));
      merged = λ number view among pass.
          if_some_map view.rebuild _ _ (λ r old. record { stand = λ l t root still. c.slot l t ∙ old.stand l t root still; read = old.read; each_once = old.each_once })
          (h.merged number view among pass);
      exchanged = h.exchanged;
    }
