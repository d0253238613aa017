-- A step on a word of a node in a tree, by a pass that does something with one body under its stripe, or nothing: it widens a
-- bound, or clears an entry that nobody needs. All bodies stay; what is left to show is what the law of locations says of the
-- pass, and that a side which is another one counts.
use Rattle.std.proofs.Common.{◌≡◌, ◌≢◌, ◌⊎◌, ◌↔◌, ℕ, true, false, Some, None, refl, ap, sym, ◌∙◌, subst, inl, inr, arith, List, Bool}
use Rattle.std.specs.Prelude.{Contains}
use Rattle.std.proofs.lemmas.Bool.{cases_eq, false≢true}
use Rattle.std.proofs.lemmas.Option.{none-some}
use Rattle.word_map.specs.declared.name.Name.{Name}
use Rattle.word_map.specs.declared.name.Name.TheVariants.{Child, Bound, Parent, Reader}
use Rattle.core_state.specs.declared.item.Store.{Store}
use Rattle.core_state.specs.declared.view.Task.{Task}
use Rattle.core_state.specs.declared.view.Call.{Call}
use Rattle.core_state.specs.declared.view.View.{View}
use Rattle.core_state.specs.Core.{Core, word_of}
use Rattle.core_state.specs.Kind.{Kind, Step, gained_by, after_step}
use Rattle.core_state.specs.Log.{history}
use Rattle.core_state.specs.Encoding.{IsBox, layer_of}
use Rattle.core_state.proofs.SameNames.{cases_name}
use Rattle.core_state.specs.Nodes.{Nodes, Stands, IsLive, IsOfLayer, Above, owned, made, node_in}
use Rattle.core_state.specs.Parts.{call_on_places}
use Rattle.core_state.specs.Scope.{Sight, sight}
use Rattle.core_state.specs.Space.{IsTarget, IsInLayer}
use Rattle.core_state.specs.Updates.{EachUpdate, IsPlacing}
use Rattle.core_state.specs.Bodies.{IsBetweenBoxes, MovesBody, has_box_word}
use Rattle.core_state.specs.LocksAgree.{lock_scope}
use Rattle.core_state.specs.BodiesAgree.{body_scope}
use Rattle.core_state.specs.NodesInOnePlace.{node_scope}
use Rattle.core_state.specs.TreesSound.{TreesSound, tree_scope}
use Rattle.core_state.specs.LocationsHold.{location_scope, IsLocation, Removes}
use Rattle.core_state.specs.ReadersCounted.{reader_scope}
use Rattle.core_state.specs.Invariants.{Invariants}
use Rattle.core_state.proofs.Steps.{word-step-other}
use Rattle.core_guard.proofs.BodyAnew.{none-fresh}
use Rattle.core_guard.proofs.CallsAgree.{BodiesAgree-beside}
use Rattle.core_guard.proofs.CoverLeft.{as_it_was, BodiesCovered-leaves}
use Rattle.core_guard.proofs.Holders.{IsNobodys, keeps}
use Rattle.core_guard.proofs.Unowned.{stands-unowned}
use Rattle.core_state.specs.Guards.{KeepsGuards}
use Rattle.core_guard.proofs.Leaving.{Acts, After, Last, Stays, stays-by, Leaves, LeadsWithin, sound-leads, above-stands, body_of, scene-plain, IsCleared, roots-other, step-goes_on}
use Rattle.core_guard.proofs.OnBody.{OnBody, climbs-on, on-after, removes-else, places-else, LocksAgree-on, NodesInOnePlace-on}
use Rattle.core_guard.proofs.PlacesLeft.{SeenUpdate, LocationsHold-stays}
use Rattle.core_guard.proofs.PlacesStay.{PassIsPlaced}
use Rattle.core_guard.proofs.ReadersLeft.{TightSide, climb-forth, counts-stay, ReadersCounted-leaves}
use Rattle.core_guard.proofs.Recalled.{recalled, call-is, task-is}
use Rattle.core_guard.proofs.TreesLeft.{KeepsBoxes, come-none, stored-left, TreesSound-leaves}
use Rattle.core_guard.proofs.WalksLeft.{WalksLead-leaves}

-- what laws do not read of such a word
record IsUnread (name : Name) : Type 0 where
  body : body_of name ≡ None
  locks : lock_scope.names name ≡ false
  bodies : body_scope.names name ≡ false
  nodes : node_scope.names name ≡ false

abbrev pub IsTreeWord : Name → Type 0
IsTreeWord (Child n k) = Unit {0}
IsTreeWord (Bound n k q) = Unit {0}
IsTreeWord _ = ⊥

unread : (name : Name) → IsTreeWord name → IsUnread name
unread (Child n k) h = record { body = refl; locks = refl; bodies = refl; nodes = refl }
unread (Bound n k q) h = record { body = refl; locks = refl; bodies = refl; nodes = refl }
unread _ h = absurd h

module _ (kind : Kind) (core : Core) (step : Step) (a : Acts core step) (index : ℕ) (call : Call) where
  abbrev nodes : Nodes
  nodes = a.laws.nodes

  abbrev Now : Sight
  Now = sight reader_scope (After kind core step)

  abbrev None_new : ℕ → Type 0
  None_new n = ⊥

  pub record OnTree : Type 0 where
    pub on : OnBody kind core step index call
    pub word : IsTreeWord step.name
    pub node : (n : ℕ) → node_in step.name ≡ Some n → Stands (nodes.home n)
    pub plain : (value : ℕ) → kind.entry step.view step.name value ≡ None
    pub leaves : Leaves kind core step nodes nodes None_new
    pub boxes : KeepsBoxes kind core step nodes nodes
    -- the pass takes out, places and moves the same body, and that one stands in trees
    pub removes : Removes step.view.call.task index ↔ Removes call.task index
    pub places : IsPlacing step.view.call.task index ↔ IsPlacing call.task index
    pub between : IsBetweenBoxes step.view index → MovesBody call.task index × (has_box_word call.stores ≡ true)
    pub targets : (i q side : ℕ) → IsTarget step.view.call.task i q side → IsTarget call.task i q side
    pub stand : (n k : ℕ) → IsLocation (sight location_scope core) index n k → Stands (nodes.home n)
    -- a side is as it was, or counts for the layer and for a new tree
    pub live : (n k q l : ℕ) → IsLive (nodes.home n) → IsOfLayer l (nodes.home n) → (word_of (After kind core step) (Bound n k q) ≡ word_of core (Bound n k q)) ⊎ IsInLayer Now l q (word_of (After kind core step) (Bound n k q))
    pub fresh : EachUpdate (sight reader_scope core) (λ number view r. (n k q l : ℕ) → nodes.home n ≡ made number l → (word_of (After kind core step) (Bound n k q) ≡ word_of core (Bound n k q)) ⊎ TightSide Now r n k q (word_of (After kind core step) (Bound n k q)))

  -- no other pass has the word for itself
  pub tree-guarded : IsTreeWord step.name → ((n : ℕ) → node_in step.name ≡ Some n → Stands (nodes.home n)) → KeepsGuards kind core step
  tree-guarded word node = keeps kind core step step.name refl (λ stored. nobodys step.name word node)
    where
      nobodys : (name : Name) → IsTreeWord name → ((n : ℕ) → node_in name ≡ Some n → Stands (nodes.home n)) → IsNobodys core step name
      nobodys (Child n k) h stands seat number view apart found own = (stands-unowned core a.formed nodes a.laws.places a.laws.trees seat number view found own n (stands n refl), tt)
      nobodys (Bound n k q) h stands seat number view apart found own = (stands-unowned core a.formed nodes a.laws.places a.laws.trees seat number view found own n (stands n refl), tt)
      nobodys _ h stands seat number view apart found own = absurd h

  module _ (t : OnTree) where
    last : Last kind core step ≡ record step.view { call = call; known = (Last kind core step).known; joined = None }
    last = recalled kind core step call t.on.recalls

    pub tree-stays : (i : ℕ) → Stays kind core step i
    tree-stays i =
        stays-by kind core step i (scene-plain kind core step t.plain i) (λ name of. word-step-other kind core step name (λ e. none-some i (sym (ap body_of e ∙ (unread step.name t.word).body) ∙ of)))
        (same (λ task j. Removes task j) t.removes (removes-else kind core step index call a t.on i)) (same (λ task j. IsPlacing task j) t.places (places-else kind core step index call a t.on i))
      where
        same : (P : Task → ℕ → Type 0) → P step.view.call.task index ↔ P call.task index → (i ≢ index → P step.view.call.task i ↔ P (Last kind core step).call.task i) → P step.view.call.task i ↔ P (Last kind core step).call.task i
        same P here others =
            elim (cases_eq i index) [
              | inl one ↦ subst (λ (j : ℕ). P step.view.call.task j ↔ P (Last kind core step).call.task j) (sym one) (subst (λ (task : Task). P step.view.call.task index ↔ P task index) (sym (task-is kind core step call t.on.recalls)) here)
              | inr apart ↦ others apart
            ]

    -- no node that a pass owns apart is the one
    apart : (n number : ℕ) → nodes.home n ≡ owned number → node_in step.name ≢ Some n
    apart n number home e = subst Stands home (t.node n e)

    TreesSound-tree : TreesSound nodes (After kind core step)
    TreesSound-tree =
        TreesSound-leaves kind core step a nodes None_new t.leaves (come-none kind core step nodes nodes) t.boxes (λ n number other home. (refl, apart n number home))
        (stored-left kind core step a nodes None_new t.leaves
        (λ store among. (subst (λ (l : List Store). Contains l store) (ap (λ (v : View). v.written) last) among, λ n of_node home. (refl, apart n step.number home))))

    climbing : (n k x y : ℕ) → IsLocation Now index n k → Above Now.word n k x y → Stands (nodes.home x)
    climbing =
        let old = sight reader_scope core in
        let s = sound-leads nodes (sight tree_scope core) a.laws.trees in
        let within : LeadsWithin nodes old.word = record { up = s.up; down = s.down } in
        climb-forth kind core step a nodes None_new t.leaves index (tree-stays index).loc_a (tree-stays index).loc_b
        (λ n k x y place above. above-stands kind core step a nodes nodes None_new t.leaves old.word Now.word within t.leaves.parent n k x y (t.stand n k place) above)

    pub Invariants-tree : PassIsPlaced nodes (sight location_scope (After kind core step)) (call_on_places call) (SeenUpdate kind core step) → Invariants (after_step kind core step)
    Invariants-tree own =
        let u = unread step.name t.word in
        let same = call-is kind core step call t.on.recalls in
        let walk = ap (λ (v : View). v.walk) last in
        record {
          nodes = nodes;
          locks = LocksAgree-on kind core step index call a t.on u.locks;
          bodies = BodiesAgree-beside kind core step a index call t.on t.between u.bodies t.plain;
          places = NodesInOnePlace-on kind core step index call a t.on u.nodes;
          trees = TreesSound-tree;
          locations =
              LocationsHold-stays kind core step a t.leaves tree-stays (ap (λ (v : View). v.batches) last)
              (subst (λ (c : Call). PassIsPlaced nodes (sight location_scope (After kind core step)) (call_on_places c) (SeenUpdate kind core step)) (sym same) own);
          cover = BodiesCovered-leaves kind core step a nodes nodes None_new t.leaves a.laws.cover (none-fresh kind core step nodes) (λ i. as_it_was (tree-stays i));
          walks = WalksLead-leaves kind core step a nodes None_new t.leaves t.boxes walk;
          readers =
              ReadersCounted-leaves kind core step a nodes None_new t.leaves
              (counts-stay kind core step a t.leaves tree-stays (λ i q side target. inl (subst (λ (c : Call). IsTarget c.task i q side) (sym same) (t.targets i q side target)))
              (climbs-on nodes Now index (Last kind core step).call.task (on-after kind core step index call a t.on) climbing) t.live t.fresh)
              (record { reader = λ p. word-step-other kind core step (Reader p) (λ e. subst IsTreeWord (sym e) t.word); walk = walk });
        }

-- ---- a step that clears an entry

abbrev is_child : Name → Bool
is_child (Child n k) = true
is_child _ = false

abbrev node_of : Name → ℕ
node_of (Child n k) = n
node_of _ = 0

abbrev child_of : Name → ℕ
child_of (Child n k) = k
child_of _ = 0

module _ (kind : Kind) (core : Core) (step : Step) (nodes : Nodes) (node child : ℕ) (names : step.name ≡ Child node child) where
  pub child-other : (name : Name) → is_child name ≡ false → word_of (After kind core step) name ≡ word_of core name
  child-other name other = word-step-other kind core step name (λ e. false≢true (sym other ∙ ap is_child (e ∙ names)))

  pub cleared-boxes : KeepsBoxes kind core step nodes nodes
  cleared-boxes n k stands box = subst IsBox (λ j q. sym (child-other (Bound n k q) refl) j) box

  -- the child stays, or was an entry that nobody needs
  abbrev pub StaysOrCleared : ℕ → ℕ → Type 0
  StaysOrCleared n k = (word_of (After kind core step) (Child n k) ≡ word_of core (Child n k)) ⊎ IsCleared kind core step nodes n k

  pub cleared-leaves : StaysOrCleared node child → (Last kind core step).rebuild ≡ step.view.rebuild → Leaves kind core step nodes nodes (λ n. ⊥)
  cleared-leaves here rebuild = record {
    stays = λ n inside. refl;
    depth = λ n inside. refl;
    stood = λ n inside. inl refl;
    child = λ n k inside.
        elim (cases_name (Child n k) step.name) [
          | inl same ↦ subst (λ (m : ℕ). StaysOrCleared m k) (sym (ap node_of (same ∙ names))) (subst (StaysOrCleared node) (sym (ap child_of (same ∙ names))) here)
          | inr other ↦ inl (word-step-other kind core step (Child n k) other)
        ];
    parent = λ n inside. child-other (Parent n) refl;
    wide = λ n k q stands. let same = child-other (Bound n k q) refl in (λ low. omega arith, λ high. omega arith);
    names = λ name root. (roots-other kind core step (ap layer_of names) name root).0;
    named = λ name root h. inl ((roots-other kind core step (ap layer_of names) name root).1 h);
    more = history (gained_by kind core step);
    goes_on = step-goes_on kind core step;
    rebuild = rebuild;
  }
