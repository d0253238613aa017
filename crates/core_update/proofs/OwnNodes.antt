-- A word of a node that the pass owns, and that stands in no tree, is stored: trees, bodies and walks are left.
use Rattle.std.proofs.Common.{◌≡◌, ◌≢◌, ℕ, false, Option, Some, None, refl, ap, sym, ◌∙◌, subst, inl, inr}
use Rattle.std.specs.Prelude.{IfSome, Contains, filter, not}
use Rattle.std.proofs.lemmas.Bool.{false≢true}
use Rattle.std.proofs.lemmas.Option.{none-some, same_Some}
use Rattle.std.proofs.lemmas.List.Elements.{Contains-push_cases}
use Rattle.word_map.specs.declared.name.Name.{Name}
use Rattle.word_map.specs.declared.name.Name.TheVariants.{Child, Bound, Parent, Reader}
use Rattle.core_state.specs.declared.item.Store.{Store}
use Rattle.core_state.specs.Batches.{store_node}
use Rattle.core_state.specs.Core.{Core, word_of}
use Rattle.core_state.specs.Encoding.{layer_of}
use Rattle.core_state.specs.Kind.{Step, after_step}
use Rattle.core_state.specs.Names.{same_name}
use Rattle.core_state.specs.Nodes.{Nodes, Home, node_in, owned, IsOwnedBy, IsInTree}
use Rattle.core_state.specs.LocksAgree.{LocksAgree, lock_scope}
use Rattle.core_state.specs.BodiesAgree.{BodiesAgree, body_scope, BodiesAgreeIn}
use Rattle.core_state.specs.NodesInOnePlace.{NodesInOnePlace, node_scope, NodesInOnePlaceIn}
use Rattle.core_state.specs.TreesSound.{TreesSound, tree_scope, IsAsStored}
use Rattle.core_state.specs.LocationsHold.{LocationsHold, is_location_store}
use Rattle.core_state.specs.BodiesCovered.{BodiesCovered}
use Rattle.core_state.specs.WalksLead.{WalksLead}
use Rattle.core_state.specs.ReadersCounted.{ReadersCounted}
use Rattle.core_state.specs.Invariants.{Invariants}
use Rattle.core_state.proofs.Frames.{frame, step-same}
use Rattle.core_state.proofs.SameNames.{same_name-refl}
use Rattle.core_state.proofs.Steps.{word-step, word-step-other}
use Rattle.core_guard.proofs.BodyTouch.{held-kept}
use Rattle.core_guard.proofs.Leaving.{Acts, Touches, leaves-aside, roots-other, stays-by, scene-plain, body_of, lawful, if_some_with, stands-in_tree}
use Rattle.core_guard.proofs.LockSteps.{LocksAgree-other}
use Rattle.core_guard.proofs.Seats.{each-seat}
use Rattle.core_guard.proofs.PlacesLeft.{LocationsHold-touches}
use Rattle.core_guard.proofs.CoverLeft.{BodiesCovered-touches}
use Rattle.core_guard.proofs.ReadersLeft.{ReadersCounted-touches}
use Rattle.core_guard.proofs.WalksLeft.{WalksLead-touches}
use Rattle.core_guard.proofs.TreesLeft.{stored-same, node-word, TreesSound-touches}
use Rattle.core_batch.proofs.Lists.{filter_from}

-- a word of a node is none of a lock, of a body, of a reader, of the pool, or a root
pub record IsOfNode (name : Name) : Type 0 where
  pub locks : lock_scope.names name ≡ false
  pub bodies : body_scope.names name ≡ false
  pub pool : node_scope.names name ≡ false
  pub layer : layer_of name ≡ None
  pub location : is_location_store name ≡ false
  pub body : body_of name ≡ None
  pub reader : (p : ℕ) → Reader p ≢ name

pub node-name : (name : Name) (n : ℕ) → node_in name ≡ Some n → IsOfNode name
node-name (Child m k) n e = record { locks = refl; bodies = refl; pool = refl; layer = refl; location = refl; body = refl; reader = λ p same. absurd cc }
node-name (Bound m k q) n e = record { locks = refl; bodies = refl; pool = refl; layer = refl; location = refl; body = refl; reader = λ p same. absurd cc }
node-name (Parent m) n e = record { locks = refl; bodies = refl; pool = refl; layer = refl; location = refl; body = refl; reader = λ p same. absurd cc }
node-name _ n e = absurd (none-some n e)

module _ (core : Core) (step : Step) (a : Acts core step) (node : ℕ) (of_node : node_in step.name ≡ Some node) (home : a.laws.nodes.home node ≡ owned step.number) where
  abbrev nodes : Nodes
  nodes = a.laws.nodes

  name : IsOfNode step.name
  name = node-name step.name node of_node

  the-node : (n : ℕ) → node_in step.name ≡ Some n → n ≡ node
  the-node n e = same_Some n node (sym e ∙ of_node)

  apart : (n : ℕ) → IsInTree (nodes.home n) → node_in step.name ≢ Some n
  apart n inside e = subst IsInTree (ap nodes.home (the-node n e) ∙ home) inside

  -- a word that was stored stands
  abbrev StandsIn : Store → Type 0
  StandsIn store = IfSome (node_in store.name) (λ n. IsOwnedBy step.number (nodes.home n) × IsAsStored (word_of (after_step store_node core step)) (nodes.home n) store.name store.value)

  stands-on : (store : Store) → Contains step.view.written store → store.name ≢ step.name → StandsIn store
  stands-on store among other =
      if_some_with (node_in store.name) _ _
      (λ n some both. (both.0, stored-same _ (word_of (after_step store_node core step)) (nodes.home n) store.name store.value (word-step-other store_node core step store.name other ∙ sym (node-word core store.name n some)) both.1))
      (each-seat tree_scope (λ k v. refl) core _ a.laws.trees.stored step.seat step.number step.view a.at a.pass store among)

  stored-now : StandsIn (record { name = step.name; value = step.first })
  stored-now =
      subst (λ (o : Option ℕ). IfSome o (λ n. IsOwnedBy step.number (nodes.home n) × IsAsStored (word_of (after_step store_node core step)) (nodes.home n) step.name step.first)) (sym of_node)
      (subst (λ (x : Home). IsOwnedBy step.number x × IsAsStored (word_of (after_step store_node core step)) x step.name step.first) (sym home) (refl, word-step store_node core step))

  touches : Touches store_node core step nodes nodes
  touches = record {
    leaves = leaves-aside store_node core step nodes nodes apart (λ n inside. refl) (λ n inside. refl) (λ n inside. refl) (roots-other store_node core step name.layer) refl;
    bounds = λ n k q stands. word-step-other store_node core step (Bound n k q) (λ e. apart n (stands-in_tree (nodes.home n) stands) (ap node_in (sym e)));
    bodies = λ i.
        inl (stays-by store_node core step i (scene-plain store_node core step (λ value. refl) i) (λ other of. word-step-other store_node core step other (λ e. none-some i (sym name.body ∙ (ap body_of (sym e) ∙ of)))) (λ h. h, λ h. h)
        (λ h. h, λ h. h));
    call = inl refl;
    walk = refl;
    reader = λ p. word-step-other store_node core step (Reader p) (name.reader p);
    others = λ n number other owns. (refl, λ e. other (sym (subst (IsOwnedBy number) (ap nodes.home (the-node n e) ∙ home) owns)));
    written = λ store among.
        elim (Contains-push_cases (filter (λ s. not (same_name s.name step.name)) step.view.written) (record { name = step.name; value = step.first }) store among) [
          | inl early ↦
              let t = filter_from (λ (s : Store). not (same_name s.name step.name)) step.view.written store early in
              stands-on store t.0 (λ same. false≢true (sym (ap not (ap (λ (x : Name). same_name x step.name) same ∙ same_name-refl step.name)) ∙ t.1))
          | inr last ↦ subst (λ (s : Store). StandsIn s) last stored-now
        ];
    held = held-kept store_node core step a refl name.location;
  }

  -- each of them with the homes that the nodes had
  pub LocationsHold-own_node : LocationsHold nodes (after_step store_node core step)
  LocationsHold-own_node = LocationsHold-touches store_node core step a nodes touches

  pub BodiesCovered-own_node : BodiesCovered nodes (after_step store_node core step)
  BodiesCovered-own_node = BodiesCovered-touches store_node core step a nodes touches

  pub ReadersCounted-own_node : ReadersCounted nodes (after_step store_node core step)
  ReadersCounted-own_node = ReadersCounted-touches store_node core step a nodes touches

  pub TreesSound-own_node : TreesSound nodes (after_step store_node core step)
  TreesSound-own_node = TreesSound-touches store_node core step a nodes touches

  pub WalksLead-own_node : WalksLead (after_step store_node core step)
  WalksLead-own_node = WalksLead-touches store_node core step a nodes touches

  pub LocksAgree-own_node : LocksAgree (after_step store_node core step)
  LocksAgree-own_node = LocksAgree-other core step (lawful a) store_node name.locks refl

  pub BodiesAgree-own_node : BodiesAgree (after_step store_node core step)
  BodiesAgree-own_node =
      frame body_scope BodiesAgreeIn core (after_step store_node core step) (step-same body_scope store_node core step a.at a.pass (record { name = λ stored. name.bodies; entry = λ reads value. refl; part = refl })) a.laws.bodies

  pub NodesInOnePlace-own_node : NodesInOnePlace nodes (after_step store_node core step)
  NodesInOnePlace-own_node =
      frame node_scope (NodesInOnePlaceIn nodes) core (after_step store_node core step)
      (step-same node_scope store_node core step a.at a.pass (record { name = λ stored. name.pool; entry = λ reads. absurd (false≢true reads); part = refl })) a.laws.places

  -- all laws hold, as the pass notes just what it stored
  pub Invariants-own_node : Invariants (after_step store_node core step)
  Invariants-own_node = record {
    nodes = nodes;
    locks = LocksAgree-own_node;
    bodies = BodiesAgree-own_node;
    places = NodesInOnePlace-own_node;
    trees = TreesSound-own_node;
    locations = LocationsHold-own_node;
    cover = BodiesCovered-own_node;
    walks = WalksLead-own_node;
    readers = ReadersCounted-own_node;
  }
