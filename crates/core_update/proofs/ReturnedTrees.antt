-- The trees where a node of a merged tree is given back: its children become tops of what is left, and no other node changes
-- its place.
use Rattle.std.proofs.Common.{◌≡◌, ◌≢◌, ◌⊎◌, ℕ, suc, List, ◌∷◌, [], Contains, Option, Some, option_map, refl, ap, sym, ◌∙◌, subst, inl, inr, arith}
use Rattle.std.specs.Prelude.{IfSome, map, slice_index}
use Rattle.std.proofs.lemmas.Bool.{cases_eq}
use Rattle.word_map.specs.declared.config.Config.{Config}
use Rattle.word_map.specs.declared.name.Name.{Name}
use Rattle.word_map.specs.declared.name.Name.TheVariants.{Child, Parent}
use Rattle.core_state.specs.declared.item.Store.{Store}
use Rattle.core_state.specs.declared.view.Rebuild.{Rebuild}
use Rattle.core_state.specs.declared.view.View.{View}
use Rattle.core_state.specs.declared.view.Waiting.{Waiting}
use Rattle.core_state.specs.Core.{Core, word_of}
use Rattle.core_state.specs.Encoding.{node_child, place}
use Rattle.core_state.specs.Kind.{Step, learned, view_after, after_step}
use Rattle.core_state.specs.Nodes.{Nodes, Home, free, made, under, superseded, returning, Stands, IsOwnedBy, node_in}
use Rattle.core_state.specs.Parts.{update_on_trees}
use Rattle.core_state.specs.Retiring.{MayGiveReturned, give_returned, tops_after, children_pushed}
use Rattle.core_state.specs.Scope.{Sight, sight, IsOnce, HasPass}
use Rattle.core_state.specs.TreesSound.{TreesSound, TreesSoundIn, tree_scope, IsRootOf, IsSupersededRoot, of_main, of_slot, IsChild, nothing, a_body, a_node, IsPlaced, as_root, at_place, IsSoundNode, IsAsStored, IsLeft, as_top, below, IsLeftNode, IsTop, AreTops, RootsMade, RootsSuperseded}
use Rattle.core_state.specs.Updates.{EachUpdate, HasUpdate}
use Rattle.core_state.specs.View.{known_word}
use Rattle.core_state.specs.Walking.{waiting}
use Rattle.core_state.proofs.Beginning.{cases_cons, contains_first}
use Rattle.core_guard.proofs.Leaving.{Acts, if_some_map}
use Rattle.core_guard.proofs.Seats.{each-step}
use Rattle.core_guard.proofs.Settled.{sound}
use Rattle.core_batch.proofs.Lists.{contains_later, contains_map, pairs-across, pairs-right}
use Rattle.core_batch.proofs.Rehome.{rehome, rehome-at, rehome-other}
use Rattle.core_update.proofs.NextReturned.{free_returning, next-top, next-returning, own-tops}
use Rattle.core_update.proofs.OwnUpdate.{each-own, has-own, own-each, own-has}
use Rattle.core_update.proofs.Rebuilt.{sight-moved}
use Rattle.core_update.proofs.ReturnedTops.{is-below, Pushed, all-pushed}

-- the root of a tree that was taken out of sight is one whatever is left to give back
root-again : (r : Rebuild) (tops : List Waiting) (name : Name) (root : ℕ) → IsSupersededRoot r name root → IsSupersededRoot (record r { returning = tops }) name root
root-again r tops name root (of_main l x low e) = of_main l x low e
root-again r tops name root (of_slot l t x k low inside e) = of_slot l t x k low inside e

root-before : (r : Rebuild) (tops : List Waiting) (name : Name) (root : ℕ) → IsSupersededRoot (record r { returning = tops }) name root → IsSupersededRoot r name root
root-before r tops name root (of_main l x low e) = of_main l x low e
root-before r tops name root (of_slot l t x k low inside e) = of_slot l t x k low inside e

module _ (core : Core) (step : Step) (a : Acts core step) (asked : MayGiveReturned step.view step.name step.first step.second) where
  abbrev After : Core
  After = after_step give_returned core step

  abbrev Last : View
  Last = view_after give_returned core step

  abbrev p : ℕ
  p = step.number

  abbrev x : ℕ
  x = asked.node

  abbrev r : Rebuild
  r = asked.next.r

  abbrev level : ℕ
  level = asked.next.level

  abbrev rest : List Waiting
  rest = asked.next.rest

  abbrev nodes : Nodes
  nodes = a.laws.nodes

  abbrev pub Given : Nodes
  Given = rehome nodes x free

  -- ---- homes

  pub home-before : nodes.home x ≡ returning p
  home-before = next-returning core step a x asked.next

  pub home-since : Given.home x ≡ free
  home-since = rehome-at nodes x free

  -- a home that neither was nor is that of the node has the nodes that it had
  pub homes-else : (P : Home → Type 0) → ¬ P (returning p) → ¬ P free → (n : ℕ) → P (nodes.home n) ⊎ P (Given.home n) → Given.home n ≡ nodes.home n
  homes-else P was is n h =
      elim (cases_eq n x) [
        | inl same ↦
            absurd
            (elim h [
              | inl q ↦ was (subst P (ap nodes.home same ∙ home-before) q)
              | inr q ↦ is (subst P (ap Given.home same ∙ home-since) q)
            ])
        | inr other ↦ rehome-other nodes x free n other
      ]

  pub stands-else : (n : ℕ) → Stands (nodes.home n) ⊎ Stands (Given.home n) → Given.home n ≡ nodes.home n
  stands-else = homes-else Stands (λ none. none) (λ none. none)

  -- ---- what the step leaves

  abbrev pub Left : Rebuild
  Left = record r { returning = children_pushed (word_of core) x level rest }

  words-known : (λ (name : Name). known_word (learned core step) name) ≡ word_of core
  words-known = ap (λ (c : Config). word_of (record core { config = c })) (sound core step a).config

  pub update-left : Last.rebuild ≡ Some Left
  update-left =
      ap (λ (o : Option Rebuild). option_map (λ (q : Rebuild). record q { returning = tops_after (known_word (learned core step)) q.returning }) o) asked.next.update
      ∙ ap (λ (l : List Waiting). Some (record r { returning = l })) (ap (λ (word : Name → ℕ). tops_after word r.returning) words-known ∙ ap (tops_after (word_of core)) asked.next.first)

  -- ---- the law, as it was

  abbrev Old : Sight
  Old = sight tree_scope core

  abbrev New : Sight
  New = sight tree_scope After

  abbrev Now : Sight
  Now = record Old { passes = New.passes }

  abbrev trees : TreesSoundIn nodes Old
  trees = a.laws.trees

  top-was : IsTop nodes Old p (waiting x level)
  top-was = next-top core step a x asked.next

  tops-were : AreTops nodes Old p (update_on_trees r)
  tops-were = own-tops core step a x asked.next

  old-own : (P : ℕ → Rebuild → Type 0) → EachUpdate Old (λ k v q. P k q) → P p (update_on_trees r)
  old-own P h = each-own give_returned core step a r asked.next.update tree_scope (λ k v. refl) update_on_trees (λ b v. refl) (λ k v q. P k q) h

  old-has : (number : ℕ) (P : Rebuild → Type 0) → HasPass Old number (λ v. HasUpdate v P) → (p ≡ number) × P (update_on_trees r)
  old-has = has-own give_returned core step a r asked.next.update tree_scope (λ k v. refl) update_on_trees (λ b v. refl)

  new-own : (P : ℕ → Rebuild → Type 0) → P p (update_on_trees Left) → EachUpdate Now (λ k v q. P k q)
  new-own P own = own-each give_returned core step a r asked.next.update tree_scope (λ k v. refl) update_on_trees (λ b v. refl) Left update-left (λ k v q. P k q) own

  new-has : (number : ℕ) (P : Rebuild → Type 0) → p ≡ number → P (update_on_trees Left) → HasPass Now number (λ v. HasUpdate v P)
  new-has number P same h =
      subst (λ (k : ℕ). HasPass Now k (λ v. HasUpdate v P)) same (own-has give_returned core step a r asked.next.update tree_scope (λ k v. refl) update_on_trees (λ b v. refl) Left update-left P h)

  x-left : IsLeftNode nodes Old p (update_on_trees r) x
  x-left = (old-has p (λ q. IsLeftNode nodes Old p q x) (trees.left_nodes x p home-before)).1

  -- ---- the tops

  first-rest : IsOnce (x ∷ map (λ w. w.node) rest)
  first-rest = subst (λ (l : List Waiting). IsOnce (map (λ w. w.node) l)) asked.next.first tops-were.once

  rest-among : (top : Waiting) → Contains rest top → Contains r.returning top
  rest-among top among = subst (λ (l : List Waiting). Contains l top) (sym asked.next.first) (contains_later (waiting x level) rest top among)

  rest-top : (top : Waiting) → Contains rest top → IsTop nodes Old p top
  rest-top top among = tops-were.tops top (rest-among top among)

  rest-else : (top : Waiting) → Contains rest top → top.node ≢ x
  rest-else top among same = pairs-across (λ b c. b ≢ c) (x ∷ []) (map (λ w. w.node) rest) first-rest x top.node (contains_first x []) (contains_map (λ (w : Waiting). w.node) rest top among) (sym same)

  tops-now : Pushed nodes Old x level x-left.children rest (λ top among k low parent. (rest-top top among).alone x k low parent home-before) 4 Left.returning
  tops-now =
      all-pushed nodes Old x level x-left.children rest (λ top among k low parent. (rest-top top among).alone x k low parent home-before)
      (pairs-right (λ b c. b ≢ c) (x ∷ []) (map (λ w. w.node) rest) first-rest)

  -- a node that is still to be given back is another one
  pub returning-else : (n number : ℕ) → Given.home n ≡ returning number → (n ≢ x) × (nodes.home n ≡ returning number)
  returning-else n number e =
      elim (cases_eq n x) [
        | inl same ↦ absurd (free_returning number (sym home-since ∙ (ap Given.home (sym same) ∙ e)))
        | inr other ↦ (other, sym (rehome-other nodes x free n other) ∙ e)
      ]

  is-top : (top : Waiting) → Contains Left.returning top → IsTop Given Now p top
  is-top top among =
      elim (tops-now.each top among) [
        | inl old ↦
            let t = rest-top top old in
            record {
              owned = rehome-other nodes x free top.node (rest-else top old) ∙ t.owned;
              alone = λ n k low parent e. t.alone n k low parent (returning-else n p e).1;
              low = t.low;
            }
        | inr new ↦
            let early = new.early in
            let b = is-below nodes Old x level x-left.children new.child top.node early new.is in
            let deeper = b.depth in
            record {
              owned = rehome-other nodes x free top.node (λ same. let e = ap nodes.depth same in absurd (omega arith)) ∙ (b.home ∙ home-before);
              alone = λ n k low parent e.
                  let above = b.parent in
                  let same : n ≡ x = omega arith in
                  (returning-else n p e).0 same;
              low = let first = new.level_is in let was = top-was.low in omega arith;
            }
      ]

  -- ---- nodes

  child-then : (n k : ℕ) → Given.home n ≡ nodes.home n → ((m : ℕ) → Old.word (Parent m) ≡ place n k → nodes.home m ≡ nodes.home n → Given.home m ≡ nodes.home m) → IsChild nodes Old n k → IsChild Given Now n k
  child-then n k same kept (nothing none) = nothing none
  child-then n k same kept (a_body i low e) = a_body i low e
  child-then n k same kept (a_node m e home parent depth) = a_node m e (kept m parent home ∙ (home ∙ sym same)) parent depth

  root-then : (home : Home) (root : ℕ) → IsRootOf Old home root → IsRootOf Now home root
  root-then (under name) root h = h
  root-then (made number l) root h = let t = old-has number (λ q. slice_index q.roots l ≡ suc root) h in new-has number (λ q. slice_index q.roots l ≡ suc root) t.0 t.1
  root-then (superseded number name) root h =
      let t = old-has number (λ q. IsSupersededRoot q name root) h in
      new-has number (λ q. IsSupersededRoot q name root) t.0 (root-again (update_on_trees r) Left.returning name root t.1)
  root-then _ root h = absurd h

  placed-then : (m : ℕ) → Stands (nodes.home m) → IsPlaced nodes Old m → IsPlaced Given Now m
  placed-then m stands (as_root none root) = as_root none (subst (λ (home : Home). IsRootOf Now home m) (sym (stands-else m (inl stands))) (root-then (nodes.home m) m root))
  placed-then m stands (at_place n k low parent child home) =
      at_place n k low parent child (stands-else n (inl (subst Stands (sym home) stands)) ∙ (home ∙ sym (stands-else m (inl stands))))

  sound-then : (n : ℕ) → Stands (Given.home n) → IsSoundNode Given Now n
  sound-then n stands =
      let same = stands-else n (inr stands) in
      let was : Stands (nodes.home n) = subst Stands same stands in
      let h = trees.sound n was in
      record {
        children = λ k low. child-then n k same (λ m parent home. stands-else m (inl (subst Stands (sym home) was))) (h.children k low);
        placed = placed-then n was h.placed;
        height = h.height;
        bounds = h.bounds;
      }

  left-then : (n : ℕ) → n ≢ x → IsLeft nodes Old p (update_on_trees r) n → IsLeft Given Now p (update_on_trees Left) n
  left-then n other (as_top lv among) =
      elim (cases_cons (waiting x level) rest (waiting n lv) (subst (λ (l : List Waiting). Contains l (waiting n lv)) asked.next.first among)) [
        | inl first ↦ absurd (other (sym (ap (λ (w : Waiting). w.node) first)))
        | inr later ↦ as_top lv (tops-now.old (waiting n lv) later)
      ]
  left-then n other (below m k low parent child home) =
      elim (cases_eq m x) [
        | inl same ↦ as_top (suc level) (tops-now.new k n low (subst (λ (y : ℕ). Old.word (Child y k) ≡ node_child n) same child))
        | inr else ↦ below m k low parent child (rehome-other nodes x free m else ∙ home)
      ]

  left-node-then : (n number : ℕ) → Given.home n ≡ returning number → HasPass Now number (λ v. HasUpdate v (λ q. IsLeftNode Given Now number q n))
  left-node-then n number e =
      let was = returning-else n number e in
      let h = old-has number (λ q. IsLeftNode nodes Old number q n) (trees.left_nodes n number was.1) in
      new-has number (λ q. IsLeftNode Given Now number q n) h.0 (subst (λ (k : ℕ). IsLeftNode Given Now k (update_on_trees Left) n) h.0
      (go (was.0, was.1 ∙ ap returning (sym h.0)) (subst (λ (k : ℕ). IsLeftNode nodes Old k (update_on_trees r) n) (sym h.0) h.1)))
    where
      go : (n ≢ x) × (nodes.home n ≡ returning p) → IsLeftNode nodes Old p (update_on_trees r) n → IsLeftNode Given Now p (update_on_trees Left) n
      go was h = record {
        children = λ k low.
            child-then n k (rehome-other nodes x free n was.0)
            (λ m parent home. rehome-other nodes x free m (λ same. top-was.alone n k low (subst (λ (y : ℕ). Old.word (Parent y) ≡ place n k) same parent) was.1)) (h.children k low);
        left = left-then n was.0 h.left;
        height = h.height;
      }

  -- ---- all of it

  abbrev StandsThere : Nodes → Sight → ℕ → Store → Type 0
  StandsThere map s number store = IfSome (node_in store.name) (λ n. IsOwnedBy number (map.home n) × IsAsStored s.word (map.home n) store.name store.value)

  stored-then : (number : ℕ) (store : Store) → StandsThere nodes Old number store → StandsThere Given Now number store
  stored-then number store h =
      if_some_map (node_in store.name) _ _
      (λ n t. subst (λ (home : Home). IsOwnedBy number home × IsAsStored Old.word home store.name store.value) (sym (homes-else (IsOwnedBy number) (λ none. none) (λ none. none) n (inl t.0))) t) h

  abbrev Stored : Nodes → Sight → ℕ → View → Type 0
  Stored map s number view = (store : Store) → Contains view.written store → StandsThere map s number store

  trees-then : TreesSoundIn Given Now
  trees-then = record {
    sound = sound-then;
    roots = λ name root names.
        let t = trees.roots name root names in
        (homes-else (λ home. home ≡ under name) (λ e. absurd cc) (λ e. absurd cc) root (inl t.0) ∙ t.0, t.1);
    stored =
        each-step tree_scope (λ k v. refl) give_returned core step a.at a.pass (Stored nodes Old) (Stored Given Now) trees.stored
        (λ seat number view apart found is h store among. stored-then number store (h store among)) (λ h store among. stored-then p store (h store among));
    made_roots =
        new-own (λ k q. RootsMade Given Now k q)
        (λ l root planned few is.
        let t = old-own (λ k q. RootsMade nodes Old k q) trees.made_roots l root planned few is in
        (homes-else (λ home. home ≡ made p l) (λ e. absurd cc) (λ e. absurd cc) root (inl t.0) ∙ t.0, t.1));
    superseded_roots =
        new-own (λ k q. RootsSuperseded Given Now k q)
        (λ name root unread is.
        let t = old-own (λ k q. RootsSuperseded nodes Old k q) trees.superseded_roots name root unread (root-before (update_on_trees r) Left.returning name root is) in
        (homes-else (λ home. home ≡ superseded p name) (λ e. absurd cc) (λ e. absurd cc) root (inl t.0) ∙ t.0, t.1));
    left_nodes = left-node-then;
    tops = new-own (λ k q. AreTops Given Now k q) (record { tops = is-top; once = tops-now.once });
  }

  pub TreesSound-given : TreesSound Given After
  TreesSound-given =
      subst (TreesSoundIn Given) (sym (sight-moved give_returned core step a (λ value. refl) tree_scope (λ stored. ap tree_scope.names asked.names))) trees-then
