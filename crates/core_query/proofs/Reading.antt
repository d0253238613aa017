-- Nodes that were read: each one that is to be walked, each root that a word names, and, where no node was walked twice, each
-- whose child word and bound were loaded at any time.
use Rattle.std.proofs.Common.{◌≡◌, ◌≢◌, ℕ, zero, suc, ◌-◌, ◌<◌, List, [], ◌∷◌, ◌++◌, Some, None, refl, ap, sym, ◌∙◌, subst, inl, inr, arith, append_assoc}
use Rattle.std.specs.Prelude.{Contains, nat_le}
use Rattle.std.proofs.lemmas.Bool.{cases_Bool, cases_eq, le-leb, leb-true}
use Rattle.std.proofs.lemmas.Option.{none-some}
use Rattle.std.proofs.lemmas.List.Elements.{Contains-append_left, Contains-append_right, Contains-append_cases}
use Rattle.word_map.specs.declared.name.Name.{Name}
use Rattle.word_map.specs.declared.name.Name.TheVariants.{Child, Bound, Main, Slot}
use Rattle.core_state.specs.declared.item.Load.{Load}
use Rattle.core_state.specs.Encoding.{Sides, layer_of, NamesRoot}
use Rattle.core_state.specs.Nodes.{node_in}
use Rattle.core_state.specs.WalkRecord.{WalksOnce}
use Rattle.core_state.specs.Walking.{Query}
use Rattle.core_state.proofs.Beginning.{cases_cons, contains_first}
use Rattle.core_state.proofs.Opening.{none_in, only}
use Rattle.core_query.specs.WholeRecord.{ReadChild, side_load, node_loads, nodes_to_walk, nodes_named, IsWholeRecord, nothing_left, of_word, of_node}
use Rattle.core_query.specs.Found.{HasRead}
use Rattle.core_query.proofs.Finding.{child_load, IsOfNode, is_child, is_side, node-back, of-none, other-node, AreOfLayers, past-word, fewer, first-read, tail-once, node_rest, not-again}

-- ---- nodes that were read

has-read : (front loads : List Load) (m : ℕ) (children : ℕ → ReadChild) → HasRead loads m children → HasRead (front ++ loads) m children
has-read front loads m children h =
    (front ++ h.0, h.1, ap (λ (x : List Load). front ++ x) h.2 ∙ sym (append_assoc front h.0 (node_loads m children ++ h.1)))

-- the node was read, its four children one after the other
abbrev pub IsReadNode : List Load → ℕ → Type 0
IsReadNode loads n = (children : ℕ → ReadChild) × HasRead loads n children

node-behind : (front loads : List Load) (n : ℕ) → IsReadNode loads n → IsReadNode (front ++ loads) n
node-behind front loads n h = (h.0, has-read front loads n h.0 h.1)

-- each node that is to be walked is read
pub nodes-read : (query : Query) (nodes : List ℕ) (names : List Name) (loads : List Load) → IsWholeRecord query nodes names loads → (n : ℕ) → Contains nodes n → IsReadNode loads n
nodes-read query nodes names loads nothing_left n h = absurd (none_in n h)
nodes-read query nodes names loads (of_word name value more later whole) n h = absurd (none_in n h)
nodes-read query nodes names loads (of_node m children more words later whole) n h =
    elim (cases_cons m more n h) [
      | inl first ↦ (children, subst (λ (z : ℕ). HasRead (node_loads m children ++ later) z children) first ([], later, refl))
      | inr rest ↦
          node-behind (node_loads m children) later n
          (nodes-read query (nodes_to_walk query children ++ more) words later whole n (Contains-append_right (nodes_to_walk query children) more n rest))
    ]

-- ---- roots

-- the node that a word names, by the number that it has
pub named-root : (name : Name) (value n : ℕ) → NamesRoot name value n → (layer_of name ≢ None) × Contains (nodes_named name value) n
named-root (Main l) value n e = (λ none. none-some l (sym none), subst (λ (v : ℕ). Contains (nodes_named (Main l) v) n) (sym e) (contains_first n []))
named-root (Slot l t) value n e = (λ none. none-some l (sym none), rw (le-leb 1024 value (omega arith)) (0, omega arith, omega arith))
named-root _ value n e = absurd e

pub root-named : (name : Name) (value n : ℕ) → Contains (nodes_named name value) n → NamesRoot name value n
root-named (Main l) zero n h = absurd (none_in n h)
root-named (Main l) (suc root) n h = ap suc (only root n h)
root-named (Slot l t) value n h =
    elim (cases_Bool (nat_le 1024 value)) [
      | inl named ↦ let less = leb-true 1024 value named in let same = only (value - 1024) n (rw named at h) in omega arith
      | inr none ↦ absurd (none_in n (rw none at h))
    ]
root-named _ value n h = absurd (none_in n h)

-- a root that was read is read as a node
pub root-read : (query : Query) (nodes : List ℕ) (names : List Name) (loads : List Load) → IsWholeRecord query nodes names loads → (name : Name) (value : ℕ) → layer_of name ≢ None
    → Contains loads (record { name = name; value = value }) → (n : ℕ) → Contains (nodes_named name value) n → IsReadNode loads n
root-read query nodes names loads nothing_left name value layer h n among = absurd (none_in (record { name = name; value = value }) h)
root-read query nodes names loads (of_word other found more later whole) name value layer h n among =
    let first : Load = record { name = other; value = found } in
    elim (cases_cons first later (record { name = name; value = value }) h) [
      | inl same ↦
          node-behind (first ∷ []) later n
          (nodes-read query (nodes_named other found) more later whole n (subst (λ (l : Load). Contains (nodes_named l.name l.value) n) (sym same) among))
      | inr rest ↦ node-behind (first ∷ []) later n (root-read query (nodes_named other found) more later whole name value layer rest n among)
    ]
root-read query nodes names loads (of_node m children more words later whole) name value layer h n among =
    elim (Contains-append_cases (node_loads m children) later (record { name = name; value = value }) h) [
      | inl here ↦ absurd (layer (of-none m children (record { name = name; value = value }) (node-back m children (record { name = name; value = value }) here)))
      | inr rest ↦ node-behind (node_loads m children) later n (root-read query (nodes_to_walk query children ++ more) words later whole name value layer rest n among)
    ]

-- ---- a child that was read

child-of : (n : ℕ) (children : ℕ → ReadChild) (m k x : ℕ) → IsOfNode n children (child_load m k x) → (k < 4) × ((children k).word ≡ x)
child-of n children m k x (is_child j low e) =
    let name : Child n j ≡ Child m k = ap (λ (l : Load). l.name) e in
    let same : j ≡ k = cc in
    (subst (λ (i : ℕ). i < 4) same low, ap (λ (i : ℕ). (children i).word) (sym same) ∙ ap (λ (l : Load). l.value) e)
child-of n children m k x (is_side j q low less some e) = let name : Bound n j q ≡ Child m k = ap (λ (l : Load). l.name) e in absurd cc

side-of : (n : ℕ) (children : ℕ → ReadChild) (m k q : ℕ) (sides : Sides) → IsOfNode n children (side_load m k sides q) → (children k).bound q ≡ sides q
side-of n children m k q sides (is_child j low e) = let name : Child n j ≡ Bound m k q = ap (λ (l : Load). l.name) e in absurd cc
side-of n children m k q sides (is_side j p low less some e) =
    let name : Bound n j p ≡ Bound m k q = ap (λ (l : Load). l.name) e in
    let child : j ≡ k = cc in
    let side : p ≡ q = cc in
    ap (λ (i : ℕ). (children i).bound q) (sym child) ∙ (ap (λ (i : ℕ). (children j).bound i) (sym side) ∙ ap (λ (l : Load). l.value) e)

-- a child word and the six sides of the bound, each of which was read at some time
pub record AreLoaded (loads : List Load) (m k x : ℕ) (sides : Sides) : Type 0 where
  pub word : Contains loads (child_load m k x)
  pub bound : (q : ℕ) → q < 6 → Contains loads (side_load m k sides q)

-- they were read as one, and so were the nodes that the node leads to
pub record AreRead (query : Query) (loads : List Load) (m k x : ℕ) (sides : Sides) : Type 0 where
  pub children : ℕ → ReadChild
  pub read : HasRead loads m children
  pub low : k < 4
  pub word : (children k).word ≡ x
  pub bound : (q : ℕ) → q < 6 → (children k).bound q ≡ sides q
  pub goes_on : (n : ℕ) → Contains (nodes_to_walk query children) n → IsReadNode loads n

read-behind : (query : Query) (front loads : List Load) (m k x : ℕ) (sides : Sides) → AreRead query loads m k x sides → AreRead query (front ++ loads) m k x sides
read-behind query front loads m k x sides h = record {
  children = h.children;
  read = has-read front loads m h.children h.read;
  low = h.low;
  word = h.word;
  bound = h.bound;
  goes_on = λ n among. node-behind front loads n (h.goes_on n among);
}

module _ (query : Query) (m k x : ℕ) (sides : Sides) where
  -- the node that is read first is theirs, or they stand behind it
  at-node : (n : ℕ) (children : ℕ → ReadChild) (more : List ℕ) (names : List Name) (later : List Load) → IsWholeRecord query (nodes_to_walk query children ++ more) names later
      → AreOfLayers names → WalksOnce (node_loads n children ++ later) → n ≡ m → AreLoaded (node_loads n children ++ later) m k x sides → AreRead query (node_loads n children ++ later) m k x sides
  at-node n children more names later whole layers once same h =
      let word = child-of n children m k x (here (child_load m k x) refl h.word) in
      record {
        children = children;
        read = subst (λ (z : ℕ). HasRead (node_loads n children ++ later) z children) same ([], later, refl);
        low = word.0;
        word = word.1;
        bound = λ q less. side-of n children m k q sides (here (side_load m k sides q) refl (h.bound q less));
        goes_on = λ a among.
            node-behind (node_loads n children) later a
            (nodes-read query (nodes_to_walk query children ++ more) names later whole a (Contains-append_left (nodes_to_walk query children) more a among));
      }
    where
      here : (l : Load) → node_in l.name ≡ Some m → Contains (node_loads n children ++ later) l → IsOfNode n children l
      here l e among =
          elim (Contains-append_cases (node_loads n children) later l among) [
            | inl now ↦ node-back n children l now
            | inr rest ↦
                let t = first-read query (nodes_to_walk query children ++ more) names later whole layers m l e rest in
                absurd (not-again (child_load n 0 (children 0).word) (node_rest n children) later m t.0 once (ap (λ (z : ℕ). Child z 0) same) t.1)
          ]

  past-node : (n : ℕ) (children : ℕ → ReadChild) (later : List Load) → n ≢ m → AreLoaded (node_loads n children ++ later) m k x sides → AreLoaded later m k x sides
  past-node n children later apart h = record { word = past (child_load m k x) refl h.word; bound = λ q less. past (side_load m k sides q) refl (h.bound q less) }
    where
      past : (l : Load) → node_in l.name ≡ Some m → Contains (node_loads n children ++ later) l → Contains later l
      past l e among =
          elim (Contains-append_cases (node_loads n children) later l among) [
            | inl now ↦ absurd (other-node n m children l apart e now)
            | inr rest ↦ rest
          ]

  pub all-read : (nodes : List ℕ) (names : List Name) (loads : List Load) → IsWholeRecord query nodes names loads → AreOfLayers names → WalksOnce loads → AreLoaded loads m k x sides → AreRead query loads m k x sides
  all-read nodes names loads nothing_left layers once h = absurd (none_in (child_load m k x) h.word)
  all-read nodes names loads (of_word name value more later whole) layers once h =
      let first : Load = record { name = name; value = value } in
      read-behind query (first ∷ []) later m k x sides
      (all-read (nodes_named name value) more later whole (fewer name more layers) (tail-once (first ∷ []) later once)
      (record {
        word = past-word name value m more later (child_load m k x) layers refl h.word;
        bound = λ q less. past-word name value m more later (side_load m k sides q) layers refl (h.bound q less);
      }))
  all-read nodes names loads (of_node n children more words later whole) layers once h =
      elim (cases_eq n m) [
        | inl same ↦ at-node n children more words later whole layers once same h
        | inr apart ↦
            read-behind query (node_loads n children) later m k x sides
            (all-read (nodes_to_walk query children ++ more) words later whole layers (tail-once (node_loads n children) later once) (past-node n children later apart h))
      ]
