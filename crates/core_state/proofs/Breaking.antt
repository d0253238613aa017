-- Each invariant fails in some core.
use Rattle.std.proofs.Common.{◌≡◌, ℕ, zero, suc, ◌<◌, List, [], ◌∷◌, length, refl, sym, subst, inl, inr, arith, eq-eqb}
use Rattle.std.specs.Prelude.{⊤, slice_index_or}
use Rattle.std.specs.Int.{bit_at}
use Rattle.std.proofs.lemmas.Bool.{false≢true}
use Rattle.fixed_box.specs.Touch.{Touch}
use Rattle.fixed_box.specs.declared.fix_box.FixBox.{FixBox}
use Rattle.scene_model.specs.declared.body_view.Phase.TheVariants.{In}
use Rattle.scene_model.specs.History.{Fits, point}
use Rattle.word_map.specs.declared.name.Name.{Name}
use Rattle.word_map.specs.declared.name.Name.TheVariants.{Child, Main, Slot}
use Rattle.core_state.specs.declared.item.Load.{Load}
use Rattle.core_state.specs.Nodes.{Nodes, Stands}
use Rattle.core_state.specs.Encoding.{Sides}
use Rattle.core_state.specs.Scope.{sight, bare_view}
use Rattle.core_state.specs.Bodies.{IsChain}
use Rattle.core_state.specs.LocksAgree.{LocksAgree}
use Rattle.core_state.specs.BodiesAgree.{BodiesAgree}
use Rattle.core_state.specs.NodesInOnePlace.{NodesInOnePlace, node_scope}
use Rattle.core_state.specs.TreesSound.{TreesSound, nothing, a_body, a_node}
use Rattle.core_state.specs.LocationsHold.{LocationsHold}
use Rattle.core_state.specs.BodiesCovered.{BodiesCovered}
use Rattle.core_state.specs.Walking.{Query, Position, resting, asked_words, replay, FollowsFrom, Follows}
use Rattle.core_state.specs.WalksLead.{WalksLead, WalkLeads, IsAhead, is_found, by_slot, by_main, by_stack, by_child, by_part, walk_scope}
use Rattle.core_state.specs.ReadersCounted.{ReadersCounted, reader_scope}
use Rattle.core_state.specs.Broken.{smallest, bit_of_nobody, body_of_nothing, miscounted_pool, endless_tree, body_without_entry, body_without_location, walk_past_a_body, walker, uncounted_reader}
use Rattle.core_state.proofs.Opening.{each_bare, no_bare, none_in}

pub bit_of_nobody-breaks : ¬ LocksAgree bit_of_nobody
bit_of_nobody-breaks h = let sum = h.holders 0 in absurd (omega arith)

pub body_of_nothing-breaks : ¬ BodiesAgree body_of_nothing
body_of_nothing-breaks h = let state = h.state 0 (omega arith) in absurd (omega arith)

-- a chain that begins somewhere is not empty
chain_some : (next : ℕ → ℕ) (at : ℕ) (chain : List ℕ) → IsChain next (suc at) chain → 0 < length chain
chain_some next at [] h = absurd (omega arith)
chain_some next at (first ∷ rest) h = omega arith

pub miscounted_pool-breaks : (nodes : Nodes) → ¬ NodesInOnePlace nodes miscounted_pool
miscounted_pool-breaks nodes h =
    let count = h.count (each_bare (sight node_scope miscounted_pool) _ refl (λ number pooling. absurd (grind arith))) in
    let some = chain_some _ 0 h.chain h.linked in
    absurd (omega arith)

pub endless_tree-breaks : (nodes : Nodes) → ¬ TreesSound nodes endless_tree
endless_tree-breaks nodes h =
    let root = h.roots (Main 0) 1 refl in
    let sound = h.sound 1 (subst Stands (sym root.0) tt) in
    elim (sound.children 0 (omega arith)) [
      | nothing e ↦ absurd (omega arith)
      | a_body i below e ↦ absurd (omega arith)
      | a_node m e same parent depth ↦
          let itself : m ≡ 1 = omega arith in
          let deeper : nodes.depth 1 ≡ suc (nodes.depth 1) = subst (λ (k : ℕ). nodes.depth k ≡ suc (nodes.depth 1)) itself depth in
          absurd (omega arith)
    ]

pub body_without_entry-breaks : (b : FixBox) (nodes : Nodes) → ¬ LocationsHold nodes (body_without_entry b)
body_without_entry-breaks b nodes h =
    let at = h.at 0 (record { generation = 1; layer = 0; bounds = b; user = 0; phase = In }) 0 0 refl refl (omega arith, inl refl) in
    let entry = at.entry in
    absurd (omega arith)

pub body_without_location-breaks : (b : FixBox) (nodes : Nodes) → ¬ BodiesCovered nodes (body_without_location b)
body_without_location-breaks b nodes h =
    let covered = h.covered 0 (record { generation = 1; layer = 0; bounds = b; user = 0; phase = In }) refl refl in
    elim (covered.2.1) [ inl e ↦ absurd (omega arith) | inr e ↦ absurd (omega arith) ]

pub uncounted_reader-breaks : (nodes : Nodes) → ¬ ReadersCounted nodes uncounted_reader
uncounted_reader-breaks nodes h = no_bare (sight reader_scope uncounted_reader) 0 _ refl false≢true ((h.odd 0).0 refl)

-- ---- the walk past a body

-- the walk read no child
abbrev IsNoChild : Name → Type 0
IsNoChild (Child n k) = ⊥
IsNoChild _ = ⊤

read_no_child : (l : Load) (j : ℕ) → j < 2 → slice_index_or walker.walk.loads j l ≡ l → IsNoChild l.name
read_no_child l zero below e = subst (λ (x : Load). IsNoChild x.name) e tt
read_no_child l (suc zero) below e = subst (λ (x : Load). IsNoChild x.name) e tt
read_no_child l (suc (suc j)) below e = absurd (omega arith)

-- nothing is left to read, so no way leads to a body
no_way : (word : Name → ℕ) (Had : Sides → Type 0) (query : Query) → ¬ IsAhead word Had 0 query walker.walk (record { rest = []; stack = []; spot = resting })
no_way word Had query (is_found c) = read_no_child _ c.2.0 c.2.1 c.2.2
no_way word Had query (by_slot c) = none_in (Slot c.0 c.1) c.2.0
no_way word Had query (by_main c) = none_in (Main c.0) c.1.0
no_way word Had query (by_stack n among way) = none_in n among
no_way word Had query (by_child c) = c
no_way word Had query (by_part c) = c

-- the words of a query of layer 0
asked : (query : Query) → bit_at query.mask 0 ≡ 1 → asked_words smallest query.mask ≡ Slot 0 0 ∷ Main 0 ∷ []
asked query asks = let test = eq-eqb (bit_at query.mask 0) 1 asks in rw test refl

pub walk_past_a_body-breaks : (b : FixBox) (query : Query) → bit_at query.mask 0 ≡ 1 → Touch query.shape b → ¬ WalksLead (walk_past_a_body b)
walk_past_a_body-breaks b query asks touches h =
    let s = sight walk_scope (walk_past_a_body b) in
    let from : List Name → Position = λ rest. record { rest = rest; stack = []; spot = resting } in
    let words = asked query asks in
    let follows : Follows smallest query walker.walk.loads =
    subst (λ (rest : List Name). FollowsFrom query (from rest) walker.walk.loads) (sym words) (refl, (refl, tt))
    in
    let leads = h.leads 0 (record (bare_view 0) { walk = walker.walk }) (0, omega arith, refl) refl refl query follows in
    let done = subst (λ (rest : List Name). WalkLeads s walker.walk query (replay query (from rest) walker.walk.loads)) words leads in
    no_way s.word _ query
    (done.ahead 0 1
    (λ n low high.
    let last : 3 ≡ n = omega arith in
    subst (λ (k : ℕ). Fits (Touch query.shape) query.mask (point 1 s.history k) 0 1) last (refl, (refl, asks, touches))))
