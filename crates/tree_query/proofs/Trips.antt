-- What a load leaves of a walk that collects, and what holds at each of its places.
use mathlib.Core.Logic.{∥∥₁_elim}
use Rattle.std.proofs.Props.{props}
use Rattle.std.proofs.Common.{◌≡◌, ℕ, ◌+◌, ◌*◌, ◌<◌, ◌≤◌, List, [], ◌∷◌, ◌++◌, length, ap, sym, ◌∙◌, subst, arith, append_assoc}
use Rattle.std.specs.Prelude.{Some, Contains}
use Rattle.std.proofs.lemmas.List.{append-nil, length_push}
use Rattle.word_map.specs.declared.config.Config.{Config}
use Rattle.word_map.specs.declared.name.Name.{Name}
use Rattle.word_map.specs.declared.name.Name.TheVariants.{Child, Bound, Slot, Main}
use Rattle.word_map.specs.Names.{IsName, node_count}
use Rattle.core_state.specs.declared.item.Load.{Load}
use Rattle.core_state.specs.declared.view.Waiting.{Waiting}
use Rattle.core_state.specs.declared.view.View.{View}
use Rattle.core_state.specs.View.{IsPass}
use Rattle.core_state.specs.Encoding.{body_child}
use Rattle.core_state.specs.Nodes.{itself}
use Rattle.core_state.specs.ReadersCounted.{by_stack}
use Rattle.core_state.specs.WalkRecord.{IsLoaded}
use Rattle.core_state.specs.Walking.{Query, Position, next_word, advance, replay, asked_words, position_of, Follows}
use Rattle.core_query.specs.Ends.{IsWalking}
use Rattle.core_query.proofs.Ended.{leads, stays}
use Rattle.core_query.proofs.Stacks.{live-below, stack-room, next-of_world}
use Rattle.core_query.proofs.Counted.{loads-few}
use Rattle.pass_table.specs.Bodies.{IsCurrent}
use Rattle.tree_query.specs.Walking.{WalksOn}
use Rattle.tree_query.specs.Collecting.{found_with, found_from, found_by, Trip, IsOnTrip, found_so_far, Reaches}

-- ---- one load

pub found-more : (query : Query) (at : Position) (loads : List Load) (new : Load)
    → found_from query at (loads ++ new ∷ []) ≡ found_from query at loads ++ found_with query (replay query at loads).spot new.value
found-more query at [] new = append-nil (found_with query at.spot new.value)
found-more query at (l ∷ loads) new =
    ap (λ (later : List ℕ). found_with query at.spot l.value ++ later) (found-more query (advance query at l) loads new)
    ∙ sym (append_assoc (found_with query at.spot l.value) (found_from query (advance query at l) loads) (found_with query (replay query (advance query at l) loads).spot new.value))

-- the pass has the sizes that it had
pub trip-sizes : (trip : Trip) (view : View) (at : Position) → IsOnTrip trip view at → view.config ≡ trip.start.config
trip-sizes trip view at h = ap (λ (v : View). v.config) h.walked.left

-- a load is one more
pub load-counted : (view next : View) (name : Name) (value : ℕ) → WalksOn view next name value → length next.walk.loads ≡ length view.walk.loads + 1
load-counted view next name value step = ap (length {A = Load}) step.loads ∙ length_push view.walk.loads (record { name = name; value = value })

-- a load of the next word leads on
pub trip-on : (trip : Trip) (view next : View) (at : Position) (name : Name) (value : ℕ) → IsOnTrip trip view at → next_word at.rest at.spot ≡ Some name → WalksOn view next name value
    → Reaches trip view next (advance trip.query at (record { name = name; value = value })) (found_with trip.query at.spot value) 1
trip-on trip view next at name value h is step = record {
  on = record { walked = step.walked trip.start trip.told h.walked; walking = step.walking trip.query trip.start at (trip-sizes trip view at h) h.walking is };
  found_more =
      ap (found_by trip.start.config trip.query) step.loads
      ∙ (found-more trip.query _ view.walk.loads (record { name = name; value = value })
      ∙ ap (λ (p : Position). found_so_far trip view ++ found_with trip.query p.spot value) h.walking.place);
  loaded = load-counted view next name value step;
}

-- one way after another
pub reaches-trans : (trip : Trip) (view mid next : View) (at later : Position) (found more : List ℕ) (count further : ℕ) → Reaches trip view mid at found count → Reaches trip mid next later more further
    → Reaches trip view next later (found ++ more) (count + further)
reaches-trans trip view mid next at later found more count further one two = record {
  on = two.on;
  found_more = two.found_more ∙ (ap (λ (l : List ℕ). l ++ more) one.found_more ∙ append_assoc (found_so_far trip view) found more);
  loaded = let a = one.loaded in let b = two.loaded in omega arith;
}

-- ---- what holds at each place

module _ (trip : Trip) (view : View) (at : Position) (h : IsOnTrip trip view at) (now : IsCurrent view) where
  abbrev pub number : ℕ
  number = h.walked.adds.number

  pub number-is : IsPass view number
  number-is = subst (λ (v : View). IsPass v number) (sym h.walked.left) h.walked.adds.pass

  pub sizes : now.core.config ≡ trip.start.config
  sizes = now.sizes ∙ trip-sizes trip view at h

  pub walking-now : IsWalking now.core trip.query now.seat number view
  walking-now = record { at = now.at; pass = number-is; on = h.walking.on; follows = subst (λ (c : Config). Follows c trip.query view.walk.loads) (sym sizes) h.walking.follows }

  pub there : position_of now.core.config trip.query view.walk.loads ≡ at
  there = ap (λ (c : Config). position_of c trip.query view.walk.loads) sizes ∙ h.walking.place

  named-now : (name : Name) → next_word at.rest at.spot ≡ Some name → IsName view.config name
  named-now name is =
      subst (λ (c : Config). IsName c name) now.sizes
      (next-of_world now.core now.stands.laws trip.query now.seat number view walking-now name (subst (λ (p : Position). next_word p.rest p.spot ≡ Some name) (sym there) is))

  room-now : length at.stack < 31
  room-now =
      let room = stack-room now.core now.stands.laws trip.query now.seat number view walking-now in
      let same = ap (λ (p : Position). length p.stack) there in
      omega arith

  node-now : (w : Waiting) → Contains at.stack w → w.node < node_count view.config
  node-now w among =
      let there_too = subst (λ (p : Position). Contains p.stack w) (sym there) among in
      let live = (stays now.core now.stands.laws trip.query now.seat number view walking-now).live w.node (by_stack w there_too (itself w.node)) in
      subst (λ (c : Config). w.node < node_count c) now.sizes (live-below now.core now.stands.laws trip.query now.seat number view walking-now w.node live.0)

  body-now : (n k index : ℕ) → IsLoaded view.walk.loads (Child n k) (body_child index) → index < view.config.bodies
  body-now n k index among =
      subst (λ (c : Config). index < c.bodies) now.sizes
      ((leads now.core now.stands.laws trip.query now.seat number view walking-now).bodies n k index among)

  few-now : length view.walk.loads ≤ length (asked_words view.config trip.query.mask) + 28 * node_count view.config
  few-now =
      subst (λ (c : Config). length view.walk.loads ≤ length (asked_words c trip.query.mask) + 28 * node_count c) now.sizes
      (loads-few now.core now.stands.laws trip.query now.seat number view walking-now)

module _ (trip : Trip) (view : View) (at : Position) (h : IsOnTrip trip view at) (current : ∥ IsCurrent view ∥₁) where
  -- the stack has room
  pub room-at : length at.stack < 31
  room-at = ∥∥₁_elim current (hlevel props) (room-now trip view at h)

  -- each node on it is one of the world
  pub node-at : (w : Waiting) → Contains at.stack w → w.node < node_count view.config
  node-at w among = ∥∥₁_elim current (hlevel props) (λ now. node-now trip view at h now w among)

  -- each body that was read as a child is one of the world
  pub body-at : (n k index : ℕ) → IsLoaded view.walk.loads (Child n k) (body_child index) → index < view.config.bodies
  body-at n k index among = ∥∥₁_elim current (hlevel props) (λ now. body-now trip view at h now n k index among)

  -- the loads are few
  pub few-at : length view.walk.loads ≤ length (asked_words view.config trip.query.mask) + 28 * node_count view.config
  few-at = ∥∥₁_elim current (hlevel props) (few-now trip view at h)

  -- a child that is read next is one of a node of the world
  pub child-at : (n k : ℕ) → next_word at.rest at.spot ≡ Some (Child n k) → (n < node_count view.config) × (k < 4)
  child-at n k is = (∥∥₁_elim current (hlevel props) (λ now. (named-now trip view at h now (Child n k) is).0), ∥∥₁_elim current (hlevel props) (λ now. (named-now trip view at h now (Child n k) is).1))

  -- and so of a side of a bound
  pub bound-at : (n k q : ℕ) → next_word at.rest at.spot ≡ Some (Bound n k q) → (n < node_count view.config) × (k < 4) × (q < 6)
  bound-at n k q is = ∥∥₁_elim current (hlevel props) (λ now. named-now trip view at h now (Bound n k q) is)

  -- of a slot
  pub slot-at : (layer slot : ℕ) → next_word at.rest at.spot ≡ Some (Slot layer slot) → (layer < view.config.layers) × (slot < view.config.slots)
  slot-at layer slot is = ∥∥₁_elim current (hlevel props) (λ now. named-now trip view at h now (Slot layer slot) is)

  -- and of a main word
  pub main-at : (layer : ℕ) → next_word at.rest at.spot ≡ Some (Main layer) → layer < view.config.layers
  main-at layer is = ∥∥₁_elim current (hlevel props) (λ now. named-now trip view at h now (Main layer) is)
