-- Events keep the form of a core.
use Rattle.std.proofs.Common.{◌≡◌, ◌≢◌, ◌⊎◌, ℕ, zero, suc, ◌+◌, ◌-◌, ◌<◌, ◌^◌, List, [], ◌++◌, Bool, true, false, cond, Option, Some, None, IfSome, length, set, refl, ap, sym, ◌∙◌, inl, inr, subst, arith}
use Rattle.std.specs.Prelude.{All, map, option_map, option_to_list}
use Rattle.std.proofs.lemmas.List.{length-set}
use Rattle.std.proofs.lemmas.List.Elements.{All-nil, All-cons, All-append}
use mathlib.Core.Option.{some, some-injective, some-ne-none}
use lib.ListN.{get_elem?}
use Rattle.word_map.specs.declared.config.Config.{Config}
use Rattle.word_map.specs.declared.name.Name.{Name}
use Rattle.word_map.specs.declared.name.Name.TheVariants.{State, Phase, Layer, User, BoxWord, Slot}
use Rattle.word_map.specs.Limits.{IsConfig}
use Rattle.fixed_box.specs.declared.fix_box.FixBox.{FixBox}
use Rattle.scene_model.specs.declared.entry.Entry.{Entry}
use Rattle.scene_model.specs.declared.entry.Entry.TheVariants.{Create, Join, Move}
use Rattle.core_state.specs.declared.item.Item.{Item}
use Rattle.core_state.specs.declared.view.Role.{Role}
use Rattle.core_state.specs.declared.view.Role.TheVariants.{Pass, Visitor, Spent}
use Rattle.core_state.specs.declared.view.Batch.{Batch}
use Rattle.core_state.specs.declared.view.View.{View}
use Rattle.core_state.specs.Log.{IsPrefix}
use Rattle.core_state.specs.View.{number_in, known_word, blank_view}
use Rattle.core_state.specs.Boxes.{box_of}
use Rattle.core_state.specs.Lives.{creation_of, destruction_of, new_user_of}
use Rattle.core_state.specs.Moving.{box_with_last, move_of}
use Rattle.core_state.specs.Batches.{mark_of, unmark_of, batch_for, joined_by}
use Rattle.core_state.specs.Removing.{removal_of}
use Rattle.core_state.specs.Core.{Core, IsViewAt, opening}
use Rattle.core_state.specs.Operation.{stores}
use Rattle.core_state.specs.Kind.{Kind, Asking, Step, IsAllowed, Steps, found_by, left_by, item_of, gained_by, log_after, view_after, after_step}
use Rattle.core_state.specs.Seats.{Opens, Visits, Joins, after_split, visitor_of, joined_view, spent_view}
use Rattle.core_state.specs.Event.{Event, opens_pass, splits_visitor, joins_visitor, looks, of_locks, of_lists, of_bodies, of_batches, of_pool, of_walks, of_moves, LockEvent, loads_lock, takes_read, takes_write, releases, ListEvent, loads_list, stores_link, stores_head, BodyEvent, stores_field, creates, destroys, loads_body, sets_user, BatchEvent, loads_slot, reserves, marks, stores_node, places, attaches, takes_back, unmarks, lets_slot_go, PoolEvent, stores_pool_link, stores_pool_head, stores_pool_count, WalkEvent, begins_walk, ends_walk, walks_slot, walks_main, walks_child, walks_bound, MoveEvent, widens_low, widens_high, loads_parent, stores_side, stores_last_side, Run, begins, goes_on, of_removals, RemovalEvent, removes, clears_entry, clears_location, of_updates}
use Rattle.core_state.specs.Formed.{IsMadeOn, IsSoundItem, HasNumbers, AreApart, IsSoundView, IsFormed}
use Rattle.std.proofs.lemmas.Option.{same_Some, none-some}
use Rattle.core_state.proofs.Cases.{update-case}
use Rattle.core_state.proofs.Lookups.{at_set, at_push}
use Rattle.core_state.proofs.Fitting.{word-fits, result_of-fits}
use Rattle.core_state.proofs.Prefixes.{IsPrefix-refl, IsPrefix-more, longer-covers}

-- ---- roles

-- a view with a number is that of a pass
pub pass_role : (role : Role) (number : ℕ) → number_in role ≡ Some number → (further : ℕ) × (role ≡ Pass number further)
pass_role (Pass n further) number e = (further, ap (λ (k : ℕ). Pass k further) (same_Some n number e))
pass_role Visitor number e = absurd (none-some number e)
pass_role Spent number e = absurd (none-some number e)

pub unspent_pass : (role : Role) (number : ℕ) → number_in role ≡ Some number → role ≢ Spent
unspent_pass role number e spent = none-some number (ap number_in (sym spent) ∙ e)

visitor≢spent : Visitor ≢ Spent
visitor≢spent e = absurd (grind arith)

-- its number is one of the world's
pub pass_below : (passes number : ℕ) (role : Role) → number_in role ≡ Some number → HasNumbers passes role → number < passes
pass_below passes number (Pass n further) e h = let same = same_Some n number e in omega arith
pass_below passes number Visitor e h = absurd (none-some number e)
pass_below passes number Spent e h = absurd (none-some number e)

apart_visitor : (role : Role) → AreApart role Visitor
apart_visitor (Pass n further) = tt
apart_visitor Visitor = tt
apart_visitor Spent = tt

apart_spent : (role : Role) → AreApart role Spent
apart_spent (Pass n further) = tt
apart_spent Visitor = tt
apart_spent Spent = tt

-- ---- a step

-- a kind makes entries only of the body, or the layer, whose word it stores
pub record SaysOf (kind : Kind) : Type 0 where
  pub said : (view : View) (name : Name) (value : ℕ) → IfSome (kind.entry view name value) (λ entry. IsMadeOn entry name)

-- what a step gains is sound
gained-sound : (asks : Asking) (kind : Kind) (core : Core) (step : Step) → SaysOf kind → IsFormed core → IsAllowed asks core step → All (IsSoundItem core.config) (gained_by kind core step)
gained-sound asks kind core step says formed allowed = go (stores kind.operation (found_by core step) step.first)
  where
    below : step.number < core.config.passes
    below = pass_below core.config.passes step.number step.view.role allowed.pass (formed.views step.seat step.view allowed.at (unspent_pass step.view.role step.number allowed.pass)).numbers

    found : found_by core step < 2 ^ 64
    found = word-fits core.config core.log step.name formed.sizes formed.items allowed.named

    left : left_by kind core step < 2 ^ 64
    left = result_of-fits kind.operation (found_by core step) step.first step.second found allowed.first_fits allowed.second_fits

    item : IsSoundItem core.config (item_of kind step (left_by kind core step))
    item = record { pass = below; named = allowed.named; fits = left; said = says.said step.view step.name (left_by kind core step) }

    go : (test : Bool) → All (IsSoundItem core.config) (option_to_list (option_map (item_of kind step) (cond test (Some (left_by kind core step)) None)))
    go true = All-cons (IsSoundItem core.config) _ [] item (All-nil (IsSoundItem core.config))
    go false = All-nil (IsSoundItem core.config)

-- a view that was sound is so in a longer log
IsSoundView-more : (c : Config) (log more : List Item) (view : View) → IsSoundView c log view → IsSoundView c (log ++ more) view
IsSoundView-more c log more view h = record { config = h.config; numbers = h.numbers; known = IsPrefix-more view.known log more h.known; joined = h.joined }

-- the view that a step leaves is sound
view_after-sound : (asks : Asking) (kind : Kind) (core : Core) (step : Step) → IsAllowed asks core step → IsFormed core → IsSoundView core.config (log_after kind core step) (view_after kind core step)
view_after-sound asks kind core step allowed formed =
    let before = formed.views step.seat step.view allowed.at (unspent_pass step.view.role step.number allowed.pass) in
    record { config = before.config; numbers = before.numbers; known = IsPrefix-refl (log_after kind core step); joined = tt }

-- a step leaves each seat its role
step_role : (asks : Asking) (kind : Kind) (core : Core) (step : Step) (seat : ℕ) (view : View) → IsAllowed asks core step → IsViewAt (after_step kind core step) seat view
    → (before : View) × IsViewAt core seat before × (before.role ≡ view.role)
step_role asks kind core step seat view allowed at =
    elim (at_set core.views step.seat seat (view_after kind core step) view at) [
      | inl t ↦ (step.view, subst (λ (s : ℕ). IsViewAt core s step.view) (sym t.0) allowed.at, ap (λ (v : View). v.role) t.1)
      | inr t ↦ (view, t.1, refl)
    ]

pub IsFormed-step : (asks : Asking) (kind : Kind) (core : Core) (step : Step) → SaysOf kind → IsAllowed asks core step → IsFormed core → IsFormed (after_step kind core step)
IsFormed-step asks kind core step says allowed formed = record {
  sizes = formed.sizes;
  items = All-append (IsSoundItem core.config) core.log (gained_by kind core step) formed.items (gained-sound asks kind core step says formed allowed);
  views = λ seat view at unspent.
      elim (at_set core.views step.seat seat (view_after kind core step) view at) [
        | inl t ↦ subst (λ (v : View). IsSoundView core.config (log_after kind core step) v) t.1 (view_after-sound asks kind core step allowed formed)
        | inr t ↦ IsSoundView-more core.config core.log (gained_by kind core step) view (formed.views seat view t.1 unspent)
      ];
  apart = λ seat other view second at at_other ne.
      let one = step_role asks kind core step seat view allowed at in
      let two = step_role asks kind core step other second allowed at_other in
      subst (λ (r : Role). AreApart view.role r) two.2 (subst (λ (r : Role). AreApart r two.0.role) one.2 (formed.apart seat other one.0 two.0 one.1 two.1 ne));
}

-- ---- seats

-- a view of a split core is that of the seat that was cut, the new one, or an old one of another seat
pub data AfterSplit (core : Core) (cut : ℕ) (left right : View) (seat : ℕ) (view : View) : Type 0 where
  is_left : seat ≡ cut → left ≡ view → AfterSplit core cut left right seat view
  is_right : seat ≡ length core.views → right ≡ view → AfterSplit core cut left right seat view
  is_other : seat ≢ cut → IsViewAt core seat view → AfterSplit core cut left right seat view

pub at_split : (core : Core) (cut : ℕ) (left right : View) (seat : ℕ) (view : View) → IsViewAt (after_split core cut left right) seat view → AfterSplit core cut left right seat view
at_split core cut left right seat view at =
    elim (at_push (set core.views cut left) right view seat at) [
      | inl t ↦ elim (at_set core.views cut seat left view t) [
        | inl u ↦ is_left u.0 u.1
        | inr u ↦ is_other u.0 u.1
      ]
      | inr t ↦ is_right (t.0 ∙ length-set core.views cut left) t.1
    ]

-- both halves are apart from all that the view was apart from, and from one another
record CutsApart (role left right : Role) : Type 0 where
  halves : AreApart left right
  halves_back : AreApart right left
  first : (other : Role) → AreApart role other → AreApart left other
  first_back : (other : Role) → AreApart other role → AreApart other left
  second : (other : Role) → AreApart role other → AreApart right other
  second_back : (other : Role) → AreApart other role → AreApart other right

over_views : (a b u w : View) → a ≡ u → b ≡ w → AreApart a.role b.role → AreApart u.role w.role
over_views a b u w e f h = subst (λ (v : View). AreApart u.role v.role) f (subst (λ (v : View). AreApart v.role b.role) e h)

module _ (core : Core) (cut : ℕ) (view left right : View) (at : IsViewAt core cut view) (cuts : CutsApart view.role left.role right.role) (formed : IsFormed core) where
  apart_split : (seat other : ℕ) (u w : View) → seat ≢ other → AfterSplit core cut left right seat u → AfterSplit core cut left right other w → AreApart u.role w.role
  apart_split seat other u w ne (is_left p e) (is_left q f) = absurd (ne (p ∙ sym q))
  apart_split seat other u w ne (is_left p e) (is_right q f) = over_views left right u w e f cuts.halves
  apart_split seat other u w ne (is_left p e) (is_other q f) = over_views left w u w e refl (cuts.first w.role (formed.apart cut other view w at f (λ s. q (sym s))))
  apart_split seat other u w ne (is_right p e) (is_left q f) = over_views right left u w e f cuts.halves_back
  apart_split seat other u w ne (is_right p e) (is_right q f) = absurd (ne (p ∙ sym q))
  apart_split seat other u w ne (is_right p e) (is_other q f) = over_views right w u w e refl (cuts.second w.role (formed.apart cut other view w at f (λ s. q (sym s))))
  apart_split seat other u w ne (is_other p e) (is_left q f) = over_views u left u w refl f (cuts.first_back u.role (formed.apart seat cut u view e at p))
  apart_split seat other u w ne (is_other p e) (is_right q f) = over_views u right u w refl f (cuts.second_back u.role (formed.apart seat cut u view e at p))
  apart_split seat other u w ne (is_other p e) (is_other q f) = formed.apart seat other u w e f ne

sound_split : (core : Core) (cut : ℕ) (left right : View) (seat : ℕ) (u : View) → IsSoundView core.config core.log left → IsSoundView core.config core.log right
    → IsFormed core → u.role ≢ Spent → AfterSplit core cut left right seat u → IsSoundView core.config core.log u
sound_split core cut left right seat u sound_left sound_right formed unspent (is_left p e) = subst (λ (v : View). IsSoundView core.config core.log v) e sound_left
sound_split core cut left right seat u sound_left sound_right formed unspent (is_right p e) = subst (λ (v : View). IsSoundView core.config core.log v) e sound_right
sound_split core cut left right seat u sound_left sound_right formed unspent (is_other p e) = formed.views seat u e unspent

IsFormed-split : (core : Core) (cut : ℕ) (view left right : View) → IsViewAt core cut view → IsSoundView core.config core.log left
    → IsSoundView core.config core.log right → CutsApart view.role left.role right.role → IsFormed core → IsFormed (after_split core cut left right)
IsFormed-split core cut view left right at sound_left sound_right cuts formed = record {
  sizes = formed.sizes;
  items = formed.items;
  views = λ seat u at_u unspent. sound_split core cut left right seat u sound_left sound_right formed unspent (at_split core cut left right seat u at_u);
  apart = λ seat other u w at_u at_w ne.
      apart_split core cut view left right at cuts formed seat other u w ne (at_split core cut left right seat u at_u) (at_split core cut left right other w at_w);
}

-- a pass is opened: of its range of numbers the new one has all but the first
open_first : (number further : ℕ) (other : Role) → AreApart (Pass number (suc further)) other → AreApart (Pass number 0) other
open_first number further (Pass n f) h = elim h [ inl less ↦ inl (omega arith) | inr less ↦ inr less ]
open_first number further Visitor h = tt
open_first number further Spent h = tt

open_first_back : (number further : ℕ) (other : Role) → AreApart other (Pass number (suc further)) → AreApart other (Pass number 0)
open_first_back number further (Pass n f) h = elim h [ inl less ↦ inl less | inr less ↦ inr (omega arith) ]
open_first_back number further Visitor h = tt
open_first_back number further Spent h = tt

open_rest : (number further : ℕ) (other : Role) → AreApart (Pass number (suc further)) other → AreApart (Pass (suc number) further) other
open_rest number further (Pass n f) h = elim h [ inl less ↦ inl (omega arith) | inr less ↦ inr (omega arith) ]
open_rest number further Visitor h = tt
open_rest number further Spent h = tt

open_rest_back : (number further : ℕ) (other : Role) → AreApart other (Pass number (suc further)) → AreApart other (Pass (suc number) further)
open_rest_back number further (Pass n f) h = elim h [ inl less ↦ inl (omega arith) | inr less ↦ inr (omega arith) ]
open_rest_back number further Visitor h = tt
open_rest_back number further Spent h = tt

-- a pass that has done nothing is sound where its numbers are those of the world
blank-sound : (c : Config) (log : List Item) (number further : ℕ) → number + further < c.passes → IsSoundView c log (blank_view c (Pass number further))
blank-sound c log number further below = record { config = refl; numbers = below; known = (log, refl); joined = tt }

pass≢spent : (number further : ℕ) → Pass number further ≢ Spent
pass≢spent number further e = unspent_pass (Pass number further) number refl e

pub IsFormed-opens : (before after : Core) → Opens before after → IsFormed before → IsFormed after
IsFormed-opens before after opens formed =
    let c = before.config in
    let number = opens.number in
    let further = opens.further in
    let sound = formed.views opens.seat _ opens.at (pass≢spent number (suc further)) in
    let below = sound.numbers in
    subst IsFormed (sym opens.result)
    (IsFormed-split before opens.seat _ (blank_view c (Pass number 0)) (blank_view c (Pass (suc number) further)) opens.at
    (blank-sound c before.log number 0 (omega arith)) (blank-sound c before.log (suc number) further (omega arith))
    (record {
      halves = inl (omega arith);
      halves_back = inr (omega arith);
      first = open_first number further;
      first_back = open_first_back number further;
      second = open_rest number further;
      second_back = open_rest_back number further;
    })
    formed)

pub IsFormed-visits : (before after : Core) → Visits before after → IsFormed before → IsFormed after
IsFormed-visits before after visits formed =
    let view = visits.view in
    let sound = formed.views visits.seat view visits.at (unspent_pass view.role visits.number visits.pass) in
    subst IsFormed (sym visits.result)
    (IsFormed-split before visits.seat view view (visitor_of view) visits.at sound
    (record { config = sound.config; numbers = tt; known = sound.known; joined = tt })
    (record {
      halves = apart_visitor view.role;
      halves_back = tt;
      first = λ other h. h;
      first_back = λ other h. h;
      second = λ other h. tt;
      second_back = λ other h. apart_visitor other;
    })
    formed)

-- two views met
joined-sound : (c : Config) (log : List Item) (view visitor : View) → IsSoundView c log view → IsPrefix visitor.known log → IsSoundView c log (joined_view view visitor)
joined-sound c log view visitor sound other =
    let covers = longer-covers view.known visitor.known log sound.known other in
    record { config = sound.config; numbers = sound.numbers; known = covers.0; joined = (covers.1, covers.2) }

-- a view of a core in which a visitor was joined
pub data AfterJoin (core : Core) (own other : ℕ) (joined : View) (seat : ℕ) (u : View) : Type 0 where
  is_spent : spent_view ≡ u → AfterJoin core own other joined seat u
  is_joined : seat ≡ own → joined ≡ u → AfterJoin core own other joined seat u
  is_old : IsViewAt core seat u → AfterJoin core own other joined seat u

pub at_join : (core : Core) (own other : ℕ) (joined : View) (seat : ℕ) (u : View) → get_elem? (set (set core.views own joined) other spent_view) seat ≡ some u → AfterJoin core own other joined seat u
at_join core own other joined seat u at =
    elim (at_set (set core.views own joined) other seat spent_view u at) [
      | inl t ↦ is_spent t.1
      | inr t ↦ elim (at_set core.views own seat joined u t.1) [
        | inl v ↦ is_joined v.0 v.1
        | inr v ↦ is_old v.1
      ]
    ]

module _ (before after : Core) (joins : Joins before after) (formed : IsFormed before) where
  -- the pass keeps its role, the visitor is spent, and the others are as they were
  join_role : (seat : ℕ) (u : View) → AfterJoin before joins.seat joins.other (joined_view joins.view joins.visitor) seat u
      → (u.role ≡ Spent) ⊎ ((w : View) × IsViewAt before seat w × (w.role ≡ u.role))
  join_role seat u (is_spent e) = inl (ap (λ (v : View). v.role) (sym e))
  join_role seat u (is_joined p e) = inr (joins.view, subst (λ (s : ℕ). IsViewAt before s joins.view) (sym p) joins.at, ap (λ (v : View). v.role) e)
  join_role seat u (is_old e) = inr (u, e, refl)

  join_sound : (seat : ℕ) (u : View) → u.role ≢ Spent → AfterJoin before joins.seat joins.other (joined_view joins.view joins.visitor) seat u → IsSoundView before.config before.log u
  join_sound seat u unspent (is_spent e) = absurd (unspent (ap (λ (v : View). v.role) (sym e)))
  join_sound seat u unspent (is_joined p e) =
      let sound = formed.views joins.seat joins.view joins.at (unspent_pass joins.view.role joins.number joins.pass) in
      let visitor = formed.views joins.other joins.visitor joins.other_at (λ s. visitor≢spent (sym joins.visits ∙ s)) in
      subst (λ (v : View). IsSoundView before.config before.log v) e (joined-sound before.config before.log joins.view joins.visitor sound visitor.known)
  join_sound seat u unspent (is_old e) = formed.views seat u e unspent

  join_apart : (seat other : ℕ) (u w : View) → seat ≢ other → (u.role ≡ Spent) ⊎ ((v : View) × IsViewAt before seat v × (v.role ≡ u.role))
      → (w.role ≡ Spent) ⊎ ((v : View) × IsViewAt before other v × (v.role ≡ w.role)) → AreApart u.role w.role
  join_apart seat other u w ne (inl e) second = subst (λ (r : Role). AreApart r w.role) (sym e) tt
  join_apart seat other u w ne (inr t) (inl f) = subst (λ (r : Role). AreApart u.role r) (sym f) (apart_spent u.role)
  join_apart seat other u w ne (inr t) (inr v) =
      subst (λ (r : Role). AreApart u.role r) v.2 (subst (λ (r : Role). AreApart r v.0.role) t.2 (formed.apart seat other t.0 v.0 t.1 v.1 ne))

pub IsFormed-joins : (before after : Core) → Joins before after → IsFormed before → IsFormed after
IsFormed-joins before after joins formed =
    let at = at_join before joins.seat joins.other (joined_view joins.view joins.visitor) in
    let joined : Core = record before { views = set (set before.views joins.seat (joined_view joins.view joins.visitor)) joins.other spent_view } in
    let proof : IsFormed joined = record {
      sizes = formed.sizes;
      items = formed.items;
      views = λ seat u at_u unspent. join_sound before after joins formed seat u unspent (at seat u at_u);
      apart = λ seat other u w at_u at_w ne.
          join_apart before after joins formed seat other u w ne (join_role before after joins formed seat u (at seat u at_u)) (join_role before after joins formed other w (at other w at_w));
    } in
    subst IsFormed (sym joins.result) proof

-- ---- events and runs

IsFormed-steps : (asks : Asking) (kind : Kind) (before after : Core) → SaysOf kind → Steps asks kind before after → IsFormed before → IsFormed after
IsFormed-steps asks kind before after says steps formed = subst IsFormed (sym steps.result) (IsFormed-step asks kind before steps.step says steps.allowed formed)

-- most kinds make no entry
says-nothing : (kind : Kind) → ((view : View) (name : Name) (value : ℕ) → kind.entry view name value ≡ None) → SaysOf kind
says-nothing kind none = record { said = λ view name value. subst (λ (o : Option Entry). IfSome o (λ entry. IsMadeOn entry name)) (sym (none view name value)) tt }

-- a creation and a destruction speak of the body whose state they store, a new user number of the one whose it is
creation-said : (index layer user : ℕ) (bounds : Option FixBox) → IfSome (option_map (λ b. Create index layer b user) bounds) (λ entry. IsMadeOn entry (State index))
creation-said index layer user None = tt
creation-said index layer user (Some b) = refl

creates-said : (view : View) (name : Name) → IfSome (creation_of view name) (λ entry. IsMadeOn entry name)
creates-said view (State index) = creation-said index (known_word view (Layer index)) (known_word view (User index)) (box_of (λ k. known_word view (BoxWord index k)))
creates-said view _ = tt

destroys-said : (name : Name) → IfSome (destruction_of name) (λ entry. IsMadeOn entry name)
destroys-said (State index) = refl
destroys-said _ = tt

user-said : (name : Name) (value : ℕ) → IfSome (new_user_of name value) (λ entry. IsMadeOn entry name)
user-said (User index) value = refl
user-said _ value = tt

-- a mark and what takes it back speak of the body whose phase they store, and a joining of the layer of its slot
marks-said : (name : Name) → IfSome (mark_of name) (λ entry. IsMadeOn entry name)
marks-said (Phase index) = refl
marks-said _ = tt

unmarks-said : (name : Name) → IfSome (unmark_of name) (λ entry. IsMadeOn entry name)
unmarks-said (Phase index) = refl
unmarks-said _ = tt

-- and so does a removal
removes-said : (name : Name) → IfSome (removal_of name) (λ entry. IsMadeOn entry name)
removes-said (Phase index) = refl
removes-said _ = tt

joining-said : (layer slot : ℕ) (batch : Option Batch) → IfSome (option_map (λ b. Join layer (map (λ m. m.index) b.marked)) batch) (λ entry. IsMadeOn entry (Slot layer slot))
joining-said layer slot None = tt
joining-said layer slot (Some b) = (slot, refl)

joins-said : (view : View) (name : Name) → IfSome (joined_by view name) (λ entry. IsMadeOn entry name)
joins-said view (Slot layer slot) = joining-said layer slot (batch_for layer slot view)
joins-said view _ = tt

-- a move speaks of the body whose box word it stores
moved-said : (index k : ℕ) (bounds : Option FixBox) → IfSome (option_map (λ b. Move index b) bounds) (λ entry. IsMadeOn entry (BoxWord index k))
moved-said index k None = tt
moved-said index k (Some b) = (k, refl)

moves-said : (view : View) (name : Name) (value : ℕ) → IfSome (move_of view name value) (λ entry. IsMadeOn entry name)
moves-said view (BoxWord index k) value = moved-said index k (box_of (box_with_last view index value))
moves-said view _ value = tt

-- each group of kinds
IsFormed-locks : (before after : Core) → LockEvent before after → IsFormed before → IsFormed after
IsFormed-locks before after (loads_lock e) formed = IsFormed-steps _ _ before after (says-nothing _ (λ view name value. refl)) e formed
IsFormed-locks before after (takes_read e) formed = IsFormed-steps _ _ before after (says-nothing _ (λ view name value. refl)) e formed
IsFormed-locks before after (takes_write e) formed = IsFormed-steps _ _ before after (says-nothing _ (λ view name value. refl)) e formed
IsFormed-locks before after (releases e) formed = IsFormed-steps _ _ before after (says-nothing _ (λ view name value. refl)) e formed

IsFormed-lists : (before after : Core) → ListEvent before after → IsFormed before → IsFormed after
IsFormed-lists before after (loads_list e) formed = IsFormed-steps _ _ before after (says-nothing _ (λ view name value. refl)) e formed
IsFormed-lists before after (stores_link e) formed = IsFormed-steps _ _ before after (says-nothing _ (λ view name value. refl)) e formed
IsFormed-lists before after (stores_head e) formed = IsFormed-steps _ _ before after (says-nothing _ (λ view name value. refl)) e formed

IsFormed-bodies : (before after : Core) → BodyEvent before after → IsFormed before → IsFormed after
IsFormed-bodies before after (stores_field e) formed = IsFormed-steps _ _ before after (says-nothing _ (λ view name value. refl)) e formed
IsFormed-bodies before after (creates e) formed = IsFormed-steps _ _ before after (record { said = λ view name value. creates-said view name }) e formed
IsFormed-bodies before after (destroys e) formed = IsFormed-steps _ _ before after (record { said = λ view name value. destroys-said name }) e formed
IsFormed-bodies before after (loads_body e) formed = IsFormed-steps _ _ before after (says-nothing _ (λ view name value. refl)) e formed
IsFormed-bodies before after (sets_user e) formed = IsFormed-steps _ _ before after (record { said = λ view name value. user-said name value }) e formed

IsFormed-batches : (before after : Core) → BatchEvent before after → IsFormed before → IsFormed after
IsFormed-batches before after (loads_slot e) formed = IsFormed-steps _ _ before after (says-nothing _ (λ view name value. refl)) e formed
IsFormed-batches before after (reserves e) formed = IsFormed-steps _ _ before after (says-nothing _ (λ view name value. refl)) e formed
IsFormed-batches before after (marks e) formed = IsFormed-steps _ _ before after (record { said = λ view name value. marks-said name }) e formed
IsFormed-batches before after (stores_node e) formed = IsFormed-steps _ _ before after (says-nothing _ (λ view name value. refl)) e formed
IsFormed-batches before after (places e) formed = IsFormed-steps _ _ before after (says-nothing _ (λ view name value. refl)) e formed
IsFormed-batches before after (attaches e) formed = IsFormed-steps _ _ before after (record { said = λ view name value. joins-said view name }) e formed
IsFormed-batches before after (takes_back e) formed = IsFormed-steps _ _ before after (says-nothing _ (λ view name value. refl)) e formed
IsFormed-batches before after (unmarks e) formed = IsFormed-steps _ _ before after (record { said = λ view name value. unmarks-said name }) e formed
IsFormed-batches before after (lets_slot_go e) formed = IsFormed-steps _ _ before after (says-nothing _ (λ view name value. refl)) e formed

IsFormed-pool : (before after : Core) → PoolEvent before after → IsFormed before → IsFormed after
IsFormed-pool before after (stores_pool_link e) formed = IsFormed-steps _ _ before after (says-nothing _ (λ view name value. refl)) e formed
IsFormed-pool before after (stores_pool_head e) formed = IsFormed-steps _ _ before after (says-nothing _ (λ view name value. refl)) e formed
IsFormed-pool before after (stores_pool_count e) formed = IsFormed-steps _ _ before after (says-nothing _ (λ view name value. refl)) e formed

IsFormed-walks : (before after : Core) → WalkEvent before after → IsFormed before → IsFormed after
IsFormed-walks before after (begins_walk e) formed = IsFormed-steps _ _ before after (says-nothing _ (λ view name value. refl)) e formed
IsFormed-walks before after (ends_walk e) formed = IsFormed-steps _ _ before after (says-nothing _ (λ view name value. refl)) e formed
IsFormed-walks before after (walks_slot e) formed = IsFormed-steps _ _ before after (says-nothing _ (λ view name value. refl)) e formed
IsFormed-walks before after (walks_main e) formed = IsFormed-steps _ _ before after (says-nothing _ (λ view name value. refl)) e formed
IsFormed-walks before after (walks_child e) formed = IsFormed-steps _ _ before after (says-nothing _ (λ view name value. refl)) e formed
IsFormed-walks before after (walks_bound e) formed = IsFormed-steps _ _ before after (says-nothing _ (λ view name value. refl)) e formed

IsFormed-moves : (before after : Core) → MoveEvent before after → IsFormed before → IsFormed after
IsFormed-moves before after (widens_low index e) formed = IsFormed-steps _ _ before after (says-nothing _ (λ view name value. refl)) e formed
IsFormed-moves before after (widens_high index e) formed = IsFormed-steps _ _ before after (says-nothing _ (λ view name value. refl)) e formed
IsFormed-moves before after (loads_parent index e) formed = IsFormed-steps _ _ before after (says-nothing _ (λ view name value. refl)) e formed
IsFormed-moves before after (stores_side e) formed = IsFormed-steps _ _ before after (says-nothing _ (λ view name value. refl)) e formed
IsFormed-moves before after (stores_last_side e) formed = IsFormed-steps _ _ before after (record { said = moves-said }) e formed

IsFormed-removals : (before after : Core) → RemovalEvent before after → IsFormed before → IsFormed after
IsFormed-removals before after (removes e) formed = IsFormed-steps _ _ before after (record { said = λ view name value. removes-said name }) e formed
IsFormed-removals before after (clears_entry e) formed = IsFormed-steps _ _ before after (says-nothing _ (λ view name value. refl)) e formed
IsFormed-removals before after (clears_location e) formed = IsFormed-steps _ _ before after (says-nothing _ (λ view name value. refl)) e formed

pub IsFormed-event : (before after : Core) → Event before after → IsFormed before → IsFormed after
IsFormed-event before after (opens_pass e) formed = IsFormed-opens before after e formed
IsFormed-event before after (splits_visitor e) formed = IsFormed-visits before after e formed
IsFormed-event before after (joins_visitor e) formed = IsFormed-joins before after e formed
IsFormed-event before after (looks e) formed = IsFormed-steps _ _ before after (says-nothing _ (λ view name value. refl)) e formed
IsFormed-event before after (of_locks e) formed = IsFormed-locks before after e formed
IsFormed-event before after (of_lists e) formed = IsFormed-lists before after e formed
IsFormed-event before after (of_bodies e) formed = IsFormed-bodies before after e formed
IsFormed-event before after (of_batches e) formed = IsFormed-batches before after e formed
IsFormed-event before after (of_pool e) formed = IsFormed-pool before after e formed
IsFormed-event before after (of_walks e) formed = IsFormed-walks before after e formed
IsFormed-event before after (of_moves e) formed = IsFormed-moves before after e formed
IsFormed-event before after (of_removals e) formed = IsFormed-removals before after e formed
IsFormed-event before after (of_updates e) formed = update-case before after (λ asks kind none made. IsFormed-steps asks kind before after (says-nothing kind none) made formed) e

-- the only seat of the opening
opening-only : (c : Config) (seat : ℕ) (view : View) → IsViewAt (opening c) seat view → (seat ≡ 0) × (blank_view c (Pass 0 (c.passes - 1)) ≡ view)
opening-only c zero view at = (refl, some-injective _ view at)
opening-only c (suc seat) view at = absurd (some-ne-none view (sym at))

pub IsFormed-opening : (c : Config) → IsConfig c → IsFormed (opening c)
IsFormed-opening c sizes = record {
  sizes = sizes;
  items = All-nil (IsSoundItem c);
  views = λ seat view at unspent.
      let only = opening-only c seat view at in
      let some_pass = sizes.passes in
      subst (λ (v : View). IsSoundView c [] v) only.1 (blank-sound c [] 0 (c.passes - 1) (omega arith));
  apart = λ seat other view second at at_other ne.
      absurd (ne ((opening-only c seat view at).0 ∙ sym (opening-only c other second at_other).0));
}

pub IsFormed-run : (first last : Core) → Run first last → IsFormed first → IsFormed last
IsFormed-run first last begins formed = formed
IsFormed-run first last (goes_on {last = middle} run event) formed = IsFormed-event middle last event (IsFormed-run first middle run formed)
