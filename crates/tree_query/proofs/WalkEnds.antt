-- What the beginning and the end of a walk leave: one store of the own reader word, which nobody has for itself; the walk is
-- new, or has ended, and all else is as it was.
use mathlib.Core.Logic.{∥∥₁_elim}
use Rattle.std.proofs.Props.{props}
use Rattle.std.proofs.Common.{◌≡◌, ℕ, ◌+◌, ◌%◌, ◌^◌, ◌<◌, ◌≤◌, List, [], ◌∷◌, ◌++◌, append_assoc, Some, None, length, true, false, refl, ap, sym, ◌∙◌, subst, arith}
use Rattle.std.specs.Prelude.{option_map, option_to_list}
use Rattle.std.proofs.lemmas.List.Elements.{filter_map-append}
use Rattle.word_map.specs.declared.config.Config.{Config}
use Rattle.word_map.specs.declared.name.Name.TheVariants.{Reader, LocA}
use Rattle.core_state.specs.declared.item.Item.{Item}
use Rattle.core_state.specs.declared.item.Store.{Store}
use Rattle.core_state.specs.declared.view.Walk.{Walk}
use Rattle.core_state.specs.declared.view.View.{View}
use Rattle.core_state.specs.Log.{history, made_by}
use Rattle.core_state.specs.View.{IsPass}
use Rattle.core_state.specs.Formed.{HasNumbers}
use Rattle.core_state.specs.Guards.{Owns, IsBodyWord, IsQuiet}
use Rattle.core_state.specs.Quietly.{KnowsQuietly}
use Rattle.core_state.specs.Operation.{Operation, fetch_add, stored_by}
use Rattle.core_state.specs.Event.{of_walks, begins_walk, ends_walk}
use Rattle.core_state.specs.Kind.{Kind, Asking, Step, learned, found_by, item_of, gained_by, log_after}
use Rattle.core_state.specs.ReadersCounted.{reader_scope}
use Rattle.core_state.specs.Walking.{Query, Follows, position_of, start as first_place}
use Rattle.core_state.specs.Walks.{MayBegin, begin_walk, MayEnd, end_walk}
use Rattle.core_state.proofs.Forming.{unspent_pass, pass_role}
use Rattle.core_state.proofs.Quiet.{KnowsQuietly-trans, in_first, in_second, append_cut, one_cut}
use Rattle.core_guard.proofs.Growing.{length-grown}
use Rattle.core_guard.proofs.Holders.{by_name}
use Rattle.core_guard.proofs.Seats.{seat-has}
use Rattle.pass_table.specs.Bodies.{IsCurrent}
use Rattle.pass_table.specs.Stepping.{step_by, Stepped}
use Rattle.pass_table.specs.Calls.{Advances, StoresWord}
use Rattle.pass_table.specs.Turning.{AtMostOneStep, MadeBy}
use Rattle.pass_table.proofs.Calling.{adds-none, stepped-stores}
use Rattle.pass_table.proofs.Bodies.{stepped-current}
use Rattle.pass_table.proofs.Turning.{one-step, made-none}
use Rattle.pass_table.proofs.Working.{tells-stored}
use Rattle.tree_query.specs.Walking.{HasWalked, IsWalkingAt, reader_store, BeginsWalk, EndsWalk}
use Rattle.tree_query.proofs.WalkOn.{IsOfWalk, walk-quiet, walk-quietly}

-- nobody has a reader word for itself, and it is no word of a body
reader-quiet : (c : Config) (view : View) (first : List Item) (item : Item) (number : ℕ) → item.name ≡ Reader number → IsQuiet c view first item
reader-quiet c view first item number names = record {
  others = λ owns. by_name c view (Reader number) (subst (Owns c view) names owns);
  body = λ i mode holds h. absurd (subst (IsBodyWord i) names h);
  location = λ i mode holds e. let same : Reader number ≡ LocA i = sym names ∙ e in absurd cc;
}

-- ---- the reader word is counted up

module _ (asks : Asking) (kind : Kind) (view next : View) (number found : ℕ) (stepped : Stepped asks kind view (Reader number) 1 0 found next) (of_walk : IsOfWalk kind)
    (adds : kind.operation ≡ fetch_add) (silent : (value : ℕ) → kind.entry view (Reader number) value ≡ None) where
  abbrev made : Step
  made = step_by stepped.seat view stepped.number (Reader number) 1 0

  abbrev item : Item
  item = item_of kind made ((found_by stepped.before made + 1) % 2 ^ 64)

  gained : gained_by kind stepped.before made ≡ item ∷ []
  gained = ap (λ (o : Operation). option_to_list (option_map (item_of kind made) (stored_by o (found_by stepped.before made) 1 0))) adds

  advanced : Advances view next (item ∷ [])
  advanced = stepped-stores asks kind view next (Reader number) 1 0 found stepped item gained refl

  abbrev counted : ℕ
  counted = (found + 1) % 2 ^ 64

  stores-reader : StoresWord view next (Reader number) counted
  stores-reader = record { item = item; named = refl; is = ap (λ (f : ℕ). (f + 1) % 2 ^ 64) (sym stepped.finds); advances = advanced }

  abbrev Walked : Walk
  Walked = (kind.leaves (learned stepped.before made) (Reader number) (found_by stepped.before made) 1 0).walk

  pub count-left : next.walk ≡ Walked
  count-left = ap (λ (v : View). v.walk) stepped.leaves

  abbrev Mid : View
  Mid = record view { walk = next.walk }

  came-quietly : KnowsQuietly view next
  came-quietly = record {
    since = advanced.since ++ item ∷ [];
    known = advanced.known ∙ append_assoc view.known advanced.since (item ∷ []);
    quiet = λ early later it parts.
        elim (append_cut advanced.since (item ∷ []) early later it parts) [
          | in_first rest p ↦ (advanced.others early rest it p).quiet
          | in_second front p q ↦ reader-quiet view.config view (view.known ++ early) it number (ap (λ (x : Item). x.name) (one_cut item it front later q))
        ];
  }

  left-of-walk : next ≡ record Mid { known = next.known; joined = None }
  left-of-walk =
      let after = log_after kind stepped.before made in
      stepped.leaves
      ∙ (ap (λ (v : View). record v { config = view.config; role = view.role; known = after; joined = None }) (of_walk (learned stepped.before made) (Reader number) (found_by stepped.before made) 1 0)
      ∙ (λ i. record view { known = sym (ap (λ (v : View). v.known) stepped.leaves) i; joined = None; walk = sym count-left i }))

  pub count-walked : (start : View) (told : List Store) → HasWalked start view told → HasWalked start next (told ++ reader_store number found ∷ [])
  count-walked start told h =
      let role : view.role ≡ start.role = ap (λ (v : View). v.role) h.left in
      let started : View = record start { walk = next.walk } in
      let mid : Mid ≡ record started { known = Mid.known; joined = Mid.joined } = ap (λ (v : View). record v { walk = next.walk }) h.left in
      let came : KnowsQuietly started Mid = record {
        since = h.quiet.since;
        known = h.quiet.known;
        quiet = λ early later it parts. walk-quiet start.config start next.walk (start.known ++ early) it (h.quiet.quiet early later it parts);
      } in
      record {
        adds = adds-none start view next [] role h.adds (made-none asks kind view next (Reader number) 1 0 found stepped silent);
        tells = tells-stored start view next told (Reader number) counted role h.tells stores-reader refl;
        quiet = walk-quietly started next start.walk (KnowsQuietly-trans started Mid next mid came (walk-quietly view next next.walk came-quietly));
        left =
            left-of-walk
            ∙ (ap (λ (v : View). record v { walk = next.walk; known = next.known; joined = None }) h.left
            ∙ (λ i. record start { known = next.known; joined = sym (ap (λ (v : View). v.joined) left-of-walk) i; walk = next.walk }));
      }

-- ---- the beginning

module _ (view next : View) (number found : ℕ) (stepped : Stepped MayBegin begin_walk view (Reader number) 1 0 found next) where
  pub begun-walked : (start : View) (told : List Store) → HasWalked start view told → HasWalked start next (told ++ reader_store number found ∷ [])
  begun-walked = count-walked MayBegin begin_walk view next number found stepped (λ v n f a b. refl) refl (λ value. refl)

  -- it has read nothing, whatever the query
  pub begun-walking : (start : View) (told : List Store) → HasWalked start view told → (query : Query) → IsWalkingAt query start next (first_place start.config query)
  begun-walking start told h query =
      let left = count-left MayBegin begin_walk view next number found stepped (λ v n f a b. refl) refl (λ value. refl) in
      let loads : next.walk.loads ≡ [] = ap (λ (w : Walk). w.loads) left in
      let parts : history stepped.before.log ≡ history start.known ++ history (h.adds.since ++ stepped.since) =
      ap history (stepped.learns ∙ (ap (λ (l : List Item). l ++ stepped.since) h.adds.known ∙ append_assoc start.known h.adds.since stepped.since)) ∙ filter_map-append made_by start.known (h.adds.since ++ stepped.since)
      in
      let longer = length-grown (history start.known) (history (h.adds.since ++ stepped.since)) in
      let now = ap length parts in
      record {
        on = ap (λ (w : Walk). w.is_on) left;
        from = subst (λ (n : ℕ). length (history start.known) ≤ n) (sym (ap (λ (w : Walk). w.from) left)) (omega arith);
        follows = subst (Follows start.config query) (sym loads) tt;
        place = ap (position_of start.config query) loads;
      }

  pub begun-step : AtMostOneStep view next
  begun-step = one-step MayBegin begin_walk view next (Reader number) 1 0 found stepped (λ before after steps. of_walks (begins_walk steps))

  pub begun-made : MadeBy view next None
  begun-made = made-none MayBegin begin_walk view next (Reader number) 1 0 found stepped (λ value. refl)

  pub walk-begun : BeginsWalk view next number found
  walk-begun = record {
    now = stepped-current MayBegin begin_walk view next (Reader number) 1 0 found stepped;
    loads = ap (λ (w : Walk). w.loads) (count-left MayBegin begin_walk view next number found stepped (λ v n f a b. refl) refl (λ value. refl));
    walked = begun-walked;
    walking = begun-walking;
  }

-- ---- the end

module _ (view next : View) (number found : ℕ) (stepped : Stepped MayEnd end_walk view (Reader number) 1 0 found next) where
  pub ended-walked : (start : View) (told : List Store) → HasWalked start view told → HasWalked start next (told ++ reader_store number found ∷ [])
  ended-walked = count-walked MayEnd end_walk view next number found stepped (λ v n f a b. refl) refl (λ value. refl)

  -- it does not walk any more, and what it has read stays
  pub ended-walk : next.walk ≡ record view.walk { is_on = false }
  ended-walk = count-left MayEnd end_walk view next number found stepped (λ v n f a b. refl) refl (λ value. refl)

  -- the reader word is odd while its pass walks
  ended-odd : found % 2 ≡ 1
  ended-odd =
      let asked = stepped.allowed.asked in
      let names : Reader number ≡ Reader asked.number = asked.names in
      let same : asked.number ≡ number = cc in
      let own : IsPass view number = asked.pass ∙ ap Some same in
      subst (λ (word : ℕ). word % 2 ≡ 1) (sym stepped.finds)
      ((stepped.stands.laws.readers.odd number).1
      (seat-has reader_scope (λ p v. refl) stepped.before number (λ v. v.walk.is_on ≡ true) (record { seat = stepped.seat; view = view; at = stepped.allowed.at; pass = own; holds = asked.walks })))

  pub ended-step : AtMostOneStep view next
  ended-step = one-step MayEnd end_walk view next (Reader number) 1 0 found stepped (λ before after steps. of_walks (ends_walk steps))

  pub ended-made : MadeBy view next None
  ended-made = made-none MayEnd end_walk view next (Reader number) 1 0 found stepped (λ value. refl)

  pub walk-ended : EndsWalk view next number found
  walk-ended = record { now = stepped-current MayEnd end_walk view next (Reader number) 1 0 found stepped; odd = ended-odd; walked = ended-walked; walk = ended-walk }

-- ---- the own reader word is one of the world

number-now : (view : View) (number : ℕ) → IsPass view number → IsCurrent view → number < view.config.passes
number-now view number pass now =
    let sound = now.stands.formed.views now.seat view now.at (unspent_pass view.role number pass) in
    let role = pass_role view.role number pass in
    let below = subst (HasNumbers now.core.config.passes) role.1 sound.numbers in
    subst (λ (c : Config). number < c.passes) now.sizes (omega arith)

pub number-below : (view : View) (number : ℕ) → IsPass view number → ∥ IsCurrent view ∥₁ → number < view.config.passes
number-below view number pass current = ∥∥₁_elim current (hlevel props) (number-now view number pass)
