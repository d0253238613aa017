-- What a load of a walk leaves: the walk is one load further, and all else is as it was.
use Rattle.std.proofs.Common.{◌≡◌, ℕ, ◌≤◌, List, [], ◌∷◌, ◌++◌, Some, None, false, length, refl, ap, sym, ◌∙◌, subst}
use Rattle.word_map.specs.declared.config.Config.{Config}
use Rattle.word_map.specs.declared.name.Name.{Name}
use Rattle.core_state.specs.declared.item.Item.{Item}
use Rattle.core_state.specs.declared.item.Load.{Load}
use Rattle.core_state.specs.declared.item.Store.{Store}
use Rattle.core_state.specs.declared.view.Walk.{Walk}
use Rattle.core_state.specs.declared.view.View.{View}
use Rattle.core_state.specs.Log.{history}
use Rattle.core_state.specs.Guards.{Owns, by_lock, by_creation, by_batch, by_mark, by_node, by_update, IsQuiet}
use Rattle.core_state.specs.Quietly.{KnowsQuietly}
use Rattle.core_state.specs.Operation.{stores}
use Rattle.core_state.specs.Kind.{Kind, Asking, learned, found_by, log_after}
use Rattle.core_state.specs.Event.{of_walks, walks_slot, walks_main, walks_child, walks_bound}
use Rattle.core_state.specs.Walking.{Query, Position, next_word, advance, Follows, position_of}
use Rattle.core_state.specs.Walks.{MayWalkSlot, walk_slot, MayWalkMain, walk_main, MayWalkChild, walk_child, MayWalkBound, walk_bound}
use Rattle.core_state.proofs.Quiet.{KnowsQuietly-trans}
use Rattle.pass_table.specs.Stepping.{step_by, Stepped}
use Rattle.pass_table.specs.Knowing.{KnowsMore}
use Rattle.pass_table.specs.Turning.{AtMostOneStep, MadeBy}
use Rattle.pass_table.proofs.Knowing.{came-others}
use Rattle.pass_table.proofs.Calling.{loaded-all, adds-more}
use Rattle.pass_table.proofs.WorkLater.{tells-more}
use Rattle.pass_table.proofs.Bodies.{stepped-current}
use Rattle.pass_table.proofs.Turning.{one-step, made-by-step}
use Rattle.core_query.proofs.Replay.{position-more, follows-on}
use Rattle.tree_query.specs.Walking.{HasWalked, IsWalkingAt, WalksOn}

-- ---- whatever a pass walks, it has the same for itself

walk-owned : (c : Config) (view : View) (walk : Walk) (name : Name) → Owns c view name → Owns c (record view { walk = walk }) name
walk-owned c view walk name (by_lock lock mode holds e) = by_lock lock mode holds e
walk-owned c view walk name (by_creation i e h) = by_creation i e h
walk-owned c view walk name (by_batch batch among e) = by_batch batch among e
walk-owned c view walk name (by_mark batch m among marked h) = by_mark batch m among marked h
walk-owned c view walk name (by_node n among e) = by_node n among e
walk-owned c view walk name (by_update h) = by_update h

pub walk-quiet : (c : Config) (view : View) (walk : Walk) (first : List Item) (item : Item) → IsQuiet c view first item → IsQuiet c (record view { walk = walk }) first item
walk-quiet c view walk first item quiet = record { others = λ owns. quiet.others (walk-owned c (record view { walk = walk }) view.walk item.name owns); body = quiet.body; location = quiet.location }

pub walk-quietly : (view next : View) (walk : Walk) → KnowsQuietly view next → KnowsQuietly (record view { walk = walk }) next
walk-quietly view next walk came = record {
  since = came.since;
  known = came.known;
  quiet = λ early later item parts. walk-quiet view.config view walk (view.known ++ early) item (came.quiet early later item parts);
}

-- ---- a load of a walk

-- the kind changes the walk alone
abbrev pub IsOfWalk : Kind → Type 0
IsOfWalk kind = (view : View) (name : Name) (found first second : ℕ) → kind.leaves view name found first second ≡ record view { walk = (kind.leaves view name found first second).walk }

module _ (asks : Asking) (kind : Kind) (view next : View) (name : Name) (found : ℕ) (stepped : Stepped asks kind view name 0 0 found next) (of_walk : IsOfWalk kind)
    (loads : (word operand : ℕ) → stores kind.operation word operand ≡ false) where
  abbrev Mid : View
  Mid = record view { walk = next.walk }

  abbrev Walked : Walk
  Walked = (kind.leaves (learned stepped.before (step_by stepped.seat view stepped.number name 0 0)) name (found_by stepped.before (step_by stepped.seat view stepped.number name 0 0)) 0 0).walk

  pub walk-left : next.walk ≡ Walked
  walk-left = ap (λ (v : View). v.walk) stepped.leaves

  -- beside its walk it knows more
  load-more : KnowsMore Mid next
  load-more =
      let made = step_by stepped.seat view stepped.number name 0 0 in
      let after = log_after kind stepped.before made in
      record {
        since = stepped.since;
        known = loaded-all asks kind view next name 0 0 found stepped loads ∙ stepped.learns;
        others = λ early later item parts.
            let other = came-others asks kind view next name 0 0 found stepped early later item parts in
            record { foreign = other.foreign; quiet = walk-quiet view.config view next.walk (view.known ++ early) item other.quiet };
        rest =
            stepped.leaves
            ∙ (ap (λ (v : View). record v { config = view.config; role = view.role; known = after; joined = None }) (of_walk (learned stepped.before made) name (found_by stepped.before made) 0 0)
            ∙ (λ i. record view { known = sym (ap (λ (v : View). v.known) stepped.leaves) i; joined = None; walk = sym walk-left i }));
      }

  -- the walk has made no store and no entry, and all else stays
  pub load-walked : (start : View) (told : List Store) → HasWalked start view told → HasWalked start next told
  load-walked start told h =
      let more = load-more in
      let role : Mid.role ≡ start.role = ap (λ (v : View). v.role) h.left in
      let started : View = record start { walk = next.walk } in
      let mid : Mid ≡ record started { known = Mid.known; joined = Mid.joined } = ap (λ (v : View). record v { walk = next.walk }) h.left in
      let came : KnowsQuietly started Mid = record {
        since = h.quiet.since;
        known = h.quiet.known;
        quiet = λ early later item parts. walk-quiet start.config start next.walk (start.known ++ early) item (h.quiet.quiet early later item parts);
      } in
      let further : KnowsQuietly Mid next = record { since = more.since; known = more.known; quiet = λ early later item parts. (more.others early later item parts).quiet } in
      record {
        adds =
            adds-more start Mid next [] role
            (record { number = h.adds.number; pass = h.adds.pass; since = h.adds.since; known = h.adds.known; own = h.adds.own }) more;
        tells = tells-more start Mid next told role (record { number = h.tells.number; pass = h.tells.pass; since = h.tells.since; known = h.tells.known; told = h.tells.told }) more;
        quiet = walk-quietly started next start.walk (KnowsQuietly-trans started Mid next mid came further);
        left = more.rest ∙ (ap (λ (v : View). record v { walk = next.walk; known = next.known; joined = None }) h.left ∙ (λ i. record start { known = next.known; joined = sym (ap (λ (v : View). v.joined) more.rest) i; walk = next.walk }));
      }

  -- where it notes the load, the query has come one load further
  pub load-walking : (query : Query) (start : View) (at : Position) → view.config ≡ start.config → Walked.is_on ≡ view.walk.is_on → Walked.from ≡ view.walk.from
      → Walked.loads ≡ view.walk.loads ++ record { name = name; value = found_by stepped.before (step_by stepped.seat view stepped.number name 0 0) } ∷ []
      → IsWalkingAt query start view at → next_word at.rest at.spot ≡ Some name → IsWalkingAt query start next (advance query at (record { name = name; value = found }))
  load-walking query start at sizes on from notes h next_is =
      let new : Load = record { name = name; value = found } in
      let loaded : next.walk.loads ≡ view.walk.loads ++ new ∷ [] =
      ap (λ (w : Walk). w.loads) walk-left ∙ (notes ∙ (λ i. view.walk.loads ++ record { name = name; value = sym stepped.finds i } ∷ []))
      in
      let there : next_word (position_of start.config query view.walk.loads).rest (position_of start.config query view.walk.loads).spot ≡ Some name =
      subst (λ (p : Position). next_word p.rest p.spot ≡ Some name) (sym h.place) next_is
      in
      record {
        on = ap (λ (w : Walk). w.is_on) walk-left ∙ (on ∙ h.on);
        from = subst (λ (n : ℕ). length (history start.known) ≤ n) (sym (ap (λ (w : Walk). w.from) walk-left ∙ from)) h.from;
        follows = subst (Follows start.config query) (sym loaded) (follows-on start.config query view.walk.loads new h.follows there);
        place =
            ap (position_of start.config query) loaded
            ∙ (position-more start.config query view.walk.loads new ∙ ap (λ (p : Position). advance query p new) h.place);
      }

  -- all that it tells
  pub load-on : Walked.is_on ≡ view.walk.is_on → Walked.from ≡ view.walk.from
      → Walked.loads ≡ view.walk.loads ++ record { name = name; value = found_by stepped.before (step_by stepped.seat view stepped.number name 0 0) } ∷ [] → WalksOn view next name found
  load-on on from notes = record {
    now = stepped-current asks kind view next name 0 0 found stepped;
    on = ap (λ (w : Walk). w.is_on) walk-left ∙ on;
    loads = ap (λ (w : Walk). w.loads) walk-left ∙ (notes ∙ (λ i. view.walk.loads ++ record { name = name; value = sym stepped.finds i } ∷ []));
    walked = load-walked;
    walking = λ query start at sizes h next_is. load-walking query start at sizes on from notes h next_is;
  }

-- the four kinds of load
pub slot-on : (view next : View) (name : Name) (found : ℕ) → Stepped MayWalkSlot walk_slot view name 0 0 found next → WalksOn view next name found
slot-on view next name found stepped = load-on MayWalkSlot walk_slot view next name found stepped (λ v n f a b. refl) (λ word operand. refl) refl refl refl

pub main-on : (view next : View) (name : Name) (found : ℕ) → Stepped MayWalkMain walk_main view name 0 0 found next → WalksOn view next name found
main-on view next name found stepped = load-on MayWalkMain walk_main view next name found stepped (λ v n f a b. refl) (λ word operand. refl) refl refl refl

pub child-on : (view next : View) (name : Name) (found : ℕ) → Stepped MayWalkChild walk_child view name 0 0 found next → WalksOn view next name found
child-on view next name found stepped = load-on MayWalkChild walk_child view next name found stepped (λ v n f a b. refl) (λ word operand. refl) refl refl refl

pub side-on : (view next : View) (name : Name) (found : ℕ) → Stepped MayWalkBound walk_bound view name 0 0 found next → WalksOn view next name found
side-on view next name found stepped = load-on MayWalkBound walk_bound view next name found stepped (λ v n f a b. refl) (λ word operand. refl) refl refl refl

-- each is one step, and makes no entry
pub slot-step : (view next : View) (name : Name) (found : ℕ) → Stepped MayWalkSlot walk_slot view name 0 0 found next → AtMostOneStep view next
slot-step view next name found stepped = one-step MayWalkSlot walk_slot view next name 0 0 found stepped (λ before after steps. of_walks (walks_slot steps))

pub slot-made : (view next : View) (name : Name) (found : ℕ) → Stepped MayWalkSlot walk_slot view name 0 0 found next → MadeBy view next None
slot-made view next name found stepped = made-by-step MayWalkSlot walk_slot view next name 0 0 found stepped

pub main-step : (view next : View) (name : Name) (found : ℕ) → Stepped MayWalkMain walk_main view name 0 0 found next → AtMostOneStep view next
main-step view next name found stepped = one-step MayWalkMain walk_main view next name 0 0 found stepped (λ before after steps. of_walks (walks_main steps))

pub main-made : (view next : View) (name : Name) (found : ℕ) → Stepped MayWalkMain walk_main view name 0 0 found next → MadeBy view next None
main-made view next name found stepped = made-by-step MayWalkMain walk_main view next name 0 0 found stepped

pub child-step : (view next : View) (name : Name) (found : ℕ) → Stepped MayWalkChild walk_child view name 0 0 found next → AtMostOneStep view next
child-step view next name found stepped = one-step MayWalkChild walk_child view next name 0 0 found stepped (λ before after steps. of_walks (walks_child steps))

pub child-made : (view next : View) (name : Name) (found : ℕ) → Stepped MayWalkChild walk_child view name 0 0 found next → MadeBy view next None
child-made view next name found stepped = made-by-step MayWalkChild walk_child view next name 0 0 found stepped

pub side-step : (view next : View) (name : Name) (found : ℕ) → Stepped MayWalkBound walk_bound view name 0 0 found next → AtMostOneStep view next
side-step view next name found stepped = one-step MayWalkBound walk_bound view next name 0 0 found stepped (λ before after steps. of_walks (walks_bound steps))

pub side-made : (view next : View) (name : Name) (found : ℕ) → Stepped MayWalkBound walk_bound view name 0 0 found next → MadeBy view next None
side-made view next name found stepped = made-by-step MayWalkBound walk_bound view next name 0 0 found stepped
