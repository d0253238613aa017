-- The last steps of an update: bodies that were placed are promoted, readers are waited for, and what is left of the old
-- trees is given back. With the reader load that finds the last reader gone, the superseded nodes of slots are to be given
-- back (from superseded to returning), those of main trees are spare; a node that is given back is free (from returning to
-- free), and at the end so are the nodes that were not used (from owned to spare).
use Rattle.std.specs.Prelude.{◌≡◌, ◌≢◌, ℕ, suc, ◌-◌, ◌%◌, ◌==◌, ◌&&◌, ◌||◌, Bool, true, false, not, if◌then◌else◌, List, [], ◌∷◌, ◌++◌, length, map, Contains, Some, None}
use Rattle.std.specs.List.{range_with_len, list_any}
use Rattle.word_map.specs.declared.config.Config.{Config}
use Rattle.word_map.specs.declared.name.Name.{Name}
use Rattle.word_map.specs.declared.name.Name.TheVariants.{LocA, LocB, Child, PoolHead, PoolNext, Reader, Update, Arena}
use Rattle.word_map.specs.Names.{stripe_of, pool_lock}
use Rattle.core_state.specs.declared.item.Load.{Load}
use Rattle.core_state.specs.declared.view.Mode.TheVariants.{Write}
use Rattle.core_state.specs.declared.view.Task.TheVariants.{Nothing}
use Rattle.core_state.specs.declared.view.Waiting.{Waiting}
use Rattle.core_state.specs.declared.view.Rebuild.{Rebuild}
use Rattle.core_state.specs.declared.view.View.{View}
use Rattle.core_state.specs.Names.{same_name}
use Rattle.core_state.specs.View.{Holds, known_word}
use Rattle.core_state.specs.Nodes.{nodes_in}
use Rattle.core_state.specs.Operation.{load, store}
use Rattle.core_state.specs.Kind.{Kind}
use Rattle.core_state.specs.Lists.{with_task}
use Rattle.core_state.specs.Pool.{HasPool, one_given}
use Rattle.core_state.specs.Batches.{written_outside}
use Rattle.core_state.specs.Walking.{waiting, pushed}
use Rattle.core_state.specs.Moving.{IsSettled}
use Rattle.core_state.specs.Noting.{with_update}

-- ---- promotion

-- all main words are exchanged, and all merged slots cleared
pub record IsPublishing (c : Config) (r : Rebuild) : Type 0 where
  pub all_swapped : length r.swapped ≡ c.layers
  pub all_cleared : r.cleared ≡ length r.merged

-- the body was placed, and has two locations still
pub record IsToPromote (view : View) (index : ℕ) : Type 0 where
  pub r : Rebuild
  pub update : view.rebuild ≡ Some r
  pub published : IsPublishing view.config r
  pub placed : Contains r.placed index
  pub unpromoted : ¬ Contains r.promoted index
  pub idle : view.call.task ≡ Nothing
  pub stripe : Holds view (stripe_of view.config index) Write

-- promoting a body stores its second location as its first
pub record MayPromote (view : View) (name : Name) (value second : ℕ) : Type 0 where
  pub index : ℕ
  pub names : name ≡ LocA index
  pub to_promote : IsToPromote view index
  pub settled : IsSettled view index
  pub has_second : known_word view (LocB index) ≢ 0
  pub as_second : value ≡ known_word view (LocB index)

-- Kind 49, promote a body
abbrev pub promote : Kind
promote = record {
  operation = store;
  entry = λ view name value. None;
  leaves = λ view name found first second. view;
}

-- and then clears the second
pub record MayClearSecond (view : View) (name : Name) (value second : ℕ) : Type 0 where
  pub index : ℕ
  pub names : name ≡ LocB index
  pub to_promote : IsToPromote view index
  pub settled : IsSettled view index
  pub has_second : known_word view (LocB index) ≢ 0
  pub same : known_word view (LocA index) ≡ known_word view (LocB index)
  pub none : value ≡ 0

abbrev pub with_promoted : ℕ → Rebuild → Rebuild
with_promoted index r = record r { promoted = r.promoted ++ index ∷ [] }

abbrev pub promoted_by : View → Name → View
promoted_by view (LocB index) = with_update (with_promoted index) view
promoted_by view name = view

-- Kind 50, clear the second location of a body that is promoted
abbrev pub clear_second : Kind
clear_second = record {
  operation = store;
  entry = λ view name value. None;
  leaves = λ view name found first second. promoted_by view name;
}

-- a body that was placed may have been taken out since: it has no second location any more
pub record MayFindSecond (view : View) (name : Name) (first second : ℕ) : Type 0 where
  pub index : ℕ
  pub names : name ≡ LocB index
  pub to_promote : IsToPromote view index

-- Kind 15, load the second location of a body to promote it; where that is 0, nothing is left to do
abbrev pub find_second : Kind
find_second = record {
  operation = load;
  entry = λ view name value. None;
  leaves = λ view name found first second. if found == 0 then promoted_by view name else view;
}

-- ---- readers

pub record MayLoadReader (view : View) (name : Name) (first second : ℕ) : Type 0 where
  pub number : ℕ
  pub r : Rebuild
  pub names : name ≡ Reader number
  pub update : view.rebuild ≡ Some r
  pub published : IsPublishing view.config r
  pub unreclaimed : r.is_reclaimed ≡ false
  pub idle : view.call.task ≡ Nothing

-- the loads of the word of a pass show that it does not walk, or that it has ended the walk that it was in: one value is
-- even, or two are not the same
abbrev pub is_of_reader : ℕ → Load → Bool
is_of_reader number l = same_name l.name (Reader number)

abbrev pub differs_from : ℕ → Load → Load → Bool
differs_from number a b = is_of_reader number b && not (b.value == a.value)

abbrev pub shows_off : ℕ → List Load → Load → Bool
shows_off number readers l = is_of_reader number l && ((l.value % 2 == 0) || list_any (differs_from number l) readers)

abbrev pub is_seen_off : List Load → ℕ → Bool
is_seen_off readers number = list_any (shows_off number readers) readers

-- each pass is seen off, and each body that was placed is promoted: nobody reaches a superseded node any more
abbrev pub are_all_promoted : Rebuild → Bool
are_all_promoted r = not (list_any (λ i. not (list_any (λ j. j == i) r.promoted)) r.placed)

abbrev pub is_unreached : Config → Rebuild → Bool
is_unreached c r = are_all_promoted r && not (list_any (λ number. not (is_seen_off r.readers number)) (range_with_len 0 c.passes))

-- then the merged trees are to be given back, from their roots on
abbrev pub with_tops : Rebuild → Rebuild
with_tops r = record r { is_reclaimed = true; returning = map (λ m. waiting m.root 1) r.merged }

abbrev pub reclaimed_if : Bool → Rebuild → Rebuild
reclaimed_if test r = if test then with_tops r else r

abbrev pub with_reader : Config → Name → ℕ → Rebuild → Rebuild
with_reader c name found r =
    let next : Rebuild = record r { readers = r.readers ++ record { name = name; value = found } ∷ [] } in
    reclaimed_if (is_unreached c next) next

-- Kinds 51 and 52, load a reader, for the first time or again
abbrev pub load_reader : Kind
load_reader = record {
  operation = load;
  entry = λ view name value. None;
  leaves = λ view name found first second. with_update (with_reader view.config name found) view;
}

-- ---- nodes are given back

-- the node is the next one to be given back, as a top of what is left
pub record IsNextToReturn (view : View) (node : ℕ) : Type 0 where
  pub r : Rebuild
  pub level : ℕ
  pub rest : List Waiting
  pub update : view.rebuild ≡ Some r
  pub first : r.returning ≡ waiting node level ∷ rest

pub record MayLoadReturned (view : View) (name : Name) (first second : ℕ) : Type 0 where
  pub node : ℕ
  pub child : ℕ
  pub names : name ≡ Child node child
  pub lock : Holds view (pool_lock view.config) Write
  pub next : IsNextToReturn view node

-- Kind 55, load a child of a node that is to be given back
abbrev pub load_returned : Kind
load_returned = record {
  operation = load;
  entry = λ view name value. None;
  leaves = λ view name found first second. view;
}

-- storing its link
pub record MayLinkReturned (view : View) (name : Name) (value second : ℕ) : Type 0 where
  pub node : ℕ
  pub names : name ≡ PoolNext node
  pub pool : HasPool view
  pub next : IsNextToReturn view node
  pub link : value ≡ known_word view PoolHead

-- Kind 10, store a link of the pool for a node of a merged tree
abbrev pub link_returned : Kind
link_returned = record {
  operation = store;
  entry = λ view name value. None;
  leaves = λ view name found first second. view;
}

-- and then the head
pub record MayGiveReturned (view : View) (name : Name) (value second : ℕ) : Type 0 where
  pub node : ℕ
  pub names : name ≡ PoolHead
  pub pool : HasPool view
  pub next : IsNextToReturn view node
  pub link : known_word view (PoolNext node) ≡ known_word view PoolHead
  pub head : value ≡ suc node

-- its children that are nodes are tops in its place, the last one first
abbrev pub child_pushed : (Name → ℕ) → ℕ → ℕ → ℕ → List Waiting → List Waiting
child_pushed word node level k tops = let x = word (Child node k) in if x == 0 then tops else pushed level x tops

abbrev pub children_pushed : (Name → ℕ) → ℕ → ℕ → List Waiting → List Waiting
children_pushed word node level tops =
    child_pushed word node level 3 (child_pushed word node level 2 (child_pushed word node level 1 (child_pushed word node level 0 tops)))

abbrev pub tops_after : (Name → ℕ) → List Waiting → List Waiting
tops_after word [] = []
tops_after word (w ∷ rest) = children_pushed word w.node w.level rest

abbrev pub returned_view : View → View
returned_view view = with_update (λ r. record r { returning = tops_after (known_word view) r.returning }) (with_task view (one_given view.call.task))

-- Kind 11, store the head of the pool with a node of a merged tree
abbrev pub give_returned : Kind
give_returned = record {
  operation = store;
  entry = λ view name value. None;
  leaves = λ view name found first second. returned_view view;
}

-- ---- the end

-- all is published, promoted and given back
pub record IsAtEnd (view : View) (r : Rebuild) (old : ℕ) : Type 0 where
  pub update : view.rebuild ≡ Some r
  pub arena : r.arena ≡ Some old
  pub published : IsPublishing view.config r
  pub promoted : (index : ℕ) → Contains r.placed index → Contains r.promoted index
  pub reclaimed : r.is_reclaimed ≡ true
  pub none_left : r.returning ≡ []

pub record MaySwitchArena (view : View) (name : Name) (value second : ℕ) : Type 0 where
  pub r : Rebuild
  pub old : ℕ
  pub names : name ≡ Arena
  pub ends : IsAtEnd view r old
  pub unswitched : r.is_switched ≡ false
  pub other : value ≡ 1 - old

-- Kind 53, switch arenas
abbrev pub switch_arena : Kind
switch_arena = record {
  operation = store;
  entry = λ view name value. None;
  leaves = λ view name found first second. with_update (λ r. record r { is_switched = true }) view;
}

pub record MayEndUpdate (view : View) (name : Name) (value second : ℕ) : Type 0 where
  pub r : Rebuild
  pub old : ℕ
  pub names : name ≡ Update
  pub ends : IsAtEnd view r old
  pub idle : view.call.task ≡ Nothing
  pub switched : r.is_switched ≡ true
  pub none : value ≡ 0

-- Kind 54, end an update
abbrev pub end_update : Kind
end_update = record {
  operation = store;
  entry = λ view name value. None;
  leaves = λ view name found first second. record view { rebuild = None; written = written_outside (nodes_in view.rebuild) view.written };
}
