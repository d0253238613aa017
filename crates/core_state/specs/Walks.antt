-- The steps of a walk through the trees: it begins, loads slots, main words, children and sides of bounds, and ends.
use Rattle.std.specs.Prelude.{◌≡◌, ℕ, zero, true, false, List, [], ◌∷◌, ◌++◌, map, length, None}
use Rattle.std.specs.List.{range_with_len}
use Rattle.word_map.specs.declared.name.Name.{Name}
use Rattle.word_map.specs.declared.name.Name.TheVariants.{Child, Bound, Main, Slot, Reader}
use Rattle.core_state.specs.declared.item.Load.{Load}
use Rattle.core_state.specs.declared.view.Walk.{Walk}
use Rattle.core_state.specs.declared.view.View.{View}
use Rattle.core_state.specs.Log.{history}
use Rattle.core_state.specs.View.{IsPass, known_word}
use Rattle.core_state.specs.Operation.{load, fetch_add}
use Rattle.core_state.specs.Kind.{Kind}

-- ---- beginning and end

-- beginning a walk asks that the pass does not walk; its own word is then odd
pub record MayBegin (view : View) (name : Name) (summand second : ℕ) : Type 0 where
  pub number : ℕ
  pub names : name ≡ Reader number
  pub pass : IsPass view number
  pub one : summand ≡ 1
  pub rests : view.walk.is_on ≡ false

-- a walk that has read nothing; it is to find what is there from the history on that is known when it begins
abbrev pub new_walk : View → Walk
new_walk view = record { is_on = true; from = length (history view.known); loads = []; bound = [] }

-- Kind 28, begin a walk
abbrev pub begin_walk : Kind
begin_walk = record {
  operation = fetch_add;
  entry = λ view name value. None;
  leaves = λ view name found first second. record view { walk = new_walk view };
}

-- ending a walk asks that the pass walks; whether all was read is a fact of the query, which no view has
pub record MayEnd (view : View) (name : Name) (summand second : ℕ) : Type 0 where
  pub number : ℕ
  pub names : name ≡ Reader number
  pub pass : IsPass view number
  pub one : summand ≡ 1
  pub walks : view.walk.is_on ≡ true

-- Kind 29, end a walk
abbrev pub end_walk : Kind
end_walk = record {
  operation = fetch_add;
  entry = λ view name value. None;
  leaves = λ view name found first second. record view { walk = record view.walk { is_on = false } };
}

-- ---- loads: that the word is the next one of the walk is a fact of the query too

pub record MayWalkSlot (view : View) (name : Name) (first second : ℕ) : Type 0 where
  pub layer : ℕ
  pub slot : ℕ
  pub names : name ≡ Slot layer slot
  pub walks : view.walk.is_on ≡ true

pub record MayWalkMain (view : View) (name : Name) (first second : ℕ) : Type 0 where
  pub layer : ℕ
  pub names : name ≡ Main layer
  pub walks : view.walk.is_on ≡ true

pub record MayWalkChild (view : View) (name : Name) (first second : ℕ) : Type 0 where
  pub node : ℕ
  pub child : ℕ
  pub names : name ≡ Child node child
  pub walks : view.walk.is_on ≡ true

pub record MayWalkBound (view : View) (name : Name) (first second : ℕ) : Type 0 where
  pub node : ℕ
  pub child : ℕ
  pub side : ℕ
  pub names : name ≡ Bound node child side
  pub walks : view.walk.is_on ≡ true

-- a load more of the walk
abbrev pub loads_more : Walk → Name → ℕ → List Load
loads_more walk name found = walk.loads ++ record { name = name; value = found } ∷ []

abbrev pub with_walk_load : View → Name → ℕ → View
with_walk_load view name found = record view { walk = record view.walk { loads = loads_more view.walk name found } }

-- Kind 30, walk: load a slot
abbrev pub walk_slot : Kind
walk_slot = record {
  operation = load;
  entry = λ view name value. None;
  leaves = λ view name found first second. with_walk_load view name found;
}

-- Kind 31, walk: load a main word
abbrev pub walk_main : Kind
walk_main = record {
  operation = load;
  entry = λ view name value. None;
  leaves = λ view name found first second. with_walk_load view name found;
}

-- Kind 32, walk: load a child
abbrev pub walk_child : Kind
walk_child = record {
  operation = load;
  entry = λ view name value. None;
  leaves = λ view name found first second. with_walk_load view name found;
}

-- the bound that is being read, as it stood when its first side was read
abbrev pub bound_known : View → ℕ → ℕ → List ℕ
bound_known view n k = map (λ q. known_word view (Bound n k q)) (range_with_len 0 6)

abbrev pub bound_begun : View → Name → List ℕ
bound_begun view (Bound n k zero) = bound_known view n k
bound_begun view _ = view.walk.bound

abbrev pub with_side_load : View → Name → ℕ → View
with_side_load view name found = record view { walk = record view.walk { loads = loads_more view.walk name found; bound = bound_begun view name } }

-- Kind 33, walk: load a side of a bound
abbrev pub walk_bound : Kind
walk_bound = record {
  operation = load;
  entry = λ view name value. None;
  leaves = λ view name found first second. with_side_load view name found;
}
