-- A walk that has read nothing: it reaches no node, and all words that it is to read are still to be read.
use Rattle.std.proofs.Common.{◌≡◌, ◌≢◌, ◌⊎◌, ℕ, List, [], ◌∷◌, ◌++◌, refl, ap, subst, inl, inr, arith}
use Rattle.std.specs.Prelude.{Contains, flat_map, map}
use Rattle.std.specs.List.{range_with_len}
use Rattle.std.proofs.lemmas.Option.{same_Some}
use Rattle.std.proofs.lemmas.List.Elements.{Contains-append_left, Contains-append_right, Contains-append_cases, Contains-push}
use Rattle.word_map.specs.declared.config.Config.{Config}
use Rattle.word_map.specs.declared.name.Name.{Name}
use Rattle.word_map.specs.declared.name.Name.TheVariants.{Child, Bound, Main, Slot}
use Rattle.core_state.specs.Encoding.{layer_of}
use Rattle.core_state.specs.Nodes.{Nodes}
use Rattle.core_state.specs.Scope.{Sight}
use Rattle.core_state.specs.Walking.{Query, Spot, resting, start, words_of_layer}
use Rattle.core_state.specs.WalksLead.{ReadsMainLast}
use Rattle.core_state.specs.ReadersCounted.{ReachesBySpot, the_node, the_node_of_bound, by_child, by_next_child, by_part, Reaches, by_stack, by_spot, IsWalkedAt, WalkStays, ReadsInSpace}
use Rattle.core_state.proofs.Beginning.{cases_cons}
use Rattle.core_state.proofs.Opening.{none_in, only}

-- ---- a walk that has read nothing reaches nothing

resting-none : (word : Name → ℕ) (x : ℕ) (spot : Spot) → spot ≡ resting → ¬ ReachesBySpot word x spot
resting-none word x spot e (the_node level k) = absurd cc
resting-none word x spot e (the_node_of_bound level k y read) = absurd cc
resting-none word x spot e (by_child n level k h) = absurd cc
resting-none word x spot e (by_next_child n level k y read h) = absurd cc
resting-none word x spot e (by_part n level k y z read same h) = absurd cc

module _ (config : Config) (query : Query) (word : Name → ℕ) where
  reaches-none : (x : ℕ) → ¬ Reaches word (start config query) x
  reaches-none x (by_stack w among below) = none_in w among
  reaches-none x (by_spot h) = resting-none word x resting refl h

  walked-none : (x : ℕ) → ¬ IsWalkedAt [] x
  walked-none x walked = none_in (record { name = Child x 0; value = walked.0 }) walked.1

  pub known-none : (x : ℕ) → ¬ (Reaches word (start config query) x ⊎ IsWalkedAt [] x)
  known-none x (inl reaches) = reaches-none x reaches
  known-none x (inr walked) = walked-none x walked

  pub start-stays : (nodes : Nodes) → WalkStays nodes word [] (start config query)
  start-stays nodes = record {
    live = λ x reaches. absurd (reaches-none x reaches);
    apart = λ i j d below inside. absurd (omega arith);
    ahead = λ w among h. none_in w among;
    behind = λ w n among hand below. none_in w among;
    levels = λ w among. absurd (none_in w among);
    read = λ x name from home among. known-none x from;
    visited = λ n walked. absurd (walked-none n walked);
  }

pub some-last : {X : Type 0} (before later : List X) (x : X) → [] ≢ before ++ x ∷ later
some-last [] later x e = absurd cc
some-last (y ∷ before) later x e = absurd cc

pub start-space : (s : Sight) (query : Query) → ReadsInSpace s [] (start s.config query)
start-space s query = record {
  sides = λ before later n k q value e. absurd (some-last before later (record { name = Bound n k q; value = value }) e);
  part = λ n level k x read e. absurd cc;
}

-- ---- where a slot of a layer is to be read, so is its main word

slot_of : (layer l t : ℕ) (slots : List ℕ) → Contains (map (Slot layer) slots) (Slot l t) → layer ≡ l
slot_of layer l t [] h = absurd (none_in (Slot l t) h)
slot_of layer l t (x ∷ xs) h =
    elim (cases_cons (Slot layer x) (map (Slot layer) xs) (Slot l t) h) [
      | inl same ↦ same_Some layer l (ap layer_of same)
      | inr rest ↦ slot_of layer l t xs rest
    ]

asks_main : (c : Config) (layer l t : ℕ) → Contains (words_of_layer c layer) (Slot l t) → Contains (words_of_layer c layer) (Main l)
asks_main c layer l t h =
    elim (Contains-append_cases (map (Slot layer) (range_with_len 0 c.slots)) (Main layer ∷ []) (Slot l t) h) [
      | inl slot ↦
          subst (λ (k : ℕ). Contains (words_of_layer c layer) (Main k)) (slot_of layer l t (range_with_len 0 c.slots) slot)
          (Contains-push (map (Slot layer) (range_with_len 0 c.slots)) (Main layer))
      | inr main ↦ let same = only (Main layer) (Slot l t) main in absurd cc
    ]

main_among : (c : Config) (l t : ℕ) (layers : List ℕ) → Contains (flat_map (words_of_layer c) layers) (Slot l t) → Contains (flat_map (words_of_layer c) layers) (Main l)
main_among c l t [] h = absurd (none_in (Slot l t) h)
main_among c l t (layer ∷ rest) h =
    elim (Contains-append_cases (words_of_layer c layer) (flat_map (words_of_layer c) rest) (Slot l t) h) [
      | inl first ↦ Contains-append_left (words_of_layer c layer) (flat_map (words_of_layer c) rest) (Main l) (asks_main c layer l t first)
      | inr later ↦ Contains-append_right (words_of_layer c layer) (flat_map (words_of_layer c) rest) (Main l) (main_among c l t rest later)
    ]

pub main_last : (c : Config) (query : Query) → ReadsMainLast (start c query)
main_last c query l t h = main_among c l t _ h
