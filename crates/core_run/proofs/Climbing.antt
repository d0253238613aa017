-- Places that words name, ways up from them, and what a call has loaded and stored, as tests.
use Rattle.std.proofs.Common.{◌≡◌, ℕ, zero, suc, ◌<◌, true, Contains, Option, Some, None, refl, sym, ◌∙◌, subst, inl, inr, arith}
use Rattle.word_map.specs.declared.name.Name.{Name}
use Rattle.word_map.specs.declared.name.Name.TheVariants.{LocA, LocB, Bound, Parent}
use Rattle.core_state.specs.declared.item.Load.{Load}
use Rattle.core_state.specs.declared.item.Store.{Store}
use Rattle.core_state.specs.declared.view.Call.{Call}
use Rattle.core_state.specs.declared.view.View.{View}
use Rattle.core_state.specs.View.{known_word}
use Rattle.core_state.specs.Boxes.{where_true}
use Rattle.core_state.specs.Encoding.{place, Sides}
use Rattle.core_run.proofs.Tests.{◌>>=◌, same?, below?, place?, some_in?, each_below?}
use Rattle.core_state.specs.Names.{same_name}
use Rattle.core_state.proofs.SameNames.{same_name-equal}
use Rattle.core_state.specs.Moving.{HasLoaded, HasStored, HasComeTo, at_start, by_parent, HasWidened, HasClimbed, to_root, to_parent, IsKnownLocation}

-- ---- two places are the same where their words are

pub same_node : (n k m j : ℕ) → k < 4 → j < 4 → place n k ≡ place m j → n ≡ m
same_node n k m j below other e = omega arith

pub same_child : (n k m j : ℕ) → k < 4 → j < 4 → place n k ≡ place m j → k ≡ j
same_child n k m j below other e = omega arith

pub at_same_place : (P : ℕ → ℕ → Type 0) (n k m j : ℕ) → k < 4 → j < 4 → place n k ≡ place m j → P n k → P m j
at_same_place P n k m j below other e p =
    let node = same_node n k m j below other e in
    let child = same_child n k m j below other e in
    subst (λ (c : ℕ). P m c) child (subst (λ (a : ℕ). P a k) node p)

pub at_the_place : (P : ℕ → ℕ → Type 0) (word n k : ℕ) → k < 4 → word ≡ place n k → P n k → (m j : ℕ) → j < 4 → word ≡ place m j → P m j
at_the_place P word n k below at p m j other e = at_same_place P n k m j below other (sym at ∙ e) p

pub at_no_place : (P : ℕ → ℕ → Type 0) (word : ℕ) → word ≡ 0 → (m j : ℕ) → j < 4 → word ≡ place m j → P m j
at_no_place P word none m j below e = absurd (omega arith)

-- what holds of the place that a word names, if it names one
abbrev pub at_place? : {P : ℕ → ℕ → Type 0} (word : ℕ) → ((n k : ℕ) → Option (P n k)) → Option ((m j : ℕ) → j < 4 → word ≡ place m j → P m j)
at_place? {P} zero test = Some (at_no_place P zero refl)
at_place? {P} (suc word) test = do
  at ← place? (suc word)
  p ← test at.0 at.1
  Some (at_the_place P (suc word) at.0 at.1 at.2 at.3 p)

pub at_known : (P : ℕ → ℕ → Type 0) (view : View) (index : ℕ) → ((m j : ℕ) → j < 4 → known_word view (LocA index) ≡ place m j → P m j)
    → ((m j : ℕ) → j < 4 → known_word view (LocB index) ≡ place m j → P m j) → (n k : ℕ) → IsKnownLocation view index n k → P n k
at_known P view index first second n k h = elim (h.1) [
  | inl e ↦ first n k h.0 e
  | inr e ↦ second n k h.0 e
]

-- what holds of each location of a body
abbrev pub each_location? : {P : ℕ → ℕ → Type 0} (view : View) (index : ℕ) → ((n k : ℕ) → Option (P n k)) → Option ((n k : ℕ) → IsKnownLocation view index n k → P n k)
each_location? {P} view index test = do
  first ← at_place? {P = P} (known_word view (LocA index)) test
  second ← at_place? {P = P} (known_word view (LocB index)) test
  Some (at_known P view index first second)

abbrev pub location? : (view : View) (index n k : ℕ) → Option (IsKnownLocation view index n k)
location? view index n k = do
  below ← below? k 4
  where_first (same? (known_word view (LocA index)) (place n k)) (λ e. Some (below, inl e))
      (do
        e ← same? (known_word view (LocB index)) (place n k)
        Some (below, inr e))
  where
    where_first : {A B : Type 0} → Option A → (A → Option B) → Option B → Option B
    where_first None first second = second
    where_first (Some a) first second = first a

-- ---- what was loaded and stored

pub same_load : (l : Load) (name : Name) (value : ℕ) → same_name l.name name ≡ true → l.value ≡ value → l ≡ record { name = name; value = value }
same_load l name value e f = let p = same_name-equal l.name name e in λ i. record { name = p i; value = f i }

pub same_store : (l : Store) (name : Name) (value : ℕ) → same_name l.name name ≡ true → l.value ≡ value → l ≡ record { name = name; value = value }
same_store l name value e f = let p = same_name-equal l.name name e in λ i. record { name = p i; value = f i }

abbrev pub loaded? : (call : Call) (name : Name) (value : ℕ) → Option (HasLoaded call name value)
loaded? call name value = do
  t ← some_in? {P = λ l. l ≡ record { name = name; value = value }} (λ l. where_true (same_name l.name name) (λ e. do
    f ← same? l.value value
    Some (same_load l name value e f))) call.loads
  Some (subst (λ (l : Load). Contains call.loads l) t.2 t.1)

abbrev pub stored? : (call : Call) (name : Name) (value : ℕ) → Option (HasStored call name value)
stored? call name value = do
  t ← some_in? {P = λ l. l ≡ record { name = name; value = value }} (λ l. where_true (same_name l.name name) (λ e. do
    f ← same? l.value value
    Some (same_store l name value e f))) call.stores
  Some (subst (λ (l : Store). Contains call.stores l) t.2 t.1)

-- the value that was loaded first under a name
pub named_load : (l : Load) (name : Name) → same_name l.name name ≡ true → l ≡ record { name = name; value = l.value }
named_load l name e = same_load l name l.value e refl

abbrev pub load_of? : (call : Call) (name : Name) → Option ((value : ℕ) × HasLoaded call name value)
load_of? call name = do
  t ← some_in? {P = λ l. l ≡ record { name = name; value = l.value }} (λ l. where_true (same_name l.name name) (λ e. Some (named_load l name e))) call.loads
  Some (t.0.value, subst (λ (l : Load). Contains call.loads l) t.2 t.1)

-- a node whose parent was found to be a place
abbrev pub parent_of? : (name : Name) → Option ((m : ℕ) × (name ≡ Parent m))
parent_of? (Parent m) = Some (m, refl)
parent_of? _ = None

pub parent_load : (l : Load) (m value : ℕ) → l.name ≡ Parent m → l.value ≡ value → l ≡ record { name = Parent m; value = value }
parent_load l m value e f = λ i. record { name = e i; value = f i }

abbrev pub is_parent_load? : (value : ℕ) (l : Load) → Option ((m : ℕ) × (l ≡ record { name = Parent m; value = value }))
is_parent_load? value l = do
  m ← parent_of? l.name
  f ← same? l.value value
  Some (m.0, parent_load l m.0 value m.1 f)

abbrev pub parent_loaded? : (call : Call) (value : ℕ) → Option ((m : ℕ) × HasLoaded call (Parent m) value)
parent_loaded? call value = do
  t ← some_in? {P = λ l. (m : ℕ) × (l ≡ record { name = Parent m; value = value })} (is_parent_load? value) call.loads
  Some (t.2.0, subst (λ (l : Load). Contains call.loads l) t.2.1 t.1)

-- ---- climbs

abbrev pub come_by? : {call : Call} {Begins : ℕ → ℕ → Type 0} {n k : ℕ} → Option (Begins n k) → k < 4 → Option ((m : ℕ) × HasLoaded call (Parent m) (place n k)) → Option (HasComeTo call Begins n k)
come_by? (Some b) below loaded = Some (at_start b)
come_by? None below (Some t) = Some (by_parent t.0 below t.1)
come_by? None below None = None

abbrev pub come? : {Begins : ℕ → ℕ → Type 0} (call : Call) (n k : ℕ) → Option (Begins n k) → Option (HasComeTo call Begins n k)
come? {Begins} call n k begun? = do
  below ← below? k 4
  come_by? {call = call} {Begins = Begins} {n = n} {k = k} begun? below (parent_loaded? call (place n k))

abbrev pub widened? : (call : Call) (box : Sides) (n k : ℕ) → Option (HasWidened call box n k)
widened? call box n k = each_below? {P = λ q. HasStored call (Bound n k q) (box q)} 6 (λ q. stored? call (Bound n k q) (box q))

abbrev pub climbed_from? : (call : Call) (box : Sides) → ((m j : ℕ) → Option (HasClimbed call box m j)) → (n k value : ℕ) → HasWidened call box n k → HasLoaded call (Parent n) value → Option (HasClimbed call box n k)
climbed_from? call box above? n k zero widened loaded = Some (to_root n k widened loaded)
climbed_from? call box above? n k (suc value) widened loaded = do
  at ← place? (suc value)
  above ← above? at.0 at.1
  Some (to_parent n k at.0 at.1 widened at.2 (subst (λ (v : ℕ). HasLoaded call (Parent n) v) at.3 loaded) above)

-- as far as so many levels reach
abbrev pub climbed? : (levels : ℕ) (call : Call) (box : Sides) (n k : ℕ) → Option (HasClimbed call box n k)
climbed? zero call box n k = None
climbed? (suc levels) call box n k = do
  widened ← widened? call box n k
  loaded ← load_of? call (Parent n)
  climbed_from? call box (λ m j. climbed? levels call box m j) n k loaded.0 widened loaded.1
