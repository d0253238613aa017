-- Trees as words say them: boxes, ways up and depths, as tests.
use Rattle.std.proofs.Common.{◌≡◌, ◌≢◌, ℕ, zero, suc, ◌+◌, ◌/◌, ◌<◌, ◌≤◌, Option, Some, None, refl, sym, ◌∙◌, subst, arith}
use Rattle.word_map.specs.declared.name.Name.{Name}
use Rattle.word_map.specs.declared.name.Name.TheVariants.{Parent}
use Rattle.core_state.specs.Encoding.{place, Sides, IsBox, Covers, bound_in}
use Rattle.core_run.proofs.Tests.{◌>>=◌, same?, at_most?, place?, each_below?}
use Rattle.core_state.specs.Nodes.{Above, here, higher}
use Rattle.core_run.proofs.Climbing.{at_same_place}

-- ---- boxes

abbrev pub box? : (b : Sides) → Option (IsBox b)
box? b = each_below? {P = λ q. (1 ≤ b q) × (b q ≤ b (3 + q)) × (b (3 + q) ≤ 16777216)} 3 (λ q. do
  low ← at_most? 1 (b q)
  order ← at_most? (b q) (b (3 + q))
  high ← at_most? (b (3 + q)) 16777216
  Some (low, order, high))

abbrev pub covers? : (outer inner : Sides) → Option (Covers outer inner)
covers? outer inner = each_below? {P = λ q. (outer q ≤ inner q) × (inner (3 + q) ≤ outer (3 + q))} 3 (λ q. do
  low ← at_most? (outer q) (inner q)
  high ← at_most? (inner (3 + q)) (outer (3 + q))
  Some (low, high))

-- what is to hold only of a child that is there
pub not_there : (P : Type 0) (child : ℕ) → child ≡ 0 → child ≢ 0 → P
not_there P child none there = absurd (there none)

abbrev pub where_child? : {P : Type 0} (child : ℕ) → Option P → Option (child ≢ 0 → P)
where_child? {P} zero test = Some (not_there P zero refl)
where_child? (suc child) test = do
  p ← test
  Some (λ there. p)

-- ---- ways up

-- how many nodes stand above one, as far as so many levels reach
abbrev pub depth_above : (ℕ → ℕ) → ℕ → ℕ
depth_above above zero = 0
depth_above above (suc w) = suc (above (w / 4))

abbrev pub depth_of : (Name → ℕ) → ℕ → ℕ → ℕ
depth_of word zero n = 0
depth_of word (suc levels) n = depth_above (depth_of word levels) (word (Parent n))

pub only_here : (P : ℕ → ℕ → Type 0) (word : Name → ℕ) (n k : ℕ) → word (Parent n) ≡ 0 → P n k → (a b : ℕ) → Above word n k a b → P a b
only_here P word n k none p a b (here _ _) = p
only_here P word n k none p a b (higher _ _ m j _ _ e below up) = absurd (omega arith)

pub and_above : (P : ℕ → ℕ → Type 0) (word : Name → ℕ) (n k m j : ℕ) → word (Parent n) ≡ place m j → j < 4 → P n k → ((a b : ℕ) → Above word m j a b → P a b)
    → (a b : ℕ) → Above word n k a b → P a b
and_above P word n k m j at below p above a b (here _ _) = p
and_above P word n k m j at below p above a b (higher _ _ o i _ _ e other up) =
    above a b (at_same_place (λ x y. Above word x y a b) o i m j other below (sym e ∙ at) up)

-- what holds of a place and of all above it
abbrev pub upwards? : {P : ℕ → ℕ → Type 0} (word : Name → ℕ) → ((m j : ℕ) → Option ((a b : ℕ) → Above word m j a b → P a b)) → (n k value : ℕ) → word (Parent n) ≡ value → P n k
    → Option ((a b : ℕ) → Above word n k a b → P a b)
upwards? {P} word above? n k zero is p = Some (only_here P word n k is p)
upwards? {P} word above? n k (suc value) is p = do
  at ← place? (suc value)
  above ← above? at.0 at.1
  Some (and_above P word n k at.0 at.1 (is ∙ at.3) at.2 p above)

abbrev pub encloses? : (levels : ℕ) (word : Name → ℕ) (box : Sides) (n k : ℕ) → Option ((a b : ℕ) → Above word n k a b → Covers (bound_in word a b) box)
encloses? zero word box n k = None
encloses? (suc levels) word box n k = do
  covers ← covers? (bound_in word n k) box
  upwards? {P = λ a b. Covers (bound_in word a b) box} word (λ m j. encloses? levels word box m j) n k (word (Parent n)) refl covers

-- a place is another one, or stands above it
pub here_at : (word : Name → ℕ) (n k a b : ℕ) → n ≡ a → k ≡ b → Above word n k a b
here_at word n k a b e f = subst (λ (y : ℕ). Above word n k a y) f (subst (λ (x : ℕ). Above word n k x k) e (here n k))

abbrev pub both? : (n k a b : ℕ) → Option ((n ≡ a) × (k ≡ b))
both? n k a b = do
  node ← same? n a
  child ← same? k b
  Some (node, child)

abbrev pub above? : (levels : ℕ) (word : Name → ℕ) (n k a b : ℕ) → Option (Above word n k a b)
above? zero word n k a b = None
above? (suc levels) word n k a b = elim (both? n k a b) [
  | Some same ↦ Some (here_at word n k a b same.0 same.1)
  | None ↦ do
    at ← place? (word (Parent n))
    up ← above? levels word at.0 at.1 a b
    Some (higher n k at.0 at.1 a b at.3 at.2 up)
]
