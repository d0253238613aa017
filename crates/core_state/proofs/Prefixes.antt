-- First parts of a log.
use Rattle.std.proofs.Common.{◌≡◌, ◌≤◌, List, [], ◌++◌, length, take, drop, refl, sym, ap, ◌∙◌, inl, inr, arith, append_assoc}
use Rattle.std.proofs.lemmas.Bool.{cases_lt, lt-ltb, le-ltb}
use Rattle.std.proofs.lemmas.List.{append-nil, take-append-drop, take_at, take-take}
use Rattle.core_state.specs.Log.{IsPrefix}
use Rattle.core_state.specs.Seats.{longer}
use Rattle.core_state.specs.declared.item.Item.{Item}

pub IsPrefix-refl : (log : List Item) → IsPrefix log log
IsPrefix-refl log = ([], sym (append-nil log))

pub IsPrefix-more : (early log more : List Item) → IsPrefix early log → IsPrefix early (log ++ more)
IsPrefix-more early log more h = (h.0 ++ more, ap (λ (l : List Item). l ++ more) h.1 ∙ append_assoc early h.0 more)

pub IsPrefix-trans : (a b c : List Item) → IsPrefix a b → IsPrefix b c → IsPrefix a c
IsPrefix-trans a b c h k = (h.0 ++ k.0, k.1 ∙ (ap (λ (l : List Item). l ++ k.0) h.1 ∙ append_assoc a h.0 k.0))

-- a first part is what the log has up to its length
IsPrefix-take : (early log : List Item) → IsPrefix early log → take (length early) log ≡ early
IsPrefix-take early log h = ap (take (length early)) h.1 ∙ take_at early h.0 (length early) refl

-- of two first parts of one log, the shorter is one of the longer
pub IsPrefix-shorter : (a b log : List Item) → IsPrefix a log → IsPrefix b log → length a ≤ length b → IsPrefix a b
IsPrefix-shorter a b log h k le =
    let front : take (length a) b ≡ a =
    ap (take (length a)) (sym (IsPrefix-take b log k)) ∙ (take-take (length a) (length b) log le ∙ IsPrefix-take a log h)
    in
    (drop (length a) b, sym (take-append-drop (length a) b) ∙ ap (λ (l : List Item). l ++ drop (length a) b) front)

-- what two knew are first parts of the one that goes further, and that is one of them
pub longer-covers : (a b log : List Item) → IsPrefix a log → IsPrefix b log → IsPrefix (longer a b) log × IsPrefix a (longer a b) × IsPrefix b (longer a b)
longer-covers a b log h k =
    elim (cases_lt (length a) (length b)) [
      | inl less ↦ let test = lt-ltb _ _ less in rw test (k, IsPrefix-shorter a b log h k (omega arith), IsPrefix-refl b)
      | inr more ↦ let test = le-ltb _ _ more in rw test (h, IsPrefix-refl a, IsPrefix-shorter b a log k h more)
    ]
