-- Texts of ids, and the parts round their colon.
use Rattle.std.proofs.Common.{◌≡◌, ◌≢◌, ◌==◌, ℕ, ◌+◌, ◌<◌, List, ◌∷◌, ◌++◌, length, get_or, take, drop, Some, None, position, refl, sym, ap, ◌∙◌, add-one, arith}
use Rattle.std.specs.Fmt.{decimal}
use Rattle.std.specs.List.{position_or_len, slice_range}
use Rattle.std.proofs.lemmas.Fmt.{decimal_injective}
use Rattle.std.proofs.lemmas.Grind.{common_steps}
use Rattle.std.proofs.lemmas.List.Quantifiers.{position-Some}
use Rattle.std.proofs.lemmas.List.Sums.{position_or_len_is}
use Rattle.std.proofs.Math.Seq.{drop-append-add, drop-cons}
use Rattle.std.proofs.lemmas.List.{take-append-drop}
use Rattle.body_ident.specs.Id.{Id}
use Rattle.body_ident.specs.Text.{id_text}
use Rattle.body_ident.specs.Word.{IsId}
use Rattle.body_ident.proofs.NumberLemmas.{decimal_no_colon}

-- where nothing before a colon is one, it is the first
first_colon : (front back : List ℕ) → ((k : ℕ) → k < length front → get_or front k 0 ≢ 58) → position (λ b. b == 58) (front ++ 58 ∷ back) ≡ Some (length front)
first_colon front back none =
    let at : position_or_len (λ b. b == 58) (front ++ 58 ∷ back) ≡ length front = position_or_len_is (λ b. b == 58) (front ++ 58 ∷ back) (length front) 0 (grind (arith, common_steps)) (λ k h. grind (arith, common_steps, none k h)) (λ _. grind (arith, common_steps)) in
    grind (arith, common_steps)

-- the first colon of an id's text stands behind the index
colon_of_text : (bytes : List ℕ) (id : Id) → IsId id → id_text id ≡ bytes → position (λ b. b == 58) bytes ≡ Some (length (decimal id.index))
colon_of_text bytes id ok e = rw (← e) (first_colon (decimal id.index) (decimal id.seq) (decimal_no_colon id.index (omega (arith, ok.index))))

-- bytes with no colon are the text of no id
pub no_text_without_colon : (bytes : List ℕ) (id : Id) → position (λ b. b == 58) bytes ≡ None → IsId id → id_text id ≡ bytes → ⊥
no_text_without_colon bytes id none ok e = let some = colon_of_text bytes id ok e in cc

-- before the colon stands the index, and behind it the sequence number
pub index_of_text : (bytes : List ℕ) (colon : ℕ) (id : Id) → position (λ b. b == 58) bytes ≡ Some colon → IsId id → id_text id ≡ bytes → decimal id.index ≡ take colon bytes
index_of_text bytes colon id found ok e =
    let some = colon_of_text bytes id ok e in
    let at : colon ≡ length (decimal id.index) = cc in
    rw (← e, at) (grind (arith, common_steps))

behind_colon : (front back : List ℕ) → back ≡ slice_range (front ++ 58 ∷ back) (length front + 1) (length (front ++ 58 ∷ back))
behind_colon front back =
    let behind : drop (length front + 1) (front ++ 58 ∷ back) ≡ back = drop-append-add front (58 ∷ back) 1 in
    rw behind (grind (arith, common_steps))

pub seq_of_text : (bytes : List ℕ) (colon : ℕ) (id : Id) → position (λ b. b == 58) bytes ≡ Some colon → IsId id → id_text id ≡ bytes → decimal id.seq ≡ slice_range bytes (colon + 1) (length bytes)
seq_of_text bytes colon id found ok e =
    let some = colon_of_text bytes id ok e in
    let at : colon ≡ length (decimal id.index) = cc in
    rw (← e, at) (behind_colon (decimal id.index) (decimal id.seq))

-- what stands round a first colon
pub round_colon : (bytes : List ℕ) (colon : ℕ) → position (λ b. b == 58) bytes ≡ Some colon → take colon bytes ++ 58 ∷ slice_range bytes (colon + 1) (length bytes) ≡ bytes
round_colon bytes colon found =
    let at = position-Some (λ b. b == 58) bytes colon 0 found in
    let is : get_or bytes colon 0 ≡ 58 = grind (arith, common_steps, at.1) in
    let within : colon < length bytes = at.0 in
    let behind : slice_range bytes (colon + 1) (length bytes) ≡ drop (colon + 1) bytes = grind (arith, common_steps) in
    let cut : drop colon bytes ≡ 58 ∷ drop (colon + 1) bytes = rw (add-one, ← is) (drop-cons bytes colon 0 within) in
    rw (behind, ← cut) (take-append-drop colon bytes)

-- ids with the same text are the same
pub same_id_of_text : (a b : Id) → IsId a → IsId b → id_text a ≡ id_text b → a ≡ b
same_id_of_text a b a_ok b_ok e =
    let found = colon_of_text (id_text a) a a_ok refl in
    let same_index : decimal a.index ≡ decimal b.index = index_of_text (id_text a) _ a found a_ok refl ∙ sym (index_of_text (id_text a) _ b found b_ok (sym e)) in
    let same_seq : decimal a.seq ≡ decimal b.seq = seq_of_text (id_text a) _ a found a_ok refl ∙ sym (seq_of_text (id_text a) _ b found b_ok (sym e)) in
    let index : a.index ≡ b.index = decimal_injective a.index b.index (omega (arith, a_ok.index)) (omega (arith, b_ok.index)) same_index in
    let seq : a.seq ≡ b.seq = decimal_injective a.seq b.seq (omega (arith, a_ok.seq)) (omega (arith, b_ok.seq)) same_seq in
    let with_index : ℕ → Id = λ i. record { index = i; seq = a.seq } in
    let with_seq : ℕ → Id = λ s. record { index = b.index; seq = s } in
    ap with_index index ∙ ap with_seq seq

pub ruleset parts_of_text = (no_text_without_colon, index_of_text, seq_of_text, round_colon)
