-- What is kept of a range: the first number that is in, and then the rest.
use Rattle.std.proofs.Common.{◌≡◌, inl, inr, ℕ, zero, suc, ◌+◌, ◌-◌, ◌<◌, ◌≤◌, List, [], ◌∷◌, Bool, true, false, cond, refl, ap, sym, ◌∙◌, subst, arith}
use Rattle.std.specs.Prelude.{filter, map, All, AllPairs, Contains, length, get_or}
use Rattle.std.specs.List.{range_with_len}
use Rattle.std.proofs.lemmas.Bool.{cases_Bool, cases_eq}
use Rattle.std.proofs.lemmas.List.{get_or-map, length-map}
use Rattle.std.proofs.lemmas.List.Kept.{AllPairs-filter}
use Rattle.std.proofs.lemmas.List.Elements.{Contains-append_right, All-filter, filter_passes}
use Rattle.std.proofs.lemmas.List.FromFn.{length-range_with_len, get_or-range_with_len}
use Rattle.body_ident.specs.Id.{Id}
use Rattle.tree_query.specs.Indexes.{IsFirst, HasNone}
use Rattle.tree_query.specs.Finding.{has_index, room_of, id_in, ids_from, ids_of}
use Rattle.tree_query.specs.declared.finder.Finder.{Finder}

module _ (p : ℕ → Bool) where
  kept : (at n : ℕ) (t : Bool) → p at ≡ t → filter p (range_with_len at (suc n)) ≡ cond t (at ∷ filter p (range_with_len (at + 1) n)) (filter p (range_with_len (at + 1) n))
  kept at n t is = ap (λ (b : Bool). cond b (at ∷ filter p (range_with_len (at + 1) n)) (filter p (range_with_len (at + 1) n))) is

  pub first-kept : (at n first : ℕ) → IsFirst p at first → first < at + n
      → filter p (range_with_len at n) ≡ first ∷ filter p (range_with_len (first + 1) (at + n - (first + 1)))
  first-kept at zero first is below = let above = is.above in absurd (omega arith)
  first-kept at (suc n) first is below = elim (cases_eq at first) [
    | inl same ↦
        let left : n ≡ at + suc n - (at + 1) = omega arith in
        subst (λ (f : ℕ). filter p (range_with_len at (suc n)) ≡ f ∷ filter p (range_with_len (f + 1) (at + suc n - (f + 1)))) same
        (kept at n true (ap p same ∙ is.is_in) ∙ ap (λ (m : ℕ). at ∷ filter p (range_with_len (at + 1) m)) left)
    | inr apart ↦
        let above = is.above in
        let less : at < first = omega arith in
        let left : at + 1 + n - (first + 1) ≡ at + suc n - (first + 1) = omega arith in
        kept at n false (is.none_before at (omega arith) less)
        ∙ (first-kept (at + 1) n first (record { above = omega arith; is_in = is.is_in; none_before = λ other from before. is.none_before other (omega arith) before }) (omega arith)
        ∙ ap (λ (m : ℕ). first ∷ filter p (range_with_len (first + 1) m)) left)
  ]

  pub none-kept : (at n : ℕ) → HasNone p at → filter p (range_with_len at n) ≡ []
  none-kept at zero none = refl
  none-kept at (suc n) none = kept at n false (none at (omega arith)) ∙ none-kept (at + 1) n (λ other above. none other (omega arith))

-- ---- the ids of a finder

pub ids-first : (finder : Finder) (at first : ℕ) (id : Id) → id ≡ id_in finder first → IsFirst (has_index finder) at first → first < room_of finder → ids_from finder at ≡ id ∷ ids_from finder (first + 1)
ids-first finder at first id same is below =
    let above = is.above in
    let left : at + (room_of finder - at) - (first + 1) ≡ room_of finder - (first + 1) = omega arith in
    ap (map (id_in finder)) (first-kept (has_index finder) at (room_of finder - at) first is (omega arith))
    ∙ (λ i. sym same i ∷ map (id_in finder) (filter (has_index finder) (range_with_len (first + 1) (left i))))

pub ids-none : (finder : Finder) (at : ℕ) → HasNone (has_index finder) at → ids_from finder at ≡ []
ids-none finder at none = ap (map (id_in finder)) (none-kept (has_index finder) at (room_of finder - at) none)

-- they ascend
pub ids-ascend : (finder : Finder) → AllPairs (λ a b. a.index < b.index) (ids_of finder)
ids-ascend finder i j d less below =
    let room : ℕ = room_of finder - 0 in
    let found : List ℕ = filter (has_index finder) (range_with_len 0 room) in
    let second : j < length found = subst (λ (n : ℕ). j < n) (length-map found (id_in finder)) below in
    let range : AllPairs (λ (a b : ℕ). a < b) (range_with_len 0 room) = λ k l e before inside.
    let last : l < room = subst (λ (n : ℕ). l < n) (length-range_with_len 0 room) inside in
    let a = get_or-range_with_len 0 room k e (omega arith) in
    let b = get_or-range_with_len 0 room l e last in
    omega arith
    in
    let pair = AllPairs-filter (λ (a b : ℕ). a < b) (has_index finder) (range_with_len 0 room) range i j 0 less second in
    subst (λ (x : Id). x.index < (get_or (ids_of finder) j d).index) (sym (get_or-map (id_in finder) found i 0 d (omega arith)))
    (subst (λ (x : Id). get_or found i 0 < x.index) (sym (get_or-map (id_in finder) found j 0 d second)) pair)

-- each of them is of an index that was found
pub ids-of_found : (finder : Finder) (id : Id) → Contains (ids_of finder) id → (id.index < room_of finder) × (has_index finder id.index ≡ true) × (id ≡ id_in finder id.index)
ids-of_found finder id among =
    let room : ℕ = room_of finder - 0 in
    let found : List ℕ = filter (has_index finder) (range_with_len 0 room) in
    let inside : among.0 < length found = subst (λ (n : ℕ). among.0 < n) (length-map found (id_in finder)) among.1 in
    let index : ℕ = get_or found among.0 0 in
    let is : id_in finder index ≡ id = sym (get_or-map (id_in finder) found among.0 0 id inside) ∙ among.2 in
    let range : All (λ (i : ℕ). i < room) (range_with_len 0 room) = λ k e below.
    let low : k < room = subst (λ (n : ℕ). k < n) (length-range_with_len 0 room) below in
    let at = get_or-range_with_len 0 room k e low in
    omega arith
    in
    let low = All-filter (has_index finder) (λ (i : ℕ). i < room) (range_with_len 0 room) range among.0 0 inside in
    let has = filter_passes (has_index finder) (range_with_len 0 room) among.0 0 inside in
    let same : index ≡ id.index = ap (λ (x : Id). x.index) is in
    (omega (arith, low, same), subst (λ (i : ℕ). has_index finder i ≡ true) same has, sym is ∙ ap (id_in finder) same)

-- and each index that was found has its id there
found-kept : (p : ℕ → Bool) (at n i : ℕ) → at ≤ i → i < at + n → p i ≡ true → Contains (filter p (range_with_len at n)) i
found-kept p at zero i above below is = absurd (omega arith)
found-kept p at (suc n) i above below is = elim (cases_eq at i) [
  | inl same ↦ subst (λ (xs : List ℕ). Contains xs i) (sym (kept p at n true (ap p same ∙ is))) (0, omega arith, same)
  | inr apart ↦
      let later = found-kept p (at + 1) n i (omega arith) (omega arith) is in
      elim (cases_Bool (p at)) [
        | inl test ↦ subst (λ (xs : List ℕ). Contains xs i) (sym (kept p at n true test)) (Contains-append_right (at ∷ []) (filter p (range_with_len (at + 1) n)) i later)
        | inr test ↦ subst (λ (xs : List ℕ). Contains xs i) (sym (kept p at n false test)) later
      ]
]

pub found-in_ids : (finder : Finder) (id : Id) → id.index < room_of finder → has_index finder id.index ≡ true → id ≡ id_in finder id.index → Contains (ids_of finder) id
found-in_ids finder id below has same =
    let found : List ℕ = filter (has_index finder) (range_with_len 0 (room_of finder - 0)) in
    let at = found-kept (has_index finder) 0 (room_of finder - 0) id.index (omega arith) (omega arith) has in (
      at.0,
      subst (λ (n : ℕ). at.0 < n) (sym (length-map found (id_in finder))) at.1,
      get_or-map (id_in finder) found at.0 id.index id at.1 ∙ (ap (id_in finder) at.2 ∙ sym same),
    )
