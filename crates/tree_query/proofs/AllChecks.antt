-- The candidates are checked one after the other, ascending.
use Rattle.std.proofs.Common.{false, ◌≡◌, ◌≢◌, inl, inr, ℕ, ◌+◌, ◌<◌, ◌≤◌, List, [], ◌++◌, Bool, true, false, eqb, cond, Some, None, append_assoc, refl, ap, sym, ◌∙◌, subst, arith}
use Rattle.std.proofs.lemmas.Bool.{cases_eq, cases_lt, eq-eqb, ne_eqb, false≢true}
use Rattle.std.proofs.lemmas.List.{append-nil}
use Rattle.fixed_box.specs.declared.shape.Shape.{Shape}
use Rattle.body_ident.specs.Id.{Id}
use Rattle.word_map.specs.declared.config.Config.{Config}
use Rattle.core_state.specs.declared.view.LockStep.{LockStep}
use Rattle.core_state.specs.declared.view.View.{View}
use Rattle.core_state.specs.Log.{IsPrefix}
use Rattle.pass_table.specs.Calls.{AtPoint}
use Rattle.pass_table.specs.Work.{HasDone, idle}
use Rattle.pass_table.proofs.Calling.{point-later}
use Rattle.pass_table.proofs.Working.{done-prefix, done-then, point-from}
use Rattle.tree_query.specs.declared.finder.Finder.{Finder}
use Rattle.tree_query.specs.Indexes.{IsFirst, HasNone}
use Rattle.tree_query.specs.Finding.{has_index, room_of, seq_of, id_in, ids_from, ids_of}
use Rattle.tree_query.specs.Checking.{IsHitAfter, HasNoHit, IsCheckedSo, check_steps, steps_of, AreAllChecked, IsChecking}
use Rattle.tree_query.proofs.Ranges.{ids-first, ids-none}

-- two parts that leave the pass at rest and do nothing else
pub idle-then : (start mid next : View) → HasDone start mid (idle start) → HasDone mid next (idle mid) → HasDone start next (idle start)
idle-then start mid next one two =
    subst (HasDone start next) (λ i. record {
      entries = [];
      stores = [];
      batches = ap (λ (v : View). v.batches) one.left i;
      loose = ap (λ (v : View). v.loose) one.left i;
      written = ap (λ (v : View). v.written) one.left i;
      places = false;
    }) (done-then start mid next (idle start) (idle mid) one two)

module _ (shape : Shape) (mask : ℕ) (start : View) (before : Finder) where
  pub begins : HasDone start start (idle start) → IsChecking shape mask start start before before 0
  begins done = record {
    done = done;
    checked = record { room = refl; loads = refl; fewer = λ index none. none; hits = λ index below has. absurd (omega arith); others = λ index below was has. absurd (omega arith) };
    ahead = λ index above. refl;
    locks = refl;
  }

  -- ---- one candidate more

  module _ (view next : View) (finder after : Finder) (to index : ℕ) (now : IsChecking shape mask start view before finder to) (first : IsFirst (has_index finder) to index) (room : index < room_of finder)
      (one : HasDone view next (idle view)) (locks : next.locks ≡ view.locks ++ check_steps view.config index)
      (same_room : room_of after ≡ room_of finder) (same_loads : after.loads ≡ finder.loads)
      (kept : (i : ℕ) → i ≢ index → has_index after i ≡ has_index finder i) (kept_seq : (i : ℕ) → i ≢ index → seq_of after i ≡ seq_of finder i) where
    sizes : view.config ≡ start.config
    sizes = ap (λ (v : View). v.config) now.done.left

    later : IsPrefix view.known next.known
    later = done-prefix view next (idle view) one

    early : IsPrefix start.known view.known
    early = done-prefix start view (idle start) now.done

    -- what was passed over was none
    passed : (i : ℕ) → to ≤ i → i < index → (has_index finder i ≡ false) × (has_index before i ≡ false)
    passed i above below = (first.none_before i above below, sym (now.ahead i above) ∙ first.none_before i above below)

    module _ (here : has_index after index ≡ true → AtPoint view next (IsHitAfter shape mask view.config (id_in after index)))
        (gone : has_index after index ≡ false → AtPoint view next (HasNoHit shape mask view.config index)) where
      hits_on : (i : ℕ) → i < index + 1 → has_index after i ≡ true → AtPoint start next (IsHitAfter shape mask start.config (id_in after i))
      hits_on i below has = elim (cases_eq i index) [
        | inl same ↦
            let point = here (subst (λ (k : ℕ). has_index after k ≡ true) same has) in
            subst (λ (k : ℕ). AtPoint start next (IsHitAfter shape mask start.config (id_in after k))) (sym same)
            (point-from start view next (IsHitAfter shape mask start.config (id_in after index)) early
            (subst (λ (c : Config). AtPoint view next (IsHitAfter shape mask c (id_in after index))) sizes point))
        | inr apart ↦ elim (cases_lt i to) [
          | inl low ↦
              let id : id_in finder i ≡ id_in after i = λ j. record { index = i; seq = sym (kept_seq i apart) j } in
              subst (λ (d : Id). AtPoint start next (IsHitAfter shape mask start.config d)) id
              (point-later start view next (IsHitAfter shape mask start.config (id_in finder i)) later (now.checked.hits i low (sym (kept i apart) ∙ has)))
          | inr high ↦ absurd (false≢true (sym (passed i high (omega (arith, apart, below))).0 ∙ (sym (kept i apart) ∙ has)))
        ]
      ]

      others_on : (i : ℕ) → i < index + 1 → has_index before i ≡ true → has_index after i ≡ false → AtPoint start next (HasNoHit shape mask start.config i)
      others_on i below was has = elim (cases_eq i index) [
        | inl same ↦
            let point = gone (subst (λ (k : ℕ). has_index after k ≡ false) same has) in
            subst (λ (k : ℕ). AtPoint start next (HasNoHit shape mask start.config k)) (sym same)
            (point-from start view next (HasNoHit shape mask start.config index) early (subst (λ (c : Config). AtPoint view next (HasNoHit shape mask c index)) sizes point))
        | inr apart ↦ elim (cases_lt i to) [
          | inl low ↦ point-later start view next (HasNoHit shape mask start.config i) later (now.checked.others i low was (sym (kept i apart) ∙ has))
          | inr high ↦ absurd (false≢true (sym (passed i high (omega (arith, apart, below))).1 ∙ was))
        ]
      ]

      fewer_on : (i : ℕ) → has_index before i ≡ false → has_index after i ≡ false
      fewer_on i none = elim (cases_eq i index) [
        | inl same ↦ absurd (false≢true (sym (now.checked.fewer i none) ∙ subst (λ (k : ℕ). has_index finder k ≡ true) (sym same) first.is_in))
        | inr apart ↦ kept i apart ∙ now.checked.fewer i none
      ]

      -- the steps on locks are those of the candidates so far
      was_first : IsFirst (has_index before) to index
      was_first = record { above = first.above; is_in = sym (now.ahead index first.above) ∙ first.is_in; none_before = λ i above below. (passed i above below).1 }

      locks_on : next.locks ++ steps_of start.config (ids_from before (index + 1)) ≡ start.locks ++ steps_of start.config (ids_of before)
      locks_on =
          let rest : List LockStep = steps_of start.config (ids_from before (index + 1)) in
          let ids = ids-first before to index (id_in before index) refl was_first (subst (λ (n : ℕ). index < n) now.checked.room room) in
          ap (λ (l : List LockStep). l ++ rest) (locks ∙ ap (λ (c : Config). view.locks ++ check_steps c index) sizes)
          ∙ (append_assoc view.locks (check_steps start.config index) rest
          ∙ (ap (λ (l : List Id). view.locks ++ steps_of start.config l) (sym ids) ∙ now.locks))

      pub goes-on : IsChecking shape mask start next before after (index + 1)
      goes-on = record {
        done = idle-then start view next now.done one;
        checked = record {
          room = same_room ∙ now.checked.room;
          loads = same_loads ∙ now.checked.loads;
          fewer = fewer_on;
          hits = hits_on;
          others = others_on;
        };
        ahead = λ i above. let up = first.above in kept i (λ same. omega (arith, same, above)) ∙ now.ahead i (omega arith);
        locks = locks_on;
      }

  -- it is left out, or stays with the sequence number that was read
  module _ (view next : View) (finder after : Finder) (to index : ℕ) (now : IsChecking shape mask start view before finder to) (first : IsFirst (has_index finder) to index) (room : index < room_of finder)
      (one : HasDone view next (idle view)) (locks : next.locks ≡ view.locks ++ check_steps view.config index)
      (same_room : room_of after ≡ room_of finder) (same_loads : after.loads ≡ finder.loads) where
    pub goes-without : ((i : ℕ) → has_index after i ≡ cond (eqb index i) false (has_index finder i)) → ((i : ℕ) → seq_of after i ≡ seq_of finder i)
        → IsCheckedSo shape mask index view next None → IsChecking shape mask start next before after (index + 1)
    goes-without has seqs point =
        goes-on view next finder after to index now first room one locks same_room same_loads
        (λ i apart. has i ∙ ap (λ (t : Bool). cond t false (has_index finder i)) (ne_eqb index i (λ e. apart (sym e)))) (λ i apart. seqs i)
        (λ is. absurd (false≢true (sym (has index ∙ ap (λ (t : Bool). cond t false (has_index finder index)) (eq-eqb index index refl)) ∙ is)))
        (λ is. point)

    pub goes-with : (seq : ℕ) → ((i : ℕ) → has_index after i ≡ cond (eqb index i) true (has_index finder i)) → ((i : ℕ) → seq_of after i ≡ cond (eqb index i) seq (seq_of finder i))
        → IsCheckedSo shape mask index view next (Some seq) → IsChecking shape mask start next before after (index + 1)
    goes-with seq has seqs point =
        let is_seq : seq ≡ seq_of after index = sym (seqs index ∙ ap (λ (t : Bool). cond t seq (seq_of finder index)) (eq-eqb index index refl)) in
        goes-on view next finder after to index now first room one locks same_room same_loads
        (λ i apart. has i ∙ ap (λ (t : Bool). cond t true (has_index finder i)) (ne_eqb index i (λ e. apart (sym e))))
        (λ i apart. seqs i ∙ ap (λ (t : Bool). cond t seq (seq_of finder i)) (ne_eqb index i (λ e. apart (sym e))))
        (λ is. subst (λ (s : ℕ). AtPoint view next (IsHitAfter shape mask view.config (record { index = index; seq = s }))) is_seq point)
        (λ is. absurd (false≢true (sym is ∙ (has index ∙ ap (λ (t : Bool). cond t true (has_index finder index)) (eq-eqb index index refl)))))

  -- ---- the end

  module _ (view : View) (finder : Finder) (to : ℕ) (now : IsChecking shape mask start view before finder to) (none : HasNone (has_index finder) to) where
    pub all-checked : AreAllChecked shape mask start view before finder
    all-checked = record {
      room = now.checked.room;
      loads = now.checked.loads;
      fewer = now.checked.fewer;
      hits = λ i below has. elim (cases_lt i to) [ inl low ↦ now.checked.hits i low has | inr high ↦ absurd (false≢true (sym (none i high) ∙ has)) ];
      others = λ i below was has. elim (cases_lt i to) [ inl low ↦ now.checked.others i low was has | inr high ↦ absurd (false≢true (sym (none i high) ∙ (now.ahead i high ∙ was))) ];
    }

    pub all-locks : view.locks ≡ start.locks ++ steps_of start.config (ids_of before)
    all-locks =
        let ends = ids-none before to (λ i above. sym (now.ahead i above) ∙ none i above) in
        sym (append-nil view.locks) ∙ (ap (λ (l : List Id). view.locks ++ steps_of start.config l) (sym ends) ∙ now.locks)
