-- Who writes under a lock is alone, and so what the lock guards stands still for others.
use Rattle.std.proofs.Common.{◌≡◌, ◌≢◌, ◌⊎◌, ℕ, zero, suc, ◌+◌, ◌<◌, ◌≤◌, List, [], ◌∷◌, ◌++◌, false, Option, Some, None, length, take, drop, set, refl, append_assoc, ap, sym, ◌∙◌, subst, inl, inr, arith}
use Rattle.std.specs.Prelude.{⊤, IfSome, IsSomeAnd, filter_map, sum_by, Contains, slice_index_or}
use Rattle.std.specs.List.{cons_option}
use Rattle.std.proofs.lemmas.Option.{none-some, same_Some}
use Rattle.std.proofs.lemmas.Bool.{false≢true}
use Rattle.std.proofs.lemmas.List.{append-nil, length-append, set-get_or, set_split}
use Rattle.std.proofs.lemmas.Nat.{pow_pos}
use Rattle.std.proofs.lemmas.List.Sums.{sum_by-cons}
use Rattle.std.proofs.lemmas.List.Elements.{Contains-append_right}
use mathlib.Core.Option.{some, some-injective, some-ne-none}
use lib.ListN.{get_elem?}
use Rattle.word_map.specs.declared.config.Config.{Config}
use Rattle.word_map.specs.declared.name.Name.{Name}
use Rattle.word_map.specs.Names.{stripe_of}
use Rattle.word_map.specs.declared.name.Name.TheVariants.{Lock, State}
use Rattle.core_state.specs.declared.item.Item.{Item}
use Rattle.core_state.specs.declared.view.Mode.{Mode}
use Rattle.core_state.specs.declared.view.Mode.TheVariants.{Read, Write}
use Rattle.core_state.specs.declared.view.Task.{Task}
use Rattle.core_state.specs.declared.view.Task.TheVariants.{Nothing}
use Rattle.core_state.specs.declared.view.Rebuild.{Rebuild}
use Rattle.core_state.specs.declared.view.Role.{Role}
use Rattle.core_state.specs.declared.view.Role.TheVariants.{Pass}
use Rattle.core_state.specs.declared.view.Joined.{Joined}
use Rattle.core_state.specs.declared.view.View.{View}
use Rattle.core_state.specs.Formed.{IsSoundView, IsFormed}
use Rattle.core_state.specs.Log.{word, NoneStores, IsPrefix}
use Rattle.core_state.proofs.Reading.{word-none, word-other}
use Rattle.core_state.specs.View.{known_alone, own_known, number_of, mode_of, IsPass, Holds, HoldsNot, blank_view}
use Rattle.core_state.specs.Core.{Core, word_of, IsViewAt, opening}
use Rattle.core_state.specs.Locking.{bit_of}
use Rattle.core_state.specs.Operation.{stores}
use Rattle.core_state.specs.Kind.{Kind, Asking, Step, Steps, found_by, item_of, left_by, log_after, view_after, after_step}
use Rattle.core_state.specs.Seats.{Opens, Visits, Joins, after_split, visitor_of, joined_view, spent_view}
use Rattle.core_state.specs.Guards.{Owns, by_lock, by_creation, by_batch, by_mark, by_node, by_update, IsUpdateWord, IsQuiet, GuardsHold, KeepsGuards, IsBodyWord}
use Rattle.core_state.specs.Scope.{sight, part_of, bare_view}
use Rattle.core_state.specs.LocksAgree.{LocksAgree, lock_scope, bit_in}
use Rattle.core_state.proofs.Lookups.{at_set}
use Rattle.core_state.proofs.Forming.{unspent_pass, is_left, is_right, is_other, at_split, AfterJoin, is_spent, is_joined, is_old, at_join}
use Rattle.core_state.proofs.Steps.{gains, nothing, its_item}

-- ---- sums over what is kept of a list

module _ {X Y : Type 0} (f : X → Option Y) (g : Y → ℕ) where
  abbrev pub amount : Option Y → ℕ
  amount None = 0
  amount (Some b) = g b

  amount-cons : (o : Option Y) (ys : List Y) → sum_by g (cons_option o ys) ≡ amount o + sum_by g ys
  amount-cons None ys = omega arith
  amount-cons (Some b) ys = sum_by-cons g b ys

  pub sum-kept : (xs : List X) → sum_by g (filter_map f xs) ≡ sum_by (λ x. amount (f x)) xs
  sum-kept [] = refl
  sum-kept (x ∷ xs) = amount-cons (f x) (filter_map f xs) ∙ (ap (λ (n : ℕ). amount (f x) + n) (sum-kept xs) ∙ sym (sum_by-cons (λ (z : X). amount (f z)) x xs))

  Contains-cons : (o : Option Y) (ys : List Y) (b : Y) → Contains ys b → Contains (cons_option o ys) b
  Contains-cons None ys b h = h
  Contains-cons (Some a) ys b h = Contains-append_right (a ∷ []) ys b h

  Contains-first : (o : Option Y) (ys : List Y) (b : Y) → o ≡ Some b → Contains (cons_option o ys) b
  Contains-first None ys b e = absurd (none-some b e)
  Contains-first (Some a) ys b e = (0, omega arith, same_Some a b e)

  -- what is kept of an element is among what is kept of the list
  pub Contains-kept : (xs : List X) (i : ℕ) (x : X) (b : Y) → get_elem? xs i ≡ some x → f x ≡ Some b → Contains (filter_map f xs) b
  Contains-kept [] i x b at kept = absurd (some-ne-none x (sym at))
  Contains-kept (z ∷ xs) zero x b at kept = Contains-first (f z) (filter_map f xs) b (ap f (some-injective z x at) ∙ kept)
  Contains-kept (z ∷ xs) (suc i) x b at kept = Contains-cons (f z) (filter_map f xs) b (Contains-kept xs i x b at kept)

module _ {X : Type 0} (h : X → ℕ) where
  pub sum_one : (xs : List X) (i : ℕ) (x : X) → get_elem? xs i ≡ some x → h x ≤ sum_by h xs
  sum_one [] i x at = absurd (some-ne-none x (sym at))
  sum_one (z ∷ xs) zero x at = let same = ap h (some-injective z x at) in omega (arith, sum_by-cons h z xs)
  sum_one (z ∷ xs) (suc i) x at = let rest = sum_one xs i x at in omega (arith, sum_by-cons h z xs)

  -- two elements at two places
  pub sum_two : (xs : List X) (i j : ℕ) (x y : X) → i ≢ j → get_elem? xs i ≡ some x → get_elem? xs j ≡ some y → h x + h y ≤ sum_by h xs
  sum_two [] i j x y ne at other = absurd (some-ne-none x (sym at))
  sum_two (z ∷ xs) zero zero x y ne at other = absurd (ne refl)
  sum_two (z ∷ xs) zero (suc j) x y ne at other =
      let same = ap h (some-injective z x at) in
      let rest = sum_one xs j y other in
      omega (arith, sum_by-cons h z xs)
  sum_two (z ∷ xs) (suc i) zero x y ne at other =
      let same = ap h (some-injective z y other) in
      let rest = sum_one xs i x at in
      omega (arith, sum_by-cons h z xs)
  sum_two (z ∷ xs) (suc i) (suc j) x y ne at other =
      let rest = sum_two xs i j x y (λ e. ne (ap suc e)) at other in
      omega (arith, sum_by-cons h z xs)

-- ---- who writes is alone

-- what the view of a seat adds to the word of a lock
abbrev pub adds : ℕ → View → ℕ
adds lock view = amount (part_of lock_scope) (bit_in lock) (part_of lock_scope view)

pub lock-word : (core : Core) (lock : ℕ) → LocksAgree core → word_of core (Lock lock) ≡ sum_by (adds lock) core.views
lock-word core lock agree = agree.holders lock ∙ sum-kept (part_of lock_scope) (bit_in lock) core.views

adds-held : (view : View) (lock number : ℕ) (mode : Mode) → IsPass view number → Holds view lock mode → adds lock view ≡ bit_of number mode
adds-held view lock number mode pass holds = rw (pass, holds) refl

pub bit-some : (number : ℕ) (mode : Mode) → 0 < bit_of number mode
bit-some number Read = pow_pos number
bit-some number Write = pow_pos (32 + number)

-- the view of a seat is among those that a law of locks sees
seen : (core : Core) (seat number : ℕ) (view : View) → IsViewAt core seat view → IsPass view number → Contains (sight lock_scope core).passes (record (bare_view number) { locks = view.locks })
seen core seat number view at pass =
    Contains-kept (part_of lock_scope) (bit_in 0) core.views seat view (record (bare_view number) { locks = view.locks }) at (rw pass refl)

-- so no other pass holds the lock
pub writer-alone : (core : Core) (lock seat other number second : ℕ) (view view' : View) → LocksAgree core → IsViewAt core seat view → IsPass view number → Holds view lock Write
    → other ≢ seat → IsViewAt core other view' → IsPass view' second → HoldsNot view' lock
writer-alone core lock seat other number second view view' agree at pass holds ne at_other pass_other = go (mode_of view'.locks lock) refl
  where
    go : (mode : Option Mode) → mode_of view'.locks lock ≡ mode → HoldsNot view' lock
    go None e = e
    go (Some mode) e =
        let own = adds-held view lock number Write pass holds in
        let more = adds-held view' lock second mode pass_other e in
        let some = bit-some second mode in
        let both = sum_two (adds lock) core.views seat other view view' (λ s. ne (sym s)) at at_other in
        let word = lock-word core lock agree in
        let alone = agree.alone number (record (bare_view number) { locks = view.locks }) (seen core seat number view at pass) refl lock holds in
        absurd (omega arith)

-- ---- what is guarded stands still

-- a log that ends in an item, cut at an item: it is that one, or it comes before it
snoc_split : (log : List Item) (last : Item) (first : List Item) (item : Item) (rest : List Item) → log ++ last ∷ [] ≡ first ++ item ∷ rest
    → ((first ≡ log) × (item ≡ last)) ⊎ ((rest' : List Item) × (log ≡ first ++ item ∷ rest'))
snoc_split [] last [] item rest e = inl (refl, sym (ap (λ (l : List Item). slice_index_or l 0 last) e))
snoc_split [] last (f ∷ first) item rest e =
    let lengths = ap length e in
    absurd (omega (arith, length-append first (item ∷ rest)))
snoc_split (x ∷ log) last [] item rest e = inr (log, ap (λ (z : Item). z ∷ log) (ap (λ (l : List Item). slice_index_or l 0 x) e))
snoc_split (x ∷ log) last (f ∷ first) item rest e =
    let head : x ≡ f = ap (λ (l : List Item). slice_index_or l 0 x) e in
    let tail = ap (drop 1) e in
    elim (snoc_split log last first item rest tail) [
      | inl t ↦ inl ((λ i. sym head i ∷ t.0 i), t.1)
      | inr t ↦ inr (t.0, λ i. head i ∷ t.1 i)
    ]

-- a step that stores what no other pass guards keeps the guards
pub GuardsHold-step : (kind : Kind) (core : Core) (step : Step) → IsViewAt core step.seat step.view → KeepsGuards kind core step → GuardsHold core → GuardsHold (after_step kind core step)
GuardsHold-step kind core step at keeps guards seat number view first rest item at_view pass split later =
    elim (at_set core.views step.seat seat (view_after kind core step) view at_view) [
      | inl t ↦
          let all : length (log_after kind core step) ≤ length first = subst (λ (v : View). length (own_known v) ≤ length first) (sym t.1) later in
          let lengths : length (log_after kind core step) ≡ length (first ++ item ∷ rest) = ap length split in
          absurd (omega (arith, length-append first (item ∷ rest)))
      | inr t ↦ elim (gains kind core step) [
        | nothing e f ↦ guards seat number view first rest item t.1 pass (sym (append-nil core.log) ∙ (ap (λ (l : List Item). core.log ++ l) (sym e) ∙ split)) later
        | its_item stored e ↦
            elim (snoc_split core.log (item_of kind step (left_by kind core step)) first item rest (ap (λ (l : List Item). core.log ++ l) (sym e) ∙ split)) [
              | inl s ↦
                  let quiet = keeps stored seat number view t.0 t.1 pass in
                  subst (λ (i : Item). IsQuiet core.config view first i) (sym s.1) (subst (λ (l : List Item). IsQuiet core.config view l (item_of kind step (left_by kind core step))) (sym s.0) quiet)
              | inr s ↦ guards seat number view first s.0 item t.1 pass s.1 later
            ]
      ]
    ]

-- ---- the first kinds

abbrev IsLockWord : Name → Type 0
IsLockWord (Lock lock) = ⊤
IsLockWord _ = ⊥

-- a lock word is nobody's
lock-unowned : (c : Config) (view : View) (lock : ℕ) → ¬ Owns c view (Lock lock)
lock-unowned c view lock (by_lock other mode holds e) = none-some other e
lock-unowned c view lock (by_creation i e h) = h
lock-unowned c view lock (by_batch batch among e) = subst IsLockWord e tt
lock-unowned c view lock (by_mark batch m among marked h) = h
lock-unowned c view lock (by_node n among e) = none-some n e
lock-unowned c view lock (by_update h) = no_lock view.rebuild h
  where
    no_lock : (o : Option Rebuild) → IsSomeAnd o (λ r. IsUpdateWord r (Lock lock)) → ⊥
    no_lock None h = h
    no_lock (Some r) h = h

-- and it is no word of a body
pub lock-quiet : (c : Config) (view : View) (first : List Item) (item : Item) (lock : ℕ) → item.name ≡ Lock lock → IsQuiet c view first item
lock-quiet c view first item lock names = record {
  others = λ owns. lock-unowned c view lock (subst (Owns c view) names owns);
  body = λ i mode holds h. absurd (subst (IsBodyWord i) names h);
  location = λ i mode holds e. absurd (subst IsLockWord (sym names ∙ e) tt);
}

abbrev IsNothing : Task → Type 0
IsNothing Nothing = ⊤
IsNothing _ = ⊥

-- a pass that has done nothing has nothing for itself
blank-unowned : (c : Config) (role : Role) (name : Name) → ¬ Owns c (blank_view c role) name
blank-unowned c role name (by_lock lock mode holds e) = none-some mode holds
blank-unowned c role name (by_creation i e h) = subst IsNothing e tt
blank-unowned c role name (by_batch batch among e) = let none = among.1 in absurd (omega arith)
blank-unowned c role name (by_mark batch m among marked h) = let none = among.1 in absurd (omega arith)
blank-unowned c role name (by_node n among e) = let none = among.1 in absurd (omega arith)
blank-unowned c role name (by_update h) = h

blank-quiet : (c : Config) (role : Role) (first : List Item) (item : Item) → IsQuiet c (blank_view c role) first item
blank-quiet c role first item = record {
  others = blank-unowned c role item.name;
  body = λ i mode holds. absurd (none-some mode holds);
  location = λ i mode holds. absurd (none-some mode holds);
}

pub GuardsHold-load : (asks : Asking) (kind : Kind) (before after : Core) → ((found first : ℕ) → stores kind.operation found first ≡ false) → Steps asks kind before after → GuardsHold before → GuardsHold after
GuardsHold-load asks kind before after loads steps guards =
    let step = steps.step in
    subst GuardsHold (sym steps.result)
    (GuardsHold-step kind before step steps.allowed.at (λ stored. absurd (false≢true (sym (loads (found_by before step) step.first) ∙ stored))) guards)

pub GuardsHold-lock : (asks : Asking) (kind : Kind) (before after : Core) → ((view : View) (name : Name) (first second : ℕ) → asks view name first second → (lock : ℕ) × (name ≡ Lock lock))
    → Steps asks kind before after → GuardsHold before → GuardsHold after
GuardsHold-lock asks kind before after names steps guards =
    let step = steps.step in
    let lock = names step.view step.name step.first step.second steps.allowed.asked in
    subst GuardsHold (sym steps.result)
    (GuardsHold-step kind before step steps.allowed.at
    (λ stored seat number view ne at pass. lock-quiet before.config view before.log (item_of kind step (left_by kind before step)) lock.0 lock.1) guards)

-- what holds of both halves of a view that is cut, and of all others
GuardsHold-split : (core : Core) (cut : ℕ) (left right : View)
    → ((number : ℕ) (first rest : List Item) (item : Item) → IsPass left number → core.log ≡ first ++ item ∷ rest → length (own_known left) ≤ length first → IsQuiet core.config left first item)
    → ((number : ℕ) (first : List Item) (item : Item) → IsPass right number → IsQuiet core.config right first item)
    → GuardsHold core → GuardsHold (after_split core cut left right)
GuardsHold-split core cut left right quiet_left quiet_right guards seat number view first rest item at pass split later =
    elim (at_split core cut left right seat view at) [
      | is_left p e ↦ subst Quiet e (λ own known. quiet_left number first rest item own split known) pass later
      | is_right p e ↦ subst Quiet e (λ own known. quiet_right number first item own) pass later
      | is_other p old ↦ guards seat number view first rest item old pass split later
    ]
  where
    Quiet : View → Type 0
    Quiet v = IsPass v number → length (own_known v) ≤ length first → IsQuiet core.config v first item

pub GuardsHold-opens : (before after : Core) → Opens before after → GuardsHold before → GuardsHold after
GuardsHold-opens before after opens guards =
    let c = before.config in
    subst GuardsHold (sym opens.result)
    (GuardsHold-split before opens.seat (blank_view c (Pass opens.number 0)) (blank_view c (Pass (suc opens.number) opens.further))
    (λ number first rest item pass split later. blank-quiet c (Pass opens.number 0) first item)
    (λ number first item pass. blank-quiet c (Pass (suc opens.number) opens.further) first item) guards)

pub GuardsHold-visits : (before after : Core) → Visits before after → GuardsHold before → GuardsHold after
GuardsHold-visits before after visits guards =
    subst GuardsHold (sym visits.result)
    (GuardsHold-split before visits.seat visits.view (visitor_of visits.view)
    (λ number first rest item pass split later. guards visits.seat number visits.view first rest item visits.at pass split later)
    (λ number first item pass. absurd (none-some number pass)) guards)

-- what a pass knew by itself is a first part of what it knows
known_less : (o : Option Joined) (known : List Item) → IfSome o (λ j. IsPrefix j.own known × IsPrefix j.other known) → length (known_alone o known) ≤ length known
known_less None known h = omega arith
known_less (Some j) known h = let lengths = ap length h.0.1 in omega (arith, length-append j.own h.0.0)

pub own-less : (view : View) → IfSome view.joined (λ j. IsPrefix j.own view.known × IsPrefix j.other view.known) → length (own_known view) ≤ length view.known
own-less view h = known_less view.joined view.known h

-- the pass has for itself what it had
joined-owned : (c : Config) (view visitor : View) (name : Name) → Owns c (joined_view view visitor) name → Owns c view name
joined-owned c view visitor name (by_lock lock mode holds e) = by_lock lock mode holds e
joined-owned c view visitor name (by_creation i e h) = by_creation i e h
joined-owned c view visitor name (by_batch batch among e) = by_batch batch among e
joined-owned c view visitor name (by_mark batch m among marked h) = by_mark batch m among marked h
joined-owned c view visitor name (by_node n among e) = by_node n among e
joined-owned c view visitor name (by_update h) = by_update h

-- and what it had it has
owned-joined : (c : Config) (view visitor : View) (name : Name) → Owns c view name → Owns c (joined_view view visitor) name
owned-joined c view visitor name (by_lock lock mode holds e) = by_lock lock mode holds e
owned-joined c view visitor name (by_creation i e h) = by_creation i e h
owned-joined c view visitor name (by_batch batch among e) = by_batch batch among e
owned-joined c view visitor name (by_mark batch m among marked h) = by_mark batch m among marked h
owned-joined c view visitor name (by_node n among e) = by_node n among e
owned-joined c view visitor name (by_update h) = by_update h

pub joined-unquiet : (c : Config) (view visitor : View) (first : List Item) (item : Item) → IsQuiet c (joined_view view visitor) first item → IsQuiet c view first item
joined-unquiet c view visitor first item quiet = record { others = λ owns. quiet.others (owned-joined c view visitor item.name owns); body = quiet.body; location = quiet.location }

joined-quiet : (c : Config) (view visitor : View) (first : List Item) (item : Item) → IsQuiet c view first item → IsQuiet c (joined_view view visitor) first item
joined-quiet c view visitor first item quiet = record { others = λ owns. quiet.others (joined-owned c view visitor item.name owns); body = quiet.body; location = quiet.location }

module _ (before after : Core) (joins : Joins before after) (formed : IsFormed before) (guards : GuardsHold before) where
  join_quiet : (seat number : ℕ) (view : View) (first rest : List Item) (item : Item) → AfterJoin before joins.seat joins.other (joined_view joins.view joins.visitor) seat view
      → IsPass view number → before.log ≡ first ++ item ∷ rest → length (own_known view) ≤ length first → IsQuiet before.config view first item
  join_quiet seat number view first rest item (is_spent e) pass split later =
      absurd (none-some number (ap (λ (v : View). number_of v) e ∙ pass))
  join_quiet seat number view first rest item (is_joined p e) pass split later =
      let joined = joined_view joins.view joins.visitor in
      let sound = formed.views joins.seat joins.view joins.at (unspent_pass joins.view.role joins.number joins.pass) in
      let known : length joins.view.known ≤ length first = subst (λ (v : View). length (own_known v) ≤ length first) (sym e) later in
      subst (λ (v : View). IsQuiet before.config v first item) e
      (joined-quiet before.config joins.view joins.visitor first item
      (guards joins.seat joins.number joins.view first rest item joins.at joins.pass split (omega (arith, own-less joins.view sound.joined))))
  join_quiet seat number view first rest item (is_old e) pass split later = guards seat number view first rest item e pass split later

pub GuardsHold-joins : (before after : Core) → Joins before after → IsFormed before → GuardsHold before → GuardsHold after
GuardsHold-joins before after joins formed guards =
    let joined = joined_view joins.view joins.visitor in
    let proof : GuardsHold (record before { views = set (set before.views joins.seat joined) joins.other spent_view }) =
    λ seat number view first rest item at pass split later.
    join_quiet before after joins formed guards seat number view first rest item (at_join before joins.seat joins.other joined seat view at) pass split later
    in
    subst GuardsHold (sym joins.result) proof

pub GuardsHold-opening : (c : Config) → GuardsHold (opening c)
GuardsHold-opening c seat number view [] rest item at pass split later = let lengths = ap length split in absurd (omega arith)
GuardsHold-opening c seat number view (f ∷ first) rest item at pass split later = let lengths = ap length split in absurd (omega arith)

-- ---- what a caller under a lock needs

-- a list cut at one of its elements
cut_at : {X : Type 0} (xs : List X) (k : ℕ) (d : X) → k < length xs → xs ≡ take k xs ++ slice_index_or xs k d ∷ drop (suc k) xs
cut_at xs k d below = sym (set-get_or xs k d) ∙ set_split xs k (slice_index_or xs k d) below

-- a word that a pass has for itself is what it was at the pass's last step
module _ (core : Core) (seat number : ℕ) (view : View) (formed : IsFormed core) (guards : GuardsHold core) (at : IsViewAt core seat view) (pass : IsPass view number) where
  abbrev sound : IsSoundView core.config core.log view
  sound = formed.views seat view at (unspent_pass view.role number pass)

  -- what came since the pass's last step
  since_quiet : (early later : List Item) (item : Item) → sound.known.0 ≡ early ++ item ∷ later → IsQuiet core.config view (view.known ++ early) item
  since_quiet early later item parts =
      guards seat number view (view.known ++ early) later item at pass
      (sound.known.1 ∙ (ap (λ (l : List Item). view.known ++ l) parts ∙ sym (append_assoc view.known early (item ∷ later))))
      (omega (arith, length-append view.known early, own-less view sound.joined))

  pub owned-still : (name : Name) → Owns core.config view name → word_of core name ≡ word core.config view.known name
  owned-still name owns =
      let since = sound.known.0 in
      let none : NoneStores since name = λ k d below names.
      let item = slice_index_or since k d in
      let quiet = since_quiet (take k since) (drop (suc k) since) item (cut_at since k d below) in
      quiet.others (subst (Owns core.config view) (sym names) owns)
      in
      ap (λ (l : List Item). word core.config l name) sound.known.1 ∙ word-none core.config view.known since name none

-- what others store while a pass holds the stripe of a live body: none of the words that a creation stores
module _ (c : Config) (view : View) (i : ℕ) (mode : Mode) (holds : Holds view (stripe_of c i) mode) where
  pub live-since : (known since : List Item) → ((early later : List Item) (item : Item) → since ≡ early ++ item ∷ later → IsQuiet c view (known ++ early) item)
      → 256 ≤ word c known (State i) → (name : Name) → IsBodyWord i name → word c (known ++ since) name ≡ word c known name
  live-since known [] quiet live name of_body = ap (λ (l : List Item). word c l name) (append-nil known)
  live-since known (item ∷ since) quiet live name of_body =
      let first : IsQuiet c view known item = subst (λ (l : List Item). IsQuiet c view l item) (append-nil known) (quiet [] since item refl) in
      let apart : (n : Name) → IsBodyWord i n → item.name ≢ n = λ n own same.
      let dead = first.body i mode holds (subst (IsBodyWord i) (sym same) own) in
      absurd (omega arith)
      in
      let later : (early rest : List Item) (next : Item) → since ≡ early ++ next ∷ rest → IsQuiet c view ((known ++ item ∷ []) ++ early) next = λ early rest next parts.
      subst (λ (l : List Item). IsQuiet c view l next) (sym (append_assoc known (item ∷ []) early)) (quiet (item ∷ early) rest next (ap (λ (l : List Item). item ∷ l) parts))
      in
      let state = word-other c known item (State i) (apart (State i) refl) in
      ap (λ (l : List Item). word c l name) (sym (append_assoc known (item ∷ []) since))
      ∙ (live-since (known ++ item ∷ []) since later (omega arith) name of_body ∙ word-other c known item name (apart name of_body))

-- so the words of a live body stand still for who holds its stripe, in either mode
pub live-still : (core : Core) (seat number : ℕ) (view : View) (i : ℕ) (mode : Mode) (name : Name) → IsFormed core → GuardsHold core → IsViewAt core seat view → IsPass view number
    → Holds view (stripe_of core.config i) mode → 256 ≤ word core.config view.known (State i) → IsBodyWord i name → word_of core name ≡ word core.config view.known name
live-still core seat number view i mode name formed guards at pass holds live of_body =
    let known = (formed.views seat view at (unspent_pass view.role number pass)).known in
    ap (λ (l : List Item). word core.config l name) known.1
    ∙ live-since core.config view i mode holds view.known known.0 (since_quiet core seat number view formed guards at pass) live name of_body
