-- What is told of a script that main gives alone: the answers, one for each line.
use Rattle.std.proofs.Common.{◌≡◌, ℕ, suc, ◌+◌, ◌≤◌, true, false, cond, eqb, Bool, List, [], ◌∷◌, ◌++◌, length, Option, Some, None, refl, ap, sym, ◌∙◌, true≢false, arith, All}
use Rattle.std.specs.Prelude.{option_map}
use Rattle.std.specs.List.{find}
use Rattle.std.specs.Option.{unwrap_or}
use Rattle.std.proofs.lemmas.List.{append-nil}
use Rattle.std.proofs.lemmas.List.Concat.{flat_map-cons}
use Rattle.std.proofs.lemmas.List.Elements.{All-nil, All-cons}
use Rattle.scene_model.specs.declared.entry.Entry.{Entry}
use Rattle.script_player.specs.Exchange.{Exchange}
use Rattle.script_player.specs.Prepared.{Prepared, prepared_by, prepared_from}
use Rattle.script_player.specs.Event.{Event, exchanges_told, known_before, made_by_events}
use Rattle.script_player.specs.Open.{open_from, preparing_from, tokens_from}
use Rattle.script_player.specs.Ordered.{IsAfter}
use Rattle.script_player.specs.Held.{held_above, given_back, joined_above, held_beside}
use Rattle.script_player.specs.Alone.{event_alone, events_alone}
use Rattle.script_player.proofs.Entries.{made_in, made_in-length}

pub exchanges_of_events : (es : List Exchange) (place from : ℕ) → exchanges_told (events_alone place from es) ≡ es
exchanges_of_events [] place from = refl
exchanges_of_events (x ∷ es) place from =
    ap (λ (xs : List Exchange). x ∷ xs) (exchanges_of_events es (place + 1) (from + length x.made))

pub events_length : (es : List Exchange) (place from : ℕ) → length (events_alone place from es) ≡ length es
events_length [] place from = refl
events_length (x ∷ es) place from = ap (λ (n : ℕ). suc n) (events_length es (place + 1) (from + length x.made))

-- one command more
pub events_snoc : (es : List Exchange) (e : Exchange) (place from last to : ℕ) → place + length es ≡ last → from + length (made_in es) ≡ to
    → events_alone place from (es ++ e ∷ []) ≡ events_alone place from es ++ event_alone last to e ∷ []
events_snoc [] e place from last to p f =
    let same_place : place ≡ last = omega (arith, p) in
    let same_from : from ≡ to = omega (arith, f) in
    ap (λ (k : ℕ). event_alone k from e ∷ []) same_place ∙ ap (λ (k : ℕ). event_alone last k e ∷ []) same_from
events_snoc (x ∷ es) e place from last to p f =
    ap (λ (ts : List Event). event_alone place from x ∷ ts)
    (events_snoc es e (place + 1) (from + length x.made) last to (omega (arith, p)) (omega (arith, f, made_in-length x es)))

-- all that was answered is known
pub known_alone : (es : List Exchange) (p f place from : ℕ) (q : Exchange)
    → known_before (event_alone p f q) (events_alone place from es) ≡ events_alone place from es
known_alone [] p f place from q = refl
known_alone (x ∷ es) p f place from q =
    ap (λ (ts : List Event). event_alone place from x ∷ ts) (known_alone es p f (place + 1) (from + length x.made) q)

-- ---- nothing is unfinished, and there is no token

pub none_open : (es : List Exchange) (caller place from : ℕ) → open_from caller None (events_alone place from es) ≡ None
none_open [] caller place from = refl
none_open (x ∷ es) caller place from =
    let later = events_alone (place + 1) (from + length x.made) es in
    ap (λ (o : Option Event). open_from caller o later) (same_cond None (eqb 0 caller))
    ∙ none_open es caller (place + 1) (from + length x.made)
  where
    same_cond : (o : Option Event) (b : Bool) → cond b o o ≡ o
    same_cond o true = refl
    same_cond o false = refl

pub none_preparing : (es above : List Exchange) (place from : ℕ) → preparing_from above [] (events_alone place from es) ≡ []
none_preparing [] above place from = refl
none_preparing (x ∷ es) above place from = none_preparing es (above ++ x ∷ []) (place + 1) (from + length x.made)

pub no_token : (es : List Exchange) (place from : ℕ) → tokens_from [] (events_alone place from es) ≡ []
no_token [] place from = refl
no_token (x ∷ es) place from = no_token es (place + 1) (from + length x.made)

-- so main's own pass carries all out
pub carried_alone : (test : Event → Bool) (es : List Exchange) (place from : ℕ)
    → unwrap_or (option_map (λ (e : Event). e.pass) (find test (events_alone place from es))) 0 ≡ 0
carried_alone test [] place from = refl
carried_alone test (x ∷ es) place from =
    let later = events_alone (place + 1) (from + length x.made) es in
    by_test (test (event_alone place from x)) (event_alone place from x) refl later (carried_alone test es (place + 1) (from + length x.made))
  where
    by_test : (b : Bool) (e : Event) → e.pass ≡ 0 → (later : List Event) → unwrap_or (option_map (λ (e : Event). e.pass) (find test later)) 0 ≡ 0
        → unwrap_or (option_map (λ (e : Event). e.pass) (cond b (Some e) (find test later))) 0 ≡ 0
    by_test true e same later h = same
    by_test false e same later h = h

-- ---- the entries of a pass

pub made_alone_own : (pass : ℕ) (es : List Exchange) (place from : ℕ) → eqb 0 pass ≡ true → made_by_events 1 pass (events_alone place from es) ≡ made_in es
made_alone_own pass [] place from own = refl
made_alone_own pass (x ∷ es) place from own =
    let later = made_by_events 1 pass (events_alone (place + 1) (from + length x.made) es) in
    ap (λ b. (cond b x.made [] ++ []) ++ later) own
    ∙ ap (λ (m : List Entry). m ++ later) (append-nil x.made)
    ∙ ap (λ (m : List Entry). x.made ++ m) (made_alone_own pass es (place + 1) (from + length x.made) own)
    ∙ sym (flat_map-cons (λ (e : Exchange). e.made) x es)

pub made_alone_other : (pass : ℕ) (es : List Exchange) (place from : ℕ) → eqb 0 pass ≡ false → made_by_events 1 pass (events_alone place from es) ≡ []
made_alone_other pass [] place from other = refl
made_alone_other pass (x ∷ es) place from other =
    let later = made_by_events 1 pass (events_alone (place + 1) (from + length x.made) es) in
    ap (λ b. (cond b x.made [] ++ []) ++ later) other ∙ made_alone_other pass es (place + 1) (from + length x.made) other

-- ---- what a command sees

pub held_alone : (layers p f : ℕ) (q : Exchange) (es : List Exchange) (above : List Exchange) (held : List Prepared) (place from : ℕ)
    → held_above layers (event_alone p f q) above held (events_alone place from es) ≡ prepared_from held es
held_alone layers p f q [] above held place from = refl
held_alone layers p f q (x ∷ es) above held place from =
    held_alone layers p f q es (above ++ x ∷ []) (prepared_by held x.command x.reply x.made) (place + 1) (from + length x.made)

pub none_beside : (layers p f : ℕ) (q : Exchange) (es : List Exchange) (above : List Exchange) (place from : ℕ)
    → held_beside layers (event_alone p f q) above (events_alone place from es) ≡ []
none_beside layers p f q [] above place from = refl
none_beside layers p f q (x ∷ es) above place from = none_beside layers p f q es (above ++ x ∷ []) (place + 1) (from + length x.made)

not_given_back : (item e : Event) (passes : List ℕ) (es : List Exchange) (place from : ℕ) → given_back item e passes (events_alone place from es) ≡ false
not_given_back item e passes [] place from = refl
not_given_back item e passes (x ∷ es) place from = not_given_back item e passes es (place + 1) (from + length x.made)

pub joined_alone : (item : Event) (es : List Exchange) (place from : ℕ) → joined_above item (events_alone place from es) ≡ made_in es
joined_alone item [] place from = refl
joined_alone item (x ∷ es) place from =
    let later = events_alone (place + 1) (from + length x.made) es in
    ap (λ b. cond b [] x.made ++ joined_above item later) (not_given_back item (event_alone place from x) [] es (place + 1) (from + length x.made))
    ∙ ap (λ (m : List Entry). x.made ++ m) (joined_alone item es (place + 1) (from + length x.made))
    ∙ sym (flat_map-cons (λ (e : Exchange). e.made) x es)

-- ---- the order of the spans

pub after_alone : (p f : ℕ) (q : Exchange) (es : List Exchange) (place from : ℕ) → from + length (made_in es) ≤ f
    → All (IsAfter (event_alone p f q)) (events_alone place from es)
after_alone p f q [] place from h = All-nil (IsAfter (event_alone p f q))
after_alone p f q (x ∷ es) place from h =
    let size = made_in-length x es in
    All-cons (IsAfter (event_alone p f q)) (event_alone place from x) (events_alone (place + 1) (from + length x.made) es)
    (record { ended = λ _ _. omega (arith, h, size); seen = λ no _ _. absurd (no refl); goes_on = λ _ no. absurd (true≢false (sym no)) })
    (after_alone p f q es (place + 1) (from + length x.made) (omega (arith, h, size)))
