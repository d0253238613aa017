-- The entries of exchanges, and those of a history that one pass made.
use Rattle.std.proofs.Common.{◌≡◌, ℕ, ◌+◌, true, false, cond, eqb, List, [], ◌∷◌, ◌++◌, length, map, refl, ap, ◌∙◌, length-append}
use Rattle.std.specs.List.{flat_map}
use Rattle.std.proofs.lemmas.List.Concat.{flat_map-cons}
use Rattle.scene_model.specs.declared.entry.Entry.{Entry}
use Rattle.script_text.specs.declared.command.Command.{Command}
use Rattle.script_player.specs.Table.{Table}
use Rattle.script_player.specs.Turn.{turn, table_after}
use Rattle.script_player.specs.Report.{entries_made}
use Rattle.script_player.specs.Standing.{made_alone}
use Rattle.script_player.specs.Exchange.{Exchange, exchanges}
use Rattle.script_player.specs.Span.{entries_by}

abbrev pub made_in : List Exchange → List Entry
made_in es = flat_map (λ (e : Exchange). e.made) es

pub made_in-length : (x : Exchange) (es : List Exchange) → length (made_in (x ∷ es)) ≡ length x.made + length (made_in es)
made_in-length x es = ap (λ (m : List Entry). length m) (flat_map-cons (λ (e : Exchange). e.made) x es) ∙ length-append x.made (made_in es)

pub commands_of_exchanges : (cs : List Command) (table : Table) → map (λ e. e.command) (exchanges table cs) ≡ cs
commands_of_exchanges [] table = refl
commands_of_exchanges (c ∷ cs) table = ap (λ (xs : List Command). c ∷ xs) (commands_of_exchanges cs (table_after table (turn table c)))

pub made_in-exchanges : (cs : List Command) (table : Table) → made_in (exchanges table cs) ≡ entries_made table cs
made_in-exchanges [] table = refl
made_in-exchanges (c ∷ cs) table =
    let t = turn table c in
    let after = table_after table t in
    flat_map-cons (λ (e : Exchange). e.made) (record { command = c; reply = t.reply; made = t.entries }) (exchanges after cs)
    ∙ ap (λ (m : List Entry). t.entries ++ m) (made_in-exchanges cs after)

-- ---- the entries of a pass

pub entries_own : (pass : ℕ) (es : List Entry) → eqb 0 pass ≡ true → entries_by pass (made_alone es) ≡ es
entries_own pass [] own = refl
entries_own pass (e ∷ es) own =
    let later = entries_by pass (made_alone es) in
    ap (λ b. cond b (e ∷ later) later) own ∙ ap (λ (xs : List Entry). e ∷ xs) (entries_own pass es own)

pub entries_other : (pass : ℕ) (es : List Entry) → eqb 0 pass ≡ false → entries_by pass (made_alone es) ≡ []
entries_other pass [] other = refl
entries_other pass (e ∷ es) other =
    let later = entries_by pass (made_alone es) in
    ap (λ b. cond b (e ∷ later) later) other ∙ entries_other pass es other
