-- Nothing is a first part of anything; and what holds whatever a call answers.
use Rattle.std.proofs.Common.{ℕ, List, [], Option, Result, Ok, Err, OnOk, OnErr}
use Rattle.world_io.specs.Bytes.{AppendedPart}
use Rattle.world_io.proofs.BytesLemmas.{Appended-nothing, AppendedPart-whole, AppendedPart-longer}

pub nothing_written : (held : Option (List ℕ)) (bytes : List ℕ) → AppendedPart held held bytes
nothing_written held bytes = AppendedPart-longer held held [] bytes (AppendedPart-whole held held [] (Appended-nothing held))

pub on_err_always : {T E P : Type 0} (r : Result T E) → P → OnErr r P
on_err_always (Ok x) p = tt
on_err_always (Err e) p = p

pub on_ok_always : {T E P : Type 0} (r : Result T E) → P → OnOk r P
on_ok_always (Ok x) p = p
on_ok_always (Err e) p = tt
