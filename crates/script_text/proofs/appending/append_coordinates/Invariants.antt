use Rattle.std.proofs.Common.{◌≡◌, ◌∷◌, ◌++◌, take}
use Rattle.std.specs.List.{flat_map}
use Rattle.std.specs.Fmt.{signed_decimal}
use Rattle.script_text.proofs.appending.append_coordinates.Given as goal

-- the coordinates so far stand at the end
abbrev pub invariant-loop-c : goal.invariant-loop-c
invariant-loop-c l = l.out.items ≡ l.fn.out.items ++ flat_map (λ c. 32 ∷ signed_decimal c.value) (take l.c-index l.corner)
