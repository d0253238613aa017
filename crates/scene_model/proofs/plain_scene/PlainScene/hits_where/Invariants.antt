use Rattle.std.proofs.Common.{◌≡◌, Bool, filter_map}
use Rattle.std.specs.List.{range_with_len}
use Rattle.std.specs.Fn.{FnReturnsAt}
use Rattle.fixed_box.specs.declared.fix_box.FixBox.{FixBox}
use Rattle.scene_model.specs.Query.{hit_at}
use Rattle.scene_model.proofs.plain_scene.PlainScene.hits_where.Given as goal

-- the hits at the indexes passed so far were found
abbrev pub invariant-loop-index : goal.invariant-loop-index
invariant-loop-index g l =
    (t : FixBox → Bool) → ((b : FixBox) (r : Bool) → FnReturnsAt g.F.Fn l.test b r → r ≡ t b)
    → l.found.items ≡ filter_map (hit_at t l.mask l.self) (range_with_len 0 l.index)
