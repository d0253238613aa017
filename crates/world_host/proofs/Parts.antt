-- Calls of the one pass of a world, one after another.
use Rattle.std.proofs.Common.{◌≡◌, List, [], ◌++◌, ap, ◌∙◌}
use Rattle.scene_model.specs.declared.entry.Entry.{Entry}
use Rattle.core_state.specs.declared.view.View.{View}
use Rattle.pass_table.specs.declared.pass.Pass.{Pass}
use Rattle.pass_table.specs.declared.world.World.{World}
use Rattle.pass_table.specs.Passes.{view_of, IsIdle}
use Rattle.pass_table.specs.Belongings.{Belongings, belongings_of}
use Rattle.pass_table.specs.Calls.{Adds}
use Rattle.pass_table.specs.Work.{Tells}
use Rattle.pass_table.proofs.Working.{adds-then, tells-then}
use Rattle.world_host.specs.Alone.{IsLone, Leaves}
use Rattle.world_host.proofs.Histories.{Sees, alone-sees, alone-leaves}

-- what each call tells of itself
pub record Part (start next : View) (entries : List Entry) : Type 0 where
  pub adds : Adds start next entries
  pub tells : Tells start next []
  pub keeps : belongings_of next ≡ belongings_of start

pub part-then : (start mid next : View) (first second : List Entry) → Part start mid first → Part mid next second → Part start next (first ++ second)
part-then start mid next first second one two =
    let role = ap (λ (b : Belongings). b.role) one.keeps in
    record {
      adds = adds-then start mid next first second role one.adds two.adds;
      tells = tells-then start mid next [] [] role one.tells two.tells;
      keeps = two.keeps ∙ one.keeps;
    }

-- so it leaves the scene
pub part-sees : (pass : Pass) (start : View) (entries : List Entry) → start.config.passes ≡ 1 → Part start (view_of pass) entries → Sees start (view_of pass) entries
part-sees pass start entries one part = alone-sees pass start one part.keeps entries part.adds

pub part-leaves : (pass : Pass) (start : View) (entries : List Entry) → start.config.passes ≡ 1 → Part start (view_of pass) entries → Leaves start (view_of pass) entries
part-leaves pass start entries one part = alone-leaves pass start one part.keeps entries part.adds part.tells

-- and the pass is still the only one of its world
pub lone-after : (world : World) (pass : Pass) (start : View) → start.config.passes ≡ 1 → belongings_of (view_of pass) ≡ belongings_of start → IsIdle world pass → IsLone world pass
lone-after world pass start one keeps idle = record { idle = idle; one = ap (λ (b : Belongings). b.config.passes) keeps ∙ one }
