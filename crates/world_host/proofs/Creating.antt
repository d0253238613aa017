-- What a creation answers, told of the scene before it.
use Rattle.std.proofs.Common.{◌≡◌, ℕ, [], ◌∷◌, subst}
use Rattle.fixed_box.specs.declared.fix_box.FixBox.{FixBox}
use Rattle.body_ident.specs.Id.{Id}
use Rattle.scene_model.specs.declared.entry.Entry.TheVariants.{Create}
use Rattle.scene_model.specs.Cause.{IsCauseAt, full}
use Rattle.scene_model.proofs.Full.{next_index-full}
use Rattle.core_state.specs.declared.view.View.{View}
use Rattle.pass_table.specs.declared.pass.Pass.{Pass}
use Rattle.pass_table.specs.Passes.{view_of}
use Rattle.pass_table.specs.Belongings.{belongings_of}
use Rattle.pass_table.specs.Work.{Tells}
use Rattle.body_slots.specs.declared.answers.Full.{Full}
use Rattle.body_slots.specs.Answers.{IsNextId, HasCreated, IsFullAt, WasFull as SaysFull}
use Rattle.world_host.specs.Alone.{scene_of}
use Rattle.world_host.specs.Answers.{WasCreated, WasFull}
use Rattle.world_host.proofs.Points.{point-scene, made-before}
use Rattle.world_host.proofs.Parts.{Part, part-sees, part-leaves}
use Rattle.world_host.proofs.Soundness.{lone-consistent}

pub was-created : (pass : Pass) (start : View) → start.config.passes ≡ 1 → (layer user : ℕ) (bounds : FixBox) (id : Id) → HasCreated layer bounds user start (view_of pass) id → Tells start (view_of pass) []
    → belongings_of (view_of pass) ≡ belongings_of start → WasCreated layer bounds user start (view_of pass) id
was-created pass start one layer user bounds id made tells keeps =
    let entry = Create id.index layer bounds user in
    let part : Part start (view_of pass) (entry ∷ []) = record { adds = made.adds; tells = tells; keeps = keeps } in
    record {
      is = made-before start (view_of pass) entry (λ s. IsNextId s id) (part-sees pass start (entry ∷ []) one part) made.at;
      leaves = part-leaves pass start (entry ∷ []) one part;
    }

pub was-full : (before pass : Pass) → (view_of before).config.passes ≡ 1 → (refused : Full) → SaysFull (view_of before) (view_of pass) refused → Tells (view_of before) (view_of pass) []
    → belongings_of (view_of pass) ≡ belongings_of (view_of before) → WasFull (view_of before) (view_of pass)
was-full before pass one refused says tells keeps =
    let start = view_of before in
    let part : Part start (view_of pass) [] = record { adds = says.adds; tells = tells; keeps = keeps } in
    let here = point-scene start (view_of pass) (IsFullAt start.config refused.head) says.at (part-sees pass start [] one part) in
    record {
      none = (next_index-full start.config.layers (scene_of start) (lone-consistent before)).1 (subst (IsCauseAt full) here says.at.holds.every);
      leaves = part-leaves pass start [] one part;
    }
