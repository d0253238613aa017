use Rattle.std.proofs.Common.{inl, inr, refl, ap}
use Rattle.scene_model.specs.declared.body_view.Phase.TheVariants.{Held, In}
use Rattle.pass_table.specs.Passes.{view_of}
use Rattle.body_look.specs.Found.{phase_found}
use Rattle.body_slots.proofs.DestroyTurns.{found-gone, found-used}
use Rattle.body_slots.proofs.WholeDestroy.{out-on}
use Rattle.body_slots.proofs.whole_destroy.destroy_found.Goals as goal

pub returns-in-Gone-clause-keeps : goal.returns-in-Gone-clause-keeps
returns-in-Gone-clause-keeps g c = λ start begun looked. found-gone c.args.id start (view_of c.args.pass.now) c.args.found c.in-Gone.state c.in-Gone.is looked

pub destroy_out-requires-clause-found : goal.destroy_out-requires-clause-found
destroy_out-requires-clause-found g c = let way = c.requires.looked in (way.0, way.1, out-on c.args.id (view_of c.args.pass.now) c.args.found c.in-Out.is way.0 way.1 way.2)

pub returns-in-Out-clause-keeps : goal.returns-in-Out-clause-keeps
returns-in-Out-clause-keeps g c = λ start begun looked. c.destroy_out.ensures.keeps start begun (out-on c.args.id (view_of c.args.pass.now) c.args.found c.in-Out.is start begun looked)

pub returns-in-Held-clause-keeps : goal.returns-in-Held-clause-keeps
returns-in-Held-clause-keeps g c = λ start begun looked. found-used c.args.id start (view_of c.args.pass.now) c.args.found Held (ap phase_found c.in-Held.is) (inl refl) looked

pub returns-in-In-clause-keeps : goal.returns-in-In-clause-keeps
returns-in-In-clause-keeps g c = λ start begun looked. found-used c.args.id start (view_of c.args.pass.now) c.args.found In (ap phase_found c.in-In.is) (inr refl) looked

pub returns-in-Joined-clause-keeps : goal.returns-in-Joined-clause-keeps
returns-in-Joined-clause-keeps g c = λ start begun looked. found-used c.args.id start (view_of c.args.pass.now) c.args.found In (ap phase_found c.in-Joined.is) (inr refl) looked
