-- What others' steps between two turns leave as it was.
use Rattle.std.proofs.Common.{◌≡◌, ℕ, zero, suc, List, ◌∷◌, ◌++◌, Bool, Option, Some, None, Ok, Err, Result, cond, append_assoc, refl, ap, sym, ◌∙◌, subst}
use Rattle.std.proofs.lemmas.Bool.{eq-eqb}
use Rattle.fixed_box.specs.declared.fix_box.FixBox.{FixBox}
use Rattle.body_ident.specs.Id.{Id}
use Rattle.scene_model.specs.declared.entry.Entry.{Entry}
use Rattle.word_map.specs.declared.config.Config.{Config}
use Rattle.word_map.specs.declared.name.Name.{Name}
use Rattle.word_map.specs.declared.name.Name.TheVariants.{SlotHead, SlotNext, State}
use Rattle.word_map.specs.Names.{index_lock}
use Rattle.core_state.specs.declared.item.Item.{Item}
use Rattle.core_state.specs.declared.view.Mode.{Mode}
use Rattle.core_state.specs.declared.view.Mode.TheVariants.{Write}
use Rattle.core_state.specs.declared.view.Task.{Task}
use Rattle.core_state.specs.declared.view.Task.TheVariants.{Creating}
use Rattle.core_state.specs.declared.view.View.{View}
use Rattle.core_state.specs.Log.{IsPrefix}
use Rattle.core_state.specs.View.{Holds}
use Rattle.core_state.specs.Guards.{by_lock, by_creation, guard_of, IsBodyWord}
use Rattle.core_state.specs.Quietly.{IsSteady, of_pass}
use Rattle.pass_table.specs.Knowing.{KnowsMore}
use Rattle.pass_table.specs.Holding.{IsAtRest}
use Rattle.pass_table.specs.TakeTurns.{taking-later}
use Rattle.pass_table.specs.Calls.{Adds}
use Rattle.pass_table.proofs.Calling.{adds-more, point-later, makes-later, steady-more}
use Rattle.pass_table.proofs.TakingTurns.{taking-anew}
use Rattle.pass_table.proofs.WorkLater.{worked-role, worked-more, held-by, one-taken}
use Rattle.pass_table.specs.Work.{IsCalling}
use Rattle.body_slots.specs.declared.answers.Full.{Full}
use Rattle.body_slots.specs.declared.create_op.CreateStage.{CreateStage}
use Rattle.body_slots.specs.declared.create_op.CreateStage.TheVariants.{Taking, Locked, First, Linked, Taken, Fields, Filled, Leaving}
use Rattle.body_slots.specs.declared.create_op.CreateOp.{CreateOp}
use Rattle.body_slots.specs.Answers.{IsCreateAnswer}
use Rattle.body_slots.specs.stages.Creating.{field_name, list_taken, IsTakenOff, AtCreate, CreatesBody}

-- ---- locks

-- the lock of the list is held
pub list-held : (start view : View) (task : Task) (entries : List Entry) → IsAtRest start → IsCalling start view (list_taken start.config) task entries → Holds view (index_lock view.config) Write
list-held start view task entries rest calling = held-by start view _ calling rest index_lock Write (one-taken (index_lock start.config) Write)

-- ---- words

-- a word that the lock of the list guards
pub listed-steady : (view : View) (name : Name) → Holds view (index_lock view.config) Write → guard_of view.config name ≡ Some (index_lock view.config) → IsSteady view name
listed-steady view name holds guarded = of_pass (by_lock (index_lock view.config) Write holds guarded)

-- a word of the body that the pass is to create
pub field_of : (index number : ℕ) → IsBodyWord index (field_name index number)
field_of index zero = refl
field_of index (suc zero) = refl
field_of index (suc (suc side)) = refl

pub created-steady : (view : View) (index : ℕ) (name : Name) → view.call.task ≡ Creating index → IsBodyWord index name → IsSteady view name
created-steady view index name task own = of_pass (by_creation index task own)

-- ---- answers

-- what an answer says stays so while others make steps, or the pass ones without an entry
pub answer-later : (layer : ℕ) (bounds : FixBox) (user : ℕ) (start view next : View) (answer : Result Id Full) → IsPrefix view.known next.known
    → ((entries : List Entry) → Adds start view entries → Adds start next entries) → IsCreateAnswer layer bounds user start view answer → IsCreateAnswer layer bounds user start next answer
answer-later layer bounds user start view next (Ok id) later adds created =
    record { below = created.below; adds = adds _ created.adds; at = makes-later start view next _ _ later created.at }
answer-later layer bounds user start view next (Err refused) later adds was = record { adds = adds _ was.adds; at = point-later start view next _ later was.at }

-- ---- a creation

taken-off-later : (start view next : View) (index : ℕ) → KnowsMore view next → IsTakenOff start view index → IsTakenOff start next index
taken-off-later start view next index more taken =
    record { calling = worked-more start view next _ taken.calling more; below = taken.below }

module _ (first : CreateOp) (start view next : View) (rest : IsAtRest start) (more : KnowsMore view next) where
  stage-later : (stage : CreateStage) → AtCreate first start view stage → AtCreate first start next stage
  stage-later (Taking taking) h = (
    worked-more start view next _ h.0 more,
    taking-anew _ view taking next (taking-later _ view taking view next more h.1),
  )
  stage-later Locked h = worked-more start view next _ h more
  stage-later (First index) h = (
    worked-more start view next _ h.0 more,
    h.1,
    steady-more view next SlotHead more (listed-steady view SlotHead (list-held start view _ _ rest h.0) refl) ∙ h.2,
  )
  stage-later (Linked index link) h =
      let held = list-held start view _ _ rest h.0 in (
        worked-more start view next _ h.0 more,
        h.1,
        steady-more view next SlotHead more (listed-steady view SlotHead held refl) ∙ h.2,
        steady-more view next (SlotNext index) more (listed-steady view (SlotNext index) held refl) ∙ h.3,
      )
  stage-later (Taken index) h = taken-off-later start view next index more h
  stage-later (Fields index state stored) h =
      let task = h.0.calling.doing in (
        taken-off-later start view next index more h.0,
        steady-more view next (State index) more (created-steady view index (State index) task refl) ∙ h.1,
        h.2,
        λ number below. steady-more view next (field_name index number) more (created-steady view index (field_name index number) task (field_of index number)) ∙ h.3 number below,
      )
  stage-later (Filled index state) h =
      let task = h.0.calling.doing in (
        taken-off-later start view next index more h.0,
        steady-more view next (State index) more (created-steady view index (State index) task refl) ∙ h.1,
        λ number below. steady-more view next (field_name index number) more (created-steady view index (field_name index number) task (field_of index number)) ∙ h.2 number below,
      )
  stage-later (Leaving answer) h = (
    h.0,
    worked-more start view next _ h.1 more,
    answer-later first.layer first.bounds first.user start view next answer (more.since, more.known) (λ entries adds. adds-more start view next entries (worked-role start view _ h.1) adds more) h.2,
  )

pub creating-later : (first : CreateOp) (start : View) (operation : CreateOp) (view next : View) → KnowsMore view next → CreatesBody first start operation view → CreatesBody first start operation next
creating-later first start operation view next more making = (making.0, stage-later first start view next making.0.rest more operation.stage making.1)
