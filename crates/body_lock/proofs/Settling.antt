-- What was found of several bodies is so at one point.
use Rattle.std.proofs.Common.{◌≡◌, ℕ, ◌%◌, ◌≤◌, List, ◌++◌, ap, sym, ◌∙◌, subst, append_assoc, arith}
use Rattle.body_ident.specs.Id.{Id}
use Rattle.scene_model.specs.declared.entry.Made.{Made}
use Rattle.scene_model.specs.Scene.{record_at}
use Rattle.scene_model.specs.History.{scene_after, IsLawfulHistory, creations_in}
use Rattle.scene_model.specs.Cause.{IsCauseAt, gone}
use Rattle.word_map.specs.declared.config.Config.{Config}
use Rattle.core_state.specs.declared.item.Item.{Item}
use Rattle.core_state.specs.declared.view.Mode.{Mode}
use Rattle.core_state.specs.declared.view.View.{View}
use Rattle.core_state.specs.Log.{history, IsPrefix}
use Rattle.core_state.specs.Guards.{scene_at}
use Rattle.pass_table.specs.Calls.{AtPoint}
use Rattle.body_lock.specs.declared.multi_guard.MultiEntry.{MultiEntry}
use Rattle.body_lock.specs.declared.multi_guard.MultiEntry.TheVariants.{Reached, Gone}
use Rattle.body_lock.specs.declared.multi_guard.LockedBody.{LockedBody}
use Rattle.pass_table.specs.Bodies.{IsGuarding, IsCurrent, IsTold, IsGoneAt}
use Rattle.body_lock.specs.Settled.{NamesCreation, IsLiveAt, IsGoneSince, IsReachSettled, IsEntrySettled}
use Rattle.body_lock.specs.Answers.{IsReachRight, IsEntryRight}
use Rattle.body_lock.proofs.Seeing.{history-append, creations-more}
use Rattle.body_lock.proofs.StayingGone.{stays-gone}
use Rattle.pass_table.proofs.LockedBodies.{tells}

-- a pass held all stripes at one point and holds them still, and knows the whole log
module _ (start held next : View) (reached : IsPrefix start.known held.known) (now : IsCurrent next) (sizes : next.config ≡ start.config) (held_sizes : next.config ≡ held.config) (later : IsPrefix held.known next.known) where
  lawful : IsLawfulHistory next.config.layers next.config.bodies (history next.known)
  lawful =
      subst (λ (c : Config). IsLawfulHistory c.layers c.bodies (history next.known)) now.sizes
      (subst (λ (l : List Item). IsLawfulHistory now.core.config.layers now.core.config.bodies (history l)) (sym now.whole) now.stands.laws.bodies.lawful)

  -- a log that the pass had reached has no fewer creations than what it knew at the start
  grown : (index : ℕ) (since : List Item) → creations_in index (history start.known) ≤ creations_in index (history (held.known ++ since))
  grown index since =
      subst (λ (l : List Item). creations_in index (history start.known) ≤ creations_in index (history l))
      (sym (ap (λ (l : List Item). l ++ since) reached.1 ∙ append_assoc start.known reached.0 since)) (creations-more index start.known (reached.0 ++ since))

  -- a body that is guarded is live at the end
  live-settled : (number : ℕ) (mode : Mode) (id : Id) → IsGuarding number id mode next → IsLiveAt start.config start.known id next.known
  live-settled number mode id guarding =
      let told : IsTold id next = tells number id mode next guarding now in
      record {
        body = told.body;
        live = ap (λ (c : Config). record_at (scene_at c next.known) id.index) (sym sizes) ∙ told.live;
        sequence = told.sequence;
        generation = λ g creation.
            let latest = told.latest in
            let sequence = told.sequence in
            let seq : id.seq ≡ g % 256 = ap (λ (i : Id). i.seq) creation.names in
            let made = creation.made in
            let few = creation.few in
            let more : creations_in id.index (history start.known) ≤ creations_in id.index (history next.known) =
            subst (λ (l : List Item). creations_in id.index (history start.known) ≤ creations_in id.index (history l)) (sym later.1) (grown id.index later.0)
            in
            omega arith;
      }

  -- and one that was gone since is gone at the end
  gone-settled : (id : Id) (state : ℕ) → AtPoint held next (IsGoneAt held.config id state) → IsGoneSince start.config start.known id next.known
  gone-settled id state point g creation =
      let early = held.known ++ point.since in
      let parts : history next.known ≡ history early ++ history point.later = ap history point.parts ∙ history-append early point.later in
      let made = creation.made in
      let more = grown id.index point.since in
      let here : NamesCreation id g (history early) (history early ++ history point.later) =
      subst (NamesCreation id g (history early)) parts (record { names = creation.names; made = omega arith; few = creation.few })
      in
      let none : IsCauseAt (gone id) (scene_after next.config.bodies (history early)) = subst (λ (c : Config). IsCauseAt (gone id) (scene_at c early)) (sym held_sizes) point.holds.cause in
      let end : IsCauseAt (gone id) (scene_after next.config.bodies (history early ++ history point.later)) =
      stays-gone next.config.layers next.config.bodies id g (history early) (history point.later)
      (subst (IsLawfulHistory next.config.layers next.config.bodies) parts lawful) here none
      in
      subst (λ (c : Config). IsCauseAt (gone id) (scene_at c next.known)) sizes (subst (λ (l : List Made). IsCauseAt (gone id) (scene_after next.config.bodies l)) (sym parts) end)

  reach-settled : (number : ℕ) (mode : Mode) (id : Id) (entry : MultiEntry) → IsReachRight number mode held next id entry → IsReachSettled start.config start.known next.known id entry
  reach-settled number mode id Reached right = live-settled number mode id right
  reach-settled number mode id (Gone state) right = gone-settled id state right

  pub entry-settled : (number : ℕ) (mode : Mode) (body : LockedBody) → IsEntryRight number mode held next body → IsEntrySettled start.config start.known next.known body
  entry-settled number mode body right = reach-settled number mode body.id body.entry right
