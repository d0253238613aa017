-- What is read of a body whose lock is held.
use Rattle.std.specs.Prelude.{◌≡◌, ℕ, ◌+◌, ◌<◌, ◌≤◌, List, [], ◌∷◌, Some, None}
use Rattle.body_ident.specs.Id.{Id, id_of}
use Rattle.scene_model.specs.declared.body_view.BodyView.{BodyView}
use Rattle.scene_model.specs.declared.entry.Entry.TheVariants.{SetUser}
use Rattle.scene_model.specs.Scene.{Record, record_at}
use Rattle.scene_model.specs.History.{creations_in}
use Rattle.scene_model.specs.Query.{view_of}
use Rattle.word_map.specs.declared.config.Config.{Config}
use Rattle.word_map.specs.declared.name.Name.TheVariants.{User}
use Rattle.core_state.specs.declared.item.Item.{Item}
use Rattle.core_state.specs.declared.view.View.{View}
use Rattle.core_state.specs.Log.{history}
use Rattle.core_state.specs.Guards.{scene_at}
use Rattle.pass_table.specs.Turning.{MadeBy}
use Rattle.pass_table.specs.Calls.{Advances}
use Rattle.pass_table.specs.Bodies.{IsCurrent}

-- The body that the id names is live after this log, and it is what the view shows. It is the one that was created as the
-- g-th at its index, where the pass knew of this creation before, and fewer than 256 more were made there
pub record IsSeenAt (c : Config) (known : List Item) (id : Id) (shown : BodyView) (log : List Item) : Type 0 where
  pub body : Record
  pub live : record_at (scene_at c log) id.index ≡ Some body
  pub shows : view_of id.index body ≡ shown
  pub names : shown.id ≡ id
  pub generation : (g : ℕ) → id ≡ id_of id.index g → g ≤ creations_in id.index (history known) → creations_in id.index (history log) < g + 256 → body.generation ≡ g

-- what a pass stores that gives a body another user number
abbrev pub user_item : ℕ → ℕ → ℕ → Item
user_item number index user = record { pass = number; name = User index; value = user; entry = Some (SetUser index user) }

-- it was stored, after what others did, and all but what the pass knows is as it was
pub record HasSetUser (view next : View) (number index user : ℕ) : Type 0 where
  pub stored : Advances view next (user_item number index user ∷ [])
  pub made : MadeBy view next (Some (record { pass = number; entry = SetUser index user }))
  pub now : IsCurrent next
  pub rest : next ≡ record view { known = next.known; joined = None }
