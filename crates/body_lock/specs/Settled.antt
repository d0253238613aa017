-- What is so of several bodies at one point.
use Rattle.std.specs.Prelude.{◌≡◌, ℕ, ◌+◌, ◌%◌, ◌<◌, ◌≤◌, List, Some}
use Rattle.body_ident.specs.Id.{Id, id_of}
use Rattle.scene_model.specs.declared.entry.Made.{Made}
use Rattle.scene_model.specs.Scene.{Record, record_at}
use Rattle.scene_model.specs.History.{creations_in}
use Rattle.scene_model.specs.Cause.{IsCauseAt, gone}
use Rattle.word_map.specs.declared.config.Config.{Config}
use Rattle.core_state.specs.declared.item.Item.{Item}
use Rattle.core_state.specs.Log.{history}
use Rattle.core_state.specs.Guards.{scene_at}
use Rattle.body_lock.specs.declared.multi_guard.MultiEntry.{MultiEntry}
use Rattle.body_lock.specs.declared.multi_guard.MultiEntry.TheVariants.{Reached, Gone}
use Rattle.body_lock.specs.declared.multi_guard.LockedBody.{LockedBody}

-- The id is that of the g-th creation at its index. The early history has this creation, and in the late one fewer than 256
-- follow it there
pub record NamesCreation (id : Id) (g : ℕ) (early late : List Made) : Type 0 where
  pub names : id ≡ id_of id.index g
  pub made : g ≤ creations_in id.index early
  pub few : creations_in id.index late < g + 256

-- After this log the body that the id names is live. It is the one that was created as the g-th at its index, where the pass
-- knew of this creation before, and fewer than 256 more were made there
pub record IsLiveAt (c : Config) (known : List Item) (id : Id) (log : List Item) : Type 0 where
  pub body : Record
  pub live : record_at (scene_at c log) id.index ≡ Some body
  pub sequence : body.generation % 256 ≡ id.seq
  pub generation : (g : ℕ) → NamesCreation id g (history known) (history log) → body.generation ≡ g

-- after this log no live body has the id, where it is that of a creation of which the pass knew before, and fewer than 256
-- more were made there
abbrev pub IsGoneSince : Config → List Item → Id → List Item → Type 0
IsGoneSince c known id log = (g : ℕ) → NamesCreation id g (history known) (history log) → IsCauseAt (gone id) (scene_at c log)

-- what was found of a body is so after this log
abbrev pub IsReachSettled : Config → List Item → List Item → Id → MultiEntry → Type 0
IsReachSettled c known log id Reached = IsLiveAt c known id log
IsReachSettled c known log id (Gone state) = IsGoneSince c known id log

abbrev pub IsEntrySettled : Config → List Item → List Item → LockedBody → Type 0
IsEntrySettled c known log body = IsReachSettled c known log body.id body.entry
