-- Several bodies that the one pass of a world reads one after another.
use Rattle.std.proofs.Common.{◌≡◌, ℕ, ◌+◌, ◌<◌, ◌≤◌, List, [], ◌∷◌, ◌++◌, length, get_or, map, take, ap, sym, ◌∙◌, add-one}
use Rattle.std.proofs.lemmas.List.{take_all, map-append}
use Rattle.std.proofs.Math.Seq.{take-suc}
use Rattle.scene_model.specs.Scene.{Scene}
use Rattle.core_state.specs.declared.view.View.{View}
use Rattle.pass_table.specs.declared.pass.Pass.{Pass}
use Rattle.pass_table.specs.declared.world.World.{World}
use Rattle.pass_table.specs.Passes.{view_of}
use Rattle.pass_table.specs.Belongings.{Belongings}
use Rattle.pass_table.proofs.Working.{tells-then}
use Rattle.reply_text.specs.declared.multi.MultiItem.{MultiItem}
use Rattle.script_player.specs.declared.books.Known.{Known}
use Rattle.script_player.specs.Body.{body_of, item_of}
use Rattle.world_host.specs.Alone.{scene_of, IsLone, Leaves}

-- calls that make no entries, one after another
pub leaves-then : (start mid next : View) → Leaves start mid [] → Leaves mid next [] → Leaves start next []
leaves-then start mid next one two = record {
  made = record { scene = two.made.scene ∙ one.made.scene; lawful = tt; config = two.made.config ∙ one.made.config };
  tells = tells-then start mid next [] [] (ap (λ (b : Belongings). b.role) one.keeps) one.tells two.tells;
  keeps = two.keeps ∙ one.keeps;
}

-- what is told of a body in the scene of a view
abbrev pub told_in : View → Known → MultiItem
told_in view known = item_of (body_of (scene_of view) known.id)

-- so many of the bodies were read
pub record HasRead (world : World) (start : View) (pass : Pass) (bodies : List Known) (items : List MultiItem) (i : ℕ) : Type 0 where
  pub lone : IsLone world pass
  pub leaves : Leaves start (view_of pass) []
  pub list : items ≡ map (told_in start) (take i bodies)

pub read_more : (world : World) (start : View) (before after : Pass) (bodies : List Known) (items : List MultiItem) (i : ℕ) (d : Known) (item : MultiItem) → HasRead world start before bodies items i → i < length bodies → IsLone world after
    → Leaves (view_of before) (view_of after) [] → item ≡ told_in (view_of before) (get_or bodies i d) → HasRead world start after bodies (items ++ item ∷ []) (i + 1)
read_more world start before after bodies items i d item h below lone leaves is =
    let next : take (i + 1) bodies ≡ take i bodies ++ get_or bodies i d ∷ [] = rw add-one (take-suc bodies i d below) in
    let same : item ≡ told_in start (get_or bodies i d) = is ∙ ap (λ (s : Scene). item_of (body_of s (get_or bodies i d).id)) h.leaves.made.scene in
    record {
      lone = lone;
      leaves = leaves-then start (view_of before) (view_of after) h.leaves leaves;
      list = (λ j. h.list j ++ same j ∷ []) ∙ (sym (map-append (told_in start) (take i bodies) (get_or bodies i d ∷ [])) ∙ ap (map (told_in start)) (sym next));
    }

pub read_all : (world : World) (start : View) (pass : Pass) (bodies : List Known) (items : List MultiItem) (i : ℕ) → HasRead world start pass bodies items i → length bodies ≤ i → items ≡ map (told_in start) bodies
read_all world start pass bodies items i h end = h.list ∙ ap (map (told_in start)) (take_all i bodies end)
