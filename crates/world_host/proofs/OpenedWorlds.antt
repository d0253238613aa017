-- A world that was just opened for a script.
use Rattle.std.proofs.Common.{◌≡◌, ℕ, ◌^◌, ◌<◌, ◌≤◌, min, false, List, [], ◌∷◌, length, refl, ap, sym, ◌∙◌, subst, arith}
use Rattle.std.specs.Prelude.{count_by, map, IfSome, slice_index_or}
use Rattle.std.specs.List.{range_with_len}
use Rattle.std.proofs.lemmas.List.Elements.{All-nil}
use Rattle.scene_model.specs.Scene.{empty_scene}
use Rattle.scene_model.specs.Query.{live_count, in_count}
use Rattle.word_map.specs.declared.config.Config.{Config}
use Rattle.word_map.specs.Limits.{IsConfig}
use Rattle.core_state.specs.declared.view.Role.TheVariants.{Pass as PassRole}
use Rattle.core_state.specs.declared.view.View.{View}
use Rattle.core_state.specs.View.{blank_view}
use Rattle.pass_table.specs.declared.pass.Pass.{Pass}
use Rattle.pass_table.specs.declared.world.World.{World}
use Rattle.pass_table.specs.Holding.{IsAtRest}
use Rattle.pass_table.specs.Passes.{view_of}
use Rattle.pass_table.specs.Opened.{IsFresh, AreAll}
use Rattle.batch_add.specs.declared.prepared.Prepared.{Prepared}
use Rattle.batch_add.specs.PreparedLists.{batches_of, AreGood}
use Rattle.tree_query.specs.Finding.{room_of}
use Rattle.script_player.specs.Books.{Books, no_books}
use Rattle.script_player.specs.Table.{empty_table}
use Rattle.world_host.specs.declared.serial_world.SerialWorld.{SerialWorld}
use Rattle.world_host.specs.Alone.{scene_of}
use Rattle.world_host.specs.Rooms.{HasRooms, AreTokens}
use Rattle.world_host.specs.Shown.{AreNamesBelow, IsSound, Shows}

-- the first of the passes of a world
pub first-fresh : (world : World) (pass : Pass) (list rest : List Pass) → AreAll world list → list ≡ pass ∷ rest → IsFresh world 0 pass
first-fresh world pass list rest all is =
    let some : 0 < length list = subst (λ (l : List Pass). 0 < length l) (sym is) (omega arith) in
    subst (λ (l : List Pass). IsFresh world 0 (slice_index_or l 0 pass)) is (all.fresh 0 pass some)

none-counted : (ns : List ℕ) → count_by (λ _. false) ns ≡ 0
none-counted [] = refl
none-counted (n ∷ ns) = none-counted ns

module _ (config : Config) where
  abbrev blank : View
  blank = blank_view config (PassRole 0 0)

  blank-rest : IsAtRest blank
  blank-rest = record { free = λ lock. refl; done = refl; still = refl }

  blank-rooms : HasRooms blank no_books
  blank-rooms = record { slots = λ layer below. none-counted (range_with_len 0 config.slots); nodes = omega arith }

module _ (w : SerialWorld) (config : Config) (fits : IsConfig config) (one : config.passes ≡ 1) (sizes : w.world.map ≡ config) (fresh : IsFresh w.world 0 w.pass)
    (room : room_of w.finder ≡ min config.bodies (2 ^ 23)) (books : w.books ≡ no_books) (none : batches_of w.batches ≡ []) (good : AreGood w.batches (view_of w.pass)) (live : w.live ≡ 0) (inside : w.inside ≡ 0) where
  view-blank : view_of w.pass ≡ blank config
  view-blank = fresh.view ∙ ap (λ (c : Config). blank_view c (PassRole 0 0)) sizes

  scene-empty : scene_of (view_of w.pass) ≡ empty_scene config.bodies
  scene-empty = ap scene_of view-blank

  opened-sound : IsSound w
  opened-sound = record {
    lone = record { idle = record { of = fresh.of; rest = subst IsAtRest (sym view-blank) (blank-rest config) }; one = ap (λ (v : View). v.config.passes) view-blank ∙ one };
    rooms = subst (λ (k : Books). HasRooms (view_of w.pass) k) (sym books) (subst (λ (v : View). HasRooms v no_books) (sym view-blank) (blank-rooms config));
    tokens =
        subst (λ (k : Books). AreTokens k.prepared w.batches (view_of w.pass)) (sym books)
        (record { good = good; same = ap (map (λ (p : Prepared). (p.layer, p.indexes.items))) (sym none); nodes = All-nil _ });
    names = subst (λ (k : Books). AreNamesBelow w.world.map.bodies k.known) (sym books) (All-nil (λ o. IfSome o (λ k. k.id.index < w.world.map.bodies)));
    finder =
        let few : config.bodies ≤ 65536 = fits.bodies.1 in
        let same = ap (λ (c : Config). c.bodies) sizes in
        grind (arith, room, few, same);
    live = live ∙ ap live_count (sym scene-empty);
    inside = inside ∙ ap in_count (sym scene-empty);
  }

  pub opened-shows : Shows w (empty_table config)
  opened-shows = record { is = λ i. record { world = sym sizes i; scene = sym scene-empty i; books = sym books i }; sound = opened-sound }
