-- What a shared world keeps to, from command to command.
use Rattle.std.proofs.Common.{◌≡◌, ℕ, ◌+◌, ◌≤◌, List, ap, sym, subst, arith}
use Rattle.std.specs.Prelude.{count_by, sum_by, fold, ◌==◌}
use Rattle.scene_model.specs.declared.entry.Entry.{Entry}
use Rattle.scene_model.specs.Step.{after_entry}
use Rattle.scene_model.specs.Query.{live_count, in_count}
use Rattle.scene_model.specs.Consistent.{IsConsistent}
use Rattle.scene_model.proofs.Histories.{IsConsistent-scene_after}
use Rattle.word_map.specs.declared.config.Config.{Config}
use Rattle.core_state.specs.Log.{history}
use Rattle.pass_table.specs.declared.pass.Pass.{Pass}
use Rattle.pass_table.specs.Passes.{view_of}
use Rattle.pass_table.specs.Belongings.{Belongings, belongings_of}
use Rattle.pass_table.proofs.Current.{knows-lawful}
use Rattle.batch_add.specs.declared.prepared_list.PreparedList.{PreparedList}
use Rattle.batch_add.specs.PreparedLists.{batches_of, AllGood}
use Rattle.tree_query.specs.Finding.{room_of}
use Rattle.script_player.specs.declared.books.Batch.{Batch}
use Rattle.script_player.specs.Table.{table_with}
use Rattle.world_host.specs.declared.serial_world.SerialWorld.{SerialWorld}
use Rattle.world_host.specs.Alone.{scene_of, IsLone, MakesEntries}
use Rattle.world_host.specs.Rooms.{HasRooms, AreTokens}
use Rattle.world_host.specs.Counted.{CountsLive, CountsInside}
use Rattle.world_host.specs.Shown.{table_of, AreNamesBelow, IsSound}
use Rattle.world_host.proofs.KeptRooms.{RoomStays, rooms-stay}
use Rattle.world_host.proofs.LiveCounts.{live-counted, in-counted}

-- the scene that a pass knows is consistent
pub lone-consistent : (pass : Pass) → IsConsistent (view_of pass).config.layers (scene_of (view_of pass))
lone-consistent pass = IsConsistent-scene_after (view_of pass).config.layers (view_of pass).config.bodies (history (view_of pass).known) (knows-lawful (view_of pass) pass.current)

-- the world after entries, by which the bodies are counted
pub record Goes (a b : SerialWorld) (entries : List Entry) : Type 0 where
  pub sizes : b.world.map ≡ a.world.map
  pub lone : IsLone b.world b.pass
  pub made : MakesEntries (view_of a.pass) (view_of b.pass) entries
  pub live : CountsLive entries a.live b.live
  pub inside : CountsInside entries a.inside b.inside

-- the counts are right again
pub live-goes : (a b : SerialWorld) (entries : List Entry) → Goes a b entries → a.live ≡ live_count (scene_of (view_of a.pass)) → b.live ≡ live_count (scene_of (view_of b.pass))
live-goes a b entries goes is =
    let start = view_of a.pass in
    let counted = live-counted start.config.layers entries (scene_of start) (lone-consistent a.pass) goes.made.lawful in
    let after : live_count (scene_of (view_of b.pass)) ≡ live_count (fold after_entry (scene_of start) entries) = ap live_count goes.made.scene in
    let own = goes.live in
    omega (arith, counted, after, own, is)

pub inside-goes : (a b : SerialWorld) (entries : List Entry) → Goes a b entries → a.inside ≡ in_count (scene_of (view_of a.pass)) → b.inside ≡ in_count (scene_of (view_of b.pass))
inside-goes a b entries goes is =
    let start = view_of a.pass in
    let counted = in-counted start.config.layers entries (scene_of start) (lone-consistent a.pass) goes.made.lawful in
    let after : in_count (scene_of (view_of b.pass)) ≡ in_count (fold after_entry (scene_of start) entries) = ap in_count goes.made.scene in
    let own = goes.inside in
    omega (arith, counted, after, own, is)

pub table-goes : (a b : SerialWorld) (entries : List Entry) → Goes a b entries → table_of b ≡ table_with (table_of a) entries b.books
table-goes a b entries goes = λ i. record { world = goes.sizes i; scene = goes.made.scene i; books = b.books }

-- a call that has to do with no batch
pub record Stays (a b : SerialWorld) : Type 0 where
  pub keeps : belongings_of (view_of b.pass) ≡ belongings_of (view_of a.pass)
  pub room : RoomStays (view_of a.pass) (view_of b.pass)
  pub batches : b.batches ≡ a.batches
  pub finder : room_of b.finder ≡ room_of a.finder
  pub prepared : b.books.prepared ≡ a.books.prepared
  pub attached : b.books.attached ≡ a.books.attached
  pub names : AreNamesBelow b.world.map.bodies b.books.known

tokens-stay : (a b : SerialWorld) → Stays a b → AreTokens a.books.prepared a.batches (view_of a.pass) → AreTokens b.books.prepared b.batches (view_of b.pass)
tokens-stay a b stays tokens =
    subst (λ (list : List Batch). AreTokens list b.batches (view_of b.pass)) (sym stays.prepared)
    (subst (λ (list : PreparedList). AreTokens a.books.prepared list (view_of b.pass)) (sym stays.batches)
    (record { good = subst (λ (has : Belongings). AllGood (batches_of a.batches) has) (sym stays.keeps) tokens.good; same = tokens.same; nodes = tokens.nodes }))

pub sound-stays : (a b : SerialWorld) (entries : List Entry) → IsSound a → Goes a b entries → Stays a b → IsSound b
sound-stays a b entries sound goes stays = record {
  lone = goes.lone;
  rooms =
      rooms-stay (view_of a.pass) (view_of b.pass) a.books b.books stays.room
      (λ layer i. count_by (λ p. p.layer == layer) (stays.prepared i) + count_by (λ t. t.layer == layer) (stays.attached i))
      (λ i. sum_by (λ p. p.nodes) (stays.prepared i) + sum_by (λ t. t.nodes) (stays.attached i)) sound.rooms;
  tokens = tokens-stay a b stays sound.tokens;
  names = stays.names;
  finder = subst (λ (n : ℕ). n ≤ room_of b.finder) (sym (ap (λ (c : Config). c.bodies) goes.sizes)) (subst (λ (n : ℕ). a.world.map.bodies ≤ n) (sym stays.finder) sound.finder);
  live = live-goes a b entries goes sound.live;
  inside = inside-goes a b entries goes sound.inside;
}

-- after a call on batches, where what is left of room and batches is what the books say
pub sound-goes : (a b : SerialWorld) (entries : List Entry) → IsSound a → Goes a b entries → HasRooms (view_of b.pass) b.books → AreTokens b.books.prepared b.batches (view_of b.pass) → room_of b.finder ≡ room_of a.finder
    → b.books.known ≡ a.books.known → IsSound b
sound-goes a b entries sound goes rooms tokens finder known = record {
  lone = goes.lone;
  rooms = rooms;
  tokens = tokens;
  names =
      subst (AreNamesBelow b.world.map.bodies) (sym known)
      (subst (λ (n : ℕ). AreNamesBelow n a.books.known) (sym (ap (λ (c : Config). c.bodies) goes.sizes)) sound.names);
  finder = subst (λ (n : ℕ). n ≤ room_of b.finder) (sym (ap (λ (c : Config). c.bodies) goes.sizes)) (subst (λ (n : ℕ). a.world.map.bodies ≤ n) (sym finder) sound.finder);
  live = live-goes a b entries goes sound.live;
  inside = inside-goes a b entries goes sound.inside;
}
