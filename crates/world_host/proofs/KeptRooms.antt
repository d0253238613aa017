-- Calls that store no word of a slot and not that of the free nodes leave the room for batches as it is.
use Rattle.std.proofs.Common.{◌≡◌, ℕ, ◌+◌, ◌<◌, List, [], refl, ap, sym, ◌∙◌, subst}
use Rattle.std.specs.Prelude.{fold, count_by, nat_lt}
use Rattle.std.specs.List.{range_with_len}
use Rattle.word_map.specs.declared.config.Config.{Config}
use Rattle.word_map.specs.declared.name.Name.TheVariants.{Slot, PoolFree}
use Rattle.core_state.specs.declared.item.Store.{Store}
use Rattle.core_state.specs.declared.view.View.{View}
use Rattle.core_state.specs.View.{known_word}
use Rattle.pass_table.specs.Belongings.{Belongings, belongings_of}
use Rattle.pass_table.specs.Several.{KnowsOwn}
use Rattle.pass_table.specs.Work.{Tells}
use Rattle.tree_query.specs.Answers.{raised}
use Rattle.script_player.specs.Books.{Books, slots_kept, nodes_kept}
use Rattle.world_host.specs.Rooms.{slots_taken, HasRooms}
use Rattle.world_host.proofs.ToldWords.{store_after, word-told}

-- the words that tell of the room are the same
pub record RoomStays (start next : View) : Type 0 where
  pub config : next.config ≡ start.config
  pub slot : (layer slot : ℕ) → known_word next (Slot layer slot) ≡ known_word start (Slot layer slot)
  pub free : known_word next PoolFree ≡ known_word start PoolFree

-- where these stores change neither
pub record SparesRoom (stores : List Store) : Type 0 where
  pub slot : (layer slot before : ℕ) → fold (store_after (Slot layer slot)) before stores ≡ before
  pub free : (before : ℕ) → fold (store_after PoolFree) before stores ≡ before

pub none-spares : SparesRoom []
none-spares = record { slot = λ layer slot before. refl; free = λ before. refl }

pub raised-spares : (number first second : ℕ) → SparesRoom (raised number first second)
raised-spares number first second = record { slot = λ layer slot before. refl; free = λ before. refl }

pub room-stays : (start next : View) (stores : List Store) → KnowsOwn next → belongings_of next ≡ belongings_of start → Tells start next stores → SparesRoom stores → RoomStays start next
room-stays start next stores own keeps tells spares =
    let sizes = ap (λ (b : Belongings). b.config) keeps in
    let role = ap (λ (b : Belongings). b.role) keeps in
    record {
      config = sizes;
      slot = λ layer slot. word-told start next (Slot layer slot) stores refl own sizes role tells ∙ spares.slot layer slot (known_word start (Slot layer slot));
      free = word-told start next PoolFree stores refl own sizes role tells ∙ spares.free (known_word start PoolFree);
    }

taken-stays : (start next : View) → RoomStays start next → (layer : ℕ) → slots_taken next layer ≡ slots_taken start layer
taken-stays start next stays layer =
    ap (λ (c : Config). count_by (λ t. nat_lt 0 (known_word next (Slot layer t))) (range_with_len 0 c.slots)) stays.config
    ∙ (λ i. count_by (λ t. nat_lt 0 (stays.slot layer t i)) (range_with_len 0 start.config.slots))

-- books that keep as much as before
pub rooms-stay : (start next : View) (books after : Books) → RoomStays start next → ((layer : ℕ) → slots_kept after layer ≡ slots_kept books layer) → nodes_kept after ≡ nodes_kept books → HasRooms start books
    → HasRooms next after
rooms-stay start next books after stays slots nodes rooms = record {
  slots = λ layer below.
      taken-stays start next stays layer ∙ (rooms.slots layer (subst (λ (c : Config). layer < c.layers) stays.config below) ∙ sym (slots layer));
  nodes = (λ i. stays.free i + nodes i) ∙ (rooms.nodes ∙ ap (λ (c : Config). c.nodes) (sym stays.config));
}
