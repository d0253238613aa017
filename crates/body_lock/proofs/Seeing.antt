-- What is read of a guarded body is the body at one point.
use Rattle.std.proofs.Common.{◌≡◌, ℕ, cond, ◌+◌, ◌%◌, ◌<◌, ◌≤◌, List, ◌++◌, slice_index, refl, ap, sym, ◌∙◌, subst, arith}
use Rattle.std.proofs.lemmas.Option.{same_Some}
use Rattle.std.proofs.lemmas.List.Elements.{filter_map-append}
use Rattle.std.proofs.lemmas.List.Sums.{sum_by-append}
use Rattle.fixed_box.specs.FixBox.{words_of}
use Rattle.fixed_box.specs.declared.fix_box.FixBox.{FixBox}
use Rattle.body_ident.specs.Id.{Id, id_of}
use Rattle.scene_model.specs.declared.body_view.BodyView.{BodyView}
use Rattle.scene_model.specs.declared.body_view.Phase.{Phase}
use Rattle.scene_model.specs.declared.entry.Made.{Made}
use Rattle.scene_model.specs.Scene.{record_at}
use Rattle.scene_model.specs.History.{creates, creations_in}
use Rattle.scene_model.specs.Query.{view_of}
use Rattle.word_map.specs.declared.config.Config.{Config}
use Rattle.word_map.specs.declared.name.Name.TheVariants.{Layer, User, BoxWord}
use Rattle.core_state.specs.declared.item.Item.{Item}
use Rattle.core_state.specs.declared.view.View.{View}
use Rattle.core_state.specs.Log.{made_by, history}
use Rattle.core_state.specs.View.{known_word}
use Rattle.core_state.specs.Guards.{scene_at}
use Rattle.core_state.proofs.Boxes.{box_of-words}
use Rattle.pass_table.specs.Knowing.{KnowsMore}
use Rattle.pass_table.specs.Calls.{AtPoint}
use Rattle.pass_table.specs.Bodies.{IsGuarded, IsTold}
use Rattle.body_lock.specs.Seeing.{IsSeenAt}
use Rattle.pass_table.proofs.LockedBodies.{word-stays}

-- ---- creations

pub history-append : (first since : List Item) → history (first ++ since) ≡ history first ++ history since
history-append first since = filter_map-append made_by first since

-- a log that goes on has no fewer of them
pub creations-more : (index : ℕ) (first since : List Item) → creations_in index (history first) ≤ creations_in index (history (first ++ since))
creations-more index first since =
    let parts : creations_in index (history (first ++ since)) ≡ creations_in index (history first ++ history since) = ap (creations_in index) (history-append first since) in
    let sum : creations_in index (history first ++ history since) ≡ creations_in index (history first) + creations_in index (history since) =
    sum_by-append (λ (made : Made). cond (creates index made.entry) 1 0) (history first) (history since)
    in
    omega arith

-- ---- records

-- two boxes with the same words
same-boxes : (a b : FixBox) (sides : ℕ → ℕ) → ((k : ℕ) → k < 6 → sides k ≡ slice_index (words_of a) k) → ((k : ℕ) → k < 6 → sides k ≡ slice_index (words_of b) k) → a ≡ b
same-boxes a b sides one two = same_Some a b (sym (box_of-words a sides one) ∙ box_of-words b sides two)

-- ---- a view

module _ (id : Id) (start view next : View) (more : KnowsMore start view) (later : KnowsMore view next) (guarded : IsGuarded id view) (told : IsTold id view)
    (layer user : ℕ) (bounds : FixBox) (phase : Phase) (lies : known_word view (Layer id.index) ≡ layer) (has_user : known_word next (User id.index) ≡ user)
    (has_box : (mid : View) × KnowsMore view mid × ((k : ℕ) → k < 6 → known_word mid (BoxWord id.index k) ≡ slice_index (words_of bounds) k))
    (has_phase : told.body.phase ≡ phase) where
  abbrev shown : BodyView
  shown = record { id = id; layer = layer; bounds = bounds; user = user; phase = phase }

  same-bounds : told.body.bounds ≡ bounds
  same-bounds =
      same-boxes told.body.bounds bounds (λ k. known_word view (BoxWord id.index k)) told.bounds
      (λ k below. sym (word-stays id view has_box.0 guarded has_box.1 (BoxWord id.index k) refl) ∙ has_box.2 k below)

  same-user : told.body.user ≡ user
  same-user = sym told.user ∙ (sym (word-stays id view next guarded later (User id.index) refl) ∙ has_user)

  shows-body : view_of id.index told.body ≡ shown
  shows-body =
      let layers : told.body.layer ≡ layer = sym told.layer ∙ lies in
      λ i. record { id = record { index = id.index; seq = told.sequence i }; layer = layers i; bounds = same-bounds i; user = same-user i; phase = has_phase i }

  -- it is the body that was created as the g-th
  seen-generation : (g : ℕ) → id ≡ id_of id.index g → g ≤ creations_in id.index (history start.known) → creations_in id.index (history view.known) < g + 256 → told.body.generation ≡ g
  seen-generation g names first few =
      let latest = told.latest in
      let grown : creations_in id.index (history start.known) ≤ creations_in id.index (history view.known) =
      subst (λ (l : List Item). creations_in id.index (history start.known) ≤ creations_in id.index (history l)) (sym more.known) (creations-more id.index start.known more.since)
      in
      let sequence = told.sequence in
      let seq : id.seq ≡ g % 256 = ap (λ (i : Id). i.seq) names in
      omega arith

  seen-at : IsSeenAt start.config start.known id shown view.known
  seen-at = record {
    body = told.body;
    live = ap (λ (c : Config). record_at (scene_at c view.known) id.index) (sym (ap (λ (v : View). v.config) more.rest)) ∙ told.live;
    shows = shows-body;
    names = refl;
    generation = seen-generation;
  }

  pub seen-point : AtPoint start next (IsSeenAt start.config start.known id shown)
  seen-point = record {
    since = more.since;
    later = later.since;
    parts = later.known ∙ ap (λ (l : List Item). l ++ later.since) more.known;
    holds = subst (IsSeenAt start.config start.known id shown) more.known seen-at;
  }
