-- What a call of a walk leaves once the walk has ended: its finder holds just the candidates, and each body that is due.
use mathlib.Core.Logic.{∥∥₁_elim}
use Rattle.std.proofs.Props.{props}
use Rattle.std.proofs.Common.{◌≡◌, ℕ, ◌<◌, ◌≤◌, List, [], ◌∷◌, ◌++◌, true, length, take, refl, ap, sym, ◌∙◌, subst, arith}
use Rattle.std.specs.Prelude.{Contains}
use Rattle.std.proofs.lemmas.List.{append-nil}
use Rattle.fixed_box.specs.declared.shape.Shape.{Shape}
use Rattle.fixed_box.specs.Touch.{Touch}
use Rattle.scene_model.specs.declared.entry.Made.{Made}
use Rattle.scene_model.specs.History.{scene_after, Fits, IsDue}
use Rattle.word_map.specs.declared.config.Config.{Config}
use Rattle.core_state.specs.declared.item.Item.{Item}
use Rattle.core_state.specs.declared.item.Load.{Load}
use Rattle.core_state.specs.declared.item.Store.{Store}
use Rattle.core_state.specs.declared.view.Walk.{Walk}
use Rattle.core_state.specs.declared.view.View.{View}
use Rattle.core_state.specs.Log.{history}
use Rattle.core_state.specs.View.{IsPass}
use Rattle.core_state.specs.WalkRecord.{IsCandidate}
use Rattle.core_state.specs.Walking.{Position, asked_words, position_of}
use Rattle.core_state.proofs.Quiet.{KnowsQuietly-refl}
use Rattle.core_query.specs.Ends.{IsAtEnd, since}
use Rattle.core_query.specs.WholeRecord.{IsWholeRecord}
use Rattle.core_query.proofs.Ended.{leads, due_found}
use Rattle.core_query.proofs.Finding.{asked-layers}
use Rattle.core_query.proofs.Recording.{whole-record}
use Rattle.core_query.proofs.Walked.{candidate-found}
use Rattle.pass_table.specs.Bodies.{IsCurrent}
use Rattle.pass_table.proofs.Working.{tells-refl}
use Rattle.tree_query.specs.declared.finder.Finder.{Finder}
use Rattle.tree_query.specs.Finding.{has_index}
use Rattle.tree_query.specs.Walking.{HasWalked, reader_store, EndsWalk}
use Rattle.tree_query.specs.Collecting.{Trip, IsOnTrip, found_so_far, IsCollecting, word_place}
use Rattle.tree_query.specs.Checking.{points_between, HoldsDue}
use Rattle.tree_query.specs.Answers.{HasCollected}
use Rattle.tree_query.proofs.Closing.{found-candidate, read-found}
use Rattle.tree_query.proofs.RightAnswers.{taken-on, longer}
use Rattle.tree_query.proofs.Trips.{number, number-is, sizes, walking-now, there}

-- ---- a walk at its end

-- nothing is left to read
at-end : (at : Position) → at ≡ word_place [] → IsAtEnd at
at-end at e = record { rest = ap (λ (p : Position). p.rest) e; stack = ap (λ (p : Position). p.stack) e; spot = ap (λ (p : Position). p.spot) e }

module _ (trip : Trip) (view : View) (on : IsOnTrip trip view (word_place [])) where
  -- so what was read is whole
  pub whole-trip : IsWholeRecord trip.query [] (asked_words trip.start.config trip.query.mask) view.walk.loads
  whole-trip =
      whole-record trip.start.config trip.query view.walk.loads on.walking.follows (at-end (position_of trip.start.config trip.query view.walk.loads) on.walking.place)

  -- each candidate was found
  candidate-now : IsCurrent view → (index : ℕ) → IsCandidate trip.query.shape view.walk.loads index → Contains (found_so_far trip view) index
  candidate-now now index candidate =
      read-found trip.start.config trip.query view.walk.loads on.walking.follows index
      (candidate-found trip.query (asked_words trip.start.config trip.query.mask) view.walk.loads whole-trip (asked-layers trip.start.config trip.query.mask)
      (leads now.core now.stands.laws trip.query now.seat (number trip view (word_place []) on now) view (walking-now trip view (word_place []) on now)).once index candidate)

  -- and nothing else was
  pub candidate-trip : (index : ℕ) → Contains (found_so_far trip view) index → IsCandidate trip.query.shape view.walk.loads index
  candidate-trip = found-candidate trip.start.config trip.query view.walk.loads on.walking.follows

  -- each of them is one of the world
  below-now : IsCurrent view → (index : ℕ) → IsCandidate trip.query.shape view.walk.loads index → index < trip.start.config.bodies
  below-now now index candidate =
      subst (λ (c : Config). index < c.bodies) (sizes trip view (word_place []) on now)
      ((leads now.core now.stands.laws trip.query now.seat (number trip view (word_place []) on now) view (walking-now trip view (word_place []) on now)).bodies candidate.0 candidate.1 index candidate.2)

  -- ---- what is due

  module _ (next : View) (later : List Item) (known : next.known ≡ view.known ++ later) (index generation : ℕ)
      (due : IsDue (Touch trip.query.shape) trip.query.mask trip.start.config.bodies (points_between trip.start next) index generation) where
    -- what is due for the whole call is so since the walk began, up to its end
    due-since : (now : IsCurrent view) → IsDue (Touch trip.query.shape) trip.query.mask now.core.config.bodies (since now.core view.walk) index generation
    due-since now n above below =
        let log : now.core.log ≡ view.known = sym now.whole in
        let within : n ≤ length (history view.known) = subst (λ (l : List Item). n ≤ length (history l)) log below in
        let from = on.walking.from in
        let on_later = subst (λ (l : List Item). length (history view.known) ≤ length (history l)) (sym known) (longer view.known later) in
        let same : take n (history next.known) ≡ take n (history now.core.log) =
        ap (λ (l : List Item). take n (history l)) known ∙ (taken-on n view.known later within ∙ ap (λ (l : List Item). take n (history l)) (sym log))
        in
        subst (λ (c : Config). Fits (Touch trip.query.shape) trip.query.mask (scene_after c.bodies (take n (history now.core.log))) index generation) (sym (sizes trip view (word_place []) on now))
        (subst (λ (l : List Made). Fits (Touch trip.query.shape) trip.query.mask (scene_after trip.start.config.bodies l) index generation) same (due n (omega arith) (omega arith)))

    due-now : IsCurrent view → IsCandidate trip.query.shape view.walk.loads index
    due-now now =
        due_found now.core now.stands.laws trip.query now.seat (number trip view (word_place []) on now) view (walking-now trip view (word_place []) on now)
        (at-end _ (there trip view (word_place []) on now)) index generation (due-since now)

-- ---- the call

-- a pass has walked since a moment, before it does anything more
pub walked-none : (view : View) (number : ℕ) → IsPass view number → HasWalked view view []
walked-none view number pass = record {
  adds = record { number = number; pass = pass; since = []; known = sym (append-nil view.known); own = refl };
  tells = tells-refl view number pass;
  quiet = KnowsQuietly-refl view;
  left = refl;
}

module _ (shape : Shape) (mask : ℕ) (trip : Trip) (finder : Finder) (last next : View) (count first second : ℕ) (pass : IsPass trip.start count) (told : trip.told ≡ reader_store count first ∷ [])
    (asks : trip.query.mask ≡ mask) (h : IsCollecting trip shape finder last (word_place [])) (current : ∥ IsCurrent last ∥₁) (ends : EndsWalk last next count second) where
  loads-stay : next.walk.loads ≡ last.walk.loads
  loads-stay = ap (λ (w : Walk). w.loads) ends.walk

  holds-candidate : (index : ℕ) → IsCandidate trip.query.shape last.walk.loads index → has_index finder index ≡ true
  holds-candidate index candidate = ∥∥₁_elim current (hlevel props) (λ now. (h.kept.found index).1 (candidate-now trip last h.on now index candidate))

  held-candidate : (index : ℕ) → has_index finder index ≡ true → IsCandidate trip.query.shape last.walk.loads index
  held-candidate index has = candidate-trip trip last h.on index ((h.kept.found index).0 has)

  -- all that is due is held
  all-due : HoldsDue trip.query.shape trip.query.mask trip.start next finder
  all-due index generation due =
      let came = (ends.walked last [] (walked-none last _ (∥∥₁_elim current (hlevel props) (λ now. number-is trip last (word_place []) h.on now)))).adds in
      ∥∥₁_elim current (hlevel props) (λ now. (h.kept.found index).1 (candidate-now trip last h.on now index (due-now trip last h.on next came.since came.known index generation due now)))

  pub collected : HasCollected shape mask trip.start next finder
  collected = record {
    number = count;
    pass = pass;
    first = first;
    second = second;
    walked = subst (λ (stores : List Store). HasWalked trip.start next (stores ++ reader_store count second ∷ [])) told (ends.walked trip.start trip.told h.on.walked);
    odd = ends.odd;
    ended = ap (λ (w : Walk). w.is_on) ends.walk;
    query = trip.query;
    asks = (asks, h.asks);
    whole = subst (λ (m : ℕ). IsWholeRecord trip.query [] (asked_words trip.start.config m) next.walk.loads) asks (subst (IsWholeRecord trip.query [] (asked_words trip.start.config trip.query.mask)) (sym loads-stay) (whole-trip trip last h.on));
    loads = h.kept.loads ∙ ap (length {A = Load}) (sym loads-stay);
    candidates = λ index. (
      λ has. subst (λ (loads : List Load). IsCandidate shape loads index) (sym loads-stay) (subst (λ (s : Shape). IsCandidate s last.walk.loads index) h.asks (held-candidate index has)),
      λ candidate. holds-candidate index (subst (λ (s : Shape). IsCandidate s last.walk.loads index) (sym h.asks) (subst (λ (loads : List Load). IsCandidate shape loads index) loads-stay candidate)),
    );
    below = λ index has. ∥∥₁_elim current (hlevel props) (λ now. below-now trip last h.on now index (held-candidate index has));
    seqs = h.kept.seqs;
    due = subst (λ (s : Shape). HoldsDue s mask trip.start next finder) h.asks (subst (λ (m : ℕ). HoldsDue trip.query.shape m trip.start next finder) asks all-due);
  }
