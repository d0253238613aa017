-- The table allows each step of each kind.
use Rattle.std.proofs.Common.{◌≡◌, ◌≢◌, ℕ, ◌<◌, List, ◌∷◌, ◌++◌, append_assoc, refl, ap, sym, ◌∙◌, subst, arith}
use Rattle.std.specs.Prelude.{All, slice_set, slice_index}
use Rattle.std.proofs.lemmas.List.{length-append}
use Rattle.std.proofs.lemmas.List.Elements.{All-head}
use mathlib.Core.Option.{none}
use Rattle.atomic_table.specs.Table.{Me, Allows, step, keeps}
use Rattle.atomic_table.specs.Seated.{TableId}
use Rattle.word_map.specs.declared.config.Config.{Config}
use Rattle.word_map.specs.declared.name.Name.{Name}
use Rattle.word_map.specs.Layout.{name_of}
use Rattle.word_map.proofs.Places.{name_of-at}
use Rattle.core_state.specs.declared.item.Item.{Item}
use Rattle.core_state.specs.declared.view.Role.TheVariants.{Pass}
use Rattle.core_state.specs.declared.view.View.{View}
use Rattle.core_state.specs.Log.{words}
use Rattle.core_state.specs.View.{own_known, IsPass}
use Rattle.core_state.specs.Core.{Core}
use Rattle.core_state.specs.Kind.{Kind, Asking, Steps, IsAllowed, found_by, left_by, log_after, view_after, after_step}
use Rattle.core_state.specs.Operation.{result_of}
use Rattle.core_state.specs.Event.{Event}
use Rattle.core_state.proofs.Forming.{pass_role, unspent_pass}
use Rattle.core_state.proofs.Reading.{words-at}
use Rattle.core_state.proofs.Steps.{words-step}
use Rattle.pass_table.specs.Standing.{HasNumber, AreForeign, Stands, core_of, IsRuled}
use Rattle.pass_table.specs.Stepping.{step_by, Stepped, told, told_of_store, MayStep}
use Rattle.core_state.proofs.Guarding.{own-less}
use Rattle.pass_table.proofs.Keeping.{All-second, own_prefix, known-longer, Stands-event}

-- who has a number is no other than its pass
foreign-others : (view : View) (number : ℕ) (items : List Item) → IsPass view number → AreForeign view.role items → All (λ (item : Item). item.pass ≢ number) items
foreign-others view number items pass foreign = λ k d below same.
    let role = pass_role view.role number pass in
    let own : HasNumber (Pass number role.0) number = (omega arith, omega arith) in
    foreign k d below (subst (λ (n : ℕ). HasNumber view.role n) (sym same) (subst (λ r. HasNumber r number) (sym role.1) own))

-- the place is one of the table's
pub below-words : {S : Type 0} (asks : Asking) (c : Config) (table : TableId) (me : Me S View) (place first second : ℕ) → MayStep asks c table me place first second → place < table.words
below-words asks c table me place first second may = let same = may.words in let below = may.below in omega arith

module _ (asks : Asking) (kind : Kind) (event : (before after : Core) → Steps asks kind before after → Event before after) where
  -- a step in a core that stands tells all that it is to tell
  stepped-by : (core : Core) (seat number : ℕ) (view : View) (name : Name) (first second : ℕ) → Stands core → IsAllowed asks core (step_by seat view number name first second)
      → Stepped asks kind view name first second (found_by core (step_by seat view number name first second)) (view_after kind core (step_by seat view number name first second))
  stepped-by core seat number view name first second stands allowed =
      let made = step_by seat view number name first second in
      let sound = stands.formed.views seat view allowed.at (unspent_pass view.role number allowed.pass) in
      let own-all : (since : List Item) → core.log ≡ own_known view ++ since → AreForeign view.role since = λ since e. stands.own seat view since allowed.at e in
      let own-later : (since : List Item) → core.log ≡ view.known ++ since → AreForeign view.role since = λ since e.
      known-longer view.role core.log (own_known view) view.known since (own_prefix view.joined view.known sound.joined) e own-all in
      record {
        before = core;
        seat = seat;
        number = number;
        since = sound.known.0;
        stands = stands;
        allowed = allowed;
        learns = sound.known.1;
        foreign = foreign-others view number sound.known.0 allowed.pass (own-later sound.known.0 sound.known.1);
        quiet = λ early later item parts.
            let split : core.log ≡ (view.known ++ early) ++ item ∷ later =
            sound.known.1 ∙ (ap (λ (l : List Item). view.known ++ l) parts ∙ sym (append_assoc view.known early (item ∷ later)))
            in
            stands.guards seat number view (view.known ++ early) later item allowed.at allowed.pass split (omega (arith, length-append view.known early, own-less view sound.joined));
        alone = λ early later item split.
            let all = own-all (early ++ item ∷ later) (split ∙ append_assoc (own_known view) early (item ∷ later)) in (
              All-head (λ (i : Item). i.pass ≢ number) item later (All-second (λ (i : Item). i.pass ≢ number) early (item ∷ later) (foreign-others view number (early ++ item ∷ later) allowed.pass all)),
              stands.guards seat number view (own_known view ++ early) later item allowed.at allowed.pass split (omega (arith, length-append (own_known view) early)),
            );
        finds = refl;
        leaves = refl;
        still_stands = Stands-event core (after_step kind core made) (event core (after_step kind core made) (record { step = made; allowed = allowed; result = refl })) stands;
      }

  -- so the table allows it, whatever its function of the word is called
  module _ {S : Type 0} (c : Config) (table : TableId) (id place first second : ℕ) (me : Me S View) (f : ℕ → ℕ) (may : MayStep asks c table me place first second)
      (does : (n : ℕ) → f n ≡ result_of kind.operation n first second) where
    pub allows : Allows (IsRuled {S = S} c) table.slots id me place f (told asks kind (step table.slots place first second none) me)
    unfolding stepped-by
    allows s ruled homes at fits =
        let core = core_of c ruled.log s.views in
        let made = step_by id me.0 may.number (name_of c place) first second in
        let named = name_of-at c place may.below in
        let allowed : IsAllowed asks core made = record { at = at; pass = may.pass; named = named.0; first_fits = may.first_fits; second_fits = may.second_fits; asked = may.asked } in
        let found : slice_index s.words place ≡ found_by core made = ap (λ (ws : List ℕ). slice_index ws place) ruled.words ∙ words-at c ruled.log place 0 may.below in
        let left : f (slice_index s.words place) ≡ left_by kind core made = does (slice_index s.words place) ∙ ap (λ n. result_of kind.operation n first second) found in
        let words_after : slice_set s.words place (f (slice_index s.words place)) ≡ words c (log_after kind core made) =
        (λ i. slice_set (ruled.words i) (sym named.1 i) (left i)) ∙ sym (words-step kind core made named.0)
        in
        let tells : Stepped asks kind me.0 (name_of c place) first second (found_by core made) (view_after kind core made) =
        stepped-by core id may.number me.0 (name_of c place) first second ruled.stands allowed
        in (
          view_after kind core made,
          keeps,
          tt,
          record { log = log_after kind core made; words = words_after; stands = tells.still_stands },
          (
            refl,
            subst (λ n. Stepped asks kind me.0 (name_of me.0.config place) first second n (view_after kind core made)) (sym found)
                (subst (λ (d : Config). Stepped asks kind me.0 (name_of d place) first second (found_by core made) (view_after kind core made)) (sym may.sizes) tells),
          ),
        )

    -- and so it allows a store, which is not told what it found
    pub allows-store : Allows (IsRuled {S = S} c) table.slots id me place f (λ said. told_of_store asks kind (step table.slots place first second none) me)
    allows-store s ruled homes at fits =
        let t = allows s ruled homes at fits in
        (t.0, t.1, t.2, t.3, (slice_index s.words place, t.4))
