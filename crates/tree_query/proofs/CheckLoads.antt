-- What each load of the check of a candidate tells.
use Rattle.std.specs.Int.{bit_at}
use Rattle.std.proofs.Common.{◌≡◌, ◌≢◌, ℕ, suc, ◌+◌, ◌%◌, ◌<◌, ◌≤◌, List, Some, None, length, set, slice_index, inl, inr, ap, sym, ◌∙◌, subst, arith}
use Rattle.std.proofs.lemmas.Bool.{cases_eq}
use Rattle.std.proofs.lemmas.List.{ext_get_or, get_or-set_same, get_or-set_other, length-set}
use Rattle.fixed_box.specs.declared.fix_box.FixBox.{FixBox}
use Rattle.fixed_box.specs.declared.shape.Shape.{Shape}
use Rattle.fixed_box.specs.FixBox.{words_of}
use Rattle.fixed_box.specs.Touch.{Touch}
use Rattle.body_ident.specs.Id.{Id}
use Rattle.scene_model.specs.declared.body_view.Phase.TheVariants.{Out as OutPhase, Held as HeldPhase}
use Rattle.word_map.specs.declared.config.Config.{Config}
use Rattle.word_map.specs.declared.name.Name.{Name}
use Rattle.word_map.specs.declared.name.Name.TheVariants.{State, Phase, Layer, BoxWord, Slot}
use Rattle.word_map.specs.Names.{stripe_of}
use Rattle.core_state.specs.declared.view.Mode.TheVariants.{Read}
use Rattle.core_state.specs.declared.view.View.{View}
use Rattle.core_state.specs.View.{known_word}
use Rattle.core_state.specs.Encoding.{phase_out, phase_in, phase_join}
use Rattle.pass_table.specs.Knowing.{KnowsMore}
use Rattle.pass_table.specs.Bodies.{IsGuarded, IsTold, Loaded, live_state}
use Rattle.pass_table.proofs.Between.{more-refl}
use Rattle.pass_table.proofs.LockedBodies.{guarded-tells, layer-stays, phase-stays, layer-below}
use Rattle.pass_table.proofs.WorkLater.{worked-pass, worked-sizes, held-by, one-taken}
use Rattle.body_look.proofs.Finding.{finds-out, finds-in, finds-held, finds-joined, names-slot}
use Rattle.tree_query.specs.declared.check_op.CheckStage.TheVariants.{Joining, Placed, Inside, Sides}
use Rattle.tree_query.specs.Checking.{IsCheckedSo, IsLayerIn, HasNoHit}
use Rattle.tree_query.specs.stages.CandidateCheck.{id_at, HasTakenStripe, KnowsSides, IsInAsked, IsJoiningAt, KnowsAt, IsBegunFor}
use Rattle.tree_query.specs.stages.CheckLater.{guard-later, joining-later, asked-later, sides-later}
use Rattle.tree_query.proofs.CandidateChecks.{point-within, none-live, seen-in, seen-apart, none-seen, none-touching, one-hit}

-- ---- the state word

-- who holds the stripe and knows the body as live guards it
pub state-live : (index seq : ℕ) (start next : View) → IsBegunFor index start → HasTakenStripe index start next → known_word next (State index) ≡ live_state seq → IsGuarded (id_at index seq) next
state-live index seq start next begun taken live = (
  taken.adds.number,
  Read,
  record {
    pass = worked-pass start next _ taken;
    stripe = held-by start next _ taken begun.rest (λ c. stripe_of c index) Read (one-taken (stripe_of start.config index) Read);
    below = subst (λ (c : Config). index < c.bodies) (sym (worked-sizes start next _ taken)) begun.below;
    state = live;
    done = taken.doing;
  },
)

module _ (shape : Shape) (mask index : ℕ) (start mid view next : View) (sizes : next.config ≡ start.config) (more : KnowsMore mid next) (name : Name) (value : ℕ) (loaded : Loaded view next name value) where
  still : KnowsMore next next
  still = more-refl next loaded.now.alone

  -- or it says that none is live
  pub state-none : name ≡ State index → IsBegunFor index start → value ≢ 256 + value % 256 → IsCheckedSo shape mask index mid next None
  state-none is begun other =
      point-within mid next next (λ c log. HasNoHit shape mask c index log) more still
      (none-live shape mask index next value loaded.now (subst (λ (c : Config). index < c.bodies) (sym sizes) begun.below) (subst (λ (n : Name). known_word next n ≡ value) is loaded.word) other)

  module _ (seq : ℕ) where
    abbrev id : Id
    id = id_at index seq

    -- ---- the phase word

    module _ (is : name ≡ Phase index) (guarded : IsGuarded id view) where
      phase_guard : IsGuarded id next
      phase_guard = guard-later index seq view next loaded.more guarded

      phase_word : known_word next (Phase index) ≡ value
      phase_word = subst (λ (n : Name). known_word next n ≡ value) is loaded.word

      pub phase-out : phase_out ≡ value → IsCheckedSo shape mask index mid next None
      phase-out says =
          none-seen shape mask id mid next
          (seen-apart id mid next next more still phase_guard OutPhase phase_out (λ same. absurd cc) (finds-out id next phase_guard loaded.now (phase_word ∙ sym says)))

      pub phase-inside : (words : List ℕ) → phase_in ≡ value → KnowsAt shape mask index start words (Inside seq) mid next
      phase-inside words says = (phase_guard, phase_word ∙ sym says)

      pub phase-joins : (words : List ℕ) (slot : ℕ) → phase_join slot ≡ value → KnowsAt shape mask index start words (Joining seq slot) mid next
      phase-joins words slot says = record {
        guarded = phase_guard;
        joins = phase_word ∙ sym says;
        in_slots = subst (λ (c : Config). slot < c.slots) sizes (names-slot id next phase_guard loaded.now slot (phase_word ∙ sym says));
      }

    -- ---- the layer

    pub layer-placed : (words : List ℕ) (slot : ℕ) → name ≡ Layer index → IsJoiningAt index seq slot start view → KnowsAt shape mask index start words (Placed seq slot value) mid next
    layer-placed words slot is at =
        let then = joining-later index seq view next loaded.more slot start at in
        let lies = subst (λ (n : Name). known_word next n ≡ value) is loaded.word in (
          then,
          lies,
          subst (λ (c : Config). value < c.layers) sizes (layer-below id next then.guarded loaded.now value lies),
        )

    pub layer-seen : name ≡ Layer index → IsGuarded id view → known_word view (Phase index) ≡ phase_in → IsLayerIn id mid next (Some value)
    layer-seen is guarded phase =
        let guard = guard-later index seq view next loaded.more guarded in
        seen-in id mid next next more still guard value phase_in (finds-in id next guard loaded.now (phase-stays id view next guarded loaded.more ∙ phase)) (subst (λ (n : Name). known_word next n ≡ value) is loaded.word)

    -- ---- the slot

    module _ (slot layer : ℕ) (is : name ≡ Slot layer slot) (at : IsJoiningAt index seq slot start view) (lies : known_word view (Layer index) ≡ layer) where
      slot_loaded : Loaded view next (Slot layer slot) value
      slot_loaded = subst (λ (n : Name). Loaded view next n value) is loaded

      slot_guard : IsGuarded id next
      slot_guard = guard-later index seq view next loaded.more at.guarded

      pub slot-held : value < 1024 → IsCheckedSo shape mask index mid next None
      slot-held low =
          none-seen shape mask id mid next
          (seen-apart id mid next next more still slot_guard HeldPhase (phase_join slot) (λ same. absurd cc) (finds-held id view next layer slot value at.guarded at.joins lies slot_loaded low).0)

      pub slot-seen : 1024 ≤ value → IsLayerIn id mid next (Some layer)
      slot-seen high =
          seen-in id mid next next more still slot_guard layer (phase_join slot) (finds-joined id view next layer slot value at.guarded at.joins lies slot_loaded high).0 (layer-stays id view next at.guarded loaded.more ∙ lies)

    -- ---- an asked layer

    pub sides-begin : (words : List ℕ) (layer : ℕ) → IsGuarded id view → IsLayerIn id mid next (Some layer) → bit_at mask layer ≡ 1 → KnowsAt shape mask index start words (Sides seq 0) mid next
    sides-begin words layer guarded seen asked = (
      guard-later index seq view next loaded.more guarded,
      record { layer = layer; asked = asked; seen = seen },
      omega arith,
      λ k below. absurd (omega arith),
    )

    -- ---- a side

    module _ (words : List ℕ) (count : ℕ) (six : length words ≡ 6) (is : name ≡ BoxWord index count) (at : KnowsAt shape mask index start words (Sides seq count) mid view) where
      side_guard : IsGuarded id next
      side_guard = guard-later index seq view next loaded.more at.0

      side_asked : IsInAsked mask id mid next
      side_asked = asked-later index seq view next loaded.more mask mid at.1

      abbrev side_words : List ℕ
      side_words = set words count value

      -- with this side so many are known
      known_sides : KnowsSides index next side_words (suc count)
      known_sides k below =
          elim (cases_eq k count) [
            | inl same ↦
                let room = at.2 in
                (λ i. known_word next (BoxWord index (same i)))
                ∙ (subst (λ (n : Name). known_word next n ≡ value) is loaded.word
                ∙ (sym (get_or-set_same words count value 0 (omega arith)) ∙ ap (slice_index side_words) (sym same)))
            | inr apart ↦ sides-later index seq view next loaded.more words count at.0 at.3 k (omega arith) ∙ sym (get_or-set_other words count k value 0 apart)
          ]

      pub sides-go : count < 5 → KnowsAt shape mask index start side_words (Sides seq (count + 1)) mid next
      sides-go less = (side_guard, side_asked, omega arith, λ k below. known_sides k (omega arith))

      module _ (last : 5 ≤ count) (touches : (b : FixBox) × (words_of b ≡ side_words) × Touch shape b) where
        pub sides-hit : IsCheckedSo shape mask index mid next (Some seq)
        sides-hit =
            one-hit shape mask id mid next next still side_asked.layer side_asked.seen touches.0
            (λ k below. known_sides k (omega arith) ∙ ap (λ (l : List ℕ). slice_index l k) (sym touches.1)) side_asked.asked touches.2

      pub sides-apart : 5 ≤ count → ((b : FixBox) × (words_of b ≡ side_words) × Touch shape b → ⊥) → IsCheckedSo shape mask index mid next None
      sides-apart last apart =
          let told : IsTold id next = guarded-tells id next side_guard loaded.now in
          let all : length side_words ≡ 6 = length-set words count value ∙ six in
          let same : words_of told.body.bounds ≡ side_words = ext_get_or 0 (words_of told.body.bounds) side_words (sym all) (λ k below. sym (told.bounds k below) ∙ known_sides k (omega arith)) in
          none-touching shape mask id mid next next still side_asked.layer side_asked.seen told.body.bounds (λ k below. told.bounds k below) (λ touches. apart (told.body.bounds, same, touches))
