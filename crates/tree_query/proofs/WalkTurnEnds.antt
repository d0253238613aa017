-- The turns that begin a walk and end it.
use Rattle.std.proofs.Common.{◌≡◌, ℕ, ◌+◌, ◌<◌, ◌≤◌, ◌^◌, List, [], Bool, true, false, Option, None, length, refl, ap, sym, ◌∙◌, subst, inl, inr, arith}
use Rattle.std.specs.Prelude.{Contains}
use Rattle.std.specs.Int.{bit_at}
use Rattle.std.proofs.lemmas.Bool.{cases_lt, lt-ltb, eq-eqb, false≢true}
use Rattle.std.proofs.lemmas.Option.{same_Some}
use Rattle.word_map.specs.declared.config.Config.{Config}
use Rattle.core_state.specs.declared.item.Load.{Load}
use Rattle.core_state.specs.declared.view.View.{View}
use Rattle.core_state.specs.View.{number_in, IsPass}
use Rattle.core_state.specs.Walking.{Query, asked_words, resting, start as first_place}
use Rattle.core_state.proofs.Opening.{none_in}
use Rattle.pass_table.specs.Bodies.{IsCurrent}
use Rattle.pass_table.specs.Turning.{AtMostOneStep, MadeBy, HasReached}
use Rattle.tree_query.specs.declared.finder.Finder.{Finder}
use Rattle.tree_query.specs.declared.walk.WalkStage.{WalkStage}
use Rattle.tree_query.specs.declared.walk.WalkStage.TheVariants.{Begin, End, Ended}
use Rattle.tree_query.specs.declared.walk.Walk.{Walk}
use Rattle.tree_query.specs.Walking.{BeginsWalk, EndsWalk}
use Rattle.tree_query.specs.Collecting.{found_by, Trip, IsCollecting, word_place}
use Rattle.tree_query.specs.Answers.{AsksAny, SaysWalk, HasCollected}
use Rattle.tree_query.specs.stages.WalkPlaces.{IsNextLayer, IsSized, is_reading, is_at_side, spot_at, FitsStage, words_at, words_left, IsAtPlace, KeepsPlan}
use Rattle.tree_query.specs.stages.WalkTurns.{trip_of, IsBeforeWalk, IsOnWalk, IsUnderWalk, walk_left, label_under_way, is_past_lowest, walk_label_at, walk_label, IsWalkTurn}
use Rattle.tree_query.proofs.Ended.{collected}
use Rattle.tree_query.proofs.Labels.{says-inside, says-after}
use Rattle.tree_query.proofs.Places.{words-all, words-none, nodes-none}
use Rattle.tree_query.proofs.Queries.{query_of}
use Rattle.tree_query.proofs.WalkTurns.{plan-trans, left-reading, label-reading, says-low}
use Rattle.tree_query.proofs.WalkLeads.{place-at, fits-at}

pub same-plan : (walk : Walk) (stage : WalkStage) → KeepsPlan walk (record walk { stage = stage })
same-plan walk stage = record { shape = refl; mask = refl; lowest = refl; layers = refl; slots = refl }

-- ---- the beginning

module _ (before : Walk) (held : Finder) (view next : View) (number found : ℕ) (is : before.stage ≡ Begin) (pass : IsPass view number) (begins : BeginsWalk view next number found)
    (stage : WalkStage) (reads : is_reading stage ≡ true) (side : is_at_side stage ≡ false) (spot : spot_at before 0 stage ≡ resting)
    (fits : (c : Config) → IsSized c before → before.stack.items ≡ [] → FitsStage c (record before { stage = stage }) stage) where
  abbrev after : Walk
  after = record before { stage = stage }

  module _ (start : View) (sized : IsSized start.config before) (lowest : IsNextLayer before.mask start.config.layers 0 before.lowest) (h : IsBeforeWalk start before held view) where
    abbrev query : Query
    query = query_of before.shape before.mask

    abbrev trip : Trip
    trip = trip_of start number found query

    begun-rest : asked_words start.config before.mask ≡ words_left start.config before
    begun-rest = words-all start.config before.mask before.lowest lowest ∙ (λ i. words_at start.config before.mask (sym h.layer i) (sym h.slot i))

    begun-place : IsAtPlace start.config after (first_place start.config query)
    begun-place = record {
      level = 0;
      stack = [];
      nodes = h.stack;
      place = λ i. record { rest = begun-rest i; stack = []; spot = sym spot i };
      reads = reads;
      fits = fits start.config sized h.stack;
    }

    begun : IsOnWalk start after held next
    begun = record {
      number = number;
      first = found;
      pass = sym (ap (λ (v : View). number_in v.role) h.walked.left) ∙ pass;
      query = query;
      asks = refl;
      at = first_place start.config query;
      place = begun-place;
      collecting = record {
        asks = refl;
        on = record { walked = begins.walked start [] h.walked; walking = begins.walking start [] h.walked query };
        kept = record {
          found = λ index. (
            λ t. absurd (false≢true (sym (h.none index) ∙ t)),
            λ among. absurd (none_in index (subst (λ (l : List Load). Contains (found_by start.config query l) index) begins.loads among)),
          );
          seqs = λ index t. absurd (false≢true (sym (h.none index) ∙ t));
          loads = h.loads ∙ sym (ap (length {A = Load}) begins.loads);
        };
      };
      loaded = λ t. absurd (false≢true (sym side ∙ t));
      above = let same = h.layer in omega arith;
      within = let same = h.layer in let within = lowest.within in omega arith;
    }

  pub begin-turn : (under : IsUnderWalk before held view) → AtMostOneStep view next → MadeBy view next None → IsWalkTurn before after held held view next
  begin-turn under step made =
      let none : walk_label before ≡ None = ap (walk_label_at before) is in
      let new = label-reading after stage reads in
      record {
        step = step;
        made = made;
        fewer =
            let a : walk_left before.stage held.loads ≡ 2 ^ 32 + 3 = ap (λ (s : WalkStage). walk_left s held.loads) is in
            let b = left-reading stage held.loads reads in
            omega arith;
        keeps = λ room first start going. record {
          plan = plan-trans first before after going.plan (same-plan before stage);
          sized = record { layers = going.sized.layers; slots = going.sized.slots };
          lowest = going.lowest;
          roomy = going.roomy;
          fits = going.fits;
          before = λ e. absurd (false≢true (sym (ap is_reading e) ∙ reads));
          reads = λ t. begun start going.sized going.lowest (going.before is);
          ended = λ e. absurd (false≢true (sym (ap is_reading e) ∙ reads));
        };
        labelled = λ label reached. absurd (subst (λ (o : Option ℕ). HasReached o label) none reached);
        says = λ room first start going.
            let on = begun start going.sized going.lowest (going.before is) in
            says-low (walk_label before) (walk_label after) (is_past_lowest after) new.main (SaysWalk before.mask start next) new.is
            (λ label low. says-inside before.mask start next on.number on.first label on.pass on.collecting.on.walked low);
      }

-- ---- the end

module _ (before : Walk) (held : Finder) (view next : View) (number found : ℕ) (is : before.stage ≡ End) (pass : IsPass view number) (ends : EndsWalk view next number found) (current : ∥ IsCurrent view ∥₁) where
  abbrev last : Walk
  last = record before { stage = Ended }

  module _ (start : View) (h : IsOnWalk start before held view) where
    abbrev on_trip : Trip
    on_trip = trip_of start h.number h.first h.query

    at_end : h.at ≡ word_place []
    at_end =
        let fits = fits-at start.config before h.at End h.place is in
        place-at start.config before h.at End h.place is
        ∙ (λ i. record { rest = words-none start.config before.mask before.layer before.slot fits.0 i; stack = nodes-none h.place.stack (sym h.place.nodes ∙ fits.1) i; spot = resting })

    same_pass : number ≡ h.number
    same_pass = same_Some number h.number (sym pass ∙ (ap (λ (v : View). number_in v.role) h.collecting.on.walked.left ∙ h.pass))

    pub ended : HasCollected before.shape before.mask start next held
    ended =
        collected before.shape before.mask on_trip held view next h.number h.first found h.pass refl h.asks (subst (IsCollecting on_trip before.shape held view) at_end h.collecting) current
        (subst (λ (n : ℕ). EndsWalk view next n found) same_pass ends)

    -- where a layer is asked, the labels before were reached
    asks-past : (lowest : IsNextLayer before.mask start.config.layers 0 before.lowest) → AsksAny start.config before.mask → is_past_lowest before ≡ true
    asks-past lowest asks =
        let fits = fits-at start.config before h.at End h.place is in
        let low : before.lowest ≤ asks.0 = elim (cases_lt asks.0 before.lowest) [
          | inl less ↦ absurd (false≢true (sym (lowest.none asks.0 (omega arith) less) ∙ eq-eqb (bit_at before.mask asks.0) 1 asks.2))
          | inr above ↦ above
        ] in
        let inside = asks.1 in
        let past = fits.0 in
        lt-ltb before.lowest before.layer (omega arith)

  past-reached : (main : Bool) (label : ℕ) → is_past_lowest before ≡ true → label < 2 → HasReached (label_under_way (is_past_lowest before) main) label
  past-reached main label past low = subst (λ (b : Bool). HasReached (label_under_way b main) label) (sym past) (omega arith)

  low-reached : (past main : Bool) (label : ℕ) → HasReached (label_under_way past main) label → label ≤ 2
  low-reached true main label reached = omega arith
  low-reached false true label reached = omega arith
  low-reached false false label reached = absurd reached

  pub end-turn : (under : IsUnderWalk before held view) → held.loads < 2 ^ 32 → AtMostOneStep view next → MadeBy view next None → IsWalkTurn before last held held view next
  end-turn under few step made =
      let reads : is_reading before.stage ≡ true = ap is_reading is in
      let old = label-reading before before.stage reads in
      record {
        step = step;
        made = made;
        fewer = let a = left-reading before.stage held.loads reads in omega arith;
        keeps = λ room first start going. record {
          plan = plan-trans first before last going.plan (same-plan before Ended);
          sized = record { layers = going.sized.layers; slots = going.sized.slots };
          lowest = going.lowest;
          roomy = going.roomy;
          fits = going.fits;
          before = λ e. absurd cc;
          reads = λ t. absurd (false≢true t);
          ended = λ e. ended start (going.reads reads);
        };
        labelled = λ label reached. low-reached (is_past_lowest before) old.main label (subst (λ (o : Option ℕ). HasReached o label) old.is reached);
        says = λ room first start going label new low.
            let on = going.reads reads in
            let whole = ended start on in
            says-after before.mask start next whole.number whole.first whole.second label whole.pass whole.walked whole.odd
            (λ less asks. new (subst (λ (o : Option ℕ). HasReached o label) (sym old.is) (past-reached old.main label (asks-past start on going.lowest asks) less)));
      }
