-- The small stories are legal, and the changed ones are not.
use Rattle.std.proofs.Common.{◌≡◌, ℕ, true, false, cond, eqb, Bool, List, [], ◌∷◌, ◌++◌, refl, ap, sym, ◌∙◌, true≢false, arith}
use Rattle.std.proofs.lemmas.List.Elements.{All-nil, All-cons}
use Rattle.fixed_box.specs.declared.fix_box.FixBox.{FixBox}
use Rattle.fixed_box.specs.Touch.{Touch}
use Rattle.fixed_box.specs.declared.shape.Shape.TheVariants as shapes
use Rattle.body_ident.specs.Id.{Id, id_of}
use Rattle.scene_model.specs.declared.entry.Entry.{Entry}
use Rattle.scene_model.specs.declared.entry.Made.{Made}
use Rattle.scene_model.specs.History.{IsMet, IsRightAnswer}
use Rattle.script_player.specs.Line.{Order}
use Rattle.script_player.specs.Event.{Event}
use Rattle.script_player.specs.Stands.{IsInSection, AreSection}
use Rattle.script_player.specs.Ordered.{IsAfter}
use Rattle.script_player.specs.Examples.{created, asked, entry_of_a, whole_span, span_before, late_plan, late_history, query_told, create_told, late_told, never_told, late_report, never_report, block_plan, block_history, block_told, block_report, section_create, section_query}
use Rattle.script_player.specs.Answer.{Replied, Ready}
use Rattle.reply_text.specs.declared.reply.Reply.TheVariants as replies
use Rattle.script_player.specs.Legal.{IsPlayed, Legal}

never_so : {X : Type 0} → false ≡ true → X
never_so h = absurd (true≢false (sym h))

-- nothing is in the broad phase where the query begins
none_found : (bounds : FixBox) (history : List Made) → IsRightAnswer (Touch (shapes.Box bounds)) 1 4 (record { history = history; from = 0; to = 1 }) []
none_found bounds history = record {
  ascending = λ k h. omega (arith, h);
  complete = λ index generation due. absurd (due 0 (omega arith) (omega arith));
  sound = All-nil (λ (i : Id). (generation : ℕ) × IsMet (Touch (shapes.Box bounds)) 1 4 (record { history = history; from = 0; to = 1 }) i.index generation × (i ≡ id_of i.index generation));
}

-- ---- an answer at the end

ready : FixBox → Event
ready bounds = query_told bounds 0 Ready span_before

late_entries : (a b : Bool) (made : List Entry) → cond a made [] ≡ (cond b [] [] ++ []) ++ ((cond a made [] ++ []) ++ ((cond b [] [] ++ []) ++ []))
late_entries true true [] = refl
late_entries true true (e ∷ made) = ap (λ (es : List Entry). e ∷ es) (late_entries true true made)
late_entries true false [] = refl
late_entries true false (e ∷ made) = ap (λ (es : List Entry). e ∷ es) (late_entries true false made)
late_entries false true made = refl
late_entries false false made = refl

pub late_legal : (bounds : FixBox) → Legal (late_plan bounds) late_report (whole_span ∷ whole_span ∷ []) (late_history bounds)
late_legal bounds =
    let first = query_told bounds 0 Ready span_before in
    let create = create_told bounds in
    let last = query_told bounds 2 (Replied (replies.Hits [])) whole_span in
    record {
      told = late_told bounds;
      closing = [];
      played = record {
        stand = (
          record { given = record { caller_is = refl; pass_is = refl; given_is = refl; answered_is = refl; order_is = refl }; answer = refl },
          (
            record { given = record { caller_is = refl; pass_is = refl; given_is = refl; answered_is = refl; order_is = refl }; answer = refl },
            (
              record {
                task = first;
                unfinished = refl;
                goes_on = record { caller = refl; pass = refl; given = refl; answered = refl; order = refl; answer = (refl, tt) };
                last = refl;
              },
              refl,
            ),
          ),
        );
        right = (
          record {
            follows = All-nil (IsAfter first);
            span = record { ordered = omega arith; within = omega arith };
            entries = record { own = λ h. never_so h; lanes = tt; none = λ _. (refl, refl) };
            answer = λ h. never_so h;
            own = tt;
            waits = tt;
          },
          (
            record {
              follows = All-cons (IsAfter create) first [] (record { ended = λ h _. never_so h; seen = λ other _ _. absurd (other refl); goes_on = λ h _. never_so h }) (All-nil (IsAfter create));
              span = record { ordered = omega arith; within = omega arith };
              entries = record { own = λ _. record { before = refl; own = refl }; lanes = tt; none = λ other. absurd (other refl) };
              answer = λ _. (record { index = 0; entry = refl; place = 0; first = omega arith; last = omega arith; stands = refl; id = refl }, refl);
              own = refl;
              waits = λ h. never_so h;
            },
            (
              record {
                follows = All-cons (IsAfter last) first (create ∷ [])
                    (record { ended = λ h _. never_so h; seen = λ _ _ h. omega (arith, h); goes_on = λ _ _. (refl, omega arith) })
                    (All-cons (IsAfter last) create [] (record { ended = λ _ h. never_so h; seen = λ _ h _. never_so h; goes_on = λ h _. never_so h }) (All-nil (IsAfter last)));
                span = record { ordered = omega arith; within = omega arith };
                entries = record { own = λ _. record { before = refl; own = refl }; lanes = tt; none = λ other. absurd (other refl) };
                answer = λ _. (record { ids = []; listed = refl; right = none_found bounds (late_history bounds); none = refl }, refl);
                own = refl;
                waits = λ h. never_so h;
              },
              tt,
            ),
          ),
        );
        lawful = ((refl, omega arith), tt);
        entries = λ pass. late_entries (eqb 0 pass) (eqb 1 pass) (entry_of_a bounds ∷ []);
        spans_are = refl;
        lines = refl;
      };
      closed = tt;
    }

pub never_legal : (bounds : FixBox) → ¬ IsPlayed (late_plan bounds) never_report (whole_span ∷ []) (late_history bounds) (never_told bounds) []
never_legal bounds h = true≢false h.stand.1.1

-- ---- a block

block_entries : (a b : Bool) (made : List Entry) → cond a made [] ≡ (cond a made [] ++ []) ++ ((cond b [] [] ++ []) ++ [])
block_entries true true [] = refl
block_entries true true (e ∷ made) = ap (λ (es : List Entry). e ∷ es) (block_entries true true made)
block_entries true false [] = refl
block_entries true false (e ∷ made) = ap (λ (es : List Entry). e ∷ es) (block_entries true false made)
block_entries false true made = refl
block_entries false false made = refl

pub block_legal : (bounds : FixBox) → Legal (block_plan bounds) block_report (whole_span ∷ whole_span ∷ []) (block_history bounds)
block_legal bounds =
    let create = section_create bounds in
    let query = section_query bounds 2 in
    record {
      told = block_told bounds 2;
      closing = [];
      played = record {
        stand = (
          block_told bounds 2,
          [],
          refl,
          (
            create ∷ [],
            query ∷ [],
            refl,
            (record { given = record { caller_is = refl; pass_is = refl; given_is = refl; answered_is = refl; order_is = refl }; answer = refl }, tt),
            (
              query ∷ [],
              [],
              refl,
              (record { given = record { caller_is = refl; pass_is = refl; given_is = refl; answered_is = refl; order_is = refl }; answer = refl }, tt),
              tt,
            ),
          ),
          refl,
        );
        right = (
          record {
            follows = All-nil (IsAfter create);
            span = record { ordered = omega arith; within = omega arith };
            entries = record { own = λ _. record { before = refl; own = refl }; lanes = tt; none = λ other. absurd (other refl) };
            answer = λ _. (record { index = 0; entry = refl; place = 0; first = omega arith; last = omega arith; stands = refl; id = refl }, refl);
            own = refl;
            waits = λ h. never_so h;
          },
          (
            record {
              follows = All-cons (IsAfter query) create [] (record { ended = λ _ h. never_so h; seen = λ _ h _. never_so h; goes_on = λ h _. never_so h }) (All-nil (IsAfter query));
              span = record { ordered = omega arith; within = omega arith };
              entries = record { own = λ _. record { before = refl; own = refl }; lanes = tt; none = λ other. absurd (other refl) };
              answer = λ _. (record { ids = []; listed = refl; right = none_found bounds (block_history bounds); none = refl }, refl);
              own = refl;
              waits = λ h. never_so h;
            },
            tt,
          ),
        );
        lawful = ((refl, omega arith), tt);
        entries = λ pass. block_entries (eqb 1 pass) (eqb 2 pass) (entry_of_a bounds ∷ []);
        spans_are = refl;
        lines = refl;
      };
      closed = tt;
    }

-- a section of one order has one answer
section_one : (place worker : ℕ) (order : Order) (row : List Event) → AreSection place worker (order ∷ []) row
    → (e : Event) × (row ≡ e ∷ []) × IsInSection place worker order e
section_one place worker order [] h = absurd h
section_one place worker order (e ∷ []) h = (e, refl, h.0)
section_one place worker order (e ∷ f ∷ row) h = absurd h.1

abbrev second_pass : List Event → ℕ
second_pass [] = 0
second_pass (e ∷ []) = 0
second_pass (e ∷ f ∷ told) = f.pass

pub one_pass_block : (bounds : FixBox) → ¬ IsPlayed (block_plan bounds) block_report (whole_span ∷ whole_span ∷ []) (block_history bounds) (block_told bounds 1) []
one_pass_block bounds h =
    let s = h.stand in
    let b = s.3 in
    let first = section_one 0 1 (created bounds) b.0 b.3 in
    let c = b.4 in
    let next = section_one 0 2 (asked bounds) c.0 c.3 in
    let told : block_told bounds 1 ≡ first.0 ∷ next.0 ∷ (c.1 ++ s.1) =
    s.2
    ∙ ap (λ (rows : List Event). rows ++ s.1) b.2
    ∙ ap (λ (row : List Event). (row ++ b.1) ++ s.1) first.1
    ∙ ap (λ (rest : List Event). first.0 ∷ (rest ++ s.1)) c.2
    ∙ ap (λ (row : List Event). first.0 ∷ ((row ++ c.1) ++ s.1)) next.1 in
    let pass : 1 ≡ 2 = ap second_pass told ∙ next.2.given.pass_is in
    omega (arith, pass)
