-- Every step keeps that a body is marked and unmarked by the pass that holds it, and by no other one.
use Rattle.std.proofs.Common.{◌≡◌, ◌⊎◌, inl, inr, ℕ, List, [], ◌∷◌, ◌++◌, Option, Some, None, IsSomeAnd, refl, ap, sym, ◌∙◌, subst, append_assoc, arith, zero, suc, ◌-◌, length}
use Rattle.std.specs.Prelude.{Contains}
use Rattle.std.proofs.lemmas.Bool.{cases_eq}
use Rattle.std.proofs.lemmas.List.{append-nil, length-append}
use Rattle.std.proofs.lemmas.List.Elements.{All-nil, All-cons, All-append, filter_map-append}
use mathlib.Core.Option.{some-injective, some-ne-none}
use Rattle.scene_model.specs.declared.body_view.Phase.TheVariants.{Out, Held}
use Rattle.scene_model.specs.declared.entry.Entry.{Entry}
use Rattle.scene_model.specs.declared.entry.Entry.TheVariants.{Mark, Unmark}
use Rattle.scene_model.specs.declared.entry.Made.{Made}
use Rattle.scene_model.specs.Scene.{Scene, Record, empty_scene, record_at}
use Rattle.scene_model.specs.Step.{HasBody, IsPossible, IsLawful, after_entry}
use Rattle.scene_model.specs.History.{scene_from, IsLawfulFrom}
use Rattle.scene_model.specs.Consistent.{IsConsistent}
use Rattle.scene_model.proofs.Histories.{IsConsistent-empty, IsConsistent-scene_from, lawful_parts, scene_from-append}
use Rattle.word_map.specs.declared.config.Config.{Config}
use Rattle.word_map.specs.declared.name.Name.TheVariants.{Phase}
use Rattle.core_state.specs.declared.item.Item.{Item}
use Rattle.core_state.specs.declared.view.Role.TheVariants.{Pass}
use Rattle.core_state.specs.declared.view.Marked.{Marked}
use Rattle.core_state.specs.declared.view.Batch.{Batch}
use Rattle.core_state.specs.declared.view.View.{View}
use Rattle.core_state.specs.Log.{history, made_by}
use Rattle.core_state.specs.View.{number_of, IsPass, blank_view}
use Rattle.core_state.specs.Core.{Core, IsViewAt, word_of, scene_of, opening}
use Rattle.core_state.specs.Kind.{Kind, Step, left_by, item_of, view_after, after_step}
use Rattle.core_state.specs.Formed.{IsFormed}
use Rattle.core_state.specs.Encoding.{phase_join}
use Rattle.core_state.specs.Scope.{sight}
use Rattle.core_state.specs.BodiesAgree.{BodiesAgree, body_scope, IsHeldFor}
use Rattle.core_state.proofs.Lookups.{at_set, at_one, set_else}
use Rattle.core_state.proofs.Quiet.{append_cut, in_first, in_second, one_cut, no_cut}
use Rattle.core_state.proofs.Steps.{gains, nothing, its_item}
use Rattle.core_batch.proofs.HeldFacts.{out_or_held}
use Rattle.core_batch.proofs.Mapped.{holder, held-by}
use Rattle.core_batch.proofs.Owning.{slot-reserved}
use Rattle.pass_table.specs.OwnMarks.{MarksBody, JoinsBody, IsMarkedBy, HeldAreOwn, UnmarkedAreOwn, MarksAreOwn}
use Rattle.pass_table.proofs.HeldEntries.{IsHeldAt, held-before, unmarked-out}

-- ---- who holds a body

-- a pass has a batch that holds it
record Has (core : Core) (number i : ℕ) : Type 0 where
  pub seat : ℕ
  pub view : View
  pub batch : Batch
  pub m : Marked
  pub at : IsViewAt core seat view
  pub pass : IsPass view number
  pub among : Contains view.batches batch
  pub inside : Contains batch.marked m
  pub same : m.index ≡ i

is_held : (o : Option Record) (layer : ℕ) → IsSomeAnd o (λ r. (r.phase ≡ Held) × (r.layer ≡ layer)) → IsSomeAnd o (λ r. r.phase ≡ Held)
is_held None layer h = h
is_held (Some r) layer h = h.0

one_layer : (o : Option Record) (a b : ℕ) → IsSomeAnd o (λ r. (r.phase ≡ Held) × (r.layer ≡ a)) → IsSomeAnd o (λ r. (r.phase ≡ Held) × (r.layer ≡ b)) → a ≡ b
one_layer None a b h k = absurd h
one_layer (Some r) a b h k = sym h.1 ∙ k.1

module _ (core : Core) (agree : BodiesAgree core) where
  held-for : (number i : ℕ) (has : Has core number i) → IsHeldFor (sight body_scope core) has.batch has.m
  held-for number i has = agree.marked has.batch has.m (held-by core has.seat number has.view has.batch has.at has.pass has.among) has.inside

  -- it is held then
  has-held : (number i : ℕ) → Has core number i → IsHeldAt (scene_of core) i
  has-held number i has = subst (IsHeldAt (scene_of core)) has.same (is_held (record_at (scene_of core) has.m.index) has.batch.layer (held-for number i has).held)

  -- of one that is held there is such a pass
  held-has : (i : ℕ) → IsHeldAt (scene_of core) i → (number : ℕ) × Has core number i
  held-has i held =
      let t = agree.held i held in
      let h = holder core t.0 t.2 in
      (h.number, record { seat = h.seat; view = h.view; batch = t.0; m = t.1; at = h.at; pass = h.pass; among = h.among; inside = t.3; same = t.4 })

  -- and no second one, since both have reserved one slot
  one-holder : IsFormed core → (a b i : ℕ) → Has core a i → Has core b i → a ≡ b
  one-holder formed a b i one two =
      let index : two.m.index ≡ one.m.index = two.same ∙ sym one.same in
      let p = held-for a i one in
      let q = held-for b i two in
      let layers : one.batch.layer ≡ two.batch.layer =
      one_layer (record_at (scene_of core) one.m.index) one.batch.layer two.batch.layer p.held
      (subst (λ (k : ℕ). HasBody (scene_of core) k (λ r. (r.phase ≡ Held) × (r.layer ≡ two.batch.layer))) index q.held)
      in
      let phases : phase_join one.batch.slot ≡ phase_join two.batch.slot = sym p.phase ∙ (ap (λ (k : ℕ). word_of core (Phase k)) (sym index) ∙ q.phase) in
      let slots : two.batch.slot ≡ one.batch.slot = omega arith in
      let mine = slot-reserved core formed agree one.seat a one.batch.layer one.batch.slot one.view one.at one.pass (one.batch, one.among, (refl, refl)) in
      let theirs = slot-reserved core formed agree two.seat b one.batch.layer one.batch.slot two.view two.at two.pass (two.batch, two.among, (sym layers, slots)) in
      let same : suc a ≡ suc b = sym mine ∙ theirs in
      omega arith

-- ---- a mark in a history

marks_out : (scene : Scene) (i : ℕ) (entry : Entry) → MarksBody i entry → IsPossible scene entry → HasBody scene i (λ r. r.phase ≡ Out)
marks_out scene i (Mark j) marks possible = subst (λ (k : ℕ). HasBody scene k (λ r. r.phase ≡ Out)) (sym marks) possible
marks_out scene i _ marks possible = absurd marks

marks_is : (i : ℕ) (entry : Entry) → MarksBody i entry → entry ≡ Mark i
marks_is i (Mark j) marks = ap Mark (sym marks)
marks_is i _ marks = absurd marks

marked-now : (number i : ℕ) (past : List Made) (entry : Entry) → MarksBody i entry → IsMarkedBy number (past ++ (record { pass = number; entry = entry }) ∷ []) i
marked-now number i past entry marks = record {
  first = past;
  since = [];
  parts = λ k. past ++ (record { pass = number; entry = marks_is i entry marks k }) ∷ [];
  unmarked = All-nil (λ (n : Made). ¬ MarksBody i n.entry);
  unjoined = All-nil (λ (n : Made). ¬ JoinsBody i n.entry);
}

marked-more : (number i : ℕ) (past : List Made) (m : Made) → IsMarkedBy number past i → ¬ MarksBody i m.entry → ¬ JoinsBody i m.entry → IsMarkedBy number (past ++ m ∷ []) i
marked-more number i past m was unmarked unjoined = record {
  first = was.first;
  since = was.since ++ m ∷ [];
  parts = ap (λ (l : List Made). l ++ m ∷ []) was.parts ∙ append_assoc was.first ((record { pass = number; entry = Mark i }) ∷ was.since) (m ∷ []);
  unmarked = All-append (λ (n : Made). ¬ MarksBody i n.entry) was.since (m ∷ []) was.unmarked (All-cons (λ (n : Made). ¬ MarksBody i n.entry) m [] unmarked (All-nil (λ (n : Made). ¬ MarksBody i n.entry)));
  unjoined = All-append (λ (n : Made). ¬ JoinsBody i n.entry) was.since (m ∷ []) was.unjoined (All-cons (λ (n : Made). ¬ JoinsBody i n.entry) m [] unjoined (All-nil (λ (n : Made). ¬ JoinsBody i n.entry)));
}

-- ---- a step

module _ (kind : Kind) (core : Core) (step : Step) (at : IsViewAt core step.seat step.view) (pass : IsPass step.view step.number) (agree : BodiesAgree core) (later : BodiesAgree (after_step kind core step)) (formed : IsFormed (after_step kind core step)) (own : MarksAreOwn core) where
  abbrev pub After : Core
  After = after_step kind core step

  abbrev past : List Made
  past = history core.log

  abbrev made : Entry → Made
  made entry = record { pass = step.number; entry = entry }

  -- the history goes on by an entry of this pass, or not at all
  data Grows : Type 0 where
    by_none : history After.log ≡ past → Grows
    by_one : (entry : Entry) → history After.log ≡ past ++ made entry ∷ [] → Grows

  grows : Grows
  grows =
      elim (gains kind core step) [
        | nothing e f ↦ by_none (ap (λ (l : List Item). history (core.log ++ l)) e ∙ ap history (append-nil core.log))
        | its_item t e ↦ go (kind.entry step.view step.name (left_by kind core step)) refl (ap (λ (l : List Item). history (core.log ++ l)) e ∙ filter_map-append made_by core.log (item_of kind step (left_by kind core step) ∷ []))
      ]
    where
      with_entry : Option Entry → Item
      with_entry o = record { pass = step.number; name = step.name; value = left_by kind core step; entry = o }

      go : (o : Option Entry) → kind.entry step.view step.name (left_by kind core step) ≡ o → history After.log ≡ past ++ history (item_of kind step (left_by kind core step) ∷ []) → Grows
      go None is e = by_none (e ∙ (ap (λ (o : Option Entry). past ++ history (with_entry o ∷ [])) is ∙ append-nil past))
      go (Some entry) is e = by_one entry (e ∙ ap (λ (o : Option Entry). past ++ history (with_entry o ∷ [])) is)

  -- such an entry is lawful, and leads to the scene then
  module _ (entry : Entry) (is : history After.log ≡ past ++ made entry ∷ []) where
    lawful : IsLawful core.config.layers (scene_of core) entry
    lawful = (lawful_parts core.config.layers (empty_scene core.config.bodies) past (made entry ∷ []) (subst (IsLawfulFrom core.config.layers (empty_scene core.config.bodies)) is later.lawful)).1.0

    leads : scene_of After ≡ after_entry (scene_of core) entry
    leads = ap (scene_from (empty_scene core.config.bodies)) is ∙ scene_from-append (empty_scene core.config.bodies) past (made entry ∷ [])

    consistent : IsConsistent core.config.layers (scene_of core)
    consistent = IsConsistent-scene_from core.config.layers past (empty_scene core.config.bodies) agree.lawful (IsConsistent-empty core.config.layers core.config.bodies)

    -- what is held was not marked by it
    not-marked : (i : ℕ) → IsHeldAt (scene_of core) i → ¬ MarksBody i entry
    not-marked i held marks = out_or_held (record_at (scene_of core) i) (marks_out (scene_of core) i entry marks lawful.0) held

    held-then : (i : ℕ) → IsHeldAt (scene_of After) i → MarksBody i entry ⊎ (IsHeldAt (scene_of core) i × ¬ JoinsBody i entry)
    held-then i now = held-before core.config.layers (scene_of core) i entry consistent lawful (subst (λ (s : Scene). IsHeldAt s i) leads now)

  -- who marked a body that was held and is held still has marked it last
  goes-on : (number i : ℕ) → IsMarkedBy number past i → IsHeldAt (scene_of core) i → IsHeldAt (scene_of After) i → IsMarkedBy number (history After.log) i
  goes-on number i was held now =
      elim grows [
        | by_none is ↦ subst (λ (l : List Made). IsMarkedBy number l i) (sym is) was
        | by_one entry is ↦
            let unmarked = not-marked entry is i held in
            subst (λ (l : List Made). IsMarkedBy number l i) (sym is)
            (marked-more number i past (made entry) was unmarked
            (λ joins.
            elim (held-then entry is i now) [
              | inl marks ↦ unmarked marks
              | inr t ↦ t.1 joins
            ]))
      ]

  -- of a pass other than this one nothing has changed
  is-stepper : (number i : ℕ) (has : Has core number i) → (number ≡ step.number) ⊎ Has After number i
  is-stepper number i has =
      elim (cases_eq has.seat step.seat) [
        | inl same ↦
            let one : has.view ≡ step.view = at_one core.views step.seat has.view step.view (subst (λ (s : ℕ). IsViewAt core s has.view) same has.at) at in
            let numbers : Some number ≡ Some step.number = sym has.pass ∙ (ap number_of one ∙ pass) in
            inl cc
        | inr other ↦
            inr (record {
              seat = has.seat;
              view = has.view;
              batch = has.batch;
              m = has.m;
              at = set_else core.views step.seat has.seat (view_after kind core step) other ∙ has.at;
              pass = has.pass;
              among = has.among;
              inside = has.inside;
              same = has.same;
            })
      ]

  was-own : (number i : ℕ) → Has core number i → IsMarkedBy number past i
  was-own number i has = subst (IsMarkedBy number past) has.same (own.held has.seat number has.view has.batch has.m has.at has.pass has.among has.inside)

  -- what this pass holds now and was held before it held before
  mine : (i : ℕ) → Has After step.number i → IsHeldAt (scene_of core) i → IsMarkedBy step.number past i
  mine i has held =
      let was = held-has core agree i held in
      let same : was.0 ≡ step.number =
      elim (is-stepper was.0 i was.1) [
        | inl e ↦ e
        | inr then ↦ one-holder After later formed was.0 step.number i then has
      ]
      in
      subst (λ (n : ℕ). IsMarkedBy n past i) same (was-own was.0 i was.1)

  mine-now : (i : ℕ) → Has After step.number i → IsMarkedBy step.number (history After.log) i
  mine-now i has =
      let now = has-held After later step.number i has in
      elim grows [
        | by_none is ↦
            let held = subst (λ (l : List Made). IsHeldAt (scene_from (empty_scene core.config.bodies) l) i) is now in
            goes-on step.number i (mine i has held) held now
        | by_one entry is ↦
            elim (held-then entry is i now) [
              | inl marks ↦ subst (λ (l : List Made). IsMarkedBy step.number l i) (sym is) (marked-now step.number i past entry marks)
              | inr t ↦ goes-on step.number i (mine i has t.0) t.0 now
            ]
      ]

  held-own : HeldAreOwn After
  held-own seat number view batch m at_view is among inside =
      let has : Has After number m.index = record { seat = seat; view = view; batch = batch; m = m; at = at_view; pass = is; among = among; inside = inside; same = refl } in
      elim (at_set core.views step.seat seat (view_after kind core step) view at_view) [
        | inl t ↦
            let numbers : Some step.number ≡ Some number = sym pass ∙ (ap number_of t.1 ∙ is) in
            let same : step.number ≡ number = cc in
            subst (λ (n : ℕ). IsMarkedBy n (history After.log) m.index) same (mine-now m.index (subst (λ (n : ℕ). Has After n m.index) (sym same) has))
        | inr t ↦
            let was : Has core number m.index = record { seat = seat; view = view; batch = batch; m = m; at = t.1; pass = is; among = among; inside = inside; same = refl } in
            goes-on number m.index (was-own number m.index was) (has-held core agree number m.index was) (has-held After later number m.index has)
      ]

  -- who unmarks a body held it
  unmarked-own : (i : ℕ) → history After.log ≡ past ++ made (Unmark i) ∷ [] → IsMarkedBy step.number past i
  unmarked-own i is =
      let was = held-has core agree i (lawful (Unmark i) is).0 in
      let same : was.0 ≡ step.number =
      elim (is-stepper was.0 i was.1) [
        | inl e ↦ e
        | inr then ↦ absurd (unmarked-out (scene_of core) i (subst (λ (s : Scene). IsHeldAt s i) (leads (Unmark i) is) (has-held After later was.0 i then)))
      ]
      in
      subst (λ (n : ℕ). IsMarkedBy n past i) same (was-own was.0 i was.1)

  unmarks-own : UnmarkedAreOwn (history After.log)
  unmarks-own before after i number parts =
      elim grows [
        | by_none is ↦ own.unmarked before after i number (sym is ∙ parts)
        | by_one entry is ↦
            elim (append_cut past (made entry ∷ []) before after (record { pass = number; entry = Unmark i }) (sym is ∙ parts)) [
              | in_first rest p ↦ own.unmarked before rest i number p
              | in_second front p q ↦
                  let one : record { pass = number; entry = Unmark i } ≡ made entry = one_cut (made entry) (record { pass = number; entry = Unmark i }) front after q in
                  let none : front ≡ [] = alone_front (made entry) (record { pass = number; entry = Unmark i }) front after q in
                  let whole : before ≡ past = p ∙ (ap (λ (l : List Made). past ++ l) none ∙ append-nil past) in
                  let same : step.number ≡ number = ap (λ (m : Made). m.pass) (sym one) in
                  let unmarks : entry ≡ Unmark i = ap (λ (m : Made). m.entry) (sym one) in
                  subst (λ (l : List Made). IsMarkedBy number l i) (sym whole)
                  (subst (λ (n : ℕ). IsMarkedBy n past i) same (unmarked-own i (is ∙ ap (λ (e : Entry). past ++ made e ∷ []) unmarks)))
            ]
      ]
    where
      alone_front : (one x : Made) (front later : List Made) → one ∷ [] ≡ front ++ x ∷ later → front ≡ []
      alone_front one x [] later e = refl
      alone_front one x (f ∷ front) later e = let lengths = ap length e in absurd (omega (arith, length-append front (x ∷ later)))

  pub MarksAreOwn-step : MarksAreOwn After
  MarksAreOwn-step = record { held = held-own; unmarked = unmarks-own }

-- ---- other events

-- a pass had the batch before
pub record KeptBatch (core : Core) (number : ℕ) (batch : Batch) : Type 0 where
  pub seat : ℕ
  pub view : View
  pub at : IsViewAt core seat view
  pub pass : IsPass view number
  pub among : Contains view.batches batch

-- a core with the same log, in which each pass has only batches that it had
pub MarksAreOwn-same : (before after : Core) → after.log ≡ before.log
    → ((seat number : ℕ) (view : View) → IsViewAt after seat view → IsPass view number → (batch : Batch) → Contains view.batches batch → KeptBatch before number batch) → MarksAreOwn before → MarksAreOwn after
MarksAreOwn-same before after log from own = record {
  held = λ seat number view batch m at is among inside.
      let old = from seat number view at is batch among in
      subst (λ (l : List Item). IsMarkedBy number (history l) m.index) (sym log) (own.held old.seat number old.view batch m old.at old.pass old.among inside);
  unmarked = subst (λ (l : List Item). UnmarkedAreOwn (history l)) (sym log) own.unmarked;
}

-- in the opening nothing is held, and nothing was unmarked
pub MarksAreOwn-opening : (c : Config) → MarksAreOwn (opening c)
MarksAreOwn-opening c = record {
  held = λ seat number view batch m at is among inside.
      let has : Contains [] batch = subst (λ (v : View). Contains v.batches batch) (sym (only seat view at)) among in
      let below = has.1 in
      absurd (omega arith);
  unmarked = λ past later i number parts. absurd (no_cut (record { pass = number; entry = Unmark i }) past later parts);
}
  where
    only : (seat : ℕ) (view : View) → IsViewAt (opening c) seat view → blank_view c (Pass 0 (c.passes - 1)) ≡ view
    only zero view at = some-injective _ _ at
    only (suc seat) view at = absurd (some-ne-none view (sym at))
