-- Looking for a slot, as the first part of a preparation.
use Rattle.pass_table.proofs.TakingTurns.{loads-none}
use Rattle.pass_table.specs.TakeTurns.{LoadedNone}
use Rattle.std.proofs.Common.{◌≡◌, ℕ, ◌+◌, ◌*◌, ◌<◌, List, length, Option, Some, None, Result, Err, refl, ap, sym, ◌∙◌, subst, arith}
use Rattle.core_state.specs.declared.view.View.{View}
use Rattle.pass_table.specs.declared.turn.Turn.TheVariants.{Done, More, Again}
use Rattle.pass_table.specs.Turning.{AtMostOneStep, MadeBy, Turned, IsUnderWay, HasReached, Labelled}
use Rattle.batch_add.specs.declared.answers.SlotWords.{SlotWords}
use Rattle.batch_add.specs.declared.answers.PrepareRefused.{PrepareRefused}
use Rattle.batch_add.specs.declared.answers.PrepareRefused.TheVariants.{NoSlot}
use Rattle.batch_add.specs.declared.prepared.Prepared.{Prepared}
use Rattle.batch_add.specs.declared.slot_search.SlotSearch.{SlotSearch}
use Rattle.batch_add.specs.declared.node_taking.NodeTaking.{NodeTaking}
use Rattle.batch_add.specs.declared.prepare_op.PrepareStage.{PrepareStage}
use Rattle.batch_add.specs.declared.prepare_op.PrepareStage.TheVariants.{Searching, TakingNodes}
use Rattle.batch_add.specs.declared.prepare_op.PrepareOp.{PrepareOp}
use Rattle.batch_add.specs.Parts.{HasReserved, FoundNoSlot}
use Rattle.batch_add.specs.stages.Searching.{IsSearching, HasSearched, search_left}
use Rattle.batch_add.specs.stages.TakingNodes.{IsTakingNodes, nodes_left, nodes_takes}
use Rattle.batch_add.specs.stages.Preparing.{ids_of, count_of, need_of, AtPrepare, IsPreparing, left_after, stage_left, prepare_left, entry_at, entry_of, label_of, stage_label, IsPrepareTurn, takes_at}
use Rattle.batch_add.proofs.PartTurns.{goes-on, part-more, part-again}
use Rattle.batch_add.proofs.PartsLeft.{search-some, nodes-most, nodes-after, some-ids}

module _ (op : PrepareOp) (view : View) (at : op.stage ≡ Searching) where
  pub search-at : (first : PrepareOp) (start : View) → IsPreparing first start op view → AtPrepare op start view Searching
  search-at first start h = subst (AtPrepare op start view) at h.at

  -- what the search rests on
  pub search-inside : IsUnderWay IsPreparing op view → IsUnderWay IsSearching op.search view
  search-inside h = let p = (search-at h.first h.start h.goes).1 in record { first = p.first; start = p.mid; goes = p.goes }

  pub search-count : IsUnderWay IsPreparing op view → 0 < count_of op
  search-count h = (search-at h.first h.start h.goes).0

  pub search-nodes : IsUnderWay IsPreparing op view → op.taking.count ≡ need_of op
  search-nodes h = (search-at h.first h.start h.goes).2

  pub search-room : IsUnderWay IsPreparing op view → length op.taking.nodes.items ≡ need_of op
  search-room h = (search-at h.first h.start h.goes).3

  -- how many turns come after it
  abbrev rest : ℕ
  rest = 15 * count_of op + left_after (count_of op) (need_of op)

  left_before : prepare_left op ≡ search_left op.search + (3 * need_of op + 6 + rest)
  left_before = ap (stage_left op) at

  module _ (search : SlotSearch) (next : View) where
    abbrev pub searched : PrepareOp
    searched = record op { search = search }

    pub search-label : label_of searched ≡ label_of op
    search-label = refl

    pub search-made : MadeBy view next None → MadeBy view next (entry_of searched)
    search-made made = subst (MadeBy view next) (sym (ap (entry_at searched) at)) made

    abbrev Keeps : Type 0
    Keeps = (first : SlotSearch) (start : View) → IsSearching first start op.search view → IsSearching first start search next

    search_keeps : Keeps → (first : PrepareOp) (start : View) → IsPreparing first start op view → IsPreparing first start searched next
    search_keeps keeps first start h =
        let a = search-at first start h in
        let p = a.1 in
        let room = a.4 in
        record {
          layer = h.layer;
          ids = h.ids;
          wanted = record { in_layers = h.wanted.in_layers; below = h.wanted.below; few = h.wanted.few; rest = h.wanted.rest; current = h.wanted.current };
          at =
              subst (AtPrepare searched start next) (sym at) (
                a.0,
                record { mid = p.mid; first = p.first; so = record { here = p.so.here; layer = p.so.layer }; goes = keeps p.first p.mid p.goes },
                a.2,
                a.3,
                record { bodies = room.bodies; plans = record { plans = room.plans.plans; indexes = room.plans.indexes } },
              );
        }

    left_same : prepare_left op ≡ (3 * need_of op + 6 + rest) + search_left op.search
    left_same = left_before ∙ turned_round (search_left op.search) (3 * need_of op + 6 + rest)
      where
        turned_round : (a b : ℕ) → a + b ≡ b + a
        turned_round a b = omega arith

    left_then : prepare_left searched ≡ (3 * need_of op + 6 + rest) + search_left search
    left_then = ap (stage_left searched) at ∙ turned_round (search_left search) (3 * need_of op + 6 + rest)
      where
        turned_round : (a b : ℕ) → a + b ≡ b + a
        turned_round a b = omega arith

    -- it goes on
    module _ (step : AtMostOneStep view next) (made : MadeBy view next None) (keeps : Keeps) where
      pub search-more : Turned {T = Option ℕ} More view next None (search_left op.search) (search_left search) → IsPrepareTurn More op searched view next
      search-more turned =
          part-more op searched view next step (search-made made) (search_keeps keeps) (Option ℕ) (3 * need_of op + 6 + rest) (search_left op.search) (search_left search) left_same left_then None None (ap (takes_at op) at) (ap (takes_at searched) at) turned tt

      pub search-again : (lock word : ℕ) → Turned {T = Option ℕ} (Again lock word) view next None (search_left op.search) (search_left search) → IsPrepareTurn (Again lock word) op searched view next
      search-again lock word turned =
          part-again op searched view next step (search-made made) (search_keeps keeps) (Option ℕ) (3 * need_of op + 6 + rest) (search_left op.search) (search_left search) left_same left_then None None (ap (takes_at op) at) (ap (takes_at searched) at) lock word turned tt

    -- what it answers
    abbrev Ends : Option ℕ → Type 0
    Ends answer = (first : SlotSearch) (start : View) → IsSearching first start op.search view → HasSearched first start search next answer

    pub search-answers : (answer other : Option ℕ) → answer ≡ other → Ends answer → Ends other
    search-answers answer other same ends = subst Ends same ends

    pub search-reserved : (slot : ℕ) → Ends (Some slot) → (first : PrepareOp) (start : View) → IsPreparing first start op view → HasReserved op.layer start next slot
    search-reserved slot ends first start h =
        let p = (search-at first start h).1 in
        subst (λ (v : View). HasReserved op.layer v next slot) p.so.here (subst (λ (l : ℕ). HasReserved l p.mid next slot) p.so.layer (ends p.first p.mid p.goes))

    -- a slot is reserved, and nodes are taken next
    module _ (step : AtMostOneStep view next) (made : MadeBy view next None) (slot : ℕ) (ends : Ends (Some slot)) (taking : NodeTaking) (count : taking.count ≡ op.taking.count) (goes : IsTakingNodes taking next taking next) (unloaded : LoadedNone (nodes_takes taking)) where
      abbrev pub taking_next : PrepareOp
      taking_next = record op { search = search; slot = slot; stage = TakingNodes; taking = taking }

      nodes_keep : (first : PrepareOp) (start : View) → IsPreparing first start op view → IsPreparing first start taking_next next
      nodes_keep first start h =
          let a = search-at first start h in
          let room = a.4 in
          record {
            layer = h.layer;
            ids = h.ids;
            wanted = record { in_layers = h.wanted.in_layers; below = h.wanted.below; few = h.wanted.few; rest = h.wanted.rest; current = h.wanted.current };
            at = (
              a.0,
              record { mid = next; first = taking; so = record { reserved = search-reserved slot ends first start h; count = count ∙ a.2 }; goes = goes },
              record { bodies = room.bodies; plans = record { plans = room.plans.plans; indexes = room.plans.indexes } },
            );
          }

      nodes_less : IsUnderWay IsPreparing op view → prepare_left taking_next < prepare_left op
      nodes_less h =
          subst (λ (n : ℕ). prepare_left taking_next < n) (sym left_before)
          (nodes-after (nodes_left taking) (search_left op.search) taking.count (need_of op) rest (nodes-most taking) (count ∙ search-nodes h) (search-some op.search))

      pub search-ends : IsUnderWay IsPreparing op view → IsPrepareTurn More op taking_next view next
      search-ends h = goes-on op taking_next view next step made nodes_keep (nodes_less h) (loads-none view next (nodes_takes taking) unloaded)

      pub search-labelled : Labelled {T = Result Prepared PrepareRefused} More (label_of op) (label_of taking_next)
      search-labelled label reached = absurd (subst (λ (s : PrepareStage). HasReached (stage_label s) label) at reached)

    -- there is none
    module _ (step : AtMostOneStep view next) (made : MadeBy view next None) (ends : Ends None) (words : SlotWords) (same : words.words.items ≡ search.words.items) (last : SlotSearch) where
      pub no-slot : IsPrepareTurn (Done (Err (NoSlot words))) op (record op { search = last }) view next
      no-slot = record {
        step = step;
        made = subst (MadeBy view next) (sym (ap (entry_at (record op { search = last })) at)) made;
        turned = tt;
        loads = tt;
        keeps = λ first start h. tt;
        answered = λ first start h.
            let a = search-at first start h in
            let p = a.1 in (
              λ none. some-ids (ids_of op) a.0 (h.ids ∙ none),
              subst (λ (v : View). FoundNoSlot first.layer v next words.words.items) p.so.here
                  (subst (λ (l : ℕ). FoundNoSlot l p.mid next words.words.items) (p.so.layer ∙ h.layer)
                  (subst (λ (l : List ℕ). FoundNoSlot p.first.layer p.mid next l) (sym same) (ends p.first p.mid p.goes))),
            );
      }
