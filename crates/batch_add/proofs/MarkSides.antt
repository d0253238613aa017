-- What the turns of marking a body tell that load the sides of its box.
use Rattle.std.proofs.Common.{◌≡◌, ◌≢◌, ℕ, suc, ◌+◌, ◌<◌, ◌≤◌, List, length, set, slice_index, inl, inr, ap, sym, ◌∙◌, subst, arith}
use Rattle.std.proofs.lemmas.Bool.{cases_eq}
use Rattle.std.proofs.lemmas.List.{ext_get_or, get_or-set_same, get_or-set_other, length-set}
use Rattle.fixed_box.specs.FixBox.{words_of}
use Rattle.fixed_box.specs.declared.fix_box.FixBox.{FixBox}
use Rattle.body_ident.specs.Id.{Id}
use Rattle.word_map.specs.declared.name.Name.{Name}
use Rattle.word_map.specs.declared.name.Name.TheVariants.{Layer, BoxWord}
use Rattle.core_state.specs.declared.view.Batch.{Batch}
use Rattle.core_state.specs.declared.view.View.{View}
use Rattle.core_state.specs.View.{known_word}
use Rattle.pass_table.specs.Calls.{AtPoint}
use Rattle.pass_table.specs.Bodies.{IsGuarded, IsTold, Loaded}
use Rattle.pass_table.proofs.Calling.{point-later}
use Rattle.batch_add.specs.Parts.{IsFreeAt}
use Rattle.batch_add.specs.declared.mark_op.MarkStage.TheVariants.{Outside, Sides, Boxed}
use Rattle.batch_add.specs.stages.Marking.{Marks, current, IsBegunFor, IsAtBody, KnowsHere, KnowsSides, PastLook}
use Rattle.batch_add.specs.stages.MarkLater.{here-later, sides-later}
use Rattle.batch_add.proofs.MarkLoads.{body-then, guarded-before, told-then, out-body, out-known, layer-free}

-- a body that is out is in the layer of the batch: its box comes next
pub layer-here : (layer slot : ℕ) (start : View) (before : List Batch) (batch : Batch) (marks : Marks) (begun : IsBegunFor layer slot start before batch marks) (view next : View) (found : ℕ)
    (loaded : Loaded view next (Layer (current marks).index) found) (at : PastLook start before batch marks view Outside) (words : List ℕ) → found ≡ batch.layer → length words ≡ 6
    → PastLook start before batch marks next (Sides words 0)
layer-here layer slot start before batch marks begun view next found loaded at words same six = (
  out-body layer slot start before batch marks begun view next found loaded at,
  (out-known layer slot start before batch marks begun view next found loaded at, loaded.word ∙ same),
  omega arith,
  six,
  λ k below. absurd (omega arith),
  layer-free layer slot start before batch marks begun view next found loaded at same,
)

module _ (layer slot : ℕ) (start : View) (before : List Batch) (batch : Batch) (marks : Marks) (begun : IsBegunFor layer slot start before batch marks) (view next : View)
    (words : List ℕ) (loaded found : ℕ) (side_loaded : Loaded view next (BoxWord (current marks).index loaded) found) (at : PastLook start before batch marks view (Sides words loaded)) where
  abbrev side_id : Id
  side_id = current marks

  abbrev side_name : Name
  side_name = BoxWord side_id.index loaded

  abbrev side_words : List ℕ
  side_words = set words loaded found

  side_body : IsAtBody start before batch marks next
  side_body = body-then layer slot start before batch marks begun view next side_name found side_loaded at.0

  side_guarded : IsGuarded side_id view
  side_guarded = guarded-before layer slot start before batch marks begun view next side_name found side_loaded at.0 at.1.0.0

  side_here : KnowsHere side_id batch.layer next
  side_here = here-later side_id view next side_guarded side_loaded.more batch.layer at.1

  -- with this side so many are known
  known_sides : KnowsSides side_id next side_words (suc loaded)
  known_sides k below =
      elim (cases_eq k loaded) [
        | inl same ↦
            let all = at.3 in
            let room = at.2 in
            (λ i. known_word next (BoxWord side_id.index (same i)))
            ∙ (side_loaded.word
            ∙ (sym (get_or-set_same words loaded found 0 (omega arith)) ∙ ap (slice_index side_words) (sym same)))
        | inr apart ↦
            sides-later side_id view next side_guarded side_loaded.more words loaded at.4 k (omega arith) ∙ sym (get_or-set_other words loaded k found 0 apart)
      ]

  side_free : AtPoint start next (IsFreeAt start.config batch.layer side_id)
  side_free = point-later start view next _ (side_loaded.more.since, side_loaded.more.known) at.5

  pub side-next : loaded < 5 → PastLook start before batch marks next (Sides side_words (loaded + 1))
  side-next less = (side_body, side_here, omega arith, length-set words loaded found ∙ at.3, λ k below. known_sides k (omega arith), side_free)

  pub side-last : 5 ≤ loaded → (bounds : FixBox) → words_of bounds ≡ side_words → PastLook start before batch marks next (Boxed bounds)
  side-last last bounds same = (side_body, side_here, subst (λ (l : List ℕ). KnowsSides side_id next l 6) (sym same) (λ k below. known_sides k (omega arith)), side_free)

  -- the six words are those of the body's box
  pub side-box : 5 ≤ loaded → ((bounds : FixBox) → words_of bounds ≢ side_words) → ⊥
  side-box last none =
      let told : IsTold side_id next = told-then layer slot start before batch marks begun view next side_name found side_loaded at.0 at.1.0.0 in
      let all : length side_words ≡ 6 = length-set words loaded found ∙ at.3 in
      none told.body.bounds (ext_get_or 0 (words_of told.body.bounds) side_words (sym all) (λ k below. sym (told.bounds k below) ∙ known_sides k (omega arith)))
