-- A whole walk of a call, from the step that begins it to the one that ends it.
use Rattle.std.proofs.Common.{◌≡◌, ℕ, List, [], ◌∷◌, true, false, length, refl, ap, sym, ◌∙◌, subst}
use Rattle.std.specs.Prelude.{Contains}
use Rattle.std.proofs.lemmas.Option.{same_Some}
use Rattle.fixed_box.specs.declared.shape.Shape.{Shape}
use Rattle.core_state.specs.declared.item.Load.{Load}
use Rattle.core_state.specs.declared.view.View.{View}
use Rattle.core_state.specs.View.{IsPass}
use Rattle.core_state.specs.Walking.{asked_words}
use Rattle.core_state.proofs.Opening.{none_in}
use Rattle.pass_table.specs.Bodies.{IsCurrent}
use Rattle.pass_table.proofs.WorkLater.{same_pass}
use Rattle.tree_query.specs.declared.finder.Finder.{Finder}
use Rattle.tree_query.specs.Finding.{has_index}
use Rattle.tree_query.specs.Walking.{reader_store, BeginsWalk, EndsWalk}
use Rattle.tree_query.specs.Collecting.{Trip, found_by, IsCollecting, word_place}
use Rattle.tree_query.specs.Answers.{HasCollected}
use Rattle.tree_query.proofs.Ended.{walked-none, collected}
use Rattle.tree_query.proofs.Queries.{query_of}

-- the walk of a call that begins with this view
abbrev pub trip_of : Shape → ℕ → View → ℕ → ℕ → Trip
trip_of shape mask start number first = record { start = start; told = reader_store number first ∷ []; query = query_of shape mask }

-- it has begun, and found nothing yet
pub walk-begins : (shape : Shape) (mask : ℕ) (start mid : View) (number first : ℕ) (finder : Finder) → IsPass start number → BeginsWalk start mid number first → ((index : ℕ) → has_index finder index ≡ false)
    → finder.loads ≡ 0 → IsCollecting (trip_of shape mask start number first) shape finder mid (word_place (asked_words start.config mask))
walk-begins shape mask start mid number first finder pass begun none loads = record {
  asks = refl;
  on = record { walked = begun.walked start [] (walked-none start number pass); walking = begun.walking start [] (walked-none start number pass) (query_of shape mask) };
  kept = record {
    found = λ index. (
      λ h. let never : false ≡ true = sym (none index) ∙ h in absurd cc,
      λ h. absurd (none_in index (subst (λ (l : List Load). Contains (found_by start.config (query_of shape mask) l) index) begun.loads h)),
    );
    seqs = λ index h. let never : false ≡ true = sym (none index) ∙ h in absurd cc;
    loads = loads ∙ sym (ap (length {A = Load}) begun.loads);
  };
}

-- it has ended
pub walk-ends : (shape : Shape) (mask : ℕ) (start last next : View) (number first other second : ℕ) (finder : Finder) → IsPass start number
    → IsCollecting (trip_of shape mask start number first) shape finder last (word_place []) → ∥ IsCurrent last ∥₁ → IsPass last other → EndsWalk last next other second → HasCollected shape mask start next finder
walk-ends shape mask start last next number first other second finder pass h current own ended =
    let role : last.role ≡ start.role = ap (λ (v : View). v.role) h.on.walked.left in
    let same : other ≡ number = same_Some other number (sym own ∙ same_pass start last number role pass) in
    collected shape mask (trip_of shape mask start number first) finder last next number first second pass refl refl h current (subst (λ (n : ℕ). EndsWalk last next n second) same ended)
