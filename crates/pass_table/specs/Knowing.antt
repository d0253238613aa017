-- What passes know of the log, and what they learn.
use Rattle.std.specs.Prelude.{◌≡◌, ℕ, List, [], ◌∷◌, ◌++◌, None}
use Rattle.std.proofs.Common.{ap, sym, ◌∙◌, append_assoc}
use Rattle.std.proofs.lemmas.List.{append-nil}
use Rattle.scene_model.specs.History.{IsLawfulHistory}
use Rattle.word_map.specs.declared.name.Name.TheVariants.{Update}
use Rattle.word_map.specs.declared.name.Name.{Name}
use Rattle.core_state.specs.declared.view.View.{View}
use Rattle.core_state.specs.declared.item.Item.{Item}
use Rattle.core_state.specs.Log.{history, IsPrefix}
use Rattle.core_state.specs.View.{number_in, IsPass}
use Rattle.core_state.specs.Guards.{IsQuiet}
use Rattle.core_state.proofs.Quiet.{append_cut, in_first, in_second, no_cut}
use Rattle.core_state.specs.Looking.{MayLook, look}
use Rattle.core_state.specs.Seats.{joined_view}
use Rattle.pass_table.specs.Stepping.{Stepped}

-- the history that the pass knows is lawful
abbrev pub KnowsLawful : View → Type 0
KnowsLawful view = IsLawfulHistory view.config.layers view.config.bodies (history view.known)

-- an item that another pass stored, and that stores no word which this one has for itself
pub record IsOthers (view : View) (first : List Item) (item : Item) : Type 0 where
  pub foreign : ¬ IsPass view item.pass
  pub quiet : IsQuiet view.config view first item

-- The pass knows more than before, all of it by others, and all else that it has is as it was
pub record KnowsMore (view next : View) : Type 0 where
  pub since : List Item
  pub known : next.known ≡ view.known ++ since
  pub others : (early later : List Item) (item : Item) → since ≡ early ++ item ∷ later → IsOthers view (view.known ++ early) item
  pub rest : next ≡ record view { known = next.known; joined = None }

-- of what came to be known, the pass itself stored this word alone
pub record StoresAlone (view next : View) (name : Name) : Type 0 where
  pub since : List Item
  pub known : next.known ≡ view.known ++ since
  pub own : (early later : List Item) (item : Item) → since ≡ early ++ item ∷ later → IsPass view item.pass → item.name ≡ name

-- the pass has looked: at its load it learned the whole log, and all else that it has is as it was
pub record Looked (view next : View) : Type 0 where
  pub found : ℕ
  pub step : Stepped MayLook look view Update 0 0 found next
  pub whole : next.known ≡ step.before.log
  pub more : KnowsMore view next

-- a pass has met another: it joined what the two knew, and then looked. All else that it has is as it was
pub record MeetsWith (view other next : View) : Type 0 where
  pub more : KnowsMore view next
  pub theirs : IsPrefix other.known next.known
  pub looked : Looked (joined_view view other) next

-- ---- what a pass stores itself

pub alone-refl : (view : View) (name : Name) → StoresAlone view view name
alone-refl view name = record { since = []; known = sym (append-nil view.known); own = λ early later item parts mine. absurd (no_cut item early later parts) }

pub alone-trans : (view mid next : View) (name : Name) → mid.role ≡ view.role → StoresAlone view mid name → StoresAlone mid next name → StoresAlone view next name
alone-trans view mid next name role one two = record {
  since = one.since ++ two.since;
  known = two.known ∙ (ap (λ (l : List Item). l ++ two.since) one.known ∙ append_assoc view.known one.since two.since);
  own = λ early later item parts mine.
      elim (append_cut one.since two.since early later item parts) [
        | in_first rest p ↦ one.own early rest item p mine
        | in_second front p q ↦ two.own front later item q (ap number_in role ∙ mine)
      ];
}

-- what others stored is none of it
pub more-alone : (view next : View) (name : Name) → KnowsMore view next → StoresAlone view next name
more-alone view next name more = record { since = more.since; known = more.known; own = λ early later item parts mine. absurd ((more.others early later item parts).foreign mine) }
