-- What a pass knows of a body whose stripe it holds and that no batch holds, as far as what it knows is sound: of a view that
-- somebody else made this is not known.
use Rattle.std.specs.Prelude.{◌≡◌, ℕ, All}
use Rattle.body_ident.specs.Id.{Id}
use Rattle.scene_model.specs.declared.body_view.Phase.{Phase}
use Rattle.word_map.specs.declared.name.Name.TheVariants.{LocA, LocB}
use Rattle.core_state.specs.declared.view.View.{View}
use Rattle.core_state.specs.View.{known_word}
use Rattle.core_state.specs.Formed.{IsSoundItem}
use Rattle.pass_table.specs.Knowing.{KnowsLawful}
use Rattle.pass_table.specs.Bodies.{KnowsLive, HasKnownBody}

-- what the pass knows was stored by passes of the world, in words of it, and its history is lawful
pub record KnowsSound (view : View) : Type 0 where
  pub items : All (IsSoundItem view.config) view.known
  pub lawful : KnowsLawful view

-- the body of the id is live, and in this phase
pub record KnowsPhase (id : Id) (phase : Phase) (view : View) : Type 0 where
  pub live : KnowsLive id view
  pub body : KnowsSound view → HasKnownBody id view (λ r. r.phase ≡ phase)

-- its two location words are these
abbrev pub KnowsFirst : Id → ℕ → View → Type 0
KnowsFirst id first view = KnowsSound view → known_word view (LocA id.index) ≡ first

abbrev pub KnowsSecond : Id → ℕ → View → Type 0
KnowsSecond id second view = known_word view (LocB id.index) ≡ second
