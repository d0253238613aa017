use Rattle.fixed_box.specs.FixBox.{words_of}
use Rattle.std.proofs.Common.{ℕ, ◌<◌, List, Some, refl, ap, sym, ◌∙◌, subst, arith}
use Rattle.std.specs.Prelude.{slice_index}
use Rattle.word_map.specs.declared.config.Config.{Config}
use Rattle.word_map.specs.declared.name.Name.TheVariants.{Bound}
use Rattle.word_map.specs.Names.{node_count}
use Rattle.core_state.specs.Moving.{MayWiden, MayWidenLow, widen_low}
use Rattle.pass_table.specs.Passes.{view_of}
use Rattle.pass_table.specs.Stepping.{Stepped}
use Rattle.widen_bounds.specs.declared.climbing.Climb.{Climb}
use Rattle.widen_bounds.specs.stages.Climbing.{IsClimbTurn}
use Rattle.widen_bounds.proofs.WidenAsks.{may-widen, node-in}
use Rattle.widen_bounds.proofs.WidenSides.{low-turn}
use Rattle.widen_bounds.proofs.climbing.Climb.widen_low.Goals as goal

pub step_34-requires : goal.step_34-requires
step_34-requires g c =
    let view = view_of c.args.pass.now in
    let climb = c.args.self in
    let way = c.requires.1.0 in
    let low : climb.side < 6 = let side = c.requires.1.1 in omega arith in
    let current = c.args.pass.now.current in (
      c.requires.0,
      (
        (subst (λ (s : Config). climb.node < node_count s) c.requires.0.sizes (node-in way.id c.args.target.now way.steps way.start view way.known way.first way.second way.at climb way.goes current), way.goes.climbing.inside, low),
        subst (λ (words : List ℕ). MayWidenLow g.index view (Bound climb.node climb.child climb.side) (slice_index words climb.side) 0) (sym c.to_words-words.ensures.value)
            (record {
              node = climb.node;
              child = climb.child;
              side = climb.side;
              names = refl;
              is_low = c.requires.1.1;
              may = subst (λ (i : ℕ). MayWiden i view climb.node climb.child climb.side (slice_index (words_of c.args.target.now) climb.side)) way.same
                  (may-widen way.id c.args.target.now way.steps way.start view way.known way.first way.second way.at climb way.goes current low);
            }),
      ),
    )

pub returns-clause-turn : goal.returns-clause-turn
returns-clause-turn g c =
    let view = view_of c.args.pass.now in
    let next = view_of c.step_34.new.pass in
    let climb = c.args.self in
    let stepped = subst (λ (words : List ℕ). Stepped (MayWidenLow g.index) (widen_low g.index) view (Bound climb.node climb.child climb.side) (slice_index words climb.side) 0 c.step_34.result next) c.to_words-words.ensures.value c.step_34.ensures.step in
    subst (λ (after : Climb). IsClimbTurn g.index c.args.target.now climb (Some after) view next) (sym (c.with_side.ensures.result ∙ ap (λ (s : ℕ). record climb { side = s }) (omega arith)))
    (low-turn g.index c.args.target.now climb view next c.step_34.result c.requires.1.0 c.requires.1.1 stepped)
