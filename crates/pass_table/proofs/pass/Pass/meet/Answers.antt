use Rattle.std.proofs.Common.{ap, ◌∙◌, sym, refl, arith}
use Rattle.core_state.specs.Looking.{MayLook, look}
use Rattle.core_state.specs.Seats.{joined_view}
use Rattle.word_map.specs.declared.name.Name.TheVariants.{Update}
use Rattle.core_state.specs.View.{number_of}
use Rattle.pass_table.proofs.Bodies.{stepped-current}
use Rattle.pass_table.proofs.Knowing.{met-look, looked, meets-with}
use Rattle.pass_table.proofs.Leaving.{may-step, number-left, walk-left, still-held, sizes-left}
use Rattle.pass_table.proofs.Seating.{visits-allowed, joins-allowed, words-some}
use Rattle.pass_table.proofs.Telling.{more-adds, more-tells, more-keeps}
use Rattle.pass_table.proofs.pass.Pass.meet.Goals as goal

pub split_seat-visitor-requires : goal.split_seat-visitor-requires
split_seat-visitor-requires c =
    let world = c.args.world.now in
    let other = c.args.other.now in (
      c.requires.other_of.table,
      words-some world.map world.table.shared.table_id.words world.sized.1,
      visits-allowed world.table.shared.key other.seat.id other.seat.me.0 other.number other.numbered,
    )

pub join_seat-requires : goal.join_seat-requires
join_seat-requires c =
    let world = c.args.world.now in
    let pass = c.args.self.now in
    let visitor = c.split_seat-visitor.result in
    let split = c.split_seat-visitor.ensures in (
      c.requires.of.table,
      split.3 ∙ c.requires.other_of.table,
      ap (λ me. me.1) split.4,
      words-some world.map world.table.shared.table_id.words world.sized.1,
      joins-allowed world.table.shared.key pass.seat.id pass.seat.me.0 visitor.me.0 visitor.id pass.number pass.numbered (ap (λ me. me.0.role) split.4),
    )

pub load-requires-clause-may : goal.load-requires-clause-may
load-requires-clause-may c =
    let world = c.args.world.now in
    let pass = c.args.self.now in
    may-step MayLook world.table.shared.key world.map world.table.shared.table_id c.join_seat.new.seat.me c.place-place.result 0 0 pass.number Update
    world.sized.0 world.sized.1 (ap (λ me. me.0.config) c.join_seat.ensures.2 ∙ c.requires.of.sizes) c.place-place.ensures.in_range c.place-place.ensures.name
    (ap (λ me. number_of me.0) c.join_seat.ensures.2 ∙ pass.numbered) (omega arith) (omega arith) tt

pub invariant_of-self-clause-numbered : goal.invariant_of-self-clause-numbered
invariant_of-self-clause-numbered c =
    let world = c.args.world.now in
    let pass = c.args.self.now in
    let other = c.args.other.now in
    let step = met-look _ world.map pass.seat.me.0 other.seat.me.0 _ _ c.load.new.seat.me.0 c.place-place.result c.load.result world.sized.0 c.place-place.ensures.name
    (ap (λ me. me.0) c.split_seat-visitor.ensures.4) (ap (λ me. me.0) c.join_seat.ensures.2) c.load.ensures.step in
    number-left MayLook look (joined_view pass.seat.me.0 other.seat.me.0) Update 0 0 _ _ step pass.number pass.numbered

pub invariant_of-self-clause-holds : goal.invariant_of-self-clause-holds
invariant_of-self-clause-holds c =
    let world = c.args.world.now in
    let pass = c.args.self.now in
    let other = c.args.other.now in
    let step = met-look _ world.map pass.seat.me.0 other.seat.me.0 _ _ c.load.new.seat.me.0 c.place-place.result c.load.result world.sized.0 c.place-place.ensures.name
    (ap (λ me. me.0) c.split_seat-visitor.ensures.4) (ap (λ me. me.0) c.join_seat.ensures.2) c.load.ensures.step in
    still-held MayLook look (joined_view pass.seat.me.0 other.seat.me.0) Update 0 0 _ _ step (λ view name found first second. (refl, refl)) pass.held pass.written pass.holds

pub invariant_of-self-clause-walking : goal.invariant_of-self-clause-walking
invariant_of-self-clause-walking c =
    let world = c.args.world.now in
    let pass = c.args.self.now in
    let other = c.args.other.now in
    let step = met-look _ world.map pass.seat.me.0 other.seat.me.0 _ _ c.load.new.seat.me.0 c.place-place.result c.load.result world.sized.0 c.place-place.ensures.name
    (ap (λ me. me.0) c.split_seat-visitor.ensures.4) (ap (λ me. me.0) c.join_seat.ensures.2) c.load.ensures.step in
    pass.walking ∙ sym (walk-left MayLook look (joined_view pass.seat.me.0 other.seat.me.0) Update 0 0 _ _ step (λ view name found first second. (refl, refl)))

pub invariant_of-self-clause-current : goal.invariant_of-self-clause-current
invariant_of-self-clause-current c =
    let world = c.args.world.now in
    let pass = c.args.self.now in
    let other = c.args.other.now in
    let step = met-look _ world.map pass.seat.me.0 other.seat.me.0 _ _ c.load.new.seat.me.0 c.place-place.result c.load.result world.sized.0 c.place-place.ensures.name
    (ap (λ me. me.0) c.split_seat-visitor.ensures.4) (ap (λ me. me.0) c.join_seat.ensures.2) c.load.ensures.step in
    ∣ stepped-current MayLook look (joined_view pass.seat.me.0 other.seat.me.0) _ Update 0 0 _ step ∣₁

pub returns-clause-of : goal.returns-clause-of
returns-clause-of c =
    let world = c.args.world.now in
    let pass = c.args.self.now in
    let other = c.args.other.now in
    let step = met-look _ world.map pass.seat.me.0 other.seat.me.0 _ _ c.load.new.seat.me.0 c.place-place.result c.load.result world.sized.0 c.place-place.ensures.name
    (ap (λ me. me.0) c.split_seat-visitor.ensures.4) (ap (λ me. me.0) c.join_seat.ensures.2) c.load.ensures.step in
    record { table = c.load.ensures.seat.0 ∙ (c.join_seat.ensures.0 ∙ c.requires.of.table); sizes = sizes-left MayLook look (joined_view pass.seat.me.0 other.seat.me.0) Update 0 0 _ _ step ∙ c.requires.of.sizes }

pub returns-clause-meets : goal.returns-clause-meets
returns-clause-meets c =
    let world = c.args.world.now in
    let pass = c.args.self.now in
    let other = c.args.other.now in
    let step = met-look _ world.map pass.seat.me.0 other.seat.me.0 _ _ c.load.new.seat.me.0 c.place-place.result c.load.result world.sized.0 c.place-place.ensures.name
    (ap (λ me. me.0) c.split_seat-visitor.ensures.4) (ap (λ me. me.0) c.join_seat.ensures.2) c.load.ensures.step in
    meets-with pass.seat.me.0 other.seat.me.0 _ (looked (joined_view pass.seat.me.0 other.seat.me.0) _ _ step)

pub returns-clause-adds : goal.returns-clause-adds
returns-clause-adds c =
    let world = c.args.world.now in
    let pass = c.args.self.now in
    let other = c.args.other.now in
    let step = met-look _ world.map pass.seat.me.0 other.seat.me.0 _ _ c.load.new.seat.me.0 c.place-place.result c.load.result world.sized.0 c.place-place.ensures.name
    (ap (λ me. me.0) c.split_seat-visitor.ensures.4) (ap (λ me. me.0) c.join_seat.ensures.2) c.load.ensures.step in
    more-adds pass.seat.me.0 _ pass.number pass.numbered (meets-with pass.seat.me.0 other.seat.me.0 _ (looked (joined_view pass.seat.me.0 other.seat.me.0) _ _ step)).more

pub returns-clause-tells : goal.returns-clause-tells
returns-clause-tells c =
    let world = c.args.world.now in
    let pass = c.args.self.now in
    let other = c.args.other.now in
    let step = met-look _ world.map pass.seat.me.0 other.seat.me.0 _ _ c.load.new.seat.me.0 c.place-place.result c.load.result world.sized.0 c.place-place.ensures.name
    (ap (λ me. me.0) c.split_seat-visitor.ensures.4) (ap (λ me. me.0) c.join_seat.ensures.2) c.load.ensures.step in
    more-tells pass.seat.me.0 _ pass.number pass.numbered (meets-with pass.seat.me.0 other.seat.me.0 _ (looked (joined_view pass.seat.me.0 other.seat.me.0) _ _ step)).more

pub returns-clause-keeps : goal.returns-clause-keeps
returns-clause-keeps c =
    let world = c.args.world.now in
    let pass = c.args.self.now in
    let other = c.args.other.now in
    let step = met-look _ world.map pass.seat.me.0 other.seat.me.0 _ _ c.load.new.seat.me.0 c.place-place.result c.load.result world.sized.0 c.place-place.ensures.name
    (ap (λ me. me.0) c.split_seat-visitor.ensures.4) (ap (λ me. me.0) c.join_seat.ensures.2) c.load.ensures.step in
    more-keeps pass.seat.me.0 _ (meets-with pass.seat.me.0 other.seat.me.0 _ (looked (joined_view pass.seat.me.0 other.seat.me.0) _ _ step)).more
