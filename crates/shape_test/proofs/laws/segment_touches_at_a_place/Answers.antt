use Rattle.shape_test.proofs.Places.{TouchingPlace-from_within, within_from_place}
use Rattle.shape_test.proofs.laws.segment_touches_at_a_place.Goals as goal

pub returns : goal.returns
returns c = λ s b. (λ t. TouchingPlace-from_within s b t.0 t.1.0 t.1.1, λ t. (t.on_segment.n, (t.place.scale, within_from_place s b t)))
