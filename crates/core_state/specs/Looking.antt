-- Kind 4: look. A load of any word, which tells all that the log has.
use Rattle.std.specs.Prelude.{⊤, None}
use Rattle.core_state.specs.Operation.{load}
use Rattle.core_state.specs.Kind.{Kind, Asking}

abbrev pub MayLook : Asking
MayLook view name first second = ⊤

abbrev pub look : Kind
look = record {
  operation = load;
  entry = λ view name value. None;
  leaves = λ view name found first second. view;
}
