use Rattle.std.proofs.Common.{◌≡◌, false, length, List, ℕ, ap, ◌∙◌, rules, arith}
use Rattle.script_text.specs.Name.{is_among, add_name}
use Rattle.script_text.specs.Place.{names_of}
use Rattle.script_text.proofs.Places.{index_more, names_more}
use Rattle.script_text.proofs.names.Names.push_new.Goals as goal

pub invariant_of-self-2 : goal.invariant_of-self-2
invariant_of-self-2 c =
    let absent : is_among (names_of c.self.inside.places) c.args.word.now ≡ false = search rules in
    let at_end : c.len-place.result ≡ length c.self.inside.places.entries = omega arith in
    index_more c.self.inside.places c.insert.new.self c.in_ok-name.name c.args.word.now c.len-place.result c.self.invariant absent c.in_ok-name.ensures.items at_end
    c.in_ok-insert.ensures.entries c.in_ok-insert.ensures.updates

pub returns-clause-ok : goal.returns-clause-ok
returns-clause-ok c =
    let absent : is_among (names_of c.self.inside.places) c.args.word.now ≡ false = search rules in
    let at_end : c.len-place.result ≡ length c.self.inside.places.entries = omega arith in
    names_more c.self.inside.places c.insert.new.self c.in_ok-name.name c.args.word.now c.len-place.result c.self.invariant absent c.in_ok-name.ensures.items at_end
    c.in_ok-insert.ensures.entries
    ∙ ap (λ (names : List (List ℕ)). add_name names c.args.word.now) c.self.view_is
