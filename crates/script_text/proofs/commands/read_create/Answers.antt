use Rattle.std.proofs.Common.{◌≡◌, nat_lt, true, refl, ◌∙◌, arith, rules}
use Rattle.std.proofs.lemmas.Bool.Decides.{nat_tests}
use Rattle.script_text.proofs.Words.{words_9}
use Rattle.script_text.proofs.Creations.{creation_parts}
use Rattle.script_text.proofs.Counts.{create_count}
use Rattle.script_text.proofs.commands.read_create.Goals as goal

pub returns-in_default : goal.returns-in_default
returns-in_default c =
    create_count c.args.names.now c.args.layers c.args.args.now (first_of (search rules, grind (arith, nat_tests)))

pub returns : goal.returns
returns c =
    let parts = creation_parts c.args.names.now c.args.layers c.args.args.now c.in-len9.len_at_least c.in-len9.len_below in
    let layer_fits : nat_lt c.in_ok-layer.layer 4294967296 ≡ true = grind (arith, nat_tests) in
    let user_fits : nat_lt c.in_ok-bounds.user 4294967296 ≡ true = grind (arith, nat_tests) in
    (parts ∙ rw (c.in_ok-layer.ensures.0, c.in_ok-bounds.ensures.0) refl, record { words_are = search (rules, words_9); fits = rw (layer_fits, user_fits) refl })
