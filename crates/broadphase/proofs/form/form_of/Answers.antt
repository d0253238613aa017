use Rattle.std.proofs.Common.{◌∙◌, ◌∷◌, [], ℕ, List, ap, sym, arith}
use Rattle.broadphase.specs.Form.{form_of}
use Rattle.broadphase.proofs.Ending.{only_word}
use Rattle.broadphase.proofs.form.form_of.Goals as goal

pub returns-in-len1 : goal.returns-in-len1
returns-in-len1 c =
    c.form_named.ensures
    ∙ (ap (λ (w : List ℕ). form_of (w ∷ [])) c.as_bytes.ensures.value ∙ sym (ap form_of (only_word c.args.words.now c.word-item.result (omega arith) (omega arith) c.word-item.is)))
