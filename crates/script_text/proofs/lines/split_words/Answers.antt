use Rattle.std.proofs.Common.{rules}
use Rattle.script_text.specs.Lines.{texts, words_of}
use Rattle.script_text.proofs.Cuts.{words_cut, words_last}
use Rattle.script_text.proofs.lines.split_words.Goals as goal

pub loop-word-preserved : goal.loop-word-preserved
loop-word-preserved c =
    words_cut (texts c.loop-word.words.items) (texts c.push_word.new.words.items) c.in-Some.word.now c.loop-word.rest.now c.in-Some.after.now (words_of c.args.line.now)
    (search rules) (search rules) c.loop-word.invariant c.in_ok-push_word.ensures

pub returns : goal.returns
returns c =
    words_last (texts c.loop-word.words.items) (texts c.push_word-2.new.words.items) c.loop-word.rest.now (words_of c.args.line.now)
    (search rules) c.loop-word.invariant c.in_ok-push_word-2.ensures
