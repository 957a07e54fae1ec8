use Rattle.std.proofs.Common.{◌∙◌, sym, ap}
use Rattle.command_words.specs.Words.{step}
use Rattle.command_words.proofs.Advance.{advance}
use Rattle.command_words.proofs.read.read_all.Goals as goal

pub loop-i-preserved : goal.loop-i-preserved
loop-i-preserved c =
    let word = c.index-words-i.result in
    advance c.args.command c.loop-i.begun c.in-Some.next c.args.words.now c.loop-i.i word _ c.loop-i-test.true
    (ap (step c.args.command c.loop-i.begun) (sym c.index-words-i.is ∙ sym c.as_str.ensures) ∙ sym c.in_ok-next.ensures ∙ c.in-Some.is)
    c.loop-i.invariant
