use Rattle.std.proofs.Common.{◌∙◌, ap, drop, ◌+◌}
use Rattle.shell_lexer.specs.Operators as table
use Rattle.shell_lexer.proofs.Numbers.{numbered_at, other_word}
use Rattle.shell_lexer.proofs.operators.numbered.Goals as goal

pub returns-in-Less-clause-gives : goal.returns-in-Less-clause-gives
returns-in-Less-clause-gives c = c.less.ensures.gives ∙ ap (λ n. table.less c.skip-angle.result n (drop (c.skip-angle.result + 1) c.args.text.now)) c.as_slice.ensures
    ∙ numbered_at c.args.text.now _ c.args.at c.in_ok-number.end c.skip-angle.result _ c.in_ok-number.ensures.run c.in_ok-number.ensures.behind (record { within = c.skip-angle.ensures.within; on = c.skip-angle.ensures.on; skips = c.skip-angle.ensures.skips }) c.if-angle-text.false c.in-Less.ensures

pub returns-in-Greater-clause-gives : goal.returns-in-Greater-clause-gives
returns-in-Greater-clause-gives c = c.greater.ensures.gives ∙ ap (λ n. table.greater c.skip-angle.result n (drop (c.skip-angle.result + 1) c.args.text.now)) c.as_slice-in-Greater.ensures
    ∙ numbered_at c.args.text.now _ c.args.at c.in_ok-number.end c.skip-angle.result _ c.in_ok-number.ensures.run c.in_ok-number.ensures.behind (record { within = c.skip-angle.ensures.within; on = c.skip-angle.ensures.on; skips = c.skip-angle.ensures.skips }) c.if-angle-text.false c.in-Greater.ensures

pub returns : goal.returns
returns c = record {
  gives = other_word c.skip-angle.result c.in_ok-number.number (drop (c.skip-angle.result + 1) c.args.text.now) _ c.in_default.not-Less c.in_default.not-Greater
      ∙ numbered_at c.args.text.now _ c.args.at c.in_ok-number.end c.skip-angle.result _ c.in_ok-number.ensures.run c.in_ok-number.ensures.behind (record { within = c.skip-angle.ensures.within; on = c.skip-angle.ensures.on; skips = c.skip-angle.ensures.skips }) c.if-angle-text.false c.kind_of.ensures;
  further = tt;
}
