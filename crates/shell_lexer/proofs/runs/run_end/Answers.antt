use Rattle.std.proofs.Common.{sym, ◌∙◌, drop, arith}
use Rattle.shell_lexer.proofs.Fronts.{skip_front, skip_end}
use Rattle.shell_lexer.proofs.Cells.{behind_front, behind_other, behind_end}
use Rattle.shell_lexer.proofs.runs.run_end.Goals as goal

pub returns-then-here-bytes-clause-behind : goal.returns-then-here-bytes-clause-behind
returns-then-here-bytes-clause-behind c = sym (c.bytes.invariant.behind ∙ behind_end c.args.which (drop c.bytes.place c.args.bytes.now) (skip_end c.args.bytes.now c.bytes.place c.skip-here.result (record { within = c.skip-here.ensures.within; on = c.skip-here.ensures.on; skips = c.skip-here.ensures.skips }) c.if-here-bytes.true))

pub returns-then-not-passes-clause-behind : goal.returns-then-not-passes-clause-behind
returns-then-not-passes-clause-behind c = sym (c.bytes.invariant.behind ∙ behind_other c.args.which (drop c.bytes.place c.args.bytes.now) _ _ (skip_front c.args.bytes.now c.bytes.place c.skip-here.result (record { within = c.skip-here.ensures.within; on = c.skip-here.ensures.on; skips = c.skip-here.ensures.skips }) c.if-here-bytes.false) (sym c.passes.ensures ∙ c.if-not-passes.true))

pub bytes-preserved : goal.bytes-preserved
bytes-preserved c = record {
  on = omega arith;
  within = omega arith;
  behind = c.bytes.invariant.behind ∙ behind_front c.args.which (drop c.bytes.place c.args.bytes.now) _ _ (skip_front c.args.bytes.now c.bytes.place c.skip-here.result (record { within = c.skip-here.ensures.within; on = c.skip-here.ensures.on; skips = c.skip-here.ensures.skips }) c.if-here-bytes.false) (sym c.passes.ensures ∙ c.if-not-passes.false);
}
