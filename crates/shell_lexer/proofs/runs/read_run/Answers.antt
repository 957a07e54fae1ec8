use Rattle.std.proofs.Common.{sym, ◌∙◌}
use Rattle.shell_lexer.proofs.Cells.{run_goes_on, run_other_read, run_end_read}
use Rattle.shell_lexer.proofs.runs.read_run.Goals as goal

pub returns-then-here-bytes-clause-run : goal.returns-then-here-bytes-clause-run
returns-then-here-bytes-clause-run c = (run_end_read _ _ _ _ _ _ c.bytes.invariant (record { within = c.skip-here.ensures.within; on = c.skip-here.ensures.on; skips = c.skip-here.ensures.skips }) c.if-here-bytes.true).run

pub returns-then-here-bytes-clause-behind : goal.returns-then-here-bytes-clause-behind
returns-then-here-bytes-clause-behind c = (run_end_read _ _ _ _ _ _ c.bytes.invariant (record { within = c.skip-here.ensures.within; on = c.skip-here.ensures.on; skips = c.skip-here.ensures.skips }) c.if-here-bytes.true).behind

pub returns-then-not-passes-clause-run : goal.returns-then-not-passes-clause-run
returns-then-not-passes-clause-run c = (run_other_read _ _ _ _ _ _ c.bytes.invariant (record { within = c.skip-here.ensures.within; on = c.skip-here.ensures.on; skips = c.skip-here.ensures.skips }) c.if-here-bytes.false (sym c.passes.ensures ∙ c.if-not-passes.true)).run

pub returns-then-not-passes-clause-behind : goal.returns-then-not-passes-clause-behind
returns-then-not-passes-clause-behind c = (run_other_read _ _ _ _ _ _ c.bytes.invariant (record { within = c.skip-here.ensures.within; on = c.skip-here.ensures.on; skips = c.skip-here.ensures.skips }) c.if-here-bytes.false (sym c.passes.ensures ∙ c.if-not-passes.true)).behind

pub bytes-preserved : goal.bytes-preserved
bytes-preserved c = run_goes_on c.args.which c.args.bytes.now c.args.at c.bytes.place c.skip-here.result c.bytes.out _ c.bytes.invariant (record { within = c.skip-here.ensures.within; on = c.skip-here.ensures.on; skips = c.skip-here.ensures.skips }) c.if-here-bytes.false (sym c.passes.ensures ∙ c.if-not-passes.false) c.in_ok-push.ensures.ok
