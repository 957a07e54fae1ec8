use Rattle.std.proofs.Common.{◌∙◌, sym, arith}
use Rattle.shell_lexer.proofs.Skips.{skip_stays, skip_short, not_both, not_first}
use Rattle.shell_lexer.proofs.bytes.skip.Goals as goal
use Rattle.shell_lexer.proofs.bytes.skip.Goals.{else-bytes-place-eq92-via-then-bytes-place-eq92+else-bytes-place-eq10, else-bytes-place-eq92-via-else-bytes-place-eq92}

pub returns-else-bytes-place-eq92-clause-skips : goal.returns-else-bytes-place-eq92-clause-skips
returns-else-bytes-place-eq92-clause-skips c =
    elim c.else-bytes-place-eq92.branch [
      | else-bytes-place-eq92-via-then-bytes-place-eq92+else-bytes-place-eq10 w ↦ sym (skip_stays c.args.bytes.now c.loop-place.place c.loop-place-test.true (not_both _ _ w.if-bytes-place-eq10.false)) ∙ c.loop-place.invariant.2
      | else-bytes-place-eq92-via-else-bytes-place-eq92 w ↦ sym (skip_stays c.args.bytes.now c.loop-place.place c.loop-place-test.true (not_first _ _ w.if-bytes-place-eq92.false)) ∙ c.loop-place.invariant.2
    ]

pub returns-clause-skips : goal.returns-clause-skips
returns-clause-skips c = sym (skip_short c.args.bytes.now c.loop-place.place (omega arith)) ∙ c.loop-place.invariant.2
