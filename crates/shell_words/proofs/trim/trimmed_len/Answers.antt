use Rattle.std.proofs.Common.{arith}
use Rattle.shell_words.proofs.Trims.{trim-more, trim-end}
use Rattle.shell_words.proofs.trim.trimmed_len.Goals as goal

pub returns-then-bytes-before-ne10 : goal.returns-then-bytes-before-ne10
returns-then-bytes-before-ne10 c =
    trim-end c.args.bytes.now c.loop-end.end c.loop-end-test.true c.loop-end.invariant.within c.if-bytes-before-ne10.true c.loop-end.invariant.newlines

pub loop-end-preserved : goal.loop-end-preserved
loop-end-preserved c = record {
  within = omega (arith, c.loop-end.invariant.within);
  newlines = trim-more c.args.bytes.now c.loop-end.end c.loop-end-test.true c.loop-end.invariant.within c.if-bytes-before-ne10.false c.loop-end.invariant.newlines;
}
