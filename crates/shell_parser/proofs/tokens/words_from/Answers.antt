use Rattle.std.proofs.Common.{sym, ◌∙◌, arith, length, ◌<◌}
use Rattle.shell_parser.proofs.Rooms.{inside, row_step}
use Rattle.shell_parser.proofs.tokens.words_from.Goals as goal

pub loop-now-preserved : goal.loop-now-preserved
loop-now-preserved c =
    let is = sym c.is_some.ensures ∙ c.loop-now-test.true in
    let within = inside c.word_parts.result (c.loop-now.now < length c.args.ts.now) is c.word_parts.ensures.within in (
      omega (arith, c.loop-now.invariant.0),
      omega (arith, within),
      row_step c.word_parts.result (λ raws. raws.now) c.args.ts.now c.args.at c.loop-now.now is c.word_parts.ensures.some
          c.loop-now.invariant.0 c.loop-now.invariant.2,
    )
