use Rattle.std.proofs.Common.{Some, ap, sym, ◌∙◌, arith, drop, ◌++◌, ◌+◌}
use Rattle.settled_commands.specs.Joined.{joined, all_joined}
use Rattle.settled_commands.specs.Given.{literal}
use Rattle.settled_commands.proofs.Joining.{joined_start, joined_more, joined_not, joined_end}
use Rattle.settled_commands.proofs.given.static_text.Goals as goal

pub loop-part-init : goal.loop-part-init
loop-part-init c =
    ap (λ t. joined (Some t) (all_joined literal c.args.parts.now)) c.new-text.ensures ∙ joined_start (all_joined literal c.args.parts.now)

pub returns-in-None : goal.returns-in-None
returns-in-None c =
    joined_not literal _ c.args.parts.now c.loop-part.part-index c.part-item.result c.loop-part.text
    c.loop-part-test.true c.part-item.is (sym c.in-None.ensures) c.loop-part.invariant

pub loop-part-preserved : goal.loop-part-preserved
loop-part-preserved c =
    ap (λ t. joined (Some t) (all_joined literal (drop (c.loop-part.part-index + 1) c.args.parts.now)))
    (c.in_ok-extend-in-Some.ensures.ok ∙ ap (λ b. c.loop-part.text ++ b) c.as_slice.ensures)
    ∙ joined_more literal _ c.args.parts.now c.loop-part.part-index c.part-item.result c.loop-part.text c.in-Some.bytes.now
    c.loop-part-test.true c.part-item.is (sym c.in-Some.ensures) c.loop-part.invariant

pub returns : goal.returns
returns c =
    joined_end literal _ c.args.parts.now c.loop-part.part-index c.loop-part.text (omega (arith, c.loop-part-test.false)) c.loop-part.invariant
