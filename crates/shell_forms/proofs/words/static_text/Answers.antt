use Rattle.std.proofs.Common.{Some, ap, sym, ◌∙◌, arith, drop, ◌++◌, ◌+◌}
use Rattle.shell_forms.specs.Words.{both_bytes}
use Rattle.shell_forms.specs.Seen.{static_of}
use Rattle.shell_forms.proofs.Static.{static_more, static_not, static_end, static_start}
use Rattle.shell_forms.proofs.words.static_text.Goals as goal

pub loop-part-init : goal.loop-part-init
loop-part-init c =
    ap (λ t. both_bytes (Some t) (static_of c.as_slice-part-items.result.now)) c.new-text.ensures ∙ static_start (static_of c.as_slice-part-items.result.now)

pub returns-in-None : goal.returns-in-None
returns-in-None c =
    static_not (static_of c.as_slice-part-items.result.now) c.as_slice-part-items.result.now c.loop-part.part-index c.part-item.result c.loop-part.text
    c.loop-part-test.true c.part-item.is (sym c.in-None.ensures) c.loop-part.invariant ∙ ap static_of c.as_slice-part-items.ensures

pub loop-part-preserved : goal.loop-part-preserved
loop-part-preserved c =
    ap (λ t. both_bytes (Some t) (static_of (drop (c.loop-part.part-index + 1) c.as_slice-part-items.result.now)))
    (c.in_ok-extend-in-Some.ensures.ok ∙ ap (λ b. c.loop-part.text ++ b) c.as_slice.ensures)
    ∙ static_more (static_of c.as_slice-part-items.result.now) c.as_slice-part-items.result.now c.loop-part.part-index c.part-item.result c.loop-part.text c.in-Some.bytes.now
    c.loop-part-test.true c.part-item.is (sym c.in-Some.ensures) c.loop-part.invariant

pub returns : goal.returns
returns c =
    static_end (static_of c.as_slice-part-items.result.now) c.as_slice-part-items.result.now c.loop-part.part-index c.loop-part.text
    (omega (arith, c.loop-part-test.false)) c.loop-part.invariant ∙ ap static_of c.as_slice-part-items.ensures
