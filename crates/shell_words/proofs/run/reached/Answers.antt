use Rattle.std.proofs.Common.{get_or, ap, sym, ◌∙◌, arith}
use Rattle.shell_words.specs.declared.pattern.Item.TheVariants.{Star}
use Rattle.shell_words.specs.Patterns.{allows}
use Rattle.shell_words.specs.Runs.{is_star}
use Rattle.shell_words.proofs.Matching.{stands-more, no-text, no-byte, whole, no-items}
use Rattle.shell_words.proofs.run.reached.Goals.{then-n-text-via-then-n-text, then-n-text-via-else-n-text+then-not-allows}
use Rattle.shell_words.proofs.run.reached.Goals as goal

pub returns-then-n-text : goal.returns-then-n-text
returns-then-n-text c =
    let items = c.args.items.now in
    let text = c.args.text.now in
    let n = c.loop-n.n in
    let item = c.index-items-n.result in
    let other = ap is_star (sym c.index-items-n.is) ∙ sym c.is_star.ensures ∙ c.if-is_star.false in
    elim c.then-n-text.branch [
      | then-n-text-via-then-n-text w ↦ no-text items text n item c.loop-n.invariant.stands c.loop-n-test.true other (omega (arith, w.if-n-text.true))
      | then-n-text-via-else-n-text+then-not-allows w ↦ no-byte items text n item c.loop-n.invariant.stands c.loop-n-test.true other
          (omega (arith, w.if-n-text.false, c.loop-n.invariant.within)) (ap (λ i. allows i (get_or text n 0)) (sym c.index-items-n.is) ∙ sym w.allows.ensures ∙ w.if-not-allows.true)
    ]

pub loop-n-preserved : goal.loop-n-preserved
loop-n-preserved c =
    let items = c.args.items.now in
    let text = c.args.text.now in
    let n = c.loop-n.n in
    record {
      within = omega (arith, c.if-n-text.false, c.loop-n.invariant.within);
      stands = stands-more items text n c.index-items-n.result c.loop-n.invariant.stands c.loop-n-test.true (omega (arith, c.if-n-text.false, c.loop-n.invariant.within))
          (ap (λ i. allows i (get_or text n 0)) (sym c.index-items-n.is) ∙ sym c.allows.ensures ∙ c.if-not-allows.false);
    }

pub returns-then-items-text : goal.returns-then-items-text
returns-then-items-text c =
    whole c.args.items.now c.args.text.now c.loop-n.n Star c.loop-n.invariant.stands c.loop-n-test.false (omega (arith, c.if-items-text.true, c.loop-n-test.false))

pub returns-else-items-text : goal.returns-else-items-text
returns-else-items-text c =
    no-items c.args.items.now c.args.text.now c.loop-n.n Star c.loop-n.invariant.stands c.loop-n-test.false (omega (arith, c.if-items-text.false, c.loop-n.auto, c.loop-n.invariant.within))
