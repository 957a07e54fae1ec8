use Rattle.std.proofs.Common.{◌∷◌, [], ◌++◌, take, sym, subst, ap, ◌∙◌}
use Rattle.std.proofs.lemmas.List.{take_more}
use Rattle.prediction_text.specs.Adding.{AddsParts}
use Rattle.prediction_text.specs.PredictionText.{AreSolved}
use Rattle.prediction_text.proofs.Adding.{none_added, part_added}
use Rattle.prediction_text.proofs.predicted.put_parts.Goals as goal

pub loop-part-init : goal.loop-part-init
loop-part-init g c = none_added c.args.trees.now c.args.text.now

pub loop-part-preserved : goal.loop-part-preserved
loop-part-preserved g c =
    let i = c.loop-part.part-index in
    let parts = c.args.parts.now in
    let item = c.part-item.result in
    subst (λ ps. AddsParts c.args.trees.now ps c.args.text.now c.put_part.new.text)
    (ap (λ part. take i parts ++ part ∷ []) c.part-item.is ∙ sym (take_more parts i item c.loop-part-test.true))
    (part_added c.args.trees.now (take i parts) item c.args.text.now c.loop-part.text c.put_part.new.text c.loop-part.invariant
    c.in_ok-put_part.ensures)

pub put_part-requires-after_bounds : goal.put_part-requires-after_bounds
put_part-requires-after_bounds g c κs within =
    subst AreSolved (sym c.part-item.is) (c.requires c.loop-part.part-index c.part-item.result c.loop-part-test.true)
