use Rattle.std.proofs.Common.{get_or, IsTrue, subst, ◌∙◌, below_more}
use Rattle.std.proofs.lemmas.List.{get_or_default}
use Rattle.script_names.specs.Names.{is_name}
use Rattle.act_cases.proofs.making.are_names.Goals as goal

pub loop-f-preserved : goal.loop-f-preserved
loop-f-preserved c = λ k d.
    below_more (λ i. IsTrue (is_name (get_or c.args.names.now i d))) c.loop-f.f-index (λ i lt. c.loop-f.invariant i d lt)
    (subst (λ f. IsTrue (is_name f)) (c.f-item.is ∙ get_or_default c.args.names.now c.loop-f.f-index _ d c.loop-f-test.true) c.is_sound.ensures)
    k
