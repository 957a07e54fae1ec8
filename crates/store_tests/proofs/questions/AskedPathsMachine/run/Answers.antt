use Rattle.store_tests.specs.Questions.{asked_from}
use Rattle.utility_calls.specs.Walks.{world, walk}
use Rattle.store_tests.proofs.Asking.{asked_next, asked_all}
use Rattle.store_tests.proofs.questions.AskedPathsMachine.run.Goals as goal

pub loop-path-init : goal.loop-path-init
loop-path-init c = λ i. walk (asked_from (c.as_slice-paths.ensures i)) (world (c.in_ok-tree.ensures i) c.args.start.now) (c.new-marks.ensures i) (c.new-deeds.ensures i)

pub loop-path-preserved : goal.loop-path-preserved
loop-path-preserved c =
    asked_next c.as_slice-paths.result.now c.loop-path.path-index c.in_ok-taken.taken.0 c.path-item.result c.in_ok-asked.asked
    c.args.start.now c.loop-path.tree c.act.new.tree c.loop-path.marks c.add.new.self c.loop-path.deeds c.add-in-loop-path.new.self _
    c.loop-path-test.true c.path-item.is c.in_ok-asked.ensures c.in_ok-taken.ensures.tree c.in_ok-taken.ensures.row
    c.in_ok-add.ensures.ok c.in_ok-add-2.ensures.ok c.loop-path.invariant

pub returns : goal.returns
returns c = asked_all c.as_slice-paths.result.now c.loop-path.path-index (world c.loop-path.tree c.args.start.now) c.loop-path.marks c.loop-path.deeds _ c.loop-path-test.false c.loop-path.invariant
