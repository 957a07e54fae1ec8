use Rattle.std.proofs.Common.{codes}
use Rattle.load_maker.proofs.Numbered.{one_more}
use Rattle.load_maker.proofs.script_text.load_text.Goals as goal

pub loop-done-preserved : goal.loop-done-preserved
loop-done-preserved c =
    one_more (codes "#!/bin/sh\nset -e\n") c.loop-done.text c.push_line.new.text c.loop-done.done c.loop-done.invariant
    c.in_ok-push_line.ensures
