use Rattle.std.proofs.lemmas.Result.{on_ok_weaker}
use Rattle.settled_commands.proofs.Acts.{act_added}
use Rattle.settled_commands.proofs.sorts.add_act.Goals as goal

pub returns : goal.returns
returns c =
    on_ok_weaker c.add_second.result (λ later. act_added c.args.links.now c.args.act.now c.path.result.now c.in_ok-reached.reached c.kinds_taken.result
    c.args.known.now c.add_way.new.known c.add_end.new.known c.add_second.new.known c.path.ensures c.in_ok-reached.ensures c.kinds_taken.ensures
    c.in_ok-add_way.ensures c.in_ok-add_end.ensures later) c.add_second.ensures
