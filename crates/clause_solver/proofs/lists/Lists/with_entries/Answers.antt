use Rattle.std.proofs.Common.{arith}
use Rattle.clause_solver.proofs.Entered.{more_itself, more_twice, known_next, all_known, item_known}
use Rattle.clause_solver.proofs.lists.Lists.with_entries.Goals as goal

pub loop-i-init : goal.loop-i-init
loop-i-init c = record {
  decided = rw c.in_ok-new.ensures c.requires.decided;
  more = rw c.in_ok-new.ensures (more_itself c.args.self.now.vars);
  known = λ k w. absurd (omega (arith, w));
}

pub loop-i-preserved : goal.loop-i-preserved
loop-i-preserved c =
    let old = c.loop-i.new.vars in
    let new = c.enter.new.self.vars in
    let more = c.in_ok-enter.ensures.more in
    let last = item_known new c.args.n c.args.names.now c.loop-i.i c.index-names-i.result c.loop-i-test.true c.index-names-i.is c.in_ok-enter.ensures.known in
    record {
      decided = c.in_ok-enter.ensures.decided;
      more = more_twice c.args.self.now.vars old new c.loop-i.invariant.more more;
      known = known_next old new c.args.n c.args.names.now c.loop-i.i more c.loop-i.invariant.known last;
    }

pub returns-clause-known : goal.returns-clause-known
returns-clause-known c =
    let done = c.loop-i-test.false in
    all_known c.loop-i.new.vars c.args.n c.args.names.now (λ k w. c.loop-i.invariant.known k (omega (arith, w, done)))
