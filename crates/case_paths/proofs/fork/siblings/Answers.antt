use Rattle.std.proofs.Common.{◌+◌, arith, refl, subst}
use Rattle.std.specs.Prelude.{MatchOption}
use Rattle.clause_solver.specs.Adds.{AddsFrom, LeadsNowhereFrom}
use Rattle.case_paths.proofs.Forking.{taken_next, left_out_next, all_forks}
use Rattle.case_paths.proofs.fork.siblings.Goals as goal

pub loop-case-preserved-in-None : goal.loop-case-preserved-in-None
loop-case-preserved-in-None c =
    left_out_next c.args.given.now c.args.site c.args.state.now c.args.cases.now c.loop-case.case-index c.case-item.result c.loop-case.forks c.loop-case-test.true c.case-item.is
    (subst (λ o. MatchOption o (LeadsNowhereFrom c.args.state.now.store c.args.given.now c.case-item.result) (AddsFrom c.args.state.now.store c.args.given.now c.case-item.result)) c.in-None.is c.in_ok-found.ensures)
    c.loop-case.invariant

pub loop-case-preserved : goal.loop-case-preserved
loop-case-preserved c =
    taken_next c.args.given.now c.args.site c.args.state.now (record { store = c.in-Some.store; kept = c.args.state.now.kept; trace = c.in_ok-trace.trace; done = c.args.state.now.done + 1 }) c.args.cases.now c.loop-case.case-index c.case-item.result c.loop-case.forks c.push.new.self c.loop-case-test.true c.case-item.is
    (subst (λ o. MatchOption o (LeadsNowhereFrom c.args.state.now.store c.args.given.now c.case-item.result) (AddsFrom c.args.state.now.store c.args.given.now c.case-item.result)) c.in-Some.is c.in_ok-found.ensures)
    (record { kept = refl; trace = c.in_ok-trace.ensures; done = refl }) c.in_ok-push.ensures c.loop-case.invariant

pub returns : goal.returns
returns c = all_forks c.args.given.now c.args.site c.args.state.now c.args.cases.now c.loop-case.case-index c.loop-case.forks (omega (arith, c.loop-case-test.false)) c.loop-case.invariant
