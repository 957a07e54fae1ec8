use Rattle.std.proofs.Common.{rules, arith, ◌<◌, ◌+◌, length, drop, [], true, Err, sym, subst, ◌∙◌, length-drop}
use Rattle.std.proofs.lemmas.Result.{err_from_is_err_and}
use Rattle.shell_rules.specs.State as st
use Rattle.colis_meaning.specs.Meaning.{co_stmt, funs_of}
use Rattle.colis_interp.specs.Places.{place_of}
use Rattle.colis_interp.specs.Runs.{Runs, state_of}
use Rattle.colis_interp.proofs.Lists.{same_of, other_of, all_rest, links_halt, links_on, links_passed, chain_halt, chain_on, arms_halt, arms_met, arms_on, patterns_halt}
use Rattle.colis_interp.specs.declared.halt.Behind.TheVariants.{Holds, Ends, Again}
use Rattle.colis_interp.specs.Halts.{behind_body, behind_condition}
use Rattle.colis_interp.proofs.Rounds.{answer_is, round_left, round_again_left, round_ends, round_body_left, round_next}
use Rattle.colis_interp.proofs.Weight.{weight_take}
use Rattle.colis_interp.proofs.execution.+executing.Goals as goal
use Rattle.colis_interp.proofs.execution.+executing.Goals.{run_links-then-link-shell+else-left-eq0+in_ok-run_stmt, run_links-else-link-shell}

pub run_all-loop-stmt-init : goal.run_all-loop-stmt-init
run_all-loop-stmt-init t c = (omega arith, all_rest c.args.stmts.now (funs_of c.args.defs.now []) (place_of c.args.place) (state_of c.args.shell.now) c.if-is_empty.ensures)

pub run_body-run_stmt-ran-requires : goal.run_body-run_stmt-ran-requires
run_body-run_stmt-ran-requires t c = search (rules, weight_take c.args.defs.now c.in-Some.i c.index-defs-i.result c.in-Some.ensures.within)

pub run_case-loop-arm-preserved : goal.run_case-loop-arm-preserved
run_case-loop-arm-preserved t c = (
  omega (arith, c.run_patterns.ensures.turns, c.loop-arm.invariant.0),
  c.loop-arm.invariant.1 ∙ arms_on (funs_of c.args.defs.now []) (place_of c.args.place) c.args.subject.now c.args.arms.now c.loop-arm.arm-index c.arm-item.result c.arm-item.result c.as_slice.result.now (state_of c.loop-arm.shell) c.loop-arm-test.true c.arm-item.is c.as_slice.ensures (state_of c.run_patterns.new.shell) c.in_ok-run_patterns.field-0 c.in_ok-run_patterns.ensures.runs c.if-branch.false,
)

pub run_case-returns-in_err-run_patterns-clause-runs : goal.run_case-returns-in_err-run_patterns-clause-runs
run_case-returns-in_err-run_patterns-clause-runs t c =
    let r = err_from_is_err_and c.from_residual.result c.from_residual.ensures.1 in
    let h = arms_halt (funs_of c.args.defs.now []) (place_of c.args.place) c.args.subject.now c.args.arms.now c.loop-arm.arm-index c.arm-item.result c.arm-item.result c.as_slice.result.now (state_of c.loop-arm.shell) c.loop-arm-test.true c.arm-item.is c.as_slice.ensures c.in_err-run_patterns.field-0.0 c.run_patterns.new.shell c.in_err-run_patterns.ensures.runs in
    rw (r.1, r.2) (subst (λ (q : st.Run (Unit {0})). Runs q (Err c.in_err-run_patterns.field-0.0) c.run_patterns.new.shell) (sym c.loop-arm.invariant.1) h)

pub run_case-returns-then-branch-clause-runs : goal.run_case-returns-then-branch-clause-runs
run_case-returns-then-branch-clause-runs t c =
    subst (λ (q : st.Run (Unit {0})). Runs q c.run_stmt.result c.run_stmt.new.shell) (sym c.loop-arm.invariant.1)
    (arms_met (funs_of c.args.defs.now []) (place_of c.args.place) c.args.subject.now c.args.arms.now c.loop-arm.arm-index c.arm-item.result c.arm-item.result c.as_slice.result.now (state_of c.loop-arm.shell) c.loop-arm-test.true c.arm-item.is c.as_slice.ensures (state_of c.run_patterns.new.shell) c.in_ok-run_patterns.field-0 c.run_stmt.result c.run_stmt.new.shell c.in_ok-run_patterns.ensures.runs c.if-branch.true c.run_stmt.ensures.runs)

pub run_links-returns-in_err-run_stmt-clause-runs : goal.run_links-returns-in_err-run_stmt-clause-runs
run_links-returns-in_err-run_stmt-clause-runs t c =
    let r = err_from_is_err_and c.from_residual.result c.from_residual.ensures.1 in
    let more : 0 < length (drop (c.loop-link.link-index + 1) c.args.links.now) = omega (arith, length-drop (c.loop-link.link-index + 1) c.args.links.now, c.if-left-eq0.false, c.loop-link.invariant.1) in
    let h = links_halt (funs_of c.args.defs.now []) (place_of c.args.place) c.args.links.now c.loop-link.link-index c.link-item.result c.link-item.result (state_of c.loop-link.shell) c.in_err-run_stmt.field-0.0 c.run_stmt-then-link-shell.new.shell c.loop-link-test.true c.link-item.is more (same_of c.link-item.result.and c.loop-link.shell.conc.status c.if-link-shell.true) c.in_err-run_stmt.ensures.runs in
    rw (r.1, r.2) (subst (λ (q : st.Run (Unit {0})). Runs q (Err c.in_err-run_stmt.field-0.0) c.run_stmt-then-link-shell.new.shell) (sym c.loop-link.invariant.2) h)

pub run_links-loop-link-preserved : goal.run_links-loop-link-preserved
run_links-loop-link-preserved t c =
    elim c.if-link-shell.branch [
      | run_links-then-link-shell+else-left-eq0+in_ok-run_stmt w ↦
          let more : 0 < length (drop (c.loop-link.link-index + 1) c.args.links.now) = omega (arith, length-drop (c.loop-link.link-index + 1) c.args.links.now, w.if-left-eq0.false, c.loop-link.invariant.1) in
          rw w.shell-is (
            omega (arith, w.run_stmt-then-link-shell.ensures.turns, c.loop-link.invariant.0),
            omega (arith, c.loop-link.invariant.1, c.loop-link-test.true),
            c.loop-link.invariant.2 ∙ links_on (funs_of c.args.defs.now []) (place_of c.args.place) c.args.links.now c.loop-link.link-index c.link-item.result c.link-item.result (state_of c.loop-link.shell) (state_of w.run_stmt-then-link-shell.new.shell) c.loop-link-test.true c.link-item.is more (same_of c.link-item.result.and c.loop-link.shell.conc.status w.if-link-shell.true) w.in_ok-run_stmt.ensures.runs,
          )
      | run_links-else-link-shell w ↦
          rw w.shell-is (
            omega (arith, c.loop-link.invariant.0),
            omega (arith, c.loop-link.invariant.1, c.loop-link-test.true),
            c.loop-link.invariant.2 ∙ links_passed (funs_of c.args.defs.now []) (place_of c.args.place) c.args.links.now c.loop-link.link-index c.link-item.result c.link-item.result (state_of c.loop-link.shell) c.loop-link-test.true c.link-item.is (other_of c.link-item.result.and c.loop-link.shell.conc.status w.if-link-shell.false),
          )
    ]

pub run_patterns-returns-in_err-pattern_answer-clause-runs : goal.run_patterns-returns-in_err-pattern_answer-clause-runs
run_patterns-returns-in_err-pattern_answer-clause-runs t c =
    let r = err_from_is_err_and c.from_residual-in_err-pattern_answer.result c.from_residual-in_err-pattern_answer.ensures.1 in
    let h = patterns_halt (funs_of c.args.defs.now []) (place_of c.args.place) c.args.subject.now c.args.patterns.now c.loop-pattern.pattern-index c.as_slice.result.now c.pattern-item.result (state_of c.loop-pattern.shell) c.in_ok-pieces.pieces c.run_pieces.new.shell c.in_err-pattern_answer.field-0.0 c.loop-pattern-test.true (c.as_slice.ensures ∙ c.pattern-item.is) c.in_ok-pieces.ensures.runs (c.in_err-pattern_answer.ensures c.run_pieces.new.shell) in
    rw (r.1, r.2) (subst (λ (q : st.Run _). Runs q (Err c.in_err-pattern_answer.field-0.0) c.run_pieces.new.shell) (sym c.loop-pattern.invariant.1) h)

pub run_stmt-returns-in_err-run_stmt-in-Chain-clause-runs : goal.run_stmt-returns-in_err-run_stmt-in-Chain-clause-runs
run_stmt-returns-in_err-run_stmt-in-Chain-clause-runs t c =
    let r = err_from_is_err_and c.from_residual.result c.from_residual.ensures.1 in
    let more : 0 < length c.in-Chain.rest = omega arith in
    rw (r.1, r.2) (chain_halt (funs_of c.args.defs.now []) (place_of c.args.place) c.args.stmt.now c.in-Chain.first c.get-in-Chain.result.now c.in-Chain.rest (state_of c.args.shell.now) c.in_err-run_stmt-in-Chain.field-0.0 c.run_stmt-in-Chain.new.shell c.in-Chain.is c.get-in-Chain.ensures more c.in_err-run_stmt-in-Chain.ensures.runs)

pub run_stmt-returns-in_ok-run_stmt-in-Chain-clause-runs : goal.run_stmt-returns-in_ok-run_stmt-in-Chain-clause-runs
run_stmt-returns-in_ok-run_stmt-in-Chain-clause-runs t c =
    let more : 0 < length c.in-Chain.rest = omega arith in
    chain_on (funs_of c.args.defs.now []) (place_of c.args.place) c.args.stmt.now c.in-Chain.first c.get-in-Chain.result.now c.in-Chain.rest c.as_slice-in-Chain.result.now (state_of c.args.shell.now) (state_of c.run_stmt-in-Chain.new.shell) c.run_links.result c.run_links.new.shell c.in-Chain.is c.get-in-Chain.ensures c.as_slice-in-Chain.ensures more c.in_ok-run_stmt-in-Chain.ensures.runs c.run_links.ensures.runs

pub run_while-returns-in_err-behind_condition-clause-runs : goal.run_while-returns-in_err-behind_condition-clause-runs
run_while-returns-in_err-behind_condition-clause-runs t c =
    let f = funs_of c.args.defs.now [] in
    let r = err_from_is_err_and c.from_residual.result c.from_residual.ensures.1 in
    rw (r.1, r.2) (subst (λ (q : st.Run (Unit {0})). Runs q (Err c.in_err-behind_condition.field-0.0) c.run_stmt-met.new.shell) (sym c.rounds.invariant.1.2)
    (round_left (co_stmt c.args.cond.now f) (co_stmt c.args.body.now f) (st.at_command c.args.at (place_of c.args.place)) c.rounds.invariant.1.0 c.rounds.last (state_of c.rounds.shell) c.run_stmt-met.result c.run_stmt-met.new.shell c.in_err-behind_condition.field-0.0 (sym c.in_err-behind_condition.ensures) c.run_stmt-met.ensures.runs))

pub run_while-returns-in_err-take_turn-in-Again-clause-runs : goal.run_while-returns-in_err-take_turn-in-Again-clause-runs
run_while-returns-in_err-take_turn-in-Again-clause-runs t c =
    let f = funs_of c.args.defs.now [] in
    let r = err_from_is_err_and c.from_residual-in_err-take_turn-in-Again.result c.from_residual-in_err-take_turn-in-Again.ensures.1 in
    rw (r.1, r.2) (subst (λ (q : st.Run (Unit {0})). Runs q (Err c.in_err-take_turn-in-Again.field-0.0) c.take_turn.new.shell) (sym c.rounds.invariant.1.2)
    (round_again_left (co_stmt c.args.cond.now f) (co_stmt c.args.body.now f) (st.at_command c.args.at (place_of c.args.place)) c.rounds.invariant.1.0 c.rounds.last (state_of c.rounds.shell) c.run_stmt-met.result c.run_stmt-met.new.shell c.in_err-take_turn-in-Again.field-0.0 c.take_turn.new.shell
    (answer_is (behind_condition c.run_stmt-met.result c.run_stmt-met.new.shell.conc.status) c.in_ok-behind_condition.field-0 Again c.in_ok-behind_condition.ensures c.in-Again.is) c.run_stmt-met.ensures.runs c.in_err-take_turn-in-Again.ensures.runs))

pub run_while-returns-in-Ends-clause-runs : goal.run_while-returns-in-Ends-clause-runs
run_while-returns-in-Ends-clause-runs t c =
    let f = funs_of c.args.defs.now [] in
    c.rounds.invariant.1.2 ∙ round_ends (co_stmt c.args.cond.now f) (co_stmt c.args.body.now f) (st.at_command c.args.at (place_of c.args.place)) c.rounds.invariant.1.0 c.rounds.last (state_of c.rounds.shell) c.run_stmt-met.result c.run_stmt-met.new.shell
    (answer_is (behind_condition c.run_stmt-met.result c.run_stmt-met.new.shell.conc.status) c.in_ok-behind_condition.field-0 Ends c.in_ok-behind_condition.ensures c.in-Ends.is) c.run_stmt-met.ensures.runs

pub run_while-returns-in_err-behind_body-in-Holds-clause-runs : goal.run_while-returns-in_err-behind_body-in-Holds-clause-runs
run_while-returns-in_err-behind_body-in-Holds-clause-runs t c =
    let f = funs_of c.args.defs.now [] in
    let r = err_from_is_err_and c.from_residual-in_err-behind_body-in-Holds.result c.from_residual-in_err-behind_body-in-Holds.ensures.1 in
    rw (r.1, r.2) (subst (λ (q : st.Run (Unit {0})). Runs q (Err c.in_err-behind_body-in-Holds.field-0.0) c.run_stmt-ran.new.shell) (sym c.rounds.invariant.1.2)
    (round_body_left (co_stmt c.args.cond.now f) (co_stmt c.args.body.now f) (st.at_command c.args.at (place_of c.args.place)) c.rounds.invariant.1.0 c.rounds.last (state_of c.rounds.shell) c.run_stmt-met.result c.run_stmt-met.new.shell (state_of c.take_turn-in-Holds.new.shell) c.run_stmt-ran.result c.run_stmt-ran.new.shell c.in_err-behind_body-in-Holds.field-0.0
    (answer_is (behind_condition c.run_stmt-met.result c.run_stmt-met.new.shell.conc.status) c.in_ok-behind_condition.field-0 Holds c.in_ok-behind_condition.ensures c.in-Holds.is) c.run_stmt-met.ensures.runs c.in_ok-take_turn-in-Holds.ensures.runs (sym c.in_err-behind_body-in-Holds.ensures) c.run_stmt-ran.ensures.runs))

pub run_while-rounds-preserved : goal.run_while-rounds-preserved
run_while-rounds-preserved t c =
    let f = funs_of c.args.defs.now [] in
    let some : 0 < c.rounds.invariant.1.0 = omega (arith, c.in_ok-take_turn-in-Holds.ensures.taken, c.run_stmt-met.ensures.turns, c.rounds.invariant.1.1) in
    let next = round_next (co_stmt c.args.cond.now f) (co_stmt c.args.body.now f) (st.at_command c.args.at (place_of c.args.place)) c.rounds.invariant.1.0 c.rounds.last (state_of c.rounds.shell) c.run_stmt-met.result c.run_stmt-met.new.shell (state_of c.take_turn-in-Holds.new.shell) c.run_stmt-ran.result c.run_stmt-ran.new.shell some
    (answer_is (behind_condition c.run_stmt-met.result c.run_stmt-met.new.shell.conc.status) c.in_ok-behind_condition.field-0 Holds c.in_ok-behind_condition.ensures c.in-Holds.is) c.run_stmt-met.ensures.runs c.in_ok-take_turn-in-Holds.ensures.runs
    (answer_is (behind_body c.run_stmt-ran.result) c.in_ok-behind_body-in-Holds.field-0 true c.in_ok-behind_body-in-Holds.ensures c.if-not-branch.false) c.run_stmt-ran.ensures.runs in (
      omega (arith, c.run_stmt-ran.ensures.turns, c.in_ok-take_turn-in-Holds.ensures.taken, c.run_stmt-met.ensures.turns, c.rounds.invariant.0),
      (next.0, omega (arith, next.1, c.run_stmt-ran.ensures.turns, c.in_ok-take_turn-in-Holds.ensures.taken, c.run_stmt-met.ensures.turns, c.rounds.invariant.1.1), c.rounds.invariant.1.2 ∙ next.2),
    )
