use Rattle.std.proofs.Common.{refl, sym, ◌∙◌, arith}
use Rattle.case_paths.specs.declared.state.PathState.{PathState}
use Rattle.case_paths.proofs.Whole.{same_pairs, no_path, no_room_left, exploring_begin, exploring_more, all_ended, fewer_left, exploring_end, exploring_fault}
use Rattle.case_paths.proofs.exploration.explore.Goals as goal

pub returns-then-not-left : goal.returns-then-not-left
returns-then-not-left g c =
    no_path (g.M.Machine.decision c.args.machine.now) c.args.store c.limit.new.self c.in_ok-left.left c.args.room c.new.result
    (same_pairs c.args.store c.limit.new.self c.now-now.result.0 c.all.result c.all.ensures c.in_ok-left.ensures.kept.1 c.in_ok-left.ensures.exact)
    c.in_ok-left.ensures.alive c.if-not-left.true c.new.ensures

pub returns-then-room-eq0 : goal.returns-then-room-eq0
returns-then-room-eq0 g c =
    no_room_left (g.M.Machine.decision c.args.machine.now) c.args.store c.limit.new.self c.in_ok-left.left c.args.room
    (same_pairs c.args.store c.limit.new.self c.now-now.result.0 c.all.result c.all.ensures c.in_ok-left.ensures.kept.1 c.in_ok-left.ensures.exact)
    c.in_ok-left.ensures.alive c.if-not-left.false c.if-room-eq0.true

pub rounds-init : goal.rounds-init
rounds-init g c =
    let first : PathState = record { store = c.limit.new.self; kept = c.now-now.result; trace = c.new-none.result; done = 0 } in
    let counts = c.in_ok-left.ensures.kept in
    exploring_begin (g.M.Machine.decision c.args.machine.now) c.args.store first c.args.room
    c.new-items.result c.push.new.self (g.met.M.Machine.performed c.args.machine.now) c.requires.same
    (same_pairs c.args.store c.limit.new.self c.now-now.result.0 c.all.result c.all.ensures counts.1 c.in_ok-left.ensures.exact)
    (c.in_ok-left.ensures.alive.0 c.if-not-left.false)
    (record {
      kept = c.now-now.ensures.now ∙ sym counts.1;
      inside = (let k = c.now-now.ensures.known in let n = counts.0 in omega (arith, k, n));
      trace = c.new-none.ensures;
      done = refl;
    })
    c.if-room-eq0.false c.new-items.ensures c.in_ok-push.ensures

pub returns-in-Err : goal.returns-in-Err
returns-in-Err g c = exploring_fault (g.M.Machine.decision c.args.machine.now) c.args.store c.args.room c.rounds.items c.rounds.invariant c.in-Err.fault c.in-Err.ensures

pub paths_of-requires : goal.paths_of-requires
paths_of-requires g c = all_ended (g.M.Machine.decision c.args.machine.now) c.args.store c.args.room c.rounds.items c.rounds.invariant c.in-Ok.next c.in-Ok.ensures (sym c.len.ensures ∙ c.if-len-before.true ∙ c.len-before.ensures)

pub returns-then-len-before : goal.returns-then-len-before
returns-then-len-before g c = exploring_end (g.M.Machine.decision c.args.machine.now) c.args.store c.args.room c.rounds.items c.rounds.invariant c.in-Ok.next c.in_ok-paths.paths c.in-Ok.ensures c.in_ok-paths.ensures

pub rounds-smaller : goal.rounds-smaller
rounds-smaller g c = fewer_left (g.M.Machine.decision c.args.machine.now) c.args.store c.args.room c.rounds.items c.rounds.invariant c.in-Ok.next c.in-Ok.ensures (λ e. c.if-len-before.false (c.len.ensures ∙ e ∙ sym c.len-before.ensures))

pub rounds-preserved : goal.rounds-preserved
rounds-preserved g c = exploring_more (g.M.Machine.decision c.args.machine.now) c.args.store c.args.room c.rounds.items c.rounds.invariant c.in-Ok.next c.in-Ok.ensures
