use Rattle.std.proofs.Common.{length, arith, refl, ap}
use Rattle.case_paths.proofs.Going.{begin_follows, follows_known, follows_next, follows_on, pursued, pursued_beyond, no_memory, not_over, is_over}
use Rattle.case_paths.proofs.pursuit.pursue.Goals as goal

pub loop-at-init : goal.loop-at-init
loop-at-init g c = record {
  place = refl;
  room = (let a = c.new-lower.ensures in let b = c.new-higher.ensures in let r = c.requires.room in omega (arith, ap length a, ap length b, r));
  follows = begin_follows (g.M.Machine.decision c.args.machine.now) c.args.stage c.in_ok-start.start
      c.in_ok-value.field-0.value c.as_slice-marks.result.now c.as_slice-deeds.result.now c.in_ok-value.field-0 c.new-lower.result c.new-higher.result c.requires.stage c.requires.alive
      c.in_ok-start.ensures.pair c.in_ok-value.ensures refl c.as_slice-marks.ensures c.as_slice-deeds.ensures c.new-lower.ensures c.new-higher.ensures;
}

pub forks_by-requires : goal.forks_by-requires
forks_by-requires g c = record {
  known = follows_known (g.M.Machine.decision c.args.machine.now) c.args.stage c.in_ok-value.field-0.value
      c.as_slice-marks.result.now c.as_slice-deeds.result.now c.loop-at.lower c.loop-at.state c.loop-at.higher c.loop-at.invariant.follows;
  counted = (let p = c.loop-at.invariant.place in omega (arith, p, c.loop-at-test.true, c.as_slice-deeds.type_inv));
  next = follows_next (g.M.Machine.decision c.args.machine.now) c.args.stage c.in_ok-value.field-0.value
      c.as_slice-marks.result.now c.as_slice-deeds.result.now c.loop-at.lower c.loop-at.state c.loop-at.higher c.loop-at.invariant.follows c.loop-at.at c.index-deeds-at.result
      c.loop-at.invariant.place c.loop-at-test.true c.index-deeds-at.is;
}

pub loop-at-preserved : goal.loop-at-preserved
loop-at-preserved g c =
    let on = follows_on (g.M.Machine.decision c.args.machine.now) c.args.stage c.in_ok-value.field-0.value
    c.as_slice-marks.result.now c.as_slice-deeds.result.now c.loop-at.lower c.loop-at.state c.loop-at.higher c.loop-at.invariant.follows c.loop-at.at c.index-deeds-at.result c.in_ok-forks.forks
    c.put_last.new.self c.put_first.new.self c.loop-at.invariant.place c.loop-at-test.true
    c.index-deeds-at.is c.in_ok-forks.ensures c.in_ok-put_last.ensures c.in_ok-put_first.ensures in
    record {
      place = on.0;
      room = (let n = not_over _ _ _ c.args.room c.are_over.ensures c.if-are_over.false in omega (arith, n, c.len.ensures, c.len-in-loop-at.ensures));
      follows = on.1;
    }

pub returns-in_err-put_last : goal.returns-in_err-put_last
returns-in_err-put_last g c = no_memory (g.M.Machine.decision c.args.machine.now) c.args.stage c.args.room c.from_residual-in_err-put_last.result c.from_residual-in_err-put_last.ensures.1

pub returns-in_err-put_first : goal.returns-in_err-put_first
returns-in_err-put_first g c = no_memory (g.M.Machine.decision c.args.machine.now) c.args.stage c.args.room c.from_residual-in_err-put_first.result c.from_residual-in_err-put_first.ensures.1

pub returns-then-are_over : goal.returns-then-are_over
returns-then-are_over g c =
    let on = follows_on (g.M.Machine.decision c.args.machine.now) c.args.stage c.in_ok-value.field-0.value
    c.as_slice-marks.result.now c.as_slice-deeds.result.now c.loop-at.lower c.loop-at.state c.loop-at.higher c.loop-at.invariant.follows c.loop-at.at c.index-deeds-at.result c.in_ok-forks.forks
    c.put_last.new.self c.put_first.new.self c.loop-at.invariant.place c.loop-at-test.true
    c.index-deeds-at.is c.in_ok-forks.ensures c.in_ok-put_last.ensures c.in_ok-put_first.ensures in
    pursued_beyond (g.M.Machine.decision c.args.machine.now) c.args.stage c.in_ok-value.field-0.value
    c.as_slice-marks.result.now c.as_slice-deeds.result.now c.put_last.new.self c.in_ok-forks.forks.followed c.put_first.new.self on.1 c.args.room
    (let n = is_over _ _ _ c.args.room c.are_over.ensures c.if-are_over.true in omega (arith, n, c.len.ensures, c.len-in-loop-at.ensures))

pub returns : goal.returns
returns g c =
    pursued (g.M.Machine.decision c.args.machine.now) c.args.stage c.in_ok-value.field-0.value
    c.as_slice-marks.result.now c.as_slice-deeds.result.now c.loop-at.lower c.loop-at.state c.loop-at.higher c.loop-at.invariant.follows c.loop-at.at c.args.room c.loop-at.invariant.place c.loop-at-test.false c.loop-at.invariant.room
