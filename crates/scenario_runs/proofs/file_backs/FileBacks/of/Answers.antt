use Rattle.std.proofs.Common.{◌≤◌, min, length, sym, subst, ap, ◌∙◌, arith}
use Rattle.scenario_runs.specs.Acts.{AreFileActs, AreFileBacks, backs_of}
use Rattle.scenario_runs.proofs.Undoing.{all_there, backs_sound}
use Rattle.scenario_runs.proofs.file_backs.FileBacks.of.Goals as goal

pub invariant_of-result : goal.invariant_of-result
invariant_of-result c =
    let listed = c.args.listed.now in
    let done = c.as_slice-done.result.now in
    let end = c.loop-i-test.false in
    let count = c.min-count.ensures in
    let le : min (length listed) (length done) ≤ c.loop-i.i = omega (arith, end, count) in
    let all = all_there listed done c.loop-i.i c.loop-i.backs le c.loop-i.invariant in
    subst AreFileBacks (sym all)
    (backs_sound listed done (subst AreFileActs (sym c.as_slice-done.ensures.acts) c.as_slice-done.ensures.sound))

pub returns : goal.returns
returns c =
    let listed = c.args.listed.now in
    let done = c.as_slice-done.result.now in
    let end = c.loop-i-test.false in
    let count = c.min-count.ensures in
    let le : min (length listed) (length done) ≤ c.loop-i.i = omega (arith, end, count) in
    all_there listed done c.loop-i.i c.loop-i.backs le c.loop-i.invariant
    ∙ ap (backs_of listed) c.as_slice-done.ensures.acts
