use Rattle.std.proofs.Common.{◌+◌, ◌-◌, arith, rules}
use Rattle.debian_versions.proofs.Cuts.{last_cut}
use Rattle.debian_versions.proofs.version.cut_last.Goals as goal

pub returns-then-text-place : goal.returns-then-text-place
returns-then-text-place c =
    last_cut c.args.at (c.loop-place.place - 1) (c.loop-place.place - 1 + 1) c.args.text.now
    (omega arith) (omega arith) (search rules) (search rules)
