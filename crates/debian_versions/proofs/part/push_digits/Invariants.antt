use Rattle.std.proofs.Common.{◌≡◌, ◌++◌, take}
use Rattle.debian_versions.proofs.part.push_digits.Given as goal

abbrev pub invariant-loop-digit : goal.invariant-loop-digit
invariant-loop-digit l = l.key ≡ l.initial.key ++ take l.digit-index l.digits
