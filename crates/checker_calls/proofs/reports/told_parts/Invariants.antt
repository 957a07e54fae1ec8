use Rattle.std.proofs.Common.{◌≡◌, ◌++◌, map}
use Rattle.checker_calls.specs.declared.account.BriefPart.{BriefPart}
use Rattle.checker_calls.proofs.reports.told_parts.Given as goal

abbrev pub invariant-loop-part : goal.invariant-loop-part
invariant-loop-part l =
    (l.yielded ++ l.part-iterator.rest.items ≡ l.fn.parts) × (l.told ≡ map (λ (part : BriefPart). part.told) l.yielded)
