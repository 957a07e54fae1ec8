use Rattle.std.proofs.Common.{◌≡◌, drop, Some}
use Rattle.settled_commands.specs.Joined.{joined}
use Rattle.settled_commands.specs.Settled.{settled_fields}
use Rattle.settled_commands.specs.KnownNames.{is_unset}
use Rattle.settled_commands.proofs.settled.settled_fields.Given as goal

abbrev pub invariant-loop-word : goal.invariant-loop-word
invariant-loop-word l =
    joined (Some l.fields) (settled_fields (is_unset l.given) (drop l.word-index l.words))
    ≡ settled_fields (is_unset l.given) l.words
