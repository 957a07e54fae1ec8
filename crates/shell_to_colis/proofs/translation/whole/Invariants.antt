use Rattle.std.proofs.Common.{◌≡◌, ◌++◌, [], drop}
use Rattle.shell_to_colis.specs.Translated.{defs_to, body_statements}
use Rattle.shell_to_colis.proofs.translation.whole.Given as goal

abbrev pub invariant-loop-member : goal.invariant-loop-member
invariant-loop-member l =
    (defs_to (drop l.member-index l.members) l.defs ≡ defs_to l.members [])
    × (l.stmts ++ body_statements (drop l.member-index l.members) l.defs ≡ body_statements l.members [])
