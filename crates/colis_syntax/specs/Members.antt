-- What stands in the lists of a statement: those behind `&&` and `||`, the arms of an `if`, those of a `case`.
use Rattle.std.specs.Prelude.{Bool, List}
use Rattle.colis_syntax.specs.declared.syntax.Stmt.{Stmt}
use Rattle.colis_syntax.specs.declared.syntax.StrPiece.{StrPiece}
use Rattle.colis_syntax.specs.declared.syntax.ChainPart.{ChainPart, roll-ChainPart}
use Rattle.colis_syntax.specs.declared.syntax.StmtArm.{StmtArm, roll-StmtArm}
use Rattle.colis_syntax.specs.declared.syntax.PatArm.{PatArm, roll-PatArm}

-- a statement behind `&&` or `||`
abbrev pub chain_part : Bool → Stmt → ChainPart
chain_part is_and x = roll-ChainPart (record { and = is_and; stmt = x })

-- a condition and its body
abbrev pub stmt_arm : Stmt → Stmt → StmtArm
stmt_arm cond body = roll-StmtArm (record { cond = cond; body = body })

-- patterns and their body
abbrev pub pat_arm : List (List StrPiece) → Stmt → PatArm
pat_arm patterns body = roll-PatArm (record { patterns = patterns; body = body })
