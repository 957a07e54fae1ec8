-- What a program does keeps the four laws.
use Rattle.std.proofs.Common.{List, []}
use Rattle.colis_syntax.specs.declared.syntax.Stmt.{Stmt}
use Rattle.colis_syntax.specs.declared.def.Def.{Def}
use Rattle.shell_rules.specs.Laws.{IsLawful, Lawfulness}
use Rattle.shell_rules.proofs.LawfulRules.{expansions_lawful, commands_lawful, loops_lawful, calls_lawful}
use Rattle.colis_meaning.specs.Meaning.{co_stmt, funs_of}
use Rattle.colis_meaning.proofs.Obeying.{program_has}

-- the body of a program
pub program_lawful : (defs : List Def) (body : Stmt) → IsLawful (co_stmt body (funs_of defs []))
program_lawful = program_has Lawfulness expansions_lawful commands_lawful loops_lawful calls_lawful
