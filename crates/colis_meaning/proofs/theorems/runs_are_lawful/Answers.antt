use Rattle.std.proofs.Common.{[]}
use Rattle.shell_rules.proofs.WholeRuns.{whole_keeps}
use Rattle.colis_meaning.specs.Meaning.{co_stmt, funs_of, names_of}
use Rattle.colis_meaning.proofs.Lawful.{program_lawful}
use Rattle.colis_meaning.proofs.theorems.runs_are_lawful.Goals as goal

pub returns-clause-trace : goal.returns-clause-trace
returns-clause-trace c = λ program step conc tree trace.
    (whole_keeps (co_stmt program.body (funs_of program.defs [])) (program_lawful program.defs program.body)).trace
    step (names_of program.defs) conc tree trace

pub returns-clause-turns : goal.returns-clause-turns
returns-clause-turns c = λ program step conc tree trace.
    (whole_keeps (co_stmt program.body (funs_of program.defs [])) (program_lawful program.defs program.body)).turns
    step (names_of program.defs) conc tree trace

pub returns-clause-premises : goal.returns-clause-premises
returns-clause-premises c = λ program step conc tree trace.
    (whole_keeps (co_stmt program.body (funs_of program.defs [])) (program_lawful program.defs program.body)).premises
    step (names_of program.defs) conc tree trace

pub returns-clause-more : goal.returns-clause-more
returns-clause-more c = λ n program step conc tree trace.
    (whole_keeps (co_stmt program.body (funs_of program.defs [])) (program_lawful program.defs program.body)).same n
    step (names_of program.defs) conc tree trace

pub returns-clause-statements : goal.returns-clause-statements
returns-clause-statements c = program_lawful
