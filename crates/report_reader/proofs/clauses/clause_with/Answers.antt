use Rattle.std.proofs.Common.{Err, sym, subst}
use Rattle.tree_clauses.specs.ClauseRead.{ReadsClause}
use Rattle.report_reader.proofs.ClauseFacts.{clause_told, clause_missed}
use Rattle.report_reader.proofs.clauses.clause_with.Goals as goal

pub returns-in-Ok : goal.returns-in-Ok
returns-in-Ok c = sym (clause_told c.args.text.now c.in-Ok.clause c.is_representable_clause.ensures c.in-Ok.ensures)

pub returns-in-Err-Bad : goal.returns-in-Err-Bad
returns-in-Err-Bad c =
    sym (clause_missed c.args.text.now (subst (λ e. ReadsClause c.args.text.now (Err e)) c.in-Err-Bad.field-0-is c.in-Err-Bad.ensures))
