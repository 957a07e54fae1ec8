use Rattle.shell_lexer.proofs.CutOnce.{cut_once}
use Rattle.token_laws.proofs.theorems.one_cut.Goals as goal

pub returns-clause-within_limit : goal.returns-clause-within_limit
returns-clause-within_limit c = cut_once

pub returns-clause-at_any_depth : goal.returns-clause-at_any_depth
returns-clause-at_any_depth c = cut_once
