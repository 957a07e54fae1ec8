use Rattle.shell_lexer.specs.Parts.{Substitution}
use Rattle.shell_lexer.proofs.SpelledParts.{look_substitution, inner_substitution, look_seen, inner_seen}
use Rattle.token_laws.proofs.PrintedRuns.{run_is_one_part}
use Rattle.token_laws.proofs.printed.substitutions_read_back.Goals as goal

pub returns : goal.returns
returns c =
    run_is_one_part
    (λ len text rest. (look_seen len text (Substitution rest), look_substitution len text rest))
    (λ len text rest. (inner_seen len text (Substitution rest), inner_substitution len text rest))
