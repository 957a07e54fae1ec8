use Rattle.shell_lexer.specs.Parts.{AllArgs, DoubleQuote, Substitution}
use Rattle.shell_lexer.proofs.SpelledParts.{look_all, inner_all, look_substitution, inner_substitution, look_double, inner_double, look_seen, inner_seen}
use Rattle.token_laws.proofs.theorems.openings_are_spelled.Goals as goal

pub returns-clause-all_args : goal.returns-clause-all_args
returns-clause-all_args c = λ len text rest. (look_seen len text (AllArgs rest), look_all len text rest)

pub returns-clause-all_args_inside : goal.returns-clause-all_args_inside
returns-clause-all_args_inside c = λ len text rest. (inner_seen len text (AllArgs rest), inner_all len text rest)

pub returns-clause-substitution : goal.returns-clause-substitution
returns-clause-substitution c = λ len text rest. (look_seen len text (Substitution rest), look_substitution len text rest)

pub returns-clause-substitution_inside : goal.returns-clause-substitution_inside
returns-clause-substitution_inside c = λ len text rest. (inner_seen len text (Substitution rest), inner_substitution len text rest)

pub returns-clause-double_quote : goal.returns-clause-double_quote
returns-clause-double_quote c = λ len text rest. (look_seen len text (DoubleQuote rest), look_double len text rest)

pub returns-clause-double_quote_inside : goal.returns-clause-double_quote_inside
returns-clause-double_quote_inside c = λ len text rest. (inner_seen len text (DoubleQuote rest), inner_double len text rest)
