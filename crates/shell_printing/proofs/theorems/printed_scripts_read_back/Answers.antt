use Rattle.shell_printing.proofs.ReadBack.{scripts_read_back}
use Rattle.shell_printing.proofs.theorems.printed_scripts_read_back.Goals as goal

pub returns : goal.returns
returns c =
    let seen = c.openings_are_spelled.ensures in
    scripts_read_back c.word_tokens_read_back.ensures.words c.word_tokens_read_back.ensures.all c.quoted_bytes_read_back.ensures c.expansions_read_back.ensures.param c.expansions_read_back.ensures.all
    c.operators_read_back.ensures.tokens c.operators_read_back.ensures.closing c.runs_are_longest.ensures.plain c.parts_are_spelled.ensures.outside c.parts_are_spelled.ensures.inside seen.all_args seen.all_args_inside seen.substitution seen.substitution_inside seen.double_quote seen.double_quote_inside c.printed_texts_are_tokens.ensures.texts
    c.printed_texts_are_tokens.ensures.first_lines c.printed_tokens_spell.ensures.texts
