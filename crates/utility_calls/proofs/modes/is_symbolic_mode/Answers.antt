use Rattle.std.proofs.Common.{rules, tests}
use Rattle.std.proofs.lemmas.Iterator.Search.{all_from_yields_List}
use Rattle.std.proofs.lemmas.Iterator.Splits.{YieldsList-from_slice_split}
use Rattle.utility_calls.specs.Modes.{is_mode_clause, is_comma}
use Rattle.utility_calls.proofs.modes.is_symbolic_mode.Goals as goal

pub returns : goal.returns
returns c =
    all_from_yields_List is_mode_clause _ _ c.all.result c.all.ensures.ran
    (YieldsList-from_slice_split _ is_comma c.args.word.now c.split.ensures.rest c.split.ensures.done c.split.ensures.closure (λ x r q k. search (rules, tests)))
    (λ x b q k. search (rules, tests))
