use Rattle.std.proofs.Common.{rules, tests}
use Rattle.std.proofs.lemmas.Iterator.Search.{any_from_yields_List}
use Rattle.std.proofs.lemmas.Iterator.Splits.{YieldsList-from_slice_split}
use Rattle.script_names.specs.Paths.{is_long, is_slash}
use Rattle.script_names.proofs.component.has_long_name.Goals as goal

pub returns : goal.returns
returns c =
    any_from_yields_List is_long _ _ c.any.result c.any.ensures.ran
    (YieldsList-from_slice_split _ is_slash c.args.word.now c.split.ensures.rest c.split.ensures.done c.split.ensures.closure (λ x r q k. search (rules, tests)))
    (λ x b q k. search (rules, tests))
