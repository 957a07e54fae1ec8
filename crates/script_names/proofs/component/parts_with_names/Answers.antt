use Rattle.std.proofs.Common.{rules, tests}
use Rattle.std.proofs.lemmas.Iterator.Consumers.{YieldsList-at, YieldsList-from_filter, map_from_collect}
use Rattle.std.proofs.lemmas.Iterator.Splits.{YieldsList-from_slice_split}
use Rattle.script_names.specs.Paths.{names_entry, is_slash}
use Rattle.script_names.proofs.component.parts_with_names.Goals as goal

pub returns : goal.returns
returns c =
    let h =
    map_from_collect _ c.collect.ensures.ran
    (YieldsList-from_filter _ names_entry
    (YieldsList-at c.filter.ensures.source
    (YieldsList-from_slice_split _ is_slash c.args.word.now c.split.ensures.rest c.split.ensures.done c.split.ensures.closure (λ x r q k. search (rules, tests))))
    c.filter.ensures.closure (λ x r q k. search (rules, tests))) in
    rw c.in_ok-parts.was at h
