use Rattle.std.proofs.Common.{rules, tests}
use Rattle.std.proofs.lemmas.Iterator.Consumers.{YieldsList-at, YieldsList-from_filter, map_from_collect}
use Rattle.std.proofs.lemmas.Iterator.Splits.{YieldsList-from_slice_split}
use Rattle.script_names.specs.Paths.{is_filled}
use Rattle.tree_clauses.specs.Cuts.{ends_member}
use Rattle.tree_clauses.proofs.cuts.member_pieces.Goals as goal

pub returns : goal.returns
returns c =
    let h =
    map_from_collect _ c.collect.ensures.ran
    (YieldsList-from_filter _ is_filled
    (YieldsList-at c.filter.ensures.source
    (YieldsList-from_slice_split _ ends_member c.args.text.now c.split.ensures.rest c.split.ensures.done c.split.ensures.closure (λ x r q k. search (rules, tests))))
    c.filter.ensures.closure (λ x r q k. search (rules, tests))) in
    rw c.in_ok-found.was at h
