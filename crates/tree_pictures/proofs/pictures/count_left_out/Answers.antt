use Rattle.std.proofs.Common.{rules, tests}
use Rattle.std.proofs.lemmas.Iterator.{YieldsList-from_slice}
use Rattle.std.proofs.lemmas.Iterator.Consumers.{YieldsList-at, YieldsList-from_filter, count_from_yields_List}
use Rattle.tree_pictures.specs.Pictures.{is_left_out}
use Rattle.tree_pictures.proofs.pictures.count_left_out.Goals as goal

pub returns : goal.returns
returns c =
    count_from_yields_List _ _ c.count.ensures.ran
    (YieldsList-from_filter _ (λ p. is_left_out c.args.marked.now c.args.new.now p)
    (YieldsList-at c.filter.ensures.source (YieldsList-from_slice c.args.old.now c.iter.ensures.rest))
    c.filter.ensures.closure (λ x r q k. search (rules, tests)))
