use Rattle.std.proofs.Common.{◌∙◌, rules, tests}
use Rattle.std.proofs.lemmas.Iterator.{YieldsList-from_slice}
use Rattle.std.proofs.lemmas.Iterator.Consumers.{YieldsList-at, YieldsList-from_filter, count_from_yields_List}
use Rattle.command_words.specs.Fields.{is_field}
use Rattle.command_words.proofs.Fitting.{kept_texts}
use Rattle.command_words.proofs.said.count.Goals as goal

pub returns : goal.returns
returns c =
    count_from_yields_List _ _ c.count.ensures.ran
    (YieldsList-from_filter _ (λ s. is_field c.args.field s.field)
    (YieldsList-at c.filter.ensures.source (YieldsList-from_slice c.args.said.now c.iter.ensures.rest))
    c.filter.ensures.closure (λ x r q k. search (rules, tests)))
    ∙ kept_texts c.args.field c.args.said.now
