use Rattle.std.proofs.Common.{◌+◌, ◌∙◌, ap, arith}
use Rattle.indexmap.specs.IndexMap.{insert_entry}
use Rattle.report_text.specs.contracts.places.EndPlacePartialEq.TheImpl.{eq-value}
use Rattle.report_text.proofs.Counted.{inserted}
use Rattle.report_text.proofs.places.count_one.Goals as goal

pub overflow_add-count : goal.overflow_add-count
overflow_add-count c = omega (arith, c.requires, c.count_of-count.ensures)

pub returns : goal.returns
returns c =
    c.in_ok-insert.ensures.entries
    ∙ ap (λ n. insert_entry ((eq-value).it) c.args.counts.now.entries c.args.place (n + 1)) c.count_of-count.ensures
    ∙ inserted c.args.counts.now.entries c.args.place
