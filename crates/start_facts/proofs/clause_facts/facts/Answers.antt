use Rattle.std.proofs.Common.{ap, ◌∙◌}
use Rattle.std.specs.BTreeSet.{contains}
use Rattle.std.specs.Ordering.{nat_cmp}
use Rattle.start_facts.specs.Asked.{asked_of}
use Rattle.start_facts.specs.SeenIn.{seen_in}
use Rattle.start_facts.proofs.Kept.{begun}
use Rattle.start_facts.proofs.clause_facts.facts.Goals as goal

pub loop-literal-init : goal.loop-literal-init
loop-literal-init c =
    begun c.new-facts.result (contains nat_cmp c.in_ok-asked.asked) (seen_in c.in_ok-seen.seen) c.args.clause.now
    c.new-facts.ensures (c.in_ok-asked.ensures ∙ ap asked_of c.as_slice.ensures) c.in_ok-seen.ensures
