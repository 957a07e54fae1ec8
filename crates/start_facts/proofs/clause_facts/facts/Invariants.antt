use Rattle.std.proofs.Common.{◌≡◌, ◌++◌, drop}
use Rattle.std.specs.BTreeSet.{contains}
use Rattle.std.specs.Ordering.{nat_cmp}
use Rattle.start_facts.specs.ClauseFacts.{facts_of}
use Rattle.start_facts.specs.SeenIn.{seen_in}
use Rattle.start_facts.proofs.Kept.{facts_with}
use Rattle.start_facts.proofs.clause_facts.facts.Given as goal

abbrev pub invariant-loop-literal : goal.invariant-loop-literal
invariant-loop-literal l =
    l.facts ++ facts_with (contains nat_cmp l.asked) (seen_in l.seen) (drop l.literal-index l.clause.literals)
    ≡ facts_of l.clause
