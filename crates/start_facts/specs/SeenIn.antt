-- What is kept of what literals say of variables.
use Rattle.std.specs.BTreeMap.{get}
use Rattle.std.specs.BTreeSet.{contains}
use Rattle.std.specs.Ordering.{nat_cmp}
use Rattle.start_facts.specs.declared.standings.Standings.{Standings}
use Rattle.start_facts.specs.Standings.{Seen}

-- where each variable stands, and which are nothing
abbrev pub seen_in : Standings → Seen
seen_in kept = record { stands = get nat_cmp kept.stands; nothing = contains nat_cmp kept.nothing }
