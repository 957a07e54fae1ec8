-- The values of the known variables.
use Rattle.std.specs.BTreeMap.{get}
use Rattle.std.specs.Option.{option_map}
use Rattle.std.specs.Ordering.{nat_cmp}
use Rattle.tree_clauses.specs.declared.known_values.Values.{Values}
use Rattle.tree_clauses.specs.Cells.{value_at}
use Rattle.tree_clauses.specs.Steps.{Known}

-- the values of the known variables, each at its place
abbrev pub known_in : Values → Known
known_in values x = option_map (value_at values.cells) (get nat_cmp values.places x)
