use Rattle.script_names.proofs.Begins.{parent_of_join, parent_begins, join_is_longer}
use Rattle.script_names.proofs.theorems.parents_and_joins.Goals as goal

pub returns : goal.returns
returns c = record { parent = parent_of_join; begins = parent_begins; longer = join_is_longer }
