use Rattle.std.proofs.Common.{ℕ, ◌<◌, List, get_or, IsTrue}
use Rattle.script_names.specs.Names.{is_name}
use Rattle.act_cases.proofs.making.are_names.Given as goal

abbrev pub invariant-loop-f : goal.invariant-loop-f
invariant-loop-f l = (k : ℕ) (d : List ℕ) → k < l.f-index → IsTrue (is_name (get_or l.names k d))
