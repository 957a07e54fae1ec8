use Rattle.std.proofs.Common.{◌≡◌, drop}
use Rattle.feature_trees.specs.declared.kind.Kind.TheVariants.{Dir}
use Rattle.feature_trees.specs.Tree.{kind_of}
use Rattle.scenario_runs.specs.Runs.{do_backs}
use Rattle.scenario_runs.proofs.files.do_backs.Given as goal

abbrev pub invariant-loop-b : goal.invariant-loop-b
invariant-loop-b l = record {
  number : l.at ≡ l.b-index;
  rest : do_backs l.step 0 l.backs l.fn.course ≡ do_backs l.step l.at (drop l.b-index l.backs) l.course;
  dir : kind_of l.course.tree ≡ Dir;
}
