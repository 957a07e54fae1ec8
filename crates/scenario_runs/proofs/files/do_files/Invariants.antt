use Rattle.std.proofs.Common.{◌≡◌, drop}
use Rattle.feature_trees.specs.declared.kind.Kind.TheVariants.{Dir}
use Rattle.feature_trees.specs.Tree.{kind_of}
use Rattle.scenario_runs.specs.Runs.{do_files}
use Rattle.scenario_runs.proofs.files.do_files.Given as goal

abbrev pub invariant-loop-a : goal.invariant-loop-a
invariant-loop-a l = record {
  number : l.at ≡ l.a-index;
  rest : do_files l.can_fail l.step 0 l.acts l.fn.course ≡ do_files l.can_fail l.step l.at (drop l.a-index l.acts) l.course;
  dir : kind_of l.course.tree ≡ Dir;
}
