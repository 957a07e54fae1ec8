use Rattle.feature_trees.proofs.FirstFaults.{first_faults}
use Rattle.feature_trees.proofs.LinesStand.{lines_stand, stand_as_said}
use Rattle.feature_trees.specs.declared.kind.Kind.TheVariants as kind
use Rattle.feature_trees.specs.TreeLines.{text_lines}
use Rattle.feature_trees.proofs.theorems.texts_are_trees.Goals as goal

pub returns-clause-stand : goal.returns-clause-stand
returns-clause-stand c text tree e =
    let after = lines_stand text tree e in
    (record { dir = after.dir (λ i. kind.Dir); sound = after.sound }, stand_as_said (text_lines text) tree after)

pub returns-clause-faults : goal.returns-clause-faults
returns-clause-faults c text n why e = first_faults text n why e
