use Rattle.std.proofs.Common.{◌+◌, All, Err, Fits, w64, sym, subst, ap, ap₂, ◌∙◌, arith}
use Rattle.feature_trees.specs.Sound.{IsTree}
use Rattle.feature_trees.specs.declared.read.TreeFault.TheVariants.{Line as Faulty}
use Rattle.feature_trees.specs.TreeLines.{text_lines, tree_of}
use Rattle.feature_trees.specs.TreeLines.{IsAnswer as IsTold}
use Rattle.tree_predictions.specs.NamedTrees.{head_name, begun, and_then, with_lines, IsAnswer}
use Rattle.tree_predictions.proofs.Reading.{added, faulty, fault_within, tree_more}
use Rattle.tree_predictions.proofs.read.add_tree.Goals as goal

pub returns-in-Ok-clause-adds : goal.returns-in-Ok-clause-adds
returns-in-Ok-clause-adds c =
    added c.args.number c.args.trees c.head_name-name.result.now c.args.head.now (text_lines c.args.block.now) c.head_name-name.ensures c.in-Ok.tree _
    (sym c.is_tree_name.ensures ∙ c.if-not-is_tree_name.false) (sym c.has.ensures ∙ c.if-has.false) c.requires.none c.in-Ok.ensures.reads
    c.in_ok-more-in-Ok.ensures

pub returns-in-Ok-clause-trees : goal.returns-in-Ok-clause-trees
returns-in-Ok-clause-trees c =
    subst (All (λ named. IsTree named.tree)) (sym c.in_ok-more-in-Ok.ensures)
    (tree_more c.args.trees (record { name = c.head_name-name.result.now; tree = c.in-Ok.tree }) c.requires.trees c.in-Ok.ensures.tree)

pub overflow_add-number : goal.overflow_add-number
overflow_add-number c =
    let le = fault_within c.in-Err-Line.line c.in-Err-Line.why (text_lines c.args.block.now)
    (subst (IsTold (tree_of c.args.block.now)) (ap Err c.in-Err-Line.field-0-is) c.in-Err-Line.ensures.reads) in
    let fits = c.requires.fits in
    subst (λ n. Fits w64 (c.args.number + n)) (sym c.in-Err-Line.line-is) (omega (arith, le, fits))

pub returns-in-Err-Line-clause-adds : goal.returns-in-Err-Line-clause-adds
returns-in-Err-Line-clause-adds c =
    subst (λ fault. IsAnswer (and_then (λ more. with_lines (c.args.number + 1) more (text_lines c.args.block.now)) (begun c.args.number c.args.trees (head_name c.args.head.now))) (Err fault))
    (sym c.fault-in-Err-Line.ensures)
    (faulty c.args.number c.args.trees c.head_name-name.result.now c.args.head.now (text_lines c.args.block.now) c.head_name-name.ensures _ _
    (sym c.is_tree_name.ensures ∙ c.if-not-is_tree_name.false) (sym c.has.ensures ∙ c.if-has.false) c.requires.none
    (subst (IsTold (tree_of c.args.block.now)) (ap Err (c.in-Err-Line.field-0-is ∙ ap₂ Faulty (sym c.in-Err-Line.line-is) (sym c.in-Err-Line.why-is))) c.in-Err-Line.ensures.reads))
