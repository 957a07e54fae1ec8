use Rattle.std.proofs.Common.{◌∙◌, sym}
use Rattle.concrete_utils.proofs.Kept.{kept_dir}
use Rattle.concrete_utils.proofs.steps.keep_dir.Goals as goal

pub returns-then-has_dir-clause-ok : goal.returns-then-has_dir-clause-ok
returns-then-has_dir-clause-ok c = kept_dir c.args.tree.now c.args.path.now.names (sym c.has_dir.ensures ∙ c.if-has_dir.true)
