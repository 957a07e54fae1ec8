use Rattle.std.proofs.Common.{take, get_or-take, ap, sym, ◌∙◌}
use Rattle.feature_trees.specs.declared.value.Value.TheVariants as value
use Rattle.feature_trees.specs.Tree.{kind_of}
use Rattle.store_tests.proofs.steps.put_filled.Goals as goal

pub derive-requires-clause-directory : goal.derive-requires-clause-directory
derive-requires-clause-directory c t v h =
    let s = c.made_dir.new.self in
    let before = c.in_ok-inner.ensures.extends.down t v h in
    let is = c.in_ok-outer.ensures.empty.is t (take s.count v) before in
    ap kind_of (sym (get_or-take s.count v c.in_ok-outer.outer.0 value.Absent c.in_ok-outer.ensures.empty.known) ∙ is)
