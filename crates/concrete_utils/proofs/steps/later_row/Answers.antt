use Rattle.std.proofs.Common.{◌≡◌, false, sym, ap, ◌∙◌}
use Rattle.std.specs.Option.{option_copied}
use Rattle.feature_trees.specs.declared.value.Value.{Value}
use Rattle.feature_trees.specs.declared.kind.Kind.TheVariants.{Absent}
use Rattle.feature_trees.specs.Tree.{at}
use Rattle.utility_calls.specs.Ways.{in_dir}
use Rattle.utility_calls.specs.Sights.{sight_of}
use Rattle.utility_calls.specs.Table.{rules, first_row}
use Rattle.utility_calls.specs.Acts.{path_of, inner_name, inner_at}
use Rattle.concrete_utils.proofs.Still.{still_row}
use Rattle.concrete_utils.proofs.steps.later_row.Goals as goal

pub returns-in-None : goal.returns-in-None
returns-in-None c =
    let a = c.args.a.now in
    let tree = c.args.tree.now in
    let names = (path_of a).names in
    let here = at tree names in
    let inner : c.inner-inner.result.now ≡ inner_at here (inner_name a) =
    c.inner-inner.ensures ∙ ap (λ (v : Value). inner_at v (inner_name a)) c.requires.here in
    let seen : c.sight_of.result ≡ sight_of (in_dir tree names) here (inner_at here (inner_name a)) =
    c.sight_of.ensures ∙ (λ i. sight_of (c.requires.in_dir i) (c.requires.here i) (inner i)) in
    c.own_row.ensures ∙ ap (first_row (rules false a) Absent) seen
    ∙ still_row a tree (sym c.source.ensures ∙ ap option_copied c.in-None.is)
