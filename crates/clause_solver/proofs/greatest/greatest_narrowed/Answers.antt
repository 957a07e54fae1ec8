use Rattle.std.proofs.Common.{◌≡◌, ◌≢◌, ◌&&◌, ◌∙◌, true, false, ap, sym}
use Rattle.feature_trees.specs.declared.kind.Kind.TheVariants.{Absent}
use Rattle.clause_solver.specs.declared.variable.Definition.TheVariants.{Child}
use Rattle.clause_solver.specs.declared.variable.Variable.{Variable}
use Rattle.clause_solver.specs.Greatest.{best_by, choose, is_dir, kind_at}
use Rattle.clause_solver.specs.Variables.{allowed, var_at}
use Rattle.clause_solver.proofs.GreatestKinds.{now_chosen, still_absent}
use Rattle.clause_solver.proofs.greatest.greatest_narrowed.Goals as goal

pub returns-then-is_same : goal.returns-then-is_same
returns-then-is_same c =
    let vars = c.args.vars.now in
    let best = c.args.best.now in
    let few = (var_at vars c.args.x).kinds in
    let was = c.requires.was in
    let is : (var_at vars c.args.x).definition ≡ Child c.in-Child.field-0 c.in-Child.field-1 = sym c.definition_at.ensures ∙ c.in-Child.is in
    let may = is_dir (kind_at best c.in-Child.field-0) && allowed (var_at vars c.in-Child.field-0).fence c.in-Child.field-1 in
    let gone : kind_at best c.args.x ≡ Absent = sym c.kind_at.ensures ∙ c.is_same.ensures.0 c.if-is_same.true in
    still_absent may few was.0 (kind_at best c.args.x) was.2 (was.1 ∙ ap (best_by vars best was.0) is) gone ∙ ap (best_by vars best few) (sym is)

pub returns-else-is_same : goal.returns-else-is_same
returns-else-is_same c =
    let vars = c.args.vars.now in
    let best = c.args.best.now in
    let few = (var_at vars c.args.x).kinds in
    let was = c.requires.was in
    let is : (var_at vars c.args.x).definition ≡ Child c.in-Child.field-0 c.in-Child.field-1 = sym c.definition_at.ensures ∙ c.in-Child.is in
    let may = is_dir (kind_at best c.in-Child.field-0) && allowed (var_at vars c.in-Child.field-0).fence c.in-Child.field-1 in
    let there : kind_at best c.args.x ≢ Absent =
    λ e. let t = c.is_same.ensures.1 (c.kind_at.ensures ∙ e) in let f = c.if-is_same.false in let bad : true ≡ false = sym t ∙ f in cc in
    let chosen : c.choose.result ≡ choose few = c.choose.ensures ∙ ap (λ (v : Variable). choose v.kinds) c.var_at.ensures in
    chosen ∙ now_chosen may few was.0 (kind_at best c.args.x) (was.1 ∙ ap (best_by vars best was.0) is) there ∙ ap (best_by vars best few) (sym is)
