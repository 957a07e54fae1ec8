use Rattle.std.proofs.Common.{◌≡◌, ◌∙◌, sym, subst}
use Rattle.clause_solver.specs.declared.variable.Variable.{Variable}
use Rattle.clause_solver.specs.Variables.{narrowed_kinds}
use Rattle.clause_solver.proofs.Narrowed.{narrowed_same}
use Rattle.clause_solver.proofs.facts.keeps_kinds.Goals as goal

pub returns : goal.returns
returns c t =
    narrowed_same c.args.vars.now c.args.x c.args.k c.requires
    (subst (λ (v : Variable). narrowed_kinds v c.args.k ≡ v.kinds) c.var_at-v.ensures (sym c.narrowed_kinds.ensures ∙ c.are_same.ensures t))
