use Rattle.std.proofs.Common.{◌≡◌, ◌∙◌, ap, sym, [], ◌∷◌, ◌++◌, length, arith}
use Rattle.std.proofs.lemmas.List.{nil_from_length}
use Rattle.clause_solver.specs.NewNames.{begins}
use Rattle.clause_solver.proofs.NewNames.{next_nothing}
use Rattle.clause_solver.proofs.new_name.+goes_on.Goals as goal

pub returns-in-empty : goal.returns-in-empty
returns-in-empty t c =
    let none : length c.args.bytes.now ≡ 0 = let w = c.in-empty.len_below in omega (arith, w) in
    let e : c.args.bytes.now ≡ [] = nil_from_length c.args.bytes.now none in
    sym (ap (begins (c.args.p.now ++ c.args.x ∷ [])) e ∙ next_nothing c.args.p.now c.args.x)
