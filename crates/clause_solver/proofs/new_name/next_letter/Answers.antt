use Rattle.std.proofs.Common.{◌≤◌, [], ◌∷◌, ◌++◌, arith}
use Rattle.clause_solver.specs.NewNames.{beginning}
use Rattle.clause_solver.proofs.NewNames.{first_letter, other_letter}
use Rattle.clause_solver.proofs.new_name.next_letter.Goals as goal

pub returns-then-left-room-clause-most : goal.returns-then-left-room-clause-most
returns-then-left-room-clause-most c =
    first_letter c.args.p.now c.args.vars.now c.args.left c.requires.most

pub overflow_sub-result : goal.overflow_sub-result
overflow_sub-result c =
    let low : beginning (c.args.p.now ++ 97 ∷ []) c.args.vars.now ≤ c.args.left =
    first_letter c.args.p.now c.args.vars.now c.args.left c.requires.most in
    let e = c.count_going_on-count.ensures in omega (arith, low, e)

pub returns-else-count-room-clause-most : goal.returns-else-count-room-clause-most
returns-else-count-room-clause-most c =
    other_letter c.args.p.now c.args.vars.now c.args.left c.count_going_on-count.result c.requires.most c.count_going_on-count.ensures
