use Rattle.std.proofs.Common.{◌≡◌, ◌∙◌, ap, ◌∷◌}
use Rattle.clause_solver.specs.NameSets.{has}
use Rattle.clause_solver.specs.ReplacedNames.{names}
use Rattle.clause_solver.proofs.HasEntries.{replaced_also}
use Rattle.clause_solver.proofs.NameSets.{one_then}
use Rattle.clause_solver.proofs.greatest.+add_replaced.Goals as goal

pub returns-in_ok-add_replaced-in-Also : goal.returns-in_ok-add_replaced-in-Also
returns-in_ok-add_replaced-in-Also t c =
    let are : names c.args.replaced.now ≡ c.in-Also.g.now ∷ names c.in-Also.below.now = ap names c.in-Also.is ∙ replaced_also c.in-Also.g c.in-Also.below in
    rw are (λ f. one_then c.in-Also.g.now f (names c.in-Also.below.now) (has c.args.set.now f) (has c.add.new.self f) (has c.add_replaced.new.set f)
    (c.in_ok-add-in-Also.ensures f) (c.in_ok-add_replaced-in-Also.ensures f))
