-- A variable has one of the kinds that it can have.
use Rattle.std.proofs.Common.{◌≡◌, ℕ, ◌<◌, true, false, ◌&&◌, IsTrue, List, length, refl, sym, ap, ◌∙◌}
use Rattle.feature_trees.specs.declared.kind.Kind.{Kind}
use Rattle.feature_trees.specs.declared.kind.Kind.TheVariants.{Absent, Reg, Link, Special, Dir}
use Rattle.feature_trees.specs.declared.kind.Special.TheVariants.{Fifo, Socket, Block, Char}
use Rattle.feature_trees.specs.declared.kind.Kinds.{Kinds}
use Rattle.feature_trees.specs.declared.value.Value.{Value}
use Rattle.feature_trees.specs.Kinds.{has, none, of, both}
use Rattle.feature_trees.specs.Tree.{kind_of}
use Rattle.clause_solver.specs.declared.variable.Definition.{Definition}
use Rattle.clause_solver.specs.declared.variable.Definition.TheVariants.{Start, Child, Derived, Ensured, Made}
use Rattle.clause_solver.specs.declared.variable.Variable.{Variable}
use Rattle.tree_clauses.specs.Literals.{Valuation, value_of_variable}
use Rattle.clause_solver.specs.Stands.{Stands}
use Rattle.clause_solver.specs.Variables.{var_at, defined, made_value, Fits, Ordered, possible, possible_by}
use Rattle.tree_clauses.proofs.KindSets.{has_both}
use Rattle.clause_solver.proofs.Pairs.{fits_from}
use Rattle.clause_solver.proofs.OneMore.{seen_of}

none_has : (k : Kind) → has none k ≡ false
none_has Absent = refl
none_has Reg = refl
none_has Link = refl
none_has (Special Fifo) = refl
none_has (Special Socket) = refl
none_has (Special Block) = refl
none_has (Special Char) = refl
none_has Dir = refl

has_of : (k : Kind) → IsTrue (has (of k) k)
has_of Absent = refl
has_of Reg = refl
has_of Link = refl
has_of (Special Fifo) = refl
has_of (Special Socket) = refl
has_of (Special Block) = refl
has_of (Special Char) = refl
has_of Dir = refl

by_definition : (g : Valuation) (i : ℕ) (d : Definition) (ks : Kinds) → value_of_variable g i ≡ defined g d → IsTrue (has ks (kind_of (value_of_variable g i))) → IsTrue (has (possible_by d ks) (kind_of (value_of_variable g i)))
by_definition g i Start ks e h = h
by_definition g i (Child p f) ks e h = h
by_definition g i (Derived x f y) ks e h = rw e refl
by_definition g i (Ensured x) ks e h = rw e refl
by_definition g i (Made m) ks e h = rw e (has_of (kind_of (made_value m)))

-- where a variable can have none of these kinds, it has none in any pair
pub excluded : (vars : List Variable) (now x : ℕ) (k : Kinds) → x < length vars → Ordered vars → both (possible (var_at vars x)) k ≡ none → (t : Value) (g : Valuation) → Stands (seen_of vars now) t g → IsTrue (has k (kind_of (value_of_variable g x))) → ⊥
excluded vars now x k w order e t g s h =
    let fit : Fits g x (var_at vars x) = fits_from vars g order s.values s.met x w in
    let v = var_at vars x in
    let here = kind_of (value_of_variable g x) in
    let can : IsTrue (has (possible v) here) = by_definition g x v.definition v.kinds fit.is fit.kind in
    let all : has (both (possible v) k) here ≡ true = has_both (possible v) k here ∙ ap (λ q. q && has k here) can ∙ h in
    let not : has (both (possible v) k) here ≡ false = ap (λ q. has q here) e ∙ none_has here in
    let bad : true ≡ false = sym all ∙ not in
    cc
