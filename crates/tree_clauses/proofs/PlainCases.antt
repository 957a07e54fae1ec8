-- A plain case is in solved order.
use Rattle.std.proofs.Common.{ℕ, inl, inr, List, [], ◌∷◌, refl}
use Rattle.feature_trees.specs.declared.kind.Kind.TheVariants as kind
use Rattle.feature_trees.specs.Kinds.{of}
use Rattle.tree_clauses.specs.declared.clause.Literal.{Literal}
use Rattle.tree_clauses.specs.declared.clause.Literal.TheVariants as L
use Rattle.tree_clauses.specs.Solved.{IsInOrder, Solves}
use Rattle.tree_clauses.specs.Solved as solved
use Rattle.tree_clauses.specs.Plain.{PlainOrder, done, entry, absent, reg, link, dir, same, replaced, kinds, empty, filled, PlainCasesAreSolved}
use Rattle.tree_clauses.proofs.Orders.{contains_head, contains_tail}

-- a set of no name, or of one, is in order
pub none_in_order : IsInOrder [] []
none_in_order = record { rises = tt; same = λ f. (λ c. c, λ c. c) }

pub one_in_order : (f : List ℕ) → IsInOrder (f ∷ []) (f ∷ [])
one_in_order f = record { rises = tt; same = λ g. (λ c. c, λ c. c) }

solves : {before literals : List Literal} {known after : List ℕ} → PlainOrder before known literals after → Solves known literals after
solves done = solved.done
solves (entry x f y kx ny r) = solved.made (L.Entry x f y) ny kx (solves r)
solves (absent y ny r) = solved.made (L.Kind y (of kind.Absent)) ny (inl refl) (solves r)
solves (reg y ny r) = solved.made (L.Kind y (of kind.Reg)) ny (inr (inl refl)) (solves r)
solves (link y target ny r) = solved.made (L.Target y target) ny tt (solves r)
solves {known = known} (dir y ny r) =
    solved.made (L.Kind y (of kind.Dir)) ny (inr (inr (refl, (refl, refl)))) (solved.fact (L.Fence y []) (contains_head y.0 known) (solves r))
solves (same y x kx ny limited r) = solved.made (L.Similar y [] x) ny (kx, ([], none_in_order, tt)) (solves r)
solves {known = known} (replaced y f x z kx ny kz limited r) =
    solved.made (L.Similar y (f ∷ []) x) ny (kx, (f ∷ [], one_in_order f, ((refl, refl, kz), tt)))
    (solved.fact (L.Entry y f z) (contains_head y.0 known, contains_tail y.0 z.0 known kz) (solves r))
solves (kinds x ks kx r) = solved.fact (L.Kind x ks) kx (solves r)
solves (empty x kx r) = solved.fact (L.Fence x []) kx (solves r)
solves (filled x kx r) = solved.fact (L.NotEmpty x) kx (solves r)

pub plain_solved : PlainCasesAreSolved
plain_solved made plain = (plain.known, solves plain.order, (plain.variables made.root.0).1 plain.root)
