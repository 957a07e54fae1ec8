-- The literals of a store are in solved order.
use Rattle.std.proofs.Common.{◌≡◌, ℕ, zero, suc, ◌+◌, ◌<◌, inl, inr, Bool, true, false, Option, Some, None, List, [], ◌∷◌, ◌++◌, length, get_or, refl, arith, append_assoc}
use Rattle.std.specs.Prelude.{Contains}
use Rattle.feature_trees.specs.declared.kind.Kind.TheVariants as kind
use Rattle.feature_trees.specs.declared.kind.Kinds.{Kinds}
use Rattle.feature_trees.specs.Kinds.{of}
use Rattle.tree_clauses.specs.declared.clause.Literal.{Literal}
use Rattle.tree_clauses.specs.declared.clause.Literal.TheVariants as L
use Rattle.clause_solver.specs.declared.variable.MadeValue.{MadeValue}
use Rattle.clause_solver.specs.declared.variable.MadeValue.TheVariants as value
use Rattle.clause_solver.specs.declared.variable.Definition.{Definition}
use Rattle.clause_solver.specs.declared.variable.Definition.TheVariants.{Start, Child, Derived, Ensured, Made}
use Rattle.clause_solver.specs.declared.variable.Variable.{Variable}
use Rattle.clause_solver.specs.Variables.{var_at, Earlier, Ordered}
use Rattle.clause_solver.specs.Written.{var, made_literals, definition_literals, is_all, kinds_literals, fence_literals, filled_literals, target_literals, literals_from}
use Rattle.tree_clauses.specs.Solved.{Solves, done, made, fact}
use Rattle.clause_solver.proofs.Names.{bool_cases, nat_cases}
use Rattle.tree_clauses.proofs.PlainCases.{none_in_order, one_in_order}

-- the numbers below n, the greatest first
abbrev pub below : ℕ → List ℕ
below zero = []
below (suc n) = n ∷ below n

contains_head : (n : ℕ) (ns : List ℕ) → Contains (n ∷ ns) n
contains_head n ns = (0, omega arith, refl)

contains_tail : (m n : ℕ) (ns : List ℕ) → Contains ns m → Contains (n ∷ ns) m
contains_tail m n ns c = (suc c.0, (let w = c.1 in omega arith), c.2)

pub contains_below : (n x : ℕ) → x < n → Contains (below n) x
contains_below zero x w = absurd (omega arith)
contains_below (suc n) x w = elim (nat_cases x n) [
  | inl e ↦ rw e (contains_head n (below n))
  | inr ne ↦ contains_tail x n (below n) (contains_below n x (omega arith))
]

at_below : (n k d : ℕ) → k < length (below n) → get_or (below n) k d < n
at_below zero k d w = absurd (omega arith)
at_below (suc n) zero d w = omega arith
at_below (suc n) (suc k) d w = let h = at_below n k d (omega arith) in omega (arith, h)

pub not_below : (n : ℕ) → ¬ (Contains (below n) n)
not_below n c = let h = at_below n c.0 n c.1 in let e = c.2 in omega (arith, h, e)

-- facts on known variables
kinds_on : (i n : ℕ) (s : Kinds) (rest : List Literal) (after : List ℕ) → i < n → Solves (below n) rest after → Solves (below n) (kinds_literals i s ++ rest) after
kinds_on i n s rest after w h = elim (bool_cases (is_all s)) [
  | inl t ↦ rw t h
  | inr f ↦ rw f (fact (L.Kind (var i) s) (contains_below n i w) h)
]

fence_on : (i n : ℕ) (fence : Option (List (List ℕ))) (rest : List Literal) (after : List ℕ) → i < n → Solves (below n) rest after → Solves (below n) (fence_literals i fence ++ rest) after
fence_on i n None rest after w h = h
fence_on i n (Some names) rest after w h = fact (L.Fence (var i) names) (contains_below n i w) h

filled_on : (i n : ℕ) (b : Bool) (rest : List Literal) (after : List ℕ) → i < n → Solves (below n) rest after → Solves (below n) (filled_literals i b ++ rest) after
filled_on i n false rest after w h = h
filled_on i n true rest after w h = fact (L.NotEmpty (var i)) (contains_below n i w) h

target_on : (i n : ℕ) (target : Option (List ℕ)) (rest : List Literal) (after : List ℕ) → i < n → Solves (below n) rest after → Solves (below n) (target_literals i target ++ rest) after
target_on i n None rest after w h = h
target_on i n (Some b) rest after w h = fact (L.Target (var i) b) (contains_below n i w) h

-- the literals of the facts of a variable
abbrev facts_literals : ℕ → Variable → List Literal
facts_literals i v = kinds_literals i v.kinds ++ (fence_literals i v.fence ++ (filled_literals i v.not_empty ++ target_literals i v.target))

facts_on : (i n : ℕ) (v : Variable) (rest : List Literal) (after : List ℕ) → i < n → Solves (below n) rest after → Solves (below n) (facts_literals i v ++ rest) after
facts_on i n v rest after w h =
    let more = filled_literals i v.not_empty ++ target_literals i v.target in
    rw (append_assoc (kinds_literals i v.kinds) (fence_literals i v.fence ++ more) rest, append_assoc (fence_literals i v.fence) more rest, append_assoc (filled_literals i v.not_empty) (target_literals i v.target) rest)
    (kinds_on i n v.kinds _ after w (fence_on i n v.fence _ after w (filled_on i n v.not_empty _ after w (target_on i n v.target rest after w h))))

-- a definition makes its variable known
made_on : (i : ℕ) (m : MadeValue) (rest : List Literal) (after : List ℕ) → Solves (below (suc i)) rest after → Solves (below i) (made_literals i m ++ rest) after
made_on i value.Absent rest after h = made (L.Kind (var i) (of kind.Absent)) (not_below i) (inl refl) h
made_on i value.Reg rest after h = made (L.Kind (var i) (of kind.Reg)) (not_below i) (inr (inl refl)) h
made_on i (value.Link b) rest after h = made (L.Target (var i) b) (not_below i) tt h
made_on i value.Dir rest after h =
    made (L.Kind (var i) (of kind.Dir)) (not_below i) (inr (inr (refl, (refl, refl))))
    (fact (L.Fence (var i) []) (contains_below (suc i) i (omega arith)) h)

definition_on : (vars : List Variable) (i : ℕ) (d : Definition) (rest : List Literal) (after : List ℕ) → 0 < i → Earlier vars i d → Solves (below (suc i)) rest after → Solves (below i) (definition_literals i d ++ rest) after
definition_on vars i Start rest after w e h = absurd (omega arith)
definition_on vars i (Child p f) rest after w e h = made (L.Entry (var p) f (var i)) (not_below i) (contains_below i p e.0) h
definition_on vars i (Derived x f y) rest after w e h =
    let known = contains_below i y e.1 in
    made (L.Similar (var i) (f ∷ []) (var x)) (not_below i)
    (contains_below i x e.0, (f ∷ [], one_in_order f, ((refl, refl, known), tt)))
    (fact (L.Entry (var i) f (var y)) (contains_below (suc i) i (omega arith), contains_tail y i (below i) known) h)
definition_on vars i (Ensured x) rest after w e h =
    made (L.Similar (var i) [] (var x)) (not_below i) (contains_below i x e, ([], none_in_order, tt)) h
definition_on vars i (Made m) rest after w e h = made_on i m rest after h

variables_on : (vars : List Variable) (k : ℕ) (vs : List Variable) → 0 < k → ((i : ℕ) → i < length vs → Earlier vars (k + i) (var_at vs i).definition) → Solves (below k) (literals_from k vs) (below (k + length vs))
variables_on vars k [] w e = let zz : k + 0 ≡ k = omega arith in rw zz done
variables_on vars k (v ∷ vs) w e =
    let zz : k + 0 ≡ k = omega arith in
    let first : Earlier vars k v.definition = rw zz at (e 0 (omega arith)) in
    let shift : k + suc (length vs) ≡ suc k + length vs = omega arith in
    let rest = variables_on vars (suc k) vs (omega arith) (λ i b. let q : k + suc i ≡ suc k + i = omega arith in rw q at (e (suc i) (omega arith))) in
    rw (shift, append_assoc (definition_literals k v.definition) (facts_literals k v) (literals_from (suc k) vs))
    (definition_on vars k v.definition _ _ w first (facts_on k (suc k) v (literals_from (suc k) vs) _ (omega arith) rest))

start_on : (vars whole : List Variable) → 0 < length vars → (var_at vars 0).definition ≡ Start → ((i : ℕ) → i < length vars → Earlier whole i (var_at vars i).definition) → Solves (below 1) (literals_from 0 vars) (below (length vars))
start_on [] whole some e before = absurd (omega arith)
start_on (v ∷ vs) whole some e before =
    let rest = variables_on whole 1 vs (omega arith) (λ i b. let q : 1 + i ≡ suc i = omega arith in rw q (before (suc i) (omega arith))) in
    let shift : 1 + length vs ≡ suc (length vs) = omega arith in
    rw e (facts_on 0 1 v (literals_from 1 vs) (below (suc (length vs))) (omega arith) (rw shift at rest))

pub in_order : (vars : List Variable) → Ordered vars → Solves (0 ∷ []) (literals_from 0 vars) (below (length vars))
in_order vars order = start_on vars vars order.some order.first order.earlier
