use Rattle.std.proofs.Common.{◌≡◌, ℕ, suc, ◌+◌, ◌-◌, List, [], ◌∷◌, ◌++◌, length, take, sym, ap, ◌∙◌, arith, append_assoc}
use Rattle.tree_clauses.specs.declared.case.Case.{Case}
use Rattle.act_cases.specs.BackCases.{back_case, link_back_plan, link_backs}
use Rattle.act_cases.proofs.backs.add_link_backs.Goals as goal

-- the first of the cases, and those behind it
one_more : (names : List (List ℕ)) (before all : List Case) (made : Case) (n more less : ℕ) → more ≡ suc less
    → made ≡ back_case (link_back_plan n) [] (take n names) → before ++ link_backs names n more ≡ all
    → (before ++ made ∷ []) ++ link_backs names (n + 1) less ≡ all
one_more names before all made n more less e is h =
    append_assoc before (made ∷ []) (link_backs names (n + 1) less)
    ∙ ap (λ (x : Case). before ++ (x ∷ link_backs names (n + 1) less)) is
    ∙ ap (λ (l : List Case). before ++ l) (sym (ap (link_backs names n) e))
    ∙ h

pub loop-k-preserved : goal.loop-k-preserved
loop-k-preserved c =
    let k = c.loop-k.k in
    let names = c.args.names.now in
    let m = c.in_ok-made.ensures in
    let p = c.link_back_plan-plan.ensures in
    let is : c.in_ok-made.made ≡ back_case (link_back_plan (k + 1)) [] (take (k + 1) names) = cc (m, p) in
    let e : length names - 1 - k ≡ suc (length names - 1 - (k + 1)) = omega (arith, c.loop-k-test.true, c.prefixes-k-end.ensures) in
    ap (λ l. l ++ link_backs names (k + 1 + 1) (length names - 1 - (k + 1))) c.in_ok-add.ensures.ok
    ∙ one_more names c.loop-k.cases _ c.in_ok-made.made (k + 1) (length names - 1 - k) (length names - 1 - (k + 1)) e is c.loop-k.invariant
