use Rattle.std.proofs.Common.{◌≡◌, ℕ, suc, Bool, ◌+◌, ◌-◌, List, [], ◌∷◌, ◌++◌, length, take, sym, ap, ◌∙◌, arith, append_assoc}
use Rattle.script_names.specs.Paths.{PathParts}
use Rattle.utility_calls.specs.declared.acts.Act.{Act}
use Rattle.utility_calls.specs.declared.sights.Where.{Where}
use Rattle.utility_calls.specs.Acts.{path_of, place_of, is_below}
use Rattle.tree_clauses.specs.declared.case.Case.{Case}
use Rattle.act_cases.specs.declared.moves.MovePlan.{MovePlan}
use Rattle.act_cases.specs.Moves.{taken, looked, move_case, second_plan, second_cases}
use Rattle.act_cases.proofs.making.add_seconds.Goals as goal

-- the first of the cases, and those behind it
one_more : (act : Act) (before all : List Case) (made : Case) (k more less : ℕ) → more ≡ suc less
    → made ≡ move_case (second_plan (path_of act).slash (looked (is_below act) (taken act)) k) (path_of act).names (take k (place_of act))
    → before ++ second_cases act k more ≡ all → (before ++ made ∷ []) ++ second_cases act (k + 1) less ≡ all
one_more act before all made k more less e is h =
    append_assoc before (made ∷ []) (second_cases act (k + 1) less)
    ∙ ap (λ (x : Case). before ++ (x ∷ second_cases act (k + 1) less)) is
    ∙ ap (λ (l : List Case). before ++ l) (sym (ap (second_cases act k) e))
    ∙ h

pub loop-i-preserved : goal.loop-i-preserved
loop-i-preserved c =
    let i = c.loop-i.i in
    let act = c.args.act.now in
    let path_is : c.names.result.now ≡ (path_of act).names = c.names.ensures.names ∙ ap (λ (p : PathParts). p.names) c.path-path.ensures in
    let place_is : c.names-names.result.now ≡ place_of act = c.names-names.ensures.names ∙ c.place.ensures in
    let slash_is : c.slash.result ≡ (path_of act).slash = c.slash.ensures.value ∙ ap (λ (p : PathParts). p.slash) c.path-path.ensures in
    let source : Where = looked (is_below act) (taken act) in
    let plan : MovePlan = second_plan (path_of act).slash source (i + 1) in
    let plan_is : c.second_plan-plan.result ≡ plan =
    c.second_plan-plan.ensures ∙ ap (λ (s : Bool). second_plan s c.looked-source.result (i + 1)) slash_is
    ∙ ap (λ (w : Where). second_plan (path_of act).slash w (i + 1)) c.looked-source.ensures in
    let is : c.in_ok-made.made ≡ move_case plan (path_of act).names (take (i + 1) (place_of act)) =
    c.in_ok-made.ensures ∙ ap (λ (x : MovePlan). move_case x c.names.result.now (take (i + 1) c.names-names.result.now)) plan_is
    ∙ ap (λ (ns : List (List ℕ)). move_case plan ns (take (i + 1) c.names-names.result.now)) path_is
    ∙ ap (λ (ns : List (List ℕ)). move_case plan (path_of act).names (take (i + 1) ns)) place_is in
    let counted : length c.names-names.result.now ≡ length (place_of act) = ap length place_is in
    let e : length (place_of act) - 1 - i ≡ suc (length (place_of act) - 1 - (i + 1)) = omega (arith, c.loop-i-test.true, c.prefixes-i-end.ensures, counted) in
    ap (λ l. l ++ second_cases act (i + 1 + 1) (length (place_of act) - 1 - (i + 1))) c.in_ok-add.ensures.ok
    ∙ one_more act c.loop-i.cases _ c.in_ok-made.made (i + 1) (length (place_of act) - 1 - i) (length (place_of act) - 1 - (i + 1)) e is c.loop-i.invariant
