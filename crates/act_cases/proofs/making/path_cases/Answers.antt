use Rattle.std.proofs.Common.{◌≡◌, ℕ, ◌≤◌, List, length, sym, ap, subst, ◌∙◌}
use Rattle.script_names.specs.Paths.{PathParts}
use Rattle.utility_calls.specs.declared.acts.Act.{Act}
use Rattle.utility_calls.specs.Acts.{path_of, inner_name, with_name}
use Rattle.act_cases.specs.Cases.{AreCases}
use Rattle.act_cases.proofs.Meets.{AreNames}
use Rattle.act_cases.proofs.AllCases.{are_cases}
use Rattle.act_cases.proofs.making.path_cases.Goals as goal

few : (act : Act) (p : PathParts) → p ≡ path_of act → length p.names ≤ 64 → length (path_of act).names ≤ 64
few act p e le = subst (λ (q : PathParts). length q.names ≤ 64) e le

named : (ns ms : List (List ℕ)) → ns ≡ ms → AreNames ns → AreNames ms
named ns ms e h = subst AreNames e h

pub returns : goal.returns
returns c =
    let act = c.args.act.now in
    let same : c.names-names.result.now ≡ (path_of act).names = c.names-names.ensures.names ∙ ap (λ (p : PathParts). p.names) c.path.ensures in
    let names = named c.names-names.result.now (path_of act).names same c.are_names.ensures in
    let inside = named c.as_slice.result.now (with_name (path_of act).names (inner_name act))
    (c.as_slice.ensures ∙ c.in_ok-inside.ensures ∙ ap (λ (ns : List (List ℕ)). with_name ns (inner_name act)) same) c.are_names-2.ensures in
    subst (AreCases act) (sym c.in_ok-cases.ensures)
    (are_cases act c.requires.one_path c.requires.performed (few act c.path.result.now c.path.ensures c.names-names.ensures.few) names inside)
