use Rattle.std.proofs.Common.{◌≡◌, ℕ, ◌≤◌, List, length, sym, ap, subst, ◌∙◌}
use Rattle.script_names.specs.Paths.{PathParts}
use Rattle.utility_calls.specs.Acts.{path_of, place_of, inner_name, with_name}
use Rattle.act_cases.specs.Cases.{AreCases}
use Rattle.act_cases.proofs.Meets.{AreNames}
use Rattle.act_cases.proofs.AllMoves.{are_move_cases}
use Rattle.act_cases.proofs.making.cases_of_move.Goals as goal

few : (ns ms : List (List ℕ)) → ns ≡ ms → length ns ≤ 64 → length ms ≤ 64
few ns ms e h = subst (λ (l : List (List ℕ)). length l ≤ 64) e h

named : (ns ms : List (List ℕ)) → ns ≡ ms → AreNames ns → AreNames ms
named ns ms e h = subst AreNames e h

pub returns : goal.returns
returns c =
    let act = c.args.act.now in
    let path_is : c.path.result.now.names ≡ (path_of act).names = ap (λ (p : PathParts). p.names) c.path.ensures in
    let first : c.names-names.result.now ≡ (path_of act).names = c.names-names.ensures.names ∙ path_is in
    let second : c.names-place.result.now ≡ place_of act = c.names-place.ensures.names ∙ c.place.ensures in
    let third : c.as_slice.result.now ≡ with_name (place_of act) (inner_name act) =
    c.as_slice.ensures ∙ c.in_ok-inside.ensures ∙ ap (λ (ns : List (List ℕ)). with_name ns (inner_name act)) second in
    subst (AreCases act) (sym c.in_ok-cases.ensures)
    (are_move_cases act c.requires.a_move c.requires.performed (few c.path.result.now.names (path_of act).names path_is c.names-names.ensures.few)
    (few c.place.result.now.names (place_of act) c.place.ensures c.names-place.ensures.few)
    (named c.names-names.result.now (path_of act).names first c.are_names.ensures) (named c.names-place.result.now (place_of act) second c.are_names-2.ensures)
    (named c.as_slice.result.now (with_name (place_of act) (inner_name act)) third c.are_names-3.ensures))
