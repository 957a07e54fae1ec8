use Rattle.std.proofs.Common.{◌≡◌, ℕ, ◌≤◌, List, length, sym, subst, ◌∙◌}
use Rattle.utility_calls.specs.Backs.{names_of}
use Rattle.act_cases.specs.BackCases.{AreBackCases}
use Rattle.act_cases.proofs.Meets.{AreNames}
use Rattle.act_cases.proofs.AllBacks.{are_back_cases}
use Rattle.act_cases.proofs.backs.back_cases.Goals as goal

pub returns : goal.returns
returns c =
    let back = c.args.back.now in
    let path_is : c.path.result.now.names ≡ names_of back = c.path.ensures in
    let names_are : c.names.result.now ≡ names_of back = c.names.ensures.names ∙ path_is in
    subst (AreBackCases back) (sym c.in_ok-cases.ensures)
    (are_back_cases back c.requires (subst (λ (l : List (List ℕ)). length l ≤ 64) path_is c.names.ensures.few) (subst AreNames names_are c.are_names.ensures))
