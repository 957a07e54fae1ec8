use Rattle.checker_calls.specs.Reports.{chosen}
use Rattle.checker_calls.proofs.Accounts.{settles}
use Rattle.checker_calls.proofs.scenarios.chosen_accounts.Goals as goal

pub returns : goal.returns
returns g c =
    settles g.A.Account.tells c.args.packages.now c.args.turns c.args.limit (chosen c.args.scenario)
    c.in_ok-scenarios.scenarios c.in_ok-answers.answers c.in_ok-all.all c.in_ok-scenarios.ensures c.in_ok-answers.ensures
    c.in_ok-all.ensures
