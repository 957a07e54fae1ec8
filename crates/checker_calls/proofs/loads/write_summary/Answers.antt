use Rattle.checker_calls.proofs.Accounts.{have_endings}
use Rattle.checker_calls.proofs.Loaded.{load_is}
use Rattle.checker_calls.proofs.loads.write_summary.Goals as goal

pub returns : goal.returns
returns g c =
    let all = c.in_ok-scenarios.ensures in
    let have = have_endings all.report.parts c.in_ok-scenarios.scenarios all.tell in
    load_is c.args.number c.args.limit c.args.packages.now all.report c.in_ok-text.text c.load_verdict-status.result c.requires
    all.parts (c.in_ok-text.ensures all.report have) (c.load_verdict-status.ensures all.report have)
