use Rattle.checker_input.proofs.Texts.{kept_comes}
use Rattle.checker_input.proofs.understand.kept_script.Goals as goal

pub returns-in_ok-text-in-Ok : goal.returns-in_ok-text-in-Ok
returns-in_ok-text-in-Ok c =
    kept_comes c.args.script c.in-Some.text c.as_slice.result.now c.in_ok-came-in-Some.came c.in-Ok.script
    c.in_ok-script-in-Ok.script c.in_ok-text-in-Ok.text c.in-Some.is c.as_slice.ensures c.in_ok-came-in-Some.ensures
    c.in-Ok.is c.in_ok-script-in-Ok.ensures c.in_ok-text-in-Ok.ensures
