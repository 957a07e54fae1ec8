use Rattle.std.proofs.Common.{◌<◌, length, arith, ap, ◌∙◌}
use Rattle.shell_rules.specs.declared.premises.Premises.{Premises}
use Rattle.shell_rules.specs.Planned.{planned}
use Rattle.colis_meaning.specs.Meaning.{names_of}
use Rattle.colis_interp.specs.Places.{place_of}
use Rattle.colis_interp.specs.Runs.{state_of}
use Rattle.colis_interp.proofs.Answering.{called}
use Rattle.colis_interp.proofs.utilities.call_utility.Goals as goal

pub returns-clause-runs : goal.returns-clause-runs
returns-clause-runs c =
    let lt : 0 < length c.args.fields.now = omega arith in
    called c.args.spelled c.args.fields.now c.in_ok-planned.planned (place_of c.args.place) (state_of c.args.shell.now) c.do_planned.result c.do_planned.new.shell lt
    (c.in_ok-planned.ensures.planned ∙ ap (λ (premises : Premises). planned premises (names_of c.args.place.functions.now) c.args.spelled c.args.fields.now) c.get-premises.ensures) c.do_planned.ensures.runs
