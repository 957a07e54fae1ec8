use Rattle.std.proofs.Common.{◌≡◌, sym, subst}
use Rattle.std.proofs.lemmas.Result.{IfOk-weaker}
use Rattle.utility_calls.specs.Performed.{HasPerformedActs}
use Rattle.colis_meaning.specs.Meaning.{names_of}
use Rattle.shell_rules.specs.Planned.{planned}
use Rattle.colis_interp.proofs.planning.planned.Goals as goal

pub returns-clause-performed : goal.returns-clause-performed
returns-clause-performed c =
    let premises = c.args.premises.now in
    let functions = names_of c.args.functions.now in
    IfOk-weaker c.followed.result (λ plan. plan ≡ planned premises functions c.args.spelled c.args.fields.now) HasPerformedActs
    (λ plan e. subst HasPerformedActs (sym e)
    (c.planned_acts_are_performed.ensures premises functions c.args.spelled c.args.fields.now)) c.followed.ensures
