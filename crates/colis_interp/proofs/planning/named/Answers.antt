use Rattle.std.proofs.Common.{◌≡◌, List, None, sym, subst, ◌∙◌, rules}
use Rattle.colis_meaning.specs.Meaning.{names_of}
use Rattle.shell_rules.specs.State.{Text}
use Rattle.shell_rules.specs.Planned.{compared, unless_function, is_functions}
use Rattle.colis_interp.proofs.NamedCommands.{ended_named}
use Rattle.colis_interp.proofs.planning.named.Goals as goal

pub returns-in_ok-plan-in-None : goal.returns-in_ok-plan-in-None
returns-in_ok-plan-in-None c =
    let functions = names_of c.args.functions.now in
    let versions = c.args.premises.now.versions in
    ended_named (is_functions functions c.args.fields.now) c.args.premises.now c.args.spelled c.args.fields.now
    c.in_ok-plan-in-None.plan (search rules)
    (subst (λ (fields : List Text). unless_function (is_functions functions fields) (compared versions c.args.spelled fields) ≡ None)
    c.as_slice-words.ensures (sym c.in_ok-ok.ensures ∙ c.in-None.is))
    (search rules)
