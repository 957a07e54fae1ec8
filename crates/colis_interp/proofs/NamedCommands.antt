-- What a command comes to whose name is spelled out.
use Rattle.std.proofs.Common.{◌≡◌, Bool, true, List, Option, None, ap, sym, ◌∙◌, if◌then◌else◌}
use Rattle.utility_calls.specs.declared.planned.Planned.{Planned}
use Rattle.utility_calls.specs.declared.planned.Planned.TheVariants.{Unspecified}
use Rattle.script_names.specs.declared.reason.Reason.TheVariants as reason
use Rattle.utility_calls.specs.Calls.{call}
use Rattle.shell_rules.specs.declared.premises.Premises.{Premises}
use Rattle.shell_rules.specs.declared.spelled.Spelled.{Spelled}
use Rattle.shell_rules.specs.State.{Text}
use Rattle.shell_rules.specs.Planned.{compared, unless_function, by_order, stated_end, by_end, outright, named}

-- where it is no comparison of versions, it comes to the end that is stated, else to the utility
pub ended_named : (function : Bool) (premises : Premises) (spelled : Spelled) (fields : List Text) (plan : Planned)
    → spelled.name ≡ true → unless_function function (compared premises.versions spelled fields) ≡ None
    → plan ≡ by_end (stated_end premises.calls spelled fields) (call fields)
    → plan ≡ named function premises spelled fields
ended_named function premises spelled fields plan name none e =
    let later : Planned = by_end (stated_end premises.calls spelled fields) (call fields) in
    e ∙ sym (ap (λ (order : Option Bool). by_order order later) none)
    ∙ sym (ap (λ (b : Bool). if b then outright function premises spelled fields else (if function then Unspecified reason.Call else call fields)) name)
