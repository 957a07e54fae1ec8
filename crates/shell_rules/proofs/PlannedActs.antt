-- Each act that a command comes to under premises meets its conditions.
use Rattle.std.proofs.Common.{Bool, true, false, List, Option, Some, None, if◌then◌else◌}
use Rattle.script_names.specs.declared.reason.Reason.TheVariants as reason
use Rattle.utility_calls.specs.declared.acts.Act.{Act}
use Rattle.utility_calls.specs.declared.acts.Act.TheVariants.{CanRun}
use Rattle.utility_calls.specs.declared.planned.Planned.{Planned}
use Rattle.utility_calls.specs.declared.planned.Planned.TheVariants.{Known, Ask, Print, Change, Unspecified}
use Rattle.utility_calls.specs.declared.stated_call.CallEnd.{CallEnd}
use Rattle.utility_calls.specs.declared.stated_call.CallEnd.TheVariants.{Succeeds, Fails, Asks}
use Rattle.utility_calls.specs.Acts.{IsPerformed}
use Rattle.utility_calls.specs.Calls.{call}
use Rattle.utility_calls.specs.Performed.{HasPerformedActs}
use Rattle.utility_calls.proofs.Performed.{performed}
use Rattle.link_walks.proofs.Performed.{followed_performed}
use Rattle.shell_rules.specs.declared.premises.Premises.{Premises}
use Rattle.shell_rules.specs.declared.spelled.Spelled.{Spelled}
use Rattle.shell_rules.specs.State.{Text}
use Rattle.shell_rules.specs.Planned.{act_in, runs_in, end_plan, by_end, by_order, compared, unless_function}
use Rattle.shell_rules.specs.Planned.{stated_end, outright, is_functions, planned}

either : (b : Bool) (x y : Planned) → HasPerformedActs x → HasPerformedActs y → HasPerformedActs (if b then x else y)
either true x y h k = h
either false x y h k = k

act_performed : (runs : Bool) (act : Act) → IsPerformed act → IsPerformed (act_in runs act)
act_performed runs (CanRun p before) h = h
act_performed runs act h = h

runs_performed : (runs : Bool) (x : Planned) → HasPerformedActs x → HasPerformedActs (runs_in runs x)
runs_performed runs (Known ok) h = h
runs_performed runs (Ask act negate) h = act_performed runs act h
runs_performed runs (Print text) h = h
runs_performed runs (Change lists) h = h
runs_performed runs (Unspecified why) h = h

end_performed : (end : Option CallEnd) (x : Planned) → HasPerformedActs x → HasPerformedActs (by_end end x)
end_performed None x h = h
end_performed (Some Succeeds) x h = tt
end_performed (Some Fails) x h = tt
end_performed (Some (Asks p)) x h = ((λ e. absurd (cc e)), tt)

order_performed : (answer : Option Bool) (x : Planned) → HasPerformedActs x → HasPerformedActs (by_order answer x)
order_performed None x h = h
order_performed (Some ok) x h = tt

pub planned_performed : (premises : Premises) (functions : List Text) (spelled : Spelled) (fields : List Text)
    → HasPerformedActs (planned premises functions spelled fields)
planned_performed premises functions spelled fields =
    let function : Bool = is_functions functions fields in
    let end : Planned = by_end (stated_end premises.calls spelled fields) (call fields) in
    let plain : HasPerformedActs (call fields) = performed fields in
    followed_performed premises.links _
    (runs_performed premises.runs _
    (either spelled.name (outright function premises spelled fields)
    (if function then Unspecified reason.Call else call fields)
    (order_performed (unless_function function (compared premises.versions spelled fields)) end
    (end_performed (stated_end premises.calls spelled fields) (call fields) plain))
    (either function (Unspecified reason.Call) (call fields) tt plain)))
