-- The places of the code, and those of the rules.
use Rattle.script_names.specs.declared.reason.Reason.{Reason}
use Rattle.shell_rules.specs.State as st
use Rattle.colis_meaning.specs.Meaning.{names_of}
use Rattle.colis_interp.specs.declared.place.Place.{Place}
use Rattle.shell_rules.specs.declared.leave.Leave.TheVariants as leave
use Rattle.colis_interp.specs.declared.halt.Halt.{Halt}
use Rattle.colis_interp.specs.declared.halt.Halt.TheVariants as halt

-- the place that the rules know: of the functions, their names
abbrev pub place_of : Place → st.Place
place_of p = record {
  step = p.step;
  at = p.at;
  functions = names_of p.functions.now;
  excepted = p.excepted;
  inner = p.inner;
}

-- the stop at a command for a reason
abbrev pub stop_at : Reason → Place → Halt
stop_at reason p = halt.Left (leave.Stopped reason (st.site_of (place_of p)))
