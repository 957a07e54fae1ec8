use Rattle.std.proofs.Common.{◌≡◌, ◌≤◌, drop}
use Rattle.shell_rules.specs.Calls.{unset_each}
use Rattle.colis_interp.specs.Places.{place_of}
use Rattle.colis_interp.specs.Runs.{state_of}
use Rattle.colis_interp.proofs.names.unset_each.Given as goal

abbrev pub invariant-loop-field : goal.invariant-loop-field
invariant-loop-field l =
    (l.shell.conc.turns ≤ l.fn.shell.conc.turns)
    × (unset_each l.fields (place_of l.place) (state_of l.fn.shell) ≡ unset_each (drop l.field-index l.fields) (place_of l.place) (state_of l.shell))
