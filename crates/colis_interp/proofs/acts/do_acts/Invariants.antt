use Rattle.std.proofs.Common.{◌≡◌, ◌≤◌}
use Rattle.shell_rules.specs.Calls.{do_acts}
use Rattle.colis_interp.specs.Places.{place_of}
use Rattle.colis_interp.specs.Runs.{state_of}
use Rattle.colis_interp.proofs.acts.do_acts.Given as goal

abbrev pub invariant-loop-a : goal.invariant-loop-a
invariant-loop-a l =
    (l.shell.conc.turns ≤ l.fn.shell.conc.turns)
    × (do_acts l.fn.acts (place_of l.place) (state_of l.fn.shell) ≡ do_acts l.a-iterator.rest.items (place_of l.place) (state_of l.shell))
