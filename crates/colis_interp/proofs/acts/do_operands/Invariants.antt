use Rattle.std.proofs.Common.{◌≡◌, ◌≤◌, true}
use Rattle.shell_rules.specs.Calls.{do_operands}
use Rattle.colis_interp.specs.Places.{place_of}
use Rattle.colis_interp.specs.Runs.{state_of}
use Rattle.colis_interp.proofs.acts.do_operands.Given as goal

abbrev pub invariant-loop-acts : goal.invariant-loop-acts
invariant-loop-acts l =
    (l.shell.conc.turns ≤ l.fn.shell.conc.turns)
    × (do_operands true l.fn.operands (place_of l.place) (state_of l.fn.shell) ≡ do_operands l.all l.acts-iterator.rest.items (place_of l.place) (state_of l.shell))
