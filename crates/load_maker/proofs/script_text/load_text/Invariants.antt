use Rattle.std.proofs.Common.{◌≡◌, ◌++◌, codes}
use Rattle.load_maker.specs.LoadText.{load_lines}
use Rattle.load_maker.proofs.script_text.load_text.Given as goal

abbrev pub invariant-loop-done : goal.invariant-loop-done
invariant-loop-done l = l.text ≡ codes "#!/bin/sh\nset -e\n" ++ load_lines l.done
