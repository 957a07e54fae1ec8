use Rattle.std.proofs.Common.{◌≡◌, ◌++◌, take}
use Rattle.std.specs.List.{flat_map}
use Rattle.shell_syntax.specs.Printed.{redirect_text}
use Rattle.shell_syntax.proofs.printing.put_redirects.Given as goal

abbrev pub invariant-loop-redirect : goal.invariant-loop-redirect
invariant-loop-redirect l = l.text ≡ l.initial.text ++ flat_map redirect_text (take l.redirect-index l.redirects)
