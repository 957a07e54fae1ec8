use Rattle.std.proofs.Common.{◌≡◌, take}
use Rattle.package_lists.specs.Paths.{path_text}
use Rattle.package_lists.proofs.paths.path_text.Given as goal

abbrev pub invariant-loop-name : goal.invariant-loop-name
invariant-loop-name l = l.text ≡ path_text (take l.name-index l.names)
