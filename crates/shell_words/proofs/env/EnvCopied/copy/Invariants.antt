use Rattle.std.proofs.Common.{◌≡◌, ℕ, List, None}
use Rattle.std.specs.Map.{lookup}
use Rattle.std.specs.FinMap as map
use Rattle.shell_words.proofs.Named.{has_name}
use Rattle.shell_words.proofs.env.EnvCopied.copy.Given as goal

abbrev pub invariant-loop-name : goal.invariant-loop-name
invariant-loop-name l = (q : List ℕ) → lookup (has_name q) l.name-iterator ≡ None → map.get l.twin q ≡ map.get l.self q
