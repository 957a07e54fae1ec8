use Rattle.std.proofs.Common.{◌≡◌, drop, Some}
use Rattle.shell_forms.specs.Words.{both_bytes}
use Rattle.shell_forms.specs.Seen.{static_of}
use Rattle.shell_forms.proofs.words.static_text.Given as goal

abbrev pub invariant-loop-part : goal.invariant-loop-part
invariant-loop-part l = both_bytes (Some l.text) (static_of (drop l.part-index l.part-items)) ≡ static_of l.part-items
