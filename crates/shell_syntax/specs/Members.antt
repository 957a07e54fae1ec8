-- What stands in the lists of a command: those behind `&&` and `||`, the arms of an `if`, those of a `case`.
use Rattle.std.specs.Prelude.{Bool, List}
use Rattle.shell_syntax.specs.declared.syntax.Command.{Command}
use Rattle.shell_syntax.specs.declared.syntax.Word.{Word}
use Rattle.shell_syntax.specs.declared.syntax.Link.{Link, roll-Link}
use Rattle.shell_syntax.specs.declared.syntax.IfArm.{IfArm, roll-IfArm}
use Rattle.shell_syntax.specs.declared.syntax.CaseArm.{CaseArm, roll-CaseArm}

-- a command behind `&&` or `||`
abbrev pub link : Bool → Command → Link
link is_and x = roll-Link (record { and = is_and; command = x })

-- a condition and its body
abbrev pub if_arm : Command → Command → IfArm
if_arm cond body = roll-IfArm (record { cond = cond; body = body })

-- patterns and their body
abbrev pub case_arm : List Word → Command → CaseArm
case_arm patterns body = roll-CaseArm (record { patterns = patterns; body = body })
