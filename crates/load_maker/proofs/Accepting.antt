-- An accepted script has no fault.
use Rattle.std.proofs.Common.{◌≡◌, ℕ, List, Result, Ok, Err}
use Rattle.shell_syntax.specs.declared.script.Script.{Script}
use Rattle.checker_input.specs.declared.script.ScriptFault.{ScriptFault}
use Rattle.checker_input.specs.Script.{IsAccepted, IsUnaccepted}
use Rattle.checker_input.proofs.OneScript.{text_once}

none_of_both : {A B : Type 0} {a : A} {b : B} → ◌≡◌ {A = Result A B} (Ok a) (Err b) → ⊥
none_of_both e = cc

pub not_refused : (text : List ℕ) → (script : Script) × IsAccepted text script → (why : ScriptFault) → IsUnaccepted text why → ⊥
not_refused text is why x = none_of_both (text_once text (Ok is.0) (Err why) is.1 x)
