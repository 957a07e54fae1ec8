-- The one line that says why nothing was reported.
use Rattle.std.specs.Prelude.{ℕ, List, ◌++◌, codes}
use Rattle.std.specs.Fmt.{decimal}
use Rattle.shell_syntax.specs.declared.form.Form.{Form as FormName}
use Rattle.shell_syntax.specs.declared.form.Form.TheVariants as form
use Rattle.checker_input.specs.declared.faults.FileFault.{FileFault}
use Rattle.checker_input.specs.declared.faults.FileFault.TheVariants.{Missing, TooLong, Script, Version, Line, Report}
use Rattle.checker_input.specs.declared.script.ScriptFault.{ScriptFault}
use Rattle.checker_input.specs.declared.script.ScriptFault.TheVariants as reason
use Rattle.dpkg_scenarios.specs.Names.{scenario_name}
use Rattle.checker_calls.specs.declared.faults.Refusal.{Refusal}
use Rattle.checker_calls.specs.declared.faults.Refusal.TheVariants.{NoStart, Limit, Kept}
use Rattle.checker_calls.specs.declared.faults.CallRefusal.{CallRefusal}
use Rattle.checker_calls.specs.declared.faults.CallRefusal.TheVariants.{Usage, Input, Task}
use Rattle.shown_texts.specs.Lines.{line}
use Rattle.shown_texts.specs.Paths.{path_text}

-- the name of an unsupported form
abbrev pub form_name : FormName → List ℕ
form_name form.Heredoc = codes "heredoc"
form_name form.Arith = codes "arith"
form_name form.Background = codes "background"
form_name form.Backquote = codes "backquote"
form_name form.Param = codes "param"
form_name form.AllArgs = codes "all-args"
form_name form.Redirect = codes "redirect"
form_name form.Tilde = codes "tilde"
form_name form.Brace = codes "brace"
form_name form.SubstCase = codes "subst-case"
form_name form.Option = codes "option"
form_name form.Ifs = codes "ifs"
form_name form.Prefix = codes "prefix"
form_name form.Export = codes "export"
form_name form.LoopExit = codes "loop-exit"
form_name form.Return = codes "return"
form_name form.FunctionPlace = codes "function-place"
form_name form.FunctionTwice = codes "function-twice"
form_name form.FunctionName = codes "function-name"
form_name form.CallOrder = codes "call-order"

-- a line on a file: the program, the file's name, and what is wrong with the file
abbrev pub file_line : List ℕ → List ℕ → List ℕ
file_line name fault = line (codes "colis: " ++ name ++ fault)

-- a line on a place in a file
abbrev pub place_line : List ℕ → List ℕ → ℕ → List ℕ
place_line name fault at = file_line name (fault ++ decimal at)

-- what is wrong with a file in which a form of this name stands, up to its place
abbrev pub unsupported : List ℕ → List ℕ
unsupported form = codes ": unsupported " ++ form ++ codes " at "

-- the line of a form, by its name, at a place in a file
abbrev pub form_line : List ℕ → List ℕ → ℕ → List ℕ
form_line name form at = place_line name (unsupported form) at

-- the line of want of memory
abbrev pub no_memory_line : List ℕ
no_memory_line = line (codes "colis: out of memory")

-- the line of a file whose text is no accepted script
abbrev pub script_line : List ℕ → ScriptFault → List ℕ
script_line name (reason.Nul at) = place_line name (codes ": NUL byte at ") at
script_line name (reason.Interpreter at) = file_line name (codes ": interpreter not accepted")
script_line name (reason.OpenQuote at) = place_line name (codes ": open quote at ") at
script_line name (reason.OpenSubstitution at) = place_line name (codes ": open substitution at ") at
script_line name (reason.Unsupported form at) = form_line name (form_name form) at
script_line name (reason.DeepSubstitution at) = place_line name (codes ": nested too deep at ") at
script_line name (reason.Syntax at) = place_line name (codes ": syntax at ") at
script_line name (reason.Deep at) = place_line name (codes ": nested too deep at ") at
script_line name (reason.Form form at) = form_line name (form_name form) at

-- the line of a file whose line of this number is at fault for this reason
abbrev pub fault_line : List ℕ → ℕ → ℕ → List ℕ
fault_line name number why = file_line name (codes ": line " ++ decimal number ++ codes ": fault " ++ decimal why)

-- a line on a file, with a number of bytes
abbrev pub length_line : List ℕ → List ℕ → ℕ → List ℕ
length_line name fault most = file_line name (fault ++ decimal most ++ codes " bytes")

-- the line of a file that is refused, by its name and what is wrong with it
abbrev pub input_line : List ℕ → FileFault → List ℕ
input_line name Missing = file_line name (codes ": missing")
input_line name (TooLong most) = length_line name (codes ": longer than ") most
input_line name (Script why) = script_line name why
input_line name (Version number) = place_line name (codes ": bad version in line ") number
input_line name (Line number why) = fault_line name number why
input_line name (Report why) = place_line name (codes ": report fault ") why

-- the line of a scenario that is refused
abbrev pub scenario_line : Refusal → List ℕ
scenario_line (NoStart scenario) = line (codes "colis: no start tree for " ++ scenario_name scenario)
scenario_line (Limit scenario limit) =
    line (codes "colis: more than " ++ decimal limit ++ codes " outcomes in " ++ scenario_name scenario)
scenario_line (Kept path) = line (codes "colis: other package keeps " ++ path_text path.names)

-- the line of a refusal
abbrev pub refusal_line : CallRefusal → List ℕ
refusal_line (Usage word) = line (codes "colis: usage: word " ++ decimal word)
refusal_line (Input refused) = input_line refused.file refused.fault
refusal_line (Task refused) = scenario_line refused

-- the line of a read that failed, of the file of this name
abbrev pub read_failed_line : List ℕ → List ℕ
read_failed_line name = file_line name (codes ": read failed")

-- the line of a text that could not be written whole
abbrev pub write_failed_line : List ℕ
write_failed_line = line (codes "colis: write failed")
