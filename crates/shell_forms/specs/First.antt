-- The form that a script is refused for: the first one that stands in it.
use Rattle.std.specs.Prelude.{◌≡◌, ℕ, ◌<◌, ◌≤◌, ◌⊎◌, List, All}
use Rattle.std.specs.List.{Contains}
use Rattle.shell_syntax.specs.declared.form.Form.{Form}
use Rattle.shell_syntax.specs.declared.form.Form.TheVariants as form
use Rattle.shell_syntax.specs.declared.syntax.Command.{Command}
use Rattle.shell_forms.specs.declared.accepted.FormFault.{FormFault}
use Rattle.shell_forms.specs.declared.accepted.FormFault.TheVariants as fault
use Rattle.shell_forms.specs.Forms.{Found, forms_of, script_place}
use Rattle.shell_forms.specs.Functions.{definitions, first_of}

-- the place of a form in the order in which forms are named
abbrev pub rank : Form → ℕ
rank form.Heredoc = 0
rank form.Arith = 1
rank form.Background = 2
rank form.Backquote = 3
rank form.Param = 4
rank form.AllArgs = 5
rank form.Redirect = 6
rank form.Tilde = 7
rank form.Brace = 8
rank form.SubstCase = 9
rank form.Option = 10
rank form.Ifs = 11
rank form.Prefix = 12
rank form.Export = 13
rank form.LoopExit = 14
rank form.Return = 15
rank form.FunctionPlace = 16
rank form.FunctionTwice = 17
rank form.FunctionName = 18
rank form.CallOrder = 19

-- the forms that stand in a script, by its body
abbrev pub script_forms : Command → List Found
script_forms body = forms_of (first_of (definitions body)) body script_place

-- one form is not behind another: it stands at a lesser offset, or at the same one and is named no later
abbrev pub NotBehind : Found → Found → Type 0
NotBehind one other = (one.1 < other.1) ⊎ ((one.1 ≡ other.1) × (rank one.0 ≤ rank other.0))

-- the first of these forms: the one of least offset, at one offset the one that is named first
pub record IsFirst (all : List Found) (one : Found) : Type 0 where
  pub stands : Contains all one
  pub first : All (NotBehind one) all

-- a script is refused for the first of its forms; want of memory has no cause
abbrev pub Refuses : List Found → FormFault → Type 0
Refuses all (fault.Form one at) = IsFirst all (one, at)
Refuses all fault.Memory = Unit {0}
