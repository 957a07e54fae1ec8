-- What goes out of a subshell, a command substitution, a function and a command without output, and what does not
-- (POSIX.1-2017, XCU 2.12 Shell Execution Environment, 2.9.5).
use Rattle.std.specs.Prelude.{◌≡◌, ℕ, List, None, Some}
use Rattle.shell_rules.specs.State.{Text, State, Place, Action, in_substitution, with_arguments}
use Rattle.shell_rules.specs.Expansion.{do_output, capturing}
use Rattle.shell_rules.specs.Commands.{do_subshell, do_quiet, with_captured}
use Rattle.shell_rules.specs.Calls.{do_body}
use Rattle.shell_rules.specs.Laws.{state_of}

-- a state behind a subshell, from the state before it and the one in which its body ended: the variables, the
-- arguments and the strict flag are as before; the rest goes out
pub record IsBehindSubshell (before inner behind : State) : Type 0 where
  pub variables : behind.conc.vars ≡ before.conc.vars
  pub arguments : behind.conc.args ≡ before.conc.args
  pub flag : behind.conc.strict ≡ before.conc.strict
  pub status : behind.conc.status ≡ inner.conc.status
  pub output : behind.conc.captured ≡ inner.conc.captured
  pub turns : behind.conc.turns ≡ inner.conc.turns
  pub premises : behind.conc.premises ≡ inner.conc.premises
  pub tree : behind.tree ≡ inner.tree
  pub trace : behind.trace ≡ inner.trace
  pub acts : behind.acts ≡ inner.acts

-- a state behind a substitution: the shell's state is as before, but for the turns; the tree, the trace and the acts
-- go out
pub record IsBehindOutput (before inner behind : State) : Type 0 where
  pub variables : behind.conc.vars ≡ before.conc.vars
  pub arguments : behind.conc.args ≡ before.conc.args
  pub flag : behind.conc.strict ≡ before.conc.strict
  pub status : behind.conc.status ≡ before.conc.status
  pub output : behind.conc.captured ≡ before.conc.captured
  pub turns : behind.conc.turns ≡ inner.conc.turns
  pub premises : behind.conc.premises ≡ before.conc.premises
  pub tree : behind.tree ≡ inner.tree
  pub trace : behind.trace ≡ inner.trace
  pub acts : behind.acts ≡ inner.acts

-- a state behind a function: the arguments are as before, the rest goes out
pub record IsBehindBody (before inner behind : State) : Type 0 where
  pub arguments : behind.conc.args ≡ before.conc.args
  pub variables : behind.conc.vars ≡ inner.conc.vars
  pub flag : behind.conc.strict ≡ inner.conc.strict
  pub status : behind.conc.status ≡ inner.conc.status
  pub output : behind.conc.captured ≡ inner.conc.captured
  pub turns : behind.conc.turns ≡ inner.conc.turns
  pub premises : behind.conc.premises ≡ inner.conc.premises
  pub tree : behind.tree ≡ inner.tree
  pub trace : behind.trace ≡ inner.trace
  pub acts : behind.acts ≡ inner.acts

-- a state behind a command whose output is taken away: the output is as before, the rest goes out
pub record IsBehindQuiet (before inner behind : State) : Type 0 where
  pub output : behind.conc.captured ≡ before.conc.captured
  pub variables : behind.conc.vars ≡ inner.conc.vars
  pub arguments : behind.conc.args ≡ inner.conc.args
  pub flag : behind.conc.strict ≡ inner.conc.strict
  pub status : behind.conc.status ≡ inner.conc.status
  pub turns : behind.conc.turns ≡ inner.conc.turns
  pub premises : behind.conc.premises ≡ inner.conc.premises
  pub tree : behind.tree ≡ inner.tree
  pub trace : behind.trace ≡ inner.trace
  pub acts : behind.acts ≡ inner.acts

-- every subshell, however its body ends
abbrev pub SubshellsClose : Type 0
SubshellsClose =
    (at : ℕ) (body : Action) (p : Place) (s : State)
    → IsBehindSubshell s (state_of (body p s)) (state_of (do_subshell at body p s))

-- every substitution, however its command ends
abbrev pub OutputsClose : Type 0
OutputsClose =
    (body : Action) (p : Place) (s : State)
    → IsBehindOutput s (state_of (body (in_substitution p) (capturing s))) (state_of (do_output body p s))

-- every function, however its body ends
abbrev pub FunctionsClose : Type 0
FunctionsClose =
    (body : Action) (fields : List Text) (p : Place) (s : State)
    → IsBehindBody s (state_of (body p (with_arguments fields s))) (state_of (do_body (Some body) fields p s))

-- every command without output, however it ends
abbrev pub QuietsClose : Type 0
QuietsClose =
    (body : Action) (p : Place) (s : State)
    → IsBehindQuiet s (state_of (body p (with_captured None s))) (state_of (do_quiet body p s))
