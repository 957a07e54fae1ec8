-- How the first line of a script is spelled, byte by byte, without joined lines. (POSIX.1-2017, XCU 2.1, leaves a
-- first line that begins with `#!` unspecified; the kernel reads it so that the interpreter's name ends at a blank or
-- the line's end, and what follows is one argument.)
use Rattle.std.specs.Prelude.{◌≡◌, ℕ, Bool, true, false, ◌∷◌, ◌++◌, codes}
use Rattle.std.specs.List.{list_all}
use Rattle.shell_lexer.specs.Text.{Bytes, is_blank}

-- spaces and tabs, perhaps none
abbrev pub AreBlanks : Bytes → Type 0
AreBlanks bytes = list_all is_blank bytes ≡ true

-- the interpreters that are accepted
pub data IsInterpreter : Bytes → Type 0 where
  sh : IsInterpreter (codes "/bin/sh")
  dash : IsInterpreter (codes "/bin/dash")
  bash : IsInterpreter (codes "/bin/bash")

-- `#!`, blanks, an interpreter, and blanks alone; or at least one blank, `-e`, and blanks: then the script begins
-- strict
pub data IsFirstLine : Bool → Bytes → Type 0 where
  plain : (blanks shell last : Bytes) {line : Bytes} → AreBlanks blanks → IsInterpreter shell → AreBlanks last
      → line ≡ codes "#!" ++ (blanks ++ (shell ++ last)) → IsFirstLine false line
  strict : (blanks shell : Bytes) (blank : ℕ) (more last : Bytes) {line : Bytes}
      → AreBlanks blanks → IsInterpreter shell → AreBlanks (blank ∷ more) → AreBlanks last
      → line ≡ codes "#!" ++ (blanks ++ (shell ++ (blank ∷ (more ++ (codes "-e" ++ last))))) → IsFirstLine true line
