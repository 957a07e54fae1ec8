-- What reading the text of a program answers.
use Rattle.std.specs.Prelude.{◌≡◌, ℕ, IsTrue, List, Result, Ok, Err}
use Rattle.colis_syntax.specs.ProgramText.{program_text}
use Rattle.colis_syntax.specs.WellFormed.{ProgramParts, is_well_formed}
use Rattle.colis_reader.specs.declared.fault.ProgramFault.{ProgramFault}
use Rattle.colis_reader.specs.declared.fault.ProgramFault.TheVariants.{Bad, Memory}
use Rattle.colis_reader.specs.Representable.{is_program}

-- a program has the text
abbrev pub HasText : List ℕ → ProgramParts → Type 0
HasText text program = IsTrue (is_program program) × (program_text program ≡ text)

-- an answer is the one program that has the text; Bad comes exactly where no program has it
abbrev pub ReadsProgram : List ℕ → Result ProgramParts ProgramFault → Type 0
ReadsProgram text (Ok program) =
    IsTrue (is_well_formed program.defs program.body) × (program_text program ≡ text)
    × ((other : ProgramParts) → HasText text other → other ≡ program)
ReadsProgram text (Err Bad) = (program : ProgramParts) → ¬ (HasText text program)
ReadsProgram text (Err Memory) = Unit {0}

-- an answer is this program, or want of memory
abbrev pub IsReadAs : ProgramParts → Result ProgramParts ProgramFault → Type 0
IsReadAs program (Ok found) = found ≡ program
IsReadAs program (Err Bad) = ⊥
IsReadAs program (Err Memory) = Unit {0}

-- the text of a program is read as the program
abbrev pub ProgramsReadBack : Type 0
ProgramsReadBack =
    (program : ProgramParts) → IsTrue (is_program program) → (answer : Result ProgramParts ProgramFault)
    → ReadsProgram (program_text program) answer → IsReadAs program answer

-- programs with one text are one program
abbrev pub ProgramTextsApart : Type 0
ProgramTextsApart =
    (program other : ProgramParts) → IsTrue (is_program program) → IsTrue (is_program other)
    → program_text program ≡ program_text other → program ≡ other
