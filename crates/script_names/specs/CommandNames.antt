-- The names of commands that have a meaning: those of utilities (POSIX.1-2017, XCU 4 Utilities), and those of special
-- built-in utilities, which change the shell itself (XCU 2.14 Special Built-In Utilities).
use Rattle.std.specs.Prelude.{ℕ, Bool, true, false, ◌||◌, List, [], ◌∷◌, ◌++◌, map, Option, Some, None, codes}
use Rattle.std.specs.Prelude.{if◌then◌else◌}
use Rattle.std.specs.List.{list_any}
use Rattle.std.specs.Option.{option_map_or}
use Rattle.std.specs.Str.{bytes_eq}
use Rattle.script_names.specs.declared.command_names.Utility.{Utility}
use Rattle.script_names.specs.declared.command_names.Utility.TheVariants as utility
use Rattle.script_names.specs.declared.command_names.SpecialBuiltIn.{SpecialBuiltIn}
use Rattle.script_names.specs.declared.command_names.SpecialBuiltIn.TheVariants as special

-- names, each with what has it
abbrev pub Names : Type 0 → Type 0
Names A = List (List ℕ × A)

-- what has the name
abbrev pub named : {A : Type 0} → Names A → List ℕ → Option A
named [] name = None
named ((other, it) ∷ rest) name = if bytes_eq name other then Some it else named rest name

-- the names alone
abbrev pub names_of : {A : Type 0} → Names A → List (List ℕ)
names_of names = map (λ row. row.0) names

-- whether a name is one of these
abbrev pub is_one_of : List ℕ → List (List ℕ) → Bool
is_one_of name names = list_any (bytes_eq name) names

-- the utilities whose names no function may have; `:` does what `true` does
abbrev pub kept_utilities : Names Utility
kept_utilities =
    (codes "true", utility.True) ∷ (codes ":", utility.True) ∷ (codes "false", utility.False)
    ∷ (codes "echo", utility.Echo) ∷ (codes "mkdir", utility.MakeDir) ∷ (codes "rmdir", utility.RemoveDir)
    ∷ (codes "rm", utility.Remove) ∷ (codes "touch", utility.Touch) ∷ (codes "ln", utility.Link)
    ∷ (codes "mv", utility.Move) ∷ (codes "test", utility.Test) ∷ (codes "[", utility.Bracket) ∷ []

-- those whose names a function may have
abbrev pub free_utilities : Names Utility
free_utilities =
    (codes "unlink", utility.Unlink) ∷ (codes "install", utility.Install) ∷ (codes "chmod", utility.ChangeMode)
    ∷ (codes "chown", utility.ChangeOwner) ∷ (codes "chgrp", utility.ChangeGroup) ∷ (codes "cp", utility.Copy)
    ∷ (codes "basename", utility.BaseName) ∷ (codes "dirname", utility.DirName) ∷ []

-- the utilities that have a meaning
abbrev pub utilities : Names Utility
utilities = kept_utilities ++ free_utilities

-- the special built-ins that have a meaning
abbrev pub special_built_ins : Names SpecialBuiltIn
special_built_ins =
    (codes ":", special.Colon) ∷ (codes "break", special.Break) ∷ (codes "continue", special.Continue)
    ∷ (codes "exit", special.Exit) ∷ (codes "return", special.Return) ∷ (codes "set", special.Set)
    ∷ (codes "export", special.Export) ∷ (codes "unset", special.Unset) ∷ []

-- the names of special built-ins
abbrev pub special_names : List (List ℕ)
special_names = names_of special_built_ins

-- the utility of a name
abbrev pub utility_named : List ℕ → Option Utility
utility_named name = named utilities name

-- the special built-in of a name
abbrev pub special_named : List ℕ → Option SpecialBuiltIn
special_named name = named special_built_ins name

-- whether no function may have the name of a utility; one that a function may have is false here
abbrev pub keeps_name : Utility → Bool
keeps_name utility.True = true
keeps_name utility.False = true
keeps_name utility.Echo = true
keeps_name utility.MakeDir = true
keeps_name utility.RemoveDir = true
keeps_name utility.Remove = true
keeps_name utility.Touch = true
keeps_name utility.Link = true
keeps_name utility.Move = true
keeps_name utility.Test = true
keeps_name utility.Bracket = true
keeps_name utility.Unlink = false
keeps_name utility.Install = false
keeps_name utility.ChangeMode = false
keeps_name utility.ChangeOwner = false
keeps_name utility.ChangeGroup = false
keeps_name utility.Copy = false
keeps_name utility.BaseName = false
keeps_name utility.DirName = false

-- no function may have a name that its utility keeps, or that of a special built-in
abbrev pub is_kept_name : List ℕ → Bool
is_kept_name name = option_map_or keeps_name (utility_named name) false || is_one_of name special_names
