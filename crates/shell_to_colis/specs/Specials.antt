-- Which statement each special built-in becomes (POSIX.1-2017, XCU 2.14 Special Built-In Utilities).
use Rattle.std.specs.Prelude.{◌≡◌, List, map, Option, codes}
use Rattle.script_names.specs.declared.command_names.SpecialBuiltIn.{SpecialBuiltIn}
use Rattle.script_names.specs.declared.command_names.SpecialBuiltIn.TheVariants as special
use Rattle.script_names.specs.CommandNames.{special_built_ins}
use Rattle.shell_forms.specs.Names.{Text}
use Rattle.colis_syntax.specs.declared.def.Def.{Def}
use Rattle.shell_to_colis.specs.declared.kinds.Kind.{Kind}
use Rattle.shell_to_colis.specs.declared.kinds.Kind.TheVariants as kind
use Rattle.shell_to_colis.specs.Translated.{flag_kind, called_kind, named_kind}

-- a special built-in with these static operands; `:` is a utility like any other
abbrev pub special_kind : SpecialBuiltIn → List (Option Text) → List Def → Kind
special_kind special.Colon operands defs = called_kind (codes ":") defs
special_kind special.Break operands defs = kind.Break
special_kind special.Continue operands defs = kind.Continue
special_kind special.Exit operands defs = kind.Exit
special_kind special.Return operands defs = kind.Return
special_kind special.Set operands defs = flag_kind operands
special_kind special.Export operands defs = kind.Export
special_kind special.Unset operands defs = kind.Unset

-- each name of a special built-in becomes the statement of it
abbrev pub SpecialsBecomeTheirs : Type 0
SpecialsBecomeTheirs = (operands : List (Option Text)) (defs : List Def)
    → map (λ row. named_kind row.0 operands defs) special_built_ins
    ≡ map (λ row. special_kind row.1 operands defs) special_built_ins
