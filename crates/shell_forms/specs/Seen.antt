-- What a word says before any expansion, read off its syntax.
use Rattle.std.specs.Prelude.{ℕ, Bool, true, false, not, ◌&&◌, ◌||◌, List, [], ◌∷◌, Option, Some, None, codes}
use Rattle.std.specs.List.{list_any}
use Rattle.std.specs.Str.{bytes_eq}
use Rattle.script_names.specs.CommandNames.{special_names}
use Rattle.shell_syntax.specs.declared.syntax.Command.{Command}
use Rattle.shell_syntax.specs.declared.syntax.Part.{Part, out-Part}
use Rattle.shell_syntax.specs.declared.syntax.Assign.{Assign}
use Rattle.shell_syntax.specs.declared.syntax.CaseArm.{CaseArm}
use Rattle.shell_syntax.specs.declared.syntax.IfArm.{IfArm}
use Rattle.shell_syntax.specs.declared.syntax.Link.{Link}
use Rattle.shell_syntax.specs.declared.syntax.Word.{Word}
use Rattle.shell_syntax.specs.declared.syntax.Command.TheOpen as o
use Rattle.shell_forms.specs.Words.{both_bytes, command_of}
use Rattle.shell_forms.specs.Names.{Text}
use Rattle.shell_forms.specs.Forms.{Forms, is_named, is_there, are_any, is_function, part_says, apart, all_of}

-- one layer of a part
abbrev pub Layer : Type 0
Layer = o.Part-F Command Part Assign CaseArm IfArm Link Word

-- the bytes that a part stands for
abbrev pub layer_bytes : Layer → Option Text
layer_bytes (o.Plain bytes) = Some bytes
layer_bytes (o.Quoted bytes) = Some bytes
layer_bytes (o.Param key default quoted) = None
layer_bytes o.All = None
layer_bytes (o.Run at body quoted) = None

-- the bytes that a part stands for
abbrev pub bytes_of : Part → Option Text
bytes_of part = layer_bytes (out-Part part)

-- the bytes of a word without any expansion in it
abbrev pub static_of : List Part → Option Text
static_of [] = Some []
static_of (part ∷ parts) = both_bytes (bytes_of part) (static_of parts)

-- the static name of a command, where its first word is static
abbrev pub static_name_of : List Word → Option Text
static_name_of [] = None
static_name_of (word ∷ words) = static_of word.parts

-- the words are the one static word `-e` or `+e`
abbrev pub is_one_flag_in : List Word → Bool
is_one_flag_in [] = false
is_one_flag_in (word ∷ []) = is_named (static_of word.parts) (codes "-e" ∷ codes "+e" ∷ [])
is_one_flag_in (word ∷ other ∷ words) = false

-- whether a part is an expansion outside quotes
abbrev pub layer_unquoted : Layer → Bool
layer_unquoted (o.Plain bytes) = false
layer_unquoted (o.Quoted bytes) = false
layer_unquoted (o.Param key default quoted) = not quoted
layer_unquoted o.All = false
layer_unquoted (o.Run at body quoted) = not quoted

-- whether a part is an expansion outside quotes
abbrev pub is_unquoted : Part → Bool
is_unquoted part = layer_unquoted (out-Part part)

-- whether one of the words has an expansion outside quotes
abbrev pub some_unquoted_in : List Word → Bool
some_unquoted_in words = list_any (λ word. list_any is_unquoted word.parts) words

-- whether a part is a substitution
abbrev pub layer_runs : Layer → Bool
layer_runs (o.Run at body quoted) = true
layer_runs _ = false

-- whether a part is a substitution
abbrev pub is_run : Part → Bool
is_run part = layer_runs (out-Part part)

-- whether a substitution stands in one of the values that are assigned
abbrev pub some_runs_in : List Assign → Bool
some_runs_in assigns = list_any (λ assign. list_any is_run assign.value.parts) assigns

-- whether one of the variables that are assigned is IFS
abbrev pub sets_ifs_in : List Assign → Bool
sets_ifs_in assigns = list_any (λ assign. bytes_eq assign.name (codes "IFS")) assigns

-- whether a part is `"$@"`
abbrev pub layer_all : Layer → Bool
layer_all o.All = true
layer_all _ = false

-- whether a part is `"$@"`
abbrev pub is_all : Part → Bool
is_all part = layer_all (out-Part part)

-- whether a word is `"$@"` and nothing else
abbrev pub is_all_alone_in : List Part → Bool
is_all_alone_in [] = false
is_all_alone_in (part ∷ []) = is_all part
is_all_alone_in (part ∷ other ∷ parts) = false

-- the words behind the first
abbrev pub operands_of : List Word → List Word
operands_of [] = []
operands_of (word ∷ words) = words

-- the forms in the command of a substitution
abbrev pub in_part : (Text → Option ℕ) → Part → Forms
in_part first part p = all_of (command_of (part_says first part).runs) (apart p)

-- assignments before a name that is not static, is a function's or a special built-in's, or with a substitution in a
-- value
abbrev pub is_prefix_in : (Text → Option ℕ) → List Assign → List Word → Bool
is_prefix_in first assigns words =
    are_any assigns && (are_any words
    && (not (is_there (static_name_of words)) || (is_function first (static_name_of words)
    || (is_named (static_name_of words) special_names || some_runs_in assigns))))
