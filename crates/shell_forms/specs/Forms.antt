-- The forms of the shell that are not supported and stand in the syntax of a script, each with the byte offset at
-- which it is reported. A command under `|`, `!` or redirections, in a condition, a branch, a subshell or a
-- substitution is looked at like any other.
use Rattle.std.specs.Prelude.{ℕ, Bool, true, false, not, ◌&&◌, ◌||◌, List, [], ◌∷◌, ◌++◌, Option, Some, None, codes}
use Rattle.std.specs.Prelude.{nat_lt}
use Rattle.std.specs.List.{list_any, flat_map}
use Rattle.std.specs.Str.{bytes_eq}
use Rattle.script_names.specs.CommandNames.{is_one_of, is_kept_name, special_names}
use Rattle.shell_syntax.specs.declared.form.Form.{Form}
use Rattle.shell_syntax.specs.declared.form.Form.TheVariants as form
use Rattle.shell_syntax.specs.declared.syntax.Command.{Command}
use Rattle.shell_syntax.specs.declared.syntax.Part.{Part}
use Rattle.shell_syntax.specs.declared.syntax.Assign.{Assign}
use Rattle.shell_syntax.specs.declared.syntax.CaseArm.{CaseArm}
use Rattle.shell_syntax.specs.declared.syntax.IfArm.{IfArm}
use Rattle.shell_syntax.specs.declared.syntax.Link.{Link}
use Rattle.shell_syntax.specs.declared.syntax.Word.{Word}
use Rattle.shell_syntax.specs.declared.syntax.Command.TheOpen as o
use Rattle.shell_syntax.specs.declared.syntax.Command.TheFolds.{fold-Command, fold-Part, fold-Assign, fold-CaseArm}
use Rattle.shell_syntax.specs.declared.syntax.Command.TheFolds.{fold-IfArm, fold-Link, fold-Word}
use Rattle.shell_forms.specs.Names.{Text}
use Rattle.shell_forms.specs.Words.{PartSays, WordSays, AssignSays, static, has_unquoted, commands_of, is_all_alone}
use Rattle.shell_forms.specs.declared.place.Place.{Place}
use Rattle.shell_forms.specs.declared.place.Standing.{Standing}
use Rattle.shell_forms.specs.declared.place.Standing.TheVariants.{Whole, Member, Within}

-- a form, and the offset at which it stands
abbrev pub Found : Type 0
Found = Form × ℕ

-- the forms that stand in a command, by where the command stands
abbrev pub Forms : Type 0
Forms = Place → List Found

-- ---- where a command stands

-- the script's body, outside of loops and functions
abbrev pub script_place : Place
script_place = record { standing = Whole; in_loop = false; may_return = false; defined_at = None }

-- inside of a command
abbrev pub within : Place → Place
within p = record p { standing = Within }

-- how a member of a list stands: those of the script's own list are its whole members
abbrev pub member_standing : Standing → Standing
member_standing Whole = Member
member_standing Member = Within
member_standing Within = Within

-- a member of a list
abbrev pub member : Place → Place
member p = record p { standing = member_standing p.standing }

-- in a loop; a condition of `while` and `until` is inside of it
abbrev pub looped : Place → Place
looped p = record p { standing = Within; in_loop = true }

-- in a subshell or a substitution: a loop outside is out of reach, and so is the function
abbrev pub apart : Place → Place
apart p = record p { standing = Within; in_loop = false; may_return = false }

-- in the body of the function whose definition stands at this offset
abbrev pub function_body : ℕ → Place
function_body at = record { standing = Within; in_loop = false; may_return = true; defined_at = Some at }

-- ---- what the rules ask

-- whether it is there
abbrev pub is_there : {A : Type 0} → Option A → Bool
is_there None = false
is_there (Some x) = true

-- whether there are any
abbrev pub are_any : {A : Type 0} → List A → Bool
are_any [] = false
are_any (x ∷ xs) = true

-- whether it is this name
abbrev pub is_name : Option Text → Text → Bool
is_name None name = false
is_name (Some one) name = bytes_eq one name

-- whether it is one of these names
abbrev pub is_named : Option Text → List Text → Bool
is_named None names = false
is_named (Some one) names = is_one_of one names

-- the static name of a command, where its first word is static
abbrev pub static_name : List (WordSays Forms) → Option Text
static_name [] = None
static_name (word ∷ words) = static word.parts

-- the words behind the first
abbrev pub operands : List (WordSays Forms) → List (WordSays Forms)
operands [] = []
operands (word ∷ words) = words

-- the one word `-e` or `+e`
abbrev pub is_one_flag : List (WordSays Forms) → Bool
is_one_flag [] = false
is_one_flag (word ∷ []) = is_named (static word.parts) (codes "-e" ∷ codes "+e" ∷ [])
is_one_flag (word ∷ other ∷ words) = false

-- one of the variables that are assigned is IFS
abbrev pub sets_ifs : List (AssignSays Forms) → Bool
sets_ifs assigns = list_any (λ assign. bytes_eq assign.name (codes "IFS")) assigns

-- a substitution stands in one of the values that are assigned
abbrev pub some_runs : List (AssignSays Forms) → Bool
some_runs assigns = list_any (λ assign. are_any (commands_of assign.value.parts)) assigns

-- one of the words has an expansion outside quotes
abbrev pub some_unquoted : List (WordSays Forms) → Bool
some_unquoted words = list_any (λ word. has_unquoted word.parts) words

-- one form, where the test holds
abbrev pub when : Bool → Form → ℕ → List Found
when true what at = (what, at) ∷ []
when false what at = []

-- the forms of commands that stand at one place, in order
abbrev pub all_of : List Forms → Forms
all_of commands p = flat_map (λ forms. forms p) commands

-- `"$@"` as the word of a `case`, or as one of its patterns
abbrev pub all_args : WordSays Forms → List Found
all_args word = when (is_all_alone word.parts) form.AllArgs word.at

-- the forms in the substitutions of a word
abbrev pub in_word : WordSays Forms → Forms
in_word word p = all_of (commands_of word.parts) (apart p)

-- the forms in the substitutions of words
abbrev pub in_words : List (WordSays Forms) → Forms
in_words words p = flat_map (λ word. in_word word p) words

-- the forms in the substitutions of the values that are assigned
abbrev pub in_assigns : List (AssignSays Forms) → Forms
in_assigns assigns p = flat_map (λ assign. in_word assign.value p) assigns

-- the forms of the word of a `case` or of a pattern: `"$@"`, and what stands in its substitutions
abbrev pub in_pattern : WordSays Forms → Forms
in_pattern word p = all_args word ++ in_word word p

-- the forms of what may be left out
abbrev pub if_there : Option Forms → Forms
if_there None p = []
if_there (Some forms) p = forms p

-- the forms in the words of `for`, if it has words
abbrev pub in_list : Option (List (WordSays Forms)) → Forms
in_list None p = []
in_list (Some words) p = in_words words p

-- the forms of patterns, in order
abbrev pub in_patterns : List (WordSays Forms) → Forms
in_patterns words p = flat_map (λ word. in_pattern word p) words

-- a condition of `if` and its body
abbrev pub in_arm : Forms × Forms → Forms
in_arm arm p = arm.0 p ++ arm.1 p

-- the patterns of an arm of `case`, and its body
abbrev pub in_case_arm : List (WordSays Forms) × Forms → Forms
in_case_arm arm p = in_patterns arm.0 p ++ arm.1 p

-- the conditions of `if` and their bodies, in order
abbrev pub in_arms : List (Forms × Forms) → Forms
in_arms arms p = flat_map (λ arm. in_arm arm p) arms

-- the arms of `case`, in order
abbrev pub in_case_arms : List (List (WordSays Forms) × Forms) → Forms
in_case_arms arms p = flat_map (λ arm. in_case_arm arm p) arms

-- whether a definition may stand there: it is the whole script, or a whole member of the script's list
abbrev pub may_define : Standing → Bool
may_define Whole = true
may_define Member = true
may_define Within = false

-- whether it stands before the offset
abbrev pub is_before : Option ℕ → ℕ → Bool
is_before None at = false
is_before (Some one) at = nat_lt one at

-- `first name` is the offset of the first definition of a function of this name in the script, wherever it stands.
module _ (first : Text → Option ℕ) where
  -- whether the script defines a function of this name
  abbrev pub is_function : Option Text → Bool
  is_function None = false
  is_function (Some name) = is_there (first name)

  -- whether a function of this name is defined before the offset
  abbrev pub is_earlier : Text → ℕ → Bool
  is_earlier name at = is_before (first name) at

  -- in the body of a function that is defined at the offset, a name of a function that is not defined before it: the
  -- function itself, or a later one
  abbrev pub calls_later : Option ℕ → Option Text → Bool
  calls_later (Some at) (Some name) = is_there (first name) && not (is_earlier name at)
  calls_later _ _ = false

  -- assignments before a name that is not static, is a function's or a special built-in's, or with a substitution in
  -- a value
  abbrev pub is_prefix : List (AssignSays Forms) → List (WordSays Forms) → Bool
  is_prefix assigns words =
      are_any assigns && (are_any words
      && (not (is_there (static_name words)) || (is_function (static_name words)
      || (is_named (static_name words) special_names || some_runs assigns))))

  -- The forms that a simple command itself is, all at the command's offset, in the order in which they are named.
  abbrev pub simple_forms : ℕ → List (AssignSays Forms) → List (WordSays Forms) → Forms
  simple_forms at assigns words p =
      -- `set` with other words than the one static `-e` or `+e`
      when (is_name (static_name words) (codes "set") && not (is_one_flag (operands words))) form.Option at
      -- an assignment of IFS
      ++ (when (sets_ifs assigns) form.Ifs at
      -- assignments before such a command
      ++ (when (is_prefix assigns words) form.Prefix at
      -- an operand of `export` with an unquoted expansion
      ++ (when (is_name (static_name words) (codes "export") && some_unquoted (operands words)) form.Export at
      -- `break` or `continue` with a further word, or outside a loop of its own function, subshell or substitution
      ++ (when (is_named (static_name words) (codes "break" ∷ codes "continue" ∷ [])
      && (are_any (operands words) || not p.in_loop)) form.LoopExit at
      -- `return` outside a function's body, or in a subshell or substitution of it
      ++ (when (is_name (static_name words) (codes "return") && not p.may_return) form.Return at
      -- in a function's body a call of itself or of a function that is defined later
      ++ when (calls_later p.defined_at (static_name words)) form.CallOrder at)))))

  -- the forms that a definition itself is: elsewhere than as a whole member of the script's list, not the first of
  -- its name, of a name that a utility or a special built-in has
  abbrev pub define_forms : ℕ → Text → Forms
  define_forms at name p =
      when (not (may_define p.standing)) form.FunctionPlace at
      ++ (when (is_earlier name at) form.FunctionTwice at
      ++ when (is_kept_name name) form.FunctionName at)

  -- The forms of a command, from those of its parts.
  abbrev pub command_layer :
      o.Command-F Forms (PartSays Forms) (AssignSays Forms) (List (WordSays Forms) × Forms) (Forms × Forms) Forms
      (WordSays Forms) → Forms
  command_layer (o.Simple at assigns words) p =
      simple_forms at assigns words p ++ (in_assigns assigns p ++ in_words words p)
  command_layer (o.Redirected at body redirects) p = body (within p)
  command_layer (o.Pipe at parts) p = all_of parts (within p)
  command_layer (o.Not at body) p = body (within p)
  command_layer (o.Chain head rest) p = head (within p) ++ all_of rest (within p)
  command_layer (o.Seq parts) p = all_of parts (member p)
  command_layer (o.If at arms otherwise) p = in_arms arms (within p) ++ if_there otherwise (within p)
  command_layer (o.For at name words body) p =
      when (bytes_eq name (codes "IFS")) form.Ifs at ++ (in_list words p ++ body (looped p))
  command_layer (o.While at until cond body) p = cond (looped p) ++ body (looped p)
  command_layer (o.Case at subject arms) p = in_pattern subject p ++ in_case_arms arms (within p)
  command_layer (o.Sub at body) p = body (apart p)
  command_layer (o.Define at name body) p = define_forms at name p ++ body (function_body at)

  -- what a part of a word says
  abbrev pub part_layer :
      o.Part-F Forms (PartSays Forms) (AssignSays Forms) (List (WordSays Forms) × Forms) (Forms × Forms) Forms
      (WordSays Forms) → PartSays Forms
  part_layer (o.Plain bytes) = record { bytes = Some bytes; unquoted = false; is_all = false; runs = None }
  part_layer (o.Quoted bytes) = record { bytes = Some bytes; unquoted = false; is_all = false; runs = None }
  part_layer (o.Param key default quoted) = record { bytes = None; unquoted = not quoted; is_all = false; runs = None }
  part_layer o.All = record { bytes = None; unquoted = false; is_all = true; runs = None }
  part_layer (o.Run at body quoted) = record { bytes = None; unquoted = not quoted; is_all = false; runs = Some body }

  -- what an assignment says
  abbrev pub assign_layer :
      o.Assign-F Forms (PartSays Forms) (AssignSays Forms) (List (WordSays Forms) × Forms) (Forms × Forms) Forms
      (WordSays Forms) → AssignSays Forms
  assign_layer a = record { name = a.name; value = a.value }

  -- the patterns of an arm of `case`, and the forms of its body
  abbrev pub case_arm_layer :
      o.CaseArm-F Forms (PartSays Forms) (AssignSays Forms) (List (WordSays Forms) × Forms) (Forms × Forms) Forms
      (WordSays Forms)
      → List (WordSays Forms) × Forms
  case_arm_layer arm = (arm.patterns, arm.body)

  -- the forms of a condition of `if`, and of its body
  abbrev pub if_arm_layer :
      o.IfArm-F Forms (PartSays Forms) (AssignSays Forms) (List (WordSays Forms) × Forms) (Forms × Forms) Forms
      (WordSays Forms) → Forms × Forms
  if_arm_layer arm = (arm.cond, arm.body)

  -- the forms of a command behind `&&` or `||`
  abbrev pub link_layer :
      o.Link-F Forms (PartSays Forms) (AssignSays Forms) (List (WordSays Forms) × Forms) (Forms × Forms) Forms
      (WordSays Forms) → Forms
  link_layer link = link.command

  -- what a word says
  abbrev pub word_layer :
      o.Word-F Forms (PartSays Forms) (AssignSays Forms) (List (WordSays Forms) × Forms) (Forms × Forms) Forms
      (WordSays Forms) → WordSays Forms
  word_layer word = record { at = word.at; parts = word.parts }

  -- the forms that stand in a command
  abbrev pub forms_of : Command → Forms
  forms_of =
      fold-Command Forms (PartSays Forms) (AssignSays Forms) (List (WordSays Forms) × Forms) (Forms × Forms) Forms
      (WordSays Forms)
      command_layer part_layer assign_layer case_arm_layer if_arm_layer link_layer word_layer

  -- what a part says
  abbrev pub part_says : Part → PartSays Forms
  part_says =
      fold-Part Forms (PartSays Forms) (AssignSays Forms) (List (WordSays Forms) × Forms) (Forms × Forms) Forms
      (WordSays Forms)
      command_layer part_layer assign_layer case_arm_layer if_arm_layer link_layer word_layer

  -- what an assignment says
  abbrev pub assign_says : Assign → AssignSays Forms
  assign_says =
      fold-Assign Forms (PartSays Forms) (AssignSays Forms) (List (WordSays Forms) × Forms) (Forms × Forms) Forms
      (WordSays Forms)
      command_layer part_layer assign_layer case_arm_layer if_arm_layer link_layer word_layer

  -- what an arm of `case` says
  abbrev pub case_arm_says : CaseArm → List (WordSays Forms) × Forms
  case_arm_says =
      fold-CaseArm Forms (PartSays Forms) (AssignSays Forms) (List (WordSays Forms) × Forms) (Forms × Forms) Forms
      (WordSays Forms)
      command_layer part_layer assign_layer case_arm_layer if_arm_layer link_layer word_layer

  -- what an arm of `if` says
  abbrev pub if_arm_says : IfArm → Forms × Forms
  if_arm_says =
      fold-IfArm Forms (PartSays Forms) (AssignSays Forms) (List (WordSays Forms) × Forms) (Forms × Forms) Forms
      (WordSays Forms)
      command_layer part_layer assign_layer case_arm_layer if_arm_layer link_layer word_layer

  -- what a command behind `&&` or `||` says
  abbrev pub link_says : Link → Forms
  link_says =
      fold-Link Forms (PartSays Forms) (AssignSays Forms) (List (WordSays Forms) × Forms) (Forms × Forms) Forms
      (WordSays Forms)
      command_layer part_layer assign_layer case_arm_layer if_arm_layer link_layer word_layer

  -- what a word says, in a script
  abbrev pub word_says : Word → WordSays Forms
  word_says =
      fold-Word Forms (PartSays Forms) (AssignSays Forms) (List (WordSays Forms) × Forms) (Forms × Forms) Forms
      (WordSays Forms)
      command_layer part_layer assign_layer case_arm_layer if_arm_layer link_layer word_layer
