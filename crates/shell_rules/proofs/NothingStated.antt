-- Where nothing is stated a command comes to what its fields come to.
use Rattle.std.proofs.Common.{◌≡◌, ℕ, ◌-◌, Bool, true, false, not, ◌||◌, IsTrue, List, [], ◌∷◌, ◌++◌, Option, Some, None}
use Rattle.std.proofs.Common.{length, take, refl, sym, ap, ◌∙◌, if◌then◌else◌}
use Rattle.std.specs.Prelude.{codes}
use Rattle.std.specs.List.{list_any}
use Rattle.std.specs.Str.{bytes_eq}
use Rattle.script_names.specs.declared.command_names.Utility.{Utility}
use Rattle.script_names.specs.declared.command_names.Utility.TheVariants as utility
use Rattle.script_names.specs.declared.path.PathFault.{PathFault}
use Rattle.script_names.specs.declared.reason.Reason.{Reason}
use Rattle.script_names.specs.declared.reason.Reason.TheVariants as reason
use Rattle.script_names.specs.CommandNames.{utility_named}
use Rattle.script_names.specs.Paths.{PathParts, is_filled, path_fault, path_of as spelled_path}
use Rattle.utility_calls.specs.declared.acts.Act.{Act}
use Rattle.utility_calls.specs.declared.operands.Each.{Each}
use Rattle.utility_calls.specs.declared.operands.Each.TheVariants as each
use Rattle.utility_calls.specs.declared.planned.Planned.{Planned}
use Rattle.utility_calls.specs.declared.planned.Planned.TheVariants.{Known, Ask, Print, Change, Unspecified}
use Rattle.utility_calls.specs.declared.questions.Question.{Question}
use Rattle.utility_calls.specs.declared.questions.Question.TheVariants as question
use Rattle.utility_calls.specs.declared.stated_call.CallEnd.{CallEnd}
use Rattle.utility_calls.specs.Options.{options, behind, is_ended, unended, has_option}
use Rattle.utility_calls.specs.Questions.{negated, question_of, ask_path, ask, is_not, is_other_operator}
use Rattle.utility_calls.specs.Questions.{test_two, test_three, test_four, test_call, bracket_call}
use Rattle.utility_calls.specs.Calls.{unless, each_behind, act_call, mkdir_each, is_deep, echo_call, echo_text}
use Rattle.utility_calls.specs.Calls.{begins_with_dash, has_backslash, utility_call, call}
use Rattle.utility_calls.specs.declared.modes.Setting.{Setting}
use Rattle.utility_calls.specs.declared.modes.Setting.TheVariants as setting
use Rattle.utility_calls.specs.Modes.{says}
use Rattle.utility_calls.specs.Calls.{each_call, install_behind, installed, setting_operands, setting_call, line_where}
use Rattle.utility_calls.specs.Calls.{basename_operands, dirname_operands}
use Rattle.script_names.specs.Ascii.{newline}
use Rattle.shell_rules.specs.declared.spelled.Spelled.{Spelled}
use Rattle.shell_rules.specs.State.{Text}
use Rattle.shell_rules.specs.Planned.{runs_in, by_end, stated_end, outright, is_functions}
use Rattle.shell_rules.specs.Planned.{no_premises, planned, speaks_of}

-- it asks whether something runs only where regular files stop; a record, of which the plan can be told
record IsPlain (x : Planned) : Type 0 where
  same : runs_in false x ≡ x

either : {x y : Planned} (b : Bool) → IsPlain x → IsPlain y → IsPlain (if b then x else y)
either true h k = h
either false h k = k

unspecified : (why : Reason) → IsPlain (Unspecified why)
unspecified why = record { same = refl }

known : (status : Bool) → IsPlain (Known status)
known status = record { same = refl }

written : (text : Text) → IsPlain (Print text)
written text = record { same = refl }

-- ---- questions

negated_plain : (x : Planned) → IsPlain x → IsPlain (negated x)
negated_plain (Known status) h = record { same = refl }
negated_plain (Ask act negate) h = record { same = ap negated h.same }
negated_plain (Print text) h = record { same = refl }
negated_plain (Change acts) h = record { same = refl }
negated_plain (Unspecified why) h = record { same = refl }

ask_path_plain : (q : Question) (fault : Option PathFault) (path : PathParts) → IsPlain (ask_path q fault path)
ask_path_plain q (Some fault) path = record { same = refl }
ask_path_plain question.Exists None path = record { same = refl }
ask_path_plain question.IsReg None path = record { same = refl }
ask_path_plain question.IsDir None path = record { same = refl }
ask_path_plain question.IsLink None path = record { same = refl }
ask_path_plain question.CanRun None path = record { same = refl }
ask_path_plain (question.IsSpecial kind) None path = record { same = refl }

ask_plain : (q : Option Question) (word : Text) → IsPlain (ask q word)
ask_plain None word = record { same = refl }
ask_plain (Some q) word =
    either (is_filled word) (ask_path_plain q (path_fault word) (spelled_path word)) (known false)

two_plain : (a b : Text) → IsPlain (test_two a b)
two_plain a b =
    either (is_not a) (known (not (is_filled b)))
    (either (bytes_eq a (codes "-n")) (known (is_filled b))
    (either (bytes_eq a (codes "-z")) (known (not (is_filled b))) (ask_plain (question_of a) b)))

three_plain : (a b c : Text) → IsPlain (test_three a b c)
three_plain a b c =
    either (bytes_eq b (codes "=")) (known (bytes_eq a c))
    (either (bytes_eq b (codes "!=")) (known (not (bytes_eq a c)))
    (either (is_other_operator b) (unspecified reason.Call)
    (either (is_not a) (negated_plain (test_two b c) (two_plain b c)) (unspecified reason.Call))))

four_plain : (a b c d : Text) → IsPlain (test_four a b c d)
four_plain a b c d =
    either (is_not a) (negated_plain (test_three b c d) (three_plain b c d)) (unspecified reason.Call)

test_plain : (words : List Text) → IsPlain (test_call words)
test_plain [] = record { same = refl }
test_plain (a ∷ []) = record { same = refl }
test_plain (a ∷ b ∷ []) = two_plain a b
test_plain (a ∷ b ∷ c ∷ []) = three_plain a b c
test_plain (a ∷ b ∷ c ∷ d ∷ []) = four_plain a b c d
test_plain (a ∷ b ∷ c ∷ d ∷ e ∷ more) = record { same = refl }

-- ---- all utilities

unless_plain : (why : Option Reason) (lists : List (List Act)) → IsPlain (unless why (Change lists))
unless_plain (Some why) lists = record { same = refl }
unless_plain None lists = record { same = refl }

operands_plain : (e : Each) (ended : Bool) (words : List Text) → IsPlain (each_call e ended words)
operands_plain e ended words = unless_plain _ _

each_plain : (e : Each) (words : List Text) → IsPlain (each_behind e words)
each_plain e words = operands_plain e (is_ended words) (unended words)

act_plain : (why : Option Reason) (act : Act) → IsPlain (act_call why act)
act_plain why act = unless_plain why ((act ∷ []) ∷ [])

echo_plain : (words : List Text) → IsPlain (echo_call words)
echo_plain words =
    either (begins_with_dash words || list_any has_backslash words) (unspecified reason.Echo) (written (echo_text words))

installed_plain : (o : Option (List Text)) → IsPlain (installed o)
installed_plain None = unspecified reason.Call
installed_plain (Some words) = each_plain each.EnsureDirs words

set_plain : (set : Setting) (ended : Bool) (words : List Text) → IsPlain (setting_operands set ended words)
set_plain set ended [] = unspecified reason.Call
set_plain set ended (word ∷ words) =
    either (says set word) (operands_plain each.Attr ended words) (unspecified reason.Call)

setting_plain : (set : Setting) (words : List Text) → IsPlain (setting_call set words)
setting_plain set words =
    either _ (set_plain set (is_ended (behind words)) (unended (behind words))) (unspecified reason.Call)

line_plain : (specified : Bool) (line : Text) → IsPlain (line_where specified line)
line_plain specified line = either specified (written (line ++ newline ∷ [])) (unspecified reason.Call)

base_plain : (ended : Bool) (words : List Text) → IsPlain (basename_operands ended words)
base_plain ended [] = unspecified reason.Call
base_plain ended (word ∷ []) = line_plain _ _
base_plain ended (word ∷ suffix ∷ []) = line_plain _ _
base_plain ended (word ∷ suffix ∷ more ∷ others) = unspecified reason.Call

dir_plain : (ended : Bool) (words : List Text) → IsPlain (dirname_operands ended words)
dir_plain ended [] = unspecified reason.Call
dir_plain ended (word ∷ []) = line_plain _ _
dir_plain ended (word ∷ more ∷ others) = unspecified reason.Call

utility_plain : (u : Option Utility) (words : List Text) → IsPlain (utility_call u words)
utility_plain None words = unspecified reason.Call
utility_plain (Some utility.True) words = known true
utility_plain (Some utility.False) words = known false
utility_plain (Some utility.Echo) words = echo_plain words
utility_plain (Some utility.MakeDir) words =
    either _ (each_plain (mkdir_each (has_option 112 words)) (behind words)) (unspecified reason.Call)
utility_plain (Some utility.RemoveDir) words =
    either _ (each_plain each.RemoveDir (behind words)) (unspecified reason.Call)
utility_plain (Some utility.Remove) words =
    either _ (each_plain (each.Remove (has_option 102 words) (is_deep (options words))) (behind words))
    (unspecified reason.Call)
utility_plain (Some utility.Touch) words = either _ (each_plain each.Touch (behind words)) (unspecified reason.Call)
utility_plain (Some utility.Link) words = either _ (act_plain _ _) (unspecified reason.Call)
utility_plain (Some utility.Move) words = either _ (act_plain _ _) (unspecified reason.Call)
utility_plain (Some utility.Test) words = test_plain words
utility_plain (Some utility.Bracket) words =
    either _ (test_plain (take (length words - 1) words)) (unspecified reason.Call)
utility_plain (Some utility.Unlink) words = either _ (act_plain _ _) (unspecified reason.Call)
utility_plain (Some utility.Install) words = installed_plain (install_behind false false words)
utility_plain (Some utility.ChangeMode) words = setting_plain setting.Mode words
utility_plain (Some utility.ChangeOwner) words = setting_plain setting.Owner words
utility_plain (Some utility.ChangeGroup) words = setting_plain setting.Group words
utility_plain (Some utility.Copy) words = either _ (act_plain _ _) (unspecified reason.Call)
utility_plain (Some utility.BaseName) words =
    either _ (base_plain (is_ended (behind words)) (unended (behind words))) (unspecified reason.Call)
utility_plain (Some utility.DirName) words =
    either _ (dir_plain (is_ended (behind words)) (unended (behind words))) (unspecified reason.Call)

call_plain : (fields : List Text) → runs_in false (call fields) ≡ call fields
call_plain [] = refl
call_plain (name ∷ words) = (utility_plain (utility_named name) words).same

-- ---- what a command comes to

none_of : (b : Bool) → ◌≡◌ {A = Option CallEnd} (if b then None else None) None
none_of true = refl
none_of false = refl

no_end : (spelled : Spelled) (fields : List Text) → stated_end [] spelled fields ≡ None
no_end spelled [] = refl
no_end spelled (name ∷ operands) = none_of _

outright_is : (function : Bool) (spelled : Spelled) (fields : List Text)
    → outright function no_premises spelled fields ≡ call fields
outright_is function spelled fields = ap (λ end. by_end end (call fields)) (no_end spelled fields)

chosen : (function name : Bool) (x y : Planned) → y ≡ x → IsTrue (name || not function)
    → (if name then y else (if function then Unspecified reason.Call else x)) ≡ x
chosen function true x y e h = e
chosen true false x y e h = absurd (cc h)
chosen false false x y e h = refl

pub none_planned : (functions : List Text) (spelled : Spelled) (fields : List Text)
    → IsTrue (spelled.name || not (is_functions functions fields))
    → planned no_premises functions spelled fields ≡ call fields
none_planned functions spelled fields h =
    ap (runs_in false)
    (chosen (is_functions functions fields) spelled.name (call fields)
    (outright (is_functions functions fields) no_premises spelled fields)
    (outright_is (is_functions functions fields) spelled fields) h)
    ∙ call_plain fields
