-- Each act that a call comes to meets its conditions.
use Rattle.std.proofs.Common.{◌≡◌, ◌≢◌, ℕ, zero, suc, ◌-◌, Bool, true, false, not, ◌&&◌, ◌||◌, if◌then◌else◌, Option, Some, None, List, [], ◌∷◌, ◌++◌, length, take, All, refl, sym, ap, ◌∙◌}
use Rattle.std.specs.Prelude.{codes}
use Rattle.std.specs.Str.{bytes_eq}
use Rattle.std.proofs.lemmas.List.Elements.{All-nil, All-cons, All-append}
use Rattle.std.proofs.lemmas.Slice.Eq.{bytes_eq-Decides}
use Rattle.script_names.specs.declared.command_names.Utility.{Utility}
use Rattle.script_names.specs.declared.command_names.Utility.TheVariants as utility
use Rattle.script_names.specs.declared.path.PathFault.{PathFault}
use Rattle.script_names.specs.declared.reason.Reason.{Reason}
use Rattle.script_names.specs.declared.reason.Reason.TheVariants as reason
use Rattle.script_names.specs.CommandNames.{utility_named}
use Rattle.script_names.specs.Paths.{PathParts, is_filled, path_fault, spelled_names, path_of as spelled}
use Rattle.utility_calls.specs.declared.acts.Act.{Act}
use Rattle.utility_calls.specs.declared.acts.Act.TheVariants.{EnsureDir}
use Rattle.utility_calls.specs.declared.operands.Each.{Each}
use Rattle.utility_calls.specs.declared.operands.Each.TheVariants as each
use Rattle.utility_calls.specs.declared.planned.Planned.{Planned}
use Rattle.utility_calls.specs.declared.planned.Planned.TheVariants.{Known, Ask, Print, Change, Unspecified}
use Rattle.utility_calls.specs.declared.questions.Question.{Question}
use Rattle.utility_calls.specs.declared.questions.Question.TheVariants as question
use Rattle.utility_calls.specs.Acts.{IsPerformed}
use Rattle.utility_calls.specs.Options.{is_option, options, behind, is_ended, unended, has_option}
use Rattle.utility_calls.specs.Operands.{first_of, path_reason, operand_reason, slash_reason, file_reason, each_reason, first_reason, ensured, each_acts, all_acts}
use Rattle.utility_calls.specs.Pairs.{same_names, is_parent, still_reason, full_reason, end_reason, target_reason, place_reason, link_reason, ln_reason, ln_act, to_reason, mv_reason, mv_act}
use Rattle.utility_calls.specs.Pairs.{self_copy_reason, copy_to_reason, cp_reason, cp_act, unlink_reason, unlink_act}
use Rattle.utility_calls.specs.declared.modes.Setting.{Setting}
use Rattle.utility_calls.specs.declared.modes.Setting.TheVariants as setting
use Rattle.utility_calls.specs.Modes.{says}
use Rattle.script_names.specs.Ascii.{newline}
use Rattle.utility_calls.specs.Questions.{negated, question_of, asking, ask_path, ask, is_not, is_other_operator, test_two, test_three, test_four, test_call, bracket_call}
use Rattle.utility_calls.specs.Calls.{unless, some_reason, each_behind, act_call, mkdir_each, is_deep, echo_call, echo_text, begins_with_dash, has_backslash, utility_call, call}
use Rattle.utility_calls.specs.Calls.{each_call, install_behind, installed, setting_operands, setting_call, line_where}
use Rattle.utility_calls.specs.Calls.{basename_operands, dirname_operands, copies_deep}
use Rattle.utility_calls.specs.Performed.{HasPerformedActs}
use Rattle.std.specs.List.{list_any}

-- each act of the plan meets its condition; a record, of which the plan can be told
record IsPerformedPlan (p : Planned) : Type 0 where
  fact : HasPerformedActs p

either : {p q : Planned} (b : Bool) → IsPerformedPlan p → IsPerformedPlan q → IsPerformedPlan (if b then p else q)
either true hp hq = hp
either false hp hq = hq

unspecified : (why : Reason) → IsPerformedPlan (Unspecified why)
unspecified why = record { fact = tt }

known : (status : Bool) → IsPerformedPlan (Known status)
known status = record { fact = tt }

printing : (text : List ℕ) → IsPerformedPlan (Print text)
printing text = record { fact = tt }

-- ---- questions

negated_is_performed : (p : Planned) → IsPerformedPlan p → IsPerformedPlan (negated p)
negated_is_performed (Known status) h = record { fact = tt }
negated_is_performed (Ask act negate) h = record { fact = h.fact }
negated_is_performed (Print text) h = record { fact = tt }
negated_is_performed (Change acts) h = record { fact = h.fact }
negated_is_performed (Unspecified why) h = record { fact = tt }

asking_performed : (q : Question) (path : PathParts) → IsPerformed (asking q path)
asking_performed question.Exists path = ((λ e. absurd (cc)), tt)
asking_performed question.IsReg path = ((λ e. absurd (cc)), tt)
asking_performed question.IsDir path = ((λ e. absurd (cc)), tt)
asking_performed question.IsLink path = ((λ e. absurd (cc)), tt)
asking_performed question.CanRun path = ((λ e. absurd (cc)), tt)
asking_performed (question.IsSpecial kind) path = ((λ e. absurd (cc)), tt)

ask_path_is_performed : (q : Question) (fault : Option PathFault) (path : PathParts) → IsPerformedPlan (ask_path q fault path)
ask_path_is_performed q (Some fault) path = record { fact = tt }
ask_path_is_performed q None path = record { fact = asking_performed q path }

ask_is_performed : (q : Option Question) (word : List ℕ) → IsPerformedPlan (ask q word)
ask_is_performed None word = record { fact = tt }
ask_is_performed (Some q) word = either (is_filled word) (ask_path_is_performed q (path_fault word) (spelled word)) (known false)

two_is_performed : (a b : List ℕ) → IsPerformedPlan (test_two a b)
two_is_performed a b =
    either (is_not a) (known (not (is_filled b)))
    (either (bytes_eq a (codes "-n")) (known (is_filled b))
    (either (bytes_eq a (codes "-z")) (known (not (is_filled b))) (ask_is_performed (question_of a) b)))

three_is_performed : (a b c : List ℕ) → IsPerformedPlan (test_three a b c)
three_is_performed a b c =
    either (bytes_eq b (codes "=")) (known (bytes_eq a c))
    (either (bytes_eq b (codes "!=")) (known (not (bytes_eq a c)))
    (either (is_other_operator b) (unspecified reason.Call)
    (either (is_not a) (negated_is_performed (test_two b c) (two_is_performed b c)) (unspecified reason.Call))))

four_is_performed : (a b c d : List ℕ) → IsPerformedPlan (test_four a b c d)
four_is_performed a b c d = either (is_not a) (negated_is_performed (test_three b c d) (three_is_performed b c d)) (unspecified reason.Call)

test_is_performed : (words : List (List ℕ)) → IsPerformedPlan (test_call words)
test_is_performed [] = record { fact = tt }
test_is_performed (a ∷ []) = record { fact = tt }
test_is_performed (a ∷ b ∷ []) = two_is_performed a b
test_is_performed (a ∷ b ∷ c ∷ []) = three_is_performed a b c
test_is_performed (a ∷ b ∷ c ∷ d ∷ []) = four_is_performed a b c d
test_is_performed (a ∷ b ∷ c ∷ d ∷ e ∷ more) = record { fact = tt }

bracket_is_performed : (words : List (List ℕ)) → IsPerformedPlan (bracket_call words)
bracket_is_performed words = either _ (test_is_performed (take (length words - 1) words)) (unspecified reason.Call)

-- ---- operands

unless_is_performed : (why : Option Reason) (p : Planned) → (why ≡ None → IsPerformedPlan p) → IsPerformedPlan (unless why p)
unless_is_performed (Some why) p h = record { fact = tt }
unless_is_performed None p h = h refl

first_none : (a b : Option Reason) → first_of a b ≡ None → (a ≡ None) × (b ≡ None)
first_none (Some why) b e = absurd (cc)
first_none None b e = (refl, e)

has_names : (fault : Option PathFault) (names : List (List ℕ)) → path_reason fault names ≡ None → names ≢ []
has_names (Some fault) names e = absurd (cc)
has_names None [] e = absurd (cc)
has_names None (name ∷ names) e = λ q. absurd (cc)

by_test : (b : Bool) (fault : Option PathFault) (names : List (List ℕ)) → (if b then Some reason.Call else path_reason fault names) ≡ None → names ≢ []
by_test true fault names e = absurd (cc)
by_test false fault names e = has_names fault names e

operand_names : (ended : Bool) (word : List ℕ) → operand_reason ended word ≡ None → spelled_names word ≢ []
operand_names ended word e = by_test (not ended && is_option word) (path_fault word) (spelled_names word) e

file_names : (ended : Bool) (word : List ℕ) → file_reason ended word ≡ None → spelled_names word ≢ []
file_names ended word e = operand_names ended word (first_none (operand_reason ended word) (slash_reason (spelled word)) e).0

take_names : (names : List (List ℕ)) (n : ℕ) → names ≢ [] → take (suc n) names ≢ []
take_names [] n h = absurd (h refl)
take_names (name ∷ names) n h = λ e. absurd (cc)

alone : (act : Act) → IsPerformed act → All IsPerformed (act ∷ [])
alone act h = All-cons IsPerformed act [] h (All-nil IsPerformed)

ensured_performed : (names : List (List ℕ)) (n : ℕ) → names ≢ [] → All IsPerformed (ensured names n)
ensured_performed names zero h = All-nil IsPerformed
ensured_performed names (suc n) h =
    let t = take_names names n h in
    All-append IsPerformed (ensured names n) (EnsureDir (record { names = take (suc n) names; slash = false }) ∷ [])
    (ensured_performed names n h) (alone (EnsureDir (record { names = take (suc n) names; slash = false })) ((λ _. (t, t)), tt))

each_performed : (e : Each) (ended : Bool) (word : List ℕ) → each_reason e ended word ≡ None → All IsPerformed (each_acts e (spelled word))
each_performed each.MakeDir ended word n = let h = operand_names ended word n in alone _ ((λ _. (h, h)), tt)
each_performed each.EnsureDirs ended word n =
    let h = operand_names ended word n in
    let path = spelled word in
    All-append IsPerformed (ensured path.names (length path.names - 1)) (EnsureDir path ∷ [])
    (ensured_performed path.names (length path.names - 1) h) (alone (EnsureDir path) ((λ _. (h, h)), tt))
each_performed each.RemoveDir ended word n = let h = operand_names ended word n in alone _ ((λ _. (h, h)), tt)
each_performed (each.Remove force deep) ended word n = let h = operand_names ended word n in alone _ ((λ _. (h, h)), tt)
each_performed each.Touch ended word n = let h = file_names ended word n in alone _ ((λ _. (h, h)), tt)
each_performed each.Attr ended word n = let h = operand_names ended word n in alone _ ((λ _. (h, h)), tt)

all_performed : (e : Each) (ended : Bool) (words : List (List ℕ)) → first_reason e ended words ≡ None → All (λ acts. All IsPerformed acts) (all_acts e words)
all_performed e ended [] n = All-nil (λ acts. All IsPerformed acts)
all_performed e ended (word ∷ words) n =
    let h = first_none (each_reason e ended word) (first_reason e ended words) n in
    All-cons (λ acts. All IsPerformed acts) (each_acts e (spelled word)) (all_acts e words) (each_performed e ended word h.0) (all_performed e ended words h.1)

operands_are_performed : (e : Each) (ended : Bool) (words : List (List ℕ)) → IsPerformedPlan (each_call e ended words)
operands_are_performed e ended words =
    unless_is_performed _ (Change (all_acts e words)) (λ n.
    record { fact = all_performed e ended words (first_none (some_reason words) (first_reason e ended words) n).1 })

each_is_performed : (e : Each) (words : List (List ℕ)) → IsPerformedPlan (each_behind e words)
each_is_performed e words = operands_are_performed e (is_ended words) (unended words)

act_is_performed : (why : Option Reason) (act : Act) → (why ≡ None → IsPerformed act) → IsPerformedPlan (act_call why act)
act_is_performed why act h =
    unless_is_performed why (Change ((act ∷ []) ∷ [])) (λ n.
    record { fact = All-cons (λ acts. All IsPerformed acts) (act ∷ []) [] (alone act (h n)) (All-nil (λ acts. All IsPerformed acts)) })

-- ---- `ln` and `mv`

ln_performed : (symbolic force ended : Bool) (words : List (List ℕ)) → ln_reason symbolic force ended words ≡ None → IsPerformed (ln_act force words)
ln_performed symbolic force ended [] n = absurd (cc)
ln_performed symbolic force ended (target ∷ []) n =
    let e : Some reason.Call ≡ None = (first_none (target_reason symbolic target) (Some reason.Call) n).1 in absurd (cc)
ln_performed symbolic force ended (target ∷ word ∷ more) n =
    let link = (first_none (target_reason symbolic target) (link_reason force ended target word more) n).1 in
    let h = operand_names ended word (first_none (operand_reason ended word) (first_of (place_reason force target (spelled word)) (end_reason more)) link).0 in
    ((λ _. (h, h)), tt)

names_same : (names : List (List ℕ)) → same_names names names ≡ true
names_same [] = refl
names_same (name ∷ names) = ap (λ b. b && same_names names names) ((bytes_eq-Decides name name).1 refl) ∙ names_same names

still_other : (a b : List (List ℕ)) → still_reason a b ≡ None → a ≢ b
still_other a b n e =
    let same : same_names a b ≡ true = ap (λ x. same_names a x) (sym e) ∙ names_same a in
    none (same_names a b) (is_parent b a) same n
  where
    none : (x y : Bool) → x ≡ true → (if x || y then Some reason.Same else None) ≡ None → ⊥
    none true y t n = absurd (cc)
    none false y t n = absurd (cc)

mv_performed : (ended : Bool) (words : List (List ℕ)) → mv_reason ended words ≡ None → IsPerformed (mv_act words)
mv_performed ended [] n = absurd (cc)
mv_performed ended (a ∷ []) n =
    let e : Some reason.Call ≡ None = (first_none (file_reason ended a) (Some reason.Call) n).1 in absurd (cc)
mv_performed ended (a ∷ b ∷ more) n =
    let first = first_none (file_reason ended a) (to_reason ended (spelled a) b more) n in
    let still = first_of (still_reason (spelled_names a) (spelled_names b)) (first_of (full_reason (spelled b)) (end_reason more)) in
    let second = first_none (file_reason ended b) still first.1 in
    let third = first_none (still_reason (spelled_names a) (spelled_names b)) (first_of (full_reason (spelled b)) (end_reason more)) second.1 in
    let ha = file_names ended a first.0 in
    let hb = file_names ended b second.0 in
    ((λ _. (ha, hb)), still_other (spelled_names a) (spelled_names b) third.0)

-- ---- `cp` and `unlink`

cp_performed : (deep ended : Bool) (words : List (List ℕ)) → cp_reason deep ended words ≡ None → IsPerformed (cp_act deep words)
cp_performed deep ended [] n = absurd (cc)
cp_performed deep ended (a ∷ []) n =
    let e : Some reason.Call ≡ None = (first_none (file_reason ended a) (Some reason.Call) n).1 in absurd (cc)
cp_performed deep ended (a ∷ b ∷ more) n =
    let first = first_none (file_reason ended a) (copy_to_reason deep ended (spelled a) b more) n in
    let still = first_of (self_copy_reason deep (spelled_names a) (spelled_names b)) (first_of (full_reason (spelled b)) (end_reason more)) in
    let second = first_none (file_reason ended b) still first.1 in
    let ha = file_names ended a first.0 in
    let hb = file_names ended b second.0 in
    ((λ _. (ha, hb)), tt)

unlink_performed : (ended : Bool) (words : List (List ℕ)) → unlink_reason ended words ≡ None → IsPerformed (unlink_act words)
unlink_performed ended [] n = absurd (cc)
unlink_performed ended (word ∷ more) n =
    let h = operand_names ended word (first_none (operand_reason ended word) (end_reason more) n).0 in
    ((λ _. (h, h)), tt)

-- ---- `install -d`, and what sets modes, owners and groups

installed_is_performed : (o : Option (List (List ℕ))) → IsPerformedPlan (installed o)
installed_is_performed None = unspecified reason.Call
installed_is_performed (Some words) = each_is_performed each.EnsureDirs words

set_is_performed : (set : Setting) (ended : Bool) (words : List (List ℕ)) → IsPerformedPlan (setting_operands set ended words)
set_is_performed set ended [] = unspecified reason.Call
set_is_performed set ended (word ∷ words) =
    either (says set word) (operands_are_performed each.Attr ended words) (unspecified reason.Call)

setting_is_performed : (set : Setting) (words : List (List ℕ)) → IsPerformedPlan (setting_call set words)
setting_is_performed set words =
    either _ (set_is_performed set (is_ended (behind words)) (unended (behind words))) (unspecified reason.Call)

-- ---- `basename` and `dirname`

line_is_performed : (specified : Bool) (line : List ℕ) → IsPerformedPlan (line_where specified line)
line_is_performed specified line = either specified (printing (line ++ newline ∷ [])) (unspecified reason.Call)

base_is_performed : (ended : Bool) (words : List (List ℕ)) → IsPerformedPlan (basename_operands ended words)
base_is_performed ended [] = unspecified reason.Call
base_is_performed ended (word ∷ []) = line_is_performed _ _
base_is_performed ended (word ∷ suffix ∷ []) = line_is_performed _ _
base_is_performed ended (word ∷ suffix ∷ more ∷ others) = unspecified reason.Call

dir_is_performed : (ended : Bool) (words : List (List ℕ)) → IsPerformedPlan (dirname_operands ended words)
dir_is_performed ended [] = unspecified reason.Call
dir_is_performed ended (word ∷ []) = line_is_performed _ _
dir_is_performed ended (word ∷ more ∷ others) = unspecified reason.Call

-- ---- all calls

echo_is_performed : (words : List (List ℕ)) → IsPerformedPlan (echo_call words)
echo_is_performed words =
    either (begins_with_dash words || list_any has_backslash words) (unspecified reason.Echo) (printing (echo_text words))

utility_is_performed : (u : Option Utility) (words : List (List ℕ)) → IsPerformedPlan (utility_call u words)
utility_is_performed None words = unspecified reason.Call
utility_is_performed (Some utility.True) words = known true
utility_is_performed (Some utility.False) words = known false
utility_is_performed (Some utility.Echo) words = echo_is_performed words
utility_is_performed (Some utility.MakeDir) words = either _ (each_is_performed (mkdir_each (has_option 112 words)) (behind words)) (unspecified reason.Call)
utility_is_performed (Some utility.RemoveDir) words = either _ (each_is_performed each.RemoveDir (behind words)) (unspecified reason.Call)
utility_is_performed (Some utility.Remove) words = either _ (each_is_performed (each.Remove (has_option 102 words) (is_deep (options words))) (behind words)) (unspecified reason.Call)
utility_is_performed (Some utility.Touch) words = either _ (each_is_performed each.Touch (behind words)) (unspecified reason.Call)
utility_is_performed (Some utility.Link) words =
    let operands = unended (behind words) in
    either _ (act_is_performed _ (ln_act (has_option 102 words) operands) (ln_performed (has_option 115 words) (has_option 102 words) (is_ended (behind words)) operands)) (unspecified reason.Call)
utility_is_performed (Some utility.Move) words =
    let operands = unended (behind words) in
    either _ (act_is_performed _ (mv_act operands) (mv_performed (is_ended (behind words)) operands)) (unspecified reason.Call)
utility_is_performed (Some utility.Test) words = test_is_performed words
utility_is_performed (Some utility.Bracket) words = bracket_is_performed words
utility_is_performed (Some utility.Unlink) words =
    let operands = unended (behind words) in
    either _ (act_is_performed _ (unlink_act operands) (unlink_performed (is_ended (behind words)) operands)) (unspecified reason.Call)
utility_is_performed (Some utility.Install) words = installed_is_performed (install_behind false false words)
utility_is_performed (Some utility.ChangeMode) words = setting_is_performed setting.Mode words
utility_is_performed (Some utility.ChangeOwner) words = setting_is_performed setting.Owner words
utility_is_performed (Some utility.ChangeGroup) words = setting_is_performed setting.Group words
utility_is_performed (Some utility.Copy) words =
    let operands = unended (behind words) in
    let deep = copies_deep (options words) in
    either _ (act_is_performed _ (cp_act deep operands) (cp_performed deep (is_ended (behind words)) operands)) (unspecified reason.Call)
utility_is_performed (Some utility.BaseName) words =
    either _ (base_is_performed (is_ended (behind words)) (unended (behind words))) (unspecified reason.Call)
utility_is_performed (Some utility.DirName) words =
    either _ (dir_is_performed (is_ended (behind words)) (unended (behind words))) (unspecified reason.Call)

pub performed : (words : List (List ℕ)) → HasPerformedActs (call words)
performed [] = tt
performed (name ∷ words) = (utility_is_performed (utility_named name) words).fact
