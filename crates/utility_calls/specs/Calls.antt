-- What a call of a utility comes to, by its words alone (POSIX.1-2017, XCU).
use Rattle.std.specs.Prelude.{ℕ, Bool, true, false, not, ◌||◌, ◌&&◌, ◌==◌, List, [], ◌∷◌, ◌++◌, Option, Some, None}
use Rattle.std.specs.Prelude.{if◌then◌else◌, codes}
use Rattle.std.specs.List.{list_any}
use Rattle.std.specs.Str.{bytes_eq}
use Rattle.script_names.specs.declared.command_names.Utility.{Utility}
use Rattle.script_names.specs.declared.command_names.Utility.TheVariants as utility
use Rattle.script_names.specs.declared.reason.Reason.{Reason}
use Rattle.script_names.specs.declared.reason.Reason.TheVariants as reason
use Rattle.script_names.specs.Ascii.{newline, space, hyphen, backslash}
use Rattle.script_names.specs.CommandNames.{utility_named}
use Rattle.utility_calls.specs.declared.acts.Act.{Act}
use Rattle.utility_calls.specs.declared.planned.Planned.{Planned}
use Rattle.utility_calls.specs.declared.planned.Planned.TheVariants.{Known, Print, Change, Unspecified}
use Rattle.utility_calls.specs.declared.operands.Each.{Each}
use Rattle.utility_calls.specs.declared.operands.Each.TheVariants as each
use Rattle.utility_calls.specs.declared.modes.Setting.{Setting}
use Rattle.utility_calls.specs.declared.modes.Setting.TheVariants as setting
use Rattle.utility_calls.specs.Options.{options, behind, is_ended, unended, options_fit, option_with, has_option}
use Rattle.utility_calls.specs.Options.{is_end, is_option}
use Rattle.utility_calls.specs.Operands.{first_of, first_reason, all_acts}
use Rattle.utility_calls.specs.Pairs.{ln_reason, ln_act, mv_reason, mv_act, cp_reason, cp_act}
use Rattle.utility_calls.specs.Pairs.{unlink_reason, unlink_act}
use Rattle.utility_calls.specs.Modes.{is_octal_mode, says}
use Rattle.utility_calls.specs.PathStrings.{is_operand, is_path_string, base_name, dir_name, without_suffix}
use Rattle.utility_calls.specs.Questions.{test_call, bracket_call}

-- the plan where there is no reason against it
abbrev pub unless : Option Reason → Planned → Planned
unless (Some why) planned = Unspecified why
unless None planned = planned

-- the bytes of the words of `echo` from the second on, each behind a space, and a newline
abbrev pub echo_rest : List (List ℕ) → List ℕ
echo_rest [] = newline ∷ []
echo_rest (word ∷ words) = space ∷ (word ++ echo_rest words)

-- what `echo` writes: the words joined by spaces, and a newline
abbrev pub echo_text : List (List ℕ) → List ℕ
echo_text [] = newline ∷ []
echo_text (word ∷ words) = word ++ echo_rest words

-- whether the first word begins with `-`
abbrev pub begins_with_dash : List (List ℕ) → Bool
begins_with_dash [] = false
begins_with_dash ([] ∷ words) = false
begins_with_dash ((b ∷ bs) ∷ words) = b == hyphen

-- whether a word has a `\`
abbrev pub has_backslash : List ℕ → Bool
has_backslash word = list_any (λ b. b == backslash) word

-- `echo`, which has no specified meaning where the first word looks like an option, or some word has a `\`
abbrev pub echo_call : List (List ℕ) → Planned
echo_call words =
    if begins_with_dash words || list_any has_backslash words then Unspecified reason.Echo
    else Print (echo_text words)

-- the reason where there are no operands
abbrev pub some_reason : List (List ℕ) → Option Reason
some_reason [] = Some reason.Call
some_reason (word ∷ words) = None

-- a utility that goes through its operands
abbrev pub each_call : Each → Bool → List (List ℕ) → Planned
each_call e ended words =
    unless (first_of (some_reason words) (first_reason e ended words)) (Change (all_acts e words))

-- a utility with one act
abbrev pub act_call : Option Reason → Act → Planned
act_call why act = unless why (Change ((act ∷ []) ∷ []))

-- the plan where each option is one of these
abbrev pub with_options : Bool → List ℕ → List (List ℕ) → Planned → Planned
with_options joined letters words planned =
    if options_fit joined letters words then planned else Unspecified reason.Call

-- `mkdir`, with or without `-p`
abbrev pub mkdir_each : Bool → Each
mkdir_each false = each.MakeDir
mkdir_each true = each.EnsureDirs

-- the words behind the options of a utility that goes through its operands
abbrev pub each_behind : Each → List (List ℕ) → Planned
each_behind e words = each_call e (is_ended words) (unended words)

-- the words of `mkdir`; 112 is `p`
abbrev pub mkdir_call : List (List ℕ) → Planned
mkdir_call words =
    with_options false (codes "p") words (each_behind (mkdir_each (has_option 112 words)) (behind words))

-- the words of `rmdir`
abbrev pub rmdir_call : List (List ℕ) → Planned
rmdir_call words = with_options false [] words (each_behind each.RemoveDir (behind words))

-- whether one of these options is `-r` or `-R`; 114 and 82 are `r` and `R`
abbrev pub is_deep : List (List ℕ) → Bool
is_deep given = option_with 114 given || option_with 82 given

-- the words of `rm`; 102 is `f`
abbrev pub rm_call : List (List ℕ) → Planned
rm_call words =
    with_options true (codes "frR") words
    (each_behind (each.Remove (has_option 102 words) (is_deep (options words))) (behind words))

-- the words of `touch`
abbrev pub touch_call : List (List ℕ) → Planned
touch_call words = with_options false [] words (each_behind each.Touch (behind words))

-- the operands of `ln`
abbrev pub ln_behind : Bool → Bool → List (List ℕ) → Planned
ln_behind symbolic force words =
    act_call (ln_reason symbolic force (is_ended words) (unended words)) (ln_act force (unended words))

-- the words of `ln`; 115 and 102 are `s` and `f`
abbrev pub ln_call : List (List ℕ) → Planned
ln_call words =
    with_options true (codes "sf") words (ln_behind (has_option 115 words) (has_option 102 words) (behind words))

-- the operands of `mv`
abbrev pub mv_behind : List (List ℕ) → Planned
mv_behind words = act_call (mv_reason (is_ended words) (unended words)) (mv_act (unended words))

-- the words of `mv`
abbrev pub mv_call : List (List ℕ) → Planned
mv_call words = with_options false (codes "f") words (mv_behind (behind words))

-- the operands of `cp`
abbrev pub cp_behind : Bool → List (List ℕ) → Planned
cp_behind deep words = act_call (cp_reason deep (is_ended words) (unended words)) (cp_act deep (unended words))

-- whether one of these options is `-r`, `-R` or `-a`; 97 is `a`
abbrev pub copies_deep : List (List ℕ) → Bool
copies_deep given = is_deep given || option_with 97 given

-- the words of `cp`
abbrev pub cp_call : List (List ℕ) → Planned
cp_call words = with_options true (codes "fprRa") words (cp_behind (copies_deep (options words)) (behind words))

-- the operand of `unlink`
abbrev pub unlink_behind : List (List ℕ) → Planned
unlink_behind words = act_call (unlink_reason (is_ended words) (unended words)) (unlink_act (unended words))

-- the words of `unlink`
abbrev pub unlink_call : List (List ℕ) → Planned
unlink_call words = with_options false [] words (unlink_behind (behind words))

-- What stands behind the options of `install`, by whether `-d` came before these words, and whether their first is to
-- be a mode, as behind `-m`. None: another option or no mode, or `-d` is not among them.
abbrev pub install_behind : Bool → Bool → List (List ℕ) → Option (List (List ℕ))
install_behind made moded [] = if made && not moded then Some [] else None
install_behind made true (word ∷ words) = if is_octal_mode word then install_behind made false words else None
install_behind made false (word ∷ words) =
    if bytes_eq word (codes "-d") then install_behind true false words
    else (if bytes_eq word (codes "-m") then install_behind made true words
    else (if made && (is_end word || not (is_option word)) then Some (word ∷ words)
    else None))

-- the directories that `install -d` makes, as `mkdir -p` does
abbrev pub installed : Option (List (List ℕ)) → Planned
installed None = Unspecified reason.Call
installed (Some words) = each_behind each.EnsureDirs words

-- the words of `install`
abbrev pub install_call : List (List ℕ) → Planned
install_call words = installed (install_behind false false words)

-- the operands of a utility that sets a mode, an owner or a group: a word that says which, and paths
abbrev pub setting_operands : Setting → Bool → List (List ℕ) → Planned
setting_operands set ended [] = Unspecified reason.Call
setting_operands set ended (word ∷ words) =
    if says set word then each_call each.Attr ended words else Unspecified reason.Call

-- the words behind the options of such a utility
abbrev pub setting_behind : Setting → List (List ℕ) → Planned
setting_behind set words = setting_operands set (is_ended words) (unended words)

-- the words of such a utility, which has no options here
abbrev pub setting_call : Setting → List (List ℕ) → Planned
setting_call set words = with_options false [] words (setting_behind set (behind words))

-- a line that is written, where it has a specified meaning
abbrev pub line_where : Bool → List ℕ → Planned
line_where specified line = if specified then Print (line ++ newline ∷ []) else Unspecified reason.Call

-- the operands of `basename`: a string, and perhaps a suffix
abbrev pub basename_operands : Bool → List (List ℕ) → Planned
basename_operands ended [] = Unspecified reason.Call
basename_operands ended (word ∷ []) = line_where (is_path_string ended word) (base_name word)
basename_operands ended (word ∷ suffix ∷ []) =
    line_where (is_path_string ended word && is_operand ended suffix) (without_suffix suffix (base_name word))
basename_operands ended (word ∷ suffix ∷ more ∷ others) = Unspecified reason.Call

-- the words behind the options of `basename`
abbrev pub basename_behind : List (List ℕ) → Planned
basename_behind words = basename_operands (is_ended words) (unended words)

-- the words of `basename`
abbrev pub basename_call : List (List ℕ) → Planned
basename_call words = with_options false [] words (basename_behind (behind words))

-- the operand of `dirname`: a string
abbrev pub dirname_operands : Bool → List (List ℕ) → Planned
dirname_operands ended [] = Unspecified reason.Call
dirname_operands ended (word ∷ []) = line_where (is_path_string ended word) (dir_name word)
dirname_operands ended (word ∷ more ∷ others) = Unspecified reason.Call

-- the words behind the options of `dirname`
abbrev pub dirname_behind : List (List ℕ) → Planned
dirname_behind words = dirname_operands (is_ended words) (unended words)

-- the words of `dirname`
abbrev pub dirname_call : List (List ℕ) → Planned
dirname_call words = with_options false [] words (dirname_behind (behind words))

-- the words of a utility
abbrev pub utility_call : Option Utility → List (List ℕ) → Planned
utility_call None words = Unspecified reason.Call
utility_call (Some utility.True) words = Known true
utility_call (Some utility.False) words = Known false
utility_call (Some utility.Echo) words = echo_call words
utility_call (Some utility.MakeDir) words = mkdir_call words
utility_call (Some utility.RemoveDir) words = rmdir_call words
utility_call (Some utility.Remove) words = rm_call words
utility_call (Some utility.Touch) words = touch_call words
utility_call (Some utility.Link) words = ln_call words
utility_call (Some utility.Move) words = mv_call words
utility_call (Some utility.Test) words = test_call words
utility_call (Some utility.Bracket) words = bracket_call words
utility_call (Some utility.Unlink) words = unlink_call words
utility_call (Some utility.Install) words = install_call words
utility_call (Some utility.ChangeMode) words = setting_call setting.Mode words
utility_call (Some utility.ChangeOwner) words = setting_call setting.Owner words
utility_call (Some utility.ChangeGroup) words = setting_call setting.Group words
utility_call (Some utility.Copy) words = cp_call words
utility_call (Some utility.BaseName) words = basename_call words
utility_call (Some utility.DirName) words = dirname_call words

-- What a command's words come to; the first of them is the utility's name. No words come to no call.
abbrev pub call : List (List ℕ) → Planned
call [] = Unspecified reason.Call
call (name ∷ words) = utility_call (utility_named name) words
