-- A property that each rule keeps: it has it where its parts do. And what else holds of the rules.
use Rattle.std.specs.Prelude.{◌≡◌, ◌↔◌, ℕ, Bool, true, not, ◌||◌, List, Option, Some, is_none, IsTrue}
use Rattle.std.specs.List.{list_all}
use Rattle.script_names.specs.declared.reason.Reason.{Reason}
use Rattle.script_names.specs.CommandNames.{utility_named}
use Rattle.shell_words.specs.declared.pattern.Item.{Item}
use Rattle.shell_words.specs.Patterns.{Matches}
use Rattle.shell_words.specs.Pieces.{PieceParts}
use Rattle.shell_words.specs.Trimmed.{IsTrimmed}
use Rattle.utility_calls.specs.Performed.{HasPerformedActs}
use Rattle.utility_calls.specs.Calls.{call as call_of}
use Rattle.shell_rules.specs.declared.premises.Premises.{Premises}
use Rattle.shell_rules.specs.declared.spelled.Spelled.{Spelled}
use Rattle.shell_rules.specs.State.{Text, Doing, Action}
use Rattle.shell_rules.specs.Expansion as word
use Rattle.shell_rules.specs.Commands as command
use Rattle.shell_rules.specs.Loops as loops
use Rattle.shell_rules.specs.Cases as cases
use Rattle.shell_rules.specs.Calls as call
use Rattle.shell_rules.specs.Planned.{planned, no_premises, is_functions}
use Rattle.shell_rules.specs.Parts.{Property, Each, EachLink, EachArm, EachCaseArm, EachSet}
use Rattle.shell_rules.specs.Laws.{IsLawful, WholeKeeps}

-- the expansions
pub record ExpansionsKeep (Has : Property) : Type 0 where
  pub literal : (text : Text) → Has _ (word.do_literal text)
  pub variable : (name : Text) → Has _ (word.do_variable name)
  pub argument : (number : ℕ) → Has _ (word.do_argument number)
  pub count : Has _ word.do_count
  pub default : (string : Doing Text) (other : Text) → Has _ string → Has _ (word.do_default string other)
  pub join : (strings : List (Doing Text)) → Each Has strings → Has _ (word.do_join strings)
  pub output : (body : Action) → Has _ body → Has _ (word.do_output body)
  pub plain : (string : Doing Text) → Has _ string → Has _ (word.do_plain string)
  pub quoted : (string : Doing Text) → Has _ string → Has _ (word.do_quoted string)
  pub split : (string : Doing Text) → Has _ string → Has _ (word.do_split string)
  pub fields : (pieces : List (Doing PieceParts)) → Each Has pieces → Has _ (word.do_word pieces)
  pub arguments : Has _ word.do_arguments

-- lists, conditions, subshells and redirections
pub record CommandsKeep (Has : Property) : Type 0 where
  pub skip : Has _ command.do_skip
  pub stop : (at : ℕ) (reason : Reason) → Has _ (command.do_stop at reason)
  pub strict : Has _ command.do_strict
  pub lax : Has _ command.do_lax
  pub list : (commands : List Action) → Each Has commands → Has _ (command.do_all commands)
  pub chain : (first : Action) (links : List (Bool × Action)) → Has _ first → EachLink Has links
      → Has _ (command.do_chain first links)
  pub negation : (body : Action) → Has _ body → Has _ (command.do_not body)
  pub conditional : (arms : List (Action × Action)) (otherwise : Action) → EachArm Has arms → Has _ otherwise
      → Has _ (command.do_if arms otherwise)
  pub subshell : (at : ℕ) (body : Action) → Has _ body → Has _ (command.do_subshell at body)
  pub quiet : (body : Action) → Has _ body → Has _ (command.do_quiet body)
  pub error_joined : (at : ℕ) (body : Action) → Has _ body → Has _ (command.do_error_joined at body)

-- loops and `case`
pub record LoopsKeep (Has : Property) : Type 0 where
  pub breaks : Has _ loops.do_break
  pub continues : Has _ loops.do_continue
  pub for_loop : (at : ℕ) (name : Text) (words : List (Doing (List Text))) (body : Action) → Each Has words
      → Has _ body → Has _ (loops.do_for at name words body)
  pub while_loop : (at : ℕ) (condition body : Action) → Has _ condition → Has _ body
      → Has _ (loops.do_while at condition body)
  pub cases : (at : ℕ) (subject : Doing Text) (arms : List (List (List (Doing PieceParts)) × Action))
      → Has _ subject → EachCaseArm Has arms → Has _ (cases.do_case at subject arms)

-- simple commands
pub record CallsKeep (Has : Property) : Type 0 where
  pub utility : (at : ℕ) (static : List Bool) (words : List (Doing (List Text))) → Each Has words
      → Has _ (call.do_call at static words)
  pub assignments : (at : ℕ) (sets : List (Text × Doing Text)) → EachSet Has sets → Has _ (call.do_set at sets)
  pub function : (at : ℕ) (body : Option Action) (words : List (Doing (List Text)))
      → ((a : Action) → body ≡ Some a → Has _ a) → Each Has words → Has _ (call.do_function at body words)
  pub exits : (at : ℕ) (words : List (Doing (List Text))) → Each Has words → Has _ (call.do_exit at words)
  pub returns : (at : ℕ) (words : List (Doing (List Text))) → Each Has words → Has _ (call.do_return at words)
  pub exports : (at : ℕ) (words : List (Doing (List Text))) → Each Has words → Has _ (call.do_export at words)
  pub unsets : (at : ℕ) (words : List (Doing (List Text))) → Each Has words → Has _ (call.do_unset at words)

-- a whole run
abbrev pub WholeRunsKeep : Type 0
WholeRunsKeep = (body : Action) → IsLawful body → WholeKeeps body

-- ---- the definitions and those that other crates prove

-- a text without the newlines at its end is one text alone
abbrev pub TrimmedIsOne : Type 0
TrimmedIsOne = (text left : Text) → IsTrimmed text left ↔ (left ≡ word.trimmed text)

-- the test whether a pattern matches decides the relation by cases
abbrev pub MatchesDecides : Type 0
MatchesDecides = (pattern : List Item) (text : Text) → IsTrue (cases.matches pattern text) ↔ Matches pattern text

-- the names of what changes the shell itself are no names of utilities, so that a command with such a computed name
-- stops the run
abbrev pub SpecialNamesAreNoUtilities : Type 0
SpecialNamesAreNoUtilities = list_all (λ name. is_none (utility_named name)) call.special_names ≡ true

-- each act that a command comes to meets the conditions of acts, whatever is stated
abbrev pub PlansHavePerformedActs : Type 0
PlansHavePerformedActs =
    (premises : Premises) (functions : List Text) (spelled : Spelled) (fields : List Text)
    → HasPerformedActs (planned premises functions spelled fields)

-- where nothing is stated a command comes to what its fields come to, unless its name was computed and is a function's
abbrev pub NoPremisesNoChange : Type 0
NoPremisesNoChange =
    (functions : List Text) (spelled : Spelled) (fields : List Text)
    → IsTrue (spelled.name || not (is_functions functions fields))
    → planned no_premises functions spelled fields ≡ call_of fields
