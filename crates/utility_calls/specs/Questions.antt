-- `test` and `[` (POSIX.1-2017, XCU `test`).
use Rattle.std.specs.Prelude.{◌≡◌, ℕ, Bool, false, not, ◌||◌, ◌-◌, List, [], ◌∷◌, length, take, slice_get}
use Rattle.std.specs.Prelude.{Option, Some, None, if◌then◌else◌, codes}
use Rattle.std.specs.Str.{bytes_eq}
use Rattle.std.specs.List.{list_any}
use Rattle.script_names.specs.declared.path.PathFault.{PathFault}
use Rattle.script_names.specs.declared.reason.Reason.TheVariants as reason
use Rattle.feature_trees.specs.declared.kind.Special.{Special}
use Rattle.feature_trees.specs.declared.kind.Special.TheVariants.{Fifo, Socket, Block, Char}
use Rattle.script_names.specs.Paths.{PathParts, is_filled, path_fault, path_of}
use Rattle.utility_calls.specs.declared.fault.CallFault.{CallFault}
use Rattle.utility_calls.specs.declared.fault.CallFault.TheVariants as fault
use Rattle.utility_calls.specs.declared.acts.Act.{Act}
use Rattle.utility_calls.specs.declared.acts.Act.TheVariants.{Exists, IsReg, IsDir, IsLink, CanRun, IsSpecial}
use Rattle.utility_calls.specs.declared.planned.Planned.{Planned}
use Rattle.utility_calls.specs.declared.planned.Planned.TheVariants.{Known, Ask, Print, Change, Unspecified}
use Rattle.utility_calls.specs.declared.questions.Question.{Question}
use Rattle.utility_calls.specs.declared.questions.Question.TheVariants as question
use Rattle.utility_calls.specs.Operands.{fault_reason}

-- the opposite answer
abbrev pub negated : Planned → Planned
negated (Known status) = Known (not status)
negated (Ask act negate) = Ask act (not negate)
negated (Print text) = Print text
negated (Change acts) = Change acts
negated (Unspecified why) = Unspecified why

-- the special kind of which an operator asks
abbrev pub special_of : List ℕ → Option Special
special_of op =
    if bytes_eq op (codes "-p") then Some Fifo
    else (if bytes_eq op (codes "-S") then Some Socket
    else (if bytes_eq op (codes "-b") then Some Block
    else (if bytes_eq op (codes "-c") then Some Char
    else None)))

-- the question whether something is of a special kind, where there is one
abbrev pub special_question : Option Special → Option Question
special_question None = None
special_question (Some kind) = Some (question.IsSpecial kind)

-- what an operator of one path asks
abbrev pub question_of : List ℕ → Option Question
question_of op =
    if bytes_eq op (codes "-e") || (bytes_eq op (codes "-r") || bytes_eq op (codes "-w")) then Some question.Exists
    else (if bytes_eq op (codes "-f") then Some question.IsReg
    else (if bytes_eq op (codes "-d") then Some question.IsDir
    else (if bytes_eq op (codes "-h") || bytes_eq op (codes "-L") then Some question.IsLink
    else (if bytes_eq op (codes "-x") then Some question.CanRun
    else special_question (special_of op)))))

-- the act that asks it of a path; whether a regular file may be run is not known
abbrev pub asking : Question → PathParts → Act
asking question.Exists path = Exists path
asking question.IsReg path = IsReg path
asking question.IsDir path = IsDir path
asking question.IsLink path = IsLink path
asking question.CanRun path = CanRun path false
asking (question.IsSpecial kind) path = IsSpecial path kind

-- what a plan is for a word that spells no path
abbrev pub FaultPlan : CallFault → Planned → Type 0
FaultPlan (fault.Because why) planned = planned ≡ Unspecified why
FaultPlan fault.Memory planned = ⊥

-- the question of a word with this fault
abbrev pub ask_path : Question → Option PathFault → PathParts → Planned
ask_path q (Some fault) path = Unspecified (fault_reason fault)
ask_path q None path = Ask (asking q path) false

-- the question of a word; at an empty one nothing is
abbrev pub ask : Option Question → List ℕ → Planned
ask None word = Unspecified reason.Call
ask (Some q) word = if is_filled word then ask_path q (path_fault word) (path_of word) else Known false

-- `!`
abbrev pub is_not : List ℕ → Bool
is_not word = bytes_eq word (codes "!")

-- one word: whether it has a byte
abbrev pub test_one : List ℕ → Planned
test_one a = Known (is_filled a)

-- two words
abbrev pub test_two : List ℕ → List ℕ → Planned
test_two a b =
    if is_not a then negated (test_one b)
    else (if bytes_eq a (codes "-n") then Known (is_filled b)
    else (if bytes_eq a (codes "-z") then Known (not (is_filled b))
    else ask (question_of a) b))

-- the operators that compare two numbers
abbrev pub number_operators : List (List ℕ)
number_operators =
    codes "-eq" ∷ codes "-ne" ∷ codes "-gt" ∷ codes "-ge" ∷ codes "-lt" ∷ codes "-le" ∷ []

-- those that compare two files, or join two tests
abbrev pub file_operators : List (List ℕ)
file_operators = codes "-nt" ∷ codes "-ot" ∷ codes "-ef" ∷ codes "-a" ∷ codes "-o" ∷ []

-- those that compare two texts as no standard says
abbrev pub text_operators : List (List ℕ)
text_operators = codes "==" ∷ codes "<" ∷ codes ">" ∷ codes "=~" ∷ []

-- whether a word is an operator of two words that has no specified meaning here
abbrev pub is_other_operator : List ℕ → Bool
is_other_operator op =
    list_any (bytes_eq op) number_operators
    || (list_any (bytes_eq op) file_operators || list_any (bytes_eq op) text_operators)

-- three words
abbrev pub test_three : List ℕ → List ℕ → List ℕ → Planned
test_three a b c =
    if bytes_eq b (codes "=") then Known (bytes_eq a c)
    else (if bytes_eq b (codes "!=") then Known (not (bytes_eq a c))
    else (if is_other_operator b then Unspecified reason.Call
    else (if is_not a then negated (test_two b c)
    else Unspecified reason.Call)))

-- four words
abbrev pub test_four : List ℕ → List ℕ → List ℕ → List ℕ → Planned
test_four a b c d = if is_not a then negated (test_three b c d) else Unspecified reason.Call

-- the words of `test`
abbrev pub test_call : List (List ℕ) → Planned
test_call [] = Known false
test_call (a ∷ []) = test_one a
test_call (a ∷ b ∷ []) = test_two a b
test_call (a ∷ b ∷ c ∷ []) = test_three a b c
test_call (a ∷ b ∷ c ∷ d ∷ []) = test_four a b c d
test_call (a ∷ b ∷ c ∷ d ∷ e ∷ more) = Unspecified reason.Call

-- whether a word is `]`
abbrev pub is_bracket : Option (List ℕ) → Bool
is_bracket None = false
is_bracket (Some word) = bytes_eq word (codes "]")

-- the words of `[`, of which the last has to be `]`
abbrev pub bracket_call : List (List ℕ) → Planned
bracket_call words =
    if is_bracket (slice_get words (length words - 1)) then test_call (take (length words - 1) words)
    else Unspecified reason.Call
