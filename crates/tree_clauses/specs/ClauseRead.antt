-- Reading a clause's text. The reader is loose: what it reads is printed again and compared, line by line.
use Rattle.std.specs.Prelude.{◌≡◌, ℕ, ◌&&◌, ◌||◌, nat_le, Bool, true, false, IsTrue, List, [], ◌∷◌, ◌++◌, codes}
use Rattle.std.specs.Prelude.{Option, Some, None, option_map, option_and_then, Result, Ok, Err, if◌then◌else◌}
use Rattle.std.specs.List.{list_any, list_all}
use Rattle.std.specs.Str.{bytes_eq}
use Rattle.script_names.specs.Names.{is_name}
use Rattle.shown_texts.specs.Numbers.{u32_max, number_of}
use Rattle.shown_texts.specs.Paths.{name_of, names_onto}
use Rattle.shown_texts.specs.Show.{are_bytes, shown_of}
use Rattle.feature_trees.specs.declared.kind.Kinds.{Kinds}
use Rattle.feature_trees.specs.declared.version.Version.{Version}
use Rattle.feature_trees.specs.declared.version.Version.TheVariants.{First, Second}
use Rattle.tree_clauses.specs.declared.clause.Var.{Var}
use Rattle.tree_clauses.specs.declared.clause.Literal.{Literal}
use Rattle.tree_clauses.specs.declared.clause.Literal.TheVariants.{Entry, Kind, Fence, NotEmpty, Similar, Target}
use Rattle.tree_clauses.specs.declared.clause.Clause.{Clause}
use Rattle.shown_texts.specs.Lines.{lines_of}
use Rattle.tree_clauses.specs.ClauseText.{literal_content, head_content, clause_text, is_first_literal, is_first_clause}
use Rattle.tree_clauses.specs.declared.read.ClauseFault.{ClauseFault}
use Rattle.tree_clauses.specs.declared.read.ClauseFault.TheVariants.{Bad, Memory}
use Rattle.tree_clauses.specs.Cuts.{pieces, ends_line, ends_word, ends_member}

-- a variable's word, `v` and its number
abbrev pub var_of : List ℕ → Option Var
var_of [] = None
var_of (v ∷ digits) = option_map (λ n. record { 0 = n }) (number_of u32_max digits)

-- a set of names
abbrev pub names_of : List ℕ → Option (List (List ℕ))
names_of text = names_onto [] (pieces ends_member text)

-- whether a word is among these
abbrev pub has_word : List (List ℕ) → List ℕ → Bool
has_word words word = list_any (λ part. bytes_eq part word) words

-- the set of kinds of these words; the word `other` stands for all four special kinds
abbrev pub kinds_of_words : List (List ℕ) → Kinds
kinds_of_words words =
    let other = has_word words (codes "other") in
    record {
      absent = has_word words (codes "absent");
      reg = has_word words (codes "reg");
      link = has_word words (codes "link");
      fifo = other || has_word words (codes "fifo");
      socket = other || has_word words (codes "socket");
      block = other || has_word words (codes "block");
      char = other || has_word words (codes "char");
      dir = has_word words (codes "dir");
    }

-- a set of kinds
abbrev pub kinds_of : List ℕ → Kinds
kinds_of text = kinds_of_words (pieces ends_member text)

-- the literal of two variables and a name, of these words
abbrev pub entry_of : List ℕ → List ℕ → List ℕ → Option Literal
entry_of x f y =
    option_and_then (λ x. option_and_then (λ f. option_map (λ y. Entry x f y) (var_of y)) (name_of f)) (var_of x)

-- the literal of two variables and a set of names, of these words
abbrev pub similar_of : List ℕ → List ℕ → List ℕ → Option Literal
similar_of y names x =
    option_and_then (λ y. option_and_then (λ names. option_map (λ x. Similar y names x) (var_of x)) (names_of names))
    (var_of y)

-- the literal of a variable and a set of kinds, of these words
abbrev pub kind_of : List ℕ → List ℕ → Option Literal
kind_of x set = option_map (λ x. Kind x (kinds_of set)) (var_of x)

-- the literal of a variable and a set of names, of these words
abbrev pub fence_of : List ℕ → List ℕ → Option Literal
fence_of x names = option_and_then (λ x. option_map (λ names. Fence x names) (names_of names)) (var_of x)

-- the literal of a variable and a target, of these words
abbrev pub target_of : List ℕ → List ℕ → Option Literal
target_of x target = option_and_then (λ x. option_map (λ target. Target x target) (shown_of target)) (var_of x)

-- the literal of a line with these words
abbrev pub literal_of : List (List ℕ) → Option Literal
literal_of [] = None
literal_of (word ∷ []) = None
literal_of (word ∷ x ∷ []) = option_map (λ x. NotEmpty x) (var_of x)
literal_of (word ∷ x ∷ f ∷ []) =
    if bytes_eq word (codes "kind") then kind_of x f
    else (if bytes_eq word (codes "fence") then fence_of x f else target_of x f)
literal_of (word ∷ x ∷ f ∷ y ∷ []) = if bytes_eq word (codes "entry") then entry_of x f y else similar_of x f y
literal_of (word ∷ x ∷ f ∷ y ∷ z ∷ more) = None

-- the literals of lines, behind others
abbrev pub literals_onto : List Literal → List (List ℕ) → Option (List Literal)
literals_onto done [] = Some done
literals_onto done (line ∷ lines) =
    option_and_then (λ literal. literals_onto (done ++ literal ∷ []) lines) (literal_of (pieces ends_word line))

-- the clause of a head line with these words and the literals
abbrev pub headed : List (List ℕ) → List Literal → Option Clause
headed (clause ∷ word ∷ x ∷ other ∷ y ∷ []) literals =
    option_and_then (λ x. option_map (λ y. record { literals = literals; start = x; now = y }) (var_of y)) (var_of x)
headed words literals = None

-- the clause of lines
abbrev pub lines_clause : List (List ℕ) → Option Clause
lines_clause [] = None
lines_clause (head ∷ lines) = option_and_then (headed (pieces ends_word head)) (literals_onto [] lines)

-- what is read as a clause
abbrev pub clause_of : List ℕ → Option Clause
clause_of text = lines_clause (pieces ends_line text)

-- a variable's number fits
abbrev pub is_var : Var → Bool
is_var x = nat_le x.0 u32_max

-- a name that the program's types represent: a name, and of bytes
abbrev pub is_representable_name : List ℕ → Bool
is_representable_name f = is_name f && are_bytes f

-- the variables of a literal fit, and its names are names
abbrev pub is_literal : Literal → Bool
is_literal (Entry x f y) = is_var x && (is_representable_name f && is_var y)
is_literal (Kind x kinds) = is_var x
is_literal (Fence x names) = is_var x && list_all is_representable_name names
is_literal (NotEmpty x) = is_var x
is_literal (Similar y names x) = is_var y && (list_all is_representable_name names && is_var x)
is_literal (Target x target) = is_var x && are_bytes target

-- a clause that the program's types represent
abbrev pub is_clause : Clause → Bool
is_clause clause = is_var clause.start && (is_var clause.now && list_all is_literal clause.literals)

-- a line is a literal's: that of the present version, or that of the first, where the literal has one
abbrev pub tells_literal : Literal → List ℕ → Bool
tells_literal literal line =
    bytes_eq (literal_content Second literal) line
    || (is_first_literal literal && bytes_eq (literal_content First literal) line)

-- lines are those of literals, one of each
abbrev pub tell_literals : List Literal → List (List ℕ) → Bool
tell_literals [] [] = true
tell_literals [] (line ∷ lines) = false
tell_literals (literal ∷ literals) [] = false
tell_literals (literal ∷ literals) (line ∷ lines) = tells_literal literal line && tell_literals literals lines

-- lines are those of a clause
abbrev pub tell_clause : Clause → Option (List (List ℕ)) → Bool
tell_clause clause None = false
tell_clause clause (Some []) = false
tell_clause clause (Some (head ∷ lines)) = bytes_eq (head_content clause) head && tell_literals clause.literals lines

-- a text tells a clause: it has the line of the two variables and a line of each literal, and nothing else
abbrev pub tells : Clause → List ℕ → Bool
tells clause text = tell_clause clause (lines_of text)

-- what reading answers: the clause that this text tells, or that it tells none, or want of memory
abbrev pub ReadsClause : List ℕ → Result Clause ClauseFault → Type 0
ReadsClause text (Ok clause) = IsTrue (tells clause text)
ReadsClause text (Err Bad) = (clause : Clause) → IsTrue (is_clause clause) → ¬ (IsTrue (tells clause text))
ReadsClause text (Err Memory) = Unit {0}

-- a clause in an answer is one that the program's types represent
abbrev pub IsRepresentableClause : Result Clause ClauseFault → Type 0
IsRepresentableClause (Ok clause) = IsTrue (is_clause clause)
IsRepresentableClause (Err e) = Unit {0}

-- the answer is the clause, or want of memory
abbrev pub IsReadAs : Clause → Result Clause ClauseFault → Type 0
IsReadAs clause (Ok found) = found ≡ clause
IsReadAs clause (Err Bad) = ⊥
IsReadAs clause (Err Memory) = Unit {0}

-- a clause has a text of a version
abbrev pub has_text : Version → Clause → Bool
has_text First clause = is_first_clause clause
has_text Second clause = true

-- the text of a clause in either version determines it, and is no text that reading refuses
abbrev pub ClausesReadBack : Type 0
ClausesReadBack =
    (version : Version) (clause : Clause) → IsTrue (is_clause clause) → IsTrue (has_text version clause)
    → (answer : Result Clause ClauseFault) → IsRepresentableClause answer
    → ReadsClause (clause_text version clause) answer → IsReadAs clause answer

-- whatever tells a clause tells it alone
abbrev pub OneClauseIsTold : Type 0
OneClauseIsTold =
    (text : List ℕ) (one other : Clause) → IsTrue (is_clause one) → IsTrue (is_clause other)
    → IsTrue (tells one text) → IsTrue (tells other text) → one ≡ other
