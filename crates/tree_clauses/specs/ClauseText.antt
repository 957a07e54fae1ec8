-- The text of a clause: the line of its two variables, then one line per literal.
use Rattle.std.specs.Prelude.{ℕ, Bool, true, ◌&&◌, ◌||◌, not, List, [], ◌∷◌, ◌++◌, codes, map, if◌then◌else◌}
use Rattle.std.specs.List.{flat_map, list_all}
use Rattle.std.specs.Fmt.{decimal}
use Rattle.feature_trees.specs.declared.kind.Kinds.{Kinds}
use Rattle.feature_trees.specs.declared.version.Version.{Version}
use Rattle.feature_trees.specs.declared.version.Version.TheVariants.{First, Second}
use Rattle.shown_texts.specs.Lines.{line}
use Rattle.shown_texts.specs.Show.{show}
use Rattle.tree_clauses.specs.declared.clause.Var.{Var}
use Rattle.tree_clauses.specs.declared.clause.Literal.{Literal}
use Rattle.tree_clauses.specs.declared.clause.Literal.TheVariants.{Entry, Kind, Fence, NotEmpty, Similar, Target}
use Rattle.tree_clauses.specs.declared.clause.Clause.{Clause}

-- a text after a comma
abbrev pub after_comma : List ℕ → List ℕ
after_comma text = codes "," ++ text

-- texts joined by commas
abbrev pub joined : List (List ℕ) → List ℕ
joined [] = []
joined (text ∷ texts) = text ++ flat_map after_comma texts

-- a variable: `v` and its number
abbrev pub var_text : Var → List ℕ
var_text x = codes "v" ++ decimal x.0

-- the words of these whose test holds
abbrev pub chosen : List (Bool × List ℕ) → List (List ℕ)
chosen [] = []
chosen (one ∷ rest) = (if one.0 then one.1 ∷ chosen rest else chosen rest)

-- whether all four special kinds are in a set
abbrev pub has_all_special : Kinds → Bool
has_all_special kinds = kinds.fifo && (kinds.socket && (kinds.block && kinds.char))

-- whether one of them is
abbrev pub has_some_special : Kinds → Bool
has_some_special kinds = kinds.fifo || (kinds.socket || (kinds.block || kinds.char))

-- the words of kinds, each with whether its kind is in a set, in the order absent, reg, link, fifo, socket, block, char,
-- dir; in the first version the one word `other`, behind link, stood for all four special kinds
abbrev pub words_of : Version → Kinds → List (Bool × List ℕ)
words_of First kinds =
    (kinds.absent, codes "absent") ∷ (kinds.reg, codes "reg") ∷ (kinds.link, codes "link")
    ∷ (has_all_special kinds, codes "other") ∷ (kinds.dir, codes "dir") ∷ []
words_of Second kinds =
    (kinds.absent, codes "absent") ∷ (kinds.reg, codes "reg") ∷ (kinds.link, codes "link")
    ∷ (kinds.fifo, codes "fifo") ∷ (kinds.socket, codes "socket") ∷ (kinds.block, codes "block")
    ∷ (kinds.char, codes "char") ∷ (kinds.dir, codes "dir") ∷ []

-- the words of the kinds in a set
abbrev pub kind_words : Version → Kinds → List (List ℕ)
kind_words version kinds = chosen (words_of version kinds)

-- a set of kinds has a text of the first version where all four special kinds are in it, or none of them
abbrev pub is_first_kinds : Kinds → Bool
is_first_kinds kinds = has_all_special kinds || not (has_some_special kinds)

-- words joined by commas, or `-` where there are none
abbrev pub words_text : List (List ℕ) → List ℕ
words_text [] = codes "-"
words_text (word ∷ words) = joined (word ∷ words)

-- a set of kinds
abbrev pub kinds_text : Version → Kinds → List ℕ
kinds_text version kinds = words_text (kind_words version kinds)

-- a set of names: between braces, by their one spelling
abbrev pub names_text : List (List ℕ) → List ℕ
names_text names = codes "{" ++ joined (map show names) ++ codes "}"

-- a literal, without the newline of its line
abbrev pub literal_content : Version → Literal → List ℕ
literal_content version (Entry x f y) =
    codes "entry " ++ var_text x ++ codes " " ++ show f ++ codes " " ++ var_text y
literal_content version (Kind x kinds) = codes "kind " ++ var_text x ++ codes " " ++ kinds_text version kinds
literal_content version (Fence x names) = codes "fence " ++ var_text x ++ codes " " ++ names_text names
literal_content version (NotEmpty x) = codes "notempty " ++ var_text x
literal_content version (Similar y names x) =
    codes "similar " ++ var_text y ++ codes " " ++ names_text names ++ codes " " ++ var_text x
literal_content version (Target x target) = codes "target " ++ var_text x ++ codes " " ++ show target

-- the line of a literal
abbrev pub literal_text : Version → Literal → List ℕ
literal_text version literal = line (literal_content version literal)

-- the line of a clause's two variables, without its newline
abbrev pub head_content : Clause → List ℕ
head_content clause = codes "clause start " ++ var_text clause.start ++ codes " now " ++ var_text clause.now

-- the text of a clause
abbrev pub clause_text : Version → Clause → List ℕ
clause_text version clause = line (head_content clause) ++ flat_map (literal_text version) clause.literals

-- a literal has a line of the first version
abbrev pub is_first_literal : Literal → Bool
is_first_literal (Entry x f y) = true
is_first_literal (Kind x kinds) = is_first_kinds kinds
is_first_literal (Fence x names) = true
is_first_literal (NotEmpty x) = true
is_first_literal (Similar y names x) = true
is_first_literal (Target x target) = true

-- a clause has a text of the first version
abbrev pub is_first_clause : Clause → Bool
is_first_clause clause = list_all is_first_literal clause.literals
