-- Many trees in one text: each begins with a line `tree NAME`, behind which the lines of its own text stand.
use Rattle.std.specs.Prelude.{◌≡◌, ℕ, ◌+◌, Bool, not, ◌&&◌, ◌||◌, nat_eq, nat_le, nat_lt, List, [], ◌∷◌, ◌++◌, length}
use Rattle.std.specs.Prelude.{drop, codes, Result, Ok, Err, if◌then◌else◌}
use Rattle.std.specs.List.{list_any, starts_with}
use Rattle.std.specs.Str.{bytes_eq}
use Rattle.feature_trees.specs.declared.value.Value.{Value}
use Rattle.feature_trees.specs.declared.value.Value.TheVariants.{Dir}
use Rattle.feature_trees.specs.declared.read.TreeFault.{TreeFault}
use Rattle.feature_trees.specs.declared.read.TreeFault.TheVariants as tree
use Rattle.feature_trees.specs.TreeLines.{text_lines, line_says}
use Rattle.feature_trees.specs.TreeLines.{with_line as with_tree_line}
use Rattle.tree_predictions.specs.declared.named_tree.TheConstants.{MOST_BYTES}
use Rattle.tree_predictions.specs.declared.named_tree.NamedTree.{NamedTree}
use Rattle.tree_predictions.specs.declared.fault.TreesFault.{TreesFault}
use Rattle.tree_predictions.specs.declared.fault.TreesFault.TheVariants.{Line, Memory}

-- whether a line begins a tree
abbrev pub is_head : List ℕ → Bool
is_head line = bytes_eq line (codes "tree") || starts_with nat_eq line (codes "tree ")

-- what such a line has as the tree's name
abbrev pub head_name : List ℕ → List ℕ
head_name line = drop 5 line

-- whether a tree may have the name: it has 1 to 255 bytes
abbrev pub is_tree_name : List ℕ → Bool
is_tree_name name = nat_lt 0 (length name) && nat_le (length name) MOST_BYTES

-- whether one of the trees has the name
abbrev pub is_named : List NamedTree → List ℕ → Bool
is_named trees name = list_any (λ (named : NamedTree). bytes_eq named.name name) trees

-- the trees behind which line n begins one of this name, which has no entries yet; 1, the name is none, or too long; 5,
-- an earlier tree has it
abbrev pub begun : ℕ → List NamedTree → List ℕ → Result (List NamedTree) TreesFault
begun n trees name =
    if not (is_tree_name name) then Err (Line n 1)
    else (if is_named trees name then Err (Line n 5) else Ok (trees ++ (record { name = name; tree = Dir [] }) ∷ []))

-- the trees with one more that has the name, where it is one
abbrev pub named : List NamedTree → List ℕ → Result Value TreeFault → Result (List NamedTree) TreesFault
named trees name (Ok tree) = Ok (trees ++ (record { name = name; tree = tree }) ∷ [])
named trees name (Err (tree.Line n why)) = Err (Line n why)
named trees name (Err tree.Memory) = Err Memory

-- what follows trees; a fault stays
abbrev pub and_then : (List NamedTree → Result (List NamedTree) TreesFault) → Result (List NamedTree) TreesFault
    → Result (List NamedTree) TreesFault
and_then next (Ok trees) = next trees
and_then next (Err fault) = Err fault

-- the trees with what line n says in the last one; 4, there is none
abbrev pub in_last : ℕ → List NamedTree → List ℕ → Result (List NamedTree) TreesFault
in_last n [] line = Err (Line n 4)
in_last n (last ∷ []) line = named [] last.name (with_tree_line n last.tree (line_says line))
in_last n (first ∷ next ∷ rest) line = and_then (λ grown. Ok (first ∷ grown)) (in_last n (next ∷ rest) line)

-- the trees with what line n says
abbrev pub with_line : ℕ → List NamedTree → List ℕ → Result (List NamedTree) TreesFault
with_line n trees line = if is_head line then begun n trees (head_name line) else in_last n trees line

-- the trees with what lines say, from line n on, or the first fault
abbrev pub with_lines : ℕ → List NamedTree → List (List ℕ) → Result (List NamedTree) TreesFault
with_lines n trees [] = Ok trees
with_lines n trees (line ∷ lines) = and_then (λ more. with_lines (n + 1) more lines) (with_line n trees line)

-- the named trees of a text, or its least line at fault, and why
abbrev pub trees_of : List ℕ → Result (List NamedTree) TreesFault
trees_of text = with_lines 1 [] (text_lines text)

-- what was wanted is answered, but for want of memory
abbrev pub IsAnswer : Result (List NamedTree) TreesFault → Result (List NamedTree) TreesFault → Type 0
IsAnswer wanted (Ok trees) = wanted ≡ Ok trees
IsAnswer wanted (Err (Line n why)) = wanted ≡ Err (Line n why)
IsAnswer wanted (Err Memory) = Unit {0}
