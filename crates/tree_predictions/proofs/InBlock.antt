-- The lines of one tree of many, and what its own text says.
use Rattle.std.proofs.Common.{◌≡◌, ℕ, ◌+◌, ◌<◌, Bool, true, false, List, [], ◌∷◌, ◌++◌, length, Some, None, Result, Ok, Err, refl, ap, ◌∙◌, arith}
use Rattle.std.specs.Prelude.{◌||◌, if◌then◌else◌}
use Rattle.std.specs.List.{list_any}
use Rattle.feature_trees.specs.declared.value.Value.{Value}
use Rattle.feature_trees.specs.declared.value.Value.TheVariants.{Dir}
use Rattle.feature_trees.specs.declared.read.TreeFault.{TreeFault}
use Rattle.feature_trees.specs.declared.read.TreeFault.TheVariants as tree
use Rattle.feature_trees.specs.Tree.{at, put, has_parents}
use Rattle.feature_trees.specs.TreeLines.{is_there, line_says}
use Rattle.feature_trees.specs.TreeLines.{with_line as with_tree_line, with_lines as with_tree_lines, and_then as then_tree}
use Rattle.tree_predictions.specs.declared.named_tree.NamedTree.{NamedTree}
use Rattle.tree_predictions.specs.declared.fault.TreesFault.TheVariants.{Line, Memory}
use Rattle.tree_predictions.specs.NamedTrees.{is_head, begun, head_name, named, and_then, in_last, with_lines}

-- ---- the number of a line

-- a fault so many lines further on
abbrev pub moved : ℕ → Result Value TreeFault → Result Value TreeFault
moved k (Ok t) = Ok t
moved k (Err (tree.Line n why)) = Err (tree.Line (k + n) why)
moved k (Err tree.Memory) = Err tree.Memory

put_moved : (k n : ℕ) (v : Value) (here parents : Bool)
    → ◌≡◌ {A = Result Value TreeFault} (if here then Err (tree.Line (k + n) 2) else (if parents then Ok v else Err (tree.Line (k + n) 3)))
    (moved k (if here then Err (tree.Line n 2) else (if parents then Ok v else Err (tree.Line n 3))))
put_moved k n v true parents = refl
put_moved k n v false true = refl
put_moved k n v false false = refl

line_moved : (k n : ℕ) (t : Value) (line : List ℕ) → with_tree_line (k + n) t (line_says line) ≡ moved k (with_tree_line n t (line_says line))
line_moved k n t line =
    elim (line_says line) as (λ said. with_tree_line (k + n) t said ≡ moved k (with_tree_line n t said)) [
      | None ↦ refl
      | Some l ↦ put_moved k n (put t l.names l.value) (is_there (at t l.names)) (has_parents t l.names)
    ]

one_on : (k n : ℕ) → (k + n) + 1 ≡ k + (n + 1)
one_on k n = omega arith

-- lines so many further on
pub lines_moved : (k n : ℕ) (t : Value) (lines : List (List ℕ)) → with_tree_lines (k + n) t lines ≡ moved k (with_tree_lines n t lines)
lines_moved k n t [] = refl
lines_moved k n t (line ∷ lines) =
    ap (then_tree (λ more. with_tree_lines ((k + n) + 1) more lines)) (line_moved k n t line)
    ∙ step (λ more. ap (λ j. with_tree_lines j more lines) (one_on k n) ∙ lines_moved k (n + 1) more lines) (with_tree_line n t (line_says line))
  where
    step : ((more : Value) → with_tree_lines ((k + n) + 1) more lines ≡ moved k (with_tree_lines (n + 1) more lines)) → (r : Result Value TreeFault)
        → then_tree (λ more. with_tree_lines ((k + n) + 1) more lines) (moved k r) ≡ moved k (then_tree (λ more. with_tree_lines (n + 1) more lines) r)
    step more_moved (Ok more) = more_moved more
    step more_moved (Err (tree.Line m why)) = refl
    step more_moved (Err tree.Memory) = refl

-- the fault is of a line before this one
abbrev pub IsBefore : ℕ → Result Value TreeFault → Type 0
IsBefore k (Ok t) = Unit {0}
IsBefore k (Err (tree.Line n why)) = n < k
IsBefore k (Err tree.Memory) = Unit {0}

put_before : (k n : ℕ) (v : Value) (here parents : Bool) → n < k
    → IsBefore k (if here then Err (tree.Line n 2) else (if parents then Ok v else Err (tree.Line n 3)))
put_before k n v true parents lt = lt
put_before k n v false true lt = tt
put_before k n v false false lt = lt

line_before : (k n : ℕ) (t : Value) (line : List ℕ) → n < k → IsBefore k (with_tree_line n t (line_says line))
line_before k n t line lt =
    elim (line_says line) as (λ said. IsBefore k (with_tree_line n t said)) [
      | None ↦ lt
      | Some l ↦ put_before k n (put t l.names l.value) (is_there (at t l.names)) (has_parents t l.names) lt
    ]

-- the fault of lines is of one of them
pub lines_before : (k n : ℕ) (t : Value) (lines : List (List ℕ)) → n + length lines ≡ k → IsBefore k (with_tree_lines n t lines)
lines_before k n t [] e = tt
lines_before k n t (line ∷ lines) e =
    step (λ more. lines_before k (n + 1) more lines (omega (arith, e))) (with_tree_line n t (line_says line)) (line_before k n t line (omega (arith, e)))
  where
    step : ((more : Value) → IsBefore k (with_tree_lines (n + 1) more lines)) → (r : Result Value TreeFault) → IsBefore k r → IsBefore k (then_tree (λ more. with_tree_lines (n + 1) more lines) r)
    step behind (Ok more) b = behind more
    step behind (Err (tree.Line m why)) b = b
    step behind (Err tree.Memory) b = tt

-- ---- in the last tree

-- what a line says is put into the last tree
in_the_last : (n : ℕ) (trees : List NamedTree) (name : List ℕ) (t : Value) (line : List ℕ)
    → in_last n (trees ++ (record { name = name; tree = t }) ∷ []) line ≡ named trees name (with_tree_line n t (line_says line))
in_the_last n [] name t line = refl
in_the_last n (u ∷ []) name t line = step (with_tree_line n t (line_says line))
  where
    step : (r : Result Value TreeFault) → and_then (λ grown. Ok (u ∷ grown)) (named [] name r) ≡ named (u ∷ []) name r
    step (Ok more) = refl
    step (Err (tree.Line m why)) = refl
    step (Err tree.Memory) = refl
in_the_last n (u ∷ v ∷ trees) name t line =
    ap (and_then (λ grown. Ok (u ∷ grown))) (in_the_last n (v ∷ trees) name t line) ∙ step (with_tree_line n t (line_says line))
  where
    step : (r : Result Value TreeFault) → and_then (λ grown. Ok (u ∷ grown)) (named (v ∷ trees) name r) ≡ named (u ∷ v ∷ trees) name r
    step (Ok more) = refl
    step (Err (tree.Line m why)) = refl
    step (Err tree.Memory) = refl

pub first_false : (a b : Bool) → (a || b) ≡ false → a ≡ false
first_false true b e = e
first_false false b e = refl

pub rest_false : (a b : Bool) → (a || b) ≡ false → b ≡ false
rest_false true b e = let bad : true ≡ false = e in cc
rest_false false b e = e

-- lines of which none begins a tree are put into the last one
pub in_block : (n : ℕ) (trees : List NamedTree) (name : List ℕ) (t : Value) (lines : List (List ℕ)) → list_any is_head lines ≡ false
    → with_lines n (trees ++ (record { name = name; tree = t }) ∷ []) lines ≡ named trees name (with_tree_lines n t lines)
in_block n trees name t [] none = refl
in_block n trees name t (line ∷ lines) none =
    let all : List NamedTree = trees ++ (record { name = name; tree = t }) ∷ [] in
    ap (λ b. and_then (λ more. with_lines (n + 1) more lines) (if b then begun n all (head_name line) else in_last n all line)) (first_false (is_head line) (list_any is_head lines) none)
    ∙ ap (and_then (λ more. with_lines (n + 1) more lines)) (in_the_last n trees name t line)
    ∙ step (λ more. in_block (n + 1) trees name more lines (rest_false (is_head line) (list_any is_head lines) none)) (with_tree_line n t (line_says line))
  where
    step : ((more : Value) → with_lines (n + 1) (trees ++ (record { name = name; tree = more }) ∷ []) lines ≡ named trees name (with_tree_lines (n + 1) more lines)) → (r : Result Value TreeFault)
        → and_then (λ more. with_lines (n + 1) more lines) (named trees name r) ≡ named trees name (then_tree (λ more. with_tree_lines (n + 1) more lines) r)
    step rest (Ok more) = rest more
    step rest (Err (tree.Line m why)) = refl
    step rest (Err tree.Memory) = refl

-- so they are, from this line on, what the text of the tree says, so many lines further on
pub block_is : (k : ℕ) (trees : List NamedTree) (name : List ℕ) (lines : List (List ℕ)) → list_any is_head lines ≡ false
    → with_lines (k + 1) (trees ++ (record { name = name; tree = Dir [] }) ∷ []) lines ≡ named trees name (moved k (with_tree_lines 1 (Dir []) lines))
block_is k trees name lines none = in_block (k + 1) trees name (Dir []) lines none ∙ ap (named trees name) (lines_moved k 1 (Dir []) lines)
