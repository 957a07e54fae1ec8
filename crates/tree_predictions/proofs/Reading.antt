-- From the first line of many trees to the last.
use Rattle.std.proofs.Common.{◌≡◌, ℕ, ◌+◌, ◌<◌, Bool, true, false, List, [], ◌∷◌, ◌++◌, length, Result, Ok, Err, refl, sym, subst, ap, ap₂, ◌∙◌, arith}
use Rattle.std.specs.Prelude.{not, if◌then◌else◌}
use Rattle.std.specs.List.{list_any}
use Rattle.feature_trees.specs.declared.value.Value.TheVariants.{Dir}
use Rattle.tree_predictions.specs.declared.named_tree.NamedTree.{NamedTree}
use Rattle.tree_predictions.specs.declared.fault.TreesFault.{TreesFault}
use Rattle.tree_predictions.specs.declared.fault.TreesFault.TheVariants.{Line, Memory}
use Rattle.tree_predictions.specs.NamedTrees.{is_head, is_tree_name, is_named, begun, head_name, and_then, in_last, with_line, with_lines, IsAnswer}
use Rattle.feature_trees.specs.declared.value.Value.{Value}
use Rattle.feature_trees.specs.declared.read.TreeFault.TheVariants as tree
use Rattle.feature_trees.specs.TreeLines.{text_lines}
use Rattle.feature_trees.specs.TreeLines.{with_lines as with_tree_lines}
use Rattle.feature_trees.specs.Sound.{IsTree}
use Rattle.std.proofs.Common.{All, zero, suc, ◌≤◌}
use Rattle.tree_predictions.specs.declared.lines.Block.{Block}
use Rattle.tree_predictions.specs.Blocks.{CutsLine, IsBlock, AreAtHead}
use Rattle.tree_predictions.specs.NamedTrees.{named, trees_of}
use Rattle.tree_predictions.proofs.InBlock.{first_false, moved, IsBefore, block_is, lines_before}
use Rattle.tree_predictions.proofs.TextLines.{first_line}

-- ---- how a tree begins

abbrev begun_by : ℕ → List NamedTree → List ℕ → Bool → Bool → Result (List NamedTree) TreesFault
begun_by n trees name fits known =
    if not fits then Err (Line n 1) else (if known then Err (Line n 5) else Ok (trees ++ (record { name = name; tree = Dir [] }) ∷ []))

pub begun_unnamed : (n : ℕ) (trees : List NamedTree) (name : List ℕ) → is_tree_name name ≡ false → begun n trees name ≡ Err (Line n 1)
begun_unnamed n trees name e = ap (λ b. begun_by n trees name b (is_named trees name)) e

pub begun_twice : (n : ℕ) (trees : List NamedTree) (name : List ℕ) → is_tree_name name ≡ true → is_named trees name ≡ true → begun n trees name ≡ Err (Line n 5)
begun_twice n trees name e f = ap₂ (begun_by n trees name) e f

pub begun_new : (n : ℕ) (trees : List NamedTree) (name : List ℕ) → is_tree_name name ≡ true → is_named trees name ≡ false
    → begun n trees name ≡ Ok (trees ++ (record { name = name; tree = Dir [] }) ∷ [])
begun_new n trees name e f = ap₂ (begun_by n trees name) e f

-- ---- lines behind lines

pub then_then : (f g : List NamedTree → Result (List NamedTree) TreesFault) (r : Result (List NamedTree) TreesFault)
    → and_then (λ trees. and_then g (f trees)) r ≡ and_then g (and_then f r)
then_then f g (Ok trees) = refl
then_then f g (Err fault) = refl

none_on : (n : ℕ) → n ≡ n + 0
none_on n = omega arith

one_on : (n k : ℕ) → (n + 1) + k ≡ n + suc k
one_on n k = omega arith

pub lines_behind : (n : ℕ) (trees : List NamedTree) (lines more : List (List ℕ))
    → with_lines n trees (lines ++ more) ≡ and_then (λ grown. with_lines (n + length lines) grown more) (with_lines n trees lines)
lines_behind n trees [] more = ap (λ k. with_lines k trees more) (none_on n)
lines_behind n trees (line ∷ lines) more =
    step (λ grown. lines_behind (n + 1) grown lines more ∙ ap (λ k. and_then (λ again. with_lines k again more) (with_lines (n + 1) grown lines)) (one_on n (length lines))) (with_line n trees line)
  where
    step : ((grown : List NamedTree) → with_lines (n + 1) grown (lines ++ more) ≡ and_then (λ again. with_lines (n + length (line ∷ lines)) again more) (with_lines (n + 1) grown lines))
        → (r : Result (List NamedTree) TreesFault)
        → and_then (λ grown. with_lines (n + 1) grown (lines ++ more)) r ≡ and_then (λ grown. with_lines (n + length (line ∷ lines)) grown more) (and_then (λ grown. with_lines (n + 1) grown lines) r)
    step behind (Ok grown) = behind grown
    step behind (Err fault) = refl

-- a line that begins a tree, the lines of the tree, and those behind it
pub tree_read : (n : ℕ) (trees : List NamedTree) (head : List ℕ) (lines more : List (List ℕ)) → is_head head ≡ true
    → with_lines n trees (head ∷ (lines ++ more))
    ≡ and_then (λ grown. with_lines ((n + 1) + length lines) grown more) (and_then (λ grown. with_lines (n + 1) grown lines) (begun n trees (head_name head)))
tree_read n trees head lines more e =
    ap (λ b. and_then (λ grown. with_lines (n + 1) grown (lines ++ more)) (if b then begun n trees (head_name head) else in_last n trees head)) e
    ∙ step (begun n trees (head_name head))
  where
    step : (r : Result (List NamedTree) TreesFault)
        → and_then (λ grown. with_lines (n + 1) grown (lines ++ more)) r
        ≡ and_then (λ grown. with_lines ((n + 1) + length lines) grown more) (and_then (λ grown. with_lines (n + 1) grown lines) r)
    step (Ok grown) = lines_behind (n + 1) grown lines more
    step (Err fault) = refl

-- a fault stays
pub fault_stays : (next : List NamedTree → Result (List NamedTree) TreesFault) (wanted : Result (List NamedTree) TreesFault) (fault : TreesFault)
    → IsAnswer wanted (Err fault) → IsAnswer (and_then next wanted) (Err fault)
fault_stays next wanted (Line n why) e = ap (and_then next) e
fault_stays next wanted Memory e = tt

-- a first line that begins no tree is at fault
pub no_tree : (lines more : List (List ℕ)) → 0 < length lines → list_any is_head lines ≡ false → with_lines 1 [] (lines ++ more) ≡ Err (Line 1 4)
no_tree [] more lt none = absurd (let bad : 0 < 0 = lt in omega (arith, bad))
no_tree (line ∷ lines) more lt none =
    ap (λ b. and_then (λ grown. with_lines 2 grown (lines ++ more)) (if b then begun 1 [] (head_name line) else in_last 1 [] line))
    (first_false (is_head line) (list_any is_head lines) none)

-- ---- one tree

module _ (k : ℕ) (trees : List NamedTree) (name head : List ℕ) (lines : List (List ℕ)) (is : name ≡ head_name head) where
  abbrev wanted : Result (List NamedTree) TreesFault
  wanted = and_then (λ more. with_lines (k + 1) more lines) (begun k trees (head_name head))

  begins_with : (r : Result (List NamedTree) TreesFault) → begun k trees name ≡ r → wanted ≡ and_then (λ more. with_lines (k + 1) more lines) r
  begins_with r e = ap (and_then (λ more. with_lines (k + 1) more lines)) (ap (begun k trees) (sym is) ∙ e)

  -- the line that begins it is at fault
  pub unnamed : is_tree_name name ≡ false → wanted ≡ Err (Line k 1)
  unnamed e = begins_with (Err (Line k 1)) (begun_unnamed k trees name e)

  pub twice : is_tree_name name ≡ true → is_named trees name ≡ true → wanted ≡ Err (Line k 5)
  twice e f = begins_with (Err (Line k 5)) (begun_twice k trees name e f)

  new : is_tree_name name ≡ true → is_named trees name ≡ false → list_any is_head lines ≡ false
      → wanted ≡ named trees name (moved k (with_tree_lines 1 (Dir []) lines))
  new e f none = begins_with (Ok (trees ++ (record { name = name; tree = Dir [] }) ∷ [])) (begun_new k trees name e f) ∙ block_is k trees name lines none

  -- the tree is one more
  pub added : (t : Value) (more : List NamedTree) → is_tree_name name ≡ true → is_named trees name ≡ false → list_any is_head lines ≡ false
      → with_tree_lines 1 (Dir []) lines ≡ Ok t → more ≡ trees ++ (record { name = name; tree = t }) ∷ [] → wanted ≡ Ok more
  added t more e f none says grown = new e f none ∙ ap (λ r. named trees name (moved k r)) says ∙ ap Ok (sym grown)

  -- a line of it is at fault
  pub faulty : (n why : ℕ) → is_tree_name name ≡ true → is_named trees name ≡ false → list_any is_head lines ≡ false
      → with_tree_lines 1 (Dir []) lines ≡ Err (tree.Line n why) → wanted ≡ Err (Line (k + n) why)
  faulty n why e f none says = new e f none ∙ ap (λ r. named trees name (moved k r)) says

-- a line at fault is one of the lines
pub fault_within : (n why : ℕ) (lines : List (List ℕ)) → with_tree_lines 1 (Dir []) lines ≡ Err (tree.Line n why) → n ≤ length lines
fault_within n why lines e = let lt : n < 1 + length lines = subst (IsBefore (1 + length lines)) e (lines_before (1 + length lines) 1 (Dir []) lines refl) in omega (arith, lt)

-- one tree more
pub tree_more : (trees : List NamedTree) (one : NamedTree) → All (λ (named : NamedTree). IsTree named.tree) trees → IsTree one.tree
    → All (λ (named : NamedTree). IsTree named.tree) (trees ++ one ∷ [])
tree_more [] one all here zero d lt = here
tree_more [] one all here (suc k) d lt = absurd (let bad : suc k < 1 = lt in omega (arith, bad))
tree_more (t ∷ trees) one all here zero d lt = all 0 d (omega arith)
tree_more (t ∷ trees) one all here (suc k) d lt = tree_more trees one (λ j e h. all (suc j) e (omega (arith, h))) here k d (omega (arith, lt))

-- ---- from tree to tree

module _ (left head rest : List ℕ) (block : Block) (n : ℕ) (trees : List NamedTree) (all : Result (List NamedTree) TreesFault)
    (some : 0 < length left) (cut : CutsLine left head rest) (is_block : IsBlock rest block) (next : AreAtHead (text_lines left))
    (so_far : with_lines (n + 1) trees (text_lines left) ≡ all) where
  abbrev one : Result (List NamedTree) TreesFault
  one = and_then (λ more. with_lines ((n + 1) + 1) more (text_lines block.text.now)) (begun (n + 1) trees (head_name head))

  abbrev behind_it : List NamedTree → Result (List NamedTree) TreesFault
  behind_it grown = with_lines (((n + 1) + 1) + length (text_lines block.text.now)) grown (text_lines block.behind.now)

  begins : is_head head ≡ true
  begins = subst AreAtHead (first_line left head rest some cut) next

  splits : all ≡ and_then behind_it one
  splits =
      sym so_far ∙ ap (with_lines (n + 1) trees) (first_line left head rest some cut ∙ ap (λ ls. head ∷ ls) is_block.lines)
      ∙ tree_read (n + 1) trees head (text_lines block.text.now) (text_lines block.behind.now) begins

  -- a tree more
  pub goes_on : (more : List NamedTree) → one ≡ Ok more → with_lines (((n + 1) + block.lines) + 1) more (text_lines block.behind.now) ≡ all
  goes_on more e =
      let count = is_block.count in
      ap (λ k. with_lines k more (text_lines block.behind.now)) (omega (arith, count)) ∙ ap (and_then behind_it) (sym e) ∙ sym splits

  -- a fault
  pub fails : (fault : TreesFault) → IsAnswer one (Err fault) → IsAnswer all (Err fault)
  fails fault e = subst (λ w. IsAnswer w (Err fault)) (sym splits) (fault_stays behind_it one fault e)

-- a text of which no line stands before the first that begins a tree
pub at_start : (text : List ℕ) (block : Block) → IsBlock text block → block.lines ≤ 0 → AreAtHead (text_lines text)
at_start text block is none = step (text_lines block.text.now) (let count = is.count in omega (arith, none, count)) is.lines
  where
    step : (lines : List (List ℕ)) → length lines ≤ 0 → text_lines text ≡ lines ++ text_lines block.behind.now → AreAtHead (text_lines text)
    step [] le e = subst AreAtHead (sym e) is.next
    step (line ∷ lines) le e = absurd (let bad : length (line ∷ lines) ≤ 0 = le in omega (arith, bad))

-- a text of which some lines do
pub no_start : (text : List ℕ) (block : Block) → IsBlock text block → 0 < block.lines → trees_of text ≡ Err (Line 1 4)
no_start text block is some =
    ap (with_lines 1 []) is.lines ∙ no_tree (text_lines block.text.now) (text_lines block.behind.now) (let count = is.count in omega (arith, some, count)) is.none
