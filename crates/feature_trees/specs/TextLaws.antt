-- What holds of the texts of trees: what the tree of a text is, which line is at fault and why, and that a tree's own
-- text is read as the tree, also as the first version of reports has it.
use Rattle.std.specs.Prelude.{◌≡◌, ◌≢◌, ◌⊎◌, ◌↔◌, ◌≤◌, ◌+◌, ℕ, IsTrue, List, [], ◌∷◌, ◌++◌, length, Some, None, Ok}
use Rattle.std.specs.Prelude.{Err, map}
use Rattle.shown_texts.specs.Lines.{lines_text}
use Rattle.feature_trees.specs.declared.read.TheConstants.{MOST_NAMES}
use Rattle.feature_trees.specs.declared.read.TreeFault.TheVariants.{Line}
use Rattle.feature_trees.specs.declared.read.TreeLine.{TreeLine}
use Rattle.feature_trees.specs.declared.value.Value.{Value}
use Rattle.feature_trees.specs.declared.value.Value.TheVariants.{Absent, Reg, Link, Special, Dir}
use Rattle.feature_trees.specs.Readable.{depth, of_bytes}
use Rattle.feature_trees.specs.Sound.{IsTree}
use Rattle.feature_trees.specs.Tree.{at}
use Rattle.feature_trees.specs.TreeLines.{text_lines, line_says, with_lines, tree_of}
use Rattle.feature_trees.specs.TreeText.{tree_lines, tree_text, first_version_line}
use Rattle.feature_trees.specs.View.{IsThere}

-- a value, without the entries of a directory
abbrev pub without_entries : Value → Value
without_entries Absent = Absent
without_entries Reg = Reg
without_entries (Link target) = Link target
without_entries (Special s) = Special s
without_entries (Dir es) = Dir []

-- one of these lines says that this value stands at the path of these names
abbrev pub IsSaid : List (List ℕ) → List (List ℕ) → Value → Type 0
IsSaid [] names value = ⊥
IsSaid (line ∷ lines) names value =
    (line_says line ≡ Some (record { names = names; value = value })) ⊎ IsSaid lines names value

-- at each path but the root stands what a line says, and nothing where no line names it
abbrev pub StandAsSaid : Value → List (List ℕ) → Type 0
StandAsSaid tree lines =
    (names : List (List ℕ)) (value : Value) → names ≢ [] → IsThere value
    → (without_entries (at tree names) ≡ value) ↔ IsSaid lines names value

-- the tree of a text is that of its lines, in whatever order they stand
abbrev pub LinesStand : Type 0
LinesStand = (text : List ℕ) (tree : Value) → tree_of text ≡ Ok tree → IsTree tree × StandAsSaid tree (text_lines text)

-- an earlier line names the path of a line
pub record IsRepeated (before : List (List ℕ)) (line : List ℕ) : Type 0 where
  pub said : TreeLine
  pub says : line_says line ≡ Some said
  pub value : Value
  pub there : IsThere value
  pub earlier : IsSaid before said.names value

-- no earlier line names the path of a line, and its parent is neither the root nor an earlier line's directory
pub record IsOrphan (before : List (List ℕ)) (line : List ℕ) : Type 0 where
  pub said : TreeLine
  pub says : line_says line ≡ Some said
  pub first : (value : Value) → IsThere value → ¬ (IsSaid before said.names value)
  pub parent : List (List ℕ)
  pub name : List ℕ
  pub path : said.names ≡ parent ++ name ∷ []
  pub below : parent ≢ []
  pub alone : ¬ (IsSaid before parent (Dir []))

-- why a line cannot stand behind others: it is not of the form, or repeats a path, or lacks its parent
abbrev pub IsWhy : List (List ℕ) → List ℕ → ℕ → Type 0
IsWhy before line why =
    ((why ≡ 1) × (line_says line ≡ None)) ⊎ (((why ≡ 2) × IsRepeated before line) ⊎ ((why ≡ 3) × IsOrphan before line))

-- the first line of a text that cannot stand behind those before it, which can
pub record IsFirstFault (text : List ℕ) (n why : ℕ) : Type 0 where
  pub before : List (List ℕ)
  pub line : List ℕ
  pub after : List (List ℕ)
  pub lines : text_lines text ≡ before ++ line ∷ after
  pub number : n ≡ length before + 1
  pub tree : Value
  pub stand : with_lines 1 (Dir []) before ≡ Ok tree
  pub is_why : IsWhy before line why

-- a text that is no tree's is refused for its first line at fault
abbrev pub FirstFaults : Type 0
FirstFaults = (text : List ℕ) (n why : ℕ) → tree_of text ≡ Err (Line n why) → IsFirstFault text n why

-- the text of a tree is read as the tree, where no path of it has more than 4,096 names
abbrev pub TreesReadBack : Type 0
TreesReadBack =
    (tree : Value) → IsTree tree → depth tree ≤ MOST_NAMES → IsTrue (of_bytes tree)
    → tree_of (tree_text tree) ≡ Ok tree

-- a line says what it says as the first version of reports has it
abbrev pub FirstVersionSays : Type 0
FirstVersionSays = (line : List ℕ) → line_says (first_version_line line) ≡ line_says line

-- so is the text of its lines as the first version of reports has them
abbrev pub OldTreesReadBack : Type 0
OldTreesReadBack =
    (tree : Value) → IsTree tree → depth tree ≤ MOST_NAMES → IsTrue (of_bytes tree)
    → tree_of (lines_text (map first_version_line (tree_lines tree))) ≡ Ok tree
